-- Bytes without a space.
use Rattle.std.specs.Prelude.{ℕ, List, [], ◌∷◌, ◌≢◌}

-- none of the bytes is a space
abbrev pub NoSpace : List ℕ → Type 0
NoSpace [] = Unit {0}
NoSpace (b ∷ bs) = (b ≢ 32) × NoSpace bs
