-- Bytes written into a line.
use Rattle.std.specs.Prelude.{ℕ, ◌+◌, List, [], ◌∷◌, slice_set}

-- xs with bs written over it from at on
abbrev pub over : List ℕ → ℕ → List ℕ → List ℕ
over xs at [] = xs
over xs at (b ∷ bs) = over (slice_set xs at b) (at + 1) bs
