-- Amounts that a passed function answers for the members of a list.
use Rattle.std.specs.Prelude.{◌≡◌, ℕ, List, All}

-- at each member x a call answers f x
abbrev pub Gives : {A : Type 0} → (ℕ → A → Type 0) → (ℕ → A) → List ℕ → Type 0
Gives post f xs = All (λ x. (r : _) → post x r → r ≡ f x) xs

-- at each two members x and y a call answers f x y
abbrev pub GivesTwo : {A : Type 0} → (ℕ → ℕ → A → Type 0) → (ℕ → ℕ → A) → List ℕ → Type 0
GivesTwo post f xs = All (λ x. Gives (post x) (f x) xs) xs
