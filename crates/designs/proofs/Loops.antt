-- A loop that joins amounts: what it has, joined with what is left, stays the whole.
use Rattle.std.proofs.Common.{◌≡◌, ℕ, List, ◌∷◌, drop, All}
use Rattle.std.proofs.lemmas.List.Elements.{All-head, All-tail, All-weaker}
use Rattle.measures.specs.Amounts.{Kind}

-- F is a join over a list. After i members the loop has `sum`.
abbrev pub Stays : {A : Type 0} → Kind A → (List ℕ → A) → List ℕ → ℕ → A → Type 0
Stays K F xs i sum = K.join sum (F (drop i xs)) ≡ F xs

-- what holds of each two members holds without the first
pub two_tail : (P : ℕ → ℕ → Type 0) (x : ℕ) (xs : List ℕ) → All (λ y. All (P y) (x ∷ xs)) (x ∷ xs) → All (λ y. All (P y) xs) xs
two_tail P x xs h = All-weaker (λ y. All (P y) (x ∷ xs)) (λ y. All (P y) xs) (λ y k. All-tail (P y) x xs k) xs (All-tail (λ y. All (P y) (x ∷ xs)) x xs h)

-- and of the first with each other
pub two_head : (P : ℕ → ℕ → Type 0) (x : ℕ) (xs : List ℕ) → All (λ y. All (P y) (x ∷ xs)) (x ∷ xs) → All (P x) xs
two_head P x xs h = All-tail (P x) x xs (All-head (λ y. All (P y) (x ∷ xs)) x xs h)
