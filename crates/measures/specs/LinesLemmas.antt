-- Bytes written one after another into a line.
use Rattle.std.specs.Prelude.{◌≡◌, ℕ, zero, suc, ◌+◌, ◌≤◌, List, [], ◌∷◌, ◌++◌, length, take, drop, slice_set, refl}
use Rattle.std.proofs.Common.{ap, ◌∙◌, arith, length-set}
use Rattle.measures.specs.Lines.{over}

pub over_more : (xs : List ℕ) (at : ℕ) (ds : List ℕ) (b : ℕ) → over xs at (ds ++ (b ∷ [])) ≡ slice_set (over xs at ds) (at + length ds) b
over_more xs at [] b = let e : at ≡ at + 0 = omega arith in ap (λ i. slice_set xs i b) e
over_more xs at (a ∷ ds) b =
    let e : (at + 1) + length ds ≡ at + length (a ∷ ds) = omega arith in
    over_more (slice_set xs at a) (at + 1) ds b ∙ ap (λ i. slice_set (over (slice_set xs at a) (at + 1) ds) i b) e

pub over-append : (xs : List ℕ) (at : ℕ) (as' bs : List ℕ) → over xs at (as' ++ bs) ≡ over (over xs at as') (at + length as') bs
over-append xs at [] bs = let e : at ≡ at + 0 = omega arith in ap (λ i. over xs i bs) e
over-append xs at (a ∷ ds) bs =
    let e : (at + 1) + length ds ≡ at + length (a ∷ ds) = omega arith in
    over-append (slice_set xs at a) (at + 1) ds bs ∙ ap (λ i. over (over (slice_set xs at a) (at + 1) ds) i bs) e

pub over-length : (xs : List ℕ) (at : ℕ) (bs : List ℕ) → length (over xs at bs) ≡ length xs
over-length xs at [] = refl
over-length xs at (b ∷ bs) = over-length (slice_set xs at b) (at + 1) bs ∙ length-set xs at b

-- behind the first member of a line
over_behind : (x : ℕ) (xs : List ℕ) (at : ℕ) (bs : List ℕ) → over (x ∷ xs) (suc at) bs ≡ x ∷ over xs at bs
over_behind x xs at [] = refl
over_behind x xs at (b ∷ bs) = let e : suc at + 1 ≡ suc (at + 1) = omega arith in ap (λ i. over (x ∷ slice_set xs at b) i bs) e ∙ over_behind x (slice_set xs at b) (at + 1) bs

-- what is written from the start stands first, and the rest is as it was
pub over_start : (xs bs : List ℕ) → length bs ≤ length xs → over xs 0 bs ≡ bs ++ drop (length bs) xs
over_start xs [] h = refl
over_start [] (b ∷ bs) h = let no : ⊥ = omega arith in absurd no
over_start (x ∷ xs) (b ∷ bs) h = over_behind b xs 0 bs ∙ ap (λ ys. b ∷ ys) (over_start xs bs (omega arith))

-- what is written from a place on stands there, and the rest is as it was
pub over_middle : (xs : List ℕ) (at : ℕ) (bs : List ℕ) → at + length bs ≤ length xs → over xs at bs ≡ take at xs ++ (bs ++ drop (length bs) (drop at xs))
over_middle xs zero bs h = over_start xs bs (omega arith)
over_middle [] (suc at) bs h = let no : ⊥ = omega arith in absurd no
over_middle (x ∷ xs) (suc at) bs h = over_behind x xs at bs ∙ ap (λ ys. x ∷ ys) (over_middle xs at bs (omega arith))
