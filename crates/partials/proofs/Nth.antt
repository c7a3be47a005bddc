-- The child behind so many others.
use Rattle.std.proofs.Common.{◌≡◌, ℕ, zero, suc, ◌-◌, ◌<◌, ◌≤◌, Bool, not, List, [], ◌∷◌, ◌++◌, length, get_or, Some, None, filter, refl, ap, ◌∙◌, arith, All}
use Rattle.std.proofs.lemmas.Bool.{cond_both}
use Rattle.std.proofs.lemmas.Bool.Decides.{nat_tests}
use Rattle.designs.specs.Grids.{Grid}
use Rattle.designs.specs.Rows.{times, number_order}
use Rattle.partials.specs.Partials.{Partial, has, unplaced}
use Rattle.partials.specs.Tree.{put_at, placings, addings, nth}
use Rattle.partials.specs.Children.{free_named}
use Rattle.designs.proofs.Orders.{number_order_order}
use Rattle.partials.proofs.Counted.{prefix_and_unplaced}

pub nth_placing : (i at x : ℕ) (xs : List ℕ) → at ≤ i → nth (placings i x xs) at ≡ Some (record { placed = put_at (i - at) x xs; prefix = [] })
nth_placing zero zero x xs h = refl
nth_placing zero (suc at) x xs h = let no : ⊥ = omega arith in absurd no
nth_placing (suc i) zero x xs h = let e : suc i ≡ suc i - 0 = omega arith in ap (λ j. Some (record { placed = put_at j x xs; prefix = [] })) e
nth_placing (suc i) (suc at) x xs h = let e : i - at ≡ suc i - suc at = omega arith in nth_placing i at x xs (omega arith) ∙ ap (λ j. Some (record { placed = put_at j x xs; prefix = [] })) e

pub no_placing : (i at x : ℕ) (xs : List ℕ) → i < at → nth (placings i x xs) at ≡ None
no_placing zero zero x xs h = let no : ⊥ = omega arith in absurd no
no_placing zero (suc at) x xs h = refl
no_placing (suc i) zero x xs h = let no : ⊥ = omega arith in absurd no
no_placing (suc i) (suc at) x xs h = no_placing i at x xs (omega arith)

pub nth_adding : (p : Partial) (us : List ℕ) (at : ℕ) → at < length us → nth (addings p us) at ≡ Some (record { placed = p.placed; prefix = p.prefix ++ (get_or us at 0 ∷ []) })
nth_adding p [] at h = let no : ⊥ = omega arith in absurd no
nth_adding p (u ∷ us) zero h = refl
nth_adding p (u ∷ us) (suc at) h = nth_adding p us at (omega arith)

pub no_adding : (p : Partial) (us : List ℕ) (at : ℕ) → length us ≤ at → nth (addings p us) at ≡ None
no_adding p [] at h = refl
no_adding p (u ∷ us) zero h = let no : ⊥ = omega arith in absurd no
no_adding p (u ∷ us) (suc at) h = no_adding p us at (omega arith)

times-length : (v : ℕ) (xs : List ℕ) → times v xs ≤ length xs
times-length v [] = omega arith
times-length v (x ∷ xs) = let r = times-length v xs in grind (arith, nat_tests)

-- numbers below 24, none twice and one of those left out: fewer than 24
pub room : (p : Partial) → All (λ u. u < 24) p.prefix → ((u : ℕ) → times u p.prefix ≤ 1) → (v : ℕ) → v < 24 → times v p.prefix ≡ 0 → length p.prefix < 24
room p named once v l none =
    let g : Grid = record { lefts = 0; rights = 24; cells = record { strands = []; classes = [] } } in
    let all = prefix_and_unplaced g p named once in
    let one = free_named g p v l none in
    let few = times-length v (unplaced g p) in
    omega arith

-- no more are unplaced than there are
fewer_kept : (t : ℕ → Bool) (xs : List ℕ) → length (filter t xs) ≤ length xs
fewer_kept t [] = omega arith
fewer_kept t (x ∷ xs) = let r = fewer_kept t xs in cond_both (t x) (x ∷ filter t xs) (filter t xs) (λ ys. length ys ≤ suc (length xs)) (λ _. omega arith) (λ _. omega arith)

pub few_named : (t : ℕ → Bool) (n : ℕ) → length (filter t (number_order n)) ≤ n
few_named t n = omega (arith, fewer_kept t (number_order n), (number_order_order n).0)

pub few_unplaced : (g : Grid) (p : Partial) → length (unplaced g p) ≤ g.rights
few_unplaced g p = few_named (λ v. not (has p.prefix v)) g.rights
