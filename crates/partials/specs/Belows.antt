-- The switches of a row that are below a number.
use Rattle.std.specs.Prelude.{◌≡◌, ℕ, suc, ◌+◌, ◌<◌, ◌≤◌, Bool, true, false, List, [], ◌∷◌, length, filter, ◌≢◌, nat_lt, refl, All}
use Rattle.std.proofs.Common.{sym, ap, ◌∙◌, ⊎_elim, arith}
use Rattle.std.proofs.lemmas.Bool.{cases_Bool, cases_order, lt-ltb, le-ltb, ltb-true, cond-true, cond-false}
use Rattle.std.proofs.lemmas.List.Elements.{All-head, All-tail}
use Rattle.std.proofs.lemmas.Bool.Decides.{nat_tests}
use Rattle.designs.specs.Rows.{times}
use Rattle.partials.specs.Partials.{below}
use Rattle.partials.specs.Tree.{put_at}

-- a member that passes, and one that does not
kept_yes : (p : ℕ → Bool) (x : ℕ) (xs : List ℕ) → p x ≡ true → filter p (x ∷ xs) ≡ x ∷ filter p xs
kept_yes p x xs e = cond-true (p x) (x ∷ filter p xs) (filter p xs) e

kept_no : (p : ℕ → Bool) (x : ℕ) (xs : List ℕ) → p x ≡ false → filter p (x ∷ xs) ≡ filter p xs
kept_no p x xs e = cond-false (p x) (x ∷ filter p xs) (filter p xs) e

-- a second test that asks no more than the first
pub kept_kept : (p q : ℕ → Bool) → ((x : ℕ) → p x ≡ true → q x ≡ true) → (xs : List ℕ) → filter p (filter q xs) ≡ filter p xs
kept_kept p q h [] = refl
kept_kept p q h (x ∷ xs) =
    let r = kept_kept p q h xs in
    ⊎_elim
    (λ t. ap (filter p) (kept_yes q x xs (h x t)) ∙ (kept_yes p x (filter q xs) t ∙ (ap (λ ys. x ∷ ys) r ∙ sym (kept_yes p x xs t))))
    (λ f. ⊎_elim
    (λ t. ap (filter p) (kept_yes q x xs t) ∙ (kept_no p x (filter q xs) f ∙ (r ∙ sym (kept_no p x xs f))))
    (λ u. ap (filter p) (kept_no q x xs u) ∙ (r ∙ sym (kept_no p x xs f)))
    (cases_Bool (q x)))
    (cases_Bool (p x))

pub kept_all : (p : ℕ → Bool) (xs : List ℕ) → All (λ x. p x ≡ true) xs → filter p xs ≡ xs
kept_all p [] h = refl
kept_all p (x ∷ xs) h =
    let P : ℕ → Type 0 = λ y. p y ≡ true in
    kept_yes p x xs (All-head P x xs h) ∙ ap (λ ys. x ∷ ys) (kept_all p xs (All-tail P x xs h))

pub below_below : (k m : ℕ) → k ≤ m → (xs : List ℕ) → below k (below m xs) ≡ below k xs
below_below k m h xs = kept_kept (λ a. nat_lt a k) (λ a. nat_lt a m) (λ x e. lt-ltb x m (omega (arith, ltb-true x k e))) xs

pub below_all : (k : ℕ) (xs : List ℕ) → All (λ a. a < k) xs → below k xs ≡ xs
below_all k [] h = refl
below_all k (x ∷ xs) h =
    let P : ℕ → Type 0 = λ a. a < k in
    kept_yes (λ a. nat_lt a k) x xs (lt-ltb x k (All-head P x xs h)) ∙ ap (λ ys. x ∷ ys) (below_all k xs (All-tail P x xs h))

pub below_none : (xs : List ℕ) → below 0 xs ≡ []
below_none [] = refl
below_none (x ∷ xs) = kept_no (λ a. nat_lt a 0) x xs (le-ltb x 0 (omega arith)) ∙ below_none xs

pub times_here : (k x : ℕ) (xs : List ℕ) → x ≡ k → times k (x ∷ xs) ≡ 1 + times k xs
times_here k x xs e = grind (arith, nat_tests)

pub times_else : (k x : ℕ) (xs : List ℕ) → (x ≢ k) → times k (x ∷ xs) ≡ times k xs
times_else k x xs e = grind (arith, nat_tests)

-- where k is not named, one switch more is none more
below_absent : (k : ℕ) (xs : List ℕ) → times k xs ≡ 0 → below (suc k) xs ≡ below k xs
below_absent k [] h = refl
below_absent k (x ∷ xs) h =
    ⊎_elim
    (λ e. let no : ⊥ = omega (arith, times_here k x xs e) in absurd no)
    (⊎_elim
    (λ l. let r = below_absent k xs (omega (arith, times_else k x xs (λ e. omega arith))) in
    kept_yes (λ a. nat_lt a (suc k)) x xs (lt-ltb x (suc k) (omega arith)) ∙ (ap (λ ys. x ∷ ys) r ∙ sym (kept_yes (λ a. nat_lt a k) x xs (lt-ltb x k l))))
    (λ l. let r = below_absent k xs (omega (arith, times_else k x xs (λ e. omega arith))) in
    kept_no (λ a. nat_lt a (suc k)) x xs (le-ltb x (suc k) l) ∙ (r ∙ sym (kept_no (λ a. nat_lt a k) x xs (le-ltb x k (omega arith))))))
    (cases_order x k)

-- where k is named once, it stands at some place among those below it
pub below_next : (k : ℕ) (xs : List ℕ) → times k xs ≡ 1 → (i : ℕ) × (i ≤ length (below k xs)) × (below (suc k) xs ≡ put_at i k (below k xs))
below_next k [] h = let no : ⊥ = omega arith in absurd no
below_next k (x ∷ xs) h =
    ⊎_elim
    (λ e.
    let none : times k xs ≡ 0 = omega (arith, times_here k x xs e) in
    let skip = kept_no (λ a. nat_lt a k) x xs (le-ltb x k (omega arith)) in (
      0,
      omega arith,
      kept_yes (λ a. nat_lt a (suc k)) x xs (lt-ltb x (suc k) (omega arith))
          ∙ (ap (λ ys. x ∷ ys) (below_absent k xs none ∙ sym skip) ∙ ap (λ y. y ∷ below k (x ∷ xs)) e),
    ))
    (⊎_elim
    (λ l.
    let r = below_next k xs (omega (arith, times_else k x xs (λ e. omega arith))) in
    let keep = kept_yes (λ a. nat_lt a k) x xs (lt-ltb x k l) in (
      suc r.0,
      omega (arith, r.1, ap length keep),
      kept_yes (λ a. nat_lt a (suc k)) x xs (lt-ltb x (suc k) (omega arith))
          ∙ (ap (λ ys. x ∷ ys) r.2 ∙ sym (ap (put_at (suc r.0) k) keep)),
    ))
    (λ l.
    let r = below_next k xs (omega (arith, times_else k x xs (λ e. omega arith))) in
    let skip = kept_no (λ a. nat_lt a k) x xs (le-ltb x k (omega arith)) in (
      r.0,
      omega (arith, r.1, ap length skip),
      kept_no (λ a. nat_lt a (suc k)) x xs (le-ltb x (suc k) l) ∙ (r.2 ∙ sym (ap (put_at r.0 k) skip)),
    )))
    (cases_order x k)
