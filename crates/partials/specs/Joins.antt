-- Joins over lists: more members, greater members, another order of the members.
use Rattle.std.specs.Prelude.{◌≡◌, ℕ, ◌+◌, ◌≤◌, Bool, List, [], ◌∷◌, ◌++◌, filter, refl}
use Rattle.std.proofs.Common.{sym, ap, subst, ◌∙◌, ⊎_elim, arith}
use Rattle.std.proofs.lemmas.Bool.{cond_both, cases_eq}
use Rattle.measures.specs.Amounts.{Kind, Lawful, AtMost}
use Rattle.designs.specs.Costs.{over_each, over_two}
use Rattle.designs.specs.Rows.{times}
use Rattle.partials.specs.Rules.{over_settled}
use Rattle.partials.specs.Belows.{times_here, times_else}
use Rattle.designs.proofs.Orders.{times-append}
use Rattle.partials.specs.Levels.{at_most_itself}

-- two lists that name the same numbers equally often
abbrev pub Alike : List ℕ → List ℕ → Type 0
Alike xs ys = (v : ℕ) → times v xs ≡ times v ys

-- where a number stands in a list that names it
pub record Found (x : ℕ) (ys : List ℕ) : Type 0 where
  pub front : List ℕ
  pub back : List ℕ
  pub at : ys ≡ front ++ (x ∷ back)

pub find : (x : ℕ) (ys : List ℕ) → 1 ≤ times x ys → Found x ys
find x [] h = let no : ⊥ = omega arith in absurd no
find x (y ∷ ys) h = ⊎_elim
    (λ e. record { front = []; back = ys; at = ap (λ z. z ∷ ys) e })
    (λ ne. let r = find x ys (omega (arith, times_else x y ys ne)) in record { front = y ∷ r.front; back = r.back; at = ap (λ zs. y ∷ zs) r.at })
    (cases_eq y x)

-- a member taken out of the middle
taken_out : (x : ℕ) (a b : List ℕ) (v : ℕ) → times v (a ++ (x ∷ b)) ≡ times v (x ∷ (a ++ b))
taken_out x a b v = let p = times-append v a (x ∷ b) in let q = times-append v a b in omega arith

pub alike_rest : (x : ℕ) (xs a b : List ℕ) → Alike (x ∷ xs) (a ++ (x ∷ b)) → Alike xs (a ++ b)
alike_rest x xs a b h v = let e = h v in let t = taken_out x a b v in omega arith

pub alike_none : (ys : List ℕ) → Alike [] ys → ys ≡ []
alike_none [] h = refl
alike_none (y ∷ ys) h = let no : ⊥ = omega (arith, h y, times_here y y ys refl) in absurd no

pub alike_first : (x : ℕ) (xs ys : List ℕ) → Alike (x ∷ xs) ys → 1 ≤ times x ys
alike_first x xs ys h = omega (arith, h x, times_here x x xs refl)

module _ {A : Type 0} (K : Kind A) (laws : Lawful K) where
  pub join_zero : (x : A) → K.join x K.zero ≡ x
  join_zero x = laws.comm x K.zero ∙ laws.unit x

  pub join_both : (a b c d : A) → AtMost K a b → AtMost K c d → AtMost K (K.join a c) (K.join b d)
  join_both a b c d h k =
      let right : AtMost K (K.join b c) (K.join b d) = subst (λ z. AtMost K z (K.join b d)) (laws.comm c b) (subst (AtMost K (K.join c b)) (laws.comm d b) (laws.mono c d b k)) in
      laws.trans _ _ _ (laws.mono a b c h) right

  pub join_left : (a b : A) → AtMost K a (K.join a b)
  join_left a b = subst (λ z. AtMost K z (K.join a b)) (join_zero a) (join_both a a K.zero b (at_most_itself K laws a) (laws.least b))

  pub join_right : (a b : A) → AtMost K b (K.join a b)
  join_right a b = subst (AtMost K b) (laws.comm b a) (join_left b a)

  -- a join of joins, the middle parts exchanged
  pub join_cross : (a b c d : A) → K.join (K.join a b) (K.join c d) ≡ K.join (K.join a c) (K.join b d)
  join_cross a b c d =
      laws.assoc a b (K.join c d)
      ∙ (ap (K.join a) (sym (laws.assoc b c d) ∙ (ap (λ z. K.join z d) (laws.comm b c) ∙ laws.assoc c b d))
      ∙ sym (laws.assoc a c (K.join b d)))

  pub each_under : (f h : ℕ → A) → ((v : ℕ) → AtMost K (f v) (h v)) → (xs : List ℕ) → AtMost K (over_each K f xs) (over_each K h xs)
  each_under f h u [] = at_most_itself K laws K.zero
  each_under f h u (x ∷ xs) = join_both _ _ _ _ (u x) (each_under f h u xs)

  pub two_under : (f h : ℕ → ℕ → A) → ((u v : ℕ) → AtMost K (f u v) (h u v)) → (xs : List ℕ) → AtMost K (over_two K f xs) (over_two K h xs)
  two_under f h u [] = at_most_itself K laws K.zero
  two_under f h u (x ∷ xs) = join_both _ _ _ _ (each_under (f x) (h x) (u x) xs) (two_under f h u xs)

  pub settled_under : (f h : ℕ → ℕ → A) → ((u v : ℕ) → AtMost K (f u v) (h u v)) → (xs ys : List ℕ) → AtMost K (over_settled K f xs ys) (over_settled K h xs ys)
  settled_under f h u [] ys = at_most_itself K laws K.zero
  settled_under f h u (x ∷ xs) ys = join_both _ _ _ _ (each_under (f x) (h x) (u x) (xs ++ ys)) (settled_under f h u xs ys)

  -- leaving out members makes a join no greater
  pub each_fewer : (f : ℕ → A) (t : ℕ → Bool) (xs : List ℕ) → AtMost K (over_each K f (filter t xs)) (over_each K f xs)
  each_fewer f t [] = at_most_itself K laws K.zero
  each_fewer f t (x ∷ xs) = cond_both (t x) (x ∷ filter t xs) (filter t xs) (λ ys. AtMost K (over_each K f ys) (over_each K f (x ∷ xs)))
      (λ _. join_both _ _ _ _ (at_most_itself K laws (f x)) (each_fewer f t xs))
      (λ _. laws.trans _ _ _ (each_fewer f t xs) (join_right (f x) (over_each K f xs)))

  pub two_fewer : (f : ℕ → ℕ → A) (t : ℕ → Bool) (xs : List ℕ) → AtMost K (over_two K f (filter t xs)) (over_two K f xs)
  two_fewer f t [] = at_most_itself K laws K.zero
  two_fewer f t (x ∷ xs) = cond_both (t x) (x ∷ filter t xs) (filter t xs) (λ ys. AtMost K (over_two K f ys) (over_two K f (x ∷ xs)))
      (λ _. join_both _ _ _ _ (each_fewer (f x) t xs) (two_fewer f t xs))
      (λ _. laws.trans _ _ _ (two_fewer f t xs) (join_right (over_each K (f x) xs) (over_two K f xs)))

  -- a list in two parts
  pub each_append : (f : ℕ → A) (xs ys : List ℕ) → over_each K f (xs ++ ys) ≡ K.join (over_each K f xs) (over_each K f ys)
  each_append f [] ys = sym (laws.unit (over_each K f ys))
  each_append f (x ∷ xs) ys = ap (K.join (f x)) (each_append f xs ys) ∙ sym (laws.assoc (f x) (over_each K f xs) (over_each K f ys))

  pub two_append : (f : ℕ → ℕ → A) (xs ys : List ℕ) → over_two K f (xs ++ ys) ≡ K.join (over_settled K f xs ys) (over_two K f ys)
  two_append f [] ys = sym (laws.unit (over_two K f ys))
  two_append f (x ∷ xs) ys = ap (K.join (over_each K (f x) (xs ++ ys))) (two_append f xs ys) ∙ sym (laws.assoc (over_each K (f x) (xs ++ ys)) (over_settled K f xs ys) (over_two K f ys))

  -- a member taken out of the middle
  each_out : (f : ℕ → A) (x : ℕ) (a b : List ℕ) → over_each K f (a ++ (x ∷ b)) ≡ K.join (f x) (over_each K f (a ++ b))
  each_out f x [] b = refl
  each_out f x (y ∷ a) b =
      ap (K.join (f y)) (each_out f x a b)
      ∙ (sym (laws.assoc (f y) (f x) (over_each K f (a ++ b))) ∙ (ap (λ z. K.join z (over_each K f (a ++ b))) (laws.comm (f y) (f x)) ∙ laws.assoc (f x) (f y) (over_each K f (a ++ b))))

  -- a join over the members is the same in every order
  pub each_alike : (f : ℕ → A) (xs ys : List ℕ) → Alike xs ys → over_each K f xs ≡ over_each K f ys
  each_alike f [] ys h = ap (over_each K f) (sym (alike_none ys h))
  each_alike f (x ∷ xs) ys h =
      let r = find x ys (alike_first x xs ys h) in
      let same = subst (Alike (x ∷ xs)) r.at h in
      ap (K.join (f x)) (each_alike f xs (r.front ++ r.back) (alike_rest x xs r.front r.back same))
      ∙ (sym (each_out f x r.front r.back) ∙ ap (over_each K f) (sym r.at))

  pub settled_alike : (f : ℕ → ℕ → A) (us xs ys : List ℕ) → Alike xs ys → over_settled K f us xs ≡ over_settled K f us ys
  settled_alike f [] xs ys h = refl
  settled_alike f (u ∷ us) xs ys h =
      let both : Alike (us ++ xs) (us ++ ys) = λ v. times-append v us xs ∙ (ap (λ n. times v us + n) (h v) ∙ sym (times-append v us ys)) in
      ap (λ z. K.join z (over_settled K f us xs)) (each_alike (f u) (us ++ xs) (us ++ ys) both) ∙ ap (K.join (over_each K (f u) (us ++ ys))) (settled_alike f us xs ys h)

  -- the pairs of a member in the middle with all others, and the other pairs
  two_out : (s : ℕ → ℕ → A) (y : ℕ) (a b : List ℕ) → over_two K s (a ++ (y ∷ b)) ≡ K.join (K.join (over_each K (λ u. s u y) a) (over_each K (s y) b)) (over_two K s (a ++ b))
  two_out s y [] b = ap (λ z. K.join z (over_two K s b)) (sym (laws.unit (over_each K (s y) b)))
  two_out s y (x ∷ a) b =
      let here = each_out (s x) y a b in
      let rest = two_out s y a b in
      ap (λ z. K.join z (over_two K s (a ++ (y ∷ b)))) here
      ∙ (ap (K.join (K.join (s x y) (over_each K (s x) (a ++ b)))) rest
      ∙ (join_cross (s x y) (over_each K (s x) (a ++ b)) (K.join (over_each K (λ u. s u y) a) (over_each K (s y) b)) (over_two K s (a ++ b))
      ∙ ap (λ z. K.join z (K.join (over_each K (s x) (a ++ b)) (over_two K s (a ++ b)))) (sym (laws.assoc (s x y) (over_each K (λ u. s u y) a) (over_each K (s y) b)))))

  -- what is at most f either way round, over one order, is at most f over any other
  pub two_alike_under : (s f : ℕ → ℕ → A) → ((u v : ℕ) → AtMost K (s u v) (f u v)) → ((u v : ℕ) → AtMost K (s u v) (f v u)) → (ys xs : List ℕ) → Alike ys xs → AtMost K (over_two K s xs) (over_two K f ys)
  two_alike_under s f h k [] xs e = subst (λ zs. AtMost K (over_two K s zs) K.zero) (sym (alike_none xs e)) (at_most_itself K laws K.zero)
  two_alike_under s f h k (y ∷ ys) xs e =
      let r = find y xs (alike_first y ys xs e) in
      let same = alike_rest y ys r.front r.back (subst (Alike (y ∷ ys)) r.at e) in
      let pairs : AtMost K (K.join (over_each K (λ u. s u y) r.front) (over_each K (s y) r.back)) (over_each K (f y) ys) =
      subst (AtMost K (K.join (over_each K (λ u. s u y) r.front) (over_each K (s y) r.back))) (sym (each_append (f y) r.front r.back) ∙ sym (each_alike (f y) ys (r.front ++ r.back) same))
      (join_both _ _ _ _ (each_under (λ u. s u y) (f y) (λ u. k u y) r.front) (each_under (s y) (f y) (λ v. h y v) r.back)) in
      subst (λ z. AtMost K z (over_two K f (y ∷ ys))) (sym (ap (over_two K s) r.at ∙ two_out s y r.front r.back))
      (join_both _ _ _ _ pairs (two_alike_under s f h k ys (r.front ++ r.back) same))
