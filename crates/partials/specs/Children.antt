-- What the children of a partial drawing keep, and that every drawing that completes it completes one of them.
use Rattle.std.specs.Prelude.{◌≡◌, ℕ, zero, suc, ◌+◌, ◌<◌, ◌≤◌, Bool, true, false, not, ltb, ◌⊎◌, List, [], ◌∷◌, ◌++◌, length, take, drop, filter, ◌==◌, ◌≢◌, nat_lt, slice_index_or, refl, All}
use Rattle.std.proofs.Common.{sym, ap, subst, ◌∙◌, inl, inr, ⊎_elim, arith, length-append}
use Rattle.std.proofs.lemmas.List.{take-append-drop, length_push, length-take, take_more, take-take, take_at, take_all}
use Rattle.std.proofs.lemmas.List.Elements.{filter-append}
use Rattle.std.proofs.lemmas.List.Elements.{All-push, All-take, All-drop, All-filter, filter_passes, All-from_get_or, All-weaker, All-nil, All-cons, All-head, All-tail}
use Rattle.std.proofs.lemmas.Bool.{cases_Bool, cases_eq, cases_lt, lt-ltb, le-ltb, ltb-true, ltb-false, cond-true, cond-false, not-true, not_from_false, or_parts, or_from, eqb-false, ne_eqb, both_ways, cond_both, and_from, and_parts, eq-eqb, eqb-true}
use Rattle.designs.specs.Grids.{Grid}
use Rattle.designs.specs.Readings.{TwoRows}
use Rattle.designs.specs.Rows.{times, Order, number_order}
use Rattle.designs.proofs.Orders.{order_below, order_from_names, times-append, number_order_order}
use Rattle.partials.specs.Partials.{Partial, PartialOf, nothing_placed, DrawingOf, below, Completes, has, unplaced}
use Rattle.partials.specs.Tree.{put_at, placings, addings, children, is_whole, drawn}
use Rattle.partials.specs.Belows.{below_below, below_all, below_none, below_next, times_here, times_else}

-- some member of a list
abbrev pub Any : {X : Type 0} → (X → Type 0) → List X → Type 0
Any P [] = ⊥
Any P (x ∷ xs) = P x ⊎ Any P xs

times-put : (v i k : ℕ) (xs : List ℕ) → times v (put_at i k xs) ≡ times v (k ∷ xs)
times-put v i k xs =
    let a = times-append v (take i xs) (k ∷ drop i xs) in
    let b = times-append v (take i xs) (drop i xs) in
    let c = ap (times v) (take-append-drop i xs) in
    omega arith

pub length-put : (i k : ℕ) (xs : List ℕ) → length (put_at i k xs) ≡ suc (length xs)
length-put i k xs =
    let a = length-append (take i xs) (k ∷ drop i xs) in
    let b = length-append (take i xs) (drop i xs) in
    let c = ap length (take-append-drop i xs) in
    omega arith

has_none : (v : ℕ) (xs : List ℕ) → has xs v ≡ false → times v xs ≡ 0
has_none v [] h = refl
has_none v (x ∷ xs) h =
    let o = or_parts (x == v) (has xs v) h in
    times_else v x xs (eqb-false x v o.0) ∙ has_none v xs o.1

none_has : (v : ℕ) (xs : List ℕ) → times v xs ≡ 0 → has xs v ≡ false
none_has v [] h = refl
none_has v (x ∷ xs) h =
    ⊎_elim
    (λ e. let no : ⊥ = omega (arith, times_here v x xs e) in absurd no)
    (λ ne. or_from (x == v) (has xs v) (ne_eqb x v ne) (none_has v xs (sym (times_else v x xs ne) ∙ h)))
    (cases_eq x v)

-- the number order names the numbers below n
below_order : (n : ℕ) → All (λ v. v < n) (number_order n)
below_order zero = All-nil (λ v. v < 0)
below_order (suc n) = All-push (λ v. v < suc n) (number_order n) n (All-weaker (λ v. v < n) (λ v. v < suc n) (λ v h. omega arith) (number_order n) (below_order n)) (omega arith)

-- what is at least n is not named by numbers below n
pub none_below : (n v : ℕ) (xs : List ℕ) → All (λ x. x < n) xs → n ≤ v → times v xs ≡ 0
none_below n v [] h l = refl
none_below n v (x ∷ xs) h l = times_else v x xs (λ e. omega (arith, All-head (λ x. x < n) x xs h)) ∙ none_below n v xs (All-tail (λ x. x < n) x xs h) l

-- nothing placed is a partial drawing of every design, and every drawing completes it
pub nothing_partial : (g : Grid) → PartialOf g nothing_placed
nothing_partial g = record { placed = (refl, λ k h. let no : ⊥ = omega arith in absurd no); few = omega arith; early = λ _. refl; named = All-nil (λ v. v < g.rights); once = λ v. omega arith }

pub nothing_completed : (x : TwoRows) → Completes nothing_placed x
nothing_completed x = (below_none x.left, refl)

-- how often a list names what passes a test
times_kept : (p : ℕ → Bool) (v : ℕ) → p v ≡ true → (xs : List ℕ) → times v (filter p xs) ≡ times v xs
times_kept p v h [] = refl
times_kept p v h (x ∷ xs) =
    let r = times_kept p v h xs in
    ⊎_elim
    (λ t. ap (times v) (cond-true (p x) (x ∷ filter p xs) (filter p xs) t) ∙ (omega (arith, r)))
    (λ f.
    let ne : x ≡ v → ⊥ = λ e. both_ways (p v) (subst (λ y. p y ≡ false) e f) h in
    ap (times v) (cond-false (p x) (x ∷ filter p xs) (filter p xs) f) ∙ (r ∙ sym (times_else v x xs ne)))
    (cases_Bool (p x))

all_both : {X : Type 0} (P Q : X → Type 0) (xs : List X) → All P xs → All Q xs → All (λ x. P x × Q x) xs
all_both P Q [] h k = All-nil (λ x. P x × Q x)
all_both P Q (x ∷ xs) h k = All-cons (λ x. P x × Q x) x xs (All-head P x xs h, All-head Q x xs k) (all_both P Q xs (All-tail P x xs h) (All-tail Q x xs k))

-- each unplaced switch is one of the design and not in the prefix, and each such switch is unplaced
abbrev pub Free : Grid → Partial → ℕ → Type 0
Free g p v = (v < g.rights) × (times v p.prefix ≡ 0)

pub all_free : (g : Grid) (p : Partial) → All (Free g p) (unplaced g p)
all_free g p =
    let test : ℕ → Bool = λ v. not (has p.prefix v) in
    let xs = number_order g.rights in
    all_both (λ v. v < g.rights) (λ v. times v p.prefix ≡ 0) (filter test xs)
    (All-filter test (λ v. v < g.rights) xs (below_order g.rights))
    (All-weaker (λ v. test v ≡ true) (λ v. times v p.prefix ≡ 0) (λ v e. has_none v p.prefix (not-true (has p.prefix v) e)) (filter test xs) (filter_passes test xs))

pub free_named : (g : Grid) (p : Partial) (v : ℕ) → v < g.rights → times v p.prefix ≡ 0 → times v (unplaced g p) ≡ 1
free_named g p v l h = times_kept (λ u. not (has p.prefix u)) v (not_from_false (has p.prefix v) (none_has v p.prefix h)) (number_order g.rights) ∙ (number_order_order g.rights).1 v l

pub free_below : (g : Grid) (p : Partial) → All (λ v. v < g.rights) (unplaced g p)
free_below g p = All-weaker (Free g p) (λ v. v < g.rights) (λ v f. f.0) (unplaced g p) (all_free g p)

absent_free : (v : ℕ) (g : Grid) (p : Partial) (xs : List ℕ) → (times v p.prefix ≢ 0) → All (Free g p) xs → times v xs ≡ 0
absent_free v g p [] ne h = refl
absent_free v g p (x ∷ xs) ne h = times_else v x xs (λ e. ne (subst (λ y. times y p.prefix ≡ 0) e (All-head (Free g p) x xs h).1)) ∙ absent_free v g p xs ne (All-tail (Free g p) x xs h)

pub none_unplaced : (g : Grid) (p : Partial) (v : ℕ) → (times v p.prefix ≢ 0) → times v (unplaced g p) ≡ 0
none_unplaced g p v ne = absent_free v g p (unplaced g p) ne (all_free g p)

-- the parts of a list that a test or a place leaves
take_put : (i k : ℕ) (xs : List ℕ) → All (λ a. a < k) xs → below k (put_at i k xs) ≡ xs
take_put i k xs h =
    let left = All-take (λ a. a < k) i xs h in
    let right = All-drop (λ a. a < k) i xs h in
    filter-append (λ a. ltb a k) (take i xs) (k ∷ drop i xs)
    ∙ (ap (λ ys. ys ++ below k (k ∷ drop i xs)) (below_all k (take i xs) left)
    ∙ (ap (λ ys. take i xs ++ ys) (cond-false (nat_lt k k) (k ∷ below k (drop i xs)) (below k (drop i xs)) (le-ltb k k (omega arith)) ∙ below_all k (drop i xs) right)
    ∙ take-append-drop i xs))

pub order_small : (k : ℕ) (xs : List ℕ) → Order k xs → All (λ a. a < k) xs
order_small k xs o = All-from_get_or (λ a. a < k) xs 0 (λ i h. order_below k xs o i (omega (arith, o.0)))

module _ (g : Grid) (p : Partial) (v : PartialOf g p) where
  -- the next left switch, put in at place i
  abbrev pub put : ℕ → Partial
  put i = record { placed = put_at i (length p.placed) p.placed; prefix = [] }

  -- the right switch u, added to the prefix
  abbrev pub add : ℕ → Partial
  add u = record { placed = p.placed; prefix = p.prefix ++ (u ∷ []) }

  small : All (λ a. a < length p.placed) p.placed
  small = order_small (length p.placed) p.placed v.placed

  pub put_valid : (i : ℕ) → length p.placed < g.lefts → PartialOf g (put i)
  put_valid i l =
      let k = length p.placed in
      let n = length-put i k p.placed in
      record {
        placed = (
          refl,
          λ u h. times-put u i k p.placed ∙ ⊎_elim
              (λ e. times_here u k p.placed (sym e) ∙ (omega (arith, none_below k u p.placed small (omega arith))))
              (λ ne. times_else u k p.placed (λ e. ne (sym e)) ∙ v.placed.1 u (omega arith))
              (cases_eq u k),
        );
        few = omega arith;
        early = λ h. refl;
        named = All-nil (λ v. v < g.rights);
        once = λ u. omega arith;
      }

  pub put_up : (i : ℕ) (x : TwoRows) → p.prefix ≡ [] → Completes (put i) x → Completes p x
  put_up i x e c =
      let k = length p.placed in
      let n = length-put i k p.placed in (
        sym (below_below k (length (put i).placed) (omega arith) x.left) ∙ (ap (below k) c.0 ∙ take_put i k p.placed small),
        subst (λ ys. take (length ys) x.right ≡ ys) (sym e) refl,
      )

  pub add_valid : (u : ℕ) → length p.placed ≡ g.lefts → Free g p u → PartialOf g (add u)
  add_valid u l f = record {
    placed = v.placed;
    few = v.few;
    early = λ h. let no : ⊥ = omega arith in absurd no;
    named = All-push (λ w. w < g.rights) p.prefix u v.named f.0;
    once = λ w.
        let a = times-append w p.prefix (u ∷ []) in
        ⊎_elim
        (λ e. let z : times w p.prefix ≡ 0 = subst (λ y. times y p.prefix ≡ 0) e f.1 in omega (arith, times_here w u [] e))
        (λ ne. omega (arith, times_else w u [] ne, v.once w))
        (cases_eq u w);
  }

  pub add_up : (u : ℕ) (x : TwoRows) → Completes (add u) x → Completes p x
  add_up u x c =
      let j = length p.prefix in
      let n = length_push p.prefix u in
      (c.0, sym (take-take j (length (add u).prefix) x.right (omega arith)) ∙ (ap (take j) c.1 ∙ take_at p.prefix (u ∷ []) j refl))

  -- a whole partial drawing is a drawing, and completes itself
  pub drawn_drawing : is_whole g p ≡ true → DrawingOf g (drawn p)
  drawn_drawing whole =
      let a = and_parts (length p.placed == g.lefts) (length p.prefix == g.rights) whole in (
        subst (λ n. Order n p.placed) (eqb-true (length p.placed) g.lefts a.0) v.placed,
        order_from_names g.rights p.prefix (eqb-true (length p.prefix) g.rights a.1) v.named v.once,
      )

  pub drawn_completes : is_whole g p ≡ true → Completes p (drawn p)
  drawn_completes whole = (below_all (length p.placed) p.placed small, take_all (length p.prefix) p.prefix (omega arith))

  all_placings : (P : Partial → Type 0) (i : ℕ) → ((j : ℕ) → j ≤ i → P (put j)) → All P (placings i (length p.placed) p.placed)
  all_placings P zero h = All-cons P (put 0) [] (h 0 (omega arith)) (All-nil P)
  all_placings P (suc i) h = All-cons P (put (suc i)) (placings i (length p.placed) p.placed) (h (suc i) (omega arith)) (all_placings P i (λ j l. h j (omega arith)))

  all_addings : (P : Partial → Type 0) (us : List ℕ) → All (λ u. P (add u)) us → All P (addings p us)
  all_addings P [] h = All-nil P
  all_addings P (u ∷ us) h = All-cons P (add u) (addings p us) (All-head (λ w. P (add w)) u us h) (all_addings P us (All-tail (λ w. P (add w)) u us h))

  -- what holds of each way to go on holds of the children
  pub all_children : (P : Partial → Type 0) → ((i : ℕ) → length p.placed < g.lefts → P (put i)) → ((u : ℕ) → length p.placed ≡ g.lefts → Free g p u → P (add u)) → All P (children g p)
  all_children P h k =
      cond_both (nat_lt (length p.placed) g.lefts) (placings (length p.placed) (length p.placed) p.placed) (addings p (unplaced g p)) (All P)
      (λ e. all_placings P (length p.placed) (λ i _. h i (ltb-true (length p.placed) g.lefts e)))
      (λ e.
      let full : length p.placed ≡ g.lefts = omega (arith, v.few, ltb-false (length p.placed) g.lefts e) in
      all_addings P (unplaced g p) (All-weaker (Free g p) (λ u. P (add u)) (λ u f. k u full f) (unplaced g p) (all_free g p)))

  any_placings : (P : Partial → Type 0) (i j : ℕ) → i ≤ j → P (put i) → Any P (placings j (length p.placed) p.placed)
  any_placings P i zero l h = let e : i ≡ 0 = omega arith in inl (subst (λ n. P (put n)) e h)
  any_placings P i (suc j) l h = ⊎_elim (λ e. inl (subst (λ n. P (put n)) e h)) (λ ne. inr (any_placings P i j (omega arith) h)) (cases_eq i (suc j))

  any_addings : (P : Partial → Type 0) (u : ℕ) (us : List ℕ) → 1 ≤ times u us → P (add u) → Any P (addings p us)
  any_addings P u [] l h = let no : ⊥ = omega arith in absurd no
  any_addings P u (w ∷ us) l h =
      ⊎_elim (λ e. inl (subst (λ n. P (add n)) (sym e) h)) (λ ne. inr (any_addings P u us (omega (arith, times_else u w us ne)) h)) (cases_eq w u)

  -- the drawing goes on with a left switch
  module _ (x : TwoRows) (d : DrawingOf g x) (c : Completes p x) where
    goes_on_left : length p.placed < g.lefts → Any (λ q. Completes q x) (children g p)
    goes_on_left l =
        let k = length p.placed in
        let r = below_next k x.left (d.0.1 k l) in
        let at : below (suc k) x.left ≡ put_at r.0 k p.placed = r.2 ∙ ap (put_at r.0 k) c.0 in
        let found : Completes (put r.0) x = (ap (λ n. below n x.left) (length-put r.0 k p.placed) ∙ at, refl) in
        let inside = any_placings (λ q. Completes q x) r.0 k (omega (arith, r.1, ap length c.0)) found in
        subst (Any (λ q. Completes q x)) (sym (cond-true (nat_lt k g.lefts) (placings k k p.placed) (addings p (unplaced g p)) (lt-ltb k g.lefts l))) inside

    -- or with a right switch
    goes_on_right : length p.placed ≡ g.lefts → (length p.prefix ≢ g.rights) → Any (λ q. Completes q x) (children g p)
    goes_on_right full part =
        let j = length p.prefix in
        let row = x.right in
        let size = length-take j row in
        let inside : j < length row = omega (arith, ap length c.1, d.1.0) in
        let u = slice_index_or row j 0 in
        let more : take (j + 1) row ≡ p.prefix ++ (u ∷ []) = take_more row j 0 inside ∙ ap (λ ys. ys ++ (u ∷ [])) c.1 in
        let small : u < g.rights = order_below g.rights row d.1 j (omega (arith, d.1.0)) in
        let split = ap (times u) (sym (take-append-drop (j + 1) row)) ∙ (times-append u (take (j + 1) row) (drop (j + 1) row) ∙ ap (λ ys. times u ys + times u (drop (j + 1) row)) more) in
        let two = times-append u p.prefix (u ∷ []) in
        let one = times_here u u [] refl in
        let once = d.1.1 u small in
        let none : times u p.prefix ≡ 0 = omega arith in
        let found : Completes (add u) x = (c.0, ap (λ n. take n row) (length_push p.prefix u) ∙ more) in
        let there = any_addings (λ q. Completes q x) u (unplaced g p) (omega (arith, free_named g p u small none)) found in
        subst (Any (λ q. Completes q x)) (sym (cond-false (nat_lt (length p.placed) g.lefts) (placings (length p.placed) (length p.placed) p.placed) (addings p (unplaced g p)) (le-ltb (length p.placed) g.lefts (omega arith)))) there

    pub goes_on : is_whole g p ≡ false → Any (λ q. Completes q x) (children g p)
    goes_on part =
        ⊎_elim goes_on_left
        (λ l.
        let full : length p.placed ≡ g.lefts = omega (arith, v.few) in
        goes_on_right full (λ e. both_ways (is_whole g p) part (and_from (length p.placed == g.lefts) (length p.prefix == g.rights) (eq-eqb (length p.placed) g.lefts full) (eq-eqb (length p.prefix) g.rights e))))
        (cases_lt (length p.placed) g.lefts)

    -- a whole partial drawing is the one drawing that completes it
    pub is_drawn : is_whole g p ≡ true → drawn p ≡ x
    is_drawn whole =
        let a = and_parts (length p.placed == g.lefts) (length p.prefix == g.rights) whole in
        let n = eqb-true (length p.placed) g.lefts a.0 in
        let m = eqb-true (length p.prefix) g.rights a.1 in
        let left : p.placed ≡ x.left = sym c.0 ∙ (ap (λ k. below k x.left) n ∙ below_all g.lefts x.left (order_small g.lefts x.left d.0)) in
        let right : p.prefix ≡ x.right = sym c.1 ∙ take_all (length p.prefix) x.right (omega (arith, d.1.0)) in
        λ i. record { left = left i; right = right i }
