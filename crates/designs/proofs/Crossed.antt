-- Two links that cross are counted once.
use Rattle.std.proofs.Common.{◌≡◌, ℕ, ◌+◌, ◌*◌, Bool, true, false, cond, ◌&&◌, ◌||◌, eqb, ltb, List, [], ◌∷◌, ◌++◌, map, filter, refl, ap, ◌∙◌, mul-add, arith}
use Rattle.std.specs.List.{flat_map}
use Rattle.std.proofs.lemmas.Bool.{and_parts, and_from, cases_Bool}
use Rattle.std.proofs.lemmas.Bool.Decides.{nat_tests}
use Rattle.designs.specs.Rows.{times, Order, place, before}
use Rattle.designs.specs.Crossings.{Ends, pairs, meetings, linked_both, crossings, same_ends, listed, LinkOf, CountedOnce, SharersNeverCross}
use Rattle.designs.specs.declared.cell.Cell.{Cell}

-- how often a list has the pair a, c
abbrev ordered : ℕ → ℕ → List (ℕ × ℕ) → ℕ
ordered a c [] = 0
ordered a c (x ∷ xs) = cond (eqb x.0 a && eqb x.1 c) 1 0 + ordered a c xs

ordered-append : (a c : ℕ) (xs ys : List (ℕ × ℕ)) → ordered a c (xs ++ ys) ≡ ordered a c xs + ordered a c ys
ordered-append a c [] ys = omega arith
ordered-append a c (x ∷ xs) ys = omega (arith, ordered-append a c xs ys)

ordered_first : (a c x : ℕ) (ys : List ℕ) → ordered a c (map (λ y. (x, y)) ys) ≡ cond (eqb x a) (times c ys) 0
ordered_first a c x [] = grind (arith, nat_tests)
ordered_first a c x (y ∷ ys) = let e = ordered_first a c x ys in grind (arith, nat_tests)

ordered-cons : (a c x : ℕ) (xs : List ℕ) → ordered a c (pairs (x ∷ xs)) ≡ cond (eqb x a) (times c xs) 0 + ordered a c (pairs xs)
ordered-cons a c x xs = ordered-append a c (map (λ y. (x, y)) xs) (pairs xs) ∙ ap (λ n. n + ordered a c (pairs xs)) (ordered_first a c x xs)

-- a number that a list lacks is in none of its pairs
ordered_none_first : (a c : ℕ) (xs : List ℕ) → times a xs ≡ 0 → ordered a c (pairs xs) ≡ 0
ordered_none_first a c [] h = refl
ordered_none_first a c (x ∷ xs) h =
    let e = ordered-cons a c x xs in
    let r = ordered_none_first a c xs (omega arith) in
    grind (arith, nat_tests)

ordered_none_second : (a c : ℕ) (xs : List ℕ) → times c xs ≡ 0 → ordered a c (pairs xs) ≡ 0
ordered_none_second a c [] h = refl
ordered_none_second a c (x ∷ xs) h =
    let e = ordered-cons a c x xs in
    let z : times c xs ≡ 0 = omega arith in
    let r = ordered_none_second a c xs z in
    grind (arith, nat_tests)

-- of two numbers that a list has once each, the pair stands in it once or not, by which is the earlier
ordered_once : (a c : ℕ) (xs : List ℕ) → times a xs ≡ 1 → times c xs ≡ 1 → ordered a c (pairs xs) ≡ cond (before xs a c) 1 0
ordered_once a c [] h k = omega arith
ordered_once a c (x ∷ xs) h k =
    let e = ordered-cons a c x xs in
    let f = ordered_none_first a c xs in
    let s = ordered_none_second a c xs in
    let r = ordered_once a c xs in
    grind (arith, nat_tests)

listed-append : (p q : Ends) (xs ys : List (Ends × Ends)) → listed p q (xs ++ ys) ≡ listed p q xs + listed p q ys
listed-append p q [] ys = omega arith
listed-append p q (x ∷ xs) ys = omega (arith, listed-append p q xs ys)

ends_same : (p q : Ends) → same_ends p q ≡ true → p ≡ q
ends_same p q h =
    let l : p.left ≡ q.left = grind (arith, nat_tests) in
    let r : p.right ≡ q.right = grind (arith, nat_tests) in
    λ i. record { left = l i; right = r i }

-- a filter that passes p, q keeps it as often as it is listed
listed_kept : (p q : Ends) (t : Ends × Ends → Bool) → t (p, q) ≡ true → (xs : List (Ends × Ends)) → listed p q (filter t xs) ≡ listed p q xs
listed_kept p q t h [] = refl
listed_kept p q t h (x ∷ xs) =
    let here : Bool = same_ends x.0 p && same_ends x.1 q in
    let passes : here ≡ true → t x ≡ true = λ e. let f = and_parts (same_ends x.0 p) (same_ends x.1 q) e in ap t (λ i. (ends_same x.0 p f.0 i, ends_same x.1 q f.1 i)) ∙ h in
    let rest = listed_kept p q t h xs in
    let either = cases_Bool (t x) in
    grind (arith, nat_tests)

listed_meetings : (p q : Ends) (uv : ℕ × ℕ) (ps : List (ℕ × ℕ)) → listed p q (map (λ ac. (record { left = ac.0; right = uv.1 }, record { left = ac.1; right = uv.0 })) ps)
    ≡ cond (eqb uv.0 q.right && eqb uv.1 p.right) (ordered p.left q.left ps) 0
listed_meetings p q uv [] = grind (arith, nat_tests)
listed_meetings p q uv (ac ∷ ps) = let e = listed_meetings p q uv ps in grind (arith, nat_tests)

cond_times : (t : Bool) (n : ℕ) → cond t n 0 ≡ n * cond t 1 0
cond_times true n = omega arith
cond_times false n = omega arith

-- p, q meets once for each time that its left ends are a pair of the left row and its right ends one of the right
listed_joined : (p q : Ends) (left : List ℕ) (ps : List (ℕ × ℕ)) → listed p q (flat_map (meetings left) ps) ≡ ordered p.left q.left (pairs left) * ordered q.right p.right ps
listed_joined p q left [] = omega arith
listed_joined p q left (uv ∷ ps) =
    let n : ℕ = ordered p.left q.left (pairs left) in
    let here : ℕ = cond (eqb uv.0 q.right && eqb uv.1 p.right) 1 0 in
    omega (
      arith,
      listed-append p q (meetings left uv) (flat_map (meetings left) ps),
      listed_meetings p q uv (pairs left),
      cond_times (eqb uv.0 q.right && eqb uv.1 p.right) n,
      listed_joined p q left ps,
      mul-add n here (ordered q.right p.right ps),
    )

pub sharers_never_cross : (left right : List ℕ) → SharersNeverCross left right
sharers_never_cross left right p q =
    (λ e. let f = ap (place left) e in grind (arith, nat_tests), λ e. let f = ap (place right) e in grind (arith, nat_tests))

-- of a before c and c before a one holds at most
crossed_once : (a c u v : ℕ) → cond (ltb a c) 1 0 * cond (ltb v u) 1 0 + cond (ltb c a) 1 0 * cond (ltb u v) 1 0 ≡ cond ((ltb a c && ltb v u) || (ltb c a && ltb u v)) 1 0
crossed_once a c u v = grind (arith, nat_tests)

listed_crossings : (cell : ℕ → ℕ → Cell) (n m : ℕ) (left right : List ℕ) → Order n left → Order m right → (p q : Ends) → LinkOf cell left right p → LinkOf cell left right q
    → listed p q (crossings cell left right) ≡ cond (before left p.left q.left) 1 0 * cond (before right q.right p.right) 1 0
listed_crossings cell n m left right l r p q h k =
    let on-left = ordered_once p.left q.left left (l.1 p.left (omega arith)) (l.1 q.left (omega arith)) in
    let on-right = ordered_once q.right p.right right (r.1 q.right (omega arith)) (r.1 p.right (omega arith)) in
    listed_kept p q (linked_both cell) (and_from _ _ h.2 k.2) (flat_map (meetings left) (pairs right))
    ∙ listed_joined p q left (pairs right) ∙ (cc)

pub counted_once : (cell : ℕ → ℕ → Cell) (n m : ℕ) (left right : List ℕ) → Order n left → Order m right → CountedOnce cell left right
counted_once cell n m left right l r p q h k =
    let once = listed_crossings cell n m left right l r in
    omega (arith, once p q h k, once q p k h, crossed_once (place left p.left) (place left q.left) (place right p.right) (place right q.right))
