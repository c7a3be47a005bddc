-- Orders of switches: how often each is named, what the tests of a row decide, and the number order.
use Rattle.std.proofs.Common.{◌≡◌, ℕ, zero, suc, ◌+◌, ◌-◌, ◌<◌, ◌≤◌, Bool, true, false, cond, eqb, ltb, List, [], ◌∷◌, ◌++◌, length, get_or, take, drop, replicate, Decides, sym, refl, ◌∙◌, subst, inl, inr, arith}
use Rattle.std.specs.List.{All, list_all, list_any, range_with_len}
use Rattle.std.proofs.lemmas.List.Elements.{All-nil, All-cons, All-head, All-tail, All-get_or, All-from_get_or}
use Rattle.std.proofs.lemmas.List.{length-append, length-replicate, length-drop, length-take-le, length_push, get_or-drop, get_or-take, get_or-append_right, get_or-replicate, take_at}
use Rattle.std.proofs.lemmas.Bool.{cases_eq}
use Rattle.std.proofs.lemmas.List.FromFn.{length-range_with_len, get_or-range_with_len}
use Rattle.std.proofs.lemmas.Bool.Decides.{nat_tests, same_from_decides, Decides-eqb, Decides-and, Decides-like, Decides-below_and, Decides-by_and}
use Rattle.designs.specs.Rows.{times, Order, RowBytes, each_once, all_255, is_row, number_order}

-- how often the switches below n are named
abbrev named : ℕ → List ℕ → ℕ
named zero xs = 0
named (suc n) xs = times n xs + named n xs

named_none : (n : ℕ) → named n [] ≡ 0
named_none zero = refl
named_none (suc n) = omega (arith, named_none n)

-- a name counts once if it is below n, and else not
named-cons : (n x : ℕ) (xs : List ℕ) → named n (x ∷ xs) ≡ cond (ltb x n) 1 0 + named n xs
named-cons zero x xs = grind (arith, nat_tests)
named-cons (suc n) x xs = let h = named-cons n x xs in grind (arith, nat_tests)

named_le_length : (n : ℕ) (xs : List ℕ) → named n xs ≤ length xs
named_le_length n [] = omega (arith, named_none n)
named_le_length n (x ∷ xs) =
    let h = named_le_length n xs in
    let e = named-cons n x xs in
    grind (arith, nat_tests)

-- where all names count, all are below n
all_below : (n : ℕ) (xs : List ℕ) → named n xs ≡ length xs → All (λ x. x < n) xs
all_below n [] e = All-nil (λ x. x < n)
all_below n (x ∷ xs) e =
    let h = named_le_length n xs in
    let s = named-cons n x xs in
    All-cons (λ x. x < n) x xs (grind (arith, nat_tests)) (all_below n xs (grind (arith, nat_tests)))

named_once : (n : ℕ) (xs : List ℕ) → ((k : ℕ) → k < n → times k xs ≡ 1) → named n xs ≡ n
named_once zero xs h = refl
named_once (suc n) xs h = omega (arith, h n (omega arith), named_once n xs (λ k l. h k (omega arith)))

-- the names of an order are below its length
pub order_below : (n : ℕ) (xs : List ℕ) → Order n xs → (k : ℕ) → k < n → get_or xs k 0 < n
order_below n xs o k l =
    let e : named n xs ≡ length xs = omega (arith, named_once n xs o.1, o.0) in
    All-get_or (λ x. x < n) xs k 0 (omega (arith, o.0)) (all_below n xs e)

named_some : (n : ℕ) (xs : List ℕ) → ((k : ℕ) → k < n → 1 ≤ times k xs) → n ≤ named n xs
named_some zero xs h = omega arith
named_some (suc n) xs h = omega (arith, h n (omega arith), named_some n xs (λ k l. h k (omega arith)))

named_tight : (n : ℕ) (xs : List ℕ) → ((k : ℕ) → k < n → 1 ≤ times k xs) → named n xs ≤ n → (k : ℕ) → k < n → times k xs ≡ 1
named_tight zero xs h t k l = absurd (omega arith)
named_tight (suc n) xs h t k l =
    let here : 1 ≤ times n xs = h n (omega arith) in
    let less : (j : ℕ) → j < n → 1 ≤ times j xs = λ j m. h j (omega arith) in
    let rest : n ≤ named n xs = named_some n xs less in
    elim (cases_eq k n) [ inl e ↦ rw e (omega arith) | inr e ↦ named_tight n xs less (omega arith) k (omega arith) ]

-- of n names that name each switch below n, each is there once
pub once_from_some : (n : ℕ) (xs : List ℕ) → length xs ≡ n → ((k : ℕ) → k < n → 1 ≤ times k xs) → (k : ℕ) → k < n → times k xs ≡ 1
once_from_some n xs e h = named_tight n xs h (omega (arith, named_le_length n xs))

named_all : (n : ℕ) (xs : List ℕ) → All (λ x. x < n) xs → named n xs ≡ length xs
named_all n [] h = named_none n
named_all n (x ∷ xs) h =
    let r = named_all n xs (All-tail (λ x. x < n) x xs h) in
    let e = named-cons n x xs in
    let l = All-head (λ x. x < n) x xs h in
    grind (arith, nat_tests)

named_few : (n : ℕ) (xs : List ℕ) → ((k : ℕ) → times k xs ≤ 1) → named n xs ≤ n
named_few zero xs h = omega arith
named_few (suc n) xs h = omega (arith, h n, named_few n xs h)

named_full : (n : ℕ) (xs : List ℕ) → ((k : ℕ) → times k xs ≤ 1) → named n xs ≡ n → (k : ℕ) → k < n → times k xs ≡ 1
named_full zero xs h e k l = absurd (omega arith)
named_full (suc n) xs h e k l =
    let f = named_few n xs h in
    let o = h n in
    elim (cases_eq k n) [
      | inl q ↦ let t : times n xs ≡ 1 = omega arith in subst (λ j. times j xs ≡ 1) (sym q) t
      | inr q ↦ named_full n xs h (omega arith) k (omega arith)
    ]

-- n names below n, none of them twice, are an order
pub order_from_names : (n : ℕ) (xs : List ℕ) → length xs ≡ n → All (λ x. x < n) xs → ((k : ℕ) → times k xs ≤ 1) → Order n xs
order_from_names n xs e a h = (e, named_full n xs h (named_all n xs a ∙ e))

-- where each number below n is named once, and no other, there are n names
pub length_from_once : (n : ℕ) (xs : List ℕ) → All (λ x. x < n) xs → ((k : ℕ) → k < n → times k xs ≡ 1) → length xs ≡ n
length_from_once n xs a h = sym (named_all n xs a) ∙ named_once n xs h

-- what the tests of a row decide
pub decides_each_once : (n : ℕ) (xs : List ℕ) → Decides (each_once n xs) ((k : ℕ) → k < n → times k xs ≡ 1)
decides_each_once n xs =
    Decides-below_and (λ k. eqb (times k xs) 1) (λ k. times k xs ≡ 1) (λ m. each_once m xs) (λ k. Decides-eqb (times k xs) 1) refl (λ _. refl) n

decides_any : (k : ℕ) (xs : List ℕ) → Decides (list_any (λ y. eqb y k) xs) (1 ≤ times k xs)
decides_any k [] = (λ e. absurd (no e), λ h. absurd (omega arith)) where
  no : false ≡ true → ⊥
  no e = cc
decides_any k (y ∷ ys) = let h = decides_any k ys in grind (arith, nat_tests)

-- where each switch below the length is among the names, each is there once
pub all_named : (xs : List ℕ) → list_all (λ k. list_any (λ y. eqb y k) xs) (range_with_len 0 (length xs)) ≡ each_once (length xs) xs
all_named xs =
    let n = length xs in
    let test : ℕ → Bool = λ k. list_any (λ y. eqb y k) xs in
    let range = range_with_len 0 n in
    let nth : (k : ℕ) → k < n → get_or range k 0 ≡ k = λ k l. get_or-range_with_len 0 n k 0 l ∙ omega arith in
    let each : Decides (list_all test range) (All (λ k. 1 ≤ times k xs) range) = Decides-by_and test (λ k. 1 ≤ times k xs) (list_all test) (λ k. decides_any k xs) refl (λ _ _. refl) range in
    same_from_decides (list_all test range) (each_once n xs)
    (Decides-like (list_all test range)
    (λ a. once_from_some n xs refl (λ k l. rw (nth k l) at (All-get_or (λ j. 1 ≤ times j xs) range k 0 (rw length-range_with_len l) a)))
    (λ h. All-from_get_or (λ j. 1 ≤ times j xs) range 0 (λ k l. let m : k < n = rw length-range_with_len at l in rw (nth k m) (omega (arith, h k m))))
    each)
    (decides_each_once n xs)

decides_all_255 : (bs : List ℕ) → Decides (all_255 bs) (All (λ b. b ≡ 255) bs)
decides_all_255 bs =
    Decides-by_and (λ b. eqb b 255) (λ b. b ≡ 255) all_255 (λ b. Decides-eqb b 255) refl (λ _ _. refl) bs

filled_from_all : (n : ℕ) (bs : List ℕ) → length bs ≡ 24 → All (λ b. b ≡ 255) (drop n bs) → (k : ℕ) → n ≤ k → k < 24 → get_or bs k 0 ≡ 255
filled_from_all n bs e a k l m =
    let i : n + (k - n) ≡ k = omega arith in
    let v = All-get_or (λ b. b ≡ 255) (drop n bs) (k - n) 0 (simp length-drop (omega arith)) a in
    rw (get_or-drop, i) at v

all_from_filled : (n : ℕ) (bs : List ℕ) → length bs ≡ 24 → ((k : ℕ) → n ≤ k → k < 24 → get_or bs k 0 ≡ 255) → All (λ b. b ≡ 255) (drop n bs)
all_from_filled n bs e h =
    All-from_get_or (λ b. b ≡ 255) (drop n bs) 0 (λ i l. rw get_or-drop (h (n + i) (omega arith) (omega (arith, length-drop n bs))))

pub decides_row : (n : ℕ) (bs : List ℕ) → n ≤ 24 → length bs ≡ 24 → Decides (is_row n bs) (RowBytes n bs)
decides_row n bs l e =
    Decides-like (is_row n bs)
    (λ p. (e, (length-take-le n bs (omega arith), p.0), filled_from_all n bs e p.1))
    (λ q. (q.1.1, all_from_filled n bs e q.2))
    (Decides-and (each_once n (take n bs)) (all_255 (drop n bs)) (decides_each_once n (take n bs)) (decides_all_255 (drop n bs)))

-- the number order
length-number_order : (n : ℕ) → length (number_order n) ≡ n
length-number_order zero = refl
length-number_order (suc n) = length_push (number_order n) n ∙ omega (arith, length-number_order n)

pub times-append : (k : ℕ) (xs ys : List ℕ) → times k (xs ++ ys) ≡ times k xs + times k ys
times-append k [] ys = omega arith
times-append k (x ∷ xs) ys = omega (arith, times-append k xs ys)

times-number_order : (k n : ℕ) → times k (number_order n) ≡ cond (ltb k n) 1 0
times-number_order k zero = grind (arith, nat_tests)
times-number_order k (suc n) =
    let e = times-append k (number_order n) (n ∷ []) in
    let h = times-number_order k n in
    grind (arith, nat_tests)

pub number_order_order : (n : ℕ) → Order n (number_order n)
number_order_order n = (length-number_order n, λ k l. let e = times-number_order k n in grind (arith, nat_tests))

pub take-number_order : (n m : ℕ) → take n (number_order n ++ replicate m 255) ≡ number_order n
take-number_order n m = take_at (number_order n) (replicate m 255) n (length-number_order n)

pub number_order_row : (n : ℕ) → n ≤ 24 → RowBytes n (number_order n ++ replicate (24 - n) 255)
number_order_row n l =
    let e = length-number_order n in (
      simp (length-append, length-replicate) (omega arith),
      rw take-number_order (number_order_order n),
      λ k h m. get_or-append_right (number_order n) (replicate (24 - n) 255) n k 0 e h ∙ get_or-replicate (24 - n) (k - n) 255 0 (omega arith),
    )

-- the switches of a row are below its size
pub row_below : (n : ℕ) (bs : List ℕ) → RowBytes n bs → (k : ℕ) → k < n → get_or bs k 0 < n
row_below n bs r k l = rw (get_or-take n bs k 0 l) at (order_below n (take n bs) r.1 k l)
