-- A name put in among those of an array.
use Rattle.std.proofs.Common.{◌≡◌, ℕ, ◌+◌, ◌-◌, ◌<◌, ◌≤◌, List, [], ◌∷◌, ◌++◌, length, get_or, take, drop, set, sym, ap, ◌∙◌, subst, append_assoc, arith}
use Rattle.std.proofs.Math.Seq.{paste, take-set-lt, take-take}
use Rattle.std.proofs.lemmas.List.{drop-take, length-drop, length-take-le, set_at, take_more}
use Rattle.std.proofs.lemmas.List.Edits.{take-paste}
use Rattle.partials.specs.Tree.{put_at}

-- the first n of an array, with x put in at place i, where those behind it have moved on by one
pub put_in : (xs : List ℕ) (i n x : ℕ) → i ≤ n → n < length xs → take (n + 1) (set (paste xs (i + 1) (drop i xs) (n - i)) i x) ≡ put_at i x (take n xs)
put_in xs i n x h l =
    let ys = paste xs (i + 1) (drop i xs) (n - i) in
    let back = take (n - i) (drop i xs) in
    let m : (i + 1) + (n - i) ≡ n + 1 = omega arith in
    let p : i + (n - i) ≡ n = omega arith in
    let fore : take (n + 1) ys ≡ (take i xs ++ (get_or xs i 0 ∷ [])) ++ back =
    subst (λ k. take k ys ≡ take (i + 1) xs ++ back) m (take-paste xs (i + 1) (drop i xs) (n - i) (omega arith) (omega (arith, length-drop i xs)))
    ∙ ap (λ zs. zs ++ back) (take_more xs i 0 (omega arith)) in
    let written : take (n + 1) (set ys i x) ≡ take i xs ++ (x ∷ back) =
    take-set-lt (n + 1) ys i x (omega arith)
    ∙ (ap (λ zs. set zs i x) (fore ∙ append_assoc (take i xs) (get_or xs i 0 ∷ []) back)
    ∙ set_at (take i xs) (get_or xs i 0) back x i (length-take-le i xs (omega arith))) in
    let front : take i (take n xs) ≡ take i xs = take-take i n xs h in
    let behind : drop i (take n xs) ≡ back = subst (λ k. drop i (take k xs) ≡ back) p (drop-take i (n - i) xs) in
    written ∙ (ap (λ zs. zs ++ (x ∷ back)) (sym front) ∙ ap (λ zs. take i (take n xs) ++ (x ∷ zs)) (sym behind))
