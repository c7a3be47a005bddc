-- Numbers in base ten, as they are written into a line.
use Rattle.std.specs.Prelude.{◌≡◌, ℕ, ◌+◌, ◌/◌, ◌%◌, ◌^◌, ◌<◌, ◌≤◌, List, [], ◌∷◌, ◌++◌, length, decimal, slice_set}
use Rattle.std.proofs.Common.{sym, ap, ◌∙◌, arith, length-append}
use Rattle.std.proofs.lemmas.Fmt.{decimal_digit, decimal_step, decimal_is_IsNumeral, length-decimal-le}
use Rattle.std.proofs.lemmas.Str.Parse.{digit_from_value}
use Rattle.std.specs.Str.Parse.{AllDigits}
use Rattle.measures.specs.Lines.{over}
use Rattle.measures.specs.LinesLemmas.{over_more}
use Rattle.measures.specs.Unbroken.{NoSpace}

pub one_length : (n : ℕ) → n < 10 → length (decimal n) ≡ 1
one_length n h = ap length (decimal_digit n h)

pub one_over : (xs : List ℕ) (at n : ℕ) → n < 10 → slice_set xs at (48 + n) ≡ over xs at (decimal n)
one_over xs at n h = sym (ap (over xs at) (decimal_digit n h))

pub more_length : (n : ℕ) → 10 ≤ n → n < 2 ^ 64 → length (decimal n) ≡ length (decimal (n / 10)) + 1
more_length n h f = ap length (decimal_step n h f) ∙ length-append (decimal (n / 10)) ((48 + n % 10) ∷ [])

pub more_over : (xs : List ℕ) (at n : ℕ) → 10 ≤ n → n < 2 ^ 64 → slice_set (over xs at (decimal (n / 10))) (at + length (decimal (n / 10))) (48 + n % 10) ≡ over xs at (decimal n)
more_over xs at n h f = sym (ap (over xs at) (decimal_step n h f) ∙ over_more xs at (decimal (n / 10)) (48 + n % 10))

pub pair_length : (t r : ℕ) → length (decimal t ++ (47 ∷ decimal r)) ≡ length (decimal t) + (1 + length (decimal r))
pair_length t r = length-append (decimal t) (47 ∷ decimal r) ∙ (omega arith)

pub short_decimal : (n : ℕ) → n < 2 ^ 64 → length (decimal n) ≤ 20
short_decimal n h = length-decimal-le 20 n (omega arith) (omega arith) h

-- digits are no spaces
digits_unbroken : (ds : List ℕ) → AllDigits 10 ds → NoSpace ds
digits_unbroken [] h = tt
digits_unbroken (d ∷ ds) h = (λ e. omega (arith, digit_from_value d h.0), digits_unbroken ds h.1)

pub decimal_unbroken : (n : ℕ) → n < 2 ^ 64 → NoSpace (decimal n)
decimal_unbroken n h = digits_unbroken (decimal n) (decimal_is_IsNumeral n h).0.1

pub unbroken_append : (bs cs : List ℕ) → NoSpace bs → NoSpace cs → NoSpace (bs ++ cs)
unbroken_append [] cs h k = k
unbroken_append (b ∷ bs) cs h k = (h.0, unbroken_append bs cs h.1 k)
