-- The text of a row.
use Rattle.std.proofs.Common.{◌≡◌, ℕ, ◌+◌, ◌<◌, ◌≤◌, List, [], ◌∷◌, ◌++◌, length, get_or, drop, decimal, sym, ap, subst, ◌∙◌, All, arith}
use Rattle.std.proofs.lemmas.List.{drop_more, append_assoc}
use Rattle.std.proofs.lemmas.Fmt.{length-decimal-le}
use Rattle.std.proofs.lemmas.List.Elements.{All-head, All-tail, All-get_or}
use Rattle.designs.proofs.Drawn.{row_length}
use Rattle.designs.specs.Readings.{row_of}
use Rattle.designs.specs.declared.row.Row.{Row}
use Rattle.sessions.specs.Texts.{more_switches}

-- a switch has at most two figures
pub two_figures : (s : ℕ) → s < 24 → length (decimal s) ≤ 2
two_figures s h = length-decimal-le 2 s (omega arith) (omega (arith, h)) (omega (arith, h))

-- a text with the next switch of a row behind it
pub switch_more : (text row whole : List ℕ) (i : ℕ) → i < length row → text ++ more_switches (drop i row) ≡ whole
    → ((text ++ (44 ∷ [])) ++ decimal (get_or row i 0)) ++ more_switches (drop (i + 1) row) ≡ whole
switch_more text row whole i l e =
    let s = decimal (get_or row i 0) in
    let rest = more_switches (drop (i + 1) row) in
    append_assoc (text ++ (44 ∷ [])) s rest ∙ (append_assoc text (44 ∷ []) (s ++ rest) ∙ (sym (ap (λ xs. text ++ more_switches xs) (drop_more row i 0 l)) ∙ e))

-- what fits of a row of at most 24 switches, taken apart
pub record Fits_in (x : ℕ) (xs : List ℕ) : Type 0 where
  pub first : length (decimal x) ≤ 2
  pub others : length xs ≤ 23
  pub each : (i : ℕ) → i < length xs → length (decimal (get_or xs i 0)) ≤ 2

pub fits_in : (r : Row) (x : ℕ) (xs : List ℕ) → row_of r ≡ x ∷ xs → All (λ a. a < 24) (row_of r) → Fits_in x xs
fits_in r x xs e a =
    let small = subst (All (λ a. a < 24)) e a in
    let long = ap length e in
    let rest = All-tail (λ a. a < 24) x xs small in
    record {
      first = two_figures x (All-head (λ a. a < 24) x xs small);
      others = omega (arith, row_length r, r.size.within.1, long);
      each = λ i l. two_figures (get_or xs i 0) (All-get_or (λ a. a < 24) xs i 0 l rest);
    }
