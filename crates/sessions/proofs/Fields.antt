-- Fields put into a line one after another.
use Rattle.std.proofs.lemmas.List.{length-append}
use Rattle.std.proofs.Common.{◌≡◌, ℕ, ◌+◌, ◌≤◌, List, [], ◌∷◌, ◌++◌, length, sym, ap, ◌∙◌, arith, refl}
use Rattle.measures.specs.Lines.{over}
use Rattle.measures.specs.LinesLemmas.{over-append, over_start}
use Rattle.sessions.specs.Texts.{field, Writes}

length_field : (text : List ℕ) (end : ℕ) → length (field text end) ≡ length text + 1
length_field text end = omega (arith, length-append text (end ∷ []))

-- a field put behind what was put from the start of a line
field_over : (old one two : List ℕ) (at : ℕ) (done text : List ℕ) (end : ℕ) → one ≡ over old 0 done → at ≡ length done
    → two ≡ over (over one at text) (at + length text) (end ∷ []) → two ≡ over old 0 (done ++ field text end)
field_over old one two at done text end f e g =
    let z : length done ≡ 0 + length done = omega arith in
    g ∙ (sym (over-append one at text (end ∷ [])) ∙ (ap (λ l. over l at (field text end)) f ∙ (ap (λ i. over (over old 0 done) i (field text end)) (e ∙ z)
    ∙ sym (over-append old 0 done (field text end)))))

-- two fields put into a line are what it begins with
pub two_fields : (old one two : List ℕ) (at next : ℕ) (word text : List ℕ) (mid end : ℕ) → at ≡ 0 + length word + 1 → one ≡ over (over old 0 word) (0 + length word) (mid ∷ [])
    → next ≡ at + length text + 1 → two ≡ over (over one at text) (at + length text) (end ∷ []) → next ≤ length old → Writes old two next (field word mid ++ field text end)
two_fields old one two at next word text mid end e f g h room =
    let first : at ≡ length (field word mid) = omega (arith, e, length_field word mid) in
    let all : two ≡ over old 0 (field word mid ++ field text end) = field_over old one two at (field word mid) text end (field_over old old one 0 [] word mid refl refl f) first h in
    let long : next ≡ length (field word mid ++ field text end) = omega (arith, e, g, length-append (field word mid) (field text end), length_field word mid, length_field text end) in
    record { wrote = long; bytes = all ∙ over_start old (field word mid ++ field text end) (omega (arith, long, room)) }
