use Rattle.std.proofs.Common.{◌≡◌, ◌≤◌, ◌++◌, length, ap, ◌∙◌, subst, arith}
use Rattle.sessions.specs.Texts.{field, offer_word, Writes}
use Rattle.sessions.proofs.Fields.{two_fields}
use Rattle.sessions.proofs.writing.write_offer.Goals as goal

pub returns : goal.returns
returns g c =
    let old = c.args.line.now in
    let one = c.put_field-at in
    let two = c.put_field in
    let word : c.as_bytes.result.now ≡ offer_word c.args.taken = c.as_bytes.ensures.value ∙ c.offer_word.ensures.word in
    let text : c.as_slice.result.now ≡ g.P.PrintingMeasure.written c.args.cost = c.as_slice.ensures.value ∙ c.write.ensures in
    let room : two.result ≤ length old = omega (arith, one.ensures.next, two.ensures.next, ap length c.as_bytes.ensures.value, c.offer_word.ensures.short, ap length text, g.met.P.PrintingMeasure.short c.args.cost, c.requires) in
    let both = two_fields old one.new.line two.new.line one.result two.result _ _ 32 10 one.ensures.next one.ensures.bytes two.ensures.next two.ensures.bytes room in
    subst (λ t. Writes old two.new.line two.result (field (offer_word c.args.taken) 32 ++ field t 10)) text
    (subst (λ w. Writes old two.new.line two.result (field w 32 ++ field c.as_slice.result.now 10)) word both)
