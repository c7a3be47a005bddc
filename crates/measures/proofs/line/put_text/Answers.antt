use Rattle.std.proofs.Common.{rules, ◌≡◌, ◌+◌, ◌-◌, length, arith, ap, sym, ◌∙◌}
use borrow.Rule.Slice.PartMut.{put_mid}
use Rattle.measures.specs.LinesLemmas.{over_middle}
use Rattle.measures.proofs.line.put_text.Goals as goal

pub returns-clause-bytes : goal.returns-clause-bytes
returns-clause-bytes c =
    let line = c.args.line.now in
    let text = c.args.text.now in
    let at = c.args.at in
    let long : at + length text - at ≡ length text = omega arith in
    let copied : c.copy_from_slice.new.self ≡ text = search rules in
    ap (λ k. put_mid at k line c.copy_from_slice.new.self) long ∙ (ap (put_mid at (length text) line) copied ∙ sym (over_middle line at text (omega arith)))
