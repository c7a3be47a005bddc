use Rattle.std.proofs.Common.{rules, arith, ◌≤◌, ◌+◌, ◌∷◌, [], length, decimal, get_or, drop, ◌≡◌, ◌++◌, sym, ap, ◌∙◌, append-nil}
use Rattle.std.proofs.lemmas.List.{length-append, drop_all}
use Rattle.sessions.specs.Texts.{more_switches}
use Rattle.sessions.proofs.Switches.{Fits_in, fits_in, switch_more}
use Rattle.sessions.proofs.writing.row_text.Goals as goal

pub loop-switch-init : goal.loop-switch-init
loop-switch-init c =
    let f : Fits_in c.in-Some.first.now c.in-Some.others.now = fits_in c.args.row.now _ _ (search rules) (search rules) in
    record {
      text = search rules;
      short = omega (arith, f.first, ap length c.push_str.ensures.bytes, length-append c.new-text.result.bytes c.format.result.now, ap length c.new-text.ensures, ap length c.format.ensures.text);
    }

pub push_str-requires-in-loop-switch : goal.push_str-requires-in-loop-switch
push_str-requires-in-loop-switch c =
    let f : Fits_in c.in-Some.first.now c.in-Some.others.now = fits_in c.args.row.now _ _ (search rules) (search rules) in
    let room : length c.loop-switch.text.bytes + 1 ≤ 71 = omega (arith, f.others, c.loop-switch.invariant.short, c.loop-switch-test.true) in
    (omega arith, room)

pub push_str-requires-in-loop-switch-2 : goal.push_str-requires-in-loop-switch-2
push_str-requires-in-loop-switch-2 c =
    let f : Fits_in c.in-Some.first.now c.in-Some.others.now = fits_in c.args.row.now _ _ (search rules) (search rules) in
    let i = c.loop-switch.switch-index in
    let room : length c.push_str-in-loop-switch.new.self.bytes + length c.format-in-loop-switch.result.now ≤ 71 = omega (
      arith,
      f.others,
      f.each i c.loop-switch-test.true,
      c.loop-switch.invariant.short,
      c.loop-switch-test.true,
      ap length c.push_str-in-loop-switch.ensures.bytes,
      length-append c.loop-switch.text.bytes (44 ∷ []),
      ap length c.format-in-loop-switch.ensures.text,
    ) in
    (omega arith, room)

pub loop-switch-preserved : goal.loop-switch-preserved
loop-switch-preserved c =
    let f : Fits_in c.in-Some.first.now c.in-Some.others.now = fits_in c.args.row.now _ _ (search rules) (search rules) in
    let i = c.loop-switch.switch-index in
    let s = decimal (get_or c.in-Some.others.now i 0) in
    let now : c.push_str-in-loop-switch-2.new.self.bytes ≡ c.loop-switch.text.bytes ++ (44 ∷ []) ++ s = search rules in
    record {
      text = ap (λ t. t ++ more_switches (drop (i + 1) c.in-Some.others.now)) now ∙ switch_more c.loop-switch.text.bytes c.in-Some.others.now _ i c.loop-switch-test.true c.loop-switch.invariant.text;
      short = omega (arith, f.each i c.loop-switch-test.true, c.loop-switch.invariant.short, ap length now, length-append (c.loop-switch.text.bytes ++ (44 ∷ [])) s, length-append c.loop-switch.text.bytes (44 ∷ []));
    }

pub returns-after-loop-switch : goal.returns-after-loop-switch
returns-after-loop-switch c =
    let t = c.loop-switch.text.bytes in
    let all = drop_all c.loop-switch.switch-index c.in-Some.others.now (omega (arith, c.loop-switch-test.false)) in
    sym (append-nil t) ∙ (ap (λ xs. t ++ more_switches xs) (sym all) ∙ c.loop-switch.invariant.text)
