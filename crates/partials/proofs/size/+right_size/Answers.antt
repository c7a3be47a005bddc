use Rattle.std.proofs.Common.{◌+◌, ◌-◌, ◌*◌, ◌<◌, ap, ◌∙◌, arith}
use Rattle.partials.specs.Sizes.{right_size, unless_above}
use Rattle.partials.proofs.Capped.{right_step, level_none, level_more}
use Rattle.partials.proofs.size.+right_size.Goals as goal

pub returns-in_err-below : goal.returns-in_err-below
returns-in_err-below t c =
    let j = c.args.unplaced in
    let p : 0 < j = omega arith in
    rw c.from_residual.ensures (level_none j (right_size (j - 1)) (right_size j) p (right_step j p) c.in_err-below.ensures)

pub returns : goal.returns
returns t c =
    let j = c.args.unplaced in
    let p : 0 < j = omega arith in
    c.unless_above.ensures ∙ (ap (λ f. unless_above (f * (1 + c.in_ok-below.below))) c.from.ensures
    ∙ level_more j (right_size (j - 1)) (right_size j) p (right_step j p) c.in_ok-below.below c.in_ok-below.ensures)
