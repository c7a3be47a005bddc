use Rattle.std.proofs.Common.{◌+◌, ◌-◌, ◌*◌, ◌<◌, ap, ◌∙◌, arith}
use Rattle.partials.specs.Sizes.{left_size, unless_above}
use Rattle.partials.proofs.Capped.{left_step, level_none, level_more}
use Rattle.partials.proofs.size.+left_size.Goals as goal

pub returns-in_err-below : goal.returns-in_err-below
returns-in_err-below t c =
    let d = c.args.unplaced in
    let k = c.args.placed in
    let m = c.args.rights in
    let p : 0 < d = omega arith in
    rw c.from_residual.ensures (level_none (k + 1) (left_size m (k + 1) (d - 1)) (left_size m k d) (omega arith) (left_step m k d p) c.in_err-below.ensures)

pub returns : goal.returns
returns t c =
    let d = c.args.unplaced in
    let k = c.args.placed in
    let m = c.args.rights in
    let p : 0 < d = omega arith in
    c.unless_above.ensures ∙ (ap (λ f. unless_above ((f + 1) * (1 + c.in_ok-below.below))) c.from.ensures
    ∙ level_more (k + 1) (left_size m (k + 1) (d - 1)) (left_size m k d) (omega arith) (left_step m k d p) c.in_ok-below.below c.in_ok-below.ensures)
