use Rattle.std.proofs.Common.{rules}
use Rattle.walks.proofs.Moving.{ran}
use Rattle.walks.proofs.walk.Search.run_on.Goals as goal

pub returns : goal.returns
returns g c = record { ran = ran g.met.M.Amount.Amount.lawful _ (g.met.R.BoundingRule.bounds c.args.rule.now) _ _ _ _ (search rules) (search rules) }
