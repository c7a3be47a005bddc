use Rattle.std.proofs.Common.{rules}
use Rattle.sessions.proofs.Lawful.{goes_on_lawfully}
use Rattle.sessions.proofs.measured.MeasuredSession.call.Goals as goal

pub returns-in-Ok-clause-law : goal.returns-in-Ok-clause-law
returns-in-Ok-clause-law g c = goes_on_lawfully g.M.Amount.Amount.kind g.met.M.Amount.Amount.lawful g.M.Measure.priced (g.R.BoundingRule.answered c.args.self.now.rule) (g.met.R.BoundingRule.bounds c.args.self.now.rule) _ _ _ c.args.script.now c.args.place c.args.room (search rules) (search rules)

pub returns-in-Err-clause-law : goal.returns-in-Err-clause-law
returns-in-Err-clause-law g c = goes_on_lawfully g.M.Amount.Amount.kind g.met.M.Amount.Amount.lawful g.M.Measure.priced (g.R.BoundingRule.answered c.args.self.now.rule) (g.met.R.BoundingRule.bounds c.args.self.now.rule) _ _ _ c.args.script.now c.args.place c.args.room (search rules) (search rules)
