use Rattle.std.proofs.Common.{rules}
use Rattle.walks.proofs.Moving.{always_true}
use Rattle.walks.proofs.walk.Search.report_with.Goals as goal

pub returns-clause-truth : goal.returns-clause-truth
returns-clause-truth g c = always_true g.met.M.Amount.Amount.lawful c.args.self.now _ (search rules)
