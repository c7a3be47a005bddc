use Rattle.std.proofs.Common.{rules}
use Rattle.walks.proofs.Moving.{weighed}
use Rattle.walks.proofs.walk.Search.weigh.Goals as goal

pub returns : goal.returns
returns g c = record { weighed = weighed g.met.M.Amount.Amount.lawful _ _ _ _ (search rules) (search rules) (search rules) }
