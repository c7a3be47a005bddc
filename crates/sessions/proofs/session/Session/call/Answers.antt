use Rattle.std.proofs.Common.{rules}
use Rattle.sessions.specs.Sessions.{whole_of}
use Rattle.sessions.proofs.Wholes.{calls_lawfully}
use Rattle.sessions.proofs.session.Session.call.Goals as goal

pub returns-in-Err-clause-law : goal.returns-in-Err-clause-law
returns-in-Err-clause-law c = calls_lawfully (whole_of c.args.self.now) _ c.args.line.now _ _ c.args.script.now c.args.place (search rules) (search rules) (search rules)

pub returns-in-Ok-take_measure-clause-law : goal.returns-in-Ok-take_measure-clause-law
returns-in-Ok-take_measure-clause-law c = calls_lawfully (whole_of c.args.self.now) _ c.args.line.now _ _ c.args.script.now c.args.place (search rules) (search rules) (search rules)

pub returns-in-ByStrands-default-clause-law : goal.returns-in-ByStrands-default-clause-law
returns-in-ByStrands-default-clause-law c = calls_lawfully (whole_of c.args.self.now) _ c.args.line.now _ _ c.args.script.now c.args.place (search rules) (search rules) (search rules)

pub returns-in-ByTrunks-default-clause-law : goal.returns-in-ByTrunks-default-clause-law
returns-in-ByTrunks-default-clause-law c = calls_lawfully (whole_of c.args.self.now) _ c.args.line.now _ _ c.args.script.now c.args.place (search rules) (search rules) (search rules)
