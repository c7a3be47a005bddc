use Rattle.sessions.specs.declared.measured.Condition.TheVariants.{Filling, Searching}
use Rattle.std.proofs.Common.{rules, ap}
use Rattle.sessions.proofs.Kept.{kept, kept_whole}
use Rattle.sessions.proofs.Wrong.{wrong_searching, wrong_filling}
use Rattle.sessions.proofs.measured.MeasuredSession.carry_out.Goals as goal

pub returns-in-Searching-D-clause-refused : goal.returns-in-Searching-D-clause-refused
returns-in-Searching-D-clause-refused g c = kept_whole c.args.self.now _ _ _ c.in-Searching-D.is-0 c.begin_design-in-Searching-D.ensures.refused

pub returns-in-Searching-S-clause-refused : goal.returns-in-Searching-S-clause-refused
returns-in-Searching-S-clause-refused g c = kept c.args.self.now _ Searching _ _ c.in-Searching-S.is-0 c.run_search.ensures.refused

pub returns-in-Searching-O-clause-refused : goal.returns-in-Searching-O-clause-refused
returns-in-Searching-O-clause-refused g c = kept c.args.self.now _ Searching _ _ c.in-Searching-O.is-0 c.offer_drawing.ensures.refused

pub returns-in-Filling-L-clause-refused : goal.returns-in-Filling-L-clause-refused
returns-in-Filling-L-clause-refused g c = kept c.args.self.now _ Filling _ _ c.in-Filling-L.is-0 c.put_link.ensures.refused

pub returns-in-Searching-default-clause-told : goal.returns-in-Searching-default-clause-told
returns-in-Searching-default-clause-told g c = ap (λ r. r.event) (wrong_searching g.M.Amount.Amount.kind g.M.Measure.priced (g.R.BoundingRule.answered c.args.self.now.rule) c.args.self.now.condition c.args.letter c.args.place c.args.operands.now _ (search rules) (search rules) (search rules) (search rules) c.in-Searching-default.is-0)

pub returns-in-Searching-default-clause-stage : goal.returns-in-Searching-default-clause-stage
returns-in-Searching-default-clause-stage g c = ap (λ r. r.stage) (wrong_searching g.M.Amount.Amount.kind g.M.Measure.priced (g.R.BoundingRule.answered c.args.self.now.rule) c.args.self.now.condition c.args.letter c.args.place c.args.operands.now _ (search rules) (search rules) (search rules) (search rules) c.in-Searching-default.is-0)

pub returns-in-Filling-default-clause-told : goal.returns-in-Filling-default-clause-told
returns-in-Filling-default-clause-told g c = ap (λ r. r.event) (wrong_filling g.M.Amount.Amount.kind g.M.Measure.priced (g.R.BoundingRule.answered c.args.self.now.rule) c.args.self.now.condition c.args.letter c.args.place c.args.operands.now _ (search rules) (search rules) c.in-Filling-default.is-0)

pub returns-in-Filling-default-clause-stage : goal.returns-in-Filling-default-clause-stage
returns-in-Filling-default-clause-stage g c = ap (λ r. r.stage) (wrong_filling g.M.Amount.Amount.kind g.M.Measure.priced (g.R.BoundingRule.answered c.args.self.now.rule) c.args.self.now.condition c.args.letter c.args.place c.args.operands.now _ (search rules) (search rules) c.in-Filling-default.is-0)
