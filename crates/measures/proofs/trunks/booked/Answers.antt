use Rattle.std.proofs.Common.{◌≡◌, ◌-◌, cond, sym, ap, ◌∙◌, arith}
use Rattle.measures.specs.Pairs.{pair_held}
use Rattle.measures.proofs.trunks.booked.Goals as goal
use Rattle.measures.proofs.trunks.booked.Goals.{then-as_trunk, else-as_trunk}

pub returns : goal.returns
returns c =
    let p = c.args.product in
    let none : p - p ≡ 0 = omega arith in
    let all : p - 0 ≡ p = omega arith in
    elim c.if-as_trunk.branch [
      | then-as_trunk w ↦ c.of.ensures ∙ (ap (λ t. pair_held t (p - t)) w.trunk-is ∙ (ap (pair_held p) none
          ∙ ap (λ e. cond e (pair_held p 0) (pair_held 0 p)) (sym w.if-as_trunk.true)))
      | else-as_trunk w ↦ c.of.ensures ∙ (ap (λ t. pair_held t (p - t)) w.trunk-is ∙ (ap (pair_held 0) all
          ∙ ap (λ e. cond e (pair_held p 0) (pair_held 0 p)) (sym w.if-as_trunk.false)))
    ]
