use Rattle.std.proofs.Common.{◌≡◌, All, ◌∷◌, sym, ap, ◌∙◌, subst}
use Rattle.designs.specs.Costs.{over_each, over_two}
use Rattle.designs.specs.Joins.{Gives, GivesTwo}
use Rattle.designs.proofs.Loops.{two_head, two_tail}
use Rattle.designs.proofs.joining.over_two.Goals as goal

pub over_each-requires : goal.over_each-requires
over_each-requires g c =
    two_head (goal.F-pre g c.args.amount) c.in-Some.first c.in-Some.later.now (subst (λ xs. All (λ x. All (λ y. goal.F-pre g c.args.amount x y) xs) xs) c.in-Some.ensures c.loop-first.invariant.0)

pub loop-first-preserved : goal.loop-first-preserved
loop-first-preserved g c =
    let K = g.A.Amount.kind in
    let x = c.in-Some.first in
    let xs = c.in-Some.later.now in (
      two_tail (goal.F-pre g c.args.amount) x xs (subst (λ ys. All (λ y. All (λ z. goal.F-pre g c.args.amount y z) ys) ys) c.in-Some.ensures c.loop-first.invariant.0),
      λ f h.
          let inv = c.loop-first.invariant.1 f h in
          let all : GivesTwo (goal.F-post g c.args.amount) f (x ∷ xs) = subst (GivesTwo (goal.F-post g c.args.amount) f) c.in-Some.ensures inv.0 in
          let gives : Gives (goal.F-post g c.args.amount x) (f x) xs = two_head (λ y z. (r : _) → goal.F-post g c.args.amount y z r → r ≡ f y z) x xs all in
          let part : c.over_each.result ≡ over_each K (f x) xs = c.over_each.ensures (f x) gives in
          let left : K.join c.loop-first.sum (K.join (over_each K (f x) xs) (over_two K f xs)) ≡ over_two K f c.args.row.now = ap (λ ys. K.join c.loop-first.sum (over_two K f ys)) (sym c.in-Some.ensures) ∙ inv.1 in (
            two_tail (λ y z. (r : _) → goal.F-post g c.args.amount y z r → r ≡ f y z) x xs all,
            ap (λ s. K.join s (over_two K f xs)) (c.joined-sum.ensures ∙ ap (K.join c.loop-first.sum) part) ∙ (g.met.A.Amount.lawful.assoc c.loop-first.sum (over_each K (f x) xs) (over_two K f xs) ∙ left),
          ),
    )
