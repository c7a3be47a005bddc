-- A search at its start.
use Rattle.std.proofs.Common.{◌≡◌, Bool, false, cond, List, [], ◌++◌, sym, ap, ◌∙◌, append-nil}
use Rattle.std.proofs.lemmas.Bool.{cond-false}
use Rattle.measures.specs.Amounts.{Kind}
use Rattle.designs.specs.Grids.{Grid, grid_of}
use Rattle.designs.specs.Readings.{TwoRows}
use Rattle.designs.specs.declared.design.Design.{Design}
use Rattle.partials.specs.Partials.{Partial}
use Rattle.partials.specs.Tree.{children}
use Rattle.walks.specs.Frontiers.{frontier_of, Leads}
use Rattle.walks.specs.Walk.{Open, all_open, start}
use Rattle.walks.specs.declared.path.Path.{Path}

-- the root's children are open, if the root is not pruned at once
pub root_pushed : {A : Type 0} (d : Design) (p q r : Path A) (bound : A) (root : Partial) (cut : Bool) → Leads d [] p → Leads p.design (all_open bound (children (grid_of p.design) root) ++ frontier_of p) q → r ≡ q → cut ≡ false
    → Leads d (cond cut [] (all_open bound (children (grid_of d) root))) r
root_pushed d p q r bound root cut h k e f = record {
  design = ap (λ x. x.design) e ∙ (k.design ∙ h.design);
  frontier = ap frontier_of e ∙ (k.frontier
      ∙ (ap (λ os. all_open bound (children (grid_of p.design) root) ++ os) h.frontier
      ∙ (append-nil (all_open bound (children (grid_of p.design) root))
      ∙ (ap (λ x. all_open bound (children (grid_of x) root)) h.design ∙ sym (cond-false cut [] (all_open bound (children (grid_of d) root)) f)))));
}

-- the walk at its start, from what each of its parts is
pub start_same : {A : Type 0} (K : Kind A) (g : Grid) (cost : TwoRows → A) (answer : Partial → A) (root : Partial) (first : TwoRows) (x : TwoRows) (p : Partial) (least bound : A) (cut : Bool) (os : List (Open A))
    → x ≡ first → p ≡ root → least ≡ cost x → bound ≡ answer p → cut ≡ K.at_most least bound → os ≡ cond cut [] (all_open bound (children g p))
    → record { incumbent = x; least = least; opened = 0; frontier = os } ≡ start K g cost answer root first
start_same K g cost answer root first x p least bound cut os i j l b c o = cc
