-- What follows for a search from the walk that it is at: it goes on below its root, and its reports are true.
use Rattle.std.proofs.Common.{◌≡◌, ℕ, ◌+◌, not, sym, ap, subst}
use Rattle.measures.specs.Amounts.{Lawful}
use Rattle.measures.specs.declared.measure.Measure.{Ghosts as MeasureGhosts}
use Rattle.measures.specs.declared.amount.Amount.{Ghosts as AmountGhosts}
use Rattle.designs.specs.Grids.{Grid, grid_of}
use Rattle.designs.specs.Readings.{TwoRows, cost_of}
use Rattle.partials.specs.Partials.{Partial, PartialOf, DrawingOf, Completes}
use Rattle.walks.specs.Moves.{Started, Ran, Weighed}
use Rattle.walks.specs.Reached.{Reached, Steady}
use Rattle.walks.specs.Reached.Reached.{starts, offers}
use Rattle.walks.specs.Reports.{Values, reported, TrueReport, AlwaysTrue}
use Rattle.walks.specs.Runs.{Exact}
use Rattle.walks.specs.Searches.{walk_of, grid_in, cost_in, GoesTo, Bounding, SearchBelow}
use Rattle.walks.specs.Walk.{Walk, start, run, offer}
use Rattle.walks.specs.declared.offered.Offered.{Offered}
use Rattle.walks.specs.declared.walk.Search.{Search}
use Rattle.walks.proofs.Steps.{run_exact}
use Rattle.walks.proofs.Truths.{reached_truthful, report_true, run_reached, run_steady, offer_steady}

module _ {M A : Type 0} {gm : MeasureGhosts M A} {ga : AmountGhosts A} where
  -- a search of the design g that is at a walk below a root
  goes_below : (answered : Grid → Partial → A) (root : Partial) (g : Grid) (w : Walk A) (t : Search M A gm ga) → grid_in t ≡ g → walk_of t ≡ w
      → Reached ga.kind g (cost_of ga.kind gm.priced g) (answered g) root w → SearchBelow answered root t
  goes_below answered root g w t e f r =
      subst (λ h. Reached ga.kind h (cost_of ga.kind gm.priced h) (answered h) root (walk_of t)) (sym e) (subst (Reached ga.kind g (cost_of ga.kind gm.priced g) (answered g) root) (sym f) r)

  pub started : (g : Grid) (answered : Grid → Partial → A) (root : Partial) (first : TwoRows) (s : Search M A gm ga) → PartialOf g root → DrawingOf g first → Completes root first
      → grid_in s ≡ g → walk_of s ≡ start ga.kind g (cost_of ga.kind gm.priced g) (answered g) root first → Started g answered root first s
  started g answered root first s v d c e f = record { design = e; walk = f; below = goes_below answered root g _ s e f (starts first v d c) }

  module _ (laws : Lawful ga.kind) where
    pub ran : (answered : Grid → Partial → A) → Bounding ga.kind gm.priced answered → (nodes : ℕ) (s t : Search M A gm ga) (n : ℕ)
        → GoesTo s t (run ga.kind (grid_in s) (cost_in s) (answered (grid_in s)) nodes (walk_of s)) → s.opened + n ≡ t.opened → Ran answered nodes s t n
    ran answered bounds nodes s t n h o =
        let g = grid_in s in
        record {
          design = h.design;
          walk = h.walk;
          opened = o;
          exact = subst (Exact ga.kind nodes (walk_of s)) (sym h.walk) (run_exact ga.kind laws g (cost_in s) (answered g) nodes (walk_of s));
          below = λ root r. goes_below answered root g _ t (ap grid_of h.design) h.walk (run_reached ga.kind laws g (cost_in s) (answered g) (bounds g) root nodes (walk_of s) r);
          steady = λ root r. subst (Steady ga.kind (walk_of s)) (sym h.walk) (run_steady ga.kind laws g (cost_in s) (answered g) (bounds g) root nodes (walk_of s) r);
        }

    pub weighed : (x : TwoRows) (s t : Search M A gm ga) (r : Offered A) → GoesTo s t (offer ga.kind (cost_in s) x (walk_of s))
        → r.cost ≡ cost_in s x → r.taken ≡ not (ga.kind.at_most s.best.cost r.cost) → Weighed x s t r
    weighed x s t r h e f =
        let g = grid_in s in
        record {
          design = h.design;
          walk = h.walk;
          cost = e;
          taken = f;
          below = λ answered root d c b. goes_below answered root g _ t (ap grid_of h.design) h.walk (offers (walk_of s) x b d c);
          steady = λ answered root bounds d c b. subst (Steady ga.kind (walk_of s)) (sym h.walk) (offer_steady ga.kind laws g (cost_in s) (answered g) (bounds g) root (walk_of s) x b d c);
        }

    pub always_true : (s : Search M A gm ga) (r : Values A) → r ≡ reported ga.kind (grid_in s) (walk_of s) → AlwaysTrue s r
    always_true s r is = λ answered root bounds below. subst (TrueReport ga.kind gm.priced (grid_in s) root) (sym is) (report_true ga.kind gm.priced (grid_in s) root (walk_of s)
        (reached_truthful ga.kind laws (grid_in s) (cost_in s) (answered (grid_in s)) (bounds (grid_in s)) root (walk_of s) below))
