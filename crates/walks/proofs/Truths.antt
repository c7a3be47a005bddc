-- Every search is truthful, and steady from each moment to the next.
use Rattle.std.proofs.Common.{◌≡◌, ℕ, zero, suc, ◌≤◌, true, arith}
use Rattle.std.proofs.lemmas.List.Elements.{All-weaker}
use Rattle.std.proofs.lemmas.Bool.{cond_both}
use Rattle.measures.specs.Amounts.{Kind, Lawful, AtMost}
use Rattle.measures.specs.declared.link.Link.{Link}
use Rattle.designs.specs.Grids.{Grid}
use Rattle.designs.specs.Readings.{TwoRows, cost_of}
use Rattle.partials.specs.Partials.{Partial, PartialOf, DrawingOf, Completes}
use Rattle.partials.specs.Tree.{nodes_below}
use Rattle.walks.specs.Reached.{Reached, Steady, NoneBelow}
use Rattle.walks.specs.Reached.Reached.{starts, opens, offers}
use Rattle.walks.specs.Reports.{TrueReport, reported}
use Rattle.walks.specs.Walk.{Walk, open_one, run, offer, lower_bound, is_done}
use Rattle.walks.proofs.Coverage.{Sound, Sound-open, start_sound, open_one_step, run_step, offer_step, no_drawing_below_the_bound, done_is_least}
use Rattle.walks.proofs.Weights.{reach, start_counted, open_one_counted, offer_counted}

-- what is true of every search below a root
pub record Truthful {A : Type 0} (K : Kind A) (g : Grid) (cost : TwoRows → A) (root : Partial) (w : Walk A) : Type 0 where
  pub drawing : DrawingOf g w.incumbent
  pub within : Completes root w.incumbent
  pub priced : w.least ≡ cost w.incumbent
  pub bounded : NoneBelow K g cost root (lower_bound K w)
  pub least : is_done K w ≡ true → NoneBelow K g cost root w.least
  pub counted : w.opened ≤ nodes_below g root

module _ {A : Type 0} (K : Kind A) (laws : Lawful K) (g : Grid) (cost : TwoRows → A) (answer : Partial → A)
    (bounds : (p : Partial) (x : TwoRows) → DrawingOf g x → Completes p x → AtMost K (answer p) (cost x)) (root : Partial) where
  abbrev sound_here : Walk A → Type 0
  sound_here w = Sound K laws g cost answer bounds root w × (reach K g cost answer w ≤ nodes_below g root)

  pub reached_sound : (w : Walk A) → Reached K g cost answer root w → sound_here w
  reached_sound _ (starts first v d c) = (start_sound K laws g cost answer bounds root v first d c, start_counted K g cost answer root v first)
  reached_sound _ (opens w r) =
      let h = reached_sound w r in
      let valid = All-weaker (Sound-open K laws g cost answer bounds root) (λ o. PartialOf g o.node) (λ o s. s.valid) w.frontier h.0.nodes in
      ((open_one_step K laws g cost answer bounds root w h.0).sound, omega (arith, open_one_counted K g cost answer w valid, h.1))
  reached_sound _ (offers w x r d c) =
      let h = reached_sound w r in
      ((offer_step K laws g cost answer bounds root x d c w h.0).sound, omega (arith, offer_counted K g cost answer w x, h.1))

  pub reached_truthful : (w : Walk A) → Reached K g cost answer root w → Truthful K g cost root w
  reached_truthful w r =
      let h = reached_sound w r in
      let s = h.0 in
      record {
        drawing = s.drawing;
        within = s.within;
        priced = s.priced;
        bounded = no_drawing_below_the_bound K laws g cost answer bounds root w s;
        least = done_is_least K laws g cost answer bounds root w s;
        counted = omega (arith, h.1);
      }

  -- a run is some openings
  pub run_reached : (b : ℕ) (w : Walk A) → Reached K g cost answer root w → Reached K g cost answer root (run K g cost answer b w)
  run_reached zero w r = r
  run_reached (suc b) w r = cond_both (is_done K w) w (run K g cost answer b (open_one K g cost answer w)) (Reached K g cost answer root) (λ _. r) (λ _. run_reached b (open_one K g cost answer w) (opens w r))

  pub run_steady : (b : ℕ) (w : Walk A) → Reached K g cost answer root w → Steady K w (run K g cost answer b w)
  run_steady b w r = (run_step K laws g cost answer bounds root b w (reached_sound w r).0).goes

  pub offer_steady : (w : Walk A) (x : TwoRows) → Reached K g cost answer root w → DrawingOf g x → Completes root x → Steady K w (offer K cost x w)
  offer_steady w x r d c = (offer_step K laws g cost answer bounds root x d c w (reached_sound w r).0).goes

-- what is reported of a truthful search is true
pub report_true : {A : Type 0} (K : Kind A) (priced : Link → Link → A) (g : Grid) (root : Partial) (w : Walk A) → Truthful K g (cost_of K priced g) root w → TrueReport K priced g root (reported K g w)
report_true K priced g root w t = record { drawing = t.drawing; within = t.within; priced_so = t.priced; bounded = t.bounded; least = t.least; counted = t.counted }
