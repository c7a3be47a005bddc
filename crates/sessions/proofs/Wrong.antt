-- A command that a session's condition does not take.
use Rattle.std.proofs.Common.{◌≡◌, ℕ, List, cond, ◌∙◌, sym, subst}
use Rattle.std.specs.Prelude.{◌≢◌, ◌==◌}
use Rattle.std.proofs.lemmas.Bool.{cond-false, ne_eqb}
use Rattle.measures.specs.Amounts.{Kind}
use Rattle.measures.specs.declared.link.Link.{Link}
use Rattle.measures.specs.declared.measure.Measure.{Ghosts as MeasureGhosts}
use Rattle.measures.specs.declared.amount.Amount.{Ghosts as AmountGhosts}
use Rattle.designs.specs.Grids.{Grid}
use Rattle.designs.specs.declared.design.Design.{Design}
use Rattle.partials.specs.Partials.{Partial}
use Rattle.walks.specs.declared.walk.Search.{Search}
use Rattle.scripts.specs.declared.fault.ScriptFault.TheVariants.{WrongCondition}
use Rattle.sessions.specs.Stages.{carried, refuse, stage_of}
use Rattle.sessions.specs.declared.measured.Condition.{Condition}
use Rattle.sessions.specs.declared.measured.Condition.TheVariants.{Filling, Searching}

-- a letter that is not the one asked for
skip : {X : Type 0} (l k : ℕ) (x y : X) → (l ≢ k) → cond (l == k) x y ≡ y
skip l k x y h = cond-false (l == k) x y (ne_eqb l k h)

module _ {M A : Type 0} {gm : MeasureGhosts M A} {ga : AmountGhosts A} (K : Kind A) (priced : Link → Link → A) (answered : Grid → Partial → A) (k : Condition M A gm ga) (l p : ℕ) (ops : List ℕ) where
  -- x is what the session holds
  abbrev Refused : Condition M A gm ga → Type 0
  Refused x = k ≡ x → refuse (stage_of x) (WrongCondition p) ≡ carried K priced answered (stage_of k) l p ops

  refused_by : (x : Condition M A gm ga) → carried K priced answered (stage_of x) l p ops ≡ refuse (stage_of x) (WrongCondition p) → Refused x
  refused_by x h e = subst (λ y. refuse (stage_of x) (WrongCondition p) ≡ carried K priced answered (stage_of y) l p ops) (sym e) (sym h)

  pub wrong_searching : (s : Search M A gm ga) → (l ≢ 83) → (l ≢ 79) → (l ≢ 80) → (l ≢ 68) → Refused (Searching s)
  wrong_searching s run offer report size = refused_by (Searching s) (skip l 83 _ _ run ∙ (skip l 79 _ _ offer ∙ (skip l 80 _ _ report ∙ skip l 68 _ _ size)))

  pub wrong_filling : (d : Design) → (l ≢ 76) → (l ≢ 67) → Refused (Filling d)
  wrong_filling d link close = refused_by (Filling d) (skip l 76 _ _ link ∙ skip l 67 _ _ close)
