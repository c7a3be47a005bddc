-- What a refused command holds is the session as it was.
use Rattle.std.proofs.Common.{◌≡◌, Result, OnErr, sym, ap, ◌∙◌}
use Rattle.std.proofs.lemmas.Result.{on_err_weaker}
use Rattle.measures.specs.declared.measure.Measure.{Ghosts as MeasureGhosts}
use Rattle.measures.specs.declared.amount.Amount.{Ghosts as AmountGhosts}
use Rattle.sessions.specs.declared.measured.Condition.{Condition}
use Rattle.sessions.specs.declared.measured.MeasuredSession.{MeasuredSession}

module _ {M R A : Type 0} {gm : MeasureGhosts M A} {ga : AmountGhosts A} (s : MeasuredSession M R A gm ga) where
  abbrev in_condition : Condition M A gm ga → MeasuredSession M R A gm ga
  in_condition k = record { rule = s.rule; condition = k }

  same : (k : Condition M A gm ga) → s.condition ≡ k → in_condition k ≡ s
  same k e = ap in_condition (sym e)

  -- a session, from the session that it is
  pub kept_whole : {X E : Type 0} (r : Result X E) (t : MeasuredSession M R A gm ga) (k : Condition M A gm ga) → s.condition ≡ k → OnErr r (t ≡ in_condition k) → OnErr r (t ≡ s)
  kept_whole r t k e h = on_err_weaker r (λ f. f ∙ same k e) h

  -- what it holds, from what it held
  pub kept : {X E V : Type 0} (r : Result X E) (K : V → Condition M A gm ga) (v w : V) → s.condition ≡ K w → OnErr r (v ≡ w) → OnErr r (in_condition (K v) ≡ s)
  kept r K v w e h = on_err_weaker r (λ f. ap (λ u. in_condition (K u)) f ∙ same (K w) e) h
