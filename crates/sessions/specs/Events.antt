-- What a session tells its caller.
use Rattle.std.specs.Prelude.{ℕ, Bool, Some, None, Ok, Err, Option, Result}
use Rattle.measures.specs.declared.link.Link.{Link}
use Rattle.walks.specs.Reports.{Values, values_of}
use Rattle.scripts.specs.declared.fault.ScriptFault.{ScriptFault}
use Rattle.sessions.specs.declared.telling.Telling.{Telling}
use Rattle.sessions.specs.declared.telling.Telling.TheVariants.{Sized, Linked, Closed, Searched, Offered, Reported}

-- what one call told: sized (D), with the left and the right size; linked (L), with the two switches and the link as it was
-- given, not its cell; closed (C); searched (S), with the nodes asked for and those opened; offered (O), with whether the
-- drawing was taken, and its cost; reported (P); or refused. M is no event: with it a history begins.
pub data Event (A : Type 0) : Type 0 where
  sized : ℕ → ℕ → Event A
  linked : ℕ → ℕ → Link → Event A
  closed : Event A
  searched : ℕ → ℕ → Event A
  offered : Bool → A → Event A
  reported : Values A → Event A
  refused : ScriptFault → Event A

-- what the code answers, as an event
abbrev pub telling_event : {M A : Type 0} → Telling M A → Event A
telling_event (Sized n m) = sized n m
telling_event (Linked a b l) = linked a b l
telling_event Closed = closed
telling_event (Searched asked opened) = searched asked opened
telling_event (Offered taken cost) = offered taken cost
telling_event (Reported r) = reported (values_of r)

abbrev pub event_of : {M A : Type 0} → Result (Telling M A) ScriptFault → Event A
event_of (Ok t) = telling_event t
event_of (Err f) = refused f

-- why a call refused, if it did
abbrev pub refusal_in : {A : Type 0} → Event A → Option ScriptFault
refusal_in (sized n m) = None
refusal_in (linked a b l) = None
refusal_in closed = None
refusal_in (searched asked opened) = None
refusal_in (offered taken cost) = None
refusal_in (reported v) = None
refusal_in (refused f) = Some f
