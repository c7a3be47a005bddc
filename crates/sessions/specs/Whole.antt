-- The law over whole runs, for the whole session: what its answers and its lines say.
use Rattle.std.specs.Prelude.{◌≡◌, ℕ, List, [], length}
use Rattle.measures.specs.Amounts.{Kind}
use Rattle.measures.specs.Pairs.{pairs}
use Rattle.measures.specs.Prices.{strand_price, trunk_price}
use Rattle.measures.specs.Sums.{sums}
use Rattle.measures.specs.Writings.{strand_written, trunk_written}
use Rattle.measures.specs.declared.link.Link.{Link}
use Rattle.designs.specs.Grids.{Grid}
use Rattle.partials.specs.Partials.{Partial}
use Rattle.sessions.specs.Calls.{called}
use Rattle.sessions.specs.Events.{Event, refusal_in}
use Rattle.sessions.specs.Runs.{LeadsTo, GoesOnLawfully}
use Rattle.sessions.specs.Sessions.{Whole, answers}
use Rattle.sessions.specs.Sessions.Whole.{fresh, by_strands, by_trunks}
use Rattle.sessions.specs.Stages.{Stage}
use Rattle.sessions.specs.Texts.{event_line, if_room, Writes}
use Rattle.sessions.specs.declared.session.Answer.{Answer}

-- A call tells the event that the command at its byte of the script calls for: its answer has the event's refusal, if it is
-- one, and its line is the event's; every history that leads to the session before the call, with that event put before it,
-- leads to the session after it, and keeps the law. Written is how amounts are written, whole says which measure and rule the
-- session has, and s is what it held before.
pub record TellsLawfully {A : Type 0} (K : Kind A) (priced : Link → Link → A) (answered : Grid → Partial → A) (written : A → List ℕ) (whole : Stage A → Whole)
    (s : Stage A) (script : List ℕ) (place : ℕ) (answer : Answer) (line new_line : List ℕ) (new : Whole) : Type 0 where
  pub event : Event A
  pub stage : Stage A
  pub told : event ≡ (called K priced answered s script place (length line)).event
  pub refused : answer.refused ≡ refusal_in event
  pub writes : Writes line new_line answer.wrote (if_room (length line) (event_line written event))
  pub session : new ≡ whole stage
  pub law : GoesOnLawfully K priced answered s event stage

-- a session that an M was accepted in starts with nothing told; of a fresh one nothing is asked
abbrev pub Starts : Whole → Type 0
Starts fresh = Unit {0}
Starts (by_strands rule s) = LeadsTo sums strand_price (answers sums strand_price rule) [] s
Starts (by_trunks rule s) = LeadsTo pairs trunk_price (answers pairs trunk_price rule) [] s

-- what is promised of a call: of a fresh session, that it starts a history if it took M; of any other, that it tells lawfully
abbrev pub CallsLawfully : Whole → List ℕ → ℕ → Answer → List ℕ → List ℕ → Whole → Type 0
CallsLawfully fresh script place answer line new_line new = Starts new
CallsLawfully (by_strands rule s) script place answer line new_line new =
    TellsLawfully sums strand_price (answers sums strand_price rule) strand_written (by_strands rule) s script place answer line new_line new
CallsLawfully (by_trunks rule s) script place answer line new_line new =
    TellsLawfully pairs trunk_price (answers pairs trunk_price rule) trunk_written (by_trunks rule) s script place answer line new_line new
