-- The whole session: fresh, or with a measure and a rule, and one call on a line.
use Rattle.std.specs.Prelude.{ℕ, ◌+◌, cond, List, [], Some, None, Ok, Err, Option, Result, ◌==◌, slice_index}
use Rattle.std.specs.Result.{result_map_both}
use Rattle.designs.specs.Results.{on_ok}
use Rattle.measures.specs.Sums.{sums}
use Rattle.measures.specs.Pairs.{pairs}
use Rattle.measures.specs.Prices.{strand_price, trunk_price}
use Rattle.measures.specs.Writings.{strand_written, trunk_written}
use Rattle.measures.specs.declared.sum.Sum.{Sum}
use Rattle.measures.specs.declared.pair.Pair.{Pair}
use Rattle.measures.specs.declared.link.Link.{Link}
use Rattle.measures.specs.Amounts.{Kind}
use Rattle.designs.specs.Grids.{Grid}
use Rattle.partials.specs.Partials.{Partial}
use Rattle.partials.specs.Rules.{settled_price, lesser_price}
use Rattle.sessions.specs.Calls.{called}
use Rattle.scripts.specs.Scripts.{read_command}
use Rattle.sessions.specs.Stages.{Stage, set, stage_of, Carried}
use Rattle.sessions.specs.Events.{refusal_in}
use Rattle.sessions.specs.Texts.{refusal_line, event_line}
use Rattle.scripts.specs.declared.command.Command.{Command}
use Rattle.scripts.specs.declared.fault.SetupFault.{SetupFault}
use Rattle.scripts.specs.declared.fault.SetupFault.TheVariants.{UnknownMeasure, UnknownRule}
use Rattle.scripts.specs.declared.fault.ScriptFault.{ScriptFault}
use Rattle.scripts.specs.declared.fault.ScriptFault.TheVariants.{WrongCondition, InSetup}
use Rattle.partials.specs.Delivered.{read_rule, ruled}
use Rattle.partials.specs.declared.delivered.Rule.{Rule}
use Rattle.sessions.specs.declared.session.Session.{Session}
use Rattle.sessions.specs.declared.session.Session.TheVariants.{Fresh, ByStrands, ByTrunks}

pub data Whole : Type 0 where
  fresh : Whole
  by_strands : Rule → Stage Sum → Whole
  by_trunks : Rule → Stage Pair → Whole

abbrev pub whole_of : Session → Whole
whole_of Fresh = fresh
whole_of (ByStrands s) = by_strands s.rule (stage_of s.condition)
whole_of (ByTrunks s) = by_trunks s.rule (stage_of s.condition)

-- the rule with a number, or the refusal of a number that names none
abbrev pub rule_numbered : ℕ → Result Rule SetupFault
rule_numbered r = result_map_both (λ rule. rule) (λ _. UnknownRule) (read_rule r)

-- M's two numbers: the measure is looked at before the rule
abbrev pub set_up : ℕ → ℕ → Result Whole SetupFault
set_up m r =
    cond (m == 1) (on_ok (λ rule. by_strands rule set) (rule_numbered r))
    (cond (m == 2) (on_ok (λ rule. by_trunks rule set) (rule_numbered r))
    (Err UnknownMeasure))

abbrev pub placed_set_up : ℕ → Result Whole SetupFault → Result Whole ScriptFault
placed_set_up p (Ok s) = Ok s
placed_set_up p (Err f) = Err (InSetup f p)

-- what a call leaves: the refusal, if any, the bytes for the line, and the session
pub record Outcome : Type 0 where
  pub refused : Option ScriptFault
  pub bytes : List ℕ
  pub session : Whole

abbrev pub refusal : Whole → ScriptFault → Outcome
refusal s f = record { refused = Some f; bytes = refusal_line f; session = s }

abbrev pub set_up_outcome : Result Whole ScriptFault → Outcome
set_up_outcome (Ok s) = record { refused = None; bytes = []; session = s }
set_up_outcome (Err f) = refusal fresh f

-- a fresh session takes M only
abbrev pub fresh_outcome : List ℕ → Result Command ScriptFault → Outcome
fresh_outcome script (Err f) = refusal fresh f
fresh_outcome script (Ok c) =
    cond (c.letter == 77)
    (set_up_outcome (placed_set_up c.place (set_up (slice_index script (c.place + 1)) (slice_index script (c.place + 2)))))
    (refusal fresh (WrongCondition c.place))

-- what a call with a measure that writes its amounts leaves of the whole session
abbrev pub carried_outcome : {A : Type 0} → (A → List ℕ) → (Stage A → Whole) → Carried A → Outcome
carried_outcome written whole c = record { refused = refusal_in c.event; bytes = event_line written c.event; session = whole c.stage }

-- what a delivered rule answers of a partial drawing
abbrev pub answers : {A : Type 0} → Kind A → (Link → Link → A) → Rule → Grid → Partial → A
answers K priced rule g p = ruled rule (settled_price K priced g p) (lesser_price K priced g p)

-- one call on values, with measure 1 or with measure 2
abbrev pub called_by_strands : Rule → Stage Sum → List ℕ → ℕ → ℕ → Carried Sum
called_by_strands rule s script p room = called sums strand_price (answers sums strand_price rule) s script p room

abbrev pub called_by_trunks : Rule → Stage Pair → List ℕ → ℕ → ℕ → Carried Pair
called_by_trunks rule s script p room = called pairs trunk_price (answers pairs trunk_price rule) s script p room

-- one call: script, byte, and how long the line is
abbrev pub outcome : Whole → List ℕ → ℕ → ℕ → Outcome
outcome fresh script p room = fresh_outcome script (read_command script p room)
outcome (by_strands rule s) script p room = carried_outcome strand_written (by_strands rule) (called_by_strands rule s script p room)
outcome (by_trunks rule s) script p room = carried_outcome trunk_written (by_trunks rule) (called_by_trunks rule s script p room)
