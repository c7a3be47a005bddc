-- One call on values: the command at a byte of the script is read and carried out.
use Rattle.std.specs.Prelude.{ℕ, List, Ok, Err, Result}
use Rattle.measures.specs.Amounts.{Kind}
use Rattle.measures.specs.declared.link.Link.{Link}
use Rattle.designs.specs.Grids.{Grid}
use Rattle.partials.specs.Partials.{Partial}
use Rattle.scripts.specs.Scripts.{read_command, operands}
use Rattle.sessions.specs.Stages.{Stage, Carried, refuse, carried}
use Rattle.scripts.specs.declared.command.Command.{Command}
use Rattle.scripts.specs.declared.fault.ScriptFault.{ScriptFault}

module _ {A : Type 0} (K : Kind A) (priced : Link → Link → A) (answered : Grid → Partial → A) where
  abbrev pub carried_command : Stage A → List ℕ → Result Command ScriptFault → Carried A
  carried_command s script (Ok c) = carried K priced answered s c.letter c.place (operands script c)
  carried_command s script (Err f) = refuse s f

  -- what a call tells and leaves: script, byte, and how long the line is
  abbrev pub called : Stage A → List ℕ → ℕ → ℕ → Carried A
  called s script p room = carried_command s script (read_command script p room)
