use Rattle.std.proofs.Common.{◌≡◌, ◌+◌, ◌*◌, ◌≤◌, ◌++◌, length, drop}
use Rattle.designs.specs.Readings.{row_of}
use Rattle.sessions.specs.Texts.{row_text, more_switches}
use Rattle.sessions.proofs.writing.row_text.Given as goal

abbrev pub invariant-loop-switch : goal.invariant-loop-switch
invariant-loop-switch l = record {
  text : l.text.bytes ++ more_switches (drop l.switch-index l.others) ≡ row_text (row_of l.row);
  short : length l.text.bytes ≤ 2 + 3 * l.switch-index;
}
