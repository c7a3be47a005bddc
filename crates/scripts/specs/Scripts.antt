-- Scripts: the commands, and how one is found at a byte.
use Rattle.std.specs.Prelude.{ℕ, ◌+◌, ◌-◌, cond, List, length, take, drop, Some, None, Ok, Err, Option, Result, ◌==◌, nat_le, nat_lt, slice_index}
use Rattle.scripts.specs.declared.command.Command.{Command}
use Rattle.scripts.specs.declared.fault.ScriptFault.{ScriptFault}
use Rattle.scripts.specs.declared.fault.ScriptFault.TheVariants.{ShortLine, LongScript, UnknownLetter, CutOff, WrongCondition, InSetup, InDesign, InSearch}

-- the letters M, D, L, C, S, O and P, with the number of bytes of their operands
abbrev pub width_of : ℕ → Option ℕ
width_of l =
    cond (l == 77) (Some 2)
    (cond (l == 68) (Some 2)
    (cond (l == 76) (Some 4)
    (cond (l == 67) (Some 0)
    (cond (l == 83) (Some 4)
    (cond (l == 79) (Some 48)
    (cond (l == 80) (Some 0) None))))))

abbrev pub with_width : List ℕ → ℕ → Option ℕ → Result Command ScriptFault
with_width script p None = Err (UnknownLetter p)
with_width script p (Some w) = cond (nat_lt (length script) (p + 1 + w)) (Err (CutOff p)) (Ok (record { letter = slice_index script p; place = p; next = p + 1 + w }))

-- the command at byte p, or the first fault: a short line, a long script, the script's end, an unknown letter, operands cut off
abbrev pub read_command : List ℕ → ℕ → ℕ → Result Command ScriptFault
read_command script p room =
    cond (nat_lt room 256) (Err (ShortLine p))
    (cond (nat_lt 65536 (length script)) (Err LongScript)
    (cond (nat_le (length script) p) (Err (CutOff p))
    (with_width script p (width_of (slice_index script p)))))

-- the next command's byte after a fault of the reader: the given one after a short line, else the script's end
abbrev pub next_after : ℕ → ℕ → ScriptFault → ℕ
next_after p end (ShortLine q) = p
next_after p end LongScript = end
next_after p end (UnknownLetter q) = end
next_after p end (CutOff q) = end
next_after p end (WrongCondition q) = end
next_after p end (InSetup f q) = end
next_after p end (InDesign f q) = end
next_after p end (InSearch f q) = end

-- the next command's byte: behind the operands of a command that was read, whether it is then refused or not
abbrev pub next_byte : List ℕ → ℕ → Result Command ScriptFault → ℕ
next_byte script p (Ok c) = c.next
next_byte script p (Err f) = next_after p (length script) f

-- a command's operands
abbrev pub operands : List ℕ → Command → List ℕ
operands script c = take (c.next - (c.place + 1)) (drop (c.place + 1) script)
