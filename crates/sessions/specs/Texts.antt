-- The lines that a call writes. Fields are parted by a space (32), and a line ends with byte 10.
use Rattle.std.specs.Prelude.{◌≡◌, ℕ, Bool, cond, List, [], ◌∷◌, ◌++◌, length, drop, Some, None, Option, codes, decimal, nat_lt}
use Rattle.designs.specs.declared.fault.Layer.{Layer}
use Rattle.designs.specs.declared.fault.Layer.TheVariants.{Script, Setup, Design, Search}
use Rattle.scripts.specs.Faults.{number_of, layer_of, place_of}
use Rattle.scripts.specs.declared.fault.ScriptFault.{ScriptFault}
use Rattle.walks.specs.Reports.{Values}
use Rattle.sessions.specs.Events.{Event}
use Rattle.sessions.specs.Events.Event.{sized, linked, closed, searched, offered, reported, refused}

abbrev pub layer_name : Layer → List ℕ
layer_name Script = codes "script"
layer_name Setup = codes "setup"
layer_name Design = codes "design"
layer_name Search = codes "search"

-- a field with the byte that ends it
abbrev pub field : List ℕ → ℕ → List ℕ
field text end = text ++ (end ∷ [])

-- refused, number, layer, place
abbrev pub refusal_line : ScriptFault → List ℕ
refusal_line f = field (codes "refused") 32 ++ (field (decimal (number_of f)) 32 ++ (field (layer_name (layer_of f)) 32 ++ field (decimal (place_of f)) 10))

-- taken or kept, and the offered drawing's cost
abbrev pub offer_word : Bool → List ℕ
offer_word taken = cond taken (codes "taken") (codes "kept")

-- the switches of a row, parted by commas (44)
abbrev pub more_switches : List ℕ → List ℕ
more_switches [] = []
more_switches (s ∷ row) = 44 ∷ (decimal s ++ more_switches row)

abbrev pub row_text : List ℕ → List ℕ
row_text [] = []
row_text (s ∷ row) = decimal s ++ more_switches row

abbrev pub done_word : Bool → List ℕ
done_word done = cond done (codes "done") (codes "open")

-- a tree's size, or a dash where it is not told
abbrev pub size_text : Option ℕ → List ℕ
size_text None = codes "-"
size_text (Some size) = decimal size

-- done or open, the nodes opened, the best cost, the floor, the tree's size, the left row and the right row
abbrev pub report_line : {A : Type 0} → (A → List ℕ) → Values A → List ℕ
report_line written v =
    field (done_word v.done) 32 ++ (field (decimal v.opened) 32 ++ (field (written v.cost) 32 ++ (field (written v.floor) 32 ++
    (field (size_text v.size) 32 ++ (field (row_text v.drawing.left) 32 ++ field (row_text v.drawing.right) 10)))))

-- the line of what a call told; an accepted D, L or C writes nothing
abbrev pub event_line : {A : Type 0} → (A → List ℕ) → Event A → List ℕ
event_line written (sized n m) = []
event_line written (linked a b l) = []
event_line written closed = []
event_line written (searched asked opened) = field (codes "opened") 32 ++ field (decimal opened) 10
event_line written (offered taken cost) = field (offer_word taken) 32 ++ field (written cost) 10
event_line written (reported v) = report_line written v
event_line written (refused f) = refusal_line f

-- a line with room for fewer than 256 bytes is left untouched
abbrev pub if_room : ℕ → List ℕ → List ℕ
if_room room bytes = cond (nat_lt room 256) [] bytes

-- a line after these bytes were written at its start: those behind them are unchanged
abbrev pub written_on : List ℕ → List ℕ → List ℕ
written_on line bytes = bytes ++ drop (length bytes) line

-- so many bytes were written at the start of a line, those of a text, and the rest of it is as it was
pub record Writes (old new : List ℕ) (count : ℕ) (text : List ℕ) : Type 0 where
  pub wrote : count ≡ length text
  pub bytes : new ≡ written_on old text
