-- The number, the layer and the place of each refusal.
use Rattle.std.specs.Prelude.{ℕ}
use Rattle.designs.specs.Faults.{design_number, row_number}
use Rattle.designs.specs.declared.fault.Layer.{Layer}
use Rattle.designs.specs.declared.fault.Layer.TheVariants.{Script, Setup, Design, Search}
use Rattle.scripts.specs.declared.fault.SetupFault.{SetupFault}
use Rattle.scripts.specs.declared.fault.SetupFault.TheVariants.{UnknownMeasure, UnknownRule}
use Rattle.scripts.specs.declared.fault.SearchFault.{SearchFault}
use Rattle.scripts.specs.declared.fault.SearchFault.TheVariants.{InRow, InRun}
use Rattle.walks.specs.Runs.{run_number}
use Rattle.scripts.specs.declared.fault.ScriptFault.{ScriptFault}
use Rattle.scripts.specs.declared.fault.ScriptFault.TheVariants.{ShortLine, LongScript, UnknownLetter, CutOff, WrongCondition, InSetup, InDesign, InSearch}

abbrev pub setup_number : SetupFault → ℕ
setup_number UnknownMeasure = 6
setup_number UnknownRule = 7

abbrev pub search_number : SearchFault → ℕ
search_number (InRow f) = row_number f
search_number (InRun f) = run_number f

abbrev pub number_of : ScriptFault → ℕ
number_of (ShortLine p) = 1
number_of LongScript = 2
number_of (UnknownLetter p) = 3
number_of (CutOff p) = 4
number_of (WrongCondition p) = 5
number_of (InSetup f p) = setup_number f
number_of (InDesign f p) = design_number f
number_of (InSearch f p) = search_number f

abbrev pub layer_of : ScriptFault → Layer
layer_of (ShortLine p) = Script
layer_of LongScript = Script
layer_of (UnknownLetter p) = Script
layer_of (CutOff p) = Script
layer_of (WrongCondition p) = Script
layer_of (InSetup f p) = Setup
layer_of (InDesign f p) = Design
layer_of (InSearch f p) = Search

-- the byte given to the call; 0 for a script that is too long
abbrev pub place_of : ScriptFault → ℕ
place_of (ShortLine p) = p
place_of LongScript = 0
place_of (UnknownLetter p) = p
place_of (CutOff p) = p
place_of (WrongCondition p) = p
place_of (InSetup f p) = p
place_of (InDesign f p) = p
place_of (InSearch f p) = p
