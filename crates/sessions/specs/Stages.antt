-- What a session with a measure holds, as values, and what each command does to it.
use Rattle.std.specs.Prelude.{ℕ, ◌-◌, cond, not, List, [], ◌∷◌, Ok, Err, Result, ◌==◌, slice_index}
use Rattle.std.specs.Int.{w32, from_be_bytes}
use Rattle.measures.specs.Amounts.{Kind}
use Rattle.measures.specs.declared.link.Class.{Class}
use Rattle.measures.specs.declared.link.Link.{Link}
use Rattle.measures.specs.declared.measure.Measure.{Ghosts as MeasureGhosts}
use Rattle.measures.specs.declared.amount.Amount.{Ghosts as AmountGhosts}
use Rattle.designs.specs.Grids.{Grid, grid_of, sized, link_check, after_link}
use Rattle.designs.specs.Readings.{TwoRows, first_rows, read_rows, cost_of}
use Rattle.designs.specs.declared.fault.DesignFault.{DesignFault}
use Rattle.designs.specs.declared.fault.DesignFault.TheVariants.{InLink}
use Rattle.designs.specs.declared.fault.LinkFault.{LinkFault}
use Rattle.designs.specs.declared.fault.RowFault.{RowFault}
use Rattle.partials.specs.Partials.{Partial, nothing_placed}
use Rattle.walks.specs.Reports.{reported as report_on}
use Rattle.walks.specs.Runs.{run_check}
use Rattle.walks.specs.Searches.{walk_of, grid_in}
use Rattle.walks.specs.Walk.{Walk, start, run, offer}
use Rattle.walks.specs.declared.fault.RunFault.{RunFault}
use Rattle.walks.specs.declared.walk.Search.{Search}
use Rattle.scripts.specs.declared.fault.ScriptFault.{ScriptFault}
use Rattle.scripts.specs.declared.fault.ScriptFault.TheVariants.{WrongCondition, InDesign, InSearch}
use Rattle.scripts.specs.declared.fault.SearchFault.TheVariants.{InRow, InRun}
use Rattle.sessions.specs.Events.{Event}
use Rattle.sessions.specs.Events.Event.{sized as told_sized, linked, closed, searched, offered, reported, refused}
use Rattle.sessions.specs.declared.measured.Condition.{Condition}
use Rattle.sessions.specs.declared.measured.Condition.TheVariants.{Set, Filling, Searching}

-- set: no design; filling: a design that links go into; searching: a closed design and the walk of its tree, which is the
-- search of walks/specs/Walk.antt
pub data Stage (A : Type 0) : Type 0 where
  set : Stage A
  filling : Grid → Stage A
  searching : Grid → Walk A → Stage A

module _ {M A : Type 0} {gm : MeasureGhosts M A} {ga : AmountGhosts A} where
  -- what the code holds, as a value
  abbrev pub stage_searching : Search M A gm ga → Stage A
  stage_searching s = searching (grid_in s) (walk_of s)

  abbrev pub stage_of : Condition M A gm ga → Stage A
  stage_of Set = set
  stage_of (Filling d) = filling (grid_of d)
  stage_of (Searching s) = stage_searching s

-- what a command told, and what the session then holds
pub record Carried (A : Type 0) : Type 0 where
  pub event : Event A
  pub stage : Stage A

-- a refusal leaves what was held
abbrev pub refuse : {A : Type 0} → Stage A → ScriptFault → Carried A
refuse s f = record { event = refused f; stage = s }

-- the number that four bytes are, high byte first
abbrev pub number_in : List ℕ → ℕ
number_in bs = from_be_bytes w32 (slice_index bs 0 ∷ (slice_index bs 1 ∷ (slice_index bs 2 ∷ (slice_index bs 3 ∷ []))))

-- the design of D's operands, or the refusal
abbrev pub placed_grid : ℕ → Result Grid DesignFault → Result Grid ScriptFault
placed_grid p (Ok g) = Ok g
placed_grid p (Err f) = Err (InDesign f p)

abbrev pub read_grid : ℕ → List ℕ → Result Grid ScriptFault
read_grid p ops = placed_grid p (sized (slice_index ops 0) (slice_index ops 1))

abbrev pub size_by : {A : Type 0} → Stage A → ℕ → ℕ → Result Grid ScriptFault → Carried A
size_by s n m (Ok g) = record { event = told_sized n m; stage = filling g }
size_by s n m (Err f) = refuse s f

-- carried out if the check is Ok, else refused: p is the byte of the command, a and b are the switches, s the strands
abbrev pub link_by : {A : Type 0} → Grid → ℕ → ℕ → ℕ → ℕ → Result Class LinkFault → Carried A
link_by g p a b s (Ok k) = record { event = linked a b (record { strands = s; class = k }); stage = filling (after_link g a b s (Ok k)) }
link_by g p a b s (Err f) = refuse (filling g) (InDesign (InLink f) p)

-- D, in a session that holds s
abbrev pub size_step : {A : Type 0} → Stage A → ℕ → List ℕ → Carried A
size_step s p ops = size_by s (slice_index ops 0) (slice_index ops 1) (read_grid p ops)

abbrev pub link_step : {A : Type 0} → Grid → ℕ → List ℕ → Carried A
link_step g p ops = link_by g p (slice_index ops 0) (slice_index ops 1) (slice_index ops 2) (link_check g (slice_index ops 0) (slice_index ops 1) (slice_index ops 2) (slice_index ops 3))

-- a measure
module _ {A : Type 0} (K : Kind A) (priced : Link → Link → A) where
  abbrev pub offer_by : Grid → Walk A → ℕ → Result TwoRows RowFault → Carried A
  offer_by g w p (Ok x) = record {
    event = offered (not (K.at_most w.least (cost_of K priced g x))) (cost_of K priced g x);
    stage = searching g (offer K (cost_of K priced g) x w);
  }
  offer_by g w p (Err f) = refuse (searching g w) (InSearch (InRow f) p)

-- a measure, and what a rule answers of its designs
module _ {A : Type 0} (K : Kind A) (priced : Link → Link → A) (answered : Grid → Partial → A) where
  -- a design just closed: a new walk from the root with nothing placed, and both rows in number order as the best drawing
  abbrev pub begun : Grid → Walk A
  begun g = start K g (cost_of K priced g) (answered g) nothing_placed (first_rows g)

  abbrev pub ran : Grid → ℕ → Walk A → Walk A
  ran g nodes w = run K g (cost_of K priced g) (answered g) nodes w

  abbrev pub run_by : Grid → Walk A → ℕ → Result ℕ RunFault → Carried A
  run_by g w p (Ok nodes) = record { event = searched nodes ((ran g nodes w).opened - w.opened); stage = searching g (ran g nodes w) }
  run_by g w p (Err f) = refuse (searching g w) (InSearch (InRun f) p)

  -- the command with this letter and these operands, at byte p: a session that is set takes D, one that is filling L and C,
  -- one that is searching S, O, P and D (68 is D, 76 L, 67 C, 83 S, 79 O and 80 P)
  abbrev pub carried : Stage A → ℕ → ℕ → List ℕ → Carried A
  carried set l p ops =
      cond (l == 68) (size_step set p ops) (refuse set (WrongCondition p))
  carried (filling g) l p ops =
      cond (l == 76) (link_step g p ops)
      (cond (l == 67) (record { event = closed; stage = searching g (begun g) })
      (refuse (filling g) (WrongCondition p)))
  carried (searching g w) l p ops =
      cond (l == 83) (run_by g w p (run_check w.opened (number_in ops)))
      (cond (l == 79) (offer_by K priced g w p (read_rows g ops))
      (cond (l == 80) (record { event = reported (report_on K g w); stage = searching g w })
      (cond (l == 68) (size_step (searching g w) p ops)
      (refuse (searching g w) (WrongCondition p)))))
