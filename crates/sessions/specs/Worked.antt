-- Worked values of the definitions, evaluated: each line is what the rules say of a small case.
use Rattle.std.specs.Prelude.{◌≡◌, ℕ, ◌-◌, ◌++◌, true, false, List, [], ◌∷◌, length, replicate, map, Some, None, Ok, Err, codes}
use Rattle.measures.specs.Sums.{sums, sum_held}
use Rattle.measures.specs.Pairs.{pairs, pair_held}
use Rattle.measures.specs.Prices.{strand_price, trunk_price}
use Rattle.measures.specs.Writings.{strand_written, trunk_written}
use Rattle.measures.specs.declared.link.Link.{Link}
use Rattle.measures.specs.declared.link.Class.TheVariants.{Ordinary, Trunk}
use Rattle.measures.specs.declared.sum.Sum.{Sum}
use Rattle.measures.specs.declared.pair.Pair.{Pair}
use Rattle.designs.specs.Choosing.{compared}
use Rattle.designs.specs.Costs.{between}
use Rattle.designs.specs.Crossings.{crossings}
use Rattle.designs.specs.Grids.{cell_in, link_check, sized}
use Rattle.designs.specs.Readings.{cost_of, read_rows, first_rows}
use Rattle.designs.specs.Rows.{is_row, before}
use Rattle.designs.specs.declared.comparing.Comparison.TheVariants.{Fewer, Alike, More}
use Rattle.designs.specs.declared.fault.DesignFault.TheVariants.{Size, InLink}
use Rattle.designs.specs.declared.fault.LinkFault.TheVariants.{UnknownSwitch, NoStrands, UnknownClass, CellFull}
use Rattle.designs.specs.declared.fault.RowFault.TheVariants.{LeftRow, RightRow}
use Rattle.partials.specs.Partials.{Partial, nothing_placed, unplaced, below}
use Rattle.partials.specs.Rules.{settled_price, lesser_price, lesser, greater}
use Rattle.partials.specs.Tree.{children, is_whole}
use Rattle.walks.specs.Table.{blank, crossed, mixed}
use Rattle.walks.specs.Walk.{least_of}
use Rattle.scripts.specs.Faults.{number_of, place_of}
use Rattle.scripts.specs.Scripts.{width_of, read_command, next_byte}
use Rattle.scripts.specs.declared.fault.ScriptFault.TheVariants.{ShortLine, LongScript, UnknownLetter, CutOff, WrongCondition, InSetup, InDesign, InSearch}
use Rattle.scripts.specs.declared.fault.SetupFault.TheVariants.{UnknownMeasure, UnknownRule}
use Rattle.scripts.specs.declared.fault.SearchFault.TheVariants.{InRow, InRun}
use Rattle.walks.specs.declared.fault.RunFault.TheVariants.{Nodes, Total}
use Rattle.sessions.specs.Events.Event.{sized as told_sized, linked, closed, searched, refused}
use Rattle.sessions.specs.Histories.{History, since_closing, closed_last, opened_in}
use Rattle.sessions.specs.Stages.{number_in}
use Rattle.sessions.specs.Texts.{event_line, report_line, refusal_line, row_text}

-- links, and a trunk
abbrev two : Link
two = record { strands = 2; class = Ordinary }

abbrev three : Link
three = record { strands = 3; class = Ordinary }

abbrev trunk : Link
trunk = record { strands = 5; class = Trunk }

-- the two parts of an amount of measure 2
abbrev parts : Pair → ℕ × ℕ
parts x = (x.trunk, x.rest)

abbrev top : ℕ
top = 18446744073709551615

-- amounts: prices, joins also at the top, and the two orders
pub record Amounts : Type 0 where
  pub price_1 : (strand_price two trunk).value ≡ 10
  pub price_2 : parts (trunk_price two three) ≡ (0, 6)
  pub price_2_trunk : parts (trunk_price two trunk) ≡ (10, 0)
  pub sum : (sums.join (sum_held 7) (sum_held 8)).value ≡ 15
  pub sum_at_top : (sums.join (sum_held (top - 1)) (sum_held 5)).value ≡ top
  pub pair : parts (pairs.join (pair_held 1 2) (pair_held 3 4)) ≡ (4, 6)
  pub rest_at_top : parts (pairs.join (pair_held 0 top) (pair_held 1 2)) ≡ (1, top)
  pub trunk_at_top : parts (pairs.join (pair_held (top - 1) 0) (pair_held 1 0)) ≡ (top, top)
  pub trunks_first : pairs.at_most (pair_held 0 9) (pair_held 1 0) ≡ true
  pub rest_next : pairs.at_most (pair_held 1 2) (pair_held 1 1) ≡ false
  pub lesser_of : parts (lesser pairs (pair_held 0 3) (pair_held 0 2)) ≡ (0, 2)
  pub greater_of : parts (greater pairs (pair_held 0 3) (pair_held 1 0)) ≡ (1, 0)
  pub fewer : compared sums (sum_held 1) (sum_held 2) ≡ Fewer
  pub alike : compared sums (sum_held 2) (sum_held 2) ≡ Alike
  pub more : compared pairs (pair_held 1 0) (pair_held 0 9) ≡ More

abbrev up : List ℕ
up = 0 ∷ (1 ∷ [])

abbrev down : List ℕ
down = 1 ∷ (0 ∷ [])

abbrev row_in : List ℕ → List ℕ
row_in names = names ++ replicate (24 - length names) 255

-- designs, rows and drawings
pub record Drawings : Type 0 where
  pub sizes_0 : sized 0 1 ≡ Err Size
  pub sizes_25 : sized 1 25 ≡ Err Size
  pub no_switch : link_check (blank 2 3) 2 0 0 7 ≡ Err UnknownSwitch
  pub no_strands : link_check (blank 2 3) 1 2 0 7 ≡ Err NoStrands
  pub no_class : link_check (blank 2 3) 1 2 1 2 ≡ Err UnknownClass
  pub full : link_check crossed 0 1 254 0 ≡ Err CellFull
  pub fits : link_check crossed 0 1 253 1 ≡ Ok Trunk
  pub order : is_row 2 (row_in down) ≡ true
  pub twice : is_row 2 (row_in (1 ∷ (1 ∷ []))) ≡ false
  pub too_many : is_row 2 (row_in (1 ∷ (0 ∷ (2 ∷ [])))) ≡ false
  pub stands_before : before down 1 0 ≡ true
  pub left_first : read_rows crossed (row_in (0 ∷ []) ++ row_in (0 ∷ [])) ≡ Err LeftRow
  pub right_next : read_rows crossed (row_in up ++ row_in (0 ∷ [])) ≡ Err RightRow
  pub one_crossing : length (crossings (cell_in crossed) up up) ≡ 1
  pub no_crossing : length (crossings (cell_in crossed) up down) ≡ 0
  pub turned : length (crossings (cell_in crossed) down down) ≡ 1
  pub in_trunks : parts (cost_of pairs trunk_price mixed (first_rows mixed)) ≡ (1, 0)
  pub turned_over : parts (cost_of pairs trunk_price mixed (record { left = up; right = down })) ≡ (0, 6)

abbrev both_placed : Partial
both_placed = record { placed = up; prefix = [] }

-- partial drawings, rules and the tree
pub record Trees : Type 0 where
  pub known_up : (between sums strand_price (cell_in mixed) up 0 1).value ≡ 1
  pub known_down : (between sums strand_price (cell_in mixed) up 1 0).value ≡ 6
  pub unsettled : (settled_price sums strand_price mixed both_placed).value ≡ 0
  pub settled : (settled_price sums strand_price mixed (record { placed = up; prefix = 1 ∷ [] })).value ≡ 6
  pub lesser_of_both : (lesser_price sums strand_price mixed both_placed).value ≡ 1
  pub lesser_settled : (lesser_price sums strand_price mixed (record { placed = up; prefix = 1 ∷ [] })).value ≡ 6
  pub first_children : map (λ p. p.placed) (children (blank 3 2) (record { placed = down; prefix = [] })) ≡ (1 ∷ (0 ∷ (2 ∷ []))) ∷ ((1 ∷ (2 ∷ (0 ∷ []))) ∷ ((2 ∷ (1 ∷ (0 ∷ []))) ∷ []))
  pub last_children : map (λ p. p.prefix) (children (blank 2 3) (record { placed = up; prefix = 1 ∷ [] })) ≡ (1 ∷ (0 ∷ [])) ∷ ((1 ∷ (2 ∷ [])) ∷ [])
  pub left_over : unplaced (blank 2 3) (record { placed = up; prefix = 1 ∷ [] }) ≡ 0 ∷ (2 ∷ [])
  pub kept_order : below 2 (2 ∷ (1 ∷ (0 ∷ []))) ≡ down
  pub whole : is_whole (blank 2 2) (record { placed = up; prefix = down }) ≡ true
  pub not_whole : is_whole (blank 2 2) both_placed ≡ false
  pub floor_of_all : (least_of sums (sum_held 6) (record { node = nothing_placed; inherited = sum_held 5 } ∷ (record { node = both_placed; inherited = sum_held 2 } ∷ []))).value ≡ 2
  pub floor_of_best : (least_of sums (sum_held 1) (record { node = nothing_placed; inherited = sum_held 5 } ∷ [])).value ≡ 1

-- scripts and refusals
pub record Scripts : Type 0 where
  pub widths : map width_of (codes "MDLCSOP") ≡ Some 2 ∷ (Some 2 ∷ (Some 4 ∷ (Some 0 ∷ (Some 4 ∷ (Some 48 ∷ (Some 0 ∷ []))))))
  pub unknown : width_of 109 ≡ None
  pub found : read_command (codes "CMaa") 1 256 ≡ Ok (record { letter = 77; place = 1; next = 4 })
  pub short_line : read_command (codes "Z") 0 255 ≡ Err (ShortLine 0)
  pub unknown_letter : read_command (codes "Z") 0 256 ≡ Err (UnknownLetter 0)
  pub cut_off : read_command (codes "CMa") 1 256 ≡ Err (CutOff 1)
  pub at_the_end : read_command (codes "C") 1 256 ≡ Err (CutOff 1)
  pub next_after_short : next_byte (codes "CC") 1 (Err (ShortLine 1)) ≡ 1
  pub next_after_unknown : next_byte (codes "CZC") 1 (Err (UnknownLetter 1)) ≡ 3
  pub nodes : number_in (0 ∷ (15 ∷ (66 ∷ (64 ∷ [])))) ≡ 1000000
  pub numbers : map number_of (ShortLine 0 ∷ (LongScript ∷ (UnknownLetter 0 ∷ (CutOff 0 ∷ (WrongCondition 0 ∷ (InSetup UnknownMeasure 0 ∷ (InSetup UnknownRule 0 ∷ (InDesign Size 0 ∷
      (InDesign (InLink UnknownSwitch) 0 ∷ (InDesign (InLink NoStrands) 0 ∷ (InDesign (InLink UnknownClass) 0 ∷ (InDesign (InLink CellFull) 0 ∷
      (InSearch (InRun Nodes) 0 ∷ (InSearch (InRun Total) 0 ∷ (InSearch (InRow LeftRow) 0 ∷ (InSearch (InRow RightRow) 0 ∷ []))))))))))))))))
      ≡ 1 ∷ (2 ∷ (3 ∷ (4 ∷ (5 ∷ (6 ∷ (7 ∷ (8 ∷ (9 ∷ (10 ∷ (11 ∷ (12 ∷ (13 ∷ (14 ∷ (15 ∷ (16 ∷ [])))))))))))))))
  pub place_of_long : place_of LongScript ≡ 0

-- a history: two switches a side, two links, closed, then another design that is not closed yet; its oldest event, before any
-- design, shows what is not counted
abbrev told : History Sum
told = told_sized 1 1 ∷ (searched 7 1 ∷ (refused (CutOff 9) ∷ (searched 4 4 ∷ (closed ∷ (linked 1 0 three ∷ (linked 0 1 two ∷ (told_sized 2 2 ∷ (searched 9 9 ∷ []))))))))

-- written amounts, lines, and a history
pub record Lines : Type 0 where
  pub written_1 : strand_written (sum_held 10768140000) ≡ codes "10768140000"
  pub written_2 : trunk_written (pair_held 6 0) ≡ codes "6/0"
  pub refusal : refusal_line (InDesign (InLink CellFull) 52) ≡ codes "refused 12 design 52\n"
  pub opened : event_line strand_written (searched 100 1) ≡ codes "opened 1\n"
  pub row : row_text (0 ∷ (11 ∷ (3 ∷ []))) ≡ codes "0,11,3"
  pub open_report : report_line trunk_written (record { done = false; opened = 4; cost = pair_held 6 0; floor = pair_held 0 6; size = None; drawing = record { left = up; right = down } }) ≡ codes "open 4 6/0 0/6 - 0,1 1,0\n"
  pub done_report : report_line strand_written (record { done = true; opened = 5; cost = sum_held 0; floor = sum_held 0; size = Some 11; drawing = record { left = up; right = up } }) ≡ codes "done 5 0 0 11 0,1 0,1\n"
  pub design : (cost_of sums strand_price (closed_last told) (record { left = up; right = up })).value ≡ 6
  pub since : opened_in (since_closing told) ≡ 5
