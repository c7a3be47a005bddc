-- What every history of a session keeps. Nothing here speaks of a state of the program. K is a kind of amount (zero, join, and
-- whether one is at most another), priced is the price of a crossing; Unit {0} asks nothing.
use Rattle.std.specs.Prelude.{◌≡◌, ◌<◌, ◌≤◌, true, [], ◌∷◌, All}
use Rattle.std.specs.List.{list_any}
use Rattle.measures.specs.Amounts.{Kind, AtMost}
use Rattle.measures.specs.declared.link.Link.{Link}
use Rattle.designs.specs.Grids.{Grid}
use Rattle.designs.specs.Readings.{TwoRows, cost_of}
use Rattle.partials.specs.Partials.{DrawingOf}
use Rattle.partials.specs.Sizes.{tree_size, unless_above}
use Rattle.walks.specs.Reports.{Values}
use Rattle.sessions.specs.Events.{Event}
use Rattle.sessions.specs.Events.Event.{sized, linked, closed, searched, offered, reported, refused}
use Rattle.sessions.specs.Histories.{History, is_closing, since_closing, closed_last, opened_in}

module _ {A : Type 0} (K : Kind A) where
  -- A report r beside an event that was told earlier, since the same closing: it has no lower floor and no higher cost than an earlier
  -- report, and says done if that did; it costs no more than a drawing that was offered; and if a search opened fewer nodes
  -- than it was asked for, the report says done.
  abbrev pub Agrees : Values A → Event A → Type 0
  Agrees r (sized n m) = Unit {0}
  Agrees r (linked a b l) = Unit {0}
  Agrees r closed = Unit {0}
  Agrees r (searched asked opened) = opened < asked → r.done ≡ true
  Agrees r (offered taken cost) = AtMost K r.cost cost
  Agrees r (reported earlier) = AtMost K earlier.floor r.floor × AtMost K r.cost earlier.cost × (earlier.done ≡ true → r.done ≡ true)
  Agrees r (refused f) = Unit {0}

  module _ (priced : Link → Link → A) where
    -- A report is true of the design g, beside the events told since g was closed: it shows a drawing of g and that
    -- drawing's cost; no drawing of g costs less than the floor; it says done exactly if the cost is at most the floor, and
    -- then no drawing costs less than the one shown; the opened count is what the searches since the closing opened, and at
    -- most the number of nodes of g's tree, which is the size told, unless it is above 1,000,000,000: then none is.
    pub record TrueOf (g : Grid) (since : History A) (r : Values A) : Type 0 where
      pub drawing : DrawingOf g r.drawing
      pub priced_so : r.cost ≡ cost_of K priced g r.drawing
      pub bounded : (x : TwoRows) → DrawingOf g x → AtMost K r.floor (cost_of K priced g x)
      pub exactly : r.done ≡ K.at_most r.cost r.floor
      pub least : r.done ≡ true → (x : TwoRows) → DrawingOf g x → AtMost K r.cost (cost_of K priced g x)
      pub opened : r.opened ≡ opened_in since
      pub counted : r.opened ≤ tree_size g.lefts g.rights
      pub size : r.size ≡ unless_above (tree_size g.lefts g.rights)
      pub agrees : All (Agrees r) since

    -- What an event keeps beside the history h before it (`list_any is_closing h`: a closing was told): searches, offers and
    -- reports stand behind a closing, a search opens no more than it was asked for, and a report is true of the design closed
    -- last.
    abbrev pub Keeps : History A → Event A → Type 0
    Keeps h (sized n m) = Unit {0}
    Keeps h (linked a b l) = Unit {0}
    Keeps h closed = Unit {0}
    Keeps h (searched asked opened) = (list_any is_closing h ≡ true) × (opened ≤ asked)
    Keeps h (offered taken cost) = list_any is_closing h ≡ true
    Keeps h (reported r) = (list_any is_closing h ≡ true) × TrueOf (closed_last h) (since_closing h) r
    Keeps h (refused f) = Unit {0}

    -- the law: each event of the history keeps it beside those before
    abbrev pub KeepsTheLaw : History A → Type 0
    KeepsTheLaw [] = Unit {0}
    KeepsTheLaw (e ∷ h) = Keeps h e × KeepsTheLaw h
