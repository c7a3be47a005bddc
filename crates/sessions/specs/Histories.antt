-- What a session told, call by call, and what such a history says of itself.
use Rattle.std.specs.Prelude.{ℕ, ◌+◌, Bool, true, false, if◌then◌else◌, List, [], ◌∷◌}
use Rattle.designs.specs.Grids.{Grid, no_links, with_link}
use Rattle.sessions.specs.Events.{Event}
use Rattle.sessions.specs.Events.Event.{sized, linked, closed, searched, offered, reported, refused}

-- the events of a session, the newest first
abbrev pub History : Type 0 → Type 0
History A = List (Event A)

module _ {A : Type 0} where
  abbrev pub is_closing : Event A → Bool
  is_closing (sized n m) = false
  is_closing (linked a b l) = false
  is_closing closed = true
  is_closing (searched asked opened) = false
  is_closing (offered taken cost) = false
  is_closing (reported v) = false
  is_closing (refused f) = false

  -- what was told since the last closing, and what was told before it; the closing itself is in neither
  abbrev pub since_closing : History A → History A
  since_closing [] = []
  since_closing (e ∷ h) = if is_closing e then [] else e ∷ since_closing h

  abbrev pub before_closing : History A → History A
  before_closing [] = []
  before_closing (e ∷ h) = if is_closing e then h else before_closing h

  -- the design in hand: the last sizes told, and the links told since; before any, a design of no switches
  abbrev pub drawn_up : Event A → Grid → Grid
  drawn_up (sized n m) g = no_links n m
  drawn_up (linked a b l) g = with_link g a b l.strands l.class
  drawn_up closed g = g
  drawn_up (searched asked opened) g = g
  drawn_up (offered taken cost) g = g
  drawn_up (reported v) g = g
  drawn_up (refused f) g = g

  abbrev pub in_hand : History A → Grid
  in_hand [] = no_links 0 0
  in_hand (e ∷ h) = drawn_up e (in_hand h)

  -- the design closed last
  abbrev pub closed_last : History A → Grid
  closed_last h = in_hand (before_closing h)

  -- how many nodes an event told were opened, and all of a list together
  abbrev pub opened_by : Event A → ℕ
  opened_by (sized n m) = 0
  opened_by (linked a b l) = 0
  opened_by closed = 0
  opened_by (searched asked opened) = opened
  opened_by (offered taken cost) = 0
  opened_by (reported v) = 0
  opened_by (refused f) = 0

  abbrev pub opened_in : History A → ℕ
  opened_in [] = 0
  opened_in (e ∷ h) = opened_by e + opened_in h
