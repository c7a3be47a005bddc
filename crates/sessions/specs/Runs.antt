-- How histories come about, and the law over whole runs.
use Rattle.std.specs.Prelude.{ℕ, List, [], ◌∷◌}
use Rattle.measures.specs.Amounts.{Kind}
use Rattle.measures.specs.declared.link.Link.{Link}
use Rattle.designs.specs.Grids.{Grid}
use Rattle.partials.specs.Partials.{Partial}
use Rattle.sessions.specs.Calls.{called}
use Rattle.sessions.specs.Events.{Event}
use Rattle.sessions.specs.Histories.{History}
use Rattle.sessions.specs.Laws.{KeepsTheLaw}
use Rattle.sessions.specs.Stages.{Stage}
use Rattle.sessions.specs.Stages.Stage.{set}

-- A history leads to what a session holds: it starts with nothing told in a session that is set, as an accepted M leaves it,
-- and goes on call by call, for any script, byte and length of the line, refused calls included. K and priced are the
-- measure, answered is what the rule answers of a partial drawing, room is the line's length.
pub data LeadsTo {A : Type 0} (K : Kind A) (priced : Link → Link → A) (answered : Grid → Partial → A) : History A → Stage A → Type 0 where
  starts : LeadsTo K priced answered [] set
  calls : (h : History A) (s : Stage A) → LeadsTo K priced answered h s → (script : List ℕ) (p room : ℕ)
      → LeadsTo K priced answered ((called K priced answered s script p room).event ∷ h) (called K priced answered s script p room).stage

-- Of a call that found s, told e and left t: take any history that leads to s; with e in front it leads to t, and keeps the
-- law. As `starts` begins with nothing told, every history of every session keeps it.
abbrev pub GoesOnLawfully : {A : Type 0} → Kind A → (Link → Link → A) → (Grid → Partial → A) → Stage A → Event A → Stage A → Type 0
GoesOnLawfully K priced answered s e t = (h : History _) → LeadsTo K priced answered h s → LeadsTo K priced answered (e ∷ h) t × KeepsTheLaw K priced (e ∷ h)
