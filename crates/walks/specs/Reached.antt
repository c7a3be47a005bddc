-- Searches as they come about, and what is true of each.
use Rattle.measures.specs.Amounts.{Kind, AtMost}
use Rattle.designs.specs.Grids.{Grid}
use Rattle.designs.specs.Readings.{TwoRows}
use Rattle.partials.specs.Partials.{Partial, PartialOf, DrawingOf, Completes}
use Rattle.walks.specs.Walk.{Walk, start, open_one, offer, lower_bound}

-- a walk below a root: it starts there with some drawing, and goes on by opening nodes and by offers of drawings below the root
pub data Reached {A : Type 0} (K : Kind A) (g : Grid) (cost : TwoRows → A) (answer : Partial → A) (root : Partial) : Walk A → Type 0 where
  starts : (first : TwoRows) → PartialOf g root → DrawingOf g first → Completes root first → Reached K g cost answer root (start K g cost answer root first)
  opens : (w : Walk A) → Reached K g cost answer root w → Reached K g cost answer root (open_one K g cost answer w)
  offers : (w : Walk A) (x : TwoRows) → Reached K g cost answer root w → DrawingOf g x → Completes root x → Reached K g cost answer root (offer K cost x w)

-- no drawing below the root costs less than z
abbrev pub NoneBelow : {A : Type 0} → Kind A → Grid → (TwoRows → A) → Partial → A → Type 0
NoneBelow K g cost root z = (x : TwoRows) → DrawingOf g x → Completes root x → AtMost K z (cost x)

-- from one moment of a walk to a later one the best costs no more, and the lower bound is no lower
pub record Steady {A : Type 0} (K : Kind A) (w v : Walk A) : Type 0 where
  pub cheaper : AtMost K v.least w.least
  pub higher : AtMost K (lower_bound K w) (lower_bound K v)
