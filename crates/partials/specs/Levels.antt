-- The greater, the lesser and the least of amounts. Nothing here asks that amounts at most each other are equal.
use Rattle.std.specs.Prelude.{◌≡◌, false}
use Rattle.std.proofs.Common.{⊎_elim}
use Rattle.std.proofs.lemmas.Bool.{cond_both, both_ways}
use Rattle.measures.specs.Amounts.{Kind, Lawful, AtMost}
use Rattle.partials.specs.Rules.{lesser, greater}

module _ {A : Type 0} (K : Kind A) (laws : Lawful K) where
  pub at_most_itself : (x : A) → AtMost K x x
  at_most_itself x = ⊎_elim (λ h. h) (λ h. h) (laws.total x x)

  -- of two amounts, one that is not at most the other is at least it
  pub at_least : (x y : A) → K.at_most x y ≡ false → AtMost K y x
  at_least x y e = ⊎_elim (λ h. absurd (both_ways (K.at_most x y) e h)) (λ h. h) (laws.total x y)

  pub greater_left : (x y : A) → AtMost K x (greater K x y)
  greater_left x y = cond_both (K.at_most y x) x y (λ z. AtMost K x z) (λ e. at_most_itself x) (λ e. at_least y x e)

  pub greater_under : (x y z : A) → AtMost K x z → AtMost K y z → AtMost K (greater K x y) z
  greater_under x y z h k = cond_both (K.at_most y x) x y (λ w. AtMost K w z) (λ e. h) (λ e. k)

  pub lesser_left : (x y : A) → AtMost K (lesser K x y) x
  lesser_left x y = cond_both (K.at_most x y) x y (λ z. AtMost K z x) (λ e. at_most_itself x) (λ e. at_least x y e)

  pub lesser_right : (x y : A) → AtMost K (lesser K x y) y
  lesser_right x y = cond_both (K.at_most x y) x y (λ z. AtMost K z y) (λ e. e) (λ e. at_most_itself y)

  pub lesser_over : (x y z : A) → AtMost K z x → AtMost K z y → AtMost K z (lesser K x y)
  lesser_over x y z h k = cond_both (K.at_most x y) x y (λ w. AtMost K z w) (λ e. h) (λ e. k)
