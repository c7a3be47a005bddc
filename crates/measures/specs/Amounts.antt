-- A kind of amount, and the four laws that every lawful kind keeps.
use Rattle.std.specs.Prelude.{◌≡◌, Bool, true, ◌⊎◌}

pub record Kind (A : Type 0) : Type 0 where
  pub zero : A
  pub join : A → A → A
  -- whether the first is at most the second
  pub at_most : A → A → Bool

-- x is at most y
abbrev pub AtMost : {A : Type 0} → Kind A → A → A → Type 0
AtMost K x y = K.at_most x y ≡ true

pub record Lawful {A : Type 0} (K : Kind A) : Type 0 where
  -- join is associative and commutative, and joining zero alters nothing
  pub assoc : (x y z : A) → K.join (K.join x y) z ≡ K.join x (K.join y z)
  pub comm : (x y : A) → K.join x y ≡ K.join y x
  pub unit : (x : A) → K.join K.zero x ≡ x
  -- the order is total: any two compare, it is transitive, and two amounts at most each other are equal
  pub total : (x y : A) → AtMost K x y ⊎ AtMost K y x
  pub trans : (x y z : A) → AtMost K x y → AtMost K y z → AtMost K x z
  pub antisym : (x y : A) → AtMost K x y → AtMost K y x → x ≡ y
  -- zero is at most every amount
  pub least : (x : A) → AtMost K K.zero x
  -- join keeps the order
  pub mono : (p q r : A) → AtMost K p q → AtMost K (K.join p r) (K.join q r)
