-- The delivered rules as one.
use Rattle.std.specs.Prelude.{ℕ, cond, Ok, Err, Result, ◌==◌}
use Rattle.partials.specs.declared.delivered.Rule.{Rule}
use Rattle.partials.specs.declared.delivered.Rule.TheVariants.{Settled, Lesser}
use Rattle.partials.specs.declared.delivered.UnknownRule.{UnknownRule}

-- what the chosen rule answers, of what rule 1 and rule 2 answer
abbrev pub ruled : {A : Type 0} → Rule → A → A → A
ruled Settled one two = one
ruled Lesser one two = two

-- the rule with a number: 1 is settled, 2 lesser, and no other number names a rule
abbrev pub read_rule : ℕ → Result Rule UnknownRule
read_rule n = cond (n == 1) (Ok Settled) (cond (n == 2) (Ok Lesser) (Err (record {})))
