use Rattle.std.proofs.Common.{◌≡◌, ◌-◌, ◌++◌, replicate}
use Rattle.designs.specs.Rows.{number_order}
use Rattle.designs.proofs.row.reading.numbers.Given as goal

abbrev pub invariant-loop-k : goal.invariant-loop-k
invariant-loop-k l = l.byte-items ≡ number_order l.k ++ replicate (l.count - l.k) 255
