-- Switches in a row, as a list.
use Rattle.std.specs.Prelude.{ℕ, List, take}
use Rattle.partials.specs.declared.names.Names.{Names}

abbrev pub names_of : {N : ℕ} → Names N → List ℕ
names_of n = take n.count n.names
