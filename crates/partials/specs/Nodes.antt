-- A node of the code as a partial drawing.
use Rattle.partials.specs.Names.{names_of}
use Rattle.partials.specs.Partials.{Partial}
use Rattle.partials.specs.declared.node.Node.{Node}

abbrev pub partial_of : Node → Partial
partial_of n = record { placed = names_of n.left; prefix = names_of n.right }
