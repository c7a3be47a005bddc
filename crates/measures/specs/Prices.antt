-- What a crossing of two links costs under the delivered measures.
use Rattle.std.specs.Prelude.{ℕ, ◌*◌, Bool, true, false, cond, ◌||◌}
use Rattle.measures.specs.Sums.{sum_held}
use Rattle.measures.specs.Pairs.{pair_held}
use Rattle.measures.specs.declared.link.Class.{Class}
use Rattle.measures.specs.declared.link.Class.TheVariants.{Ordinary, Trunk}
use Rattle.measures.specs.declared.link.Link.{Link}
use Rattle.measures.specs.declared.sum.Sum.{Sum}
use Rattle.measures.specs.declared.pair.Pair.{Pair}

abbrev pub is_trunk : Class → Bool
is_trunk Ordinary = false
is_trunk Trunk = true

-- the product of the strands; a link has at most 255, so no product of two links comes near the top
abbrev pub product : Link → Link → ℕ
product a b = a.strands * b.strands

abbrev pub strand_price : Link → Link → Sum
strand_price a b = sum_held (product a b)

-- the product goes to trunk if either link is trunk, else to rest
abbrev pub trunk_price : Link → Link → Pair
trunk_price a b = cond (is_trunk a.class || is_trunk b.class) (pair_held (product a b) 0) (pair_held 0 (product a b))
