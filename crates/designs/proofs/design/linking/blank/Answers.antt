use Rattle.std.proofs.Common.{◌≡◌, ℕ, length, get_or, ap, ◌∙◌, arith}
use Rattle.measures.specs.Prices.{is_trunk}
use Rattle.measures.specs.declared.link.Class.TheVariants.{Ordinary}
use Rattle.designs.proofs.Blank.{get_or_same, is_blank}
use Rattle.designs.proofs.design.linking.blank.Goals as goal

pub invariant_of-result : goal.invariant_of-result
invariant_of-result c =
    let s = c.no_cells-cells.ensures.strands in
    let t = c.no_cells-cells.ensures.classes in
    let none : (k : ℕ) → get_or c.no_cells-cells.result.strands k 0 ≡ 0 = λ k. ap (λ l. get_or l k 0) s ∙ get_or_same 0 576 k in
    let plain : (k : ℕ) → get_or c.no_cells-cells.result.classes k Ordinary ≡ Ordinary = λ k. ap (λ l. get_or l k Ordinary) t ∙ get_or_same Ordinary 576 k in
    record { whole = (ap length s, ap length t); bytes = (λ k. omega (arith, none k)); quiet = (λ k e. ap is_trunk (plain k)) }

pub returns : goal.returns
returns c = is_blank c.args.left.count c.args.right.count c.no_cells-cells.result c.no_cells-cells.ensures.strands c.no_cells-cells.ensures.classes
