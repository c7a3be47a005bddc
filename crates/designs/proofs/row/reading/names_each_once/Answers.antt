use Rattle.std.proofs.Common.{eqb, length, rules, tests, ◌∙◌, arith}
use Rattle.std.specs.List.{list_any}
use Rattle.std.proofs.lemmas.Iterator.{YieldsList-from_range}
use Rattle.std.proofs.lemmas.Iterator.Search.{all_from_yields_List}
use Rattle.designs.proofs.Orders.{all_named}
use Rattle.designs.proofs.row.reading.names_each_once.Goals as goal

pub returns : goal.returns
returns c =
    let xs = c.args.names.now in
    all_from_yields_List (λ k. list_any (λ y. eqb y k) xs) _ _ _ c.all.ensures.ran (YieldsList-from_range 0 (length xs) (length xs) (cc) (omega arith)) (λ k b q h. search (rules, tests)) ∙ all_named xs
