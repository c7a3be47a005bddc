-- How many nodes may be asked for, and what a run opens.
use Rattle.std.specs.Prelude.{◌≡◌, ℕ, ◌+◌, ◌<◌, ◌≤◌, true, ◌||◌, Ok, Err, Result, ◌==◌, nat_lt, if◌then◌else◌}
use Rattle.measures.specs.Amounts.{Kind}
use Rattle.walks.specs.Walk.{Walk, is_done}
use Rattle.walks.specs.declared.fault.RunFault.{RunFault}
use Rattle.walks.specs.declared.fault.RunFault.TheVariants.{Nodes, Total}

abbrev pub run_number : RunFault → ℕ
run_number Nodes = 13
run_number Total = 14

-- 1 to 1,000,000 nodes, and at most 1,000,000,000 with those opened before
abbrev pub run_check : ℕ → ℕ → Result ℕ RunFault
run_check opened nodes =
    if nodes == 0 || nat_lt 1000000 nodes then Err Nodes
    else (if nat_lt 1000000000 (opened + nodes) then Err Total else Ok nodes)

-- a run for b nodes opens b, or fewer, and then the walk is done
pub record Exact {A : Type 0} (K : Kind A) (b : ℕ) (w v : Walk A) : Type 0 where
  pub most : v.opened ≤ w.opened + b
  pub none_lost : w.opened ≤ v.opened
  pub fewer_done : v.opened < w.opened + b → is_done K v ≡ true
