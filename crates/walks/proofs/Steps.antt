-- A run, one node at a time.
use Rattle.std.proofs.Common.{◌≡◌, ℕ, zero, suc, ◌+◌, ◌-◌, ◌<◌, true, false, List, [], ◌∷◌, ◌++◌, refl, ap, ◌∙◌, arith}
use Rattle.std.proofs.lemmas.Bool.{cond_both, both_ways, cond-true, cond-false}
use Rattle.measures.specs.Amounts.{Kind, Lawful}
use Rattle.designs.specs.Grids.{Grid}
use Rattle.designs.specs.Readings.{TwoRows}
use Rattle.partials.specs.Partials.{Partial}
use Rattle.partials.specs.Rules.{greater}
use Rattle.partials.specs.Tree.{children, is_whole, drawn}
use Rattle.partials.specs.Levels.{at_most_itself}
use Rattle.walks.specs.Runs.{Exact}
use Rattle.walks.specs.Walk.{Open, Walk, all_open, take_better, visit, open_first, is_done, open_one, run}

module _ {A : Type 0} (K : Kind A) (g : Grid) (cost : TwoRows → A) (answer : Partial → A) where
  pub run_done : (b : ℕ) (w : Walk A) → is_done K w ≡ true → run K g cost answer b w ≡ w
  run_done zero w e = refl
  run_done (suc b) w e = cond-true (is_done K w) w (run K g cost answer b (open_one K g cost answer w)) e

  pub run_on : (b n : ℕ) (w : Walk A) → n < b → is_done K w ≡ false → run K g cost answer (b - n) w ≡ run K g cost answer (b - (n + 1)) (open_one K g cost answer w)
  run_on b n w h e =
      let s : b - n ≡ suc (b - (n + 1)) = omega arith in
      ap (λ k. run K g cost answer k w) s ∙ cond-false (is_done K w) w (run K g cost answer (b - (n + 1)) (open_one K g cost answer w)) e

-- how many nodes a run opens
module _ {A : Type 0} (K : Kind A) (laws : Lawful K) (g : Grid) (cost : TwoRows → A) (answer : Partial → A) where
  better_opened : (best : TwoRows) (least : A) (n : ℕ) (rest : List (Open A)) (x : TwoRows) → (take_better K cost best least n rest x).opened ≡ n
  better_opened best least n rest x = cond_both {A = Walk A} (K.at_most least (cost x)) (record { incumbent = best; least = least; opened = n; frontier = rest }) (record { incumbent = x; least = cost x; opened = n; frontier = rest }) (λ w. w.opened ≡ n) (λ _. refl) (λ _. refl)

  visit_opened : (best : TwoRows) (least : A) (n : ℕ) (b : A) (p : Partial) (rest : List (Open A)) → (visit K g cost b p (record { incumbent = best; least = least; opened = n; frontier = rest })).opened ≡ n
  visit_opened best least n b p rest =
      cond_both {A = Walk A} (K.at_most least b) (record { incumbent = best; least = least; opened = n; frontier = rest }) _ (λ w. w.opened ≡ n) (λ _. refl)
      (λ _. cond_both {A = Walk A} (is_whole g p) (take_better K cost best least n rest (drawn p)) (record { incumbent = best; least = least; opened = n; frontier = all_open b (children g p) ++ rest }) (λ w. w.opened ≡ n) (λ _. better_opened best least n rest (drawn p)) (λ _. refl))

  -- a search with no open node is done, so one that is not opens a node
  pub opens_one : (best : TwoRows) (least : A) (opened : ℕ) (os : List (Open A)) → is_done K (record { incumbent = best; least = least; opened = opened; frontier = os }) ≡ false → (open_first K g cost answer best least opened os).opened ≡ opened + 1
  opens_one best least opened [] e = absurd (both_ways (K.at_most least least) e (at_most_itself K laws least))
  opens_one best least opened (o ∷ os) e = visit_opened best least (opened + 1) (greater K o.inherited (answer o.node)) o.node os

  pub run_exact : (b : ℕ) (w : Walk A) → Exact K b w (run K g cost answer b w)
  run_exact zero w = record { most = omega arith; none_lost = omega arith; fewer_done = λ h. absurd (omega arith) }
  run_exact (suc b) w = cond_both (is_done K w) w (run K g cost answer b (open_one K g cost answer w)) (Exact K (suc b) w)
      (λ e. record { most = omega arith; none_lost = omega arith; fewer_done = λ _. e })
      (λ e.
      let one = opens_one w.incumbent w.least w.opened w.frontier e in
      let r = run_exact b (open_one K g cost answer w) in
      record { most = omega (arith, r.most); none_lost = omega (arith, r.none_lost); fewer_done = λ h. r.fewer_done (omega arith) })
