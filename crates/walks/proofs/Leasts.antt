-- The least bound of the open nodes, level by level.
use Rattle.std.proofs.Common.{◌≡◌, ℕ, zero, suc, ◌+◌, ◌-◌, ◌<◌, ltb, List, [], ◌∷◌, ◌++◌, length, drop, reverse, fold, sym, refl, ap, ◌∙◌, ⊎_elim, arith, drop_of_length-le}
use mathlib.Core.Logic.{∥∥₁_elim, ∥∥₁_map}
use native.Mathlib.Nat.{ℕ_set}
use Rattle.std.proofs.lemmas.Bool.{cond_both, cases_lt, cond-true, cond-false, lt-ltb, le-ltb}
use Rattle.std.proofs.lemmas.List.{reverse-append}
use Rattle.std.proofs.lemmas.List.Sums.{fold-append}
use Rattle.measures.specs.Amounts.{Kind}
use Rattle.designs.specs.Grids.{Grid, grid_of}
use Rattle.partials.specs.Nodes.{partial_of}
use Rattle.partials.specs.Partials.{Partial, PartialOf}
use Rattle.partials.specs.Rules.{lesser}
use Rattle.partials.specs.Tree.{children, child_count}
use Rattle.partials.proofs.Counted.{children_left, children_right}
use Rattle.walks.specs.Frontiers.{frontier_of, lesser_at}
use Rattle.walks.specs.Paths.{OnPath, open_at, open_on}
use Rattle.walks.specs.Walk.{Open, all_open, least_of}
use Rattle.walks.specs.declared.level.Level.{Level}
use Rattle.walks.specs.declared.path.Path.{Path}

count_children : (g : Grid) (p : Partial) → PartialOf g p → child_count g p ≡ length (children g p)
count_children g p v =
    let k = length p.placed in
    ⊎_elim
    (λ l. cond-true (ltb k g.lefts) (k + 1) (g.rights - length p.prefix) (lt-ltb k g.lefts l) ∙ sym (children_left g p v l))
    (λ l.
    let full : k ≡ g.lefts = omega (arith, v.few) in
    cond-false (ltb k g.lefts) (k + 1) (g.rights - length p.prefix) (le-ltb k g.lefts l) ∙ (omega (arith, children_right g p v full)))
    (cases_lt k g.lefts)

module _ {A : Type 0} (K : Kind A) where
  least_append : (b : A) (xs ys : List (Open A)) → least_of K b (xs ++ ys) ≡ least_of K (least_of K b xs) ys
  least_append b [] ys = refl
  least_append b (o ∷ xs) ys = least_append (lesser K b o.inherited) xs ys

  lesser_again : (l b : A) → lesser K (lesser K l b) b ≡ lesser K l b
  lesser_again l b = cond_both (K.at_most l b) l b (λ z. lesser K z b ≡ z) (λ e. cond-true (K.at_most l b) l b e) (λ e. cond_both (K.at_most b b) b b (λ z. z ≡ b) (λ _. refl) (λ _. refl))

  least_same : (l b : A) (ps : List Partial) → least_of K (lesser K l b) (all_open b ps) ≡ lesser K l b
  least_same l b [] = refl
  least_same l b (p ∷ ps) = ap (λ z. least_of K z (all_open b ps)) (lesser_again l b) ∙ least_same l b ps

  least_left : (l b : A) (ps : List Partial) (t : ℕ) → t < length ps → least_of K l (all_open b (drop t ps)) ≡ lesser K l b
  least_left l b [] t h = let no : ⊥ = omega arith in absurd no
  least_left l b (p ∷ ps) zero h = least_same l b ps
  least_left l b (p ∷ ps) (suc t) h = least_left l b ps t (omega arith)

  -- one level: all its open nodes inherited its bound
  least_at : (g : Grid) (x : Level A) (l : A) → child_count g (partial_of x.node) ≡ length (children g (partial_of x.node)) → lesser_at K g l x ≡ least_of K l (open_at g x)
  least_at g x l e =
      let kids = children g (partial_of x.node) in
      let n = child_count g (partial_of x.node) in
      ⊎_elim
      (λ h. cond-true (ltb x.tried n) (lesser K l x.bound) l (lt-ltb x.tried n h) ∙ sym (least_left l x.bound kids x.tried (omega (arith, e))))
      (λ h. cond-false (ltb x.tried n) (lesser K l x.bound) l (le-ltb x.tried n h) ∙ ap (λ ps. least_of K l (all_open x.bound ps)) (sym (drop_of_length-le kids {i = x.tried} (omega (arith, e)))))
      (cases_lt x.tried n)

  -- the levels of a path, the deepest first
  least_on : (g : Grid) (d : ℕ) (xs : List (Level A)) (l : A) → ∥ OnPath g d xs ∥₁ → fold (lesser_at K g) l (reverse xs) ≡ least_of K l (open_on g xs)
  least_on g d [] l h = refl
  least_on g d (x ∷ xs) l h =
      let f = lesser_at K g in
      let count = ∥∥₁_elim h (ℕ_set _ _) (λ p. count_children g (partial_of x.node) p.0.0) in
      ap (fold f l) (reverse-append (x ∷ []) xs)
      ∙ (fold-append f l (reverse xs) (x ∷ [])
      ∙ (ap (λ z. f z x) (least_on g (suc d) xs l (∥∥₁_map h (λ p. p.1)))
      ∙ (least_at g x (least_of K l (open_on g xs)) count ∙ sym (least_append l (open_on g xs) (open_at g x)))))

-- a path's open nodes
pub least_of_path : {A : Type 0} (K : Kind A) (s : Path A) (l : A) → fold (lesser_at K (grid_of s.design)) l (reverse s.levels.items) ≡ least_of K l (frontier_of s)
least_of_path K s l = least_on K (grid_of s.design) 0 s.levels.items l s.lawful
