-- Paths that grow and shrink at their deep end.
use Rattle.std.proofs.Common.{◌≡◌, ℕ, zero, suc, ◌+◌, ◌-◌, ◌<◌, List, [], ◌∷◌, ◌++◌, length, get_or, take, drop, set, Some, None, sym, refl, ap, ◌∙◌, subst, append_assoc, append-nil, arith, length-set, length-append, All}
use mathlib.Core.Logic.{∥∥₁_map, ∥∥₁_map₂}
use Rattle.arrayvec.specs.ArrayVec.{ArrayVec, array_vec_len, with_items}
use Rattle.arrayvec.proofs.ArrayVecLemmas.{items-with_items}
use Rattle.designs.specs.Grids.{Grid}
use Rattle.partials.specs.Nodes.{partial_of}
use Rattle.partials.specs.Partials.{Partial}
use Rattle.partials.specs.Tree.{children, nth}
use Rattle.partials.specs.Children.{put_valid, add_valid, all_children, length-put}
use Rattle.std.proofs.lemmas.List.{length_push, take_all, take_more, take_more_set}
use Rattle.std.proofs.lemmas.List.Elements.{All-head, All-tail}
use Rattle.walks.specs.Paths.{Deep, OnPath, open_at, open_on}
use Rattle.walks.specs.Walk.{all_open}
use Rattle.walks.specs.declared.level.Level.{Level}

-- a vector with a last element, and the same after a write of that element
module _ {X : Type 0} (v : ArrayVec X) (xs : List X) (e : xs ≡ v.items) (some : 0 < length xs) where
  lt : length xs - 1 < length xs
  lt = omega arith

  top : length xs - 1 + 1 ≡ length xs
  top = omega arith

  pub with_last : (x : X) → x ≡ get_or xs (length xs - 1) x → v.items ≡ take (array_vec_len v - 1) v.items ++ (x ∷ [])
  with_last x is = subst (λ ys. v.items ≡ take (length ys - 1) ys ++ (x ∷ [])) e
      (sym e ∙ (sym (take_all (length xs) xs (omega arith)) ∙ (ap (λ n. take n xs) (sym top) ∙ (take_more xs (length xs - 1) x lt ∙ ap (λ y. take (length xs - 1) xs ++ (y ∷ [])) (sym is)))))

  pub written_last : (y : X) → (with_items v (set xs (length xs - 1) y)).items ≡ take (array_vec_len v - 1) v.items ++ (y ∷ [])
  written_last y =
      let ys = set xs (length xs - 1) y in
      let same : length ys ≡ length xs = length-set xs (length xs - 1) y in
      items-with_items v ys (same ∙ ap length e)
      ∙ (sym (take_all (length xs) ys (omega (arith, same))) ∙ (ap (λ n. take n ys) (sym top) ∙ (take_more_set xs (length xs - 1) y lt ∙ ap (λ zs. take (length zs - 1) zs ++ (y ∷ [])) e)))

module _ {A : Type 0} (g : Grid) where
  -- a level more: its open nodes come first
  pub open_more : (xs : List (Level A)) (x : Level A) → open_on g (xs ++ (x ∷ [])) ≡ open_at g x ++ open_on g xs
  open_more [] x = sym (append-nil (open_at g x))
  open_more (y ∷ ys) x = ap (λ os. os ++ open_at g y) (open_more ys x) ∙ append_assoc (open_at g x) (open_on g ys) (open_at g y)

  pub path_more : (l : ℕ) (xs : List (Level A)) (x : Level A) → OnPath g l xs → Deep g (l + length xs) (partial_of x.node) → OnPath g l (xs ++ (x ∷ []))
  path_more l [] x h d = (let e : l + 0 ≡ l = omega arith in subst (λ n. Deep g n (partial_of x.node)) e d, tt)
  path_more l (y ∷ ys) x h d = (h.0, path_more (suc l) ys x h.1 (let e : l + suc (length ys) ≡ suc l + length ys = omega arith in subst (λ n. Deep g n (partial_of x.node)) e d))

  pub path_fewer : (l : ℕ) (xs ys : List (Level A)) → OnPath g l (xs ++ ys) → OnPath g l xs
  path_fewer l [] ys h = tt
  path_fewer l (x ∷ xs) ys h = (h.0, path_fewer (suc l) xs ys h.1)

  pub path_last : (l : ℕ) (xs : List (Level A)) (x : Level A) → OnPath g l (xs ++ (x ∷ [])) → Deep g (l + length xs) (partial_of x.node)
  path_last l [] x h = let e : l ≡ l + 0 = omega arith in subst (λ n. Deep g n (partial_of x.node)) e h.0
  path_last l (y ∷ ys) x h = let e : suc l + length ys ≡ l + suc (length ys) = omega arith in subst (λ n. Deep g n (partial_of x.node)) e (path_last (suc l) ys x h.1)

-- what is behind the members before one
pub nth_some : {X : Type 0} (xs : List X) (i : ℕ) (x : X) → nth xs i ≡ Some x → drop i xs ≡ x ∷ drop (i + 1) xs
nth_some [] i x e = cc
nth_some (y ∷ ys) zero x e = cc
nth_some (y ∷ ys) (suc i) x e = let s : suc i + 1 ≡ suc (i + 1) = omega arith in nth_some ys i x e ∙ ap (λ n. x ∷ drop n (y ∷ ys)) (sym s)

pub nth_none : {X : Type 0} (xs : List X) (i : ℕ) → nth xs i ≡ None → drop i xs ≡ []
nth_none [] zero e = refl
nth_none [] (suc i) e = refl
nth_none (y ∷ ys) zero e = cc
nth_none (y ∷ ys) (suc i) e = nth_none ys i e

pub nth_all : {X : Type 0} (P : X → Type 0) (xs : List X) (i : ℕ) (x : X) → All P xs → nth xs i ≡ Some x → P x
nth_all P [] i x h e = let no : ◌≡◌ {A = ℕ} 0 1 = cc in absurd (omega (arith, no))
nth_all P (y ∷ ys) zero x h e = let s : y ≡ x = cc in subst P s (All-head P y ys h)
nth_all P (y ∷ ys) (suc i) x h e = nth_all P ys i x (All-tail P y ys h) e

-- a child has one switch more placed
pub child_deep : (g : Grid) (l : ℕ) (p : Partial) → Deep g l p → All (Deep g (l + 1)) (children g p)
child_deep g l p d = all_children g p d.0 (Deep g (l + 1))
    (λ i h. (put_valid g p d.0 i h, omega (arith, length-put i (length p.placed) p.placed, d.1, ap length (d.0.early h))))
    (λ u h f. (add_valid g p d.0 u h f, omega (arith, length_push p.prefix u, d.1)))

-- a level with one child more taken
abbrev pub taken_more : {A : Type 0} → Level A → Level A
taken_more x = record { node = x.node; bound = x.bound; tried = x.tried + 1 }

-- xs is a path with the deepest level x, and up is the path above it
module _ {A : Type 0} (g : Grid) (xs up : List (Level A)) (x : Level A) (e : xs ≡ up ++ (x ∷ [])) where
  abbrev kids : List Partial
  kids = children g (partial_of x.node)

  from_top : 0 + length up ≡ length up
  from_top = omega arith

  pub frontier_more : open_on g xs ≡ open_at g x ++ open_on g up
  frontier_more = ap (open_on g) e ∙ open_more g up x

  pub lawful_more : ∥ Deep g (length up) (partial_of x.node) ∥₁ → ∥ OnPath g 0 up ∥₁ → ∥ OnPath g 0 xs ∥₁
  lawful_more d h = ∥∥₁_map₂ d h (λ q p. subst (OnPath g 0) (sym e) (path_more g 0 up x p (subst (λ n. Deep g n (partial_of x.node)) (sym from_top) q)))

  pub lawful_above : ∥ OnPath g 0 xs ∥₁ → ∥ OnPath g 0 up ∥₁
  lawful_above h = ∥∥₁_map h (λ p. path_fewer g 0 up (x ∷ []) (subst (OnPath g 0) e p))

  pub deepest : ∥ OnPath g 0 xs ∥₁ → ∥ Deep g (length up) (partial_of x.node) ∥₁
  deepest h = ∥∥₁_map h (λ p. subst (λ n. Deep g n (partial_of x.node)) from_top (path_last g 0 up x (subst (OnPath g 0) e p)))

  -- without a child left the deepest level is given up
  pub back_frontier : None ≡ nth kids x.tried → open_on g up ≡ open_on g xs
  back_frontier n = sym (frontier_more ∙ ap (λ ps. all_open x.bound ps ++ open_on g up) (nth_none kids x.tried (sym n)))

-- with a child left, that child is the first open node, and ys is the path after it was taken
module _ {A : Type 0} (g : Grid) (xs ys up : List (Level A)) (x : Level A) (e : xs ≡ up ++ (x ∷ [])) (f : ys ≡ up ++ (taken_more x ∷ [])) where
  pub taken_lawful : ∥ OnPath g 0 xs ∥₁ → ∥ OnPath g 0 ys ∥₁
  taken_lawful h = lawful_more g ys up (taken_more x) f (deepest g xs up x e h) (lawful_above g xs up x e h)

  module _ (c : Partial) (is : Some c ≡ nth (children g (partial_of x.node)) x.tried) where
    pub taken_deep : ∥ OnPath g 0 xs ∥₁ → ∥ Deep g (length ys) c ∥₁
    taken_deep h =
        let n : length up + 1 ≡ length ys = omega (arith, ap length f, length-append up (taken_more x ∷ [])) in
        ∥∥₁_map (deepest g xs up x e h) (λ d. subst (λ k. Deep g k c) n (nth_all (Deep g (length up + 1)) (children g (partial_of x.node)) x.tried c (child_deep g (length up) (partial_of x.node) d) (sym is)))

    pub taken_frontier : open_on g xs ≡ record { node = c; inherited = x.bound } ∷ open_on g ys
    taken_frontier =
        let above = open_on g up in
        frontier_more g xs up x e ∙ (ap (λ ps. all_open x.bound ps ++ above) (nth_some (children g (partial_of x.node)) x.tried c (sym is)) ∙ ap (λ os. record { node = c; inherited = x.bound } ∷ os) (sym (frontier_more g ys up (taken_more x) f)))
