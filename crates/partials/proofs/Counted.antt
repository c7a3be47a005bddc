-- How many nodes are below a partial drawing.
use Rattle.std.proofs.Common.{◌≡◌, ℕ, zero, suc, ◌+◌, ◌*◌, ◌<◌, ◌≤◌, ltb, List, [], ◌∷◌, ◌++◌, length, sym, refl, ap, ◌∙◌, ⊎_elim, suc-mul, zero-mul, arith, length-append, All}
use Rattle.std.proofs.lemmas.List.{length_push, nil_from_length}
use Rattle.std.proofs.lemmas.List.Elements.{All-append, All-weaker, All-head, All-tail}
use Rattle.std.proofs.lemmas.Bool.{cond-true, cond-false, cases_eq, lt-ltb, le-ltb}
use Rattle.designs.specs.Grids.{Grid}
use Rattle.designs.specs.Rows.{times}
use Rattle.designs.proofs.Orders.{length_from_once}
use Rattle.partials.specs.Partials.{Partial, PartialOf, unplaced}
use Rattle.partials.specs.Sizes.{right_size, left_size, tree_size}
use Rattle.partials.specs.Tree.{placings, addings, children, height, nodes_under, nodes_to, nodes_below}
use Rattle.partials.specs.Children.{put, add, put_valid, add_valid, length-put, free_below, free_named, none_unplaced, all_children}
use Rattle.designs.proofs.Orders.{times-append}

-- prefix and unplaced switches are all right switches
pub prefix_and_unplaced : (g : Grid) (p : Partial) → All (λ v. v < g.rights) p.prefix → ((v : ℕ) → times v p.prefix ≤ 1) → length p.prefix + length (unplaced g p) ≡ g.rights
prefix_and_unplaced g p named once =
    sym (length-append p.prefix (unplaced g p))
    ∙ length_from_once g.rights (p.prefix ++ unplaced g p) (All-append (λ u. u < g.rights) p.prefix (unplaced g p) named (free_below g p))
    (λ u l.
    let sum = times-append u p.prefix (unplaced g p) in
    ⊎_elim
    (λ e. let f = free_named g p u l e in omega arith)
    (λ ne. let f = none_unplaced g p u ne in let o = once u in omega arith)
    (cases_eq (times u p.prefix) 0))

pub unplaced_count : (g : Grid) (p : Partial) → PartialOf g p → length p.prefix + length (unplaced g p) ≡ g.rights
unplaced_count g p v = prefix_and_unplaced g p v.named v.once

-- as many nodes below each
under_same : (f : Partial → ℕ) (c : ℕ) (ps : List Partial) → All (λ p. f p ≡ c) ps → nodes_under f ps ≡ length ps * (1 + c)
under_same f c [] h = sym (zero-mul (1 + c))
under_same f c (p ∷ ps) h = let r = under_same f c ps (All-tail (λ p. f p ≡ c) p ps h) in let e = All-head (λ p. f p ≡ c) p ps h in let m = suc-mul (length ps) (1 + c) in omega arith

under_alike : (f h : Partial → ℕ) (ps : List Partial) → All (λ p. f p ≡ h p) ps → nodes_under f ps ≡ nodes_under h ps
under_alike f h [] e = refl
under_alike f h (p ∷ ps) e = let r = under_alike f h ps (All-tail (λ p. f p ≡ h p) p ps e) in let q = All-head (λ p. f p ≡ h p) p ps e in omega arith

placings-length : (i k : ℕ) (xs : List ℕ) → length (placings i k xs) ≡ suc i
placings-length zero k xs = refl
placings-length (suc i) k xs = ap suc (placings-length i k xs)

addings-length : (p : Partial) (us : List ℕ) → length (addings p us) ≡ length us
addings-length p [] = refl
addings-length p (u ∷ us) = ap suc (addings-length p us)

module _ (g : Grid) (p : Partial) (v : PartialOf g p) where
  pub children_left : length p.placed < g.lefts → length (children g p) ≡ length p.placed + 1
  children_left l =
      let k = length p.placed in
      ap length (cond-true (ltb k g.lefts) (placings k k p.placed) (addings p (unplaced g p)) (lt-ltb k g.lefts l)) ∙ (placings-length k k p.placed ∙ (omega arith))

  pub children_right : length p.placed ≡ g.lefts → length (children g p) + length p.prefix ≡ g.rights
  children_right e =
      let k = length p.placed in
      let n = ap length (cond-false (ltb k g.lefts) (placings k k p.placed) (addings p (unplaced g p)) (le-ltb k g.lefts (omega arith))) ∙ addings-length p (unplaced g p) in
      let c = unplaced_count g p v in
      omega arith

  -- one switch more is placed in a child
  pub child_height : All (λ c. height g c + 1 ≡ height g p) (children g p)
  child_height = all_children g p v (λ c. height g c + 1 ≡ height g p)
      (λ i l.
      let n = length-put i (length p.placed) p.placed in
      let none = ap length (v.early l) in
      omega arith)
      (λ u l f.
      let n = length_push p.prefix u in
      let c = unplaced_count g (add g p v u) (add_valid g p v u l f) in
      omega arith)

-- the nodes below a full left row
size_right : (r : ℕ) (g : Grid) (p : Partial) → PartialOf g p → length p.placed ≡ g.lefts → length p.prefix + r ≡ g.rights → nodes_to r g p ≡ right_size r
size_right zero g p v l e = refl
size_right (suc r) g p v l e =
    let n : length (children g p) ≡ suc r = omega (arith, children_right g p v l) in
    let each = all_children g p v (λ c. nodes_to r g c ≡ right_size r)
    (λ i h. let no : ⊥ = omega arith in absurd no)
    (λ u h f. size_right r g (add g p v u) (add_valid g p v u h f) l (omega (arith, length_push p.prefix u))) in
    under_same (nodes_to r g) (right_size r) (children g p) each ∙ ap (λ m. m * (1 + right_size r)) n

-- the nodes below the first left switches
size_left : (i : ℕ) (g : Grid) (p : Partial) → PartialOf g p → length p.placed + i ≡ g.lefts → p.prefix ≡ [] → nodes_to (i + g.rights) g p ≡ left_size g.rights (length p.placed) i
size_left zero g p v l e =
    let z : 0 + g.rights ≡ g.rights = omega arith in
    ap (λ n. nodes_to n g p) z ∙ size_right g.rights g p v (omega arith) (omega (arith, ap length e))
size_left (suc i) g p v l e =
    let k = length p.placed in
    let z : suc i + g.rights ≡ suc (i + g.rights) = omega arith in
    let lt : k < g.lefts = omega arith in
    let c = left_size g.rights (k + 1) i in
    let each = all_children g p v (λ c. nodes_to (i + g.rights) g c ≡ left_size g.rights (k + 1) i)
    (λ j h.
    let n = length-put j k p.placed in
    let m : length (put g p v j).placed ≡ k + 1 = omega arith in
    size_left i g (put g p v j) (put_valid g p v j h) (omega arith) refl ∙ ap (λ q. left_size g.rights q i) m)
    (λ u h f. let no : ⊥ = omega arith in absurd no) in
    ap (λ n. nodes_to n g p) z ∙ (under_same (nodes_to (i + g.rights) g) c (children g p) each ∙ ap (λ m. m * (1 + c)) (children_left g p v lt))

-- the whole tree
pub tree_counted : (g : Grid) (p : Partial) → PartialOf g p → p.placed ≡ [] → p.prefix ≡ [] → nodes_below g p ≡ tree_size g.lefts g.rights
tree_counted g p v e f =
    let z = ap length e in
    let y = ap length f in
    let h : height g p ≡ g.lefts + g.rights = omega arith in
    ap (λ n. nodes_to n g p) h ∙ (size_left g.lefts g p v (omega arith) f ∙ ap (λ k. left_size g.rights k g.lefts) z)

-- the nodes below a node are its children and the nodes below them
pub nodes_step : (g : Grid) (p : Partial) → PartialOf g p → nodes_under (nodes_below g) (children g p) ≡ nodes_below g p
nodes_step g p v = step (height g p) refl
  where
    step : (n : ℕ) → height g p ≡ n → nodes_under (nodes_below g) (children g p) ≡ nodes_to n g p
    step zero e =
        let full : length p.placed ≡ g.lefts = omega (arith, v.few) in
        let none : length (children g p) ≡ 0 = omega (arith, children_right g p v full) in
        ap (nodes_under (nodes_below g)) (nil_from_length (children g p) none)
    step (suc n) e = under_alike (nodes_below g) (nodes_to n g) (children g p)
        (All-weaker (λ c. height g c + 1 ≡ height g p) (λ c. nodes_below g c ≡ nodes_to n g c) (λ c h. let m : height g c ≡ n = omega arith in ap (λ k. nodes_to k g c) m) (children g p) (child_height g p v))
