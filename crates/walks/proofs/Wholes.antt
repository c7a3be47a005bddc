-- Which nodes are whole drawings.
use Rattle.std.proofs.Common.{◌≡◌, ℕ, suc, ◌<◌, ◌≤◌, Bool, true, false, cond, ◌&&◌, eqb, length, IfNone, Some, None, Option, sym, refl, ap, ◌∙◌, ⊎_elim, arith, MatchOption}
use mathlib.Core.Bool.{Bool-set}
use mathlib.Core.Logic.{∥∥₁_elim}
use native.Mathlib.Bridge.{le_prop}
use Rattle.std.proofs.lemmas.Bool.{cases_Bool, cases_eq, both_ways, and_from, and_parts, eq-eqb}
use Rattle.designs.specs.Grids.{Grid}
use Rattle.std.specs.Option.{option_map}
use Rattle.designs.specs.Readings.{TwoRows, rows_of, rows_named}
use Rattle.designs.specs.Rows.{each_once, is_order}
use Rattle.designs.specs.declared.drawing.Drawing.{Drawing}
use Rattle.designs.proofs.Names.{decides_order}
use Rattle.partials.specs.Partials.{Partial, PartialOf}
use Rattle.partials.specs.Tree.{is_whole, drawn}
use Rattle.partials.specs.Children.{drawn_drawing}
use Rattle.partials.proofs.Counted.{unplaced_count}
use Rattle.walks.specs.Paths.{Deep}

-- a partial drawing is whole if its lists are orders of all switches
orders_whole : (g : Grid) (p : Partial) → PartialOf g p → (is_order g.lefts p.placed && is_order g.rights p.prefix) ≡ is_whole g p
orders_whole g p v =
    let a = is_order g.lefts p.placed in
    let b = is_order g.rights p.prefix in
    let left = eqb (length p.placed) g.lefts in
    let right = eqb (length p.prefix) g.rights in
    ⊎_elim
    (λ w.
    let d = drawn_drawing g p v w in
    and_from a b ((decides_order g.lefts p.placed).1 d.0) ((decides_order g.rights p.prefix).1 d.1) ∙ sym w)
    (λ w. ⊎_elim
    (λ t.
    let both = and_parts a b t in
    absurd (both_ways (is_whole g p) w (and_from left right (and_parts left (each_once g.lefts p.placed) both.0).0 (and_parts right (each_once g.rights p.prefix) both.1).0)))
    (λ f. f ∙ sym w)
    (cases_Bool (a && b)))
    (cases_Bool (is_whole g p))

pub whole_named : (g : Grid) (d : ℕ) (p : Partial) → ∥ Deep g d p ∥₁ → rows_named g p.placed p.prefix ≡ cond (is_whole g p) (Some (drawn p)) None
whole_named g d p h = ap (λ b. cond b (Some (drawn p)) None) (∥∥₁_elim h (Bool-set _ _) (λ v. orders_whole g p v.0))

pub found : (r : Option Drawing) (b : Bool) (x : TwoRows) → option_map rows_of r ≡ cond b (Some x) None → MatchOption r (b ≡ false) (λ y. (b ≡ true) × (rows_of y ≡ x))
found None true x e = cc
found None false x e = refl
found (Some y) true x e = (refl, cc)
found (Some y) false x e = (cc, cc)

-- a node that is not whole has a switch to place yet, so it is less than 48 levels deep
pub room : (g : Grid) (d : ℕ) (p : Partial) → g.lefts ≤ 24 → g.rights ≤ 24 → ∥ Deep g d p ∥₁ → is_whole g p ≡ false → d < 48
room g d p l r h w = ∥∥₁_elim h (le_prop {n = suc d} {m = 48})
    (λ v.
    let k = length p.placed in
    let j = length p.prefix in
    let few = v.0.few in
    let all = unplaced_count g p v.0 in
    ⊎_elim
    (λ e. ⊎_elim
    (λ f. absurd (both_ways (is_whole g p) w (and_from (eqb k g.lefts) (eqb j g.rights) (eq-eqb k g.lefts e) (eq-eqb j g.rights f))))
    (λ n. omega (arith, v.1))
    (cases_eq j g.rights))
    (λ n. omega (arith, v.1))
    (cases_eq k g.lefts))

pub found_room : {X : Type 0} (r : Option X) (b : Bool) (P : X → Type 0) (d : ℕ) → MatchOption r (b ≡ false) P → (b ≡ false → d < 48) → IfNone r (d < 48)
found_room None b P d h f = f h
found_room (Some x) b P d h f = tt
