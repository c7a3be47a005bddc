-- Why the lower bound and 'done' are true: what a search keeps from node to node.
use Rattle.std.proofs.Common.{◌≡◌, ℕ, zero, suc, ◌+◌, true, false, ◌⊎◌, List, [], ◌∷◌, ◌++◌, sym, refl, ◌∙◌, subst, inl, inr, ⊎_elim, All}
use Rattle.std.proofs.lemmas.List.Elements.{All-append, All-nil, All-cons, All-head, All-tail}
use Rattle.std.proofs.lemmas.Bool.{cond_both, cases_Bool}
use Rattle.measures.specs.Amounts.{Kind, Lawful, AtMost}
use Rattle.designs.specs.Grids.{Grid}
use Rattle.designs.specs.Readings.{TwoRows}
use Rattle.partials.specs.Partials.{Partial, PartialOf, DrawingOf, Completes}
use Rattle.partials.specs.Rules.{lesser, greater}
use Rattle.partials.specs.Tree.{children, is_whole, drawn}
use Rattle.walks.specs.Reached.{Steady}
use Rattle.walks.specs.Walk.{Open, Walk, all_open, start, take_better, visit, open_first, open_one, least_of, lower_bound, is_done, run, offer}
use Rattle.partials.specs.Children.{Any, put_valid, put_up, add_valid, add_up, all_children, goes_on, is_drawn, drawn_drawing, drawn_completes}
use Rattle.partials.specs.Levels.{at_most_itself, at_least, greater_left, greater_under, lesser_left, lesser_right, lesser_over}

any_left : {X : Type 0} (P : X → Type 0) (xs ys : List X) → Any P xs → Any P (xs ++ ys)
any_left P [] ys h = absurd h
any_left P (x ∷ xs) ys h = ⊎_elim (λ p. inl p) (λ q. inr (any_left P xs ys q)) h

any_right : {X : Type 0} (P : X → Type 0) (xs ys : List X) → Any P ys → Any P (xs ++ ys)
any_right P [] ys h = h
any_right P (x ∷ xs) ys h = inr (any_right P xs ys h)

module _ {A : Type 0} (K : Kind A) (laws : Lawful K) (g : Grid) (cost : TwoRows → A) (answer : Partial → A)
    (bounds : (p : Partial) (x : TwoRows) → DrawingOf g x → Completes p x → AtMost K (answer p) (cost x)) (root : Partial) where
  -- an open node is one below the root, and its inherited bound is a bound
  pub record Sound-open (o : Open A) : Type 0 where
    pub valid : PartialOf g o.node
    pub under : (x : TwoRows) → Completes o.node x → Completes root x
    pub bounded : (x : TwoRows) → DrawingOf g x → Completes o.node x → AtMost K o.inherited (cost x)

  -- every drawing below the root costs no less than the best, or is still below some open node
  pub record Sound (w : Walk A) : Type 0 where
    pub drawing : DrawingOf g w.incumbent
    pub within : Completes root w.incumbent
    pub priced : w.least ≡ cost w.incumbent
    pub nodes : All Sound-open w.frontier
    pub covered : (x : TwoRows) → DrawingOf g x → Completes root x → AtMost K w.least (cost x) ⊎ Any (λ o. Completes o.node x) w.frontier

  any_open : (P : Partial → Type 0) (b : A) (ps : List Partial) → Any P ps → Any (λ o. P o.node) (all_open b ps)
  any_open P b [] h = absurd h
  any_open P b (p ∷ ps) h = ⊎_elim (λ q. inl q) (λ q. inr (any_open P b ps q)) h

  all_opened : (P : Open A → Type 0) (b : A) (ps : List Partial) → All (λ p. P (record { node = p; inherited = b })) ps → All P (all_open b ps)
  all_opened P b [] h = All-nil P
  all_opened P b (p ∷ ps) h =
      let Q : Partial → Type 0 = λ q. P (record { node = q; inherited = b }) in
      All-cons P (record { node = p; inherited = b }) (all_open b ps) (All-head Q p ps h) (all_opened P b ps (All-tail Q p ps h))

  all_same : (P : Type 0) (ps : List Partial) → P → All (λ _. P) ps
  all_same P ps h = λ k d l. h

  -- the children of a node, with a bound of the node
  children_sound : (p : Partial) (b : A) → PartialOf g p → ((x : TwoRows) → Completes p x → Completes root x)
      → ((x : TwoRows) → DrawingOf g x → Completes p x → AtMost K b (cost x)) → All Sound-open (all_open b (children g p))
  children_sound p b v u h = all_opened Sound-open b (children g p) (all_children g p v (λ c. Sound-open (record { node = c; inherited = b }))
      (λ i l. record {
        valid = put_valid g p v i l;
        under = λ x c. u x (put_up g p v i x (v.early l) c);
        bounded = λ x d c. h x d (put_up g p v i x (v.early l) c);
      })
      (λ w l f. record {
        valid = add_valid g p v w l f;
        under = λ x c. u x (add_up g p v w x c);
        bounded = λ x d c. h x d (add_up g p v w x c);
      }))

  -- a node off the frontier that was not pruned: every drawing below it is below one of its children, or is the node itself
  pub start_sound : PartialOf g root → (first : TwoRows) → DrawingOf g first → Completes root first → Sound (start K g cost answer root first)
  start_sound v first d c = record {
    drawing = d;
    within = c;
    priced = refl;
    nodes = cond_both (K.at_most (cost first) (answer root)) [] (all_open (answer root) (children g root)) (All Sound-open)
        (λ e. All-nil Sound-open)
        (λ e. children_sound root (answer root) v (λ x h. h) (bounds root));
    covered = λ x dx cx. cond_both (K.at_most (cost first) (answer root)) [] (all_open (answer root) (children g root)) (λ os. AtMost K (cost first) (cost x) ⊎ Any (λ o. Completes o.node x) os)
        (λ e. inl (laws.trans _ _ _ e (bounds root x dx cx)))
        (λ e. ⊎_elim
        (λ w. inl (subst (λ y. AtMost K (cost first) (cost y)) (sym (is_drawn g root v first d c w) ∙ is_drawn g root v x dx cx w) (at_most_itself K laws (cost first))))
        (λ n. inr (any_open (λ p. Completes p x) (answer root) (children g root) (goes_on g root v x dx cx n)))
        (cases_Bool (is_whole g root)));
  }

  -- the lower bound is at most the best cost and every inherited bound, and at least whatever is at most all of these
  pub least_start : (b : A) (os : List (Open A)) → AtMost K (least_of K b os) b
  least_start b [] = at_most_itself K laws b
  least_start b (o ∷ os) = laws.trans _ _ _ (least_start (lesser K b o.inherited) os) (lesser_left K laws b o.inherited)

  pub least_each : (b : A) (os : List (Open A)) → All (λ o. AtMost K (least_of K b os) o.inherited) os
  least_each b [] = All-nil (λ o. AtMost K (least_of K b []) o.inherited)
  least_each b (o ∷ os) = All-cons (λ n. AtMost K (least_of K (lesser K b o.inherited) os) n.inherited) o os (laws.trans _ _ _ (least_start (lesser K b o.inherited) os) (lesser_right K laws b o.inherited)) (least_each (lesser K b o.inherited) os)

  pub least_over : (z b : A) (os : List (Open A)) → AtMost K z b → All (λ o. AtMost K z o.inherited) os → AtMost K z (least_of K b os)
  least_over z b [] h k = h
  least_over z b (o ∷ os) h k =
      let P : Open A → Type 0 = λ n. AtMost K z n.inherited in
      least_over z (lesser K b o.inherited) os (lesser_over K laws b o.inherited z h (All-head P o os k)) (All-tail P o os k)

  -- an open node that a drawing completes bounds it
  any_bounded : (z : A) (x : TwoRows) → DrawingOf g x → (os : List (Open A)) → All Sound-open os → All (λ o. AtMost K z o.inherited) os → Any (λ o. Completes o.node x) os → AtMost K z (cost x)
  any_bounded z x d [] s l h = absurd h
  any_bounded z x d (o ∷ os) s l h =
      let P : Open A → Type 0 = λ n. AtMost K z n.inherited in
      let here : Sound-open o = All-head Sound-open o os s in
      ⊎_elim (λ c. laws.trans _ _ _ (All-head P o os l) (here.bounded x d c)) (λ r. any_bounded z x d os (All-tail Sound-open o os s) (All-tail P o os l) r) h

  -- no drawing below the root costs less than the lower bound
  pub no_drawing_below_the_bound : (w : Walk A) → Sound w → (x : TwoRows) → DrawingOf g x → Completes root x → AtMost K (lower_bound K w) (cost x)
  no_drawing_below_the_bound w s x d c = ⊎_elim
      (λ h. laws.trans _ _ _ (least_start w.least w.frontier) h)
      (λ h. any_bounded (lower_bound K w) x d w.frontier s.nodes (least_each w.least w.frontier) h)
      (s.covered x d c)

  -- when done, no drawing below the root costs less than the best
  pub done_is_least : (w : Walk A) → Sound w → is_done K w ≡ true → (x : TwoRows) → DrawingOf g x → Completes root x → AtMost K w.least (cost x)
  done_is_least w s e x d c = laws.trans _ _ _ e (no_drawing_below_the_bound w s x d c)

  pub goes_nowhere : (w : Walk A) → Steady K w w
  goes_nowhere w = record { cheaper = at_most_itself K laws w.least; higher = at_most_itself K laws (lower_bound K w) }

  pub goes_further : (u v w : Walk A) → Steady K u v → Steady K v w → Steady K u w
  goes_further u v w h k = record { cheaper = laws.trans _ _ _ k.cheaper h.cheaper; higher = laws.trans _ _ _ h.higher k.higher }

  -- a search goes on soundly
  pub record Step (w v : Walk A) : Type 0 where
    pub sound : Sound v
    pub goes : Steady K w v

  -- a drawing below the root is taken if it costs less
  module _ (w : Walk A) (n : ℕ) (rest : List (Open A)) (x : TwoRows) (s : Sound w) (d : DrawingOf g x) (c : Completes root x)
      (nodes : All Sound-open rest) (over : All (λ o. AtMost K (lower_bound K w) o.inherited) rest)
      (left : (y : TwoRows) → DrawingOf g y → Completes root y → (AtMost K w.least (cost y) ⊎ (x ≡ y)) ⊎ Any (λ o. Completes o.node y) rest) where
    kept : AtMost K w.least (cost x) → Step w (record { incumbent = w.incumbent; least = w.least; opened = n; frontier = rest })
    kept e = record {
      sound = record {
        drawing = s.drawing;
        within = s.within;
        priced = s.priced;
        nodes = nodes;
        covered = λ y dy cy. ⊎_elim (⊎_elim (λ h. inl h) (λ q. inl (subst (λ z. AtMost K w.least (cost z)) q e))) (λ h. inr h) (left y dy cy);
      };
      goes = record { cheaper = at_most_itself K laws w.least; higher = least_over (lower_bound K w) w.least rest (least_start w.least w.frontier) over };
    }

    taken : AtMost K (cost x) w.least → Step w (record { incumbent = x; least = cost x; opened = n; frontier = rest })
    taken e = record {
      sound = record {
        drawing = d;
        within = c;
        priced = refl;
        nodes = nodes;
        covered = λ y dy cy. ⊎_elim (⊎_elim (λ h. inl (laws.trans _ _ _ e h)) (λ q. inl (subst (λ z. AtMost K (cost x) (cost z)) q (at_most_itself K laws (cost x))))) (λ h. inr h) (left y dy cy);
      };
      goes = record { cheaper = e; higher = least_over (lower_bound K w) (cost x) rest (no_drawing_below_the_bound w s x d c) over };
    }

    pub better_step : Step w (take_better K cost w.incumbent w.least n rest x)
    better_step = cond_both {A = Walk A} (K.at_most w.least (cost x)) (record { incumbent = w.incumbent; least = w.least; opened = n; frontier = rest }) (record { incumbent = x; least = cost x; opened = n; frontier = rest })
        (Step w) kept (λ e. taken (at_least K laws w.least (cost x) e))

  -- one node
  module _ (best : TwoRows) (least : A) (opened : ℕ) (o : Open A) (rest : List (Open A)) (s : Sound (record { incumbent = best; least = least; opened = opened; frontier = o ∷ rest })) where
    abbrev before : Walk A
    before = record { incumbent = best; least = least; opened = opened; frontier = o ∷ rest }

    abbrev bound : A
    bound = greater K o.inherited (answer o.node)

    node : Sound-open o
    node = All-head Sound-open o rest s.nodes

    others : All Sound-open rest
    others = All-tail Sound-open o rest s.nodes

    over_all : All (λ n. AtMost K (lower_bound K before) n.inherited) (o ∷ rest)
    over_all = least_each least (o ∷ rest)

    over_rest : All (λ n. AtMost K (lower_bound K before) n.inherited) rest
    over_rest = All-tail (λ n. AtMost K (lower_bound K before) n.inherited) o rest over_all

    bounded : (x : TwoRows) → DrawingOf g x → Completes o.node x → AtMost K bound (cost x)
    bounded x d c = greater_under K laws o.inherited (answer o.node) (cost x) (node.bounded x d c) (bounds o.node x d c)

    -- the node is pruned
    pruned : AtMost K least bound → Step before (record { incumbent = best; least = least; opened = opened + 1; frontier = rest })
    pruned e = record {
      sound = record {
        drawing = s.drawing;
        within = s.within;
        priced = s.priced;
        nodes = others;
        covered = λ x d c. ⊎_elim (λ h. inl h) (⊎_elim (λ q. inl (laws.trans _ _ _ e (bounded x d q))) (λ r. inr r)) (s.covered x d c);
      };
      goes = record { cheaper = at_most_itself K laws least; higher = least_over (lower_bound K before) least rest (least_start least (o ∷ rest)) over_rest };
    }

    -- the node is a whole drawing
    whole : is_whole g o.node ≡ true → Step before (take_better K cost best least (opened + 1) rest (drawn o.node))
    whole w = better_step before (opened + 1) rest (drawn o.node) s (drawn_drawing g o.node node.valid w)
        (node.under (drawn o.node) (drawn_completes g o.node node.valid w)) others over_rest
        (λ y d c. ⊎_elim (λ h. inl (inl h)) (⊎_elim (λ q. inl (inr (is_drawn g o.node node.valid y d q w))) (λ r. inr r)) (s.covered y d c))

    -- the node's children come first
    opened_up : is_whole g o.node ≡ false → Step before (record { incumbent = best; least = least; opened = opened + 1; frontier = all_open bound (children g o.node) ++ rest })
    opened_up w =
        let floor = lower_bound K before in
        let kids = all_open bound (children g o.node) in
        record {
          sound = record {
            drawing = s.drawing;
            within = s.within;
            priced = s.priced;
            nodes = All-append Sound-open kids rest (children_sound o.node bound node.valid node.under bounded) others;
            covered = λ x d c. ⊎_elim (λ h. inl h)
                (⊎_elim
                (λ q. inr (any_left (λ n. Completes n.node x) kids rest (any_open (λ n. Completes n x) bound (children g o.node) (goes_on g o.node node.valid x d q w))))
                (λ r. inr (any_right (λ n. Completes n.node x) kids rest r)))
                (s.covered x d c);
          };
          goes = record {
            cheaper = at_most_itself K laws least;
            higher = least_over floor least (kids ++ rest) (least_start least (o ∷ rest))
                (All-append (λ n. AtMost K floor n.inherited) kids rest
                (all_opened (λ n. AtMost K floor n.inherited) bound (children g o.node) (all_same (AtMost K floor bound) (children g o.node) (laws.trans _ _ _ (All-head (λ n. AtMost K (lower_bound K before) n.inherited) o rest over_all) (greater_left K laws o.inherited (answer o.node)))))
                over_rest);
          };
        }

    pub visit_step : Step before (visit K g cost bound o.node (record { incumbent = best; least = least; opened = opened + 1; frontier = rest }))
    visit_step =
        cond_both {A = Walk A} (K.at_most least bound) (record { incumbent = best; least = least; opened = opened + 1; frontier = rest }) _ (Step before) pruned
        (λ _. cond_both {A = Walk A} (is_whole g o.node) (take_better K cost best least (opened + 1) rest (drawn o.node)) (record { incumbent = best; least = least; opened = opened + 1; frontier = all_open bound (children g o.node) ++ rest }) (Step before) whole opened_up)

  first_step : (best : TwoRows) (least : A) (opened : ℕ) (os : List (Open A)) (s : Sound (record { incumbent = best; least = least; opened = opened; frontier = os })) → Step (record { incumbent = best; least = least; opened = opened; frontier = os }) (open_first K g cost answer best least opened os)
  first_step best least opened [] s = record { sound = s; goes = goes_nowhere _ }
  first_step best least opened (o ∷ os) s = visit_step best least opened o os s

  pub open_one_step : (w : Walk A) → Sound w → Step w (open_one K g cost answer w)
  open_one_step w s = first_step w.incumbent w.least w.opened w.frontier s

  pub run_step : (b : ℕ) (w : Walk A) → Sound w → Step w (run K g cost answer b w)
  run_step zero w s = record { sound = s; goes = goes_nowhere w }
  run_step (suc b) w s = cond_both (is_done K w) w (run K g cost answer b (open_one K g cost answer w)) (Step w) (λ _. record { sound = s; goes = goes_nowhere w })
      (λ _.
      let one = open_one_step w s in
      let more = run_step b (open_one K g cost answer w) one.sound in
      record { sound = more.sound; goes = goes_further w (open_one K g cost answer w) (run K g cost answer b (open_one K g cost answer w)) one.goes more.goes })

  -- an offered drawing that is one below the root
  pub offer_step : (x : TwoRows) → DrawingOf g x → Completes root x → (w : Walk A) → Sound w → Step w (offer K cost x w)
  offer_step x d c w s = better_step w w.opened w.frontier x s d c s.nodes (least_each w.least w.frontier)
      (λ y dy cy. ⊎_elim (λ h. inl (inl h)) (λ h. inr h) (s.covered y dy cy))

  -- a search that is done stays done
  pub done_stays : (w v : Walk A) → Steady K w v → is_done K w ≡ true → is_done K v ≡ true
  done_stays w v h e = laws.trans _ _ _ (laws.trans _ _ _ h.cheaper e) h.higher
