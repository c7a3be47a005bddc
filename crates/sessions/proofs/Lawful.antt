-- Why every history of a session keeps the law.
use Rattle.std.proofs.Common.{◌≡◌, ℕ, ◌+◌, ◌-◌, List, ◌∷◌, Ok, Err, Result, All, sym, refl, ap, ◌∙◌, subst, arith, true}
use Rattle.std.specs.Prelude.{◌&&◌, ◌==◌, slice_index}
use Rattle.std.specs.List.{list_any}
use Rattle.std.proofs.lemmas.Bool.{cond_both}
use Rattle.std.proofs.lemmas.List.Elements.{All-nil, All-cons, All-weaker}
use Rattle.measures.specs.Amounts.{Kind, Lawful, AtMost}
use Rattle.measures.specs.declared.link.Class.{Class}
use Rattle.measures.specs.declared.link.Link.{Link}
use Rattle.designs.specs.Grids.{Grid, with_link}
use Rattle.designs.specs.Readings.{TwoRows, first_rows, read_rows, cost_of}
use Rattle.designs.specs.Sides.{is_size}
use Rattle.designs.specs.declared.fault.LinkFault.{LinkFault}
use Rattle.designs.specs.declared.fault.RowFault.{RowFault}
use Rattle.designs.proofs.Orders.{number_order_order}
use Rattle.partials.specs.Children.{nothing_partial, nothing_completed}
use Rattle.partials.specs.Levels.{at_most_itself}
use Rattle.partials.specs.Partials.{Partial, nothing_placed}
use Rattle.partials.proofs.Counted.{tree_counted}
use Rattle.walks.specs.Reached.{Reached, Steady}
use Rattle.walks.specs.Reached.Reached.{starts as walk_starts, offers}
use Rattle.walks.specs.Reports.{reported as report_on}
use Rattle.walks.specs.Runs.{run_check}
use Rattle.walks.specs.Searches.{Bounding}
use Rattle.walks.specs.Walk.{Walk, offer}
use Rattle.walks.specs.declared.fault.RunFault.{RunFault}
use Rattle.walks.proofs.Coverage.{done_stays, goes_nowhere}
use Rattle.walks.proofs.Steps.{run_exact}
use Rattle.walks.proofs.Truths.{reached_truthful, run_reached, run_steady, offer_steady}
use Rattle.scripts.specs.Scripts.{read_command, operands}
use Rattle.scripts.specs.declared.command.Command.{Command}
use Rattle.scripts.specs.declared.fault.ScriptFault.{ScriptFault}
use Rattle.sessions.specs.Calls.{called, carried_command}
use Rattle.sessions.specs.Events.{Event}
use Rattle.sessions.specs.Events.Event.{sized, linked, closed, searched, offered, reported, refused}
use Rattle.sessions.specs.Histories.{History, is_closing, since_closing, in_hand, closed_last, opened_by, opened_in}
use Rattle.sessions.specs.Laws.{Agrees, TrueOf, Keeps, KeepsTheLaw}
use Rattle.sessions.specs.Runs.{LeadsTo, GoesOnLawfully}
use Rattle.sessions.specs.Runs.LeadsTo.{starts, calls}
use Rattle.sessions.specs.Stages.{Stage, Carried, refuse, placed_grid, size_by, size_step, link_by, begun, ran, run_by, offer_by, carried, number_in}
use Rattle.sessions.specs.Stages.Stage.{set, filling, searching}
use Rattle.sessions.proofs.Reading.{drawing_read, Read}

module _ {A : Type 0} (K : Kind A) (laws : Lawful K) (priced : Link → Link → A) (answered : Grid → Partial → A) (bounds : Bounding K priced answered) where
  abbrev cost : Grid → TwoRows → A
  cost g = cost_of K priced g

  -- a session that searches holds the design closed last and a walk of it, whose report would agree with what was told
  record Searches (h : History A) (g : Grid) (w : Walk A) : Type 0 where
    pub closed : closed_last h ≡ g
    pub behind : list_any is_closing h ≡ true
    pub reached : Reached K g (cost g) (answered g) nothing_placed w
    pub opened : w.opened ≡ opened_in (since_closing h)
    pub agrees : All (Agrees K (report_on K g w)) (since_closing h)

  -- what a history has to do with what a session holds
  abbrev Matches : History A → Stage A → Type 0
  Matches h set = Unit {0}
  Matches h (filling g) = in_hand h ≡ g
  Matches h (searching g w) = Searches h g w

  -- a call after a history: what it tells keeps the law, and what it leaves matches
  record Good (h : History A) (c : Carried A) : Type 0 where
    pub matches : Matches (c.event ∷ h) c.stage
    pub keeps : Keeps K priced h c.event

  -- what agreed with a walk goes on to agree with it
  agrees_later : (g : Grid) (w v : Walk A) → Steady K w v → (e : Event A) → Agrees K (report_on K g w) e → Agrees K (report_on K g v) e
  agrees_later g w v s (sized n m) a = tt {0}
  agrees_later g w v s (linked x y l) a = tt {0}
  agrees_later g w v s closed a = tt {0}
  agrees_later g w v s (searched asked opened) a = λ l. done_stays K laws g (cost g) (answered g) (bounds g) nothing_placed w v s (a l)
  agrees_later g w v s (offered taken c) a = laws.trans _ _ _ s.cheaper a
  agrees_later g w v s (reported r) a = (laws.trans _ _ _ a.0 s.higher, laws.trans _ _ _ s.cheaper a.1, λ l. done_stays K laws g (cost g) (answered g) (bounds g) nothing_placed w v s (a.2 l))
  agrees_later g w v s (refused f) a = tt {0}

  -- an event that is no closing, beside a walk that goes on
  goes_on : (h : History A) (g : Grid) (w v : Walk A) (e : Event A) → list_any is_closing (e ∷ h) ≡ list_any is_closing h → closed_last (e ∷ h) ≡ closed_last h → since_closing (e ∷ h) ≡ e ∷ since_closing h
      → Searches h g w → Reached K g (cost g) (answered g) nothing_placed v → Steady K w v → v.opened ≡ opened_by e + w.opened → Agrees K (report_on K g v) e → Searches (e ∷ h) g v
  goes_on h g w v e b p q s r t o a = record {
    closed = p ∙ s.closed;
    behind = b ∙ s.behind;
    reached = r;
    opened = o ∙ (ap (λ n. opened_by e + n) s.opened ∙ sym (ap opened_in q));
    agrees = subst (All (Agrees K (report_on K g v))) (sym q)
        (All-cons (Agrees K (report_on K g v)) e (since_closing h) a (All-weaker (Agrees K (report_on K g w)) (Agrees K (report_on K g v)) (agrees_later g w v t) (since_closing h) s.agrees));
  }

  stays : (g : Grid) (w : Walk A) → Steady K w w
  stays g w = goes_nowhere K laws g (cost g) (answered g) (bounds g) nothing_placed w

  -- a refusal leaves what was there
  refused_matches : (h : History A) (f : ScriptFault) (s : Stage A) → Matches h s → Matches (refused f ∷ h) s
  refused_matches h f set m = tt {0}
  refused_matches h f (filling g) m = m
  refused_matches h f (searching g w) m = goes_on h g w w (refused f) refl refl refl m m.reached (stays g w) (omega arith) (tt {0})

  refused_good : (h : History A) (f : ScriptFault) (s : Stage A) → Matches h s → Good h (refuse s f)
  refused_good h f s m = record { matches = refused_matches h f s m; keeps = tt {0} }

  size_good : (h : History A) (s : Stage A) → Matches h s → (p : ℕ) (ops : List ℕ) → Good h (size_step s p ops)
  size_good h s m p ops =
      let n = slice_index ops 0 in
      let k = slice_index ops 1 in
      cond_both (is_size n && is_size k) _ _ (λ r. Good h (size_by s n k (placed_grid p r)))
      (λ _. record { matches = refl; keeps = tt {0} })
      (λ _. refused_good h _ s m)

  link_good : (h : History A) (g : Grid) → in_hand h ≡ g → (p a b s : ℕ) (r : Result Class LinkFault) → Good h (link_by g p a b s r)
  link_good h g m p a b s (Ok k) = record { matches = ap (λ x. with_link x a b s k) m; keeps = tt {0} }
  link_good h g m p a b s (Err f) = refused_good h _ (filling g) m

  close_good : (h : History A) (g : Grid) → in_hand h ≡ g → Good h (record { event = closed; stage = searching g (begun K priced answered g) })
  close_good h g m = record {
    matches = record {
      closed = m;
      behind = refl;
      reached = walk_starts (first_rows g) (nothing_partial g) (number_order_order g.lefts, number_order_order g.rights) (nothing_completed (first_rows g));
      opened = refl;
      agrees = All-nil (Agrees K (report_on K g (begun K priced answered g)));
    };
    keeps = tt {0};
  }

  run_good : (h : History A) (g : Grid) (w : Walk A) → Searches h g w → (p : ℕ) (r : Result ℕ RunFault) → Good h (run_by K priced answered g w p r)
  run_good h g w s p (Ok nodes) =
      let v = ran K priced answered g nodes w in
      let e = run_exact K laws g (cost g) (answered g) nodes w in
      record {
        matches = goes_on h g w v (searched nodes (v.opened - w.opened)) refl refl refl s
            (run_reached K laws g (cost g) (answered g) (bounds g) nothing_placed nodes w s.reached)
            (run_steady K laws g (cost g) (answered g) (bounds g) nothing_placed nodes w s.reached)
            (omega (arith, e.none_lost))
            (λ l. e.fewer_done (omega (arith, l, e.none_lost)));
        keeps = (s.behind, omega (arith, e.most));
      }
  run_good h g w s p (Err f) = refused_good h _ (searching g w) s

  offer_opened : (g : Grid) (w : Walk A) (x : TwoRows) → (offer K (cost g) x w).opened ≡ w.opened
  offer_opened g w x = cond_both {A = Walk A} (K.at_most w.least (cost g x)) _ _ (λ v. v.opened ≡ w.opened) (λ _. refl) (λ _. refl)

  offer_cheap : (g : Grid) (w : Walk A) (x : TwoRows) → AtMost K (offer K (cost g) x w).least (cost g x)
  offer_cheap g w x = cond_both {A = Walk A} (K.at_most w.least (cost g x)) _ _ (λ v. AtMost K v.least (cost g x)) (λ e. e) (λ _. at_most_itself K laws _)

  offer_good : (h : History A) (g : Grid) (w : Walk A) → Searches h g w → (p : ℕ) (r : Result TwoRows RowFault) → Read g r → Good h (offer_by K priced g w p r)
  offer_good h g w s p (Ok x) d =
      let v = offer K (cost g) x w in
      let c = nothing_completed x in
      record {
        matches = goes_on h g w v _ refl refl refl s (offers w x s.reached d c) (offer_steady K laws g (cost g) (answered g) (bounds g) nothing_placed w x s.reached d c)
            (omega (arith, offer_opened g w x)) (offer_cheap g w x);
        keeps = s.behind;
      }
  offer_good h g w s p (Err f) d = refused_good h _ (searching g w) s

  report_good : (h : History A) (g : Grid) (w : Walk A) → Searches h g w → Good h (record { event = reported (report_on K g w); stage = searching g w })
  report_good h g w s =
      let t = reached_truthful K laws g (cost g) (answered g) (bounds g) nothing_placed w s.reached in
      let here : TrueOf K priced g (since_closing h) (report_on K g w) = record {
        drawing = t.drawing;
        priced_so = t.priced;
        bounded = λ x d. t.bounded x d (nothing_completed x);
        exactly = refl;
        least = λ e x d. t.least e x d (nothing_completed x);
        opened = s.opened;
        counted = omega (arith, t.counted, tree_counted g nothing_placed (nothing_partial g) refl refl);
        size = refl;
        agrees = s.agrees;
      } in
      record {
        matches = goes_on h g w w _ refl refl refl s s.reached (stays g w) (omega arith) (at_most_itself K laws _, at_most_itself K laws _, λ l. l);
        keeps = (s.behind, subst (λ x. TrueOf K priced x (since_closing h) (report_on K g w)) (sym s.closed) here);
      }

  carried_good : (h : History A) (s : Stage A) → Matches h s → (l p : ℕ) (ops : List ℕ) → Good h (carried K priced answered s l p ops)
  carried_good h set m l p ops = cond_both (l == 68) _ _ (Good h) (λ _. size_good h set m p ops) (λ _. refused_good h _ set m)
  carried_good h (filling g) m l p ops =
      cond_both (l == 76) _ _ (Good h) (λ _. link_good h g m p _ _ _ _)
      (λ _. cond_both (l == 67) _ _ (Good h) (λ _. close_good h g m)
      (λ _. refused_good h _ (filling g) m))
  carried_good h (searching g w) m l p ops =
      cond_both (l == 83) _ _ (Good h) (λ _. run_good h g w m p (run_check w.opened (number_in ops)))
      (λ _. cond_both (l == 79) _ _ (Good h) (λ _. offer_good h g w m p (read_rows g ops) (drawing_read g ops))
      (λ _. cond_both (l == 80) _ _ (Good h) (λ _. report_good h g w m)
      (λ _. cond_both (l == 68) _ _ (Good h) (λ _. size_good h (searching g w) m p ops)
      (λ _. refused_good h _ (searching g w) m))))

  command_good : (h : History A) (s : Stage A) → Matches h s → (script : List ℕ) (r : Result Command ScriptFault) → Good h (carried_command K priced answered s script r)
  command_good h s m script (Ok c) = carried_good h s m c.letter c.place (operands script c)
  command_good h s m script (Err f) = refused_good h f s m

  keeps_the_law : (h : History A) (s : Stage A) → LeadsTo K priced answered h s → Matches h s × KeepsTheLaw K priced h
  keeps_the_law _ _ starts = (tt {0}, tt {0})
  keeps_the_law _ _ (calls h s r script p room) =
      let i = keeps_the_law h s r in
      let c = command_good h s i.0 script (read_command script p room) in
      (c.matches, (c.keeps, i.1))

  -- so does a history with one call more
  pub goes_on_lawfully : (s : Stage A) (e : Event A) (t : Stage A) (script : List ℕ) (p room : ℕ) → e ≡ (called K priced answered s script p room).event → t ≡ (called K priced answered s script p room).stage
      → GoesOnLawfully K priced answered s e t
  goes_on_lawfully s e t script p room f g = λ h r.
      let c = called K priced answered s script p room in
      let more : LeadsTo K priced answered (e ∷ h) t = subst (λ x. LeadsTo K priced answered (x ∷ h) t) (sym f) (subst (LeadsTo K priced answered (c.event ∷ h)) (sym g) (calls h s r script p room)) in
      (more, (keeps_the_law (e ∷ h) t more).1)
