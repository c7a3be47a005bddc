-- Why the whole session goes by the law.
use Rattle.std.proofs.Common.{◌≡◌, ℕ, List, length, Ok, Err, Result, sym, refl, ap, subst}
use Rattle.std.specs.Prelude.{◌+◌, ◌==◌, slice_index}
use Rattle.std.proofs.lemmas.Bool.{cond_both}
use Rattle.measures.specs.Amounts.{Kind, Lawful}
use Rattle.measures.specs.PairLaws.{pairs_lawful}
use Rattle.measures.specs.Pairs.{pairs}
use Rattle.measures.specs.Prices.{strand_price, trunk_price}
use Rattle.measures.specs.SumLaws.{sums_lawful}
use Rattle.measures.specs.Sums.{sums}
use Rattle.measures.specs.Writings.{strand_written, trunk_written}
use Rattle.measures.specs.declared.link.Link.{Link}
use Rattle.designs.specs.Results.{on_ok}
use Rattle.partials.specs.Bounded.{settled_bounds, lesser_bounds}
use Rattle.partials.specs.declared.delivered.Rule.{Rule}
use Rattle.partials.specs.declared.delivered.Rule.TheVariants.{Settled, Lesser}
use Rattle.walks.specs.Searches.{Bounding}
use Rattle.scripts.specs.Scripts.{read_command}
use Rattle.scripts.specs.declared.command.Command.{Command}
use Rattle.scripts.specs.declared.fault.ScriptFault.{ScriptFault}
use Rattle.scripts.specs.declared.fault.SetupFault.{SetupFault}
use Rattle.sessions.specs.Calls.{called}
use Rattle.sessions.specs.Events.{refusal_in}
use Rattle.sessions.specs.Runs.LeadsTo.{starts}
use Rattle.sessions.specs.Sessions.{Whole, Outcome, answers, rule_numbered, set_up, placed_set_up, set_up_outcome, fresh_outcome, outcome, called_by_strands, called_by_trunks}
use Rattle.sessions.specs.Sessions.Whole.{fresh, by_strands, by_trunks}
use Rattle.sessions.specs.Stages.{Stage, Carried}
use Rattle.sessions.specs.Texts.{event_line, if_room, Writes}
use Rattle.sessions.specs.Whole.{TellsLawfully, Starts, CallsLawfully}
use Rattle.sessions.specs.declared.session.Answer.{Answer}
use Rattle.sessions.proofs.Lawful.{goes_on_lawfully}

-- the delivered rules are lawful
answers_bound : {A : Type 0} (K : Kind A) → Lawful K → (priced : Link → Link → A) (rule : Rule) → Bounding K priced (answers K priced rule)
answers_bound K laws priced Settled = λ g p x d c. settled_bounds g p x d c K laws priced
answers_bound K laws priced Lesser = λ g p x d c. lesser_bounds g p x d c K laws priced

-- a fresh session starts, or stays fresh
rule_starts : (whole : Rule → Whole) → ((rule : Rule) → Starts (whole rule)) → (p : ℕ) (r : Result Rule SetupFault) → Starts (set_up_outcome (placed_set_up p (on_ok whole r))).session
rule_starts whole s p (Ok rule) = s rule
rule_starts whole s p (Err f) = tt {0}

set_up_starts : (p m r : ℕ) → Starts (set_up_outcome (placed_set_up p (set_up m r))).session
set_up_starts p m r = cond_both (m == 1) _ _ (λ s. Starts (set_up_outcome (placed_set_up p s)).session) (λ _. rule_starts _ (λ rule. starts) p (rule_numbered r))
    (λ _. cond_both (m == 2) _ _ (λ s. Starts (set_up_outcome (placed_set_up p s)).session) (λ _. rule_starts _ (λ rule. starts) p (rule_numbered r)) (λ _. tt {0}))

fresh_starts : (script : List ℕ) (r : Result Command ScriptFault) → Starts (fresh_outcome script r).session
fresh_starts script (Ok c) = cond_both (c.letter == 77) _ _ (λ (o : Outcome). Starts o.session) (λ _. set_up_starts c.place (slice_index script (c.place + 1)) (slice_index script (c.place + 2))) (λ _. tt {0})
fresh_starts script (Err f) = tt {0}

-- a call with a measure and a rule tells what it tells, and goes on lawfully
tells_lawfully : {A : Type 0} (K : Kind A) → Lawful K → (priced : Link → Link → A) (rule : Rule) (written : A → List ℕ) (whole : Stage A → Whole) (s : Stage A)
    (answer : Answer) (line new_line : List ℕ) (new : Whole) (script : List ℕ) (p : ℕ) (c : Carried A)
    → c ≡ called K priced (answers K priced rule) s script p (length line)
    → answer.refused ≡ refusal_in c.event → Writes line new_line answer.wrote (if_room (length line) (event_line written c.event)) → new ≡ whole c.stage
    → TellsLawfully K priced (answers K priced rule) written whole s script p answer line new_line new
tells_lawfully K laws priced rule written whole s answer line new_line new script p c is e f g = record {
  event = c.event;
  stage = c.stage;
  told = ap (λ r. r.event) is;
  refused = e;
  writes = f;
  session = g;
  law = goes_on_lawfully K laws priced (answers K priced rule) (answers_bound K laws priced rule) s _ _ script p (length line) (ap (λ r. r.event) is) (ap (λ r. r.stage) is);
}

pub calls_lawfully : (w : Whole) (answer : Answer) (line new_line : List ℕ) (new : Whole) (script : List ℕ) (p : ℕ)
    → answer.refused ≡ (outcome w script p (length line)).refused
    → Writes line new_line answer.wrote (if_room (length line) (outcome w script p (length line)).bytes)
    → new ≡ (outcome w script p (length line)).session
    → CallsLawfully w script p answer line new_line new
calls_lawfully fresh answer line new_line new script p e f g = subst Starts (sym g) (fresh_starts script (read_command script p (length line)))
calls_lawfully (by_strands rule s) answer line new_line new script p e f g =
    tells_lawfully sums sums_lawful strand_price rule strand_written (by_strands rule) s answer line new_line new script p (called_by_strands rule s script p (length line)) refl e f g
calls_lawfully (by_trunks rule s) answer line new_line new script p e f g =
    tells_lawfully pairs pairs_lawful trunk_price rule trunk_written (by_trunks rule) s answer line new_line new script p (called_by_trunks rule s script p (length line)) refl e f g
