-- Entries that answer no line leave the answers of all clients.
use Rattle.std.proofs.Common.{◌≡◌, ℕ, zero, suc, ◌-◌, Bool, true, false, ◌&&◌, not, List, [], ◌∷◌, Option, Some, None, refl, sym, ap, ◌∙◌, if◌then◌else◌, true≢false}
use Rattle.std.specs.Prelude.{slice_index_or, slice_set}
use Rattle.std.specs.Option.{option_map_or}
use Rattle.script_text.specs.declared.command.Command.{Command}
use Rattle.script_text.specs.declared.script.Line.{Line}
use Rattle.script_text.specs.declared.script.Mode.{Mode}
use Rattle.service_model.specs.declared.journal.Entry.{Entry}
use Rattle.service_model.specs.declared.journal.What.{What}
use Rattle.service_model.specs.declared.journal.What.TheVariants.{Began, Held, Committed, Refused, GivenUp, Started, Created, Destroyed, Pruned, Answered}
use Rattle.service_model.specs.Entries.{after_end, after_entries, after_entry, after_what, changed, is_answer, mode_of, noting}
use Rattle.service_model.specs.Standing.{Scripts, Standing, Client, client_of, newcomer, next_line, with_client}
use Rattle.ground_model.specs.Fronts.{is_change}
use Rattle.session.specs.Ends.{AreUnmoved, is_unmoving}

-- a client in whose place there is another with the same answers
same_answers : (xs : List Client) (i m : ℕ) (c : Client) → c.answers ≡ (slice_index_or xs i newcomer).answers
    → (slice_index_or (slice_set xs i c) m newcomer).answers ≡ (slice_index_or xs m newcomer).answers
same_answers [] i m c is = refl
same_answers (x ∷ xs) zero zero c is = is
same_answers (x ∷ xs) zero (suc m) c is = refl
same_answers (x ∷ xs) (suc i) zero c is = refl
same_answers (x ∷ xs) (suc i) (suc m) c is = same_answers xs i m c is

module _ (mode : Mode) (s : Standing) (k : ℕ) (command : Command) (j : ℕ) where
  set_answers : (t : Standing) (c : Client) → c.answers ≡ (client_of t k).answers → (client_of (with_client t k c) j).answers ≡ (client_of t j).answers
  set_answers t c is = same_answers t.clients (k - 1) (j - 1) c is

  -- what an entry changes, but for its answer
  changed_answers : (what : What) → is_answer what ≡ false → (client_of (changed mode s k command what) j).answers ≡ (client_of s j).answers
  changed_answers (Began bases) off = set_answers s _ refl
  changed_answers (Held blocks) off = set_answers s _ refl
  changed_answers (Committed made at) off = set_answers s _ refl
  changed_answers (Refused why) off = set_answers s _ refl
  changed_answers GivenUp off = set_answers s _ refl
  changed_answers Started off = refl
  changed_answers (Created object at) off = set_answers s _ refl
  changed_answers (Destroyed object blocks at) off = refl
  changed_answers (Pruned object first blocks at) off = refl
  changed_answers Answered off = absurd (true≢false off)

  noted_answers : (what : What) → is_answer what ≡ false → (client_of (after_what mode s k command what) j).answers ≡ (client_of s j).answers
  noted_answers what off =
      ap (λ z. (client_of (if z then changed mode s k command what else with_client (changed mode s k command what) k (noting what (client_of (changed mode s k command what) k))) j).answers) off
      ∙ set_answers (changed mode s k command what) (noting what (client_of (changed mode s k command what) k)) refl ∙ changed_answers what off

entry_answers : (scripts : Scripts) (s : Standing) (e : Entry) (j : ℕ) → is_answer e.what ≡ false → (client_of (after_entry scripts s e) j).answers ≡ (client_of s j).answers
entry_answers scripts s e j off = by (next_line scripts s e.client)
  where
    by : (line : Option Line) → (client_of (option_map_or (λ (l : Line). after_what (mode_of scripts e.client) s e.client l.command e.what) line (after_end s e.client)) j).answers ≡ (client_of s j).answers
    by None = same_answers s.clients (e.client - 1) (j - 1) _ refl
    by (Some line) = noted_answers (mode_of scripts e.client) s e.client line.command j e.what off

and_parts : (a b : Bool) → (a && b) ≡ true → (a ≡ true) × (b ≡ true)
and_parts true b is = (refl, is)
and_parts false b is = absurd (true≢false (sym is))

unanswered : (e : Entry) → is_unmoving e ≡ true → is_answer e.what ≡ false
unanswered e is = by (is_answer e.what) (and_parts (not (is_change e)) (not (is_answer e.what)) is).1
  where
    by : (z : Bool) → not z ≡ true → z ≡ false
    by true h = absurd (true≢false (sym h))
    by false h = refl

-- so it is of a list of them
pub unmoved_answers : (scripts : Scripts) (s : Standing) (es : List Entry) (j : ℕ) → AreUnmoved es → (client_of (after_entries scripts s es) j).answers ≡ (client_of s j).answers
unmoved_answers scripts s [] j is = refl
unmoved_answers scripts s (e ∷ es) j is =
    let both = and_parts (is_unmoving e) _ is in
    unmoved_answers scripts (after_entry scripts s e) es j both.1 ∙ entry_answers scripts s e j (unanswered e both.0)
