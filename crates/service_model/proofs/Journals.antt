-- A journal goes on by one lawful entry, and no entry touches another client.
use Rattle.std.proofs.Common.{◌≡◌, ◌≢◌, ℕ, zero, suc, ◌-◌, ◌≤◌, true, false, Bool, List, [], ◌∷◌, ◌++◌, Option, Some, None, refl, sym, ap, ◌∙◌, subst, arith}
use Rattle.std.specs.Prelude.{slice_index_or, slice_set, if◌then◌else◌}
use Rattle.std.specs.Option.{option_map_or}
use Rattle.script_text.specs.declared.script.Line.{Line}
use Rattle.script_text.specs.declared.script.Mode.{Mode}
use Rattle.script_text.specs.declared.command.Command.{Command}
use Rattle.service_model.specs.declared.journal.Entry.{Entry}
use Rattle.service_model.specs.declared.journal.What.{What}
use Rattle.service_model.specs.declared.journal.What.TheVariants.{Began, Held, Committed, Refused, GivenUp, Started, Created, Destroyed, Pruned, Answered}
use Rattle.tree_model.specs.States.{State}
use Rattle.service_model.specs.Entries.{changed, noting, noted_in, is_answer, after_what, after_end, after_entry, after_entries, standing_after, mode_of}
use Rattle.service_model.specs.Legal.{IsLawful, IsLegalFrom, Reaches}
use Rattle.service_model.specs.Standing.{Scripts, Standing, Client, newcomer, start, client_of, with_client, next_line}

-- ---- journals in general

pub after_append : (sc : Scripts) (s : Standing) (es fs : List Entry) → after_entries sc s (es ++ fs) ≡ after_entries sc (after_entries sc s es) fs
after_append sc s [] fs = refl
after_append sc s (e ∷ es) fs = after_append sc (after_entry sc s e) es fs

pub legal_append : (sc : Scripts) (s : Standing) (es fs : List Entry) → IsLegalFrom sc s es → IsLegalFrom sc (after_entries sc s es) fs → IsLegalFrom sc s (es ++ fs)
legal_append sc s [] fs h g = g
legal_append sc s (e ∷ es) fs h g = (h.0, legal_append sc (after_entry sc s e) es fs h.1 g)

pub legal_front : (sc : Scripts) (s : Standing) (es fs : List Entry) → IsLegalFrom sc s (es ++ fs) → IsLegalFrom sc s es
legal_front sc s [] fs h = tt
legal_front sc s (e ∷ es) fs h = (h.0, legal_front sc (after_entry sc s e) es fs h.1)

pub legal_rest : (sc : Scripts) (s : Standing) (es fs : List Entry) → IsLegalFrom sc s (es ++ fs) → IsLegalFrom sc (after_entries sc s es) fs
legal_rest sc s [] fs h = h
legal_rest sc s (e ∷ es) fs h = legal_rest sc (after_entry sc s e) es fs h.1

-- the front of a legal journal leads to what stands after it
pub reaches_front : (o : State) (sc : Scripts) (es fs : List Entry) (s : Standing) → Reaches o sc (es ++ fs) s → Reaches o sc es (standing_after o sc es)
reaches_front o sc es fs s r = record { legal = legal_front sc (start o sc) es fs r.legal; leads = refl }

-- a journal goes on by entries that are lawful from what stands
pub reaches_more : (o : State) (sc : Scripts) (es fs : List Entry) (s : Standing) → Reaches o sc es s → IsLegalFrom sc s fs → Reaches o sc (es ++ fs) (after_entries sc s fs)
reaches_more o sc es fs s r more = record {
  legal = legal_append sc (start o sc) es fs r.legal (let F : Standing → Type 0 = λ x. IsLegalFrom sc x fs in subst F (sym r.leads) more);
  leads = after_append sc (start o sc) es fs ∙ ap (λ x. after_entries sc x fs) r.leads;
}

-- a journal goes on by one lawful entry
pub reaches_next : (o : State) (sc : Scripts) (es : List Entry) (s : Standing) (e : Entry) → Reaches o sc es s → IsLawful sc s e → Reaches o sc (es ++ e ∷ []) (after_entry sc s e)
reaches_next o sc es s e r lawful = reaches_more o sc es (e ∷ []) s r (lawful, tt)

-- ---- other clients

-- another place of a list that was set
pub set_other : {X : Type 0} (xs : List X) (i j : ℕ) (x d : X) → i ≢ j → slice_index_or (slice_set xs i x) j d ≡ slice_index_or xs j d
set_other [] i j x d ne = refl
set_other (y ∷ ys) zero zero x d ne = absurd (ne refl)
set_other (y ∷ ys) zero (suc j) x d ne = refl
set_other (y ∷ ys) (suc i) zero x d ne = refl
set_other (y ∷ ys) (suc i) (suc j) x d ne = set_other ys i j x d (λ e. ne (ap suc e))

pub apart : (k j : ℕ) → 1 ≤ k → 1 ≤ j → j ≢ k → (k - 1) ≢ (j - 1)
apart k j a b ne e = ne (omega (arith, a, b, e))

pub other_client : (s : Standing) (k j : ℕ) (c : Client) → 1 ≤ k → 1 ≤ j → j ≢ k → client_of (with_client s k c) j ≡ client_of s j
other_client s k j c a b ne = set_other s.clients (k - 1) (j - 1) c newcomer (apart k j a b ne)

module _ (mode : Mode) (s : Standing) (k j : ℕ) (a : 1 ≤ k) (b : 1 ≤ j) (ne : j ≢ k) where
  changed_other : (command : Command) (what : What) → client_of (changed mode s k command what) j ≡ client_of s j
  changed_other command (Began bases) = other_client s k j _ a b ne
  changed_other command (Held blocks) = other_client s k j _ a b ne
  changed_other command (Committed made at) = other_client s k j _ a b ne
  changed_other command (Refused why) = other_client s k j _ a b ne
  changed_other command GivenUp = other_client s k j _ a b ne
  changed_other command Started = refl
  changed_other command (Created object at) = other_client s k j _ a b ne
  changed_other command (Destroyed object blocks at) = refl
  changed_other command (Pruned object first blocks at) = refl
  changed_other command Answered = other_client s k j _ a b ne

noted_other : (s : Standing) (k j : ℕ) (what : What) → 1 ≤ k → 1 ≤ j → j ≢ k → (t : Bool) → is_answer what ≡ t → client_of (noted_in s k what) j ≡ client_of s j
noted_other s k j what a b ne true e = ap (λ t. client_of (if t then s else with_client s k (noting what (client_of s k))) j) e
noted_other s k j what a b ne false e =
    ap (λ t. client_of (if t then s else with_client s k (noting what (client_of s k))) j) e ∙ other_client s k j (noting what (client_of s k)) a b ne

-- an entry leaves every other client as it was
pub client_stays : (sc : Scripts) (s : Standing) (e : Entry) (j : ℕ) → 1 ≤ e.client → 1 ≤ j → j ≢ e.client → client_of (after_entry sc s e) j ≡ client_of s j
client_stays sc s e j a b ne = by (next_line sc s e.client)
  where
    by : (o : Option Line) → client_of (option_map_or (λ (line : Line). after_what (mode_of sc e.client) s e.client line.command e.what) o (after_end s e.client)) j ≡ client_of s j
    by None = other_client s e.client j _ a b ne
    by (Some line) =
        noted_other (changed (mode_of sc e.client) s e.client line.command e.what) e.client j e.what a b ne (is_answer e.what) refl
        ∙ changed_other (mode_of sc e.client) s e.client j a b ne line.command e.what
