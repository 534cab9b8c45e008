-- The entries of a client's line: that they are legal, and what stands after them.
use Rattle.std.proofs.Common.{◌≡◌, ◌≢◌, inl, ℕ, zero, suc, ◌-◌, ◌≤◌, Bool, true, false, length, List, [], ◌∷◌, ◌++◌, Option, Some, None, is_some, refl, sym, ap, ◌∙◌, subst, eqb-true}
use Rattle.std.specs.Prelude.{slice_index_or, slice_set, slice_get, IsSome, option_to_list, if◌then◌else◌, ◌==◌}
use Rattle.std.specs.Option.{option_map_or}
use Rattle.script_text.specs.declared.command.Command.{Command}
use Rattle.script_text.specs.declared.reply.LineRefusal.{LineRefusal}
use Rattle.script_text.specs.declared.reply.LineReply.{LineReply}
use Rattle.script_text.specs.declared.script.Line.{Line}
use Rattle.script_text.specs.declared.script.Mode.{Mode}
use Rattle.service_model.specs.declared.journal.What.{What}
use Rattle.service_model.specs.declared.journal.What.TheVariants.{Began, Held, Refused, GivenUp, Answered}
use Rattle.service_model.specs.declared.named.Named.{Named}
use Rattle.service_model.specs.Causes.{cause_of}
use Rattle.service_model.specs.Entries.{answered, after_what, after_end, after_entry, mode_of, noting, opened, updated, upkeep_of_others, without_update}
use Rattle.service_model.specs.Legal.{IsLawful, IsLawfulWhat}
use Rattle.service_model.specs.Replies.{reply_at}
use Rattle.service_model.specs.Standing.{Scripts, Standing, Client, Upkeep, newcomer, client_of, lines_of, next_line}
use Rattle.service_model.proofs.Entering.{client_in, noted_clients}
use Rattle.service_model.proofs.Journals.{set_other, apart}
use Rattle.ground_model.specs.Lines.{in_line, Becomes, Notes, answering}
use Rattle.ground_model.specs.Own.{IsClient}
use Rattle.ground_model.specs.Scenes.{IsLinking}
use Rattle.ground_model.specs.Steps.{ChangesOnly}

-- ---- one client

pub set_length : {X : Type 0} (xs : List X) (i : ℕ) (x : X) → length (slice_set xs i x) ≡ length xs
set_length [] i x = refl
set_length (y ∷ ys) zero x = refl
set_length (y ∷ ys) (suc i) x = ap suc (set_length ys i x)

set_twice : {X : Type 0} (xs : List X) (i : ℕ) (x y : X) → slice_set (slice_set xs i x) i y ≡ slice_set xs i y
set_twice [] i x y = refl
set_twice (z ∷ zs) zero x y = refl
set_twice (z ∷ zs) (suc i) x y = ap (λ l. z ∷ l) (set_twice zs i x y)

pub became : (s t : Standing) (k : ℕ) (c : Client) → IsClient s k → Becomes k c s t → client_of t k ≡ c
became s t k c client b = client_in s t k c b.clients client.low client.high

pub still_client : (s t : Standing) (k : ℕ) (c : Client) → IsClient s k → Becomes k c s t → IsClient t k
still_client s t k c client b =
    record { low = client.low; high = subst (λ n. k ≤ n) (sym (ap length b.clients ∙ set_length s.clients (k - 1) c)) client.high }

pub becomes_then : (s t u : Standing) (k : ℕ) (c d : Client) → Becomes k c s t → Becomes k d t u → Becomes k d s u
becomes_then s t u k c d one two = record {
  clients = two.clients ∙ ap (λ cs. slice_set cs (k - 1) d) one.clients ∙ set_twice s.clients (k - 1) c d;
  state = two.state ∙ one.state;
  made = two.made ∙ one.made;
  upkeep = two.upkeep ∙ one.upkeep;
}

-- nothing else changed
pub changes_only : (s t : Standing) (k : ℕ) (c : Client) → IsClient s k → Becomes k c s t → ((object : ℕ) (l : IsLinking s object) → l.client ≢ k) → ChangesOnly k s t
changes_only s t k c client b links = record {
  state = b.state;
  made = b.made;
  upkeep = b.upkeep;
  clients = ap length b.clients ∙ set_length s.clients (k - 1) c;
  others = λ j low ne.
      ap (λ cs. slice_index_or cs (j - 1) newcomer) b.clients
      ∙ set_other s.clients (k - 1) (j - 1) c newcomer (apart k j client.low low ne);
  links = links;
}

-- ---- one entry

-- the next entry of client k, in this line
pub record MayNote (scripts : Scripts) (s : Standing) (k : ℕ) (line : Line) (what : What) : Type 0 where
  pub client : IsClient s k
  pub next : next_line scripts s k ≡ Some line
  pub lawful : IsLawfulWhat (mode_of scripts k) s k line.command what

pub noted_lawful : (scripts : Scripts) (s : Standing) (k : ℕ) (line : Line) (what : What) → MayNote scripts s k line what → IsLawful scripts s (in_line k line what)
noted_lawful scripts s k line what m = (m.client.low, m.client.high, inl (line, m.next, refl, m.lawful))

-- what stands after it
pub noted_after : (scripts : Scripts) (s : Standing) (k : ℕ) (line : Line) (what : What) → next_line scripts s k ≡ Some line
    → after_entry scripts s (in_line k line what) ≡ after_what (mode_of scripts k) s k line.command what
noted_after scripts s k line what next = ap (λ o. option_map_or (λ (l : Line). after_what (mode_of scripts k) s k l.command what) o (after_end s k)) next

-- the line goes on where the client's answers are as they were
pub same_next : (scripts : Scripts) (s t : Standing) (k : ℕ) (c : Client) (line : Line) → IsClient s k → Becomes k c s t → c.answers ≡ (client_of s k).answers
    → next_line scripts s k ≡ Some line → next_line scripts t k ≡ Some line
same_next scripts s t k c line client b answers next =
    ap (λ (x : Client). slice_get (lines_of scripts k) (length x.answers)) (became s t k c client b)
    ∙ ap (λ l. slice_get (lines_of scripts k) (length l)) answers ∙ next

-- maintenance of others stays
pub others_stay : (k : ℕ) (o : Option Upkeep) → ((up : Upkeep) → o ≡ Some up → up.client ≢ k) → upkeep_of_others k o ≡ o
others_stay k None h = refl
others_stay k (Some up) h = by (up.client == k) refl
  where
    by : (b : Bool) → (up.client == k) ≡ b → upkeep_of_others k (Some up) ≡ Some up
    by true e = absurd (h up refl (eqb-true up.client k e))
    by false e = ap (λ b. if b then None else Some up) e

module _ (mode : Mode) (s : Standing) (k : ℕ) (command : Command) (client : IsClient s k) where
  pub began_becomes : (bases : List Named) → Becomes k (noting (Began bases) (record (client_of s k) { update = Some (opened s.state command) })) s (after_what mode s k command (Began bases))
  began_becomes bases = record {
    clients = noted_clients s k (record (client_of s k) { update = Some (opened s.state command) }) (Began bases) client.low client.high;
    state = refl;
    made = refl;
    upkeep = refl;
  }

  pub held_becomes : (blocks : ℕ) → Becomes k (noting (Held blocks) (record (client_of s k) { held = blocks })) s (after_what mode s k command (Held blocks))
  held_becomes blocks = record {
    clients = noted_clients s k (record (client_of s k) { held = blocks }) (Held blocks) client.low client.high;
    state = refl;
    made = refl;
    upkeep = refl;
  }

  pub refused_becomes : (why : _) → Becomes k (noting (Refused why) (without_update (client_of s k))) s (after_what mode s k command (Refused why))
  refused_becomes why = record {
    clients = noted_clients s k (without_update (client_of s k)) (Refused why) client.low client.high;
    state = refl;
    made = refl;
    upkeep = refl;
  }

  pub given_up_becomes : Becomes k (noting GivenUp (without_update (client_of s k))) s (after_what mode s k command GivenUp)
  given_up_becomes = record {
    clients = noted_clients s k (without_update (client_of s k)) GivenUp client.low client.high;
    state = refl;
    made = refl;
    upkeep = refl;
  }

  pub answered_becomes : ((up : Upkeep) → s.upkeep ≡ Some up → up.client ≢ k) → Becomes k (answered mode s k command (client_of s k)) s (after_what mode s k command Answered)
  answered_becomes idle = record { clients = refl; state = refl; made = refl; upkeep = others_stay k s.upkeep idle }

-- ---- an answer

-- what the client is by an answer
pub answered_as : (mode : Mode) (s : Standing) (k : ℕ) (command : Command) (c : Client) (cause : Option LineRefusal) (reply : LineReply)
    → cause_of s k command ≡ cause → reply_at mode s k command ≡ Some reply
    → answered mode s k command c ≡ answering c reply (if is_some cause then c.update else updated command c.update)
answered_as mode s k command c cause reply why is =
    ap (λ (r : Option LineReply). (let x : Client = record c { answers = c.answers ++ option_to_list r; update = (if is_some (cause_of s k command) then c.update else updated command c.update); noted = [] } in x)) is
    ∙ ap (λ (o : Option LineRefusal). (let x : Client = record c { answers = c.answers ++ reply ∷ []; update = (if is_some o then c.update else updated command c.update); noted = [] } in x)) why

module _ (scripts : Scripts) (s : Standing) (k : ℕ) (line : Line) where
  -- a line with this answer
  pub answer_notes : (client : IsClient s k) → next_line scripts s k ≡ Some line → ((up : Upkeep) → s.upkeep ≡ Some up → up.client ≢ k)
      → (cause : Option LineRefusal) (reply : LineReply) → cause_of s k line.command ≡ cause → reply_at (mode_of scripts k) s k line.command ≡ Some reply
      → Notes scripts s k (in_line k line Answered ∷ [])
      (answering (client_of s k) reply (if is_some cause then (client_of s k).update else updated line.command (client_of s k).update))
  answer_notes client next idle cause reply why is = record {
    legal = (noted_lawful scripts s k line Answered (record { client = client; next = next; lawful = (let F : Option LineReply → Type 0 = λ r. IsSome r in subst F (sym is) refl) }), tt);
    becomes =
        let F : Client → Standing → Type 0 = λ c t. Becomes k c s t in
        subst (λ t. F (answering (client_of s k) reply (if is_some cause then (client_of s k).update else updated line.command (client_of s k).update)) t)
        (sym (noted_after scripts s k line Answered next))
        (subst (λ c. F c (after_what (mode_of scripts k) s k line.command Answered))
        (answered_as (mode_of scripts k) s k line.command (client_of s k) cause reply why is)
        (answered_becomes (mode_of scripts k) s k line.command client idle));
  }
