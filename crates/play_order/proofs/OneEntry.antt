-- What one entry of a client does to its answers and to what is noted of its line.
use Rattle.std.proofs.Common.{◌≡◌, ◌⊎◌, inl, inr, ℕ, ◌+◌, ◌-◌, ◌≤◌, Bool, true, false, List, [], ◌∷◌, ◌++◌, length, Option, Some, None, refl, sym, ap, ◌∙◌, subst, length-append}
use Rattle.std.specs.Prelude.{IsSome, option_to_list, if◌then◌else◌}
use Rattle.std.specs.Option.{option_map_or}
use Rattle.std.proofs.lemmas.List.{length-set}
use Rattle.script_text.specs.declared.command.Command.{Command}
use Rattle.script_text.specs.declared.reply.LineReply.{LineReply}
use Rattle.script_text.specs.declared.script.Line.{Line}
use Rattle.script_text.specs.declared.script.Mode.{Mode}
use Rattle.service_model.specs.declared.journal.Entry.{Entry}
use Rattle.service_model.specs.declared.journal.What.{What}
use Rattle.service_model.specs.declared.journal.What.TheVariants.{Began, Held, Committed, Refused, GivenUp, Started, Created, Destroyed, Pruned, Answered}
use Rattle.service_model.specs.Entries.{after_end, after_entry, after_what, answered, changed, is_answer, mode_of, noting, without_update}
use Rattle.service_model.specs.Legal.{IsAtEnd, IsLawful, IsLawfulWhat}
use Rattle.service_model.specs.Replies.{reply_at}
use Rattle.service_model.specs.Standing.{Scripts, Standing, Client, client_of, next_line, with_client}
use Rattle.service_model.proofs.Entering.{client_in}
use Rattle.play_order.specs.Orders.{answer_count}

-- ---- by what it says

-- the client has the answers that it had, and these entries of its line
pub record NotesMore (c d : Client) (list : List What) : Type 0 where
  pub answers : d.answers ≡ c.answers
  pub noted : d.noted ≡ list

module _ (mode : Mode) (s : Standing) (k : ℕ) (command : Command) (a : 1 ≤ k) (b : k ≤ length s.clients) where
  set_client : (c : Client) → client_of (with_client s k c) k ≡ c
  set_client c = client_in s (with_client s k c) k c refl a b

  abbrev KeepsLine : Standing → Type 0
  KeepsLine t = NotesMore (client_of s k) (client_of t k) (client_of s k).noted

  kept_by : (c : Client) → c.answers ≡ (client_of s k).answers → c.noted ≡ (client_of s k).noted → KeepsLine (with_client s k c)
  kept_by c answers noted = record {
    answers = ap (λ (x : Client). x.answers) (set_client c) ∙ answers;
    noted = ap (λ (x : Client). x.noted) (set_client c) ∙ noted;
  }

  changed_keeps : (what : What) → is_answer what ≡ false → KeepsLine (changed mode s k command what)
  changed_keeps (Began bases) h = kept_by _ refl refl
  changed_keeps (Held blocks) h = kept_by _ refl refl
  changed_keeps (Committed made at) h = kept_by _ refl refl
  changed_keeps (Refused why) h = kept_by _ refl refl
  changed_keeps GivenUp h = kept_by _ refl refl
  changed_keeps Started h = record { answers = refl; noted = refl }
  changed_keeps (Created object at) h = kept_by _ refl refl
  changed_keeps (Destroyed object blocks at) h = record { answers = refl; noted = refl }
  changed_keeps (Pruned object first blocks at) h = record { answers = refl; noted = refl }
  changed_keeps Answered h = (let no : true ≡ false = h in absurd (cc no))

  changed_length : (what : What) → length (changed mode s k command what).clients ≡ length s.clients
  changed_length (Began bases) = length-set s.clients (k - 1) _
  changed_length (Held blocks) = length-set s.clients (k - 1) _
  changed_length (Committed made at) = length-set s.clients (k - 1) _
  changed_length (Refused why) = length-set s.clients (k - 1) _
  changed_length GivenUp = length-set s.clients (k - 1) _
  changed_length Started = refl
  changed_length (Created object at) = length-set s.clients (k - 1) _
  changed_length (Destroyed object blocks at) = refl
  changed_length (Pruned object first blocks at) = refl
  changed_length Answered = length-set s.clients (k - 1) _

  -- an entry that is no answer is noted
  noted_what : (what : What) → is_answer what ≡ false
      → NotesMore (client_of s k) (client_of (after_what mode s k command what) k) ((client_of s k).noted ++ what ∷ [])
  noted_what what h =
      let t : Standing = changed mode s k command what in
      let kept : KeepsLine t = changed_keeps what h in
      let high : k ≤ length t.clients = subst (λ n. k ≤ n) (sym (changed_length what)) b in
      let is : client_of (after_what mode s k command what) k ≡ noting what (client_of t k)
      = ap (λ w. client_of (if w then t else with_client t k (noting what (client_of t k))) k) h
      ∙ client_in t (with_client t k (noting what (client_of t k))) k (noting what (client_of t k)) refl a high in
      record {
        answers = ap (λ (x : Client). x.answers) is ∙ kept.answers;
        noted = ap (λ (x : Client). x.noted) is ∙ ap (λ l. l ++ what ∷ []) kept.noted;
      }

  one_reply : (r : Option LineReply) → IsSome r → length (option_to_list r) ≡ 1
  one_reply (Some reply) h = refl
  one_reply None h = (let no : true ≡ false = sym h in absurd (cc no))

  answered_client : client_of (after_what mode s k command Answered) k ≡ answered mode s k command (client_of s k)
  answered_client = set_client (answered mode s k command (client_of s k))

  answered_more : IsSome (reply_at mode s k command) → answer_count (after_what mode s k command Answered) k ≡ answer_count s k + 1
  answered_more h =
      ap (λ (x : Client). length x.answers) answered_client
      ∙ length-append (client_of s k).answers (option_to_list (reply_at mode s k command))
      ∙ ap (λ n. answer_count s k + n) (one_reply (reply_at mode s k command) h)

  answered_fresh : (client_of (after_what mode s k command Answered) k).noted ≡ []
  answered_fresh = ap (λ (x : Client). x.noted) answered_client

-- ---- one entry

-- the entry answers the line of client k
pub record IsAnswerStep (scripts : Scripts) (s : Standing) (k : ℕ) (e : Entry) : Type 0 where
  pub line : Line
  pub next : next_line scripts s k ≡ Some line
  pub number : e.line ≡ line.number
  pub is : e.what ≡ Answered
  pub more : answer_count (after_entry scripts s e) k ≡ answer_count s k + 1
  pub fresh : (client_of (after_entry scripts s e) k).noted ≡ []

-- the entry is noted in the line of client k
pub record IsNoteStep (scripts : Scripts) (s : Standing) (k : ℕ) (e : Entry) : Type 0 where
  pub line : Line
  pub next : next_line scripts s k ≡ Some line
  pub number : e.line ≡ line.number
  pub plain : is_answer e.what ≡ false
  pub notes : NotesMore (client_of s k) (client_of (after_entry scripts s e) k) ((client_of s k).noted ++ e.what ∷ [])

-- the entry gives up the update that is open at the end of client k's script
pub record IsEndStep (scripts : Scripts) (s : Standing) (k : ℕ) (e : Entry) : Type 0 where
  pub at_end : IsAtEnd scripts s e
  pub notes : NotesMore (client_of s k) (client_of (after_entry scripts s e) k) (client_of s k).noted
  pub closed : (client_of (after_entry scripts s e) k).update ≡ None

abbrev pub IsStep : Scripts → Standing → ℕ → Entry → Type 0
IsStep scripts s k e = IsAnswerStep scripts s k e ⊎ (IsNoteStep scripts s k e ⊎ IsEndStep scripts s k e)

module _ (scripts : Scripts) (s : Standing) (e : Entry) (a : 1 ≤ e.client) (b : e.client ≤ length s.clients) where
  abbrev entry_by : Option Line → Standing
  entry_by o = option_map_or (λ (line : Line). after_what (mode_of scripts e.client) s e.client line.command e.what) o (after_end s e.client)

  in_line_step : (line : Line) → next_line scripts s e.client ≡ Some line → e.line ≡ line.number
      → IsLawfulWhat (mode_of scripts e.client) s e.client line.command e.what → IsStep scripts s e.client e
  in_line_step line next number lawful = by (is_answer e.what) refl
    where
      leads : (what : What) → e.what ≡ what → after_entry scripts s e ≡ after_what (mode_of scripts e.client) s e.client line.command what
      leads what is =
          ap entry_by next ∙ ap (λ w. after_what (mode_of scripts e.client) s e.client line.command w) is

      answers : (what : What) → is_answer what ≡ true → what ≡ Answered
      answers Answered h = refl
      answers _ h = (let no : false ≡ true = h in absurd (cc no))

      by : (x : Bool) → is_answer e.what ≡ x → IsStep scripts s e.client e
      by true h =
          let is : e.what ≡ Answered = answers e.what h in
          let to : after_entry scripts s e ≡ after_what (mode_of scripts e.client) s e.client line.command Answered = leads Answered is in
          let F : What → Type 0 = λ w. IsLawfulWhat (mode_of scripts e.client) s e.client line.command w in
          inl (record {
            line = line;
            next = next;
            number = number;
            is = is;
            more = ap (λ t. answer_count t e.client) to ∙ answered_more (mode_of scripts e.client) s e.client line.command a b (subst F is lawful);
            fresh = ap (λ t. (client_of t e.client).noted) to ∙ answered_fresh (mode_of scripts e.client) s e.client line.command a b;
          })
      by false h =
          let F : Standing → Type 0 = λ t. NotesMore (client_of s e.client) (client_of t e.client) ((client_of s e.client).noted ++ e.what ∷ []) in
          inr (inl (record {
            line = line;
            next = next;
            number = number;
            plain = h;
            notes = subst F (sym (leads e.what refl)) (noted_what (mode_of scripts e.client) s e.client line.command a b e.what h);
          }))

  end_step : IsAtEnd scripts s e → IsStep scripts s e.client e
  end_step h =
      let is : client_of (after_entry scripts s e) e.client ≡ without_update (client_of s e.client)
      = ap (λ o. client_of (entry_by o) e.client) h.1
      ∙ client_in s (after_end s e.client) e.client (without_update (client_of s e.client)) refl a b in
      inr (inr (record {
        at_end = h;
        notes = record { answers = ap (λ (x : Client). x.answers) is; noted = ap (λ (x : Client). x.noted) is };
        closed = ap (λ (x : Client). x.update) is;
      }))

-- a lawful entry is one of these
pub lawful_step : (scripts : Scripts) (s : Standing) (e : Entry) → IsLawful scripts s e → IsStep scripts s e.client e
lawful_step scripts s e h =
    elim h.2 [
      | inl l ↦ in_line_step scripts s e h.0 h.1 l.0 l.1 l.2 l.3
      | inr l ↦ end_step scripts s e h.0 h.1 l
    ]

pub step_of : (scripts : Scripts) (s : Standing) (k : ℕ) (e : Entry) → e.client ≡ k → IsLawful scripts s e → IsStep scripts s k e
step_of scripts s k e own h =
    let F : ℕ → Type 0 = λ n. IsStep scripts s n e in
    subst F own (lawful_step scripts s e h)

-- no entry makes a client
pub entry_length : (scripts : Scripts) (s : Standing) (e : Entry) → IsLawful scripts s e → length (after_entry scripts s e).clients ≡ length s.clients
entry_length scripts s e h = by (next_line scripts s e.client)
  where
    noted_length : (t : Standing) (x : Bool) → length (if x then t else with_client t e.client (noting e.what (client_of t e.client))).clients ≡ length t.clients
    noted_length t true = refl
    noted_length t false = length-set t.clients (e.client - 1) _

    by : (o : Option Line) → length (entry_by scripts s e h.0 h.1 o).clients ≡ length s.clients
    by None = length-set s.clients (e.client - 1) _
    by (Some line) =
        noted_length (changed (mode_of scripts e.client) s e.client line.command e.what) (is_answer e.what)
        ∙ changed_length (mode_of scripts e.client) s e.client line.command h.0 h.1 e.what
