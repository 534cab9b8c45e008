-- More of what the entries of a client note: none at all, one list after another, and the end of a script.
use Rattle.std.proofs.Common.{◌≡◌, ℕ, ◌+◌, ◌-◌, true, false, ◌&&◌, cond, nat_eq, List, [], ◌∷◌, ◌++◌, length, Option, Some, None, is_some, refl, sym, ap, ◌∙◌, subst, arith, slice_get}
use Rattle.std.specs.Prelude.{count_by}
use Rattle.std.specs.List.{list_any, list_all}
use Rattle.std.specs.Option.{option_map_or}
use Rattle.std.proofs.lemmas.Bool.{or_parts}
use Rattle.std.proofs.lemmas.List.{set-get_or}
use Rattle.std.proofs.lemmas.Option.{slice_get_past}
use Rattle.std.proofs.lemmas.List.Sums.{sum_by-cons}
use Rattle.script_text.specs.declared.script.Line.{Line}
use Rattle.service_model.specs.declared.journal.Entry.{Entry}
use Rattle.service_model.specs.declared.journal.What.TheVariants.{Answered, GivenUp}
use Rattle.service_model.specs.Entries.{after_end, after_entries, after_entry, after_what, mode_of, without_update}
use Rattle.service_model.specs.Legal.{moment_of}
use Rattle.service_model.specs.Standing.{Scripts, Standing, Client, Update, client_of, last_line, lines_of, newcomer, next_line}
use Rattle.service_model.proofs.Journals.{after_append, legal_append}
use Rattle.ground_model.specs.Fronts.{is_at, is_change}
use Rattle.ground_model.specs.Lines.{Becomes, Notes, in_line}
use Rattle.ground_model.specs.Noted.{AnswerEnds, IsLastAnswer, IsNow, LastIsLatest, NothingIsNoted, NotesGoOn, NotesRest, NotesShow, UntimedAreOfTurn}
use Rattle.ground_model.proofs.Lines.{became, becomes_then, still_client}
use Rattle.ground_model.proofs.Maps.{end_is_noted}

pub nothing_is_noted : NothingIsNoted
nothing_is_noted scripts s k = record {
  legal = tt;
  becomes = record { clients = sym (set-get_or s.clients (k - 1) newcomer); state = refl; made = refl; upkeep = refl };
}

pub notes_go_on : NotesGoOn
notes_go_on scripts s k es fs c d one two = record {
  legal = legal_append scripts s es fs one.legal two.legal;
  becomes =
      let F : Standing → Type 0 = λ t. Becomes k d s t in
      subst F (sym (after_append scripts s es fs))
      (becomes_then s (after_entries scripts s es) (after_entries scripts (after_entries scripts s es) fs) k c d one.becomes two.becomes);
}

pub notes_show : NotesShow
notes_show scripts s k es c client notes = record {
  client = still_client s (after_entries scripts s es) k c client notes.becomes;
  own = became s (after_entries scripts s es) k c client notes.becomes;
  next = ap (λ (x : Client). slice_get (lines_of scripts k) (length x.answers)) (became s (after_entries scripts s es) k c client notes.becomes);
}

pub notes_rest : NotesRest
notes_rest scripts s k es c client notes fresh none idle = record {
  client = still_client s (after_entries scripts s es) k c client notes.becomes;
  fresh = ap (λ (x : Client). x.noted) (became s (after_entries scripts s es) k c client notes.becomes) ∙ fresh;
  held = ap (λ (x : Client). x.held) (became s (after_entries scripts s es) k c client notes.becomes) ∙ none;
  idle = λ up is. idle up (sym notes.becomes.upkeep ∙ is);
}

-- whose an entry is, it is the latest one after it
entry_latest : (scripts : Scripts) (s : Standing) (e : Entry) → (after_entry scripts s e).latest ≡ e.client
entry_latest scripts s e = by (next_line scripts s e.client)
  where
    by : (o : Option Line) → (option_map_or (λ (line : Line). after_what (mode_of scripts e.client) s e.client line.command e.what) o (after_end s e.client)).latest ≡ e.client
    by None = refl
    by (Some line) = refl

pub last_is_latest : LastIsLatest
last_is_latest scripts s es e = ap (λ (t : Standing). t.latest) (after_append scripts s es (e ∷ [])) ∙ entry_latest scripts (after_entries scripts s es) e

-- ---- moments

untimed_at : (now : ℕ) (o : Option ℕ) → is_some o ≡ false → option_map_or (λ at. nat_eq at now) o true ≡ true
untimed_at now None h = refl
untimed_at now (Some at) h = (let no : true ≡ false = h in absurd (cc no))

untimed_all : (now : ℕ) (es : List Entry) → list_any is_change es ≡ false → list_all (is_at now) es ≡ true
untimed_all now [] h = refl
untimed_all now (e ∷ es) h =
    let both = or_parts (is_change e) (list_any is_change es) h in
    ap (λ b. b && list_all (is_at now) es) (untimed_at now (moment_of e.what) both.0) ∙ untimed_all now es both.1

untimed_count : (es : List Entry) → list_any is_change es ≡ false → count_by is_change es ≡ 0
untimed_count [] h = refl
untimed_count (e ∷ es) h =
    let both = or_parts (is_change e) (list_any is_change es) h in
    sum_by-cons (λ x. cond (is_change x) 1 0) e es ∙ ap (λ b. cond b 1 0 + count_by is_change es) both.0 ∙ ap (λ n. 0 + n) (untimed_count es both.1)

pub untimed_are_of_turn : UntimedAreOfTurn
untimed_are_of_turn now es h = record {
  moments = untimed_all now es h;
  one = (let none = untimed_count es h in omega (arith, none));
}

-- ---- the end of a script

module _ (scripts : Scripts) (s : Standing) (k : ℕ) (line : Line) (es : List Entry) (c : Client) (u : Update) (is : IsLastAnswer scripts s k line es c) (open_is : c.update ≡ Some u) where
  abbrev then_stands : Standing
  then_stands = after_entries scripts s (es ++ in_line k line Answered ∷ [])

  now : IsNow scripts then_stands k c
  now = notes_show scripts s k (es ++ in_line k line Answered ∷ []) c is.client is.notes

  next_none : next_line scripts then_stands k ≡ None
  next_none = now.next ∙ slice_get_past (lines_of scripts k) (length c.answers) (let all = is.all in omega (arith, all))

  last : last_line scripts k ≡ Some line
  last = ap (slice_get (lines_of scripts k)) (let all = is.all in let one = is.answers in omega (arith, all, one)) ∙ is.next

  given_up : Notes scripts then_stands k (in_line k line GivenUp ∷ []) (without_update (client_of then_stands k))
  given_up =
      end_is_noted scripts then_stands k line u now.client next_none last (last_is_latest scripts s es (in_line k line Answered))
      (ap (λ (x : Client). x.update) now.own ∙ open_is)

  answer_ends_here : Notes scripts s k ((es ++ in_line k line Answered ∷ []) ++ in_line k line GivenUp ∷ []) (without_update c)
  answer_ends_here =
      notes_go_on scripts s k (es ++ in_line k line Answered ∷ []) (in_line k line GivenUp ∷ []) c (without_update c) is.notes
      (subst (λ x. Notes scripts then_stands k (in_line k line GivenUp ∷ []) (without_update x)) now.own given_up)

pub answer_ends : AnswerEnds
answer_ends scripts s k line es c u is open_is = answer_ends_here scripts s k line es c u is open_is
