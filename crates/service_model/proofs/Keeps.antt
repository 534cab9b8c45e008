-- What stands is sound before the first entry, and stays so by every lawful entry.
use Rattle.std.proofs.Common.{◌≡◌, ◌⊎◌, inl, inr, ℕ, zero, suc, ◌-◌, ◌≤◌, Bool, true, false, List, [], ◌∷◌, map, length, Option, Some, None, IsSomeAnd, refl, sym, ap, ◌∙◌, subst}
use Rattle.std.specs.Prelude.{slice_index_or}
use Rattle.std.specs.List.{list_any}
use Rattle.std.specs.Option.{option_map_or}
use Rattle.script_text.specs.declared.command.Command.TheVariants.{Commit}
use Rattle.script_text.specs.declared.script.Line.{Line}
use Rattle.script_text.specs.declared.script.Mode.{Mode}
use Rattle.service_model.specs.declared.journal.Entry.{Entry}
use Rattle.service_model.specs.declared.journal.What.{What}
use Rattle.service_model.specs.declared.journal.What.TheVariants.{Began, Held, Committed, Refused, GivenUp, Started, Created, Destroyed, Pruned, Answered}
use Rattle.service_model.specs.declared.named.Named.{Named}
use Rattle.tree_model.specs.States.{State}
use Rattle.service_model.specs.Standing.{Scripts, Standing, Client, Update, newcomer, start, client_of, next_line}
use Rattle.service_model.specs.Entries.{after_what, after_end, after_entry, after_entries, mode_of}
use Rattle.service_model.specs.Legal.{IsLawful, IsLawfulWhat, IsHoldable, IsInLine, IsAtEnd, IsCommitOf, IsLegalFrom, Reaches}
use Rattle.service_model.specs.Laws.{IsFit}
use Rattle.service_model.specs.Sound.{IsSound, IsSayable, AreSayable, HasNoted, is_committing, is_starting}
use Rattle.service_model.proofs.Answering.{answered_keeps}
use Rattle.service_model.proofs.Committing.{committed_keeps}
use Rattle.service_model.proofs.Cutting.{pruned_keeps}
use Rattle.service_model.proofs.Making.{created_keeps}
use Rattle.service_model.proofs.Members.{none_in}
use Rattle.service_model.proofs.Opening.{began_keeps}
use Rattle.service_model.proofs.Quiet.{held_keeps, refused_keeps, given_up_keeps, end_keeps}
use Rattle.service_model.proofs.Removing.{destroyed_keeps}
use Rattle.service_model.proofs.Starting.{started_keeps}

-- ---- before the first entry

new_clients : (scripts : Scripts) (n : ℕ) → slice_index_or (map (λ _. newcomer) scripts) n newcomer ≡ newcomer
new_clients [] zero = refl
new_clients [] (suc n) = refl
new_clients (script ∷ scripts) zero = refl
new_clients (script ∷ scripts) (suc n) = new_clients scripts n

module _ (state : State) (scripts : Scripts) (k : ℕ) where
  pub new_client : client_of (start state scripts) k ≡ newcomer
  new_client = new_clients scripts (k - 1)

  -- no update is open before the first entry
  none_open : {A : Type 0} (u : Update) → (client_of (start state scripts) k).update ≡ Some u → A
  none_open u open_is =
      let both : Some u ≡ None = sym open_is ∙ ap (λ (c : Client). c.update) new_client in
      absurd (cc both)

  -- and nothing is noted
  none_noted : {A : Type 0} (what : What) → (client_of (start state scripts) k).noted ≡ what ∷ [] → A
  none_noted what noted =
      let both : what ∷ [] ≡ [] = sym noted ∙ ap (λ (c : Client). c.noted) new_client in
      absurd (cc both)

  not_noted : {A : Type 0} (test : What → Bool) → HasNoted (start state scripts) k test → A
  not_noted test h =
      let both : true ≡ false = sym h ∙ ap (λ (c : Client). list_any test c.noted) new_client in
      absurd (cc both)

  none_held : (client_of (start state scripts) k).held ≡ 0
  none_held = ap (λ (c : Client). c.held) new_client

-- what stands before the first entry is sound
pub start_sound : (state : State) (scripts : Scripts) → IsFit state → IsSound scripts (start state scripts)
start_sound state scripts fit = record {
  state = fit.state;
  counted = fit.counted;
  updates = λ k u a open_is. none_open state scripts k u open_is;
  locked = λ k u a open_is super none. none_open state scripts k u open_is;
  low = λ m h. absurd (none_in m h);
  alone = λ j k u v a b ne mine other. none_open state scripts j u mine;
  held = λ k a e. none_held state scripts k;
  upkeep = λ up e. (let no : Some up ≡ None = sym e in absurd (cc no));
  started = λ k a h. not_noted state scripts k is_starting h;
  lines = λ k line a next. record {
    committing = λ h. not_noted state scripts k is_committing h;
    removing = λ file is noted latest. none_noted state scripts k Started noted;
    pruning = λ file keep up is noted h. none_noted state scripts k Started noted;
  };
}

-- ---- one entry

-- what is asked of the open update for blocks to be held says that nothing was noted
first_noted : (s : Standing) (k : ℕ) (blocks : ℕ) (update : Option Update) → IsSomeAnd update (λ u. IsHoldable s k u blocks)
    → (client_of s k).noted ≡ []
first_noted s k blocks None h = absurd h
first_noted s k blocks (Some u) h = h.first

module _ (scripts : Scripts) (s : Standing) (k : ℕ) (own : Line) (a : 1 ≤ k) (b : k ≤ length s.clients) (sound : IsSound scripts s)
    (next : next_line scripts s k ≡ Some own) (says : IsSayable own.command) where
  commit_keeps : (mode : Mode) (made : List Named) (at : ℕ) → own.command ≡ Commit → (o : Option Update) → (client_of s k).update ≡ o
      → IsSomeAnd o (λ u. IsCommitOf s k u made) → IsSound scripts (after_what mode s k own.command (Committed made at))
  commit_keeps mode made at is None e h = absurd h
  commit_keeps mode made at is (Some u) e h = committed_keeps mode scripts s k own made at a b sound next is u e h

  what_keeps : (mode : Mode) (what : What) → IsLawfulWhat mode s k own.command what → IsSound scripts (after_what mode s k own.command what)
  what_keeps mode (Began bases) h = began_keeps mode scripts s k own bases a b sound next says h
  what_keeps mode (Held blocks) (inl h) =
      held_keeps scripts s k own a b sound next mode blocks (inl (first_noted s k blocks (client_of s k).update h.1))
  what_keeps mode (Held blocks) (inr h) = held_keeps scripts s k own a b sound next mode blocks (inr h.1)
  what_keeps mode (Committed made at) h = commit_keeps mode made at h.0 (client_of s k).update refl h.1
  what_keeps mode (Refused why) h = refused_keeps scripts s k own a b sound next mode why
  what_keeps mode GivenUp h = given_up_keeps scripts s k own a b sound next mode
  what_keeps mode Started h = started_keeps mode scripts s k own a b sound next says h
  what_keeps mode (Created object at) h = created_keeps mode scripts s k own object at a b sound next h
  what_keeps mode (Destroyed object blocks at) h = destroyed_keeps mode scripts s k own object blocks at a b sound next h
  what_keeps mode (Pruned object first blocks at) h = pruned_keeps mode scripts s k own object first blocks at a b sound next h
  what_keeps mode Answered h = answered_keeps mode scripts s k own a b sound next says h

-- what stands stays sound by a lawful entry of a line that may be in a script
pub line_keeps : (scripts : Scripts) (s : Standing) (e : Entry)
    → ((line : Line) → next_line scripts s e.client ≡ Some line → IsSayable line.command) → IsSound scripts s → IsLawful scripts s e
    → IsSound scripts (after_entry scripts s e)
line_keeps scripts s e says sound lawful = by lawful.2
  where
    by : IsInLine scripts s e ⊎ IsAtEnd scripts s e → IsSound scripts (after_entry scripts s e)
    by (inl h) =
        let G : Option Line → Type 0
        = λ o. IsSound scripts (option_map_or (λ (line : Line). after_what (mode_of scripts e.client) s e.client line.command e.what) o (after_end s e.client)) in
        subst G (sym h.1) (what_keeps scripts s e.client h.0 lawful.0 lawful.1 sound h.1
        (says h.0 h.1) (mode_of scripts e.client) e.what h.3)
    by (inr h) =
        let G : Option Line → Type 0
        = λ o. IsSound scripts (option_map_or (λ (line : Line). after_what (mode_of scripts e.client) s e.client line.command e.what) o (after_end s e.client)) in
        subst G (sym h.1) (end_keeps scripts s e.client lawful.0 lawful.1 sound h.1)

-- what stands stays sound by every lawful entry
pub entry_keeps : (scripts : Scripts) (s : Standing) (e : Entry) → AreSayable scripts → IsSound scripts s → IsLawful scripts s e
    → IsSound scripts (after_entry scripts s e)
entry_keeps scripts s e says sound lawful =
    line_keeps scripts s e (λ line next. says e.client (length (client_of s e.client).answers) line next) sound lawful

-- ---- a journal

entries_keep : (scripts : Scripts) (es : List Entry) (s : Standing) → AreSayable scripts → IsSound scripts s → IsLegalFrom scripts s es
    → IsSound scripts (after_entries scripts s es)
entries_keep scripts [] s says sound legal = sound
entries_keep scripts (e ∷ es) s says sound legal =
    entries_keep scripts es (after_entry scripts s e) says (entry_keeps scripts s e says sound legal.0) legal.1

-- what stands after a legal journal is sound
pub journal_sound : (opening : State) (scripts : Scripts) (es : List Entry) (s : Standing) → IsFit opening → AreSayable scripts
    → Reaches opening scripts es s → IsSound scripts s
journal_sound opening scripts es s fit says r =
    let F : Standing → Type 0 = λ x. IsSound scripts x in
    subst F r.leads (entries_keep scripts es (start opening scripts) says (start_sound opening scripts fit) r.legal)
