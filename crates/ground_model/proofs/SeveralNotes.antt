-- The entry of a commit of several files: that it is lawful, and what stands after it.
use Rattle.std.proofs.Common.{Contains, ◌≡◌, ◌≢◌, inl, inr, ℕ, ◌-◌, ◌≤◌, Bool, true, length, List, [], ◌∷◌, ◌++◌, Option, refl, sym, ap, ◌∙◌, subst, true≢false}
use Rattle.std.specs.Prelude.{slice_set, slice_index_or, IsSomeAnd, MatchBool}
use Rattle.std.specs.List.{list_any}
use Rattle.std.specs.Option.{option_map_or}
use Rattle.std.proofs.lemmas.Bool.{cases_eq}
use Rattle.script_text.specs.declared.script.Line.{Line}
use Rattle.service_model.specs.declared.journal.What.{What}
use Rattle.service_model.specs.declared.journal.What.TheVariants.{Committed}
use Rattle.service_model.specs.Entries.{after_what, after_entry, committed_in, made_by, mode_of, news_of, noting}
use Rattle.service_model.specs.Legal.{IsCommitOf, IsCommittable, IsLawful}
use Rattle.service_model.specs.Sound.{IsSound, is_committing}
use Rattle.service_model.specs.Standing.{Scripts, Standing, Client, Update, newcomer, client_of, has_file, renewed_works}
use Rattle.service_model.proofs.Causes.{file_had}
use Rattle.service_model.proofs.Committing.{renewed_in}
use Rattle.service_model.proofs.Entering.{client_in, noted_clients}
use Rattle.service_model.proofs.Journals.{set_other, apart}
use Rattle.service_model.proofs.Members.{from_place}
use Rattle.ground_model.specs.Commits.{commit_entry}
use Rattle.ground_model.specs.Linking.{HasCommitted}
use Rattle.ground_model.specs.Scenes.{IsLinking}
use Rattle.ground_model.specs.Several.{MayCommitSeveral, SeveralAreLast}
use Rattle.ground_model.proofs.LineTurns.{uncommitted_sets_none}
use Rattle.ground_model.proofs.Lines.{noted_lawful, noted_after, set_length}

module _ (scripts : Scripts) (s : Standing) (k : ℕ) (line : Line) (u : Update) (sound : IsSound scripts s) (may : MayCommitSeveral scripts s k line u) where
  -- ---- links

  pub none_mine : (object : ℕ) (l : IsLinking s object) → l.client ≢ k
  none_mine = uncommitted_sets_none s k (ap (list_any is_committing) may.noted)

  pub unlinked_file : (object : ℕ) → has_file object u ≡ true → IsLinking s object → ⊥
  unlinked_file object has l = elim (cases_eq l.client k) [
    | inl e ↦ none_mine object l e
    | inr ne ↦ sound.alone l.client k l.update u l.number may.client.low ne l.is_open may.is_open object l.several may.several l.has has
  ]

  module _ (at : ℕ) (late : s.moment ≤ at) where
    -- ---- the entry

    committable : IsCommittable s k u (made_by s.state u)
    committable = record {
      held = may.noted;
      unopposed = λ plain. absurd (true≢false (sym may.several ∙ plain));
      unworn = may.unworn;
      versions = refl;
    }

    pub several_lawful : IsLawful scripts s (commit_entry s k line u at)
    several_lawful =
        let F : Option Update → Type 0 = λ o. IsSomeAnd o (λ v. IsCommitOf s k v (made_by s.state u)) in
        let G : Bool → Type 0 = λ b. MatchBool b (IsCommittable s k u (made_by s.state u)) (((client_of s k).noted ≡ []) × (made_by s.state u ≡ [])) in
        noted_lawful scripts s k line (Committed (made_by s.state u) at) (record {
          client = may.client;
          next = may.next;
          lawful = (may.command, subst F (sym may.is_open) (subst G (sym may.writes) committable), late);
        })

    -- ---- what stands after it

    abbrev pub then_is : Standing
    then_is = after_what (mode_of scripts k) s k line.command (Committed (made_by s.state u) at)

    pub after_is : after_entry scripts s (commit_entry s k line u at) ≡ then_is
    after_is = noted_after scripts s k line (Committed (made_by s.state u) at) may.next

    pub then_state : then_is.state ≡ committed_in s.state (renewed_works u)
    then_state = ap (λ (o : Option Update). committed_in s.state (option_map_or renewed_works o [])) may.is_open

    pub then_made : then_is.made ≡ s.made ++ news_of s.state u
    then_made = ap (λ (o : Option Update). s.made ++ option_map_or (news_of s.state) o []) may.is_open

    then_clients : then_is.clients ≡ slice_set s.clients (k - 1) (noting (Committed (made_by s.state u) at) (record (client_of s k) { held = 0 }))
    then_clients = noted_clients s k (record (client_of s k) { held = 0 }) (Committed (made_by s.state u) at) may.client.low may.client.high

    pub then_length : length then_is.clients ≡ length s.clients
    then_length = ap length then_clients ∙ set_length s.clients (k - 1) _

    pub then_others : (j : ℕ) → 1 ≤ j → j ≢ k → client_of then_is j ≡ client_of s j
    then_others j low ne =
        ap (λ cs. slice_index_or cs (j - 1) newcomer) then_clients
        ∙ set_other s.clients (k - 1) (j - 1) _ newcomer (apart k j may.client.low low ne)

    pub then_own : client_of then_is k ≡ noting (Committed (made_by s.state u) at) (record (client_of s k) { held = 0 })
    then_own = client_in s then_is k _ then_clients may.client.low may.client.high

    pub then_committed : HasCommitted then_is k u (made_by s.state u) at
    then_committed = record {
      client = record { low = may.client.low; high = subst (λ n. k ≤ n) (sym then_length) may.client.high };
      is_open = ap (λ (c : Client). c.update) then_own ∙ may.is_open;
      several = may.several;
      noted = ap (λ (c : Client). c.noted) then_own ∙ ap (λ (ns : List What). ns ++ Committed (made_by s.state u) at ∷ []) may.noted;
    }

    pub then_linking : (object : ℕ) → has_file object u ≡ true → IsLinking then_is object
    then_linking object has = record {
      client = k;
      update = u;
      number = may.client.low;
      is_open = then_committed.is_open;
      several = may.several;
      committed = ap (list_any is_committing) then_committed.noted;
      has = has;
    }

pub several_are_last : SeveralAreLast
several_are_last scripts s k line u i w sound may at =
    let c : Contains u.works w = renewed_in u w (from_place (renewed_works u) w i at) in (
      sound.locked k u may.client.low may.is_open may.several (ap (list_any is_committing) may.noted) w c,
      λ l. unlinked_file scripts s k line u sound may w.object (file_had w.object u w c refl) l,
    )
