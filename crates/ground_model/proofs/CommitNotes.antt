-- The entry of a commit of one file: that it is lawful, and what stands after it.
use Rattle.std.proofs.Common.{◌≡◌, ◌≢◌, ◌⊎◌, inl, inr, ℕ, ◌-◌, ◌<◌, ◌≤◌, ◌^◌, ◌&&◌, ◌||◌, Bool, true, false, cond, All, length, List, [], ◌∷◌, ◌++◌, map, filter, Option, Some, None, Contains, refl, sym, ap, ◌∙◌, subst, true≢false}
use Rattle.std.specs.Prelude.{slice_set, slice_index_or, IsSomeAnd, MatchBool, if◌then◌else◌}
use Rattle.std.specs.Option.{option_map_or}
use Rattle.std.proofs.lemmas.Bool.{cases_eq}
use Rattle.script_text.specs.declared.script.Line.{Line}
use Rattle.service_model.specs.declared.journal.What.TheVariants.{Committed}
use Rattle.service_model.specs.Entries.{after_what, after_entry, committed_in, made_by, mode_of, news_by, news_of, noting}
use Rattle.service_model.specs.Legal.{IsCommitOf, IsCommittable, IsLawful, IsLater, IsUnclashed, IsUnreadOf}
use Rattle.service_model.specs.Sound.{IsSound, IsOpenAt}
use Rattle.service_model.specs.Standing.{Scripts, Standing, Update, Work, Made, newcomer, client_of, serial_of, has_writes, is_written, renewed_works, top_and_written, locked_by}
use Rattle.service_model.proofs.Causes.{lock_held}
use Rattle.service_model.proofs.Entering.{client_in, noted_clients}
use Rattle.service_model.proofs.Journals.{set_other, apart}
use Rattle.service_model.proofs.Members.{all_in, front_or_rest, none_in}
use Rattle.ground_model.specs.Commits.{MayCommit, commit_entry}
use Rattle.ground_model.specs.Own.{IsUnreadTo}
use Rattle.ground_model.specs.Scenes.{IsLinking}
use Rattle.ground_model.proofs.Lines.{noted_lawful, noted_after, set_length}

-- what holds of one holds of all of them
all_one : {X : Type 0} (P : X → Type 0) (x : X) → P x → All P (x ∷ [])
all_one {X} P x p = all_in P (x ∷ []) (λ y c. by y (front_or_rest x [] y c))
  where
    by : (y : X) → (x ≡ y) ⊎ Contains [] y → P y
    by y (inl e) = subst P e p
    by y (inr none) = absurd (none_in y none)

module _ (scripts : Scripts) (s : Standing) (k : ℕ) (line : Line) (u : Update) (w : Work) (at : ℕ) (sound : IsSound scripts s) (may : MayCommit scripts s k line u w)
    (unread : IsUnreadTo s.made w (serial_of s.state w.object)) (late : s.moment ≤ at) where
  written : is_written w ≡ true
  written = one (is_written w) (sym (ap (list_written) may.works) ∙ may.writes)
    where
      list_written : List Work → Bool
      list_written ws = has_writes (let x : Update = record { works = ws; is_super = false; picked = 0 } in x)

      one : (b : Bool) → (b || false) ≡ true → b ≡ true
      one true e = refl
      one false e = e

  pub renewed_is : renewed_works u ≡ w ∷ []
  renewed_is =
      ap (λ b. if b && has_writes u then top_and_written u.works else filter is_written u.works) may.plain
      ∙ ap (filter is_written) may.works ∙ ap (λ b. cond b (w ∷ filter is_written []) (filter is_written [])) written

  -- ---- links

  pub not_mine : (object : ℕ) (l : IsLinking s object) → l.client ≢ k
  not_mine object l e =
      let mine : IsOpenAt s k l.update = subst (λ n. IsOpenAt s n l.update) e l.is_open in
      let both : Some l.update ≡ Some u = sym mine ∙ may.is_open in
      let same : l.update ≡ u = cc in
      true≢false (sym l.several ∙ ap (λ (x : Update). x.is_super) same ∙ may.plain)

  pub unlinked : IsLinking s w.object → ⊥
  unlinked l = elim (cases_eq l.client k) [
    | inl e ↦ not_mine w.object l e
    | inr ne ↦ lock_held s k w.object may.unlocked l.client l.update l.number ne l.is_open l.several l.has
  ]

  -- ---- the entry

  unclashed : IsUnclashed s.made w
  unclashed = all_in (λ (m : Made). IsLater w m → IsUnreadOf w m) s.made
      (λ m c later. unread m c later (subst (λ o. m.serial ≤ serial_of s.state o) later.0 (sound.low m c)))

  committable : IsCommittable s k u (made_by s.state u)
  committable = record {
    held = may.noted;
    unopposed = λ plain.
        let P : Work → Type 0 = λ x. (locked_by s k x.object ≡ None) × IsUnclashed s.made x in
        subst (λ ws. All P ws) (sym may.works) (all_one P w (may.unlocked, unclashed));
    unworn =
        let P : Work → Type 0 = λ x. serial_of s.state x.object < 2 ^ 64 - 1 in
        subst (λ ws. All P ws) (sym renewed_is) (all_one P w may.unworn);
    versions = refl;
  }

  pub commit_lawful : IsLawful scripts s (commit_entry s k line u at)
  commit_lawful =
      let F : Option Update → Type 0 = λ o. IsSomeAnd o (λ v. IsCommitOf s k v (made_by s.state u)) in
      let G : Bool → Type 0 = λ b. MatchBool b (IsCommittable s k u (made_by s.state u)) (((client_of s k).noted ≡ []) × (made_by s.state u ≡ [])) in
      noted_lawful scripts s k line (Committed (made_by s.state u) at) (record {
        client = may.client;
        next = may.next;
        lawful = (may.command, subst F (sym may.is_open) (subst G (sym may.writes) committable), late);
      })

  -- ---- what stands after it

  abbrev pub then_is : Standing
  then_is = after_what (mode_of scripts k) s k line.command (Committed (made_by s.state u) at)

  pub after_is : after_entry scripts s (commit_entry s k line u at) ≡ then_is
  after_is = noted_after scripts s k line (Committed (made_by s.state u) at) may.next

  pub then_state : then_is.state ≡ committed_in s.state (w ∷ [])
  then_state =
      ap (λ (o : Option Update). committed_in s.state (option_map_or renewed_works o [])) may.is_open
      ∙ ap (committed_in s.state) renewed_is

  pub then_made : then_is.made ≡ s.made ++ news_by s.state w ∷ []
  then_made =
      ap (λ (o : Option Update). s.made ++ option_map_or (news_of s.state) o []) may.is_open
      ∙ ap (λ ws. s.made ++ map (news_by s.state) ws) renewed_is

  then_clients : then_is.clients ≡ slice_set s.clients (k - 1) (noting (Committed (made_by s.state u) at) (record (client_of s k) { held = 0 }))
  then_clients = noted_clients s k (record (client_of s k) { held = 0 }) (Committed (made_by s.state u) at) may.client.low may.client.high

  pub then_length : length then_is.clients ≡ length s.clients
  then_length = ap length then_clients ∙ set_length s.clients (k - 1) _

  pub then_others : (j : ℕ) → 1 ≤ j → j ≢ k → client_of then_is j ≡ client_of s j
  then_others j low ne =
      ap (λ cs. slice_index_or cs (j - 1) newcomer) then_clients
      ∙ set_other s.clients (k - 1) (j - 1) _ newcomer (apart k j may.client.low low ne)

  pub then_own : client_of then_is k ≡ noting (Committed (made_by s.state u) at) (record (client_of s k) { held = 0 })
  then_own = client_in s then_is k _ then_clients may.client.low may.client.high
