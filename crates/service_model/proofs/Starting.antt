-- What stands stays sound where maintenance begins.
use Rattle.std.proofs.Common.{◌≡◌, ◌≢◌, ◌⊎◌, inl, inr, ℕ, ◌-◌, ◌≤◌, true, [], ◌∷◌, ◌++◌, length, Option, Some, None, IsSomeAnd, option_map, refl, sym, ap, ◌∙◌, subst}
use Rattle.std.specs.Prelude.{slice_set}
use Rattle.std.specs.List.{list_any}
use Rattle.std.specs.Option.{option_map_or}
use Rattle.std.proofs.lemmas.Bool.{cases_eq, or_right}
use Rattle.script_text.specs.declared.command.Command.{Command}
use Rattle.script_text.specs.declared.command.Command.TheVariants.{Begin, Super, Pick, Do, Commit, Abandon, Create, Destroy, Prune, Restrict}
use Rattle.script_text.specs.declared.command.FileName.{FileName}
use Rattle.script_text.specs.declared.reply.LineRefusal.TheVariants.{Pinned}
use Rattle.script_text.specs.declared.script.Line.{Line}
use Rattle.script_text.specs.declared.script.Mode.{Mode}
use Rattle.service_model.specs.declared.journal.What.TheVariants.{Started}
use Rattle.service_model.specs.Standing.{Scripts, Standing, Client, Work, Upkeep, newcomer, client_of, next_line, pinned_by}
use Rattle.service_model.specs.Causes.{cause_of, object_of, open_cause, denied_cause, busy_cause, room_cause, keeping}
use Rattle.service_model.specs.Entries.{after_what, noting, upkeep_by, first_by}
use Rattle.service_model.specs.Legal.{IsLawfulWhat, IsMaintenance}
use Rattle.service_model.specs.Upkeep.{kept_from, new_object}
use Rattle.service_model.specs.Sound.{IsSound, IsSoundLine, IsSayable, IsOn, IsLetAlone, IsPrunable, HasNoted, is_holding, is_committing, is_starting}
use Rattle.service_model.proofs.Causes.{first_none, live_by_name, let_alone, not_busy}
use Rattle.service_model.proofs.Entering.{IsQuietClient, any_push, client_in, none_before, other_more, quiet_step, same_line, same_update}
use Rattle.service_model.proofs.Journals.{set_other, apart}
use Rattle.service_model.proofs.Pruning.{kept_is_prunable}
use Rattle.service_model.proofs.Sound.{IsUpkeepStep}

-- ---- causes

-- what the causes of maintenance tell where none is there
no_busy : (s : Standing) (k : ℕ) (command : Command) → IsMaintenance s command → cause_of s k command ≡ None → busy_cause s k ≡ None
no_busy s k (Begin file) is none = absurd is
no_busy s k (Super files) is none = absurd is
no_busy s k (Pick place) is none = absurd is
no_busy s k (Do step) is none = absurd is
no_busy s k Commit is none = absurd is
no_busy s k Abandon is none = absurd is
no_busy s k Create is none =
    let room = room_cause s (new_object s.state) in
    let first = first_none (open_cause (client_of s k)) (busy_cause s k ∷ room ∷ []) none in
    (first_none (busy_cause s k) (room ∷ []) first.1).0
no_busy s k (Destroy file) is none =
    let denied = denied_cause s.state keeping file in
    let pinned = option_map Pinned (pinned_by s k (object_of file)) in
    let first = first_none (open_cause (client_of s k)) (denied ∷ busy_cause s k ∷ pinned ∷ []) none in
    let second = first_none denied (busy_cause s k ∷ pinned ∷ []) first.1 in
    (first_none (busy_cause s k) (pinned ∷ []) second.1).0
no_busy s k (Prune file keep) is none =
    let denied = denied_cause s.state keeping file in
    let first = first_none (open_cause (client_of s k)) (denied ∷ busy_cause s k ∷ []) none in
    let second = first_none denied (busy_cause s k ∷ []) first.1 in
    (first_none (busy_cause s k) [] second.1).0
no_busy s k (Restrict file mask) is none = absurd is

not_mapped : (o : Option ℕ) → option_map Pinned o ≡ None → o ≡ None
not_mapped None e = refl
not_mapped (Some n) e = (let no : Some (Pinned n) ≡ None = e in absurd (cc no))

removed_alone : (s : Standing) (k : ℕ) (file : FileName) → cause_of s k (Destroy file) ≡ None → IsLetAlone s (object_of file)
removed_alone s k file none =
    let denied = denied_cause s.state keeping file in
    let pinned = option_map Pinned (pinned_by s k (object_of file)) in
    let first = first_none (open_cause (client_of s k)) (denied ∷ busy_cause s k ∷ pinned ∷ []) none in
    let second = first_none denied (busy_cause s k ∷ pinned ∷ []) first.1 in
    let third = first_none (busy_cause s k) (pinned ∷ []) second.1 in
    let fourth = first_none pinned [] third.1 in
    let_alone s k (object_of file) first.0 (not_mapped (pinned_by s k (object_of file)) fourth.0)

pruned_keeps : (scripts : Scripts) (s : Standing) (k : ℕ) (file : FileName) (keep : ℕ) → IsSound scripts s → 1 ≤ keep
    → cause_of s k (Prune file keep) ≡ None → IsPrunable s (object_of file) (kept_from s (object_of file) keep)
pruned_keeps scripts s k file keep sound keeps none =
    let denied = denied_cause s.state keeping file in
    let first = first_none (open_cause (client_of s k)) (denied ∷ busy_cause s k ∷ []) none in
    let second = first_none denied (busy_cause s k ∷ []) first.1 in
    let live = live_by_name s.state keeping file second.0 in
    kept_is_prunable scripts s (object_of file) keep live.0 sound keeps live.1

-- ---- the entry

module _ (mode : Mode) (scripts : Scripts) (s : Standing) (k : ℕ) (own : Line) (a : 1 ≤ k) (b : k ≤ length s.clients)
    (sound : IsSound scripts s) (next : next_line scripts s k ≡ Some own) (says : IsSayable own.command)
    (lawful : IsLawfulWhat mode s k own.command Started) where
  own_is : client_of (after_what mode s k own.command Started) k ≡ noting Started (client_of s k)
  own_is = client_in s (after_what mode s k own.command Started) k (noting Started (client_of s k)) refl a b

  -- no update changed
  same_open : (j : ℕ) → 1 ≤ j → (j ≡ k) ⊎ (j ≢ k) → (client_of (after_what mode s k own.command Started) j).update ≡ (client_of s j).update
  same_open j d (inl e) =
      let F : ℕ → Type 0 = λ n. (client_of (after_what mode s k own.command Started) n).update ≡ (client_of s n).update in
      subst F (sym e) (ap (λ (x : Client). x.update) own_is)
  same_open j d (inr ne) =
      ap (λ (x : Client). x.update) (set_other s.clients (k - 1) (j - 1) (noting Started (client_of s k)) newcomer (apart k j a d ne))

  was_on : (j : ℕ) (w : Work) → IsOn (after_what mode s k own.command Started) j w → IsOn s j w
  was_on j w on = record {
    update = on.update;
    number = on.number;
    is_open = sym (same_open j on.number (cases_eq j k)) ∙ on.is_open;
    listed = on.listed;
  }

  quiet_start : IsQuietClient s k (noting Started (client_of s k))
  quiet_start = record {
    update = λ u e. same_update s k u e;
    uncommitted = λ u e none. none_before is_committing (client_of s k).noted Started none;
    held = λ e. sound.held k a (ap is_holding lawful.1);
  }

  begun : list_any is_starting ((client_of s k).noted ++ Started ∷ []) ≡ true
  begun = any_push is_starting (client_of s k).noted Started ∙ or_right (list_any is_starting (client_of s k).noted) true refl

  other_stays : (j : ℕ) → 1 ≤ j → j ≢ k → HasNoted s j is_starting → Some (upkeep_by s k own.command) ≡ s.upkeep
  other_stays j d ne h = by s.upkeep refl (sound.started j d h)
    where
      by : (o : Option Upkeep) → s.upkeep ≡ o → IsSomeAnd o (λ (up : Upkeep). up.client ≡ j) → Some (upkeep_by s k own.command) ≡ s.upkeep
      by None e f = absurd f
      by (Some up) e f = absurd (ne (sym f ∙ not_busy s k up (no_busy s k own.command lawful.0 lawful.2) e))

  upkeep_start : IsUpkeepStep s (Some (upkeep_by s k own.command)) k (noting Started (client_of s k))
  upkeep_start = record {
    within = λ up h. inl (ap (λ o. option_map_or (λ (x : Upkeep). x.client) o k) (sym h), begun);
    started = λ h. refl;
    others = other_stays;
  }

  prunable_after : (object first : ℕ) → IsPrunable s object first → IsPrunable (after_what mode s k own.command Started) object first
  prunable_after object first p = record {
    last = p.last;
    bases = λ j w on same. p.bases j w (was_on j w on) same;
  }

  start_line : IsSoundLine (after_what mode s k own.command Started) k own.command
  start_line = record {
    committing = λ h.
        let noted : (client_of (after_what mode s k own.command Started) k).noted ≡ (client_of s k).noted ++ Started ∷ []
        = ap (λ (x : Client). x.noted) own_is in
        (sound.lines k own a next).committing
        (sym (other_more is_committing (client_of s k).noted Started refl) ∙ ap (list_any is_committing) (sym noted) ∙ h);
    removing = λ file is only latest j w on same.
        removed_alone s k file (ap (cause_of s k) (sym is) ∙ lawful.2) j w (was_on j w on) same;
    pruning = λ file keep up is only h.
        let F : Command → Type 0 = λ x. IsSayable x in
        let keeps : 1 ≤ keep = subst F is says in
        let p = pruned_keeps scripts s k file keep sound keeps (ap (cause_of s k) (sym is) ∙ lawful.2) in
        let first : kept_from s (object_of file) keep ≡ up.first
        = ap (first_by s) (sym is) ∙ ap (λ o. option_map_or (λ (x : Upkeep). x.first) o 0) h in
        let G : ℕ → Type 0 = λ n. IsPrunable (after_what mode s k own.command Started) (object_of file) n in
        subst G first (prunable_after (object_of file) (kept_from s (object_of file) keep) p);
  }

  -- what stands stays sound where maintenance begins
  pub started_keeps : IsSound scripts (after_what mode s k own.command Started)
  started_keeps =
      quiet_step scripts s k (noting Started (client_of s k)) a b sound quiet_start
      (slice_set s.clients (k - 1) (noting Started (client_of s k))) (Some (upkeep_by s k own.command)) refl upkeep_start
      (λ line next_is. (let F : Command → Type 0 = λ x. IsSoundLine (after_what mode s k own.command Started) k x in
      subst F (ap (λ (l : Line). l.command)
      (same_line scripts s (after_what mode s k own.command Started) k (noting Started (client_of s k)) own line next own_is refl next_is))
      start_line))
