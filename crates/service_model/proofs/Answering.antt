-- What stands stays sound where a line is answered.
use Rattle.std.proofs.Common.{◌≡◌, ◌≢◌, ◌⊎◌, inl, inr, ℕ, zero, suc, ◌+◌, ◌-◌, ◌<◌, ◌≤◌, ◌==◌, Bool, true, false, not, ◌&&◌, ◌||◌, List, [], ◌∷◌, length, Option, Some, None, is_some, refl, sym, ap, ◌∙◌, subst, arith, length-append}
use Rattle.std.specs.Prelude.{IsSome, IsSomeAnd, Contains, is_none, map, nat_le, slice_get, slice_set, sum_by, if◌then◌else◌, option_map, option_and_then}
use Rattle.std.specs.List.{list_any}
use Rattle.std.specs.Option.{option_map_or}
use Rattle.std.proofs.lemmas.Bool.{cases_Bool, eq-eqb, ne_eqb}
use Rattle.std.proofs.lemmas.Bool.Decides.{nat_tests}
use Rattle.std.proofs.lemmas.List.Elements.{All-push}
use Rattle.std.proofs.lemmas.List.Sums.{sum_by-cons}
use Rattle.script_text.specs.declared.command.Command.{Command}
use Rattle.script_text.specs.declared.command.Command.TheVariants.{Begin, Super, Pick, Do, Commit, Abandon, Create, Destroy, Prune, Restrict}
use Rattle.script_text.specs.declared.reply.LineRefusal.{LineRefusal}
use Rattle.script_text.specs.declared.reply.LineRefusal.TheVariants.{NoSuchPick, Full, Idle}
use Rattle.script_text.specs.declared.script.Line.{Line}
use Rattle.script_text.specs.declared.script.Mode.{Mode}
use Rattle.service_model.specs.declared.journal.What.{What}
use Rattle.service_model.specs.declared.journal.What.TheVariants.{Began, Held, Committed, Refused, GivenUp, Started, Created, Destroyed, Pruned, Answered}
use Rattle.tree_model.specs.declared.step.Step.{Step}
use Rattle.tree_model.specs.States.{State, Version}
use Rattle.service_model.specs.Standing.{Scripts, Standing, Client, Update, Work, Upkeep, client_of, next_line, step_count, versions_of}
use Rattle.service_model.specs.Causes.{cause_of, first_cause, has_twice, idle_cause, pick_cause, rights_cause, full_cause, when}
use Rattle.service_model.specs.Replies.{own_reply, reply_after}
use Rattle.service_model.specs.Entries.{after_what, answered, updated, and_step, step_at, with_step, upkeep_of_others}
use Rattle.service_model.specs.Legal.{IsLawfulWhat}
use Rattle.service_model.specs.Sound.{IsSound, IsSoundLine, IsSoundUpdate, IsBased, IsKnown, IsOpenAt, IsSayable, IsTreeStep, is_holding, is_taking, is_deciding, is_committing}
use Rattle.service_model.proofs.Causes.{first_none, not_when}
use Rattle.service_model.proofs.Entering.{CameFrom, IsQuietClient, client_in, quiet_step, same_update}
use Rattle.service_model.proofs.Members.{at_place, from_place}
use Rattle.service_model.proofs.Sound.{IsUpkeepStep}

-- ---- a line that can be answered holds nothing

own_decides : (mode : Mode) (state : State) (update : Option Update) (noted : List What) → IsSome (own_reply mode state update noted)
    → list_any is_deciding noted ≡ true
own_decides mode state update [] h = (let no : true ≡ false = sym h in absurd (cc no))
own_decides mode state update (Began bases ∷ noted) h = refl
own_decides mode state update (Held blocks ∷ noted) h = own_decides mode state update noted h
own_decides mode state update (Committed made at ∷ noted) h = refl
own_decides mode state update (Refused why ∷ noted) h = refl
own_decides mode state update (GivenUp ∷ noted) h = refl
own_decides mode state update (Started ∷ noted) h = own_decides mode state update noted h
own_decides mode state update (Created object at ∷ noted) h = refl
own_decides mode state update (Destroyed object blocks at ∷ noted) h = refl
own_decides mode state update (Pruned object first blocks at ∷ noted) h = refl
own_decides mode state update (Answered ∷ noted) h = (let no : true ≡ false = sym h in absurd (cc no))

and_false : (b : Bool) → (b && false) ≡ false
and_false true = refl
and_false false = refl

decided : (mode : Mode) (s : Standing) (k : ℕ) (command : Command) (noted : List What) → IsSome (reply_after mode s k command noted)
    → is_holding noted ≡ false
decided mode s k command [] h = refl
decided mode s k command (what ∷ noted) h =
    ap (λ b. list_any is_taking (what ∷ noted) && not b) (own_decides mode s.state (client_of s k).update (what ∷ noted) h)
    ∙ and_false (list_any is_taking (what ∷ noted))

-- ---- one more step of an update

at_step : (i : ℕ) (step : Step) (ws : List Work) (n : ℕ) (w : Work) → slice_get (step_at i step ws) n ≡ Some w
    → (v : Work) × (slice_get ws n ≡ Some v) × ((w ≡ v) ⊎ (w ≡ and_step step v))
at_step i step [] n w e = (w, e, inl refl)
at_step zero step (x ∷ ws) zero w e = (x, refl, inr (sym (ap (λ o. option_map_or (λ (y : Work). y) o w) e)))
at_step zero step (x ∷ ws) (suc n) w e = (w, e, inl refl)
at_step (suc i) step (x ∷ ws) zero w e = (w, e, inl refl)
at_step (suc i) step (x ∷ ws) (suc n) w e = at_step i step ws n w e

step_length : (i : ℕ) (step : Step) (ws : List Work) → length (step_at i step ws) ≡ length ws
step_length i step [] = refl
step_length zero step (x ∷ ws) = refl
step_length (suc i) step (x ∷ ws) = ap suc (step_length i step ws)

step_files : (object : ℕ) (i : ℕ) (step : Step) (ws : List Work)
    → list_any (λ (w : Work). w.object == object) (step_at i step ws) ≡ list_any (λ (w : Work). w.object == object) ws
step_files object i step [] = refl
step_files object zero step (x ∷ ws) = refl
step_files object (suc i) step (x ∷ ws) = ap (λ b. (x.object == object) || b) (step_files object i step ws)

abbrev steps_in : Work → ℕ
steps_in w = length w.steps

step_counts : (i : ℕ) (step : Step) (ws : List Work) → sum_by steps_in (step_at i step ws) ≤ sum_by steps_in ws + 1
step_counts i step [] = omega arith
step_counts zero step (x ∷ ws) =
    let more = length-append x.steps (step ∷ []) in
    let new = sum_by-cons steps_in (and_step step x) ws in
    let old = sum_by-cons steps_in x ws in
    omega arith
step_counts (suc i) step (x ∷ ws) =
    let rest = step_counts i step ws in
    let new = sum_by-cons steps_in x (step_at i step ws) in
    let old = sum_by-cons steps_in x ws in
    omega arith

-- the files of an update are those of before
step_objects : (i : ℕ) (step : Step) (ws : List Work) → map (λ (w : Work). w.object) (step_at i step ws) ≡ map (λ (w : Work). w.object) ws
step_objects i step [] = refl
step_objects zero step (x ∷ ws) = refl
step_objects (suc i) step (x ∷ ws) = ap (λ l. x.object ∷ l) (step_objects i step ws)

-- ---- the update after a line

picked_update : (s : Standing) (k place : ℕ) (v u : Update) → IsOpenAt s k v → pick_cause place v ≡ None → record v { picked = place } ≡ u → CameFrom s k u
picked_update s k place v u was none is =
    let h : nat_le (length v.works) place ≡ false = not_when (nat_le (length v.works) place) NoSuchPick none in
    let short : place < length v.works = grind (arith, nat_tests) in
    let F : Update → Type 0 = λ x. CameFrom s k x in
    subst F is (record {
      old = v;
      was = was;
      super = refl;
      files = λ object. refl;
      bases = λ w h. (w, h, refl, refl);
      keeps = λ sound. record {
        based = λ w mine. sound.based w mine;
        later = λ w mine. sound.later w mine;
        few = sound.few;
        picked = short;
        differ = sound.differ;
      };
    })

module _ (s : Standing) (step : Step) (v : Update) where
  -- a file of the update after the step is one that it had, maybe with the step
  from_work : (w : Work) → Contains (with_step step v).works w → (x : Work) × Contains v.works x × ((w ≡ x) ⊎ (w ≡ and_step step x))
  from_work w mine =
      let found = at_step v.picked step v.works mine.0 w (at_place (with_step step v).works w mine) in
      (found.0, from_place v.works found.0 mine.0 found.1, found.2)

  step_based : (w x : Work) → IsTreeStep step → IsBased s.state x → (w ≡ x) ⊎ (w ≡ and_step step x) → IsBased s.state w
  step_based w x tree old (inl e) = let F : Work → Type 0 = λ y. IsBased s.state y in subst F (sym e) old
  step_based w x tree old (inr e) =
      let F : Work → Type 0 = λ y. IsBased s.state y in
      subst F (sym e) (record {
        version = old.version;
        kept = old.kept;
        serial = old.serial;
        tree = old.tree;
        steps = All-push IsTreeStep x.steps step old.steps tree;
      })

  same_base : (w x : Work) → (w ≡ x) ⊎ (w ≡ and_step step x) → (x.object ≡ w.object) × (x.serial ≡ w.serial)
  same_base w x (inl e) = (ap (λ (y : Work). y.object) (sym e), ap (λ (y : Work). y.serial) (sym e))
  same_base w x (inr e) = (ap (λ (y : Work). y.object) (sym e), ap (λ (y : Work). y.serial) (sym e))

  step_later : (w : Work) → IsSoundUpdate s.state s.made v → Contains (with_step step v).works w → (x : Version)
      → Contains (versions_of s.state w.object) x → w.serial < x.serial → IsKnown s.state s.made w.object x
  step_later w sound mine x =
      let from = from_work w mine in
      let base = same_base w from.0 from.2 in
      let F : ℕ → ℕ → Type 0 = λ object serial. Contains (versions_of s.state object) x → serial < x.serial → IsKnown s.state s.made object x in
      let G : ℕ → Type 0 = λ object. F object from.0.serial in
      subst (F w.object) base.1 (subst G base.0 (sound.later from.0 from.1 x))

  step_sound : IsTreeStep step → IsSoundUpdate s.state s.made v → step_count v < 128 → IsSoundUpdate s.state s.made (with_step step v)
  step_sound tree sound short = record {
    based = λ w mine. (let from = from_work w mine in step_based w from.0 tree (sound.based from.0 from.1) from.2);
    later = λ w mine. step_later w sound mine;
    few = (let count : step_count (with_step step v) ≤ step_count v + 1 = step_counts v.picked step v.works in omega (arith, count, short));
    picked = (let same = step_length v.picked step v.works in let old = sound.picked in omega (arith, same, old));
    differ = ap has_twice (step_objects v.picked step v.works) ∙ sound.differ;
  }

stepped_update : (s : Standing) (k : ℕ) (step : Step) (v u : Update) → IsOpenAt s k v → full_cause v ≡ None → IsTreeStep step
    → with_step step v ≡ u → CameFrom s k u
stepped_update s k step v u was none tree is =
    let h : nat_le 128 (step_count v) ≡ false = not_when (nat_le 128 (step_count v)) Full none in
    let short : step_count v < 128 = grind (arith, nat_tests) in
    let F : Update → Type 0 = λ x. CameFrom s k x in
    subst F is (record {
      old = v;
      was = was;
      super = refl;
      files = λ object. step_files object v.picked step v.works;
      bases = λ w mine. (let from = from_work s step v w mine in
          let base = same_base s step v w from.0 from.2 in (from.0, from.1, base.0, base.1));
      keeps = λ sound. step_sound s step v tree sound short;
    })

-- the update that a mapped one comes from
mapped : (f : Update → Update) (o : Option Update) (u : Update) → option_map f o ≡ Some u → (v : Update) × (o ≡ Some v) × (f v ≡ u)
mapped f None u e = (let no : Some u ≡ None = sym e in absurd (cc no))
mapped f (Some v) u e = (v, refl, ap (λ x. option_map_or (λ (y : Update). y) x u) e)

-- a cause that an update has
had_none : (cause : Update → Option LineRefusal) (o : Option Update) (v : Update) → o ≡ Some v → option_and_then cause o ≡ None → cause v ≡ None
had_none cause o v is none = sym (ap (option_and_then cause) is) ∙ none

module _ (s : Standing) (k : ℕ) where
  came_by : (command : Command) → cause_of s k command ≡ None → IsSayable command → (u : Update) → updated command (client_of s k).update ≡ Some u
      → CameFrom s k u
  came_by (Begin file) none slots u e = same_update s k u e
  came_by (Super files) none slots u e = same_update s k u e
  came_by (Pick place) none slots u e =
      let update = (client_of s k).update in
      let from = mapped (λ (x : Update). record x { picked = place }) update u e in
      let pick = option_and_then (pick_cause place) update in
      let after = first_none (idle_cause (client_of s k)) (pick ∷ []) none in
      let cause = first_none pick [] after.1 in
      picked_update s k place from.0 u from.1 (had_none (pick_cause place) update from.0 from.1 cause.0) from.2
  came_by (Do step) none slots u e =
      let update = (client_of s k).update in
      let from = mapped (with_step step) update u e in
      let rights = option_and_then (rights_cause step) update in
      let full = option_and_then full_cause update in
      let after = first_none (idle_cause (client_of s k)) (rights ∷ full ∷ []) none in
      let last = first_none rights (full ∷ []) after.1 in
      let cause = first_none full [] last.1 in
      stepped_update s k step from.0 u from.1 (had_none full_cause update from.0 from.1 cause.0) slots from.2
  came_by Commit none slots u e = (let no : Some u ≡ None = sym e in absurd (cc no))
  came_by Abandon none slots u e = same_update s k u e
  came_by Create none slots u e = same_update s k u e
  came_by (Destroy file) none slots u e = same_update s k u e
  came_by (Prune file keep) none slots u e = same_update s k u e
  came_by (Restrict file mask) none slots u e = same_update s k u e

  came_if : (command : Command) (cause : Option LineRefusal) → cause_of s k command ≡ cause → IsSayable command → (u : Update)
      → (if is_some cause then (client_of s k).update else updated command (client_of s k).update) ≡ Some u → CameFrom s k u
  came_if command None is slots u e = came_by command is slots u e
  came_if command (Some cause) is slots u e = same_update s k u e

-- ---- the answer

-- the maintenance of others is maintenance, and not the client's
of_others : (k : ℕ) (o : Option Upkeep) (up : Upkeep) → upkeep_of_others k o ≡ Some up → (o ≡ Some up) × (up.client ≢ k)
of_others k None up e = (let no : Some up ≡ None = sym e in absurd (cc no))
of_others k (Some x) up e = by (x.client == k) refl
  where
    by : (b : Bool) → (x.client == k) ≡ b → (Some x ≡ Some up) × (up.client ≢ k)
    by true is = (let no : Some up ≡ None = sym e ∙ ap (λ b. if b then None else Some x) is in absurd (cc no))
    by false is =
        let same : Some x ≡ Some up = sym (ap (λ b. if b then None else Some x) is) ∙ e in
        let client : x.client ≡ up.client = ap (λ o. option_map_or (λ (y : Upkeep). y.client) o 0) same in
        (same, λ mine. (let no : true ≡ false = sym (eq-eqb x.client k (client ∙ mine)) ∙ is in absurd (cc no)))

-- the client whose line was answered
abbrev after_answer : Mode → Standing → ℕ → Command → Client
after_answer mode s k command = answered mode s k command (client_of s k)

came : (mode : Mode) (s : Standing) (k : ℕ) (command : Command) → IsSayable command → (u : Update) → (after_answer mode s k command).update ≡ Some u
    → CameFrom s k u
came mode s k command says u e = came_if s k command (cause_of s k command) refl says u e

-- a commit's line leaves no update
commit_ends : (mode : Mode) (s : Standing) (k : ℕ) (command : Command) (u : Update) → command ≡ Commit → (after_answer mode s k command).update ≡ Some u → ⊥
commit_ends mode s k command u is e = by (client_of s k).update refl
  where
    open_is : (after_answer mode s k Commit).update ≡ Some u
    open_is = ap (λ x. (after_answer mode s k x).update) (sym is) ∙ e

    by : (o : Option Update) → (client_of s k).update ≡ o → ⊥
    by None is_none_open =
        let gone : None ≡ Some u = sym (ap (λ o. if is_some (first_cause (when (is_none o) Idle ∷ [])) then o else None) is_none_open) ∙ open_is in
        cc gone
    by (Some v) some_open =
        let gone : None ≡ Some u = sym (ap (λ o. if is_some (first_cause (when (is_none o) Idle ∷ [])) then o else None) some_open) ∙ open_is in
        cc gone

-- the maintenance of others stays
others_stay : (k : ℕ) (o : Option Upkeep) (j : ℕ) → j ≢ k → IsSomeAnd o (λ (up : Upkeep). up.client ≡ j) → upkeep_of_others k o ≡ o
others_stay k None j ne h = absurd h
others_stay k (Some up) j ne h = ap (λ b. if b then None else Some up) (ne_eqb up.client k (λ e. ne (sym h ∙ e)))

module _ (mode : Mode) (scripts : Scripts) (s : Standing) (k : ℕ) (own : Line) (a : 1 ≤ k) (b : k ≤ length s.clients)
    (sound : IsSound scripts s) (next : next_line scripts s k ≡ Some own) (says : IsSayable own.command)
    (lawful : IsLawfulWhat mode s k own.command Answered) where
  -- a line in which something was committed leaves no update
  no_commit : (u : Update) → (after_answer mode s k own.command).update ≡ Some u → list_any is_committing (client_of s k).noted ≡ false
  no_commit u e = by (cases_Bool (list_any is_committing (client_of s k).noted))
    where
      by : (list_any is_committing (client_of s k).noted ≡ true) ⊎ (list_any is_committing (client_of s k).noted ≡ false)
          → list_any is_committing (client_of s k).noted ≡ false
      by (inl h) = absurd (commit_ends mode s k own.command u ((sound.lines k own a next).committing h) e)
      by (inr h) = h

  quiet_answer : IsQuietClient s k (after_answer mode s k own.command)
  quiet_answer = record {
    update = came mode s k own.command says;
    uncommitted = λ u e none. no_commit u e;
    held = λ e. sound.held k a (decided mode s k own.command (client_of s k).noted lawful);
  }

  upkeep_answer : IsUpkeepStep s (upkeep_of_others k s.upkeep) k (after_answer mode s k own.command)
  upkeep_answer = record {
    within = λ up h. (let from = of_others k s.upkeep up h in inr (from.1, from.0));
    started = λ h. (let no : true ≡ false = sym h in absurd (cc no));
    others = λ j d ne h. others_stay k s.upkeep j ne (sound.started j d h);
  }

  answer_line : (line : Line) → IsSoundLine (after_what mode s k own.command Answered) k line.command
  answer_line line =
      let t : Standing = after_what mode s k own.command Answered in
      let is : client_of t k ≡ after_answer mode s k own.command = client_in s t k (after_answer mode s k own.command) refl a b in
      let none : (client_of t k).noted ≡ [] = ap (λ (x : Client). x.noted) is in
      record {
        committing = λ h. (let no : true ≡ false = sym h ∙ ap (list_any is_committing) none in absurd (cc no));
        removing = λ file is_it only latest. (let no : [] ≡ Started ∷ [] = sym none ∙ only in absurd (cc no));
        pruning = λ file keep up is_it only h. (let no : [] ≡ Started ∷ [] = sym none ∙ only in absurd (cc no));
      }

  -- what stands stays sound where a line is answered
  pub answered_keeps : IsSound scripts (after_what mode s k own.command Answered)
  answered_keeps =
      quiet_step scripts s k (after_answer mode s k own.command) a b sound quiet_answer
      (slice_set s.clients (k - 1) (after_answer mode s k own.command)) (upkeep_of_others k s.upkeep) refl upkeep_answer
      (λ line after. answer_line line)
