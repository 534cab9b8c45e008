-- A line that is refused before anything is done for it.
use Rattle.std.proofs.Common.{◌≡◌, ◌≢◌, inl, inr, ℕ, ◌^◌, ◌<◌, Bool, true, false, not, nat_le, List, [], ◌∷◌, ◌++◌, Option, Some, None, refl, sym, ap, ◌∙◌, arith, if◌then◌else◌}
use Rattle.std.specs.Prelude.{IfSome, is_none}
use Rattle.std.specs.Option.{option_and_then}
use Rattle.caps.specs.Grant.{has_rights}
use Rattle.pair_store.specs.declared.store.Blocks.{Ghosts}
use Rattle.pool_draft.specs.declared.pool_set.PoolSet.{PoolSet}
use Rattle.script_text.specs.ScriptValue.{ScriptValue}
use Rattle.script_text.specs.declared.command.Command.TheVariants.{Do}
use Rattle.script_text.specs.declared.reply.LineRefusal.{LineRefusal}
use Rattle.script_text.specs.declared.reply.LineRefusal.TheVariants.{DeniedRights, Full, Idle}
use Rattle.script_text.specs.declared.reply.LineReply.{LineReply}
use Rattle.script_text.specs.declared.reply.LineReply.TheVariants as reply
use Rattle.script_text.specs.declared.script.Line.{Line}
use Rattle.service_model.specs.declared.journal.What.TheVariants.{Answered}
use Rattle.service_model.specs.Causes.{cause_of, first_cause, full_cause, right_for, rights_cause, when}
use Rattle.service_model.specs.Standing.{Scripts, Standing, Client, Update, Work, client_of, picked_work, step_count}
use Rattle.tree_model.specs.declared.step.Step.{Step}
use Rattle.ground_model.specs.LineTurns.{LineTurnStands}
use Rattle.ground_model.specs.Lines.{Notes, answering, in_line}
use Rattle.ground_model.specs.Scenes.{Scene}
use Rattle.ground_model.proofs.LineKinds.{refused_is_noted}
use Rattle.ground_model.proofs.Noted.{untimed_are_of_turn}
use Rattle.session.specs.Answers.{IsAnswered, IsAtCommand, IsCaused}
use Rattle.session.specs.Calls.{IsReady, TurnCall}
use Rattle.session.specs.Own.{HasFed, IsAtRest, IsDrafting, IsFeeding, OwnsUpdate}
use Rattle.session.specs.Safe.{drafts_of, line_of, rights_of}
use Rattle.session.specs.declared.common.Common.{Common}
use Rattle.session.specs.declared.course.Course.{Course}
use Rattle.session.specs.declared.turned.Turned.{Turned}
use Rattle.session.specs.declared.turned.Turned.TheVariants as turned
use Rattle.session.proofs.Answering.{IsAnswering}
use Rattle.session.proofs.Calling.{of_none}
use Rattle.session.proofs.EndedLines.{EndsIn, line_ended}
use Rattle.session.proofs.Drafting.{picked_in, rights_are}
use Rattle.session.proofs.LineEnds.{at_line, come_to, for_line, line_is, may_stay, own_is_open, own_stays, same_line, untouched}

-- ---- a step that is not refused

not_full : (n : ℕ) → n < 128 → nat_le 128 n ≡ false
not_full n low = grind arith

allowed : (rights : Bool) (n : ℕ) → rights ≡ true → n < 128
    → (let o : Option LineRefusal = if not rights then Some DeniedRights else if nat_le 128 n then Some Full else None in o ≡ None)
allowed true n is low =
    ap (λ b. (let o : Option LineRefusal = if b then Some Full else None in o)) (not_full n low)
allowed false n is low = absurd (cc is)

-- why a step is refused, by the file that it goes to
pub cause_of_any_step : (s : Standing) (k : ℕ) (step : Step) (u : Update) (w : Work) → (client_of s k).update ≡ Some u → picked_work u ≡ Some w
    → cause_of s k (Do step) ≡ (if not (has_rights w.rights (right_for step)) then Some DeniedRights else if nat_le 128 (step_count u) then Some Full else None)
cause_of_any_step s k step u w is picked =
    ap (λ (o : Option Update). first_cause (when (is_none o) Idle ∷ option_and_then (rights_cause step) o ∷ option_and_then full_cause o ∷ [])) is
    ∙ ap (λ (o : Option Work). first_cause (option_and_then (λ (x : Work). when (not (has_rights x.rights (right_for step))) DeniedRights) o ∷ full_cause u ∷ [])) picked
    ∙ by (not (has_rights w.rights (right_for step))) (nat_le 128 (step_count u))
  where
    by : (a b : Bool) → first_cause (when a DeniedRights ∷ when b Full ∷ []) ≡ (let o : Option LineRefusal = if a then Some DeniedRights else if b then Some Full else None in o)
    by true b = refl
    by false true = refl
    by false false = refl

-- a step that the rights allow, where few were done
pub step_is_allowed : (scene : Scene) (script : ScriptValue) (s : Course) (u : Update) (line : Line) (step : Step) → line.command ≡ Do step
    → (client_of scene.standing s.client).update ≡ Some u → IsDrafting scene script s u → has_rights (rights_of s) (right_for step) ≡ true → s.drafts.count < 128
    → cause_of scene.standing s.client line.command ≡ None
step_is_allowed scene script s u line step command is own rights few =
    let picked = picked_in scene script s u own in
    ap (cause_of scene.standing s.client) command
    ∙ cause_of_any_step scene.standing s.client step u picked.work is picked.is
    ∙ allowed (has_rights picked.work.rights (right_for step)) (step_count u)
    (ap (λ n. has_rights n (right_for step)) (sym (rights_are scene s u picked)) ∙ rights)
    (let same = own.count in omega (arith, few, same))

-- why a step of an open update is refused
module _ {D : Type 0} (b : Ghosts D) (script : ScriptValue) (c : Common D) (s : Course) (step : Step) (at : IsAtCommand script s (Do step)) (some : drafts_of s ≢ 0) where
  step_caused : (why : LineRefusal)
      → ((o : Bool) (n : ℕ) → o ≡ has_rights (rights_of s) (right_for step) → n ≡ s.drafts.count
      → (let r : Option LineRefusal = if not o then Some DeniedRights else if nat_le 128 n then Some Full else None in r ≡ Some why))
      → IsCaused b script c s why
  step_caused why told opening scripts first scene is line next =
      ap (λ (l : Line). cause_of scene.standing s.client l.command) (same_line script s line at.line next at.next)
      ∙ ap (cause_of scene.standing s.client) at.is ∙ by (client_of scene.standing s.client).update refl is.mine.update
    where
      by : (o : Option Update) → (client_of scene.standing s.client).update ≡ o → OwnsUpdate scene script s o → cause_of scene.standing s.client (Do step) ≡ Some why
      by None e own = absurd (some own)
      by (Some u) e own =
          let picked = picked_in scene script s u own in
          cause_of_any_step scene.standing s.client step u picked.work e picked.is
          ∙ told (has_rights picked.work.rights (right_for step)) (step_count u) (ap (λ n. has_rights n (right_for step)) (sym (rights_are scene s u picked))) own.count

  pub step_denied : has_rights (rights_of s) (right_for step) ≡ false → IsCaused b script c s DeniedRights
  step_denied denied = step_caused DeniedRights (λ o n is count. by o n (is ∙ denied))
    where
      by : (o : Bool) (n : ℕ) → o ≡ false → (let r : Option LineRefusal = if not o then Some DeniedRights else if nat_le 128 n then Some Full else None in r ≡ Some DeniedRights)
      by true n e = absurd (cc e)
      by false n e = refl

  pub step_full : has_rights (rights_of s) (right_for step) ≡ true → s.drafts.count ≡ 128 → IsCaused b script c s Full
  step_full granted full = step_caused Full (λ o n is count. by o n (is ∙ granted) (count ∙ full))
    where
      many : (n : ℕ) → n ≡ 128 → nat_le 128 n ≡ true
      many n e = grind arith

      by : (o : Bool) (n : ℕ) → o ≡ true → n ≡ 128 → (let r : Option LineRefusal = if not o then Some DeniedRights else if nat_le 128 n then Some Full else None in r ≡ Some Full)
      by true n e full_is = ap (λ a. (let r : Option LineRefusal = if a then Some Full else None in r)) (many n full_is)
      by false n e full_is = absurd (cc e)

-- so is one to which pages were fed
pub fed_is_allowed : (scripts : Scripts) (scene : Scene) (script : ScriptValue) (s : Course) (line : Line) → IsAtRest scripts scene script s → line_of script s ≡ Some line
    → IsFeeding script s → drafts_of s ≢ 0 → cause_of scene.standing s.client line.command ≡ None
fed_is_allowed scripts scene script s line rest next feeding some = by (client_of scene.standing s.client).update refl rest.update
  where
    by : (o : Option Update) → (client_of scene.standing s.client).update ≡ o → OwnsUpdate scene script s o → cause_of scene.standing s.client line.command ≡ None
    by None is own = absurd (some own)
    by (Some u) is own =
        step_is_allowed scene script s u line feeding.step
        (ap (λ (l : Line). l.command) (same_line script s line feeding.line next feeding.next) ∙ feeding.command)
        is own feeding.rights feeding.few

-- ---- the turn

module _ {D : Type 0} (b : Ghosts D) (script : ScriptValue) (c c' : Common D) (s s' : Course) (line : Line) (why : LineRefusal) (next : line_of script s ≡ Some line)
    (is : IsAnswered script line (reply.Refused why) c c' s s') where
  module _ (scripts : Scripts) (scene : Scene) (rest : IsAtRest scripts scene script s) (cause : cause_of scene.standing s.client line.command ≡ Some why) where
    abbrev refused_client : Client
    refused_client = answering (client_of scene.standing s.client) (reply.Refused why) (client_of scene.standing s.client).update

    notes : Notes scripts scene.standing s.client (in_line s.client line Answered ∷ []) refused_client
    notes = refused_is_noted scripts scene.standing s.client line (at_line scripts scene script s line rest next) why cause

    is_answering : IsAnswering s (reply.Refused why) refused_client
    is_answering = record {
      answers = ap (λ (rs : List LineReply). rs ++ reply.Refused why ∷ []) rest.seated.answers;
      noted = refl;
      held = rest.held;
    }

    open_is : drafts_of s ≢ 0 → (u : Update) × (refused_client.update ≡ Some u)
    open_is some = own_is_open scene script s (client_of scene.standing s.client).update rest.update some

    fed_still : s'.drafts ≡ s.drafts → drafts_of s ≢ 0 → HasFed script s → HasFed script s'
    fed_still same some (inl none) = inl (ap (λ (d : PoolSet). d.fed) same ∙ none)
    fed_still same some (inr feeding) = (let both : (let o : Option LineRefusal = None in o) ≡ Some why = sym (fed_is_allowed scripts scene script s line rest next feeding some) ∙ cause in absurd (cc both))

    -- the line ends so in the scene
    pub refused_ends : (now : ℕ) → EndsIn scripts scene script s s s' line now [] false (reply.Refused why)
    refused_ends now = record {
      client = refused_client;
      notes = notes;
      answering = is_answering;
      open_is = open_is;
      locks = λ object. refl;
      of_client = of_none scripts scene.standing s.client;
      moments = untimed_are_of_turn now [] refl;
      update = λ after keeps same. own_stays scene after script s s' (client_of scene.standing s.client).update keeps same (ap (λ (x : Course). x.rights) is.only) (fed_still same) rest.update;
    }

  pub refused_call : (b.tells → LineTurnStands b) → ((d : D) → b.moment d < 2 ^ 64) → IsReady b script c s → (b.tells → IsCaused b script c s why)
      → (result : Turned) → result ≡ turned.Line line.number → TurnCall b IsAtRest script c c' s s' result
  refused_call laws clock ready cause result said =
      line_ended b laws script c c c' s s s' line next ready [] false (reply.Refused why) (come_to b c s s (may_stay b script c s ready)) is result said
      (λ told. untouched b clock c.store c'.store (ap (λ (x : Common D). x.store) is.noted.only))
      (λ told opening scripts first scene at. refused_ends scripts scene at.mine (cause told opening scripts first scene at line next) (b.moment c'.store))

-- whatever the line is
pub refused_turn : {D : Type 0} (b : Ghosts D) (script : ScriptValue) (c c' : Common D) (s s' : Course) (why : LineRefusal) (result : Turned)
    → (b.tells → LineTurnStands b) → ((d : D) → b.moment d < 2 ^ 64) → IsReady b script c s → (b.tells → IsCaused b script c s why)
    → IfSome (line_of script s) (λ line. IsAnswered script line (reply.Refused why) c c' s s') → IfSome (line_of script s) (λ line. result ≡ turned.Line line.number)
    → TurnCall b IsAtRest script c c' s s' result
refused_turn b script c c' s s' why result laws clock ready cause answered said =
    let next = line_is script s ready.line in
    refused_call b script c c' s s' next.0 why next.1 (for_line (line_of script s) (λ line. IsAnswered script line (reply.Refused why) c c' s s') next.0 next.1 answered)
    laws clock ready cause result (for_line (line_of script s) (λ line. result ≡ turned.Line line.number) next.0 next.1 said)
