-- The turns of a line are within its bound; a client that rests is between two lines; and an open update is of at most seventeen files.
use Rattle.std.proofs.Common.{◌≡◌, inl, inr, ℕ, zero, suc, ◌+◌, ◌≤◌, List, [], ◌∷◌, length, length-append, Option, Some, None, sym, ap, ◌∙◌, subst, arith, slice_get}
use Rattle.std.specs.Option.{option_map_or}
use Rattle.joint_walk.specs.Walks.{WalkValue}
use Rattle.script_text.specs.ScriptValue.{ScriptValue}
use Rattle.script_text.specs.declared.script.Line.{Line}
use Rattle.service_model.specs.declared.journal.What.{What}
use Rattle.service_model.specs.Sound.{AreSayable, IsOpenAt, IsSayable, IsTreeStep}
use Rattle.service_model.specs.Standing.{Scripts, Update, Work, client_of, need}
use Rattle.tree_model.specs.declared.step.Step.{Step}
use Rattle.tree_model.specs.declared.step.Step.TheVariants.{ReadAt, ListAt, WriteAt, MakeAt, DropAt}
use Rattle.tree_model.specs.Accesses.{end_of}
use Rattle.version_chain.specs.Flush.{Plan}
use Rattle.ground_model.specs.Bounds.{command_bound, commit_bound, line_bound, shared_of, turns_to}
use Rattle.ground_model.specs.Scenes.{Scene}
use Rattle.ground_model.proofs.Bounded.{turns_fit, turns_grow, walk_is_within}
use Rattle.session.specs.Laws.{RestIsBetween, TurnsAreWithin, UpdateIsSmall}
use Rattle.session.specs.Own.{HasFed, IsAtRest, IsCommittingOf, IsSeated, IsTaken, IsWalkingOn, IsWritingOut, OwnsStage, OwnsUpdate}
use Rattle.session.specs.Safe.{AreSafeDrafts, drafts_of, line_of, root_of, view_of}
use Rattle.session.specs.declared.course.Course.{Course}
use Rattle.session.specs.declared.stage.Stage.{Stage}
use Rattle.session.specs.declared.stage.Stage.TheVariants.{Resting, Naming, Walking, Writing}
use Rattle.pool_draft.specs.declared.pool_set.PoolSet.{PoolSet}
use Rattle.session.proofs.Ending.{its_lines, its_next}
use Rattle.session.proofs.LineEnds.{own_is_none}

-- the way to the end of a step is short
short_end : (step : Step) → IsTreeStep step → length (end_of step) ≤ 7
short_end (ReadAt p) is = is.short
short_end (ListAt p) is = is.short
short_end (WriteAt p bytes) is = is.short
short_end (MakeAt c) is = (let more = length-append c.0 (c.1 ∷ []) in let short = is.short in omega (arith, more, short))
short_end (DropAt c) is = (let more = length-append c.0 (c.1 ∷ []) in let short = is.short in omega (arith, more, short))

-- a client that took blocks took those that its update needs
held_within : (held : ℕ) (u : Update) (noted : List What) → IsTaken held u noted → held ≤ need u
held_within zero u noted taken = omega arith
held_within (suc n) u noted taken = (let all = taken.1 in omega (arith, all))

module _ (scripts : Scripts) (scene : Scene) (script : ScriptValue) (s : Course) where
  abbrev bound : ℕ
  bound = line_bound scripts scene.standing s.client

  bound_is : IsSeated scripts scene script s → (line : Line) → line_of script s ≡ Some line → bound ≡ command_bound scene.standing s.client line.command
  bound_is seated line next =
      ap (λ (o : Option Line). option_map_or (λ (l : Line). command_bound scene.standing s.client l.command) o 0) (its_next scripts script scene s seated ∙ next)

  -- ---- between two lines

  module _ (h : IsAtRest scripts scene script s) where
    unfed_within : s.drafts.fed ≡ 0 → s.turns ≤ bound
    unfed_within none = (let low = h.turns in omega (arith, low, none))

    fed_within : AreSayable scripts → HasFed script s → s.turns ≤ bound
    fed_within sayable (inl none) = unfed_within none
    fed_within sayable (inr f) =
        let at : slice_get _ (length s.replies.items) ≡ Some f.line = ap (λ (xs : List Line). slice_get xs (length s.replies.items)) (its_lines scripts script scene s h.seated) ∙ f.next in
        let said : IsTreeStep f.step = subst IsSayable f.command (sayable s.client (length s.replies.items) f.line at) in
        let seven : bound ≡ 7 = bound_is h.seated f.line f.next ∙ ap (command_bound scene.standing s.client) f.command in
        let low = h.turns in
        let most = f.way.most in
        let short = short_end f.step said in
        omega (arith, seven, low, most, short)

    rest_within : (size : ℕ) → AreSayable scripts → AreSafeDrafts size s.drafts (drafts_of s) → s.turns ≤ bound
    rest_within size sayable safe = by (client_of scene.standing s.client).update h.update
      where
        by : (o : Option Update) → OwnsUpdate scene script s o → s.turns ≤ bound
        by None own = unfed_within (subst (AreSafeDrafts size s.drafts) own safe).1
        by (Some u) own = fed_within sayable own.fed

  -- ---- within a commit

  commit_is : (u : Update) (w : Work) → IsCommittingOf scripts scene script s u w → bound ≡ commit_bound scene.standing.made u
  commit_is u w co =
      bound_is co.seated co.line co.next ∙ ap (command_bound scene.standing s.client) co.command
      ∙ ap (λ (o : Option Update). option_map_or (commit_bound scene.standing.made) o 0) co.is_open

  commit_within : (u : Update) (w : Work) (upto more : ℕ) → IsCommittingOf scripts scene script s u w → s.turns ≤ turns_to scene.standing.made s.held w upto + more → more ≤ 1 + s.held
      → s.turns ≤ bound
  commit_within u w upto more co low few =
      let fit = turns_fit scene.standing.made s.held u w upto co.plain.works (held_within s.held u _ co.taken) in
      let is = commit_is u w co in
      omega (arith, low, few, fit, is)

  walking_within : (walk : WalkValue) → IsWalkingOn scripts scene script s walk → s.turns ≤ bound
  walking_within walk h =
      let ahead = h.walking.ahead in
      let fed : h.fed ≤ shared_of h.work h.made = walk_is_within scene h.work h.upto h.root h.tree h.before (root_of s) h.made h.fed walk (view_of s) h.walking in
      let grow : turns_to scene.standing.made s.held h.work h.upto + (1 + s.held + shared_of h.work h.made) ≤ turns_to scene.standing.made s.held h.work (h.upto + 1) =
      turns_grow scene.standing.made s.held h.work h.made h.upto ahead.listed ahead.of_object ahead.serial h.walking.merged.from in
      let low = h.turns in
      commit_within h.update h.work (h.upto + 1) 0 h.committing (omega (arith, fed, grow, low)) (omega arith)

  writing_within : (flush : Plan) → IsWritingOut scripts scene script s flush → s.turns ≤ bound
  writing_within flush h =
      let m = h.merged in
      let within = h.within in
      let number = h.number in
      commit_within m.update m.work _ flush.written m.committing m.turns (omega (arith, within, number))

  -- ---- the whole

  own_within : (size : ℕ) → AreSayable scripts → AreSafeDrafts size s.drafts (drafts_of s) → (stage : Stage) → OwnsStage scripts scene script s stage → s.turns ≤ bound
  own_within size sayable safe Resting h = rest_within h size sayable safe
  own_within size sayable safe (Naming next) h = (let m = h.merged in commit_within m.update m.work _ (1 + s.held) m.committing m.turns (omega arith))
  own_within size sayable safe (Walking walk) h = walking_within walk h
  own_within size sayable safe (Writing flush) h = writing_within flush h

pub turns_are_within : TurnsAreWithin
turns_are_within size map scripts scene script s sayable sound safe own = own_within scripts scene script s size sayable safe.drafts s.stage own

-- ---- a client that rests

pub rest_is_between : RestIsBetween
rest_is_between scripts scene script s resting own =
    let h : IsAtRest scripts scene script s = subst (OwnsStage scripts scene script s) resting own in
    record {
      fresh = h.fresh;
      closed = λ none. own_is_none scene script s (client_of scene.standing s.client).update h.update (h.closed (sym (its_next scripts script scene s h.seated) ∙ none));
    }

-- ---- updates

few_drafts : (size : ℕ) (set : PoolSet) (n : ℕ) → AreSafeDrafts size set n → n ≤ 1
few_drafts size set zero safe = omega arith
few_drafts size set (suc zero) safe = omega arith
few_drafts size set (suc (suc n)) safe = absurd safe

small_at_rest : (scene : Scene) (script : ScriptValue) (s : Course) (o : Option Update) → drafts_of s ≤ 1 → OwnsUpdate scene script s o → (u : Update) → o ≡ Some u → length u.works ≤ 17
small_at_rest scene script s None few own u is = absurd (cc is)
small_at_rest scene script s (Some v) few own u is =
    let same : v ≡ u = cc in
    let number = own.number in
    subst (λ (x : Update). length x.works ≤ 17) same (omega (arith, number, few))

small_within : (scripts : Scripts) (scene : Scene) (script : ScriptValue) (s : Course) (v : Update) (w : Work) → IsCommittingOf scripts scene script s v w
    → (u : Update) → IsOpenAt scene.standing s.client u → length u.works ≤ 17
small_within scripts scene script s v w co u is =
    let both : Some v ≡ Some u = sym co.is_open ∙ is in
    let same : v ≡ u = cc in
    let one = ap length co.plain.works in
    subst (λ (x : Update). length x.works ≤ 17) same (omega (arith, one))

pub update_is_small : UpdateIsSmall
update_is_small size map scripts scene script s safe own = by s.stage own
  where
    by : (stage : Stage) → OwnsStage scripts scene script s stage → (u : Update) → IsOpenAt scene.standing s.client u → length u.works ≤ 17
    by Resting h = small_at_rest scene script s (client_of scene.standing s.client).update (few_drafts size s.drafts (drafts_of s) safe.drafts) h.update
    by (Naming next) h = small_within scripts scene script s h.merged.update h.merged.work h.merged.committing
    by (Walking walk) h = small_within scripts scene script s h.update h.work h.committing
    by (Writing flush) h = small_within scripts scene script s h.merged.update h.merged.work h.merged.committing
