-- A step that needs no page.
use Rattle.std.proofs.Common.{◌≡◌, ◌≢◌, ◌⊎◌, ◌&&◌, inl, inr, ℕ, zero, suc, ◌+◌, ◌^◌, ◌<◌, ◌≤◌, true, false, List, [], ◌∷◌, ◌++◌, length, Option, Some, None, refl, sym, ap, ◌∙◌, subst, arith}
use Rattle.std.specs.Prelude.{IfSome, nat_lt, option_map, slice_get}
use Rattle.std.specs.Option.{option_map_or}
use Rattle.std.proofs.lemmas.Bool.{cases_eq}
use Rattle.caps.specs.Grant.{has_rights}
use Rattle.draft_model.specs.Stands.{Runs}
use Rattle.pair_store.specs.declared.store.Blocks.{Ghosts}
use Rattle.pool_draft.specs.Roots.{root_in}
use Rattle.pool_draft.specs.Sets.{base_at, picked_of, view_at}
use Rattle.pool_draft.specs.declared.pool_set.PoolSet.{PoolSet}
use Rattle.script_text.specs.ScriptValue.{ScriptValue}
use Rattle.script_text.specs.declared.command.Command.TheVariants.{Do}
use Rattle.script_text.specs.declared.reply.LineReply.{LineReply}
use Rattle.script_text.specs.declared.reply.LineReply.TheVariants as reply
use Rattle.script_text.specs.declared.script.Line.{Line}
use Rattle.service_model.specs.Causes.{right_for}
use Rattle.service_model.specs.Entries.{and_step, step_at, with_step}
use Rattle.service_model.specs.Replies.{step_reply}
use Rattle.service_model.specs.Standing.{Scripts, Update, Work, client_of, has_file, picked_work}
use Rattle.tree_model.specs.Accesses.{end_of}
use Rattle.tree_model.specs.Trees.{reply_of, tree_after}
use Rattle.tree_model.specs.declared.step.Reply.{Reply}
use Rattle.tree_model.specs.declared.step.Step.{Step}
use Rattle.ground_model.specs.Lines.{answering}
use Rattle.ground_model.specs.LineTurns.{LineTurnStands}
use Rattle.ground_model.specs.Own.{HasDraft}
use Rattle.ground_model.specs.Scenes.{Scene}
use Rattle.ground_model.proofs.Drafting.{stepped_draft}
use Rattle.ground_model.proofs.LineKinds.{step_is_noted}
use Rattle.ground_model.proofs.Noted.{untimed_are_of_turn}
use Rattle.session.specs.Answers.{IsAnswered, IsAtCommand}
use Rattle.session.specs.Calls.{IsLost, IsReady, TurnCall}
use Rattle.session.specs.Own.{HasFed, IsAtRest, IsDraftOf, IsDrafting, OwnsUpdate}
use Rattle.session.specs.Safe.{AreDraftsIn, AreSafeDrafts, drafts_of, line_of, picked_view, rights_of}
use Rattle.session.specs.declared.common.Common.{Common}
use Rattle.session.specs.declared.course.Course.{Course}
use Rattle.session.specs.declared.turned.Turned.{Turned}
use Rattle.session.specs.declared.turned.Turned.TheVariants as turned
use Rattle.session.proofs.Calling.{of_none}
use Rattle.session.proofs.Drafting.{OnPicked, Picked, on_picked_safe, other_draft, picked_in, step_counted, step_has_file, step_here, step_length, step_there}
use Rattle.session.proofs.EndedLines.{EndsIn, line_ended}
use Rattle.session.proofs.LineEnds.{MayCome, at_line, come_to, for_line, own_stays, same_line, untouched}
use Rattle.session.proofs.RefusedLines.{step_is_allowed}

-- ---- the set of drafts

-- a set with one draft has it picked
pub one_draft : (size : ℕ) (set : PoolSet) (n : ℕ) → n ≡ 1 → AreSafeDrafts size set n → (picked_of set ≡ 0) × (root_in (base_at set 0) < size)
one_draft size set n one safe =
    let is : AreDraftsIn size set 1 = subst (λ m. AreSafeDrafts size set m) one safe in
    let low = is.picked in
    (omega (arith, low), is.bases 0 (omega arith))

-- a set with drafts has one
pub has_one : (size : ℕ) (set : PoolSet) (n : ℕ) → n ≢ 0 → AreSafeDrafts size set n → n ≡ 1
has_one size set zero some safe = absurd (some refl)
has_one size set (suc zero) some safe = refl
has_one size set (suc (suc n)) some safe = absurd safe

-- A step was run on the picked draft.
pub record IsStepped (old new : PoolSet) (step : Step) (answer : Reply) : Type 0 where
  pub base : OnPicked old new
  pub runs : Runs (view_at old (picked_of old)) (view_at new (picked_of old)) step answer
  pub count : new.count ≡ old.count + 1
  pub fed : new.fed ≡ 0

pub is_stepped : (old new : PoolSet) (step : Step) (answer : Reply) → OnPicked old new → Runs (view_at old (picked_of old)) (view_at new (picked_of new)) step answer
    → new.count ≡ old.count + 1 → new.fed ≡ 0 → IsStepped old new step answer
is_stepped old new step answer base runs count fed = record {
  base = base;
  runs = subst (λ k. Runs (view_at old (picked_of old)) (view_at new k) step answer) base.picked runs;
  count = count;
  fed = fed;
}

-- ---- its update

step_reply_is : (u : Update) (w : Work) (step : Step) → picked_work u ≡ Some w → step_reply step u ≡ Some (reply.Stepped (reply_of (tree_after w.base w.steps) step))
step_reply_is u w step picked = ap (option_map (λ (x : Work). reply.Stepped (reply_of (tree_after x.base x.steps) step))) picked

-- ---- the turn

module _ {D : Type 0} (b : Ghosts D) (script : ScriptValue) (c c' : Common D) (s s' : Course) (line : Line) (next : line_of script s ≡ Some line) (step : Step) (command : line.command ≡ Do step)
    (some : picked_of s.drafts < drafts_of s) (rights : has_rights (rights_of s) (right_for step) ≡ true) (few : s.drafts.count < 128) (new : PoolSet) (answer : Reply) (stepped : IsStepped s.drafts new step answer) where
  -- the course before the answer
  abbrev then : Course
  then = record s { drafts = new }

  module _ (is : IsAnswered script line (reply.Stepped answer) c c' then s') where
    module _ (scripts : Scripts) (scene : Scene) (rest : IsAtRest scripts scene script s) (u : Update) (open_is : (client_of scene.standing s.client).update ≡ Some u) (own : IsDrafting scene script s u)
        (now : ℕ) where
      picked : Picked scene s u
      picked = picked_in scene script s u own

      drafted : (answer ≡ reply_of (tree_after picked.work.base picked.work.steps) step)
          × HasDraft scene (and_step step picked.work) (root_in (base_at s.drafts (picked_of s.drafts))) (view_at new (picked_of s.drafts))
      drafted = stepped_draft scene picked.work (root_in (base_at s.drafts (picked_of s.drafts))) (picked_view s) (view_at new (picked_of s.drafts)) step answer picked.here.draft stepped.runs

      draft_then : (i : ℕ) (w : Work) → slice_get (with_step step u).works i ≡ Some w → IsDraftOf scene then i w
      draft_then i w is = by (cases_eq i (picked_of s.drafts))
        where
          is_at : slice_get (step_at (picked_of s.drafts) step u.works) i ≡ Some w
          is_at = ap (λ n. slice_get (step_at n step u.works) i) (sym own.picked) ∙ is

          here : slice_get (step_at (picked_of s.drafts) step u.works) (picked_of s.drafts) ≡ Some w → IsDraftOf scene then (picked_of s.drafts) w
          here there =
              let both : Some (and_step step picked.work) ≡ Some w =
              sym (step_here (picked_of s.drafts) step u.works picked.work (ap (slice_get u.works) (sym own.picked) ∙ picked.is)) ∙ there in
              let same : and_step step picked.work ≡ w = cc in
              subst (IsDraftOf scene then (picked_of s.drafts)) same (record {
                rights = picked.here.rights;
                object = (stepped.base.bases (picked_of s.drafts)).object ∙ picked.here.object;
                serial = (stepped.base.bases (picked_of s.drafts)).serial ∙ picked.here.serial;
                draft = subst (λ n. HasDraft scene (and_step step picked.work) n (view_at new (picked_of s.drafts))) (sym (stepped.base.bases (picked_of s.drafts)).root) drafted.1;
              })

          by : (i ≡ picked_of s.drafts) ⊎ (i ≢ picked_of s.drafts) → IsDraftOf scene then i w
          by (inl e) = subst (λ n. IsDraftOf scene then n w) (sym e) (here (ap (slice_get (step_at (picked_of s.drafts) step u.works)) (sym e) ∙ is_at))
          by (inr ne) = other_draft scene s new i w stepped.base ne (own.each i w (sym (step_there (picked_of s.drafts) step u.works i ne) ∙ is_at))

      own_then : OwnsUpdate scene script then (Some (with_step step u))
      own_then = record {
        number = step_length u.picked step u.works ∙ own.number ∙ sym stepped.base.roots;
        several = own.several ∙ ap (nat_lt 1) (sym stepped.base.roots);
        picked = own.picked ∙ sym stepped.base.picked;
        within = (let low = own.within in let one = stepped.base.picked in let two = stepped.base.roots in omega (arith, low, one, two));
        count = step_counted u.picked step u.works picked.work picked.is ∙ ap (λ n. n + 1) own.count ∙ sym stepped.count;
        each = draft_then;
        fed = inl stepped.fed;
      }

      reply_is : step_reply step u ≡ Some (reply.Stepped answer)
      reply_is = step_reply_is u picked.work step picked.is ∙ ap (λ (r : Reply). Some (reply.Stepped r)) (sym drafted.0)

      step_ends_open : EndsIn scripts scene script s then s' line now [] false (reply.Stepped answer)
      step_ends_open = record {
        client = answering (client_of scene.standing s.client) (reply.Stepped answer) (Some (with_step step u));
        notes = step_is_noted scripts scene.standing s.client line (at_line scripts scene script s line rest next) step command
            (step_is_allowed scene script s u line step command open_is own rights few) u open_is (reply.Stepped answer) reply_is;
        answering = record {
          answers = ap (λ (rs : List LineReply). rs ++ reply.Stepped answer ∷ []) rest.seated.answers;
          noted = refl;
          held = rest.held;
        };
        open_is = λ open_still. (with_step step u, refl);
        locks = λ object.
            ap (λ b. u.is_super && b) (step_has_file object u.picked step u.works)
            ∙ sym (ap (λ (o : Option Update). option_map_or (λ (x : Update). x.is_super && has_file object x) o false) open_is);
        of_client = of_none scripts scene.standing s.client;
        moments = untimed_are_of_turn now [] refl;
        update = λ after keeps same. own_stays scene after script then s' (Some (with_step step u)) keeps same (ap (λ (x : Course). x.rights) is.only)
            (λ open_still fed. inl (ap (λ (d : PoolSet). d.fed) same ∙ stepped.fed)) own_then;
      }

    step_ends : (scripts : Scripts) (scene : Scene) → IsAtRest scripts scene script s → (now : ℕ) → EndsIn scripts scene script s then s' line now [] false (reply.Stepped answer)
    step_ends scripts scene rest now = by (client_of scene.standing s.client).update refl rest.update
      where
        by : (o : Option Update) → (client_of scene.standing s.client).update ≡ o → OwnsUpdate scene script s o → EndsIn scripts scene script s then s' line now [] false (reply.Stepped answer)
        by None open_is own = absurd (omega (arith, own, some))
        by (Some u) open_is own = step_ends_open scripts scene rest u open_is own now

    pub step_call : (b.tells → LineTurnStands b) → ((d : D) → b.moment d < 2 ^ 64) → IsReady b script c s → (result : Turned) → result ≡ turned.Line line.number → TurnCall b IsAtRest script c c' s s' result
    step_call laws clock ready result said =
        let may : MayCome b c s then = record { client = refl; replies = refl; held = refl; stage = ready.stage; drafts = on_picked_safe (b.size c.store) s.drafts new stepped.base some ready.safe.drafts } in
        line_ended b laws script c c c' s then s' line next ready [] false (reply.Stepped answer) (come_to b c s then may) is result said
        (λ told. untouched b clock c.store c'.store (ap (λ (x : Common D). x.store) is.noted.only))
        (λ told opening scripts first scene at. step_ends scripts scene at.mine (b.moment c'.store))

pub step_turn : {D : Type 0} (b : Ghosts D) (script : ScriptValue) (c c' : Common D) (s s' : Course) (step : Step) (new : PoolSet) (answer : Reply) (result : Turned)
    → (b.tells → LineTurnStands b) → ((d : D) → b.moment d < 2 ^ 64) → IsReady b script c s → IsAtCommand script s (Do step) → picked_of s.drafts < drafts_of s
    → has_rights (rights_of s) (right_for step) ≡ true → s.drafts.count < 128 → IsStepped s.drafts new step answer
    → IfSome (line_of script s) (λ line. IsAnswered script line (reply.Stepped answer) c c' (record s { drafts = new }) s')
    → IfSome (line_of script s) (λ line. result ≡ turned.Line line.number)
    → TurnCall b IsAtRest script c c' s s' result
step_turn b script c c' s s' step new answer result laws clock ready command some rights few stepped answered said =
    let t : Course = record s { drafts = new } in
    step_call b script c c' s s' command.line command.next step command.is some rights few new answer stepped
    (for_line (line_of script s) (λ line. IsAnswered script line (reply.Stepped answer) c c' t s') command.line command.next answered)
    laws clock ready result (for_line (line_of script s) (λ line. result ≡ turned.Line line.number) command.line command.next said)

-- ---- a make for which seven pages were fed never comes

pub make_is_lost : {D : Type 0} (b : Ghosts D) (script : ScriptValue) (c : Common D) (s : Course) (step : Step) → IsAtCommand script s (Do step) → picked_of s.drafts < drafts_of s → 7 ≤ s.drafts.fed
    → length (end_of step) < 7 → IsLost b IsAtRest script c s
make_is_lost b script c s step command some many short opening scripts first scene at = by (client_of scene.standing s.client).update at.mine.update
  where
    fed_for : HasFed script s → ⊥
    fed_for (inl none) = omega (arith, none, many)
    fed_for (inr feeding) =
        let same : Do feeding.step ≡ Do step = sym feeding.command ∙ ap (λ (l : Line). l.command) (same_line script s feeding.line command.line feeding.next command.next) ∙ command.is in
        let steps : feeding.step ≡ step = cc in
        let most = feeding.way.most in
        let here = ap (λ (x : Step). length (end_of x)) steps in
        omega (arith, most, here, short, many)

    by : (o : Option Update) → OwnsUpdate scene script s o → ⊥
    by None own = omega (arith, own, some)
    by (Some u) own = fed_for own.fed
