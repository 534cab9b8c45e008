-- A line that picks the file of the update that steps go to.
use Rattle.std.proofs.Common.{◌≡◌, ◌≢◌, inl, inr, ℕ, zero, suc, ◌^◌, ◌<◌, ◌≤◌, Bool, true, false, ◌&&◌, List, [], ◌∷◌, ◌++◌, length, Option, Some, None, refl, sym, ap, ◌∙◌, subst, arith}
use Rattle.std.specs.Prelude.{IfSome, is_none, nat_le, nat_lt, slice_get}
use Rattle.std.specs.Option.{option_and_then, option_map_or}
use Rattle.draft_model.specs.Views.{View}
use Rattle.pair_store.specs.declared.store.Blocks.{Ghosts}
use Rattle.pool_draft.specs.Roots.{object_in, root_in, serial_in}
use Rattle.pool_draft.specs.Sets.{AreSameDrafts, base_at, picked_of, roots_of, view_at}
use Rattle.pool_draft.specs.declared.pool_set.PoolSet.{PoolSet}
use Rattle.script_text.specs.ScriptValue.{ScriptValue}
use Rattle.script_text.specs.declared.command.Command.TheVariants.{Do, Pick}
use Rattle.script_text.specs.declared.reply.LineRefusal.TheVariants.{Idle, NoSuchPick}
use Rattle.script_text.specs.declared.reply.LineReply.{LineReply}
use Rattle.script_text.specs.declared.reply.LineReply.TheVariants as reply
use Rattle.script_text.specs.declared.script.Line.{Line}
use Rattle.service_model.specs.Causes.{cause_of, first_cause, pick_cause, when}
use Rattle.service_model.specs.Standing.{Scripts, Standing, Update, Work, client_of, has_file}
use Rattle.ground_model.specs.Lines.{answering}
use Rattle.ground_model.specs.LineTurns.{LineTurnStands}
use Rattle.ground_model.specs.Own.{HasDraft}
use Rattle.ground_model.specs.Scenes.{Scene}
use Rattle.ground_model.proofs.LineKinds.{pick_is_noted}
use Rattle.ground_model.proofs.Noted.{untimed_are_of_turn}
use Rattle.session.specs.Answers.{IsAnswered, IsAtCommand, IsCaused}
use Rattle.session.specs.Calls.{IsReady, TurnCall}
use Rattle.session.specs.Own.{HasFed, IsAtRest, IsDraftOf, IsDrafting, OwnsUpdate}
use Rattle.session.specs.Safe.{AreDraftsIn, AreSafeDrafts, drafts_of, line_of}
use Rattle.session.specs.declared.common.Common.{Common}
use Rattle.session.specs.declared.course.Course.{Course}
use Rattle.session.specs.declared.turned.Turned.{Turned}
use Rattle.session.specs.declared.turned.Turned.TheVariants as turned
use Rattle.session.proofs.Calling.{of_none}
use Rattle.session.proofs.Drafting.{drafts_in}
use Rattle.session.proofs.EndedLines.{EndsIn, line_ended}
use Rattle.session.proofs.LineEnds.{MayCome, at_line, come_to, for_line, own_is_none, own_stays, same_line, untouched}

-- ---- causes

cause_of_pick : (s : Standing) (k place : ℕ) (u : Update) → (client_of s k).update ≡ Some u → cause_of s k (Pick place) ≡ when (nat_le (length u.works) place) NoSuchPick
cause_of_pick s k place u is =
    ap (λ (o : Option Update). first_cause (when (is_none o) Idle ∷ option_and_then (pick_cause place) o ∷ [])) is ∙ by (nat_le (length u.works) place)
  where
    by : (a : Bool) → first_cause (when a NoSuchPick ∷ []) ≡ when a NoSuchPick
    by true = refl
    by false = refl

pub idle_pick : {D : Type 0} (b : Ghosts D) (script : ScriptValue) (c : Common D) (s : Course) (place : ℕ) → IsAtCommand script s (Pick place) → drafts_of s ≡ 0 → IsCaused b script c s Idle
idle_pick b script c s place at none opening scripts first scene is line next =
    ap (λ (l : Line). cause_of scene.standing s.client l.command) (same_line script s line at.line next at.next)
    ∙ ap (cause_of scene.standing s.client) at.is
    ∙ ap (λ (o : Option Update). first_cause (when (is_none o) Idle ∷ option_and_then (pick_cause place) o ∷ [])) (own_is_none scene script s (client_of scene.standing s.client).update is.mine.update none)

pub no_such_pick : {D : Type 0} (b : Ghosts D) (script : ScriptValue) (c : Common D) (s : Course) (place : ℕ) → IsAtCommand script s (Pick place) → drafts_of s ≢ 0 → drafts_of s ≤ place
    → IsCaused b script c s NoSuchPick
no_such_pick b script c s place at some high opening scripts first scene is line next =
    ap (λ (l : Line). cause_of scene.standing s.client l.command) (same_line script s line at.line next at.next)
    ∙ ap (cause_of scene.standing s.client) at.is ∙ by (client_of scene.standing s.client).update refl is.mine.update
  where
    by : (o : Option Update) → (client_of scene.standing s.client).update ≡ o → OwnsUpdate scene script s o → cause_of scene.standing s.client (Pick place) ≡ Some NoSuchPick
    by None e own = absurd (some own)
    by (Some u) e own =
        let number = own.number in
        let yes : nat_le (length u.works) place ≡ true = grind arith in
        cause_of_pick scene.standing s.client place u e ∙ ap (λ a. when a NoSuchPick) yes

-- ---- the turn

-- no page is fed for a line that picks
fed_none : (script : ScriptValue) (s : Course) (place : ℕ) → IsAtCommand script s (Pick place) → HasFed script s → s.drafts.fed ≡ 0
fed_none script s place at (inl none) = none
fed_none script s place at (inr feeding) =
    let both : Pick place ≡ Do feeding.step = sym at.is ∙ ap (λ (l : Line). l.command) (same_line script s at.line feeding.line at.next feeding.next) ∙ feeding.command in
    absurd (cc both)

module _ {D : Type 0} (b : Ghosts D) (script : ScriptValue) (c c' : Common D) (s s' : Course) (place : ℕ) (at : IsAtCommand script s (Pick place)) (low : place < drafts_of s) (new : PoolSet)
    (picked : picked_of new ≡ place) (same : AreSameDrafts s.drafts new) where
  -- the course before the answer
  abbrev then : Course
  then = record s { drafts = new }

  roots_same : roots_of new ≡ roots_of s.drafts
  roots_same = ap length same.bases

  base_same : (i : ℕ) → base_at new i ≡ base_at s.drafts i
  base_same i = ap (λ bs. slice_get bs i) same.bases

  module _ (is : IsAnswered script at.line reply.Picked c c' then s') where
    module _ (scripts : Scripts) (scene : Scene) (rest : IsAtRest scripts scene script s) (u : Update) (open_is : (client_of scene.standing s.client).update ≡ Some u) (own : IsDrafting scene script s u) (now : ℕ) where
      abbrev picks : Update
      picks = record u { picked = place }

      none : cause_of scene.standing s.client at.line.command ≡ None
      none =
          let number = own.number in
          let no : nat_le (length u.works) place ≡ false = grind arith in
          ap (cause_of scene.standing s.client) at.is ∙ cause_of_pick scene.standing s.client place u open_is ∙ ap (λ a. when a NoSuchPick) no

      each_then : (i : ℕ) (w : Work) → slice_get u.works i ≡ Some w → IsDraftOf scene then i w
      each_then i w there =
          let was = own.each i w there in
          record {
            rights = was.rights;
            object = ap object_in (base_same i) ∙ was.object;
            serial = ap serial_in (base_same i) ∙ was.serial;
            draft = subst (λ (d : View). HasDraft scene w (root_in (base_at new i)) d) (sym (same.views i))
                (subst (λ n. HasDraft scene w n (view_at s.drafts i)) (sym (ap root_in (base_same i))) was.draft);
          }

      own_then : OwnsUpdate scene script then (Some picks)
      own_then = record {
        number = own.number ∙ sym roots_same;
        several = own.several ∙ ap (nat_lt 1) (sym roots_same);
        picked = sym picked;
        within = (let roots = roots_same in omega (arith, low, roots, picked));
        count = own.count ∙ sym same.count;
        each = each_then;
        fed = inl (same.fed ∙ fed_none script s place at own.fed);
      }

      pick_ends_open : EndsIn scripts scene script s then s' at.line now [] false reply.Picked
      pick_ends_open = record {
        client = answering (client_of scene.standing s.client) reply.Picked (Some picks);
        notes = pick_is_noted scripts scene.standing s.client at.line (at_line scripts scene script s at.line rest at.next) place at.is none u open_is;
        answering = record {
          answers = ap (λ (rs : List LineReply). rs ++ reply.Picked ∷ []) rest.seated.answers;
          noted = refl;
          held = rest.held;
        };
        open_is = λ some. (picks, refl);
        locks = λ object. sym (ap (λ (o : Option Update). option_map_or (λ (x : Update). x.is_super && has_file object x) o false) open_is);
        of_client = of_none scripts scene.standing s.client;
        moments = untimed_are_of_turn now [] refl;
        update = λ after keeps there. own_stays scene after script then s' (Some picks) keeps there (ap (λ (x : Course). x.rights) is.only)
            (λ some fed. inl (ap (λ (d : PoolSet). d.fed) there ∙ same.fed ∙ fed_none script s place at own.fed)) own_then;
      }

    pick_ends : (scripts : Scripts) (scene : Scene) → IsAtRest scripts scene script s → (now : ℕ) → EndsIn scripts scene script s then s' at.line now [] false reply.Picked
    pick_ends scripts scene rest now = by (client_of scene.standing s.client).update refl rest.update
      where
        by : (o : Option Update) → (client_of scene.standing s.client).update ≡ o → OwnsUpdate scene script s o → EndsIn scripts scene script s then s' at.line now [] false reply.Picked
        by None open_is own = absurd (omega (arith, own, low))
        by (Some u) open_is own = pick_ends_open scripts scene rest u open_is own now

    safe_then : AreSafeDrafts (b.size c.store) s.drafts (roots_of s.drafts) → AreSafeDrafts (b.size c.store) new (roots_of new)
    safe_then safe =
        let was = drafts_in (b.size c.store) s.drafts (roots_of s.drafts) (λ e. omega (arith, low, e)) safe in
        subst (λ n. AreSafeDrafts (b.size c.store) new n) (sym roots_same) (by (roots_of s.drafts) low safe was)
      where
        by : (n : ℕ) → place < n → AreSafeDrafts (b.size c.store) s.drafts n → AreDraftsIn (b.size c.store) s.drafts n → AreSafeDrafts (b.size c.store) new n
        by zero less safe was = absurd (omega (arith, less))
        by (suc zero) less safe was = record {
          picked = omega (arith, picked, less);
          bases = λ i small. subst (λ n. n < b.size c.store) (sym (ap root_in (base_same i))) (was.bases i small);
        }
        by (suc (suc n)) less safe was = safe

    pub pick_call : (b.tells → LineTurnStands b) → ((d : D) → b.moment d < 2 ^ 64) → IsReady b script c s → (result : Turned) → result ≡ turned.Line at.line.number → TurnCall b IsAtRest script c c' s s' result
    pick_call laws clock ready result said =
        let may : MayCome b c s then = record { client = refl; replies = refl; held = refl; stage = ready.stage; drafts = safe_then ready.safe.drafts } in
        line_ended b laws script c c c' s then s' at.line at.next ready [] false reply.Picked (come_to b c s then may) is result said
        (λ told. untouched b clock c.store c'.store (ap (λ (x : Common D). x.store) is.noted.only))
        (λ told opening scripts first scene is_in. pick_ends scripts scene is_in.mine (b.moment c'.store))

pub pick_turn : {D : Type 0} (b : Ghosts D) (script : ScriptValue) (c c' : Common D) (s s' : Course) (place : ℕ) (new : PoolSet) (result : Turned)
    → (b.tells → LineTurnStands b) → ((d : D) → b.moment d < 2 ^ 64) → IsReady b script c s → IsAtCommand script s (Pick place) → place < drafts_of s
    → picked_of new ≡ place → AreSameDrafts s.drafts new
    → IfSome (line_of script s) (λ line. IsAnswered script line reply.Picked c c' (record s { drafts = new }) s')
    → IfSome (line_of script s) (λ line. result ≡ turned.Line line.number)
    → TurnCall b IsAtRest script c c' s s' result
pick_turn b script c c' s s' place new result laws clock ready at low picked same answered said =
    let t : Course = record s { drafts = new } in
    pick_call b script c c' s s' place at low new picked same
    (for_line (line_of script s) (λ line. IsAnswered script line reply.Picked c c' t s') at.line at.next answered)
    laws clock ready result (for_line (line_of script s) (λ line. result ≡ turned.Line line.number) at.line at.next said)
