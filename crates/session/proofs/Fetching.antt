-- A page that a step needs is read and fed.
use Rattle.std.proofs.Common.{◌≡◌, ◌≢◌, ◌⊎◌, slice_get, inl, inr, ℕ, ◌+◌, ◌<◌, ◌≤◌, true, List, [], ◌∷◌, length, length-append, Option, Some, None, Result, Ok, refl, sym, ap, ◌∙◌, subst, arith}
use Rattle.std.proofs.lemmas.Bool.{cases_eq}
use Rattle.caps.specs.Grant.{has_rights}
use Rattle.draft_model.specs.Stands.{Feeds}
use Rattle.draft_model.specs.Steps.{fed}
use Rattle.draft_model.specs.Views.{View, Wants, copies, live}
use Rattle.page_codec.specs.Values.{PageValue}
use Rattle.page_codec.specs.declared.why.Why.{Why}
use Rattle.pair_store.specs.declared.store.Blocks.{Ghosts}
use Rattle.std.specs.Prelude.{nat_lt}
use Rattle.std.specs.Option.{option_map_or}
use Rattle.pool_draft.specs.Roots.{root_in}
use Rattle.pool_draft.specs.Sets.{base_at, picked_of, view_at}
use Rattle.pool_draft.specs.declared.pool_set.PoolSet.{PoolSet}
use Rattle.script_text.specs.ScriptValue.{ScriptValue}
use Rattle.script_text.specs.declared.command.Command.TheVariants.{Do}
use Rattle.script_text.specs.declared.script.Line.{Line}
use Rattle.service_model.specs.Causes.{right_for}
use Rattle.service_model.specs.Standing.{Scripts, Update, Work, client_of}
use Rattle.store_model.specs.Laws.{pages_of}
use Rattle.tree_model.specs.Accesses.{end_of}
use Rattle.tree_model.specs.States.{State}
use Rattle.tree_model.specs.declared.step.Step.{Step}
use Rattle.ground_model.specs.LineTurns.{LineTurnStands, ReadTurnStands}
use Rattle.ground_model.specs.Leaves.{KeepsVersions}
use Rattle.ground_model.specs.Own.{HasDraft}
use Rattle.ground_model.specs.Scenes.{Scene}
use Rattle.ground_model.specs.Shows.{ShowsPage}
use Rattle.ground_model.specs.Steps.{moved_to}
use Rattle.ground_model.proofs.Drafting.{fed_draft}
use Rattle.ground_model.proofs.Noted.{untimed_are_of_turn}
use Rattle.ground_model.proofs.Shows.{wanted_shows}
use Rattle.session.specs.Answers.{IsAtCommand}
use Rattle.session.specs.Calls.{IsIn, IsLost, IsReady, TurnCall}
use Rattle.session.specs.Ends.{TurnGoes}
use Rattle.session.specs.Own.{HasFed, IsAtRest, IsDraftOf, IsDrafting, IsFeeding, IsOnItsWay, OwnsStage, OwnsUpdate}
use Rattle.session.specs.Reads.{IsPageOf, ReadCall}
use Rattle.session.specs.Safe.{IsSafeStage, drafts_of, picked_view, rights_of}
use Rattle.session.specs.Shared.{entries_of}
use Rattle.session.specs.Values.{one_more}
use Rattle.session.specs.declared.common.Common.{Common}
use Rattle.session.specs.declared.course.Course.{Course}
use Rattle.session.specs.declared.stage.Stage.{Stage}
use Rattle.session.specs.declared.stage.Stage.TheVariants.{Resting}
use Rattle.session.specs.declared.turned.Turned.TheVariants as turned
use Rattle.session.proofs.Counting.{one_more_within}
use Rattle.session.proofs.Drafting.{OnPicked, Picked, drafting_stays, on_picked_safe, other_draft, picked_in}
use Rattle.session.proofs.Ending.{rest_sets_none}
use Rattle.session.proofs.FedPages.{fed_live, way_goes_on}
use Rattle.session.proofs.Going.{goes_read, shares_read, turn_goes}
use Rattle.session.proofs.LineEnds.{same_line}
use Rattle.session.proofs.ReadTurns.{IsKnown, again_call, held_now, settled_here}

-- ---- before the page is fed

-- What a client with a draft has of its own: an update that it drafts.
pub record Drafts (scene : Scene) (script : ScriptValue) (s : Course) (o : Option Update) : Type 0 where
  pub update : Update
  pub is : o ≡ Some update
  pub own : IsDrafting scene script s update

pub has_drafts : (scene : Scene) (script : ScriptValue) (s : Course) (o : Option Update) → picked_of s.drafts < drafts_of s → OwnsUpdate scene script s o → Drafts scene script s o
has_drafts scene script s None some own = absurd (omega (arith, own, some))
has_drafts scene script s (Some u) some own = record { update = u; is = refl; own = own }

wanted_below : (d : View) (end q : List ℕ) (block : ℕ) → Wants (copies d) end q block → 0 < length q
wanted_below d end q block wants = (let long = ap length wants.is ∙ length-append wants.above (wants.last ∷ []) in omega (arith, long))

-- as many pages were fed as there are slots on the way to the one that is wanted, or fewer
pub fed_below : (script : ScriptValue) (s : Course) (step : Step) (q : List ℕ) (block : ℕ) → IsAtCommand script s (Do step) → Wants (copies (picked_view s)) (end_of step) q block → HasFed script s
    → s.drafts.fed < length q
fed_below script s step q block command wants (inl none) = (let below = wanted_below (picked_view s) (end_of step) q block wants in omega (arith, below, none))
fed_below script s step q block command wants (inr feeding) =
    let same : Do feeding.step ≡ Do step = sym feeding.command ∙ ap (λ (l : Line). l.command) (same_line script s feeding.line command.line feeding.next command.next) ∙ command.is in
    let steps : feeding.step ≡ step = cc in
    feeding.way.wants q block (subst (λ (x : Step). Wants (copies (picked_view s)) (end_of x) q block) (sym steps) wants)

module _ {D : Type 0} (b : Ghosts D) (script : ScriptValue) (c : Common D) (s : Course) (step : Step) (q : List ℕ) (block : ℕ) (command : IsAtCommand script s (Do step)) (some : picked_of s.drafts < drafts_of s)
    (wants : Wants (copies (picked_view s)) (end_of step) q block) where
  -- so seven pages are never fed before it
  pub fed_is_lost : 7 ≤ s.drafts.fed → length q ≤ 7 → IsLost b IsAtRest script c s
  fed_is_lost many short opening scripts first scene at =
      let has = has_drafts scene script s (client_of scene.standing s.client).update some at.mine.update in
      let below = fed_below script s step q block command wants has.own.fed in
      omega (arith, below, many, short)

  -- the block holds the page that is wanted
  pub wanted_is_known : (opening : State) (scripts : Scripts) (first : ℕ) (scene : Scene) → IsIn b IsAtRest script c s opening scripts first scene → IsKnown (IsPageOf (length q)) scene block
  wanted_is_known opening scripts first scene at =
      let has = has_drafts scene script s (client_of scene.standing s.client).update some at.mine.update in
      let picked = picked_in scene script s has.update has.own in
      let shows = wanted_shows scene picked.work (root_in (base_at s.drafts (picked_of s.drafts))) (picked_view s) (end_of step) q block at.stands.stands.shared picked.here.draft wants in
      record { low = shows.lies.high; bytes = shows.body; holds = shows.holds; value = shows.page; gives = (shows.reads, shows.level) }

-- ---- after it was fed

-- The page at q was fed to the picked draft.
pub record IsFed (old new : PoolSet) (q : List ℕ) (page : PageValue) : Type 0 where
  pub base : OnPicked old new
  pub feeds : Feeds (view_at old (picked_of old)) (view_at new (picked_of old)) q page
  pub there : live (copies (view_at new (picked_of old))) q ≡ true
  pub count : new.count ≡ old.count
  pub more : new.fed ≡ old.fed + 1

pub is_fed : (old new : PoolSet) (q : List ℕ) (page : PageValue) → OnPicked old new → Feeds (view_at old (picked_of old)) (view_at new (picked_of new)) q page
    → view_at new (picked_of new) ≡ fed (view_at old (picked_of old)) q page → new.count ≡ old.count → new.fed ≡ old.fed + 1 → IsFed old new q page
is_fed old new q page base feeds shown count more = record {
  base = base;
  feeds = subst (λ k. Feeds (view_at old (picked_of old)) (view_at new k) q page) base.picked feeds;
  there = subst (λ k. live (copies (view_at new k)) q ≡ true) base.picked
      (subst (λ (v : View). live (copies v) q ≡ true) (sym shown) (fed_live (view_at old (picked_of old)) q page));
  count = count;
  more = more;
}

module _ {D : Type 0} (b : Ghosts D) (script : ScriptValue) (c c' : Common D) (s : Course) (step : Step) (q : List ℕ) (block : ℕ) (page : PageValue) (command : IsAtCommand script s (Do step))
    (some : picked_of s.drafts < drafts_of s) (rights : has_rights (rights_of s) (right_for step) ≡ true) (few : s.drafts.count < 128) (wants : Wants (copies (picked_view s)) (end_of step) q block)
    (new : PoolSet) (was_fed : IsFed s.drafts new q page) where
  -- the course after it
  abbrev next : Course
  next = record s { drafts = new; turns = one_more s.turns }

  module _ (scene : Scene) (after : Scene) (keeps : KeepsVersions scene after) (shows : pages_of scene.content block ≡ Some page) (u : Update) (own : IsDrafting scene script s u) where
    picked : Picked scene s u
    picked = picked_in scene script s u own

    abbrev root : ℕ
    root = root_in (base_at s.drafts (picked_of s.drafts))

    draft_fed : HasDraft scene picked.work root (view_at new (picked_of s.drafts))
    draft_fed = fed_draft scene picked.work root (picked_view s) (view_at new (picked_of s.drafts)) (end_of step) q block page picked.here.draft wants shows was_fed.feeds

    still_feeding : IsFeeding script next
    still_feeding = record {
      line = command.line;
      step = step;
      next = command.next;
      command = command.is;
      rights = subst (λ k. has_rights (option_map_or (λ (n : ℕ). n) (slice_get s.rights.items k) 0) (right_for step) ≡ true) (sym was_fed.base.picked) rights;
      few = (let same = was_fed.count in omega (arith, few, same));
      way = subst (λ k. IsOnItsWay (view_at new k) (end_of step) new.fed) (sym was_fed.base.picked)
          (subst (IsOnItsWay (view_at new (picked_of s.drafts)) (end_of step)) (sym was_fed.more)
          (way_goes_on (view_at new (picked_of s.drafts)) (end_of step) q was_fed.there wants.on_way draft_fed.stands.stands.shape.above s.drafts.fed
          (fed_below script s step q block command wants own.fed)));
    }

    each_then : (i : ℕ) (w : Work) → slice_get u.works i ≡ Some w → IsDraftOf scene next i w
    each_then i w is = by (cases_eq i (picked_of s.drafts))
      where
        here : slice_get u.works (picked_of s.drafts) ≡ Some w → IsDraftOf scene next (picked_of s.drafts) w
        here there =
            let both : Some picked.work ≡ Some w = sym (ap (slice_get u.works) (sym own.picked) ∙ picked.is) ∙ there in
            let same : picked.work ≡ w = cc in
            subst (IsDraftOf scene next (picked_of s.drafts)) same (record {
              rights = picked.here.rights;
              object = (was_fed.base.bases (picked_of s.drafts)).object ∙ picked.here.object;
              serial = (was_fed.base.bases (picked_of s.drafts)).serial ∙ picked.here.serial;
              draft = subst (λ n. HasDraft scene picked.work n (view_at new (picked_of s.drafts))) (sym (was_fed.base.bases (picked_of s.drafts)).root) draft_fed;
            })

        other : i ≢ picked_of s.drafts → IsDraftOf scene next i w
        other ne = (let was = other_draft scene s new i w was_fed.base ne (own.each i w is) in record { rights = was.rights; object = was.object; serial = was.serial; draft = was.draft })

        by : (i ≡ picked_of s.drafts) ⊎ (i ≢ picked_of s.drafts) → IsDraftOf scene next i w
        by (inl e) = subst (λ n. IsDraftOf scene next n w) (sym e) (here (ap (slice_get u.works) (sym e) ∙ is))
        by (inr ne) = other ne

    own_fed : IsDrafting after script next u
    own_fed = drafting_stays scene after script next next u keeps refl refl (λ fed. fed) (record {
      number = own.number ∙ sym was_fed.base.roots;
      several = own.several ∙ ap (nat_lt 1) (sym was_fed.base.roots);
      picked = own.picked ∙ sym was_fed.base.picked;
      within = (let low = own.within in let one = was_fed.base.picked in let two = was_fed.base.roots in omega (arith, low, one, two));
      count = own.count ∙ sym was_fed.count;
      each = each_then;
      fed = inr still_feeding;
    })

  module _ (read : ReadCall b (IsPageOf (length q)) c c' block (Ok page)) where
    module _ (told : b.tells) (law : LineTurnStands b) (keeping : ReadTurnStands b)
        (opening : State) (scripts : Scripts) (first : ℕ) (scene : Scene) (at : IsIn b IsAtRest script c s opening scripts first scene) where
      abbrev after : Scene
      after = moved_to scene (b.content c'.store) scene.states scene.standing

      has : Drafts scene script s (client_of scene.standing s.client).update
      has = has_drafts scene script s (client_of scene.standing s.client).update some at.mine.update

      picks : Picked scene s has.update
      picks = picked_in scene script s has.update has.own

      shows : ShowsPage scene q block
      shows = wanted_shows scene picks.work (root_in (base_at s.drafts (picked_of s.drafts))) (picked_view s) (end_of step) q block at.stands.stands.shared picks.here.draft wants

      -- the page that was read is the one that the block shows
      page_is : pages_of scene.content block ≡ Some page
      page_is =
          let gives = read.gives told (settled_here b opening scripts first scene c at.stands block shows.lies.high) shows.body (held_now b opening scripts first scene c at.stands block shows.body shows.holds) in
          let both : (let r : Result PageValue Why = Ok shows.page in r) ≡ Ok page = sym shows.reads ∙ gives.0 in
          let same : shows.page ≡ page = cc in
          shows.shows ∙ ap Some same

      keeps : KeepsVersions scene after
      keeps =
          (keeping opening scripts first s.client scene c.store c'.store (entries_of c) at.stands.stands at.mine.seated.client
          (rest_sets_none scripts scene script s at.mine) (read.read told)).1.versions

      rests : IsAtRest scripts after script next
      rests = record {
        seated = record { client = at.mine.seated.client; its_script = at.mine.seated.its_script; answers = at.mine.seated.answers; idle = at.mine.seated.idle };
        fresh = at.mine.fresh;
        held = at.mine.held;
        none = at.mine.none;
        update = subst (OwnsUpdate after script next) (sym has.is) (own_fed scene after keeps page_is has.update has.own);
        closed = λ last. (let both : None ≡ Some command.line = sym last ∙ command.next in absurd (cc both));
        turns = (let low = at.mine.turns in let fed = was_fed.more in let one = one_more_within s.turns s.drafts.fed low in omega (arith, fed, one));
      }

      goes : s.stage ≡ Resting → TurnGoes b opening scripts first scene c c' script next
      goes rest =
          turn_goes b opening scripts first scene after c c' script next s.client [] refl
          (goes_read b law opening scripts first s.client scene c c' at.stands at.mine.seated.client
          (rest_sets_none scripts scene script s at.mine) (read.read told) (shares_read b c c' read.alone) (ap (λ (x : Common D). x.locks) read.alone.only))
          (untimed_are_of_turn (b.moment c'.store) [] refl)
          (subst (OwnsStage scripts after script next) (sym rest) rests)

    pub fetched_call : (b.tells → LineTurnStands b) → (b.tells → ReadTurnStands b) → IsReady b script c s
        → (s' : Course) → s' ≡ next → TurnCall b IsAtRest script c c' s s' turned.Again
    fetched_call law keeping ready s' came =
        subst (λ (x : Course). TurnCall b IsAtRest script c c' s x turned.Again) (sym came)
        (again_call b c c' script s next ready
        (record {
          alone = read.alone;
          one = read.one;
          rest = read.rest;
          turns = refl;
          client = refl;
          replies = refl;
          held = refl;
          stage = subst (λ (x : Stage). IsSafeStage (length c.map) next x) (sym ready.stage) tt;
          drafts = on_picked_safe (b.size c.store) s.drafts new was_fed.base some ready.safe.drafts;
        })
        IsAtRest (λ told opening scripts first scene at. goes told (law told) (keeping told) opening scripts first scene at ready.stage))
