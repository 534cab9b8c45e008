-- A commit that is behind reads the page of its draft's base, which names the next version, and then that version's page.
use Rattle.std.proofs.Common.{◌≡◌, ◌⊎◌, inl, inr, ℕ, ◌+◌, ◌<◌, ◌≤◌, length, Option, Some, None, Result, Ok, Err, refl, sym, ap, ◌∙◌, subst, arith}
use Rattle.std.specs.Prelude.{MatchOption}
use Rattle.block_map.specs.States.{held_count}
use Rattle.joint_walk.specs.Calls.{waiting_job}
use Rattle.page_codec.specs.Causes.{version_of}
use Rattle.page_codec.specs.Values.{VersionValue}
use Rattle.page_codec.specs.declared.why.Why.{Why}
use Rattle.page_codec.specs.declared.why.Why.TheVariants.{Base}
use Rattle.page_merge.specs.Jobs.{JobValue}
use Rattle.pair_store.specs.declared.store.Blocks.{Ghosts}
use Rattle.pool_draft.specs.Roots.{root_in}
use Rattle.pool_draft.specs.Sets.{base_at, picked_of}
use Rattle.script_text.specs.ScriptValue.{ScriptValue}
use Rattle.service_model.specs.Standing.{Made, Scripts, Work}
use Rattle.store_changes.specs.Writes.{Content}
use Rattle.tree_model.specs.States.{State}
use Rattle.tree_model.specs.Trees.{Tree}
use Rattle.store_model.proofs.Edits.{some_is}
use Rattle.ground_model.specs.Ahead.{IsWalking}
use Rattle.ground_model.specs.Bounds.{turns_to}
use Rattle.ground_model.specs.Names.{NamesNext}
use Rattle.ground_model.specs.Scenes.{Scene, IsShared}
use Rattle.ground_model.specs.Shows.{ShowsVersion}
use Rattle.ground_model.specs.Walking.{IsAhead}
use Rattle.ground_model.proofs.Ahead.{ahead_in, walk_begins, writes_have_steps}
use Rattle.ground_model.proofs.Naming.{commit_names, unlocked_is_unlinked}
use Rattle.ground_model.proofs.Shows.{base_shows}
use Rattle.session.specs.Calls.{IsIn, IsReady, TurnCall, waiting_in}
use Rattle.session.specs.Ends.{TurnGoes}
use Rattle.session.specs.Own.{IsBehind, IsMerged, IsMergedIn, IsNaming, IsNamingAt, IsWalkingOn}
use Rattle.session.specs.Reads.{IsVersionOf, ReadCall}
use Rattle.session.specs.Safe.{AreSafeDrafts, HasDraftIn, IsSafe, IsSafeStage, drafts_of, root_of, serial_of, view_of}
use Rattle.session.specs.Shared.{RunStands}
use Rattle.session.specs.Values.{RepliesValue, one_more}
use Rattle.session.specs.Walks.{BeginsWalk, FollowsNot, HasBegun}
use Rattle.session.specs.declared.common.Common.{Common}
use Rattle.session.specs.declared.course.Course.{Course}
use Rattle.session.specs.declared.stage.Stage.{Stage}
use Rattle.session.specs.declared.stage.Stage.TheVariants as stage
use Rattle.session.specs.declared.turned.Fault.{Fault}
use Rattle.session.specs.declared.turned.Fault.TheVariants as fault
use Rattle.session.specs.declared.turned.Turned.{Turned}
use Rattle.session.specs.declared.turned.Turned.TheVariants as turned
use Rattle.session.proofs.Drafting.{one_in}
use Rattle.session.proofs.BlockLaws.{BlockLaws}
use Rattle.session.proofs.Counting.{one_more_low}
use Rattle.session.proofs.Deciding.{is_on, run_sound}
use Rattle.session.proofs.WalkReads.{AreShown, Shown, failed_call, given_is, lost_read, place_shown, went_call, within_store}
use Rattle.session.proofs.Walking.{KeepsCommit, committing_then, under_way_goes}

ok_same : (r : Result VersionValue Why) (x y : VersionValue) → r ≡ Ok x → r ≡ Ok y → x ≡ y
ok_same r x y e f = cc

-- a turn that leaves pages to be merged tells them
pub work_by : (s' : Course) (o : Option JobValue) (answer : Turned) → MatchOption o (answer ≡ turned.Again) (λ job. answer ≡ turned.Work job)
    → ((job : JobValue) → o ≡ Some job → waiting_in s'.stage ≡ Some job) → (answer ≡ turned.Again) ⊎ ((job : JobValue) × (answer ≡ turned.Work job) × (waiting_in s'.stage ≡ Some job))
work_by s' None answer again of_walk = inl again
work_by s' (Some job) answer work of_walk = inr (job, work, of_walk job refl)

-- a version's block shows its page to whoever reads it
version_shown : {D : Type 0} (b : Ghosts D) (laws : BlockLaws b) (opening : State) (scripts : Scripts) (first : ℕ) (scene : Scene) (c : Common D) (object serial n : ℕ)
    → RunStands b opening scripts first scene c → ShowsVersion scene object serial n → Shown b IsVersionOf c n
version_shown b laws opening scripts first scene c object serial n st shows =
    place_shown b IsVersionOf laws opening scripts first scene c n st shows.lies.high shows.body shows.holds shows.page shows.reads

-- and so what was read of it is that page
read_is : {D : Type 0} (b : Ghosts D) (opening : State) (scripts : Scripts) (first : ℕ) (scene : Scene) (c : Common D) (object serial n : ℕ)
    → RunStands b opening scripts first scene c → (shows : ShowsVersion scene object serial n) → (shown : Shown b IsVersionOf c n) → (version : VersionValue) → IsVersionOf shown.bytes version
    → version ≡ shows.page
read_is b opening scripts first scene c object serial n st shows shown version gives =
    let same : shown.bytes ≡ shows.body = some_is (sym shown.holds ∙ ap (λ (f : Content). f n) (sym st.stands.content) ∙ shows.holds) in
    ok_same (version_of shown.bytes) version shows.page gives (ap version_of same ∙ shows.reads)

-- the course with its next stage
abbrev pub at_stage : Course → Stage → Course
at_stage s stage = record s { stage = stage; turns = one_more s.turns }

same_commit : (s : Course) (stage : Stage) → drafts_of s ≡ 1 → KeepsCommit s (at_stage s stage)
same_commit s stage one = record { client = refl; replies = refl; rights = refl; held = refl; one = one; count = refl; object = refl }

-- ---- the page of the draft's base

module _ {D : Type 0} (b : Ghosts D) (script : ScriptValue) (c c' : Common D) (s : Course) (result : Result VersionValue Fault)
    (laws : b.tells → BlockLaws b) (ready : IsReady b script c s) (read : ReadCall b IsVersionOf c c' (root_of s) result) where
  base_page : (scene : Scene) (scripts : Scripts) → IsShared scene → (is : IsBehind scripts scene script s) → ShowsVersion scene is.open_to.merged.work.object (serial_of s) (root_of s)
  base_page scene scripts shared is =
      base_shows scene is.open_to.merged.work.object (serial_of s) (root_of s) is.open_to.merged.tree shared is.open_to.merged.merged.base

  base_shown : b.tells → AreShown b IsVersionOf IsBehind script c s (root_of s)
  base_shown told opening scripts first scene is =
      version_shown b (laws told) opening scripts first scene c _ (serial_of s) (root_of s) is.stands (base_page scene scripts is.stands.stands.shared is.mine)

  pub base_failed : (e : Fault) → result ≡ Err e → TurnCall b IsBehind script c c' s s (turned.Stopped e)
  base_failed = failed_call b IsVersionOf IsBehind script c c' s (root_of s) result laws ready read base_shown

  module _ (version : VersionValue) (was : result ≡ Ok version) where
    named_by : b.tells → (opening : State) (scripts : Scripts) (first : ℕ) (scene : Scene) → (is : IsIn b IsBehind script c s opening scripts first scene)
        → NamesNext scene is.mine.open_to.merged.work.object (serial_of s) version.commit
    named_by told opening scripts first scene is =
        let m : IsMerged scripts scene script s = is.mine.open_to.merged in
        let shows = base_page scene scripts is.stands.stands.shared is.mine in
        let shown = base_shown told opening scripts first scene is in
        let same = read_is b opening scripts first scene c m.work.object (serial_of s) (root_of s) is.stands shows shown version
        (given_is b IsVersionOf IsBehind script c c' s (root_of s) result laws ready read base_shown version was told shown) in
        subst (λ (v : VersionValue). NamesNext scene m.work.object (serial_of s) v.commit) (sym same)
        (commit_names scene m.work.object (serial_of s) (root_of s) m.tree shows.page is.stands.stands.shared
        (unlocked_is_unlinked scene.standing s.client m.update m.work.object m.committing.is_open m.committing.plain.plain is.mine.open_to.unlocked)
        m.merged.base shows.held)

    -- it names the next version
    pub next_named : HasDraftIn (b.size c.store) s → (next : ℕ) → version.commit ≡ Some next → TurnCall b IsBehind script c c' s (at_stage s (stage.Naming next)) turned.Again
    next_named draft next names =
        went_call b IsVersionOf IsBehind script c c' s (root_of s) result laws ready read base_shown version was (at_stage s (stage.Naming next)) safe refl refl refl refl goes turned.Again (inl refl)
      where
        safe : IsSafe (b.size c.store) c.map script (at_stage s (stage.Naming next))
        safe = record { lines = ready.safe.lines; room = ready.safe.room; held = ready.safe.held; drafts = ready.safe.drafts; stage = draft.one }

        goes : b.tells → (opening : State) (scripts : Scripts) (first : ℕ) (scene : Scene) → IsIn b IsBehind script c s opening scripts first scene
            → TurnGoes b opening scripts first scene c c' script (at_stage s (stage.Naming next))
        goes told opening scripts first scene is =
            let m : IsMerged scripts scene script s = is.mine.open_to.merged in
            let there = (named_by told opening scripts first scene is).some next names in
            under_way_goes b (laws told) opening scripts first scene c c' script (at_stage s (stage.Naming next)) is.stands read.alone (read.read told)
            (inl (
              next,
              refl,
              record {
                merged = record {
                  update = m.update;
                  work = m.work;
                  tree = m.tree;
                  committing = committing_then scripts scene script s (at_stage s (stage.Naming next)) m.update m.work (same_commit s (stage.Naming next) draft.one) m.committing;
                  merged = m.merged;
                  turns = (let low = m.turns in let one = one_more_low s.turns in omega (arith, low, one));
                };
                later = is.mine.later;
                tree = there.tree;
                base = there.base;
              },
            ))

    -- it always names one
    pub none_named : version.commit ≡ None → (block : ℕ) (why : Why) → TurnCall b IsBehind script c c' s s (turned.Stopped (fault.Bad block why))
    none_named names block why =
        lost_read b IsVersionOf IsBehind script c c' s (root_of s) result laws ready read base_shown version was
        (λ told opening scripts first scene is.
        let last = (named_by told opening scripts first scene is).none names in
        let later = is.mine.later in
        omega (arith, last, later)) block why

    -- as the code does it
    pub find_named : HasDraftIn (b.size c.store) s → (next : ℕ) → version.commit ≡ Some next → (s' : Course) (answer : Turned)
        → s' ≡ at_stage s (stage.Naming next) → answer ≡ turned.Again → TurnCall b IsBehind script c c' s s' answer
    find_named draft next names s' answer course again =
        subst (λ (x : Course). TurnCall b IsBehind script c c' s x answer) (sym course)
        (subst (λ (r : Turned). TurnCall b IsBehind script c c' s (at_stage s (stage.Naming next)) r) (sym again) (next_named draft next names))

-- the block of the draft's base
pub root_here : (s : Course) (size root : ℕ) → HasDraftIn size s → root ≡ root_in (base_at s.drafts (picked_of s.drafts)) → root ≡ root_of s
root_here s size root draft is = is ∙ ap (λ n. root_in (base_at s.drafts n)) draft.picked

-- ---- the next version's page

module _ {D : Type 0} (b : Ghosts D) (script : ScriptValue) (c c' : Common D) (s : Course) (next : ℕ) (result : Result VersionValue Fault)
    (laws : b.tells → BlockLaws b) (ready : IsReady b script c s) (read : ReadCall b IsVersionOf c c' next result) where
  next_page : (scene : Scene) (scripts : Scripts) → IsShared scene → (is : IsNaming scripts scene script s next) → ShowsVersion scene is.merged.work.object (serial_of s + 1) next
  next_page scene scripts shared is = base_shows scene is.merged.work.object (serial_of s + 1) next is.tree shared is.base

  next_shown : b.tells → AreShown b IsVersionOf (IsNamingAt next) script c s next
  next_shown told opening scripts first scene is =
      version_shown b (laws told) opening scripts first scene c _ (serial_of s + 1) next is.stands (next_page scene scripts is.stands.stands.shared is.mine)

  pub next_failed : (e : Fault) → result ≡ Err e → TurnCall b (IsNamingAt next) script c c' s s (turned.Stopped e)
  next_failed = failed_call b IsVersionOf (IsNamingAt next) script c c' s next result laws ready read next_shown

  -- The version ahead of the draft, which was read.
  pub record ReadAhead (scene : Scene) (w : Work) (upto root : ℕ) (tree : Tree) (version : VersionValue) : Type 0 where
    pub made : Made
    pub ahead : IsAhead scene w upto root tree next made version
    pub low : 1 ≤ next

  module _ (version : VersionValue) (was : result ≡ Ok version) where
    ahead_by : b.tells → (opening : State) (scripts : Scripts) (first : ℕ) (scene : Scene) → (is : IsIn b (IsNamingAt next) script c s opening scripts first scene)
        → ReadAhead scene is.mine.merged.work (serial_of s) (root_of s) is.mine.merged.tree version
    ahead_by told opening scripts first scene is =
        let m : IsMergedIn (1 + s.held) scripts scene script s = is.mine.merged in
        let shows = next_page scene scripts is.stands.stands.shared is.mine in
        let shown = next_shown told opening scripts first scene is in
        let same : version ≡ shows.page = read_is b opening scripts first scene c m.work.object (serial_of s + 1) next is.stands shows shown version
        (given_is b IsVersionOf (IsNamingAt next) script c c' s next result laws ready read next_shown version was told shown) in
        let there = ahead_in scripts scene s.client m.work (serial_of s) (root_of s) next m.tree is.mine.tree (view_of s) is.stands.stands.shared
        (run_sound b opening scripts first scene c is.stands) (is_on scripts scene script s m.update m.work m.committing) m.merged is.mine.base in
        let page : there.1 ≡ version = some_is (sym there.2.held ∙ shows.held) ∙ sym same in
        record {
          made = there.0;
          ahead = subst (λ (v : VersionValue). IsAhead scene m.work (serial_of s) (root_of s) m.tree next there.0 v) page there.2;
          low = shows.lies.low;
        }

    -- it always follows the draft's base
    pub never_apart : (answer : Turned) → FollowsNot next version s s answer → TurnCall b (IsNamingAt next) script c c' s s answer
    never_apart answer not =
        subst (λ (r : Turned). TurnCall b (IsNamingAt next) script c c' s s r) (sym not.answer)
        (lost_read b IsVersionOf (IsNamingAt next) script c c' s next result laws ready read next_shown version was
        (λ told opening scripts first scene is.
        let m : IsMergedIn (1 + s.held) scripts scene script s = is.mine.merged in
        let there = ahead_by told opening scripts first scene is in
        let some = writes_have_steps m.update m.work m.committing.plain.works m.committing.writes in
        let count = m.committing.plain.count in
        let low = there.low in
        not.why there.ahead.page_base (omega (arith, low)) (omega (arith, some, count))) next Base)

    module _ (s' : Course) (answer : Turned) (begun : HasBegun next version s s' answer) where
      course_is : KeepsCommit s s'
      course_is = record {
        client = ap (λ (x : Course). x.client) begun.only;
        replies = ap (λ (x : Course). x.replies) begun.only;
        rights = ap (λ (x : Course). x.rights) begun.only;
        held = ap (λ (x : Course). x.held) begun.only;
        one = begun.drafts;
        count = begun.count;
        object = begun.object;
      }

      turns_is : s'.turns ≡ one_more s.turns
      turns_is = ap (λ (x : Course). x.turns) begun.only

      stage_is : s'.stage ≡ stage.Walking begun.walk
      stage_is = ap (λ (x : Course). x.stage) begun.only

      safe : IsSafe (b.size c.store) c.map script s'
      safe = record {
        lines = subst (λ (r : RepliesValue). length r.items ≤ length script.lines) (sym course_is.replies) ready.safe.lines;
        room = subst (λ (r : RepliesValue). length script.lines ≤ r.room) (sym course_is.replies) ready.safe.room;
        held = ap (λ k. held_count k c.map) course_is.client ∙ ready.safe.held ∙ sym course_is.held;
        drafts = subst (AreSafeDrafts (b.size c.store) s'.drafts) (sym begun.drafts)
            (one_in (b.size c.store) s'.drafts begun.picked (subst (λ n. n < b.size c.store) (sym begun.root) (within_store b IsVersionOf (IsNamingAt next) script c c' s next result laws ready read next_shown version was)));
        stage = subst (IsSafeStage (length c.map) s') (sym stage_is) begun.drafts;
      }

      walks : b.tells → (opening : State) (scripts : Scripts) (first : ℕ) (scene : Scene) → (is : IsIn b (IsNamingAt next) script c s opening scripts first scene)
          → IsWalkingOn scripts scene script s' begun.walk
      walks told opening scripts first scene is =
          let m : IsMergedIn (1 + s.held) scripts scene script s = is.mine.merged in
          let there = ahead_by told opening scripts first scene is in
          record {
            update = m.update;
            work = m.work;
            committing = committing_then scripts scene script s s' m.update m.work course_is m.committing;
            upto = serial_of s;
            root = root_of s;
            tree = m.tree;
            before = view_of s;
            made = there.made;
            fed = 1;
            walking = subst (λ n. IsWalking scene m.work (serial_of s) (root_of s) m.tree (view_of s) n there.made 1 begun.walk (view_of s')) (sym begun.root)
                (walk_begins scene m.work (serial_of s) (root_of s) m.tree (view_of s) (view_of s') next there.made version begun.walk m.merged there.ahead
                (writes_have_steps m.update m.work m.committing.plain.works m.committing.writes) begun.starts);
            serial = begun.serial ∙ there.ahead.page_serial;
            turns =
                let low = m.turns in
                let one = one_more_low s.turns in
                let is = turns_is in
                subst (λ h. s'.turns ≤ turns_to scene.standing.made h m.work (serial_of s) + (1 + h) + 1) (sym course_is.held) (omega (arith, low, one, is));
          }

      pub begins_call : TurnCall b (IsNamingAt next) script c c' s s' answer
      begins_call =
          went_call b IsVersionOf (IsNamingAt next) script c c' s next result laws ready read next_shown version was s' safe course_is.client course_is.replies course_is.held turns_is
          (λ told opening scripts first scene is.
          under_way_goes b (laws told) opening scripts first scene c c' script s' is.stands read.alone (read.read told)
          (inr (begun.walk, stage_is, walks told opening scripts first scene is)))
          answer (work_by s' (waiting_job begun.walk) answer begun.answer (λ job waits. subst (λ (x : Stage). waiting_in x ≡ Some job) (sym stage_is) waits))

    pub open_call : (s' : Course) (answer : Turned) → BeginsWalk next version s s' answer → TurnCall b (IsNamingAt next) script c c' s s' answer
    open_call s' answer (inl begun) = begins_call s' answer begun
    open_call s' answer (inr not) =
        subst (λ (x : Course). TurnCall b (IsNamingAt next) script c c' s x answer) (sym not.same)
        (never_apart answer (record { same = refl; answer = not.answer; why = not.why }))
