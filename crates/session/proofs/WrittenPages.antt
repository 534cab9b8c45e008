-- The run goes on after a page of a flush was written, and stops where the write failed.
use Rattle.std.proofs.Common.{◌≡◌, ◌⊎◌, inl, inr, ℕ, ◌-◌, ◌+◌, ◌^◌, List, [], ◌++◌, length, Option, Some, Ok, Err, refl, sym, ap, ◌∙◌, subst, arith, slice_get, append-nil, length-append, ◌∷◌, ◌<◌, None}
use Rattle.std.specs.Prelude.{min}
use Rattle.draft_model.specs.Flush.{Placed, in_turn}
use Rattle.drives.specs.declared.device.Half.{Half}
use Rattle.block_map.proofs.Marking.{slice_get-lt}
use Rattle.block_map.specs.States.{held_count}
use Rattle.block_map.specs.declared.states.BlockState.{BlockState}
use Rattle.caps.specs.Tables.{seal_of}
use Rattle.page_codec.specs.Values.{TableValue}
use Rattle.pair_store.specs.declared.store.Blocks.{Ghosts}
use Rattle.script_text.specs.ScriptValue.{ScriptValue}
use Rattle.service_model.specs.Standing.{Scripts, Client, client_of}
use Rattle.super_files.specs.declared.locks.Lock.{Lock}
use Rattle.tree_model.specs.States.{State}
use Rattle.version_chain.specs.Flush.{GivesNext, Plan, StartsAtRoot, base_of}
use Rattle.ground_model.specs.Laws.{Leads}
use Rattle.ground_model.specs.Leaves.{LeavesOthers}
use Rattle.ground_model.specs.Lines.{Notes}
use Rattle.ground_model.specs.Own.{IsHeldBy}
use Rattle.ground_model.specs.Runs.{HasPut, Stands}
use Rattle.ground_model.specs.Scenes.{Scene}
use Rattle.ground_model.specs.Steps.{moved_to}
use Rattle.ground_model.specs.Stops.{HasStopped}
use Rattle.ground_model.specs.Writing.{IsWriteTurn}
use Rattle.ground_model.proofs.HeldWrites.{within}
use Rattle.ground_model.proofs.Noted.{nothing_is_noted}
use Rattle.ground_model.proofs.Writing.{flush_goes_on}
use Rattle.session.specs.Calls.{IsIn, IsLost, IsReady, StopsBecause, TurnCall}
use Rattle.session.specs.Ends.{GoesTo}
use Rattle.session.specs.Own.{IsMergedIn, IsWritingBy, IsWritingOut}
use Rattle.session.specs.Reads.{StoreAlone, WriteCall}
use Rattle.session.specs.Safe.{AreSafeDrafts, IsSafe, IsSafeFlush, IsSafeStage, drafts_of, object_of, root_of, serial_of, view_of}
use Rattle.session.specs.Shared.{AreLocksIn, RunStands, entries_of}
use Rattle.session.specs.Values.{one_more}
use Rattle.session.specs.declared.common.Common.{Common}
use Rattle.session.specs.declared.course.Course.{Course}
use Rattle.session.specs.declared.log.Log.{Log}
use Rattle.session.specs.declared.stage.Stage.TheVariants as stage
use Rattle.session.specs.declared.turned.Fault.{Fault}
use Rattle.session.specs.declared.turned.Fault.TheVariants as fault
use Rattle.session.specs.declared.turned.Turned.TheVariants as turned
use Rattle.session.proofs.BlockLaws.{BlockLaws}
use Rattle.session.proofs.Calling.{of_none, stops_here}
use Rattle.session.proofs.Deciding.{sets_none}
use Rattle.session.proofs.Going.{SharesOn, shares_read, turn_goes}
use Rattle.session.proofs.Numbers.{alone_entries, alone_log, alone_map, alone_numbers, alone_safe}
use Rattle.session.proofs.Courses.{course_with}
use Rattle.session.proofs.Staying.{still_merged}

-- whose turn it is has a place
turn_within : (placed : List Placed) (k : ℕ) (x : Placed) → slice_get (in_turn placed) k ≡ Some x → k < length placed
turn_within [] k x at = absurd (let no : None ≡ Some x = at in cc)
turn_within (y ∷ placed) k x at =
    let low = slice_get-lt (placed ++ y ∷ []) k x at in
    let more = length-append placed (y ∷ []) in
    omega (arith, low, more)

-- the run stands where the store stands, if the client's turn noted nothing and left all else
pub goes_nothing : {D : Type 0} (b : Ghosts D) (opening : State) (scripts : Scripts) (first k : ℕ) (scene : Scene) (c c' : Common D) → RunStands b opening scripts first scene c
    → SharesOn c c' [] c.map → c'.locks ≡ c.locks → Stands b opening scripts first (moved_to scene (b.content c'.store) scene.states scene.standing) c'.store (entries_of c ++ [])
    → LeavesOthers k scene (moved_to scene (b.content c'.store) scene.states scene.standing)
    → GoesTo b opening scripts first scene (moved_to scene (b.content c'.store) scene.states scene.standing) c c' k []
goes_nothing b opening scripts first k scene c c' st shares same stands others = record {
  entries = shares.entries;
  of_client = of_none scripts scene.standing k;
  leads = refl;
  stands = record {
    stands = subst (λ es. Stands b opening scripts first (moved_to scene (b.content c'.store) scene.states scene.standing) c'.store es) (sym shares.entries) stands;
    sure = shares.doubt ∙ st.sure;
    map = shares.map ∙ st.map;
    heads = shares.heads ∙ st.heads;
    seals = λ object. ap (λ (t : TableValue). seal_of t object) shares.table ∙ st.seals object;
    locks = subst (λ (ls : List Lock). AreLocksIn scene.standing ls) (sym same) st.locks;
  };
  others = others;
}

module _ {D : Type 0} (b : Ghosts D) (laws : b.tells → BlockLaws b) (script : ScriptValue) (c c' : Common D) (s : Course) (ready : IsReady b script c s) (one : drafts_of s ≡ 1) (flush more : Plan)
    (at j : ℕ) (bytes path : List ℕ) (place : slice_get flush.placed j ≡ Some (record { path = path; block = at })) (alone : StoreAlone b c c') where
  module _ (opening : State) (scripts : Scripts) (first : ℕ) (scene : Scene) (told : b.tells) (is : IsIn b (IsWritingBy flush) script c s opening scripts first scene) where
    abbrev m : IsMergedIn flush.written scripts scene script s
    m = is.mine.merged

    abbrev own : Client
    own = client_of scene.standing s.client

    its_block : IsHeldBy scene s.client at
    its_block = is.mine.flushing.mine j (record { path = path; block = at }) place

    pub settled : b.settled c.store at
    settled =
        let size = is.stands.stands.shared.map.size in
        let low = within scene is.stands.stands.shared.map s.client at its_block in
        is.stands.stands.settled at (omega (arith, size, low))

    notes : Notes scripts scene.standing s.client [] own
    notes = nothing_is_noted scripts scene.standing s.client

    abbrev after : Scene
    after = moved_to scene (b.content c'.store) scene.states scene.standing

    module _ (put : HasPut b c.store c'.store at bytes) where
      turn : IsWriteTurn b scripts s.client scene c.store c'.store [] own scene.states at bytes
      turn = record {
        client = m.committing.seated.client;
        notes = notes;
        links = sets_none scripts scene script s m.update m.work m.committing;
        size = refl;
        fixed = λ n x fixed. (λ e. e, λ e. e);
        held = is.stands.stands.shared.map.held;
        mine = its_block;
        put = put;
        moments = record { moments = refl; one = omega arith };
      }

      both : Stands b opening scripts first after c'.store (entries_of c ++ []) × Leads s.client scene after
      both = (laws told).writes opening scripts first s.client scene c.store c'.store (entries_of c) [] own scene.states at bytes is.stands.stands turn

      pub write_goes : GoesTo b opening scripts first scene after c c' s.client []
      write_goes = goes_nothing b opening scripts first s.client scene c c' is.stands (shares_read b c c' alone) (ap (λ (x : Common D). x.locks) alone.only) both.0 both.1.leaves

      pub write_own : GivesNext (view_of s) (base_of (root_of s) (object_of s) (serial_of s)) flush more at bytes
          → IsWritingOut scripts after script (course_with s s.held (stage.Writing more) (one_more s.turns)) more
      unfolding still_merged
      write_own gives = record {
        merged =
            still_merged scripts scene script s (b.content c'.store) scene.states [] own s.held (stage.Writing more) (one_more s.turns) flush.written more.written m notes both.1
            m.committing.is_open m.committing.seated.answers m.committing.taken m.committing.held
            (let was = m.turns in let next : more.written ≡ flush.written + 1 = ap (λ (p : Plan). p.written) gives.plan in omega (arith, was, next));
        flushing =
            flush_goes_on scene after s.client (view_of s) (base_of (root_of s) m.work.object (serial_of s)) flush more at bytes is.mine.flushing
            (subst (λ n. GivesNext (view_of s) (base_of (root_of s) n (serial_of s)) flush more at bytes) m.committing.plain.object gives)
            (λ n held. held) put.here (λ n ne. put.others n ne ∙ ap (λ (f : ℕ → Option (List ℕ)). f n) (sym is.stands.stands.content));
        top = subst (λ (p : Plan). StartsAtRoot p.placed) (sym gives.plan) is.mine.top;
        alone = ap (λ (p : Plan). p.members) gives.plan ∙ is.mine.alone;
        number = is.mine.number ∙ sym (ap (λ (p : Plan). length p.placed) gives.plan);
        within =
            let next : more.written ≡ flush.written + 1 = ap (λ (p : Plan). p.written) gives.plan in
            let size : length more.placed ≡ length flush.placed = ap (λ (p : Plan). length p.placed) gives.plan in
            let least = turn_within flush.placed flush.written _ gives.turn in
            omega (arith, next, size, least);
        unworn = is.mine.unworn;
      }

  -- ---- the page was written

  module _ (safe : IsSafeFlush (length c.map) s more) (gives : GivesNext (view_of s) (base_of (root_of s) (object_of s) (serial_of s)) flush more at bytes) where
    abbrev s' : Course
    s' = course_with s s.held (stage.Writing more) (one_more s.turns)

    written_safe : IsSafe (b.size c'.store) c'.map script s'
    written_safe = record {
      lines = ready.safe.lines;
      room = ready.safe.room;
      held = ap (held_count s.client) (alone_map b c c' alone) ∙ ready.safe.held;
      drafts = subst (λ n. AreSafeDrafts n s.drafts (drafts_of s)) (sym alone.size) ready.safe.drafts;
      stage = (
        one,
        subst (λ (map : List BlockState). IsSafeFlush (length map) s' more) (sym (alone_map b c c' alone)) (record { placed = safe.placed; top = safe.top; within = safe.within; serial = safe.serial }),
      );
    }

    written_call : WriteCall b c c' at bytes (Ok tt) → TurnCall b (IsWritingBy flush) script c c' s s' turned.Again
    written_call call = record {
      store = alone_safe b c c' alone ready.store;
      safe = written_safe;
      numbers = alone_numbers b c c' alone s.client;
      client = refl;
      entries = (let same = ap length (alone_entries b c c' alone) in omega (arith, same));
      lines = refl;
      counts = refl;
      rest = λ told was. call.rest told;
      counted = call.one;
      stopped = λ h is. (let wrong : turned.Again ≡ turned.Stopped (fault.Drive h) = is in absurd cc);
      turns = λ told opening scripts first scene is.
          let put : HasPut b c.store c'.store at bytes = call.put told (settled opening scripts first scene told is) in
          turn_goes b opening scripts first scene (after opening scripts first scene told is) c c' script s' s.client [] refl
          (write_goes opening scripts first scene told is put) (record { moments = refl; one = omega arith }) (write_own opening scripts first scene told is put gives);
    }

    pub written_by : (t : Course) → t ≡ s' → WriteCall b c c' at bytes (Ok tt) → TurnCall b (IsWritingBy flush) script c c' s t turned.Again
    written_by t is call = subst (λ (x : Course). TurnCall b (IsWritingBy flush) script c c' s x turned.Again) (sym is) (written_call call)

  -- ---- its write failed

  module _ (h : Half) (call : WriteCall b c c' at bytes (Err (fault.Drive h))) where
    failed_stops : (opening : State) (scripts : Scripts) (first : ℕ) (scene : Scene) → b.tells → IsIn b (IsWritingBy flush) script c s opening scripts first scene
        → HasStopped b opening scripts first c'.store c'.log.journal
    failed_stops opening scripts first scene told is =
        let fails = call.fails told (settled opening scripts first scene told is) in
        (laws told).write_faults opening scripts first s.client scene c.store c'.store (entries_of c) [] (client_of scene.standing s.client) scene.states at bytes c'.log.journal is.stands.stands
        (record {
          client = is.mine.merged.committing.seated.client;
          notes = nothing_is_noted scripts scene.standing s.client;
          links = sets_none scripts scene script s is.mine.merged.update is.mine.merged.work is.mine.merged.committing;
          map = record { size = refl; fixed = λ n x fixed. (λ e. e, λ e. e); held = is.stands.stands.shared.map.held };
          mine = its_block opening scripts first scene told is;
          size = alone.size;
          either = fails.either;
          later = fails.later;
          images = fails.images;
          moments = record { moments = refl; one = omega arith };
        })
        (alone_entries b c c' alone ∙ sym (append-nil (entries_of c))) (ap (λ (l : Log). l.journal.doubt) (alone_log b c c' alone) ∙ is.stands.sure)

    failed_because : StopsBecause b (IsWritingBy flush) script c c' s (turned.Stopped (fault.Drive h))
    failed_because k is = (let same : fault.Drive h ≡ fault.Drive k = cc in let f = call.failed k (ap Err same) in record { failed = f.failed; last = by f.last })
      where
        by : (b.last_fault c'.store k ≡ b.moment c'.store) ⊎ ((b.moment c'.store ≡ min (b.last_fault c'.store k + 1) (2 ^ 64 - 1)) × ⊥)
            → (b.last_fault c'.store k ≡ b.moment c'.store) ⊎ ((b.moment c'.store ≡ min (b.last_fault c'.store k + 1) (2 ^ 64 - 1)) × (b.tells → IsLost b (IsWritingBy flush) script c s))
        by (inl e) = inl e
        by (inr (e, none)) = absurd none

    pub failed_call : TurnCall b (IsWritingBy flush) script c c' s s (turned.Stopped (fault.Drive h))
    failed_call = record {
      store = alone_safe b c c' alone ready.store;
      safe = record {
        lines = ready.safe.lines;
        room = ready.safe.room;
        held = ap (held_count s.client) (alone_map b c c' alone) ∙ ready.safe.held;
        drafts = subst (λ n. AreSafeDrafts n s.drafts (drafts_of s)) (sym alone.size) ready.safe.drafts;
        stage = subst (λ (map : List BlockState). IsSafeStage (length map) s s.stage) (sym (alone_map b c c' alone)) ready.safe.stage;
      };
      numbers = alone_numbers b c c' alone s.client;
      client = refl;
      entries = (let same = ap length (alone_entries b c c' alone) in omega (arith, same));
      lines = refl;
      counts = tt;
      rest = tt;
      counted = inr call.one;
      stopped = failed_because;
      turns = λ told opening scripts first scene is. stops_here b opening scripts first scene c c' s.client (alone_entries b c c' alone) (failed_stops opening scripts first scene told is);
    }

pub failed_by : {D : Type 0} (b : Ghosts D) → (b.tells → BlockLaws b) → (script : ScriptValue) (c c' : Common D) (s : Course) → IsReady b script c s → drafts_of s ≡ 1 → (flush more : Plan)
    (at j : ℕ) (bytes path : List ℕ) → slice_get flush.placed j ≡ Some (record { path = path; block = at }) → (e : Fault) → WriteCall b c c' at bytes (Err e)
    → TurnCall b (IsWritingBy flush) script c c' s s (turned.Stopped e)
failed_by b laws script c c' s ready one flush more at j bytes path place e call = by call.drive
  where
    by : (h : Half) × (e ≡ fault.Drive h) → TurnCall b (IsWritingBy flush) script c c' s s (turned.Stopped e)
    by (h, is) =
        subst (λ x. TurnCall b (IsWritingBy flush) script c c' s s (turned.Stopped x)) (sym is)
        (failed_call b laws script c c' s ready one flush more at j bytes path place call.alone h (subst (λ x. WriteCall b c c' at bytes (Err x)) is call))
