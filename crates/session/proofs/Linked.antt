-- What a try to set a link came to, in the scene where the run stood.
use Rattle.std.proofs.Common.{◌≡◌, ◌⊎◌, inl, inr, ℕ, ◌-◌, ◌+◌, ◌<◌, ◌^◌, List, [], ◌∷◌, length, map, Some, None, Result, Err, sym, ap, ◌∙◌, subst, arith, slice_get}
use Rattle.std.specs.Prelude.{min}
use Rattle.draft_model.specs.Flush.{Placed}
use Rattle.pair_store.specs.declared.fault.PairFault.{PairFault}
use Rattle.pair_store.specs.declared.outcome.Tas.{Tas}
use Rattle.pair_store.specs.declared.store.Blocks.{Ghosts}
use Rattle.script_text.specs.ScriptValue.{ScriptValue}
use Rattle.service_model.specs.Entries.{made_by}
use Rattle.service_model.specs.Standing.{Scripts, Work, client_of, locked_by, need, serial_of as last_serial}
use Rattle.service_model.specs.declared.named.Named.{Named}
use Rattle.store_changes.specs.Writes.{Content}
use Rattle.store_model.proofs.Edits.{none_some}
use Rattle.tree_model.specs.States.{State}
use Rattle.version_chain.specs.Flush.{Plan}
use Rattle.ground_model.specs.Commits.{IsWritten, MayCommit}
use Rattle.ground_model.specs.Scenes.{Scene, IsLinking}
use Rattle.ground_model.specs.Shows.{ShowsVersion}
use Rattle.ground_model.specs.Tests.{LinkCame}
use Rattle.ground_model.proofs.CommitFacts.{may_commit_is, renewed_one}
use Rattle.ground_model.proofs.Naming.{unlocked_is_unlinked}
use Rattle.ground_model.proofs.Shows.{base_shows}
use Rattle.ground_model.proofs.Testing.{merged_is_written}
use Rattle.session.specs.Blocks.{made_of}
use Rattle.session.specs.Calls.{IsIn, IsLost, StopsBecause}
use Rattle.session.specs.Links.{TriesToLink}
use Rattle.session.specs.Own.{IsMergedIn, IsWritingBy, IsWritingOut}
use Rattle.session.specs.Reads.{stopped_by}
use Rattle.session.specs.Safe.{object_of, root_of, serial_of, view_of}
use Rattle.session.specs.Shared.{entries_of}
use Rattle.session.specs.declared.common.Common.{Common}
use Rattle.session.specs.declared.course.Course.{Course}
use Rattle.session.specs.declared.turned.Fault.{Fault}
use Rattle.session.specs.declared.turned.Fault.TheVariants as fault
use Rattle.session.specs.declared.turned.Turned.TheVariants as turned
use Rattle.session.proofs.BlockLaws.{BlockLaws}
use Rattle.session.proofs.Deciding.{at_commit, one_written}
use Rattle.session.proofs.Refusing.{some_taken}
use Rattle.session.proofs.Staying.{unlocked_is}

-- ---- a flush that is whole

-- some block is held where a flush has a place
some_placed : (placed : List Placed) (x : Placed) → slice_get placed 0 ≡ Some x → 0 < length placed
some_placed [] x at = absurd cc
some_placed (y ∷ placed) x at = omega arith

module _ (scripts : Scripts) (scene : Scene) (script : ScriptValue) (s : Course) (flush : Plan) (w : IsWritingOut scripts scene script s flush) where
  abbrev m : IsMergedIn flush.written scripts scene script s
  m = w.merged

  some_held : 0 < s.held
  some_held = (let some = some_placed flush.placed _ w.top.1 in let number = w.number in omega (arith, some, number))

  -- the blocks that it holds are those that it needs
  pub held_need : s.held ≡ need m.update
  held_need = (some_taken s.held m.update (client_of scene.standing s.client).noted some_held m.committing.taken).1

  -- where the draft is merged with the last version,
  module _ (last : serial_of s ≡ last_serial scene.standing.state m.work.object) where
    -- the version that is made is the next one,
    pub made_is : made_by scene.standing.state m.update ≡ made_of s ∷ []
    made_is =
        ap (map (λ (x : Work). (let n : Named = record { object = x.object; serial = last_serial scene.standing.state x.object + 1 } in n)))
        (renewed_one m.update m.work (one_written scripts scene script s m.update m.work m.committing))
        ∙ ap (λ n. (record { object = m.work.object; serial = n + 1 }) ∷ []) (sym last) ∙ ap (λ n. (record { object = n; serial = serial_of s + 1 }) ∷ []) (sym m.committing.plain.object)

    -- and the update is written
    pub written_is : flush.written ≡ length flush.placed → IsWritten scene s.client m.work (root_of s) m.tree (view_of s) flush
    written_is all =
        merged_is_written scene s.client m.work (serial_of s) (root_of s) m.tree (view_of s) flush m.merged w.flushing all w.alone (m.committing.held ∙ w.number) last

    -- and it may be committed, where no other client has its file locked
    pub may_commit : locked_by scene.standing s.client m.work.object ≡ None → MayCommit scripts scene.standing s.client m.committing.line m.update m.work
    may_commit unlocked =
        may_commit_is scripts scene.standing s.client m.committing.line m.update m.work (at_commit scripts scene script s m.update m.work m.committing) m.committing.is_open
        (one_written scripts scene script s m.update m.work m.committing)
        (some_taken s.held m.update (client_of scene.standing s.client).noted some_held m.committing.taken).0 unlocked (subst (λ n. n < 2 ^ 64 - 1) last w.unworn)

-- ---- the try

module _ {D : Type 0} (b : Ghosts D) (laws : b.tells → BlockLaws b) (script : ScriptValue) (c c1 : Common D) (s : Course) (flush : Plan) (top : ℕ) (tested : Result Tas PairFault)
    (t : TriesToLink b script c c1 s flush top tested) where
  module _ (opening : State) (scripts : Scripts) (first : ℕ) (scene : Scene) (is : IsIn b (IsWritingBy flush) script c s opening scripts first scene) where
    abbrev its : IsMergedIn flush.written scripts scene script s
    its = is.mine.merged

    pub unlocked_there : locked_by scene.standing s.client its.work.object ≡ None
    unlocked_there =
        ap (locked_by scene.standing s.client) (sym its.committing.plain.object) ∙ unlocked_is scene.standing s.client (object_of s) c.locks is.stands.locks t.ready.open_to

    pub unlinked_there : IsLinking scene.standing its.work.object → ⊥
    unlinked_there = unlocked_is_unlinked scene.standing s.client its.update its.work.object its.committing.is_open its.committing.plain.plain unlocked_there

    pub came_there : b.tells → LinkCame b scene c.store c1.store its.work.object (serial_of s) (root_of s) top tested
    came_there told =
        (laws told).came opening scripts first scene c.store c1.store (entries_of c) its.work.object (serial_of s) (root_of s) top its.tree tested is.stands.stands its.merged.base unlinked_there
        t.ready.named t.ready.numbered t.tried.test

    -- the page of the draft's base is there
    shown : ShowsVersion scene its.work.object (serial_of s) (root_of s)
    shown = base_shows scene its.work.object (serial_of s) (root_of s) its.tree is.stands.stands.shared its.merged.base

    pub never_empty : b.tells → (b.settled c.store (root_of s) → b.content c.store (root_of s) ≡ None) → ⊥
    never_empty told empty =
        none_some (sym (empty (is.stands.stands.settled (root_of s) shown.lies.high))
        ∙ ap (λ (f : Content). f (root_of s)) (sym is.stands.stands.content) ∙ shown.holds)

  -- a half failed there in its last call
  pub tried_because : (e : PairFault) → tested ≡ Err e → StopsBecause b (IsWritingBy flush) script c c1 s (turned.Stopped (stopped_by e))
  tried_because e is h by = (let same : stopped_by e ≡ fault.Drive h = stopped_is (stopped_by e) (fault.Drive h) by in let f = t.tried.failed h e is same in record { failed = f.failed; last = last f.last })
    where
      stopped_is : (x y : Fault) → turned.Stopped x ≡ turned.Stopped y → x ≡ y
      stopped_is x y same = cc

      last : (b.last_fault c1.store h ≡ b.moment c1.store)
          ⊎ ((b.moment c1.store ≡ min (b.last_fault c1.store h + 1) (2 ^ 64 - 1)) × (b.tells → b.settled c.store (root_of s) → b.content c.store (root_of s) ≡ None))
          → (b.last_fault c1.store h ≡ b.moment c1.store)
          ⊎ ((b.moment c1.store ≡ min (b.last_fault c1.store h + 1) (2 ^ 64 - 1)) × (b.tells → IsLost b (IsWritingBy flush) script c s))
      last (inl now) = inl now
      last (inr (then, empty)) = inr (then, λ told opening scripts first scene is. never_empty opening scripts first scene is told (empty told))
