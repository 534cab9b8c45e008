-- A commit tries to set its link.
use Rattle.std.proofs.Common.{◌≡◌, ℕ, ◌<◌, List, [], ◌∷◌, Some, None, Result, Ok, Err, refl, sym, ap, ◌∙◌, subst, arith, slice_get}
use Rattle.std.specs.Prelude.{IsErrOf, OnOk}
use Rattle.draft_model.specs.Flush.{Placed, block_of}
use Rattle.drives.specs.declared.device.Half.{Half}
use Rattle.page_codec.specs.declared.why.Why.{Why}
use Rattle.pair_store.specs.Answers.{IsSet, LeftAlone}
use Rattle.pair_store.specs.Blocks.{CountsOne}
use Rattle.pair_store.specs.Faults.{IsStopped, IsUnread, LaterFaults}
use Rattle.pair_store.specs.declared.fault.PairFault.{PairFault}
use Rattle.pair_store.specs.declared.fault.PairFault.TheVariants as pair
use Rattle.pair_store.specs.declared.outcome.Tas.{Tas}
use Rattle.pair_store.specs.declared.outcome.Tas.TheVariants.{Set, Taken}
use Rattle.pair_store.specs.declared.store.Blocks.{Ghosts}
use Rattle.recovery.specs.Opening.{IsFailed}
use Rattle.recovery.proofs.Mends.{stopped_unread}
use Rattle.recovery.proofs.Rolls.{unread_failed}
use Rattle.script_text.specs.ScriptValue.{ScriptValue}
use Rattle.service_model.specs.Standing.{Scripts}
use Rattle.tree_model.specs.States.{State}
use Rattle.version_chain.specs.Flush.{Plan}
use Rattle.ground_model.specs.Own.{IsHeldBy}
use Rattle.ground_model.specs.Scenes.{Scene}
use Rattle.ground_model.specs.Tests.{HasTested}
use Rattle.ground_model.proofs.HeldWrites.{held_is_free}
use Rattle.store_model.proofs.Edits.{some_is}
use Rattle.session.specs.Calls.{IsIn, IsReady, TurnCall}
use Rattle.session.specs.Links.{IsToLink, TriesToLink}
use Rattle.session.specs.Own.{IsWritingBy}
use Rattle.session.specs.Reads.{stopped_by}
use Rattle.session.specs.Safe.{root_of}
use Rattle.session.specs.declared.common.Common.{Common}
use Rattle.session.specs.declared.course.Course.{Course}
use Rattle.session.specs.declared.turned.Fault.TheVariants as fault
use Rattle.session.specs.declared.turned.Turned.TheVariants as turned
use Rattle.session.proofs.Never.{never_call}

-- the block of `/` is that of the first place
pub top_is : (placed : List Placed) (top block : ℕ) → slice_get placed 0 ≡ Some (record { path = []; block = block }) → block_of placed [] ≡ Some top → top ≡ block
top_is [] top block at is = absurd cc
top_is (x ∷ placed) top block at is =
    let same : x ≡ (record { path = []; block = block }) = cc in
    let there : block_of ((record { path = []; block = block }) ∷ placed) [] ≡ Some top = subst (λ (y : Placed). block_of (y ∷ placed) [] ≡ Some top) same is in
    sym (some_is there)

-- ---- block 0

module _ {D : Type 0} (b : Ghosts D) (script : ScriptValue) (c : Common D) (s : Course) (flush : Plan) (top : ℕ) (first : block_of flush.placed [] ≡ Some top) where
  module _ (opening : State) (scripts : Scripts) (first_moment : ℕ) (scene : Scene) (is : IsIn b (IsWritingBy flush) script c s opening scripts first_moment scene) where
    -- the block of the version page is held
    pub top_held : IsHeldBy scene s.client top
    top_held =
        subst (λ n. IsHeldBy scene s.client n) (sym (top_is flush.placed top is.mine.top.0 is.mine.top.1 first))
        (is.mine.flushing.mine 0 (record { path = []; block = is.mine.top.0 }) is.mine.top.1)

    pub top_low : 0 < top
    top_low = (held_is_free scene is.stands.stands.shared.map s.client top top_held).low

  -- so it is not block 0
  pub zero_call : (why : Why) → IsReady b script c s → top ≡ 0 → TurnCall b (IsWritingBy flush) script c c s s (turned.Stopped (fault.Bad top why))
  zero_call why ready zero =
      never_call b (IsWritingBy flush) script c s top why ready (λ told opening scripts first_moment scene is.
      let low = top_low opening scripts first_moment scene is in omega (arith, low, zero))

-- ---- what came of it

module _ {D : Type 0} (b : Ghosts D) (old new : D) (n top : ℕ) (tested : Result Tas PairFault)
    (unread : (h : Half) → IsErrOf tested (pair.ReadFault h)
    → IsUnread (b.faults old) (b.faults new) (b.last_fault new) (b.moment new) (b.tells → b.settled old n → b.content old n ≡ None) h)
    (stopped : (h : Half) → IsErrOf tested (pair.WriteFault h) → IsStopped (b.faults old) (b.faults new) (b.last_fault new) (b.moment new) h) where
  abbrev Empty : Type 0
  Empty = b.tells → b.settled old n → b.content old n ≡ None

  abbrev Fails : Half → Type 0
  Fails h = IsFailed (b.faults old) (b.faults new) (b.last_fault new) (b.moment new) Empty h

  pub fails_by : (h : Half) (e : PairFault) → tested ≡ Err e → stopped_by e ≡ fault.Drive h → Fails h
  fails_by h (pair.ReadFault k) is by =
      let same : k ≡ h = cc in
      unread_failed (b.faults old) (b.faults new) (b.last_fault new) (b.moment new) Empty Empty h (λ x. x) (unread h (is ∙ ap (λ i. Err (pair.ReadFault i)) same))
  fails_by h (pair.WriteFault k) is by =
      let same : k ≡ h = cc in
      unread_failed (b.faults old) (b.faults new) (b.last_fault new) (b.moment new) Empty Empty h (λ x. x)
      (stopped_unread (b.faults old) (b.faults new) (b.last_fault new) (b.moment new) Empty h (stopped h (is ∙ ap (λ i. Err (pair.WriteFault i)) same)))
  fails_by h (pair.BothClosed m) is by = absurd cc
  fails_by h (pair.BadPage m why) is by = absurd cc

-- nothing is pending after a try that came to an outcome, where nothing was
pub tried_rest : {D : Type 0} (b : Ghosts D) (old new : D) (tested : Result Tas PairFault) → (b.tells → IsSet tested → b.rest new) → (b.tells → LeftAlone tested → b.rest old → b.rest new)
    → b.tells → b.rest old → OnOk tested (b.rest new)
tried_rest b old new (Ok Set) set kept told was = set told tt
tried_rest b old new (Ok (Taken by)) set kept told was = kept told tt was
tried_rest b old new (Err e) set kept told was = tt

-- the try, of a block that is the draft's base
pub tries_by : {D : Type 0} (b : Ghosts D) (script : ScriptValue) (c : Common D) (d : D) (s : Course) (flush : Plan) (top n : ℕ) (tested : Result Tas PairFault) → IsToLink b script c s flush top
    → n ≡ root_of s → HasTested b c.store d n top tested → (b.tells → b.rest c.store → OnOk tested (b.rest d)) → CountsOne (b.count c.store) (b.count d) → LaterFaults (b.faults c.store) (b.faults d) (b.last_fault c.store) (b.last_fault d)
    → ((h : Half) (e : PairFault) → tested ≡ Err e → stopped_by e ≡ fault.Drive h
    → IsFailed (b.faults c.store) (b.faults d) (b.last_fault d) (b.moment d) (b.tells → b.settled c.store n → b.content c.store n ≡ None) h)
    → TriesToLink b script c (record c { store = d }) s flush top tested
tries_by b script c d s flush top n tested ready base test rest one later failed =
    record {
      ready = ready;
      tried = record {
        alone = record { only = refl; size = test.size; faults = λ h. (later h).0; last = λ h. (later h).1 };
        one = one;
        test = subst (λ m. HasTested b c.store d m top tested) base test;
        rest = rest;
        failed = subst (λ m. (h : Half) (e : PairFault) → tested ≡ Err e → stopped_by e ≡ fault.Drive h
            → IsFailed (b.faults c.store) (b.faults d) (b.last_fault d) (b.moment d) (b.tells → b.settled c.store m → b.content c.store m ≡ None) h) base failed;
      };
    }
