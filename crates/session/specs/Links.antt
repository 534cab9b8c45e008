-- How a commit sets its link.
use Rattle.std.specs.Prelude.{◌≡◌, ℕ, ◌<◌, ◌^◌, [], length, None, Some, Result, Err, OnOk}
use Rattle.draft_model.specs.Flush.{block_of}
use Rattle.drives.specs.declared.device.Half.{Half}
use Rattle.ground_model.specs.Tests.{HasTested}
use Rattle.pair_store.specs.Blocks.{CountsOne}
use Rattle.pair_store.specs.declared.fault.PairFault.{PairFault}
use Rattle.pair_store.specs.declared.outcome.Tas.{Tas}
use Rattle.pair_store.specs.declared.store.Blocks.{Ghosts}
use Rattle.recovery.specs.Opening.{IsFailed}
use Rattle.script_text.specs.ScriptValue.{ScriptValue}
use Rattle.super_files.specs.Locks.{IsOpenTo}
use Rattle.version_chain.specs.Flush.{Plan}
use Rattle.session.specs.Blocks.{HasDraft}
use Rattle.session.specs.Calls.{IsReady}
use Rattle.session.specs.Reads.{StoreAlone, stopped_by}
use Rattle.session.specs.Safe.{IsSafeFlush, object_of, root_of}
use Rattle.session.specs.declared.common.Common.{Common}
use Rattle.session.specs.declared.course.Course.{Course}
use Rattle.session.specs.declared.turned.Fault.TheVariants.{Drive}

-- A client that is ready has a flush of its draft of which every page is written, the version page
-- into block `top`; and no other client has its file locked.
pub record IsToLink {D : Type 0} (b : Ghosts D) (script : ScriptValue) (c : Common D) (s : Course)
    (flush : Plan) (top : ℕ) : Type 0 where
  pub ready : IsReady b script c s
  pub draft : HasDraft s
  pub safe : IsSafeFlush (length c.map) s flush
  pub all : flush.written ≡ length flush.placed
  pub first : block_of flush.placed [] ≡ Some top
  pub named : 0 < top
  pub numbered : top < 2 ^ 28
  pub open_to : IsOpenTo s.client (object_of s) c.locks

-- It tried to set the link to that block, in the version page of its draft's base, and this came of
-- it. A half failed there only in its last call.
pub record HasTried {D : Type 0} (b : Ghosts D) (c c' : Common D) (s : Course) (top : ℕ)
    (tested : Result Tas PairFault) : Type 0 where
  pub alone : StoreAlone b c c'
  pub one : CountsOne (b.count c.store) (b.count c'.store)
  pub test : HasTested b c.store c'.store (root_of s) top tested
  pub rest : b.tells → b.rest c.store → OnOk tested (b.rest c'.store)
  pub failed : (h : Half) (fault : PairFault) → tested ≡ Err fault → stopped_by fault ≡ Drive h
      → IsFailed (b.faults c.store) (b.faults c'.store) (b.last_fault c'.store)
      (b.moment c'.store)
      (b.tells → b.settled c.store (root_of s) → b.content c.store (root_of s) ≡ None) h

-- Both, from one to the other of what the clients share.
pub record TriesToLink {D : Type 0} (b : Ghosts D) (script : ScriptValue) (c c' : Common D)
    (s : Course) (flush : Plan) (top : ℕ) (tested : Result Tas PairFault) : Type 0 where
  pub ready : IsToLink b script c s flush top
  pub tried : HasTried b c c' s top tested
