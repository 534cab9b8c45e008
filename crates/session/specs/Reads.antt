-- What a read and a write of a block come to, for a turn.
use Rattle.std.specs.Prelude.{◌≡◌, ◌⊎◌, ℕ, ◌<◌, ◌≤◌, List, Ok, None, Some, Result}
use Rattle.std.specs.Prelude.{OnOk, OnErr, IfOk, IfErr, IsErrOf}
use Rattle.drives.specs.Changes.{Changes}
use Rattle.drives.specs.declared.device.Half.{Half}
use Rattle.ground_model.specs.Runs.{HasPut, IsRead}
use Rattle.page_codec.specs.Causes.{page_of, version_of}
use Rattle.page_codec.specs.Values.{PageValue, VersionValue}
use Rattle.page_codec.specs.declared.why.Why.TheVariants.{Closed}
use Rattle.pair_store.specs.Blocks.{CountsOne, OldOrNew}
use Rattle.pair_store.specs.declared.fault.PairFault.{PairFault}
use Rattle.pair_store.specs.declared.fault.PairFault.TheVariants.{ReadFault, WriteFault}
use Rattle.pair_store.specs.declared.fault.PairFault.TheVariants.{BothClosed, BadPage}
use Rattle.pair_store.specs.declared.store.Blocks.{Ghosts}
use Rattle.recovery.specs.Opening.{IsFailed}
use Rattle.session.specs.declared.common.Common.{Common}
use Rattle.session.specs.declared.turned.Fault.{Fault}
use Rattle.session.specs.declared.turned.Fault.TheVariants.{Drive, Bad}

-- Why a call on a block stops the run.
abbrev pub stopped_by : PairFault → Fault
stopped_by (ReadFault half) = Drive half
stopped_by (WriteFault half) = Drive half
stopped_by (BothClosed block) = Bad block Closed
stopped_by (BadPage block why) = Bad block why

-- The store alone changed, and has as many blocks; no fault is forgotten.
pub record StoreAlone {D : Type 0} (b : Ghosts D) (c c' : Common D) : Type 0 where
  pub only : c' ≡ record c { store = c'.store }
  pub size : b.size c'.store ≡ b.size c.store
  pub faults : (h : Half) → b.faults c.store h ≤ b.faults c'.store h
  pub last : (h : Half) → b.last_fault c.store h ≤ b.last_fault c'.store h

-- ---- reads

-- Any bytes give this.
abbrev pub IsAnything : List ℕ → Unit {0} → Type 0
IsAnything bytes x = Unit {0}

-- The bytes of a block are a page below `/` with this level, or a version page.
abbrev pub IsPageOf : ℕ → List ℕ → PageValue → Type 0
IsPageOf level bytes page = (page_of bytes ≡ Ok page) × (page.level ≡ level)

abbrev pub IsVersionOf : List ℕ → VersionValue → Type 0
IsVersionOf bytes version = version_of bytes ≡ Ok version

-- Block n, which has to be one of the store, was read as something that its bytes give.
pub record ReadCall {D T : Type 0} (b : Ghosts D) (Gives : List ℕ → T → Type 0) (c c' : Common D)
    (n : ℕ) (result : Result T Fault) : Type 0 where
  pub alone : StoreAlone b c c'
  pub within : OnOk result (n < b.size c.store)
  pub one : OnOk result (CountsOne (b.count c.store) (b.count c'.store))
  pub most : (b.count c'.store ≡ b.count c.store)
      ⊎ CountsOne (b.count c.store) (b.count c'.store)
  pub read : b.tells → IsRead b c.store c'.store
  pub rest : b.tells → b.rest c.store → b.rest c'.store
  pub gives : b.tells → b.settled c.store n → (bytes : List ℕ)
      → b.content c.store n ≡ Some bytes → IfOk result (Gives bytes)
  pub good : b.tells → b.settled c.store n → n < b.size c.store → (bytes : List ℕ) (x : T)
      → b.content c.store n ≡ Some bytes → Gives bytes x
      → IfErr result (λ e. (h : Half) × (e ≡ Drive h))
  pub failed : (h : Half) → IsErrOf result (Drive h)
      → IsFailed (b.faults c.store) (b.faults c'.store) (b.last_fault c'.store)
      (b.moment c'.store) (b.tells → b.settled c.store n → b.content c.store n ≡ None) h

-- ---- writes

-- The write of a block failed: it has its old bytes or the new ones, and so it is in what a crash
-- may leave, where the block was settled in every image.
pub record FailsToPut {D : Type 0} (b : Ghosts D) (old new : D) (block : ℕ)
    (bytes : List ℕ) : Type 0 where
  pub either : OldOrNew block bytes (b.content old) (b.content new)
  pub later : b.moment old ≤ b.moment new
  pub images : b.settled_always old block
      → Changes b.moment b.may_leave old new (OldOrNew block bytes)

-- Block n was written.
pub record WriteCall {D : Type 0} (b : Ghosts D) (c c' : Common D) (n : ℕ) (bytes : List ℕ)
    (result : Result (Unit {0}) Fault) : Type 0 where
  pub alone : StoreAlone b c c'
  pub one : CountsOne (b.count c.store) (b.count c'.store)
  pub put : b.tells → b.settled c.store n
      → OnOk result (HasPut b c.store c'.store n bytes)
  pub fails : b.tells → b.settled c.store n
      → OnErr result (FailsToPut b c.store c'.store n bytes)
  pub rest : b.tells → OnOk result (b.rest c'.store)
  pub drive : IfErr result (λ e. (h : Half) × (e ≡ Drive h))
  pub failed : (h : Half) → IsErrOf result (Drive h)
      → IsFailed (b.faults c.store) (b.faults c'.store) (b.last_fault c'.store)
      (b.moment c'.store) ⊥ h
