-- What an opening of two halves leaves of them, and what it answers.
use Rattle.std.specs.Prelude.{◌≡◌, ℕ, ◌<◌, ◌≤◌, List, [], Option, Some, length, slice_get, Result, Ok, Err, IfOk, IfErr}
use Rattle.afs_base.specs.declared.head.Head.{Head}
use Rattle.drives.specs.declared.device.Drives.{Ghosts as Device}
use Rattle.drives.specs.declared.device.Half.{Half}
use Rattle.drives.specs.Changes.{Changes, IsAtRest, halves_seen}
use Rattle.pair_store.specs.Content.{ContentsLeft, IsSettled, IsSettledAlways, content_of}
use Rattle.pair_store.specs.declared.on_halves.Pair.{Pair}
use Rattle.pair_store.specs.declared.store.Blocks.{Ghosts}
use Rattle.store_model.specs.Found.{LaidStore, laid, found}
use Rattle.store_check.specs.Results.{Outcome}
use Rattle.recovery.specs.declared.opened.Opened.{Opened}
use Rattle.recovery.specs.declared.opened.Unopened.{Unopened}
use Rattle.recovery.specs.declared.refused.OpenRefused.{OpenRefused}
use Rattle.recovery.specs.declared.refused.OpenRefused.TheVariants.{ReadFault, WriteFault}
use Rattle.recovery.specs.Mended.{SameFrom, blocks_in_table, table_in}
use Rattle.recovery.specs.Opening.{IsBad, IsFailed, IsNoStore, IsOpened, IsOpening, SameBeside, SameFound, drives_of, over_of}
use Rattle.recovery.specs.Rolling.{IsUnwritten}

-- what reads of two halves give
abbrev pub contents : {V : Type 0} → Device V → V → ℕ → Option (List ℕ)
contents v d = content_of (halves_seen v.seen d)

-- the store that is found on two halves as it lies
abbrev pub laid_on : {V : Type 0} → Device V → V → Outcome LaidStore
laid_on v d = laid (contents v d) (v.size d) []

-- nothing is pending on two halves
abbrev pub AtRest : {V : Type 0} → Device V → V → Type 0
AtRest v d = IsAtRest v.seen v.moment v.may_leave d

-- how many blocks the table tells of, or one where there is none
abbrev pub blocks_told : {V : Type 0} → Device V → V → ℕ
blocks_told v d = blocks_in_table (table_in (contents v d 0))

-- whether two halves were opened, and why not
abbrev pub why_not : {V : Type 0} → Result (Opened V) (Unopened V) → Result (Unit {0}) OpenRefused
why_not (Ok o) = Ok tt
why_not (Err e) = Err e.why

-- What an opening leaves of two halves, and what it answers; p is a pair of them as a store of
-- blocks.
pub record OpensHalves {V : Type 0} (v : Device V) (p : Ghosts (Pair V)) (before : V)
    (result : Result (Opened V) (Unopened V)) : Type 0 where
  -- of what a crash may leave, where nothing is pending as the call begins
  pub images : v.tells → AtRest v before → Changes v.moment (ContentsLeft v.may_leave) before
      (drives_of result) (SameFound (v.size before))
  pub images_others : v.tells → AtRest v before
      → Changes v.moment (ContentsLeft v.may_leave) before (drives_of result)
      (SameBeside (laid_on v before))
  pub settled_always : v.tells → AtRest v before
      → IfOk result (λ o. (n : ℕ) → n < length o.map
      → IsSettledAlways v.may_leave o.pair.drives (v.moment o.pair.drives) n)
  pub opening : v.tells → AtRest v before → IfOk result (λ o. IsOpening p (over_of o))
  pub rest : v.tells → AtRest v before → IsUnwritten (why_not result) → AtRest v (drives_of result)
  -- whatever is pending
  pub same : v.tells → SameFound (v.size before) (contents v before) (contents v (drives_of result))
  pub others : v.tells → SameBeside (laid_on v before) (contents v before)
      (contents v (drives_of result))
  pub images_beyond : v.tells → Changes v.moment (ContentsLeft v.may_leave) before
      (drives_of result) (SameFrom (blocks_told v before))
  pub opened : v.tells → IfOk result (λ o. IsOpened (contents v o.pair.drives)
      (v.size before) o.table o.map o.heads.items)
  pub bad : v.tells → IfErr result (λ e. IsBad (found (contents v before) (v.size before)) e.why)
  pub unread : (h : Half) → IfErr result (λ e. e.why ≡ ReadFault h
      → IsFailed (v.faults before) (v.faults e.drives) (v.last_fault e.drives) (v.moment e.drives)
      (v.tells → IsNoStore (contents v before) (v.size before)) h)
  pub unwritten : (h : Half) → IfErr result (λ e. e.why ≡ WriteFault h
      → IsFailed (v.faults before) (v.faults e.drives) (v.last_fault e.drives)
      (v.moment e.drives) ⊥ h)
  pub settled : v.tells → IfOk result (λ o. (n : ℕ) → n < length o.map
      → IsSettled n (halves_seen v.seen o.pair.drives))
  -- whether or not the contents are told
  pub fits : IfOk result (λ o. length o.map ≤ v.size before)
  pub within : IfOk result (λ o. (k : ℕ) (head : Head)
      → slice_get o.heads.items k ≡ Some (Some head) → head.block < v.size before)
  pub even : IfOk result (λ o. length o.heads.items ≡ length o.table.entries)
  pub since : IfOk result (λ o. o.since ≡ v.moment before)
  pub later : (h : Half) → (v.faults before h ≤ v.faults (drives_of result) h)
      × (v.last_fault before h ≤ v.last_fault (drives_of result) h)
  pub size : v.size (drives_of result) ≡ v.size before
