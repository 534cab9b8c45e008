-- What is said of each call: over halves and a sink as they were, and what came of it.
use Rattle.std.specs.Prelude.{◌≡◌, ℕ, ◌≤◌, List, Option}
use Rattle.afs_base.specs.Causes.{Rose}
use Rattle.drives.specs.declared.device.Drives.{Ghosts as Device}
use Rattle.drives.specs.declared.device.Half.{Half}
use Rattle.drives.specs.Changes.{Changes}
use Rattle.endings.specs.declared.ended.Ended.{Ended}
use Rattle.endings.specs.declared.status.Status.TheVariants.{Memory}
use Rattle.endings.specs.Commands.{CommandEnds, NothingFailed}
use Rattle.endings.specs.Faults.{HalfFailed}
use Rattle.endings.specs.Noted.{IsNothingNoted}
use Rattle.endings.specs.Status.{IsDone}
use Rattle.new_store.specs.declared.store.NewStore.{NewStore}
use Rattle.new_store.specs.Formatting.{SameBeyond}
use Rattle.new_store.specs.Fresh.{OldNoneOrNew}
use Rattle.new_store.specs.Layout.{HasNewStore}
use Rattle.pair_store.specs.Content.{ContentsLeft}
use Rattle.pair_store.specs.Faults.{IsStopped, LaterFaults}
use Rattle.script_text.specs.declared.sink.Sink.{Ghosts as Printer}
use Rattle.store_model.specs.Found.{found}
use Rattle.tree_model.specs.States.{State}
use Rattle.store_commands.specs.Formatting.{FormatEnds, IsMade}
use Rattle.store_commands.specs.Opening.{AreAtRest, HasStopped, OnlyOpened, contents_on, files_on}

-- A call that opens a store and prints a text of the state that is found.
pub record TextCall {V K : Type 0} (v : Device V) (k : Printer K) (text : State → List ℕ) (drives : V) (out : K) (ended : Ended V) (out_after : K) : Type 0 where
  pub ends : CommandEnds v.tells (files_on v drives) (HasStopped v drives ended.drives) text
      (k.written out) (k.written out_after) (Rose (k.faults out) (k.faults out_after)) ended.status
  -- where there is a store and nothing failed all is done, but for want of memory
  pub complete : v.tells → NothingFailed (files_on v drives) (λ h. HalfFailed v.moment v.faults h drives ended.drives)
      (Rose (k.faults out) (k.faults out_after)) → IsDone ended.status
  pub kept : OnlyOpened v drives ended.drives
  -- where nothing was pending and no half failed, nothing is
  pub rest : v.tells → AreAtRest v drives → ((h : Half) → HalfFailed v.moment v.faults h drives ended.drives → ⊥) → AreAtRest v ended.drives
  pub noted : IsNothingNoted ended.journal
  pub sink_later : k.faults out ≤ k.faults out_after

-- A call that makes a new store.
pub record FormatCall {V K : Type 0} (v : Device V) (k : Printer K) (store : NewStore) (drives : V) (out : K) (ended : Ended V) (out_after : K) : Type 0 where
  pub ends : FormatEnds store v.tells (found (contents_on v ended.drives) (v.size drives))
      (IsStopped (v.faults drives) (v.faults ended.drives) (v.last_fault ended.drives) (v.moment ended.drives))
      (k.written out) (k.written out_after) (Rose (k.faults out) (k.faults out_after)) ended.status
  -- where nothing failed all is done, but for want of memory
  pub complete : ((h : Half) → HalfFailed v.moment v.faults h drives ended.drives → ⊥) → (Rose (k.faults out) (k.faults out_after) → ⊥) → IsDone ended.status
  -- where nothing is pending as the call begins, each image has the files that were there, none, or the new ones
  pub stands : v.tells → AreAtRest v drives → Changes v.moment (ContentsLeft v.may_leave) drives ended.drives (OldNoneOrNew store (v.size drives))
  pub beyond : v.tells → SameBeyond store.files (contents_on v drives) (contents_on v ended.drives)
  -- a store that was made is there after every crash, and nothing is pending
  pub lasts : v.tells → IsMade ended.status → (f : ℕ → Option (List ℕ)) → ContentsLeft v.may_leave ended.drives (v.moment ended.drives) f → HasNewStore store f
  pub rest : v.tells → IsMade ended.status → AreAtRest v ended.drives
  pub unmade : ended.status ≡ Memory → ended.drives ≡ drives
  pub noted : IsNothingNoted ended.journal
  pub size_same : v.size ended.drives ≡ v.size drives
  pub later : LaterFaults (v.faults drives) (v.faults ended.drives) (v.last_fault drives) (v.last_fault ended.drives)
  pub sink_later : k.faults out ≤ k.faults out_after

-- The same, by the numbers of the new store.
pub record FormatsNew {V K : Type 0} (v : Device V) (k : Printer K) (key files blocks : ℕ) (drives : V) (out : K) (ended : Ended V) (out_after : K) : Type 0 where
  pub store : NewStore
  pub key_same : store.key ≡ key
  pub files_same : store.files ≡ files
  pub blocks_same : store.blocks ≡ blocks
  pub call : FormatCall v k store drives out ended out_after
