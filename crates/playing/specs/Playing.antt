-- How the parts of a call that plays scripts end: over a run, and over halves that were opened.
use Rattle.std.specs.Prelude.{◌≡◌, ◌⊎◌, ℕ, ◌≤◌, ◌++◌, List, Option, Some}
use Rattle.std.specs.Io.KnownBytes.{Appends}
use Rattle.afs_base.specs.Causes.{Rose}
use Rattle.drives.specs.declared.device.Drives.{Ghosts as Device}
use Rattle.drives.specs.declared.device.Half.{Half}
use Rattle.drives.specs.Faults.{HasFailed}
use Rattle.endings.specs.declared.ended.Ended.{Ended}
use Rattle.endings.specs.Faults.{HalfFailed}
use Rattle.endings.specs.Noted.{IsNothingNoted}
use Rattle.endings.specs.Printing.{Prints}
use Rattle.endings.specs.Status.{IsDone}
use Rattle.endings.specs.Texts.{drive_text, memory_text}
use Rattle.endings.specs.declared.status.Status.{Status}
use Rattle.endings.specs.declared.status.Status.TheVariants.{Success, Usage, BadScript, DriveFault, BadStore, SinkFault, SourceFault, Memory}
use Rattle.pair_store.specs.declared.on_halves.Pair.{Pair}
use Rattle.pair_store.specs.declared.store.Blocks.{Ghosts}
use Rattle.pair_store.specs.Faults.{LaterFaults}
use Rattle.pair_store.specs.Pairs.{drives_of}
use Rattle.recovery.specs.Opening.{IsFailed}
use Rattle.recovery.specs.declared.opened.OpenedOver.{OpenedOver}
use Rattle.script_text.specs.declared.sink.Sink.{Ghosts as Printer}
use Rattle.script_text.specs.Front.{AppendsFront}
use Rattle.service_model.specs.declared.journal.Journal.{Journal}
use Rattle.service_model.specs.Print.{answers_printed, printed}
use Rattle.service_model.specs.Standing.{Scripts}
use Rattle.session.specs.declared.turned.Fault.TheVariants.{Drive}
use Rattle.tree_model.specs.States.{State}
use Rattle.ground.specs.Making.{HasBegun}
use Rattle.ground.specs.Promises.{IsPromised}
use Rattle.ground.specs.Runs.{GroundValue, journal_in, scripts_in, store_in}
use Rattle.ground.specs.Turning.{IsRunOf, IsSameRun, standing_of}
use Rattle.playing.specs.Runs.{IsWholeRun}
use Rattle.playing.specs.Statuses.{IsBeforeOpening}

-- ---- over a run

-- A run that began as g came to g', whose halves and journal these are.
pub record IsEndOf {V : Type 0} (p : Ghosts (Pair V)) (g : GroundValue (Pair V)) (opening : State)
    (first : ℕ) (drives : V) (journal : Journal) (g' : GroundValue (Pair V)) : Type 0 where
  pub same : IsSameRun p g g'
  pub promised : IsPromised p opening first g'
  pub drives_are : drives_of (store_in g') ≡ drives
  pub journal_is : journal_in g' ≡ journal

-- A half failed, and stopped the run.
pub record IsStoppedRun {V : Type 0} (v : Device V) (g g' : GroundValue (Pair V))
    (half : Half) : Type 0 where
  pub fault : g'.fault ≡ Some (Drive half)
  pub failed : IsFailed (v.faults (drives_of (store_in g))) (v.faults (drives_of (store_in g')))
      (v.last_fault (drives_of (store_in g'))) (v.moment (drives_of (store_in g'))) ⊥ half

-- How the end of the run is told, by the status.
abbrev pub EndTells : {V : Type 0} → Device V → List ℕ → State → GroundValue (Pair V)
    → GroundValue (Pair V) → Option (List ℕ) → Option (List ℕ) → Type 0 → Status → Type 0
EndTells v words opening g g' old new sink_rose Success =
    IsWholeRun words opening g'
    × Appends old new (printed (scripts_in g) (standing_of opening g'))
EndTells v words opening g g' old new sink_rose Usage = ⊥
EndTells v words opening g g' old new sink_rose BadScript = ⊥
EndTells v words opening g g' old new sink_rose DriveFault =
    (half : Half) × IsStoppedRun v g g' half × Prints old new sink_rose
    (answers_printed (scripts_in g) (standing_of opening g') ++ drive_text half)
EndTells v words opening g g' old new sink_rose BadStore = ⊥
EndTells v words opening g g' old new sink_rose SinkFault =
    IsWholeRun words opening g'
    × AppendsFront old new (printed (scripts_in g) (standing_of opening g')) × sink_rose
EndTells v words opening g g' old new sink_rose SourceFault = ⊥
EndTells v words opening g g' old new sink_rose Memory =
    (IsWholeRun words opening g' ⊎ ((half : Half) × IsStoppedRun v g g' half))
    × Prints old new sink_rose memory_text

-- A call that plays a run which has made no turn.
pub record GroundCall {V K : Type 0} (v : Device V) (p : Ghosts (Pair V)) (k : Printer K)
    (words : List ℕ) (g : GroundValue (Pair V)) (out : K) (ended : Ended V)
    (out' : K) : Type 0 where
  pub ends : (opening : State) (run : IsRunOf p g opening) → (g' : GroundValue (Pair V))
      × IsEndOf p g opening run.first ended.drives ended.journal g'
      × EndTells v words opening g g' (k.written out) (k.written out')
      (Rose (k.faults out) (k.faults out')) ended.status
  pub rest : (opening : State) → IsRunOf p g opening → p.rest (store_in g)
      → ((h : Half) → HalfFailed v.moment v.faults h (drives_of (store_in g)) ended.drives → ⊥)
      → (store : Pair V) × (drives_of store ≡ ended.drives) × p.rest store
  pub complete : (opening : State) → IsRunOf p g opening
      → ((h : Half) → HalfFailed v.moment v.faults h (drives_of (store_in g)) ended.drives → ⊥)
      → (Rose (k.faults out) (k.faults out') → ⊥) → IsDone ended.status
  pub opened : IsBeforeOpening ended.status → ⊥
  pub driven : ended.status ≡ DriveFault
      → (h : Half) × HasFailed (v.faults (drives_of (store_in g)) h) (v.faults ended.drives h)
      (v.last_fault ended.drives h)
  pub size : v.size ended.drives ≡ v.size (drives_of (store_in g))
  pub later : LaterFaults (v.faults (drives_of (store_in g))) (v.faults ended.drives)
      (v.last_fault (drives_of (store_in g))) (v.last_fault ended.drives)
  pub sink_later : k.faults out ≤ k.faults out'

-- ---- over halves that were opened

-- There was not enough memory for the turns of the clients.
pub record IsNotBegun {V K : Type 0} (k : Printer K) (o : OpenedOver (Pair V)) (out : K)
    (ended : Ended V) (out' : K) : Type 0 where
  pub status : ended.status ≡ Memory
  pub drives : ended.drives ≡ drives_of o.store
  pub noted : IsNothingNoted ended.journal
  pub printed : Prints (k.written out) (k.written out') (Rose (k.faults out) (k.faults out'))
      memory_text
  pub later : k.faults out ≤ k.faults out'

-- A call that plays scripts over halves that were opened.
abbrev pub OpenedCall : {V K : Type 0} → Device V → Ghosts (Pair V) → Printer K → List ℕ → Scripts
    → OpenedOver (Pair V) → K → Ended V → K → Type 0
OpenedCall {V} v p k words scripts o out ended out' =
    IsNotBegun k o out ended out'
    ⊎ ((g : GroundValue (Pair V)) × HasBegun o scripts g × GroundCall v p k words g out ended out')
