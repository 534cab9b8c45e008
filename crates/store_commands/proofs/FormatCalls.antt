-- What is said of a call that makes a new store, from how its parts ended.
use Rattle.std.proofs.Common.{◌≡◌, ℕ, List, Option, Result, Ok, sym, subst}
use Rattle.std.specs.Io.KnownBytes.{Appends}
use Rattle.drives.specs.declared.device.Drives.{Ghosts as Device}
use Rattle.drives.specs.declared.device.Half.{Half}
use Rattle.drives.specs.Faults.{HasFailed}
use Rattle.endings.specs.declared.ended.Ended.{Ended}
use Rattle.endings.specs.declared.status.Status.{Status}
use Rattle.endings.specs.declared.status.Status.TheVariants.{Success, Usage, BadScript, DriveFault, BadStore, SinkFault, SourceFault, Memory}
use Rattle.endings.specs.Printing.{FinishEnds}
use Rattle.endings.specs.Status.{IsDone}
use Rattle.new_store.specs.declared.store.NewStore.{NewStore}
use Rattle.new_store.specs.Fresh.{new_state}
use Rattle.pair_store.specs.Faults.{IsStopped}
use Rattle.script_text.specs.declared.sink.Sink.{Ghosts as Printer}
use Rattle.script_text.specs.Front.{AppendsFront}
use Rattle.store_model.specs.Walk.{Refused}
use Rattle.tree_model.specs.States.{State}
use Rattle.store_commands.specs.Calls.{FormatCall}
use Rattle.store_commands.specs.Formatting.{FormatEnds}
use Rattle.store_commands.specs.Texts.{new_files_text}

-- what is said of a call that ended with this status and these halves is said of it
pub format_so : {V K : Type 0} (v : Device V) (k : Printer K) (store : NewStore) (start : V) (out out_after : K) (ended : Ended V) (status : Status) (last : V)
    → ended.status ≡ status → ended.drives ≡ last
    → FormatCall v k store start out (record { status = status; drives = last; journal = ended.journal }) out_after → FormatCall v k store start out ended out_after
format_so {V = V} v k store start out out_after ended status last so drives call =
    let F : Ended V → Type 0 = λ x. FormatCall v k store start out x out_after in
    subst F (λ i. record { status = sym so i; drives = sym drives i; journal = ended.journal }) call

-- a half that stopped the making failed in the call
pub stopped_failed : (faults faults_after last_after : Half → ℕ) (moment : ℕ) (h : Half) → IsStopped faults faults_after last_after moment h
    → HasFailed (faults h) (faults_after h) moment
stopped_failed faults faults_after last_after moment h stopped =
    let F : ℕ → Type 0 = λ m. HasFailed (faults h) (faults_after h) m in subst F stopped.last stopped.failed

module _ (store : NewStore) (tells : Type 0) (after : Result State Refused) (failed : Half → Type 0) (old new : Option (List ℕ)) (sink_rose : Type 0) where
  -- the store was made, and its files were printed or not
  pub made_ends : (text : List ℕ) (status : Status) → text ≡ new_files_text store.files → (tells → after ≡ Ok (new_state store))
      → FinishEnds old new sink_rose text status → FormatEnds store tells after failed old new sink_rose status
  made_ends text Success is made ends = (made, subst (Appends old new) is ends)
  made_ends text Usage is made ends = ends
  made_ends text BadScript is made ends = ends
  made_ends text DriveFault is made ends = absurd ends
  made_ends text BadStore is made ends = ends
  made_ends text SinkFault is made ends = (made, subst (AppendsFront old new) is ends.0, ends.1)
  made_ends text SourceFault is made ends = ends
  made_ends text Memory is made ends = absurd ends

  -- where nothing failed all is done, or memory ran out
  pub made_done : (status : Status) → FormatEnds store tells after failed old new sink_rose status → ((h : Half) → failed h → ⊥) → (sink_rose → ⊥) → IsDone status
  made_done Success ends sound sink = tt
  made_done Usage ends sound sink = ends
  made_done BadScript ends sound sink = ends
  made_done DriveFault ends sound sink = sound ends.0 ends.1
  made_done BadStore ends sound sink = ends
  made_done SinkFault ends sound sink = sink ends.2
  made_done SourceFault ends sound sink = ends
  made_done Memory ends sound sink = tt
