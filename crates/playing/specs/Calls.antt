-- What is said of a call that plays scripts.
use Rattle.std.specs.Prelude.{◌≡◌, ◌⊎◌, ℕ, ◌≤◌, List, Option, Err, Ok}
use Rattle.std.specs.Io.KnownBytes.{Appends}
use Rattle.afs_base.specs.Causes.{Rose}
use Rattle.drives.specs.declared.device.Drives.{Ghosts as Device}
use Rattle.drives.specs.declared.device.Half.{Half}
use Rattle.drives.specs.Faults.{HasFailed}
use Rattle.endings.specs.declared.ended.Ended.{Ended}
use Rattle.endings.specs.Faults.{HalfFailed}
use Rattle.endings.specs.Noted.{IsNothingNoted}
use Rattle.endings.specs.Printing.{Prints}
use Rattle.endings.specs.Status.{IsDone}
use Rattle.endings.specs.Texts.{bad_store_text, drive_text, memory_text}
use Rattle.endings.specs.declared.status.Status.{Status}
use Rattle.endings.specs.declared.status.Status.TheVariants.{Success, Usage, BadScript, DriveFault, BadStore, SinkFault, SourceFault, Memory}
use Rattle.pair_store.specs.declared.on_halves.Pair.{Pair}
use Rattle.pair_store.specs.declared.store.Blocks.{Ghosts}
use Rattle.pair_store.specs.Faults.{LaterFaults}
use Rattle.script_text.specs.declared.sink.Sink.{Ghosts as Printer}
use Rattle.script_text.specs.declared.source.Source.{Ghosts as Reader}
use Rattle.script_text.specs.Front.{AppendsFront}
use Rattle.service_model.specs.declared.journal.Journal.{Journal}
use Rattle.service_model.specs.Print.{answers_printed, printed}
use Rattle.service_model.specs.Standing.{Scripts}
use Rattle.std.specs.Prelude.{◌++◌}
use Rattle.store_commands.specs.Opening.{AreAtRest, HasStopped, OnlyOpened, files_on}
use Rattle.store_model.specs.Walk.{Refused}
use Rattle.tree_model.specs.States.{State}
use Rattle.ground.specs.Turning.{standing_of}
use Rattle.playing.specs.Runs.{IsCutOff, IsPlayed, SpeaksFrom}
use Rattle.playing.specs.Statuses.{IsBeforeOpening}
use Rattle.playing.specs.Sources.{AreLater, AreTaken}
use Rattle.playing.specs.Unread.{AreRead, IsUnread, unread_status, unread_text}
use Rattle.playing.specs.declared.unread.Unread.{Unread}

-- ---- once the scripts are read

-- Nothing was played: the store was opened at most, no file changed, and nothing is noted.
pub record IsUnplayed {V : Type 0} (v : Device V) (before after : V)
    (journal : Journal) : Type 0 where
  pub opened : OnlyOpened v before after
  pub noted : IsNothingNoted journal

-- What is printed of scripts that were played whole, and of a run that a half stopped.
abbrev pub played_text : {V : Type 0} {v : Device V} {p : Ghosts (Pair V)} {words : List ℕ}
    {first : ℕ} {before after : V} {scripts : Scripts} {journal : Journal}
    → IsPlayed v p words first before after scripts journal → List ℕ
played_text {scripts = scripts} played =
    printed scripts (standing_of played.opening played.g)

abbrev pub cut_text : {V : Type 0} {v : Device V} {p : Ghosts (Pair V)} {first : ℕ}
    {before after : V} {scripts : Scripts} {journal : Journal} {half : Half}
    → IsCutOff v p first before after scripts journal half → List ℕ
cut_text {scripts = scripts} {half = half} cut =
    answers_printed scripts (standing_of cut.opening cut.g) ++ drive_text half

-- A half failed: in the opening, or in the run.
abbrev pub EndsInFault : {V : Type 0} → Device V → Ghosts (Pair V) → ℕ → V → V → Scripts
    → Journal → Option (List ℕ) → Option (List ℕ) → Type 0 → Half → Type 0
EndsInFault v p first before after scripts journal old new sink_rose half =
    (IsUnplayed v before after journal × Prints old new sink_rose (drive_text half))
    ⊎ ((cut : IsCutOff v p first before after scripts journal half)
    × Prints old new sink_rose (cut_text cut))

-- There was not enough memory: before the run, or for its text.
abbrev pub EndsInWant : {V : Type 0} → Device V → Ghosts (Pair V) → List ℕ → ℕ → V → V → Scripts
    → Journal → Type 0
EndsInWant v p words first before after scripts journal =
    IsUnplayed v before after journal
    ⊎ (IsPlayed v p words first before after scripts journal
    ⊎ ((half : Half) × HasStopped v before after half
    × IsCutOff v p first before after scripts journal half))

-- How a call ends that has read these scripts, by its status; of images it is said what a crash from
-- the moment `first` on leaves.
abbrev pub PlayEnds : {V : Type 0} → Device V → Ghosts (Pair V) → List ℕ → ℕ → V → V → Scripts
    → Journal → Option (List ℕ) → Option (List ℕ) → Type 0 → Status → Type 0
PlayEnds v p words first before after scripts journal old new sink_rose Success =
    (played : IsPlayed v p words first before after scripts journal)
    × Appends old new (played_text played)
PlayEnds v p words first before after scripts journal old new sink_rose Usage = ⊥
PlayEnds v p words first before after scripts journal old new sink_rose BadScript = ⊥
PlayEnds v p words first before after scripts journal old new sink_rose DriveFault =
    (half : Half) × HasStopped v before after half
    × EndsInFault v p first before after scripts journal old new sink_rose half
PlayEnds v p words first before after scripts journal old new sink_rose BadStore =
    IsUnplayed v before after journal
    × ((cause : Refused) × (files_on v before ≡ Err cause)
    × Prints old new sink_rose (bad_store_text cause))
PlayEnds v p words first before after scripts journal old new sink_rose SinkFault =
    (played : IsPlayed v p words first before after scripts journal)
    × AppendsFront old new (played_text played) × sink_rose
PlayEnds v p words first before after scripts journal old new sink_rose SourceFault = ⊥
PlayEnds v p words first before after scripts journal old new sink_rose Memory =
    EndsInWant v p words first before after scripts journal × Prints old new sink_rose memory_text

-- A call that has read these scripts, over halves and a sink that were `drives` and `out`.
pub record RunCall {V K : Type 0} (v : Device V) (p : Ghosts (Pair V)) (k : Printer K)
    (words : List ℕ) (scripts : Scripts) (drives : V) (out : K) (ended : Ended V)
    (out' : K) : Type 0 where
  -- where contents are told
  pub ends : v.tells → (first : ℕ) → SpeaksFrom v drives first
      → PlayEnds v p words first drives ended.drives scripts ended.journal (k.written out)
      (k.written out') (Rose (k.faults out) (k.faults out')) ended.status
  pub rest : v.tells → AreAtRest v drives
      → ((h : Half) → HalfFailed v.moment v.faults h drives ended.drives → ⊥)
      → AreAtRest v ended.drives
  -- a store that is found is played on to the end where nothing fails, but for want of memory
  pub complete : v.tells → (opening : State) → files_on v drives ≡ Ok opening
      → ((h : Half) → HalfFailed v.moment v.faults h drives ended.drives → ⊥)
      → (Rose (k.faults out) (k.faults out') → ⊥) → IsDone ended.status
  -- whether or not they are told
  pub opened : IsBeforeOpening ended.status → ⊥
  pub driven : ended.status ≡ DriveFault
      → (h : Half) × HasFailed (v.faults drives h) (v.faults ended.drives h)
      (v.last_fault ended.drives h)
  pub size : v.size ended.drives ≡ v.size drives
  pub later : LaterFaults (v.faults drives) (v.faults ended.drives) (v.last_fault drives)
      (v.last_fault ended.drives)
  pub sink_later : k.faults out ≤ k.faults out'

-- ---- the whole call

-- The scripts of the sources are not played: nothing is noted, no call of the halves is made, and the
-- cause is printed; or there was no memory for its line.
pub record EndsUnread {V S K : Type 0} (s : Reader S) (k : Printer K) (drives : V)
    (sources : List S) (out : K) (ended : Ended V) (sources' : List S) (out' : K) : Type 0 where
  pub cause : Unread
  pub unread : IsUnread s sources sources' cause
  pub untouched : ended.drives ≡ drives
  pub noted : IsNothingNoted ended.journal
  pub printed : ((ended.status ≡ unread_status cause)
      × Prints (k.written out) (k.written out') (Rose (k.faults out) (k.faults out'))
      (unread_text cause))
      ⊎ ((ended.status ≡ Memory)
      × Prints (k.written out) (k.written out') (Rose (k.faults out) (k.faults out')) memory_text)
  pub later : k.faults out ≤ k.faults out'

-- The sources held scripts, and these were played.
pub record EndsRead {V S K : Type 0} (v : Device V) (p : Ghosts (Pair V)) (s : Reader S)
    (k : Printer K) (words : List ℕ) (drives : V) (sources : List S) (out : K) (ended : Ended V)
    (sources' : List S) (out' : K) : Type 0 where
  pub scripts : Scripts
  pub read : AreRead s sources sources' scripts
  pub call : RunCall v p k words scripts drives out ended out'

-- A call that plays the scripts of sources in the order of these words, over halves and a sink that
-- were `drives` and `out`.
pub record PlayCall {V S K : Type 0} (v : Device V) (p : Ghosts (Pair V)) (s : Reader S)
    (k : Printer K) (words : List ℕ) (drives : V) (sources : List S) (out : K) (ended : Ended V)
    (sources' : List S) (out' : K) : Type 0 where
  pub ends : EndsRead v p s k words drives sources out ended sources' out'
      ⊎ EndsUnread s k drives sources out ended sources' out'
  pub taken : AreTaken s sources sources'
  pub sources_later : AreLater s sources sources'
