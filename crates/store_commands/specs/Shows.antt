-- Which files what is told of a store stands for, and how the listing of them ends.
use Rattle.std.specs.Prelude.{◌≡◌, ◌⊎◌, ℕ, List, [], ◌∷◌, Option, Some, None}
use Rattle.drives.specs.declared.device.Half.{Half}
use Rattle.page_places.specs.Places.{Store, Holds}
use Rattle.endings.specs.Printing.{DoneEnds, HaltEnds, Prints}
use Rattle.endings.specs.Texts.{bad_store_text, drive_text, memory_text}
use Rattle.endings.specs.declared.status.Status.{Status}
use Rattle.endings.specs.declared.status.Status.TheVariants.{DriveFault, BadStore, Memory}
use Rattle.store_check.specs.declared.refused.WalkRefused.{WalkRefused}
use Rattle.store_check.specs.declared.refused.WalkRefused.TheVariants.{ReadFault, BadStore as Unlawful, Memory as NoMemory}
use Rattle.tree_listing.specs.Listing.{AreReadable}
use Rattle.tree_listing.specs.Results.{IsNoCause}
use Rattle.tree_model.specs.States.{File, Version, last_version, serials_of}
use Rattle.afs_base.specs.declared.head.Head.{Head}
use Rattle.store_commands.specs.Showing.{head_serials, shown_files}

-- a live file: the serials are those that its head tells, and the blocks from the head's down can be read and hold the tree of its last version
pub record IsHeadOf (settled : ℕ → Type 0) (size : ℕ) (store : Store) (head : Head) (file : File) : Type 0 where
  pub serials : serials_of file ≡ head_serials head
  pub version : Version
  pub is_last : last_version file ≡ Some version
  pub holds : Holds store head.block version.tree
  pub readable : AreReadable settled size store head.block

-- an object, live or not
abbrev pub IsObject : (ℕ → Type 0) → ℕ → Store → Option Head → File → Type 0
IsObject settled size store None file = file.versions ≡ []
IsObject settled size store (Some head) file = IsHeadOf settled size store head file

-- all objects
abbrev pub AreObjects : (ℕ → Type 0) → ℕ → Store → List (Option Head) → List File → Type 0
AreObjects settled size store [] [] = Unit {0}
AreObjects settled size store [] (file ∷ files) = ⊥
AreObjects settled size store (head ∷ heads) [] = ⊥
AreObjects settled size store (head ∷ heads) (file ∷ files) = IsObject settled size store head file × AreObjects settled size store heads files

-- how a command ends whose listing stopped for this cause
abbrev pub UnlistedEnds : Option (List ℕ) → Option (List ℕ) → Type 0 → WalkRefused → Status → Type 0
UnlistedEnds old new sink_rose (ReadFault half) status = (status ≡ DriveFault) × Prints old new sink_rose (drive_text half)
UnlistedEnds old new sink_rose (Unlawful block why) status = HaltEnds old new sink_rose (bad_store_text (record { block = block; why = why })) BadStore status
UnlistedEnds old new sink_rose NoMemory status = (status ≡ Memory) × Prints old new sink_rose memory_text

-- All was listed: the text of files, and those that are told.
pub record ListsAll (told : List File → Type 0) (old new : Option (List ℕ)) (sink_rose : Type 0) (status : Status) : Type 0 where
  pub text : List ℕ
  pub shown : List File
  pub shows : text ≡ shown_files 1 shown
  pub those_told : (files : List File) → told files → text ≡ shown_files 1 files
  pub ends : DoneEnds old new sink_rose text status

-- The listing stopped. Where the files are told it stopped only for want of memory, or at a half that failed in the last call.
pub record ListsNot (told : List File → Type 0) (stopped unread : Half → Type 0) (old new : Option (List ℕ)) (sink_rose : Type 0) (status : Status) : Type 0 where
  pub why : WalkRefused
  pub no_cause : (files : List File) → told files → IsNoCause why
  pub failed : (h : Half) → why ≡ ReadFault h → unread h
  pub failed_last : (h : Half) → why ≡ ReadFault h → (files : List File) → told files → stopped h
  pub ends : UnlistedEnds old new sink_rose why status

-- how the listing of files ends
abbrev pub ShowEnds : (List File → Type 0) → (Half → Type 0) → (Half → Type 0) → Option (List ℕ) → Option (List ℕ) → Type 0 → Status → Type 0
ShowEnds told stopped unread old new sink_rose status = ListsAll told old new sink_rose status ⊎ ListsNot told stopped unread old new sink_rose status
