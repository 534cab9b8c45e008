-- Setting the links that a commit left outstanding, and clearing members after that: what stands
-- meanwhile.
use Rattle.std.specs.Prelude.{◌≡◌, ◌⊎◌, ℕ, ◌<◌, ◌≤◌, nat_eq, List, [], length, map, Option, Some, None, option_map, Result, Ok, Err, OnOk, IfErr, IsErrOf, slice_get}
use Rattle.std.specs.List.{list_any}
use Rattle.drives.specs.declared.device.Half.{Half}
use Rattle.drives.specs.Changes.{Changes}
use Rattle.page_codec.specs.Causes.{version_of}
use Rattle.page_codec.specs.Values.{VersionValue}
use Rattle.pair_store.specs.Blocks.{OldOrNew}
use Rattle.pair_store.specs.declared.store.Blocks.{Ghosts}
use Rattle.store_model.specs.Laid.{LaidFile, last_laid}
use Rattle.store_model.specs.Changes.{IsLinked}
use Rattle.store_model.specs.Found.{LaidStore, laid}
use Rattle.store_check.specs.declared.chain.FoundFile.{FoundFile}
use Rattle.store_check.specs.Counts.{kept_in}
use Rattle.store_check.specs.Versions.{shown_of}
use Rattle.recovery.specs.declared.known.Known.{Known}
use Rattle.recovery.specs.declared.refused.OpenRefused.{OpenRefused}
use Rattle.recovery.specs.declared.refused.OpenRefused.TheVariants.{ReadFault, WriteFault, BadStore, Memory}
use Rattle.recovery.specs.declared.rolling.Step.{Step}
use Rattle.recovery.specs.declared.rolling.Step.TheVariants.{SetLinks, ClearMembers}
use Rattle.recovery.specs.Aside.{SameAside}
use Rattle.recovery.specs.Known.{IsKnown}
use Rattle.recovery.specs.Opening.{IsFailed, NamesNone, SameFound, heads_of}

-- what is told of the contents of a store, and of which of its blocks are settled
abbrev pub State : Type 1
State = (ℕ → Option (List ℕ)) → (ℕ → Type 0) → Type 0

-- the same store, but for commit references and members
pub record IsLike (before after : LaidStore) : Type 0 where
  pub root : after.root ≡ before.root
  pub entries : map (λ file. file.entry) after.files ≡ map (λ file. file.entry) before.files
  pub heads : heads_of after.files ≡ heads_of before.files
  pub kept : kept_in after.files ≡ kept_in before.files

-- These contents stand for a store like the one before, in the same places, and each of its blocks
-- is settled.
pub record Stands (most : ℕ) (before : LaidStore) (places : List ℕ) (content : ℕ → Option (List ℕ))
    (settled : ℕ → Type 0) : Type 0 where
  pub store : LaidStore
  pub order : List ℕ
  pub laid : laid content most [] ≡ Ok (store, order)
  pub same : (n : ℕ) → list_any (nat_eq n) order ≡ list_any (nat_eq n) places
  pub like : IsLike before store
  pub table : settled 0
  pub each : (n : ℕ) → n < before.root.blocks → settled n

-- a file has the last version that it had
abbrev pub SameLast : LaidFile → LaidFile → Type 0
SameLast was now = option_map shown_of (last_laid now.versions)
    ≡ option_map shown_of (last_laid was.versions)

-- Each file as it was found and as it is now: what stands throughout a step, and what until the
-- step comes to it.
abbrev pub Keeps : Step → LaidFile → LaidFile → Type 0
Keeps SetLinks was now = SameLast was now
Keeps ClearMembers was now = IsLinked now

abbrev pub Awaits : Step → LaidFile → LaidFile → Type 0
Awaits SetLinks was now = now ≡ was
Awaits ClearMembers was now = SameLast was now

-- the step is done for this file
abbrev pub IsDone : Step → LaidFile → Type 0
IsDone SetLinks now = IsLinked now
IsDone ClearMembers now = NamesNone now

-- What is known of a store stands, but for what a step wrote: it is done for the first k files, and
-- has not come to the others.
pub record Rolling (step : Step) (most : ℕ) (known : Known) (k : ℕ) (content : ℕ → Option (List ℕ))
    (settled : ℕ → Type 0) : Type 0 where
  pub before : LaidStore
  pub places : List ℕ
  pub is : IsKnown known before places
  pub stands : Stands most before places content settled
  pub keeps : (j : ℕ) (was now : LaidFile) → slice_get before.files j ≡ Some was
      → slice_get stands.store.files j ≡ Some now → Keeps step was now
  pub ahead : (j : ℕ) (was now : LaidFile) → k ≤ j → slice_get before.files j ≡ Some was
      → slice_get stands.store.files j ≡ Some now
      → Awaits step was now
  pub done : (j : ℕ) (now : LaidFile) → j < k → slice_get stands.store.files j ≡ Some now
      → IsDone step now

-- a block that rolling forward may write: that of a version whose link to the last one is
-- outstanding, or that of a last version with members
pub record IsEdited (known : Known) (n : ℕ) : Type 0 where
  pub object : ℕ
  pub chain : FoundFile
  pub listed : slice_get known.chains.items object ≡ Some (Some chain)
  pub named : (chain.unset ≡ Some n) ⊎ ((chain.last.block ≡ n)
      × (length chain.last.members ≡ 0 → ⊥))

-- one of the halves failed
abbrev pub IsHalfFailed : OpenRefused → Type 0
IsHalfFailed (ReadFault half) = Unit {0}
IsHalfFailed (WriteFault half) = Unit {0}
IsHalfFailed (BadStore block why) = ⊥
IsHalfFailed Memory = ⊥

-- no write failed
abbrev pub IsUnwritten : {T : Type 0} → Result T OpenRefused → Type 0
IsUnwritten (Ok x) = Unit {0}
IsUnwritten (Err (ReadFault half)) = Unit {0}
IsUnwritten (Err (WriteFault half)) = ⊥
IsUnwritten (Err (BadStore block why)) = Unit {0}
IsUnwritten (Err Memory) = Unit {0}

-- What a call leaves that writes no other blocks than these, whether or not the store is as it
-- should be.
pub record Leaves {D T : Type 0} (b : Ghosts D) (Written : ℕ → Type 0)
    (result : Result T OpenRefused) (before after : D) : Type 0 where
  pub others : b.tells → SameAside Written (b.content before) (b.content after)
  pub images_others : Changes b.moment b.may_leave before after (SameAside Written)
  pub kept : b.tells → OnOk result ((n : ℕ) → b.settled before n → b.settled after n)
  pub kept_always : b.tells → OnOk result ((n : ℕ) → b.settled_always before n
      → b.settled_always after n)
  pub rest : b.tells → b.rest before → IsUnwritten result → b.rest after
  pub unwritten : (h : Half) → IsErrOf result (WriteFault h)
      → IsFailed (b.faults before) (b.faults after) (b.last_fault after) (b.moment after) ⊥ h
  pub later : (h : Half) → (b.faults before h ≤ b.faults after h)
      × (b.last_fault before h ≤ b.last_fault after h)
  pub size_same : b.size after ≡ b.size before

-- the page may be changed by a step: its commit reference is nil, or it is any
abbrev pub IsReady : Step → VersionValue → Type 0
IsReady SetLinks page = page.commit ≡ None
IsReady ClearMembers page = Unit {0}

-- A call that writes the version page in this block anew, where it is one that the step may change.
pub record Edits {D T : Type 0} (b : Ghosts D) (step : Step) (block : ℕ) (edit : List ℕ → List ℕ)
    (result : Result T OpenRefused) (before after : D) : Type 0 where
  pub leaves : Leaves b (λ n. n ≡ block) result before after
  pub written : b.tells → b.settled before block → (body : List ℕ) (page : VersionValue)
      → b.content before block ≡ Some body
      → version_of body ≡ Ok page → IsReady step page
      → OnOk result (b.content after block ≡ Some (edit body))
  pub only : b.tells → b.settled before block → (body : List ℕ) (page : VersionValue)
      → b.content before block ≡ Some body
      → version_of body ≡ Ok page → IsReady step page → IfErr result IsHalfFailed
  pub either : b.tells → b.settled before block → (body : List ℕ)
      → b.content before block ≡ Some body
      → OldOrNew block (edit body) (b.content before) (b.content after)
  pub images : b.tells → b.settled_always before block → (body : List ℕ)
      → b.content before block ≡ Some body
      → Changes b.moment b.may_leave before after (OldOrNew block (edit body))
  pub unread : (h : Half) → IsErrOf result (ReadFault h)
      → IsFailed (b.faults before) (b.faults after) (b.last_fault after) (b.moment after)
      (b.tells → b.settled before block → b.content before block ≡ None) h

-- A store that tells its contents begins in this state, on so many blocks; with what is settled
-- now, or in each image too.
abbrev pub Begins : {D : Type 0} → Ghosts D → ℕ → State → D → Type 0
Begins b most From d = b.tells × (most ≤ b.size d) × From (b.content d) (b.settled d)

abbrev pub BeginsAlways : {D : Type 0} → Ghosts D → ℕ → State → D → Type 0
BeginsAlways b most From d = b.tells × (most ≤ b.size d) × From (b.content d) (b.settled_always d)

-- A call that goes on from one state of a store to the next one, and writes no other blocks than
-- these. Where it begins as it should, no file that is found changes, and no refusal comes but for
-- a half that failed.
pub record Rolls {D T : Type 0} (b : Ghosts D) (most : ℕ) (Written : ℕ → Type 0) (From To : State)
    (result : Result T OpenRefused) (before after : D) : Type 0 where
  pub leaves : Leaves b Written result before after
  pub goes : Begins b most From before → OnOk result (To (b.content after) (b.settled after))
  pub goes_always : BeginsAlways b most From before
      → OnOk result (To (b.content after) (b.settled_always after))
  pub only : Begins b most From before → IfErr result IsHalfFailed
  pub same : Begins b most From before → SameFound most (b.content before) (b.content after)
  pub images : BeginsAlways b most From before
      → Changes b.moment b.may_leave before after (SameFound most)
  pub unread : (h : Half) → IsErrOf result (ReadFault h)
      → IsFailed (b.faults before) (b.faults after) (b.last_fault after) (b.moment after)
      (Begins b most From before → ⊥) h
