-- What follows for every journal.
use Rattle.std.specs.Prelude.{◌≡◌, ◌≢◌, ℕ, ◌+◌, ◌<◌, ◌≤◌, List, [], ◌∷◌, ◌++◌, sum_by, Some, Contains}
use Rattle.script_text.specs.declared.script.Line.{Line}
use Rattle.service_model.specs.declared.journal.Entry.{Entry}
use Rattle.service_model.specs.declared.journal.Refusal.{Refusal}
use Rattle.service_model.specs.declared.named.Named.{Named}
use Rattle.tree_model.specs.declared.step.Step.{Step}
use Rattle.tree_model.specs.Accesses.{all_reads, all_writes, fresh_of, visible_of}
use Rattle.tree_model.specs.States.{State, Version, IsState}
use Rattle.tree_model.specs.Trees.{Tree, replies_of}
use Rattle.service_model.specs.Room.{HasRoom, FilesShare, stored_blocks, used}
use Rattle.service_model.specs.Standing.{Scripts, Standing, Update, Work, start, client_of, next_line, versions_of, serial_of, last_tree, kept_blocks, need, renewed_works, free}
use Rattle.service_model.specs.Entries.{after_entry, after_entries, committed_in, standing_after}
use Rattle.service_model.specs.Legal.{AreUnworn, IsCommittable, IsHoldable, IsLawful, IsLegalFrom, IsRefusable, IsUnclashed, IsUnopposed, IsUnreadOf, Reaches}
use Rattle.service_model.specs.Sound.{IsSound, IsKnown, IsOn, IsOpenAt, AreSayable, IsSayable}

-- What stands after two lists of entries is what stands after the second where the first one leads.
abbrev pub StandingAppends : Type 0
StandingAppends =
    (scripts : Scripts) (s : Standing) (es fs : List Entry)
    → after_entries scripts s (es ++ fs) ≡ after_entries scripts (after_entries scripts s es) fs

-- A legal list of entries and one that is legal where it leads are legal together.
abbrev pub LegalAppends : Type 0
LegalAppends =
    (scripts : Scripts) (s : Standing) (es fs : List Entry)
    → IsLegalFrom scripts s es → IsLegalFrom scripts (after_entries scripts s es) fs
    → IsLegalFrom scripts s (es ++ fs)

-- The front of a legal list of entries is legal.
abbrev pub LegalFront : Type 0
LegalFront =
    (scripts : Scripts) (s : Standing) (es fs : List Entry)
    → IsLegalFrom scripts s (es ++ fs) → IsLegalFrom scripts s es

-- The rest of a legal list of entries is legal where its front leads.
abbrev pub LegalRest : Type 0
LegalRest =
    (scripts : Scripts) (s : Standing) (es fs : List Entry)
    → IsLegalFrom scripts s (es ++ fs) → IsLegalFrom scripts (after_entries scripts s es) fs

-- The front of a legal journal leads to what stands after it.
abbrev pub FrontReaches : Type 0
FrontReaches =
    (opening : State) (scripts : Scripts) (es fs : List Entry) (s : Standing)
    → Reaches opening scripts (es ++ fs) s
    → Reaches opening scripts es (standing_after opening scripts es)

-- A legal journal goes on by entries that are legal where it leads.
abbrev pub JournalGoesOn : Type 0
JournalGoesOn =
    (opening : State) (scripts : Scripts) (es fs : List Entry) (s : Standing)
    → Reaches opening scripts es s → IsLegalFrom scripts s fs
    → Reaches opening scripts (es ++ fs) (after_entries scripts s fs)

-- A legal journal goes on by one lawful entry.
abbrev pub NextReaches : Type 0
NextReaches =
    (opening : State) (scripts : Scripts) (es : List Entry) (s : Standing) (e : Entry)
    → Reaches opening scripts es s → IsLawful scripts s e
    → Reaches opening scripts (es ++ e ∷ []) (after_entry scripts s e)

-- An entry leaves every other client as it was.
abbrev pub OthersStay : Type 0
OthersStay =
    (scripts : Scripts) (s : Standing) (e : Entry) (k : ℕ)
    → 1 ≤ e.client → 1 ≤ k → k ≢ e.client
    → client_of (after_entry scripts s e) k ≡ client_of s k

-- A state is one, and the serials of its versions begin with 1.
pub record IsFit (opening : State) : Type 0 where
  pub state : IsState opening
  pub counted : (object : ℕ) (v : Version) → Contains (versions_of opening object) v → 1 ≤ v.serial

-- What stands before the first entry is sound.
abbrev pub StartIsSound : Type 0
StartIsSound = (opening : State) (scripts : Scripts) → IsFit opening → IsSound scripts (start opening scripts)

-- What stands stays sound by every lawful entry of a script's lines.
abbrev pub EntryKeepsSound : Type 0
EntryKeepsSound =
    (scripts : Scripts) (s : Standing) (e : Entry)
    → AreSayable scripts → IsSound scripts s → IsLawful scripts s e → IsSound scripts (after_entry scripts s e)

-- So it does by a lawful entry of a line of which alone it is known that it may be in a script.
abbrev pub LineKeepsSound : Type 0
LineKeepsSound =
    (scripts : Scripts) (s : Standing) (e : Entry)
    → ((line : Line) → next_line scripts s e.client ≡ Some line → IsSayable line.command)
    → IsSound scripts s → IsLawful scripts s e → IsSound scripts (after_entry scripts s e)

-- What stands after a legal journal is sound.
abbrev pub JournalIsSound : Type 0
JournalIsSound =
    (opening : State) (scripts : Scripts) (es : List Entry) (s : Standing)
    → IsFit opening → AreSayable scripts → Reaches opening scripts es s → IsSound scripts s

-- ---- what is so of all that stands

-- The update that made a version wrote nothing that this update of a file read.
pub record IsMergedOver (s : Standing) (w : Work) (v : Version) : Type 0 where
  pub known : IsKnown s.state s.made w.object v
  pub unread : IsUnreadOf w known.made

-- So it is of each version after the base up to a serial.
abbrev pub IsMergedTo : Standing → Work → ℕ → Type 0
IsMergedTo s w serial =
    (v : Version) → Contains (versions_of s.state w.object) v → w.serial < v.serial → v.serial ≤ serial
    → IsMergedOver s w v

-- An open update of a file that is merged up to the file's last serial clashes with no version that was made
-- after its base.
abbrev pub MergedIsUnclashed : Type 0
MergedIsUnclashed =
    (scripts : Scripts) (s : Standing) (k : ℕ) (w : Work)
    → IsSound scripts s → IsOn s k w → IsMergedTo s w (serial_of s.state w.object) → IsUnclashed s.made w

-- Of the versions of an object this is the one of its serial.
pub record IsOnlyOf (state : State) (object : ℕ) (v : Version) : Type 0 where
  pub kept : Contains (versions_of state object) v
  pub only : (u : Version) → Contains (versions_of state object) u → u.serial ≡ v.serial → u ≡ v

-- The serials of an object's versions rise by one: from a version's serial to the last one, each is that of
-- one version and of no other; and no version is later than the last one.
abbrev pub SerialsRise : Type 0
SerialsRise =
    (scripts : Scripts) (s : Standing) (object : ℕ) (v : Version)
    → IsSound scripts s → Contains (versions_of s.state object) v
    → (v.serial ≤ serial_of s.state object)
    × ((serial : ℕ) → v.serial ≤ serial → serial ≤ serial_of s.state object
    → (u : Version) × IsOnlyOf s.state object u × (u.serial ≡ serial))

-- Steps do on a tree b what they do on a tree a: they answer, read, write, show and make fresh the same.
pub record DoAlike (a b : Tree) (steps : List Step) : Type 0 where
  pub replies : replies_of b steps ≡ replies_of a steps
  pub reads : all_reads b [] steps ≡ all_reads a [] steps
  pub writes : all_writes b steps ≡ all_writes a steps
  pub visible : visible_of b steps ≡ visible_of a steps
  pub fresh : fresh_of b steps ≡ fresh_of a steps

-- Where no version after an update's base wrote what the update read, its steps do on the file's last version
-- what they did on its base.
abbrev pub UnclashedDoAlike : Type 0
UnclashedDoAlike =
    (scripts : Scripts) (s : Standing) (k : ℕ) (w : Work)
    → IsSound scripts s → IsOn s k w → IsUnclashed s.made w
    → DoAlike w.base (last_tree s.state w.object) w.steps

-- Where a commit with writes may be noted, the steps of each file of the update do on the file's last version
-- what they did on the base: its reads are answered as in a run of one update after the other, and the new
-- version has as many fresh pages as blocks were taken for it.
abbrev pub CommitDoesAlike : Type 0
CommitDoesAlike =
    (scripts : Scripts) (s : Standing) (k : ℕ) (u : Update) (made : List Named)
    → IsSound scripts s → 1 ≤ k → IsOpenAt s k u → IsCommittable s k u made
    → (w : Work) → Contains u.works w → DoAlike w.base (last_tree s.state w.object) w.steps

-- A commit that may be noted takes as many blocks as were held for it: those of the kept versions grow by what
-- the update needs.
abbrev pub CommitTakesNeed : Type 0
CommitTakesNeed =
    (scripts : Scripts) (s : Standing) (k : ℕ) (u : Update) (made : List Named)
    → IsSound scripts s → 1 ≤ k → IsOpenAt s k u → IsCommittable s k u made
    → sum_by kept_blocks (committed_in s.state (renewed_works u)).files
    ≡ sum_by kept_blocks s.state.files + need u

-- Where the blocks of a commit may be held, and no cause of a refusal comes earlier, the commit may not be refused.
abbrev pub HeldIsNotRefused : Type 0
HeldIsNotRefused =
    (s : Standing) (k blocks : ℕ) (u : Update) (why : Refusal)
    → IsHoldable s k u blocks → IsUnopposed s k u → AreUnworn s.state u → IsRefusable s k u why → ⊥

-- ---- blocks

-- A fit state has no more blocks in use than there are, and each version shares with the one before it what is not
-- fresh in it.
pub record IsFitting (opening : State) : Type 0 where
  pub fit : IsFit opening
  pub within : stored_blocks opening ≤ opening.blocks
  pub sharing : FilesShare opening

-- Before the first entry no more blocks are in use than there are.
abbrev pub StartHasRoom : Type 0
StartHasRoom = (opening : State) (scripts : Scripts) → IsFitting opening → HasRoom scripts (start opening scripts)

-- So it stays by every lawful entry.
abbrev pub EntryKeepsRoom : Type 0
EntryKeepsRoom =
    (scripts : Scripts) (s : Standing) (e : Entry)
    → IsSound scripts s → HasRoom scripts s → IsLawful scripts s e → HasRoom scripts (after_entry scripts s e)

-- So it is after every legal journal.
abbrev pub JournalHasRoom : Type 0
JournalHasRoom =
    (opening : State) (scripts : Scripts) (es : List Entry) (s : Standing)
    → IsFitting opening → AreSayable scripts → Reaches opening scripts es s → HasRoom scripts s

-- The free blocks and those in use are all that there are: no subtraction of the free count stops at 0.
abbrev pub FreeIsTheRest : Type 0
FreeIsTheRest = (scripts : Scripts) (s : Standing) → HasRoom scripts s → used s + free s ≡ s.state.blocks
