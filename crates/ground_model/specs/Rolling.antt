-- The turns after the one write that commits an update of several files: each sets the link of one
-- member, one clears the members that the top names, and then the line is answered.
use Rattle.std.specs.Prelude.{◌≡◌, ◌≢◌, ◌⊎◌, ◌↔◌, ℕ, suc, ◌<◌, ◌≤◌, ◌^◌, true, List, [], ◌∷◌, ◌++◌}
use Rattle.std.specs.Prelude.{Option, Some, None, Result, Ok, Err, OnOk, slice_get}
use Rattle.afs_base.specs.declared.head.Head.{Head}
use Rattle.block_map.specs.States.{Replaces}
use Rattle.block_map.specs.declared.states.BlockState.{BlockState}
use Rattle.block_map.specs.declared.states.BlockState.TheVariants.{Kept}
use Rattle.draft_model.specs.Flush.{block_of}
use Rattle.draft_model.specs.Views.{View}
use Rattle.drives.specs.Changes.{Changes}
use Rattle.page_codec.specs.Causes.{version_of}
use Rattle.page_codec.specs.Values.{MemberValue, VersionValue}
use Rattle.pair_store.specs.Answers.{IsCleared, IsRefused, IsUntorn}
use Rattle.pair_store.specs.Blocks.{OldOrNew, SameContents, SameOthers}
use Rattle.pair_store.specs.Pages.{without_members as cleared_bytes}
use Rattle.pair_store.specs.declared.fault.PairFault.{PairFault}
use Rattle.pair_store.specs.declared.fault.PairFault.TheVariants.{ReadFault, WriteFault}
use Rattle.pair_store.specs.declared.fault.PairFault.TheVariants.{BothClosed, BadPage}
use Rattle.pair_store.specs.declared.outcome.Tas.{Tas}
use Rattle.pair_store.specs.declared.outcome.Tas.TheVariants.{Set, Taken}
use Rattle.pair_store.specs.declared.store.Blocks.{Ghosts}
use Rattle.recovery.specs.Opening.{IsRolled, NamesNone}
use Rattle.script_text.specs.declared.reply.LineReply.TheVariants as reply
use Rattle.script_text.specs.declared.script.Line.{Line}
use Rattle.service_model.specs.declared.journal.Entry.{Entry}
use Rattle.service_model.specs.declared.journal.Journal.{Journal}
use Rattle.service_model.specs.declared.journal.What.TheVariants.{Answered}
use Rattle.service_model.specs.declared.named.Named.{Named}
use Rattle.service_model.specs.Entries.{after_entries}
use Rattle.service_model.specs.Replies.{serials_by}
use Rattle.service_model.specs.Sound.{IsSound}
use Rattle.service_model.specs.Standing.{Scripts, Update, Work, client_of, has_file}
use Rattle.store_changes.specs.Stands.{IsPlace}
use Rattle.store_changes.specs.Writes.{Content}
use Rattle.store_model.specs.Changes.{IsLinked, Rewrites, version_in_block}
use Rattle.store_model.specs.Changes.{with_commit, without_members}
use Rattle.store_model.specs.Found.{LaidStore}
use Rattle.store_model.specs.Laid.{LaidFile}
use Rattle.tree_model.specs.States.{State}
use Rattle.tree_model.specs.Trees.{Tree}
use Rattle.version_chain.specs.Flush.{Plan}
use Rattle.ground_model.specs.CommitLines.{IsCommitting}
use Rattle.ground_model.specs.Commits.{IsWritten, MayCommit}
use Rattle.ground_model.specs.Laws.{Leads}
use Rattle.ground_model.specs.Lines.{answering, in_line}
use Rattle.ground_model.specs.Linking.{IsLeft, IsSettingLinks, LeavesLinks, LeavesNames, Link}
use Rattle.ground_model.specs.Own.{IsResting}
use Rattle.ground_model.specs.Runs.{HasPut, IsRead, IsTurn, Stands}
use Rattle.ground_model.specs.Scenes.{AreHeads, IsLinking, IsShared, Scene}
use Rattle.ground_model.specs.Steps.{moved_to}
use Rattle.ground_model.specs.Stops.{HasStopped}
use Rattle.ground_model.specs.Tests.{HasTested}

-- ---- scenes

-- The scene after client k wrote a version page anew in its place, with another commit reference or
-- without members: the same stands, the places are those that they were, what was told of the files
-- is so, each version is there again, and the others are left what they rely on, and their links.
pub record IsMarkedTo (k : ℕ) (old new : Scene) (content : Content) : Type 0 where
  pub content_is : new.content ≡ content
  pub most : new.most ≡ old.most
  pub states_is : new.states ≡ old.states
  pub freed_is : new.freed ≡ old.freed
  pub standing_is : new.standing ≡ old.standing
  pub blocks : new.store.root.blocks ≡ old.store.root.blocks
  pub places : (n : ℕ) → IsPlace new.places n ↔ IsPlace old.places n
  pub heads : (told : List (Option Head)) → AreHeads old told → AreHeads new told
  pub leads : Leads k old new
  pub links : (j : ℕ) → 1 ≤ j → j ≢ k → LeavesLinks j old new × LeavesNames j old new

-- Where the first of the links that are left is set, one link less is left.
abbrev pub LinkIsSet : Type 0
LinkIsSet =
    (scripts : Scripts) (k : ℕ) (old : Scene) (content : Content) (u : Update) (made : List Named)
    (at object block : ℕ) (members : List MemberValue) (link : Link) (left : List Link)
    → IsShared old → IsSound scripts old.standing
    → IsSettingLinks old k u made at object block members (link ∷ left)
    → Rewrites old.content content link.base (with_commit link.member.block)
    → (new : Scene) × IsMarkedTo k old new content
    × IsSettingLinks new k u made at object block members left

-- Where none is left and the top's page is written without members, no member is named.
abbrev pub TopIsCleared : Type 0
TopIsCleared =
    (scripts : Scripts) (k : ℕ) (old : Scene) (content : Content) (u : Update) (made : List Named)
    (at object block : ℕ) (members : List MemberValue)
    → IsShared old → IsSound scripts old.standing → members ≢ []
    → IsSettingLinks old k u made at object block members []
    → Rewrites old.content content block without_members
    → (new : Scene) × IsMarkedTo k old new content
    × IsSettingLinks new k u made at object block [] []

-- All links of the files of an update are set, and no last version of them names members.
abbrev pub IsRolledFor : LaidStore → Update → Type 0
IsRolledFor store u =
    (o : ℕ) (file : LaidFile) → has_file (suc o) u ≡ true → slice_get store.files o ≡ Some file
    → IsLinked file × NamesNone file

-- So it is where no link is left and no member is named;
abbrev pub NothingIsLeft : Type 0
NothingIsLeft =
    (scene : Scene) (k : ℕ) (u : Update) (made : List Named) (at object block : ℕ)
    → IsSettingLinks scene k u made at object block [] [] → IsRolledFor scene.store u

-- and so it is of all files where no client sets links.
abbrev pub NobodySetsLinks : Type 0
NobodySetsLinks =
    (scene : Scene) → IsShared scene → ((object : ℕ) → IsLinking scene.standing object → ⊥)
    → IsRolled scene.store

-- ---- what a call came to

-- One write gave the version page in this block that change.
pub record IsMarkedBy {D : Type 0} (b : Ghosts D) (scene : Scene) (before after : D) (block : ℕ)
    (change : VersionValue → VersionValue) : Type 0 where
  pub within : block < scene.store.root.blocks
  pub bytes : List ℕ
  pub put : HasPut b before after block bytes
  pub rewrites : Rewrites scene.content (b.content after) block change

-- That write failed: the block has its old content, or this one with the change.
pub record IsMarkTorn {D : Type 0} (b : Ghosts D) (scene : Scene) (before after : D) (block : ℕ)
    (change : VersionValue → VersionValue) : Type 0 where
  pub within : block < scene.store.root.blocks
  pub page : VersionValue
  pub was : version_in_block scene.content block ≡ Some page
  pub bytes : List ℕ
  pub changed : version_of bytes ≡ Ok (change page)
  pub size : b.size after ≡ b.size before
  pub either : OldOrNew block bytes (b.content before) (b.content after)
  pub images : b.settled_always before block
      → Changes b.moment b.may_leave before after (OldOrNew block bytes)

-- What a test-and-set of a link that is left came to, by the answer: it is never found taken, and
-- the page is never found closed or bad.
abbrev pub MemberCame : {D : Type 0} → Ghosts D → Scene → D → D → Link → Result Tas PairFault
    → Type 0
MemberCame b scene before after link (Ok Set) =
    IsMarkedBy b scene before after link.base (with_commit link.member.block)
MemberCame b scene before after link (Ok (Taken by)) = ⊥
MemberCame b scene before after link (Err (ReadFault half)) = IsRead b before after
MemberCame b scene before after link (Err (WriteFault half)) =
    IsMarkTorn b scene before after link.base (with_commit link.member.block)
MemberCame b scene before after link (Err (BothClosed block)) = ⊥
MemberCame b scene before after link (Err (BadPage block why)) = ⊥

abbrev pub MembersAreTested : {D : Type 0} → Ghosts D → Type 0
MembersAreTested {D} b =
    (opening : State) (scripts : Scripts) (first : ℕ) (scene : Scene) (before after : D)
    (es : List Entry) (link : Link) (result : Result Tas PairFault)
    → Stands b opening scripts first scene before es → IsLeft scene.store link
    → link.member.block < 2 ^ 28
    → HasTested b before after link.base link.member.block result
    → MemberCame b scene before after link result

-- What clearing the members of the version page in block n gives, clause by clause.
pub record HasCleared {D T : Type 0} (b : Ghosts D) (old new : D) (n : ℕ)
    (result : Result T PairFault) : Type 0 where
  pub answer : b.tells → b.settled old n → IsCleared n (b.content old n) result
  pub written : b.tells → b.settled old n → (body : List ℕ) → b.content old n ≡ Some body
      → OnOk result (b.content new n ≡ Some (cleared_bytes body))
  pub either : b.tells → b.settled old n → (body : List ℕ) → b.content old n ≡ Some body
      → OldOrNew n (cleared_bytes body) (b.content old) (b.content new)
  pub unwritten : b.tells → IsRefused result → SameContents (b.content old) (b.content new)
  pub others : b.tells → SameOthers n (b.content old) (b.content new)
  pub settles : b.tells → OnOk result (b.settled new n)
  pub settles_always : b.tells → OnOk result (b.settled_always new n)
  pub kept : b.tells → IsUntorn result → (k : ℕ) → (k ≢ n) ⊎ IsRefused result
      → b.settled old k → b.settled new k
  pub kept_always : IsUntorn result → (k : ℕ) → (k ≢ n) ⊎ IsRefused result
      → b.settled_always old k → b.settled_always new k
  pub images : b.tells → b.settled_always old n → (body : List ℕ) → b.content old n ≡ Some body
      → Changes b.moment b.may_leave old new (OldOrNew n (cleared_bytes body))
  pub images_unwritten : IsRefused result
      → Changes b.moment b.may_leave old new SameContents
  pub later : b.moment old ≤ b.moment new
  pub size : b.size new ≡ b.size old

-- What it came to in the page of the top of an update, by the answer.
abbrev pub ClearingCame : {D T : Type 0} → Ghosts D → Scene → D → D → ℕ → Result T PairFault
    → Type 0
ClearingCame b scene before after block (Ok _) =
    IsMarkedBy b scene before after block without_members
ClearingCame b scene before after block (Err (ReadFault half)) = IsRead b before after
ClearingCame b scene before after block (Err (WriteFault half)) =
    IsMarkTorn b scene before after block without_members
ClearingCame b scene before after block (Err (BothClosed m)) = ⊥
ClearingCame b scene before after block (Err (BadPage m why)) = ⊥

abbrev pub TopsAreCleared : {D : Type 0} → Ghosts D → Type 0
TopsAreCleared {D} b =
    (opening : State) (scripts : Scripts) (first : ℕ) (scene : Scene) (before after : D)
    (es : List Entry) (k : ℕ) (u : Update) (made : List Named) (at object block : ℕ)
    (members : List MemberValue) (left : List Link) (result : Result (Unit {0}) PairFault)
    → Stands b opening scripts first scene before es
    → IsSettingLinks scene k u made at object block members left
    → HasCleared b before after block result
    → ClearingCame b scene before after block result

-- ---- turns

-- The run stands after the turn that sets the first of the links that are left: the same is found,
-- one link less is left, and the others are left what they rely on.
abbrev pub MemberTurnStands : {D : Type 0} → Ghosts D → Type 0
MemberTurnStands {D} b =
    (opening : State) (scripts : Scripts) (first k : ℕ) (scene : Scene) (before after : D)
    (es : List Entry) (u : Update) (made : List Named) (at object block : ℕ)
    (members : List MemberValue) (link : Link) (left : List Link)
    → Stands b opening scripts first scene before es
    → IsSettingLinks scene k u made at object block members (link ∷ left)
    → IsMarkedBy b scene before after link.base (with_commit link.member.block)
    → (new : Scene) × Stands b opening scripts first new after es
    × IsMarkedTo k scene new (b.content after)
    × IsSettingLinks new k u made at object block members left

-- So it does after the turn that clears the members of the top, where none is left;
abbrev pub ClearingTurnStands : {D : Type 0} → Ghosts D → Type 0
ClearingTurnStands {D} b =
    (opening : State) (scripts : Scripts) (first k : ℕ) (scene : Scene) (before after : D)
    (es : List Entry) (u : Update) (made : List Named) (at object block : ℕ)
    (members : List MemberValue)
    → Stands b opening scripts first scene before es → members ≢ []
    → IsSettingLinks scene k u made at object block members []
    → IsMarkedBy b scene before after block without_members
    → (new : Scene) × Stands b opening scripts first new after es
    × IsMarkedTo k scene new (b.content after)
    × IsSettingLinks new k u made at object block [] []

-- The commit of an update of several files is answered: its client rests, its update is over, all
-- links of the files are set, and none of them names members.
pub record IsAnsweredCommit (k : ℕ) (u : Update) (made : List Named)
    (old new : Scene) : Type 0 where
  pub leads : Leads k old new
  pub own : client_of new.standing k
      ≡ answering (client_of old.standing k)
      (reply.Committed (serials_by made (Some u))) None
  pub resting : IsResting new.standing k
  pub rolled : IsRolledFor new.store u
  pub heads : (told : List (Option Head)) → AreHeads old told → AreHeads new told
  pub links : (j : ℕ) → 1 ≤ j → j ≢ k → LeavesLinks j old new × LeavesNames j old new

-- So the run stands where it is answered in a turn that at most reads, as no link is left and no
-- member is named,
abbrev pub AnswerTurnStands : {D : Type 0} → Ghosts D → Type 0
AnswerTurnStands {D} b =
    (opening : State) (scripts : Scripts) (first k : ℕ) (scene : Scene) (before after : D)
    (es : List Entry) (line : Line) (u : Update) (made : List Named) (at object block : ℕ)
    → Stands b opening scripts first scene before es
    → IsCommitting scripts scene.standing k line
    → IsSettingLinks scene k u made at object block [] []
    → IsRead b before after
    → Stands b opening scripts first
    (moved_to scene (b.content after) scene.states
    (after_entries scripts scene.standing (in_line k line Answered ∷ [])))
    after (es ++ in_line k line Answered ∷ [])
    × IsAnsweredCommit k u made scene
    (moved_to scene (b.content after) scene.states
    (after_entries scripts scene.standing (in_line k line Answered ∷ [])))

-- or in the turn that clears the members.
abbrev pub AnsweredClearingStands : {D : Type 0} → Ghosts D → Type 0
AnsweredClearingStands {D} b =
    (opening : State) (scripts : Scripts) (first k : ℕ) (scene : Scene) (before after : D)
    (es : List Entry) (line : Line) (u : Update) (made : List Named) (at object block : ℕ)
    (members : List MemberValue)
    → Stands b opening scripts first scene before es
    → IsCommitting scripts scene.standing k line → members ≢ []
    → IsSettingLinks scene k u made at object block members []
    → IsMarkedBy b scene before after block without_members
    → (new : Scene)
    × Stands b opening scripts first new after (es ++ in_line k line Answered ∷ [])
    × ((new.content ≡ b.content after) × (new.states ≡ scene.states)
    × (new.standing
    ≡ after_entries scripts scene.standing (in_line k line Answered ∷ [])))
    × IsAnsweredCommit k u made scene new

-- It may be answered in any turn that leads to a scene in which no link is left and no member is
-- named: so where the commit itself left none.
abbrev pub AnswerJoins : {D : Type 0} → Ghosts D → Type 0
AnswerJoins {D} b =
    (opening : State) (scripts : Scripts) (first k : ℕ) (scene mid : Scene) (before after : D)
    (es fs : List Entry) (line : Line) (u : Update) (made : List Named) (at object block : ℕ)
    → Stands b opening scripts first scene before es
    → IsTurn b scripts scene mid before after fs → IsShared mid
    → IsCommitting scripts mid.standing k line
    → IsSettingLinks mid k u made at object block [] []
    → Stands b opening scripts first
    (moved_to mid mid.content mid.states
    (after_entries scripts mid.standing (in_line k line Answered ∷ [])))
    after (es ++ (fs ++ in_line k line Answered ∷ []))
    × IsAnsweredCommit k u made mid
    (moved_to mid mid.content mid.states
    (after_entries scripts mid.standing (in_line k line Answered ∷ [])))

-- ---- faults

-- Where the write of a link fails the run stops with nothing in doubt, since both contents stand
-- for the same files;
abbrev pub MemberStops : {D : Type 0} → Ghosts D → Type 0
MemberStops {D} b =
    (opening : State) (scripts : Scripts) (first k : ℕ) (scene : Scene) (before after : D)
    (journal : Journal) (u : Update) (made : List Named) (at object block : ℕ)
    (members : List MemberValue) (link : Link) (left : List Link)
    → Stands b opening scripts first scene before journal.entries.items → journal.doubt ≡ None
    → IsSettingLinks scene k u made at object block members (link ∷ left)
    → IsMarkTorn b scene before after link.base (with_commit link.member.block)
    → HasStopped b opening scripts first after journal

-- and so it does where the clearing fails.
abbrev pub ClearingStops : {D : Type 0} → Ghosts D → Type 0
ClearingStops {D} b =
    (opening : State) (scripts : Scripts) (first k : ℕ) (scene : Scene) (before after : D)
    (journal : Journal) (u : Update) (made : List Named) (at object block : ℕ)
    (members : List MemberValue)
    → Stands b opening scripts first scene before journal.entries.items → journal.doubt ≡ None
    → members ≢ [] → IsSettingLinks scene k u made at object block members []
    → IsMarkTorn b scene before after block without_members
    → HasStopped b opening scripts first after journal

-- ---- what other turns leave

-- A turn by which the store is the same leaves each client its links,
abbrev pub SameStoreLeavesLinks : Type 0
SameStoreLeavesLinks =
    (k : ℕ) (old new : Scene) → new.store ≡ old.store
    → LeavesLinks k old new × LeavesNames k old new

-- and so does the link of a commit of one file, to whatever scene it leads.
abbrev pub CommitLeavesLinks : Type 0
CommitLeavesLinks =
    (scripts : Scripts) (k : ℕ) (old new : Scene) (line : Line) (u : Update) (w : Work)
    (root top : ℕ) (tree : Tree) (d : View) (plan : Plan) (content : Content)
    (states : List BlockState) (at : ℕ)
    → IsShared old → IsSound scripts old.standing → MayCommit scripts old.standing k line u w
    → IsWritten old k w root tree d plan → block_of plan.placed [] ≡ Some top
    → Rewrites old.content content root (with_commit top) → Replaces k Kept old.states states
    → old.standing.moment ≤ at
    → IsShared new → new.content ≡ content → new.most ≡ old.most
    → (j : ℕ) → LeavesLinks j old new × LeavesNames j old new
