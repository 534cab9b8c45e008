-- What a test-and-set of the commit reference in the version page that a draft was merged with last
-- came to.
use Rattle.std.specs.Prelude.{◌≡◌, ◌≢◌, ◌⊎◌, ℕ, ◌<◌, ◌≤◌, ◌^◌, List, [], length, Some}
use Rattle.std.specs.Prelude.{Result, Ok, Err}
use Rattle.draft_model.specs.Flush.{block_of}
use Rattle.draft_model.specs.Views.{View}
use Rattle.drives.specs.Changes.{Changes}
use Rattle.page_codec.specs.Causes.{version_of}
use Rattle.page_codec.specs.Values.{VersionValue}
use Rattle.pair_store.specs.Answers.{IsSet, IsTested, IsUntorn, LeftAlone}
use Rattle.pair_store.specs.Blocks.{OldOrNew, SameContents, SameOthers}
use Rattle.pair_store.specs.Pages.{with_commit as commit_bytes}
use Rattle.pair_store.specs.declared.fault.PairFault.{PairFault}
use Rattle.pair_store.specs.declared.fault.PairFault.TheVariants.{ReadFault, WriteFault}
use Rattle.pair_store.specs.declared.fault.PairFault.TheVariants.{BothClosed, BadPage}
use Rattle.pair_store.specs.declared.outcome.Tas.{Tas}
use Rattle.pair_store.specs.declared.outcome.Tas.TheVariants.{Set, Taken}
use Rattle.pair_store.specs.declared.store.Blocks.{Ghosts}
use Rattle.script_text.specs.declared.script.Line.{Line}
use Rattle.service_model.specs.declared.journal.Entry.{Entry}
use Rattle.service_model.specs.declared.journal.Journal.{Journal}
use Rattle.service_model.specs.Standing.{Scripts, Update, Work, client_of, serial_of}
use Rattle.store_model.specs.Changes.{Rewrites, version_in_block, with_commit}
use Rattle.tree_model.specs.States.{State}
use Rattle.tree_model.specs.Trees.{Tree}
use Rattle.version_chain.specs.Flush.{Plan, base_of}
use Rattle.ground_model.specs.Commits.{IsWritten, MayCommit, commit_entry}
use Rattle.ground_model.specs.Names.{IsNext}
use Rattle.ground_model.specs.Own.{HasMerged, IsBase, IsFlushing}
use Rattle.ground_model.specs.Runs.{HasPut, IsRead, Stands}
use Rattle.ground_model.specs.Scenes.{Scene, IsLinking}
use Rattle.ground_model.specs.Stops.{HasStopped}

-- ---- a test-and-set

-- What a test-and-set of the commit reference in block n gives, clause by clause.
pub record HasTested {D : Type 0} (b : Ghosts D) (old new : D) (n next : ℕ)
    (result : Result Tas PairFault) : Type 0 where
  pub answer : b.tells → b.settled old n → IsTested n (b.content old n) result
  pub written : b.tells → b.settled old n → (body : List ℕ) → b.content old n ≡ Some body
      → IsSet result
      → b.content new n ≡ Some (commit_bytes next body)
  pub either : b.tells → b.settled old n → (body : List ℕ) → b.content old n ≡ Some body
      → OldOrNew n (commit_bytes next body) (b.content old) (b.content new)
  pub unwritten : b.tells → LeftAlone result → SameContents (b.content old) (b.content new)
  pub others : b.tells → SameOthers n (b.content old) (b.content new)
  pub settles : b.tells → IsSet result → b.settled new n
  pub settles_always : b.tells → IsSet result → b.settled_always new n
  pub kept : b.tells → IsUntorn result → (k : ℕ) → (k ≢ n) ⊎ LeftAlone result
      → b.settled old k → b.settled new k
  pub kept_always : IsUntorn result → (k : ℕ) → (k ≢ n) ⊎ LeftAlone result
      → b.settled_always old k → b.settled_always new k
  pub images : b.tells → b.settled_always old n → (body : List ℕ) → b.content old n ≡ Some body
      → Changes b.moment b.may_leave old new (OldOrNew n (commit_bytes next body))
  pub images_unwritten : LeftAlone result
      → Changes b.moment b.may_leave old new SameContents
  pub later : b.moment old ≤ b.moment new
  pub size : b.size new ≡ b.size old

-- The link to block `top` was set by one write, in the page of the last version.
pub record IsSetBy {D : Type 0} (b : Ghosts D) (scene : Scene) (before after : D)
    (object serial root top : ℕ) : Type 0 where
  pub last : serial ≡ serial_of scene.standing.state object
  pub bytes : List ℕ
  pub put : HasPut b before after root bytes
  pub rewrites : Rewrites scene.content (b.content after) root (with_commit top)

-- Nothing was written, since another commit has set the link to the next version.
pub record WasTaken {D : Type 0} (b : Ghosts D) (scene : Scene) (before after : D)
    (object serial by : ℕ) : Type 0 where
  pub next : IsNext scene object serial by
  pub read : IsRead b before after

-- The write of the link to block `top` failed, in the page of the last version: the block has its
-- old content, or this one with the link.
pub record IsTorn {D : Type 0} (b : Ghosts D) (scene : Scene) (before after : D)
    (object serial root top : ℕ) : Type 0 where
  pub last : serial ≡ serial_of scene.standing.state object
  pub page : VersionValue
  pub was : version_in_block scene.content root ≡ Some page
  pub bytes : List ℕ
  pub linked : version_of bytes ≡ Ok (with_commit top page)
  pub size : b.size after ≡ b.size before
  pub either : OldOrNew root bytes (b.content before) (b.content after)
  pub later : b.moment before ≤ b.moment after
  pub images : b.settled_always before root
      → Changes b.moment b.may_leave before after (OldOrNew root bytes)

-- What it came to, by the answer. A version page is never found closed or bad.
abbrev pub LinkCame : {D : Type 0} → Ghosts D → Scene → D → D → ℕ → ℕ → ℕ → ℕ
    → Result Tas PairFault → Type 0
LinkCame b scene before after object serial root top (Ok Set) =
    IsSetBy b scene before after object serial root top
LinkCame b scene before after object serial root top (Ok (Taken by)) =
    WasTaken b scene before after object serial by
LinkCame b scene before after object serial root top (Err (ReadFault half)) = IsRead b before after
LinkCame b scene before after object serial root top (Err (WriteFault half)) =
    IsTorn b scene before after object serial root top
LinkCame b scene before after object serial root top (Err (BothClosed block)) = ⊥
LinkCame b scene before after object serial root top (Err (BadPage block why)) = ⊥

-- So it came to that in a run, in the block of a version of a file whose links nobody sets.
abbrev pub SetRewrites : {D : Type 0} → Ghosts D → Type 0
SetRewrites {D} b =
    (opening : State) (scripts : Scripts) (first : ℕ) (scene : Scene) (before after : D)
    (es : List Entry) (object serial root top : ℕ) (tree : Tree) (result : Result Tas PairFault)
    → Stands b opening scripts first scene before es → IsBase scene object serial root tree
    → (IsLinking scene.standing object → ⊥) → 1 ≤ top → top < 2 ^ 28
    → HasTested b before after root top result
    → LinkCame b scene before after object serial root top result

-- ---- the commit

-- An update that is merged with the last version of its file, and whose flush for the next one is
-- done, is written.
abbrev pub MergedIsWritten : Type 0
MergedIsWritten =
    (scene : Scene) (k : ℕ) (w : Work) (upto root : ℕ) (tree : Tree) (d : View) (plan : Plan)
    → HasMerged scene w upto root tree d
    → IsFlushing scene k d (base_of root w.object upto) plan
    → plan.written ≡ length plan.placed → plan.members ≡ []
    → (client_of scene.standing k).held ≡ length plan.placed
    → upto ≡ serial_of scene.standing.state w.object → IsWritten scene k w root tree d plan

-- Where the write of its link failed, the run stopped with the commit in doubt, at the moment as
-- the call returned.
abbrev pub LinkStops : {D : Type 0} → Ghosts D → Type 0
LinkStops {D} b =
    (opening : State) (scripts : Scripts) (first k : ℕ) (scene : Scene) (before after : D)
    (journal : Journal) (line : Line) (u : Update) (w : Work) (upto root top : ℕ) (tree : Tree)
    (d : View) (plan : Plan)
    → Stands b opening scripts first scene before journal.entries.items
    → MayCommit scripts scene.standing k line u w → IsWritten scene k w root tree d plan
    → block_of plan.placed [] ≡ Some top
    → IsTorn b scene before after w.object upto root top
    → journal.doubt ≡ Some (commit_entry scene.standing k line u (b.moment after))
    → HasStopped b opening scripts first after journal
