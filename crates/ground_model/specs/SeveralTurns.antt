-- The turn of the one link that commits an update of several files, and where its write failed.
use Rattle.std.specs.Prelude.{◌≡◌, ℕ, ◌+◌, ◌≤◌, ◌<◌, ◌^◌, true, List, [], ◌∷◌, ◌++◌, length, Some}
use Rattle.block_map.specs.States.{Replaces}
use Rattle.block_map.specs.declared.states.BlockState.{BlockState}
use Rattle.block_map.specs.declared.states.BlockState.TheVariants.{Kept}
use Rattle.draft_model.specs.Flush.{are_apart, block_of}
use Rattle.pair_store.specs.declared.fault.PairFault.{PairFault}
use Rattle.pair_store.specs.declared.fault.PairFault.TheVariants.{ReadFault, WriteFault}
use Rattle.pair_store.specs.declared.fault.PairFault.TheVariants.{BothClosed, BadPage}
use Rattle.pair_store.specs.declared.outcome.Tas.{Tas}
use Rattle.pair_store.specs.declared.outcome.Tas.TheVariants.{Set, Taken}
use Rattle.pair_store.specs.declared.store.Blocks.{Ghosts}
use Rattle.script_text.specs.declared.script.Line.{Line}
use Rattle.service_model.specs.declared.journal.Entry.{Entry}
use Rattle.service_model.specs.declared.journal.Journal.{Journal}
use Rattle.service_model.specs.Standing.{Scripts, Update}
use Rattle.std.specs.Prelude.{Result, Ok, Err}
use Rattle.store_model.specs.Changes.{Rewrites, with_commit}
use Rattle.tree_model.specs.States.{State}
use Rattle.version_chain.specs.Flush.{AreHeld}
use Rattle.ground_model.specs.Commits.{commit_entry}
use Rattle.ground_model.specs.Runs.{HasPut, IsRead, Stands}
use Rattle.ground_model.specs.Scenes.{Scene}
use Rattle.ground_model.specs.Several.{AreCommitted, AreWritten, MayCommitSeveral, Renewal, places_of}
use Rattle.ground_model.specs.Stops.{HasStopped}
use Rattle.ground_model.specs.Tests.{HasTested, IsSetBy, IsTorn}

-- ---- the link

-- The update may be committed and its files are written, and the link was set by one write, in the
-- block of the version that its first file began from; the blocks that were written are kept now.
pub record IsSeveralTurn {D : Type 0} (b : Ghosts D) (scripts : Scripts) (k : ℕ) (scene : Scene)
    (before after : D) (line : Line) (u : Update) (top : Renewal) (members : List Renewal)
    (block : ℕ) (states : List BlockState) : Type 0 where
  pub may : MayCommitSeveral scripts scene.standing k line u
  pub written : AreWritten scene k u top members
  pub first : block_of top.plan.placed [] ≡ Some block
  pub bytes : List ℕ
  pub put : HasPut b before after top.root bytes
  pub rewrites : Rewrites scene.content (b.content after) top.root (with_commit block)
  pub kept : Replaces k Kept scene.states states

-- The run stands after it, with the commit noted at the moment as it returned: the versions are
-- found, all of them or, in an image of a crash, none; the others are left what they rely on.
abbrev pub SeveralTurnStands : {D : Type 0} → Ghosts D → Type 0
SeveralTurnStands {D} b =
    (opening : State) (scripts : Scripts) (first k : ℕ) (scene : Scene) (before after : D)
    (es : List Entry) (line : Line) (u : Update) (top : Renewal) (members : List Renewal)
    (block : ℕ) (states : List BlockState)
    → Stands b opening scripts first scene before es
    → IsSeveralTurn b scripts k scene before after line u top members block states
    → (new : Scene)
    × Stands b opening scripts first new after
    (es ++ commit_entry scene.standing k line u (b.moment after) ∷ [])
    × AreCommitted scripts k scene new line u top members block (b.moment after)
    (b.content after) states

-- ---- what the test-and-set came to

-- What it came to, by the answer: the link was set, or a half failed. Nobody else can have set it,
-- since the files are locked.
abbrev pub SeveralCame : {D : Type 0} → Ghosts D → Scene → D → D → Renewal → ℕ
    → Result Tas PairFault → Type 0
SeveralCame b scene before after top block (Ok Set) =
    IsSetBy b scene before after top.work.object top.work.serial top.root block
SeveralCame b scene before after top block (Ok (Taken by)) = ⊥
SeveralCame b scene before after top block (Err (ReadFault half)) = IsRead b before after
SeveralCame b scene before after top block (Err (WriteFault half)) =
    IsTorn b scene before after top.work.object top.work.serial top.root block
SeveralCame b scene before after top block (Err (BothClosed n)) = ⊥
SeveralCame b scene before after top block (Err (BadPage n why)) = ⊥

abbrev pub SeveralAreTested : {D : Type 0} → Ghosts D → Type 0
SeveralAreTested {D} b =
    (opening : State) (scripts : Scripts) (first k : ℕ) (scene : Scene) (before after : D)
    (es : List Entry) (line : Line) (u : Update) (top : Renewal) (members : List Renewal)
    (block : ℕ) (result : Result Tas PairFault)
    → Stands b opening scripts first scene before es
    → MayCommitSeveral scripts scene.standing k line u → AreWritten scene k u top members
    → 1 ≤ block → block < 2 ^ 28 → HasTested b before after top.root block result
    → SeveralCame b scene before after top block result

-- Where the write of the link failed, the run stopped with the commit in doubt, at the moment as
-- the call returned: all files have their new versions, or none has.
abbrev pub SeveralStop : {D : Type 0} → Ghosts D → Type 0
SeveralStop {D} b =
    (opening : State) (scripts : Scripts) (first k : ℕ) (scene : Scene) (before after : D)
    (journal : Journal) (line : Line) (u : Update) (top : Renewal) (members : List Renewal)
    (block : ℕ)
    → Stands b opening scripts first scene before journal.entries.items
    → MayCommitSeveral scripts scene.standing k line u → AreWritten scene k u top members
    → block_of top.plan.placed [] ≡ Some block
    → IsTorn b scene before after top.work.object top.work.serial top.root block
    → journal.doubt ≡ Some (commit_entry scene.standing k line u (b.moment after))
    → HasStopped b opening scripts first after journal

-- ---- the blocks

-- The places of these flushes are blocks that the client holds, one flush after the other: the
-- first from this one of them on, counting upwards.
abbrev pub AreHeldFrom : List BlockState → ℕ → ℕ → List Renewal → Type 0
AreHeldFrom states k from [] = Unit {0}
AreHeldFrom states k from (r ∷ rs) =
    AreHeld states k from r.plan.placed
    × AreHeldFrom states k (from + length r.plan.placed) rs

-- Of such blocks no two are one.
abbrev pub HeldAreApart : Type 0
HeldAreApart =
    (states : List BlockState) (k from : ℕ) (rs : List Renewal) → AreHeldFrom states k from rs
    → are_apart (places_of rs) ≡ true
