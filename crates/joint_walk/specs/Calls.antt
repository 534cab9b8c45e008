-- What each call of a walk does, and what that means for whatever the walk is under way with.
use Rattle.std.specs.Prelude.{◌≡◌, ℕ, ◌+◌, ◌*◌, ◌<◌, Bool, true, ◌&&◌, nat_lt, List, [], ◌∷◌, ◌++◌, length, Option, Some, None, option_map}
use Rattle.afs_base.specs.declared.kind.Kind.{Kind}
use Rattle.ref_flags.specs.Flagged.{Flagged}
use Rattle.tree_model.specs.declared.step.Step.{Step}
use Rattle.tree_model.specs.Trees.{Tree}
use Rattle.tree_model.specs.Accesses.{Place}
use Rattle.page_codec.specs.Values.{PageValue}
use Rattle.page_places.specs.Places.{Store}
use Rattle.draft_model.specs.Views.{View}
use Rattle.draft_model.specs.Stands.{StandsFor}
use Rattle.draft_tree.specs.declared.draft.Draft.{Ghosts}
use Rattle.page_merge.specs.Jobs.{JobValue, clash_of, merged}
use Rattle.joint_walk.specs.declared.settled.Settled.{Settled}
use Rattle.joint_walk.specs.declared.settled.Settled.TheVariants.{NoPair, ByOffer, ByWalk}
use Rattle.joint_walk.specs.Later.{IsLater, AreMarks}
use Rattle.joint_walk.specs.Pairs.{IsJobOf, accesses_child, settled_view}
use Rattle.joint_walk.specs.Walks.{Pending, Pair, WalkValue, wanted_children, IsUnderWay}
use Rattle.joint_walk.specs.Endings.{EndsBy}

-- ---- the list of pages to be read fits its room

-- behind each of these stand at most sixteen for each slot of its path
abbrev pub is_bounded : List Pending → Bool
is_bounded [] = true
is_bounded (x ∷ pending) = nat_lt (length pending) (16 * length x.path + 1) && is_bounded pending

-- the first of them
abbrev pub first_of : List Pending → Option Pending
first_of [] = None
first_of (x ∷ pending) = Some x

-- the path and the block of the first page that is to be read
abbrev pub next_of : WalkValue → Option (List ℕ × ℕ)
next_of w = option_map (λ x. (x.path, x.block)) (first_of w.pending)

-- the job of the pair that waits
abbrev pub waiting_job : WalkValue → Option JobValue
waiting_job w = option_map (λ x. x.job) w.pair

-- ---- what a call does

-- the walk and the draft after the pair that waits was settled
abbrev pub settled_by : WalkValue → Pair → Option Kind → WalkValue
settled_by w x None = record { pair = None; pending = w.pending; clash = w.clash }
settled_by w x (Some kind) = record { pair = None; pending = []; clash = Some (x.path, kind) }

abbrev pub draft_by : View → Pair → Option Kind → View
draft_by d x None = settled_view d x.path (merged x.job)
draft_by d x (Some kind) = d

abbrev pub settled_if : WalkValue → Option Pair → WalkValue
settled_if w None = w
settled_if w (Some x) = settled_by w x (clash_of x.job)

abbrev pub draft_if : View → Option Pair → View
draft_if d None = d
draft_if d (Some x) = draft_by d x (clash_of x.job)

-- who did a job: what is offered, exactly where it is the outcome of this very job
abbrev pub WasDone : JobValue → Option JobValue → Settled → Type 0
WasDone job offer NoPair = ⊥
WasDone job offer ByOffer = offer ≡ Some job
WasDone job offer ByWalk = offer ≡ Some job → ⊥

abbrev pub WasSettled : Option Pair → Option JobValue → Settled → Type 0
WasSettled None offer by = by ≡ NoPair
WasSettled (Some x) offer by = WasDone x.job offer by

-- the walk after `page` was fed for the first page that was to be read
abbrev pub fed_walk : View → Pending → List Pending → PageValue → JobValue → Option Place → WalkValue
fed_walk d x tail page job clash =
    record {
      pair = Some (record { path = x.path; job = job });
      pending = wanted_children (accesses_child d x.path) x.path 0 page.refs ++ tail;
      clash = clash;
    }

-- a page is fed, once no pair waits: nothing changes where none is needed, else the page is a pair with the draft's own
abbrev pub FedOn : View → PageValue → WalkValue → WalkValue → List Pending → Type 0
FedOn d page w after [] = after ≡ w
FedOn d page w after (x ∷ tail) = (job : JobValue) × IsJobOf d x.path page x.flags job × (after ≡ fed_walk d x tail page job w.clash)

abbrev pub FedBy : View → PageValue → WalkValue → WalkValue → Type 0
FedBy d page w after = FedOn d page w after w.pending

-- `/` in a version page
abbrev pub top_of : ℕ → Flagged → Pending
top_of root flags = record { path = []; block = root; flags = flags }

-- the walk has the pair of `/`, and the pages below it that it wants
abbrev pub BeganWith : View → ℕ → PageValue → Flagged → WalkValue → Type 0
BeganWith d root page flags w = (job : JobValue) × IsJobOf d [] page flags job × (w ≡ fed_walk d (top_of root flags) [] page job None)

-- the draft's base is the version with this serial in this block; its file and its counts are as before
pub record IsOnBase {D : Type 0} (g : Ghosts D) (old new : D) (block number : ℕ) : Type 0 where
  pub root : g.root_of new ≡ block
  pub serial : g.serial_of new ≡ number
  pub object : g.object_of new ≡ g.object_of old
  pub count : g.count_of new ≡ g.count_of old
  pub fed : g.fed_of new ≡ g.fed_of old

-- nothing of the draft changes but what it shows
abbrev pub ChangesPages : {D : Type 0} → Ghosts D → D → D → Type 0
ChangesPages g old new = IsOnBase g old new (g.root_of old) (g.serial_of old)

-- ---- what that means

-- whatever the draft stood for, with at least one step: the walk is under way to the version that the block holds
abbrev pub Starts : View → View → ℕ → PageValue → Flagged → WalkValue → Type 0
Starts old new root page flags w =
    (store : Store) (base : ℕ) (a : Tree) (mine other : List Step)
    → StandsFor store base a mine old → 0 < length mine → IsLater store base root a other → AreMarks a other [] flags → store root ≡ Some page
    → IsUnderWay store base root a mine other 1 w new

-- whatever the walk was under way with, it still is
abbrev pub Settles : WalkValue → View → WalkValue → View → Type 0
Settles w d w' d' = (store : Store) (base root : ℕ) (a : Tree) (mine other : List Step) (n : ℕ) → IsUnderWay store base root a mine other n w d → IsUnderWay store base root a mine other n w' d'

-- the page was read from the block that is needed
abbrev pub IsRead : Store → PageValue → List Pending → Type 0
IsRead store page [] = ⊥
IsRead store page (x ∷ pending) = store x.block ≡ Some page

-- .. and one page more was fed
abbrev pub Feeds : WalkValue → View → PageValue → WalkValue → View → Type 0
Feeds w d page w' d' =
    (store : Store) (base root : ℕ) (a : Tree) (mine other : List Step) (n : ℕ) → IsUnderWay store base root a mine other n w d → IsRead store page w.pending
    → IsUnderWay store base root a mine other (n + 1) w' d'

-- whatever the walk was under way with, the draft was carried over to the later version, or this is the least clash
abbrev pub Ends : WalkValue → View → Option Place → Type 0
Ends w d clash =
    (store : Store) (base root : ℕ) (a : Tree) (mine other : List Step) (n : ℕ) → IsUnderWay store base root a mine other n w d → EndsBy store root a mine other n d clash
