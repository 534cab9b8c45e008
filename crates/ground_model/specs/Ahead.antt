-- The version ahead of a draft that is merged with those before it, and a walk over that version
-- from turn to turn.
use Rattle.std.specs.Prelude.{◌≡◌, ℕ, ◌+◌, ◌<◌, ◌≤◌, true, List, [], ◌∷◌, length, Some}
use Rattle.std.specs.Prelude.{None, Contains}
use Rattle.afs_base.specs.declared.kind.Kind.{Kind}
use Rattle.draft_model.specs.Views.{View}
use Rattle.joint_walk.specs.Calls.{Ends, Feeds, Settles, Starts, next_of}
use Rattle.joint_walk.specs.Walks.{IsUnderWay, WalkValue}
use Rattle.page_codec.specs.Values.{PageValue, VersionValue}
use Rattle.service_model.specs.Legal.{IsFirstClash}
use Rattle.service_model.specs.Sound.{IsOn, IsSound}
use Rattle.service_model.specs.Standing.{Made, Scripts, Update, Work, has_writes}
use Rattle.store_model.specs.Laws.{pages_of}
use Rattle.tree_model.specs.Trees.{Tree, tree_after}
use Rattle.ground_model.specs.Leaves.{KeepsVersions, Leaves}
use Rattle.ground_model.specs.Own.{HasMerged, IsBase}
use Rattle.ground_model.specs.Scenes.{Scene, IsShared}
use Rattle.ground_model.specs.Walking.{IsAhead}

-- ---- the version ahead

-- Of an object no two versions have one serial: what lies under it lies in one block, with one
-- tree.
abbrev pub OneBase : Type 0
OneBase =
    (scene : Scene) (object serial one two : ℕ) (a b : Tree) → IsShared scene
    → IsBase scene object serial one a → IsBase scene object serial two b → (one ≡ two) × (a ≡ b)

-- Where the version after those that a draft is merged with lies in this block, it is ahead of the
-- draft, by the update that made it;
abbrev pub AheadIn : Type 0
AheadIn =
    (scripts : Scripts) (scene : Scene) (k : ℕ) (w : Work) (upto root next : ℕ)
    (tree after : Tree) (d : View)
    → IsShared scene → IsSound scripts scene.standing → IsOn scene.standing k w
    → HasMerged scene w upto root tree d → IsBase scene w.object (upto + 1) next after
    → (m : Made) × (page : VersionValue) × IsAhead scene w upto root tree next m page

-- and where an update is known to have made it, by this one.
abbrev pub AheadOf : Type 0
AheadOf =
    (scripts : Scripts) (scene : Scene) (k : ℕ) (w : Work) (upto root next : ℕ)
    (tree after : Tree) (d : View) (m : Made)
    → IsShared scene → IsSound scripts scene.standing → IsOn scene.standing k w
    → HasMerged scene w upto root tree d → IsBase scene w.object (upto + 1) next after
    → Contains scene.standing.made m → m.object ≡ w.object → m.serial ≡ upto + 1
    → (page : VersionValue) × IsAhead scene w upto root tree next m page

-- ---- the walk

-- An update of one file that wrote something has steps, as a walk asks.
abbrev pub WritesHaveSteps : Type 0
WritesHaveSteps =
    (u : Update) (w : Work) → u.works ≡ w ∷ [] → has_writes u ≡ true → 0 < length w.steps

-- A walk over the version ahead of a merged draft is under way: that version lies in block `next`
-- and was made by m, the draft showed `before` as the walk began and shows d now, and so many pages
-- were fed.
pub record IsWalking (scene : Scene) (w : Work) (upto root : ℕ) (tree : Tree) (before : View)
    (next : ℕ) (m : Made) (fed : ℕ) (walk : WalkValue) (d : View) : Type 0 where
  pub merged : HasMerged scene w upto root tree before
  pub page : VersionValue
  pub ahead : IsAhead scene w upto root tree next m page
  pub some : 1 ≤ fed
  pub way : IsUnderWay (pages_of scene.content) root next tree w.steps m.steps fed walk d

-- It begins on the version page that is ahead, which is the first page that is fed;
abbrev pub WalkBegins : Type 0
WalkBegins =
    (scene : Scene) (w : Work) (upto root : ℕ) (tree : Tree) (before d : View) (next : ℕ)
    (m : Made) (page : VersionValue) (walk : WalkValue)
    → HasMerged scene w upto root tree before → IsAhead scene w upto root tree next m page
    → 0 < length w.steps → Starts before d next page.page page.root walk
    → IsWalking scene w upto root tree before next m 1 walk d

-- it goes on where the pair that waits is settled,
abbrev pub WalkSettles : Type 0
WalkSettles =
    (scene : Scene) (w : Work) (upto root : ℕ) (tree : Tree) (before d e : View) (next : ℕ)
    (m : Made) (fed : ℕ) (walk more : WalkValue)
    → IsWalking scene w upto root tree before next m fed walk d → Settles walk d more e
    → IsWalking scene w upto root tree before next m fed more e

-- and where it is fed the page that the block shows which it needs.
abbrev pub WalkFeeds : Type 0
WalkFeeds =
    (scene : Scene) (w : Work) (upto root : ℕ) (tree : Tree) (before d e : View) (next : ℕ)
    (m : Made) (fed : ℕ) (walk more : WalkValue) (path : List ℕ) (block : ℕ) (page : PageValue)
    → IsWalking scene w upto root tree before next m fed walk d
    → next_of walk ≡ Some (path, block) → pages_of scene.content block ≡ Some page
    → Feeds walk d page more e
    → IsWalking scene w upto root tree before next m (fed + 1) more e

-- Where it ends without a clash, the draft is merged with that version too;
abbrev pub WalkMerges : Type 0
WalkMerges =
    (scripts : Scripts) (scene : Scene) (w : Work) (upto root : ℕ) (tree : Tree)
    (before d : View) (next : ℕ) (m : Made) (fed : ℕ) (walk : WalkValue)
    → IsShared scene → IsSound scripts scene.standing
    → IsWalking scene w upto root tree before next m fed walk d
    → Ends walk d walk.clash → walk.clash ≡ None
    → HasMerged scene w (upto + 1) next (tree_after tree m.steps) d

-- where it ends with one, that is the first clash of the update, and with this version.
abbrev pub WalkClashes : Type 0
WalkClashes =
    (scene : Scene) (w : Work) (upto root : ℕ) (tree : Tree) (before d : View) (next : ℕ)
    (m : Made) (fed : ℕ) (walk : WalkValue) (path : List ℕ) (kind : Kind)
    → IsWalking scene w upto root tree before next m fed walk d
    → Ends walk d walk.clash → walk.clash ≡ Some (path, kind)
    → IsFirstClash scene.standing.made w (upto + 1) (path, kind)

-- ---- what others leave

-- A client that is left what it relies on finds each version of its update's file from the base on
-- where it was,
abbrev pub BaseIsLeft : Type 0
BaseIsLeft =
    (k : ℕ) (old new : Scene) (w : Work) (serial root : ℕ) (tree : Tree)
    → Leaves k old new → IsOn old.standing k w → w.serial ≤ serial
    → IsBase old w.object serial root tree → IsBase new w.object serial root tree

-- and its walk under way.
abbrev pub WalkIsLeft : Type 0
WalkIsLeft =
    (scripts : Scripts) (k : ℕ) (old new : Scene) (w : Work) (upto root : ℕ) (tree : Tree)
    (before d : View) (next : ℕ) (m : Made) (fed : ℕ) (walk : WalkValue)
    → Leaves k old new → IsShared new → IsSound scripts new.standing → IsOn old.standing k w
    → IsWalking old w upto root tree before next m fed walk d
    → IsWalking new w upto root tree before next m fed walk d

-- ---- the client's own turns

-- A version is a base where every version is there again,
abbrev pub BaseStays : Type 0
BaseStays =
    (old new : Scene) (object serial root : ℕ) (tree : Tree)
    → KeepsVersions old new → IsBase old object serial root tree
    → IsBase new object serial root tree

-- and where besides nothing was made, a merged draft stays one,
abbrev pub MergedStays : Type 0
MergedStays =
    (old new : Scene) (w : Work) (upto root : ℕ) (tree : Tree) (d : View)
    → KeepsVersions old new → new.standing.made ≡ old.standing.made
    → HasMerged old w upto root tree d → HasMerged new w upto root tree d

-- and a walk is under way as it was.
abbrev pub WalkStaysOwn : Type 0
WalkStaysOwn =
    (scripts : Scripts) (k : ℕ) (old new : Scene) (w : Work) (upto root : ℕ) (tree : Tree)
    (before d : View) (next : ℕ) (m : Made) (fed : ℕ) (walk : WalkValue)
    → KeepsVersions old new → new.standing.made ≡ old.standing.made
    → IsShared new → IsSound scripts new.standing → IsOn new.standing k w
    → IsWalking old w upto root tree before next m fed walk d
    → IsWalking new w upto root tree before next m fed walk d
