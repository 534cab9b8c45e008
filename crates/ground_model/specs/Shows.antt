-- What blocks show to whoever reads them: the pages of versions, and those that drafts and walks
-- want.
use Rattle.std.specs.Prelude.{◌≡◌, ℕ, ◌<◌, ◌≤◌, List, length, Some, Result, Ok}
use Rattle.draft_model.specs.Views.{View, Wants, copies}
use Rattle.joint_walk.specs.Calls.{next_of}
use Rattle.joint_walk.specs.Walks.{WalkValue}
use Rattle.page_codec.specs.Causes.{Reads, page_of, version_of}
use Rattle.page_codec.specs.Values.{PageValue, VersionValue}
use Rattle.page_codec.specs.declared.why.BadPage.{BadPage}
use Rattle.service_model.specs.Standing.{Made, Work}
use Rattle.store_changes.specs.Stands.{IsPlace}
use Rattle.store_model.specs.Changes.{version_in_block}
use Rattle.store_model.specs.Laid.{LaidVersion}
use Rattle.store_model.specs.Laws.{pages_of}
use Rattle.tree_model.specs.Trees.{Tree}
use Rattle.ground_model.specs.Ahead.{IsWalking}
use Rattle.ground_model.specs.Own.{HasDraft, IsBase}
use Rattle.ground_model.specs.Scenes.{Scene, HasVersion, IsShared}

-- The block is a place of the store: one of its blocks, and not block 0.
pub record IsPlaceOf (scene : Scene) (block : ℕ) : Type 0 where
  pub place : IsPlace scene.places block
  pub low : 1 ≤ block
  pub high : block < scene.store.root.blocks

-- ---- versions

-- The block holds the version page of an object with this serial, and whoever decodes what it holds
-- gets this page.
pub record ShowsVersion (scene : Scene) (object serial block : ℕ) : Type 0 where
  pub lies : IsPlaceOf scene block
  pub page : VersionValue
  pub object_is : page.object ≡ object
  pub serial_is : page.serial ≡ serial
  pub held : version_in_block scene.content block ≡ Some page
  pub shows : pages_of scene.content block ≡ Some page.page
  pub body : List ℕ
  pub holds : scene.content block ≡ Some body
  pub reads : version_of body ≡ Ok page
  pub decoded : (bytes : List ℕ) (result : Result VersionValue BadPage)
      → scene.content block ≡ Some bytes → Reads result (version_of bytes) → result ≡ Ok page

-- So does the block of each version.
abbrev pub VersionShows : Type 0
VersionShows =
    (scene : Scene) (object : ℕ) (version : LaidVersion)
    → IsShared scene → HasVersion scene.store object version
    → ShowsVersion scene object version.serial version.block

-- So does a block that is a base, or where a draft is merged.
abbrev pub BaseShows : Type 0
BaseShows =
    (scene : Scene) (object serial root : ℕ) (tree : Tree)
    → IsShared scene → IsBase scene object serial root tree
    → ShowsVersion scene object serial root

-- ---- pages below them

-- The block holds a page of the level of this path, which is not `/`, and whoever decodes what it
-- holds gets this page.
pub record ShowsPage (scene : Scene) (path : List ℕ) (block : ℕ) : Type 0 where
  pub lies : IsPlaceOf scene block
  pub page : PageValue
  pub level : page.level ≡ length path
  pub below : 1 ≤ length path
  pub shows : pages_of scene.content block ≡ Some page
  pub body : List ℕ
  pub holds : scene.content block ≡ Some body
  pub reads : page_of body ≡ Ok page
  pub decoded : (bytes : List ℕ) (result : Result PageValue BadPage)
      → scene.content block ≡ Some bytes → Reads result (page_of bytes) → result ≡ Ok page

-- So does the block of each page that a draft wants,
abbrev pub WantedShows : Type 0
WantedShows =
    (scene : Scene) (w : Work) (root : ℕ) (d : View) (end q : List ℕ) (block : ℕ)
    → IsShared scene → HasDraft scene w root d → Wants (copies d) end q block
    → ShowsPage scene q block

-- and of the page that a walk needs next.
abbrev pub NeededShows : Type 0
NeededShows =
    (scene : Scene) (w : Work) (upto root : ℕ) (tree : Tree) (before d : View) (next : ℕ)
    (m : Made) (fed : ℕ) (walk : WalkValue) (path : List ℕ) (block : ℕ)
    → IsShared scene → IsWalking scene w upto root tree before next m fed walk d
    → next_of walk ≡ Some (path, block) → ShowsPage scene path block
