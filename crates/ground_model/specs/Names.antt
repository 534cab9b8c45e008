-- What the version page of a version names: the block of the next version of its file, or none.
use Rattle.std.specs.Prelude.{◌≡◌, ℕ, ◌+◌, ◌<◌, ◌≤◌, false, Option, Some, None}
use Rattle.page_codec.specs.Values.{VersionValue}
use Rattle.service_model.specs.Sound.{IsOpenAt}
use Rattle.service_model.specs.Standing.{Standing, Update, locked_by, serial_of}
use Rattle.store_model.specs.Changes.{version_in_block}
use Rattle.tree_model.specs.Trees.{Tree}
use Rattle.ground_model.specs.Own.{IsBase}
use Rattle.ground_model.specs.Scenes.{Scene, IsLinking, IsShared}

-- Where no other client has a file locked, and the client's own update is of one file, nobody sets
-- the links of that file.
abbrev pub UnlockedIsUnlinked : Type 0
UnlockedIsUnlinked =
    (s : Standing) (k : ℕ) (u : Update) (object : ℕ) → IsOpenAt s k u → u.is_super ≡ false
    → locked_by s k object ≡ None → IsLinking s object → ⊥

-- No version of a file is later than its last one.
abbrev pub BaseIsLow : Type 0
BaseIsLow =
    (scene : Scene) (object serial root : ℕ) (tree : Tree) → IsShared scene
    → IsBase scene object serial root tree → serial ≤ serial_of scene.standing.state object

-- The next version of a file after the one with this serial lies in this block.
pub record IsNext (scene : Scene) (object serial block : ℕ) : Type 0 where
  pub less : serial < serial_of scene.standing.state object
  pub tree : Tree
  pub base : IsBase scene object (serial + 1) block tree

-- The page of a version with this serial names the next version of its file where there is one, and
-- none where it is the last; so what it names tells which it is.
pub record NamesNext (scene : Scene) (object serial : ℕ) (commit : Option ℕ) : Type 0 where
  pub most : serial ≤ serial_of scene.standing.state object
  pub next : serial < serial_of scene.standing.state object
      → (block : ℕ) × (commit ≡ Some block) × IsNext scene object serial block
  pub last : serial ≡ serial_of scene.standing.state object → commit ≡ None
  pub some : (block : ℕ) → commit ≡ Some block → IsNext scene object serial block
  pub none : commit ≡ None → serial ≡ serial_of scene.standing.state object

-- So it is of each version of a file whose links nobody sets.
abbrev pub CommitNames : Type 0
CommitNames =
    (scene : Scene) (object serial root : ℕ) (tree : Tree) (page : VersionValue)
    → IsShared scene → (IsLinking scene.standing object → ⊥)
    → IsBase scene object serial root tree → version_in_block scene.content root ≡ Some page
    → NamesNext scene object serial page.commit
