-- What a client has of its own while it sets the links of its update of several files, from the
-- commit on until the line is answered.
use Rattle.std.specs.Prelude.{◌≡◌, ◌⊎◌, ℕ, suc, ◌-◌, ◌≤◌, true, List, [], ◌∷◌, Some, slice_get}
use Rattle.std.specs.Prelude.{Contains}
use Rattle.page_codec.specs.Values.{MemberValue}
use Rattle.service_model.specs.declared.journal.What.TheVariants.{Held, Committed}
use Rattle.service_model.specs.declared.named.Named.{Named}
use Rattle.service_model.specs.Sound.{IsOpenAt}
use Rattle.service_model.specs.Standing.{Standing, Update, client_of, has_file, need}
use Rattle.store_model.specs.Changes.{IsLinked, IsTop, Outstanding}
use Rattle.store_model.specs.Found.{LaidStore}
use Rattle.store_model.specs.Laid.{LaidFile, LaidVersion, last_laid}
use Rattle.ground_model.specs.Leaves.{Leaves}
use Rattle.ground_model.specs.Own.{IsClient}
use Rattle.ground_model.specs.Scenes.{Scene, IsLinking}

-- A link that is to be set: in the version page in block `base`, to the member's version page.
pub record Link : Type 0 where
  pub base : ℕ
  pub member : MemberValue

-- It is outstanding: the version in block `base` names no next one, and the member's version
-- follows it all the same. Objects count from 0 in stores, and from 1 in members.
pub record IsLeft (store : LaidStore) (link : Link) : Type 0 where
  pub out : Outstanding store
  pub object_is : link.member.object ≡ suc out.object
  pub base_is : out.base.block ≡ link.base
  pub next_is : out.next.block ≡ link.member.block

-- The last version of an object lies in this block, and names these members.
pub record IsTopAt (store : LaidStore) (object block : ℕ) (members : List MemberValue) : Type 0 where
  pub file : LaidFile
  pub version : LaidVersion
  pub counts : 1 ≤ object
  pub listed : slice_get store.files (object - 1) ≡ Some file
  pub last : last_laid file.versions ≡ Some version
  pub block_is : version.block ≡ block
  pub members_are : version.members ≡ members

-- The client's update of several files is committed with these versions, and its line is not
-- answered yet.
pub record HasCommitted (s : Standing) (k : ℕ) (u : Update) (made : List Named)
    (at : ℕ) : Type 0 where
  pub client : IsClient s k
  pub is_open : IsOpenAt s k u
  pub several : u.is_super ≡ true
  pub noted : (client_of s k).noted ≡ Held (need u) ∷ Committed made at ∷ []

-- Of the files of an update, whose top is this object in this block and names these members, the
-- links that are left are outstanding, and all others are set; no two are of one file, and each is
-- to a member that the top names. No other version of these files names members, and none of
-- another file names one of these.
pub record HasLinks (store : LaidStore) (u : Update) (object block : ℕ)
    (members : List MemberValue) (left : List Link) : Type 0 where
  pub mine : has_file object u ≡ true
  pub top : IsTopAt store object block members
  pub named : (i : ℕ) (m : MemberValue) → slice_get members i ≡ Some m
      → has_file m.object u ≡ true
  pub each : (i : ℕ) (l : Link) → slice_get left i ≡ Some l
      → IsLeft store l × Contains members l.member
  pub apart : (i j : ℕ) (l r : Link) → slice_get left i ≡ Some l → slice_get left j ≡ Some r
      → l.member.object ≡ r.member.object → i ≡ j
  pub set : (o : ℕ) (file : LaidFile) → has_file (suc o) u ≡ true
      → slice_get store.files o ≡ Some file
      → IsLinked file ⊎ ((l : Link) × Contains left l × (l.member.object ≡ suc o))
  pub tops : (version : LaidVersion) (t : IsTop store version) → has_file (suc t.object) u ≡ true
      → suc t.object ≡ object
  pub others : (version : LaidVersion) (t : IsTop store version) (i : ℕ) (m : MemberValue)
      → slice_get version.members i ≡ Some m → has_file m.object u ≡ true → suc t.object ≡ object

-- Client k sets these links, in this order, and then clears the top: it has committed its update,
-- and these are left. The members that the top names are those of the links that are left, and
-- perhaps of some that are set already; once it is cleared, no member is named and none is left.
pub record IsSettingLinks (scene : Scene) (k : ℕ) (u : Update) (made : List Named)
    (at object block : ℕ) (members : List MemberValue) (left : List Link) : Type 0 where
  pub committed : HasCommitted scene.standing k u made at
  pub links : HasLinks scene.store u object block members left

-- The files of whose update a client sets the links are as they were: what a turn of another client
-- leaves of them.
abbrev pub LeavesLinks : ℕ → Scene → Scene → Type 0
LeavesLinks k old new =
    (object : ℕ) (l : IsLinking old.standing object) → l.client ≡ k → 1 ≤ object
    → slice_get new.store.files (object - 1) ≡ slice_get old.store.files (object - 1)

-- Whoever names one of these files as a member did so before.
abbrev pub LeavesNames : ℕ → Scene → Scene → Type 0
LeavesNames k old new =
    (version : LaidVersion) (t : IsTop new.store version) (i : ℕ) (m : MemberValue)
    → slice_get version.members i ≡ Some m → (l : IsLinking old.standing m.object) → l.client ≡ k
    → (was : IsTop old.store version) × (was.object ≡ t.object)

-- So a client sets the links that it set, where another client's turn left it what it relies on.
abbrev pub LinksStay : Type 0
LinksStay =
    (k : ℕ) (old new : Scene) (u : Update) (made : List Named) (at object block : ℕ)
    (members : List MemberValue) (left : List Link)
    → Leaves k old new → LeavesLinks k old new → LeavesNames k old new
    → IsSettingLinks old k u made at object block members left
    → IsSettingLinks new k u made at object block members left
