-- A version as the walk in code keeps it, and its root.
use Rattle.std.specs.Prelude.{◌==◌, ◌+◌, ℕ, Bool, true, ◌||◌, ◌&&◌, length, Option, Some, None}
use Rattle.std.specs.Option.{is_none}
use Rattle.page_codec.specs.declared.why.Why.TheVariants.{Object, Serial, Base, Code, Member}
use Rattle.page_codec.specs.Values.{VersionValue}
use Rattle.page_codec.specs.Causes.{version_of}
use Rattle.page_places.specs.Places.{Store}
use Rattle.store_model.specs.Walk.{Blocks, Walk, ◌>>=◌, ◌>>◌, done, check, decoded, place}
use Rattle.store_model.specs.Laid.{LaidVersion, is_block}
use Rattle.store_model.specs.Chains.{has_no_members, version_at}
use Rattle.store_check.specs.declared.version.Prior.{Prior}
use Rattle.store_check.specs.declared.version.FoundVersion.{FoundVersion}
use Rattle.store_check.specs.Before.{PagesLie}

-- what the next version is tried against
abbrev pub prior_of : LaidVersion → Prior
prior_of version = record { serial = version.serial; block = version.block }

-- what is kept of a version
abbrev pub shown_of : LaidVersion → FoundVersion
shown_of version = record { serial = version.serial; block = version.block; commit = version.commit; members = version.members }

-- the pages of a version lie, where there is one
abbrev pub OneLies : Store → ℕ → Option LaidVersion → Type 0
OneLies store count None = Unit {0}
OneLies store count (Some version) = PagesLie store count version.block version.nodes

-- a version after the first has the next serial, names the block of the one before, and its root was copied
unfoldable pub follows_prior : ℕ → VersionValue → Option Prior → Walk Bool
follows_prior block version None = done true
follows_prior block version (Some prior) = do
  check (version.serial == prior.serial + 1) block Serial
  check (is_block prior.block version.base) block Base
  check version.root.copied block Code

-- a version page of an object, after another version or as the first
unfoldable pub checked : ℕ → ℕ → Option Prior → VersionValue → Walk VersionValue
checked object block before version = do
  check (version.object == object) block Object
  follows_prior block version before
  check (is_none version.commit || has_no_members version) block Member
  done version

-- it is a new place
unfoldable pub root_at : Blocks → ℕ → ℕ → ℕ → Option Prior → Walk VersionValue
root_at blocks object namer block before = do
  bytes ← place blocks namer block
  version ← decoded block (version_of bytes)
  checked object block before version

-- a member that is not linked yet, as the next version of its file
unfoldable pub tried_at : Blocks → ℕ → ℕ → ℕ → LaidVersion → Walk LaidVersion
tried_at blocks object namer block last = do
  version ← version_at blocks object namer block (Some last)
  check (is_none version.commit && length version.members == 0) block Member
  done version
