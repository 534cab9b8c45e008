-- The versions of a file, each one named by the commit reference of the one before.
use Rattle.std.specs.Prelude.{ℕ, zero, suc, ◌+◌, ◌==◌, Bool, true, ◌||◌, List, [], ◌∷◌, length, Option, Some, None, option_map}
use Rattle.std.specs.Option.{is_none}
use Rattle.page_codec.specs.declared.why.Why.TheVariants.{Object, Serial, Base, Code, Member}
use Rattle.page_codec.specs.Values.{VersionValue}
use Rattle.page_codec.specs.Causes.{version_of}
use Rattle.store_model.specs.Walk.{Blocks, Walk, ◌>>=◌, ◌>>◌, done, check, decoded, place, if_some}
use Rattle.store_model.specs.Laid.{Node, LaidVersion, is_block}
use Rattle.store_model.specs.Pages.{own_node, pages_below}

-- A version after the first has the next serial, names the block of the one before, and its root was copied.
unfoldable pub follows : ℕ → VersionValue → Option LaidVersion → Walk Bool
follows block version None = done true
follows block version (Some before) = do
  check (version.serial == before.serial + 1) block Serial
  check (is_block before.block version.base) block Base
  check version.root.copied block Code

-- members are named only while links are outstanding, so no version that another one follows has any
abbrev pub has_no_members : VersionValue → Bool
has_no_members version = length version.members == 0

-- the node of a version's root
abbrev pub root_node : ℕ → VersionValue → Node
root_node block version = own_node [] (record { flags = version.root; block = Some block }) block version.page

-- a version of the object in this block, after another one or as the first
unfoldable pub version_at : Blocks → ℕ → ℕ → ℕ → Option LaidVersion → Walk LaidVersion
version_at blocks object namer block before = do
  bytes ← place blocks namer block
  version ← decoded block (version_of bytes)
  check (version.object == object) block Object
  follows block version before
  check (is_none version.commit || has_no_members version) block Member
  others ← pages_below blocks (option_map (λ v. v.nodes) before) 7 block [] version.page.refs
  done
      (record {
        serial = version.serial;
        block = block;
        commit = version.commit;
        members = version.members;
        nodes = root_node block version ∷ others;
      })

-- The versions from this one on, along the commit references until one is nil. Each is a new place, so there are no more than blocks.
unfoldable pub chain_from : Blocks → ℕ → ℕ → LaidVersion → Walk (List LaidVersion)
chain_from blocks object zero version = done (version ∷ [])
chain_from blocks object (suc most) version = do
  later ← if_some version.commit (λ block. version_at blocks object version.block block (Some version) >>= chain_from blocks object most)
  done (version ∷ later)

-- the whole chain of a file whose first version is in this block
unfoldable pub chain_at : Blocks → ℕ → ℕ → ℕ → Walk (List LaidVersion)
chain_at blocks object namer block = version_at blocks object namer block None >>= chain_from blocks object blocks.count
