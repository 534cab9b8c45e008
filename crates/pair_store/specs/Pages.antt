-- What the calls on version pages change in them.
use Rattle.std.specs.Prelude.{ℕ, Some, List, []}
use Rattle.page_codec.specs.Reading.{version_value}
use Rattle.page_codec.specs.Spelling.{version_bytes}

-- a version page with this block as its commit reference
abbrev pub with_commit : ℕ → List ℕ → List ℕ
with_commit next body = version_bytes (record (version_value body) { commit = Some next })

-- a version page that names no members
abbrev pub without_members : List ℕ → List ℕ
without_members body = version_bytes (record (version_value body) { members = [] })
