-- What becomes of a block in memory whose version page is changed.
use Rattle.std.specs.Prelude.{◌≡◌, ℕ, Some, None, List, Result, Ok, Err, slice_index}
use Rattle.page_codec.specs.declared.why.BadPage.{BadPage}
use Rattle.page_codec.specs.Values.{VersionValue}
use Rattle.page_codec.specs.Causes.{version_of}
use Rattle.pair_store.specs.declared.outcome.Tas.{Tas}
use Rattle.pair_store.specs.declared.outcome.Tas.TheVariants.{Set, Taken}
use Rattle.pair_store.specs.Pages.{with_commit, without_members}

-- the bytes of a new block, with an open gate
pub record IsWhole (bytes after : List ℕ) : Type 0 where
  pub is : after ≡ bytes
  pub opened : slice_index after 0 ≡ 165

-- a nil commit reference is set
abbrev pub SetsCommit : ℕ → List ℕ → List ℕ → Result Tas BadPage → Type 0
SetsCommit next before after (Ok Set) = (v : VersionValue) × (version_of before ≡ Ok v) × (v.commit ≡ None) × IsWhole (with_commit next before) after
SetsCommit next before after (Ok (Taken by)) = (v : VersionValue) × (version_of before ≡ Ok v) × (v.commit ≡ Some by)
SetsCommit next before after (Err e) = version_of before ≡ Err e.why

-- no members are left
abbrev pub ClearsMembers : {T : Type 0} → List ℕ → List ℕ → Result T BadPage → Type 0
ClearsMembers before after (Ok _) = (v : VersionValue) × (version_of before ≡ Ok v) × IsWhole (without_members before) after
ClearsMembers before after (Err e) = version_of before ≡ Err e.why
