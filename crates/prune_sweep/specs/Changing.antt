-- What may happen to the blocks of a file while a sweep of it is under way.
use Rattle.std.specs.Prelude.{◌≡◌, ℕ, ◌<◌, ◌≤◌, List, length, Option, Some, slice_get}
use Rattle.page_codec.specs.Values.{VersionValue}
use Rattle.store_model.specs.Laws.{pages_of}
use Rattle.store_model.specs.Changes.{version_in_block, with_commit, without_members}
use Rattle.prune_sweep.specs.declared.progress.Progress.{Progress}
use Rattle.prune_sweep.specs.Marks.{mark_at}
use Rattle.prune_sweep.specs.Line.{IsPageFrom, IsFile}
use Rattle.prune_sweep.specs.Sweeping.{IsUnread, Sweeps}

-- the block holds what it held, or a version page that has got its commit reference or lost its members
pub data HasGot (c d : ℕ → Option (List ℕ)) (n : ℕ) (MayLink : Type 0) : Type 0 where
  nothing : d n ≡ c n → HasGot c d n MayLink
  reference : MayLink → (version : VersionValue) (next : ℕ) → version_in_block c n ≡ Some version → version_in_block d n ≡ Some (with_commit next version) → HasGot c d n MayLink
  no_members : (version : VersionValue) → version_in_block c n ≡ Some version → version_in_block d n ≡ Some (without_members version) → HasGot c d n MayLink

-- it is the page of a version that goes, and it was not read yet
abbrev pub IsToGo : List ℕ → ℕ → Progress → ℕ → Type 0
IsToGo roots m known n = (i : ℕ) × (i < m) × (slice_get roots i ≡ Some n) × IsUnread (mark_at known.marks n)

-- Of the blocks of the file, some version pages have got a commit reference or lost their members, and no other block was written; and a version that goes
-- and whose page was not read yet has the commit reference that it had. Blocks that the file does not have may hold anything.
abbrev pub ChangesSo : (ℕ → Option (List ℕ)) → (ℕ → Option (List ℕ)) → List ℕ → ℕ → Progress → Type 0
ChangesSo c d roots m known = (n : ℕ) → IsPageFrom (pages_of c) roots 0 n → HasGot c d n (IsToGo roots m known n → ⊥)

-- Then a sweep goes on being a sweep of the same file.
abbrev pub SweepingGoesOn : Type 0
SweepingGoesOn =
    (c d : ℕ → Option (List ℕ)) (roots : List ℕ) (m : ℕ) (known : Progress) → Sweeps c roots m known → ChangesSo c d roots m known → Sweeps d roots m known

-- Where the file has got more versions behind those that the sweep reads, it is one of the longer file.
abbrev pub SweepingGrows : Type 0
SweepingGrows =
    (content : ℕ → Option (List ℕ)) (roots longer : List ℕ) (m : ℕ) (known : Progress) → Sweeps content roots m known
    → IsFile content (length known.marks) known.upto longer m → ((i : ℕ) → i ≤ m → slice_get longer i ≡ slice_get roots i)
    → Sweeps content longer m known
