-- The versions of a file as they lie in blocks.
use Rattle.std.specs.Prelude.{◌≡◌, ◌↔◌, ℕ, suc, ◌<◌, ◌≤◌, true, false, List, [], ◌∷◌, ◌++◌, length, Option, Some, MatchOption, slice_get}
use Rattle.page_codec.specs.Values.{ReferenceValue, PageValue, VersionValue}
use Rattle.page_places.specs.Places.{Store, block_at}
use Rattle.store_model.specs.Laws.{pages_of}
use Rattle.store_model.specs.Changes.{version_in_block}

-- The versions' pages lie in these blocks, the oldest first: `roots`. A page of the version in block `root` lies in block n.
abbrev pub IsPage : Store → ℕ → ℕ → Type 0
IsPage pages root n = (p : List ℕ) × (block_at pages root p ≡ Some n)

-- a page of a version before place m does
abbrev pub IsPageBefore : Store → List ℕ → ℕ → ℕ → Type 0
IsPageBefore pages roots m n = (i : ℕ) × (root : ℕ) × (i < m) × (slice_get roots i ≡ Some root) × IsPage pages root n

-- a page of a version from place m on does
abbrev pub IsPageFrom : Store → List ℕ → ℕ → ℕ → Type 0
IsPageFrom pages roots m n = (i : ℕ) × (root : ℕ) × (m ≤ i) × (slice_get roots i ≡ Some root) × IsPage pages root n

-- what is freed where the versions before place m go: the blocks that one of them has, and that no kept version has
abbrev pub IsFreed : Store → List ℕ → ℕ → ℕ → Type 0
IsFreed pages roots m n = IsPageBefore pages roots m n × (IsPageFrom pages roots m n → ⊥)

-- the page at a path of the version at place i lies in block n, and no version before has that block
pub record IsOwnAt (pages : Store) (roots : List ℕ) (i : ℕ) (p : List ℕ) (n : ℕ) : Type 0 where
  pub root : ℕ
  pub at : slice_get roots i ≡ Some root
  pub lies : block_at pages root p ≡ Some n
  pub new : IsPageBefore pages roots i n → ⊥

-- the block of a page of a version is one of so many, and holds a page whose level is the length of its path
pub record IsHeldAt (pages : Store) (count : ℕ) (p : List ℕ) (n : ℕ) : Type 0 where
  pub below : n < count
  pub page : PageValue
  pub holds : pages n ≡ Some page
  pub level : page.level ≡ length p

-- The versions of a file, in a store of so many blocks. Each page of a version is held, each in a block of its own. A version's page `/` is new, and so
-- is what a new page names by the slot of a copy; any other slot of a page names the page that the version before has at that path.
pub record IsLine (pages : Store) (count : ℕ) (roots : List ℕ) : Type 0 where
  pub held : (i root : ℕ) (p : List ℕ) (n : ℕ) → slice_get roots i ≡ Some root → block_at pages root p ≡ Some n → IsHeldAt pages count p n
  pub one : (i root : ℕ) (p q : List ℕ) (n : ℕ) → slice_get roots i ≡ Some root → block_at pages root p ≡ Some n → block_at pages root q ≡ Some n → p ≡ q
  pub begins : (i root : ℕ) → slice_get roots i ≡ Some root → IsPageBefore pages roots i root → ⊥
  pub copies : (i : ℕ) (p : List ℕ) (n : ℕ) (page : PageValue) (s : ℕ) (reference : ReferenceValue) (x : ℕ)
      → IsOwnAt pages roots i p n → pages n ≡ Some page → slice_get page.refs s ≡ Some reference → reference.block ≡ Some x → reference.flags.copied ≡ true
      → IsPageBefore pages roots i x → ⊥
  pub shares : (i root next : ℕ) (p : List ℕ) (n : ℕ) (page : PageValue) (s : ℕ) (reference : ReferenceValue) (x : ℕ)
      → slice_get roots i ≡ Some root → slice_get roots (suc i) ≡ Some next
      → block_at pages next p ≡ Some n → pages n ≡ Some page → slice_get page.refs s ≡ Some reference → reference.block ≡ Some x → reference.flags.copied ≡ false
      → block_at pages root (p ++ s ∷ []) ≡ Some x

-- Those of a file of which the versions before place m go: where one stays, it is the first that does, and it alone has the serial `upto`; where none is
-- named, all go.
pub record IsFile (content : ℕ → Option (List ℕ)) (count : ℕ) (upto : Option ℕ) (roots : List ℕ) (m : ℕ) : Type 0 where
  pub line : IsLine (pages_of content) count roots
  pub some : (root : ℕ) × (slice_get roots 0 ≡ Some root)
  pub place : MatchOption upto (m ≡ length roots) (λ _. m < length roots)
  pub serials : (i root : ℕ) (version : VersionValue) → slice_get roots i ≡ Some root → i ≤ m → version_in_block content root ≡ Some version
      → (upto ≡ Some version.serial) ↔ (i ≡ m)

-- each version that goes, of those in these blocks, names the one behind it
abbrev pub AreLinked : (ℕ → Option (List ℕ)) → List ℕ → ℕ → (ℕ → Type 0) → Type 0
AreLinked content roots m Of =
    (i root : ℕ) (version : VersionValue) → slice_get roots i ≡ Some root → i < m → Of root → version_in_block content root ≡ Some version
    → version.commit ≡ slice_get roots (suc i)
