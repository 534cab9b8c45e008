-- The versions of a file as a list of blocks, the first one first.
use Rattle.std.specs.Prelude.{◌≡◌, ℕ, List, [], ◌∷◌, ◌++◌, Option, Some, None}
use Rattle.page_codec.specs.Values.{VersionValue}

-- the version page that each block decodes to, where it does
abbrev pub Versions : Type 0
Versions = ℕ → Option VersionValue

-- From `next` on these blocks hold version pages, each of which is the commit reference of the one before; the last of them has the commit
-- reference `after`.
abbrev pub AreLinked : Versions → Option ℕ → List ℕ → Option ℕ → Type 0
AreLinked versions next [] after = after ≡ next
AreLinked versions None (b ∷ blocks) after = ⊥
AreLinked versions (Some at) (b ∷ blocks) after =
    (version : VersionValue) × (b ≡ at) × (versions b ≡ Some version) × AreLinked versions version.commit blocks after

-- all versions from the first one to the one without a commit reference
abbrev pub IsChain : Versions → ℕ → List ℕ → Type 0
IsChain versions first blocks = AreLinked versions (Some first) blocks None

-- the last of these blocks, or the first block of the chain where there are none
abbrev pub last_of : ℕ → List ℕ → ℕ
last_of first [] = first
last_of first (b ∷ blocks) = last_of b blocks

-- how far a chain was followed: the block that was read last, or the first one where none was, and the block that is read next
pub record Followed : Type 0 where
  pub last : ℕ
  pub next : Option ℕ

-- from the first block on, these are the blocks that were read
pub record HasRead (versions : Versions) (first : ℕ) (followed : Followed) (blocks : List ℕ) : Type 0 where
  pub linked : AreLinked versions (Some first) blocks followed.next
  pub last : followed.last ≡ last_of first blocks

-- nothing was read yet
abbrev pub Begins : ℕ → Followed → Type 0
Begins first followed = (versions : Versions) → HasRead versions first followed []

-- one block more was read, where it holds this version page
abbrev pub ReadsOn : Followed → Followed → ℕ → VersionValue → Type 0
ReadsOn old new block version =
    (versions : Versions) (first : ℕ) (blocks : List ℕ) → HasRead versions first old blocks → versions block ≡ Some version
    → HasRead versions first new (blocks ++ block ∷ [])

-- where no block is needed the whole chain was read, there is no other, and its last version lies in this block
pub record IsWhole (versions : Versions) (first : ℕ) (blocks : List ℕ) (last : ℕ) : Type 0 where
  pub chain : IsChain versions first blocks
  pub only : (others : List ℕ) → IsChain versions first others → others ≡ blocks
  pub last_is : last ≡ last_of first blocks

abbrev pub Ends : Followed → ℕ → Type 0
Ends followed last =
    followed.next ≡ None → (versions : Versions) (first : ℕ) (blocks : List ℕ) → HasRead versions first followed blocks
    → IsWhole versions first blocks last
