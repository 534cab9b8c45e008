-- What blocks say, without how it lies in memory.
use Rattle.std.specs.Prelude.{ℕ, Option, List}
use Rattle.ref_flags.specs.Flagged.{Flagged}

-- a slot of a page: the block of the page below, or none, with the marks of the update that wrote it
pub record ReferenceValue : Type 0 where
  pub flags : Flagged
  pub block : Option ℕ

-- a page: the length of its path, the mask of the slots that its update modified, its slots and its data
pub record PageValue : Type 0 where
  pub level : ℕ
  pub modified : ℕ
  pub refs : List ReferenceValue
  pub bytes : List ℕ

-- another file's version page that is to be linked together with this one
pub record MemberValue : Type 0 where
  pub object : ℕ
  pub block : ℕ

-- a version page: the marks of `/`, the page `/`, the file, the serial, the blocks of the next and of the last version
pub record VersionValue : Type 0 where
  pub root : Flagged
  pub page : PageValue
  pub object : ℕ
  pub serial : ℕ
  pub commit : Option ℕ
  pub base : Option ℕ
  pub members : List MemberValue

-- a file in the table: the block of its first version, or none, the generation, and the secret of eight bytes
pub record EntryValue : Type 0 where
  pub first : Option ℕ
  pub generation : ℕ
  pub secret : List ℕ

-- block 0: in format 1 with sixty entries, in format 2 with the blocks of up to sixty-four parts
pub record RootValue : Type 0 where
  pub format : ℕ
  pub blocks : ℕ
  pub key : ℕ
  pub parts : List (Option ℕ)
  pub first : List EntryValue

-- a whole table: sixty entries in format 1, and 4,032 in format 2
pub record TableValue : Type 0 where
  pub format : ℕ
  pub blocks : ℕ
  pub key : ℕ
  pub parts : List (Option ℕ)
  pub entries : List EntryValue
