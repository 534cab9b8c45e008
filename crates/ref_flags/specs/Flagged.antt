use Rattle.std.specs.Prelude.{Bool, false, ◌&&◌, ◌||◌, not}

-- what an update did at a path: copied the page, read or wrote its data, read or wrote its slots
pub record Flagged : Type 0 where
  pub copied : Bool
  pub read : Bool
  pub written : Bool
  pub searched : Bool
  pub modified : Bool

-- nothing is marked on a page that is not copied, and who modified slots has searched them
abbrev pub is_lawful : Flagged → Bool
is_lawful f = (f.copied || not (f.read || f.written || f.searched || f.modified)) && (f.searched || not f.modified)

-- no mark at all
abbrev pub no_flags : Flagged
no_flags = record { copied = false; read = false; written = false; searched = false; modified = false }
