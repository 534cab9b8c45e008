-- How large a new store is.
use Rattle.std.specs.Prelude.{ℕ, ◌+◌, ◌/◌, ◌≤◌, nat_le, if◌then◌else◌}

-- up to sixty files have their entries in block 0: that is format 1
abbrev pub format_of : ℕ → ℕ
format_of files = if nat_le files 60 then 1 else 2

-- how many parts the table has: none in format 1, and in format 2 one for each sixty-three files
abbrev pub part_count : ℕ → ℕ
part_count files = if nat_le files 60 then 0 else (files + 62) / 63

-- how many blocks are in use: the table, the version page of each file, and the parts
abbrev pub used_blocks : ℕ → ℕ
used_blocks files = 1 + files + part_count files

-- so many files and blocks make a store
pub record IsInRange (files blocks : ℕ) : Type 0 where
  pub some : 1 ≤ files
  pub most : files ≤ 4032
  pub room : used_blocks files ≤ blocks
  pub fits : blocks ≤ 65536
