use Rattle.std.specs.Prelude.{ℕ, ◌+◌, ◌-◌, ◌*◌, ◌/◌, ◌%◌, ◌==◌, Bool, true, not, if◌then◌else◌}
use Rattle.ref_flags.specs.Flagged.{Flagged, no_flags}
use Rattle.ref_flags.specs.declared.Mark.{Mark}
use Rattle.ref_flags.specs.declared.Mark.TheVariants.{Copy, Read, Write, Search, Modify}

-- a mark as a digit
abbrev pub bit : Bool → ℕ
bit b = if b then 1 else 0

-- 0 where the page is not copied; else one more than the digits for read, written, and searched or modified
abbrev pub code_of : Flagged → ℕ
code_of f = if f.copied then 1 + 3 * (bit f.read + 2 * bit f.written) + (if f.modified then 2 else bit f.searched) else 0

-- the marks that a code from 0 to 12 stands for
abbrev pub flags_of : ℕ → Flagged
flags_of n =
    if n == 0
    then no_flags
    else record {
      copied = true;
      read = (n - 1) / 3 % 2 == 1;
      written = not ((n - 1) / 6 == 0);
      searched = not ((n - 1) % 3 == 0);
      modified = (n - 1) % 3 == 2;
    }

-- the flags with one more mark, with "copied" beside every mark, and with "searched" beside "modified"
abbrev pub with_mark : Flagged → Mark → Flagged
with_mark f Copy = record f { copied = true }
with_mark f Read = record f { copied = true; read = true }
with_mark f Write = record f { copied = true; written = true }
with_mark f Search = record f { copied = true; searched = true }
with_mark f Modify = record f { copied = true; searched = true; modified = true }
