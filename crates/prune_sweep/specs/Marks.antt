-- What a sweep knows of each block, block 0 first.
use Rattle.std.specs.Prelude.{ℕ, suc, Bool, true, false, List, [], ◌∷◌, sum_by, slice_index_or, if◌then◌else◌}
use Rattle.prune_sweep.specs.declared.mark.Mark.{Mark}
use Rattle.prune_sweep.specs.declared.mark.Mark.TheVariants.{Unseen, Next, Wanted, Shared, Found, Kept}

-- the mark of a block; past the end none was seen
abbrev pub mark_at : List Mark → ℕ → Mark
mark_at marks n = slice_index_or marks n Unseen

-- no page that was read names the block
abbrev pub is_unseen : Mark → Bool
is_unseen Unseen = true
is_unseen Next = false
is_unseen (Wanted level) = false
is_unseen (Shared level) = false
is_unseen Found = false
is_unseen Kept = false

-- the page is to be read before this version was read whole
abbrev pub is_open : Mark → Bool
is_open Unseen = false
is_open Next = false
is_open (Wanted level) = true
is_open (Shared level) = true
is_open Found = false
is_open Kept = false

-- the page is to be read
abbrev pub is_to_read : Mark → Bool
is_to_read Unseen = false
is_to_read Next = true
is_to_read (Wanted level) = true
is_to_read (Shared level) = true
is_to_read Found = false
is_to_read Kept = false

-- a page that was read, and which only versions that go have, as far as was read
abbrev pub is_found : Mark → Bool
is_found Unseen = false
is_found Next = false
is_found (Wanted level) = false
is_found (Shared level) = false
is_found Found = true
is_found Kept = false

-- the mark of a page of this level that the version that stays shares with an earlier one
abbrev pub as_shared : ℕ → Mark → Mark
as_shared level Unseen = Shared level
as_shared level Next = Next
as_shared level (Wanted own) = Wanted own
as_shared level (Shared before) = Shared before
as_shared level Found = Shared level
as_shared level Kept = Kept

-- how many more reads of the block there are at the most
abbrev pub reads_left : Mark → ℕ
reads_left Unseen = 2
reads_left Next = 2
reads_left (Wanted level) = 2
reads_left (Shared level) = 1
reads_left Found = 1
reads_left Kept = 0

-- and of all blocks
abbrev pub left_of : List Mark → ℕ
left_of marks = sum_by reads_left marks

-- the blocks that were found, ascending, of marks that begin at block n
abbrev pub found_from : ℕ → List Mark → List ℕ
found_from n [] = []
found_from n (mark ∷ marks) = if is_found mark then n ∷ found_from (suc n) marks else found_from (suc n) marks
