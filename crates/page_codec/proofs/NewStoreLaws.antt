-- The blocks that a new store names are below its number of blocks.
use Rattle.std.proofs.Common.{◌≡◌, ℕ, zero, suc, ◌+◌, ◌<◌, ◌≤◌, Bool, true, false, cond, leb, map, replicate, refl, arith}
use Rattle.std.specs.Prelude.{Some, None}
use Rattle.std.specs.List.{range_with_len, AllByRecursion}
use Rattle.std.proofs.lemmas.Bool.{leb-true}
use Rattle.page_codec.specs.Blank.{no_entry, no_parts}
use Rattle.page_codec.specs.Bounds.{IsFirstBelow, IsPartBelow}
use Rattle.page_codec.specs.NewStore.{new_entry, new_entries, secret_of}

chosen_below : (files blocks key object : ℕ) (live : Bool) → leb object files ≡ live → files < blocks
    → IsFirstBelow blocks (cond live (record { first = Some object; generation = 1; secret = secret_of key object 1 }) no_entry)
chosen_below files blocks key object true e h = let small : object ≤ files = leb-true object files e in omega arith
chosen_below files blocks key object false e h = tt

entries_below : (files blocks key object n : ℕ) → files < blocks → AllByRecursion (IsFirstBelow blocks) (map (new_entry files key) (range_with_len object n))
entries_below files blocks key object zero h = tt
entries_below files blocks key object (suc n) h = (chosen_below files blocks key object (leb object files) refl h, entries_below files blocks key (object + 1) n h)

-- each file of a new store has its block
pub IsFirstBelow-new_entries : (files blocks key : ℕ) → files < blocks → AllByRecursion (IsFirstBelow blocks) (new_entries files key)
unfolding new_entries
IsFirstBelow-new_entries files blocks key h = entries_below files blocks key 1 60 h

nones_below : (blocks n : ℕ) → AllByRecursion (IsPartBelow blocks) (replicate n None)
nones_below blocks zero = tt
nones_below blocks (suc n) = (tt, nones_below blocks n)

-- no part names no block
pub IsPartBelow-no_parts : (blocks : ℕ) → AllByRecursion (IsPartBelow blocks) no_parts
unfolding no_parts
IsPartBelow-no_parts blocks = nones_below blocks 64
