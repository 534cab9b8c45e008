-- The parts of a new table lie in blocks of the store.
use Rattle.std.proofs.Common.{◌≡◌, ℕ, zero, suc, ◌+◌, ◌<◌, ◌≤◌, Bool, true, false, cond, ltb, map, refl, arith}
use Rattle.std.specs.Prelude.{Some, None}
use Rattle.std.specs.List.{range_with_len, AllByRecursion}
use Rattle.std.proofs.lemmas.Bool.{ltb-true}
use Rattle.page_codec.specs.Bounds.{IsPartBelow}
use Rattle.new_store.specs.Layout.{part_block, part_blocks}
use Rattle.new_store.specs.Sizes.{part_count, used_blocks}

chosen_below : (files blocks j : ℕ) (there : Bool) → ltb j (part_count files) ≡ there → used_blocks files ≤ blocks → IsPartBelow blocks (cond there (Some (files + 1 + j)) None)
chosen_below files blocks j true e room = let low : j < part_count files = ltb-true j (part_count files) e in (omega arith, omega (arith, low, room))
chosen_below files blocks j false e room = tt

all_below : (files blocks j n : ℕ) → used_blocks files ≤ blocks → AllByRecursion (IsPartBelow blocks) (map (part_block files) (range_with_len j n))
all_below files blocks j zero room = tt
all_below files blocks j (suc n) room = (chosen_below files blocks j (ltb j (part_count files)) refl room, all_below files blocks (j + 1) n room)

-- each part has its block
pub IsPartBelow-part_blocks : (files blocks : ℕ) → used_blocks files ≤ blocks → AllByRecursion (IsPartBelow blocks) (part_blocks files)
unfolding part_blocks
IsPartBelow-part_blocks files blocks room = all_below files blocks 0 64 room
