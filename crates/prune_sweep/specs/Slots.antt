-- Which blocks a page names, as new places and as pages of the version before.
use Rattle.std.specs.Prelude.{ℕ, nat_lt, Bool, true, ◌&&◌, Option, None, List, if◌then◌else◌}
use Rattle.std.specs.List.{list_all, filter_map}
use Rattle.std.specs.Option.{option_map_or}
use Rattle.page_codec.specs.Values.{ReferenceValue}
use Rattle.prune_sweep.specs.declared.slots.Following.{Following}
use Rattle.prune_sweep.specs.declared.slots.Following.TheVariants.{AllNew, Copies, CopiesAndShared, AllShared}

-- the block that a slot names as a new place
abbrev pub new_block : Following → ReferenceValue → Option ℕ
new_block AllNew reference = reference.block
new_block Copies reference = if reference.flags.copied then reference.block else None
new_block CopiesAndShared reference = if reference.flags.copied then reference.block else None
new_block AllShared reference = None

-- the block that a slot names as a page of the version before
abbrev pub shared_block : Following → ReferenceValue → Option ℕ
shared_block AllNew reference = None
shared_block Copies reference = None
shared_block CopiesAndShared reference = if reference.flags.copied then None else reference.block
shared_block AllShared reference = reference.block

-- those of all slots
abbrev pub new_blocks : Following → List ReferenceValue → List ℕ
new_blocks following refs = filter_map (new_block following) refs

abbrev pub shared_blocks : Following → List ReferenceValue → List ℕ
shared_blocks following refs = filter_map (shared_block following) refs

-- the block, where there is one, is below so many
abbrev pub is_within : ℕ → Option ℕ → Bool
is_within blocks block = option_map_or (λ n. nat_lt n blocks) block true

-- each slot that is followed names such a block
abbrev pub are_within : Following → ℕ → List ReferenceValue → Bool
are_within following blocks refs =
    list_all (λ reference. is_within blocks (new_block following reference) && is_within blocks (shared_block following reference)) refs
