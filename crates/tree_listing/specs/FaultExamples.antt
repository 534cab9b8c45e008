-- Versions made by hand, and which of their pages are at fault. Each line is checked by computing.
use Rattle.std.specs.Prelude.{ℕ, List, [], ◌∷◌, Option, Some, None, Result, refl}
use Rattle.page_codec.specs.declared.why.Why.{Why}
use Rattle.page_codec.specs.declared.why.Why.TheVariants as why
use Rattle.page_codec.specs.Values.{PageValue, ReferenceValue}
use Rattle.page_codec.specs.Numbers.{big_endian, number_at, zeros, pieces}
use Rattle.page_codec.specs.Spelling.{frame_bytes, version_middle, page_bytes, version_bytes}
use Rattle.page_codec.specs.Reading.{slots, frame_value, members_value, version_value}
use Rattle.page_codec.specs.Causes.{page_causes, version_causes}
use Rattle.store_model.specs.Walk.{Blocks, Refused}
use Rattle.store_model.specs.Examples.{Store, content_of, empty_slot, page, shared, version}
use Rattle.tree_listing.specs.FirstFault.{HasFault, block_named, page_as, page_named, root_in}

-- a store of six blocks: block 0, which is none of the version's, and then these
abbrev pub six : Store → Blocks
six blocks = record { content = content_of (None ∷ blocks); count = 6 }

abbrev pub refused_at : ℕ → Why → Refused
refused_at block cause = record { block = block; why = cause }

-- the version page in block 1, with these slots 0 and 1
abbrev pub top : ReferenceValue → ReferenceValue → Option (List ℕ)
top first second = Some (version_bytes (version 1 1 0 None None (page 0 first second [])))

-- a page below `/`, of this level, with this slot 0
abbrev pub below : ℕ → ReferenceValue → Option (List ℕ)
below level first = Some (page_bytes (page level first empty_slot (10 ∷ [])))

-- `/` in block 1, `/0` in block 2, `/1` in block 3 and `/0/0` in block 4; block 5 is closed
abbrev pub four_pages : Store
four_pages = top (shared 2) (shared 3) ∷ below 1 (shared 4) ∷ below 1 empty_slot ∷ below 2 empty_slot ∷ None ∷ []

-- .. where `/0/0` is of level 3, and `/1` is in the block that is closed
abbrev pub two_faults : Store
two_faults = top (shared 2) (shared 5) ∷ below 1 (shared 4) ∷ below 1 empty_slot ∷ below 3 empty_slot ∷ None ∷ []

-- .. and where `/0` and `/1` are of levels 2 and 3
abbrev pub two_levels : Store
two_levels = top (shared 2) (shared 3) ∷ below 2 empty_slot ∷ below 3 empty_slot ∷ None ∷ None ∷ []

-- the page at a path, as a block has it
unfoldable pub page_in : Blocks → List ℕ → ℕ → ℕ → Result PageValue Refused
unfolding big_endian number_at zeros pieces frame_bytes version_middle page_bytes version_bytes slots frame_value members_value version_value page_causes version_causes block_named page_named root_in
page_in blocks path namer block = page_as blocks path namer block

-- ---- the version's own block

-- it lies beyond the store
pub no_such_root : HasFault (six four_pages) 6 [] (refused_at 6 why.Reference)
unfolding page_in
no_such_root = record { namer = 6; block = 6; named_in = refl; lies_in = refl; refused = refl }

pub closed_root : HasFault (six four_pages) 5 [] (refused_at 5 why.Closed)
unfolding page_in
closed_root = record { namer = 5; block = 5; named_in = refl; lies_in = refl; refused = refl }

-- it holds a page below `/`
pub low_root : HasFault (six four_pages) 2 [] (refused_at 2 why.Kind)
unfolding page_in
low_root = record { namer = 2; block = 2; named_in = refl; lies_in = refl; refused = refl }

-- ---- pages below

-- slot 0 of `/` names a block beyond the store: block 1 is blamed, in which `/` lies
pub no_such_page : HasFault (six (top (shared 6) empty_slot ∷ [])) 1 (0 ∷ []) (refused_at 1 why.Reference)
unfolding page_in
no_such_page = record { namer = 1; block = 6; named_in = refl; lies_in = refl; refused = refl }

-- .. and two levels below, block 2
pub no_such_leaf : HasFault (six (top (shared 2) empty_slot ∷ below 1 (shared 6) ∷ [])) 1 (0 ∷ 0 ∷ []) (refused_at 2 why.Reference)
unfolding page_in
no_such_leaf = record { namer = 2; block = 6; named_in = refl; lies_in = refl; refused = refl }

-- it names a version page
pub page_of_a_root : HasFault (six (top (shared 1) empty_slot ∷ [])) 1 (0 ∷ []) (refused_at 1 why.Kind)
unfolding page_in
page_of_a_root = record { namer = 1; block = 1; named_in = refl; lies_in = refl; refused = refl }

pub closed_page : HasFault (six two_faults) 1 (1 ∷ []) (refused_at 5 why.Closed)
unfolding page_in
closed_page = record { namer = 1; block = 5; named_in = refl; lies_in = refl; refused = refl }

-- a lawful block, of a page one level deeper
pub low_page : HasFault (six two_faults) 1 (0 ∷ 0 ∷ []) (refused_at 4 why.Level)
unfolding page_in
low_page = record { namer = 2; block = 4; named_in = refl; lies_in = refl; refused = refl }
