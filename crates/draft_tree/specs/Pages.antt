-- The pages of a draft as the list of its entries, in the order of their paths.
use Rattle.std.specs.Prelude.{◌≡◌, ℕ, ◌<◌, Bool, false, not, ◌&&◌, ◌||◌, if◌then◌else◌, List, [], ◌∷◌, ◌++◌, length, Option, Some, None, option_map, is_some}
use Rattle.afs_base.specs.Path.{is_prefix}
use Rattle.page_places.specs.Places.{same, slot_block}
use Rattle.draft_model.specs.Views.{Copied, View, PageCopy, Copies, live}
use Rattle.draft_model.specs.Steps.{way_bit}
use Rattle.draft_model.specs.Entries.{Entry, shown}
use Rattle.draft_model.specs.Told.{is_accessed}
use Rattle.draft_tree.specs.Marking.{searched_more, taken_away}

-- the entries show just this
abbrev pub Shows : List Entry → View → Type 0
Shows pages d = (p : List ℕ) → shown pages p ≡ d p

-- nothing stands at a path of more than seven slots
abbrev pub IsShort : List Entry → Type 0
IsShort pages = (p : List ℕ) → 7 < length p → is_some (shown pages p) ≡ false

-- at one path a page changed, all others are as before
abbrev pub changed : View → List ℕ → (Copied → Copied) → View
changed d q f p = if same p q then option_map f (d p) else d p

-- at one path stands this page now, all others are as before
abbrev pub put : View → List ℕ → Copied → View
put d q c p = if same p q then Some c else d p

-- the slots on the way to q were read
abbrev pub searched_to : View → List ℕ → View
searched_to d q p = option_map (searched_more (way_bit p q)) (d p)

-- the pages at and below a path are no longer there
abbrev pub cut_below : View → List ℕ → View
cut_below d q p = if is_prefix q p then option_map taken_away (d p) else d p

-- the page stays when the base changes: it is `/`, or the update accessed it
abbrev pub is_kept : List ℕ → Copied → Bool
is_kept p c = same p [] || is_accessed c

-- the block of a page that is wanted in a slot: the page above is there, its child is not, and the slot names a block
abbrev pub wanted_of : Bool → Option PageCopy → ℕ → Option ℕ
wanted_of there None s = None
wanted_of there (Some c) s = if c.live && not there then slot_block c.page s else None

abbrev pub wanted_block : Copies → List ℕ → ℕ → Option ℕ
wanted_block h p s = wanted_of (live h (p ++ s ∷ [])) (h p) s
