-- How a draft becomes blocks: which paths are written, to which block each, and what page each block then holds.
use Rattle.std.specs.Prelude.{◌≡◌, ℕ, ◌+◌, Bool, true, not, ◌&&◌, List, [], ◌∷◌, ◌++◌, map, length, nat_eq, if◌then◌else◌, Option, Some, None}
use Rattle.std.specs.List.{list_any}
use Rattle.ref_flags.specs.Flagged.{Flagged, no_flags}
use Rattle.ref_flags.specs.Codes.{with_mark}
use Rattle.ref_flags.specs.declared.Mark.TheVariants.{Copy}
use Rattle.tree_model.specs.Trees.{Tree, has}
use Rattle.tree_model.specs.Accesses.{written_paths}
use Rattle.page_codec.specs.Values.{ReferenceValue, PageValue}
use Rattle.page_places.specs.Places.{Store, same, block_at}
use Rattle.draft_model.specs.Views.{Copied, View}
use Rattle.draft_model.specs.Stands.{SameBase}
use Rattle.draft_model.specs.Told.{flags_of, AreFresh}

-- a path that is written, and the block that takes its page
pub record Placed : Type 0 where
  pub path : List ℕ
  pub block : ℕ

-- each path that is written has its block, in the order of the paths
pub record IsPlaced (d : View) (placed : List Placed) : Type 0 where
  pub fresh : List (List ℕ)
  pub are : AreFresh d fresh
  pub paths : map (λ x. x.path) placed ≡ written_paths fresh

-- the block of a path, where the path is written
abbrev pub block_of : List Placed → List ℕ → Option ℕ
block_of [] q = None
block_of (x ∷ placed) q = if same q x.path then Some x.block else block_of placed q

-- ---- the pages

-- the flags of a copied page, with C
abbrev pub copied_flags : Option Copied → Flagged
copied_flags o = with_mark (flags_of o) Copy

-- a slot of a written page: a page that is written too is named with its flags, and every other slot names its old block without flags
abbrev pub flushed_slot : Option Copied → Option ℕ → ReferenceValue → ReferenceValue
flushed_slot child None r = record { flags = no_flags; block = r.block }
flushed_slot child (Some block) r = record { flags = copied_flags child; block = Some block }

-- the slots from slot s on of the page at p
abbrev pub flushed_slots : View → List Placed → List ℕ → ℕ → List ReferenceValue → List ReferenceValue
flushed_slots d placed p s [] = []
flushed_slots d placed p s (r ∷ refs) = flushed_slot (d (p ++ s ∷ [])) (block_of placed (p ++ s ∷ [])) r ∷ flushed_slots d placed p (s + 1) refs

-- the page that is written for a copied page at p: the level of the path, the mask and the data as copied
abbrev pub flushed_page : View → List Placed → List ℕ → PageValue → PageValue
flushed_page d placed p page =
    record { level = length p; modified = page.modified; refs = flushed_slots d placed p 0 page.refs; bytes = page.bytes }

-- every page of the store has sixteen slots
abbrev pub AreWhole : Store → Type 0
AreWhole store = (b : ℕ) (page : PageValue) → store b ≡ Some page → length page.refs ≡ 16

-- ---- the blocks

-- Each written path's page is in its block, and each block of the base is as it was.
pub record Flushed (d : View) (placed : List Placed) (root : ℕ) (old new : Store) : Type 0 where
  pub page : (p : List ℕ) (b : ℕ) (c : Copied) → block_of placed p ≡ Some b → d p ≡ Some c → new b ≡ Some (flushed_page d placed p c.page)
  pub kept : SameBase old new root

-- the pages that were not written stay in the blocks that they had
abbrev pub SharesRest : List Placed → Store → ℕ → Store → ℕ → Tree → Type 0
SharesRest placed old root new top t =
    (p : List ℕ) → has t p ≡ true → block_of placed p ≡ None → block_at new top p ≡ block_at old root p

-- ---- the order of writing

-- the version page, which is the first place, comes last
abbrev pub in_turn : List Placed → List Placed
in_turn [] = []
in_turn (x ∷ placed) = placed ++ x ∷ []

-- some place has this block
abbrev pub is_block_of : List Placed → ℕ → Bool
is_block_of placed b = list_any (λ x. nat_eq b x.block) placed

-- no two places have one block
abbrev pub are_apart : List Placed → Bool
are_apart [] = true
are_apart (x ∷ placed) = not (is_block_of placed x.block) && are_apart placed
