-- The walk that the inner calls of a listing are proved against: the pages below a page one after the other, or the cause that stops it. No clause of
-- a public function cites it. That it stops at the first fault is proved.
use Rattle.std.specs.Prelude.{◌≡◌, ℕ, zero, suc, ◌-◌, ◌<◌, List, [], ◌∷◌, ◌++◌, map, Option, Some, None, Result, Ok, Err, T}
use Rattle.std.specs.List.{AllByRecursion, flat_map}
use Rattle.std.specs.FinMap.Entries.{is_sorted}
use Rattle.afs_base.specs.Path.{path_cmp}
use Rattle.page_codec.specs.Values.{PageValue, ReferenceValue}
use Rattle.store_model.specs.Walk.{Blocks, Refused}
use Rattle.store_check.specs.declared.refused.WalkRefused.{WalkRefused}
use Rattle.tree_listing.specs.TreeText.{page_line}
use Rattle.tree_listing.specs.FirstFault.{and_then, page_named, root_in}
use Rattle.tree_listing.specs.Results.{Stops}

-- a page: the way to it from where the walk began, and its data
abbrev pub Entry : Type 0
Entry = List ℕ × List ℕ

-- a page as the page above it sees it
abbrev pub under : ℕ → Entry → Entry
under slot entry = (slot ∷ entry.0, entry.1)

-- ---- what it meets

-- what one slot names, with all below it
abbrev pub slot_pages : (ℕ → Result (List Entry) Refused) → ℕ → Option ℕ → Result (List Entry) Refused
slot_pages pages slot None = Ok []
slot_pages pages slot (Some n) = and_then (pages n) (λ entries. Ok (map (under slot) entries))

-- what the slots from this one on name, each with all below it before the next
abbrev pub slots_pages : (ℕ → Result (List Entry) Refused) → ℕ → List ReferenceValue → Result (List Entry) Refused
slots_pages pages slot [] = Ok []
slots_pages pages slot (reference ∷ others) =
    and_then (slot_pages pages slot reference.block) (λ here. and_then (slots_pages pages (suc slot) others) (λ rest. Ok (here ++ rest)))

-- the page in block n, which has so many levels below it, and all pages below it
unfoldable pub pages_from : Blocks → ℕ → ℕ → PageValue → Result (List Entry) Refused
pages_from blocks zero n page = Ok (([], page.bytes) ∷ [])
pages_from blocks (suc depth) n page =
    and_then (slots_pages (λ m. and_then (page_named blocks n m (7 - depth)) (pages_from blocks depth m)) 0 page.refs) (λ below. Ok (([], page.bytes) ∷ below))

-- the page that the page in `namer` names, with so many levels below it, and all pages below it
abbrev pub pages_named : Blocks → ℕ → ℕ → ℕ → Result (List Entry) Refused
pages_named blocks depth namer m = and_then (page_named blocks namer m (7 - depth)) (pages_from blocks depth m)

-- the pages of the version in a block
unfoldable pub pages_of_version : Blocks → ℕ → Result (List Entry) Refused
pages_of_version blocks n = and_then (root_in blocks n) (pages_from blocks 7 n)

-- ---- what is listed of it

-- the lines of pages, each at the end of a way that begins with this path
abbrev pub lines_under : List ℕ → List Entry → List ℕ
lines_under path entries = flat_map (λ entry. page_line (path ++ entry.0) entry.1) entries

-- the paths of these entries strictly rise
abbrev pub IsRising : List Entry → Type 0
IsRising entries = T (is_sorted path_cmp entries)

-- the path goes through a slot before this one
abbrev pub StartsBefore : ℕ → List ℕ → Type 0
StartsBefore slot [] = ⊥
StartsBefore slot (s ∷ path) = s < slot

-- the entries are of pages below a page, through the slots before this one, and their paths strictly rise
pub record AreBelow (slot : ℕ) (entries : List Entry) : Type 0 where
  pub rising : IsRising entries
  pub before : AllByRecursion (λ entry. StartsBefore slot entry.0) entries

-- the entries are those of a page, seen from the page above it, and their paths strictly rise
pub record AreUnder (slot : ℕ) (entries : List Entry) : Type 0 where
  pub seen : List Entry
  pub rising : IsRising seen
  pub are : entries ≡ map (under slot) seen

-- It appends the lines of entries of this kind, which are those that the walk meets, where that is told. Or it stops, where that is told where
-- the walk stops.
abbrev pub Lists : {X : Type 0} → (List Entry → Type 0) → Type 0 → List ℕ → List ℕ → List ℕ → Result X WalkRefused → Result (List Entry) Refused → Type 0
Lists Are told path old new (Ok _) outcome = (entries : List Entry) × Are entries × (told → outcome ≡ Ok entries) × (new ≡ old ++ lines_under path entries)
Lists Are told path old new (Err e) outcome = told → Stops e outcome
