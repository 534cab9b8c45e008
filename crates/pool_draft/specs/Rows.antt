-- Rows: which frame has the page of which path of which root, with its marks.
use Rattle.std.specs.Prelude.{◌≢◌, ℕ, ◌≤◌, List, [], ◌∷◌, length, map, slice_index_or}
use Rattle.std.specs.List.{AllByRecursion}
use Rattle.page_codec.specs.Values.{PageValue}
use Rattle.page_codec.specs.Blank.{empty_page}
use Rattle.draft_model.specs.Views.{Copied}
use Rattle.draft_model.specs.Entries.{Entry}
use Rattle.draft_tree.specs.Marking.{copied_with}
use Rattle.frame_pool.specs.Leasing.{Leased, IsOut}
use Rattle.pool_draft.specs.declared.row.Row.{Row}
use Rattle.pool_draft.specs.Keys.{key_list}

-- a row's place among all: its root, and then its path
abbrev pub key_of : Row → List ℕ
key_of r = key_list r.key

-- the page of a row, with its marks
abbrev pub copied_in : List PageValue → Row → Copied
copied_in pages r = copied_with r.marks (slice_index_or pages r.frame (empty_page 0))

abbrev pub entry_in : List PageValue → Row → Entry
entry_in pages r = (key_of r, copied_in pages r)

-- the pages of all rows
abbrev pub forest : List PageValue → List Row → List Entry
forest pages rows = map (entry_in pages) rows

abbrev pub frames_of : List Row → List ℕ
frames_of rows = map (λ r. r.frame) rows

-- no two of these frames are one
abbrev pub AreApart : List ℕ → Type 0
AreApart [] = Unit {0}
AreApart (f ∷ fs) = AllByRecursion (λ g. f ≢ g) fs × AreApart fs

-- all of these frames are out
abbrev pub AreAllOut : Leased → List ℕ → Type 0
AreAllOut run fs = AllByRecursion (IsOut run) fs

-- no path has more than seven slots
abbrev pub AreShort : List Row → Type 0
AreShort rows = AllByRecursion (λ r. length r.key.path ≤ 7) rows
