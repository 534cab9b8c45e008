-- What a write of one page leaves of the rows and their frames.
use Rattle.std.specs.Prelude.{◌≡◌, ℕ, ◌+◌, Bool, false, not, ◌||◌, nat_eq, if◌then◌else◌, List, ◌∷◌, length, slice_get, slice_set, Some}
use Rattle.std.specs.List.{insert}
use Rattle.afs_base.specs.Path.{is_prefix}
use Rattle.page_codec.specs.Values.{PageValue}
use Rattle.draft_model.specs.Views.{Copied}
use Rattle.frame_pool.specs.Leasing.{Leased, left, IsIn, taken_out}
use Rattle.draft_tree.specs.Pages.{is_kept}
use Rattle.draft_tree.specs.declared.marks.Marks.{Marks}
use Rattle.pool_draft.specs.declared.row.Row.{Row}
use Rattle.pool_draft.specs.Rows.{key_of, copied_in, forest}

-- the page of the k-th row is what f makes of it; its key and its frame stay, and so do all other pages
pub record IsPageWritten (pages : List PageValue) (rows : List Row) (k : ℕ) (f : Copied → Copied) (pages' : List PageValue) (rows' : List Row) : Type 0 where
  pub row : Row
  pub row' : Row
  pub at : slice_get rows k ≡ Some row
  pub rows_are : rows' ≡ slice_set rows k row'
  pub key : key_of row' ≡ key_of row
  pub frame : row'.frame ≡ row.frame
  pub forest_is : forest pages' rows' ≡ slice_set (forest pages rows) k (key_of row, f (copied_in pages row))
  pub many : length pages' ≡ length pages

-- a row was put to the k-th place, with a page in a frame that was not out
pub record IsRowPut (pages : List PageValue) (run : Leased) (rows : List Row) (k : ℕ) (at : List ℕ) (c : Copied) (pages' : List PageValue) (run' : Leased) (rows' : List Row) : Type 0 where
  pub row : Row
  pub rows_are : rows' ≡ insert rows k row
  pub key : key_of row ≡ at
  pub home : IsIn run row.frame
  pub run_is : run' ≡ taken_out run row.frame
  pub left_is : left run' + 1 ≡ left run
  pub forest_is : forest pages' rows' ≡ insert (forest pages rows) k (at, c)
  pub many : length pages' ≡ length pages

-- the marks of a page that is no longer there
abbrev pub marks_away : Marks → Marks
marks_away m = record { live = false; read = m.read; written = m.written; searched = m.searched }

-- a row, after the pages of a root at and below a path were taken away
abbrev pub cut_row : ℕ → List ℕ → Row → Row
cut_row root at r =
    record {
      key = r.key;
      marks = if is_prefix (root ∷ at) (key_of r) then marks_away r.marks else r.marks;
      frame = r.frame;
    }

-- the row stays when the base of a root changes: it is of another root, or its page stays
abbrev pub row_stays : ℕ → List PageValue → Row → Bool
row_stays root pages r = not (nat_eq r.key.root root) || is_kept r.key.path (copied_in pages r)
