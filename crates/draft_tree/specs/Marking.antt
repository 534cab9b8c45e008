-- What each change makes of one copied page.
use Rattle.std.specs.Prelude.{◌≡◌, ℕ, ◌^◌, false, not, ◌&&◌, ◌||◌, if◌then◌else◌, List, slice_set}
use Rattle.std.specs.Int.RustNames.{bit_or}
use Rattle.page_codec.specs.Blank.{empty_reference}
use Rattle.page_codec.specs.Values.{PageValue}
use Rattle.draft_model.specs.Views.{Copied}
use Rattle.draft_tree.specs.Drafts.{merged_page}
use Rattle.draft_tree.specs.declared.marks.Marks.{Marks}
use Rattle.draft_tree.specs.declared.change.Change.{Change}
use Rattle.draft_tree.specs.declared.change.Change.TheVariants.{Search, SearchAll, Read, Write, MakeChild, DropChild, Merge}

-- a page with its marks
abbrev pub copied_with : Marks → PageValue → Copied
copied_with m page = record { live = m.live; read = m.read; written = m.written; searched = m.searched; page = page }

-- a page that took over the slots and the data of a merged one
abbrev pub merged_with : PageValue → PageValue → PageValue
merged_with merged page = record { level = page.level; modified = page.modified; refs = merged.refs; bytes = merged.bytes }

-- these slots were read, if the page is there
abbrev pub searched_more : ℕ → Copied → Copied
searched_more mask c = record { live = c.live; read = c.read; written = c.written; searched = if c.live then bit_or c.searched mask else c.searched; page = c.page }

-- every slot was read, if the page is there
abbrev pub searched_all : Copied → Copied
searched_all c = record { live = c.live; read = c.read; written = c.written; searched = if c.live then 65535 else c.searched; page = c.page }

-- the data was read, if the page is there and its data was not written before
abbrev pub data_read : Copied → Copied
data_read c = record { live = c.live; read = c.read || (c.live && not c.written); written = c.written; searched = c.searched; page = c.page }

-- the data was written, if the page is there
abbrev pub data_written : List ℕ → Copied → Copied
data_written bytes c =
    record {
      live = c.live;
      read = c.read;
      written = c.written || c.live;
      searched = c.searched;
      page = record { level = c.page.level; modified = c.page.modified; refs = c.page.refs; bytes = if c.live then bytes else c.page.bytes };
    }

-- a page was made in the slot
abbrev pub child_made : ℕ → Copied → Copied
child_made s c =
    record {
      live = c.live;
      read = c.read;
      written = c.written;
      searched = c.searched;
      page = record { level = c.page.level; modified = bit_or c.page.modified (2 ^ s); refs = c.page.refs; bytes = c.page.bytes };
    }

-- the page in the slot was dropped
abbrev pub child_dropped : ℕ → Copied → Copied
child_dropped s c =
    record {
      live = c.live;
      read = c.read;
      written = c.written;
      searched = c.searched;
      page = record { level = c.page.level; modified = bit_or c.page.modified (2 ^ s); refs = slice_set c.page.refs s empty_reference; bytes = c.page.bytes };
    }

-- the page is no longer there; its marks stay
abbrev pub taken_away : Copied → Copied
taken_away c = record { live = false; read = c.read; written = c.written; searched = c.searched; page = c.page }

-- the page after a change
abbrev pub after_change : Change → Copied → Copied
after_change (Search s) c = searched_more (2 ^ s) c
after_change SearchAll c = searched_all c
after_change Read c = data_read c
after_change (Write bytes) c = data_written bytes c
after_change (MakeChild s) c = child_made s c
after_change (DropChild s) c = child_dropped s c
after_change (Merge page) c = merged_page page c

-- a merged page is of the level of the page that takes it over
abbrev pub FitsPage : Change → Copied → Type 0
FitsPage (Search s) c = Unit {0}
FitsPage SearchAll c = Unit {0}
FitsPage Read c = Unit {0}
FitsPage (Write bytes) c = Unit {0}
FitsPage (MakeChild s) c = Unit {0}
FitsPage (DropChild s) c = Unit {0}
FitsPage (Merge page) c = c.page.level ≡ page.level
