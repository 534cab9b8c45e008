-- What each call does to what a draft shows.
use Rattle.std.specs.Prelude.{ℕ, ◌^◌, Bool, true, false, not, ◌&&◌, ◌||◌, List, [], ◌∷◌, length, nat_eq, if◌then◌else◌, Option, Some, None, option_map, is_some, sum_by, slice_set}
use Rattle.std.specs.Option.{option_map_or}
use Rattle.std.specs.Int.RustNames.{bit_or}
use Rattle.afs_base.specs.Path.{is_prefix}
use Rattle.tree_model.specs.Children.{path_of}
use Rattle.tree_model.specs.Trees.{every_slot}
use Rattle.tree_model.specs.declared.step.Step.{Step}
use Rattle.tree_model.specs.declared.step.Step.TheVariants.{ReadAt, ListAt, WriteAt, MakeAt, DropAt}
use Rattle.tree_model.specs.declared.step.Reply.{Reply}
use Rattle.tree_model.specs.declared.step.Reply.TheVariants.{Bytes, Slots, Done, Absent, Present}
use Rattle.page_codec.specs.Values.{PageValue}
use Rattle.page_codec.specs.Blank.{empty_reference, empty_page}
use Rattle.page_places.specs.Places.{same, slot_block}
use Rattle.draft_model.specs.Views.{Copied, View, PageCopy, Copies, copies, live}

-- ---- is it there

-- the page above is live, and the child is live too or a page of the base that is not copied
abbrev pub is_there : Copies → List ℕ × ℕ → Bool
is_there h c = option_map_or (λ x. x.live && (live h (path_of c) || is_some (slot_block x.page c.1))) (h c.0) false

-- a make of the child is done
abbrev pub makes : Copies → List ℕ × ℕ → Bool
makes h c = live h c.0 && not (is_there h c)

-- the step makes or drops a page
abbrev pub acts : Copies → Step → Bool
acts h (ReadAt p) = false
acts h (ListAt p) = false
acts h (WriteAt p bytes) = false
acts h (MakeAt c) = makes h c
acts h (DropAt c) = is_there h c

-- ---- one step at one page

-- the bit of the slot that follows p in q, where q lies below p; else 0
abbrev pub way_bit : List ℕ → List ℕ → ℕ
way_bit [] [] = 0
way_bit [] (s ∷ q) = 2 ^ s
way_bit (t ∷ p) [] = 0
way_bit (t ∷ p) (s ∷ q) = if nat_eq t s then way_bit p q else 0

-- the step, of a page that is there, reads the data
abbrev pub reads_data : Step → List ℕ → Bool
reads_data (ReadAt q) p = same p q
reads_data (ListAt q) p = false
reads_data (WriteAt q bytes) p = false
reads_data (MakeAt x) p = false
reads_data (DropAt x) p = false

-- .. and writes it
abbrev pub writes_data : Step → List ℕ → Bool
writes_data (ReadAt q) p = false
writes_data (ListAt q) p = false
writes_data (WriteAt q bytes) p = same p q
writes_data (MakeAt x) p = false
writes_data (DropAt x) p = false

-- the slots read so far, with those that the step reads of a page that is there
abbrev pub searched_by : Step → List ℕ → ℕ → ℕ
searched_by (ReadAt q) p mask = bit_or mask (way_bit p q)
searched_by (ListAt q) p mask = if same p q then 65535 else bit_or mask (way_bit p q)
searched_by (WriteAt q bytes) p mask = bit_or mask (way_bit p q)
searched_by (MakeAt x) p mask = bit_or mask (way_bit p (path_of x))
searched_by (DropAt x) p mask = bit_or mask (way_bit p (path_of x))

-- the page after the step; `done` says that the step makes or drops a page, `here` that the page is live
abbrev pub page_by : Bool → Bool → Step → List ℕ → PageValue → PageValue
page_by done here (ReadAt q) p page = page
page_by done here (ListAt q) p page = page
page_by done here (WriteAt q bytes) p page =
    record { level = page.level; modified = page.modified; refs = page.refs; bytes = if here && same p q then bytes else page.bytes }
page_by done here (MakeAt x) p page =
    record { level = page.level; modified = if done && same p x.0 then bit_or page.modified (2 ^ x.1) else page.modified; refs = page.refs; bytes = page.bytes }
page_by done here (DropAt x) p page =
    record {
      level = page.level;
      modified = if done && same p x.0 then bit_or page.modified (2 ^ x.1) else page.modified;
      refs = if done && same p x.0 then slice_set page.refs x.1 empty_reference else page.refs;
      bytes = page.bytes;
    }

-- the step takes the page away: it drops the page, or one above it
abbrev pub cuts : Bool → Step → List ℕ → Bool
cuts done (ReadAt q) p = false
cuts done (ListAt q) p = false
cuts done (WriteAt q bytes) p = false
cuts done (MakeAt x) p = false
cuts done (DropAt x) p = done && is_prefix (path_of x) p

-- what a step does to one copied page
abbrev pub taken : Bool → Step → List ℕ → Copied → Copied
taken done step p c =
    record {
      live = c.live && not (cuts done step p);
      read = c.read || ((c.live && reads_data step p) && not c.written);
      written = c.written || (c.live && writes_data step p);
      searched = if c.live then searched_by step p c.searched else c.searched;
      page = page_by done c.live step p c.page;
    }

-- the step makes the page at this path
abbrev pub is_made : Bool → Step → List ℕ → Bool
is_made done (ReadAt q) p = false
is_made done (ListAt q) p = false
is_made done (WriteAt q bytes) p = false
is_made done (MakeAt x) p = done && same p (path_of x)
is_made done (DropAt x) p = false

-- a page that was just made: no data, no slots, all of it written; only what was read at its path before stays
abbrev pub blank : ℕ → PageValue
blank level = record (empty_page level) { modified = 65535 }

abbrev pub made : ℕ → Option Copied → Copied
made level before = record { live = true; read = option_map_or (λ c. c.read) before false; written = true; searched = 65535; page = blank level }

-- ---- the calls

-- what the draft shows after a step
abbrev pub stepped : View → Step → View
stepped d step p =
    if is_made (acts (copies d) step) step p
    then Some (made (length p) (d p))
    else option_map (taken (acts (copies d) step) step p) (d p)

-- the slots of a page that have a page below them, as bits
abbrev pub there_bit : Copies → List ℕ → ℕ → ℕ
there_bit h p s = if is_there h (p, s) then 2 ^ s else 0

abbrev pub there_bits : Copies → List ℕ → ℕ
there_bits h p = sum_by (there_bit h p) every_slot

-- the answer to a step
abbrev pub data_reply : Option PageCopy → Reply
data_reply None = Absent
data_reply (Some c) = if c.live then Bytes c.page.bytes else Absent

abbrev pub reply_in : Copies → Step → Reply
reply_in h (ReadAt p) = data_reply (h p)
reply_in h (ListAt p) = if live h p then Slots (there_bits h p) else Absent
reply_in h (WriteAt p bytes) = if live h p then Done else Absent
reply_in h (MakeAt c) = if live h c.0 then (if is_there h c then Present else Done) else Absent
reply_in h (DropAt c) = if is_there h c then Done else Absent

-- a page as it is copied from the base: live, without marks
abbrev pub fed_page : PageValue → Copied
fed_page page = record { live = true; read = false; written = false; searched = 0; page = record page { modified = 0 } }

-- what the draft shows after a page was copied
abbrev pub fed : View → List ℕ → PageValue → View
fed d q page p = if same p q then Some (fed_page page) else d p

-- a draft that has the page `/` alone
abbrev pub begun : PageValue → View
begun page = fed (λ _. None) [] page
