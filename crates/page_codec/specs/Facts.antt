-- What holds of a block to which no cause applies.
use Rattle.std.specs.Prelude.{◌≡◌, ℕ, ◌+◌, ◌*◌, ◌<◌, ◌≤◌, false, List, slice_index}
use Rattle.std.specs.List.{list_any}
use Rattle.std.specs.Int.{w32, w64}
use Rattle.afs_base.specs.declared.limits.TheConstants.{BLOCK_NUMBERS, MAX_DATA, MAX_DEPTH, MAX_MEMBERS, OPEN_GATE}
use Rattle.page_codec.specs.declared.layout.TheConstants.{BASE_AT, COMMIT_AT, COUNT_AT, DATA_AT, MEMBERS_AT, OBJECT_AT, PAGE, SERIAL_AT, VERSION}
use Rattle.page_codec.specs.Numbers.{number_at}
use Rattle.page_codec.specs.Reading.{slots, data_len, members_value}
use Rattle.page_codec.specs.Causes.{is_no_code, is_dangling, is_nonzero, has_other, has_other_past, is_bad_member}

-- of both kinds of page
pub record FrameFacts (b : List ℕ) : Type 0 where
  pub gate : slice_index b 0 ≡ OPEN_GATE
  pub depth : slice_index b 2 ≤ MAX_DEPTH
  pub coded : list_any is_no_code (slots b) ≡ false
  pub named : list_any is_dangling (slots b) ≡ false
  pub leaf : slice_index b 2 ≡ MAX_DEPTH → list_any is_nonzero (slots b) ≡ false
  pub short : data_len b ≤ MAX_DATA
  pub past : has_other_past b ≡ false

-- of a page below `/`
pub record PageFacts (b : List ℕ) : Type 0 where
  pub frame : FrameFacts b
  pub kind : slice_index b 1 ≡ PAGE
  pub below : 1 ≤ slice_index b 2
  pub plain : slice_index b 3 ≡ 0
  pub middle : has_other OBJECT_AT DATA_AT b ≡ false

-- of a version page
pub record VersionFacts (b : List ℕ) : Type 0 where
  pub frame : FrameFacts b
  pub kind : slice_index b 1 ≡ VERSION
  pub top : slice_index b 2 ≡ 0
  pub code : slice_index b 3 ≤ 12
  pub commit : number_at w32 COMMIT_AT b < BLOCK_NUMBERS
  pub base : number_at w32 BASE_AT b < BLOCK_NUMBERS
  pub object : 1 ≤ number_at w32 OBJECT_AT b
  pub serial : 1 ≤ number_at w64 SERIAL_AT b
  pub count : slice_index b COUNT_AT ≤ MAX_MEMBERS
  pub each : list_any is_bad_member (members_value b) ≡ false
  pub rest : has_other (MEMBERS_AT + 8 * slice_index b COUNT_AT) DATA_AT b ≡ false
