-- Why a block is no page or no version page: the causes in the order in which they are tried, each over the whole block.
use Rattle.std.specs.Prelude.{◌≡◌, ℕ, ◌+◌, ◌*◌, ◌/◌, ◌%◌, ◌==◌, Bool, not, ◌&&◌, ◌||◌, nat_lt, nat_le, List, [], ◌∷◌, Option, Some, None, Result, Ok, Err, MatchResult, slice_index, slice_range, if◌then◌else◌}
use Rattle.std.specs.List.{list_any}
use Rattle.std.specs.Int.{w32, w64}
use Rattle.afs_base.specs.declared.limits.TheConstants.{BLOCK_BYTES, BLOCK_NUMBERS, MAX_DATA, MAX_DEPTH, MAX_MEMBERS, OPEN_GATE}
use Rattle.page_codec.specs.declared.layout.TheConstants.{BASE_AT, COMMIT_AT, COUNT_AT, DATA_AT, MASK_AT, MEMBERS_AT, OBJECT_AT, PAGE, REST_AT, SERIAL_AT, VERSION}
use Rattle.page_codec.specs.declared.why.Why.{Why}
use Rattle.page_codec.specs.declared.why.Why.TheVariants as why
use Rattle.page_codec.specs.declared.why.BadPage.{BadPage}
use Rattle.page_codec.specs.Numbers.{number_at}
use Rattle.page_codec.specs.Values.{PageValue, MemberValue, VersionValue}
use Rattle.page_codec.specs.Reading.{slots, data_len, members_value, frame_value, version_value}

-- a test and the cause that it stands for
abbrev pub Cause : Type 0
Cause = Bool × Why

-- the first cause whose test is true
abbrev pub first_cause : List Cause → Option Why
first_cause [] = None
first_cause (c ∷ cs) = if c.0 then Some c.1 else first_cause cs

-- the value where no cause applies, else the cause
abbrev pub cause_or : {X : Type 0} → Option Why → X → Result X Why
cause_or None x = Ok x
cause_or (Some w) x = Err w

-- a slot's code is above 12
abbrev pub is_no_code : ℕ → Bool
is_no_code n = nat_lt 12 (n / BLOCK_NUMBERS)

-- a slot has a code and no block
abbrev pub is_dangling : ℕ → Bool
is_dangling n = n % BLOCK_NUMBERS == 0 && not (n / BLOCK_NUMBERS == 0)

-- a number that is not 0
abbrev pub is_nonzero : ℕ → Bool
is_nonzero n = not (n == 0)

-- a slot has a code and no block, or a page of level 7 has a slot in use
abbrev pub has_bad_reference : ℕ → List ℕ → Bool
has_bad_reference level numbers = list_any is_dangling numbers || (level == MAX_DEPTH && list_any is_nonzero numbers)

-- a byte of a range is not 0
abbrev pub has_other : ℕ → ℕ → List ℕ → Bool
has_other from to b = list_any is_nonzero (slice_range b from to)

-- a byte behind the data, or one of the last three, is not 0
abbrev pub has_other_past : List ℕ → Bool
has_other_past b = has_other (DATA_AT + data_len b) MASK_AT b || has_other REST_AT BLOCK_BYTES b

-- a member without an object, or with a block that is none
abbrev pub is_bad_member : MemberValue → Bool
is_bad_member m = m.object == 0 || (m.block == 0 || nat_le BLOCK_NUMBERS m.block)

-- more than sixteen members, or a bad one
abbrev pub has_bad_members : List ℕ → Bool
has_bad_members b = nat_lt MAX_MEMBERS (slice_index b COUNT_AT) || list_any is_bad_member (members_value b)

-- the causes for a page below `/`
unfoldable pub page_causes : List ℕ → List Cause
page_causes b =
    (not (slice_index b 0 == OPEN_GATE), why.Closed)
    ∷ (not (slice_index b 1 == PAGE), why.Kind)
    ∷ (slice_index b 2 == 0 || nat_lt MAX_DEPTH (slice_index b 2), why.Level)
    ∷ (not (slice_index b 3 == 0) || list_any is_no_code (slots b), why.Code)
    ∷ (has_bad_reference (slice_index b 2) (slots b), why.Reference)
    ∷ (nat_lt MAX_DATA (data_len b), why.Length)
    ∷ (has_other OBJECT_AT DATA_AT b || has_other_past b, why.Zero)
    ∷ []

-- the causes for a version page
unfoldable pub version_causes : List ℕ → List Cause
version_causes b =
    (not (slice_index b 0 == OPEN_GATE), why.Closed)
    ∷ (not (slice_index b 1 == VERSION), why.Kind)
    ∷ (not (slice_index b 2 == 0), why.Level)
    ∷ (nat_lt 12 (slice_index b 3) || list_any is_no_code (slots b), why.Code)
    ∷ (list_any is_dangling (slots b) || (nat_le BLOCK_NUMBERS (number_at w32 COMMIT_AT b) || nat_le BLOCK_NUMBERS (number_at w32 BASE_AT b)), why.Reference)
    ∷ (nat_lt MAX_DATA (data_len b), why.Length)
    ∷ (number_at w32 OBJECT_AT b == 0, why.Object)
    ∷ (number_at w64 SERIAL_AT b == 0, why.Serial)
    ∷ (has_bad_members b, why.Member)
    ∷ (has_other (MEMBERS_AT + 8 * slice_index b COUNT_AT) DATA_AT b || has_other_past b, why.Zero)
    ∷ []

-- a block as a page below `/`, or the first cause
abbrev pub page_of : List ℕ → Result PageValue Why
page_of b = cause_or (first_cause (page_causes b)) (frame_value b)

-- a block as a version page, or the first cause
abbrev pub version_of : List ℕ → Result VersionValue Why
version_of b = cause_or (first_cause (version_causes b)) (version_value b)

-- what a decoder returned is what reading gives
abbrev pub Reads : {X : Type 0} → Result X BadPage → Result X Why → Type 0
Reads result read = MatchResult result (λ x. read ≡ Ok x) (λ e. read ≡ Err e.why)
