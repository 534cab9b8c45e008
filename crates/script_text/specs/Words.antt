-- Lines of a text, words of a line, and what single words stand for.
use Rattle.std.specs.Prelude.{ℕ, ◌+◌, ◌-◌, ◌*◌, ◌==◌, nat_lt, nat_le, Bool, not, ◌&&◌, ◌||◌, if◌then◌else◌, List, [], ◌∷◌, ◌++◌, length, take, drop, filter, fold, slice_index, Option, Some, None, codes}
use Rattle.std.specs.Option.{option_and_then, option_map}
use Rattle.std.specs.Result.{result_ok}
use Rattle.std.specs.List.{slice_split, list_all}
use Rattle.std.specs.Str.{bytes_eq}
use Rattle.hex.specs.Hex.{decode_of}
use Rattle.afs_base.specs.declared.limits.TheConstants.{MAX_DATA, MAX_DEPTH}
use Rattle.caps.specs.Capability.{bad_place}

-- the pieces between line feeds
abbrev pub pieces : List ℕ → List (List ℕ)
pieces bytes = slice_split (λ b. b == 10) bytes

-- a line without the carriage return before its line feed
abbrev pub without_return : List ℕ → List ℕ
without_return line = if nat_lt 0 (length line) && (slice_index line (length line - 1) == 13) then take (length line - 1) line else line

-- a space or a printable ASCII character
abbrev pub is_allowed : ℕ → Bool
is_allowed b = nat_le 32 b && nat_le b 126

-- a word has a byte
abbrev pub is_word : List ℕ → Bool
is_word piece = nat_lt 0 (length piece)

-- the words of a line: what stands between its spaces
abbrev pub words : List ℕ → List (List ℕ)
words line = filter is_word (slice_split (λ b. b == 32) line)

-- a decimal digit
abbrev pub is_digit : ℕ → Bool
is_digit b = nat_le 48 b && nat_le b 57

-- one digit more
abbrev pub next_digit : ℕ → ℕ → ℕ
next_digit n b = n * 10 + (b - 48)

-- the number that digits write, the first digit first
abbrev pub value_of : List ℕ → ℕ
value_of digits = fold next_digit 0 digits

-- decimal digits without a leading zero
abbrev pub is_number : List ℕ → Bool
is_number word = list_all is_digit word && ((length word == 1) || (nat_lt 1 (length word) && not (slice_index word 0 == 48)))

-- the number of a word, where it is one and lies from `low` to `high`
abbrev pub number_in : ℕ → ℕ → List ℕ → Option ℕ
number_in low high word =
    if is_number word && (nat_le low (value_of word) && nat_le (value_of word) high) then Some (value_of word) else None

-- the slots that words write, in order, where each writes one
abbrev pub slots_of : List (List ℕ) → Option (List ℕ)
slots_of [] = Some []
slots_of (w ∷ ws) = option_and_then (λ s. option_map (λ ss. s ∷ ss) (slots_of ws)) (number_in 0 15 w)

-- a path with one more slot, where there is one and the path has fewer than seven
abbrev pub deeper : List ℕ → Option ℕ → Option (List ℕ)
deeper path None = None
deeper path (Some s) = if length path == MAX_DEPTH then None else Some (path ++ s ∷ [])

-- one to seven slots
abbrev pub short_path : List (List ℕ) → Option (List ℕ)
short_path ws = if nat_le (length ws) MAX_DEPTH then slots_of ws else None

-- the path of a word: `/`, or one to seven times a stroke and a slot
abbrev pub path_of : List ℕ → Option (List ℕ)
path_of word =
    if bytes_eq word (codes "/") then Some []
    else if slice_index word 0 == 47 then short_path (slice_split (λ b. b == 47) (drop 1 word))
    else None

-- the page that a path other than `/` names, by the path above and its slot there
abbrev pub child_of : List ℕ → Option (List ℕ × ℕ)
child_of [] = None
child_of (s ∷ ss) = Some (take (length ss) (s ∷ ss), slice_index (s ∷ ss) (length ss))

-- the data of a word: `-`, or an even number of hexadecimal digits, at most 1,600
abbrev pub data_of : List ℕ → Option (List ℕ)
data_of word =
    if bytes_eq word (codes "-") then Some []
    else if nat_le (length word) (2 * MAX_DATA) then result_ok (decode_of word)
    else None

-- the capability of a word of 32 hexadecimal digits
abbrev pub cap_when : Option ℕ → List ℕ → Option (List ℕ)
cap_when None word = result_ok (decode_of word)
cap_when (Some at) word = None

abbrev pub cap_of : List ℕ → Option (List ℕ)
cap_of word = cap_when (bad_place word) word
