-- The grammar of scripts: which words make a command, and what is wrong with a line that is none.
use Rattle.std.specs.Prelude.{◌≡◌, ℕ, ◌+◌, ◌==◌, nat_lt, nat_le, Bool, true, false, ◌&&◌, if◌then◌else◌, List, [], ◌∷◌, length, slice_index, slice_index_or, Option, Some, None, codes, Result, Ok, Err}
use Rattle.std.specs.Option.{option_and_then, option_map, ok_or}
use Rattle.std.specs.List.{list_all, filter_map, slice_get}
use Rattle.std.specs.Str.{bytes_eq}
use Rattle.afs_base.specs.declared.limits.TheConstants.{MAX_FILES, MAX_OBJECTS, MAX_SCRIPT_BYTES}
use Rattle.tree_model.specs.declared.step.Step.TheVariants.{ReadAt, ListAt, WriteAt, MakeAt, DropAt}
use Rattle.script_text.specs.declared.command.FileName.{FileName}
use Rattle.script_text.specs.declared.command.FileName.TheVariants.{Number, Cap}
use Rattle.script_text.specs.declared.command.Command.{Command}
use Rattle.script_text.specs.declared.command.Command.TheVariants.{Begin, Super, Pick, Do, Commit, Abandon, Create, Destroy, Prune, Restrict}
use Rattle.script_text.specs.declared.keyword.Keyword.{Keyword}
use Rattle.script_text.specs.declared.keyword.Keyword.TheVariants.{BeginWord, SuperWord, PickWord, ReadWord, ListWord, WriteWord, MakeWord, DropWord, CommitWord, AbandonWord, CreateWord, DestroyWord, PruneWord, RestrictWord}
use Rattle.script_text.specs.declared.refused.LineWhy.{LineWhy}
use Rattle.script_text.specs.declared.refused.LineWhy.TheVariants as why
use Rattle.script_text.specs.declared.refused.LineFault.{LineFault}
use Rattle.script_text.specs.declared.refused.LineFault.TheVariants.{Bad}
use Rattle.script_text.specs.declared.refused.ScriptRefused.{ScriptRefused}
use Rattle.script_text.specs.declared.refused.ScriptRefused.TheVariants.{BadLine, Memory}
use Rattle.script_text.specs.declared.script.Mode.{Mode}
use Rattle.script_text.specs.declared.script.Mode.TheVariants.{Numbers, Caps}
use Rattle.script_text.specs.declared.script.Line.{Line}
use Rattle.script_text.specs.declared.verdict.TheConstants.{MAX_LINES}
use Rattle.script_text.specs.Words.{number_in, path_of, child_of, data_of, cap_of, words, pieces, without_return, is_allowed}

-- the first word of each command
abbrev pub keyword_of : List ℕ → Option Keyword
keyword_of word =
    if bytes_eq word (codes "begin") then Some BeginWord
    else if bytes_eq word (codes "super") then Some SuperWord
    else if bytes_eq word (codes "pick") then Some PickWord
    else if bytes_eq word (codes "read") then Some ReadWord
    else if bytes_eq word (codes "list") then Some ListWord
    else if bytes_eq word (codes "write") then Some WriteWord
    else if bytes_eq word (codes "make") then Some MakeWord
    else if bytes_eq word (codes "drop") then Some DropWord
    else if bytes_eq word (codes "commit") then Some CommitWord
    else if bytes_eq word (codes "abandon") then Some AbandonWord
    else if bytes_eq word (codes "create") then Some CreateWord
    else if bytes_eq word (codes "destroy") then Some DestroyWord
    else if bytes_eq word (codes "prune") then Some PruneWord
    else if bytes_eq word (codes "restrict") then Some RestrictWord
    else None

-- the word at place i after the first
abbrev pub word_at : List (List ℕ) → ℕ → List ℕ
word_at args i = slice_index_or args i []

-- files are named by capabilities
abbrev pub is_guarded : Mode → Bool
is_guarded Numbers = false
is_guarded Caps = true

-- how many words follow the first, and which of them stand fixed
abbrev pub is_shape : Mode → Keyword → List (List ℕ) → Bool
is_shape mode BeginWord args = length args == 1
is_shape mode SuperWord args = nat_le 2 (length args) && nat_le (length args) MAX_FILES
is_shape mode PickWord args = length args == 1
is_shape mode ReadWord args = length args == 1
is_shape mode ListWord args = length args == 1
is_shape mode WriteWord args = length args == 2
is_shape mode MakeWord args = length args == 1
is_shape mode DropWord args = length args == 1
is_shape mode CommitWord args = length args == 0
is_shape mode AbandonWord args = length args == 0
is_shape mode CreateWord args = length args == 0
is_shape mode DestroyWord args = length args == 1
is_shape mode PruneWord args = (length args == 3) && bytes_eq (word_at args 1) (codes "keep")
is_shape mode RestrictWord args = is_guarded mode && (length args == 2)

-- a second step on the value of a first
abbrev pub and_then : {A B : Type 0} → (A → Result B LineWhy) → Result A LineWhy → Result B LineWhy
and_then f (Ok x) = f x
and_then f (Err e) = Err e

-- what is made of a value
abbrev pub then_ok : {A B : Type 0} → (A → B) → Result A LineWhy → Result B LineWhy
then_ok f (Ok x) = Ok (f x)
then_ok f (Err e) = Err e

-- the number of a word, from `low` to `high`
abbrev pub number_word : ℕ → ℕ → List ℕ → Result ℕ LineWhy
number_word low high word = ok_or (number_in low high word) why.Number

-- the path of a word
abbrev pub path_word : List ℕ → Result (List ℕ) LineWhy
path_word word = ok_or (path_of word) why.Path

-- the page other than `/` of a word
abbrev pub child_word : List ℕ → Result (List ℕ × ℕ) LineWhy
child_word word = ok_or (option_and_then child_of (path_of word)) why.Path

-- the data of a word
abbrev pub data_word : List ℕ → Result (List ℕ) LineWhy
data_word word = ok_or (data_of word) why.Data

-- the file of a word: its object, 1 to 4,032, or its capability
abbrev pub file_word : Mode → List ℕ → Result FileName LineWhy
file_word Numbers word = ok_or (option_map Number (number_in 1 MAX_OBJECTS word)) why.Number
file_word Caps word = ok_or (option_map Cap (cap_of word)) why.Capability

-- the files of words, in order
abbrev pub file_words : Mode → List (List ℕ) → Result (List FileName) LineWhy
file_words mode [] = Ok []
file_words mode (w ∷ ws) = and_then (λ f. then_ok (λ fs. f ∷ fs) (file_words mode ws)) (file_word mode w)

-- the command of a first word and the words after it, which have its shape; its words are tried from left to right
abbrev pub command_of : Mode → Keyword → List (List ℕ) → Result Command LineWhy
command_of mode BeginWord args = then_ok Begin (file_word mode (word_at args 0))
command_of mode SuperWord args = then_ok Super (file_words mode args)
command_of mode PickWord args = then_ok Pick (number_word 0 16 (word_at args 0))
command_of mode ReadWord args = then_ok (λ p. Do (ReadAt p)) (path_word (word_at args 0))
command_of mode ListWord args = then_ok (λ p. Do (ListAt p)) (path_word (word_at args 0))
command_of mode WriteWord args =
    and_then (λ p. then_ok (λ bytes. Do (WriteAt p bytes)) (data_word (word_at args 1))) (path_word (word_at args 0))
command_of mode MakeWord args = then_ok (λ c. Do (MakeAt c)) (child_word (word_at args 0))
command_of mode DropWord args = then_ok (λ c. Do (DropAt c)) (child_word (word_at args 0))
command_of mode CommitWord args = Ok Commit
command_of mode AbandonWord args = Ok Abandon
command_of mode CreateWord args = Ok Create
command_of mode DestroyWord args = then_ok Destroy (file_word mode (word_at args 0))
command_of mode PruneWord args =
    and_then (λ f. then_ok (λ n. Prune f n) (number_word 1 65535 (word_at args 2))) (file_word mode (word_at args 0))
command_of mode RestrictWord args =
    and_then (λ f. then_ok (λ n. Restrict f n) (number_word 0 255 (word_at args 1))) (file_word mode (word_at args 0))

-- an unknown word, or a known one with words of another shape after it, is no command
abbrev pub keyed_command : Mode → Option Keyword → List (List ℕ) → Result Command LineWhy
keyed_command mode None args = Err why.Word
keyed_command mode (Some key) args = if is_shape mode key args then command_of mode key args else Err why.Word

-- the command of a line's words; none for a line without words and for a comment, whose first word begins with `#`
abbrev pub words_command : Mode → List (List ℕ) → Result (Option Command) LineWhy
words_command mode [] = Ok None
words_command mode (w ∷ args) =
    if slice_index w 0 == 35 then Ok None else then_ok (λ c. Some c) (keyed_command mode (keyword_of w) args)

-- a line of a text: its number from 1, the place in the text where it ends, its line feed included, and its bytes without
-- line feed and carriage return
pub record RawLine : Type 0 where
  pub number : ℕ
  pub end : ℕ
  pub text : List ℕ

-- where a line ends that begins at a place: after its line feed, which the last line of a text has not
abbrev pub line_end : ℕ → Bool → List ℕ → ℕ
line_end start true piece = start + length piece
line_end start false piece = start + length piece + 1

-- the bytes of a line without line feed and carriage return; the last line of a text keeps a carriage return
abbrev pub line_text : Bool → List ℕ → List ℕ
line_text true piece = piece
line_text false piece = without_return piece

-- line n, which begins at a place, and whether it is the text's last and has no line feed
abbrev pub raw_line : ℕ → ℕ → Bool → List ℕ → RawLine
raw_line n start last piece = record { number = n; end = line_end start last piece; text = line_text last piece }

-- the lines of pieces that stood between line feeds, the first being line n and beginning at a place; an empty piece after
-- the last line feed is no line
abbrev pub raw_lines : ℕ → ℕ → List (List ℕ) → List RawLine
raw_lines n start [] = []
raw_lines n start (piece ∷ []) = if length piece == 0 then [] else raw_line n start true piece ∷ []
raw_lines n start (piece ∷ next ∷ more) =
    raw_line n start false piece ∷ raw_lines (n + 1) (start + length piece + 1) (next ∷ more)

-- the lines of a text
abbrev pub lines_of : List ℕ → List RawLine
lines_of bytes = raw_lines 1 0 (pieces bytes)

-- what a line says, or what is wrong with it, the causes in their order
abbrev pub line_of : Mode → RawLine → Result (Option Command) LineWhy
line_of mode line =
    if nat_lt MAX_LINES line.number then Err why.Lines
    else if nat_lt MAX_SCRIPT_BYTES line.end then Err why.Size
    else if list_all is_allowed line.text then words_command mode (words line.text)
    else Err why.Text

abbrev pub bad_when : ℕ → Result (Option Command) LineWhy → Option (ℕ × LineWhy)
bad_when n (Ok c) = None
bad_when n (Err cause) = Some (n, cause)

-- the number and the cause of a line that is bad
abbrev pub bad_of : Mode → RawLine → Option (ℕ × LineWhy)
bad_of mode line = bad_when line.number (line_of mode line)

abbrev pub good_when : ℕ → Result (Option Command) LineWhy → Option Line
good_when n (Ok None) = None
good_when n (Ok (Some c)) = Some (record { number = n; command = c })
good_when n (Err cause) = None

-- a line that has an answer
abbrev pub good_of : Mode → RawLine → Option Line
good_of mode line = good_when line.number (line_of mode line)

-- the bad lines of a text, each with its first cause, ascending
abbrev pub bad_lines : Mode → List ℕ → List (ℕ × LineWhy)
bad_lines mode bytes = filter_map (bad_of mode) (lines_of bytes)

-- the lines of a text that have answers, ascending
abbrev pub good_lines : Mode → List ℕ → List Line
good_lines mode bytes = filter_map (good_of mode) (lines_of bytes)

-- a text is in the grammar
abbrev pub IsInGrammar : Mode → List ℕ → Type 0
IsInGrammar mode bytes = bad_lines mode bytes ≡ []

-- what a refusal says of the bad lines: the least of them with its cause, or that there was no memory
abbrev pub IsRefusal : ScriptRefused → List (ℕ × LineWhy) → Type 0
IsRefusal (BadLine line cause) bads = slice_get bads 0 ≡ Some (line, cause)
IsRefusal Memory bads = Unit {0}

-- what a fault says of a line's verdict: its cause, or that there was no memory
abbrev pub IsFault : LineFault → Result (Option Command) LineWhy → Type 0
IsFault (Bad cause) verdict = verdict ≡ Err cause
IsFault _ verdict = Unit {0}
