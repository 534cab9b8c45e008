-- The grammar of scripts as it is meant: what a word says, and which words say which command. How a text is read, and what is wrong with a
-- line that says nothing, stands apart from this (Words, Grammar).
use Rattle.std.specs.Prelude.{◌≡◌, ◌⊎◌, ℕ, ◌<◌, ◌≤◌, List, [], ◌∷◌, length, slice_index, codes}
use Rattle.std.specs.List.{All, AllZip}
use Rattle.std.specs.Fmt.{decimal}
use Rattle.std.specs.Str.{str_to_ascii_lowercase}
use Rattle.hex.specs.Hex.{encode_lower}
use Rattle.afs_base.specs.declared.limits.TheConstants.{MAX_DATA, MAX_DEPTH, MAX_FILES, MAX_OBJECTS, SLOTS}
use Rattle.tree_model.specs.Children.{path_of}
use Rattle.tree_model.specs.declared.step.Step.TheVariants.{ReadAt, ListAt, WriteAt, MakeAt, DropAt}
use Rattle.script_text.specs.declared.command.FileName.{FileName}
use Rattle.script_text.specs.declared.command.FileName.TheVariants.{Number, Cap}
use Rattle.script_text.specs.declared.command.Command.{Command}
use Rattle.script_text.specs.declared.command.Command.TheVariants.{Begin, Super, Pick, Do, Commit, Abandon, Create, Destroy, Prune, Restrict}
use Rattle.script_text.specs.declared.script.Mode.{Mode}
use Rattle.script_text.specs.declared.script.Mode.TheVariants.{Numbers, Caps}
use Rattle.script_text.specs.ReplyText.{path_text}

-- a word is a number: what is printed for it, so decimal digits without a leading zero
abbrev pub IsNumber : List ℕ → ℕ → Type 0
IsNumber word n = word ≡ decimal n

-- a word is a number from `low` to `high`
pub record IsNumberIn (low high : ℕ) (word : List ℕ) (n : ℕ) : Type 0 where
  pub number : IsNumber word n
  pub least : low ≤ n
  pub most : n ≤ high

-- a word is bytes, by two hexadecimal digits each: in lower case it is what is printed for them
pub record AreDigitsOf (word bytes : List ℕ) : Type 0 where
  pub digits : str_to_ascii_lowercase word ≡ encode_lower bytes
  pub each : All (λ b. b < 256) bytes

-- a word is a path, of at most seven slots: what is printed for it
pub record IsPath (word path : List ℕ) : Type 0 where
  pub text : word ≡ path_text path
  pub short : length path ≤ MAX_DEPTH
  pub each : All (λ s. s < SLOTS) path

-- a word is the data of a page: `-`, which is none, or its digits
abbrev pub IsData : List ℕ → List ℕ → Type 0
IsData word bytes = ((word ≡ codes "-") × (bytes ≡ [])) ⊎ (AreDigitsOf word bytes × (length bytes ≤ MAX_DATA))

-- a word names a file: by its object's number, or by sixteen bytes of a capability
abbrev pub IsNameOf : Mode → List ℕ → FileName → Type 0
IsNameOf Numbers word (Number n) = IsNumberIn 1 MAX_OBJECTS word n
IsNameOf Numbers word (Cap cap) = ⊥
IsNameOf Caps word (Number n) = ⊥
IsNameOf Caps word (Cap cap) = AreDigitsOf word cap × (length cap ≡ 16)

-- these words say this command
abbrev pub Says : Mode → List (List ℕ) → Command → Type 0
Says mode words (Begin file) = (f : List ℕ) × (words ≡ codes "begin" ∷ f ∷ []) × IsNameOf mode f file
Says mode words (Super files) =
    (fs : List (List ℕ)) × (words ≡ codes "super" ∷ fs) × (2 ≤ length fs) × (length fs ≤ MAX_FILES) × AllZip (IsNameOf mode) fs files
Says mode words (Pick k) = (n : List ℕ) × (words ≡ codes "pick" ∷ n ∷ []) × IsNumberIn 0 16 n k
Says mode words (Do (ReadAt at)) = (p : List ℕ) × (words ≡ codes "read" ∷ p ∷ []) × IsPath p at
Says mode words (Do (ListAt at)) = (p : List ℕ) × (words ≡ codes "list" ∷ p ∷ []) × IsPath p at
Says mode words (Do (WriteAt at bytes)) =
    (p d : List ℕ) × (words ≡ codes "write" ∷ p ∷ d ∷ []) × IsPath p at × IsData d bytes
Says mode words (Do (MakeAt child)) = (p : List ℕ) × (words ≡ codes "make" ∷ p ∷ []) × IsPath p (path_of child)
Says mode words (Do (DropAt child)) = (p : List ℕ) × (words ≡ codes "drop" ∷ p ∷ []) × IsPath p (path_of child)
Says mode words Commit = words ≡ codes "commit" ∷ []
Says mode words Abandon = words ≡ codes "abandon" ∷ []
Says mode words Create = words ≡ codes "create" ∷ []
Says mode words (Destroy file) = (f : List ℕ) × (words ≡ codes "destroy" ∷ f ∷ []) × IsNameOf mode f file
Says mode words (Prune file keep) =
    (f n : List ℕ) × (words ≡ codes "prune" ∷ f ∷ codes "keep" ∷ n ∷ []) × IsNameOf mode f file × IsNumberIn 1 65535 n keep
Says mode words (Restrict file mask) =
    (f n : List ℕ) × (words ≡ codes "restrict" ∷ f ∷ n ∷ []) × (mode ≡ Caps) × IsNameOf mode f file × IsNumberIn 0 255 n mask

-- these words ask nothing: there are none, or the first begins with `#`
abbrev pub IsRemark : List (List ℕ) → Type 0
IsRemark [] = Unit {0}
IsRemark (w ∷ ws) = slice_index w 0 ≡ 35
