-- The lines that are printed where a call does not end well.
use Rattle.std.specs.Prelude.{ℕ, List, [], ◌∷◌, ◌++◌, codes}
use Rattle.std.specs.Fmt.{decimal}
use Rattle.drives.specs.declared.device.Half.{Half}
use Rattle.drives.specs.declared.device.Half.TheVariants.{A, B}
use Rattle.page_codec.specs.declared.why.Why.{Why}
use Rattle.page_codec.specs.declared.why.Why.TheVariants.{Closed, Kind, Level, Code, Reference, Length, Object, Serial, Member, Zero, Format, Blocks, Generation, Secret, Base, Seen, Index, Empty}
use Rattle.store_model.specs.Walk.{Refused}

-- the line that is printed where the words are no command
abbrev pub usage_text : List ℕ
usage_text = codes "usage" ++ 10 ∷ []

-- the line that is printed for want of memory
abbrev pub memory_text : List ℕ
memory_text = codes "memory" ++ 10 ∷ []

-- the line that names a half that failed
abbrev pub drive_text : Half → List ℕ
drive_text A = codes "drive A" ++ 10 ∷ []
drive_text B = codes "drive B" ++ 10 ∷ []

-- the word for each cause
abbrev pub why_word : Why → List ℕ
why_word Closed = codes "closed"
why_word Kind = codes "kind"
why_word Level = codes "level"
why_word Code = codes "code"
why_word Reference = codes "reference"
why_word Length = codes "length"
why_word Object = codes "object"
why_word Serial = codes "serial"
why_word Member = codes "member"
why_word Zero = codes "zero"
why_word Format = codes "format"
why_word Blocks = codes "blocks"
why_word Generation = codes "generation"
why_word Secret = codes "secret"
why_word Base = codes "base"
why_word Seen = codes "seen"
why_word Index = codes "index"
why_word Empty = codes "empty"

-- the line that names the block of a store that is not lawful, and why
abbrev pub bad_store_text : Refused → List ℕ
bad_store_text cause = codes "bad store: block " ++ (decimal cause.block ++ (codes " " ++ (why_word cause.why ++ 10 ∷ [])))
