-- How the reading of scripts ends.
use Rattle.std.specs.Prelude.{◌≡◌, ℕ, ◌+◌, false, List, [], ◌∷◌, ◌++◌, length, map, codes, All}
use Rattle.std.specs.Fmt.{decimal}
use Rattle.endings.specs.Texts.{memory_text}
use Rattle.endings.specs.declared.status.Status.{Status}
use Rattle.endings.specs.declared.status.Status.TheVariants as status
use Rattle.script_text.specs.declared.refused.LineWhy.{LineWhy}
use Rattle.script_text.specs.declared.refused.ScriptRefused.TheVariants.{BadLine}
use Rattle.script_text.specs.declared.script.Line.{Line}
use Rattle.script_text.specs.declared.script.Mode.TheVariants.{Numbers}
use Rattle.script_text.specs.declared.source.Source.{Ghosts as Reader}
use Rattle.script_text.specs.Grammar.{IsInGrammar, IsRefusal, bad_lines}
use Rattle.script_text.specs.ReplyText.{cause_text}
use Rattle.script_text.specs.ScriptValue.{ScriptValue}
use Rattle.playing.specs.declared.unread.Unread.{Unread}
use Rattle.playing.specs.declared.unread.Unread.TheVariants.{Source, Line as BadLineOf, Unbuilt, Memory}
use Rattle.session.specs.Built.{AreBuilt, IsBuilt, is_built}
use Rattle.playing.specs.Sources.{AreHeld, AreKept, IsFailed, script_of}

-- Scripts that are played: each source held a text in the grammar, whose script it is, and all
-- their lines are built. No source failed.
pub record AreRead {S : Type 0} (reader : Reader S) (old new : List S) (scripts : List ScriptValue)
    : Type 0 where
  pub texts : List (List ℕ)
  pub held : AreHeld reader old texts
  pub grammar : All (IsInGrammar Numbers) texts
  pub said : scripts ≡ map script_of texts
  pub built : All AreBuilt scripts
  pub kept : AreKept reader old new

-- The least client whose text is outside the grammar, its least bad line and the first cause.
pub record IsFirstBad (texts : List (List ℕ)) (client line : ℕ) (why : LineWhy) : Type 0 where
  pub earlier : List (List ℕ)
  pub text : List ℕ
  pub later : List (List ℕ)
  pub parts : texts ≡ earlier ++ text ∷ later
  pub number : client ≡ length earlier + 1
  pub good : All (IsInGrammar Numbers) earlier
  pub bad : IsRefusal (BadLine line why) (bad_lines Numbers text)

-- The first line of a kind that is not played has this number.
pub record IsUnbuiltAt (lines : List Line) (number : ℕ) : Type 0 where
  pub earlier : List Line
  pub line : Line
  pub later : List Line
  pub parts : lines ≡ earlier ++ line ∷ later
  pub is : line.number ≡ number
  pub built : All (λ before. IsBuilt before.command) earlier
  pub unbuilt : is_built line.command ≡ false

-- The least client whose script has such a line, and the first of these.
pub record IsFirstUnbuilt (scripts : List ScriptValue) (client line : ℕ) : Type 0 where
  pub earlier : List ScriptValue
  pub script : ScriptValue
  pub later : List ScriptValue
  pub parts : scripts ≡ earlier ++ script ∷ later
  pub number : client ≡ length earlier + 1
  pub built : All AreBuilt earlier
  pub first : IsUnbuiltAt script.lines line

-- A text is outside the grammar. No source failed.
pub record AreBad {S : Type 0} (reader : Reader S) (old new : List S) (client line : ℕ)
    (why : LineWhy) : Type 0 where
  pub texts : List (List ℕ)
  pub held : AreHeld reader old texts
  pub first : IsFirstBad texts client line why
  pub kept : AreKept reader old new

-- All texts are in the grammar, but a line is not built. No source failed.
pub record AreUnbuilt {S : Type 0} (reader : Reader S) (old new : List S) (client line : ℕ) : Type 0
  where
    pub texts : List (List ℕ)
    pub held : AreHeld reader old texts
    pub grammar : All (IsInGrammar Numbers) texts
    pub first : IsFirstUnbuilt (map script_of texts) client line
    pub kept : AreKept reader old new

-- Why the scripts of sources were not read.
abbrev pub IsUnread : {S : Type 0} → Reader S → List S → List S → Unread → Type 0
IsUnread reader old new (Source client) = IsFailed reader old new client
IsUnread reader old new (BadLineOf client line why) = AreBad reader old new client line why
IsUnread reader old new (Unbuilt client line) = AreUnbuilt reader old new client line
IsUnread reader old new Memory = AreKept reader old new

-- The line that is printed then.
abbrev pub unread_text : Unread → List ℕ
unread_text (Source client) = codes "source " ++ (decimal client ++ 10 ∷ [])
unread_text (BadLineOf client line why) =
    codes "script " ++ (decimal client ++ (codes " line " ++ (decimal line
    ++ (codes ": " ++ (cause_text why ++ 10 ∷ [])))))
unread_text (Unbuilt client line) =
    codes "script " ++ (decimal client ++ (codes " line " ++ (decimal line
    ++ (codes ": unbuilt" ++ 10 ∷ []))))
unread_text Memory = memory_text

-- The status of a call that ends so.
abbrev pub unread_status : Unread → Status
unread_status (Source client) = status.SourceFault
unread_status (BadLineOf client line why) = status.BadScript
unread_status (Unbuilt client line) = status.BadScript
unread_status Memory = status.Memory
