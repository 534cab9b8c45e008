-- What is said of texts that were read, and of their scripts.
use Rattle.std.specs.Prelude.{◌≡◌, ℕ, List, map, All}
use Rattle.script_text.specs.declared.script.Mode.TheVariants.{Numbers}
use Rattle.script_text.specs.declared.refused.ScriptRefused.{ScriptRefused}
use Rattle.script_text.specs.declared.refused.ScriptRefused.TheVariants.{BadLine}
use Rattle.script_text.specs.declared.refused.ScriptRefused.TheVariants as refused
use Rattle.script_text.specs.Grammar.{IsInGrammar, IsRefusal, bad_lines}
use Rattle.script_text.specs.ScriptValue.{ScriptValue}
use Rattle.playing.specs.Sources.{script_of}
use Rattle.playing.specs.Unread.{IsFirstBad, IsFirstUnbuilt}
use Rattle.playing.specs.declared.unread.Unread.{Unread}
use Rattle.playing.specs.declared.unread.Unread.TheVariants.{Source, Line, Unbuilt, Memory}

-- All texts are in the grammar, and these are their scripts.
pub record AreSaid (texts : List (List ℕ)) (scripts : List ScriptValue) : Type 0 where
  pub grammar : All (IsInGrammar Numbers) texts
  pub said : scripts ≡ map script_of texts

-- Why the script of a client is not played whose text was refused.
abbrev pub refused_for : ℕ → ScriptRefused → Unread
refused_for client (BadLine line why) = Line client line why
refused_for client refused.Memory = Memory

-- The text of a client was refused: it is outside the grammar, or there was no memory.
abbrev pub IsRefusedFor : ℕ → List ℕ → Unread → Type 0
IsRefusedFor client text (Source failed) = ⊥
IsRefusedFor client text (Line bad line why) =
    (bad ≡ client) × IsRefusal (BadLine line why) (bad_lines Numbers text)
IsRefusedFor client text (Unbuilt bad line) = ⊥
IsRefusedFor client text Memory = Unit {0}

-- Texts were not parsed: one is outside the grammar, or there was no memory.
abbrev pub IsUnparsed : List (List ℕ) → Unread → Type 0
IsUnparsed texts (Source client) = ⊥
IsUnparsed texts (Line client line why) = IsFirstBad texts client line why
IsUnparsed texts (Unbuilt client line) = ⊥
IsUnparsed texts Memory = Unit {0}

-- Scripts were refused for a line that is not played.
abbrev pub IsUnbuiltFor : List ScriptValue → Unread → Type 0
IsUnbuiltFor scripts (Source client) = ⊥
IsUnbuiltFor scripts (Line client line why) = ⊥
IsUnbuiltFor scripts (Unbuilt client line) = IsFirstUnbuilt scripts client line
IsUnbuiltFor scripts Memory = ⊥
