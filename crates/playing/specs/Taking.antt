-- What calls take from the sources of clients.
use Rattle.std.specs.Prelude.{◌≡◌, ℕ, ◌<◌, Bool, MatchBool, List, [], ◌++◌, length, map, Option, Vec}
use Rattle.std.specs.declared.alloc.Global.{Global}
use Rattle.std.specs.Io.KnownBytes.{Consumes, IsAtEnd}
use Rattle.afs_base.specs.Causes.{Rose}
use Rattle.script_text.specs.declared.source.Source.{Ghosts as Reader}
use Rattle.playing.specs.Sources.{AreKept, IsFailed}
use Rattle.playing.specs.declared.unread.Unread.{Unread}
use Rattle.playing.specs.declared.unread.Unread.TheVariants.{Source, Line, Unbuilt, Memory}

-- Some bytes went from what is left to the end of a text: none exactly at the source's end.
pub record TakesPiece (left left' : Option (List ℕ)) (text text' : List ℕ) (more : Bool) : Type 0
  where
    pub bytes : List ℕ
    pub longer : text' ≡ text ++ bytes
    pub taken : Consumes left left' bytes
    pub ended : MatchBool more (0 < length bytes) ((bytes ≡ []) × IsAtEnd left')

-- A client's source was not read: it failed, or there was no memory, and its count stayed.
abbrev pub IsTextFault : ℕ → ℕ → ℕ → Unread → Type 0
IsTextFault client before after (Source failed) = (failed ≡ client) × Rose before after
IsTextFault client before after (Line failed line why) = ⊥
IsTextFault client before after (Unbuilt failed line) = ⊥
IsTextFault client before after Memory = after ≡ before

-- The bytes of texts.
abbrev pub bytes_of : List (Vec ℕ Global) → List (List ℕ)
bytes_of texts = map (λ (text : Vec ℕ Global). text.items) texts

-- The sources of the clients were not read: one failed, or there was no memory.
abbrev pub AreTextsFault : {S : Type 0} → Reader S → List S → List S → Unread → Type 0
AreTextsFault reader old new (Source client) = IsFailed reader old new client
AreTextsFault reader old new (Line client line why) = ⊥
AreTextsFault reader old new (Unbuilt client line) = ⊥
AreTextsFault reader old new Memory = AreKept reader old new
