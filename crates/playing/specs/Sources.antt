-- What was read of the sources of scripts, client 1 first.
use Rattle.std.specs.Prelude.{◌≡◌, ◌⊎◌, ℕ, ◌+◌, ◌<◌, ◌≤◌, List, ◌∷◌, ◌++◌, length, Option, IfSome}
use Rattle.std.specs.List.{AllZip}
use Rattle.std.specs.Io.KnownBytes.{Consumes}
use Rattle.afs_base.specs.Causes.{Rose}
use Rattle.afs_base.specs.declared.limits.TheConstants.{MAX_SCRIPT_BYTES}
use Rattle.script_text.specs.declared.script.Mode.TheVariants.{Numbers}
use Rattle.script_text.specs.declared.source.Source.{Ghosts as Reader}
use Rattle.script_text.specs.Grammar.{good_lines}
use Rattle.script_text.specs.ScriptValue.{ScriptValue}

-- This text is all that was left of a source, where it tells that.
abbrev pub IsHeld : Option (List ℕ) → List ℕ → Type 0
IsHeld left text = IfSome left (λ all. text ≡ all)

-- Each source held its text.
abbrev pub AreHeld : {S : Type 0} → Reader S → List S → List (List ℕ) → Type 0
AreHeld reader sources texts = AllZip (λ s text. IsHeld (reader.left s) text) sources texts

-- Bytes went from the front of what was left of a source.
abbrev pub IsTaken : Option (List ℕ) → Option (List ℕ) → Type 0
IsTaken left left' = (bytes : List ℕ) × Consumes left left' bytes

-- So they did from each source.
abbrev pub AreTaken : {S : Type 0} → Reader S → List S → List S → Type 0
AreTaken reader old new = AllZip (λ s t. IsTaken (reader.left s) (reader.left t)) old new

-- No source's count of faults fell.
abbrev pub AreLater : {S : Type 0} → Reader S → List S → List S → Type 0
AreLater reader old new = AllZip (λ s t. reader.faults s ≤ reader.faults t) old new

-- No source's count of faults rose or fell.
abbrev pub AreKept : {S : Type 0} → Reader S → List S → List S → Type 0
AreKept reader old new = AllZip (λ s t. reader.faults t ≡ reader.faults s) old new

-- The source of this client failed. The counts of those before it stay, and those after it were not
-- touched.
pub record IsFailed {S : Type 0} (reader : Reader S) (old new : List S) (client : ℕ) : Type 0 where
  pub before : List S
  pub before' : List S
  pub source : S
  pub source' : S
  pub after : List S
  pub were : old ≡ before ++ source ∷ after
  pub are : new ≡ before' ++ source' ∷ after
  pub number : client ≡ length before + 1
  pub kept : AreKept reader before before'
  pub rose : Rose (reader.faults source) (reader.faults source')

-- The script that a text in the grammar says.
abbrev pub script_of : List ℕ → ScriptValue
script_of text = record { mode = Numbers; lines = good_lines Numbers text }

-- What was read of a text: all of it, or a front that is longer than a script may be.
abbrev pub IsReadOf : List ℕ → List ℕ → Type 0
IsReadOf text read =
    (read ≡ text) ⊎ ((MAX_SCRIPT_BYTES < length read) × (rest : List ℕ) × (read ++ rest ≡ text))
