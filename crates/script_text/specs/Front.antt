-- What a sink holds after a line that was cut off.
use Rattle.std.specs.Prelude.{◌≡◌, ℕ, List, ◌++◌, Option}
use Rattle.std.specs.Io.KnownBytes.{Appends}

-- known bytes grow by a front of `all`
abbrev pub AppendsFront : Option (List ℕ) → Option (List ℕ) → List ℕ → Type 0
AppendsFront old new all = (front : List ℕ) × (rest : List ℕ) × Appends old new front × (front ++ rest ≡ all)
