use Rattle.std.specs.Prelude.{Bool, true, false, List, [], ◌∷◌}
use Rattle.ref_flags.specs.Flagged.{Flagged, no_flags}

-- a page that is copied, with these further marks: read, written, searched, modified
abbrev pub copied : Bool → Bool → Bool → Bool → Flagged
copied r w s m = record { copied = true; read = r; written = w; searched = s; modified = m }

-- the table of codes, row by row, from code 0 on
abbrev pub rows : List Flagged
rows =
    no_flags
    ∷ copied false false false false ∷ copied false false true false ∷ copied false false true true
    ∷ copied true false false false ∷ copied true false true false ∷ copied true false true true
    ∷ copied false true false false ∷ copied false true true false ∷ copied false true true true
    ∷ copied true true false false ∷ copied true true true false ∷ copied true true true true
    ∷ []
