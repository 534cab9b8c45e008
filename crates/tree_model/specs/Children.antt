use Rattle.std.specs.Prelude.{ℕ, List, [], ◌∷◌, ◌++◌}

-- the path of a child, which is given by the path above it and its slot there
abbrev pub path_of : List ℕ × ℕ → List ℕ
path_of c = c.0 ++ c.1 ∷ []
