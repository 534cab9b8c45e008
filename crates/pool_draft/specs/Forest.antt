-- The pages of several roots as one list of entries: a root's number stands before each path.
use Rattle.std.specs.Prelude.{ℕ, nat_eq, if◌then◌else◌, List, [], ◌∷◌}
use Rattle.draft_model.specs.Views.{Copied}
use Rattle.draft_model.specs.Entries.{Entry}

-- an entry of a root, put before these
abbrev pub join_below : ℕ → List ℕ → Copied → List Entry → List Entry
join_below root [] c es = es
join_below root (k ∷ path) c es = if nat_eq k root then (path, c) ∷ es else es

-- the pages of one root, by their paths
abbrev pub below : ℕ → List Entry → List Entry
below root [] = []
below root (e ∷ es) = join_below root e.0 e.1 (below root es)
