use Rattle.std.specs.Prelude.{ℕ, Bool, nat_eq, List}
use Rattle.std.specs.Cmp.Lexicographic.{pointwise}

-- The pages of a tree as a list of entries.

-- a path and the data of its page
abbrev pub Page : Type 0
Page = List ℕ × List ℕ

-- the entry stands at this path
abbrev pub is_at : List ℕ → Page → Bool
is_at at page = pointwise nat_eq page.0 at
