use Rattle.std.specs.Prelude.{ℕ, Bool, true, false, ◌&&◌, nat_eq, nat_lt, List, [], ◌∷◌}
use Rattle.std.specs.List.{list_all}
use Rattle.std.specs.declared.cmp.Ordering.{Ordering}
use Rattle.std.specs.Ordering.{nat_cmp}
use Rattle.std.specs.Cmp.Lexicographic.{slice_cmp}
use Rattle.afs_base.specs.declared.limits.TheConstants.{SLOTS}

-- paths are ordered as lists of slots, so a path stands before its extensions
abbrev pub path_cmp : List ℕ → List ℕ → Ordering
path_cmp = slice_cmp nat_cmp

-- the first path is a prefix of the second, which may be equal to it
abbrev pub is_prefix : List ℕ → List ℕ → Bool
is_prefix [] q = true
is_prefix (s ∷ p) [] = false
is_prefix (s ∷ p) (t ∷ q) = nat_eq s t && is_prefix p q

-- each slot of the list is one of a page's sixteen
abbrev pub are_slots : List ℕ → Bool
are_slots slots = list_all (λ s. nat_lt s SLOTS) slots
