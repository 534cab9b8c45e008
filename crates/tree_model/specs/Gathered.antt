use Rattle.std.specs.Prelude.{Bool, true, not, ◌&&◌, List, [], ◌∷◌, ◌++◌, if◌then◌else◌, Option, Some, None}
use Rattle.std.specs.Ordering.{is_lt}
use Rattle.tree_model.specs.Accesses.{Place, place_cmp, is_among}

-- Places gathered in lists without repeats.

-- what an update has read and written
pub record Accessed : Type 0 where
  pub reads : List Place
  pub writes : List Place

-- no place stands twice
abbrev pub are_distinct : List Place → Bool
are_distinct [] = true
are_distinct (x ∷ places) = not (is_among places x) && are_distinct places

-- the places with one more, where it is not among them yet
abbrev pub with_place : List Place → Place → List Place
with_place places x = if is_among places x then places else places ++ x ∷ []

-- the places with these, one after the other
abbrev pub with_places : List Place → List Place → List Place
with_places places [] = places
with_places places (x ∷ more) = with_places (with_place places x) more

-- the lesser of a place and the least so far, if there is one
abbrev pub lesser : Option Place → Place → Option Place
lesser None x = Some x
lesser (Some least) x = if is_lt (place_cmp x least) then Some x else Some least

-- the least so far, and a place that counts where it is among these
abbrev pub least_with : List Place → Option Place → Place → Option Place
least_with places least x = if is_among places x then lesser least x else least
