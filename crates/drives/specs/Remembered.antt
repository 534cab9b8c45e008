-- A list that only clauses see.
use Rattle.std.specs.Prelude.{List, [], ◌∷◌}
use Rattle.drives.specs.declared.history.Link.{Link}
use Rattle.drives.specs.declared.history.Link.TheVariants.{End, More}

-- the values, the newest first
abbrev pub links : {T : Type 0} → Link T → List T
links End = []
links (More value earlier) = value.value ∷ earlier.value
