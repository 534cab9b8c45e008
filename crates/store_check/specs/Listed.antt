-- A list of blocks that only clauses see.
use Rattle.std.specs.Prelude.{ℕ, List, [], ◌∷◌}
use Rattle.store_check.specs.declared.listed.Link.{Link}
use Rattle.store_check.specs.declared.listed.Link.TheVariants.{End, More}

-- the blocks, the newest first
abbrev pub links : Link → List ℕ
links End = []
links (More block earlier) = block.value ∷ earlier.value
