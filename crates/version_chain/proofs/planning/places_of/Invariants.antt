use Rattle.std.proofs.Common.{◌≡◌, ◌+◌}
use Rattle.tree_model.specs.Accesses.{written_paths}
use Rattle.block_map.specs.States.{held_below}
use Rattle.version_chain.proofs.Written.{PlacesSoFar}
use Rattle.version_chain.proofs.planning.places_of.Given as goal

abbrev pub invariant-places : goal.invariant-places
invariant-places g l = PlacesSoFar l.map l.client l.from (written_paths (g.D.Draft.fresh_of l.draft)) l.places.items l.path-index
    × (held_below l.client l.map l.next ≡ l.from + l.path-index)
