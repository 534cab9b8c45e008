use Rattle.block_map.proofs.Replacing.{ReplacesBelow}
use Rattle.block_map.proofs.states.replace_held.Given as goal

abbrev pub invariant-places : goal.invariant-places
invariant-places l = ReplacesBelow l.client l.by l.initial.states.items l.states.items l.at l.count
