use Rattle.std.proofs.Common.{◌≡◌}
use Rattle.session.specs.Opening.{beyond_root}
use Rattle.session.proofs.Beginning.{changed_to}
use Rattle.session.proofs.opening.all_beyond_root.Given as goal

abbrev pub invariant-loop-head : goal.invariant-loop-head
invariant-loop-head l = l.head-items ≡ changed_to beyond_root l.head-index l.initial.head-items
