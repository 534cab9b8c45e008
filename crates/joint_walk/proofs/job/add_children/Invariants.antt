use Rattle.std.proofs.Common.{◌≡◌, ◌+◌, ◌-◌, ◌*◌, ◌≤◌, ◌++◌, length, drop}
use Rattle.joint_walk.specs.Pairs.{accesses_child}
use Rattle.joint_walk.specs.Walks.{wanted_children}
use Rattle.joint_walk.proofs.job.add_children.Given as goal

abbrev pub invariant-loop-done : goal.invariant-loop-done
invariant-loop-done g l = record {
  room : length l.pending ≤ 16 * length l.at + l.done;
  list : l.pending ≡ wanted_children (accesses_child (g.D.Draft.view l.draft) l.at) l.at (16 - l.done) (drop (16 - l.done) l.page.refs) ++ l.fn.pending;
}
