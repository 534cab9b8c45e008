use Rattle.std.proofs.Common.{◌++◌, ap, sym, arith}
use Rattle.joint_walk.specs.Pairs.{accesses_child}
use Rattle.joint_walk.specs.Walks.{wanted_children}
use Rattle.joint_walk.proofs.Slots.{drop_whole}
use Rattle.joint_walk.proofs.job.add_children.Goals as goal

pub loop-done-init : goal.loop-done-init
loop-done-init g c = record {
  room = omega (arith, c.requires.room);
  list = sym (ap (λ refs. wanted_children (accesses_child (g.D.Draft.view c.args.draft.now) c.args.at.now) c.args.at.now 16 refs ++ c.args.pending.now) (drop_whole c.args.page.now.refs c.look_at.ensures.whole));
}
