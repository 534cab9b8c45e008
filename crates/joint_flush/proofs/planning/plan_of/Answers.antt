use Rattle.std.proofs.Common.{ℕ, List, length, ap, ◌∙◌, arith}
use Rattle.joint_flush.proofs.Fresh.{part_at, picked_paths}
use Rattle.joint_flush.proofs.planning.plan_of.Goals as goal

pub plan-requires-clause-room : goal.plan-requires-clause-room
plan-requires-clause-room c =
    let paths = ap (λ (ps : List (List ℕ)). length ps) (picked_paths c.args.set.now c.pick.new.self c.args.number c.pick.ensures.same c.pick.ensures.picked c.requires.within) in
    let room = c.requires.room in
    omega (arith, paths, room)

pub returns-clause-planned : goal.returns-clause-planned
returns-clause-planned c =
    let paths = picked_paths c.args.set.now c.pick.new.self c.args.number c.pick.ensures.same c.pick.ensures.picked c.requires.within in
    record {
      part = part_at c.args.set.now c.args.number c.plan.result c.requires.within (c.plan.ensures.paths ∙ paths);
      held = c.plan.ensures.blocks;
      members = c.plan.ensures.members;
      start = c.plan.ensures.start;
    }
