use Rattle.std.proofs.Common.{◌≡◌, ◌≤◌, ◌*◌, take}
use Rattle.ground.specs.Making.{room_for}
use Rattle.ground.proofs.making.room_for.Given as goal

abbrev pub invariant-loop-script : goal.invariant-loop-script
invariant-loop-script l = record {
  sum : l.room ≡ room_for (take l.script-index l.scripts);
  most : l.room ≤ 4000 * l.script-index;
}
