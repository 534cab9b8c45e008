use Rattle.std.proofs.Common.{◌≡◌, ◌*◌, ◌^◌, ◌≤◌, take}
use Rattle.store_commands.specs.Counting.{heads_kept}
use Rattle.store_commands.proofs.counts.count_kept.Given as goal

abbrev pub invariant-loop-head : goal.invariant-loop-head
invariant-loop-head l = record {
  sum : l.kept ≡ heads_kept (take l.head-index l.heads);
  most : l.kept ≤ l.head-index * 2 ^ 32;
}
