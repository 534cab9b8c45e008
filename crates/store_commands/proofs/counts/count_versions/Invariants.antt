use Rattle.std.proofs.Common.{◌≡◌, ◌*◌, ◌^◌, ◌≤◌, take}
use Rattle.store_commands.specs.Counting.{heads_versions}
use Rattle.store_commands.proofs.counts.count_versions.Given as goal

abbrev pub invariant-loop-head : goal.invariant-loop-head
invariant-loop-head l = record {
  sum : l.versions ≡ heads_versions (take l.head-index l.heads);
  most : l.versions ≤ l.head-index * 2 ^ 64;
}
