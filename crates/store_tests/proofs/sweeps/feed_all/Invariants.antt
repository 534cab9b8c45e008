use Rattle.std.proofs.Common.{◌≡◌, length}
use Rattle.store_tests.proofs.sweeps.feed_all.Given as goal

abbrev pub invariant-feeds : goal.invariant-feeds
invariant-feeds l = length l.sweep.known.marks ≡ length l.initial.sweep.known.marks
