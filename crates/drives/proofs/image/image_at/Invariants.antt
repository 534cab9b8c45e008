use Rattle.std.proofs.Common.{◌≡◌, length, take}
use Rattle.drives.specs.Bytes.{IsBytes}
use Rattle.drives.specs.Replay.{replayed}
use Rattle.drives.specs.Picked.{IsReplayed}
use Rattle.drives.proofs.image.image_at.Given as goal

abbrev pub invariant-loop-call : goal.invariant-loop-call
invariant-loop-call l = record {
  replayed : IsReplayed l.pick (replayed l.first.items l.moment (take l.call-index l.calls.items)) l.bytes.items l.image.items;
  bytes : length l.bytes.items ≡ length l.first.items;
  image : length l.image.items ≡ length l.first.items;
  fits : IsBytes l.image.items;
}
