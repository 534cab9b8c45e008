use Rattle.std.proofs.Common.{◌≡◌, length}
use Rattle.endings.proofs.Printing.{PrintedSoFar}
use Rattle.endings.proofs.put.put_text.Given as goal

abbrev pub invariant-lines : goal.invariant-lines
invariant-lines g l = record {
  printed : PrintedSoFar (g.K.Sink.written l.fn.out) (g.K.Sink.written l.out) l.rest l.text;
  kept : g.K.Sink.faults l.out ≡ g.K.Sink.faults l.fn.out;
}

abbrev pub decreases-lines : goal.decreases-lines
decreases-lines g l = length l.rest
