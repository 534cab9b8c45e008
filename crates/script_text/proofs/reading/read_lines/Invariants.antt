use Rattle.std.proofs.Common.{◌≡◌, length}
use Rattle.script_text.specs.Words.{pieces}
use Rattle.script_text.proofs.LineLemmas.{ReadsLines, StandsAt}
use Rattle.script_text.proofs.reading.read_lines.Given as goal

abbrev pub invariant-loop-piece : goal.invariant-loop-piece
invariant-loop-piece l = record {
  count : l.number ≡ length l.yielded;
  read : ReadsLines l.mode (pieces l.bytes) (length l.yielded) l.start l.lines.items;
  stands : StandsAt l.bytes (pieces l.bytes) (length l.yielded) l.start;
}
