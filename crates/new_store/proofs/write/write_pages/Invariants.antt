use Rattle.std.proofs.Common.{◌≡◌, ◌≤◌, ℕ}
use Rattle.drives.specs.declared.device.Half.{Half}
use Rattle.drives.specs.Changes.{Changes}
use Rattle.new_store.specs.Formatting.{AreWritten, IsFilling, IsOuter}
use Rattle.new_store.proofs.write.write_pages.Given as goal

abbrev pub invariant-loop-n : goal.invariant-loop-n
invariant-loop-n g l = record {
  written : g.B.Blocks.tells → AreWritten l.store l.n (g.B.Blocks.content l.blocks) (g.B.Blocks.settled l.blocks) (g.B.Blocks.settled_always l.blocks) (g.B.Blocks.may_leave l.blocks (g.B.Blocks.moment l.blocks));
  outer : g.B.Blocks.tells → IsFilling l.store.files (g.B.Blocks.content l.fn.blocks) (g.B.Blocks.content l.blocks);
  kept_always : (k : ℕ) → IsOuter l.store.files k → g.B.Blocks.settled_always l.fn.blocks k → g.B.Blocks.settled_always l.blocks k;
  images : Changes g.B.Blocks.moment g.B.Blocks.may_leave l.fn.blocks l.blocks (IsFilling l.store.files);
  size : g.B.Blocks.size l.blocks ≡ g.B.Blocks.size l.fn.blocks;
  later : (h : Half) → (g.B.Blocks.faults l.fn.blocks h ≤ g.B.Blocks.faults l.blocks h) × (g.B.Blocks.last_fault l.fn.blocks h ≤ g.B.Blocks.last_fault l.blocks h);
}
