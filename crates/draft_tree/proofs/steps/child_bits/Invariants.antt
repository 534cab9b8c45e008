use Rattle.std.proofs.Common.{◌≡◌}
use Rattle.draft_model.specs.Views.{copies}
use Rattle.draft_model.specs.Entries.{shown}
use Rattle.draft_tree.proofs.Stepping.{bits_below}
use Rattle.draft_tree.proofs.steps.child_bits.Given as goal

abbrev pub invariant-loop-slot : goal.invariant-loop-slot
invariant-loop-slot g l = l.bits ≡ bits_below (copies (shown (g.P.PageList.entries l.pages))) l.at l.slot
