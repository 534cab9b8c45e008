use Rattle.std.proofs.Common.{◌≡◌, ℕ, ◌<◌, None, take, slice_index}
use Rattle.draft_model.specs.Views.{copies}
use Rattle.draft_model.specs.Entries.{shown}
use Rattle.draft_tree.specs.Pages.{wanted_block}
use Rattle.draft_tree.proofs.steps.need.Given as goal

abbrev pub invariant-loop-i : goal.invariant-loop-i
invariant-loop-i g l = (l.above ≡ take l.i l.end)
    × ((k : ℕ) → k < l.i → wanted_block (copies (shown (g.P.PageList.entries l.pages))) (take k l.end) (slice_index l.end k) ≡ None)
