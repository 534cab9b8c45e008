use Rattle.std.proofs.Common.{◌≡◌, ℕ, List, take}
use Rattle.std.specs.Map.{keys_of}
use Rattle.draft_model.specs.Entries.{shown}
use Rattle.draft_tree.proofs.Ways.{searched_until}
use Rattle.draft_tree.proofs.steps.search_way.Given as goal

abbrev pub invariant-loop-i : goal.invariant-loop-i
invariant-loop-i g l = (l.above ≡ take l.i l.at)
    × ((p : List ℕ) → shown (g.P.PageList.entries l.pages) p ≡ searched_until (shown (g.P.PageList.entries l.initial.pages)) l.at l.i p)
    × (keys_of (g.P.PageList.entries l.pages) ≡ keys_of (g.P.PageList.entries l.initial.pages))
    × (g.P.PageList.others l.pages ≡ g.P.PageList.others l.initial.pages)
