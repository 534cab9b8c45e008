use Rattle.draft_tree.proofs.Fresh.{IsListed}
use Rattle.draft_tree.proofs.pages.Pages.list_fresh.Given as goal

abbrev pub invariant-loop-at : goal.invariant-loop-at
invariant-loop-at l = IsListed l.self l.at-iterator l.into.items
