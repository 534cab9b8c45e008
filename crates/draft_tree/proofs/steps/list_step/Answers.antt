use Rattle.std.proofs.Common.{◌∙◌}
use Rattle.draft_model.specs.Entries.{shown}
use Rattle.draft_tree.specs.Pages.{searched_to}
use Rattle.draft_tree.proofs.Stepping.{list_done}
use Rattle.draft_tree.proofs.steps.list_step.Goals as goal

pub returns-clause-view : goal.returns-clause-view
returns-clause-view g c p =
    c.search_way.ensures.view p
    ∙ (λ j. searched_to (λ x. c.change.ensures.view x j) c.args.at.now p)
    ∙ list_done (shown (g.P.PageList.entries c.args.pages.now)) c.args.at.now p
