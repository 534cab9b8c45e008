use Rattle.std.proofs.Common.{◌≡◌, true, false, sym, ap, ◌∙◌, rules}
use Rattle.draft_model.specs.Views.{copies}
use Rattle.draft_model.specs.Steps.{is_there}
use Rattle.draft_tree.specs.Marking.{child_dropped}
use Rattle.draft_model.specs.Entries.{shown}
use Rattle.draft_tree.specs.Pages.{changed, cut_below, searched_to}
use Rattle.draft_tree.proofs.Stepping.{undropped, dropped_done}
use Rattle.draft_tree.proofs.steps.drop_step.Goals as goal

pub returns-then-not-has_child-clause-view : goal.returns-then-not-has_child-clause-view
returns-then-not-has_child-clause-view g c p =
    let d = shown (g.P.PageList.entries c.args.pages.now) in
    let x = c.args.at.now in
    let absent : c.has_child.result ≡ false = search rules in
    let none : is_there (copies d) x ≡ false = (λ j. is_there (copies d) (sym c.above.ensures.above j, sym c.last.ensures j)) ∙ sym c.has_child.ensures ∙ absent in
    c.search_way.ensures.view p
    ∙ ap (λ q. searched_to d q p) c.path-path.ensures.path
    ∙ undropped d x p none

pub returns-clause-view : goal.returns-clause-view
returns-clause-view g c p =
    let d = shown (g.P.PageList.entries c.args.pages.now) in
    let x = c.args.at.now in
    let path = c.path-path.ensures.path in
    let found : c.has_child.result ≡ true = search rules in
    let acts : is_there (copies d) x ≡ true = (λ j. is_there (copies d) (sym c.above.ensures.above j, sym c.last.ensures j)) ∙ sym c.has_child.ensures ∙ found in
    c.search_way-2.ensures.view p
    ∙ (λ j. searched_to (λ y. c.cut_below.ensures.view y j) c.path-path.result p)
    ∙ (λ j. searched_to (cut_below (λ y. c.change.ensures.view y j) c.path-path.result) c.path-path.result p)
    ∙ (λ j. searched_to (cut_below (changed d (c.above-2.ensures.above j) (child_dropped (c.last-2.ensures j))) (path j)) (path j) p)
    ∙ dropped_done d x p acts
