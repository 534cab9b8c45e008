use Rattle.std.proofs.Common.{◌≡◌, true, false, not, ◌&&◌, length, refl, sym, ◌∙◌, rules}
use Rattle.draft_model.specs.Views.{copies, live}
use Rattle.draft_model.specs.Steps.{makes, made, is_there}
use Rattle.draft_tree.specs.Marking.{child_made}
use Rattle.draft_model.specs.Entries.{shown}
use Rattle.draft_tree.specs.Pages.{put, changed, searched_to}
use Rattle.tree_model.specs.Children.{path_of}
use Rattle.draft_tree.proofs.Stepping.{made_done}
use Rattle.draft_tree.proofs.steps.make_step.Goals as goal

pub returns-clause-view : goal.returns-clause-view
returns-clause-view g c p =
    let d = shown (g.P.PageList.entries c.args.pages.now) in
    let x = c.args.at.now in
    let path = c.path-path.ensures.path in
    let there : c.is_live.result ≡ true = search rules in
    let free : c.has_child.result ≡ false = search rules in
    let acts : makes (copies d) x ≡ true =
    (λ j. live (copies d) (sym c.above.ensures.above j) && not (is_there (copies d) (sym c.above-2.ensures.above j, sym c.last.ensures j)))
    ∙ (λ j. sym c.is_live.ensures j && not (sym c.has_child.ensures j))
    ∙ (λ j. there j && not (free j)) in
    c.search_way-2.ensures.view p
    ∙ (λ j. searched_to (λ y. c.change.ensures.view y j) (c.path-path.result) p)
    ∙ (λ j. searched_to (changed (λ y. c.in_ok-put_made.ensures.put y j) c.above-3.result (child_made c.last-2.result)) c.path-path.result p)
    ∙ (λ j. searched_to (changed (put d (path j) (made (length (path j)) (d (path j)))) (c.above-3.ensures.above j) (child_made (c.last-2.ensures j))) (path j) p)
    ∙ made_done d x (made (length (path_of x)) (d (path_of x))) p acts refl
