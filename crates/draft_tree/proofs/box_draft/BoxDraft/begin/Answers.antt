use Rattle.std.proofs.Common.{◌≡◌, sym, ap, subst, ◌∙◌}
use Rattle.page_codec.specs.Values.{VersionValue}
use Rattle.draft_model.specs.Views.{View}
use Rattle.draft_model.specs.Steps.{begun}
use Rattle.draft_model.specs.Stands.{Begins}
use Rattle.draft_model.proofs.Feeding.{begins}
use Rattle.draft_model.specs.Entries.{shown}
use Rattle.draft_tree.specs.Pages.{put}
use Rattle.draft_tree.proofs.Kept.{top_begun, levels_begun, top_same, levels_same}
use Rattle.draft_tree.proofs.box_draft.BoxDraft.begin.Goals as goal

pub invariant_of-result-clause-top : goal.invariant_of-result-clause-top
invariant_of-result-clause-top c =
    let page = c.version.inside.page in
    top_same (begun page) (shown c.put.new.self) (λ p. c.in_ok-put.ensures.put p ∙ (λ j. put (shown (c.new-pages.ensures j)) (c.root.ensures j) (c.fed.ensures j) p))
    (top_begun page)

pub invariant_of-result-clause-levels : goal.invariant_of-result-clause-levels
invariant_of-result-clause-levels c =
    let page = c.version.inside.page in
    levels_same (begun page) (shown c.put.new.self) (λ p. c.in_ok-put.ensures.put p ∙ (λ j. put (shown (c.new-pages.ensures j)) (c.root.ensures j) (c.fed.ensures j) p))
    (levels_begun page c.version.invariant.top)

pub returns-clause-begins : goal.returns-clause-begins
returns-clause-begins c =
    let page = c.args.version.now.page in
    let shows : begun page ≡ shown c.put.new.self = λ i p.
    sym (c.in_ok-put.ensures.put p ∙ (λ j. put (shown (c.new-pages.ensures j)) (c.root.ensures j) (c.fed.ensures j) p) ∙ ap (λ (v : VersionValue). begun v.page p) c.version.view_is) i in
    let F : View → Type 0 = λ d. Begins d c.args.at page in
    subst F shows (begins c.args.at page)
