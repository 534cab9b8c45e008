use Rattle.std.proofs.Common.{◌≡◌, sym, ap, subst, ◌∙◌}
use Rattle.draft_model.specs.Views.{Copied, View}
use Rattle.draft_model.specs.Steps.{fed}
use Rattle.draft_model.specs.Stands.{Feeds}
use Rattle.draft_model.proofs.Feeding.{feeds}
use Rattle.draft_model.specs.Entries.{shown}
use Rattle.draft_tree.specs.Pages.{put}
use Rattle.draft_tree.proofs.Kept.{top_fed, levels_fed, top_same, levels_same}
use Rattle.draft_tree.proofs.box_draft.BoxDraftDraft.feed.Goals as goal

pub invariant_of-self-2-clause-top : goal.invariant_of-self-2-clause-top
invariant_of-self-2-clause-top c =
    let d = shown c.args.self.now.pages in
    let q = c.args.at.now in
    let page = c.args.page.now in
    top_same (fed d q page) (shown c.put.new.self) (λ p. c.in_ok-put.ensures.put p ∙ ap (λ (x : Copied). put d q x p) c.fed.ensures)
    (top_fed d q page c.args.self.now.top)

pub invariant_of-self-2-clause-levels : goal.invariant_of-self-2-clause-levels
invariant_of-self-2-clause-levels c =
    let d = shown c.args.self.now.pages in
    let q = c.args.at.now in
    let page = c.args.page.now in
    levels_same (fed d q page) (shown c.put.new.self) (λ p. c.in_ok-put.ensures.put p ∙ ap (λ (x : Copied). put d q x p) c.fed.ensures)
    (levels_fed d q page c.requires.level c.args.self.now.levels)

pub returns-clause-feeds : goal.returns-clause-feeds
returns-clause-feeds c =
    let d = shown c.args.self.now.pages in
    let q = c.args.at.now in
    let page = c.args.page.now in
    let shows : fed d q page ≡ shown c.put.new.self = λ i p. sym (c.in_ok-put.ensures.put p ∙ ap (λ (x : Copied). put d q x p) c.fed.ensures) i in
    let F : View → Type 0 = λ v. Feeds d v q page in
    subst F shows (feeds d q page c.in_ok-put.ensures.slots)
