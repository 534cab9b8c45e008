use Rattle.std.proofs.Common.{ap, sym, ◌∙◌}
use Rattle.draft_tree.specs.declared.change.Change.{Change}
use Rattle.draft_tree.specs.Marking.{copied_with, after_change}
use Rattle.draft_tree.proofs.change.Change.apply.Goals as goal

pub returns-in-Search : goal.returns-in-Search
returns-in-Search c =
    c.search.ensures c.args.page.now ∙ ap (λ (x : Change). after_change x (copied_with c.args.marks.now c.args.page.now)) (sym c.in-Search.is)

pub returns-in-SearchAll : goal.returns-in-SearchAll
returns-in-SearchAll c =
    c.search_all.ensures c.args.page.now ∙ ap (λ (x : Change). after_change x (copied_with c.args.marks.now c.args.page.now)) (sym c.in-SearchAll.is)

pub returns-in-Read : goal.returns-in-Read
returns-in-Read c =
    c.read.ensures c.args.page.now ∙ ap (λ (x : Change). after_change x (copied_with c.args.marks.now c.args.page.now)) (sym c.in-Read.is)

pub returns-in-MakeChild : goal.returns-in-MakeChild
returns-in-MakeChild c =
    c.make_child.ensures c.args.marks.now ∙ ap (λ (x : Change). after_change x (copied_with c.args.marks.now c.args.page.now)) (sym c.in-MakeChild.is)

pub returns-in-DropChild : goal.returns-in-DropChild
returns-in-DropChild c =
    c.drop_child.ensures c.args.marks.now ∙ ap (λ (x : Change). after_change x (copied_with c.args.marks.now c.args.page.now)) (sym c.in-DropChild.is)
