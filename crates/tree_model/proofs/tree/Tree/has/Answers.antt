use Rattle.std.proofs.Common.{List, ap, is_some, ◌∙◌, position}
use Rattle.tree_model.specs.Entries.{Page, is_at}
use Rattle.tree_model.specs.Trees.{Tree, has}
use Rattle.tree_model.proofs.Entries.{is_some_at}
use Rattle.tree_model.proofs.tree.Tree.has.Goals as goal

pub returns-clause-has : goal.returns-clause-has
returns-clause-has c =
    c.is_some.ensures ∙ ap is_some c.place_of.ensures
    ∙ ap (λ (pages : List Page). is_some (position (is_at c.args.at.now) pages)) c.deref.ensures.value
    ∙ is_some_at c.self.inside.pages.items c.args.at.now
    ∙ ap (λ (t : Tree). has t c.args.at.now) c.self.view_is
