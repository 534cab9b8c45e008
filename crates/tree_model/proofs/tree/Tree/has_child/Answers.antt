use Rattle.std.proofs.Common.{ℕ, List, [], ◌∷◌, ◌++◌, ap, is_some, ◌∙◌, position}
use Rattle.tree_model.specs.Entries.{Page, is_at}
use Rattle.tree_model.specs.Trees.{Tree, has}
use Rattle.tree_model.proofs.Entries.{is_some_at}
use Rattle.tree_model.proofs.tree.Tree.has_child.Goals as goal

pub returns-in-Ok-child : goal.returns-in-Ok-child
returns-in-Ok-child c =
    c.is_some.ensures ∙ ap is_some c.place_of.ensures
    ∙ ap (λ (pages : List Page). is_some (position (is_at c.in-Ok-child.child) pages)) c.deref.ensures.value
    ∙ is_some_at c.self.inside.pages.items c.in-Ok-child.child
    ∙ ap (λ (t : Tree). has t c.in-Ok-child.child) c.self.view_is
    ∙ ap (λ (p : List ℕ). has c.args.self.now p) c.in-Ok-child.ensures.child
    ∙ ap (λ (s : ℕ). has c.args.self.now (c.args.at.now ++ s ∷ [])) c.in-Ok.ensures.1
