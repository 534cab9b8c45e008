use Rattle.std.proofs.Common.{◌≡◌, List, Some, None, ap, sym, ◌∙◌, position}
use Rattle.std.specs.FinMap as map
use Rattle.tree_model.specs.Entries.{Page, is_at}
use Rattle.tree_model.specs.Trees.{Tree}
use Rattle.tree_model.proofs.Entries.{found_some, found_none}
use Rattle.tree_model.proofs.tree.Tree.get.Goals as goal

pub returns-in-Some : goal.returns-in-Some
returns-in-Some c =
    let place : position (is_at c.args.at.now) c.self.inside.pages.items ≡ Some c.in-Some.i =
    ap (λ (pages : List Page). position (is_at c.args.at.now) pages) (sym c.deref.ensures.value) ∙ sym c.place_of.ensures ∙ c.in-Some.is in
    ap (λ (page : Page). Some page.1) c.index.ensures
    ∙ sym (found_some c.self.inside.pages.items c.args.at.now c.in-Some.i c.index.result.now place)
    ∙ ap (λ (t : Tree). map.get t c.args.at.now) c.self.view_is

pub returns-in-None : goal.returns-in-None
returns-in-None c =
    let place : position (is_at c.args.at.now) c.self.inside.pages.items ≡ None =
    ap (λ (pages : List Page). position (is_at c.args.at.now) pages) (sym c.deref.ensures.value) ∙ sym c.place_of.ensures ∙ c.in-None.is in
    sym (found_none c.self.inside.pages.items c.args.at.now place) ∙ ap (λ (t : Tree). map.get t c.args.at.now) c.self.view_is
