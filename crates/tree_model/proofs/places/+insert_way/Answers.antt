use Rattle.std.proofs.Common.{List, ℕ, [], ◌∷◌, cond, ap, ◌∙◌}
use Rattle.std.proofs.lemmas.Result.{on_ok_weaker}
use Rattle.tree_model.specs.Trees.{has}
use Rattle.tree_model.specs.Accesses.{Place, on_the_way, slot_of}
use Rattle.tree_model.specs.Gathered.{with_places}
use Rattle.tree_model.proofs.Gathering.{way_more}
use Rattle.tree_model.proofs.places.+insert_way.Goals as goal

pub returns-in_ok-insert_way-in-Some : goal.returns-in_ok-insert_way-in-Some
returns-in_ok-insert_way-in-Some t c =
    let init = c.args.places.now.items in
    let tree = c.args.tree.now in
    let child = c.in-Some.child in
    on_ok_weaker c.insert_step_down.result (λ e.
    e
    ∙ ap (λ (xs : List Place). with_places xs (cond (has tree child.0) (slot_of child ∷ []) []))
    (c.in_ok-insert_way-in-Some.ensures ∙ ap (λ (p : List ℕ). with_places init (on_the_way tree p)) c.above.ensures.above)
    ∙ way_more init tree child c.args.at.now c.in-Some.ensures)
    c.insert_step_down.ensures
