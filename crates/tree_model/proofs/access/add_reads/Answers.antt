use Rattle.std.proofs.Common.{List, ℕ, ap, sym, ◌∙◌}
use Rattle.std.proofs.lemmas.Result.{on_ok_weaker}
use Rattle.tree_model.specs.Accesses.{Place, on_the_way, own_reads, target}
use Rattle.tree_model.specs.Gathered.{with_places}
use Rattle.tree_model.proofs.Gathering.{with_places_append}
use Rattle.tree_model.proofs.access.add_reads.Goals as goal

pub returns : goal.returns
returns c =
    let init = c.args.reads.now.items in
    let tree = c.args.tree.now in
    let own = own_reads tree c.args.writes.now c.args.step.now in
    on_ok_weaker c.add_own_reads.result (λ e.
    e
    ∙ ap (λ (xs : List Place). with_places xs own)
    (c.in_ok-insert_way.ensures ∙ ap (λ (p : List ℕ). with_places init (on_the_way tree p)) c.target.ensures)
    ∙ sym (with_places_append init (on_the_way tree (target c.args.step.now)) own))
    c.add_own_reads.ensures
