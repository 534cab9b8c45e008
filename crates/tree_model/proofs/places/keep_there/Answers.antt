use Rattle.std.proofs.Common.{rules}
use Rattle.std.proofs.lemmas.Fn.{filter_same}
use Rattle.tree_model.specs.Trees.{has}
use Rattle.tree_model.specs.Accesses.{Place}
use Rattle.tree_model.proofs.places.keep_there.Goals as goal

pub returns : goal.returns
returns c = filter_same _ (λ (x : Place). has c.args.tree.now x.0) _ (λ x b f' k. search rules) _ _ c.retain.ensures.filtered
