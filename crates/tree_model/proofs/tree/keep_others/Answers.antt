use Rattle.std.proofs.Common.{not, rules}
use Rattle.std.proofs.lemmas.Fn.{filter_same}
use Rattle.afs_base.specs.Path.{is_prefix}
use Rattle.tree_model.specs.Entries.{Page}
use Rattle.tree_model.proofs.tree.keep_others.Goals as goal

pub returns : goal.returns
returns c =
    let test = λ (page : Page). not (is_prefix c.args.at.now page.0) in
    filter_same _ test _ (λ x b f' k. search rules) _ _ c.retain.ensures.filtered
