use Rattle.std.proofs.Common.{List, ap, ◌∙◌, rules, tests}
use Rattle.std.specs.List.{list_any, take_while}
use Rattle.std.specs.BTreeMap.Range.{entries_between}
use Rattle.std.specs.declared.ops.Bound.TheVariants.{Included, Unbounded}
use Rattle.std.proofs.lemmas.Iterator.Consumers.{YieldsList-from_rest, YieldsList-at}
use Rattle.std.proofs.lemmas.Iterator.Search.{any_from_yields_List, YieldsList-from_take_while}
use Rattle.afs_base.specs.Path.{path_cmp, is_prefix}
use Rattle.draft_model.specs.Entries.{is_written}
use Rattle.draft_model.specs.Entries.{Entry}
use Rattle.draft_tree.proofs.pages.Pages.touches_from.Goals as goal

pub returns-clause-value : goal.returns-clause-value
returns-clause-value c =
    any_from_yields_List (λ (e : Entry). is_written e.1) _ _ _ c.any.ensures.ran
    (YieldsList-from_take_while _ (λ (e : Entry). is_prefix c.args.at.now e.0)
    (YieldsList-at c.take_while.ensures.source (YieldsList-from_rest (entries_between path_cmp (Included c.args.at.now) Unbounded c.self.inside.list.entries) (c.range.ensures.between tt)))
    c.take_while.ensures.closure c.take_while.ensures.done (λ x b q k. search (rules, tests)))
    (λ x b q k. search (rules, tests))
    ∙ ap (λ (es : List Entry). list_any (λ (e : Entry). is_written e.1) (take_while (λ (e : Entry). is_prefix c.args.at.now e.0) (entries_between path_cmp (Included c.args.at.now) Unbounded es))) c.self.view_is
