use Rattle.std.proofs.Common.{option_map, sym, ap, ◌∙◌, rules, tests}
use Rattle.std.specs.Map.Iter.{deref_pair}
use Rattle.std.proofs.lemmas.Iterator.Consumers.{YieldsList-from_rest, YieldsList-from_filter, YieldsList-at, nth_from_yields_List}
use Rattle.draft_model.specs.Entries.{Entry, is_fresh}
use Rattle.draft_tree.proofs.Fresh.{fresh_at}
use Rattle.draft_tree.proofs.pages.Pages.fresh.Goals as goal

pub returns-in-Some : goal.returns-in-Some
returns-in-Some c =
    ap (λ o. option_map (λ (e : Entry). e.0) (option_map deref_pair o)) (sym c.in-Some.is)
    ∙ fresh_at c.self.inside.list.entries c.args.self.now _ c.args.k
    (nth_from_yields_List c.nth.result _ c.args.k c.nth.ensures.ran
    (YieldsList-from_filter _ (is_fresh c.args.self.now)
    (YieldsList-at c.filter.ensures.source (YieldsList-from_rest c.self.inside.list.entries c.iter.ensures.rest))
    c.filter.ensures.closure (λ x r q k. search (rules, tests))))
    c.self.view_is

pub returns-in-None : goal.returns-in-None
returns-in-None c =
    ap (λ o. option_map (λ (e : Entry). e.0) (option_map deref_pair o)) (sym c.in-None.is)
    ∙ fresh_at c.self.inside.list.entries c.args.self.now _ c.args.k
    (nth_from_yields_List c.nth.result _ c.args.k c.nth.ensures.ran
    (YieldsList-from_filter _ (is_fresh c.args.self.now)
    (YieldsList-at c.filter.ensures.source (YieldsList-from_rest c.self.inside.list.entries c.iter.ensures.rest))
    c.filter.ensures.closure (λ x r q k. search (rules, tests))))
    c.self.view_is
