use Rattle.std.proofs.Common.{◌∙◌, sym, ap, Some}
use Rattle.store_model.specs.Laws.{pages_of}
use Rattle.store_check.proofs.BeforeLaws.{no_page_before}
use Rattle.store_check.proofs.pages.slot_befores.Goals as goal

pub returns-in-NoPage-clause-befores : goal.returns-in-NoPage-clause-befores
returns-in-NoPage-clause-befores g c = λ told nodes path lies long at k low.
    c.all_before-in-NoPage.ensures k low
    ∙ ap Some (sym (no_page_before (pages_of (g.B.Blocks.content c.args.survey.now.began)) c.args.survey.now.count nodes path k lies (at ∙ c.in-NoPage.is)))
