use Rattle.std.proofs.Common.{◌≡◌, ◌+◌, refl, sym, ap, ◌∙◌, arith}
use Rattle.std.proofs.lemmas.Bool.{not-true}
use Rattle.page_codec.specs.Values.{PageValue}
use Rattle.prune_sweep.proofs.ReadSteps.{page_is_read}
use Rattle.prune_sweep.proofs.progress.Progress.read_page.Goals as goal

pub returns-clause-reads : goal.returns-clause-reads
returns-clause-reads c =
    let level : c.in_ok-page.page.level ≡ c.args.level = ap (λ (p : PageValue). p.level) (sym c.page.view_is) ∙ c.if-page-level.false in
    page_is_read c.args.at c.args.level c.args.following c.args.stays c.args.block.now c.args.self.now c.in_ok-page.page c.page.inside.refs (c.page.inside.level + 1)
    c.name_new.new.marks c.share_all.new.marks c.set.new.self c.read_mark.result c.in_ok-page.ensures.exact level (ap (λ (p : PageValue). p.refs) (sym c.page.view_is))
    (omega (arith, c.if-page-level.false)) c.read_mark.ensures c.set.ensures c.requires.within (not-true _ (sym c.if-not-name_new.ensures.new))
    (c.if-not-name_new.ensures.marks refl) c.if-not-name_new.ensures.stays c.share_all.ensures.marks c.share_all.ensures.stays
