use Rattle.std.proofs.Common.{◌∙◌, sym, ap, Some}
use Rattle.store_check.specs.Versions.{follows_prior}
use Rattle.store_check.proofs.VersionWalk.{no_next, no_base, no_copy, is_copy}
use Rattle.store_check.proofs.version.follows.Goals as goal

pub returns-then-not-is_next-clause-walk : goal.returns-then-not-is_next-clause-walk
returns-then-not-is_next-clause-walk c = λ places.
    ap (λ o. follows_prior c.args.n c.args.version.now o places) c.in-Some.is ∙ ap (λ v. follows_prior c.args.n v (Some c.in-Some.prior) places) (sym c.version.view_is)
    ∙ no_next c.args.n _ c.in-Some.prior places (sym c.if-not-is_next.ensures)

pub returns-then-not-is_block-clause-walk : goal.returns-then-not-is_block-clause-walk
returns-then-not-is_block-clause-walk c = λ places.
    ap (λ o. follows_prior c.args.n c.args.version.now o places) c.in-Some.is ∙ ap (λ v. follows_prior c.args.n v (Some c.in-Some.prior) places) (sym c.version.view_is)
    ∙ no_base c.args.n _ c.in-Some.prior places (sym c.if-not-is_next.ensures) (sym c.if-not-is_block.ensures)

pub returns-then-not-copied-clause-walk : goal.returns-then-not-copied-clause-walk
returns-then-not-copied-clause-walk c = λ places.
    ap (λ o. follows_prior c.args.n c.args.version.now o places) c.in-Some.is ∙ ap (λ v. follows_prior c.args.n v (Some c.in-Some.prior) places) (sym c.version.view_is)
    ∙ no_copy c.args.n _ c.in-Some.prior places (sym c.if-not-is_next.ensures) (sym c.if-not-is_block.ensures) (sym c.if-not-copied.ensures)

pub returns-else-not-copied-clause-walk : goal.returns-else-not-copied-clause-walk
returns-else-not-copied-clause-walk c = λ places.
    ap (λ o. follows_prior c.args.n c.args.version.now o places) c.in-Some.is ∙ ap (λ v. follows_prior c.args.n v (Some c.in-Some.prior) places) (sym c.version.view_is)
    ∙ is_copy c.args.n _ c.in-Some.prior places (sym c.if-not-is_next.ensures) (sym c.if-not-is_block.ensures) (sym c.if-not-copied.ensures)
