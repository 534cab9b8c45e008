use Rattle.std.proofs.Common.{refl, true≢false, sym, ap, ◌∙◌}
use Rattle.version_chain.specs.Flush.{Plan}
use Rattle.version_chain.proofs.Writing.{version_written, page_written}
use Rattle.version_chain.proofs.flush.Flush.write.Goals as goal

pub returns-then-is_empty : goal.returns-then-is_empty
returns-then-is_empty g c =
    version_written (g.D.Draft.view c.args.draft.now) _ c.args.self.now c.args.path.now c.encode_version.new.into c.as_slice-places.result.now c.self.inside.members
    c.version_for.result (c.if-is_empty.ensures.0 refl)
    (c.as_slice-places.ensures.value ∙ ap (λ (plan : Plan). plan.placed) c.self.view_is)
    (ap (λ (plan : Plan). plan.members) c.self.view_is)
    c.version_for.ensures c.encode_version.ensures.bytes c.encode_version.ensures.spelled

pub returns-else-is_empty : goal.returns-else-is_empty
returns-else-is_empty g c =
    page_written (g.D.Draft.view c.args.draft.now) _ c.args.self.now c.args.path.now c.encode_page.new.into c.as_slice-places.result.now c.page_for.result
    (λ e. true≢false (sym (c.if-is_empty.ensures.1 e)))
    (c.as_slice-places.ensures.value ∙ ap (λ (plan : Plan). plan.placed) c.self.view_is)
    c.page_for.ensures c.encode_page.ensures.bytes c.encode_page.ensures.spelled
