use Rattle.std.proofs.Common.{sym, ◌∙◌}
use Rattle.draft_model.proofs.Entries.{any_wrote, wrote_any}
use Rattle.draft_tree.proofs.pages.Pages.has_writes.Goals as goal

pub returns : goal.returns
returns c = (
  λ h. any_wrote c.args.self.now c.any_written.ensures.ordered (sym c.any_written.ensures.value ∙ h),
  λ wrote. c.any_written.ensures.value ∙ wrote_any c.args.self.now wrote,
)
