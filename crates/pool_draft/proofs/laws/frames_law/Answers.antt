use Rattle.std.proofs.Common.{ap}
use Rattle.pool_draft.specs.Roots.{OtherDrafts}
use Rattle.pool_draft.proofs.laws.frames_law.Goals as goal

pub returns : goal.returns
returns c = record {
  enough = λ s. s.drafts.frames;
  frames = λ s t same. ap (λ (o : OtherDrafts). o.pages.frames) same;
  roots = λ s t same. ap (λ (o : OtherDrafts). o.roots) same;
  picked = λ s t same. ap (λ (o : OtherDrafts). o.pages.root) same;
}
