use Rattle.std.proofs.Common.{◌≢◌, ◌⊎◌, ℕ, sym, subst}
use Rattle.drives.specs.Changes.{Changes}
use Rattle.pair_store.specs.Blocks.{SameContents, SameOthers}
use Rattle.pair_store.specs.Content.{ContentsLeft}
use Rattle.pair_store.specs.Mending.{WroteNothing}
use Rattle.pair_store.proofs.PageWriting.{lifted}
use Rattle.pair_store.proofs.on_halves.Pair.mend.Goals as goal

pub returns-clause-kept_always : goal.returns-clause-kept_always
returns-clause-kept_always g c = λ k which settled.
    c.mend_block.ensures.kept_always k (subst (λ (m : ℕ). (k ≢ m) ⊎ WroteNothing c.mend_block.result) (sym c.get.ensures.value) which) settled

pub returns-clause-images : goal.returns-clause-images
returns-clause-images g c = λ tells rest.
    lifted _ g.V.Drives.moment (ContentsLeft g.V.Drives.may_leave) _ _ SameContents (c.mend_block.ensures.images tells rest)

pub returns-clause-images_unwritten : goal.returns-clause-images_unwritten
returns-clause-images_unwritten g c = λ none.
    lifted _ g.V.Drives.moment (ContentsLeft g.V.Drives.may_leave) _ _ SameContents (c.mend_block.ensures.images_unwritten none)

pub returns-clause-images_others : goal.returns-clause-images_others
returns-clause-images_others g c =
    lifted _ g.V.Drives.moment (ContentsLeft g.V.Drives.may_leave) _ _ (SameOthers c.args.n)
    (subst (λ (m : ℕ). Changes g.V.Drives.moment (ContentsLeft g.V.Drives.may_leave) c.args.self.now.drives c.mend_block.new.drives (SameOthers m)) c.get.ensures.value c.mend_block.ensures.images_others)
