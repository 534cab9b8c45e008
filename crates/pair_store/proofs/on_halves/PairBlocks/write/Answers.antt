use Rattle.pair_store.specs.Blocks.{OldOrNew}
use Rattle.pair_store.specs.Content.{ContentsLeft}
use Rattle.pair_store.proofs.PageWriting.{lifted}
use Rattle.pair_store.proofs.Relations.{on_ok}
use Rattle.pair_store.proofs.on_halves.PairBlocks.write.Goals as goal

pub returns-clause-kept : goal.returns-clause-kept
returns-clause-kept g c = λ tells. on_ok c.write_content.result (λ k ne settled. (c.write_content.ensures.kept tells k ne).1 settled)

pub returns-clause-kept_always : goal.returns-clause-kept_always
returns-clause-kept_always g c = on_ok c.write_content.result c.write_content.ensures.kept_always

pub returns-clause-images : goal.returns-clause-images
returns-clause-images g c = λ tells settled.
    lifted _ g.V.Drives.moment (ContentsLeft g.V.Drives.may_leave) _ _ (OldOrNew c.args.n c.args.body.now) (c.write_content.ensures.images tells settled)

pub returns-clause-settles_only : goal.returns-clause-settles_only
returns-clause-settles_only g c = λ tells k ne settled. (c.write_content.ensures.kept tells k ne).0 settled
