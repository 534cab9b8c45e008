use Rattle.std.proofs.Common.{inl}
use Rattle.page_cache.proofs.Listed.{out_different, out_bounded}
use Rattle.page_cache.proofs.Backed.{out_backed}
use Rattle.page_cache.proofs.blocks.CachedBlocks.test_and_set.Goals as goal

pub invariant_of-self-clause-backed : goal.invariant_of-self-clause-backed
invariant_of-self-clause-backed g c = let e = c.test_and_set-answer.ensures in
    out_backed g.B.Blocks.tells _ _ (g.B.Blocks.settled c.args.self.now.inner) _ (g.B.Blocks.content c.args.self.now.inner) _ c.args.n c.args.self.now.frames _
    e.size (λ tells k ne s. e.settles_only tells k (inl ne) s) (λ tells k ne. e.others tells k ne) c.args.self.now.backed c.take_out.ensures

pub invariant_of-self-clause-different : goal.invariant_of-self-clause-different
invariant_of-self-clause-different g c = out_different c.args.n c.args.self.now.frames _ c.take_out.ensures c.args.self.now.different

pub invariant_of-self-clause-bounded : goal.invariant_of-self-clause-bounded
invariant_of-self-clause-bounded g c = out_bounded c.args.n c.args.self.now.frames _ c.take_out.ensures c.args.self.now.bounded
