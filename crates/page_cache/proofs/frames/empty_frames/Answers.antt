use Rattle.page_cache.proofs.Changed.{begun_next}
use Rattle.page_cache.proofs.frames.empty_frames.Goals as goal

pub loop-key-preserved : goal.loop-key-preserved
loop-key-preserved c = begun_next c.loop-key.order c.put.new.self c.loop-key.key c.args.pages _ c.loop-key.invariant c.loop-key-test.true c.in_ok-put.ensures.entries
