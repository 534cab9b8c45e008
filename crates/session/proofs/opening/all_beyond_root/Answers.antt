use Rattle.std.proofs.Common.{arith}
use Rattle.session.specs.Opening.{beyond_root}
use Rattle.session.proofs.Beginning.{change_next, changed_back}
use Rattle.session.proofs.opening.all_beyond_root.Goals as goal

pub loop-head-preserved : goal.loop-head-preserved
loop-head-preserved c = change_next beyond_root c.loop-head.head-index _ _ c.head-item.result _ c.loop-head.invariant c.beyond_root.ensures c.loop-head-test.true

pub returns : goal.returns
returns c = changed_back beyond_root _ _ _ c.loop-head.head-index _ c.loop-head.invariant c.deref_mut-head-items.ensures.value c.loop-head.auto.head-items (omega arith) c.deref_mut-head-items.ensures.len
