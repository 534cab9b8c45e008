use Rattle.session.proofs.Beginning.{given_more}
use Rattle.session.proofs.opening.give_all_back.Goals as goal

pub loop-place-preserved : goal.loop-place-preserved
loop-place-preserved c = given_more c.loop-place.place _ _ _ c.loop-place.invariant c.give_back_at.ensures
