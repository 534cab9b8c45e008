use Rattle.page_cache.proofs.Listed.{none_different}
use Rattle.page_cache.proofs.cached.Cached.over.Goals as goal

pub invariant_of-result-clause-different : goal.invariant_of-result-clause-different
invariant_of-result-clause-different g c = none_different _ _ _ c.in-Ok.ensures
