use Rattle.page_cache.proofs.Changed.{IsBegun}
use Rattle.page_cache.proofs.frames.empty_frames.Given as goal

abbrev pub invariant-loop-key : goal.invariant-loop-key
invariant-loop-key l = IsBegun l.order l.key l.pages
