use Rattle.std.proofs.Common.{ap, ◌∙◌}
use Rattle.lru.specs.LruCache.{lru_cache}
use Rattle.page_cache.proofs.Laid.{put_is}
use Rattle.page_cache.proofs.Changed.{some_of}
use Rattle.page_cache.proofs.frames.fill_frame.Goals as goal

pub returns : goal.returns
returns c = let f = some_of _ c.requires in c.in-Ok.ensures.entries ∙ ap (λ l. lru_cache l c.args.order.now.cap) (put_is c.args.order.now c.args.key f.0 _ f.1)
