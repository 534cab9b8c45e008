use Rattle.std.proofs.Common.{sym, ap, ◌∙◌}
use Rattle.page_cache.specs.Listing.{is_listed}
use Rattle.page_cache.proofs.Changed.{held}
use Rattle.page_cache.proofs.frames.Frames.holds.Goals as goal

pub returns : goal.returns
returns c = let i = c.self.inside in
    c.is_some.ensures ∙ (held i.order i.places.items c.self.invariant c.args.n 0 c.place_in.result (sym c.place_in.ensures) ∙ ap (λ l. is_listed c.args.n l) c.self.view_is)
