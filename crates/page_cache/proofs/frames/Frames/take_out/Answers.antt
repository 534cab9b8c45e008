use Rattle.std.proofs.Common.{sym, ap, ◌∙◌}
use Rattle.page_cache.specs.Listing.{take_out}
use Rattle.page_cache.proofs.Changed.{is_there, takes_out, stays_out}
use Rattle.page_cache.proofs.frames.Frames.take_out.Goals as goal

pub returns-in_default : goal.returns-in_default
returns-in_default c = let i = c.self.inside in sym c.self.view_is ∙ (sym (stays_out i.order i.places.items c.self.invariant c.args.n 0 (sym c.place_in.ensures ∙ c.in_default.is)) ∙ ap (λ l. take_out c.args.n l) c.self.view_is)

pub fill_frame-requires : goal.fill_frame-requires
fill_frame-requires c = let i = c.self.inside in is_there i.order i.places.items c.self.invariant c.args.n c.in-Some.key (sym c.in-Some.ensures)

pub invariant_of-self : goal.invariant_of-self
invariant_of-self c = let i = c.self.inside in
    (takes_out i.order i.places.items c.self.invariant c.args.n c.in-Some.key (sym c.in-Some.ensures) _ c.set_place.new.places.items c.fill_frame.new.order c.demote.new.self c.set_place.ensures c.fill_frame.ensures c.demote.ensures.entries).laid

pub returns : goal.returns
returns c = let i = c.self.inside in
    (takes_out i.order i.places.items c.self.invariant c.args.n c.in-Some.key (sym c.in-Some.ensures) _ c.set_place.new.places.items c.fill_frame.new.order c.demote.new.self c.set_place.ensures c.fill_frame.ensures c.demote.ensures.entries).list ∙ ap (λ l. take_out c.args.n l) c.self.view_is
