use Rattle.std.proofs.Common.{◌<◌, subst, sym, ap, ◌∙◌}
use Rattle.page_cache.specs.Listing.{Listing, put_front}
use Rattle.page_cache.proofs.Changed.{puts_again, puts_new, last_there, was_within}
use Rattle.page_cache.proofs.frames.Frames.put.Goals as goal

pub invariant_of-self : goal.invariant_of-self
invariant_of-self c = let i = c.self.inside in
    (puts_again i.order i.places.items c.self.invariant c.args.n c.in-Some.key (sym c.in-Some.ensures) c.args.body.now c.fill_frame.new.order c.fill_frame.ensures).laid

pub returns-in-Some : goal.returns-in-Some
returns-in-Some c = let i = c.self.inside in
    (puts_again i.order i.places.items c.self.invariant c.args.n c.in-Some.key (sym c.in-Some.ensures) c.args.body.now c.fill_frame.new.order c.fill_frame.ensures).list ∙ ap (λ l. put_front c.args.n c.args.body.now l) c.self.view_is

pub replace-requires-clause-fitted : goal.replace-requires-clause-fitted
replace-requires-clause-fitted c = let i = c.self.inside in was_within i.order i.places.items c.self.invariant c.args.n c.last_frame-key.result.0 c.last_frame-key.result.1 c.last_frame-key.ensures

pub fill_frame-requires-2 : goal.fill_frame-requires-2
fill_frame-requires-2 c = let i = c.self.inside in last_there i.order i.places.items c.self.invariant c.args.n c.last_frame-key.result.0 c.last_frame-key.result.1 c.last_frame-key.ensures

pub invariant_of-self-2 : goal.invariant_of-self-2
invariant_of-self-2 c = let i = c.self.inside in
    (puts_new i.order i.places.items c.self.invariant c.args.n c.last_frame-key.result.0 c.last_frame-key.result.1 c.last_frame-key.ensures (sym c.place_in.ensures ∙ c.in_default.is) (subst (λ (l : Listing). c.args.n < l.blocks) (sym c.self.view_is) c.requires) c.args.body.now c.replace.new.places.items c.fill_frame-2.new.order c.replace.ensures c.fill_frame-2.ensures).laid

pub returns : goal.returns
returns c = let i = c.self.inside in
    (puts_new i.order i.places.items c.self.invariant c.args.n c.last_frame-key.result.0 c.last_frame-key.result.1 c.last_frame-key.ensures (sym c.place_in.ensures ∙ c.in_default.is) (subst (λ (l : Listing). c.args.n < l.blocks) (sym c.self.view_is) c.requires) c.args.body.now c.replace.new.places.items c.fill_frame-2.new.order c.replace.ensures c.fill_frame-2.ensures).list
    ∙ ap (λ l. put_front c.args.n c.args.body.now l) c.self.view_is
