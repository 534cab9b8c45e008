use Rattle.std.proofs.Common.{refl, sym, ap, ◌∙◌, nat_eq}
use Rattle.std.specs.Map.{lookup}
use Rattle.page_cache.specs.Listing.{put_front}
use Rattle.page_cache.proofs.Laid.{unlisted}
use Rattle.page_cache.proofs.Changed.{found, promotes}
use Rattle.page_cache.proofs.frames.Frames.find.Goals as goal

pub returns-in_default-clause-missed : goal.returns-in_default-clause-missed
returns-in_default-clause-missed c = let i = c.self.inside in
    λ _. (sym (ap (λ l. lookup (nat_eq c.args.n) l.entries) c.self.view_is) ∙ unlisted i.order.entries i.places.items i.order.cap c.self.invariant c.args.n (sym c.place_in.ensures ∙ c.in_default.is), refl, refl)

pub invariant_of-self : goal.invariant_of-self
invariant_of-self c = let i = c.self.inside in
    (promotes i.order i.places.items c.self.invariant c.args.n c.in-Some.key (sym c.in-Some.ensures) c.copy_frame.new.into c.copy_frame.ensures c.promote.new.self c.promote.ensures.entries).laid

pub returns-clause-found : goal.returns-clause-found
returns-clause-found c = let i = c.self.inside in let at = sym c.in-Some.ensures in λ _. (
  sym (ap (λ l. lookup (nat_eq c.args.n) l.entries) c.self.view_is) ∙ found i.order i.places.items c.self.invariant c.args.n c.in-Some.key at c.copy_frame.new.into c.copy_frame.ensures,
  (promotes i.order i.places.items c.self.invariant c.args.n c.in-Some.key at c.copy_frame.new.into c.copy_frame.ensures c.promote.new.self c.promote.ensures.entries).list ∙ ap (λ l. put_front c.args.n c.copy_frame.new.into l) c.self.view_is,
)
