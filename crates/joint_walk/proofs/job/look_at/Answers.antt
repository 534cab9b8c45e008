use Rattle.std.proofs.Common.{length, ap, sym, ◌∙◌}
use Rattle.page_codec.specs.Values.{PageValue}
use Rattle.page_places.specs.Places.{slot_block}
use Rattle.joint_walk.proofs.Slots.{unused_slot}
use Rattle.joint_walk.proofs.job.look_at.Goals as goal

pub returns-clause-whole : goal.returns-clause-whole
returns-clause-whole c = sym (ap (λ (p : PageValue). length p.refs) c.page.view_is) ∙ c.are_sixteen.ensures

pub returns-clause-leaf : goal.returns-clause-leaf
returns-clause-leaf c e k =
    sym (ap (λ (p : PageValue). slot_block p k) c.page.view_is)
    ∙ unused_slot c.page.inside.refs k (c.page.invariant.leaf (ap (λ (p : PageValue). p.level) c.page.view_is ∙ e))
