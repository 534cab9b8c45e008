use Rattle.std.proofs.Common.{◌≡◌, ◌<◌, ◌∷◌, [], ◌++◌, slice_get, length, Some, arith, ap, sym, ◌∙◌}
use Rattle.std.proofs.lemmas.List.{take_more_set, length-set}
use Rattle.page_places.specs.Places.{has_bit}
use Rattle.page_merge.specs.Jobs.{merged_slot, merged_slots}
use Rattle.page_merge.proofs.Slots.{slots_get, slots_length, take_one, take_full, get_at}
use Rattle.page_merge.proofs.merge.fill_slots.Goals as goal

pub loop-slot-preserved : goal.loop-slot-preserved
loop-slot-preserved c =
    let s = c.loop-slot.slot in
    let mine = c.args.mine.now in
    let theirs = c.args.theirs.now in
    let m = c.index-mine-slot.result in
    let t = c.index-theirs-slot.result in
    let in_refs : s < length c.loop-slot.refs = omega (arith, c.loop-slot.invariant.size, c.loop-slot-test.true) in
    let in_mine : s < length mine = omega (arith, c.requires.mine, c.loop-slot-test.true) in
    let in_theirs : s < length theirs = omega (arith, c.requires.theirs, c.loop-slot-test.true) in
    let at_m : slice_get mine s ≡ Some m = get_at mine s m in_mine ∙ ap Some (sym c.index-mine-slot.is) in
    let at_t : slice_get theirs s ≡ Some t = get_at theirs s t in_theirs ∙ ap Some (sym c.index-theirs-slot.is) in
    let x = merged_slot (has_bit c.args.kept s) (has_bit c.args.changed s) m t in
    let is : c.merged_slot.result ≡ x = c.merged_slot.ensures ∙ (λ i. merged_slot (c.has_bit.ensures i) (c.has_bit-in-loop-slot.ensures i) m t) in
    record {
      size = length-set c.loop-slot.refs s c.merged_slot.result ∙ c.loop-slot.invariant.size;
      front =
          take_more_set c.loop-slot.refs s c.merged_slot.result in_refs
          ∙ (λ i. c.loop-slot.invariant.front i ++ is i ∷ [])
          ∙ sym (take_one (merged_slots c.args.kept c.args.changed 0 mine theirs) s x
          (slots_get c.args.kept c.args.changed 0 mine theirs s s m t (omega arith) at_m at_t));
    }

pub returns : goal.returns
returns c =
    let M = merged_slots c.args.kept c.args.changed 0 c.args.mine.now c.args.theirs.now in
    let size = slots_length c.args.kept c.args.changed 0 c.args.mine.now c.args.theirs.now (c.requires.mine ∙ sym c.requires.theirs) in
    sym (take_full c.loop-slot.refs c.loop-slot.slot (omega (arith, c.loop-slot.invariant.size, c.loop-slot-test.false)))
    ∙ c.loop-slot.invariant.front
    ∙ take_full M c.loop-slot.slot (omega (arith, size, c.requires.theirs, c.loop-slot-test.false))
