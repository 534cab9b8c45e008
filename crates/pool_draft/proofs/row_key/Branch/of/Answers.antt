use Rattle.std.proofs.Common.{◌≡◌, ◌≤◌, length, refl, ap, ◌∙◌, arith}
use Rattle.pool_draft.specs.Keys.{Key, IsKey, number_of}
use Rattle.pool_draft.proofs.Numbers.{next_power, next_number, number_start, number_fits, number_whole, branch_good, branch_shown}
use Rattle.pool_draft.proofs.row_key.Branch.of.Goals as goal

pub loop-slot-init : goal.loop-slot-init
loop-slot-init c = (refl, number_start c.from-first.result c.args.root c.args.at.now c.from-first.ensures)

pub overflow_add-first-in-loop-slot : goal.overflow_add-first-in-loop-slot
overflow_add-first-in-loop-slot c =
    let k : Key = record { root = c.args.root; path = c.args.at.now } in
    let good : IsKey k = record { root = omega (arith, c.ranges.root.fits); slots = c.len-depth.ensures.slots; short = omega (arith, c.len-depth.ensures.value, c.len-depth.ensures.short) } in
    let more = next_number c.loop-slot.slot-index c.loop-slot.first c.loop-slot.width (number_of k) c.from.result c.slot-item.result c.as_slice-slot-items.result.now c.args.at.now
    c.as_slice-slot-items.ensures c.loop-slot-test.true good.short (c.from.ensures ∙ c.get.ensures.value) c.slot-item.is c.loop-slot.invariant.0 c.loop-slot.invariant.1 in
    omega (arith, more, number_fits k good)

pub loop-slot-preserved : goal.loop-slot-preserved
loop-slot-preserved c =
    let k : Key = record { root = c.args.root; path = c.args.at.now } in
    let short : length c.args.at.now ≤ 7 = omega (arith, c.len-depth.ensures.value, c.len-depth.ensures.short) in (
      next_power c.loop-slot.slot-index c.loop-slot.width (omega (arith, short, c.loop-slot-test.true, ap length c.as_slice-slot-items.ensures)) c.loop-slot.invariant.0,
      next_number c.loop-slot.slot-index c.loop-slot.first c.loop-slot.width (number_of k) c.from.result c.slot-item.result c.as_slice-slot-items.result.now c.args.at.now
          c.as_slice-slot-items.ensures c.loop-slot-test.true short (c.from.ensures ∙ c.get.ensures.value) c.slot-item.is c.loop-slot.invariant.0 c.loop-slot.invariant.1,
    )

pub invariant_of-result : goal.invariant_of-result
invariant_of-result c =
    let k : Key = record { root = c.args.root; path = c.args.at.now } in
    let good : IsKey k = record { root = omega (arith, c.ranges.root.fits); slots = c.len-depth.ensures.slots; short = omega (arith, c.len-depth.ensures.value, c.len-depth.ensures.short) } in
    let past : c.loop-slot.slot-index ≡ length c.args.at.now = omega (arith, c.loop-slot-test.false, c.loop-slot.auto.slot-index-end, ap length c.as_slice-slot-items.ensures) in
    branch_good c.loop-slot.first c.loop-slot.width k good (number_whole c.loop-slot.slot-index c.loop-slot.first c.loop-slot.width k good past c.loop-slot.invariant.0 c.loop-slot.invariant.1)

pub returns : goal.returns
returns c =
    let k : Key = record { root = c.args.root; path = c.args.at.now } in
    let good : IsKey k = record { root = omega (arith, c.ranges.root.fits); slots = c.len-depth.ensures.slots; short = omega (arith, c.len-depth.ensures.value, c.len-depth.ensures.short) } in
    let past : c.loop-slot.slot-index ≡ length c.args.at.now = omega (arith, c.loop-slot-test.false, c.loop-slot.auto.slot-index-end, ap length c.as_slice-slot-items.ensures) in
    branch_shown c.loop-slot.first k good (number_whole c.loop-slot.slot-index c.loop-slot.first c.loop-slot.width k good past c.loop-slot.invariant.0 c.loop-slot.invariant.1).0
