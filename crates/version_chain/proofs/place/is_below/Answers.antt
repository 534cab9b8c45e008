use Rattle.std.proofs.Common.{◌≡◌, ◌<◌, ◌&&◌, nat_eq, slice_index, length, false, true, sym, ap, ◌∙◌, arith}
use Rattle.afs_base.specs.Path.{is_prefix}
use Rattle.version_chain.proofs.Places.{prefix_short, prefix_last}
use Rattle.version_chain.proofs.place.is_below.Goals as goal

pub returns-then-len : goal.returns-then-len
returns-then-len c = sym (prefix_short c.args.above.now c.args.slot c.args.path.now (omega (arith, c.len.ensures.value, c.len-2.ensures.value, c.if-len.true)))

pub returns-then-is_prefix_of : goal.returns-then-is_prefix_of
returns-then-is_prefix_of c =
    let a = c.args.above.now in
    let q = c.args.path.now in
    let long : length a < length q = omega (arith, c.len.ensures.value, c.len-2.ensures.value, c.if-len.false) in
    let on : is_prefix a q ≡ true = sym c.is_prefix_of.ensures ∙ c.if-is_prefix_of.true in
    let last : c.get.result ≡ slice_index q (length a) = c.get.ensures.value ∙ c.slot.ensures ∙ ap (slice_index q) c.len-then-is_prefix_of.ensures.value in
    (λ i. nat_eq (last i) (c.get-then-is_prefix_of.ensures.value i))
    ∙ ap (λ b. b && nat_eq (slice_index q (length a)) c.args.slot) (sym on)
    ∙ prefix_last a c.args.slot q long

pub returns-else-is_prefix_of : goal.returns-else-is_prefix_of
returns-else-is_prefix_of c =
    let a = c.args.above.now in
    let q = c.args.path.now in
    let long : length a < length q = omega (arith, c.len.ensures.value, c.len-2.ensures.value, c.if-len.false) in
    let off : is_prefix a q ≡ false = sym c.is_prefix_of.ensures ∙ c.if-is_prefix_of.false in
    c.if-is_prefix_of.false
    ∙ ap (λ b. b && nat_eq (slice_index q (length a)) c.args.slot) (sym off)
    ∙ prefix_last a c.args.slot q long
