use Rattle.std.proofs.Common.{◌<◌, ◌+◌, Result, inr, sym, subst, arith}
use Rattle.page_codec.specs.declared.why.Why.TheVariants.{Reference}
use Rattle.pair_store.specs.Pages.{without_members}
use Rattle.recovery.specs.declared.refused.OpenRefused.{OpenRefused}
use Rattle.recovery.specs.declared.rolling.Step.TheVariants.{ClearMembers}
use Rattle.recovery.specs.Rolling.{IsEdited, Rolling, Rolls}
use Rattle.recovery.proofs.Places.{laid_fits}
use Rattle.recovery.proofs.Rolls.{Turns, rolls_bad, rolls_edit}
use Rattle.recovery.proofs.Tops.{clear_turn, top_below}
use Rattle.recovery.proofs.rolling.clear_last.Goals as goal

pub returns-then-get-blocks : goal.returns-then-get-blocks
returns-then-get-blocks g c = λ most known k chain kept last some.
    let b = g.B.Blocks in
    let d = c.args.store.now in
    subst (λ (q : Result (Unit {0}) OpenRefused). Rolls b most (IsEdited known) (Rolling ClearMembers most known k) (Rolling ClearMembers most known (k + 1)) q d d)
    (sym c.bad_reference.ensures)
    (rolls_bad c.args.block Reference (g.met.B.Blocks.clock d)
    (λ begins.
    let from = begins.2 in
    let low = top_below most known k (b.content d) (b.settled d) from chain c.args.block kept last some in
    let few = laid_fits (b.content d) most from.stands.store from.stands.order from.stands.laid in
    let fits = begins.1 in
    let count = c.blocks-2.ensures in
    let is = c.get.ensures.value in
    let past = c.if-get-blocks.true in
    Prim.omega (arith, low, few, fits, count, is, past)))

pub returns : goal.returns
returns g c = λ most known k chain kept last some.
    let b = g.B.Blocks in
    let d = c.args.store.now in
    let count = c.blocks-2.ensures in
    let is = c.get.ensures.value in
    let before = c.if-get-blocks.false in
    let low : c.args.block < b.size d = Prim.omega (arith, count, is, before) in
    let turns : Turns ClearMembers most known k c.args.block without_members =
    record {
      turn = λ x s r. clear_turn most known k x s r chain c.args.block kept last some;
      edited = record { object = k; chain = chain; listed = kept; named = inr (last, some) };
    } in
    rolls_edit b ClearMembers most known k c.args.block without_members turns c.clear_members.result d c.clear_members.new.store c.clear_members.ensures
    (λ told m s. g.met.B.Blocks.settled_now d m told s)
    (λ told m f s may. g.met.B.Blocks.settled_left d m f told s may)
    (λ told body holds. record { size = (g.met.B.Blocks.whole d c.args.block body told low holds).0; fits = g.met.B.Blocks.bytes d c.args.block body told holds })
