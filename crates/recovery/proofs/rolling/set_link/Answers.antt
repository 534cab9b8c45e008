use Rattle.std.proofs.Common.{◌<◌, ◌^◌, ℕ, ◌+◌, Result, inl, sym, subst, arith}
use Rattle.page_codec.specs.declared.why.Why.TheVariants.{Reference}
use Rattle.pair_store.specs.Pages.{with_commit}
use Rattle.recovery.specs.declared.refused.OpenRefused.{OpenRefused}
use Rattle.recovery.specs.declared.rolling.Step.TheVariants.{SetLinks}
use Rattle.recovery.specs.Rolling.{IsEdited, Rolling, Rolls}
use Rattle.recovery.proofs.Links.{base_below, link_turn, next_named}
use Rattle.recovery.proofs.Places.{laid_fits}
use Rattle.recovery.proofs.Rolls.{Turns, rolls_bad, rolls_edit}
use Rattle.recovery.proofs.rolling.set_link.Goals as goal

pub returns-then-get-blocks : goal.returns-then-get-blocks
returns-then-get-blocks g c = λ most known k chain kept unset last.
    let b = g.B.Blocks in
    let d = c.args.store.now in
    subst (λ (q : Result (Unit {0}) OpenRefused). Rolls b most (IsEdited known) (Rolling SetLinks most known k) (Rolling SetLinks most known (k + 1)) q d d)
    (sym c.bad_reference.ensures)
    (rolls_bad c.args.base Reference (g.met.B.Blocks.clock d)
    (λ begins.
    let from = begins.2 in
    let low = base_below most known k (b.content d) (b.settled d) from chain c.args.base c.args.next kept unset last in
    let few = laid_fits (b.content d) most from.stands.store from.stands.order from.stands.laid in
    let fits = begins.1 in
    let count = c.blocks-2.ensures in
    let is = c.get.ensures.value in
    let past = c.if-get-blocks.true in
    Prim.omega (arith, low, few, fits, count, is, past)))

pub returns-then-get-eq0 : goal.returns-then-get-eq0
returns-then-get-eq0 g c = λ most known k chain kept unset last.
    let b = g.B.Blocks in
    let d = c.args.store.now in
    subst (λ (q : Result (Unit {0}) OpenRefused). Rolls b most (IsEdited known) (Rolling SetLinks most known k) (Rolling SetLinks most known (k + 1)) q d d)
    (sym c.bad_reference-then-get-eq0.ensures)
    (rolls_bad c.args.next Reference (g.met.B.Blocks.clock d)
    (λ begins.
    let named = next_named most known k (b.content d) (b.settled d) begins.2 chain c.args.base c.args.next kept unset last in
    let is = c.get-2.ensures.value in
    let nil = c.if-get-eq0.true in
    Prim.grind (arith, named, is, nil)))

pub returns : goal.returns
returns g c = λ most known k chain kept unset last.
    let b = g.B.Blocks in
    let d = c.args.store.now in
    let count = c.blocks-2.ensures in
    let is = c.get.ensures.value in
    let before = c.if-get-blocks.false in
    let low : c.args.base < b.size d = Prim.omega (arith, count, is, before) in
    let word : c.args.next < 2 ^ 28 = subst (λ (n : ℕ). n < 2 ^ 28) c.get-2.ensures.value c.get-2.ensures.range in
    let turns : Turns SetLinks most known k c.args.base (with_commit c.args.next) =
    record {
      turn = λ x s r. link_turn most known k x s r chain c.args.base c.args.next kept unset last word;
      edited = record { object = k; chain = chain; listed = kept; named = inl unset };
    } in
    rolls_edit b SetLinks most known k c.args.base (with_commit c.args.next) turns c.set_commit.result d c.set_commit.new.store c.set_commit.ensures
    (λ told m s. g.met.B.Blocks.settled_now d m told s)
    (λ told m f s may. g.met.B.Blocks.settled_left d m f told s may)
    (λ told body holds. record { size = (g.met.B.Blocks.whole d c.args.base body told low holds).0; fits = g.met.B.Blocks.bytes d c.args.base body told holds })
