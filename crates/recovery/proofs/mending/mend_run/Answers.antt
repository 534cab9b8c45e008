use Rattle.std.proofs.Common.{◌≡◌, ◌∙◌, ℕ, ◌+◌, ◌<◌, inl, inr, subst, sym, arith}
use Rattle.drives.specs.Changes.{halves_seen}
use Rattle.pair_store.specs.Content.{IsSettled}
use Rattle.pair_store.specs.ContentLaws.{decide}
use Rattle.pair_store.specs.contracts.on_halves.PairBlocks.TheImpl.{ghosts}
use Rattle.recovery.specs.Mended.{OnlyMended}
use Rattle.recovery.proofs.Mends.{mended_none, mended_on, mended_once}
use Rattle.recovery.proofs.mending.mend_run.Goals as goal

pub returns-in_err-settled-clause-mended : goal.returns-in_err-settled-clause-mended
returns-in_err-settled-clause-mended g c =
    mended_none c.count_settled.ensures.contents c.count_settled.ensures.images c.count_settled.ensures.later c.count_settled.ensures.size

pub returns-then-settled-count-clause-mended : goal.returns-then-settled-count-clause-mended
returns-then-settled-count-clause-mended g c =
    mended_none c.count_settled.ensures.contents c.count_settled.ensures.images c.count_settled.ensures.later c.count_settled.ensures.size

pub returns-in_err-mend-clause-mended : goal.returns-in_err-mend-clause-mended
returns-in_err-mend-clause-mended g c =
    let v = g.V.Drives in
    let e = c.mend.ensures in
    let most = c.in_ok-settled.ensures.most in
    let differ = c.if-settled-count.false in
    let at : c.block_of-2.result ≡ c.args.first + c.in_ok-settled.settled = c.block_of-2.ensures in
    let read : OnlyMended (ghosts g.row.V v g.V.Drives-dict) (λ n. ⊥) c.args.pair.now c.count_settled.new.self =
    mended_none c.count_settled.ensures.contents c.count_settled.ensures.images c.count_settled.ensures.later c.count_settled.ensures.size in
    let once : OnlyMended (ghosts g.row.V v g.V.Drives-dict) (λ n. n ≡ c.block_of-2.result) c.count_settled.new.self c.mend.new.self =
    mended_once (ghosts g.row.V v g.V.Drives-dict) c.block_of-2.result c.count_settled.new.self c.mend.new.self e.contents e.images e.images_others e.later e.size in
    mended_on read (λ told rest. c.count_settled.ensures.rest told rest) once (λ n is. absurd is)
    (λ n is. (Prim.omega (arith, is, at), Prim.grind (arith, is, at, most, differ)))

pub returns-clause-mended : goal.returns-clause-mended
returns-clause-mended g c =
    let v = g.V.Drives in
    let e = c.mend.ensures in
    let most = c.in_ok-settled.ensures.most in
    let differ = c.if-settled-count.false in
    let at : c.block_of-2.result ≡ c.args.first + c.in_ok-settled.settled = c.block_of-2.ensures in
    let read : OnlyMended (ghosts g.row.V v g.V.Drives-dict) (λ n. ⊥) c.args.pair.now c.count_settled.new.self =
    mended_none c.count_settled.ensures.contents c.count_settled.ensures.images c.count_settled.ensures.later c.count_settled.ensures.size in
    let once : OnlyMended (ghosts g.row.V v g.V.Drives-dict) (λ n. n ≡ c.block_of-2.result) c.count_settled.new.self c.mend.new.self =
    mended_once (ghosts g.row.V v g.V.Drives-dict) c.block_of-2.result c.count_settled.new.self c.mend.new.self e.contents e.images e.images_others e.later e.size in
    mended_on read (λ told rest. c.count_settled.ensures.rest told rest) once (λ n is. absurd is)
    (λ n is. (Prim.omega (arith, is, at), Prim.grind (arith, is, at, most, differ)))

pub returns-clause-settles : goal.returns-clause-settles
returns-clause-settles g c = λ told n low high.
    let v = g.V.Drives in
    let now = c.mend.new.self in
    let at : c.block_of-2.result ≡ c.args.first + c.in_ok-settled.settled = c.block_of-2.ensures in
    let from : c.block_of.result ≡ c.args.first = c.block_of.ensures in
    elim (decide n c.block_of-2.result) [
      | inl is ↦ subst (λ (m : ℕ). IsSettled m (halves_seen v.seen now.drives)) (sym is) (c.in_ok-mend.ensures.settles told)
      | inr ne ↦ (c.mend.ensures.kept told n (inl ne)).1 (c.in_ok-settled.ensures.settles told n (Prim.omega (arith, low, from)) (Prim.grind (arith, high, ne, at, from)))
    ]

pub returns-clause-kept : goal.returns-clause-kept
returns-clause-kept g c = λ told n s.
    let v = g.V.Drives in
    let now = c.mend.new.self in
    elim (decide n c.block_of-2.result) [
      | inl is ↦ subst (λ (m : ℕ). IsSettled m (halves_seen v.seen now.drives)) (sym is) (c.in_ok-mend.ensures.settles told)
      | inr ne ↦ (c.mend.ensures.kept told n (inl ne)).1 ((c.count_settled.ensures.kept told n).1 s)
    ]
