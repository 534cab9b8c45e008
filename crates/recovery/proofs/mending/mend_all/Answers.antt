use Rattle.std.proofs.Common.{◌≡◌, ◌≤◌, ◌∙◌, None, Result, Err, ap, subst, sym, arith}
use Rattle.std.proofs.lemmas.Result.{err_from_is_err_and}
use Rattle.drives.specs.Changes.{halves_seen}
use Rattle.pair_store.specs.Answers.{IsUntorn}
use Rattle.pair_store.specs.declared.fault.PairFault.{PairFault}
use Rattle.pair_store.specs.declared.fault.PairFault.TheVariants.{ReadFault}
use Rattle.pair_store.specs.Content.{IsSettled, content_of}
use Rattle.pair_store.specs.contracts.on_halves.PairBlocks.TheImpl.{ghosts}
use Rattle.recovery.specs.Mended.{IsWithin, OnlyMended, blocks_in_table, table_in}
use Rattle.recovery.proofs.Mends.{err_is, is_mended, mended_aside, mended_aside_on, mended_more, mended_none, mended_on, stopped_unread, unread_since}
use Rattle.recovery.proofs.Rolls.{both_ok}
use Rattle.recovery.proofs.mending.mend_all.Goals as goal

pub returns-in_err-mend_range-clause-unread : goal.returns-in_err-mend_range-clause-unread
returns-in_err-mend_range-clause-unread g c = λ h is.
    let v = g.V.Drives in
    let old = c.args.pair.now in
    let new = c.mend_range.new.pair in
    let stop : PairFault = c.in_err-mend_range.field-0.0 in
    let p = err_from_is_err_and c.from_residual.result c.from_residual.ensures.1 in
    stopped_unread (v.faults old.drives) (v.faults new.drives) (v.last_fault new.drives) (v.moment new.drives)
    (v.tells → content_of (halves_seen v.seen old.drives) 0 ≡ None) h
    (c.in_err-mend_range.ensures.unread h (ap Err (err_is stop (ReadFault h) (sym (p.1 ∙ ap Err p.2) ∙ is))))

pub returns-in_err-mend_range-clause-mended : goal.returns-in_err-mend_range-clause-mended
returns-in_err-mend_range-clause-mended g c =
    mended_more c.mend_range.ensures.mended (λ n is. (is.0, (let high = is.1 in Prim.omega (arith, high))))

pub returns-in_err-mend_range-clause-beyond : goal.returns-in_err-mend_range-clause-beyond
returns-in_err-mend_range-clause-beyond g c = λ told.
    mended_aside _ c.mend_range.ensures.mended (λ n above high is. (let low = is.1 in absurd (Prim.omega (arith, above, low))))

pub returns-in_err-mend_range-clause-rest : goal.returns-in_err-mend_range-clause-rest
returns-in_err-mend_range-clause-rest g c = λ told rest untorn.
    let stop : PairFault = c.in_err-mend_range.field-0.0 in
    let p = err_from_is_err_and c.from_residual.result c.from_residual.ensures.1 in
    let same : c.from_residual.result ≡ Err stop = p.1 ∙ ap Err p.2 in
    c.in_err-mend_range.ensures.rest told rest (subst (λ (r : Result (Unit {0}) PairFault). IsUntorn r) same untorn)

pub returns-in_err-told-clause-unread : goal.returns-in_err-told-clause-unread
returns-in_err-told-clause-unread g c = λ h is.
    let v = g.V.Drives in
    let old = c.args.pair.now in
    let mid = c.mend_range.new.pair in
    let new = c.blocks_told.new.pair in
    let stop : PairFault = c.in_err-told.field-0.0 in
    let p = err_from_is_err_and c.from_residual-in_err-told.result c.from_residual-in_err-told.ensures.1 in
    unread_since (v.faults old.drives) (v.faults mid.drives) (v.faults new.drives) (v.last_fault new.drives) (v.moment new.drives)
    (v.tells → IsSettled 0 (halves_seen v.seen mid.drives) → content_of (halves_seen v.seen mid.drives) 0 ≡ None)
    (v.tells → content_of (halves_seen v.seen old.drives) 0 ≡ None) h
    (c.mend_range.ensures.mended.later h).0
    (λ empty told. sym (c.mend_range.ensures.mended.same told 0) ∙ empty told (c.in_ok-mend_range.ensures.settles told 0 (Prim.omega arith) (Prim.omega arith)))
    (c.in_err-told.ensures.unread h (ap Err (err_is stop (ReadFault h) (sym (p.1 ∙ ap Err p.2) ∙ is))))

pub returns-in_err-told-clause-mended : goal.returns-in_err-told-clause-mended
returns-in_err-told-clause-mended g c =
    let read : OnlyMended (ghosts g.row.V g.V.Drives g.V.Drives-dict) (λ n. ⊥) c.mend_range.new.pair c.blocks_told.new.pair =
    mended_none c.blocks_told.ensures.same c.blocks_told.ensures.images c.blocks_told.ensures.later c.blocks_told.ensures.size in
    mended_on c.mend_range.ensures.mended (λ told rest. c.in_ok-mend_range.ensures.rest told rest tt) read
    (λ n is. (is.0, (let high = is.1 in Prim.omega (arith, high)))) (λ n is. absurd is)

pub returns-in_err-told-clause-beyond : goal.returns-in_err-told-clause-beyond
returns-in_err-told-clause-beyond g c = λ told.
    let read : OnlyMended (ghosts g.row.V g.V.Drives g.V.Drives-dict) (λ n. ⊥) c.mend_range.new.pair c.blocks_told.new.pair =
    mended_none c.blocks_told.ensures.same c.blocks_told.ensures.images c.blocks_told.ensures.later c.blocks_told.ensures.size in
    let both : OnlyMended (ghosts g.row.V g.V.Drives g.V.Drives-dict) (IsWithin 0 1) c.args.pair.now c.blocks_told.new.pair =
    mended_on c.mend_range.ensures.mended (λ told rest. c.in_ok-mend_range.ensures.rest told rest tt) read
    (λ n is. is) (λ n is. absurd is) in
    mended_aside _ both (λ n above high is. (let low = is.1 in absurd (Prim.omega (arith, above, low))))

pub mend_range-requires-2-clause-named : goal.mend_range-requires-2-clause-named
mend_range-requires-2-clause-named g c =
    let told : c.in_ok-told.told ≤ 65536 = c.in_ok-told.ensures.most in
    Prim.grind (arith, told, c.min.ensures)

pub returns-clause-unread : goal.returns-clause-unread
returns-clause-unread g c = λ h is.
    let v = g.V.Drives in
    let old = c.args.pair.now in
    let mid = c.blocks_told.new.pair in
    let new = c.mend_range-2.new.pair in
    let le = (c.mend_range.ensures.mended.later h).0 in
    let le' = (c.blocks_told.ensures.later h).0 in
    let before : v.faults old.drives h ≤ v.faults mid.drives h = Prim.omega (arith, le, le') in
    unread_since (v.faults old.drives) (v.faults mid.drives) (v.faults new.drives) (v.last_fault new.drives) (v.moment new.drives)
    (v.tells → content_of (halves_seen v.seen old.drives) 0 ≡ None) (v.tells → content_of (halves_seen v.seen old.drives) 0 ≡ None) h before (λ empty. empty)
    (stopped_unread (v.faults mid.drives) (v.faults new.drives) (v.last_fault new.drives) (v.moment new.drives)
    (v.tells → content_of (halves_seen v.seen old.drives) 0 ≡ None) h (c.mend_range-2.ensures.unread h is))

pub returns-clause-mended : goal.returns-clause-mended
returns-clause-mended g c =
    let read : OnlyMended (ghosts g.row.V g.V.Drives g.V.Drives-dict) (λ n. ⊥) c.mend_range.new.pair c.blocks_told.new.pair =
    mended_none c.blocks_told.ensures.same c.blocks_told.ensures.images c.blocks_told.ensures.later c.blocks_told.ensures.size in
    let most = c.in_ok-told.ensures.most in
    let least = c.min.ensures in
    let first : OnlyMended (ghosts g.row.V g.V.Drives g.V.Drives-dict) (IsWithin 0 1) c.args.pair.now c.blocks_told.new.pair =
    mended_on c.mend_range.ensures.mended (λ told rest. c.in_ok-mend_range.ensures.rest told rest tt) read
    (λ n is. is) (λ n is. absurd is) in
    mended_on first (λ told rest. c.blocks_told.ensures.rest told (c.in_ok-mend_range.ensures.rest told rest tt)) c.mend_range-2.ensures.mended
    (λ n is. (is.0, (let high = is.1 in Prim.omega (arith, high)))) (λ n is. ((let low = is.0 in Prim.omega (arith, low)), (let high = is.1 in Prim.grind (arith, high, most, least))))

pub returns-clause-beyond : goal.returns-clause-beyond
returns-clause-beyond g c = λ told.
    let read : OnlyMended (ghosts g.row.V g.V.Drives g.V.Drives-dict) (λ n. ⊥) c.mend_range.new.pair c.blocks_told.new.pair =
    mended_none c.blocks_told.ensures.same c.blocks_told.ensures.images c.blocks_told.ensures.later c.blocks_told.ensures.size in
    let v = g.V.Drives in
    let old = c.args.pair.now in
    let mid = c.mend_range.new.pair in
    let settled : IsSettled 0 (halves_seen v.seen mid.drives) = c.in_ok-mend_range.ensures.settles told 0 (Prim.omega arith) (Prim.omega arith) in
    let count : c.in_ok-told.told ≡ blocks_in_table (table_in (content_of (halves_seen v.seen mid.drives) 0)) = c.in_ok-told.ensures.told told settled in
    let same : content_of (halves_seen v.seen mid.drives) 0 ≡ content_of (halves_seen v.seen old.drives) 0 = c.mend_range.ensures.mended.same told 0 in
    let number : c.in_ok-told.told ≡ blocks_in_table (table_in (content_of (halves_seen v.seen old.drives) 0)) = count ∙ ap (λ o. blocks_in_table (table_in o)) same in
    let first : OnlyMended (ghosts g.row.V v g.V.Drives-dict) (IsWithin 0 1) old c.blocks_told.new.pair =
    mended_on c.mend_range.ensures.mended (λ told rest. c.in_ok-mend_range.ensures.rest told rest tt) read
    (λ n is. is) (λ n is. absurd is) in
    let least = c.min.ensures in
    mended_aside_on (blocks_in_table (table_in (content_of (halves_seen v.seen old.drives) 0))) first c.mend_range-2.ensures.mended
    (λ n above high is. (let low = is.1 in absurd (Prim.omega (arith, above, low))))
    (λ n above high is. (let low = is.1 in absurd (Prim.grind (arith, high, low, least, number))))

pub returns-clause-settles : goal.returns-clause-settles
returns-clause-settles g c = λ told.
    let v = g.V.Drives in
    let mid = c.mend_range.new.pair in
    let read = c.blocks_told.new.pair in
    let new = c.mend_range-2.new.pair in
    let e = c.mend_range-2.ensures in
    let first : IsSettled 0 (halves_seen v.seen mid.drives) = c.in_ok-mend_range.ensures.settles told 0 (Prim.omega arith) (Prim.omega arith) in
    let count : c.in_ok-told.told ≡ blocks_in_table (table_in (content_of (halves_seen v.seen mid.drives) 0)) = c.in_ok-told.ensures.told told first in
    let same : content_of (halves_seen v.seen new.drives) 0 ≡ content_of (halves_seen v.seen mid.drives) 0 = e.mended.same told 0 ∙ c.blocks_told.ensures.same told 0 in
    both_ok c.mend_range-2.result (e.settles told) (e.kept told)
    (λ each kept.
    is_mended (λ n. IsSettled n (halves_seen v.seen new.drives)) (content_of (halves_seen v.seen new.drives)) (v.size new.drives) c.in_ok-told.told
    (count ∙ ap (λ o. blocks_in_table (table_in o)) (sym same))
    (kept 0 (c.in_ok-told.ensures.kept told 0 first))
    (λ n low high. each n low (Prim.grind (arith, high, c.min.ensures, c.blocks-size.ensures, e.mended.size_same))))

pub returns-clause-rest : goal.returns-clause-rest
returns-clause-rest g c = λ told rest untorn.
    c.mend_range-2.ensures.rest told (c.blocks_told.ensures.rest told (c.in_ok-mend_range.ensures.rest told rest tt)) untorn
