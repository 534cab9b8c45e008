use Rattle.std.proofs.Common.{◌≡◌, ℕ, ◌+◌, Some, Result, Ok, Err, length, sym, ap, subst, ◌∙◌, arith, slice_get}
use Rattle.std.proofs.lemmas.Result.{err_from_is_err_and}
use Rattle.recovery.specs.declared.refused.OpenRefused.{OpenRefused}
use Rattle.recovery.specs.Rolling.{IsEdited, Rolling, Rolls}
use Rattle.recovery.proofs.Heads.{get_is}
use Rattle.recovery.proofs.Rolls.{rolls_err, rolls_on, rolls_stay}
use Rattle.recovery.proofs.rolling.roll_files.Goals as goal

pub files-init : goal.files-init
files-init g c = λ most. rolls_stay (g.met.B.Blocks.clock c.args.store.now) (λ x s r. r)

pub files-preserved : goal.files-preserved
files-preserved g c = λ most.
    let known = c.args.known.now in
    let i = c.files.i in
    let listed : slice_get known.chains.items i ≡ Some c.index-chains-i.result =
    ap (λ l. slice_get l i) (sym c.as_slice-chains.ensures.value) ∙ get_is c.as_slice-chains.result.now i c.index-chains-i.result c.files-test.true c.index-chains-i.is in
    rolls_on (c.files.invariant most)
    (subst (λ (r : Result (Unit {0}) OpenRefused). Rolls g.B.Blocks most (IsEdited known) (Rolling c.args.step most known i) (Rolling c.args.step most known (i + 1)) r c.files.store c.roll_file.new.store)
    c.in_ok-roll_file.was (c.roll_file.ensures most known i listed))

pub returns-in_err-roll_file : goal.returns-in_err-roll_file
returns-in_err-roll_file g c = λ most.
    let known = c.args.known.now in
    let i = c.files.i in
    let stop : OpenRefused = c.in_err-roll_file.field-0.0 in
    let p = err_from_is_err_and c.from_residual.result c.from_residual.ensures.1 in
    let is : c.from_residual.result ≡ Err stop = p.1 ∙ ap Err p.2 in
    let listed : slice_get known.chains.items i ≡ Some c.index-chains-i.result =
    ap (λ l. slice_get l i) (sym c.as_slice-chains.ensures.value) ∙ get_is c.as_slice-chains.result.now i c.index-chains-i.result c.files-test.true c.index-chains-i.is in
    subst
    (λ (r : Result (Unit {0}) OpenRefused).
    Rolls g.B.Blocks most (IsEdited known) (Rolling c.args.step most known 0) (Rolling c.args.step most known (length known.chains.items)) r c.args.store.now c.roll_file.new.store)
    (sym is)
    (rolls_on (c.files.invariant most)
    (rolls_err
    (subst (λ (r : Result (Unit {0}) OpenRefused). Rolls g.B.Blocks most (IsEdited known) (Rolling c.args.step most known i) (Rolling c.args.step most known (i + 1)) r c.files.store c.roll_file.new.store)
    c.in_err-roll_file.was (c.roll_file.ensures most known i listed))))

pub returns : goal.returns
returns g c = λ most.
    let known = c.args.known.now in
    let past = c.files-test.false in
    let within = c.files.auto.i-end in
    let long : length c.as_slice-chains.result.now ≡ length known.chains.items = ap (λ l. length l) c.as_slice-chains.ensures.value in
    let end : c.files.i ≡ length known.chains.items = Prim.omega (arith, past, within, long) in
    subst
    (λ (n : ℕ). Rolls {T = Unit {0}} g.B.Blocks most (IsEdited known) (Rolling c.args.step most known 0) (Rolling c.args.step most known n) (Ok tt) c.args.store.now c.files.store)
    end (c.files.invariant most)
