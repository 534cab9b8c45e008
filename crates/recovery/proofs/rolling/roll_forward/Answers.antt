use Rattle.std.proofs.Common.{◌≡◌, Result, Ok, Err, length, sym, ap, subst, ◌∙◌}
use Rattle.std.proofs.lemmas.Result.{err_from_is_err_and}
use Rattle.recovery.specs.declared.refused.OpenRefused.{OpenRefused}
use Rattle.recovery.specs.declared.rolling.Step.TheVariants.{SetLinks, ClearMembers}
use Rattle.recovery.specs.Rolling.{IsEdited, Rolling, Rolls}
use Rattle.recovery.proofs.Openings.{members_begin}
use Rattle.recovery.proofs.Rolls.{rolls_err, rolls_on, rolls_stay}
use Rattle.recovery.proofs.rolling.roll_forward.Goals as goal

pub returns-in_err-roll_files : goal.returns-in_err-roll_files
returns-in_err-roll_files g c = λ most.
    let known = c.args.known.now in
    let count = length known.chains.items in
    let stop : OpenRefused = c.in_err-roll_files.field-0.0 in
    let p = err_from_is_err_and c.from_residual.result c.from_residual.ensures.1 in
    let is : c.from_residual.result ≡ Err stop = p.1 ∙ ap Err p.2 in
    subst
    (λ (r : Result (Unit {0}) OpenRefused). Rolls g.B.Blocks most (IsEdited known) (Rolling SetLinks most known 0) (Rolling ClearMembers most known count) r c.args.store.now c.roll_files.new.store)
    (sym is)
    (rolls_err
    (subst
    (λ (r : Result (Unit {0}) OpenRefused). Rolls g.B.Blocks most (IsEdited known) (Rolling SetLinks most known 0) (Rolling SetLinks most known count) r c.args.store.now c.roll_files.new.store)
    c.in_err-roll_files.was (c.roll_files.ensures most)))

pub returns : goal.returns
returns g c = λ most.
    let known = c.args.known.now in
    let count = length known.chains.items in
    let mid = c.roll_files.new.store in
    let nothing : Unit {0} = tt in
    let links : Rolls {T = Unit {0}} g.B.Blocks most (IsEdited known) (Rolling SetLinks most known 0) (Rolling SetLinks most known count) (Ok tt) c.args.store.now mid =
    subst
    (λ (r : Result (Unit {0}) OpenRefused). Rolls g.B.Blocks most (IsEdited known) (Rolling SetLinks most known 0) (Rolling SetLinks most known count) r c.args.store.now mid)
    c.in_ok-roll_files.was (c.roll_files.ensures most) in
    let begun : Rolls {T = Unit {0}} g.B.Blocks most (IsEdited known) (Rolling SetLinks most known 0) (Rolling ClearMembers most known 0) (Ok nothing) c.args.store.now mid =
    rolls_on links (rolls_stay (g.met.B.Blocks.clock mid) (λ x s r. members_begin x s most known r)) in
    rolls_on begun (c.roll_files-2.ensures most)
