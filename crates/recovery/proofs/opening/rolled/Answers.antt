use Rattle.std.proofs.Common.{Result, Ok, length, sym, subst}
use Rattle.recovery.specs.declared.refused.OpenRefused.{OpenRefused}
use Rattle.recovery.specs.declared.rolling.Step.TheVariants.{SetLinks, ClearMembers}
use Rattle.recovery.specs.Rolling.{IsEdited, Rolling, Rolls}
use Rattle.recovery.proofs.opening.rolled.Goals as goal

pub returns-in-Ok-clause-rolls : goal.returns-in-Ok-clause-rolls
returns-in-Ok-clause-rolls g c = λ most.
    let known = c.args.known in
    subst
    (λ (d : g.row.B.Denot).
    Rolls {T = Unit {0}} g.B.Blocks most (IsEdited known) (Rolling SetLinks most known 0) (Rolling ClearMembers most known (length known.chains.items)) (Ok tt) c.args.store d)
    (sym c.opened_of.ensures.store)
    (subst
    (λ (r : Result (Unit {0}) OpenRefused).
    Rolls g.B.Blocks most (IsEdited known) (Rolling SetLinks most known 0) (Rolling ClearMembers most known (length known.chains.items)) r c.args.store c.roll_forward.new.store)
    c.in-Ok.is (c.roll_forward.ensures most))

pub returns-in-Err-clause-rolls : goal.returns-in-Err-clause-rolls
returns-in-Err-clause-rolls g c = λ most.
    let known = c.args.known in
    subst
    (λ (r : Result (Unit {0}) OpenRefused).
    Rolls g.B.Blocks most (IsEdited known) (Rolling SetLinks most known 0) (Rolling ClearMembers most known (length known.chains.items)) r c.args.store c.roll_forward.new.store)
    c.in-Err.is (c.roll_forward.ensures most)
