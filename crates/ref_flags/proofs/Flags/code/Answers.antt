use Rattle.std.proofs.Common.{◌≡◌, ◌∙◌, ◌+◌, ◌*◌, ap, rules, subst}
use Rattle.std.specs.Prelude.{IsTrue, slice_get}
use Rattle.ref_flags.specs.Codes.{code_of}
use Rattle.ref_flags.specs.Flagged.{Flagged, is_lawful}
use Rattle.ref_flags.specs.Table.{rows}
use Rattle.ref_flags.proofs.CodeLaws.{slice_get-rows}
use Rattle.ref_flags.proofs.Flags.code.Goals as goal

pub returns-clause-row : goal.returns-clause-row
returns-clause-row c =
    let P : Flagged → Type 0 = λ f. IsTrue (is_lawful f) in
    let number : 1 + 3 * (c.from.result + 2 * c.from-2.result) + c.if-self.slots ≡ code_of c.args.self = search rules in
    ap (λ n. slice_get rows n) number ∙ slice_get-rows c.args.self (subst P c.self.view_is c.self.invariant)
