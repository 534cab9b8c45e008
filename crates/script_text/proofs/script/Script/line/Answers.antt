use Rattle.std.proofs.Common.{◌<◌, length, ap, ◌∙◌, arith}
use Rattle.std.specs.List.{slice_get}
use Rattle.std.proofs.lemmas.List.{get_or_read}
use Rattle.std.proofs.lemmas.Option.{get_or_from_slice_get}
use Rattle.script_text.proofs.script.Script.line.Goals as goal

pub returns-clause-ascends : goal.returns-clause-ascends
returns-clause-ascends c = λ j before lt at.
    let ls = c.self.inside.lines.items in
    let earlier = get_or_from_slice_get ls j before before (ap (λ s. slice_get s.lines j) c.self.view_is ∙ at) in
    let within : c.args.i < length ls = omega (arith, ap (λ s. length s.lines) c.self.view_is, c.requires) in
    let here = get_or_read ls c.args.i c.index.result.now within c.index.ensures before in
    rw (earlier, ← here) at (c.self.invariant.ascending j c.args.i before lt within)
