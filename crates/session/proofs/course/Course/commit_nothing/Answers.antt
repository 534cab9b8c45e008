use Rattle.std.proofs.Common.{ℕ, [], ◌∷◌, ap, ◌∙◌}
use Rattle.session.specs.Answers.{IsCleared}
use Rattle.session.proofs.BlockLaws.{BlockLaws, block_laws}
use Rattle.session.proofs.Emptying.{nothing_by}
use Rattle.session.proofs.course.Course.commit_nothing.Given as given
use Rattle.session.proofs.course.Course.commit_nothing.Goals as goal

laws : (g : given.Over) → g.B.Blocks.tells → BlockLaws g.B.Blocks
laws g = block_laws g.B.Blocks g.met.B.Blocks.clock g.met.B.Blocks.settled_left g.met.B.Blocks.whole g.met.B.Blocks.bytes

pub returns : goal.returns
returns g c =
    let clear = c.clear.ensures in
    let cleared : IsCleared c.clear.new.self = record { none = clear.roots; count = clear.counts.0; fed = clear.counts.1 } in
    nothing_by g.B.Blocks c.args.script.now c.args.common.now c.note.new.common c.answer.new.common c.args.self.now c.answer.new.self c.clear.new.self c.none-made.result c.now-at.result c.one_serial.result
    c.answer.result (laws g) c.requires.ready c.requires.command c.requires.draft c.requires.nothing c.none-made.ensures c.now-at.ensures (c.one_serial.ensures ∙ ap (λ (n : ℕ). n ∷ []) c.serial-serial.ensures)
    c.note.ensures cleared c.answer.ensures.answered c.answer.ensures.line
