use Rattle.std.proofs.Common.{◌≡◌, inl, inr, ℕ, refl, ap, ◌∙◌, arith}
use Rattle.session.specs.Answers.{IsCleared}
use Rattle.session.proofs.BlockLaws.{BlockLaws, block_laws}
use Rattle.session.proofs.Giving.{refuse_by}
use Rattle.session.proofs.course.Course.refuse_commit.Given as given
use Rattle.session.proofs.course.Course.refuse_commit.Goals.{then-self-gt0, else-self-gt0}
use Rattle.session.proofs.course.Course.refuse_commit.Goals as goal

laws : (g : given.Over) → g.B.Blocks.tells → BlockLaws g.B.Blocks
laws g = block_laws g.B.Blocks g.met.B.Blocks.clock g.met.B.Blocks.settled_left g.met.B.Blocks.whole g.met.B.Blocks.bytes

pub returns : goal.returns
returns g c =
    let s = c.args.self.now in
    let common = c.args.common.now in
    let clear = c.clear.ensures in
    let cleared : IsCleared c.clear.new.self = record { none = clear.roots; count = clear.counts.0; fed = clear.counts.1 } in
    elim c.if-self-gt0.branch [
      | then-self-gt0 w ↦ refuse_by g.B.Blocks c.args.script.now c.args.why w.give_back.new.self common c.if-self-gt0.common c.note.new.common c.answer.new.common s c.if-self-gt0.self c.answer.new.self c.clear.new.self
          c.refusal_of.result c.answer.result (laws g) c.requires.ready w.common-is w.self-is (inl w.give_back.ensures.freed) c.refusal_of.ensures c.note.ensures cleared c.answer.ensures.answered c.answer.ensures.line
      | else-self-gt0 w ↦
          let none : s.held ≡ 0 = omega arith in
          refuse_by g.B.Blocks c.args.script.now c.args.why common.map common c.if-self-gt0.common c.note.new.common c.answer.new.common s c.if-self-gt0.self c.answer.new.self c.clear.new.self
          c.refusal_of.result c.answer.result (laws g) c.requires.ready w.common-is (w.self-is ∙ ap (λ (n : ℕ). record s { held = n }) none) (inr (none, refl)) c.refusal_of.ensures c.note.ensures cleared c.answer.ensures.answered c.answer.ensures.line
    ]
