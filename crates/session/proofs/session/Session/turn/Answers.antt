use Rattle.std.proofs.Common.{length, sym, arith}
use Rattle.session.specs.Own.{IsAtRest, IsOwn}
use Rattle.session.specs.declared.stage.Stage.TheVariants.{Resting}
use Rattle.session.proofs.Owned.{own_call}
use Rattle.session.proofs.Stages.{at_stage, line_is_built, naming_own, ready_from, staged_call, unfinished, walking_own, writing_own}
use Rattle.session.proofs.session.Session.turn.Goals as goal

pub begin_line-requires-clause-built : goal.begin_line-requires-clause-built
begin_line-requires-clause-built g c = line_is_built c.args.self.now.script (length c.args.self.now.course.replies.items) c.args.self.now.built

pub returns-in-Resting-clause-turn : goal.returns-in-Resting-clause-turn
returns-in-Resting-clause-turn g c =
    own_call g.B.Blocks IsOwn IsAtRest c.args.self.now.script c.args.common.now c.begin_line.new.common c.args.self.now.course c.begin_line.new.self c.begin_line.result
    (λ told opening scripts first scene at. at_stage scripts scene c.args.self.now.script c.args.self.now.course Resting Resting c.in-Resting.is at.mine)
    c.begin_line.ensures

pub returns-in-Naming-clause-turn : goal.returns-in-Naming-clause-turn
returns-in-Naming-clause-turn g c =
    staged_call _ _ _ _ _ _ _ _ (omega (arith, c.if-len.false))
    (λ scripts scene own. naming_own scripts scene _ _ _ c.in-Naming.next (at_stage scripts scene _ _ c.replace.new.dest _ (sym c.in-Naming.ensures.value) own))
    _ (c.open_next.ensures _ (ready_from _ _ _ _ c.replace.new.dest c.in-Naming.ensures.after (omega (arith, c.if-len.false)) c.requires.store c.requires.safe c.requires.room))

pub returns-in-Walking-clause-turn : goal.returns-in-Walking-clause-turn
returns-in-Walking-clause-turn g c =
    staged_call _ _ _ _ _ _ _ _ (omega (arith, c.if-len.false))
    (λ scripts scene own. walking_own scripts scene _ _ _ c.in-Walking.walk (at_stage scripts scene _ _ c.replace.new.dest _ (sym c.in-Walking.ensures.value) own))
    _ c.walk_on.ensures.turn

pub returns-in-Writing-clause-turn : goal.returns-in-Writing-clause-turn
returns-in-Writing-clause-turn g c =
    staged_call _ _ _ _ _ _ _ _ (omega (arith, c.if-len.false))
    (λ scripts scene own. writing_own scripts scene _ _ _ c.in-Writing.flush (at_stage scripts scene _ _ c.replace.new.dest _ (sym c.in-Writing.ensures.value) own))
    _ c.write_on.ensures

pub returns-in-Resting-clause-still : goal.returns-in-Resting-clause-still
returns-in-Resting-clause-still g c = λ is. absurd (unfinished _ _ _ _ _ _ _ _ c.begin_line.ensures (omega (arith, c.if-len.false)) is)

pub returns-in-Naming-clause-still : goal.returns-in-Naming-clause-still
returns-in-Naming-clause-still g c = λ is. absurd (unfinished _ _ _ _ _ _ _ _ (c.open_next.ensures _ (ready_from _ _ _ _ c.replace.new.dest c.in-Naming.ensures.after (omega (arith, c.if-len.false)) c.requires.store c.requires.safe c.requires.room)) (omega (arith, c.if-len.false)) is)

pub returns-in-Walking-clause-still : goal.returns-in-Walking-clause-still
returns-in-Walking-clause-still g c = λ is. absurd (unfinished _ _ _ _ _ _ _ _ c.walk_on.ensures.turn (omega (arith, c.if-len.false)) is)

pub returns-in-Writing-clause-still : goal.returns-in-Writing-clause-still
returns-in-Writing-clause-still g c = λ is. absurd (unfinished _ _ _ _ _ _ _ _ c.write_on.ensures (omega (arith, c.if-len.false)) is)
