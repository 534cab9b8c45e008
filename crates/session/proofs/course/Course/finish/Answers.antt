use Rattle.session.specs.Answers.{IsCleared}
use Rattle.session.proofs.Finishing.{finished_by}
use Rattle.session.proofs.course.Course.finish.Goals as goal

pub returns : goal.returns
returns g c =
    let s = c.args.self.now in
    let common = c.args.common.now in
    let clear = c.clear.ensures in
    let cleared : IsCleared c.clear.new.self = record { none = clear.roots; count = clear.counts.0; fed = clear.counts.1 } in
    finished_by g.B.Blocks c.args.script.now c.args.top c.now-at.result c.made-made.result c.one.result c.one_serial.result c.keep.new.self common c.append.new.self c.note.new.common c.answer.new.common s c.answer.new.self c.clear.new.self c.answer.result
    c.requires.ready c.made-made.ensures c.now-at.ensures c.one.ensures c.one_serial.ensures c.keep.ensures.kept c.append.ensures c.note.ensures cleared c.answer.ensures.answered c.answer.ensures.line
