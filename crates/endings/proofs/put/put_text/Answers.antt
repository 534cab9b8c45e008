use Rattle.std.proofs.Common.{◌≡◌, ◌++◌, ◌∙◌}
use Rattle.script_text.specs.Front.{AppendsFront}
use Rattle.endings.proofs.Printing.{of_err, printed_front, printed_more}
use Rattle.endings.proofs.put.put_text.Goals as goal

pub returns-in_err-put-clause-failed : goal.returns-in_err-put-clause-failed
returns-in_err-put-clause-failed g c =
    let old = g.K.Sink.written c.args.out.now in
    let mid = g.K.Sink.written c.lines.out in
    let new = g.K.Sink.written c.put.new.self in
    let parts : c.split_at.result.0.now ++ c.split_at.result.1.now ≡ c.lines.rest.now
    = (λ i. c.split_at.ensures.front i ++ c.split_at.ensures.back i) ∙ c.first_line_len.ensures.line.parts in
    of_err c.from_residual.result (AppendsFront old new c.args.text.now)
    (printed_front old mid new c.split_at.result.0.now c.split_at.result.1.now c.lines.rest.now c.args.text.now c.lines.invariant.printed parts c.in_err-put.ensures.failed)

pub lines-preserved : goal.lines-preserved
lines-preserved g c =
    let old = g.K.Sink.written c.args.out.now in
    let mid = g.K.Sink.written c.lines.out in
    let new = g.K.Sink.written c.put.new.self in
    let parts : c.split_at.result.0.now ++ c.split_at.result.1.now ≡ c.lines.rest.now
    = (λ i. c.split_at.ensures.front i ++ c.split_at.ensures.back i) ∙ c.first_line_len.ensures.line.parts in
    record {
      printed = printed_more old mid new c.split_at.result.0.now c.split_at.result.1.now c.lines.rest.now c.args.text.now c.lines.invariant.printed parts c.in_ok-put.ensures.ok;
      kept = c.in_ok-put.ensures.cause.unfailed ∙ c.lines.invariant.kept;
    }
