use Rattle.std.proofs.Common.{◌+◌, ◌++◌, sym, ap, ◌∙◌, arith}
use Rattle.service_model.specs.Print.{answer_text, client_text}
use Rattle.playing.specs.Running.{answers_of}
use Rattle.playing.proofs.Printing.{client_done, client_more, client_whole, lines_at}
use Rattle.playing.proofs.answers.append_client.Goals as goal

pub returns-in-None : goal.returns-in-None
returns-in-None g c =
    let replies = answers_of (g.R.Played.answers c.args.run.now) c.args.place in
    client_done (c.args.place + 1) c.script-script.result.now.lines replies c.loop-line.line
    c.args.text.now.items c.loop-line.text.items c.loop-line.invariant (sym c.in-None.ensures)
    ∙ ap (λ lines. c.args.text.now.items ++ client_text (c.args.place + 1) lines replies)
    (sym (lines_at (g.R.Played.scripts c.args.run.now) c.args.place c.script-script.result.now
    c.script-script.ensures))

pub loop-line-preserved : goal.loop-line-preserved
loop-line-preserved g c =
    client_more (c.args.place + 1) c.script-script.result.now.lines
    (answers_of (g.R.Played.answers c.args.run.now) c.args.place) c.loop-line.line
    c.args.text.now.items c.loop-line.text.items c.loop-line.invariant c.line.result.now
    c.in-Some.reply.now c.append_answer.new.text.items c.line.ensures.value
    (sym c.in-Some.ensures)
    (c.in_ok-append_answer-in-Some.ensures
    ∙ ap (λ k. c.loop-line.text.items
    ++ answer_text k c.line.result.now.number c.in-Some.reply.now) c.client_at.ensures)

pub returns : goal.returns
returns g c =
    let replies = answers_of (g.R.Played.answers c.args.run.now) c.args.place in
    client_whole (c.args.place + 1) c.script-script.result.now.lines replies c.loop-line.line
    c.args.text.now.items c.loop-line.text.items c.loop-line.invariant (omega arith)
    ∙ ap (λ lines. c.args.text.now.items ++ client_text (c.args.place + 1) lines replies)
    (sym (lines_at (g.R.Played.scripts c.args.run.now) c.args.place c.script-script.result.now
    c.script-script.ensures))
