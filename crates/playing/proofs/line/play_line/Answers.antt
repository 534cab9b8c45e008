use Rattle.std.proofs.Common.{◌≡◌, sym, ap, ◌∙◌, subst, arith}
use Rattle.session.specs.Calls.{KeepsRest}
use Rattle.session.specs.declared.turned.Turned.TheVariants as turned
use Rattle.ground.specs.Runs.{store_in}
use Rattle.ground.specs.Turning.{AnswersTurn, CountsTurns, fault_of}
use Rattle.playing.proofs.LinePlay.{as_many, begins, finished_ends, goes_on, line_ends, never_ends, stop_ends}
use Rattle.playing.proofs.line.play_line.Goals as goal
use Rattle.playing.proofs.line.play_line.Goals.{in-Again, in-Work}

pub loop-init : goal.loop-init
loop-init g c = begins g.B.Blocks c.args.client (omega arith) c.args.run.now c.requires.client c.requires.going c.promise.ensures

pub turn-turned-requires : goal.turn-turned-requires
turn-turned-requires g c = (let same = c.loop.invariant.clients in let high = c.requires.client in omega (arith, same, high))

pub returns-in-Line : goal.returns-in-Line
returns-in-Line g c =
    line_ends g.B.Blocks c.args.client (omega arith) c.args.run.now c.loop.run c.turn-turned.new.self c.loop.counter c.turn-turned.result c.requires.client c.loop.invariant
    (as_many g.B.Blocks c.loop.run c.turn-turned.new.self c.turn-turned.ensures.run)
    (let e = c.turn-turned.ensures in record {
      run = e.run;
      fault = e.fault;
      answers = e.answers;
      turns = e.turns;
      finished = e.finished;
      later = e.later;
      rest = e.rest;
      stopped = e.stopped;
      notes = e.notes;
      timely = e.timely;
      whole = e.whole;
      good = e.good;
      promised = c.promise-in-loop.ensures;
    }) c.in-Line.line c.in-Line.is

pub returns-in-Finished : goal.returns-in-Finished
returns-in-Finished g c =
    finished_ends g.B.Blocks c.args.client (omega arith) c.args.run.now c.loop.run c.turn-turned.new.self c.loop.counter c.turn-turned.result c.requires.client c.loop.invariant
    (as_many g.B.Blocks c.loop.run c.turn-turned.new.self c.turn-turned.ensures.run)
    (let e = c.turn-turned.ensures in record {
      run = e.run;
      fault = e.fault;
      answers = e.answers;
      turns = e.turns;
      finished = e.finished;
      later = e.later;
      rest = e.rest;
      stopped = e.stopped;
      notes = e.notes;
      timely = e.timely;
      whole = e.whole;
      good = e.good;
      promised = c.promise-in-loop.ensures;
    }) c.in-Finished.is

pub returns-in-Stopped : goal.returns-in-Stopped
returns-in-Stopped g c =
    stop_ends g.B.Blocks c.args.client (omega arith) c.args.run.now c.loop.run c.turn-turned.new.self c.loop.counter c.turn-turned.result c.requires.client c.loop.invariant
    (as_many g.B.Blocks c.loop.run c.turn-turned.new.self c.turn-turned.ensures.run)
    (let e = c.turn-turned.ensures in record {
      run = e.run;
      fault = e.fault;
      answers = e.answers;
      turns = e.turns;
      finished = e.finished;
      later = e.later;
      rest = e.rest;
      stopped = e.stopped;
      notes = e.notes;
      timely = e.timely;
      whole = e.whole;
      good = e.good;
      promised = c.promise-in-loop.ensures;
    }) c.in-Stopped.fault c.in-Stopped.is

pub loop-preserved : goal.loop-preserved
loop-preserved g c = elim c.match-turned.branch [
  | in-Again w ↦
      goes_on g.B.Blocks c.args.client (omega arith) c.args.run.now c.loop.run c.turn-turned.new.self c.loop.counter c.turn-turned.result c.requires.client c.loop.invariant
      (as_many g.B.Blocks c.loop.run c.turn-turned.new.self c.turn-turned.ensures.run)
      (let e = c.turn-turned.ensures in record {
        run = e.run;
        fault = e.fault;
        answers = e.answers;
        turns = e.turns;
        finished = e.finished;
        later = e.later;
        rest = e.rest;
        stopped = e.stopped;
        notes = e.notes;
        timely = e.timely;
        whole = e.whole;
        good = e.good;
        promised = c.promise-in-loop.ensures;
      })
      (subst (AnswersTurn c.loop.run c.turn-turned.new.self c.args.client) w.in-Again.is c.turn-turned.ensures.answers)
      (subst (CountsTurns c.loop.run c.turn-turned.new.self c.args.client) w.in-Again.is c.turn-turned.ensures.turns)
      (subst (KeepsRest g.B.Blocks (store_in c.loop.run) (store_in c.turn-turned.new.self)) w.in-Again.is c.turn-turned.ensures.rest)
      (c.turn-turned.ensures.fault ∙ ap fault_of w.in-Again.is)
      (λ done. let no : turned.Again ≡ turned.Finished = sym w.in-Again.is ∙ done in absurd cc)
      (let few = c.loop-test.true in omega (arith, few))
  | in-Work w ↦
      goes_on g.B.Blocks c.args.client (omega arith) c.args.run.now c.loop.run c.turn-turned.new.self c.loop.counter c.turn-turned.result c.requires.client c.loop.invariant
      (as_many g.B.Blocks c.loop.run c.turn-turned.new.self c.turn-turned.ensures.run)
      (let e = c.turn-turned.ensures in record {
        run = e.run;
        fault = e.fault;
        answers = e.answers;
        turns = e.turns;
        finished = e.finished;
        later = e.later;
        rest = e.rest;
        stopped = e.stopped;
        notes = e.notes;
        timely = e.timely;
        whole = e.whole;
        good = e.good;
        promised = c.promise-in-loop.ensures;
      })
      (let answers : AnswersTurn c.loop.run c.turn-turned.new.self c.args.client (turned.Work w.in-Work.field-0) = subst (AnswersTurn c.loop.run c.turn-turned.new.self c.args.client) w.in-Work.is c.turn-turned.ensures.answers in answers.0)
      (subst (CountsTurns c.loop.run c.turn-turned.new.self c.args.client) w.in-Work.is c.turn-turned.ensures.turns)
      (subst (KeepsRest g.B.Blocks (store_in c.loop.run) (store_in c.turn-turned.new.self)) w.in-Work.is c.turn-turned.ensures.rest)
      (c.turn-turned.ensures.fault ∙ ap fault_of w.in-Work.is)
      (λ done. let no : turned.Work _ ≡ turned.Finished = sym w.in-Work.is ∙ done in absurd cc)
      (let few = c.loop-test.true in omega (arith, few))
]

pub returns : goal.returns
returns g c = never_ends g.B.Blocks c.args.client (omega arith) c.args.run.now c.loop.run c.loop.counter _ c.loop.invariant (let end = c.loop-test.false in omega (arith, end)) c.endless.ensures
