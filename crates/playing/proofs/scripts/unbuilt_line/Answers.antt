use Rattle.std.proofs.Common.{take_all, sym, subst, arith}
use Rattle.std.specs.List.{All}
use Rattle.playing.proofs.Building.{LineIsBuilt, all_built, built_more, unbuilt_at}
use Rattle.playing.proofs.scripts.unbuilt_line.Goals as goal

pub returns-then-not-is_built : goal.returns-then-not-is_built
returns-then-not-is_built c =
    unbuilt_at c.args.script.now.lines c.loop-place.place c.line-line.result.now
    c.line-line.ensures.value c.loop-place.invariant (sym c.if-not-is_built.ensures)

pub loop-place-preserved : goal.loop-place-preserved
loop-place-preserved c =
    built_more c.args.script.now.lines c.loop-place.place c.line-line.result.now
    c.line-line.ensures.value c.loop-place.invariant (sym c.if-not-is_built.ensures)

pub returns : goal.returns
returns c =
    all_built c.args.script.now.lines
    (subst (All LineIsBuilt)
    (take_all c.loop-place.place c.args.script.now.lines (omega arith)) c.loop-place.invariant)
