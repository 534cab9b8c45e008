use Rattle.std.proofs.Common.{take_all, subst}
use Rattle.std.specs.List.{All}
use Rattle.std.proofs.lemmas.List.Elements.{All-more}
use Rattle.session.specs.Built.{AreBuilt}
use Rattle.playing.proofs.Building.{unbuilt_script}
use Rattle.playing.proofs.scripts.check_built.Goals as goal

pub returns-in-Some : goal.returns-in-Some
returns-in-Some c =
    unbuilt_script c.args.scripts.now c.loop-place.place c.index-scripts-place.result
    c.client_at-client.result c.in-Some.line c.loop-place-test.true c.index-scripts-place.is
    c.loop-place.invariant c.client_at-client.ensures c.in-Some.ensures

pub loop-place-preserved : goal.loop-place-preserved
loop-place-preserved c =
    All-more AreBuilt c.args.scripts.now c.loop-place.place c.index-scripts-place.result
    c.loop-place-test.true c.loop-place.invariant
    (subst AreBuilt c.index-scripts-place.is c.in-None.ensures)

pub returns : goal.returns
returns c =
    subst (All AreBuilt) (take_all c.loop-place.place c.args.scripts.now c.loop-place-test.false)
    c.loop-place.invariant
