use Rattle.std.proofs.Common.{◌≡◌, sym, subst}
use Rattle.endings.specs.declared.ended.Ended.{Ended}
use Rattle.pair_store.specs.contracts.on_halves.PairBlocks.TheImpl.{ghosts}
use Rattle.playing.specs.Playing.{GroundCall}
use Rattle.playing.proofs.Ending.{end_of, stopped_call, whole_call}
use Rattle.playing.proofs.play.play_run.Goals as goal

pub returns-in-Ok : goal.returns-in-Ok
returns-in-Ok g c =
    let V = g.V.Drives in
    let K = g.K.Sink in
    let p = ghosts g.row.V g.V.Drives g.V.Drives-dict in
    let words = c.args.words.now in
    let start = c.args.run in
    let last = c.play_all.new.run in
    let out = c.args.out.now in
    let after = c.finish_run-status.new.out in
    let status = c.finish_run-status.result in
    let part = c.in-Ok.ensures in
    let ended = c.ended.ensures in
    let printed = c.finish_run-status.ensures in
    let at = end_of V p K words start last out after status part.same part.same.size
    (λ h. (part.later.faults h, part.later.last h)) ended.promise printed.opened printed.later in
    let same : at ≡ c.ended.result = λ i. record {
      status = sym ended.status i;
      drives = sym ended.drives i;
      journal = sym ended.journal i;
    } in
    let C : Ended g.row.V.Denot → Type 0 = λ e. GroundCall V p K words start out e after in
    subst C same
    (whole_call V p K words start last out after status part.same part.same.size
    (λ h. (part.later.faults h, part.later.last h)) ended.promise printed.opened printed.later
    part.ends.0.rest part.ends.0.fault part.ends.1 printed.ends printed.sound)

pub returns-in-Err : goal.returns-in-Err
returns-in-Err g c =
    let V = g.V.Drives in
    let K = g.K.Sink in
    let p = ghosts g.row.V g.V.Drives g.V.Drives-dict in
    let words = c.args.words.now in
    let start = c.args.run in
    let last = c.play_all.new.run in
    let out = c.args.out.now in
    let after = c.end_stopped-status.new.out in
    let status = c.end_stopped-status.result in
    let part = c.in-Err.ensures in
    let ended = c.ended-in-Err.ensures in
    let printed = c.end_stopped-status.ensures in
    let at = end_of V p K words start last out after status part.same part.same.size
    (λ h. (part.later.faults h, part.later.last h)) ended.promise printed.opened printed.later in
    let same : at ≡ c.ended-in-Err.result = λ i. record {
      status = sym ended.status i;
      drives = sym ended.drives i;
      journal = sym ended.journal i;
    } in
    let C : Ended g.row.V.Denot → Type 0 = λ e. GroundCall V p K words start out e after in
    subst C same
    (stopped_call V p K words start last out after status part.same part.same.size
    (λ h. (part.later.faults h, part.later.last h)) ended.promise printed.opened printed.later
    c.in-Err.fault part.ends.failed part.ends.told printed.ends printed.driven)
