use Rattle.std.proofs.Common.{arith}
use Rattle.playing.proofs.Telling.{told_more, told_whole}
use Rattle.playing.proofs.files.append_files.Goals as goal

pub loop-place-preserved : goal.loop-place-preserved
loop-place-preserved g c =
    told_more (g.R.Played.told c.args.run.now) c.loop-place.place c.args.text.now.items
    c.loop-place.text.items c.loop-place.invariant c.serials.result
    c.append_object.new.text.items c.serials.ensures c.in_ok-append_object.ensures

pub returns : goal.returns
returns g c = λ files are.
    told_whole (g.R.Played.told c.args.run.now) c.loop-place.place c.args.text.now.items
    c.loop-place.text.items c.loop-place.invariant (omega arith) files are
