use Rattle.playing.proofs.RunPlay.{whole_after, whole_stops}
use Rattle.playing.proofs.run.play_all.Goals as goal

pub returns-in-Ok : goal.returns-in-Ok
returns-in-Ok g c =
    whole_after g.B.Blocks c.args.words.now c.args.run.now c.play_words.new.run c.play_ends.new.run c.play_words.result c.play_ends.result c.requires.fresh c.in-Ok.is c.play_words.ensures
    c.play_ends.ensures

pub returns-in-Err : goal.returns-in-Err
returns-in-Err g c = whole_stops g.B.Blocks c.args.run.now c.play_words.new.run _ _ c.in-Err.fault c.play_words.result c.in-Err.is c.play_words.ensures
