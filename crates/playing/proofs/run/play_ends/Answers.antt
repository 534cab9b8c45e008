use Rattle.std.proofs.Common.{length, arith}
use Rattle.playing.proofs.LinePlay.{as_many}
use Rattle.playing.proofs.RunPlay.{client_ends, ends_begin, ends_stop, ends_there}
use Rattle.playing.proofs.run.play_ends.Goals as goal

pub loop-place-init : goal.loop-place-init
loop-place-init g c = ends_begin g.B.Blocks c.args.run.now c.requires.going

pub play_client-requires-clause-client : goal.play_client-requires-clause-client
play_client-requires-clause-client g c =
    let many = as_many g.B.Blocks c.args.run.now c.loop-place.run c.loop-place.invariant.same in
    let low = c.loop-place-test.true in
    let number = c.clients-place-end.ensures.number in
    let is = c.client_at.ensures in
    omega (arith, many, low, number, is)

pub play_client-requires-clause-going : goal.play_client-requires-clause-going
play_client-requires-clause-going g c = c.loop-place.invariant.ends.0.fault

pub returns-in-Err : goal.returns-in-Err
returns-in-Err g c =
    ends_stop g.B.Blocks c.args.run.now c.loop-place.run c.play_client.new.run _ _ _ c.in-Err.fault c.play_client.result c.loop-place.invariant c.in-Err.is c.play_client.ensures

pub loop-place-preserved : goal.loop-place-preserved
loop-place-preserved g c =
    client_ends g.B.Blocks c.loop-place.place c.client_at.result c.args.run.now c.loop-place.run c.play_client.new.run c.play_client.result c.loop-place.invariant c.client_at.ensures
    c.in-Ok.is c.play_client.ensures

pub returns : goal.returns
returns g c =
    ends_there g.B.Blocks c.loop-place.place (length c.args.run.now.sessions) c.args.run.now c.loop-place.run
    (let end = c.loop-place-test.false in let number = c.clients-place-end.ensures.number in let most = c.loop-place.auto.place-end in omega (arith, end, number, most)) c.loop-place.invariant
