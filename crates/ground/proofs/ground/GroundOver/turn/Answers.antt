use Rattle.std.proofs.Common.{◌-◌, length, ap, arith, option_copied}
use Rattle.ground.specs.Runs.{GroundValue}
use Rattle.ground.proofs.Clients.{at_of}
use Rattle.ground.proofs.Halts.{never_bad}
use Rattle.ground.proofs.Turns.{came}
use Rattle.ground.proofs.ground.GroundOver.turn.Goals as goal

pub turn-turned-requires-clause-safe : goal.turn-turned-requires-clause-safe
turn-turned-requires-clause-safe g c = c.self.invariant.safe.safe (c.get.result - 1) c.index_mut-session.result.now (at_of c.self.inside.sessions.items (c.get.result - 1) c.index_mut-session.result.now c.index_mut-session.result.now (let wide = ap (λ (x : GroundValue _). length x.sessions) c.self.view_is in omega (arith, wide)) c.index_mut-session.ensures.value)

pub invariant_of-self : goal.invariant_of-self
invariant_of-self g c =
    (came _ c.self.inside.opened.value c.self.inside.common c.turn-turned.new.common c.self.inside.sessions.items c.index_mut-session.result.now c.turn-turned.new.self c.args.client (c.get.result - 1) (option_copied c.args.offer) c.turn-turned.result c.self.inside.fault c.args.self.now
    (record {
      sound = c.self.invariant;
      is = c.self.view_is;
      none = c.in_default.is;
      number = omega arith;
      place = omega arith;
      at = (at_of c.self.inside.sessions.items (c.get.result - 1) c.index_mut-session.result.now c.index_mut-session.result.now (let wide = ap (λ (x : GroundValue _). length x.sessions) c.self.view_is in omega (arith, wide)) c.index_mut-session.ensures.value);
      script = c.turn-turned.ensures.script;
      finished = c.turn-turned.ensures.finished;
      still = c.turn-turned.ensures.still;
      call = c.turn-turned.ensures.turn;
      merges = c.turn-turned.ensures.merges;
    }) c.fault_of-self-inside.result c.fault_of-self-inside.ensures).keeps

pub returns-in-Some-clause-good : goal.returns-in-Some-clause-good
returns-in-Some-clause-good g c = never_bad _ _ _ c.in-Some.fault c.self.view_is c.self.invariant c.in-Some.is

pub returns : goal.returns
returns g c =
    let all = (came _ c.self.inside.opened.value c.self.inside.common c.turn-turned.new.common c.self.inside.sessions.items c.index_mut-session.result.now c.turn-turned.new.self c.args.client (c.get.result - 1) (option_copied c.args.offer) c.turn-turned.result c.self.inside.fault c.args.self.now
    (record {
      sound = c.self.invariant;
      is = c.self.view_is;
      none = c.in_default.is;
      number = omega arith;
      place = omega arith;
      at = (at_of c.self.inside.sessions.items (c.get.result - 1) c.index_mut-session.result.now c.index_mut-session.result.now (let wide = ap (λ (x : GroundValue _). length x.sessions) c.self.view_is in omega (arith, wide)) c.index_mut-session.ensures.value);
      script = c.turn-turned.ensures.script;
      finished = c.turn-turned.ensures.finished;
      still = c.turn-turned.ensures.still;
      call = c.turn-turned.ensures.turn;
      merges = c.turn-turned.ensures.merges;
    }) c.fault_of-self-inside.result c.fault_of-self-inside.ensures) in
    record {
      run = all.run;
      stays = all.stays;
      fault = all.fault;
      answers = all.answers;
      turns = all.turns;
      rest = all.rest;
      timely = all.timely;
      whole = all.whole;
      others = all.others;
      merges = all.merges;
      finished = all.finished;
      counted = all.counted;
      later = all.later;
      stopped = all.stopped;
      notes = all.notes;
      good = all.good;
    }
