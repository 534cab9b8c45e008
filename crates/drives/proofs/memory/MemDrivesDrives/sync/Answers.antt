use Rattle.std.proofs.Common.{inr, ◌<◌, ℕ, OnErr, subst, arith}
use Rattle.drives.specs.Crash.{LeavesSame}
use Rattle.drives.specs.Left.{IsMemLeft, moment_after}
use Rattle.drives.proofs.Halves.{each_half}
use Rattle.drives.proofs.memory.MemDrivesDrives.sync.Goals as goal

pub returns-in-A-clause-durable : goal.returns-in-A-clause-durable
returns-in-A-clause-durable c = λ _. rw c.in-A.is c.sync.ensures.durable

pub returns-in-A-clause-crash_failed : goal.returns-in-A-clause-crash_failed
returns-in-A-clause-crash_failed c =
    let before = c.args.self.now in
    let same = subst (λ (t : ℕ). OnErr c.sync.result (LeavesSame (IsMemLeft before.a t) (IsMemLeft c.sync.new.self c.tick-refused.new.time))) before.moment_a c.sync.ensures.crash_failed in
    rw c.in-A.is same

pub returns-in-A-clause-past : goal.returns-in-A-clause-past
returns-in-A-clause-past c =
    each_half _
    (λ t x low. let early : t < moment_after c.sync.new.self.events = omega arith in c.sync.ensures.past t x early)
    (λ t x low. let early : t < moment_after c.idle.new.self.events = omega arith in c.idle.ensures.past t x early)

pub returns-in-A-clause-refused : goal.returns-in-A-clause-refused
returns-in-A-clause-refused c = λ listed. c.sync.ensures.refused (c.tick-refused.ensures.refused.1 (inr listed))

pub returns-in-B-clause-durable : goal.returns-in-B-clause-durable
returns-in-B-clause-durable c = λ _. rw c.in-B.is c.sync-in-B.ensures.durable

pub returns-in-B-clause-crash_failed : goal.returns-in-B-clause-crash_failed
returns-in-B-clause-crash_failed c =
    let before = c.args.self.now in
    let same = subst (λ (t : ℕ). OnErr c.sync-in-B.result (LeavesSame (IsMemLeft before.b t) (IsMemLeft c.sync-in-B.new.self c.tick-refused.new.time))) before.moment_b c.sync-in-B.ensures.crash_failed in
    rw c.in-B.is same

pub returns-in-B-clause-past : goal.returns-in-B-clause-past
returns-in-B-clause-past c =
    each_half _
    (λ t x low. let early : t < moment_after c.idle-in-B.new.self.events = omega arith in c.idle-in-B.ensures.past t x early)
    (λ t x low. let early : t < moment_after c.sync-in-B.new.self.events = omega arith in c.sync-in-B.ensures.past t x early)

pub returns-in-B-clause-refused : goal.returns-in-B-clause-refused
returns-in-B-clause-refused c = λ listed. c.sync-in-B.ensures.refused (c.tick-refused.ensures.refused.1 (inr listed))
