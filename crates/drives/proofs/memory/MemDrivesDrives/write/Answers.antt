use Rattle.std.proofs.Common.{inr, ◌<◌, arith}
use Rattle.drives.specs.Left.{moment_after}
use Rattle.drives.proofs.Halves.{each_half}
use Rattle.drives.proofs.memory.MemDrivesDrives.write.Goals as goal

pub returns-in-A-clause-written : goal.returns-in-A-clause-written
returns-in-A-clause-written c = λ _. rw c.in-A.is c.write.ensures.written

pub returns-in-A-clause-past : goal.returns-in-A-clause-past
returns-in-A-clause-past c =
    each_half _
    (λ t x low. let early : t < moment_after c.write.new.self.events = omega arith in c.write.ensures.past t x early)
    (λ t x low. let early : t < moment_after c.idle.new.self.events = omega arith in c.idle.ensures.past t x early)

pub returns-in-A-clause-refused : goal.returns-in-A-clause-refused
returns-in-A-clause-refused c = λ listed. c.write.ensures.refused (c.tick-refused.ensures.refused.1 (inr listed))

pub returns-in-B-clause-written : goal.returns-in-B-clause-written
returns-in-B-clause-written c = λ _. rw c.in-B.is c.write-in-B.ensures.written

pub returns-in-B-clause-past : goal.returns-in-B-clause-past
returns-in-B-clause-past c =
    each_half _
    (λ t x low. let early : t < moment_after c.idle-in-B.new.self.events = omega arith in c.idle-in-B.ensures.past t x early)
    (λ t x low. let early : t < moment_after c.write-in-B.new.self.events = omega arith in c.write-in-B.ensures.past t x early)

pub returns-in-B-clause-refused : goal.returns-in-B-clause-refused
returns-in-B-clause-refused c = λ listed. c.write-in-B.ensures.refused (c.tick-refused.ensures.refused.1 (inr listed))
