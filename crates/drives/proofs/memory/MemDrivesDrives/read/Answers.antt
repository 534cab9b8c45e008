use Rattle.std.proofs.Common.{inl, inr, ◌<◌, arith}
use Rattle.drives.specs.Left.{moment_after}
use Rattle.drives.proofs.Halves.{each_half}
use Rattle.drives.proofs.memory.MemDrivesDrives.read.Goals as goal

pub returns-in-A-clause-past : goal.returns-in-A-clause-past
returns-in-A-clause-past c =
    each_half _
    (λ t x low. let early : t < moment_after c.read.new.self.events = omega arith in c.read.ensures.past t x early)
    (λ t x low. let early : t < moment_after c.idle.new.self.events = omega arith in c.idle.ensures.past t x early)

pub returns-in-A-clause-refused : goal.returns-in-A-clause-refused
returns-in-A-clause-refused c = λ listed. c.read.ensures.refused.1 (c.tick-refused.ensures.refused.1 (inr listed))

pub returns-in-B-clause-past : goal.returns-in-B-clause-past
returns-in-B-clause-past c =
    each_half _
    (λ t x low. let early : t < moment_after c.idle-in-B.new.self.events = omega arith in c.idle-in-B.ensures.past t x early)
    (λ t x low. let early : t < moment_after c.read-in-B.new.self.events = omega arith in c.read-in-B.ensures.past t x early)

pub returns-in-B-clause-refused : goal.returns-in-B-clause-refused
returns-in-B-clause-refused c = λ listed. c.read-in-B.ensures.refused.1 (c.tick-refused.ensures.refused.1 (inr listed))

pub returns-in-A-clause-served : goal.returns-in-A-clause-served
returns-in-A-clause-served c = λ serves.
    c.read.ensures.served (λ refused. elim (c.tick-refused.ensures.refused.0 refused) [
      | inl ended ↦ serves.0 ended
      | inr listed ↦ serves.1 listed
    ])

pub returns-in-B-clause-served : goal.returns-in-B-clause-served
returns-in-B-clause-served c = λ serves.
    c.read-in-B.ensures.served (λ refused. elim (c.tick-refused.ensures.refused.0 refused) [
      | inl ended ↦ serves.0 ended
      | inr listed ↦ serves.1 listed
    ])

pub returns-in-A-clause-read : goal.returns-in-A-clause-read
returns-in-A-clause-read c = λ _. rw c.in-A.is c.read.ensures.read

pub returns-in-B-clause-read : goal.returns-in-B-clause-read
returns-in-B-clause-read c = λ _. rw c.in-B.is c.read-in-B.ensures.read
