use Rattle.drives.proofs.sure.SureDrivesDrives.write.Goals as goal

pub returns-in-Ok-A-clause-written : goal.returns-in-Ok-A-clause-written
returns-in-Ok-A-clause-written c = λ _. rw (c.in-Ok-A.is-0, c.in-Ok-A.is-1) c.put.ensures.written

pub returns-in-Ok-B-clause-written : goal.returns-in-Ok-B-clause-written
returns-in-Ok-B-clause-written c = λ _. rw (c.in-Ok-B.is-0, c.in-Ok-B.is-1) c.put-in-Ok-B.ensures.written
