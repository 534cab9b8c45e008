-- How far a client has come, with other counts and in another stage.
use Rattle.std.proofs.Common.{ℕ}
use Rattle.session.specs.declared.course.Course.{Course}
use Rattle.session.specs.declared.stage.Stage.{Stage}

abbrev pub course_with : Course → ℕ → Stage → ℕ → Course
course_with s held stage turns = record s { held = held; stage = stage; turns = turns }
