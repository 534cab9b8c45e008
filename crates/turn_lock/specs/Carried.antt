-- What a pass carries between two calls.
use Rattle.std.specs.Prelude.{List, [], ◌∷◌, Option, None, ℕ}
use Rattle.turn_lock.specs.declared.view.Standing.{Standing}
use Rattle.turn_lock.specs.declared.view.Standing.TheVariants.{Idle, Held, Shut, Spent}

-- the slots that a pass has: the emptied one where it holds
abbrev pub carried_by : {T : Type 0} → Standing → List (ℕ × Option T)
carried_by Idle = []
carried_by Held = (0, None) ∷ []
carried_by Shut = []
carried_by Spent = []
