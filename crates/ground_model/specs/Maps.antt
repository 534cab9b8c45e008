-- How the map of blocks changes within a client's line.
use Rattle.std.specs.Prelude.{◌≡◌, ◌↔◌, ℕ, List, [], ◌∷◌, None, Some}
use Rattle.block_map.specs.States.{state_at, Replaces, TakesLeast}
use Rattle.block_map.specs.declared.states.BlockState.{BlockState}
use Rattle.block_map.specs.declared.states.BlockState.TheVariants.{Free}
use Rattle.script_text.specs.declared.script.Line.{Line}
use Rattle.service_model.specs.declared.journal.What.TheVariants.{GivenUp}
use Rattle.service_model.specs.Entries.{without_update}
use Rattle.service_model.specs.Standing.{Scripts, Standing, Update, client_of, last_line, next_line}
use Rattle.ground_model.specs.Lines.{Notes, in_line}
use Rattle.ground_model.specs.Own.{IsClient}
use Rattle.ground_model.specs.Steps.{IsFixed}

-- No block changed that client k can neither take nor give back.
abbrev pub AreFixed : ℕ → List BlockState → List BlockState → Type 0
AreFixed k old new =
    (n : ℕ) (s : BlockState) → IsFixed k s → (state_at old n ≡ s) ↔ (state_at new n ≡ s)

-- So it is where the client takes the least free blocks, and where it gives back those that it
-- holds.
abbrev pub TakingIsFixed : Type 0
TakingIsFixed = (k n : ℕ) (old new : List BlockState) → TakesLeast k n old new → AreFixed k old new

abbrev pub GivingIsFixed : Type 0
GivingIsFixed = (k : ℕ) (old new : List BlockState) → Replaces k Free old new → AreFixed k old new

-- The update that is open as a client's last line was answered is given up, directly after it.
abbrev pub EndIsNoted : Type 0
EndIsNoted =
    (scripts : Scripts) (s : Standing) (k : ℕ) (line : Line) (u : Update)
    → IsClient s k → next_line scripts s k ≡ None → last_line scripts k ≡ Some line → s.latest ≡ k
    → (client_of s k).update ≡ Some u
    → Notes scripts s k (in_line k line GivenUp ∷ []) (without_update (client_of s k))
