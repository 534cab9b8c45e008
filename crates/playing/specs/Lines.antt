-- How a run goes on by lines, from word to word, and then from client to client.
use Rattle.std.specs.Prelude.{◌≡◌, ℕ, ◌+◌, List, [], ◌++◌, length, None, Some, Result, Ok, Err}
use Rattle.drives.specs.declared.device.Half.{Half}
use Rattle.pair_store.specs.declared.store.Blocks.{Ghosts}
use Rattle.play_order.specs.Orders.{AnswersOne, AreFinishedBelow, PlayInvariant}
use Rattle.recovery.specs.Opening.{IsFailed}
use Rattle.service_model.specs.declared.journal.Entry.{Entry}
use Rattle.service_model.specs.Standing.{next_line}
use Rattle.session.specs.declared.turned.Fault.{Fault}
use Rattle.session.specs.declared.turned.Fault.TheVariants.{Drive}
use Rattle.tree_model.specs.States.{State}
use Rattle.ground.specs.Runs.{GroundValue, entries_in, scripts_in, store_in}
use Rattle.ground.specs.Turning.{AreLater, IsRunOf, IsSameRun, IsThrough, replies_of, standing_of}
use Rattle.playing.specs.declared.line.LineEnd.{LineEnd}
use Rattle.playing.specs.declared.line.LineEnd.TheVariants.{Answered, Finished, Stopped}

-- ---- what a part of a run leaves

-- The run goes on, and no fault came. Where nothing was pending, nothing is.
pub record GoesOn {D : Type 0} (b : Ghosts D) (g g' : GroundValue D) : Type 0 where
  pub fault : g'.fault ≡ None
  pub rest : b.tells → b.rest (store_in g) → b.rest (store_in g')

-- A fault stopped the run: that of a half, which failed in the last call. Over a store as an opening
-- leaves it there is no other fault.
pub record StopsOn {D : Type 0} (b : Ghosts D) (g g' : GroundValue D) (fault : Fault) : Type 0 where
  pub failed : (h : Half) → fault ≡ Drive h
      → IsFailed (b.faults (store_in g)) (b.faults (store_in g')) (b.last_fault (store_in g'))
      (b.moment (store_in g')) ((opening : State) → IsRunOf b g opening → ⊥) h
  pub told : (opening : State) → IsRunOf b g opening
      → (half : Half) × (fault ≡ Drive half) × (g'.fault ≡ Some fault)

-- ---- a line

-- The next line of client k was answered: these entries came to the journal.
pub record PlaysLine {D : Type 0} (opening : State) (g g' : GroundValue D) (k : ℕ) : Type 0 where
  pub es : List Entry
  pub entries : entries_in g' ≡ entries_in g ++ es
  pub one : AnswersOne (scripts_in g) (standing_of opening g) k es

-- How client k went on to its next answer.
abbrev pub LineEnds : {D : Type 0} → Ghosts D → GroundValue D → GroundValue D → ℕ → LineEnd → Type 0
LineEnds b g g' k Answered =
    GoesOn b g g' × (length (replies_of g' k) ≡ length (replies_of g k) + 1)
    × ((opening : State) → IsRunOf b g opening → PlaysLine opening g g' k)
LineEnds b g g' k Finished =
    (g' ≡ g) × IsThrough g k
    × ((opening : State) → IsRunOf b g opening
    → next_line (scripts_in g) (standing_of opening g) k ≡ None)
LineEnds b g g' k (Stopped fault) = StopsOn b g g' fault

-- A call that takes client k to its next answer.
pub record LineCall {D : Type 0} (b : Ghosts D) (g g' : GroundValue D) (k : ℕ)
    (result : LineEnd) : Type 0 where
  pub same : IsSameRun b g g'
  pub later : AreLater b g g'
  pub ends : LineEnds b g g' k result

-- ---- more than a line

-- Where a run follows the order of play with some of the words left, it does so later with others.
abbrev pub Follows : {D : Type 0} → State → List ℕ → List ℕ → GroundValue D → GroundValue D → Type 0
Follows opening left left' g g' =
    (words : List ℕ) → PlayInvariant opening (scripts_in g) words left (entries_in g)
    → PlayInvariant opening (scripts_in g) words left' (entries_in g')

-- Behind the words, with all clients below k finished, all below k' are later.
abbrev pub Finishes : {D : Type 0} → State → ℕ → ℕ → GroundValue D → GroundValue D → Type 0
Finishes opening k k' g g' =
    (words : List ℕ) → PlayInvariant opening (scripts_in g) words [] (entries_in g)
    → AreFinishedBelow (scripts_in g) (standing_of opening g) k
    → PlayInvariant opening (scripts_in g) words [] (entries_in g')
    × AreFinishedBelow (scripts_in g) (standing_of opening g') k'

-- How a part of a run ends: it goes on, as is said, or a fault stopped it.
abbrev pub PartEnds : {D : Type 0} → Ghosts D → GroundValue D → GroundValue D
    → (State → Type 0) → Result (Unit {0}) Fault → Type 0
PartEnds b g g' Does (Ok _) =
    GoesOn b g g' × ((opening : State) → IsRunOf b g opening → Does opening)
PartEnds b g g' Does (Err fault) = StopsOn b g g' fault

-- A part of a run.
pub record PartCall {D : Type 0} (b : Ghosts D) (g g' : GroundValue D) (Does : State → Type 0)
    (result : Result (Unit {0}) Fault) : Type 0 where
  pub same : IsSameRun b g g'
  pub later : AreLater b g g'
  pub ends : PartEnds b g g' Does result
