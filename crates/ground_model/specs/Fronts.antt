-- What a crash may leave of a run: the state after a front of its journal.
use Rattle.std.specs.Prelude.{◌≡◌, ◌⊎◌, ℕ, ◌≤◌, ◌<◌, Bool, true, false, nat_eq, nat_le, nat_lt}
use Rattle.std.specs.Prelude.{List, [], ◌∷◌, ◌++◌, is_some, Result, Ok, Some, count_by}
use Rattle.std.specs.List.{list_any, list_all}
use Rattle.std.specs.Option.{option_map_or}
use Rattle.service_model.specs.declared.journal.Entry.{Entry}
use Rattle.service_model.specs.declared.journal.Journal.{Journal}
use Rattle.service_model.specs.Entries.{serial_state}
use Rattle.service_model.specs.Legal.{moment_of}
use Rattle.service_model.specs.Standing.{Scripts}
use Rattle.store_model.specs.Walk.{Refused}
use Rattle.tree_model.specs.States.{State}

-- ---- entries and moments

-- An entry carries a moment, as each one that changes the state does.
abbrev pub is_change : Entry → Bool
is_change e = is_some (moment_of e.what)

-- It was acknowledged by this moment.
abbrev pub is_told : ℕ → Entry → Bool
is_told t e = option_map_or (λ at. nat_le at t) (moment_of e.what) false

-- It carries a later moment.
abbrev pub is_pending : ℕ → Entry → Bool
is_pending t e = option_map_or (λ at. nat_lt t at) (moment_of e.what) false

-- It carries no later moment.
abbrev pub is_by : ℕ → Entry → Bool
is_by t e = option_map_or (λ at. nat_le at t) (moment_of e.what) true

-- It carries this moment, or none.
abbrev pub is_at : ℕ → Entry → Bool
is_at t e = option_map_or (λ at. nat_eq at t) (moment_of e.what) true

-- ---- images

-- What is found is the state after a front of these entries, which has each that was acknowledged
-- by the moment, and at most one that carries a later one.
pub record IsFront (opening : State) (scripts : Scripts) (es : List Entry) (t : ℕ)
    (outcome : Result State Refused) : Type 0 where
  pub front : List Entry
  pub rest : List Entry
  pub whole : front ++ rest ≡ es
  pub state : outcome ≡ Ok (serial_state opening scripts front)
  pub acknowledged : list_any (is_told t) rest ≡ false
  pub one : count_by (is_pending t) front ≤ 1

-- What is found is the state after all entries and the one that is in doubt, where each of them was
-- acknowledged.
pub record IsDoubted (opening : State) (scripts : Scripts) (journal : Journal) (t : ℕ)
    (outcome : Result State Refused) : Type 0 where
  pub entry : Entry
  pub doubt : journal.doubt ≡ Some entry
  pub state : outcome ≡ Ok (serial_state opening scripts (journal.entries.items ++ entry ∷ []))
  pub others : count_by (is_pending t) journal.entries.items ≡ 0

abbrev pub IsRecovered : State → Scripts → Journal → ℕ → Result State Refused → Type 0
IsRecovered opening scripts journal t outcome =
    IsFront opening scripts journal.entries.items t outcome
    ⊎ IsDoubted opening scripts journal t outcome

-- What a device of type D, which tells its moment and what a crash may leave, is found to hold.
pub record Images (D X : Type 0) : Type 1 where
  pub moment : D → ℕ
  pub may_leave : D → ℕ → X → Type 0
  pub outcome : X → Result State Refused

-- Each image of each moment from the first one on holds the state after a front of these entries.
abbrev pub AllFronts : {D X : Type 0} → Images D X → State → Scripts → ℕ → D → List Entry → Type 0
AllFronts {X = X} i opening scripts first d es =
    (t : ℕ) (x : X) → first ≤ t → t ≤ i.moment d → i.may_leave d t x
    → IsFront opening scripts es t (i.outcome x)

-- So it is of a journal, of which one entry may be in doubt.
abbrev pub AllRecovered : {D X : Type 0} → Images D X → State → Scripts → ℕ → D → Journal → Type 0
AllRecovered {X = X} i opening scripts first d journal =
    (t : ℕ) (x : X) → first ≤ t → t ≤ i.moment d → i.may_leave d t x
    → IsRecovered opening scripts journal t (i.outcome x)

-- ---- turns

-- A turn took the state from `before` to `after`, which may be the same: a crash within it leaves
-- one of the two, and a crash after it the second.
pub record TurnLeaves {D X : Type 0} (i : Images D X) (old new : D)
    (before after : State) : Type 0 where
  pub later : i.moment old ≤ i.moment new
  pub past : (t : ℕ) (x : X) → t < i.moment old → i.may_leave new t x → i.may_leave old t x
  pub within : (t : ℕ) (x : X) → i.moment old ≤ t → t < i.moment new → i.may_leave new t x
      → (i.outcome x ≡ Ok before) ⊎ (i.outcome x ≡ Ok after)
  pub last : (x : X) → i.may_leave new (i.moment new) x → i.outcome x ≡ Ok after

-- A turn was stopped by a fault in its one write: a crash within it or after it leaves either
-- state.
pub record TurnStops {D X : Type 0} (i : Images D X) (old new : D)
    (before after : State) : Type 0 where
  pub later : i.moment old ≤ i.moment new
  pub past : (t : ℕ) (x : X) → t < i.moment old → i.may_leave new t x → i.may_leave old t x
  pub within : (t : ℕ) (x : X) → i.moment old ≤ t → t ≤ i.moment new → i.may_leave new t x
      → (i.outcome x ≡ Ok before) ⊎ (i.outcome x ≡ Ok after)

-- The entries of a turn that returned at this moment: each that carries one carries it, and at most
-- one does.
pub record AreOfTurn (now : ℕ) (es : List Entry) : Type 0 where
  pub moments : list_all (is_at now) es ≡ true
  pub one : count_by is_change es ≤ 1

-- Turns, each with the device as it left it and the entries that it appended, one after the other.
abbrev pub Turns : Type 0 → Type 0
Turns D = List (D × List Entry)

abbrev pub last_of : {D : Type 0} → D → Turns D → D
last_of d [] = d
last_of d (turn ∷ turns) = last_of turn.0 turns

abbrev pub entries_of : {D : Type 0} → List Entry → Turns D → List Entry
entries_of es [] = es
entries_of es (turn ∷ turns) = entries_of (es ++ turn.1) turns

-- Each turn leaves what it should.
abbrev pub AreTurns : {D X : Type 0} → Images D X → State → Scripts → D → List Entry → Turns D
    → Type 0
AreTurns i opening scripts d es [] = Unit {0}
AreTurns i opening scripts d es (turn ∷ turns) =
    TurnLeaves i d turn.0 (serial_state opening scripts es)
    (serial_state opening scripts (es ++ turn.1))
    × AreOfTurn (i.moment turn.0) turn.1 × AreTurns i opening scripts turn.0 (es ++ turn.1) turns
