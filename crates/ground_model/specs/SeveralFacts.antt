-- What the drafts of an update of several files tell of it before it is committed, and that the
-- flush of one file is left by the writes of another one's.
use Rattle.std.specs.Prelude.{◌≡◌, ◌⊎◌, ℕ, ◌+◌, ◌≤◌, Bool, true, false, ◌||◌, List, [], ◌∷◌, ◌++◌}
use Rattle.std.specs.Prelude.{length, map, Some, if◌then◌else◌, slice_get, sum_by}
use Rattle.std.specs.List.{AllByRecursion, list_any}
use Rattle.block_map.specs.States.{state_at, held_count}
use Rattle.block_map.specs.declared.states.BlockState.{BlockState}
use Rattle.block_map.specs.declared.states.BlockState.TheVariants.{Held}
use Rattle.draft_model.specs.Flush.{IsPlaced, Placed, is_block_of}
use Rattle.draft_model.specs.Told.{TellsFresh, TellsWrites}
use Rattle.draft_model.specs.Views.{View}
use Rattle.pair_store.specs.Blocks.{SameOthers}
use Rattle.service_model.specs.Sound.{IsOn}
use Rattle.service_model.specs.Standing.{Update, Work, has_writes, is_written, need, renewed_works}
use Rattle.tree_model.specs.Accesses.{fresh_as_top, written_paths}
use Rattle.version_chain.specs.Flush.{AreHeld, Base, GivesNext, Plan}
use Rattle.ground_model.specs.Leaves.{KeepsVersions, Leaves}
use Rattle.ground_model.specs.Own.{HasDraft, IsFlushing, IsHeldBy}
use Rattle.ground_model.specs.Scenes.{IsShared, Scene, held_by}
use Rattle.ground_model.specs.Several.{IsRenewed, Renewal, places_of, works_of}
use Rattle.ground_model.specs.SeveralTurns.{AreHeldFrom}

-- ---- which files get a new version

-- Something was written to a file where its draft tells so.
abbrev pub DraftFlags : Type 0
DraftFlags =
    (scene : Scene) (w : Work) (root : ℕ) (d : View) (told : Bool)
    → HasDraft scene w root d → TellsWrites d told → is_written w ≡ told

-- Of these those whose flag is set.
abbrev pub flagged : {X : Type 0} → List X → List Bool → List X
flagged [] flags = []
flagged (x ∷ xs) [] = []
flagged (x ∷ xs) (f ∷ flags) = if f then x ∷ flagged xs flags else flagged xs flags

-- Each flag tells whether something was written to its file of an update of several files.
pub record IsFlagged (u : Update) (w : Work) (ws : List Work) (first : Bool)
    (flags : List Bool) : Type 0 where
  pub several : u.is_super ≡ true
  pub works : u.works ≡ w ∷ ws
  pub told : map is_written (w ∷ ws) ≡ first ∷ flags

-- Then the update has writes where one is set, and so the first file gets a new version, and those
-- whose flag is set.
abbrev pub FlagsTell : Type 0
FlagsTell =
    (u : Update) (w : Work) (ws : List Work) (first : Bool) (flags : List Bool)
    → IsFlagged u w ws first flags
    → (has_writes u ≡ (first || list_any (λ f. f) flags))
    × (has_writes u ≡ true → renewed_works u ≡ w ∷ flagged ws flags)

-- The numbers, from this one on, of the flags that are set.
abbrev pub numbers_from : ℕ → List Bool → List ℕ
numbers_from n [] = []
numbers_from n (f ∷ flags) =
    if f then n ∷ numbers_from (n + 1) flags else numbers_from (n + 1) flags

-- The files that get a new version are those of the update with these numbers, in their order.
abbrev pub RenewedAreNumbered : Type 0
RenewedAreNumbered =
    (u : Update) (w : Work) (ws : List Work) (first : Bool) (flags : List Bool)
    → IsFlagged u w ws first flags → has_writes u ≡ true
    → (length (renewed_works u) ≡ length (0 ∷ numbers_from 1 flags))
    × ((i n : ℕ) → slice_get (0 ∷ numbers_from 1 flags) i ≡ Some n
    → (x : Work) × (slice_get u.works n ≡ Some x) × (slice_get (renewed_works u) i ≡ Some x))

-- ---- one file after the other

-- Flags that tell of each file whether something was written to it tell so of all.
abbrev pub FlagsAreTold : Type 0
FlagsAreTold =
    (ws : List Work) (flags : List Bool) → length flags ≡ length ws
    → ((i : ℕ) (w : Work) (f : Bool) → slice_get ws i ≡ Some w → slice_get flags i ≡ Some f
    → is_written w ≡ f)
    → map is_written ws ≡ flags

-- By one flag more there is one number more, or none,
abbrev pub NumbersGoOn : Type 0
NumbersGoOn =
    (n : ℕ) (flags : List Bool) (f : Bool)
    → numbers_from n (flags ++ f ∷ [])
    ≡ numbers_from n flags ++ (if f then (n + length flags) ∷ [] else [])

-- and one count more of those whose flag is set.
abbrev pub CountsGoOn : Type 0
CountsGoOn =
    (counts : List ℕ) (flags : List Bool) (count : ℕ) (f : Bool) → length counts ≡ length flags
    → sum_by (λ n. n) (flagged (counts ++ count ∷ []) (flags ++ f ∷ []))
    ≡ sum_by (λ n. n) (flagged counts flags) + (if f then count else 0)

-- ---- how many blocks it needs

-- How many pages of a file are to be written, if it gets a new version.
abbrev pub pages_in : Work → ℕ
pages_in w = length (fresh_as_top w.base w.steps)

-- They are as many as its draft tells fresh paths, or one where it tells none.
abbrev pub DraftPages : Type 0
DraftPages =
    (scene : Scene) (w : Work) (root : ℕ) (d : View) (fresh : List (List ℕ))
    → HasDraft scene w root d → TellsFresh d fresh
    → length (written_paths fresh) ≡ pages_in w

-- So many places has a flush of the draft, too.
abbrev pub PlacesOfDraft : Type 0
PlacesOfDraft =
    (scene : Scene) (w : Work) (root : ℕ) (d : View) (placed : List Placed)
    → HasDraft scene w root d → IsPlaced d placed → length placed ≡ pages_in w

-- The update needs a block for each such page of the first file, and of each whose flag is set.
abbrev pub NeedOfSeveral : Type 0
NeedOfSeveral =
    (u : Update) (w : Work) (ws : List Work) (first : Bool) (flags : List Bool) (counts : List ℕ)
    → IsFlagged u w ws first flags → has_writes u ≡ true → map pages_in ws ≡ counts
    → need u ≡ pages_in w + sum_by (λ n. n) (flagged counts flags)

-- The flushes of the files that get a new version have as many places as the update needs blocks.
abbrev pub NeedIsPlaced : Type 0
NeedIsPlaced =
    (scene : Scene) (u : Update) (rs : List Renewal) → renewed_works u ≡ works_of rs
    → ((i : ℕ) (r : Renewal) → slice_get rs i ≡ Some r
    → HasDraft scene r.work r.root r.draft × IsPlaced r.draft r.plan.placed)
    → need u ≡ length (places_of rs)

-- ---- a write beside a flush

-- A flush is what it was after a block was written that is none of its own.
abbrev pub FlushStaysBeside : Type 0
FlushStaysBeside =
    (old new : Scene) (k : ℕ) (d : View) (base : Base) (plan : Plan) (block : ℕ)
    → IsFlushing old k d base plan
    → ((n : ℕ) → IsHeldBy old k n → IsHeldBy new k n)
    → SameOthers block old.content new.content → is_block_of plan.placed block ≡ false
    → IsFlushing new k d base plan

-- The client's blocks of one flush and those of others, each counted upwards from one of them on,
-- are apart: one part ends before the other begins.
abbrev pub AreBeside : ℕ → ℕ → ℕ → ℕ → Type 0
AreBeside start many from count = (start + many ≤ from) ⊎ (from + count ≤ start)

-- So flushes that are done stay done while another one, in blocks apart from theirs, has its next
-- block written, where every version is there again and the client holds what it held.
abbrev pub RenewedStay : Type 0
RenewedStay =
    (old new : Scene) (k start from : ℕ) (rs : List Renewal) (d : View) (base : Base)
    (plan more : Plan) (block : ℕ) (bytes : List ℕ)
    → AllByRecursion (IsRenewed old k) rs
    → AreHeldFrom old.states k start rs → AreHeld old.states k from plan.placed
    → AreBeside start (length (places_of rs)) from (length plan.placed)
    → GivesNext d base plan more block bytes
    → KeepsVersions old new → ((n : ℕ) → IsHeldBy old k n → IsHeldBy new k n)
    → SameOthers block old.content new.content
    → AllByRecursion (IsRenewed new k) rs

-- They stay done, too, where another client's turn left the client what it relies on.
abbrev pub RenewedAreLeft : Type 0
RenewedAreLeft =
    (k : ℕ) (old new : Scene) (rs : List Renewal) → Leaves k old new
    → ((i : ℕ) (r : Renewal) → slice_get rs i ≡ Some r → IsOn old.standing k r.work)
    → AllByRecursion (IsRenewed old k) rs → AllByRecursion (IsRenewed new k) rs

-- ---- the blocks that a client holds

-- In two maps a client holds the same blocks: each that it holds in the one it holds in the other,
-- and no more.
pub record HoldsAlike (k : ℕ) (old new : List BlockState) : Type 0 where
  pub each : (n : ℕ) → state_at old n ≡ Held k → state_at new n ≡ Held k
  pub count : held_count k new ≡ held_count k old

-- So it is in the maps of two scenes, where the client is left what it relies on.
abbrev pub LeftHoldsAlike : Type 0
LeftHoldsAlike =
    (k : ℕ) (old new : Scene)
    → 1 ≤ k → held_count k old.states ≡ held_by old.standing k → IsShared new
    → Leaves k old new → HoldsAlike k old.states new.states

-- The places of a flush are those blocks in the one map, counted upwards, as they are in the other,
abbrev pub HeldStays : Type 0
HeldStays =
    (k from : ℕ) (old new : List BlockState) (placed : List Placed) → HoldsAlike k old new
    → AreHeld old k from placed → AreHeld new k from placed

-- and so are those of several flushes.
abbrev pub HeldFromStays : Type 0
HeldFromStays =
    (k from : ℕ) (old new : List BlockState) (rs : List Renewal) → HoldsAlike k old new
    → AreHeldFrom old k from rs → AreHeldFrom new k from rs
