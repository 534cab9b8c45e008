-- The commit of an update of several files as it writes pages: which file is written when, in which blocks, and how far it has come.
use Rattle.std.specs.Prelude.{◌≡◌, ℕ, ◌+◌, ◌<◌, ◌≤◌, ◌^◌, List, [], ◌∷◌, ◌++◌, ◌⊎◌, map, drop, length, slice_get, slice_set, slice_index, Some, MatchOption}
use Rattle.std.specs.List.{AllByRecursion}
use Rattle.std.specs.Option.{option_map_or}
use Rattle.block_map.specs.States.{held_count}
use Rattle.block_map.specs.declared.states.BlockState.{BlockState}
use Rattle.block_map.specs.declared.states.BlockState.TheVariants.{Held}
use Rattle.page_codec.specs.Values.{MemberValue}
use Rattle.tree_model.specs.Accesses.{written_paths}
use Rattle.draft_model.specs.Entries.{fresh_paths}
use Rattle.draft_model.specs.Flush.{Placed, IsPlaced, block_of}
use Rattle.version_chain.specs.Flush.{Plan, Base, base_of, paths_of, AreHeld, StartsAtRoot, GivesNext}
use Rattle.pool_draft.specs.declared.pool_set.PoolSet.{PoolSet}
use Rattle.pool_draft.specs.Held.{tree_of}
use Rattle.pool_draft.specs.Roots.{root_in, object_in, serial_in}
use Rattle.pool_draft.specs.Sets.{base_at, roots_of, view_at}

-- a commit under way: the numbers of the drafts that get a new version, the first one at the head; the files behind it that are written
-- already; where the blocks of the file behind the first that is being written begin, among those that are held; and the flush of the
-- file that is being written
pub record Joint : Type 0 where
  pub numbers : List ℕ
  pub members : List MemberValue
  pub from : ℕ
  pub flush : Plan

-- one file that gets a new version: the number of its draft, and the plan of its flush
pub record Part : Type 0 where
  pub number : ℕ
  pub plan : Plan

-- ---- the drafts

-- the paths that are written of the draft of a number
abbrev pub paths_at : PoolSet → ℕ → List (List ℕ)
paths_at set number = written_paths (fresh_paths (tree_of set.pages number))

-- how many pages are written of the drafts of these numbers
abbrev pub pages_in : PoolSet → List ℕ → ℕ
pages_in set [] = 0
pages_in set (number ∷ numbers) = length (paths_at set number) + pages_in set numbers

-- the version that the draft of a number is based on
abbrev pub base_in : PoolSet → ℕ → Base
base_in set number = base_of (root_in (base_at set number)) (object_in (base_at set number)) (serial_in (base_at set number))

-- a draft has this number, and its file's serial can be raised
abbrev pub IsReadyNumber : PoolSet → ℕ → Type 0
IsReadyNumber set number = (number < roots_of set) × (serial_in (base_at set number) + 1 < 2 ^ 64)

-- ---- the parts

-- the places are those of the pages that are written of the draft of this number, `/` first
pub record IsPart (set : PoolSet) (part : Part) : Type 0 where
  pub number : part.number < roots_of set
  pub paths : paths_of part.plan.placed ≡ paths_at set part.number
  pub placed : IsPlaced (view_at set part.number) part.plan.placed
  pub starts : StartsAtRoot part.plan.placed

-- the places of these parts are blocks that the client holds, one part after the other, the first from the block at `from` on, counting
-- upwards
abbrev pub AreHeldInTurn : List BlockState → ℕ → ℕ → List Part → Type 0
AreHeldInTurn states client from [] = Unit {0}
AreHeldInTurn states client from (part ∷ parts) =
    AreHeld states client from part.plan.placed × AreHeldInTurn states client (from + length part.plan.placed) parts

-- the member is the file of this part, with the block of its version page
abbrev pub IsNamed : PoolSet → MemberValue → Part → Type 0
IsNamed set member part =
    (member.object ≡ object_in (base_at set part.number)) × (block_of part.plan.placed [] ≡ Some member.block)

-- the members are the files of these parts, in their order
abbrev pub AreNamed : PoolSet → List MemberValue → List Part → Type 0
AreNamed set [] [] = Unit {0}
AreNamed set [] (part ∷ parts) = ⊥
AreNamed set (member ∷ members) [] = ⊥
AreNamed set (member ∷ members) (part ∷ parts) = IsNamed set member part × AreNamed set members parts

-- all blocks of the part were given out, or none of them was
abbrev pub IsWhole : Part → Type 0
IsWhole part = part.plan.written ≡ length part.plan.placed

abbrev pub IsUnbegun : Part → Type 0
IsUnbegun part = part.plan.written ≡ 0

-- this part is being written, from the block at `from` on, and the others wait
pub record IsUnderWay (j : Joint) (from : ℕ) (part : Part) (others : List Part) : Type 0 where
  pub place : j.from ≡ from
  pub flush : j.flush ≡ part.plan
  pub left : part.plan.written < length part.plan.placed
  pub wait : AllByRecursion IsUnbegun others

-- How far it has come, over the members that are left to look at and the parts behind the first: a part of a member is whole, the next one
-- is being written, and the others wait; behind all of them the first part, the top, is.
abbrev pub HasCome : PoolSet → Joint → Part → ℕ → List MemberValue → List Part → Type 0
HasCome set j top from [] [] = (j.from ≡ from) × (j.flush ≡ top.plan)
HasCome set j top from [] (part ∷ parts) = IsUnderWay j from part (top ∷ parts)
HasCome set j top from (member ∷ members) [] = ⊥
HasCome set j top from (member ∷ members) (part ∷ parts) =
    IsWhole part × IsNamed set member part × HasCome set j top (from + length part.plan.placed) members parts

-- The parts of the commit, the top and those behind it: each has its pages in blocks that the client holds, the top's first; the top's
-- version page names the others as its members, and these name none.
pub record AreParts (set : PoolSet) (states : List BlockState) (client : ℕ) (j : Joint) (top : Part) (behind : List Part) : Type 0 where
  pub numbers : map (λ (part : Part). part.number) (top ∷ behind) ≡ j.numbers
  pub each : AllByRecursion (IsPart set) (top ∷ behind)
  pub held : AreHeldInTurn states client 0 (top ∷ behind)
  pub named : AreNamed set top.plan.members behind
  pub none : AllByRecursion (λ (part : Part). part.plan.members ≡ []) behind
  pub come : HasCome set j top (length top.plan.placed) j.members behind

abbrev pub IsJoint : PoolSet → List BlockState → ℕ → Joint → List Part → Type 0
IsJoint set states client j [] = ⊥
IsJoint set states client j (top ∷ behind) = AreParts set states client j top behind

-- ---- one block more

-- the next block of one part was given out, with its bytes; the others are as they were
pub record GivesPart (old new : PoolSet) (states : List BlockState) (client : ℕ) (parts : List Part) (j : Joint) (block : ℕ) (bytes : List ℕ) : Type 0 where
  pub index : ℕ
  pub part : Part
  pub plan : Plan
  pub at : slice_get parts index ≡ Some part
  pub gives : GivesNext (view_at old part.number) (base_in old part.number) part.plan plan block bytes
  pub joint : IsJoint new states client j (slice_set parts index (record { number = part.number; plan = plan }))

-- all blocks of all parts were given out, and nothing changes
pub record IsAllGiven (parts : List Part) (old new : Joint) (before after : List ℕ) : Type 0 where
  pub all : AllByRecursion IsWhole parts
  pub same : new ≡ old
  pub bytes : after ≡ before

-- ---- what can be told with no parts

-- the numbers of the top's draft, and of that of the file that is being written
abbrev pub top_of : Joint → ℕ
top_of j = slice_index j.numbers 0

abbrev pub current_of : Joint → ℕ
current_of j = option_map_or (λ number. number) (slice_get j.numbers (length j.members + 1)) (top_of j)

-- each place is a block that the client holds
abbrev pub AreHeldBlocks : List BlockState → ℕ → List Placed → Type 0
AreHeldBlocks states client placed = (k : ℕ) (x : Placed) → slice_get placed k ≡ Some x → slice_get states x.block ≡ Some (Held client)

-- The next block can be given out, and so on until all are: the flush is one of the draft whose turn it is, and enough blocks are held for
-- the files that are not planned yet.
pub record IsReadyJoint (set : PoolSet) (states : List BlockState) (client : ℕ) (j : Joint) : Type 0 where
  pub numbers : AllByRecursion (IsReadyNumber set) j.numbers
  pub part : IsPart set (record { number = current_of j; plan = j.flush })
  pub held : AreHeldBlocks states client j.flush.placed
  pub room : j.from + pages_in set (drop (length j.members + 1) j.numbers) ≤ held_count client states
  pub top_room : length (paths_at set (top_of j)) ≤ held_count client states

-- ---- from one file to the next

-- the plan is a flush of the draft of this number that is not begun, in blocks that the client holds, from the one at `from` on
pub record IsPlanned (set : PoolSet) (states : List BlockState) (client from : ℕ) (named : List MemberValue) (number : ℕ) (plan : Plan) : Type 0 where
  pub part : IsPart set (record { number = number; plan = plan })
  pub held : AreHeld states client from plan.placed
  pub members : plan.members ≡ named
  pub start : plan.written ≡ 0

-- the plan is that of the file behind these members: of the next one, where there is one, and else of the top
abbrev pub IsNextPlan : PoolSet → List BlockState → ℕ → List ℕ → List MemberValue → ℕ → Plan → Type 0
IsNextPlan set states client numbers members from plan =
    MatchOption (slice_get numbers (length members + 1))
    (IsPlanned set states client 0 members (slice_index numbers 0) plan)
    (λ number. IsPlanned set states client from [] number plan)

-- a file behind the first is written whole
abbrev pub IsOver : Joint → Type 0
IsOver j = (length j.members + 1 < length j.numbers) × (j.flush.written ≡ length j.flush.placed)

-- that file is a member now, and the next one is planned
pub record IsMoved (set : PoolSet) (states : List BlockState) (client : ℕ) (old new : Joint) : Type 0 where
  pub member : MemberValue
  pub numbers : new.numbers ≡ old.numbers
  pub members : new.members ≡ old.members ++ member ∷ []
  pub named : IsNamed set member (record { number = current_of old; plan = old.flush })
  pub from : new.from ≡ old.from + length old.flush.placed
  pub next : IsNextPlan set states client new.numbers new.members new.from new.flush

-- it goes on to the next file exactly where one behind the first is written whole
abbrev pub MovesOn : PoolSet → List BlockState → ℕ → Joint → Joint → Type 0
MovesOn set states client old new = ((IsOver old → ⊥) × (new ≡ old)) ⊎ (IsOver old × IsMoved set states client old new)
