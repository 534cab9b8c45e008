-- What an opening does, and what it answers: no file that is found changes, and the links that a
-- commit left outstanding are set.
use Rattle.std.specs.Prelude.{◌≡◌, ◌⊎◌, ℕ, ◌+◌, ◌-◌, ◌^◌, ◌<◌, ◌≤◌, min, true, false, nat_eq, List, [], length, map, Option, Some, option_map, Result, Ok, Err, slice_get}
use Rattle.std.specs.List.{list_any}
use Rattle.drives.specs.declared.device.Half.{Half}
use Rattle.drives.specs.Faults.{HasFailed}
use Rattle.tree_model.specs.States.{State}
use Rattle.page_codec.specs.Values.{TableValue}
use Rattle.block_map.specs.declared.states.BlockState.{BlockState}
use Rattle.block_map.specs.States.{free_count}
use Rattle.afs_base.specs.declared.head.Head.{Head}
use Rattle.store_model.specs.Walk.{Refused}
use Rattle.store_model.specs.Laid.{LaidVersion, LaidFile, last_laid}
use Rattle.store_model.specs.Members.{names_none}
use Rattle.store_model.specs.Changes.{IsLinked}
use Rattle.store_model.specs.Found.{LaidStore, laid, found}
use Rattle.store_check.specs.Checked.{AreSettled, LikeTable}
use Rattle.store_check.specs.Files.{first_serial, kept_by}
use Rattle.store_check.specs.Counts.{parts_in, kept_in}
use Rattle.store_check.specs.Marks.{Marks}
use Rattle.store_check.specs.Results.{Outcome}
use Rattle.page_codec.specs.declared.why.Why.TheVariants.{Closed}
use Rattle.pair_store.specs.declared.on_halves.Pair.{Pair}
use Rattle.pair_store.specs.declared.store.Blocks.{Ghosts}
use Rattle.pair_store.specs.declared.fault.PairFault.{PairFault}
use Rattle.pair_store.specs.declared.fault.PairFault.TheVariants.{ReadFault as Unread, WriteFault as Unwritten, BothClosed, BadPage}
use Rattle.store_check.specs.declared.refused.WalkRefused.{WalkRefused}
use Rattle.store_check.specs.declared.refused.WalkRefused.TheVariants.{ReadFault as Unchecked, BadStore as BadCheck, Memory as NoMemory}
use Rattle.recovery.specs.declared.opened.Opened.{Opened}
use Rattle.recovery.specs.declared.opened.OpenedOver.{OpenedOver}
use Rattle.recovery.specs.declared.opened.Unopened.{Unopened}
use Rattle.recovery.specs.declared.opened.UnopenedOver.{UnopenedOver}
use Rattle.recovery.specs.declared.refused.OpenRefused.{OpenRefused}
use Rattle.recovery.specs.declared.refused.OpenRefused.TheVariants.{ReadFault, WriteFault, BadStore, Memory}

-- why a store is not opened, where the check refused it, and where a call on a block did
abbrev pub refused_check : WalkRefused → OpenRefused
refused_check (Unchecked half) = ReadFault half
refused_check (BadCheck block why) = BadStore block why
refused_check NoMemory = Memory

abbrev pub refused_call : PairFault → OpenRefused
refused_call (Unread half) = ReadFault half
refused_call (Unwritten half) = WriteFault half
refused_call (BothClosed block) = BadStore block Closed
refused_call (BadPage block why) = BadStore block why

-- what a call on a block came to
abbrev pub called : {T : Type 0} → Result T PairFault → Result (Unit {0}) OpenRefused
called (Ok x) = Ok tt
called (Err fault) = Err (refused_call fault)

-- the drives that come back
abbrev pub drives_of : {V : Type 0} → Result (Opened V) (Unopened V) → V
drives_of (Ok o) = o.pair.drives
drives_of (Err e) = e.drives

-- the store of blocks that comes back
abbrev pub store_of : {B : Type 0} → Result (OpenedOver B) (UnopenedOver B) → B
store_of (Ok o) = o.store
store_of (Err e) = e.store

-- the same of two halves, which give their drives back, opened at this moment
abbrev pub pair_result : {V : Type 0} → Result (OpenedOver (Pair V)) (UnopenedOver (Pair V)) → ℕ
    → Result (Opened V) (Unopened V)
pair_result (Ok o) since =
    Ok (record { pair = o.store; table = o.table; map = o.map; heads = o.heads; since = since })
pair_result (Err e) since = Err (record { drives = e.store.drives; why = e.why })

-- a store that was opened on two halves, as one over their pair
abbrev pub over_of : {V : Type 0} → Opened V → OpenedOver (Pair V)
over_of o =
    record { store = o.pair; table = o.table; map = o.map; heads = o.heads; since = o.since }

-- on halves of so many blocks the first contents and the second ones stand for the same files, or
-- for none for the same cause
abbrev pub SameFound : ℕ → (ℕ → Option (List ℕ)) → (ℕ → Option (List ℕ)) → Type 0
SameFound most f g = found g most ≡ found f most

-- what is told of the versions of a file: the block of the last one, the serials of the first and
-- the last one, and how many blocks they hold
abbrev pub head_of : List LaidVersion → Option Head
head_of versions =
    option_map
    (λ last. record {
      block = last.block;
      first = first_serial versions;
      serial = last.serial;
      kept = kept_by versions;
    })
    (last_laid versions)

-- the same for each object, live or not
abbrev pub heads_of : List LaidFile → List (Option Head)
heads_of files = map (λ file. head_of file.versions) files

-- the last version of a file names no members
abbrev pub NamesNone : LaidFile → Type 0
NamesNone file = (version : LaidVersion) → last_laid file.versions ≡ Some version
    → names_none version ≡ true

-- the store with all links set: each version that another one follows names it, and no last version
-- names members
abbrev pub IsRolled : LaidStore → Type 0
IsRolled store = (k : ℕ) (file : LaidFile) → slice_get store.files k ≡ Some file → IsLinked file
    × NamesNone file

-- A store was opened: these contents stand for it, and its table, the map of its blocks and its
-- heads are these. A block is free, or it is block 0, a part of the table, or a page of one
-- version's own.
pub record IsOpened (content : ℕ → Option (List ℕ)) (most : ℕ) (kept : TableValue)
    (states : List BlockState) (told : List (Option Head)) : Type 0 where
  pub store : LaidStore
  pub places : List ℕ
  pub laid : laid content most [] ≡ Ok (store, places)
  pub table : LikeTable kept store
  pub size : length states ≡ store.root.blocks
  pub marks : Marks places states
  pub heads : told ≡ heads_of store.files
  pub rolled : IsRolled store
  pub free : free_count states + 1 + parts_in store.root + kept_in store.files ≡ store.root.blocks

-- a bad store is none that is found: this is its first cause, and its block
abbrev pub IsBad : Result State Refused → OpenRefused → Type 0
IsBad outcome (ReadFault half) = Unit {0}
IsBad outcome (WriteFault half) = Unit {0}
IsBad outcome (BadStore block why) = outcome ≡ Err (record { block = block; why = why })
IsBad outcome Memory = Unit {0}

-- these contents stand for no store
abbrev pub IsNoStore : (ℕ → Option (List ℕ)) → ℕ → Type 0
IsNoStore content most = (e : Refused) × (found content most ≡ Err e)

-- The half failed in this call. Its last fault was in the last call of a device; or, where there is
-- no store, in a read of half B that was the last but one, after which half A was read and found
-- closed.
pub record IsFailed (faults faults_after last_after : Half → ℕ) (moment_after : ℕ)
    (NoStore : Type 0) (h : Half) : Type 0 where
  pub failed : HasFailed (faults h) (faults_after h) (last_after h)
  pub last : (last_after h ≡ moment_after) ⊎ ((moment_after ≡ min (last_after h + 1) (2 ^ 64 - 1))
      × NoStore)

-- A store that tells its contents, whose blocks are settled as a check of it needs them; and in
-- everything that a crash may leave too.
abbrev pub IsReadable : {D : Type 0} → Ghosts D → D → Type 0
IsReadable b d = b.tells × AreSettled (b.settled d) (b.content d) (b.size d)

abbrev pub IsReadableAlways : {D : Type 0} → Ghosts D → D → Type 0
IsReadableAlways b d = b.tells × AreSettled (b.settled_always d) (b.content d) (b.size d)

-- a block that is no place of what is found: no part of the table and no page of a version, or
-- there is no store
abbrev pub IsNoPlace : Outcome LaidStore → ℕ → Type 0
IsNoPlace (Ok laid) n = list_any (nat_eq n) laid.1 ≡ false
IsNoPlace (Err e) n = Unit {0}

-- all blocks that are no places have their contents
abbrev pub SameBeside : Outcome LaidStore → (ℕ → Option (List ℕ)) → (ℕ → Option (List ℕ)) → Type 0
SameBeside outcome f g = (n : ℕ) → IsNoPlace outcome n → g n ≡ f n

-- A store as an opening left it: its blocks are settled, in everything that a crash may leave too,
-- and each crash from the moment `since` on leaves the files that are found now.
pub record IsOpening {D : Type 0} (b : Ghosts D) (o : OpenedOver D) : Type 0 where
  pub opened : IsOpened (b.content o.store) (b.size o.store) o.table o.map o.heads.items
  pub settled : (n : ℕ) → n < length o.map → b.settled o.store n
  pub always : (n : ℕ) → n < length o.map → b.settled_always o.store n
  pub before : o.since ≤ b.moment o.store
  pub since : (t : ℕ) (f : ℕ → Option (List ℕ)) → o.since ≤ t → t ≤ b.moment o.store
      → b.may_leave o.store t f
      → SameFound (b.size o.store) (b.content o.store) f

-- The moment `since` may be earlier, where each crash in between leaves the files that are found
-- now too.
abbrev pub SinceMayBeEarlier : {D : Type 0} → Ghosts D → Type 0
SinceMayBeEarlier {D} b =
    (o : OpenedOver D) (early : ℕ) → IsOpening b o → early ≤ o.since
    → ((t : ℕ) (f : ℕ → Option (List ℕ)) → early ≤ t → t < o.since → b.may_leave o.store t f
    → SameFound (b.size o.store) (b.content o.store) f)
    → IsOpening b (record o { since = early })
