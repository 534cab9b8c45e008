-- What the names of a script grant.
use Rattle.std.specs.Prelude.{◌≡◌, ◌⊎◌, ℕ, ◌-◌, ◌≤◌, Bool, not, ◌&&◌}
use Rattle.std.specs.Prelude.{List, Option, Some, Ok, Err, slice_get}
use Rattle.afs_base.specs.declared.head.Head.{Head}
use Rattle.caps.specs.Tables.{table_grant}
use Rattle.caps.specs.declared.denied.DeniedWhy.{DeniedWhy}
use Rattle.caps.specs.declared.denied.DeniedWhy.TheVariants.{NoObject}
use Rattle.page_codec.specs.Values.{TableValue}
use Rattle.script_text.specs.declared.command.FileName.{FileName}
use Rattle.script_text.specs.declared.command.FileName.TheVariants.{Number, Cap}
use Rattle.service_model.specs.Causes.{object_of, rights_by}
use Rattle.super_files.specs.Locks.{is_of, is_on}
use Rattle.super_files.specs.declared.locks.Lock.{Lock}
use Rattle.session.specs.declared.common.Granted.{Granted}

-- This is told of the last version of an object, which counts from 1.
abbrev pub IsHead : List (Option Head) → ℕ → Head → Type 0
IsHead heads object head = (1 ≤ object) × (slice_get heads (object - 1) ≡ Some (Some head))

-- Nothing is told of it.
abbrev pub HasNoHead : List (Option Head) → ℕ → Type 0
HasNoHead heads object = (head : Head) → IsHead heads object head → ⊥

-- The table does not stand in the way of a name: a number is open to all, and a capability grants
-- reading.
abbrev pub IsAllowed : TableValue → FileName → Type 0
IsAllowed table (Number object) = Unit {0}
IsAllowed table (Cap cap) = table_grant table cap 1 ≡ Ok (object_of (Cap cap))

-- The table is in the way of a capability, for this cause.
abbrev pub IsBarred : TableValue → FileName → DeniedWhy → Type 0
IsBarred table (Number object) why = ⊥
IsBarred table (Cap cap) why = table_grant table cap 1 ≡ Err why

-- A name grants the last version of its object, and these rights.
pub record IsGranted (table : TableValue) (heads : List (Option Head)) (file : FileName)
    (g : Granted) : Type 0 where
  pub allowed : IsAllowed table file
  pub head : IsHead heads (object_of file) g.head
  pub rights : g.rights ≡ rights_by file

-- A name grants nothing: its capability does not, or its object is not live.
abbrev pub IsDenied : TableValue → List (Option Head) → FileName → DeniedWhy → Type 0
IsDenied table heads file why =
    IsBarred table file why
    ⊎ (IsAllowed table file × HasNoHead heads (object_of file) × (why ≡ NoObject))

-- The lock is on this object, and another client's.
abbrev pub is_others : ℕ → ℕ → Lock → Bool
is_others client object lock = is_on object lock && not (is_of client lock)
