-- A lease of the frames from `first` on, each of which is out or not.
use Rattle.std.specs.Prelude.{◌≡◌, ℕ, ◌+◌, ◌-◌, ◌*◌, ◌≤◌, ◌<◌, Bool, true, false, not, List, [], length, count_by, replicate, slice_get, slice_index_or, slice_set, take, Some, refl}
use Rattle.std.specs.Coded.{Coded, code_by, coded×, coded_list, coded_ℕ, coded_bool}

pub record Leased : Type 0 where
  pub first : ℕ
  pub taken : List Bool

abbrev pub leased : ℕ → List Bool → Leased
leased first taken = record { first = first; taken = taken }

abbrev pub leased_code : Coded Leased
leased_code = code_by (ℕ × List Bool) (coded× coded_ℕ (coded_list coded_bool)) (λ l. (l.first, l.taken)) (λ p. leased p.0 p.1) (λ _. refl)

-- the k-th 1,024 frames, none of which is out
abbrev pub unused_run : ℕ → Leased
unused_run k = leased (1024 * k) (replicate 1024 false)

-- how many frames it can still give
abbrev pub left : Leased → ℕ
left l = count_by not l.taken

-- the first so many are all out
abbrev pub AreOut : ℕ → List Bool → Type 0
AreOut n taken = count_by not (take n taken) ≡ 0

-- the frame is one of the lease, and out
pub record IsOut (l : Leased) (frame : ℕ) : Type 0 where
  pub from : l.first ≤ frame
  pub below : frame < l.first + length l.taken
  pub out : slice_index_or l.taken (frame - l.first) false ≡ true

-- the frame is one of the lease, and not out
pub record IsIn (l : Leased) (frame : ℕ) : Type 0 where
  pub from : l.first ≤ frame
  pub below : frame < l.first + length l.taken
  pub home : slice_index_or l.taken (frame - l.first) false ≡ false

-- the lease after the frame was taken out, and after it was put back
abbrev pub taken_out : Leased → ℕ → Leased
taken_out l frame = leased l.first (slice_set l.taken (frame - l.first) true)

abbrev pub put_back : Leased → ℕ → Leased
put_back l frame = leased l.first (slice_set l.taken (frame - l.first) false)

-- its frames are frames of a pool of so many
abbrev pub IsOf : Leased → ℕ → Type 0
IsOf l frames = l.first + length l.taken ≤ frames

-- which lease comes next, of how many
pub record Waiting : Type 0 where
  pub next : ℕ
  pub clients : ℕ

abbrev pub waiting : ℕ → ℕ → Waiting
waiting next clients = record { next = next; clients = clients }

-- these are the leases from the last on, nothing of which is out and in which no rows are noted
abbrev pub AreUnused : {T R : Type 0} → (T → Leased) → (T → List R) → ℕ → List T → Type 0
AreUnused run_of rows_of clients rest = (i : ℕ) (l : _) → slice_get rest i ≡ Some l → (run_of l ≡ unused_run (clients - (i + 1))) × (rows_of l ≡ [])
