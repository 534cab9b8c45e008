-- The locks that stand: who took which, in the order in which they were taken.
use Rattle.std.specs.Prelude.{◌≡◌, ℕ, ◌≤◌, ◌==◌, Bool, true, not, ◌&&◌, nat_le, List, filter, count_by}
use Rattle.std.specs.List.{list_any, list_all}
use Rattle.super_files.specs.declared.locks.Lock.{Lock}

-- a lock is this client's
abbrev pub is_of : ℕ → Lock → Bool
is_of client lock = lock.client == client

-- a lock is on this object
abbrev pub is_on : ℕ → Lock → Bool
is_on object lock = lock.object == object

-- how many locks a client holds
abbrev pub held_count : ℕ → List Lock → ℕ
held_count client locks = count_by (is_of client) locks

-- a client holds a lock of an object, top or inner
abbrev pub Holds : ℕ → ℕ → List Lock → Type 0
Holds client object locks = list_any (λ lock. is_of client lock && is_on object lock) locks ≡ true

-- nobody else holds a lock of the object
abbrev pub IsOpenTo : ℕ → ℕ → List Lock → Type 0
IsOpenTo client object locks = (other : ℕ) → Holds other object locks → other ≡ client

-- the locks of all other clients
abbrev pub without : ℕ → List Lock → List Lock
without client locks = filter (λ lock. not (is_of client lock)) locks

-- no object is held by two clients, each client from 1 to 16 has at most seventeen locks, and there are no others
pub record AreLocks (locks : List Lock) : Type 0 where
  pub exclusive : (j k object : ℕ) → Holds j object locks → Holds k object locks → j ≡ k
  pub most : (k : ℕ) → held_count k locks ≤ 17
  pub clients : list_all (λ lock. nat_le 1 lock.client && nat_le lock.client 16) locks ≡ true
