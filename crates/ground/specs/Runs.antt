-- What contracts see of a run of clients.
use Rattle.std.specs.Prelude.{ℕ, ◌-◌, ◌^◌, List, map, min, Option, sum_by}
use Rattle.recovery.specs.declared.opened.OpenedOver.{OpenedOver}
use Rattle.service_model.specs.declared.journal.Entry.{Entry}
use Rattle.service_model.specs.declared.journal.Journal.{Journal}
use Rattle.service_model.specs.Standing.{Scripts}
use Rattle.session.specs.Opening.{told_of}
use Rattle.session.specs.declared.common.Common.{Common}
use Rattle.session.specs.declared.session.Session.{Session}
use Rattle.session.specs.declared.turned.Fault.{Fault}

-- The store as it was opened, what the clients share, the clients, client 1 first, and the fault
-- that stopped the run.
pub record GroundValue (D : Type 0) : Type 0 where
  pub opened : OpenedOver D
  pub common : Common D
  pub sessions : List Session
  pub fault : Option Fault

-- The scripts of these clients.
abbrev pub scripts_of : List Session → Scripts
scripts_of sessions = map (λ (s : Session). s.script) sessions

-- The run's scripts, what it did so far, and its store.
abbrev pub scripts_in : {D : Type 0} → GroundValue D → Scripts
scripts_in g = scripts_of g.sessions

abbrev pub journal_in : {D : Type 0} → GroundValue D → Journal
journal_in g = g.common.log.journal

abbrev pub entries_in : {D : Type 0} → GroundValue D → List Entry
entries_in g = g.common.log.journal.entries.items

abbrev pub store_in : {D : Type 0} → GroundValue D → D
store_in g = g.common.store

-- The serials of the first and of the last version that is known to be kept of each object, object
-- 1 first, where it is live.
abbrev pub told_in : {D : Type 0} → GroundValue D → List (Option (ℕ × ℕ))
told_in g = told_of g.common.heads.items

-- How many pairs of pages the clients merged themselves, a number that stands still at its last
-- value.
abbrev pub own_merges_in : {D : Type 0} → GroundValue D → ℕ
own_merges_in g = min (sum_by (λ (s : Session). s.merges) g.sessions) (2 ^ 64 - 1)
