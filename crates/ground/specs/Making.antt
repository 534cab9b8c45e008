-- What a run begins with.
use Rattle.std.specs.Prelude.{◌≡◌, ℕ, suc, ◌*◌, List, [], length, sum_by, Some, None, slice_get}
use Rattle.recovery.specs.declared.opened.OpenedOver.{OpenedOver}
use Rattle.script_text.specs.ScriptValue.{ScriptValue}
use Rattle.service_model.specs.Standing.{Scripts}
use Rattle.session.specs.Built.{AreBuilt}
use Rattle.session.specs.Sessions.{IsNewcomer}
use Rattle.session.specs.declared.session.Session.{Session}
use Rattle.ground.specs.Runs.{GroundValue, journal_in, own_merges_in, scripts_in, scripts_of, store_in}
use Rattle.ground.specs.Turning.{replies_of}

-- The lines of these scripts are all such as clients play.
abbrev pub AreAllBuilt : Scripts → Type 0
AreAllBuilt scripts =
    (i : ℕ) (script : ScriptValue) → slice_get scripts i ≡ Some script → AreBuilt script

-- These are the clients of these scripts, client 1 first, none of which has begun its script.
pub record AreNewcomers (scripts : Scripts) (sessions : List Session) : Type 0 where
  pub are : scripts_of sessions ≡ scripts
  pub fresh : (i : ℕ) (s : Session) → slice_get sessions i ≡ Some s
      → IsNewcomer (suc i) s.script s

-- How many entries the clients of these scripts may note: four for each line.
abbrev pub room_for : Scripts → ℕ
room_for scripts = sum_by (λ (script : ScriptValue). 4 * length script.lines) scripts

-- The run of these scripts over a store that was opened has made no turn, and no client merged.
pub record HasBegun {D : Type 0} (o : OpenedOver D) (scripts : Scripts)
    (g : GroundValue D) : Type 0 where
  pub opened : g.opened ≡ o
  pub scripts_are : scripts_in g ≡ scripts
  pub store : store_in g ≡ o.store
  pub entries : (journal_in g).entries.items ≡ []
  pub doubt : (journal_in g).doubt ≡ None
  pub fault : g.fault ≡ None
  pub replies : (k : ℕ) → replies_of g k ≡ []
  pub merges : own_merges_in g ≡ 0
