-- What contracts say of a lock and its passes.
use Rattle.std.specs.Prelude.{◌≡◌, ℕ, ◌<◌, List, length, slice_index_or, Option, Some}
use Rattle.atomic_table.specs.Seated.{TableId}
use Rattle.turn_lock.specs.declared.lock.Pass.{Pass}
use Rattle.turn_lock.specs.declared.lock.TurnLock.{TurnLock}
use Rattle.turn_lock.specs.declared.named.Named.{Ghosts}
use Rattle.turn_lock.specs.declared.view.Standing.{Standing}
use Rattle.turn_lock.specs.declared.view.Standing.TheVariants.{Idle, Held}
use Rattle.turn_lock.specs.declared.view.View.{View}

-- which lock it is
abbrev pub lock_id : {T N : Type 0} → TurnLock T N → TableId
lock_id l = l.table.shared.table_id

module _ {T N : Type 0} {G : Ghosts T N} where
  -- the lock that a pass is of
  abbrev pub lock_of : Pass T N G → TableId
  lock_of p = p.seat.table_id

  -- all that a pass knows
  abbrev pub view_of : Pass T N G → View N
  view_of p = p.seat.me.0

  -- the name of the locked value
  abbrev pub pass_name : Pass T N G → Option N
  pass_name p = p.seat.me.0.name

  -- what the pass does at the lock
  abbrev pub standing_of : Pass T N G → Standing
  standing_of p = p.seat.me.0.standing

  -- how often the pass tried for the turn
  abbrev pub tries_of : Pass T N G → ℕ
  tries_of p = p.seat.me.0.tries

  -- the word that its last try read
  abbrev pub word_of : Pass T N G → ℕ
  word_of p = p.seat.me.0.read

  -- the pass is of this lock
  abbrev pub IsOf : Pass T N G → TurnLock T N → Type 0
  IsOf p l = lock_of p ≡ lock_id l

  -- the pass is of this lock and holds nothing
  pub record IsIdleAt (p : Pass T N G) (l : TurnLock T N) : Type 0 where
    pub own : IsOf p l
    pub idle : standing_of p ≡ Idle

  -- so is each of these
  abbrev pub AreIdleAt : List (Pass T N G) → TurnLock T N → Type 0
  AreIdleAt passes l = (i : ℕ) (d : Pass T N G) → i < length passes → IsIdleAt (slice_index_or passes i d) l

  -- the pass is of the same lock, and knows the same name
  pub record IsSamePass (old new : Pass T N G) : Type 0 where
    pub own : lock_of new ≡ lock_of old
    pub name : pass_name new ≡ pass_name old

  -- the pass holds, by a try that read 0, and the value has its name
  pub record TakesTurn (old new : Pass T N G) (value : T) : Type 0 where
    pub held : standing_of new ≡ Held
    pub read : word_of new ≡ 0
    pub named : pass_name old ≡ Some (G.name value)
