-- What a pass knows, and how a step changes it.
use Rattle.std.specs.Prelude.{ℕ, ◌+◌, ◌==◌, if◌then◌else◌, Some, None}
use Rattle.turn_lock.specs.declared.view.View.{View}
use Rattle.turn_lock.specs.declared.view.Standing.{Standing}
use Rattle.turn_lock.specs.declared.view.Standing.TheVariants.{Idle, Held, Spent}

module _ {N : Type 0} where
  -- the first pass of a lock whose value has this name
  abbrev pub newcomer : N → View N
  newcomer name = record { name = Some name; standing = Idle; tries = 0; read = 0 }

  -- a pass that ended
  abbrev pub spent : View N
  spent = record { name = None; standing = Spent; tries = 0; read = 0 }

  -- the pass does something else, and knows what it knew
  abbrev pub standing : Standing → View N → View N
  standing now v = record { name = v.name; standing = now; tries = v.tries; read = v.read }

  -- after a try that read this word: one try more, and held where the word was 0
  abbrev pub tried : View N → ℕ → View N
  tried v word = record { name = v.name; standing = (if word == 0 then Held else Idle); tries = v.tries + 1; read = word }
