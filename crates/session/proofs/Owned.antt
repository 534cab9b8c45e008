-- A turn of a client that has one thing of its own where it has another; and of one that is in no scene.
use Rattle.std.proofs.Common.{◌≡◌, ◌⊎◌, inl, inr, ℕ, ◌+◌, ◌-◌, ◌^◌}
use Rattle.std.specs.Prelude.{min}
use Rattle.pair_store.specs.declared.store.Blocks.{Ghosts}
use Rattle.script_text.specs.ScriptValue.{ScriptValue}
use Rattle.service_model.specs.Standing.{Scripts}
use Rattle.tree_model.specs.States.{State}
use Rattle.ground_model.specs.Scenes.{Scene}
use Rattle.session.specs.Calls.{IsIn, IsLost, Own, StopsBecause, TurnCall}
use Rattle.session.specs.declared.common.Common.{Common}
use Rattle.session.specs.declared.course.Course.{Course}
use Rattle.session.specs.declared.turned.Turned.{Turned}

-- wherever a client has the first of its own it has the second
abbrev pub Owns : {D : Type 0} → Ghosts D → Own → Own → ScriptValue → Common D → Course → Type 0
Owns b own mine script c s =
    (opening : State) (scripts : Scripts) (first : ℕ) (scene : Scene) → IsIn b own script c s opening scripts first scene → mine scripts scene script s

module _ {D : Type 0} (b : Ghosts D) (own mine : Own) (script : ScriptValue) (c c' : Common D) (s s' : Course) (result : Turned) (owns : b.tells → Owns b own mine script c s)
    (call : TurnCall b mine script c c' s s' result) where
  lost_too : b.tells → IsLost b mine script c s → IsLost b own script c s
  lost_too told none opening scripts first scene is = none opening scripts first scene (record { stands = is.stands; mine = owns told opening scripts first scene is })

  stops_too : StopsBecause b own script c c' s result
  stops_too h is = record { failed = (call.stopped h is).failed; last = by (call.stopped h is).last }
    where
      by : (b.last_fault c'.store h ≡ b.moment c'.store) ⊎ ((b.moment c'.store ≡ min (b.last_fault c'.store h + 1) (2 ^ 64 - 1)) × (b.tells → IsLost b mine script c s))
          → (b.last_fault c'.store h ≡ b.moment c'.store) ⊎ ((b.moment c'.store ≡ min (b.last_fault c'.store h + 1) (2 ^ 64 - 1)) × (b.tells → IsLost b own script c s))
      by (inl e) = inl e
      by (inr (e, none)) = inr (e, λ told. lost_too told (none told))

  pub own_call : TurnCall b own script c c' s s' result
  own_call = record {
    store = call.store;
    safe = call.safe;
    numbers = call.numbers;
    client = call.client;
    entries = call.entries;
    lines = call.lines;
    counts = call.counts;
    rest = call.rest;
    counted = call.counted;
    stopped = stops_too;
    turns = λ told opening scripts first scene is. call.turns told opening scripts first scene (record { stands = is.stands; mine = owns told opening scripts first scene is });
  }
