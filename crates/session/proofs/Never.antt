-- A turn that stops before it does anything, where that never comes.
use Rattle.std.proofs.Common.{◌≡◌, inl, ℕ, refl, arith}
use Rattle.page_codec.specs.declared.why.Why.{Why}
use Rattle.pair_store.specs.declared.store.Blocks.{Ghosts}
use Rattle.script_text.specs.ScriptValue.{ScriptValue}
use Rattle.session.specs.Calls.{IsLost, IsReady, Own, TurnCall}
use Rattle.session.specs.declared.common.Common.{Common}
use Rattle.session.specs.declared.course.Course.{Course}
use Rattle.session.specs.declared.turned.Fault.TheVariants as fault
use Rattle.session.specs.declared.turned.Turned.TheVariants as turned
use Rattle.session.proofs.Calling.{keeps_refl}

-- a client that is in no scene stops the run at a block that does not hold what its place says
pub never_call : {D : Type 0} (b : Ghosts D) (own : Own) (script : ScriptValue) (c : Common D) (s : Course) (block : ℕ) (why : Why)
    → IsReady b script c s → (b.tells → IsLost b own script c s) → TurnCall b own script c c s s (turned.Stopped (fault.Bad block why))
never_call b own script c s block why ready lost = record {
  store = ready.store;
  safe = ready.safe;
  numbers = keeps_refl b c s.client;
  client = refl;
  entries = omega arith;
  lines = refl;
  counts = tt;
  rest = tt;
  counted = inl refl;
  stopped = λ h stops. (let other : fault.Bad block why ≡ fault.Drive h = cc stops in absurd (cc other));
  turns = λ told opening scripts first scene at. lost told opening scripts first scene at;
}
