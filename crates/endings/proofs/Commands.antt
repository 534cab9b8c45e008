-- What follows from how a command ends, and how it is shown.
use Rattle.std.proofs.Common.{◌≡◌, inl, inr, ℕ, Bool, true, false, List, Option, Result, Ok, Err, IsOk, refl, sym, ap, subst, ◌∙◌, true≢false}
use Rattle.std.specs.Str.{bytes_eq}
use Rattle.std.proofs.lemmas.Slice.Eq.{bytes_eq-Decides}
use Rattle.drives.specs.declared.device.Half.{Half}
use Rattle.store_model.specs.Walk.{Refused}
use Rattle.tree_model.specs.States.{State}
use Rattle.endings.specs.Status.{IsDone}
use Rattle.std.specs.Io.KnownBytes.{Appends}
use Rattle.script_text.specs.Front.{AppendsFront}
use Rattle.endings.specs.Commands.{CommandEnds, NothingFailed}
use Rattle.endings.specs.Printing.{DoneEnds, FinishEnds, HaltEnds, Prints}
use Rattle.endings.specs.Texts.{bad_store_text, drive_text, memory_text}
use Rattle.endings.specs.declared.status.Status.{Status}
use Rattle.endings.specs.declared.status.Status.TheVariants.{Success, Usage, BadScript, DriveFault, BadStore, SinkFault, SourceFault, Memory}

-- a result that is an `Err` is no `Ok`
not_ok : (before : Result State Refused) (cause : Refused) → before ≡ Err cause → IsOk before → ⊥
not_ok before cause is ok = true≢false (sym (subst (IsOk {T = State} {E = Refused}) is ok))

-- where a store is found and nothing failed, all is done, or memory ran out
pub command_done : (tells : Type 0) (before : Result State Refused) (failed other : Half → Type 0) (text : State → List ℕ) (old new : Option (List ℕ)) (sink_rose : Type 0) (status : Status)
    → ((h : Half) → failed h → other h) → CommandEnds tells before failed text old new sink_rose status → tells → NothingFailed before other sink_rose → IsDone status
command_done tells before failed other text old new sink_rose Success weaker ends told nothing = tt
command_done tells before failed other text old new sink_rose Usage weaker ends told nothing = ends
command_done tells before failed other text old new sink_rose BadScript weaker ends told nothing = ends
command_done tells before failed other text old new sink_rose DriveFault weaker ends told nothing = nothing.halves ends.0 (weaker ends.0 ends.1)
command_done tells before failed other text old new sink_rose BadStore weaker ends told nothing = not_ok before ends.0 (ends.1 told) nothing.lawful
command_done tells before failed other text old new sink_rose SinkFault weaker ends told nothing = nothing.sink ends.3
command_done tells before failed other text old new sink_rose SourceFault weaker ends told nothing = ends
command_done tells before failed other text old new sink_rose Memory weaker ends told nothing = tt

-- The state whose text is printed: the one that is found, where contents are told, and else any that has this text. Whether they are told
-- cannot be asked, but whether the texts are the same can.
pub shown_state : (tells : Type 0) (before : Result State Refused) (text : State → List ℕ) (printed : List ℕ) (shown : State) → text shown ≡ printed
    → (tells → (state : State) × (before ≡ Ok state) × (text state ≡ printed))
    → (state : State) × (tells → before ≡ Ok state) × (text state ≡ printed)
shown_state tells (Err cause) text printed shown is told = (shown, λ t. absurd (not_ok (Err cause) cause refl (subst (IsOk {T = State} {E = Refused}) (sym (told t).1) refl)), is)
shown_state tells (Ok state) text printed shown is told = of (bytes_eq (text state) printed) refl
  where
    same : (other : State) → (let r : Result State Refused = Ok state in r) ≡ Ok other → text other ≡ printed → text state ≡ printed
    same other e h = let one : state ≡ other = cc in ap text one ∙ h

    of : (b : Bool) → bytes_eq (text state) printed ≡ b → (found : State) × (tells → (let r : Result State Refused = Ok state in r) ≡ Ok found) × (text found ≡ printed)
    of true e = (state, λ t. refl, (bytes_eq-Decides (text state) printed).0 e)
    of false e = (shown, λ t. absurd (true≢false (sym ((bytes_eq-Decides (text state) printed).1 (same (told t).0 (told t).1 (told t).2)) ∙ e)), is)

-- ---- how a command's end is shown
module _ (tells : Type 0) (before : Result State Refused) (failed : Half → Type 0) (text : State → List ℕ) (old new : Option (List ℕ)) (sink_rose : Type 0) where
  -- the status is this one
  with_status : (status wanted : Status) → status ≡ wanted → CommandEnds tells before failed text old new sink_rose wanted → CommandEnds tells before failed text old new sink_rose status
  with_status status wanted is ends = subst (CommandEnds tells before failed text old new sink_rose) (sym is) ends

  finish_command : (printed : List ℕ) (status : Status) → (state : State) × (tells → before ≡ Ok state) × (text state ≡ printed)
      → FinishEnds old new sink_rose printed status → CommandEnds tells before failed text old new sink_rose status
  finish_command printed Success s ends = (s.0, s.1, subst (Appends old new) (sym s.2) ends)
  finish_command printed Usage s ends = absurd ends
  finish_command printed BadScript s ends = absurd ends
  finish_command printed DriveFault s ends = absurd ends
  finish_command printed BadStore s ends = absurd ends
  finish_command printed SinkFault s ends = (s.0, s.1, subst (AppendsFront old new) (sym s.2) ends.0, ends.1)
  finish_command printed SourceFault s ends = absurd ends
  finish_command printed Memory s ends = absurd ends

  -- for want of memory
  pub command_memory : (status : Status) → status ≡ Memory → Prints old new sink_rose memory_text → CommandEnds tells before failed text old new sink_rose status
  command_memory status is prints = with_status status Memory is (inl prints)

  -- all was done
  pub command_finished : (printed : List ℕ) (status : Status) → (state : State) × (tells → before ≡ Ok state) × (text state ≡ printed)
      → DoneEnds old new sink_rose printed status → CommandEnds tells before failed text old new sink_rose status
  command_finished printed status s (inl ends) = finish_command printed status s ends
  command_finished printed status s (inr ends) = command_memory status ends.0 ends.1

  -- a half failed
  pub command_drive : (half : Half) (status : Status) → failed half → status ≡ DriveFault → Prints old new sink_rose (drive_text half) → CommandEnds tells before failed text old new sink_rose status
  command_drive half status fault is prints = with_status status DriveFault is (half, fault, prints)

  -- the store is not lawful
  pub command_refused : (cause : Refused) (status : Status) → (tells → before ≡ Err cause) → HaltEnds old new sink_rose (bad_store_text cause) BadStore status
      → CommandEnds tells before failed text old new sink_rose status
  command_refused cause status is (inl ends) = with_status status BadStore ends.0 (cause, is, ends.1)
  command_refused cause status is (inr ends) = command_memory status ends.0 ends.1
