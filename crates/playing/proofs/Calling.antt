-- What is said of a call that plays scripts over a store that was opened.
use Rattle.std.proofs.Common.{◌≡◌, inl, inr, ℕ, ◌<◌, ◌^◌, List, ◌++◌, Option, Ok, refl, sym, ap, subst, ◌∙◌, arith}
use Rattle.std.specs.Io.KnownBytes.{Appends}
use Rattle.afs_base.specs.Causes.{Rose}
use Rattle.drives.specs.declared.device.Drives.{Ghosts as Device}
use Rattle.drives.specs.declared.device.Half.{Half}
use Rattle.endings.specs.declared.ended.Ended.{Ended}
use Rattle.endings.specs.declared.status.Status.{Status}
use Rattle.endings.specs.declared.status.Status.TheVariants.{Success, Usage, BadScript, DriveFault, BadStore, SinkFault, SourceFault, Memory}
use Rattle.endings.specs.Faults.{HalfFailed}
use Rattle.endings.specs.Printing.{Prints}
use Rattle.endings.specs.Texts.{drive_text}
use Rattle.ground.specs.Making.{HasBegun}
use Rattle.ground.specs.Runs.{GroundValue, store_in}
use Rattle.ground.specs.Turning.{IsRunOf, standing_of}
use Rattle.pair_store.specs.declared.on_halves.Pair.{Pair}
use Rattle.pair_store.specs.declared.store.Blocks.{Ghosts}
use Rattle.pair_store.specs.Faults.{LaterFaults}
use Rattle.pair_store.specs.Pairs.{drives_of}
use Rattle.recovery.specs.declared.opened.OpenedOver.{OpenedOver}
use Rattle.ground_model.specs.Opened.{IsOpenedFrom}
use Rattle.recovery.specs.Opening.{IsFailed, IsNoStore}
use Rattle.script_text.specs.declared.sink.Sink.{Ghosts as Printer}
use Rattle.script_text.specs.Front.{AppendsFront}
use Rattle.service_model.specs.Print.{answers_printed, printed}
use Rattle.service_model.specs.Standing.{Scripts}
use Rattle.store_commands.specs.Opening.{AreAtRest, HasStopped, OnlyOpened, contents_on, files_on}
use Rattle.store_model.specs.Found.{found}
use Rattle.tree_model.specs.States.{State}
use Rattle.playing.specs.Calls.{PlayEnds, RunCall}
use Rattle.playing.specs.Playing.{EndTells, GroundCall, IsEndOf, IsNotBegun, IsStoppedRun, OpenedCall}
use Rattle.playing.specs.Runs.{IsCutOff, IsPlayed, IsRunOn, IsWholeRun, SpeaksFrom}
use Rattle.playing.proofs.Failing.{count_earlier, failed_earlier}
use Rattle.playing.proofs.Unopened.{unplayed_end, wanting_call}

-- An opening left a store over which runs are promised, from the moment `first` on: in it this state
-- was found, as it was on the halves before.
pub record IsPlayable {V : Type 0} (v : Device V) (p : Ghosts (Pair V)) (before : V) (first : ℕ)
    (o : OpenedOver (Pair V)) : Type 0 where
  pub state : State
  pub before_is : files_on v before ≡ Ok state
  pub tells : p.tells
  pub opening : IsOpenedFrom p o first
  pub found_now : found (p.content o.store) (p.size o.store) ≡ Ok state

module _ {V K : Type 0} (v : Device V) (p : Ghosts (Pair V)) (k : Printer K) (words : List ℕ)
    (scripts : Scripts) (before : V) (o : OpenedOver (Pair V)) (out out' : K) (ended : Ended V)
    (only : OnlyOpened v before (drives_of o.store)) (clock : (d : V) → v.moment d < 2 ^ 64)
    (at_rest : v.tells → AreAtRest v before → AreAtRest v (drives_of o.store))
    (playable : v.tells → (first : ℕ) → SpeaksFrom v before first → IsPlayable v p before first o)
    (from_rest : (d : Pair V) → AreAtRest v (drives_of d) → p.rest d)
    (to_rest : (d : Pair V) → p.rest d → AreAtRest v (drives_of d)) where
  abbrev old : Option (List ℕ)
  old = k.written out

  abbrev new : Option (List ℕ)
  new = k.written out'

  abbrev rose : Type 0
  rose = Rose (k.faults out) (k.faults out')

  abbrev NoStore : Type 0
  NoStore = v.tells → IsNoStore (contents_on v before) (v.size before)

  -- ---- no run began

  pub not_begun : IsNotBegun k o out ended out' → RunCall v p k words scripts before out ended out'
  not_begun none =
      let at : Ended V = unplayed_end v p k words scripts before (drives_of o.store) ended.journal
      out out' only none.noted none.later ended.status in
      let same : at ≡ ended = λ i. record {
        status = ended.status;
        drives = sym none.drives i;
        journal = ended.journal;
      } in
      let C : Ended V → Type 0 = λ e. RunCall v p k words scripts before out e out' in
      subst C same
      (wanting_call v p k words scripts before (drives_of o.store) ended.journal out out' only
      none.noted none.later ended.status none.status none.printed at_rest)

  -- ---- a run

  module _ (g : GroundValue (Pair V)) (begun : HasBegun o scripts g)
      (call : GroundCall v p k words g out ended out') where
    mid : drives_of (store_in g) ≡ drives_of o.store
    mid = ap drives_of begun.store

    later_mid : LaterFaults (v.faults before) (v.faults (drives_of (store_in g)))
        (v.last_fault before) (v.last_fault (drives_of (store_in g)))
    later_mid =
        let L : V → Type 0 = λ d.
        LaterFaults (v.faults before) (v.faults d) (v.last_fault before) (v.last_fault d) in
        subst L (sym mid) only.later

    size_mid : v.size (drives_of (store_in g)) ≡ v.size before
    size_mid = ap v.size mid ∙ only.size_same

    rest_mid : v.tells → AreAtRest v before → p.rest (store_in g)
    rest_mid t r =
        let R : Pair V → Type 0 = λ d. p.rest d in
        subst R (sym begun.store) (from_rest o.store (at_rest t r))

    run : (first : ℕ) (x : IsPlayable v p before first o) → IsRunOf p g x.state
    run first x =
        let O : OpenedOver (Pair V) → Type 0 = λ q. IsOpenedFrom p q first in
        let F : OpenedOver (Pair V) → Type 0 = λ q.
        found (p.content q.store) (p.size q.store) ≡ Ok x.state in
        record {
          tells = x.tells;
          first = first;
          opened = subst O (sym begun.opened) x.opening;
          found = subst F (sym begun.opened) x.found_now;
        }

    -- a half that did not fail since the beginning did not fail in the run
    sound_mid : ((h : Half) → HalfFailed v.moment v.faults h before ended.drives → ⊥)
        → (h : Half) → HalfFailed v.moment v.faults h (drives_of (store_in g)) ended.drives → ⊥
    sound_mid sound h failed =
        sound h (count_earlier (v.faults before h) (v.faults (drives_of (store_in g)) h)
        (v.faults ended.drives h) (v.moment ended.drives) (later_mid h).0 failed)

    module _ (first : ℕ) (x : IsPlayable v p before first o) (g' : GroundValue (Pair V))
        (end : IsEndOf p g x.state first ended.drives ended.journal g') where
      is_run : IsRunOn v p first before ended.drives scripts ended.journal x.state g'
      is_run = record {
        found = x.before_is;
        scripts_are = end.same.scripts ∙ begun.scripts_are;
        drives = end.drives_are;
        journal_is = end.journal_is;
        promised = end.promised;
      }

      is_played : IsWholeRun words x.state g'
          → IsPlayed v p words first before ended.drives scripts ended.journal
      is_played whole = record { opening = x.state; g = g'; run = is_run; whole = whole }

      is_cut : (half : Half) → IsStoppedRun v g g' half
          → IsCutOff v p first before ended.drives scripts ended.journal half
      is_cut half is = record { opening = x.state; g = g'; run = is_run; stopped = is.fault }

      has_stopped : (half : Half) → IsStoppedRun v g g' half
          → HasStopped v before ended.drives half
      has_stopped half is =
          let S : V → Type 0 = λ d. IsFailed (v.faults (drives_of (store_in g))) (v.faults d)
          (v.last_fault d) (v.moment d) ⊥ half in
          failed_earlier (v.faults before) (v.faults (drives_of (store_in g)))
          (v.faults ended.drives) (v.last_fault ended.drives) (v.moment ended.drives) ⊥ NoStore half
          (later_mid half).0 (λ none. absurd none) (subst S end.drives_are is.failed)

      play_ends : (status : Status) → EndTells v words x.state g g' old new rose status
          → PlayEnds v p words first before ended.drives scripts ended.journal old new rose status
      unfolding is_played is_cut
      play_ends Success tells =
          let P : Scripts → Type 0 = λ ss. Appends old new (printed ss (standing_of x.state g')) in
          (is_played tells.0, subst P begun.scripts_are tells.1)
      play_ends Usage tells = tells
      play_ends BadScript tells = tells
      play_ends DriveFault tells =
          let half = tells.0 in
          let P : Scripts → Type 0 = λ ss. Prints old new rose
          (answers_printed ss (standing_of x.state g') ++ drive_text half) in (
            half,
            has_stopped half tells.1,
            inr (is_cut half tells.1, subst P begun.scripts_are tells.2),
          )
      play_ends BadStore tells = absurd tells
      play_ends SinkFault tells =
          let P : Scripts → Type 0 = λ ss.
          AppendsFront old new (printed ss (standing_of x.state g')) in
          (is_played tells.0, subst P begun.scripts_are tells.1, tells.2)
      play_ends SourceFault tells = tells
      play_ends Memory (inl whole, prints) = (inr (inl (is_played whole)), prints)
      play_ends Memory (inr stopped, prints) = (
        inr (inr (stopped.0, has_stopped stopped.0 stopped.1, is_cut stopped.0 stopped.1)),
        prints,
      )

    ends_of : (first : ℕ) → IsPlayable v p before first o
        → PlayEnds v p words first before ended.drives scripts ended.journal old new rose ended.status
    unfolding run
    ends_of first x =
        let e = call.ends x.state (run first x) in
        play_ends first x e.0 e.1 ended.status e.2

    rest_of : v.tells → AreAtRest v before
        → ((h : Half) → HalfFailed v.moment v.faults h before ended.drives → ⊥)
        → AreAtRest v ended.drives
    rest_of t r sound =
        let x = playable t (v.moment before) (inl (r, refl)) in
        let e = call.rest x.state (run (v.moment before) x) (rest_mid t r) (sound_mid sound) in
        subst (AreAtRest v) e.1 (to_rest e.0 e.2)

    pub run_call : RunCall v p k words scripts before out ended out'
    run_call = record {
      ends = λ t first speaks. ends_of first (playable t first speaks);
      rest = rest_of;
      complete = λ t opening is sound sink.
          let x = playable t (2 ^ 64) (inr clock) in
          call.complete x.state (run (2 ^ 64) x) (sound_mid sound) sink;
      opened = call.opened;
      driven = λ is.
          let failed = call.driven is in (
            failed.0,
            count_earlier (v.faults before failed.0) (v.faults (drives_of (store_in g)) failed.0)
                (v.faults ended.drives failed.0) (v.last_fault ended.drives failed.0)
                (later_mid failed.0).0 failed.1,
          );
      size = call.size ∙ size_mid;
      later = λ h.
          let one = later_mid h in
          let two = call.later h in
          (omega (arith, one.0, two.0), omega (arith, one.1, two.1));
      sink_later = call.sink_later;
    }

  pub opened_call : OpenedCall v p k words scripts o out ended out'
      → RunCall v p k words scripts before out ended out'
  opened_call (inl none) = not_begun none
  opened_call (inr begun) = run_call begun.0 begun.1 begun.2
