-- How a call ends that plays a run, from how the run went and what was printed of it.
use Rattle.std.proofs.Common.{◌≡◌, inl, inr, ℕ, ◌≤◌, List, ◌++◌, Option, None, Some, Ok, refl, sym, ap, subst, ◌∙◌, arith}
use Rattle.afs_base.specs.Causes.{Rose}
use Rattle.drives.specs.declared.device.Drives.{Ghosts as Device}
use Rattle.drives.specs.declared.device.Half.{Half}
use Rattle.endings.specs.declared.ended.Ended.{Ended}
use Rattle.endings.specs.declared.status.Status.{Status}
use Rattle.endings.specs.declared.status.Status.TheVariants.{Success, Usage, BadScript, DriveFault, BadStore, SinkFault, SourceFault, Memory}
use Rattle.endings.specs.Faults.{HalfFailed}
use Rattle.endings.specs.Printing.{DoneEnds, HaltEnds}
use Rattle.endings.specs.Status.{IsDone}
use Rattle.endings.specs.Texts.{drive_text}
use Rattle.ground.specs.Promises.{IsPromised}
use Rattle.ground.specs.Runs.{GroundValue, journal_in, scripts_in, store_in, told_in}
use Rattle.ground.specs.Turning.{IsRunOf, IsSameRun, standing_of}
use Rattle.pair_store.specs.declared.on_halves.Pair.{Pair}
use Rattle.pair_store.specs.declared.store.Blocks.{Ghosts}
use Rattle.pair_store.specs.Faults.{LaterFaults}
use Rattle.pair_store.specs.Pairs.{drives_of}
use Rattle.recovery.specs.declared.opened.OpenedOver.{OpenedOver}
use Rattle.recovery.specs.Opening.{IsFailed}
use Rattle.ground_model.specs.Opened.{IsOpenedFrom}
use Rattle.script_text.specs.declared.sink.Sink.{Ghosts as Printer}
use Rattle.service_model.specs.Print.{answers_printed, printed}
use Rattle.service_model.specs.Standing.{Scripts, Standing}
use Rattle.session.specs.declared.turned.Fault.{Fault}
use Rattle.session.specs.declared.turned.Fault.TheVariants.{Drive}
use Rattle.store_commands.proofs.Ends.{opening_failed}
use Rattle.store_model.specs.Found.{found}
use Rattle.tree_model.specs.States.{State}
use Rattle.playing.specs.Playing.{EndTells, GroundCall, IsEndOf, IsStoppedRun}
use Rattle.playing.specs.Running.{AreAnswered, IsShown}
use Rattle.playing.specs.Runs.{IsWholeRun, answers_in}
use Rattle.playing.specs.Statuses.{IsBeforeOpening}
use Rattle.playing.proofs.Failing.{failed_earlier}
use Rattle.playing.proofs.Showing.{answered_in, shown_in}

-- ---- texts

-- where no half stopped the run and the sink did not fail, all is done, or memory ran out
done_ends : (old new : Option (List ℕ)) (rose : Type 0) (text : List ℕ) (status : Status)
    → DoneEnds old new rose text status → (rose → ⊥) → IsDone status
done_ends old new rose text status (inr want) sound = subst IsDone (sym want.0) tt
done_ends old new rose text Success (inl ends) sound = tt
done_ends old new rose text Usage (inl ends) sound = ends
done_ends old new rose text BadScript (inl ends) sound = ends
done_ends old new rose text DriveFault (inl ends) sound = ends
done_ends old new rose text BadStore (inl ends) sound = ends
done_ends old new rose text SinkFault (inl ends) sound = sound ends.1
done_ends old new rose text SourceFault (inl ends) sound = ends
done_ends old new rose text Memory (inl ends) sound = tt

-- ---- runs

-- a run over the store that was opened stays one
pub run_on : {D : Type 0} (b : Ghosts D) (g g' : GroundValue D) (opening : State)
    → IsSameRun b g g' → IsRunOf b g opening → IsRunOf b g' opening
run_on {D} b g g' opening same run =
    let O : OpenedOver D → Type 0 = λ o. IsOpenedFrom b o run.first in
    let F : OpenedOver D → Type 0 = λ o. found (b.content o.store) (b.size o.store) ≡ Ok opening in
    record {
      tells = run.tells;
      first = run.first;
      opened = subst O (sym same.opened) run.opened;
      found = subst F (sym same.opened) run.found;
    }

module _ {V K : Type 0} (v : Device V) (p : Ghosts (Pair V)) (k : Printer K) (words : List ℕ)
    (g g' : GroundValue (Pair V)) (out out' : K) (status : Status)
    (same : IsSameRun p g g')
    (size : v.size (drives_of (store_in g')) ≡ v.size (drives_of (store_in g)))
    (later : LaterFaults (v.faults (drives_of (store_in g))) (v.faults (drives_of (store_in g')))
    (v.last_fault (drives_of (store_in g))) (v.last_fault (drives_of (store_in g'))))
    (promise : (opening : State) (run : IsRunOf p g' opening) → IsPromised p opening run.first g')
    (opened : IsBeforeOpening status → ⊥)
    (sink_later : k.faults out ≤ k.faults out') where
  abbrev old : Option (List ℕ)
  old = k.written out

  abbrev new : Option (List ℕ)
  new = k.written out'

  abbrev rose : Type 0
  rose = Rose (k.faults out) (k.faults out')

  -- what comes back
  abbrev pub end_of : Ended V
  end_of = record { status = status; drives = drives_of (store_in g'); journal = journal_in g' }

  promised : (opening : State) (run : IsRunOf p g opening) → IsPromised p opening run.first g'
  unfolding run_on
  promised opening run = promise opening (run_on p g g' opening same run)

  is_end : (opening : State) (run : IsRunOf p g opening)
      → IsEndOf p g opening run.first (drives_of (store_in g')) (journal_in g') g'
  is_end opening run = record {
    same = same;
    promised = promised opening run;
    drives_are = refl;
    journal_is = refl;
  }

  -- ---- a run that came to its end

  module _ (goes : p.tells → p.rest (store_in g) → p.rest (store_in g')) (fault : g'.fault ≡ None)
      (whole : (opening : State) → IsRunOf p g opening → IsWholeRun words opening g')
      (ends : (s : Standing) → IsShown (answers_in g') (told_in g') s
      → DoneEnds old new rose (printed (scripts_in g') s) status)
      (sound : status ≡ DriveFault → ⊥) where
    done : (opening : State) → IsRunOf p g opening
        → DoneEnds old new rose (printed (scripts_in g) (standing_of opening g')) status
    done opening run =
        let P : Scripts → Type 0 = λ ss.
        DoneEnds old new rose (printed ss (standing_of opening g')) status in
        subst P same.scripts
        (ends (standing_of opening g') (shown_in p opening run.first g' (promised opening run) fault))

    tells_whole : (opening : State) (is : Status) → IsWholeRun words opening g'
        → DoneEnds old new rose (printed (scripts_in g) (standing_of opening g')) is
        → EndTells v words opening g g' old new rose is
    tells_whole opening is run (inr want) =
        subst (EndTells v words opening g g' old new rose) (sym want.0) (inl run, want.1)
    tells_whole opening Success run (inl all) = (run, all)
    tells_whole opening Usage run (inl all) = all
    tells_whole opening BadScript run (inl all) = all
    tells_whole opening DriveFault run (inl all) = absurd all
    tells_whole opening BadStore run (inl all) = all
    tells_whole opening SinkFault run (inl all) = (run, all.0, all.1)
    tells_whole opening SourceFault run (inl all) = all
    tells_whole opening Memory run (inl all) = absurd all

    pub whole_call : GroundCall v p k words g out end_of out'
    whole_call = record {
      ends = λ opening run. (
        g',
        is_end opening run,
        tells_whole opening status (whole opening run) (done opening run),
      );
      rest = λ opening run rest _. (store_in g', refl, goes run.tells rest);
      complete = λ opening run _ sink.
          done_ends old new rose (printed (scripts_in g) (standing_of opening g')) status
          (done opening run) sink;
      opened = opened;
      driven = λ is. absurd (sound is);
      size = size;
      later = later;
      sink_later = sink_later;
    }

  -- ---- a run that was stopped

  module _ (fault : Fault)
      (failed : (h : Half) → fault ≡ Drive h
      → IsFailed (v.faults (drives_of (store_in g))) (v.faults (drives_of (store_in g')))
      (v.last_fault (drives_of (store_in g'))) (v.moment (drives_of (store_in g')))
      ((opening : State) → IsRunOf p g opening → ⊥) h)
      (told : (opening : State) → IsRunOf p g opening
      → (half : Half) × (fault ≡ Drive half) × (g'.fault ≡ Some fault))
      (ends : (half : Half) → fault ≡ Drive half → (s : Standing)
      → AreAnswered (answers_in g') s.clients → HaltEnds old new rose
      (answers_printed (scripts_in g') s ++ drive_text half) DriveFault status)
      (driven : status ≡ DriveFault → (half : Half) × (fault ≡ Drive half)) where
    stopped : (opening : State) → IsRunOf p g opening → (half : Half) × IsStoppedRun v g g' half
    stopped opening run =
        let is = told opening run in (
          is.0,
          record {
            fault = is.2 ∙ ap (λ (f : Fault). Some f) is.1;
            failed = failed_earlier (v.faults (drives_of (store_in g)))
                (v.faults (drives_of (store_in g))) (v.faults (drives_of (store_in g')))
                (v.last_fault (drives_of (store_in g'))) (v.moment (drives_of (store_in g')))
                ((other : State) → IsRunOf p g other → ⊥) ⊥ is.0 (omega arith)
                (λ none. none opening run) (failed is.0 is.1);
          },
        )

    halted : (opening : State) (run : IsRunOf p g opening) → HaltEnds old new rose
        (answers_printed (scripts_in g) (standing_of opening g')
        ++ drive_text (stopped opening run).0) DriveFault status
    unfolding stopped
    halted opening run =
        let half = (told opening run).0 in
        let P : Scripts → Type 0 = λ ss. HaltEnds old new rose
        (answers_printed ss (standing_of opening g') ++ drive_text half) DriveFault status in
        subst P same.scripts (ends half (told opening run).1 (standing_of opening g')
        (answered_in p opening run.first g' (promised opening run)))

    tells_stopped : (opening : State) (half : Half) → IsStoppedRun v g g' half
        → HaltEnds old new rose
        (answers_printed (scripts_in g) (standing_of opening g') ++ drive_text half) DriveFault status
        → EndTells v words opening g g' old new rose status
    tells_stopped opening half is (inl all) =
        subst (EndTells v words opening g g' old new rose) (sym all.0) (half, is, all.1)
    tells_stopped opening half is (inr want) =
        subst (EndTells v words opening g g' old new rose) (sym want.0) (inr (half, is), want.1)

    -- the half failed, by the clock that stands there now
    broken : (opening : State) (run : IsRunOf p g opening)
        → HalfFailed v.moment v.faults (stopped opening run).0 (drives_of (store_in g))
        (drives_of (store_in g'))
    broken opening run =
        let is = stopped opening run in
        opening_failed (v.faults (drives_of (store_in g))) (v.faults (drives_of (store_in g')))
        (v.last_fault (drives_of (store_in g'))) (v.moment (drives_of (store_in g'))) ⊥ is.0
        is.1.failed

    pub stopped_call : GroundCall v p k words g out end_of out'
    stopped_call = record {
      ends = λ opening run. (
        g',
        is_end opening run,
        tells_stopped opening (stopped opening run).0 (stopped opening run).1 (halted opening run),
      );
      rest = λ opening run _ sound. absurd (sound (stopped opening run).0 (broken opening run));
      complete = λ opening run sound _.
          absurd (sound (stopped opening run).0 (broken opening run));
      opened = opened;
      driven = λ is. ((driven is).0, (failed (driven is).0 (driven is).1).failed);
      size = size;
      later = later;
      sink_later = sink_later;
    }
