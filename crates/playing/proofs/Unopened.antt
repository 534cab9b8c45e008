-- What is said of a call that plays scripts, where no run of them began.
use Rattle.std.proofs.Common.{◌≡◌, inl, inr, ℕ, ◌≤◌, List, Option, Ok, Err, refl, sym, subst, ◌∙◌}
use Rattle.afs_base.specs.Causes.{Rose}
use Rattle.drives.specs.declared.device.Drives.{Ghosts as Device}
use Rattle.drives.specs.declared.device.Half.{Half}
use Rattle.endings.specs.declared.ended.Ended.{Ended}
use Rattle.endings.specs.declared.status.Status.{Status}
use Rattle.endings.specs.declared.status.Status.TheVariants.{DriveFault, BadStore, Memory}
use Rattle.endings.specs.Faults.{HalfFailed}
use Rattle.endings.specs.Noted.{IsNothingNoted}
use Rattle.endings.specs.Printing.{Prints}
use Rattle.endings.specs.Status.{IsDone}
use Rattle.endings.specs.Texts.{bad_store_text, drive_text, memory_text}
use Rattle.pair_store.specs.declared.on_halves.Pair.{Pair}
use Rattle.pair_store.specs.declared.store.Blocks.{Ghosts}
use Rattle.recovery.specs.declared.refused.OpenRefused.{OpenRefused}
use Rattle.recovery.specs.declared.refused.OpenRefused.TheVariants.{ReadFault, WriteFault, BadStore as Unlawful, Memory as NoMemory}
use Rattle.recovery.specs.Opening.{IsBad, IsFailed, IsNoStore}
use Rattle.recovery.specs.Rolling.{IsUnwritten}
use Rattle.script_text.specs.declared.sink.Sink.{Ghosts as Printer}
use Rattle.service_model.specs.declared.journal.Journal.{Journal}
use Rattle.service_model.specs.Standing.{Scripts}
use Rattle.store_commands.specs.Opening.{AreAtRest, HasStopped, OnlyOpened, RefusedEnds, contents_on, files_on}
use Rattle.store_commands.proofs.Ends.{opening_failed, write_failed}
use Rattle.store_model.specs.Walk.{Refused}
use Rattle.playing.specs.Calls.{IsUnplayed, PlayEnds, RunCall}
use Rattle.playing.specs.Statuses.{IsBeforeOpening}

module _ {V K : Type 0} (v : Device V) (p : Ghosts (Pair V)) (k : Printer K) (words : List ℕ)
    (scripts : Scripts) (before after : V) (journal : Journal) (out out' : K)
    (only : OnlyOpened v before after) (noted : IsNothingNoted journal)
    (sink_later : k.faults out ≤ k.faults out') where
  abbrev old : Option (List ℕ)
  old = k.written out

  abbrev new : Option (List ℕ)
  new = k.written out'

  abbrev rose : Type 0
  rose = Rose (k.faults out) (k.faults out')

  abbrev Ends : ℕ → Status → Type 0
  Ends first = PlayEnds v p words first before after scripts journal old new rose

  abbrev NoStore : Type 0
  NoStore = v.tells → IsNoStore (contents_on v before) (v.size before)

  -- what comes back
  abbrev pub unplayed_end : Status → Ended V
  unplayed_end status = record { status = status; drives = after; journal = journal }

  unplayed : IsUnplayed v before after journal
  unplayed = record { opened = only; noted = noted }

  -- there was no memory for a run
  pub wanting_call : (status : Status) → status ≡ Memory → Prints old new rose memory_text
      → (v.tells → AreAtRest v before → AreAtRest v after)
      → RunCall v p k words scripts before out (unplayed_end status) out'
  wanting_call status is prints rest = record {
    ends = λ t first speaks. subst (Ends first) (sym is) (inl unplayed, prints);
    rest = λ t r sound. rest t r;
    complete = λ t opening found sound sink. subst IsDone (sym is) tt;
    opened = λ b. subst IsBeforeOpening is b;
    driven = λ fault. absurd (let both : DriveFault ≡ Memory = sym fault ∙ is in cc both);
    size = only.size_same;
    later = only.later;
    sink_later = sink_later;
  }

  -- ---- the store was not opened

  -- a half failed
  pub halted_call : (status : Status) (half : Half) → status ≡ DriveFault
      → IsFailed (v.faults before) (v.faults after) (v.last_fault after) (v.moment after) NoStore half
      → Prints old new rose (drive_text half)
      → (v.tells → AreAtRest v before → ((h : Half)
      → HalfFailed v.moment v.faults h before after → ⊥) → AreAtRest v after)
      → RunCall v p k words scripts before out (unplayed_end status) out'
  halted_call status half is failed prints rest =
      let broken : HalfFailed v.moment v.faults half before after =
      opening_failed (v.faults before) (v.faults after) (v.last_fault after) (v.moment after) NoStore
      half failed in
      record {
        ends = λ t first speaks. subst (Ends first) (sym is) (half, failed, inl (unplayed, prints));
        rest = λ t r sound. rest t r sound;
        complete = λ t opening found sound sink. absurd (sound half broken);
        opened = λ b. subst IsBeforeOpening is b;
        driven = λ fault. (half, failed.failed);
        size = only.size_same;
        later = only.later;
        sink_later = sink_later;
      }

  -- the halves hold no lawful store
  pub unlawful_call : (status : Status) (cause : Refused) → status ≡ BadStore
      → (v.tells → files_on v before ≡ Err cause) → Prints old new rose (bad_store_text cause)
      → (v.tells → AreAtRest v before → AreAtRest v after)
      → RunCall v p k words scripts before out (unplayed_end status) out'
  unlawful_call status cause is bad prints rest = record {
    ends = λ t first speaks. subst (Ends first) (sym is) (unplayed, (cause, bad t, prints));
    rest = λ t r sound. rest t r;
    complete = λ t opening found sound sink.
        absurd (let both : Ok opening ≡ Err cause = sym found ∙ bad t in cc both);
    opened = λ b. subst IsBeforeOpening is b;
    driven = λ fault. absurd (let both : DriveFault ≡ BadStore = sym fault ∙ is in cc both);
    size = only.size_same;
    later = only.later;
    sink_later = sink_later;
  }

  -- by the cause of the refusal
  pub unopened_call : (why : OpenRefused) (status : Status) → RefusedEnds old new rose why status
      → (v.tells → IsBad (files_on v before) why)
      → ((h : Half) → why ≡ ReadFault h → HasStopped v before after h)
      → ((h : Half) → why ≡ WriteFault h
      → IsFailed (v.faults before) (v.faults after) (v.last_fault after) (v.moment after) ⊥ h)
      → (v.tells → AreAtRest v before → IsUnwritten {T = Unit {0}} (Err why) → AreAtRest v after)
      → RunCall v p k words scripts before out (unplayed_end status) out'
  unopened_call (ReadFault half) status ends bad unread unwritten rest =
      halted_call status half ends.0 (unread half refl) ends.1 (λ t r sound. rest t r tt)
  unopened_call (WriteFault half) status ends bad unread unwritten rest =
      let failed = unwritten half refl in
      halted_call status half ends.0
      (write_failed (v.faults before) (v.faults after) (v.last_fault after) (v.moment after) NoStore
      half failed) ends.1
      (λ t r sound. absurd (sound half (opening_failed (v.faults before) (v.faults after)
      (v.last_fault after) (v.moment after) ⊥ half failed)))
  unopened_call (Unlawful block why) status (inl ends) bad unread unwritten rest =
      unlawful_call status (record { block = block; why = why }) ends.0 bad ends.1
      (λ t r. rest t r tt)
  unopened_call (Unlawful block why) status (inr ends) bad unread unwritten rest =
      wanting_call status ends.0 ends.1 (λ t r. rest t r tt)
  unopened_call NoMemory status ends bad unread unwritten rest =
      wanting_call status ends.0 ends.1 (λ t r. rest t r tt)
