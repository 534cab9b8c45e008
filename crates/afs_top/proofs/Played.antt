-- What a call that plays scripts says of its status.
use Rattle.std.proofs.Common.{◌≡◌, inl, inr, ℕ, ◌≤◌, List, [], Option, None, Some, refl, subst, arith}
use Rattle.std.specs.Io.KnownBytes.{Consumes}
use Rattle.afs_base.specs.Causes.{Rose}
use Rattle.endings.specs.Noted.{IsNothingNoted}
use Rattle.endings.specs.Printing.{Prints}
use Rattle.endings.specs.Texts.{memory_text}
use Rattle.playing.specs.Sources.{IsTaken}
use Rattle.playing.proofs.Zips.{zip_same}
use Rattle.drives.specs.declared.device.Drives.{Ghosts as Device}
use Rattle.endings.specs.declared.ended.Ended.{Ended}
use Rattle.endings.specs.declared.status.Status.{Status}
use Rattle.endings.specs.declared.status.Status.TheVariants.{Success, Usage, BadScript, DriveFault, BadStore, SinkFault, SourceFault, Memory}
use Rattle.pair_store.specs.declared.on_halves.Pair.{Pair}
use Rattle.pair_store.specs.declared.store.Blocks.{Ghosts}
use Rattle.script_text.specs.declared.sink.Sink.{Ghosts as Printer}
use Rattle.script_text.specs.declared.source.Source.{Ghosts as Reader}
use Rattle.playing.specs.Calls.{PlayCall}
use Rattle.playing.specs.Statuses.{IsBeforeOpening}
use Rattle.playing.specs.Unread.{unread_status}
use Rattle.playing.specs.declared.unread.Unread.{Unread}
use Rattle.playing.specs.declared.unread.Unread.TheVariants as unread
use Rattle.afs_top.specs.Words.{IsUsage}

usage_is_before : (status : Status) → IsUsage status → IsBeforeOpening status
usage_is_before Success is = is
usage_is_before Usage is = is
usage_is_before BadScript is = tt
usage_is_before DriveFault is = is
usage_is_before BadStore is = is
usage_is_before SinkFault is = is
usage_is_before SourceFault is = tt
usage_is_before Memory is = is

unread_is_called : (cause : Unread) → IsUsage (unread_status cause) → ⊥
unread_is_called (unread.Source client) is = is
unread_is_called (unread.Line client line why) is = is
unread_is_called (unread.Unbuilt client line) is = is
unread_is_called unread.Memory is = is

module _ {V S K : Type 0} (v : Device V) (p : Ghosts (Pair V)) (s : Reader S) (k : Printer K) (words : List ℕ) (drives : V) (sources : List S) (out : K) (ended : Ended V)
    (sources' : List S) (out' : K) (call : PlayCall v p s k words drives sources out ended sources' out') where
  -- its words were a command
  pub play_called : IsUsage ended.status → ⊥
  play_called is = elim call.ends [
    | inl read ↦ read.call.opened (usage_is_before ended.status is)
    | inr none ↦ elim none.printed [
      | inl h ↦ unread_is_called none.cause (subst IsUsage h.0 is)
      | inr h ↦ (let no : IsUsage Memory = subst IsUsage h.0 is in no)
    ]
  ]

  -- it made no call of the halves where it says so
  pub play_untouched : IsBeforeOpening ended.status → ended.drives ≡ drives
  play_untouched is = elim call.ends [
    | inl read ↦ absurd (read.call.opened is)
    | inr none ↦ none.untouched
  ]

nothing_taken : (left : Option (List ℕ)) → Consumes left left []
nothing_taken None = tt
nothing_taken (Some bytes) = refl

-- There was no memory for the order of its clients: nothing was read or touched.
module _ {V S K : Type 0} (v : Device V) (p : Ghosts (Pair V)) (s : Reader S) (k : Printer K) (words : List ℕ) (drives : V) (sources : List S) (out : K) (ended : Ended V) (out' : K) where
  pub play_unread : ended.status ≡ Memory → ended.drives ≡ drives → IsNothingNoted ended.journal
      → Prints (k.written out) (k.written out') (Rose (k.faults out) (k.faults out')) memory_text → k.faults out ≤ k.faults out'
      → PlayCall v p s k words drives sources out ended sources out'
  play_unread status same noted prints later = record {
    ends = inr (record {
      cause = unread.Memory;
      unread = zip_same (λ (x y : S). s.faults y ≡ s.faults x) (λ x. refl) sources;
      untouched = same;
      noted = noted;
      printed = inr (status, prints);
      later = later;
    });
    taken = zip_same (λ (x y : S). IsTaken (s.left x) (s.left y)) (λ x. ([], nothing_taken (s.left x))) sources;
    sources_later = zip_same (λ (x y : S). s.faults x ≤ s.faults y) (λ x. omega arith) sources;
  }
