-- How `show` ends is put together.
use Rattle.std.proofs.Common.{◌≡◌, ◌⊎◌, inl, inr, ℕ, ◌+◌, ◌-◌, ◌^◌, ◌≤◌, min, nat_eq, Bool, true, false, List, Option, Result, Ok, refl, sym, ap, subst, ◌∙◌, eqb-true, arith}
use Rattle.std.proofs.lemmas.Bool.{eqb-false}
use Rattle.drives.specs.declared.device.Drives.{Ghosts as Device}
use Rattle.drives.specs.declared.device.Half.{Half}
use Rattle.drives.specs.Changes.{Changes}
use Rattle.drives.proofs.Composing.{goes_on, leaves_now}
use Rattle.pair_store.specs.Blocks.{SameContents}
use Rattle.pair_store.specs.Content.{ContentsLeft}
use Rattle.pair_store.specs.Faults.{IsStopped, IsUnread, LaterFaults}
use Rattle.store_check.proofs.ReadOnly.{failed_before}
use Rattle.store_model.specs.Walk.{Refused}
use Rattle.store_model.specs.Found.{found}
use Rattle.tree_model.specs.States.{File, State}
use Rattle.recovery.specs.Opening.{IsFailed, SameFound}
use Rattle.endings.specs.Commands.{CommandEnds}
use Rattle.endings.specs.declared.status.Status.{Status}
use Rattle.endings.proofs.Commands.{command_drive, command_finished, command_memory, command_refused, shown_state}
use Rattle.store_check.specs.declared.refused.WalkRefused.{WalkRefused}
use Rattle.store_check.specs.declared.refused.WalkRefused.TheVariants.{ReadFault, BadStore as Unlawful, Memory as NoMemory}
use Rattle.tree_listing.specs.Results.{IsNoCause}
use Rattle.store_commands.specs.Opening.{OnlyOpened, contents_on}
use Rattle.store_commands.specs.Showing.{show_text}
use Rattle.store_commands.specs.Shows.{ListsAll, ShowEnds, UnlistedEnds}

-- a half that failed in a read failed in the call; where contents are told it was the last call of a device
pub fault_failed : (tells NoStore Empty : Type 0) (faults mid after last : Half → ℕ) (moment : ℕ) (h : Half) → faults h ≤ mid h → IsUnread mid after last moment Empty h
    → (tells → IsStopped mid after last moment h) → IsFailed faults after last moment (tells → NoStore) h
fault_failed tells NoStore Empty faults mid after last moment h le unread stopped = record {
  failed = failed_before (faults h) (mid h) (after h) (last h) le unread.failed;
  last = of (nat_eq (last h) moment) refl;
}
  where
    of : (b : Bool) → nat_eq (last h) moment ≡ b → (last h ≡ moment) ⊎ ((moment ≡ min (last h + 1) (2 ^ 64 - 1)) × (tells → NoStore))
    of true e = inl (eqb-true (last h) moment e)
    of false e = elim unread.last [
      | inl is ↦ inl is
      | inr (at, stood, empty) ↦ inr (subst (λ (k : Half). moment ≡ min (last k + 1) (2 ^ 64 - 1)) (sym at) stood, λ told. absurd (eqb-false (last h) moment e (stopped told).last))
    ]

module _ (tells : Type 0) (before : Result State Refused) (failed : Half → Type 0) (old new : Option (List ℕ)) (sink_rose : Type 0) (told : List File → Type 0)
    (known : tells → (state : State) × (before ≡ Ok state) × told state.files) where
  all_ends : (status : Status) → ListsAll told old new sink_rose status → CommandEnds tells before failed show_text old new sink_rose status
  all_ends status all =
      command_finished tells before failed show_text old new sink_rose all.text status
      (shown_state tells before show_text all.text (let s : State = record { format = 0; blocks = 0; key = 0; files = all.shown } in s) (sym all.shows)
      (λ t. let k = known t in (k.0, k.1, sym (all.those_told k.0.files k.2))))
      all.ends

  not_ends : (status : Status) (why : WalkRefused) → ((files : List File) → told files → IsNoCause why) → ((h : Half) → why ≡ ReadFault h → failed h)
      → UnlistedEnds old new sink_rose why status → CommandEnds tells before failed show_text old new sink_rose status
  not_ends status (ReadFault half) none fault ends = command_drive tells before failed show_text old new sink_rose half status (fault half refl) ends.0 ends.1
  not_ends status (Unlawful block why) none fault ends =
      command_refused tells before failed show_text old new sink_rose (record { block = block; why = why }) status (λ t. absurd (none (known t).0.files (known t).2)) ends
  not_ends status NoMemory none fault ends = command_memory tells before failed show_text old new sink_rose status ends.0 ends.1

  pub show_ends : (stopped unread : Half → Type 0) (status : Status) → ((h : Half) → unread h → (tells → stopped h) → failed h)
      → ShowEnds told stopped unread old new sink_rose status → CommandEnds tells before failed show_text old new sink_rose status
  show_ends stopped unread status fault (inl all) = all_ends status all
  show_ends stopped unread status fault (inr stops) =
      not_ends status stops.why stops.no_cause (λ h is. fault h (stops.failed h is) (λ t. stops.failed_last h is (known t).0.files (known t).2)) stops.ends

-- reading what was opened changes nothing more
module _ {V : Type 0} (v : Device V) where
  pub found_on : (a b c : V) → SameFound (v.size a) (contents_on v a) (contents_on v b) → SameContents (contents_on v b) (contents_on v c)
      → SameFound (v.size a) (contents_on v a) (contents_on v c)
  found_on a b c first second = ap (λ (f : ℕ → Option (List ℕ)). found f (v.size a)) (λ i n. second n i) ∙ first

  pub read_opened : (a b c : V) → OnlyOpened v a b → (v.tells → SameContents (contents_on v b) (contents_on v c))
      → Changes v.moment (ContentsLeft v.may_leave) b c SameContents → LaterFaults (v.faults b) (v.faults c) (v.last_fault b) (v.last_fault c) → v.size c ≡ v.size b
      → OnlyOpened v a c
  read_opened a b c first same images later size_same = record {
    same = λ told. found_on a b c (first.same told) (same told);
    images = λ told rest.
        let R : (ℕ → Option (List ℕ)) → (ℕ → Option (List ℕ)) → Type 0 = SameFound (v.size a) in
        goes_on v.moment (ContentsLeft v.may_leave) a b c R R SameContents R (first.images told rest) (leaves_now v.moment (ContentsLeft v.may_leave) a b R (first.images told rest)) images
        (λ x y l r. r) (λ x y z l r s. ap (λ (f : ℕ → Option (List ℕ)). found f (v.size a)) (λ i n. s n i) ∙ r);
    later = λ h. let p = first.later h in let q = later h in (omega (arith, p, q), omega (arith, p, q));
    size_same = size_same ∙ first.size_same;
  }
