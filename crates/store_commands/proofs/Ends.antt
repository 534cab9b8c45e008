-- How the ends of the commands are put together.
use Rattle.std.proofs.Common.{◌≡◌, ◌⊎◌, inl, inr, ℕ, ◌+◌, ◌-◌, ◌^◌, min, List, length, Option, Result, Ok, Err, refl, sym, ap, ◌∙◌, arith}
use Rattle.drives.specs.declared.device.Half.{Half}
use Rattle.drives.specs.Faults.{HasFailed}
use Rattle.page_codec.specs.Values.{TableValue}
use Rattle.block_map.specs.declared.states.BlockState.{BlockState}
use Rattle.afs_base.specs.declared.head.Head.{Head}
use Rattle.tree_model.specs.States.{State}
use Rattle.store_model.specs.Walk.{Refused}
use Rattle.store_model.specs.Found.{found, state_in, state_of}
use Rattle.recovery.specs.Opening.{IsBad, IsFailed, IsOpened, heads_of}
use Rattle.recovery.specs.Rolling.{IsUnwritten}
use Rattle.recovery.specs.declared.refused.OpenRefused.{OpenRefused}
use Rattle.recovery.specs.declared.refused.OpenRefused.TheVariants.{ReadFault, WriteFault, BadStore as Unlawful, Memory as NoMemory}
use Rattle.caps.specs.Tables.{seal_of}
use Rattle.endings.specs.Commands.{CommandEnds}
use Rattle.endings.specs.declared.status.Status.{Status}
use Rattle.endings.proofs.Commands.{command_drive, command_memory, command_refused, shown_state}
use Rattle.store_commands.specs.Counting.{counted_text}
use Rattle.store_commands.specs.Opening.{RefusedEnds}
use Rattle.store_commands.specs.Texts.{cap_text, check_text, sealed_text}
use Rattle.store_commands.proofs.Counted.{found_counts, text_same}
use Rattle.store_commands.proofs.Shown.{shown, shown_counts}
use Rattle.store_commands.proofs.Sealed.{found_seals, sealed_state, shown_seals, text_sealed}

-- ---- halves that failed

-- the clock that stood at its end then stands there now
at_end : (last moment : ℕ) (NoStore : Type 0) → (last ≡ moment) ⊎ ((moment ≡ min (last + 1) (2 ^ 64 - 1)) × NoStore) → last ≡ 2 ^ 64 - 1 → moment ≡ 2 ^ 64 - 1
at_end last moment NoStore (inl same) e = sym same ∙ e
at_end last moment NoStore (inr next) e = omega (arith, next.0, e)

-- so did one that stopped an opening
pub opening_failed : (faults faults_after last_after : Half → ℕ) (moment_after : ℕ) (NoStore : Type 0) (h : Half) → IsFailed faults faults_after last_after moment_after NoStore h
    → HasFailed (faults h) (faults_after h) moment_after
opening_failed faults faults_after last_after moment_after NoStore h failed = of failed.failed
  where
    of : HasFailed (faults h) (faults_after h) (last_after h) → HasFailed (faults h) (faults_after h) moment_after
    of (inl rose) = inl rose
    of (inr end) = inr (at_end (last_after h) moment_after NoStore failed.last end)

-- a fault in a write is one whether or not there is a store
pub write_failed : (faults faults_after last_after : Half → ℕ) (moment_after : ℕ) (NoStore : Type 0) (h : Half) → IsFailed faults faults_after last_after moment_after ⊥ h
    → IsFailed faults faults_after last_after moment_after NoStore h
write_failed faults faults_after last_after moment_after NoStore h failed = record { failed = failed.failed; last = of failed.last }
  where
    of : (last_after h ≡ moment_after) ⊎ ((moment_after ≡ min (last_after h + 1) (2 ^ 64 - 1)) × ⊥)
        → (last_after h ≡ moment_after) ⊎ ((moment_after ≡ min (last_after h + 1) (2 ^ 64 - 1)) × NoStore)
    of (inl same) = inl same
    of (inr none) = absurd none.1

-- no write failed where no half's write is the cause
pub none_unwritten : (why : OpenRefused) → ((h : Half) → why ≡ WriteFault h → ⊥) → IsUnwritten {T = Unit {0}} (Err why)
none_unwritten (ReadFault h) none = tt
none_unwritten (WriteFault h) none = none h refl
none_unwritten (Unlawful block why) none = tt
none_unwritten NoMemory none = tt

-- ---- a store that was not opened

pub refused_command : (tells : Type 0) (before : Result State Refused) (failed : Half → Type 0) (text : State → List ℕ) (old new : Option (List ℕ)) (sink_rose : Type 0)
    (why : OpenRefused) (status : Status) → ((h : Half) → why ≡ ReadFault h → failed h) → ((h : Half) → why ≡ WriteFault h → failed h) → (tells → IsBad before why)
    → RefusedEnds old new sink_rose why status → CommandEnds tells before failed text old new sink_rose status
refused_command tells before failed text old new sink_rose (ReadFault half) status unread unwritten bad ends =
    command_drive tells before failed text old new sink_rose half status (unread half refl) ends.0 ends.1
refused_command tells before failed text old new sink_rose (WriteFault half) status unread unwritten bad ends =
    command_drive tells before failed text old new sink_rose half status (unwritten half refl) ends.0 ends.1
refused_command tells before failed text old new sink_rose (Unlawful block why) status unread unwritten bad ends =
    command_refused tells before failed text old new sink_rose (record { block = block; why = why }) status bad ends
refused_command tells before failed text old new sink_rose NoMemory status unread unwritten bad ends =
    command_memory tells before failed text old new sink_rose status ends.0 ends.1

-- ---- a store that was opened

-- the state that was found as the call began
found_before : (before : Result State Refused) (content : ℕ → Option (List ℕ)) (most : ℕ) (table : TableValue) (states : List BlockState) (heads : List (Option Head))
    → found content most ≡ before → (o : IsOpened content most table states heads) → before ≡ Ok (state_in o.store)
found_before before content most table states heads same o = sym same ∙ ap state_of o.laid

pub counted_state : (tells : Type 0) (before : Result State Refused) (content : ℕ → Option (List ℕ)) (most : ℕ) (table : TableValue) (states : List BlockState)
    (heads : List (Option Head)) → length heads ≡ length table.entries → (tells → found content most ≡ before) → (tells → IsOpened content most table states heads)
    → (state : State) × (tells → before ≡ Ok state) × (check_text state ≡ counted_text table heads)
counted_state tells before content most table states heads even same opened =
    shown_state tells before check_text (counted_text table heads) (shown table heads) (text_same table heads (shown table heads) (shown_counts table heads even))
    (λ told. let o : IsOpened content most table states heads = opened told in (
      state_in o.store,
      found_before before content most table states heads (same told) o,
      text_same table (heads_of o.store.files) (state_in o.store) (found_counts content most o.store o.places table o.laid o.table) ∙ ap (counted_text table) (sym o.heads),
    ))

pub sealed_found : (tells : Type 0) (before : Result State Refused) (content : ℕ → Option (List ℕ)) (most : ℕ) (table : TableValue) (states : List BlockState)
    (heads : List (Option Head)) (object rights : ℕ) → (tells → found content most ≡ before) → (tells → IsOpened content most table states heads)
    → (state : State) × (tells → before ≡ Ok state) × (cap_text object rights state ≡ sealed_text object rights (seal_of table object))
sealed_found tells before content most table states heads object rights same opened =
    shown_state tells before (cap_text object rights) (sealed_text object rights (seal_of table object)) (sealed_state table)
    (text_sealed table (sealed_state table) object rights (shown_seals table))
    (λ told. let o : IsOpened content most table states heads = opened told in (
      state_in o.store,
      found_before before content most table states heads (same told) o,
      text_sealed table (state_in o.store) object rights (found_seals content most o.store o.places table o.laid o.table),
    ))
