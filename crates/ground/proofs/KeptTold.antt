-- What is known of the versions that files keep is so, while no fault has come.
use Rattle.std.proofs.Common.{◌≡◌, ℕ, zero, suc, ◌-◌, ◌≤◌, Bool, true, false, nat_eq, cond, List, [], ◌∷◌, length, map, Option, Some, None, refl, sym, ap, ◌∙◌, subst, arith, eqb-true}
use Rattle.std.specs.Prelude.{MatchOption, option_and_then, option_map, slice_get}
use Rattle.std.proofs.lemmas.List.{length-map}
use Rattle.std.proofs.lemmas.Option.{slice_get-map}
use Rattle.afs_base.specs.declared.head.Head.{Head}
use Rattle.pair_store.specs.declared.store.Blocks.{Ghosts}
use Rattle.recovery.specs.Opening.{head_of, heads_of}
use Rattle.service_model.specs.Entries.{serial_state}
use Rattle.service_model.specs.Standing.{Standing}
use Rattle.store_check.specs.Files.{first_serial, kept_by}
use Rattle.store_model.specs.Found.{LaidStore, file_in, state_in, version_in}
use Rattle.store_model.specs.Laid.{LaidFile, LaidVersion, last_laid}
use Rattle.tree_model.specs.States.{State, Version, last_of}
use Rattle.session.specs.Names.{HasNoHead}
use Rattle.session.specs.Opening.{TellsSerials, told_of}
use Rattle.ground.specs.Grounds.{AllStand, HasRun, IsGround, StandsOr}
use Rattle.ground.specs.Promises.{first_of, kept_in, kept_of}
use Rattle.ground.specs.Runs.{GroundValue, entries_in, scripts_in}
use Rattle.ground.specs.Turning.{IsRunOf}

-- ---- one file

abbrev serials : Head → ℕ × ℕ
serials head = (head.first, head.serial)

first_is : (vs : List LaidVersion) → first_of (map version_in vs) ≡ first_serial vs
first_is [] = refl
first_is (v ∷ vs) = refl

last_is : (vs : List LaidVersion) → last_of (map version_in vs) ≡ option_map version_in (last_laid vs)
last_is vs = ap (λ n. slice_get (map version_in vs) (n - 1)) (length-map vs version_in) ∙ slice_get-map version_in vs (length vs - 1)

-- a file keeps what is told of it
file_keeps : (file : LaidFile) → kept_of (file_in file) ≡ option_map serials (head_of file.versions)
file_keeps file = ap (option_map (λ (v : Version). (first_of (map version_in file.versions), v.serial))) (last_is file.versions) ∙ by (last_laid file.versions)
  where
    by : (last : Option LaidVersion) → option_map (λ (v : Version). (first_of (map version_in file.versions), v.serial)) (option_map version_in last)
        ≡ option_map serials (option_map (λ (v : LaidVersion). (let h : Head = record { block = v.block; first = first_serial file.versions; serial = v.serial; kept = kept_by file.versions } in h)) last)
    by None = refl
    by (Some v) = ap (λ n. Some (n, v.serial)) (first_is file.versions)

-- what is told of all files is what they keep
pub told_kept : (files : List LaidFile) → told_of (heads_of files) ≡ map kept_of (map file_in files)
told_kept [] = refl
told_kept (file ∷ files) = ap (λ (o : Option (ℕ × ℕ)). o ∷ told_of (heads_of files)) (sym (file_keeps file)) ∙ ap (λ os. kept_of (file_in file) ∷ os) (told_kept files)

-- ---- an object

some : (n : ℕ) → nat_eq (suc n) 0 ≡ false
some n = by (nat_eq (suc n) 0) refl
  where
    by : (z : Bool) → nat_eq (suc n) 0 ≡ z → z ≡ false
    by true is = absurd (let zero_is = eqb-true (suc n) 0 is in omega (arith, zero_is))
    by false is = refl

-- an object of a store keeps what is told of it
object_keeps : (store : LaidStore) (object : ℕ) → 1 ≤ object
    → kept_in (state_in store) object ≡ option_and_then (option_map serials) (slice_get (heads_of store.files) (object - 1))
object_keeps store zero low = absurd (omega (arith, low))
object_keeps store (suc object) low =
    ap (λ z. option_and_then kept_of (cond z None (slice_get (map file_in store.files) (suc object - 1)))) (some object) ∙ by (suc object - 1)
  where
    by : (i : ℕ) → option_and_then kept_of (slice_get (map file_in store.files) i) ≡ option_and_then (option_map serials) (slice_get (heads_of store.files) i)
    by i = ap (option_and_then kept_of) (slice_get-map file_in store.files i) ∙ at (slice_get store.files i)
        ∙ sym (ap (option_and_then (option_map serials)) (slice_get-map (λ (f : LaidFile). head_of f.versions) store.files i))
      where
        at : (o : Option LaidFile) → option_and_then kept_of (option_map file_in o) ≡ option_and_then (option_map serials) (option_map (λ (f : LaidFile). head_of f.versions) o)
        at None = refl
        at (Some file) = file_keeps file

-- what is known by these heads is what they tell
known_is : (heads : List (Option Head)) (object : ℕ) (result : Option (ℕ × ℕ)) → 1 ≤ object → MatchOption result (HasNoHead heads object) (TellsSerials heads object)
    → result ≡ option_and_then (option_map serials) (slice_get heads (object - 1))
known_is heads object None low none = sym (by (slice_get heads (object - 1)) refl)
  where
    by : (o : Option (Option Head)) → slice_get heads (object - 1) ≡ o → option_and_then (option_map serials) o ≡ None
    by None is = refl
    by (Some None) is = refl
    by (Some (Some head)) is = absurd (none head (low, is))
known_is heads object (Some x) low told = ap Some told.are ∙ sym (ap (option_and_then (option_map serials)) told.told.1)

-- no object has number 0
none_is : (heads : List (Option Head)) (state : State) (result : Option (ℕ × ℕ)) → MatchOption result (HasNoHead heads 0) (TellsSerials heads 0) → result ≡ kept_in state 0
none_is heads state None none = refl
none_is heads state (Some x) told = absurd (let low = told.told.0 in omega (arith, low))

state_keeps : (store : LaidStore) (heads : List (Option Head)) (state : State) (object : ℕ) (result : Option (ℕ × ℕ)) → heads ≡ heads_of store.files → state_in store ≡ state
    → MatchOption result (HasNoHead heads object) (TellsSerials heads object) → result ≡ kept_in state object
state_keeps store heads state zero result are is told = none_is heads state result told
state_keeps store heads state (suc object) result are is told =
    known_is heads (suc object) result (omega arith) told ∙ ap (λ hs. option_and_then (option_map serials) (slice_get hs (suc object - 1))) are
    ∙ sym (object_keeps store (suc object) (omega arith)) ∙ ap (λ s. kept_in s (suc object)) is

-- ---- a run

pub kept_told : {D : Type 0} (b : Ghosts D) (was g : GroundValue D) (object : ℕ) (result : Option (ℕ × ℕ)) → was ≡ g → IsGround b was
    → MatchOption result (HasNoHead was.common.heads.items object) (TellsSerials was.common.heads.items object)
    → (opening : State) → IsRunOf b g opening → g.fault ≡ None → result ≡ kept_in (serial_state opening (scripts_in g) (entries_in g)) object
kept_told {D} b was g object result same ground told opening is none =
    let here : IsGround b g = subst (IsGround b) same ground in
    let h : HasRun b is.first g = here.told is.tells is.first is.opened in
    let over : h.opening ≡ opening = (let one = h.found in let two = is.found in cc (one, two)) in
    let a : AllStand b h.opening is.first g.common g.sessions = subst (StandsOr b h.opening is.first g.common g.sessions) none h.stands in
    let now : a.scene.standing.state ≡ serial_state opening (scripts_in g) (entries_in g) =
    sym (ap (λ (s : Standing). s.state) a.stands.stands.reaches.leads) ∙ ap (λ o. serial_state o (scripts_in g) (entries_in g)) over in
    let heads = subst (λ (x : GroundValue D). MatchOption result (HasNoHead x.common.heads.items object) (TellsSerials x.common.heads.items object)) same told in
    state_keeps a.scene.store g.common.heads.items (serial_state opening (scripts_in g) (entries_in g)) object result a.stands.heads (a.stands.stands.shared.state ∙ now) heads
