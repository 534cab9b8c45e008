-- The files of a state after one of them was changed.
use Rattle.std.proofs.Common.{◌≡◌, ◌≢◌, ◌⊎◌, inl, inr, ℕ, zero, suc, ◌-◌, ◌≤◌, false, nat_eq, Option, Some, None, refl, sym, ap, ◌∙◌, subst, arith, length-set}
use Rattle.std.specs.Prelude.{slice_get, slice_set, if◌then◌else◌}
use Rattle.std.specs.Option.{option_map_or}
use Rattle.std.proofs.lemmas.Bool.{cases_eq}
use Rattle.std.proofs.lemmas.Bool.Decides.{nat_tests}
use Rattle.tree_model.specs.States.{State, File, IsState, IsFile, file_of}
use Rattle.service_model.specs.Entries.{with_file, on_file}
use Rattle.service_model.proofs.Members.{set_here, set_elsewhere}

pub no_some : {X : Type 0} {A : Type 0} (x : X) → None ≡ Some x → A
no_some x e = absurd (cc e)

not_zero : (n : ℕ) → nat_eq (suc n) 0 ≡ false
not_zero n = grind (arith, nat_tests)

-- objects count from 1
pub from_one : (state : State) (object : ℕ) (file : File) → file_of state object ≡ Some file → 1 ≤ object
from_one state zero file e = no_some file e
from_one state (suc n) file e = omega arith

pub listed_at : (state : State) (object : ℕ) (file : File) → file_of state object ≡ Some file → slice_get state.files (object - 1) ≡ Some file
listed_at state zero file e = no_some file e
listed_at state (suc n) file e = sym (ap (λ b. if b then None else slice_get state.files (suc n - 1)) (not_zero n)) ∙ e

pub found_at : (state : State) (object : ℕ) (file : File) → 1 ≤ object → slice_get state.files (object - 1) ≡ Some file → file_of state object ≡ Some file
found_at state zero file a e = absurd (omega (arith, a))
found_at state (suc n) file a e = ap (λ b. if b then None else slice_get state.files (suc n - 1)) (not_zero n) ∙ e

pub file_sound : (state : State) (object : ℕ) (file : File) → IsState state → file_of state object ≡ Some file → IsFile file
file_sound state object file sound e = sound.each (object - 1) file (listed_at state object file e)

module _ (state : State) (object : ℕ) (change : File → File) where
  -- the file itself
  pub here_file : (file : File) → file_of state object ≡ Some file → file_of (on_file state object change) object ≡ Some (change file)
  here_file file e =
      let a : 1 ≤ object = from_one state object file e in
      let F : State → Type 0 = λ x. file_of x object ≡ Some (change file) in
      let is : on_file state object change ≡ with_file state object (change file)
      = ap (λ x. option_map_or (λ f. with_file state object (change f)) x state) e in
      subst F (sym is) (found_at (with_file state object (change file)) object (change file) a
      (set_here state.files (object - 1) file (change file) (listed_at state object file e)))

  -- the file of another object
  pub other_file : (other : ℕ) → other ≢ object → file_of (on_file state object change) other ≡ file_of state other
  other_file zero ne = refl
  other_file (suc n) ne = by (file_of state object) refl
    where
      by : (x : Option File) → file_of state object ≡ x
          → file_of (option_map_or (λ file. with_file state object (change file)) x state) (suc n) ≡ file_of state (suc n)
      by None e = refl
      by (Some file) e =
          let a : 1 ≤ object = from_one state object file e in
          let apart : (object - 1) ≢ (suc n - 1) = λ h. ne (let same : suc n ≡ object = omega (arith, a, h) in same) in
          ap (λ x. if nat_eq (suc n) 0 then None else x) (set_elsewhere state.files (object - 1) (suc n - 1) (change file) apart)

  -- a state stays one where the file stays one
  pub state_on : IsState state → ((file : File) → file_of state object ≡ Some file → IsFile file → IsFile (change file))
      → IsState (on_file state object change)
  state_on sound each = by (file_of state object) refl
    where
      by : (x : Option File) → file_of state object ≡ x → IsState (option_map_or (λ file. with_file state object (change file)) x state)
      by None e = sound
      by (Some file) e = record {
        format = sound.format;
        count = length-set state.files (object - 1) (change file) ∙ sound.count;
        each = λ k f at. at_place k f at (cases_eq k (object - 1));
      }
        where
          here : slice_get state.files (object - 1) ≡ Some file
          here = listed_at state object file e

          at_place : (k : ℕ) (f : File) → slice_get (slice_set state.files (object - 1) (change file)) k ≡ Some f
              → (k ≡ object - 1) ⊎ (k ≡ object - 1 → ⊥) → IsFile f
          at_place k f at (inl same) =
              let set_is : slice_get (slice_set state.files (object - 1) (change file)) (object - 1) ≡ Some (change file)
              = set_here state.files (object - 1) file (change file) here in
              let moved : slice_get (slice_set state.files (object - 1) (change file)) k ≡ Some (change file)
              = ap (λ i. slice_get (slice_set state.files (object - 1) (change file)) i) same ∙ set_is in
              let both : change file ≡ f = cc (moved, at) in
              let F : File → Type 0 = λ x. IsFile x in
              subst F both (each file e (sound.each (object - 1) file here))
          at_place k f at (inr ne) =
              sound.each k f (sym (set_elsewhere state.files (object - 1) k (change file) (λ h. ne (sym h))) ∙ at)
