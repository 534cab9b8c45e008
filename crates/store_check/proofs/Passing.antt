-- How what a call shows of a walk is handed on: past an early exit, and from one state of the survey to another one.
use Rattle.std.proofs.Common.{◌≡◌, ℕ, ◌<◌, Bool, List, Result, Ok, Err, refl, sym, subst, ap, [], ◌++◌, append_assoc}
use Rattle.drives.specs.declared.device.Half.{Half}
use Rattle.pair_store.specs.declared.store.Blocks.{Ghosts}
use Rattle.store_model.specs.Walk.{Refused}
use Rattle.store_check.specs.declared.refused.WalkRefused.{WalkRefused}
use Rattle.store_check.specs.declared.refused.WalkRefused.TheVariants.{ReadFault, BadStore, Memory}
use Rattle.store_check.specs.Since.{is_past}
use Rattle.store_check.specs.Surveyed.{SurveyValue, IsTold}
use Rattle.store_check.specs.Results.{Outcome, Stop, StopsBy, Stops, Walks, Shows, Gets, IsNoCauseBy, IsNoCause}

-- why the call on this store stopped
abbrev pub stopped_at : {D : Type 0} → Ghosts D → D → WalkRefused → Stop
stopped_at b store e = record { refused = e; past = is_past b store }

-- a walk that stops where another one stops
stops_by : {X Y : Type 0} (e : WalkRefused) (past : Half → Bool) (o : Outcome X) (p : Outcome Y) → StopsBy e past o
    → ((cause : Refused) → o ≡ Err cause → p ≡ Err cause) → StopsBy e past p
stops_by (BadStore block why) past o p h on = on (record { block = block; why = why }) h
stops_by (ReadFault half) past o p h on = λ late. ((h late).0, on (h late).0 (h late).1)
stops_by Memory past o p h on = tt

pub stops_on : {X Y : Type 0} (e : Stop) (o : Outcome X) (p : Outcome Y) → Stops e o → ((cause : Refused) → o ≡ Err cause → p ≡ Err cause) → Stops e p
stops_on e o p h on = stops_by e.refused e.past o p h on

-- where there is no cause, every walk stops so
any_by : {X : Type 0} (e : WalkRefused) (past : Half → Bool) (o : Outcome X) → IsNoCauseBy e past → StopsBy e past o
any_by (BadStore block why) past o h = absurd h
any_by (ReadFault half) past o h = λ late. absurd (h late)
any_by Memory past o h = tt

pub stops_any : {X : Type 0} (e : Stop) (o : Outcome X) → IsNoCause e → Stops e o
stops_any e o h = any_by e.refused e.past o h

module _ {T X : Type 0} (Like : T → X → Type 0) where
  -- an early exit
  pub shows_exit : (result : Result T WalkRefused) (e : Stop) (o : Outcome X) (after : List ℕ) → result ≡ Err e.refused → Stops e o → Shows e.past Like result o after
  shows_exit result e o after is stops = let P : Result T WalkRefused → Type 0 = λ r. Shows e.past Like r o after in subst P (sym is) stops

  -- another walk that comes to the same
  pub shows_as : (past : Half → Bool) (result : Result T WalkRefused) (o p : Outcome X) (after : List ℕ) → p ≡ o → Shows past Like result o after → Shows past Like result p after
  shows_as past result o p after same shows = let P : Outcome X → Type 0 = λ r. Shows past Like result r after in subst P (sym same) shows

pub gets_exit : {T : Type 0} (P : T → Type 0) (result : Result T WalkRefused) (e : Stop) → result ≡ Err e.refused → IsNoCause e → Gets e.past P result
gets_exit {T} P result e is none = let Q : Result T WalkRefused → Type 0 = λ r. Gets e.past P r in subst Q (sym is) none

module _ {D : Type 0} (g : Ghosts D) (a b : SurveyValue D) (began : b.began ≡ a.began) (count : b.count ≡ a.count) where
  pub told_on : IsTold g a → IsTold g b
  told_on told = record {
    told = told.told;
    each = λ n low. let P : ℕ → Type 0 = λ m. n < m in let Q : D → Type 0 = λ d. g.settled d n in subst Q (sym began) (told.each n (subst P count low));
  }

  pub back : (P : D → ℕ → Type 0) → P b.began b.count → P a.began a.count
  back P h = let Q : D → Type 0 = λ d. P d b.count in let R : ℕ → Type 0 = λ n. P a.began n in subst R count (subst Q began h)

  pub on : (P : D → ℕ → Type 0) → P a.began a.count → P b.began b.count
  on P h = let Q : D → Type 0 = λ d. P d b.count in let R : ℕ → Type 0 = λ n. P a.began n in subst Q (sym began) (subst R (sym count) h)

-- what was found before the rest of it
abbrev pub prepended : {X : Type 0} → List X → Outcome (List X) → Outcome (List X)
prepended here (Ok p) = Ok (here ++ p.0, p.1)
prepended here (Err e) = Err e

pub prepended_nothing : {X : Type 0} (o : Outcome (List X)) → prepended [] o ≡ o
prepended_nothing (Ok p) = refl
prepended_nothing (Err e) = refl

pub prepended_twice : {X : Type 0} (here more : List X) (o : Outcome (List X)) → prepended here (prepended more o) ≡ prepended (here ++ more) o
prepended_twice here more (Ok p) = ap (λ xs. Ok (xs, p.1)) (sym (append_assoc here more p.0))
prepended_twice here more (Err e) = refl

pub walks_exit : {T X : Type 0} (view : T → X) (result : Result T WalkRefused) (e : Stop) (o : Outcome X) (after : List ℕ) → result ≡ Err e.refused → Stops e o
    → Walks e.past view result o after
walks_exit {T} view result e o after is stops = let P : Result T WalkRefused → Type 0 = λ r. Walks e.past view r o after in subst P (sym is) stops
