-- What a walk gives, where it gives anything: how this is put together.
use Rattle.std.proofs.Common.{◌≡◌, ℕ, Bool, true, false, List, [], Option, Some, None, Result, Ok, Err, refl, ap, subst, cond}
use Rattle.page_codec.specs.declared.why.Why.{Why}
use Rattle.store_model.specs.Walk.{Walk, Refused, bind, done, refuse, check, decoded, content_at, if_some}
use Rattle.store_model.proofs.Steps.{Passed, passed, ok≢err}

-- what the walk finds has this property
abbrev pub Gives : {X : Type 0} → Walk X → (X → Type 0) → Type 0
Gives {X} walk P = (seen : List ℕ) (x : X) (all : List ℕ) → walk seen ≡ Ok (x, all) → P x

pub gives_bind : {X Y : Type 0} (walk : Walk X) (next : X → Walk Y) (P : X → Type 0) (Q : Y → Type 0)
    → Gives walk P → ((x : X) → P x → Gives (next x) Q) → Gives (bind walk next) Q
unfolding bind
gives_bind walk next P Q first second seen y all e =
    let p : Passed (walk seen) next y all = passed (walk seen) next y all e in
    second p.value (first seen p.value p.places p.first) p.places y all p.second

abbrev value_of : {X : Type 0} → X → Result (X × List ℕ) Refused → X
value_of other (Ok p) = p.0
value_of other (Err e) = other

pub gives_done : {X : Type 0} (x : X) (P : X → Type 0) → P x → Gives (done x) P
unfolding done
gives_done x P h seen y all e = subst P (ap (value_of x) e) h

pub gives_refuse : {X : Type 0} (block : ℕ) (why : Why) (P : X → Type 0) → Gives (refuse block why) P
unfolding refuse
gives_refuse block why P seen y all e = absurd (ok≢err e)

pub gives_check : (test : Bool) (block : ℕ) (why : Why) → Gives (check test block why) (λ _. test ≡ true)
unfolding check
gives_check true block why = gives_done true (λ _. true ≡ true) refl
gives_check false block why = gives_refuse block why (λ _. false ≡ true)

pub gives_decoded : {X : Type 0} (block : ℕ) (r : Result X Why) → Gives (decoded block r) (λ x. r ≡ Ok x)
unfolding decoded
gives_decoded block (Ok x) = gives_done x (λ y. Ok x ≡ Ok y) refl
gives_decoded block (Err why) = gives_refuse block why (λ y. Err why ≡ Ok y)

pub gives_content : (block : ℕ) (bytes : Option (List ℕ)) → Gives (content_at block bytes) (λ x. bytes ≡ Some x)
unfolding content_at
gives_content block None = gives_refuse block _ (λ x. None ≡ Some x)
gives_content block (Some bytes) = gives_done bytes (λ x. Some bytes ≡ Some x) refl

pub gives_any : {X : Type 0} (walk : Walk X) → Gives walk (λ _. Unit {0})
gives_any walk seen x all e = tt

pub gives_if : {X : Type 0} (test : Bool) (one two : Walk X) (P : X → Type 0) → (test ≡ true → Gives one P) → (test ≡ false → Gives two P) → Gives (cond test one two) P
gives_if true one two P first second = first refl
gives_if false one two P first second = second refl

pub gives_some : {X Y : Type 0} (value : Option X) (walk : X → Walk (List Y)) (P : List Y → Type 0)
    → P [] → ((x : X) → value ≡ Some x → Gives (walk x) P) → Gives (if_some value walk) P
unfolding if_some
gives_some None walk P none each = gives_done [] P none
gives_some (Some x) walk P none each = each x refl
