-- What is so where a cause is not there.
use Rattle.std.proofs.Common.{◌≡◌, ◌≢◌, ◌⊎◌, inl, inr, ℕ, zero, suc, ◌+◌, ◌-◌, ◌≤◌, ◌==◌, Bool, true, false, not, ◌&&◌, List, [], ◌∷◌, map, length, Option, Some, None, Ok, Err, Contains, is_some, option_map, option_and_then, refl, sym, ap, ◌∙◌, subst, arith, nat_lt}
use Rattle.std.specs.Prelude.{slice_index_or, if◌then◌else◌}
use Rattle.std.specs.Option.{option_map_or}
use Rattle.std.proofs.lemmas.Bool.{cases_Bool, cases_eq, and_cases, not-false, eq-eqb, eqb-true}
use Rattle.caps.specs.declared.denied.DeniedWhy.TheVariants.{NoObject}
use Rattle.caps.specs.Grant.{SealValue, granted}
use Rattle.caps.specs.Grant as caps
use Rattle.script_text.specs.declared.command.FileName.{FileName}
use Rattle.script_text.specs.declared.command.FileName.TheVariants.{Number, Cap}
use Rattle.script_text.specs.declared.reply.LineRefusal.{LineRefusal}
use Rattle.script_text.specs.declared.reply.LineRefusal.TheVariants.{Denied, Locked, Busy}
use Rattle.tree_model.specs.States.{State, File, Version, file_of}
use Rattle.service_model.specs.Standing.{Standing, Client, Update, Work, Upkeep, newcomer, client_of, seal_in, seal_of, versions_of, first_other, is_on, has_file, has_locked, pinned_by, locked_by}
use Rattle.service_model.specs.Causes.{first_cause, when, denial, object_of, denied_cause, locked_cause, busy_cause, open_cause}
use Rattle.service_model.specs.Sound.{IsOpenAt, IsOn, IsLetAlone}
use Rattle.service_model.proofs.Members.{front_or_rest, none_in, in_any}
use Rattle.service_model.proofs.Versions.{versions_here}

-- ---- lists of causes

pub first_none : (cause : Option LineRefusal) (causes : List (Option LineRefusal)) → first_cause (cause ∷ causes) ≡ None
    → (cause ≡ None) × (first_cause causes ≡ None)
first_none None causes h = (refl, h)
first_none (Some cause) causes h = (let no : Some cause ≡ None = h in absurd (cc no))

pub not_when : (test : Bool) (cause : LineRefusal) → when test cause ≡ None → test ≡ false
not_when true cause h = (let no : Some cause ≡ None = h in absurd (cc no))
not_when false cause h = refl

pub none_of_all : {X : Type 0} (f : X → Option LineRefusal) (xs : List X) (x : X) → first_cause (map f xs) ≡ None → Contains xs x → f x ≡ None
none_of_all f [] x none h = absurd (none_in x h)
none_of_all {X} f (y ∷ xs) x none h = by (none_of_all f xs x) (first_none (f y) (map f xs) none) (front_or_rest y xs x h)
  where
    by : (first_cause (map f xs) ≡ None → Contains xs x → f x ≡ None) → (f y ≡ None) × (first_cause (map f xs) ≡ None) → (y ≡ x) ⊎ Contains xs x → f x ≡ None
    by later both (inl same) = ap f (sym same) ∙ both.0
    by later both (inr rest) = later both.1 rest

-- ---- names

-- a name that is granted stands for a live object
sealed : (state : State) (right : ℕ) (name : FileName) → denied_cause state right name ≡ None
    → (seal : SealValue) × (seal_in state (object_of name) ≡ Some seal)
sealed state right (Number object) none = by (seal_in state object) refl
  where
    by : (o : Option SealValue) → seal_in state object ≡ o → (seal : SealValue) × (seal_in state object ≡ Some seal)
    by (Some seal) e = (seal, e)
    by None e =
        let no : Some (Denied (record { why = NoObject })) ≡ None
        = sym (ap (λ o. denial (if is_some o then Ok object else Err NoObject)) e) ∙ none in
        absurd (cc no)
sealed state right (Cap cap) none = by (seal_in state (caps.object_of cap)) refl
  where
    by : (o : Option SealValue) → seal_in state (caps.object_of cap) ≡ o → (seal : SealValue) × (seal_in state (caps.object_of cap) ≡ Some seal)
    by (Some seal) e = (seal, e)
    by None e =
        let no : Some (Denied (record { why = NoObject })) ≡ None
        = sym (ap (λ o. denial (granted o cap right)) e) ∙ none in
        absurd (cc no)

-- an object that has a seal has a version
live_of : (state : State) (object : ℕ) (seal : SealValue) → seal_in state object ≡ Some seal
    → (v : Version) × Contains (versions_of state object) v
live_of state object seal e = by (file_of state object) refl e
  where
    listed : (file : File) → file_of state object ≡ Some file → (versions : List Version) → file.versions ≡ versions
        → (if nat_lt 0 (length versions) then Some (let x : SealValue = record { secret = file.secret; generation = file.generation } in x) else None) ≡ Some seal
        → (v : Version) × Contains (versions_of state object) v
    listed file is [] same h = (let no : None ≡ Some seal = h in absurd (cc no))
    listed file is (v ∷ versions) same h =
        let F : List Version → Type 0 = λ l. Contains l v in
        (v, subst F (sym (versions_here state object file is ∙ same)) (0, omega arith, refl))

    by : (o : Option File) → file_of state object ≡ o → option_and_then seal_of o ≡ Some seal → (v : Version) × Contains (versions_of state object) v
    by None is h = (let no : None ≡ Some seal = h in absurd (cc no))
    by (Some file) is h = listed file is file.versions refl h

pub live_by_name : (state : State) (right : ℕ) (name : FileName) → denied_cause state right name ≡ None
    → (v : Version) × Contains (versions_of state (object_of name)) v
live_by_name state right name none = (let s = sealed state right name none in live_of state (object_of name) s.0 s.1)

-- ---- other clients

none_other : (k n : ℕ) (test : Client → Bool) (clients : List Client) → first_other k test n clients ≡ None
    → (i : ℕ) → n + i ≢ k → test newcomer ≡ false → test (slice_index_or clients i newcomer) ≡ false
none_other k n test [] none i ne new = new
none_other k n test (c ∷ clients) none i ne new =
    by (λ rest m far. none_other k (suc n) test clients rest m far new) (cases_Bool (test c && not (n == k))) i ne
  where
    by : (first_other k test (suc n) clients ≡ None → (m : ℕ) → suc n + m ≢ k → test (slice_index_or clients m newcomer) ≡ false)
        → ((test c && not (n == k)) ≡ true) ⊎ ((test c && not (n == k)) ≡ false) → (i : ℕ) → n + i ≢ k
        → test (slice_index_or (c ∷ clients) i newcomer) ≡ false
    by later (inl e) i ne =
        let no : Some n ≡ None = sym (ap (λ b. if b then Some n else first_other k test (suc n) clients) e) ∙ none in
        absurd (cc no)
    by later (inr e) zero ne = elim (and_cases (test c) (not (n == k)) e) [
      | inl is ↦ is
      | inr is ↦ absurd (ne (let same : n ≡ k = eqb-true n k (not-false (n == k) is) in omega (arith, same)))
    ]
    by later (inr e) (suc i) ne =
        later (sym (ap (λ b. if b then Some n else first_other k test (suc n) clients) e) ∙ none) i (λ h. ne (omega (arith, h)))

pub none_has : (s : Standing) (k : ℕ) (test : Client → Bool) → first_other k test 1 s.clients ≡ None → test newcomer ≡ false
    → (i : ℕ) → 1 ≤ i → i ≢ k → test (client_of s i) ≡ false
none_has s k test none new i a ne = none_other k 1 test s.clients none (i - 1) (λ h. ne (omega (arith, a, h))) new

pub file_had : (object : ℕ) (u : Update) (w : Work) → Contains u.works w → w.object ≡ object → has_file object u ≡ true
file_had object u w h e = in_any (λ (x : Work). x.object == object) u.works w h (eq-eqb w.object object e)

-- no client has an update of a file open where neither this one has one nor any other
pub let_alone : (s : Standing) (k object : ℕ) → open_cause (client_of s k) ≡ None → pinned_by s k object ≡ None → IsLetAlone s object
let_alone s k object own none = λ i w on same. by i w on same (cases_eq i k)
  where
    by : (i : ℕ) (w : Work) → (on : IsOn s i w) → w.object ≡ object → (i ≡ k) ⊎ (i ≢ k) → ⊥
    by i w on same (inl e) =
        let none_open : is_some (client_of s k).update ≡ false = not_when (is_some (client_of s k).update) _ own in
        let open_here : (client_of s k).update ≡ Some on.update = ap (λ n. (client_of s n).update) (sym e) ∙ on.is_open in
        let no : true ≡ false = sym (ap (λ (o : Option Update). is_some o) open_here) ∙ none_open in
        cc no
    by i w on same (inr ne) =
        let off : is_on object (client_of s i) ≡ false = none_has s k (is_on object) none refl i on.number ne in
        let is : is_on object (client_of s i) ≡ true
        = ap (λ o. option_map_or (has_file object) o false) on.is_open ∙ file_had object on.update w on.listed same in
        let no : true ≡ false = sym is ∙ off in
        cc no

-- no client but this one has maintenance under way
pub not_busy : (s : Standing) (k : ℕ) (up : Upkeep) → busy_cause s k ≡ None → s.upkeep ≡ Some up → up.client ≡ k
not_busy s k up none e =
    let test : not (up.client == k) ≡ false
    = not_when (not (up.client == k)) (Busy up.client)
    (sym (ap (λ o. option_and_then (λ (x : Upkeep). when (not (x.client == k)) (Busy x.client)) o) e) ∙ none) in
    eqb-true up.client k (not-false (up.client == k) test)

-- no other client has a file locked
pub not_locked : (s : Standing) (k : ℕ) (objects : List ℕ) (object : ℕ) → locked_cause s k objects ≡ None → Contains objects object → locked_by s k object ≡ None
not_locked s k objects object none h = by (locked_by s k object) (none_of_all (λ o. option_map Locked (locked_by s k o)) objects object none h)
  where
    by : (o : Option ℕ) → option_map Locked o ≡ None → o ≡ None
    by None e = refl
    by (Some n) e = (let no : Some (Locked n) ≡ None = e in absurd (cc no))

-- an update of several files of another client has no file that nobody else has locked
pub lock_held : (s : Standing) (k object : ℕ) → locked_by s k object ≡ None → (i : ℕ) (u : Update) → 1 ≤ i → i ≢ k → IsOpenAt s i u
    → u.is_super ≡ true → has_file object u ≡ true → ⊥
lock_held s k object none i u a ne is super had =
    let off : has_locked object (client_of s i) ≡ false = none_has s k (has_locked object) none refl i a ne in
    let on : has_locked object (client_of s i) ≡ true
    = ap (λ o. option_map_or (λ (x : Update). x.is_super && has_file object x) o false) is
    ∙ ap (λ b. b && has_file object u) super ∙ had in
    let no : true ≡ false = sym on ∙ off in
    cc no
