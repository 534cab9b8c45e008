-- One more version of a file: the state stays one, and open updates stay sound.
use Rattle.std.proofs.Common.{◌≡◌, ◌⊎◌, inl, inr, ℕ, zero, suc, ◌+◌, ◌-◌, ◌<◌, ◌≤◌, Bool, true, false, not, cond, List, [], ◌∷◌, ◌++◌, map, length, Some, Contains, All, option_map, option_and_then, option_to_list, refl, sym, ap, ◌∙◌, subst, arith}
use Rattle.std.specs.Prelude.{slice_get}
use Rattle.std.specs.FinMap as map
use Rattle.std.specs.Option.{option_map_or}
use Rattle.std.proofs.lemmas.Bool.{cases_eq, and_parts}
use Rattle.std.proofs.lemmas.Option.{slice_get_within, slice_get-map}
use Rattle.std.proofs.lemmas.List.{length-map, length_push, map_push}
use Rattle.std.proofs.lemmas.List.Elements.{All-head, All-tail, Contains-push, Contains-push_cases, Contains-append_left}
use Rattle.tree_model.specs.declared.step.Step.{Step}
use Rattle.tree_model.specs.declared.step.Step.TheVariants.{ReadAt, ListAt, WriteAt, MakeAt, DropAt}
use Rattle.tree_model.specs.States.{State, File, Version, IsState, IsFile, IsRising, file_of, last_serial}
use Rattle.tree_model.specs.Trees.{Tree, IsKept, has, can_make, path_of, without, after, tree_after}
use Rattle.tree_model.proofs.TreeFacts.{kept_put, kept_make, kept_drop}
use Rattle.service_model.specs.Standing.{Update, Work, Made, versions_of, serial_of}
use Rattle.service_model.specs.Entries.{next_version, on_file, with_next}
use Rattle.service_model.specs.Sound.{IsBased, IsKnown, IsSoundUpdate, IsTreeStep}
use Rattle.service_model.proofs.Alike.{other_serial, other_versions}
use Rattle.service_model.proofs.Files.{here_file, state_on, no_some}
use Rattle.service_model.proofs.Versions.{IsLiveAt, live_versions, live_serial, last_kept, not_later, one_of_serial}

-- ---- trees

kept_cond : (b : Bool) (t u : Tree) → (b ≡ true → IsKept t) → IsKept u → IsKept (cond b t u)
kept_cond true t u h g = h refl
kept_cond false t u h g = g

kept_step : (t : Tree) (step : Step) → IsKept t → IsTreeStep step → IsKept (after t step)
kept_step t (ReadAt p) kept is = kept
kept_step t (ListAt p) kept is = kept
kept_step t (WriteAt p bytes) kept is = kept_cond (has t p) (map.insert t p bytes) t (λ e. kept_put t p bytes kept e is.few) kept
kept_step t (MakeAt c) kept is =
    kept_cond (can_make t c) (map.insert t (path_of c) []) t
    (λ e. kept_make t c kept (and_parts (has t c.0) (not (has t (path_of c))) e).0 is.short is.slots) kept
kept_step t (DropAt c) kept is = kept_cond (has t (path_of c)) (without t (path_of c)) t (λ e. kept_drop t c kept) kept

-- steps of trees of files lead from a tree of a version to one
pub kept_steps : (t : Tree) (steps : List Step) → IsKept t → All IsTreeStep steps → IsKept (tree_after t steps)
kept_steps t [] kept all = kept
kept_steps t (step ∷ steps) kept all =
    kept_steps (after t step) steps (kept_step t step kept (All-head IsTreeStep step steps all)) (All-tail IsTreeStep step steps all)

-- ---- one more at a list's end

pub get_push : {X : Type 0} (xs : List X) (x y : X) (k : ℕ) → slice_get (xs ++ x ∷ []) k ≡ Some y → (slice_get xs k ≡ Some y) ⊎ ((k ≡ length xs) × (x ≡ y))
get_push [] x y zero e = (let both : Some x ≡ Some y = e in inr (refl, cc both))
get_push [] x y (suc k) e = no_some y e
get_push (z ∷ xs) x y zero e = inl e
get_push (z ∷ xs) x y (suc k) e = elim (get_push xs x y k e) [ inl h ↦ inl h | inr h ↦ inr (ap suc h.0, h.1) ]

push_last : {X : Type 0} (xs : List X) (x : X) → slice_get (xs ++ x ∷ []) (length (xs ++ x ∷ []) - 1) ≡ Some x
push_last [] x = refl
push_last (y ∷ xs) x =
    let more : length (xs ++ x ∷ []) ≡ length xs + 1 = length_push xs x in
    let place : length ((y ∷ xs) ++ x ∷ []) - 1 ≡ suc (length (xs ++ x ∷ []) - 1) = omega (arith, more) in
    ap (λ i. slice_get ((y ∷ xs) ++ x ∷ []) i) place ∙ push_last xs x

rising_push : (ns : List ℕ) (last n : ℕ) → IsRising ns → slice_get ns (length ns - 1) ≡ Some last → n ≡ last + 1 → IsRising (ns ++ n ∷ [])
rising_push ns last n rising is one = λ k m l here next. by k m l (get_push ns n m k here) (get_push ns n l (k + 1) next)
  where
    by : (k m l : ℕ) → (slice_get ns k ≡ Some m) ⊎ ((k ≡ length ns) × (n ≡ m)) → (slice_get ns (k + 1) ≡ Some l) ⊎ ((k + 1 ≡ length ns) × (n ≡ l)) → l ≡ m + 1
    by k m l (inl a) (inl b) = rising k m l a b
    by k m l (inl a) (inr b) =
        let end : k + 1 ≡ length ns = b.0 in
        let place : length ns - 1 ≡ k = omega (arith, end) in
        let moved : slice_get ns k ≡ Some last = ap (λ i. slice_get ns i) (sym place) ∙ is in
        let same : last ≡ m = cc (moved, a) in
        let equal = b.1 in
        omega (arith, same, equal, one)
    by k m l (inr a) (inl b) =
        let within : k + 1 < length ns = slice_get_within ns (k + 1) l b in
        let end : k ≡ length ns = a.0 in
        absurd (omega (arith, within, end))
    by k m l (inr a) (inr b) =
        let end : k ≡ length ns = a.0 in
        let ends : k + 1 ≡ length ns = b.0 in
        absurd (omega (arith, end, ends))

-- ---- one more version

module _ (state : State) (object : ℕ) (steps : List Step) (sound : IsState state) (live : IsLiveAt state object) (all : All IsTreeStep steps) where
  abbrev pub newer : Version
  newer = next_version steps live.last

  abbrev pub grown : State
  grown = on_file state object (with_next steps)

  abbrev file_grown : File
  file_grown = record live.file { versions = live.file.versions ++ newer ∷ [] }

  abbrev files_with : List Version → File
  files_with vs = record live.file { versions = vs }

  grown_is : with_next steps live.file ≡ file_grown
  grown_is = ap (λ vs. files_with vs) (ap (λ o. live.file.versions ++ map (next_version steps) (option_to_list o)) live.last_is)

  last_tree_kept : IsKept live.last.tree
  last_tree_kept = live.sound.trees (length live.file.versions - 1) live.last live.last_is

  some_version : 0 < length live.file.versions
  some_version = slice_get_within live.file.versions 0 live.first live.first_is

  serials_last : slice_get (map (λ (v : Version). v.serial) live.file.versions) (length (map (λ (v : Version). v.serial) live.file.versions) - 1)
      ≡ Some live.last.serial
  serials_last =
      ap (λ n. slice_get (map (λ (v : Version). v.serial) live.file.versions) (n - 1)) (length-map live.file.versions (λ (v : Version). v.serial))
      ∙ slice_get-map (λ (v : Version). v.serial) live.file.versions (length live.file.versions - 1)
      ∙ ap (λ o. option_map (λ (v : Version). v.serial) o) live.last_is

  file_grown_sound : IsFile file_grown
  file_grown_sound = record {
    rising = (let F : List ℕ → Type 0 = λ l. IsRising l in
        subst F (sym (map_push (λ (v : Version). v.serial) live.file.versions newer))
        (rising_push (map (λ (v : Version). v.serial) live.file.versions) live.last.serial (live.last.serial + 1) live.sound.rising serials_last refl));
    trees = λ k v at. tree_at k v (get_push live.file.versions newer v k at);
    first = λ v at. first_at v (get_push live.file.versions newer v 0 at);
  }
    where
      tree_at : (k : ℕ) (v : Version) → (slice_get live.file.versions k ≡ Some v) ⊎ ((k ≡ length live.file.versions) × (newer ≡ v)) → IsKept v.tree
      tree_at k v (inl h) = live.sound.trees k v h
      tree_at k v (inr h) =
          let F : Version → Type 0 = λ x. IsKept x.tree in
          subst F h.1 (kept_steps live.last.tree steps last_tree_kept all)

      first_at : (v : Version) → (slice_get live.file.versions 0 ≡ Some v) ⊎ ((0 ≡ length live.file.versions) × (newer ≡ v)) → v.fresh ≡ map.keys v.tree
      first_at v (inl h) = live.sound.first v h
      first_at v (inr h) = (let end : 0 ≡ length live.file.versions = h.0 in let some = some_version in absurd (omega (arith, end, some)))

  pub grown_state : IsState grown
  grown_state = state_on state object (with_next steps) sound (λ file e is. file_sound_now file e)
    where
      file_sound_now : (file : File) → file_of state object ≡ Some file → IsFile (with_next steps file)
      file_sound_now file e =
          let same : live.file ≡ file = cc (live.is, e) in
          let F : File → Type 0 = λ x. IsFile (with_next steps x) in
          let G : File → Type 0 = λ x. IsFile x in
          subst F same (subst G (sym grown_is) file_grown_sound)

  file_now : file_of grown object ≡ Some file_grown
  file_now = here_file state object (with_next steps) live.file live.is ∙ ap (λ x. Some x) grown_is

  versions_now : versions_of grown object ≡ versions_of state object ++ newer ∷ []
  versions_now =
      ap (λ o. option_map_or (λ (f : File). f.versions) o []) file_now
      ∙ ap (λ l. l ++ newer ∷ []) (sym (live_versions state object live))

  pub serial_now : serial_of grown object ≡ newer.serial
  serial_now =
      ap (λ o. option_map_or (λ (n : ℕ). n) (option_and_then last_serial o) 0) file_now
      ∙ ap (λ o. option_map_or (λ (n : ℕ). n) (option_map (λ (v : Version). v.serial) o) 0) (push_last live.file.versions newer)

  pub next_serial : serial_of grown object ≡ serial_of state object + 1
  next_serial = serial_now ∙ ap (λ n. n + 1) (sym (live_serial state object live))

  -- what was kept is kept
  pub still_kept : (p : ℕ) (v : Version) → Contains (versions_of state p) v → Contains (versions_of grown p) v
  still_kept p v h = by (cases_eq p object)
    where
      by : (p ≡ object) ⊎ (p ≡ object → ⊥) → Contains (versions_of grown p) v
      by (inl same) =
          let F : ℕ → Type 0 = λ o. Contains (versions_of grown o) v in
          let G : ℕ → Type 0 = λ o. Contains (versions_of state o) v in
          let H : List Version → Type 0 = λ l. Contains l v in
          subst F (sym same) (subst H (sym versions_now) (Contains-append_left (versions_of state object) (newer ∷ []) v (subst G same h)))
      by (inr ne) = (let H : List Version → Type 0 = λ l. Contains l v in subst H (sym (other_versions state object (with_next steps) p ne)) h)

  -- what is kept was kept, or is new
  pub kept_before : (p : ℕ) (v : Version) → Contains (versions_of grown p) v → Contains (versions_of state p) v ⊎ ((p ≡ object) × (newer ≡ v))
  kept_before p v h = by (cases_eq p object)
    where
      by : (p ≡ object) ⊎ (p ≡ object → ⊥) → Contains (versions_of state p) v ⊎ ((p ≡ object) × (newer ≡ v))
      by (inl same) =
          let F : ℕ → Type 0 = λ o. Contains (versions_of grown o) v in
          let G : ℕ → Type 0 = λ o. Contains (versions_of state o) v in
          let H : List Version → Type 0 = λ l. Contains l v in
          elim (Contains-push_cases (versions_of state object) newer v (subst H versions_now (subst F same h))) [
            | inl old ↦ inl (subst G (sym same) old)
            | inr new ↦ inr (same, new)
          ]
      by (inr ne) = (let H : List Version → Type 0 = λ l. Contains l v in inl (subst H (other_versions state object (with_next steps) p ne) h))

  pub serial_grows : (p : ℕ) → serial_of state p ≤ serial_of grown p
  serial_grows p = by (cases_eq p object)
    where
      by : (p ≡ object) ⊎ (p ≡ object → ⊥) → serial_of state p ≤ serial_of grown p
      by (inl same) =
          let F : ℕ → Type 0 = λ o. serial_of state o ≤ serial_of grown o in
          let more = next_serial in
          subst F (sym same) (omega (arith, more))
      by (inr ne) = (let is = other_serial state object (with_next steps) p ne in omega (arith, is))

  -- no version of the object is as late as the new one
  earlier : (p : ℕ) (v : Version) → p ≡ object → Contains (versions_of state p) v → v.serial < newer.serial
  earlier p v same h =
      let G : ℕ → Type 0 = λ o. Contains (versions_of state o) v in
      let low : v.serial ≤ serial_of state object = not_later state object live v (subst G same h) in
      let is = live_serial state object live in
      let next : newer.serial ≡ live.last.serial + 1 = refl in
      omega (arith, low, is, next)

  -- ---- open updates

  module _ (list : List Made) (before : Tree) (before_is : before ≡ live.last.tree)
      (low : (m : Made) → Contains list m → m.serial ≤ serial_of state m.object) where
    -- what is kept of the new version
    abbrev pub fact : Made
    fact = record { object = object; serial = serial_of state object + 1; before = before; steps = steps }

    fact_serial : fact.serial ≡ newer.serial
    fact_serial = ap (λ n. n + 1) (live_serial state object live)

    -- no version that was made before is the new one
    not_new : (m : Made) → Contains list m → m.object ≡ object → m.serial ≡ newer.serial → ⊥
    not_new m h same serial =
        let bound : m.serial ≤ serial_of state m.object = low m h in
        let here : serial_of state m.object ≡ serial_of state object = ap (serial_of state) same in
        let is = live_serial state object live in
        let next : newer.serial ≡ live.last.serial + 1 = refl in
        omega (arith, bound, here, is, next, serial)

    old_known : (p : ℕ) (v : Version) → Contains (versions_of state p) v → IsKnown state list p v → IsKnown grown (list ++ fact ∷ []) p v
    old_known p v kept known = record {
      made = known.made;
      listed = Contains-append_left list (fact ∷ []) known.made known.listed;
      of_object = known.of_object;
      serial = known.serial;
      tree = known.tree;
      before = λ u h next. elim (kept_before p u h) [
        | inl old ↦ known.before u old next
        | inr new ↦ absurd (
            let lt : v.serial < newer.serial = earlier p v new.0 kept in
            let is : newer.serial ≡ u.serial = ap (λ (x : Version). x.serial) new.1 in
            omega (arith, lt, is, next))
      ];
      only = λ m h of_object is. elim (Contains-push_cases list fact m h) [
        | inl old ↦ known.only m old of_object is
        | inr new ↦ absurd (
            let here : p ≡ object = sym of_object ∙ ap (λ (x : Made). x.object) (sym new) in
            let lt : v.serial < newer.serial = earlier p v here kept in
            let serial : fact.serial ≡ m.serial = ap (λ (x : Made). x.serial) new in
            let mine = fact_serial in
            omega (arith, lt, serial, mine, is))
      ];
    }

    new_known : IsKnown grown (list ++ fact ∷ []) object newer
    new_known = record {
      made = fact;
      listed = Contains-push list fact;
      of_object = refl;
      serial = fact_serial;
      tree = ap (λ t. tree_after t steps) (sym before_is);
      before = λ u h next. elim (kept_before object u h) [
        | inl old ↦
            let serial : u.serial ≡ live.last.serial = omega (arith, next) in
            ap (λ (x : Version). x.tree) (one_of_serial state object live u live.last old (last_kept state object live) serial) ∙ sym before_is
        | inr new ↦ absurd (let is : newer.serial ≡ u.serial = ap (λ (x : Version). x.serial) new.1 in omega (arith, is, next))
      ];
      only = λ m h of_object is. elim (Contains-push_cases list fact m h) [
        | inl old ↦ absurd (not_new m old of_object is)
        | inr new ↦ sym new
      ];
    }

    pub based_still : (w : Work) → IsBased state w → IsBased grown w
    based_still w based = record {
      version = based.version;
      kept = still_kept w.object based.version based.kept;
      serial = based.serial;
      tree = based.tree;
      steps = based.steps;
    }

    known_now : (p : ℕ) (v : Version) → Contains (versions_of grown p) v
        → (Contains (versions_of state p) v → IsKnown state list p v) → IsKnown grown (list ++ fact ∷ []) p v
    known_now p v h known = elim (kept_before p v h) [
      | inl old ↦ old_known p v old (known old)
      | inr new ↦
          let F : Version → Type 0 = λ x. IsKnown grown (list ++ fact ∷ []) object x in
          let G : ℕ → Type 0 = λ o. IsKnown grown (list ++ fact ∷ []) o v in
          subst G (sym new.0) (subst F new.1 new_known)
    ]

    pub update_grows : (u : Update) → IsSoundUpdate state list u → IsSoundUpdate grown (list ++ fact ∷ []) u
    update_grows u sound_update = record {
      based = λ w h. based_still w (sound_update.based w h);
      later = λ w h v kept after. known_now w.object v kept (λ old. sound_update.later w h v old after);
      few = sound_update.few;
      picked = sound_update.picked;
      differ = sound_update.differ;
    }

    pub low_grows : (m : Made) → Contains (list ++ fact ∷ []) m → m.serial ≤ serial_of grown m.object
    low_grows m h = elim (Contains-push_cases list fact m h) [
      | inl old ↦ let was = low m old in let more = serial_grows m.object in omega (arith, was, more)
      | inr new ↦
          let F : Made → Type 0 = λ x. x.serial ≤ serial_of grown x.object in
          let next = next_serial in
          subst F new (omega (arith, next))
    ]

  pub counted_grows : ((p : ℕ) (v : Version) → Contains (versions_of state p) v → 1 ≤ v.serial)
      → (p : ℕ) (v : Version) → Contains (versions_of grown p) v → 1 ≤ v.serial
  counted_grows counted p v h = elim (kept_before p v h) [
    | inl old ↦ counted p v old
    | inr new ↦
        let is : newer.serial ≡ v.serial = ap (λ (x : Version). x.serial) new.1 in
        let next : newer.serial ≡ live.last.serial + 1 = refl in
        omega (arith, is, next)
  ]
