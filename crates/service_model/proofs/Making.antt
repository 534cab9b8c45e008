-- What stands stays sound where a file is made.
use Rattle.std.proofs.Common.{◌≡◌, ◌≢◌, ◌⊎◌, inl, inr, ℕ, zero, suc, ◌+◌, ◌-◌, ◌^◌, ◌≤◌, true, false, not, nat_lt, List, [], ◌∷◌, map, length, Option, Some, None, Contains, refl, sym, ap, ◌∙◌, subst, arith}
use Rattle.std.specs.Prelude.{slice_get, slice_set, if◌then◌else◌}
use Rattle.std.specs.FinMap as map
use Rattle.std.specs.Option.{option_map_or}
use Rattle.std.proofs.lemmas.Bool.{cases_eq, cases_Bool, not-true, and_parts, lt-ltb}
use Rattle.afs_base.specs.Path.{path_cmp}
use Rattle.script_text.specs.declared.script.Line.{Line}
use Rattle.script_text.specs.declared.script.Mode.{Mode}
use Rattle.service_model.specs.declared.journal.What.{What}
use Rattle.service_model.specs.declared.journal.What.TheVariants.{Created}
use Rattle.tree_model.specs.States.{State, File, Version, IsFile, file_of, is_live}
use Rattle.tree_model.specs.Trees.{IsKept, single}
use Rattle.tree_model.proofs.Paths.{path_total}
use Rattle.tree_model.proofs.TreeFacts.{kept_single}
use Rattle.service_model.specs.Standing.{Scripts, Standing, Client, Update, Work, client_of, next_line, versions_of, serial_of}
use Rattle.service_model.specs.Entries.{after_what, created, noting, with_file}
use Rattle.service_model.specs.Legal.{IsLawfulWhat}
use Rattle.service_model.specs.Upkeep.{first_open, is_open_entry, new_object}
use Rattle.service_model.specs.Sound.{IsSound, IsSoundUpdate, IsOpenAt, AreLast, is_committing, is_starting}
use Rattle.service_model.proofs.Alike.{alike_update, other_alike, other_serial, other_versions}
use Rattle.service_model.proofs.Entering.{client_in, noted_clients, none_before, noted_line, other_more, same_upkeep}
use Rattle.service_model.proofs.Files.{here_file, listed_at, state_on, no_some}
use Rattle.service_model.proofs.Members.{none_in, front_or_rest}
use Rattle.service_model.proofs.Sound.{step_sound}
use Rattle.service_model.proofs.Versions.{no_versions, versions_here}

-- ---- the entry of the new file

-- the first entry that can take a new file: none is there
pub found_open : (n : ℕ) (files : List File) (object : ℕ) → first_open n files ≡ Some object → (n ≤ object)
    × (file : File) × (slice_get files (object - n) ≡ Some file) × (is_open_entry file ≡ true)
found_open n [] object e = no_some object e
found_open n (file ∷ files) object e = by (found_open (suc n) files object) (cases_Bool (is_open_entry file))
  where
    by : (first_open (suc n) files ≡ Some object → (suc n ≤ object)
        × (x : File) × (slice_get files (object - suc n) ≡ Some x) × (is_open_entry x ≡ true)) → (is_open_entry file ≡ true) ⊎ (is_open_entry file ≡ false) → (n ≤ object)
        × (x : File) × (slice_get (file ∷ files) (object - n) ≡ Some x) × (is_open_entry x ≡ true)
    by later (inl passes) =
        let here : Some n ≡ Some object = sym (ap (λ t. if t then Some n else first_open (suc n) files) passes) ∙ e in
        let same : n ≡ object = cc here in
        let place : object - n ≡ 0 = omega (arith, same) in
        (omega (arith, same), file, ap (λ i. slice_get (file ∷ files) i) place, passes)
    by later (inr fails) =
        let rest = later (sym (ap (λ t. if t then Some n else first_open (suc n) files) fails) ∙ e) in
        let low : suc n ≤ object = rest.0 in
        let place : object - n ≡ suc (object - suc n) = omega (arith, low) in
        (omega (arith, low), rest.1, ap (λ i. slice_get (file ∷ files) i) place ∙ rest.2, rest.3)

-- no version of the object of a new file is kept
pub none_kept : (state : State) (object : ℕ) (v : Version) → new_object state ≡ Some object → Contains (versions_of state object) v → ⊥
none_kept state object v e h = by (file_of state object) refl
  where
    open_entry : (file : File) → slice_get state.files (object - 1) ≡ Some file → is_open_entry file ≡ true
    open_entry file at =
        let found = found_open 1 state.files object e in
        let same : found.1 ≡ file = cc (found.2, at) in
        ap is_open_entry (sym same) ∙ found.3

    empty : (file : File) → is_open_entry file ≡ true → Contains file.versions v → ⊥
    empty file open_is (k, lt, is) =
        let dead : is_live file ≡ false = not-true (is_live file) (and_parts (not (is_live file)) (nat_lt file.generation (2 ^ 32 - 1)) open_is).0 in
        let live : is_live file ≡ true = lt-ltb 0 (length file.versions) (omega (arith, lt)) in
        let no : true ≡ false = sym live ∙ dead in
        cc no

    by : (o : Option File) → file_of state object ≡ o → ⊥
    by None is =
        let F : List Version → Type 0 = λ l. Contains l v in
        none_in v (subst F (ap (λ o. option_map_or (λ (f : File). f.versions) o []) is) h)
    by (Some file) is =
        let F : List Version → Type 0 = λ l. Contains l v in
        empty file (open_entry file (listed_at state object file is)) (subst F (versions_here state object file is) h)

-- ---- the new file

new_rising : (k m n : ℕ) → slice_get (1 ∷ []) k ≡ Some m → slice_get (1 ∷ []) (k + 1) ≡ Some n → n ≡ m + 1
new_rising zero m n here next = no_some n next
new_rising (suc k) m n here next = no_some m here

no_entries : {A : Type 0} (xs : List A) → length xs ≡ 0 → xs ≡ []
no_entries [] h = refl
no_entries (x ∷ xs) h = absurd (omega (arith, h))

pub entries_empty : map.entries (map.empty {K = List ℕ} {X = List ℕ} {R = path_cmp}) ≡ []
entries_empty = no_entries _ (sym (map.len-entries map.empty) ∙ map.len-empty path_cmp (List ℕ))

pub single_keys : map.keys single ≡ [] ∷ []
single_keys =
    ap (λ (es : List (List ℕ × List ℕ)). map (λ e. e.0) es)
    (map.entries-insert path_total map.empty [] [] ∙ ap (map.put path_cmp [] []) entries_empty)

abbrev pub first_version : Version
first_version = record { serial = 1; tree = single; fresh = [] ∷ [] }

pub created_sound : (state : State) (object : ℕ) (file : File) → IsFile (created state object file)
created_sound state object file = record {
  rising = new_rising;
  trees = trees;
  first = first;
}
  where
    trees : (k : ℕ) (v : Version) → slice_get (first_version ∷ []) k ≡ Some v → IsKept v.tree
    trees zero v at = (let F : Version → Type 0 = λ x. IsKept x.tree in
        let both : Some first_version ≡ Some v = at in let same : first_version ≡ v = cc both in subst F same kept_single)
    trees (suc k) v at = no_some v at

    first : (v : Version) → slice_get (first_version ∷ []) 0 ≡ Some v → v.fresh ≡ map.keys v.tree
    first v at = (let F : Version → Type 0 = λ x. x.fresh ≡ map.keys x.tree in
        let both : Some first_version ≡ Some v = at in let same : first_version ≡ v = cc both in subst F same (sym single_keys))

-- ---- the entry

module _ (mode : Mode) (scripts : Scripts) (s : Standing) (k : ℕ) (own : Line) (object at : ℕ) (a : 1 ≤ k) (b : k ≤ length s.clients)
    (sound : IsSound scripts s) (next : next_line scripts s k ≡ Some own)
    (lawful : IsLawfulWhat mode s k own.command (Created object at)) where
  abbrev entry : What
  entry = Created object at

  abbrev maker : Client
  maker = record (client_of s k) { held = 0 }

  abbrev with_new : Standing
  with_new = after_what mode s k own.command (Created object at)

  clients : with_new.clients ≡ slice_set s.clients (k - 1) (noting entry maker)
  clients = noted_clients s k maker entry a b

  -- no update is on an object that is not there
  off : (u : Update) → IsSoundUpdate s.state s.made u → (w : Work) → Contains u.works w → w.object ≢ object
  off u sound_update w h = λ same.
      let based = sound_update.based w h in
      let F : ℕ → Type 0 = λ o. Contains (versions_of s.state o) based.version in
      none_kept s.state object based.version lawful.2 (subst F same based.kept)

  update_stays : (j : ℕ) (u : Update) → 1 ≤ j → IsOpenAt s j u → IsSoundUpdate with_new.state with_new.made u
  update_stays j u d h =
      let was = sound.updates j u d h in
      alike_update s.state with_new.state s.made s.made u
      (λ w listed. other_alike s.state object (created s.state object) w.object w.serial (off u was w listed))
      (λ w listed. record { forth = λ m mine of_object. mine; back = λ m mine. mine }) was

  last_stays : (j : ℕ) (u : Update) → 1 ≤ j → IsOpenAt s j u → AreLast s.state u → AreLast with_new.state u
  last_stays j u d h last = λ w listed.
      last w listed ∙ sym (other_serial s.state object (created s.state object) w.object (off u (sound.updates j u d h) w listed))

  -- the object has its first version
  made_is : (file : File) → file_of s.state object ≡ Some file → versions_of with_new.state object ≡ first_version ∷ []
  made_is file e = ap (λ o. option_map_or (λ (f : File). f.versions) o []) (here_file s.state object (created s.state object) file e)

  new_counted : (v : Version) → Contains (versions_of with_new.state object) v → 1 ≤ v.serial
  new_counted v h = by (file_of s.state object) refl
    where
      only : (first_version ≡ v) ⊎ Contains [] v → 1 ≤ v.serial
      only (inl same) = (let serial : 1 ≡ v.serial = ap (λ (x : Version). x.serial) same in omega (arith, serial))
      only (inr rest) = absurd (none_in v rest)

      by : (o : Option File) → file_of s.state object ≡ o → 1 ≤ v.serial
      by (Some file) e =
          let F : List Version → Type 0 = λ l. Contains l v in
          only (front_or_rest first_version [] v (subst F (made_is file e) h))
      by None e =
          let same : with_new.state ≡ s.state
          = ap (λ o. option_map_or (λ f. with_file s.state object (created s.state object f)) o s.state) e in
          let F : State → Type 0 = λ x. Contains (versions_of x object) v in
          sound.counted object v (subst F same h)

  counted : (p : ℕ) (v : Version) → Contains (versions_of with_new.state p) v → (p ≡ object) ⊎ (p ≢ object) → 1 ≤ v.serial
  counted p v h (inl same) = (let F : ℕ → Type 0 = λ o. Contains (versions_of with_new.state o) v in new_counted v (subst F same h))
  counted p v h (inr ne) =
      let F : List Version → Type 0 = λ l. Contains l v in
      sound.counted p v (subst F (other_versions s.state object (created s.state object) p ne) h)

  -- the serial of an object that is not there
  no_serial : serial_of s.state object ≡ 0
  no_serial = no_versions s.state object (λ v h. none_kept s.state object v lawful.2 h)

  grows : (p : ℕ) → (p ≡ object) ⊎ (p ≢ object) → serial_of s.state p ≤ serial_of with_new.state p
  grows p (inl same) = (let zero_is : serial_of s.state p ≡ 0 = ap (serial_of s.state) same ∙ no_serial in omega (arith, zero_is))
  grows p (inr ne) = (let is = other_serial s.state object (created s.state object) p ne in omega (arith, is))

  -- what stands stays sound where a file is made
  pub created_keeps : IsSound scripts with_new
  created_keeps =
      step_sound scripts s with_new k (noting entry maker) a b sound (record {
        clients = clients;
        latest = refl;
        state = state_on s.state object (created s.state object) sound.state (λ file e is. created_sound s.state object file);
        counted = λ p v h. counted p v h (cases_eq p object);
        low = λ m h. (let was = sound.low m h in let more = grows m.object (cases_eq m.object object) in omega (arith, was, more));
        others = λ j u d ne h. update_stays j u d h;
        others_last = λ j u d ne h super last. last_stays j u d h last;
        own = λ u e. update_stays k u a e;
        own_last = λ u e super none. last_stays k u a e
            (sound.locked k u a e super (none_before is_committing (client_of s k).noted entry none));
        own_alone = λ j u v d ne e other. sound.alone k j u v a d (λ same. ne (sym same)) e other;
        own_held = λ e. refl;
        upkeep = same_upkeep scripts s k (noting entry maker) a b sound (other_more is_starting (client_of s k).noted entry refl);
        grows = λ j d ne h p. grows p (cases_eq p object);
        bases = λ u w e h. inl (w, record { update = u; number = a; is_open = e; listed = h }, refl, refl);
        line = noted_line scripts s with_new k (noting entry maker) entry own next
            (client_in s with_new k (noting entry maker) clients a b) refl refl refl
            (λ e. (let no : true ≡ false = sym e in absurd (cc no))) (sound.lines k own a next);
      })
