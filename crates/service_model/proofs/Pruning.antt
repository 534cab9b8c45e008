-- The serial from which a pruning keeps: none after the last one, and none after a base.
use Rattle.std.proofs.Common.{◌≡◌, ◌⊎◌, inl, inr, ℕ, ◌+◌, ◌-◌, ◌<◌, ◌≤◌, ◌==◌, true, false, cond, min, max, List, [], ◌∷◌, map, length, Option, Some, None, Contains, find, filter_map, option_map, option_and_then, refl, sym, ap, ◌∙◌, subst, arith}
use Rattle.std.specs.Prelude.{slice_get}
use Rattle.std.specs.List.{list_any, cons_option}
use Rattle.std.specs.Option.{option_map_or}
use Rattle.std.proofs.lemmas.Bool.{cases_Bool, eq-eqb, eqb-true, or_parts, cases_lt}
use Rattle.std.proofs.lemmas.List.{get_or_past}
use Rattle.std.proofs.lemmas.List.Elements.{Contains-get_or}
use Rattle.tree_model.specs.States.{State, Version}
use Rattle.service_model.specs.Standing.{Scripts, Standing, Client, Update, Work, newcomer, client_of, serial_of, versions_of}
use Rattle.service_model.specs.Causes.{has_twice}
use Rattle.service_model.specs.Upkeep.{least_of, base_in, base_on, bases_on, first_serial, kept_from}
use Rattle.service_model.specs.Sound.{IsSound, IsOpenAt, IsOn, IsPrunable}
use Rattle.service_model.proofs.Members.{in_front, in_rest, front_or_rest, none_in, same_member, in_any, in_mapped}
use Rattle.service_model.proofs.Versions.{IsLiveAt, live_at, live_serial, live_versions, last_kept, not_earlier}

-- ---- the least of numbers

least_low : (n : ℕ) (ns : List ℕ) → least_of n ns ≤ n
least_low n [] = omega arith
least_low n (m ∷ ms) = (let low = least_low (min n m) ms in omega (arith, low))

least_in : (n : ℕ) (ns : List ℕ) (x : ℕ) → Contains ns x → least_of n ns ≤ x
least_in n [] x h = absurd (none_in x h)
least_in n (m ∷ ms) x h = by (least_in (min n m) ms x) (front_or_rest m ms x h)
  where
    by : (Contains ms x → least_of (min n m) ms ≤ x) → (m ≡ x) ⊎ Contains ms x → least_of (min n m) ms ≤ x
    by later (inl same) = (let low = least_low (min n m) ms in omega (arith, low, same))
    by later (inr rest) = later rest

-- ---- the bases of an object

in_kept : {X Y : Type 0} (f : X → Option Y) (xs : List X) (x : X) (y : Y) → Contains xs x → f x ≡ Some y → Contains (filter_map f xs) y
in_kept f [] x y h e = absurd (none_in x h)
in_kept {X} {Y} f (z ∷ zs) x y h e = by (λ rest. in_kept f zs x y rest e) (f z) refl (front_or_rest z zs x h)
  where
    by : (Contains zs x → Contains (filter_map f zs) y) → (o : Option Y) → f z ≡ o → (z ≡ x) ⊎ Contains zs x → Contains (cons_option o (filter_map f zs)) y
    by later None is (inl same) = (let no : None ≡ Some y = sym is ∙ ap f same ∙ e in absurd (cc no))
    by later None is (inr rest) = later rest
    by later (Some v) is (inl same) =
        let both : Some v ≡ Some y = sym is ∙ ap f same ∙ e in
        let one : v ≡ y = cc both in
        same_member (v ∷ filter_map f zs) v y one (in_front v (filter_map f zs))
    by later (Some v) is (inr rest) = in_rest v (filter_map f zs) y (later rest)

-- the first file of an update that is this object is the only one
found_in : (ws : List Work) (w : Work) → has_twice (map (λ (x : Work). x.object) ws) ≡ false → Contains ws w
    → find (λ (x : Work). x.object == w.object) ws ≡ Some w
found_in [] w differ h = absurd (none_in w h)
found_in (y ∷ ys) w differ h = by (found_in ys w) (cases_Bool (y.object == w.object)) (front_or_rest y ys w h)
  where
    parts : (list_any (λ m. m == y.object) (map (λ (x : Work). x.object) ys) ≡ false) × (has_twice (map (λ (x : Work). x.object) ys) ≡ false)
    parts = or_parts (list_any (λ m. m == y.object) (map (λ (x : Work). x.object) ys)) (has_twice (map (λ (x : Work). x.object) ys)) differ

    by : (has_twice (map (λ (x : Work). x.object) ys) ≡ false → Contains ys w → find (λ (x : Work). x.object == w.object) ys ≡ Some w)
        → ((y.object == w.object) ≡ true) ⊎ ((y.object == w.object) ≡ false) → (y ≡ w) ⊎ Contains ys w
        → cond (y.object == w.object) (Some y) (find (λ (x : Work). x.object == w.object) ys) ≡ Some w
    by later (inl equal_is) (inl same) =
        ap (λ b. cond b (Some y) (find (λ (x : Work). x.object == w.object) ys)) equal_is ∙ ap (λ x. Some x) same
    by later (inl equal_is) (inr rest) =
        let equal : w.object ≡ y.object = sym (eqb-true y.object w.object equal_is) in
        let twice : list_any (λ m. m == y.object) (map (λ (x : Work). x.object) ys) ≡ true
        = in_any (λ m. m == y.object) (map (λ (x : Work). x.object) ys) w.object
        (in_mapped (λ (x : Work). x.object) ys w rest) (eq-eqb w.object y.object equal) in
        let no : true ≡ false = sym twice ∙ parts.0 in
        absurd (cc no)
    by later (inr not_it) (inl same) =
        let no : true ≡ false = sym (eq-eqb y.object w.object (ap (λ (x : Work). x.object) same)) ∙ not_it in
        absurd (cc no)
    by later (inr not_it) (inr rest) =
        ap (λ b. cond b (Some y) (find (λ (x : Work). x.object == w.object) ys)) not_it ∙ later parts.1 rest

-- an open update's client is one of the clients
client_listed : (s : Standing) (k : ℕ) (u : Update) → IsOpenAt s k u → Contains s.clients (client_of s k)
client_listed s k u h = by (cases_lt (k - 1) (length s.clients))
  where
    by : (k - 1 < length s.clients) ⊎ (length s.clients ≤ k - 1) → Contains s.clients (client_of s k)
    by (inl lt) = Contains-get_or s.clients (k - 1) newcomer lt
    by (inr past) =
        let new : client_of s k ≡ newcomer = get_or_past s.clients (k - 1) newcomer past in
        let no : Some u ≡ None = sym h ∙ ap (λ (c : Client). c.update) new in
        absurd (cc no)

-- the base of a file of an open update is one of the bases of its object
base_listed : (s : Standing) (k object : ℕ) (w : Work) (on : IsOn s k w) → has_twice (map (λ (x : Work). x.object) on.update.works) ≡ false
    → w.object ≡ object → Contains (bases_on s object) w.serial
base_listed s k object w on differ same =
    let F : ℕ → Type 0 = λ o. Contains (bases_on s o) w.serial in
    subst F same
    (in_kept (base_on w.object) s.clients (client_of s k) w.serial (client_listed s k on.update on.is_open)
    (ap (λ o. option_and_then (base_in w.object) o) on.is_open
    ∙ ap (λ o. option_map (λ (x : Work). x.serial) o) (found_in on.update.works w differ on.listed)))

-- ---- the serial from which is kept

first_is : (state : State) (object : ℕ) (live : IsLiveAt state object) → first_serial state object ≡ live.first.serial
first_is state object live =
    ap (λ l. option_map_or (λ (v : Version). v.serial) (slice_get l 0) 0) (live_versions state object live)
    ∙ ap (λ o. option_map_or (λ (v : Version). v.serial) o 0) live.first_is

pub kept_is_prunable : (scripts : Scripts) (s : Standing) (object keep : ℕ) (v : Version) → IsSound scripts s → 1 ≤ keep
    → Contains (versions_of s.state object) v → IsPrunable s object (kept_from s object keep)
kept_is_prunable scripts s object keep v sound keeps h = record {
  last =
      let lasts : live.last.serial ≡ serial_of s.state object = sym (live_serial s.state object live) in
      let counted : 1 ≤ live.last.serial = sound.counted object live.last (last_kept s.state object live) in
      let first : live.first.serial ≤ live.last.serial = not_earlier s.state object live live.last (last_kept s.state object live) in
      let is = first_is s.state object live in
      let low = least_low (max (serial_of s.state object + 1 - keep) 1) (bases_on s object) in
      omega (arith, lasts, counted, first, is, low, keeps);
  bases = λ k w on same.
      let update = sound.updates k on.update on.number on.is_open in
      let based = update.based w on.listed in
      let F : ℕ → Type 0 = λ o. Contains (versions_of s.state o) based.version in
      let kept : Contains (versions_of s.state object) based.version = subst F same based.kept in
      let first : live.first.serial ≤ based.version.serial = not_earlier s.state object live based.version kept in
      let serial = based.serial in
      let is = first_is s.state object live in
      let low = least_in (max (serial_of s.state object + 1 - keep) 1) (bases_on s object) w.serial
      (base_listed s k object w on update.differ same) in
      omega (arith, first, serial, is, low);
}
  where
    live : IsLiveAt s.state object
    live = live_at s.state object v sound.state h
