-- What stands stays sound where the first versions of a file are pruned.
use Rattle.std.proofs.Common.{◌≡◌, ◌≢◌, ◌⊎◌, inl, inr, ℕ, zero, suc, ◌+◌, ◌<◌, ◌≤◌, true, false, nat_lt, List, [], ◌∷◌, map, length, Option, Some, None, IsSomeAnd, Contains, refl, sym, ap, ◌∙◌, subst, arith}
use Rattle.std.specs.Prelude.{slice_get, if◌then◌else◌}
use Rattle.std.specs.List.{list_any}
use Rattle.std.specs.FinMap as map
use Rattle.std.specs.Option.{option_map_or}
use Rattle.std.proofs.lemmas.Bool.{cases_eq, cases_Bool, ltb-true, ltb-false}
use Rattle.script_text.specs.declared.script.Line.{Line}
use Rattle.script_text.specs.declared.script.Mode.{Mode}
use Rattle.service_model.specs.declared.journal.What.{What}
use Rattle.service_model.specs.declared.journal.What.TheVariants.{Pruned}
use Rattle.tree_model.specs.States.{State, File, Version, IsState, IsFile, IsRising, file_of}
use Rattle.tree_model.specs.Trees.{IsKept}
use Rattle.service_model.specs.Standing.{Scripts, Standing, Update, Upkeep, client_of, next_line, versions_of, serial_of}
use Rattle.service_model.specs.Causes.{object_of}
use Rattle.service_model.specs.Entries.{after_what, noting, on_file, with_file}
use Rattle.service_model.specs.Legal.{IsLawfulWhat}
use Rattle.service_model.specs.Upkeep.{as_first, file_from, versions_from}
use Rattle.service_model.specs.Sound.{IsSound, IsSoundUpdate, IsOpenAt, IsPrunable, AreLast, HasNoted, is_holding, is_committing, is_starting}
use Rattle.service_model.proofs.Alike.{HasAlike, IsAlikeFrom, alike_update, other_alike, other_serial}
use Rattle.service_model.proofs.Entering.{client_in, none_before, noted_line, one_keeper}
use Rattle.service_model.proofs.Files.{here_file, state_on, no_some}
use Rattle.service_model.proofs.Members.{none_in, in_front, in_rest, front_or_rest}
use Rattle.service_model.proofs.Removing.{freed_upkeep}
use Rattle.service_model.proofs.Sound.{step_sound}
use Rattle.service_model.proofs.Versions.{live_at, live_serial, last_kept, no_versions, not_later, some_or_none, versions_here}

-- ---- the versions from a serial on

-- of these versions one has the serial and the tree of this one
record HasSame (vs : List Version) (v : Version) : Type 0 where
  version : Version
  kept : Contains vs version
  serial : version.serial ≡ v.serial
  tree : version.tree ≡ v.tree

later_same : (x v : Version) (vs : List Version) → HasSame vs v → HasSame (x ∷ vs) v
later_same x v vs h = record { version = h.version; kept = in_rest x vs h.version h.kept; serial = h.serial; tree = h.tree }

cut : (first : ℕ) (v : Version) (vs : List Version) → nat_lt v.serial first ≡ true → versions_from first (v ∷ vs) ≡ versions_from first vs
cut first v vs e = ap (λ b. if b then versions_from first vs else as_first v ∷ vs) e

uncut : (first : ℕ) (v : Version) (vs : List Version) → nat_lt v.serial first ≡ false → versions_from first (v ∷ vs) ≡ as_first v ∷ vs
uncut first v vs e = ap (λ b. if b then versions_from first vs else as_first v ∷ vs) e

-- what holds of the rest, and of a list with its first version made one, holds of the versions from a serial on
pub from_cases : (P : List Version → Type 0) (first : ℕ) (v : Version) (vs : List Version)
    → (v.serial < first → P (versions_from first vs)) → (first ≤ v.serial → P (as_first v ∷ vs)) → P (versions_from first (v ∷ vs))
from_cases P first v vs early late = elim (cases_Bool (nat_lt v.serial first)) [
  | inl e ↦ subst P (sym (cut first v vs e)) (early (ltb-true v.serial first e))
  | inr e ↦ subst P (sym (uncut first v vs e)) (late (ltb-false v.serial first e))
]

still_there : (first : ℕ) (vs : List Version) (v : Version) → Contains vs v → first ≤ v.serial → HasSame (versions_from first vs) v
still_there first [] v h low = absurd (none_in v h)
still_there first (x ∷ vs) v h low =
    from_cases (λ l. HasSame l v) first x vs
    (λ lt. early lt (λ rest. still_there first vs v rest low) (front_or_rest x vs v h)) (λ le. late (front_or_rest x vs v h))
  where
    early : x.serial < first → (Contains vs v → HasSame (versions_from first vs) v) → (x ≡ v) ⊎ Contains vs v → HasSame (versions_from first vs) v
    early lt later (inl same) =
        let serial : x.serial ≡ v.serial = ap (λ (y : Version). y.serial) same in
        absurd (omega (arith, lt, low, serial))
    early lt later (inr rest) = later rest

    late : (x ≡ v) ⊎ Contains vs v → HasSame (as_first x ∷ vs) v
    late (inl same) = record {
      version = as_first x;
      kept = in_front (as_first x) vs;
      serial = ap (λ (y : Version). y.serial) same;
      tree = ap (λ (y : Version). y.tree) same;
    }
    late (inr rest) = record { version = v; kept = in_rest (as_first x) vs v rest; serial = refl; tree = refl }

was_there : (first : ℕ) (vs : List Version) (v : Version) → Contains (versions_from first vs) v → HasSame vs v
was_there first [] v h = absurd (none_in v h)
was_there first (x ∷ vs) v h =
    from_cases (λ l. Contains l v → HasSame (x ∷ vs) v) first x vs
    (λ lt mine. later_same x v vs (was_there first vs v mine)) (λ le mine. by (front_or_rest (as_first x) vs v mine)) h
  where
    by : (as_first x ≡ v) ⊎ Contains vs v → HasSame (x ∷ vs) v
    by (inl same) = record {
      version = x;
      kept = in_front x vs;
      serial = ap (λ (y : Version). y.serial) same;
      tree = ap (λ (y : Version). y.tree) same;
    }
    by (inr rest) = record { version = v; kept = in_rest x vs v rest; serial = refl; tree = refl }

-- ---- the file stays one

abbrev Serials : List Version → List ℕ
Serials vs = map (λ (v : Version). v.serial) vs

rising_rest : (n : ℕ) (ns : List ℕ) → IsRising (n ∷ ns) → IsRising ns
rising_rest n ns rising = λ k m l here next.
    rising (suc k) m l here (ap (λ i. slice_get (n ∷ ns) i) (let e : suc k + 1 ≡ suc (k + 1) = omega arith in e) ∙ next)

cut_rising : (first : ℕ) (vs : List Version) → IsRising (Serials vs) → IsRising (Serials (versions_from first vs))
cut_rising first [] rising = rising
cut_rising first (v ∷ vs) rising =
    from_cases (λ l. IsRising (Serials l)) first v vs
    (λ lt. cut_rising first vs (rising_rest v.serial (Serials vs) rising)) (λ le. rising)

cut_trees : (first : ℕ) (vs : List Version) → ((k : ℕ) (v : Version) → slice_get vs k ≡ Some v → IsKept v.tree)
    → (k : ℕ) (v : Version) → slice_get (versions_from first vs) k ≡ Some v → IsKept v.tree
cut_trees first [] kept = kept
cut_trees first (x ∷ vs) kept =
    from_cases (λ l. (k : ℕ) (v : Version) → slice_get l k ≡ Some v → IsKept v.tree) first x vs
    (λ lt. cut_trees first vs (λ k v at. kept (suc k) v at)) (λ le. with_first)
  where
    with_first : (k : ℕ) (v : Version) → slice_get (as_first x ∷ vs) k ≡ Some v → IsKept v.tree
    with_first zero v at =
        let both : Some (as_first x) ≡ Some v = at in
        let same : as_first x ≡ v = cc both in
        let F : Version → Type 0 = λ y. IsKept y.tree in
        subst F same (kept 0 x refl)
    with_first (suc k) v at = kept (suc k) v at

cut_first : (first : ℕ) (vs : List Version) (v : Version) → slice_get (versions_from first vs) 0 ≡ Some v → v.fresh ≡ map.keys v.tree
cut_first first [] v at = no_some v at
cut_first first (x ∷ vs) v at =
    from_cases (λ l. slice_get l 0 ≡ Some v → v.fresh ≡ map.keys v.tree) first x vs (λ lt. cut_first first vs v) (λ le. made) at
  where
    made : slice_get (as_first x ∷ vs) 0 ≡ Some v → v.fresh ≡ map.keys v.tree
    made e =
        let both : Some (as_first x) ≡ Some v = e in
        let same : as_first x ≡ v = cc both in
        let F : Version → Type 0 = λ y. y.fresh ≡ map.keys y.tree in
        subst F same refl

file_from_sound : (first : ℕ) (file : File) → IsFile file → IsFile (file_from first file)
file_from_sound first file sound = record {
  rising = cut_rising first file.versions sound.rising;
  trees = cut_trees first file.versions sound.trees;
  first = cut_first first file.versions;
}

-- ---- the state

module _ (state : State) (object first : ℕ) (sound : IsState state) where
  abbrev pruned : State
  pruned = on_file state object (file_from first)

  pruned_state : IsState pruned
  pruned_state = state_on state object (file_from first) sound (λ file e is. file_from_sound first file is)

  versions_now : (file : File) → file_of state object ≡ Some file → versions_of pruned object ≡ versions_from first file.versions
  versions_now file e = ap (λ o. option_map_or (λ (f : File). f.versions) o []) (here_file state object (file_from first) file e)

  there_now : (v : Version) → Contains (versions_of state object) v → first ≤ v.serial → HasAlike pruned object v
  there_now v h low = by (file_of state object) refl
    where
      by : (o : Option File) → file_of state object ≡ o → HasAlike pruned object v
      by None e =
          let G : List Version → Type 0 = λ l. Contains l v in
          absurd (none_in v (subst G (ap (λ o. option_map_or (λ (f : File). f.versions) o []) e) h))
      by (Some file) e =
          let G : List Version → Type 0 = λ l. Contains l v in
          let same = still_there first file.versions v (subst G (versions_here state object file e) h) low in
          let H : List Version → Type 0 = λ l. Contains l same.version in
          record {
            version = same.version;
            kept = subst H (sym (versions_now file e)) same.kept;
            serial = same.serial;
            tree = same.tree;
          }

  before_now : (v : Version) → Contains (versions_of pruned object) v → HasAlike state object v
  before_now v h = by (file_of state object) refl
    where
      by : (o : Option File) → file_of state object ≡ o → HasAlike state object v
      by None e =
          let same : pruned ≡ state = ap (λ o. option_map_or (λ f. with_file state object (file_from first f)) o state) e in
          let G : State → Type 0 = λ x. Contains (versions_of x object) v in
          record { version = v; kept = subst G same h; serial = refl; tree = refl }
      by (Some file) e =
          let G : List Version → Type 0 = λ l. Contains l v in
          let same = was_there first file.versions v (subst G (versions_now file e) h) in
          let H : List Version → Type 0 = λ l. Contains l same.version in
          record {
            version = same.version;
            kept = subst H (sym (versions_here state object file e)) same.kept;
            serial = same.serial;
            tree = same.tree;
          }

  -- an object is as it was from a serial on, where none is taken away from there on
  pruned_alike : (p from : ℕ) → (p ≡ object → first ≤ from) → (p ≡ object) ⊎ (p ≢ object) → IsAlikeFrom state pruned p from
  pruned_alike p from low (inr ne) = other_alike state object (file_from first) p from ne
  pruned_alike p from low (inl same) =
      let F : ℕ → Type 0 = λ o. IsAlikeFrom state pruned o from in
      let bound = low same in
      subst F (sym same) (record {
        there = λ v h late. there_now v h (omega (arith, bound, late));
        back = λ v h. before_now v h;
      })

  -- the last serial of an object stays
  serial_stays : (p : ℕ) → (p ≡ object → first ≤ serial_of state p) → (p ≡ object) ⊎ (p ≢ object) → serial_of pruned p ≡ serial_of state p
  serial_stays p low (inr ne) = other_serial state object (file_from first) p ne
  serial_stays p low (inl same) =
      ap (serial_of pruned) same ∙ by (some_or_none (versions_of state object)) ∙ ap (serial_of state) (sym same)
    where
      bound : first ≤ serial_of state object
      bound = (let F : ℕ → Type 0 = λ o. first ≤ serial_of state o in subst F same (low same))

      alive : (v : Version) → Contains (versions_of state object) v → serial_of pruned object ≡ serial_of state object
      alive v h =
          let live = live_at state object v sound h in
          let is = live_serial state object live in
          let now = there_now live.last (last_kept state object live) (omega (arith, is, bound)) in
          let live_now = live_at pruned object now.version pruned_state now.kept in
          let is_now = live_serial pruned object live_now in
          let not_less : now.version.serial ≤ serial_of pruned object = not_later pruned object live_now now.version now.kept in
          let was = before_now live_now.last (last_kept pruned object live_now) in
          let not_more : was.version.serial ≤ serial_of state object = not_later state object live was.version was.kept in
          let one = now.serial in
          let two = was.serial in
          omega (arith, is, is_now, not_less, not_more, one, two)

      by : ((v : Version) × Contains (versions_of state object) v) ⊎ ((v : Version) → Contains (versions_of state object) v → ⊥)
          → serial_of pruned object ≡ serial_of state object
      by (inl (v, h)) = alive v h
      by (inr none) =
          no_versions pruned object (λ v h. (let was = before_now v h in none was.version was.kept)) ∙ sym (no_versions state object none)

-- ---- the entry

module _ (mode : Mode) (scripts : Scripts) (s : Standing) (k : ℕ) (own : Line) (object first blocks at : ℕ) (a : 1 ≤ k) (b : k ≤ length s.clients)
    (sound : IsSound scripts s) (next : next_line scripts s k ≡ Some own)
    (lawful : IsLawfulWhat mode s k own.command (Pruned object first blocks at)) where
  abbrev entry : What
  entry = Pruned object first blocks at

  abbrev cut_off : Standing
  cut_off = after_what mode s k own.command (Pruned object first blocks at)

  mine : HasNoted s k is_starting
  mine = ap (list_any is_starting) lawful.1

  -- no base is taken away, and not the last version
  prunable : IsPrunable s object first
  prunable = by s.upkeep refl lawful.2
    where
      by : (o : Option Upkeep) → s.upkeep ≡ o → IsSomeAnd o (λ (up : Upkeep). first ≡ up.first) → IsPrunable s object first
      by None e h = absurd h
      by (Some up) e h =
          let p = (sound.lines k own a next).pruning lawful.0.0 lawful.0.1 up lawful.0.2 lawful.1 e in
          let F : ℕ → Type 0 = λ n. IsPrunable s (object_of lawful.0.0) n in
          let G : ℕ → Type 0 = λ o. IsPrunable s o first in
          subst G (sym lawful.0.3) (subst F (sym h) p)

  same_serial_of : (p : ℕ) → serial_of cut_off.state p ≡ serial_of s.state p
  same_serial_of p =
      serial_stays s.state object first sound.state p
      (λ e. (let F : ℕ → Type 0 = λ o. first ≤ serial_of s.state o in subst F (sym e) prunable.last)) (cases_eq p object)

  update_stays : (j : ℕ) (u : Update) → 1 ≤ j → IsOpenAt s j u → IsSoundUpdate cut_off.state cut_off.made u
  update_stays j u d h =
      alike_update s.state cut_off.state s.made s.made u
      (λ w listed. pruned_alike s.state object first sound.state w.object w.serial
      (λ e. prunable.bases j w (record { update = u; number = d; is_open = h; listed = listed }) e) (cases_eq w.object object))
      (λ w listed. record { forth = λ m mine of_object. mine; back = λ m mine. mine }) (sound.updates j u d h)

  last_stays : (u : Update) → AreLast s.state u → AreLast cut_off.state u
  last_stays u last = λ w listed. last w listed ∙ sym (same_serial_of w.object)

  counted : (p : ℕ) (v : Version) → Contains (versions_of cut_off.state p) v → 1 ≤ v.serial
  counted p v h =
      let was = (pruned_alike s.state object first sound.state p first (λ e. omega arith) (cases_eq p object)).back v h in
      let one = sound.counted p was.version was.kept in
      let same = was.serial in
      omega (arith, one, same)

  -- what stands stays sound where the first versions of a file are pruned
  pub pruned_keeps : IsSound scripts cut_off
  pruned_keeps =
      step_sound scripts s cut_off k (noting entry (client_of s k)) a b sound (record {
        clients = refl;
        latest = refl;
        state = pruned_state s.state object first sound.state;
        counted = counted;
        low = λ m h. (let was = sound.low m h in let same = same_serial_of m.object in omega (arith, was, same));
        others = λ j u d ne h. update_stays j u d h;
        others_last = λ j u d ne h super last. last_stays u last;
        own = λ u e. update_stays k u a e;
        own_last = λ u e super none. last_stays u
            (sound.locked k u a e super (none_before is_committing (client_of s k).noted entry none));
        own_alone = λ j u v d ne e other. sound.alone k j u v a d (λ same. ne (sym same)) e other;
        own_held = λ e. sound.held k a (ap is_holding lawful.1);
        upkeep = freed_upkeep scripts s k blocks entry a b sound mine;
        grows = λ j d ne h p. one_keeper scripts s k (client_of s k) a b sound mine j d ne h;
        bases = λ u w e h. inl (w, record { update = u; number = a; is_open = e; listed = h }, refl, refl);
        line = noted_line scripts s cut_off k (noting entry (client_of s k)) entry own next
            (client_in s cut_off k (noting entry (client_of s k)) refl a b) refl refl refl
            (λ e. (let no : true ≡ false = sym e in absurd (cc no))) (sound.lines k own a next);
      })
