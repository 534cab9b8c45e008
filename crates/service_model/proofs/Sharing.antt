-- What a version shares with the one before it, and how many pages it has at the most.
use Rattle.std.proofs.Common.{◌≡◌, ◌≢◌, ◌⊎◌, inl, inr, ℕ, zero, suc, ◌+◌, ◌-◌, ◌<◌, ◌≤◌, Bool, true, false, ◌&&◌, cond, T, List, [], ◌∷◌, ◌++◌, map, length, sum_by, Some, None, Contains, is_some, refl, sym, ap, ◌∙◌, subst, arith, length-append}
use Rattle.std.specs.Prelude.{slice_get}
use Rattle.std.specs.FinMap as map
use Rattle.std.specs.FinMap.Entries.{is_sorted, below_all}
use Rattle.std.specs.Cmp.{tied_itself}
use Rattle.std.specs.Ordering.{eq_by_cmp, is_lt}
use Rattle.std.proofs.lemmas.Bool.{and_parts}
use Rattle.std.proofs.lemmas.Option.{slice_get_within}
use Rattle.std.proofs.lemmas.List.Elements.{Contains-append_left, Contains-append_right}
use Rattle.std.proofs.lemmas.List.Sums.{sum_by-cons}
use Rattle.afs_base.specs.Path.{path_cmp}
use Rattle.tree_model.specs.declared.step.Step.{Step}
use Rattle.tree_model.specs.Accesses.{Place, all_writes, fresh_as_top, fresh_of, touches, written_paths}
use Rattle.tree_model.specs.States.{Version}
use Rattle.tree_model.specs.Trees.{Tree, has, tree_after}
use Rattle.tree_model.proofs.Paths.{path_only, path_total, same_is, same_self, told}
use Rattle.tree_model.proofs.Untouched.{untouched_run}
use Rattle.service_model.specs.Room.{IsSharing, AreSharing}
use Rattle.service_model.specs.Upkeep.{as_first, versions_from}
use Rattle.service_model.proofs.Cutting.{from_cases}
use Rattle.service_model.proofs.Growing.{get_push}
use Rattle.service_model.proofs.Members.{front_or_rest, from_any, in_any, in_front, in_rest, none_in, same_member}

-- ---- lists of paths no two of which are one

-- a list of paths without one of them
record IsWithout (ps : List (List ℕ)) (p : List ℕ) : Type 0 where
  rest : List (List ℕ)
  shorter : length ps ≡ suc (length rest)
  keeps : (q : List ℕ) → Contains ps q → q ≢ p → Contains rest q

taken_out : (ps : List (List ℕ)) (p : List ℕ) → Contains ps p → IsWithout ps p
taken_out [] p h = absurd (none_in p h)
taken_out (x ∷ ps) p h = by (taken_out ps p) (front_or_rest x ps p h)
  where
    by : (Contains ps p → IsWithout ps p) → (x ≡ p) ⊎ Contains ps p → IsWithout (x ∷ ps) p
    by later (inl same) = record {
      rest = ps;
      shorter = refl;
      keeps = λ q hq ne. by_front q ne (front_or_rest x ps q hq);
    }
      where
        by_front : (q : List ℕ) → q ≢ p → (x ≡ q) ⊎ Contains ps q → Contains ps q
        by_front q ne (inl e) = absurd (ne (sym e ∙ same))
        by_front q ne (inr r) = r
    by later (inr r) =
        let out = later r in
        record {
          rest = x ∷ out.rest;
          shorter = ap suc out.shorter;
          keeps = λ q hq ne. still out q ne (front_or_rest x ps q hq);
        }
      where
        still : (out : IsWithout ps p) (q : List ℕ) → q ≢ p → (x ≡ q) ⊎ Contains ps q → Contains (x ∷ out.rest) q
        still out q ne (inl e) = same_member (x ∷ out.rest) x q e (in_front x out.rest)
        still out q ne (inr more) = in_rest x out.rest q (out.keeps q more ne)

-- no two of these paths are one
abbrev AreDifferent : List (List ℕ) → Type 0
AreDifferent [] = Unit {0}
AreDifferent (p ∷ ps) = (Contains ps p → ⊥) × AreDifferent ps

-- paths that differ and all are among others are not more than those
no_more : (ps qs : List (List ℕ)) → AreDifferent ps → ((p : List ℕ) → Contains ps p → Contains qs p) → length ps ≤ length qs
no_more [] qs differ among = omega arith
no_more (p ∷ ps) qs differ among =
    let out = taken_out qs p (among p (in_front p ps)) in
    let rest = no_more ps out.rest differ.1 (λ q h. out.keeps q (among q (in_rest p ps q h)) (λ e. differ.0 (same_member ps q p e h))) in
    let shorter = out.shorter in
    omega (arith, rest, shorter)

-- ---- the paths of a tree

truth : (b : Bool) → T b → b ≡ true
truth true h = refl
truth false h = absurd h

abbrev Entry : Type 0
Entry = List ℕ × List ℕ

abbrev paths_of : List Entry → List (List ℕ)
paths_of es = map (λ (e : Entry). e.0) es

not_below : (p : List ℕ) → is_lt (path_cmp p p) ≡ true → ⊥
not_below p h =
    let no : true ≡ false = sym h ∙ ap is_lt (tied_itself path_total p) in
    cc no

below_none : (p : List ℕ) (es : List Entry) → below_all path_cmp p es ≡ true → Contains (paths_of es) p → ⊥
below_none p [] b h = none_in p h
below_none p (e ∷ es) b h =
    let parts = and_parts (is_lt (path_cmp p e.0)) (below_all path_cmp p es) b in
    elim (front_or_rest e.0 (paths_of es) p h) [
      | inl same ↦ not_below p (ap (λ q. is_lt (path_cmp p q)) (sym same) ∙ parts.0)
      | inr rest ↦ below_none p es parts.1 rest
    ]

paths_differ : (es : List Entry) → is_sorted path_cmp es ≡ true → AreDifferent (paths_of es)
paths_differ [] h = tt
paths_differ (e ∷ es) h =
    let parts = and_parts (below_all path_cmp e.0 es) (is_sorted path_cmp es) h in
    (below_none e.0 es parts.0, paths_differ es parts.1)

keys_differ : (t : Tree) → AreDifferent (map.keys t)
keys_differ t = paths_differ (map.entries t) (truth (is_sorted path_cmp (map.entries t)) (map.entries_sorted t))

-- a path of a tree is among its paths, and they are paths of it
in_keys : (t : Tree) (p : List ℕ) → has t p ≡ true → Contains (map.keys t) p
in_keys t p h =
    let found = from_any (eq_by_cmp path_cmp p) (map.keys t) (sym (map.contains_key-keys t p) ∙ h) in
    same_member (map.keys t) found.0 p (sym (same_is p found.0 found.2)) found.1

from_keys : (t : Tree) (p : List ℕ) → Contains (map.keys t) p → has t p ≡ true
from_keys t p h = map.contains_key-keys t p ∙ in_any (eq_by_cmp path_cmp p) (map.keys t) p h (same_self p)

-- ---- the next version

kept_has : (t : Tree) (places : List Place) (p : List ℕ) → has (map.retain_keys t (touches places)) p ≡ (touches places p && has t p)
kept_has t places p =
    ap is_some (map.get-retain_keys t (touches places) p (λ x e. ap (touches places) (sym (path_only p x e)))) ∙ by (touches places p)
  where
    by : (b : Bool) → is_some (cond b (map.get t p) None) ≡ (b && has t p)
    by true = refl
    by false = refl

as_written : (paths : List (List ℕ)) (p : List ℕ) → Contains paths p → Contains (written_paths paths) p
as_written [] p h = absurd (none_in p h)
as_written (q ∷ paths) p h = h

-- each page of the tree after some steps is fresh or was there
fresh_or_had : (t : Tree) (steps : List Step) (p : List ℕ) → has (tree_after t steps) p ≡ true
    → Contains (fresh_as_top t steps) p ⊎ (has t p ≡ true)
fresh_or_had t steps p there = elim (told (touches (all_writes t steps) p)) [
  | inl touched ↦ inl (as_written (fresh_of t steps) p
      (in_keys (map.retain_keys (tree_after t steps) (touches (all_writes t steps))) p
      (kept_has (tree_after t steps) (all_writes t steps) p ∙ ap (λ b. b && has (tree_after t steps) p) touched ∙ there)))
  | inr not_touched ↦ inr (untouched_run t steps p there not_touched).0
]

pub next_shares : (last v : Version) (steps : List Step) → v.tree ≡ tree_after last.tree steps → v.fresh ≡ fresh_as_top last.tree steps → IsSharing last v
next_shares last v steps tree fresh = λ p there.
    let F : List (List ℕ) → Type 0 = λ l. Contains l p ⊎ (has last.tree p ≡ true) in
    subst F (sym fresh) (fresh_or_had last.tree steps p (ap (λ t. has t p) (sym tree) ∙ there))

-- one version more
pub one_more_shares : (vs : List Version) (last v : Version) → slice_get vs (length vs - 1) ≡ Some last → IsSharing last v → AreSharing vs
    → AreSharing (vs ++ v ∷ [])
one_more_shares vs last v is shares all = λ k x y here next. by k x y (get_push vs v x k here) (get_push vs v y (k + 1) next)
  where
    by : (k : ℕ) (x y : Version) → (slice_get vs k ≡ Some x) ⊎ ((k ≡ length vs) × (v ≡ x))
        → (slice_get vs (k + 1) ≡ Some y) ⊎ ((k + 1 ≡ length vs) × (v ≡ y)) → IsSharing x y
    by k x y (inl a) (inl b) = all k x y a b
    by k x y (inl a) (inr b) =
        let end : k + 1 ≡ length vs = b.0 in
        let place : length vs - 1 ≡ k = omega (arith, end) in
        let moved : slice_get vs k ≡ Some last = ap (λ i. slice_get vs i) (sym place) ∙ is in
        let same : last ≡ x = cc (moved, a) in
        let F : Version → Type 0 = λ z. IsSharing z y in
        let G : Version → Type 0 = λ z. IsSharing last z in
        subst F same (subst G b.1 shares)
    by k x y (inr a) (inl b) =
        let within : k + 1 < length vs = slice_get_within vs (k + 1) y b in
        let end : k ≡ length vs = a.0 in
        absurd (omega (arith, within, end))
    by k x y (inr a) (inr b) =
        let end : k ≡ length vs = a.0 in
        let ends : k + 1 ≡ length vs = b.0 in
        absurd (omega (arith, end, ends))

-- ---- versions that are pruned

rest_shares : (v : Version) (vs : List Version) → AreSharing (v ∷ vs) → AreSharing vs
rest_shares v vs all = λ k x y here next.
    all (suc k) x y here (ap (λ i. slice_get (v ∷ vs) i) (let e : suc k + 1 ≡ suc (k + 1) = omega arith in e) ∙ next)

first_shares : (v : Version) (vs : List Version) → AreSharing (v ∷ vs) → AreSharing (as_first v ∷ vs)
first_shares v vs all zero x y here next =
    let both : Some (as_first v) ≡ Some x = here in
    let same : as_first v ≡ x = cc both in
    let F : Version → Type 0 = λ z. IsSharing z y in
    subst F same (all zero v y refl next)
first_shares v vs all (suc k) x y here next =
    let e : suc k + 1 ≡ suc (k + 1) = omega arith in
    all (suc k) x y here (ap (λ i. slice_get (v ∷ vs) i) e ∙ sym (ap (λ i. slice_get (as_first v ∷ vs) i) e) ∙ next)

pub cut_shares : (first : ℕ) (vs : List Version) → AreSharing vs → AreSharing (versions_from first vs)
cut_shares first [] all = all
cut_shares first (v ∷ vs) all =
    from_cases AreSharing first v vs (λ lt. cut_shares first vs (rest_shares v vs all)) (λ le. first_shares v vs all)

abbrev pub fresh_in : List Version → ℕ
fresh_in vs = sum_by (λ (v : Version). length v.fresh) vs

-- a version has at most the pages of the one before it, and its fresh ones
page_count : (u v : Version) → IsSharing u v → length (map.keys v.tree) ≤ length v.fresh + length (map.keys u.tree)
page_count u v shares =
    let most = no_more (map.keys v.tree) (v.fresh ++ map.keys u.tree) (keys_differ v.tree) (λ p h. among p (shares p (from_keys v.tree p h))) in
    let both = length-append v.fresh (map.keys u.tree) in
    omega (arith, most, both)
  where
    among : (p : List ℕ) → Contains v.fresh p ⊎ (has u.tree p ≡ true) → Contains (v.fresh ++ map.keys u.tree) p
    among p (inl fresh) = Contains-append_left v.fresh (map.keys u.tree) p fresh
    among p (inr had) = Contains-append_right v.fresh (map.keys u.tree) p (in_keys u.tree p had)

-- where the first of these versions has at most n pages, those from a serial on hold at most n more than all but the first hold
cut_count : (first : ℕ) (vs : List Version) (v : Version) (n : ℕ) → AreSharing (v ∷ vs) → length (map.keys v.tree) ≤ n
    → fresh_in (versions_from first (v ∷ vs)) ≤ n + fresh_in vs
cut_count first [] v n all most =
    from_cases (λ l. fresh_in l ≤ n + fresh_in []) first v [] (λ lt. omega arith)
    (λ le. (let sum = sum_by-cons (λ (x : Version). length x.fresh) (as_first v) [] in omega (arith, most, sum)))
cut_count first (w ∷ ws) v n all most =
    from_cases (λ l. fresh_in l ≤ n + fresh_in (w ∷ ws)) first v (w ∷ ws)
    (λ lt. (let count = page_count v w (all 0 v w refl refl) in
    let rest = cut_count first ws w (n + length w.fresh) (rest_shares v (w ∷ ws) all) (omega (arith, count, most)) in
    let sum = sum_by-cons (λ (x : Version). length x.fresh) w ws in
    omega (arith, rest, sum)))
    (λ le. (let sum = sum_by-cons (λ (x : Version). length x.fresh) (as_first v) (w ∷ ws) in omega (arith, most, sum)))

-- the versions from a serial on hold no more blocks than all of them
pub cut_holds : (first : ℕ) (vs : List Version) → AreSharing vs → ((v : Version) → slice_get vs 0 ≡ Some v → v.fresh ≡ map.keys v.tree)
    → fresh_in (versions_from first vs) ≤ fresh_in vs
cut_holds first [] all is = omega arith
cut_holds first (v ∷ vs) all is =
    let fresh = ap length (is v refl) in
    let most = cut_count first vs v (length v.fresh) all (omega (arith, fresh)) in
    let sum = sum_by-cons (λ (x : Version). length x.fresh) v vs in
    omega (arith, most, sum)
