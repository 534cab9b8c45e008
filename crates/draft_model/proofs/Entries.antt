-- What was written, and where: the entries of a draft against the pages that they show.
use Rattle.std.proofs.Common.{◌≡◌, ℕ, ◌+◌, Bool, true, false, ◌&&◌, ◌||◌, cond, List, [], ◌∷◌, ◌++◌, map, filter, ◌⊎◌, inl, inr, refl, sym, ap, subst, ◌∙◌, Option, Some, None, option_map, length, ◌*◌, ◌≤◌, arith}
use Rattle.std.specs.Option.{option_map_or}
use Rattle.std.proofs.lemmas.List.{length-map}
use Rattle.std.proofs.lemmas.List.Sums.{length-filter, count_by-le-length}
use Rattle.std.specs.List.{AllByRecursion, count_by, list_any, list_all}
use Rattle.std.specs.List.Sorted.{IsStrictlySortedBy}
use Rattle.std.specs.Map.{keys_of}
use Rattle.std.specs.declared.cmp.Ordering.{Ordering}
use Rattle.std.specs.declared.cmp.Ordering.TheVariants.{Less, Equal, Greater}
use Rattle.std.specs.Ordering.{is_lt, is_eq}
use Rattle.std.specs.Cmp.{first_so, second_so}
use Rattle.afs_base.specs.Path.{path_cmp, is_prefix}
use Rattle.afs_base.specs.declared.kind.Kind.{Kind}
use Rattle.afs_base.specs.declared.kind.Kind.TheVariants.{Data, Slot}
use Rattle.tree_model.proofs.Paths.{told, never, false_if, same_self, same_is, prefix_append, prefix_told, or_left, or_right, or_told, both_true}
use Rattle.tree_model.proofs.PlaceFacts.{any_map, any_filter}
use Rattle.page_places.specs.Places.{same, has_bit}
use Rattle.draft_model.specs.Views.{Copied, View, PageCopy, copy_of, copies, live, writes_kind}
use Rattle.draft_model.specs.Stands.{IsKind}
use Rattle.draft_model.specs.Entries.{Entry, shown, is_written, is_touched, is_fresh, fresh_paths}
use Rattle.draft_model.specs.Told.{is_marked, WroteAt, Wrote, IsFresh, AreFresh, are_rising, is_one_of}
use Rattle.draft_model.proofs.Telling.{any_below, some_below}

-- ---- one path

pub same_sym : (p q : List ℕ) → same p q ≡ same q p
same_sym p q = by (told (same q p))
  where
    by : (same q p ≡ true) ⊎ (same q p ≡ false) → same p q ≡ same q p
    by (inl e) = ap (λ x. same x q) (sym (same_is q p e)) ∙ same_self q ∙ sym e
    by (inr e) = false_if (same p q) (λ h. sym e ∙ ap (same q) (same_is p q h) ∙ same_self q) ∙ sym e

-- ---- entries in order

abbrev pub IsInOrder : List Entry → Type 0
IsInOrder es = IsStrictlySortedBy path_cmp (keys_of es)

abbrev pub AllAfter : List ℕ → List Entry → Type 0
AllAfter p es = AllByRecursion (λ y. path_cmp p y ≡ Less) (keys_of es)

pub order_head : (e : Entry) (es : List Entry) → IsInOrder (e ∷ es) → AllAfter e.0 es
unfolding IsStrictlySortedBy
order_head e es h = h.0

pub order_tail : (e : Entry) (es : List Entry) → IsInOrder (e ∷ es) → IsInOrder es
unfolding IsStrictlySortedBy
order_tail e es h = h.1

-- a page that is found among entries after p lies after p
pub found_after : (p : List ℕ) (es : List Entry) → AllAfter p es → (q : List ℕ) (c : Copied) → shown es q ≡ Some c → path_cmp p q ≡ Less
found_after p [] h q c e = absurd (cc e)
found_after p (x ∷ es) h q c e = by (told (same q x.0)) (found_after p es h.1 q c)
  where
    by : (same q x.0 ≡ true) ⊎ (same q x.0 ≡ false) → (shown es q ≡ Some c → path_cmp p q ≡ Less) → path_cmp p q ≡ Less
    by (inl g) rest = ap (path_cmp p) (same_is q x.0 g) ∙ h.0
    by (inr g) rest = rest (sym (ap (λ b. cond b (Some x.1) (shown es q)) g) ∙ e)

pub less_apart : (p q : List ℕ) → path_cmp p q ≡ Less → same q p ≡ false
less_apart p q h = same_sym q p ∙ ap is_eq h

-- an entry that passes is the page that is shown at its path
pub any_found : (test : Entry → Bool) (es : List Entry) → IsInOrder es → list_any test es ≡ true → (p : List ℕ) × (c : Copied) × (shown es p ≡ Some c) × (test (p, c) ≡ true)
any_found test [] order h = never h refl
any_found test (e ∷ es) order h = by (told (test e)) (any_found test es (order_tail e es order))
  where
    by : (test e ≡ true) ⊎ (test e ≡ false)
        → (list_any test es ≡ true → (p : List ℕ) × (c : Copied) × (shown es p ≡ Some c) × (test (p, c) ≡ true))
        → (p : List ℕ) × (c : Copied) × (shown (e ∷ es) p ≡ Some c) × (test (p, c) ≡ true)
    by (inl g) rest = (e.0, e.1, ap (λ b. cond b (Some e.1) (shown es e.0)) (same_self e.0), g)
    by (inr g) rest =
        let r = rest (sym (ap (λ b. b || list_any test es) g) ∙ h) in
        (r.0, r.1, ap (λ b. cond b (Some e.1) (shown es r.0)) (less_apart e.0 r.0 (found_after e.0 es (order_head e es order) r.0 r.1 r.2)) ∙ r.2, r.3)

-- .. and a page that is shown is an entry
pub found_any : (test : Entry → Bool) (es : List Entry) (p : List ℕ) (c : Copied) → shown es p ≡ Some c → test (p, c) ≡ true → list_any test es ≡ true
found_any test [] p c e h = absurd (cc e)
found_any test (x ∷ es) p c e h = by (told (same p x.0)) (λ g. found_any test es p c g h)
  where
    by : (same p x.0 ≡ true) ⊎ (same p x.0 ≡ false) → (shown es p ≡ Some c → list_any test es ≡ true) → (test x || list_any test es) ≡ true
    by (inl g) rest =
        let is : Some x.1 ≡ Some c = sym (ap (λ b. cond b (Some x.1) (shown es p)) g) ∙ e in
        or_left (test x) (list_any test es) ((λ i. test (sym (same_is p x.0 g) i, some_is x.1 c is i)) ∙ h)
      where
        some_is : (a b : Copied) → Some a ≡ Some b → a ≡ b
        some_is a b h = cc h
    by (inr g) rest = or_right (test x) (list_any test es) (rest (sym (ap (λ b. cond b (Some x.1) (shown es p)) g) ∙ e))

-- ---- written

pub written_kind : (c : Copied) → is_written c ≡ true → (k : Kind) × IsKind k × (writes_kind c k ≡ true)
written_kind c h = elim (or_told c.written (is_marked c.page.modified) h) [
  | inl e ↦ (Data, tt, e)
  | inr e ↦ let some = some_below (has_bit c.page.modified) 16 e in (Slot some.0, some.1, some.2)
]

pub kind_written : (c : Copied) (k : Kind) → IsKind k → writes_kind c k ≡ true → is_written c ≡ true
kind_written c Data low h = or_left c.written (is_marked c.page.modified) h
kind_written c (Slot k) low h = or_right c.written (is_marked c.page.modified) (any_below (has_bit c.page.modified) 16 k low h)

-- the page at a path was written
pub wrote_at : (d : View) (p : List ℕ) (c : Copied) → d p ≡ Some c → is_written c ≡ true → WroteAt d p
wrote_at d p c at h =
    let kind = written_kind c h in
    (kind.0, kind.1, ap (λ o. option_map_or (λ (x : Copied). writes_kind x kind.0) o false) at ∙ kind.2)

pub at_wrote : (d : View) (p : List ℕ) → WroteAt d p → (c : Copied) × (d p ≡ Some c) × (is_written c ≡ true)
at_wrote d p wrote = by (d p) refl
  where
    by : (o : Option Copied) → d p ≡ o → (c : Copied) × (d p ≡ Some c) × (is_written c ≡ true)
    by None e = never wrote.2 (ap (λ o. option_map_or (λ (x : Copied). writes_kind x wrote.0) o false) e)
    by (Some c) e = (c, e, kind_written c wrote.0 wrote.1 (sym (ap (λ o. option_map_or (λ (x : Copied). writes_kind x wrote.0) o false) e) ∙ wrote.2))

pub any_wrote : (es : List Entry) → IsInOrder es → list_any (λ e. is_written e.1) es ≡ true → Wrote (shown es)
any_wrote es order h = let some = any_found (λ e. is_written e.1) es order h in (some.0, wrote_at (shown es) some.0 some.1 some.2 some.3)

pub wrote_any : (es : List Entry) → Wrote (shown es) → list_any (λ e. is_written e.1) es ≡ true
wrote_any es wrote = let at = at_wrote (shown es) wrote.0 wrote.1 in found_any (λ e. is_written e.1) es wrote.0 at.0 at.1 at.2

pub touched_wrote : (es : List Entry) → IsInOrder es → (q : List ℕ) → is_touched es q ≡ true → (r : List ℕ) × WroteAt (shown es) (q ++ r)
touched_wrote es order q h =
    let some = any_found (λ e. is_prefix q e.0 && is_written e.1) es order h in
    let rest = prefix_told q some.0 (first_so (is_prefix q some.0) (is_written some.1) some.3) in
    let F : List ℕ → Type 0 = λ x. WroteAt (shown es) x in
    (rest.0, subst F (sym rest.1) (wrote_at (shown es) some.0 some.1 some.2 (second_so (is_prefix q some.0) (is_written some.1) some.3)))

pub wrote_touched : (es : List Entry) (q r : List ℕ) → WroteAt (shown es) (q ++ r) → is_touched es q ≡ true
wrote_touched es q r wrote =
    let at = at_wrote (shown es) (q ++ r) wrote in
    found_any (λ e. is_prefix q e.0 && is_written e.1) es (q ++ r) at.0 at.1 (ap (λ b. b && is_written at.0) (prefix_append q r) ∙ at.2)

-- ---- the fresh paths

one_of : (es : List Entry) (q : List ℕ) → is_one_of (fresh_paths es) q ≡ list_any (λ e. is_fresh es e && same q e.0) es
one_of es q = any_map (λ (e : Entry). e.0) (same q) (filter (is_fresh es) es) ∙ any_filter (is_fresh es) (λ (e : Entry). same q e.0) es

live_at : (es : List Entry) (p : List ℕ) (c : Copied) → shown es p ≡ Some c → live (copies (shown es)) p ≡ c.live
live_at es p c e = ap (λ o. option_map_or (λ (x : PageCopy). x.live) o false) (ap (λ (o : Option Copied). option_map copy_of o) e)

one_fresh : (es : List Entry) → IsInOrder es → (q : List ℕ) → is_one_of (fresh_paths es) q ≡ true → IsFresh (shown es) q
one_fresh es order q h =
    let some = any_found (λ e. is_fresh es e && same q e.0) es order (sym (one_of es q) ∙ h) in
    let fresh = first_so (is_fresh es (some.0, some.1)) (same q some.0) some.3 in
    let is = same_is q some.0 (second_so (is_fresh es (some.0, some.1)) (same q some.0) some.3) in
    let at : shown es q ≡ Some some.1 = ap (shown es) is ∙ some.2 in (
      live_at es q some.1 at ∙ first_so some.1.live (is_touched es some.0) fresh,
      touched_wrote es order q (ap (is_touched es) is ∙ second_so some.1.live (is_touched es some.0) fresh),
    )

fresh_one : (es : List Entry) (q : List ℕ) → IsFresh (shown es) q → is_one_of (fresh_paths es) q ≡ true
fresh_one es q fresh = by (shown es q) refl
  where
    by : (o : Option Copied) → shown es q ≡ o → is_one_of (fresh_paths es) q ≡ true
    by None e = never fresh.0 (ap (λ o. option_map_or (λ (x : PageCopy). x.live) o false) (ap (λ (o : Option Copied). option_map copy_of o) e))
    by (Some c) e =
        one_of es q
        ∙ found_any (λ x. is_fresh es x && same q x.0) es q c e
        ((λ i. (sym (live_at es q c e) ∙ fresh.0) i && wrote_touched es q fresh.1.0 fresh.1.1 i && same_self q i))

kept_after : (p : List ℕ) (f : Entry → Bool) (es : List Entry) → AllAfter p es → list_all (λ q. is_lt (path_cmp p q)) (map (λ (e : Entry). e.0) (filter f es)) ≡ true
kept_after p f [] h = refl
kept_after p f (e ∷ es) h = by (f e) (kept_after p f es h.1)
  where
    by : (b : Bool) → list_all (λ q. is_lt (path_cmp p q)) (map (λ (e : Entry). e.0) (filter f es)) ≡ true
        → list_all (λ q. is_lt (path_cmp p q)) (map (λ (e : Entry). e.0) (cond b (e ∷ filter f es) (filter f es))) ≡ true
    by true rest = ap (λ o. is_lt o && list_all (λ q. is_lt (path_cmp p q)) (map (λ (e : Entry). e.0) (filter f es))) h.0 ∙ rest
    by false rest = rest

rising : (f : Entry → Bool) (es : List Entry) → IsInOrder es → are_rising (map (λ (e : Entry). e.0) (filter f es)) ≡ true
rising f [] order = refl
rising f (e ∷ es) order = by (f e) (kept_after e.0 f es (order_head e es order)) (rising f es (order_tail e es order))
  where
    by : (b : Bool) → list_all (λ q. is_lt (path_cmp e.0 q)) (map (λ (e : Entry). e.0) (filter f es)) ≡ true
        → are_rising (map (λ (e : Entry). e.0) (filter f es)) ≡ true
        → are_rising (map (λ (e : Entry). e.0) (cond b (e ∷ filter f es) (filter f es))) ≡ true
    by true first rest = ap (λ b. b && are_rising (map (λ (e : Entry). e.0) (filter f es))) first ∙ rest
    by false first rest = rest

pub are_fresh : (es : List Entry) → IsInOrder es → AreFresh (shown es) (fresh_paths es)
are_fresh es order = record {
  rising = rising (is_fresh es) es order;
  each = λ q. (one_fresh es order q, fresh_one es q);
}

-- ---- the order of the entries as a test

all_less : (p : List ℕ) (es : List Entry) → AllAfter p es → list_all (λ q. is_lt (path_cmp p q)) (keys_of es) ≡ true
all_less p [] h = refl
all_less p (e ∷ es) h = both_true (is_lt (path_cmp p e.0)) (list_all (λ q. is_lt (path_cmp p q)) (keys_of es)) (ap is_lt h.0) (all_less p es h.1)

pub order_rising : (es : List Entry) → IsInOrder es → are_rising (keys_of es) ≡ true
order_rising [] order = refl
order_rising (e ∷ es) order =
    both_true (list_all (λ q. is_lt (path_cmp e.0 q)) (keys_of es)) (are_rising (keys_of es)) (all_less e.0 es (order_head e es order)) (order_rising es (order_tail e es order))

less_is : (o : Ordering) → is_lt o ≡ true → o ≡ Less
less_is Less h = refl
less_is Equal h = never h refl
less_is Greater h = never h refl

less_all : (p : List ℕ) (es : List Entry) → list_all (λ q. is_lt (path_cmp p q)) (keys_of es) ≡ true → AllAfter p es
less_all p [] h = tt
less_all p (e ∷ es) h = (
  less_is (path_cmp p e.0) (first_so (is_lt (path_cmp p e.0)) (list_all (λ q. is_lt (path_cmp p q)) (keys_of es)) h),
  less_all p es (second_so (is_lt (path_cmp p e.0)) (list_all (λ q. is_lt (path_cmp p q)) (keys_of es)) h),
)

rising_order : (es : List Entry) → are_rising (keys_of es) ≡ true → IsInOrder es
unfolding IsStrictlySortedBy
rising_order [] h = tt
rising_order (e ∷ es) h = (
  less_all e.0 es (first_so (list_all (λ q. is_lt (path_cmp e.0 q)) (keys_of es)) (are_rising (keys_of es)) h),
  rising_order es (second_so (list_all (λ q. is_lt (path_cmp e.0 q)) (keys_of es)) (are_rising (keys_of es)) h),
)

pub all_fresh : (es : List Entry) → are_rising (keys_of es) ≡ true → AreFresh (shown es) (fresh_paths es)
all_fresh es rising = are_fresh es (rising_order es rising)

-- ---- there are few

pub fresh_length : (es : List Entry) → length (fresh_paths es) ≡ count_by (is_fresh es) es
fresh_length es = length-map (filter (is_fresh es) es) (λ (e : Entry). e.0) ∙ length-filter (is_fresh es) es

pub few_paths : (es : List Entry) → length (fresh_paths es) ≤ length es
few_paths es = omega (arith, fresh_length es, count_by-le-length (is_fresh es) es)

pub few_fresh : (es : List Entry) (count fed : ℕ) → length es ≤ 1 + 7 * count + fed → count ≤ 128 → fed ≤ 7 → length (fresh_paths es) ≤ 904
few_fresh es count fed room most few = omega (arith, few_paths es)

-- keys that are the same are as many
pub length_keys : (es fs : List Entry) → keys_of es ≡ keys_of fs → length es ≡ length fs
length_keys es fs same_keys = sym (length-map es (λ (e : Entry). e.0)) ∙ ap length same_keys ∙ length-map fs (λ (e : Entry). e.0)
