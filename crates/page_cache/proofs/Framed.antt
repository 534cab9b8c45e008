-- What a list of frames shows, when one of them moves.
use Rattle.std.proofs.Common.{◌≡◌, ◌≢◌, ◌⊎◌, ℕ, ◌+◌, ◌<◌, ◌≤◌, Bool, true, false, cond, ◌||◌, List, [], ◌∷◌, ◌++◌, length, nat_eq, Option, Some, None, MatchOption, refl, sym, ap, ◌∙◌, subst, inl, inr, ⊎_elim, arith, eq-eqb, ne_eqb}
use Rattle.std.specs.List.{AllByRecursion, IsDistinct, list_any}
use Rattle.std.specs.Map.{keys_of, lookup, remove_entry}
use Rattle.std.specs.Cmp.{nat_eq_equiv}
use Rattle.std.proofs.lemmas.Map.{lookup-none, none_passes_from_lookup, lookup-remove_entry}
use Rattle.std.proofs.lemmas.Map.Keys.{IsDistinct-head, IsDistinct-tail, IsDistinct-cons, IsDistinct-push}
use Rattle.std.proofs.lemmas.List.{map-append}
use borrow.Author.Tests.{eqb-true}
use Rattle.lru.specs.LruCache.{last_entry}
use Rattle.lru.proofs.Pairs.{cut_end, last_of_push}
use Rattle.page_cache.specs.declared.frame.Frame.{Frame}
use Rattle.page_cache.specs.Listing.{others}
use Rattle.page_cache.specs.Framing.{in_front, listed, IsPacked}

abbrev pub Frames : Type 0
Frames = List (ℕ × Frame)

abbrev pub Entries : Type 0
Entries = List (ℕ × List ℕ)

-- ---- one block among the listed ones

pub others_absent : (n : ℕ) (es : Entries) → lookup (nat_eq n) es ≡ None → others n es ≡ es
others_absent n [] h = refl
others_absent n (e ∷ es) h = (elim (nat_eq n e.0) as (λ y. cond y (Some e.1) (lookup (nat_eq n) es) ≡ None → cond y (others n es) (e ∷ others n es) ≡ e ∷ es) [
  | true ↦ λ t. absurd cc
  | false ↦ λ t. ap (λ l. e ∷ l) (others_absent n es t)
]) h

-- the block that the test is of comes first
first_is : (n : ℕ) (b : List ℕ) (l : Entries) → lookup (nat_eq n) l ≡ None → (lookup (nat_eq n) ((n, b) ∷ l) ≡ Some b) × (others n ((n, b) ∷ l) ≡ l)
first_is n b l none =
    (ap (λ y. cond y (Some b) (lookup (nat_eq n) l)) (eq-eqb n n refl), ap (λ y. cond y (others n l) ((n, b) ∷ others n l)) (eq-eqb n n refl) ∙ others_absent n l none)

-- another one comes first
other_is : (n : ℕ) (o : Option ℕ) (b c : List ℕ) (l m : Entries) → lookup (nat_eq n) (in_front o b m) ≡ None → (lookup (nat_eq n) m ≡ None → (lookup (nat_eq n) l ≡ Some c) × (others n l ≡ m))
    → (lookup (nat_eq n) (in_front o b l) ≡ Some c) × (others n (in_front o b l) ≡ in_front o b m)
other_is n None b c l m none on = on none
other_is n (Some k) b c l m none on = (elim (nat_eq n k) as (λ y. cond y (Some b) (lookup (nat_eq n) m) ≡ None
    → (cond y (Some b) (lookup (nat_eq n) l) ≡ Some c) × (cond y (others n l) ((k, b) ∷ others n l) ≡ (k, b) ∷ m)) [
      | true ↦ λ t. absurd cc
      | false ↦ λ t. let r = on t in (r.0, ap (λ z. (k, b) ∷ z) r.1)
    ]) none

-- where one frame alone has block n, the block is found with its bytes, and the others are those of the other frames
pub one_has : (k n : ℕ) (f : Frame) (es : Frames) → f.block ≡ Some n → lookup (nat_eq k) es ≡ Some f → lookup (nat_eq n) (listed (remove_entry (nat_eq k) es)) ≡ None
    → (lookup (nat_eq n) (listed es) ≡ Some f.bytes) × (others n (listed es) ≡ listed (remove_entry (nat_eq k) es))
one_has k n f [] has at none = absurd cc
one_has k n f (e ∷ es) has at none = (elim (nat_eq k e.0) as (λ y. cond y (Some e.1) (lookup (nat_eq k) es) ≡ Some f → lookup (nat_eq n) (listed (cond y es (e ∷ remove_entry (nat_eq k) es))) ≡ None
    → (lookup (nat_eq n) (in_front e.1.block e.1.bytes (listed es)) ≡ Some f.bytes) × (others n (in_front e.1.block e.1.bytes (listed es)) ≡ listed (cond y es (e ∷ remove_entry (nat_eq k) es)))) [
      | true ↦ λ here absent.
          let same : e.1 ≡ f = cc in
          let front : in_front e.1.block e.1.bytes (listed es) ≡ (n, f.bytes) ∷ listed es = ap (λ (g : Frame). in_front g.block g.bytes (listed es)) same ∙ ap (λ o. in_front o f.bytes (listed es)) has in
          subst (λ (m : Entries). (lookup (nat_eq n) m ≡ Some f.bytes) × (others n m ≡ listed es)) (sym front) (first_is n f.bytes (listed es) absent)
      | false ↦ λ there absent. other_is n e.1.block e.1.bytes f.bytes (listed es) (listed (remove_entry (nat_eq k) es)) absent (λ away. one_has k n f es has there away)
    ]) at none

-- a frame without a block shows nothing
pub empty_has : (k : ℕ) (f : Frame) (es : Frames) → f.block ≡ None → lookup (nat_eq k) es ≡ Some f → listed (remove_entry (nat_eq k) es) ≡ listed es
empty_has k f [] has at = absurd cc
empty_has k f (e ∷ es) has at = (elim (nat_eq k e.0) as (λ y. cond y (Some e.1) (lookup (nat_eq k) es) ≡ Some f → listed (cond y es (e ∷ remove_entry (nat_eq k) es)) ≡ in_front e.1.block e.1.bytes (listed es)) [
  | true ↦ λ here.
      let same : e.1 ≡ f = cc in
      sym (ap (λ (g : Frame). in_front g.block g.bytes (listed es)) same ∙ ap (λ o. in_front o f.bytes (listed es)) has)
  | false ↦ λ there. ap (λ l. in_front e.1.block e.1.bytes l) (empty_has k f es has there)
]) at

-- ---- frames with different numbers

mapped : (P : ℕ → Type 0) (es : Frames) → AllByRecursion (λ e. P e.0) es → AllByRecursion P (keys_of es)
mapped P [] h = h
mapped P (e ∷ es) h = (h.0, mapped P es h.1)

unmapped : (P : ℕ → Type 0) (es : Frames) → AllByRecursion P (keys_of es) → AllByRecursion (λ e. P e.0) es
unmapped P [] h = h
unmapped P (e ∷ es) h = (h.0, unmapped P es h.1)

first_alone : (e : ℕ × Frame) (es : Frames) → IsDistinct nat_eq (keys_of (e ∷ es)) → lookup (nat_eq e.0) es ≡ None
first_alone e es d = lookup-none (nat_eq e.0) es (unmapped (λ k. nat_eq e.0 k ≡ false) es (IsDistinct-head nat_eq e.0 (keys_of es) d))

-- what is found behind the first is found
found_behind : (e : ℕ × Frame) (es : Frames) (k : ℕ) (f : Frame) → IsDistinct nat_eq (keys_of (e ∷ es)) → lookup (nat_eq k) es ≡ Some f → lookup (nat_eq k) (e ∷ es) ≡ Some f
found_behind e es k f d h = (elim (nat_eq k e.0) as (λ y. nat_eq k e.0 ≡ y → cond y (Some e.1) (lookup (nat_eq k) es) ≡ Some f) [
  | true ↦ λ t. let none : lookup (nat_eq k) es ≡ None = ap (λ q. lookup (nat_eq q) es) (eqb-true k e.0 t) ∙ first_alone e es d in absurd cc
  | false ↦ λ t. h
]) refl

front_or_behind : (n : ℕ) (o : Option ℕ) (b c : List ℕ) (l : Entries) → lookup (nat_eq n) (in_front o b l) ≡ Some c → (o ≡ Some n) ⊎ (lookup (nat_eq n) l ≡ Some c)
front_or_behind n None b c l h = inr h
front_or_behind n (Some m) b c l h = (elim (nat_eq n m) as (λ y. nat_eq n m ≡ y → cond y (Some b) (lookup (nat_eq n) l) ≡ Some c → (Some m ≡ Some n) ⊎ (lookup (nat_eq n) l ≡ Some c)) [
  | true ↦ λ t k. inl (ap (λ (x : ℕ). Some x) (sym (eqb-true n m t)))
  | false ↦ λ t k. inr k
]) refl h

-- a listed block lies in a frame
pub lies_in : (n : ℕ) (b : List ℕ) (es : Frames) → IsDistinct nat_eq (keys_of es) → lookup (nat_eq n) (listed es) ≡ Some b → (k : ℕ) × (f : Frame) × (lookup (nat_eq k) es ≡ Some f) × (f.block ≡ Some n)
lies_in n b [] d h = absurd cc
lies_in n b (e ∷ es) d h = ⊎_elim
    (λ has. (e.0, e.1, ap (λ y. cond y (Some e.1) (lookup (nat_eq e.0) es)) (eq-eqb e.0 e.0 refl), has))
    (λ on. let r = lies_in n b es (IsDistinct-tail nat_eq e.0 (keys_of es) d) on in (r.0, r.1, found_behind e es r.0 r.1 d r.2, r.3))
    (front_or_behind n e.1.block e.1.bytes b (listed es) h)

-- ---- a frame that is taken out of the list

one_key : (k x y : ℕ) → nat_eq k x ≡ true → nat_eq k y ≡ nat_eq x y
one_key k x y t = ap (λ z. nat_eq z y) (eqb-true k x t)

pub removed_none : (k : ℕ) (es : Frames) → IsDistinct nat_eq (keys_of es) → lookup (nat_eq k) (remove_entry (nat_eq k) es) ≡ None
removed_none k es d = lookup-remove_entry nat_eq_equiv (nat_eq k) (one_key k) k es d ∙ ap (λ y. cond y None (lookup (nat_eq k) es)) (eq-eqb k k refl)

pub removed_else : (k q : ℕ) (es : Frames) → IsDistinct nat_eq (keys_of es) → q ≢ k → lookup (nat_eq q) (remove_entry (nat_eq k) es) ≡ lookup (nat_eq q) es
removed_else k q es d ne = lookup-remove_entry nat_eq_equiv (nat_eq k) (one_key k) q es d ∙ ap (λ y. cond y None (lookup (nat_eq q) es)) (ne_eqb k q (λ e. ne (sym e)))

removed_all : (P : ℕ → Type 0) (test : ℕ → Bool) (es : Frames) → AllByRecursion P (keys_of es) → AllByRecursion P (keys_of (remove_entry test es))
removed_all P test [] h = h
removed_all P test (e ∷ es) h = elim (test e.0) as (λ y. AllByRecursion P (keys_of (cond y es (e ∷ remove_entry test es)))) [ true ↦ h.1 | false ↦ (h.0, removed_all P test es h.1) ]

pub removed_distinct : (test : ℕ → Bool) (es : Frames) → IsDistinct nat_eq (keys_of es) → IsDistinct nat_eq (keys_of (remove_entry test es))
removed_distinct test [] d = d
removed_distinct test (e ∷ es) d = let on = IsDistinct-tail nat_eq e.0 (keys_of es) d in elim (test e.0) as (λ y. IsDistinct nat_eq (keys_of (cond y es (e ∷ remove_entry test es)))) [
  | true ↦ on
  | false ↦ IsDistinct-cons nat_eq e.0 (keys_of (remove_entry test es)) (removed_all (λ k. nat_eq e.0 k ≡ false) test es (IsDistinct-head nat_eq e.0 (keys_of es) d)) (removed_distinct test es on)
]

pub length-removed : (k : ℕ) (f : Frame) (es : Frames) → lookup (nat_eq k) es ≡ Some f → length (remove_entry (nat_eq k) es) + 1 ≡ length es
length-removed k f [] h = absurd cc
length-removed k f (e ∷ es) h = (elim (nat_eq k e.0) as (λ y. cond y (Some e.1) (lookup (nat_eq k) es) ≡ Some f → length (cond y es (e ∷ remove_entry (nat_eq k) es)) + 1 ≡ length (e ∷ es)) [
  | true ↦ λ t. omega arith
  | false ↦ λ t. let on = length-removed k f es t in omega (arith, on)
]) h

pub length-listed : (es : Frames) → length (listed es) ≤ length es
length-listed [] = omega arith
length-listed (e ∷ es) = let on = length-listed es in elim e.1.block as (λ o. length (in_front o e.1.bytes (listed es)) ≤ length (e ∷ es)) [ None ↦ omega (arith, on) | Some n ↦ omega (arith, on) ]

-- ---- the frame goes to the front

pub front_here : (k : ℕ) (g : Frame) (es : Frames) → lookup (nat_eq k) ((k, g) ∷ es) ≡ Some g
front_here k g es = ap (λ y. cond y (Some g) (lookup (nat_eq k) es)) (eq-eqb k k refl)

pub front_else : (k q : ℕ) (g : Frame) (es : Frames) → q ≢ k → lookup (nat_eq q) ((k, g) ∷ es) ≡ lookup (nat_eq q) es
front_else k q g es ne = ap (λ y. cond y (Some g) (lookup (nat_eq q) es)) (ne_eqb q k ne)

pub front_distinct : (k : ℕ) (g : Frame) (es : Frames) → IsDistinct nat_eq (keys_of es) → lookup (nat_eq k) es ≡ None → IsDistinct nat_eq (keys_of ((k, g) ∷ es))
front_distinct k g es d none = IsDistinct-cons nat_eq k (keys_of es) (mapped (λ q. nat_eq k q ≡ false) es (none_passes_from_lookup (nat_eq k) es none)) d

-- ---- the frame goes to the end

behind_none : (test : ℕ → Bool) (es fs : Frames) → lookup test es ≡ None → lookup test (es ++ fs) ≡ lookup test fs
behind_none test [] fs h = refl
behind_none test (e ∷ es) fs h = (elim (test e.0) as (λ y. cond y (Some e.1) (lookup test es) ≡ None → cond y (Some e.1) (lookup test (es ++ fs)) ≡ lookup test fs) [
  | true ↦ λ t. absurd cc
  | false ↦ λ t. behind_none test es fs t
]) h

behind_more : (test : ℕ → Bool) (es fs : Frames) → lookup test fs ≡ None → lookup test (es ++ fs) ≡ lookup test es
behind_more test [] fs h = h
behind_more test (e ∷ es) fs h = ap (λ l. cond (test e.0) (Some e.1) l) (behind_more test es fs h)

pub end_here : (k : ℕ) (g : Frame) (es : Frames) → lookup (nat_eq k) es ≡ None → lookup (nat_eq k) (es ++ (k, g) ∷ []) ≡ Some g
end_here k g es none = behind_none (nat_eq k) es ((k, g) ∷ []) none ∙ front_here k g []

pub end_else : (k q : ℕ) (g : Frame) (es : Frames) → q ≢ k → lookup (nat_eq q) (es ++ (k, g) ∷ []) ≡ lookup (nat_eq q) es
end_else k q g es ne = behind_more (nat_eq q) es ((k, g) ∷ []) (front_else k q g [] ne)

none_any : (k : ℕ) (es : Frames) → lookup (nat_eq k) es ≡ None → list_any (nat_eq k) (keys_of es) ≡ false
none_any k [] h = refl
none_any k (e ∷ es) h = (elim (nat_eq k e.0) as (λ y. cond y (Some e.1) (lookup (nat_eq k) es) ≡ None → (y || list_any (nat_eq k) (keys_of es)) ≡ false) [
  | true ↦ λ t. absurd cc
  | false ↦ λ t. none_any k es t
]) h

pub end_distinct : (k : ℕ) (g : Frame) (es : Frames) → IsDistinct nat_eq (keys_of es) → lookup (nat_eq k) es ≡ None → IsDistinct nat_eq (keys_of (es ++ (k, g) ∷ []))
end_distinct k g es d none = subst (IsDistinct nat_eq) (sym (map-append (λ (e : ℕ × Frame). e.0) es ((k, g) ∷ []))) (IsDistinct-push nat_eq_equiv (keys_of es) k d (none_any k es none))

in_front-append : (o : Option ℕ) (b : List ℕ) (l m : Entries) → in_front o b l ++ m ≡ in_front o b (l ++ m)
in_front-append None b l m = refl
in_front-append (Some n) b l m = refl

pub listed-append : (es fs : Frames) → listed (es ++ fs) ≡ listed es ++ listed fs
listed-append [] fs = refl
listed-append (e ∷ es) fs = ap (λ l. in_front e.1.block e.1.bytes l) (listed-append es fs) ∙ sym (in_front-append e.1.block e.1.bytes (listed es) (listed fs))

pub end_listed : (k : ℕ) (g : Frame) (es : Frames) → g.block ≡ None → listed (es ++ (k, g) ∷ []) ≡ listed es
end_listed k g [] has = ap (λ o. in_front o g.bytes []) has
end_listed k g (e ∷ es) has = ap (λ l. in_front e.1.block e.1.bytes l) (end_listed k g es has)

-- ---- packed

matched : {A B C D : Type 0} (o : Option ℕ) → (A → C) → (B → D) → MatchOption o A (λ _. B) → MatchOption o C (λ _. D)
matched None f g h = f h
matched (Some n) f g h = g h

pub tail_nil : (o : Option ℕ) (b : List ℕ) (l : Entries) → in_front o b l ≡ [] → l ≡ []
tail_nil None b l h = h
tail_nil (Some n) b l h = absurd cc

nil_again : (o : Option ℕ) (b : List ℕ) (l m : Entries) → in_front o b l ≡ [] → m ≡ [] → in_front o b m ≡ []
nil_again None b l m h e = e
nil_again (Some n) b l m h e = absurd cc

nil_match : (o : Option ℕ) (b : List ℕ) (es : Frames) → in_front o b (listed es) ≡ [] → MatchOption o (listed es ≡ []) (λ _. IsPacked es)
nil_match None b es h = h
nil_match (Some n) b es h = absurd cc

pub nil_packed : (es : Frames) → listed es ≡ [] → IsPacked es
nil_packed [] h = tt
nil_packed (e ∷ es) h = nil_match e.1.block e.1.bytes es h

removed_nil : (test : ℕ → Bool) (es : Frames) → listed es ≡ [] → listed (remove_entry test es) ≡ []
removed_nil test [] h = h
removed_nil test (e ∷ es) h = let on = tail_nil e.1.block e.1.bytes (listed es) h in elim (test e.0) as (λ y. listed (cond y es (e ∷ remove_entry test es)) ≡ []) [
  | true ↦ on
  | false ↦ nil_again e.1.block e.1.bytes (listed es) (listed (remove_entry test es)) h (removed_nil test es on)
]

rest_packed : (o : Option ℕ) (es : Frames) → MatchOption o (listed es ≡ []) (λ _. IsPacked es) → IsPacked es
rest_packed None es h = nil_packed es h
rest_packed (Some n) es h = h

pub removed_packed : (test : ℕ → Bool) (es : Frames) → IsPacked es → IsPacked (remove_entry test es)
removed_packed test [] h = h
removed_packed test (e ∷ es) h = elim (test e.0) as (λ y. IsPacked (cond y es (e ∷ remove_entry test es))) [
  | true ↦ rest_packed e.1.block es h
  | false ↦ matched e.1.block (λ n. removed_nil test es n) (λ p. removed_packed test es p) h
]

pub front_packed : (k n : ℕ) (g : Frame) (es : Frames) → g.block ≡ Some n → IsPacked es → IsPacked ((k, g) ∷ es)
front_packed k n g es has p = subst (λ o. MatchOption o (listed es ≡ []) (λ _. IsPacked es)) (sym has) p

pub end_packed : (k : ℕ) (g : Frame) (es : Frames) → g.block ≡ None → IsPacked es → IsPacked (es ++ (k, g) ∷ [])
end_packed k g [] has p = subst (λ o. MatchOption o (listed [] ≡ []) (λ _. IsPacked [])) (sym has) refl
end_packed k g (e ∷ es) has p = matched e.1.block (λ n. end_listed k g es has ∙ n) (λ q. end_packed k g es has q) p

-- ---- the last frame

pub last_cut : (es : Frames) (e : ℕ × Frame) → 0 < length es → last_entry es ≡ Some e → (us : Frames) × (es ≡ us ++ e ∷ [])
last_cut es e some at =
    let on = cut_end es some in
    let is : Some on.1 ≡ Some e = sym (last_of_push on.0 on.1).0 ∙ (ap (λ (l : Frames). last_entry l) (sym on.2) ∙ at) in
    let same : on.1 ≡ e = cc in
    (on.0, on.2 ∙ ap (λ x. on.0 ++ x ∷ []) same)

all_to_last : (P : ℕ → Type 0) (us : Frames) (e : ℕ × Frame) → AllByRecursion P (keys_of (us ++ e ∷ [])) → P e.0
all_to_last P [] e h = h.0
all_to_last P (u ∷ us) e h = all_to_last P us e h.1

pub last_alone : (us : Frames) (e : ℕ × Frame) → IsDistinct nat_eq (keys_of (us ++ e ∷ [])) → lookup (nat_eq e.0) us ≡ None
last_alone [] e d = refl
last_alone (u ∷ us) e d =
    let apart : nat_eq u.0 e.0 ≡ false = all_to_last (λ k. nat_eq u.0 k ≡ false) us e (IsDistinct-head nat_eq u.0 (keys_of (us ++ e ∷ [])) d) in
    let away : nat_eq e.0 u.0 ≡ false = ne_eqb e.0 u.0 (λ same. let no : true ≡ false = sym (eq-eqb u.0 e.0 (sym same)) ∙ apart in cc) in
    ap (λ y. cond y (Some u.1) (lookup (nat_eq e.0) us)) away ∙ last_alone us e (IsDistinct-tail nat_eq u.0 (keys_of (us ++ e ∷ [])) d)

pub last_removed : (us : Frames) (e : ℕ × Frame) → lookup (nat_eq e.0) us ≡ None → remove_entry (nat_eq e.0) (us ++ e ∷ []) ≡ us
last_removed [] e h = ap (λ y. cond y [] (e ∷ [])) (eq-eqb e.0 e.0 refl)
last_removed (u ∷ us) e h = (elim (nat_eq e.0 u.0) as (λ y. cond y (Some u.1) (lookup (nat_eq e.0) us) ≡ None → cond y (us ++ e ∷ []) (u ∷ remove_entry (nat_eq e.0) (us ++ e ∷ [])) ≡ u ∷ us) [
  | true ↦ λ t. absurd cc
  | false ↦ λ t. ap (λ l. u ∷ l) (last_removed us e t)
]) h

last_shown : (us : Frames) (e : ℕ × Frame) (m : ℕ) → e.1.block ≡ Some m → listed (us ++ e ∷ []) ≡ [] → ⊥
last_shown [] e m has h = let no : in_front (Some m) e.1.bytes [] ≡ [] = sym (ap (λ o. in_front o e.1.bytes []) has) ∙ h in cc
last_shown (u ∷ us) e m has h = last_shown us e m has (tail_nil u.1.block u.1.bytes (listed (us ++ e ∷ [])) h)

one_longer : (o : Option ℕ) (b : List ℕ) (u : ℕ × Frame) (es : Frames) → (listed es ≡ [] → ⊥) → (IsPacked es → length (listed es) ≡ length es) → MatchOption o (listed es ≡ []) (λ _. IsPacked es)
    → length (in_front o b (listed es)) ≡ length (u ∷ es)
one_longer None b u es some on h = absurd (some h)
one_longer (Some n) b u es some on h = let e : length (listed es) ≡ length es = on h in omega (arith, e)

-- where the last frame has a block, each has one
pub last_full : (us : Frames) (e : ℕ × Frame) (m : ℕ) → e.1.block ≡ Some m → IsPacked (us ++ e ∷ []) → length (listed (us ++ e ∷ [])) ≡ length (us ++ e ∷ [])
last_full [] e m has p = ap (λ o. length (in_front o e.1.bytes [])) has
last_full (u ∷ us) e m has p = one_longer u.1.block u.1.bytes u (us ++ e ∷ []) (last_shown us e m has) (last_full us e m has) p

-- and then the list without its last is that of the other frames
pub last_out : (us : Frames) (e : ℕ × Frame) (m : ℕ) → e.1.block ≡ Some m → listed (us ++ e ∷ []) ≡ listed us ++ (m, e.1.bytes) ∷ []
last_out us e m has = listed-append us (e ∷ []) ∙ ap (λ o. listed us ++ in_front o e.1.bytes []) has
