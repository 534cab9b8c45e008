-- The paths of a version's own pages stand in their order.
use Rattle.std.proofs.Common.{◌≡◌, ℕ, zero, suc, ◌<◌, ◌≤◌, true, List, [], ◌∷◌, ◌++◌, map, filter, Option, Some, None, refl, sym, ap, ◌∙◌, subst, arith, append_assoc, append-nil}
use Rattle.std.specs.declared.cmp.Ordering.{Ordering}
use Rattle.std.specs.declared.cmp.Ordering.TheVariants.{Less}
use Rattle.std.specs.Ordering.{is_lt, nat_cmp, ordering_then}
use Rattle.std.specs.Cmp.{tied_itself, nat_cmp_total, first_so, second_so}
use Rattle.std.specs.List.{list_all}
use Rattle.std.proofs.lemmas.List.{map-append}
use Rattle.std.proofs.lemmas.List.Elements.{filter-append}
use Rattle.afs_base.specs.Path.{path_cmp, is_prefix}
use Rattle.tree_model.proofs.Paths.{both_true}
use Rattle.page_codec.specs.declared.why.Why.TheVariants.{Reference}
use Rattle.page_codec.specs.Values.{ReferenceValue, PageValue}
use Rattle.draft_model.specs.Told.{are_rising}
use Rattle.store_model.specs.Walk.{Blocks}
use Rattle.store_model.specs.Laid.{Node, as_shared, shared_from, lies_at}
use Rattle.store_model.specs.Pages.{own_node, Below, own_from, named_from, slot_from, slots_from, pages_below}
use Rattle.store_model.proofs.Giving.{Gives, gives_bind, gives_done, gives_refuse, gives_any, gives_if}
use Rattle.store_model.proofs.Lying.{Each, each_append}

-- the paths of the pages of its own
abbrev pub own_paths : List Node → List (List ℕ)
own_paths nodes = map (λ (node : Node). node.path) (filter (λ (node : Node). node.is_own) nodes)

pub own_append : (xs ys : List Node) → own_paths (xs ++ ys) ≡ own_paths xs ++ own_paths ys
own_append xs ys =
    ap (map (λ (node : Node). node.path)) (filter-append (λ (node : Node). node.is_own) xs ys)
    ∙ map-append (λ (node : Node). node.path) (filter (λ (node : Node). node.is_own) xs) (filter (λ (node : Node). node.is_own) ys)

shared_none : (q : List ℕ) (nodes : List Node) → own_paths (map (as_shared q) nodes) ≡ []
shared_none q [] = refl
shared_none q (node ∷ nodes) = shared_none q nodes

-- ---- the order of paths with one front

nat_same : (s : ℕ) (o : Ordering) → ordering_then (nat_cmp s s) o ≡ o
nat_same s o = ap (λ r. ordering_then r o) (tied_itself nat_cmp_total s)

cmp_behind : (q p r : List ℕ) → path_cmp (q ++ p) (q ++ r) ≡ path_cmp p r
cmp_behind [] p r = refl
cmp_behind (s ∷ q) p r = nat_same s (path_cmp (q ++ p) (q ++ r)) ∙ cmp_behind q p r

nat_less : (s t : ℕ) → s < t → nat_cmp s t ≡ Less
nat_less s t h = Prim.grind (arith)

cmp_slots : (q : List ℕ) (s t : ℕ) (p r : List ℕ) → s < t → path_cmp (q ++ s ∷ p) (q ++ t ∷ r) ≡ Less
cmp_slots q s t p r h = cmp_behind q (s ∷ p) (t ∷ r) ∙ ap (λ o. ordering_then o (path_cmp p r)) (nat_less s t h)

cmp_above : (q : List ℕ) (t : ℕ) (r : List ℕ) → path_cmp q (q ++ t ∷ r) ≡ Less
cmp_above q t r = ap (λ x. path_cmp x (q ++ t ∷ r)) (sym (append-nil q)) ∙ cmp_behind q [] (t ∷ r)

-- ---- rising paths

abbrev Before : List ℕ → List (List ℕ) → Type 0
Before p paths = list_all (λ q. is_lt (path_cmp p q)) paths ≡ true

-- a path at this one or below it, and one below it in this slot or a later one
abbrev IsFrom : List ℕ → List ℕ → Type 0
IsFrom q p = (r : List ℕ) × (p ≡ q ++ r)

abbrev IsBehind : List ℕ → ℕ → List ℕ → Type 0
IsBehind q slot p = (k : ℕ) × (r : List ℕ) × (slot ≤ k) × (p ≡ q ++ k ∷ r)

record AreFrom (q : List ℕ) (paths : List (List ℕ)) : Type 0 where
  rising : are_rising paths ≡ true
  each : Each (IsFrom q) paths

record AreBehind (q : List ℕ) (slot : ℕ) (paths : List (List ℕ)) : Type 0 where
  rising : are_rising paths ≡ true
  each : Each (IsBehind q slot) paths

before_append : (p : List ℕ) (xs ys : List (List ℕ)) → Before p xs → Before p ys → Before p (xs ++ ys)
before_append p [] ys h k = k
before_append p (x ∷ xs) ys h k =
    both_true (is_lt (path_cmp p x)) (list_all (λ q. is_lt (path_cmp p q)) (xs ++ ys)) (first_so (is_lt (path_cmp p x)) (list_all (λ q. is_lt (path_cmp p q)) xs) h)
    (before_append p xs ys (second_so (is_lt (path_cmp p x)) (list_all (λ q. is_lt (path_cmp p q)) xs) h) k)

is_less : (p r : List ℕ) → path_cmp p r ≡ Less → is_lt (path_cmp p r) ≡ true
is_less p r e = ap is_lt e

before_later : (q : List ℕ) (slot : ℕ) (x : List ℕ) (ys : List (List ℕ)) → IsFrom (q ++ slot ∷ []) x → Each (IsBehind q (suc slot)) ys → Before x ys
before_later q slot x [] here later = refl
before_later q slot x (y ∷ ys) here later =
    both_true (is_lt (path_cmp x y)) (list_all (λ r. is_lt (path_cmp x r)) ys) (is_less x y less) (before_later q slot x ys here later.1)
  where
    less : path_cmp x y ≡ Less
    less =
        let low : suc slot ≤ later.0.0 = later.0.2 in
        ap (λ p. path_cmp p y) (here.1 ∙ append_assoc q (slot ∷ []) here.0) ∙ ap (path_cmp (q ++ slot ∷ here.0)) later.0.3
        ∙ cmp_slots q slot later.0.0 here.0 later.0.1 (omega (arith, low))

rising_append : (q : List ℕ) (slot : ℕ) (xs ys : List (List ℕ)) → Each (IsFrom (q ++ slot ∷ [])) xs → are_rising xs ≡ true → Each (IsBehind q (suc slot)) ys → are_rising ys ≡ true
    → are_rising (xs ++ ys) ≡ true
rising_append q slot [] ys here h later k = k
rising_append q slot (x ∷ xs) ys here h later k =
    both_true (list_all (λ r. is_lt (path_cmp x r)) (xs ++ ys)) (are_rising (xs ++ ys))
    (before_append x xs ys (first_so (list_all (λ r. is_lt (path_cmp x r)) xs) (are_rising xs) h) (before_later q slot x ys here.0 later))
    (rising_append q slot xs ys here.1 (second_so (list_all (λ r. is_lt (path_cmp x r)) xs) (are_rising xs) h) later k)

each_weaker : {X : Type 0} (P Q : X → Type 0) (xs : List X) → ((x : X) → P x → Q x) → Each P xs → Each Q xs
each_weaker P Q [] f h = tt
each_weaker P Q (x ∷ xs) f h = (f x h.0, each_weaker P Q xs f h.1)

joined : (q : List ℕ) (slot : ℕ) (xs ys : List (List ℕ)) → AreFrom (q ++ slot ∷ []) xs → AreBehind q (suc slot) ys → AreBehind q slot (xs ++ ys)
joined q slot xs ys here later =
    record {
      rising = rising_append q slot xs ys here.each here.rising later.each later.rising;
      each = each_append (IsBehind q slot) xs ys
          (each_weaker (IsFrom (q ++ slot ∷ [])) (IsBehind q slot) xs (λ p h. (slot, h.0, omega arith, h.1 ∙ append_assoc q (slot ∷ []) h.0)) here.each)
          (each_weaker (IsBehind q (suc slot)) (IsBehind q slot) ys (λ p h. (h.0, h.1, (let low : suc slot ≤ h.0 = h.2 in omega (arith, low)), h.3)) later.each);
    }

before_all : (q : List ℕ) (paths : List (List ℕ)) → Each (IsBehind q 0) paths → Before q paths
before_all q [] h = refl
before_all q (x ∷ xs) h =
    both_true (is_lt (path_cmp q x)) (list_all (λ r. is_lt (path_cmp q r)) xs) (is_less q x (ap (path_cmp q) h.0.3 ∙ cmp_above q h.0.0 h.0.1)) (before_all q xs h.1)

own_first : (q : List ℕ) (paths : List (List ℕ)) → AreBehind q 0 paths → AreFrom q (q ∷ paths)
own_first q paths below =
    record {
      rising = both_true (list_all (λ r. is_lt (path_cmp q r)) paths) (are_rising paths) (before_all q paths below.each) below.rising;
      each = (([], sym (append-nil q)), each_weaker (IsBehind q 0) (IsFrom q) paths (λ p h. (h.0 ∷ h.1, h.3)) below.each);
    }

-- ---- the walk

abbrev RiseFrom : List ℕ → List Node → Type 0
RiseFrom q nodes = AreFrom q (own_paths nodes)

abbrev RiseBehind : List ℕ → ℕ → List Node → Type 0
RiseBehind q slot nodes = AreBehind q slot (own_paths nodes)

abbrev BelowRise : Below → Type 0
BelowRise below = (block : ℕ) (q : List ℕ) (refs : List ReferenceValue) → Gives (below block q refs) (RiseBehind q 0)

none_from : (q : List ℕ) → AreFrom q []
none_from q = record { rising = refl; each = tt }

none_behind : (q : List ℕ) (slot : ℕ) → AreBehind q slot []
none_behind q slot = record { rising = refl; each = tt }

gives_own : (blocks : Blocks) (below : Below) → BelowRise below → (namer : ℕ) (q : List ℕ) (reference : ReferenceValue) (block : ℕ)
    → Gives (own_from blocks below namer q reference block) (RiseFrom q)
unfolding own_from
gives_own blocks below each namer q reference block =
    gives_bind _ _ (λ _. Unit {0}) (RiseFrom q) (gives_any _)
    (λ page _. gives_bind _ _ (RiseBehind q 0) (RiseFrom q) (each block q page.refs)
    (λ others behind. gives_done (own_node q reference block page ∷ others) (RiseFrom q) (own_first q (own_paths others) behind)))

gives_slot : (blocks : Blocks) (before : List Node) (below : Below) → BelowRise below → (namer : ℕ) (q : List ℕ) (reference : ReferenceValue) (block : Option ℕ)
    → Gives (slot_from blocks below (Some before) namer q reference block) (RiseFrom q)
unfolding slot_from named_from
gives_slot blocks before below each namer q reference None = gives_done [] (RiseFrom q) (none_from q)
gives_slot blocks before below each namer q reference (Some block) =
    gives_if reference.flags.copied _ _ (RiseFrom q) (λ _. gives_own blocks below each namer q reference block)
    (λ _. gives_if (lies_at q block before) _ _ (RiseFrom q)
    (λ _. gives_done (shared_from q before) (RiseFrom q) (subst (AreFrom q) (sym (shared_none q (filter (λ node. is_prefix q node.path) before))) (none_from q)))
    (λ _. gives_refuse namer Reference (RiseFrom q)))

gives_slots : (blocks : Blocks) (before : List Node) (below : Below) → BelowRise below → (namer : ℕ) (q : List ℕ) (slot : ℕ) (refs : List ReferenceValue)
    → Gives (slots_from blocks below (Some before) namer q slot refs) (RiseBehind q slot)
unfolding slots_from
gives_slots blocks before below each namer q slot [] = gives_done [] (RiseBehind q slot) (none_behind q slot)
gives_slots blocks before below each namer q slot (reference ∷ others) =
    gives_bind _ _ (RiseFrom (q ++ slot ∷ [])) (RiseBehind q slot) (gives_slot blocks before below each namer (q ++ slot ∷ []) reference reference.block)
    (λ here from. gives_bind _ _ (RiseBehind q (suc slot)) (RiseBehind q slot) (gives_slots blocks before below each namer q (suc slot) others)
    (λ rest behind. gives_done (here ++ rest) (RiseBehind q slot)
    (subst (AreBehind q slot) (sym (own_append here rest)) (joined q slot (own_paths here) (own_paths rest) from behind))))

gives_pages : (blocks : Blocks) (before : List Node) (depth : ℕ) → BelowRise (pages_below blocks (Some before) depth)
unfolding pages_below
gives_pages blocks before zero = λ block q refs. gives_done [] (RiseBehind q 0) (none_behind q 0)
gives_pages blocks before (suc depth) =
    λ block q refs. gives_slots blocks before (pages_below blocks (Some before) depth) (gives_pages blocks before depth) block q 0 refs

-- the own pages of a version that follows another one, from `/` down
pub rising_paths : (blocks : Blocks) (before : List Node) (block : ℕ) (page : PageValue) (reference : ReferenceValue)
    → Gives (pages_below blocks (Some before) 7 block [] page.refs) (λ nodes. are_rising (own_paths (own_node [] reference block page ∷ nodes)) ≡ true)
rising_paths blocks before block page reference seen nodes all e =
    (own_first [] (own_paths nodes) (gives_pages blocks before 7 block [] page.refs seen nodes all e)).rising
