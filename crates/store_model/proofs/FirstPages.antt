-- The pages of a first version: each is the version's own, and they stand in the order of their paths.
use Rattle.std.proofs.Common.{◌≡◌, ℕ, zero, suc, ◌≤◌, ◌<◌, ◌&&◌, Bool, true, false, cond, T, List, [], ◌∷◌, ◌++◌, map, filter, Option, Some, None, refl, sym, ap, subst, ◌∙◌, arith, append_assoc}
use Rattle.std.specs.declared.cmp.Ordering.{Ordering}
use Rattle.std.specs.declared.cmp.Ordering.TheVariants.{Less}
use Rattle.std.specs.Ordering.{is_lt, nat_cmp, ordering_then}
use Rattle.std.specs.Cmp.{tied_itself, nat_cmp_total}
use Rattle.std.specs.FinMap as finmap
use Rattle.std.specs.FinMap.Entries.{is_sorted, below_all, same_entries}
use Rattle.afs_base.specs.Path.{path_cmp}
use Rattle.tree_model.proofs.Paths.{path_total, path_only}
use Rattle.page_codec.specs.Values.{ReferenceValue, PageValue}
use Rattle.page_places.proofs.Facts.{at_root}
use Rattle.store_model.specs.Walk.{Blocks}
use Rattle.store_model.specs.Laid.{Node, LaidVersion}
use Rattle.store_model.specs.Pages.{own_node, Below, own_from, named_from, slot_from, slots_from, pages_below}
use Rattle.store_model.specs.Found.{version_in}
use Rattle.store_model.proofs.Giving.{Gives, gives_bind, gives_done, gives_any}
use Rattle.store_model.proofs.Lying.{Each, each_append}

-- the pages as entries of a tree, and that they stand in order
abbrev pub entries_of : List Node → List (List ℕ × List ℕ)
entries_of nodes = map (λ (node : Node). (node.path, node.bytes)) nodes

abbrev AreSorted : List Node → Type 0
AreSorted nodes = T (is_sorted path_cmp (entries_of nodes))

abbrev AreAbove : List ℕ → List Node → Type 0
AreAbove p nodes = T (below_all path_cmp p (entries_of nodes))

both : (a b : Bool) → T a → T b → T (a && b)
both true b p q = q
both false b p q = p

first : (a b : Bool) → T (a && b) → T a
first true b p = tt
first false b p = p

second : (a b : Bool) → T (a && b) → T b
second true b p = p
second false b p = absurd p

-- ---- the order of paths with one front

nat_same : (s : ℕ) (o : Ordering) → ordering_then (nat_cmp s s) o ≡ o
nat_same s o = ap (λ r. ordering_then r o) (tied_itself nat_cmp_total s)

cmp_behind : (q p r : List ℕ) → path_cmp (q ++ p) (q ++ r) ≡ path_cmp p r
cmp_behind [] p r = refl
cmp_behind (s ∷ q) p r = nat_same s (path_cmp (q ++ p) (q ++ r)) ∙ cmp_behind q p r

nat_less : (s t : ℕ) → s < t → nat_cmp s t ≡ Less
nat_less s t h = Prim.grind (arith)

cmp_slots : (q : List ℕ) (s t : ℕ) (p r : List ℕ) → s < t → path_cmp (q ++ s ∷ p) (q ++ t ∷ r) ≡ Less
cmp_slots q s t p r h = cmp_behind q (s ∷ p) (t ∷ r) ∙ ap (λ o. ordering_then o (path_cmp p r)) (nat_less s t h)

cmp_above : (q : List ℕ) (t : ℕ) (r : List ℕ) → path_cmp q (q ++ t ∷ r) ≡ Less
cmp_above q t r = ap (λ x. path_cmp x (q ++ t ∷ r)) (sym (at_root q)) ∙ cmp_behind q [] (t ∷ r)

is_less : (p r : List ℕ) → path_cmp p r ≡ Less → T (is_lt (path_cmp p r))
is_less p r e = subst (λ o. T (is_lt o)) (sym e) tt

-- ---- pages from a path down

-- an own page at a path or below it
record IsFrom (q : List ℕ) (node : Node) : Type 0 where
  own : node.is_own ≡ true
  rest : List ℕ
  is : node.path ≡ q ++ rest

-- an own page below a path, in this slot or a later one
record IsBehind (q : List ℕ) (slot : ℕ) (node : Node) : Type 0 where
  own : node.is_own ≡ true
  slot_is : ℕ
  rest : List ℕ
  is : node.path ≡ q ++ slot_is ∷ rest
  late : slot ≤ slot_is

-- own pages at a path and below it, in order
pub record AreFrom (q : List ℕ) (nodes : List Node) : Type 0 where
  pub sorted : T (is_sorted path_cmp (entries_of nodes))
  each : Each (IsFrom q) nodes

-- own pages below a path, from this slot on, in order
record AreBehind (q : List ℕ) (slot : ℕ) (nodes : List Node) : Type 0 where
  sorted : AreSorted nodes
  each : Each (IsBehind q slot) nodes

above_append : (p : List ℕ) (xs ys : List Node) → AreAbove p xs → AreAbove p ys → AreAbove p (xs ++ ys)
above_append p [] ys h k = k
above_append p (x ∷ xs) ys h k = both _ _ (first _ _ h) (above_append p xs ys (second _ _ h) k)

-- a page in one slot stands before those in later ones
before_later : (q : List ℕ) (slot : ℕ) (node : Node) (ys : List Node) → IsFrom (q ++ slot ∷ []) node → Each (IsBehind q (suc slot)) ys → AreAbove node.path ys
before_later q slot node [] here later = tt
before_later q slot node (y ∷ ys) here later =
    both _ _ (is_less node.path y.path less) (before_later q slot node ys here later.1)
  where
    less : path_cmp node.path y.path ≡ Less
    less =
        let low : suc slot ≤ later.0.slot_is = later.0.late in
        ap (λ p. path_cmp p y.path) (here.is ∙ append_assoc q (slot ∷ []) here.rest)
        ∙ ap (path_cmp (q ++ slot ∷ here.rest)) later.0.is
        ∙ cmp_slots q slot later.0.slot_is here.rest later.0.rest (omega arith)

sorted_append : (q : List ℕ) (slot : ℕ) (xs ys : List Node) → Each (IsFrom (q ++ slot ∷ [])) xs → AreSorted xs → Each (IsBehind q (suc slot)) ys → AreSorted ys
    → AreSorted (xs ++ ys)
sorted_append q slot [] ys here h later k = k
sorted_append q slot (x ∷ xs) ys here h later k =
    both _ _ (above_append x.path xs ys (first _ _ h) (before_later q slot x ys here.0 later)) (sorted_append q slot xs ys here.1 (second _ _ h) later k)

each_weaker : {X : Type 0} (P Q : X → Type 0) (xs : List X) → ((x : X) → P x → Q x) → Each P xs → Each Q xs
each_weaker P Q [] f h = tt
each_weaker P Q (x ∷ xs) f h = (f x h.0, each_weaker P Q xs f h.1)

from_slot : (q : List ℕ) (slot : ℕ) (node : Node) → IsFrom (q ++ slot ∷ []) node → IsBehind q slot node
from_slot q slot node h = record { own = h.own; slot_is = slot; rest = h.rest; is = h.is ∙ append_assoc q (slot ∷ []) h.rest; late = omega arith }

from_later : (q : List ℕ) (slot : ℕ) (node : Node) → IsBehind q (suc slot) node → IsBehind q slot node
from_later q slot node h = let low : suc slot ≤ h.slot_is = h.late in record { own = h.own; slot_is = h.slot_is; rest = h.rest; is = h.is; late = omega arith }

joined : (q : List ℕ) (slot : ℕ) (xs ys : List Node) → AreFrom (q ++ slot ∷ []) xs → AreBehind q (suc slot) ys → AreBehind q slot (xs ++ ys)
joined q slot xs ys here later =
    record {
      sorted = sorted_append q slot xs ys here.each here.sorted later.each later.sorted;
      each = each_append (IsBehind q slot) xs ys (each_weaker (IsFrom (q ++ slot ∷ [])) (IsBehind q slot) xs (from_slot q slot) here.each)
          (each_weaker (IsBehind q (suc slot)) (IsBehind q slot) ys (from_later q slot) later.each);
    }

above_all : (q : List ℕ) (nodes : List Node) → Each (IsBehind q 0) nodes → AreAbove q nodes
above_all q [] h = tt
above_all q (x ∷ xs) h =
    both _ _ (is_less q x.path (ap (path_cmp q) h.0.is ∙ cmp_above q h.0.slot_is h.0.rest)) (above_all q xs h.1)

own_first : (q : List ℕ) (reference : ReferenceValue) (block : ℕ) (page : PageValue) (others : List Node) → AreBehind q 0 others
    → AreFrom q (own_node q reference block page ∷ others)
own_first q reference block page others below =
    record {
      sorted = both _ _ (above_all q others below.each) below.sorted;
      each = (
        record { own = refl; rest = []; is = sym (at_root q) },
        each_weaker (IsBehind q 0) (IsFrom q) others (λ node h. record { own = h.own; rest = h.slot_is ∷ h.rest; is = h.is }) below.each,
      );
    }

-- ---- the walk

abbrev BelowBehind : Below → Type 0
BelowBehind below = (block : ℕ) (q : List ℕ) (refs : List ReferenceValue) → Gives (below block q refs) (AreBehind q 0)

gives_own : (blocks : Blocks) (below : Below) → BelowBehind below → (namer : ℕ) (q : List ℕ) (reference : ReferenceValue) (block : ℕ)
    → Gives (own_from blocks below namer q reference block) (AreFrom q)
unfolding own_from
gives_own blocks below each namer q reference block =
    gives_bind _ _ (λ _. Unit {0}) (AreFrom q) (gives_any _)
    (λ page _. gives_bind _ _ (AreBehind q 0) (AreFrom q) (each block q page.refs)
    (λ others behind. gives_done (own_node q reference block page ∷ others) (AreFrom q) (own_first q reference block page others behind)))

gives_slot : (blocks : Blocks) (below : Below) → BelowBehind below → (namer : ℕ) (q : List ℕ) (reference : ReferenceValue) (block : Option ℕ)
    → Gives (slot_from blocks below None namer q reference block) (AreFrom q)
unfolding slot_from named_from
gives_slot blocks below each namer q reference None = gives_done [] (AreFrom q) (record { sorted = tt; each = tt })
gives_slot blocks below each namer q reference (Some block) = gives_own blocks below each namer q reference block

gives_slots : (blocks : Blocks) (below : Below) → BelowBehind below → (namer : ℕ) (q : List ℕ) (slot : ℕ) (refs : List ReferenceValue)
    → Gives (slots_from blocks below None namer q slot refs) (AreBehind q slot)
unfolding slots_from
gives_slots blocks below each namer q slot [] = gives_done [] (AreBehind q slot) (record { sorted = tt; each = tt })
gives_slots blocks below each namer q slot (reference ∷ others) =
    gives_bind _ _ (AreFrom (q ++ slot ∷ [])) (AreBehind q slot) (gives_slot blocks below each namer (q ++ slot ∷ []) reference reference.block)
    (λ here from. gives_bind _ _ (AreBehind q (suc slot)) (AreBehind q slot) (gives_slots blocks below each namer q (suc slot) others)
    (λ rest behind. gives_done (here ++ rest) (AreBehind q slot) (joined q slot here rest from behind)))

gives_pages : (blocks : Blocks) (depth : ℕ) → BelowBehind (pages_below blocks None depth)
unfolding pages_below
gives_pages blocks zero = λ block q refs. gives_done [] (AreBehind q 0) (record { sorted = tt; each = tt })
gives_pages blocks (suc depth) = λ block q refs. gives_slots blocks (pages_below blocks None depth) (gives_pages blocks depth) block q 0 refs

-- the pages of a first version from `/` down
pub first_pages : (blocks : Blocks) (block : ℕ) (page : PageValue) (reference : ReferenceValue)
    → Gives (pages_below blocks None 7 block [] page.refs) (λ nodes. AreFrom [] (own_node [] reference block page ∷ nodes))
first_pages blocks block page reference seen nodes all e = own_first [] reference block page nodes (gives_pages blocks 7 block [] page.refs seen nodes all e)

-- ---- what follows for the tree

all_own : (q : List ℕ) (nodes : List Node) → Each (IsFrom q) nodes → filter (λ (node : Node). node.is_own) nodes ≡ nodes
all_own q [] h = refl
all_own q (x ∷ xs) h =
    ap (λ (b : Bool). cond b (x ∷ filter (λ (node : Node). node.is_own) xs) (filter (λ (node : Node). node.is_own) xs)) h.0.own
    ∙ ap (λ l. x ∷ l) (all_own q xs h.1)

entries_are : (es : List (List ℕ × List ℕ)) → T (is_sorted path_cmp es) → finmap.entries (finmap.from_entries {R = path_cmp} es) ≡ es
entries_are es h =
    same_entries path_cmp path_total path_only (finmap.entries (finmap.from_entries {R = path_cmp} es)) es (finmap.entries_sorted (finmap.from_entries {R = path_cmp} es)) h
    (λ q. sym (finmap.get-entries (finmap.from_entries {R = path_cmp} es) q) ∙ finmap.get-from_entries path_total es q)

paths_of : (nodes : List Node) → map (λ (e : List ℕ × List ℕ). e.0) (entries_of nodes) ≡ map (λ (node : Node). node.path) nodes
paths_of [] = refl
paths_of (x ∷ xs) = ap (λ l. x.path ∷ l) (paths_of xs)

-- all paths of the tree of such pages are fresh, in order
pub all_fresh : (q : List ℕ) (version : LaidVersion) → AreFrom q version.nodes → (version_in version).fresh ≡ finmap.keys (version_in version).tree
all_fresh q version h =
    ap (map (λ (node : Node). node.path)) (all_own q version.nodes h.each)
    ∙ sym (paths_of version.nodes)
    ∙ ap (map (λ (e : List ℕ × List ℕ). e.0)) (sym (entries_are (entries_of version.nodes) h.sorted))
