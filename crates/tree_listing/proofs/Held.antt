-- Where blocks hold a tree, the walk down from its root meets the tree's entries in their order.
use Rattle.std.proofs.Common.{◌≡◌, ℕ, zero, suc, ◌+◌, ◌-◌, ◌≤◌, ◌<◌, List, [], ◌∷◌, ◌++◌, length, Option, Some, None, Ok, refl, sym, ap, subst, ◌∙◌, arith, slice_get}
use Rattle.std.specs.Option.{option_and_then}
use Rattle.std.specs.FinMap as map
use Rattle.std.specs.FinMap.{get-entries, entries_sorted, entries-from_sorted}
use Rattle.std.specs.FinMap.Entries.{find, same_entries}
use Rattle.afs_base.specs.Path.{path_cmp}
use Rattle.tree_model.specs.Trees.{Tree}
use Rattle.tree_model.proofs.Paths.{path_total, path_only}
use Rattle.page_codec.specs.Values.{PageValue, ReferenceValue}
use Rattle.page_places.specs.Places.{Store, Holds, block_at, slot_block}
use Rattle.store_model.specs.Walk.{Blocks}
use Rattle.store_model.specs.Laws.{pages_of}
use Rattle.tree_listing.specs.FirstFault.{and_then, root_in}
use Rattle.tree_listing.specs.Results.{AppendsTree}
use Rattle.tree_listing.specs.Walk.{Entry, IsRising, lines_under, pages_from, pages_named, pages_of_version, slots_pages}
use Rattle.tree_listing.proofs.Ordered.{sorted_first}
use Rattle.tree_listing.proofs.Slots.{Part, IsOrdered, Walked, SlotWalked, SlotsWalked, slots_walked}
use Rattle.tree_listing.proofs.Decoding.{level_high, named_page, found_root}

-- the blocks from this one down hold this part of a tree, the page in it being of this level
pub record HoldsPart (store : Store) (count level root : ℕ) (part : Part) : Type 0 where
  pub page : (p : List ℕ) (b : ℕ) → block_at store root p ≡ Some b
      → (page : PageValue) × (store b ≡ Some page) × (part p ≡ Some page.bytes) × (page.level ≡ level + length p) × (b < count)
  pub gone : (p : List ℕ) → block_at store root p ≡ None → part p ≡ None

pub some_is : {X : Type 0} {x y : X} → Some x ≡ Some y → x ≡ y
some_is h = cc

pub down : (store : Store) (b s : ℕ) (p : List ℕ) (page : PageValue) → store b ≡ Some page
    → block_at store b (s ∷ p) ≡ option_and_then (λ c. block_at store c p) (slot_block page s)
down store b s p page e = ap (λ o. option_and_then (λ c. block_at store c p) (option_and_then (λ page. slot_block page s) o)) e

-- the part below a slot
abbrev below : Part → ℕ → Part
below part s q = part (s ∷ q)

holds_below : (store : Store) (count level b s m : ℕ) (part : Part) (page : PageValue) → store b ≡ Some page → slot_block page s ≡ Some m
    → HoldsPart store count level b part → HoldsPart store count (suc level) m (below part s)
holds_below store count level b s m part page at named h = record {
  page = λ p c e.
      let x = h.page (s ∷ p) c (step p ∙ e) in
      (x.0, x.1, x.2, x.3 ∙ deeper level (length p), x.4);
  gone = λ p e. h.gone (s ∷ p) (step p ∙ e);
}
  where
    step : (p : List ℕ) → block_at store b (s ∷ p) ≡ block_at store m p
    step p = down store b s p page at ∙ ap (option_and_then (λ c. block_at store c p)) named

    deeper : (a n : ℕ) → a + suc n ≡ suc a + n
    deeper a n = Prim.omega arith

-- nothing is below a slot that names no block
empty_below : (store : Store) (count level b s : ℕ) (part : Part) (page : PageValue) → store b ≡ Some page → slot_block page s ≡ None
    → HoldsPart store count level b part → (q : List ℕ) → below part s q ≡ None
empty_below store count level b s part page at named h q =
    h.gone (s ∷ q) (down store b s q page at ∙ ap (option_and_then (λ c. block_at store c q)) named)

-- nothing is below a page of level 7
nothing_below : (blocks : Blocks) (b : ℕ) (part : Part) → HoldsPart (pages_of blocks.content) blocks.count 7 b part → (s : ℕ) (q : List ℕ) → part (s ∷ q) ≡ None
nothing_below blocks b part h s q = of (block_at (pages_of blocks.content) b (s ∷ q)) refl
  where
    of : (o : Option ℕ) → block_at (pages_of blocks.content) b (s ∷ q) ≡ o → part (s ∷ q) ≡ None
    of None e = h.gone (s ∷ q) e
    of (Some c) e =
        let x = h.page (s ∷ q) c e in
        let low : x.0.level ≤ 7 = level_high blocks.content c x.0 x.1 in
        let at : x.0.level ≡ 7 + suc (length q) = x.3 in
        absurd (Prim.omega (arith, low, at))

root_bytes : (store : Store) (count level b : ℕ) (part : Part) (page : PageValue) → store b ≡ Some page → HoldsPart store count level b part → part [] ≡ Some page.bytes
root_bytes store count level b part page at h =
    let x = h.page [] b refl in
    x.2 ∙ ap (λ p. Some p.bytes) (some_is (sym x.1 ∙ at))

-- a page with no level below it
leaf_walked : (blocks : Blocks) (level b : ℕ) (part : Part) (page : PageValue) → level ≡ 7 → pages_of blocks.content b ≡ Some page
    → HoldsPart (pages_of blocks.content) blocks.count level b part → Walked (pages_from blocks 0 b page) part
unfolding pages_from
leaf_walked blocks level b part page deep at h = record {
  entries = ([], page.bytes) ∷ [];
  is = refl;
  ordered = record { sorted = tt; same = λ q. same q };
}
  where
    held : HoldsPart (pages_of blocks.content) blocks.count 7 b part
    held = let P : ℕ → Type 0 = λ n. HoldsPart (pages_of blocks.content) blocks.count n b part in subst P deep h

    same : (q : List ℕ) → find path_cmp q (([], page.bytes) ∷ []) ≡ part q
    same [] = sym (root_bytes (pages_of blocks.content) blocks.count level b part page at h)
    same (s ∷ q) = sym (nothing_below blocks b part held s q)

-- a page, where the pages that its slots name are walked
page_walked : (blocks : Blocks) (depth level b : ℕ) (part : Part) (page : PageValue) → level + suc depth ≡ 7 → pages_of blocks.content b ≡ Some page
    → HoldsPart (pages_of blocks.content) blocks.count level b part
    → ((m : ℕ) (sub : Part) (child : PageValue) → pages_of blocks.content m ≡ Some child → HoldsPart (pages_of blocks.content) blocks.count (suc level) m sub → Walked (pages_from blocks depth m child) sub)
    → Walked (pages_from blocks (suc depth) b page) part
unfolding pages_from
page_walked blocks depth level b part page deep at h walk = record {
  entries = ([], page.bytes) ∷ rest.entries;
  is = ap (λ r. and_then r (λ below. Ok (([], page.bytes) ∷ below))) rest.is;
  ordered = record { sorted = sorted_first 0 page.bytes rest.entries rest.from rest.sorted; same = λ q. same q };
}
  where
    named : (s : ℕ) (o : Option ℕ) → slot_block page s ≡ o → SlotWalked (pages_named blocks depth b) (below part s) o
    named s None e = empty_below (pages_of blocks.content) blocks.count level b s part page at e h
    named s (Some m) e =
        let sub : HoldsPart (pages_of blocks.content) blocks.count (suc level) m (below part s) = holds_below (pages_of blocks.content) blocks.count level b s m part page at e h in
        let x = sub.page [] m refl in
        let child : PageValue = x.0 in
        let level_is : child.level ≡ suc level + 0 = x.3 in
        let inner = walk m (below part s) child x.1 sub in
        record {
          entries = inner.entries;
          is = ap (λ r. and_then r (pages_from blocks depth m)) (named_page blocks b m (7 - depth) child x.4 x.1 (Prim.omega (arith, deep, level_is)) (Prim.omega (arith, deep))) ∙ inner.is;
          ordered = inner.ordered;
        }

    rest : SlotsWalked (slots_pages (pages_named blocks depth b) 0 page.refs) 0 (below part)
    rest = slots_walked (pages_named blocks depth b) 0 page.refs (below part)
        (λ i. let P : ℕ → Type 0 = λ n. SlotWalked (pages_named blocks depth b) (below part n) (option_and_then (λ (r : ReferenceValue). r.block) (slice_get page.refs i)) in
        let e : i ≡ 0 + i = Prim.omega arith in subst P e (named i (slot_block page i) refl))

    same : (q : List ℕ) → find path_cmp q (([], page.bytes) ∷ rest.entries) ≡ part q
    same [] = sym (root_bytes (pages_of blocks.content) blocks.count level b part page at h)
    same (s ∷ q) = rest.same s (Prim.omega arith) q

pub walked_from : (blocks : Blocks) (depth level b : ℕ) (part : Part) (page : PageValue) → level + depth ≡ 7 → pages_of blocks.content b ≡ Some page
    → HoldsPart (pages_of blocks.content) blocks.count level b part → Walked (pages_from blocks depth b page) part
walked_from blocks zero level b part page deep at h = leaf_walked blocks level b part page (Prim.omega (arith, deep)) at h
walked_from blocks (suc depth) level b part page deep at h =
    page_walked blocks depth level b part page deep at h (λ m sub child is held. walked_from blocks depth (suc level) m sub child (Prim.omega (arith, deep)) is held)

-- the whole tree
pub holds_whole : (store : Store) (count root : ℕ) (tree : Tree) → Holds store root tree → ((p : List ℕ) (b : ℕ) → block_at store root p ≡ Some b → b < count)
    → HoldsPart store count 0 root (map.get tree)
holds_whole store count root tree h low = record {
  page = λ p b e. let x = h.page p b e in (x.0, x.1, x.2, x.3 ∙ Prim.omega arith, low p b e);
  gone = h.gone;
}

pub entries_same : (tree : Tree) (entries : List Entry) → IsOrdered (map.get tree) entries → entries ≡ map.entries tree
entries_same tree entries h =
    same_entries path_cmp path_total path_only entries (map.entries tree) h.sorted (entries_sorted tree) (λ q. h.same q ∙ get-entries tree q)

pub record RootWalked (blocks : Blocks) (root : ℕ) (tree : Tree) : Type 0 where
  pub page : PageValue
  pub read : root_in blocks root ≡ Ok page
  pub pages : pages_from blocks 7 root page ≡ Ok (map.entries tree)

pub walked_root : (blocks : Blocks) (root : ℕ) (tree : Tree) → Holds (pages_of blocks.content) root tree
    → ((p : List ℕ) (b : ℕ) → block_at (pages_of blocks.content) root p ≡ Some b → b < blocks.count) → RootWalked blocks root tree
walked_root blocks root tree h low =
    let held = holds_whole (pages_of blocks.content) blocks.count root tree h low in
    let x = held.page [] root refl in
    let walked = walked_from blocks 7 0 root (map.get tree) x.0 refl x.1 held in
    record {
      page = x.0;
      read = found_root blocks root x.0 x.4 x.1 x.3;
      pages = walked.is ∙ ap Ok (entries_same tree walked.entries walked.ordered);
    }

pub walked_tree : (blocks : Blocks) (root : ℕ) (tree : Tree) → RootWalked blocks root tree → pages_of_version blocks root ≡ Ok (map.entries tree)
unfolding pages_of_version
walked_tree blocks root tree w = ap (λ r. and_then r (pages_from blocks 7 root)) w.read ∙ w.pages

-- entries in order are those of a tree
pub tree_of : (old new : List ℕ) (entries : List Entry) → IsRising entries → new ≡ old ++ lines_under [] entries → AppendsTree old new
tree_of old new entries rising text =
    let tree : Tree = map.from_sorted entries in
    (tree, text ∙ ap (λ es. old ++ lines_under [] es) (sym (entries-from_sorted path_cmp entries rising)))
