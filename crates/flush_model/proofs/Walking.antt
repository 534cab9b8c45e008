-- The walk over the pages of a version that was flushed: each written page is a new place, and every other one is where the version before has it.
use Rattle.std.proofs.Common.{◌≡◌, ◌≢◌, ◌⊎◌, inl, inr, ℕ, zero, suc, ◌+◌, ◌≤◌, ◌<◌, Bool, true, false, cond, ◌&&◌, ◌==◌, nat_le, nat_lt, List, [], ◌∷◌, ◌++◌, length, map, filter, Option, Some, None, Ok, refl, sym, ap, ◌∙◌, subst, eq-eqb, append_assoc, append-nil, length-append, slice_get, arith}
use Rattle.std.specs.Option.{option_and_then}
use Rattle.afs_base.specs.Path.{is_prefix}
use Rattle.tree_model.specs.declared.step.Step.{Step}
use Rattle.tree_model.specs.Accesses.{all_writes}
use Rattle.tree_model.specs.Trees.{Tree, tree_after}
use Rattle.tree_model.proofs.Paths.{prefix_told}
use Rattle.page_codec.specs.declared.why.Why.TheVariants.{Level, Reference}
use Rattle.page_codec.specs.Values.{ReferenceValue, PageValue}
use Rattle.page_codec.specs.Causes.{page_of}
use Rattle.page_places.specs.Places.{block_at, slot_block}
use Rattle.draft_model.specs.Views.{View, Copied, copy_of, copies, live, LiveAt}
use Rattle.draft_model.specs.Stands.{StandsFor}
use Rattle.draft_model.specs.Told.{modified_of}
use Rattle.draft_model.specs.Flush.{Placed, block_of, copied_flags, flushed_slot, flushed_slots, flushed_page}
use Rattle.draft_model.proofs.Ways.{slot_case}
use Rattle.store_model.specs.Walk.{Walk, done, refuse}
use Rattle.store_model.specs.Laid.{Node, as_shared, shared_from, lies_at, block_in, is_block}
use Rattle.store_model.specs.Pages.{Below, own_node, page_at, own_from, named_from, slot_from, slots_from, pages_below}
use Rattle.store_model.specs.Laws.{pages_of}
use Rattle.store_model.proofs.PlaceLists.{IsIn, in_head, in_left, in_right, in_one, in_cons, in_either, none_in}
use Rattle.store_model.proofs.Steps.{Content, blocks_of, went_on}
use Rattle.store_model.proofs.Rewriting.{checks, decodes, places_again}
use Rattle.store_model.proofs.Lying.{Each, each_append}

-- ---- one page

page_goes : (c : Content) (count namer b level : ℕ) (bytes : List ℕ) (page : PageValue) (seen : List ℕ) → (nat_le 1 b && nat_lt b count) ≡ true → (IsIn seen b → ⊥)
    → c b ≡ Some bytes → page_of bytes ≡ Ok page → page.level ≡ level
    → page_at (blocks_of c count) namer b level seen ≡ Ok (page, b ∷ seen)
unfolding page_at done
page_goes c count namer b level bytes page seen ranged fresh holds reads same =
    went_on _ _ seen bytes (b ∷ seen) _ (places_again c count namer b seen bytes ranged fresh holds)
    (went_on _ _ (b ∷ seen) page (b ∷ seen) _ (decodes b (page_of bytes) (b ∷ seen) page reads)
    (went_on _ _ (b ∷ seen) true (b ∷ seen) _ (checks (page.level == level) b Level (b ∷ seen) (eq-eqb page.level level same)) refl))

-- ---- what a walk came to

-- a page of the version's own: it lies in the block of its path, with the marks that the draft has there
pub record IsOwnAt (d : View) (placed : List Placed) (node : Node) : Type 0 where
  pub own : node.is_own ≡ true
  pub block : block_of placed node.path ≡ Some node.block
  pub flags : node.flags ≡ copied_flags (d node.path)
  pub modified : node.modified ≡ modified_of (d node.path)

-- a page that is shared is at a path that is not written
pub record IsSharedAt (placed : List Placed) (node : Node) : Type 0 where
  pub shared : node.is_own ≡ false
  pub unplaced : block_of placed node.path ≡ None

abbrev pub IsAt : View → List Placed → Node → Type 0
IsAt d placed node = IsOwnAt d placed node ⊎ IsSharedAt placed node

-- one of these pages is at the path
abbrev pub HasAt : List ℕ → List Node → Type 0
HasAt q [] = ⊥
HasAt q (node ∷ nodes) = (node.path ≡ q) ⊎ HasAt q nodes

has_left : (q : List ℕ) (xs ys : List Node) → HasAt q xs → HasAt q (xs ++ ys)
has_left q [] ys h = absurd h
has_left q (x ∷ xs) ys h = elim h [ inl e ↦ inl e | inr i ↦ inr (has_left q xs ys i) ]

has_right : (q : List ℕ) (xs ys : List Node) → HasAt q ys → HasAt q (xs ++ ys)
has_right q [] ys h = h
has_right q (x ∷ xs) ys h = inr (has_right q xs ys h)

-- It found nodes and new places, each of which is the block of a written path that stands there; and it found each such path.
pub record Went (d : View) (placed : List Placed) (walk : Walk (List Node)) (Under : List ℕ → Type 0) (seen : List ℕ) : Type 0 where
  pub nodes : List Node
  pub new : List ℕ
  pub goes : walk seen ≡ Ok (nodes, new ++ seen)
  pub each : (n : ℕ) → IsIn new n → (q : List ℕ) × Under q × (block_of placed q ≡ Some n)
  pub are : Each (IsAt d placed) nodes
  pub all : (q : List ℕ) (b : ℕ) → Under q → block_of placed q ≡ Some b → IsIn new b × HasAt q nodes

-- no block of a written path that stands there was found before
abbrev pub Clear : List Placed → (List ℕ → Type 0) → List ℕ → Type 0
Clear placed Under seen = (q : List ℕ) (b : ℕ) → Under q → block_of placed q ≡ Some b → IsIn seen b → ⊥

-- the path, or one below it
abbrev pub UnderAt : List ℕ → List ℕ → Type 0
UnderAt x q = (r : List ℕ) × (x ++ r ≡ q)

-- a path below this one, in a slot from this one on
abbrev pub UnderFrom : List ℕ → ℕ → List ℕ → Type 0
UnderFrom p s q = (k : ℕ) × (r : List ℕ) × (s ≤ k) × (p ++ k ∷ r ≡ q)

-- the block of a written path below `/` holds the page that is written there
pub record IsThere (c : Content) (count : ℕ) (d : View) (placed : List Placed) (q : List ℕ) (b : ℕ) : Type 0 where
  pub copy : Copied
  pub here : d q ≡ Some copy
  pub live_here : LiveAt (copies d) q (copy_of copy)
  pub bytes : List ℕ
  pub holds : c b ≡ Some bytes
  pub reads : page_of bytes ≡ Ok (flushed_page d placed q copy.page)
  pub sixteen : length copy.page.refs ≡ 16
  pub ranged : (nat_le 1 b && nat_lt b count) ≡ true

-- ---- paths

snoc_not_root : (p : List ℕ) (s : ℕ) → (p ++ s ∷ []) ≢ []
snoc_not_root [] s e = absurd cc
snoc_not_root (x ∷ p) s e = absurd cc

longer_not_same : (x : List ℕ) (k : ℕ) (r : List ℕ) → (x ++ k ∷ r) ≢ x
longer_not_same x k r e =
    let a : length (x ++ k ∷ r) ≡ length x + length (k ∷ r) = length-append x (k ∷ r) in
    let b : length (x ++ k ∷ r) ≡ length x = ap (λ (l : List ℕ). length l) e in
    absurd (omega (arith, a, b))

same_slot : (p : List ℕ) (k s : ℕ) (r r' : List ℕ) → p ++ k ∷ r ≡ (p ++ s ∷ []) ++ r' → k ≡ s
same_slot [] k s r r' e = cc
same_slot (x ∷ p) k s r r' e = same_slot p k s r r' (tail_is e)
  where
    tail_is : (x ∷ (p ++ k ∷ r)) ≡ (x ∷ ((p ++ s ∷ []) ++ r')) → (p ++ k ∷ r) ≡ ((p ++ s ∷ []) ++ r')
    tail_is h = cc

at_or_above : (s k : ℕ) → s ≤ k → (s ≡ k) ⊎ (suc s ≤ k)
at_or_above s k h = grind arith

none_is : (o : Option ℕ) → ((n : ℕ) → o ≡ Some n → ⊥) → o ≡ None
none_is None h = refl
none_is (Some n) h = absurd (h n refl)

-- ---- the walk

module _ (c : Content) (count : ℕ) (before : List Node) (root : ℕ) (a : Tree) (steps : List Step) (d : View) (placed : List Placed)
    (was : StandsFor (pages_of c) root a steps d)
    (lie : (p : List ℕ) → block_in p before ≡ block_at (pages_of c) root p)
    (there : (q : List ℕ) (b : ℕ) → block_of placed q ≡ Some b → q ≢ [] → IsThere c count d placed q b)
    (apart : (p q : List ℕ) (b : ℕ) → block_of placed p ≡ Some b → block_of placed q ≡ Some b → p ≡ q)
    (closed : (x r : List ℕ) (b : ℕ) → block_of placed (x ++ r) ≡ Some b → (y : ℕ) × (block_of placed x ≡ Some y))
    (short : (q : List ℕ) (b : ℕ) → block_of placed q ≡ Some b → length q ≤ 7)
    (small : (p r : List ℕ) (k b : ℕ) → block_of placed (p ++ k ∷ r) ≡ Some b → k < 16) where
  -- below a path that is not written none is
  off_below : (x q : List ℕ) → block_of placed x ≡ None → UnderAt x q → block_of placed q ≡ None
  off_below x q none under =
      none_is (block_of placed q) (λ n e.
      let up : (y : ℕ) × (block_of placed x ≡ Some y) = closed x under.0 n (ap (block_of placed) under.1 ∙ e) in
      let clash : None ≡ Some up.0 = sym none ∙ up.1 in absurd cc)

  shared_are : (x : List ℕ) → block_of placed x ≡ None → (nodes : List Node) → Each (IsAt d placed) (shared_from x nodes)
  shared_are x none [] = tt
  shared_are x none (node ∷ nodes) = by (is_prefix x node.path) refl (shared_are x none nodes)
    where
      by : (t : Bool) → is_prefix x node.path ≡ t → Each (IsAt d placed) (shared_from x nodes)
          → Each (IsAt d placed) (map (as_shared x) (cond t (node ∷ filter (λ n. is_prefix x n.path) nodes) (filter (λ n. is_prefix x n.path) nodes)))
      by true e rest =
          let under : (r : List ℕ) × (x ++ r ≡ node.path) = prefix_told x node.path e in
          (inr (record { shared = refl; unplaced = off_below x node.path none under }), rest)
      by false e rest = rest

  -- a slot that leads to no written page: nothing, or the page of the version before
  unplaced : (below : Below) (namer : ℕ) (p : List ℕ) (s : ℕ) (copy : Copied) → LiveAt (copies d) p (copy_of copy) → (r : ReferenceValue) → slot_block copy.page s ≡ r.block
      → block_of placed (p ++ s ∷ []) ≡ None → (child : Option Copied) (seen : List ℕ)
      → Went d placed (slot_from (blocks_of c count) below (Some before) namer (p ++ s ∷ []) (flushed_slot child None r) r.block) (UnderAt (p ++ s ∷ [])) seen
  unfolding slot_from named_from done
  unplaced below namer p s copy at r is none child seen = by r.block refl
    where
      off : (q : List ℕ) (b : ℕ) → UnderAt (p ++ s ∷ []) q → block_of placed q ≡ Some b → ⊥
      off q b under e = let clash : None ≡ Some b = sym (off_below (p ++ s ∷ []) q none under) ∙ e in absurd cc

      by : (o : Option ℕ) → r.block ≡ o → Went d placed (slot_from (blocks_of c count) below (Some before) namer (p ++ s ∷ []) (flushed_slot child None r) o) (UnderAt (p ++ s ∷ [])) seen
      by None e = record { nodes = []; new = []; goes = refl; each = λ n h. absurd (none_in n h); are = tt; all = λ q b under is. absurd (off q b under is) }
      by (Some b) e =
          record {
            nodes = shared_from (p ++ s ∷ []) before;
            new = [];
            goes = ap (λ t. cond t (done (shared_from (p ++ s ∷ []) before)) (refuse namer Reference) seen) lies;
            each = λ n h. absurd (none_in n h);
            are = shared_are (p ++ s ∷ []) none before;
            all = λ q n under is. absurd (off q n under is);
          }
        where
          named : slot_block copy.page s ≡ Some b
          named = is ∙ e

          in_base : (alive : Bool) → live (copies d) (p ++ s ∷ []) ≡ alive → block_at (pages_of c) root (p ++ s ∷ []) ≡ Some b
          in_base true h = slot_case (pages_of c) root a (tree_after a steps) (all_writes a steps) (copies d) was.stands.shape p s (copy_of copy) at true (Some b) h named
          in_base false h = (slot_case (pages_of c) root a (tree_after a steps) (all_writes a steps) (copies d) was.stands.shape p s (copy_of copy) at false (Some b) h named).0.block

          lies : lies_at (p ++ s ∷ []) b before ≡ true
          lies = ap (is_block b) (lie (p ++ s ∷ []) ∙ in_base (live (copies d) (p ++ s ∷ [])) refl) ∙ eq-eqb b b refl

  -- what walks over the slots of a written page goes through, so many levels deep at the most
  abbrev pub BelowGoes : Below → ℕ → Type 0
  BelowGoes below depth =
      (namer : ℕ) (x : List ℕ) (copy : Copied) → LiveAt (copies d) x (copy_of copy) → length copy.page.refs ≡ 16 → length x + depth ≡ 7
      → (seen : List ℕ) → Clear placed (UnderFrom x 0) seen
      → Went d placed (below namer x (flushed_slots d placed x 0 copy.page.refs)) (UnderFrom x 0) seen

  -- a slot that leads to a written page: that page, and all below it
  placed_goes : (below : Below) (depth : ℕ) → BelowGoes below depth → (namer : ℕ) (p : List ℕ) (s b : ℕ) → length (p ++ s ∷ []) + depth ≡ 7
      → block_of placed (p ++ s ∷ []) ≡ Some b → (r : ReferenceValue) (seen : List ℕ) → Clear placed (UnderAt (p ++ s ∷ [])) seen
      → Went d placed (slot_from (blocks_of c count) below (Some before) namer (p ++ s ∷ []) (flushed_slot (d (p ++ s ∷ [])) (Some b) r) (Some b)) (UnderAt (p ++ s ∷ [])) seen
  unfolding slot_from named_from own_from done
  placed_goes below depth goes namer p s b deep is r seen clear =
      record {
        nodes = own_node (p ++ s ∷ []) (flushed_slot (d (p ++ s ∷ [])) (Some b) r) b (flushed_page d placed (p ++ s ∷ []) t.copy.page) ∷ w.nodes;
        new = w.new ++ b ∷ [];
        goes =
            went_on _ _ seen (flushed_page d placed (p ++ s ∷ []) t.copy.page) (b ∷ seen) _
            (page_goes c count namer b (length (p ++ s ∷ [])) t.bytes (flushed_page d placed (p ++ s ∷ []) t.copy.page) seen t.ranged (clear (p ++ s ∷ []) b ([], append-nil (p ++ s ∷ [])) is) t.holds t.reads refl)
            (went_on _ _ (b ∷ seen) w.nodes (w.new ++ b ∷ seen) _ w.goes
            (ap (λ l. Ok (own_node (p ++ s ∷ []) (flushed_slot (d (p ++ s ∷ [])) (Some b) r) b (flushed_page d placed (p ++ s ∷ []) t.copy.page) ∷ w.nodes, l)) (sym (append_assoc w.new (b ∷ []) seen))));
        each = λ n h. elim (in_either w.new (b ∷ []) n h) [
          | inl l ↦ (let e = w.each n l in (e.0, (e.1.0 ∷ e.1.1, e.1.3), e.2))
          | inr l ↦ (p ++ s ∷ [], ([], append-nil (p ++ s ∷ [])), is ∙ ap Some (sym (in_one b n l)))
        ];
        are = (inl (record { own = refl; block = is; flags = refl; modified = sym (ap modified_of t.here) }), w.are);
        all = λ q n under at. found q n under.0 under.1 at;
      }
    where
      t : IsThere c count d placed (p ++ s ∷ []) b
      t = there (p ++ s ∷ []) b is (snoc_not_root p s)

      clear_below : Clear placed (UnderFrom (p ++ s ∷ []) 0) (b ∷ seen)
      clear_below q n under at h = elim (in_cons b n seen h) [
        | inl e ↦ longer_not_same (p ++ s ∷ []) under.0 under.1 (under.3 ∙ apart q (p ++ s ∷ []) n at (is ∙ ap Some (sym e)))
        | inr i ↦ clear q n (under.0 ∷ under.1, under.3) at i
      ]

      w : Went d placed (below b (p ++ s ∷ []) (flushed_slots d placed (p ++ s ∷ []) 0 t.copy.page.refs)) (UnderFrom (p ++ s ∷ []) 0) (b ∷ seen)
      w = goes b (p ++ s ∷ []) t.copy t.live_here t.sixteen deep (b ∷ seen) clear_below

      found : (q : List ℕ) (n : ℕ) (r' : List ℕ) → (p ++ s ∷ []) ++ r' ≡ q → block_of placed q ≡ Some n → IsIn (w.new ++ b ∷ []) n × ((p ++ s ∷ [] ≡ q) ⊎ HasAt q w.nodes)
      found q n [] e at =
          let same : p ++ s ∷ [] ≡ q = sym (append-nil (p ++ s ∷ [])) ∙ e in
          let one : b ≡ n = some_is (sym is ∙ ap (block_of placed) same ∙ at) in
          (in_right w.new (b ∷ []) n (subst (λ m. IsIn (b ∷ []) m) one (in_head b [])), inl same)
        where
          some_is : {x y : ℕ} → Some x ≡ Some y → x ≡ y
          some_is h = cc
      found q n (k ∷ r') e at =
          let f : IsIn w.new n × HasAt q w.nodes = w.all q n (k, r', omega arith, e) at in (in_left w.new (b ∷ []) n f.0, inr f.1)

  -- a slot of a written page, whichever it is
  slot_goes : (below : Below) (depth : ℕ) → BelowGoes below depth → (namer : ℕ) (p : List ℕ) (s : ℕ) → length (p ++ s ∷ []) + depth ≡ 7
      → (copy : Copied) → LiveAt (copies d) p (copy_of copy) → (r : ReferenceValue) → slot_block copy.page s ≡ r.block
      → (seen : List ℕ) → Clear placed (UnderAt (p ++ s ∷ [])) seen → (o : Option ℕ) → block_of placed (p ++ s ∷ []) ≡ o
      → Went d placed (slot_from (blocks_of c count) below (Some before) namer (p ++ s ∷ []) (flushed_slot (d (p ++ s ∷ [])) o r) (flushed_slot (d (p ++ s ∷ [])) o r).block) (UnderAt (p ++ s ∷ [])) seen
  slot_goes below depth goes namer p s deep copy at r is seen clear None e = unplaced below namer p s copy at r is e (d (p ++ s ∷ [])) seen
  slot_goes below depth goes namer p s deep copy at r is seen clear (Some b) e = placed_goes below depth goes namer p s b deep e r seen clear

  -- the slots of a written page from this one on
  slots_go : (below : Below) (depth : ℕ) → BelowGoes below depth → (namer : ℕ) (p : List ℕ) → length p + suc depth ≡ 7 → (copy : Copied) → LiveAt (copies d) p (copy_of copy)
      → (refs : List ReferenceValue) (s : ℕ) → s + length refs ≡ 16 → ((k : ℕ) (r : ReferenceValue) → slice_get refs k ≡ Some r → slot_block copy.page (s + k) ≡ r.block)
      → (seen : List ℕ) → Clear placed (UnderFrom p s) seen
      → Went d placed (slots_from (blocks_of c count) below (Some before) namer p s (flushed_slots d placed p s refs)) (UnderFrom p s) seen
  unfolding slots_from done
  slots_go below depth goes namer p deep copy at [] s many are seen clear =
      record {
        nodes = [];
        new = [];
        goes = refl;
        each = λ n h. absurd (none_in n h);
        are = tt;
        all = λ q b under is.
            let low : s ≤ under.0 = under.2 in
            let high : under.0 < 16 = small p under.1 under.0 b (ap (block_of placed) under.3 ∙ is) in
            absurd (omega (arith, many, low, high));
      }
  slots_go below depth goes namer p deep copy at (r ∷ refs) s many are seen clear =
      let longer : length (p ++ s ∷ []) ≡ length p + 1 = length-append p (s ∷ []) in
      let one : Went d placed (slot_from (blocks_of c count) below (Some before) namer (p ++ s ∷ []) (flushed_slot (d (p ++ s ∷ [])) (block_of placed (p ++ s ∷ [])) r)
      (flushed_slot (d (p ++ s ∷ [])) (block_of placed (p ++ s ∷ [])) r).block) (UnderAt (p ++ s ∷ [])) seen =
      slot_goes below depth goes namer p s (omega (arith, deep, longer)) copy at r (ap (slot_block copy.page) (let e : s ≡ s + 0 = omega arith in e) ∙ are 0 r refl) seen
      (λ q b under is. clear q b (s, under.0, omega arith, sym (append_assoc p (s ∷ []) under.0) ∙ under.1) is)
      (block_of placed (p ++ s ∷ [])) refl in
      let rest : Went d placed (slots_from (blocks_of c count) below (Some before) namer p (suc s) (flushed_slots d placed p (suc s) refs)) (UnderFrom p (suc s)) (one.new ++ seen) =
      slots_go below depth goes namer p deep copy at refs (suc s) (omega (arith, many)) (λ k x e. ap (slot_block copy.page) (let m : suc s + k ≡ s + suc k = omega arith in m) ∙ are (suc k) x e) (one.new ++ seen)
      (λ q b under is h. elim (in_either one.new seen b h) [
        | inl i ↦ (let x = one.each b i in
            let same : q ≡ x.0 = apart q x.0 b is x.2 in
            let slot : under.0 ≡ s = same_slot p under.0 s under.1 x.1.0 (under.3 ∙ same ∙ sym x.1.1) in
            let low : suc s ≤ under.0 = under.2 in absurd (omega (arith, slot, low)))
        | inr i ↦ clear q b (under.0, under.1, (let low : suc s ≤ under.0 = under.2 in omega (arith, low)), under.3) is i
      ]) in
      let F : ℕ → Type 0 = λ n. slots_from (blocks_of c count) below (Some before) namer p (suc s) (flushed_slots d placed p n refs) (one.new ++ seen) ≡ Ok (rest.nodes, rest.new ++ (one.new ++ seen)) in
      record {
        nodes = one.nodes ++ rest.nodes;
        new = rest.new ++ one.new;
        goes =
            went_on _ _ seen one.nodes (one.new ++ seen) _ one.goes
            (went_on _ _ (one.new ++ seen) rest.nodes (rest.new ++ (one.new ++ seen)) _
            (subst F (let e : suc s ≡ s + 1 = omega arith in e) rest.goes)
            (ap (λ l. Ok (one.nodes ++ rest.nodes, l)) (sym (append_assoc rest.new one.new seen))));
        each = λ n h. elim (in_either rest.new one.new n h) [
          | inl l ↦ (let e = rest.each n l in (e.0, (e.1.0, e.1.1, (let low : suc s ≤ e.1.0 = e.1.2 in omega (arith, low)), e.1.3), e.2))
          | inr l ↦ (let e = one.each n l in (e.0, (s, e.1.0, omega arith, sym (append_assoc p (s ∷ []) e.1.0) ∙ e.1.1), e.2))
        ];
        are = each_append (IsAt d placed) one.nodes rest.nodes one.are rest.are;
        all = λ q b under is. elim (at_or_above s under.0 under.2) [
          | inl same ↦ (let f : IsIn one.new b × HasAt q one.nodes =
              one.all q b (under.1, append_assoc p (s ∷ []) under.1 ∙ ap (λ k. p ++ k ∷ under.1) same ∙ under.3) is in
              (in_right rest.new one.new b f.0, has_left q one.nodes rest.nodes f.1))
          | inr above ↦ (let f : IsIn rest.new b × HasAt q rest.nodes = rest.all q b (under.0, under.1, above, under.3) is in
              (in_left rest.new one.new b f.0, has_right q one.nodes rest.nodes f.1))
        ];
      }

  -- All pages below a written one, so many levels deep at the most: the walk finds the written ones as new places, and ends well.
  pub below_goes : (depth : ℕ) → BelowGoes (pages_below (blocks_of c count) (Some before) depth) depth
  unfolding pages_below done
  below_goes zero = λ namer x copy at sixteen deep seen clear.
      record {
        nodes = [];
        new = [];
        goes = refl;
        each = λ n h. absurd (none_in n h);
        are = tt;
        all = λ q b under is.
            let far : length (x ++ under.0 ∷ under.1) ≡ length x + length (under.0 ∷ under.1) = length-append x (under.0 ∷ under.1) in
            let near : length (x ++ under.0 ∷ under.1) ≤ 7 = short (x ++ under.0 ∷ under.1) b (ap (block_of placed) under.3 ∙ is) in
            absurd (omega (arith, far, near, deep));
      }
  below_goes (suc depth) = λ namer x copy at sixteen deep seen clear.
      slots_go (pages_below (blocks_of c count) (Some before) depth) depth (below_goes depth) namer x deep copy at copy.page.refs 0 (omega (arith, sixteen))
      (λ k r e. ap (option_and_then (λ (y : ReferenceValue). y.block)) (ap (slice_get copy.page.refs) (let m : 0 + k ≡ k = omega arith in m) ∙ e)) seen clear
