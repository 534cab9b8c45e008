-- A flush that is done is read as the next version of its file.
use Rattle.std.proofs.Common.{◌≡◌, ◌≢◌, ◌⊎◌, ◌↔◌, inl, inr, ℕ, suc, ◌+◌, ◌-◌, ◌≤◌, ◌<◌, Bool, true, false, cond, ◌&&◌, ◌||◌, nat_le, nat_lt, List, [], ◌∷◌, ◌++◌, length, map, filter, Option, Some, None, is_some, option_map, Ok, refl, sym, ap, ◌∙◌, subst, arith, eq-eqb, true≢false, append_assoc, append-nil, slice_get}
use Rattle.std.specs.List.{list_all}
use Rattle.std.specs.Option.{option_and_then}
use Rattle.std.specs.Ordering.{is_lt}
use Rattle.std.specs.Cmp.{first_so}
use Rattle.std.proofs.lemmas.Bool.{le-leb, lt-ltb}
use Rattle.afs_base.specs.Path.{path_cmp}
use Rattle.tree_model.specs.declared.step.Step.{Step}
use Rattle.tree_model.specs.Trees.{Tree, IsKept, has, tree_after}
use Rattle.tree_model.specs.Accesses.{all_writes, fresh_of, written_paths}
use Rattle.tree_model.proofs.Paths.{told, both_true, same_is, same_self, prefix_append, or_left, or_right, or_told}
use Rattle.page_places.specs.Places.{Holds, same, has_bit}
use Rattle.draft_model.specs.Views.{View, Copied, copy_of, copies, live, LiveAt}
use Rattle.draft_model.specs.Told.{is_one_of, are_rising, WroteAt, IsFresh, AreFresh, flags_of, modified_of, FlagsTold}
use Rattle.draft_model.specs.Flush.{Placed, block_of, copied_flags, flushed_page, flushed_slots, is_block_of}
use Rattle.draft_model.proofs.Flushing.{slots_length, block_told, written_told}
use Rattle.draft_model.proofs.Telling.{tells_fresh, tells_flags, tells_masks}
use Rattle.draft_model.proofs.Ways.{has_live}
use Rattle.draft_model.proofs.Moves.{slot_small}
use Rattle.store_model.specs.Laid.{Node, LaidVersion, page_in}
use Rattle.store_model.specs.Chains.{version_at}
use Rattle.store_model.specs.Pages.{pages_below}
use Rattle.store_model.specs.Found.{LaidStore, laid, version_in}
use Rattle.store_model.specs.Laws.{pages_of}
use Rattle.store_model.proofs.PlaceLists.{IsIn, in_head, in_left, in_right, in_either, in_along, in_one, none_in}
use Rattle.store_model.proofs.Steps.{blocks_of}
use Rattle.store_model.proofs.Rewriting.{made_of, version_made, same_version, VersionAgain, version_again}
use Rattle.store_model.proofs.Lying.{Each}
use Rattle.store_model.proofs.Held.{Lies, lies_held}
use Rattle.store_model.proofs.KeptTrees.{holds_kept}
use Rattle.store_model.proofs.SharedPages.{shared_pages}
use Rattle.store_changes.specs.Stands.{own_in}
use Rattle.store_changes.proofs.Again.{version_lies}
use Rattle.store_changes.proofs.Trees.{one_tree}
use Rattle.store_changes.proofs.Versions.{versions_lie}
use Rattle.version_chain.specs.Flush.{Plan, Base, flushed_version, IsWritten, StartsAtRoot, paths_of}
use Rattle.version_chain.specs.Laws.{Content}
use Rattle.version_chain.proofs.Whole.{whole}
use Rattle.version_chain.proofs.Written.{rising_written}
use Rattle.version_chain.proofs.Writing.{starts}
use Rattle.flush_model.specs.Flushed.{IsFree, IsFlushed, IsMarked, IsNextOf}
use Rattle.flush_model.proofs.Plans.{some_is, PlaceAt, place_of, TurnAt, turn_of, is_among, one_path, path_of}
use Rattle.flush_model.proofs.Walking.{IsAt, HasAt, Went, UnderFrom, IsThere, below_goes}
use Rattle.flush_model.proofs.Rising.{own_paths, rising_paths}

-- ---- own pages and their paths

-- the path of an own page is written, and each written path that has a page has an own one
own_placed : (d : View) (placed : List Placed) (nodes : List Node) (q : List ℕ) → Each (IsAt d placed) nodes → is_one_of (own_paths nodes) q ≡ true → is_some (block_of placed q) ≡ true
own_placed d placed [] q are h = absurd (true≢false (sym h))
own_placed d placed (node ∷ nodes) q are h = by are.0 (own_placed d placed nodes q are.1)
  where
    by : IsAt d placed node → (is_one_of (own_paths nodes) q ≡ true → is_some (block_of placed q) ≡ true) → is_some (block_of placed q) ≡ true
    by (inr x) rest =
        rest (sym (ap (λ b. is_one_of (map (λ (n : Node). n.path) (cond b (node ∷ filter (λ (n : Node). n.is_own) nodes) (filter (λ (n : Node). n.is_own) nodes))) q) x.shared) ∙ h)
    by (inl x) rest =
        elim (or_told (same q node.path) (is_one_of (own_paths nodes) q)
        (sym (ap (λ b. is_one_of (map (λ (n : Node). n.path) (cond b (node ∷ filter (λ (n : Node). n.is_own) nodes) (filter (λ (n : Node). n.is_own) nodes))) q) x.own) ∙ h)) [
          | inl e ↦ ap (λ p. is_some (block_of placed p)) (same_is q node.path e) ∙ ap is_some x.block
          | inr e ↦ rest e
        ]

placed_own : (d : View) (placed : List Placed) (nodes : List Node) (q : List ℕ) (b : ℕ) → Each (IsAt d placed) nodes → HasAt q nodes → block_of placed q ≡ Some b
    → is_one_of (own_paths nodes) q ≡ true
placed_own d placed [] q b are h at = absurd h
placed_own d placed (node ∷ nodes) q b are h at = by are.0 h (λ i. placed_own d placed nodes q b are.1 i at)
  where
    with_own : Bool → List (List ℕ)
    with_own t = map (λ (n : Node). n.path) (cond t (node ∷ filter (λ (n : Node). n.is_own) nodes) (filter (λ (n : Node). n.is_own) nodes))

    by : IsAt d placed node → (node.path ≡ q) ⊎ HasAt q nodes → (HasAt q nodes → is_one_of (own_paths nodes) q ≡ true) → is_one_of (own_paths (node ∷ nodes)) q ≡ true
    by (inl x) (inl e) rest =
        ap (λ t. is_one_of (with_own t) q) x.own
        ∙ or_left (same q node.path) (is_one_of (own_paths nodes) q) (ap (same q) e ∙ same_self q)
    by (inl x) (inr i) rest = ap (λ t. is_one_of (with_own t) q) x.own ∙ or_right (same q node.path) (is_one_of (own_paths nodes) q) (rest i)
    by (inr x) (inl e) rest = let clash : None ≡ Some b = sym x.unplaced ∙ ap (block_of placed) e ∙ at in absurd cc
    by (inr x) (inr i) rest = ap (λ t. is_one_of (with_own t) q) x.shared ∙ rest i

-- a page that is found at a path is one of these, and is at the path
record FoundAt (P : Node → Type 0) (q : List ℕ) (node : Node) : Type 0 where
  is : P node
  at : q ≡ node.path

found_at : (P : Node → Type 0) (q : List ℕ) (nodes : List Node) (node : Node) → Each P nodes → page_in q nodes ≡ Some node → FoundAt P q node
found_at P q [] node each e = absurd cc
found_at P q (x ∷ nodes) node each e = by (told (same q x.path)) (found_at P q nodes node each.1)
  where
    by : (same q x.path ≡ true) ⊎ (same q x.path ≡ false) → (page_in q nodes ≡ Some node → FoundAt P q node) → FoundAt P q node
    by (inl t) rest =
        let one : x ≡ node = some_is (sym (ap (λ c. cond c (Some x) (page_in q nodes)) t) ∙ e) in
        record { is = subst P one each.0; at = same_is q x.path t ∙ ap (λ (n : Node). n.path) one }
    by (inr f) rest = rest (sym (ap (λ c. cond c (Some x) (page_in q nodes)) f) ∙ e)

-- some page is at the path
first_at : (q : List ℕ) (nodes : List Node) → HasAt q nodes → (node : Node) × (page_in q nodes ≡ Some node)
first_at q [] h = absurd h
first_at q (x ∷ nodes) h = by (told (same q x.path)) h (λ i. first_at q nodes i)
  where
    by : (same q x.path ≡ true) ⊎ (same q x.path ≡ false) → (x.path ≡ q) ⊎ HasAt q nodes → (HasAt q nodes → (node : Node) × (page_in q nodes ≡ Some node))
        → (node : Node) × (page_in q (x ∷ nodes) ≡ Some node)
    by (inl t) h rest = (x, ap (λ c. cond c (Some x) (page_in q nodes)) t)
    by (inr f) (inl e) rest = absurd (true≢false (sym (ap (same q) e ∙ same_self q) ∙ f))
    by (inr f) (inr i) rest = let r = rest i in (r.0, ap (λ c. cond c (Some x) (page_in q nodes)) f ∙ r.1)

-- what is found as a page of its version's own is a page there, and is its own
own_told : (o : Option Node) (node : Node) → option_and_then (λ (n : Node). cond n.is_own (Some n) None) o ≡ Some node → (o ≡ Some node) × (node.is_own ≡ true)
own_told None node h = absurd cc
own_told (Some x) node h = by x.is_own refl h
  where
    by : (b : Bool) → x.is_own ≡ b → cond b (Some x) None ≡ Some node → (Some x ≡ Some node) × (node.is_own ≡ true)
    by true is h = (h, ap (λ (n : Node). n.is_own) (sym (some_is h)) ∙ is)
    by false is h = absurd cc

-- ---- a plan

some_of : {X : Type 0} (o : Option X) → is_some o ≡ true → (x : X) × (o ≡ Some x)
some_of None h = absurd (true≢false (sym h))
some_of (Some x) h = (x, refl)

module _ (content : Content) (most : ℕ) (store : LaidStore) (places : List ℕ) (e : laid content most [] ≡ Ok (store, places))
    (object : ℕ) (last : LaidVersion) (a : Tree) (steps : List Step) (d : View) (base : Base) (plan : Plan)
    (is : IsFlushed content store places object last a steps d base plan) where
  live_root : live (copies d) [] ≡ true
  live_root = is.stands.stands.shape.top

  -- a path with a block is fresh, or it is `/`
  fresh_or_root : (q : List ℕ) (b : ℕ) → block_of plan.placed q ≡ Some b → (is_one_of is.placed.fresh q ≡ true) ⊎ (q ≡ [])
  fresh_or_root q b at =
      written_told is.placed.fresh q
      (sym (block_told plan.placed q ∙ ap (λ (ps : List (List ℕ)). is_one_of ps q) is.placed.paths) ∙ ap is_some at)

  -- the block of `/`
  root_at : (top : ℕ) × (block_of plan.placed [] ≡ Some top)
  root_at =
      let s : StartsAtRoot plan.placed = starts d is.placed.fresh plan.placed live_root is.placed.are is.placed.paths in
      (s.0, first_root plan.placed s.0 s.1)
    where
      first_root : (placed : List Placed) (b : ℕ) → slice_get placed 0 ≡ Some (record { path = []; block = b }) → block_of placed [] ≡ Some b
      first_root [] b h = absurd cc
      first_root (x ∷ placed) b h = ap (λ (y : Placed). block_of (y ∷ placed) []) (some_is h)

  live_placed : (q : List ℕ) (b : ℕ) → block_of plan.placed q ≡ Some b → live (copies d) q ≡ true
  live_placed q b at = elim (fresh_or_root q b at) [ inl f ↦ ((is.placed.are.each q).0 f).0 | inr r ↦ ap (live (copies d)) r ∙ live_root ]

  has_placed : (q : List ℕ) (b : ℕ) → block_of plan.placed q ≡ Some b → has (tree_after a steps) q ≡ true
  has_placed q b at = has_live (pages_of content) last.block a (tree_after a steps) (all_writes a steps) (copies d) is.stands.stands.shape q (live_placed q b at)

  top_holds : (top : ℕ) → block_of plan.placed [] ≡ Some top → Holds (pages_of content) top (tree_after a steps)
  top_holds top at = (whole d base plan content last.block top a steps is.stands is.placed at is.written is.all).0

  tree_kept : IsKept (tree_after a steps)
  tree_kept = holds_kept content root_at.0 (tree_after a steps) (top_holds root_at.0 root_at.1)

  short : (q : List ℕ) (b : ℕ) → block_of plan.placed q ≡ Some b → length q ≤ 7
  short q b at = tree_kept.short q (has_placed q b at)

  small : (p r : List ℕ) (k b : ℕ) → block_of plan.placed (p ++ k ∷ r) ≡ Some b → k < 16
  small p r k b at =
      let along : (p ++ k ∷ []) ++ r ≡ p ++ k ∷ r = append_assoc p (k ∷ []) r in
      slot_small p k r (tree_kept.slots ((p ++ k ∷ []) ++ r) (has_placed ((p ++ k ∷ []) ++ r) b (ap (block_of plan.placed) along ∙ at)))

  closed : (x r : List ℕ) (b : ℕ) → block_of plan.placed (x ++ r) ≡ Some b → (y : ℕ) × (block_of plan.placed x ≡ Some y)
  closed x r b at = elim (fresh_or_root (x ++ r) b at) [ inl f ↦ from_fresh f | inr n ↦ from_root x r n ]
    where
      from_root : (x r : List ℕ) → x ++ r ≡ [] → (y : ℕ) × (block_of plan.placed x ≡ Some y)
      from_root [] r n = root_at
      from_root (s ∷ x) r n = absurd cc

      from_fresh : is_one_of is.placed.fresh (x ++ r) ≡ true → (y : ℕ) × (block_of plan.placed x ≡ Some y)
      from_fresh f =
          let deep : IsFresh d (x ++ r) = (is.placed.are.each (x ++ r)).0 f in
          let here : IsFresh d x =
          (is.stands.stands.shape.above (x ++ r) x (prefix_append x r) deep.0, (r ++ deep.1.0, subst (λ p. WroteAt d p) (append_assoc x r deep.1.0) deep.1.1)) in
          let known : is_one_of is.placed.fresh x ≡ true = (is.placed.are.each x).1 here in
          some_of (block_of plan.placed x)
          (block_told plan.placed x ∙ ap (λ (ps : List (List ℕ)). is_one_of ps x) is.placed.paths ∙ among is.placed.fresh x known)
        where
          among : (fresh : List (List ℕ)) (q : List ℕ) → is_one_of fresh q ≡ true → is_one_of (written_paths fresh) q ≡ true
          among [] q h = absurd (true≢false (sym h))
          among (p ∷ fresh) q h = h

  apart : (p q : List ℕ) (b : ℕ) → block_of plan.placed p ≡ Some b → block_of plan.placed q ≡ Some b → p ≡ q
  apart p q b at to = one_path plan.placed is.apart p q b at to

  free : (q : List ℕ) (b : ℕ) → block_of plan.placed q ≡ Some b → IsFree store places b
  free q b at = let x : PlaceAt plan.placed q b = place_of plan.placed q b at in is.mine x.k (record { path = q; block = b }) x.at

  ranged : (q : List ℕ) (b : ℕ) → block_of plan.placed q ≡ Some b → (nat_le 1 b && nat_lt b store.root.blocks) ≡ true
  ranged q b at =
      let f : IsFree store places b = free q b at in
      both_true (nat_le 1 b) (nat_lt b store.root.blocks) (le-leb 1 b f.low) (lt-ltb b store.root.blocks f.high)

  -- what a written path's block holds
  written_at : (q : List ℕ) (b : ℕ) → block_of plan.placed q ≡ Some b → (bytes : List ℕ) × (content b ≡ Some bytes) × IsWritten d base plan q bytes
  written_at q b at =
      let t : TurnAt plan.placed q b = turn_of plan.placed q b at in
      is.written t.k (record { path = q; block = b }) (subst (λ n. t.k < n) (sym is.all) t.small) t.at

  there : (q : List ℕ) (b : ℕ) → block_of plan.placed q ≡ Some b → q ≢ [] → IsThere content store.root.blocks d plan.placed q b
  there [] b at not_root = absurd (not_root refl)
  there (s ∷ q) b at not_root =
      let w = written_at (s ∷ q) b at in
      let copy : Copied = w.2.copy in
      record {
        copy = copy;
        here = w.2.here;
        live_here = record { is = ap (option_map copy_of) w.2.here; live = w.2.live };
        bytes = w.0;
        holds = w.1;
        reads = w.2.bytes_are.2;
        sixteen = sym (slots_length d plan.placed (s ∷ q) 0 copy.page.refs) ∙ w.2.bytes_are.0.frame.sixteen;
        ranged = ranged (s ∷ q) b at;
      }

  last_lies : Lies (pages_of content) last
  last_lies =
      versions_lie content most store places e last
      (record { object = object; file = is.file; place = length is.file.versions - 1; listed = is.listed; kept = is.last_is })

  -- the version page, and the walk below it
  record Walked (top : ℕ) : Type 0 where
    copy : Copied
    here : d [] ≡ Some copy
    bytes : List ℕ
    walk : Went d plan.placed (pages_below (blocks_of content store.root.blocks) (Some last.nodes) 7 top [] (flushed_slots d plan.placed [] 0 copy.page.refs)) (UnderFrom [] 0) (top ∷ [])
    read : version_at (blocks_of content store.root.blocks) (suc object) 0 top (Some last) []
        ≡ Ok (made_of top (flushed_version d base plan.placed plan.members copy.page) walk.nodes, walk.new ++ (top ∷ []))

  walked : (top : ℕ) → block_of plan.placed [] ≡ Some top → Walked top
  walked top at =
      let w = written_at [] top at in
      let copy : Copied = w.2.copy in
      let live_here : LiveAt (copies d) [] (copy_of copy) = record { is = ap (option_map copy_of) w.2.here; live = w.2.live } in
      let sixteen : length copy.page.refs ≡ 16 = sym (slots_length d plan.placed [] 0 copy.page.refs) ∙ w.2.bytes_are.0.frame.sixteen in
      let clear : (q : List ℕ) (b : ℕ) → UnderFrom [] 0 q → block_of plan.placed q ≡ Some b → IsIn (top ∷ []) b → ⊥ =
      λ q b under here h. not_root under.0 under.1 (under.3 ∙ apart q [] b here (at ∙ ap Some (sym (in_one top b h)))) in
      let walk : Went d plan.placed (pages_below (blocks_of content store.root.blocks) (Some last.nodes) 7 top [] (flushed_slots d plan.placed [] 0 copy.page.refs)) (UnderFrom [] 0) (top ∷ []) =
      below_goes content store.root.blocks last.nodes last.block a steps d plan.placed is.stands last_lies.lie there apart closed short small 7 top [] copy live_here sixteen refl (top ∷ []) clear in
      record {
        copy = copy;
        here = w.2.here;
        bytes = w.0;
        walk = walk;
        read =
            version_made content store.root.blocks (suc object) 0 top (Some last) [] (walk.new ++ (top ∷ [])) w.0 (flushed_version d base plan.placed plan.members copy.page) walk.nodes
            (ranged [] top at) (none_in top) w.1 w.2.bytes_are.2 (eq-eqb base.object (suc object) is.object_is)
            (record {
              serial = eq-eqb (base.serial + 1) (last.serial + 1) (ap (λ n. n + 1) is.serial_is);
              base = eq-eqb last.block base.root (sym is.root_is);
              copied = refl;
            })
            refl walk.goes;
      }
    where
      not_root : (k : ℕ) (r : List ℕ) → k ∷ r ≡ [] → ⊥
      not_root k r h = cc

  -- ---- its pages

  module _ (top : ℕ) (at : block_of plan.placed [] ≡ Some top) (w : Walked top) where
    abbrev version : LaidVersion
    version = made_of top (flushed_version d base plan.placed plan.members w.copy.page) w.walk.nodes

    nodes_are : Each (IsAt d plan.placed) version.nodes
    nodes_are = (inl (record { own = refl; block = at; flags = refl; modified = sym (ap modified_of w.here) }), w.walk.are)

    has_node : (q : List ℕ) (b : ℕ) → block_of plan.placed q ≡ Some b → HasAt q version.nodes
    has_node [] b to = inl refl
    has_node (k ∷ r) b to = inr (w.walk.all (k ∷ r) b (k, r, omega arith, refl) to).1

    own_is : (q : List ℕ) → is_one_of (own_paths version.nodes) q ≡ is_one_of (paths_of plan.placed) q
    own_is q = same_told (is_one_of (own_paths version.nodes) q) (is_one_of (paths_of plan.placed) q)
        (λ h. sym (block_told plan.placed q) ∙ own_placed d plan.placed version.nodes q nodes_are h)
        (λ h. let b : (n : ℕ) × (block_of plan.placed q ≡ Some n) = some_of (block_of plan.placed q) (block_told plan.placed q ∙ h) in
        placed_own d plan.placed version.nodes q b.0 nodes_are (has_node q b.0 b.1) b.1)
      where
        same_told : (x y : Bool) → (x ≡ true → y ≡ true) → (y ≡ true → x ≡ true) → x ≡ y
        same_told true y f g = sym (f refl)
        same_told false true f g = g refl
        same_told false false f g = refl

    rising : are_rising (own_paths version.nodes) ≡ true
    rising =
        rising_paths (blocks_of content store.root.blocks) last.nodes top (flushed_page d plan.placed [] w.copy.page) (record { flags = copied_flags (d []); block = Some top })
        (top ∷ []) w.walk.nodes (w.walk.new ++ (top ∷ [])) w.walk.goes

    told_fresh : is.placed.fresh ≡ fresh_of a steps
    told_fresh = tells_fresh d is.placed.fresh is.placed.are (pages_of content) last.block a steps is.stands

    fresh_are : own_paths version.nodes ≡ written_paths (fresh_of a steps)
    fresh_are = by is.placed.fresh refl
      where
        -- where nothing is fresh, `/` alone is written
        root_alone : (paths : List (List ℕ)) → are_rising ([] ∷ paths) ≡ true → ((q : List ℕ) → is_one_of paths q ≡ true → q ≡ []) → paths ≡ []
        root_alone [] h only = refl
        root_alone (p ∷ paths) h only =
            let p_is : p ≡ [] = only p (or_left (same p p) (is_one_of paths p) (same_self p)) in
            let all : list_all (λ q. is_lt (path_cmp [] q)) (p ∷ paths) ≡ true = first_so (list_all (λ q. is_lt (path_cmp [] q)) (p ∷ paths)) (are_rising (p ∷ paths)) h in
            let less : is_lt (path_cmp [] p) ≡ true = first_so (is_lt (path_cmp [] p)) (list_all (λ q. is_lt (path_cmp [] q)) paths) all in
            absurd (true≢false (sym less ∙ ap (λ q. is_lt (path_cmp [] q)) p_is))

        -- a path of the one list is one of the other
        member : (fresh : List (List ℕ)) → is.placed.fresh ≡ fresh → (q : List ℕ) → is_one_of (own_paths version.nodes) q ≡ is_one_of (written_paths fresh) q
        member fresh are q = own_is q ∙ ap (λ ps. is_one_of ps q) (is.placed.paths ∙ ap written_paths are)

        by : (fresh : List (List ℕ)) → is.placed.fresh ≡ fresh → own_paths version.nodes ≡ written_paths (fresh_of a steps)
        by [] are =
            ap (λ ps. [] ∷ ps)
            (root_alone (own_paths w.walk.nodes) rising (λ q h. only_root q (sym (member [] are q) ∙ or_right (same q []) (is_one_of (own_paths w.walk.nodes) q) h)))
            ∙ ap written_paths (sym are ∙ told_fresh)
          where
            only_root : (q : List ℕ) → (same q [] || false) ≡ true → q ≡ []
            only_root q h = elim (or_told (same q []) false h) [ inl t ↦ same_is q [] t | inr f ↦ absurd (true≢false (sym f)) ]
        by (p ∷ ps) are =
            let fresh : AreFresh d (own_paths version.nodes) =
            record {
              rising = rising;
              each = λ q. (
                λ h. (is.placed.are.each q).0 (ap (λ l. is_one_of l q) are ∙ sym (member (p ∷ ps) are q) ∙ h),
                λ h. member (p ∷ ps) are q ∙ ap (λ l. is_one_of l q) (sym are) ∙ (is.placed.are.each q).1 h,
              );
            } in
            let told : own_paths version.nodes ≡ fresh_of a steps = tells_fresh d (own_paths version.nodes) fresh (pages_of content) last.block a steps is.stands in
            told ∙ same_written (fresh_of a steps) p ps (sym told_fresh ∙ are)
          where
            same_written : (fresh : List (List ℕ)) (p : List ℕ) (ps : List (List ℕ)) → fresh ≡ p ∷ ps → fresh ≡ written_paths fresh
            same_written [] p ps h = absurd cc
            same_written (x ∷ xs) p ps h = refl

    marked : (path : List ℕ) (node : Node) → page_in path version.nodes ≡ Some node → node.is_own ≡ true → IsMarked a steps path node
    marked path node found own =
        let f : FoundAt (IsAt d plan.placed) path node = found_at (IsAt d plan.placed) path version.nodes node nodes_are found in
        by f.at f.is
      where
        by : path ≡ node.path → IsAt d plan.placed node → IsMarked a steps path node
        by same_path (inr x) = absurd (true≢false (sym own ∙ x.shared))
        by same_path (inl x) =
            let flags : node.flags ≡ copied_flags (d path) = x.flags ∙ ap (λ q. copied_flags (d q)) (sym same_path) in
            let modified : node.modified ≡ modified_of (d path) = x.modified ∙ ap (λ q. modified_of (d q)) (sym same_path) in
            let ft : FlagsTold a steps path (flags_of (d path)) = tells_flags d path (pages_of content) last.block a steps is.stands in
            let mt = tells_masks d path (pages_of content) last.block a steps is.stands in
            record {
              copied = ap (λ f. f.copied) flags;
              flags = subst (FlagsTold a steps path) (sym flags) (record { read = ft.read; written = ft.written; searched = ft.searched; modified = ft.modified });
              slots = λ k small. ap (λ n. has_bit n k) modified ∙ mt.modified_is k small;
            }

    marked_at : (path : List ℕ) (node : Node) → own_in path version.nodes ≡ Some node → IsMarked a steps path node
    marked_at path node h = let x = own_told (page_in path version.nodes) node h in marked path node x.0 x.1

    -- at each fresh path is a page of the version's own
    own_at : (path : List ℕ) → is_one_of (written_paths (fresh_of a steps)) path ≡ true → (node : Node) × (own_in path version.nodes ≡ Some node)
    own_at path h =
        let placed_there : is_one_of (paths_of plan.placed) path ≡ true = sym (own_is path) ∙ ap (λ ps. is_one_of ps path) fresh_are ∙ h in
        let b : (n : ℕ) × (block_of plan.placed path ≡ Some n) = some_of (block_of plan.placed path) (block_told plan.placed path ∙ placed_there) in
        let r : (node : Node) × (page_in path version.nodes ≡ Some node) = first_at path version.nodes (has_node path b.0 b.1) in
        let f : FoundAt (IsAt d plan.placed) path r.0 = found_at (IsAt d plan.placed) path version.nodes r.0 nodes_are r.1 in
        (r.0, ap (option_and_then (λ (n : Node). cond n.is_own (Some n) None)) r.1 ∙ by b.0 b.1 r.0 f.at f.is)
      where
        by : (n : ℕ) → block_of plan.placed path ≡ Some n → (node : Node) → path ≡ node.path → IsAt d plan.placed node → cond node.is_own (Some node) None ≡ Some node
        by n to node at (inl x) = ap (λ c. cond c (Some node) None) x.own
        by n to node at (inr x) = let clash : None ≡ Some n = sym x.unplaced ∙ ap (block_of plan.placed) (sym at) ∙ to in absurd cc

    tree_is : (version_in version).tree ≡ tree_after a steps
    tree_is =
        one_tree (pages_of content) top (version_in version).tree (tree_after a steps)
        (lies_held (pages_of content) version (version_lies content store.root.blocks (suc object) 0 top (Some last) last_lies [] version (w.walk.new ++ (top ∷ [])) w.read))
        (top_holds top at)

    -- ---- its blocks, and that it is read from other places too

    again : VersionAgain content content store.root.blocks (suc object) top (Some last) [] version (w.walk.new ++ (top ∷ []))
    again = version_again content content store.root.blocks (suc object) 0 top (Some last) (Some last) [] version (w.walk.new ++ (top ∷ [])) (same_version last) w.read

    new_are : (n : ℕ) → IsIn again.new n ↔ (is_block_of plan.placed n ≡ true)
    new_are n = (
      λ h. elim (in_either w.walk.new (top ∷ []) n (in_along again.new (w.walk.new ++ (top ∷ [])) (sym (append-nil again.new) ∙ sym again.grown) n h)) [
        | inl i ↦ (let x = w.walk.each n i in is_among plan.placed x.0 n x.2)
        | inr i ↦ is_among plan.placed [] n (at ∙ ap Some (sym (in_one top n i)))
      ],
      λ h. (let x : (p : List ℕ) × (block_of plan.placed p ≡ Some n) = path_of plan.placed n paths_rise h in
          in_along (w.walk.new ++ (top ∷ [])) again.new (again.grown ∙ append-nil again.new) n (found x.0 x.1)),
    )
      where
        paths_rise : are_rising (paths_of plan.placed) ≡ true
        paths_rise = ap are_rising is.placed.paths ∙ rising_written is.placed.fresh is.placed.are.rising

        found : (p : List ℕ) → block_of plan.placed p ≡ Some n → IsIn (w.walk.new ++ (top ∷ [])) n
        found [] to = in_right w.walk.new (top ∷ []) n (subst (IsIn (top ∷ [])) (some_is (sym at ∙ to)) (in_head top []))
        found (k ∷ r) to = in_left w.walk.new (top ∷ []) n (w.walk.all (k ∷ r) n (k, r, omega arith, refl) to).0

    is_next : IsNextOf content store.root.blocks object last a steps plan version again.new
    is_next =
        record {
          block = at;
          serial = ap (λ n. n + 1) is.serial_is;
          nil = refl;
          members = refl;
          tree = tree_is;
          fresh = fresh_are;
          marks = marked_at;
          own = own_at;
          shared = shared_pages (blocks_of content store.root.blocks) last.nodes top (flushed_page d plan.placed [] w.copy.page) (record { flags = copied_flags (d []); block = Some top })
              (top ∷ []) w.walk.nodes (w.walk.new ++ (top ∷ [])) w.walk.goes;
          places = new_are;
          read = λ namer seen off. again.again namer seen off (λ n h. refl);
        }

  pub read_next : (version : LaidVersion) × (new : List ℕ) × IsNextOf content store.root.blocks object last a steps plan version new
  read_next =
      let r : (top : ℕ) × (block_of plan.placed [] ≡ Some top) = root_at in
      let w : Walked r.0 = walked r.0 r.1 in
      (made_of r.0 (flushed_version d base plan.placed plan.members w.copy.page) w.walk.nodes, (again r.0 r.1 w).new, is_next r.0 r.1 w)
