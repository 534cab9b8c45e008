-- The walk of a version stops at the first fault, and a version has one first fault at the most.
use Rattle.std.proofs.Common.{◌≡◌, ◌⊎◌, inl, inr, ℕ, zero, suc, ◌+◌, ◌-◌, List, [], ◌∷◌, ◌++◌, length, take, map, Option, Some, None, Result, Ok, Err, refl, sym, ap, subst, ◌∙◌, arith, slice_get}
use Rattle.std.specs.Option.{option_and_then}
use Rattle.std.specs.FinMap as finmap
use Rattle.std.specs.declared.cmp.Ordering.{Ordering}
use Rattle.std.specs.declared.cmp.Ordering.TheVariants.{Less, Equal, Greater}
use Rattle.std.specs.Ordering.{ordering_reverse}
use Rattle.afs_base.specs.Path.{path_cmp}
use Rattle.tree_model.proofs.Paths.{path_total, path_only}
use Rattle.page_codec.specs.Values.{PageValue, ReferenceValue}
use Rattle.page_places.specs.Places.{Store, block_at, slot_block}
use Rattle.store_model.specs.Walk.{Blocks, Refused}
use Rattle.store_model.specs.Laws.{pages_of}
use Rattle.tree_listing.specs.FirstFault.{HasFault, HeldHasNoFault, IsFirstFault, FirstFaultIsOne, above, and_then, page_as, page_named, root_in}
use Rattle.tree_listing.specs.Walk.{Entry, under, slot_pages, slots_pages, pages_from, pages_named, pages_of_version}
use Rattle.tree_listing.proofs.Ordered.{cmp_under, cmp_less}
use Rattle.tree_listing.proofs.Held.{down, some_is, walked_root, walked_tree}
use Rattle.tree_listing.proofs.Decoding.{leaf_slots, named_level, named_reads, root_level, root_reads}

-- ---- the first of any faults

-- which pages are at fault, and why
abbrev pub Faults : Type 1
Faults = List ℕ → Refused → Type 0

-- the fault at the least path
pub record IsFirst (F : Faults) (cause : Refused) : Type 0 where
  pub path : List ℕ
  pub fault : F path cause
  pub least : (earlier : List ℕ) (other : Refused) → path_cmp earlier path ≡ Less → F earlier other → ⊥

-- it ends where nothing is at fault, and else stops at the first fault
abbrev pub Agrees : {X : Type 0} → Result X Refused → Faults → Type 0
Agrees (Ok x) F = (path : List ℕ) (cause : Refused) → F path cause → ⊥
Agrees (Err cause) F = IsFirst F cause

-- the same faults
agrees_as : {X : Type 0} (o : Result X Refused) (F G : Faults) → ((p : List ℕ) (c : Refused) → F p c → G p c) → ((p : List ℕ) (c : Refused) → G p c → F p c) → Agrees o F → Agrees o G
agrees_as (Ok x) F G to from none = λ p c g. none p c (from p c g)
agrees_as (Err cause) F G to from first = record {
  path = first.path;
  fault = to first.path cause first.fault;
  least = λ earlier other low g. first.least earlier other low (from earlier other g);
}

-- what is made of the outcome does not matter
agrees_on : {X Y : Type 0} (o : Result X Refused) (f : X → Y) (F : Faults) → Agrees o F → Agrees (and_then o (λ x. Ok (f x))) F
agrees_on (Ok x) f F h = h
agrees_on (Err cause) f F h = h

-- ---- the order of paths

not_less : (o : Ordering) → o ≡ Less → o ≡ ordering_reverse Less → ⊥
not_less o a b = absurd cc

never_both : (p q : List ℕ) → path_cmp p q ≡ Less → path_cmp q p ≡ Less → ⊥
never_both p q a b = not_less (path_cmp p q) a (path_total.antisymm p q ∙ ap ordering_reverse b)

none_first : (p : List ℕ) → path_cmp p [] ≡ Less → ⊥
none_first [] h = absurd cc
none_first (s ∷ p) h = absurd cc

one_order : (p q : List ℕ) → (path_cmp p q ≡ Less → ⊥) → (path_cmp q p ≡ Less → ⊥) → p ≡ q
one_order p q a b = of (path_cmp p q) refl
  where
    of : (o : Ordering) → path_cmp p q ≡ o → p ≡ q
    of Less e = absurd (a e)
    of Equal e = path_only p q e
    of Greater e = absurd (b (path_total.antisymm q p ∙ ap ordering_reverse e))

-- ---- the faults below the slots of a page

-- the faults below a slot, where it names block m with these
abbrev SlotFault : (ℕ → Faults) → ℕ → Option ℕ → List ℕ → Refused → Type 0
SlotFault F slot o [] c = ⊥
SlotFault F slot o (s ∷ p) c = (s ≡ slot) × (m : ℕ) × (o ≡ Some m) × F m p c

-- the faults below the slots from this one on
abbrev SlotsFault : (ℕ → Faults) → ℕ → List ReferenceValue → List ℕ → Refused → Type 0
SlotsFault F slot refs [] c = ⊥
SlotsFault F slot refs (s ∷ p) c = (i : ℕ) × (s ≡ slot + i) × (m : ℕ) × (option_and_then (λ (r : ReferenceValue). r.block) (slice_get refs i) ≡ Some m) × F m p c

slot_agrees : (F : ℕ → Faults) (pages : ℕ → Result (List Entry) Refused) → ((m : ℕ) → Agrees (pages m) (F m)) → (slot : ℕ) (o : Option ℕ) → Agrees (slot_pages pages slot o) (SlotFault F slot o)
slot_agrees F pages each slot None = λ p c f. no p c f
  where
    no : (p : List ℕ) (c : Refused) → SlotFault F slot None p c → ⊥
    no [] c f = f
    no (s ∷ p) c f = absurd (let e = f.2 in cc)
slot_agrees F pages each slot (Some n) = of (pages n) (each n)
  where
    from : (s : ℕ) (p : List ℕ) (c : Refused) → SlotFault F slot (Some n) (s ∷ p) c → F n p c
    from s p c f = subst (λ (m : ℕ). F m p c) (sym (some_is f.2)) f.3

    none : ((p : List ℕ) (c : Refused) → F n p c → ⊥) → (p : List ℕ) (c : Refused) → SlotFault F slot (Some n) p c → ⊥
    none h [] c f = f
    none h (s ∷ p) c f = h p c (from s p c f)

    least : (first : List ℕ) → ((q : List ℕ) (other : Refused) → path_cmp q first ≡ Less → F n q other → ⊥)
        → (q : List ℕ) (other : Refused) → path_cmp q (slot ∷ first) ≡ Less → SlotFault F slot (Some n) q other → ⊥
    least first h [] other low f = f
    least first h (s ∷ q) other low f =
        h q other (sym (cmp_under slot q first) ∙ ap (λ (t : ℕ). path_cmp (t ∷ q) (slot ∷ first)) (sym f.0) ∙ low) (from s q other f)

    of : (o : Result (List Entry) Refused) → Agrees o (F n) → Agrees (and_then o (λ entries. Ok (map (under slot) entries))) (SlotFault F slot (Some n))
    of (Ok entries) h = none h
    of (Err cause) first = record { path = slot ∷ first.path; fault = (refl, n, refl, first.fault); least = least first.path first.least }

slots_agree : (F : ℕ → Faults) (pages : ℕ → Result (List Entry) Refused) → ((m : ℕ) → Agrees (pages m) (F m)) → (slot : ℕ) (refs : List ReferenceValue) → Agrees (slots_pages pages slot refs) (SlotsFault F slot refs)
slots_agree F pages each slot [] = λ p c f. no p c f
  where
    no : (p : List ℕ) (c : Refused) → SlotsFault F slot [] p c → ⊥
    no [] c f = f
    no (s ∷ p) c f = absurd (let e = f.3 in cc)
slots_agree F pages each slot (r ∷ refs) =
    of (slot_pages pages slot r.block) (slot_agrees F pages each slot r.block) (slots_pages pages (suc slot) refs) (slots_agree F pages each (suc slot) refs)
  where
    -- a fault is below this slot, or below a later one
    parts : (p : List ℕ) (c : Refused) → SlotsFault F slot (r ∷ refs) p c → SlotFault F slot r.block p c ⊎ SlotsFault F (suc slot) refs p c
    parts [] c f = absurd f
    parts (s ∷ p) c (zero, at, m, named, f) = inl (at ∙ Prim.omega arith, m, named, f)
    parts (s ∷ p) c (suc i, at, m, named, f) = inr (i, at ∙ Prim.omega arith, m, named, f)

    here : (p : List ℕ) (c : Refused) → SlotFault F slot r.block p c → SlotsFault F slot (r ∷ refs) p c
    here [] c f = f
    here (s ∷ p) c (at, m, named, f) = (zero, at ∙ Prim.omega arith, m, named, f)

    later : (p : List ℕ) (c : Refused) → SlotsFault F (suc slot) refs p c → SlotsFault F slot (r ∷ refs) p c
    later [] c f = f
    later (s ∷ p) c (i, at, m, named, f) = (suc i, at ∙ Prim.omega arith, m, named, f)

    -- what is below this slot stands before what is below a later one
    before : (p q : List ℕ) (c d : Refused) → SlotFault F slot r.block p c → SlotsFault F (suc slot) refs q d → path_cmp p q ≡ Less
    before [] q c d f g = absurd f
    before (s ∷ p) [] c d f g = absurd g
    before (s ∷ p) (t ∷ q) c d (is, m, named, f) (i, at, n, other, g) = cmp_less s p (t ∷ q) (Prim.omega (arith, is, at))

    of : (o : Result (List Entry) Refused) → Agrees o (SlotFault F slot r.block) → (rest : Result (List Entry) Refused) → Agrees rest (SlotsFault F (suc slot) refs)
        → Agrees (and_then o (λ here. and_then rest (λ rest. Ok (here ++ rest)))) (SlotsFault F slot (r ∷ refs))
    of (Err cause) first rest h = record {
      path = first.path;
      fault = here first.path cause first.fault;
      least = λ q other low f. elim (parts q other f) [
        | inl g ↦ first.least q other low g
        | inr g ↦ never_both first.path q (before first.path q cause other first.fault g) low
      ];
    }
    of (Ok entries) none (Err cause) first = record {
      path = first.path;
      fault = later first.path cause first.fault;
      least = λ q other low f. elim (parts q other f) [ inl g ↦ none q other g | inr g ↦ first.least q other low g ];
    }
    of (Ok entries) none (Ok more) nor = λ p c f. elim (parts p c f) [ inl g ↦ none p c g | inr g ↦ nor p c g ]

-- ---- the faults from a block on

-- The page at a path from the page in block m on, which is of this level and named in block `namer`, is not lawful.
abbrev FaultFrom : Blocks → ℕ → ℕ → ℕ → List ℕ → Refused → Type 0
FaultFrom blocks level namer m [] c = page_named blocks namer m level ≡ Err c
FaultFrom blocks level namer m (s ∷ p) c =
    (page : PageValue) × (pages_of blocks.content m ≡ Some page) × (n : ℕ) × (slot_block page s ≡ Some n) × FaultFrom blocks (suc level) m n p c

-- those below a page are those below its slots
abbrev BelowPage : Blocks → ℕ → ℕ → PageValue → Faults
BelowPage blocks level m page = SlotsFault (FaultFrom blocks (suc level) m) 0 page.refs

to_slots : (blocks : Blocks) (level namer m : ℕ) (page : PageValue) → pages_of blocks.content m ≡ Some page → (s : ℕ) (p : List ℕ) (c : Refused)
    → FaultFrom blocks level namer m (s ∷ p) c → BelowPage blocks level m page (s ∷ p) c
to_slots blocks level namer m page at s p c (other, is, n, named, f) =
    (s, Prim.omega arith, n, ap (λ (x : PageValue). slot_block x s) (some_is (sym at ∙ is)) ∙ named, f)

of_slots : (blocks : Blocks) (level namer m : ℕ) (page : PageValue) → pages_of blocks.content m ≡ Some page → (s : ℕ) (p : List ℕ) (c : Refused)
    → BelowPage blocks level m page (s ∷ p) c → FaultFrom blocks level namer m (s ∷ p) c
of_slots blocks level namer m page at s p c (i, is, n, named, f) =
    (page, at, n, ap (slot_block page) (is ∙ Prim.omega arith) ∙ named, f)

-- the walk from a page on
abbrev WalksBelow : Blocks → ℕ → ℕ → Type 0
WalksBelow blocks depth level =
    (m : ℕ) (page : PageValue) → pages_of blocks.content m ≡ Some page → page.level ≡ level → Agrees (pages_from blocks depth m page) (BelowPage blocks level m page)

-- a page that a slot names, and all below it
named_agrees : (blocks : Blocks) (depth level namer m : ℕ) → 7 - depth ≡ level → WalksBelow blocks depth level → Agrees (pages_named blocks depth namer m) (FaultFrom blocks level namer m)
named_agrees blocks depth level namer m deep walks =
    let P : ℕ → Type 0 = λ k. Agrees (and_then (page_named blocks namer m k) (pages_from blocks depth m)) (FaultFrom blocks level namer m) in
    subst P (sym deep) (of (page_named blocks namer m level) refl)
  where
    not_here : (page : PageValue) → page_named blocks namer m level ≡ Ok page → (c : Refused) → page_named blocks namer m level ≡ Err c → ⊥
    not_here page is c e = absurd cc

    to : (page : PageValue) → page_named blocks namer m level ≡ Ok page → (p : List ℕ) (c : Refused) → FaultFrom blocks level namer m p c → BelowPage blocks level m page p c
    to page is [] c f = absurd (not_here page is c f)
    to page is (s ∷ p) c f = to_slots blocks level namer m page (named_reads blocks namer m level page is) s p c f

    from : (page : PageValue) → page_named blocks namer m level ≡ Ok page → (p : List ℕ) (c : Refused) → BelowPage blocks level m page p c → FaultFrom blocks level namer m p c
    from page is [] c f = absurd f
    from page is (s ∷ p) c f = of_slots blocks level namer m page (named_reads blocks namer m level page is) s p c f

    of : (o : Result PageValue Refused) → page_named blocks namer m level ≡ o → Agrees (and_then o (pages_from blocks depth m)) (FaultFrom blocks level namer m)
    of (Ok page) is =
        agrees_as (pages_from blocks depth m page) (BelowPage blocks level m page) (FaultFrom blocks level namer m) (from page is) (to page is)
        (walks m page (named_reads blocks namer m level page is) (named_level blocks namer m level page is))
    of (Err cause) is = record { path = []; fault = is; least = λ q other low f. none_first q low }

walks_below : (blocks : Blocks) (depth level : ℕ) → level + depth ≡ 7 → WalksBelow blocks depth level
unfolding pages_from
walks_below blocks zero level deep m page at is = none
  where
    none : (p : List ℕ) (c : Refused) → BelowPage blocks level m page p c → ⊥
    none [] c f = f
    none (s ∷ p) c (i, e, n, named, f) = no (sym (leaf_slots blocks.content m page at (is ∙ Prim.omega (arith, deep)) i) ∙ named)
      where
        no : (let o : Option ℕ = None in o) ≡ Some n → ⊥
        no h = cc
walks_below blocks (suc depth) level deep m page at is =
    agrees_on (slots_pages (pages_named blocks depth m) 0 page.refs) (λ below. ([], page.bytes) ∷ below) (BelowPage blocks level m page)
    (slots_agree (FaultFrom blocks (suc level) m) (pages_named blocks depth m)
    (λ n. named_agrees blocks depth (suc level) m n (Prim.omega (arith, deep)) (walks_below blocks depth (suc level) (Prim.omega (arith, deep)))) 0 page.refs)

-- ---- the faults of a version

-- the faults of a version, told going down from page to page
abbrev VersionFault : Blocks → ℕ → List ℕ → Refused → Type 0
VersionFault blocks root [] c = root_in blocks root ≡ Err c
VersionFault blocks root (s ∷ p) c = FaultFrom blocks 0 root root (s ∷ p) c

version_agrees : (blocks : Blocks) (root : ℕ) → Agrees (pages_of_version blocks root) (VersionFault blocks root)
unfolding pages_of_version
version_agrees blocks root = of (root_in blocks root) refl
  where
    not_here : (page : PageValue) → root_in blocks root ≡ Ok page → (c : Refused) → root_in blocks root ≡ Err c → ⊥
    not_here page is c e = absurd cc

    to : (page : PageValue) → root_in blocks root ≡ Ok page → (p : List ℕ) (c : Refused) → VersionFault blocks root p c → BelowPage blocks 0 root page p c
    to page is [] c f = absurd (not_here page is c f)
    to page is (s ∷ p) c f = to_slots blocks 0 root root page (root_reads blocks root page is) s p c f

    from : (page : PageValue) → root_in blocks root ≡ Ok page → (p : List ℕ) (c : Refused) → BelowPage blocks 0 root page p c → VersionFault blocks root p c
    from page is [] c f = absurd f
    from page is (s ∷ p) c f = of_slots blocks 0 root root page (root_reads blocks root page is) s p c f

    of : (o : Result PageValue Refused) → root_in blocks root ≡ o → Agrees (and_then o (pages_from blocks 7 root)) (VersionFault blocks root)
    of (Ok page) is =
        agrees_as (pages_from blocks 7 root page) (BelowPage blocks 0 root page) (VersionFault blocks root) (from page is) (to page is)
        (walks_below blocks 7 0 refl root page (root_reads blocks root page is) (root_level blocks root page is))
    of (Err cause) is = record { path = []; fault = is; least = λ q other low f. none_first q low }

-- ---- told by paths

above_under : (s t : ℕ) (p : List ℕ) → above (s ∷ t ∷ p) ≡ s ∷ above (t ∷ p)
above_under s t p = ap (λ (k : ℕ). take k (s ∷ t ∷ p)) {y = suc (length (t ∷ p) - 1)} (Prim.omega arith)

-- the block whose page names the one at a path from block m on, which itself is named in `namer`
abbrev namer_at : Store → ℕ → ℕ → List ℕ → Option ℕ
namer_at store namer m [] = Some namer
namer_at store namer m (s ∷ p) = block_at store m (above (s ∷ p))

-- a fault from block m on, told by paths
record IsFaultAt (blocks : Blocks) (level namer m : ℕ) (path : List ℕ) (c : Refused) : Type 0 where
  by : ℕ
  block : ℕ
  named_in : namer_at (pages_of blocks.content) namer m path ≡ Some by
  lies_in : block_at (pages_of blocks.content) m path ≡ Some block
  refused : page_named blocks by block (level + length path) ≡ Err c

namer_down : (store : Store) (namer m s n : ℕ) (p : List ℕ) (page : PageValue) → store m ≡ Some page → slot_block page s ≡ Some n
    → namer_at store namer m (s ∷ p) ≡ namer_at store m n p
namer_down store namer m s n [] page at named = refl
namer_down store namer m s n (t ∷ p) page at named =
    ap (block_at store m) (above_under s t p) ∙ down store m s (above (t ∷ p)) page at ∙ ap (option_and_then (λ c. block_at store c (above (t ∷ p)))) named

block_down : (store : Store) (m s n : ℕ) (p : List ℕ) (page : PageValue) → store m ≡ Some page → slot_block page s ≡ Some n
    → block_at store m (s ∷ p) ≡ block_at store n p
block_down store m s n p page at named = down store m s p page at ∙ ap (option_and_then (λ c. block_at store c p)) named

fault_at : (blocks : Blocks) (level namer m : ℕ) (p : List ℕ) (c : Refused) → FaultFrom blocks level namer m p c → IsFaultAt blocks level namer m p c
fault_at blocks level namer m [] c f = record {
  by = namer;
  block = m;
  named_in = refl;
  lies_in = refl;
  refused = ap (page_named blocks namer m) (Prim.omega arith) ∙ f;
}
fault_at blocks level namer m (s ∷ p) c (page, at, n, named, f) =
    let h = fault_at blocks (suc level) m n p c f in
    record {
      by = h.by;
      block = h.block;
      named_in = namer_down (pages_of blocks.content) namer m s n p page at named ∙ h.named_in;
      lies_in = block_down (pages_of blocks.content) m s n p page at named ∙ h.lies_in;
      refused = ap (page_named blocks h.by h.block) (Prim.omega arith) ∙ h.refused;
    }

-- the first step of a way that leads somewhere
record Step (store : Store) (m s : ℕ) : Type 0 where
  page : PageValue
  at : store m ≡ Some page
  block : ℕ
  named : slot_block page s ≡ Some block

step_of : (store : Store) (m s : ℕ) (p : List ℕ) (b : ℕ) → block_at store m (s ∷ p) ≡ Some b → Step store m s
step_of store m s p b e = of (store m) refl e
  where
    next : (page : PageValue) → store m ≡ Some page → (o : Option ℕ) → slot_block page s ≡ o → option_and_then (λ c. block_at store c p) o ≡ Some b → Step store m s
    next page at None is h = absurd cc
    next page at (Some n) is h = record { page = page; at = at; block = n; named = is }

    of : (o : Option PageValue) → store m ≡ o → option_and_then (λ c. block_at store c p) (option_and_then (λ page. slot_block page s) o) ≡ Some b → Step store m s
    of None at h = absurd cc
    of (Some page) at h = next page at (slot_block page s) refl h

fault_from : (blocks : Blocks) (level namer m : ℕ) (p : List ℕ) (c : Refused) → IsFaultAt blocks level namer m p c → FaultFrom blocks level namer m p c
fault_from blocks level namer m [] c h =
    ap (λ (k : ℕ). page_named blocks k m level) (some_is h.named_in) ∙ ap (λ (k : ℕ). page_named blocks h.by k level) (some_is h.lies_in)
    ∙ ap (page_named blocks h.by h.block) (Prim.omega arith) ∙ h.refused
fault_from blocks level namer m (s ∷ p) c h =
    let t = step_of (pages_of blocks.content) m s p h.block h.lies_in in (
      t.page,
      t.at,
      t.block,
      t.named,
      fault_from blocks (suc level) m t.block p c (record {
        by = h.by;
        block = h.block;
        named_in = sym (namer_down (pages_of blocks.content) namer m s t.block p t.page t.at t.named) ∙ h.named_in;
        lies_in = sym (block_down (pages_of blocks.content) m s t.block p t.page t.at t.named) ∙ h.lies_in;
        refused = ap (page_named blocks h.by h.block) (Prim.omega arith) ∙ h.refused;
      }),
    )

to_paths : (blocks : Blocks) (root : ℕ) (p : List ℕ) (c : Refused) → VersionFault blocks root p c → HasFault blocks root p c
to_paths blocks root [] c f = record { namer = root; block = root; named_in = refl; lies_in = refl; refused = f }
to_paths blocks root (s ∷ p) c f =
    let h = fault_at blocks 0 root root (s ∷ p) c f in
    record {
      namer = h.by;
      block = h.block;
      named_in = h.named_in;
      lies_in = h.lies_in;
      refused = ap (page_named blocks h.by h.block) (Prim.omega arith) ∙ h.refused;
    }

of_paths : (blocks : Blocks) (root : ℕ) (p : List ℕ) (c : Refused) → HasFault blocks root p c → VersionFault blocks root p c
of_paths blocks root [] c h = ap (root_in blocks) (some_is h.lies_in) ∙ h.refused
of_paths blocks root (s ∷ p) c h =
    fault_from blocks 0 root root (s ∷ p) c (record {
      by = h.namer;
      block = h.block;
      named_in = h.named_in;
      lies_in = h.lies_in;
      refused = ap (page_named blocks h.namer h.block) (Prim.omega arith) ∙ h.refused;
    })

-- ---- the first fault

-- a version whose walk ends has no fault, and where the walk stops is the first
pub walk_agrees : (blocks : Blocks) (root : ℕ) → Agrees (pages_of_version blocks root) (HasFault blocks root)
walk_agrees blocks root =
    agrees_as (pages_of_version blocks root) (VersionFault blocks root) (HasFault blocks root) (to_paths blocks root) (of_paths blocks root) (version_agrees blocks root)

pub first_fault : (blocks : Blocks) (root : ℕ) (cause : Refused) → pages_of_version blocks root ≡ Err cause → IsFirstFault blocks root cause
first_fault blocks root cause e =
    let P : Result (List Entry) Refused → Type 0 = λ o. Agrees o (HasFault blocks root) in
    let first = subst P e (walk_agrees blocks root) in
    record { path = first.path; fault = first.fault; least = first.least }

pub no_fault : (blocks : Blocks) (root : ℕ) (entries : List Entry) → pages_of_version blocks root ≡ Ok entries → (path : List ℕ) (cause : Refused) → HasFault blocks root path cause → ⊥
no_fault blocks root entries e =
    let P : Result (List Entry) Refused → Type 0 = λ o. Agrees o (HasFault blocks root) in
    subst P e (walk_agrees blocks root)

pub held_has_no_fault : HeldHasNoFault
held_has_no_fault blocks root tree holds low = no_fault blocks root (finmap.entries tree) (walked_tree blocks root tree (walked_root blocks root tree holds low))

-- a page is at fault for one cause
one_cause : (blocks : Blocks) (root : ℕ) (path : List ℕ) (a b : Refused) → HasFault blocks root path a → HasFault blocks root path b → a ≡ b
one_cause blocks root path a b f g =
    err_is (sym f.refused ∙ ap (λ (k : ℕ). page_as blocks path k f.block) (some_is (sym f.named_in ∙ g.named_in))
    ∙ ap (λ (k : ℕ). page_as blocks path g.namer k) (some_is (sym f.lies_in ∙ g.lies_in)) ∙ g.refused)
  where
    err_is : (let r : Result PageValue Refused = Err a in r) ≡ Err b → a ≡ b
    err_is h = cc

pub first_fault_is_one : FirstFaultIsOne
first_fault_is_one blocks root a b f g =
    let same : f.path ≡ g.path = one_order f.path g.path (λ low. g.least f.path a low f.fault) (λ low. f.least g.path b low g.fault) in
    one_cause blocks root g.path a b (subst (λ (p : List ℕ). HasFault blocks root p a) same f.fault) g.fault
