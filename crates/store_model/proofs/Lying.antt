-- The pages that are found of a version are those that a walk down from its block meets, and hold what the blocks hold.
use Rattle.std.proofs.Common.{◌≡◌, ℕ, zero, suc, ◌+◌, ◌==◌, Bool, true, false, cond, nat_eq, List, [], ◌∷◌, ◌++◌, length, length-append, Option, Some, None, Ok, refl, sym, ap, ◌∙◌, arith, eqb-true, true≢false, map, filter}
use Rattle.std.specs.Option.{option_and_then, option_or}
use Rattle.afs_base.specs.Path.{is_prefix}
use Rattle.page_codec.specs.declared.why.Why.TheVariants.{Level, Reference}
use Rattle.page_codec.specs.Values.{ReferenceValue, PageValue}
use Rattle.page_codec.specs.Causes.{page_of}
use Rattle.page_places.specs.Places.{Store, block_at, same}
use Rattle.page_places.proofs.Facts.{block_at_append, at_root}
use Rattle.tree_model.proofs.Paths.{same_self, same_is, prefix_append}
use Rattle.store_model.specs.Walk.{Blocks, place}
use Rattle.store_model.specs.Laid.{Node, as_shared, shared_from, block_in, is_block, lies_at}
use Rattle.store_model.specs.Pages.{page_at, own_node, Below, own_from, named_from, slot_from, slots_from, pages_below}
use Rattle.store_model.specs.Laws.{pages_of}
use Rattle.store_model.proofs.Giving.{Gives, gives_bind, gives_done, gives_refuse, gives_check, gives_decoded, gives_content, gives_any, gives_if}
use Rattle.store_model.proofs.Finding.{strip, strip_append, strip_is, strip_self, prefix_strip, block_in_append, block_in_first, block_in_shared, named, named_before, named_is}
use Rattle.store_model.proofs.Reading.{Content, Reads, reads_page}

-- so many blocks with these contents
abbrev pub blocks_of : Content → ℕ → Blocks
blocks_of content count = record { content = content; count = count }

-- each of these has the property
abbrev pub Each : {X : Type 0} → (X → Type 0) → List X → Type 0
Each P [] = Unit {0}
Each P (x ∷ xs) = P x × Each P xs

pub each_append : {X : Type 0} (P : X → Type 0) (xs ys : List X) → Each P xs → Each P ys → Each P (xs ++ ys)
each_append P [] ys h k = k
each_append P (x ∷ xs) ys h k = (h.0, each_append P xs ys h.1 k)

-- the block of a page holds its data, and a page of the level of its path
abbrev pub IsHeld : Store → Node → Type 0
IsHeld store node = (page : PageValue) × (store node.block ≡ Some page) × (page.bytes ≡ node.bytes) × (page.level ≡ length node.path)

-- what lies at a path of which this is left below a page in this block
abbrev at_rest : Store → Option ℕ → List ℕ → Option ℕ
at_rest store block r = option_and_then (λ n. block_at store n r) block

abbrev at_below : Store → Option ℕ → Option (List ℕ) → Option ℕ
at_below store block rest = option_and_then (at_rest store block) rest

-- what lies at a path of which this is left below a page with these slots
abbrev under : Store → ℕ → List ReferenceValue → Option (List ℕ) → Option ℕ
under store slot refs None = None
under store slot refs (Some []) = None
under store slot refs (Some (s ∷ r)) = named store slot refs s r

-- the pages are those from the one at q down, which is in this block, where there is one
pub record LieFrom (store : Store) (q : List ℕ) (block : Option ℕ) (nodes : List Node) : Type 0 where
  pub lie : (p : List ℕ) → block_in p nodes ≡ at_below store block (strip q p)
  pub held : Each (IsHeld store) nodes

-- the pages are those below the slots, which count from `slot`, of the page at q
pub record LieBelow (store : Store) (q : List ℕ) (slot : ℕ) (refs : List ReferenceValue) (nodes : List Node) : Type 0 where
  pub lie : (p : List ℕ) → block_in p nodes ≡ under store slot refs (strip q p)
  pub held : Each (IsHeld store) nodes

-- ---- reading a place

pub gives_place : (content : Content) (count namer block : ℕ) → Gives (place (blocks_of content count) namer block) (λ bytes. content block ≡ Some bytes)
unfolding place
gives_place content count namer block =
    gives_bind _ _ (λ _. Unit {0}) (λ bytes. content block ≡ Some bytes) (gives_any _)
    (λ _ _. gives_bind _ _ (λ _. Unit {0}) (λ bytes. content block ≡ Some bytes) (gives_any _)
    (λ _ _. gives_bind _ _ (λ _. Unit {0}) (λ bytes. content block ≡ Some bytes) (gives_any _) (λ _ _. gives_content block (content block))))

-- the page in a block, and its level
abbrev ReadsAt : Store → ℕ → ℕ → PageValue → Type 0
ReadsAt store block level page = Reads store block page × (page.level ≡ level)

gives_page : (content : Content) (count namer block level : ℕ) → Gives (page_at (blocks_of content count) namer block level) (ReadsAt (pages_of content) block level)
unfolding page_at
gives_page content count namer block level =
    gives_bind _ _ (λ bytes. content block ≡ Some bytes) (ReadsAt (pages_of content) block level) (gives_place content count namer block)
    (λ bytes here. gives_bind _ _ (λ page. page_of bytes ≡ Ok page) (ReadsAt (pages_of content) block level) (gives_decoded block (page_of bytes))
    (λ page e. gives_bind _ _ (λ _. (page.level == level) ≡ true) (ReadsAt (pages_of content) block level) (gives_check (page.level == level) block Level)
    (λ _ same_level. gives_done page (ReadsAt (pages_of content) block level) (reads_page content block bytes page here e, eqb-true page.level level same_level))))

-- ---- one page and those below it

below_told : (store : Store) (q : List ℕ) (block : ℕ) (page : PageValue) → store block ≡ Some page → (p : List ℕ) → same p q ≡ false
    → under store 0 page.refs (strip q p) ≡ at_below store (Some block) (strip q p)
below_told store q block page e p apart = of (strip q p) refl
  where
    of : (rest : Option (List ℕ)) → strip q p ≡ rest → under store 0 page.refs rest ≡ at_below store (Some block) rest
    of None t = refl
    of (Some []) t =
        let e' : p ≡ q = sym (strip_is q p [] t) ∙ at_root q in
        absurd (true≢false (sym (ap (λ x. same x q) e' ∙ same_self q) ∙ apart))
    of (Some (s ∷ r)) t = named_is store block s r page e

pub own_lies : (store : Store) (q : List ℕ) (reference : ReferenceValue) (block : ℕ) (page : PageValue) (others : List Node)
    → store block ≡ Some page → page.level ≡ length q → LieBelow store q 0 page.refs others → LieFrom store q (Some block) (own_node q reference block page ∷ others)
own_lies store q reference block page others e level below =
    record {
      lie = λ p. block_in_first p (own_node q reference block page) others ∙ of p (same p q) refl;
      held = ((page, e, refl, level), below.held);
    }
  where
    of : (p : List ℕ) (b : Bool) → same p q ≡ b → cond b (Some block) (block_in p others) ≡ at_below store (Some block) (strip q p)
    of p true is =
        let e' : strip q p ≡ Some [] = ap (strip q) (same_is p q is ∙ sym (at_root q)) ∙ strip_self q [] in
        sym (ap (at_below store (Some block)) e')
    of p false apart = below.lie p ∙ below_told store q block page e p apart

-- ---- pages of the version before

-- the pages of a version are those that a walk down from its block meets
abbrev pub VersionLies : Store → ℕ → List Node → Type 0
VersionLies store root nodes = LieFrom store [] (Some root) nodes

each_shared : (store : Store) (q : List ℕ) (nodes : List Node) → Each (IsHeld store) nodes → Each (IsHeld store) (shared_from q nodes)
each_shared store q [] h = h
each_shared store q (x ∷ xs) h = of (is_prefix q x.path) (each_shared store q xs h.1)
  where
    of : (b : Bool) → Each (IsHeld store) (shared_from q xs)
        → Each (IsHeld store) (map (as_shared q) (cond b (x ∷ filter (λ node. is_prefix q node.path) xs) (filter (λ node. is_prefix q node.path) xs)))
    of true rest = (h.0, rest)
    of false rest = rest

block_told : (block : ℕ) (o : Option ℕ) → is_block block o ≡ true → o ≡ Some block
block_told block None h = absurd (true≢false (sym h))
block_told block (Some n) h = ap Some (sym (eqb-true block n h))

shared_lies : (store : Store) (root : ℕ) (before : List Node) (q : List ℕ) (block : ℕ) → VersionLies store root before → lies_at q block before ≡ true
    → LieFrom store q (Some block) (shared_from q before)
shared_lies store root before q block lies at =
    record {
      lie = λ p. block_in_shared q p before ∙ of p (strip q p) refl;
      held = each_shared store q before lies.held;
    }
  where
    here : block_at store root q ≡ Some block
    here = sym (lies.lie q) ∙ block_told block (block_in q before) at

    of : (p : List ℕ) (rest : Option (List ℕ)) → strip q p ≡ rest → cond (is_prefix q p) (block_in p before) None ≡ at_below store (Some block) rest
    of p None t = ap (λ b. cond b (block_in p before) None) (prefix_strip q p t)
    of p (Some r) t =
        let path : q ++ r ≡ p = strip_is q p r t in
        let above : is_prefix q p ≡ true = ap (is_prefix q) (sym path) ∙ prefix_append q r in
        ap (λ b. cond b (block_in p before) None) above ∙ lies.lie p ∙ ap (block_at store root) (sym path)
        ∙ block_at_append store root q r ∙ ap (option_and_then (λ c. block_at store c r)) here

-- ---- the slots of a page

empty_lies : (store : Store) (q : List ℕ) → LieFrom store q None []
empty_lies store q = record { lie = λ p. of (strip q p); held = tt }
  where
    of : (rest : Option (List ℕ)) → None ≡ at_below store None rest
    of None = refl
    of (Some r) = refl

no_slots : (store : Store) (q : List ℕ) (slot : ℕ) → LieBelow store q slot [] []
no_slots store q slot = record { lie = λ p. of (strip q p); held = tt }
  where
    of : (rest : Option (List ℕ)) → None ≡ under store slot [] rest
    of None = refl
    of (Some []) = refl
    of (Some (s ∷ r)) = refl

slot_joins : (store : Store) (slot : ℕ) (reference : ReferenceValue) (others : List ReferenceValue) (rest : Option (List ℕ))
    → option_or (at_below store reference.block (option_and_then (strip (slot ∷ [])) rest)) (under store (suc slot) others rest)
    ≡ under store slot (reference ∷ others) rest
slot_joins store slot reference others None = refl
slot_joins store slot reference others (Some []) = refl
slot_joins store slot reference others (Some (s ∷ r)) = of (nat_eq slot s) refl
  where
    or_same : (a b : Option ℕ) → b ≡ None → option_or a b ≡ a
    or_same None b e = e
    or_same (Some x) b e = refl

    of : (b : Bool) → nat_eq slot s ≡ b
        → option_or (at_below store reference.block (cond b (Some r) None)) (named store (suc slot) others s r)
        ≡ cond b (option_and_then (λ n. block_at store n r) reference.block) (named store (suc slot) others s r)
    of true e =
        let here : slot ≡ s = eqb-true slot s e in
        or_same (at_rest store reference.block r) (named store (suc slot) others s r) (named_before store (suc slot) others s r (omega (arith, here)))
    of false e = refl

joined_lies : (store : Store) (q : List ℕ) (slot : ℕ) (reference : ReferenceValue) (others : List ReferenceValue) (here rest : List Node)
    → LieFrom store (q ++ slot ∷ []) reference.block here → LieBelow store q (suc slot) others rest
    → LieBelow store q slot (reference ∷ others) (here ++ rest)
joined_lies store q slot reference others here rest at below =
    record {
      lie = λ p.
          block_in_append p here rest
          ∙ ap (λ o. option_or o (block_in p rest)) (at.lie p ∙ ap (at_below store reference.block) (strip_append q (slot ∷ []) p))
          ∙ ap (option_or (at_below store reference.block (option_and_then (strip (slot ∷ [])) (strip q p)))) (below.lie p)
          ∙ slot_joins store slot reference others (strip q p);
      held = each_append (IsHeld store) here rest at.held below.held;
    }

-- ---- the walk

-- what walks over the slots of a page gives what lies below it, at paths to which so many levels are left
abbrev BelowLies : Content → Below → ℕ → Type 0
BelowLies content below depth =
    (block : ℕ) (q : List ℕ) (page : PageValue) → Reads (pages_of content) block page → page.level ≡ length q → length q + depth ≡ 7
    → Gives (below block q page.refs) (LieBelow (pages_of content) q 0 page.refs)

-- the pages of the version before lie, where there is one
abbrev pub BeforeLies : Store → Option (List Node) → Type 0
BeforeLies store None = Unit {0}
BeforeLies store (Some nodes) = (root : ℕ) × VersionLies store root nodes

gives_own : (content : Content) (count : ℕ) (below : Below) (depth : ℕ) → BelowLies content below depth
    → (namer : ℕ) (q : List ℕ) (reference : ReferenceValue) (block : ℕ) → length q + depth ≡ 7
    → Gives (own_from (blocks_of content count) below namer q reference block) (LieFrom (pages_of content) q (Some block))
unfolding own_from
gives_own content count below depth each namer q reference block deep =
    gives_bind _ _ (ReadsAt (pages_of content) block (length q)) (LieFrom (pages_of content) q (Some block)) (gives_page content count namer block (length q))
    (λ page reads. gives_bind _ _ (LieBelow (pages_of content) q 0 page.refs) (LieFrom (pages_of content) q (Some block)) (each block q page reads.0 reads.1 deep)
    (λ others lies. gives_done (own_node q reference block page ∷ others) (LieFrom (pages_of content) q (Some block))
    (own_lies (pages_of content) q reference block page others reads.0.is reads.1 lies)))

gives_named : (content : Content) (count : ℕ) (below : Below) (depth : ℕ) → BelowLies content below depth
    → (before : Option (List Node)) → BeforeLies (pages_of content) before
    → (namer : ℕ) (q : List ℕ) (reference : ReferenceValue) (block : ℕ) → length q + depth ≡ 7
    → Gives (named_from (blocks_of content count) below before namer q reference block) (LieFrom (pages_of content) q (Some block))
unfolding named_from
gives_named content count below depth each None lies namer q reference block deep = gives_own content count below depth each namer q reference block deep
gives_named content count below depth each (Some before) lies namer q reference block deep =
    gives_if reference.flags.copied _ _ (LieFrom (pages_of content) q (Some block)) (λ _. gives_own content count below depth each namer q reference block deep)
    (λ _. gives_if (lies_at q block before) _ _ (LieFrom (pages_of content) q (Some block))
    (λ at. gives_done (shared_from q before) (LieFrom (pages_of content) q (Some block)) (shared_lies (pages_of content) lies.0 before q block lies.1 at))
    (λ _. gives_refuse namer Reference (LieFrom (pages_of content) q (Some block))))

gives_slot : (content : Content) (count : ℕ) (below : Below) (depth : ℕ) → BelowLies content below depth
    → (before : Option (List Node)) → BeforeLies (pages_of content) before
    → (namer : ℕ) (q : List ℕ) (reference : ReferenceValue) (block : Option ℕ) → length q + depth ≡ 7
    → Gives (slot_from (blocks_of content count) below before namer q reference block) (LieFrom (pages_of content) q block)
unfolding slot_from
gives_slot content count below depth each before lies namer q reference None deep = gives_done [] (LieFrom (pages_of content) q None) (empty_lies (pages_of content) q)
gives_slot content count below depth each before lies namer q reference (Some block) deep = gives_named content count below depth each before lies namer q reference block deep

gives_slots : (content : Content) (count : ℕ) (below : Below) (depth : ℕ) → BelowLies content below depth
    → (before : Option (List Node)) → BeforeLies (pages_of content) before
    → (namer : ℕ) (q : List ℕ) → length q + suc depth ≡ 7 → (slot : ℕ) (refs : List ReferenceValue)
    → Gives (slots_from (blocks_of content count) below before namer q slot refs) (LieBelow (pages_of content) q slot refs)
unfolding slots_from
gives_slots content count below depth each before lies namer q deep slot [] = gives_done [] (LieBelow (pages_of content) q slot []) (no_slots (pages_of content) q slot)
gives_slots content count below depth each before lies namer q deep slot (reference ∷ others) =
    let S : Store = pages_of content in
    let one : length (q ++ slot ∷ []) ≡ length q + 1 = length-append q (slot ∷ []) in
    let child : length (q ++ slot ∷ []) + depth ≡ 7 = omega (arith, one, deep) in
    gives_bind _ _ (LieFrom S (q ++ slot ∷ []) reference.block) (LieBelow S q slot (reference ∷ others))
    (gives_slot content count below depth each before lies namer (q ++ slot ∷ []) reference reference.block child)
    (λ here at. gives_bind _ _ (LieBelow S q (suc slot) others) (LieBelow S q slot (reference ∷ others))
    (gives_slots content count below depth each before lies namer q deep (suc slot) others)
    (λ rest below'. gives_done (here ++ rest) (LieBelow S q slot (reference ∷ others)) (joined_lies S q slot reference others here rest at below')))

leaf_lies : (store : Store) (q : List ℕ) (block : ℕ) (page : PageValue) → Reads store block page → page.level ≡ 7 → LieBelow store q 0 page.refs []
leaf_lies store q block page reads seven = record { lie = λ p. of (strip q p); held = tt }
  where
    of : (rest : Option (List ℕ)) → None ≡ under store 0 page.refs rest
    of None = refl
    of (Some []) = refl
    of (Some (s ∷ r)) = sym (reads.leaf seven s r)

pub gives_below : (content : Content) (count : ℕ) (before : Option (List Node)) → BeforeLies (pages_of content) before
    → (depth : ℕ) → BelowLies content (pages_below (blocks_of content count) before depth) depth
unfolding pages_below
gives_below content count before lies zero =
    λ block q page reads level deep.
    let seven : page.level ≡ 7 = omega (arith, level, deep) in
    gives_done [] (LieBelow (pages_of content) q 0 page.refs) (leaf_lies (pages_of content) q block page reads seven)
gives_below content count before lies (suc depth) =
    λ block q page reads level deep.
    gives_slots content count (pages_below (blocks_of content count) before depth) depth (gives_below content count before lies depth) before lies block q deep 0 page.refs
