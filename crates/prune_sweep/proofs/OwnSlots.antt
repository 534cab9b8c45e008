-- What the slots of a version's own pages name: the slot of a copy a block that is no place yet, any other slot the page that the version before has
-- there.
use Rattle.std.proofs.Common.{◌≡◌, ℕ, zero, suc, ◌+◌, Bool, true, false, cond, List, [], ◌∷◌, ◌++◌, length, length-append, Option, Some, None, Ok, refl, sym, ap, subst, ◌∙◌, arith, map, filter, slice_get, eqb-true, true≢false}
use Rattle.afs_base.specs.Path.{is_prefix}
use Rattle.page_codec.specs.declared.why.Why.TheVariants.{Reference}
use Rattle.page_codec.specs.Values.{ReferenceValue, PageValue}
use Rattle.page_places.specs.Places.{Store, block_at}
use Rattle.store_model.specs.Walk.{bind, done, refuse}
use Rattle.store_model.specs.Laid.{Node, LaidVersion, as_shared, shared_from, block_in, is_block, lies_at}
use Rattle.store_model.specs.Pages.{page_at, own_node, Below, own_from, named_from, slot_from, slots_from, pages_below}
use Rattle.store_model.specs.Chains.{version_at, root_node}
use Rattle.store_model.specs.Laws.{pages_of}
use Rattle.store_model.proofs.PlaceLists.{IsIn, in_tail}
use Rattle.store_model.proofs.Steps.{Content, blocks_of, passed, ok≢err, same_value, same_places}
use Rattle.store_model.proofs.Rewriting.{VersionRead, version_read}
use Rattle.store_model.proofs.Finding.{named_is}
use Rattle.store_model.proofs.Reading.{Reads, reads_page, ReadsVersion, reads_version}
use Rattle.store_model.proofs.Lying.{Each, each_append}
use Rattle.store_model.proofs.Edits.{some_is, none_some}
use Rattle.store_changes.proofs.OnePlace.{PageRead, page_read}
use Rattle.prune_sweep.proofs.Lines.{slot_is, child_at}

-- what these slots, which count from `slot`, of a page at this path name
pub record SlotsName (before : List Node) (seen path : List ℕ) (slot : ℕ) (refs : List ReferenceValue) : Type 0 where
  pub copies : (k : ℕ) (reference : ReferenceValue) (x : ℕ) → slice_get refs k ≡ Some reference → reference.block ≡ Some x
      → reference.flags.copied ≡ true
      → IsIn seen x → ⊥
  pub shares : (k s : ℕ) (reference : ReferenceValue) (x : ℕ) → slot + k ≡ s → slice_get refs k ≡ Some reference → reference.block ≡ Some x
      → reference.flags.copied ≡ false → block_in (path ++ s ∷ []) before ≡ Some x

-- the slots of a page of the version's own name such blocks
abbrev pub OwnNames : Store → List Node → List ℕ → Node → Type 0
OwnNames store before seen node = node.is_own ≡ true → (page : PageValue) → store node.block ≡ Some page → SlotsName before seen node.path 0 page.refs

-- what a walk over pages finds
pub record Names (store : Store) (before : List Node) (seen : List ℕ) (nodes : List Node) (all : List ℕ) : Type 0 where
  pub more : (n : ℕ) → IsIn seen n → IsIn all n
  pub each : Each (OwnNames store before seen) nodes

-- fewer places were found before
abbrev Within : List ℕ → List ℕ → Type 0
Within seen all = (n : ℕ) → IsIn seen n → IsIn all n

slots_less : (before : List Node) (seen mid path : List ℕ) (slot : ℕ) (refs : List ReferenceValue) → Within seen mid
    → SlotsName before mid path slot refs
    → SlotsName before seen path slot refs
slots_less before seen mid path slot refs within h =
    record { copies = λ k r x at names copied i. h.copies k r x at names copied (within x i); shares = h.shares }

each_less : (store : Store) (before : List Node) (seen mid : List ℕ) (nodes : List Node) → Within seen mid → Each (OwnNames store before mid) nodes
    → Each (OwnNames store before seen) nodes
each_less store before seen mid [] within h = tt
each_less store before seen mid (x ∷ xs) within h = (
  λ own page holds. slots_less before seen mid x.path 0 page.refs within (h.0 own page holds),
  each_less store before seen mid xs within h.1,
)

each_shared : (store : Store) (before : List Node) (seen q : List ℕ) (nodes : List Node) → Each (OwnNames store before seen) (shared_from q nodes)
each_shared store before seen q [] = tt
each_shared store before seen q (x ∷ xs) = of (is_prefix q x.path) (each_shared store before seen q xs)
  where
    of : (b : Bool) → Each (OwnNames store before seen) (shared_from q xs)
        → Each (OwnNames store before seen)
        (map (as_shared q) (cond b (x ∷ filter (λ node. is_prefix q node.path) xs) (filter (λ node. is_prefix q node.path) xs)))
    of true rest = (λ own. absurd (true≢false (sym own)), rest)
    of false rest = rest

block_told : (block : ℕ) (o : Option ℕ) → is_block block o ≡ true → o ≡ Some block
block_told block None h = absurd (true≢false (sym h))
block_told block (Some n) h = ap Some (sym (eqb-true block n h))

-- ---- the walk

-- what walks over the slots of a page at a path to which so many levels are left
abbrev BelowNames : Content → List Node → Below → ℕ → Type 0
BelowNames c before below depth =
    (block : ℕ) (path : List ℕ) (page : PageValue) → Reads (pages_of c) block page → page.level ≡ length path → length path + depth ≡ 7
    → (seen : List ℕ) (nodes : List Node) (all : List ℕ) → below block path page.refs seen ≡ Ok (nodes, all)
    → Names (pages_of c) before seen nodes all × SlotsName before seen path 0 page.refs

own_names : (c : Content) (count : ℕ) (before : List Node) (below : Below) (depth : ℕ) → BelowNames c before below depth
    → (namer : ℕ) (path : List ℕ) (reference : ReferenceValue) (block : ℕ) → length path + depth ≡ 7
    → (seen : List ℕ) (nodes : List Node) (all : List ℕ) → own_from (blocks_of c count) below namer path reference block seen ≡ Ok (nodes, all)
    → Names (pages_of c) before seen nodes all × (IsIn seen block → ⊥)
unfolding own_from bind done
own_names c count before below depth each namer path reference block deep seen nodes all e =
    let S : Store = pages_of c in
    let p = passed (page_at (blocks_of c count) namer block (length path) seen) _ nodes all e in
    let r : PageRead c count block (length path) seen p.value p.places = page_read c count namer block (length path) seen p.value p.places p.first in
    let reads : Reads S block p.value = reads_page c block r.bytes p.value r.at.took.holds r.reads in
    let q = passed (below block path p.value.refs p.places) _ nodes all p.second in
    let h : Names S before p.places q.value q.places × SlotsName before p.places path 0 p.value.refs =
    each block path p.value reads (eqb-true p.value.level (length path) r.levels) deep p.places q.value q.places q.first in
    let within : Within seen p.places = λ n i. subst (λ l. IsIn l n) r.grown (in_tail block n seen i) in
    let node : Node = own_node path reference block p.value in
    let here : OwnNames S before seen node =
    λ own page holds.
    subst (λ (x : PageValue). SlotsName before seen path 0 x.refs) (some_is (sym reads.is ∙ holds))
    (slots_less before seen p.places path 0 p.value.refs within h.1) in
    let found : Names S before seen (node ∷ q.value) q.places =
    record { more = λ n i. h.0.more n (within n i); each = (here, each_less S before seen p.places q.value within h.0.each) } in (
      subst (λ n. Names S before seen n all) (same_value q.places all (node ∷ q.value) nodes q.second)
          (subst (λ l. Names S before seen (node ∷ q.value) l) (same_places q.places all (node ∷ q.value) nodes q.second) found),
      r.at.took.fresh,
    )

-- a slot that names this block
record SlotNames (store : Store) (before : List Node) (seen path : List ℕ) (reference : ReferenceValue) (block : Option ℕ)
    (nodes : List Node) (all : List ℕ) : Type 0 where
  finds : Names store before seen nodes all
  copied : (x : ℕ) → block ≡ Some x → reference.flags.copied ≡ true → IsIn seen x → ⊥
  shared : (x : ℕ) → block ≡ Some x → reference.flags.copied ≡ false → block_in path before ≡ Some x

named_names : (c : Content) (count : ℕ) (before : List Node) (below : Below) (depth : ℕ) → BelowNames c before below depth
    → (namer : ℕ) (path : List ℕ) (reference : ReferenceValue) (block : ℕ) → length path + depth ≡ 7
    → (seen : List ℕ) (nodes : List Node) (all : List ℕ)
    → named_from (blocks_of c count) below (Some before) namer path reference block seen ≡ Ok (nodes, all)
    → SlotNames (pages_of c) before seen path reference (Some block) nodes all
unfolding named_from done refuse
named_names c count before below depth each namer path reference block deep seen nodes all e =
    of reference.flags.copied refl (lies_at path block before) refl e
  where
    of : (x : Bool) → reference.flags.copied ≡ x → (y : Bool) → lies_at path block before ≡ y
        → cond x (own_from (blocks_of c count) below namer path reference block) (cond y (done (shared_from path before)) (refuse namer Reference)) seen
        ≡ Ok (nodes, all)
        → SlotNames (pages_of c) before seen path reference (Some block) nodes all
    of true is y at h =
        let own : Names (pages_of c) before seen nodes all × (IsIn seen block → ⊥) =
        own_names c count before below depth each namer path reference block deep seen nodes all h in
        record {
          finds = own.0;
          copied = λ x same _ i. own.1 (subst (IsIn seen) (sym (some_is same)) i);
          shared = λ x same plain. absurd (true≢false (sym is ∙ plain));
        }
    of false is true at h =
        record {
          finds =
              subst (λ n. Names (pages_of c) before seen n all) (same_value seen all (shared_from path before) nodes h)
              (subst (λ l. Names (pages_of c) before seen (shared_from path before) l) (same_places seen all (shared_from path before) nodes h)
              (record { more = λ n i. i; each = each_shared (pages_of c) before seen path before }));
          copied = λ x same copied. absurd (true≢false (sym copied ∙ is));
          shared = λ x same plain. block_told block (block_in path before) at ∙ same;
        }
    of false is false at h = absurd (ok≢err h)

slot_names : (c : Content) (count : ℕ) (before : List Node) (below : Below) (depth : ℕ) → BelowNames c before below depth
    → (namer : ℕ) (path : List ℕ) (reference : ReferenceValue) (block : Option ℕ) → length path + depth ≡ 7
    → (seen : List ℕ) (nodes : List Node) (all : List ℕ)
    → slot_from (blocks_of c count) below (Some before) namer path reference block seen ≡ Ok (nodes, all)
    → SlotNames (pages_of c) before seen path reference block nodes all
unfolding slot_from done
slot_names c count before below depth each namer path reference None deep seen nodes all e =
    record {
      finds =
          subst (λ n. Names (pages_of c) before seen n all) (same_value seen all [] nodes e)
          (subst (λ l. Names (pages_of c) before seen [] l) (same_places seen all [] nodes e) (record { more = λ n i. i; each = tt }));
      copied = λ x none. none_some none;
      shared = λ x none. none_some none;
    }
slot_names c count before below depth each namer path reference (Some block) deep seen nodes all e =
    named_names c count before below depth each namer path reference block deep seen nodes all e

slots_name : (c : Content) (count : ℕ) (before : List Node) (below : Below) (depth : ℕ) → BelowNames c before below depth
    → (namer : ℕ) (path : List ℕ) → length path + suc depth ≡ 7 → (slot : ℕ) (refs : List ReferenceValue)
    → (seen : List ℕ) (nodes : List Node) (all : List ℕ)
    → slots_from (blocks_of c count) below (Some before) namer path slot refs seen ≡ Ok (nodes, all)
    → Names (pages_of c) before seen nodes all × SlotsName before seen path slot refs
unfolding slots_from bind done
slots_name c count before below depth each namer path deep slot [] seen nodes all e = (
  subst (λ n. Names (pages_of c) before seen n all) (same_value seen all [] nodes e)
      (subst (λ l. Names (pages_of c) before seen [] l) (same_places seen all [] nodes e) (record { more = λ n i. i; each = tt })),
  record { copies = λ k r x at. none_some at; shares = λ k s r x is at. none_some at },
)
slots_name c count before below depth each namer path deep slot (reference ∷ others) seen nodes all e =
    let S : Store = pages_of c in
    let one : length (path ++ slot ∷ []) ≡ length path + 1 = length-append path (slot ∷ []) in
    let child : length (path ++ slot ∷ []) + depth ≡ 7 = omega (arith, one, deep) in
    let p = passed (slot_from (blocks_of c count) below (Some before) namer (path ++ slot ∷ []) reference reference.block seen) _ nodes all e in
    let a : SlotNames S before seen (path ++ slot ∷ []) reference reference.block p.value p.places =
    slot_names c count before below depth each namer (path ++ slot ∷ []) reference reference.block child seen p.value p.places p.first in
    let q = passed (slots_from (blocks_of c count) below (Some before) namer path (suc slot) others p.places) _ nodes all p.second in
    let b : Names S before p.places q.value q.places × SlotsName before p.places path (suc slot) others =
    slots_name c count before below depth each namer path deep (suc slot) others p.places q.value q.places q.first in
    let found : Names S before seen (p.value ++ q.value) q.places =
    record {
      more = λ n i. b.0.more n (a.finds.more n i);
      each = each_append (OwnNames S before seen) p.value q.value a.finds.each (each_less S before seen p.places q.value a.finds.more b.0.each);
    } in (
      subst (λ n. Names S before seen n all) (same_value q.places all (p.value ++ q.value) nodes q.second)
          (subst (λ l. Names S before seen (p.value ++ q.value) l) (same_places q.places all (p.value ++ q.value) nodes q.second) found),
      together a b.1,
    )
  where
    together : {mid : List ℕ} {here : List Node} → SlotNames (pages_of c) before seen (path ++ slot ∷ []) reference reference.block here mid
        → SlotsName before mid path (suc slot) others → SlotsName before seen path slot (reference ∷ others)
    together {mid} {here} a b = record { copies = copies; shares = shares }
      where
        copies : (k : ℕ) (r : ReferenceValue) (x : ℕ) → slice_get (reference ∷ others) k ≡ Some r → r.block ≡ Some x → r.flags.copied ≡ true
            → IsIn seen x → ⊥
        copies zero r x at names copied i =
            let same : reference ≡ r = some_is at in
            a.copied x (ap (λ (y : ReferenceValue). y.block) same ∙ names) (ap (λ (y : ReferenceValue). y.flags.copied) same ∙ copied) i
        copies (suc k) r x at names copied i = b.copies k r x at names copied (a.finds.more x i)

        shares : (k s : ℕ) (r : ReferenceValue) (x : ℕ) → slot + k ≡ s → slice_get (reference ∷ others) k ≡ Some r → r.block ≡ Some x
            → r.flags.copied ≡ false
            → block_in (path ++ s ∷ []) before ≡ Some x
        shares zero s r x is at names plain =
            let same : reference ≡ r = some_is at in
            let here_is : slot ≡ s = omega (arith, is) in
            ap (λ t. block_in (path ++ t ∷ []) before) (sym here_is)
            ∙ a.shared x (ap (λ (y : ReferenceValue). y.block) same ∙ names) (ap (λ (y : ReferenceValue). y.flags.copied) same ∙ plain)
        shares (suc k) s r x is at names plain = b.shares k s r x (omega (arith, is)) at names plain

-- a page of level 7 names nothing
leaf_names : (c : Content) (before : List Node) (seen path : List ℕ) (block : ℕ) (page : PageValue) → Reads (pages_of c) block page → page.level ≡ 7
    → SlotsName before seen path 0 page.refs
leaf_names c before seen path block page reads seven =
    record {
      copies = λ k r x at names. absurd (none k r x at names);
      shares = λ k s r x is at names. absurd (none k r x at names);
    }
  where
    none : (k : ℕ) (r : ReferenceValue) (x : ℕ) → slice_get page.refs k ≡ Some r → r.block ≡ Some x → ⊥
    none k r x at names =
        let there : block_at (pages_of c) block (k ∷ []) ≡ Some x =
        child_at (pages_of c) block [] block k page x refl reads.is (slot_is page k x r at names) in
        none_some (sym (reads.leaf seven k []) ∙ named_is (pages_of c) block k [] page reads.is ∙ there)

below_names : (c : Content) (count : ℕ) (before : List Node) (depth : ℕ)
    → BelowNames c before (pages_below (blocks_of c count) (Some before) depth) depth
unfolding pages_below done
below_names c count before zero =
    λ block path page reads level deep seen nodes all e.
    let seven : page.level ≡ 7 = omega (arith, level, deep) in (
      subst (λ n. Names (pages_of c) before seen n all) (same_value seen all [] nodes e)
          (subst (λ l. Names (pages_of c) before seen [] l) (same_places seen all [] nodes e) (record { more = λ n i. i; each = tt })),
      leaf_names c before seen path block page reads seven,
    )
below_names c count before (suc depth) =
    λ block path page reads level deep seen nodes all e.
    slots_name c count before (pages_below (blocks_of c count) (Some before) depth) depth (below_names c count before depth)
    block path deep 0 page.refs seen nodes all e

-- the slots of each page of its own that a version has, read after another one
pub version_names : (c : Content) (count object namer block : ℕ) (before : LaidVersion) (seen : List ℕ) (u : LaidVersion) (all : List ℕ)
    → version_at (blocks_of c count) object namer block (Some before) seen ≡ Ok (u, all) → Each (OwnNames (pages_of c) before.nodes seen) u.nodes
version_names c count object namer block before seen u all e =
    let S : Store = pages_of c in
    let v : VersionRead c count object block (Some before) seen u all = version_read c count object namer block (Some before) seen u all e in
    let r : ReadsVersion S block v.page = reads_version c block v.bytes v.page v.holds v.reads in
    let b : Names S before.nodes (block ∷ seen) v.others all × SlotsName before.nodes (block ∷ seen) [] 0 v.page.page.refs =
    below_names c count before.nodes 7 block [] v.page.page r.page r.level refl (block ∷ seen) v.others all v.below in
    let within : Within seen (block ∷ seen) = λ n i. in_tail block n seen i in
    let here : OwnNames S before.nodes seen (root_node block v.page) =
    λ own page holds.
    subst (λ (x : PageValue). SlotsName before.nodes seen [] 0 x.refs) (some_is (sym r.page.is ∙ holds))
    (slots_less before.nodes seen (block ∷ seen) [] 0 v.page.page.refs within b.1) in
    subst (λ (w : LaidVersion). Each (OwnNames S before.nodes seen) w.nodes) (sym v.made)
    (here, each_less S before.nodes seen (block ∷ seen) v.others within b.0.each)
