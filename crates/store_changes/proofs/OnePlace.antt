-- The pages of one version lie in different blocks: each is a new place of its own, or the place that the version before has at the same path.
use Rattle.std.proofs.Common.{◌≡◌, ℕ, zero, suc, ◌==◌, Bool, true, false, cond, List, [], ◌∷◌, ◌++◌, length, ◌⊎◌, inl, inr, Option, Some, None, option_map, Ok, refl, sym, ap, subst, ◌∙◌}
use Rattle.std.specs.Option.{option_or}
use Rattle.afs_base.specs.Path.{is_prefix}
use Rattle.page_places.specs.Places.{same}
use Rattle.page_codec.specs.declared.why.Why.TheVariants.{Level, Reference}
use Rattle.page_codec.specs.Values.{ReferenceValue, PageValue}
use Rattle.page_codec.specs.Causes.{page_of}
use Rattle.store_model.specs.Walk.{Walk, bind, done, refuse, check, decoded, place}
use Rattle.store_model.specs.Laid.{Node, LaidVersion, shared_from, lies_at, block_in}
use Rattle.store_model.specs.Pages.{page_at, own_node, Below, own_from, named_from, slot_from, slots_from, pages_below}
use Rattle.store_model.specs.Chains.{version_at, root_node}
use Rattle.store_model.proofs.PlaceLists.{IsIn, in_head, in_tail}
use Rattle.store_model.proofs.Steps.{Content, blocks_of, passed, ok≢err, same_value, same_places}
use Rattle.store_model.proofs.Rewriting.{Placed, placed, Checked, checked, Decoded, decoded_told, VersionRead, version_read}
use Rattle.store_model.proofs.Finding.{block_in_append, block_in_first, block_in_shared}
use Rattle.tree_model.proofs.Paths.{same_is}

-- the block of the page at a path of the version before, where there is one
abbrev pub block_before : List ℕ → Option (List Node) → Option ℕ
block_before path None = None
block_before path (Some nodes) = block_in path nodes

-- the pages of the version before lie in places that were found, each in its own
pub record IsBefore (before : Option (List Node)) (seen : List ℕ) : Type 0 where
  pub kept : (p : List ℕ) (b : ℕ) → block_before p before ≡ Some b → IsIn seen b
  pub one : (p q : List ℕ) (b : ℕ) → block_before p before ≡ Some b → block_before q before ≡ Some b → p ≡ q

-- where a page of a version lies: in a place that was found on the way, or where the version before has it
abbrev pub From : Option (List Node) → List ℕ → List ℕ → List ℕ → ℕ → Type 0
From before seen all p b = (IsIn all b × (IsIn seen b → ⊥)) ⊎ (block_before p before ≡ Some b)

-- the pages that were found lie so, and no two in one block
pub record Lone (before : Option (List Node)) (seen : List ℕ) (nodes : List Node) (all : List ℕ) : Type 0 where
  pub more : (n : ℕ) → IsIn seen n → IsIn all n
  pub from : (p : List ℕ) (b : ℕ) → block_in p nodes ≡ Some b → From before seen all p b
  pub one : (p q : List ℕ) (b : ℕ) → block_in p nodes ≡ Some b → block_in q nodes ≡ Some b → p ≡ q

-- so it is of whatever this walk finds
abbrev pub LoneWalk : Option (List Node) → Walk (List Node) → Type 0
LoneWalk before walk = (seen : List ℕ) (nodes : List Node) (all : List ℕ) → IsBefore before seen → walk seen ≡ Ok (nodes, all) → Lone before seen nodes all

before_more : (before : Option (List Node)) (seen all : List ℕ) → ((n : ℕ) → IsIn seen n → IsIn all n) → IsBefore before seen → IsBefore before all
before_more before seen all more is = record { kept = λ p b at. more b (is.kept p b at); one = is.one }

-- ---- lists of pages put together

none_lone : (before : Option (List Node)) (seen : List ℕ) → Lone before seen [] seen
none_lone before seen = record { more = λ n h. h; from = λ p b at. absurd (no at); one = λ p q b at. absurd (no at) }
  where
    no : {b : ℕ} → (let o : Option ℕ = None in o) ≡ Some b → ⊥
    no h = cc

-- a place found by the first of two walks is none that the second finds
pub both_lone : (before : Option (List Node)) (seen : List ℕ) (here : List Node) (mid : List ℕ) (rest : List Node) (all : List ℕ) → IsBefore before seen
    → Lone before seen here mid → Lone before mid rest all → Lone before seen (here ++ rest) all
both_lone before seen here mid rest all is a b =
    record {
      more = λ n h. b.more n (a.more n h);
      from = λ p n at. elim (split p n at) [ inl x ↦ widen p n (a.from p n x) | inr x ↦ narrow p n (b.from p n x) ];
      one = λ p q n at to. elim (split p n at) [
        | inl x ↦ elim (split q n to) [ inl y ↦ a.one p q n x y | inr y ↦ cross p q n (a.from p n x) (b.from q n y) ]
        | inr x ↦ elim (split q n to) [ inl y ↦ sym (cross q p n (a.from q n y) (b.from p n x)) | inr y ↦ b.one p q n x y ]
      ];
    }
  where
    split : (p : List ℕ) (n : ℕ) → block_in p (here ++ rest) ≡ Some n → (block_in p here ≡ Some n) ⊎ (block_in p rest ≡ Some n)
    split p n at = of (block_in p here) (sym (block_in_append p here rest) ∙ at)
      where
        of : (o : Option ℕ) → option_or o (block_in p rest) ≡ Some n → (o ≡ Some n) ⊎ (block_in p rest ≡ Some n)
        of None h = inr h
        of (Some x) h = inl h

    widen : (p : List ℕ) (n : ℕ) → From before seen mid p n → From before seen all p n
    widen p n f = elim f [ inl x ↦ inl (b.more n x.0, x.1) | inr x ↦ inr x ]

    narrow : (p : List ℕ) (n : ℕ) → From before mid all p n → From before seen all p n
    narrow p n f = elim f [ inl x ↦ inl (x.0, λ h. x.1 (a.more n h)) | inr x ↦ inr x ]

    cross : (p q : List ℕ) (n : ℕ) → From before seen mid p n → From before mid all q n → p ≡ q
    cross p q n f g =
        elim g [
          | inl y ↦ absurd (y.1 (elim f [ inl x ↦ x.0 | inr x ↦ a.more n (is.kept p n x) ]))
          | inr y ↦ elim f [ inl x ↦ absurd (x.1 (is.kept q n y)) | inr x ↦ is.one p q n x y ]
        ]

-- a page in a new place, and pages below it
pub own_lone : (before : Option (List Node)) (seen : List ℕ) (node : Node) (others : List Node) (all : List ℕ) → IsBefore before seen → (IsIn seen node.block → ⊥)
    → Lone before (node.block ∷ seen) others all → Lone before seen (node ∷ others) all
own_lone before seen node others all is fresh a =
    record {
      more = λ n h. a.more n (in_tail node.block n seen h);
      from = λ p b at. elim (split p b at) [
        | inl x ↦ inl (subst (IsIn all) x.1 (a.more node.block (in_head node.block seen)), λ h. fresh (subst (IsIn seen) (sym x.1) h))
        | inr x ↦ elim (a.from p b x) [ inl y ↦ inl (y.0, λ h. y.1 (in_tail node.block b seen h)) | inr y ↦ inr y ]
      ];
      one = λ p q b at to. elim (split p b at) [
        | inl x ↦ elim (split q b to) [ inl y ↦ x.0 ∙ sym y.0 | inr y ↦ absurd (cross q b x.1 (a.from q b y)) ]
        | inr x ↦ elim (split q b to) [ inl y ↦ absurd (cross p b y.1 (a.from p b x)) | inr y ↦ a.one p q b x y ]
      ];
    }
  where
    split : (p : List ℕ) (b : ℕ) → block_in p (node ∷ others) ≡ Some b → ((p ≡ node.path) × (node.block ≡ b)) ⊎ (block_in p others ≡ Some b)
    split p b at = of (same p node.path) refl (sym (block_in_first p node others) ∙ at)
      where
        of : (t : Bool) → same p node.path ≡ t → cond t (Some node.block) (block_in p others) ≡ Some b → ((p ≡ node.path) × (node.block ≡ b)) ⊎ (block_in p others ≡ Some b)
        of true e h = let same_block : node.block ≡ b = cc in inl (same_is p node.path e, same_block)
        of false e h = inr h

    cross : (p : List ℕ) (b : ℕ) → node.block ≡ b → From before (node.block ∷ seen) all p b → ⊥
    cross p b e f =
        elim f [
          | inl y ↦ y.1 (subst (IsIn (node.block ∷ seen)) e (in_head node.block seen))
          | inr y ↦ fresh (subst (IsIn seen) (sym e) (is.kept p b y))
        ]

shared_lone : (q : List ℕ) (before : List Node) (seen : List ℕ) → IsBefore (Some before) seen → Lone (Some before) seen (shared_from q before) seen
shared_lone q before seen is =
    record {
      more = λ n h. h;
      from = λ p b at. inr (there p b at);
      one = λ p r b at to. is.one p r b (there p b at) (there r b to);
    }
  where
    there : (p : List ℕ) (b : ℕ) → block_in p (shared_from q before) ≡ Some b → block_in p before ≡ Some b
    there p b at = of (is_prefix q p) (sym (block_in_shared q p before) ∙ at)
      where
        of : (t : Bool) → cond t (block_in p before) None ≡ Some b → block_in p before ≡ Some b
        of true h = h
        of false h = absurd cc

-- ---- the walk

lone_done : (before : Option (List Node)) (nodes : List Node) → ((seen : List ℕ) → IsBefore before seen → Lone before seen nodes seen) → LoneWalk before (done nodes)
unfolding done
lone_done before nodes h seen found all is e =
    subst (λ n. Lone before seen n all) (same_value seen all nodes found e) (subst (λ l. Lone before seen nodes l) (same_places seen all nodes found e) (h seen is))

lone_refuse : (before : Option (List Node)) (block : ℕ) → LoneWalk before (refuse block Reference)
unfolding refuse
lone_refuse before block seen nodes all is e = absurd (ok≢err e)

abbrev BelowLone : Option (List Node) → Below → Type 0
BelowLone before below = (block : ℕ) (path : List ℕ) (refs : List ReferenceValue) → LoneWalk before (below block path refs)

-- a page that was read in a new place
pub record PageRead (c : Content) (count block level : ℕ) (seen : List ℕ) (page : PageValue) (all : List ℕ) : Type 0 where
  pub bytes : List ℕ
  pub at : Placed count block (c block) seen bytes (block ∷ seen)
  pub reads : page_of bytes ≡ Ok page
  pub levels : (page.level == level) ≡ true
  pub grown : block ∷ seen ≡ all

pub page_read : (c : Content) (count namer block level : ℕ) (seen : List ℕ) (page : PageValue) (all : List ℕ) → page_at (blocks_of c count) namer block level seen ≡ Ok (page, all)
    → PageRead c count block level seen page all
unfolding page_at bind done
page_read c count namer block level seen page all e =
    let p = passed (place (blocks_of c count) namer block seen) _ page all e in
    let a : Placed count block (c block) seen p.value p.places = placed c count namer block seen p.value p.places p.first in
    let q = passed (decoded block (page_of p.value) p.places) _ page all p.second in
    let d : Decoded (page_of p.value) p.places q.value q.places = decoded_told block (page_of p.value) p.places q.value q.places q.first in
    let r = passed (check (q.value.level == level) block Level q.places) _ page all q.second in
    let k : Checked (q.value.level == level) q.places r.places = checked (q.value.level == level) block Level q.places r.value r.places r.first in
    let same_page : q.value ≡ page = same_value r.places all q.value page r.second in
    record {
      bytes = p.value;
      at = subst (Placed count block (c block) seen p.value) a.took.grown a;
      reads = d.reads ∙ ap Ok same_page;
      levels = ap (λ (x : PageValue). x.level == level) (sym same_page) ∙ k.holds;
      grown = sym a.took.grown ∙ d.stays ∙ k.stays ∙ same_places r.places all q.value page r.second;
    }

lone_own : (c : Content) (count : ℕ) (before : Option (List Node)) (below : Below) → BelowLone before below
    → (namer : ℕ) (path : List ℕ) (reference : ReferenceValue) (block : ℕ) → LoneWalk before (own_from (blocks_of c count) below namer path reference block)
unfolding own_from bind done
lone_own c count before below each namer path reference block seen nodes all is e =
    let p = passed (page_at (blocks_of c count) namer block (length path) seen) _ nodes all e in
    let r : PageRead c count block (length path) seen p.value p.places = page_read c count namer block (length path) seen p.value p.places p.first in
    let q = passed (below block path p.value.refs p.places) _ nodes all p.second in
    let mid : Lone before p.places q.value q.places = each block path p.value.refs p.places q.value q.places
    (before_more before seen p.places (λ n h. subst (λ l. IsIn l n) r.grown (in_tail block n seen h)) is) q.first in
    let node : Node = own_node path reference block p.value in
    subst (λ n. Lone before seen n all) (same_value q.places all (node ∷ q.value) nodes q.second)
    (subst (λ l. Lone before seen (node ∷ q.value) l) (same_places q.places all (node ∷ q.value) nodes q.second)
    (own_lone before seen node q.value q.places is r.at.took.fresh (subst (λ l. Lone before l q.value q.places) (sym r.grown) mid)))

lone_named : (c : Content) (count : ℕ) (before : Option (List Node)) (below : Below) → BelowLone before below
    → (namer : ℕ) (path : List ℕ) (reference : ReferenceValue) (block : ℕ) → LoneWalk before (named_from (blocks_of c count) below before namer path reference block)
unfolding named_from
lone_named c count None below each namer path reference block = lone_own c count None below each namer path reference block
lone_named c count (Some before) below each namer path reference block = of reference.flags.copied (lies_at path block before)
  where
    of : (x y : Bool) → LoneWalk (Some before) (cond x (own_from (blocks_of c count) below namer path reference block) (cond y (done (shared_from path before)) (refuse namer Reference)))
    of true y = lone_own c count (Some before) below each namer path reference block
    of false true = lone_done (Some before) (shared_from path before) (shared_lone path before)
    of false false = lone_refuse (Some before) namer

lone_slot : (c : Content) (count : ℕ) (before : Option (List Node)) (below : Below) → BelowLone before below
    → (namer : ℕ) (path : List ℕ) (reference : ReferenceValue) (block : Option ℕ) → LoneWalk before (slot_from (blocks_of c count) below before namer path reference block)
unfolding slot_from
lone_slot c count before below each namer path reference None = lone_done before [] (λ seen is. none_lone before seen)
lone_slot c count before below each namer path reference (Some block) = lone_named c count before below each namer path reference block

lone_slots : (c : Content) (count : ℕ) (before : Option (List Node)) (below : Below) → BelowLone before below
    → (namer : ℕ) (path : List ℕ) (slot : ℕ) (refs : List ReferenceValue) → LoneWalk before (slots_from (blocks_of c count) below before namer path slot refs)
unfolding slots_from bind done
lone_slots c count before below each namer path slot [] = lone_done before [] (λ seen is. none_lone before seen)
lone_slots c count before below each namer path slot (reference ∷ others) =
    λ seen nodes all is e.
    let p = passed (slot_from (blocks_of c count) below before namer (path ++ slot ∷ []) reference reference.block seen) _ nodes all e in
    let a : Lone before seen p.value p.places = lone_slot c count before below each namer (path ++ slot ∷ []) reference reference.block seen p.value p.places is p.first in
    let q = passed (slots_from (blocks_of c count) below before namer path (suc slot) others p.places) _ nodes all p.second in
    let b : Lone before p.places q.value q.places = lone_slots c count before below each namer path (suc slot) others p.places q.value q.places (before_more before seen p.places a.more is) q.first in
    subst (λ n. Lone before seen n all) (same_value q.places all (p.value ++ q.value) nodes q.second)
    (subst (λ l. Lone before seen (p.value ++ q.value) l) (same_places q.places all (p.value ++ q.value) nodes q.second)
    (both_lone before seen p.value p.places q.value q.places is a b))

pub lone_below : (c : Content) (count : ℕ) (before : Option (List Node)) (depth : ℕ) → BelowLone before (pages_below (blocks_of c count) before depth)
unfolding pages_below
lone_below c count before zero = λ block path refs. lone_done before [] (λ seen is. none_lone before seen)
lone_below c count before (suc depth) = λ block path refs. lone_slots c count before (pages_below (blocks_of c count) before depth) (lone_below c count before depth) block path 0 refs

-- the pages of a version, after those of the one before
pub lone_version : (c : Content) (count object namer block : ℕ) (before : Option LaidVersion) (seen : List ℕ) (u : LaidVersion) (all : List ℕ)
    → IsBefore (option_map (λ v. v.nodes) before) seen → version_at (blocks_of c count) object namer block before seen ≡ Ok (u, all)
    → Lone (option_map (λ v. v.nodes) before) seen u.nodes all
lone_version c count object namer block before seen u all is e =
    let v : VersionRead c count object block before seen u all = version_read c count object namer block before seen u all e in
    let B : Option (List Node) = option_map (λ w. w.nodes) before in
    let a : Lone B (block ∷ seen) v.others all = lone_below c count B 7 block [] v.page.page.refs (block ∷ seen) v.others all (before_more B seen (block ∷ seen) (λ n h. in_tail block n seen h) is) v.below in
    subst (λ (w : LaidVersion). Lone B seen w.nodes all) (sym v.made) (own_lone B seen (root_node block v.page) v.others all is v.fresh a)
