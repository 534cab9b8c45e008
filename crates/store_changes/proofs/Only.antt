-- Each place that is found of a version is the block of one of its pages.
use Rattle.std.proofs.Common.{◌≡◌, ℕ, zero, suc, Bool, true, false, cond, List, [], ◌∷◌, ◌++◌, length, ◌⊎◌, inl, inr, Option, Some, None, option_map, Ok, refl, sym, ap, ◌∙◌}
use Rattle.page_codec.specs.declared.why.Why.TheVariants.{Reference}
use Rattle.page_codec.specs.Values.{ReferenceValue}
use Rattle.page_places.specs.Places.{block_at}
use Rattle.store_model.specs.Walk.{Walk, bind, done, refuse}
use Rattle.store_model.specs.Laid.{Node, LaidVersion, shared_from, lies_at, block_in}
use Rattle.store_model.specs.Pages.{page_at, Below, own_from, named_from, slot_from, slots_from, pages_below}
use Rattle.store_model.specs.Chains.{version_at}
use Rattle.store_model.specs.Laws.{pages_of}
use Rattle.store_model.proofs.PlaceLists.{IsIn, in_cons, in_along}
use Rattle.store_model.proofs.Steps.{Content, blocks_of, passed, ok≢err, same_places}
use Rattle.store_model.proofs.Rewriting.{VersionRead, version_read}
use Rattle.store_model.proofs.Finding.{named_is}
use Rattle.store_model.proofs.Reading.{reads_page, reads_version}
use Rattle.store_model.proofs.Held.{Lies}
use Rattle.store_changes.specs.Stands.{IsPageOf}
use Rattle.store_changes.proofs.OnePlace.{PageRead, page_read}
use Rattle.store_changes.proofs.FirstAgain.{Under, UnderSlots, at_slot, past}

-- the walk finds only places that it had, and blocks with this property
abbrev OnlyWalk : (ℕ → Type 0) → Walk (List Node) → Type 0
OnlyWalk U walk = (seen : List ℕ) (nodes : List Node) (all : List ℕ) → walk seen ≡ Ok (nodes, all) → (n : ℕ) → IsIn all n → IsIn seen n ⊎ U n

only_done : (U : ℕ → Type 0) (nodes : List Node) → OnlyWalk U (done nodes)
unfolding done
only_done U nodes seen found all e n h = inl (in_along all seen (sym (same_places seen all nodes found e)) n h)

only_refuse : (U : ℕ → Type 0) (block : ℕ) → OnlyWalk U (refuse block Reference)
unfolding refuse
only_refuse U block seen nodes all e = absurd (ok≢err e)

only_wider : (U V : ℕ → Type 0) (walk : Walk (List Node)) → ((n : ℕ) → U n → V n) → OnlyWalk U walk → OnlyWalk V walk
only_wider U V walk f only seen nodes all e n h = elim (only seen nodes all e n h) [ inl i ↦ inl i | inr u ↦ inr (f n u) ]

abbrev BelowOnly : Content → Below → Type 0
BelowOnly c below = (block : ℕ) (path : List ℕ) (refs : List ReferenceValue) → OnlyWalk (UnderSlots c 0 refs) (below block path refs)

only_own : (c : Content) (count : ℕ) (below : Below) → BelowOnly c below → (namer : ℕ) (path : List ℕ) (reference : ReferenceValue) (block : ℕ)
    → OnlyWalk (Under c block) (own_from (blocks_of c count) below namer path reference block)
unfolding own_from bind done
only_own c count below each namer path reference block seen nodes all e n h =
    let p = passed (page_at (blocks_of c count) namer block (length path) seen) _ nodes all e in
    let r : PageRead c count block (length path) seen p.value p.places = page_read c count namer block (length path) seen p.value p.places p.first in
    let q = passed (below block path p.value.refs p.places) _ nodes all p.second in
    let shown : pages_of c block ≡ Some p.value = (reads_page c block r.bytes p.value r.at.took.holds r.reads).is in
    let mid : IsIn q.places n = in_along all q.places (sym (same_places q.places all _ nodes q.second)) n h in
    elim (each block path p.value.refs p.places q.value q.places q.first n mid) [
      | inl i ↦ elim (in_cons block n seen (in_along p.places (block ∷ seen) (sym r.grown) n i)) [
        | inl here ↦ inr ([], ap Some (sym here))
        | inr before ↦ inl before
      ]
      | inr u ↦ inr (u.0 ∷ u.1, sym (named_is (pages_of c) block u.0 u.1 p.value shown) ∙ u.2)
    ]

only_named : (c : Content) (count : ℕ) (before : Option (List Node)) (below : Below) → BelowOnly c below
    → (namer : ℕ) (path : List ℕ) (reference : ReferenceValue) (block : ℕ) → OnlyWalk (Under c block) (named_from (blocks_of c count) below before namer path reference block)
unfolding named_from
only_named c count None below each namer path reference block = only_own c count below each namer path reference block
only_named c count (Some before) below each namer path reference block = of reference.flags.copied (lies_at path block before)
  where
    of : (x y : Bool) → OnlyWalk (Under c block) (cond x (own_from (blocks_of c count) below namer path reference block) (cond y (done (shared_from path before)) (refuse namer Reference)))
    of true y = only_own c count below each namer path reference block
    of false true = only_done (Under c block) (shared_from path before)
    of false false = only_refuse (Under c block) namer

only_slots : (c : Content) (count : ℕ) (before : Option (List Node)) (below : Below) → BelowOnly c below
    → (namer : ℕ) (path : List ℕ) (slot : ℕ) (refs : List ReferenceValue) → OnlyWalk (UnderSlots c slot refs) (slots_from (blocks_of c count) below before namer path slot refs)
unfolding slots_from slot_from bind done
only_slots c count before below each namer path slot [] = only_done (UnderSlots c slot []) []
only_slots c count before below each namer path slot (reference ∷ others) =
    λ seen nodes all e n h.
    let p = passed (slot_from (blocks_of c count) below before namer (path ++ slot ∷ []) reference reference.block seen) _ nodes all e in
    let q = passed (slots_from (blocks_of c count) below before namer path (suc slot) others p.places) _ nodes all p.second in
    let mid : IsIn q.places n = in_along all q.places (sym (same_places q.places all _ nodes q.second)) n h in
    elim (only_slots c count before below each namer path (suc slot) others p.places q.value q.places q.first n mid) [
      | inl i ↦ here reference.block refl seen p.value p.places p.first n i
      | inr u ↦ inr (u.0, u.1, (past (pages_of c) slot reference others u.0 u.1 n u.2).is)
    ]
  where
    here : (o : Option ℕ) → reference.block ≡ o → OnlyWalk (UnderSlots c slot (reference ∷ others)) (slot_from (blocks_of c count) below before namer (path ++ slot ∷ []) reference o)
    here None is = only_done (UnderSlots c slot (reference ∷ others)) []
    here (Some x) is =
        only_wider (Under c x) (UnderSlots c slot (reference ∷ others)) _ (λ n u. (slot, u.0, at_slot (pages_of c) slot reference others x u.0 is ∙ u.1))
        (only_named c count before below each namer (path ++ slot ∷ []) reference x)

only_below : (c : Content) (count : ℕ) (before : Option (List Node)) (depth : ℕ) → BelowOnly c (pages_below (blocks_of c count) before depth)
unfolding pages_below
only_below c count before zero = λ block path refs. only_done (UnderSlots c 0 refs) []
only_below c count before (suc depth) =
    λ block path refs. only_slots c count before (pages_below (blocks_of c count) before depth) (only_below c count before depth) block path 0 refs

-- a place of a version is one that was found before, or the block of one of its pages
pub version_only : (c : Content) (count object namer block : ℕ) (before : Option LaidVersion) (seen : List ℕ) (u : LaidVersion) (all : List ℕ)
    → version_at (blocks_of c count) object namer block before seen ≡ Ok (u, all) → Lies (pages_of c) u → (n : ℕ) → IsIn all n → IsIn seen n ⊎ IsPageOf u n
version_only c count object namer block before seen u all e lies n h =
    let v : VersionRead c count object block before seen u all = version_read c count object namer block before seen u all e in
    let shown : pages_of c block ≡ Some v.page.page = (reads_version c block v.bytes v.page v.holds v.reads).page.is in
    let root : u.block ≡ block = ap (λ (w : LaidVersion). w.block) v.made in
    let at : (p : List ℕ) → block_at (pages_of c) block p ≡ Some n → block_in p u.nodes ≡ Some n =
    λ p is. lies.lie p ∙ ap (λ b. block_at (pages_of c) b p) root ∙ is in
    elim (only_below c count (option_map (λ w. w.nodes) before) 7 block [] v.page.page.refs (block ∷ seen) v.others all v.below n h) [
      | inl i ↦ elim (in_cons block n seen i) [ inl here ↦ inr ([], at [] (ap Some (sym here))) | inr old ↦ inl old ]
      | inr x ↦ inr (x.0 ∷ x.1, at (x.0 ∷ x.1) (sym (named_is (pages_of c) block x.0 x.1 v.page.page shown) ∙ x.2))
    ]
