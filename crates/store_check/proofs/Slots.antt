-- Walks over the slots of a page, slot by slot.
use Rattle.std.proofs.Common.{◌≡◌, ◌==◌, ◌||◌, if◌then◌else◌, ℕ, zero, suc, ◌+◌, ◌<◌, Bool, true, false, List, [], ◌∷◌, ◌++◌, length, drop, Option, Some, None, Result, Ok, Err, refl, sym, ap, subst, ◌∙◌, ◌≤◌, ◌-◌, get_or, add-one, arith, length-append}
use Rattle.std.proofs.Math.Seq.{drop-cons}
use Rattle.std.proofs.Math.ListN.{drop_of_length-le}
use Rattle.page_codec.specs.declared.why.Why.TheVariants.{Reference}
use Rattle.page_codec.specs.Values.{ReferenceValue, PageValue}
use Rattle.drives.specs.declared.device.Half.{Half}
use Rattle.store_model.specs.Walk.{Blocks, Refused, and_then, bind, done, refuse}
use Rattle.store_model.specs.Laid.{Node, block_in, is_block}
use Rattle.store_model.specs.Pages.{Below, page_at, own_node, own_from, named_from, slot_from, slots_from, pages_below}
use Rattle.store_check.specs.declared.refused.WalkRefused.{WalkRefused}
use Rattle.store_check.specs.declared.refused.WalkRefused.TheVariants.{ReadFault, BadStore, Memory}
use Rattle.store_check.specs.Before.{own_block, before_at, page_before, is_page, is_first}
use Rattle.store_check.proofs.Passing.{prepended, prepended_nothing, prepended_twice}
use Rattle.store_check.specs.Results.{Outcome, Stop, StopsBy, Stops, ShowsNone}

-- the path of a slot is one longer, and one level less is below it
pub child_depth : (path : List ℕ) (k d : ℕ) → (d ≡ 0 → ⊥) → length path + d ≡ 7 → length (path ++ k ∷ []) + (d - 1) ≡ 7
child_depth path k d some depth = Prim.omega (arith, length-append path (k ∷ []))

-- the pages below a page that is not of the lowest level
pub below_is : (blocks : Blocks) (nodes : Option (List Node)) (d namer : ℕ) (path : List ℕ) (refs : List ReferenceValue) (seen : List ℕ) → (d ≡ 0 → ⊥)
    → pages_below blocks nodes d namer path refs seen ≡ slots_from blocks (pages_below blocks nodes (d - 1)) nodes namer path 0 refs seen
unfolding pages_below
below_is blocks nodes zero namer path refs seen some = absurd (some refl)
below_is blocks nodes (suc d) namer path refs seen some =
    ap (λ (n : ℕ). slots_from blocks (pages_below blocks nodes n) nodes namer path 0 refs seen) (let e : d ≡ suc d - 1 = Prim.omega arith in e)

-- what a slot's choice says of the walk over the slot
abbrev pub Chosen : Result (Option ℕ) WalkRefused → Outcome (List Node) → (ℕ → Outcome (List Node)) → List ℕ → Type 0
Chosen (Ok None) outcome own seen = (nodes : List Node) × (outcome ≡ Ok (nodes, seen))
Chosen (Ok (Some block)) outcome own seen = outcome ≡ own block
Chosen (Err (BadStore block why)) outcome own seen = outcome ≡ Err (record { block = block; why = why })
Chosen (Err (ReadFault half)) outcome own seen = ⊥
Chosen (Err Memory) outcome own seen = ⊥

module _ (blocks : Blocks) (below : Below) where
  by_page : (namer : ℕ) (path : List ℕ) (reference : ReferenceValue) (block : ℕ) (nodes : List Node) (seen : List ℕ) (same : Bool)
      → Chosen (if same then Ok None else Err (BadStore namer Reference))
      ((if same then done nodes else refuse namer Reference) seen) (λ n. own_from blocks below namer path reference n seen) seen
  unfolding done refuse
  by_page namer path reference block nodes seen true = (nodes, refl)
  by_page namer path reference block nodes seen false = refl

  by_marks : (namer : ℕ) (path : List ℕ) (reference : ReferenceValue) (block : ℕ) (nodes : List Node) (seen : List ℕ) (copied : Bool) (at : Option ℕ)
      → Chosen (if is_first (page_before at) || copied then Ok (Some block) else (if is_page block (page_before at) then Ok None else Err (BadStore namer Reference)))
      ((if copied then own_from blocks below namer path reference block else (if is_block block at then done nodes else refuse namer Reference)) seen)
      (λ n. own_from blocks below namer path reference n seen) seen
  by_marks namer path reference block nodes seen true None = refl
  by_marks namer path reference block nodes seen true (Some n) = refl
  by_marks namer path reference block nodes seen false None = by_page namer path reference block nodes seen false
  by_marks namer path reference block nodes seen false (Some n) = by_page namer path reference block nodes seen (block == n)

  pub chosen : (nodes : Option (List Node)) (namer : ℕ) (path : List ℕ) (reference : ReferenceValue) (block : Option ℕ) (seen : List ℕ)
      → Chosen (own_block namer reference (before_at nodes path) block) (slot_from blocks below nodes namer path reference block seen)
      (λ n. own_from blocks below namer path reference n seen) seen
  unfolding slot_from named_from done
  chosen nodes namer path reference None seen = ([], refl)
  chosen None namer path reference (Some block) seen = refl
  chosen (Some nodes) namer path reference (Some block) seen = by_marks namer path reference block _ seen reference.flags.copied (block_in path nodes)

  -- a page of the version's own that is no page
  pub own_refused : (namer : ℕ) (path : List ℕ) (reference : ReferenceValue) (block : ℕ) (seen : List ℕ) (e : Refused)
      → page_at blocks namer block (length path) seen ≡ Err e → own_from blocks below namer path reference block seen ≡ Err e
  unfolding own_from bind
  own_refused namer path reference block seen e is = ap (λ r. and_then r (λ page. bind (below block path page.refs) (λ others. done (own_node path reference block page ∷ others)))) is

  own_then : (past : Half → Bool) (path : List ℕ) (reference : ReferenceValue) (block : ℕ) (page : PageValue) (after : List ℕ) (result : Result (Unit {0}) WalkRefused) (outcome : Outcome (List Node))
      → ShowsNone past result outcome after → ShowsNone past result (and_then outcome (λ others. done (own_node path reference block page ∷ others))) after
  unfolding done
  own_then past path reference block page after (Ok x) outcome (nodes, u, is) = (own_node path reference block page ∷ nodes, tt, ap (λ r. and_then r (λ others s. Ok (own_node path reference block page ∷ others, s))) is)
  own_then past path reference block page after (Err (BadStore n why)) outcome is = ap (λ r. and_then r (λ others s. Ok (own_node path reference block page ∷ others, s))) is
  own_then past path reference block page after (Err (ReadFault half)) outcome is =
      λ late. ((is late).0, ap (λ r. and_then r (λ others s. Ok (own_node path reference block page ∷ others, s))) (is late).1)
  own_then past path reference block page after (Err Memory) outcome is = tt

  -- a page of the version's own, and the pages below it
  pub own_shown : (past : Half → Bool) (namer : ℕ) (path : List ℕ) (reference : ReferenceValue) (block : ℕ) (page : PageValue) (seen between after : List ℕ) (result : Result (Unit {0}) WalkRefused)
      → page_at blocks namer block (length path) seen ≡ Ok (page, between) → ShowsNone past result (below block path page.refs between) after
      → ShowsNone past result (own_from blocks below namer path reference block seen) after
  unfolding own_from bind
  own_shown past namer path reference block page seen between after result is shown =
      let P : Outcome PageValue → Type 0 = λ r. ShowsNone past result (and_then r (λ page. bind (below block path page.refs) (λ others. done (own_node path reference block page ∷ others)))) after in
      subst P (sym is) (own_then past path reference block page after result (below block path page.refs between) shown)

-- no page is chosen for this cause
pub chosen_none : (e : Stop) (outcome : Outcome (List Node)) (own : ℕ → Outcome (List Node)) (seen : List ℕ) → Chosen (Err e.refused) outcome own seen → Stops e outcome
chosen_none e outcome own seen h = of e.refused e.past h
  where
    of : (e : WalkRefused) (past : Half → Bool) → Chosen (Err e) outcome own seen → StopsBy e past outcome
    of (BadStore block why) past h = h
    of (ReadFault half) past h = absurd h
    of Memory past h = absurd h

module _ (blocks : Blocks) (below : Below) (before : Option (List Node)) (namer : ℕ) (path : List ℕ) where
  -- the walk over all slots has come to this one
  pub record SlotsSoFar (refs : List ReferenceValue) (first : List ℕ) (k : ℕ) (seen : List ℕ) : Type 0 where
    pub here : List Node
    pub is : slots_from blocks below before namer path 0 refs first ≡ prepended here (slots_from blocks below before namer path k (drop k refs) seen)

  pub slots_begin : (refs : List ReferenceValue) (first : List ℕ) → SlotsSoFar refs first 0 first
  slots_begin refs first = record { here = []; is = sym (prepended_nothing (slots_from blocks below before namer path 0 refs first)) }

  abbrev others_walk : ℕ → List ReferenceValue → List Node → List ℕ → Outcome (List Node)
  others_walk k rest here = bind (slots_from blocks below before namer path (suc k) rest) (λ others. done (here ++ others))

  others_are : (k : ℕ) (rest : List ReferenceValue) (here : List Node) (seen : List ℕ)
      → others_walk k rest here seen ≡ prepended here (slots_from blocks below before namer path (suc k) rest seen)
  unfolding bind done
  others_are k rest here seen = of (slots_from blocks below before namer path (suc k) rest seen)
    where
      of : (o : Outcome (List Node)) → and_then o (λ others s. Ok (here ++ others, s)) ≡ prepended here o
      of (Ok p) = refl
      of (Err e) = refl

  slots_after :
      (refs : List ReferenceValue) (first seen after : List ℕ) (k : ℕ) (reference : ReferenceValue) (nodes : List Node)
      → drop k refs ≡ reference ∷ drop (suc k) refs
      → SlotsSoFar refs first k seen
      → slot_from blocks below before namer (path ++ k ∷ []) reference reference.block seen ≡ Ok (nodes, after)
      → SlotsSoFar refs first (suc k) after
  unfolding slots_from bind
  slots_after refs first seen after k reference nodes cut far is = record {
    here = far.here ++ nodes;
    is = far.is ∙ ap (prepended far.here)
        (ap (λ xs. slots_from blocks below before namer path k xs seen) cut ∙ ap (λ r. and_then r (others_walk k (drop (suc k) refs))) is ∙ others_are k (drop (suc k) refs) nodes after)
        ∙ prepended_twice far.here nodes (slots_from blocks below before namer path (suc k) (drop (suc k) refs) after);
  }

  slots_stopped :
      (refs : List ReferenceValue) (first seen : List ℕ) (k : ℕ) (reference : ReferenceValue) (e : Refused)
      → drop k refs ≡ reference ∷ drop (suc k) refs
      → SlotsSoFar refs first k seen
      → slot_from blocks below before namer (path ++ k ∷ []) reference reference.block seen ≡ Err e
      → slots_from blocks below before namer path 0 refs first ≡ Err e
  unfolding slots_from bind
  slots_stopped refs first seen k reference e cut far is =
      far.is ∙ ap (prepended far.here)
      (ap (λ xs. slots_from blocks below before namer path k xs seen) cut ∙ ap (λ r. and_then r (others_walk k (drop (suc k) refs))) is)

  pub slots_on :
      (refs : List ReferenceValue) (first seen after : List ℕ) (k : ℕ) (other : ReferenceValue) (nodes : List Node)
      → k < length refs
      → SlotsSoFar refs first k seen
      → slot_from blocks below before namer (path ++ k ∷ []) (get_or refs k other) (get_or refs k other).block seen ≡ Ok (nodes, after)
      → SlotsSoFar refs first (k + 1) after
  slots_on refs first seen after k other nodes low far is =
      subst (λ (j : ℕ). SlotsSoFar refs first j after) (sym (add-one k)) (slots_after refs first seen after k (get_or refs k other) nodes (drop-cons refs k other low) far is)

  pub slots_refused :
      (refs : List ReferenceValue) (first seen : List ℕ) (k : ℕ) (other : ReferenceValue) (e : Refused)
      → k < length refs
      → SlotsSoFar refs first k seen
      → slot_from blocks below before namer (path ++ k ∷ []) (get_or refs k other) (get_or refs k other).block seen ≡ Err e
      → slots_from blocks below before namer path 0 refs first ≡ Err e
  slots_refused refs first seen k other e low far is = slots_stopped refs first seen k (get_or refs k other) e (drop-cons refs k other low) far is

  pub slots_end : (refs : List ReferenceValue) (first seen : List ℕ) (k : ℕ) → length refs ≤ k → SlotsSoFar refs first k seen
      → (nodes : List Node) × Unit {0} × (slots_from blocks below before namer path 0 refs first ≡ Ok (nodes, seen))
  unfolding slots_from done
  slots_end refs first seen k past far =
      let cut : drop k refs ≡ [] = drop_of_length-le refs past in
      (far.here ++ [], tt, far.is ∙ ap (λ xs. prepended far.here (slots_from blocks below before namer path k xs seen)) cut)
