-- The pages below the slots of a page are in order, and each is found at its path.
use Rattle.std.proofs.Common.{◌≡◌, ◌⊎◌, inl, inr, ℕ, suc, ◌+◌, ◌-◌, ◌≤◌, List, [], ◌∷◌, ◌++◌, map, Option, Some, None, Result, Ok, refl, sym, ap, subst, ◌∙◌, arith, slice_get}
use Rattle.std.specs.Prelude.{T}
use Rattle.std.specs.Option.{option_and_then, option_or}
use Rattle.std.specs.FinMap.Entries.{find, is_sorted}
use Rattle.afs_base.specs.Path.{path_cmp}
use Rattle.page_codec.specs.Values.{ReferenceValue}
use Rattle.store_model.specs.Walk.{Refused}
use Rattle.tree_listing.specs.FirstFault.{and_then}
use Rattle.tree_listing.specs.Walk.{Entry, slot_pages, slots_pages, under}
use Rattle.tree_listing.proofs.Ordered.{AllFrom, find_under, find_earlier, find_other, find_append, sorted_join, from_join}

-- what a tree, or a part of one, has at each path
abbrev pub Part : Type 0
Part = List ℕ → Option (List ℕ)

-- these entries are in order, and are the part's
pub record IsOrdered (part : Part) (entries : List Entry) : Type 0 where
  pub sorted : T (is_sorted path_cmp entries)
  pub same : (q : List ℕ) → find path_cmp q entries ≡ part q

-- the walk finds the part's entries in order
pub record Walked (outcome : Result (List Entry) Refused) (part : Part) : Type 0 where
  pub entries : List Entry
  pub is : outcome ≡ Ok entries
  pub ordered : IsOrdered part entries

-- what a slot names is the part below it
abbrev pub SlotWalked : (ℕ → Result (List Entry) Refused) → Part → Option ℕ → Type 0
SlotWalked pages part None = (q : List ℕ) → part q ≡ None
SlotWalked pages part (Some n) = Walked (pages n) part

-- what one slot names
record One (outcome : Result (List Entry) Refused) (slot : ℕ) (part : Part) : Type 0 where
  entries : List Entry
  is : outcome ≡ Ok (map (under slot) entries)
  ordered : IsOrdered part entries

one_slot : (pages : ℕ → Result (List Entry) Refused) (slot : ℕ) (part : Part) (o : Option ℕ) → SlotWalked pages part o → One (slot_pages pages slot o) slot part
one_slot pages slot part None h = record { entries = []; is = refl; ordered = record { sorted = tt; same = λ q. sym (h q) } }
one_slot pages slot part (Some n) h = record {
  entries = h.entries;
  is = ap (λ r. and_then r (λ entries. Ok (map (under slot) entries))) h.is;
  ordered = h.ordered;
}

-- the walk over the slots from this one on finds the entries of all parts below them in order
pub record SlotsWalked (outcome : Result (List Entry) Refused) (slot : ℕ) (parts : ℕ → Part) : Type 0 where
  pub entries : List Entry
  pub is : outcome ≡ Ok entries
  pub sorted : T (is_sorted path_cmp entries)
  pub from : AllFrom slot entries
  pub same : (s : ℕ) → slot ≤ s → (q : List ℕ) → find path_cmp (s ∷ q) entries ≡ parts s q

or_right : {X : Type 0} (a b : Option X) → b ≡ None → option_or a b ≡ a
or_right None b e = e
or_right (Some x) b e = refl

equal_or_less : (s t : ℕ) → s ≤ t → (t ≡ s) ⊎ (suc s ≤ t)
equal_or_less s t h = Prim.grind arith

apart : (s t : ℕ) → suc s ≤ t → t ≡ s → ⊥
apart s t h e = Prim.grind arith

pub slots_walked :
    (pages : ℕ → Result (List Entry) Refused) (slot : ℕ) (refs : List ReferenceValue) (parts : ℕ → Part)
    → ((i : ℕ) → SlotWalked pages (parts (slot + i)) (option_and_then (λ r. r.block) (slice_get refs i)))
    → SlotsWalked (slots_pages pages slot refs) slot parts
slots_walked pages slot [] parts h = record {
  entries = [];
  is = refl;
  sorted = tt;
  from = tt;
  same = λ s low q. sym (subst (λ (n : ℕ). parts n q ≡ None) (Prim.omega (arith, low)) (h (s - slot) q));
}
slots_walked pages slot (r ∷ refs) parts h =
    let P : ℕ → Type 0 = λ n. SlotWalked pages (parts n) r.block in
    let here = one_slot pages slot (parts slot) r.block (subst P (Prim.omega arith) (h 0)) in
    let rest = slots_walked pages (suc slot) refs parts (λ i. next i (h (suc i))) in
    record {
      entries = map (under slot) here.entries ++ rest.entries;
      is = ap (λ x. and_then x (λ a. and_then (slots_pages pages (suc slot) refs) (λ b. Ok (a ++ b)))) here.is
          ∙ ap (λ x. and_then x (λ b. Ok (map (under slot) here.entries ++ b))) rest.is;
      sorted = sorted_join slot here.entries rest.entries here.ordered.sorted rest.sorted rest.from;
      from = from_join slot here.entries rest.entries rest.from;
      same = λ s low q. find_append (s ∷ q) (map (under slot) here.entries) rest.entries ∙ at here rest s q (equal_or_less slot s low);
    }
  where
    next : (i : ℕ) → SlotWalked pages (parts (slot + suc i)) (option_and_then (λ r. r.block) (slice_get refs i))
        → SlotWalked pages (parts (suc slot + i)) (option_and_then (λ r. r.block) (slice_get refs i))
    next i walked =
        let P : ℕ → Type 0 = λ n. SlotWalked pages (parts n) (option_and_then (λ (r : ReferenceValue). r.block) (slice_get refs i)) in
        subst P (Prim.omega arith) walked

    at : (here : One (slot_pages pages slot r.block) slot (parts slot)) (rest : SlotsWalked (slots_pages pages (suc slot) refs) (suc slot) parts)
        (s : ℕ) (q : List ℕ) → (s ≡ slot) ⊎ (suc slot ≤ s)
        → option_or (find path_cmp (s ∷ q) (map (under slot) here.entries)) (find path_cmp (s ∷ q) rest.entries) ≡ parts s q
    at here rest s q (inl e) =
        let P : ℕ → Type 0 = λ n. option_or (find path_cmp (n ∷ q) (map (under slot) here.entries)) (find path_cmp (n ∷ q) rest.entries) ≡ parts n q in
        subst P (sym e)
        (or_right _ _ (find_earlier slot q rest.entries rest.from) ∙ find_under slot q here.entries ∙ here.ordered.same q)
    at here rest s q (inr later) =
        ap (λ (o : Option (List ℕ)). option_or o (find path_cmp (s ∷ q) rest.entries)) (find_other slot s q here.entries (apart slot s later))
        ∙ rest.same s later q
