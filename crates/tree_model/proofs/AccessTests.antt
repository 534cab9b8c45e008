-- Accesses as tests: whether one place is on the way to a path, or among the slots of a page.
use Rattle.std.proofs.Common.{◌≡◌, ℕ, Bool, true, false, ◌&&◌, nat_lt, List, [], ◌∷◌, ◌++◌, sym, ap, ◌∙◌, ltb-true, lt-ltb}
use Rattle.std.specs.Cmp.{first_so, second_so}
use Rattle.afs_base.specs.Path.{is_prefix}
use Rattle.afs_base.specs.declared.kind.Kind.{Kind}
use Rattle.afs_base.specs.declared.kind.Kind.TheVariants.{Data, Slot}
use Rattle.tree_model.specs.Trees.{Tree, has}
use Rattle.tree_model.specs.Accesses.{Place, is_among, on_the_way, slots_at}
use Rattle.tree_model.proofs.Paths.{both_true, same, same_self, same_is, same_test, false_if}
use Rattle.tree_model.proofs.PlaceFacts.{way_told, on_way, slots_told, slots_among}

abbrev is_data : Kind → Bool
is_data Data = true
is_data (Slot k) = false

abbrev slot_number : Kind → ℕ
slot_number Data = 0
slot_number (Slot k) = k

-- a slot is on the way to a path where its page is there and it leads to the path
pub slot_on_the_way : (t : Tree) (q p : List ℕ) (k : ℕ) → is_among (on_the_way t q) (p, Slot k) ≡ (has t p && is_prefix (p ++ k ∷ []) q)
slot_on_the_way t q p k = same_test _ _ there (λ h. on_way t q (p, k) (first_so (has t p) (is_prefix (p ++ k ∷ []) q) h) (second_so (has t p) (is_prefix (p ++ k ∷ []) q) h))
  where
    there : is_among (on_the_way t q) (p, Slot k) ≡ true → (has t p && is_prefix (p ++ k ∷ []) q) ≡ true
    there h =
        let found = way_told t q (p, Slot k) h in
        let page : found.0.0 ≡ p = ap (λ (x : Place). x.0) (sym found.1) in
        let slot : found.0.1 ≡ k = ap (λ (x : Place). slot_number x.1) (sym found.1) in
        both_true _ _ (ap (has t) (sym page) ∙ found.2) ((λ i. is_prefix (sym page i ++ sym slot i ∷ []) q) ∙ found.3)

-- no data is read on the way
pub data_on_the_way : (t : Tree) (q p : List ℕ) → is_among (on_the_way t q) (p, Data) ≡ false
data_on_the_way t q p = false_if _ (λ h. sym (ap (λ (x : Place). is_data x.1) (way_told t q (p, Data) h).1))

-- a slot is among those of a page where it is on that page and below 16
pub slot_at : (q p : List ℕ) (k : ℕ) → is_among (slots_at q) (p, Slot k) ≡ (same p q && nat_lt k 16)
slot_at q p k = same_test _ _ there back
  where
    there : is_among (slots_at q) (p, Slot k) ≡ true → (same p q && nat_lt k 16) ≡ true
    there h =
        let found = slots_told q (p, Slot k) h in
        let page : p ≡ q = ap (λ (x : Place). x.0) found.2 in
        let slot : k ≡ found.0 = ap (λ (x : Place). slot_number x.1) found.2 in
        both_true _ _ (ap (λ (x : List ℕ). same x q) page ∙ same_self q) (ap (λ (n : ℕ). nat_lt n 16) slot ∙ lt-ltb found.0 16 found.1)

    back : (same p q && nat_lt k 16) ≡ true → is_among (slots_at q) (p, Slot k) ≡ true
    back h =
        ap (λ (x : List ℕ). is_among (slots_at q) (x, Slot k)) (same_is p q (first_so (same p q) (nat_lt k 16) h))
        ∙ slots_among q k (ltb-true k 16 (second_so (same p q) (nat_lt k 16) h))

-- no data is among the slots of a page
pub data_at : (q p : List ℕ) → is_among (slots_at q) (p, Data) ≡ false
data_at q p = false_if _ (λ h. sym (ap (λ (x : Place). is_data x.1) (slots_told q (p, Data) h).2))
