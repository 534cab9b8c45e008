-- The flags, the masks and the fresh paths of a draft are those of the update that it stands for.
use Rattle.std.proofs.Common.{◌≡◌, ℕ, zero, suc, ◌^◌, ◌<◌, Bool, true, false, not, ◌&&◌, ◌||◌, cond, nat_eq, nat_lt, T, List, [], ◌∷◌, ◌++◌, map, length, ◌⊎◌, inl, inr, refl, sym, ap, subst, ◌∙◌, Option, Some, None, option_map, is_some, arith, eqb-true, ltb-true, true≢false, lit<}
use Rattle.std.specs.Option.{option_map_or}
use Rattle.std.specs.List.{list_any, list_all}
use Rattle.std.specs.Int.{bit_at}
use Rattle.std.specs.Ordering.{eq_by_cmp, is_lt}
use Rattle.std.specs.Cmp.{first_so, second_so}
use Rattle.std.specs.FinMap as finite
use Rattle.std.specs.FinMap.Entries.{find, is_sorted, below_all, same_entries}
use Rattle.std.proofs.lemmas.Bool.{eqb-false}
use Rattle.std.proofs.lemmas.List.Folds.{list_any-append}
use Rattle.std.proofs.lemmas.Nat.Bits.{bit_at-lt, bit_at-zero, same_from_bits_below}
use Rattle.afs_base.specs.Path.{path_cmp, is_prefix, are_slots}
use Rattle.afs_base.specs.declared.kind.Kind.{Kind}
use Rattle.afs_base.specs.declared.kind.Kind.TheVariants.{Data, Slot}
use Rattle.tree_model.specs.declared.step.Step.{Step}
use Rattle.tree_model.specs.declared.step.Step.TheVariants.{ReadAt, ListAt, WriteAt, MakeAt, DropAt}
use Rattle.tree_model.specs.Children.{path_of}
use Rattle.tree_model.specs.Trees.{Tree, has, IsTree, can_make, after, tree_after, every_slot, numbers_below}
use Rattle.tree_model.specs.Accesses.{Place, is_among, slot_of, on_the_way, slots_at, target, own_reads, step_reads, step_writes, all_reads, all_writes, touches}
use Rattle.tree_model.proofs.Paths.{told, never, same_test, false_if, both_true, path_total, path_only, prefix_self, prefix_above, prefix_append, prefix_told, prefix_trans, or_left, or_right, or_told}
use Rattle.tree_model.proofs.TreeFacts.{tree_step}
use Rattle.tree_model.proofs.KeyLists.{Key, bare, marked, bare_sorted, bare_found, bare_keys}
use Rattle.tree_model.proofs.PlaceFacts.{among_either, among_told, among_left, among_right, among_first, among_later, not_among, on_way}
use Rattle.tree_model.proofs.AccessTests.{slot_at}
use Rattle.page_places.specs.Places.{Store, same, has_bit, slot_block}
use Rattle.draft_model.specs.Views.{Copied, View, PageCopy, Copies, copy_of, copies, live, LiveAt, writes_kind, did_read, did_write}
use Rattle.draft_model.specs.Stands.{IsShared, Shape, IsKind, StandsFor}
use Rattle.draft_model.specs.Laws.{WriteLaw}
use Rattle.draft_model.specs.Told.{is_marked, flags_of, searched_of, modified_of, has_slot, FlagsTold, TellsFlags, TellsMasks, are_rising, is_one_of, AreFresh, TellsFresh}
use Rattle.page_places.proofs.Facts.{at_root}
use Rattle.draft_model.proofs.Facts.{has_bit_none, at_of, push, or_false}
use Rattle.draft_model.proofs.Ways.{has_live, slot_case}
use Rattle.draft_model.proofs.Marks.{is_data, number, cond_no_slot, made_places}
use Rattle.draft_model.proofs.Moves.{slot_small}
use Rattle.draft_model.proofs.Feeding.{holds_tree}

-- ---- the slots of a page

pub any_below : (f : ℕ → Bool) (n k : ℕ) → k < n → f k ≡ true → list_any f (numbers_below n) ≡ true
unfolding numbers_below
any_below f zero k h e = absurd (omega arith)
any_below f (suc n) k h e = list_any-append f (numbers_below n) (n ∷ []) ∙ by (told (nat_eq k n)) (λ g. any_below f n k g e)
  where
    by : (nat_eq k n ≡ true) ⊎ (nat_eq k n ≡ false) → (k < n → list_any f (numbers_below n) ≡ true) → (list_any f (numbers_below n) || (f n || false)) ≡ true
    by (inl g) rest = or_right (list_any f (numbers_below n)) (f n || false) (or_left (f n) false (ap f (sym (eqb-true k n g)) ∙ e))
    by (inr g) rest = or_left (list_any f (numbers_below n)) (f n || false) (rest (omega (arith, eqb-false k n g)))

pub some_below : (f : ℕ → Bool) (n : ℕ) → list_any f (numbers_below n) ≡ true → (k : ℕ) × (k < n) × (f k ≡ true)
unfolding numbers_below
some_below f zero h = never h refl
some_below f (suc n) h = elim (or_told (list_any f (numbers_below n)) (f n || false) (sym (list_any-append f (numbers_below n) (n ∷ [])) ∙ h)) [
  | inl e ↦ let rest = some_below f n e in (rest.0, omega (arith, rest.1), rest.2)
  | inr e ↦ (n, omega arith, sym (or_false (f n)) ∙ e)
]

-- two tests that agree on the slots
any_same : (f g : ℕ → Bool) → ((k : ℕ) → k < 16 → f k ≡ g k) → list_any f every_slot ≡ list_any g every_slot
any_same f g is = same_test _ _
    (λ h. let some = some_below f 16 h in any_below g 16 some.0 some.1 (sym (is some.0 some.1) ∙ some.2))
    (λ h. let some = some_below g 16 h in any_below f 16 some.0 some.1 (is some.0 some.1 ∙ some.2))

bit_zero : (m k : ℕ) → has_bit m k ≡ false → bit_at m k ≡ 0
bit_zero m k h = let apart = eqb-false (bit_at m k) 1 h in by (bit_at m k) (bit_at-lt m k) h
  where
    by : (n : ℕ) → n < 2 → nat_eq n 1 ≡ false → n ≡ 0
    by zero small e = refl
    by (suc zero) small e = never refl e
    by (suc (suc n)) small e = absurd (omega arith)

-- a mask of sixteen bits is not 0 where a bit is set
pub marked_any : (m : ℕ) → m < 2 ^ 16 → not (nat_eq m 0) ≡ is_marked m
marked_any m small = same_test _ _ there back
  where
    none : is_marked m ≡ false → m ≡ 0
    none e = same_from_bits_below 16 m 0 small (lit< tt) (λ k h. bit_zero m k (false_if (has_bit m k) (λ g. sym e ∙ any_below (has_bit m) 16 k h g)) ∙ sym (bit_at-zero k))

    there : not (nat_eq m 0) ≡ true → is_marked m ≡ true
    there h = elim (told (is_marked m)) [
      | inl e ↦ e
      | inr e ↦ never h (ap (λ n. not (nat_eq n 0)) (none e))
    ]

    back : is_marked m ≡ true → not (nat_eq m 0) ≡ true
    back h = elim (told (nat_eq m 0)) [
      | inl e ↦ let some = some_below (has_bit m) 16 h in never (ap (λ n. has_bit n some.0) (sym (eqb-true m 0 e)) ∙ some.2) (has_bit_none some.0)
      | inr e ↦ ap not e
    ]

-- no bit of 0 is set
pub unmarked : is_marked 0 ≡ false
unmarked = false_if (is_marked 0) (λ h. let some = some_below (has_bit 0) 16 h in sym (has_bit_none some.0) ∙ some.2)

-- ---- masks

searched_is : (d : View) (p : List ℕ) (k : ℕ) → has_bit (searched_of (d p)) k ≡ did_read d p (Slot k)
searched_is d p k = by (d p)
  where
    by : (o : Option Copied) → has_bit (option_map_or (λ (c : Copied). c.searched) o 0) k ≡ option_map_or (λ (c : Copied). has_bit c.searched k) o false
    by None = has_bit_none k
    by (Some c) = refl

modified_is : (d : View) (p : List ℕ) (k : ℕ) → has_bit (modified_of (d p)) k ≡ did_write d p (Slot k)
modified_is d p k = by (d p)
  where
    by : (o : Option Copied) → has_bit (option_map_or (λ (c : Copied). c.page.modified) o 0) k ≡ option_map_or (λ (c : Copied). has_bit c.page.modified k) o false
    by None = has_bit_none k
    by (Some c) = refl

pub tells_masks : (d : View) (p : List ℕ) → TellsMasks d p (searched_of (d p)) (modified_of (d p))
tells_masks d p store root a steps was = record {
  searched_is = λ k h. searched_is d p k ∙ was.stands.read p (Slot k) h;
  modified_is = λ k h. modified_is d p k ∙ was.stands.written p (Slot k) h;
}

-- ---- who writes a slot reads it

write_read : (t : Tree) (done : List Place) (step : Step) (p : List ℕ) (k : ℕ) → IsTree t → is_among (step_writes t step) (p, Slot k) ≡ true → is_among (step_reads t done step) (p, Slot k) ≡ true
write_read t done (ReadAt q) p k tree h = not_among (p, Slot k) h
write_read t done (ListAt q) p k tree h = not_among (p, Slot k) h
write_read t done (WriteAt q bytes) p k tree h = never h (cond_no_slot (has t q) q p k)
write_read t done (MakeAt c) p k tree h = by (can_make t c) refl h
  where
    by : (b : Bool) → can_make t c ≡ b → is_among (cond b (made_places c) []) (p, Slot k) ≡ true → is_among (step_reads t done (MakeAt c)) (p, Slot k) ≡ true
    by false e g = not_among (p, Slot k) g
    by true e g = elim (among_told (slot_of c) ((path_of c, Data) ∷ slots_at (path_of c)) (p, Slot k) g) [
      | inl is ↦ among_left (on_the_way t (path_of c)) (own_reads t done (MakeAt c)) (p, Slot k)
          (ap (is_among (on_the_way t (path_of c))) is ∙ on_way t (path_of c) c (first_so (has t c.0) (not (has t (path_of c))) e) (prefix_self (path_of c)))
      | inr more ↦ elim (among_told (path_of c, Data) (slots_at (path_of c)) (p, Slot k) more) [
        | inl is ↦ never refl (ap (λ (x : Place). is_data x.1) (sym is))
        | inr at ↦ among_right (on_the_way t (path_of c)) (own_reads t done (MakeAt c)) (p, Slot k) (ap (λ b. is_among (cond b (slots_at (path_of c)) []) (p, Slot k)) e ∙ at)
      ]
    ]
write_read t done (DropAt c) p k tree h = by (has t (path_of c)) refl h
  where
    by : (b : Bool) → has t (path_of c) ≡ b → is_among (cond b (slot_of c ∷ []) []) (p, Slot k) ≡ true → is_among (step_reads t done (DropAt c)) (p, Slot k) ≡ true
    by false e g = not_among (p, Slot k) g
    by true e g = elim (among_told (slot_of c) [] (p, Slot k) g) [
      | inl is ↦ among_left (on_the_way t (path_of c)) [] (p, Slot k)
          (ap (is_among (on_the_way t (path_of c))) is ∙ on_way t (path_of c) c (tree.closed (path_of c) c.0 (prefix_above c.0 c.1) e) (prefix_self (path_of c)))
      | inr none ↦ not_among (p, Slot k) none
    ]

writes_read : (t : Tree) (done : List Place) (steps : List Step) (p : List ℕ) (k : ℕ) → IsTree t → is_among (all_writes t steps) (p, Slot k) ≡ true → is_among (all_reads t done steps) (p, Slot k) ≡ true
writes_read t done [] p k tree h = not_among (p, Slot k) h
writes_read t done (step ∷ steps) p k tree h = elim (among_either (step_writes t step) (all_writes (after t step) steps) (p, Slot k) h) [
  | inl e ↦ among_left (step_reads t done step) (all_reads (after t step) (done ++ step_writes t step) steps) (p, Slot k) (write_read t done step p k tree e)
  | inr e ↦ among_right (step_reads t done step) (all_reads (after t step) (done ++ step_writes t step) steps) (p, Slot k)
      (writes_read (after t step) (done ++ step_writes t step) steps p k (tree_step t step tree) e)
]

-- ---- flags

-- a mask's mark is that some slot is among the places
mark_is : (m : ℕ) (places : List Place) (p : List ℕ) → ((k : ℕ) → k < 16 → has_bit m k ≡ is_among places (p, Slot k)) → is_marked m ≡ has_slot places p
mark_is m places p is = any_same (has_bit m) (λ k. is_among places (p, Slot k)) is

or_under : (a b : Bool) → (b ≡ true → a ≡ true) → (a || b) ≡ a
or_under true b h = refl
or_under false true h = sym (h refl)
or_under false false h = refl

pub tells_flags : (d : View) (p : List ℕ) → TellsFlags d p (flags_of (d p))
tells_flags d p store root a steps was = by (d p) refl
  where
    r : List Place
    r = all_reads a [] steps

    w : List Place
    w = all_writes a steps

    bits : (o : Option Copied) → d p ≡ o → (k : ℕ) → has_bit (searched_of o) k ≡ did_read d p (Slot k)
    bits o e k = ap (λ x. has_bit (searched_of x) k) (sym e) ∙ searched_is d p k

    bits_written : (o : Option Copied) → d p ≡ o → (k : ℕ) → has_bit (modified_of o) k ≡ did_write d p (Slot k)
    bits_written o e k = ap (λ x. has_bit (modified_of x) k) (sym e) ∙ modified_is d p k

    more : has_slot w p ≡ true → has_slot r p ≡ true
    more h =
        let some = some_below (λ k. is_among w (p, Slot k)) 16 h in
        any_below (λ k. is_among r (p, Slot k)) 16 some.0 some.1 (writes_read a [] steps p some.0 (holds_tree store root a was.base) some.2)

    by : (o : Option Copied) → d p ≡ o → FlagsTold a steps p (flags_of o)
    by None e = record {
      read = ap (λ x. option_map_or (λ (c : Copied). c.read) x false) (sym e) ∙ was.stands.read p Data tt;
      written = ap (λ x. option_map_or (λ (c : Copied). c.written) x false) (sym e) ∙ was.stands.written p Data tt;
      searched = sym unmarked ∙ mark_is 0 r p (λ k h. bits None e k ∙ was.stands.read p (Slot k) h);
      modified = sym unmarked ∙ mark_is 0 w p (λ k h. bits_written None e k ∙ was.stands.written p (Slot k) h);
    }
    by (Some c) e =
        let s_is = mark_is c.searched r p (λ k h. bits (Some c) e k ∙ was.stands.read p (Slot k) h) in
        let m_is = mark_is c.page.modified w p (λ k h. bits_written (Some c) e k ∙ was.stands.written p (Slot k) h) in
        record {
          read = ap (λ x. option_map_or (λ (y : Copied). y.read) x false) (sym e) ∙ was.stands.read p Data tt;
          written = ap (λ x. option_map_or (λ (y : Copied). y.written) x false) (sym e) ∙ was.stands.written p Data tt;
          searched = (λ i. s_is i || m_is i) ∙ or_under (has_slot r p) (has_slot w p) more;
          modified = m_is;
        }

-- ---- fresh paths

-- a page of the tree that is not live lies at or below one that the draft shares with its base
pub shared_above : (store : Store) (root : ℕ) (a t : Tree) (w : List Place) (h : Copies) → Shape store root a t w h → (l p x : List ℕ) → p ++ l ≡ x → live h p ≡ true
    → has t x ≡ true → live h x ≡ false → (v : List ℕ) × (b : ℕ) × (is_prefix v x ≡ true) × IsShared store root a t h v b
shared_above store root a t w h S [] p x is here there dead = never (ap (live h) (sym is ∙ at_root p) ∙ here) dead
shared_above store root a t w h S (s ∷ l) p x is here there dead =
    let q_is : (p ++ s ∷ []) ++ l ≡ x = push p s l ∙ is in
    let before : is_prefix (p ++ s ∷ []) x ≡ true = ap (is_prefix (p ++ s ∷ [])) (sym q_is) ∙ prefix_append (p ++ s ∷ []) l in
    let at = at_of h p here in
    elim (told (live h (p ++ s ∷ []))) [
      | inl e ↦ shared_above store root a t w h S l (p ++ s ∷ []) x q_is e there dead
      | inr e ↦ by at.0 at.1 before e (slot_block at.0.page s) refl
    ]
  where
    by : (c : PageCopy) → LiveAt h p c → is_prefix (p ++ s ∷ []) x ≡ true → live h (p ++ s ∷ []) ≡ false → (o : Option ℕ) → slot_block c.page s ≡ o
        → (v : List ℕ) × (b : ℕ) × (is_prefix v x ≡ true) × IsShared store root a t h v b
    by c at before e None g =
        never (S.tree.closed x (p ++ s ∷ []) before there) (slot_case store root a t w h S p s c at false None e g).0
    by c at before e (Some b) g = (p ++ s ∷ [], b, before, (slot_case store root a t w h S p s c at false (Some b) e g).0)

-- a slot that is written is one of sixteen
step_kinds : (t : Tree) (step : Step) (p : List ℕ) (k : ℕ) → are_slots (target step) ≡ true → is_among (step_writes t step) (p, Slot k) ≡ true → k < 16
step_kinds t (ReadAt q) p k small h = not_among (p, Slot k) h
step_kinds t (ListAt q) p k small h = not_among (p, Slot k) h
step_kinds t (WriteAt q bytes) p k small h = never h (cond_no_slot (has t q) q p k)
step_kinds t (MakeAt c) p k small h = by (can_make t c) h
  where
    last : k ≡ c.1 → k < 16
    last e = let F : ℕ → Type 0 = λ n. n < 16 in subst F (sym e) (slot_small c.0 c.1 [] (ap are_slots (at_root (path_of c)) ∙ small))

    by : (b : Bool) → is_among (cond b (made_places c) []) (p, Slot k) ≡ true → k < 16
    by false g = not_among (p, Slot k) g
    by true g = elim (among_told (slot_of c) ((path_of c, Data) ∷ slots_at (path_of c)) (p, Slot k) g) [
      | inl is ↦ last (ap (λ (x : Place). number x.1) is)
      | inr more ↦ elim (among_told (path_of c, Data) (slots_at (path_of c)) (p, Slot k) more) [
        | inl is ↦ never refl (ap (λ (x : Place). is_data x.1) (sym is))
        | inr at ↦ ltb-true k 16 (second_so (same p (path_of c)) (nat_lt k 16) (sym (slot_at (path_of c) p k) ∙ at))
      ]
    ]
step_kinds t (DropAt c) p k small h = by (has t (path_of c)) h
  where
    last : k ≡ c.1 → k < 16
    last e = let F : ℕ → Type 0 = λ n. n < 16 in subst F (sym e) (slot_small c.0 c.1 [] (ap are_slots (at_root (path_of c)) ∙ small))

    by : (b : Bool) → is_among (cond b (slot_of c ∷ []) []) (p, Slot k) ≡ true → k < 16
    by false g = not_among (p, Slot k) g
    by true g = elim (among_told (slot_of c) [] (p, Slot k) g) [
      | inl is ↦ last (ap (λ (x : Place). number x.1) is)
      | inr none ↦ not_among (p, Slot k) none
    ]

pub writes_kinds : (t : Tree) (steps : List Step) (p : List ℕ) (k : Kind) → list_all (λ (s : Step). are_slots (target s)) steps ≡ true → is_among (all_writes t steps) (p, k) ≡ true → IsKind k
writes_kinds t steps p Data small h = tt
writes_kinds t [] p (Slot k) small h = not_among (p, Slot k) h
writes_kinds t (step ∷ steps) p (Slot k) small h = elim (among_either (step_writes t step) (all_writes (after t step) steps) (p, Slot k) h) [
  | inl e ↦ step_kinds t step p k (first_so (are_slots (target step)) (list_all (λ (s : Step). are_slots (target s)) steps) small) e
  | inr e ↦ writes_kinds (after t step) steps p (Slot k) (second_so (are_slots (target step)) (list_all (λ (s : Step). are_slots (target s)) steps) small) e
]

-- whether something was written is whether the draft wrote somewhere
pub tells_writes : WriteLaw
tells_writes d b is store root a steps was = same_test _ _ (there (all_writes a steps) (λ x h. h)) (back (all_writes a steps) refl)
  where
    there : (w : List Place) → ((x : Place) → is_among (all_writes a steps) x ≡ true → is_among w x ≡ true) → b ≡ true → not (nat_eq (length w) 0) ≡ true
    there (y ∷ w) more h = ap not (false_if (nat_eq (suc (length w)) 0) (λ e. absurd (omega (arith, eqb-true (suc (length w)) 0 e))))
    there [] more h =
        let wrote = is.0 h in
        not_among (wrote.0, wrote.1.0) (more (wrote.0, wrote.1.0) (sym (was.stands.written wrote.0 wrote.1.0 wrote.1.1) ∙ wrote.1.2))

    back : (w : List Place) → all_writes a steps ≡ w → not (nat_eq (length w) 0) ≡ true → b ≡ true
    back [] e h = never h refl
    back (x ∷ w) e h =
        let here : is_among (all_writes a steps) x ≡ true = ap (λ (xs : List Place). is_among xs x) e ∙ among_first x w in
        let kind = writes_kinds a steps x.0 x.1 was.kept here in
        is.1 (x.0, (x.1, kind, was.stands.written x.0 x.1 kind ∙ here))

-- a page at or below which something was written
pub touches_of : (xs : List Place) (q : List ℕ) (x : Place) → is_among xs x ≡ true → is_prefix q x.0 ≡ true → touches xs q ≡ true
touches_of [] q x h on = not_among x h
touches_of (y ∷ xs) q x h on = elim (among_told y xs x h) [
  | inl e ↦ or_left (is_prefix q y.0) (touches xs q) (ap (λ (z : Place). is_prefix q z.0) (sym e) ∙ on)
  | inr e ↦ or_right (is_prefix q y.0) (touches xs q) (touches_of xs q x e on)
]

pub touched : (xs : List Place) (q : List ℕ) → touches xs q ≡ true → (x : Place) × (is_among xs x ≡ true) × (is_prefix q x.0 ≡ true)
touched [] q h = never h refl
touched (y ∷ xs) q h = by (or_told (is_prefix q y.0) (touches xs q) h) (touched xs q)
  where
    by : (is_prefix q y.0 ≡ true) ⊎ (touches xs q ≡ true) → (touches xs q ≡ true → (x : Place) × (is_among xs x ≡ true) × (is_prefix q x.0 ≡ true))
        → (x : Place) × (is_among (y ∷ xs) x ≡ true) × (is_prefix q x.0 ≡ true)
    by (inl e) rest = (y, among_first y xs, e)
    by (inr e) rest = let found = rest e in (found.0, among_later y xs found.0 found.1, found.2)

uncopied_mark : (d : View) (p : List ℕ) (k : Kind) → copies d p ≡ None → did_write d p k ≡ false
uncopied_mark d p k none = by (d p) none
  where
    by : (o : Option Copied) → option_map copy_of o ≡ None → option_map_or (λ (c : Copied). writes_kind c k) o false ≡ false
    by None e = refl
    by (Some c) e = absurd (true≢false (ap is_some e))

-- a page of the tree on or below which something was written is live
pub fresh_live : (store : Store) (root : ℕ) (a : Tree) (steps : List Step) (d : View) → StandsFor store root a steps d → (q : List ℕ)
    → has (tree_after a steps) q ≡ true → (x : Place) → is_among (all_writes a steps) x ≡ true → is_prefix q x.0 ≡ true → live (copies d) q ≡ true
fresh_live store root a steps d was q there x written on = elim (told (live (copies d) q)) [
  | inl e ↦ e
  | inr e ↦
      let S = was.stands.shape in
      let shared = shared_above store root a (tree_after a steps) (all_writes a steps) (copies d) S q [] q refl S.top there e in
      let rest = prefix_told shared.0 x.0 (prefix_trans shared.0 q x.0 shared.2 on) in
      let none : copies d x.0 ≡ None = ap (copies d) (sym rest.1) ∙ shared.3.uncopied rest.0 in
      never (was.stands.written x.0 x.1 (writes_kinds a steps x.0 x.1 was.kept written) ∙ written) (uncopied_mark d x.0 x.1 none)
]

-- the fresh paths of the draft are the pages of the tree on or below which something was written
pub fresh_told : (store : Store) (root : ℕ) (a : Tree) (steps : List Step) (d : View) (paths : List (List ℕ)) → AreFresh d paths → StandsFor store root a steps d → (q : List ℕ)
    → is_one_of paths q ≡ (touches (all_writes a steps) q && has (tree_after a steps) q)
fresh_told store root a steps d paths fresh was q = same_test _ _ there back
  where
    there : is_one_of paths q ≡ true → (touches (all_writes a steps) q && has (tree_after a steps) q) ≡ true
    there h =
        let is = (fresh.each q).0 h in
        let r = is.1.0 in
        let k = is.1.1.0 in
        both_true (touches (all_writes a steps) q) (has (tree_after a steps) q)
        (touches_of (all_writes a steps) q (q ++ r, k) (sym (was.stands.written (q ++ r) k is.1.1.1) ∙ is.1.1.2) (prefix_append q r))
        (has_live store root a (tree_after a steps) (all_writes a steps) (copies d) was.stands.shape q is.0)

    back : (touches (all_writes a steps) q && has (tree_after a steps) q) ≡ true → is_one_of paths q ≡ true
    back h =
        let found = touched (all_writes a steps) q (first_so (touches (all_writes a steps) q) (has (tree_after a steps) q) h) in
        let x = found.0 in
        let rest = prefix_told q x.0 found.2 in
        let kind = writes_kinds a steps x.0 x.1 was.kept found.1 in
        let wrote : did_write d (q ++ rest.0) x.1 ≡ true = ap (λ (y : List ℕ). did_write d y x.1) rest.1 ∙ was.stands.written x.0 x.1 kind ∙ found.1 in
        (fresh.each q).1 (
          fresh_live store root a steps d was q (second_so (touches (all_writes a steps) q) (has (tree_after a steps) q) h) x found.1 found.2,
          (rest.0, (x.1, kind, wrote)),
        )

-- ---- two lists of paths in order, with the same members

abbrev key_of : List ℕ → Key
key_of p = (p, tt)

keys_below : (p : List ℕ) (ps : List (List ℕ)) → below_all path_cmp p (map key_of ps) ≡ list_all (λ q. is_lt (path_cmp p q)) ps
keys_below p [] = refl
keys_below p (q ∷ ps) = ap (λ b. is_lt (path_cmp p q) && b) (keys_below p ps)

keys_sorted : (ps : List (List ℕ)) → is_sorted path_cmp (map key_of ps) ≡ are_rising ps
keys_sorted [] = refl
keys_sorted (p ∷ ps) = λ i. keys_below p ps i && keys_sorted ps i

keys_found : (q : List ℕ) (ps : List (List ℕ)) → find path_cmp q (map key_of ps) ≡ marked (is_one_of ps q)
keys_found q [] = refl
keys_found q (p ∷ ps) = by (eq_by_cmp path_cmp q p) (keys_found q ps)
  where
    by : (b : Bool) → find path_cmp q (map key_of ps) ≡ marked (is_one_of ps q) → cond b (Some tt) (find path_cmp q (map key_of ps)) ≡ marked (b || is_one_of ps q)
    by true rest = refl
    by false rest = rest

keys_back : (ps : List (List ℕ)) → map (λ (e : Key). e.0) (map key_of ps) ≡ ps
keys_back [] = refl
keys_back (p ∷ ps) = ap (λ (qs : List (List ℕ)). p ∷ qs) (keys_back ps)

-- a list in order whose members are the paths of a tree is the list of its paths
keys_are : (u : Tree) (ps : List (List ℕ)) → are_rising ps ≡ true → ((q : List ℕ) → is_one_of ps q ≡ has u q) → ps ≡ finite.keys u
keys_are u ps rising is =
    let es = finite.entries u in
    let one : map key_of ps ≡ bare es = same_entries path_cmp path_total path_only (map key_of ps) (bare es)
    (subst T (sym (keys_sorted ps ∙ rising)) tt)
    (subst T (sym (bare_sorted es)) (finite.entries_sorted u))
    (λ q. keys_found q ps ∙ ap marked (is q ∙ ap is_some (finite.get-entries u q)) ∙ sym (bare_found q es)) in
    sym (keys_back ps) ∙ ap (λ (ks : List Key). map (λ (e : Key). e.0) ks) one ∙ bare_keys es

kept_has : (t : Tree) (w : List Place) (q : List ℕ) → has (finite.retain_keys t (touches w)) q ≡ (touches w q && has t q)
kept_has t w q =
    ap is_some (finite.get-retain_keys t (touches w) q (λ x e. ap (touches w) (sym (path_only q x e)))) ∙ by (touches w q)
  where
    by : (b : Bool) → is_some (cond b (finite.get t q) None) ≡ (b && has t q)
    by true = refl
    by false = refl

pub tells_fresh : (d : View) (paths : List (List ℕ)) → AreFresh d paths → TellsFresh d paths
tells_fresh d paths fresh store root a steps was =
    keys_are (finite.retain_keys (tree_after a steps) (touches (all_writes a steps))) paths fresh.rising
    (λ q. fresh_told store root a steps d paths fresh was q ∙ sym (kept_has (tree_after a steps) (all_writes a steps) q))
