-- The marks after a step are the accesses of the steps so far.
use Rattle.std.proofs.Common.{◌≡◌, ℕ, ◌^◌, ◌<◌, Bool, true, false, not, ◌&&◌, ◌||◌, cond, nat_eq, nat_lt, List, [], ◌∷◌, ◌++◌, length, ◌⊎◌, inl, inr, refl, sym, ap, ◌∙◌, Option, Some, None, option_map, is_some, eqb-true, eq-eqb, lt-ltb}
use Rattle.std.specs.Option.{option_map_or}
use Rattle.std.specs.Int.RustNames.{bit_or}
use Rattle.std.specs.Cmp.{first_so, second_so}
use Rattle.afs_base.specs.Path.{is_prefix}
use Rattle.afs_base.specs.declared.kind.Kind.{Kind}
use Rattle.afs_base.specs.declared.kind.Kind.TheVariants.{Data, Slot}
use Rattle.tree_model.specs.declared.step.Step.{Step}
use Rattle.tree_model.specs.declared.step.Step.TheVariants.{ReadAt, ListAt, WriteAt, MakeAt, DropAt}
use Rattle.tree_model.specs.Children.{path_of}
use Rattle.tree_model.specs.Trees.{Tree, has, can_make}
use Rattle.tree_model.specs.Accesses.{Place, is_among, slot_of, on_the_way, slots_at, target, own_reads, step_reads, step_writes, end_of}
use Rattle.tree_model.proofs.Paths.{told, never, same_test, false_if, both_true, same_self, same_is, path_told, prefix_self, prefix_trans, prefix_above, or_left, or_right}
use Rattle.tree_model.proofs.PlaceFacts.{among_append, among_first, among_told, among_later, not_among, slots_among}
use Rattle.tree_model.proofs.AccessTests.{slot_on_the_way, data_on_the_way, slot_at, data_at}
use Rattle.page_places.specs.Places.{Store, Holds, same, has_bit, slot_block}
use Rattle.draft_model.specs.Views.{Copied, View, PageCopy, Copies, copies, live, reads_kind, writes_kind, did_read, did_write, WantsNone}
use Rattle.draft_model.specs.Steps.{is_there, makes, acts, way_bit, taken, is_made, made, stepped}
use Rattle.draft_model.specs.Stands.{IsKind, Stands}
use Rattle.draft_model.proofs.Facts.{or_false, or_true, and_true, and_false, has_bit_or, has_bit_pow, has_bit_all, way_bit_is}
use Rattle.draft_model.proofs.Ways.{way_told, child_told, makes_told}

-- ---- single places

abbrev pub is_data : Kind → Bool
is_data Data = true
is_data (Slot k) = false

abbrev pub number : Kind → ℕ
number Data = 0
number (Slot k) = k

pub one_data : (q p : List ℕ) → is_among ((q, Data) ∷ []) (p, Data) ≡ same p q
one_data q p = same_test _ _ there (λ h. ap (λ (x : List ℕ). is_among ((q, Data) ∷ []) (x, Data)) (same_is p q h) ∙ among_first (q, Data) [])
  where
    there : is_among ((q, Data) ∷ []) (p, Data) ≡ true → same p q ≡ true
    there h = elim (among_told (q, Data) [] (p, Data) h) [
      | inl e ↦ ap (λ (x : Place). same p x.0) (sym e) ∙ same_self p
      | inr e ↦ not_among (p, Data) e
    ]

pub data_no_slot : (q p : List ℕ) (k : ℕ) (xs : List Place) → is_among ((q, Data) ∷ xs) (p, Slot k) ≡ is_among xs (p, Slot k)
data_no_slot q p k xs = same_test _ _ there (λ h. among_later (q, Data) xs (p, Slot k) h)
  where
    there : is_among ((q, Data) ∷ xs) (p, Slot k) ≡ true → is_among xs (p, Slot k) ≡ true
    there h = elim (among_told (q, Data) xs (p, Slot k) h) [
      | inl e ↦ never refl (ap (λ (x : Place). is_data x.1) (sym e) ∙ refl)
      | inr e ↦ e
    ]

pub slot_no_data : (c : List ℕ × ℕ) (p : List ℕ) (xs : List Place) → is_among (slot_of c ∷ xs) (p, Data) ≡ is_among xs (p, Data)
slot_no_data c p xs = same_test _ _ there (λ h. among_later (slot_of c) xs (p, Data) h)
  where
    there : is_among (slot_of c ∷ xs) (p, Data) ≡ true → is_among xs (p, Data) ≡ true
    there h = elim (among_told (slot_of c) xs (p, Data) h) [
      | inl e ↦ never (ap (λ (x : Place). is_data x.1) (sym e)) refl
      | inr e ↦ e
    ]

pub first_slot : (c : List ℕ × ℕ) (p : List ℕ) (k : ℕ) (xs : List Place) → is_among (slot_of c ∷ xs) (p, Slot k) ≡ ((same p c.0 && nat_eq k c.1) || is_among xs (p, Slot k))
first_slot c p k xs = same_test _ _ there back
  where
    there : is_among (slot_of c ∷ xs) (p, Slot k) ≡ true → ((same p c.0 && nat_eq k c.1) || is_among xs (p, Slot k)) ≡ true
    there h = elim (among_told (slot_of c) xs (p, Slot k) h) [
      | inl e ↦ or_left _ _ (both_true _ _ (ap (λ (x : Place). same p x.0) (sym e) ∙ same_self p) (eq-eqb k c.1 (ap (λ (x : Place). number x.1) e)))
      | inr e ↦ or_right _ _ e
    ]

    at : same p c.0 ≡ true → nat_eq k c.1 ≡ true → is_among (slot_of c ∷ xs) (p, Slot k) ≡ true
    at e g = (λ i. is_among (slot_of c ∷ xs) (same_is p c.0 e i, Slot (eqb-true k c.1 g i))) ∙ among_first (slot_of c) xs

    back : ((same p c.0 && nat_eq k c.1) || is_among xs (p, Slot k)) ≡ true → is_among (slot_of c ∷ xs) (p, Slot k) ≡ true
    back h = elim (told (same p c.0 && nat_eq k c.1)) [
      | inl e ↦ at (first_so _ _ e) (second_so _ _ e)
      | inr e ↦ among_later (slot_of c) xs (p, Slot k) (ap (λ b. b || is_among xs (p, Slot k)) (sym e) ∙ h)
    ]

-- ---- the way

-- a page above a step's target is on the way to its end, and so told
above_end : (step : Step) (p : List ℕ) (k : ℕ) → is_prefix (p ++ k ∷ []) (target step) ≡ true → is_prefix p (end_of step) ≡ true
above_end (ReadAt q) p k h = prefix_trans p (p ++ k ∷ []) q (prefix_above p k) h
above_end (ListAt q) p k h = prefix_trans p (p ++ k ∷ []) q (prefix_above p k) h
above_end (WriteAt q bytes) p k h = prefix_trans p (p ++ k ∷ []) q (prefix_above p k) h
above_end (MakeAt c) p k h = child_end p k c.0 c.1 h
  where
    child_end : (p : List ℕ) (k : ℕ) (q : List ℕ) (s : ℕ) → is_prefix (p ++ k ∷ []) (q ++ s ∷ []) ≡ true → is_prefix p q ≡ true
    child_end [] k q s h = refl
    child_end (t ∷ p) k [] s h = never (deep p (second_so _ _ h)) refl
      where
        deep : (p : List ℕ) → is_prefix (p ++ k ∷ []) [] ≡ true → false ≡ true
        deep [] e = e
        deep (u ∷ p) e = e
    child_end (t ∷ p) k (u ∷ q) s h = both_true _ _ (first_so _ _ h) (child_end p k q s (second_so _ _ h))
above_end (DropAt c) p k h = child_end p k c.0 c.1 h
  where
    child_end : (p : List ℕ) (k : ℕ) (q : List ℕ) (s : ℕ) → is_prefix (p ++ k ∷ []) (q ++ s ∷ []) ≡ true → is_prefix p q ≡ true
    child_end [] k q s h = refl
    child_end (t ∷ p) k [] s h = never (deep p (second_so _ _ h)) refl
      where
        deep : (p : List ℕ) → is_prefix (p ++ k ∷ []) [] ≡ true → false ≡ true
        deep [] e = e
        deep (u ∷ p) e = e
    child_end (t ∷ p) k (u ∷ q) s h = both_true _ _ (first_so _ _ h) (child_end p k q s (second_so _ _ h))

-- the way is read in the live pages
way_slot : (t : Tree) (h : Copies) (step : Step) → ((q : List ℕ) → is_prefix q (end_of step) ≡ true → live h q ≡ has t q) → (p : List ℕ) (k : ℕ)
    → is_among (on_the_way t (target step)) (p, Slot k) ≡ (live h p && is_prefix (p ++ k ∷ []) (target step))
way_slot t h step is p k = slot_on_the_way t (target step) p k ∙ elim (told (is_prefix (p ++ k ∷ []) (target step))) [
  | inl e ↦ ap (λ b. b && is_prefix (p ++ k ∷ []) (target step)) (sym (is p (above_end step p k e)))
  | inr e ↦ ap (λ b. has t p && b) e ∙ and_false (has t p) ∙ sym (ap (λ b. live h p && b) e ∙ and_false (live h p))
]

-- ---- at one copied page

-- the mask of the slots read, with the way
searched_way : (here : Bool) (m : ℕ) (p q : List ℕ) (k : ℕ) → has_bit (cond here (bit_or m (way_bit p q)) m) k ≡ (has_bit m k || (here && is_prefix (p ++ k ∷ []) q))
searched_way true m p q k = has_bit_or m (way_bit p q) k ∙ ap (λ b. has_bit m k || b) (way_bit_is p q k)
searched_way false m p q k = sym (or_false (has_bit m k))

-- .. and with a list
searched_list : (here : Bool) (m : ℕ) (p q : List ℕ) (k : ℕ) → k < 16
    → has_bit (cond here (cond (same p q) 65535 (bit_or m (way_bit p q))) m) k ≡ (has_bit m k || ((here && is_prefix (p ++ k ∷ []) q) || (here && same p q)))
searched_list true m p q k small = by (same p q)
  where
    by : (b : Bool) → has_bit (cond b 65535 (bit_or m (way_bit p q))) k ≡ (has_bit m k || (is_prefix (p ++ k ∷ []) q || b))
    by true = has_bit_all k small ∙ sym (ap (λ b. has_bit m k || b) (or_true (is_prefix (p ++ k ∷ []) q)) ∙ or_true (has_bit m k))
    by false = has_bit_or m (way_bit p q) k ∙ ap (λ b. has_bit m k || b) (way_bit_is p q k ∙ sym (or_false (is_prefix (p ++ k ∷ []) q)))
searched_list false m p q k small = sym (or_false (has_bit m k))

-- the mask of the slots written, with one more
pub modified_more : (b : Bool) (m s k : ℕ) → has_bit (cond b (bit_or m (2 ^ s)) m) k ≡ (has_bit m k || (b && nat_eq k s))
modified_more true m s k = has_bit_or m (2 ^ s) k ∙ ap (λ b. has_bit m k || b) (has_bit_pow s k)
modified_more false m s k = sym (or_false (has_bit m k))

-- ---- what a step reads, at pages that it does not make

-- what the step reads of the page at p besides the way, in the live pages
abbrev pub own_seen : View → Step → List ℕ → Kind → Bool
own_seen d (ReadAt q) p Data = (live (copies d) p && same p q) && not (did_write d p Data)
own_seen d (ReadAt q) p (Slot k) = false
own_seen d (ListAt q) p Data = false
own_seen d (ListAt q) p (Slot k) = live (copies d) p && same p q
own_seen d (WriteAt q bytes) p k = false
own_seen d (MakeAt c) p k = false
own_seen d (DropAt c) p k = false

abbrev way_seen : View → Step → List ℕ → Kind → Bool
way_seen d step p Data = false
way_seen d step p (Slot k) = live (copies d) p && is_prefix (p ++ k ∷ []) (target step)

seen_taken : (d : View) (step : Step) (done : Bool) (p : List ℕ) (k : Kind) → IsKind k
    → option_map_or (λ c. reads_kind c k) (option_map (taken done step p) (d p)) false ≡ (did_read d p k || (way_seen d step p k || own_seen d step p k))
seen_taken d (ReadAt q) done p Data kind = by (d p)
  where
    by : (o : Option Copied) → option_map_or (λ (c : Copied). reads_kind c Data) (option_map (taken done (ReadAt q) p) o) false
        ≡ (option_map_or (λ (c : Copied). reads_kind c Data) o false || ((option_map_or (λ (c : PageCopy). c.live) (option_map (λ (c : Copied). record { live = c.live; page = c.page }) o) false && same p q) && not (option_map_or (λ (c : Copied). writes_kind c Data) o false)))
    by None = refl
    by (Some c) = refl
seen_taken d (ReadAt q) done p (Slot k) kind = by (d p)
  where
    by : (o : Option Copied) → option_map_or (λ (c : Copied). has_bit c.searched k) (option_map (taken done (ReadAt q) p) o) false
        ≡ (option_map_or (λ (c : Copied). has_bit c.searched k) o false || ((option_map_or (λ (c : PageCopy). c.live) (option_map (λ (c : Copied). record { live = c.live; page = c.page }) o) false && is_prefix (p ++ k ∷ []) q) || false))
    by None = refl
    by (Some c) = searched_way c.live c.searched p q k ∙ ap (λ b. has_bit c.searched k || b) (sym (or_false (c.live && is_prefix (p ++ k ∷ []) q)))
seen_taken d (ListAt q) done p Data kind = by (d p)
  where
    by : (o : Option Copied) → option_map_or (λ (c : Copied). c.read) (option_map (taken done (ListAt q) p) o) false ≡ (option_map_or (λ (c : Copied). c.read) o false || false)
    by None = refl
    by (Some c) = ap (λ b. c.read || (b && not c.written)) (and_false c.live)
seen_taken d (ListAt q) done p (Slot k) kind = by (d p)
  where
    by : (o : Option Copied) → option_map_or (λ (c : Copied). has_bit c.searched k) (option_map (taken done (ListAt q) p) o) false
        ≡ (option_map_or (λ (c : Copied). has_bit c.searched k) o false || ((option_map_or (λ (c : PageCopy). c.live) (option_map (λ (c : Copied). record { live = c.live; page = c.page }) o) false && is_prefix (p ++ k ∷ []) q)
        || (option_map_or (λ (c : PageCopy). c.live) (option_map (λ (c : Copied). record { live = c.live; page = c.page }) o) false && same p q)))
    by None = refl
    by (Some c) = searched_list c.live c.searched p q k kind
seen_taken d (WriteAt q bytes) done p Data kind = by (d p)
  where
    by : (o : Option Copied) → option_map_or (λ (c : Copied). c.read) (option_map (taken done (WriteAt q bytes) p) o) false ≡ (option_map_or (λ (c : Copied). c.read) o false || false)
    by None = refl
    by (Some c) = ap (λ b. c.read || (b && not c.written)) (and_false c.live)
seen_taken d (WriteAt q bytes) done p (Slot k) kind = by (d p)
  where
    by : (o : Option Copied) → option_map_or (λ (c : Copied). has_bit c.searched k) (option_map (taken done (WriteAt q bytes) p) o) false
        ≡ (option_map_or (λ (c : Copied). has_bit c.searched k) o false || ((option_map_or (λ (c : PageCopy). c.live) (option_map (λ (c : Copied). record { live = c.live; page = c.page }) o) false && is_prefix (p ++ k ∷ []) q) || false))
    by None = refl
    by (Some c) = searched_way c.live c.searched p q k ∙ ap (λ b. has_bit c.searched k || b) (sym (or_false (c.live && is_prefix (p ++ k ∷ []) q)))
seen_taken d (MakeAt x) done p Data kind = by (d p)
  where
    by : (o : Option Copied) → option_map_or (λ (c : Copied). c.read) (option_map (taken done (MakeAt x) p) o) false ≡ (option_map_or (λ (c : Copied). c.read) o false || false)
    by None = refl
    by (Some c) = ap (λ b. c.read || (b && not c.written)) (and_false c.live)
seen_taken d (MakeAt x) done p (Slot k) kind = by (d p)
  where
    by : (o : Option Copied) → option_map_or (λ (c : Copied). has_bit c.searched k) (option_map (taken done (MakeAt x) p) o) false
        ≡ (option_map_or (λ (c : Copied). has_bit c.searched k) o false || ((option_map_or (λ (c : PageCopy). c.live) (option_map (λ (c : Copied). record { live = c.live; page = c.page }) o) false && is_prefix (p ++ k ∷ []) (path_of x)) || false))
    by None = refl
    by (Some c) = searched_way c.live c.searched p (path_of x) k ∙ ap (λ b. has_bit c.searched k || b) (sym (or_false (c.live && is_prefix (p ++ k ∷ []) (path_of x))))
seen_taken d (DropAt x) done p Data kind = by (d p)
  where
    by : (o : Option Copied) → option_map_or (λ (c : Copied). c.read) (option_map (taken done (DropAt x) p) o) false ≡ (option_map_or (λ (c : Copied). c.read) o false || false)
    by None = refl
    by (Some c) = ap (λ b. c.read || (b && not c.written)) (and_false c.live)
seen_taken d (DropAt x) done p (Slot k) kind = by (d p)
  where
    by : (o : Option Copied) → option_map_or (λ (c : Copied). has_bit c.searched k) (option_map (taken done (DropAt x) p) o) false
        ≡ (option_map_or (λ (c : Copied). has_bit c.searched k) o false || ((option_map_or (λ (c : PageCopy). c.live) (option_map (λ (c : Copied). record { live = c.live; page = c.page }) o) false && is_prefix (p ++ k ∷ []) (path_of x)) || false))
    by None = refl
    by (Some c) = searched_way c.live c.searched p (path_of x) k ∙ ap (λ b. has_bit c.searched k || b) (sym (or_false (c.live && is_prefix (p ++ k ∷ []) (path_of x))))

-- the way in the tree is the way in the live pages
way_is : (t : Tree) (d : View) (step : Step) → ((q : List ℕ) → is_prefix q (end_of step) ≡ true → live (copies d) q ≡ has t q) → (p : List ℕ) (k : Kind)
    → is_among (on_the_way t (target step)) (p, k) ≡ way_seen d step p k
way_is t d step is p Data = data_on_the_way t (target step) p
way_is t d step is p (Slot k) = way_slot t (copies d) step is p k

-- where two paths are one, or a test of them fails, the liveness of either serves
shifted : (t : Tree) (h : Copies) (p q : List ℕ) → live h q ≡ has t q → (has t q && same p q) ≡ (live h p && same p q)
shifted t h p q is = elim (path_told p q) [
  | inl e ↦ ap (λ b. b && same p q) (sym is ∙ ap (live h) (sym e))
  | inr e ↦ ap (λ b. has t q && b) e ∙ and_false (has t q) ∙ sym (ap (λ b. live h p && b) e ∙ and_false (live h p))
]

pub cond_data : (b : Bool) (q p : List ℕ) → is_among (cond b ((q, Data) ∷ []) []) (p, Data) ≡ (b && same p q)
cond_data true q p = one_data q p
cond_data false q p = refl

pub cond_no_slot : (b : Bool) (q p : List ℕ) (k : ℕ) → is_among (cond b ((q, Data) ∷ []) []) (p, Slot k) ≡ false
cond_no_slot true q p k = data_no_slot q p k []
cond_no_slot false q p k = refl

pub cond_slots : (b : Bool) (q p : List ℕ) (k : ℕ) → k < 16 → is_among (cond b (slots_at q) []) (p, Slot k) ≡ (b && same p q)
cond_slots true q p k small = slot_at q p k ∙ ap (λ b. same p q && b) (lt-ltb k 16 small) ∙ and_true (same p q)
cond_slots false q p k small = refl

cond_no_data : (b : Bool) (q p : List ℕ) → is_among (cond b (slots_at q) []) (p, Data) ≡ false
cond_no_data true q p = data_at q p
cond_no_data false q p = refl

-- what a step that makes nothing reads of its own
own_is : (t : Tree) (w : List Place) (d : View) (step : Step) → ((q : List ℕ) → is_prefix q (end_of step) ≡ true → live (copies d) q ≡ has t q)
    → ((p : List ℕ) (k : Kind) → IsKind k → did_write d p k ≡ is_among w (p, k)) → (p : List ℕ) (k : Kind) → IsKind k
    → is_made true step p ≡ false → is_among (own_reads t w step) (p, k) ≡ own_seen d step p k
own_is t w d (ReadAt q) is written p Data kind apart =
    cond_data (has t q && not (is_among w (q, Data))) q p ∙ elim (path_told p q) [
      | inl e ↦ (λ i. (sym (is q (prefix_self q)) i && not (sym (written q Data tt) i)) && same p q)
          ∙ swap (live (copies d) q) (not (did_write d q Data)) (same p q)
          ∙ (λ i. (live (copies d) (sym e i) && same p q) && not (did_write d (sym e i) Data))
      | inr e ↦ ap (λ b. (has t q && not (is_among w (q, Data))) && b) e ∙ and_false _
          ∙ sym (ap (λ b. (live (copies d) p && b) && not (did_write d p Data)) e ∙ ap (λ b. b && not (did_write d p Data)) (and_false (live (copies d) p)))
    ]
  where
    swap : (a b c : Bool) → ((a && b) && c) ≡ ((a && c) && b)
    swap true b true = and_true b
    swap true b false = and_false b
    swap false b c = refl
own_is t w d (ReadAt q) is written p (Slot k) kind apart = cond_no_slot (has t q && not (is_among w (q, Data))) q p k
own_is t w d (ListAt q) is written p Data kind apart = cond_no_data (has t q) q p
own_is t w d (ListAt q) is written p (Slot k) kind apart = cond_slots (has t q) q p k kind ∙ shifted t (copies d) p q (is q (prefix_self q))
own_is t w d (WriteAt q bytes) is written p k kind apart = refl
own_is t w d (MakeAt c) is written p Data kind apart = cond_no_data (can_make t c) (path_of c) p
own_is t w d (MakeAt c) is written p (Slot k) kind apart =
    cond_slots (can_make t c) (path_of c) p k kind ∙ ap (λ b. can_make t c && b) apart ∙ and_false (can_make t c)
own_is t w d (DropAt c) is written p k kind apart = refl

-- ---- all that was read

pub read_told : (store : Store) (root : ℕ) (a t : Tree) (r w : List Place) (d : View) → Holds store root a → Stands store root a t r w d
    → (step : Step) → WantsNone (copies d) (end_of step) → (p : List ℕ) (k : Kind) → IsKind k
    → did_read (stepped d step) p k ≡ is_among (r ++ step_reads t w step) (p, k)
read_told store root a t r w d base S step none p k kind = by step none
  where
    parts : (step : Step) → is_among (r ++ step_reads t w step) (p, k) ≡ (is_among r (p, k) || (is_among (on_the_way t (target step)) (p, k) || is_among (own_reads t w step) (p, k)))
    parts step = among_append r (step_reads t w step) (p, k) ∙ ap (λ b. is_among r (p, k) || b) (among_append (on_the_way t (target step)) (own_reads t w step) (p, k))

    plain : (step : Step) → WantsNone (copies d) (end_of step) → is_made true step p ≡ false
        → option_map_or (λ (c : Copied). reads_kind c k) (option_map (taken (acts (copies d) step) step p) (d p)) false ≡ is_among (r ++ step_reads t w step) (p, k)
    plain step none apart =
        let is = way_told store root a t w (copies d) S.shape (end_of step) none in
        seen_taken d step (acts (copies d) step) p k kind
        ∙ (λ i. S.read p k kind i || (sym (way_is t d step is p k) i || sym (own_is t w d step is S.written p k kind apart) i))
        ∙ sym (parts step)

    -- a make that is not done
    unmade : (c : List ℕ × ℕ) → WantsNone (copies d) c.0 → makes (copies d) c ≡ false
        → option_map_or (λ (x : Copied). reads_kind x k) (option_map (taken (makes (copies d) c) (MakeAt c) p) (d p)) false ≡ is_among (r ++ step_reads t w (MakeAt c)) (p, k)
    unmade c none e =
        let is = way_told store root a t w (copies d) S.shape c.0 none in
        let cannot : can_make t c ≡ false = sym (makes_told store root a t w (copies d) base S.shape c (is c.0 (prefix_self c.0))) ∙ e in
        let own : is_among (own_reads t w (MakeAt c)) (p, k) ≡ false = ap (λ b. is_among (cond b (slots_at (path_of c)) []) (p, k)) cannot in
        seen_taken d (MakeAt c) (makes (copies d) c) p k kind
        ∙ (λ i. S.read p k kind i || (sym (way_is t d (MakeAt c) is p k) i || sym own i))
        ∙ sym (parts (MakeAt c))

    -- the page that a make makes
    fresh : (c : List ℕ × ℕ) → can_make t c ≡ true → p ≡ path_of c → (k : Kind) → IsKind k
        → reads_kind (made (length p) (d p)) k ≡ (is_among r (p, k) || (is_among (on_the_way t (path_of c)) (p, k) || is_among (own_reads t w (MakeAt c)) (p, k)))
    fresh c can is Data kind =
        S.read p Data tt
        ∙ sym ((λ i. is_among r (p, Data) || (data_on_the_way t (path_of c) p i || cond_no_data (can_make t c) (path_of c) p i)) ∙ or_false (is_among r (p, Data)))
    fresh c can is (Slot j) kind =
        let own : is_among (own_reads t w (MakeAt c)) (p, Slot j) ≡ true =
        cond_slots (can_make t c) (path_of c) p j kind ∙ both_true _ _ can (ap (λ (x : List ℕ). same x (path_of c)) is ∙ same_self (path_of c)) in
        has_bit_all j kind
        ∙ sym (or_right (is_among r (p, Slot j)) _ (or_right (is_among (on_the_way t (path_of c)) (p, Slot j)) _ own))

    by : (step : Step) → WantsNone (copies d) (end_of step) → did_read (stepped d step) p k ≡ is_among (r ++ step_reads t w step) (p, k)
    by (ReadAt q) none = plain (ReadAt q) none refl
    by (ListAt q) none = plain (ListAt q) none refl
    by (WriteAt q bytes) none = plain (WriteAt q bytes) none refl
    by (DropAt c) none = plain (DropAt c) none refl
    by (MakeAt c) none = elim (told (makes (copies d) c)) [
      | inr e ↦ ap (λ b. option_map_or (λ (x : Copied). reads_kind x k) (cond (b && same p (path_of c)) (Some (made (length p) (d p))) (option_map (taken (makes (copies d) c) (MakeAt c) p) (d p))) false) e
          ∙ unmade c none e
      | inl e ↦ elim (path_told p (path_of c)) [
        | inr apart ↦ ap (λ b. option_map_or (λ (x : Copied). reads_kind x k) (cond b (Some (made (length p) (d p))) (option_map (taken (makes (copies d) c) (MakeAt c) p) (d p))) false)
            (ap (λ b. makes (copies d) c && b) apart ∙ and_false (makes (copies d) c))
            ∙ plain (MakeAt c) none apart
        | inl is ↦
            let can : can_make t c ≡ true = sym (makes_told store root a t w (copies d) base S.shape c (way_told store root a t w (copies d) S.shape c.0 none c.0 (prefix_self c.0))) ∙ e in
            ap (λ b. option_map_or (λ (x : Copied). reads_kind x k) (cond b (Some (made (length p) (d p))) (option_map (taken (makes (copies d) c) (MakeAt c) p) (d p))) false)
            (both_true _ _ e (ap (λ (x : List ℕ). same x (path_of c)) is ∙ same_self (path_of c)))
            ∙ fresh c can is k kind
            ∙ sym (parts (MakeAt c))
      ]
    ]

-- ---- what a step writes

-- what the step writes of the page at p, in the live pages, where it does not make it
abbrev pub wrote : View → Step → List ℕ → Kind → Bool
wrote d (ReadAt q) p k = false
wrote d (ListAt q) p k = false
wrote d (WriteAt q bytes) p Data = live (copies d) p && same p q
wrote d (WriteAt q bytes) p (Slot k) = false
wrote d (MakeAt c) p Data = false
wrote d (MakeAt c) p (Slot k) = (makes (copies d) c && same p c.0) && nat_eq k c.1
wrote d (DropAt c) p Data = false
wrote d (DropAt c) p (Slot k) = (is_there (copies d) c && same p c.0) && nat_eq k c.1

-- a page with a live child, or one that a make or a drop acts on, is live
pub there_above : (h : Copies) (c : List ℕ × ℕ) → is_there h c ≡ true → live h c.0 ≡ true
there_above h c e = by (h c.0) refl e
  where
    by : (o : Option PageCopy) → h c.0 ≡ o → option_map_or (λ (x : PageCopy). x.live && (live h (path_of c) || is_some (slot_block x.page c.1))) o false ≡ true → live h c.0 ≡ true
    by None at g = never g refl
    by (Some x) at g = ap (λ o. option_map_or (λ (x : PageCopy). x.live) o false) at ∙ first_so _ _ g

-- nothing is copied at p, so p is not the live path q
dead_apart : (d : View) (p q : List ℕ) → d p ≡ None → live (copies d) q ≡ true → same p q ≡ false
dead_apart d p q none here = false_if _ (λ e.
    sym (ap (λ (o : Option Copied). option_map_or (λ (c : PageCopy). c.live) (option_map (λ (c : Copied). record { live = c.live; page = c.page }) o) false) none)
    ∙ ap (live (copies d)) (same_is p q e) ∙ here)

wrote_taken : (d : View) (step : Step) (p : List ℕ) (k : Kind)
    → option_map_or (λ c. writes_kind c k) (option_map (taken (acts (copies d) step) step p) (d p)) false ≡ (did_write d p k || wrote d step p k)
wrote_taken d (ReadAt q) p Data = by (d p)
  where
    by : (o : Option Copied) → option_map_or (λ (c : Copied). c.written) (option_map (taken false (ReadAt q) p) o) false ≡ (option_map_or (λ (c : Copied). c.written) o false || false)
    by None = refl
    by (Some c) = ap (λ b. c.written || b) (and_false c.live)
wrote_taken d (ReadAt q) p (Slot k) = by (d p)
  where
    by : (o : Option Copied) → option_map_or (λ (c : Copied). has_bit c.page.modified k) (option_map (taken false (ReadAt q) p) o) false ≡ (option_map_or (λ (c : Copied). has_bit c.page.modified k) o false || false)
    by None = refl
    by (Some c) = sym (or_false _)
wrote_taken d (ListAt q) p Data = by (d p)
  where
    by : (o : Option Copied) → option_map_or (λ (c : Copied). c.written) (option_map (taken false (ListAt q) p) o) false ≡ (option_map_or (λ (c : Copied). c.written) o false || false)
    by None = refl
    by (Some c) = ap (λ b. c.written || b) (and_false c.live)
wrote_taken d (ListAt q) p (Slot k) = by (d p)
  where
    by : (o : Option Copied) → option_map_or (λ (c : Copied). has_bit c.page.modified k) (option_map (taken false (ListAt q) p) o) false ≡ (option_map_or (λ (c : Copied). has_bit c.page.modified k) o false || false)
    by None = refl
    by (Some c) = sym (or_false _)
wrote_taken d (WriteAt q bytes) p Data = by (d p)
  where
    by : (o : Option Copied) → option_map_or (λ (c : Copied). c.written) (option_map (taken false (WriteAt q bytes) p) o) false
        ≡ (option_map_or (λ (c : Copied). c.written) o false || (option_map_or (λ (c : PageCopy). c.live) (option_map (λ (c : Copied). record { live = c.live; page = c.page }) o) false && same p q))
    by None = refl
    by (Some c) = refl
wrote_taken d (WriteAt q bytes) p (Slot k) = by (d p)
  where
    by : (o : Option Copied) → option_map_or (λ (c : Copied). has_bit c.page.modified k) (option_map (taken false (WriteAt q bytes) p) o) false ≡ (option_map_or (λ (c : Copied). has_bit c.page.modified k) o false || false)
    by None = refl
    by (Some c) = sym (or_false _)
wrote_taken d (MakeAt x) p Data = by (d p)
  where
    by : (o : Option Copied) → option_map_or (λ (c : Copied). c.written) (option_map (taken (makes (copies d) x) (MakeAt x) p) o) false ≡ (option_map_or (λ (c : Copied). c.written) o false || false)
    by None = refl
    by (Some c) = ap (λ b. c.written || b) (and_false c.live)
wrote_taken d (MakeAt x) p (Slot k) = by (d p) refl
  where
    by : (o : Option Copied) → d p ≡ o → option_map_or (λ (c : Copied). has_bit c.page.modified k) (option_map (taken (makes (copies d) x) (MakeAt x) p) o) false
        ≡ (option_map_or (λ (c : Copied). has_bit c.page.modified k) o false || ((makes (copies d) x && same p x.0) && nat_eq k x.1))
    by None e = sym (ap (λ b. b && nat_eq k x.1) (false_if (makes (copies d) x && same p x.0)
        (λ g. sym (dead_apart d p x.0 e (first_so _ _ (first_so _ _ g))) ∙ second_so _ _ g)))
    by (Some c) e = modified_more (makes (copies d) x && same p x.0) c.page.modified x.1 k
wrote_taken d (DropAt x) p Data = by (d p)
  where
    by : (o : Option Copied) → option_map_or (λ (c : Copied). c.written) (option_map (taken (is_there (copies d) x) (DropAt x) p) o) false ≡ (option_map_or (λ (c : Copied). c.written) o false || false)
    by None = refl
    by (Some c) = ap (λ b. c.written || b) (and_false c.live)
wrote_taken d (DropAt x) p (Slot k) = by (d p) refl
  where
    by : (o : Option Copied) → d p ≡ o → option_map_or (λ (c : Copied). has_bit c.page.modified k) (option_map (taken (is_there (copies d) x) (DropAt x) p) o) false
        ≡ (option_map_or (λ (c : Copied). has_bit c.page.modified k) o false || ((is_there (copies d) x && same p x.0) && nat_eq k x.1))
    by None e = sym (ap (λ b. b && nat_eq k x.1) (false_if (is_there (copies d) x && same p x.0)
        (λ g. sym (dead_apart d p x.0 e (there_above (copies d) x (first_so _ _ g))) ∙ second_so _ _ g)))
    by (Some c) e = modified_more (is_there (copies d) x && same p x.0) c.page.modified x.1 k

-- the writes of a make that is done
abbrev pub made_places : List ℕ × ℕ → List Place
made_places c = slot_of c ∷ (path_of c, Data) ∷ slots_at (path_of c)

-- what a step that does not make the page at p writes there
wrote_is : (t : Tree) (d : View) (step : Step) → live (copies d) (end_of step) ≡ has t (end_of step)
    → ((c : List ℕ × ℕ) → step ≡ MakeAt c → makes (copies d) c ≡ can_make t c) → ((c : List ℕ × ℕ) → step ≡ DropAt c → is_there (copies d) c ≡ has t (path_of c))
    → (p : List ℕ) (k : Kind) → IsKind k → is_made (acts (copies d) step) step p ≡ false → is_among (step_writes t step) (p, k) ≡ wrote d step p k
wrote_is t d (ReadAt q) is makes_is there_is p k kind apart = refl
wrote_is t d (ListAt q) is makes_is there_is p k kind apart = refl
wrote_is t d (WriteAt q bytes) is makes_is there_is p Data kind apart = cond_data (has t q) q p ∙ shifted t (copies d) p q is
wrote_is t d (WriteAt q bytes) is makes_is there_is p (Slot k) kind apart = cond_no_slot (has t q) q p k
wrote_is t d (MakeAt c) is makes_is there_is p k kind apart = ap (λ b. is_among (cond b (made_places c) []) (p, k)) (sym (makes_is c refl)) ∙ by (makes (copies d) c) refl k kind
  where
    by : (b : Bool) → makes (copies d) c ≡ b → (k : Kind) → IsKind k → is_among (cond b (made_places c) []) (p, k) ≡ wrote d (MakeAt c) p k
    by false e Data kind = refl
    by false e (Slot k) kind = ap (λ b. (b && same p c.0) && nat_eq k c.1) (sym e)
    by true e Data kind =
        slot_no_data c p ((path_of c, Data) ∷ slots_at (path_of c))
        ∙ false_if _ (λ g. elim (among_told (path_of c, Data) (slots_at (path_of c)) (p, Data) g) [
          | inl is ↦ sym (ap (λ b. b && same p (path_of c)) (sym e) ∙ apart) ∙ (ap (λ (x : Place). same p x.0) (sym is) ∙ same_self p)
          | inr at ↦ sym (data_at (path_of c) p) ∙ at
        ])
    by true e (Slot k) kind =
        first_slot c p k ((path_of c, Data) ∷ slots_at (path_of c))
        ∙ ap (λ b. (same p c.0 && nat_eq k c.1) || b)
        (data_no_slot (path_of c) p k (slots_at (path_of c)) ∙ slot_at (path_of c) p k
        ∙ ap (λ b. b && nat_lt k 16) (ap (λ b. b && same p (path_of c)) (sym e) ∙ apart))
        ∙ or_false (same p c.0 && nat_eq k c.1)
        ∙ ap (λ b. (b && same p c.0) && nat_eq k c.1) (sym e)
wrote_is t d (DropAt c) is makes_is there_is p k kind apart = ap (λ b. is_among (cond b (slot_of c ∷ []) []) (p, k)) (sym (there_is c refl)) ∙ by (is_there (copies d) c) refl k
  where
    by : (b : Bool) → is_there (copies d) c ≡ b → (k : Kind) → is_among (cond b (slot_of c ∷ []) []) (p, k) ≡ wrote d (DropAt c) p k
    by false e Data = refl
    by false e (Slot k) = ap (λ b. (b && same p c.0) && nat_eq k c.1) (sym e)
    by true e Data = slot_no_data c p []
    by true e (Slot k) = first_slot c p k [] ∙ or_false (same p c.0 && nat_eq k c.1) ∙ ap (λ b. (b && same p c.0) && nat_eq k c.1) (sym e)

pub written_told : (store : Store) (root : ℕ) (a t : Tree) (r w : List Place) (d : View) → Holds store root a → Stands store root a t r w d
    → (step : Step) → WantsNone (copies d) (end_of step) → (p : List ℕ) (k : Kind) → IsKind k
    → did_write (stepped d step) p k ≡ is_among (w ++ step_writes t step) (p, k)
written_told store root a t r w d base S step none p k kind = by (told (is_made (acts (copies d) step) step p)) ∙ sym (among_append w (step_writes t step) (p, k))
  where
    is : (q : List ℕ) → is_prefix q (end_of step) ≡ true → live (copies d) q ≡ has t q
    is = way_told store root a t w (copies d) S.shape (end_of step) none

    at_end : (c : List ℕ × ℕ) → end_of step ≡ c.0 → live (copies d) c.0 ≡ has t c.0
    at_end c e = is c.0 (ap (is_prefix c.0) e ∙ prefix_self c.0)

    makes_is : (c : List ℕ × ℕ) → step ≡ MakeAt c → makes (copies d) c ≡ can_make t c
    makes_is c e = makes_told store root a t w (copies d) base S.shape c (at_end c (ap end_of e))

    there_is : (c : List ℕ × ℕ) → step ≡ DropAt c → is_there (copies d) c ≡ has t (path_of c)
    there_is c e = child_told store root a t w (copies d) base S.shape c (at_end c (ap end_of e))

    -- the page that a make makes has its data and all its slots written
    fresh : (s : Step) → step ≡ s → is_made (acts (copies d) s) s p ≡ true → (k : Kind) → IsKind k
        → (writes_kind (made (length p) (d p)) k ≡ true) × (is_among (step_writes t s) (p, k) ≡ true)
    fresh (ReadAt q) e g k kind = never g refl
    fresh (ListAt q) e g k kind = never g refl
    fresh (WriteAt q bytes) e g k kind = never g refl
    fresh (DropAt c) e g k kind = never g refl
    fresh (MakeAt c) e g k kind = (wrote_all k kind, ap (λ b. is_among (cond b (made_places c) []) (p, k)) (sym (makes_is c e) ∙ first_so _ _ g) ∙ among_made k kind)
      where
        wrote_all : (k : Kind) → IsKind k → writes_kind (made (length p) (d p)) k ≡ true
        wrote_all Data kind = refl
        wrote_all (Slot j) kind = has_bit_all j kind

        at : p ≡ path_of c
        at = same_is p (path_of c) (second_so (makes (copies d) c) (same p (path_of c)) g)

        among_made : (k : Kind) → IsKind k → is_among (made_places c) (p, k) ≡ true
        among_made Data kind =
            ap (λ (x : List ℕ). is_among (made_places c) (x, Data)) at
            ∙ among_later (slot_of c) ((path_of c, Data) ∷ slots_at (path_of c)) (path_of c, Data) (among_first (path_of c, Data) (slots_at (path_of c)))
        among_made (Slot j) kind =
            ap (λ (x : List ℕ). is_among (made_places c) (x, Slot j)) at
            ∙ among_later (slot_of c) ((path_of c, Data) ∷ slots_at (path_of c)) (path_of c, Slot j)
            (among_later (path_of c, Data) (slots_at (path_of c)) (path_of c, Slot j) (slots_among (path_of c) j kind))

    by : (is_made (acts (copies d) step) step p ≡ true) ⊎ (is_made (acts (copies d) step) step p ≡ false)
        → did_write (stepped d step) p k ≡ (is_among w (p, k) || is_among (step_writes t step) (p, k))
    by (inl e) =
        let both = fresh step refl e k kind in
        ap (λ b. option_map_or (λ (x : Copied). writes_kind x k) (cond b (Some (made (length p) (d p))) (option_map (taken (acts (copies d) step) step p) (d p))) false) e
        ∙ both.0 ∙ sym (or_right (is_among w (p, k)) _ both.1)
    by (inr e) =
        ap (λ b. option_map_or (λ (x : Copied). writes_kind x k) (cond b (Some (made (length p) (d p))) (option_map (taken (acts (copies d) step) step p) (d p))) false) e
        ∙ wrote_taken d step p k
        ∙ (λ i. S.written p k kind i || sym (wrote_is t d step (is (end_of step) (prefix_self (end_of step))) makes_is there_is p k kind e) i)
