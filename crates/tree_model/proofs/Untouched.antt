-- What an update leaves alone: below a page at or below which it wrote nothing the tree is as in the base; a page whose data
-- it did not write has the base's data; and a slot that it did not write has a page below it where the base has one.
-- Each holds of a page that is there after the update, which then was there before it.
use Rattle.std.proofs.Common.{◌≡◌, ℕ, ◌<◌, Bool, true, false, not, ◌&&◌, ◌||◌, cond, List, [], ◌∷◌, ◌++◌, ◌⊎◌, inl, inr, refl, sym, ap, subst, ◌∙◌, Some, None, is_some, true≢false, eqb-true, eq-eqb}
use Rattle.std.specs.Cmp.{first_so, second_so}
use Rattle.std.specs.FinMap as map
use Rattle.std.proofs.lemmas.List.Folds.{list_any-append}
use Rattle.afs_base.specs.Path.{is_prefix}
use Rattle.afs_base.specs.declared.kind.Kind.TheVariants.{Data, Slot}
use Rattle.tree_model.specs.declared.step.Step.{Step}
use Rattle.tree_model.specs.declared.step.Step.TheVariants.{ReadAt, ListAt, WriteAt, MakeAt, DropAt}
use Rattle.tree_model.specs.Trees.{Tree, has, path_of, can_make, without, after, tree_after}
use Rattle.tree_model.specs.Accesses.{Place, is_among, slot_of, slots_at, step_writes, all_writes, touches}
use Rattle.tree_model.proofs.Paths.{told, never, both_true, or_left, or_right, same, path_told, prefix_self, prefix_append, prefix_child, child_above, false_if}
use Rattle.tree_model.proofs.TreeFacts.{get_insert, get_without, has_insert, has_without, had}
use Rattle.tree_model.proofs.PlaceFacts.{among_left, among_right, among_first, among_later, among_told, slots_among}
use Rattle.tree_model.proofs.Theirs.{way_child}

-- two prefixes of one path are prefixes of one another
pub prefix_either : (p q r : List ℕ) → is_prefix p r ≡ true → is_prefix q r ≡ true → (is_prefix p q ≡ true) ⊎ (is_prefix q p ≡ true)
prefix_either [] q r h g = inl refl
prefix_either (s ∷ p) [] r h g = inr refl
prefix_either (s ∷ p) (t ∷ q) [] h g = absurd (true≢false (sym h))
prefix_either (s ∷ p) (t ∷ q) (u ∷ r) h g =
    let e = eqb-true s u (first_so _ _ h) ∙ sym (eqb-true t u (first_so _ _ g)) in
    elim (prefix_either p q r (second_so _ _ h) (second_so _ _ g)) [
      | inl a ↦ inl (both_true _ _ (eq-eqb s t e) a)
      | inr a ↦ inr (both_true _ _ (eq-eqb t s (sym e)) a)
    ]

-- ---- one step

-- the writes of a make that is done
abbrev made : List ℕ × ℕ → List Place
made c = slot_of c ∷ (path_of c, Data) ∷ slots_at (path_of c)

-- a page that a step brings has its data and all its slots written
comes : (t : Tree) (step : Step) (q : List ℕ) → has t q ≡ false → has (after t step) q ≡ true
    → (is_among (step_writes t step) (q, Data) ≡ true) × ((k : ℕ) → k < 16 → is_among (step_writes t step) (q, Slot k) ≡ true)
comes t (ReadAt p) q was is = never is was
comes t (ListAt p) q was is = never is was
comes t (WriteAt p bytes) q was is = by (told (has t p))
  where
    by : (has t p ≡ true) ⊎ (has t p ≡ false)
        → (is_among (step_writes t (WriteAt p bytes)) (q, Data) ≡ true) × ((k : ℕ) → k < 16 → is_among (step_writes t (WriteAt p bytes)) (q, Slot k) ≡ true)
    by (inl e) = elim (had t p bytes q (ap (λ b. has (cond b (map.insert t p bytes) t) q) (sym e) ∙ is)) [
      | inl g ↦ never (ap (has t) g ∙ e) was
      | inr g ↦ never g was
    ]
    by (inr e) = never (ap (λ b. has (cond b (map.insert t p bytes) t) q) (sym e) ∙ is) was
comes t (MakeAt c) q was is = by (told (can_make t c))
  where
    by : (can_make t c ≡ true) ⊎ (can_make t c ≡ false)
        → (is_among (step_writes t (MakeAt c)) (q, Data) ≡ true) × ((k : ℕ) → k < 16 → is_among (step_writes t (MakeAt c)) (q, Slot k) ≡ true)
    by (inl e) = elim (had t (path_of c) [] q (ap (λ b. has (cond b (map.insert t (path_of c) []) t) q) (sym e) ∙ is)) [
      | inl g ↦
          let F : List ℕ → Type 0 = λ x. (is_among (made c) (x, Data) ≡ true) × ((k : ℕ) → k < 16 → is_among (made c) (x, Slot k) ≡ true) in
          let G : Bool → Type 0 = λ b. (is_among (cond b (made c) []) (q, Data) ≡ true) × ((k : ℕ) → k < 16 → is_among (cond b (made c) []) (q, Slot k) ≡ true) in
          subst G (sym e) (subst F (sym g) (
            among_later (slot_of c) ((path_of c, Data) ∷ slots_at (path_of c)) (path_of c, Data) (among_first (path_of c, Data) (slots_at (path_of c))),
            λ k h. among_later (slot_of c) ((path_of c, Data) ∷ slots_at (path_of c)) (path_of c, Slot k)
                (among_later (path_of c, Data) (slots_at (path_of c)) (path_of c, Slot k) (slots_among (path_of c) k h)),
          ))
      | inr g ↦ never g was
    ]
    by (inr e) = never (ap (λ b. has (cond b (map.insert t (path_of c) []) t) q) (sym e) ∙ is) was
comes t (DropAt c) q was is = by (told (has t (path_of c)))
  where
    by : (has t (path_of c) ≡ true) ⊎ (has t (path_of c) ≡ false)
        → (is_among (step_writes t (DropAt c)) (q, Data) ≡ true) × ((k : ℕ) → k < 16 → is_among (step_writes t (DropAt c)) (q, Slot k) ≡ true)
    by (inl e) = never (second_so (not (is_prefix (path_of c) q)) (has t q)
        (sym (has_without t (path_of c) q) ∙ ap (λ b. has (cond b (without t (path_of c)) t) q) (sym e) ∙ is)) was
    by (inr e) = never (ap (λ b. has (cond b (without t (path_of c)) t) q) (sym e) ∙ is) was

-- at a path that a step does not put, and does not take away, the tree stays as it was
abbrev IsPassed : Tree → Step → List ℕ → Type 0
IsPassed t (ReadAt p) q = Unit {0}
IsPassed t (ListAt p) q = Unit {0}
IsPassed t (WriteAt p bytes) q = has t p ≡ true → q ≡ p → ⊥
IsPassed t (MakeAt c) q = can_make t c ≡ true → q ≡ path_of c → ⊥
IsPassed t (DropAt c) q = has t (path_of c) ≡ true → is_prefix (path_of c) q ≡ true → ⊥

passed : (t : Tree) (step : Step) (q : List ℕ) → IsPassed t step q → map.get (after t step) q ≡ map.get t q
passed t (ReadAt p) q h = refl
passed t (ListAt p) q h = refl
passed t (WriteAt p bytes) q h = by (told (has t p))
  where
    by : (has t p ≡ true) ⊎ (has t p ≡ false) → map.get (after t (WriteAt p bytes)) q ≡ map.get t q
    by (inl e) = ap (λ b. map.get (cond b (map.insert t p bytes) t) q) e ∙ get_insert t p bytes q
        ∙ elim (path_told q p) as (λ x. cond (same q p) (Some bytes) (map.get t q) ≡ map.get t q) [
          | inl g ↦ absurd (h e g)
          | inr g ↦ ap (λ b. cond b (Some bytes) (map.get t q)) g
        ]
    by (inr e) = ap (λ b. map.get (cond b (map.insert t p bytes) t) q) e
passed t (MakeAt c) q h = by (told (can_make t c))
  where
    by : (can_make t c ≡ true) ⊎ (can_make t c ≡ false) → map.get (after t (MakeAt c)) q ≡ map.get t q
    by (inl e) = ap (λ b. map.get (cond b (map.insert t (path_of c) []) t) q) e ∙ get_insert t (path_of c) [] q
        ∙ elim (path_told q (path_of c)) as (λ x. cond (same q (path_of c)) (Some []) (map.get t q) ≡ map.get t q) [
          | inl g ↦ absurd (h e g)
          | inr g ↦ ap (λ b. cond b (Some []) (map.get t q)) g
        ]
    by (inr e) = ap (λ b. map.get (cond b (map.insert t (path_of c) []) t) q) e
passed t (DropAt c) q h = by (told (has t (path_of c)))
  where
    by : (has t (path_of c) ≡ true) ⊎ (has t (path_of c) ≡ false) → map.get (after t (DropAt c)) q ≡ map.get t q
    by (inl e) = ap (λ b. map.get (cond b (without t (path_of c)) t) q) e ∙ get_without t (path_of c) q
        ∙ elim (told (is_prefix (path_of c) q)) as (λ x. cond (not (is_prefix (path_of c) q)) (map.get t q) None ≡ map.get t q) [
          | inl g ↦ absurd (h e g)
          | inr g ↦ ap (λ b. cond (not b) (map.get t q) None) g
        ]
    by (inr e) = ap (λ b. map.get (cond b (without t (path_of c)) t) q) e

-- a page that a step takes away is not there after it
taken_away : (t : Tree) (c : List ℕ × ℕ) (q : List ℕ) → has t (path_of c) ≡ true → is_prefix (path_of c) q ≡ true → has (after t (DropAt c)) q ≡ false
taken_away t c q e h =
    ap (λ b. has (cond b (without t (path_of c)) t) q) e ∙ has_without t (path_of c) q ∙ ap (λ b. not b && has t q) h

-- the writes of a step that is done
done : (b : Bool) (places : List Place) (x : Place) → b ≡ true → is_among places x ≡ true → is_among (cond b places []) x ≡ true
done b places x e h = let F : Bool → Type 0 = λ c. is_among (cond c places []) x ≡ true in subst F (sym e) h

step_data : (t : Tree) (step : Step) (q : List ℕ) → has (after t step) q ≡ true → is_among (step_writes t step) (q, Data) ≡ false → map.get (after t step) q ≡ map.get t q
step_data t step q there unwritten = passed t step q (by step there unwritten)
  where
    by : (step : Step) → has (after t step) q ≡ true → is_among (step_writes t step) (q, Data) ≡ false → IsPassed t step q
    by (ReadAt p) there h = tt
    by (ListAt p) there h = tt
    by (WriteAt p bytes) there h = λ e g.
        never (done (has t p) ((p, Data) ∷ []) (q, Data) e (ap (λ (x : List ℕ). is_among ((p, Data) ∷ []) (x, Data)) g ∙ among_first (p, Data) [])) h
    by (MakeAt c) there h = λ e g.
        never (done (can_make t c) (made c) (q, Data) e (ap (λ (x : List ℕ). is_among (made c) (x, Data)) g
        ∙ among_later (slot_of c) ((path_of c, Data) ∷ slots_at (path_of c)) (path_of c, Data) (among_first (path_of c, Data) (slots_at (path_of c))))) h
    by (DropAt c) there h = λ e g. never there (taken_away t c q e g)

step_slot : (t : Tree) (step : Step) (q : List ℕ) (k : ℕ) → has (after t step) q ≡ true → is_among (step_writes t step) (q, Slot k) ≡ false
    → has (after t step) (q ++ k ∷ []) ≡ has t (q ++ k ∷ [])
step_slot t (ReadAt p) q k there h = refl
step_slot t (ListAt p) q k there h = refl
step_slot t (WriteAt p bytes) q k there h = by (told (has t p))
  where
    by : (has t p ≡ true) ⊎ (has t p ≡ false) → has (after t (WriteAt p bytes)) (q ++ k ∷ []) ≡ has t (q ++ k ∷ [])
    by (inl e) = ap (λ b. has (cond b (map.insert t p bytes) t) (q ++ k ∷ [])) e ∙ has_insert t p bytes (q ++ k ∷ [])
        ∙ elim (path_told (q ++ k ∷ []) p) as (λ x. (same (q ++ k ∷ []) p || has t (q ++ k ∷ [])) ≡ has t (q ++ k ∷ [])) [
          | inl g ↦ or_right (same (q ++ k ∷ []) p) (has t (q ++ k ∷ [])) (ap (has t) g ∙ e) ∙ sym (ap (has t) g ∙ e)
          | inr g ↦ ap (λ b. b || has t (q ++ k ∷ [])) g
        ]
    by (inr e) = ap (λ b. has (cond b (map.insert t p bytes) t) (q ++ k ∷ [])) e
step_slot t (MakeAt c) q k there h = ap is_some (passed t (MakeAt c) (q ++ k ∷ []) (λ e g. by e (way_child c q k (ap (is_prefix (path_of c)) g ∙ prefix_self (path_of c))) g))
  where
    by : can_make t c ≡ true → ((c.0 ≡ q) × (c.1 ≡ k)) ⊎ (is_prefix (path_of c) q ≡ true) → q ++ k ∷ [] ≡ path_of c → ⊥
    by e (inl is) g = never (done (can_make t c) (made c) (q, Slot k) e
        (ap (is_among (made c)) (let is' : ◌≡◌ {A = Place} (q, Slot k) (slot_of c) = λ i. (sym is.0 i, Slot (sym is.1 i)) in is')
        ∙ among_first (slot_of c) ((path_of c, Data) ∷ slots_at (path_of c)))) h
    by e (inr above) g = never (ap (λ (x : List ℕ). is_prefix x q) g ∙ above) (child_above q k)
step_slot t (DropAt c) q k there h = ap is_some (passed t (DropAt c) (q ++ k ∷ []) (λ e g. by e (way_child c q k g)))
  where
    by : has t (path_of c) ≡ true → ((c.0 ≡ q) × (c.1 ≡ k)) ⊎ (is_prefix (path_of c) q ≡ true) → ⊥
    by e (inl is) = never (done (has t (path_of c)) (slot_of c ∷ []) (q, Slot k) e
        (ap (is_among (slot_of c ∷ [])) (let is' : ◌≡◌ {A = Place} (q, Slot k) (slot_of c) = λ i. (sym is.0 i, Slot (sym is.1 i)) in is')
        ∙ among_first (slot_of c) [])) h
    by e (inr above) = never there (taken_away t c q e above)

-- the writes of a step that is done touch what they touch
done_touch : (b : Bool) (places : List Place) (q : List ℕ) → b ≡ true → touches places q ≡ true → touches (cond b places []) q ≡ true
done_touch b places q e h = let F : Bool → Type 0 = λ c. touches (cond c places []) q ≡ true in subst F (sym e) h

step_below : (t : Tree) (step : Step) (q r : List ℕ) → has (after t step) q ≡ true → touches (step_writes t step) q ≡ false
    → map.get (after t step) (q ++ r) ≡ map.get t (q ++ r)
step_below t step q r there untouched = passed t step (q ++ r) (by step there untouched)
  where
    by : (step : Step) → has (after t step) q ≡ true → touches (step_writes t step) q ≡ false → IsPassed t step (q ++ r)
    by (ReadAt p) there h = tt
    by (ListAt p) there h = tt
    by (WriteAt p bytes) there h = λ e g.
        never (done_touch (has t p) ((p, Data) ∷ []) q e (or_left (is_prefix q p) false (ap (is_prefix q) (sym g) ∙ prefix_append q r))) h
    by (MakeAt c) there h = λ e g.
        never (done_touch (can_make t c) (made c) q e
        (or_right (is_prefix q c.0) (touches ((path_of c, Data) ∷ slots_at (path_of c)) q)
        (or_left (is_prefix q (path_of c)) (touches (slots_at (path_of c)) q) (ap (is_prefix q) (sym g) ∙ prefix_append q r)))) h
    by (DropAt c) there h = λ e g. elim (prefix_either (path_of c) q (q ++ r) g (prefix_append q r)) [
      | inl above ↦ never there (taken_away t c q e above)
      | inr below ↦ elim (prefix_child q c.0 c.1 below) [
        | inl is ↦ never there (taken_away t c q e (ap (is_prefix (path_of c)) is ∙ prefix_self (path_of c)))
        | inr up ↦ never (done_touch (has t (path_of c)) (slot_of c ∷ []) q e (or_left (is_prefix q c.0) false up)) h
      ]
    ]

-- ---- all steps

-- what each step keeps of a page that stays, all the steps keep, where none of them can bring the page
run_kept : (R : Tree → Tree → Type 0) (Fine : List Place → Type 0) (q : List ℕ)
    → ((t : Tree) → R t t) → ((t u v : Tree) → R t u → R u v → R t v)
    → ((xs ys : List Place) → Fine (xs ++ ys) → Fine xs × Fine ys)
    → ((t : Tree) (step : Step) → has (after t step) q ≡ true → Fine (step_writes t step) → R t (after t step))
    → ((t : Tree) (step : Step) → has t q ≡ false → has (after t step) q ≡ true → Fine (step_writes t step) → ⊥)
    → (t : Tree) (steps : List Step) → has (tree_after t steps) q ≡ true → Fine (all_writes t steps) → (has t q ≡ true) × R t (tree_after t steps)
run_kept R Fine q itself then parts keeps brings t [] there fine = (there, itself t)
run_kept R Fine q itself then parts keeps brings t (step ∷ steps) there fine =
    let each = parts (step_writes t step) (all_writes (after t step) steps) fine in
    let rest = run_kept R Fine q itself then parts keeps brings (after t step) steps there each.1 in
    elim (told (has t q)) [
      | inl e ↦ (e, then t (after t step) (tree_after (after t step) steps) (keeps t step rest.0 each.0) rest.1)
      | inr e ↦ absurd (brings t step e rest.0 each.0)
    ]

not_among_parts : (x : Place) (xs ys : List Place) → is_among (xs ++ ys) x ≡ false → (is_among xs x ≡ false) × (is_among ys x ≡ false)
not_among_parts x xs ys h = (false_if _ (λ e. sym h ∙ among_left xs ys x e), false_if _ (λ e. sym h ∙ among_right xs ys x e))

not_touched_parts : (q : List ℕ) (xs ys : List Place) → touches (xs ++ ys) q ≡ false → (touches xs q ≡ false) × (touches ys q ≡ false)
not_touched_parts q xs ys h = (
  false_if _ (λ e. sym h ∙ list_any-append (λ (x : Place). is_prefix q x.0) xs ys ∙ or_left _ _ e),
  false_if _ (λ e. sym h ∙ list_any-append (λ (x : Place). is_prefix q x.0) xs ys ∙ or_right _ _ e),
)

-- a place on a page touches the page
pub among_touches : (xs : List Place) (q : List ℕ) (x : Place) → x.0 ≡ q → is_among xs x ≡ true → touches xs q ≡ true
among_touches [] q x is h = h
among_touches (y ∷ xs) q x is h = elim (among_told y xs x h) [
  | inl e ↦ or_left (is_prefix q y.0) (touches xs q) (ap (is_prefix q) (ap (λ (z : Place). z.0) (sym e) ∙ is) ∙ prefix_self q)
  | inr e ↦ or_right (is_prefix q y.0) (touches xs q) (among_touches xs q x is e)
]

-- a page that is there in the end, and whose data was not written, has the data of the base
pub unwritten_run : (t : Tree) (steps : List Step) (q : List ℕ) → has (tree_after t steps) q ≡ true → is_among (all_writes t steps) (q, Data) ≡ false
    → (has t q ≡ true) × (map.get (tree_after t steps) q ≡ map.get t q)
unwritten_run t steps q there h =
    run_kept (λ v w. map.get w q ≡ map.get v q) (λ xs. is_among xs (q, Data) ≡ false) q (λ v. refl) (λ v w x e g. g ∙ e)
    (not_among_parts (q, Data)) (λ v step now fine. step_data v step q now fine) (λ v step was now fine. never (comes v step q was now).0 fine) t steps there h

-- a slot, of a page that is there in the end, that was not written has a page below it where the base has one
pub untouched_slot : (t : Tree) (steps : List Step) (q : List ℕ) (k : ℕ) → k < 16 → has (tree_after t steps) q ≡ true → is_among (all_writes t steps) (q, Slot k) ≡ false
    → (has t q ≡ true) × (has (tree_after t steps) (q ++ k ∷ []) ≡ has t (q ++ k ∷ []))
untouched_slot t steps q k small there h =
    run_kept (λ v w. has w (q ++ k ∷ []) ≡ has v (q ++ k ∷ [])) (λ xs. is_among xs (q, Slot k) ≡ false) q (λ v. refl) (λ v w x e g. g ∙ e)
    (not_among_parts (q, Slot k)) (λ v step now fine. step_slot v step q k now fine) (λ v step was now fine. never ((comes v step q was now).1 k small) fine) t steps there h

-- below a page that is there in the end, and at or below which nothing was written, the tree is as in the base
pub untouched_run : (t : Tree) (steps : List Step) (q : List ℕ) → has (tree_after t steps) q ≡ true → touches (all_writes t steps) q ≡ false
    → (has t q ≡ true) × ((r : List ℕ) → map.get (tree_after t steps) (q ++ r) ≡ map.get t (q ++ r))
untouched_run t steps q there h =
    run_kept (λ v w. (r : List ℕ) → map.get w (q ++ r) ≡ map.get v (q ++ r)) (λ xs. touches xs q ≡ false) q (λ v r. refl) (λ v w x e g r. g r ∙ e r)
    (not_touched_parts q) (λ v step now fine r. step_below v step q r now fine)
    (λ v step was now fine. never (among_touches (step_writes v step) q (q, Data) refl (comes v step q was now).0) fine) t steps there h
