-- What an update leaves as it was: each path to which none of its visible slot writes leads.
use Rattle.std.proofs.Common.{◌≡◌, ℕ, Bool, true, false, not, ◌&&◌, ◌||◌, cond, List, [], ◌∷◌, ◌++◌, ◌⊎◌, inl, inr, refl, sym, ap, subst, ◌∙◌, Some, None, is_some, append_assoc, append-nil, eqb-true, true≢false}
use Rattle.std.specs.Cmp.{first_so, second_so}
use Rattle.std.specs.FinMap as map
use Rattle.afs_base.specs.Path.{is_prefix}
use Rattle.afs_base.specs.declared.kind.Kind.TheVariants.{Data, Slot}
use Rattle.tree_model.specs.declared.step.Step.{Step}
use Rattle.tree_model.specs.declared.step.Step.TheVariants.{ReadAt, ListAt, WriteAt, MakeAt, DropAt}
use Rattle.tree_model.specs.Trees.{Tree, has, IsTree, path_of, can_make, without, after, tree_after}
use Rattle.tree_model.specs.Accesses.{Place, is_among, slot_of, slots_at, step_writes, all_writes}
use Rattle.tree_model.proofs.Paths.{told, never, both_true, same, same_self, path_told, prefix_self, prefix_above, prefix_append, child_not_root, false_if}
use Rattle.tree_model.proofs.TreeFacts.{get_insert, get_without, has_insert, absent, tree_steps}
use Rattle.tree_model.proofs.PlaceFacts.{Way, among_left, among_right, among_first}

-- a prefix of a child's path that is the path of a child: the child itself, or one on the way to the page above
pub way_child : (c : Way) (q : List ℕ) (k : ℕ) → is_prefix (path_of c) (q ++ k ∷ []) ≡ true → ((c.0 ≡ q) × (c.1 ≡ k)) ⊎ (is_prefix (path_of c) q ≡ true)
way_child c q k h = by c.0 c.1 q h
  where
    by : (p : List ℕ) (s : ℕ) (q : List ℕ) → is_prefix (p ++ s ∷ []) (q ++ k ∷ []) ≡ true → ((p ≡ q) × (s ≡ k)) ⊎ (is_prefix (p ++ s ∷ []) q ≡ true)
    by [] s [] h = inl (refl, eqb-true s k (first_so _ _ h))
    by [] s (u ∷ q) h = inr (both_true _ _ (first_so _ _ h) refl)
    by (t ∷ []) s [] h = absurd (true≢false (sym (second_so _ _ h)))
    by (t ∷ u ∷ p) s [] h = absurd (true≢false (sym (second_so _ _ h)))
    by (t ∷ p) s (u ∷ q) h =
        let e = eqb-true t u (first_so _ _ h) in
        elim (by p s q (second_so _ _ h)) [
          | inl g ↦ inl ((λ i. e i ∷ g.0 i), g.1)
          | inr g ↦ inr (both_true _ _ (first_so _ _ h) g)
        ]

-- no slot on the way to a path is among these places
abbrev pub IsClear : List Place → List ℕ → Type 0
IsClear places p = (c : Way) → is_prefix (path_of c) p ≡ true → is_among places (slot_of c) ≡ false

-- at this path the tree is as before, but for its data where that was written
abbrev pub IsLeft : Tree → Tree → List Place → List ℕ → Type 0
IsLeft t u places p = (map.get u p ≡ map.get t p) ⊎ ((is_among places (p, Data) ≡ true) × (has t p ≡ true) × (has u p ≡ true))

abbrev test_of : Bool → List Place → List Place
test_of b places = cond b places []

-- one step leaves each path to which none of its slot writes leads
pub step_left : (t : Tree) (step : Step) (p : List ℕ) → IsClear (step_writes t step) p → IsLeft t (after t step) (step_writes t step) p
step_left t (ReadAt q) p clear = inl refl
step_left t (ListAt q) p clear = inl refl
step_left t (WriteAt q bytes) p clear = by (told (has t q))
  where
    by : (has t q ≡ true) ⊎ (has t q ≡ false) → IsLeft t (after t (WriteAt q bytes)) (step_writes t (WriteAt q bytes)) p
    by (inl e) =
        let F : Bool → Type 0 = λ b. IsLeft t (cond b (map.insert t q bytes) t) (test_of b ((q, Data) ∷ [])) p in
        let written : IsLeft t (map.insert t q bytes) ((q, Data) ∷ []) p =
        elim (path_told p q) [
          | inl is ↦ inr (
            ap (λ (x : List ℕ). is_among ((q, Data) ∷ []) (x, Data)) is ∙ among_first (q, Data) [],
            ap (has t) is ∙ e,
            has_insert t q bytes p ∙ ap (λ (x : List ℕ). same x q || has t p) is ∙ ap (λ b. b || has t p) (same_self q),
          )
          | inr apart ↦ inl (get_insert t q bytes p ∙ ap (λ b. cond b (Some bytes) (map.get t p)) apart)
        ] in
        subst F (sym e) written
    by (inr e) =
        let F : Bool → Type 0 = λ b. IsLeft t (cond b (map.insert t q bytes) t) (test_of b ((q, Data) ∷ [])) p in
        subst F (sym e) (inl refl)
step_left t (MakeAt c) p clear = by (told (can_make t c))
  where
    by : (can_make t c ≡ true) ⊎ (can_make t c ≡ false) → IsLeft t (after t (MakeAt c)) (step_writes t (MakeAt c)) p
    by (inl e) =
        let F : Bool → Type 0 = λ b. IsLeft t (cond b (map.insert t (path_of c) []) t) (test_of b (slot_of c ∷ (path_of c, Data) ∷ slots_at (path_of c))) p in
        let clear' : IsClear (slot_of c ∷ (path_of c, Data) ∷ slots_at (path_of c)) p =
        let G : Bool → Type 0 = λ b. IsClear (test_of b (slot_of c ∷ (path_of c, Data) ∷ slots_at (path_of c))) p in subst G e clear in
        subst F (sym e) (elim (path_told p (path_of c)) [
          | inl is ↦ never (among_first (slot_of c) ((path_of c, Data) ∷ slots_at (path_of c)))
              (clear' c (ap (is_prefix (path_of c)) is ∙ prefix_self (path_of c)))
          | inr apart ↦ inl (get_insert t (path_of c) [] p ∙ ap (λ b. cond b (Some []) (map.get t p)) apart)
        ])
    by (inr e) =
        let F : Bool → Type 0 = λ b. IsLeft t (cond b (map.insert t (path_of c) []) t) (test_of b (slot_of c ∷ (path_of c, Data) ∷ slots_at (path_of c))) p in
        subst F (sym e) (inl refl)
step_left t (DropAt c) p clear = by (told (has t (path_of c)))
  where
    by : (has t (path_of c) ≡ true) ⊎ (has t (path_of c) ≡ false) → IsLeft t (after t (DropAt c)) (step_writes t (DropAt c)) p
    by (inl e) =
        let F : Bool → Type 0 = λ b. IsLeft t (cond b (without t (path_of c)) t) (test_of b (slot_of c ∷ [])) p in
        let clear' : IsClear (slot_of c ∷ []) p =
        let G : Bool → Type 0 = λ b. IsClear (test_of b (slot_of c ∷ [])) p in subst G e clear in
        subst F (sym e) (elim (told (is_prefix (path_of c) p)) [
          | inl below ↦ never (among_first (slot_of c) []) (clear' c below)
          | inr apart ↦ inl (get_without t (path_of c) p ∙ ap (λ b. cond (not b) (map.get t p) None) apart)
        ])
    by (inr e) =
        let F : Bool → Type 0 = λ b. IsLeft t (cond b (without t (path_of c)) t) (test_of b (slot_of c ∷ [])) p in
        subst F (sym e) (inl refl)

-- so do all the steps of an update
pub steps_left : (t : Tree) (steps : List Step) (p : List ℕ) → IsClear (all_writes t steps) p → IsLeft t (tree_after t steps) (all_writes t steps) p
steps_left t [] p clear = inl refl
steps_left t (step ∷ steps) p clear =
    let now = step_writes t step in
    let later = all_writes (after t step) steps in
    let first = step_left t step p (λ c h. false_if _ (λ e. sym (clear c h) ∙ among_left now later (slot_of c) e)) in
    let rest = steps_left (after t step) steps p (λ c h. false_if _ (λ e. sym (clear c h) ∙ among_right now later (slot_of c) e)) in
    joined first rest
  where
    joined : IsLeft t (after t step) (step_writes t step) p → IsLeft (after t step) (tree_after (after t step) steps) (all_writes (after t step) steps) p
        → IsLeft t (tree_after (after t step) steps) (step_writes t step ++ all_writes (after t step) steps) p
    joined (inl e) (inl g) = inl (g ∙ e)
    joined (inl e) (inr g) = inr (among_right (step_writes t step) _ (p, Data) g.0, sym (ap is_some e) ∙ g.1, g.2)
    joined (inr e) (inl g) = inr (among_left (step_writes t step) _ (p, Data) e.0, e.1, ap is_some g ∙ e.2)
    joined (inr e) (inr g) = inr (among_left (step_writes t step) _ (p, Data) e.0, e.1, g.2)

-- ---- seen from the tree after the update

-- the writes that are seen there
abbrev pub seen : Tree → List Place → Place → Bool
seen u places x = is_among places x && has u x.0

-- no slot on the way to a path is seen
abbrev pub IsUnseen : Tree → List Place → List ℕ → Type 0
IsUnseen u places p = (c : Way) → is_prefix (path_of c) p ≡ true → seen u places (slot_of c) ≡ false

-- a page is there as before, with the same data where no write of it is seen
pub record IsSpared (t u : Tree) (places : List Place) (p : List ℕ) : Type 0 where
  pub there : has u p ≡ has t p
  pub bytes : seen u places (p, Data) ≡ false → map.get u p ≡ map.get t p

pub not_there : (t : Tree) (q : List ℕ) (k : ℕ) → IsTree t → has t q ≡ false → has t (q ++ k ∷ []) ≡ false
not_there t q k tree gone = false_if _ (λ e. sym gone ∙ tree.closed (q ++ k ∷ []) q (prefix_above q k) e)

record IsWalked (t u : Tree) (places : List Place) (q : List ℕ) : Type 0 where
  there : has u q ≡ has t q
  clear : has u q ≡ true → IsClear places q

left_there : (t u : Tree) (places : List Place) (q : List ℕ) → IsLeft t u places q → has u q ≡ has t q
left_there t u places q (inl e) = ap is_some e
left_there t u places q (inr e) = e.2 ∙ sym e.1

-- one slot further down
walked_child : (t : Tree) (steps : List Step) (q : List ℕ) (k : ℕ) → IsTree t
    → seen (tree_after t steps) (all_writes t steps) (q, Slot k) ≡ false
    → IsWalked t (tree_after t steps) (all_writes t steps) q → IsWalked t (tree_after t steps) (all_writes t steps) (q ++ k ∷ [])
walked_child t steps q k tree unseen walked = by (told (has (tree_after t steps) q))
  where
    by : (has (tree_after t steps) q ≡ true) ⊎ (has (tree_after t steps) q ≡ false) → IsWalked t (tree_after t steps) (all_writes t steps) (q ++ k ∷ [])
    by (inl e) =
        let here : is_among (all_writes t steps) (q, Slot k) ≡ false = false_if _ (λ h. sym unseen ∙ both_true _ _ h e) in
        let clear : IsClear (all_writes t steps) (q ++ k ∷ []) =
        λ c h. elim (way_child c q k h) [
          | inl is ↦ ap (is_among (all_writes t steps)) (let same : slot_of c ≡ (q, Slot k) = λ i. (is.0 i, Slot (is.1 i)) in same) ∙ here
          | inr above ↦ walked.clear e c above
        ] in
        record { there = left_there t (tree_after t steps) (all_writes t steps) (q ++ k ∷ []) (steps_left t steps (q ++ k ∷ []) clear); clear = λ _. clear }
    by (inr e) =
        let gone = not_there (tree_after t steps) q k (tree_steps t steps tree) e in
        record { there = gone ∙ sym (not_there t q k tree (sym walked.there ∙ e)); clear = λ h. never h gone }

walked_down : (t : Tree) (steps : List Step) (q r : List ℕ) → IsTree t → IsUnseen (tree_after t steps) (all_writes t steps) (q ++ r)
    → IsWalked t (tree_after t steps) (all_writes t steps) q → IsWalked t (tree_after t steps) (all_writes t steps) (q ++ r)
walked_down t steps q [] tree unseen walked =
    let F : List ℕ → Type 0 = IsWalked t (tree_after t steps) (all_writes t steps) in subst F (sym (append-nil q)) walked
walked_down t steps q (k ∷ r) tree unseen walked =
    let F : List ℕ → Type 0 = IsWalked t (tree_after t steps) (all_writes t steps) in
    let G : List ℕ → Type 0 = IsUnseen (tree_after t steps) (all_writes t steps) in
    let way = append_assoc q (k ∷ []) r in
    let below : is_prefix (q ++ k ∷ []) (q ++ k ∷ r) ≡ true = ap (is_prefix (q ++ k ∷ [])) (sym way) ∙ prefix_append (q ++ k ∷ []) r in
    subst F way (walked_down t steps (q ++ k ∷ []) r tree (subst G (sym way) unseen) (walked_child t steps q k tree (unseen (q, k) below) walked))

-- where no slot write that is seen leads to a path, the page there is as it was, but for data that was seen written
pub spared : (t : Tree) (steps : List Step) (p : List ℕ) → IsTree t → IsUnseen (tree_after t steps) (all_writes t steps) p
    → IsSpared t (tree_after t steps) (all_writes t steps) p
spared t steps p tree unseen =
    let u = tree_after t steps in
    let top : IsWalked t u (all_writes t steps) [] =
    record { there = (tree_steps t steps tree).root ∙ sym tree.root; clear = λ _ c h. never h (child_not_root c.0 c.1) } in
    let end = walked_down t steps [] p tree unseen top in
    record { there = end.there; bytes = λ untold. by end untold (told (has u p)) }
  where
    by : IsWalked t (tree_after t steps) (all_writes t steps) p → seen (tree_after t steps) (all_writes t steps) (p, Data) ≡ false
        → (has (tree_after t steps) p ≡ true) ⊎ (has (tree_after t steps) p ≡ false) → map.get (tree_after t steps) p ≡ map.get t p
    by end untold (inl e) = elim (steps_left t steps p (end.clear e)) [
      | inl is ↦ is
      | inr wrote ↦ never (both_true _ _ wrote.0 wrote.2) untold
    ]
    by end untold (inr e) = absent (tree_after t steps) p e ∙ sym (absent t p (sym end.there ∙ e))
