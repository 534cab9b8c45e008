-- What a tree has at each path after a page was put there, or taken away with all below it.
use Rattle.std.proofs.Common.{◌≡◌, ℕ, Bool, true, false, not, ◌&&◌, ◌||◌, cond, List, [], ◌∷◌, ◌⊎◌, inl, inr, refl, sym, ap, subst, ◌∙◌, Option, Some, None, is_some, length, ◌≤◌, lit≤}
use Rattle.std.specs.Cmp.{first_so, second_so}
use Rattle.std.specs.FinMap as map
use Rattle.afs_base.specs.Path.{path_cmp, is_prefix, are_slots}
use Rattle.tree_model.specs.declared.step.Step.{Step}
use Rattle.tree_model.specs.declared.step.Step.TheVariants.{ReadAt, ListAt, WriteAt, MakeAt, DropAt}
use Rattle.tree_model.specs.Trees.{Tree, has, IsTree, IsKept, single, path_of, can_make, without, after, tree_after}
use Rattle.tree_model.proofs.Paths.{told, never, both_true, or_told, or_left, or_right, not_true, same, path_total, path_only, same_self, same_is, prefix_trans, prefix_child, child_not_root}

pub get_insert : (t : Tree) (p bytes q : List ℕ) → map.get (map.insert t p bytes) q ≡ cond (same q p) (Some bytes) (map.get t q)
get_insert t p bytes q = map.get-insert path_total t p bytes q

pub get_without : (t : Tree) (p q : List ℕ) → map.get (without t p) q ≡ cond (not (is_prefix p q)) (map.get t q) None
get_without t p q = map.get-retain_keys t (λ x. not (is_prefix p x)) q (λ x e. ap (λ r. not (is_prefix p r)) (sym (path_only q x e)))

some_cond : (b : Bool) (bytes : List ℕ) (o : Option (List ℕ)) → is_some (cond b (Some bytes) o) ≡ (b || is_some o)
some_cond true bytes o = refl
some_cond false bytes o = refl

none_cond : (b : Bool) (o : Option (List ℕ)) → is_some (cond (not b) o None) ≡ (not b && is_some o)
none_cond true o = refl
none_cond false o = refl

pub has_insert : (t : Tree) (p bytes q : List ℕ) → has (map.insert t p bytes) q ≡ (same q p || has t q)
has_insert t p bytes q = ap is_some (get_insert t p bytes q) ∙ some_cond _ _ _

pub has_without : (t : Tree) (p q : List ℕ) → has (without t p) q ≡ (not (is_prefix p q) && has t q)
has_without t p q = ap is_some (get_without t p q) ∙ none_cond _ _

-- a page that is there stays there
pub has_still : (t : Tree) (p bytes q : List ℕ) → has t q ≡ true → has (map.insert t p bytes) q ≡ true
has_still t p bytes q h = has_insert t p bytes q ∙ or_right _ _ h

-- a page that a put left is the one that was put, or was there
pub had : (t : Tree) (p bytes q : List ℕ) → has (map.insert t p bytes) q ≡ true → (q ≡ p) ⊎ (has t q ≡ true)
had t p bytes q h = elim (or_told _ _ (sym (has_insert t p bytes q) ∙ h)) [ inl e ↦ inl (same_is q p e) | inr e ↦ inr e ]

-- a put at a path whose pages above are there
pub tree_insert : (t : Tree) (p bytes : List ℕ) → IsTree t → ((q : List ℕ) → is_prefix q p ≡ true → (q ≡ p) ⊎ (has t q ≡ true)) → IsTree (map.insert t p bytes)
tree_insert t p bytes tree above = record {
  root = has_still t p bytes [] tree.root;
  closed = λ x q h there.
      elim (had t p bytes x there) [
        | inl e ↦ elim (above q (let F : List ℕ → Type 0 = λ y. is_prefix q y ≡ true in subst F e h)) [
          | inl g ↦ has_insert t p bytes q ∙ or_left _ _ (ap (λ y. same y p) g ∙ same_self p)
          | inr g ↦ has_still t p bytes q g
        ]
        | inr e ↦ has_still t p bytes q (tree.closed x q h e)
      ];
}

-- all that is taken away lies at or below a page other than `/`
pub tree_without : (t : Tree) (p : List ℕ) → IsTree t → is_prefix p [] ≡ false → IsTree (without t p)
tree_without t p tree below = record {
  root = has_without t p [] ∙ both_true _ _ (ap not below) tree.root;
  closed = λ x q h there.
      let was = sym (has_without t p x) ∙ there in
      let q_there = tree.closed x q h (second_so _ _ was) in
      has_without t p q ∙ both_true _ _
      (elim (told (is_prefix p q)) [
        | inl g ↦ never (prefix_trans p q x g h) (not_true _ (first_so _ _ was))
        | inr g ↦ ap not g
      ]) q_there;
}

pub kept_insert : (t : Tree) (p bytes : List ℕ) → IsKept t → length p ≤ 7 → are_slots p ≡ true → length bytes ≤ 800
    → ((q : List ℕ) → is_prefix q p ≡ true → (q ≡ p) ⊎ (has t q ≡ true)) → IsKept (map.insert t p bytes)
kept_insert t p bytes kept short slots few above = record {
  tree = tree_insert t p bytes kept.tree above;
  short = λ q there. elim (had t p bytes q there) [
    | inl e ↦ let F : List ℕ → Type 0 = λ y. length y ≤ 7 in subst F (sym e) short
    | inr e ↦ kept.short q e
  ];
  slots = λ q there. elim (had t p bytes q there) [
    | inl e ↦ ap are_slots e ∙ slots
    | inr e ↦ kept.slots q e
  ];
  bytes = λ q found at. by q found (told (same q p)) (sym (get_insert t p bytes q) ∙ at);
}
  where
    by : (q found : List ℕ) → (same q p ≡ true) ⊎ (same q p ≡ false) → cond (same q p) (Some bytes) (map.get t q) ≡ Some found → length found ≤ 800
    by q found (inl e) at =
        let is : Some bytes ≡ Some found = sym (ap (λ b. cond b (Some bytes) (map.get t q)) e) ∙ at in
        let same_bytes : bytes ≡ found = cc in
        let F : List ℕ → Type 0 = λ xs. length xs ≤ 800 in subst F same_bytes few
    by q found (inr e) at = kept.bytes q found (sym (ap (λ b. cond b (Some bytes) (map.get t q)) e) ∙ at)

pub kept_without : (t : Tree) (p : List ℕ) → IsKept t → is_prefix p [] ≡ false → IsKept (without t p)
kept_without t p kept below = record {
  tree = tree_without t p kept.tree below;
  short = λ q there. kept.short q (second_so _ _ (sym (has_without t p q) ∙ there));
  slots = λ q there. kept.slots q (second_so _ _ (sym (has_without t p q) ∙ there));
  bytes = λ q found at. by q found (not (is_prefix p q)) (sym (get_without t p q) ∙ at);
}
  where
    by : (q found : List ℕ) (b : Bool) → cond b (map.get t q) None ≡ Some found → length found ≤ 800
    by q found true at = kept.bytes q found at
    by q found false at = absurd (cc at)

-- the pages above a page that is there are there
pub above_there : (t : Tree) (p : List ℕ) → IsTree t → has t p ≡ true → (q : List ℕ) → is_prefix q p ≡ true → (q ≡ p) ⊎ (has t q ≡ true)
above_there t p tree there q h = inr (tree.closed p q h there)

-- the pages above a child are there where the page above it is
pub above_child : (t : Tree) (c : List ℕ × ℕ) → IsTree t → has t c.0 ≡ true → (q : List ℕ) → is_prefix q (path_of c) ≡ true → (q ≡ path_of c) ⊎ (has t q ≡ true)
above_child t c tree there q h = elim (prefix_child q c.0 c.1 h) [ inl e ↦ inl e | inr e ↦ inr (tree.closed c.0 q e there) ]

-- new data at a page that is there
pub kept_put : (t : Tree) (p bytes : List ℕ) → IsKept t → has t p ≡ true → length bytes ≤ 800 → IsKept (map.insert t p bytes)
kept_put t p bytes kept there few = kept_insert t p bytes kept (kept.short p there) (kept.slots p there) few (above_there t p kept.tree there)

-- a new page below one that is there
pub kept_make : (t : Tree) (c : List ℕ × ℕ) → IsKept t → has t c.0 ≡ true → length (path_of c) ≤ 7 → are_slots (path_of c) ≡ true → IsKept (map.insert t (path_of c) [])
kept_make t c kept there short slots = kept_insert t (path_of c) [] kept short slots (lit≤ tt) (above_child t c kept.tree there)

-- a page other than `/` goes, with all below it
pub kept_drop : (t : Tree) (c : List ℕ × ℕ) → IsKept t → IsKept (without t (path_of c))
kept_drop t c kept = kept_without t (path_of c) kept (child_not_root c.0 c.1)

-- a page is absent where it is not there
pub absent : (t : Tree) (p : List ℕ) → has t p ≡ false → map.get t p ≡ None
absent t p h = by (map.get t p) h
  where
    by : (o : Option (List ℕ)) → is_some o ≡ false → o ≡ None
    by None h = refl
    by (Some x) h = never refl h

-- a step leaves a tree
pub tree_step : (t : Tree) (step : Step) → IsTree t → IsTree (after t step)
tree_step t (ReadAt p) tree = tree
tree_step t (ListAt p) tree = tree
tree_step t (WriteAt p bytes) tree =
    let F : Bool → Type 0 = λ b. IsTree (cond b (map.insert t p bytes) t) in
    elim (told (has t p)) [
      | inl e ↦ subst F (sym e) (tree_insert t p bytes tree (above_there t p tree e))
      | inr e ↦ subst F (sym e) tree
    ]
tree_step t (MakeAt c) tree =
    let F : Bool → Type 0 = λ b. IsTree (cond b (map.insert t (path_of c) []) t) in
    elim (told (can_make t c)) [
      | inl e ↦ subst F (sym e) (tree_insert t (path_of c) [] tree (above_child t c tree (first_so _ _ e)))
      | inr e ↦ subst F (sym e) tree
    ]
tree_step t (DropAt c) tree =
    let F : Bool → Type 0 = λ b. IsTree (cond b (without t (path_of c)) t) in
    elim (told (has t (path_of c))) [
      | inl e ↦ subst F (sym e) (tree_without t (path_of c) tree (child_not_root c.0 c.1))
      | inr e ↦ subst F (sym e) tree
    ]

-- steps leave a tree
pub tree_steps : (t : Tree) (steps : List Step) → IsTree t → IsTree (tree_after t steps)
tree_steps t [] tree = tree
tree_steps t (step ∷ steps) tree = tree_steps (after t step) steps (tree_step t step tree)

root_at : (q : List ℕ) → has single q ≡ same q []
root_at q = has_insert map.empty [] [] q ∙ ap (λ (o : Option (List ℕ)). same q [] || is_some o) (map.get-empty path_cmp q) ∙ or_false (same q [])
  where
    or_false : (b : Bool) → (b || false) ≡ b
    or_false true = refl
    or_false false = refl

-- the page `/` alone is a tree
pub kept_single : IsKept single
kept_single = record {
  tree = record {
    root = root_at [];
    closed = λ p q h there.
        let F : List ℕ → Type 0 = λ y. is_prefix q y ≡ true in
        root_at q ∙ by q (subst F (same_is p [] (sym (root_at p) ∙ there)) h);
  };
  short = λ p there. let F : List ℕ → Type 0 = λ y. length y ≤ 7 in subst F (sym (same_is p [] (sym (root_at p) ∙ there))) (lit≤ tt);
  slots = λ p there. ap are_slots (same_is p [] (sym (root_at p) ∙ there));
  bytes = λ p found at. empty p found (same p []) (sym (get_insert map.empty [] [] p) ∙ at);
}
  where
    by : (q : List ℕ) → is_prefix q [] ≡ true → same q [] ≡ true
    by [] h = refl
    by (s ∷ q) h = h

    empty : (p found : List ℕ) (b : Bool) → cond b (Some []) (map.get (map.empty {R = path_cmp}) p) ≡ Some found → length found ≤ 800
    empty p found true at =
        let is : [] ≡ found = cc in
        let F : List ℕ → Type 0 = λ xs. length xs ≤ 800 in subst F is (lit≤ tt)
    empty p found false at = absurd (cc (map.get-empty path_cmp p, at))
