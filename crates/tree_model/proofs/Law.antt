-- The merge law: step by step, both runs do the same.
use Rattle.std.proofs.Common.{◌≡◌, ℕ, Bool, true, false, ◌&&◌, cond, List, [], ◌∷◌, ◌++◌, ◌⊎◌, inl, inr, refl, sym, ap, subst, ◌∙◌, Option, None, is_some, append_assoc, append-nil}
use Rattle.std.specs.FinMap as finite
use Rattle.std.specs.FinSet as set
use Rattle.afs_base.specs.Path.{is_prefix}
use Rattle.tree_model.specs.declared.step.Step.{Step}
use Rattle.tree_model.specs.Trees.{Tree, has, IsTree, after, tree_after, replies_of}
use Rattle.tree_model.specs.Accesses.{Place, is_among, step_reads, step_writes, all_reads, all_writes, reads_of, writes_of, visible_of, IsClash, touches}
use Rattle.tree_model.specs.Merge.{Alike, MergeLaw}
use Rattle.tree_model.proofs.Paths.{told, never, or_told, prefix_self, path_only}
use Rattle.tree_model.proofs.TreeFacts.{tree_steps}
use Rattle.tree_model.proofs.PlaceFacts.{place_total, place_only, among_left, among_right, not_among, among_first, among_later}
use Rattle.tree_model.proofs.Theirs.{seen}
use Rattle.tree_model.proofs.Mine.{go_on, same_step}
use Rattle.tree_model.proofs.KeyLists.{same_keys}

-- what the steps do on both trees
record RunsAlike (a b t u : Tree) (met done : List Place) (steps : List Step) : Type 0 where
  replies : replies_of u steps ≡ replies_of t steps
  reads : all_reads u done steps ≡ all_reads t done steps
  writes : all_writes u steps ≡ all_writes t steps
  alike : Alike a b (tree_after t steps) (tree_after u steps) (met ++ all_reads t done steps) (done ++ all_writes t steps)

run : (a : Tree) (theirs : List Step) → IsTree a → (t u : Tree) (met done : List Place) (steps : List Step)
    → Alike a (tree_after a theirs) t u met done
    → ((x : Place) → is_among (all_reads t done steps) x ≡ true → seen (tree_after a theirs) (all_writes a theirs) x ≡ false)
    → RunsAlike a (tree_after a theirs) t u met done steps
run a theirs tree t u met done [] al hidden = record {
  replies = refl;
  reads = refl;
  writes = refl;
  alike =
      let F : List Place → Type 0 = λ xs. Alike a (tree_after a theirs) t u xs (done ++ []) in
      let G : List Place → Type 0 = λ ys. Alike a (tree_after a theirs) t u met ys in
      subst F (sym (append-nil met)) (subst G (sym (append-nil done)) al);
}
run a theirs tree t u met done (step ∷ steps) al hidden =
    let now = step_reads t done step in
    let wrote = step_writes t step in
    let later = all_reads (after t step) (done ++ wrote) steps in
    let s = same_step a theirs tree t u met done al step (λ x h. hidden x (among_left now later x h)) in
    let rest = run a theirs tree (after t step) (after u step) (met ++ now) (done ++ wrote) steps
    (go_on a (tree_after a theirs) t u met done step al s) (λ x h. hidden x (among_right now later x h)) in
    let F : List Place → Type 0 = λ xs. Alike a (tree_after a theirs) (tree_after (after t step) steps) (tree_after (after u step) steps) xs ((done ++ wrote) ++ all_writes (after t step) steps) in
    let G : List Place → Type 0 = λ ys. Alike a (tree_after a theirs) (tree_after (after t step) steps) (tree_after (after u step) steps) (met ++ (now ++ later)) ys in
    record {
      replies = λ i. s.reply i ∷ rest.replies i;
      reads =
          (λ i. s.reads i ++ all_reads (after u step) (done ++ s.writes i) steps)
          ∙ ap (λ xs. now ++ xs) rest.reads;
      writes = λ i. s.writes i ++ rest.writes i;
      alike = subst G (append_assoc done wrote (all_writes (after t step) steps)) (subst F (append_assoc met now later) rest.alike);
    }

-- before the first step each tree is as it was
start : (a b : Tree) → IsTree a → IsTree b → Alike a b a b [] []
start a b tree_a tree_b = record {
  tree_of_a = tree_a;
  tree_of_b = tree_b;
  at = λ q. inr (refl, refl);
  read = λ x h. not_among x h;
  written = λ x h. not_among x h;
}

-- a place is visible where it is written and its page is there in the end
pub shown : (a : Tree) (steps : List Step) (x : Place) → set.contains (visible_of a steps) x ≡ seen (tree_after a steps) (all_writes a steps) x
shown a steps x =
    set.contains-retain (writes_of a steps) (λ (y : Place). has (tree_after a steps) y.0) x (λ y e. ap (λ (z : Place). has (tree_after a steps) z.0) (sym (place_only x y e)))
    ∙ ap (λ b. b && has (tree_after a steps) x.0) (set.contains-from_list place_total (all_writes a steps) x)

-- what is read and seen written would be a clash
hidden_reads : (a : Tree) (mine theirs : List Step) → IsClash (reads_of a mine) (visible_of a theirs) None
    → (x : Place) → is_among (all_reads a [] mine) x ≡ true → seen (tree_after a theirs) (all_writes a theirs) x ≡ false
hidden_reads a mine theirs none x h =
    sym (shown a theirs x) ∙ none x (set.contains-from_list place_total (all_reads a [] mine) x ∙ h)

-- where all that was written moved alike, the same is visible
visible_same : (a b t u : Tree) (reads writes : List Place) → Alike a b t u reads writes → (x : Place) → seen u writes x ≡ seen t writes x
visible_same a b t u reads writes al x = elim (told (is_among writes x)) [
  | inl e ↦ ap (λ c. is_among writes x && c) (sym ((al.written x e).above x.0 (prefix_self x.0)))
  | inr e ↦ ap (λ c. c && has u x.0) e ∙ ap (λ c. c && has t x.0) (sym e)
]

-- a page at or below which something was written is among the pages above a place that was written
touched : (writes : List Place) (q : List ℕ) → touches writes q ≡ true → (x : Place) × (is_among writes x ≡ true) × (is_prefix q x.0 ≡ true)
touched [] q h = never h refl
touched (y ∷ writes) q h = by (or_told (is_prefix q y.0) (touches writes q) h) (touched writes q)
  where
    by : (is_prefix q y.0 ≡ true) ⊎ (touches writes q ≡ true) → (touches writes q ≡ true → (x : Place) × (is_among writes x ≡ true) × (is_prefix q x.0 ≡ true))
        → (x : Place) × (is_among (y ∷ writes) x ≡ true) × (is_prefix q x.0 ≡ true)
    by (inl e) rest = (y, among_first y writes, e)
    by (inr e) rest = let found = rest e in (found.0, among_later y writes found.0 found.1, found.2)

fresh_same : (a b t u : Tree) (reads writes : List Place) → Alike a b t u reads writes
    → finite.keys (finite.retain_keys u (touches writes)) ≡ finite.keys (finite.retain_keys t (touches writes))
fresh_same a b t u reads writes al = same_keys _ _ (λ q. kept u q ∙ by q (told (touches writes q)) ∙ sym (kept t q))
  where
    and_some : (c : Bool) (o : Option (List ℕ)) → is_some (cond c o None) ≡ (c && is_some o)
    and_some true o = refl
    and_some false o = refl

    kept : (v : Tree) (q : List ℕ) → has (finite.retain_keys v (touches writes)) q ≡ (touches writes q && has v q)
    kept v q = ap is_some (finite.get-retain_keys v (touches writes) q (λ x e. ap (touches writes) (sym (path_only q x e)))) ∙ and_some (touches writes q) (finite.get v q)

    by : (q : List ℕ) → (touches writes q ≡ true) ⊎ (touches writes q ≡ false) → (touches writes q && has u q) ≡ (touches writes q && has t q)
    by q (inl e) = let x = touched writes q e in ap (λ c. touches writes q && c) (sym ((al.written x.0 x.1).above q x.2))
    by q (inr e) = ap (λ c. c && has u q) e ∙ ap (λ c. c && has t q) (sym e)

pub law : MergeLaw
law a mine theirs tree none =
    let b = tree_after a theirs in
    let r = run a theirs tree a b [] [] mine (start a b tree (tree_steps a theirs tree)) (hidden_reads a mine theirs none) in
    record {
      replies = r.replies;
      reads = r.reads;
      writes = r.writes;
      visible = set.same_set place_total place_only _ _ (λ x.
          shown b mine x
          ∙ ap (λ ws. seen (tree_after b mine) ws x) r.writes
          ∙ visible_same a b (tree_after a mine) (tree_after b mine) (all_reads a [] mine) (all_writes a mine) r.alike x
          ∙ sym (shown a mine x));
      fresh =
          ap (λ ws. finite.keys (finite.retain_keys (tree_after b mine) (touches ws))) r.writes
          ∙ fresh_same a b (tree_after a mine) (tree_after b mine) (all_reads a [] mine) (all_writes a mine) r.alike;
      alike = r.alike;
    }
