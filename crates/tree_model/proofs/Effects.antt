-- A step leaves a tree as it is, puts one page, or takes one away with all below it. So at each path it either leaves what
-- was there, or sets the same whatever was there.
use Rattle.std.proofs.Common.{◌≡◌, ℕ, Bool, true, false, not, cond, List, [], ◌⊎◌, inl, inr, refl, sym, ap, ◌∙◌, Some, None, is_some}
use Rattle.std.specs.FinMap as map
use Rattle.afs_base.specs.Path.{is_prefix}
use Rattle.tree_model.specs.declared.step.Step.{Step}
use Rattle.tree_model.specs.declared.step.Step.TheVariants.{ReadAt, ListAt, WriteAt, MakeAt, DropAt}
use Rattle.tree_model.specs.Trees.{Tree, has, path_of, can_make, without, after}
use Rattle.tree_model.proofs.Paths.{told, same}
use Rattle.tree_model.proofs.TreeFacts.{get_insert, get_without}

pub data Effect : Type 0 where
  Keep : Effect
  Put : List ℕ → List ℕ → Effect
  Cut : List ℕ → Effect

abbrev pub effect_of : Tree → Step → Effect
effect_of t (ReadAt p) = Keep
effect_of t (ListAt p) = Keep
effect_of t (WriteAt p bytes) = cond (has t p) (Put p bytes) Keep
effect_of t (MakeAt c) = cond (can_make t c) (Put (path_of c) []) Keep
effect_of t (DropAt c) = cond (has t (path_of c)) (Cut (path_of c)) Keep

abbrev pub applied : Effect → Tree → Tree
applied Keep t = t
applied (Put p bytes) t = map.insert t p bytes
applied (Cut p) t = without t p

pub after_is : (t : Tree) (step : Step) → after t step ≡ applied (effect_of t step) t
after_is t (ReadAt p) = refl
after_is t (ListAt p) = refl
after_is t (WriteAt p bytes) = by (has t p)
  where
    by : (b : Bool) → cond b (map.insert t p bytes) t ≡ applied (cond b (Put p bytes) Keep) t
    by true = refl
    by false = refl
after_is t (MakeAt c) = by (can_make t c)
  where
    by : (b : Bool) → cond b (map.insert t (path_of c) []) t ≡ applied (cond b (Put (path_of c) []) Keep) t
    by true = refl
    by false = refl
after_is t (DropAt c) = by (has t (path_of c))
  where
    by : (b : Bool) → cond b (without t (path_of c)) t ≡ applied (cond b (Cut (path_of c)) Keep) t
    by true = refl
    by false = refl

-- at one path an effect leaves what was there, or sets the same in every tree
pub settled : (e : Effect) (q : List ℕ) → ((t : Tree) → map.get (applied e t) q ≡ map.get t q) ⊎ ((t u : Tree) → map.get (applied e t) q ≡ map.get (applied e u) q)
settled Keep q = inl (λ t. refl)
settled (Put p bytes) q = elim (told (same q p)) [
  | inl e ↦ inr (λ t u. put t e ∙ sym (put u e))
  | inr e ↦ inl (λ t. get_insert t p bytes q ∙ ap (λ b. cond b (Some bytes) (map.get t q)) e)
]
  where
    put : (t : Tree) → same q p ≡ true → map.get (map.insert t p bytes) q ≡ Some bytes
    put t e = get_insert t p bytes q ∙ ap (λ b. cond b (Some bytes) (map.get t q)) e
settled (Cut p) q = elim (told (is_prefix p q)) [
  | inl e ↦ inr (λ t u. cut t e ∙ sym (cut u e))
  | inr e ↦ inl (λ t. get_without t p q ∙ ap (λ b. cond (not b) (map.get t q) None) e)
]
  where
    cut : (t : Tree) → is_prefix p q ≡ true → map.get (without t p) q ≡ None
    cut t e = get_without t p q ∙ ap (λ b. cond (not b) (map.get t q) None) e

-- the same effect on two trees that agree at a path leaves them in agreement there
pub agree_still : (e : Effect) (t u : Tree) (q : List ℕ) → map.get t q ≡ map.get u q → map.get (applied e t) q ≡ map.get (applied e u) q
agree_still e t u q is = elim (settled e q) [ inl left ↦ left t ∙ is ∙ sym (left u) | inr sets ↦ sets t u ]

-- the same, where they agree only on whether there is a page
pub there_still : (e : Effect) (t u : Tree) (q : List ℕ) → has t q ≡ has u q → has (applied e t) q ≡ has (applied e u) q
there_still e t u q is = elim (settled e q) [
  | inl left ↦ ap is_some (left t) ∙ is ∙ ap is_some (sym (left u))
  | inr sets ↦ ap is_some (sets t u)
]
