-- A set without roots gets one, which is picked.
use Rattle.std.proofs.Common.{◌≡◌, ℕ, ◌+◌, Bool, true, false, ◌⊎◌, inl, inr, length, sym, ap, subst, ◌∙◌, arith}
use Rattle.std.specs.Prelude.{slice_get}
use Rattle.tree_model.proofs.Paths.{told}
use Rattle.page_codec.specs.Values.{VersionValue}
use Rattle.draft_model.specs.Views.{View}
use Rattle.draft_model.specs.Steps.{begun}
use Rattle.draft_model.specs.Stands.{Begins}
use Rattle.draft_model.proofs.Feeding.{begins}
use Rattle.pool_draft.specs.declared.pool_set.PoolSet.{PoolSet}
use Rattle.pool_draft.specs.Roots.{root_in, object_in, serial_in}
use Rattle.pool_draft.specs.Sets.{AreSameDrafts, IsAdded, IsBegun, base_at, picked_of, roots_of, view_at}

-- a set without roots has room for one
pub one_added : (b : Bool) (s t : PoolSet) (at : ℕ) (version : VersionValue) → (b ≡ false → roots_of s ≡ 17)
    → (b ≡ true → IsAdded s t at version) → roots_of s ≡ 0 → IsAdded s t at version
one_added b s t at version full added none = by (told b)
  where
    by : (b ≡ true) ⊎ (b ≡ false) → IsAdded s t at version
    by (inl e) = added e
    by (inr e) = absurd (omega (arith, full e, none))

view_of_one : (s t u : PoolSet) (at : ℕ) (version : VersionValue) → roots_of s ≡ 0 → IsAdded s t at version
    → picked_of u ≡ 0 → AreSameDrafts t u → view_at u (picked_of u) ≡ begun version.page
view_of_one s t u at version none added picked same =
    ap (view_at u) picked ∙ same.views 0 ∙ ap (view_at t) (sym none) ∙ added.view

base_of_one : (s t u : PoolSet) → roots_of s ≡ 0 → picked_of u ≡ 0 → AreSameDrafts t u
    → base_at u (picked_of u) ≡ base_at t (roots_of s)
base_of_one s t u none picked same = λ i. slice_get (same.bases i) ((picked ∙ sym none) i)

pub begun_alone : (s t u : PoolSet) (at : ℕ) (version : VersionValue) → roots_of s ≡ 0 → s.count ≡ 0 → s.fed ≡ 0
    → IsAdded s t at version → picked_of u ≡ 0 → AreSameDrafts t u → IsBegun u at version
begun_alone s t u at version none count fed added picked same =
    let view = view_of_one s t u at version none added picked same in
    let base = base_of_one s t u none picked same in
    let F : View → Type 0 = λ d. Begins d at version.page in
    record {
      roots = ap length same.bases ∙ added.roots ∙ ap (λ n. n + 1) none;
      picked = picked;
      view = view;
      begins = subst F (sym view) (begins at version.page);
      block = ap root_in base ∙ added.block;
      object = ap object_in base ∙ added.object;
      serial = ap serial_in base ∙ added.serial;
      count = same.count ∙ added.count ∙ count;
      fed = same.fed ∙ added.fed ∙ fed;
    }
