-- The pages that are written of a draft are told by what the draft shows, so they are the same where all drafts are.
use Rattle.std.proofs.Common.{◌≡◌, ℕ, ◌<◌, Bool, true, false, ◌&&◌, cond, T, List, [], ◌∷◌, map, length, refl, sym, ap, subst, ◌∙◌, Some, arith, ◌||◌}
use Rattle.std.specs.Prelude.{max}
use Rattle.std.proofs.Math.Nat.{max-eq_left}
use Rattle.std.specs.List.{list_all}
use Rattle.std.specs.Ordering.{eq_by_cmp, is_lt}
use Rattle.std.specs.FinMap.Entries.{find, is_sorted, below_all, same_entries}
use Rattle.afs_base.specs.Path.{path_cmp}
use Rattle.tree_model.specs.Accesses.{written_paths}
use Rattle.tree_model.proofs.Paths.{same_test, path_total, path_only}
use Rattle.tree_model.proofs.KeyLists.{Key, marked}
use Rattle.draft_model.specs.Views.{View}
use Rattle.draft_model.specs.Told.{AreFresh, are_rising, is_one_of}
use Rattle.draft_model.specs.Entries.{fresh_paths}
use Rattle.draft_model.specs.Flush.{IsPlaced, Placed}
use Rattle.draft_model.proofs.Entries.{all_fresh}
use Rattle.version_chain.specs.Flush.{Plan, paths_of}
use Rattle.version_chain.proofs.Writing.{starts}
use Rattle.pool_draft.specs.declared.pool_set.PoolSet.{PoolSet}
use Rattle.pool_draft.specs.Held.{picked_tree, tree_of}
use Rattle.pool_draft.specs.Sets.{AreSameDrafts, picked_of, roots_of, view_at}
use Rattle.joint_flush.specs.Joint.{IsPart, paths_at}

-- ---- two lists of paths in order, with the same members

abbrev key_of : List ℕ → Key
key_of p = (p, tt)

keys_below : (p : List ℕ) (ps : List (List ℕ)) → below_all path_cmp p (map key_of ps) ≡ list_all (λ q. is_lt (path_cmp p q)) ps
keys_below p [] = refl
keys_below p (q ∷ ps) = ap (λ b. is_lt (path_cmp p q) && b) (keys_below p ps)

keys_sorted : (ps : List (List ℕ)) → is_sorted path_cmp (map key_of ps) ≡ are_rising ps
keys_sorted [] = refl
keys_sorted (p ∷ ps) = λ i. keys_below p ps i && keys_sorted ps i

keys_found : (q : List ℕ) (ps : List (List ℕ)) → find path_cmp q (map key_of ps) ≡ marked (is_one_of ps q)
keys_found q [] = refl
keys_found q (p ∷ ps) = by (eq_by_cmp path_cmp q p) (keys_found q ps)
  where
    by : (b : Bool) → find path_cmp q (map key_of ps) ≡ marked (is_one_of ps q) → cond b (Some tt) (find path_cmp q (map key_of ps)) ≡ marked (b || is_one_of ps q)
    by true rest = refl
    by false rest = rest

keys_back : (ps : List (List ℕ)) → map (λ (e : Key). e.0) (map key_of ps) ≡ ps
keys_back [] = refl
keys_back (p ∷ ps) = ap (λ (qs : List (List ℕ)). p ∷ qs) (keys_back ps)

pub rising_same : (ps qs : List (List ℕ)) → are_rising ps ≡ true → are_rising qs ≡ true → ((q : List ℕ) → is_one_of ps q ≡ is_one_of qs q) → ps ≡ qs
rising_same ps qs rising_p rising_q is =
    let one : map key_of ps ≡ map key_of qs = same_entries path_cmp path_total path_only (map key_of ps) (map key_of qs)
    (subst T (sym (keys_sorted ps ∙ rising_p)) tt)
    (subst T (sym (keys_sorted qs ∙ rising_q)) tt)
    (λ q. keys_found q ps ∙ ap marked (is q) ∙ sym (keys_found q qs)) in
    sym (keys_back ps) ∙ ap (λ (ks : List Key). map (λ (e : Key). e.0) ks) one ∙ keys_back qs

-- a draft has one list of fresh paths
pub fresh_same : (d : View) (ps qs : List (List ℕ)) → AreFresh d ps → AreFresh d qs → ps ≡ qs
fresh_same d ps qs are_p are_q =
    rising_same ps qs are_p.rising are_q.rising
    (λ q. same_test (is_one_of ps q) (is_one_of qs q) (λ h. (are_q.each q).1 ((are_p.each q).0 h)) (λ h. (are_p.each q).1 ((are_q.each q).0 h)))

-- ---- the drafts of a set

pub fresh_at : (set : PoolSet) (number : ℕ) → number < roots_of set → AreFresh (view_at set number) (fresh_paths (tree_of set.pages number))
fresh_at set number within = all_fresh (tree_of set.pages number) (set.drafts.order number within)

pub same_roots : (old new : PoolSet) → AreSameDrafts old new → roots_of new ≡ roots_of old
same_roots old new same = ap length same.bases

pub same_paths : (old new : PoolSet) → AreSameDrafts old new → (number : ℕ) → number < roots_of old → paths_at new number ≡ paths_at old number
same_paths old new same number within =
    let roots = same_roots old new same in
    let was : AreFresh (view_at new number) (fresh_paths (tree_of old.pages number)) =
    subst (λ (d : View). AreFresh d (fresh_paths (tree_of old.pages number))) (sym (same.views number)) (fresh_at old number within) in
    let is = fresh_at new number (omega (arith, roots, within)) in
    ap written_paths (fresh_same (view_at new number) (fresh_paths (tree_of new.pages number)) (fresh_paths (tree_of old.pages number)) is was)

-- what is placed of the paths that are written
pub placed_at : (set : PoolSet) (number : ℕ) → number < roots_of set → (placed : List Placed) → paths_of placed ≡ paths_at set number → IsPlaced (view_at set number) placed
placed_at set number within placed paths = record {
  fresh = fresh_paths (tree_of set.pages number);
  are = fresh_at set number within;
  paths = paths;
}

pub part_at : (set : PoolSet) (number : ℕ) (plan : Plan) → number < roots_of set → paths_of plan.placed ≡ paths_at set number → IsPart set (record { number = number; plan = plan })
part_at set number plan within paths = record {
  number = within;
  paths = paths;
  placed = placed_at set number within plan.placed paths;
  starts = starts (view_at set number) (fresh_paths (tree_of set.pages number)) plan.placed (set.drafts.top number within) (fresh_at set number within) paths;
}

-- the paths that are written of the draft that is picked
pub picked_paths : (old new : PoolSet) (number : ℕ) → AreSameDrafts old new → picked_of new ≡ number → number < roots_of old
    → written_paths (fresh_paths (picked_tree new.pages)) ≡ paths_at old number
picked_paths old new number same picked within = ap (paths_at new) picked ∙ same_paths old new same number within

-- `/` is written anyhow
pub written_count : (paths : List (List ℕ)) → max (length paths) 1 ≡ length (written_paths paths)
written_count [] = refl
written_count (p ∷ paths) = max-eq_left (omega arith)
