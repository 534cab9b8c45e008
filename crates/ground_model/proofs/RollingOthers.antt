-- What the turns of other clients leave of the files whose links a client sets.
use Rattle.std.proofs.Common.{◌≡◌, ℕ, ◌-◌, ◌≤◌, [], Ok, refl, sym, ap, subst, arith, slice_get}
use Rattle.store_changes.specs.Writes.{Content}
use Rattle.store_model.specs.Changes.{IsTop}
use Rattle.store_model.specs.Found.{LaidStore, laid}
use Rattle.ground_model.specs.Rolling.{CommitLeavesLinks, SameStoreLeavesLinks}
use Rattle.ground_model.specs.Scenes.{IsLinking}
use Rattle.ground_model.proofs.Committing.{others_are_left, tops_are_left, unlinked_now}

pub same_store_leaves_links : SameStoreLeavesLinks
same_store_leaves_links k old new same = (
  λ o x is counts. ap (λ (s : LaidStore). slice_get s.files (o - 1)) same,
  λ v t i m here x is. (let F : LaidStore → Type 0 = λ s. (y : IsTop s v) → (was : IsTop old.store v) × (was.object ≡ y.object) in subst F (sym same) (λ y. (y, refl)) t),
)

same_number : (m n : ℕ) → 1 ≤ m → 1 ≤ n → m - 1 ≡ n - 1 → m ≡ n
same_number m n one two e = omega (arith, one, two, e)

pub commit_leaves_links : CommitLeavesLinks
commit_leaves_links scripts k old new line u w root top tree d plan content states at shared sound may done top_is rewrites kept late now content_is most j =
    let F : Content → ℕ → Type 0 = λ c m. laid c m [] ≡ Ok (new.store, new.places) in
    let there : F content old.most = subst (λ m. F content m) most (subst (λ c. F c new.most) content_is now.laid) in (
      λ o x is counts.
          others_are_left scripts k old line u w root top tree d plan content states at shared sound may done top_is rewrites kept late new.store new.places there (o - 1)
          (λ e.
          unlinked_now scripts k old line u w root top tree d plan content states at shared sound may done top_is rewrites kept late
          (subst (λ n. IsLinking old.standing n) (same_number o w.object counts done.merged.base.is.counts e) x)),
      λ v t i m here x is.
          tops_are_left scripts k old line u w root top tree d plan content states at shared sound may done top_is rewrites kept late new.store new.places there v t,
    )
