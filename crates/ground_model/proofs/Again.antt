-- What a client has of its own stays its own where the versions that it stands on are there again.
use Rattle.std.proofs.Common.{ℕ, ◌∙◌, subst}
use Rattle.draft_model.specs.Stands.{SameBase}
use Rattle.draft_model.specs.Views.{View}
use Rattle.draft_model.proofs.Keeping.{stands_still}
use Rattle.service_model.specs.Standing.{Work}
use Rattle.store_model.specs.Laws.{pages_of}
use Rattle.tree_model.specs.Trees.{Tree}
use Rattle.ground_model.specs.Scenes.{Scene}
use Rattle.ground_model.specs.Own.{IsBase, HasDraft, HasMerged, IsUnreadTo}
use Rattle.ground_model.specs.Leaves.{IsThereAgain}

module _ (old new : Scene) where
  pub base_again : (object serial root : ℕ) (tree : Tree) (b : IsBase old object serial root tree) → IsThereAgain old new object b.version → IsBase new object serial root tree
  base_again object serial root tree b again = record {
    version = again.again;
    is = again.is;
    serial_is = again.serial ∙ b.serial_is;
    block_is = again.block ∙ b.block_is;
    tree_is = again.tree ∙ b.tree_is;
  }

  pub pages_again : (object serial root : ℕ) (tree : Tree) (b : IsBase old object serial root tree) → IsThereAgain old new object b.version → SameBase (pages_of old.content) (pages_of new.content) root
  pages_again object serial root tree b again = subst (λ n. SameBase (pages_of old.content) (pages_of new.content) n) b.block_is again.pages

  pub draft_again : (w : Work) (root : ℕ) (d : View) (h : HasDraft old w root d) → IsThereAgain old new w.object h.base.version → HasDraft new w root d
  draft_again w root d h again = record {
    base = base_again w.object w.serial root w.base h.base again;
    stands = stands_still (pages_of old.content) (pages_of new.content) root w.base w.steps d h.stands (pages_again w.object w.serial root w.base h.base again);
  }

  pub merged_again : (w : Work) (upto root : ℕ) (tree : Tree) (d : View) (h : HasMerged old w upto root tree d) → IsThereAgain old new w.object h.base.version
      → IsUnreadTo new.standing.made w upto → HasMerged new w upto root tree d
  merged_again w upto root tree d h again unread = record {
    from = h.from;
    base = base_again w.object upto root tree h.base again;
    stands = stands_still (pages_of old.content) (pages_of new.content) root tree w.steps d h.stands (pages_again w.object upto root tree h.base again);
    alike = h.alike;
    unread = unread;
  }
