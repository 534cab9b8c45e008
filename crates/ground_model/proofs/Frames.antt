-- A turn of one client leaves every other one what it has of its own.
use Rattle.std.proofs.Common.{◌≡◌, ℕ, ◌≤◌, true, sym, ap, ◌∙◌, subst, arith}
use Rattle.draft_model.specs.Flush.{is_block_of}
use Rattle.draft_model.specs.Views.{View}
use Rattle.service_model.specs.Sound.{IsOn}
use Rattle.service_model.specs.Standing.{Client, Work}
use Rattle.flush_model.proofs.Plans.{BlockAt, block_at}
use Rattle.tree_model.specs.Trees.{Tree}
use Rattle.version_chain.specs.Flush.{Plan, Base}
use Rattle.version_chain.proofs.Whole.{others_write}
use Rattle.ground_model.specs.Scenes.{Scene}
use Rattle.ground_model.specs.Own.{IsBase, HasDraft, HasMerged, IsFlushing, IsResting}
use Rattle.ground_model.specs.Leaves.{Leaves, IsReliedOn}
use Rattle.ground_model.proofs.Again.{draft_again, merged_again}

module _ (k : ℕ) (old new : Scene) (leaves : Leaves k old new) where
  pub resting_stays : IsResting old.standing k → IsResting new.standing k
  resting_stays r = record {
    client = record { low = r.client.low; high = subst (λ n. k ≤ n) (sym leaves.clients) r.client.high };
    fresh = ap (λ (c : Client). c.noted) leaves.client ∙ r.fresh;
    held = ap (λ (c : Client). c.held) leaves.client ∙ r.held;
    idle = λ up is mine. r.idle up ((leaves.upkeep up mine).1 is) mine;
  }

  pub relied : (w : Work) (on : IsOn old.standing k w) (serial root : ℕ) (tree : Tree) → w.serial ≤ serial → (b : IsBase old w.object serial root tree) → IsReliedOn old k w b.version
  relied w on serial root tree from b = record { on = on; is = b.is; from = subst (λ n. w.serial ≤ n) (sym b.serial_is) from }

  pub draft_stays : (w : Work) → IsOn old.standing k w → (root : ℕ) (d : View) → HasDraft old w root d → HasDraft new w root d
  draft_stays w on root d h = draft_again old new w root d h (leaves.versions w h.base.version (relied w on w.serial root w.base (omega arith) h.base))

  pub merged_stays : (w : Work) → IsOn old.standing k w → (upto root : ℕ) (tree : Tree) (d : View) → HasMerged old w upto root tree d → HasMerged new w upto root tree d
  merged_stays w on upto root tree d h =
      let mine : IsReliedOn old k w h.base.version = relied w on upto root tree h.from h.base in
      merged_again old new w upto root tree d h (leaves.versions w h.base.version mine)
      (λ m is later low. h.unread m (leaves.made w h.base.version mine m is later.0 (subst (λ n. m.serial ≤ n) (sym h.base.serial_is) low)) later low)

  pub flush_stays : (d : View) (base : Base) (plan : Plan) → IsFlushing old k d base plan → IsFlushing new k d base plan
  flush_stays d base plan h = record {
    placed = h.placed;
    apart = h.apart;
    mine = λ i x at. (leaves.held x.block (h.mine i x at)).0;
    done = others_write d base plan old.content new.content h.done same_places;
  }
    where
      same_places : (n : ℕ) → is_block_of plan.placed n ≡ true → new.content n ≡ old.content n
      same_places n is = (let x : BlockAt plan.placed n = block_at plan.placed n is in
          ap new.content (sym x.block) ∙ (leaves.held x.place.block (h.mine x.k x.place x.at)).1 ∙ ap old.content x.block)
