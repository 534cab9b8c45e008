use Rattle.std.proofs.Common.{ℕ, sym, subst}
use Rattle.draft_model.specs.Told.{modified_of, TellsMasks}
use Rattle.draft_model.proofs.Telling.{tells_masks}
use Rattle.draft_model.specs.Entries.{shown}
use Rattle.pool_draft.specs.Held.{picked_tree}
use Rattle.pool_draft.proofs.pool_set.PoolSetDraft.slots.Goals as goal

pub returns-clause-tells : goal.returns-clause-tells
returns-clause-tells c =
    let d = shown (picked_tree c.args.self.now.pages) in
    let p = c.args.at.now in
    let F : ℕ → Type 0 = λ n. TellsMasks d p n (modified_of (d p)) in
    let G : ℕ → Type 0 = λ n. TellsMasks d p c.slots.result.searched n in
    subst G (sym c.slots.ensures.modified) (subst F (sym c.slots.ensures.searched) (tells_masks d p))
