-- What a call leaves the drafts that are not picked.
use Rattle.std.proofs.Common.{◌≡◌, None, cond, false, nat_eq, sym, ap, ◌∙◌, eqb-true}
use Rattle.std.specs.Prelude.{slice_get}
use Rattle.tree_model.proofs.Paths.{false_if}
use Rattle.draft_model.specs.Entries.{shown}
use Rattle.pool_draft.specs.Held.{Beside}
use Rattle.pool_draft.specs.Roots.{OtherDrafts}
use Rattle.pool_draft.specs.Sets.{OthersLaw}
use Rattle.pool_draft.proofs.Roots.{others_same}

pub others_stay : OthersLaw
others_stay s t same k other =
    let off : nat_eq k s.pages.root ≡ false = false_if (nat_eq k s.pages.root) (λ e. absurd (other (eqb-true k s.pages.root e))) in
    let beside_is = ap (λ (o : OtherDrafts). o.pages) same in
    let picked : t.pages.root ≡ s.pages.root = ap (λ (b : Beside). b.root) beside_is in (
      ap shown (others_same s.pages t.pages beside_is k off),
      sym (ap (λ b. cond b None (slice_get t.bases.items k)) (ap (nat_eq k) picked ∙ off))
          ∙ ap (λ (o : OtherDrafts). o.bases k) same
          ∙ ap (λ b. cond b None (slice_get s.bases.items k)) off,
    )
