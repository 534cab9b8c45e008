use Rattle.std.proofs.Common.{◌≡◌, ◌||◌, [], false, inl, inr, sym, ap, ◌∙◌}
use Rattle.tree_model.proofs.Paths.{never, path_told}
use Rattle.page_places.specs.Places.{same}
use Rattle.draft_model.specs.Told.{is_accessed}
use Rattle.draft_tree.proofs.pages.is_kept.Goals as goal

pub returns-else-is_empty : goal.returns-else-is_empty
returns-else-is_empty c =
    let apart : same c.args.path.now [] ≡ false = elim (path_told c.args.path.now []) [
      | inl e ↦ never (c.is_empty.ensures.1 e) c.if-is_empty.false
      | inr e ↦ e
    ] in
    c.is_accessed.ensures ∙ sym (ap (λ b. b || is_accessed c.args.copied.now) apart)
