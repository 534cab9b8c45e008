use Rattle.std.proofs.Common.{List, length, ap, ◌∙◌, arith}
use Rattle.draft_model.specs.Entries.{Entry, shown}
use Rattle.draft_tree.proofs.Letting.{shown_kept, length_kept}
use Rattle.draft_tree.proofs.pages.Pages.keep_accessed.Goals as goal

pub returns-clause-view : goal.returns-clause-view
returns-clause-view c p =
    ap (λ (es : List Entry). shown es p) c.retain_accessed.ensures.entries
    ∙ shown_kept c.args.self.now c.retain_accessed.ensures.was_ordered p

pub returns-clause-len : goal.returns-clause-len
returns-clause-len c = let e = ap length c.retain_accessed.ensures.entries in omega (arith, e, length_kept c.args.self.now)
