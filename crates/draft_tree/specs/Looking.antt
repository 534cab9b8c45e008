-- A look at a copied page.
use Rattle.draft_model.specs.Views.{Copied}
use Rattle.draft_tree.specs.declared.look.Look.{Look}
use Rattle.draft_tree.specs.Marking.{copied_with}

-- the page that is looked at, with its marks
abbrev pub looked : Look → Copied
looked l = copied_with l.marks l.page.now
