use Rattle.std.proofs.Common.{◌≡◌, ◌++◌, List, take}
use Rattle.store_model.specs.Laws.{pages_of}
use Rattle.store_check.specs.Since.{OnlyRead}
use Rattle.tree_model.specs.States.{File}
use Rattle.store_commands.specs.Showing.{shown_files}
use Rattle.store_commands.specs.Shows.{AreObjects}
use Rattle.store_commands.proofs.Listed.{FilesListed}
use Rattle.store_commands.proofs.showing.append_objects.Given as goal

abbrev pub invariant-objects : goal.invariant-objects
invariant-objects g l = let b = g.B.Blocks in record {
  only : OnlyRead b l.fn.store l.store;
  listed : FilesListed l.fn.text.items l.text.items l.k;
  told : b.tells → (files : List File) → AreObjects (b.settled l.fn.store) (b.size l.fn.store) (pages_of (b.content l.fn.store)) l.fn.heads files
      → l.text.items ≡ l.fn.text.items ++ shown_files 1 (take l.k files);
}
