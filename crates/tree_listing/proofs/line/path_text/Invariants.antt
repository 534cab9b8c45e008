use Rattle.std.proofs.Common.{◌≡◌, take}
use Rattle.std.specs.String.{string_bytes}
use Rattle.std.specs.List.{flat_map}
use Rattle.tree_listing.specs.TreeText.{stroke}
use Rattle.tree_listing.proofs.line.path_text.Given as goal

abbrev pub invariant-loop-slot : goal.invariant-loop-slot
invariant-loop-slot l = string_bytes l.text ≡ flat_map stroke (take l.slot-index l.slots)
