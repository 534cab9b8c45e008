use Rattle.std.proofs.Common.{◌≡◌}
use Rattle.store_commands.specs.Texts.{new_files_text}
use Rattle.store_commands.proofs.formatting.new_files_text.Given as goal

abbrev pub invariant-loop-i : goal.invariant-loop-i
invariant-loop-i l = l.text.items ≡ new_files_text l.i
