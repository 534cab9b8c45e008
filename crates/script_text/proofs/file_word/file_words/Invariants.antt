use Rattle.std.proofs.Common.{◌≡◌, drop, length}
use Rattle.script_text.specs.Grammar.{file_words}
use Rattle.script_text.specs.Texts.{texts}
use Rattle.script_text.proofs.Prepending.{with_files}
use Rattle.script_text.proofs.file_word.file_words.Given as goal

abbrev pub invariant-loop-i : goal.invariant-loop-i
invariant-loop-i l = (length l.files ≡ l.i) × (with_files l.files (file_words l.mode (drop l.i (texts l.args))) ≡ file_words l.mode (texts l.args))
