use Rattle.std.proofs.Common.{◌≡◌, ◌==◌, ◌≤◌, drop, length}
use Rattle.std.specs.List.{slice_split}
use Rattle.script_text.specs.Words.{slots_of}
use Rattle.script_text.proofs.Prepending.{with_slots}
use Rattle.script_text.proofs.path_word.slots_path.Given as goal

abbrev pub invariant-loop-word : goal.invariant-loop-word
invariant-loop-word l = record {
  count : length l.path ≡ length l.yielded;
  short : length l.path ≤ 7;
  slots : with_slots l.path (slots_of (drop (length l.yielded) (slice_split (λ b. b == 47) l.words))) ≡ slots_of (slice_split (λ b. b == 47) l.words);
}
