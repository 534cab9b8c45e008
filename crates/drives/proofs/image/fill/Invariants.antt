use Rattle.std.proofs.Common.{◌≡◌, ℕ, ◌<◌, ◌≤◌, ◌⊎◌, length, slice_index}
use Rattle.drives.proofs.image.fill.Given as goal

abbrev pub invariant-loop-i : goal.invariant-loop-i
invariant-loop-i l = record {
  size : length l.half.items ≡ length l.initial.half.items;
  outside : (k : ℕ) → (k < l.start) ⊎ (l.i ≤ k) → slice_index l.half.items k ≡ slice_index l.initial.half.items k;
  filled : (k : ℕ) → l.start ≤ k → k < l.i → slice_index l.half.items k ≡ l.byte;
}
