use Rattle.std.proofs.Common.{◌≡◌, ℕ, ◌+◌, ◌*◌, ◌≤◌, length}
use Rattle.page_codec.specs.NewStore.{block_of, new_root, new_version}
use Rattle.page_codec.specs.Spelling.{version_bytes}
use Rattle.page_codec.specs.TableSpelling.{root_bytes}
use Rattle.page_codec.proofs.fresh.fresh_image.Given as goal

abbrev pub invariant-loop-done : goal.invariant-loop-done
invariant-loop-done l = record {
  size : length l.image.items ≡ 1024 * (l.done + 1);
  table : block_of 0 l.image.items ≡ root_bytes (new_root l.files l.blocks l.key);
  pages : (i : ℕ) → 1 ≤ i → i ≤ l.done → block_of i l.image.items ≡ version_bytes (new_version i);
}
