use Rattle.std.proofs.Common.{◌≡◌, ◌<◌, ℕ, Some, length, slice_get}
use Rattle.afs_base.specs.declared.head.Head.{Head}
use Rattle.recovery.specs.Known.{heads_from}
use Rattle.recovery.proofs.known.heads_in.Given as goal

abbrev pub invariant-objects : goal.invariant-objects
invariant-objects l =
    record {
      value : (j : ℕ) → j < l.i → j < length l.chains → slice_get l.heads.items j ≡ slice_get (heads_from l.chains) j;
      even : length l.heads.items ≡ l.i;
      within : (k : ℕ) (head : Head) → slice_get l.heads.items k ≡ Some (Some head) → head.block < l.fn.blocks;
    }
