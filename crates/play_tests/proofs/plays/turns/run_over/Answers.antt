use Rattle.std.proofs.Common.{◌≡◌, ◌≤◌, ◌<◌, ℕ, length, Some, slice_get, arith}
use Rattle.afs_base.specs.declared.head.Head.{Head}
use Rattle.drives.specs.contracts.memory.MemDrivesDrives.TheImpl.{ghosts}
use Rattle.play_tests.proofs.plays.turns.run_over.Goals as goal

pub on_halves-requires-clause-within : goal.on_halves-requires-clause-within
on_halves-requires-clause-within c =
    let size : ghosts.size c.in-Ok.opened.pair.drives ≡ ghosts.size c.args.drives = c.in-Ok.ensures.size in
    let fits : length c.in-Ok.opened.map ≤ ghosts.size c.args.drives = c.in-Ok.ensures.fits in
    let within : (k : ℕ) (head : Head) → slice_get c.in-Ok.opened.heads.items k ≡ Some (Some head) → head.block < ghosts.size c.args.drives = c.in-Ok.ensures.within in
    record {
      map = omega (arith, fits, size);
      heads = λ k head at. (let low = within k head at in omega (arith, low, size));
    }
