use Rattle.std.proofs.Common.{◌≤◌, length}
use Rattle.drive_file.proofs.file_half.FileHalf.read_up_to.Given as goal

abbrev pub invariant-loop : goal.invariant-loop
invariant-loop l = l.filled ≤ length l.buf
