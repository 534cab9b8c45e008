use Rattle.afs_base.proofs.PathLemmas.{starts_with-is_prefix}
use Rattle.afs_base.proofs.path.Path.is_prefix_of.Goals as goal

pub returns : goal.returns
returns c = rw (← starts_with-is_prefix, ← c.as_slice.ensures, ← c.as_slice-2.ensures) c.starts_with.ensures.value
