use Rattle.std.proofs.Common.{ℕ, List, length, ◌++◌, drop, replicate, sym, subst}
use Rattle.afs_base.specs.Filled.{IsFilled}
use Rattle.afs_base.proofs.FilledLemmas.{filled_by}
use Rattle.afs_base.proofs.page_data.PageData.of.Goals as goal

pub invariant_of-result : goal.invariant_of-result
invariant_of-result c =
    let P : List ℕ → Type 0 = λ xs. IsFilled 800 (length c.args.bytes.now) (xs ++ drop (length c.args.bytes.now) (replicate 800 0)) in
    subst P (sym c.copy_from_slice.ensures.after) (filled_by 800 c.args.bytes.now c.requires)
