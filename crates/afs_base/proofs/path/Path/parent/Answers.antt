use Rattle.std.proofs.Common.{◌≡◌, ℕ, ◌+◌, ◌-◌, subst, refl, sym, arith}
use Rattle.std.proofs.Math.ListN.{set}
use Rattle.afs_base.specs.Filled.{IsFilled}
use Rattle.afs_base.proofs.FilledLemmas.{filled_less}
use Rattle.afs_base.proofs.PathLemmas.{are_slots-set}
use Rattle.afs_base.proofs.path.Path.parent.Goals as goal

pub invariant_of-result : goal.invariant_of-result
invariant_of-result c =
    let above : c.self.inside.len ≡ c.self.inside.len - 1 + 1 = omega arith in
    let P : ℕ → Type 0 = λ n. IsFilled 7 n c.self.inside.slots in
    let Q : ℕ → Type 0 = λ x. IsFilled 7 (c.self.inside.len - 1) (set c.self.inside.slots (c.self.inside.len - 1) x) in (
      subst Q (sym c.first.ensures) (filled_less 7 (c.self.inside.len - 1) c.self.inside.slots (subst P above c.self.invariant.0)),
      are_slots-set c.self.inside.slots (c.self.inside.len - 1) c.first.result c.self.invariant.1 (rw c.first.ensures refl),
    )
