use Rattle.std.proofs.Common.{◌≡◌, ℕ, List, true, subst}
use Rattle.afs_base.specs.Path.{are_slots}
use Rattle.afs_base.proofs.PathLemmas.{are_slots-take}
use Rattle.afs_base.proofs.path.Path.len.Goals as goal

pub returns-clause-slots : goal.returns-clause-slots
returns-clause-slots c =
    let P : List ℕ → Type 0 = λ xs. are_slots xs ≡ true in
    subst P c.self.view_is (are_slots-take c.self.inside.len c.self.inside.slots c.self.invariant.1)
