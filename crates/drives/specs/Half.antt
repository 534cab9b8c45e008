-- The two halves.
use Rattle.std.specs.Prelude.{ℕ}
use Rattle.drives.specs.declared.device.Half.{Half}
use Rattle.drives.specs.declared.device.Half.TheVariants.{A, B}

-- the half that this one is not
abbrev pub other : Half → Half
other A = B
other B = A

-- A stands before B
abbrev pub half_place : Half → ℕ
half_place A = 0
half_place B = 1

-- what stands for one of two halves
abbrev pub one_of : {T : Type 0} → T → T → Half → T
one_of a b A = a
one_of a b B = b
