-- A fact on each half is a fact on A and one on B.
use Rattle.drives.specs.declared.device.Half.{Half}
use Rattle.drives.specs.declared.device.Half.TheVariants.{A, B}

pub each_half : (P : Half → Type 0) → P A → P B → (h : Half) → P h
each_half P a b A = a
each_half P a b B = b
