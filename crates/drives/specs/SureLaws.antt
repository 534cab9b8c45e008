-- Why halves that remember each moment hold bytes, and leave bytes.
use Rattle.std.specs.Prelude.{◌⊎◌, ℕ, List, [], ◌∷◌}
use Rattle.std.proofs.Common.{inl, inr}
use Rattle.drives.specs.declared.device.Half.{Half}
use Rattle.drives.specs.declared.device.Half.TheVariants.{A, B}
use Rattle.drives.specs.declared.sure.Moment.{Moment}
use Rattle.drives.specs.declared.sure.SureHalf.{SureHalf}
use Rattle.drives.specs.declared.sure.SureDrives.{SureDrives}
use Rattle.drives.specs.Bytes.{IsBytes}
use Rattle.drives.specs.Sure.{IsLeft, WasLeft, sure_half}

past_fits : (past : List Moment) (t : ℕ) (c : List ℕ) → WasLeft past t c → IsBytes c
past_fits [] t c left = absurd left
past_fits (m ∷ past) t c (inl (now, image)) = image.fits
past_fits (m ∷ past) t c (inr (before, left)) = past_fits past t c left

pub left_fits : (d : SureDrives) (h : Half) (t : ℕ) (c : List ℕ) → IsLeft (sure_half d h) t c → IsBytes c
left_fits d h t c (inl (now, image)) = image.fits
left_fits d h t c (inr (before, left)) = past_fits (sure_half d h).past t c left

pub seen_fits : (d : SureDrives) (h : Half) → IsBytes (sure_half d h).bytes.items
seen_fits d A = d.fits_a
seen_fits d B = d.fits_b
