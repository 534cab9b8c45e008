-- The images of halves that remember each moment.
use Rattle.std.specs.Prelude.{◌≡◌, ◌⊎◌, ℕ, ◌<◌, List, [], ◌∷◌, length}
use Rattle.drives.specs.declared.device.Half.{Half}
use Rattle.drives.specs.declared.sure.Moment.{Moment}
use Rattle.drives.specs.declared.sure.SureHalf.{SureHalf}
use Rattle.drives.specs.declared.sure.SureDrives.{SureDrives}
use Rattle.drives.specs.Half.{one_of}
use Rattle.drives.specs.Images.{IsImage}

-- an image of a moment that has passed; the newest comes first, and moment t is the one with t
-- moments behind it
abbrev pub WasLeft : List Moment → ℕ → List ℕ → Type 0
WasLeft [] t c = ⊥
WasLeft (m ∷ past) t c = ((t ≡ length past) × IsImage m.spans.value m.bytes.value.items c) ⊎ ((t < length past) × WasLeft past t c)

-- an image of a moment, the present one or one that has passed
abbrev pub IsLeft : SureHalf → ℕ → List ℕ → Type 0
IsLeft half t c = ((t ≡ length half.past) × IsImage half.spans half.bytes.items c) ⊎ ((t < length half.past) × WasLeft half.past t c)

-- one of the halves
abbrev pub sure_half : SureDrives → Half → SureHalf
sure_half d h = one_of d.a d.b h

-- the present moment of a half has become one that has passed
pub record Remembers (before after : SureHalf) : Type 0 where
  pub moment : Moment
  pub past : after.past ≡ moment ∷ before.past
  pub past_bytes : moment.bytes.value ≡ before.bytes
  pub past_spans : moment.spans.value ≡ before.spans
  pub bytes : after.bytes ≡ before.bytes
  pub spans : after.spans ≡ before.spans
  pub last : after.last ≡ before.last
