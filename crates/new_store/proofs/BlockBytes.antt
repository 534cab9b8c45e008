-- The blocks of the table begin with an open gate.
use Rattle.std.proofs.Common.{◌≡◌, ℕ, List, refl}
use Rattle.std.specs.Prelude.{slice_index}
use Rattle.page_codec.specs.Values.{EntryValue, RootValue}
use Rattle.page_codec.specs.TableSpelling.{part_bytes, root_bytes}

pub first-root_bytes : (r : RootValue) → slice_index (root_bytes r) 0 ≡ 165
unfolding root_bytes
first-root_bytes r = refl

pub first-part_bytes : (j : ℕ) (entries : List EntryValue) → slice_index (part_bytes j entries) 0 ≡ 165
unfolding part_bytes
first-part_bytes j entries = refl
