-- A version page that was read, and the bytes of a new one.
use Rattle.std.proofs.Common.{◌≡◌, ℕ, Option, Some, None, List, [], Ok, slice_index, refl, ap, ◌∙◌}
use Rattle.page_codec.specs.declared.why.Why.{Why}
use Rattle.page_codec.specs.Values.{MemberValue, VersionValue}
use Rattle.page_codec.specs.Causes.{cause_or, first_cause, version_causes, version_of}
use Rattle.page_codec.specs.Reading.{version_value}
use Rattle.page_codec.specs.Spelling.{frame_bytes, version_bytes}

value_of : (o : Option Why) (x v : VersionValue) → cause_or o x ≡ Ok v → v ≡ x
value_of None x v is = cc is
value_of (Some why) x v is = cc is

-- what was read is what the bytes say
pub read_value : (b : List ℕ) (v : VersionValue) → version_of b ≡ Ok v → v ≡ version_value b
read_value b v is = value_of (first_cause (version_causes b)) (version_value b) v is

-- a version page begins with an open gate
pub version_gate : (v : VersionValue) → slice_index (version_bytes v) 0 ≡ 165
unfolding version_bytes frame_bytes
version_gate v = refl

-- members that are none, in bytes
pub bytes_cleared : (v w : VersionValue) (members : List MemberValue) → v ≡ w → members ≡ [] → version_bytes (record v { members = members }) ≡ version_bytes (record w { members = [] })
bytes_cleared v w members same none = ap (λ (m : List MemberValue). version_bytes (record v { members = m })) none ∙ ap (λ (u : VersionValue). version_bytes (record u { members = [] })) same
