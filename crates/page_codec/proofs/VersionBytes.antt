-- The bytes of a version page that layers above speak of: their number, the first one, and those of the commit reference.
use Rattle.std.proofs.Common.{◌≡◌, ℕ, ◌-◌, ◌*◌, ◌^◌, List, [], ◌∷◌, ◌++◌, length, take, drop, refl, sym, ap, ◌∙◌, append_assoc, arith}
use Rattle.std.specs.Prelude.{Option, slice_index}
use Rattle.std.specs.List.{flat_map}
use Rattle.std.specs.Int.{w16, w32, w64}
use Rattle.std.proofs.lemmas.List.{take_at, drop_at, length-append}
use Rattle.ref_flags.specs.Codes.{code_of}
use Rattle.page_codec.specs.Numbers.{big_endian, field, zeros, or_zero}
use Rattle.page_codec.specs.Values.{VersionValue}
use Rattle.page_codec.specs.Bounds.{IsFrame}
use Rattle.page_codec.specs.Spelling.{head_bytes, reference_bytes, data_bytes, member_bytes, frame_bytes, version_middle, version_bytes}
use Rattle.page_codec.proofs.ByteLaws.{wide16, wide32, wide64, length-big_endian}
use Rattle.page_codec.proofs.FrameLaws.{length-slots}

-- a version page begins with the gate
pub first-version_bytes : (v : VersionValue) → slice_index (version_bytes v) 0 ≡ 165
unfolding version_bytes frame_bytes
first-version_bytes v = refl

-- the 82 bytes before the commit reference, and the 938 behind it
unfoldable pub version_front : VersionValue → List ℕ
version_front v =
    head_bytes 86 v.page.level (code_of v.root) ++ flat_map reference_bytes v.page.refs ++ big_endian w16 (length v.page.bytes)
    ++ big_endian w32 v.object ++ big_endian w64 v.serial

unfoldable pub version_back : VersionValue → List ℕ
version_back v =
    big_endian w32 (or_zero v.base) ++ length v.members ∷ [] ++ flat_map member_bytes v.members ++ zeros (128 - 8 * length v.members)
    ++ data_bytes v.page.bytes ++ big_endian w16 v.page.modified ++ zeros 3

regroup : (a b c d e f g h i j k l m : List ℕ) → a ++ b ++ c ++ (d ++ e ++ f ++ g ++ h ++ i ++ j) ++ k ++ l ++ m ≡ (a ++ b ++ c ++ d ++ e) ++ (f ++ (g ++ h ++ i ++ j ++ k ++ l ++ m))
regroup a b c d e f g h i j k l m = simp append_assoc

pub version_bytes-split : (v : VersionValue) → version_bytes v ≡ version_front v ++ (big_endian w32 (or_zero v.commit) ++ version_back v)
unfolding version_bytes frame_bytes version_middle version_front version_back
version_bytes-split v =
    regroup (head_bytes 86 v.page.level (code_of v.root)) (flat_map reference_bytes v.page.refs) (big_endian w16 (length v.page.bytes)) (big_endian w32 v.object) (big_endian w64 v.serial)
    (big_endian w32 (or_zero v.commit)) (big_endian w32 (or_zero v.base)) (length v.members ∷ []) (flat_map member_bytes v.members) (zeros (128 - 8 * length v.members))
    (data_bytes v.page.bytes) (big_endian w16 v.page.modified) (zeros 3)

pub length-version_front : (v : VersionValue) → IsFrame v.page → length (version_front v) ≡ 82
unfolding version_front
length-version_front v h =
    sums (head_bytes 86 v.page.level (code_of v.root)) (flat_map reference_bytes v.page.refs) (big_endian w16 (length v.page.bytes)) (big_endian w32 v.object) (big_endian w64 v.serial)
    refl (length-slots v.page h) (length-big_endian w16 (2 ^ 16) wide16 (length v.page.bytes)) (length-big_endian w32 (2 ^ 32) wide32 v.object) (length-big_endian w64 (2 ^ 64) wide64 v.serial)
  where
    sums : (a b c d e : List ℕ) → length a ≡ 4 → length b ≡ 64 → length c ≡ 2 → length d ≡ 4 → length e ≡ 8 → length (a ++ b ++ c ++ d ++ e) ≡ 82
    sums a b c d e ha hb hc hd he = simp length-append (omega arith)

-- the version with another commit reference
abbrev pub with_commit : VersionValue → Option ℕ → VersionValue
with_commit v commit = record v { commit = commit }

-- another commit reference changes bytes 82 to 86 alone
pub record ChangesCommit (v : VersionValue) (commit : Option ℕ) : Type 0 where
  pub before : take 82 (version_bytes (with_commit v commit)) ≡ take 82 (version_bytes v)
  pub written : field 82 4 (version_bytes (with_commit v commit)) ≡ big_endian w32 (or_zero commit)
  pub behind : drop 86 (version_bytes (with_commit v commit)) ≡ drop 86 (version_bytes v)

front_same : (v : VersionValue) (commit : Option ℕ) → version_front (with_commit v commit) ≡ version_front v
unfolding version_front
front_same v commit = refl

back_same : (v : VersionValue) (commit : Option ℕ) → version_back (with_commit v commit) ≡ version_back v
unfolding version_back
back_same v commit = refl

front_is : (v : VersionValue) → IsFrame v.page → take 82 (version_bytes v) ≡ version_front v
front_is v h = ap (take 82) (version_bytes-split v) ∙ take_at (version_front v) (big_endian w32 (or_zero v.commit) ++ version_back v) 82 (length-version_front v h)

commit_is : (v : VersionValue) → IsFrame v.page → field 82 4 (version_bytes v) ≡ big_endian w32 (or_zero v.commit)
commit_is v h =
    ap (λ (b : List ℕ). take 4 (drop 82 b)) (version_bytes-split v)
    ∙ ap (take 4) (drop_at (version_front v) (big_endian w32 (or_zero v.commit) ++ version_back v) 82 (length-version_front v h))
    ∙ take_at (big_endian w32 (or_zero v.commit)) (version_back v) 4 (length-big_endian w32 (2 ^ 32) wide32 (or_zero v.commit))

back_is : (v : VersionValue) → IsFrame v.page → drop 86 (version_bytes v) ≡ version_back v
back_is v h =
    let commit = big_endian w32 (or_zero v.commit) in
    let size : length (version_front v ++ commit) ≡ 86 = omega (arith, length-append (version_front v) commit, length-version_front v h, length-big_endian w32 (2 ^ 32) wide32 (or_zero v.commit)) in
    ap (drop 86) (version_bytes-split v ∙ sym (append_assoc (version_front v) commit (version_back v))) ∙ drop_at (version_front v ++ commit) (version_back v) 86 size

pub ChangesCommit-version_bytes : (v : VersionValue) (commit : Option ℕ) → IsFrame v.page → ChangesCommit v commit
ChangesCommit-version_bytes v commit h = record {
  before = front_is (with_commit v commit) h ∙ front_same v commit ∙ sym (front_is v h);
  written = commit_is (with_commit v commit) h;
  behind = back_is (with_commit v commit) h ∙ back_same v commit ∙ sym (back_is v h);
}
