-- A version page that is read is spelled so, and a version page that is spelled is read.
use Rattle.std.proofs.Common.{◌≡◌, ℕ, zero, suc, ◌+◌, ◌-◌, ◌*◌, ◌^◌, ◌≤◌, ◌<◌, false, ◌||◌, ltb, leb, List, [], ◌∷◌, ◌++◌, length, take, drop, map, refl, sym, ap, subst, ◌∙◌, arith}
use Rattle.std.specs.Prelude.{Option, Some, None, Result, Ok, Err, IfOk, slice_index}
use Rattle.std.specs.List.{list_any, flat_map}
use Rattle.std.specs.Int.{w32, w64}
use Rattle.std.proofs.lemmas.List.{take-append-drop, length-append, length-drop}
use Rattle.ref_flags.specs.Flagged.{Flagged}
use Rattle.ref_flags.specs.Codes.{code_of, flags_of}
use Rattle.ref_flags.proofs.CodeLaws.{flags_of-code_of, code_of-le, code_of-flags_of, is_lawful-flags_of}
use Rattle.page_codec.specs.declared.why.Why.{Why}
use Rattle.page_codec.specs.declared.why.BadPage.{BadPage}
use Rattle.page_codec.specs.Numbers.{big_endian, field, number_at, zeros, pieces, or_zero, or_none}
use Rattle.page_codec.specs.Values.{PageValue, MemberValue, VersionValue}
use Rattle.page_codec.specs.Bounds.{IsVersion}
use Rattle.page_codec.specs.Spelling.{frame_bytes, member_bytes, version_middle, version_bytes}
use Rattle.page_codec.specs.Reading.{slots, data_len, member_value, members_value, frame_value, version_value}
use Rattle.page_codec.specs.Causes.{Reads, cause_or, first_cause, version_causes, version_of, is_no_code, is_dangling, is_nonzero, is_bad_member, has_other, has_other_past}
use Rattle.page_codec.specs.Facts.{VersionFacts}
use Rattle.page_codec.proofs.CauseLaws.{clear_none, both_false, passes_same, passes_positive, passes_most, passes_below}
use Rattle.page_codec.proofs.FactLaws.{VersionFacts-none}
use Rattle.page_codec.proofs.FieldLaws.{field-field}
use Rattle.page_codec.proofs.ByteLaws.{IsBytes-drop, wide32, wide64, length-big_endian, big_endian-number_at, number_at-lt, number_at-big_endian, zeros_field, zeros_pass, length-zeros, fields, sum_of, concat-fields}
use Rattle.page_codec.proofs.PieceLaws.{pieces_read, pieces_again, length-flat_map-spell}
use Rattle.page_codec.proofs.SlotLaws.{IsNamed-or_none, or_none-below, or_zero-or_none, or_none-or_zero, or_zero-below}
use Rattle.page_codec.proofs.MemberLaws.{HasNumbers, length-member_bytes, member_law, members_good, members_numbers, members_pass}
use Rattle.page_codec.proofs.FrameLaws.{IsBlock, fields_join, fields_cut, are_seven, byte_in_field, frame_read, IsFrame-frame_value, IsFramed-frame_bytes, IsFrameRead-framed, length-frame_bytes}

-- ---- what is read is spelled so

single : (b : List ℕ) (at : ℕ) → at < length b → field at 1 b ≡ slice_index b at ∷ []
single (x ∷ b) zero h = refl
single (x ∷ b) (suc at) h = single b at (omega arith)
single [] at h = absurd (omega arith)

-- the fields that are a version page's own
middle_read : (b : List ℕ) → IsBlock b → VersionFacts b → field 70 149 b ≡ version_middle (version_value b)
unfolding version_middle version_value members_value
middle_read b block facts =
    let n = slice_index b 90 in
    let m = 8 * n in
    let few : n ≤ 16 = facts.count in
    let size : length b ≡ 1024 = block.size in
    let read = pieces_read 8 member_value member_bytes HasNumbers member_law n (drop 91 b) (IsBytes-drop 91 b block.fits) (omega (arith, length-drop 91 b, size, few)) in
    let ms = map member_value (pieces 8 n (drop 91 b)) in
    let count : length ms ≡ n = read.count in
    let tail : 219 - (91 + m) ≡ 128 - m = omega (arith, few) in
    let rest : field (91 + m) (128 - m) b ≡ zeros (128 - m) =
    zeros_field (91 + m) (128 - m) b (omega (arith, size, few)) (ap (λ (k : ℕ). list_any is_nonzero (take k (drop (91 + m) b))) (sym tail) ∙ facts.rest) in
    let behind : field (91 + m) (128 - m) b ≡ zeros (128 - 8 * length ms) = rest ∙ ap (λ (k : ℕ). zeros (128 - 8 * k)) (sym count) in
    let sum : sum_of (4 ∷ 8 ∷ 4 ∷ 4 ∷ 1 ∷ m ∷ (128 - m) ∷ []) ≡ 149 = omega (arith, few) in
    let number : (at : ℕ) → at ≤ 100 → field at 4 b ≡ big_endian w32 (number_at w32 at b) = λ at lt. sym (big_endian-number_at w32 (2 ^ 32) wide32 at b block.fits (omega (arith, size, lt))) in
    ap (λ (k : ℕ). field 70 k b) (sym sum) ∙ sym (concat-fields 70 (4 ∷ 8 ∷ 4 ∷ 4 ∷ 1 ∷ m ∷ (128 - m) ∷ []) b)
    ∙ fields_join (field 70 4 b) (field 74 8 b) (field 82 4 b) (field 86 4 b) (field 90 1 b) (field 91 m b) (field (91 + m) (128 - m) b)
    (big_endian w32 (number_at w32 70 b)) (big_endian w64 (number_at w64 74 b)) (big_endian w32 (or_zero (or_none (number_at w32 82 b)))) (big_endian w32 (or_zero (or_none (number_at w32 86 b))))
    (length ms ∷ []) (flat_map member_bytes ms) (zeros (128 - 8 * length ms))
    (record {
      e1 = number 70 (omega arith);
      e2 = sym (big_endian-number_at w64 (2 ^ 64) wide64 74 b block.fits (omega (arith, size)));
      e3 = number 82 (omega arith) ∙ ap (big_endian w32) (sym (or_zero-or_none (number_at w32 82 b)));
      e4 = number 86 (omega arith) ∙ ap (big_endian w32) (sym (or_zero-or_none (number_at w32 86 b)));
      e5 = single b 90 (omega (arith, size)) ∙ ap (λ (k : ℕ). k ∷ []) (sym count);
      e6 = sym read.spelled;
      e7 = behind;
    })

page_in : (b : List ℕ) → frame_value b ≡ (version_value b).page
unfolding version_value
page_in b = refl

level_in : (b : List ℕ) → slice_index b 2 ≡ (version_value b).page.level
unfolding version_value frame_value
level_in b = refl

pub IsVersion-version_value : (b : List ℕ) → IsBlock b → VersionFacts b → IsVersion (version_value b)
unfolding version_value members_value
IsVersion-version_value b block facts =
    let few : slice_index b 90 ≤ 16 = facts.count in
    let read = pieces_read 8 member_value member_bytes HasNumbers member_law (slice_index b 90) (drop 91 b) (IsBytes-drop 91 b block.fits) (omega (arith, length-drop 91 b, block.size, few)) in
    record {
      sound = record {
        top = sym (level_in b) ∙ facts.top;
        object = facts.object;
        serial = facts.serial;
        commit = IsNamed-or_none (number_at w32 82 b);
        base = IsNamed-or_none (number_at w32 86 b);
      };
      frame = IsFrame-frame_value b block facts.frame;
      lawful = is_lawful-flags_of (slice_index b 3) facts.code;
      object_below = number_at-lt w32 (2 ^ 32) wide32 70 b block.fits;
      serial_below = number_at-lt w64 (2 ^ 64) wide64 74 b block.fits;
      commit_below = or_none-below (number_at w32 82 b) (2 ^ 28) facts.commit;
      base_below = or_none-below (number_at w32 86 b) (2 ^ 28) facts.base;
      count = omega (arith, read.count, few);
      each = members_good (map member_value (pieces 8 (slice_index b 90) (drop 91 b))) read.good facts.each;
    }

root_code : (b : List ℕ) → slice_index b 3 ≤ 12 → code_of (version_value b).root ≡ slice_index b 3
unfolding version_value
root_code b h = code_of-flags_of (slice_index b 3) h

pub version_of-found : (b : List ℕ) → IsBlock b → VersionFacts b → IsVersion (version_value b) × (b ≡ version_bytes (version_value b))
unfolding version_bytes
version_of-found b block facts = (
  IsVersion-version_value b block facts,
  frame_read b block facts.frame
      ∙ ap (λ (k : ℕ). frame_bytes k (slice_index b 3) (frame_value b) (field 70 149 b)) facts.kind
      ∙ ap (λ (c : ℕ). frame_bytes 86 c (frame_value b) (field 70 149 b)) (sym (root_code b facts.code))
      ∙ ap (frame_bytes 86 (code_of (version_value b).root) (frame_value b)) (middle_read b block facts)
      ∙ ap (λ (p : PageValue). frame_bytes 86 (code_of (version_value b).root) p (version_middle (version_value b))) (page_in b),
)

-- ---- what is spelled so is read

length-member : (m : MemberValue) → length (member_bytes m) ≡ 8
length-member m = length-member_bytes m

pub length-version_middle : (v : VersionValue) → length v.members ≤ 16 → length (version_middle v) ≡ 149
unfolding version_middle
length-version_middle v few =
    sums (big_endian w32 v.object) (big_endian w64 v.serial) (big_endian w32 (or_zero v.commit)) (big_endian w32 (or_zero v.base)) (length v.members ∷ []) (flat_map member_bytes v.members)
    (zeros (128 - 8 * length v.members)) (length v.members) few (length-big_endian w32 (2 ^ 32) wide32 v.object) (length-big_endian w64 (2 ^ 64) wide64 v.serial)
    (length-big_endian w32 (2 ^ 32) wide32 (or_zero v.commit)) (length-big_endian w32 (2 ^ 32) wide32 (or_zero v.base)) refl
    (length-flat_map-spell member_bytes 8 length-member v.members) (length-zeros (128 - 8 * length v.members))
  where
    sums : (a b c d e f g : List ℕ) (n : ℕ) → n ≤ 16 → length a ≡ 4 → length b ≡ 8 → length c ≡ 4 → length d ≡ 4 → length e ≡ 1 → length f ≡ 8 * n → length g ≡ 128 - 8 * n
        → length (a ++ b ++ c ++ d ++ e ++ f ++ g) ≡ 149
    sums a b c d e f g n h ha hb hc hd he hf hg = simp length-append (omega arith)

-- a version page has 1,024 bytes
pub length-version_bytes : (v : VersionValue) → IsVersion v → length (version_bytes v) ≡ 1024
unfolding version_bytes
length-version_bytes v h = length-frame_bytes 86 (code_of v.root) v.page (version_middle v) h.frame (length-version_middle v h.count)

-- the fields of a field are fields of the whole
fields-within : (k from len at : ℕ) (ws bytes : List ℕ) → from + k ≡ at → k + sum_of ws ≤ len → fields k ws (field from len bytes) ≡ fields at ws bytes
fields-within k from len at [] bytes e h = refl
fields-within k from len at (w ∷ ws) bytes e h =
    let first : field k w (field from len bytes) ≡ field at w bytes = field-field k w from len at bytes e (omega arith) in
    let rest : fields (k + w) ws (field from len bytes) ≡ fields (at + w) ws bytes = fields-within (k + w) from len (at + w) ws bytes (omega arith) (omega arith) in
    cc

-- a version page's own fields
pub record IsMiddle (b : List ℕ) (v : VersionValue) : Type 0 where
  pub object : field 70 4 b ≡ big_endian w32 v.object
  pub serial : field 74 8 b ≡ big_endian w64 v.serial
  pub commit : field 82 4 b ≡ big_endian w32 (or_zero v.commit)
  pub base : field 86 4 b ≡ big_endian w32 (or_zero v.base)
  pub count : field 90 1 b ≡ length v.members ∷ []
  pub members : field 91 (8 * length v.members) b ≡ flat_map member_bytes v.members
  pub rest : field (91 + 8 * length v.members) (128 - 8 * length v.members) b ≡ zeros (128 - 8 * length v.members)

pub IsMiddle-version_middle : (b : List ℕ) (v : VersionValue) → length v.members ≤ 16 → field 70 149 b ≡ version_middle v → IsMiddle b v
unfolding version_middle
IsMiddle-version_middle b v few e =
    let m = 8 * length v.members in
    let within : 0 + sum_of (4 ∷ 8 ∷ 4 ∷ 4 ∷ 1 ∷ m ∷ (128 - m) ∷ []) ≤ 149 = omega (arith, few) in
    let cut = sym (fields-within 0 70 149 70 (4 ∷ 8 ∷ 4 ∷ 4 ∷ 1 ∷ m ∷ (128 - m) ∷ []) b refl within)
    ∙ ap (fields 0 (4 ∷ 8 ∷ 4 ∷ 4 ∷ 1 ∷ m ∷ (128 - m) ∷ [])) e
    ∙ fields_cut [] (big_endian w32 v.object) (big_endian w64 v.serial) (big_endian w32 (or_zero v.commit)) (big_endian w32 (or_zero v.base)) (length v.members ∷ []) (flat_map member_bytes v.members) (zeros (128 - m))
    0 4 8 4 4 1 m (128 - m) refl (length-big_endian w32 (2 ^ 32) wide32 v.object) (length-big_endian w64 (2 ^ 64) wide64 v.serial)
    (length-big_endian w32 (2 ^ 32) wide32 (or_zero v.commit)) (length-big_endian w32 (2 ^ 32) wide32 (or_zero v.base)) refl
    (length-flat_map-spell member_bytes 8 length-member v.members) (length-zeros (128 - m)) in
    let are = are_seven (field 70 4 b) (field 74 8 b) (field 82 4 b) (field 86 4 b) (field 90 1 b) (field 91 m b) (field (91 + m) (128 - m) b)
    (big_endian w32 v.object) (big_endian w64 v.serial) (big_endian w32 (or_zero v.commit)) (big_endian w32 (or_zero v.base)) (length v.members ∷ []) (flat_map member_bytes v.members) (zeros (128 - m)) cut in
    record { object = are.e1; serial = are.e2; commit = are.e3; base = are.e4; count = are.e5; members = are.e6; rest = are.e7 }

members_again : (b : List ℕ) (v : VersionValue) → IsVersion v → IsMiddle b v → slice_index b 90 ≡ length v.members → members_value b ≡ v.members
unfolding members_value
members_again b v h inner count =
    let m = 8 * length v.members in
    let rest = drop m (drop 91 b) in
    let split : drop 91 b ≡ flat_map member_bytes v.members ++ rest = sym (take-append-drop m (drop 91 b)) ∙ ap (λ (x : List ℕ). x ++ rest) inner.members in
    ap (λ (n : ℕ). map member_value (pieces 8 n (drop 91 b))) count ∙ ap (λ (x : List ℕ). map member_value (pieces 8 (length v.members) x)) split
    ∙ pieces_again 8 member_value member_bytes HasNumbers member_law v.members rest (members_numbers v.members h.each)

same_version : (r t : Flagged) (p q : PageValue) (o m s n : ℕ) (c d k l : Option ℕ) (xs ys : List MemberValue) → r ≡ t → p ≡ q → o ≡ m → s ≡ n → c ≡ d → k ≡ l → xs ≡ ys
    → (let w : VersionValue = record { root = r; page = p; object = o; serial = s; commit = c; base = k; members = xs } in w) ≡ record { root = t; page = q; object = m; serial = n; commit = d; base = l; members = ys }
same_version r t p q o m s n c d k l xs ys e1 e2 e3 e4 e5 e6 e7 = cc

-- where the facts hold, no cause applies
pub version_causes-none : (b : List ℕ) → VersionFacts b → first_cause (version_causes b) ≡ None
unfolding version_causes
version_causes-none b facts =
    let code = both_false (ltb 12 (slice_index b 3)) (list_any is_no_code (slots b)) (passes_most 12 (slice_index b 3) facts.code) facts.frame.coded in
    let links = both_false (leb (2 ^ 28) (number_at w32 82 b)) (leb (2 ^ 28) (number_at w32 86 b)) (passes_below (2 ^ 28) (number_at w32 82 b) facts.commit) (passes_below (2 ^ 28) (number_at w32 86 b) facts.base) in
    let slot = both_false (list_any is_dangling (slots b)) (leb (2 ^ 28) (number_at w32 82 b) || leb (2 ^ 28) (number_at w32 86 b)) facts.frame.named links in
    let members = both_false (ltb 16 (slice_index b 90)) (list_any is_bad_member (members_value b)) (passes_most 16 (slice_index b 90) facts.count) facts.each in
    let zero = both_false (has_other (91 + 8 * slice_index b 90) 219 b) (has_other_past b) facts.rest facts.frame.past in
    clear_none (version_causes b) (
      passes_same (slice_index b 0) 165 facts.frame.gate,
      (
        passes_same (slice_index b 1) 86 facts.kind,
        (
          passes_same (slice_index b 2) 0 facts.top,
          (
            code,
            (
              slot,
              (passes_most 800 (data_len b) facts.frame.short, (passes_positive (number_at w32 70 b) facts.object, (passes_positive (number_at w64 74 b) facts.serial, (members, (zero, tt))))),
            ),
          ),
        ),
      ),
    )

pub record IsVersionRead (b : List ℕ) (v : VersionValue) : Type 0 where
  pub value : version_value b ≡ v
  pub facts : VersionFacts b

pub IsVersionRead-version_bytes : (b : List ℕ) (v : VersionValue) → IsVersion v → b ≡ version_bytes v → IsVersionRead b v
unfolding version_bytes version_value
IsVersionRead-version_bytes b v h e =
    let few : length v.members ≤ 16 = h.count in
    let framed = IsFramed-frame_bytes b 86 (code_of v.root) v.page (version_middle v) h.frame (length-version_middle v few) e in
    let read = IsFrameRead-framed b 86 (code_of v.root) v.page (version_middle v) h.frame framed in
    let inner = IsMiddle-version_middle b v few framed.inner in
    let object : number_at w32 70 b ≡ v.object = number_at-big_endian w32 (2 ^ 32) wide32 70 v.object b h.object_below inner.object in
    let serial : number_at w64 74 b ≡ v.serial = number_at-big_endian w64 (2 ^ 64) wide64 74 v.serial b h.serial_below inner.serial in
    let commit_small : or_zero v.commit < 2 ^ 28 = or_zero-below v.commit (2 ^ 28) (omega arith) h.commit_below in
    let base_small : or_zero v.base < 2 ^ 28 = or_zero-below v.base (2 ^ 28) (omega arith) h.base_below in
    let commit : number_at w32 82 b ≡ or_zero v.commit = number_at-big_endian w32 (2 ^ 32) wide32 82 (or_zero v.commit) b (omega (arith, commit_small)) inner.commit in
    let base : number_at w32 86 b ≡ or_zero v.base = number_at-big_endian w32 (2 ^ 32) wide32 86 (or_zero v.base) b (omega (arith, base_small)) inner.base in
    let count : slice_index b 90 ≡ length v.members = byte_in_field b 90 1 0 90 refl (omega arith) ∙ ap (λ (x : List ℕ). slice_index x 0) inner.count in
    let members : members_value b ≡ v.members = members_again b v h inner count in
    let code : code_of v.root ≤ 12 = code_of-le v.root h.lawful in
    let root : flags_of (slice_index b 3) ≡ v.root = ap flags_of read.code_is ∙ flags_of-code_of v.root h.lawful in
    let n = length v.members in
    let behind : has_other (91 + 8 * slice_index b 90) 219 b ≡ false =
    ap (λ (k : ℕ). has_other (91 + 8 * k) 219 b) count
    ∙ ap (λ (k : ℕ). list_any is_nonzero (take k (drop (91 + 8 * n) b))) (let k : 219 - (91 + 8 * n) ≡ 128 - 8 * n = omega arith in k)
    ∙ ap (list_any is_nonzero) inner.rest ∙ zeros_pass (128 - 8 * n) in
    let object_least : 1 ≤ v.object = h.sound.object in
    let serial_least : 1 ≤ v.serial = h.sound.serial in
    record {
      value = same_version (flags_of (slice_index b 3)) v.root (frame_value b) v.page (number_at w32 70 b) v.object (number_at w64 74 b) v.serial (or_none (number_at w32 82 b)) v.commit (or_none (number_at w32 86 b)) v.base (members_value b) v.members
          root read.value object serial (ap or_none commit ∙ or_none-or_zero v.commit h.sound.commit) (ap or_none base ∙ or_none-or_zero v.base h.sound.base) members;
      facts = record {
        frame = read.facts;
        kind = read.kind_is;
        top = read.level_is ∙ h.sound.top;
        code = omega (arith, read.code_is, code);
        commit = omega (arith, commit, commit_small);
        base = omega (arith, base, base_small);
        object = omega (arith, object, object_least);
        serial = omega (arith, serial, serial_least);
        count = omega (arith, count, few);
        each = ap (list_any is_bad_member) members ∙ members_pass v.members h.each;
        rest = behind;
      };
    }

-- a version page that is spelled is read
pub version_of-version_bytes : (b : List ℕ) (v : VersionValue) → IsVersion v → b ≡ version_bytes v → version_of b ≡ Ok v
version_of-version_bytes b v h e =
    let read = IsVersionRead-version_bytes b v h e in
    ap (λ (o : Option Why). cause_or o (version_value b)) (version_causes-none b read.facts) ∙ ap (λ (w : VersionValue). Ok w) read.value

-- ---- what a decoder returned

settled : (o : Option Why) (x y : VersionValue) → cause_or o x ≡ Ok y → (o ≡ None) × (x ≡ y)
settled None x y e = (refl, cc)
settled (Some w) x y e = absurd cc

pub version_found : (b : List ℕ) (r : Result VersionValue BadPage) → IsBlock b → Reads r (version_of b) → IfOk r (λ v. IsVersion v × (b ≡ version_bytes v))
version_found b (Ok v) block e =
    let both = settled (first_cause (version_causes b)) (version_value b) v e in
    subst (λ (w : VersionValue). IsVersion w × (b ≡ version_bytes w)) both.1 (version_of-found b block (VersionFacts-none b both.0))
version_found b (Err w) block e = tt

pub version_only : (b : List ℕ) (r : Result VersionValue BadPage) → Reads r (version_of b) → (v : VersionValue) → IsVersion v → b ≡ version_bytes v → Reads r (Ok v)
version_only b r e v h spelled = subst (λ (q : Result VersionValue Why). Reads r q) (version_of-version_bytes b v h spelled) e
