-- What both kinds of page have in common: what is read is spelled so, and what is spelled so is read.
use Rattle.std.proofs.Common.{◌≡◌, ℕ, ◌+◌, ◌-◌, ◌^◌, ◌<◌, ◌≤◌, false, List, [], ◌∷◌, ◌++◌, length, take, drop, map, refl, sym, ap, ◌∙◌, arith}
use Rattle.std.specs.Prelude.{slice_index}
use Rattle.std.specs.List.{list_any, flat_map, concat, AllByRecursion}
use Rattle.std.specs.Int.{w16, w32}
use Rattle.std.proofs.lemmas.List.{append-nil, take_at, drop_at, take_all, take-take, get_or-take, get_or-drop, length-append, length-map}
use Rattle.page_codec.specs.Numbers.{IsBytes, big_endian, field, number_at, zeros, pieces}
use Rattle.page_codec.specs.Values.{ReferenceValue, PageValue}
use Rattle.page_codec.specs.Bounds.{IsReference, IsFrame}
use Rattle.page_codec.specs.Spelling.{reference_number, reference_bytes, data_bytes, head_bytes, frame_bytes}
use Rattle.page_codec.specs.Reading.{slots, reference, data_len, frame_value}
use Rattle.page_codec.specs.Causes.{is_no_code, is_dangling, is_nonzero, has_other}
use Rattle.page_codec.specs.Facts.{FrameFacts}
use Rattle.page_codec.proofs.CauseLaws.{neither, both_false}
use Rattle.page_codec.proofs.FieldLaws.{field-field, length-field}
use Rattle.page_codec.proofs.ByteLaws.{IsBytes-field, wide16, wide32, length-big_endian, big_endian-number_at, number_at-lt, number_at-big_endian, length-zeros, zeros_field, zeros_pass, field-split, fields, concat-fields, fields-concat, joined7}
use Rattle.page_codec.proofs.PieceLaws.{IsSpelled, pieces_read, pieces_again, length-flat_map-spell}
use Rattle.page_codec.proofs.SlotLaws.{IsSlot, slots_are, references_spelled, references_back, unused_references, numbers_are_slots, numbers_again, slots_pass_codes, slots_pass_names, numbers_unused}

-- a block: so many bytes
pub record IsBlock (b : List ℕ) : Type 0 where
  pub size : length b ≡ 1024
  pub fits : IsBytes b

-- ---- seven fields

pub record AreFields (a1 a2 a3 a4 a5 a6 a7 c1 c2 c3 c4 c5 c6 c7 : List ℕ) : Type 0 where
  pub e1 : a1 ≡ c1
  pub e2 : a2 ≡ c2
  pub e3 : a3 ≡ c3
  pub e4 : a4 ≡ c4
  pub e5 : a5 ≡ c5
  pub e6 : a6 ≡ c6
  pub e7 : a7 ≡ c7

pub fields_join : (a1 a2 a3 a4 a5 a6 a7 c1 c2 c3 c4 c5 c6 c7 : List ℕ) → AreFields a1 a2 a3 a4 a5 a6 a7 c1 c2 c3 c4 c5 c6 c7
    → concat (a1 ∷ a2 ∷ a3 ∷ a4 ∷ a5 ∷ a6 ∷ a7 ∷ []) ≡ c1 ++ c2 ++ c3 ++ c4 ++ c5 ++ c6 ++ c7
fields_join a1 a2 a3 a4 a5 a6 a7 c1 c2 c3 c4 c5 c6 c7 are =
    sym (joined7 a1 a2 a3 a4 a5 a6 a7) ∙ same a1 a2 a3 a4 a5 a6 a7 c1 c2 c3 c4 c5 c6 c7 are.e1 are.e2 are.e3 are.e4 are.e5 are.e6 are.e7
  where
    same : (a1 a2 a3 a4 a5 a6 a7 c1 c2 c3 c4 c5 c6 c7 : List ℕ) → a1 ≡ c1 → a2 ≡ c2 → a3 ≡ c3 → a4 ≡ c4 → a5 ≡ c5 → a6 ≡ c6 → a7 ≡ c7
        → a1 ++ a2 ++ a3 ++ a4 ++ a5 ++ a6 ++ a7 ≡ c1 ++ c2 ++ c3 ++ c4 ++ c5 ++ c6 ++ c7
    same a1 a2 a3 a4 a5 a6 a7 c1 c2 c3 c4 c5 c6 c7 e1 e2 e3 e4 e5 e6 e7 = cc

pub fields_cut : (front c1 c2 c3 c4 c5 c6 c7 : List ℕ) (at w1 w2 w3 w4 w5 w6 w7 : ℕ) → length front ≡ at
    → length c1 ≡ w1 → length c2 ≡ w2 → length c3 ≡ w3 → length c4 ≡ w4 → length c5 ≡ w5 → length c6 ≡ w6 → length c7 ≡ w7
    → fields at (w1 ∷ w2 ∷ w3 ∷ w4 ∷ w5 ∷ w6 ∷ w7 ∷ []) (front ++ (c1 ++ c2 ++ c3 ++ c4 ++ c5 ++ c6 ++ c7)) ≡ c1 ∷ c2 ∷ c3 ∷ c4 ∷ c5 ∷ c6 ∷ c7 ∷ []
fields_cut front c1 c2 c3 c4 c5 c6 c7 at w1 w2 w3 w4 w5 w6 w7 h h1 h2 h3 h4 h5 h6 h7 =
    ap (λ (b : List ℕ). fields at (w1 ∷ w2 ∷ w3 ∷ w4 ∷ w5 ∷ w6 ∷ w7 ∷ []) (front ++ b)) (joined7 c1 c2 c3 c4 c5 c6 c7)
    ∙ fields-concat (c1 ∷ c2 ∷ c3 ∷ c4 ∷ c5 ∷ c6 ∷ c7 ∷ []) (w1 ∷ w2 ∷ w3 ∷ w4 ∷ w5 ∷ w6 ∷ w7 ∷ []) front at h (h1, (h2, (h3, (h4, (h5, (h6, (h7, tt)))))))

pub are_seven : (a1 a2 a3 a4 a5 a6 a7 c1 c2 c3 c4 c5 c6 c7 : List ℕ) → a1 ∷ a2 ∷ a3 ∷ a4 ∷ a5 ∷ a6 ∷ a7 ∷ [] ≡ c1 ∷ c2 ∷ c3 ∷ c4 ∷ c5 ∷ c6 ∷ c7 ∷ []
    → AreFields a1 a2 a3 a4 a5 a6 a7 c1 c2 c3 c4 c5 c6 c7
are_seven a1 a2 a3 a4 a5 a6 a7 c1 c2 c3 c4 c5 c6 c7 e = record { e1 = cc; e2 = cc; e3 = cc; e4 = cc; e5 = cc; e6 = cc; e7 = cc }

-- ---- single bytes

pub four_bytes : (b : List ℕ) → 4 ≤ length b → take 4 b ≡ slice_index b 0 ∷ slice_index b 1 ∷ slice_index b 2 ∷ slice_index b 3 ∷ []
four_bytes (x ∷ y ∷ z ∷ w ∷ b) h = refl
four_bytes [] h = absurd (omega arith)
four_bytes (x ∷ []) h = absurd (omega arith)
four_bytes (x ∷ y ∷ []) h = absurd (omega arith)
four_bytes (x ∷ y ∷ z ∷ []) h = absurd (omega arith)

-- a byte of a block stands in the field that covers it
pub byte_in_field : (b : List ℕ) (at len k i : ℕ) → at + k ≡ i → k < len → slice_index b i ≡ slice_index (field at len b) k
byte_in_field b at len k i e h = sym (get_or-take len (drop at b) k 0 h ∙ get_or-drop at b k 0 ∙ ap (slice_index b) e)

-- ---- numbers of four bytes, one behind the other

pub numbers_law : IsSpelled 4 (number_at w32 0) (big_endian w32) (λ n. n < 2 ^ 32)
numbers_law = record {
  read = λ bytes len fits. (big_endian-number_at w32 (2 ^ 32) wide32 0 bytes fits (omega arith) ∙ take_all 4 bytes (omega arith), number_at-lt w32 (2 ^ 32) wide32 0 bytes fits);
  width = λ n _. length-big_endian w32 (2 ^ 32) wide32 n;
  again = λ n lt. number_at-big_endian w32 (2 ^ 32) wide32 0 n (big_endian w32 n) lt (take_all 4 (big_endian w32 n) (omega (arith, length-big_endian w32 (2 ^ 32) wide32 n)));
}

pub slots_bytes : (rs : List ReferenceValue) → flat_map reference_bytes rs ≡ flat_map (big_endian w32) (map reference_number rs)
slots_bytes [] = refl
slots_bytes (r ∷ rs) = ap (λ (xs : List ℕ). reference_bytes r ++ xs) (slots_bytes rs)

slots_below : (ns : List ℕ) → AllByRecursion IsSlot ns → AllByRecursion (λ n. n < 2 ^ 32) ns
slots_below [] h = tt
slots_below (n ∷ ns) h = (h.0.below, slots_below ns h.1)

-- ---- what is read is spelled so

pub record SlotsRead (b : List ℕ) : Type 0 where
  pub spelled : flat_map reference_bytes (map reference (slots b)) ≡ field 4 64 b
  pub each : AllByRecursion IsReference (map reference (slots b))
  pub sixteen : length (map reference (slots b)) ≡ 16

pub slots_read : (b : List ℕ) → IsBlock b → FrameFacts b → SlotsRead b
unfolding slots
slots_read b block facts =
    let bytes = field 4 64 b in
    let size : length bytes ≡ 64 = length-field 4 64 b (omega (arith, block.size)) in
    let read = pieces_read 4 (number_at w32 0) (big_endian w32) (λ n. n < 2 ^ 32) numbers_law 16 bytes (IsBytes-field 4 64 b block.fits) (omega (arith, size)) in
    let are = slots_are (slots b) read.good facts.coded facts.named in
    record {
      spelled = slots_bytes (map reference (slots b)) ∙ ap (flat_map (big_endian w32)) (references_back (slots b) are) ∙ read.spelled ∙ take_all 64 bytes (omega (arith, size));
      each = references_spelled (slots b) are;
      sixteen = length-map (slots b) reference ∙ read.count;
    }

data_read : (b : List ℕ) → IsBlock b → FrameFacts b → field 219 800 b ≡ data_bytes (field 219 (data_len b) b)
data_read b block facts =
    let n = data_len b in
    let size : length (field 219 n b) ≡ n = length-field 219 n b (omega (arith, block.size, facts.short)) in
    let split : n + (800 - n) ≡ 800 = omega (arith, facts.short) in
    let rest : field (219 + n) (800 - n) b ≡ zeros (800 - n) =
    zeros_field (219 + n) (800 - n) b (omega (arith, block.size, facts.short))
    (ap (λ (k : ℕ). list_any is_nonzero (take k (drop (219 + n) b))) (let k : 800 - n ≡ 1019 - (219 + n) = omega arith in k) ∙ (neither (has_other (219 + n) 1019 b) (has_other 1021 1024 b) facts.past).0) in
    ap (λ (k : ℕ). field 219 k b) (sym split) ∙ field-split 219 n (800 - n) b ∙ ap (λ (xs : List ℕ). field 219 n b ++ xs) rest
    ∙ ap (λ (k : ℕ). field 219 n b ++ zeros (800 - k)) (sym size)

-- the block is the frame of the page that is read from it, round the bytes of its kind
pub frame_read : (b : List ℕ) → IsBlock b → FrameFacts b → b ≡ frame_bytes (slice_index b 1) (slice_index b 3) (frame_value b) (field 70 149 b)
unfolding frame_bytes frame_value
frame_read b block facts =
    let n = data_len b in
    let size : length (field 219 n b) ≡ n = length-field 219 n b (omega (arith, block.size, facts.short)) in
    let head : field 0 4 b ≡ head_bytes (slice_index b 1) (slice_index b 2) (slice_index b 3) =
    four_bytes b (omega (arith, block.size)) ∙ ap (λ (g : ℕ). g ∷ slice_index b 1 ∷ slice_index b 2 ∷ slice_index b 3 ∷ []) facts.gate in
    let long : field 68 2 b ≡ big_endian w16 (length (field 219 n b)) =
    sym (big_endian-number_at w16 (2 ^ 16) wide16 68 b block.fits (omega (arith, block.size))) ∙ ap (big_endian w16) (sym size) in
    let mask : field 1019 2 b ≡ big_endian w16 (number_at w16 1019 b) = sym (big_endian-number_at w16 (2 ^ 16) wide16 1019 b block.fits (omega (arith, block.size))) in
    let last : field 1021 3 b ≡ zeros 3 = zeros_field 1021 3 b (omega (arith, block.size)) (neither (has_other (219 + n) 1019 b) (has_other 1021 1024 b) facts.past).1 in
    let whole : b ≡ field 0 1024 b = sym (take_all 1024 b (omega (arith, block.size))) in
    whole ∙ sym (concat-fields 0 (4 ∷ 64 ∷ 2 ∷ 149 ∷ 800 ∷ 2 ∷ 3 ∷ []) b)
    ∙ fields_join (field 0 4 b) (field 4 64 b) (field 68 2 b) (field 70 149 b) (field 219 800 b) (field 1019 2 b) (field 1021 3 b)
    (head_bytes (slice_index b 1) (slice_index b 2) (slice_index b 3)) (flat_map reference_bytes (map reference (slots b))) (big_endian w16 (length (field 219 n b)))
    (field 70 149 b) (data_bytes (field 219 n b)) (big_endian w16 (number_at w16 1019 b)) (zeros 3)
    (record { e1 = head; e2 = sym (slots_read b block facts).spelled; e3 = long; e4 = refl; e5 = data_read b block facts; e6 = mask; e7 = last })

pub IsFrame-frame_value : (b : List ℕ) → IsBlock b → FrameFacts b → IsFrame (frame_value b)
unfolding frame_value
IsFrame-frame_value b block facts =
    let read = slots_read b block facts in
    record {
      sound = record { depth = facts.depth; leaf = λ seven. unused_references (slots b) (facts.leaf seven) };
      mask = number_at-lt w16 (2 ^ 16) wide16 1019 b block.fits;
      sixteen = read.sixteen;
      each = read.each;
      fits = omega (arith, length-field 219 (data_len b) b (omega (arith, block.size, facts.short)), facts.short);
      data_bytes = IsBytes-field 219 (data_len b) b block.fits;
    }

-- ---- what is spelled so is read

-- a block is a frame round the bytes of its kind
pub record IsFramed (b : List ℕ) (kind code : ℕ) (p : PageValue) (middle : List ℕ) : Type 0 where
  pub head : field 0 4 b ≡ head_bytes kind p.level code
  pub slots : field 4 64 b ≡ flat_map reference_bytes p.refs
  pub long : field 68 2 b ≡ big_endian w16 (length p.bytes)
  pub inner : field 70 149 b ≡ middle
  pub page_data : field 219 800 b ≡ data_bytes p.bytes
  pub mask : field 1019 2 b ≡ big_endian w16 p.modified
  pub last : field 1021 3 b ≡ zeros 3

length-data : (bytes : List ℕ) → length bytes ≤ 800 → length (data_bytes bytes) ≡ 800
length-data bytes h = omega (arith, length-append bytes (zeros (800 - length bytes)), length-zeros (800 - length bytes))

pub length-slots : (p : PageValue) → IsFrame p → length (flat_map reference_bytes p.refs) ≡ 64
length-slots p h =
    let sixteen : length p.refs ≡ 16 = h.sixteen in
    length-flat_map-spell reference_bytes 4 (λ r. length-big_endian w32 (2 ^ 32) wide32 (reference_number r)) p.refs ∙ omega (arith, sixteen)

pub IsFramed-frame_bytes : (b : List ℕ) (kind code : ℕ) (p : PageValue) (middle : List ℕ) → IsFrame p → length middle ≡ 149 → b ≡ frame_bytes kind code p middle → IsFramed b kind code p middle
unfolding frame_bytes
IsFramed-frame_bytes b kind code p middle h size e =
    let cut = ap (fields 0 (4 ∷ 64 ∷ 2 ∷ 149 ∷ 800 ∷ 2 ∷ 3 ∷ [])) e
    ∙ fields_cut [] (head_bytes kind p.level code) (flat_map reference_bytes p.refs) (big_endian w16 (length p.bytes)) middle (data_bytes p.bytes) (big_endian w16 p.modified) (zeros 3)
    0 4 64 2 149 800 2 3 refl refl (length-slots p h) (length-big_endian w16 (2 ^ 16) wide16 (length p.bytes)) size (length-data p.bytes h.fits)
    (length-big_endian w16 (2 ^ 16) wide16 p.modified) (length-zeros 3) in
    let are = are_seven (field 0 4 b) (field 4 64 b) (field 68 2 b) (field 70 149 b) (field 219 800 b) (field 1019 2 b) (field 1021 3 b)
    (head_bytes kind p.level code) (flat_map reference_bytes p.refs) (big_endian w16 (length p.bytes)) middle (data_bytes p.bytes) (big_endian w16 p.modified) (zeros 3) cut in
    record { head = are.e1; slots = are.e2; long = are.e3; inner = are.e4; page_data = are.e5; mask = are.e6; last = are.e7 }

-- a frame has 1,024 bytes
pub length-frame_bytes : (kind code : ℕ) (p : PageValue) (middle : List ℕ) → IsFrame p → length middle ≡ 149 → length (frame_bytes kind code p middle) ≡ 1024
unfolding frame_bytes
length-frame_bytes kind code p middle h size =
    sums (head_bytes kind p.level code) (flat_map reference_bytes p.refs) (big_endian w16 (length p.bytes)) middle (data_bytes p.bytes) (big_endian w16 p.modified) (zeros 3)
    refl (length-slots p h) (length-big_endian w16 (2 ^ 16) wide16 (length p.bytes)) size (length-data p.bytes h.fits) (length-big_endian w16 (2 ^ 16) wide16 p.modified) (length-zeros 3)
  where
    sums : (a b c d e f g : List ℕ) → length a ≡ 4 → length b ≡ 64 → length c ≡ 2 → length d ≡ 149 → length e ≡ 800 → length f ≡ 2 → length g ≡ 3
        → length (a ++ b ++ c ++ d ++ e ++ f ++ g) ≡ 1024
    sums a b c d e f g ha hb hc hd he hf hg = simp length-append (omega arith)

-- the page that is read is the page that was spelled, and no cause of a frame applies
pub record IsFrameRead (b : List ℕ) (kind code : ℕ) (p : PageValue) : Type 0 where
  pub value : frame_value b ≡ p
  pub facts : FrameFacts b
  pub kind_is : slice_index b 1 ≡ kind
  pub level_is : slice_index b 2 ≡ p.level
  pub code_is : slice_index b 3 ≡ code

slots_again : (b : List ℕ) (rs : List ReferenceValue) → AllByRecursion IsReference rs → length rs ≡ 16 → field 4 64 b ≡ flat_map reference_bytes rs → slots b ≡ map reference_number rs
unfolding slots
slots_again b rs each sixteen e =
    let ns = map reference_number rs in
    let size : length ns ≡ 16 = length-map rs reference_number ∙ sixteen in
    let bytes : field 4 64 b ≡ flat_map (big_endian w32) ns ++ [] = e ∙ slots_bytes rs ∙ sym (append-nil (flat_map (big_endian w32) ns)) in
    ap (λ (x : List ℕ). map (number_at w32 0) (pieces 4 16 x)) bytes
    ∙ ap (λ (n : ℕ). map (number_at w32 0) (pieces 4 n (flat_map (big_endian w32) ns ++ []))) (sym size)
    ∙ pieces_again 4 (number_at w32 0) (big_endian w32) (λ n. n < 2 ^ 32) numbers_law ns [] (slots_below ns (numbers_are_slots rs each))

data_again : (b bytes : List ℕ) → length bytes ≤ 800 → field 219 800 b ≡ data_bytes bytes → field 219 (length bytes) b ≡ bytes
data_again b bytes short e =
    sym (take-take (length bytes) 800 (drop 219 b) short) ∙ ap (take (length bytes)) e ∙ take_at bytes (zeros (800 - length bytes)) (length bytes) refl

past_again : (b bytes : List ℕ) → length bytes ≤ 800 → field 219 800 b ≡ data_bytes bytes → field (219 + length bytes) (800 - length bytes) b ≡ zeros (800 - length bytes)
past_again b bytes short e =
    let n = length bytes in
    sym (field-field n (800 - n) 219 800 (219 + n) b refl (omega (arith, short)))
    ∙ ap (λ (x : List ℕ). take (800 - n) (drop n x)) e
    ∙ ap (take (800 - n)) (drop_at bytes (zeros (800 - n)) n refl)
    ∙ take_all (800 - n) (zeros (800 - n)) (omega (arith, length-zeros (800 - n)))

same_page : (a b c d : ℕ) (rs ss : List ReferenceValue) (x y : List ℕ) → a ≡ b → c ≡ d → rs ≡ ss → x ≡ y
    → (let p : PageValue = record { level = a; modified = c; refs = rs; bytes = x } in p) ≡ record { level = b; modified = d; refs = ss; bytes = y }
same_page a b c d rs ss x y e f g h = cc

pub IsFrameRead-framed : (b : List ℕ) (kind code : ℕ) (p : PageValue) (middle : List ℕ) → IsFrame p → IsFramed b kind code p middle → IsFrameRead b kind code p
unfolding frame_value
IsFrameRead-framed b kind code p middle h framed =
    let n = length p.bytes in
    let byte : (i : ℕ) → i < 4 → slice_index b i ≡ slice_index (head_bytes kind p.level code) i = λ i lt. byte_in_field b 0 4 i i (omega arith) lt ∙ ap (λ (x : List ℕ). slice_index x i) framed.head in
    let level : slice_index b 2 ≡ p.level = byte 2 (omega arith) in
    let short : n ≤ 800 = h.fits in
    let size : data_len b ≡ n = number_at-big_endian w16 (2 ^ 16) wide16 68 n b (omega (arith, short)) framed.long in
    let numbers : slots b ≡ map reference_number p.refs = slots_again b p.refs h.each h.sixteen framed.slots in
    let are = numbers_are_slots p.refs h.each in
    let mask : number_at w16 1019 b ≡ p.modified = number_at-big_endian w16 (2 ^ 16) wide16 1019 p.modified b h.mask framed.mask in
    let refs : map reference (slots b) ≡ p.refs = ap (map reference) numbers ∙ numbers_again p.refs h.each in
    let bytes : field 219 (data_len b) b ≡ p.bytes = ap (λ (k : ℕ). field 219 k b) size ∙ data_again b p.bytes short framed.page_data in
    let behind : has_other (219 + data_len b) 1019 b ≡ false =
    ap (λ (k : ℕ). has_other (219 + k) 1019 b) size
    ∙ ap (λ (k : ℕ). list_any is_nonzero (take k (drop (219 + n) b))) (let k : 1019 - (219 + n) ≡ 800 - n = omega arith in k)
    ∙ ap (list_any is_nonzero) (past_again b p.bytes short framed.page_data) ∙ zeros_pass (800 - n) in
    let end : has_other 1021 1024 b ≡ false = ap (list_any is_nonzero) framed.last ∙ zeros_pass 3 in
    record {
      value = same_page (slice_index b 2) p.level (number_at w16 1019 b) p.modified (map reference (slots b)) p.refs (field 219 (data_len b) b) p.bytes level mask refs bytes;
      facts = record {
        gate = byte 0 (omega arith);
        depth = let deep : p.level ≤ 7 = h.sound.depth in omega (arith, level, deep);
        coded = ap (list_any is_no_code) numbers ∙ slots_pass_codes (map reference_number p.refs) are;
        named = ap (list_any is_dangling) numbers ∙ slots_pass_names (map reference_number p.refs) are;
        leaf = λ seven. ap (list_any is_nonzero) numbers ∙ numbers_unused p.refs h.each (h.sound.leaf (sym level ∙ seven));
        short = omega (arith, size, short);
        past = both_false (has_other (219 + data_len b) 1019 b) (has_other 1021 1024 b) behind end;
      };
      kind_is = byte 1 (omega arith);
      level_is = level;
      code_is = byte 3 (omega arith);
    }
