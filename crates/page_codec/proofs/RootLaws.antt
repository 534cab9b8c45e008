-- A block 0 that is read is spelled so, and one that is spelled is read.
use Rattle.std.proofs.Common.{◌≡◌, ℕ, ◌+◌, ◌*◌, ◌^◌, ◌≤◌, ◌<◌, Bool, true, false, cond, eqb, leb, List, [], ◌∷◌, ◌++◌, length, take, drop, map, refl, sym, ap, subst, ◌∙◌, arith}
use Rattle.std.specs.Prelude.{Option, Some, None, Result, Ok, Err, IfOk, slice_index}
use Rattle.std.specs.List.{list_any, flat_map, AllByRecursion}
use Rattle.std.specs.Int.{w32, w64}
use Rattle.std.proofs.lemmas.Bool.{eqb-true, ne_eqb, eqb-false}
use Rattle.std.proofs.lemmas.List.{append-nil, take_all, take_at, drop_at, length-map, length-append, length-replicate}
use Rattle.page_codec.specs.declared.why.Why.{Why}
use Rattle.page_codec.specs.declared.why.BadPage.{BadPage}
use Rattle.page_codec.specs.Numbers.{big_endian, field, number_at, zeros, pieces, or_zero, or_none}
use Rattle.page_codec.specs.Values.{EntryValue, RootValue}
use Rattle.page_codec.specs.Blank.{no_parts, no_entries}
use Rattle.page_codec.specs.Bounds.{IsEntry, IsFirstBelow, IsPartBelow, IsRoot}
use Rattle.page_codec.specs.TableSpelling.{entry_bytes, part_number_bytes, rest_bytes, root_bytes}
use Rattle.page_codec.specs.Causes.{Reads, cause_or, first_cause, is_nonzero}
use Rattle.page_codec.specs.TableReading.{raw_entries, entry_value, is_far, is_uncounted, is_stray, block_count, part_numbers, root_causes, root_value, root_of}
use Rattle.page_codec.specs.TableFacts.{OneFacts, TwoFacts, RootFacts}
use Rattle.page_codec.proofs.ByteLaws.{IsBytes-field, wide32, wide64, length-big_endian, big_endian-number_at, number_at-lt, number_at-big_endian, zeros_field, zeros_pass, length-zeros, field-split, fields}
use Rattle.page_codec.proofs.FieldLaws.{field-field, length-field}
use Rattle.page_codec.proofs.PieceLaws.{pieces_read, pieces_again, length-flat_map-spell}
use Rattle.page_codec.proofs.NewStoreLaws.{IsPartBelow-no_parts}
use Rattle.page_codec.proofs.TableLaws.{rest_of_one, rest_of_two}
use Rattle.page_codec.proofs.EntryLaws.{entries_read, firsts_below, raw_of, entries_again, raws_near, raws_counted, raws_straight, parts_near, parts_pass, parts_again, parts_small, parts_bytes, parts_back, IsFirstBelow-no_entries, length-no_entries, IsEntry-no_entries}
use Rattle.page_codec.proofs.FrameLaws.{IsBlock, fields_cut, are_seven, byte_in_field, four_bytes, numbers_law}
use Rattle.page_codec.proofs.PartLaws.{raws_read, raws_again, length-entries}
use Rattle.page_codec.proofs.TableFactLaws.{RootFacts-none, root_causes-none}

length-no_parts : length no_parts ≡ 64
unfolding no_parts
length-no_parts = let none : Option ℕ = None in length-replicate 64 none

-- ---- what is read is spelled so

parts_read : (b : List ℕ) → IsBlock b → flat_map part_number_bytes (map or_none (part_numbers b)) ≡ field 16 256 b
unfolding part_numbers
parts_read b block =
    let bytes = field 16 256 b in
    let size : length bytes ≡ 256 = length-field 16 256 b (omega (arith, block.size)) in
    let read = pieces_read 4 (number_at w32 0) (big_endian w32) (λ n. n < 2 ^ 32) numbers_law 64 bytes (IsBytes-field 16 256 b block.fits) (omega (arith, size)) in
    parts_bytes (map or_none (part_numbers b)) ∙ ap (flat_map (big_endian w32)) (parts_back (part_numbers b)) ∙ read.spelled ∙ take_all 256 bytes (omega (arith, size))

length-part_numbers : (b : List ℕ) → IsBlock b → length (part_numbers b) ≡ 64
unfolding part_numbers
length-part_numbers b block =
    let bytes = field 16 256 b in
    let size : length bytes ≡ 256 = length-field 16 256 b (omega (arith, block.size)) in
    (pieces_read 4 (number_at w32 0) (big_endian w32) (λ n. n < 2 ^ 32) numbers_law 64 bytes (IsBytes-field 16 256 b block.fits) (omega (arith, size))).count

-- what the parts, and the entries, are in each format
abbrev parts_if : Bool → List ℕ → List (Option ℕ)
parts_if t b = cond t no_parts (map or_none (part_numbers b))

abbrev first_if : Bool → List ℕ → List EntryValue
first_if t b = cond t (map entry_value (raw_entries 60 b)) (no_entries 60)

pub record IsFormatRead (t : Bool) (b : List ℕ) : Type 0 where
  pub spelled : field 16 1008 b ≡ rest_bytes (slice_index b 2) (parts_if t b) (first_if t b)
  pub parts_below : AllByRecursion (IsPartBelow (block_count b)) (parts_if t b)
  pub first_below : AllByRecursion (IsFirstBelow (block_count b)) (first_if t b)
  pub parts_count : length (parts_if t b) ≡ 64
  pub first_count : length (first_if t b) ≡ 60
  pub each : AllByRecursion IsEntry (first_if t b)
  pub no_parts_in_one : slice_index b 2 ≡ 1 → parts_if t b ≡ no_parts
  pub no_first_in_two : slice_index b 2 ≡ 2 → first_if t b ≡ no_entries 60

differs : (n : ℕ) → eqb n 1 ≡ false → n ≡ 1 → ⊥
differs n e = eqb-false n 1 e

format_read : (b : List ℕ) (t : Bool) → eqb (slice_index b 2) 1 ≡ t → IsBlock b → RootFacts b → IsFormatRead t b
format_read b true e block facts =
    let one : slice_index b 2 ≡ 1 = eqb-true (slice_index b 2) 1 e in
    let these = facts.one one in
    let raws = raw_entries 60 b in
    let read = raws_read b 60 block (omega arith) in
    let most : block_count b ≤ 65536 = facts.most in
    let are = entries_read (block_count b) raws (omega arith) read.good these.far these.counted these.stray in
    let rest : field 976 48 b ≡ zeros 48 = zeros_field 976 48 b (omega (arith, block.size)) these.rest in
    record {
      spelled = field-split 16 960 48 b ∙ ap (λ (x : List ℕ). x ++ field 976 48 b) (sym read.spelled ∙ sym are.spelled) ∙ ap (λ (x : List ℕ). flat_map entry_bytes (map entry_value raws) ++ x) rest
          ∙ sym (rest_of_one (slice_index b 2) no_parts (map entry_value raws) one);
      parts_below = IsPartBelow-no_parts (block_count b);
      first_below = firsts_below (block_count b) raws these.far;
      parts_count = length-no_parts;
      first_count = length-map raws entry_value ∙ read.count;
      each = are.each;
      no_parts_in_one = λ _. refl;
      no_first_in_two = λ two. absurd (omega arith);
    }
format_read b false e block facts =
    let two = differs (slice_index b 2) e in
    let these = facts.two two in
    let ns = part_numbers b in
    let rest : field 272 752 b ≡ zeros 752 = zeros_field 272 752 b (omega (arith, block.size)) these.rest in
    record {
      spelled = field-split 16 256 752 b ∙ ap (λ (x : List ℕ). x ++ field 272 752 b) (sym (parts_read b block)) ∙ ap (λ (x : List ℕ). flat_map part_number_bytes (map or_none ns) ++ x) rest
          ∙ sym (rest_of_two (slice_index b 2) (map or_none ns) (no_entries 60) two);
      parts_below = parts_near (block_count b) ns these.far;
      first_below = IsFirstBelow-no_entries (block_count b) 60;
      parts_count = length-map ns or_none ∙ length-part_numbers b block;
      first_count = length-no_entries 60;
      each = IsEntry-no_entries 60;
      no_parts_in_one = λ one. absurd (two one);
      no_first_in_two = λ _. refl;
    }

four : (a b c d x y z w : ℕ) → a ≡ x → b ≡ y → c ≡ z → d ≡ w → (let l : List ℕ = a ∷ b ∷ c ∷ d ∷ [] in l) ≡ x ∷ y ∷ z ∷ w ∷ []
four a b c d x y z w e f g h = cc

joined4 : (a b c d x y z w : List ℕ) → a ≡ x → b ≡ y → c ≡ z → d ≡ w → a ++ b ++ c ++ d ≡ x ++ y ++ z ++ w
joined4 a b c d x y z w e f g h = cc

root_found_facts : (b : List ℕ) → IsBlock b → RootFacts b → IsRoot (root_value b) × (b ≡ root_bytes (root_value b))
unfolding root_value root_bytes
root_found_facts b block facts =
    let t = eqb (slice_index b 2) 1 in
    let read = format_read b t refl block facts in
    let head : field 0 4 b ≡ 165 ∷ 84 ∷ slice_index b 2 ∷ 0 ∷ [] =
    four_bytes b (omega (arith, block.size)) ∙ four (slice_index b 0) (slice_index b 1) (slice_index b 2) (slice_index b 3) 165 84 (slice_index b 2) 0 facts.gate facts.kind refl facts.plain in
    let blocks : field 4 4 b ≡ big_endian w32 (number_at w32 4 b) = sym (big_endian-number_at w32 (2 ^ 32) wide32 4 b block.fits (omega (arith, block.size))) in
    let key : field 8 8 b ≡ big_endian w64 (number_at w64 8 b) = sym (big_endian-number_at w64 (2 ^ 64) wide64 8 b block.fits (omega (arith, block.size))) in
    let whole : b ≡ field 0 1024 b = sym (take_all 1024 b (omega (arith, block.size))) in (
      record {
        sound = record {
          first_format = facts.first_format;
          last_format = facts.last_format;
          least = facts.least;
          most = facts.most;
          parts_below = read.parts_below;
          first_below = read.first_below;
          no_parts = read.no_parts_in_one;
          no_first = read.no_first_in_two;
        };
        key_below = number_at-lt w64 (2 ^ 64) wide64 8 b block.fits;
        parts_count = read.parts_count;
        first_count = read.first_count;
        each = read.each;
      },
      whole ∙ field-split 0 16 1008 b ∙ ap (λ (x : List ℕ). x ++ field 16 1008 b) (field-split 0 8 8 b ∙ ap (λ (x : List ℕ). x ++ field 8 8 b) (field-split 0 4 4 b))
          ∙ joined4 (field 0 4 b) (field 4 4 b) (field 8 8 b) (field 16 1008 b) (165 ∷ 84 ∷ slice_index b 2 ∷ 0 ∷ []) (big_endian w32 (number_at w32 4 b)) (big_endian w64 (number_at w64 8 b))
          (rest_bytes (slice_index b 2) (parts_if t b) (first_if t b)) head blocks key read.spelled,
    )

-- ---- what is spelled so is read

padded : (a b c d : List ℕ) → a ++ b ++ c ++ d ≡ a ++ b ++ c ++ d ++ [] ++ [] ++ []
padded a b c d = simp append-nil

length-parts : (os : List (Option ℕ)) → length (flat_map part_number_bytes os) ≡ 4 * length os
length-parts os = length-flat_map-spell part_number_bytes 4 (λ o. length-big_endian w32 (2 ^ 32) wide32 (or_zero o)) os

-- what stands behind the numbers of block 0
pub record IsFormatSpelled (r : RootValue) (b : List ℕ) (t : Bool) : Type 0 where
  pub parts : parts_if t b ≡ r.parts
  pub first : first_if t b ≡ r.first
  pub one : t ≡ true → OneFacts b
  pub two : t ≡ false → TwoFacts b

length-rest : (r : RootValue) (t : Bool) → eqb r.format 1 ≡ t → IsRoot r → length (rest_bytes r.format r.parts r.first) ≡ 1008
length-rest r true e h =
    let sixty : length r.first ≡ 60 = h.first_count in
    ap length (rest_of_one r.format r.parts r.first (eqb-true r.format 1 e))
    ∙ omega (arith, length-append (flat_map entry_bytes r.first) (zeros 48), length-zeros 48, length-entries r.first h.each, sixty)
length-rest r false e h =
    let sixty_four : length r.parts ≡ 64 = h.parts_count in
    ap length (rest_of_two r.format r.parts r.first (differs r.format e))
    ∙ omega (arith, length-append (flat_map part_number_bytes r.parts) (zeros 752), length-zeros 752, length-parts r.parts, sixty_four)

parts_numbers : (b : List ℕ) (os : List (Option ℕ)) (limit : ℕ) → limit ≤ 65536 → AllByRecursion (IsPartBelow limit) os → length os ≡ 64 → field 16 256 b ≡ flat_map part_number_bytes os → part_numbers b ≡ map or_zero os
unfolding part_numbers
parts_numbers b os limit small below count e =
    let ns = map or_zero os in
    let size : length ns ≡ 64 = length-map os or_zero ∙ count in
    let bytes : field 16 256 b ≡ flat_map (big_endian w32) ns ++ [] = e ∙ parts_bytes os ∙ sym (append-nil (flat_map (big_endian w32) ns)) in
    ap (λ (x : List ℕ). map (number_at w32 0) (pieces 4 64 x)) bytes
    ∙ ap (λ (n : ℕ). map (number_at w32 0) (pieces 4 n (flat_map (big_endian w32) ns ++ []))) (sym size)
    ∙ pieces_again 4 (number_at w32 0) (big_endian w32) (λ n. n < 2 ^ 32) numbers_law ns [] (parts_small limit os small below)

-- the front and the back of what stands behind the numbers
front_of : (b items : List ℕ) (m k : ℕ) → m + k ≡ 1008 → length items ≡ m → field 16 1008 b ≡ items ++ zeros k → (field 16 m b ≡ items) × (field (16 + m) k b ≡ zeros k)
front_of b items m k sum size e = (
  sym (field-field 0 m 16 1008 16 b refl (omega (arith, sum))) ∙ ap (take m) e ∙ take_at items (zeros k) m size,
  sym (field-field m k 16 1008 (16 + m) b refl (omega (arith, sum))) ∙ ap (λ (x : List ℕ). take k (drop m x)) e ∙ ap (take k) (drop_at items (zeros k) m size) ∙ take_all k (zeros k) (omega (arith, length-zeros k)),
)

format_spelled : (r : RootValue) (b : List ℕ) (t : Bool) → eqb r.format 1 ≡ t → IsRoot r → block_count b ≡ r.blocks → field 16 1008 b ≡ rest_bytes r.format r.parts r.first → IsFormatSpelled r b t
format_spelled r b true e h blocks spelled =
    let one : r.format ≡ 1 = eqb-true r.format 1 e in
    let count : length r.first ≡ 60 = h.first_count in
    let size : length (flat_map entry_bytes r.first) ≡ 960 = length-entries r.first h.each ∙ ap (λ (n : ℕ). 16 * n) count in
    let both = front_of b (flat_map entry_bytes r.first) 960 48 refl size (spelled ∙ rest_of_one r.format r.parts r.first one) in
    let raws : raw_entries 60 b ≡ map raw_of r.first =
    ap (λ (n : ℕ). raw_entries n b) (sym count) ∙ raws_again b r.first h.each (ap (λ (n : ℕ). field 16 (16 * n) b) count ∙ both.0) in
    let least : 2 ≤ r.blocks = h.sound.least in
    record {
      parts = sym (h.sound.no_parts one);
      first = ap (map entry_value) raws ∙ entries_again r.first h.each;
      one = λ _. record {
        far = ap (λ (n : ℕ). list_any (is_far n) (raw_entries 60 b)) blocks ∙ ap (list_any (is_far r.blocks)) raws ∙ raws_near r.blocks r.first (omega arith) h.sound.first_below;
        counted = ap (list_any is_uncounted) raws ∙ raws_counted r.first h.each;
        stray = ap (list_any is_stray) raws ∙ raws_straight r.first h.each;
        rest = ap (list_any is_nonzero) both.1 ∙ zeros_pass 48;
      };
      two = λ wrong. absurd cc;
    }
format_spelled r b false e h blocks spelled =
    let other = differs r.format e in
    let low : 1 ≤ r.format = h.sound.first_format in
    let high : r.format ≤ 2 = h.sound.last_format in
    let two : r.format ≡ 2 = omega arith in
    let count : length r.parts ≡ 64 = h.parts_count in
    let size : length (flat_map part_number_bytes r.parts) ≡ 256 = length-parts r.parts ∙ ap (λ (n : ℕ). 4 * n) count in
    let both = front_of b (flat_map part_number_bytes r.parts) 256 752 refl size (spelled ∙ rest_of_two r.format r.parts r.first other) in
    let numbers = parts_numbers b r.parts r.blocks h.sound.most h.sound.parts_below count both.0 in
    let least : 2 ≤ r.blocks = h.sound.least in
    record {
      parts = ap (map or_none) numbers ∙ parts_again r.blocks r.parts h.sound.parts_below;
      first = sym (h.sound.no_first two);
      one = λ wrong. absurd cc;
      two = λ _. record {
        far = ap (λ (n : ℕ). list_any (leb n) (part_numbers b)) blocks ∙ ap (list_any (leb r.blocks)) numbers ∙ parts_pass r.blocks r.parts (omega arith) h.sound.parts_below;
        rest = ap (list_any is_nonzero) both.1 ∙ zeros_pass 752;
      };
    }

same_root : (f g n m k l : ℕ) (ps qs : List (Option ℕ)) (es fs : List EntryValue) → f ≡ g → n ≡ m → k ≡ l → ps ≡ qs → es ≡ fs
    → (let r : RootValue = record { format = f; blocks = n; key = k; parts = ps; first = es } in r) ≡ record { format = g; blocks = m; key = l; parts = qs; first = fs }
same_root f g n m k l ps qs es fs e1 e2 e3 e4 e5 = cc

pub root_of-root_bytes : (b : List ℕ) (r : RootValue) → IsRoot r → b ≡ root_bytes r → root_of b ≡ Ok r
unfolding root_value root_bytes
root_of-root_bytes b r h e =
    let head : List ℕ = 165 ∷ 84 ∷ r.format ∷ 0 ∷ [] in
    let rest = rest_bytes r.format r.parts r.first in
    let t = eqb r.format 1 in
    let cut = ap (fields 0 (4 ∷ 4 ∷ 8 ∷ 1008 ∷ 0 ∷ 0 ∷ 0 ∷ [])) (e ∙ padded head (big_endian w32 r.blocks) (big_endian w64 r.key) rest)
    ∙ fields_cut [] head (big_endian w32 r.blocks) (big_endian w64 r.key) rest [] [] [] 0 4 4 8 1008 0 0 0 refl refl (length-big_endian w32 (2 ^ 32) wide32 r.blocks)
    (length-big_endian w64 (2 ^ 64) wide64 r.key) (length-rest r t refl h) refl refl refl in
    let are = are_seven (field 0 4 b) (field 4 4 b) (field 8 8 b) (field 16 1008 b) [] [] [] head (big_endian w32 r.blocks) (big_endian w64 r.key) rest [] [] [] cut in
    let byte : (i : ℕ) → i < 4 → slice_index b i ≡ slice_index head i = λ i lt. byte_in_field b 0 4 i i (omega arith) lt ∙ ap (λ (x : List ℕ). slice_index x i) are.e1 in
    let most : r.blocks ≤ 65536 = h.sound.most in
    let least : 2 ≤ r.blocks = h.sound.least in
    let blocks : block_count b ≡ r.blocks = number_at-big_endian w32 (2 ^ 32) wide32 4 r.blocks b (omega arith) are.e2 in
    let key : number_at w64 8 b ≡ r.key = number_at-big_endian w64 (2 ^ 64) wide64 8 r.key b h.key_below are.e3 in
    let format : slice_index b 2 ≡ r.format = byte 2 (omega arith) in
    let spelled = format_spelled r b t refl h blocks are.e4 in
    let test : eqb (slice_index b 2) 1 ≡ t = ap (λ (n : ℕ). eqb n 1) format in
    let low : 1 ≤ r.format = h.sound.first_format in
    let high : r.format ≤ 2 = h.sound.last_format in
    let facts : RootFacts b = record {
      gate = byte 0 (omega arith);
      kind = byte 1 (omega arith);
      first_format = omega (arith, format, low);
      last_format = omega (arith, format, high);
      least = omega (arith, blocks, least);
      most = omega (arith, blocks, most);
      plain = byte 3 (omega arith);
      one = λ is. spelled.one (sym test ∙ ap (λ (n : ℕ). eqb n 1) is);
      two = λ other. spelled.two (sym test ∙ ne_eqb (slice_index b 2) 1 other);
    } in
    let value = same_root (slice_index b 2) r.format (block_count b) r.blocks (number_at w64 8 b) r.key (parts_if (eqb (slice_index b 2) 1) b) r.parts (first_if (eqb (slice_index b 2) 1) b) r.first
    format blocks key (ap (λ (s : Bool). parts_if s b) test ∙ spelled.parts) (ap (λ (s : Bool). first_if s b) test ∙ spelled.first) in
    ap (λ (o : Option Why). cause_or o (root_value b)) (root_causes-none b facts) ∙ ap (λ (q : RootValue). Ok q) value

settled : (o : Option Why) (x y : RootValue) → cause_or o x ≡ Ok y → (o ≡ None) × (x ≡ y)
settled None x y e = (refl, cc)
settled (Some w) x y e = absurd cc

pub root_found : (b : List ℕ) (r : Result RootValue BadPage) → IsBlock b → Reads r (root_of b) → IfOk r (λ v. IsRoot v × (b ≡ root_bytes v))
root_found b (Ok v) block e =
    let both = settled (first_cause (root_causes b)) (root_value b) v e in
    subst (λ (w : RootValue). IsRoot w × (b ≡ root_bytes w)) both.1 (root_found_facts b block (RootFacts-none b both.0))
root_found b (Err w) block e = tt

pub root_only : (b : List ℕ) (r : Result RootValue BadPage) → Reads r (root_of b) → (v : RootValue) → IsRoot v → b ≡ root_bytes v → Reads r (Ok v)
root_only b r e v h spelled = subst (λ (q : Result RootValue Why). Reads r q) (root_of-root_bytes b v h spelled) e
