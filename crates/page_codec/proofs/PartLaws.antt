-- A part that is read is spelled so, and a part that is spelled is read.
use Rattle.std.proofs.Common.{◌≡◌, ℕ, ◌*◌, ◌^◌, ◌≤◌, ◌<◌, Bool, true, false, not, List, [], ◌∷◌, ◌++◌, length, take, drop, map, refl, sym, ap, subst, ◌∙◌, arith}
use Rattle.std.specs.Prelude.{Option, Some, None, Result, Ok, Err, IfOk, slice_index}
use Rattle.std.specs.List.{list_any, list_all, flat_map, AllByRecursion}
use Rattle.std.proofs.lemmas.List.{append-nil, take_all, take-append-drop, length-map, length-drop}
use Rattle.page_codec.specs.declared.why.Why.{Why}
use Rattle.page_codec.specs.declared.why.BadPage.{BadPage}
use Rattle.page_codec.specs.Numbers.{field, zeros, pieces}
use Rattle.page_codec.specs.Values.{EntryValue}
use Rattle.page_codec.specs.Bounds.{IsEntry, IsPart, has_generation}
use Rattle.page_codec.specs.TableSpelling.{entry_bytes, part_bytes}
use Rattle.page_codec.specs.Causes.{Reads, cause_or, first_cause, is_nonzero}
use Rattle.page_codec.specs.TableReading.{raw_value, raw_entries, entry_value, is_far, is_uncounted, is_stray, is_unused, part_causes, part_value, part_of}
use Rattle.page_codec.specs.TableFacts.{PartFacts}
use Rattle.page_codec.proofs.ByteLaws.{IsBytes-drop, zeros_field, zeros_pass, length-zeros, field-split, fields}
use Rattle.page_codec.proofs.PieceLaws.{AreRead, pieces_read, pieces_again, length-flat_map-good}
use Rattle.page_codec.proofs.EntryLaws.{raw_bytes, HasRoom, raw_law, entries_read, raw_of, raws_room, entries_bytes, entries_again, raws_near, raws_counted, raws_straight, used_is, entries_below}
use Rattle.page_codec.proofs.FrameLaws.{IsBlock, fields_cut, are_seven, byte_in_field}
use Rattle.page_codec.proofs.TableFactLaws.{PartFacts-none, part_causes-none}

-- the entries behind the first sixteen bytes
pub raws_read : (b : List ℕ) (n : ℕ) → IsBlock b → n ≤ 63 → AreRead raw_bytes HasRoom (raw_entries n b) (field 16 (16 * n) b) n
unfolding raw_entries
raws_read b n block few = pieces_read 16 raw_value raw_bytes HasRoom raw_law n (drop 16 b) (IsBytes-drop 16 b block.fits) (omega (arith, length-drop 16 b, block.size, few))

pub raws_again : (b : List ℕ) (es : List EntryValue) → AllByRecursion IsEntry es → field 16 (16 * length es) b ≡ flat_map entry_bytes es → raw_entries (length es) b ≡ map raw_of es
unfolding raw_entries
raws_again b es each e =
    let m = 16 * length es in
    let rest = drop m (drop 16 b) in
    let raws = map raw_of es in
    let split : drop 16 b ≡ flat_map raw_bytes raws ++ rest = sym (take-append-drop m (drop 16 b)) ∙ ap (λ (x : List ℕ). x ++ rest) (e ∙ entries_bytes es) in
    ap (λ (x : List ℕ). map raw_value (pieces 16 (length es) x)) split
    ∙ ap (λ (n : ℕ). map raw_value (pieces 16 n (flat_map raw_bytes raws ++ rest))) (sym (length-map es raw_of))
    ∙ pieces_again 16 raw_value raw_bytes HasRoom raw_law raws rest (raws_room es each)

pub length-entries : (es : List EntryValue) → AllByRecursion IsEntry es → length (flat_map entry_bytes es) ≡ 16 * length es
length-entries es each =
    ap length (entries_bytes es) ∙ length-flat_map-good raw_bytes 16 HasRoom raw_law.width (map raw_of es) (raws_room es each) ∙ ap (λ (n : ℕ). 16 * n) (length-map es raw_of)

three_bytes : (b : List ℕ) → 3 ≤ length b → take 3 b ≡ slice_index b 0 ∷ slice_index b 1 ∷ slice_index b 2 ∷ []
three_bytes (x ∷ y ∷ z ∷ b) h = refl
three_bytes [] h = absurd (omega arith)
three_bytes (x ∷ []) h = absurd (omega arith)
three_bytes (x ∷ y ∷ []) h = absurd (omega arith)

three : (a b c x y z : ℕ) → a ≡ x → b ≡ y → c ≡ z → (let l : List ℕ = a ∷ b ∷ c ∷ [] in l) ≡ x ∷ y ∷ z ∷ []
three a b c x y z e f g = cc

joined3 : (a b c x y z : List ℕ) → a ≡ x → b ≡ y → c ≡ z → a ++ b ++ c ≡ x ++ y ++ z
joined3 a b c x y z e f g = cc

pub part_found_facts : (j : ℕ) (b : List ℕ) → IsBlock b → PartFacts j b → IsPart (part_value b) × (b ≡ part_bytes j (part_value b))
unfolding part_value part_bytes
part_found_facts j b block facts =
    let raws = raw_entries 63 b in
    let read = raws_read b 63 block (omega arith) in
    let are = entries_read (2 ^ 28) raws (omega arith) read.good facts.far facts.counted facts.stray in
    let head : field 0 3 b ≡ 165 ∷ 69 ∷ j ∷ [] = three_bytes b (omega (arith, block.size)) ∙ three (slice_index b 0) (slice_index b 1) (slice_index b 2) 165 69 j facts.gate facts.kind facts.index in
    let blank : field 3 13 b ≡ zeros 13 = zeros_field 3 13 b (omega (arith, block.size)) facts.blank in
    let entries : field 16 1008 b ≡ flat_map entry_bytes (map entry_value raws) = sym read.spelled ∙ sym are.spelled in
    let whole : b ≡ field 0 1024 b = sym (take_all 1024 b (omega (arith, block.size))) in (
      record { count = length-map raws entry_value ∙ read.count; each = are.each; used = used_is raws ∙ ap not facts.used },
      whole ∙ field-split 0 16 1008 b ∙ ap (λ (x : List ℕ). x ++ field 16 1008 b) (field-split 0 3 13 b)
          ∙ joined3 (field 0 3 b) (field 3 13 b) (field 16 1008 b) (165 ∷ 69 ∷ j ∷ []) (zeros 13) (flat_map entry_bytes (map entry_value raws)) head blank entries,
    )

padded : (a b c : List ℕ) → a ++ b ++ c ≡ a ++ b ++ c ++ [] ++ [] ++ [] ++ []
padded a b c = simp append-nil

not_true : (a : Bool) → not a ≡ true → a ≡ false
not_true true e = absurd cc
not_true false e = refl

pub part_of-part_bytes : (j : ℕ) (b : List ℕ) (es : List EntryValue) → IsPart es → b ≡ part_bytes j es → part_of j b ≡ Ok es
unfolding part_value part_bytes
part_of-part_bytes j b es h e =
    let head : List ℕ = 165 ∷ 69 ∷ j ∷ [] in
    let count : length es ≡ 63 = h.count in
    let size : length (flat_map entry_bytes es) ≡ 1008 = length-entries es h.each ∙ ap (λ (n : ℕ). 16 * n) count in
    let cut = ap (fields 0 (3 ∷ 13 ∷ 1008 ∷ 0 ∷ 0 ∷ 0 ∷ 0 ∷ [])) (e ∙ padded head (zeros 13) (flat_map entry_bytes es))
    ∙ fields_cut [] head (zeros 13) (flat_map entry_bytes es) [] [] [] [] 0 3 13 1008 0 0 0 0 refl refl (length-zeros 13) size refl refl refl refl in
    let are = are_seven (field 0 3 b) (field 3 13 b) (field 16 1008 b) [] [] [] [] head (zeros 13) (flat_map entry_bytes es) [] [] [] [] cut in
    let byte : (i : ℕ) → i < 3 → slice_index b i ≡ slice_index head i = λ i lt. byte_in_field b 0 3 i i (omega arith) lt ∙ ap (λ (x : List ℕ). slice_index x i) are.e1 in
    let raws : raw_entries 63 b ≡ map raw_of es =
    ap (λ (n : ℕ). raw_entries n b) (sym count) ∙ raws_again b es h.each (ap (λ (n : ℕ). field 16 (16 * n) b) count ∙ are.e3) in
    let value : map entry_value (raw_entries 63 b) ≡ es = ap (map entry_value) raws ∙ entries_again es h.each in
    let used = sym (used_is (raw_entries 63 b)) ∙ ap (list_any has_generation) value ∙ h.used in
    let facts : PartFacts j b = record {
      gate = byte 0 (omega arith);
      kind = byte 1 (omega arith);
      index = byte 2 (omega arith);
      far = ap (list_any (is_far (2 ^ 28))) raws ∙ raws_near (2 ^ 28) es (omega arith) (entries_below es h.each);
      counted = ap (list_any is_uncounted) raws ∙ raws_counted es h.each;
      stray = ap (list_any is_stray) raws ∙ raws_straight es h.each;
      blank = ap (list_any is_nonzero) are.e2 ∙ zeros_pass 13;
      used = not_true (list_all is_unused (raw_entries 63 b)) used;
    } in
    ap (λ (o : Option Why). cause_or o (part_value b)) (part_causes-none j b facts) ∙ ap (λ (xs : List EntryValue). Ok xs) value

settled : (o : Option Why) (x y : List EntryValue) → cause_or o x ≡ Ok y → (o ≡ None) × (x ≡ y)
settled None x y e = (refl, cc)
settled (Some w) x y e = absurd cc

pub part_found : (j : ℕ) (b : List ℕ) (r : Result (List EntryValue) BadPage) → IsBlock b → Reads r (part_of j b) → IfOk r (λ es. IsPart es × (b ≡ part_bytes j es))
part_found j b (Ok es) block e =
    let both = settled (first_cause (part_causes j b)) (part_value b) es e in
    subst (λ (xs : List EntryValue). IsPart xs × (b ≡ part_bytes j xs)) both.1 (part_found_facts j b block (PartFacts-none j b both.0))
part_found j b (Err w) block e = tt

pub part_only : (j : ℕ) (b : List ℕ) (r : Result (List EntryValue) BadPage) → Reads r (part_of j b) → (es : List EntryValue) → IsPart es → b ≡ part_bytes j es → Reads r (Ok es)
part_only j b r e es h spelled = subst (λ (q : Result (List EntryValue) Why). Reads r q) (part_of-part_bytes j b es h spelled) e
