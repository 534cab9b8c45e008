-- A page that is read is spelled so, and a page that is spelled is read.
use Rattle.std.proofs.Common.{◌≡◌, ℕ, ◌≤◌, not, ◌&&◌, eqb, ltb, List, length, refl, sym, ap, subst, ◌∙◌, arith}
use Rattle.std.specs.Prelude.{Option, Some, None, Result, Ok, Err, IfOk, slice_index}
use Rattle.std.specs.List.{list_any}
use Rattle.std.proofs.lemmas.Bool.{eqb-true}
use Rattle.page_codec.specs.declared.why.Why.{Why}
use Rattle.page_codec.specs.declared.why.BadPage.{BadPage}
use Rattle.page_codec.specs.Numbers.{field, zeros}
use Rattle.page_codec.specs.Values.{PageValue}
use Rattle.page_codec.specs.Bounds.{IsPage}
use Rattle.page_codec.specs.Spelling.{frame_bytes, page_bytes}
use Rattle.page_codec.specs.Reading.{slots, data_len, frame_value}
use Rattle.page_codec.specs.Causes.{Reads, cause_or, first_cause, page_causes, page_of, is_no_code, is_dangling, is_nonzero, has_other, has_other_past}
use Rattle.page_codec.specs.Facts.{PageFacts}
use Rattle.page_codec.proofs.CauseLaws.{clear_none, both_false, passes_same, passes_positive, passes_most, passes_if}
use Rattle.page_codec.proofs.FactLaws.{PageFacts-none}
use Rattle.page_codec.proofs.ByteLaws.{zeros_field, zeros_pass, length-zeros}
use Rattle.page_codec.proofs.FrameLaws.{IsBlock, frame_read, IsFrame-frame_value, IsFramed-frame_bytes, IsFrameRead-framed, length-frame_bytes}

-- where the facts hold, no cause applies
pub page_causes-none : (b : List ℕ) → PageFacts b → first_cause (page_causes b) ≡ None
unfolding page_causes
page_causes-none b facts =
    let level = both_false (eqb (slice_index b 2) 0) (ltb 7 (slice_index b 2)) (passes_positive (slice_index b 2) facts.below) (passes_most 7 (slice_index b 2) facts.frame.depth) in
    let code = both_false (not (eqb (slice_index b 3) 0)) (list_any is_no_code (slots b)) (passes_same (slice_index b 3) 0 facts.plain) facts.frame.coded in
    let slot = both_false (list_any is_dangling (slots b)) (eqb (slice_index b 2) 7 && list_any is_nonzero (slots b)) facts.frame.named
    (passes_if (eqb (slice_index b 2) 7) (list_any is_nonzero (slots b)) (λ seven. facts.frame.leaf (eqb-true (slice_index b 2) 7 seven))) in
    let zero = both_false (has_other 70 219 b) (has_other_past b) facts.middle facts.frame.past in
    clear_none (page_causes b)
    (passes_same (slice_index b 0) 165 facts.frame.gate, (passes_same (slice_index b 1) 80 facts.kind, (level, (code, (slot, (passes_most 800 (data_len b) facts.frame.short, (zero, tt)))))))

level_of : (b : List ℕ) → slice_index b 2 ≡ (frame_value b).level
unfolding frame_value
level_of b = refl

-- a page that is read is spelled so
pub page_of-found : (b : List ℕ) → IsBlock b → PageFacts b → IsPage (frame_value b) × (b ≡ page_bytes (frame_value b))
unfolding page_bytes
page_of-found b block facts =
    let inner : field 70 149 b ≡ zeros 149 = zeros_field 70 149 b (omega (arith, block.size)) facts.middle in (
      record { frame = IsFrame-frame_value b block facts.frame; below = subst (λ (n : ℕ). 1 ≤ n) (level_of b) facts.below },
      frame_read b block facts.frame
          ∙ ap (λ (k : ℕ). frame_bytes k (slice_index b 3) (frame_value b) (field 70 149 b)) facts.kind
          ∙ ap (λ (c : ℕ). frame_bytes 80 c (frame_value b) (field 70 149 b)) facts.plain
          ∙ ap (frame_bytes 80 0 (frame_value b)) inner,
    )

-- a page that is spelled is read
pub page_of-page_bytes : (b : List ℕ) (p : PageValue) → IsPage p → b ≡ page_bytes p → page_of b ≡ Ok p
unfolding page_bytes
page_of-page_bytes b p h e =
    let framed = IsFramed-frame_bytes b 80 0 p (zeros 149) h.frame (length-zeros 149) e in
    let read = IsFrameRead-framed b 80 0 p (zeros 149) h.frame framed in
    let facts : PageFacts b = record {
      frame = read.facts;
      kind = read.kind_is;
      below = subst (λ (n : ℕ). 1 ≤ n) (sym read.level_is) h.below;
      plain = read.code_is;
      middle = ap (list_any is_nonzero) framed.inner ∙ zeros_pass 149;
    } in
    ap (λ (o : Option Why). cause_or o (frame_value b)) (page_causes-none b facts) ∙ ap (λ (q : PageValue). Ok q) read.value

-- a page's spelling has 1,024 bytes
pub length-page_bytes : (p : PageValue) → IsPage p → length (page_bytes p) ≡ 1024
unfolding page_bytes
length-page_bytes p h = length-frame_bytes 80 0 p (zeros 149) h.frame (length-zeros 149)

-- ---- what a decoder returned

settled : (o : Option Why) (x y : PageValue) → cause_or o x ≡ Ok y → (o ≡ None) × (x ≡ y)
settled None x y e = (refl, cc)
settled (Some w) x y e = absurd cc

pub page_found : (b : List ℕ) (r : Result PageValue BadPage) → IsBlock b → Reads r (page_of b) → IfOk r (λ p. IsPage p × (b ≡ page_bytes p))
page_found b (Ok p) block e =
    let both = settled (first_cause (page_causes b)) (frame_value b) p e in
    subst (λ (q : PageValue). IsPage q × (b ≡ page_bytes q)) both.1 (page_of-found b block (PageFacts-none b both.0))
page_found b (Err w) block e = tt

pub page_only : (b : List ℕ) (r : Result PageValue BadPage) → Reads r (page_of b) → (p : PageValue) → IsPage p → b ≡ page_bytes p → Reads r (Ok p)
page_only b r e p h spelled = subst (λ (q : Result PageValue Why). Reads r q) (page_of-page_bytes b p h spelled) e
