-- The text of a mask of slots, one slot more at a time.
use Rattle.std.proofs.Common.{◌≡◌, ℕ, zero, suc, ◌+◌, ◌/◌, ◌%◌, ◌^◌, eqb, List, [], ◌∷◌, ◌++◌, sym, ◌∙◌, ap, arith, append_assoc, add-one}
use Rattle.std.specs.List.{flat_map, range_with_len}
use Rattle.std.proofs.lemmas.Grind.{flat_map-append}
use Rattle.std.proofs.lemmas.Bool.{cond-true, cond-false, eq-eqb, ne_eqb}
use Rattle.std.proofs.lemmas.List.{append-nil}
use Rattle.script_text.specs.ReplyText.{spaced, slot_word}

-- one number more at the end of a range
range_more : (a n : ℕ) → range_with_len a (suc n) ≡ range_with_len a n ++ (a + n) ∷ []
range_more a zero = ap (λ k. k ∷ []) (omega arith)
range_more a (suc n) =
    ap (λ xs. a ∷ xs) (range_more (a + 1) n ∙ ap (λ k. range_with_len (a + 1) n ++ k ∷ []) (omega arith))

words_more : (mask n : ℕ) → flat_map (slot_word mask) (range_with_len 0 (n + 1)) ≡ flat_map (slot_word mask) (range_with_len 0 n) ++ slot_word mask n
words_more mask n =
    ap (λ k. flat_map (slot_word mask) (range_with_len 0 k)) (add-one n)
    ∙ ap (flat_map (slot_word mask)) (range_more 0 n ∙ ap (λ k. range_with_len 0 n ++ k ∷ []) (omega arith))
    ∙ flat_map-append (slot_word mask) (range_with_len 0 n) (n ∷ [])
    ∙ ap (λ w. flat_map (slot_word mask) (range_with_len 0 n) ++ w) (append-nil (slot_word mask n))

-- a slot that is there
pub slots_more : (mask n : ℕ) (front text new : List ℕ) → text ≡ front ++ flat_map (slot_word mask) (range_with_len 0 n)
    → mask / 2 ^ n % 2 ≡ 1 → new ≡ text ++ spaced n
    → new ≡ front ++ flat_map (slot_word mask) (range_with_len 0 (n + 1))
slots_more mask n front text new h is grown =
    grown ∙ ap (λ t. t ++ spaced n) h ∙ append_assoc front (flat_map (slot_word mask) (range_with_len 0 n)) (spaced n)
    ∙ ap (λ t. front ++ t) (
    ap (λ w. flat_map (slot_word mask) (range_with_len 0 n) ++ w) (sym (cond-true (eqb (mask / 2 ^ n % 2) 1) (spaced n) [] (eq-eqb _ _ is)))
    ∙ sym (words_more mask n)
    )

-- a slot that is not
pub slots_same : (mask n : ℕ) (front text : List ℕ) → text ≡ front ++ flat_map (slot_word mask) (range_with_len 0 n)
    → (mask / 2 ^ n % 2 ≡ 1 → ⊥)
    → text ≡ front ++ flat_map (slot_word mask) (range_with_len 0 (n + 1))
slots_same mask n front text h is =
    h ∙ ap (λ t. front ++ t) (
    sym (append-nil (flat_map (slot_word mask) (range_with_len 0 n)))
    ∙ ap (λ w. flat_map (slot_word mask) (range_with_len 0 n) ++ w) (sym (cond-false (eqb (mask / 2 ^ n % 2) 1) (spaced n) [] (ne_eqb _ _ is)))
    ∙ sym (words_more mask n)
    )
