-- The serials that are printed in the line of a file, one after another.
use Rattle.std.proofs.Common.{◌≡◌, ℕ, zero, suc, ◌+◌, [], ◌∷◌, ◌++◌, ap, ◌∙◌, arith, add-one, append-nil}
use Rattle.std.specs.List.{flat_map, range_with_len}
use Rattle.std.proofs.lemmas.Grind.{flat_map-append}
use Rattle.script_text.specs.ReplyText.{spaced}

range_more : (a n : ℕ) → range_with_len a (suc n) ≡ range_with_len a n ++ (a + n) ∷ []
range_more a zero = ap (λ k. k ∷ []) (omega arith)
range_more a (suc n) =
    ap (λ xs. a ∷ xs)
    (range_more (a + 1) n ∙ ap (λ k. range_with_len (a + 1) n ++ k ∷ []) (omega arith))

-- one serial more
pub serials_more : (first k : ℕ) → flat_map spaced (first ∷ range_with_len (first + 1) (k + 1))
    ≡ flat_map spaced (first ∷ range_with_len (first + 1) k) ++ spaced (first + 1 + k)
serials_more first k =
    ap (λ m. flat_map spaced (first ∷ range_with_len (first + 1) m)) (add-one k)
    ∙ ap (λ xs. flat_map spaced (first ∷ xs)) (range_more (first + 1) k)
    ∙ flat_map-append spaced (first ∷ range_with_len (first + 1) k) ((first + 1 + k) ∷ [])
    ∙ ap (λ w. flat_map spaced (first ∷ range_with_len (first + 1) k) ++ w)
    (append-nil (spaced (first + 1 + k)))
