-- One step more of what loops add up.
use Rattle.std.proofs.Common.{◌≡◌, ℕ, zero, suc, ◌+◌, Bool, cond, [], ◌∷◌, ◌++◌, count_by, refl, ap, ◌∙◌, add-one, append-nil, arith}
use Rattle.std.specs.List.{flat_map, range_with_len}
use Rattle.std.proofs.lemmas.Grind.{flat_map-append}
use Rattle.std.proofs.lemmas.List.Sums.{sum_by_push}
use Rattle.tree_model.specs.Trees.{numbers_below}
use Rattle.store_commands.specs.Texts.{new_file_line, new_files_text}

range_more : (a n : ℕ) → range_with_len a (suc n) ≡ range_with_len a n ++ (a + n) ∷ []
range_more a zero = ap (λ m. m ∷ []) (omega arith)
range_more a (suc n) = ap (λ ns. a ∷ ns) (range_more (a + 1) n ∙ ap (λ m. range_with_len (a + 1) n ++ m ∷ []) (omega arith))

-- the line of one file more
pub lines_more : (n : ℕ) → new_files_text (n + 1) ≡ new_files_text n ++ new_file_line (n + 1)
lines_more n =
    ap new_files_text (add-one n) ∙ ap (flat_map new_file_line) (range_more 1 n) ∙ flat_map-append new_file_line (range_with_len 1 n) ((1 + n) ∷ [])
    ∙ ap (λ line. new_files_text n ++ line) (append-nil (new_file_line (1 + n)) ∙ ap new_file_line (omega arith))

-- one number more that is counted, or not
pub count_more : (p : ℕ → Bool) (n : ℕ) → count_by p (numbers_below (n + 1)) ≡ count_by p (numbers_below n) + cond (p n) 1 0
unfolding numbers_below
count_more p n = ap (λ m. count_by p (numbers_below m)) (add-one n) ∙ sum_by_push (λ j. cond (p j) 1 0) (numbers_below n) n

pub count_none : (p : ℕ → Bool) → count_by p (numbers_below 0) ≡ 0
unfolding numbers_below
count_none p = refl
