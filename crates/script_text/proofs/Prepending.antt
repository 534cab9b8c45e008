-- Lists that are read item by item, of which each may fail.
use Rattle.std.proofs.Common.{◌≡◌, ℕ, ◌+◌, ◌<◌, ◌≤◌, Bool, true, false, cond, leb, List, [], ◌∷◌, ◌++◌, length, drop, get_or, eqb, length-append, Option, Some, None, Result, Ok, Err, refl, sym, ◌∙◌, ap, arith, append_assoc}
use Rattle.std.specs.Option.{option_map, option_and_then}
use Rattle.std.proofs.lemmas.List.{append-nil, at_drop_all, at_drop_more}
use Rattle.std.proofs.lemmas.Bool.{lt-leb, le-leb, cond-true, cond-false, eqb-true, eqb-false}
use Rattle.script_text.specs.declared.command.FileName.{FileName}
use Rattle.script_text.specs.declared.refused.LineWhy.{LineWhy}
use Rattle.script_text.specs.declared.script.Mode.{Mode}
use Rattle.script_text.specs.Grammar.{and_then, then_ok, file_word, file_words}
use Rattle.script_text.specs.Words.{number_in, slots_of, short_path, deeper}

-- the files that were read, before those that the rest gives
abbrev pub with_files : List FileName → Result (List FileName) LineWhy → Result (List FileName) LineWhy
with_files front rest = then_ok (λ fs. front ++ fs) rest

with_files-nil : (r : Result (List FileName) LineWhy) → with_files [] r ≡ r
with_files-nil (Ok fs) = refl
with_files-nil (Err e) = refl

with_files-push : (front : List FileName) (f : FileName) (r : Result (List FileName) LineWhy)
    → with_files front (then_ok (λ fs. f ∷ fs) r) ≡ with_files (front ++ f ∷ []) r
with_files-push front f (Ok fs) = ap (λ xs. Ok xs) (sym (append_assoc front (f ∷ []) fs))
with_files-push front f (Err e) = refl

pub files-start : (mode : Mode) (ws : List (List ℕ)) → with_files [] (file_words mode (drop 0 ws)) ≡ file_words mode ws
files-start mode ws = with_files-nil (file_words mode ws)

-- the words from place i on
step_files : (mode : Mode) (ws : List (List ℕ)) (i : ℕ) → i < length ws
    → file_words mode (drop i ws) ≡ and_then (λ f. then_ok (λ fs. f ∷ fs) (file_words mode (drop (i + 1) ws))) (file_word mode (get_or ws i []))
step_files mode ws i h = at_drop_more (file_words mode) ws i [] h

-- one file more
pub files-more : (mode : Mode) (ws : List (List ℕ)) (i : ℕ) (front : List FileName) (f : FileName) → i < length ws
    → with_files front (file_words mode (drop i ws)) ≡ file_words mode ws
    → Ok f ≡ file_word mode (get_or ws i [])
    → with_files (front ++ f ∷ []) (file_words mode (drop (i + 1) ws)) ≡ file_words mode ws
files-more mode ws i front f h all is =
    sym (with_files-push front f (file_words mode (drop (i + 1) ws)))
    ∙ ap (λ r. with_files front (and_then (λ g. then_ok (λ fs. g ∷ fs) (file_words mode (drop (i + 1) ws))) r)) is
    ∙ ap (with_files front) (sym (step_files mode ws i h))
    ∙ all

-- a word that is no file
pub files-err : (mode : Mode) (ws : List (List ℕ)) (i : ℕ) (front : List FileName) (e : LineWhy) → i < length ws
    → with_files front (file_words mode (drop i ws)) ≡ file_words mode ws
    → Err e ≡ file_word mode (get_or ws i [])
    → Err e ≡ file_words mode ws
files-err mode ws i front e h all is =
    ap (λ r. with_files front (and_then (λ g. then_ok (λ fs. g ∷ fs) (file_words mode (drop (i + 1) ws))) r)) is
    ∙ ap (with_files front) (sym (step_files mode ws i h))
    ∙ all

-- all words are read
pub files-end : (mode : Mode) (ws : List (List ℕ)) (i : ℕ) (front : List FileName) → length ws ≤ i
    → with_files front (file_words mode (drop i ws)) ≡ file_words mode ws
    → Ok front ≡ file_words mode ws
files-end mode ws i front h all =
    ap (λ xs. Ok xs) (sym (append-nil front)) ∙ ap (with_files front) (sym (at_drop_all (file_words mode) ws i h)) ∙ all

-- ---- slots

abbrev pub with_slots : List ℕ → Option (List ℕ) → Option (List ℕ)
with_slots front rest = option_map (λ ss. front ++ ss) rest

with_slots-nil : (r : Option (List ℕ)) → with_slots [] r ≡ r
with_slots-nil (Some ss) = refl
with_slots-nil None = refl

with_slots-push : (front : List ℕ) (s : ℕ) (r : Option (List ℕ)) → with_slots front (option_map (λ ss. s ∷ ss) r) ≡ with_slots (front ++ s ∷ []) r
with_slots-push front s (Some ss) = ap (λ xs. Some xs) (sym (append_assoc front (s ∷ []) ss))
with_slots-push front s None = refl

pub slots-start : (ws : List (List ℕ)) → with_slots [] (slots_of (drop 0 ws)) ≡ slots_of ws
slots-start ws = with_slots-nil (slots_of ws)

step_slots : (ws : List (List ℕ)) (i : ℕ) → i < length ws
    → slots_of (drop i ws) ≡ option_and_then (λ s. option_map (λ ss. s ∷ ss) (slots_of (drop (i + 1) ws))) (number_in 0 15 (get_or ws i []))
step_slots ws i h = at_drop_more slots_of ws i [] h

pub slots-more : (ws : List (List ℕ)) (i : ℕ) (front : List ℕ) (s : ℕ) → i < length ws
    → with_slots front (slots_of (drop i ws)) ≡ slots_of ws
    → Some s ≡ number_in 0 15 (get_or ws i [])
    → with_slots (front ++ s ∷ []) (slots_of (drop (i + 1) ws)) ≡ slots_of ws
slots-more ws i front s h all is =
    sym (with_slots-push front s (slots_of (drop (i + 1) ws)))
    ∙ ap (λ r. with_slots front (option_and_then (λ t. option_map (λ ss. t ∷ ss) (slots_of (drop (i + 1) ws))) r)) is
    ∙ ap (with_slots front) (sym (step_slots ws i h))
    ∙ all

pub slots-none : (ws : List (List ℕ)) (i : ℕ) (front : List ℕ) → i < length ws
    → with_slots front (slots_of (drop i ws)) ≡ slots_of ws
    → None ≡ number_in 0 15 (get_or ws i [])
    → None ≡ short_path ws
slots-none ws i front h all is =
    let none : None ≡ slots_of ws =
    ap (λ r. with_slots front (option_and_then (λ t. option_map (λ ss. t ∷ ss) (slots_of (drop (i + 1) ws))) r)) is
    ∙ ap (with_slots front) (sym (step_slots ws i h))
    ∙ all in
    either (leb (length ws) 7) (slots_of ws) none
  where
    either : (b : Bool) (o : Option (List ℕ)) → None ≡ o → None ≡ cond b o None
    either true o h = h
    either false o h = refl

-- too many slots
pub slots-long : (ws : List (List ℕ)) → 7 < length ws → None ≡ short_path ws
slots-long ws h = sym (cond-false (leb (length ws) 7) (slots_of ws) None (lt-leb (length ws) 7 h))

pub slots-end : (ws : List (List ℕ)) (i : ℕ) (front : List ℕ) → length ws ≤ i → length ws ≤ 7
    → with_slots front (slots_of (drop i ws)) ≡ slots_of ws
    → Some front ≡ short_path ws
slots-end ws i front h short all =
    ap (λ xs. Some xs) (sym (append-nil front)) ∙ ap (with_slots front) (sym (at_drop_all slots_of ws i h)) ∙ all
    ∙ sym (cond-true (leb (length ws) 7) (slots_of ws) None (le-leb (length ws) 7 short))

-- one slot more
pub deeper-more : (ws : List (List ℕ)) (i : ℕ) (front next : List ℕ) → i < length ws → length front ≤ 7
    → with_slots front (slots_of (drop i ws)) ≡ slots_of ws
    → (slot : Option ℕ) → slot ≡ number_in 0 15 (get_or ws i []) → Some next ≡ deeper front slot
    → (length next ≡ length front + 1) × (length next ≤ 7) × (with_slots next (slots_of (drop (i + 1) ws)) ≡ slots_of ws)
deeper-more ws i front next h short all None is e = cc e
deeper-more ws i front next h short all (Some s) is e = by_length (eqb (length front) 7) refl e
  where
    by_length : (b : Bool) → eqb (length front) 7 ≡ b → Some next ≡ cond b None (Some (front ++ s ∷ []))
        → (length next ≡ length front + 1) × (length next ≤ 7) × (with_slots next (slots_of (drop (i + 1) ws)) ≡ slots_of ws)
    by_length true q d = cc d
    by_length false q d =
        let same : next ≡ front ++ s ∷ [] = cc d in
        let len = ap length same ∙ length-append front (s ∷ []) in
        let other = eqb-false (length front) 7 q in (
          omega (arith, len),
          omega (arith, len, other),
          ap (λ p. with_slots p (slots_of (drop (i + 1) ws))) same ∙ slots-more ws i front s h all is,
        )

-- no slot more
pub deeper-none : (ws : List (List ℕ)) (i : ℕ) (front : List ℕ) → i < length ws → length front ≡ i
    → with_slots front (slots_of (drop i ws)) ≡ slots_of ws
    → (slot : Option ℕ) → slot ≡ number_in 0 15 (get_or ws i []) → None ≡ deeper front slot
    → None ≡ short_path ws
deeper-none ws i front h count all None is e = slots-none ws i front h all is
deeper-none ws i front h count all (Some s) is e = by_length (eqb (length front) 7) refl e
  where
    by_length : (b : Bool) → eqb (length front) 7 ≡ b → None ≡ cond b None (Some (front ++ s ∷ [])) → None ≡ short_path ws
    by_length true q d = slots-long ws (omega (arith, eqb-true (length front) 7 q))
    by_length false q d = cc d
