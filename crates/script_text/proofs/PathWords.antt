-- A word is read as a path exactly where it is what is printed for it.
use Rattle.std.proofs.Common.{◌≡◌, ℕ, suc, ◌^◌, ◌<◌, ◌≤◌, Bool, true, false, cond, leb, eqb, List, [], ◌∷◌, ◌++◌, length, map, take, drop, get_or, Option, Some, None, refl, sym, ◌∙◌, ap, subst, arith, length-append}
use Rattle.std.specs.List.{All, flat_map, join_with_byte, slice_split}
use Rattle.std.specs.Option.{option_and_then, option_map}
use Rattle.std.specs.Str.{bytes_eq}
use Rattle.std.specs.Fmt.{decimal}
use Rattle.std.proofs.lemmas.Bool.{leb-true, le-leb, eqb-true, cond-true, cond-false}
use Rattle.std.proofs.lemmas.List.{append-nil, length-map}
use Rattle.std.proofs.lemmas.List.Elements.{All-cons, All-head, All-tail, All-nil}
use Rattle.std.proofs.lemmas.List.Splits.{join_with_byte-slice_split, length-slice_split, slice_split_at, slice_split_none}
use Rattle.std.proofs.lemmas.List.Sums.{AllPass-from_list_all}
use Rattle.std.proofs.lemmas.Slice.Eq.{bytes_eq-Decides}
use Rattle.std.proofs.lemmas.Grind.{common_steps}
use Rattle.tree_model.specs.Children.{path_of as path_of_child}
use Rattle.script_text.specs.ReplyText.{path_text, stroke}
use Rattle.script_text.specs.Says.{IsPath}
use Rattle.script_text.specs.Words.{child_of, is_digit, number_in, path_of, short_path, slots_of}
use Rattle.script_text.proofs.NumberWords.{AreDigits-decimal, IsNumberIn-from_read, read-from_IsNumberIn}

abbrev is_stroke : ℕ → Bool
is_stroke b = eqb b 47

-- ---- slots

-- words that are read as slots are their numbers
slots_read : (ws : List (List ℕ)) (path : List ℕ) → slots_of ws ≡ Some path → (ws ≡ map decimal path) × All (λ s. s < 16) path
slots_read [] path e = let same : [] ≡ path = cc in subst (λ p. ([] ≡ map decimal p) × All (λ s. s < 16) p) same (refl, All-nil (λ s. s < 16))
slots_read (w ∷ ws) path e = by (number_in 0 15 w) (slots_of ws) refl (slots_read ws) e
  where
    by : (o : Option ℕ) (more : Option (List ℕ)) → number_in 0 15 w ≡ o → ((ss : List ℕ) → more ≡ Some ss → (ws ≡ map decimal ss) × All (λ s. s < 16) ss)
        → option_and_then (λ s. option_map (λ ss. s ∷ ss) more) o ≡ Some path
        → (w ∷ ws ≡ map decimal path) × All (λ s. s < 16) path
    by None more p rests h = cc
    by (Some s) None p rests h = cc
    by (Some s) (Some ss) p rests h =
        let same : s ∷ ss ≡ path = cc in
        let says = IsNumberIn-from_read 0 15 w s (omega arith) p in
        let most = says.most in
        let rest = rests ss refl in
        let whole : w ∷ ws ≡ map decimal (s ∷ ss) = ap (λ x. x ∷ ws) says.number ∙ ap (λ xs. decimal s ∷ xs) rest.0 in
        subst (λ p. (w ∷ ws ≡ map decimal p) × All (λ s. s < 16) p) same (whole, All-cons (λ s. s < 16) s ss (omega arith) rest.1)

-- the numbers of slots are read as them
slots_said : (path : List ℕ) → All (λ s. s < 16) path → slots_of (map decimal path) ≡ Some path
slots_said [] h = refl
slots_said (s ∷ ss) h =
    let first = All-head (λ s. s < 16) s ss h in
    let one : number_in 0 15 (decimal s) ≡ Some s =
    read-from_IsNumberIn 0 15 (decimal s) s (omega arith) (record { number = refl; least = omega arith; most = omega (arith, first) }) in
    let more = slots_said ss (All-tail (λ s. s < 16) s ss h) in
    ap (λ o. option_and_then (λ s. option_map (λ ss. s ∷ ss) (slots_of (map decimal ss))) o) one
    ∙ ap (λ o. option_map (λ ss. s ∷ ss) o) more

-- ---- strokes between them

strokes : (s : ℕ) (ss : List ℕ) → 47 ∷ join_with_byte 47 (map decimal (s ∷ ss)) ≡ flat_map stroke (s ∷ ss)
strokes s [] = sym (append-nil (stroke s))
strokes s (t ∷ ts) = ap (λ xs. 47 ∷ (decimal s ++ xs)) (strokes t ts)

-- no stroke is printed for a number
no_stroke : (s : ℕ) → s < 2 ^ 64 → All (λ b. is_stroke b ≡ false) (decimal s)
no_stroke s small k d lt =
    let digit = AllPass-from_list_all is_digit (decimal s) (AreDigits-decimal s small).each k d lt in
    grind (arith, common_steps)

-- what stands between the strokes
split_strokes : (s : ℕ) (ss : List ℕ) → All (λ s. s < 16) (s ∷ ss)
    → slice_split is_stroke (join_with_byte 47 (map decimal (s ∷ ss))) ≡ map decimal (s ∷ ss)
split_strokes s [] h =
    let first = All-head (λ s. s < 16) s [] h in
    slice_split_none is_stroke (decimal s) (no_stroke s (omega arith))
split_strokes s (t ∷ ts) h =
    let first = All-head (λ s. s < 16) s (t ∷ ts) h in
    slice_split_at is_stroke (decimal s) 47 (join_with_byte 47 (map decimal (t ∷ ts))) (no_stroke s (omega arith)) refl
    ∙ ap (λ xs. decimal s ∷ xs) (split_strokes t ts (All-tail (λ s. s < 16) s (t ∷ ts) h))

-- ---- words

abbrev root : List ℕ
root = 47 ∷ []

-- a word that is read as a path
pub IsPath-from_read : (word path : List ℕ) → path_of word ≡ Some path → IsPath word path
IsPath-from_read word path e = by (bytes_eq word root) (eqb (get_or word 0 0) 47) (leb (length (parts word)) 7) refl refl refl e
  where
    parts : List ℕ → List (List ℕ)
    parts w = slice_split is_stroke (drop 1 w)

    long : (w : List ℕ) → eqb (get_or w 0 0) 47 ≡ true → w ≡ 47 ∷ drop 1 w
    long [] q = cc
    long (c ∷ cs) q = ap (λ x. x ∷ cs) (eqb-true c 47 q)

    of_slots : (slots : List ℕ) → parts word ≡ map decimal slots → word ≡ 47 ∷ drop 1 word → word ≡ path_text slots
    of_slots [] none whole =
        let count = length-slice_split is_stroke (drop 1 word) in
        absurd (omega (arith, count, ap (λ ws. length ws) none))
    of_slots (s ∷ ss) same whole =
        whole
        ∙ ap (λ xs. 47 ∷ xs) (sym (join_with_byte-slice_split 47 (drop 1 word)) ∙ ap (join_with_byte 47) same)
        ∙ strokes s ss

    by : (a b c : Bool) → bytes_eq word root ≡ a → eqb (get_or word 0 0) 47 ≡ b → leb (length (parts word)) 7 ≡ c
        → cond a (Some []) (cond b (cond c (slots_of (parts word)) None) None) ≡ Some path → IsPath word path
    by true b c p q r h =
        let same : [] ≡ path = cc in
        let text = (bytes_eq-Decides word root).0 p in
        subst (λ x. IsPath word x) same (record { text = text; short = omega arith; each = All-nil (λ s. s < 16) })
    by false true true p q r h =
        let read = slots_read (parts word) path h in
        let count = ap (λ ws. length ws) read.0 ∙ length-map path decimal in
        let few = leb-true (length (parts word)) 7 r in
        record { text = of_slots path read.0 (long word q); short = omega (arith, count); each = read.1 }
    by false true false p q r h = cc
    by false false c p q r h = cc

-- a word that says a path
pub read-from_IsPath : (word path : List ℕ) → IsPath word path → path_of word ≡ Some path
read-from_IsPath word path says = ap path_of says.text ∙ of path says.short says.each
  where
    of : (path : List ℕ) → length path ≤ 7 → All (λ s. s < 16) path → path_of (path_text path) ≡ Some path
    of [] short each = refl
    of (s ∷ ss) short each =
        let rest = join_with_byte 47 (map decimal (s ∷ ss)) in
        let some = AreDigits-decimal s (let first = All-head (λ s. s < 16) s ss each in omega arith) in
        let other : bytes_eq (47 ∷ rest) root ≡ false = not_root s ss (some.some) in
        let same = split_strokes s ss each in
        let count = length-map (s ∷ ss) decimal in
        ap path_of (sym (strokes s ss))
        ∙ cond-false (bytes_eq (47 ∷ rest) root) (Some []) (short_path (slice_split is_stroke rest)) other
        ∙ ap short_path same
        ∙ cond-true (leb (length (map decimal (s ∷ ss))) 7) (slots_of (map decimal (s ∷ ss))) None (le-leb (length (map decimal (s ∷ ss))) 7 (omega (arith, count)))
        ∙ slots_said (s ∷ ss) each
      where
        not_root : (s : ℕ) (ss : List ℕ) → 0 < length (decimal s) → bytes_eq (47 ∷ join_with_byte 47 (map decimal (s ∷ ss))) root ≡ false
        not_root s ss some = unlike (bytes_eq (47 ∷ join_with_byte 47 (map decimal (s ∷ ss))) root) refl
          where
            longer : (ss : List ℕ) → 0 < length (join_with_byte 47 (map decimal (s ∷ ss)))
            longer [] = some
            longer (t ∷ ts) = omega (arith, length-append (decimal s) (47 ∷ join_with_byte 47 (map decimal (t ∷ ts))), some)

            unlike : (b : Bool) → bytes_eq (47 ∷ join_with_byte 47 (map decimal (s ∷ ss))) root ≡ b → b ≡ false
            unlike false p = refl
            unlike true p =
                let same = (bytes_eq-Decides (47 ∷ join_with_byte 47 (map decimal (s ∷ ss))) root).0 p in
                absurd (omega (arith, ap (λ xs. length xs) same, longer ss))

-- ---- the page that a path other than `/` names

pub child_said : (path : List ℕ) (child : List ℕ × ℕ) → child_of path ≡ Some child → path ≡ path_of_child child
child_said [] child e = cc
child_said (s ∷ ss) child e =
    let same : (take (length ss) (s ∷ ss), get_or (s ∷ ss) (length ss) 0) ≡ child = cc in
    subst (λ c. s ∷ ss ≡ path_of_child c) same (ends (s ∷ ss) (length ss) refl)
  where
    ends : (xs : List ℕ) (n : ℕ) → length xs ≡ suc n → xs ≡ take n xs ++ get_or xs n 0 ∷ []
    ends xs n e = grind (arith, common_steps)

pub child_read : (path : List ℕ) (child : List ℕ × ℕ) → path ≡ path_of_child child → child_of path ≡ Some child
child_read path child e = ap child_of e ∙ of child.0 child.1
  where
    of : (above : List ℕ) (last : ℕ) → child_of (above ++ last ∷ []) ≡ Some (above, last)
    of [] last = refl
    of (s ∷ ss) last =
        let n : length (ss ++ last ∷ []) ≡ length (s ∷ ss) = length-append ss (last ∷ []) ∙ omega arith in
        ap (λ n. Some (take n (s ∷ (ss ++ last ∷ [])), get_or (s ∷ (ss ++ last ∷ [])) n 0)) n
        ∙ pair_same (s ∷ ss) last
      where
        pair_same : (xs : List ℕ) (last : ℕ)
            → (let r : Option (List ℕ × ℕ) = Some (take (length xs) (xs ++ last ∷ []), get_or (xs ++ last ∷ []) (length xs) 0) in r) ≡ Some (xs, last)
        pair_same xs last =
            let front : take (length xs) (xs ++ last ∷ []) ≡ xs = grind (arith, common_steps) in
            let end : get_or (xs ++ last ∷ []) (length xs) 0 ≡ last = grind (arith, common_steps) in
            ap (λ t. Some (t, get_or (xs ++ last ∷ []) (length xs) 0)) front ∙ ap (λ v. Some (xs, v)) end
