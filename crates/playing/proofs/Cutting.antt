-- A text that is too long has its first bad line in its front already.
use Rattle.std.proofs.Common.{◌≡◌, ℕ, suc, ◌+◌, ◌<◌, ◌≤◌, Bool, true, false, cond, eqb, ltb, inl, inr, List, [], ◌∷◌, ◌++◌, length, Option, None, Some, Result, Err, refl, sym, ap, subst, ◌∙◌, arith}
use Rattle.std.specs.List.{cons_option, filter_map, onto_first, slice_get}
use Rattle.std.proofs.lemmas.Bool.{cond-false, lt-ltb, ltb-false, ne_eqb}
use Rattle.std.proofs.lemmas.List.Splits.{length-slice_split}
use Rattle.script_text.specs.declared.command.Command.{Command}
use Rattle.script_text.specs.declared.refused.LineWhy.{LineWhy}
use Rattle.script_text.specs.declared.refused.LineWhy.TheVariants.{Lines, Size}
use Rattle.script_text.specs.declared.refused.ScriptRefused.TheVariants.{BadLine}
use Rattle.script_text.specs.declared.script.Mode.{Mode}
use Rattle.script_text.specs.Grammar.{IsInGrammar, IsRefusal, RawLine, bad_lines, bad_of, bad_when, raw_line, raw_lines}
use Rattle.script_text.specs.Words.{pieces}
use Rattle.playing.specs.Sources.{IsReadOf}

-- ---- the pieces of a front of a text

-- The pieces of a text begin with those of its front, whose last one is a front of a piece.
abbrev IsFrontOf : List (List ℕ) → List (List ℕ) → Type 0
IsFrontOf [] qs = ⊥
IsFrontOf (p ∷ []) [] = ⊥
IsFrontOf (p ∷ []) (q ∷ qs) = length p ≤ length q
IsFrontOf (p ∷ next ∷ ps) [] = ⊥
IsFrontOf (p ∷ next ∷ ps) (q ∷ qs) = (p ≡ q) × IsFrontOf (next ∷ ps) qs

-- how many bytes pieces have, with the line feeds between them
abbrev pub total : List (List ℕ) → ℕ
total [] = 0
total (p ∷ []) = length p
total (p ∷ next ∷ ps) = length p + 1 + total (next ∷ ps)

front_none : (qs : List (List ℕ)) → 0 < length qs → IsFrontOf ([] ∷ []) qs
front_none [] some = absurd (omega (arith, some))
front_none (q ∷ qs) some = omega arith

front_feed : (ps qs : List (List ℕ)) → IsFrontOf ps qs → IsFrontOf ([] ∷ ps) ([] ∷ qs)
front_feed [] qs front = absurd front
front_feed (p ∷ ps) qs front = (refl, front)

front_onto : (x : ℕ) (ps qs : List (List ℕ)) → IsFrontOf ps qs
    → IsFrontOf (onto_first x ps) (onto_first x qs)
front_onto x [] qs front = absurd front
front_onto x (p ∷ []) [] front = absurd front
front_onto x (p ∷ []) (q ∷ qs) front = omega (arith, front)
front_onto x (p ∷ next ∷ ps) [] front = absurd front
front_onto x (p ∷ next ∷ ps) (q ∷ qs) front = (ap (λ y. x ∷ y) front.0, front.1)

front_pieces : (a b : List ℕ) → IsFrontOf (pieces a) (pieces (a ++ b))
front_pieces [] b = front_none (pieces b) (omega (arith, length-slice_split (λ c. eqb c 10) b))
front_pieces (x ∷ xs) b = by (eqb x 10) (front_pieces xs b)
  where
    by : (feed : Bool) → IsFrontOf (pieces xs) (pieces (xs ++ b))
        → IsFrontOf (cond feed ([] ∷ pieces xs) (onto_first x (pieces xs)))
        (cond feed ([] ∷ pieces (xs ++ b)) (onto_first x (pieces (xs ++ b))))
    by true rest = front_feed (pieces xs) (pieces (xs ++ b)) rest
    by false rest = front_onto x (pieces xs) (pieces (xs ++ b)) rest

total_feed : (ps : List (List ℕ)) → 0 < length ps → total ([] ∷ ps) ≡ suc (total ps)
total_feed [] some = absurd (omega (arith, some))
total_feed (p ∷ ps) some = omega arith

total_onto : (x : ℕ) (ps : List (List ℕ)) → total (onto_first x ps) ≡ suc (total ps)
total_onto x [] = refl
total_onto x (p ∷ []) = refl
total_onto x (p ∷ next ∷ ps) = omega arith

total_pieces : (a : List ℕ) → total (pieces a) ≡ length a
total_pieces [] = refl
total_pieces (x ∷ xs) = by (eqb x 10) (total_pieces xs)
  where
    by : (feed : Bool) → total (pieces xs) ≡ length xs
        → total (cond feed ([] ∷ pieces xs) (onto_first x (pieces xs))) ≡ suc (length xs)
    by true rest =
        total_feed (pieces xs) (omega (arith, length-slice_split (λ c. eqb c 10) xs)) ∙ ap suc rest
    by false rest = total_onto x (pieces xs) ∙ ap suc rest

-- ---- the first bad line

-- what a line says that is neither too late nor too far
abbrev Verdict : Type 0
Verdict = Result (Option Command) LineWhy

-- why a line is bad that ends too far
abbrev far_why : ℕ → LineWhy
far_why number = cond (ltb 1000 number) Lines Size

far_bad : (mode : Mode) (raw : RawLine) → 65536 < raw.end
    → bad_of mode raw ≡ Some (raw.number, far_why raw.number)
far_bad mode raw far =
    by (ltb 1000 raw.number) (ltb 65536 raw.end) (lt-ltb 65536 raw.end far) _
  where
    by : (late beyond : Bool) → beyond ≡ true → (said : Verdict)
        → bad_when raw.number (cond late (Err Lines) (cond beyond (Err Size) said))
        ≡ Some (raw.number, cond late Lines Size)
    by true beyond is said = refl
    by false true is said = refl
    by false false is said = cc

-- a line that is not bad ends in time
good_end : (mode : Mode) (raw : RawLine) → bad_of mode raw ≡ None → raw.end ≤ 65536
good_end mode raw good = by (ltb 1000 raw.number) (ltb 65536 raw.end) _ refl good
  where
    by : (late beyond : Bool) (said : Verdict) → ltb 65536 raw.end ≡ beyond
        → bad_when raw.number (cond late (Err Lines) (cond beyond (Err Size) said)) ≡ None
        → raw.end ≤ 65536
    by true true said is none = absurd cc
    by false true said is none = absurd cc
    by late false said is none = ltb-false 65536 raw.end is

-- the bad lines of raw lines
abbrev bads : Mode → List RawLine → List (ℕ × LineWhy)
bads mode raws = filter_map (bad_of mode) raws

-- a line that is bad is the first one
bad_first : (mode : Mode) (raw : RawLine) (raws : List RawLine) (bad : ℕ × LineWhy)
    → bad_of mode raw ≡ Some bad → slice_get (bads mode (raw ∷ raws)) 0 ≡ Some bad
bad_first mode raw raws bad is = ap (λ o. slice_get (cons_option o (bads mode raws)) 0) is

-- a line that is not bad is none
bad_later : (mode : Mode) (raw : RawLine) (raws : List RawLine) → bad_of mode raw ≡ None
    → bads mode (raw ∷ raws) ≡ bads mode raws
bad_later mode raw raws is = ap (λ o. cons_option o (bads mode raws)) is

-- the last line of a text, where it has a byte
last_line : (n start : ℕ) (p : List ℕ) → 0 < length p
    → raw_lines n start (p ∷ []) ≡ raw_line n start true p ∷ []
last_line n start p some =
    cond-false (eqb (length p) 0) [] (raw_line n start true p ∷ [])
    (ne_eqb (length p) 0 (λ none. omega (arith, some, none)))

-- two texts have the same first bad line
record HaveBad (mode : Mode) (n start : ℕ) (ps qs : List (List ℕ)) : Type 0 where
  bad : ℕ × LineWhy
  one : slice_get (bads mode (raw_lines n start ps)) 0 ≡ Some bad
  other : slice_get (bads mode (raw_lines n start qs)) 0 ≡ Some bad

-- the last piece of the front ends too far
far_last : (mode : Mode) (n start : ℕ) (p q : List ℕ) (qs : List (List ℕ)) → length p ≤ length q
    → start ≤ 65536 → 65536 < start + length p → HaveBad mode n start (p ∷ []) (q ∷ qs)
far_last mode n start p q qs longer small far = record {
  bad = (n, far_why n);
  one = ap (λ raws. slice_get (bads mode raws) 0) (last_line n start p (omega (arith, small, far)))
      ∙ bad_first mode (raw_line n start true p) [] (n, far_why n)
      (far_bad mode (raw_line n start true p) far);
  other = more qs;
}
  where
    more : (rs : List (List ℕ))
        → slice_get (bads mode (raw_lines n start (q ∷ rs))) 0 ≡ Some (n, far_why n)
    more [] =
        ap (λ raws. slice_get (bads mode raws) 0)
        (last_line n start q (omega (arith, small, far, longer)))
        ∙ bad_first mode (raw_line n start true q) [] (n, far_why n)
        (far_bad mode (raw_line n start true q) (omega (arith, far, longer)))
    more (r ∷ rs) =
        bad_first mode (raw_line n start false q)
        (raw_lines (n + 1) (start + length q + 1) (r ∷ rs)) (n, far_why n)
        (far_bad mode (raw_line n start false q) (omega (arith, far, longer)))

-- a front that is too long has the first bad line
far_front : (mode : Mode) (n start : ℕ) (ps qs : List (List ℕ)) → IsFrontOf ps qs → start ≤ 65536
    → 65536 < start + total ps → HaveBad mode n start ps qs
far_front mode n start [] qs front small far = absurd front
far_front mode n start (p ∷ []) [] front small far = absurd front
far_front mode n start (p ∷ []) (q ∷ qs) front small far =
    far_last mode n start p q qs front small far
far_front mode n start (p ∷ next ∷ ps) [] front small far = absurd front
far_front mode n start (p ∷ next ∷ []) (q ∷ []) front small far = absurd front.1
far_front mode n start (p ∷ next ∷ later ∷ ps) (q ∷ []) front small far = absurd front.1
far_front mode n start (p ∷ next ∷ ps) (q ∷ r ∷ qs) front small far =
    by (bad_of mode (raw_line n start false p)) refl
    (λ within. far_front mode (n + 1) (start + length p + 1) (next ∷ ps) (r ∷ qs) front.1 within
    (omega (arith, far)))
  where
    after : List (List ℕ) → List RawLine
    after rest = raw_lines (n + 1) (start + length p + 1) rest

    same : raw_lines n start (q ∷ r ∷ qs) ≡ raw_line n start false p ∷ after (r ∷ qs)
    same = ap (λ x. raw_lines n start (x ∷ r ∷ qs)) (sym front.0)

    by : (o : Option (ℕ × LineWhy)) → bad_of mode (raw_line n start false p) ≡ o
        → (start + length p + 1 ≤ 65536
        → HaveBad mode (n + 1) (start + length p + 1) (next ∷ ps) (r ∷ qs))
        → HaveBad mode n start (p ∷ next ∷ ps) (q ∷ r ∷ qs)
    by (Some bad) is rest = record {
      bad = bad;
      one = bad_first mode (raw_line n start false p) (after (next ∷ ps)) bad is;
      other = ap (λ raws. slice_get (bads mode raws) 0) same
          ∙ bad_first mode (raw_line n start false p) (after (r ∷ qs)) bad is;
    }
    by None is rest =
        let h = rest (good_end mode (raw_line n start false p) is) in record {
          bad = h.bad;
          one = ap (λ xs. slice_get xs 0)
              (bad_later mode (raw_line n start false p) (after (next ∷ ps)) is) ∙ h.one;
          other = ap (λ raws. slice_get (bads mode raws) 0) same
              ∙ ap (λ xs. slice_get xs 0)
              (bad_later mode (raw_line n start false p) (after (r ∷ qs)) is) ∙ h.other;
        }

-- ---- what was read of a text

-- what is too long has the first bad line of all
far_text : (mode : Mode) (read rest : List ℕ) → 65536 < length read
    → HaveBad mode 1 0 (pieces read) (pieces (read ++ rest))
far_text mode read rest far =
    far_front mode 1 0 (pieces read) (pieces (read ++ rest)) (front_pieces read rest) (omega arith)
    (omega (arith, far, total_pieces read))

-- where what was read is in the grammar, it is all
pub read_good : (mode : Mode) (text read : List ℕ) → IsReadOf text read → IsInGrammar mode read
    → read ≡ text
read_good mode text read (inl same) good = same
read_good mode text read (inr (far, rest, same)) good =
    let h = far_text mode read rest far in
    let none : slice_get (bad_lines mode read) 0 ≡ None = ap (λ xs. slice_get xs 0) good in
    let both : None ≡ Some h.bad = sym none ∙ h.one in
    absurd cc

-- the first bad line of what was read is that of all
pub read_bad : (mode : Mode) (text read : List ℕ) (line : ℕ) (why : LineWhy) → IsReadOf text read
    → IsRefusal (BadLine line why) (bad_lines mode read)
    → IsRefusal (BadLine line why) (bad_lines mode text)
read_bad mode text read line why (inl same) bad =
    subst (λ t. slice_get (bad_lines mode t) 0 ≡ Some (line, why)) same bad
read_bad mode text read line why (inr (far, rest, same)) bad =
    let h = far_text mode read rest far in
    subst (λ t. slice_get (bad_lines mode t) 0 ≡ Some (line, why)) same
    (h.other ∙ sym h.one ∙ bad)
