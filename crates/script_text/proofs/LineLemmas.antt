-- Reading the lines of a text one by one.
use Rattle.std.proofs.Common.{◌≡◌, ℕ, ◌+◌, ◌-◌, ◌<◌, ◌≤◌, Bool, true, false, eqb, List, [], ◌∷◌, ◌++◌, length, drop, get_or, Option, Some, None, refl, sym, ◌∙◌, ap, arith, append_assoc, length-append, length-drop}
use Rattle.std.specs.Option.{option_to_list}
use Rattle.std.specs.List.{filter_map, cons_option, join_with_byte, slice_get}
use Rattle.std.proofs.lemmas.List.Splits.{join_with_byte-slice_split}
use Rattle.std.proofs.lemmas.List.{append-nil, at_drop_all, at_drop_more}
use Rattle.std.proofs.lemmas.Bool.{cond-false, cond-true, ne_eqb, eq-eqb, eqb-true, eqb-false}
use Rattle.script_text.specs.declared.refused.LineWhy.{LineWhy}
use Rattle.script_text.specs.declared.refused.ScriptRefused.{ScriptRefused}
use Rattle.script_text.specs.declared.refused.ScriptRefused.TheVariants.{BadLine, Memory}
use Rattle.script_text.specs.declared.script.Mode.{Mode}
use Rattle.script_text.specs.declared.script.Line.{Line}
use Rattle.script_text.specs.Words.{pieces}
use Rattle.script_text.specs.Grammar.{RawLine, raw_line, raw_lines, line_end, bad_of, good_of, IsRefusal}

-- the bad lines and the good lines of raw lines
abbrev pub bads : Mode → List RawLine → List (ℕ × LineWhy)
bads mode raws = filter_map (bad_of mode) raws

abbrev pub goods : Mode → List RawLine → List Line
goods mode raws = filter_map (good_of mode) raws

-- the first i pieces of a text are read, and gave these lines
pub record ReadsLines (mode : Mode) (ps : List (List ℕ)) (i start : ℕ) (lines : List Line) : Type 0 where
  pub few : i ≤ 1000
  pub small : start ≤ 65536
  pub bad : bads mode (raw_lines (i + 1) start (drop i ps)) ≡ bads mode (raw_lines 1 0 ps)
  pub good : lines ++ goods mode (raw_lines (i + 1) start (drop i ps)) ≡ goods mode (raw_lines 1 0 ps)

pub ReadsLines-start : (mode : Mode) (ps : List (List ℕ)) → ReadsLines mode ps 0 0 []
ReadsLines-start mode ps = record {
  few = omega arith;
  small = omega arith;
  bad = refl;
  good = refl;
}

-- a first piece and the rest, where the piece is a line
one_line : (n start : ℕ) (piece : List ℕ) (rest : List (List ℕ)) (last : Bool)
    → (last ≡ true → length rest ≡ 0) → (last ≡ false → 0 < length rest) → (last ≡ true → length piece ≡ 0 → ⊥)
    → raw_lines n start (piece ∷ rest) ≡ raw_line n start last piece ∷ raw_lines (n + 1) (line_end start last piece) rest
one_line n start piece [] true end more some = cond-false (eqb (length piece) 0) [] (raw_line n start true piece ∷ []) (ne_eqb (length piece) 0 (some refl))
one_line n start piece [] false end more some = absurd (omega (arith, more refl))
one_line n start piece (q ∷ qs) true end more some = absurd (omega (arith, end refl))
one_line n start piece (q ∷ qs) false end more some = refl

-- the pieces from place i on
raw_step : (n start : ℕ) (ps : List (List ℕ)) (i : ℕ) (piece : List ℕ) (last : Bool) → i < length ps
    → piece ≡ get_or ps i [] → last ≡ eqb (i + 1) (length ps) → (last ≡ true → length piece ≡ 0 → ⊥)
    → raw_lines n start (drop i ps) ≡ raw_line n start last piece ∷ raw_lines (n + 1) (line_end start last piece) (drop (i + 1) ps)
raw_step n start ps i piece last h is end some =
    at_drop_more (raw_lines n start) ps i [] h
    ∙ ap (λ p. raw_lines n start (p ∷ drop (i + 1) ps)) (sym is)
    ∙ one_line n start piece (drop (i + 1) ps) last
    (λ e. omega (arith, length-drop (i + 1) ps, eqb-true (i + 1) (length ps) (sym end ∙ e)))
    (λ e. omega (arith, length-drop (i + 1) ps, eqb-false (i + 1) (length ps) (sym end ∙ e)))
    some

-- an empty piece after the last line feed
raw_end : (n start : ℕ) (ps : List (List ℕ)) (i : ℕ) (piece : List ℕ) → i < length ps
    → piece ≡ get_or ps i [] → eqb (i + 1) (length ps) ≡ true → length piece ≡ 0
    → raw_lines n start (drop i ps) ≡ []
raw_end n start ps i piece h is end none =
    at_drop_more (raw_lines n start) ps i [] h
    ∙ ap (λ p. raw_lines n start (p ∷ drop (i + 1) ps)) (sym is)
    ∙ alone (drop (i + 1) ps) (omega (arith, length-drop (i + 1) ps, eqb-true (i + 1) (length ps) end))
  where
    alone : (rest : List (List ℕ)) → length rest ≡ 0 → raw_lines n start (piece ∷ rest) ≡ []
    alone [] z = cond-true (eqb (length piece) 0) [] (raw_line n start true piece ∷ []) (eq-eqb (length piece) 0 none)
    alone (q ∷ qs) z = absurd (omega arith)

cons-append : {X : Type 0} (o : Option X) (xs : List X) → cons_option o xs ≡ option_to_list o ++ xs
cons-append None xs = refl
cons-append (Some x) xs = refl

-- a line that is read
pub ReadsLines-more : (mode : Mode) (ps : List (List ℕ)) (i start : ℕ) (lines lines' : List Line) → ReadsLines mode ps i start lines
    → i < length ps → (piece : List ℕ) (last : Bool) → piece ≡ get_or ps i [] → last ≡ eqb (i + 1) (length ps)
    → (last ≡ true → length piece ≡ 0 → ⊥)
    → i + 1 ≤ 1000 → line_end start last piece ≤ 65536
    → bad_of mode (raw_line (i + 1) start last piece) ≡ None
    → lines' ≡ lines ++ option_to_list (good_of mode (raw_line (i + 1) start last piece))
    → ReadsLines mode ps (i + 1) (line_end start last piece) lines'
ReadsLines-more mode ps i start lines lines' r h piece last is end some few small fine grown =
    let step = raw_step (i + 1) start ps i piece last h is end some in
    let rest = raw_lines (i + 1 + 1) (line_end start last piece) (drop (i + 1) ps) in
    record {
      few = few;
      small = small;
      bad =
          ap (λ o. cons_option o (bads mode rest)) (sym fine)
          ∙ ap (bads mode) (sym step)
          ∙ r.bad;
      good =
          ap (λ xs. xs ++ goods mode rest) grown
          ∙ append_assoc lines (option_to_list (good_of mode (raw_line (i + 1) start last piece))) (goods mode rest)
          ∙ ap (λ xs. lines ++ xs) (sym (cons-append (good_of mode (raw_line (i + 1) start last piece)) (goods mode rest)) ∙ ap (goods mode) (sym step))
          ∙ r.good;
    }

-- the bad lines where a line is refused
pub ReadsLines-refused : (mode : Mode) (ps : List (List ℕ)) (i start : ℕ) (lines : List Line) → ReadsLines mode ps i start lines
    → i < length ps → (piece : List ℕ) (last : Bool) → piece ≡ get_or ps i [] → last ≡ eqb (i + 1) (length ps)
    → (last ≡ true → length piece ≡ 0 → ⊥)
    → (e : ScriptRefused) → IsRefusal e (option_to_list (bad_of mode (raw_line (i + 1) start last piece)))
    → IsRefusal e (bads mode (raw_lines 1 0 ps))
ReadsLines-refused mode ps i start lines r h piece last is end some Memory refused = tt
ReadsLines-refused mode ps i start lines r h piece last is end some (BadLine line why) refused =
    let step = raw_step (i + 1) start ps i piece last h is end some in
    let rest = bads mode (raw_lines (i + 1 + 1) (line_end start last piece) (drop (i + 1) ps)) in
    ap (λ xs. slice_get xs 0) (sym r.bad ∙ ap (bads mode) step)
    ∙ first (bad_of mode (raw_line (i + 1) start last piece)) rest refused
  where
    first : (o : Option (ℕ × LineWhy)) (xs : List (ℕ × LineWhy)) → slice_get (option_to_list o) 0 ≡ Some (line, why)
        → slice_get (cons_option o xs) 0 ≡ Some (line, why)
    first None xs h = cc h
    first (Some x) xs h = h

-- nothing is left
pub record ReadsAll (mode : Mode) (ps : List (List ℕ)) (lines : List Line) : Type 0 where
  pub bad : bads mode (raw_lines 1 0 ps) ≡ []
  pub good : lines ≡ goods mode (raw_lines 1 0 ps)

all_read : (mode : Mode) (ps : List (List ℕ)) (i start : ℕ) (lines : List Line) → ReadsLines mode ps i start lines
    → raw_lines (i + 1) start (drop i ps) ≡ [] → ReadsAll mode ps lines
all_read mode ps i start lines r none = record {
  bad = sym r.bad ∙ ap (bads mode) none;
  good = sym (append-nil lines) ∙ ap (λ raws. lines ++ goods mode raws) (sym none) ∙ r.good;
}

pub ReadsLines-empty : (mode : Mode) (ps : List (List ℕ)) (i start : ℕ) (lines : List Line) → ReadsLines mode ps i start lines
    → i < length ps → (piece : List ℕ) → piece ≡ get_or ps i [] → eqb (i + 1) (length ps) ≡ true → length piece ≡ 0
    → ReadsAll mode ps lines
ReadsLines-empty mode ps i start lines r h piece is end none =
    all_read mode ps i start lines r (raw_end (i + 1) start ps i piece h is end none)

pub ReadsLines-end : (mode : Mode) (ps : List (List ℕ)) (i start : ℕ) (lines : List Line) → ReadsLines mode ps i start lines
    → length ps ≤ i → ReadsAll mode ps lines
ReadsLines-end mode ps i start lines r end =
    all_read mode ps i start lines r (at_drop_all (raw_lines (i + 1) start) ps i end)

-- one raw line said in two ways
pub raw_same : (n n' end end' : ℕ) (text text' : List ℕ) → n ≡ n' → end ≡ end' → text ≡ text'
    → let a : RawLine = record { number = n; end = end; text = text } in
    let b : RawLine = record { number = n'; end = end'; text = text' } in a ≡ b
raw_same n n' end end' text text' m e t =
    ap (λ (x : ℕ). let r : RawLine = record { number = x; end = end; text = text } in r) m
    ∙ ap (λ (x : ℕ). let r : RawLine = record { number = n'; end = x; text = text } in r) e
    ∙ ap (λ (x : List ℕ). let r : RawLine = record { number = n'; end = end'; text = x } in r) t

-- a refusal of one raw line is one of the same
pub refusal_same : (mode : Mode) (e : ScriptRefused) (a b : RawLine) → a ≡ b
    → IsRefusal e (option_to_list (bad_of mode a)) → IsRefusal e (option_to_list (bad_of mode b))
refusal_same mode Memory a b same h = tt
refusal_same mode (BadLine line why) a b same h = ap (λ r. slice_get (option_to_list (bad_of mode r)) 0) (sym same) ∙ h

-- ---- where pieces stand in their text

-- the pieces from place i on begin at this place of the text
pub record StandsAt (bytes : List ℕ) (ps : List (List ℕ)) (i start : ℕ) : Type 0 where
  pub rest : i < length ps → start + length (join_with_byte 10 (drop i ps)) ≡ length bytes

pub StandsAt-start : (bytes : List ℕ) → StandsAt bytes (pieces bytes) 0 0
StandsAt-start bytes = record { rest = λ h. omega (arith, ap (λ xs. length xs) (join_with_byte-slice_split 10 bytes)) }

-- the bytes of a piece and of the rest
both_parts : (piece : List ℕ) (rest : List (List ℕ)) → 0 < length rest
    → length (join_with_byte 10 (piece ∷ rest)) ≡ length piece + 1 + length (join_with_byte 10 rest)
both_parts piece [] some = absurd (omega arith)
both_parts piece (q ∷ qs) some = length-append piece (10 ∷ join_with_byte 10 (q ∷ qs)) ∙ omega arith

-- the place after a piece
piece_end : (bytes : List ℕ) (ps : List (List ℕ)) (i start : ℕ) (piece : List ℕ) → StandsAt bytes ps i start → i < length ps
    → piece ≡ get_or ps i [] → start + length (join_with_byte 10 (piece ∷ drop (i + 1) ps)) ≡ length bytes
piece_end bytes ps i start piece s h is =
    ap (λ p. start + length (join_with_byte 10 (p ∷ drop (i + 1) ps))) is
    ∙ sym (at_drop_more (λ xs. start + length (join_with_byte 10 xs)) ps i [] h)
    ∙ s.rest h

-- a piece ends where the text does exactly where it is the last
pub last_piece : (bytes : List ℕ) (ps : List (List ℕ)) (i start : ℕ) (piece : List ℕ) → StandsAt bytes ps i start → i < length ps
    → piece ≡ get_or ps i [] → eqb (start + length piece) (length bytes) ≡ eqb (i + 1) (length ps)
last_piece bytes ps i start piece s h is = by (drop (i + 1) ps) (length-drop (i + 1) ps) (piece_end bytes ps i start piece s h is)
  where
    by : (rest : List (List ℕ)) → length rest ≡ length ps - (i + 1) → start + length (join_with_byte 10 (piece ∷ rest)) ≡ length bytes
        → eqb (start + length piece) (length bytes) ≡ eqb (i + 1) (length ps)
    by [] count at =
        eq-eqb (start + length piece) (length bytes) at ∙ sym (eq-eqb (i + 1) (length ps) (omega arith))
    by (q ∷ qs) count at =
        let more = both_parts piece (q ∷ qs) (omega arith) in
        ne_eqb (start + length piece) (length bytes) (λ e. omega (arith, more))
        ∙ sym (ne_eqb (i + 1) (length ps) (λ e. omega arith))

pub StandsAt-more : (bytes : List ℕ) (ps : List (List ℕ)) (i start : ℕ) (piece : List ℕ) (last : Bool) → StandsAt bytes ps i start
    → i < length ps → piece ≡ get_or ps i [] → last ≡ eqb (i + 1) (length ps) → StandsAt bytes ps (i + 1) (line_end start last piece)
StandsAt-more bytes ps i start piece last s h is end = record {
  rest = λ more.
      let not_last : last ≡ false = end ∙ ne_eqb (i + 1) (length ps) (λ e. omega arith) in
      let parts = both_parts piece (drop (i + 1) ps) (omega (arith, length-drop (i + 1) ps)) in
      let at = piece_end bytes ps i start piece s h is in
      ap (λ b. line_end start b piece + length (join_with_byte 10 (drop (i + 1) ps))) not_last ∙ omega (arith, parts);
}
