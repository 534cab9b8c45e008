-- What pieces of a text say together that are printed one by one.
use Rattle.std.proofs.Common.{◌≡◌, ℕ, List, ◌++◌, Option, Result, Ok, Err, OnErr, ap, sym, ◌∙◌, append_assoc}
use Rattle.std.specs.Io.KnownBytes.{Appends}
use Rattle.std.proofs.KnownBytes.{Appends-trans}
use Rattle.script_text.specs.Front.{AppendsFront}

-- some bytes were printed, and the rest of a text is left
abbrev pub PrintedSoFar : Option (List ℕ) → Option (List ℕ) → List ℕ → List ℕ → Type 0
PrintedSoFar old new rest text = (front : List ℕ) × Appends old new front × (front ++ rest ≡ text)

-- one line more
pub printed_more : (old mid new : Option (List ℕ)) (line others rest text : List ℕ) → PrintedSoFar old mid rest text → line ++ others ≡ rest → Appends mid new line
    → PrintedSoFar old new others text
printed_more old mid new line others rest text far parts more = (
  far.0 ++ line,
  Appends-trans old mid new far.0 line far.1 more,
  append_assoc far.0 line others ∙ ap (λ ys. far.0 ++ ys) parts ∙ far.2,
)

-- a front of a line more is a front of all
pub printed_front : (old mid new : Option (List ℕ)) (line others rest text : List ℕ) → PrintedSoFar old mid rest text → line ++ others ≡ rest → AppendsFront mid new line
    → AppendsFront old new text
printed_front old mid new line others rest text far parts front = (
  far.0 ++ front.0,
  front.1 ++ others,
  Appends-trans old mid new far.0 front.0 far.1 front.2,
  append_assoc far.0 front.0 (front.1 ++ others)
      ∙ ap (λ ys. far.0 ++ ys) (sym (append_assoc front.0 front.1 others) ∙ ap (λ ys. ys ++ others) front.3 ∙ parts)
      ∙ far.2,
)

-- a fact is one of an `Err`
pub of_err : {T E : Type 0} (r : Result T E) (P : Type 0) → P → OnErr r P
of_err (Ok x) P h = tt
of_err (Err e) P h = h
