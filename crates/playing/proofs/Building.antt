-- Lines that are looked at one after another, whether they are played.
use Rattle.std.proofs.Common.{◌≡◌, ℕ, zero, suc, ◌+◌, ◌<◌, true, false, ◌&&◌, List, [], ◌∷◌, ◌++◌, length, take, drop, Some, refl, sym, ap, subst, ◌∙◌, arith, get_or}
use Rattle.std.specs.List.{All, list_all, slice_get}
use Rattle.std.proofs.lemmas.List.{length-take-le}
use Rattle.std.proofs.lemmas.List.Elements.{All-head, All-push, All-tail}
use Rattle.script_text.specs.declared.script.Line.{Line}
use Rattle.script_text.specs.ScriptValue.{ScriptValue}
use Rattle.session.specs.Built.{AreBuilt, IsBuilt, is_built}
use Rattle.playing.specs.Unread.{IsFirstUnbuilt, IsUnbuiltAt}
use Rattle.playing.proofs.Sourcing.{parts_at}

-- a list is the items before a place, the one there, and the rest
pub parts_get : {X : Type 0} (xs : List X) (k : ℕ) (x : X) → slice_get xs k ≡ Some x
    → xs ≡ take k xs ++ x ∷ drop (suc k) xs
parts_get [] k x is = absurd cc
parts_get (y ∷ ys) zero x is = ap (λ z. z ∷ ys) (let e : y ≡ x = cc in e)
parts_get (y ∷ ys) (suc k) x is = ap (λ zs. y ∷ zs) (parts_get ys k x is)

pub take_get : {X : Type 0} (xs : List X) (k : ℕ) (x : X) → slice_get xs k ≡ Some x
    → take (suc k) xs ≡ take k xs ++ x ∷ []
take_get [] k x is = absurd cc
take_get (y ∷ ys) zero x is = ap (λ z. z ∷ []) (let e : y ≡ x = cc in e)
take_get (y ∷ ys) (suc k) x is = ap (λ zs. y ∷ zs) (take_get ys k x is)

-- lines of a kind that is played
abbrev pub LineIsBuilt : Line → Type 0
LineIsBuilt line = IsBuilt line.command

-- each line is built where all are
pub all_built : (lines : List Line) → All LineIsBuilt lines
    → list_all (λ (line : Line). is_built line.command) lines ≡ true
all_built [] all = refl
all_built (line ∷ lines) all =
    ap (λ b. b && list_all (λ (l : Line). is_built l.command) lines)
    (All-head LineIsBuilt line lines all) ∙ all_built lines (All-tail LineIsBuilt line lines all)

-- one line more is built
pub built_more : (lines : List Line) (place : ℕ) (line : Line) → slice_get lines place ≡ Some line
    → All LineIsBuilt (take place lines) → is_built line.command ≡ true
    → All LineIsBuilt (take (place + 1) lines)
built_more lines place line is far one =
    subst (All LineIsBuilt)
    (sym (ap (λ n. take n lines) (let e : place + 1 ≡ suc place = omega arith in e)
    ∙ take_get lines place line is))
    (All-push LineIsBuilt (take place lines) line far one)

-- the first line that is not built
pub unbuilt_at : (lines : List Line) (place : ℕ) (line : Line) → slice_get lines place ≡ Some line
    → All LineIsBuilt (take place lines) → is_built line.command ≡ false
    → IsUnbuiltAt lines line.number
unbuilt_at lines place line is far one = record {
  earlier = take place lines;
  line = line;
  later = drop (suc place) lines;
  parts = parts_get lines place line is;
  is = refl;
  built = far;
  unbuilt = one;
}

-- the first script with such a line
pub unbuilt_script : (scripts : List ScriptValue) (place : ℕ) (script : ScriptValue)
    (client line : ℕ) → place < length scripts → script ≡ get_or scripts place script
    → All AreBuilt (take place scripts) → client ≡ place + 1 → IsUnbuiltAt script.lines line
    → IsFirstUnbuilt scripts client line
unbuilt_script scripts place script client line inside is far number one = record {
  earlier = take place scripts;
  script = script;
  later = drop (suc place) scripts;
  parts = parts_at scripts place script inside
      ∙ ap (λ (s : ScriptValue). take place scripts ++ s ∷ drop (suc place) scripts) (sym is);
  number = number ∙ ap (λ n. n + 1) (sym (length-take-le place scripts (omega (arith, inside))));
  built = far;
  first = one;
}
