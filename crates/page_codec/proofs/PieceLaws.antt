-- A list cut into pieces of one length.
use Rattle.std.proofs.Common.{◌≡◌, ℕ, zero, suc, ◌+◌, ◌*◌, ◌≤◌, List, [], ◌∷◌, ◌++◌, length, take, drop, map, Bool, false, refl, ap, sym, ◌∙◌, arith, add-one, zero-add, ◌<◌, append_assoc}
use Rattle.std.specs.List.{list_any, flat_map, AllByRecursion}
use Rattle.std.proofs.lemmas.List.{drop-drop, take_at, drop_at, length-take, length-drop, length-append}
use Rattle.std.proofs.lemmas.List.Concat.{flat_map-cons}
use Rattle.page_codec.specs.Numbers.{IsBytes, field, pieces}
use Rattle.page_codec.proofs.CauseLaws.{neither}
use Rattle.page_codec.proofs.ByteLaws.{IsBytes-take, IsBytes-drop, field-split}

pieces_next : (len n at : ℕ) (bytes : List ℕ) → at ≡ len * n → pieces len (suc n) bytes ≡ pieces len n bytes ++ field at len bytes ∷ []
unfolding pieces
pieces_next len zero at bytes e = let none : at ≡ 0 = omega arith in rw none refl
pieces_next len (suc n) at bytes e =
    let sum : len + len * n ≡ at = omega arith in
    let there : field (len * n) len (drop len bytes) ≡ field at len bytes = ap (take len) (drop-drop (len * n) len bytes ∙ ap (λ (i : ℕ). drop i bytes) sum) in
    ap (λ (ps : List (List ℕ)). take len bytes ∷ ps) (pieces_next len n (len * n) (drop len bytes) refl)
    ∙ ap (λ (p : List ℕ). take len bytes ∷ (pieces len n (drop len bytes) ++ p ∷ [])) there

-- one more piece
pub pieces_more : (len n at : ℕ) (bytes : List ℕ) → at ≡ len * n → pieces len (n + 1) bytes ≡ pieces len n bytes ++ field at len bytes ∷ []
pieces_more len n at bytes e = rw add-one (pieces_next len n at bytes e)

-- no pieces
pub pieces_none : (len : ℕ) (bytes : List ℕ) → pieces len 0 bytes ≡ []
unfolding pieces
pieces_none len bytes = refl

-- where no piece passes a test, the piece at a place does not
pub none_in_pieces : {V : Type 0} (test : V → Bool) (value : List ℕ → V) (len n i at : ℕ) (bytes : List ℕ) → at ≡ len * i → i < n
    → list_any test (map value (pieces len n bytes)) ≡ false → test (value (field at len bytes)) ≡ false
unfolding pieces
none_in_pieces test value len zero i at bytes e h none = absurd (omega arith)
none_in_pieces test value len (suc n) zero at bytes e h none =
    let start : at ≡ 0 = omega arith in
    rw start (neither (test (value (take len bytes))) (list_any test (map value (pieces len n (drop len bytes)))) none).0
none_in_pieces test value len (suc n) (suc i) at bytes e h none =
    let sum : len + len * i ≡ at = omega arith in
    let there : field (len * i) len (drop len bytes) ≡ field at len bytes = ap (take len) (drop-drop (len * i) len bytes ∙ ap (λ (k : ℕ). drop k bytes) sum) in
    let rest = (neither (test (value (take len bytes))) (list_any test (map value (pieces len n (drop len bytes)))) none).1 in
    ap (λ (p : List ℕ). test (value p)) (sym there) ∙ none_in_pieces test value len n i (len * i) (drop len bytes) refl (omega arith) rest

-- a value of so many bytes, read and spelled
pub record IsSpelled {V : Type 0} (len : ℕ) (value : List ℕ → V) (spell : V → List ℕ) (Good : V → Type 0) : Type 0 where
  pub read : (bytes : List ℕ) → length bytes ≡ len → IsBytes bytes → (spell (value bytes) ≡ bytes) × Good (value bytes)
  pub width : (v : V) → Good v → length (spell v) ≡ len
  pub again : (v : V) → Good v → value (spell v) ≡ v

pub record AreRead {V : Type 0} (spell : V → List ℕ) (Good : V → Type 0) (vs : List V) (bytes : List ℕ) (n : ℕ) : Type 0 where
  pub spelled : flat_map spell vs ≡ bytes
  pub good : AllByRecursion Good vs
  pub count : length vs ≡ n

-- values that were read from the pieces spell them
pub pieces_read : {V : Type 0} (len : ℕ) (value : List ℕ → V) (spell : V → List ℕ) (Good : V → Type 0) → IsSpelled len value spell Good
    → (n : ℕ) (bytes : List ℕ) → IsBytes bytes → len * n ≤ length bytes → AreRead spell Good (map value (pieces len n bytes)) (take (len * n) bytes) n
unfolding pieces
pieces_read len value spell Good law zero bytes fits h = record { spelled = let none : len * 0 ≡ 0 = omega arith in rw none refl; good = tt; count = refl }
pieces_read len value spell Good law (suc n) bytes fits h =
    let first = law.read (take len bytes) (omega (arith, length-take len bytes)) (IsBytes-take len bytes fits) in
    let rest = pieces_read len value spell Good law n (drop len bytes) (IsBytes-drop len bytes fits) (omega (arith, length-drop len bytes)) in
    let size : len * suc n ≡ len + len * n = omega arith in
    let cut : take (len * suc n) bytes ≡ take len bytes ++ take (len * n) (drop len bytes) = rw size (field-split 0 len (len * n) bytes ∙ ap (λ (i : ℕ). take len bytes ++ take (len * n) (drop i bytes)) (zero-add len)) in
    let ahead = flat_map-cons spell (value (take len bytes)) (map value (pieces len n (drop len bytes))) in
    record {
      spelled = ahead ∙ ap (λ (xs : List ℕ). xs ++ flat_map spell (map value (pieces len n (drop len bytes)))) first.0 ∙ ap (λ (xs : List ℕ). take len bytes ++ xs) rest.spelled ∙ sym cut;
      good = (first.1, rest.good);
      count = ap suc rest.count;
    }

-- values that are spelled one behind the other are read again
pub pieces_again : {V : Type 0} (len : ℕ) (value : List ℕ → V) (spell : V → List ℕ) (Good : V → Type 0) → IsSpelled len value spell Good
    → (vs : List V) (rest : List ℕ) → AllByRecursion Good vs → map value (pieces len (length vs) (flat_map spell vs ++ rest)) ≡ vs
unfolding pieces
pieces_again len value spell Good law [] rest good = refl
pieces_again len value spell Good law (v ∷ vs) rest good =
    let regrouped : flat_map spell (v ∷ vs) ++ rest ≡ spell v ++ (flat_map spell vs ++ rest) = ap (λ (xs : List ℕ). xs ++ rest) (flat_map-cons spell v vs) ∙ append_assoc (spell v) (flat_map spell vs) rest in
    let front : take len (spell v ++ (flat_map spell vs ++ rest)) ≡ spell v = take_at (spell v) (flat_map spell vs ++ rest) len (law.width v good.0) in
    let back : drop len (spell v ++ (flat_map spell vs ++ rest)) ≡ flat_map spell vs ++ rest = drop_at (spell v) (flat_map spell vs ++ rest) len (law.width v good.0) in
    let first = law.again v good.0 in
    let others = pieces_again len value spell Good law vs rest good.1 in
    ap (λ (b : List ℕ). map value (pieces len (suc (length vs)) b)) regrouped ∙ rw (front, back, first, others) refl

-- values of one length one behind the other
pub length-flat_map-spell : {V : Type 0} (spell : V → List ℕ) (len : ℕ) → ((v : V) → length (spell v) ≡ len) → (vs : List V) → length (flat_map spell vs) ≡ len * length vs
length-flat_map-spell spell len width [] = omega arith
length-flat_map-spell spell len width (v ∷ vs) =
    let one = width v in
    let others = length-flat_map-spell spell len width vs in
    ap length (flat_map-cons spell v vs) ∙ omega (arith, length-append (spell v) (flat_map spell vs), one, others)

-- the same where only good values have that length
pub length-flat_map-good : {V : Type 0} (spell : V → List ℕ) (len : ℕ) (Good : V → Type 0) → ((v : V) → Good v → length (spell v) ≡ len) → (vs : List V) → AllByRecursion Good vs → length (flat_map spell vs) ≡ len * length vs
length-flat_map-good spell len Good width [] good = omega arith
length-flat_map-good spell len Good width (v ∷ vs) good =
    let one = width v good.0 in
    let others = length-flat_map-good spell len Good width vs good.1 in
    ap length (flat_map-cons spell v vs) ∙ omega (arith, length-append (spell v) (flat_map spell vs), one, others)
