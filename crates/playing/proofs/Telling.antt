-- What is told of files is printed as what they show.
use Rattle.std.proofs.Common.{◌≡◌, ℕ, zero, suc, ◌+◌, ◌-◌, ◌≤◌, nat_lt, true, cond, codes, List, [], ◌∷◌, ◌++◌, length, map, drop, Option, None, Some, option_map, refl, sym, ap, subst, ◌∙◌, arith}
use Rattle.std.specs.Fmt.{decimal}
use Rattle.std.specs.List.{flat_map, range_with_len, slice_get}
use Rattle.std.proofs.lemmas.List.{length-map}
use Rattle.std.proofs.lemmas.Bool.Decides.{nat_tests}
use Rattle.endings.specs.Files.{file_line, kept_serials}
use Rattle.script_text.specs.ReplyText.{spaced}
use Rattle.service_model.specs.Print.{file_text, files_text}
use Rattle.tree_model.specs.States.{File, IsRising, Version}
use Rattle.playing.specs.Files.{AreToldOf, EndsTell, IsToldOf, told_line}
use Rattle.playing.proofs.Printing.{piece_last, piece_more}

-- ---- the line of one file

some_live : (n : ℕ) → nat_lt 0 (suc n) ≡ true
some_live n = Prim.grind (arith, nat_tests)

line_of : (object first last : ℕ) (versions : List Version)
    → map (λ (v : Version). v.serial) versions ≡ kept_serials first last
    → cond (nat_lt 0 (length versions)) (codes "file " ++ (decimal object ++ (codes ":"
    ++ (flat_map spaced (map (λ (v : Version). v.serial) versions) ++ 10 ∷ [])))) []
    ≡ file_line object first last
line_of object first last [] e = absurd cc
line_of object first last (v ∷ vs) e =
    ap (λ b. cond b (codes "file " ++ (decimal object ++ (codes ":"
    ++ (flat_map spaced (map (λ (w : Version). w.serial) (v ∷ vs)) ++ 10 ∷ [])))) [])
    (some_live (length vs))
    ∙ ap (λ (ns : List ℕ). codes "file " ++ (decimal object ++ (codes ":"
    ++ (flat_map spaced ns ++ 10 ∷ [])))) e

told_file : (object : ℕ) (told : Option (ℕ × ℕ)) (file : File) → IsToldOf told file
    → told_line object told ≡ file_text object file
told_file object None file is =
    sym (ap (λ (vs : List Version). file_text object (let f : File =
    record { generation = file.generation; secret = file.secret; versions = vs } in f)) is)
told_file object (Some serials) file is =
    sym (line_of object serials.0 serials.1 file.versions is)

-- ---- all files

-- the lines of objects of which this is told, the first of which has this number
abbrev pub told_text : ℕ → List (Option (ℕ × ℕ)) → List ℕ
told_text object [] = []
told_text object (told ∷ others) = told_line object told ++ told_text (object + 1) others

told_are : (object : ℕ) (told : List (Option (ℕ × ℕ))) (files : List File) → AreToldOf told files
    → told_text object told ≡ files_text object files
told_are object [] [] are = refl
told_are object [] (file ∷ files) are = absurd are
told_are object (told ∷ others) [] are = absurd are
told_are object (told ∷ others) (file ∷ files) are =
    λ i. told_file object told file are.0 i ++ told_are (object + 1) others files are.1 i

told_here : (object : ℕ) (all : List (Option (ℕ × ℕ))) (i : ℕ) (told : Option (ℕ × ℕ))
    → slice_get all i ≡ Some told → told_text object (drop i all)
    ≡ told_line object told ++ told_text (object + 1) (drop (suc i) all)
told_here object [] i told is = absurd cc
told_here object (o ∷ others) zero told is =
    ap (λ x. told_line object x ++ told_text (object + 1) others) (let e : o ≡ told = cc in e)
told_here object (o ∷ others) (suc i) told is = told_here object others i told is

told_ended : (object : ℕ) (all : List (Option (ℕ × ℕ))) (i : ℕ) → length all ≤ i
    → told_text object (drop i all) ≡ []
told_ended object [] zero past = refl
told_ended object [] (suc i) past = refl
told_ended object (o ∷ others) zero past = absurd (omega (arith, past))
told_ended object (o ∷ others) (suc i) past = told_ended object others i (omega (arith, past))

module _ (all : List (Option (ℕ × ℕ))) (i : ℕ) (old text : List ℕ)
    (far : text ++ told_text (i + 1) (drop i all) ≡ old ++ told_text 1 all) where
  pub told_more : (told : Option (ℕ × ℕ)) (text' : List ℕ) → slice_get all i ≡ Some told
      → text' ≡ text ++ told_line (i + 1) told
      → text' ++ told_text (i + 1 + 1) (drop (i + 1) all) ≡ old ++ told_text 1 all
  told_more told text' is more =
      subst (λ n. text' ++ told_text (i + 1 + 1) (drop n all) ≡ old ++ told_text 1 all)
      (let e : suc i ≡ i + 1 = omega arith in e)
      (piece_more old text text' (told_line (i + 1) told)
      (told_text (i + 1 + 1) (drop (suc i) all)) (told_text 1 all)
      (ap (λ t. text ++ t) (sym (told_here (i + 1) all i told is)) ∙ far) more)

  pub told_whole : length all ≤ i → (files : List File) → AreToldOf all files
      → text ≡ old ++ files_text 1 files
  told_whole past files are =
      piece_last old text (told_text (i + 1) (drop i all)) (told_text 1 all) far
      (told_ended (i + 1) all i past)
      ∙ ap (λ t. old ++ t) (told_are 1 all files are)

-- ---- the first and the last serial

-- what comes after the first serial rises too
rising_rest : (first next : ℕ) (others : List ℕ) → IsRising (first ∷ next ∷ others)
    → IsRising (next ∷ others)
rising_rest first next others rising = λ k m n is also.
    rising (suc k) m n is (subst (λ j. slice_get (first ∷ next ∷ others) j ≡ Some n)
    (let e : suc (k + 1) ≡ suc k + 1 = omega arith in e) also)

-- the serials after the first rise by one from it
rise_on : (first : ℕ) (others : List ℕ) → IsRising (first ∷ others)
    → others ≡ range_with_len (first + 1) (length others)
rise_on first [] rising = refl
rise_on first (next ∷ others) rising =
    let one : next ≡ first + 1 = rising 0 first next refl refl in
    let rest : others ≡ range_with_len (next + 1) (length others)
    = rise_on next others (rising_rest first next others rising) in
    λ i. one i ∷ (rest ∙ ap (λ n. range_with_len (n + 1) (length others)) one) i

-- the last serial is the first one and as many more as there are others
rise_last : (first last : ℕ) (others : List ℕ) → IsRising (first ∷ others)
    → slice_get (first ∷ others) (length others) ≡ Some last → last ≡ first + length others
rise_last first last [] rising is = let e : first ≡ last = cc in omega (arith, e)
rise_last first last (next ∷ others) rising is =
    let one : next ≡ first + 1 = rising 0 first next refl refl in
    let rest : last ≡ next + length others
    = rise_last next last others (rising_rest first next others rising) is in
    omega (arith, one, rest)

get_map : {X Y : Type 0} (f : X → Y) (xs : List X) (i : ℕ)
    → slice_get (map f xs) i ≡ option_map f (slice_get xs i)
get_map f [] i = refl
get_map f (x ∷ xs) zero = refl
get_map f (x ∷ xs) (suc i) = get_map f xs i

abbrev serials_in : List Version → List ℕ
serials_in versions = map (λ (v : Version). v.serial) versions

ends_of : (versions : List Version) (first last : ℕ) → IsRising (serials_in versions)
    → slice_get (serials_in versions) 0 ≡ Some first
    → option_map (λ (v : Version). v.serial) (slice_get versions (length versions - 1)) ≡ Some last
    → serials_in versions ≡ kept_serials first last
ends_of [] first last rising is ended = absurd cc
ends_of (v ∷ vs) first last rising is ended =
    let one : v.serial ≡ first = cc in
    let many : length (serials_in vs) ≡ length vs = length-map vs (λ (w : Version). w.serial) in
    let place : length (serials_in vs) ≡ length (v ∷ vs) - 1 = omega (arith, many) in
    let get : slice_get (serials_in (v ∷ vs)) (length (serials_in vs)) ≡ Some last
    = ap (slice_get (serials_in (v ∷ vs))) place
    ∙ get_map (λ (w : Version). w.serial) (v ∷ vs) (length (v ∷ vs) - 1) ∙ ended in
    let end : last ≡ v.serial + length (serials_in vs)
    = rise_last v.serial last (serials_in vs) rising get in
    let more : length (serials_in vs) ≡ last - first = omega (arith, one, end) in
    let rest : serials_in vs ≡ range_with_len (v.serial + 1) (length (serials_in vs))
    = rise_on v.serial (serials_in vs) rising in
    let others : serials_in vs ≡ range_with_len (first + 1) (last - first)
    = rest ∙ ap (λ n. range_with_len (n + 1) (length (serials_in vs))) one
    ∙ ap (range_with_len (first + 1)) more in
    λ i. one i ∷ others i

pub told_ends : EndsTell
told_ends file first last rising is ended = ends_of file.versions first last rising is ended
