-- Walks over a list, element by element.
use Rattle.std.proofs.Common.{◌≡◌, ◌+◌, ◌<◌, ◌≤◌, ℕ, suc, List, [], ◌∷◌, ◌++◌, length, drop, Option, Ok, Err, refl, sym, ap, ◌∙◌, get_or, add-one, arith, map, append-nil}
use Rattle.std.proofs.Math.Seq.{drop-cons}
use Rattle.std.proofs.Math.ListN.{drop_of_length-le}
use Rattle.store_model.specs.Walk.{Blocks, Refused, and_then, bind, done, if_some}
use Rattle.store_model.specs.Laid.{LaidFile, LaidVersion}
use Rattle.store_model.specs.Chains.{chain_at}
use Rattle.store_model.specs.Tables.{Row as ModelRow, part_rows, parts_from, files_from}
use Rattle.page_places.specs.Places.{Store}
use Rattle.std.proofs.lemmas.List.{map-append}
use Rattle.store_check.specs.declared.rows.Row.{Row}
use Rattle.store_check.specs.declared.chain.FoundFile.{FoundFile}
use Rattle.store_check.specs.Rows.{row_of}
use Rattle.store_check.specs.Files.{AllLie, LikeFiles, chain_of, chains_of}
use Rattle.store_check.proofs.Lying.{all_append}
use Rattle.store_check.specs.Results.{Outcome}
use Rattle.store_check.proofs.Passing.{prepended, prepended_nothing, prepended_twice}

-- what is found from an element on, which has this number
abbrev pub ListWalk : Type 0 → Type 0 → Type 0
ListWalk X Y = ℕ → List X → List ℕ → Outcome (List Y)

module _ {X Y : Type 0} (W : ListWalk X Y) where
  -- the walk over a list has come to this element, and found these
  pub record SoFar (xs : List X) (start : ℕ) (first : List ℕ) (k : ℕ) (here : List Y) (seen : List ℕ) : Type 0 where
    pub is : W start xs first ≡ prepended here (W (start + k) (drop k xs) seen)

  pub begins : (xs : List X) (start : ℕ) (first : List ℕ) → SoFar xs start first 0 [] first
  begins xs start first = record {
    is = sym (prepended_nothing (W start xs first)) ∙ ap (λ (n : ℕ). prepended [] (W n xs first)) (let e : start ≡ start + 0 = Prim.omega arith in e);
  }

  here_is : (xs : List X) (k : ℕ) (x : X) → k < length xs → x ≡ get_or xs k x → drop k xs ≡ x ∷ drop (suc k) xs
  here_is xs k x low is = drop-cons xs k x low ∙ ap (λ (y : X). y ∷ drop (suc k) xs) (sym is)

  -- an element was walked over
  pub goes_on :
      (xs : List X) (start : ℕ) (first : List ℕ) (k : ℕ) (here : List Y) (seen : List ℕ) (x : X) (n : ℕ) (found : List Y) (after : List ℕ)
      → k < length xs → x ≡ get_or xs k x → n ≡ start + k
      → SoFar xs start first k here seen
      → ((rest : List X) → W n (x ∷ rest) seen ≡ prepended found (W (suc n) rest after))
      → SoFar xs start first (k + 1) (here ++ found) after
  goes_on xs start first k here seen x n found after low x_is n_is far one = record {
    is = far.is
        ∙ ap (λ (ys : List X). prepended here (W (start + k) ys seen)) (here_is xs k x low x_is)
        ∙ ap (λ (m : ℕ). prepended here (W m (x ∷ drop (suc k) xs) seen)) (sym n_is)
        ∙ ap (prepended here) (one (drop (suc k) xs))
        ∙ prepended_twice here found (W (suc n) (drop (suc k) xs) after)
        ∙ ap (λ (m : ℕ). prepended (here ++ found) (W m (drop (suc k) xs) after)) (let e : suc n ≡ start + (k + 1) = Prim.omega (arith, n_is) in e)
        ∙ ap (λ (m : ℕ). prepended (here ++ found) (W (start + (k + 1)) (drop m xs) after)) (sym (add-one k));
  }

  -- an element stopped the walk
  pub is_refused :
      (xs : List X) (start : ℕ) (first : List ℕ) (k : ℕ) (here : List Y) (seen : List ℕ) (x : X) (n : ℕ) (e : Refused)
      → k < length xs → x ≡ get_or xs k x → n ≡ start + k
      → SoFar xs start first k here seen
      → ((rest : List X) → W n (x ∷ rest) seen ≡ Err e)
      → W start xs first ≡ Err e
  is_refused xs start first k here seen x n e low x_is n_is far one =
      far.is ∙ ap (λ (ys : List X). prepended here (W (start + k) ys seen)) (here_is xs k x low x_is)
      ∙ ap (λ (m : ℕ). prepended here (W m (x ∷ drop (suc k) xs) seen)) (sym n_is) ∙ ap (prepended here) (one (drop (suc k) xs))

  -- the walk came to its end
  pub ends : (xs : List X) (start : ℕ) (first : List ℕ) (k : ℕ) (here : List Y) (seen : List ℕ) → length xs ≤ k → SoFar xs start first k here seen
      → ((n : ℕ) → W n [] seen ≡ Ok ([], seen)) → W start xs first ≡ Ok (here ++ [], seen)
  ends xs start first k here seen past far last =
      far.is ∙ ap (λ (ys : List X). prepended here (W (start + k) ys seen)) (drop_of_length-le xs past) ∙ ap (prepended here) (last (start + k))

-- what was found first, before the rest
then_rest : {X : Type 0} (here : List X) (o : Outcome (List X)) → and_then o (λ rest. done (here ++ rest)) ≡ prepended here o
unfolding done
then_rest here (Ok p) = refl
then_rest here (Err e) = refl

-- ---- the parts of a table

abbrev pub parts_walk : Blocks → ListWalk (Option ℕ) ModelRow
parts_walk blocks = parts_from blocks

module _ (blocks : Blocks) (j : ℕ) (part : Option ℕ) (seen : List ℕ) where
  pub part_found : (found : List ModelRow) (after : List ℕ) → part_rows blocks j part seen ≡ Ok (found, after) → (rest : List (Option ℕ))
      → parts_from blocks j (part ∷ rest) seen ≡ prepended found (parts_from blocks (suc j) rest after)
  unfolding parts_from bind
  part_found found after is rest =
      ap (λ r. and_then r (λ here. bind (parts_from blocks (suc j) rest) (λ others. done (here ++ others)))) is ∙ then_rest found (parts_from blocks (suc j) rest after)

  pub part_refused : (e : Refused) → part_rows blocks j part seen ≡ Err e → (rest : List (Option ℕ)) → parts_from blocks j (part ∷ rest) seen ≡ Err e
  unfolding parts_from bind
  part_refused e is rest = ap (λ r. and_then r (λ here. bind (parts_from blocks (suc j) rest) (λ others. done (here ++ others)))) is

pub no_parts_left : (blocks : Blocks) (seen : List ℕ) (j : ℕ) → parts_from blocks j [] seen ≡ Ok ([], seen)
unfolding parts_from done
no_parts_left blocks seen j = refl

-- ---- files

abbrev pub files_walk : Blocks → ListWalk Row LaidFile
files_walk blocks object rows = files_from blocks object (map row_of rows)

-- the versions of a row's file
abbrev pub file_at : Blocks → ℕ → ModelRow → List ℕ → Outcome (List LaidVersion)
file_at blocks object row = if_some row.entry.first (chain_at blocks object row.block)

module _ (blocks : Blocks) (object : ℕ) (row : ModelRow) (seen : List ℕ) where
  then_files : (versions : List LaidVersion) (o : Outcome (List LaidFile)) → and_then o (λ rest. done ((let file : LaidFile = record { entry = row.entry; versions = versions } in file) ∷ rest))
      ≡ prepended ((let file : LaidFile = record { entry = row.entry; versions = versions } in file) ∷ []) o
  unfolding done
  then_files versions (Ok p) = refl
  then_files versions (Err e) = refl

  pub file_found : (versions : List LaidVersion) (after : List ℕ) → file_at blocks object row seen ≡ Ok (versions, after) → (rest : List ModelRow)
      → files_from blocks object (row ∷ rest) seen ≡ prepended ((let file : LaidFile = record { entry = row.entry; versions = versions } in file) ∷ []) (files_from blocks (suc object) rest after)
  unfolding files_from bind
  file_found versions after is rest =
      ap (λ r. and_then r (λ vs. bind (files_from blocks (suc object) rest) (λ others. done ((let file : LaidFile = record { entry = row.entry; versions = vs } in file) ∷ others)))) is
      ∙ then_files versions (files_from blocks (suc object) rest after)

  pub file_refused : (e : Refused) → file_at blocks object row seen ≡ Err e → (rest : List ModelRow) → files_from blocks object (row ∷ rest) seen ≡ Err e
  unfolding files_from bind
  file_refused e is rest =
      ap (λ r. and_then r (λ vs. bind (files_from blocks (suc object) rest) (λ others. done ((let file : LaidFile = record { entry = row.entry; versions = vs } in file) ∷ others)))) is

pub no_files_left : (blocks : Blocks) (seen : List ℕ) (object : ℕ) → files_from blocks object [] seen ≡ Ok ([], seen)
unfolding files_from done
no_files_left blocks seen object = refl

-- the walk over the rows has come to one, and found files of which these are kept
pub record FilesSoFar (store : Store) (blocks : Blocks) (rows : List Row) (first : List ℕ) (k : ℕ) (chains : List (Option FoundFile)) (seen : List ℕ) : Type 0 where
  pub files : List LaidFile
  pub like : LikeFiles store blocks.count chains files
  pub is : SoFar (files_walk blocks) rows 1 first k files seen

pub files_begin : (store : Store) (blocks : Blocks) (rows : List Row) (first : List ℕ) → FilesSoFar store blocks rows first 0 [] first
files_begin store blocks rows first = record {
  files = [];
  like = record { is = refl; lie = tt };
  is = begins (files_walk blocks) rows 1 first;
}

pub files_on :
    (store : Store) (blocks : Blocks) (rows : List Row) (first : List ℕ) (k : ℕ) (chains longer : List (Option FoundFile)) (seen : List ℕ) (row : Row) (chain : Option FoundFile) (versions : List LaidVersion) (after : List ℕ)
    → k < length rows → row ≡ get_or rows k row → longer ≡ chains ++ chain ∷ []
    → FilesSoFar store blocks rows first k chains seen
    → chain ≡ chain_of versions → AllLie store blocks.count versions → file_at blocks (k + 1) (row_of row) seen ≡ Ok (versions, after)
    → FilesSoFar store blocks rows first (k + 1) longer after
files_on store blocks rows first k chains longer seen row chain versions after low row_is longer_is far kept lie found =
    let file : LaidFile = record { entry = row.entry; versions = versions } in
    record {
      files = far.files ++ file ∷ [];
      like = record {
        is = longer_is ∙ ap (λ (xs : List (Option FoundFile)). xs ++ chain ∷ []) far.like.is ∙ ap (λ (o : Option FoundFile). chains_of far.files ++ o ∷ []) kept
            ∙ sym (map-append (λ (f : LaidFile). chain_of f.versions) far.files (file ∷ []));
        lie = all_append (λ (f : LaidFile). AllLie store blocks.count f.versions) far.files (file ∷ []) far.like.lie (lie, tt);
      };
      is = goes_on (files_walk blocks) rows 1 first k far.files seen row (k + 1) (file ∷ []) after low row_is (let e : k + 1 ≡ 1 + k = Prim.omega arith in e) far.is
          (λ rest. file_found blocks (k + 1) (row_of row) seen versions after found (map row_of rest));
    }

pub files_refused :
    (store : Store) (blocks : Blocks) (rows : List Row) (first : List ℕ) (k : ℕ) (chains : List (Option FoundFile)) (seen : List ℕ) (row : Row) (e : Refused)
    → k < length rows → row ≡ get_or rows k row
    → FilesSoFar store blocks rows first k chains seen
    → file_at blocks (k + 1) (row_of row) seen ≡ Err e → files_from blocks 1 (map row_of rows) first ≡ Err e
files_refused store blocks rows first k chains seen row e low row_is far stopped =
    is_refused (files_walk blocks) rows 1 first k far.files seen row (k + 1) e low row_is (let e : k + 1 ≡ 1 + k = Prim.omega arith in e) far.is
    (λ rest. file_refused blocks (k + 1) (row_of row) seen e stopped (map row_of rest))

pub files_end :
    (store : Store) (blocks : Blocks) (rows : List Row) (first : List ℕ) (k : ℕ) (chains : List (Option FoundFile)) (seen : List ℕ)
    → length rows ≤ k → FilesSoFar store blocks rows first k chains seen
    → (files : List LaidFile) × LikeFiles store blocks.count chains files × (files_from blocks 1 (map row_of rows) first ≡ Ok (files, seen))
files_end store blocks rows first k chains seen past far = (
  far.files,
  far.like,
  ends (files_walk blocks) rows 1 first k far.files seen past far.is (no_files_left blocks seen) ∙ ap (λ (files : List LaidFile). Ok (files, seen)) (append-nil far.files),
)
