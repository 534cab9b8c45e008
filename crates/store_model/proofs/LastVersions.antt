-- The last version of a chain, and those before it.
use Rattle.std.proofs.Common.{◌≡◌, ℕ, zero, suc, ◌-◌, List, [], ◌∷◌, length, Some, None, Ok, refl, sym, ap, ◌∙◌, arith, slice_get}
use Rattle.store_model.specs.Laid.{LaidVersion, LaidFile, last_laid}
use Rattle.store_model.specs.Tables.{Row, files_from}
use Rattle.store_model.proofs.Steps.{Content, blocks_of}
use Rattle.store_model.proofs.Chaining.{Chained, last_from}
use Rattle.store_model.proofs.Filing.{FilesAgain, files_again}
use Rattle.store_model.proofs.Edits.{some_is, none_some}

-- each names the next, and the last names none
pub chained_next : (head : LaidVersion) (rest : List LaidVersion) (i : ℕ) (v w : LaidVersion) → Chained head rest
    → slice_get (head ∷ rest) i ≡ Some v → slice_get (head ∷ rest) (suc i) ≡ Some w → v.commit ≡ Some w.block
chained_next head [] i v w c p q = none_some q
chained_next head (x ∷ xs) zero v w c p q =
    ap (λ (y : LaidVersion). y.commit) (sym (some_is p)) ∙ c.0 ∙ ap (λ (y : LaidVersion). Some y.block) (some_is q)
chained_next head (x ∷ xs) (suc i) v w c p q = chained_next x xs i v w c.1 p q

pub chained_last : (head : LaidVersion) (rest : List LaidVersion) → Chained head rest → (last_from head rest).commit ≡ None
chained_last head [] c = c
chained_last head (x ∷ xs) c = chained_last x xs c.1

pub last_get : (head : LaidVersion) (rest : List LaidVersion) → slice_get (head ∷ rest) (length rest) ≡ Some (last_from head rest)
last_get head [] = refl
last_get head (x ∷ xs) = last_get x xs

-- the last of a list that is a version and those after it
pub last_is : (versions : List LaidVersion) (head : LaidVersion) (rest : List LaidVersion) (v : LaidVersion) → versions ≡ head ∷ rest → last_laid versions ≡ Some v
    → v ≡ last_from head rest
last_is versions head rest v e is =
    let one : length (head ∷ rest) - 1 ≡ length rest = omega arith in
    some_is (sym is ∙ ap last_laid e ∙ ap (slice_get (head ∷ rest)) one ∙ last_get head rest)

-- the last version of each file of a table names none
pub last_names_none : (c : Content) (count : ℕ) (rows : List Row) (seen : List ℕ) (files : List LaidFile) (all : List ℕ)
    → files_from (blocks_of c count) 1 rows seen ≡ Ok (files, all)
    → (k : ℕ) (file : LaidFile) (v : LaidVersion) → slice_get files k ≡ Some file → last_laid file.versions ≡ Some v → v.commit ≡ None
last_names_none c count rows seen files all e k file v listed is =
    let fa : FilesAgain c c count (suc k) 1 k file rows seen files all =
    files_again c c count (suc k) 1 k file rows seen files all (length file.versions - 1) v (omega arith) e listed is in
    ap (λ (w : LaidVersion). w.commit) (last_is file.versions fa.head fa.rest v fa.list is) ∙ chained_last fa.head fa.rest fa.chained
