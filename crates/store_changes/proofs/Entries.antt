-- The files of a table where the entry of one of them was written.
use Rattle.std.proofs.Common.{◌≡◌, ℕ, zero, suc, ◌+◌, ◌≤◌, List, [], ◌∷◌, ◌++◌, ◌⊎◌, inl, inr, Option, Some, None, Ok, refl, sym, ap, subst, ◌∙◌, arith, slice_get, map}
use Rattle.page_codec.specs.Values.{EntryValue}
use Rattle.store_model.specs.Walk.{Walk, bind, done, if_some}
use Rattle.store_model.specs.Laid.{LaidVersion, LaidFile}
use Rattle.store_model.specs.Chains.{version_at, chain_from, chain_at}
use Rattle.store_model.specs.Tables.{Row, files_from}
use Rattle.store_model.specs.Changes.{changed_at}
use Rattle.store_model.proofs.PlaceLists.{IsIn, Apart, in_left, in_right, in_either, in_along}
use Rattle.store_model.proofs.Steps.{Content, blocks_of, Agree, InRange, Ran, Framed, Passed, passed, went_on, same_value, same_places, framed_some}
use Rattle.store_model.proofs.Locality.{framed_chain, framed_files}
use Rattle.store_model.proofs.Rewriting.{VersionRead, version_read, version_made}
use Rattle.store_model.proofs.Edits.{some_is, none_some}

abbrev pub here_from : Content → ℕ → ℕ → Row → Walk (List LaidVersion)
here_from c count object row = if_some row.entry.first (λ block. chain_at (blocks_of c count) object row.block block)

abbrev pub filed : Row → List LaidVersion → LaidFile
filed row versions = record { entry = row.entry; versions = versions }

pub record Filed (c : Content) (count object : ℕ) (row : Row) (others : List Row) (seen : List ℕ) (files : List LaidFile) (all : List ℕ) : Type 0 where
  pub versions : List LaidVersion
  pub mid : List ℕ
  pub rest : List LaidFile
  pub here : here_from c count object row seen ≡ Ok (versions, mid)
  pub goes : files_from (blocks_of c count) (suc object) others mid ≡ Ok (rest, all)
  pub list : files ≡ filed row versions ∷ rest

pub files_step : (c : Content) (count object : ℕ) (row : Row) (others : List Row) (seen : List ℕ) (files : List LaidFile) (all : List ℕ)
    → files_from (blocks_of c count) object (row ∷ others) seen ≡ Ok (files, all) → Filed c count object row others seen files all
unfolding files_from bind done
files_step c count object row others seen files all e =
    let p : Passed (here_from c count object row seen) _ files all = passed (here_from c count object row seen) _ files all e in
    let q : Passed (files_from (blocks_of c count) (suc object) others p.places) _ files all =
    passed (files_from (blocks_of c count) (suc object) others p.places) _ files all p.second in
    record {
      versions = p.value;
      mid = p.places;
      rest = q.value;
      here = p.first;
      goes = q.first ∙ ap (λ z. Ok (q.value, z)) (same_places q.places all (filed row p.value ∷ q.value) files q.second);
      list = sym (same_value q.places all (filed row p.value ∷ q.value) files q.second);
    }

pub files_go : (d : Content) (count object : ℕ) (row : Row) (others : List Row) (seen mid all : List ℕ) (versions : List LaidVersion) (rest : List LaidFile)
    → here_from d count object row seen ≡ Ok (versions, mid) → files_from (blocks_of d count) (suc object) others mid ≡ Ok (rest, all)
    → files_from (blocks_of d count) object (row ∷ others) seen ≡ Ok (filed row versions ∷ rest, all)
unfolding files_from done
files_go d count object row others seen mid all versions rest here goes =
    went_on (here_from d count object row) _ seen versions mid _ here (went_on (files_from (blocks_of d count) (suc object) others) _ mid rest all _ goes refl)

pub framed_here : (c d : Content) (count object : ℕ) (row : Row) → Framed c d (InRange count) (here_from c count object row) (here_from d count object row)
framed_here c d count object row = framed_some c d row.entry.first _ _ (λ block. framed_chain c d count object row.block block)

pub no_files : (c : Content) (count object : ℕ) (seen : List ℕ) (files : List LaidFile) (all : List ℕ) → files_from (blocks_of c count) object [] seen ≡ Ok (files, all) → [] ≡ files
unfolding files_from done
no_files c count object seen files all h = same_value seen all [] files h

-- ---- one entry written

-- the contents agree but for block 0 and the blocks of the table
abbrev pub AgreeBeside : Content → Content → List ℕ → Type 0
AgreeBeside c d table = (n : ℕ) → 1 ≤ n → (IsIn table n → ⊥) → c n ≡ d n

-- What is asked of the new entry and of the places that it changes: `New`, which places may come with it, `Old`, the blocks of pages that may go, `Still`,
-- which of these are places still, and `Gives`, what is to be so of the versions that it gives and of the places then.
pub record Asked : Type 1 where
  pub New : ℕ → Type 0
  pub Old : ℕ → Type 0
  pub Still : ℕ → Type 0
  pub Gives : List LaidVersion → List ℕ → Type 0

-- a block that is lost
abbrev pub Lost : Asked → ℕ → Type 0
Lost q n = q.Old n × (q.Still n → ⊥)

-- The new entry gives these versions, from any places that were found before, where the old one led from `start` to `mid`.
pub record HereGoes (d : Content) (count object : ℕ) (row : Row) (q : Asked) (all start mid later : List ℕ) : Type 0 where
  pub versions : List LaidVersion
  pub after : List ℕ
  pub runs : here_from d count object row later ≡ Ok (versions, after)
  pub gives : q.Gives versions after
  pub only : (n : ℕ) → IsIn after n → IsIn later n ⊎ (q.New n × (IsIn all n → IsIn mid n))
  pub more : (n : ℕ) → IsIn later n → IsIn after n
  pub old : (n : ℕ) → q.Old n → IsIn mid n × (IsIn start n → ⊥)
  pub still : (n : ℕ) → IsIn after n → q.Old n → q.Still n
  pub rest : (n : ℕ) → IsIn mid n → IsIn start n ⊎ (IsIn after n ⊎ Lost q n)

-- and so all files, of which this one has other versions
pub record FilesGo (d : Content) (count object k : ℕ) (rows : List Row) (row : Row) (q : Asked) (files : List LaidFile) (seen all later : List ℕ) : Type 0 where
  pub versions : List LaidVersion
  pub from : List ℕ
  pub after : List ℕ
  pub runs : files_from (blocks_of d count) object (changed_at (λ _. row) k rows) later ≡ Ok (changed_at (λ _. filed row versions) k files, after)
  pub gives : q.Gives versions from
  pub into : (n : ℕ) → IsIn from n → IsIn after n
  pub only : (n : ℕ) → IsIn after n → IsIn later n ⊎ (IsIn all n ⊎ q.New n)
  pub more : (n : ℕ) → IsIn later n → IsIn after n
  pub old : (n : ℕ) → q.Old n → IsIn all n × (IsIn seen n → ⊥)
  pub still : (n : ℕ) → IsIn after n → q.Old n → q.Still n
  pub rest : (n : ℕ) → IsIn all n → IsIn seen n ⊎ (IsIn after n ⊎ Lost q n)

-- what the new entry gives is to be shown where the old one gave this file's versions
abbrev pub HereAt : Content → Content → ℕ → ℕ → Row → Row → LaidFile → Asked → List ℕ → List ℕ → Type 0
HereAt c d count object old row file q seen all =
    (start mid later : List ℕ) → here_from c count object old start ≡ Ok (file.versions, mid)
    → ((n : ℕ) → IsIn seen n → IsIn start n) → ((n : ℕ) → IsIn mid n → IsIn all n) → ((n : ℕ) → IsIn later n → IsIn start n)
    → HereGoes d count object row q all start mid later

pub files_swap : (c d : Content) (count object k : ℕ) (table : List ℕ) (rows : List Row) (old row : Row) (file : LaidFile) (q : Asked) (seen : List ℕ) (files : List LaidFile) (all later : List ℕ)
    → files_from (blocks_of c count) object rows seen ≡ Ok (files, all) → slice_get rows k ≡ Some old → slice_get files k ≡ Some file → AgreeBeside c d table
    → ((n : ℕ) → IsIn table n → IsIn seen n) → ((n : ℕ) → IsIn later n → IsIn seen n) → HereAt c d count (object + k) old row file q seen all
    → FilesGo d count object k rows row q files seen all later
files_swap c d count object k table [] old row file q seen files all later e at listed agree in_seen within here = none_some at
files_swap c d count object zero table (r ∷ rows) old row file q seen files all later e at listed agree in_seen within here =
    let f : Filed c count object r rows seen files all = files_step c count object r rows seen files all e in
    let this : r ≡ old = some_is at in
    let at_here : object + 0 ≡ object = omega arith in
    let one_file : filed r f.versions ≡ file = some_is (ap (λ l. slice_get l 0) (sym f.list) ∙ listed) in
    let own : Ran c d (InRange count) (here_from d count object r) seen f.versions f.mid = (framed_here c d count object r).runs seen f.versions f.mid f.here in
    let ran : Ran c d (InRange count) (files_from (blocks_of d count) (suc object) rows) f.mid f.rest all = (framed_files c d count (suc object) rows).runs f.mid f.rest all f.goes in
    let grown : (n : ℕ) → IsIn f.mid n → IsIn all n = λ n h. in_along (ran.new ++ f.mid) all (sym ran.grown) n (in_right ran.new f.mid n h) in
    let more : (n : ℕ) → IsIn seen n → IsIn f.mid n = λ n h. in_along (own.new ++ seen) f.mid (sym own.grown) n (in_right own.new seen n h) in
    let read : here_from c count (object + 0) old seen ≡ Ok (file.versions, f.mid) =
    ap (λ o. here_from c count o old seen) at_here ∙ ap (λ x. here_from c count object x seen) (sym this) ∙ f.here ∙ ap (λ (x : LaidFile). Ok (x.versions, f.mid)) one_file in
    let h : HereGoes d count (object + 0) row q all seen f.mid later = here seen f.mid later read (λ n i. i) grown within in
    let new_in : (n : ℕ) → IsIn ran.new n → IsIn all n = λ n i. in_along (ran.new ++ f.mid) all (sym ran.grown) n (in_left ran.new f.mid n i) in
    let clear : Apart ran.new h.after =
    λ n i j. elim (h.only n j) [ inl x ↦ ran.apart n i (more n (within n x)) | inr x ↦ ran.apart n i (x.1 (new_in n i)) ] in
    let same : Agree c d ran.new = λ n i. agree n (ran.each n i).0 (λ t. ran.apart n i (more n (in_seen n t))) in
    let rest : files_from (blocks_of d count) (suc object) rows h.after ≡ Ok (f.rest, ran.new ++ h.after) = ran.anywhere h.after clear same in
    record {
      versions = h.versions;
      from = h.after;
      after = ran.new ++ h.after;
      runs = files_go d count object row rows later h.after (ran.new ++ h.after) h.versions f.rest (ap (λ o. here_from d count o row later) (sym at_here) ∙ h.runs) rest
          ∙ ap (λ (l : List LaidFile). Ok (changed_at (λ _. filed row h.versions) 0 l, ran.new ++ h.after)) (sym f.list);
      gives = h.gives;
      into = λ n i. in_right ran.new h.after n i;
      only = λ n i. elim (in_either ran.new h.after n i) [
        | inl x ↦ inr (inl (new_in n x))
        | inr x ↦ elim (h.only n x) [ inl y ↦ inl y | inr y ↦ inr (inr y.0) ]
      ];
      more = λ n i. in_right ran.new h.after n (h.more n i);
      old = λ n o. (grown n (h.old n o).0, (h.old n o).1);
      still = λ n i o. elim (in_either ran.new h.after n i) [ inl x ↦ absurd (ran.apart n x (h.old n o).0) | inr x ↦ h.still n x o ];
      rest = λ n i. elim (in_either ran.new f.mid n (in_along all (ran.new ++ f.mid) ran.grown n i)) [
        | inl x ↦ inr (inl (in_left ran.new h.after n x))
        | inr x ↦ elim (h.rest n x) [ inl y ↦ inl y | inr y ↦ inr (elim y [ inl z ↦ inl (in_right ran.new h.after n z) | inr z ↦ inr z ]) ]
      ];
    }
files_swap c d count object (suc k) table (r ∷ rows) old row file q seen files all later e at listed agree in_seen within here =
    let f : Filed c count object r rows seen files all = files_step c count object r rows seen files all e in
    let past : object + suc k ≡ suc object + k = omega arith in
    let own : Ran c d (InRange count) (here_from d count object r) seen f.versions f.mid = (framed_here c d count object r).runs seen f.versions f.mid f.here in
    let more : (n : ℕ) → IsIn seen n → IsIn f.mid n = λ n h. in_along (own.new ++ seen) f.mid (sym own.grown) n (in_right own.new seen n h) in
    let one : here_from d count object r later ≡ Ok (f.versions, own.new ++ later) =
    own.anywhere later (λ n i j. own.apart n i (within n j)) (λ n i. agree n (own.each n i).0 (λ t. own.apart n i (in_seen n t))) in
    let below : (n : ℕ) → IsIn (own.new ++ later) n → IsIn f.mid n =
    λ n i. in_along (own.new ++ seen) f.mid (sym own.grown) n (elim (in_either own.new later n i) [ inl x ↦ in_left own.new seen n x | inr x ↦ in_right own.new seen n (within n x) ]) in
    let g : FilesGo d count (suc object) k rows row q f.rest f.mid all (own.new ++ later) =
    files_swap c d count (suc object) k table rows old row file q f.mid f.rest all (own.new ++ later) f.goes at (ap (λ l. slice_get l (suc k)) (sym f.list) ∙ listed) agree
    (λ n t. more n (in_seen n t)) below
    (λ start mid from read above into under. subst (λ o. HereGoes d count o row q all start mid from) past
    (here start mid from (ap (λ o. here_from c count o old start) past ∙ read) (λ n i. above n (more n i)) into under)) in
    let ran : Ran c c (InRange count) (files_from (blocks_of c count) (suc object) rows) f.mid f.rest all = (framed_files c c count (suc object) rows).runs f.mid f.rest all f.goes in
    record {
      versions = g.versions;
      from = g.from;
      after = g.after;
      runs = files_go d count object r (changed_at (λ _. row) k rows) later (own.new ++ later) g.after f.versions (changed_at (λ _. filed row g.versions) k f.rest) one g.runs
          ∙ ap (λ (l : List LaidFile). Ok (changed_at (λ _. filed row g.versions) (suc k) l, g.after)) (sym f.list);
      gives = g.gives;
      into = g.into;
      only = λ n i. elim (g.only n i) [
        | inl x ↦ elim (in_either own.new later n x) [
          | inl y ↦ inr (inl (in_along (ran.new ++ f.mid) all (sym ran.grown) n (in_right ran.new f.mid n (in_along (own.new ++ seen) f.mid (sym own.grown) n (in_left own.new seen n y)))))
          | inr y ↦ inl y
        ]
        | inr x ↦ inr x
      ];
      more = λ n i. g.more n (in_right own.new later n i);
      old = λ n o. ((g.old n o).0, λ h. (g.old n o).1 (more n h));
      still = g.still;
      rest = λ n i. elim (g.rest n i) [
        | inl x ↦ elim (in_either own.new seen n (in_along f.mid (own.new ++ seen) own.grown n x)) [
          | inl y ↦ inr (inl (g.more n (in_left own.new later n y)))
          | inr y ↦ inl y
        ]
        | inr x ↦ inr x
      ];
    }

-- ---- the row of a file

-- the row that a file was found from
pub record RowOf (k : ℕ) (rows : List Row) (file : LaidFile) : Type 0 where
  pub row : Row
  pub at : slice_get rows k ≡ Some row
  pub entry : file.entry ≡ row.entry

pub row_of_file : (c : Content) (count object k : ℕ) (rows : List Row) (seen : List ℕ) (files : List LaidFile) (all : List ℕ) (file : LaidFile)
    → files_from (blocks_of c count) object rows seen ≡ Ok (files, all) → slice_get files k ≡ Some file → RowOf k rows file
row_of_file c count object k [] seen files all file e at = none_some (ap (λ l. slice_get l k) (no_files c count object seen files all e) ∙ at)
row_of_file c count object zero (r ∷ rows) seen files all file e at =
    let f : Filed c count object r rows seen files all = files_step c count object r rows seen files all e in
    let this : filed r f.versions ≡ file = some_is (ap (λ l. slice_get l 0) (sym f.list) ∙ at) in
    record { row = r; at = refl; entry = ap (λ (x : LaidFile). x.entry) (sym this) }
row_of_file c count object (suc k) (r ∷ rows) seen files all file e at =
    let f : Filed c count object r rows seen files all = files_step c count object r rows seen files all e in
    let g : RowOf k rows file = row_of_file c count (suc object) k rows f.mid f.rest all file f.goes (ap (λ l. slice_get l (suc k)) (sym f.list) ∙ at) in
    record { row = g.row; at = g.at; entry = g.entry }

-- ---- the same entries in rows of other blocks

abbrev pub entries_in : List Row → List EntryValue
entries_in rows = map (λ (row : Row). row.entry) rows

-- the block that names a first version is of no account where the version is read
named_alike : (c : Content) (count object namer name block : ℕ) (seen : List ℕ) (vs : List LaidVersion) (all : List ℕ)
    → chain_at (blocks_of c count) object namer block seen ≡ Ok (vs, all) → chain_at (blocks_of c count) object name block seen ≡ Ok (vs, all)
unfolding chain_at bind
named_alike c count object namer name block seen vs all e =
    let p : Passed (version_at (blocks_of c count) object namer block None seen) (chain_from (blocks_of c count) object count) vs all =
    passed (version_at (blocks_of c count) object namer block None seen) (chain_from (blocks_of c count) object count) vs all e in
    let v : VersionRead c count object block None seen p.value p.places = version_read c count object namer block None seen p.value p.places p.first in
    went_on (version_at (blocks_of c count) object name block None) (chain_from (blocks_of c count) object count) seen p.value p.places _
    (version_made c count object name block None seen p.places v.bytes v.page v.others v.ranged v.fresh v.holds v.reads v.objects tt v.members v.below
    ∙ ap (λ (w : LaidVersion). Ok (w, p.places)) (sym v.made)) p.second

here_alike : (c : Content) (count object : ℕ) (old row : Row) (seen : List ℕ) (vs : List LaidVersion) (all : List ℕ) → old.entry ≡ row.entry
    → here_from c count object old seen ≡ Ok (vs, all) → here_from c count object row seen ≡ Ok (vs, all)
unfolding if_some
here_alike c count object old row seen vs all same e =
    ap (λ (x : EntryValue). if_some x.first (λ block. chain_at (blocks_of c count) object row.block block) seen) (sym same) ∙ of old.entry.first e
  where
    of : (o : Option ℕ) → if_some o (λ block. chain_at (blocks_of c count) object old.block block) seen ≡ Ok (vs, all)
        → if_some o (λ block. chain_at (blocks_of c count) object row.block block) seen ≡ Ok (vs, all)
    of None h = h
    of (Some b) h = named_alike c count object old.block row.block b seen vs all h

pub rows_alike : (c : Content) (count object : ℕ) (rows others : List Row) (seen : List ℕ) (files : List LaidFile) (all : List ℕ) → entries_in others ≡ entries_in rows
    → files_from (blocks_of c count) object rows seen ≡ Ok (files, all) → files_from (blocks_of c count) object others seen ≡ Ok (files, all)
rows_alike c count object [] [] seen files all same e = e
rows_alike c count object [] (x ∷ others) seen files all same e = absurd cc
rows_alike c count object (r ∷ rows) [] seen files all same e = absurd cc
rows_alike c count object (r ∷ rows) (x ∷ others) seen files all same e =
    let f : Filed c count object r rows seen files all = files_step c count object r rows seen files all e in
    let head : x.entry ≡ r.entry = cc in
    let tail : entries_in others ≡ entries_in rows = cc in
    files_go c count object x others seen f.mid all f.versions f.rest (here_alike c count object r x seen f.versions f.mid (sym head) f.here)
    (rows_alike c count (suc object) rows others f.mid f.rest all tail f.goes)
    ∙ ap (λ (y : EntryValue). Ok ((let z : LaidFile = record { entry = y; versions = f.versions } in z) ∷ f.rest, all)) head
    ∙ ap (λ l. Ok (l, all)) (sym f.list)
