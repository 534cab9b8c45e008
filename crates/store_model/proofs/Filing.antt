-- The files of a table after the last version of one of them was written anew.
use Rattle.std.proofs.Common.{◌≡◌, ℕ, zero, suc, ◌+◌, List, [], ◌∷◌, ◌++◌, length, inl, inr, Option, Some, None, Result, Ok, refl, sym, ap, subst, ◌∙◌, append_assoc, arith, slice_get}
use Rattle.page_codec.specs.Values.{MemberValue}
use Rattle.store_model.specs.Walk.{Walk, Refused, bind, done, if_some}
use Rattle.store_model.specs.Laid.{LaidVersion, LaidFile}
use Rattle.store_model.specs.Chains.{chain_at}
use Rattle.store_model.specs.Tables.{Row, files_from}
use Rattle.store_model.specs.Changes.{changed_at}
use Rattle.store_model.proofs.PlaceLists.{IsIn, Apart, Distinct, in_left, in_right, in_either, in_along, distinct_append, SameBlocks, same_append, same_swap, same_from}
use Rattle.store_model.proofs.Steps.{Content, blocks_of, Agree, InRange, Ran, Framed, Passed, passed, went_on, same_value, same_places, framed_some}
use Rattle.store_model.proofs.Locality.{framed_chain, framed_files}
use Rattle.store_model.proofs.Rewriting.{version_as}
use Rattle.store_model.proofs.Chaining.{Chained, last_from, LastPage, Rewritten, Ends, ChainAgain, chain_again}

-- the last version, counted from 0, written anew, and what follows it then
abbrev pub file_as : Option ℕ → List MemberValue → ℕ → List LaidVersion → LaidFile → LaidFile
file_as commit members place tail file = record file { versions = changed_at (version_as commit members) place file.versions ++ tail }

-- ---- a step

abbrev here_from : Content → ℕ → ℕ → Row → Walk (List LaidVersion)
here_from c count object row = if_some row.entry.first (λ block. chain_at (blocks_of c count) object row.block block)

abbrev filed : Row → List LaidVersion → LaidFile
filed row versions = record { entry = row.entry; versions = versions }

record Filed (c : Content) (count object : ℕ) (row : Row) (others : List Row) (seen : List ℕ) (files : List LaidFile) (all : List ℕ) : Type 0 where
  versions : List LaidVersion
  mid : List ℕ
  rest : List LaidFile
  here : here_from c count object row seen ≡ Ok (versions, mid)
  goes : files_from (blocks_of c count) (suc object) others mid ≡ Ok (rest, all)
  list : files ≡ filed row versions ∷ rest

files_step : (c : Content) (count object : ℕ) (row : Row) (others : List Row) (seen : List ℕ) (files : List LaidFile) (all : List ℕ)
    → files_from (blocks_of c count) object (row ∷ others) seen ≡ Ok (files, all) → Filed c count object row others seen files all
unfolding files_from bind done
files_step c count object row others seen files all e =
    let p : Passed (here_from c count object row seen) _ files all = passed (here_from c count object row seen) _ files all e in
    let q : Passed (files_from (blocks_of c count) (suc object) others p.places) _ files all =
    passed (files_from (blocks_of c count) (suc object) others p.places) _ files all p.second in
    record {
      versions = p.value;
      mid = p.places;
      rest = q.value;
      here = p.first;
      goes = q.first ∙ ap (λ z. Ok (q.value, z)) (same_places q.places all (filed row p.value ∷ q.value) files q.second);
      list = sym (same_value q.places all (filed row p.value ∷ q.value) files q.second);
    }

files_go : (d : Content) (count object : ℕ) (row : Row) (others : List Row) (seen mid all : List ℕ) (versions : List LaidVersion) (rest : List LaidFile)
    → here_from d count object row seen ≡ Ok (versions, mid) → files_from (blocks_of d count) (suc object) others mid ≡ Ok (rest, all)
    → files_from (blocks_of d count) object (row ∷ others) seen ≡ Ok (filed row versions ∷ rest, all)
unfolding files_from done
files_go d count object row others seen mid all versions rest here goes =
    went_on (here_from d count object row) _ seen versions mid _ here (went_on (files_from (blocks_of d count) (suc object) others) _ mid rest all _ goes refl)

framed_here : (c d : Content) (count object : ℕ) (row : Row) → Framed c d (InRange count) (here_from c count object row) (here_from d count object row)
framed_here c d count object row = framed_some c d row.entry.first _ _ (λ block. framed_chain c d count object row.block block)

-- ---- the file in question

record Live (c : Content) (count object : ℕ) (row : Row) (seen : List ℕ) (versions : List LaidVersion) (mid : List ℕ) : Type 0 where
  first : ℕ
  is : row.entry.first ≡ Some first
  chain : chain_at (blocks_of c count) object row.block first seen ≡ Ok (versions, mid)

live : (c : Content) (count object : ℕ) (row : Row) (seen : List ℕ) (versions : List LaidVersion) (mid : List ℕ) (i : ℕ) (v : LaidVersion)
    → here_from c count object row seen ≡ Ok (versions, mid) → slice_get versions i ≡ Some v → Live c count object row seen versions mid
unfolding if_some done
live c count object row seen versions mid i v e is = of row.entry.first refl e
  where
    of : (o : Option ℕ) → row.entry.first ≡ o → if_some o (λ block. chain_at (blocks_of c count) object row.block block) seen ≡ Ok (versions, mid)
        → Live c count object row seen versions mid
    of None was h = let nothing : [] ≡ versions = same_value seen mid [] versions h in absurd (none (ap (λ l. slice_get l i) nothing ∙ is))
      where
        none : None ≡ Some v → ⊥
        none f = cc
    of (Some first) was h = record { first = first; is = was; chain = h }

pub record FilesRan (d : Content) (count object : ℕ) (rows : List Row) (later : List ℕ) (files : List LaidFile) (wanted : List ℕ) : Type 0 where
  pub order : List ℕ
  pub runs : files_from (blocks_of d count) object rows later ≡ Ok (files, order ++ later)
  pub same : SameBlocks order wanted

pub record FilesAgain (c d : Content) (count named object k : ℕ) (file : LaidFile) (rows : List Row) (seen : List ℕ) (files : List LaidFile) (all : List ℕ) : Type 0 where
  pub head : LaidVersion
  pub rest : List LaidVersion
  pub list : file.versions ≡ head ∷ rest
  pub chained : Chained head rest
  pub new : List ℕ
  pub grown : all ≡ new ++ seen
  pub apart : Apart new seen
  pub distinct : Distinct new
  pub each : (n : ℕ) → IsIn new n → InRange count n
  pub last : LastPage c new (last_from head rest)
  pub rewritten : (commit : Option ℕ) (members : List MemberValue) (tail : List LaidVersion) (extra : List ℕ)
      → Rewritten c d (last_from head rest).block commit members
      → Ends d count named (version_as commit members (last_from head rest)) tail extra
      → (later : List ℕ) → Apart new later → Apart extra (new ++ later)
      → FilesRan d count object rows later (changed_at (file_as commit members (length rest) tail) k files) (extra ++ new)

some_is : {X : Type 0} {x y : X} → Some x ≡ Some y → x ≡ y
some_is h = cc

some_goes : (walk : ℕ → Walk (List LaidVersion)) (x : ℕ) (start : List ℕ) (r : Result (List LaidVersion × List ℕ) Refused) → walk x start ≡ r → if_some (Some x) walk start ≡ r
unfolding if_some
some_goes walk x start r e = e

no_files : (c : Content) (count object : ℕ) (seen : List ℕ) (files : List LaidFile) (all : List ℕ) → files_from (blocks_of c count) object [] seen ≡ Ok (files, all) → [] ≡ files
unfolding files_from done
no_files c count object seen files all h = same_value seen all [] files h

-- the file is the first
first_file : (c d : Content) (count named object : ℕ) (file : LaidFile) (row : Row) (others : List Row) (seen : List ℕ) (files : List LaidFile) (all : List ℕ) (i : ℕ) (v : LaidVersion)
    → object ≡ named → Filed c count object row others seen files all → slice_get files 0 ≡ Some file → slice_get file.versions i ≡ Some v
    → FilesAgain c d count named object 0 file (row ∷ others) seen files all
first_file c d count named object file row others seen files all i v at f listed is =
    let this : filed row f.versions ≡ file = some_is (ap (λ l. slice_get l 0) (sym f.list) ∙ listed) in
    let versions : f.versions ≡ file.versions = ap (λ (x : LaidFile). x.versions) this in
    let l : Live c count object row seen f.versions f.mid = live c count object row seen f.versions f.mid i v f.here (ap (λ x. slice_get x i) versions ∙ is) in
    let ch : ChainAgain c d count object l.first seen f.versions f.mid = chain_again c d count object row.block l.first seen f.versions f.mid l.chain in
    let r : Ran c d (InRange count) (files_from (blocks_of d count) (suc object) others) f.mid f.rest all = (framed_files c d count (suc object) others).runs f.mid f.rest all f.goes in
    let beside : Apart r.new (ch.new ++ seen) = subst (Apart r.new) ch.grown r.apart in
    record {
      head = ch.head;
      rest = ch.rest;
      list = sym versions ∙ ch.list;
      chained = ch.chained;
      new = r.new ++ ch.new;
      grown = r.grown ∙ ap (λ x. r.new ++ x) ch.grown ∙ sym (append_assoc r.new ch.new seen);
      apart = λ n h g. elim (in_either r.new ch.new n h) [ inl x ↦ beside n x (in_right ch.new seen n g) | inr x ↦ ch.apart n x g ];
      distinct = distinct_append r.new ch.new r.distinct ch.distinct (λ n h g. beside n h (in_left ch.new seen n g));
      each = λ n h. elim (in_either r.new ch.new n h) [ inl x ↦ r.each n x | inr x ↦ ch.each n x ];
      last = record {
        here = in_right r.new ch.new (last_from ch.head ch.rest).block ch.last.here;
        page = ch.last.page;
        was = ch.last.was;
        commit_is = ch.last.commit_is;
        members_is = ch.last.members_is;
      };
      rewritten = λ commit members tail extra rw ends later clear off.
          let changed : List LaidVersion = changed_at (version_as commit members) (length ch.rest) (ch.head ∷ ch.rest) ++ tail in
          let inside : (n : ℕ) → IsIn (ch.new ++ later) n → IsIn ((r.new ++ ch.new) ++ later) n =
          λ n h. in_along (r.new ++ (ch.new ++ later)) ((r.new ++ ch.new) ++ later) (sym (append_assoc r.new ch.new later)) n (in_right r.new (ch.new ++ later) n h) in
          let one : chain_at (blocks_of d count) object row.block l.first later ≡ Ok (changed, extra ++ (ch.new ++ later)) =
          ch.rewritten commit members tail extra rw (subst (λ o. Ends d count o (version_as commit members (last_from ch.head ch.rest)) tail extra) (sym at) ends)
          row.block later (λ n h g. clear n (in_right r.new ch.new n h) g) (λ n h g. off n h (inside n g)) in
          let apart_rest : Apart r.new (extra ++ (ch.new ++ later)) =
          λ n h g. elim (in_either extra (ch.new ++ later) n g) [
            | inl x ↦ off n x (in_left (r.new ++ ch.new) later n (in_left r.new ch.new n h))
            | inr x ↦ elim (in_either ch.new later n x) [
              | inl y ↦ beside n h (in_left ch.new seen n y)
              | inr y ↦ clear n (in_left r.new ch.new n h) y
            ]
          ] in
          let agree : Agree c d r.new = λ n h. rw.others n (λ i. beside n h (in_left ch.new seen n (subst (IsIn ch.new) (sym i) ch.last.here))) in
          let two : files_from (blocks_of d count) (suc object) others (extra ++ (ch.new ++ later)) ≡ Ok (f.rest, r.new ++ (extra ++ (ch.new ++ later))) =
          r.anywhere (extra ++ (ch.new ++ later)) apart_rest agree in
          let along : r.new ++ (extra ++ (ch.new ++ later)) ≡ (r.new ++ (extra ++ ch.new)) ++ later =
          ap (λ x. r.new ++ x) (sym (append_assoc extra ch.new later)) ∙ sym (append_assoc r.new (extra ++ ch.new) later) in
          let fits : filed row changed ∷ f.rest ≡ changed_at (file_as commit members (length ch.rest) tail) 0 files =
          ap (λ vs. filed row (changed_at (version_as commit members) (length ch.rest) vs ++ tail) ∷ f.rest) (sym ch.list)
          ∙ ap (changed_at (file_as commit members (length ch.rest) tail) 0) (sym f.list) in
          record {
            order = r.new ++ (extra ++ ch.new);
            runs =
                files_go d count object row others later (extra ++ (ch.new ++ later)) (r.new ++ (extra ++ (ch.new ++ later))) changed f.rest
                (ap (λ o. if_some o (λ block. chain_at (blocks_of d count) object row.block block) later) l.is ∙ some_goes (chain_at (blocks_of d count) object row.block) l.first later _ one) two
                ∙ ap (λ x. Ok (filed row changed ∷ f.rest, x)) along ∙ ap (λ x. Ok (x, (r.new ++ (extra ++ ch.new)) ++ later)) fits;
            same = same_swap r.new extra ch.new;
          };
    }

-- the file is a later one
later_file : (c d : Content) (count named object k : ℕ) (file : LaidFile) (row : Row) (others : List Row) (seen : List ℕ) (files : List LaidFile) (all : List ℕ)
    → Filed c count object row others seen files all
    → ((mid : List ℕ) (rest : List LaidFile) → files_from (blocks_of c count) (suc object) others mid ≡ Ok (rest, all) → slice_get rest k ≡ Some file
    → FilesAgain c d count named (suc object) k file others mid rest all)
    → slice_get files (suc k) ≡ Some file
    → FilesAgain c d count named object (suc k) file (row ∷ others) seen files all
later_file c d count named object k file row others seen files all f again listed =
    let ih : FilesAgain c d count named (suc object) k file others f.mid f.rest all = again f.mid f.rest f.goes (ap (λ l. slice_get l (suc k)) (sym f.list) ∙ listed) in
    let r : Ran c d (InRange count) (here_from d count object row) seen f.versions f.mid = (framed_here c d count object row).runs seen f.versions f.mid f.here in
    let beside : Apart ih.new (r.new ++ seen) = subst (Apart ih.new) r.grown ih.apart in
    record {
      head = ih.head;
      rest = ih.rest;
      list = ih.list;
      chained = ih.chained;
      new = ih.new ++ r.new;
      grown = ih.grown ∙ ap (λ x. ih.new ++ x) r.grown ∙ sym (append_assoc ih.new r.new seen);
      apart = λ n h g. elim (in_either ih.new r.new n h) [ inl x ↦ beside n x (in_right r.new seen n g) | inr x ↦ r.apart n x g ];
      distinct = distinct_append ih.new r.new ih.distinct r.distinct (λ n h g. beside n h (in_left r.new seen n g));
      each = λ n h. elim (in_either ih.new r.new n h) [ inl x ↦ ih.each n x | inr x ↦ r.each n x ];
      last = record {
        here = in_left ih.new r.new (last_from ih.head ih.rest).block ih.last.here;
        page = ih.last.page;
        was = ih.last.was;
        commit_is = ih.last.commit_is;
        members_is = ih.last.members_is;
      };
      rewritten = λ commit members tail extra rw ends later clear off.
          let agree : Agree c d r.new = λ n h. rw.others n (λ i. beside n (subst (IsIn ih.new) (sym i) ih.last.here) (in_left r.new seen n h)) in
          let one : here_from d count object row later ≡ Ok (f.versions, r.new ++ later) = r.anywhere later (λ n h g. clear n (in_right ih.new r.new n h) g) agree in
          let apart_rest : Apart ih.new (r.new ++ later) =
          λ n h g. elim (in_either r.new later n g) [ inl x ↦ beside n h (in_left r.new seen n x) | inr x ↦ clear n (in_left ih.new r.new n h) x ] in
          let along : ih.new ++ (r.new ++ later) ≡ (ih.new ++ r.new) ++ later = sym (append_assoc ih.new r.new later) in
          let go : FilesRan d count (suc object) others (r.new ++ later) (changed_at (file_as commit members (length ih.rest) tail) k f.rest) (extra ++ ih.new) =
          ih.rewritten commit members tail extra rw ends (r.new ++ later) apart_rest (λ n h g. off n h (in_along (ih.new ++ (r.new ++ later)) ((ih.new ++ r.new) ++ later) along n g)) in
          record {
            order = go.order ++ r.new;
            runs =
                files_go d count object row others later (r.new ++ later) (go.order ++ (r.new ++ later)) f.versions (changed_at (file_as commit members (length ih.rest) tail) k f.rest) one go.runs
                ∙ ap (λ x. Ok (filed row f.versions ∷ changed_at (file_as commit members (length ih.rest) tail) k f.rest, x)) (sym (append_assoc go.order r.new later))
                ∙ ap (λ x. Ok (changed_at (file_as commit members (length ih.rest) tail) (suc k) x, (go.order ++ r.new) ++ later)) (sym f.list);
            same = λ n. same_append go.order (extra ++ ih.new) r.new go.same n ∙ same_from ((extra ++ ih.new) ++ r.new) (extra ++ (ih.new ++ r.new)) (append_assoc extra ih.new r.new) n;
          };
    }

pub files_again : (c d : Content) (count named object k : ℕ) (file : LaidFile) (rows : List Row) (seen : List ℕ) (files : List LaidFile) (all : List ℕ) (i : ℕ) (v : LaidVersion)
    → object + k ≡ named → files_from (blocks_of c count) object rows seen ≡ Ok (files, all) → slice_get files k ≡ Some file → slice_get file.versions i ≡ Some v
    → FilesAgain c d count named object k file rows seen files all
files_again c d count named object k file [] seen files all i v at e listed is =
    absurd (nothing (ap (λ l. slice_get l k) (no_files c count object seen files all e) ∙ listed))
  where
    nothing : None ≡ Some file → ⊥
    nothing f = cc
files_again c d count named object zero file (row ∷ others) seen files all i v at e listed is =
    first_file c d count named object file row others seen files all i v (omega arith) (files_step c count object row others seen files all e) listed is
files_again c d count named object (suc k) file (row ∷ others) seen files all i v at e listed is =
    later_file c d count named object k file row others seen files all
    (files_step c count object row others seen files all e)
    (λ mid rest goes there. files_again c d count named (suc object) k file others mid rest all i v (omega arith) goes there is) listed
