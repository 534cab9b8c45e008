-- A store after the entry of a file was written that no top is of and no top names, before or after: a file more or a file less.
use Rattle.std.proofs.Common.{◌≡◌, ◌⊎◌, inl, inr, ℕ, suc, ◌+◌, nat_le, List, [], ◌++◌, map, Some, Ok, refl, sym, ap, ◌∙◌, arith, slice_get}
use Rattle.tree_model.specs.States.{State, File}
use Rattle.page_codec.specs.Values.{EntryValue, RootValue}
use Rattle.store_model.specs.Laid.{LaidFile, last_laid}
use Rattle.store_model.specs.Tables.{Row, table_rows, files_from}
use Rattle.store_model.specs.Members.{top_of, tops_from, tops_linked}
use Rattle.store_model.specs.Found.{LaidStore, laid, file_in, state_in}
use Rattle.store_model.specs.Changes.{changed_at}
use Rattle.store_model.proofs.PlaceLists.{IsIn, Apart, in_left, in_right, in_either, in_along}
use Rattle.store_model.proofs.Steps.{Content, blocks_of}
use Rattle.store_model.proofs.Edits.{map_changes}
use Rattle.store_model.proofs.Stores.{Parts, made_again, unlinked, store_of, TopsSplit, tops_split}
use Rattle.store_model.proofs.Aside.{objects_in, Passes, with_file, Step, AsideRan, tops_step}
use Rattle.store_changes.specs.Writes.{put_at}
use Rattle.store_changes.proofs.Entries.{Asked, filed, entries_in, FilesGo, rows_alike}
use Rattle.store_changes.proofs.Tables.{Written}
use Rattle.store_changes.proofs.Wider.{Wider}

-- the row of an entry; which block names its version is of no account
abbrev pub row_of : EntryValue → Row
row_of entry = record { entry = entry; block = 0 }

pub entries_put : (entry : EntryValue) (k : ℕ) (rows : List Row) → entries_in (put_at (row_of entry) k rows) ≡ put_at entry k (entries_in rows)
entries_put entry k rows = map_changes (λ (row : Row). row.entry) (λ _. row_of entry) (λ _. entry) k rows (λ x. refl)

-- a state by its parts
abbrev pub state_of_root : ℕ → ℕ → ℕ → List File → State
state_of_root format blocks key files = record { format = format; blocks = blocks; key = key; files = files }

pub rooted : (format blocks key : ℕ) (root : RootValue) (files : List File) → root.format ≡ format → root.blocks ≡ blocks → root.key ≡ key
    → state_of_root root.format root.blocks root.key files ≡ state_of_root format blocks key files
rooted format blocks key root files a b c =
    ap (λ n. state_of_root n root.blocks root.key files) a ∙ ap (λ n. state_of_root format n root.key files) b ∙ ap (λ n. state_of_root format blocks n files) c

-- the state of a store with one file changed
pub state_put : (format blocks key : ℕ) (root : RootValue) (file : LaidFile) (k : ℕ) (files : List LaidFile) → root.format ≡ format → root.blocks ≡ blocks → root.key ≡ key
    → state_in (store_of root (put_at file k files)) ≡ state_of_root format blocks key (put_at (file_in file) k (map file_in files))
state_put format blocks key root file k files a b c =
    ap (λ fs. state_of_root root.format root.blocks root.key fs) (map_changes file_in (λ _. file) (λ _. file_in file) k files (λ x. refl))
    ∙ rooted format blocks key root (put_at (file_in file) k (map file_in files)) a b c

-- the store that is found, and where its places come from
pub record QuietSwap (c d : Content) (most : ℕ) (store : LaidStore) (places : List ℕ) (p : Parts c most store places) (root : RootValue) (k : ℕ) (file : LaidFile)
    (in_files in_all after : List ℕ) : Type 0 where
  pub order : List ℕ
  pub lies : laid d most [] ≡ Ok (store_of root (put_at file k p.linked.files), order)
  pub kept : slice_get p.linked.files k ≡ slice_get p.files k
  pub from : (n : ℕ) → IsIn order n → (IsIn in_all n × (IsIn in_files n → ⊥)) ⊎ IsIn after n
  pub into : (n : ℕ) → IsIn after n → IsIn order n
  pub tops : (n : ℕ) → IsIn in_all n → IsIn in_files n ⊎ IsIn order n

pub quiet_swap : (c d : Content) (most : ℕ) (store : LaidStore) (places : List ℕ) (p : Parts c most store places) (format k : ℕ) (entry : EntryValue) (Extra : ℕ → Type 0)
    (w : Written c d p.root format (put_at entry k (entries_in p.rows)) p.in_table Extra) (wd : Wider c most store places p w.places Extra) (file : LaidFile) (q : Asked)
    → slice_get p.files k ≡ Some file → (go : FilesGo d p.root.blocks 1 k p.rows (row_of entry) q p.files w.places wd.in_files w.places)
    → top_of (suc k) (last_laid file.versions) ≡ [] → top_of (suc k) (last_laid go.versions) ≡ []
    → Passes k (objects_in (tops_from 1 p.files)) (unlinked p.files) → ((n : ℕ) → q.New n → IsIn wd.in_all n → ⊥)
    → QuietSwap c d most store places p w.after k (filed (row_of entry) go.versions) wd.in_files wd.in_all go.after
quiet_swap c d most store places p format k entry Extra w wd file q listed go no_old no_new passes new_off =
    let N : ℕ = p.root.blocks in
    let at_k : 1 + k ≡ suc k = omega arith in
    let g : LaidFile → LaidFile = λ _. filed (row_of entry) go.versions in
    let ts : TopsSplit k (suc k) 1 p.files file = tops_split k (suc k) 1 p.files file at_k listed in
    let tops : tops_from 1 (changed_at g k p.files) ≡ tops_from 1 p.files =
    ts.other g ∙ ap (λ x. ts.before ++ (x ++ ts.after)) (no_new ∙ sym no_old) ∙ sym ts.is in
    let st : Step c d N k (tops_linked (blocks_of d N) (tops_from 1 p.files)) (objects_in (tops_from 1 p.files)) (unlinked p.files) wd.in_files p.linked wd.in_all =
    tops_step c d N k (tops_from 1 p.files) (unlinked p.files) wd.in_files p.linked wd.in_all passes wd.tops in
    let st_in : (n : ℕ) → IsIn st.new n → IsIn wd.in_all n = λ n i. in_along (st.new ++ wd.in_files) wd.in_all (sym st.grown) n (in_left st.new wd.in_files n i) in
    let clear : Apart st.new go.after =
    λ n i j. elim (go.only n j) [
      | inl x ↦ st.apart n i (wd.table_in n x)
      | inr x ↦ elim x [ inl y ↦ st.apart n i y | inr y ↦ new_off n y (st_in n i) ]
    ] in
    let ran : AsideRan (tops_linked (blocks_of d N) (tops_from 1 p.files) (with_file g k [] (unlinked p.files))) g k [] go.after st.new (unlinked p.files) p.linked =
    st.aside g [] go.after (λ n h i. i) clear (λ n i. w.agree n (st.each n i).0 (λ t. st.apart n i (wd.table_in n t))) in
    let chains : files_from (blocks_of d N) 1 w.rows w.places ≡ Ok (changed_at g k p.files, go.after) =
    rows_alike d N 1 (put_at (row_of entry) k p.rows) w.rows w.places (changed_at g k p.files) go.after (w.are ∙ sym (entries_put entry k p.rows)) go.runs in
    let linked : tops_linked (blocks_of d N) (tops_from 1 (changed_at g k p.files)) (unlinked (changed_at g k p.files)) go.after ≡ Ok (with_file g k ran.names p.linked, st.new ++ go.after) =
    ap (λ tops. tops_linked (blocks_of d N) tops (unlinked (changed_at g k p.files)) go.after) tops ∙ ran.runs in
    record {
      order = st.new ++ go.after;
      lies = made_again d most w.bytes w.after w.rows (changed_at g k p.files) (with_file g k ran.names p.linked) w.places go.after (st.new ++ go.after) w.holds w.reads
          (ap (λ n. nat_le n most) w.blocks_is ∙ p.few)
          (ap (λ n. table_rows (blocks_of d n) w.after []) w.blocks_is ∙ w.table)
          (ap (λ n. files_from (blocks_of d n) 1 w.rows w.places) w.blocks_is ∙ chains)
          (ap (λ n. tops_linked (blocks_of d n) (tops_from 1 (changed_at g k p.files)) (unlinked (changed_at g k p.files)) go.after) w.blocks_is ∙ linked);
      kept = st.kept;
      from = λ n i. elim (in_either st.new go.after n i) [ inl x ↦ inl (st_in n x, st.apart n x) | inr x ↦ inr x ];
      into = λ n i. in_right st.new go.after n i;
      tops = λ n i. elim (in_either st.new wd.in_files n (in_along wd.in_all (st.new ++ wd.in_files) st.grown n i)) [
        | inl x ↦ inr (in_left st.new go.after n x)
        | inr x ↦ inl x
      ];
    }
