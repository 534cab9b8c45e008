-- A file less.
use Rattle.std.proofs.Common.{◌≡◌, inl, inr, ℕ, suc, ◌+◌, true, cond, List, [], ◌∷◌, map, Option, Some, None, Ok, refl, sym, ap, ◌∙◌, subst, slice_get}
use Rattle.page_codec.specs.Values.{EntryValue}
use Rattle.store_model.specs.Walk.{done, if_some}
use Rattle.store_model.specs.Laid.{LaidVersion, LaidFile, last_laid}
use Rattle.store_model.specs.Chains.{chain_at}
use Rattle.store_model.specs.Tables.{Row}
use Rattle.store_model.specs.Members.{Top, names_none, top_of, tops_from, tops_linked}
use Rattle.store_model.specs.Found.{LaidStore, laid, version_in, state_in}
use Rattle.store_model.proofs.PlaceLists.{IsIn}
use Rattle.store_model.proofs.Steps.{blocks_of, same_value, same_places}
use Rattle.store_model.proofs.Edits.{changed_other}
use Rattle.store_model.proofs.Stores.{Parts, parts_of, unlinked, store_of}
use Rattle.store_model.proofs.Aside.{objects_in, Passes, Step, tops_step}
use Rattle.store_model.proofs.TopsNamed.{unnamed_by}
use Rattle.store_changes.specs.Writes.{Content, put_at, WritesEntry}
use Rattle.store_changes.specs.Stands.{Stands, Another, IsPlace, IsPageOfAny}
use Rattle.store_changes.specs.Stands as stands
use Rattle.store_changes.specs.Destroying.{IsUntied, file_gone}
use Rattle.store_changes.proofs.Entries.{here_from, filed, entries_in, Asked, HereAt, FilesGo, files_swap, RowOf, row_of_file}
use Rattle.store_changes.proofs.Reached.{Covers, PageOfSome, to_any, from_any, chain_covered}
use Rattle.store_changes.proofs.Tables.{Written, entry_written}
use Rattle.store_changes.proofs.Wider.{Wider, widened}
use Rattle.store_changes.proofs.Quiet.{row_of, state_put, QuietSwap, quiet_swap}

-- the places that an entry leads to are blocks of pages of its file
pub here_covered : (c : Content) (count object : ℕ) (row : Row) (start : List ℕ) (vs : List LaidVersion) (mid : List ℕ)
    → here_from c count object row start ≡ Ok (vs, mid) → Covers start (PageOfSome vs) mid
unfolding if_some done
here_covered c count object row start vs mid e = of row.entry.first e
  where
    of : (o : Option ℕ) → if_some o (λ block. chain_at (blocks_of c count) object row.block block) start ≡ Ok (vs, mid) → Covers start (PageOfSome vs) mid
    of None h =
        subst (λ l. Covers start (PageOfSome l) mid) (same_value start mid [] vs h)
        (subst (λ l. Covers start (λ _. ⊥) l) (same_places start mid [] vs h) (record { pages = λ n x. absurd x; only = λ n i. inl i }))
    of (Some b) h = chain_covered c count object row.block b start vs mid h

nothing_goes : (d : Content) (count object : ℕ) (later : List ℕ) → if_some None (λ b. chain_at (blocks_of d count) object 0 b) later ≡ Ok ([], later)
unfolding if_some done
nothing_goes d count object later = refl

-- no version any more, and the blocks of all its pages go
abbrev none_left : LaidFile → Asked
none_left file = record { New = λ _. ⊥; Old = PageOfSome file.versions; Still = λ _. ⊥; Gives = λ versions from. versions ≡ [] }

destroys : (c d : Content) (most : ℕ) (store : LaidStore) (places : List ℕ) (p : Parts c most store places) (object : ℕ) (file : LaidFile)
    → slice_get p.linked.files object ≡ Some file → ((last : LaidVersion) → last_laid file.versions ≡ Some last → names_none last ≡ true)
    → (IsIn (objects_in (tops_from 1 p.files)) (suc object) → ⊥) → (entry : EntryValue) → entry.first ≡ None → WritesEntry c d p.root object entry
    → Stands d most (store_of p.root p.linked.files) (Another object) (stands.with_file object (file_gone entry) (state_in (store_of p.root p.linked.files)))
    (λ n. IsPlace places n × (IsPageOfAny file.versions n → ⊥))
destroys c d most store places p object file in_store none off entry first written =
    let N : ℕ = p.root.blocks in
    let w : Written c d p.root p.root.format (put_at entry object (entries_in p.rows)) p.in_table (λ _. ⊥) =
    entry_written c d p.root p.held p.rows p.in_table object entry p.holds p.reads p.table written in
    let wd : Wider c most store places p w.places (λ _. ⊥) = widened c most store places p w.places (λ _. ⊥) w.has w.only (λ n h _. h) in
    let passes : Passes object (objects_in (tops_from 1 p.files)) (unlinked p.files) = inr (inl off) in
    let st : Step c c N object (tops_linked (blocks_of c N) (tops_from 1 p.files)) (objects_in (tops_from 1 p.files)) (unlinked p.files) wd.in_files p.linked wd.in_all =
    tops_step c c N object (tops_from 1 p.files) (unlinked p.files) wd.in_files p.linked wd.in_all passes wd.tops in
    let listed : slice_get p.files object ≡ Some file = sym st.kept ∙ in_store in
    let ro : RowOf object p.rows file = row_of_file c N 1 object p.rows w.places p.files wd.in_files file wd.chains listed in
    let in_places : (n : ℕ) → IsIn wd.in_all n → IsIn places n = λ n h. elim (wd.only n h) [ inl x ↦ x | inr x ↦ absurd x ] in
    let here : HereAt c d N (1 + object) ro.row (row_of entry) file (none_left file) w.places wd.in_files =
    λ start mid later read above into under.
    let cv : Covers start (PageOfSome file.versions) mid = here_covered c N (1 + object) ro.row start file.versions mid read in
    record {
      versions = [];
      after = later;
      runs = ap (λ o. if_some o (λ b. chain_at (blocks_of d N) (1 + object) 0 b) later) first ∙ nothing_goes d N (1 + object) later;
      gives = refl;
      only = λ n i. inl i;
      more = λ n i. i;
      old = cv.pages;
      still = λ n i o. (cv.pages n o).1 (under n i);
      rest = λ n i. elim (cv.only n i) [ inl x ↦ inl x | inr x ↦ inr (inr (x, λ b. b)) ];
    } in
    let go : FilesGo d N 1 object p.rows (row_of entry) (none_left file) p.files w.places wd.in_files w.places =
    files_swap c d N 1 object w.places p.rows ro.row (row_of entry) file (none_left file) w.places p.files wd.in_files w.places wd.chains ro.at listed w.agree
    (λ n i. i) (λ n i. i) here in
    let qs : QuietSwap c d most store places p w.after object (filed (row_of entry) go.versions) wd.in_files wd.in_all go.after =
    quiet_swap c d most store places p p.root.format object entry (λ _. ⊥) w wd file (none_left file) listed go (no_top object (last_laid file.versions) none)
    (ap (λ vs. top_of (suc object) (last_laid vs)) go.gives) passes (λ n h i. h) in
    record {
      store = store_of w.after (put_at (filed (row_of entry) go.versions) object p.linked.files);
      order = qs.order;
      lies = qs.lies;
      is = state_put p.root.format p.root.blocks p.root.key w.after (filed (row_of entry) go.versions) object p.linked.files w.format_is w.blocks_is w.key_is
          ∙ ap (λ (vs : List LaidVersion). stands.with_file object (record { generation = entry.generation; secret = entry.secret; versions = map version_in vs }) (state_in (store_of p.root p.linked.files))) go.gives;
      places = λ n. (
        λ i. elim (qs.from n i) [
          | inl x ↦ (in_places n x.0, λ page. x.1 (go.old n (from_any file.versions n page)).0)
          | inr x ↦ (
            elim (go.only n x) [
              | inl y ↦ in_places n (wd.files_in n (wd.table_in n y))
              | inr y ↦ elim y [ inl z ↦ in_places n (wd.files_in n z) | inr z ↦ absurd z ]
            ],
            λ page. go.still n x (from_any file.versions n page),
          )
        ],
        λ i. elim (qs.tops n (wd.has n i.0)) [
          | inl y ↦ elim (go.rest n y) [
            | inl z ↦ qs.into n (go.more n z)
            | inr z ↦ elim z [ inl a ↦ qs.into n a | inr a ↦ absurd (i.1 (to_any file.versions n a.0)) ]
          ]
          | inr y ↦ y
        ],
      );
      beside = λ j other apart at. changed_other (λ _. filed (row_of entry) go.versions) object j p.linked.files apart ∙ at;
    }
  where
    no_top : (k : ℕ) (o : Option LaidVersion) → ((last : LaidVersion) → o ≡ Some last → names_none last ≡ true) → top_of (suc k) o ≡ []
    no_top k None h = refl
    no_top k (Some last) h = ap (λ b. cond b [] ((let x : Top = record { object = suc k; version = last } in x) ∷ [])) (h last refl)

pub destroying_removes : (c d : Content) (most : ℕ) (store : LaidStore) (places : List ℕ) → laid c most [] ≡ Ok (store, places)
    → (object : ℕ) (file : LaidFile) → slice_get store.files object ≡ Some file → IsUntied store object file
    → (entry : EntryValue) → entry.first ≡ None → WritesEntry c d store.root object entry
    → Stands d most store (Another object) (stands.with_file object (file_gone entry) (state_in store)) (λ n. IsPlace places n × (IsPageOfAny file.versions n → ⊥))
destroying_removes c d most store places e object file listed untied entry first =
    let p : Parts c most store places = parts_of c most store places e in
    let off : IsIn (objects_in (tops_from 1 p.files)) (suc object) → ⊥ = unnamed_by c most store places p (suc object) untied.unnamed in
    subst
    (λ (s : LaidStore). WritesEntry c d s.root object entry
    → Stands d most s (Another object) (stands.with_file object (file_gone entry) (state_in s)) (λ n. IsPlace places n × (IsPageOfAny file.versions n → ⊥)))
    (sym p.made)
    (λ w. destroys c d most store places p object file (ap (λ (s : LaidStore). slice_get s.files object) (sym p.made) ∙ listed) untied.none off entry first w)
