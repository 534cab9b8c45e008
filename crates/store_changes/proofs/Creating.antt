-- A file more.
use Rattle.std.proofs.Common.{◌≡◌, ◌≢◌, ◌⊎◌, inl, inr, ℕ, zero, suc, ◌+◌, ◌<◌, ◌≤◌, nat_le, nat_lt, List, [], ◌∷◌, map, replicate, Option, Some, None, Ok, refl, sym, ap, ◌∙◌, subst, arith, eq-eqb, true≢false, slice_get}
use Rattle.std.specs.Option.{option_and_then}
use Rattle.std.proofs.lemmas.Bool.{le-leb, lt-ltb}
use Rattle.tree_model.proofs.Paths.{both_true}
use Rattle.tree_model.specs.States.{State}
use Rattle.page_codec.specs.Blank.{empty_reference, empty_slots}
use Rattle.page_codec.specs.Values.{EntryValue}
use Rattle.page_codec.specs.Causes.{version_of}
use Rattle.page_codec.specs.NewStore.{new_version}
use Rattle.store_model.specs.Walk.{bind, done, if_some}
use Rattle.store_model.specs.Laid.{LaidVersion, last_laid}
use Rattle.store_model.specs.Pages.{slot_from, slots_from, pages_below}
use Rattle.store_model.specs.Chains.{version_at, chain_from, chain_at}
use Rattle.store_model.specs.Tables.{Row}
use Rattle.store_model.specs.Members.{top_of, tops_from}
use Rattle.store_model.specs.Found.{LaidStore, laid, version_in, state_in}
use Rattle.store_model.specs.Laws.{read_of}
use Rattle.store_model.specs.Changes.{version_in_block}
use Rattle.store_model.proofs.PlaceLists.{IsIn, in_head, in_tail, in_cons, in_along}
use Rattle.store_model.proofs.Steps.{blocks_of, went_on, same_places}
use Rattle.store_model.proofs.Rewriting.{Bytes, bytes_of, made_of, version_made}
use Rattle.store_model.proofs.Chaining.{chain_stops, chain_again}
use Rattle.store_model.proofs.Edits.{changed_other, changed_same}
use Rattle.store_model.proofs.Stores.{Parts, parts_of, unlinked, store_of}
use Rattle.store_changes.specs.Writes.{Content, put_at, WritesEntry, InNewPart}
use Rattle.store_changes.specs.Stands.{Stands, Another, IsPlace}
use Rattle.store_changes.specs.Stands as stands
use Rattle.store_changes.specs.Creating.{NewFile, file_made, Created}
use Rattle.store_changes.proofs.Entries.{here_from, filed, entries_in, Asked, HereAt, FilesGo, files_swap, RowOf, row_of_file}
use Rattle.store_changes.proofs.Dead.{IsDead, tops_avoid, dead_before}
use Rattle.store_changes.proofs.Tables.{Written, entry_written, part_written}
use Rattle.store_changes.proofs.Wider.{Wider, widened, table_within}
use Rattle.store_changes.proofs.Quiet.{row_of, state_put, QuietSwap, quiet_swap}

-- ---- a first version without pages below `/`

-- empty slots name nothing
slots_empty : (c : Content) (count block slot n depth : ℕ) (path seen : List ℕ)
    → slots_from (blocks_of c count) (pages_below (blocks_of c count) None depth) None block path slot (replicate n empty_reference) seen ≡ Ok ([], seen)
unfolding slots_from slot_from bind done
slots_empty c count block slot zero depth path seen = refl
slots_empty c count block slot (suc n) depth path seen =
    went_on (slots_from (blocks_of c count) (pages_below (blocks_of c count) None depth) None block path (suc slot) (replicate n empty_reference))
    (λ rest. done rest) seen [] seen (Ok ([], seen)) (slots_empty c count block (suc slot) n depth path seen) refl

nothing_below : (c : Content) (count block : ℕ) (seen : List ℕ) → pages_below (blocks_of c count) None 7 block [] empty_slots seen ≡ Ok ([], seen)
unfolding pages_below empty_slots
nothing_below c count block seen = slots_empty c count block 0 16 6 [] seen

-- the version as it lies
abbrev blank : ℕ → ℕ → LaidVersion
blank object block = made_of block (new_version object) []

blank_read : (c : Content) (count namer object block : ℕ) (seen : List ℕ) → 1 ≤ block → block < count → (IsIn seen block → ⊥)
    → version_in_block c block ≡ Some (new_version object) → chain_at (blocks_of c count) object namer block seen ≡ Ok (blank object block ∷ [], block ∷ seen)
unfolding chain_at
blank_read c count namer object block seen low high fresh is =
    let b : Bytes (c block) (new_version object) = bytes_of (c block) (new_version object) is in
    went_on (version_at (blocks_of c count) object namer block None) (chain_from (blocks_of c count) object count) seen (blank object block) (block ∷ seen)
    (Ok (blank object block ∷ [], block ∷ seen))
    (version_made c count object namer block None seen (block ∷ seen) b.bytes (new_version object) []
    (both_true (nat_le 1 block) (nat_lt block count) (le-leb 1 block low) (lt-ltb block count high)) fresh b.holds b.reads (eq-eqb object object refl) tt refl
    (nothing_below c count block (block ∷ seen)))
    (chain_stops c count object count (blank object block) (block ∷ seen) refl)

-- ---- its entry

no_first : (c : Content) (count object : ℕ) (row : Row) (seen all : List ℕ) (versions : List LaidVersion)
    → here_from c count object row seen ≡ Ok (versions, all) → versions ≡ [] → row.entry.first ≡ None
unfolding if_some
no_first c count object row seen all versions e none = of row.entry.first refl e
  where
    of : (o : Option ℕ) → row.entry.first ≡ o → if_some o (λ block. chain_at (blocks_of c count) object row.block block) seen ≡ Ok (versions, all) → row.entry.first ≡ None
    of None is h = is
    of (Some b) is h = let ch = chain_again c c count object row.block b seen versions all h in let clash : ch.head ∷ ch.rest ≡ [] = sym ch.list ∙ none in absurd cc

nothing_here : (c : Content) (count object : ℕ) (row : Row) (seen all : List ℕ) (versions : List LaidVersion)
    → row.entry.first ≡ None → here_from c count object row seen ≡ Ok (versions, all) → seen ≡ all
unfolding if_some done
nothing_here c count object row seen all versions none e =
    same_places seen all [] versions (sym (ap (λ o. if_some o (λ block. chain_at (blocks_of c count) object row.block block) seen) none) ∙ e)

pub some_goes : (c : Content) (count object block : ℕ) (seen : List ℕ) (vs : List LaidVersion) (all : List ℕ)
    → chain_at (blocks_of c count) object 0 block seen ≡ Ok (vs, all) → if_some (Some block) (λ b. chain_at (blocks_of c count) object 0 b) seen ≡ Ok (vs, all)
unfolding if_some
some_goes c count object block seen vs all e = e

-- a place more, with one version in it
abbrev one_more : ℕ → LaidVersion → Asked
one_more block v =
    record {
      New = λ n. n ≡ block;
      Old = λ _. ⊥;
      Still = λ _. ⊥;
      Gives = λ versions from. (versions ≡ v ∷ []) × IsIn from block;
    }

-- what a creation comes to, for whatever lies in the table besides
creates : (c d : Content) (most : ℕ) (store : LaidStore) (places : List ℕ) (p : Parts c most store places) (object block : ℕ) (Extra : ℕ → Type 0)
    → NewFile c (store_of p.root p.linked.files) places object block → (entry : EntryValue) → entry.first ≡ Some block
    → (w : Written c d p.root p.root.format (put_at entry object (entries_in p.rows)) p.in_table Extra) → ((n : ℕ) → Extra n → IsIn places n → ⊥) → (Extra block → ⊥)
    → Created d most (store_of p.root p.linked.files) object block entry (λ n. IsPlace places n ⊎ ((n ≡ block) ⊎ Extra n))
creates c d most store places p object block Extra new entry first w free other =
    let N : ℕ = p.root.blocks in
    let wd : Wider c most store places p w.places Extra = widened c most store places p w.places Extra w.has w.only free in
    let before : slice_get p.files object ≡ Some new.file =
    dead_before c N object (tops_from 1 p.files) (unlinked p.files) wd.in_files p.linked wd.in_all new.file wd.tops new.listed new.dead in
    let dead : IsDead object p.files = record { file = new.file; listed = before; none = ap last_laid new.dead } in
    let ro : RowOf object p.rows new.file = row_of_file c N 1 object p.rows w.places p.files wd.in_files new.file wd.chains before in
    let off : IsIn wd.in_all block → ⊥ = λ h. elim (wd.only block h) [ inl x ↦ true≢false (sym x ∙ new.free) | inr x ↦ other x ] in
    let low : 1 ≤ block = new.low in
    let same : c block ≡ d block = w.agree block low (λ t. off (wd.files_in block (wd.table_in block t))) in
    let page : version_in_block d block ≡ Some (new_version (suc object)) = ap (option_and_then (λ bytes. read_of (version_of bytes))) (sym same) ∙ new.page in
    let v : LaidVersion = blank (1 + object) block in
    let here : HereAt c d N (1 + object) ro.row (row_of entry) new.file (one_more block v) w.places wd.in_files =
    λ start mid later read above into under.
    let none : ro.row.entry.first ≡ None = no_first c N (1 + object) ro.row start mid new.file.versions read new.dead in
    let stays : start ≡ mid = nothing_here c N (1 + object) ro.row start mid new.file.versions none read in
    let all_in : (n : ℕ) → IsIn later n → IsIn wd.in_all n = λ n i. wd.files_in n (into n (in_along start mid stays n (under n i))) in
    record {
      versions = v ∷ [];
      after = block ∷ later;
      runs = ap (λ o. if_some o (λ b. chain_at (blocks_of d N) (1 + object) 0 b) later) first
          ∙ some_goes d N (1 + object) block later (v ∷ []) (block ∷ later)
          (blank_read d N 0 (1 + object) block later low new.high (λ h. off (all_in block h)) (page ∙ ap (λ o. Some (new_version o)) (let e : suc object ≡ 1 + object = omega arith in e)));
      gives = (refl, in_head block later);
      only = λ n i. elim (in_cons block n later i) [
        | inl x ↦ inr (x, λ h. absurd (off (wd.files_in block (subst (IsIn wd.in_files) x h))))
        | inr x ↦ inl x
      ];
      more = λ n i. in_tail block n later i;
      old = λ n o. absurd o;
      still = λ n i o. absurd o;
      rest = λ n i. inl (in_along mid start (sym stays) n i);
    } in
    let go : FilesGo d N 1 object p.rows (row_of entry) (one_more block v) p.files w.places wd.in_files w.places =
    files_swap c d N 1 object w.places p.rows ro.row (row_of entry) new.file (one_more block v) w.places p.files wd.in_files w.places wd.chains ro.at before w.agree
    (λ n i. i) (λ n i. i) here in
    let qs : QuietSwap c d most store places p w.after object (filed (row_of entry) go.versions) wd.in_files wd.in_all go.after =
    quiet_swap c d most store places p p.root.format object entry Extra w wd new.file (one_more block v) before go
    (ap (λ vs. top_of (suc object) (last_laid vs)) new.dead) (ap (λ vs. top_of (suc object) (last_laid vs)) go.gives.0)
    (inr (inl (tops_avoid c N object (tops_from 1 p.files) (unlinked p.files) wd.in_files p.linked wd.in_all dead wd.tops)))
    (λ n is h. off (subst (IsIn wd.in_all) is h)) in
    record {
      stands = record {
        store = store_of w.after (put_at (filed (row_of entry) go.versions) object p.linked.files);
        order = qs.order;
        lies = qs.lies;
        is = state_put p.root.format p.root.blocks p.root.key w.after (filed (row_of entry) go.versions) object p.linked.files w.format_is w.blocks_is w.key_is
            ∙ ap (λ (vs : List LaidVersion). stands.with_file object (record { generation = entry.generation; secret = entry.secret; versions = map version_in vs }) (state_in (store_of p.root p.linked.files))) go.gives.0;
        places = λ n. (
          λ i. elim (qs.from n i) [
            | inl x ↦ elim (wd.only n x.0) [ inl y ↦ inl y | inr y ↦ inr (inr y) ]
            | inr x ↦ elim (go.only n x) [
              | inl y ↦ elim (wd.only n (wd.files_in n (wd.table_in n y))) [ inl z ↦ inl z | inr z ↦ inr (inr z) ]
              | inr y ↦ elim y [ inl z ↦ elim (wd.only n (wd.files_in n z)) [ inl a ↦ inl a | inr a ↦ inr (inr a) ] | inr z ↦ inr (inl z) ]
            ]
          ],
          λ i. elim i [
            | inl x ↦ elim (qs.tops n (wd.has n x)) [
              | inl y ↦ qs.into n (elim (go.rest n y) [ inl z ↦ go.more n z | inr z ↦ elim z [ inl a ↦ a | inr a ↦ absurd a.0 ] ])
              | inr y ↦ y
            ]
            | inr x ↦ elim x [
              | inl y ↦ subst (IsIn qs.order) (sym y) (qs.into block (go.into block go.gives.1))
              | inr y ↦ qs.into n (go.more n (w.extra n y))
            ]
          ],
        );
        beside = λ j file apart at. changed_other (λ _. filed (row_of entry) go.versions) object j p.linked.files apart ∙ at;
      };
      file = filed (row_of entry) go.versions;
      version = v;
      listed = changed_same (λ _. filed (row_of entry) go.versions) object p.linked.files new.file new.listed;
      entry_is = refl;
      one = go.gives.0;
      block_is = refl;
    }

-- the same of other words for the same blocks
pub stands_as : (content : Content) (most : ℕ) (old : LaidStore) (Other : ℕ → Type 0) (state : State) (P Q : ℕ → Type 0) → ((n : ℕ) → P n → Q n) → ((n : ℕ) → Q n → P n)
    → Stands content most old Other state P → Stands content most old Other state Q
stands_as content most old Other state P Q f g s =
    record { store = s.store; order = s.order; lies = s.lies; is = s.is; places = λ n. (λ h. f n ((s.places n).0 h), λ h. (s.places n).1 (g n h)); beside = s.beside }

created_as : (content : Content) (most : ℕ) (old : LaidStore) (object block : ℕ) (entry : EntryValue) (P Q : ℕ → Type 0) → ((n : ℕ) → P n → Q n) → ((n : ℕ) → Q n → P n)
    → Created content most old object block entry P → Created content most old object block entry Q
unfolding stands_as
created_as content most old object block entry P Q f g s =
    record {
      stands = stands_as content most old (Another object) (stands.with_file object (file_made entry) (state_in old)) P Q f g s.stands;
      file = s.file;
      version = s.version;
      listed = s.listed;
      entry_is = s.entry_is;
      one = s.one;
      block_is = s.block_is;
    }

pub creating_adds : (c d : Content) (most : ℕ) (store : LaidStore) (places : List ℕ) → laid c most [] ≡ Ok (store, places)
    → (object block : ℕ) → NewFile c store places object block → (entry : EntryValue) → entry.first ≡ Some block → WritesEntry c d store.root object entry
    → Created d most store object block entry (λ n. IsPlace places n ⊎ (n ≡ block))
creating_adds c d most store places e object block =
    let p : Parts c most store places = parts_of c most store places e in
    subst
    (λ (s : LaidStore). NewFile c s places object block → (entry : EntryValue) → entry.first ≡ Some block → WritesEntry c d s.root object entry
    → Created d most s object block entry (λ n. IsPlace places n ⊎ (n ≡ block)))
    (sym p.made)
    (λ new entry first w.
    created_as d most (store_of p.root p.linked.files) object block entry
    (λ n. IsPlace places n ⊎ ((n ≡ block) ⊎ ⊥)) (λ n. IsPlace places n ⊎ (n ≡ block))
    (λ n h. elim h [ inl x ↦ inl x | inr x ↦ elim x [ inl y ↦ inr y | inr y ↦ absurd y ] ]) (λ n h. elim h [ inl x ↦ inl x | inr x ↦ inr (inl x) ])
    (creates c d most store places p object block (λ _. ⊥) new entry first
    (entry_written c d p.root p.held p.rows p.in_table object entry p.holds p.reads p.table w) (λ n h _. h) (λ h. h)))

pub creating_adds_part : (c d : Content) (most : ℕ) (store : LaidStore) (places : List ℕ) → laid c most [] ≡ Ok (store, places)
    → (object block : ℕ) → NewFile c store places object block → (entry : EntryValue) → entry.first ≡ Some block
    → (new : InNewPart c d store.root places object entry) → new.block ≢ block
    → Created d most store object block entry (λ n. IsPlace places n ⊎ ((n ≡ block) ⊎ (n ≡ new.block)))
creating_adds_part c d most store places e object block =
    let p : Parts c most store places = parts_of c most store places e in
    subst
    (λ (s : LaidStore). NewFile c s places object block → (entry : EntryValue) → entry.first ≡ Some block
    → (new : InNewPart c d s.root places object entry) → new.block ≢ block
    → Created d most s object block entry (λ n. IsPlace places n ⊎ ((n ≡ block) ⊎ (n ≡ new.block))))
    (sym p.made)
    (λ new entry first w apart.
    creates c d most store places p object block (λ n. n ≡ w.block) new entry first
    (part_written c d p.root places p.rows p.in_table object entry p.table (table_within c most store places p) w)
    (λ n h i. true≢false (sym (subst (IsIn places) h i) ∙ w.free)) (λ h. apart (sym h)))
