-- Fewer versions of a file.
use Rattle.std.proofs.Common.{◌≡◌, ◌⊎◌, ◌↔◌, inl, inr, ℕ, zero, suc, ◌+◌, ◌-◌, ◌<◌, ◌≤◌, nat_le, nat_lt, true, false, List, [], ◌∷◌, ◌++◌, length, map, take, drop, Option, Some, None, option_map, Ok, refl, sym, ap, ◌∙◌, subst, arith, slice_get}
use Rattle.std.proofs.lemmas.Bool.{ltb-true, ltb-false}
use Rattle.std.proofs.lemmas.Option.{slice_get-map}
use Rattle.std.specs.FinMap as finmap
use Rattle.tree_model.proofs.Paths.{told}
use Rattle.tree_model.specs.States.{State, File, Version}
use Rattle.page_codec.specs.Values.{EntryValue, RootValue}
use Rattle.store_model.specs.Walk.{done, if_some}
use Rattle.store_model.specs.Laid.{Node, LaidVersion, LaidFile, last_laid}
use Rattle.store_model.specs.Chains.{chain_at}
use Rattle.store_model.specs.Tables.{Row, table_rows, files_from}
use Rattle.store_model.specs.Members.{Linked, tops_from, tops_linked}
use Rattle.store_model.specs.Found.{LaidStore, laid, version_in, file_in, state_in}
use Rattle.store_model.specs.Laws.{pages_of}
use Rattle.store_model.specs.Changes.{changed_at}
use Rattle.store_model.proofs.PlaceLists.{IsIn, Apart, in_left, in_right, in_either, in_along}
use Rattle.store_model.proofs.Steps.{blocks_of, InRange, Ran, same_value}
use Rattle.store_model.proofs.Locality.{framed_tops}
use Rattle.store_model.proofs.Edits.{some_is, none_some, changed_other, changed_same, changed_alike, get_append}
use Rattle.store_model.proofs.FirstPages.{AreFrom, all_fresh}
use Rattle.store_model.proofs.LastVersions.{last_names_none}
use Rattle.store_model.proofs.Stores.{Parts, parts_of, made_again, unlinked, store_of}
use Rattle.store_model.proofs.Aside.{Step, objects_in}
use Rattle.store_changes.specs.Writes.{Content, put_at, WritesEntry}
use Rattle.std.specs.Option.{option_and_then}
use Rattle.store_changes.specs.Stands.{IsPageOf, IsPageOfAny, IsThere, IsThereWhole, own_in}
use Rattle.store_changes.specs.Pruning.{made_first, first_made, pruned_to, state_pruned, Kept, begun_at, Pruned}
use Rattle.store_changes.proofs.Entries.{here_from, filed, entries_in, AgreeBeside, Asked, HereGoes, HereAt, FilesGo, files_swap, RowOf, row_of_file, rows_alike}
use Rattle.store_changes.proofs.Dead.{IsDead, tops_pass, none_after}
use Rattle.store_changes.proofs.Likeness.{HeadLike, own_seen}
use Rattle.store_changes.proofs.ChainAlike.{AllLike}
use Rattle.store_changes.proofs.Reached.{PageOfSome, to_any, from_any}
use Rattle.store_changes.proofs.PrunedChain.{PrunedChain, pruned_chain}
use Rattle.store_changes.proofs.TopsAlike.{LastLike, swapped, with_more, TopsLike, likes_append, tops_alike}
use Rattle.store_changes.proofs.Alike.{get_drop, get_front, drop_front, take_front, map_drop, last_drop, head_same, HeadsLike, heads_of, LikeAt, like_at, AllLikeAt, all_like_at, last_like, versions_same, tops_same, tops_swapped}
use Rattle.store_changes.proofs.Tables.{Written, entry_written}
use Rattle.store_changes.proofs.Trees.{trees_alike, pages_stay}
use Rattle.store_changes.proofs.Wider.{Wider, widened}
use Rattle.store_changes.proofs.Creating.{some_goes}
use Rattle.store_changes.proofs.Quiet.{row_of, entries_put, state_put}

-- ---- the file before its members were looked at

-- the file that is found is one of the table's with versions of members behind it, and the kept version is of the table's
record FileFound (c : Content) (most : ℕ) (store : LaidStore) (places : List ℕ) (p : Parts c most store places) (object place : ℕ) (kept : Kept (store_of p.root p.linked.files) object place) : Type 0 where
  file : LaidFile
  listed : slice_get p.files object ≡ Some file
  more : List LaidVersion
  whole : kept.file ≡ with_more file more
  small : place < length file.versions

last_small : (n : ℕ) → 0 < n → n - 1 < n
last_small n h = omega arith

some_last : (vs : List LaidVersion) → 0 < length vs → (v : LaidVersion) × (last_laid vs ≡ Some v)
some_last vs h = of vs (length vs - 1) (last_small (length vs) h)
  where
    of : (ws : List LaidVersion) (k : ℕ) → k < length ws → (v : LaidVersion) × (slice_get ws k ≡ Some v)
    of [] k h = absurd (omega arith)
    of (w ∷ ws) zero h = (w, refl)
    of (w ∷ ws) (suc k) h = of ws k (omega arith)

file_found : (c : Content) (most : ℕ) (store : LaidStore) (places : List ℕ) (p : Parts c most store places) (object place : ℕ) (kept : Kept (store_of p.root p.linked.files) object place)
    → FileFound c most store places p object place kept
file_found c most store places p object place kept = of (slice_get p.files object) refl
  where
    N : ℕ
    N = p.root.blocks

    found : (file : LaidFile) → slice_get p.files object ≡ Some file → FileFound c most store places p object place kept
    found file listed =
        let tl : TopsLike (tops_linked (blocks_of c N) (tops_from 1 p.files)) object file file (unlinked p.files) p.in_files p.linked places =
        tops_alike c N object (tops_from 1 p.files) file file (unlinked p.files) p.in_files p.linked places listed (λ last e. (last, e, head_same last)) p.tops in
        let whole : kept.file ≡ with_more file tl.more = some_is (sym kept.listed ∙ tl.listed) in
        record { file = file; listed = listed; more = tl.more; whole = whole; small = by tl.more whole (told (nat_lt place (length file.versions))) }
      where
        is_live : 0 < length file.versions
        is_live = live file.versions refl
          where
            live : (vs : List LaidVersion) → file.versions ≡ vs → 0 < length vs
            live (v ∷ vs) is = omega arith
            live [] is =
                let dead : IsDead object p.files = record { file = file; listed = listed; none = ap last_laid is } in
                let st : Step c c N object (tops_linked (blocks_of c N) (tops_from 1 p.files)) (objects_in (tops_from 1 p.files)) (unlinked p.files) p.in_files p.linked places =
                tops_pass c c N object (tops_from 1 p.files) (unlinked p.files) p.in_files p.linked places dead p.tops in
                let same : kept.file ≡ file = some_is (sym kept.listed ∙ st.kept ∙ listed) in
                none_some (sym (ap (λ (x : LaidFile). slice_get x.versions place) same ∙ ap (λ vs. slice_get vs place) is) ∙ kept.kept)

        by : (more : List LaidVersion) → kept.file ≡ with_more file more → (nat_lt place (length file.versions) ≡ true) ⊎ (nat_lt place (length file.versions) ≡ false) → place < length file.versions
        by more whole (inl t) = ltb-true place (length file.versions) t
        by more whole (inr f) =
            let far : length file.versions ≤ place = ltb-false place (length file.versions) f in
            let l : (v : LaidVersion) × (last_laid file.versions ≡ Some v) = some_last file.versions is_live in
            let there : slice_get kept.file.versions (length file.versions - 1) ≡ Some l.0 =
            ap (λ (x : LaidFile). slice_get x.versions (length file.versions - 1)) whole ∙ get_append file.versions more (length file.versions - 1) l.0 l.1 in
            let live : 0 < length file.versions = is_live in
            absurd (kept.linked (length file.versions - 1) l.0 (omega (arith, far, live)) there
            (last_names_none c N p.rows p.in_table p.files p.in_files p.chains object file l.0 listed l.1))

    of : (o : Option LaidFile) → slice_get p.files object ≡ o → FileFound c most store places p object place kept
    of (Some file) is = found file is
    of None is =
        let gone : slice_get p.linked.files object ≡ None = none_after c N object (tops_from 1 p.files) (unlinked p.files) p.in_files p.linked places p.tops is in
        none_some (sym gone ∙ kept.listed)

-- ---- what the entry gives

-- the versions from one on, with that one as the first
record KeptChain (vs : List LaidVersion) (place : ℕ) (first : LaidVersion) (versions : List LaidVersion) : Type 0 where
  again : LaidVersion
  rest : List LaidVersion
  others : List LaidVersion
  is : versions ≡ again ∷ others
  list : drop place vs ≡ first ∷ rest
  like : HeadLike first again
  from : AreFrom [] again.nodes
  likes : AllLike rest others

abbrev fewer : List ℕ → List LaidVersion → ℕ → LaidVersion → Asked
fewer in_files vs place first =
    record {
      New = IsIn in_files;
      Old = PageOfSome (take place vs);
      Still = IsPageOf first;
      Gives = λ versions from. KeptChain vs place first versions;
    }

here_fewer : (c d : Content) (count object place : ℕ) (table : List ℕ) (old : Row) (entry : EntryValue) (vs : List LaidVersion) (first : LaidVersion) (start mid later all in_files : List ℕ)
    → here_from c count object old start ≡ Ok (vs, mid) → slice_get vs place ≡ Some first → entry.first ≡ Some first.block → AgreeBeside c d table
    → ((n : ℕ) → IsIn table n → IsIn start n) → ((n : ℕ) → IsIn later n → IsIn start n) → ((n : ℕ) → IsIn mid n → IsIn in_files n)
    → HereGoes d count object (row_of entry) (fewer in_files vs place first) all start mid later
unfolding if_some done
here_fewer c d count object place table old entry vs first start mid later all in_files read at named agree in_start within into = of old.entry.first read
  where
    of : (o : Option ℕ) → if_some o (λ block. chain_at (blocks_of c count) object old.block block) start ≡ Ok (vs, mid)
        → HereGoes d count object (row_of entry) (fewer in_files vs place first) all start mid later
    of None h = none_some (ap (λ l. slice_get l place) (same_value start mid [] vs h) ∙ at)
    of (Some b) h =
        let pc : PrunedChain d count object 0 (take place vs) first (drop place vs) start mid later =
        pruned_chain c d count object old.block 0 b place table start vs mid first later h at agree in_start within in
        record {
          versions = pc.first ∷ pc.others;
          after = pc.after;
          runs = ap (λ o. if_some o (λ b. chain_at (blocks_of d count) object 0 b) later) named
              ∙ some_goes d count object first.block later (pc.first ∷ pc.others) pc.after pc.runs;
          gives = record { again = pc.first; rest = pc.rest; others = pc.others; is = refl; list = pc.list; like = pc.like; from = pc.from; likes = pc.likes };
          only = λ n i. elim (pc.only n i) [ inl x ↦ inl x | inr x ↦ inr (into n x.0, λ _. x.0) ];
          more = pc.more;
          old = pc.old;
          still = pc.still;
          rest = pc.lost;
        }

-- ---- the file then

-- the last versions of the file before and after are alike
last_kept : (vs : List LaidVersion) (place : ℕ) (first : LaidVersion) (versions : List LaidVersion) → place < length vs → KeptChain vs place first versions
    → (last : LaidVersion) → last_laid vs ≡ Some last → (w : LaidVersion) × (last_laid versions ≡ Some w) × HeadLike last w
last_kept vs place first versions small k last e =
    let r : LikeAt (k.again ∷ k.others) (length (k.again ∷ k.others) - 1) last =
    last_like (first ∷ k.rest) (k.again ∷ k.others) last (k.like, heads_of k.rest k.others k.likes) (ap last_laid (sym k.list) ∙ last_drop place vs small ∙ e) in
    (r.other, ap last_laid k.is ∙ r.listed, r.like)

-- a version as the first of its file
first_is_made : (v w : LaidVersion) → HeadLike v w → AreFrom [] w.nodes → (version_in w).tree ≡ (version_in v).tree → version_in w ≡ made_first (version_in v)
first_is_made v w like from tree =
    ap (λ n. (let x : Version = record { serial = n; tree = (version_in w).tree; fresh = (version_in w).fresh } in x)) (sym like.serial)
    ∙ ap (λ f. (let x : Version = record { serial = v.serial; tree = (version_in w).tree; fresh = f } in x)) (all_fresh [] w from)
    ∙ ap (λ t. (let x : Version = record { serial = v.serial; tree = t; fresh = finmap.keys t } in x)) tree

-- ---- the store

-- the store with the file changed: how it is found, and where its places come from
record PrunedStore (c d : Content) (most : ℕ) (store : LaidStore) (places : List ℕ) (p : Parts c most store places) (root : RootValue) (k : ℕ) (f g : LaidFile)
    (in_files in_all after : List ℕ) : Type 0 where
  more : List LaidVersion
  others : List LaidVersion
  likes : AllLike more others
  listed : slice_get p.linked.files k ≡ Some (with_more f more)
  order : List ℕ
  lies : laid d most [] ≡ Ok (store_of root (put_at (with_more g others) k p.linked.files), order)
  from : (n : ℕ) → IsIn order n → (IsIn in_all n × (IsIn in_files n → ⊥)) ⊎ IsIn after n
  into : (n : ℕ) → IsIn after n → IsIn order n
  tops : (n : ℕ) → IsIn in_all n → IsIn in_files n ⊎ IsIn order n

pruned_store : (c d : Content) (most : ℕ) (store : LaidStore) (places : List ℕ) (p : Parts c most store places) (k : ℕ) (entry : EntryValue) (Extra : ℕ → Type 0)
    (w : Written c d p.root p.root.format (put_at entry k (entries_in p.rows)) p.in_table Extra) (wd : Wider c most store places p w.places Extra) (f : LaidFile) (q : Asked)
    → slice_get p.files k ≡ Some f → (go : FilesGo d p.root.blocks 1 k p.rows (row_of entry) q p.files w.places wd.in_files w.places)
    → ((n : ℕ) → q.New n → IsIn wd.in_files n)
    → (v u : LaidVersion) → last_laid f.versions ≡ Some v → last_laid go.versions ≡ Some u → HeadLike v u
    → PrunedStore c d most store places p w.after k f (filed (row_of entry) go.versions) wd.in_files wd.in_all go.after
pruned_store c d most store places p k entry Extra w wd f q listed go new_in v u last_f last_g like =
    let N : ℕ = p.root.blocks in
    let g : LaidFile = filed (row_of entry) go.versions in
    let last : LastLike f g = λ l e. (u, last_g, subst (λ x. HeadLike x u) (some_is (sym last_f ∙ e)) like) in
    let tl : TopsLike (tops_linked (blocks_of c N) (tops_from 1 p.files)) k f g (unlinked p.files) wd.in_files p.linked wd.in_all =
    tops_alike c N k (tops_from 1 p.files) f g (unlinked p.files) wd.in_files p.linked wd.in_all listed last wd.tops in
    let fin : Linked = swapped k (with_more g tl.others) p.linked in
    let t : Ran c d (InRange N) (tops_linked (blocks_of d N) (tops_from 1 p.files) (swapped k g (unlinked p.files))) wd.in_files fin wd.in_all =
    (framed_tops c d N (tops_from 1 p.files) (swapped k g (unlinked p.files))).runs wd.in_files fin wd.in_all tl.runs in
    let clear : Apart t.new go.after =
    λ n i j. t.apart n i (elim (go.only n j) [ inl x ↦ wd.table_in n x | inr x ↦ elim x [ inl y ↦ y | inr y ↦ new_in n y ] ]) in
    let ran : tops_linked (blocks_of d N) (tops_from 1 p.files) (swapped k g (unlinked p.files)) go.after ≡ Ok (fin, t.new ++ go.after) =
    t.anywhere go.after clear (λ n i. w.agree n (t.each n i).0 (λ x. t.apart n i (wd.table_in n x))) in
    let linked : tops_linked (blocks_of d N) (tops_from 1 (put_at g k p.files)) (unlinked (put_at g k p.files)) go.after ≡ Ok (fin, t.new ++ go.after) =
    ap (λ run. run (unlinked (put_at g k p.files)) go.after)
    (tops_same (blocks_of d N) (tops_from 1 (put_at g k p.files)) (tops_from 1 p.files) (tops_swapped k p.files f g listed v u last_f last_g like))
    ∙ ran in
    let chains : files_from (blocks_of d N) 1 w.rows w.places ≡ Ok (put_at g k p.files, go.after) =
    rows_alike d N 1 (put_at (row_of entry) k p.rows) w.rows w.places (put_at g k p.files) go.after (w.are ∙ sym (entries_put entry k p.rows)) go.runs in
    record {
      more = tl.more;
      others = tl.others;
      likes = tl.likes;
      listed = tl.listed;
      order = t.new ++ go.after;
      lies = made_again d most w.bytes w.after w.rows (put_at g k p.files) fin w.places go.after (t.new ++ go.after) w.holds w.reads
          (ap (λ n. nat_le n most) w.blocks_is ∙ p.few)
          (ap (λ n. table_rows (blocks_of d n) w.after []) w.blocks_is ∙ w.table)
          (ap (λ n. files_from (blocks_of d n) 1 w.rows w.places) w.blocks_is ∙ chains)
          (ap (λ n. tops_linked (blocks_of d n) (tops_from 1 (put_at g k p.files)) (unlinked (put_at g k p.files)) go.after) w.blocks_is ∙ linked);
      from = λ n i. elim (in_either t.new go.after n i) [
        | inl x ↦ inl (in_along (t.new ++ wd.in_files) wd.in_all (sym t.grown) n (in_left t.new wd.in_files n x), t.apart n x)
        | inr x ↦ inr x
      ];
      into = λ n i. in_right t.new go.after n i;
      tops = λ n i. elim (in_either t.new wd.in_files n (in_along wd.in_all (t.new ++ wd.in_files) t.grown n i)) [
        | inl x ↦ inr (in_left t.new go.after n x)
        | inr x ↦ inl x
      ];
    }

-- ---- what it comes to

-- the new store as it was found, with what is known of its file
record Found (c d : Content) (most : ℕ) (places : List ℕ) (old : LaidStore) (object place : ℕ) (kept : Kept old object place) (entry : EntryValue) : Type 0 where
  root : RootValue
  file : LaidFile
  order : List ℕ
  format_is : root.format ≡ old.root.format
  blocks_is : root.blocks ≡ old.root.blocks
  key_is : root.key ≡ old.root.key
  lies : laid d most [] ≡ Ok (store_of root (put_at file object old.files), order)
  entry_is : file.entry ≡ entry
  again : LaidVersion
  rest : List LaidVersion
  others : List LaidVersion
  versions : file.versions ≡ again ∷ others
  list : drop place kept.file.versions ≡ kept.first ∷ rest
  like : HeadLike kept.first again
  from : AreFrom [] again.nodes
  likes : AllLike rest others
  places_are : (n : ℕ) → IsIn order n ↔ (IsIn places n × (IsPageOfAny (take place kept.file.versions) n → IsPageOf kept.first n))

module _ (c d : Content) (most : ℕ) (places : List ℕ) (old : LaidStore) (object place : ℕ) (kept : Kept old object place) (entry : EntryValue)
    (e : laid c most [] ≡ Ok (old, places)) (shown : pages_of c ≡ pages_of d) (f : Found c d most places old object place kept entry) where
  -- the tree of a version that is there again
  trees : (i : ℕ) (v w : LaidVersion) → slice_get (drop place kept.file.versions) i ≡ Some v → slice_get f.file.versions i ≡ Some w → w.block ≡ v.block
      → (version_in w).tree ≡ (version_in v).tree
  trees i v w at to block =
      trees_alike c d most old (store_of f.root (put_at f.file object old.files)) places f.order e f.lies shown v w
      (record { object = object; file = kept.file; place = place + i; listed = kept.listed; kept = sym (get_drop place i kept.file.versions) ∙ at })
      (record { object = object; file = f.file; place = i; listed = changed_same (λ _. f.file) object old.files kept.file kept.listed; kept = to }) block

  heads : HeadsLike (kept.first ∷ f.rest) (f.again ∷ f.others)
  heads = (f.like, heads_of f.rest f.others f.likes)

  is_there : (i : ℕ) (version : LaidVersion) → slice_get kept.file.versions (place + i) ≡ Some version → IsThere (store_of f.root (put_at f.file object old.files)) object i version
  is_there i version at =
      let dropped : slice_get (drop place kept.file.versions) i ≡ Some version = get_drop place i kept.file.versions ∙ at in
      let l : LikeAt (f.again ∷ f.others) i version = like_at (kept.first ∷ f.rest) (f.again ∷ f.others) i version heads (ap (λ vs. slice_get vs i) (sym f.list) ∙ dropped) in
      let listed : slice_get f.file.versions i ≡ Some l.other = ap (λ vs. slice_get vs i) f.versions ∙ l.listed in
      record {
        file = f.file;
        again = l.other;
        listed = changed_same (λ _. f.file) object old.files kept.file kept.listed;
        kept = listed;
        serial = sym l.like.serial;
        block = sym l.like.block;
        tree = trees i version l.other dropped listed (sym l.like.block);
      }

  -- behind the first one a version has the same pages of its own
  is_whole : (i : ℕ) (version : LaidVersion) → slice_get kept.file.versions (place + suc i) ≡ Some version
      → IsThereWhole (store_of f.root (put_at f.file object old.files)) object (suc i) version
  is_whole i version at =
      let dropped : slice_get (drop place kept.file.versions) (suc i) ≡ Some version = get_drop place (suc i) kept.file.versions ∙ at in
      let l : AllLikeAt f.others i version = all_like_at f.rest f.others i version f.likes (ap (λ vs. slice_get vs (suc i)) (sym f.list) ∙ dropped) in
      let t : IsThere (store_of f.root (put_at f.file object old.files)) object (suc i) version = is_there (suc i) version at in
      let file_is : t.file ≡ f.file = some_is (sym t.listed ∙ changed_same (λ _. f.file) object old.files kept.file kept.listed) in
      let same : t.again ≡ l.other =
      some_is (sym t.kept ∙ ap (λ (x : LaidFile). slice_get x.versions (suc i)) file_is ∙ ap (λ vs. slice_get vs (suc i)) f.versions ∙ l.listed) in
      record {
        there = t;
        own = λ path. ap (λ (v : LaidVersion). own_in path v.nodes) same ∙ own_seen path l.other.nodes
            ∙ ap (option_and_then (λ (x : ℕ × Option Node). x.1)) (l.like.seen path) ∙ sym (own_seen path version.nodes);
      }

  -- what is found of the versions
  versions_are : map version_in f.file.versions ≡ first_made (drop place (map version_in kept.file.versions))
  versions_are =
      let tree : (version_in f.again).tree ≡ (version_in kept.first).tree =
      trees 0 kept.first f.again (ap (λ vs. slice_get vs 0) f.list) (ap (λ vs. slice_get vs 0) f.versions) (sym f.like.block) in
      let rest : map version_in f.others ≡ map version_in f.rest =
      versions_same f.rest f.others f.likes
      (λ i v w at to. trees (suc i) v w (ap (λ vs. slice_get vs (suc i)) f.list ∙ at) (ap (λ vs. slice_get vs (suc i)) f.versions ∙ to) (by_heads i v w f.rest f.others (heads_of f.rest f.others f.likes) at to)) in
      ap (map version_in) f.versions
      ∙ ap (λ x. x ∷ map version_in f.others) (first_is_made kept.first f.again f.like f.from tree)
      ∙ ap (λ l. made_first (version_in kept.first) ∷ l) rest
      ∙ sym (ap (λ vs. first_made (map version_in vs)) f.list)
      ∙ ap first_made (sym (map_drop version_in place kept.file.versions))
    where
      by_heads : (i : ℕ) (v w : LaidVersion) (vs ws : List LaidVersion) → HeadsLike vs ws → slice_get vs i ≡ Some v → slice_get ws i ≡ Some w → w.block ≡ v.block
      by_heads i v w vs ws h at to =
          let l : LikeAt ws i v = like_at vs ws i v h at in
          ap (λ (x : LaidVersion). x.block) (some_is (sym to ∙ l.listed)) ∙ sym l.like.block

  state_is : entry.generation ≡ kept.file.entry.generation → entry.secret ≡ kept.file.entry.secret
      → state_in (store_of f.root (put_at f.file object old.files)) ≡ state_pruned object place (state_in old)
  state_is generation secret =
      let file_is : file_in f.file ≡ pruned_to place (file_in kept.file) =
      ap (λ (x : EntryValue). (let y : File = record { generation = x.generation; secret = x.secret; versions = map version_in f.file.versions } in y)) f.entry_is
      ∙ ap (λ g. (let y : File = record { generation = g; secret = entry.secret; versions = map version_in f.file.versions } in y)) generation
      ∙ ap (λ s. (let y : File = record { generation = kept.file.entry.generation; secret = s; versions = map version_in f.file.versions } in y)) secret
      ∙ ap (λ vs. (let y : File = record { generation = kept.file.entry.generation; secret = kept.file.entry.secret; versions = vs } in y)) versions_are in
      let files : put_at (file_in f.file) object (map file_in old.files) ≡ changed_at (pruned_to place) object (map file_in old.files) =
      changed_alike (λ _. file_in f.file) (pruned_to place) object (map file_in old.files) (file_in kept.file)
      (slice_get-map file_in old.files object ∙ ap (option_map file_in) kept.listed) file_is in
      state_put old.root.format old.root.blocks old.root.key f.root f.file object old.files f.format_is f.blocks_is f.key_is
      ∙ ap (λ fs. (let s : State = record { format = old.root.format; blocks = old.root.blocks; key = old.root.key; files = fs } in s)) files

  pruned_is : entry.generation ≡ kept.file.entry.generation → entry.secret ≡ kept.file.entry.secret → Pruned d most old places object place kept
  pruned_is generation secret =
      record {
        stands = record {
          store = store_of f.root (put_at f.file object old.files);
          order = f.order;
          lies = f.lies;
          is = state_is generation secret;
          places = f.places_are;
          beside = λ j other apart at. changed_other (λ _. f.file) object j old.files apart ∙ at;
        };
        there = is_there;
        whole = is_whole;
      }

-- the store after the write
found_pruned : (c d : Content) (most : ℕ) (store : LaidStore) (places : List ℕ) (p : Parts c most store places) (object place : ℕ)
    (kept : Kept (store_of p.root p.linked.files) object place) (entry : EntryValue) → entry.first ≡ Some kept.first.block → WritesEntry c d p.root object entry
    → Found c d most places (store_of p.root p.linked.files) object place kept entry
found_pruned c d most store places p object place kept entry named written =
    let N : ℕ = p.root.blocks in
    let ff : FileFound c most store places p object place kept = file_found c most store places p object place kept in
    let w : Written c d p.root p.root.format (put_at entry object (entries_in p.rows)) p.in_table (λ _. ⊥) =
    entry_written c d p.root p.held p.rows p.in_table object entry p.holds p.reads p.table written in
    let wd : Wider c most store places p w.places (λ _. ⊥) = widened c most store places p w.places (λ _. ⊥) w.has w.only (λ n h _. h) in
    let ro : RowOf object p.rows ff.file = row_of_file c N 1 object p.rows w.places p.files wd.in_files ff.file wd.chains ff.listed in
    let in_places : (n : ℕ) → IsIn wd.in_all n → IsIn places n = λ n h. elim (wd.only n h) [ inl x ↦ x | inr x ↦ absurd x ] in
    let at : slice_get ff.file.versions place ≡ Some kept.first =
    sym (get_front ff.file.versions ff.more place ff.small) ∙ ap (λ (x : LaidFile). slice_get x.versions place) (sym ff.whole) ∙ kept.kept in
    let here : HereAt c d N (1 + object) ro.row (row_of entry) ff.file (fewer wd.in_files ff.file.versions place kept.first) w.places wd.in_files =
    λ start mid later read above into under.
    here_fewer c d N (1 + object) place w.places ro.row entry ff.file.versions kept.first start mid later wd.in_files wd.in_files read at named w.agree above under into in
    let go : FilesGo d N 1 object p.rows (row_of entry) (fewer wd.in_files ff.file.versions place kept.first) p.files w.places wd.in_files w.places =
    files_swap c d N 1 object w.places p.rows ro.row (row_of entry) ff.file (fewer wd.in_files ff.file.versions place kept.first) w.places p.files wd.in_files w.places wd.chains ro.at ff.listed
    w.agree (λ n i. i) (λ n i. i) here in
    let kc : KeptChain ff.file.versions place kept.first go.versions = go.gives in
    let l : (v : LaidVersion) × (last_laid ff.file.versions ≡ Some v) = some_last ff.file.versions (let s : place < length ff.file.versions = ff.small in omega (arith, s)) in
    let lk = last_kept ff.file.versions place kept.first go.versions ff.small kc l.0 l.1 in
    let ps : PrunedStore c d most store places p w.after object ff.file (filed (row_of entry) go.versions) wd.in_files wd.in_all go.after =
    pruned_store c d most store places p object entry (λ _. ⊥) w wd ff.file (fewer wd.in_files ff.file.versions place kept.first) ff.listed go (λ n h. h) l.0 lk.0 l.1 lk.1 lk.2 in
    let whole : kept.file ≡ with_more ff.file ps.more = some_is (sym kept.listed ∙ ps.listed) in
    let vs_are : kept.file.versions ≡ ff.file.versions ++ ps.more = ap (λ (x : LaidFile). x.versions) whole in
    let within : place ≤ length ff.file.versions = (let s : place < length ff.file.versions = ff.small in omega (arith, s)) in
    let early : take place kept.file.versions ≡ take place ff.file.versions = ap (take place) vs_are ∙ take_front place ff.file.versions ps.more within in
    let old_in : (n : ℕ) → IsPageOfAny (take place kept.file.versions) n → PageOfSome (take place ff.file.versions) n =
    λ n h. subst (λ vs. PageOfSome vs n) early (from_any (take place kept.file.versions) n h) in
    let old_out : (n : ℕ) → PageOfSome (take place ff.file.versions) n → IsPageOfAny (take place kept.file.versions) n =
    λ n h. to_any (take place kept.file.versions) n (subst (λ vs. PageOfSome vs n) (sym early) h) in
    record {
      root = w.after;
      file = with_more (filed (row_of entry) go.versions) ps.others;
      order = ps.order;
      format_is = w.format_is;
      blocks_is = w.blocks_is;
      key_is = w.key_is;
      lies = ps.lies;
      entry_is = refl;
      again = kc.again;
      rest = kc.rest ++ ps.more;
      others = kc.others ++ ps.others;
      versions = ap (λ vs. vs ++ ps.others) kc.is;
      list = ap (drop place) vs_are ∙ drop_front place ff.file.versions ps.more within ∙ ap (λ vs. vs ++ ps.more) kc.list;
      like = kc.like;
      from = kc.from;
      likes = likes_append kc.rest kc.others ps.more ps.others kc.likes ps.likes;
      places_are = λ n. (
        λ i. elim (ps.from n i) [
          | inl x ↦ (in_places n x.0, λ h. absurd (x.1 (go.old n (old_in n h)).0))
          | inr x ↦ (
            elim (go.only n x) [
              | inl y ↦ in_places n (wd.files_in n (wd.table_in n y))
              | inr y ↦ elim y [ inl z ↦ in_places n (wd.files_in n z) | inr z ↦ in_places n (wd.files_in n z) ]
            ],
            λ h. go.still n x (old_in n h),
          )
        ],
        λ i. elim (ps.tops n (wd.has n i.0)) [
          | inl y ↦ elim (go.rest n y) [
            | inl z ↦ ps.into n (go.more n z)
            | inr z ↦ elim z [ inl a ↦ ps.into n a | inr a ↦ absurd (a.1 (i.1 (old_out n a.0))) ]
          ]
          | inr y ↦ y
        ],
      );
    }

pub pruning_keeps : (c d : Content) (most : ℕ) (store : LaidStore) (places : List ℕ) → laid c most [] ≡ Ok (store, places)
    → (object place : ℕ) (kept : Kept store object place) → WritesEntry c d store.root object (begun_at kept.first.block kept.file.entry)
    → Pruned d most store places object place kept
pruning_keeps c d most store places e object place kept written =
    pruned_is c d most places store object place kept (begun_at kept.first.block kept.file.entry) e
    (pages_stay c d most store places e object (begun_at kept.first.block kept.file.entry) written)
    (of (parts_of c most store places e) kept written) refl refl
  where
    of : (p : Parts c most store places) (kept : Kept store object place) → WritesEntry c d store.root object (begun_at kept.first.block kept.file.entry)
        → Found c d most places store object place kept (begun_at kept.first.block kept.file.entry)
    of p =
        subst
        (λ (s : LaidStore). (kept : Kept s object place) → WritesEntry c d s.root object (begun_at kept.first.block kept.file.entry)
        → Found c d most places s object place kept (begun_at kept.first.block kept.file.entry))
        (sym p.made)
        (λ kept written. found_pruned c d most store places p object place kept (begun_at kept.first.block kept.file.entry) refl written)
