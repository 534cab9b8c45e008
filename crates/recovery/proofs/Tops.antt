-- Members that a last version names: where it lies, and what becomes of a store once they are cleared.
use Rattle.std.proofs.Common.{◌≡◌, ℕ, zero, suc, ◌-◌, ◌<◌, ◌==◌, true, false, List, [], ◌++◌, length, Option, Some, None, Ok, option_map, refl, sym, ap, subst, ◌∙◌, arith, slice_get}
use Rattle.std.proofs.lemmas.Bool.Decides.{nat_tests}
use Rattle.page_codec.specs.Values.{VersionValue}
use Rattle.page_codec.specs.Causes.{version_of}
use Rattle.page_codec.proofs.FrameLaws.{IsBlock}
use Rattle.pair_store.specs.Blocks.{SameOthers}
use Rattle.pair_store.specs.Pages.{without_members as cleared_bytes}
use Rattle.store_model.specs.Laid.{LaidVersion, LaidFile, last_laid}
use Rattle.store_model.specs.Members.{names_none, tops_from}
use Rattle.store_model.specs.Found.{LaidStore, laid, found}
use Rattle.store_model.specs.Changes.{version_in_block, Rewrites, without_members, cleared, changed_at, file_with, store_with, LiesIn, IsTop, IsLinked, AreLinked}
use Rattle.store_model.proofs.PlaceLists.{IsIn, in_along, in_left}
use Rattle.store_model.proofs.Steps.{Content, InRange}
use Rattle.store_model.proofs.Rewriting.{same_version, Bytes, bytes_of}
use Rattle.store_model.proofs.Chaining.{last_from}
use Rattle.store_model.proofs.Filing.{FilesAgain, files_again}
use Rattle.store_model.proofs.LastVersions.{last_is}
use Rattle.store_model.proofs.Stores.{unlinked, Parts, parts_of}
use Rattle.store_model.proofs.Hits.{tops_outcome}
use Rattle.store_model.proofs.Edits.{some_is, none_some, changed_same, changed_length}
use Rattle.store_model.proofs.PageBytes.{rewrites_members}
use Rattle.store_model.proofs.Clearing.{top_kept, clearing_keeps}
use Rattle.store_model.proofs.LastLinks.{linked_after, cleared_keeps}
use Rattle.store_check.specs.declared.chain.FoundFile.{FoundFile}
use Rattle.store_check.specs.declared.version.FoundVersion.{FoundVersion}
use Rattle.store_check.specs.Versions.{shown_of}
use Rattle.store_check.specs.Files.{chain_of}
use Rattle.recovery.specs.declared.known.Known.{Known}
use Rattle.recovery.specs.declared.rolling.Step.TheVariants.{ClearMembers}
use Rattle.recovery.specs.Opening.{NamesNone}
use Rattle.recovery.specs.Rolling.{Rolling}
use Rattle.recovery.proofs.Heads.{MapAt, map_at, chain_shown, KeepsHead}
use Rattle.recovery.proofs.Places.{in_files_in}
use Rattle.recovery.proofs.Turning.{FileAt, file_at, PageAt, Turn}

-- ---- a top where it lies

pub record TopPage (c : Content) (store : LaidStore) (places : List ℕ) (version : LaidVersion) : Type 0 where
  pub body : List ℕ
  pub holds : c version.block ≡ Some body
  pub page : VersionValue
  pub reads : version_of body ≡ Ok page
  pub low : InRange store.root.blocks version.block
  pub in_places : IsIn places version.block

pub top_page : (c : Content) (most : ℕ) (store : LaidStore) (places : List ℕ) → laid c most [] ≡ Ok (store, places)
    → (version : LaidVersion) → IsTop store version → TopPage c store places version
top_page c most store places e version top =
    let p : Parts c most store places = parts_of c most store places e in
    let count : ℕ = p.root.blocks in
    let here : slice_get p.files top.object ≡ Some top.file =
    top_kept c c most store places p version top
    (tops_outcome c c count top.object (λ v. v) (λ v. same_version v) (tops_from 1 p.files) (unlinked p.files) p.in_files p.linked places p.tops) in
    let fa : FilesAgain c c count (suc top.object) 1 top.object top.file p.rows p.in_table p.files p.in_files =
    files_again c c count (suc top.object) 1 top.object top.file p.rows p.in_table p.files p.in_files (length top.file.versions - 1) version (omega arith) p.chains here top.last in
    let is : version ≡ last_from fa.head fa.rest = last_is top.file.versions fa.head fa.rest version fa.list top.last in
    let b : Bytes (c version.block) fa.last.page =
    bytes_of (c version.block) fa.last.page (ap (λ (v : LaidVersion). version_in_block c v.block) is ∙ fa.last.was) in
    let in_files : IsIn p.in_files version.block =
    subst (λ (v : LaidVersion). IsIn p.in_files v.block) (sym is)
    (in_along (fa.new ++ p.in_table) p.in_files (sym fa.grown) (last_from fa.head fa.rest).block
    (in_left fa.new p.in_table (last_from fa.head fa.rest).block fa.last.here)) in
    record {
      body = b.bytes;
      holds = b.holds;
      page = fa.last.page;
      reads = b.reads;
      low = subst (λ (s : LaidStore). InRange s.root.blocks version.block) (sym p.made)
          (subst (λ (v : LaidVersion). InRange count v.block) (sym is) (fa.each (last_from fa.head fa.rest).block fa.last.here));
      in_places = in_files_in c most store places p version.block in_files;
    }

-- ---- the top of a file

pub record TopAt (store : LaidStore) (k block : ℕ) : Type 0 where
  pub version : LaidVersion
  pub top : IsTop store version
  pub of_object : top.object ≡ k
  pub block_is : version.block ≡ block

some_names : (v : LaidVersion) → (length v.members ≡ 0 → ⊥) → names_none v ≡ false
some_names v some = of (length v.members) some
  where
    of : (n : ℕ) → (n ≡ 0 → ⊥) → (n == 0) ≡ false
    of zero h = absurd (h refl)
    of (suc n) h = Prim.grind (arith, nat_tests)

pub top_at : (store : LaidStore) (k : ℕ) (file : LaidFile) (chain : FoundFile) → slice_get store.files k ≡ Some file
    → option_map shown_of (last_laid file.versions) ≡ Some chain.last → (length chain.last.members ≡ 0 → ⊥) → TopAt store k chain.last.block
top_at store k file chain listed shown some = of (last_laid file.versions) refl shown
  where
    of : (o : Option LaidVersion) → last_laid file.versions ≡ o → option_map shown_of o ≡ Some chain.last → TopAt store k chain.last.block
    of None is e = none_some e
    of (Some v) is e =
        let same : shown_of v ≡ chain.last = some_is e in
        record {
          version = v;
          top = record {
            object = k;
            file = file;
            listed = listed;
            last = is;
            names = some_names v (λ none. some (ap (λ (x : FoundVersion). length x.members) (sym same) ∙ none));
          };
          of_object = refl;
          block_is = ap (λ (x : FoundVersion). x.block) same;
        }

-- ---- the step

module _ (most : ℕ) (known : Known) (k : ℕ) (c : Content) (s : ℕ → Type 0) (r : Rolling ClearMembers most known k c s) where
  -- the last version of the file that the step comes to is the one that is kept
  pub last_now : (o : Option FoundFile) → slice_get known.chains.items k ≡ Some o → (now : LaidFile) → slice_get r.stands.store.files k ≡ Some now
      → option_map shown_of (last_laid now.versions) ≡ option_map (λ (chain : FoundFile). chain.last) o
  last_now o kept now listed =
      let m : MapAt (λ (file : LaidFile). chain_of file.versions) r.before.files k o =
      map_at (λ (file : LaidFile). chain_of file.versions) r.before.files k o (ap (λ l. slice_get l k) (sym r.is.chains) ∙ kept) in
      r.ahead k m.item now (omega arith) m.listed listed ∙ chain_shown m.item.versions o m.is

  -- a file whose last version names no members
  pub top_none : (o : Option FoundFile) → slice_get known.chains.items k ≡ Some o → ((chain : FoundFile) → o ≡ Some chain → length chain.last.members ≡ 0)
      → (now : LaidFile) → slice_get r.stands.store.files k ≡ Some now → NamesNone now
  top_none o kept none now listed version last =
      of o (sym (ap (option_map shown_of) last) ∙ last_now o kept now listed) none
    where
      of : (p : Option FoundFile) → Some (shown_of version) ≡ option_map (λ (chain : FoundFile). chain.last) p
          → ((chain : FoundFile) → p ≡ Some chain → length chain.last.members ≡ 0) → names_none version ≡ true
      of None e nothing = none_some (sym e)
      of (Some chain) e nothing =
          let long : length version.members ≡ 0 = ap (λ (v : FoundVersion). length v.members) (some_is e) ∙ nothing chain refl in
          ap (λ n. n == 0) long

  -- each file is linked
  all_linked : (j : ℕ) (file : LaidFile) → slice_get r.stands.store.files j ≡ Some file → IsLinked file
  all_linked j file listed =
      let f : FileAt r.before.files j = file_at r.stands.store.files r.before.files j file (sym r.stands.like.entries) listed in
      r.keeps j f.file file f.listed listed

  clear_keeps : KeepsHead cleared
  clear_keeps = record { serial = λ v. refl; block = λ v. refl; own = λ v. refl }

  module _ (chain : FoundFile) (block : ℕ) (kept : slice_get known.chains.items k ≡ Some (Some chain)) (last : chain.last.block ≡ block)
      (some : length chain.last.members ≡ 0 → ⊥) where
    now_at : FileAt r.stands.store.files k
    now_at =
        let m : MapAt (λ (file : LaidFile). chain_of file.versions) r.before.files k (Some chain) =
        map_at (λ (file : LaidFile). chain_of file.versions) r.before.files k (Some chain) (ap (λ l. slice_get l k) (sym r.is.chains) ∙ kept) in
        file_at r.before.files r.stands.store.files k m.item r.stands.like.entries m.listed

    the_top : TopAt r.stands.store k block
    the_top =
        subst (λ (n : ℕ). TopAt r.stands.store k n) last
        (top_at r.stands.store k now_at.file chain now_at.listed (last_now (Some chain) kept now_at.file now_at.listed) some)

    its_page : TopPage c r.stands.store r.stands.order the_top.version
    its_page = top_page c most r.stands.store r.stands.order r.stands.laid the_top.version the_top.top

    pub top_page_at : PageAt ClearMembers c s block
    top_page_at = record {
      body = its_page.body;
      holds = ap c (sym the_top.block_is) ∙ its_page.holds;
      page = its_page.page;
      reads = its_page.reads;
      ready = tt;
      settled = subst s the_top.block_is
          (r.stands.each the_top.version.block (subst (λ (root : _). the_top.version.block < root.blocks) r.stands.like.root its_page.low.1));
    }

    pub top_below : block < r.stands.store.root.blocks
    top_below = subst (λ (n : ℕ). n < r.stands.store.root.blocks) the_top.block_is its_page.low.1

    place : ℕ
    place = length the_top.top.file.versions - 1

    top_listed : slice_get r.stands.store.files k ≡ Some the_top.top.file
    top_listed = ap (slice_get r.stands.store.files) (sym the_top.of_object) ∙ the_top.top.listed

    clear_rewritten : (x y : Content) → laid x most [] ≡ Ok (r.stands.store, r.stands.order) → IsBlock its_page.body
        → x block ≡ Some its_page.body → y block ≡ Some (cleared_bytes its_page.body) → SameOthers block x y
        → LiesIn y most (store_with cleared k place r.stands.store) r.stands.order × (found y most ≡ found x most)
    unfolding place
    clear_rewritten x y e whole at is others =
        let rewrites : Rewrites x y the_top.version.block without_members =
        subst (λ (n : ℕ). Rewrites x y n without_members) (sym the_top.block_is)
        (rewrites_members x y block its_page.body its_page.page whole at its_page.reads is (λ m off. sym (others m off))) in
        let links : AreLinked r.stands.store the_top.version.members = λ i member file listed there. all_linked (member.object - 1) file there in
        subst (λ (o : ℕ). LiesIn y most (store_with cleared o (length the_top.top.file.versions - 1) r.stands.store) r.stands.order × (found y most ≡ found x most))
        the_top.of_object (clearing_keeps x y most r.stands.store r.stands.order e the_top.version the_top.top links rewrites)

    clear_last : last_laid (file_with cleared place the_top.top.file).versions ≡ Some (cleared the_top.version)
    unfolding place
    clear_last =
        let versions = the_top.top.file.versions in
        let long : length (changed_at cleared (length versions - 1) versions) ≡ length versions = changed_length cleared (length versions - 1) versions in
        ap (λ n. slice_get (changed_at cleared (length versions - 1) versions) (n - 1)) long
        ∙ changed_same cleared (length versions - 1) versions the_top.version the_top.top.last

    clear_done : NamesNone (file_with cleared place the_top.top.file)
    clear_done version at =
        let version_is : cleared the_top.version ≡ version = some_is (sym clear_last ∙ at) in
        ap (λ (v : LaidVersion). names_none v) (sym version_is)

    -- the members are cleared
    pub clear_turn : Turn ClearMembers most known k c s r block cleared_bytes
    unfolding top_page_at
    clear_turn = record {
      page = top_page_at;
      low = top_below;
      file = the_top.top.file;
      listed = top_listed;
      place = place;
      change = cleared;
      keeps_head = clear_keeps;
      rewritten = clear_rewritten;
      kept = λ was at. linked_after cleared place the_top.top.file cleared_keeps (all_linked k the_top.top.file top_listed);
      done = clear_done;
    }
