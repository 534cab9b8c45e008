-- Links that are outstanding: where they lie, and what becomes of a store once one of them is set.
use Rattle.std.proofs.Common.{◌≡◌, ℕ, suc, ◌-◌, ◌^◌, ◌<◌, ◌≤◌, List, [], ◌++◌, length, inl, inr, Option, Some, None, Ok, option_map, refl, sym, ap, subst, ◌∙◌, arith, slice_get}
use Rattle.std.specs.Option.{option_and_then}
use Rattle.page_codec.specs.Values.{VersionValue}
use Rattle.page_codec.specs.Causes.{version_of}
use Rattle.page_codec.proofs.FrameLaws.{IsBlock}
use Rattle.pair_store.specs.Blocks.{SameOthers}
use Rattle.pair_store.specs.Pages.{with_commit as commit_bytes}
use Rattle.store_model.specs.Laid.{LaidVersion, LaidFile, last_laid}
use Rattle.store_model.specs.Members.{tops_from}
use Rattle.store_model.specs.Found.{LaidStore, laid, found}
use Rattle.store_model.specs.Changes.{version_in_block, Rewrites, with_commit, committed, changed_at, file_with, store_with, LiesIn, Outstanding, IsLinked}
use Rattle.store_model.specs.Links.{LastLink}
use Rattle.store_model.proofs.PlaceLists.{IsIn, in_along, in_left}
use Rattle.store_model.proofs.Steps.{Content, InRange}
use Rattle.store_model.proofs.Rewriting.{same_version, Bytes, bytes_of}
use Rattle.store_model.proofs.Chaining.{last_from}
use Rattle.store_model.proofs.Stores.{unlinked, Parts, parts_of}
use Rattle.store_model.proofs.Hits.{tops_outcome}
use Rattle.store_model.proofs.Edits.{some_is, none_some, changed_other, changed_length}
use Rattle.store_model.proofs.PageBytes.{rewrites_commit}
use Rattle.store_model.proofs.SettingLinks.{Found, finds, linking_keeps}
use Rattle.store_model.proofs.LastLinks.{links_are_set, linked_now}
use Rattle.store_check.specs.declared.chain.FoundFile.{FoundFile}
use Rattle.store_check.specs.declared.version.FoundVersion.{FoundVersion}
use Rattle.store_check.specs.Versions.{shown_of}
use Rattle.store_check.specs.Files.{chain_of, unset_base}
use Rattle.recovery.specs.declared.known.Known.{Known}
use Rattle.recovery.specs.declared.rolling.Step.TheVariants.{SetLinks}
use Rattle.recovery.specs.Rolling.{Rolling, SameLast}
use Rattle.recovery.proofs.Heads.{MapAt, map_at, KeptOf, kept_of, kept_none, unset_last, unset_none, KeepsHead}
use Rattle.recovery.proofs.Places.{in_files_in}
use Rattle.recovery.proofs.Turning.{FileAt, file_at, PageAt, Turn}

-- ---- an outstanding link where it lies

pub record LinkPage (c : Content) (store : LaidStore) (places : List ℕ) (link : Outstanding store) : Type 0 where
  pub body : List ℕ
  pub holds : c link.base.block ≡ Some body
  pub page : VersionValue
  pub reads : version_of body ≡ Ok page
  pub nil : page.commit ≡ None
  pub base_low : InRange store.root.blocks link.base.block
  pub base_in : IsIn places link.base.block
  pub next_low : InRange store.root.blocks link.next.block

pub link_page : (c : Content) (most : ℕ) (store : LaidStore) (places : List ℕ) → laid c most [] ≡ Ok (store, places) → (link : Outstanding store)
    → LinkPage c store places link
link_page c most store places e link =
    let p : Parts c most store places = parts_of c most store places e in
    let f : Found c c most store places p (λ v. v) link =
    finds c c most store places p (λ v. v) link
    (tops_outcome c c p.root.blocks link.object (λ v. v) (λ v. same_version v) (tops_from 1 p.files) (unlinked p.files) p.in_files p.linked places p.tops) in
    let b : Bytes (c link.base.block) f.fa.last.page =
    bytes_of (c link.base.block) f.fa.last.page (ap (λ (v : LaidVersion). version_in_block c v.block) f.base_is ∙ f.fa.last.was) in
    let low : InRange p.root.blocks link.base.block =
    subst (λ (v : LaidVersion). InRange p.root.blocks v.block) (sym f.base_is) (f.fa.each (last_from f.fa.head f.fa.rest).block f.fa.last.here) in
    let next : InRange p.root.blocks link.next.block =
    subst (λ (v : LaidVersion). InRange p.root.blocks v.block) (sym f.next_is) (f.z.again.each f.z.version.block f.z.again.here) in
    let in_files : IsIn p.in_files link.base.block =
    subst (λ (v : LaidVersion). IsIn p.in_files v.block) (sym f.base_is)
    (in_along (f.fa.new ++ p.in_table) p.in_files (sym f.fa.grown) (last_from f.fa.head f.fa.rest).block
    (in_left f.fa.new p.in_table (last_from f.fa.head f.fa.rest).block f.fa.last.here)) in
    record {
      body = b.bytes;
      holds = b.holds;
      page = f.fa.last.page;
      reads = b.reads;
      nil = sym f.fa.last.commit_is ∙ ap (λ (v : LaidVersion). v.commit) (sym f.base_is) ∙ link.nil;
      base_low = subst (λ (s : LaidStore). InRange s.root.blocks link.base.block) (sym p.made) low;
      base_in = in_files_in c most store places p link.base.block in_files;
      next_low = subst (λ (s : LaidStore). InRange s.root.blocks link.next.block) (sym p.made) next;
    }

-- ---- the link of a file

-- the link of file k, from one block to another
pub record LinkAt (store : LaidStore) (k base next : ℕ) : Type 0 where
  pub link : Outstanding store
  pub of_object : link.object ≡ k
  pub last : length link.file.versions ≡ suc (suc link.place)
  pub base_is : link.base.block ≡ base
  pub next_is : link.next.block ≡ next

pub link_at : (c : Content) (most : ℕ) (store : LaidStore) (places : List ℕ) → laid c most [] ≡ Ok (store, places)
    → (k : ℕ) (file : LaidFile) (chain : FoundFile) (base : ℕ) → slice_get store.files k ≡ Some file → chain_of file.versions ≡ Some chain
    → chain.unset ≡ Some base → LinkAt store k base chain.last.block
link_at c most store places e k file chain base listed is unset =
    let ch : KeptOf file.versions chain = kept_of file.versions chain is in
    elim (links_are_set c most store places e k file listed) [
      | inl linked ↦ none_some (sym (unset_none file.versions linked) ∙ sym ch.unset ∙ unset)
      | inr l ↦
          let file_is : l.link.file ≡ file = some_is (sym l.link.listed ∙ ap (slice_get store.files) l.of_object ∙ listed) in
          let long : length l.link.file.versions ≡ suc (suc l.link.place) = ap (λ (f : LaidFile). length f.versions) file_is ∙ l.last in
          let was : unset_base file.versions ≡ Some l.link.base.block =
          ap (λ (f : LaidFile). unset_base f.versions) (sym file_is) ∙ unset_last l.link.file.versions l.link.place l.link.base l.link.before long l.link.nil in
          let at : length l.link.file.versions - 1 ≡ suc l.link.place = omega (arith, long) in
          let next_last : last_laid file.versions ≡ Some l.link.next =
          ap (λ (f : LaidFile). last_laid f.versions) (sym file_is) ∙ ap (slice_get l.link.file.versions) at ∙ l.link.after in
          let same_last : ch.last ≡ l.link.next = some_is (sym ch.is ∙ next_last) in
          record {
            link = l.link;
            of_object = l.of_object;
            last = long;
            base_is = some_is (sym was ∙ sym ch.unset ∙ unset);
            next_is = ap (λ (v : LaidVersion). v.block) (sym same_last) ∙ ap (λ (v : FoundVersion). v.block) (sym ch.shown);
          }
    ]

-- the last link of a file is the one that is kept as unset
last_unset : (store : LaidStore) (k : ℕ) (file : LaidFile) → slice_get store.files k ≡ Some file → (l : LastLink store k file)
    → (unset_base file.versions ≡ Some l.link.base.block) × (last_laid file.versions ≡ Some l.link.next)
last_unset store k file listed l =
    let file_is : l.link.file ≡ file = some_is (sym l.link.listed ∙ ap (slice_get store.files) l.of_object ∙ listed) in
    let long : length l.link.file.versions ≡ suc (suc l.link.place) = ap (λ (f : LaidFile). length f.versions) file_is ∙ l.last in
    let at : length l.link.file.versions - 1 ≡ suc l.link.place = omega (arith, long) in (
      ap (λ (f : LaidFile). unset_base f.versions) (sym file_is) ∙ unset_last l.link.file.versions l.link.place l.link.base l.link.before long l.link.nil,
      ap (λ (f : LaidFile). last_laid f.versions) (sym file_is) ∙ ap (slice_get l.link.file.versions) at ∙ l.link.after,
    )

-- where none is outstanding in a file, it is linked
linked_if : (c : Content) (most : ℕ) (store : LaidStore) (places : List ℕ) (k : ℕ) (file : LaidFile) → laid c most [] ≡ Ok (store, places)
    → slice_get store.files k ≡ Some file → (LastLink store k file → ⊥) → IsLinked file
linked_if c most store places k file e listed none =
    elim (links_are_set c most store places e k file listed) [ inl linked ↦ linked | inr l ↦ absurd (none l) ]

kept_linked : (c : Content) (most : ℕ) (store : LaidStore) (places : List ℕ) (k : ℕ) (file : LaidFile) (o : Option FoundFile) → laid c most [] ≡ Ok (store, places)
    → slice_get store.files k ≡ Some file → chain_of file.versions ≡ o → option_and_then (λ (ch : FoundFile). ch.unset) o ≡ None → IsLinked file
kept_linked c most store places k file None e listed is unset =
    linked_if c most store places k file e listed (λ l. none_some (sym (kept_none file.versions is) ∙ (last_unset store k file listed l).1))
kept_linked c most store places k file (Some chain) e listed is unset =
    linked_if c most store places k file e listed
    (λ l. none_some (sym unset ∙ (kept_of file.versions chain is).unset ∙ (last_unset store k file listed l).0))

-- ---- the step

module _ (most : ℕ) (known : Known) (k : ℕ) (c : Content) (s : ℕ → Type 0) (r : Rolling SetLinks most known k c s) where
  -- the file that the step comes to, as it was found
  pub file_was : (o : Option FoundFile) → slice_get known.chains.items k ≡ Some o → MapAt (λ (file : LaidFile). chain_of file.versions) r.before.files k o
  file_was o kept = map_at (λ (file : LaidFile). chain_of file.versions) r.before.files k o (ap (λ l. slice_get l k) (sym r.is.chains) ∙ kept)

  -- it is still there so
  pub still_listed : (was : LaidFile) → slice_get r.before.files k ≡ Some was → slice_get r.stands.store.files k ≡ Some was
  still_listed was at =
      let f : FileAt r.stands.store.files k = file_at r.before.files r.stands.store.files k was r.stands.like.entries at in
      f.listed ∙ ap Some (r.ahead k was f.file (omega arith) at f.listed)

  -- a file with no link outstanding
  pub link_none : (o : Option FoundFile) → slice_get known.chains.items k ≡ Some o → option_and_then (λ (ch : FoundFile). ch.unset) o ≡ None
      → (now : LaidFile) → slice_get r.stands.store.files k ≡ Some now → IsLinked now
  link_none o kept unset now listed =
      let m : MapAt (λ (file : LaidFile). chain_of file.versions) r.before.files k o = file_was o kept in
      let same : m.item ≡ now = some_is (sym (still_listed m.item m.listed) ∙ listed) in
      kept_linked c most r.stands.store r.stands.order k now o r.stands.laid listed (ap (λ (f : LaidFile). chain_of f.versions) (sym same) ∙ m.is) unset

  commit_keeps : (b : ℕ) → KeepsHead (committed b)
  commit_keeps b = record { serial = λ v. refl; block = λ v. refl; own = λ v. refl }

  module _ (chain : FoundFile) (base next : ℕ) (kept : slice_get known.chains.items k ≡ Some (Some chain)) (unset : chain.unset ≡ Some base)
      (last : chain.last.block ≡ next) where
    was : MapAt (λ (file : LaidFile). chain_of file.versions) r.before.files k (Some chain)
    was = file_was (Some chain) kept

    the_link : LinkAt r.stands.store k base next
    unfolding was
    the_link =
        subst (λ (n : ℕ). LinkAt r.stands.store k base n) last
        (link_at c most r.stands.store r.stands.order r.stands.laid k was.item chain base (still_listed was.item was.listed) was.is unset)

    the_page : LinkPage c r.stands.store r.stands.order the_link.link
    the_page = link_page c most r.stands.store r.stands.order r.stands.laid the_link.link

    pub base_at : PageAt SetLinks c s base
    base_at = record {
      body = the_page.body;
      holds = ap c (sym the_link.base_is) ∙ the_page.holds;
      page = the_page.page;
      reads = the_page.reads;
      ready = the_page.nil;
      settled = subst s the_link.base_is
          (r.stands.each the_link.link.base.block (subst (λ (root : _). the_link.link.base.block < root.blocks) r.stands.like.root the_page.base_low.1));
    }

    pub base_below : base < r.stands.store.root.blocks
    base_below = subst (λ (n : ℕ). n < r.stands.store.root.blocks) the_link.base_is the_page.base_low.1

    pub next_named : 1 ≤ next
    next_named = subst (λ (n : ℕ). 1 ≤ n) the_link.next_is the_page.next_low.0

    set : LaidVersion → LaidVersion
    set = committed the_link.link.next.block

    link_listed : slice_get r.stands.store.files k ≡ Some the_link.link.file
    link_listed = ap (slice_get r.stands.store.files) (sym the_link.of_object) ∙ the_link.link.listed

    set_last : last_laid (file_with set the_link.link.place the_link.link.file).versions ≡ last_laid the_link.link.file.versions
    unfolding set
    set_last =
        let versions = the_link.link.file.versions in
        let long : length (changed_at (committed the_link.link.next.block) the_link.link.place versions) ≡ length versions =
        changed_length (committed the_link.link.next.block) the_link.link.place versions in
        let at : length versions - 1 ≡ suc the_link.link.place = (let l = the_link.last in omega (arith, l)) in
        ap (λ n. slice_get (changed_at (committed the_link.link.next.block) the_link.link.place versions) (n - 1)) long
        ∙ changed_other (committed the_link.link.next.block) the_link.link.place (length versions - 1) versions (λ e. Prim.omega (arith, e, at))

    last_kept : (old : LaidFile) → slice_get r.before.files k ≡ Some old → SameLast old (file_with set the_link.link.place the_link.link.file)
    last_kept old at =
        ap (option_map shown_of) set_last
        ∙ ap (λ (f : LaidFile). option_map shown_of (last_laid f.versions)) (r.ahead k old the_link.link.file (omega arith) at link_listed)

    link_rewritten : next < 2 ^ 28 → (x y : Content) → laid x most [] ≡ Ok (r.stands.store, r.stands.order) → IsBlock the_page.body
        → x base ≡ Some the_page.body → y base ≡ Some (commit_bytes next the_page.body) → SameOthers base x y
        → LiesIn y most (store_with set k the_link.link.place r.stands.store) r.stands.order × (found y most ≡ found x most)
    unfolding set
    link_rewritten word x y e whole at is others =
        let rewrites : Rewrites x y the_link.link.base.block (with_commit the_link.link.next.block) =
        subst (λ (n : ℕ). Rewrites x y n (with_commit the_link.link.next.block)) (sym the_link.base_is)
        (subst (λ (n : ℕ). Rewrites x y base (with_commit n)) (sym the_link.next_is)
        (rewrites_commit x y base the_page.body the_page.page next whole at the_page.reads next_named word is (λ m off. sym (others m off)))) in
        subst (λ (o : ℕ). LiesIn y most (store_with (committed the_link.link.next.block) o the_link.link.place r.stands.store) r.stands.order × (found y most ≡ found x most))
        the_link.of_object (linking_keeps x y most r.stands.store r.stands.order e the_link.link rewrites)

    set_linked : IsLinked (file_with set the_link.link.place the_link.link.file)
    unfolding set
    set_linked = linked_now c most r.stands.store r.stands.order r.stands.laid the_link.link

    set_keeps : KeepsHead set
    unfolding set
    set_keeps = commit_keeps the_link.link.next.block

    -- the link is set
    pub link_turn : next < 2 ^ 28 → Turn SetLinks most known k c s r base (commit_bytes next)
    unfolding base_at
    link_turn word = record {
      page = base_at;
      low = base_below;
      file = the_link.link.file;
      listed = link_listed;
      place = the_link.link.place;
      change = set;
      keeps_head = set_keeps;
      rewritten = link_rewritten word;
      kept = last_kept;
      done = set_linked;
    }
