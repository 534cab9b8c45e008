-- Members and links in each store that is found, and after one of them was written.
use Rattle.std.proofs.Common.{◌≡◌, ◌≢◌, ℕ, zero, suc, ◌+◌, ◌-◌, true, false, nat_eq, List, [], ◌∷◌, ◌++◌, length, inl, inr, ◌⊎◌, Some, Ok, refl, sym, ap, subst, ◌∙◌, arith, eqb-true, eq-eqb, true≢false, slice_get, length-append, None}
use Rattle.std.specs.Option.{is_none}
use Rattle.std.specs.Cmp.{second_so}
use Rattle.page_codec.specs.Values.{MemberValue}
use Rattle.tree_model.proofs.Paths.{told}
use Rattle.store_model.specs.Walk.{bind}
use Rattle.store_model.specs.Laid.{LaidVersion, LaidFile, last_laid}
use Rattle.store_model.specs.Members.{Top, Linked, names_none, tops_from, longer, members_linked, tops_linked}
use Rattle.store_model.specs.Found.{LaidStore, laid}
use Rattle.store_model.specs.Changes.{committed, cleared, AreLinked, changed_at, file_with, store_with, Outstanding, IsTop, IsLinked}
use Rattle.store_model.specs.Links.{IsLastOfItsFile, LastLink}
use Rattle.store_model.proofs.PlaceLists.{IsIn, in_head}
use Rattle.store_model.proofs.Steps.{Content, blocks_of, Passed, passed}
use Rattle.store_model.proofs.Rewriting.{same_version, VersionAgain, version_again}
use Rattle.store_model.proofs.Chaining.{last_from}
use Rattle.store_model.proofs.Filing.{FilesAgain, files_again}
use Rattle.store_model.proofs.Edits.{some_is, none_some, changed_same, changed_other, get_append, get_past, last_past}
use Rattle.store_model.proofs.LastVersions.{chained_next, chained_last, last_get, last_is}
use Rattle.store_model.proofs.Linking.{InFile, in_file, MemberRan, member_step}
use Rattle.store_model.proofs.Aside.{objects_of, objects_in, Step, member_run, members_step, tops_step}
use Rattle.store_model.proofs.Hits.{Outcome, missed, frozen, hit, tops_outcome}
use Rattle.store_model.proofs.Stores.{unlinked, Parts, parts_of, TopsSplit, tops_split, tops_append}
use Rattle.store_model.proofs.SettingLinks.{Found, finds, some_page}
use Rattle.store_model.proofs.Clearing.{top_kept, is_top, top_first}

-- ---- members

-- a member is the last version of its file once it was tried
record IsLast (files : List LaidFile) (member : MemberValue) : Type 0 where
  file : LaidFile
  version : LaidVersion
  counts : member.object ≡ suc (member.object - 1)
  listed : slice_get files (member.object - 1) ≡ Some file
  last : last_laid file.versions ≡ Some version
  block : version.block ≡ member.block
  none : names_none version ≡ true

member_last : (c : Content) (count : ℕ) (top : Top) (member : MemberValue) (linked : Linked) (seen : List ℕ) (after : Linked) (all : List ℕ)
    → MemberRan c count top member linked seen after all → IsLast after.files member
member_last c count top member linked seen after all r =
    let f : InFile member.object linked.files r.last = in_file member.object linked.files r.last r.is in
    elim r.how [
      | inl x ↦
          record {
            file = f.file;
            version = r.last;
            counts = f.counts;
            listed = ap (λ l. slice_get l (member.object - 1)) x.keeps ∙ f.listed;
            last = f.is;
            block = eqb-true r.last.block member.block x.is_last;
            none = r.none;
          }
      | inr x ↦
          let va : VersionAgain c c count member.object member.block (Some r.last) seen x.version all =
          version_again c c count member.object top.version.block member.block (Some r.last) (Some r.last) seen x.version all (same_version r.last) x.read in
          record {
            file = longer x.version f.file;
            version = x.version;
            counts = f.counts;
            listed = ap (λ l. slice_get l (member.object - 1)) x.extends ∙ changed_same (longer x.version) (member.object - 1) linked.files f.file f.listed;
            last = last_past f.file.versions x.version;
            block = va.block_is;
            none = second_so (is_none x.version.commit) (names_none x.version) x.ends;
          }
    ]

kept_last : (files others : List LaidFile) (member : MemberValue) → slice_get others (member.object - 1) ≡ slice_get files (member.object - 1) → IsLast files member → IsLast others member
kept_last files others member kept l =
    record { file = l.file; version = l.version; counts = l.counts; listed = kept ∙ l.listed; last = l.last; block = l.block; none = l.none }

members_last : (c : Content) (count : ℕ) (top : Top) (members : List MemberValue) (more : List Top) (linked : Linked) (seen : List ℕ) (after : Linked) (all : List ℕ) (end : Linked) (places : List ℕ)
    → members_linked (blocks_of c count) top members linked seen ≡ Ok (after, all) → tops_linked (blocks_of c count) more after all ≡ Ok (end, places)
    → (k : ℕ) (member : MemberValue) → slice_get members k ≡ Some member → IsLast end.files member
unfolding members_linked bind
members_last c count top [] more linked seen after all end places e tops k member is = none_some is
members_last c count top (m ∷ others) more linked seen after all end places e tops k member is =
    let p : Passed (member_run c count top m linked seen) (members_linked (blocks_of c count) top others) after all =
    passed (member_run c count top m linked seen) (members_linked (blocks_of c count) top others) after all e in
    by k is p (λ i there. members_last c count top others more p.value p.places after all end places p.second tops i member there)
  where
    by : (i : ℕ) → slice_get (m ∷ others) i ≡ Some member
        → (p : Passed (member_run c count top m linked seen) (members_linked (blocks_of c count) top others) after all)
        → ((j : ℕ) → slice_get others j ≡ Some member → IsLast end.files member) → IsLast end.files member
    by (suc i) there p rest = rest i there
    by zero there p rest =
        let same : m ≡ member = some_is there in
        let r : MemberRan c count top m linked seen p.value p.places = member_step c count top m linked seen p.value p.places p.first in
        let f : InFile m.object linked.files r.last = in_file m.object linked.files r.last r.is in
        let j : ℕ = m.object - 1 in
        let named : IsIn p.value.named (suc j) = subst (IsIn p.value.named) f.counts (subst (λ l. IsIn l m.object) (sym r.named) (in_head m.object linked.named)) in
        let one : Step c c count j (members_linked (blocks_of c count) top others) (objects_of others) p.value p.places after all = members_step c c count j top others p.value p.places after all (inl named) p.second in
        let two : Step c c count j (tops_linked (blocks_of c count) more) (objects_in more) after all end places = tops_step c c count j more after all end places (inl (one.names (suc j) named)) tops in
        subst (IsLast end.files) same (kept_last p.value.files end.files m (two.kept ∙ one.kept) (member_last c count top m linked seen p.value p.places r))

pub members_are_last : (content : Content) (most : ℕ) (store : LaidStore) (places : List ℕ) → laid content most [] ≡ Ok (store, places)
    → (version : LaidVersion) → IsTop store version → (k : ℕ) (member : MemberValue) → slice_get version.members k ≡ Some member → IsLastOfItsFile store member
members_are_last c most store places e version top k member is =
    let p : Parts c most store places = parts_of c most store places e in
    let count : ℕ = p.root.blocks in
    let here : slice_get p.files top.object ≡ Some top.file =
    top_kept c c most store places p version top
    (tops_outcome c c count top.object (λ v. v) (λ v. same_version v) (tops_from 1 p.files) (unlinked p.files) p.in_files p.linked places p.tops) in
    let t : Top = record { object = suc top.object; version = version } in
    let split : TopsSplit top.object (suc top.object) 1 p.files top.file = tops_split top.object (suc top.object) 1 p.files top.file (omega arith) here in
    let tops_were : tops_from 1 p.files ≡ split.before ++ (t ∷ split.after) =
    split.is ∙ ap (λ l. split.before ++ (l ++ split.after)) (is_top (suc top.object) (last_laid top.file.versions) version top.last top.names) in
    let q : Passed (tops_linked (blocks_of c count) split.before (unlinked p.files) p.in_files) (tops_linked (blocks_of c count) (t ∷ split.after)) p.linked places =
    passed (tops_linked (blocks_of c count) split.before (unlinked p.files) p.in_files) (tops_linked (blocks_of c count) (t ∷ split.after)) p.linked places
    (sym (tops_append c count split.before (t ∷ split.after) (unlinked p.files) p.in_files)
    ∙ ap (λ l. tops_linked (blocks_of c count) l (unlinked p.files) p.in_files) (sym tops_were) ∙ p.tops) in
    let w : Passed (members_linked (blocks_of c count) t version.members q.value q.places) (tops_linked (blocks_of c count) split.after) p.linked places =
    top_first c count t split.after q.value q.places p.linked places q.second in
    let l : IsLast p.linked.files member = members_last c count t version.members split.after q.value q.places w.value w.places p.linked places w.first w.second k member is in
    record {
      file = l.file;
      version = l.version;
      counts = l.counts;
      listed = ap (λ (s : LaidStore). slice_get s.files (member.object - 1)) p.made ∙ l.listed;
      last = l.last;
      block = l.block;
      none = l.none;
    }

-- ---- links

-- a chain names each of its versions
chain_linked : (c : Content) (most : ℕ) (store : LaidStore) (places : List ℕ) (p : Parts c most store places) (k : ℕ) (file : LaidFile) → slice_get p.files k ≡ Some file → IsLinked file
chain_linked c most store places p k file listed place base next before after nil =
    let fa : FilesAgain c c p.root.blocks (suc k) 1 k file p.rows p.in_table p.files p.in_files =
    files_again c c p.root.blocks (suc k) 1 k file p.rows p.in_table p.files p.in_files place base (omega arith) p.chains listed before in
    none_some
    (sym nil ∙ chained_next fa.head fa.rest place base next fa.chained (ap (λ l. slice_get l place) (sym fa.list) ∙ before) (ap (λ l. slice_get l (suc place)) (sym fa.list) ∙ after))

-- the link from a last version of a chain to one behind it
record LinkFrom (store : LaidStore) (k : ℕ) (file : LaidFile) (base version : LaidVersion) : Type 0 where
  link : LastLink store k file
  base_is : link.link.base ≡ base
  next_is : link.link.next ≡ version

-- a file with a version behind its chain has one link outstanding
chain_longer : (c : Content) (most : ℕ) (store : LaidStore) (places : List ℕ) (p : Parts c most store places) (k : ℕ) (file old : LaidFile) (base version : LaidVersion)
    → slice_get store.files k ≡ Some file → slice_get p.files k ≡ Some old → last_laid old.versions ≡ Some base → file ≡ longer version old → LinkFrom store k file base version
chain_longer c most store places p k file old base version listed here last is =
    let fa : FilesAgain c c p.root.blocks (suc k) 1 k old p.rows p.in_table p.files p.in_files =
    files_again c c p.root.blocks (suc k) 1 k old p.rows p.in_table p.files p.in_files (length old.versions - 1) base (omega arith) p.chains here last in
    let long : length old.versions ≡ suc (length fa.rest) = ap length fa.list in
    let more : length (old.versions ++ version ∷ []) ≡ length old.versions + 1 = length-append old.versions (version ∷ []) in
    let all : length file.versions ≡ length (old.versions ++ version ∷ []) = ap (λ (f : LaidFile). length f.versions) is in
    let base_is : base ≡ last_from fa.head fa.rest = last_is old.versions fa.head fa.rest base fa.list last in
    let last_one : slice_get old.versions (length fa.rest) ≡ Some base = ap (λ l. slice_get l (length fa.rest)) fa.list ∙ last_get fa.head fa.rest ∙ ap Some (sym base_is) in
    record {
      link = record {
        link = record {
          object = k;
          file = file;
          place = length fa.rest;
          base = base;
          next = version;
          listed = listed;
          before = ap (λ (f : LaidFile). slice_get f.versions (length fa.rest)) is ∙ get_append old.versions (version ∷ []) (length fa.rest) base last_one;
          after = ap (λ (f : LaidFile). slice_get f.versions (suc (length fa.rest))) is ∙ ap (slice_get (old.versions ++ version ∷ [])) (sym long) ∙ get_past old.versions version;
          nil = ap (λ (v : LaidVersion). v.commit) base_is ∙ chained_last fa.head fa.rest fa.chained;
        };
        of_object = refl;
        last = omega arith;
      };
      base_is = refl;
      next_is = refl;
    }

pub links_are_set : (content : Content) (most : ℕ) (store : LaidStore) (places : List ℕ) → laid content most [] ≡ Ok (store, places)
    → (object : ℕ) (file : LaidFile) → slice_get store.files object ≡ Some file → IsLinked file ⊎ LastLink store object file
links_are_set c most store places e k file listed =
    let p : Parts c most store places = parts_of c most store places e in
    of p (ap (λ (s : LaidStore). slice_get s.files k) (sym p.made) ∙ listed)
    (tops_outcome c c p.root.blocks k (λ v. v) (λ v. same_version v) (tops_from 1 p.files) (unlinked p.files) p.in_files p.linked places p.tops)
  where
    of : (p : Parts c most store places) → slice_get p.linked.files k ≡ Some file
        → Outcome c c p.root.blocks k (λ v. v) (tops_linked (blocks_of c p.root.blocks) (tops_from 1 p.files)) (objects_in (tops_from 1 p.files)) (unlinked p.files) p.in_files p.linked places
        → IsLinked file ⊎ LastLink store k file
    of p there (missed m) =
        inl (chain_linked c most store places p k file
        (sym (tops_step c c p.root.blocks k (tops_from 1 p.files) (unlinked p.files) p.in_files p.linked places (inr (inl m)) p.tops).kept ∙ there))
    of p there (frozen f) = inl (chain_linked c most store places p k file (sym f.kept ∙ there))
    of p there (hit z) = inr (chain_longer c most store places p k file z.file z.base z.version listed z.listed z.is (some_page (slice_get p.linked.files k) there z.grown_file)).link

-- a link that is outstanding is to the last version of its file
pub outstanding_is_last : (content : Content) (most : ℕ) (store : LaidStore) (places : List ℕ) → laid content most [] ≡ Ok (store, places)
    → (link : Outstanding store) → length link.file.versions ≡ suc (suc link.place)
outstanding_is_last c most store places e link =
    let p : Parts c most store places = parts_of c most store places e in
    let f : Found c c most store places p (λ v. v) link =
    finds c c most store places p (λ v. v) link
    (tops_outcome c c p.root.blocks link.object (λ v. v) (λ v. same_version v) (tops_from 1 p.files) (unlinked p.files) p.in_files p.linked places p.tops) in
    let long : length f.z.file.versions ≡ suc (length f.fa.rest) = ap length f.fa.list in
    let more : length (f.z.file.versions ++ f.z.version ∷ []) ≡ length f.z.file.versions + 1 = length-append f.z.file.versions (f.z.version ∷ []) in
    let all : length link.file.versions ≡ length (f.z.file.versions ++ f.z.version ∷ []) = ap (λ (x : LaidFile). length x.versions) f.file_is in
    let at : link.place ≡ length f.fa.rest = f.place_is in
    omega arith

-- a member that is not the last version of its object's chain: the link to it is outstanding
pub record MemberLink (store : LaidStore) (member : MemberValue) (base : LaidVersion) : Type 0 where
  pub link : Outstanding store
  pub of_object : link.object ≡ member.object - 1
  pub base_is : link.base ≡ base
  pub next_is : link.next.block ≡ member.block

pub unlinked_member : (content : Content) (most : ℕ) (store : LaidStore) (places : List ℕ) → laid content most [] ≡ Ok (store, places)
    → (p : Parts content most store places) (version : LaidVersion) → IsTop store version → (k : ℕ) (member : MemberValue) → slice_get version.members k ≡ Some member
    → (old : LaidFile) (base : LaidVersion) → slice_get p.files (member.object - 1) ≡ Some old → last_laid old.versions ≡ Some base → base.block ≢ member.block
    → MemberLink store member base
unlinked_member c most store places e p version top k member is old base listed last off =
    let l : IsLastOfItsFile store member = members_are_last c most store places e version top k member is in
    let j : ℕ = member.object - 1 in
    of l (ap (λ (s : LaidStore). slice_get s.files j) (sym p.made) ∙ l.listed)
    (tops_outcome c c p.root.blocks j (λ v. v) (λ v. same_version v) (tops_from 1 p.files) (unlinked p.files) p.in_files p.linked places p.tops)
  where
    clash : (l : IsLastOfItsFile store member) → slice_get p.linked.files (member.object - 1) ≡ Some l.file
        → slice_get p.linked.files (member.object - 1) ≡ slice_get p.files (member.object - 1) → ⊥
    clash l there kept =
        let file : old ≡ l.file = some_is (sym listed ∙ sym kept ∙ there) in
        let one : base ≡ l.version = some_is (sym last ∙ ap (λ (f : LaidFile). last_laid f.versions) file ∙ l.last) in
        off (ap (λ (v : LaidVersion). v.block) one ∙ l.block)

    of : (l : IsLastOfItsFile store member) → slice_get p.linked.files (member.object - 1) ≡ Some l.file
        → Outcome c c p.root.blocks (member.object - 1) (λ v. v) (tops_linked (blocks_of c p.root.blocks) (tops_from 1 p.files)) (objects_in (tops_from 1 p.files)) (unlinked p.files) p.in_files p.linked places
        → MemberLink store member base
    of l there (missed m) =
        absurd (clash l there
        (tops_step c c p.root.blocks (member.object - 1) (tops_from 1 p.files) (unlinked p.files) p.in_files p.linked places (inr (inl m)) p.tops).kept)
    of l there (frozen f) = absurd (clash l there f.kept)
    of l there (hit z) =
        let grown : l.file ≡ longer z.version z.file = some_page (slice_get p.linked.files (member.object - 1)) there z.grown_file in
        let file : z.file ≡ old = some_page (slice_get p.files (member.object - 1)) z.listed listed in
        let same_base : z.base ≡ base = some_is (sym z.is ∙ ap (λ (f : LaidFile). last_laid f.versions) file ∙ last) in
        let next : z.version ≡ l.version = some_is (sym (last_past z.file.versions z.version) ∙ ap (λ (f : LaidFile). last_laid f.versions) (sym grown) ∙ l.last) in
        let f : LinkFrom store (member.object - 1) l.file z.base z.version =
        chain_longer c most store places p (member.object - 1) l.file z.file z.base z.version l.listed z.listed z.is grown in
        record {
          link = f.link.link;
          of_object = f.link.of_object;
          base_is = f.base_is ∙ same_base;
          next_is = ap (λ (v : LaidVersion). v.block) (f.next_is ∙ next) ∙ l.block;
        }

-- ---- after a write

-- once its link is set, none is outstanding in the file
pub linked_now : (content : Content) (most : ℕ) (store : LaidStore) (places : List ℕ) → laid content most [] ≡ Ok (store, places)
    → (link : Outstanding store) → IsLinked (file_with (committed link.next.block) link.place link.file)
linked_now c most store places e link place base next before after nil =
    elim (told (nat_eq place link.place)) [
      | inl t ↦
          let at : place ≡ link.place = eqb-true place link.place t in
          let now : slice_get (changed_at (committed link.next.block) link.place link.file.versions) place ≡ Some (committed link.next.block link.base) =
          ap (slice_get (changed_at (committed link.next.block) link.place link.file.versions)) at
          ∙ changed_same (committed link.next.block) link.place link.file.versions link.base link.before in
          let same : base ≡ committed link.next.block link.base = some_is (sym before ∙ now) in
          none_some (sym nil ∙ ap (λ (v : LaidVersion). v.commit) same)
      | inr f ↦
          let off : place ≢ link.place = λ i. true≢false (sym (eq-eqb place link.place i) ∙ f) in
          let was : slice_get link.file.versions place ≡ Some base = sym (changed_other (committed link.next.block) link.place place link.file.versions off) ∙ before in
          let one_last : length link.file.versions ≡ suc (suc link.place) = outstanding_is_last c most store places e link in
          behind off was one_last (told (nat_eq (suc place) link.place))
    ]
  where
    behind : place ≢ link.place → slice_get link.file.versions place ≡ Some base → length link.file.versions ≡ suc (suc link.place)
        → (nat_eq (suc place) link.place ≡ true) ⊎ (nat_eq (suc place) link.place ≡ false) → ⊥
    behind off was long (inr f) =
        let past : suc place ≢ link.place = λ i. true≢false (sym (eq-eqb (suc place) link.place i) ∙ f) in
        let next_was : slice_get link.file.versions (suc place) ≡ Some next = sym (changed_other (committed link.next.block) link.place (suc place) link.file.versions past) ∙ after in
        let other : Outstanding store = record { object = link.object; file = link.file; place = place; base = base; next = next; listed = link.listed; before = was; after = next_was; nil = nil } in
        let also : length link.file.versions ≡ suc (suc place) = outstanding_is_last c most store places e other in
        off (omega arith)
    behind off was long (inl t) =
        let at : suc place ≡ link.place = eqb-true (suc place) link.place t in
        let next_was : slice_get link.file.versions (suc place) ≡ Some link.base = ap (slice_get link.file.versions) at ∙ link.before in
        let other : Outstanding store = record { object = link.object; file = link.file; place = place; base = base; next = link.base; listed = link.listed; before = was; after = next_was; nil = nil } in
        let also : length link.file.versions ≡ suc (suc place) = outstanding_is_last c most store places e other in
        off (omega arith)

-- a change in one file leaves the links of every other one, and its top
abbrev pub link_elsewhere : (change : LaidVersion → LaidVersion) (object place : ℕ) (store : LaidStore) (link : Outstanding store) → link.object ≢ object → Outstanding (store_with change object place store)
link_elsewhere change object place store link off =
    record {
      object = link.object;
      file = link.file;
      place = link.place;
      base = link.base;
      next = link.next;
      listed = changed_other (file_with change place) object link.object store.files off ∙ link.listed;
      before = link.before;
      after = link.after;
      nil = link.nil;
    }

abbrev pub top_elsewhere : (change : LaidVersion → LaidVersion) (object place : ℕ) (store : LaidStore) (version : LaidVersion) (top : IsTop store version) → top.object ≢ object
    → IsTop (store_with change object place store) version
top_elsewhere change object place store version top off =
    record {
      object = top.object;
      file = top.file;
      listed = changed_other (file_with change place) object top.object store.files off ∙ top.listed;
      last = top.last;
      names = top.names;
    }

-- a version that names members has no link before it that is outstanding
pub top_not_linked : (content : Content) (most : ℕ) (store : LaidStore) (places : List ℕ) → laid content most [] ≡ Ok (store, places)
    → (version : LaidVersion) (top : IsTop store version) (link : Outstanding store) → top.object ≢ link.object
top_not_linked c most store places e version top link same =
    let p : Parts c most store places = parts_of c most store places e in
    let f : Found c c most store places p (λ v. v) link =
    finds c c most store places p (λ v. v) link
    (tops_outcome c c p.root.blocks link.object (λ v. v) (λ v. same_version v) (tops_from 1 p.files) (unlinked p.files) p.in_files p.linked places p.tops) in
    let file : top.file ≡ link.file = some_is (sym top.listed ∙ ap (slice_get store.files) same ∙ link.listed) in
    let last : version ≡ f.z.version =
    some_is (sym top.last ∙ ap (λ (x : LaidFile). last_laid x.versions) (file ∙ f.file_is) ∙ last_past f.z.file.versions f.z.version) in
    true≢false (sym (second_so (is_none f.z.version.commit) (names_none f.z.version) f.z.ends) ∙ ap (λ v. names_none v) (sym last) ∙ top.names)

-- an item of a list with one changed, as it was
record WasAt {X : Type 0} (change : X → X) (xs : List X) (j : ℕ) (x : X) : Type 0 where
  was : X
  listed : slice_get xs j ≡ Some was
  is : (x ≡ was) ⊎ (x ≡ change was)

was_at : {X : Type 0} (change : X → X) (place : ℕ) (xs : List X) (j : ℕ) (x : X) → slice_get (changed_at change place xs) j ≡ Some x → WasAt change xs j x
was_at change place [] j x e = none_some e
was_at change zero (y ∷ xs) zero x e = record { was = y; listed = refl; is = inr (sym (some_is e)) }
was_at change zero (y ∷ xs) (suc j) x e = record { was = x; listed = e; is = inl refl }
was_at change (suc place) (y ∷ xs) zero x e = record { was = x; listed = e; is = inl refl }
was_at change (suc place) (y ∷ xs) (suc j) x e =
    let w : WasAt change xs j x = was_at change place xs j x e in
    record { was = w.was; listed = w.listed; is = w.is }

-- a change that takes no commit reference away
abbrev pub KeepsLinks : (LaidVersion → LaidVersion) → Type 0
KeepsLinks change = (v : LaidVersion) → (change v).commit ≡ None → v.commit ≡ None

-- such a change leaves files linked that were
pub linked_after : (change : LaidVersion → LaidVersion) (place : ℕ) (file : LaidFile) → KeepsLinks change → IsLinked file → IsLinked (file_with change place file)
linked_after change place file keeps linked k base next before after nil =
    let b : WasAt change file.versions k base = was_at change place file.versions k base before in
    let n : WasAt change file.versions (suc k) next = was_at change place file.versions (suc k) next after in
    linked k b.was n.was b.listed n.listed
    (elim b.is [
      | inl e ↦ ap (λ (v : LaidVersion). v.commit) (sym e) ∙ nil
      | inr e ↦ keeps b.was (ap (λ (v : LaidVersion). v.commit) (sym e) ∙ nil)
    ])

pub are_linked_after : (change : LaidVersion → LaidVersion) (object place : ℕ) (store : LaidStore) (members : List MemberValue) → KeepsLinks change
    → AreLinked store members → AreLinked (store_with change object place store) members
are_linked_after change object place store members keeps linked k member file listed there =
    let w : WasAt (file_with change place) store.files (member.object - 1) file = was_at (file_with change place) object store.files (member.object - 1) file there in
    elim w.is [
      | inl e ↦ subst IsLinked (sym e) (linked k member w.was listed w.listed)
      | inr e ↦ subst IsLinked (sym e) (linked_after change place w.was keeps (linked k member w.was listed w.listed))
    ]

pub committed_keeps : (block : ℕ) → KeepsLinks (committed block)
committed_keeps block v e = none_some (sym e)

pub cleared_keeps : KeepsLinks cleared
cleared_keeps v e = e
