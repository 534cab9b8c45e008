-- The pages of each version that is found lie in its blocks, and those are places.
use Rattle.std.proofs.Common.{◌≡◌, ◌⊎◌, inl, inr, ℕ, zero, suc, ◌-◌, nat_eq, true, false, List, [], ◌∷◌, ◌++◌, length, Option, Some, None, Ok, sym, ap, ◌∙◌, subst, eqb-true, slice_get}
use Rattle.std.proofs.lemmas.Bool.{eqb-false}
use Rattle.tree_model.proofs.Paths.{told}
use Rattle.page_codec.specs.Values.{MemberValue}
use Rattle.store_model.specs.Walk.{bind, done, if_some}
use Rattle.store_model.specs.Laid.{LaidVersion, LaidFile}
use Rattle.store_model.specs.Chains.{chain_at}
use Rattle.store_model.specs.Tables.{Row, files_from}
use Rattle.store_model.specs.Members.{Top, Linked, longer, members_linked, tops_linked, tops_from}
use Rattle.store_model.specs.Found.{LaidStore, laid}
use Rattle.store_model.specs.Laws.{pages_of, IsVersionOf}
use Rattle.store_model.specs.Changes.{changed_at}
use Rattle.store_model.proofs.PlaceLists.{IsIn}
use Rattle.store_model.proofs.Steps.{Content, blocks_of, Passed, passed, same_value}
use Rattle.store_model.proofs.Edits.{some_is, none_some, changed_same, changed_other, get_more, get_past}
use Rattle.store_model.proofs.Held.{Lies}
use Rattle.store_model.proofs.Linking.{InFile, in_file, MemberRan, member_step}
use Rattle.store_model.proofs.Aside.{member_run}
use Rattle.store_model.proofs.Stores.{Parts, parts_of, unlinked}
use Rattle.store_changes.specs.Stands.{IsPageOf}
use Rattle.store_changes.proofs.Again.{version_lies}
use Rattle.store_changes.proofs.Entries.{here_from, filed, Filed, files_step, no_files}
use Rattle.store_changes.proofs.Reached.{reached_in}
use Rattle.store_changes.proofs.InPlaces.{pages_are_places}

-- each version of each of these files lies in its blocks
abbrev FilesLie : Content → List LaidFile → Type 0
FilesLie c files =
    (k : ℕ) (file : LaidFile) (j : ℕ) (version : LaidVersion) → slice_get files k ≡ Some file → slice_get file.versions j ≡ Some version → Lies (pages_of c) version

here_lies : (c : Content) (count object : ℕ) (row : Row) (seen : List ℕ) (vs : List LaidVersion) (all : List ℕ) → here_from c count object row seen ≡ Ok (vs, all)
    → (j : ℕ) (version : LaidVersion) → slice_get vs j ≡ Some version → Lies (pages_of c) version
unfolding if_some done
here_lies c count object row seen vs all e j version at = of row.entry.first e
  where
    of : (o : Option ℕ) → if_some o (λ block. chain_at (blocks_of c count) object row.block block) seen ≡ Ok (vs, all) → Lies (pages_of c) version
    of None h = none_some (ap (λ l. slice_get l j) (same_value seen all [] vs h) ∙ at)
    of (Some b) h = (reached_in c count object row.block b j seen vs all version h at).lies

table_lies : (c : Content) (count object : ℕ) (rows : List Row) (seen : List ℕ) (files : List LaidFile) (all : List ℕ)
    → files_from (blocks_of c count) object rows seen ≡ Ok (files, all) → FilesLie c files
table_lies c count object [] seen files all e k file j version listed at = none_some (ap (λ l. slice_get l k) (no_files c count object seen files all e) ∙ listed)
table_lies c count object (row ∷ rows) seen files all e zero file j version listed at =
    let f : Filed c count object row rows seen files all = files_step c count object row rows seen files all e in
    let is : filed row f.versions ≡ file = some_is (ap (λ l. slice_get l 0) (sym f.list) ∙ listed) in
    here_lies c count object row seen f.versions f.mid f.here j version (ap (λ (x : LaidFile). slice_get x.versions j) is ∙ at)
table_lies c count object (row ∷ rows) seen files all e (suc k) file j version listed at =
    let f : Filed c count object row rows seen files all = files_step c count object row rows seen files all e in
    table_lies c count (suc object) rows f.mid f.rest all f.goes k file j version (ap (λ l. slice_get l (suc k)) (sym f.list) ∙ listed) at

longer_lies : (c : Content) (files : List LaidFile) (n : ℕ) (file : LaidFile) (version : LaidVersion) → FilesLie c files → slice_get files n ≡ Some file → Lies (pages_of c) version
    → FilesLie c (changed_at (longer version) n files)
longer_lies c files n file version lie here lies k other j v listed at = by (told (nat_eq k n))
  where
    by : (nat_eq k n ≡ true) ⊎ (nat_eq k n ≡ false) → Lies (pages_of c) v
    by (inr apart) = lie k other j v (sym (changed_other (longer version) n k files (eqb-false k n apart)) ∙ listed) at
    by (inl same) =
        let is : longer version file ≡ other =
        some_is (sym (changed_same (longer version) n files file here) ∙ ap (slice_get (changed_at (longer version) n files)) (sym (eqb-true k n same)) ∙ listed) in
        let there : slice_get (file.versions ++ version ∷ []) j ≡ Some v = ap (λ (x : LaidFile). slice_get x.versions j) is ∙ at in
        elim (told (nat_eq j (length file.versions))) [
          | inl t ↦ subst (Lies (pages_of c)) (some_is (sym (get_past file.versions version) ∙ ap (slice_get (file.versions ++ version ∷ [])) (sym (eqb-true j (length file.versions) t)) ∙ there)) lies
          | inr f ↦ lie n file j v here (get_more file.versions version j v there (eqb-false j (length file.versions) f))
        ]

member_lies : (c : Content) (count : ℕ) (top : Top) (member : MemberValue) (linked : Linked) (seen : List ℕ) (after : Linked) (all : List ℕ)
    → FilesLie c linked.files → MemberRan c count top member linked seen after all → FilesLie c after.files
member_lies c count top member linked seen after all lie r = elim r.how [
  | inl x ↦ subst (FilesLie c) (sym x.keeps) lie
  | inr x ↦
      let f : InFile member.object linked.files r.last = in_file member.object linked.files r.last r.is in
      subst (FilesLie c) (sym x.extends)
      (longer_lies c linked.files (member.object - 1) f.file x.version lie f.listed
      (version_lies c count member.object top.version.block member.block (Some r.last) (lie (member.object - 1) f.file (length f.file.versions - 1) r.last f.listed f.is) seen x.version all x.read))
]

members_lie : (c : Content) (count : ℕ) (top : Top) (members : List MemberValue) (linked : Linked) (seen : List ℕ) (after : Linked) (all : List ℕ)
    → FilesLie c linked.files → members_linked (blocks_of c count) top members linked seen ≡ Ok (after, all) → FilesLie c after.files
unfolding members_linked bind done
members_lie c count top [] linked seen after all lie e =
    subst (λ (l : Linked). FilesLie c l.files) (same_value seen all (record linked { named = top.object ∷ linked.named }) after e) lie
members_lie c count top (member ∷ others) linked seen after all lie e =
    let p : Passed (member_run c count top member linked seen) (members_linked (blocks_of c count) top others) after all =
    passed (member_run c count top member linked seen) (members_linked (blocks_of c count) top others) after all e in
    members_lie c count top others p.value p.places after all
    (member_lies c count top member linked seen p.value p.places lie (member_step c count top member linked seen p.value p.places p.first)) p.second

tops_lie : (c : Content) (count : ℕ) (tops : List Top) (linked : Linked) (seen : List ℕ) (after : Linked) (all : List ℕ)
    → FilesLie c linked.files → tops_linked (blocks_of c count) tops linked seen ≡ Ok (after, all) → FilesLie c after.files
unfolding tops_linked bind done
tops_lie c count [] linked seen after all lie e = subst (λ (l : Linked). FilesLie c l.files) (same_value seen all linked after e) lie
tops_lie c count (top ∷ others) linked seen after all lie e =
    let p : Passed (members_linked (blocks_of c count) top top.version.members linked seen) (tops_linked (blocks_of c count) others) after all =
    passed (members_linked (blocks_of c count) top top.version.members linked seen) (tops_linked (blocks_of c count) others) after all e in
    tops_lie c count others p.value p.places after all (members_lie c count top top.version.members linked seen p.value p.places lie p.first) p.second

-- the pages of each version that is found lie in its blocks
pub versions_lie : (c : Content) (most : ℕ) (store : LaidStore) (places : List ℕ) → laid c most [] ≡ Ok (store, places)
    → (version : LaidVersion) → IsVersionOf store version → Lies (pages_of c) version
versions_lie c most store places e version is =
    let p : Parts c most store places = parts_of c most store places e in
    tops_lie c p.root.blocks (tops_from 1 p.files) (unlinked p.files) p.in_files p.linked places
    (table_lies c p.root.blocks 1 p.rows p.in_table p.files p.in_files p.chains) p.tops
    is.object is.file is.place version (ap (λ (s : LaidStore). slice_get s.files is.object) (sym p.made) ∙ is.listed) is.kept

-- the block of each page of a version is a place
pub nodes_are_places : (c : Content) (most : ℕ) (store : LaidStore) (places : List ℕ) → laid c most [] ≡ Ok (store, places)
    → (version : LaidVersion) → IsVersionOf store version → (n : ℕ) → IsPageOf version n → IsIn places n
nodes_are_places c most store places e version is n page =
    pages_are_places c most store places e version is page.0 n (sym ((versions_lie c most store places e version is).lie page.0) ∙ page.1)
