-- A commit of one file and of several, file by file.
use Rattle.std.proofs.Common.{◌≡◌, ℕ, suc, ◌-◌, ◌==◌, ◌&&◌, not, Bool, true, false, nat_eq, List, [], ◌∷◌, ◌++◌, map, length, inl, inr, Option, None, Ok, refl, sym, ap, ◌∙◌, eqb-true, true≢false}
use Rattle.std.specs.List.{list_any}
use Rattle.std.specs.Option.{is_none}
use Rattle.std.proofs.lemmas.List.{map-append}
use Rattle.tree_model.proofs.Paths.{told, both_true}
use Rattle.tree_model.specs.States.{State, File}
use Rattle.store_model.specs.Walk.{done}
use Rattle.store_model.specs.Laid.{LaidVersion, LaidFile}
use Rattle.store_model.specs.Members.{Top, Linked, names_none, longer, with_version_at, members_linked}
use Rattle.store_model.specs.Found.{LaidStore, version_in, file_in, state_in, laid, found}
use Rattle.store_model.specs.Changes.{Rewrites, with_commit, committed, changed_at, file_committed, files_committed, NextVersion, with_version}
use Rattle.store_model.specs.Together.{News, IsNext, with_news, AreNext, with_all}
use Rattle.store_model.proofs.PlaceLists.{IsIn}
use Rattle.store_model.proofs.Steps.{Content, blocks_of, went_on, same_value}
use Rattle.store_model.proofs.Edits.{map_changed, map_changes, longer_is}
use Rattle.store_model.proofs.Linking.{extended_goes, member_goes}
use Rattle.store_model.proofs.Aside.{member_run}
use Rattle.store_model.proofs.Committing.{none_of, alone, committing_together}

not_false : (b : Bool) → not b ≡ true → b ≡ false
not_false true h = sym h
not_false false h = refl

none_named : (o : Option ℕ) → o ≡ None → is_none o ≡ true
none_named o e = ap is_none e

-- the files and the objects that are named, with all of them
abbrev pub linked_with : List News → Linked → Linked
linked_with [] linked = linked
linked_with (news ∷ others) linked = linked_with others (with_news news linked)

-- the members are linked as these next versions
pub members_next : (c : Content) (count : ℕ) (top : Top) (news : List News) (linked : Linked) (seen all : List ℕ) → AreNext (blocks_of c count) top news linked seen all
    → members_linked (blocks_of c count) top (map (λ x. x.member) news) linked seen
    ≡ Ok ((let l : Linked = record (linked_with news linked) { named = top.object ∷ (linked_with news linked).named } in l), all)
unfolding members_linked done
members_next c count top [] linked seen all h = ap (λ l. Ok ((let m : Linked = record linked { named = top.object ∷ linked.named } in m), l)) (sym h)
members_next c count top (x ∷ others) linked seen all h =
    let n : IsNext (blocks_of c count) top x linked h.0 seen h.1 = h.2 in
    let unnamed : IsIn linked.named x.member.object → ⊥ = λ i. true≢false (sym i ∙ not_false (list_any (nat_eq x.member.object) linked.named) n.unnamed) in
    let off : (h.0.block == x.member.block) ≡ false =
    elim (told (h.0.block == x.member.block)) [ inl t ↦ absurd (n.moved (eqb-true h.0.block x.member.block t)) | inr f ↦ f ] in
    let ends : (is_none x.version.commit && names_none x.version) ≡ true = both_true (is_none x.version.commit) (names_none x.version) (none_named x.version.commit n.nil) n.few in
    let one : member_run c count top x.member linked seen ≡ Ok (with_news x linked, h.1) =
    member_goes c count top x.member linked.files (changed_at (longer x.version) (x.member.object - 1) linked.files) linked.named h.0 seen h.1 n.live n.other n.none unnamed
    (extended_goes c count top.version.block x.member h.0 x.version linked.files seen h.1 off n.read ends)
    ∙ ap (λ files. Ok ((let l : Linked = record { files = files; named = x.member.object ∷ linked.named } in l), h.1)) (sym (longer_is (x.member.object - 1) x.version linked.files)) in
    went_on (member_run c count top x.member linked) (members_linked (blocks_of c count) top (map (λ y. y.member) others)) seen (with_news x linked) h.1 _ one
    (members_next c count top others (with_news x linked) h.1 all h.3)

-- what is found of a file with one more version
found_longer : (version : LaidVersion) (k : ℕ) (files : List LaidFile)
    → map file_in (with_version_at k version files) ≡ changed_at (λ file. record file { versions = file.versions ++ version_in version ∷ [] }) k (map file_in files)
found_longer version k files =
    ap (map file_in) (longer_is k version files)
    ∙ map_changes file_in (longer version) (λ file. record file { versions = file.versions ++ version_in version ∷ [] }) k files
    (λ file. ap (λ versions. record (file_in file) { versions = versions }) (map-append version_in file.versions (version ∷ [])))

found_committed : (block : ℕ) (version : LaidVersion) (k : ℕ) (files : List LaidFile)
    → map file_in (changed_at (file_committed block version) k files) ≡ changed_at (λ file. record file { versions = file.versions ++ version_in version ∷ [] }) k (map file_in files)
found_committed block version k files =
    map_changes file_in (file_committed block version) (λ file. record file { versions = file.versions ++ version_in version ∷ [] }) k files
    (λ file. ap (λ versions. record (file_in file) { versions = versions })
    (map-append version_in (changed_at (committed block) (length file.versions - 1) file.versions) (version ∷ [])
    ∙ ap (λ l. l ++ version_in version ∷ []) (map_changed version_in (committed block) (length file.versions - 1) file.versions (λ v. refl))))

abbrev state_as : State → List File → State
state_as state files = record state { files = files }

found_all : (news : List News) (linked : Linked) (state : State) → state_as state (map file_in (linked_with news linked).files) ≡ with_all news (state_as state (map file_in linked.files))
found_all [] linked state = refl
found_all (x ∷ others) linked state =
    found_all others (with_news x linked) state
    ∙ ap (λ files. with_all others (state_as state files)) (found_longer x.version (x.member.object - 1) linked.files)

pub committing_all : (c d : Content) (most : ℕ) (store : LaidStore) (places : List ℕ) → laid c most [] ≡ Ok (store, places)
    → (next : NextVersion c store places) (news : List News) → map (λ x. x.member) news ≡ next.version.members
    → AreNext (blocks_of c store.root.blocks) (record { object = suc next.object; version = next.version }) news (files_committed next.object next.block next.version store) next.own next.after
    → Rewrites c d next.base.block (with_commit next.block)
    → found d most ≡ Ok (with_all news (with_version next.object (version_in next.version) (state_in store)))
committing_all c d most store places e next news are tried rw =
    let top : Top = record { object = suc next.object; version = next.version } in
    let start : Linked = files_committed next.object next.block next.version store in
    let end : Linked = record (linked_with news start) { named = top.object ∷ (linked_with news start).named } in
    let run : members_linked (blocks_of c store.root.blocks) top next.version.members start next.own ≡ Ok (end, next.after) =
    ap (λ l. members_linked (blocks_of c store.root.blocks) top l start next.own) (sym are) ∙ members_next c store.root.blocks top news start next.own next.after tried in
    let same : end ≡ next.linked = same_value next.after next.after end next.linked (sym run ∙ next.members) in
    (committing_together c d most store places e next rw).1
    ∙ ap (λ (l : Linked). Ok (state_as (state_in store) (map file_in l.files))) (sym same)
    ∙ ap (λ s. Ok s) (found_all news start (state_in store))
    ∙ ap (λ files. Ok (with_all news (state_as (state_in store) files))) (found_committed next.block next.version next.object store.files)

-- where the next version names no members, it comes alone
pub committing_appends : (c d : Content) (most : ℕ) (store : LaidStore) (places : List ℕ) → laid c most [] ≡ Ok (store, places)
    → (next : NextVersion c store places) → names_none next.version ≡ true → Rewrites c d next.base.block (with_commit next.block)
    → found d most ≡ Ok (with_version next.object (version_in next.version) (state_in store))
committing_appends c d most store places e next none rw =
    let start : Linked = files_committed next.object next.block next.version store in
    let only : (next.linked.files ≡ start.files) × (next.after ≡ next.own) =
    alone c store.root.blocks (record { object = suc next.object; version = next.version }) next.version.members start next.own next.linked next.after
    (none_of next.version.members none) next.members in
    (committing_together c d most store places e next rw).1
    ∙ ap (λ files. Ok (state_as (state_in store) (map file_in files))) only.0
    ∙ ap (λ files. Ok (state_as (state_in store) files)) (found_committed next.block next.version next.object store.files)
