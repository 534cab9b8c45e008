-- What a write leaves: the store, where the block is no place; blocks of kept versions, when a file is pruned; and versions, when one is committed.
use Rattle.std.proofs.Common.{◌≡◌, ◌≢◌, inl, inr, ℕ, suc, ◌+◌, ◌-◌, ◌≤◌, nat_eq, false, List, [], ◌∷◌, ◌++◌, length, take, Some, Ok, refl, sym, ap, ◌∙◌, subst, arith, eqb-true, true≢false, slice_get}
use Rattle.std.proofs.lemmas.Bool.{eqb-false}
use Rattle.std.specs.List.{list_any}
use Rattle.tree_model.proofs.Paths.{told}
use Rattle.store_model.specs.Laid.{LaidVersion, LaidFile, block_in}
use Rattle.store_model.specs.Members.{Top, members_linked}
use Rattle.store_model.specs.Found.{LaidStore, laid, version_in}
use Rattle.store_model.specs.Laws.{pages_of, IsVersionOf}
use Rattle.page_places.specs.Places.{Store, block_at}
use Rattle.store_model.specs.Changes.{Rewrites, with_commit, changed_at, committed, file_committed, files_committed, NextVersion, LiesIn}
use Rattle.store_model.proofs.PlaceLists.{IsIn}
use Rattle.store_model.proofs.Steps.{blocks_of, same_value}
use Rattle.store_model.proofs.Locality.{laid_alike}
use Rattle.store_model.proofs.Edits.{changed_same, changed_other, get_append}
use Rattle.store_model.proofs.Committing.{committing_together}
use Rattle.store_changes.specs.Writes.{Content, WritesEntry}
use Rattle.store_changes.specs.Stands.{IsPageOf, IsPageOfAny, IsThere, IsThereWhole, own_in}
use Rattle.store_changes.specs.Pruning.{Kept, begun_at, Pruned}
use Rattle.store_changes.proofs.Alike.{head_same}
use Rattle.store_changes.proofs.TopsAlike.{with_more, TopsLike, members_alike}
use Rattle.store_changes.proofs.Trees.{pages_stay}
use Rattle.store_changes.proofs.Versions.{versions_lie, nodes_are_places}
use Rattle.store_changes.proofs.Pruning.{pruning_keeps}

-- ---- a block that is no place

pub free_blocks_are_free : (c d : Content) (most : ℕ) (store : LaidStore) (places : List ℕ) → laid c most [] ≡ Ok (store, places)
    → (block : ℕ) → 1 ≤ block → list_any (nat_eq block) places ≡ false → ((n : ℕ) → n ≢ block → c n ≡ d n) → laid d most [] ≡ Ok (store, places)
free_blocks_are_free c d most store places e block low free others =
    laid_alike c d most store places e (others 0 (λ z. omega (arith, z, low)))
    (λ n h. others n (λ z. true≢false (sym (subst (IsIn places) z h) ∙ free)))

-- ---- blocks of kept versions

pub kept_are_kept : (c d : Content) (most : ℕ) (store : LaidStore) (places : List ℕ) → laid c most [] ≡ Ok (store, places)
    → (object place : ℕ) (kept : Kept store object place) → WritesEntry c d store.root object (begun_at kept.first.block kept.file.entry)
    → (i : ℕ) (version : LaidVersion) → slice_get kept.file.versions (place + i) ≡ Some version
    → (n : ℕ) → IsPageOf version n → IsPageOfAny (take place kept.file.versions) n → IsPageOf kept.first n
kept_are_kept c d most store places e object place kept written i version at n page old =
    let pr : Pruned d most store places object place kept = pruning_keeps c d most store places e object place kept written in
    let shown : pages_of c ≡ pages_of d = pages_stay c d most store places e object (begun_at kept.first.block kept.file.entry) written in
    let t : IsThere pr.stands.store object i version = pr.there i version at in
    let before : IsVersionOf store version = record { object = object; file = kept.file; place = place + i; listed = kept.listed; kept = at } in
    let after : IsVersionOf pr.stands.store t.again = record { object = object; file = t.file; place = i; listed = t.listed; kept = t.kept } in
    let same : block_in page.0 t.again.nodes ≡ block_in page.0 version.nodes =
    (versions_lie d most pr.stands.store pr.stands.order pr.stands.lies t.again after).lie page.0
    ∙ ap (λ b. block_at (pages_of d) b page.0) t.block ∙ ap (λ (s : Store). block_at s version.block page.0) (sym shown)
    ∙ sym ((versions_lie c most store places e version before).lie page.0) in
    let place_now : IsIn pr.stands.order n = nodes_are_places d most pr.stands.store pr.stands.order pr.stands.lies t.again after n (page.0, same ∙ page.1) in
    ((pr.stands.places n).0 place_now).1 old

-- ---- versions

-- a version that is there in a list with one commit reference set, and more behind
record ThereStill (vs : List LaidVersion) (j : ℕ) (version : LaidVersion) : Type 0 where
  again : LaidVersion
  listed : slice_get vs j ≡ Some again
  serial : again.serial ≡ version.serial
  block : again.block ≡ version.block
  tree : (version_in again).tree ≡ (version_in version).tree
  nodes : again.nodes ≡ version.nodes

with_reference : (block place : ℕ) (vs ys : List LaidVersion) (j : ℕ) (version : LaidVersion) → slice_get vs j ≡ Some version
    → ThereStill (changed_at (committed block) place vs ++ ys) j version
with_reference block place vs ys j version at = elim (told (nat_eq j place)) [
  | inl t ↦ record {
    again = committed block version;
    listed = get_append (changed_at (committed block) place vs) ys j (committed block version)
        (ap (slice_get (changed_at (committed block) place vs)) (eqb-true j place t)
        ∙ changed_same (committed block) place vs version (ap (slice_get vs) (sym (eqb-true j place t)) ∙ at));
    serial = refl;
    block = refl;
    tree = refl;
    nodes = refl;
  }
  | inr f ↦ record {
    again = version;
    listed = get_append (changed_at (committed block) place vs) ys j version (changed_other (committed block) place j vs (eqb-false j place f) ∙ at);
    serial = refl;
    block = refl;
    tree = refl;
    nodes = refl;
  }
]

-- a file of the store with the next version of one of its files
record FileThen (files : List LaidFile) (k j : ℕ) (version : LaidVersion) : Type 0 where
  file : LaidFile
  listed : slice_get files k ≡ Some file
  there : ThereStill file.versions j version

file_then : (files : List LaidFile) (object block : ℕ) (next : LaidVersion) (k j : ℕ) (file : LaidFile) (version : LaidVersion)
    → slice_get files k ≡ Some file → slice_get file.versions j ≡ Some version → FileThen (changed_at (file_committed block next) object files) k j version
file_then files object block next k j file version listed at = elim (told (nat_eq k object)) [
  | inl t ↦ record {
    file = file_committed block next file;
    listed = ap (slice_get (changed_at (file_committed block next) object files)) (eqb-true k object t)
        ∙ changed_same (file_committed block next) object files file (ap (slice_get files) (sym (eqb-true k object t)) ∙ listed);
    there = with_reference block (length file.versions - 1) file.versions (next ∷ []) j version at;
  }
  | inr f ↦ record {
    file = file;
    listed = changed_other (file_committed block next) object k files (eqb-false k object f) ∙ listed;
    there = record { again = version; listed = at; serial = refl; block = refl; tree = refl; nodes = refl };
  }
]

pub commits_keep_versions : (c d : Content) (most : ℕ) (store : LaidStore) (places : List ℕ) → laid c most [] ≡ Ok (store, places)
    → (next : NextVersion c store places) → Rewrites c d next.base.block (with_commit next.block)
    → (after : LaidStore) (order : List ℕ) → laid d most [] ≡ Ok (after, order)
    → (version : LaidVersion) (is : IsVersionOf store version) → IsThereWhole after is.object is.place version
commits_keep_versions c d most store places e next rw after order f version is =
    let lies : LiesIn d most (record store { files = next.linked.files }) next.after = (committing_together c d most store places e next rw).0 in
    let now : LaidStore = record store { files = next.linked.files } in
    let after_is : now ≡ after = same_value lies.order order now after (sym lies.laid ∙ f) in
    let one : FileThen (changed_at (file_committed next.block next.version) next.object store.files) is.object is.place version =
    file_then store.files next.object next.block next.version is.object is.place is.file version is.listed is.kept in
    let top : Top = record { object = suc next.object; version = next.version } in
    let tl : TopsLike (members_linked (blocks_of c store.root.blocks) top next.version.members) is.object one.file one.file
    (files_committed next.object next.block next.version store) next.own next.linked next.after =
    members_alike c store.root.blocks is.object top next.version.members one.file one.file (files_committed next.object next.block next.version store) next.own next.linked next.after
    one.listed (λ last h. (last, h, head_same last)) next.members in
    record {
      there = record {
        file = with_more one.file tl.more;
        again = one.there.again;
        listed = ap (λ (s : LaidStore). slice_get s.files is.object) (sym after_is) ∙ tl.listed;
        kept = get_append one.file.versions tl.more is.place one.there.again one.there.listed;
        serial = one.there.serial;
        block = one.there.block;
        tree = one.there.tree;
      };
      own = λ path. ap (own_in path) one.there.nodes;
    }
