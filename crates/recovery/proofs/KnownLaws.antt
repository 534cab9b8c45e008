-- What is told of the files of a store, from what is kept of them; and that each last version is in a block of the store.
use Rattle.std.proofs.Common.{◌≡◌, ◌≢◌, ◌==◌, ℕ, suc, min, ◌+◌, ◌-◌, ◌^◌, ◌<◌, Bool, true, not, List, [], ◌∷◌, length, inl, inr, Option, Some, None, Ok, Err, option_map, refl, sym, ap, subst, ◌∙◌, arith, slice_get}
use Rattle.std.proofs.lemmas.Bool.Decides.{nat_tests}
use Rattle.drives.specs.declared.device.Half.{Half}
use Rattle.pair_store.specs.ContentLaws.{decide}
use Rattle.pair_store.specs.Faults.{IsUnread}
use Rattle.pair_store.specs.declared.store.Blocks.{Ghosts}
use Rattle.afs_base.specs.declared.head.Head.{Head}
use Rattle.store_model.specs.Laid.{LaidVersion, LaidFile, last_laid}
use Rattle.store_model.specs.Members.{longer, tops_from, tops_linked}
use Rattle.store_model.specs.Walk.{Refused}
use Rattle.store_model.specs.Found.{LaidStore, laid, state_of}
use Rattle.store_model.proofs.Steps.{Content, InRange, blocks_of}
use Rattle.store_model.proofs.Rewriting.{same_version}
use Rattle.store_model.proofs.Chaining.{last_from}
use Rattle.store_model.proofs.Filing.{FilesAgain, files_again}
use Rattle.store_model.proofs.LastVersions.{last_is}
use Rattle.store_model.proofs.Stores.{unlinked, Parts, parts_of}
use Rattle.store_model.proofs.Aside.{objects_in, tops_step}
use Rattle.store_model.proofs.Hits.{Outcome, missed, frozen, hit, tops_outcome}
use Rattle.store_model.proofs.Edits.{some_is, last_past}
use Rattle.store_check.specs.declared.chain.FoundFile.{FoundFile}
use Rattle.store_check.specs.declared.version.FoundVersion.{FoundVersion}
use Rattle.store_check.specs.declared.refused.WalkRefused.{WalkRefused}
use Rattle.store_check.specs.declared.refused.WalkRefused.TheVariants.{ReadFault as Unchecked, BadStore as BadCheck, Memory as NoMemory}
use Rattle.store_check.specs.Checked.{Answers}
use Rattle.store_check.specs.Results.{Outcome as Walked}
use Rattle.store_check.specs.Since.{is_past}
use Rattle.store_check.specs.Versions.{shown_of}
use Rattle.store_check.specs.Files.{first_serial, kept_by, unset_base, chain_of, chains_of}
use Rattle.recovery.specs.declared.refused.OpenRefused.TheVariants.{ReadFault}
use Rattle.recovery.specs.Opening.{IsFailed, IsNoStore, IsReadable, head_of, heads_of, refused_check}
use Rattle.recovery.specs.Known.{Knows, head_from, heads_from}
use Rattle.recovery.proofs.Heads.{MapAt, map_at, KeptOf, kept_of}

head_told : (versions : List LaidVersion) → option_map head_from (chain_of versions) ≡ head_of versions
head_told versions = of (last_laid versions)
  where
    of : (o : Option LaidVersion)
        → option_map head_from (option_map (λ (last : LaidVersion). (let c : FoundFile = record { last = shown_of last; first = first_serial versions; unset = unset_base versions; kept = kept_by versions } in c)) o)
        ≡ option_map (λ (last : LaidVersion). (let h : Head = record { block = last.block; first = first_serial versions; serial = last.serial; kept = kept_by versions } in h)) o
    of None = refl
    of (Some v) = refl

pub heads_told : (files : List LaidFile) → heads_from (chains_of files) ≡ heads_of files
heads_told [] = refl
heads_told (file ∷ files) = ap (λ h. h ∷ heads_from (chains_of files)) (head_told file.versions) ∙ ap (λ l. head_of file.versions ∷ l) (heads_told files)

-- the last version of a chain
chain_low : (c : Content) (most : ℕ) (store : LaidStore) (places : List ℕ) (p : Parts c most store places) (k : ℕ) (file : LaidFile) (v : LaidVersion)
    → slice_get p.files k ≡ Some file → last_laid file.versions ≡ Some v → InRange p.root.blocks v.block
chain_low c most store places p k file v listed last =
    let fa : FilesAgain c c p.root.blocks (suc k) 1 k file p.rows p.in_table p.files p.in_files =
    files_again c c p.root.blocks (suc k) 1 k file p.rows p.in_table p.files p.in_files (length file.versions - 1) v (omega arith) p.chains listed last in
    subst (λ (w : LaidVersion). InRange p.root.blocks w.block) (sym (last_is file.versions fa.head fa.rest v fa.list last)) (fa.each (last_from fa.head fa.rest).block fa.last.here)

-- each last version is in a block of the store
pub last_low : (c : Content) (most : ℕ) (store : LaidStore) (places : List ℕ) → laid c most [] ≡ Ok (store, places) → (k : ℕ) (file : LaidFile) (v : LaidVersion)
    → slice_get store.files k ≡ Some file → last_laid file.versions ≡ Some v → v.block < store.root.blocks
last_low c most store places e k file v listed last =
    let p : Parts c most store places = parts_of c most store places e in
    subst (λ (s : LaidStore). v.block < s.root.blocks) (sym p.made)
    (of p (ap (λ (s : LaidStore). slice_get s.files k) (sym p.made) ∙ listed)
    (tops_outcome c c p.root.blocks k (λ w. w) (λ w. same_version w) (tops_from 1 p.files) (unlinked p.files) p.in_files p.linked places p.tops)).1
  where
    of : (p : Parts c most store places) → slice_get p.linked.files k ≡ Some file
        → Outcome c c p.root.blocks k (λ w. w) (tops_linked (blocks_of c p.root.blocks) (tops_from 1 p.files)) (objects_in (tops_from 1 p.files)) (unlinked p.files) p.in_files p.linked places
        → InRange p.root.blocks v.block
    of p there (missed m) =
        chain_low c most store places p k file v
        (sym (tops_step c c p.root.blocks k (tops_from 1 p.files) (unlinked p.files) p.in_files p.linked places (inr (inl m)) p.tops).kept ∙ there) last
    of p there (frozen f) = chain_low c most store places p k file v (sym f.kept ∙ there) last
    of p there (hit z) =
        let same : file ≡ longer z.version z.file = some_is (sym there ∙ z.grown_file) in
        let is : v ≡ z.version = some_is (sym last ∙ ap (λ (f : LaidFile). last_laid f.versions) same ∙ last_past z.file.versions z.version) in
        subst (λ (w : LaidVersion). InRange p.root.blocks w.block) (sym is) (z.again.each z.version.block z.again.here)

pub chain_low_block : (c : Content) (most : ℕ) (store : LaidStore) (places : List ℕ) → laid c most [] ≡ Ok (store, places) → (k : ℕ) (kept : FoundFile)
    → slice_get (chains_of store.files) k ≡ Some (Some kept) → kept.last.block < store.root.blocks
chain_low_block c most store places e k kept is =
    let m : MapAt (λ (file : LaidFile). chain_of file.versions) store.files k (Some kept) = map_at (λ (file : LaidFile). chain_of file.versions) store.files k (Some kept) is in
    let ch : KeptOf m.item.versions kept = kept_of m.item.versions kept m.is in
    subst (λ (n : ℕ). n < store.root.blocks) (ap (λ (v : FoundVersion). v.block) (sym ch.shown)) (last_low c most store places e k m.item ch.last m.listed ch.is)

-- ---- where the check found no store

-- the refusal of a check says the same of what is found
pub refused_knows : (past : Half → Bool) (e : WalkRefused) (outcome : Walked LaidStore) → Answers past (Err e) outcome → Knows (Err (refused_check e)) outcome
refused_knows past (Unchecked half) outcome is = tt
refused_knows past (BadCheck block why) outcome is = is
refused_knows past NoMemory outcome is = tt

pub check_read : (e : WalkRefused) (h : Half) → refused_check e ≡ ReadFault h → e ≡ Unchecked h
check_read (Unchecked half) h is = ap Unchecked (let same : ReadFault half ≡ ReadFault h = is in cc)
check_read (BadCheck block why) h is = absurd cc
check_read NoMemory h is = absurd cc

not_equal : (m n : ℕ) → m ≢ n → not (m == n) ≡ true
not_equal m n off = Prim.grind (arith, nat_tests)

-- a half that failed in a read: in the last call, or where there is no store
pub unread_so : {D : Type 0} (b : Ghosts D) (old new : D) (h : Half) (n : ℕ)
    → IsUnread (b.faults old) (b.faults new) (b.last_fault new) (b.moment new) (b.tells → b.settled old n → b.content old n ≡ None) h
    → (IsReadable b old → is_past b new h ≡ true → (e : Refused) × (laid (b.content old) (b.size old) [] ≡ Err e))
    → IsFailed (b.faults old) (b.faults new) (b.last_fault new) (b.moment new) (IsReadable b old → IsNoStore (b.content old) (b.size old)) h
unread_so b old new h n unread stops =
    record {
      failed = unread.failed;
      last = elim (decide (b.last_fault new h) (b.moment new)) [
        | inl at ↦ inl at
        | inr off ↦ elim unread.last [
          | inl at ↦ inl at
          | inr (at, stood, empty) ↦ inr (
            subst (λ (k : Half). b.moment new ≡ min (b.last_fault new k + 1) (2 ^ 64 - 1)) (sym at) stood,
            λ readable. let s = stops readable (not_equal (b.last_fault new h) (b.moment new) off) in (s.0, ap state_of s.1),
          )
        ]
      ];
    }
