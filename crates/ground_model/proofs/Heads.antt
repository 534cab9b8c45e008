-- What is told of the files after a commit of one of them.
use Rattle.std.proofs.Common.{◌≡◌, ℕ, zero, suc, ◌+◌, ◌-◌, List, [], ◌∷◌, ◌++◌, map, length, Option, Some, refl, sym, ap, ◌∙◌, arith, slice_get}
use Rattle.std.specs.Prelude.{option_map, slice_set}
use Rattle.std.proofs.lemmas.List.Sums.{sum_by-cons, sum_by_push}
use Rattle.std.proofs.lemmas.Option.{slice_get-map}
use Rattle.afs_base.specs.declared.head.Head.{Head}
use Rattle.recovery.specs.Opening.{head_of, heads_of}
use Rattle.store_check.specs.Files.{first_serial, kept_by, own_pages}
use Rattle.store_model.specs.Changes.{changed_at, committed, file_committed}
use Rattle.store_model.specs.Found.{LaidStore}
use Rattle.store_model.specs.Laid.{LaidFile, LaidVersion, last_laid}
use Rattle.store_model.proofs.Edits.{some_is, none_some}
use Rattle.ground_model.specs.Commits.{head_after}
use Rattle.ground_model.proofs.Committed.{last_now}

-- the list with one item changed, each item told by a function
told_changed : {X Y : Type 0} (tell : X → Y) (change : X → X) (k : ℕ) (xs : List X) (x : X) → slice_get xs k ≡ Some x
    → map tell (changed_at change k xs) ≡ slice_set (map tell xs) k (tell (change x))
told_changed tell change k [] x h = refl
told_changed tell change zero (y ∷ ys) x h = ap (λ z. tell (change z) ∷ map tell ys) (some_is h)
told_changed tell change (suc k) (y ∷ ys) x h = ap (λ zs. tell y ∷ zs) (told_changed tell change k ys x h)

-- what is told of a file whose last version this is
abbrev pub told_of : List LaidVersion → LaidVersion → Head
told_of versions last = record { block = last.block; first = first_serial versions; serial = last.serial; kept = kept_by versions }

pub told : (versions : List LaidVersion) (last : LaidVersion) → last_laid versions ≡ Some last → head_of versions ≡ Some (told_of versions last)
told versions last is = ap (option_map (told_of versions)) is

pub first_same : (block k : ℕ) (versions : List LaidVersion) (base next : LaidVersion) → slice_get versions k ≡ Some base
    → first_serial (changed_at (committed block) k versions ++ next ∷ []) ≡ first_serial versions
first_same block k [] base next h = none_some h
first_same block zero (v ∷ vs) base next h = refl
first_same block (suc k) (v ∷ vs) base next h = refl

pub kept_same : (block k : ℕ) (versions : List LaidVersion) → kept_by (changed_at (committed block) k versions) ≡ kept_by versions
kept_same block k [] = refl
kept_same block zero (v ∷ vs) =
    let one : kept_by (committed block v ∷ vs) ≡ own_pages v + kept_by vs = sum_by-cons own_pages (committed block v) vs in
    let two : kept_by (v ∷ vs) ≡ own_pages v + kept_by vs = sum_by-cons own_pages v vs in
    one ∙ sym two
kept_same block (suc k) (v ∷ vs) =
    let rest : kept_by (changed_at (committed block) k vs) ≡ kept_by vs = kept_same block k vs in
    let one : kept_by (v ∷ changed_at (committed block) k vs) ≡ own_pages v + kept_by (changed_at (committed block) k vs) = sum_by-cons own_pages v (changed_at (committed block) k vs) in
    let two : kept_by (v ∷ vs) ≡ own_pages v + kept_by vs = sum_by-cons own_pages v vs in
    one ∙ ap (λ n. own_pages v + n) rest ∙ sym two

pub same_head : (a b : Head) → a.block ≡ b.block → a.first ≡ b.first → a.serial ≡ b.serial → a.kept ≡ b.kept → a ≡ b
same_head a b block first serial kept =
    ap (λ n. (let h : Head = record { block = n; first = a.first; serial = a.serial; kept = a.kept } in h)) block
    ∙ ap (λ n. (let h : Head = record { block = b.block; first = n; serial = a.serial; kept = a.kept } in h)) first
    ∙ ap (λ n. (let h : Head = record { block = b.block; first = b.first; serial = n; kept = a.kept } in h)) serial
    ∙ ap (λ n. (let h : Head = record { block = b.block; first = b.first; serial = b.serial; kept = n } in h)) kept

module _ (store : LaidStore) (object block : ℕ) (next : LaidVersion) (file : LaidFile) (base : LaidVersion) (listed : slice_get store.files object ≡ Some file) (last : last_laid file.versions ≡ Some base) where
  abbrev olds : List LaidVersion
  olds = changed_at (committed block) (length file.versions - 1) file.versions

  -- the file of a commit is told anew, and the others as they were
  pub heads_now : (heads : List (Option Head)) (head : Head) → heads ≡ heads_of store.files → slice_get heads object ≡ Some (Some head) → (own : ℕ) → own_pages next ≡ own
      → next.serial ≡ base.serial + 1
      → slice_set heads object (Some (head_after head next.block own)) ≡ heads_of (changed_at (file_committed block next) object store.files)
  heads_now heads head are here own pages serial =
      ap (λ hs. slice_set hs object (Some (head_after head next.block own))) are
      ∙ ap (slice_set (heads_of store.files) object) (sym now_is)
      ∙ sym (told_changed (λ (f : LaidFile). head_of f.versions) (file_committed block next) object store.files file listed)
    where
      was : told_of file.versions base ≡ head
      was =
          let there : Some (head_of file.versions) ≡ Some (Some head) =
          sym (slice_get-map (λ (f : LaidFile). head_of f.versions) store.files object ∙ ap (option_map (λ (f : LaidFile). head_of f.versions)) listed)
          ∙ ap (λ hs. slice_get hs object) (sym are) ∙ here in
          some_is (sym (told file.versions base last) ∙ some_is there)

      kept_is : kept_by (olds ++ next ∷ []) ≡ head.kept + own
      kept_is =
          let grown : kept_by (olds ++ next ∷ []) ≡ kept_by olds + own_pages next = sum_by_push own_pages olds next in
          let same : kept_by olds ≡ kept_by file.versions = kept_same block (length file.versions - 1) file.versions in
          let before : kept_by file.versions ≡ head.kept = ap (λ (h : Head). h.kept) was in
          omega (arith, grown, same, before, pages)

      serial_is : next.serial ≡ head.serial + 1
      serial_is = (let before : base.serial ≡ head.serial = ap (λ (h : Head). h.serial) was in omega (arith, serial, before))

      now_is : head_of (olds ++ next ∷ []) ≡ Some (head_after head next.block own)
      now_is =
          told (olds ++ next ∷ []) next (last_now store object block next file base listed last)
          ∙ ap Some (same_head (told_of (olds ++ next ∷ []) next) (head_after head next.block own) refl
          (first_same block (length file.versions - 1) file.versions base next last ∙ ap (λ (h : Head). h.first) was) serial_is kept_is)
