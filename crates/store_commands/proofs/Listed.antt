-- What is listed of the objects of a store that was opened is what its files show.
use Rattle.std.proofs.Common.{◌≡◌, ℕ, zero, suc, ◌+◌, ◌-◌, ◌<◌, ◌≤◌, nat_lt, true, cond, List, [], ◌∷◌, ◌++◌, codes, length, map, take, Option, Some, None, option_map, Result, Ok, Err, OnOk, refl, sym, ap, subst, ◌∙◌, arith, get_or, add-one, append_assoc, append-nil}
use Rattle.std.specs.Fmt.{decimal}
use Rattle.std.specs.List.{flat_map, range_with_len, slice_get}
use Rattle.std.specs.Option.{option_and_then}
use Rattle.std.proofs.lemmas.Bool.Decides.{nat_tests}
use Rattle.std.proofs.lemmas.List.{length-append}
use Rattle.script_text.specs.ReplyText.{spaced}
use Rattle.page_places.specs.Places.{Store, Holds, block_at}
use Rattle.tree_model.specs.Trees.{Tree}
use Rattle.tree_model.specs.States.{File, Version, last_version, serials_of}
use Rattle.store_model.specs.Laid.{LaidVersion, LaidFile, last_laid}
use Rattle.store_model.specs.Laws.{pages_of, page_of_block}
use Rattle.store_model.specs.Found.{file_in, version_in}
use Rattle.store_model.proofs.Chaining.{last_from}
use Rattle.store_model.proofs.LastVersions.{last_get}
use Rattle.store_model.proofs.Lying.{Each}
use Rattle.store_check.specs.Files.{AllLie, FilesLie, kept_by}
use Rattle.pair_store.specs.declared.store.Blocks.{Ghosts}
use Rattle.store_check.specs.Since.{OnlyRead}
use Rattle.recovery.specs.Opening.{head_of, heads_of}
use Rattle.tree_listing.specs.TreeText.{tree_text}
use Rattle.tree_listing.specs.Listing.{AreReadable}
use Rattle.tree_listing.specs.Results.{AppendsTree, Gives}
use Rattle.store_check.specs.declared.refused.WalkRefused.{WalkRefused}
use Rattle.afs_base.specs.declared.head.Head.{Head}
use Rattle.store_commands.specs.Showing.{head_line, head_serials, shown_file, shown_files, version_text}
use Rattle.store_commands.specs.Shows.{AreObjects, IsHeadOf, IsObject}
use Rattle.store_commands.proofs.Kept.{IsKept, last_kept}
use Rattle.store_commands.proofs.Numbering.{IsNumbered, Rises, RisesFrom, last_serial}

-- ---- one object

some_live : (n : ℕ) → nat_lt 0 (suc n) ≡ true
some_live n = Prim.grind (arith, nat_tests)

file_line : (object : ℕ) (head : Head) (versions : List Version) → map (λ (v : Version). v.serial) versions ≡ head_serials head
    → cond (nat_lt 0 (length versions)) (codes "file " ++ (decimal object ++ (codes ":" ++ (flat_map spaced (map (λ (v : Version). v.serial) versions) ++ 10 ∷ [])))) []
    ≡ head_line object head
file_line object head [] e = absurd cc
file_line object head (v ∷ vs) e =
    ap (λ b. cond b (codes "file " ++ (decimal object ++ (codes ":" ++ (flat_map spaced (map (λ (w : Version). w.serial) (v ∷ vs)) ++ 10 ∷ [])))) []) (some_live (length vs))
    ∙ ap (λ (ns : List ℕ). codes "file " ++ (decimal object ++ (codes ":" ++ (flat_map spaced ns ++ 10 ∷ [])))) e

-- a live file
pub shown_live : (object : ℕ) (head : Head) (file : File) (version : Version) → serials_of file ≡ head_serials head → last_version file ≡ Some version
    → shown_file object file ≡ head_line object head ++ tree_text version.tree
shown_live object head file version serials is_last = λ i. file_line object head file.versions serials i ++ version_text (is_last i)

pub shown_none : (object : ℕ) (file : File) → file.versions ≡ [] → shown_file object file ≡ []
shown_none object file e = ap (λ (vs : List Version). shown_file object (let f : File = record { generation = file.generation; secret = file.secret; versions = vs } in f)) e

-- a file with a head's serials, each version having this tree
with_tree : Tree → ℕ → Version
with_tree tree n = record { serial = n; tree = tree; fresh = [] }

abbrev head_file : Head → Tree → File
head_file head tree = record { generation = 0; secret = []; versions = map (with_tree tree) (head_serials head) }

serials_are : (tree : Tree) (ns : List ℕ) → map (λ (v : Version). v.serial) (map (with_tree tree) ns) ≡ ns
unfolding with_tree
serials_are tree [] = refl
serials_are tree (n ∷ ns) = ap (λ xs. n ∷ xs) (serials_are tree ns)

last_with : (tree : Tree) (n : ℕ) (ns : List ℕ) → (m : ℕ) × (slice_get (map (with_tree tree) (n ∷ ns)) (length (map (with_tree tree) ns)) ≡ Some (with_tree tree m))
last_with tree n [] = (n, refl)
last_with tree n (k ∷ ks) = last_with tree k ks

tree_is : (tree : Tree) (n : ℕ) → (with_tree tree n).tree ≡ tree
unfolding with_tree
tree_is tree n = refl

one_less : (n : ℕ) → suc n - 1 ≡ n
one_less n = omega arith

head_shown : (object : ℕ) (head : Head) (tree : Tree) → shown_file object (head_file head tree) ≡ head_line object head ++ tree_text tree
head_shown object head tree =
    let later : List ℕ = range_with_len (head.first + 1) (head.serial - head.first) in
    let last = last_with tree head.first later in
    shown_live object head (head_file head tree) (with_tree tree last.0) (serials_are tree (head_serials head))
    (ap (slice_get (map (with_tree tree) (head_serials head))) (one_less (length (map (with_tree tree) later))) ∙ last.1)
    ∙ ap (λ (t : Tree). head_line object head ++ tree_text t) (tree_is tree last.0)

behind : (old mid new line rest : List ℕ) → mid ≡ old ++ line → new ≡ mid ++ rest → new ≡ old ++ (line ++ rest)
behind old mid new line rest e f = f ∙ ap (λ xs. xs ++ rest) e ∙ append_assoc old line rest

-- the text of some file is appended
pub lines_live : {X : Type 0} (object : ℕ) (head : Head) (old mid new : List ℕ) (result : Result X WalkRefused) → mid ≡ old ++ head_line object head
    → OnOk result (AppendsTree mid new) → OnOk result ((file : File) × (new ≡ old ++ shown_file object file))
lines_live object head old mid new (Ok x) line (tree, text) =
    (head_file head tree, behind old mid new (head_line object head) (tree_text tree) line text ∙ ap (λ xs. old ++ xs) (sym (head_shown object head tree)))
lines_live object head old mid new (Err e) line lines = tt

pub lines_none : (object : ℕ) (old : List ℕ) → (file : File) × (old ≡ old ++ shown_file object file)
lines_none object old = ((let f : File = record { generation = 0; secret = []; versions = [] } in f), sym (append-nil old))

pub shows_none : (object : ℕ) (file : File) (old : List ℕ) → file.versions ≡ [] → old ≡ old ++ shown_file object file
shows_none object file old e = sym (append-nil old) ∙ ap (λ xs. old ++ xs) (sym (shown_none object file e))

gives_as : {X : Type 0} (P Q : Type 0) (result : Result X WalkRefused) → (P → Q) → Gives P result → Gives Q result
gives_as P Q (Ok x) f h = f h
gives_as P Q (Err e) f h = h

-- the text of this file is appended
pub shows_live : {X : Type 0} (object : ℕ) (head : Head) (file : File) (settled : ℕ → Type 0) (size : ℕ) (store : Store) (old mid new : List ℕ) (result : Result X WalkRefused)
    → mid ≡ old ++ head_line object head → (h : IsHeadOf settled size store head file) → Gives (new ≡ mid ++ tree_text h.version.tree) result → Gives (new ≡ old ++ shown_file object file) result
shows_live object head file settled size store old mid new result line h gives =
    gives_as (new ≡ mid ++ tree_text h.version.tree) (new ≡ old ++ shown_file object file) result
    (λ text. behind old mid new (head_line object head) (tree_text h.version.tree) line text
    ∙ ap (λ xs. old ++ xs) (sym (shown_live object head file h.version h.serials h.is_last)))
    gives

-- ---- all objects

pub shown_append : (object : ℕ) (files : List File) (file : File) → shown_files object (files ++ file ∷ []) ≡ shown_files object files ++ shown_file (object + length files) file
shown_append object [] file =
    append-nil (shown_file object file) ∙ ap (λ (n : ℕ). shown_file n file) (let e : object ≡ object + 0 = omega arith in e)
shown_append object (x ∷ xs) file =
    ap (λ t. shown_file object x ++ t) (shown_append (object + 1) xs file ∙ ap (λ (n : ℕ). shown_files (object + 1) xs ++ shown_file n file) (let e : object + 1 + length xs ≡ object + suc (length xs) = omega arith in e))
    ∙ sym (append_assoc (shown_file object x) (shown_files (object + 1) xs) (shown_file (object + suc (length xs)) file))

-- so many objects are listed
pub record FilesListed (old new : List ℕ) (k : ℕ) : Type 0 where
  pub files : List File
  pub count : length files ≡ k
  pub text : new ≡ old ++ shown_files 1 files

pub listed_none : (old : List ℕ) → FilesListed old old 0
listed_none old = record { files = []; count = refl; text = sym (append-nil old) }

pub listed_more : (old mid new : List ℕ) (k : ℕ) → FilesListed old mid k → (file : File) × (new ≡ mid ++ shown_file (k + 1) file) → FilesListed old new (k + 1)
listed_more old mid new k far (file, text) = record {
  files = far.files ++ file ∷ [];
  count = omega (arith, length-append far.files (file ∷ []), far.count);
  text = text ∙ ap (λ xs. xs ++ shown_file (k + 1) file) far.text ∙ append_assoc old (shown_files 1 far.files) (shown_file (k + 1) file)
      ∙ ap (λ (n : ℕ). old ++ (shown_files 1 far.files ++ shown_file n file)) (let e : k + 1 ≡ 1 + length far.files = omega (arith, far.count) in e)
      ∙ ap (λ xs. old ++ xs) (sym (shown_append 1 far.files file));
}

-- the object at a place
pub record ObjectAt (settled : ℕ → Type 0) (size : ℕ) (store : Store) (head : Option Head) (files : List File) (k : ℕ) : Type 0 where
  pub file : File
  pub is : IsObject settled size store head file
  pub more : take (k + 1) files ≡ take k files ++ file ∷ []
  pub count : length (take k files) ≡ k

object_get : (settled : ℕ → Type 0) (size : ℕ) (store : Store) (heads : List (Option Head)) (files : List File) (k : ℕ) (other : Option Head) → k < length heads
    → AreObjects settled size store heads files → (file : File) × IsObject settled size store (get_or heads k other) file × (take (suc k) files ≡ take k files ++ file ∷ []) × (length (take k files) ≡ k)
object_get settled size store [] files k other low h = absurd (omega (arith, low))
object_get settled size store (head ∷ heads) [] k other low h = absurd h
object_get settled size store (head ∷ heads) (file ∷ files) zero other low h = (file, h.0, refl, refl)
object_get settled size store (head ∷ heads) (file ∷ files) (suc k) other low h =
    let x = object_get settled size store heads files k other (omega (arith, low)) h.1 in
    (x.0, x.1, ap (λ xs. file ∷ xs) x.2, ap suc x.3)

pub object_at : (settled : ℕ → Type 0) (size : ℕ) (store : Store) (heads : List (Option Head)) (files : List File) (k : ℕ) (head : Option Head) → head ≡ get_or heads k head → k < length heads
    → AreObjects settled size store heads files → ObjectAt settled size store head files k
object_at settled size store heads files k head is low h =
    let x = object_get settled size store heads files k head low h in
    record { file = x.0; is = subst (λ (o : Option Head). IsObject settled size store o x.0) (sym is) x.1; more = ap (λ (n : ℕ). take n files) (add-one k) ∙ x.2; count = x.3 }

pub told_more : (old mid new : List ℕ) (k : ℕ) (files : List File) (settled : ℕ → Type 0) (size : ℕ) (store : Store) (head : Option Head) (at : ObjectAt settled size store head files k)
    → mid ≡ old ++ shown_files 1 (take k files) → new ≡ mid ++ shown_file (k + 1) at.file → new ≡ old ++ shown_files 1 (take (k + 1) files)
told_more old mid new k files settled size store head at far text =
    text ∙ ap (λ xs. xs ++ shown_file (k + 1) at.file) far ∙ append_assoc old (shown_files 1 (take k files)) (shown_file (k + 1) at.file)
    ∙ ap (λ (n : ℕ). old ++ (shown_files 1 (take k files) ++ shown_file n at.file)) (let e : k + 1 ≡ 1 + length (take k files) = omega (arith, at.count) in e)
    ∙ ap (λ xs. old ++ xs) (sym (shown_append 1 (take k files) at.file) ∙ ap (shown_files 1) (sym at.more))

take_past : {X : Type 0} (xs : List X) (k : ℕ) → length xs ≤ k → take k xs ≡ xs
take_past [] zero h = refl
take_past [] (suc k) h = refl
take_past (x ∷ xs) zero h = absurd (omega (arith, h))
take_past (x ∷ xs) (suc k) h = ap (λ ys. x ∷ ys) (take_past xs k (omega (arith, h)))

as_many : (settled : ℕ → Type 0) (size : ℕ) (store : Store) (heads : List (Option Head)) (files : List File) → AreObjects settled size store heads files → length files ≡ length heads
as_many settled size store [] [] h = refl
as_many settled size store [] (file ∷ files) h = absurd h
as_many settled size store (head ∷ heads) [] h = absurd h
as_many settled size store (head ∷ heads) (file ∷ files) h = ap suc (as_many settled size store heads files h.1)

pub told_end : (old new : List ℕ) (settled : ℕ → Type 0) (size : ℕ) (store : Store) (heads : List (Option Head)) (files : List File) (k : ℕ) → length heads ≤ k → AreObjects settled size store heads files
    → new ≡ old ++ shown_files 1 (take k files) → new ≡ old ++ shown_files 1 files
told_end old new settled size store heads files k past h text =
    text ∙ ap (λ xs. old ++ shown_files 1 xs) (take_past files k (omega (arith, past, as_many settled size store heads files h)))

-- ---- reads leave what is told

module _ {D : Type 0} (g : Ghosts D) where
  same_pages : (a b : D) → OnlyRead g a b → g.tells → pages_of (g.content b) ≡ pages_of (g.content a)
  same_pages a b only told = λ i n. option_and_then page_of_block (only.same told n i)

  readable_on : (a b : D) → OnlyRead g a b → g.tells → (root : ℕ) → AreReadable (g.settled a) (g.size a) (pages_of (g.content a)) root
      → AreReadable (g.settled b) (g.size b) (pages_of (g.content b)) root
  readable_on a b only told root h = record {
    settled_each = λ path n e. (only.kept told n).1 (h.settled_each path n (back path n e));
    low = λ path n e. subst (λ (m : ℕ). n < m) (sym only.size_same) (h.low path n (back path n e));
  }
    where
      back : (path : List ℕ) (n : ℕ) → block_at (pages_of (g.content b)) root path ≡ Some n → block_at (pages_of (g.content a)) root path ≡ Some n
      back path n e = ap (λ (s : Store). block_at s root path) (sym (same_pages a b only told)) ∙ e

  pub object_on : (a b : D) → OnlyRead g a b → g.tells → (head : Option Head) (file : File) → IsObject (g.settled a) (g.size a) (pages_of (g.content a)) head file
      → IsObject (g.settled b) (g.size b) (pages_of (g.content b)) head file
  object_on a b only told None file h = h
  object_on a b only told (Some head) file h = record {
    serials = h.serials;
    version = h.version;
    is_last = h.is_last;
    holds = subst (λ (s : Store). Holds s head.block h.version.tree) (sym (same_pages a b only told)) h.holds;
    readable = readable_on a b only told head.block h.readable;
  }

-- ---- the files that are found

rising_serials : (version : LaidVersion) (rest : List LaidVersion) → RisesFrom version rest
    → map (λ (v : Version). v.serial) (map version_in rest) ≡ range_with_len (version.serial + 1) (length rest)
rising_serials version [] rises = refl
rising_serials version (x ∷ xs) rises =
    λ i. rises.0 i ∷ (rising_serials x xs rises.1 ∙ ap (λ (n : ℕ). range_with_len (n + 1) (length xs)) rises.0) i

last_in_map : (version : LaidVersion) (rest : List LaidVersion) → slice_get (map version_in (version ∷ rest)) (length (map version_in rest)) ≡ Some (version_in (last_from version rest))
last_in_map version [] = refl
last_in_map version (x ∷ xs) = last_in_map x xs

last_of_laid : (version : LaidVersion) (rest : List LaidVersion) → last_laid (version ∷ rest) ≡ Some (last_from version rest)
last_of_laid version rest = ap (slice_get (version ∷ rest)) (one_less (length rest)) ∙ last_get version rest

abbrev chain_head : LaidVersion → List LaidVersion → Head
chain_head version rest = record { block = (last_from version rest).block; first = version.serial; serial = (last_from version rest).serial; kept = kept_by (version ∷ rest) }

head_some : (version : LaidVersion) (rest : List LaidVersion) → head_of (version ∷ rest) ≡ Some (chain_head version rest)
head_some version rest =
    ap (option_map (λ (v : LaidVersion). (let h : Head = record { block = v.block; first = version.serial; serial = v.serial; kept = kept_by (version ∷ rest) } in h))) (last_of_laid version rest)

module _ (store : Store) (count size : ℕ) (settled : ℕ → Type 0) (within : count ≤ size) (each : (n : ℕ) → n < count → settled n) where
  live_object : (file : LaidFile) (version : LaidVersion) (rest : List LaidVersion) → AllLie store count (version ∷ rest) → RisesFrom version rest
      → IsHeadOf settled size store (chain_head version rest) (let f : File = record { generation = file.entry.generation; secret = file.entry.secret; versions = map version_in (version ∷ rest) } in f)
  live_object file version rest lie rises =
      let last : LaidVersion = last_from version rest in
      let kept : IsKept store count last = last_kept store count (version ∷ rest) last lie (last_of_laid version rest) in
      let many : length rest ≡ last.serial - version.serial = omega (arith, last_serial version rest rises) in
      record {
        serials = ap (λ xs. version.serial ∷ xs) (rising_serials version rest rises ∙ ap (range_with_len (version.serial + 1)) many);
        version = version_in last;
        is_last = ap (slice_get (map version_in (version ∷ rest))) (one_less (length (map version_in rest))) ∙ last_in_map version rest;
        holds = kept.holds;
        readable = record {
          settled_each = λ path n e. each n (kept.low path n e);
          low = λ path n e. let l : n < count = kept.low path n e in omega (arith, l, within);
        };
      }

  object_of : (file : LaidFile) (versions : List LaidVersion) → AllLie store count versions → Rises versions
      → IsObject settled size store (head_of versions) (let f : File = record { generation = file.entry.generation; secret = file.entry.secret; versions = map version_in versions } in f)
  object_of file [] lie rises = refl
  object_of file (version ∷ rest) lie rises =
      subst (λ (o : Option Head). IsObject settled size store o (let f : File = record { generation = file.entry.generation; secret = file.entry.secret; versions = map version_in (version ∷ rest) } in f))
      (sym (head_some version rest)) (live_object file version rest lie rises)

  pub objects_of : (files : List LaidFile) → FilesLie store count files → Each IsNumbered files → AreObjects settled size store (heads_of files) (map file_in files)
  objects_of [] lie numbered = tt
  objects_of (file ∷ files) lie numbered = (object_of file file.versions lie.0 numbered.0.rising, objects_of files lie.1 numbered.1)
