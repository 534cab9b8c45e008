-- Each version that is found lies in its blocks, and the blocks hold its tree.
use Rattle.std.proofs.Common.{◌≡◌, ℕ, zero, suc, ◌-◌, ◌==◌, Bool, true, false, cond, List, [], ◌∷◌, length, Option, Some, None, option_map, Ok, refl, sym, ap, subst, ◌∙◌, map, slice_get}
use Rattle.std.specs.Option.{option_and_then}
use Rattle.std.specs.FinMap as finmap
use Rattle.std.specs.FinMap.Entries as entries
use Rattle.std.specs.FinMap.{get-from_entries}
use Rattle.afs_base.specs.Path.{path_cmp}
use Rattle.page_codec.specs.declared.why.Why.TheVariants.{Member}
use Rattle.page_codec.specs.Values.{PageValue, MemberValue}
use Rattle.page_codec.specs.Causes.{version_of}
use Rattle.page_places.specs.Places.{Store, Holds, same}
use Rattle.tree_model.proofs.Paths.{path_total, same_is}
use Rattle.store_model.specs.Walk.{place}
use Rattle.store_model.specs.Laid.{Node, LaidVersion, LaidFile, page_in, last_laid}
use Rattle.store_model.specs.Chains.{version_at, chain_from, chain_at}
use Rattle.store_model.specs.Tables.{Row, files_from}
use Rattle.store_model.specs.Members.{Top, Linked, tops_from, last_in, with_version_at, version_linked, member_linked, members_linked, tops_linked}
use Rattle.store_model.specs.Found.{LaidStore, laid_from, laid, version_in}
use Rattle.store_model.specs.Laws.{pages_of, IsVersionOf}
use Rattle.store_model.proofs.Giving.{Gives, gives_bind, gives_done, gives_refuse, gives_decoded, gives_any, gives_if, gives_some}
use Rattle.store_model.proofs.Reading.{Content, ReadsVersion, reads_version}
use Rattle.store_model.proofs.Lying.{blocks_of, Each, each_append, IsHeld, LieBelow, VersionLies, BeforeLies, own_lies, gives_place, gives_below}

-- the pages of a version lie in its blocks; and so do those of each version of a file, and of each file
abbrev pub Lies : Store → LaidVersion → Type 0
Lies store version = VersionLies store version.block version.nodes

abbrev pub FileLies : Store → LaidFile → Type 0
FileLies store file = Each (Lies store) file.versions

abbrev OneBefore : Store → Option LaidVersion → Type 0
OneBefore store None = Unit {0}
OneBefore store (Some version) = Lies store version

before_lies : (store : Store) (before : Option LaidVersion) → OneBefore store before → BeforeLies store (option_map (λ v. v.nodes) before)
before_lies store None h = tt
before_lies store (Some version) h = (version.block, h)

gives_version : (content : Content) (count object namer block : ℕ) (before : Option LaidVersion) → OneBefore (pages_of content) before
    → Gives (version_at (blocks_of content count) object namer block before) (Lies (pages_of content))
unfolding version_at
gives_version content count object namer block before lies =
    let S : Store = pages_of content in
    gives_bind _ _ (λ bytes. content block ≡ Some bytes) (Lies S) (gives_place content count namer block)
    (λ bytes here. gives_bind _ _ (λ version. version_of bytes ≡ Ok version) (Lies S) (gives_decoded block (version_of bytes))
    (λ version e.
    let reads : ReadsVersion S block version = reads_version content block bytes version here e in
    gives_bind _ _ (λ _. Unit {0}) (Lies S) (gives_any _)
    (λ _ _. gives_bind _ _ (λ _. Unit {0}) (Lies S) (gives_any _)
    (λ _ _. gives_bind _ _ (λ _. Unit {0}) (Lies S) (gives_any _)
    (λ _ _. gives_bind _ _ (LieBelow S [] 0 version.page.refs) (Lies S)
    (gives_below content count (option_map (λ v. v.nodes) before) (before_lies S before lies) 7 block [] version.page reads.page reads.level refl)
    (λ others below.
    gives_done _ (Lies S) (own_lies S [] (record { flags = version.root; block = Some block }) block version.page others reads.page.is reads.level below)))))))

gives_chain_from : (content : Content) (count object most : ℕ) (version : LaidVersion) → Lies (pages_of content) version
    → Gives (chain_from (blocks_of content count) object most version) (Each (Lies (pages_of content)))
unfolding chain_from
gives_chain_from content count object zero version lies = gives_done (version ∷ []) (Each (Lies (pages_of content))) (lies, tt)
gives_chain_from content count object (suc most) version lies =
    let S : Store = pages_of content in
    gives_bind _ _ (Each (Lies S)) (Each (Lies S))
    (gives_some version.commit _ (Each (Lies S)) tt
    (λ block _. gives_bind _ _ (Lies S) (Each (Lies S)) (gives_version content count object version.block block (Some version) lies)
    (λ next next_lies. gives_chain_from content count object most next next_lies)))
    (λ later later_lie. gives_done (version ∷ later) (Each (Lies S)) (lies, later_lie))

gives_chain : (content : Content) (count object namer block : ℕ) → Gives (chain_at (blocks_of content count) object namer block) (Each (Lies (pages_of content)))
unfolding chain_at
gives_chain content count object namer block =
    let S : Store = pages_of content in
    gives_bind _ _ (Lies S) (Each (Lies S)) (gives_version content count object namer block None tt) (gives_chain_from content count object count)

gives_files : (content : Content) (count object : ℕ) (rows : List Row) → Gives (files_from (blocks_of content count) object rows) (Each (FileLies (pages_of content)))
unfolding files_from
gives_files content count object [] = gives_done [] (Each (FileLies (pages_of content))) tt
gives_files content count object (row ∷ others) =
    let S : Store = pages_of content in
    gives_bind _ _ (Each (Lies S)) (Each (FileLies S))
    (gives_some row.entry.first _ (Each (Lies S)) tt (λ block _. gives_chain content count object row.block block))
    (λ versions lie. gives_bind _ _ (Each (FileLies S)) (Each (FileLies S)) (gives_files content count (suc object) others)
    (λ rest rest_lie. gives_done _ (Each (FileLies S)) (lie, rest_lie)))

-- ---- members

pub each_get : {X : Type 0} (P : X → Type 0) (xs : List X) (k : ℕ) (x : X) → Each P xs → slice_get xs k ≡ Some x → P x
each_get P [] k x h e = absurd cc
each_get P (y ∷ xs) zero x h e = let same_one : y ≡ x = cc in subst P same_one h.0
each_get P (y ∷ xs) (suc k) x h e = each_get P xs k x h.1 e

last_lies : (store : Store) (object : ℕ) (files : List LaidFile) (last : LaidVersion) → Each (FileLies store) files → last_in object files ≡ Some last → Lies store last
last_lies store object files last lie e = of (object == 0) e
  where
    in_file : (o : Option LaidFile) → ((file : LaidFile) → o ≡ Some file → FileLies store file)
        → option_and_then (λ file. last_laid file.versions) o ≡ Some last → Lies store last
    in_file None each h = absurd cc
    in_file (Some file) each h = each_get (Lies store) file.versions (length file.versions - 1) last (each file refl) h

    of : (b : Bool) → cond b None (option_and_then (λ file. last_laid file.versions) (slice_get files (object - 1))) ≡ Some last → Lies store last
    of true h = absurd cc
    of false h = in_file (slice_get files (object - 1)) (λ file is. each_get (FileLies store) files (object - 1) file lie is) h

longer_lies : (store : Store) (place : ℕ) (version : LaidVersion) (files : List LaidFile) → Lies store version → Each (FileLies store) files
    → Each (FileLies store) (with_version_at place version files)
longer_lies store place version [] lies each = tt
longer_lies store zero version (file ∷ others) lies each = (each_append (Lies store) file.versions (version ∷ []) each.0 (lies, tt), each.1)
longer_lies store (suc place) version (file ∷ others) lies each = (each.0, longer_lies store place version others lies each.1)

gives_version_linked : (content : Content) (count namer : ℕ) (member : MemberValue) (last : LaidVersion) (files : List LaidFile)
    → Lies (pages_of content) last → Each (FileLies (pages_of content)) files
    → Gives (version_linked (blocks_of content count) namer member last files) (Each (FileLies (pages_of content)))
unfolding version_linked
gives_version_linked content count namer member last files lies each =
    let S : Store = pages_of content in
    gives_if (last.block == member.block) _ _ (Each (FileLies S)) (λ _. gives_done files (Each (FileLies S)) each)
    (λ _. gives_bind _ _ (Lies S) (Each (FileLies S)) (gives_version content count member.object namer member.block (Some last) lies)
    (λ version version_lies. gives_bind _ _ (λ _. Unit {0}) (Each (FileLies S)) (gives_any _)
    (λ _ _. gives_done _ (Each (FileLies S)) (longer_lies S (member.object - 1) version files version_lies each))))

abbrev LinkedLie : Store → Linked → Type 0
LinkedLie store linked = Each (FileLies store) linked.files

gives_member : (content : Content) (count : ℕ) (top : Top) (member : MemberValue) (linked : Linked) (last : Option LaidVersion)
    → OneBefore (pages_of content) last → LinkedLie (pages_of content) linked
    → Gives (member_linked (blocks_of content count) top member linked last) (LinkedLie (pages_of content))
unfolding member_linked
gives_member content count top member linked None lies each = gives_refuse top.version.block Member (LinkedLie (pages_of content))
gives_member content count top member linked (Some last) lies each =
    let S : Store = pages_of content in
    gives_bind _ _ (λ _. Unit {0}) (LinkedLie S) (gives_any _)
    (λ _ _. gives_bind _ _ (Each (FileLies S)) (LinkedLie S) (gives_version_linked content count top.version.block member last linked.files lies each)
    (λ files files_lie. gives_done _ (LinkedLie S) files_lie))

one_before : (store : Store) (object : ℕ) (files : List LaidFile) → Each (FileLies store) files → OneBefore store (last_in object files)
one_before store object files each = of (last_in object files) refl
  where
    of : (o : Option LaidVersion) → last_in object files ≡ o → OneBefore store o
    of None e = tt
    of (Some last) e = last_lies store object files last each e

gives_members : (content : Content) (count : ℕ) (top : Top) (members : List MemberValue) (linked : Linked) → LinkedLie (pages_of content) linked
    → Gives (members_linked (blocks_of content count) top members linked) (LinkedLie (pages_of content))
unfolding members_linked
gives_members content count top [] linked each = gives_done _ (LinkedLie (pages_of content)) each
gives_members content count top (member ∷ others) linked each =
    let S : Store = pages_of content in
    gives_bind _ _ (LinkedLie S) (LinkedLie S)
    (gives_member content count top member linked (last_in member.object linked.files) (one_before S member.object linked.files each) each)
    (λ next next_lie. gives_members content count top others next next_lie)

gives_tops : (content : Content) (count : ℕ) (tops : List Top) (linked : Linked) → LinkedLie (pages_of content) linked
    → Gives (tops_linked (blocks_of content count) tops linked) (LinkedLie (pages_of content))
unfolding tops_linked
gives_tops content count [] linked each = gives_done linked (LinkedLie (pages_of content)) each
gives_tops content count (top ∷ others) linked each =
    let S : Store = pages_of content in
    gives_bind _ _ (LinkedLie S) (LinkedLie S) (gives_members content count top top.version.members linked each)
    (λ next next_lie. gives_tops content count others next next_lie)

-- ---- the store

abbrev StoreLies : Store → LaidStore → Type 0
StoreLies store found = Each (FileLies store) found.files

gives_from : (content : Content) (most : ℕ) (bytes : List ℕ) → Gives (laid_from content most bytes) (StoreLies (pages_of content))
unfolding laid_from
gives_from content most bytes =
    let S : Store = pages_of content in
    gives_bind _ _ (λ _. Unit {0}) (StoreLies S) (gives_any _)
    (λ root _. gives_bind _ _ (λ _. Unit {0}) (StoreLies S) (gives_any _)
    (λ _ _. gives_bind _ _ (λ _. Unit {0}) (StoreLies S) (gives_any _)
    (λ rows _. gives_bind _ _ (Each (FileLies S)) (StoreLies S) (gives_files content root.blocks 1 rows)
    (λ files lie. gives_bind _ _ (LinkedLie S) (StoreLies S) (gives_tops content root.blocks (tops_from 1 files) _ lie)
    (λ linked linked_lie. gives_done _ (StoreLies S) linked_lie)))))

gives_store : (content : Content) (most : ℕ) → Gives (laid content most) (StoreLies (pages_of content))
unfolding laid
gives_store content most = gives_bind _ _ (λ _. Unit {0}) (StoreLies (pages_of content)) (gives_any _) (λ bytes _. gives_from content most bytes)

-- ---- what lies is held

-- the entry of a tree made of pages
found_data : (p : List ℕ) (nodes : List Node)
    → entries.find path_cmp p (map (λ (node : Node). (node.path, node.bytes)) nodes) ≡ option_map (λ (node : Node). node.bytes) (page_in p nodes)
found_data p [] = refl
found_data p (x ∷ xs) = of (same p x.path) (found_data p xs)
  where
    of : (b : Bool) → entries.find path_cmp p (map (λ (node : Node). (node.path, node.bytes)) xs) ≡ option_map (λ (node : Node). node.bytes) (page_in p xs)
        → cond b (Some x.bytes) (entries.find path_cmp p (map (λ (node : Node). (node.path, node.bytes)) xs)) ≡ option_map (λ (node : Node). node.bytes) (cond b (Some x) (page_in p xs))
    of true rest = refl
    of false rest = rest

-- the page that is found at a path is one of these, and is at the path
pub record FoundIn (P : Node → Type 0) (p : List ℕ) (node : Node) : Type 0 where
  pub has : P node
  pub at : p ≡ node.path

found_in : (P : Node → Type 0) (p : List ℕ) (nodes : List Node) (node : Node) → Each P nodes → page_in p nodes ≡ Some node → FoundIn P p node
found_in P p [] node each e = absurd cc
found_in P p (x ∷ xs) node each e = of (same p x.path) refl e (found_in P p xs node each.1)
  where
    of : (b : Bool) → same p x.path ≡ b → cond b (Some x) (page_in p xs) ≡ Some node → (page_in p xs ≡ Some node → FoundIn P p node) → FoundIn P p node
    of true is h rest =
        let same_one : x ≡ node = cc in
        record { has = subst P same_one each.0; at = same_is p x.path is ∙ ap (λ n. n.path) same_one }
    of false is h rest = rest h

pub lies_held : (store : Store) (version : LaidVersion) → Lies store version → Holds store version.block (version_in version).tree
lies_held store version lies =
    record {
      page = λ p b at. by_page p b (page_in p version.nodes) refl (lies.lie p ∙ at);
      gone = λ p none. get_is p ∙ by_none p (page_in p version.nodes) (lies.lie p ∙ none);
    }
  where
    get_is : (p : List ℕ) → finmap.get (version_in version).tree p ≡ option_map (λ (node : Node). node.bytes) (page_in p version.nodes)
    get_is p = get-from_entries path_total (map (λ (node : Node). (node.path, node.bytes)) version.nodes) p ∙ found_data p version.nodes

    by_none : (p : List ℕ) (o : Option Node) → option_map (λ (node : Node). node.block) o ≡ None → option_map (λ (node : Node). node.bytes) o ≡ None
    by_none p None h = refl
    by_none p (Some node) h = absurd cc

    by_page : (p : List ℕ) (b : ℕ) (o : Option Node) → page_in p version.nodes ≡ o → option_map (λ (node : Node). node.block) o ≡ Some b
        → (page : PageValue) × (store b ≡ Some page) × (finmap.get (version_in version).tree p ≡ Some page.bytes) × (page.level ≡ length p)
    by_page p b None is h = absurd cc
    by_page p b (Some node) is h =
        let f : FoundIn (IsHeld store) p node = found_in (IsHeld store) p version.nodes node lies.held is in
        let block : node.block ≡ b = cc in
        let held : IsHeld store node = f.has in (
          held.0,
          ap store (sym block) ∙ held.1,
          get_is p ∙ ap (option_map (λ (n : Node). n.bytes)) is ∙ ap Some (sym held.2),
          held.3 ∙ ap length (sym f.at),
        )

pub versions_are_held :
    (content : Content) (most : ℕ) (found : LaidStore) (places : List ℕ) → laid content most [] ≡ Ok (found, places)
    → (version : LaidVersion) → IsVersionOf found version → Holds (pages_of content) version.block (version_in version).tree
versions_are_held content most found places e version is =
    let S : Store = pages_of content in
    let all : StoreLies S found = gives_store content most [] found places e in
    lies_held S version (each_get (Lies S) is.file.versions is.place version (each_get (FileLies S) found.files is.object is.file all is.listed) is.kept)
