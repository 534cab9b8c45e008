-- Each version of a store that is found lies in blocks that the table counts, and the blocks hold its tree.
use Rattle.std.proofs.Common.{◌≡◌, ◌==◌, ℕ, zero, suc, ◌-◌, ◌<◌, Bool, true, false, cond, List, [], ◌∷◌, length, Option, Some, None, option_map, Ok, refl, subst, ◌∙◌, slice_get}
use Rattle.std.specs.List.{AllByRecursion}
use Rattle.page_codec.specs.declared.why.Why.TheVariants.{Member}
use Rattle.page_codec.specs.Values.{MemberValue}
use Rattle.page_places.specs.Places.{Store, Holds, block_at, same}
use Rattle.store_model.specs.Walk.{Blocks}
use Rattle.store_model.specs.Laid.{Node, LaidVersion, LaidFile, block_in, page_in, last_laid}
use Rattle.store_model.specs.Chains.{version_at, chain_from, chain_at}
use Rattle.store_model.specs.Tables.{Row, files_from}
use Rattle.store_model.specs.Members.{Top, Linked, tops_from, last_in, version_linked, member_linked, members_linked, tops_linked}
use Rattle.store_model.specs.Found.{LaidStore, laid_from, laid, version_in}
use Rattle.store_model.specs.Laws.{pages_of}
use Rattle.store_model.proofs.Giving.{Gives, gives_bind, gives_done, gives_refuse, gives_any, gives_if, gives_some}
use Rattle.store_model.proofs.Held.{lies_held}
use Rattle.store_model.proofs.Lying.{Each, IsHeld}
use Rattle.store_model.proofs.Reading.{Content}
use Rattle.store_check.specs.Before.{IsNodeHeld, PagesLie}
use Rattle.store_check.specs.Files.{AllLie, FilesLie}
use Rattle.store_check.specs.Versions.{OneLies}
use Rattle.store_check.proofs.Lying.{version_lies}
use Rattle.store_check.proofs.MemberWalk.{longer_lies, last_lies}

module _ (content : Content) (count : ℕ) where
  abbrev S : Store
  S = pages_of content

  abbrev blocks : Blocks
  blocks = record { content = content; count = count }

  abbrev Lies : LaidVersion → Type 0
  Lies version = PagesLie S count version.block version.nodes

  gives_version : (object namer n : ℕ) (before : Option LaidVersion) → OneLies S count before → Gives (version_at blocks object namer n before) Lies
  gives_version object namer n before lies seen x all e = version_lies content count object namer n before seen all x lies e

  gives_chain_from : (object most : ℕ) (version : LaidVersion) → Lies version → Gives (chain_from blocks object most version) (AllLie S count)
  unfolding chain_from
  gives_chain_from object zero version lies = gives_done (version ∷ []) (AllLie S count) (lies, tt)
  gives_chain_from object (suc most) version lies =
      gives_bind _ _ (AllLie S count) (AllLie S count)
      (gives_some version.commit _ (AllLie S count) tt
      (λ n _. gives_bind _ _ Lies (AllLie S count) (gives_version object version.block n (Some version) lies) (λ next next_lies. gives_chain_from object most next next_lies)))
      (λ later all. gives_done (version ∷ later) (AllLie S count) (lies, all))

  gives_chain : (object namer n : ℕ) → Gives (chain_at blocks object namer n) (AllLie S count)
  unfolding chain_at
  gives_chain object namer n =
      gives_bind _ _ Lies (AllLie S count) (gives_version object namer n None tt) (λ version lies. gives_chain_from object count version lies)

  gives_files : (object : ℕ) (rows : List Row) → Gives (files_from blocks object rows) (FilesLie S count)
  unfolding files_from
  gives_files object [] = gives_done [] (FilesLie S count) tt
  gives_files object (row ∷ others) =
      gives_bind _ _ (AllLie S count) (FilesLie S count) (gives_some row.entry.first _ (AllLie S count) tt (λ n _. gives_chain object row.block n))
      (λ versions all. gives_bind _ _ (FilesLie S count) (FilesLie S count) (gives_files (suc object) others)
      (λ rest each. gives_done _ (FilesLie S count) (all, each)))

  abbrev LinkedLie : Linked → Type 0
  LinkedLie linked = FilesLie S count linked.files

  gives_version_linked : (namer : ℕ) (member : MemberValue) (last : LaidVersion) (files : List LaidFile) → Lies last → FilesLie S count files
      → Gives (version_linked blocks namer member last files) (FilesLie S count)
  unfolding version_linked
  gives_version_linked namer member last files lies each =
      gives_if (last.block == member.block) _ _ (FilesLie S count) (λ _. gives_done files (FilesLie S count) each)
      (λ _. gives_bind _ _ Lies (FilesLie S count) (gives_version member.object namer member.block (Some last) lies)
      (λ version next. gives_bind _ _ (λ _. Unit {0}) (FilesLie S count) (gives_any _)
      (λ _ _. gives_done _ (FilesLie S count) (longer_lies S count (member.object - 1) version files next each))))

  gives_member : (top : Top) (member : MemberValue) (linked : Linked) (last : Option LaidVersion) → OneLies S count last → LinkedLie linked
      → Gives (member_linked blocks top member linked last) LinkedLie
  unfolding member_linked
  gives_member top member linked None lies each = gives_refuse top.version.block Member LinkedLie
  gives_member top member linked (Some last) lies each =
      gives_bind _ _ (λ _. Unit {0}) LinkedLie (gives_any _)
      (λ _ _. gives_bind _ _ (FilesLie S count) LinkedLie (gives_version_linked top.version.block member last linked.files lies each)
      (λ files lie. gives_done _ LinkedLie lie))

  one_last : (object : ℕ) (files : List LaidFile) → FilesLie S count files → OneLies S count (last_in object files)
  one_last object files each = of (last_in object files) refl
    where
      of : (o : Option LaidVersion) → last_in object files ≡ o → OneLies S count o
      of None e = tt
      of (Some last) e = last_lies S count object files last each e

  gives_members : (top : Top) (members : List MemberValue) (linked : Linked) → LinkedLie linked → Gives (members_linked blocks top members linked) LinkedLie
  unfolding members_linked
  gives_members top [] linked each = gives_done _ LinkedLie each
  gives_members top (member ∷ others) linked each =
      gives_bind _ _ LinkedLie LinkedLie (gives_member top member linked (last_in member.object linked.files) (one_last member.object linked.files each) each)
      (λ next lie. gives_members top others next lie)

  gives_tops : (tops : List Top) (linked : Linked) → LinkedLie linked → Gives (tops_linked blocks tops linked) LinkedLie
  unfolding tops_linked
  gives_tops [] linked each = gives_done linked LinkedLie each
  gives_tops (top ∷ others) linked each =
      gives_bind _ _ LinkedLie LinkedLie (gives_members top top.version.members linked each) (λ next lie. gives_tops others next lie)

-- ---- the store

abbrev StoreLies : Content → LaidStore → Type 0
StoreLies content store = FilesLie (pages_of content) store.root.blocks store.files

gives_from : (content : Content) (most : ℕ) (bytes : List ℕ) → Gives (laid_from content most bytes) (StoreLies content)
unfolding laid_from
gives_from content most bytes =
    gives_bind _ _ (λ _. Unit {0}) (StoreLies content) (gives_any _)
    (λ root _. gives_bind _ _ (λ _. Unit {0}) (StoreLies content) (gives_any _)
    (λ _ _. gives_bind _ _ (λ _. Unit {0}) (StoreLies content) (gives_any _)
    (λ rows _. gives_bind _ _ (FilesLie (pages_of content) root.blocks) (StoreLies content) (gives_files content root.blocks 1 rows)
    (λ files each. gives_bind _ _ (LinkedLie content root.blocks) (StoreLies content) (gives_tops content root.blocks (tops_from 1 files) _ each)
    (λ linked lie. gives_done _ (StoreLies content) lie)))))

-- the pages of all versions of a store that is found lie in its blocks
pub files_lie : (content : Content) (most : ℕ) (store : LaidStore) (places : List ℕ) → laid content most [] ≡ Ok (store, places)
    → FilesLie (pages_of content) store.root.blocks store.files
unfolding laid
files_lie content most store places e =
    gives_bind _ _ (λ _. Unit {0}) (StoreLies content) (gives_any _) (λ bytes _. gives_from content most bytes) [] store places e

-- ---- one version

-- the blocks hold the version's tree, and each is one of so many
pub record IsKept (store : Store) (count : ℕ) (version : LaidVersion) : Type 0 where
  pub holds : Holds store version.block (version_in version).tree
  pub low : (path : List ℕ) (b : ℕ) → block_at store version.block path ≡ Some b → b < count

each_held : (store : Store) (count : ℕ) (nodes : List Node) → AllByRecursion (IsNodeHeld store count) nodes → Each (IsHeld store) nodes
each_held store count [] h = tt
each_held store count (x ∷ xs) h = ((h.0.page, h.0.is, h.0.bytes, h.0.level), each_held store count xs h.1)

block_low : (store : Store) (count : ℕ) (path : List ℕ) (b : ℕ) (nodes : List Node) → AllByRecursion (IsNodeHeld store count) nodes → block_in path nodes ≡ Some b → b < count
block_low store count path b [] h e = absurd cc
block_low store count path b (x ∷ xs) h e = of (same path x.path) e (block_low store count path b xs h.1)
  where
    of : (t : Bool) → option_map (λ (node : Node). node.block) (cond t (Some x) (page_in path xs)) ≡ Some b → (block_in path xs ≡ Some b → b < count) → b < count
    of true f rest = let one : x.block ≡ b = cc in subst (λ (n : ℕ). n < count) one h.0.low
    of false f rest = rest f

pub is_kept : (store : Store) (count : ℕ) (version : LaidVersion) → PagesLie store count version.block version.nodes → IsKept store count version
is_kept store count version lies = record {
  holds = lies_held store version (record { lie = lies.lie; held = each_held store count version.nodes lies.held });
  low = λ path b e. block_low store count path b version.nodes lies.held (lies.lie path ∙ e);
}

all_get : {X : Type 0} (P : X → Type 0) (xs : List X) (k : ℕ) (x : X) → AllByRecursion P xs → slice_get xs k ≡ Some x → P x
all_get P [] k x h e = absurd cc
all_get P (y ∷ ys) zero x h e = let one : y ≡ x = cc in subst P one h.0
all_get P (y ∷ ys) (suc k) x h e = all_get P ys k x h.1 e

-- the last version of a file
pub last_kept : (store : Store) (count : ℕ) (versions : List LaidVersion) (last : LaidVersion) → AllLie store count versions → last_laid versions ≡ Some last → IsKept store count last
last_kept store count versions last all e =
    is_kept store count last (all_get (λ (v : LaidVersion). PagesLie store count v.block v.nodes) versions (length versions - 1) last all e)
