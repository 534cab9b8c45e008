-- The tree that the blocks of a version hold, and that a write of the table leaves the page that each block shows.
use Rattle.std.proofs.Common.{◌≡◌, ◌≢◌, ◌⊎◌, inl, inr, ℕ, List, [], Option, Some, None, option_map, Ok, refl, sym, ap, ◌∙◌, subst, arith}
use Rattle.std.specs.Option.{option_and_then}
use Rattle.std.specs.FinMap as map
use mathlib.Core.Path.{fun_ext}
use Rattle.page_codec.specs.Values.{PageValue, VersionValue, EntryValue}
use Rattle.page_codec.specs.Causes.{version_of}
use Rattle.page_places.specs.Places.{Store, Holds, block_at}
use Rattle.tree_model.specs.Trees.{Tree}
use Rattle.tree_model.proofs.Paths.{path_total, path_only}
use Rattle.store_model.specs.Found.{LaidStore, laid, version_in}
use Rattle.store_model.specs.Laid.{LaidVersion}
use Rattle.store_model.specs.Laws.{pages_of, page_of_block, IsVersionOf}
use Rattle.store_model.specs.Changes.{version_in_block, Rewrites}
use Rattle.store_model.proofs.Held.{versions_are_held}
use Rattle.store_model.proofs.Reading.{reads_version}
use Rattle.store_changes.specs.Writes.{Content, WritesEntry, InNewPart}
use Rattle.store_changes.proofs.Shown.{Told, told_of, tables_show_no_page, parts_show_no_page}
use Rattle.store_changes.proofs.InPlaces.{root_there}

-- two trees that the same blocks hold are one
pub one_tree : (store : Store) (root : ℕ) (a b : Tree) → Holds store root a → Holds store root b → a ≡ b
one_tree store root a b h g = map.same_map path_total path_only a b (λ p. of p (block_at store root p) refl)
  where
    of : (p : List ℕ) (o : Option ℕ) → block_at store root p ≡ o → map.get a p ≡ map.get b p
    of p None is = h.gone p is ∙ sym (g.gone p is)
    of p (Some n) is =
        let x = h.page p n is in
        let y = g.page p n is in
        let one : Some x.0 ≡ Some y.0 = sym x.1 ∙ y.1 in
        x.2 ∙ ap (option_map (λ (page : PageValue). page.bytes)) one ∙ sym y.2

-- two versions in one block, each of a store over blocks that show the same pages, have one tree
pub trees_alike : (c d : Content) (most : ℕ) (store after : LaidStore) (places order : List ℕ)
    → laid c most [] ≡ Ok (store, places) → laid d most [] ≡ Ok (after, order) → pages_of c ≡ pages_of d
    → (v w : LaidVersion) → IsVersionOf store v → IsVersionOf after w → w.block ≡ v.block → (version_in w).tree ≡ (version_in v).tree
trees_alike c d most store after places order e f same v w is are block =
    one_tree (pages_of d) w.block (version_in w).tree (version_in v).tree (versions_are_held d most after order f w are)
    (subst (λ b. Holds (pages_of d) b (version_in v).tree) (sym block)
    (subst (λ (s : Store). Holds s v.block (version_in v).tree) same (versions_are_held c most store places e v is)))

same_or_not : (m n : ℕ) → (m ≡ n) ⊎ (m ≢ n)
same_or_not m n = grind arith

-- where a block that shows no page is written with what shows none, each block shows what it did
beside_shown : (c d : Content) (block : ℕ) → pages_of c block ≡ None → pages_of d block ≡ None → ((n : ℕ) → n ≢ block → c n ≡ d n) → pages_of c ≡ pages_of d
beside_shown c d block was is others = fun_ext (λ n. elim (same_or_not n block) [
  | inl e ↦ ap (pages_of c) e ∙ was ∙ sym (ap (pages_of d) e ∙ is)
  | inr h ↦ ap (option_and_then page_of_block) (others n h)
])

-- a write of the table
pub pages_stay : (c d : Content) (most : ℕ) (store : LaidStore) (places : List ℕ) → laid c most [] ≡ Ok (store, places)
    → (k : ℕ) (entry : EntryValue) → WritesEntry c d store.root k entry → pages_of c ≡ pages_of d
pages_stay c d most store places e k entry (inl w) =
    beside_shown c d 0 (tables_show_no_page c 0 store.root (root_there c most store places e)) (tables_show_no_page d 0 _ w.is) w.others
pages_stay c d most store places e k entry (inr w) =
    beside_shown c d w.block (parts_show_no_page c w.part w.block w.entries w.was) (parts_show_no_page d w.part w.block _ w.is) w.others

-- and with a new part
part_stays : (c d : Content) (most : ℕ) (store : LaidStore) (places : List ℕ) → laid c most [] ≡ Ok (store, places)
    → (k : ℕ) (entry : EntryValue) → InNewPart c d store.root places k entry → pages_of c ≡ pages_of d
part_stays c d most store places e k entry w =
    beside_shown c d 0 (tables_show_no_page c 0 store.root (root_there c most store places e)) (tables_show_no_page d 0 _ w.is) w.others

pub entries_show_the_same : (c d : Content) (most : ℕ) (store : LaidStore) (places : List ℕ) → laid c most [] ≡ Ok (store, places)
    → (k : ℕ) (entry : EntryValue) → WritesEntry c d store.root k entry ⊎ InNewPart c d store.root places k entry → (n : ℕ) → pages_of d n ≡ pages_of c n
entries_show_the_same c d most store places e k entry (inl w) n = ap (λ (s : Store). s n) (sym (pages_stay c d most store places e k entry w))
entries_show_the_same c d most store places e k entry (inr w) n = ap (λ (s : Store). s n) (sym (part_stays c d most store places e k entry w))

-- the page that a version page shows
page_shown : (c : Content) (block : ℕ) (page : VersionValue) → version_in_block c block ≡ Some page → pages_of c block ≡ Some page.page
page_shown c block page e =
    let t : Told (c block) version_of page = told_of version_of (c block) page e in
    (reads_version c block t.bytes page t.holds t.reads).page.is

pub links_show_the_same : (c d : Content) (block : ℕ) (change : VersionValue → VersionValue) → Rewrites c d block change
    → ((page : VersionValue) → (change page).page ≡ page.page) → (n : ℕ) → pages_of d n ≡ pages_of c n
links_show_the_same c d block change w keeps n = elim (same_or_not n block) [
  | inl e ↦ ap (pages_of d) e ∙ page_shown d block (change w.page) w.is ∙ ap Some (keeps w.page) ∙ sym (page_shown c block w.page w.was) ∙ ap (pages_of c) (sym e)
  | inr h ↦ ap (option_and_then page_of_block) (sym (w.others n h))
]
