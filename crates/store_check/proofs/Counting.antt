-- The places of a store that is found: how many there are, that none is there twice, and where each is.
use Rattle.std.proofs.Common.{◌≡◌, ℕ, Bool, true, false, ◌||◌, nat_eq, List, [], ◌∷◌, Result, Ok, Err, refl, sym, ap, subst, ◌∙◌, arith, append-nil}
use Rattle.std.specs.List.{AllByRecursion, IsDistinct, list_any}
use Rattle.drives.specs.declared.device.Half.{Half}
use Rattle.page_codec.specs.Values.{RootValue, TableValue}
use Rattle.store_model.specs.Walk.{Blocks}
use Rattle.store_model.specs.Members.{tops_from}
use Rattle.store_model.specs.Found.{LaidStore}
use Rattle.store_model.proofs.PlaceLists.{IsIn, Distinct, in_head, in_tail}
use Rattle.store_model.proofs.Steps.{Content, blocks_of, InRange, Ran, Framed, Passed, passed, framed_bind, framed_done}
use Rattle.store_model.proofs.Locality.{framed_rows, framed_files, framed_tops}
use Rattle.store_model.proofs.Giving.{Gives, gives_bind, gives_done, gives_any}
use Rattle.store_check.specs.Counts.{IsPlace, AreCounted, PlacesAreCounted}
use Rattle.store_check.specs.declared.refused.WalkRefused.{WalkRefused}
use Rattle.store_check.specs.declared.checking.Checked.{Checked}
use Rattle.store_check.specs.declared.checking.Found.{Found}
use Rattle.store_check.specs.Files.{chains_of}
use Rattle.store_check.specs.Results.{Shows, StopsBy}
use Rattle.store_check.specs.Checked.{root_from, walk_from, Answers, IsEnded, LikeTable}
use Rattle.store_check.proofs.Adding.{adds_walk}
use Rattle.store_check.proofs.WholeWalk.{laid_is, root_gives}

framed_walk : (c d : Content) (count : ℕ) (root : RootValue) → Framed c d (InRange count) (walk_from (blocks_of c count) root) (walk_from (blocks_of d count) root)
unfolding walk_from
framed_walk c d count root =
    framed_bind c d _ _ _ _ (framed_rows c d count root)
    (λ rows. framed_bind c d _ _ _ _ (framed_files c d count 1 rows)
    (λ files. framed_bind c d _ _ _ _ (framed_tops c d count (tops_from 1 files) _) (λ linked. framed_done c d _)))

root_stays : (blocks : Blocks) (root : RootValue) → Gives (walk_from blocks root) (λ store. store.root ≡ root)
unfolding walk_from
root_stays blocks root =
    gives_bind _ _ (λ _. Unit {0}) (λ store. store.root ≡ root) (gives_any _)
    (λ rows _. gives_bind _ _ (λ _. Unit {0}) (λ store. store.root ≡ root) (gives_any _)
    (λ files _. gives_bind _ _ (λ _. Unit {0}) (λ store. store.root ≡ root) (gives_any _)
    (λ linked _. gives_done _ (λ store. store.root ≡ root) refl)))

none_equal : (n : ℕ) (ns : List ℕ) → (IsIn ns n → ⊥) → AllByRecursion (λ m. nat_eq n m ≡ false) ns
none_equal n [] h = tt
none_equal n (m ∷ ms) h = (of (nat_eq n m) refl, none_equal n ms (λ i. h (in_tail m n ms i)))
  where
    of : (b : Bool) → nat_eq n m ≡ b → nat_eq n m ≡ false
    of true e = absurd (h (ap (λ b. b || list_any (nat_eq n) ms) e))
    of false e = e

is_distinct : (ns : List ℕ) → Distinct ns → IsDistinct nat_eq ns
unfolding IsDistinct
is_distinct [] d = tt
is_distinct (n ∷ ns) d = (none_equal n ns d.0, is_distinct ns d.1)

each_by_recursion : (P : ℕ → Type 0) (ns : List ℕ) → ((n : ℕ) → IsIn ns n → P n) → AllByRecursion P ns
each_by_recursion P [] each = tt
each_by_recursion P (n ∷ ns) each = (each n (in_head n ns), each_by_recursion P ns (λ m i. each m (in_tail n m ns i)))

walk_counted : (content : Content) (root : RootValue) (store : LaidStore) (places : List ℕ) → walk_from (blocks_of content root.blocks) root [] ≡ Ok (store, places) → AreCounted store places
walk_counted content root store places e =
    let ran : Ran content content (InRange root.blocks) (walk_from (blocks_of content root.blocks) root) [] store places = (framed_walk content content root.blocks root).runs [] store places e in
    let all : places ≡ ran.new = ran.grown ∙ append-nil ran.new in
    let size : root.blocks ≡ store.root.blocks = ap (λ (r : RootValue). r.blocks) (sym (root_stays (blocks_of content root.blocks) root [] store places e)) in
    record {
      number = Prim.omega (arith, (adds_walk (blocks_of content root.blocks) root).runs [] store places e);
      distinct = subst (IsDistinct nat_eq) (sym all) (is_distinct ran.new ran.distinct);
      each = subst (λ (n : ℕ). AllByRecursion (IsPlace n) places) size
          (subst (AllByRecursion (IsPlace root.blocks)) (sym all) (each_by_recursion (IsPlace root.blocks) ran.new ran.each));
    }

pub places_are_counted : PlacesAreCounted
places_are_counted content most store places e =
    let p : Passed (root_from content most []) (λ root. walk_from (blocks_of content root.blocks) root) store places = passed _ _ store places (sym (laid_is content most []) ∙ e) in
    let none : p.places ≡ [] = (root_gives content most [] p.places p.value p.first).3 in
    walk_counted content p.value store places (subst (λ (ns : List ℕ). walk_from (blocks_of content p.value.blocks) p.value ns ≡ Ok (store, places)) none p.second)

-- what a walk over a store shows
abbrev pub StoreShown : (Half → Bool) → Content → ℕ → RootValue → List ℕ → Result Found WalkRefused → List ℕ → Type 0
StoreShown past content count root places found after =
    Shows past (λ (found : Found) (store : LaidStore). LikeTable found.table store × (found.linked.chains.items ≡ chains_of store.files) × (store.root ≡ root)) found
    (walk_from (blocks_of content count) root places) after

-- the answer to a walk that ended so
pub ended_answers : (past : Half → Bool) (content : Content) (root : RootValue) (found : Result Found WalkRefused) (count : ℕ) (places : List ℕ) (result : Result Checked WalkRefused) → count ≡ root.blocks
    → IsEnded found count places result
    → StoreShown past content root.blocks root [] found places
    → Answers past result (walk_from (blocks_of content root.blocks) root [])
ended_answers past content root (Ok found) count places (Ok checked) size ended (store, (table, heads, root_is), is) =
    let total = (adds_walk (blocks_of content root.blocks) root).runs [] store places is in
    let blocks : root.blocks ≡ store.root.blocks = ap (λ (r : RootValue). r.blocks) (sym root_is) in (
      store,
      places,
      is,
      record {
        table = subst (λ (t : TableValue). LikeTable t store) (sym ended.0) table;
        size = ended.2 ∙ size ∙ blocks;
        map = ended.3;
        heads = ap (λ h. h.items) ended.1 ∙ heads;
        free = Prim.omega (arith, ended.4, total, size, blocks);
      },
    )
ended_answers past content root (Ok found) count places (Err e) size ended shows = absurd ended
ended_answers past content root (Err e) count places (Ok checked) size ended shows = absurd ended
ended_answers past content root (Err e) count places (Err f) size ended shows = subst (λ (g : WalkRefused). StopsBy g past (walk_from (blocks_of content root.blocks) root [])) (sym ended) shows
