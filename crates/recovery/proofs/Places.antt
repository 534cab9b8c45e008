-- The places of a store: each is one of its blocks, and contents that agree on these stand for the store too.
use Rattle.std.proofs.Common.{◌≡◌, ℕ, ◌<◌, ◌≤◌, List, [], ◌++◌, Ok, inl, inr, sym, subst, ◌∙◌, append-nil, leb-true}
use Rattle.store_model.specs.Members.{tops_from}
use Rattle.store_model.specs.Found.{LaidStore, laid}
use Rattle.store_model.proofs.PlaceLists.{IsIn, in_along, in_either, in_right}
use Rattle.store_model.proofs.Steps.{Content, InRange, Ran}
use Rattle.store_model.proofs.Locality.{framed_rows, framed_files, framed_tops, laid_alike}
use Rattle.store_model.proofs.Stores.{unlinked, Parts, parts_of}

-- each place that was found is a block of the store
pub places_ranged : (c : Content) (most : ℕ) (store : LaidStore) (places : List ℕ) → laid c most [] ≡ Ok (store, places) → (n : ℕ) → IsIn places n
    → InRange store.root.blocks n
places_ranged c most store places e n is_in =
    let p : Parts c most store places = parts_of c most store places e in
    let count : ℕ = p.root.blocks in
    let one : Ran c c (InRange count) _ [] p.rows p.in_table = (framed_rows c c count p.root).runs [] p.rows p.in_table p.table in
    let two : Ran c c (InRange count) _ p.in_table p.files p.in_files = (framed_files c c count 1 p.rows).runs p.in_table p.files p.in_files p.chains in
    let three : Ran c c (InRange count) _ p.in_files p.linked places =
    (framed_tops c c count (tops_from 1 p.files) (unlinked p.files)).runs p.in_files p.linked places p.tops in
    subst (λ (s : LaidStore). InRange s.root.blocks n) (sym p.made)
    (elim (in_either three.new p.in_files n (in_along places (three.new ++ p.in_files) three.grown n is_in)) [
      | inl here ↦ three.each n here
      | inr before ↦ elim (in_either two.new p.in_table n (in_along p.in_files (two.new ++ p.in_table) two.grown n before)) [
        | inl here ↦ two.each n here
        | inr table ↦ one.each n (in_along p.in_table one.new (one.grown ∙ append-nil one.new) n table)
      ]
    ])

-- a place of the files is a place
pub in_files_in : (c : Content) (most : ℕ) (store : LaidStore) (places : List ℕ) (p : Parts c most store places) (n : ℕ) → IsIn p.in_files n → IsIn places n
in_files_in c most store places p n is_in =
    let three : Ran c c (InRange p.root.blocks) _ p.in_files p.linked places =
    (framed_tops c c p.root.blocks (tops_from 1 p.files) (unlinked p.files)).runs p.in_files p.linked places p.tops in
    in_along (three.new ++ p.in_files) places (sym three.grown) n (in_right three.new p.in_files n is_in)

-- contents that agree on block 0 and on the blocks of the store stand for it too
pub laid_again : (c d : Content) (most : ℕ) (store : LaidStore) (places : List ℕ) → laid c most [] ≡ Ok (store, places) → d 0 ≡ c 0
    → ((n : ℕ) → n < store.root.blocks → d n ≡ c n) → laid d most [] ≡ Ok (store, places)
laid_again c d most store places e table same =
    laid_alike c d most store places e (sym table) (λ n i. sym (same n (places_ranged c most store places e n i).1))

-- the store fits on its halves
pub laid_fits : (c : Content) (most : ℕ) (store : LaidStore) (places : List ℕ) → laid c most [] ≡ Ok (store, places) → store.root.blocks ≤ most
laid_fits c most store places e =
    let p : Parts c most store places = parts_of c most store places e in
    subst (λ (s : LaidStore). s.root.blocks ≤ most) (sym p.made) (leb-true p.root.blocks most p.few)
