-- A store found again from the places of a table that has a block more.
use Rattle.std.proofs.Common.{◌≡◌, ◌⊎◌, inl, inr, ℕ, List, ◌++◌, Ok, refl, sym}
use Rattle.store_model.specs.Tables.{files_from}
use Rattle.store_model.specs.Members.{tops_from, tops_linked}
use Rattle.store_model.specs.Found.{LaidStore}
use Rattle.store_model.proofs.PlaceLists.{IsIn, Apart, in_left, in_right, in_either, in_along}
use Rattle.store_model.proofs.Steps.{Content, blocks_of, InRange, Ran}
use Rattle.store_model.proofs.Locality.{framed_files, framed_tops}
use Rattle.store_model.proofs.Stores.{Parts, unlinked}

pub record Wider (c : Content) (most : ℕ) (store : LaidStore) (places : List ℕ) (p : Parts c most store places) (from : List ℕ) (Extra : ℕ → Type 0) : Type 0 where
  pub in_files : List ℕ
  pub in_all : List ℕ
  pub chains : files_from (blocks_of c p.root.blocks) 1 p.rows from ≡ Ok (p.files, in_files)
  pub tops : tops_linked (blocks_of c p.root.blocks) (tops_from 1 p.files) (unlinked p.files) in_files ≡ Ok (p.linked, in_all)
  pub table_in : (n : ℕ) → IsIn from n → IsIn in_files n
  pub files_in : (n : ℕ) → IsIn in_files n → IsIn in_all n
  pub has : (n : ℕ) → IsIn places n → IsIn in_all n
  pub only : (n : ℕ) → IsIn in_all n → IsIn places n ⊎ Extra n

-- the places of the table are places of the store
pub table_within : (c : Content) (most : ℕ) (store : LaidStore) (places : List ℕ) (p : Parts c most store places) (n : ℕ) → IsIn p.in_table n → IsIn places n
table_within c most store places p n h =
    let f : Ran c c (InRange p.root.blocks) (files_from (blocks_of c p.root.blocks) 1 p.rows) p.in_table p.files p.in_files = (framed_files c c p.root.blocks 1 p.rows).runs p.in_table p.files p.in_files p.chains in
    let t : Ran c c (InRange p.root.blocks) (tops_linked (blocks_of c p.root.blocks) (tops_from 1 p.files) (unlinked p.files)) p.in_files p.linked places =
    (framed_tops c c p.root.blocks (tops_from 1 p.files) (unlinked p.files)).runs p.in_files p.linked places p.tops in
    in_along (t.new ++ p.in_files) places (sym t.grown) n (in_right t.new p.in_files n (in_along (f.new ++ p.in_table) p.in_files (sym f.grown) n (in_right f.new p.in_table n h)))

pub widened : (c : Content) (most : ℕ) (store : LaidStore) (places : List ℕ) (p : Parts c most store places) (from : List ℕ) (Extra : ℕ → Type 0)
    → ((n : ℕ) → IsIn p.in_table n → IsIn from n) → ((n : ℕ) → IsIn from n → IsIn p.in_table n ⊎ Extra n) → ((n : ℕ) → Extra n → IsIn places n → ⊥)
    → Wider c most store places p from Extra
widened c most store places p from Extra wider only free =
    let N : ℕ = p.root.blocks in
    let f : Ran c c (InRange N) (files_from (blocks_of c N) 1 p.rows) p.in_table p.files p.in_files = (framed_files c c N 1 p.rows).runs p.in_table p.files p.in_files p.chains in
    let t : Ran c c (InRange N) (tops_linked (blocks_of c N) (tops_from 1 p.files) (unlinked p.files)) p.in_files p.linked places =
    (framed_tops c c N (tops_from 1 p.files) (unlinked p.files)).runs p.in_files p.linked places p.tops in
    let in_places : (n : ℕ) → IsIn p.in_files n → IsIn places n = λ n h. in_along (t.new ++ p.in_files) places (sym t.grown) n (in_right t.new p.in_files n h) in
    let new_file : (n : ℕ) → IsIn f.new n → IsIn p.in_files n = λ n h. in_along (f.new ++ p.in_table) p.in_files (sym f.grown) n (in_left f.new p.in_table n h) in
    let new_top : (n : ℕ) → IsIn t.new n → IsIn places n = λ n h. in_along (t.new ++ p.in_files) places (sym t.grown) n (in_left t.new p.in_files n h) in
    let table : (n : ℕ) → IsIn p.in_table n → IsIn p.in_files n = λ n h. in_along (f.new ++ p.in_table) p.in_files (sym f.grown) n (in_right f.new p.in_table n h) in
    let off_table : Apart f.new from = λ n h g. elim (only n g) [ inl x ↦ f.apart n h x | inr x ↦ free n x (in_places n (new_file n h)) ] in
    let off_files : Apart t.new (f.new ++ from) =
    λ n h g. elim (in_either f.new from n g) [
      | inl x ↦ t.apart n h (new_file n x)
      | inr x ↦ elim (only n x) [ inl y ↦ t.apart n h (table n y) | inr y ↦ free n y (new_top n h) ]
    ] in
    record {
      in_files = f.new ++ from;
      in_all = t.new ++ (f.new ++ from);
      chains = f.anywhere from off_table (λ n h. refl);
      tops = t.anywhere (f.new ++ from) off_files (λ n h. refl);
      table_in = λ n h. in_right f.new from n h;
      files_in = λ n h. in_right t.new (f.new ++ from) n h;
      has = λ n h. elim (in_either t.new p.in_files n (in_along places (t.new ++ p.in_files) t.grown n h)) [
        | inl x ↦ in_left t.new (f.new ++ from) n x
        | inr x ↦ in_right t.new (f.new ++ from) n (elim (in_either f.new p.in_table n (in_along p.in_files (f.new ++ p.in_table) f.grown n x)) [
          | inl y ↦ in_left f.new from n y
          | inr y ↦ in_right f.new from n (wider n y)
        ])
      ];
      only = λ n h. elim (in_either t.new (f.new ++ from) n h) [
        | inl x ↦ inl (new_top n x)
        | inr x ↦ elim (in_either f.new from n x) [
          | inl y ↦ inl (in_places n (new_file n y))
          | inr y ↦ elim (only n y) [ inl z ↦ inl (in_places n (table n z)) | inr z ↦ inr z ]
        ]
      ];
    }
