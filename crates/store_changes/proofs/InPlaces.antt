-- Each page to which a version leads lies in a place of the store: were it elsewhere, its block could hold nothing, and the version would still be held.
use Rattle.std.proofs.Common.{◌≡◌, ◌⊎◌, inl, inr, ℕ, Bool, true, false, cond, nat_eq, List, [], ◌∷◌, Option, Some, None, Ok, refl, sym, ap, ◌∙◌, subst, eqb-true, eq-eqb, true≢false}
use Rattle.std.specs.Option.{option_and_then}
use Rattle.std.specs.List.{list_any}
use Rattle.page_codec.specs.Values.{PageValue}
use Rattle.page_places.specs.Places.{Store, block_at, slot_block}
use Rattle.tree_model.proofs.Paths.{told}
use Rattle.store_model.specs.Laid.{LaidVersion}
use Rattle.store_model.specs.Found.{LaidStore, laid}
use Rattle.store_model.specs.Laws.{pages_of, page_of_block, read_of, IsVersionOf}
use Rattle.store_model.specs.NewStores.{root_in_block}
use Rattle.store_model.proofs.PlaceLists.{IsIn}
use Rattle.store_model.proofs.Held.{versions_are_held}
use Rattle.store_model.proofs.Locality.{laid_alike}
use Rattle.store_model.proofs.Stores.{Parts, parts_of}
use Rattle.page_codec.specs.TableReading.{root_of}
use Rattle.store_changes.specs.Writes.{Content}
use Rattle.store_changes.proofs.Shown.{tables_show_no_page}

-- the block of the table
pub root_there : (c : Content) (most : ℕ) (store : LaidStore) (places : List ℕ) → laid c most [] ≡ Ok (store, places) → root_in_block c 0 ≡ Some store.root
root_there c most store places e =
    let p : Parts c most store places = parts_of c most store places e in
    ap (option_and_then (λ bytes. read_of (root_of bytes))) p.holds ∙ ap read_of p.reads ∙ ap (λ (s : LaidStore). Some s.root) (sym p.made)

-- these contents, but for one block that holds nothing
abbrev without_block : ℕ → Content → Content
without_block b c n = cond (nat_eq n b) None (c n)

record Reaches (store : Store) (root b : ℕ) : Type 0 where
  path : List ℕ
  at : block_at store root path ≡ Some b

-- where a walk down leads to a block, it leads to it in the store without the page of that block too
leads_still : (c : Content) (b : ℕ) (p : List ℕ) (root : ℕ) → block_at (pages_of c) root p ≡ Some b → Reaches (pages_of (without_block b c)) root b
leads_still c b [] root e = record { path = []; at = e }
leads_still c b (s ∷ p) root e = by (nat_eq root b) refl (λ below h. leads_still c b p below h)
  where
    W : Store
    W = pages_of (without_block b c)

    step : (below : ℕ) → option_and_then (λ (page : PageValue). slot_block page s) (pages_of c root) ≡ Some below
        → W root ≡ pages_of c root → Reaches W below b → Reaches W root b
    step below at same r =
        record {
          path = s ∷ r.path;
          at = ap (λ page. option_and_then (λ n. block_at W n r.path) (option_and_then (λ (x : PageValue). slot_block x s) page)) same
              ∙ ap (option_and_then (λ n. block_at W n r.path)) at ∙ r.at;
        }

    down : (o : Option ℕ) → option_and_then (λ (page : PageValue). slot_block page s) (pages_of c root) ≡ o
        → option_and_then (λ below. block_at (pages_of c) below p) o ≡ Some b → W root ≡ pages_of c root
        → ((below : ℕ) → block_at (pages_of c) below p ≡ Some b → Reaches W below b) → Reaches W root b
    down None at h same rest = absurd cc
    down (Some below) at h same rest = step below at same (rest below h)

    by : (t : Bool) → nat_eq root b ≡ t → ((below : ℕ) → block_at (pages_of c) below p ≡ Some b → Reaches W below b) → Reaches W root b
    by true is rest = record { path = []; at = ap Some (eqb-true root b is) }
    by false apart rest =
        down (option_and_then (λ (page : PageValue). slot_block page s) (pages_of c root)) refl e
        (ap (λ t. option_and_then page_of_block (cond t None (c root))) apart) rest

pub pages_are_places : (c : Content) (most : ℕ) (store : LaidStore) (places : List ℕ) → laid c most [] ≡ Ok (store, places)
    → (version : LaidVersion) → IsVersionOf store version → (p : List ℕ) (b : ℕ) → block_at (pages_of c) version.block p ≡ Some b → IsIn places b
pages_are_places c most store places e version is p b at = by (told (list_any (nat_eq b) places))
  where
    -- the block of a page is not that of the table
    not_table : (page : PageValue) → pages_of c b ≡ Some page → nat_eq 0 b ≡ false
    not_table page shows = of (told (nat_eq 0 b))
      where
        of : (nat_eq 0 b ≡ true) ⊎ (nat_eq 0 b ≡ false) → nat_eq 0 b ≡ false
        of (inr h) = h
        of (inl h) =
            let none : pages_of c b ≡ None =
            ap (pages_of c) (sym (eqb-true 0 b h)) ∙ tables_show_no_page c 0 store.root (root_there c most store places e) in
            absurd (let o : Some page ≡ None = sym shows ∙ none in cc)

    by : (list_any (nat_eq b) places ≡ true) ⊎ (list_any (nat_eq b) places ≡ false) → IsIn places b
    by (inl here) = here
    by (inr out) =
        let page = (versions_are_held c most store places e version is).page p b at in
        let zero_stays : c 0 ≡ without_block b c 0 = sym (ap (λ t. cond t None (c 0)) (not_table page.0 page.1)) in
        let others : (n : ℕ) → IsIn places n → c n ≡ without_block b c n = λ n i. stays n i (told (nat_eq n b)) in
        let again : laid (without_block b c) most [] ≡ Ok (store, places) = laid_alike c (without_block b c) most store places e zero_stays others in
        let still : Reaches (pages_of (without_block b c)) version.block b = leads_still c b p version.block at in
        let shown = (versions_are_held (without_block b c) most store places again version is).page still.path b still.at in
        let none : pages_of (without_block b c) b ≡ None = ap (λ t. option_and_then page_of_block (cond t None (c b))) (eq-eqb b b refl) in
        absurd (let o : Some shown.0 ≡ None = sym shown.1 ∙ none in cc)
      where
        stays : (n : ℕ) → IsIn places n → (nat_eq n b ≡ true) ⊎ (nat_eq n b ≡ false) → c n ≡ without_block b c n
        stays n i (inr apart) = sym (ap (λ t. cond t None (c n)) apart)
        stays n i (inl same) =
            let here : list_any (nat_eq b) places ≡ true = subst (λ (m : ℕ). list_any (nat_eq m) places ≡ true) (eqb-true n b same) i in
            absurd (true≢false (sym here ∙ out))
