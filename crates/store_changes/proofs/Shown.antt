-- A block that holds a table or a part of one shows no page.
use Rattle.std.proofs.Common.{◌≡◌, ℕ, false, cond, ◌==◌, List, Option, Some, None, option_map, Result, Ok, Err, slice_index, refl, ap, ◌∙◌, arith}
use Rattle.std.specs.Option.{option_and_then}
use Rattle.page_codec.specs.declared.why.Why.{Why}
use Rattle.page_codec.specs.Values.{PageValue, EntryValue, RootValue}
use Rattle.page_codec.specs.Causes.{first_cause, page_causes, page_of, version_of}
use Rattle.page_codec.specs.Reading.{frame_value}
use Rattle.page_codec.specs.TableReading.{root_causes, root_value, root_of, part_causes, part_value, part_of}
use Rattle.page_codec.proofs.FactLaws.{PageFacts-none}
use Rattle.page_codec.proofs.TableFactLaws.{RootFacts-none, PartFacts-none}
use Rattle.store_model.specs.Laws.{pages_of, page_of_block, read_of}
use Rattle.store_model.specs.NewStores.{root_in_block}
use Rattle.store_model.proofs.Reading.{uncaused}
use Rattle.store_changes.specs.Writes.{Content, part_in_block}

-- what a block was read as by one of the two readers of tables
pub record Told {X : Type 0} (held : Option (List ℕ)) (reader : List ℕ → Result X Why) (x : X) : Type 0 where
  pub bytes : List ℕ
  pub holds : held ≡ Some bytes
  pub reads : reader bytes ≡ Ok x

pub told_of : {X : Type 0} (reader : List ℕ → Result X Why) (held : Option (List ℕ)) (x : X)
    → option_and_then (λ bytes. read_of (reader bytes)) held ≡ Some x → Told held reader x
told_of reader None x e = absurd cc
told_of {X} reader (Some bytes) x e = record { bytes = bytes; holds = refl; reads = of (reader bytes) e }
  where
    of : (r : Result X Why) → read_of r ≡ Some x → r ≡ Ok x
    of (Ok y) h = ap Ok (let is : y ≡ x = cc in is)
    of (Err w) h = absurd cc

no_page_of : (b : List ℕ) → (slice_index b 1 ≡ 80 → ⊥) → (r : Result PageValue Why) → page_of b ≡ r → read_of r ≡ None
no_page_of b kind (Err why) e = refl
no_page_of b kind (Ok page) e =
    absurd (kind (PageFacts-none b (uncaused (first_cause (page_causes b)) (frame_value b) page e).none).kind)

no_page : (b : List ℕ) → (slice_index b 1 ≡ 80 → ⊥) → (slice_index b 1 == 86) ≡ false → page_of_block b ≡ None
no_page b kind version =
    ap (λ k. cond k (option_map (λ v. v.page) (read_of (version_of b))) (read_of (page_of b))) version ∙ no_page_of b kind (page_of b) refl

root_kind : (b : List ℕ) (root : RootValue) → root_of b ≡ Ok root → slice_index b 1 ≡ 84
root_kind b root e = (RootFacts-none b (uncaused (first_cause (root_causes b)) (root_value b) root e).none).kind

part_kind : (j : ℕ) (b : List ℕ) (entries : List EntryValue) → part_of j b ≡ Ok entries → slice_index b 1 ≡ 69
part_kind j b entries e = (PartFacts-none j b (uncaused (first_cause (part_causes j b)) (part_value b) entries e).none).kind

pub tables_show_no_page : (c : Content) (block : ℕ) (root : RootValue) → root_in_block c block ≡ Some root → pages_of c block ≡ None
tables_show_no_page c block root e =
    let t : Told (c block) root_of root = told_of root_of (c block) root e in
    let kind : slice_index t.bytes 1 ≡ 84 = root_kind t.bytes root t.reads in
    ap (option_and_then page_of_block) t.holds
    ∙ no_page t.bytes (λ h. omega (arith, h, kind)) (ap (λ k. k == 86) kind)

pub parts_show_no_page : (c : Content) (j block : ℕ) (entries : List EntryValue) → part_in_block c j block ≡ Some entries → pages_of c block ≡ None
parts_show_no_page c j block entries e =
    let t : Told (c block) (part_of j) entries = told_of (part_of j) (c block) entries e in
    let kind : slice_index t.bytes 1 ≡ 69 = part_kind j t.bytes entries t.reads in
    ap (option_and_then page_of_block) t.holds
    ∙ no_page t.bytes (λ h. omega (arith, h, kind)) (ap (λ k. k == 86) kind)
