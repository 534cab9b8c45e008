-- What a block that holds a page is read as, by the page's level.
use Rattle.std.proofs.Common.{◌≡◌, ◌==◌, ℕ, ◌≤◌, Bool, true, false, cond, List, Option, Some, None, Result, Ok, Err, refl, sym, ap, subst, ◌∙◌, slice_index, option_map, arith}
use Rattle.std.specs.Option.{option_and_then}
use Rattle.page_codec.specs.declared.why.Why.{Why}
use Rattle.page_codec.specs.Values.{PageValue, VersionValue}
use Rattle.page_codec.specs.Causes.{cause_or, first_cause, page_causes, page_of, version_of}
use Rattle.page_codec.specs.Reading.{frame_value}
use Rattle.page_codec.proofs.FactLaws.{PageFacts-none}
use Rattle.store_model.specs.Laws.{pages_of, page_of_block, read_of}
use Rattle.store_model.specs.Changes.{version_in_block}
use Rattle.store_model.proofs.Reading.{reads_version}

read_some : {X : Type 0} (r : Result X Why) (x : X) → read_of r ≡ Some x → r ≡ Ok x
read_some (Ok y) x e = cc
read_some (Err why) x e = absurd cc

cause_none : {X : Type 0} (o : Option Why) (x y : X) → cause_or o x ≡ Ok y → (o ≡ None) × (x ≡ y)
cause_none None x y e = (refl, cc)
cause_none (Some w) x y e = absurd cc

-- a page below `/` is of level 1 or more
page_level : (bytes : List ℕ) (page : PageValue) → page_of bytes ≡ Ok page → 1 ≤ page.level
unfolding frame_value
page_level bytes page e =
    let c = cause_none (first_cause (page_causes bytes)) (frame_value bytes) page e in
    let below : 1 ≤ slice_index bytes 2 = (PageFacts-none bytes c.0).below in
    let level : slice_index bytes 2 ≡ page.level = ap (λ p. p.level) c.1 in
    subst (λ (n : ℕ). 1 ≤ n) level below

-- the block holds a version page with this page, whose level is 0
pub record IsVersionRead (bytes : List ℕ) (page : PageValue) : Type 0 where
  pub version : VersionValue
  pub is : version_of bytes ≡ Ok version
  pub page_is : version.page ≡ page
  pub top : page.level ≡ 0

-- what a block is read as: as a page below `/`, or as a version page
pub data ReadAs (bytes : List ℕ) (page : PageValue) : Type 0 where
  as_page : page_of bytes ≡ Ok page → 1 ≤ page.level → ReadAs bytes page
  as_version : IsVersionRead bytes page → ReadAs bytes page

read_as : (bytes : List ℕ) (page : PageValue) → page_of_block bytes ≡ Some page → ReadAs bytes page
read_as bytes page e = of (slice_index bytes 1 == 86) e
  where
    by_version : (r : Result VersionValue Why) → version_of bytes ≡ r → option_map (λ v. v.page) (read_of r) ≡ Some page → ReadAs bytes page
    by_version (Ok v) is h =
        let same : v.page ≡ page = cc in
        let zero : v.page.level ≡ 0 = (reads_version (λ _. Some bytes) 0 bytes v refl is).level in
        as_version (record { version = v; is = is; page_is = same; top = ap (λ p. p.level) (sym same) ∙ zero })
    by_version (Err why) is h = absurd cc

    of : (b : Bool) → cond b (option_map (λ v. v.page) (read_of (version_of bytes))) (read_of (page_of bytes)) ≡ Some page → ReadAs bytes page
    of true h = by_version (version_of bytes) refl h
    of false h = let is : page_of bytes ≡ Ok page = read_some (page_of bytes) page h in as_page is (page_level bytes page is)

pub block_read : (content : ℕ → Option (List ℕ)) (n : ℕ) (bytes : List ℕ) (page : PageValue) → content n ≡ Some bytes → pages_of content n ≡ Some page → ReadAs bytes page
block_read content n bytes page holds is = read_as bytes page (sym (ap (option_and_then page_of_block) holds) ∙ is)

pub page_read : (content : ℕ → Option (List ℕ)) (n : ℕ) (bytes : List ℕ) (page : PageValue) → content n ≡ Some bytes → pages_of content n ≡ Some page → 1 ≤ page.level
    → page_of bytes ≡ Ok page
page_read content n bytes page holds is level = by (block_read content n bytes page holds is)
  where
    by : ReadAs bytes page → page_of bytes ≡ Ok page
    by (as_page e l) = e
    by (as_version v) = let top : page.level ≡ 0 = v.top in absurd (omega (arith, top, level))

pub version_read : (content : ℕ → Option (List ℕ)) (n : ℕ) (bytes : List ℕ) (page : PageValue) → content n ≡ Some bytes → pages_of content n ≡ Some page → page.level ≡ 0
    → IsVersionRead bytes page
version_read content n bytes page holds is level = by (block_read content n bytes page holds is)
  where
    by : ReadAs bytes page → IsVersionRead bytes page
    by (as_page e l) = absurd (omega (arith, l, level))
    by (as_version v) = v

pub version_is : (content : ℕ → Option (List ℕ)) (n : ℕ) (bytes : List ℕ) (version : VersionValue) → content n ≡ Some bytes → version_of bytes ≡ Ok version
    → version_in_block content n ≡ Some version
version_is content n bytes version holds is = ap (option_and_then (λ b. read_of (version_of b))) holds ∙ ap read_of is
