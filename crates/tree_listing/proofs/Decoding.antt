-- Which page a block holds, and as what it is read.
use Rattle.std.proofs.Common.{◌≡◌, ◌⊎◌, inl, inr, ℕ, suc, zero, ◌≤◌, ◌<◌, ◌==◌, ◌||◌, nat_lt, map, is_some, eqb-true, true≢false, Bool, true, false, cond, List, Option, Some, None, option_map, Result, Ok, Err, refl, sym, ap, subst, ◌∙◌, arith, slice_index, slice_get, eq-eqb, [], ◌∷◌}
use Rattle.std.specs.Option.{option_and_then}
use Rattle.std.proofs.lemmas.Bool.Decides.{nat_tests}
use Rattle.page_codec.specs.declared.why.Why.{Why}
use Rattle.page_codec.specs.declared.why.Why.TheVariants.{Reference, Level}
use Rattle.page_codec.specs.Values.{PageValue, ReferenceValue, VersionValue}
use Rattle.std.specs.List.{list_any}
use Rattle.page_codec.specs.Bounds.{is_used}
use Rattle.page_codec.specs.Reading.{frame_value, reference, slots}
use Rattle.page_codec.proofs.SlotLaws.{unused_references}
use Rattle.page_codec.specs.Causes.{page_of, version_of, page_causes, first_cause}
use Rattle.page_codec.specs.Facts.{PageFacts}
use Rattle.page_codec.proofs.FactLaws.{PageFacts-none}
use Rattle.page_places.specs.Places.{Store, block_at}
use Rattle.store_model.specs.Walk.{Blocks, Refused}
use Rattle.store_model.specs.Laws.{page_of_block, pages_of, read_of}
use Rattle.store_model.proofs.Reading.{Content, Uncaused, uncaused, reads_version, reads_page}
use Rattle.tree_listing.specs.Listing.{EachBelow, EachBelowSlots}
use Rattle.tree_listing.specs.FirstFault.{and_then, block_named, held_in, of_block, page_named, root_in, with_level}

-- a block was read as a page below `/`, or as a version page
pub record IsRead (content : Content) (n : ℕ) (page : PageValue) : Type 0 where
  pub bytes : List ℕ
  pub held : content n ≡ Some bytes
  pub way : (page_of bytes ≡ Ok page) ⊎ ((version : VersionValue) × (version_of bytes ≡ Ok version) × (version.page ≡ page))

read_some : {X : Type 0} (r : Result X Why) (x : X) → read_of r ≡ Some x → r ≡ Ok x
read_some (Ok y) x e = cc
read_some (Err why) x e = absurd cc

version_some : (r : Result VersionValue Why) (page : PageValue) → option_map (λ v. v.page) (read_of r) ≡ Some page → (version : VersionValue) × (r ≡ Ok version) × (version.page ≡ page)
version_some (Ok v) page e = (v, refl, cc)
version_some (Err why) page e = absurd cc

read_as : (bytes : List ℕ) (page : PageValue) → page_of_block bytes ≡ Some page
    → (page_of bytes ≡ Ok page) ⊎ ((version : VersionValue) × (version_of bytes ≡ Ok version) × (version.page ≡ page))
read_as bytes page e = of (slice_index bytes 1 == 86) e
  where
    of : (b : Bool) → cond b (option_map (λ v. v.page) (read_of (version_of bytes))) (read_of (page_of bytes)) ≡ Some page
        → (page_of bytes ≡ Ok page) ⊎ ((version : VersionValue) × (version_of bytes ≡ Ok version) × (version.page ≡ page))
    of true h = inr (version_some (version_of bytes) page h)
    of false h = inl (read_some (page_of bytes) page h)

pub is_read : (content : Content) (n : ℕ) (page : PageValue) → pages_of content n ≡ Some page → IsRead content n page
is_read content n page e = of (content n) refl e
  where
    of : (o : Option (List ℕ)) → content n ≡ o → option_and_then page_of_block o ≡ Some page → IsRead content n page
    of None at h = absurd cc
    of (Some bytes) at h = record { bytes = bytes; held = at; way = read_as bytes page h }

-- ---- levels

pub record HasLevel (level : ℕ) : Type 0 where
  pub low : 1 ≤ level
  pub high : level ≤ 7

frame_level : (bytes : List ℕ) → (frame_value bytes).level ≡ slice_index bytes 2
unfolding frame_value
frame_level bytes = refl

pub page_level : (bytes : List ℕ) (page : PageValue) → page_of bytes ≡ Ok page → HasLevel page.level
page_level bytes page e =
    let u : Uncaused (first_cause (page_causes bytes)) (frame_value bytes) page = uncaused (first_cause (page_causes bytes)) (frame_value bytes) page e in
    let facts : PageFacts bytes = PageFacts-none bytes u.none in
    let level : slice_index bytes 2 ≡ page.level = sym (frame_level bytes) ∙ ap (λ p. p.level) u.value in
    subst HasLevel level (record { low = facts.below; high = facts.frame.depth })

version_level : (content : Content) (n : ℕ) (bytes : List ℕ) (version : VersionValue) (page : PageValue) → content n ≡ Some bytes → version_of bytes ≡ Ok version → version.page ≡ page → page.level ≡ 0
version_level content n bytes version page held e same =
    ap (λ p. p.level) (sym same) ∙ (reads_version content n bytes version held e).level

pub level_high : (content : Content) (n : ℕ) (page : PageValue) → pages_of content n ≡ Some page → page.level ≤ 7
level_high content n page e = of (is_read content n page e)
  where
    of : IsRead content n page → page.level ≤ 7
    of r = elim r.way [
      | inl p ↦ (page_level r.bytes page p).high
      | inr (version, v, same) ↦ let zero_level : page.level ≡ 0 = version_level content n r.bytes version page r.held v same in Prim.omega (arith, zero_level)
    ]

-- a page of a level below `/` was read as one
read_below : (content : Content) (n : ℕ) (page : PageValue) (r : IsRead content n page) → 1 ≤ page.level → page_of r.bytes ≡ Ok page
read_below content n page r low = elim r.way [
  | inl p ↦ p
  | inr (version, v, same) ↦ let zero_level : page.level ≡ 0 = version_level content n r.bytes version page r.held v same in absurd (Prim.omega (arith, zero_level, low))
]

read_root : (content : Content) (n : ℕ) (page : PageValue) (r : IsRead content n page) → page.level ≡ 0 → (version : VersionValue) × (version_of r.bytes ≡ Ok version) × (version.page ≡ page)
read_root content n page r top = elim r.way [
  | inl p ↦ let low = (page_level r.bytes page p).low in absurd (Prim.omega (arith, low, top))
  | inr v ↦ v
]

-- ---- what the walk reads

below_test : (n count : ℕ) → n < count → nat_lt n count ≡ true
below_test n count h = Prim.grind (arith, nat_tests)

pub named_block : (blocks : Blocks) (namer n : ℕ) (bytes : List ℕ) → n < blocks.count → blocks.content n ≡ Some bytes → block_named blocks namer n ≡ Ok bytes
unfolding block_named
named_block blocks namer n bytes low held =
    ap (λ b. cond b (of_block n (held_in (blocks.content n))) (Err (record { block = namer; why = Reference }))) (below_test n blocks.count low)
    ∙ ap (λ o. of_block n (held_in o)) held

pub named_page : (blocks : Blocks) (namer n level : ℕ) (page : PageValue) → n < blocks.count → pages_of blocks.content n ≡ Some page → page.level ≡ level → 1 ≤ level
    → page_named blocks namer n level ≡ Ok page
unfolding page_named
named_page blocks namer n level page low e at high =
    let r = is_read blocks.content n page e in
    let is : page_of r.bytes ≡ Ok page = read_below blocks.content n page r (Prim.omega (arith, at, high)) in
    ap (λ x. and_then x (λ bytes. of_block n (and_then (page_of bytes) (with_level level)))) (named_block blocks namer n r.bytes low r.held)
    ∙ ap (λ x. of_block n (and_then x (with_level level))) is
    ∙ ap (λ b. of_block n (cond b (Ok page) (Err Level))) (eq-eqb page.level level at)

pub found_root : (blocks : Blocks) (n : ℕ) (page : PageValue) → n < blocks.count → pages_of blocks.content n ≡ Some page → page.level ≡ 0 → root_in blocks n ≡ Ok page
unfolding root_in
found_root blocks n page low e top =
    let r = is_read blocks.content n page e in
    let v = read_root blocks.content n page r top in
    ap (λ x. and_then x (λ bytes. of_block n (and_then (version_of bytes) (λ version. Ok version.page)))) (named_block blocks n n r.bytes low r.held)
    ∙ ap (λ x. of_block n (and_then x (λ version. Ok version.page))) v.1
    ∙ ap Ok v.2

-- ---- what was read is what the block holds

pub named_reads : (blocks : Blocks) (namer n level : ℕ) (page : PageValue) → page_named blocks namer n level ≡ Ok page → pages_of blocks.content n ≡ Some page
unfolding page_named block_named
named_reads blocks namer n level page e = of (nat_lt n blocks.count) e
  where
    leveled : (p : PageValue) (b : Bool) → of_block n (cond b (Ok p) (Err Level)) ≡ Ok page → p ≡ page
    leveled p true h = cc
    leveled p false h = absurd cc

    decoded : (r : Result PageValue Why) → of_block n (and_then r (with_level level)) ≡ Ok page → r ≡ Ok page
    decoded (Ok p) h = ap Ok (leveled p (p.level == level) h)
    decoded (Err why) h = absurd cc

    held : (o : Option (List ℕ)) → blocks.content n ≡ o → and_then (of_block n (held_in o)) (λ bytes. of_block n (and_then (page_of bytes) (with_level level))) ≡ Ok page
        → pages_of blocks.content n ≡ Some page
    held None at h = absurd cc
    held (Some bytes) at h = (reads_page blocks.content n bytes page at (decoded (page_of bytes) h)).is

    of : (b : Bool) → and_then (cond b (of_block n (held_in (blocks.content n))) (Err (record { block = namer; why = Reference }))) (λ bytes. of_block n (and_then (page_of bytes) (with_level level))) ≡ Ok page
        → pages_of blocks.content n ≡ Some page
    of true h = held (blocks.content n) refl h
    of false h = absurd cc

pub root_reads : (blocks : Blocks) (n : ℕ) (page : PageValue) → root_in blocks n ≡ Ok page → pages_of blocks.content n ≡ Some page
unfolding root_in block_named
root_reads blocks n page e = of (nat_lt n blocks.count) e
  where
    decoded : (bytes : List ℕ) (r : Result VersionValue Why) → blocks.content n ≡ Some bytes → version_of bytes ≡ r
        → of_block n (and_then r (λ version. Ok version.page)) ≡ Ok page → pages_of blocks.content n ≡ Some page
    decoded bytes (Ok version) at is h =
        let same : version.page ≡ page = cc in
        (reads_version blocks.content n bytes version at is).page.is ∙ ap Some same
    decoded bytes (Err why) at is h = absurd cc

    held : (o : Option (List ℕ)) → blocks.content n ≡ o → and_then (of_block n (held_in o)) (λ bytes. of_block n (and_then (version_of bytes) (λ version. Ok version.page))) ≡ Ok page
        → pages_of blocks.content n ≡ Some page
    held None at h = absurd cc
    held (Some bytes) at h = decoded bytes (version_of bytes) at refl h

    of : (b : Bool) → and_then (cond b (of_block n (held_in (blocks.content n))) (Err (record { block = n; why = Reference }))) (λ bytes. of_block n (and_then (version_of bytes) (λ version. Ok version.page))) ≡ Ok page
        → pages_of blocks.content n ≡ Some page
    of true h = held (blocks.content n) refl h
    of false h = absurd cc

-- .. and a page of the level that was asked for
pub named_level : (blocks : Blocks) (namer n level : ℕ) (page : PageValue) → page_named blocks namer n level ≡ Ok page → page.level ≡ level
unfolding page_named
named_level blocks namer n level page e = held (block_named blocks namer n) e
  where
    leveled : (p : PageValue) (b : Bool) → p.level == level ≡ b → of_block n (cond b (Ok p) (Err Level)) ≡ Ok page → page.level ≡ level
    leveled p true same h = let one : p ≡ page = cc in ap (λ x. x.level) (sym one) ∙ eqb-true p.level level same
    leveled p false same h = absurd cc

    decoded : (r : Result PageValue Why) → of_block n (and_then r (with_level level)) ≡ Ok page → page.level ≡ level
    decoded (Ok p) h = leveled p (p.level == level) refl h
    decoded (Err why) h = absurd cc

    held : (o : Result (List ℕ) Refused) → and_then o (λ bytes. of_block n (and_then (page_of bytes) (with_level level))) ≡ Ok page → page.level ≡ level
    held (Ok bytes) h = decoded (page_of bytes) h
    held (Err cause) h = absurd cc

pub root_level : (blocks : Blocks) (n : ℕ) (page : PageValue) → root_in blocks n ≡ Ok page → page.level ≡ 0
unfolding root_in block_named
root_level blocks n page e = of (nat_lt n blocks.count) e
  where
    decoded : (bytes : List ℕ) (r : Result VersionValue Why) → blocks.content n ≡ Some bytes → version_of bytes ≡ r
        → of_block n (and_then r (λ version. Ok version.page)) ≡ Ok page → page.level ≡ 0
    decoded bytes (Ok version) at is h = let same : version.page ≡ page = cc in version_level blocks.content n bytes version page at is same
    decoded bytes (Err why) at is h = absurd cc

    held : (o : Option (List ℕ)) → blocks.content n ≡ o → and_then (of_block n (held_in o)) (λ bytes. of_block n (and_then (version_of bytes) (λ version. Ok version.page))) ≡ Ok page
        → page.level ≡ 0
    held None at h = absurd cc
    held (Some bytes) at h = decoded bytes (version_of bytes) at refl h

    of : (b : Bool) → and_then (cond b (of_block n (held_in (blocks.content n))) (Err (record { block = n; why = Reference }))) (λ bytes. of_block n (and_then (version_of bytes) (λ version. Ok version.page))) ≡ Ok page
        → page.level ≡ 0
    of true h = held (blocks.content n) refl h
    of false h = absurd cc

-- a page of level 7 names no page
unused_slot : (refs : List ReferenceValue) → list_any is_used refs ≡ false → (s : ℕ) → option_and_then (λ (r : ReferenceValue). r.block) (slice_get refs s) ≡ None
unused_slot [] h s = refl
unused_slot (r ∷ refs) h zero = of r.block h
  where
    of : (o : Option ℕ) → (is_some o || list_any is_used refs) ≡ false → o ≡ None
    of None h = refl
    of (Some n) h = absurd (true≢false h)
unused_slot (r ∷ refs) h (suc s) = unused_slot refs (of (is_used r) h) s
  where
    of : (b : Bool) → (b || list_any is_used refs) ≡ false → list_any is_used refs ≡ false
    of true h = absurd (true≢false h)
    of false h = h

frame_refs : (bytes : List ℕ) → (frame_value bytes).refs ≡ map reference (slots bytes)
unfolding frame_value
frame_refs bytes = refl

pub leaf_slots : (content : Content) (n : ℕ) (page : PageValue) → pages_of content n ≡ Some page → page.level ≡ 7 → (s : ℕ) → option_and_then (λ (r : ReferenceValue). r.block) (slice_get page.refs s) ≡ None
leaf_slots content n page e deep =
    let r = is_read content n page e in
    let p : page_of r.bytes ≡ Ok page = read_below content n page r (Prim.omega (arith, deep)) in
    let u : Uncaused (first_cause (page_causes r.bytes)) (frame_value r.bytes) page = uncaused (first_cause (page_causes r.bytes)) (frame_value r.bytes) page p in
    let facts : PageFacts r.bytes = PageFacts-none r.bytes u.none in
    let level : slice_index r.bytes 2 ≡ page.level = sym (frame_level r.bytes) ∙ ap (λ p. p.level) u.value in
    let refs : map reference (slots r.bytes) ≡ page.refs = sym (frame_refs r.bytes) ∙ ap (λ p. p.refs) u.value in
    unused_slot page.refs (ap (list_any is_used) (sym refs) ∙ unused_references (slots r.bytes) (facts.frame.leaf (level ∙ deep)))

-- a block that holds a page has content
pub has_content : (content : Content) (n : ℕ) (page : PageValue) → pages_of content n ≡ Some page → content n ≡ None → ⊥
has_content content n page e none = no (sym (ap (option_and_then page_of_block) none) ∙ e)
  where
    no : (let o : Option PageValue = None in o) ≡ Some page → ⊥
    no h = cc

-- what is reached from a block is reached through the slots of its page
pub each_slot : (P : ℕ → Type 0) (store : Store) (n : ℕ) (page : PageValue) → store n ≡ Some page → EachBelow P store n → EachBelowSlots P store page.refs
each_slot P store n page at each slot m named path c e =
    each (slot ∷ path) c
    (ap (λ o. option_and_then (λ b. block_at store b path) (option_and_then (λ (p : PageValue). option_and_then (λ (r : ReferenceValue). r.block) (slice_get p.refs slot)) o)) at
    ∙ ap (option_and_then (λ b. block_at store b path)) named ∙ e)
