-- What blocks hold as a tree is the tree of a version: `/` and with each page those above it, at most seven slots deep, each slot below 16, and
-- at most 800 bytes a page.
use Rattle.std.proofs.Common.{◌≡◌, ℕ, zero, suc, ◌<◌, ◌≤◌, ◌==◌, ◌&&◌, Bool, true, false, cond, List, [], ◌∷◌, ◌++◌, length, drop, Option, Some, None, option_map, Result, Ok, Err, is_some, refl, sym, ap, subst, ◌∙◌, true≢false, arith, length-take, slice_index, slice_get}
use Rattle.std.specs.Option.{option_and_then}
use Rattle.std.specs.Int.{w32}
use Rattle.std.proofs.lemmas.Option.{slice_get_within}
use Rattle.std.proofs.lemmas.List.{length-map}
use Rattle.std.proofs.lemmas.Bool.{lt-ltb}
use Rattle.afs_base.specs.Path.{is_prefix, are_slots}
use Rattle.tree_model.specs.Trees.{Tree, has, IsKept}
use Rattle.tree_model.proofs.Paths.{prefix_told}
use Rattle.page_codec.specs.declared.why.Why.{Why}
use Rattle.page_codec.specs.Values.{ReferenceValue, PageValue, VersionValue}
use Rattle.page_codec.specs.Numbers.{number_at, field, pieces}
use Rattle.page_codec.specs.Reading.{slots, reference, data_len, frame_value, version_value}
use Rattle.page_codec.specs.Causes.{first_cause, page_causes, version_causes, page_of, version_of}
use Rattle.page_codec.specs.Facts.{FrameFacts}
use Rattle.page_codec.proofs.FactLaws.{PageFacts-none, VersionFacts-none}
use Rattle.page_places.specs.Places.{Store, slot_block, block_at, Holds}
use Rattle.page_places.proofs.Facts.{block_at_append}
use Rattle.store_model.specs.Laws.{read_of, page_of_block, pages_of}
use Rattle.store_model.proofs.Edits.{some_is, none_some}
use Rattle.store_model.proofs.Reading.{Content, Uncaused, uncaused}

-- ---- a page that is read from a block

pub length-pieces : (len n : ℕ) (bytes : List ℕ) → length (pieces len n bytes) ≡ n
unfolding pieces
length-pieces len zero bytes = refl
length-pieces len (suc n) bytes = ap (λ k. suc k) (length-pieces len n (drop len bytes))

-- it has sixteen slots, at most 800 bytes, and a level of at most 7
pub record IsInShape (page : PageValue) : Type 0 where
  pub level : page.level ≤ 7
  pub refs : length page.refs ≡ 16
  pub bytes : length page.bytes ≤ 800

frame_shape : (b : List ℕ) → FrameFacts b → IsInShape (frame_value b)
unfolding frame_value slots
frame_shape b facts =
    let short : data_len b ≤ 800 = facts.short in
    record {
      level = facts.depth;
      refs = length-map (slots b) reference ∙ length-map (pieces 4 16 (field 4 64 b)) (number_at w32 0) ∙ length-pieces 4 16 (field 4 64 b);
      bytes = omega (arith, length-take (data_len b) (drop 219 b));
    }

page_shape : (bytes : List ℕ) (page : PageValue) → page_of bytes ≡ Ok page → IsInShape page
page_shape bytes page e =
    let u : Uncaused (first_cause (page_causes bytes)) (frame_value bytes) page = uncaused (first_cause (page_causes bytes)) (frame_value bytes) page e in
    subst IsInShape u.value (frame_shape bytes (PageFacts-none bytes u.none).frame)

version_shape : (bytes : List ℕ) (version : VersionValue) → version_of bytes ≡ Ok version → IsInShape version.page
unfolding version_value
version_shape bytes version e =
    let u : Uncaused (first_cause (version_causes bytes)) (version_value bytes) version = uncaused (first_cause (version_causes bytes)) (version_value bytes) version e in
    subst IsInShape (ap (λ (v : VersionValue). v.page) u.value) (frame_shape bytes (VersionFacts-none bytes u.none).frame)

block_shape : (bytes : List ℕ) (page : PageValue) → page_of_block bytes ≡ Some page → IsInShape page
block_shape bytes page e = of (slice_index bytes 1 == 86) e
  where
    of_version : (r : Result VersionValue Why) → version_of bytes ≡ r → option_map (λ (v : VersionValue). v.page) (read_of r) ≡ Some page → IsInShape page
    of_version (Ok version) is h = subst IsInShape (some_is h) (version_shape bytes version is)
    of_version (Err why) is h = none_some h

    of_page : (r : Result PageValue Why) → page_of bytes ≡ r → read_of r ≡ Some page → IsInShape page
    of_page (Ok p) is h = subst IsInShape (some_is h) (page_shape bytes p is)
    of_page (Err why) is h = none_some h

    of : (b : Bool) → cond b (option_map (λ (v : VersionValue). v.page) (read_of (version_of bytes))) (read_of (page_of bytes)) ≡ Some page → IsInShape page
    of true h = of_version (version_of bytes) refl h
    of false h = of_page (page_of bytes) refl h

pub pages_in_shape : (content : Content) (n : ℕ) (page : PageValue) → pages_of content n ≡ Some page → IsInShape page
pages_in_shape content n page e = of (content n) e
  where
    of : (o : Option (List ℕ)) → option_and_then page_of_block o ≡ Some page → IsInShape page
    of None h = none_some h
    of (Some bytes) h = block_shape bytes page h

-- ---- the paths of a tree in blocks

-- the block and the page at the first slot of a path
record FirstStep (store : Store) (b s : ℕ) (p : List ℕ) (c : ℕ) : Type 0 where
  page : PageValue
  here : store b ≡ Some page
  below : ℕ
  named : slot_block page s ≡ Some below
  rest : block_at store below p ≡ Some c

first_step : (store : Store) (b s : ℕ) (p : List ℕ) (c : ℕ) → block_at store b (s ∷ p) ≡ Some c → FirstStep store b s p c
first_step store b s p c e = of (store b) refl e
  where
    of_slot : (page : PageValue) → store b ≡ Some page → (o : Option ℕ) → slot_block page s ≡ o → option_and_then (λ below. block_at store below p) o ≡ Some c
        → FirstStep store b s p c
    of_slot page here None is h = none_some h
    of_slot page here (Some below) is h = record { page = page; here = here; below = below; named = is; rest = h }

    of : (o : Option PageValue) → store b ≡ o
        → option_and_then (λ below. block_at store below p) (option_and_then (λ (page : PageValue). slot_block page s) o) ≡ Some c → FirstStep store b s p c
    of None is h = none_some h
    of (Some page) is h = of_slot page is (slot_block page s) refl h

slot_low : (page : PageValue) (s below : ℕ) → length page.refs ≡ 16 → slot_block page s ≡ Some below → s < 16
slot_low page s below sixteen e = of (slice_get page.refs s) refl e
  where
    of : (o : Option ReferenceValue) → slice_get page.refs s ≡ o → option_and_then (λ (r : ReferenceValue). r.block) o ≡ Some below → s < 16
    of None is h = none_some h
    of (Some r) is h = let within : s < length page.refs = slice_get_within page.refs s r is in omega arith

slots_low : (content : Content) (b : ℕ) (p : List ℕ) (c : ℕ) → block_at (pages_of content) b p ≡ Some c → are_slots p ≡ true
slots_low content b [] c e = refl
slots_low content b (s ∷ p) c e =
    let f : FirstStep (pages_of content) b s p c = first_step (pages_of content) b s p c e in
    let low : s < 16 = slot_low f.page s f.below (pages_in_shape content b f.page f.here).refs f.named in
    ap (λ t. t && are_slots p) (lt-ltb s 16 low) ∙ slots_low content f.below p c f.rest

-- ---- the tree

-- the block of a page of the tree
record Lies (store : Store) (root : ℕ) (p : List ℕ) : Type 0 where
  block : ℕ
  at : block_at store root p ≡ Some block

module _ (content : Content) (root : ℕ) (t : Tree) (h : Holds (pages_of content) root t) where
  lies : (p : List ℕ) → has t p ≡ true → Lies (pages_of content) root p
  lies p there = of (block_at (pages_of content) root p) refl
    where
      of : (o : Option ℕ) → block_at (pages_of content) root p ≡ o → Lies (pages_of content) root p
      of None is = absurd (true≢false (sym there ∙ ap is_some (h.gone p is)))
      of (Some block) is = record { block = block; at = is }

  there : (p : List ℕ) (b : ℕ) → block_at (pages_of content) root p ≡ Some b → has t p ≡ true
  there p b at = ap is_some (h.page p b at).2

  above : (p q : List ℕ) → is_prefix q p ≡ true → has t p ≡ true → has t q ≡ true
  above p q prefix has_p =
      let l : Lies (pages_of content) root p = lies p has_p in
      let told : (r : List ℕ) × (q ++ r ≡ p) = prefix_told q p prefix in
      of told.0 l.block (block_at (pages_of content) root q) refl
      (sym (block_at_append (pages_of content) root q told.0) ∙ ap (block_at (pages_of content) root) told.1 ∙ l.at)
    where
      of : (r : List ℕ) (b : ℕ) (o : Option ℕ) → block_at (pages_of content) root q ≡ o → option_and_then (λ c. block_at (pages_of content) c r) o ≡ Some b → has t q ≡ true
      of r b None is e = none_some e
      of r b (Some c) is e = there q c is

  pub holds_kept : IsKept t
  holds_kept =
      record {
        tree = record { root = there [] root refl; closed = above };
        short = λ p has_p.
            let l : Lies (pages_of content) root p = lies p has_p in
            let held = h.page p l.block l.at in
            let level : held.0.level ≡ length p = held.3 in
            let low : held.0.level ≤ 7 = (pages_in_shape content l.block held.0 held.1).level in
            omega arith;
        slots = λ p has_p. let l : Lies (pages_of content) root p = lies p has_p in slots_low content root p l.block l.at;
        bytes = λ p bytes is.
            let l : Lies (pages_of content) root p = lies p (ap is_some is) in
            let held = h.page p l.block l.at in
            let same : held.0.bytes ≡ bytes = some_is (sym held.2 ∙ is) in
            subst (λ (b : List ℕ). length b ≤ 800) same (pages_in_shape content l.block held.0 held.1).bytes;
      }
