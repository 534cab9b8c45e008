-- The pages that are found of a version lie in blocks of the store, where those of the version before do.
use Rattle.std.proofs.Common.{◌≡◌, ◌&&◌, ◌<◌, nat_le, nat_lt, ℕ, zero, suc, Bool, true, false, cond, List, [], ◌∷◌, ◌++◌, length, Option, Some, None, option_map, Ok, refl, map, filter, arith}
use Rattle.std.specs.List.{AllByRecursion}
use Rattle.std.proofs.lemmas.Bool.Decides.{nat_tests}
use Rattle.page_codec.specs.declared.why.Why.TheVariants.{Reference}
use Rattle.page_codec.specs.Values.{ReferenceValue}
use Rattle.page_codec.specs.Causes.{version_of}
use Rattle.afs_base.specs.Path.{is_prefix}
use Rattle.page_places.specs.Places.{Store}
use Rattle.store_model.specs.Walk.{Blocks, Walk, place}
use Rattle.store_model.specs.Laid.{Node, LaidVersion, as_shared, shared_from, lies_at}
use Rattle.store_model.specs.Laws.{pages_of}
use Rattle.store_model.specs.Pages.{Below, page_at, own_node, own_from, named_from, slot_from, slots_from, pages_below}
use Rattle.store_model.specs.Chains.{version_at}
use Rattle.store_model.proofs.Giving.{Gives, gives_bind, gives_done, gives_refuse, gives_check, gives_decoded, gives_any, gives_if}
use Rattle.store_model.proofs.Reading.{Content, ReadsVersion, reads_version}
use Rattle.store_model.proofs.Lying.{Each, IsHeld, LieBelow, VersionLies, BeforeLies as ModelLies, own_lies, gives_place, gives_below}
use Rattle.store_check.specs.Before.{IsNodeHeld, PagesLie}
use Rattle.store_check.specs.Versions.{OneLies}

-- a page is in a block of the store
abbrev Low : ℕ → Node → Type 0
Low count node = node.block < count

abbrev AllLow : ℕ → List Node → Type 0
AllLow count nodes = AllByRecursion (Low count) nodes

pub all_append : {X : Type 0} (P : X → Type 0) (xs ys : List X) → AllByRecursion P xs → AllByRecursion P ys → AllByRecursion P (xs ++ ys)
all_append P [] ys h k = k
all_append P (x ∷ xs) ys h k = (h.0, all_append P xs ys h.1 k)

all_shared : (count : ℕ) (path : List ℕ) (nodes : List Node) → AllLow count nodes → AllLow count (shared_from path nodes)
all_shared count path [] h = h
all_shared count path (x ∷ xs) h = of (is_prefix path x.path) (all_shared count path xs h.1)
  where
    of : (b : Bool) → AllLow count (shared_from path xs)
        → AllLow count (map (as_shared path) (cond b (x ∷ filter (λ node. is_prefix path node.path) xs) (filter (λ node. is_prefix path node.path) xs)))
    of true rest = (h.0, rest)
    of false rest = rest

always : {X : Type 0} (walk : Walk X) (P : Type 0) → P → Gives walk (λ _. P)
always walk P p seen x all e = p

below_count : (n count : ℕ) → (nat_le 1 n && nat_lt n count) ≡ true → n < count
below_count n count e = Prim.grind (arith, nat_tests)

module _ (content : Content) (count : ℕ) where
  abbrev blocks : Blocks
  blocks = record { content = content; count = count }

  place_low : (namer n : ℕ) → Gives (place blocks namer n) (λ _. n < count)
  unfolding place
  place_low namer n =
      gives_bind _ _ (λ _. (nat_le 1 n && nat_lt n count) ≡ true) (λ _. n < count) (gives_check (nat_le 1 n && nat_lt n count) namer Reference)
      (λ _ test. always _ (n < count) (below_count n count test))

  page_low : (namer n level : ℕ) → Gives (page_at blocks namer n level) (λ _. n < count)
  unfolding page_at
  page_low namer n level = gives_bind _ _ (λ _. n < count) (λ _. n < count) (place_low namer n) (λ _ low. always _ (n < count) low)

  abbrev BelowLow : Below → Type 0
  BelowLow below = (block : ℕ) (path : List ℕ) (refs : List ReferenceValue) → Gives (below block path refs) (AllLow count)

  abbrev OneLow : Option (List Node) → Type 0
  OneLow None = Unit {0}
  OneLow (Some nodes) = AllLow count nodes

  module _ (below : Below) (low_below : BelowLow below) (before : Option (List Node)) (low_before : OneLow before) where
    own_low : (namer : ℕ) (path : List ℕ) (reference : ReferenceValue) (n : ℕ) → Gives (own_from blocks below namer path reference n) (AllLow count)
    unfolding own_from
    own_low namer path reference n =
        gives_bind _ _ (λ _. n < count) (AllLow count) (page_low namer n (length path))
        (λ page low. gives_bind _ _ (AllLow count) (AllLow count) (low_below n path page.refs)
        (λ others rest. gives_done (own_node path reference n page ∷ others) (AllLow count) (low, rest)))

    named_low : (o : Option (List Node)) → OneLow o → (namer : ℕ) (path : List ℕ) (reference : ReferenceValue) (n : ℕ) → Gives (named_from blocks below o namer path reference n) (AllLow count)
    unfolding named_from
    named_low None low namer path reference n = own_low namer path reference n
    named_low (Some nodes) low namer path reference n =
        gives_if reference.flags.copied _ _ (AllLow count) (λ _. own_low namer path reference n)
        (λ _. gives_if (lies_at path n nodes) _ _ (AllLow count) (λ _. gives_done (shared_from path nodes) (AllLow count) (all_shared count path nodes low)) (λ _. gives_refuse namer Reference (AllLow count)))

    slot_low : (namer : ℕ) (path : List ℕ) (reference : ReferenceValue) (o : Option ℕ) → Gives (slot_from blocks below before namer path reference o) (AllLow count)
    unfolding slot_from
    slot_low namer path reference None = gives_done [] (AllLow count) tt
    slot_low namer path reference (Some n) = named_low before low_before namer path reference n

    slots_low : (namer : ℕ) (path : List ℕ) (slot : ℕ) (refs : List ReferenceValue) → Gives (slots_from blocks below before namer path slot refs) (AllLow count)
    unfolding slots_from
    slots_low namer path slot [] = gives_done [] (AllLow count) tt
    slots_low namer path slot (reference ∷ others) =
        gives_bind _ _ (AllLow count) (AllLow count) (slot_low namer (path ++ slot ∷ []) reference reference.block)
        (λ here h. gives_bind _ _ (AllLow count) (AllLow count) (slots_low namer path (suc slot) others)
        (λ rest k. gives_done (here ++ rest) (AllLow count) (all_append (Low count) here rest h k)))

  pages_low : (before : Option (List Node)) → OneLow before → (depth : ℕ) → BelowLow (pages_below blocks before depth)
  unfolding pages_below
  pages_low before low zero = λ block path refs. gives_done [] (AllLow count) tt
  pages_low before low (suc depth) = λ block path refs. slots_low (pages_below blocks before depth) (pages_low before low depth) before low block path 0 refs

  -- ---- both facts of a version

  abbrev Both : LaidVersion → Type 0
  Both version = VersionLies (pages_of content) version.block version.nodes × AllLow count version.nodes

  all_held : (nodes : List Node) → Each (IsHeld (pages_of content)) nodes → AllLow count nodes → AllByRecursion (IsNodeHeld (pages_of content) count) nodes
  all_held [] h k = tt
  all_held (x ∷ xs) h k = (record { page = h.0.0; is = h.0.1; bytes = h.0.2; level = h.0.3; low = k.0 }, all_held xs h.1 k.1)

  each_held : (nodes : List Node) → AllByRecursion (IsNodeHeld (pages_of content) count) nodes → Each (IsHeld (pages_of content)) nodes
  each_held [] h = tt
  each_held (x ∷ xs) h = ((h.0.page, h.0.is, h.0.bytes, h.0.level), each_held xs h.1)

  each_low : (nodes : List Node) → AllByRecursion (IsNodeHeld (pages_of content) count) nodes → AllLow count nodes
  each_low [] h = tt
  each_low (x ∷ xs) h = (h.0.low, each_low xs h.1)

  model_lies : (before : Option LaidVersion) → OneLies (pages_of content) count before → ModelLies (pages_of content) (option_map (λ v. v.nodes) before)
  model_lies None h = tt
  model_lies (Some v) h = (v.block, record { lie = h.lie; held = each_held v.nodes h.held })

  one_low : (before : Option LaidVersion) → OneLies (pages_of content) count before → OneLow (option_map (λ v. v.nodes) before)
  one_low None h = tt
  one_low (Some v) h = each_low v.nodes h.held

  gives_both : (object namer n : ℕ) (before : Option LaidVersion) → OneLies (pages_of content) count before → Gives (version_at blocks object namer n before) Both
  unfolding version_at
  gives_both object namer n before lies =
      let S : Store = pages_of content in
      gives_bind _ _ (λ bytes. (content n ≡ Some bytes) × (n < count)) Both (λ seen x all e. (gives_place content count namer n seen x all e, place_low namer n seen x all e))
      (λ bytes here. gives_bind _ _ (λ version. version_of bytes ≡ Ok version) Both (gives_decoded n (version_of bytes))
      (λ version e.
      let reads : ReadsVersion S n version = reads_version content n bytes version here.0 e in
      gives_bind _ _ (λ _. Unit {0}) Both (gives_any _)
      (λ _ _. gives_bind _ _ (λ _. Unit {0}) Both (gives_any _)
      (λ _ _. gives_bind _ _ (λ _. Unit {0}) Both (gives_any _)
      (λ _ _. gives_bind _ _ (λ others. LieBelow S [] 0 version.page.refs others × AllLow count others) Both
      (λ seen x all is. (
        gives_below content count (option_map (λ v. v.nodes) before) (model_lies before lies) 7 n [] version.page reads.page reads.level refl seen x all is,
        pages_low (option_map (λ v. v.nodes) before) (one_low before lies) 7 n [] version.page.refs seen x all is,
      ))
      (λ others below.
      gives_done _ Both (own_lies S [] (record { flags = version.root; block = Some n }) n version.page others reads.page.is reads.level below.0, (here.1, below.1))))))))

  pub version_lies : (object namer n : ℕ) (before : Option LaidVersion) (places after : List ℕ) (version : LaidVersion) → OneLies (pages_of content) count before
      → version_at blocks object namer n before places ≡ Ok (version, after) → PagesLie (pages_of content) count version.block version.nodes
  version_lies object namer n before places after version lies e =
      let both : Both version = gives_both object namer n before lies places version after e in
      record { lie = both.0.lie; held = all_held version.nodes both.0.held both.1 }
