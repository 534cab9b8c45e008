-- A page that a version shares lies in the block that the version before has at its path.
use Rattle.std.proofs.Common.{◌≡◌, ℕ, zero, suc, Bool, true, false, cond, List, [], ◌∷◌, ◌++◌, Option, Some, None, option_map, refl, sym, ap, ◌∙◌, true≢false}
use Rattle.std.specs.Option.{option_or}
use Rattle.afs_base.specs.Path.{is_prefix}
use Rattle.page_codec.specs.declared.why.Why.TheVariants.{Reference}
use Rattle.page_codec.specs.Values.{ReferenceValue, PageValue}
use Rattle.page_places.specs.Places.{same}
use Rattle.store_model.specs.Walk.{Blocks}
use Rattle.store_model.specs.Laid.{Node, shared_from, page_in, block_in, lies_at}
use Rattle.store_model.specs.Pages.{own_node, Below, own_from, named_from, slot_from, slots_from, pages_below}
use Rattle.store_model.specs.VersionPages.{AreShared}
use Rattle.store_model.proofs.Edits.{some_is, none_some}
use Rattle.store_model.proofs.Finding.{block_in_shared}
use Rattle.store_model.proofs.Giving.{Gives, gives_bind, gives_done, gives_refuse, gives_any, gives_if}

no_pages : (before : List Node) → AreShared before []
no_pages before p node at shared = none_some at

own_shared : (before : List Node) (path : List ℕ) (reference : ReferenceValue) (block : ℕ) (page : PageValue) (others : List Node) → AreShared before others
    → AreShared before (own_node path reference block page ∷ others)
own_shared before path reference block page others rest p node at shared = of (same p path) at
  where
    of : (b : Bool) → cond b (Some (own_node path reference block page)) (page_in p others) ≡ Some node → block_in p before ≡ Some node.block
    of true h = absurd (true≢false (ap (λ (n : Node). n.is_own) (some_is h) ∙ shared))
    of false h = rest p node h shared

all_shared : (before : List Node) (q : List ℕ) → AreShared before (shared_from q before)
all_shared before q p node at shared =
    of (is_prefix q p) (sym (block_in_shared q p before) ∙ ap (option_map (λ (n : Node). n.block)) at)
  where
    of : (b : Bool) → cond b (block_in p before) None ≡ Some node.block → block_in p before ≡ Some node.block
    of true h = h
    of false h = none_some h

page_in_append : (p : List ℕ) (xs ys : List Node) → page_in p (xs ++ ys) ≡ option_or (page_in p xs) (page_in p ys)
page_in_append p [] ys = refl
page_in_append p (x ∷ xs) ys = of (same p x.path) (page_in_append p xs ys)
  where
    of : (b : Bool) → page_in p (xs ++ ys) ≡ option_or (page_in p xs) (page_in p ys)
        → cond b (Some x) (page_in p (xs ++ ys)) ≡ option_or (cond b (Some x) (page_in p xs)) (page_in p ys)
    of true h = refl
    of false h = h

both_shared : (before xs ys : List Node) → AreShared before xs → AreShared before ys → AreShared before (xs ++ ys)
both_shared before xs ys h k p node at shared = of (page_in p xs) refl (sym (page_in_append p xs ys) ∙ at)
  where
    of : (o : Option Node) → page_in p xs ≡ o → option_or o (page_in p ys) ≡ Some node → block_in p before ≡ Some node.block
    of None is e = k p node e shared
    of (Some n) is e = h p node (is ∙ e) shared

-- ---- the walk

abbrev BelowShared : Below → List Node → Type 0
BelowShared below before = (block : ℕ) (path : List ℕ) (refs : List ReferenceValue) → Gives (below block path refs) (AreShared before)

gives_own : (blocks : Blocks) (below : Below) (before : List Node) → BelowShared below before → (namer : ℕ) (path : List ℕ) (reference : ReferenceValue) (block : ℕ)
    → Gives (own_from blocks below namer path reference block) (AreShared before)
unfolding own_from
gives_own blocks below before each namer path reference block =
    gives_bind _ _ (λ _. Unit {0}) (AreShared before) (gives_any _)
    (λ page _. gives_bind _ _ (AreShared before) (AreShared before) (each block path page.refs)
    (λ others rest. gives_done _ (AreShared before) (own_shared before path reference block page others rest)))

gives_slot : (blocks : Blocks) (below : Below) (before : List Node) → BelowShared below before
    → (namer : ℕ) (path : List ℕ) (reference : ReferenceValue) (block : Option ℕ)
    → Gives (slot_from blocks below (Some before) namer path reference block) (AreShared before)
unfolding slot_from named_from
gives_slot blocks below before each namer path reference None = gives_done [] (AreShared before) (no_pages before)
gives_slot blocks below before each namer path reference (Some block) =
    gives_if reference.flags.copied _ _ (AreShared before) (λ _. gives_own blocks below before each namer path reference block)
    (λ _. gives_if (lies_at path block before) _ _ (AreShared before)
    (λ _. gives_done (shared_from path before) (AreShared before) (all_shared before path))
    (λ _. gives_refuse namer Reference (AreShared before)))

gives_slots : (blocks : Blocks) (below : Below) (before : List Node) → BelowShared below before
    → (namer : ℕ) (path : List ℕ) (slot : ℕ) (refs : List ReferenceValue)
    → Gives (slots_from blocks below (Some before) namer path slot refs) (AreShared before)
unfolding slots_from
gives_slots blocks below before each namer path slot [] = gives_done [] (AreShared before) (no_pages before)
gives_slots blocks below before each namer path slot (reference ∷ others) =
    gives_bind _ _ (AreShared before) (AreShared before) (gives_slot blocks below before each namer (path ++ slot ∷ []) reference reference.block)
    (λ here h. gives_bind _ _ (AreShared before) (AreShared before) (gives_slots blocks below before each namer path (suc slot) others)
    (λ rest k. gives_done (here ++ rest) (AreShared before) (both_shared before here rest h k)))

gives_pages : (blocks : Blocks) (before : List Node) (depth : ℕ) → BelowShared (pages_below blocks (Some before) depth) before
unfolding pages_below
gives_pages blocks before zero = λ block path refs. gives_done [] (AreShared before) (no_pages before)
gives_pages blocks before (suc depth) =
    λ block path refs. gives_slots blocks (pages_below blocks (Some before) depth) before (gives_pages blocks before depth) block path 0 refs

-- the pages of a version that follows another one
pub shared_pages : (blocks : Blocks) (before : List Node) (block : ℕ) (page : PageValue) (reference : ReferenceValue)
    → Gives (pages_below blocks (Some before) 7 block [] page.refs) (λ nodes. AreShared before (own_node [] reference block page ∷ nodes))
shared_pages blocks before block page reference seen nodes all e =
    own_shared before [] reference block page nodes (gives_pages blocks before 7 block [] page.refs seen nodes all e)
