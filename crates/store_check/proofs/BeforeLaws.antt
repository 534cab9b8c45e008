-- What the version before has at the slots of a page, from the page that its block holds.
use Rattle.std.proofs.Common.{◌≡◌, ◌==◌, ℕ, ◌<◌, ◌≤◌, Bool, true, false, cond, List, [], ◌∷◌, ◌++◌, length, Option, Some, None, Result, Ok, Err, refl, sym, ap, subst, ◌∙◌, slice_index, option_map, arith}
use Rattle.std.specs.Option.{option_and_then}
use Rattle.std.specs.List.{AllByRecursion}
use Rattle.tree_model.proofs.Paths.{same_is}
use Rattle.page_codec.specs.declared.why.Why.{Why}
use Rattle.page_codec.specs.Values.{PageValue, VersionValue}
use Rattle.page_codec.specs.Causes.{cause_or, first_cause, page_causes, page_of, version_of}
use Rattle.page_codec.specs.Reading.{frame_value}
use Rattle.page_codec.proofs.FactLaws.{PageFacts-none}
use Rattle.page_places.specs.Places.{Store, same, slot_block, block_at}
use Rattle.page_places.proofs.Facts.{block_at_append}
use Rattle.drives.specs.declared.device.Half.{Half}
use Rattle.store_model.specs.Walk.{Refused, content_at, done, refuse}
use Rattle.store_model.specs.Laid.{Node, LaidVersion, page_in, block_in}
use Rattle.store_model.specs.Laws.{pages_of, page_of_block, read_of}
use Rattle.store_model.proofs.Reading.{Content, reads_version}
use Rattle.store_check.specs.declared.before.Before.TheVariants.{NoVersion, NoPage, Page}
use Rattle.store_check.specs.declared.refused.WalkRefused.{WalkRefused}
use Rattle.store_check.specs.declared.refused.WalkRefused.TheVariants.{ReadFault, BadStore, Memory}
use Rattle.store_check.specs.Before.{before_at, page_before, IsNodeHeld, PagesLie, BeforeLies}
use Rattle.store_check.specs.declared.version.Prior.{Prior}
use Rattle.store_check.specs.Versions.{prior_of, OneLies}
use Rattle.store_check.specs.Results.{Stop, StopsBy, Stops, IsNoCauseBy, IsNoCause}

-- the page of the version before in this block
pub record IsPageBefore (store : Store) (count : ℕ) (nodes : Option (List Node)) (path : List ℕ) (n : ℕ) : Type 0 where
  pub page : PageValue
  pub is : store n ≡ Some page
  pub level : page.level ≡ length path
  pub low : n < count
  pub slots : (k : ℕ) → before_at nodes (path ++ k ∷ []) ≡ page_before (slot_block page k)

-- the page that is found at a path is one of these, and is at the path
record FoundAt (P : Node → Type 0) (path : List ℕ) (node : Node) : Type 0 where
  pub has : P node
  pub at : path ≡ node.path

found_at : (P : Node → Type 0) (path : List ℕ) (nodes : List Node) (node : Node) → AllByRecursion P nodes → page_in path nodes ≡ Some node → FoundAt P path node
found_at P path [] node each e = absurd cc
found_at P path (x ∷ xs) node each e = of (same path x.path) refl e (found_at P path xs node each.1)
  where
    of : (b : Bool) → same path x.path ≡ b → cond b (Some x) (page_in path xs) ≡ Some node → (page_in path xs ≡ Some node → FoundAt P path node) → FoundAt P path node
    of true is h rest =
        let same_one : x ≡ node = cc in
        record { has = subst P same_one each.0; at = same_is path x.path is ∙ ap (λ n. n.path) same_one }
    of false is h rest = rest h

-- the page in the block that a version has at a path
record HeldAt (store : Store) (count : ℕ) (path : List ℕ) (n : ℕ) : Type 0 where
  pub page : PageValue
  pub is : store n ≡ Some page
  pub level : page.level ≡ length path
  pub low : n < count

held_at : (store : Store) (count root : ℕ) (nodes : List Node) (path : List ℕ) (n : ℕ) → PagesLie store count root nodes → block_in path nodes ≡ Some n → HeldAt store count path n
held_at store count root nodes path n lies e = of (page_in path nodes) refl e
  where
    of : (o : Option Node) → page_in path nodes ≡ o → option_map (λ node. node.block) o ≡ Some n → HeldAt store count path n
    of None is h = absurd cc
    of (Some node) is h =
        let f : FoundAt (IsNodeHeld store count) path node = found_at (IsNodeHeld store count) path nodes node lies.held is in
        let block : node.block ≡ n = cc in
        record {
          page = f.has.page;
          is = ap store (sym block) ∙ f.has.is;
          level = f.has.level ∙ ap length (sym f.at);
          low = subst (λ (m : ℕ). m < count) block f.has.low;
        }

page_is : (o : Option ℕ) (n : ℕ) → page_before o ≡ Page n → o ≡ Some n
page_is None n e = absurd cc
page_is (Some m) n e = cc

pub page_before_is : (store : Store) (count : ℕ) (nodes : Option (List Node)) (path : List ℕ) (n : ℕ) → BeforeLies store count nodes → before_at nodes path ≡ Page n
    → IsPageBefore store count nodes path n
page_before_is store count None path n lies at = absurd cc
page_before_is store count (Some nodes) path n (root, lies) at =
    let here : block_in path nodes ≡ Some n = page_is (block_in path nodes) n at in
    let held = held_at store count root nodes path n lies here in
    record {
      page = held.page;
      is = held.is;
      level = held.level;
      low = held.low;
      slots = λ k. ap page_before
          (lies.lie (path ++ k ∷ []) ∙ block_at_append store root path (k ∷ [])
          ∙ ap (option_and_then (λ c. block_at store c (k ∷ []))) (sym (lies.lie path) ∙ here)
          ∙ ap (λ o. option_and_then (λ below. block_at store below []) (option_and_then (λ page. slot_block page k) o)) held.is
          ∙ some_again (slot_block held.page k));
    }
  where
    some_again : (o : Option ℕ) → option_and_then (λ below. block_at store below []) o ≡ o
    some_again None = refl
    some_again (Some below) = refl

-- below a page that is not there nothing is
pub no_page_before : (store : Store) (count : ℕ) (nodes : Option (List Node)) (path : List ℕ) (k : ℕ) → BeforeLies store count nodes → before_at nodes path ≡ NoPage
    → before_at nodes (path ++ k ∷ []) ≡ NoPage
no_page_before store count None path k lies at = absurd cc
no_page_before store count (Some nodes) path k (root, lies) at =
    ap page_before (lies.lie (path ++ k ∷ []) ∙ block_at_append store root path (k ∷ [])
    ∙ ap (option_and_then (λ c. block_at store c (k ∷ []))) (sym (lies.lie path) ∙ none_is (block_in path nodes) at))
  where
    none_is : (o : Option ℕ) → page_before o ≡ NoPage → o ≡ None
    none_is None e = refl
    none_is (Some m) e = absurd cc

pub no_version_before : (store : Store) (count : ℕ) (nodes : Option (List Node)) (path : List ℕ) (k : ℕ) → before_at nodes path ≡ NoVersion
    → before_at nodes (path ++ k ∷ []) ≡ NoVersion
no_version_before store count None path k at = refl
no_version_before store count (Some nodes) path k at = of (block_in path nodes) at
  where
    of : (o : Option ℕ) → page_before o ≡ NoVersion → before_at (Some nodes) (path ++ k ∷ []) ≡ NoVersion
    of None e = absurd cc
    of (Some m) e = absurd cc

-- a block that holds a page holds something
pub content_of_page : (content : Content) (n : ℕ) (page : PageValue) → pages_of content n ≡ Some page → (bytes : List ℕ) × (content n ≡ Some bytes) × (page_of_block bytes ≡ Some page)
content_of_page content n page is = of (content n) refl is
  where
    of : (o : Option (List ℕ)) → content n ≡ o → option_and_then page_of_block o ≡ Some page → (bytes : List ℕ) × (content n ≡ Some bytes) × (page_of_block bytes ≡ Some page)
    of None e h = absurd cc
    of (Some bytes) e h = (bytes, e, h)

-- a page that is no root is spelled as a page below `/`
pub page_below_root : (bytes : List ℕ) (page : PageValue) → page_of_block bytes ≡ Some page → 1 ≤ page.level → page_of bytes ≡ Ok page
page_below_root bytes page is level = of (slice_index bytes 1 == 86) is
  where
    by_page : (r : Result PageValue Why) → read_of r ≡ Some page → r ≡ Ok page
    by_page (Ok p) e = cc
    by_page (Err why) e = absurd cc

    by_version : (r : Result VersionValue Why) → version_of bytes ≡ r → option_map (λ v. v.page) (read_of r) ≡ Some page → page_of bytes ≡ Ok page
    by_version (Ok v) e h =
        let level0 : v.page.level ≡ 0 = (reads_version (λ _. Some bytes) 0 bytes v refl e).level in
        let same : v.page ≡ page = cc in
        let level_is : v.page.level ≡ page.level = ap (λ p. p.level) same in
        absurd (Prim.omega (arith, level0, level_is, level))
    by_version (Err why) e h = absurd cc

    of : (b : Bool) → cond b (option_map (λ v. v.page) (read_of (version_of bytes))) (read_of (page_of bytes)) ≡ Some page → page_of bytes ≡ Ok page
    of true h = by_version (version_of bytes) refl h
    of false h = by_page (page_of bytes) h

cause_none : {X : Type 0} (o : Option Why) (x y : X) → cause_or o x ≡ Ok y → (o ≡ None) × (x ≡ y)
cause_none None x y e = (refl, cc)
cause_none (Some w) x y e = absurd cc

-- a page below `/` is of level 1 or more
page_level : (bytes : List ℕ) (page : PageValue) → page_of bytes ≡ Ok page → 1 ≤ page.level
unfolding frame_value
page_level bytes page e =
    let c = cause_none (first_cause (page_causes bytes)) (frame_value bytes) page e in
    let below : 1 ≤ slice_index bytes 2 = (PageFacts-none bytes c.0).below in
    let level : slice_index bytes 2 ≡ page.level = ap (λ p. p.level) c.1 in
    subst (λ (n : ℕ). 1 ≤ n) level below

-- a page of level 0 is spelled as that of a version page
root_read : (bytes : List ℕ) (page : PageValue) → page_of_block bytes ≡ Some page → page.level ≡ 0 → (version : VersionValue) × (version_of bytes ≡ Ok version) × (version.page ≡ page)
root_read bytes page is level = of (slice_index bytes 1 == 86) is
  where
    by_page : (r : Result PageValue Why) → page_of bytes ≡ r → read_of r ≡ Some page → (version : VersionValue) × (version_of bytes ≡ Ok version) × (version.page ≡ page)
    by_page (Ok p) e h =
        let one : 1 ≤ p.level = page_level bytes p e in
        let same : p ≡ page = cc in
        let level_is : p.level ≡ page.level = ap (λ q. q.level) same in
        absurd (Prim.omega (arith, one, level_is, level))
    by_page (Err why) e h = absurd cc

    by_version : (r : Result VersionValue Why) → version_of bytes ≡ r → option_map (λ v. v.page) (read_of r) ≡ Some page
        → (version : VersionValue) × (version_of bytes ≡ Ok version) × (version.page ≡ page)
    by_version (Ok v) e h = (v, e, cc)
    by_version (Err why) e h = absurd cc

    of : (b : Bool) → cond b (option_map (λ v. v.page) (read_of (version_of bytes))) (read_of (page_of bytes)) ≡ Some page
        → (version : VersionValue) × (version_of bytes ≡ Ok version) × (version.page ≡ page)
    of true h = by_version (version_of bytes) refl h
    of false h = by_page (page_of bytes) refl h

-- what a block that holds the root of a version is read as
pub version_read : (content : Content) (n : ℕ) (page : PageValue) (block : List ℕ) → pages_of content n ≡ Some page → page.level ≡ 0 → content n ≡ Some block
    → (version : VersionValue) × (version_of block ≡ Ok version) × (version.page ≡ page)
version_read content n page block is level here =
    let held = content_of_page content n page is in
    let same : held.0 ≡ block = some_is held.0 block (sym held.1 ∙ here) in
    subst (λ (b : List ℕ). (version : VersionValue) × (version_of b ≡ Ok version) × (version.page ≡ page)) same (root_read held.0 page held.2 level)
  where
    some_is : (x y : List ℕ) → Some x ≡ Some y → x ≡ y
    some_is x y e = cc

-- the root of a version is in its block
pub root_before : (store : Store) (count root : ℕ) (nodes : List Node) → PagesLie store count root nodes → before_at (Some nodes) [] ≡ Page root
root_before store count root nodes lies = ap page_before (lies.lie [])

-- what a block that holds such a page is read as
pub page_read : (content : Content) (n : ℕ) (page : PageValue) (block : List ℕ) → pages_of content n ≡ Some page → 1 ≤ page.level → content n ≡ Some block → page_of block ≡ Ok page
page_read content n page block is level here =
    let held = content_of_page content n page is in
    let same : held.0 ≡ block = some_is held.0 block (sym held.1 ∙ here) in
    ap page_of (sym same) ∙ page_below_root held.0 page held.2 level
  where
    some_is : (x y : List ℕ) → Some x ≡ Some y → x ≡ y
    some_is x y e = cc

abbrev found_or : {X : Type 0} → X → Result X Refused → X
found_or x (Ok y) = y
found_or x (Err e) = x

-- what a block that was read holds
pub content_was : (n : ℕ) (o : Option (List ℕ)) (bytes places after : List ℕ) → content_at n o places ≡ Ok (bytes, after) → o ≡ Some bytes
unfolding content_at done refuse
content_was n None bytes places after e = absurd cc
content_was n (Some held) bytes places after e = ap (λ r. Some (found_or {X = List ℕ × List ℕ} (held, places) r).0) e

-- a read of a block that holds something has no cause to stop
pub no_cause : (n : ℕ) (o : Option (List ℕ)) (bytes places : List ℕ) (e : Stop) → o ≡ Some bytes → Stops e (content_at n o places) → IsNoCause e
unfolding content_at done refuse
no_cause n None bytes places e is h = absurd cc
no_cause n (Some held) bytes places e is h = of e.refused e.past h
  where
    never : (e : Refused) → (let r : Result (List ℕ × List ℕ) Refused = Ok (held, places) in r) ≡ Err e → ⊥
    never e is = absurd cc

    of : (e : WalkRefused) (past : Half → Bool) → StopsBy {X = List ℕ} e past (Ok (held, places)) → IsNoCauseBy e past
    of (BadStore block why) past h = absurd cc
    of (ReadFault half) past h = λ late. never (h late).0 (h late).1
    of Memory past h = tt

-- what holds of the pages of the version before, where there is one
pub one_before : (store : Store) (count : ℕ) (laid : Option LaidVersion) → OneLies store count laid → BeforeLies store count (option_map (λ v. v.nodes) laid)
one_before store count None h = tt
one_before store count (Some v) h = (v.block, h)

-- the version before is the one that was kept
pub by_prior : (store : Store) (count : ℕ) (P : Option (List Node) → Type 0) (prior : Prior) (laid : Option LaidVersion) → OneLies store count laid → Some prior ≡ option_map prior_of laid
    → ((v : LaidVersion) → PagesLie store count v.block v.nodes → prior.block ≡ v.block → P (Some v.nodes)) → P (option_map (λ v. v.nodes) laid)
by_prior store count P prior None lies e each = absurd cc
by_prior store count P prior (Some v) lies e each =
    let same : prior ≡ prior_of v = cc in
    each v lies (ap (λ q. q.block) same)
