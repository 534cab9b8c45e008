-- A version after one whose pages lie in the same blocks is read alike, whatever else is said of those pages.
use Rattle.std.proofs.Common.{◌≡◌, ℕ, zero, suc, ◌+◌, ◌==◌, Bool, true, false, cond, List, [], ◌∷◌, ◌++◌, length, Option, Some, None, option_map, Ok, refl, sym, ap, subst, ◌∙◌, filter, map}
use Rattle.std.specs.Option.{option_and_then, option_or}
use Rattle.std.proofs.lemmas.List.Elements.{filter-append}
use Rattle.std.proofs.lemmas.List.Folds.{find-append}
use Rattle.afs_base.specs.Path.{is_prefix}
use Rattle.page_places.specs.Places.{same}
use Rattle.page_codec.specs.declared.why.Why.TheVariants.{Reference}
use Rattle.page_codec.specs.Values.{ReferenceValue}
use Rattle.store_model.specs.Walk.{Blocks, Walk, bind, done, refuse}
use Rattle.store_model.specs.Laid.{Node, LaidVersion, is_block, as_shared, shared_from, lies_at, page_in, block_in}
use Rattle.store_model.specs.Pages.{page_at, own_node, Below, own_from, named_from, slot_from, slots_from, pages_below}
use Rattle.store_model.specs.Chains.{version_at, root_node}
use Rattle.store_model.proofs.Steps.{Content, blocks_of, passed, went_on, ok≢err, same_value, same_places}
use Rattle.store_model.proofs.Rewriting.{VersionRead, version_read, version_made, made_of, Follows}
use Rattle.store_changes.specs.Stands.{own_in}
use Rattle.store_model.proofs.Finding.{block_in_append, block_in_first, block_in_shared}

-- the pages of its own
abbrev pub own_of : List Node → List Node
own_of nodes = filter (λ node. node.is_own) nodes

-- the block of a page, and the page itself where it is its version's own
abbrev pub shown_of : Node → ℕ × Option Node
shown_of node = (node.block, cond node.is_own (Some node) None)

-- that of the page at a path
abbrev pub seen_in : List ℕ → List Node → Option (ℕ × Option Node)
seen_in p nodes = option_map shown_of (page_in p nodes)

map_either : {X Y : Type 0} (f : X → Y) (a b : Option X) → option_map f (option_or a b) ≡ option_or (option_map f a) (option_map f b)
map_either f None b = refl
map_either f (Some x) b = refl

seen_append : (p : List ℕ) (xs ys : List Node) → seen_in p (xs ++ ys) ≡ option_or (seen_in p xs) (seen_in p ys)
seen_append p xs ys = ap (option_map shown_of) (find-append (λ (node : Node). same p node.path) xs ys) ∙ map_either shown_of (page_in p xs) (page_in p ys)

seen_first : (p : List ℕ) (x : Node) (xs : List Node) → seen_in p (x ∷ xs) ≡ cond (same p x.path) (Some (shown_of x)) (seen_in p xs)
seen_first p x xs = of (same p x.path)
  where
    of : (b : Bool) → option_map shown_of (cond b (Some x) (page_in p xs)) ≡ cond b (Some (shown_of x)) (seen_in p xs)
    of true = refl
    of false = refl

-- of pages that are shared nothing but the block is seen
abbrev block_alone : ℕ → ℕ × Option Node
block_alone block = (block, None)

seen_shared : (q p : List ℕ) (nodes : List Node) → seen_in p (map (as_shared q) nodes) ≡ option_map block_alone (block_in p (map (as_shared q) nodes))
seen_shared q p [] = refl
seen_shared q p (x ∷ xs) = of (same p x.path) (seen_shared q p xs)
  where
    of : (b : Bool) → seen_in p (map (as_shared q) xs) ≡ option_map block_alone (block_in p (map (as_shared q) xs))
        → option_map shown_of (cond b (Some (as_shared q x)) (page_in p (map (as_shared q) xs)))
        ≡ option_map block_alone (option_map (λ (node : Node). node.block) (cond b (Some (as_shared q x)) (page_in p (map (as_shared q) xs))))
    of true h = refl
    of false h = h

-- the page that is its version's own is what is seen
pub own_seen : (p : List ℕ) (nodes : List Node) → own_in p nodes ≡ option_and_then (λ (x : ℕ × Option Node). x.1) (seen_in p nodes)
own_seen p nodes = of (page_in p nodes)
  where
    of : (o : Option Node) → option_and_then (λ (node : Node). cond node.is_own (Some node) None) o
        ≡ option_and_then (λ (x : ℕ × Option Node). x.1) (option_map shown_of o)
    of None = refl
    of (Some node) = refl

-- pages at the same paths in the same blocks, and the same ones of their version's own
pub record NodesLike (xs ys : List Node) : Type 0 where
  pub blocks : (p : List ℕ) → block_in p ys ≡ block_in p xs
  pub own : own_of ys ≡ own_of xs
  pub seen : (p : List ℕ) → seen_in p ys ≡ seen_in p xs

abbrev pub BeforeLike : Option (List Node) → Option (List Node) → Type 0
BeforeLike None None = Unit {0}
BeforeLike None (Some ys) = ⊥
BeforeLike (Some xs) None = ⊥
BeforeLike (Some xs) (Some ys) = (p : List ℕ) → block_in p ys ≡ block_in p xs

-- the other walk finds the same places, and pages that are alike
pub record LikeRan (other : Walk (List Node)) (seen : List ℕ) (nodes : List Node) (all : List ℕ) : Type 0 where
  pub found : List Node
  pub runs : other seen ≡ Ok (found, all)
  pub like : NodesLike nodes found

abbrev pub LikeWalk : Walk (List Node) → Walk (List Node) → Type 0
LikeWalk walk other = (seen : List ℕ) (nodes : List Node) (all : List ℕ) → walk seen ≡ Ok (nodes, all) → LikeRan other seen nodes all

like_same : (nodes : List Node) → NodesLike nodes nodes
like_same nodes = record { blocks = λ p. refl; own = refl; seen = λ p. refl }

like_done : (xs ys : List Node) → NodesLike xs ys → LikeWalk (done xs) (done ys)
unfolding done
like_done xs ys like seen nodes all e =
    record {
      found = ys;
      runs = ap (λ l. Ok (ys, l)) (same_places seen all xs nodes e);
      like = subst (λ n. NodesLike n ys) (same_value seen all xs nodes e) like;
    }

like_refuse : (block : ℕ) → LikeWalk (refuse block Reference) (refuse block Reference)
unfolding refuse
like_refuse block seen nodes all e = absurd (ok≢err e)

both_like : (xs ys here there : List Node) → NodesLike xs here → NodesLike ys there → NodesLike (xs ++ ys) (here ++ there)
both_like xs ys here there a b =
    record {
      blocks = λ p. block_in_append p here there ∙ ap (λ o. option_or o (block_in p there)) (a.blocks p) ∙ ap (option_or (block_in p xs)) (b.blocks p) ∙ sym (block_in_append p xs ys);
      own = filter-append (λ (node : Node). node.is_own) here there ∙ ap (λ l. l ++ own_of there) a.own ∙ ap (λ l. own_of xs ++ l) b.own
          ∙ sym (filter-append (λ (node : Node). node.is_own) xs ys);
      seen = λ p. seen_append p here there ∙ ap (λ o. option_or o (seen_in p there)) (a.seen p) ∙ ap (option_or (seen_in p xs)) (b.seen p) ∙ sym (seen_append p xs ys);
    }

own_like : (node : Node) (xs ys : List Node) → node.is_own ≡ true → NodesLike xs ys → NodesLike (node ∷ xs) (node ∷ ys)
own_like node xs ys own like =
    record {
      blocks = λ p. block_in_first p node ys ∙ ap (cond (same p node.path) (Some node.block)) (like.blocks p) ∙ sym (block_in_first p node xs);
      own = ap (λ b. cond b (node ∷ own_of ys) (own_of ys)) own ∙ ap (λ l. node ∷ l) like.own ∙ sym (ap (λ b. cond b (node ∷ own_of xs) (own_of xs)) own);
      seen = λ p. seen_first p node ys ∙ ap (cond (same p node.path) (Some (shown_of node))) (like.seen p) ∙ sym (seen_first p node xs);
    }

none_own : (path : List ℕ) (nodes : List Node) → own_of (map (as_shared path) nodes) ≡ []
none_own path [] = refl
none_own path (node ∷ nodes) = none_own path nodes

shared_like : (q : List ℕ) (xs ys : List Node) → ((p : List ℕ) → block_in p ys ≡ block_in p xs) → NodesLike (shared_from q xs) (shared_from q ys)
shared_like q xs ys like =
    record {
      blocks = blocks;
      own = none_own q (filter (λ node. is_prefix q node.path) ys) ∙ sym (none_own q (filter (λ node. is_prefix q node.path) xs));
      seen = λ p. seen_shared q p (filter (λ node. is_prefix q node.path) ys) ∙ ap (option_map block_alone) (blocks p)
          ∙ sym (seen_shared q p (filter (λ node. is_prefix q node.path) xs));
    }
  where
    blocks : (p : List ℕ) → block_in p (shared_from q ys) ≡ block_in p (shared_from q xs)
    blocks p = block_in_shared q p ys ∙ ap (λ o. cond (is_prefix q p) o None) (like p) ∙ sym (block_in_shared q p xs)

abbrev BelowLike : Below → Below → Type 0
BelowLike below other = (block : ℕ) (path : List ℕ) (refs : List ReferenceValue) → LikeWalk (below block path refs) (other block path refs)

like_own : (blocks : Blocks) (below other : Below) → BelowLike below other → (namer : ℕ) (path : List ℕ) (reference : ReferenceValue) (block : ℕ)
    → LikeWalk (own_from blocks below namer path reference block) (own_from blocks other namer path reference block)
unfolding own_from bind done
like_own blocks below other each namer path reference block seen nodes all e =
    let p = passed (page_at blocks namer block (length path) seen) _ nodes all e in
    let q = passed (below block path p.value.refs p.places) _ nodes all p.second in
    let r : LikeRan (other block path p.value.refs) p.places q.value q.places = each block path p.value.refs p.places q.value q.places q.first in
    let node : Node = own_node path reference block p.value in
    record {
      found = node ∷ r.found;
      runs = went_on (page_at blocks namer block (length path)) _ seen p.value p.places _ p.first
          (went_on (other block path p.value.refs) _ p.places r.found q.places _ r.runs (ap (λ l. Ok (node ∷ r.found, l)) (same_places q.places all (node ∷ q.value) nodes q.second)));
      like = subst (λ n. NodesLike n (node ∷ r.found)) (same_value q.places all (node ∷ q.value) nodes q.second) (own_like node q.value r.found refl r.like);
    }

like_named : (blocks : Blocks) (below other : Below) → BelowLike below other → (one two : Option (List Node)) → BeforeLike one two
    → (namer : ℕ) (path : List ℕ) (reference : ReferenceValue) (block : ℕ)
    → LikeWalk (named_from blocks below one namer path reference block) (named_from blocks other two namer path reference block)
unfolding named_from
like_named blocks below other each None None like namer path reference block = like_own blocks below other each namer path reference block
like_named blocks below other each None (Some ys) like namer path reference block = absurd like
like_named blocks below other each (Some xs) None like namer path reference block = absurd like
like_named blocks below other each (Some xs) (Some ys) like namer path reference block =
    of reference.flags.copied (lies_at path block xs) (lies_at path block ys) (ap (is_block block) (like path))
  where
    of : (x y z : Bool) → z ≡ y
        → LikeWalk (cond x (own_from blocks below namer path reference block) (cond y (done (shared_from path xs)) (refuse namer Reference)))
        (cond x (own_from blocks other namer path reference block) (cond z (done (shared_from path ys)) (refuse namer Reference)))
    of true y z e = like_own blocks below other each namer path reference block
    of false true true e = like_done (shared_from path xs) (shared_from path ys) (shared_like path xs ys like)
    of false true false e = absurd cc
    of false false true e = absurd cc
    of false false false e = like_refuse namer

like_slot : (blocks : Blocks) (below other : Below) → BelowLike below other → (one two : Option (List Node)) → BeforeLike one two
    → (namer : ℕ) (path : List ℕ) (reference : ReferenceValue) (block : Option ℕ)
    → LikeWalk (slot_from blocks below one namer path reference block) (slot_from blocks other two namer path reference block)
unfolding slot_from
like_slot blocks below other each one two like namer path reference None = like_done [] [] (like_same [])
like_slot blocks below other each one two like namer path reference (Some block) = like_named blocks below other each one two like namer path reference block

like_slots : (blocks : Blocks) (below other : Below) → BelowLike below other → (one two : Option (List Node)) → BeforeLike one two
    → (namer : ℕ) (path : List ℕ) (slot : ℕ) (refs : List ReferenceValue)
    → LikeWalk (slots_from blocks below one namer path slot refs) (slots_from blocks other two namer path slot refs)
unfolding slots_from bind done
like_slots blocks below other each one two like namer path slot [] = like_done [] [] (like_same [])
like_slots blocks below other each one two like namer path slot (reference ∷ others) =
    λ seen nodes all e.
    let p = passed (slot_from blocks below one namer (path ++ slot ∷ []) reference reference.block seen) _ nodes all e in
    let a : LikeRan (slot_from blocks other two namer (path ++ slot ∷ []) reference reference.block) seen p.value p.places =
    like_slot blocks below other each one two like namer (path ++ slot ∷ []) reference reference.block seen p.value p.places p.first in
    let q = passed (slots_from blocks below one namer path (suc slot) others p.places) _ nodes all p.second in
    let b : LikeRan (slots_from blocks other two namer path (suc slot) others) p.places q.value q.places =
    like_slots blocks below other each one two like namer path (suc slot) others p.places q.value q.places q.first in
    record {
      found = a.found ++ b.found;
      runs = went_on (slot_from blocks other two namer (path ++ slot ∷ []) reference reference.block) _ seen a.found p.places _ a.runs
          (went_on (slots_from blocks other two namer path (suc slot) others) _ p.places b.found q.places _ b.runs
          (ap (λ l. Ok (a.found ++ b.found, l)) (same_places q.places all (p.value ++ q.value) nodes q.second)));
      like = subst (λ n. NodesLike n (a.found ++ b.found)) (same_value q.places all (p.value ++ q.value) nodes q.second) (both_like p.value q.value a.found b.found a.like b.like);
    }

pub like_below : (blocks : Blocks) (one two : Option (List Node)) → BeforeLike one two → (depth : ℕ) → BelowLike (pages_below blocks one depth) (pages_below blocks two depth)
unfolding pages_below
like_below blocks one two like zero = λ block path refs. like_done [] [] (like_same [])
like_below blocks one two like (suc depth) =
    λ block path refs. like_slots blocks (pages_below blocks one depth) (pages_below blocks two depth) (like_below blocks one two like depth) one two like block path 0 refs

-- ---- versions

-- the same version but for what is said of its pages besides their blocks
pub record HeadLike (one two : LaidVersion) : Type 0 where
  pub serial : one.serial ≡ two.serial
  pub block : one.block ≡ two.block
  pub commit : one.commit ≡ two.commit
  pub members : one.members ≡ two.members
  pub blocks : (p : List ℕ) → block_in p two.nodes ≡ block_in p one.nodes

-- and with the same pages of its own
pub record VersionLike (one two : LaidVersion) : Type 0 where
  pub head : HeadLike one two
  pub own : own_of two.nodes ≡ own_of one.nodes
  pub seen : (p : List ℕ) → seen_in p two.nodes ≡ seen_in p one.nodes

pub record VersionGoes (c : Content) (count object namer block : ℕ) (before : LaidVersion) (seen : List ℕ) (u : LaidVersion) (all : List ℕ) : Type 0 where
  pub version : LaidVersion
  pub runs : version_at (blocks_of c count) object namer block (Some before) seen ≡ Ok (version, all)
  pub like : VersionLike u version

pub version_like : (c : Content) (count object namer block : ℕ) (one two : LaidVersion) (seen : List ℕ) (u : LaidVersion) (all : List ℕ)
    → HeadLike one two → version_at (blocks_of c count) object namer block (Some one) seen ≡ Ok (u, all) → VersionGoes c count object namer block two seen u all
version_like c count object namer block one two seen u all h e =
    let v : VersionRead c count object block (Some one) seen u all = version_read c count object namer block (Some one) seen u all e in
    let r : LikeRan (pages_below (blocks_of c count) (Some two.nodes) 7 block [] v.page.page.refs) (block ∷ seen) v.others all =
    like_below (blocks_of c count) (Some one.nodes) (Some two.nodes) h.blocks 7 block [] v.page.page.refs (block ∷ seen) v.others all v.below in
    let owes : Follows v.page two =
    record {
      serial = ap (λ n. v.page.serial == n + 1) (sym h.serial) ∙ v.owes.serial;
      base = ap (λ n. is_block n v.page.base) (sym h.block) ∙ v.owes.base;
      copied = v.owes.copied;
    } in
    let nodes : NodesLike (root_node block v.page ∷ v.others) (root_node block v.page ∷ r.found) = own_like (root_node block v.page) v.others r.found refl r.like in
    record {
      version = made_of block v.page r.found;
      runs = version_made c count object namer block (Some two) seen all v.bytes v.page r.found v.ranged v.fresh v.holds v.reads v.objects owes v.members r.runs;
      like = subst (λ w. VersionLike w (made_of block v.page r.found)) (sym v.made)
          (record { head = record { serial = refl; block = refl; commit = refl; members = refl; blocks = nodes.blocks }; own = nodes.own; seen = nodes.seen });
    }
