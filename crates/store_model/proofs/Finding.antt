-- Finding the page at a path in a list of pages, and what a page's slots name, path by path.
use Rattle.std.proofs.Common.{◌≡◌, ℕ, zero, suc, ◌+◌, ◌<◌, Bool, true, false, cond, ◌&&◌, nat_eq, List, [], ◌∷◌, ◌++◌, Option, Some, None, option_map, refl, sym, ap, ◌∙◌, arith, eq-eqb, eqb-true, inl, inr, slice_get, filter, map}
use Rattle.std.specs.Option.{option_and_then, option_or}
use Rattle.std.proofs.lemmas.List.Folds.{find-append}
use Rattle.afs_base.specs.Path.{is_prefix}
use Rattle.page_codec.specs.Values.{ReferenceValue, PageValue}
use Rattle.page_places.specs.Places.{Store, same, block_at, slot_block}
use Rattle.tree_model.proofs.Paths.{told, same_is}
use Rattle.store_model.specs.Laid.{Node, page_in, block_in, as_shared, shared_from}

-- ---- what is left of a path below another one

abbrev pub strip : List ℕ → List ℕ → Option (List ℕ)
strip [] p = Some p
strip (s ∷ q) [] = None
strip (s ∷ q) (t ∷ p) = cond (nat_eq s t) (strip q p) None

pub strip_append : (q r p : List ℕ) → strip (q ++ r) p ≡ option_and_then (strip r) (strip q p)
strip_append [] r p = refl
strip_append (s ∷ q) r [] = refl
strip_append (s ∷ q) r (t ∷ p) = of (nat_eq s t) (strip_append q r p)
  where
    of : (b : Bool) → strip (q ++ r) p ≡ option_and_then (strip r) (strip q p) → cond b (strip (q ++ r) p) None ≡ option_and_then (strip r) (cond b (strip q p) None)
    of true h = h
    of false h = refl

pub strip_is : (q p r : List ℕ) → strip q p ≡ Some r → q ++ r ≡ p
strip_is [] p r e = sym (some_is e)
  where
    some_is : {x y : List ℕ} → Some x ≡ Some y → x ≡ y
    some_is h = cc
strip_is (s ∷ q) [] r e = absurd cc
strip_is (s ∷ q) (t ∷ p) r e = of (nat_eq s t) refl e (strip_is q p r)
  where
    of : (b : Bool) → nat_eq s t ≡ b → cond b (strip q p) None ≡ Some r → (strip q p ≡ Some r → q ++ r ≡ p) → s ∷ (q ++ r) ≡ t ∷ p
    of true told' h rest = let head : s ≡ t = eqb-true s t told' in let tail : q ++ r ≡ p = rest h in cc
    of false told' h rest = absurd cc

pub strip_self : (q r : List ℕ) → strip q (q ++ r) ≡ Some r
strip_self [] r = refl
strip_self (s ∷ q) r = ap (λ b. cond b (strip q (q ++ r)) None) (eq-eqb s s refl) ∙ strip_self q r

pub prefix_strip : (q p : List ℕ) → strip q p ≡ None → is_prefix q p ≡ false
prefix_strip [] p e = absurd cc
prefix_strip (s ∷ q) [] e = refl
prefix_strip (s ∷ q) (t ∷ p) e = of (nat_eq s t) e (prefix_strip q p)
  where
    of : (b : Bool) → cond b (strip q p) None ≡ None → (strip q p ≡ None → is_prefix q p ≡ false) → (b && is_prefix q p) ≡ false
    of true h rest = rest h
    of false h rest = refl

-- ---- the block of the page at a path

option_map_or_both : {X Y : Type 0} (f : X → Y) (a b : Option X) → option_map f (option_or a b) ≡ option_or (option_map f a) (option_map f b)
option_map_or_both f None b = refl
option_map_or_both f (Some x) b = refl

pub block_in_append : (p : List ℕ) (xs ys : List Node) → block_in p (xs ++ ys) ≡ option_or (block_in p xs) (block_in p ys)
block_in_append p xs ys =
    ap (option_map (λ node. node.block)) (find-append (λ (node : Node). same p node.path) xs ys)
    ∙ option_map_or_both (λ (node : Node). node.block) (page_in p xs) (page_in p ys)

-- the block of the first page, where that is at the path, else what the others say
pub block_in_first : (p : List ℕ) (x : Node) (xs : List Node) → block_in p (x ∷ xs) ≡ cond (same p x.path) (Some x.block) (block_in p xs)
block_in_first p x xs = of (same p x.path)
  where
    of : (b : Bool) → option_map (λ (node : Node). node.block) (cond b (Some x) (page_in p xs)) ≡ cond b (Some x.block) (block_in p xs)
    of true = refl
    of false = refl

cond_same : {X : Type 0} (b : Bool) (x : X) → cond b x x ≡ x
cond_same true x = refl
cond_same false x = refl

pub block_in_shared : (q p : List ℕ) (nodes : List Node) → block_in p (shared_from q nodes) ≡ cond (is_prefix q p) (block_in p nodes) None
block_in_shared q p [] = sym (cond_same (is_prefix q p) None)
block_in_shared q p (x ∷ xs) = of (is_prefix q x.path) refl (block_in_shared q p xs)
  where
    below : (b : Bool) → same p x.path ≡ b → is_prefix q x.path ≡ true → block_in p (shared_from q xs) ≡ cond (is_prefix q p) (block_in p xs) None
        → cond b (Some x.block) (block_in p (shared_from q xs)) ≡ cond (is_prefix q p) (cond b (Some x.block) (block_in p xs)) None
    below true is under rest =
        let above : is_prefix q p ≡ true = ap (is_prefix q) (same_is p x.path is) ∙ under in
        sym (ap (λ c. cond c (Some x.block) None) above)
    below false is under rest = rest

    beside : (b : Bool) → same p x.path ≡ b → is_prefix q x.path ≡ false → block_in p (shared_from q xs) ≡ cond (is_prefix q p) (block_in p xs) None
        → block_in p (shared_from q xs) ≡ cond (is_prefix q p) (cond b (Some x.block) (block_in p xs)) None
    beside true is out rest =
        let apart : is_prefix q p ≡ false = ap (is_prefix q) (same_is p x.path is) ∙ out in
        rest ∙ ap (λ c. cond c (block_in p xs) None) apart ∙ sym (ap (λ c. cond c (Some x.block) None) apart)
    beside false is out rest = rest

    of : (b : Bool) → is_prefix q x.path ≡ b → block_in p (shared_from q xs) ≡ cond (is_prefix q p) (block_in p xs) None
        → block_in p (map (as_shared q) (cond b (x ∷ filter (λ node. is_prefix q node.path) xs) (filter (λ node. is_prefix q node.path) xs)))
        ≡ cond (is_prefix q p) (block_in p (x ∷ xs)) None
    of true under rest =
        block_in_first p (as_shared q x) (shared_from q xs) ∙ below (same p x.path) refl under rest
        ∙ ap (λ o. cond (is_prefix q p) o None) (sym (block_in_first p x xs))
    of false out rest = beside (same p x.path) refl out rest ∙ ap (λ o. cond (is_prefix q p) o None) (sym (block_in_first p x xs))

-- ---- what the slots of a page name

-- the block that lies at a path below one of these slots, whose numbers count from `slot`
abbrev pub named : Store → ℕ → List ReferenceValue → ℕ → List ℕ → Option ℕ
named store slot [] s r = None
named store slot (x ∷ xs) s r = cond (nat_eq slot s) (option_and_then (λ n. block_at store n r) x.block) (named store (suc slot) xs s r)

pub named_before : (store : Store) (slot : ℕ) (refs : List ReferenceValue) (s : ℕ) (r : List ℕ) → s < slot → named store slot refs s r ≡ None
named_before store slot [] s r h = refl
named_before store slot (x ∷ xs) s r h = of (nat_eq slot s) refl (named_before store (suc slot) xs s r (omega (arith, h)))
  where
    of : (b : Bool) → nat_eq slot s ≡ b → named store (suc slot) xs s r ≡ None
        → cond b (option_and_then (λ n. block_at store n r) x.block) (named store (suc slot) xs s r) ≡ None
    of true e rest = let same_slot : slot ≡ s = eqb-true slot s e in absurd (omega (arith, same_slot, h))
    of false e rest = rest

named_get : (store : Store) (slot j : ℕ) (refs : List ReferenceValue) (r : List ℕ)
    → named store slot refs (slot + j) r ≡ option_and_then (λ n. block_at store n r) (option_and_then (λ x. x.block) (slice_get refs j))
named_get store slot j [] r = refl
named_get store slot zero (x ∷ xs) r =
    let here : slot ≡ slot + 0 = omega arith in
    ap (λ b. cond b (option_and_then (λ n. block_at store n r) x.block) (named store (suc slot) xs (slot + 0) r)) (eq-eqb slot (slot + 0) here)
named_get store slot (suc j) (x ∷ xs) r =
    let past : slot + suc j ≡ suc slot + j = omega arith in
    let other : nat_eq slot (slot + suc j) ≡ false = apart slot (slot + suc j) (λ e. omega (arith, e)) in
    ap (λ b. cond b (option_and_then (λ n. block_at store n r) x.block) (named store (suc slot) xs (slot + suc j) r)) other
    ∙ ap (λ s. named store (suc slot) xs s r) past ∙ named_get store (suc slot) j xs r
  where
    apart : (m n : ℕ) → (m ≡ n → ⊥) → nat_eq m n ≡ false
    apart m n h = elim (told (nat_eq m n)) [ inl t ↦ absurd (h (eqb-true m n t)) | inr f ↦ f ]

-- from slot 0 on, they name what a walk down from the page finds
pub named_is : (store : Store) (b s : ℕ) (r : List ℕ) (page : PageValue) → store b ≡ Some page → named store 0 page.refs s r ≡ block_at store b (s ∷ r)
named_is store b s r page e =
    let zero_on : s ≡ 0 + s = omega arith in
    ap (λ k. named store 0 page.refs k r) zero_on ∙ named_get store 0 s page.refs r
    ∙ sym (ap (λ o. option_and_then (λ below. block_at store below r) (option_and_then (λ (x : PageValue). slot_block x s) o)) e)
