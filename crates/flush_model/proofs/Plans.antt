-- The places of a plan: which path has which block.
use Rattle.std.proofs.Common.{◌≡◌, ◌⊎◌, inl, inr, ℕ, zero, suc, ◌<◌, true, false, not, ◌||◌, cond, nat_eq, List, [], ◌∷◌, ◌++◌, length, Some, refl, sym, ap, ◌∙◌, arith, eq-eqb, eqb-true, true≢false, slice_get}
use Rattle.std.specs.List.{list_all}
use Rattle.std.specs.Ordering.{is_lt, is_eq}
use Rattle.std.specs.Cmp.{first_so, second_so}
use Rattle.std.specs.declared.cmp.Ordering.{Ordering}
use Rattle.std.specs.declared.cmp.Ordering.TheVariants.{Less, Equal, Greater}
use Rattle.afs_base.specs.Path.{path_cmp}
use Rattle.tree_model.proofs.Paths.{told, not_true, same_is, same_self, or_left, or_right, or_told}
use Rattle.page_places.specs.Places.{same}
use Rattle.draft_model.specs.Told.{are_rising}
use Rattle.draft_model.specs.Flush.{Placed, block_of, in_turn, is_block_of, are_apart}
use Rattle.version_chain.specs.Flush.{paths_of}
use Rattle.version_chain.proofs.Written.{got_lt}

pub some_is : {X : Type 0} {x y : X} → Some x ≡ Some y → x ≡ y
some_is h = cc

-- a place with a path and a block
abbrev pub place_at : List ℕ → ℕ → Placed
place_at p b = record { path = p; block = b }

pub record PlaceAt (places : List Placed) (p : List ℕ) (b : ℕ) : Type 0 where
  pub k : ℕ
  pub at : slice_get places k ≡ Some (place_at p b)

pub place_of : (placed : List Placed) (p : List ℕ) (b : ℕ) → block_of placed p ≡ Some b → PlaceAt placed p b
place_of [] p b at = absurd cc
place_of (x ∷ placed) p b at = by (told (same p x.path)) (place_of placed p b)
  where
    by : (same p x.path ≡ true) ⊎ (same p x.path ≡ false) → (block_of placed p ≡ Some b → PlaceAt placed p b) → PlaceAt (x ∷ placed) p b
    by (inl e) rest =
        let block : x.block ≡ b = some_is (sym (ap (λ c. cond c (Some x.block) (block_of placed p)) e) ∙ at) in
        record { k = 0; at = ap (λ q. Some (place_at q x.block)) (sym (same_is p x.path e)) ∙ ap (λ n. Some (place_at p n)) block }
    by (inr e) rest =
        let found : PlaceAt placed p b = rest (sym (ap (λ c. cond c (Some x.block) (block_of placed p)) e) ∙ at) in
        record { k = suc found.k; at = found.at }

get_left : (placed : List Placed) (y : Placed) (k : ℕ) (x : Placed) → slice_get placed k ≡ Some x → slice_get (placed ++ y ∷ []) k ≡ Some x
get_left [] y k x at = absurd cc
get_left (z ∷ placed) y zero x at = at
get_left (z ∷ placed) y (suc k) x at = get_left placed y k x at

get_last : (placed : List Placed) (y : Placed) → slice_get (placed ++ y ∷ []) (length placed) ≡ Some y
get_last [] y = refl
get_last (z ∷ placed) y = get_last placed y

-- a place in the order of writing
pub record TurnAt (placed : List Placed) (p : List ℕ) (b : ℕ) : Type 0 where
  pub k : ℕ
  pub small : k < length placed
  pub at : slice_get (in_turn placed) k ≡ Some (place_at p b)

pub turn_of : (placed : List Placed) (p : List ℕ) (b : ℕ) → block_of placed p ≡ Some b → TurnAt placed p b
turn_of [] p b at = absurd cc
turn_of (x ∷ placed) p b at = let found : PlaceAt (x ∷ placed) p b = place_of (x ∷ placed) p b at in by found.k found.at
  where
    by : (k : ℕ) → slice_get (x ∷ placed) k ≡ Some (place_at p b) → TurnAt (x ∷ placed) p b
    by zero is = record { k = length placed; small = omega arith; at = get_last placed x ∙ is }
    by (suc k) is = let low : k < length placed = got_lt placed k (place_at p b) is in record { k = k; small = omega (arith, low); at = get_left placed x k (place_at p b) is }

-- ---- blocks

-- the block of a path is one of the places'
pub is_among : (placed : List Placed) (p : List ℕ) (b : ℕ) → block_of placed p ≡ Some b → is_block_of placed b ≡ true
is_among [] p b at = absurd cc
is_among (x ∷ placed) p b at = by (told (same p x.path)) (is_among placed p b)
  where
    by : (same p x.path ≡ true) ⊎ (same p x.path ≡ false) → (block_of placed p ≡ Some b → is_block_of placed b ≡ true) → (nat_eq b x.block || is_block_of placed b) ≡ true
    by (inl e) rest = or_left (nat_eq b x.block) (is_block_of placed b) (eq-eqb b x.block (sym (some_is (sym (ap (λ c. cond c (Some x.block) (block_of placed p)) e) ∙ at))))
    by (inr e) rest = or_right (nat_eq b x.block) (is_block_of placed b) (rest (sym (ap (λ c. cond c (Some x.block) (block_of placed p)) e) ∙ at))

-- no two paths have one block
pub one_path : (placed : List Placed) → are_apart placed ≡ true → (p q : List ℕ) (b : ℕ) → block_of placed p ≡ Some b → block_of placed q ≡ Some b → p ≡ q
one_path [] apart p q b at to = absurd cc
one_path (x ∷ placed) apart p q b at to =
    by (told (same p x.path)) (told (same q x.path))
    (one_path placed (second_so (not (is_block_of placed x.block)) (are_apart placed) apart) p q b)
  where
    alone : is_block_of placed x.block ≡ false
    alone = not_true (is_block_of placed x.block) (first_so (not (is_block_of placed x.block)) (are_apart placed) apart)

    here : (r : List ℕ) → same r x.path ≡ true → block_of (x ∷ placed) r ≡ Some b → x.block ≡ b
    here r e is = some_is (sym (ap (λ c. cond c (Some x.block) (block_of placed r)) e) ∙ is)

    later : (r : List ℕ) → same r x.path ≡ false → block_of (x ∷ placed) r ≡ Some b → block_of placed r ≡ Some b
    later r e is = sym (ap (λ c. cond c (Some x.block) (block_of placed r)) e) ∙ is

    clash : (r : List ℕ) → x.block ≡ b → block_of placed r ≡ Some b → ⊥
    clash r e is = true≢false (sym (is_among placed r b is) ∙ ap (is_block_of placed) (sym e) ∙ alone)

    by : (same p x.path ≡ true) ⊎ (same p x.path ≡ false) → (same q x.path ≡ true) ⊎ (same q x.path ≡ false)
        → (block_of placed p ≡ Some b → block_of placed q ≡ Some b → p ≡ q) → p ≡ q
    by (inl e) (inl f) rest = same_is p x.path e ∙ sym (same_is q x.path f)
    by (inl e) (inr f) rest = absurd (clash q (here p e at) (later q f to))
    by (inr e) (inl f) rest = absurd (clash p (here q f to) (later p e at))
    by (inr e) (inr f) rest = rest (later p e at) (later q f to)

-- ---- where paths rise, each place has the block of its path

less_apart : (p q : List ℕ) → is_lt (path_cmp p q) ≡ true → same q p ≡ false
less_apart p q less = by (told (same q p))
  where
    by : (same q p ≡ true) ⊎ (same q p ≡ false) → same q p ≡ false
    by (inr f) = f
    by (inl t) =
        let is : q ≡ p = same_is q p t in
        let self : is_eq (path_cmp p p) ≡ true = same_self p in
        absurd (both_never (path_cmp p p) (ap (λ r. is_lt (path_cmp p r)) (sym is) ∙ less) self)
      where
        both_never : (o : Ordering) → is_lt o ≡ true → is_eq o ≡ true → ⊥
        both_never Less h k = true≢false (sym k)
        both_never Equal h k = true≢false (sym h)
        both_never Greater h k = true≢false (sym h)

-- a path of a later place is another one
later_path : (first : List ℕ) (places : List Placed) → list_all (λ q. is_lt (path_cmp first q)) (paths_of places) ≡ true → (p : List ℕ) (b : ℕ) → block_of places p ≡ Some b
    → same p first ≡ false
later_path first [] all p b at = absurd cc
later_path first (y ∷ places) all p b at =
    of (told (same p y.path)) (later_path first places (second_so (is_lt (path_cmp first y.path)) (list_all (λ q. is_lt (path_cmp first q)) (paths_of places)) all) p b)
  where
    of : (same p y.path ≡ true) ⊎ (same p y.path ≡ false) → (block_of places p ≡ Some b → same p first ≡ false) → same p first ≡ false
    of (inl e) rest =
        ap (λ r. same r first) (same_is p y.path e)
        ∙ less_apart first y.path (first_so (is_lt (path_cmp first y.path)) (list_all (λ q. is_lt (path_cmp first q)) (paths_of places)) all)
    of (inr e) rest = rest (sym (ap (λ c. cond c (Some y.block) (block_of places p)) e) ∙ at)

pub path_of : (placed : List Placed) (n : ℕ) → are_rising (paths_of placed) ≡ true → is_block_of placed n ≡ true → (p : List ℕ) × (block_of placed p ≡ Some n)
path_of [] n rising h = absurd (true≢false (sym h))
path_of (x ∷ placed) n rising h =
    by (or_told (nat_eq n x.block) (is_block_of placed n) h)
    (path_of placed n (second_so (list_all (λ q. is_lt (path_cmp x.path q)) (paths_of placed)) (are_rising (paths_of placed)) rising))
  where
    first : list_all (λ q. is_lt (path_cmp x.path q)) (paths_of placed) ≡ true
    first = first_so (list_all (λ q. is_lt (path_cmp x.path q)) (paths_of placed)) (are_rising (paths_of placed)) rising

    by : (nat_eq n x.block ≡ true) ⊎ (is_block_of placed n ≡ true) → (is_block_of placed n ≡ true → (p : List ℕ) × (block_of placed p ≡ Some n))
        → (p : List ℕ) × (block_of (x ∷ placed) p ≡ Some n)
    by (inl e) rest = (x.path, ap (λ c. cond c (Some x.block) (block_of placed x.path)) (same_self x.path) ∙ ap Some (sym (eqb-true n x.block e)))
    by (inr e) rest =
        let r : (p : List ℕ) × (block_of placed p ≡ Some n) = rest e in
        (r.0, ap (λ c. cond c (Some x.block) (block_of placed r.0)) (later_path x.path placed first r.0 n r.1) ∙ r.1)

-- a place with this block
pub record BlockAt (placed : List Placed) (n : ℕ) : Type 0 where
  pub k : ℕ
  pub place : Placed
  pub at : slice_get placed k ≡ Some place
  pub block : place.block ≡ n

pub block_at : (placed : List Placed) (n : ℕ) → is_block_of placed n ≡ true → BlockAt placed n
block_at [] n h = absurd (true≢false (sym h))
block_at (x ∷ placed) n h = elim (or_told (nat_eq n x.block) (is_block_of placed n) h) [
  | inl e ↦ record { k = 0; place = x; at = refl; block = sym (eqb-true n x.block e) }
  | inr e ↦ (let r : BlockAt placed n = block_at placed n e in record { k = suc r.k; place = r.place; at = r.at; block = r.block })
]
