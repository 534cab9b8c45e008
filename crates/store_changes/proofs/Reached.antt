-- The version at a place of a chain: where it was read, and that its pages lie each in a block of its own, apart from all that was found before the
-- chain.
use Rattle.std.proofs.Common.{◌≡◌, ℕ, zero, suc, ◌+◌, arith, ◌&&◌, nat_le, nat_lt, true, List, [], ◌∷◌, ◌++◌, ◌⊎◌, inl, inr, Option, Some, None, Ok, refl, sym, ap, subst, ◌∙◌, slice_get, take, drop}
use Rattle.std.proofs.lemmas.Bool.{le-leb, lt-ltb}
use Rattle.tree_model.proofs.Paths.{both_true}
use Rattle.store_model.specs.Walk.{bind, done}
use Rattle.store_model.specs.Laid.{LaidVersion, block_in}
use Rattle.store_model.specs.Chains.{version_at, chain_from, chain_at}
use Rattle.store_model.proofs.PlaceLists.{IsIn, in_right, in_either, in_along}
use Rattle.store_changes.specs.Stands.{IsPageOf, IsPageOfAny}
use Rattle.store_model.proofs.Steps.{Content, blocks_of, InRange, Ran, Passed, passed, same_value, same_places}
use Rattle.store_model.proofs.Locality.{framed_version}
use Rattle.store_model.proofs.Rewriting.{VersionRead, version_read}
use Rattle.store_model.proofs.Chaining.{Ended, Onward}
use Rattle.store_model.proofs.Edits.{some_is, none_some}
use Rattle.store_model.proofs.Held.{Lies}
use Rattle.store_model.specs.Laws.{pages_of}
use Rattle.store_changes.proofs.Again.{chain_split, version_lies}
use Rattle.store_changes.proofs.OnePlace.{block_before, Lone, lone_version}
use Rattle.store_changes.proofs.FirstAgain.{LiesApart}
use Rattle.store_changes.proofs.Only.{version_only}

-- the pages of a version lie in places, each in its own, and none where something was found before the chain
pub record Placed (count : ℕ) (start : List ℕ) (u : LaidVersion) (mid : List ℕ) : Type 0 where
  pub more : (n : ℕ) → IsIn start n → IsIn mid n
  pub kept : (p : List ℕ) (b : ℕ) → block_in p u.nodes ≡ Some b → IsIn mid b
  pub off : (p : List ℕ) (b : ℕ) → block_in p u.nodes ≡ Some b → IsIn start b → ⊥
  pub ranged : (p : List ℕ) (b : ℕ) → block_in p u.nodes ≡ Some b → (nat_le 1 b && nat_lt b count) ≡ true
  pub one : (p q : List ℕ) (b : ℕ) → block_in p u.nodes ≡ Some b → block_in q u.nodes ≡ Some b → p ≡ q

new_ranged : (c : Content) (count object namer block : ℕ) (before : Option LaidVersion) (seen : List ℕ) (u : LaidVersion) (all : List ℕ)
    → version_at (blocks_of c count) object namer block before seen ≡ Ok (u, all) → (b : ℕ) → IsIn all b → (IsIn seen b → ⊥) → (nat_le 1 b && nat_lt b count) ≡ true
new_ranged c count object namer block before seen u all e b h off =
    let r : Ran c c (InRange count) (version_at (blocks_of c count) object namer block before) seen u all = (framed_version c c count object namer block before).runs seen u all e in
    elim (in_either r.new seen b (in_along all (r.new ++ seen) r.grown b h)) [
      | inl x ↦ both_true (nat_le 1 b) (nat_lt b count) (le-leb 1 b (r.each b x).0) (lt-ltb b count (r.each b x).1)
      | inr x ↦ absurd (off x)
    ]

no_before : (p : List ℕ) (b : ℕ) → block_before p None ≡ Some b → ⊥
no_before p b h = cc

pub placed_first : (c : Content) (count object namer block : ℕ) (start : List ℕ) (u : LaidVersion) (mid : List ℕ)
    → version_at (blocks_of c count) object namer block None start ≡ Ok (u, mid) → Placed count start u mid
placed_first c count object namer block start u mid e =
    let l : Lone None start u.nodes mid = lone_version c count object namer block None start u mid (record { kept = λ p b at. absurd (no_before p b at); one = λ p q b at. absurd (no_before p b at) }) e in
    record {
      more = l.more;
      kept = λ p b at. elim (l.from p b at) [ inl x ↦ x.0 | inr x ↦ absurd (no_before p b x) ];
      off = λ p b at h. elim (l.from p b at) [ inl x ↦ x.1 h | inr x ↦ no_before p b x ];
      ranged = λ p b at. elim (l.from p b at) [ inl x ↦ new_ranged c count object namer block None start u mid e b x.0 x.1 | inr x ↦ absurd (no_before p b x) ];
      one = l.one;
    }

pub placed_next : (c : Content) (count object namer block : ℕ) (start : List ℕ) (v : LaidVersion) (mid : List ℕ) (u : LaidVersion) (all : List ℕ)
    → Placed count start v mid → version_at (blocks_of c count) object namer block (Some v) mid ≡ Ok (u, all) → Placed count start u all
placed_next c count object namer block start v mid u all is e =
    let l : Lone (Some v.nodes) mid u.nodes all = lone_version c count object namer block (Some v) mid u all (record { kept = is.kept; one = is.one }) e in
    record {
      more = λ n h. l.more n (is.more n h);
      kept = λ p b at. elim (l.from p b at) [ inl x ↦ x.0 | inr x ↦ l.more b (is.kept p b x) ];
      off = λ p b at h. elim (l.from p b at) [ inl x ↦ x.1 (is.more b h) | inr x ↦ is.off p b x h ];
      ranged = λ p b at. elim (l.from p b at) [ inl x ↦ new_ranged c count object namer block (Some v) mid u all e b x.0 x.1 | inr x ↦ is.ranged p b x ];
      one = l.one;
    }

-- ---- which places the pages of a chain are

-- these places are those from the start and the blocks with this property, none of which was a place at the start
pub record Covers (start : List ℕ) (Old : ℕ → Type 0) (mid : List ℕ) : Type 0 where
  pub pages : (n : ℕ) → Old n → IsIn mid n × (IsIn start n → ⊥)
  pub only : (n : ℕ) → IsIn mid n → IsIn start n ⊎ Old n

covers_as : (start : List ℕ) (A B : ℕ → Type 0) (mid : List ℕ) → ((n : ℕ) → A n → B n) → ((n : ℕ) → B n → A n) → Covers start A mid → Covers start B mid
covers_as start A B mid f g h =
    record { pages = λ n b. h.pages n (g n b); only = λ n i. elim (h.only n i) [ inl x ↦ inl x | inr a ↦ inr (f n a) ] }

covers_first : (c : Content) (count object namer block : ℕ) (start : List ℕ) (u : LaidVersion) (mid : List ℕ)
    → version_at (blocks_of c count) object namer block None start ≡ Ok (u, mid) → Lies (pages_of c) u → Placed count start u mid → Covers start (IsPageOf u) mid
covers_first c count object namer block start u mid e lies placed =
    record {
      pages = λ n x. (placed.kept x.0 n x.1, placed.off x.0 n x.1);
      only = λ n i. version_only c count object namer block None start u mid e lies n i;
    }

covers_next : (c : Content) (count object namer block : ℕ) (start : List ℕ) (Old : ℕ → Type 0) (v : LaidVersion) (mid : List ℕ) (u : LaidVersion) (all : List ℕ)
    → version_at (blocks_of c count) object namer block (Some v) mid ≡ Ok (u, all) → Lies (pages_of c) u → Placed count start u all
    → Covers start Old mid → Covers start (λ n. IsPageOf u n ⊎ Old n) all
covers_next c count object namer block start Old v mid u all e lies placed h =
    let r : Ran c c (InRange count) (version_at (blocks_of c count) object namer block (Some v)) mid u all = (framed_version c c count object namer block (Some v)).runs mid u all e in
    record {
      pages = λ n x. elim x [
        | inl y ↦ (placed.kept y.0 n y.1, placed.off y.0 n y.1)
        | inr y ↦ (in_along (r.new ++ mid) all (sym r.grown) n (in_right r.new mid n (h.pages n y).0), (h.pages n y).1)
      ];
      only = λ n i. elim (version_only c count object namer block (Some v) mid u all e lies n i) [
        | inl old ↦ elim (h.only n old) [ inl x ↦ inl x | inr x ↦ inr (inr x) ]
        | inr x ↦ inr (inl x)
      ];
    }

-- a page of one of these versions lies in the block
abbrev pub PageOfSome : List LaidVersion → ℕ → Type 0
PageOfSome [] n = ⊥
PageOfSome (v ∷ vs) n = IsPageOf v n ⊎ PageOfSome vs n

pub to_any : (vs : List LaidVersion) (n : ℕ) → PageOfSome vs n → IsPageOfAny vs n
to_any [] n h = absurd h
to_any (v ∷ vs) n (inl h) = (0, v, refl, h)
to_any (v ∷ vs) n (inr h) = let r = to_any vs n h in (suc r.0, r.1, r.2, r.3)

pub from_any : (vs : List LaidVersion) (n : ℕ) → IsPageOfAny vs n → PageOfSome vs n
from_any vs n h = at vs h.0 h.1 h.2 h.3
  where
    at : (ws : List LaidVersion) (i : ℕ) (u : LaidVersion) → slice_get ws i ≡ Some u → IsPageOf u n → PageOfSome ws n
    at [] i u e page = none_some e
    at (w ∷ ws) zero u e page = inl (subst (λ x. IsPageOf x n) (sym (some_is e)) page)
    at (w ∷ ws) (suc i) u e page = inr (at ws i u e page)

-- ---- a version of a chain

-- Where a version of a chain was read, and how the chain goes on from it: the versions before it in the chain are `past`, and `Earlier` is so of the
-- blocks of what was read before those.
pub record ReachedAt (c : Content) (count object total : ℕ) (start : List ℕ) (Earlier : ℕ → Type 0) (past : List LaidVersion) (u : LaidVersion) (rest : List LaidVersion) (all : List ℕ) : Type 0 where
  pub block : ℕ
  pub before : Option LaidVersion
  pub seen : List ℕ
  pub mid : List ℕ
  pub read : VersionRead c count object block before seen u mid
  pub lies : Lies (pages_of c) u
  pub placed : Placed count start u mid
  pub covers : Covers start (λ n. IsPageOf u n ⊎ (Earlier n ⊎ PageOfSome past n)) mid
  pub most : ℕ
  pub steps : ℕ
  pub fits : most + steps ≡ total
  pub goes : chain_from (blocks_of c count) object most u mid ≡ Ok (rest, all)

pub zero_told : (c : Content) (count object : ℕ) (u : LaidVersion) (seen : List ℕ) (vs : List LaidVersion) (all : List ℕ)
    → chain_from (blocks_of c count) object zero u seen ≡ Ok (vs, all) → vs ≡ u ∷ []
unfolding chain_from done
zero_told c count object u seen vs all e = sym (same_value seen all (u ∷ []) vs e)

pub zero_stays : (c : Content) (count object : ℕ) (v : LaidVersion) (seen : List ℕ) (vs : List LaidVersion) (all : List ℕ)
    → chain_from (blocks_of c count) object zero v seen ≡ Ok (vs, all) → seen ≡ all
unfolding chain_from done
zero_stays c count object v seen vs all e = same_places seen all (v ∷ []) vs e

pub first_is : (c : Content) (count object most : ℕ) (u : LaidVersion) (seen : List ℕ) (vs : List LaidVersion) (all : List ℕ)
    → chain_from (blocks_of c count) object most u seen ≡ Ok (vs, all) → slice_get vs 0 ≡ Some u
first_is c count object zero u seen vs all e = ap (λ l. slice_get l 0) (zero_told c count object u seen vs all e)
first_is c count object (suc most) u seen vs all e =
    elim (chain_split c count object most u seen vs all e) [ inl x ↦ ap (λ l. slice_get l 0) x.list | inr x ↦ ap (λ l. slice_get l 0) x.list ]

pub reached : (c : Content) (count object most j block : ℕ) (before : Option LaidVersion) (seen start : List ℕ) (Earlier : ℕ → Type 0) (v : LaidVersion) (mid : List ℕ) (vs : List LaidVersion) (all : List ℕ) (u : LaidVersion)
    → VersionRead c count object block before seen v mid → Lies (pages_of c) v → Placed count start v mid → Covers start (λ n. IsPageOf v n ⊎ Earlier n) mid
    → chain_from (blocks_of c count) object most v mid ≡ Ok (vs, all)
    → slice_get vs j ≡ Some u → ReachedAt c count object most start Earlier (take j vs) u (drop j vs) all
reached c count object most zero block before seen start Earlier v mid vs all u read lies placed covers goes at =
    let same : v ≡ u = some_is (sym (first_is c count object most v mid vs all goes) ∙ at) in
    subst (λ w. ReachedAt c count object most start Earlier [] w vs all) same
    (record {
      block = block;
      before = before;
      seen = seen;
      mid = mid;
      read = read;
      lies = lies;
      placed = placed;
      covers = covers_as start (λ n. IsPageOf v n ⊎ Earlier n) (λ n. IsPageOf v n ⊎ (Earlier n ⊎ ⊥)) mid
          (λ n h. elim h [ inl x ↦ inl x | inr x ↦ inr (inl x) ]) (λ n h. elim h [ inl x ↦ inl x | inr x ↦ elim x [ inl y ↦ inr y | inr y ↦ absurd y ] ]) covers;
      most = most;
      steps = 0;
      fits = omega arith;
      goes = goes;
    })
reached c count object zero (suc j) block before seen start Earlier v mid vs all u read lies placed covers goes at =
    none_some (ap (λ l. slice_get l (suc j)) (sym (zero_told c count object v mid vs all goes)) ∙ at)
reached c count object (suc most) (suc j) block before seen start Earlier v mid vs all u read lies placed covers goes at =
    by (λ b next to rest r g i. reached c count object most j b (Some v) mid start (λ n. IsPageOf v n ⊎ Earlier n) next to rest all u
    (version_read c count object v.block b (Some v) mid next to r) (version_lies c count object v.block b (Some v) lies mid next to r)
    (placed_next c count object v.block b start v mid next to placed r)
    (covers_next c count object v.block b start (λ n. IsPageOf v n ⊎ Earlier n) v mid next to r (version_lies c count object v.block b (Some v) lies mid next to r)
    (placed_next c count object v.block b start v mid next to placed r) covers) g i)
    (chain_split c count object most v mid vs all goes)
  where
    by : ((b : ℕ) (next : LaidVersion) (to : List ℕ) (rest : List LaidVersion) → version_at (blocks_of c count) object v.block b (Some v) mid ≡ Ok (next, to)
        → chain_from (blocks_of c count) object most next to ≡ Ok (rest, all) → slice_get rest j ≡ Some u
        → ReachedAt c count object most start (λ n. IsPageOf v n ⊎ Earlier n) (take j rest) u (drop j rest) all)
        → Ended v mid vs all ⊎ Onward c count object most v mid vs all → ReachedAt c count object (suc most) start Earlier (take (suc j) vs) u (drop (suc j) vs) all
    by go (inl x) = none_some (ap (λ l. slice_get l (suc j)) (sym x.list) ∙ at)
    by go (inr x) =
        let r : ReachedAt c count object most start (λ n. IsPageOf v n ⊎ Earlier n) (take j x.rest) u (drop j x.rest) all =
        go x.block x.next x.mid x.rest x.read x.goes (ap (λ l. slice_get l (suc j)) (sym x.list) ∙ at) in
        let fits : r.most + r.steps ≡ most = r.fits in
        subst (λ l. ReachedAt c count object (suc most) start Earlier (take (suc j) l) u (drop (suc j) l) all) (sym x.list)
        (record {
          block = r.block;
          before = r.before;
          seen = r.seen;
          mid = r.mid;
          read = r.read;
          lies = r.lies;
          placed = r.placed;
          covers = covers_as start (λ n. IsPageOf u n ⊎ ((IsPageOf v n ⊎ Earlier n) ⊎ PageOfSome (take j x.rest) n))
              (λ n. IsPageOf u n ⊎ (Earlier n ⊎ (IsPageOf v n ⊎ PageOfSome (take j x.rest) n))) r.mid
              (λ n h. elim h [ inl y ↦ inl y | inr y ↦ inr (elim y [ inl z ↦ elim z [ inl a ↦ inr (inl a) | inr a ↦ inl a ] | inr z ↦ inr (inr z) ]) ])
              (λ n h. elim h [ inl y ↦ inl y | inr y ↦ inr (elim y [ inl z ↦ inl (inr z) | inr z ↦ elim z [ inl a ↦ inl (inl a) | inr a ↦ inr a ] ]) ])
              r.covers;
          most = r.most;
          steps = suc r.steps;
          fits = omega (arith, fits);
          goes = r.goes;
        })

-- and so from the first version of a chain on
pub reached_in : (c : Content) (count object namer first j : ℕ) (start : List ℕ) (vs : List LaidVersion) (all : List ℕ) (u : LaidVersion)
    → chain_at (blocks_of c count) object namer first start ≡ Ok (vs, all) → slice_get vs j ≡ Some u
    → ReachedAt c count object count start (λ _. ⊥) (take j vs) u (drop j vs) all
unfolding chain_at bind
reached_in c count object namer first j start vs all u e at =
    let p : Passed (version_at (blocks_of c count) object namer first None start) (chain_from (blocks_of c count) object count) vs all =
    passed (version_at (blocks_of c count) object namer first None start) (chain_from (blocks_of c count) object count) vs all e in
    let lies : Lies (pages_of c) p.value = version_lies c count object namer first None tt start p.value p.places p.first in
    let placed : Placed count start p.value p.places = placed_first c count object namer first start p.value p.places p.first in
    reached c count object count j first None start start (λ _. ⊥) p.value p.places vs all u (version_read c count object namer first None start p.value p.places p.first)
    lies placed
    (covers_as start (IsPageOf p.value) (λ n. IsPageOf p.value n ⊎ ⊥) p.places (λ n h. inl h) (λ n h. elim h [ inl x ↦ x | inr x ↦ absurd x ])
    (covers_first c count object namer first start p.value p.places p.first lies placed)) p.second at

-- what is wanted to read it again as a first version, from any places that were found before the chain
pub apart_from : (count : ℕ) (start : List ℕ) (u : LaidVersion) (mid later : List ℕ) → Placed count start u mid → ((n : ℕ) → IsIn later n → IsIn start n) → LiesApart count u later
apart_from count start u mid later is within = record { ranged = is.ranged; one = is.one; clear = λ p b at h. is.off p b at (within b h) }

-- ---- a whole chain

covered : (c : Content) (count object most : ℕ) (start : List ℕ) (Earlier : ℕ → Type 0) (v : LaidVersion) (mid : List ℕ) (vs : List LaidVersion) (all : List ℕ)
    → Lies (pages_of c) v → Placed count start v mid → Covers start (λ n. IsPageOf v n ⊎ Earlier n) mid
    → chain_from (blocks_of c count) object most v mid ≡ Ok (vs, all) → Covers start (λ n. PageOfSome vs n ⊎ Earlier n) all
covered c count object zero start Earlier v mid vs all lies placed covers goes =
    subst (λ l. Covers start (λ n. PageOfSome l n ⊎ Earlier n) all) (sym (zero_told c count object v mid vs all goes))
    (subst (Covers start (λ n. (IsPageOf v n ⊎ ⊥) ⊎ Earlier n)) (zero_stays c count object v mid vs all goes) (alone start Earlier v mid covers))
  where
    alone : (start : List ℕ) (Earlier : ℕ → Type 0) (v : LaidVersion) (mid : List ℕ) → Covers start (λ n. IsPageOf v n ⊎ Earlier n) mid → Covers start (λ n. (IsPageOf v n ⊎ ⊥) ⊎ Earlier n) mid
    alone start Earlier v mid h =
        covers_as start (λ n. IsPageOf v n ⊎ Earlier n) (λ n. (IsPageOf v n ⊎ ⊥) ⊎ Earlier n) mid (λ n h. elim h [ inl x ↦ inl (inl x) | inr x ↦ inr x ])
        (λ n h. elim h [ inl x ↦ elim x [ inl y ↦ inl y | inr y ↦ absurd y ] | inr x ↦ inr x ]) h
covered c count object (suc most) start Earlier v mid vs all lies placed covers goes =
    by (λ b next to rest r g. covered c count object most start (λ n. IsPageOf v n ⊎ Earlier n) next to rest all
    (version_lies c count object v.block b (Some v) lies mid next to r) (placed_next c count object v.block b start v mid next to placed r)
    (covers_next c count object v.block b start (λ n. IsPageOf v n ⊎ Earlier n) v mid next to r (version_lies c count object v.block b (Some v) lies mid next to r)
    (placed_next c count object v.block b start v mid next to placed r) covers) g)
    (chain_split c count object most v mid vs all goes)
  where
    by : ((b : ℕ) (next : LaidVersion) (to : List ℕ) (rest : List LaidVersion) → version_at (blocks_of c count) object v.block b (Some v) mid ≡ Ok (next, to)
        → chain_from (blocks_of c count) object most next to ≡ Ok (rest, all) → Covers start (λ n. PageOfSome rest n ⊎ (IsPageOf v n ⊎ Earlier n)) all)
        → Ended v mid vs all ⊎ Onward c count object most v mid vs all → Covers start (λ n. PageOfSome vs n ⊎ Earlier n) all
    by go (inl x) =
        subst (λ l. Covers start (λ n. PageOfSome l n ⊎ Earlier n) all) (sym x.list)
        (subst (Covers start (λ n. (IsPageOf v n ⊎ ⊥) ⊎ Earlier n)) (sym x.stays)
        (covers_as start (λ n. IsPageOf v n ⊎ Earlier n) (λ n. (IsPageOf v n ⊎ ⊥) ⊎ Earlier n) mid (λ n h. elim h [ inl y ↦ inl (inl y) | inr y ↦ inr y ])
        (λ n h. elim h [ inl y ↦ elim y [ inl z ↦ inl z | inr z ↦ absurd z ] | inr y ↦ inr y ]) covers))
    by go (inr x) =
        subst (λ l. Covers start (λ n. PageOfSome l n ⊎ Earlier n) all) (sym x.list)
        (covers_as start (λ n. PageOfSome x.rest n ⊎ (IsPageOf v n ⊎ Earlier n)) (λ n. (IsPageOf v n ⊎ PageOfSome x.rest n) ⊎ Earlier n) all
        (λ n h. elim h [ inl y ↦ inl (inr y) | inr y ↦ elim y [ inl z ↦ inl (inl z) | inr z ↦ inr z ] ])
        (λ n h. elim h [ inl y ↦ elim y [ inl z ↦ inr (inl z) | inr z ↦ inl z ] | inr y ↦ inr (inr y) ])
        (go x.block x.next x.mid x.rest x.read x.goes))

-- the places of a chain are those before it and the blocks of its pages
pub chain_covered : (c : Content) (count object namer first : ℕ) (start : List ℕ) (vs : List LaidVersion) (all : List ℕ)
    → chain_at (blocks_of c count) object namer first start ≡ Ok (vs, all) → Covers start (PageOfSome vs) all
unfolding chain_at bind
chain_covered c count object namer first start vs all e =
    let p : Passed (version_at (blocks_of c count) object namer first None start) (chain_from (blocks_of c count) object count) vs all =
    passed (version_at (blocks_of c count) object namer first None start) (chain_from (blocks_of c count) object count) vs all e in
    let lies : Lies (pages_of c) p.value = version_lies c count object namer first None tt start p.value p.places p.first in
    let placed : Placed count start p.value p.places = placed_first c count object namer first start p.value p.places p.first in
    covers_as start (λ n. PageOfSome vs n ⊎ ⊥) (PageOfSome vs) all (λ n h. elim h [ inl x ↦ x | inr x ↦ absurd x ]) (λ n h. inl h)
    (covered c count object count start (λ _. ⊥) p.value p.places vs all lies placed
    (covers_as start (IsPageOf p.value) (λ n. IsPageOf p.value n ⊎ ⊥) p.places (λ n h. inl h) (λ n h. elim h [ inl x ↦ x | inr x ↦ absurd x ])
    (covers_first c count object namer first start p.value p.places p.first lies placed)) p.second)
