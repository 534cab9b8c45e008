-- What each call makes of the frames, and of the list that they show.
use Rattle.std.proofs.Common.{◌≡◌, ℕ, zero, suc, ◌+◌, ◌-◌, ◌<◌, ◌≤◌, true, false, cond, replicate, arith, List, [], ◌∷◌, ◌++◌, length, take, nat_eq, is_some, IsSome, Option, Some, None, refl, sym, ap, ◌∙◌, subst}
use Rattle.std.specs.Map.{lookup, remove_entry}
use Rattle.std.proofs.lemmas.List.{length-set, length-replicate, take_all}
use Rattle.lru.specs.LruCache.{LruCache, lru_cache, put_entries, promoted, demoted}
use Rattle.page_cache.specs.declared.frame.Frame.{Frame}
use Rattle.page_cache.specs.Listing.{Listing, listing, others, put_front, take_out}
use Rattle.page_cache.specs.Framing.{listed, place_of, placed_at, replaced_by, AreEmpty, IsLastFrame, IsLaid, in_front}
use Rattle.page_cache.proofs.Framed.{others_absent, front_distinct, front_else, nil_packed, tail_nil}
use Rattle.page_cache.proofs.Laid.{put_new_is, promoted_is, demoted_is, place_within, unlisted, shown, listed_again, laid_again, listed_out, laid_out, laid_in, listed_in, last_found, frame_there}

abbrev Order : Type 0
Order = LruCache ℕ Frame

-- what the frames show
abbrev pub shown_by : Order → List (Option ℕ) → Listing
shown_by order places = listing (length places) order.cap (listed order.entries)

abbrev pub frame : Option ℕ → List ℕ → Frame
frame block bytes = record { block = block; bytes = bytes }

-- the frames are laid out well, and show this list
pub record Shows (order : Order) (places : List (Option ℕ)) (l : Listing) : Type 0 where
  pub laid : IsLaid order.entries places order.cap
  pub list : shown_by order places ≡ l

pub some_of : {X : Type 0} (o : Option X) → IsSome o → (x : X) × (o ≡ Some x)
some_of None h = absurd cc
some_of (Some x) h = (x, refl)

no_place : (blocks n : ℕ) → place_of n (replicate blocks None) ≡ None
no_place zero n = refl
no_place (suc b) zero = refl
no_place (suc b) (suc n) = no_place b n

listing_at : (b b' p : ℕ) (l m : List (ℕ × List ℕ)) → b ≡ b' → l ≡ m → listing b p l ≡ listing b' p m
listing_at b b' p l m e f i = listing (e i) p (f i)

length-replaced : (o : Option ℕ) (n k : ℕ) (places : List (Option ℕ)) → length (replaced_by o n k places) ≡ length places
length-replaced None n k places = length-set places n (Some k)
length-replaced (Some m) n k places = length-set (placed_at m None places) n (Some k) ∙ length-set places m None

-- so many frames below i without a block
pub record IsBegun (order : Order) (i pages : ℕ) : Type 0 where
  pub empty : AreEmpty order.entries
  pub all_in : length order.entries ≡ i
  pub capacity : order.cap ≡ pages
  pub above : (q : ℕ) → i ≤ q → lookup (nat_eq q) order.entries ≡ None

pub begun_next : (order new : Order) (i pages : ℕ) (bytes : List ℕ) → IsBegun order i pages → i < pages → new ≡ lru_cache (put_entries nat_eq order i (frame None bytes)) order.cap → IsBegun new (i + 1) pages
begun_next order new i pages bytes b room is =
    let g : Frame = frame None bytes in
    let nobody = b.above i (omega arith) in
    let short = b.all_in in
    let cap = b.capacity in
    let ends : put_entries nat_eq order i g ≡ (i, g) ∷ order.entries = put_new_is order i g nobody ∙ ap (λ (l : List (ℕ × Frame)). (i, g) ∷ l) (take_all (order.cap - 1) order.entries (omega (arith, short, cap))) in
    subst (λ (c : Order). IsBegun c (i + 1) pages) (sym (is ∙ ap (λ (l : List (ℕ × Frame)). lru_cache l order.cap) ends)) record {
      empty = record { distinct = front_distinct i g order.entries b.empty.distinct nobody; none = b.empty.none };
      all_in = omega (arith, short);
      capacity = b.capacity;
      above = λ q high. front_else i q g order.entries (λ e. let no : i + 1 ≤ q = high in absurd (omega (arith, no, e))) ∙ b.above q (let no : i + 1 ≤ q = high in omega (arith, no));
    }

no_block : (k n : ℕ) (f : Frame) (es : List (ℕ × Frame)) → listed es ≡ [] → lookup (nat_eq k) es ≡ Some f → f.block ≡ Some n → ⊥
no_block k n f [] none at has = let no : None ≡ Some f = at in cc
no_block k n f (e ∷ es) none at has = (elim (nat_eq k e.0) as (λ y. cond y (Some e.1) (lookup (nat_eq k) es) ≡ Some f → ⊥) [
  | true ↦ λ here.
      let same : e.1 ≡ f = cc in
      let no : in_front (Some n) e.1.bytes (listed es) ≡ [] = ap (λ o. in_front o e.1.bytes (listed es)) (sym (ap (λ (g : Frame). g.block) same ∙ has)) ∙ none in
      cc
  | false ↦ λ there. no_block k n f es (tail_nil e.1.block e.1.bytes (listed es) none) there has
]) at

-- empty frames and no places are laid out well
pub begins : (order : Order) (blocks pages : ℕ) → AreEmpty order.entries → length order.entries ≡ pages → order.cap ≡ pages → 1 ≤ pages
    → (places : List (Option ℕ)) → places ≡ replicate blocks None → Shows order places (listing blocks pages [])
begins order blocks pages empty all cap some places is = record {
  laid = record {
    some = omega (arith, some, cap);
    all_in = all ∙ sym cap;
    distinct = empty.distinct;
    packed = nil_packed order.entries empty.none;
    placed = record {
      there = λ n k at. let no : None ≡ Some k = sym (ap (λ (l : List (Option ℕ)). place_of n l) is ∙ no_place blocks n) ∙ at in absurd cc;
      back = λ k n f at has. absurd (no_block k n f order.entries empty.none at has);
    };
  };
  list = λ i. listing ((ap (λ (l : List (Option ℕ)). length l) is ∙ length-replicate blocks None) i) (cap i) (empty.none i);
}

module _ (order : Order) (places : List (Option ℕ)) (laid : IsLaid order.entries places order.cap) (n k : ℕ) where
  -- a block is listed exactly where it has a place
  pub held : (p : Option ℕ) → place_of n places ≡ p → is_some p ≡ is_some (lookup (nat_eq n) (listed order.entries))
  held None at = sym (ap is_some (unlisted order.entries places order.cap laid n at))
  held (Some j) at = let r = frame_there order.entries places order.cap laid n j at in sym (ap is_some (shown order.entries places order.cap laid j n r.0 r.1 r.2).0)

  -- a block that has no place is not there to be taken out
  pub stays_out : place_of n places ≡ None → take_out n (shown_by order places) ≡ shown_by order places
  stays_out nowhere = ap (λ (l : List (ℕ × List ℕ)). listing (length places) order.cap l) (others_absent n (listed order.entries) (unlisted order.entries places order.cap laid n nowhere))

  pub is_there : place_of n places ≡ Some k → IsSome (lookup (nat_eq k) order.entries)
  is_there at = ap is_some (frame_there order.entries places order.cap laid n k at).1

  -- ---- where block n lies in frame k

  module _ (at : place_of n places ≡ Some k) where
    f : Frame
    f = (frame_there order.entries places order.cap laid n k at).0

    old : lookup (nat_eq k) order.entries ≡ Some f
    unfolding f
    old = (frame_there order.entries places order.cap laid n k at).1

    had : f.block ≡ Some n
    unfolding f
    had = (frame_there order.entries places order.cap laid n k at).2

    pub found : (into : List ℕ) → ((g : Frame) → lookup (nat_eq k) order.entries ≡ Some g → into ≡ g.bytes) → lookup (nat_eq n) (listed order.entries) ≡ Some into
    found into copied = (shown order.entries places order.cap laid k n f old had).0 ∙ ap (λ (b : List ℕ). Some b) (sym (copied f old))

    pub promotes : (into : List ℕ) → ((g : Frame) → lookup (nat_eq k) order.entries ≡ Some g → into ≡ g.bytes) → (new : Order) → new ≡ lru_cache (promoted (nat_eq k) order.entries) order.cap
        → Shows new places (put_front n into (shown_by order places))
    promotes into copied new is =
        let fronted : new ≡ lru_cache ((k, f) ∷ remove_entry (nat_eq k) order.entries) order.cap = is ∙ ap (λ (l : List (ℕ × Frame)). lru_cache l order.cap) (promoted_is k f order.entries old) in
        subst (λ (c : Order). Shows c places (put_front n into (shown_by order places))) (sym fronted) record {
          laid = laid_again order.entries places order.cap laid k n f old f had had;
          list = ap (λ (l : List (ℕ × List ℕ)). listing (length places) order.cap l)
              (listed_again order.entries places order.cap laid k n f old f had had ∙ ap (λ (b : List ℕ). take order.cap ((n, b) ∷ others n (listed order.entries))) (sym (copied f old)));
        }

    pub puts_again : (body : List ℕ) (new : Order) → new ≡ lru_cache ((k, frame (Some n) body) ∷ remove_entry (nat_eq k) order.entries) order.cap → Shows new places (put_front n body (shown_by order places))
    puts_again body new is = let g : Frame = frame (Some n) body in subst (λ (c : Order). Shows c places (put_front n body (shown_by order places))) (sym is) record {
      laid = laid_again order.entries places order.cap laid k n f old g had refl;
      list = ap (λ (l : List (ℕ × List ℕ)). listing (length places) order.cap l) (listed_again order.entries places order.cap laid k n f old g had refl);
    }

    pub within : n < length places
    within = place_within n k places at

    pub takes_out : (bytes : List ℕ) (places' : List (Option ℕ)) (mid new : Order) → places' ≡ placed_at n None places → mid ≡ lru_cache ((k, frame None bytes) ∷ remove_entry (nat_eq k) order.entries) order.cap
        → new ≡ lru_cache (demoted (nat_eq k) mid.entries) mid.cap → Shows new places' (take_out n (shown_by order places))
    takes_out bytes places' mid new to first last =
        let g : Frame = frame None bytes in
        let ended : new ≡ lru_cache (remove_entry (nat_eq k) order.entries ++ (k, g) ∷ []) order.cap =
        last ∙ (ap (λ (c : Order). lru_cache (demoted (nat_eq k) c.entries) c.cap) first ∙ ap (λ (l : List (ℕ × Frame)). lru_cache l order.cap) (demoted_is k g (remove_entry (nat_eq k) order.entries))) in
        subst (λ (z : Order × List (Option ℕ)). Shows z.0 z.1 (take_out n (shown_by order places))) (λ i. (sym ended i, sym to i)) record {
          laid = laid_out order.entries places order.cap laid k n f old g had refl within;
          list = listing_at _ _ order.cap _ _ (length-set places n None) (listed_out order.entries places order.cap laid k n f old g had refl);
        }

  -- ---- where it lies nowhere, and frame k is the last

  module _ (was : Option ℕ) (last : IsLastFrame order.entries k was) where
    pub last_there : IsSome (lookup (nat_eq k) order.entries)
    last_there = ap is_some (last_found order.entries places order.cap laid k last.frame last.last)

    pub was_within : (m : ℕ) → was ≡ Some m → m < length places
    was_within m had = place_within m k places (laid.placed.back k m last.frame (last_found order.entries places order.cap laid k last.frame last.last) (last.has ∙ had))

    pub puts_new : place_of n places ≡ None → n < length places → (body : List ℕ) (places' : List (Option ℕ)) (new : Order) → places' ≡ replaced_by was n k places
        → new ≡ lru_cache ((k, frame (Some n) body) ∷ remove_entry (nat_eq k) order.entries) order.cap → Shows new places' (put_front n body (shown_by order places))
    puts_new nowhere low body places' new to is =
        let g : Frame = frame (Some n) body in
        let old = last_found order.entries places order.cap laid k last.frame last.last in
        let to' : places' ≡ replaced_by last.frame.block n k places = to ∙ ap (λ o. replaced_by o n k places) (sym last.has) in
        subst (λ (z : Order × List (Option ℕ)). Shows z.0 z.1 (put_front n body (shown_by order places))) (λ i. (sym is i, sym to' i)) record {
          laid = laid_in order.entries places order.cap laid k n last.frame old g refl nowhere low;
          list = listing_at _ _ order.cap _ _ (length-replaced last.frame.block n k places) (listed_in order.entries places order.cap laid k n last.frame old g refl nowhere low last.last);
        }
