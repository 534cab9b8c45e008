-- What the list shows after each change of the frames, and that they are still laid out well.
use Rattle.std.proofs.Common.{◌≡◌, ◌≢◌, ℕ, ◌+◌, ◌-◌, ◌<◌, ◌≤◌, true, false, cond, List, [], ◌∷◌, ◌++◌, length, take, nat_eq, Option, Some, None, refl, sym, ap, ◌∙◌, subst, ⊎_elim, arith, eq-eqb, length-append}
use Rattle.std.specs.List.{IsDistinct}
use Rattle.std.specs.Map.{keys_of, lookup, lookup_entry, remove_entry}
use Rattle.std.specs.Option.{option_map_or}
use Rattle.std.proofs.lemmas.Bool.{cases_lt}
use Rattle.std.proofs.lemmas.List.{take_all, get_or_past, get_or-set_same, get_or-set_other, length-set}
use Rattle.std.proofs.Math.Seq.{take-append_seam}
use borrow.Author.Tests.{eqb-true}
use Rattle.lru.specs.LruCache.{LruCache, last_entry, promoted, demoted, put_entries}
use Rattle.page_cache.specs.declared.frame.Frame.{Frame}
use Rattle.page_cache.specs.Listing.{others}
use Rattle.page_cache.specs.Framing.{in_front, listed, place_of, placed_at, replaced_by, IsPacked, IsPlaced, IsLaid}
use Rattle.page_cache.proofs.Framed.{Frames, others_absent, one_has, empty_has, lies_in, removed_none, removed_else, removed_distinct, length-removed, length-listed, front_here, front_else, front_distinct, end_here, end_else, end_distinct, end_listed, removed_packed, front_packed, end_packed, last_cut, last_alone, last_removed, last_full, last_out}
use Rattle.page_cache.proofs.Placed.{placed_again, placed_out, placed_in}

-- ---- the words of `lru` at a frame that is there

entry_of : (k : ℕ) (f : Frame) (es : Frames) → lookup (nat_eq k) es ≡ Some f → lookup_entry (nat_eq k) es ≡ Some (k, f)
entry_of k f [] h = absurd cc
entry_of k f (e ∷ es) h = (elim (nat_eq k e.0) as (λ y. nat_eq k e.0 ≡ y → cond y (Some e.1) (lookup (nat_eq k) es) ≡ Some f → cond y (Some e) (lookup_entry (nat_eq k) es) ≡ Some (k, f)) [
  | true ↦ λ t at. let key : e.0 ≡ k = sym (eqb-true k e.0 t) in let value : e.1 ≡ f = cc in λ i. Some (key i, value i)
  | false ↦ λ t at. entry_of k f es at
]) refl h

pub put_is : (c : LruCache ℕ Frame) (k : ℕ) (f g : Frame) → lookup (nat_eq k) c.entries ≡ Some f → put_entries nat_eq c k g ≡ (k, g) ∷ remove_entry (nat_eq k) c.entries
put_is c k f g at = ap (λ o. option_map_or (λ e. (e.0, g) ∷ remove_entry (nat_eq k) c.entries) o ((k, g) ∷ take (c.cap - 1) c.entries)) (entry_of k f c.entries at)

nobody_of : (k : ℕ) (es : Frames) → lookup (nat_eq k) es ≡ None → lookup_entry (nat_eq k) es ≡ None
nobody_of k [] h = refl
nobody_of k (e ∷ es) h = (elim (nat_eq k e.0) as (λ y. cond y (Some e.1) (lookup (nat_eq k) es) ≡ None → cond y (Some e) (lookup_entry (nat_eq k) es) ≡ None) [
  | true ↦ λ t. absurd cc
  | false ↦ λ t. nobody_of k es t
]) h

pub put_new_is : (c : LruCache ℕ Frame) (k : ℕ) (g : Frame) → lookup (nat_eq k) c.entries ≡ None → put_entries nat_eq c k g ≡ (k, g) ∷ take (c.cap - 1) c.entries
put_new_is c k g none = ap (λ o. option_map_or (λ e. (e.0, g) ∷ remove_entry (nat_eq k) c.entries) o ((k, g) ∷ take (c.cap - 1) c.entries)) (nobody_of k c.entries none)

pub promoted_is : (k : ℕ) (f : Frame) (es : Frames) → lookup (nat_eq k) es ≡ Some f → promoted (nat_eq k) es ≡ (k, f) ∷ remove_entry (nat_eq k) es
promoted_is k f es at = ap (λ o. option_map_or (λ e. e ∷ remove_entry (nat_eq k) es) o es) (entry_of k f es at)

pub demoted_is : (k : ℕ) (g : Frame) (es : Frames) → demoted (nat_eq k) ((k, g) ∷ es) ≡ es ++ (k, g) ∷ []
demoted_is k g es =
    ap (λ y. option_map_or (λ e. cond y es ((k, g) ∷ remove_entry (nat_eq k) es) ++ e ∷ []) (cond y (Some (k, g)) (lookup_entry (nat_eq k) es)) ((k, g) ∷ es)) (eq-eqb k k refl)

-- a block with a place is within the places
pub place_within : (n k : ℕ) (places : List (Option ℕ)) → place_of n places ≡ Some k → n < length places
place_within n k places h = ⊎_elim (λ low. low) (λ high. let no : Some k ≡ None = sym h ∙ get_or_past places n None high in absurd cc) (cases_lt n (length places))

module _ (es : Frames) (places : List (Option ℕ)) (pages : ℕ) (laid : IsLaid es places pages) where
  -- a block without a place is not listed
  pub unlisted : (n : ℕ) → place_of n places ≡ None → lookup (nat_eq n) (listed es) ≡ None
  unlisted n nowhere = (elim (lookup (nat_eq n) (listed es)) as (λ o. lookup (nat_eq n) (listed es) ≡ o → o ≡ None) [
    | None ↦ λ h. refl
    | Some b ↦ λ h. let r = lies_in n b es laid.distinct h in let no : Some r.0 ≡ None = sym (laid.placed.back r.0 n r.1 r.2 r.3) ∙ nowhere in absurd cc
  ]) refl

  module _ (k n : ℕ) (f : Frame) (old : lookup (nat_eq k) es ≡ Some f) where
    abbrev left : Frames
    left = remove_entry (nat_eq k) es

    alone : f.block ≡ Some n → lookup (nat_eq n) (listed left) ≡ None
    alone had = (elim (lookup (nat_eq n) (listed left)) as (λ o. lookup (nat_eq n) (listed left) ≡ o → o ≡ None) [
      | None ↦ λ h. refl
      | Some b ↦ λ h.
          let r = lies_in n b left (removed_distinct (nat_eq k) es laid.distinct) h in
          let other : r.0 ≢ k = (λ same. let no : Some r.1 ≡ None = sym r.2 ∙ (ap (λ q. lookup (nat_eq q) left) same ∙ removed_none k es laid.distinct) in cc) in
          let both : Some r.0 ≡ Some k = sym (laid.placed.back r.0 n r.1 (sym (removed_else k r.0 es laid.distinct other) ∙ r.2) r.3) ∙ laid.placed.back k n f old had in
          let same : r.0 ≡ k = cc in
          absurd (other same)
    ]) refl

    -- a block that lies in a frame is listed with the frame's bytes
    pub shown : f.block ≡ Some n → (lookup (nat_eq n) (listed es) ≡ Some f.bytes) × (others n (listed es) ≡ listed left)
    shown had = one_has k n f es had old (alone had)

    one_less : length left + 1 ≡ pages
    one_less = length-removed k f es old ∙ laid.all_in

    fits : (g : Frame) → length ((n, g.bytes) ∷ listed left) ≤ pages
    fits g = let short = length-listed left in let less = one_less in omega (arith, short, less)

    front_list : (g : Frame) (l : List (ℕ × List ℕ)) → g.block ≡ Some n → l ≡ listed left → listed ((k, g) ∷ left) ≡ take pages ((n, g.bytes) ∷ l)
    front_list g l has is = ap (λ o. in_front o g.bytes (listed left)) has ∙ sym (ap (λ m. take pages ((n, g.bytes) ∷ m)) is ∙ take_all pages ((n, g.bytes) ∷ listed left) (fits g))

    -- the block comes to the front, in its frame
    pub listed_again : (g : Frame) → f.block ≡ Some n → g.block ≡ Some n → listed ((k, g) ∷ left) ≡ take pages ((n, g.bytes) ∷ others n (listed es))
    listed_again g had has = front_list g (others n (listed es)) has (shown had).1

    front_laid : (g : Frame) (at : List (Option ℕ)) → g.block ≡ Some n → IsPlaced (λ q. lookup (nat_eq q) ((k, g) ∷ left)) (λ p. place_of p at) → IsLaid ((k, g) ∷ left) at pages
    front_laid g at has placed = let less = one_less in record {
      some = laid.some;
      all_in = omega (arith, less);
      distinct = front_distinct k g left (removed_distinct (nat_eq k) es laid.distinct) (removed_none k es laid.distinct);
      packed = front_packed k n g left has (removed_packed (nat_eq k) es laid.packed);
      placed = placed;
    }

    pub laid_again : (g : Frame) → f.block ≡ Some n → g.block ≡ Some n → IsLaid ((k, g) ∷ left) places pages
    laid_again g had has = front_laid g places has
        (placed_again (λ q. lookup (nat_eq q) es) (λ q. lookup (nat_eq q) ((k, g) ∷ left)) (λ p. place_of p places) laid.placed k f g old (front_here k g left)
        (λ q ne. front_else k q g left ne ∙ removed_else k q es laid.distinct ne) (has ∙ sym had))

    -- the block goes, and its frame goes to the end
    pub listed_out : (g : Frame) → f.block ≡ Some n → g.block ≡ None → listed (left ++ (k, g) ∷ []) ≡ others n (listed es)
    listed_out g had none = end_listed k g left none ∙ sym (shown had).1

    pub laid_out : (g : Frame) → f.block ≡ Some n → g.block ≡ None → n < length places → IsLaid (left ++ (k, g) ∷ []) (placed_at n None places) pages
    laid_out g had none low = let less = one_less in let away = removed_none k es laid.distinct in record {
      some = laid.some;
      all_in = length-append left ((k, g) ∷ []) ∙ less;
      distinct = end_distinct k g left (removed_distinct (nat_eq k) es laid.distinct) away;
      packed = end_packed k g left none (removed_packed (nat_eq k) es laid.packed);
      placed = placed_out (λ q. lookup (nat_eq q) es) (λ q. lookup (nat_eq q) (left ++ (k, g) ∷ [])) (λ p. place_of p places) laid.placed k f g old (end_here k g left away)
          (λ q ne. end_else k q g left ne ∙ removed_else k q es laid.distinct ne)
          (λ p. place_of p (placed_at n None places)) n (λ p ne. get_or-set_other places n p None None ne) had none (get_or-set_same places n None None low);
    }

    -- a new block comes into the frame, which was empty
    module _ (g : Frame) (has : g.block ≡ Some n) (nowhere : place_of n places ≡ None) (low : n < length places) where
      in_empty : f.block ≡ None → IsLaid ((k, g) ∷ left) (placed_at n (Some k) places) pages
      in_empty none = front_laid g (placed_at n (Some k) places) has
          (placed_in (λ q. lookup (nat_eq q) es) (λ q. lookup (nat_eq q) ((k, g) ∷ left)) (λ p. place_of p places) laid.placed k f g old (front_here k g left)
          (λ q ne. front_else k q g left ne ∙ removed_else k q es laid.distinct ne)
          (λ p. place_of p (placed_at n (Some k) places)) n (λ p ne. get_or-set_other places n p (Some k) None ne) none has nowhere (get_or-set_same places n (Some k) None low))

      abbrev blank : Frame
      blank = record { block = None; bytes = [] }

      -- or had another block
      in_full : (m : ℕ) → f.block ≡ Some m → IsLaid ((k, g) ∷ left) (placed_at n (Some k) (placed_at m None places)) pages
      in_full m had =
          let gone : List (Option ℕ) = placed_at m None places in
          let here : place_of m places ≡ Some k = laid.placed.back k m f old had in
          let apart : n ≢ m = (λ e. let no : None ≡ Some k = sym nowhere ∙ (ap (λ p. place_of p places) e ∙ here) in cc) in
          let low' : n < length gone = subst (λ (x : ℕ). n < x) (sym (length-set places m None)) low in
          front_laid g (placed_at n (Some k) gone) has
          (placed_in (λ q. lookup (nat_eq q) ((k, blank) ∷ es)) (λ q. lookup (nat_eq q) ((k, g) ∷ left)) (λ p. place_of p gone)
          (placed_out (λ q. lookup (nat_eq q) es) (λ q. lookup (nat_eq q) ((k, blank) ∷ es)) (λ p. place_of p places) laid.placed k f blank old (front_here k blank es) (λ q ne. front_else k q blank es ne)
          (λ p. place_of p gone) m (λ p ne. get_or-set_other places m p None None ne) had refl (get_or-set_same places m None None (place_within m k places here)))
          k blank g (front_here k blank es) (front_here k g left)
          (λ q ne. front_else k q g left ne ∙ (removed_else k q es laid.distinct ne ∙ sym (front_else k q blank es ne)))
          (λ p. place_of p (placed_at n (Some k) gone)) n (λ p ne. get_or-set_other gone n p (Some k) None ne) refl has
          (get_or-set_other places m n None None apart ∙ nowhere) (get_or-set_same gone n (Some k) None low'))

      by_block : (o : Option ℕ) → f.block ≡ o → IsLaid ((k, g) ∷ left) (replaced_by o n k places) pages
      by_block None had = in_empty had
      by_block (Some m) had = in_full m had

      pub laid_in : IsLaid ((k, g) ∷ left) (replaced_by f.block n k places) pages
      laid_in = by_block f.block refl

      -- the list then, where it was the last frame
      list_in_empty : f.block ≡ None → listed ((k, g) ∷ left) ≡ take pages ((n, g.bytes) ∷ others n (listed es))
      list_in_empty none = front_list g (others n (listed es)) has (others_absent n (listed es) (unlisted n nowhere) ∙ sym (empty_has k f es none old))

      list_in_full : (m : ℕ) (us : Frames) → f.block ≡ Some m → es ≡ us ++ (k, f) ∷ [] → listed ((k, g) ∷ left) ≡ take pages ((n, g.bytes) ∷ others n (listed es))
      list_in_full m us had is =
          let distinct' = subst (λ (l : Frames). IsDistinct nat_eq (keys_of l)) is laid.distinct in
          let away : left ≡ us = ap (λ (l : Frames). remove_entry (nat_eq k) l) is ∙ last_removed us (k, f) (last_alone us (k, f) distinct') in
          let shows : listed es ≡ listed us ++ (m, f.bytes) ∷ [] = ap listed is ∙ last_out us (k, f) m had in
          let full : length (listed es) ≡ pages = ap (λ (l : Frames). length (listed l)) is ∙ (last_full us (k, f) m had (subst (λ (l : Frames). IsPacked l) is laid.packed) ∙ (ap (λ (l : Frames). length l) (sym is) ∙ laid.all_in)) in
          let long : length ((n, g.bytes) ∷ listed us) ≡ pages = (let sum : length (listed es) ≡ length (listed us) + 1 = ap (λ (l : List (ℕ × List ℕ)). length l) shows ∙ length-append (listed us) ((m, f.bytes) ∷ []) in omega (arith, sum, full)) in
          let cut : take pages ((n, g.bytes) ∷ (listed us ++ (m, f.bytes) ∷ [])) ≡ (n, g.bytes) ∷ listed us =
          ap (λ (x : ℕ). take x ((n, g.bytes) ∷ (listed us ++ (m, f.bytes) ∷ []))) (sym long) ∙ take-append_seam ((n, g.bytes) ∷ listed us) ((m, f.bytes) ∷ []) in
          ap (λ o. in_front o g.bytes (listed left)) has ∙ (ap (λ (l : Frames). (n, g.bytes) ∷ listed l) away
          ∙ sym (ap (λ (l : List (ℕ × List ℕ)). take pages ((n, g.bytes) ∷ l)) (others_absent n (listed es) (unlisted n nowhere) ∙ shows) ∙ cut))

      list_by_block : (o : Option ℕ) → f.block ≡ o → last_entry es ≡ Some (k, f) → listed ((k, g) ∷ left) ≡ take pages ((n, g.bytes) ∷ others n (listed es))
      list_by_block None had last = list_in_empty had
      list_by_block (Some m) had last = let some = laid.some in let all = laid.all_in in let cut = last_cut es (k, f) (omega (arith, some, all)) last in list_in_full m cut.0 had cut.1

      pub listed_in : last_entry es ≡ Some (k, f) → listed ((k, g) ∷ left) ≡ take pages ((n, g.bytes) ∷ others n (listed es))
      listed_in = list_by_block f.block refl

  -- the last frame is found by its number
  pub last_found : (k : ℕ) (f : Frame) → last_entry es ≡ Some (k, f) → lookup (nat_eq k) es ≡ Some f
  last_found k f last =
      let some = laid.some in
      let all = laid.all_in in
      let cut = last_cut es (k, f) (omega (arith, some, all)) last in
      let distinct' = subst (λ (l : Frames). IsDistinct nat_eq (keys_of l)) cut.1 laid.distinct in
      ap (λ (l : Frames). lookup (nat_eq k) l) cut.1 ∙ end_here k f cut.0 (last_alone cut.0 (k, f) distinct')

  -- a block with a place lies in a frame
  pub frame_there : (n k : ℕ) → place_of n places ≡ Some k → (f : Frame) × (lookup (nat_eq k) es ≡ Some f) × (f.block ≡ Some n)
  frame_there n k at = laid.placed.there n k at
