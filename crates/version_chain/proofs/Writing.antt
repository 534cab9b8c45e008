-- What is written is one spelling, and reads as what was meant; and the places are those of live pages, that of `/` first.
use Rattle.std.proofs.Common.{◌≡◌, ℕ, zero, suc, ◌+◌, ◌<◌, true, false, not, ◌||◌, cond, nat_eq, List, [], ◌∷◌, ◌++◌, inl, inr, refl, sym, ap, subst, ◌∙◌, Option, Some, arith, eqb-true}
use Rattle.std.specs.Option.{option_map_or}
use Rattle.std.specs.List.{slice_get, list_all}
use Rattle.std.specs.Ordering.{is_lt}
use Rattle.std.specs.Cmp.{first_so, second_so}
use Rattle.afs_base.specs.Path.{path_cmp}
use Rattle.tree_model.proofs.Paths.{never, both_true, false_if, or_left, or_right, or_told, same_self, same_is}
use Rattle.page_codec.specs.Values.{PageValue, MemberValue, VersionValue}
use Rattle.page_codec.specs.Bounds.{IsPage, IsVersion}
use Rattle.page_codec.specs.Spelling.{page_bytes, version_bytes}
use Rattle.page_codec.proofs.PageLaws.{page_of-page_bytes}
use Rattle.page_codec.proofs.VersionLaws.{version_of-version_bytes}
use Rattle.tree_model.specs.Accesses.{written_paths}
use Rattle.block_map.specs.States.{held_below}
use Rattle.block_map.specs.declared.states.BlockState.{BlockState}
use Rattle.page_places.specs.Places.{same}
use Rattle.draft_model.specs.Views.{View, copies, live}
use Rattle.draft_model.specs.Told.{IsFresh, are_rising, is_one_of, AreFresh}
use Rattle.draft_model.specs.Flush.{Placed, IsPlaced, block_of, flushed_page, in_turn, is_block_of, are_apart}
use Rattle.draft_model.proofs.Flushing.{written_told}
use Rattle.version_chain.specs.Flush.{Plan, Base, paths_of, AreHeld, StartsAtRoot, IsPageFor, flushed_version, IsVersionFor, IsPageBlock, IsVersionBlock, IsWritten}
use Rattle.version_chain.proofs.Written.{get_more}

-- ---- the bytes

version_block : (v : VersionValue) (bytes : List ℕ) → IsVersion v → bytes ≡ version_bytes v → IsVersionBlock v bytes
version_block v bytes spelled is = (spelled, is, version_of-version_bytes bytes v spelled is)

page_block : (page : PageValue) (bytes : List ℕ) → IsPage page → bytes ≡ page_bytes page → IsPageBlock page bytes
page_block page bytes spelled is = (spelled, is, page_of-page_bytes bytes page spelled is)

pub version_written : (d : View) (base : Base) (plan : Plan) (path : List ℕ) (bytes : List ℕ) (placed : List Placed) (members : List MemberValue) (version : VersionValue)
    → path ≡ [] → placed ≡ plan.placed → members ≡ plan.members → IsVersionFor d base placed members version → bytes ≡ version_bytes version → IsVersion version
    → IsWritten d base plan path bytes
version_written d base plan path bytes placed members version top placed_is members_is made is spelled =
    let F : List ℕ → Type 0 = λ p. IsWritten d base plan p bytes in
    let version_is : version ≡ flushed_version d base plan.placed plan.members made.copy.page
    = made.version_is ∙ (λ i. flushed_version d base (placed_is i) (members_is i) made.copy.page) in
    subst F (sym top) (record {
      copy = made.copy;
      here = made.here;
      live = made.live;
      bytes_are = version_block (flushed_version d base plan.placed plan.members made.copy.page) bytes (subst IsVersion version_is spelled) (is ∙ ap version_bytes version_is);
    })

pub page_written : (d : View) (base : Base) (plan : Plan) (path : List ℕ) (bytes : List ℕ) (placed : List Placed) (page : PageValue)
    → (path ≡ [] → ⊥) → placed ≡ plan.placed → IsPageFor d placed path page → bytes ≡ page_bytes page → IsPage page
    → IsWritten d base plan path bytes
page_written d base plan [] bytes placed page below placed_is made is spelled = absurd (below refl)
page_written d base plan (s ∷ p) bytes placed page below placed_is made is spelled =
    let page_is : page ≡ flushed_page d plan.placed (s ∷ p) made.copy.page
    = made.page_is ∙ ap (λ (ps : List Placed). flushed_page d ps (s ∷ p) made.copy.page) placed_is in
    record {
      copy = made.copy;
      here = made.here;
      live = made.live;
      bytes_are = page_block (flushed_page d plan.placed (s ∷ p) made.copy.page) bytes (subst IsPage page_is spelled) (is ∙ ap page_bytes page_is);
    }

-- ---- the places

placed_is : (x y : Placed) → Some x ≡ Some y → x ≡ y
placed_is x y e = ap (λ (o : Option Placed). option_map_or (λ (z : Placed). z) o x) e

-- the place whose turn it is is one of the places
path_among : (placed : List Placed) (k : ℕ) (x : Placed) → slice_get placed k ≡ Some x → is_one_of (paths_of placed) x.path ≡ true
path_among [] k x at = absurd (cc)
path_among (y ∷ placed) zero x at =
    or_left (same x.path y.path) (is_one_of (paths_of placed) x.path) (ap (λ (z : Placed). same x.path z.path) (placed_is y x at) ∙ same_self x.path)
path_among (y ∷ placed) (suc k) x at = or_right (same x.path y.path) (is_one_of (paths_of placed) x.path) (path_among placed k x at)

turn_among : (placed : List Placed) (k : ℕ) (x : Placed) → slice_get (in_turn placed) k ≡ Some x → is_one_of (paths_of placed) x.path ≡ true
turn_among [] k x at = absurd (cc)
turn_among (y ∷ placed) k x at = elim (get_more placed y k x at) [
  | inl e ↦ or_right (same x.path y.path) (is_one_of (paths_of placed) x.path) (path_among placed k x e)
  | inr e ↦ or_left (same x.path y.path) (is_one_of (paths_of placed) x.path) (ap (λ (z : Placed). same x.path z.path) (sym e.1) ∙ same_self x.path)
]

pub live_in_turn : (d : View) (placed : List Placed) (k : ℕ) (x : Placed) → live (copies d) [] ≡ true → IsPlaced d placed → slice_get (in_turn placed) k ≡ Some x → live (copies d) x.path ≡ true
live_in_turn d placed k x top plan at =
    elim (written_told plan.fresh x.path (ap (λ (ps : List (List ℕ)). is_one_of ps x.path) (sym plan.paths) ∙ turn_among placed k x at)) [
      | inl e ↦ ((plan.are.each x.path).0 e).0
      | inr e ↦ ap (live (copies d)) e ∙ top
    ]

-- `/` stands before every other path
not_later : (s : ℕ) (p : List ℕ) (qs : List (List ℕ)) → list_all (λ q. is_lt (path_cmp (s ∷ p) q)) qs ≡ true → is_one_of qs [] ≡ true → ⊥
not_later s p [] all among = never among refl
not_later s p (q ∷ qs) all among = elim (or_told (same [] q) (is_one_of qs []) among) [
  | inl e ↦ never (ap (λ (r : List ℕ). is_lt (path_cmp (s ∷ p) r)) (same_is [] q e) ∙ first_so (is_lt (path_cmp (s ∷ p) q)) (list_all (λ q. is_lt (path_cmp (s ∷ p) q)) qs) all) refl
  | inr e ↦ not_later s p qs (second_so (is_lt (path_cmp (s ∷ p) q)) (list_all (λ q. is_lt (path_cmp (s ∷ p) q)) qs) all) e
]

top_first : (fresh : List (List ℕ)) (p : List ℕ) → are_rising (p ∷ fresh) ≡ true → is_one_of (p ∷ fresh) [] ≡ true → p ≡ []
top_first fresh [] rising h = refl
top_first fresh (s ∷ p) rising h = elim (or_told (same [] (s ∷ p)) (is_one_of fresh []) h) [
  | inl e ↦ sym (same_is [] (s ∷ p) e)
  | inr e ↦ absurd (not_later s p fresh (first_so (list_all (λ q. is_lt (path_cmp (s ∷ p) q)) fresh) (are_rising fresh) rising) e)
]

top_fresh : (d : View) (p : List ℕ) → live (copies d) [] ≡ true → IsFresh d p → IsFresh d []
top_fresh d p top fresh = (top, (p ++ fresh.1.0, fresh.1.1))

written_first : (d : View) (fresh : List (List ℕ)) → live (copies d) [] ≡ true → AreFresh d fresh → slice_get (written_paths fresh) 0 ≡ Some []
written_first d [] top are = refl
written_first d (p ∷ fresh) top are =
    let one : IsFresh d p = (are.each p).0 (or_left (same p p) (is_one_of fresh p) (same_self p)) in
    ap (λ (q : List ℕ). Some q) (top_first fresh p are.rising ((are.each []).1 (top_fresh d p top one)))

pub starts : (d : View) (fresh : List (List ℕ)) (placed : List Placed) → live (copies d) [] ≡ true → AreFresh d fresh → paths_of placed ≡ written_paths fresh → StartsAtRoot placed
starts d fresh [] top are paths = absurd (none)
  where
    none : ⊥
    none = let e : slice_get (paths_of []) 0 ≡ Some [] = ap (λ (ps : List (List ℕ)). slice_get ps 0) paths ∙ written_first d fresh top are in cc
starts d fresh (x ∷ placed) top are paths =
    let e : Some x.path ≡ Some [] = ap (λ (ps : List (List ℕ)). slice_get ps 0) paths ∙ written_first d fresh top are in
    let is : x.path ≡ [] = ap (λ (o : Option (List ℕ)). option_map_or (λ (y : List ℕ). y) o x.path) e in
    (x.block, ap (λ (p : List ℕ). Some (record { path = p; block = x.block })) is)

-- no two places have one block
other_blocks : (states : List BlockState) (client : ℕ) (b : ℕ) (placed : List Placed) (next : ℕ) → held_below client states b < next
    → ((k : ℕ) (x : Placed) → slice_get placed k ≡ Some x → held_below client states x.block ≡ next + k) → is_block_of placed b ≡ false
other_blocks states client b [] next at held = refl
other_blocks states client b (x ∷ placed) next at held =
    let first : nat_eq b x.block ≡ false = false_if (nat_eq b x.block) (λ e.
    absurd (omega (arith, at, held 0 x refl, ap (held_below client states) (eqb-true b x.block e)))) in
    let rest : is_block_of placed b ≡ false = other_blocks states client b placed (next + 1) (omega (arith, at)) (λ k y found. omega (arith, held (suc k) y found)) in
    λ i. first i || rest i

pub apart : (states : List BlockState) (client from : ℕ) (placed : List Placed) → AreHeld states client from placed → are_apart placed ≡ true
apart states client from [] held = refl
apart states client from (x ∷ placed) held =
    both_true (not (is_block_of placed x.block)) (are_apart placed)
    (ap not (other_blocks states client x.block placed (from + 1) (omega (arith, (held 0 x refl).1)) (λ k y found. omega (arith, (held (suc k) y found).1))))
    (apart states client (from + 1) placed (λ k y found. ((held (suc k) y found).0, omega (arith, (held (suc k) y found).1))))

-- the block of `/`, where the first place is its
pub top_block : (placed : List Placed) (x : Placed) → StartsAtRoot placed → slice_get placed 0 ≡ Some x → block_of placed [] ≡ Some x.block
top_block [] x starts_at at = absurd (cc at)
top_block (y ∷ placed) x starts_at at =
    let own : y ≡ x = some_is y x at in
    let top : y.path ≡ [] = ap (λ (z : Placed). z.path) (some_is y (record { path = []; block = starts_at.0 }) starts_at.1) in
    ap (λ p. cond (same [] p) (Some y.block) (block_of placed [])) top ∙ ap (λ (z : Placed). Some z.block) own
  where
    some_is : (a b : Placed) → Some a ≡ Some b → a ≡ b
    some_is a b h = cc h
