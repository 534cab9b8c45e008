-- Place after place the blocks come to hold the new version.
use Rattle.std.proofs.Common.{◌≡◌, ◌≢◌, ℕ, zero, suc, ◌+◌, ◌<◌, ◌≤◌, Bool, true, false, not, cond, nat_eq, List, [], ◌∷◌, ◌++◌, length, ◌⊎◌, inl, inr, refl, sym, ap, subst, ◌∙◌, Option, Some, None, option_map, slice_index, ◌==◌, eq-eqb, arith}
use Rattle.std.specs.Option.{option_and_then, option_map_or}
use Rattle.std.specs.List.{slice_get}
use Rattle.std.specs.Cmp.{first_so, second_so}
use Rattle.std.proofs.lemmas.Bool.{cases_lt}
use Rattle.tree_model.proofs.Paths.{told, never, not_true, same_is, or_left, or_right}
use Rattle.page_codec.specs.declared.why.Why.{Why}
use Rattle.page_codec.specs.Values.{PageValue, VersionValue}
use Rattle.page_codec.specs.Numbers.{pieces}
use Rattle.page_codec.specs.Reading.{slots, frame_value, version_value}
use Rattle.page_codec.specs.Causes.{first_cause, cause_or, page_causes, version_causes, page_of, version_of}
use Rattle.page_places.specs.Places.{same}
use Rattle.draft_model.specs.Views.{Copied, View}
use Rattle.draft_model.specs.Flush.{Placed, block_of, flushed_page, AreWhole, in_turn, is_block_of, are_apart}
use Rattle.draft_model.proofs.Flushing.{flushes}
use Rattle.store_model.specs.Laws.{read_of, page_of_block, pages_of}
use Rattle.store_model.proofs.Reading.{reads_page, reads_version}
use Rattle.version_chain.specs.Flush.{Plan, Base, flushed_version, IsBlockFor, IsWritten}
use Rattle.version_chain.specs.Laws.{Content, HasWritten, PutsBlock, SamePlaces, NextLaw, OthersLaw, WholeLaw}
use Rattle.version_chain.proofs.Written.{get_more, got_lt}

-- ---- what a written block shows

block_shows : (d : View) (base : Base) (plan : Plan) (path : List ℕ) (page : PageValue) (bytes : List ℕ) → IsBlockFor d base plan path page bytes
    → page_of_block bytes ≡ Some (flushed_page d plan.placed path page)
block_shows d base plan [] page bytes is = (reads_version (λ _. Some bytes) 0 bytes (flushed_version d base plan.placed plan.members page) refl is.2).page.is
block_shows d base plan (s ∷ p) page bytes is = (reads_page (λ _. Some bytes) 0 bytes (flushed_page d plan.placed (s ∷ p) page) refl is.2).is

-- ---- blocks of places

placed_is : (x y : Placed) → Some x ≡ Some y → x ≡ y
placed_is x y e = ap (λ (o : Option Placed). option_map_or (λ (z : Placed). z) o x) e

block_among : (placed : List Placed) (k : ℕ) (x : Placed) → slice_get placed k ≡ Some x → is_block_of placed x.block ≡ true
block_among [] k x at = absurd (cc)
block_among (y ∷ placed) zero x at =
    or_left (nat_eq x.block y.block) (is_block_of placed x.block) (eq-eqb x.block y.block (ap (λ (z : Placed). z.block) (sym (placed_is y x at))))
block_among (y ∷ placed) (suc k) x at = or_right (nat_eq x.block y.block) (is_block_of placed x.block) (block_among placed k x at)

-- the places in their turn are those of the plan
turn_among : (placed : List Placed) (k : ℕ) (x : Placed) → slice_get (in_turn placed) k ≡ Some x → is_block_of placed x.block ≡ true
turn_among [] k x at = absurd (cc)
turn_among (y ∷ placed) k x at = elim (get_more placed y k x at) [
  | inl e ↦ or_right (nat_eq x.block y.block) (is_block_of placed x.block) (block_among placed k x e)
  | inr e ↦ or_left (nat_eq x.block y.block) (is_block_of placed x.block) (eq-eqb x.block y.block (ap (λ (z : Placed). z.block) e.1))
]

-- two places of the plan have two blocks
other_block : (placed : List Placed) (j k : ℕ) (x y : Placed) → are_apart placed ≡ true → slice_get placed j ≡ Some x → slice_get placed k ≡ Some y → j < k
    → x.block ≡ y.block → ⊥
other_block [] j k x y apart at there less same_block = absurd (cc)
other_block (z ∷ placed) zero zero x y apart at there less same_block = absurd (omega arith)
other_block (z ∷ placed) zero (suc k) x y apart at there less same_block =
    never (block_among placed k y there)
    (ap (is_block_of placed) (sym same_block ∙ ap (λ (w : Placed). w.block) (sym (placed_is z x at)))
    ∙ not_true (is_block_of placed z.block) (first_so (not (is_block_of placed z.block)) (are_apart placed) apart))
other_block (z ∷ placed) (suc j) zero x y apart at there less same_block = absurd (omega arith)
other_block (z ∷ placed) (suc j) (suc k) x y apart at there less same_block =
    other_block placed j k x y (second_so (not (is_block_of placed z.block)) (are_apart placed) apart) at there (omega arith) same_block

-- .. in their turn too
other_turn : (placed : List Placed) (j k : ℕ) (x y : Placed) → are_apart placed ≡ true → slice_get (in_turn placed) j ≡ Some x → slice_get (in_turn placed) k ≡ Some y → j < k
    → x.block ≡ y.block → ⊥
other_turn [] j k x y apart at there less same_block = absurd (cc)
other_turn (z ∷ placed) j k x y apart at there less same_block = by (get_more placed z j x at) (get_more placed z k y there)
  where
    only : is_block_of placed z.block ≡ false
    only = not_true (is_block_of placed z.block) (first_so (not (is_block_of placed z.block)) (are_apart placed) apart)

    by : (slice_get placed j ≡ Some x) ⊎ ((j ≡ length placed) × (x ≡ z)) → (slice_get placed k ≡ Some y) ⊎ ((k ≡ length placed) × (y ≡ z)) → ⊥
    by (inl e) (inl g) = other_block placed j k x y (second_so (not (is_block_of placed z.block)) (are_apart placed) apart) e g less same_block
    by (inl e) (inr g) = never (block_among placed j x e) (ap (is_block_of placed) (same_block ∙ ap (λ (w : Placed). w.block) g.1) ∙ only)
    by (inr e) (inl g) = absurd (omega (arith, e.0, got_lt placed k y g))
    by (inr e) (inr g) = absurd (omega (arith, e.0, g.0))

-- the place of a path, in its turn
get_left : (placed : List Placed) (y : Placed) (k : ℕ) (x : Placed) → slice_get placed k ≡ Some x → slice_get (placed ++ y ∷ []) k ≡ Some x
get_left [] y k x at = absurd (cc)
get_left (z ∷ placed) y zero x at = at
get_left (z ∷ placed) y (suc k) x at = get_left placed y k x at

get_last : (placed : List Placed) (y : Placed) → slice_get (placed ++ y ∷ []) (length placed) ≡ Some y
get_last [] y = refl
get_last (z ∷ placed) y = get_last placed y

place_of : (placed : List Placed) (p : List ℕ) (b : ℕ) → block_of placed p ≡ Some b → (k : ℕ) × (slice_get placed k ≡ Some (record { path = p; block = b }))
place_of [] p b at = absurd (cc)
place_of (x ∷ placed) p b at = by (told (same p x.path)) (place_of placed p b)
  where
    by : (same p x.path ≡ true) ⊎ (same p x.path ≡ false) → (block_of placed p ≡ Some b → (k : ℕ) × (slice_get placed k ≡ Some (record { path = p; block = b })))
        → (k : ℕ) × (slice_get (x ∷ placed) k ≡ Some (record { path = p; block = b }))
    by (inl e) rest =
        let block : x.block ≡ b = ap (λ (o : Option ℕ). option_map_or (λ (n : ℕ). n) o x.block) (sym (ap (λ c. cond c (Some x.block) (block_of placed p)) e) ∙ at) in
        (0, λ i. Some (record { path = sym (same_is p x.path e) i; block = block i }))
    by (inr e) rest =
        let found = rest (sym (ap (λ c. cond c (Some x.block) (block_of placed p)) e) ∙ at) in
        (suc found.0, found.1)

turn_of : (placed : List Placed) (p : List ℕ) (b : ℕ) → block_of placed p ≡ Some b
    → (k : ℕ) × (k < length placed) × (slice_get (in_turn placed) k ≡ Some (record { path = p; block = b }))
turn_of [] p b at = absurd (cc)
turn_of (x ∷ placed) p b at = let found = place_of (x ∷ placed) p b at in by found.0 found.1
  where
    by : (k : ℕ) → slice_get (x ∷ placed) k ≡ Some (record { path = p; block = b }) → (n : ℕ) × (n < length (x ∷ placed)) × (slice_get (placed ++ x ∷ []) n ≡ Some (record { path = p; block = b }))
    by zero is = (length placed, omega arith, get_last placed x ∙ is)
    by (suc k) is = (k, omega (arith, got_lt placed k (record { path = p; block = b }) is), get_left placed x k (record { path = p; block = b }) is)

-- ---- one place more

block_as : (d : View) (base : Base) (old : Plan) (written : ℕ) (path : List ℕ) (page : PageValue) (bytes : List ℕ) → IsBlockFor d base old path page bytes
    → IsBlockFor d base (record { placed = old.placed; members = old.members; written = written }) path page bytes
block_as d base old written [] page bytes is = is
block_as d base old written (s ∷ p) page bytes is = is

written_as : (d : View) (base : Base) (old : Plan) (written : ℕ) (path bytes : List ℕ) → IsWritten d base old path bytes
    → IsWritten d base (record { placed = old.placed; members = old.members; written = written }) path bytes
written_as d base old written path bytes is =
    record { copy = is.copy; here = is.here; live = is.live; bytes_are = block_as d base old written path is.copy.page bytes is.bytes_are }

one_block : (d : View) (base : Base) (old : Plan) (block : ℕ) (bytes : List ℕ) (content after : Content) (path : List ℕ) → are_apart old.placed ≡ true
    → HasWritten d base old content → slice_get (in_turn old.placed) old.written ≡ Some (record { path = path; block = block }) → IsWritten d base old path bytes
    → PutsBlock block bytes content after → HasWritten d base (record { placed = old.placed; members = old.members; written = old.written + 1 }) after
one_block d base old block bytes content after path apart so_far turn written puts k x less at = by (cases_lt k old.written)
  where
    new : Plan
    new = record { placed = old.placed; members = old.members; written = old.written + 1 }

    by : (k < old.written) ⊎ (old.written ≤ k) → (found : List ℕ) × (after x.block ≡ Some found) × IsWritten d base new x.path found
    by (inl before) =
        let was = so_far k x before at in
        let other : x.block ≢ block = other_turn old.placed k old.written x (record { path = path; block = block }) apart at turn before in
        (was.0, puts.others x.block other ∙ was.1, written_as d base old (old.written + 1) x.path was.0 was.2)
    by (inr past) =
        let here : k ≡ old.written = omega arith in
        let is : record { path = path; block = block } ≡ x = placed_is (record { path = path; block = block }) x (sym turn ∙ ap (slice_get (in_turn old.placed)) (sym here) ∙ at) in
        let F : Placed → Type 0 = λ y. (found : List ℕ) × (after y.block ≡ Some found) × IsWritten d base new y.path found in
        subst F is (bytes, puts.here, written_as d base old (old.written + 1) path bytes written)

pub writes_next : NextLaw
writes_next d base old new block bytes content after apart so_far gives puts =
    let F : Plan → Type 0 = λ plan. HasWritten d base plan after in
    subst F (sym gives.plan) (one_block d base old block bytes content after gives.path apart so_far gives.turn gives.written puts)

pub others_write : OthersLaw
others_write d base plan content after so_far same_blocks k x less at =
    let was = so_far k x less at in
    (was.0, same_blocks x.block (turn_among plan.placed k x at) ∙ was.1, was.2)

-- writing into a block that is no place changes no place
pub puts_elsewhere : (placed : List Placed) (block : ℕ) (bytes : List ℕ) (content after : Content) → PutsBlock block bytes content after → is_block_of placed block ≡ false
    → SamePlaces placed content after
puts_elsewhere placed block bytes content after puts away b mine = puts.others b (λ e. never mine (ap (is_block_of placed) e ∙ away))

-- ---- every page has sixteen slots

slots_length : (b : List ℕ) → length (slots b) ≡ 16
unfolding slots pieces
slots_length b = refl

frame_whole : (b : List ℕ) → length (frame_value b).refs ≡ 16
unfolding frame_value slots pieces
frame_whole b = refl

version_frame : (b : List ℕ) → (version_value b).page ≡ frame_value b
unfolding version_value
version_frame b = refl

page_is : (x y : PageValue) → Some x ≡ Some y → x ≡ y
page_is x y e = ap (λ (o : Option PageValue). option_map_or (λ (p : PageValue). p) o x) e

read_page : (o : Option Why) (x y : PageValue) → read_of (cause_or o x) ≡ Some y → x ≡ y
read_page None x y e = page_is x y e
read_page (Some w) x y e = absurd (cc)

read_version : (o : Option Why) (x : VersionValue) (y : PageValue) → option_map (λ (v : VersionValue). v.page) (read_of (cause_or o x)) ≡ Some y → x.page ≡ y
read_version None x y e = page_is x.page y e
read_version (Some w) x y e = absurd (cc)

block_whole : (bytes : List ℕ) (page : PageValue) → page_of_block bytes ≡ Some page → length page.refs ≡ 16
block_whole bytes page e = by (slice_index bytes 1 == 86) e
  where
    by : (b : Bool) → cond b (option_map (λ (v : VersionValue). v.page) (read_of (version_of bytes))) (read_of (page_of bytes)) ≡ Some page → length page.refs ≡ 16
    by true h =
        let F : PageValue → Type 0 = λ p. length p.refs ≡ 16 in
        subst F (sym (version_frame bytes) ∙ read_version (first_cause (version_causes bytes)) (version_value bytes) page h) (frame_whole bytes)
    by false h =
        let F : PageValue → Type 0 = λ p. length p.refs ≡ 16 in
        subst F (read_page (first_cause (page_causes bytes)) (frame_value bytes) page h) (frame_whole bytes)

pages_whole : (content : Content) → AreWhole (pages_of content)
pages_whole content b page e = by (content b) e
  where
    by : (o : Option (List ℕ)) → option_and_then page_of_block o ≡ Some page → length page.refs ≡ 16
    by None h = absurd (cc)
    by (Some bytes) h = block_whole bytes page h

-- ---- all of them

copied_is : (x y : Copied) → Some x ≡ Some y → x ≡ y
copied_is x y e = ap (λ (o : Option Copied). option_map_or (λ (c : Copied). c) o x) e

pub whole : WholeLaw
whole d base plan content root top a steps stands placed at_top written all =
    flushes d plan.placed (pages_of content) (pages_of content) root top a steps stands placed
    (record { page = page_there; kept = λ p b at. refl }) (pages_whole content) at_top
  where
    page_there : (p : List ℕ) (b : ℕ) (c : Copied) → block_of plan.placed p ≡ Some b → d p ≡ Some c → pages_of content b ≡ Some (flushed_page d plan.placed p c.page)
    page_there p b c at copy =
        let turn = turn_of plan.placed p b at in
        let found = written turn.0 (record { path = p; block = b }) (omega (arith, all, turn.1)) turn.2 in
        ap (option_and_then page_of_block) found.1
        ∙ block_shows d base plan p found.2.copy.page found.0 found.2.bytes_are
        ∙ ap (λ (x : Copied). Some (flushed_page d plan.placed p x.page)) (copied_is found.2.copy c (sym found.2.here ∙ copy))
