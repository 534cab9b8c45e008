-- What the drafts of an update of several files tell of it, and that one flush is left by the writes of another.
use Rattle.std.proofs.Common.{◌≡◌, inl, inr, ℕ, zero, suc, ◌+◌, ◌<◌, ◌||◌, ◌&&◌, Bool, true, false, cond, nat_eq, List, [], ◌∷◌, ◌++◌, length, map, filter, Some, refl, sym, ap, ◌∙◌, arith, slice_get, true≢false, eq-eqb, eqb-true, length-append}
use Rattle.std.specs.Prelude.{if◌then◌else◌, sum_by}
use Rattle.std.specs.List.{list_any}
use Rattle.std.proofs.lemmas.Bool.{false_from_ne_true}
use Rattle.std.proofs.lemmas.List.{length-map}
use Rattle.std.proofs.lemmas.Option.{slice_get_within}
use Rattle.std.proofs.lemmas.List.Sums.{sum_by-cons}
use Rattle.block_map.specs.States.{held_below}
use Rattle.block_map.specs.declared.states.BlockState.{BlockState}
use Rattle.draft_model.specs.Flush.{Placed, IsPlaced, in_turn, is_block_of}
use Rattle.draft_model.proofs.Telling.{tells_fresh}
use Rattle.service_model.specs.Standing.{Client, Update, Work, has_writes, is_written, renewed_works, top_and_written}
use Rattle.service_model.proofs.Members.{at_place, from_any}
use Rattle.store_model.specs.Laws.{pages_of}
use Rattle.store_model.proofs.Edits.{none_some, some_is}
use Rattle.tree_model.specs.Accesses.{fresh_as_top, written_paths}
use Rattle.tree_model.proofs.Paths.{or_left, or_right}
use Rattle.version_chain.specs.Flush.{AreHeld, base_of}
use Rattle.ground_model.specs.Own.{HasDraft}
use Rattle.ground_model.specs.Scenes.{Scene}
use Rattle.ground_model.specs.Several.{Renewal, places_of, works_of}
use Rattle.ground_model.specs.SeveralFacts.{AreBeside, CountsGoOn, DraftFlags, DraftPages, FlagsAreTold, FlagsTell, FlushStaysBeside, HeldFromStays, HeldStays, IsFlagged, LeftHoldsAlike, NeedIsPlaced, NeedOfSeveral, NumbersGoOn, PlacesOfDraft, RenewedAreLeft, RenewedAreNumbered, RenewedStay, flagged, numbers_from, pages_in}
use Rattle.ground_model.proofs.Steps.{left_is_kept}
use Rattle.ground_model.proofs.Drafting.{draft_stays_own}
use Rattle.ground_model.proofs.HeldStays.{held_stay}

-- ---- which files get a new version

any_flag : (ws : List Work) (flags : List Bool) → map is_written ws ≡ flags → list_any is_written ws ≡ list_any (λ (f : Bool). f) flags
any_flag [] [] e = refl
any_flag [] (f ∷ flags) e = absurd cc
any_flag (w ∷ ws) [] e = absurd cc
any_flag (w ∷ ws) (f ∷ flags) e =
    let here : is_written w ≡ f = cc in
    let rest : map is_written ws ≡ flags = cc in
    ap (λ b. b || list_any is_written ws) here ∙ ap (λ b. f || b) (any_flag ws flags rest)

flagged_are : (ws : List Work) (flags : List Bool) → map is_written ws ≡ flags → filter is_written ws ≡ flagged ws flags
flagged_are [] flags e = refl
flagged_are (w ∷ ws) [] e = absurd cc
flagged_are (w ∷ ws) (f ∷ flags) e =
    let here : is_written w ≡ f = cc in
    let rest : map is_written ws ≡ flags = cc in
    ap (λ b. cond b (w ∷ filter is_written ws) (filter is_written ws)) here
    ∙ ap (λ l. cond f (w ∷ l) l) (flagged_are ws flags rest)

module _ (u : Update) (w : Work) (ws : List Work) (first : Bool) (flags : List Bool) (is : IsFlagged u w ws first flags) where
  rest_told : map is_written ws ≡ flags
  rest_told = (let told = is.told in cc)

  renewed_are : has_writes u ≡ true → renewed_works u ≡ w ∷ flagged ws flags
  renewed_are writes =
      ap (λ b. if b && has_writes u then top_and_written u.works else filter is_written u.works) is.several
      ∙ ap (λ b. if true && b then top_and_written u.works else filter is_written u.works) writes
      ∙ ap top_and_written is.works ∙ ap (λ l. w ∷ l) (flagged_are ws flags rest_told)

pub flags_tell : FlagsTell
flags_tell u w ws first flags is =
    (ap (list_any is_written) is.works ∙ any_flag (w ∷ ws) (first ∷ flags) is.told, renewed_are u w ws first flags is)

-- one with a number is at that number, and is one of those whose flag is set
numbered : (xs : List Work) (flags : List Bool) (k i n : ℕ) → length xs ≡ length flags → slice_get (numbers_from k flags) i ≡ Some n
    → (j : ℕ) × (n ≡ k + j) × (x : Work) × (slice_get xs j ≡ Some x) × (slice_get (flagged xs flags) i ≡ Some x)
numbered xs [] k i n long at = none_some at
numbered [] (f ∷ flags) k i n long at = absurd (omega (arith, long))
numbered (x ∷ xs) (true ∷ flags) k zero n long at = (zero, (let same = some_is at in omega (arith, same)), x, refl, refl)
numbered (x ∷ xs) (true ∷ flags) k (suc i) n long at =
    let r = numbered xs flags (k + 1) i n (omega (arith, long)) at in
    (suc r.0, (let same = r.1 in omega (arith, same)), r.2, r.3, r.4)
numbered (x ∷ xs) (false ∷ flags) k i n long at =
    let r = numbered xs flags (k + 1) i n (omega (arith, long)) at in
    (suc r.0, (let same = r.1 in omega (arith, same)), r.2, r.3, r.4)

as_many : (xs : List Work) (flags : List Bool) (k : ℕ) → length xs ≡ length flags → length (flagged xs flags) ≡ length (numbers_from k flags)
as_many [] [] k long = refl
as_many (x ∷ xs) [] k long = absurd (omega (arith, long))
as_many [] (f ∷ flags) k long = absurd (omega (arith, long))
as_many (x ∷ xs) (true ∷ flags) k long = ap suc (as_many xs flags (k + 1) (omega (arith, long)))
as_many (x ∷ xs) (false ∷ flags) k long = as_many xs flags (k + 1) (omega (arith, long))

pub renewed_are_numbered : RenewedAreNumbered
renewed_are_numbered u w ws first flags is writes =
    let long : length ws ≡ length flags = sym (length-map ws is_written) ∙ ap length (rest_told u w ws first flags is) in
    let renewed = renewed_are u w ws first flags is writes in
    (ap length renewed ∙ ap suc (as_many ws flags 1 long), λ i n at. each long renewed i n at)
  where
    each : length ws ≡ length flags → renewed_works u ≡ w ∷ flagged ws flags → (i n : ℕ) → slice_get (0 ∷ numbers_from 1 flags) i ≡ Some n
        → (x : Work) × (slice_get u.works n ≡ Some x) × (slice_get (renewed_works u) i ≡ Some x)
    each long renewed zero n at =
        (w, ap (λ l. slice_get l n) is.works ∙ ap (slice_get (w ∷ ws)) (sym (some_is at)), ap (λ l. slice_get l zero) renewed)
    each long renewed (suc i) n at =
        let r = numbered ws flags 1 i n long at in
        let place : n ≡ suc r.0 = (let same = r.1 in omega (arith, same)) in
        (r.2, ap (λ l. slice_get l n) is.works ∙ ap (slice_get (w ∷ ws)) place ∙ r.3, ap (λ l. slice_get l (suc i)) renewed ∙ r.4)

pub draft_flags : DraftFlags
draft_flags scene w root d told draft tells = sym (tells (pages_of scene.content) root w.base w.steps draft.stands)

-- ---- one file after the other

pub flags_are_told : FlagsAreTold
flags_are_told [] [] long each = refl
flags_are_told [] (f ∷ flags) long each = absurd (omega (arith, long))
flags_are_told (w ∷ ws) [] long each = absurd (omega (arith, long))
flags_are_told (w ∷ ws) (f ∷ flags) long each =
    ap (λ b. b ∷ map is_written ws) (each zero w f refl refl)
    ∙ ap (λ l. f ∷ l) (flags_are_told ws flags (omega (arith, long)) (λ i x g at to. each (suc i) x g at to))

-- a number counts from one less by one flag more
behind : (n : ℕ) (flags : List Bool) (f : Bool) (front : List ℕ)
    → front ++ (if f then (n + 1 + length flags) ∷ [] else []) ≡ front ++ (if f then (n + suc (length flags)) ∷ [] else [])
behind n flags f front = ap (λ m. front ++ (if f then m ∷ [] else [])) (omega arith)

pub numbers_go_on : NumbersGoOn
numbers_go_on n [] true = ap (λ m. m ∷ []) (omega arith)
numbers_go_on n [] false = refl
numbers_go_on n (true ∷ flags) f = ap (λ l. n ∷ l) (numbers_go_on (n + 1) flags f ∙ behind n flags f (numbers_from (n + 1) flags))
numbers_go_on n (false ∷ flags) f = numbers_go_on (n + 1) flags f ∙ behind n flags f (numbers_from (n + 1) flags)

pub counts_go_on : CountsGoOn
counts_go_on [] [] count true long = sum_by-cons (λ (n : ℕ). n) count [] ∙ (let same : count + 0 ≡ 0 + count = omega arith in same)
counts_go_on [] [] count false long = refl
counts_go_on [] (g ∷ flags) count f long = absurd (omega (arith, long))
counts_go_on (n ∷ counts) [] count f long = absurd (omega (arith, long))
counts_go_on (n ∷ counts) (true ∷ flags) count f long =
    let rest = counts_go_on counts flags count f (omega (arith, long)) in
    let all = sum_by-cons (λ (m : ℕ). m) n (flagged (counts ++ count ∷ []) (flags ++ f ∷ [])) in
    let front = sum_by-cons (λ (m : ℕ). m) n (flagged counts flags) in
    omega (arith, rest, all, front)
counts_go_on (n ∷ counts) (false ∷ flags) count f long = counts_go_on counts flags count f (omega (arith, long))

-- ---- how many blocks it needs

pub draft_pages : DraftPages
draft_pages scene w root d fresh draft tells = ap (λ ps. length (written_paths ps)) (tells (pages_of scene.content) root w.base w.steps draft.stands)

pub places_of_draft : PlacesOfDraft
places_of_draft scene w root d placed draft is =
    sym (length-map placed (λ (x : Placed). x.path)) ∙ ap (λ (ps : List (List ℕ)). length ps) is.paths
    ∙ draft_pages scene w root d is.fresh draft (tells_fresh d is.fresh is.are)

flagged_pages : (ws : List Work) (flags : List Bool) → sum_by pages_in (flagged ws flags) ≡ sum_by (λ (n : ℕ). n) (flagged (map pages_in ws) flags)
flagged_pages [] flags = refl
flagged_pages (w ∷ ws) [] = refl
flagged_pages (w ∷ ws) (true ∷ flags) =
    sum_by-cons pages_in w (flagged ws flags) ∙ ap (λ n. pages_in w + n) (flagged_pages ws flags)
    ∙ sym (sum_by-cons (λ (n : ℕ). n) (pages_in w) (flagged (map pages_in ws) flags))
flagged_pages (w ∷ ws) (false ∷ flags) = flagged_pages ws flags

pub need_of_several : NeedOfSeveral
need_of_several u w ws first flags counts is writes counted =
    ap (sum_by pages_in) (renewed_are u w ws first flags is writes) ∙ sum_by-cons pages_in w (flagged ws flags)
    ∙ ap (λ n. pages_in w + n) (flagged_pages ws flags ∙ ap (λ l. sum_by (λ (n : ℕ). n) (flagged l flags)) counted)

all_pages : (scene : Scene) (rs : List Renewal) → ((i : ℕ) (r : Renewal) → slice_get rs i ≡ Some r → HasDraft scene r.work r.root r.draft × IsPlaced r.draft r.plan.placed)
    → sum_by (λ (w : Work). length (fresh_as_top w.base w.steps)) (works_of rs) ≡ length (places_of rs)
all_pages scene [] each = refl
all_pages scene (r ∷ rs) each =
    let here = each zero r refl in
    let one : length (fresh_as_top r.work.base r.work.steps) ≡ length r.plan.placed = sym (places_of_draft scene r.work r.root r.draft r.plan.placed here.0 here.1) in
    let rest : sum_by (λ (w : Work). length (fresh_as_top w.base w.steps)) (works_of rs) ≡ length (places_of rs) = all_pages scene rs (λ i q at. each (suc i) q at) in
    let sum : sum_by (λ (w : Work). length (fresh_as_top w.base w.steps)) (works_of (r ∷ rs))
    ≡ length (fresh_as_top r.work.base r.work.steps) + sum_by (λ (w : Work). length (fresh_as_top w.base w.steps)) (works_of rs) =
    sum_by-cons (λ (w : Work). length (fresh_as_top w.base w.steps)) r.work (works_of rs) in
    let long : length (r.plan.placed ++ places_of rs) ≡ length r.plan.placed + length (places_of rs) = length-append r.plan.placed (places_of rs) in
    omega (arith, one, rest, sum, long)

pub need_is_placed : NeedIsPlaced
need_is_placed scene u rs renewed each = ap (sum_by (λ (w : Work). length (fresh_as_top w.base w.steps))) renewed ∙ all_pages scene rs each

-- ---- a write beside a flush

-- a place in the order of writing is a place
in_either : (xs : List Placed) (y : Placed) (i : ℕ) (x : Placed) → slice_get (xs ++ y ∷ []) i ≡ Some x → is_block_of (y ∷ xs) x.block ≡ true
in_either [] y zero x at = or_left (nat_eq x.block y.block) false (eq-eqb x.block y.block (ap (λ (z : Placed). z.block) (sym (some_is at))))
in_either [] y (suc i) x at = none_some at
in_either (z ∷ xs) y zero x at =
    or_right (nat_eq x.block y.block) (nat_eq x.block z.block || is_block_of xs x.block)
    (or_left (nat_eq x.block z.block) (is_block_of xs x.block) (eq-eqb x.block z.block (ap (λ (p : Placed). p.block) (sym (some_is at)))))
in_either (z ∷ xs) y (suc i) x at = move (nat_eq x.block y.block) (nat_eq x.block z.block) (is_block_of xs x.block) (in_either xs y i x at)
  where
    move : (a b c : Bool) → (a || c) ≡ true → (a || (b || c)) ≡ true
    move true b c h = refl
    move false true c h = refl
    move false false c h = h

in_turn_placed : (placed : List Placed) (i : ℕ) (x : Placed) → slice_get (in_turn placed) i ≡ Some x → is_block_of placed x.block ≡ true
in_turn_placed [] i x at = none_some at
in_turn_placed (y ∷ placed) i x at = in_either placed y i x at

pub flush_stays_beside : FlushStaysBeside
flush_stays_beside old new k d base plan block flush mine others none = record {
  placed = flush.placed;
  apart = flush.apart;
  mine = λ i x at. mine x.block (flush.mine i x at);
  done = λ i x low at.
      let was = flush.done i x low at in
      (was.0, others x.block (λ e. true≢false (sym (in_turn_placed plan.placed i x at) ∙ ap (is_block_of plan.placed) e ∙ none)) ∙ was.1, was.2);
}

-- a block of a flush is that of one of its places
place_with : (placed : List Placed) (block : ℕ) → is_block_of placed block ≡ true
    → (i : ℕ) × (x : Placed) × (slice_get placed i ≡ Some x) × (i < length placed) × (block ≡ x.block)
place_with placed block h =
    let found = from_any (λ (x : Placed). nat_eq block x.block) placed h in
    let at = at_place placed found.0 found.1 in
    (found.1.0, found.0, at, slice_get_within placed found.1.0 found.0 at, eqb-true block found.0.block found.2)

-- so no block of one part of the client's blocks is one of another part
beside_is_none : (states : List BlockState) (k start from : ℕ) (others placed : List Placed) (block : ℕ) → AreHeld states k start others → AreHeld states k from placed
    → AreBeside start (length others) from (length placed) → is_block_of placed block ≡ true → is_block_of others block ≡ false
beside_is_none states k start from others placed block held mine beside is =
    false_from_ne_true (is_block_of others block) (λ h.
    let y = place_with others block h in
    let x = place_with placed block is in
    let one : held_below k states block ≡ start + y.0 = ap (held_below k states) y.4 ∙ (held y.0 y.1 y.2).1 in
    let two : held_below k states block ≡ from + x.0 = ap (held_below k states) x.4 ∙ (mine x.0 x.1 x.2).1 in
    let low = y.3 in
    let high = x.3 in
    elim beside [
      | inl b ↦ omega (arith, one, two, low, high, b)
      | inr b ↦ omega (arith, one, two, low, high, b)
    ])

pub renewed_stay : RenewedStay
renewed_stay old new k start from [] d base plan more block bytes renewed held mine beside gives keeps still others = tt
renewed_stay old new k start from (r ∷ rs) d base plan more block bytes renewed held mine beside gives keeps still others = (
  record {
    draft = draft_stays_own old new r.work r.root r.draft keeps renewed.0.draft;
    flush =
        flush_stays_beside old new k r.draft (base_of r.root r.work.object r.work.serial) r.plan block renewed.0.flush still others
        (beside_is_none old.states k start from r.plan.placed plan.placed block held.0 mine (parts beside).0
        (in_turn_placed plan.placed plan.written (record { path = gives.path; block = block }) gives.turn));
    all = renewed.0.all;
  },
  renewed_stay old new k (start + length r.plan.placed) from rs d base plan more block bytes renewed.1 held.1 mine (parts beside).1 gives keeps still others,
)
  where
    long : length (r.plan.placed ++ places_of rs) ≡ length r.plan.placed + length (places_of rs)
    long = length-append r.plan.placed (places_of rs)

    parts : AreBeside start (length (r.plan.placed ++ places_of rs)) from (length plan.placed)
        → AreBeside start (length r.plan.placed) from (length plan.placed) × AreBeside (start + length r.plan.placed) (length (places_of rs)) from (length plan.placed)
    parts (inl b) = (inl (omega (arith, b, long)), inl (omega (arith, b, long)))
    parts (inr b) = (inr b, inr (omega (arith, b)))

pub renewed_are_left : RenewedAreLeft
renewed_are_left k old new [] leaves on renewed = tt
renewed_are_left k old new (r ∷ rs) leaves on renewed =
    let keeps = left_is_kept k old new leaves in (
      record {
        draft = keeps.draft r.work (on zero r refl) r.root r.draft renewed.0.draft;
        flush = keeps.flush r.draft (base_of r.root r.work.object r.work.serial) r.plan renewed.0.flush;
        all = renewed.0.all;
      },
      renewed_are_left k old new rs leaves (λ i x at. on (suc i) x at) renewed.1,
    )

-- ---- the blocks that a client holds

pub left_holds_alike : LeftHoldsAlike
left_holds_alike zero old new low count two leaves = absurd (omega (arith, low))
left_holds_alike (suc k) old new low count two leaves = record {
  each = λ n h. (leaves.held n h).0;
  count = two.map.held (suc k) ∙ ap (λ (c : Client). c.held) leaves.client ∙ sym count;
}

pub held_stays : HeldStays
held_stays k from old new placed alike held = held_stay k from old new placed alike.each alike.count held

pub held_from_stays : HeldFromStays
held_from_stays k from old new [] alike held = tt
held_from_stays k from old new (r ∷ rs) alike held =
    (held_stays k from old new r.plan.placed alike held.0, held_from_stays k (from + length r.plan.placed) old new rs alike held.1)
