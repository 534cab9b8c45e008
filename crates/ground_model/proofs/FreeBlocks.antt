-- The map of a scene has as many free blocks as are free where its journal leads.
use Rattle.std.proofs.Common.{◌≡◌, ◌≢◌, ◌↔◌, ◌⊎◌, inl, inr, ℕ, zero, suc, ◌+◌, ◌-◌, ◌<◌, ◌≤◌, Bool, true, false, nat_eq, nat_lt, List, [], ◌∷◌, ◌++◌, length, map, set, sum_by, take, get_or, refl, sym, ap, ◌∙◌, subst, arith, true≢false, length-append, filter}
use Rattle.std.specs.List.{AllByRecursion, IsDistinct, count_by, list_any}
use Rattle.std.proofs.lemmas.Bool.{cases_eq, cases_lt, lt-ltb}
use Rattle.std.proofs.lemmas.Bool.Decides.{nat_tests}
use Rattle.std.proofs.lemmas.List.{get_or-set_other, get_or-set_same, get_or_past, length-map, length-set, take_all}
use Rattle.std.proofs.lemmas.List.Sums.{get_or-le-sum_by, sum_by-cons, sum_by_more}
use Rattle.block_map.specs.States.{free_count, held_count, is_free, is_held, state_at}
use Rattle.block_map.specs.declared.states.BlockState.{BlockState}
use Rattle.block_map.specs.declared.states.BlockState.TheVariants.{Free, Held, Kept}
use Rattle.block_map.proofs.Counting.{count_by-cons, count_by-pointwise, one}
use Rattle.block_map.proofs.Taking.{count-give}
use Rattle.service_model.specs.Room.{freed_blocks, held_blocks}
use Rattle.service_model.specs.Standing.{Client, Standing, client_of, free, kept_blocks, newcomer}
use Rattle.store_check.specs.Counts.{AreCounted, kept_in, parts_in}
use Rattle.store_check.specs.Files.{kept_by, own_pages}
use Rattle.store_check.proofs.Counting.{places_are_counted}
use Rattle.store_model.specs.Found.{file_in, state_in, version_in}
use Rattle.store_model.specs.Laid.{LaidFile, LaidVersion, Node}
use Rattle.store_model.proofs.PlaceLists.{Distinct, IsIn, distinct_append, in_cons, in_either, in_head, in_left, in_right, in_tail, none_in}
use Rattle.tree_model.specs.States.{State, Version, table_blocks}
use Rattle.tree_model.proofs.Paths.{or_told}
use Rattle.ground_model.specs.Room.{FreeIsCounted}
use Rattle.ground_model.specs.Scenes.{IsShared, Scene}
use Rattle.ground_model.proofs.HeldWrites.{past_end}
use Rattle.ground_model.proofs.HeadsTold.{place_is_block}
use Rattle.ground_model.proofs.TableBlocks.{table_counted}

-- ---- free, kept, held

abbrev is_kept_block : BlockState → Bool
is_kept_block Free = false
is_kept_block (Held by) = false
is_kept_block Kept = true

abbrev is_held_block : BlockState → Bool
is_held_block Free = false
is_held_block (Held by) = true
is_held_block Kept = false

-- a client with a lesser number holds it
abbrev is_held_below : ℕ → BlockState → Bool
is_held_below k Free = false
is_held_below k (Held by) = nat_lt by k
is_held_below k Kept = false

-- each block is one of the three
three_kinds : (xs : List BlockState) → free_count xs + count_by is_kept_block xs + count_by is_held_block xs ≡ length xs
three_kinds [] = refl
three_kinds (x ∷ xs) =
    omega (arith, count_by-cons is_free x xs, count_by-cons is_kept_block x xs, count_by-cons is_held_block x xs, kind x, three_kinds xs)
  where
    kind : (s : BlockState) → one (is_free s) + one (is_kept_block s) + one (is_held_block s) ≡ 1
    kind Free = omega arith
    kind (Held by) = omega arith
    kind Kept = omega arith

-- ---- kept blocks

none_counted : (p : BlockState → Bool) (xs : List BlockState) → ((n : ℕ) → n < length xs → p (state_at xs n) ≡ false) → count_by p xs ≡ 0
none_counted p [] none = refl
none_counted p (x ∷ xs) none =
    omega (arith, count_by-cons p x xs, ap one (none 0 (omega arith)), none_counted p xs (λ n low. none (suc n) (omega (arith, low))))

not_kept : (s : BlockState) → (s ≡ Kept → ⊥) → is_kept_block s ≡ false
not_kept Free h = refl
not_kept (Held by) h = refl
not_kept Kept h = absurd (h refl)

-- the kept blocks are these
abbrev AreKept : List ℕ → List BlockState → Type 0
AreKept ns xs = (n : ℕ) → n < length xs → (state_at xs n ≡ Kept) ↔ IsIn ns n

-- without the first one they are the others
kept_without : (n : ℕ) (ns : List ℕ) (xs : List BlockState) → n < length xs → (IsIn ns n → ⊥) → AreKept (n ∷ ns) xs → AreKept ns (set xs n Free)
kept_without n ns xs less out kept m low = by (cases_eq m n)
  where
    here : m < length xs
    here = subst (λ k. m < k) (length-set xs n Free) low

    by : (m ≡ n) ⊎ (m ≢ n) → (state_at (set xs n Free) m ≡ Kept) ↔ IsIn ns m
    by (inl e) =
        let now : state_at (set xs n Free) m ≡ Free = ap (state_at (set xs n Free)) e ∙ get_or-set_same xs n Free Kept less in (
          λ is. absurd (let no : Free ≡ Kept = sym now ∙ is in cc),
          λ i. absurd (out (subst (IsIn ns) e i)),
        )
    by (inr ne) =
        let same : state_at (set xs n Free) m ≡ state_at xs m = get_or-set_other xs n m Free Kept ne in (
          λ is. other (in_cons n m ns ((kept m here).0 (sym same ∙ is))),
          λ i. same ∙ (kept m here).1 (in_tail n m ns i),
        )
      where
        other : (m ≡ n) ⊎ IsIn ns m → IsIn ns m
        other (inl e) = absurd (ne e)
        other (inr i) = i

kept_many : (ns : List ℕ) (xs : List BlockState) → Distinct ns → ((n : ℕ) → IsIn ns n → n < length xs) → AreKept ns xs → count_by is_kept_block xs ≡ length ns
kept_many [] xs d low kept = none_counted is_kept_block xs (λ n less. not_kept (state_at xs n) (λ e. none_in n ((kept n less).0 e)))
kept_many (n ∷ ns) xs d low kept =
    let less : n < length xs = low n (in_head n ns) in
    let gave = count-give is_kept_block xs n Free less in
    let was : one (is_kept_block (state_at xs n)) ≡ 1 = ap (λ s. one (is_kept_block s)) ((kept n less).1 (in_head n ns)) in
    let rest : count_by is_kept_block (set xs n Free) ≡ length ns =
    kept_many ns (set xs n Free) d.1 (λ m i. subst (λ k. m < k) (sym (length-set xs n Free)) (low m (in_tail n m ns i))) (kept_without n ns xs less d.0 kept) in
    omega (arith, gave, was, rest)

-- ---- held blocks

held_below_more : (k : ℕ) (xs : List BlockState) → count_by (is_held_below (suc k)) xs ≡ count_by (is_held_below k) xs + held_count k xs
held_below_more k [] = refl
held_below_more k (x ∷ xs) =
    omega (arith, count_by-cons (is_held_below (suc k)) x xs, count_by-cons (is_held_below k) x xs, count_by-cons (is_held k) x xs, step x, held_below_more k xs)
  where
    step : (s : BlockState) → one (is_held_below (suc k) s) ≡ one (is_held_below k s) + one (is_held k s)
    step Free = refl
    step (Held by) = grind (arith, nat_tests)
    step Kept = refl

held_below_none : (xs : List BlockState) → count_by (is_held_below 0) xs ≡ 0
held_below_none xs = none_counted (is_held_below 0) xs (λ n low. none (state_at xs n))
  where
    none : (s : BlockState) → is_held_below 0 s ≡ false
    none Free = refl
    none (Held by) = grind (arith, nat_tests)
    none Kept = refl

-- a block that a client holds is counted
held_some : (xs : List BlockState) (n k : ℕ) → state_at xs n ≡ Held k → 1 ≤ held_count k xs
held_some xs n k e =
    let least : one (is_held k (state_at xs n)) ≤ held_count k xs = get_or-le-sum_by (λ (s : BlockState). one (is_held k s)) xs n Kept (past_end xs n k e) in
    let here : one (is_held k (state_at xs n)) ≡ 1 = ap (λ s. one (is_held k s)) e ∙ (let own : one (nat_eq k k) ≡ 1 = grind (arith, nat_tests) in own) in
    omega (arith, least, here)

-- the clients hold so many blocks, and nobody else holds any
pub record AreHeld (clients : List Client) (xs : List BlockState) : Type 0 where
  pub none : held_count 0 xs ≡ 0
  pub each : (k : ℕ) → held_count (suc k) xs ≡ (get_or clients k newcomer).held

module _ (clients : List Client) (xs : List BlockState) (are : AreHeld clients xs) where
  held_up_to : (k : ℕ) → k ≤ length clients → count_by (is_held_below (suc k)) xs ≡ sum_by (λ (c : Client). c.held) (take k clients)
  held_up_to zero low = (let more = held_below_more 0 xs in let first = held_below_none xs in let none = are.none in omega (arith, more, first, none))
  held_up_to (suc k) low =
      let before : count_by (is_held_below (suc k)) xs ≡ sum_by (λ (c : Client). c.held) (take k clients) = held_up_to k (omega (arith, low)) in
      let sum = sum_by_more (λ (c : Client). c.held) clients k newcomer (omega (arith, low)) in
      let next : k + 1 ≡ suc k = omega arith in
      let mine = are.each k in
      let more = held_below_more (suc k) xs in
      (let all : count_by (is_held_below (suc (suc k))) xs ≡ sum_by (λ (c : Client). c.held) (take (k + 1) clients) = omega (arith, before, sum, mine, more) in all)
      ∙ ap (λ n. sum_by (λ (c : Client). c.held) (take n clients)) next

  -- nobody past the last client holds any
  no_other : (n : ℕ) → is_held_block (state_at xs n) ≡ is_held_below (suc (length clients)) (state_at xs n)
  no_other n = by (state_at xs n) refl
    where
      by : (s : BlockState) → state_at xs n ≡ s → is_held_block s ≡ is_held_below (suc (length clients)) s
      by Free e = refl
      by Kept e = refl
      by (Held zero) e = (let some = held_some xs n 0 e in let none = are.none in absurd (omega (arith, some, none)))
      by (Held (suc k)) e = below (cases_lt k (length clients))
        where
          below : (k < length clients) ⊎ (length clients ≤ k) → true ≡ nat_lt (suc k) (suc (length clients))
          below (inl low) = sym (lt-ltb (suc k) (suc (length clients)) (omega (arith, low)))
          below (inr past) =
              let some = held_some xs n (suc k) e in
              let mine = are.each k in
              let none : (get_or clients k newcomer).held ≡ 0 = ap (λ (c : Client). c.held) (get_or_past clients k newcomer past) in
              absurd (omega (arith, some, mine, none))

  pub held_many : count_by is_held_block xs ≡ sum_by (λ (c : Client). c.held) clients
  held_many =
      count_by-pointwise is_held_block (is_held_below (suc (length clients))) xs xs refl no_other
      ∙ held_up_to (length clients) (omega arith) ∙ ap (sum_by (λ (c : Client). c.held)) (take_all (length clients) clients (omega arith))

-- ---- blocks of versions

pub sum_map : {X Y : Type 0} (f : Y → ℕ) (g : X → Y) (h : X → ℕ) → ((x : X) → f (g x) ≡ h x) → (xs : List X) → sum_by f (map g xs) ≡ sum_by h xs
sum_map f g h same [] = refl
sum_map f g h same (x ∷ xs) = sum_by-cons f (g x) (map g xs) ∙ (λ i. same x i + sum_map f g h same xs i) ∙ sym (sum_by-cons h x xs)

pub kept_counted : (files : List LaidFile) → sum_by kept_blocks (map file_in files) ≡ kept_in files
kept_counted files = sum_map kept_blocks file_in (λ (file : LaidFile). kept_by file.versions) in_file files
  where
    in_file : (file : LaidFile) → kept_blocks (file_in file) ≡ kept_by file.versions
    in_file file =
        sum_map (λ (v : Version). length v.fresh) version_in own_pages
        (λ (v : LaidVersion). length-map (filter (λ (node : Node). node.is_own) v.nodes) (λ (node : Node). node.path)) file.versions

-- ---- the scene

not_there : (m : ℕ) (ms : List ℕ) → AllByRecursion (λ k. nat_eq m k ≡ false) ms → IsIn ms m → ⊥
not_there m [] each i = none_in m i
not_there m (k ∷ ms) each i = elim (or_told (nat_eq m k) (list_any (nat_eq m) ms) i) [
  | inl t ↦ true≢false (sym t ∙ each.0)
  | inr later ↦ not_there m ms each.1 later
]

-- no number is there twice, said in another way
apart_of : (ns : List ℕ) → IsDistinct nat_eq ns → Distinct ns
unfolding IsDistinct
apart_of [] d = tt
apart_of (n ∷ ns) d = (not_there n ns d.0, apart_of ns d.1)

module _ (scene : Scene) (shared : IsShared scene) where
  places_counted : AreCounted scene.store scene.places
  places_counted = places_are_counted scene.content scene.most scene.store scene.places shared.laid

  abbrev kept_blocks_in : List ℕ
  kept_blocks_in = 0 ∷ (scene.places ++ scene.freed)

  all_low : (n : ℕ) → IsIn kept_blocks_in n → n < length scene.states
  all_low n i = by (in_cons 0 n (scene.places ++ scene.freed) i)
    where
      size : length scene.states ≡ scene.store.root.blocks
      size = shared.map.size

      by : (n ≡ 0) ⊎ IsIn (scene.places ++ scene.freed) n → n < length scene.states
      by (inl e) = (let some = shared.some in omega (arith, size, some, e))
      by (inr h) = elim (in_either scene.places scene.freed n h) [
        | inl p ↦ (let b = place_is_block scene.content scene.most scene.store scene.places shared.laid n p in let high = b.1 in omega (arith, size, high))
        | inr f ↦ (let high = (shared.map.freed n f).high in omega (arith, size, high))
      ]

  all_distinct : Distinct kept_blocks_in
  all_distinct = (
    λ h. elim (in_either scene.places scene.freed 0 h) [
      | inl p ↦ (let low = (place_is_block scene.content scene.most scene.store scene.places shared.laid 0 p).0 in omega (arith, low))
      | inr f ↦ (let low = (shared.map.freed 0 f).low in omega (arith, low))
    ],
    distinct_append scene.places scene.freed (apart_of scene.places places_counted.distinct) (apart_of scene.freed shared.map.once)
        (λ n p f. true≢false (sym p ∙ (shared.map.freed n f).free)),
  )

  all_kept : AreKept kept_blocks_in scene.states
  all_kept n low = (
    λ e. elim ((shared.map.kept n low).0 e) [
      | inl z ↦ subst (λ m. IsIn kept_blocks_in m) (sym z) (in_head 0 (scene.places ++ scene.freed))
      | inr other ↦ in_tail 0 n (scene.places ++ scene.freed) (elim other [ inl p ↦ in_left scene.places scene.freed n p | inr f ↦ in_right scene.places scene.freed n f ])
    ],
    λ i. (shared.map.kept n low).1 (elim (in_cons 0 n (scene.places ++ scene.freed) i) [ inl z ↦ inl z | inr h ↦ inr (in_either scene.places scene.freed n h) ]),
  )

  held_in : AreHeld scene.standing.clients scene.states
  held_in = record { none = shared.map.held 0; each = λ k. shared.map.held (suc k) ∙ own k }
    where
      own : (k : ℕ) → (client_of scene.standing (suc k)).held ≡ (get_or scene.standing.clients k newcomer).held
      own k = (let e : suc k - 1 ≡ k = omega arith in ap (λ n. (get_or scene.standing.clients n newcomer).held) e)

  -- how the blocks of the store are used
  pub all_blocks : free_count scene.states + (1 + parts_in scene.store.root + kept_in scene.store.files) + held_blocks scene.standing + freed_blocks scene.standing
      ≡ scene.store.root.blocks
  all_blocks =
      let kinds = three_kinds scene.states in
      let kept : count_by is_kept_block scene.states ≡ suc (length (scene.places ++ scene.freed)) = kept_many kept_blocks_in scene.states all_distinct all_low all_kept in
      let both = length-append scene.places scene.freed in
      let number = places_counted.number in
      let frees = shared.map.frees in
      let held : count_by is_held_block scene.states ≡ held_blocks scene.standing = held_many scene.standing.clients scene.states held_in in
      let size = shared.map.size in
      omega (arith, kinds, kept, both, number, frees, held, size)

-- what is left of all blocks
the_rest : (all free table kept held freed : ℕ) → free + (table + kept) + held + freed ≡ all → free ≡ all - table - kept - held - freed
the_rest all free table kept held freed e = omega arith

-- the blocks that are free where the state is this one
abbrev free_over : State → Standing → ℕ
free_over state s = state.blocks - table_blocks state - sum_by kept_blocks state.files - held_blocks s - freed_blocks s

pub free_is_counted : FreeIsCounted
free_is_counted scene shared =
    let table : table_blocks (state_in scene.store) ≡ 1 + parts_in scene.store.root = table_counted scene.content scene.most scene.store scene.places shared.laid in
    let kept : sum_by kept_blocks (map file_in scene.store.files) ≡ kept_in scene.store.files = kept_counted scene.store.files in
    the_rest scene.store.root.blocks (free_count scene.states) (1 + parts_in scene.store.root) (kept_in scene.store.files) (held_blocks scene.standing) (freed_blocks scene.standing)
    (all_blocks scene shared)
    ∙ (λ i. scene.store.root.blocks - sym table i - sym kept i - held_blocks scene.standing - freed_blocks scene.standing)
    ∙ ap (λ (x : State). free_over x scene.standing) shared.state
