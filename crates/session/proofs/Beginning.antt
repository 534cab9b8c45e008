-- How what clients share begins.
use Rattle.std.proofs.Common.{◌≡◌, ◌≢◌, ℕ, zero, suc, ◌+◌, ◌-◌, ◌<◌, ◌≤◌, ◌==◌, ◌&&◌, Bool, true, false, List, [], ◌∷◌, ◌++◌, length, map, take, drop, Option, Some, None, if◌then◌else◌, refl, sym, ap, ◌∙◌, subst, arith, get_or, true≢false, eqb-true}
use Rattle.std.specs.Prelude.{slice_get, slice_set}
use Rattle.std.specs.Option.{option_map_or}
use Rattle.std.proofs.lemmas.Bool.{eqb-false}
use Rattle.std.proofs.lemmas.List.{ext_get_or, length-map, take_at}
use Rattle.std.proofs.lemmas.Option.{slice_get_within}
use Rattle.afs_base.specs.declared.head.Head.{Head}
use Rattle.block_map.specs.States.{held_count, is_held, state_at, Replaces}
use Rattle.block_map.specs.declared.states.BlockState.{BlockState}
use Rattle.block_map.specs.declared.states.BlockState.TheVariants.{Free, Kept}
use Rattle.block_map.proofs.Counting.{count_by-cons, one}
use Rattle.pair_store.specs.declared.store.Blocks.{Ghosts}
use Rattle.pool_draft.specs.Sets.{roots_of}
use Rattle.recovery.specs.declared.opened.OpenedOver.{OpenedOver}
use Rattle.script_text.specs.ScriptValue.{ScriptValue}
use Rattle.service_model.specs.declared.journal.Entry.{Entry}
use Rattle.service_model.specs.Standing.{Scripts, Standing, Client, Update, client_of, has_file, newcomer}
use Rattle.store_model.specs.Found.{found}
use Rattle.ground_model.specs.Opened.{Begins}
use Rattle.ground_model.specs.Own.{IsClient}
use Rattle.ground_model.specs.Runs.{Stands}
use Rattle.ground_model.specs.Scenes.{Scene, held_by}
use Rattle.ground_model.specs.Tables.{HasSeals}
use Rattle.ground_model.proofs.HeadsTold.{heads_tell}
use Rattle.ground_model.proofs.Opened.{newcomers, opened_begins}
use Rattle.session.specs.Opening.{AreGivenBack, HoldsNone, IsGivenBack, IsOver, IsWithin, OpenedRunBegins, beyond_root}
use Rattle.session.specs.Own.{IsAtRest, IsOwn, OwnsStage, OwnsUpdate}
use Rattle.session.specs.Safe.{IsSafeStore}
use Rattle.session.specs.Sessions.{IsNewcomer}
use Rattle.session.specs.Shared.{AreLocksIn, RunStands, entries_of}
use Rattle.session.specs.declared.common.Common.{Common}
use Rattle.session.specs.declared.course.Course.{Course}
use Rattle.session.specs.declared.session.Session.{Session}

-- ---- all elements of a list changed, one after the other

-- so many of them
abbrev pub changed_to : {X : Type 0} → (X → X) → ℕ → List X → List X
changed_to f zero xs = xs
changed_to f (suc i) [] = []
changed_to f (suc i) (x ∷ xs) = f x ∷ changed_to f i xs

-- one more
pub change_next : {X : Type 0} (f : X → X) (i : ℕ) (xs ys : List X) (d y : X) → ys ≡ changed_to f i xs → y ≡ f (get_or ys i d) → i < length xs → slice_set ys i y ≡ changed_to f (i + 1) xs
change_next {X} f i xs ys d y is new low =
    ap (slice_set ys i) new ∙ ap (λ zs. slice_set zs i (f (get_or zs i d))) is ∙ by i xs low ∙ ap (λ n. changed_to f n xs) {x = suc i} (omega arith)
  where
    by : (i : ℕ) (xs : List X) → i < length xs → slice_set (changed_to f i xs) i (f (get_or (changed_to f i xs) i d)) ≡ changed_to f (suc i) xs
    by i [] low = absurd (omega (arith, low))
    by zero (x ∷ xs) low = refl
    by (suc i) (x ∷ xs) low = ap (λ ys. f x ∷ ys) (by i xs (omega (arith, low)))

-- all of them
pub changed_all : {X : Type 0} (f : X → X) (xs : List X) → changed_to f (length xs) xs ≡ map f xs
changed_all f [] = refl
changed_all f (x ∷ xs) = ap (λ ys. f x ∷ ys) (changed_all f xs)

-- a vector whose elements were all changed while they were lent
pub changed_back : {X : Type 0} (f : X → X) (xs ys zs : List X) (i n : ℕ) → ys ≡ changed_to f i zs → zs ≡ xs → length ys ≡ length zs → i ≡ length zs → length zs ≡ n → take n (ys ++ drop (length ys) xs) ≡ map f xs
changed_back f xs ys zs i n is same long all lent =
    take_at ys (drop (length ys) xs) n (long ∙ lent) ∙ is ∙ ap (λ k. changed_to f k zs) all ∙ changed_all f zs ∙ ap (map f) same

-- ---- what is told of files

one_beyond : (told : Option Head) (head : Head) → beyond_root told ≡ Some head → (told ≡ Some head) × (0 < head.block)
one_beyond None head e = absurd (let no : None ≡ Some head = e in cc)
one_beyond (Some x) head e = by (x.block == 0) refl e
  where
    by : (z : Bool) → (x.block == 0) ≡ z → (if z then None else Some x) ≡ Some head → (Some x ≡ Some head) × (0 < head.block)
    by true is h = absurd (let no : None ≡ Some head = h in cc)
    by false is h =
        let same : x ≡ head = cc in
        let some : x.block ≢ 0 = eqb-false x.block 0 is in
        (h, subst (λ (y : Head). 0 < y.block) same (omega (arith, some)))

-- what is told beyond block 0 is told, of another block
pub beyond_told : (heads : List (Option Head)) (k : ℕ) (head : Head) → slice_get (map beyond_root heads) k ≡ Some (Some head) → (slice_get heads k ≡ Some (Some head)) × (0 < head.block)
beyond_told [] k head e = absurd (let no : None ≡ Some (Some head) = e in cc)
beyond_told (told ∷ heads) zero head e =
    let here : beyond_root told ≡ Some head = cc in
    let one = one_beyond told head here in
    (ap Some one.0, one.1)
beyond_told (told ∷ heads) (suc k) head e = beyond_told heads k head e

-- nothing is left out where nothing is told of block 0
pub all_beyond : (heads : List (Option Head)) → ((k : ℕ) (head : Head) → slice_get heads k ≡ Some (Some head) → head.block ≢ 0) → map beyond_root heads ≡ heads
all_beyond [] low = refl
all_beyond (told ∷ heads) low =
    ap (λ x. x ∷ map beyond_root heads) (by told (low 0)) ∙ ap (λ xs. told ∷ xs) (all_beyond heads (λ k. low (suc k)))
  where
    by : (told : Option Head) → ((head : Head) → Some told ≡ Some (Some head) → head.block ≢ 0) → beyond_root told ≡ told
    by None here = refl
    by (Some head) here = at (head.block == 0) refl
      where
        at : (z : Bool) → (head.block == 0) ≡ z → (if z then None else Some head) ≡ Some head
        at true is = absurd (here head refl (eqb-true head.block 0 is))
        at false is = refl

pub over_is_safe : {D : Type 0} (size : D → ℕ) (o : OpenedOver D) (c : Common D) → IsWithin size o → c.store ≡ o.store → length c.map ≡ length o.map → c.heads.items ≡ map beyond_root o.heads.items → IsSafeStore size c
over_is_safe size o c within store is heads = record {
  heads = λ k head at. subst (λ d. head.block < size d) (sym store) (within.heads k head (told k head at).0);
  named = λ k head at. (told k head at).1;
  map = subst (λ d. length c.map ≤ size d) (sym store) (subst (λ n. n ≤ size o.store) (sym is) within.map);
}
  where
    told : (k : ℕ) (head : Head) → slice_get c.heads.items k ≡ Some (Some head) → (slice_get o.heads.items k ≡ Some (Some head)) × (0 < head.block)
    told k head at = beyond_told o.heads.items k head (ap (λ hs. slice_get hs k) (sym heads) ∙ at)

-- ---- the map of blocks

not_one : (z : Bool) → one z ≡ 0 → z ≡ false
not_one true e = absurd (omega (arith, e))
not_one false e = refl

-- of a map in which a client holds no block, no block is its own
no_block : (client : ℕ) (states : List BlockState) → held_count client states ≡ 0 → (n : ℕ) → is_held client (state_at states n) ≡ false
no_block client [] none n = refl
no_block client (x ∷ xs) none zero = (let sum = count_by-cons (is_held client) x xs in not_one (is_held client x) (omega (arith, sum, none)))
no_block client (x ∷ xs) none (suc n) = (let sum = count_by-cons (is_held client) x xs in no_block client xs (omega (arith, sum, none)) n)

-- nothing changes where a client that holds none gives back its blocks
pub none_given : (client : ℕ) (old new : List BlockState) → Replaces client Free old new → held_count client old ≡ 0 → new ≡ old
none_given client old new is none =
    ext_get_or Kept new old is.size (λ n low. is.states n ∙ ap (λ z. if z then Free else state_at old n) (no_block client old none n))

pub is_given_back : (client n : ℕ) (old new : List BlockState) → client ≡ n → Replaces client Free old new → held_count client new ≡ 0
    → ((k : ℕ) → k ≢ client → held_count k new ≡ held_count k old) → IsGivenBack n old new
is_given_back client n old new same is none others = subst (λ k. IsGivenBack k old new) same (record {
  size = is.size;
  mine = none;
  others = others;
  none = none_given client old new is;
})

-- one client more
pub given_more : (client : ℕ) (old mid new : List BlockState) → AreGivenBack client old mid → IsGivenBack (client + 1) mid new → AreGivenBack (client + 1) old new
given_more client old mid new all one = record {
  size = one.size ∙ all.size;
  mine = λ k low high. by k low high (k == client + 1) refl;
  none = λ none. one.none (ap (held_count (client + 1)) (all.none none) ∙ none (client + 1)) ∙ all.none none;
}
  where
    by : (k : ℕ) → 1 ≤ k → k ≤ client + 1 → (z : Bool) → (k == client + 1) ≡ z → held_count k new ≡ 0
    by k low high true is = ap (λ n. held_count n new) (eqb-true k (client + 1) is) ∙ one.mine
    by k low high false is =
        let other : k ≢ client + 1 = eqb-false k (client + 1) is in
        one.others k other ∙ all.mine k low (omega (arith, high, other))

-- ---- a run that begins

module _ {D : Type 0} (b : Ghosts D) (o : OpenedOver D) (first : ℕ) (scripts : Scripts) (scene : Scene) (begins : Begins b o first scripts scene) where
  is_newcomer : (k : ℕ) → client_of scene.standing k ≡ newcomer
  is_newcomer k = ap (λ s. client_of s k) begins.starts ∙ newcomers scripts scene.standing.state k

  told_low : (k : ℕ) (head : Head) → slice_get o.heads.items k ≡ Some (Some head) → head.block ≢ 0
  told_low k head at = (heads_tell scene o.heads.items (suc k) head begins.stands.shared begins.heads (omega arith) (ap (slice_get o.heads.items) {x = suc k - 1} {y = k} (omega arith) ∙ at)).low

  holds_none : HoldsNone o.map
  holds_none k = sym (ap (held_count k) begins.map) ∙ begins.stands.shared.map.held k ∙ by k
    where
      by : (k : ℕ) → held_by scene.standing k ≡ 0
      by zero = refl
      by (suc k) = ap (λ (c : Client). c.held) (is_newcomer (suc k))

  locks_none : AreLocksIn scene.standing []
  locks_none k object low = (
    λ holds. absurd (true≢false (sym holds)),
    λ locked. absurd (true≢false (sym locked ∙ ap (λ (u : Option Update). option_map_or (λ u. u.is_super && has_file object u) u false) (begins.idle k))),
  )

  begins_over : (c : Common D) → IsOver o c → RunStands b scene.standing.state scripts first scene c
  begins_over c over = record {
    stands =
        let F : D → Type 0 = λ d. Stands b scene.standing.state scripts first scene d (entries_of c) in
        let G : List Entry → Type 0 = λ es. Stands b scene.standing.state scripts first scene o.store es in
        subst F (sym over.store) (subst G (sym over.entries) begins.stands);
    sure = over.doubt;
    map = over.map holds_none ∙ sym begins.map;
    heads = over.heads ∙ all_beyond o.heads.items told_low ∙ begins.heads;
    seals = subst (λ table. HasSeals table scene.standing.state) (sym over.table) begins.table;
    locks = subst (AreLocksIn scene.standing) (sym over.locks) locks_none;
  }

  -- ---- a client that has not begun

  seated_at : (script : ScriptValue) (k : ℕ) → 1 ≤ k → slice_get scripts (k - 1) ≡ Some script → IsClient scene.standing k
  seated_at script k low at = record { low = low; high = subst (λ n. k ≤ n) (sym count) (omega (arith, inside)) }
    where
      count : length scene.standing.clients ≡ length scripts
      count = ap (λ (s : Standing). length s.clients) begins.starts ∙ length-map scripts _

      inside : k - 1 < length scripts
      inside = slice_get_within scripts (k - 1) script at

  newcomer_owns : (script : ScriptValue) (s : Course) → 1 ≤ s.client → slice_get scripts (s.client - 1) ≡ Some script
      → s.replies.items ≡ [] → roots_of s.drafts ≡ 0 → s.held ≡ 0 → s.turns ≡ 0 → IsAtRest scripts scene script s
  newcomer_owns script s low at answers drafts held turns = record {
    seated = record {
      client = seated_at script s.client low at;
      its_script = at;
      answers = ap (λ (c : Client). c.answers) (is_newcomer s.client) ∙ sym answers;
      idle = λ up none mine. absurd (let no : None ≡ Some up = sym (ap (λ (t : Standing). t.upkeep) begins.starts) ∙ none in cc);
    };
    fresh = ap (λ (c : Client). c.noted) (is_newcomer s.client);
    held = ap (λ (c : Client). c.held) (is_newcomer s.client);
    none = held;
    update = subst (OwnsUpdate scene script s) (sym (begins.idle s.client)) drafts;
    closed = λ last. drafts;
    turns = omega (arith, turns);
  }

  newcomer_own : (client : ℕ) (script : ScriptValue) (s : Session) → 1 ≤ client → slice_get scripts (client - 1) ≡ Some script → IsNewcomer client script s → IsOwn scripts scene script s.course
  newcomer_own client script s low at new =
      subst (OwnsStage scripts scene script s.course) (sym new.stage)
      (newcomer_owns script s.course (subst (λ n. 1 ≤ n) (sym new.number) low) (ap (λ n. slice_get scripts (n - 1)) new.number ∙ at) new.answers new.drafts.none new.held new.turns)

pub opened_run_begins : {D : Type 0} (b : Ghosts D) → OpenedRunBegins b
opened_run_begins b o first scripts c is sayable over =
    let begun = opened_begins b o first scripts is sayable in
    let scene = begun.0 in (
      scene,
      record {
        found = ap (λ d. found (b.content d) (b.size d)) over.store ∙ begun.1.opening;
        stands = begins_over b o first scripts scene begun.1 c over;
        own = newcomer_own b o first scripts scene begun.1;
      },
    )
