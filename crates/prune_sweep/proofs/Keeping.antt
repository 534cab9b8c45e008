-- Reading the version that stays.
use Rattle.std.proofs.Common.{◌≡◌, ◌≢◌, ◌⊎◌, ◌↔◌, inl, inr, ℕ, zero, suc, ◌<◌, ◌≤◌, List, [], ◌∷◌, ◌++◌, length, Some, None, refl, sym, ap, subst, ◌∙◌, arith, slice_get, false, length-append}
use Rattle.page_codec.specs.Values.{ReferenceValue, PageValue}
use Rattle.page_places.specs.Places.{Store, block_at, slot_block}
use Rattle.prune_sweep.specs.declared.mark.Mark.{Mark}
use Rattle.prune_sweep.specs.declared.mark.Mark.TheVariants.{Unseen, Next, Wanted, Shared, Found, Kept}
use Rattle.prune_sweep.specs.declared.slots.Following.{Following}
use Rattle.prune_sweep.specs.declared.slots.Following.TheVariants.{AllShared}
use Rattle.prune_sweep.specs.Marks.{mark_at, as_shared, is_open}
use Rattle.prune_sweep.specs.Slots.{new_block, shared_block}
use Rattle.prune_sweep.specs.Reading.{Turned}
use Rattle.prune_sweep.specs.Searching.{NoneOpen}
use Rattle.prune_sweep.specs.Line.{IsPage, IsPageBefore, IsFreed, IsOwnAt, IsLine}
use Rattle.prune_sweep.specs.Sweeping.{IsHeld, IsWantedAt, IsSharedAt, SaysHeld, Ready, Keeps}
use Rattle.prune_sweep.proofs.Lines.{prior, one_root, Slot, slot_told, slot_is, child_at, each_page, new_or_shared, freed_told, kept_from}
use Rattle.prune_sweep.proofs.Turning.{SlotOf, TurnedTo, is_read, is_next, is_new, is_shared, is_same, turned_to, turned_new, SharedTo, share_read, share_next, share_wanted, share_so, turned_shared}
use Rattle.prune_sweep.proofs.Following.{held_at, held_slot, held_shares, new_names, shared_names, snoc_is, snoc_some}

pub held_by : (m n : Mark) → n ≡ m → IsHeld m → IsHeld n
held_by m n e h = subst IsHeld (sym e) h

shared_held : (level : ℕ) (m : Mark) → IsHeld m → as_shared level m ≡ m
shared_held level Unseen h = absurd h
shared_held level Next h = absurd h
shared_held level (Wanted l) h = refl
shared_held level (Shared l) h = refl
shared_held level Found h = absurd h
shared_held level Kept h = refl

shared_kept : (level : ℕ) (m : Mark) → as_shared level m ≡ Kept → m ≡ Kept
shared_kept level Unseen e = absurd cc
shared_kept level Next e = absurd cc
shared_kept level (Wanted l) e = absurd cc
shared_kept level (Shared l) e = absurd cc
shared_kept level Found e = absurd cc
shared_kept level Kept e = refl

-- ---- the page of the version

-- the slots of a page of the version that stays, where it is new, and those that name pages of the version before
pub shared_before : (pages : Store) (count : ℕ) (roots : List ℕ) → IsLine pages count roots → (m root : ℕ) → slice_get roots m ≡ Some root
    → (p : List ℕ) (n : ℕ) (page : PageValue) → block_at pages root p ≡ Some n → pages n ≡ Some page
    → (s : ℕ) (r : ReferenceValue) (x : ℕ) → slice_get page.refs s ≡ Some r → shared_block (held_at m) r ≡ Some x → IsPageBefore pages roots m x
shared_before pages count roots line m root at p n page here holds s r x has shared =
    let t = held_shares m r x shared in
    let after : slice_get roots (suc t.0) ≡ Some root = ap (slice_get roots) (sym t.1) ∙ at in
    let one : (y : ℕ) × (slice_get roots t.0 ≡ Some y) = prior roots t.0 root after in
    let is : m ≡ suc t.0 = t.1 in
    (t.0, one.0, omega (arith, is), one.1, (p ++ s ∷ [], line.shares t.0 one.0 root p n page s r x one.1 after here holds has t.3 t.2))

pub keeping_begins : (pages : Store) (count : ℕ) (roots : List ℕ) → IsLine pages count roots → (m root : ℕ) → slice_get roots m ≡ Some root
    → (page : PageValue) → pages root ≡ Some page → (old new : List Mark) → Ready pages roots m (mark_at old) → mark_at old root ≡ Next
    → Turned root Kept (held_at m) 1 page.refs None old new → Keeps pages roots m (mark_at new)
keeping_begins pages count roots line m root at page holds old new ready was t =
    record {
      root = root;
      at = at;
      begun = begun;
      before = λ n h. before n (ready.before n h) (to n);
      closed = λ p n pg s x here kept has names. by_page p n pg s x here kept has names (to n);
      named = λ p n s x here own held. by_child p n s x here own held (to x);
      says = λ n. says n (to n);
    }
  where
    to : (n : ℕ) → TurnedTo root Kept (held_at m) 1 page.refs None (mark_at old n) n (mark_at new n)
    to n = turned_to root Kept (held_at m) 1 page.refs None old new t n

    seen : mark_at old root ≢ Unseen
    seen e = absurd (let f : Next ≡ Unseen = sym was ∙ e in cc)

    begun : mark_at new root ≡ Kept
    begun = by (to root)
      where
        by : TurnedTo root Kept (held_at m) 1 page.refs None (mark_at old root) root (mark_at new root) → mark_at new root ≡ Kept
        by (is_read e h) = h
        by (is_next ne e u h) = absurd (ne refl)
        by (is_new ne s u h) = absurd (ne refl)
        by (is_shared ne s h) = absurd (ne refl)
        by (is_same ne h) = absurd (ne refl)

    found : (n : ℕ) → SlotOf (shared_block (held_at m)) page.refs n → mark_at old n ≡ Found
    found n sl = ready.before n (shared_before pages count roots line m root at [] root page refl holds sl.slot sl.reference n sl.at sl.names)

    before : (n : ℕ) → mark_at old n ≡ Found → TurnedTo root Kept (held_at m) 1 page.refs None (mark_at old n) n (mark_at new n)
        → (mark_at new n ≡ Found) ⊎ IsHeld (mark_at new n)
    before n f (is_read e h) = inr (held_by Kept (mark_at new n) h tt)
    before n f (is_next ne e u h) = absurd cc
    before n f (is_new ne sl u h) = absurd (let g : Unseen ≡ Found = sym u ∙ f in cc)
    before n f (is_shared ne sl h) = inr (held_by (Shared 1) (mark_at new n) (h ∙ ap (as_shared 1) f) tt)
    before n f (is_same ne h) = inl (h ∙ f)

    slot_held : (s x : ℕ) → slot_block page s ≡ Some x → IsHeld (mark_at new x)
    slot_held s x names = elim (held_slot m sl.reference x sl.names) [
      | inl new_too ↦ held_by (Wanted 1) (mark_at new x) (turned_new root Kept (held_at m) 1 page.refs None old new t seen s sl.reference x sl.at new_too) tt
      | inr shared ↦ by (ready.before x (shared_before pages count roots line m root at [] root page refl holds s sl.reference x sl.at shared))
          (turned_shared root Kept (held_at m) 1 page.refs None old new t s sl.reference x sl.at shared)
    ]
      where
        sl : Slot page s x
        sl = slot_told page s x names

        by : mark_at old x ≡ Found → SharedTo root Kept 1 None (mark_at old x) x (mark_at new x) → IsHeld (mark_at new x)
        by f (share_read e h) = held_by Kept (mark_at new x) h tt
        by f (share_next e) = absurd cc
        by f (share_wanted h) = held_by (Wanted 1) (mark_at new x) h tt
        by f (share_so h) = held_by (Shared 1) (mark_at new x) (h ∙ ap (as_shared 1) f) tt

    never_kept : {A : Type 0} (n : ℕ) → mark_at old n ≡ Kept → A
    never_kept n e = absurd (elim (ready.says n) [
      | inl u ↦ let g : Unseen ≡ Kept = sym u ∙ e in cc
      | inr rest ↦ elim rest [ inl b ↦ let g : Found ≡ Kept = sym b.0 ∙ e in cc | inr next ↦ let g : Next ≡ Kept = sym next.0 ∙ e in cc ]
    ])

    by_page : (p : List ℕ) (n : ℕ) (pg : PageValue) (s x : ℕ) → block_at pages root p ≡ Some n → mark_at new n ≡ Kept → pages n ≡ Some pg → slot_block pg s ≡ Some x
        → TurnedTo root Kept (held_at m) 1 page.refs None (mark_at old n) n (mark_at new n) → IsHeld (mark_at new x)
    by_page p n pg s x here kept has names (is_read e h) =
        let same : pg ≡ page = let f : Some pg ≡ Some page = sym has ∙ ap pages e ∙ holds in cc in
        slot_held s x (ap (λ (y : PageValue). slot_block y s) (sym same) ∙ names)
    by_page p n pg s x here kept has names (is_next ne e u h) = absurd cc
    by_page p n pg s x here kept has names (is_new ne sl u h) = absurd (let g : Wanted 1 ≡ Kept = sym h ∙ kept in cc)
    by_page p n pg s x here kept has names (is_shared ne sl h) = never_kept n (shared_kept 1 (mark_at old n) (sym h ∙ kept))
    by_page p n pg s x here kept has names (is_same ne h) = never_kept n (sym h ∙ kept)

    by_child : (p : List ℕ) (n s x : ℕ) → block_at pages root p ≡ Some n → IsOwnAt pages roots m (p ++ s ∷ []) x → IsHeld (mark_at new x)
        → TurnedTo root Kept (held_at m) 1 page.refs None (mark_at old x) x (mark_at new x) → mark_at new n ≡ Kept
    by_child p n s x here own held = by
      where
        lies : block_at pages root (p ++ s ∷ []) ≡ Some x
        lies = ap (λ r. block_at pages r (p ++ s ∷ [])) (one_root roots m root own.root at own.at) ∙ own.lies

        at_top : p ≡ [] → mark_at new n ≡ Kept
        at_top e = let same : root ≡ n = let f : Some root ≡ Some n = ap (block_at pages root) (sym e) ∙ here in cc in ap (mark_at new) (sym same) ∙ begun

        by : TurnedTo root Kept (held_at m) 1 page.refs None (mark_at old x) x (mark_at new x) → mark_at new n ≡ Kept
        by (is_read e h) = absurd (snoc_some p s (line.one m root (p ++ s ∷ []) [] x at lies (ap Some (sym e))))
        by (is_next ne e u h) = absurd cc
        by (is_new ne sl u h) =
            let child : block_at pages root (sl.slot ∷ []) ≡ Some x =
            child_at pages root [] root sl.slot page x refl holds (slot_is page sl.slot x sl.reference sl.at (new_names (held_at m) sl.reference x sl.names)) in
            at_top (snoc_is p [] s sl.slot (line.one m root (p ++ s ∷ []) (sl.slot ∷ []) x at lies child)).0
        by (is_shared ne sl h) =
            absurd (own.new (shared_before pages count roots line m root at [] root page refl holds sl.slot sl.reference x sl.at sl.names))
        by (is_same ne h) = elim (ready.says x) [
          | inl u ↦ absurd (subst IsHeld (h ∙ u) held)
          | inr rest ↦ elim rest [ inl b ↦ absurd (own.new b.1) | inr next ↦ absurd (subst IsHeld (h ∙ next.0) held) ]
        ]

    says : (n : ℕ) → TurnedTo root Kept (held_at m) 1 page.refs None (mark_at old n) n (mark_at new n) → SaysHeld pages roots m n (mark_at new n)
    says n (is_read e h) = subst (SaysHeld pages roots m n) (sym h) (root, at, ([], ap Some (sym e)))
    says n (is_next ne e u h) = absurd cc
    says n (is_new ne sl u h) =
        subst (SaysHeld pages roots m n) (sym h)
        (record {
          path = sl.slot ∷ [];
          own = record {
            root = root;
            at = at;
            lies = child_at pages root [] root sl.slot page n refl holds (slot_is page sl.slot n sl.reference sl.at (new_names (held_at m) sl.reference n sl.names));
            new = λ b. absurd (let g : Unseen ≡ Found = sym u ∙ ready.before n b in cc);
          };
          level = refl;
        })
    says n (is_shared ne sl h) =
        subst (SaysHeld pages roots m n) (sym (h ∙ ap (as_shared 1) (found n sl)))
        (record {
          path = sl.slot ∷ [];
          root = root;
          at = at;
          lies = child_at pages root [] root sl.slot page n refl holds (slot_is page sl.slot n sl.reference sl.at (shared_names (held_at m) sl.reference n sl.names));
          before = shared_before pages count roots line m root at [] root page refl holds sl.slot sl.reference n sl.at sl.names;
          level = refl;
        })
    says n (is_same ne h) = elim (ready.says n) [
      | inl u ↦ subst (SaysHeld pages roots m n) (sym (h ∙ u)) tt
      | inr rest ↦ elim rest [
        | inl b ↦ subst (SaysHeld pages roots m n) (sym (h ∙ b.0)) b.1
        | inr next ↦ absurd (ne (one_root roots m n root next.1 at))
      ]
    ]

-- ---- a page below `/`

-- A page of the version that stays, which is to be read: where it lies; each of its slots is followed, and those that are followed as pages of the version
-- before name such pages.
pub record ToKeep (pages : Store) (roots : List ℕ) (m b level : ℕ) (page : PageValue) (f : Following) (mark : Mark) : Type 0 where
  pub path : List ℕ
  pub root : ℕ
  pub at : slice_get roots m ≡ Some root
  pub lies : block_at pages root path ≡ Some b
  pub level_is : length path ≡ level
  pub seen : mark ≢ Unseen
  pub held : IsHeld mark
  pub each : (s : ℕ) (r : ReferenceValue) (x : ℕ) → slice_get page.refs s ≡ Some r → r.block ≡ Some x → (new_block f r ≡ Some x) ⊎ (shared_block f r ≡ Some x)
  pub before : (s : ℕ) (r : ReferenceValue) (x : ℕ) → slice_get page.refs s ≡ Some r → shared_block f r ≡ Some x → IsPageBefore pages roots m x

pub to_keep_own : (pages : Store) (count : ℕ) (roots : List ℕ) → IsLine pages count roots → (m b level : ℕ) (page : PageValue) → pages b ≡ Some page
    → (mark : Mark) → mark ≡ Wanted level → IsWantedAt pages roots m b level → ToKeep pages roots m b level page (held_at m) mark
to_keep_own pages count roots line m b level page holds mark was w =
    record {
      path = w.path;
      root = w.own.root;
      at = w.own.at;
      lies = w.own.lies;
      level_is = w.level;
      seen = λ e. absurd (let f : Wanted level ≡ Unseen = sym was ∙ e in cc);
      held = held_by (Wanted level) mark was tt;
      each = λ s r x at names. held_slot m r x names;
      before = λ s r x has shared. shared_before pages count roots line m w.own.root w.own.at w.path b page w.own.lies holds s r x has shared;
    }

-- what a page names that the version before has, that version has too
pub to_keep_shared : (pages : Store) (count : ℕ) (roots : List ℕ) → IsLine pages count roots → (m b level : ℕ) (page : PageValue) → pages b ≡ Some page
    → (mark : Mark) → mark ≡ Shared level → IsSharedAt pages roots m b level → ToKeep pages roots m b level page AllShared mark
to_keep_shared pages count roots line m b level page holds mark was w =
    record {
      path = w.path;
      root = w.root;
      at = w.at;
      lies = w.lies;
      level_is = w.level;
      seen = λ e. absurd (let f : Shared level ≡ Unseen = sym was ∙ e in cc);
      held = held_by (Shared level) mark was tt;
      each = λ s r x at names. inr names;
      before = λ s r x has names. by m refl s r x has names;
    }
  where
    by : (i : ℕ) → m ≡ i → (s : ℕ) (r : ReferenceValue) (x : ℕ) → slice_get page.refs s ≡ Some r → r.block ≡ Some x → IsPageBefore pages roots m x
    by zero e s r x has names = absurd (let low : w.before.0 < m = w.before.2 in let f : w.before.0 < 0 = omega (arith, low, e) in omega (arith, f))
    by (suc j) e s r x has names =
        let after : slice_get roots (suc j) ≡ Some w.root = ap (slice_get roots) (sym e) ∙ w.at in
        let one : (y : ℕ) × (slice_get roots j ≡ Some y) = prior roots j w.root after in
        elim (new_or_shared pages count roots line j one.0 w.root one.1 after w.path b w.lies) [
          | inl new ↦ absurd (new (subst (λ i. IsPageBefore pages roots i b) e w.before))
          | inr shared ↦ (j, one.0, omega (arith, e), one.1, (w.path ++ s ∷ [], child_at pages one.0 w.path b s page x shared holds (slot_is page s x r has names)))
        ]

pub keeping_reads : (pages : Store) (count : ℕ) (roots : List ℕ) → IsLine pages count roots → (m b level : ℕ) (page : PageValue) → pages b ≡ Some page
    → (f : Following) (old new : List Mark) → Keeps pages roots m (mark_at old) → ToKeep pages roots m b level page f (mark_at old b)
    → Turned b Kept f (suc level) page.refs None old new → Keeps pages roots m (mark_at new)
keeping_reads pages count roots line m b level page holds f old new k w t =
    record {
      root = k.root;
      at = k.at;
      begun = kept_on k.root k.begun (to k.root);
      before = λ n h. elim (k.before n h) [ inl g ↦ found_on n g (to n) | inr g ↦ inr (held_on n g (to n)) ];
      closed = λ p n pg s x here kept has names. by_page p n pg s x here kept has names (to n);
      named = λ p n s x here own held. by_child p n s x here own held (to x);
      says = λ n. says n (to n);
    }
  where
    to : (n : ℕ) → TurnedTo b Kept f (suc level) page.refs None (mark_at old n) n (mark_at new n)
    to n = turned_to b Kept f (suc level) page.refs None old new t n

    lies_b : block_at pages k.root w.path ≡ Some b
    lies_b = ap (λ r. block_at pages r w.path) (one_root roots m k.root w.root k.at w.at) ∙ w.lies

    read_b : mark_at new b ≡ Kept
    read_b = by (to b)
      where
        by : TurnedTo b Kept f (suc level) page.refs None (mark_at old b) b (mark_at new b) → mark_at new b ≡ Kept
        by (is_read e h) = h
        by (is_next ne e u h) = absurd (ne refl)
        by (is_new ne s u h) = absurd (ne refl)
        by (is_shared ne s h) = absurd (ne refl)
        by (is_same ne h) = absurd (ne refl)

    kept_on : (n : ℕ) → mark_at old n ≡ Kept → TurnedTo b Kept f (suc level) page.refs None (mark_at old n) n (mark_at new n) → mark_at new n ≡ Kept
    kept_on n e (is_read q h) = h
    kept_on n e (is_next ne q u h) = absurd cc
    kept_on n e (is_new ne sl u h) = absurd (let g : Unseen ≡ Kept = sym u ∙ e in cc)
    kept_on n e (is_shared ne sl h) = h ∙ ap (as_shared (suc level)) e
    kept_on n e (is_same ne h) = h ∙ e

    held_on : (n : ℕ) → IsHeld (mark_at old n) → TurnedTo b Kept f (suc level) page.refs None (mark_at old n) n (mark_at new n) → IsHeld (mark_at new n)
    held_on n g (is_read q h) = held_by Kept (mark_at new n) h tt
    held_on n g (is_next ne q u h) = absurd cc
    held_on n g (is_new ne sl u h) = held_by (Wanted (suc level)) (mark_at new n) h tt
    held_on n g (is_shared ne sl h) = held_by (mark_at old n) (mark_at new n) (h ∙ shared_held (suc level) (mark_at old n) g) g
    held_on n g (is_same ne h) = held_by (mark_at old n) (mark_at new n) h g

    found_on : (n : ℕ) → mark_at old n ≡ Found → TurnedTo b Kept f (suc level) page.refs None (mark_at old n) n (mark_at new n)
        → (mark_at new n ≡ Found) ⊎ IsHeld (mark_at new n)
    found_on n e (is_read q h) = inr (held_by Kept (mark_at new n) h tt)
    found_on n e (is_next ne q u h) = absurd cc
    found_on n e (is_new ne sl u h) = absurd (let g : Unseen ≡ Found = sym u ∙ e in cc)
    found_on n e (is_shared ne sl h) = inr (held_by (Shared (suc level)) (mark_at new n) (h ∙ ap (as_shared (suc level)) e) tt)
    found_on n e (is_same ne h) = inl (h ∙ e)

    -- what a version before has, once the version that stays is found to have it
    shared_now : (x : ℕ) → IsPageBefore pages roots m x → mark_at new x ≡ as_shared (suc level) (mark_at old x) → IsHeld (mark_at new x)
    shared_now x h e = elim (k.before x h) [
      | inl g ↦ held_by (Shared (suc level)) (mark_at new x) (e ∙ ap (as_shared (suc level)) g) tt
      | inr g ↦ held_by (mark_at old x) (mark_at new x) (e ∙ shared_held (suc level) (mark_at old x) g) g
    ]

    slot_held : (s x : ℕ) → slot_block page s ≡ Some x → IsHeld (mark_at new x)
    slot_held s x names = elim (w.each s sl.reference x sl.at sl.names) [
      | inl new_too ↦ held_by (Wanted (suc level)) (mark_at new x) (turned_new b Kept f (suc level) page.refs None old new t w.seen s sl.reference x sl.at new_too) tt
      | inr shared ↦ by (w.before s sl.reference x sl.at shared) (turned_shared b Kept f (suc level) page.refs None old new t s sl.reference x sl.at shared)
    ]
      where
        sl : Slot page s x
        sl = slot_told page s x names

        by : IsPageBefore pages roots m x → SharedTo b Kept (suc level) None (mark_at old x) x (mark_at new x) → IsHeld (mark_at new x)
        by h (share_read e g) = held_by Kept (mark_at new x) g tt
        by h (share_next e) = absurd cc
        by h (share_wanted g) = held_by (Wanted (suc level)) (mark_at new x) g tt
        by h (share_so g) = shared_now x h g

    by_page : (p : List ℕ) (n : ℕ) (pg : PageValue) (s x : ℕ) → block_at pages k.root p ≡ Some n → mark_at new n ≡ Kept → pages n ≡ Some pg → slot_block pg s ≡ Some x
        → TurnedTo b Kept f (suc level) page.refs None (mark_at old n) n (mark_at new n) → IsHeld (mark_at new x)
    by_page p n pg s x here kept has names (is_read e h) =
        let same : pg ≡ page = let g : Some pg ≡ Some page = sym has ∙ ap pages e ∙ holds in cc in
        slot_held s x (ap (λ (y : PageValue). slot_block y s) (sym same) ∙ names)
    by_page p n pg s x here kept has names (is_next ne e u h) = absurd cc
    by_page p n pg s x here kept has names (is_new ne sl u h) = absurd (let g : Wanted (suc level) ≡ Kept = sym h ∙ kept in cc)
    by_page p n pg s x here kept has names (is_shared ne sl h) =
        held_on x (k.closed p n pg s x here (shared_kept (suc level) (mark_at old n) (sym h ∙ kept)) has names) (to x)
    by_page p n pg s x here kept has names (is_same ne h) = held_on x (k.closed p n pg s x here (sym h ∙ kept) has names) (to x)

    by_child : (p : List ℕ) (n s x : ℕ) → block_at pages k.root p ≡ Some n → IsOwnAt pages roots m (p ++ s ∷ []) x → IsHeld (mark_at new x)
        → TurnedTo b Kept f (suc level) page.refs None (mark_at old x) x (mark_at new x) → mark_at new n ≡ Kept
    by_child p n s x here own held = by
      where
        lies : block_at pages k.root (p ++ s ∷ []) ≡ Some x
        lies = ap (λ r. block_at pages r (p ++ s ∷ [])) (one_root roots m k.root own.root k.at own.at) ∙ own.lies

        at_b : p ≡ w.path → mark_at new n ≡ Kept
        at_b e = let same : n ≡ b = let g : Some n ≡ Some b = sym here ∙ ap (block_at pages k.root) e ∙ lies_b in cc in ap (mark_at new) same ∙ read_b

        by : TurnedTo b Kept f (suc level) page.refs None (mark_at old x) x (mark_at new x) → mark_at new n ≡ Kept
        by (is_read e h) = kept_on n (k.named p n s x here own (subst (λ y. IsHeld (mark_at old y)) (sym e) w.held)) (to n)
        by (is_next ne e u h) = absurd cc
        by (is_new ne sl u h) =
            let below : block_at pages k.root (w.path ++ sl.slot ∷ []) ≡ Some x =
            child_at pages k.root w.path b sl.slot page x lies_b holds (slot_is page sl.slot x sl.reference sl.at (new_names f sl.reference x sl.names)) in
            at_b (snoc_is p w.path s sl.slot (line.one m k.root (p ++ s ∷ []) (w.path ++ sl.slot ∷ []) x k.at lies below)).0
        by (is_shared ne sl h) = absurd (own.new (w.before sl.slot sl.reference x sl.at sl.names))
        by (is_same ne h) = kept_on n (k.named p n s x here own (held_by (mark_at new x) (mark_at old x) (sym h) held)) (to n)

    not_before : (n : ℕ) → mark_at old n ≡ Unseen → IsPageBefore pages roots m n → ⊥
    not_before n u h = elim (k.before n h) [
      | inl g ↦ absurd (let q : Unseen ≡ Found = sym u ∙ g in cc)
      | inr g ↦ subst IsHeld u g
    ]

    longer : (p : List ℕ) (s : ℕ) → length p ≡ level → length (p ++ s ∷ []) ≡ suc level
    longer p s e = length-append p (s ∷ []) ∙ omega (arith, e)

    says : (n : ℕ) → TurnedTo b Kept f (suc level) page.refs None (mark_at old n) n (mark_at new n) → SaysHeld pages roots m n (mark_at new n)
    says n (is_read e h) = subst (SaysHeld pages roots m n) (sym h) (k.root, k.at, (w.path, lies_b ∙ ap Some (sym e)))
    says n (is_next ne e u h) = absurd cc
    says n (is_new ne sl u h) =
        subst (SaysHeld pages roots m n) (sym h)
        (record {
          path = w.path ++ sl.slot ∷ [];
          own = record {
            root = k.root;
            at = k.at;
            lies = child_at pages k.root w.path b sl.slot page n lies_b holds (slot_is page sl.slot n sl.reference sl.at (new_names f sl.reference n sl.names));
            new = not_before n u;
          };
          level = longer w.path sl.slot w.level_is;
        })
    says n (is_shared ne sl h) =
        let b4 : IsPageBefore pages roots m n = w.before sl.slot sl.reference n sl.at sl.names in
        elim (k.before n b4) [
          | inl g ↦ subst (SaysHeld pages roots m n) (sym (h ∙ ap (as_shared (suc level)) g))
              (record {
                path = w.path ++ sl.slot ∷ [];
                root = k.root;
                at = k.at;
                lies = child_at pages k.root w.path b sl.slot page n lies_b holds (slot_is page sl.slot n sl.reference sl.at (shared_names f sl.reference n sl.names));
                before = b4;
                level = longer w.path sl.slot w.level_is;
              })
          | inr g ↦ subst (SaysHeld pages roots m n) (sym (h ∙ shared_held (suc level) (mark_at old n) g)) (k.says n)
        ]
    says n (is_same ne h) = subst (SaysHeld pages roots m n) (sym h) (k.says n)

-- ---- the version was read whole

not_open : (m : Mark) → is_open m ≡ false → IsHeld m → m ≡ Kept
not_open Unseen o h = absurd h
not_open Next o h = absurd h
not_open (Wanted level) o h = absurd cc
not_open (Shared level) o h = absurd cc
not_open Found o h = absurd h
not_open Kept o h = refl

pub keeping_done : (pages : Store) (count : ℕ) (roots : List ℕ) → IsLine pages count roots → (m : ℕ) (marks : List Mark) → Keeps pages roots m (mark_at marks)
    → NoneOpen marks → (n : ℕ) → (mark_at marks n ≡ Found) ↔ IsFreed pages roots m n
keeping_done pages count roots line m marks k none n = (λ f. there f, λ h. back h (k.before n h.0))
  where
    all_kept : (p : List ℕ) (x : ℕ) → block_at pages k.root p ≡ Some x → mark_at marks x ≡ Kept
    all_kept = each_page pages k.root (λ p x. mark_at marks x ≡ Kept) k.begun
        (λ p b page s x here kept holds names. not_open (mark_at marks x) (none x) (k.closed p b page s x here kept holds names))

    there : mark_at marks n ≡ Found → IsFreed pages roots m n
    there f =
        freed_told pages count roots line m k.root n k.at (subst (SaysHeld pages roots m n) f (k.says n))
        (λ h. absurd (let g : Found ≡ Kept = sym f ∙ all_kept h.0 n h.1 in cc))

    back : IsFreed pages roots m n → (mark_at marks n ≡ Found) ⊎ IsHeld (mark_at marks n) → mark_at marks n ≡ Found
    back h (inl f) = f
    back h (inr held) =
        let kept : mark_at marks n ≡ Kept = not_open (mark_at marks n) (none n) held in
        let page : (root : ℕ) × (slice_get roots m ≡ Some root) × IsPage pages root n = subst (SaysHeld pages roots m n) kept (k.says n) in
        absurd (h.1 (kept_from pages roots m page.0 n page.1 page.2))

past : (xs : List ℕ) (i x : ℕ) → slice_get xs i ≡ Some x → length xs ≤ i → ⊥
past [] i x e le = cc
past (y ∷ xs) zero x e le = absurd (omega (arith, le))
past (y ∷ xs) (suc i) x e le = past xs i x e (omega (arith, le))

-- where all versions go, all that was found is freed
pub dropping_frees : (pages : Store) (roots : List ℕ) (marks : List Mark) → Ready pages roots (length roots) (mark_at marks)
    → (n : ℕ) → (mark_at marks n ≡ Found) ↔ IsFreed pages roots (length roots) n
dropping_frees pages roots marks ready n = (there, λ h. ready.before n h.0)
  where
    there : mark_at marks n ≡ Found → IsFreed pages roots (length roots) n
    there f = elim (ready.says n) [
      | inl u ↦ absurd (let g : Unseen ≡ Found = sym u ∙ f in cc)
      | inr rest ↦ elim rest [
        | inl b ↦ (b.1, λ h. past roots h.0 h.1 h.3 h.2)
        | inr next ↦ absurd (let g : Next ≡ Found = sym next.0 ∙ f in cc)
      ]
    ]
