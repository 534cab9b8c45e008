-- Reading a version that goes.
use Rattle.std.proofs.Common.{◌≡◌, ◌≢◌, ◌⊎◌, inl, inr, ℕ, suc, ◌<◌, List, [], ◌∷◌, ◌++◌, length, Some, None, refl, sym, ap, subst, ◌∙◌, arith, slice_get, false, true, length-append}
use Rattle.std.proofs.lemmas.Bool.{cases_eq}
use Rattle.page_codec.specs.Values.{ReferenceValue, PageValue}
use Rattle.page_places.specs.Places.{Store, block_at, slot_block}
use Rattle.prune_sweep.specs.declared.mark.Mark.{Mark}
use Rattle.prune_sweep.specs.declared.mark.Mark.TheVariants.{Unseen, Next, Wanted, Shared, Found, Kept}
use Rattle.prune_sweep.specs.Marks.{mark_at, is_open}
use Rattle.prune_sweep.specs.Slots.{new_block, shared_block}
use Rattle.prune_sweep.specs.Reading.{Turned}
use Rattle.prune_sweep.specs.Searching.{NoneOpen}
use Rattle.prune_sweep.specs.Line.{IsPageBefore, IsOwnAt, IsLine}
use Rattle.prune_sweep.specs.Sweeping.{IsGone, IsWantedAt, SaysGone, Ready, Drops}
use Rattle.prune_sweep.proofs.Lines.{before_more, page_before, last_or, prior, one_root, Slot, slot_told, slot_is, child_at, each_page}
use Rattle.prune_sweep.proofs.Turning.{SlotOf, TurnedTo, is_read, is_next, is_new, is_shared, is_same, turned_to, turned_new}
use Rattle.prune_sweep.proofs.Following.{gone_at, gone_shares, gone_slot, new_names, snoc_is, snoc_some}

pub gone_by : (m n : Mark) → n ≡ m → IsGone m → IsGone n
gone_by m n e h = subst IsGone (sym e) h

pub no_slot : {A : Type 0} (i : ℕ) (refs : List ReferenceValue) (n : ℕ) → SlotOf (shared_block (gone_at i)) refs n → A
no_slot i refs n h = absurd (gone_shares i h.reference n h.names)

-- what a slot of a page of the version at place i names: a new place, or a page of the version before
pub data GoneSlot (pages : Store) (roots : List ℕ) (i : ℕ) (page : PageValue) (x : ℕ) : Type 0 where
  gone_new : (s : ℕ) (r : ReferenceValue) → slice_get page.refs s ≡ Some r → new_block (gone_at i) r ≡ Some x → GoneSlot pages roots i page x
  gone_before : IsPageBefore pages roots i x → GoneSlot pages roots i page x

pub gone_slot_told : (pages : Store) (count : ℕ) (roots : List ℕ) → IsLine pages count roots → (i root : ℕ) → slice_get roots i ≡ Some root
    → (p : List ℕ) (n : ℕ) (page : PageValue) (s x : ℕ) → block_at pages root p ≡ Some n → pages n ≡ Some page → slot_block page s ≡ Some x
    → GoneSlot pages roots i page x
gone_slot_told pages count roots line i root at p n page s x here holds names =
    elim (gone_slot i t.reference x t.names) [
      | inl new ↦ gone_new s t.reference t.at new
      | inr plain ↦ shared plain.0 plain.1 plain.2
    ]
  where
    t : Slot page s x
    t = slot_told page s x names

    shared : (j : ℕ) → i ≡ suc j → t.reference.flags.copied ≡ false → GoneSlot pages roots i page x
    shared j is plain =
        let after : slice_get roots (suc j) ≡ Some root = ap (slice_get roots) (sym is) ∙ at in
        let one : (y : ℕ) × (slice_get roots j ≡ Some y) = prior roots j root after in
        let before : block_at pages one.0 (p ++ s ∷ []) ≡ Some x = line.shares j one.0 root p n page s t.reference x one.1 after here holds t.at t.names plain in
        gone_before (j, one.0, omega (arith, is), one.1, (p ++ s ∷ [], before))

-- ---- the page of the version

pub dropping_begins : (pages : Store) (count : ℕ) (roots : List ℕ) → IsLine pages count roots → (i root : ℕ) → slice_get roots i ≡ Some root
    → (page : PageValue) → pages root ≡ Some page → (old new : List Mark) → Ready pages roots i (mark_at old) → mark_at old root ≡ Next
    → Turned root Found (gone_at i) 1 page.refs (slice_get roots (suc i)) old new → Drops pages roots i (mark_at new)
dropping_begins pages count roots line i root at page holds old new ready was t =
    record {
      root = root;
      at = at;
      begun = begun;
      before = found_on;
      closed = λ p n pg s x here found has names. by_page p n pg s x here found has names (cases_eq n root);
      named = λ p n s x here own gone. by_child p n s x here own gone (to x);
      says = λ n. says n (to n);
    }
  where
    to : (n : ℕ) → TurnedTo root Found (gone_at i) 1 page.refs (slice_get roots (suc i)) (mark_at old n) n (mark_at new n)
    to n = turned_to root Found (gone_at i) 1 page.refs (slice_get roots (suc i)) old new t n

    seen : mark_at old root ≢ Unseen
    seen e = absurd (let f : Next ≡ Unseen = sym was ∙ e in cc)

    begun : mark_at new root ≡ Found
    begun = by (to root)
      where
        by : TurnedTo root Found (gone_at i) 1 page.refs (slice_get roots (suc i)) (mark_at old root) root (mark_at new root) → mark_at new root ≡ Found
        by (is_read e h) = h
        by (is_next ne e u h) = absurd (ne refl)
        by (is_new ne s u h) = absurd (ne refl)
        by (is_shared ne s h) = absurd (ne refl)
        by (is_same ne h) = absurd (ne refl)

    found_on : (n : ℕ) → IsPageBefore pages roots i n → mark_at new n ≡ Found
    found_on n b = by (to n)
      where
        f : mark_at old n ≡ Found
        f = ready.before n b

        by : TurnedTo root Found (gone_at i) 1 page.refs (slice_get roots (suc i)) (mark_at old n) n (mark_at new n) → mark_at new n ≡ Found
        by (is_read e h) = h
        by (is_next ne e u h) = absurd (let g : Unseen ≡ Found = sym u ∙ f in cc)
        by (is_new ne s u h) = absurd (let g : Unseen ≡ Found = sym u ∙ f in cc)
        by (is_shared ne s h) = no_slot i page.refs n s
        by (is_same ne h) = h ∙ f

    below : (p : List ℕ) (n : ℕ) (pg : PageValue) (s x : ℕ) → IsPageBefore pages roots i n → pages n ≡ Some pg → slot_block pg s ≡ Some x → IsPageBefore pages roots i x
    below p n pg s x h has names = (h.0, h.1, h.2, h.3, (h.4.0 ++ s ∷ [], child_at pages h.1 h.4.0 n s pg x h.4.1 has names))

    slot_gone : (pg : PageValue) (x : ℕ) → pg ≡ page → GoneSlot pages roots i pg x → IsGone (mark_at new x)
    slot_gone pg x e (gone_new s r has new_too) =
        gone_by (Wanted 1) (mark_at new x)
        (turned_new root Found (gone_at i) 1 page.refs (slice_get roots (suc i)) old new t seen s r x (ap (λ (y : PageValue). slice_get y.refs s) (sym e) ∙ has) new_too) tt
    slot_gone pg x e (gone_before b) = gone_by Found (mark_at new x) (found_on x b) tt

    by_page : (p : List ℕ) (n : ℕ) (pg : PageValue) (s x : ℕ) → block_at pages root p ≡ Some n → mark_at new n ≡ Found → pages n ≡ Some pg → slot_block pg s ≡ Some x
        → (n ≡ root) ⊎ (n ≢ root) → IsGone (mark_at new x)
    by_page p n pg s x here found has names (inl e) =
        let same : pg ≡ page = let f : Some pg ≡ Some page = sym has ∙ ap pages e ∙ holds in cc in
        slot_gone pg x same (gone_slot_told pages count roots line i root at p n pg s x here has names)
    by_page p n pg s x here found has names (inr off) = by (to n)
      where
        earlier : mark_at old n ≡ Found → IsGone (mark_at new x)
        earlier f = elim (ready.says n) [
          | inl u ↦ absurd (let g : Unseen ≡ Found = sym u ∙ f in cc)
          | inr rest ↦ elim rest [
            | inl b ↦ gone_by Found (mark_at new x) (found_on x (below p n pg s x b.1 has names)) tt
            | inr next ↦ absurd (let g : Next ≡ Found = sym next.0 ∙ f in cc)
          ]
        ]

        by : TurnedTo root Found (gone_at i) 1 page.refs (slice_get roots (suc i)) (mark_at old n) n (mark_at new n) → IsGone (mark_at new x)
        by (is_read e h) = absurd (off e)
        by (is_next ne e u h) = absurd (let g : Next ≡ Found = sym h ∙ found in cc)
        by (is_new ne sl u h) = absurd (let g : Wanted 1 ≡ Found = sym h ∙ found in cc)
        by (is_shared ne sl h) = no_slot i page.refs n sl
        by (is_same ne h) = earlier (sym h ∙ found)

    by_child : (p : List ℕ) (n s x : ℕ) → block_at pages root p ≡ Some n → IsOwnAt pages roots i (p ++ s ∷ []) x → IsGone (mark_at new x)
        → TurnedTo root Found (gone_at i) 1 page.refs (slice_get roots (suc i)) (mark_at old x) x (mark_at new x) → mark_at new n ≡ Found
    by_child p n s x here own gone = by
      where
        lies : block_at pages root (p ++ s ∷ []) ≡ Some x
        lies = ap (λ r. block_at pages r (p ++ s ∷ [])) (one_root roots i root own.root at own.at) ∙ own.lies

        at_top : p ≡ [] → mark_at new n ≡ Found
        at_top e = let same : root ≡ n = let f : Some root ≡ Some n = ap (block_at pages root) (sym e) ∙ here in cc in ap (mark_at new) (sym same) ∙ begun

        by : TurnedTo root Found (gone_at i) 1 page.refs (slice_get roots (suc i)) (mark_at old x) x (mark_at new x) → mark_at new n ≡ Found
        by (is_read e h) = absurd (snoc_some p s (line.one i root (p ++ s ∷ []) [] x at lies (ap Some (sym e))))
        by (is_next ne e u h) = absurd (subst IsGone h gone)
        by (is_new ne sl u h) =
            let child : block_at pages root (sl.slot ∷ []) ≡ Some x =
            child_at pages root [] root sl.slot page x refl holds (slot_is page sl.slot x sl.reference sl.at (new_names (gone_at i) sl.reference x sl.names)) in
            at_top (snoc_is p [] s sl.slot (line.one i root (p ++ s ∷ []) (sl.slot ∷ []) x at lies child)).0
        by (is_shared ne sl h) = no_slot i page.refs x sl
        by (is_same ne h) = elim (ready.says x) [
          | inl u ↦ absurd (subst IsGone (h ∙ u) gone)
          | inr rest ↦ elim rest [ inl b ↦ absurd (own.new b.1) | inr next ↦ absurd (subst IsGone (h ∙ next.0) gone) ]
        ]

    says : (n : ℕ) → TurnedTo root Found (gone_at i) 1 page.refs (slice_get roots (suc i)) (mark_at old n) n (mark_at new n) → SaysGone pages roots i n (mark_at new n)
    says n (is_read e h) =
        subst (SaysGone pages roots i n) (sym h) (subst (IsPageBefore pages roots (suc i)) (sym e) (page_before pages roots i root root at ([], refl)))
    says n (is_next ne e u h) = subst (SaysGone pages roots i n) (sym h) e
    says n (is_new ne sl u h) =
        subst (SaysGone pages roots i n) (sym h)
        (record {
          path = sl.slot ∷ [];
          own = record {
            root = root;
            at = at;
            lies = child_at pages root [] root sl.slot page n refl holds (slot_is page sl.slot n sl.reference sl.at (new_names (gone_at i) sl.reference n sl.names));
            new = λ b. absurd (let g : Unseen ≡ Found = sym u ∙ ready.before n b in cc);
          };
          level = refl;
        })
    says n (is_shared ne sl h) = no_slot i page.refs n sl
    says n (is_same ne h) = elim (ready.says n) [
      | inl u ↦ subst (SaysGone pages roots i n) (sym (h ∙ u)) tt
      | inr rest ↦ elim rest [
        | inl b ↦ subst (SaysGone pages roots i n) (sym (h ∙ b.0)) (before_more pages roots i (suc i) n (omega arith) b.1)
        | inr next ↦ absurd (ne (one_root roots i n root next.1 at))
      ]
    ]

-- ---- a page below `/`

pub dropping_reads : (pages : Store) (count : ℕ) (roots : List ℕ) → IsLine pages count roots → (i b level : ℕ) (page : PageValue) → pages b ≡ Some page
    → (old new : List Mark) → Drops pages roots i (mark_at old) → mark_at old b ≡ Wanted level
    → Turned b Found (gone_at i) (suc level) page.refs None old new → Drops pages roots i (mark_at new)
dropping_reads pages count roots line i b level page holds old new d was t =
    record {
      root = d.root;
      at = d.at;
      begun = found_on d.root d.begun;
      before = λ n h. found_on n (d.before n h);
      closed = λ p n pg s x here found has names. by_page p n pg s x here found has names (cases_eq n b);
      named = λ p n s x here own gone. by_child p n s x here own gone (to x);
      says = λ n. says n (to n);
    }
  where
    to : (n : ℕ) → TurnedTo b Found (gone_at i) (suc level) page.refs None (mark_at old n) n (mark_at new n)
    to n = turned_to b Found (gone_at i) (suc level) page.refs None old new t n

    seen : mark_at old b ≢ Unseen
    seen e = absurd (let f : Wanted level ≡ Unseen = sym was ∙ e in cc)

    -- where the page lies
    w : IsWantedAt pages roots i b level
    w = subst (SaysGone pages roots i b) was (d.says b)

    lies_b : block_at pages d.root w.path ≡ Some b
    lies_b = ap (λ r. block_at pages r w.path) (one_root roots i d.root w.own.root d.at w.own.at) ∙ w.own.lies

    found_on : (n : ℕ) → mark_at old n ≡ Found → mark_at new n ≡ Found
    found_on n f = by (to n)
      where
        by : TurnedTo b Found (gone_at i) (suc level) page.refs None (mark_at old n) n (mark_at new n) → mark_at new n ≡ Found
        by (is_read e h) = h
        by (is_next ne e u h) = absurd cc
        by (is_new ne s u h) = absurd (let g : Unseen ≡ Found = sym u ∙ f in cc)
        by (is_shared ne s h) = no_slot i page.refs n s
        by (is_same ne h) = h ∙ f

    read_b : mark_at new b ≡ Found
    read_b = by (to b)
      where
        by : TurnedTo b Found (gone_at i) (suc level) page.refs None (mark_at old b) b (mark_at new b) → mark_at new b ≡ Found
        by (is_read e h) = h
        by (is_next ne e u h) = absurd (ne refl)
        by (is_new ne s u h) = absurd (ne refl)
        by (is_shared ne s h) = absurd (ne refl)
        by (is_same ne h) = absurd (ne refl)

    gone_on : (n : ℕ) → IsGone (mark_at old n) → IsGone (mark_at new n)
    gone_on n g = by (to n)
      where
        by : TurnedTo b Found (gone_at i) (suc level) page.refs None (mark_at old n) n (mark_at new n) → IsGone (mark_at new n)
        by (is_read e h) = gone_by Found (mark_at new n) h tt
        by (is_next ne e u h) = absurd cc
        by (is_new ne s u h) = gone_by (Wanted (suc level)) (mark_at new n) h tt
        by (is_shared ne s h) = no_slot i page.refs n s
        by (is_same ne h) = gone_by (mark_at old n) (mark_at new n) h g

    slot_gone : (pg : PageValue) (x : ℕ) → pg ≡ page → GoneSlot pages roots i pg x → IsGone (mark_at new x)
    slot_gone pg x e (gone_new s r has new_too) =
        gone_by (Wanted (suc level)) (mark_at new x)
        (turned_new b Found (gone_at i) (suc level) page.refs None old new t seen s r x (ap (λ (y : PageValue). slice_get y.refs s) (sym e) ∙ has) new_too) tt
    slot_gone pg x e (gone_before h) = gone_by Found (mark_at new x) (found_on x (d.before x h)) tt

    by_page : (p : List ℕ) (n : ℕ) (pg : PageValue) (s x : ℕ) → block_at pages d.root p ≡ Some n → mark_at new n ≡ Found → pages n ≡ Some pg → slot_block pg s ≡ Some x
        → (n ≡ b) ⊎ (n ≢ b) → IsGone (mark_at new x)
    by_page p n pg s x here found has names (inl e) =
        let same : pg ≡ page = let f : Some pg ≡ Some page = sym has ∙ ap pages e ∙ holds in cc in
        slot_gone pg x same (gone_slot_told pages count roots line i d.root d.at p n pg s x here has names)
    by_page p n pg s x here found has names (inr off) = by (to n)
      where
        by : TurnedTo b Found (gone_at i) (suc level) page.refs None (mark_at old n) n (mark_at new n) → IsGone (mark_at new x)
        by (is_read e h) = absurd (off e)
        by (is_next ne e u h) = absurd cc
        by (is_new ne sl u h) = absurd (let g : Wanted (suc level) ≡ Found = sym h ∙ found in cc)
        by (is_shared ne sl h) = no_slot i page.refs n sl
        by (is_same ne h) = gone_on x (d.closed p n pg s x here (sym h ∙ found) has names)

    by_child : (p : List ℕ) (n s x : ℕ) → block_at pages d.root p ≡ Some n → IsOwnAt pages roots i (p ++ s ∷ []) x → IsGone (mark_at new x)
        → TurnedTo b Found (gone_at i) (suc level) page.refs None (mark_at old x) x (mark_at new x) → mark_at new n ≡ Found
    by_child p n s x here own gone = by
      where
        lies : block_at pages d.root (p ++ s ∷ []) ≡ Some x
        lies = ap (λ r. block_at pages r (p ++ s ∷ [])) (one_root roots i d.root own.root d.at own.at) ∙ own.lies

        at_b : p ≡ w.path → mark_at new n ≡ Found
        at_b e = let same : n ≡ b = let f : Some n ≡ Some b = sym here ∙ ap (block_at pages d.root) e ∙ lies_b in cc in ap (mark_at new) same ∙ read_b

        by : TurnedTo b Found (gone_at i) (suc level) page.refs None (mark_at old x) x (mark_at new x) → mark_at new n ≡ Found
        by (is_read e h) = found_on n (d.named p n s x here own (gone_by (Wanted level) (mark_at old x) (ap (mark_at old) e ∙ was) tt))
        by (is_next ne e u h) = absurd cc
        by (is_new ne sl u h) =
            let below : block_at pages d.root (w.path ++ sl.slot ∷ []) ≡ Some x =
            child_at pages d.root w.path b sl.slot page x lies_b holds (slot_is page sl.slot x sl.reference sl.at (new_names (gone_at i) sl.reference x sl.names)) in
            at_b (snoc_is p w.path s sl.slot (line.one i d.root (p ++ s ∷ []) (w.path ++ sl.slot ∷ []) x d.at lies below)).0
        by (is_shared ne sl h) = no_slot i page.refs x sl
        by (is_same ne h) = found_on n (d.named p n s x here own (gone_by (mark_at new x) (mark_at old x) (sym h) gone))

    longer : (p : List ℕ) (s : ℕ) → length p ≡ level → length (p ++ s ∷ []) ≡ suc level
    longer p s e = length-append p (s ∷ []) ∙ omega (arith, e)

    says : (n : ℕ) → TurnedTo b Found (gone_at i) (suc level) page.refs None (mark_at old n) n (mark_at new n) → SaysGone pages roots i n (mark_at new n)
    says n (is_read e h) =
        subst (SaysGone pages roots i n) (sym h) (subst (IsPageBefore pages roots (suc i)) (sym e) (page_before pages roots i d.root b d.at (w.path, lies_b)))
    says n (is_next ne e u h) = absurd cc
    says n (is_new ne sl u h) =
        subst (SaysGone pages roots i n) (sym h)
        (record {
          path = w.path ++ sl.slot ∷ [];
          own = record {
            root = d.root;
            at = d.at;
            lies = child_at pages d.root w.path b sl.slot page n lies_b holds (slot_is page sl.slot n sl.reference sl.at (new_names (gone_at i) sl.reference n sl.names));
            new = λ h. absurd (let g : Unseen ≡ Found = sym u ∙ d.before n h in cc);
          };
          level = longer w.path sl.slot w.level;
        })
    says n (is_shared ne sl h) = no_slot i page.refs n sl
    says n (is_same ne h) = subst (SaysGone pages roots i n) (sym h) (d.says n)

-- ---- the version was read whole

pub not_open : (m : Mark) → is_open m ≡ false → IsGone m → m ≡ Found
not_open Unseen o h = absurd h
not_open Next o h = absurd h
not_open (Wanted level) o h = absurd cc
not_open (Shared level) o h = absurd h
not_open Found o h = refl
not_open Kept o h = absurd h

pub dropping_done : (pages : Store) (roots : List ℕ) (i : ℕ) (marks : List Mark) → Drops pages roots i (mark_at marks) → NoneOpen marks
    → Ready pages roots (suc i) (mark_at marks)
dropping_done pages roots i marks d none = record { before = λ n h. before n h (last_or h.0 i h.2); says = λ n. says n (mark_at marks n) refl (d.says n) }
  where
    all_found : (p : List ℕ) (n : ℕ) → block_at pages d.root p ≡ Some n → mark_at marks n ≡ Found
    all_found = each_page pages d.root (λ p n. mark_at marks n ≡ Found) d.begun
        (λ p n page s x here found holds names. not_open (mark_at marks x) (none x) (d.closed p n page s x here found holds names))

    before : (n : ℕ) (h : IsPageBefore pages roots (suc i) n) → (h.0 < i) ⊎ (h.0 ≡ i) → mark_at marks n ≡ Found
    before n h (inl low) = d.before n (h.0, h.1, low, h.3, h.4)
    before n h (inr is) =
        let same : h.1 ≡ d.root = one_root roots i h.1 d.root (ap (slice_get roots) (sym is) ∙ h.3) d.at in
        all_found h.4.0 n (ap (λ r. block_at pages r h.4.0) (sym same) ∙ h.4.1)

    says : (n : ℕ) (m : Mark) → mark_at marks n ≡ m → SaysGone pages roots i n (mark_at marks n)
        → (mark_at marks n ≡ Unseen) ⊎ (((mark_at marks n ≡ Found) × IsPageBefore pages roots (suc i) n) ⊎ ((mark_at marks n ≡ Next) × (slice_get roots (suc i) ≡ Some n)))
    says n Unseen e h = inl e
    says n Next e h = inr (inr (e, subst (SaysGone pages roots i n) e h))
    says n (Wanted level) e h = absurd (let f : true ≡ false = sym (ap is_open e) ∙ none n in cc)
    says n (Shared level) e h = absurd (subst (SaysGone pages roots i n) e h)
    says n Found e h = inr (inl (e, subst (SaysGone pages roots i n) e h))
    says n Kept e h = absurd (subst (SaysGone pages roots i n) e h)
