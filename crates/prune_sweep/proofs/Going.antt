-- A sweep goes on with the same file, and refuses no block of it.
use Rattle.std.proofs.Common.{◌≡◌, ◌≢◌, ◌⊎◌, inl, inr, ℕ, zero, suc, ◌<◌, ◌≤◌, Bool, true, false, ◌&&◌, cond, List, [], ◌∷◌, ◌++◌, length, Option, Some, None, Ok, refl, sym, ap, subst, ◌∙◌, arith, slice_get, eq-eqb, eqb-true, true≢false, append-nil}
use Rattle.std.specs.Prelude.{is_some, IfSome, MatchOption}
use Rattle.std.specs.Option.{is_none}
use Rattle.std.proofs.lemmas.Bool.{cases_eq, lt-ltb}
use Rattle.tree_model.proofs.Paths.{told}
use Rattle.page_codec.specs.declared.why.Why.{Why}
use Rattle.page_codec.specs.Values.{ReferenceValue, PageValue, VersionValue}
use Rattle.page_codec.specs.Causes.{page_of, version_of}
use Rattle.page_places.specs.Places.{Store, block_at}
use Rattle.store_model.specs.Laws.{pages_of}
use Rattle.store_model.specs.Changes.{version_in_block}
use Rattle.prune_sweep.specs.declared.mark.Mark.{Mark}
use Rattle.prune_sweep.specs.declared.mark.Mark.TheVariants.{Unseen, Next, Wanted, Shared, Found, Kept}
use Rattle.prune_sweep.specs.declared.slots.Following.{Following}
use Rattle.prune_sweep.specs.declared.slots.Following.TheVariants.{AllShared}
use Rattle.prune_sweep.specs.declared.stage.Stage.{Stage}
use Rattle.prune_sweep.specs.declared.progress.Progress.{Progress}
use Rattle.prune_sweep.specs.Marks.{mark_at, as_shared, is_open}
use Rattle.prune_sweep.specs.Slots.{new_block, new_blocks, are_within, is_within}
use Rattle.prune_sweep.specs.Searching.{IsLeastOpen, IsNext}
use Rattle.prune_sweep.specs.Progress.{begun, following_at, is_reached, next_version, read_mark}
use Rattle.prune_sweep.specs.Causes.{has_seen, page_cause, version_cause, cause_at, cause_of}
use Rattle.prune_sweep.specs.Reading.{Turned, PageRead, VersionRead, ReadAt, Reads}
use Rattle.prune_sweep.specs.Line.{IsPage, IsPageBefore, IsOwnAt, IsHeldAt, IsLine, IsFile}
use Rattle.prune_sweep.specs.Sweeping.{IsGone, IsHeld, IsWantedAt, IsSharedAt, SaysGone, SaysHeld, Ready, Drops, Keeps, stage_at, Phase, starts, goes, stays, IsUnread, Sweeps}
use Rattle.prune_sweep.proofs.Lines.{one_root, before_more, page_before, slot_is, child_at}
use Rattle.prune_sweep.proofs.Turning.{TurnedTo, is_read, is_next, is_new, is_shared, is_same, turned_to}
use Rattle.prune_sweep.proofs.Following.{gone_at, held_at, gone_is, held_is, gone_copied, held_copied, new_names, snoc_is}
use Rattle.prune_sweep.proofs.Dropping.{dropping_begins, dropping_reads, dropping_done}
use Rattle.prune_sweep.proofs.Keeping.{keeping_begins, keeping_reads, to_keep_own, to_keep_shared}
use Rattle.prune_sweep.proofs.Blocks.{IsVersionRead, page_read, version_read, version_is}
use Rattle.prune_sweep.proofs.Telling.{all_within, none_seen, page_told, version_told}

abbrev pub Content : Type 0
Content = ℕ → Option (List ℕ)

-- a page of one of the versions, as it was read
pub record PageHere (content : Content) (count : ℕ) (bytes : List ℕ) (p : List ℕ) (n : ℕ) : Type 0 where
  pub page : PageValue
  pub holds : pages_of content n ≡ Some page
  pub below : n < count
  pub level : page.level ≡ length p

here_of : (content : Content) (count : ℕ) (roots : List ℕ) (bytes : List ℕ) → IsLine (pages_of content) count roots → (i root : ℕ) (p : List ℕ) (n : ℕ)
    → slice_get roots i ≡ Some root → block_at (pages_of content) root p ≡ Some n → PageHere content count bytes p n
here_of content count roots bytes line i root p n at lies =
    let h : IsHeldAt (pages_of content) count p n = line.held i root p n at lies in
    record { page = h.page; holds = h.holds; below = h.below; level = h.level }

-- what a page of a version names lies in the store
child_within : (pages : Store) (count : ℕ) (roots : List ℕ) → IsLine pages count roots → (i root : ℕ) → slice_get roots i ≡ Some root
    → (p : List ℕ) (n : ℕ) (page : PageValue) → block_at pages root p ≡ Some n → pages n ≡ Some page → (f : Following) → are_within f count page.refs ≡ true
child_within pages count roots line i root at p n page lies holds f =
    all_within f count page.refs
    (λ s r x has names.
    (line.held i root (p ++ s ∷ []) x at (child_at pages root p n s page x lies holds (slot_is page s x r has names))).below)

-- two slots of a page name two blocks
slots_apart : (pages : Store) (count : ℕ) (roots : List ℕ) → IsLine pages count roots → (i root : ℕ) → slice_get roots i ≡ Some root
    → (p : List ℕ) (n : ℕ) (page : PageValue) → block_at pages root p ≡ Some n → pages n ≡ Some page
    → (s t : ℕ) (r q : ReferenceValue) (x : ℕ) → slice_get page.refs s ≡ Some r → r.block ≡ Some x → slice_get page.refs t ≡ Some q → q.block ≡ Some x → s ≡ t
slots_apart pages count roots line i root at p n page lies holds s t r q x has names has_too names_too =
    (snoc_is p p s t
    (line.one i root (p ++ s ∷ []) (p ++ t ∷ []) x at
    (child_at pages root p n s page x lies holds (slot_is page s x r has names))
    (child_at pages root p n t page x lies holds (slot_is page t x q has_too names_too)))).1

-- a new place of a new page is new
new_is_own : (pages : Store) (count : ℕ) (roots : List ℕ) → IsLine pages count roots → (i : ℕ) (p : List ℕ) (n : ℕ) (page : PageValue) → IsOwnAt pages roots i p n
    → pages n ≡ Some page → (s : ℕ) (r : ReferenceValue) (x : ℕ) → slice_get page.refs s ≡ Some r → r.block ≡ Some x → (i ≡ 0) ⊎ (r.flags.copied ≡ true)
    → IsOwnAt pages roots i (p ++ s ∷ []) x
new_is_own pages count roots line i p n page own holds s r x has names copied =
    record {
      root = own.root;
      at = own.at;
      lies = child_at pages own.root p n s page x own.lies holds (slot_is page s x r has names);
      new = elim copied [
        | inl zero_is ↦ λ h. let low : h.0 < i = h.2 in let f : h.0 < 0 = omega (arith, low, zero_is) in absurd (omega (arith, f))
        | inr c ↦ line.copies i p n page s r x own holds has names c
      ];
    }

-- ---- what is not yet named

gone_unseen : (pages : Store) (roots : List ℕ) (i : ℕ) (marks : List Mark) → Drops pages roots i (mark_at marks)
    → (p : List ℕ) (n s x : ℕ) → IsOwnAt pages roots i p n → mark_at marks n ≢ Found → IsOwnAt pages roots i (p ++ s ∷ []) x
    → ((root next : ℕ) → slice_get roots (suc i) ≡ Some next → x ≢ next) → (m : Mark) → mark_at marks x ≡ m → m ≡ Unseen
gone_unseen pages roots i marks d p n s x own not_read below apart m e = by m e (d.says x)
  where
    lies : block_at pages d.root p ≡ Some n
    lies = ap (λ r. block_at pages r p) (one_root roots i d.root own.root d.at own.at) ∙ own.lies

    named : IsGone (mark_at marks x) → ⊥
    named g = not_read (d.named p n s x lies below g)

    by : (m : Mark) → mark_at marks x ≡ m → SaysGone pages roots i x (mark_at marks x) → m ≡ Unseen
    by Unseen e h = refl
    by Next e h = absurd (apart d.root x (subst (SaysGone pages roots i x) e h) refl)
    by (Wanted level) e h = absurd (named (subst IsGone (sym e) tt))
    by (Shared level) e h = absurd (subst (SaysGone pages roots i x) e h)
    by Found e h = absurd (named (subst IsGone (sym e) tt))
    by Kept e h = absurd (subst (SaysGone pages roots i x) e h)

held_unseen : (pages : Store) (roots : List ℕ) (m : ℕ) (marks : List Mark) → Keeps pages roots m (mark_at marks)
    → (p : List ℕ) (n s x : ℕ) → IsOwnAt pages roots m p n → mark_at marks n ≢ Kept → IsOwnAt pages roots m (p ++ s ∷ []) x
    → (mark : Mark) → mark_at marks x ≡ mark → mark ≡ Unseen
held_unseen pages roots m marks k p n s x own not_read below mark e = by mark e (k.says x)
  where
    lies : block_at pages k.root p ≡ Some n
    lies = ap (λ r. block_at pages r p) (one_root roots m k.root own.root k.at own.at) ∙ own.lies

    named : IsHeld (mark_at marks x) → ⊥
    named g = not_read (k.named p n s x lies below g)

    by : (mark : Mark) → mark_at marks x ≡ mark → SaysHeld pages roots m x (mark_at marks x) → mark ≡ Unseen
    by Unseen e h = refl
    by Next e h = absurd (subst (SaysHeld pages roots m x) e h)
    by (Wanted level) e h = absurd (named (subst IsHeld (sym e) tt))
    by (Shared level) e h = absurd (named (subst IsHeld (sym e) tt))
    by Found e h = absurd (below.new (subst (SaysHeld pages roots m x) e h))
    by Kept e h = absurd (named (subst IsHeld (sym e) tt))

-- a page of a version is not the page of the next one
not_next : (pages : Store) (count : ℕ) (roots : List ℕ) → IsLine pages count roots → (i root n : ℕ) → slice_get roots i ≡ Some root → IsPage pages root n
    → (next : ℕ) → slice_get roots (suc i) ≡ Some next → n ≢ next
not_next pages count roots line i root n at h next after e =
    line.begins (suc i) next after (subst (IsPageBefore pages roots (suc i)) e (page_before pages roots i root n at h))

-- ---- a page below `/`

-- a page of a version that goes: it is not refused
pub gone_page_told : (content : Content) (roots : List ℕ) (i n level : ℕ) (bytes : List ℕ) (marks : List Mark) → IsLine (pages_of content) (length marks) roots
    → Drops (pages_of content) roots i (mark_at marks) → mark_at marks n ≡ Wanted level → content n ≡ Some bytes
    → (page : PageValue) × (page_of bytes ≡ Ok page) × (pages_of content n ≡ Some page) × (page_cause marks (gone_at i) level (Ok page) ≡ None)
gone_page_told content roots i n level bytes marks line d was holds = (
  page,
  is,
  h.holds,
  page_told marks (gone_at i) level page (h.level ∙ w.level) (child_within pages (length marks) roots line i w.own.root w.own.at w.path n page w.own.lies h.holds (gone_at i))
      (ap (has_seen marks) (sym (append-nil (new_blocks (gone_at i) page.refs)))
      ∙ none_seen marks (gone_at i) None page.refs unseen (slots_apart pages (length marks) roots line i w.own.root w.own.at w.path n page w.own.lies h.holds)
      (λ x e. absurd cc) (λ s r x has new e. absurd cc)),
)
  where
    pages : Store
    pages = pages_of content

    w : IsWantedAt pages roots i n level
    w = subst (SaysGone pages roots i n) was (d.says n)

    h : PageHere content (length marks) bytes w.path n
    h = here_of content (length marks) roots bytes line i w.own.root w.path n w.own.at w.own.lies

    page : PageValue
    page = h.page

    some : (p : List ℕ) → w.path ≡ p → 1 ≤ length p
    some [] e =
        let same : d.root ≡ n =
        let f : Some d.root ≡ Some n = ap Some (one_root roots i d.root w.own.root d.at w.own.at) ∙ ap (block_at pages w.own.root) (sym e) ∙ w.own.lies in cc in
        absurd (let g : Found ≡ Wanted level = sym d.begun ∙ ap (mark_at marks) same ∙ was in cc)
    some (s ∷ p) e = omega arith

    is : page_of bytes ≡ Ok page
    is = let one : 1 ≤ length w.path = some w.path refl in page_read content n bytes page holds h.holds (omega (arith, one, h.level))

    unseen : (s : ℕ) (r : ReferenceValue) (x : ℕ) → slice_get page.refs s ≡ Some r → new_block (gone_at i) r ≡ Some x → mark_at marks x ≡ Unseen
    unseen s r x has new =
        let own : IsOwnAt pages roots i (w.path ++ s ∷ []) x =
        new_is_own pages (length marks) roots line i w.path n page w.own h.holds s r x has (new_names (gone_at i) r x new) (gone_copied i r x new) in
        gone_unseen pages roots i marks d w.path n s x w.own (λ f. absurd (let g : Wanted level ≡ Found = sym was ∙ f in cc)) own
        (λ root next after. not_next pages (length marks) roots line i own.root x own.at (w.path ++ s ∷ [], own.lies) next after) (mark_at marks x) refl

-- a page of the version that stays that was not read is not its page `/`
below_root : (pages : Store) (roots : List ℕ) (m n : ℕ) (marks : List Mark) → Keeps pages roots m (mark_at marks) → (p : List ℕ) (root : ℕ)
    → slice_get roots m ≡ Some root → block_at pages root p ≡ Some n → mark_at marks n ≢ Kept → 1 ≤ length p
below_root pages roots m n marks k [] root at lies not_read =
    let same : k.root ≡ n = let f : Some k.root ≡ Some n = ap Some (one_root roots m k.root root k.at at) ∙ lies in cc in
    absurd (not_read (ap (mark_at marks) (sym same) ∙ k.begun))
below_root pages roots m n marks k (s ∷ p) root at lies not_read = omega arith

-- a page of the version that stays: a new one, and one that the version before has
pub held_page_told : (content : Content) (roots : List ℕ) (m n level : ℕ) (bytes : List ℕ) (marks : List Mark) → IsLine (pages_of content) (length marks) roots
    → Keeps (pages_of content) roots m (mark_at marks) → mark_at marks n ≡ Wanted level → content n ≡ Some bytes
    → (page : PageValue) × (page_of bytes ≡ Ok page) × (pages_of content n ≡ Some page) × (page_cause marks (held_at m) level (Ok page) ≡ None)
held_page_told content roots m n level bytes marks line k was holds = (
  page,
  is,
  h.holds,
  page_told marks (held_at m) level page (h.level ∙ w.level) (child_within pages (length marks) roots line m w.own.root w.own.at w.path n page w.own.lies h.holds (held_at m))
      (ap (has_seen marks) (sym (append-nil (new_blocks (held_at m) page.refs)))
      ∙ none_seen marks (held_at m) None page.refs unseen (slots_apart pages (length marks) roots line m w.own.root w.own.at w.path n page w.own.lies h.holds)
      (λ x e. absurd cc) (λ s r x has new e. absurd cc)),
)
  where
    pages : Store
    pages = pages_of content

    w : IsWantedAt pages roots m n level
    w = subst (SaysHeld pages roots m n) was (k.says n)

    h : PageHere content (length marks) bytes w.path n
    h = here_of content (length marks) roots bytes line m w.own.root w.path n w.own.at w.own.lies

    page : PageValue
    page = h.page

    is : page_of bytes ≡ Ok page
    is =
        let one : 1 ≤ length w.path = below_root pages roots m n marks k w.path w.own.root w.own.at w.own.lies
        (λ f. absurd (let g : Wanted level ≡ Kept = sym was ∙ f in cc)) in
        page_read content n bytes page holds h.holds (omega (arith, one, h.level))

    unseen : (s : ℕ) (r : ReferenceValue) (x : ℕ) → slice_get page.refs s ≡ Some r → new_block (held_at m) r ≡ Some x → mark_at marks x ≡ Unseen
    unseen s r x has new =
        let own : IsOwnAt pages roots m (w.path ++ s ∷ []) x =
        new_is_own pages (length marks) roots line m w.path n page w.own h.holds s r x has (new_names (held_at m) r x new) (held_copied m r x new) in
        held_unseen pages roots m marks k w.path n s x w.own (λ f. absurd (let g : Wanted level ≡ Kept = sym was ∙ f in cc)) own (mark_at marks x) refl

pub shared_page_told : (content : Content) (roots : List ℕ) (m n level : ℕ) (bytes : List ℕ) (marks : List Mark) → IsLine (pages_of content) (length marks) roots
    → Keeps (pages_of content) roots m (mark_at marks) → mark_at marks n ≡ Shared level → content n ≡ Some bytes
    → (page : PageValue) × (page_of bytes ≡ Ok page) × (pages_of content n ≡ Some page) × (page_cause marks AllShared level (Ok page) ≡ None)
shared_page_told content roots m n level bytes marks line k was holds = (
  page,
  is,
  h.holds,
  page_told marks AllShared level page (h.level ∙ w.level) (child_within pages (length marks) roots line m w.root w.at w.path n page w.lies h.holds AllShared)
      (ap (has_seen marks) (sym (append-nil (new_blocks AllShared page.refs)))
      ∙ none_seen marks AllShared None page.refs (λ s r x has new. absurd cc) (slots_apart pages (length marks) roots line m w.root w.at w.path n page w.lies h.holds)
      (λ x e. absurd cc) (λ s r x has new e. absurd cc)),
)
  where
    pages : Store
    pages = pages_of content

    w : IsSharedAt pages roots m n level
    w = subst (SaysHeld pages roots m n) was (k.says n)

    h : PageHere content (length marks) bytes w.path n
    h = here_of content (length marks) roots bytes line m w.root w.path n w.at w.lies

    page : PageValue
    page = h.page

    is : page_of bytes ≡ Ok page
    is =
        let one : 1 ≤ length w.path = below_root pages roots m n marks k w.path w.root w.at w.lies
        (λ f. absurd (let g : Shared level ≡ Kept = sym was ∙ f in cc)) in
        page_read content n bytes page holds h.holds (omega (arith, one, h.level))

-- ---- the page of a version

is_reached-some : (upto : Option ℕ) (serial : ℕ) → upto ≡ Some serial → is_reached upto serial ≡ true
is_reached-some upto serial e = ap (λ o. is_reached o serial) e ∙ eq-eqb serial serial refl

some-is_reached : (upto : Option ℕ) (serial : ℕ) → is_reached upto serial ≡ true → upto ≡ Some serial
some-is_reached None serial e = absurd (true≢false (sym e))
some-is_reached (Some s) serial e = ap Some (eqb-true s serial e)

pub reached_here : (content : Content) (roots : List ℕ) (m : ℕ) (count : ℕ) (upto : Option ℕ) → IsFile content count upto roots m → (i n : ℕ) (version : VersionValue)
    → slice_get roots i ≡ Some n → i ≤ m → version_in_block content n ≡ Some version → ((i ≡ m) × (is_reached upto version.serial ≡ true)) ⊎ ((i < m) × (is_reached upto version.serial ≡ false))
reached_here content roots m count upto file i n version at le holds = elim (cases_eq i m) [
  | inl e ↦ inl (e, is_reached-some upto version.serial ((file.serials i n version at le holds).1 e))
  | inr ne ↦ inr (
    omega arith,
    elim (told (is_reached upto version.serial)) [
      | inl t ↦ absurd (ne ((file.serials i n version at le holds).0 (some-is_reached upto version.serial t)))
      | inr f ↦ f
    ],
  )
]

-- the page of a version: what it names is new, and was not seen
ready_unseen : (pages : Store) (count : ℕ) (roots : List ℕ) → IsLine pages count roots → (i n : ℕ) (marks : List Mark) → Ready pages roots i (mark_at marks) → slice_get roots i ≡ Some n
    → (s x : ℕ) → IsOwnAt pages roots i (s ∷ []) x → mark_at marks x ≡ Unseen
ready_unseen pages count roots line i n marks ready at s x own = elim (ready.says x) [
  | inl u ↦ u
  | inr rest ↦ elim rest [
    | inl b ↦ absurd (own.new b.1)
    | inr next ↦
        let same : own.root ≡ x = one_root roots i own.root x own.at next.1 in
        absurd (let f : s ∷ [] ≡ [] = line.one i own.root (s ∷ []) [] x own.at own.lies (ap Some same) in cc)
  ]
]

-- what stays of a page that was read
unread_back : (block : ℕ) (to : Mark) (f : Following) (level : ℕ) (refs : List ReferenceValue) (next : Option ℕ) (old new : List Mark)
    → Turned block to f level refs next old new → (IsUnread to → ⊥) → (n : ℕ) → IsUnread (mark_at new n) → IsUnread (mark_at old n)
unread_back block to f level refs next old new t not_to n h = by (turned_to block to f level refs next old new t n)
  where
    shared : (m : Mark) → IsUnread (as_shared level m) → IsUnread m
    shared Unseen g = tt
    shared Next g = tt
    shared (Wanted l) g = g
    shared (Shared l) g = g
    shared Found g = g
    shared Kept g = g

    by : TurnedTo block to f level refs next (mark_at old n) n (mark_at new n) → IsUnread (mark_at old n)
    by (is_read e g) = absurd (not_to (subst IsUnread g h))
    by (is_next ne e u g) = subst IsUnread (sym u) tt
    by (is_new ne s u g) = subst IsUnread (sym u) tt
    by (is_shared ne s g) = shared (mark_at old n) (subst IsUnread g h)
    by (is_same ne g) = subst IsUnread g h

-- where the marks changed by one read, and the stage and what is known of versions with them
sweeps_on : (content : Content) (roots : List ℕ) (m : ℕ) (known : Progress) → Sweeps content roots m known
    → (marks : List Mark) (stage : Stage) (after reached : Option ℕ) → length marks ≡ length known.marks
    → ((n : ℕ) → IsUnread (mark_at marks n) → IsUnread (mark_at known.marks n))
    → Phase (pages_of content) roots m (record { marks = marks; upto = known.upto; stage = stage; after = after; reached = reached })
    → Sweeps content roots m (record { marks = marks; upto = known.upto; stage = stage; after = after; reached = reached })
sweeps_on content roots m known s marks stage after reached size unread phase =
    record {
      file = subst (λ count. IsFile content count known.upto roots m) (sym size) s.file;
      linked = λ i root version at low h holds. s.linked i root version at low (unread root h) holds;
      phase = phase;
    }

-- what comes of a block that contents hold
pub record Fed (content : Content) (roots : List ℕ) (m n : ℕ) (bytes : List ℕ) (known : Progress) : Type 0 where
  pub told : cause_of known n bytes ≡ None
  pub on : (new : Progress) → Reads n bytes known new → Sweeps content roots m new

same_page : (bytes : List ℕ) (a b : PageValue) → page_of bytes ≡ Ok a → page_of bytes ≡ Ok b → a ≡ b
same_page bytes a b x y = cc

same_version : (bytes : List ℕ) (a b : VersionValue) → version_of bytes ≡ Ok a → version_of bytes ≡ Ok b → a ≡ b
same_version bytes a b x y = cc

-- ---- pages below `/`

fed_gone : (content : Content) (roots : List ℕ) (m n : ℕ) (bytes : List ℕ) (known : Progress) → Sweeps content roots m known
    → (i : ℕ) → i < m → Drops (pages_of content) roots i (mark_at known.marks) → known.stage ≡ stage_at i → known.after ≡ slice_get roots (suc i) → known.reached ≡ None
    → (level : ℕ) → mark_at known.marks n ≡ Wanted level → content n ≡ Some bytes → Fed content roots m n bytes known
fed_gone content roots m n bytes known s i low d stage after reached level was holds =
    record {
      told =
          ap (λ mark. cause_at known mark bytes) was
          ∙ ap (λ f. page_cause known.marks f level (page_of bytes)) follows
          ∙ ap (page_cause known.marks (gone_at i) level) t.1
          ∙ t.3;
      on = λ new reads. by new (subst (λ mark. ReadAt mark n bytes known new) was reads);
    }
  where
    t : (page : PageValue) × (page_of bytes ≡ Ok page) × (pages_of content n ≡ Some page) × (page_cause known.marks (gone_at i) level (Ok page) ≡ None)
    t = gone_page_told content roots i n level bytes known.marks s.file.line d was holds

    not_reached : is_some known.reached ≡ false
    not_reached = ap is_some reached

    follows : following_at known.stage (is_some known.reached) ≡ gone_at i
    follows = ap (λ b. following_at known.stage b) not_reached ∙ ap (λ k. following_at k false) stage ∙ gone_is i

    by : (new : Progress) → PageRead n level (following_at known.stage (is_some known.reached)) (is_some known.reached) bytes known new → Sweeps content roots m new
    by new r =
        let turned : Turned n Found (gone_at i) (suc level) r.page.refs None known.marks new.marks =
        subst (λ f. Turned n Found f (suc level) r.page.refs None known.marks new.marks) follows
        (subst (λ b. Turned n (read_mark b) (following_at known.stage (is_some known.reached)) (suc level) r.page.refs None known.marks new.marks) not_reached r.marks) in
        let page : pages_of content n ≡ Some r.page = t.2 ∙ ap Some (same_page bytes t.0 r.page t.1 r.is) in
        subst (Sweeps content roots m) (sym r.rest)
        (sweeps_on content roots m known s new.marks known.stage known.after known.reached turned.size
        (unread_back n Found (gone_at i) (suc level) r.page.refs None known.marks new.marks turned (λ h. h))
        (goes i low
        (dropping_reads (pages_of content) (length known.marks) roots s.file.line i n level r.page page known.marks new.marks d was turned)
        stage after reached))

fed_held : (content : Content) (roots : List ℕ) (m n : ℕ) (bytes : List ℕ) (known : Progress) → Sweeps content roots m known
    → Keeps (pages_of content) roots m (mark_at known.marks) → known.stage ≡ stage_at m → known.after ≡ None → known.reached ≡ slice_get roots m
    → (level : ℕ) → mark_at known.marks n ≡ Wanted level → content n ≡ Some bytes → Fed content roots m n bytes known
fed_held content roots m n bytes known s k stage after reached level was holds =
    record {
      told =
          ap (λ mark. cause_at known mark bytes) was
          ∙ ap (λ f. page_cause known.marks f level (page_of bytes)) follows
          ∙ ap (page_cause known.marks (held_at m) level) t.1
          ∙ t.3;
      on = λ new reads. by new (subst (λ mark. ReadAt mark n bytes known new) was reads);
    }
  where
    t : (page : PageValue) × (page_of bytes ≡ Ok page) × (pages_of content n ≡ Some page) × (page_cause known.marks (held_at m) level (Ok page) ≡ None)
    t = held_page_told content roots m n level bytes known.marks s.file.line k was holds

    is_there : is_some known.reached ≡ true
    is_there = ap is_some (reached ∙ k.at)

    follows : following_at known.stage (is_some known.reached) ≡ held_at m
    follows = ap (λ b. following_at known.stage b) is_there ∙ ap (λ x. following_at x true) stage ∙ held_is m

    by : (new : Progress) → PageRead n level (following_at known.stage (is_some known.reached)) (is_some known.reached) bytes known new → Sweeps content roots m new
    by new r =
        let turned : Turned n Kept (held_at m) (suc level) r.page.refs None known.marks new.marks =
        subst (λ f. Turned n Kept f (suc level) r.page.refs None known.marks new.marks) follows
        (subst (λ b. Turned n (read_mark b) (following_at known.stage (is_some known.reached)) (suc level) r.page.refs None known.marks new.marks) is_there r.marks) in
        let page : pages_of content n ≡ Some r.page = t.2 ∙ ap Some (same_page bytes t.0 r.page t.1 r.is) in
        subst (Sweeps content roots m) (sym r.rest)
        (sweeps_on content roots m known s new.marks known.stage known.after known.reached turned.size
        (unread_back n Kept (held_at m) (suc level) r.page.refs None known.marks new.marks turned (λ h. h))
        (stays
        (keeping_reads (pages_of content) (length known.marks) roots s.file.line m n level r.page page (held_at m) known.marks new.marks k
        (to_keep_own (pages_of content) (length known.marks) roots s.file.line m n level r.page page (mark_at known.marks n) was
        (subst (SaysHeld (pages_of content) roots m n) was (k.says n)))
        turned)
        stage after reached))

fed_shared : (content : Content) (roots : List ℕ) (m n : ℕ) (bytes : List ℕ) (known : Progress) → Sweeps content roots m known
    → Keeps (pages_of content) roots m (mark_at known.marks) → known.stage ≡ stage_at m → known.after ≡ None → known.reached ≡ slice_get roots m
    → (level : ℕ) → mark_at known.marks n ≡ Shared level → content n ≡ Some bytes → Fed content roots m n bytes known
fed_shared content roots m n bytes known s k stage after reached level was holds =
    record {
      told = ap (λ mark. cause_at known mark bytes) was ∙ ap (page_cause known.marks AllShared level) t.1 ∙ t.3;
      on = λ new reads. by new (subst (λ mark. ReadAt mark n bytes known new) was reads);
    }
  where
    t : (page : PageValue) × (page_of bytes ≡ Ok page) × (pages_of content n ≡ Some page) × (page_cause known.marks AllShared level (Ok page) ≡ None)
    t = shared_page_told content roots m n level bytes known.marks s.file.line k was holds

    by : (new : Progress) → PageRead n level AllShared true bytes known new → Sweeps content roots m new
    by new r =
        let page : pages_of content n ≡ Some r.page = t.2 ∙ ap Some (same_page bytes t.0 r.page t.1 r.is) in
        subst (Sweeps content roots m) (sym r.rest)
        (sweeps_on content roots m known s new.marks known.stage known.after known.reached r.marks.size
        (unread_back n Kept AllShared (suc level) r.page.refs None known.marks new.marks r.marks (λ h. h))
        (stays
        (keeping_reads (pages_of content) (length known.marks) roots s.file.line m n level r.page page AllShared known.marks new.marks k
        (to_keep_shared (pages_of content) (length known.marks) roots s.file.line m n level r.page page (mark_at known.marks n) was
        (subst (SaysHeld (pages_of content) roots m n) was (k.says n)))
        r.marks)
        stage after reached))

-- ---- version pages

past_end : (xs : List ℕ) (i : ℕ) → i < length xs → is_none (slice_get xs i) ≡ false
past_end [] i low = absurd (omega (arith, low))
past_end (x ∷ xs) zero low = refl
past_end (x ∷ xs) (suc i) low = past_end xs i (omega (arith, low))

-- the next version's page is read, where it is that of the version at place i
fed_version : (content : Content) (roots : List ℕ) (m n : ℕ) (bytes : List ℕ) (known : Progress) → Sweeps content roots m known
    → (i : ℕ) → i ≤ m → slice_get roots i ≡ Some n → Ready (pages_of content) roots i (mark_at known.marks) → begun known.stage ≡ stage_at i
    → mark_at known.marks n ≡ Next → content n ≡ Some bytes → Fed content roots m n bytes known
fed_version content roots m n bytes known s i low at ready stage was holds =
    elim (reached_here content roots m (length known.marks) known.upto s.file i n v.version at low held_version) [
      | inl last ↦ the_last last.0 last.1
      | inr gone ↦ one_that_goes gone.0 gone.1
    ]
  where
    pages : Store
    pages = pages_of content

    count : ℕ
    count = length known.marks

    line : IsLine pages count roots
    line = s.file.line

    h : PageHere content count bytes [] n
    h = here_of content count roots bytes line i n [] n at refl

    v : IsVersionRead bytes h.page
    v = version_read content n bytes h.page holds h.holds h.level

    page_holds : pages n ≡ Some v.version.page
    page_holds = h.holds ∙ ap Some (sym v.page_is)

    held_version : version_in_block content n ≡ Some v.version
    held_version = version_is content n bytes v.version holds v.is

    own : IsOwnAt pages roots i [] n
    own = record { root = n; at = at; lies = refl; new = line.begins i n at }

    within : (f : Following) → are_within f count v.version.page.refs ≡ true
    within f = child_within pages count roots line i n at [] n v.version.page refl page_holds f

    apart : (p q : ℕ) (r t : ReferenceValue) (x : ℕ) → slice_get v.version.page.refs p ≡ Some r → r.block ≡ Some x → slice_get v.version.page.refs q ≡ Some t → t.block ≡ Some x → p ≡ q
    apart = slots_apart pages count roots line i n at [] n v.version.page refl page_holds

    told_at : (mark : Option Why) → cause_of known n bytes ≡ version_cause known.marks known.upto (stage_at i) (version_of bytes)
    told_at mark = ap (λ y. cause_at known y bytes) was ∙ ap (λ y. version_cause known.marks known.upto y (version_of bytes)) stage

    the_last : i ≡ m → is_reached known.upto v.version.serial ≡ true → Fed content roots m n bytes known
    the_last is reached =
        record {
          told =
              told_at None
              ∙ ap (version_cause known.marks known.upto (stage_at i)) v.is
              ∙ version_told known.marks known.upto (stage_at i) v.version true (held_at i) None reached (held_is i)
              (ap (λ b. cond b None v.version.commit) reached) (within (held_at i)) refl
              (none_seen known.marks (held_at i) None v.version.page.refs
              (λ p r x has new.
              ready_unseen pages count roots line i n known.marks ready at p x
              (new_is_own pages count roots line i [] n v.version.page own page_holds p r x has (new_names (held_at i) r x new) (held_copied i r x new)))
              apart (λ x e. absurd cc) (λ p r x has new e. absurd cc))
              (never (is_some known.upto));
          on = λ new reads. by new (subst (λ mark. ReadAt mark n bytes known new) was reads);
        }
      where
        never : (b : Bool) → (b && false) ≡ false
        never true = refl
        never false = refl

        by : (new : Progress) → VersionRead n bytes known new → Sweeps content roots m new
        by new r =
            let same : v.version ≡ r.version = same_version bytes v.version r.version v.is r.is in
            let there : is_reached known.upto r.version.serial ≡ true = ap (λ (y : VersionValue). is_reached known.upto y.serial) (sym same) ∙ reached in
            let follows : following_at (begun known.stage) (is_reached known.upto r.version.serial) ≡ held_at m =
            ap (following_at (begun known.stage)) there ∙ ap (λ y. following_at y true) stage ∙ held_is i ∙ ap held_at is in
            let next : next_version known.upto r.version ≡ None = ap (λ b. cond b None r.version.commit) there in
            let one : Turned n Kept (following_at (begun known.stage) (is_reached known.upto r.version.serial)) 1 r.version.page.refs (next_version known.upto r.version) known.marks new.marks =
            subst
            (λ b. Turned n (read_mark b) (following_at (begun known.stage) (is_reached known.upto r.version.serial)) 1 r.version.page.refs (next_version known.upto r.version) known.marks new.marks)
            there r.taken.marks in
            let two : Turned n Kept (held_at m) 1 r.version.page.refs (next_version known.upto r.version) known.marks new.marks =
            subst (λ f. Turned n Kept f 1 r.version.page.refs (next_version known.upto r.version) known.marks new.marks) follows one in
            let turned : Turned n Kept (held_at m) 1 r.version.page.refs None known.marks new.marks =
            subst (λ o. Turned n Kept (held_at m) 1 r.version.page.refs o known.marks new.marks) next two in
            let here : slice_get roots m ≡ Some n = ap (slice_get roots) (sym is) ∙ at in
            subst (Sweeps content roots m) (sym r.taken.rest)
            (sweeps_on content roots m known s new.marks (begun known.stage) (next_version known.upto r.version) (cond (is_reached known.upto r.version.serial) (Some n) None) turned.size
            (unread_back n Kept (held_at m) 1 r.version.page.refs None known.marks new.marks turned (λ h. h))
            (stays
            (keeping_begins pages count roots line m n here r.version.page (page_holds ∙ ap (λ (y : VersionValue). Some y.page) same) known.marks new.marks
            (subst (λ j. Ready pages roots j (mark_at known.marks)) is ready) was turned)
            (stage ∙ ap stage_at is) next (ap (λ b. cond b (Some n) None) there ∙ sym here)))

    one_that_goes : i < m → is_reached known.upto v.version.serial ≡ false → Fed content roots m n bytes known
    one_that_goes less not_reached =
        record {
          told =
              told_at None
              ∙ ap (version_cause known.marks known.upto (stage_at i)) v.is
              ∙ version_told known.marks known.upto (stage_at i) v.version false (gone_at i) after not_reached (gone_is i) next_is (within (gone_at i)) (next_within after refl)
              (none_seen known.marks (gone_at i) after v.version.page.refs
              (λ p r x has new.
              ready_unseen pages count roots line i n known.marks ready at p x
              (new_is_own pages count roots line i [] n v.version.page own page_holds p r x has (new_names (gone_at i) r x new) (gone_copied i r x new)))
              apart next_unseen
              (λ p r x has new e.
              not_next pages count roots line i n x at
              (p ∷ [], child_at pages n [] n p v.version.page x refl page_holds (slot_is v.version.page p x r has (new_names (gone_at i) r x new))) x e refl))
              (serial known.upto refl);
          on = λ new reads. by new (subst (λ mark. ReadAt mark n bytes known new) was reads);
        }
      where
        after : Option ℕ
        after = slice_get roots (suc i)

        names : v.version.commit ≡ after
        names = s.linked i n v.version at less (subst IsUnread (sym was) tt) held_version

        next_is : next_version known.upto v.version ≡ after
        next_is = ap (λ b. cond b None v.version.commit) not_reached ∙ names

        next_within : (o : Option ℕ) → slice_get roots (suc i) ≡ o → is_within count o ≡ true
        next_within None e = refl
        next_within (Some x) e = lt-ltb x count (line.held (suc i) x [] x e refl).below

        next_unseen : (x : ℕ) → slice_get roots (suc i) ≡ Some x → mark_at known.marks x ≡ Unseen
        next_unseen x e = elim (ready.says x) [
          | inl u ↦ u
          | inr rest ↦ elim rest [
            | inl b ↦ absurd (line.begins (suc i) x e (before_more pages roots i (suc i) x (omega arith) b.1))
            | inr here ↦ absurd (line.begins (suc i) x e (page_before pages roots i x x here.1 ([], refl)))
          ]
        ]

        serial : (o : Option ℕ) → known.upto ≡ o → (is_some o && (true && is_none v.version.commit)) ≡ false
        serial None e = refl
        serial (Some y) e =
            let place : m < length roots = subst (λ u. MatchOption u (m ≡ length roots) (λ _. m < length roots)) e s.file.place in
            ap is_none names ∙ past_end roots (suc i) (omega (arith, less, place))

        by : (new : Progress) → VersionRead n bytes known new → Sweeps content roots m new
        by new r =
            let same : v.version ≡ r.version = same_version bytes v.version r.version v.is r.is in
            let there : is_reached known.upto r.version.serial ≡ false = ap (λ (y : VersionValue). is_reached known.upto y.serial) (sym same) ∙ not_reached in
            let follows : following_at (begun known.stage) (is_reached known.upto r.version.serial) ≡ gone_at i =
            ap (following_at (begun known.stage)) there ∙ ap (λ y. following_at y false) stage ∙ gone_is i in
            let next : next_version known.upto r.version ≡ after = ap (next_version known.upto) (sym same) ∙ next_is in
            let one : Turned n Found (following_at (begun known.stage) (is_reached known.upto r.version.serial)) 1 r.version.page.refs (next_version known.upto r.version) known.marks new.marks =
            subst
            (λ b. Turned n (read_mark b) (following_at (begun known.stage) (is_reached known.upto r.version.serial)) 1 r.version.page.refs (next_version known.upto r.version) known.marks new.marks)
            there r.taken.marks in
            let two : Turned n Found (gone_at i) 1 r.version.page.refs (next_version known.upto r.version) known.marks new.marks =
            subst (λ f. Turned n Found f 1 r.version.page.refs (next_version known.upto r.version) known.marks new.marks) follows one in
            let turned : Turned n Found (gone_at i) 1 r.version.page.refs after known.marks new.marks =
            subst (λ o. Turned n Found (gone_at i) 1 r.version.page.refs o known.marks new.marks) next two in
            subst (Sweeps content roots m) (sym r.taken.rest)
            (sweeps_on content roots m known s new.marks (begun known.stage) (next_version known.upto r.version) (cond (is_reached known.upto r.version.serial) (Some n) None) turned.size
            (unread_back n Found (gone_at i) 1 r.version.page.refs after known.marks new.marks turned (λ h. h))
            (goes i less
            (dropping_begins pages count roots line i n at r.version.page (page_holds ∙ ap (λ (y : VersionValue). Some y.page) same) known.marks new.marks ready was turned)
            stage next (ap (λ b. cond b (Some n) None) there)))

-- ---- any block that is needed

pub fed : (content : Content) (roots : List ℕ) (m n : ℕ) (bytes : List ℕ) (known : Progress) → Sweeps content roots m known
    → IfSome known.after (λ x. mark_at known.marks x ≡ Next) → IsNext known.marks known.after (Some n) → content n ≡ Some bytes → Fed content roots m n bytes known
fed content roots m n bytes known s marked next holds = by_phase s.phase
  where
    next_mark : (o : Option ℕ) → known.after ≡ o → o ≡ Some n → mark_at known.marks n ≡ Next
    next_mark None e is = absurd cc
    next_mark (Some x) e is =
        let same : x ≡ n = cc in
        let h : mark_at known.marks x ≡ Next = subst (λ o. IfSome o (λ y. mark_at known.marks y ≡ Next)) e marked in
        ap (mark_at known.marks) (sym same) ∙ h

    opened : {A : Type 0} (mark : Mark) → mark_at known.marks n ≡ mark → is_open mark ≡ false → IsLeastOpen known.marks n → A
    opened mark e not_open h = absurd (true≢false (sym h.here ∙ ap is_open e ∙ not_open))

    by_phase : Phase (pages_of content) roots m known → Fed content roots m n bytes known
    by_phase (starts ready stage after reached) = elim next [
      | inl opening ↦ absurd (elim (ready.says n) [
        | inl u ↦ opened Unseen u refl opening
        | inr rest ↦ elim rest [ inl b ↦ opened Found b.0 refl opening | inr x ↦ opened Next x.0 refl opening ]
      ])
      | inr version ↦ fed_version content roots m n bytes known s 0 (omega arith) (sym after ∙ version.1) ready (ap begun stage) (next_mark known.after refl version.1) holds
    ]
    by_phase (goes i low d stage after reached) = elim next [
      | inl opening ↦ by_mark (mark_at known.marks n) refl (d.says n) opening
      | inr version ↦
          fed_version content roots m n bytes known s (suc i) (omega (arith, low)) (sym after ∙ version.1)
          (dropping_done (pages_of content) roots i known.marks d version.0) (ap begun stage ∙ later i) (next_mark known.after refl version.1) holds
    ]
      where
        later : (j : ℕ) → begun (stage_at j) ≡ stage_at (suc j)
        later zero = refl
        later (suc j) = refl

        by_mark : (mark : Mark) → mark_at known.marks n ≡ mark → SaysGone (pages_of content) roots i n (mark_at known.marks n) → IsLeastOpen known.marks n
            → Fed content roots m n bytes known
        by_mark Unseen e h opening = opened Unseen e refl opening
        by_mark Next e h opening = opened Next e refl opening
        by_mark (Wanted level) e h opening = fed_gone content roots m n bytes known s i low d stage after reached level e holds
        by_mark (Shared level) e h opening = absurd (subst (SaysGone (pages_of content) roots i n) e h)
        by_mark Found e h opening = opened Found e refl opening
        by_mark Kept e h opening = opened Kept e refl opening
    by_phase (stays k stage after reached) = elim next [
      | inl opening ↦ by_mark (mark_at known.marks n) refl opening
      | inr version ↦ absurd (let f : None ≡ Some n = sym after ∙ version.1 in cc)
    ]
      where
        by_mark : (mark : Mark) → mark_at known.marks n ≡ mark → IsLeastOpen known.marks n → Fed content roots m n bytes known
        by_mark Unseen e opening = opened Unseen e refl opening
        by_mark Next e opening = opened Next e refl opening
        by_mark (Wanted level) e opening = fed_held content roots m n bytes known s k stage after reached level e holds
        by_mark (Shared level) e opening = fed_shared content roots m n bytes known s k stage after reached level e holds
        by_mark Found e opening = opened Found e refl opening
        by_mark Kept e opening = opened Kept e refl opening
