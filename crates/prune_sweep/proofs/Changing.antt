-- A sweep while other blocks are written, and while versions get links, lose members, and are appended.
use Rattle.std.proofs.Common.{◌≡◌, ◌↔◌, inl, inr, ℕ, suc, ◌<◌, ◌≤◌, List, [], ◌∷◌, ◌++◌, length, Option, Some, None, refl, sym, ap, subst, ◌∙◌, arith, slice_get}
use Rattle.std.specs.Option.{option_and_then}
use Rattle.page_codec.specs.Values.{PageValue, VersionValue}
use Rattle.page_places.specs.Places.{Store, block_at, slot_block}
use Rattle.store_model.specs.Laws.{pages_of, page_of_block, read_of}
use Rattle.page_codec.specs.Causes.{version_of}
use Rattle.page_codec.specs.declared.why.Why.{Why}
use Rattle.std.proofs.Common.{Result, Ok, Err}
use Rattle.store_model.specs.Changes.{version_in_block, with_commit, without_members}
use Rattle.store_model.proofs.Reading.{reads_version}
use Rattle.prune_sweep.specs.declared.mark.Mark.{Mark}
use Rattle.prune_sweep.specs.declared.mark.Mark.TheVariants.{Unseen, Next, Wanted, Shared, Found, Kept}
use Rattle.prune_sweep.specs.declared.progress.Progress.{Progress}
use Rattle.prune_sweep.specs.Marks.{mark_at}
use Rattle.prune_sweep.specs.Line.{IsPageBefore, IsOwnAt, IsHeldAt, IsLine}
use Rattle.prune_sweep.specs.Sweeping.{IsWantedAt, SaysGone, SaysHeld, Ready, Drops, Keeps, Phase, starts, goes, stays, IsUnread}
use Rattle.prune_sweep.specs.Changing.{HasGot, nothing, reference, no_members, IsToGo, SweepingGoesOn, SweepingGrows}

-- where pages show what they showed from a root down, the way down is the same
pub same_walk : (old new : Store) (root : ℕ) → ((p : List ℕ) (n : ℕ) → block_at old root p ≡ Some n → new n ≡ old n) → (p : List ℕ)
    → block_at new root p ≡ block_at old root p
same_walk old new root same [] = refl
same_walk old new root same (s ∷ p) =
    ap (λ page. option_and_then (λ below. block_at new below p) (option_and_then (λ (x : PageValue). slot_block x s) page)) (same [] root refl)
    ∙ by (option_and_then (λ (x : PageValue). slot_block x s) (old root))
    (λ below at. same_walk old new below (λ q b h. same (s ∷ q) b (ap (option_and_then (λ c. block_at old c q)) at ∙ h)) p)
  where
    by : (o : Option ℕ)
        → ((below : ℕ) → o ≡ Some below → block_at new below p ≡ block_at old below p)
        → option_and_then (λ below. block_at new below p) o ≡ option_and_then (λ below. block_at old below p) o
    by None on = refl
    by (Some below) on = on below refl

-- The versions up to place m lie in the same blocks, and their pages are the same.
pub record SameUpTo (pages others : Store) (roots longer : List ℕ) (m : ℕ) : Type 0 where
  pub lists : (i : ℕ) → i ≤ m → slice_get longer i ≡ slice_get roots i
  pub shows : (i root : ℕ) (p : List ℕ) (n : ℕ) → i ≤ m → slice_get roots i ≡ Some root → block_at pages root p ≡ Some n → others n ≡ pages n

module _ (pages others : Store) (roots longer : List ℕ) (m : ℕ) (same : SameUpTo pages others roots longer m) where
  walks : (i root : ℕ) → i ≤ m → slice_get roots i ≡ Some root → (p : List ℕ) → block_at others root p ≡ block_at pages root p
  walks i root le at p = same_walk pages others root (λ q n h. same.shows i root q n le at h) p

  pub before_there : (i n : ℕ) → i ≤ suc m → IsPageBefore pages roots i n → IsPageBefore others longer i n
  before_there i n le h =
      let low : h.0 < i = h.2 in
      let at_most : h.0 ≤ m = omega (arith, low, le) in
      (h.0, h.1, h.2, same.lists h.0 at_most ∙ h.3, (h.4.0, walks h.0 h.1 at_most h.3 h.4.0 ∙ h.4.1))

  pub before_back : (i n : ℕ) → i ≤ suc m → IsPageBefore others longer i n → IsPageBefore pages roots i n
  before_back i n le h =
      let low : h.0 < i = h.2 in
      let at_most : h.0 ≤ m = omega (arith, low, le) in
      let here : slice_get roots h.0 ≡ Some h.1 = sym (same.lists h.0 at_most) ∙ h.3 in
      (h.0, h.1, h.2, here, (h.4.0, sym (walks h.0 h.1 at_most here h.4.0) ∙ h.4.1))

  own_there : (i : ℕ) (p : List ℕ) (n : ℕ) → i ≤ m → IsOwnAt pages roots i p n → IsOwnAt others longer i p n
  own_there i p n le own =
      record {
        root = own.root;
        at = same.lists i le ∙ own.at;
        lies = walks i own.root le own.at p ∙ own.lies;
        new = λ h. own.new (before_back i n (omega (arith, le)) h);
      }

  own_back : (i : ℕ) (p : List ℕ) (n : ℕ) → i ≤ m → IsOwnAt others longer i p n → IsOwnAt pages roots i p n
  own_back i p n le own =
      let here : slice_get roots i ≡ Some own.root = sym (same.lists i le) ∙ own.at in
      record {
        root = own.root;
        at = here;
        lies = sym (walks i own.root le here p) ∙ own.lies;
        new = λ h. own.new (before_there i n (omega (arith, le)) h);
      }

  wanted_there : (i n level : ℕ) → i ≤ m → IsWantedAt pages roots i n level → IsWantedAt others longer i n level
  wanted_there i n level le w = record { path = w.path; own = own_there i w.path n le w.own; level = w.level }

  gone_there : (i n : ℕ) → i < m → (mark : Mark) → SaysGone pages roots i n mark → SaysGone others longer i n mark
  gone_there i n low Unseen h = h
  gone_there i n low Next h = same.lists (suc i) (omega (arith, low)) ∙ h
  gone_there i n low (Wanted level) h = wanted_there i n level (omega (arith, low)) h
  gone_there i n low (Shared level) h = h
  gone_there i n low Found h = before_there (suc i) n (omega (arith, low)) h
  gone_there i n low Kept h = h

  held_there : (n : ℕ) (mark : Mark) → SaysHeld pages roots m n mark → SaysHeld others longer m n mark
  held_there n Unseen h = h
  held_there n Next h = h
  held_there n (Wanted level) h = wanted_there m n level (omega arith) h
  held_there n (Shared level) h =
      record {
        path = h.path;
        root = h.root;
        at = same.lists m (omega arith) ∙ h.at;
        lies = walks m h.root (omega arith) h.at h.path ∙ h.lies;
        before = before_there m n (omega arith) h.before;
        level = h.level;
      }
  held_there n Found h = before_there m n (omega arith) h
  held_there n Kept h = (h.0, same.lists m (omega arith) ∙ h.1, (h.2.0, walks m h.0 (omega arith) h.1 h.2.0 ∙ h.2.1))

  ready_there : (mark : ℕ → Mark) → Ready pages roots 0 mark → Ready others longer 0 mark
  ready_there mark ready =
      record {
        before = λ n h. ready.before n (before_back 0 n (omega arith) h);
        says = λ n. elim (ready.says n) [
          | inl u ↦ inl u
          | inr rest ↦ inr (elim rest [
            | inl b ↦ inl (b.0, before_there 0 n (omega arith) b.1)
            | inr next ↦ inr (next.0, same.lists 0 (omega arith) ∙ next.1)
          ])
        ];
      }

  drops_there : (i : ℕ) (mark : ℕ → Mark) → i < m → Drops pages roots i mark → Drops others longer i mark
  drops_there i mark low d =
      record {
        root = d.root;
        at = same.lists i (omega (arith, low)) ∙ d.at;
        begun = d.begun;
        before = λ n h. d.before n (before_back i n (omega (arith, low)) h);
        closed = λ p n page s x here found has names.
            let was : block_at pages d.root p ≡ Some n = sym (walks i d.root (omega (arith, low)) d.at p) ∙ here in
            d.closed p n page s x was found (sym (same.shows i d.root p n (omega (arith, low)) d.at was) ∙ has) names;
        named = λ p n s x here own gone.
            d.named p n s x (sym (walks i d.root (omega (arith, low)) d.at p) ∙ here) (own_back i (p ++ s ∷ []) x (omega (arith, low)) own) gone;
        says = λ n. gone_there i n low (mark n) (d.says n);
      }

  keeps_there : (mark : ℕ → Mark) → Keeps pages roots m mark → Keeps others longer m mark
  keeps_there mark k =
      record {
        root = k.root;
        at = same.lists m (omega arith) ∙ k.at;
        begun = k.begun;
        before = λ n h. k.before n (before_back m n (omega arith) h);
        closed = λ p n page s x here kept has names.
            let was : block_at pages k.root p ≡ Some n = sym (walks m k.root (omega arith) k.at p) ∙ here in
            k.closed p n page s x was kept (sym (same.shows m k.root p n (omega arith) k.at was) ∙ has) names;
        named = λ p n s x here own held. k.named p n s x (sym (walks m k.root (omega arith) k.at p) ∙ here) (own_back m (p ++ s ∷ []) x (omega arith) own) held;
        says = λ n. held_there n (mark n) (k.says n);
      }

  pub phase_there : (known : Progress) → Phase pages roots m known → Phase others longer m known
  phase_there known (starts ready stage after reached) = starts (ready_there (mark_at known.marks) ready) stage (after ∙ sym (same.lists 0 (omega arith))) reached
  phase_there known (goes i low d stage after reached) =
      goes i low (drops_there i (mark_at known.marks) low d) stage (after ∙ sym (same.lists (suc i) (omega (arith, low)))) reached
  phase_there known (stays k stage after reached) = stays (keeps_there (mark_at known.marks) k) stage after (reached ∙ sym (same.lists m (omega arith)))

-- ---- a longer file

pub sweeping_grows : SweepingGrows
sweeping_grows content roots longer m known s file lists =
    record {
      file = file;
      linked = λ i root version at low unread holds.
          let le : i ≤ m = omega (arith, low) in
          s.linked i root version (sym (lists i le) ∙ at) low unread holds ∙ sym (lists (suc i) (omega (arith, low)));
      phase = phase_there (pages_of content) (pages_of content) roots longer m (record { lists = lists; shows = λ i root p n le at h. refl }) known s.phase;
    }

-- ---- the same file, whose version pages have changed

-- a block that holds a version page holds its page
shows_page : (content : ℕ → Option (List ℕ)) (n : ℕ) (version : VersionValue) → version_in_block content n ≡ Some version → pages_of content n ≡ Some version.page
shows_page content n version holds = of (content n) refl holds
  where
    read : (r : Result VersionValue Why) → read_of r ≡ Some version → r ≡ Ok version
    read (Ok v) e = cc
    read (Err why) e = absurd cc

    of : (o : Option (List ℕ)) → content n ≡ o → option_and_then (λ bytes. read_of (version_of bytes)) o ≡ Some version → pages_of content n ≡ Some version.page
    of None e h = absurd cc
    of (Some bytes) e h = (reads_version content n bytes version e (read (version_of bytes) h)).page.is

got_page : (c d : ℕ → Option (List ℕ)) (n : ℕ) (MayLink : Type 0) → HasGot c d n MayLink → pages_of d n ≡ pages_of c n
got_page c d n MayLink (nothing e) = ap (option_and_then page_of_block) e
got_page c d n MayLink (reference may version next was is) = shows_page d n (with_commit next version) is ∙ sym (shows_page c n version was)
got_page c d n MayLink (no_members version was is) = shows_page d n (without_members version) is ∙ sym (shows_page c n version was)

pub line_there : (pages others : Store) (count : ℕ) (roots : List ℕ) → ((i root : ℕ) (p : List ℕ) (n : ℕ) → slice_get roots i ≡ Some root → block_at pages root p ≡ Some n → others n ≡ pages n)
    → IsLine pages count roots → IsLine others count roots
line_there pages others count roots shows line =
    record {
      held = λ i root p n at here.
          let was : block_at pages root p ≡ Some n = back i root p n at here in
          let h : IsHeldAt pages count p n = line.held i root p n at was in
          record { below = h.below; page = h.page; holds = shows i root p n at was ∙ h.holds; level = h.level };
      one = λ i root p q n at x y. line.one i root p q n at (back i root p n at x) (back i root q n at y);
      begins = λ i root at h. line.begins i root at (before i root h);
      copies = λ i p n page s r x own holds has names copied h.
          let was : block_at pages own.root p ≡ Some n = back i own.root p n own.at own.lies in
          line.copies i p n page s r x (record { root = own.root; at = own.at; lies = was; new = λ b. own.new (after i n b) })
          (sym (shows i own.root p n own.at was) ∙ holds) has names copied (before i x h);
      shares = λ i root next p n page s r x at next_at here holds has names plain.
          let was : block_at pages next p ≡ Some n = back (suc i) next p n next_at here in
          walk i root at (p ++ s ∷ []) ∙ line.shares i root next p n page s r x at next_at was (sym (shows (suc i) next p n next_at was) ∙ holds) has names plain;
    }
  where
    walk : (i root : ℕ) → slice_get roots i ≡ Some root → (p : List ℕ) → block_at others root p ≡ block_at pages root p
    walk i root at p = same_walk pages others root (λ q n h. shows i root q n at h) p

    back : (i root : ℕ) (p : List ℕ) (n : ℕ) → slice_get roots i ≡ Some root → block_at others root p ≡ Some n → block_at pages root p ≡ Some n
    back i root p n at h = sym (walk i root at p) ∙ h

    before : (i n : ℕ) → IsPageBefore others roots i n → IsPageBefore pages roots i n
    before i n h = (h.0, h.1, h.2, h.3, (h.4.0, back h.0 h.1 h.4.0 n h.3 h.4.1))

    after : (i n : ℕ) → IsPageBefore pages roots i n → IsPageBefore others roots i n
    after i n h = (h.0, h.1, h.2, h.3, (h.4.0, walk h.0 h.1 h.3 h.4.0 ∙ h.4.1))

pub sweeping_goes_on : SweepingGoesOn
sweeping_goes_on c d roots m known s so =
    record {
      file = record {
        line = line_there (pages_of c) (pages_of d) (length known.marks) roots shows s.file.line;
        some = s.file.some;
        place = s.file.place;
        serials = λ i root version at le holds. by_serial i root version at le holds (got i root at);
      };
      linked = λ i root version at low unread holds. by_link i root version at low unread holds (got i root at);
      phase = phase_there (pages_of c) (pages_of d) roots roots m (record { lists = λ i le. refl; shows = λ i root p n le at h. shows i root p n at h }) known s.phase;
    }
  where
    shows : (i root : ℕ) (p : List ℕ) (n : ℕ) → slice_get roots i ≡ Some root → block_at (pages_of c) root p ≡ Some n → pages_of d n ≡ pages_of c n
    shows i root p n at h = got_page c d n (IsToGo roots m known n → ⊥) (so n (i, root, omega arith, at, (p, h)))

    got : (i root : ℕ) → slice_get roots i ≡ Some root → HasGot c d root (IsToGo roots m known root → ⊥)
    got i root at = so root (i, root, omega arith, at, ([], refl))

    as_before : (root : ℕ) (version : VersionValue) → d root ≡ c root → version_in_block d root ≡ Some version → version_in_block c root ≡ Some version
    as_before root version e holds = sym (ap (option_and_then (λ bytes. read_of (version_of bytes))) e) ∙ holds

    by_serial : (i root : ℕ) (version : VersionValue) → slice_get roots i ≡ Some root → i ≤ m → version_in_block d root ≡ Some version
        → HasGot c d root (IsToGo roots m known root → ⊥) → (known.upto ≡ Some version.serial) ↔ (i ≡ m)
    by_serial i root version at le holds (nothing e) = s.file.serials i root version at le (as_before root version e holds)
    by_serial i root version at le holds (reference may old next was is) =
        let same : with_commit next old ≡ version = let e : Some (with_commit next old) ≡ Some version = sym is ∙ holds in cc in
        subst (λ (v : VersionValue). (known.upto ≡ Some v.serial) ↔ (i ≡ m)) same (s.file.serials i root old at le was)
    by_serial i root version at le holds (no_members old was is) =
        let same : without_members old ≡ version = let e : Some (without_members old) ≡ Some version = sym is ∙ holds in cc in
        subst (λ (v : VersionValue). (known.upto ≡ Some v.serial) ↔ (i ≡ m)) same (s.file.serials i root old at le was)

    by_link : (i root : ℕ) (version : VersionValue) → slice_get roots i ≡ Some root → i < m → IsUnread (mark_at known.marks root) → version_in_block d root ≡ Some version
        → HasGot c d root (IsToGo roots m known root → ⊥) → version.commit ≡ slice_get roots (suc i)
    by_link i root version at low unread holds (nothing e) = s.linked i root version at low unread (as_before root version e holds)
    by_link i root version at low unread holds (reference may old next was is) = absurd (may (i, low, at, unread))
    by_link i root version at low unread holds (no_members old was is) =
        let same : without_members old ≡ version = let e : Some (without_members old) ≡ Some version = sym is ∙ holds in cc in
        ap (λ (v : VersionValue). v.commit) (sym same) ∙ s.linked i root old at low unread was
