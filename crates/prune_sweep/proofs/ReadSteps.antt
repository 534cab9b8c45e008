-- One read, step by step: new places are named, then the next version, then pages of the version before, and then the block is read.
use Rattle.std.proofs.Common.{◌≡◌, ◌≢◌, inl, inr, ℕ, suc, ◌+◌, ◌<◌, ◌≤◌, Bool, true, false, not, ◌||◌, cond, List, [], ◌∷◌, ◌++◌, length, set, Option, Some, None, Result, Ok, Err, refl, sym, ap, subst, ◌∙◌, arith, nat_eq, eq-eqb, true≢false, append-nil}
use Rattle.std.specs.Prelude.{option_to_list, OnOk, MatchResult}
use Rattle.std.specs.Option.{option_map_or}
use Rattle.std.proofs.lemmas.Bool.{cases_eq, ne_eqb}
use Rattle.std.proofs.lemmas.List.{length-set}
use Rattle.std.proofs.lemmas.List.Folds.{list_any-append}
use Rattle.page_codec.specs.Values.{ReferenceValue, PageValue, VersionValue}
use Rattle.page_codec.specs.declared.why.BadPage.{BadPage}
use Rattle.page_codec.specs.Causes.{page_of, version_of}
use Rattle.prune_sweep.specs.declared.mark.Mark.{Mark}
use Rattle.prune_sweep.specs.declared.mark.Mark.TheVariants.{Unseen, Next, Wanted}
use Rattle.prune_sweep.specs.declared.slots.Following.{Following}
use Rattle.prune_sweep.specs.Marks.{mark_at, is_unseen, as_shared, reads_left, left_of}
use Rattle.prune_sweep.specs.Slots.{new_blocks, shared_blocks}
use Rattle.prune_sweep.specs.Causes.{is_among, has_seen, version_cause}
use Rattle.prune_sweep.specs.Naming.{Stays}
use Rattle.prune_sweep.specs.declared.stage.Stage.{Stage}
use Rattle.prune_sweep.specs.declared.progress.Progress.{Progress}
use Rattle.prune_sweep.specs.Progress.{begun, following_at, is_reached, next_version, read_mark}
use Rattle.prune_sweep.specs.Reading.{named_at, shared_at, slots_at, Turned, PageRead, VersionTaken, VersionRead}
use Rattle.prune_sweep.proofs.SlotSteps.{mark_at-set, left_of-set, is_unseen-true, Stays-then}
use Rattle.prune_sweep.proofs.Turning.{TurnedTo, is_read, is_next, is_new, is_shared, is_same, turned_to}

-- ---- marks of a page

-- the marks after each step, of a page below `/`
pub turned_page : (block : ℕ) (to : Mark) (f : Following) (level : ℕ) (refs : List ReferenceValue) (old named shared : List Mark) → block < length old
    → has_seen old (new_blocks f refs) ≡ false
    → ((n : ℕ) → mark_at named n ≡ named_at (Wanted level) (new_blocks f refs) (mark_at old) n) → Stays old named
    → ((n : ℕ) → mark_at shared n ≡ shared_at level (shared_blocks f refs) (mark_at named) n) → Stays named shared
    → Turned block to f level refs None old (set shared block to)
turned_page block to f level refs old named shared within fresh names a shares b =
    record {
      size = length-set shared block to ∙ b.size ∙ a.size;
      fresh = ap (has_seen old) (append-nil (new_blocks f refs)) ∙ fresh;
      marks = λ n.
          mark_at-set shared block n to (let e : length shared ≡ length old = b.size ∙ a.size in omega (arith, e, within))
          ∙ ap (λ m. cond (nat_eq n block) to m)
          (shares n ∙ ap (λ m. cond (is_among n (shared_blocks f refs)) (as_shared level m) m) (names n));
    }

-- ---- the next version

or_assoc : (a b c : Bool) → ((a || b) || c) ≡ (a || (b || c))
or_assoc true b c = refl
or_assoc false b c = refl

or_none : (a : Bool) → (a || false) ≡ a
or_none true = refl
or_none false = refl

same_eq : (x y : ℕ) → nat_eq x y ≡ nat_eq y x
same_eq x y = elim (cases_eq x y) [
  | inl e ↦ eq-eqb x y e ∙ sym (eq-eqb y x (sym e))
  | inr ne ↦ ne_eqb x y ne ∙ sym (ne_eqb y x (λ e. ne (sym e)))
]

-- with one block more behind
pub has_seen-behind : (marks : List Mark) (blocks : List ℕ) (x : ℕ)
    → has_seen marks (blocks ++ x ∷ []) ≡ (has_seen marks blocks || (is_among x blocks || not (is_unseen (mark_at marks x))))
has_seen-behind marks [] x = or_none (not (is_unseen (mark_at marks x)))
has_seen-behind marks (y ∷ blocks) x =
    ap (λ b. not (is_unseen (mark_at marks y)) || (b || has_seen marks (blocks ++ x ∷ []))) among
    ∙ ap (λ b. not (is_unseen (mark_at marks y)) || ((is_among y blocks || nat_eq x y) || b)) (has_seen-behind marks blocks x)
    ∙ swap (not (is_unseen (mark_at marks y))) (is_among y blocks) (nat_eq x y) (has_seen marks blocks) (is_among x blocks) (not (is_unseen (mark_at marks x)))
  where
    among : is_among y (blocks ++ x ∷ []) ≡ (is_among y blocks || nat_eq x y)
    among = list_any-append (nat_eq y) blocks (x ∷ []) ∙ ap (λ b. is_among y blocks || b) (or_none (nat_eq y x) ∙ same_eq y x)

    swap : (a b c d e f : Bool) → (a || ((b || c) || (d || (e || f)))) ≡ ((a || (b || d)) || ((c || e) || f))
    swap true b c d e f = refl
    swap false true c d e f = refl
    swap false false c true e f = pass c
      where
        pass : (c : Bool) → (c || true) ≡ true
        pass true = refl
        pass false = refl
    swap false false true false e f = refl
    swap false false false false e f = refl

-- whether the page of the next version was named before, once the slots' blocks were named
pub has_seen-next : (marks named : List Mark) (level : ℕ) (blocks : List ℕ) (next : Option ℕ)
    → ((n : ℕ) → mark_at named n ≡ named_at (Wanted level) blocks (mark_at marks) n) → has_seen marks blocks ≡ false
    → has_seen marks (blocks ++ option_to_list next) ≡ has_seen named (option_to_list next)
has_seen-next marks named level blocks None names fresh = ap (has_seen marks) (append-nil blocks) ∙ fresh
has_seen-next marks named level blocks (Some x) names fresh =
    has_seen-behind marks blocks x
    ∙ ap (λ b. b || (is_among x blocks || not (is_unseen (mark_at marks x)))) fresh
    ∙ by (is_among x blocks) refl
  where
    by : (b : Bool) → is_among x blocks ≡ b → (is_among x blocks || not (is_unseen (mark_at marks x))) ≡ (not (is_unseen (mark_at named x)) || false)
    by true e = ap (λ b. b || not (is_unseen (mark_at marks x))) e ∙ sym (ap (λ m. not (is_unseen m) || false) (names x ∙ ap (λ b. cond b (Wanted level) (mark_at marks x)) e))
    by false e =
        ap (λ b. b || not (is_unseen (mark_at marks x))) e
        ∙ sym (or_none (not (is_unseen (mark_at marks x))))
        ∙ sym (ap (λ m. not (is_unseen m) || false) (names x ∙ ap (λ b. cond b (Wanted level) (mark_at marks x)) e))

pub has_seen-more : (marks : List Mark) (blocks others : List ℕ) → has_seen marks blocks ≡ true → has_seen marks (blocks ++ others) ≡ true
has_seen-more marks [] others h = absurd (true≢false (sym h))
has_seen-more marks (y ∷ blocks) others h =
    by (not (is_unseen (mark_at marks y))) (is_among y blocks) (list_any-append (nat_eq y) blocks others) (has_seen-more marks blocks others) h
  where
    by : (a b : Bool) → is_among y (blocks ++ others) ≡ (b || is_among y others) → (has_seen marks blocks ≡ true → has_seen marks (blocks ++ others) ≡ true)
        → (a || (b || has_seen marks blocks)) ≡ true → (a || (is_among y (blocks ++ others) || has_seen marks (blocks ++ others))) ≡ true
    by true b e on k = refl
    by false true e on k = ap (λ c. c || has_seen marks (blocks ++ others)) e
    by false false e on k = pass (is_among y (blocks ++ others)) (on k)
      where
        pass : (c : Bool) {d : Bool} → d ≡ true → (c || d) ≡ true
        pass true q = refl
        pass false q = q

-- the marks after each step, of a version page
pub turned_version : (block : ℕ) (to : Mark) (f : Following) (level : ℕ) (refs : List ReferenceValue) (next : Option ℕ) (old linked shared : List Mark) → block < length old
    → has_seen old (new_blocks f refs ++ option_to_list next) ≡ false
    → ((n : ℕ) → mark_at linked n ≡ named_at Next (option_to_list next) (named_at (Wanted level) (new_blocks f refs) (mark_at old)) n) → Stays old linked
    → ((n : ℕ) → mark_at shared n ≡ shared_at level (shared_blocks f refs) (mark_at linked) n) → Stays linked shared
    → Turned block to f level refs next old (set shared block to)
turned_version block to f level refs next old linked shared within fresh links l shares b =
    record {
      size = length-set shared block to ∙ size;
      fresh = fresh;
      marks = λ n.
          mark_at-set shared block n to (omega (arith, size, within))
          ∙ ap (λ m. cond (nat_eq n block) to m) (shares n ∙ by next n (links n));
    }
  where
    size : length shared ≡ length old
    size = b.size ∙ l.size

    named : ℕ → Mark
    named n = named_at (Wanted level) (new_blocks f refs) (mark_at old) n

    next_shared : (c : Bool) → cond c (as_shared level Next) Next ≡ Next
    next_shared true = refl
    next_shared false = refl

    plain : (n : ℕ) → mark_at linked n ≡ named n → shared_at level (shared_blocks f refs) (mark_at linked) n ≡ slots_at f level refs (mark_at old) n
    plain n e = ap (λ m. cond (is_among n (shared_blocks f refs)) (as_shared level m) m) e

    by : (o : Option ℕ) (n : ℕ) → mark_at linked n ≡ named_at Next (option_to_list o) named n
        → shared_at level (shared_blocks f refs) (mark_at linked) n
        ≡ cond (option_map_or (nat_eq n) o false) Next (slots_at f level refs (mark_at old) n)
    by None n e = plain n e
    by (Some x) n e = of (nat_eq n x) refl
      where
        of : (c : Bool) → nat_eq n x ≡ c → shared_at level (shared_blocks f refs) (mark_at linked) n ≡ cond (nat_eq n x) Next (slots_at f level refs (mark_at old) n)
        of true is =
            let here : mark_at linked n ≡ Next = e ∙ ap (λ c. cond (c || false) Next (named n)) is in
            ap (λ m. cond (is_among n (shared_blocks f refs)) (as_shared level m) m) here
            ∙ next_shared (is_among n (shared_blocks f refs))
            ∙ sym (ap (λ c. cond c Next (slots_at f level refs (mark_at old) n)) is)
        of false is =
            let here : mark_at linked n ≡ named n = e ∙ ap (λ c. cond (c || false) Next (named n)) is in
            plain n here ∙ sym (ap (λ c. cond c Next (slots_at f level refs (mark_at old) n)) is)

-- ---- how many reads are left

pub left-read : (block : ℕ) (to : Mark) (old shared : List Mark) → block < length old → Stays old shared → mark_at shared block ≡ mark_at old block
    → reads_left to < reads_left (mark_at old block) → left_of (set shared block to) < left_of old
left-read block to old shared within st same less =
    let size : length shared ≡ length old = st.size in
    let sum : left_of (set shared block to) + reads_left (mark_at shared block) ≡ left_of shared + reads_left to = left_of-set shared block to (omega (arith, size, within)) in
    let here : reads_left (mark_at shared block) ≡ reads_left (mark_at old block) = ap reads_left same in
    let most : left_of shared ≤ left_of old = st.left in
    omega arith

pub read-less : (stays : Bool) (mark : Mark) → mark ≡ Next → reads_left (read_mark stays) < reads_left mark
read-less true mark e = let two : reads_left mark ≡ 2 = ap reads_left e in omega (arith, two)
read-less false mark e = let two : reads_left mark ≡ 2 = ap reads_left e in omega (arith, two)

-- ---- the page of the next version keeps its mark

pub next_kept : (block : ℕ) (to : Mark) (f : Following) (level : ℕ) (refs : List ReferenceValue) (next : Option ℕ) (old new : List Mark)
    → Turned block to f level refs next old new → (n : ℕ) → n ≢ block → mark_at old n ≡ Next → mark_at new n ≡ Next
next_kept block to f level refs next old new t n off was = by (turned_to block to f level refs next old new t n)
  where
    by : TurnedTo block to f level refs next (mark_at old n) n (mark_at new n) → mark_at new n ≡ Next
    by (is_read e h) = absurd (off e)
    by (is_next ne e u h) = h
    by (is_new ne s u h) = absurd (let g : Unseen ≡ Next = sym u ∙ was in cc)
    by (is_shared ne s h) = h ∙ ap (as_shared level) was
    by (is_same ne h) = h ∙ was

pub next_named : (block : ℕ) (to : Mark) (f : Following) (level : ℕ) (refs : List ReferenceValue) (x : ℕ) (old new : List Mark)
    → Turned block to f level refs (Some x) old new → mark_at old block ≢ Unseen → mark_at new x ≡ Next
next_named block to f level refs x old new t seen =
    t.marks x
    ∙ ap (λ b. cond b to (cond (nat_eq x x) Next (slots_at f level refs (mark_at old) x))) (ne_eqb x block off)
    ∙ ap (λ b. cond b Next (slots_at f level refs (mark_at old) x)) (eq-eqb x x refl)
  where
    both : (a b : Bool) → (a || b) ≡ false → b ≡ false
    both true b h = absurd (true≢false h)
    both false b h = h

    unseen : (b : Bool) → not b ≡ false → b ≡ true
    unseen true h = refl
    unseen false h = absurd (true≢false h)

    was : mark_at old x ≡ Unseen
    was =
        let last : (has_seen old (new_blocks f refs) || (is_among x (new_blocks f refs) || not (is_unseen (mark_at old x)))) ≡ false =
        sym (has_seen-behind old (new_blocks f refs) x) ∙ t.fresh in
        is_unseen-true (mark_at old x) (unseen (is_unseen (mark_at old x))
        (both (is_among x (new_blocks f refs)) (not (is_unseen (mark_at old x))) (both (has_seen old (new_blocks f refs)) _ last)))

    off : x ≢ block
    off e = seen (ap (mark_at old) (sym e) ∙ was)

-- ---- the read as a whole

pub page_is_read : (block level : ℕ) (f : Following) (stays : Bool) (bytes : List ℕ) (old : Progress) (page : PageValue) (refs : List ReferenceValue) (below : ℕ)
    (named shared new : List Mark) (to : Mark)
    → page_of bytes ≡ Ok page → page.level ≡ level → page.refs ≡ refs → below ≡ suc level → to ≡ read_mark stays → new ≡ set shared block to
    → block < length old.marks → has_seen old.marks (new_blocks f refs) ≡ false
    → ((n : ℕ) → mark_at named n ≡ named_at (Wanted below) (new_blocks f refs) (mark_at old.marks) n) → Stays old.marks named
    → ((n : ℕ) → mark_at shared n ≡ shared_at below (shared_blocks f refs) (mark_at named) n) → Stays named shared
    → PageRead block level f stays bytes old (record old { marks = new })
page_is_read block level f stays bytes old page refs below named shared new to is level_is refs_is deeper to_is new_is within fresh names a shares b =
    record {
      page = page;
      is = is;
      level_is = level_is;
      marks =
          subst (λ m. Turned block (read_mark stays) f (suc level) page.refs None old.marks m) (sym new_is)
          (subst (λ r. Turned block (read_mark stays) f (suc level) r None old.marks (set shared block to)) (sym refs_is)
          (subst (λ l. Turned block (read_mark stays) f l refs None old.marks (set shared block to)) deeper
          (subst (λ t. Turned block t f below refs None old.marks (set shared block to)) to_is
          (turned_page block to f below refs old.marks named shared within fresh names a shares b))));
      rest = refl;
    }

pub version_is_taken : (block : ℕ) (old : Progress) (version : VersionValue) (refs : List ReferenceValue) (stays_too : Bool) (f : Following) (next reached : Option ℕ) (stage : Stage)
    (named linked shared new : List Mark) (to : Mark)
    → version.page.refs ≡ refs → is_reached old.upto version.serial ≡ stays_too → stage ≡ begun old.stage → following_at (begun old.stage) stays_too ≡ f
    → next_version old.upto version ≡ next → reached ≡ cond stays_too (Some block) None → to ≡ read_mark stays_too → new ≡ set shared block to
    → block < length old.marks → has_seen old.marks (new_blocks f refs) ≡ false → has_seen named (option_to_list next) ≡ false
    → ((n : ℕ) → mark_at named n ≡ named_at (Wanted 1) (new_blocks f refs) (mark_at old.marks) n) → Stays old.marks named
    → ((n : ℕ) → mark_at linked n ≡ named_at Next (option_to_list next) (mark_at named) n) → Stays named linked
    → ((n : ℕ) → mark_at shared n ≡ shared_at 1 (shared_blocks f refs) (mark_at linked) n) → Stays linked shared
    → VersionTaken block version old (record { marks = new; upto = old.upto; stage = stage; after = next; reached = reached })
version_is_taken block old version refs stays_too f next reached stage named linked shared new to refs_is stays_is stage_is f_is next_is reached_is to_is new_is within fresh next_fresh names a links l shares b =
    record {
      marks =
          subst (λ m. Turned block (read_mark (is_reached old.upto version.serial)) (following_at (begun old.stage) (is_reached old.upto version.serial)) 1 version.page.refs
          (next_version old.upto version) old.marks m) (sym new_is)
          (subst (λ t. Turned block (read_mark t) (following_at (begun old.stage) t) 1 version.page.refs (next_version old.upto version) old.marks (set shared block to)) (sym stays_is)
          (subst (λ k. Turned block k (following_at (begun old.stage) stays_too) 1 version.page.refs (next_version old.upto version) old.marks (set shared block to)) to_is
          (subst (λ g. Turned block to g 1 version.page.refs (next_version old.upto version) old.marks (set shared block to)) (sym f_is)
          (subst (λ o. Turned block to f 1 version.page.refs o old.marks (set shared block to)) (sym next_is)
          (subst (λ r. Turned block to f 1 r next old.marks (set shared block to)) (sym refs_is)
          (turned_version block to f 1 refs next old.marks linked shared within
          (has_seen-next old.marks named 1 (new_blocks f refs) next names fresh ∙ next_fresh)
          (λ n. links n ∙ ap (λ m. cond (is_among n (option_to_list next)) Next m) (names n)) (Stays-then old.marks named linked a l) shares b))))));
      rest =
          ap (λ (s : Stage). known s next reached) stage_is
          ∙ ap (λ (o : Option ℕ). known (begun old.stage) o reached) (sym next_is)
          ∙ ap (λ (o : Option ℕ). known (begun old.stage) (next_version old.upto version) o) (reached_is ∙ ap (λ t. cond t (Some block) None) (sym stays_is));
    }
  where
    known : Stage → Option ℕ → Option ℕ → Progress
    known s o r = record { marks = new; upto = old.upto; stage = s; after = o; reached = r }

-- a version page that was taken, once its block was read as one
pub version_read_of : (block : ℕ) (bytes : List ℕ) (old new : Progress) (version : VersionValue) (result : Result (Unit {0}) BadPage) → version_of bytes ≡ Ok version
    → OnOk result (VersionTaken block version old new) → OnOk result (VersionRead block bytes old new)
version_read_of block bytes old new version (Ok x) is taken = record { version = version; is = is; taken = taken }
version_read_of block bytes old new version (Err e) is taken = tt

pub version_causes_of : (known : Progress) (bytes : List ℕ) (version : VersionValue) (result : Result (Unit {0}) BadPage) → version_of bytes ≡ Ok version
    → MatchResult result (λ _. version_cause known.marks known.upto (begun known.stage) (Ok version) ≡ None)
    (λ e. version_cause known.marks known.upto (begun known.stage) (Ok version) ≡ Some e.why)
    → MatchResult result (λ _. version_cause known.marks known.upto (begun known.stage) (version_of bytes) ≡ None)
    (λ e. version_cause known.marks known.upto (begun known.stage) (version_of bytes) ≡ Some e.why)
version_causes_of known bytes version (Ok x) is h = ap (version_cause known.marks known.upto (begun known.stage)) is ∙ h
version_causes_of known bytes version (Err e) is h = ap (version_cause known.marks known.upto (begun known.stage)) is ∙ h
