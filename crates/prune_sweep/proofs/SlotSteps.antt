-- Following the slots of a page, one after the other.
use Rattle.std.proofs.Common.{◌≡◌, ◌≢◌, ◌⊎◌, inl, inr, ℕ, ◌<◌, ◌≤◌, ◌+◌, Bool, true, false, not, ◌||◌, cond, List, [], ◌∷◌, length, set, Option, Some, None, refl, sym, ap, ◌∙◌, arith, nat_eq, eq-eqb, true≢false}
use Rattle.std.specs.List.{cons_option}
use Rattle.std.proofs.lemmas.List.{length-set, get_or-set_same, get_or-set_other}
use Rattle.std.proofs.lemmas.List.Sums.{sum_by-set}
use Rattle.std.proofs.lemmas.Bool.{cases_eq, and_parts, ne_eqb, ltb-true}
use Rattle.tree_model.proofs.Paths.{or_left}
use Rattle.page_codec.specs.Values.{ReferenceValue}
use Rattle.prune_sweep.specs.declared.mark.Mark.{Mark}
use Rattle.prune_sweep.specs.declared.mark.Mark.TheVariants.{Unseen, Next, Wanted, Shared, Found, Kept}
use Rattle.prune_sweep.specs.declared.slots.Following.{Following}
use Rattle.prune_sweep.specs.Marks.{mark_at, is_unseen, is_open, as_shared, reads_left, left_of}
use Rattle.prune_sweep.specs.Slots.{new_block, shared_block, new_blocks, shared_blocks, is_within, are_within}
use Rattle.prune_sweep.specs.Causes.{is_among, has_seen}
use Rattle.prune_sweep.specs.Reading.{named_at, shared_at}
use Rattle.prune_sweep.specs.Naming.{Stays}

pub is_unseen-true : (m : Mark) → is_unseen m ≡ true → m ≡ Unseen
is_unseen-true Unseen e = refl
is_unseen-true Next e = absurd (true≢false (sym e))
is_unseen-true (Wanted l) e = absurd (true≢false (sym e))
is_unseen-true (Shared l) e = absurd (true≢false (sym e))
is_unseen-true Found e = absurd (true≢false (sym e))
is_unseen-true Kept e = absurd (true≢false (sym e))

pub or_parts : (a b : Bool) → (a || b) ≡ false → (a ≡ false) × (b ≡ false)
or_parts true b h = absurd (true≢false h)
or_parts false b h = (refl, h)

-- a mark that was set
pub mark_at-same : (marks : List Mark) (n : ℕ) (mark : Mark) → n < length marks → mark_at (set marks n mark) n ≡ mark
mark_at-same marks n mark h = get_or-set_same marks n mark Unseen h

pub mark_at-other : (marks : List Mark) (n k : ℕ) (mark : Mark) → k ≢ n → mark_at (set marks n mark) k ≡ mark_at marks k
mark_at-other marks n k mark h = get_or-set_other marks n k mark Unseen h

pub mark_at-set : (marks : List Mark) (n k : ℕ) (mark : Mark) → n < length marks → mark_at (set marks n mark) k ≡ cond (nat_eq k n) mark (mark_at marks k)
mark_at-set marks n k mark h = elim (cases_eq k n) [
  | inl e ↦ ap (mark_at (set marks n mark)) e ∙ mark_at-same marks n mark h ∙ ap (λ b. cond b mark (mark_at marks k)) (sym (eq-eqb k n e))
  | inr ne ↦ mark_at-other marks n k mark ne ∙ ap (λ b. cond b mark (mark_at marks k)) (sym (ne_eqb k n ne))
]

pub left_of-set : (marks : List Mark) (n : ℕ) (mark : Mark) → n < length marks
    → left_of (set marks n mark) + reads_left (mark_at marks n) ≡ left_of marks + reads_left mark
left_of-set marks n mark h = sum_by-set reads_left marks n mark Unseen h

-- ---- what stays

pub Stays-refl : (marks : List Mark) → Stays marks marks
Stays-refl marks = record { size = refl; next = λ n e. e; opened = λ n e. refl; left = omega arith }

pub Stays-then : (a b c : List Mark) → Stays a b → Stays b c → Stays a c
Stays-then a b c x y = record {
  size = y.size ∙ x.size;
  next = λ n e. y.next n (x.next n e);
  opened = λ n e. y.opened n (ap is_open (x.opened n e) ∙ e) ∙ x.opened n e;
  left = let p : left_of b ≤ left_of a = x.left in let q : left_of c ≤ left_of b = y.left in omega arith;
}

-- a block that was not seen
pub Stays-named : (marks : List Mark) (n : ℕ) (mark : Mark) → n < length marks → mark_at marks n ≡ Unseen → reads_left mark ≤ 2 → Stays marks (set marks n mark)
Stays-named marks n mark h was small = record {
  size = length-set marks n mark;
  next = λ k e. mark_at-other marks n k mark (λ is. let f : Unseen ≡ Next = sym was ∙ ap (mark_at marks) (sym is) ∙ e in absurd cc) ∙ e;
  opened = λ k e. mark_at-other marks n k mark (λ is. true≢false (sym e ∙ ap (λ m. is_open m) (ap (mark_at marks) is ∙ was)));
  left =
      let sum : left_of (set marks n mark) + reads_left (mark_at marks n) ≡ left_of marks + reads_left mark = left_of-set marks n mark h in
      let two : reads_left (mark_at marks n) ≡ 2 = ap reads_left was in
      omega arith;
}

-- the same, where a block is named if it was not seen
pub Stays-name : (marks : List Mark) (n : ℕ) (mark : Mark) → n < length marks → reads_left mark ≤ 2
    → Stays marks (cond (is_unseen (mark_at marks n)) (set marks n mark) marks)
Stays-name marks n mark h small = of (is_unseen (mark_at marks n)) refl
  where
    of : (b : Bool) → is_unseen (mark_at marks n) ≡ b → Stays marks (cond b (set marks n mark) marks)
    of true e = Stays-named marks n mark h (is_unseen-true (mark_at marks n) e) small
    of false e = Stays-refl marks

pub within-some : (count : ℕ) (o : Option ℕ) (x : ℕ) → is_within count o ≡ true → o ≡ Some x → x < count
within-some count o x h e = ltb-true x count (ap (is_within count) (sym e) ∙ h)

shared_left : (level : ℕ) (m : Mark) → reads_left (as_shared level m) ≤ reads_left m
shared_left level Unseen = omega arith
shared_left level Next = omega arith
shared_left level (Wanted l) = omega arith
shared_left level (Shared l) = omega arith
shared_left level Found = omega arith
shared_left level Kept = omega arith

shared_next : (level : ℕ) (m : Mark) → m ≡ Next → as_shared level m ≡ Next
shared_next level m e = ap (as_shared level) e

shared_open : (level : ℕ) (m : Mark) → is_open m ≡ true → as_shared level m ≡ m
shared_open level Unseen e = absurd (true≢false (sym e))
shared_open level Next e = refl
shared_open level (Wanted l) e = refl
shared_open level (Shared l) e = refl
shared_open level Found e = absurd (true≢false (sym e))
shared_open level Kept e = refl

pub Stays-shared : (marks : List Mark) (n level : ℕ) → n < length marks → Stays marks (set marks n (as_shared level (mark_at marks n)))
Stays-shared marks n level h = record {
  size = length-set marks n (as_shared level (mark_at marks n));
  next = λ k e. elim (cases_eq k n) [
    | inl is ↦ ap (mark_at (set marks n (as_shared level (mark_at marks n)))) is ∙ mark_at-same marks n _ h
        ∙ shared_next level (mark_at marks n) (ap (mark_at marks) (sym is) ∙ e)
    | inr ne ↦ mark_at-other marks n k _ ne ∙ e
  ];
  opened = λ k e. elim (cases_eq k n) [
    | inl is ↦ ap (mark_at (set marks n (as_shared level (mark_at marks n)))) is ∙ mark_at-same marks n _ h
        ∙ shared_open level (mark_at marks n) (ap (λ j. is_open (mark_at marks j)) (sym is) ∙ e) ∙ ap (mark_at marks) (sym is)
    | inr ne ↦ mark_at-other marks n k _ ne
  ];
  left =
      let sum : left_of (set marks n (as_shared level (mark_at marks n))) + reads_left (mark_at marks n) ≡ left_of marks + reads_left (as_shared level (mark_at marks n)) =
      left_of-set marks n (as_shared level (mark_at marks n)) h in
      let less : reads_left (as_shared level (mark_at marks n)) ≤ reads_left (mark_at marks n) = shared_left level (mark_at marks n) in
      omega arith;
}

-- ---- new places

-- with one more block named, others were seen where they were, or where they are that block
pub has_seen-set : (marks : List Mark) (x : ℕ) (mark : Mark) (blocks : List ℕ) → x < length marks → is_unseen mark ≡ false
    → has_seen (set marks x mark) blocks ≡ (is_among x blocks || has_seen marks blocks)
has_seen-set marks x mark [] h seen = refl
has_seen-set marks x mark (n ∷ blocks) h seen = by (cases_eq n x) (has_seen-set marks x mark blocks h seen)
  where
    swap : (a b c d : Bool) → (c || (a || (b || d))) ≡ (b || (c || (a || d)))
    swap a true true d = refl
    swap true true false d = refl
    swap false true false d = refl
    swap a false c d = refl

    by : (n ≡ x) ⊎ (n ≢ x) → has_seen (set marks x mark) blocks ≡ (is_among x blocks || has_seen marks blocks)
        → has_seen (set marks x mark) (n ∷ blocks) ≡ (is_among x (n ∷ blocks) || has_seen marks (n ∷ blocks))
    by (inl e) rest =
        or_left (not (is_unseen (mark_at (set marks x mark) n))) _ (ap not (ap is_unseen (ap (mark_at (set marks x mark)) e ∙ mark_at-same marks x mark h) ∙ seen))
        ∙ sym (or_left (is_among x (n ∷ blocks)) _ (or_left (nat_eq x n) _ (eq-eqb x n (sym e))))
    by (inr ne) rest =
        ap (λ m. not (is_unseen m) || (is_among n blocks || has_seen (set marks x mark) blocks)) (mark_at-other marks x n mark ne)
        ∙ ap (λ r. not (is_unseen (mark_at marks n)) || (is_among n blocks || r)) rest
        ∙ swap (is_among n blocks) (is_among x blocks) (not (is_unseen (mark_at marks n))) (has_seen marks blocks)
        ∙ ap (λ b. (b || is_among x blocks) || has_seen marks (n ∷ blocks)) (sym (ne_eqb x n (λ e. ne (sym e))))

named-step : (level x n : ℕ) (marks : List Mark) (blocks : List ℕ) → x < length marks
    → named_at (Wanted level) blocks (mark_at (set marks x (Wanted level))) n ≡ named_at (Wanted level) (x ∷ blocks) (mark_at marks) n
named-step level x n marks blocks h = by (nat_eq n x) (is_among n blocks) (mark_at-set marks x n (Wanted level) h)
  where
    by : (e b : Bool) → mark_at (set marks x (Wanted level)) n ≡ cond e (Wanted level) (mark_at marks n)
        → cond b (Wanted level) (mark_at (set marks x (Wanted level)) n) ≡ cond (e || b) (Wanted level) (mark_at marks n)
    by true true k = refl
    by true false k = k
    by false true k = refl
    by false false k = k

-- So far these slots were followed: what is left of them has on these marks the effect of all on those of the beginning.
pub record NamesOn (following : Following) (level : ℕ) (refs left : List ReferenceValue) (init now : List Mark) : Type 0 where
  pub within : are_within following (length now) left ≡ true
  pub seen : has_seen now (new_blocks following left) ≡ has_seen init (new_blocks following refs)
  pub marks : (n : ℕ) → named_at (Wanted level) (new_blocks following left) (mark_at now) n ≡ named_at (Wanted level) (new_blocks following refs) (mark_at init) n
  pub stays : Stays init now

pub NamesOn-begins : (following : Following) (level : ℕ) (refs : List ReferenceValue) (init : List Mark) → are_within following (length init) refs ≡ true
    → NamesOn following level refs refs init init
NamesOn-begins following level refs init h = record { within = h; seen = refl; marks = λ n. refl; stays = Stays-refl init }

-- a slot's block, where it is followed, is one of the store's
pub within-new : (following : Following) (count : ℕ) (r : ReferenceValue) (left : List ReferenceValue) (x : ℕ) → are_within following count (r ∷ left) ≡ true
    → new_block following r ≡ Some x → x < count
within-new following count r left x h e = below (and_parts _ _ (and_parts _ _ h).0).0
  where
    below : is_within count (new_block following r) ≡ true → x < count
    below w = ltb-true x count (ap (is_within count) (sym e) ∙ w)

pub within-shared : (following : Following) (count : ℕ) (r : ReferenceValue) (left : List ReferenceValue) (x : ℕ) → are_within following count (r ∷ left) ≡ true
    → shared_block following r ≡ Some x → x < count
within-shared following count r left x h e = below (and_parts _ _ (and_parts _ _ h).0).1
  where
    below : is_within count (shared_block following r) ≡ true → x < count
    below w = ltb-true x count (ap (is_within count) (sym e) ∙ w)

pub NamesOn-none : (following : Following) (level : ℕ) (refs : List ReferenceValue) (r : ReferenceValue) (left : List ReferenceValue) (init now : List Mark)
    → NamesOn following level refs (r ∷ left) init now → new_block following r ≡ None → NamesOn following level refs left init now
NamesOn-none following level refs r left init now h none =
    let rest : new_blocks following (r ∷ left) ≡ new_blocks following left = ap (λ o. cons_option o (new_blocks following left)) none in
    record {
      within = (and_parts _ _ h.within).1;
      seen = ap (has_seen now) (sym rest) ∙ h.seen;
      marks = λ n. ap (λ blocks. named_at (Wanted level) blocks (mark_at now) n) (sym rest) ∙ h.marks n;
      stays = h.stays;
    }

pub NamesOn-new : (following : Following) (level : ℕ) (refs : List ReferenceValue) (r : ReferenceValue) (left : List ReferenceValue) (init now : List Mark) (x : ℕ)
    → NamesOn following level refs (r ∷ left) init now → new_block following r ≡ Some x → is_unseen (mark_at now x) ≡ true
    → NamesOn following level refs left init (set now x (Wanted level))
NamesOn-new following level refs r left init now x h some unseen =
    let first : new_blocks following (r ∷ left) ≡ x ∷ new_blocks following left = ap (λ o. cons_option o (new_blocks following left)) some in
    let below : x < length now = within-new following (length now) r left x h.within some in
    let was : mark_at now x ≡ Unseen = is_unseen-true (mark_at now x) unseen in
    record {
      within = ap (λ count. are_within following count left) (length-set now x (Wanted level)) ∙ (and_parts _ _ h.within).1;
      seen =
          has_seen-set now x (Wanted level) (new_blocks following left) below refl
          ∙ ap (λ u. not u || (is_among x (new_blocks following left) || has_seen now (new_blocks following left))) (sym unseen)
          ∙ ap (has_seen now) (sym first)
          ∙ h.seen;
      marks = λ n. named-step level x n now (new_blocks following left) below
          ∙ ap (λ blocks. named_at (Wanted level) blocks (mark_at now) n) (sym first) ∙ h.marks n;
      stays = Stays-then init now (set now x (Wanted level)) h.stays (Stays-named now x (Wanted level) below was (omega arith));
    }

-- a block that was named before
pub NamesOn-seen : (following : Following) (level : ℕ) (refs : List ReferenceValue) (r : ReferenceValue) (left : List ReferenceValue) (init now : List Mark) (x : ℕ)
    → NamesOn following level refs (r ∷ left) init now → new_block following r ≡ Some x → is_unseen (mark_at now x) ≡ false
    → has_seen init (new_blocks following refs) ≡ true
NamesOn-seen following level refs r left init now x h some seen =
    sym h.seen
    ∙ ap (λ o. has_seen now (cons_option o (new_blocks following left))) some
    ∙ or_left (not (is_unseen (mark_at now x))) _ (ap not seen)

-- ---- pages of the version before

as_shared-twice : (level : ℕ) (m : Mark) → as_shared level (as_shared level m) ≡ as_shared level m
as_shared-twice level Unseen = refl
as_shared-twice level Next = refl
as_shared-twice level (Wanted l) = refl
as_shared-twice level (Shared l) = refl
as_shared-twice level Found = refl
as_shared-twice level Kept = refl

shared-step : (level x n : ℕ) (marks : List Mark) (blocks : List ℕ) → x < length marks
    → shared_at level blocks (mark_at (set marks x (as_shared level (mark_at marks x)))) n ≡ shared_at level (x ∷ blocks) (mark_at marks) n
shared-step level x n marks blocks h = by (cases_eq n x)
  where
    to : List Mark
    to = set marks x (as_shared level (mark_at marks x))

    same : (b : Bool) → mark_at to n ≡ as_shared level (mark_at marks n) → cond b (as_shared level (mark_at to n)) (mark_at to n) ≡ as_shared level (mark_at marks n)
    same true k = ap (as_shared level) k ∙ as_shared-twice level (mark_at marks n)
    same false k = k

    by : (n ≡ x) ⊎ (n ≢ x) → shared_at level blocks (mark_at to) n ≡ shared_at level (x ∷ blocks) (mark_at marks) n
    by (inl e) =
        same (is_among n blocks) (ap (mark_at to) e ∙ mark_at-same marks x _ h ∙ ap (λ k. as_shared level (mark_at marks k)) (sym e))
        ∙ sym (ap (λ b. cond (b || is_among n blocks) (as_shared level (mark_at marks n)) (mark_at marks n)) (eq-eqb n x e))
    by (inr ne) =
        ap (λ m. cond (is_among n blocks) (as_shared level m) m) (mark_at-other marks x n _ ne)
        ∙ sym (ap (λ b. cond (b || is_among n blocks) (as_shared level (mark_at marks n)) (mark_at marks n)) (ne_eqb n x ne))

pub record SharesOn (following : Following) (level : ℕ) (refs left : List ReferenceValue) (init now : List Mark) : Type 0 where
  pub within : are_within following (length now) left ≡ true
  pub marks : (n : ℕ) → shared_at level (shared_blocks following left) (mark_at now) n ≡ shared_at level (shared_blocks following refs) (mark_at init) n
  pub stays : Stays init now

pub SharesOn-begins : (following : Following) (level : ℕ) (refs : List ReferenceValue) (init : List Mark) → are_within following (length init) refs ≡ true
    → SharesOn following level refs refs init init
SharesOn-begins following level refs init h = record { within = h; marks = λ n. refl; stays = Stays-refl init }

pub SharesOn-none : (following : Following) (level : ℕ) (refs : List ReferenceValue) (r : ReferenceValue) (left : List ReferenceValue) (init now : List Mark)
    → SharesOn following level refs (r ∷ left) init now → shared_block following r ≡ None → SharesOn following level refs left init now
SharesOn-none following level refs r left init now h none =
    let rest : shared_blocks following (r ∷ left) ≡ shared_blocks following left = ap (λ o. cons_option o (shared_blocks following left)) none in
    record {
      within = (and_parts _ _ h.within).1;
      marks = λ n. ap (λ blocks. shared_at level blocks (mark_at now) n) (sym rest) ∙ h.marks n;
      stays = h.stays;
    }

pub SharesOn-one : (following : Following) (level : ℕ) (refs : List ReferenceValue) (r : ReferenceValue) (left : List ReferenceValue) (init now : List Mark) (x : ℕ)
    → SharesOn following level refs (r ∷ left) init now → shared_block following r ≡ Some x
    → SharesOn following level refs left init (set now x (as_shared level (mark_at now x)))
SharesOn-one following level refs r left init now x h some =
    let first : shared_blocks following (r ∷ left) ≡ x ∷ shared_blocks following left = ap (λ o. cons_option o (shared_blocks following left)) some in
    let below : x < length now = within-shared following (length now) r left x h.within some in
    record {
      within = ap (λ count. are_within following count left) (length-set now x _) ∙ (and_parts _ _ h.within).1;
      marks = λ n. shared-step level x n now (shared_blocks following left) below
          ∙ ap (λ blocks. shared_at level blocks (mark_at now) n) (sym first) ∙ h.marks n;
      stays = Stays-then init now _ h.stays (Stays-shared now x level below);
    }
