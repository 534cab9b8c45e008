-- What a feed keeps, and what it says of contents.
use Rattle.std.proofs.Common.{◌≡◌, ◌≢◌, inl, inr, ℕ, zero, suc, ◌+◌, ◌*◌, ◌<◌, ◌≤◌, Bool, true, List, ◌∷◌, length, set, Option, Some, None, Result, Ok, Err, refl, sym, ap, subst, ◌∙◌, arith, true≢false}
use Rattle.std.specs.Prelude.{IfSome, IfNone, IsOk, OnOk, OnErr, MatchResult, replicate}
use Rattle.std.proofs.lemmas.List.{length-replicate}
use Rattle.std.proofs.lemmas.List.Sums.{sum_by-cons}
use Rattle.page_codec.specs.declared.why.BadPage.{BadPage}
use Rattle.prune_sweep.specs.declared.mark.Mark.{Mark}
use Rattle.prune_sweep.specs.declared.mark.Mark.TheVariants.{Unseen, Next, Wanted, Shared, Found, Kept}
use Rattle.prune_sweep.specs.declared.slots.Following.{Following}
use Rattle.prune_sweep.specs.declared.progress.Progress.{Progress}
use Rattle.prune_sweep.specs.Marks.{mark_at, is_open, is_to_read, reads_left, left_of}
use Rattle.prune_sweep.specs.Searching.{IsNext}
use Rattle.prune_sweep.specs.Naming.{StaysBut}
use Rattle.prune_sweep.specs.Progress.{is_reached, next_version, following_at, begun, read_mark}
use Rattle.prune_sweep.specs.Causes.{cause_of}
use Rattle.prune_sweep.specs.Reading.{Turned, PageRead, VersionRead, ReadAt, Reads}
use Rattle.prune_sweep.specs.Sweeps.{SweepState, IsSound}
use Rattle.prune_sweep.specs.Sweeping.{Sweeps, FindsFreed}
use Rattle.prune_sweep.proofs.SlotSteps.{left_of-set}
use Rattle.prune_sweep.proofs.MarkLists.{replicate-unseen}
use Rattle.prune_sweep.proofs.ReadSteps.{next_kept, next_named}
use Rattle.prune_sweep.proofs.Going.{Content, Fed, fed}
use Rattle.prune_sweep.proofs.Finding.{finds_freed}

-- the page of the next version is marked as such
abbrev pub HasNext : Progress → Type 0
HasNext known = IfSome known.after (λ n. mark_at known.marks n ≡ Next)

page_kept : (block level : ℕ) (f : Following) (stays : Bool) (bytes : List ℕ) (old new : Progress) (mark : Mark) → mark_at old.marks block ≡ mark → mark ≢ Next
    → PageRead block level f stays bytes old new → HasNext old → HasNext new
page_kept block level f stays bytes old new mark was not r has =
    subst HasNext (sym r.rest) (of old.after refl has)
  where
    of : (o : Option ℕ) → old.after ≡ o → IfSome o (λ n. mark_at old.marks n ≡ Next) → IfSome o (λ n. mark_at new.marks n ≡ Next)
    of None e h = h
    of (Some n) e h =
        next_kept block (read_mark stays) f (suc level) r.page.refs None old.marks new.marks r.marks n
        (λ same. not (sym was ∙ ap (mark_at old.marks) (sym same) ∙ h)) h

version_kept : (block : ℕ) (bytes : List ℕ) (old new : Progress) → mark_at old.marks block ≡ Next → VersionRead block bytes old new → HasNext new
version_kept block bytes old new was r = subst HasNext (sym r.taken.rest) (of (next_version old.upto r.version) r.taken.marks)
  where
    of : (o : Option ℕ)
        → Turned block (read_mark (is_reached old.upto r.version.serial)) (following_at (begun old.stage) (is_reached old.upto r.version.serial)) 1 r.version.page.refs o old.marks new.marks
        → IfSome o (λ n. mark_at new.marks n ≡ Next)
    of None t = tt
    of (Some x) t =
        next_named block (read_mark (is_reached old.upto r.version.serial)) (following_at (begun old.stage) (is_reached old.upto r.version.serial)) 1 r.version.page.refs x old.marks new.marks t
        (λ e. absurd (let g : Next ≡ Unseen = sym was ∙ e in cc))

reads_kept : (block : ℕ) (bytes : List ℕ) (old new : Progress) (mark : Mark) → mark_at old.marks block ≡ mark → ReadAt mark block bytes old new → HasNext old → HasNext new
reads_kept block bytes old new Unseen e r has = absurd r
reads_kept block bytes old new Next e r has = version_kept block bytes old new e r
reads_kept block bytes old new (Wanted level) e r has = page_kept block level _ _ bytes old new (Wanted level) e (λ f. cc) r has
reads_kept block bytes old new (Shared level) e r has = page_kept block level _ _ bytes old new (Shared level) e (λ f. cc) r has
reads_kept block bytes old new Found e r has = absurd r
reads_kept block bytes old new Kept e r has = absurd r

stays_kept : (old new : Progress) → StaysBut old new → HasNext old → HasNext new
stays_kept old new s has = subst HasNext (sym s.rest) (of old.after has)
  where
    of : (o : Option ℕ) → IfSome o (λ n. mark_at old.marks n ≡ Next) → IfSome o (λ n. mark_at new.marks n ≡ Next)
    of None h = h
    of (Some n) h = s.marks.next n h

pub next_stays : (block : ℕ) (bytes : List ℕ) (old new : Progress) (result : Result (Unit {0}) BadPage) → OnOk result (Reads block bytes old new) → OnErr result (StaysBut old new)
    → HasNext old → HasNext new
next_stays block bytes old new (Ok x) reads stays has = reads_kept block bytes old new (mark_at old.marks block) refl reads has
next_stays block bytes old new (Err e) reads stays has = stays_kept old new stays has

-- there are as many blocks as before
size_at : (block : ℕ) (bytes : List ℕ) (old new : Progress) (mark : Mark) → ReadAt mark block bytes old new → length new.marks ≡ length old.marks
size_at block bytes old new Unseen r = absurd r
size_at block bytes old new Next r = r.taken.marks.size
size_at block bytes old new (Wanted level) r = r.marks.size
size_at block bytes old new (Shared level) r = r.marks.size
size_at block bytes old new Found r = absurd r
size_at block bytes old new Kept r = absurd r

pub size_stays : (block : ℕ) (bytes : List ℕ) (old new : Progress) (result : Result (Unit {0}) BadPage) → OnOk result (Reads block bytes old new) → OnErr result (StaysBut old new)
    → length new.marks ≡ length old.marks
size_stays block bytes old new (Ok x) reads stays = size_at block bytes old new (mark_at old.marks block) reads
size_stays block bytes old new (Err e) reads stays = stays.marks.size

-- the block that is needed is to be read
pub needed_is : (known : Progress) (n : ℕ) → HasNext known → IsNext known.marks known.after (Some n) → is_to_read (mark_at known.marks n) ≡ true
needed_is known n has next = elim next [ inl open_one ↦ opened (mark_at known.marks n) open_one.here | inr version ↦ by known.after has version.1 ]
  where
    opened : (m : Mark) → is_open m ≡ true → is_to_read m ≡ true
    opened Unseen e = absurd (true≢false (sym e))
    opened Next e = refl
    opened (Wanted l) e = refl
    opened (Shared l) e = refl
    opened Found e = absurd (true≢false (sym e))
    opened Kept e = absurd (true≢false (sym e))

    by : (o : Option ℕ) → IfSome o (λ x. mark_at known.marks x ≡ Next) → o ≡ Some n → is_to_read (mark_at known.marks n) ≡ true
    by None h e = absurd cc
    by (Some x) h e = let same : x ≡ n = cc in ap is_to_read (ap (mark_at known.marks) (sym same) ∙ h)

-- a block that contents hold is taken, and the sweep goes on
pub goes_on : (s : SweepState) (new : Progress) (at : ℕ) (bytes : List ℕ) (result : Result (Unit {0}) BadPage) → IsSound s → s.next ≡ Some at
    → MatchResult result (λ _. cause_of s.known at bytes ≡ None) (λ e. cause_of s.known at bytes ≡ Some e.why) → OnOk result (Reads at bytes s.known new)
    → (content : Content) (roots : List ℕ) (m n : ℕ) → Sweeps content roots m s.known → s.next ≡ Some n → content n ≡ Some bytes
    → IsOk result × Sweeps content roots m new
goes_on s new at bytes result sound needs causes reads content roots m n sweeps is holds = of result causes reads
  where
    same : n ≡ at
    same = let e : Some n ≡ Some at = sym is ∙ needs in cc

    f : Fed content roots m at bytes s.known
    f =
        fed content roots m at bytes s.known sweeps sound.after (subst (IsNext s.known.marks s.known.after) needs sound.next)
        (ap content (sym same) ∙ holds)

    of : (r : Result (Unit {0}) BadPage) → MatchResult r (λ _. cause_of s.known at bytes ≡ None) (λ e. cause_of s.known at bytes ≡ Some e.why)
        → OnOk r (Reads at bytes s.known new) → IsOk r × Sweeps content roots m new
    of (Ok x) c r = (refl, f.on new r)
    of (Err e) c r = absurd (let g : None ≡ Some e.why = sym f.told ∙ c in cc)

-- ---- where nothing is needed

pub need_finds : (s : SweepState) → IsSound s → IfNone s.next (FindsFreed s)
need_finds s sound = of s.next sound.next
  where
    of : (o : Option ℕ) → IsNext s.known.marks s.known.after o → IfNone o (FindsFreed s)
    of None h = finds_freed s h.0 h.1
    of (Some n) h = tt

pub freed_finds : (s : SweepState) → IsSound s → s.next ≡ None → FindsFreed s
freed_finds s sound none = let h : IsNext s.known.marks s.known.after None = subst (IsNext s.known.marks s.known.after) none sound.next in finds_freed s h.0 h.1

-- ---- how many reads are left at the beginning

replicate-left : (count : ℕ) → left_of (replicate count Unseen) ≡ 2 * count
replicate-left zero = refl
replicate-left (suc count) =
    let e : left_of (replicate count Unseen) ≡ 2 * count = replicate-left count in
    let one : left_of (Unseen ∷ replicate count Unseen) ≡ 2 + left_of (replicate count Unseen) = sum_by-cons reads_left Unseen (replicate count Unseen) in
    one ∙ (omega (arith, e))

pub start_left : (count first : ℕ) → first < count → left_of (set (replicate count Unseen) first Next) ≤ 2 * count
start_left count first below =
    let size : length (replicate count Unseen) ≡ count = length-replicate count Unseen in
    let sum : left_of (set (replicate count Unseen) first Next) + reads_left (mark_at (replicate count Unseen) first) ≡ left_of (replicate count Unseen) + 2 =
    left_of-set (replicate count Unseen) first Next (omega (arith, size, below)) in
    let two : reads_left (mark_at (replicate count Unseen) first) ≡ 2 = ap reads_left (replicate-unseen count first) in
    let all : left_of (replicate count Unseen) ≡ 2 * count = replicate-left count in
    omega arith
