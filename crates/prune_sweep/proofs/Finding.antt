-- How a sweep begins, and what it has found where nothing is needed.
use Rattle.std.proofs.Common.{◌≡◌, ◌⊎◌, ◌↔◌, inl, inr, ℕ, zero, suc, ◌<◌, ◌≤◌, List, [], ◌∷◌, length, set, Option, Some, None, refl, sym, ap, subst, ◌∙◌, arith, slice_get}
use Rattle.std.specs.Prelude.{replicate, MatchOption}
use Rattle.std.proofs.lemmas.Bool.{cases_eq}
use Rattle.std.proofs.lemmas.List.{length-set, length-replicate}
use Rattle.store_model.specs.Laws.{pages_of}
use Rattle.prune_sweep.specs.declared.mark.Mark.{Mark}
use Rattle.prune_sweep.specs.declared.mark.Mark.TheVariants.{Unseen, Next, Found, Kept}
use Rattle.prune_sweep.specs.declared.progress.Progress.{Progress}
use Rattle.prune_sweep.specs.Marks.{mark_at}
use Rattle.prune_sweep.specs.Searching.{NoneOpen}
use Rattle.prune_sweep.specs.Sweeps.{SweepState, started}
use Rattle.prune_sweep.specs.Line.{IsPageBefore, IsFreed, IsFile}
use Rattle.prune_sweep.specs.Sweeping.{SaysGone, Ready, Phase, starts, goes, stays, Sweeps, Begins, FindsFreed, KnowsReached}
use Rattle.prune_sweep.proofs.Lines.{one_root}
use Rattle.prune_sweep.proofs.SlotSteps.{mark_at-same, mark_at-other}
use Rattle.prune_sweep.proofs.MarkLists.{replicate-unseen, found_blocks-has}
use Rattle.prune_sweep.proofs.Dropping.{dropping_done}
use Rattle.prune_sweep.proofs.Keeping.{keeping_done, dropping_frees}

-- ---- the beginning

pub begins : (count first : ℕ) (upto : Option ℕ) → Begins count first upto (started count first upto)
begins count first upto content roots m file linked at =
    record {
      file = subst (λ n. IsFile content n upto roots m) (sym size) file;
      linked = λ i root version has low unread holds. linked i root version has low tt holds;
      phase = starts (record { before = λ n h. none n h; says = says }) refl (sym at) refl;
    }
  where
    marks : List Mark
    marks = set (replicate count Unseen) first Next

    size : length marks ≡ count
    size = length-set (replicate count Unseen) first Next ∙ length-replicate count Unseen

    below : first < length (replicate count Unseen)
    below = let h : first < count = (file.line.held 0 first [] first at refl).below in let e : length (replicate count Unseen) ≡ count = length-replicate count Unseen in omega (arith, h, e)

    none : (n : ℕ) → IsPageBefore (pages_of content) roots 0 n → mark_at marks n ≡ Found
    none n h = let low : h.0 < 0 = h.2 in absurd (omega (arith, low))

    says : (n : ℕ) → (mark_at marks n ≡ Unseen) ⊎ (((mark_at marks n ≡ Found) × IsPageBefore (pages_of content) roots 0 n) ⊎ ((mark_at marks n ≡ Next) × (slice_get roots 0 ≡ Some n)))
    says n = elim (cases_eq n first) [
      | inl e ↦ inr (inr (ap (mark_at marks) e ∙ mark_at-same (replicate count Unseen) first Next below, at ∙ ap Some (sym e)))
      | inr ne ↦ inl (mark_at-other (replicate count Unseen) first n Next ne ∙ replicate-unseen count n)
    ]

-- ---- the end

ends_at : (xs : List ℕ) (i : ℕ) → slice_get xs i ≡ None → length xs ≤ i
ends_at [] i e = omega arith
ends_at (x ∷ xs) zero e = absurd cc
ends_at (x ∷ xs) (suc i) e = let h : length xs ≤ i = ends_at xs i e in omega (arith, h)

found_is_freed : (content : ℕ → Option (List ℕ)) (roots : List ℕ) (m : ℕ) (known : Progress) → Sweeps content roots m known → NoneOpen known.marks → known.after ≡ None
    → (n : ℕ) → (mark_at known.marks n ≡ Found) ↔ IsFreed (pages_of content) roots m n
found_is_freed content roots m known s none nil n = by s.phase
  where
    whole : (i : ℕ) → i < m → length roots ≤ suc i → (o : Option ℕ) → MatchOption o (m ≡ length roots) (λ _. m < length roots) → (suc i ≡ m) × (m ≡ length roots)
    whole i low past None place = (let e : m ≡ length roots = place in omega (arith, low, past, e), place)
    whole i low past (Some y) place = let e : m < length roots = place in absurd (omega (arith, low, past, e))

    by : Phase (pages_of content) roots m known → (mark_at known.marks n ≡ Found) ↔ IsFreed (pages_of content) roots m n
    by (starts ready stage after reached) = absurd (let e : None ≡ Some s.file.some.0 = sym nil ∙ after ∙ s.file.some.1 in cc)
    by (goes i low d stage after reached) =
        let past : length roots ≤ suc i = ends_at roots (suc i) (sym after ∙ nil) in
        let ends = whole i low past known.upto s.file.place in
        let all : suc i ≡ length roots = ends.0 ∙ ends.1 in
        subst (λ k. (mark_at known.marks n ≡ Found) ↔ IsFreed (pages_of content) roots k n) (sym ends.1)
        (dropping_frees (pages_of content) roots known.marks
        (subst (λ k. Ready (pages_of content) roots k (mark_at known.marks)) all (dropping_done (pages_of content) roots i known.marks d none)) n)
    by (stays k stage after reached) = keeping_done (pages_of content) (length known.marks) roots s.file.line m known.marks k none n

pub finds_freed : (s : SweepState) → NoneOpen s.known.marks → s.known.after ≡ None → FindsFreed s
finds_freed s none nil content roots m sweeps n =
    let is = found_is_freed content roots m s.known sweeps none nil n in
    let has = found_blocks-has s.known.marks n in
    (λ h. is.0 (has.0 h), λ h. has.1 (is.1 h))

-- ---- the version that stays

pub knows_reached : (known : Progress) → KnowsReached known
knows_reached known content roots m s n = by s.phase
  where
    by : Phase (pages_of content) roots m known → (known.reached ≡ Some n) ↔ ((slice_get roots m ≡ Some n) × (mark_at known.marks n ≡ Kept))
    by (starts ready stage after reached) = (
      λ e. absurd (let f : None ≡ Some n = sym reached ∙ e in cc),
      λ h. absurd (elim (ready.says n) [
        | inl u ↦ let f : Unseen ≡ Kept = sym u ∙ h.1 in cc
        | inr rest ↦ elim rest [ inl b ↦ let f : Found ≡ Kept = sym b.0 ∙ h.1 in cc | inr x ↦ let f : Next ≡ Kept = sym x.0 ∙ h.1 in cc ]
      ]),
    )
    by (goes i low d stage after reached) = (
      λ e. absurd (let f : None ≡ Some n = sym reached ∙ e in cc),
      λ h. absurd (subst (SaysGone (pages_of content) roots i n) h.1 (d.says n)),
    )
    by (stays k stage after reached) = (
      λ e.
          let at : slice_get roots m ≡ Some n = sym reached ∙ e in
          (at, ap (mark_at known.marks) (one_root roots m n k.root at k.at) ∙ k.begun),
      λ h. reached ∙ h.0,
    )
