-- Where a walk begins, and where it ends.
use Rattle.std.proofs.Common.{◌≡◌, ℕ, zero, suc, ◌<◌, ◌≤◌, Bool, true, false, not, ◌&&◌, cond, nat_lt, nat_eq, List, [], ◌∷◌, ◌++◌, length, slice_get, ◌⊎◌, inl, inr, refl, sym, ap, subst, ◌∙◌, Option, Some, None, is_some, arith, eq-eqb, ltb-true, ltb-false, true≢false}
use Rattle.std.specs.Option.{option_map_or, option_and_then}
use Rattle.afs_base.specs.Path.{is_prefix}
use Rattle.afs_base.specs.declared.kind.Kind.TheVariants.{Data, Slot}
use Rattle.ref_flags.specs.Flagged.{Flagged}
use Rattle.tree_model.specs.declared.step.Step.{Step}
use Rattle.tree_model.specs.declared.step.Step.TheVariants.{ReadAt, ListAt, WriteAt, MakeAt, DropAt}
use Rattle.tree_model.specs.Trees.{Tree, has, IsTree, after, tree_after}
use Rattle.tree_model.specs.Accesses.{Place, is_among, slot_of, on_the_way, slots_at, target, own_reads, step_reads, step_writes, all_reads, all_writes, reads_of, visible_of, IsClash}
use Rattle.tree_model.proofs.Paths.{told, never, false_if, or_told, or_left, or_right, both_true}
use Rattle.tree_model.proofs.PlaceFacts.{among_left, among_right, among_first, if_among, on_way, slots_among}
use Rattle.page_codec.specs.Values.{ReferenceValue, PageValue}
use Rattle.page_places.specs.Places.{Store, same, slot_block, has_bit}
use Rattle.draft_model.specs.Views.{Copied, View, copies, live, writes_kind}
use Rattle.draft_model.specs.Stands.{StandsFor}
use Rattle.draft_model.specs.Told.{is_one_of}
use Rattle.draft_model.proofs.Facts.{and_false}
use Rattle.joint_walk.proofs.Counting.{no_longer}
use Rattle.draft_model.proofs.Flushing.{copied_at}
use Rattle.draft_tree.specs.Drafts.{merged_page}
use Rattle.page_merge.specs.Jobs.{JobValue, merged_slot, merged_slots, merged}
use Rattle.page_merge.proofs.Slots.{slots_get, slots_none}
use Rattle.joint_walk.proofs.Joins.{joined_block, IsMergedAt, IsJoined}
use Rattle.joint_walk.specs.Later.{is_path_of, did_access, is_own, AreMarks}
use Rattle.joint_walk.specs.Walks.{Pair, WalkValue, is_pending, is_shared, IsJobAt, waits, IsSetting, GoesOn}
use Rattle.joint_walk.specs.Endings.{AreShared}
use Rattle.joint_walk.specs.Calls.{top_of}
use Rattle.joint_walk.proofs.Places.{none_some}
use Rattle.joint_walk.proofs.Joining.{stands_joined}
use Rattle.joint_walk.proofs.Using.{path_of_place}
use Rattle.joint_walk.proofs.Walking.{both_met, met_shared}

-- a walk before its first page: `/`, in the later version's page
abbrev pub first_pending : ℕ → Flagged → WalkValue
first_pending root flags = record { pair = None; pending = top_of root flags ∷ []; clash = None }

-- ---- an update of at least one step accesses `/`

top_step : (a : Tree) (step : Step) → IsTree a → (is_path_of (step_reads a [] step) [] ≡ true) ⊎ (is_path_of (step_writes a step) [] ≡ true)
top_step a step tree = by step (target step) refl
  where
    way : (step : Step) (s : ℕ) (p : List ℕ) → target step ≡ s ∷ p → is_path_of (step_reads a [] step) [] ≡ true
    way step s p e =
        let on : is_among (on_the_way a (target step)) (slot_of ([], s)) ≡ true =
        on_way a (target step) ([], s) tree.root (ap (is_prefix (s ∷ [])) e ∙ both_true (nat_eq s s) true (eq-eqb s s refl) refl) in
        path_of_place (step_reads a [] step) ([], Slot s) (among_left (on_the_way a (target step)) (own_reads a [] step) ([], Slot s) on)

    by : (step : Step) (q : List ℕ) → target step ≡ q → (is_path_of (step_reads a [] step) [] ≡ true) ⊎ (is_path_of (step_writes a step) [] ≡ true)
    by step (s ∷ p) e = inl (way step s p e)
    by (ReadAt p) [] e = inl (path_of_place (step_reads a [] (ReadAt p)) ([], Data) (among_right (on_the_way a p) (own_reads a [] (ReadAt p)) ([], Data)
        (if_among (has a p && not false) ((p, Data) ∷ []) ([], Data) (both_true (has a p) true (ap (has a) e ∙ tree.root) refl)
        (ap (λ (y : List ℕ). is_among ((y, Data) ∷ []) ([], Data)) e ∙ among_first ([], Data) []))))
    by (ListAt p) [] e = inl (path_of_place (step_reads a [] (ListAt p)) ([], Slot 0) (among_right (on_the_way a p) (own_reads a [] (ListAt p)) ([], Slot 0)
        (if_among (has a p) (slots_at p) ([], Slot 0) (ap (has a) e ∙ tree.root) (ap (λ (y : List ℕ). is_among (slots_at y) ([], Slot 0)) e ∙ slots_among [] 0 (omega arith)))))
    by (WriteAt p bytes) [] e = inr (path_of_place (step_writes a (WriteAt p bytes)) ([], Data)
        (if_among (has a p) ((p, Data) ∷ []) ([], Data) (ap (has a) e ∙ tree.root) (ap (λ (y : List ℕ). is_among ((y, Data) ∷ []) ([], Data)) e ∙ among_first ([], Data) [])))
    by (MakeAt c) [] e = absurd (not_top c.0 c.1 e)
      where
        not_top : (p : List ℕ) (s : ℕ) → p ++ s ∷ [] ≡ [] → ⊥
        not_top [] s g = true≢false (ap is_top (sym g))
          where
            is_top : List ℕ → Bool
            is_top [] = true
            is_top (x ∷ q) = false
        not_top (x ∷ p) s g = true≢false (ap is_top (sym g))
          where
            is_top : List ℕ → Bool
            is_top [] = true
            is_top (x ∷ q) = false
    by (DropAt c) [] e = absurd (not_top c.0 c.1 e)
      where
        not_top : (p : List ℕ) (s : ℕ) → p ++ s ∷ [] ≡ [] → ⊥
        not_top [] s g = true≢false (ap is_top (sym g))
          where
            is_top : List ℕ → Bool
            is_top [] = true
            is_top (x ∷ q) = false
        not_top (x ∷ p) s g = true≢false (ap is_top (sym g))
          where
            is_top : List ℕ → Bool
            is_top [] = true
            is_top (x ∷ q) = false

path_left : (xs ys : List Place) (p : List ℕ) → is_path_of xs p ≡ true → is_path_of (xs ++ ys) p ≡ true
path_left [] ys p h = never h refl
path_left (x ∷ xs) ys p h = elim (or_told (same p x.0) (is_path_of xs p) h) [
  | inl e ↦ or_left (same p x.0) (is_path_of (xs ++ ys) p) e
  | inr e ↦ or_right (same p x.0) (is_path_of (xs ++ ys) p) (path_left xs ys p e)
]

pub top_accessed : (a : Tree) (steps : List Step) → IsTree a → 0 < length steps → did_access a steps [] ≡ true
top_accessed a [] tree some = absurd (omega arith)
top_accessed a (step ∷ steps) tree some = elim (top_step a step tree) [
  | inl e ↦ or_left (is_path_of (all_reads a [] (step ∷ steps)) []) (is_path_of (all_writes a (step ∷ steps)) [])
      (path_left (step_reads a [] step) (all_reads (after a step) (step_writes a step) steps) [] e)
  | inr e ↦ or_right (is_path_of (all_reads a [] (step ∷ steps)) []) (is_path_of (all_writes a (step ∷ steps)) [])
      (path_left (step_writes a step) (all_writes (after a step) steps) [] e)
]

-- ---- the slots of a merged page

joined_none : (kept changed : Bool) → joined_block kept changed None None ≡ None
joined_none true c = refl
joined_none false true = refl
joined_none false false = refl

merged_block : (kept changed : Bool) (m t : ReferenceValue) → (merged_slot kept changed m t).block ≡ joined_block kept changed m.block t.block
merged_block true c m t = refl
merged_block false true m t = refl
merged_block false false m t = refl

none_get : (xs : List ReferenceValue) (k : ℕ) → slice_get xs k ≡ None → length xs ≤ k
none_get [] k e = omega arith
none_get (x ∷ xs) zero e = none_some x (Some x) e refl
none_get (x ∷ xs) (suc k) e = let rest = none_get xs k e in omega (arith, rest)

get_none : (xs : List ReferenceValue) (k : ℕ) → length xs ≤ k → slice_get xs k ≡ None
get_none [] k h = refl
get_none (x ∷ xs) zero h = absurd (omega arith)
get_none (x ∷ xs) (suc k) h = get_none xs k (omega arith)

get_some : (xs : List ReferenceValue) (k : ℕ) → k < length xs → (x : ReferenceValue) × (slice_get xs k ≡ Some x)
get_some [] k h = absurd (omega arith)
get_some (x ∷ xs) zero h = (x, refl)
get_some (x ∷ xs) (suc k) h = get_some xs k (omega arith)

some_get : (xs : List ReferenceValue) (k : ℕ) (x : ReferenceValue) → slice_get xs k ≡ Some x → k < length xs
some_get [] k x e = none_some x None refl e
some_get (y ∷ xs) zero x e = omega arith
some_get (y ∷ xs) (suc k) x e = let rest = some_get xs k x e in omega (arith, rest)

abbrev named : Option ReferenceValue → Option ℕ
named v = option_and_then (λ (y : ReferenceValue). y.block) v

pub slots_joined : (kept changed s : ℕ) (mine theirs : List ReferenceValue) → length mine ≡ 16 → length theirs ≡ 16
    → named (slice_get (merged_slots kept changed 0 mine theirs) s) ≡ joined_block (has_bit kept s) (has_bit changed s) (named (slice_get mine s)) (named (slice_get theirs s))
slots_joined kept changed s mine theirs e f = by (slice_get mine s) refl
  where
    by : (v : Option ReferenceValue) → slice_get mine s ≡ v
        → named (slice_get (merged_slots kept changed 0 mine theirs) s) ≡ joined_block (has_bit kept s) (has_bit changed s) (named (slice_get mine s)) (named (slice_get theirs s))
    by None g =
        let high : length theirs ≤ s = let low = none_get mine s g in omega (arith, low, e, f) in
        ap named (slots_none kept changed 0 mine theirs s g)
        ∙ sym (joined_none (has_bit kept s) (has_bit changed s))
        ∙ sym (λ i. joined_block (has_bit kept s) (has_bit changed s) (named (g i)) (named (get_none theirs s high i)))
    by (Some m) g =
        let t = get_some theirs s (let low = some_get mine s m g in omega (arith, low, e, f)) in
        ap named (slots_get kept changed 0 mine theirs s s m t.0 (omega arith) g t.1)
        ∙ merged_block (has_bit kept s) (has_bit changed s) m t.0
        ∙ sym (λ i. joined_block (has_bit kept s) (has_bit changed s) (named (g i)) (named (t.1 i)))

module _ (store : Store) (base root : ℕ) (a : Tree) (mine other : List Step) (start : View) (setting : IsSetting store base root a mine other start) where
  abbrev b : Tree
  b = tree_after a other

  -- ---- the beginning: `/` is to be read

  pub begins : (flags : Flagged) → AreMarks a other [] flags → GoesOn store root a mine other start [] (first_pending root flags) start
  begins flags marks = record {
    has_fed = record {
      rising = refl;
      shared = λ p h. never h refl;
      apart = (tt, tt);
      wanted = (
        record {
          shared = both_true (is_own a other []) (did_access a mine []) top_fresh setting.some;
          at = refl;
          marks = marks;
          ahead = λ p h. never h refl;
        },
        tt,
      );
      cover = λ p h. refl;
    };
    last = tt;
    settled = λ p h unwaited. never h refl;
    rest = λ p h. refl;
  }
    where
      top_fresh : is_own a other [] ≡ true
      top_fresh = both_true (has b []) true (ap is_some (setting.later.holds.page [] root refl).2) refl

  -- ---- the end

  module _ (fed : List (List ℕ)) (w : WalkValue) (d : View) (goes : GoesOn store root a mine other start fed w d) (idle : w.pair ≡ None) (all_read : w.pending ≡ []) where
    in_fed : (p : List ℕ) → is_shared a mine other p ≡ true → is_one_of fed p ≡ true
    in_fed p h = elim (or_told (is_one_of fed p) (is_pending w.pending p) (goes.has_fed.cover p h)) [
      | inl e ↦ e
      | inr e ↦ never e (ap (λ ps. is_pending ps p) all_read)
    ]

    unwaited : (p : List ℕ) → waits w.pair p ≡ false
    unwaited p = ap (λ (v : Option Pair). waits v p) idle

    pub no_clash : IsClash (reads_of a mine) (visible_of a other) None
    no_clash x read = false_if _ (λ seen.
        let met = both_met store base root a mine other start setting x read seen in
        let shared = met_shared store base root a mine other start setting x.0 x.1 met.0 met.1 in
        sym ((goes.settled x.0 (in_fed x.0 shared) (unwaited x.0)).unmet x.1 met.2) ∙ met.0)

    joined : IsJoined store root (is_own a other) start d
    joined p = elim (told (is_one_of fed p)) [
      | inl e ↦ elim (told (live (copies start) p)) [
        | inl here ↦
            let copy = copied_at start p here in
            let m = (goes.settled p e (unwaited p)).merged copy.0 copy.1 copy.2.live in
            inr (copy.0, merged_page (merged m.0) copy.0, copy.1, m.2, by copy.0 copy.1 copy.2.live m.0 m.1)
        | inr dead ↦ inl (
          goes.rest p (ap (λ c. is_one_of fed p && (not (waits w.pair p) && c)) dead ∙ ap (λ c. is_one_of fed p && c) (and_false (not (waits w.pair p))) ∙ and_false (is_one_of fed p)),
          λ fresh. dead,
        )
      ]
      | inr e ↦ inl (
        goes.rest p (ap (λ c. c && (not (waits w.pair p) && live (copies start) p)) e),
        λ fresh. false_if _ (λ here. sym e ∙ in_fed p (both_true (is_own a other p) (did_access a mine p) fresh (setting.accessed p here))),
      )
    ]
      where
        by : (c : Copied) → start p ≡ Some c → c.live ≡ true → (job : JobValue) → IsJobAt store root a mine other start p job
            → IsMergedAt store root (copies start) p c (merged_page (merged job) c)
        by c at here job J = record {
          block = J.block;
          theirs = job.theirs;
          at = J.at;
          page = J.theirs;
          stays = refl;
          read = refl;
          written = refl;
          searched = refl;
          modified = refl;
          level = refl;
          bytes = λ i. cond (wrote i) ((J.page c at here i).bytes) job.theirs.bytes;
          slot = λ s. slots_joined job.kept job.modified s job.mine.refs job.theirs.refs J.sixteen (setting.later.whole J.block job.theirs J.theirs) ∙ slot_is s;
        }
          where
            wrote : job.marks.written ≡ c.written
            wrote = J.written ∙ sym (setting.stands.stands.written p Data tt) ∙ ap (λ (v : Option Copied). option_map_or (λ (y : Copied). y.written) v false) at

            slot_is : (s : ℕ) → joined_block (has_bit job.kept s) (has_bit job.modified s) (named (slice_get job.mine.refs s)) (named (slice_get job.theirs.refs s))
                ≡ joined_block (live (copies start) (p ++ s ∷ [])) (has_bit c.page.modified s) (slot_block c.page s) (slot_block job.theirs s)
            slot_is s = elim (told (nat_lt (length p) 7)) [
              | inl deep ↦ elim (told (nat_lt s 16)) [ inl low ↦ inside (ltb-true (length p) 7 deep) (ltb-true s 16 low) | inr high ↦ outside (ltb-false s 16 high) ]
              | inr deep ↦ nothing (let high = ltb-false (length p) 7 deep in omega (arith, high, J.short))
            ]
              where
                nothing : length p ≡ 7 → joined_block (has_bit job.kept s) (has_bit job.modified s) (named (slice_get job.mine.refs s)) (named (slice_get job.theirs.refs s))
                    ≡ joined_block (live (copies start) (p ++ s ∷ [])) (has_bit c.page.modified s) (slot_block c.page s) (slot_block job.theirs s)
                nothing deep =
                    let both = J.leaf deep s in
                    let g : slot_block c.page s ≡ None = ap (λ (y : PageValue). slot_block y s) (sym (J.page c at here)) ∙ both.0 in
                    (λ i. joined_block (has_bit job.kept s) (has_bit job.modified s) (both.0 i) (both.1 i))
                    ∙ joined_none (has_bit job.kept s) (has_bit job.modified s)
                    ∙ sym (joined_none (live (copies start) (p ++ s ∷ [])) (has_bit c.page.modified s))
                    ∙ sym (λ i. joined_block (live (copies start) (p ++ s ∷ [])) (has_bit c.page.modified s) (g i) (both.1 i))

                inside : length p < 7 → s < 16 → joined_block (has_bit job.kept s) (has_bit job.modified s) (named (slice_get job.mine.refs s)) (named (slice_get job.theirs.refs s))
                    ≡ joined_block (live (copies start) (p ++ s ∷ [])) (has_bit c.page.modified s) (slot_block c.page s) (slot_block job.theirs s)
                inside deep small =
                    let changed : has_bit job.modified s ≡ has_bit c.page.modified s =
                    J.modified s small ∙ sym (setting.stands.stands.written p (Slot s) small) ∙ ap (λ (v : Option Copied). option_map_or (λ (y : Copied). writes_kind y (Slot s)) v false) at in
                    λ i. joined_block (J.kept deep s small i) (changed i) (slot_block (J.page c at here i) s) (slot_block job.theirs s)

                outside : 16 ≤ s → joined_block (has_bit job.kept s) (has_bit job.modified s) (named (slice_get job.mine.refs s)) (named (slice_get job.theirs.refs s))
                    ≡ joined_block (live (copies start) (p ++ s ∷ [])) (has_bit c.page.modified s) (slot_block c.page s) (slot_block job.theirs s)
                outside high =
                    let e = get_none job.mine.refs s (let P : ℕ → Type 0 = λ n. n ≤ s in subst P (sym J.sixteen) high) in
                    let f = get_none job.theirs.refs s (let P : ℕ → Type 0 = λ n. n ≤ s in subst P (sym (setting.later.whole J.block job.theirs J.theirs)) high) in
                    let g : slot_block c.page s ≡ None = ap (λ (y : PageValue). slot_block y s) (sym (J.page c at here)) ∙ ap named e in
                    (λ i. joined_block (has_bit job.kept s) (has_bit job.modified s) (named (e i)) (named (f i)))
                    ∙ joined_none (has_bit job.kept s) (has_bit job.modified s)
                    ∙ sym (joined_none (live (copies start) (p ++ s ∷ [])) (has_bit c.page.modified s))
                    ∙ sym (λ i. joined_block (live (copies start) (p ++ s ∷ [])) (has_bit c.page.modified s) (g i) (named (f i)))

    -- the draft is carried over
    pub carried : StandsFor store root (tree_after a other) mine d
    carried = stands_joined store base root a mine other start setting.stands setting.later no_clash setting.accessed d joined

    -- as many pages were fed as both updates share
    pub fed_exactly : (paths : List (List ℕ)) → AreShared a mine other paths → (length paths ≤ length fed) × (length fed ≤ length paths)
    fed_exactly paths are = (
      no_longer paths fed are.rising (λ p h. in_fed p (sym (are.each p) ∙ h)),
      no_longer fed paths goes.has_fed.rising (λ p h. are.each p ∙ goes.has_fed.shared p h),
    )
