-- How a walk goes on: a pair is settled, a page is fed, and the end.
use Rattle.std.proofs.Common.{◌≡◌, ℕ, zero, suc, ◌+◌, ◌<◌, ◌≤◌, Bool, true, false, not, ◌&&◌, ◌||◌, cond, nat_lt, nat_eq, List, [], ◌∷◌, ◌++◌, length, slice_get, ◌⊎◌, inl, inr, refl, sym, ap, subst, ◌∙◌, Option, Some, None, option_map, arith, ltb-true, ltb-false}
use Rattle.std.specs.Option.{option_map_or, option_and_then}
use Rattle.std.specs.List.{list_any, list_all}
use Rattle.std.specs.Cmp.{first_so, second_so}
use Rattle.std.specs.FinSet as set
use Rattle.std.specs.Ordering.{is_lt, nat_cmp}
use Rattle.std.specs.declared.cmp.Ordering.TheVariants.{Less, Equal, Greater}
use Rattle.std.proofs.lemmas.List.Folds.{list_any-append}
use Rattle.afs_base.specs.Path.{path_cmp, is_prefix}
use Rattle.afs_base.specs.Kind.{kind_place}
use Rattle.afs_base.specs.declared.kind.Kind.{Kind}
use Rattle.afs_base.specs.declared.kind.Kind.TheVariants.{Data, Slot}
use Rattle.ref_flags.specs.Flagged.{Flagged, no_flags}
use Rattle.tree_model.specs.declared.step.Step.{Step}
use Rattle.tree_model.specs.Trees.{Tree, has, IsTree, tree_after}
use Rattle.tree_model.specs.Accesses.{Place, place_cmp, is_among, all_reads, all_writes, reads_of, visible_of, touches}
use Rattle.tree_model.proofs.Paths.{told, never, false_if, or_told, or_left, or_right, both_true, same_self, same_is, path_told, prefix_self, prefix_above, prefix_append, prefix_told, prefix_trans}
use Rattle.tree_model.proofs.TreeFacts.{tree_steps}
use Rattle.tree_model.proofs.PlaceFacts.{place_total}
use Rattle.tree_model.proofs.Law.{shown}
use Rattle.page_codec.specs.Values.{ReferenceValue, PageValue}
use Rattle.page_places.specs.Places.{Store, same, slot_block, block_at, has_bit}
use Rattle.draft_model.specs.Views.{Copied, View, PageCopy, copy_of, copies, live}
use Rattle.draft_model.specs.Stands.{IsKind}
use Rattle.draft_model.specs.Told.{are_rising, is_one_of}
use Rattle.page_places.proofs.Facts.{block_at_child, at_root}
use Rattle.draft_model.proofs.Facts.{and_false, or_false, push}
use Rattle.draft_model.proofs.Feeding.{holds_tree}
use Rattle.draft_model.proofs.Telling.{touched, touches_of, writes_kinds}
use Rattle.draft_tree.specs.Drafts.{merged_page}
use Rattle.page_merge.specs.Jobs.{JobValue, first_shared, clash_of, merged}
use Rattle.page_merge.proofs.Firsts.{IsFirst, found_first, found_none}
use Rattle.joint_walk.specs.Later.{is_path_of, did_access, is_own, slot_flags, AreMarks}
use Rattle.joint_walk.specs.Pairs.{settled_view}
use Rattle.joint_walk.specs.Walks.{Pending, Pair, WalkValue, is_before, AllOf, AreApart, is_pending, waits, is_shared, is_met, IsUnmet, IsJobAt, put_wanted, wanted_children, IsSetting, IsWanted, HasFed, IsLast, IsSettled, GoesOn, HasClash}
use Rattle.joint_walk.proofs.Places.{none_some, holds_some, holds_slots, child_slot, slot_below}
use Rattle.joint_walk.proofs.Joining.{path_place}
use Rattle.joint_walk.proofs.Using.{way_reads, path_of_place}
use Rattle.joint_walk.proofs.Order.{earlier, earlier_lt, lt_earlier, earlier_trans, earlier_below, earlier_prefix, before_earlier, before_below, before_child, place_later, place_here}

-- ---- lists of pending pages

all_append : (P : Pending → Type 0) (xs ys : List Pending) → AllOf P xs → AllOf P ys → AllOf P (xs ++ ys)
all_append P [] ys f g = g
all_append P (x ∷ xs) ys f g = (f.0, all_append P xs ys f.1 g)

all_map : (P Q : Pending → Type 0) (xs : List Pending) → ((x : Pending) → P x → Q x) → AllOf P xs → AllOf Q xs
all_map P Q [] h f = tt
all_map P Q (x ∷ xs) h f = (h x f.0, all_map P Q xs h f.1)

any_all : (P : Pending → Type 0) (test : Pending → Bool) (xs : List Pending) → AllOf P xs → list_any test xs ≡ true → (x : Pending) × P x × (test x ≡ true)
any_all P test [] f h = never h refl
any_all P test (x ∷ xs) f h = by (or_told (test x) (list_any test xs) h) (any_all P test xs f.1)
  where
    by : (test x ≡ true) ⊎ (list_any test xs ≡ true) → (list_any test xs ≡ true → (y : Pending) × P y × (test y ≡ true)) → (y : Pending) × P y × (test y ≡ true)
    by (inl e) rest = (x, f.0, e)
    by (inr e) rest = rest e

apart_append : (xs ys : List Pending) → AreApart xs → AreApart ys → AllOf (λ x. AllOf (λ y. is_before x.path y.path ≡ true) ys) xs → AreApart (xs ++ ys)
apart_append [] ys f g h = g
apart_append (x ∷ xs) ys f g h = (all_append (λ (y : Pending). is_before x.path y.path ≡ true) xs ys f.0 h.0, apart_append xs ys f.1 g h.1)

-- one more path at the end
one_push : (fed : List (List ℕ)) (q p : List ℕ) → is_one_of (fed ++ q ∷ []) p ≡ (is_one_of fed p || same p q)
one_push fed q p = list_any-append (λ (x : List ℕ). same p x) fed (q ∷ []) ∙ ap (λ b. is_one_of fed p || b) (or_false (same p q))

pub one_told : (fed : List (List ℕ)) (q p : List ℕ) → is_one_of (fed ++ q ∷ []) p ≡ true → (is_one_of fed p ≡ true) ⊎ (p ≡ q)
one_told fed q p h = elim (or_told (is_one_of fed p) (same p q) (sym (one_push fed q p) ∙ h)) [ inl e ↦ inl e | inr e ↦ inr (same_is p q e) ]

pub rising_push : (fed : List (List ℕ)) (q : List ℕ) → are_rising fed ≡ true → ((p : List ℕ) → is_one_of fed p ≡ true → is_lt (path_cmp p q) ≡ true) → are_rising (fed ++ q ∷ []) ≡ true
rising_push [] q rising ahead = refl
rising_push (x ∷ fed) q rising ahead =
    both_true (list_all (λ y. is_lt (path_cmp x y)) (fed ++ q ∷ [])) (are_rising (fed ++ q ∷ []))
    (all_push fed (first_so (list_all (λ y. is_lt (path_cmp x y)) fed) (are_rising fed) rising) (ahead x (or_left (same x x) (is_one_of fed x) (same_self x))))
    (rising_push fed q (second_so (list_all (λ y. is_lt (path_cmp x y)) fed) (are_rising fed) rising) (λ p h. ahead p (or_right (same p x) (is_one_of fed p) h)))
  where
    all_push : (ys : List (List ℕ)) → list_all (λ y. is_lt (path_cmp x y)) ys ≡ true → is_lt (path_cmp x q) ≡ true → list_all (λ y. is_lt (path_cmp x y)) (ys ++ q ∷ []) ≡ true
    all_push [] h e = both_true (is_lt (path_cmp x q)) true e refl
    all_push (y ∷ ys) h e = both_true (is_lt (path_cmp x y)) (list_all (λ y. is_lt (path_cmp x y)) (ys ++ q ∷ [])) (first_so (is_lt (path_cmp x y)) (list_all (λ y. is_lt (path_cmp x y)) ys) h)
        (all_push ys (second_so (is_lt (path_cmp x y)) (list_all (λ y. is_lt (path_cmp x y)) ys) h) e)

-- ---- the pages that are wanted below a page

-- each comes of a slot from s on
record ComesOf (test : ℕ → Bool) (p : List ℕ) (s : ℕ) (refs : List ReferenceValue) (x : Pending) : Type 0 where
  slot : ℕ
  at : x.path ≡ p ++ slot ∷ []
  least : s ≤ slot
  ref : ReferenceValue
  is : (k : ℕ) → s + k ≡ slot → slice_get refs k ≡ Some ref
  block : ref.block ≡ Some x.block
  flags : ref.flags ≡ x.flags
  copied : ref.flags.copied ≡ true
  passes : test slot ≡ true

comes_later : (test : ℕ → Bool) (p : List ℕ) (s : ℕ) (r : ReferenceValue) (refs : List ReferenceValue) (x : Pending) → ComesOf test p (s + 1) refs x → ComesOf test p s (r ∷ refs) x
comes_later test p s r refs x c = record {
  slot = c.slot;
  at = c.at;
  least = let low = c.least in omega arith;
  ref = c.ref;
  is = λ k e. by k e;
  block = c.block;
  flags = c.flags;
  copied = c.copied;
  passes = c.passes;
}
  where
    by : (k : ℕ) → s + k ≡ c.slot → slice_get (r ∷ refs) k ≡ Some c.ref
    by zero e = absurd (let low = c.least in omega arith)
    by (suc k) e = c.is k (omega arith)

wanted_come : (test : ℕ → Bool) (p : List ℕ) (s : ℕ) (refs : List ReferenceValue) → AllOf (ComesOf test p s refs) (wanted_children test p s refs)
wanted_come test p s [] = tt
wanted_come test p s (r ∷ refs) =
    by (r.flags.copied && test s) refl r.block refl (all_map (ComesOf test p (s + 1) refs) (ComesOf test p s (r ∷ refs)) (wanted_children test p (s + 1) refs) (comes_later test p s r refs) (wanted_come test p (s + 1) refs))
  where
    by : (b : Bool) → (r.flags.copied && test s) ≡ b → (o : Option ℕ) → r.block ≡ o → AllOf (ComesOf test p s (r ∷ refs)) (wanted_children test p (s + 1) refs)
        → AllOf (ComesOf test p s (r ∷ refs)) (put_wanted b (p ++ s ∷ []) r.flags o (wanted_children test p (s + 1) refs))
    by true e (Some y) f rest = (
      record {
        slot = s;
        at = refl;
        least = omega arith;
        ref = r;
        is = λ k g. first k g;
        block = f;
        flags = refl;
        copied = first_so r.flags.copied (test s) e;
        passes = second_so r.flags.copied (test s) e;
      },
      rest,
    )
      where
        first : (k : ℕ) → s + k ≡ s → slice_get (r ∷ refs) k ≡ Some r
        first zero g = refl
        first (suc k) g = absurd (omega arith)
    by true e None f rest = rest
    by false e o f rest = rest

wanted_apart : (test : ℕ → Bool) (p : List ℕ) (s : ℕ) (refs : List ReferenceValue) → AreApart (wanted_children test p s refs)
wanted_apart test p s [] = tt
wanted_apart test p s (r ∷ refs) = by (r.flags.copied && test s) r.block (wanted_apart test p (s + 1) refs)
  where
    behind : (x : Pending) → ComesOf test p (s + 1) refs x → is_before (p ++ s ∷ []) x.path ≡ true
    behind x c = ap (is_before (p ++ s ∷ [])) c.at ∙ before_child p s c.slot (let low = c.least in omega arith)

    by : (b : Bool) (o : Option ℕ) → AreApart (wanted_children test p (s + 1) refs) → AreApart (put_wanted b (p ++ s ∷ []) r.flags o (wanted_children test p (s + 1) refs))
    by true (Some y) rest = (
      all_map (ComesOf test p (s + 1) refs) (λ x. is_before (p ++ s ∷ []) x.path ≡ true) (wanted_children test p (s + 1) refs) behind (wanted_come test p (s + 1) refs),
      rest,
    )
    by true None rest = rest
    by false o rest = rest

-- each slot that is wanted is among them
wanted_has : (test : ℕ → Bool) (p : List ℕ) (s : ℕ) (refs : List ReferenceValue) (k n : ℕ) (r : ReferenceValue) (y : ℕ) (l : List ℕ) → s + k ≡ n → slice_get refs k ≡ Some r
    → r.block ≡ Some y → (r.flags.copied && test n) ≡ true → is_pending (wanted_children test p s refs) ((p ++ n ∷ []) ++ l) ≡ true
wanted_has test p s [] k n r y l e at f h = none_some r None refl at
wanted_has test p s (x ∷ refs) zero n r y l e at f h =
    let is : s ≡ n = omega arith in
    let one : x ≡ r = cc in
    (λ i. is_pending (put_wanted ((one i).flags.copied && test (is i)) (p ++ is i ∷ []) (one i).flags ((one i).block) (wanted_children test p (is i + 1) refs)) ((p ++ n ∷ []) ++ l))
    ∙ (λ i. is_pending (put_wanted (h i) (p ++ n ∷ []) r.flags (f i) (wanted_children test p (n + 1) refs)) ((p ++ n ∷ []) ++ l))
    ∙ or_left (is_prefix (p ++ n ∷ []) ((p ++ n ∷ []) ++ l)) (is_pending (wanted_children test p (n + 1) refs) ((p ++ n ∷ []) ++ l)) (prefix_append (p ++ n ∷ []) l)
wanted_has test p s (x ∷ refs) (suc k) n r y l e at f h =
    by (x.flags.copied && test s) x.block (wanted_has test p (s + 1) refs k n r y l (omega arith) at f h)
  where
    by : (b : Bool) (o : Option ℕ) → is_pending (wanted_children test p (s + 1) refs) ((p ++ n ∷ []) ++ l) ≡ true
        → is_pending (put_wanted b (p ++ s ∷ []) x.flags o (wanted_children test p (s + 1) refs)) ((p ++ n ∷ []) ++ l) ≡ true
    by true (Some z) rest = or_right (is_prefix (p ++ s ∷ []) ((p ++ n ∷ []) ++ l)) (is_pending (wanted_children test p (s + 1) refs) ((p ++ n ∷ []) ++ l)) rest
    by true None rest = rest
    by false o rest = rest

nat_self : (n : ℕ) → nat_lt n n ≡ false
nat_self n = false_if (nat_lt n n) (λ h. absurd (let low = ltb-true n n h in omega arith))

earlier_self : (p : List ℕ) → earlier p p ≡ false
earlier_self [] = refl
earlier_self (s ∷ p) = (λ i. nat_self s i || (nat_eq s s && earlier_self p i)) ∙ and_false (nat_eq s s)

-- ---- what clashes at one path

not_less : (c : Bool) → is_lt (cond c Equal Greater) ≡ false
not_less true = refl
not_less false = refl

zero_least : (x : ℕ) → is_lt (nat_cmp x 0) ≡ false
zero_least x =
    ap (λ c. is_lt (cond c Less (cond (nat_eq x 0) Equal Greater))) (false_if (nat_lt x 0) (λ h. absurd (let low = ltb-true x 0 h in omega arith)))
    ∙ not_less (nat_eq x 0)

module _ (store : Store) (base root : ℕ) (a : Tree) (mine other : List Step) (start : View) (setting : IsSetting store base root a mine other start) where
  abbrev b : Tree
  b = tree_after a other

  abbrev r : List Place
  r = all_reads a [] mine

  abbrev o : List Place
  o = all_writes a other

  tree_a : IsTree a
  tree_a = holds_tree store base a setting.stands.base

  tree_b : IsTree b
  tree_b = tree_steps a other tree_a

  fresh_of_shared : (p : List ℕ) → is_shared a mine other p ≡ true → is_own a other p ≡ true
  fresh_of_shared p h = first_so (is_own a other p) (did_access a mine p) h

  there_of_fresh : (p : List ℕ) → is_own a other p ≡ true → has b p ≡ true
  there_of_fresh p h = first_so (has b p) (same p [] || touches o p) h

  data_met : (p : List ℕ) (job : JobValue) → IsJobAt store root a mine other start p job → (job.marks.read && job.changed.written) ≡ is_met a mine other p Data
  data_met p job J = λ i. J.read i && J.changed i

  slot_met : (p : List ℕ) (job : JobValue) → IsJobAt store root a mine other start p job → is_own a other p ≡ true → (k : ℕ) → k < 16
      → (has_bit job.searched k && has_bit job.theirs.modified k) ≡ is_met a mine other p (Slot k)
  slot_met p job J fresh k small = λ i. J.searched k small i && setting.later.mask p J.block job.theirs k fresh J.at J.theirs small i

  -- no clash of the job: nothing that I read was written there
  unmet_of : (p : List ℕ) (job : JobValue) → IsJobAt store root a mine other start p job → is_own a other p ≡ true → clash_of job ≡ None → IsUnmet a mine other p
  unmet_of p job J fresh none k kind = by (job.marks.read && job.changed.written) refl none k kind
    where
      slots : (f : Option ℕ) → first_shared job.searched job.theirs.modified ≡ f → option_map Slot f ≡ None → (k : ℕ) → k < 16 → is_met a mine other p (Slot k) ≡ false
      slots None e g k small = sym (slot_met p job J fresh k small) ∙ found_none (λ s. has_bit job.searched s && has_bit job.theirs.modified s) 16 e k small
      slots (Some s) e g k small = none_some (Slot s) (option_map Slot (Some s)) g refl

      by : (d : Bool) → (job.marks.read && job.changed.written) ≡ d → cond d (Some Data) (option_map Slot (first_shared job.searched job.theirs.modified)) ≡ None
          → (k : Kind) → IsKind k → is_met a mine other p k ≡ false
      by true e g k kind = none_some Data (Some Data) g refl
      by false e g Data kind = sym (data_met p job J) ∙ e
      by false e g (Slot k) kind = slots (first_shared job.searched job.theirs.modified) refl g k kind

  -- a clash of the job is the least one there
  record IsLeast (p : List ℕ) (kind : Kind) : Type 0 where
    met : is_met a mine other p kind ≡ true
    least : (k : Kind) → IsKind k → is_met a mine other p k ≡ true → is_lt (nat_cmp (kind_place k) (kind_place kind)) ≡ false

  least_of : (p : List ℕ) (job : JobValue) → IsJobAt store root a mine other start p job → is_own a other p ≡ true → (kind : Kind) → clash_of job ≡ Some kind → IsLeast p kind
  least_of p job J fresh kind h = by (job.marks.read && job.changed.written) refl h
    where
      some_kind : {x y : Kind} → Some x ≡ Some y → x ≡ y
      some_kind e = cc

      slots : (job.marks.read && job.changed.written) ≡ false → (f : Option ℕ) → first_shared job.searched job.theirs.modified ≡ f → option_map Slot f ≡ Some kind → IsLeast p kind
      slots clean None e g = none_some kind (option_map Slot None) refl g
      slots clean (Some s) e g =
          let first = found_first (λ s. has_bit job.searched s && has_bit job.theirs.modified s) 16 s e in
          let F : Kind → Type 0 = IsLeast p in
          subst F (some_kind g) (record {
            met = sym (slot_met p job J fresh s first.below) ∙ first.passes;
            least = λ k kind_ok was. each first k kind_ok was;
          })
        where
          each : IsFirst (λ s. has_bit job.searched s && has_bit job.theirs.modified s) 16 s → (k : Kind) → IsKind k → is_met a mine other p k ≡ true
              → is_lt (nat_cmp (kind_place k) (kind_place (Slot s))) ≡ false
          each first Data kind_ok was = never was (sym (data_met p job J) ∙ clean)
          each first (Slot k) kind_ok was = by_order (told (nat_lt (k + 1) (s + 1)))
            where
              by_order : (nat_lt (k + 1) (s + 1) ≡ true) ⊎ (nat_lt (k + 1) (s + 1) ≡ false) → is_lt (nat_cmp (k + 1) (s + 1)) ≡ false
              by_order (inl low) =
                  let less : k < s = let l = ltb-true (k + 1) (s + 1) low in omega arith in
                  never (slot_met p job J fresh k kind_ok ∙ was) (first.least k less)
              by_order (inr high) =
                  ap (λ c. is_lt (cond c Less (cond (nat_eq (k + 1) (s + 1)) Equal Greater))) high ∙ not_less (nat_eq (k + 1) (s + 1))

      by : (d : Bool) → (job.marks.read && job.changed.written) ≡ d → cond d (Some Data) (option_map Slot (first_shared job.searched job.theirs.modified)) ≡ Some kind → IsLeast p kind
      by true e g =
          let F : Kind → Type 0 = IsLeast p in
          subst F (some_kind g) (record { met = sym (data_met p job J) ∙ e; least = λ k kind_ok was. zero_least (kind_place k) })
      by false e g = slots e (first_shared job.searched job.theirs.modified) refl g

  -- ---- clashes of both updates

  pub both_met : (x : Place) → set.contains (reads_of a mine) x ≡ true → set.contains (visible_of a other) x ≡ true
      → (is_met a mine other x.0 x.1 ≡ true) × (has b x.0 ≡ true) × IsKind x.1
  both_met x read seen =
      let in_r : is_among r x ≡ true = sym (set.contains-from_list place_total r x) ∙ read in
      let both : (is_among o x && has b x.0) ≡ true = sym (shown a other x) ∙ seen in
      let in_o = first_so (is_among o x) (has b x.0) both in (
        both_true (is_among r x) (is_among o x) in_r in_o,
        second_so (is_among o x) (has b x.0) both,
        writes_kinds a other x.0 x.1 setting.later.kept in_o,
      )

  pub met_shared : (p : List ℕ) (k : Kind) → is_met a mine other p k ≡ true → has b p ≡ true → is_shared a mine other p ≡ true
  met_shared p k met there =
      let in_r = first_so (is_among r (p, k)) (is_among o (p, k)) met in
      let in_o = second_so (is_among r (p, k)) (is_among o (p, k)) met in
      both_true (is_own a other p) (did_access a mine p)
      (both_true (has b p) (same p [] || touches o p) there (or_right (same p []) (touches o p) (touches_of o p (p, k) in_o (prefix_self p))))
      (or_left (is_path_of r p) (is_path_of (all_writes a mine) p) (path_of_place r (p, k) in_r))

  met_seen : (p : List ℕ) (k : Kind) → is_met a mine other p k ≡ true → has b p ≡ true
      → (set.contains (reads_of a mine) (p, k) ≡ true) × (set.contains (visible_of a other) (p, k) ≡ true)
  met_seen p k met there =
      let in_r = first_so (is_among r (p, k)) (is_among o (p, k)) met in
      let in_o = second_so (is_among r (p, k)) (is_among o (p, k)) met in (
        set.contains-from_list place_total r (p, k) ∙ in_r,
        shown a other (p, k) ∙ both_true (is_among o (p, k)) (has b p) in_o there,
      )

  -- ---- a page above a shared one is shared

  shared_above : (p q : List ℕ) (s : ℕ) → is_shared a mine other p ≡ true → is_prefix (q ++ s ∷ []) p ≡ true → is_shared a mine other q ≡ true
  shared_above p q s h on =
      let fresh = fresh_of_shared p h in
      let above = prefix_trans q (q ++ s ∷ []) p (prefix_above q s) on in
      both_true (is_own a other q) (did_access a mine q)
      (both_true (has b q) (same q [] || touches o q) (tree_b.closed p q above (there_of_fresh p fresh))
      (or_right (same q []) (touches o q) (up above (second_so (has b p) (same p [] || touches o p) fresh))))
      (or_left (is_path_of r q) (is_path_of (all_writes a mine) q) (way (or_told (is_path_of r p) (is_path_of (all_writes a mine) p) (second_so (is_own a other p) (did_access a mine p) h))))
    where
      not_top : (q p : List ℕ) → is_prefix (q ++ s ∷ []) p ≡ true → same p [] ≡ false
      not_top [] [] e = never e refl
      not_top (x ∷ q) [] e = never e refl
      not_top q (x ∷ p) e = refl

      up : is_prefix q p ≡ true → (same p [] || touches o p) ≡ true → touches o q ≡ true
      up above e = elim (or_told (same p []) (touches o p) e) [
        | inl g ↦ never g (not_top q p on)
        | inr g ↦ let found = touched o p g in touches_of o q found.0 found.1 (prefix_trans q p found.0.0 above found.2)
      ]

      way : (is_path_of r p ≡ true) ⊎ (is_path_of (all_writes a mine) p ≡ true) → is_path_of r q ≡ true
      way (inl e) = let found = path_place r p e in
          path_of_place r (q, Slot s) (way_reads a [] mine found.0 tree_a (inl found.1) q s (ap (is_prefix (q ++ s ∷ [])) found.2 ∙ on))
      way (inr e) = let found = path_place (all_writes a mine) p e in
          path_of_place r (q, Slot s) (way_reads a [] mine found.0 tree_a (inr found.1) q s (ap (is_prefix (q ++ s ∷ [])) found.2 ∙ on))

  -- ---- a pair is settled

  module _ (fed : List (List ℕ)) (w : WalkValue) (d : View) (goes : GoesOn store root a mine other start fed w d) (x : Pair) (waiting : w.pair ≡ Some x) where
    last : (is_one_of fed x.path ≡ true) × ((p : List ℕ) → is_one_of fed p ≡ true → same p x.path ≡ false → is_lt (path_cmp p x.path) ≡ true)
        × IsJobAt store root a mine other start x.path x.job
    last = let F : Option Pair → Type 0 = IsLast store root a mine other start fed in subst F waiting goes.last

    waits_is : (p : List ℕ) → waits w.pair p ≡ same p x.path
    waits_is p = ap (λ (y : Option Pair). waits y p) waiting

    fresh_here : is_own a other x.path ≡ true
    fresh_here = fresh_of_shared x.path (goes.has_fed.shared x.path last.0)

    -- the draft still shows the page that it began with
    untouched_here : d x.path ≡ start x.path
    untouched_here = goes.rest x.path (
        ap (λ c. is_one_of fed x.path && (not c && live (copies start) x.path)) (waits_is x.path ∙ same_self x.path)
        ∙ and_false (is_one_of fed x.path))

    pub settle_clean : clash_of x.job ≡ None
        → GoesOn store root a mine other start fed (record { pair = None; pending = w.pending; clash = None }) (settled_view d x.path (merged x.job))
    settle_clean none = record {
      has_fed = goes.has_fed;
      last = tt;
      settled = λ p h unwaited. by_settled p h (path_told p x.path);
      rest = λ p h. by_rest p h (path_told p x.path);
    }
      where
        e : View
        e = settled_view d x.path (merged x.job)

        here : (p : List ℕ) → p ≡ x.path → settled_view d x.path (merged x.job) p ≡ option_map (λ c. cond c.live (merged_page (merged x.job) c) c) (start p)
        here p is =
            ap (λ c. cond c (option_map (λ c. cond c.live (merged_page (merged x.job) c) c) (d p)) (d p)) (ap (λ (q : List ℕ). same q x.path) is ∙ same_self x.path)
            ∙ ap (option_map (λ c. cond c.live (merged_page (merged x.job) c) c)) (ap d is ∙ untouched_here ∙ ap start (sym is))

        apart : (p : List ℕ) → same p x.path ≡ false → settled_view d x.path (merged x.job) p ≡ d p
        apart p is = ap (λ c. cond c (option_map (λ c. cond c.live (merged_page (merged x.job) c) c) (d p)) (d p)) is

        by_settled : (p : List ℕ) → is_one_of fed p ≡ true → (p ≡ x.path) ⊎ (same p x.path ≡ false)
            → IsSettled store root a mine other start (settled_view d x.path (merged x.job)) p
        by_settled p h (inl is) =
            let F : List ℕ → Type 0 = IsSettled store root a mine other start (settled_view d x.path (merged x.job)) in
            subst F (sym is) (record {
              unmet = unmet_of x.path x.job last.2 fresh_here none;
              merged = λ c at alive. (
                x.job,
                last.2,
                here x.path refl
                    ∙ ap (option_map (λ c. cond c.live (merged_page (merged x.job) c) c)) at
                    ∙ ap (λ v. Some (cond v (merged_page (merged x.job) c) c)) alive,
              );
            })
        by_settled p h (inr is) =
            let was = goes.settled p h (waits_is p ∙ is) in
            record { unmet = was.unmet; merged = λ c at alive. let m = was.merged c at alive in (m.0, m.1, apart p is ∙ m.2) }

        by_rest : (p : List ℕ) → (is_one_of fed p && (not false && live (copies start) p)) ≡ false → (p ≡ x.path) ⊎ (same p x.path ≡ false)
            → settled_view d x.path (merged x.job) p ≡ start p
        by_rest p h (inl is) =
            let dead : live (copies start) p ≡ false = sym (ap (λ c. c && live (copies start) p) (ap (is_one_of fed) is ∙ last.0)) ∙ h in
            here p is ∙ by (start p) dead
          where
            by : (v : Option Copied) → option_map_or (λ (c : PageCopy). c.live) (option_map copy_of v) false ≡ false
                → option_map (λ c. cond c.live (merged_page (merged x.job) c) c) v ≡ v
            by None f = refl
            by (Some c) f = ap (λ v. Some (cond v (merged_page (merged x.job) c) c)) f
        by_rest p h (inr is) =
            apart p is ∙ goes.rest p (ap (λ c. is_one_of fed p && (not c && live (copies start) p)) (waits_is p ∙ is) ∙ h)

    pub settle_clash : (kind : Kind) → clash_of x.job ≡ Some kind
        → HasClash a mine other fed (record { pair = None; pending = []; clash = Some (x.path, kind) }) (x.path, kind)
    settle_clash kind h =
        let least = least_of x.path x.job last.2 fresh_here kind h in
        let seen = met_seen x.path kind least.met (there_of_fresh x.path fresh_here) in
        record {
          least = (seen.0, seen.1, λ y read shown_too. each least y (both_met y read shown_too));
          pair = refl;
          pending = refl;
          rising = goes.has_fed.rising;
          shared = goes.has_fed.shared;
        }
      where
        each : IsLeast x.path kind → (y : Place) → (is_met a mine other y.0 y.1 ≡ true) × (has b y.0 ≡ true) × IsKind y.1 → is_lt (place_cmp y (x.path, kind)) ≡ false
        each least y met = elim (or_told (is_one_of fed y.0) (is_pending w.pending y.0) (goes.has_fed.cover y.0 (met_shared y.0 y.1 met.0 met.1))) [
          | inl in_fed ↦ elim (path_told y.0 x.path) [
            | inl is ↦ place_here (x.path, kind) y is (least.least y.1 met.2 (ap (λ (p : List ℕ). is_met a mine other p y.1) (sym is) ∙ met.0))
            | inr is ↦ never met.0 ((goes.settled y.0 in_fed (waits_is y.0 ∙ is)).unmet y.1 met.2)
          ]
          | inr later ↦
              let found = any_all (IsWanted store root a mine other fed) (λ z. is_prefix z.path y.0) w.pending goes.has_fed.wanted later in
              place_later (x.path, kind) y (earlier_prefix x.path found.0.path y.0 (lt_earlier x.path found.0.path (found.1.ahead x.path last.0)) found.2)
        ]

  -- ---- a page is fed

  module _ (fed : List (List ℕ)) (w : WalkValue) (d : View) (goes : GoesOn store root a mine other start fed w d) (idle : w.pair ≡ None)
      (x : Pending) (tail : List Pending) (next : w.pending ≡ x ∷ tail) where
    held : HasFed store root a mine other (x ∷ tail) fed
    held = let F : List Pending → Type 0 = λ ps. HasFed store root a mine other ps fed in subst F next goes.has_fed

    pub first : IsWanted store root a mine other fed x
    first = held.wanted.0

    pub fresh_x : is_own a other x.path ≡ true
    fresh_x = fresh_of_shared x.path first.shared

    not_yet : is_one_of fed x.path ≡ false
    not_yet = false_if _ (λ h. sym (earlier_self x.path) ∙ lt_earlier x.path x.path (first.ahead x.path h))

    -- .. nor was a page below it
    child_not_yet : (s : ℕ) → is_one_of fed (x.path ++ s ∷ []) ≡ false
    child_not_yet s = false_if _ (λ h.
        sym (earlier_self x.path)
        ∙ earlier_trans x.path (x.path ++ s ∷ []) x.path (earlier_below x.path s []) (lt_earlier (x.path ++ s ∷ []) x.path (first.ahead (x.path ++ s ∷ []) h)))

    pub unfed_page : d x.path ≡ start x.path
    unfed_page = goes.rest x.path (ap (λ c. c && (not (waits w.pair x.path) && live (copies start) x.path)) not_yet)

    pub unfed_child : (s : ℕ) → d (x.path ++ s ∷ []) ≡ start (x.path ++ s ∷ [])
    unfed_child s = goes.rest (x.path ++ s ∷ []) (ap (λ c. c && (not (waits w.pair (x.path ++ s ∷ [])) && live (copies start) (x.path ++ s ∷ []))) (child_not_yet s))

    module _ (page : PageValue) (read : store x.block ≡ Some page) (job : JobValue) (is_job : IsJobAt store root a mine other start x.path job)
        (test : ℕ → Bool) (short : length x.path ≤ 7) (tests : length x.path < 7 → (s : ℕ) → s < 16 → test s ≡ did_access a mine (x.path ++ s ∷ []))
        (leaf : length x.path ≡ 7 → (s : ℕ) → slot_block page s ≡ None) where
      -- a page whose slot names a block has a path of fewer than seven slots
      deep : (s y : ℕ) → slot_block page s ≡ Some y → length x.path < 7
      deep s y at = elim (told (nat_lt (length x.path) 7)) [
        | inl low ↦ ltb-true (length x.path) 7 low
        | inr high ↦ none_some y (slot_block page s) (leaf (let most = ltb-false (length x.path) 7 high in omega (arith, most, short)) s) at
      ]

      abbrev now : List (List ℕ)
      now = fed ++ x.path ∷ []

      abbrev children : List Pending
      children = wanted_children test x.path 0 page.refs

      new_in : is_one_of now x.path ≡ true
      new_in = one_push fed x.path x.path ∙ or_right (is_one_of fed x.path) (same x.path x.path) (same_self x.path)

      old_in : (p : List ℕ) → is_one_of fed p ≡ true → is_one_of now p ≡ true
      old_in p h = one_push fed x.path p ∙ or_left (is_one_of fed p) (same p x.path) h

      whole : length page.refs ≡ 16
      whole = setting.later.whole x.block page read

      slot_of_ref : (s : ℕ) (ref : ReferenceValue) → slice_get page.refs s ≡ Some ref → slot_block page s ≡ ref.block
      slot_of_ref s ref e = ap (λ (v : Option ReferenceValue). option_and_then (λ (y : ReferenceValue). y.block) v) e

      flags_of_ref : (s : ℕ) (ref : ReferenceValue) → slice_get page.refs s ≡ Some ref → slot_flags page s ≡ ref.flags
      flags_of_ref s ref e = ap (λ (v : Option ReferenceValue). option_map_or (λ (y : ReferenceValue). y.flags) v no_flags) e

      child_wanted : (c : Pending) → ComesOf test x.path 0 page.refs c → IsWanted store root a mine other now c
      child_wanted c k =
          let got : slice_get page.refs k.slot ≡ Some k.ref = k.is k.slot (omega arith) in
          let at_slot : slot_block page k.slot ≡ Some c.block = slot_of_ref k.slot k.ref got ∙ k.block in
          let small : k.slot < 16 = slot_below page k.slot c.block whole at_slot in
          let marks = setting.later.marks x.path x.block page k.slot fresh_x first.at read small in
          let flags : slot_flags page k.slot ≡ c.flags = flags_of_ref k.slot k.ref got ∙ k.flags in
          let F : Flagged → Type 0 = AreMarks a other (x.path ++ k.slot ∷ []) in
          let G : List ℕ → Type 0 = λ p. AreMarks a other p c.flags in
          record {
            shared =
                ap (is_shared a mine other) k.at
                ∙ both_true (is_own a other (x.path ++ k.slot ∷ [])) (did_access a mine (x.path ++ k.slot ∷ []))
                (sym marks.copied ∙ ap (λ (f : Flagged). f.copied) (flags_of_ref k.slot k.ref got) ∙ k.copied)
                (sym (tests (deep k.slot c.block at_slot) k.slot small) ∙ k.passes);
            at = ap (block_at store root) k.at ∙ block_at_child store root x.path x.block k.slot page first.at read ∙ at_slot;
            marks = subst G (sym k.at) (subst F flags marks);
            ahead = λ p h. ap (λ (y : List ℕ). is_lt (path_cmp p y)) k.at ∙ earlier_lt p (x.path ++ k.slot ∷ []) (elim (one_told fed x.path p h) [
              | inl e ↦ earlier_trans p x.path (x.path ++ k.slot ∷ []) (lt_earlier p x.path (first.ahead p e)) (earlier_below x.path k.slot [])
              | inr e ↦ ap (λ (y : List ℕ). earlier y (x.path ++ k.slot ∷ [])) e ∙ earlier_below x.path k.slot []
            ]);
          }

      tail_wanted : (ys : List Pending) → AllOf (λ y. is_before x.path y.path ≡ true) ys → AllOf (IsWanted store root a mine other fed) ys → AllOf (IsWanted store root a mine other now) ys
      tail_wanted [] f g = tt
      tail_wanted (y ∷ ys) f g = (
        record {
          shared = g.0.shared;
          at = g.0.at;
          marks = g.0.marks;
          ahead = λ p h. elim (one_told fed x.path p h) [
            | inl e ↦ g.0.ahead p e
            | inr e ↦ ap (λ (q : List ℕ). is_lt (path_cmp q y.path)) e ∙ earlier_lt x.path y.path (before_self x.path y.path f.0)
          ];
        },
        tail_wanted ys f.1 g.1,
      )
        where
          before_self : (p q : List ℕ) → is_before p q ≡ true → earlier p q ≡ true
          before_self p q e = (λ i. earlier (sym (at_root p) i) (sym (at_root q) i)) ∙ before_earlier p q [] [] e

      before_tail : (c : Pending) → ComesOf test x.path 0 page.refs c → AllOf (λ y. is_before c.path y.path ≡ true) tail
      before_tail c k =
          all_map (λ (y : Pending). is_before x.path y.path ≡ true) (λ (y : Pending). is_before c.path y.path ≡ true) tail
          (λ y e. ap (λ (p : List ℕ). is_before p y.path) k.at ∙ before_below x.path y.path (k.slot ∷ []) e) held.apart.0

      -- a shared path below the page is at or below one of its children that are wanted
      below : (p : List ℕ) (s : ℕ) (l : List ℕ) → is_shared a mine other p ≡ true → x.path ++ s ∷ l ≡ p → is_pending children p ≡ true
      below p s l h e =
          let F : List ℕ → Type 0 = λ y. is_pending children y ≡ true in
          subst F (push x.path s l ∙ e) (into (slice_get page.refs s) refl)
        where
          q : List ℕ
          q = x.path ++ s ∷ []

          q_shared : is_shared a mine other (x.path ++ s ∷ []) ≡ true
          q_shared = by l (push x.path s l ∙ e)
            where
              by : (l : List ℕ) → (x.path ++ s ∷ []) ++ l ≡ p → is_shared a mine other (x.path ++ s ∷ []) ≡ true
              by [] g = ap (is_shared a mine other) (sym (at_root (x.path ++ s ∷ [])) ∙ g) ∙ h
              by (t ∷ l) g = shared_above p (x.path ++ s ∷ []) t h (ap (is_prefix ((x.path ++ s ∷ []) ++ t ∷ [])) (sym (push (x.path ++ s ∷ []) t l ∙ g)) ∙ prefix_append ((x.path ++ s ∷ []) ++ t ∷ []) l)

          there : has b (x.path ++ s ∷ []) ≡ true
          there = there_of_fresh (x.path ++ s ∷ []) (fresh_of_shared (x.path ++ s ∷ []) q_shared)

          small : s < 16
          small = child_slot x.path s (holds_slots store root b setting.later.whole setting.later.holds (x.path ++ s ∷ []) there)

          copied : (slot_flags page s).copied ≡ true
          copied = (setting.later.marks x.path x.block page s fresh_x first.at read small).copied ∙ fresh_of_shared (x.path ++ s ∷ []) q_shared

          in_slot : (y : ℕ) × (slot_block page s ≡ Some y)
          in_slot = let found = holds_some store root b setting.later.holds (x.path ++ s ∷ []) there in (found.0, sym (block_at_child store root x.path x.block s page first.at read) ∙ found.1)

          passes : test s ≡ true
          passes = tests (deep s in_slot.0 in_slot.1) s small ∙ second_so (is_own a other (x.path ++ s ∷ [])) (did_access a mine (x.path ++ s ∷ [])) q_shared

          into : (v : Option ReferenceValue) → slice_get page.refs s ≡ v → is_pending children ((x.path ++ s ∷ []) ++ l) ≡ true
          into None g = never copied (ap (λ (v : Option ReferenceValue). (option_map_or (λ (y : ReferenceValue). y.flags) v no_flags).copied) g)
          into (Some ref) g =
              let found = holds_some store root b setting.later.holds (x.path ++ s ∷ []) there in
              wanted_has test x.path 0 page.refs s s ref found.0 l (omega arith) g
              (sym (slot_of_ref s ref g) ∙ sym (block_at_child store root x.path x.block s page first.at read) ∙ found.1)
              (both_true ref.flags.copied (test s) (sym (ap (λ (f : Flagged). f.copied) (flags_of_ref s ref g)) ∙ copied) passes)

      covered : (p : List ℕ) → is_shared a mine other p ≡ true → (is_one_of now p || is_pending (children ++ tail) p) ≡ true
      covered p h = elim (or_told (is_one_of fed p) (is_pending (x ∷ tail) p) (held.cover p h)) [
        | inl e ↦ or_left (is_one_of now p) (is_pending (children ++ tail) p) (old_in p e)
        | inr e ↦ elim (or_told (is_prefix x.path p) (is_pending tail p) e) [
          | inl on ↦ let rest = prefix_told x.path p on in by rest.0 rest.1
          | inr later ↦ or_right (is_one_of now p) (is_pending (children ++ tail) p)
              (list_any-append (λ (y : Pending). is_prefix y.path p) children tail ∙ or_right (is_pending children p) (is_pending tail p) later)
        ]
      ]
        where
          by : (l : List ℕ) → x.path ++ l ≡ p → (is_one_of now p || is_pending (children ++ tail) p) ≡ true
          by [] e = or_left (is_one_of now p) (is_pending (children ++ tail) p) (ap (is_one_of now) (sym (sym (at_root x.path) ∙ e)) ∙ new_in)
          by (s ∷ l) e = or_right (is_one_of now p) (is_pending (children ++ tail) p)
              (list_any-append (λ (y : Pending). is_prefix y.path p) children tail ∙ or_left (is_pending children p) (is_pending tail p) (below p s l h e))

      idle_is : (p : List ℕ) → waits w.pair p ≡ false
      idle_is p = ap (λ (v : Option Pair). waits v p) idle

      pub fed_on : GoesOn store root a mine other start now
          (record { pair = Some (record { path = x.path; job = job }); pending = children ++ tail; clash = None }) d
      fed_on = record {
        has_fed = record {
          rising = rising_push fed x.path held.rising first.ahead;
          shared = λ p h. elim (one_told fed x.path p h) [ inl e ↦ held.shared p e | inr e ↦ ap (is_shared a mine other) e ∙ first.shared ];
          apart = apart_append children tail (wanted_apart test x.path 0 page.refs) held.apart.1
              (all_map (ComesOf test x.path 0 page.refs) (λ (c : Pending). AllOf (λ y. is_before c.path y.path ≡ true) tail) children before_tail (wanted_come test x.path 0 page.refs));
          wanted = all_append (IsWanted store root a mine other now) children tail
              (all_map (ComesOf test x.path 0 page.refs) (IsWanted store root a mine other now) children child_wanted (wanted_come test x.path 0 page.refs))
              (tail_wanted tail held.apart.0 held.wanted.1);
          cover = covered;
        };
        last = (
          new_in,
          λ p h apart. elim (one_told fed x.path p h) [ inl e ↦ first.ahead p e | inr e ↦ never (ap (λ (y : List ℕ). same y x.path) e ∙ same_self x.path) apart ],
          is_job,
        );
        settled = λ p h unwaited. elim (one_told fed x.path p h) [
          | inl e ↦ goes.settled p e (idle_is p)
          | inr e ↦ never (ap (λ (y : List ℕ). same y x.path) e ∙ same_self x.path) unwaited
        ];
        rest = λ p h. by p h (path_told p x.path);
      }
        where
          by : (p : List ℕ) → (is_one_of now p && (not (same p x.path) && live (copies start) p)) ≡ false → (p ≡ x.path) ⊎ (same p x.path ≡ false) → d p ≡ start p
          by p h (inl is) = goes.rest p (ap (λ c. c && (not (waits w.pair p) && live (copies start) p)) (ap (is_one_of fed) is ∙ not_yet))
          by p h (inr is) = goes.rest p (
              (λ i. is_one_of fed p && (not (idle_is p i) && live (copies start) p))
              ∙ sym (λ i. (one_push fed x.path p ∙ ap (λ c. is_one_of fed p || c) is ∙ or_false (is_one_of fed p)) i && (not (is i) && live (copies start) p))
              ∙ h)
