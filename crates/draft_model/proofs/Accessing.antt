-- Each live page was accessed, but those that were copied for the next step.
use Rattle.std.proofs.Common.{◌≡◌, ℕ, ◌^◌, Bool, true, false, not, ◌&&◌, ◌||◌, cond, List, [], ◌∷◌, ◌++◌, length, inl, inr, refl, sym, ap, ◌∙◌, Option, Some, None, option_map, append-nil, lit<}
use Rattle.std.specs.Option.{option_map_or}
use Rattle.std.specs.Int.RustNames.{bit_or}
use Rattle.std.specs.Cmp.{first_so}
use Rattle.afs_base.specs.Path.{is_prefix, are_slots}
use Rattle.tree_model.specs.declared.step.Step.{Step}
use Rattle.tree_model.specs.declared.step.Step.TheVariants.{ReadAt, ListAt, WriteAt, MakeAt, DropAt}
use Rattle.tree_model.specs.Children.{path_of}
use Rattle.tree_model.specs.Accesses.{target, end_of}
use Rattle.tree_model.proofs.Paths.{told, never, both_true, same_self, same_is, prefix_append, prefix_told, prefix_trans, prefix_above, child_above, false_if, or_left, or_right, or_told}
use Rattle.page_places.specs.Places.{same, has_bit}
use Rattle.draft_model.specs.Views.{Copied, copies}
use Rattle.draft_model.specs.Steps.{acts, cuts, way_bit, searched_by, page_by, reads_data, writes_data, taken, is_made, made, fed_page}
use Rattle.draft_model.specs.Told.{is_marked, is_accessed}
use Rattle.draft_model.specs.Laws.{FeedAccessLaw, StepAccessLaw}
use Rattle.draft_model.proofs.Facts.{has_bit_or, has_bit_all, way_bit_is, push}
use Rattle.draft_model.proofs.Moves.{slot_small}
use Rattle.draft_model.proofs.Telling.{any_below, some_below}

copied_is : (x y : Copied) → Some x ≡ Some y → x ≡ y
copied_is x y e = ap (λ (o : Option Copied). option_map_or (λ (c : Copied). c) o x) e

pub fed_accessed : FeedAccessLaw
fed_accessed d end q b page but W p c at here = elim (told (same p q)) [
  | inl e ↦ inr (ap (λ (x : List ℕ). is_prefix x end) (same_is p q e) ∙ W.on_way)
  | inr e ↦ but p c (sym (ap (λ x. cond x (Some (fed_page page)) (d p)) e) ∙ at) here
]

-- ---- masks

marked_or : (m more : ℕ) → is_marked m ≡ true → is_marked (bit_or m more) ≡ true
marked_or m more h =
    let some = some_below (has_bit m) 16 h in
    any_below (has_bit (bit_or m more)) 16 some.0 some.1 (has_bit_or m more some.0 ∙ or_left (has_bit m some.0) (has_bit more some.0) some.2)

marked_all : is_marked 65535 ≡ true
marked_all = any_below (has_bit 65535) 16 0 (lit< tt) (has_bit_all 0 (lit< tt))

-- a page above a path has a bit on the way to it
marked_above : (p q : List ℕ) (m : ℕ) → are_slots q ≡ true → is_prefix p q ≡ true → same p q ≡ false → is_marked (bit_or m (way_bit p q)) ≡ true
marked_above p q m small on apart = let rest = prefix_told p q on in by rest.0 rest.1
  where
    by : (r : List ℕ) → p ++ r ≡ q → is_marked (bit_or m (way_bit p q)) ≡ true
    by [] e = never (same_self p) (ap (same p) (sym (append-nil p) ∙ e) ∙ apart)
    by (s ∷ r) e =
        let whole : (p ++ s ∷ []) ++ r ≡ q = push p s r ∙ e in
        let bit : has_bit (way_bit p q) s ≡ true =
        way_bit_is p q s ∙ ap (is_prefix (p ++ s ∷ [])) (sym whole) ∙ prefix_append (p ++ s ∷ []) r in
        any_below (has_bit (bit_or m (way_bit p q))) 16 s (slot_small p s r (ap are_slots whole ∙ small))
        (has_bit_or m (way_bit p q) s ∙ or_right (has_bit m s) (has_bit (way_bit p q) s) bit)

-- ---- one page

by_read : (c : Copied) → c.read ≡ true → is_accessed c ≡ true
by_read c h = or_left (c.read || c.written) (is_marked c.searched || is_marked c.page.modified) (or_left c.read c.written h)

by_written : (c : Copied) → c.written ≡ true → is_accessed c ≡ true
by_written c h = or_left (c.read || c.written) (is_marked c.searched || is_marked c.page.modified) (or_right c.read c.written h)

by_searched : (c : Copied) → is_marked c.searched ≡ true → is_accessed c ≡ true
by_searched c h = or_right (c.read || c.written) (is_marked c.searched || is_marked c.page.modified) (or_left (is_marked c.searched) (is_marked c.page.modified) h)

by_modified : (c : Copied) → is_marked c.page.modified ≡ true → is_accessed c ≡ true
by_modified c h = or_right (c.read || c.written) (is_marked c.searched || is_marked c.page.modified) (or_right (is_marked c.searched) (is_marked c.page.modified) h)

-- what was read stays read
searched_more : (step : Step) (p : List ℕ) (m : ℕ) → is_marked m ≡ true → is_marked (searched_by step p m) ≡ true
searched_more (ReadAt q) p m h = marked_or m (way_bit p q) h
searched_more (ListAt q) p m h = by (same p q)
  where
    by : (b : Bool) → is_marked (cond b 65535 (bit_or m (way_bit p q))) ≡ true
    by true = marked_all
    by false = marked_or m (way_bit p q) h
searched_more (WriteAt q bytes) p m h = marked_or m (way_bit p q) h
searched_more (MakeAt x) p m h = marked_or m (way_bit p (path_of x)) h
searched_more (DropAt x) p m h = marked_or m (way_bit p (path_of x)) h

modified_more : (b : Bool) (m more : ℕ) → is_marked m ≡ true → is_marked (cond b (bit_or m more) m) ≡ true
modified_more true m more h = marked_or m more h
modified_more false m more h = h

written_more : (done here : Bool) (step : Step) (p : List ℕ) (c : Copied) → is_marked c.page.modified ≡ true → is_marked (page_by done here step p c.page).modified ≡ true
written_more done here (ReadAt q) p c h = h
written_more done here (ListAt q) p c h = h
written_more done here (WriteAt q bytes) p c h = h
written_more done here (MakeAt x) p c h = modified_more (done && same p x.0) c.page.modified (2 ^ x.1) h
written_more done here (DropAt x) p c h = modified_more (done && same p x.0) c.page.modified (2 ^ x.1) h

-- the slots of a live page
searched_live : (done : Bool) (step : Step) (p : List ℕ) (c : Copied) → c.live ≡ true → is_marked (searched_by step p c.searched) ≡ true → is_accessed (taken done step p c) ≡ true
searched_live done step p c here h = by_searched (taken done step p c) (ap (λ b. is_marked (cond b (searched_by step p c.searched) c.searched)) here ∙ h)

-- an accessed page stays accessed
still_accessed : (done : Bool) (step : Step) (p : List ℕ) (c : Copied) → c.live ≡ true → is_accessed c ≡ true → is_accessed (taken done step p c) ≡ true
still_accessed done step p c here h = elim (or_told (c.read || c.written) (is_marked c.searched || is_marked c.page.modified) h) [
  | inl e ↦ elim (or_told c.read c.written e) [
    | inl g ↦ by_read (taken done step p c) (or_left c.read ((c.live && reads_data step p) && not c.written) g)
    | inr g ↦ by_written (taken done step p c) (or_left c.written (c.live && writes_data step p) g)
  ]
  | inr e ↦ elim (or_told (is_marked c.searched) (is_marked c.page.modified) e) [
    | inl g ↦ searched_live done step p c here (searched_more step p c.searched g)
    | inr g ↦ by_modified (taken done step p c) (written_more done c.live step p c g)
  ]
]

-- a make and a drop read the slots on the way to the page above the child, its own among them
above_child : (p : List ℕ) (x : List ℕ × ℕ) (m : ℕ) → are_slots (path_of x) ≡ true → is_prefix p x.0 ≡ true → is_marked (bit_or m (way_bit p (path_of x))) ≡ true
above_child p x m small on =
    marked_above p (path_of x) m small (prefix_trans p x.0 (path_of x) on (prefix_above x.0 x.1))
    (false_if (same p (path_of x)) (λ e. sym (child_above x.0 x.1) ∙ ap (λ (y : List ℕ). is_prefix y x.0) (sym (same_is p (path_of x) e)) ∙ on))

-- a live page on the way that the step looks at is accessed by the step
now_accessed : (done : Bool) (step : Step) (p : List ℕ) (c : Copied) → are_slots (target step) ≡ true → c.live ≡ true → is_prefix p (end_of step) ≡ true
    → is_accessed (taken done step p c) ≡ true
now_accessed done (ReadAt q) p c small here on = elim (told (same p q)) [
  | inr e ↦ searched_live done (ReadAt q) p c here (marked_above p q c.searched small on e)
  | inl e ↦ elim (told c.written) [
    | inl g ↦ by_written (taken done (ReadAt q) p c) (or_left c.written (c.live && false) g)
    | inr g ↦ by_read (taken done (ReadAt q) p c)
        (or_right c.read ((c.live && same p q) && not c.written) (both_true (c.live && same p q) (not c.written) (both_true c.live (same p q) here e) (ap not g)))
  ]
]
now_accessed done (ListAt q) p c small here on = elim (told (same p q)) [
  | inr e ↦ searched_live done (ListAt q) p c here (ap (λ b. is_marked (cond b 65535 (bit_or c.searched (way_bit p q)))) e ∙ marked_above p q c.searched small on e)
  | inl e ↦ searched_live done (ListAt q) p c here (ap (λ b. is_marked (cond b 65535 (bit_or c.searched (way_bit p q)))) e ∙ marked_all)
]
now_accessed done (WriteAt q bytes) p c small here on = elim (told (same p q)) [
  | inr e ↦ searched_live done (WriteAt q bytes) p c here (marked_above p q c.searched small on e)
  | inl e ↦ by_written (taken done (WriteAt q bytes) p c) (or_right c.written (c.live && same p q) (both_true c.live (same p q) here e))
]
now_accessed done (MakeAt x) p c small here on = searched_live done (MakeAt x) p c here (above_child p x c.searched small on)
now_accessed done (DropAt x) p c small here on = searched_live done (DropAt x) p c here (above_child p x c.searched small on)

pub step_accessed : StepAccessLaw
step_accessed d step small but p c at here = by (is_made (acts (copies d) step) step p) (d p) refl at
  where
    done : Bool
    done = acts (copies d) step

    read_before : Option Copied → Bool
    read_before o = option_map_or (λ (x : Copied). x.read) o false

    by : (b : Bool) (o : Option Copied) → d p ≡ o → cond b (Some (made (length p) (d p))) (option_map (taken done step p) o) ≡ Some c → is_accessed c ≡ true
    by true o e h = ap is_accessed (sym (copied_is (made (length p) (d p)) c h)) ∙ by_written (made (length p) (d p)) refl
    by false None e h = absurd (cc h)
    by false (Some x) e h =
        let is : taken done step p x ≡ c = copied_is (taken done step p x) c h in
        let was : x.live ≡ true = first_so x.live (not (cuts done step p)) (ap (λ (y : Copied). y.live) is ∙ here) in
        ap is_accessed (sym is) ∙ elim (but p x e was) [
          | inl g ↦ still_accessed done step p x was g
          | inr g ↦ now_accessed done step p x small was g
        ]
