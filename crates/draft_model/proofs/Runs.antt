-- A step for which no page is wanted: the draft stands for one step more.
use Rattle.std.proofs.Common.{◌≡◌, ℕ, Bool, true, false, not, ◌&&◌, ◌||◌, cond, List, [], ◌∷◌, ◌++◌, refl, sym, ap, subst, ◌∙◌, Option, Some, None, option_map, is_some, append_assoc, append-nil}
use Rattle.std.specs.Option.{option_map_or}
use Rattle.std.specs.List.{list_all}
use Rattle.std.specs.FinMap as map
use Rattle.std.specs.Cmp.{first_so, second_so}
use Rattle.afs_base.specs.Path.{are_slots}
use Rattle.afs_base.specs.declared.kind.Kind.TheVariants.{Data}
use Rattle.tree_model.specs.declared.step.Step.{Step}
use Rattle.tree_model.specs.declared.step.Step.TheVariants.{ReadAt, ListAt, WriteAt, MakeAt, DropAt}
use Rattle.tree_model.specs.Children.{path_of}
use Rattle.tree_model.specs.Trees.{Tree, has, without, after, tree_after}
use Rattle.tree_model.specs.Accesses.{Place, slot_of, slots_at, target, step_reads, step_writes, all_reads, all_writes, end_of}
use Rattle.tree_model.proofs.Paths.{never, both_true, prefix_self, child_not_root, not_true}
use Rattle.tree_model.proofs.TreeFacts.{tree_step, tree_insert, tree_without, above_child}
use Rattle.tree_model.proofs.PlaceFacts.{among_left, among_right, among_later, among_first}
use Rattle.page_places.specs.Places.{Store, Holds, slot_block}
use Rattle.draft_model.specs.Views.{View, PageCopy, Copies, copies, live, WantsNone}
use Rattle.draft_model.specs.Steps.{is_there, makes, acts, stepped, reply_in}
use Rattle.draft_model.specs.Stands.{Shape, Stands, Runs}
use Rattle.draft_model.proofs.Facts.{and_true, at_of}
use Rattle.draft_model.proofs.Ways.{way_told, child_told, makes_told, reply_told}
use Rattle.draft_model.proofs.Marks.{there_above, made_places, read_told, written_told}
use Rattle.draft_model.proofs.Moves.{moved, moved_copy, moved_is, shape_same, shape_more}
use Rattle.draft_model.proofs.Shapes.{shape_writes, shape_makes, shape_drops}

-- steps that change no page
kept_read : (h : Copies) (q p : List ℕ) → moved false (ReadAt q) h p ≡ h p
kept_read h q p = by (h p)
  where
    by : (o : Option PageCopy) → option_map (moved_copy false (ReadAt q) p) o ≡ o
    by None = refl
    by (Some c) = λ i. Some (record { live = and_true c.live i; page = c.page })

kept_list : (h : Copies) (q p : List ℕ) → moved false (ListAt q) h p ≡ h p
kept_list h q p = by (h p)
  where
    by : (o : Option PageCopy) → option_map (moved_copy false (ListAt q) p) o ≡ o
    by None = refl
    by (Some c) = λ i. Some (record { live = and_true c.live i; page = c.page })

kept_make : (h : Copies) (x : List ℕ × ℕ) (p : List ℕ) → moved false (MakeAt x) h p ≡ h p
kept_make h x p = by (h p)
  where
    by : (o : Option PageCopy) → option_map (moved_copy false (MakeAt x) p) o ≡ o
    by None = refl
    by (Some c) = λ i. Some (record { live = and_true c.live i; page = c.page })

kept_drop : (h : Copies) (x : List ℕ × ℕ) (p : List ℕ) → moved false (DropAt x) h p ≡ h p
kept_drop h x p = by (h p)
  where
    by : (o : Option PageCopy) → option_map (moved_copy false (DropAt x) p) o ≡ o
    by None = refl
    by (Some c) = λ i. Some (record { live = and_true c.live i; page = c.page })

none_of : (o : Option ℕ) → is_some o ≡ false → o ≡ None
none_of None h = refl
none_of (Some x) h = never refl h

or_none : (a b : Bool) → (a || b) ≡ false → (a ≡ false) × (b ≡ false)
or_none true b h = never refl h
or_none false b h = (refl, h)

-- a make that is done
shape_made : (store : Store) (root : ℕ) (a t : Tree) (w : List Place) (h : Copies) (c : List ℕ × ℕ) → Holds store root a → Shape store root a t w h
    → live h c.0 ≡ has t c.0 → are_slots (path_of c) ≡ true → makes h c ≡ true
    → Shape store root a (map.insert t (path_of c) []) (w ++ made_places c) (moved true (MakeAt c) h)
shape_made store root a t w h c base S is small e =
    let here : live h c.0 ≡ true = first_so (live h c.0) (not (is_there h c)) e in
    let at = at_of h c.0 here in
    let away : is_there h c ≡ false = not_true (is_there h c) (second_so (live h c.0) (not (is_there h c)) e) in
    let parts = or_none (live h (path_of c)) (is_some (slot_block at.0.page c.1))
    (sym (ap (λ o. option_map_or (λ (x : PageCopy). x.live && (live h (path_of c) || is_some (slot_block x.page c.1))) o false) at.1.is
    ∙ ap (λ b. b && (live h (path_of c) || is_some (slot_block at.0.page c.1))) at.1.live) ∙ away) in
    shape_makes store root a t w (w ++ made_places c) h c at.0
    (tree_insert t (path_of c) [] S.tree (above_child t c S.tree (sym is ∙ here)))
    (λ p in_w. among_left w (made_places c) (p, Data) in_w)
    (among_right w (made_places c) (path_of c, Data)
    (among_later (slot_of c) ((path_of c, Data) ∷ slots_at (path_of c)) (path_of c, Data) (among_first (path_of c, Data) (slots_at (path_of c)))))
    small at.1 parts.0 (none_of (slot_block at.0.page c.1) parts.1) (sym (child_told store root a t w h base S c is) ∙ away) S

-- the pages are in shape after each step
shape_stepped : (store : Store) (root : ℕ) (a t : Tree) (w : List Place) (h : Copies) → Holds store root a → Shape store root a t w h
    → (step : Step) → are_slots (target step) ≡ true → WantsNone h (end_of step)
    → Shape store root a (after t step) (w ++ step_writes t step) (moved (acts h step) step h)
shape_stepped store root a t w h base S (ReadAt q) small none =
    shape_same store root a t (w ++ []) h (moved false (ReadAt q) h) (kept_read h q) (shape_more store root a t w (w ++ []) h (λ p in_w. among_left w [] (p, Data) in_w) S)
shape_stepped store root a t w h base S (ListAt q) small none =
    shape_same store root a t (w ++ []) h (moved false (ListAt q) h) (kept_list h q) (shape_more store root a t w (w ++ []) h (λ p in_w. among_left w [] (p, Data) in_w) S)
shape_stepped store root a t w h base S (WriteAt q bytes) small none =
    shape_writes store root a t w (w ++ step_writes t (WriteAt q bytes)) h q bytes (tree_step t (WriteAt q bytes) S.tree)
    (λ p in_w. among_left w (step_writes t (WriteAt q bytes)) (p, Data) in_w) (way_told store root a t w h S q none q (prefix_self q)) S
shape_stepped store root a t w h base S (MakeAt c) small none = subst G (makes_told store root a t w h base S c is) (by (makes h c) refl)
  where
    is : live h c.0 ≡ has t c.0
    is = way_told store root a t w h S c.0 none c.0 (prefix_self c.0)

    G : Bool → Type 0
    G b = Shape store root a (cond b (map.insert t (path_of c) []) t) (w ++ cond b (made_places c) []) (moved (makes h c) (MakeAt c) h)

    by : (b : Bool) → makes h c ≡ b → Shape store root a (cond (makes h c) (map.insert t (path_of c) []) t) (w ++ cond (makes h c) (made_places c) []) (moved (makes h c) (MakeAt c) h)
    by false e =
        let E : Bool → Type 0 = λ b. Shape store root a (cond b (map.insert t (path_of c) []) t) (w ++ cond b (made_places c) []) (moved b (MakeAt c) h) in
        subst E (sym e) (shape_same store root a t (w ++ []) h (moved false (MakeAt c) h) (kept_make h c) (shape_more store root a t w (w ++ []) h (λ p in_w. among_left w [] (p, Data) in_w) S))
    by true e =
        let E : Bool → Type 0 = λ b. Shape store root a (cond b (map.insert t (path_of c) []) t) (w ++ cond b (made_places c) []) (moved b (MakeAt c) h) in
        subst E (sym e) (shape_made store root a t w h c base S is small e)
shape_stepped store root a t w h base S (DropAt c) small none = subst G (child_told store root a t w h base S c is) (by (is_there h c) refl)
  where
    is : live h c.0 ≡ has t c.0
    is = way_told store root a t w h S c.0 none c.0 (prefix_self c.0)

    G : Bool → Type 0
    G b = Shape store root a (cond b (without t (path_of c)) t) (w ++ cond b (slot_of c ∷ []) []) (moved (is_there h c) (DropAt c) h)

    by : (b : Bool) → is_there h c ≡ b → Shape store root a (cond (is_there h c) (without t (path_of c)) t) (w ++ cond (is_there h c) (slot_of c ∷ []) []) (moved (is_there h c) (DropAt c) h)
    by false e =
        let E : Bool → Type 0 = λ b. Shape store root a (cond b (without t (path_of c)) t) (w ++ cond b (slot_of c ∷ []) []) (moved b (DropAt c) h) in
        subst E (sym e) (shape_same store root a t (w ++ []) h (moved false (DropAt c) h) (kept_drop h c) (shape_more store root a t w (w ++ []) h (λ p in_w. among_left w [] (p, Data) in_w) S))
    by true e =
        let E : Bool → Type 0 = λ b. Shape store root a (cond b (without t (path_of c)) t) (w ++ cond b (slot_of c ∷ []) []) (moved b (DropAt c) h) in
        let at = at_of h c.0 (there_above h c e) in
        subst E (sym e) (shape_drops store root a t w (w ++ slot_of c ∷ []) h c at.0 (tree_without t (path_of c) S.tree (child_not_root c.0 c.1))
        (λ p in_w. among_left w (slot_of c ∷ []) (p, Data) in_w) at.1 S)

-- ---- one step at the end

pub tree_last : (a : Tree) (steps : List Step) (step : Step) → tree_after a (steps ++ step ∷ []) ≡ after (tree_after a steps) step
tree_last a [] step = refl
tree_last a (s ∷ steps) step = tree_last (after a s) steps step

pub writes_last : (a : Tree) (steps : List Step) (step : Step) → all_writes a (steps ++ step ∷ []) ≡ all_writes a steps ++ step_writes (tree_after a steps) step
writes_last a [] step = append-nil (step_writes a step)
writes_last a (s ∷ steps) step =
    ap (λ (xs : List Place). step_writes a s ++ xs) (writes_last (after a s) steps step)
    ∙ sym (append_assoc (step_writes a s) (all_writes (after a s) steps) (step_writes (tree_after (after a s) steps) step))

pub reads_last : (a : Tree) (done : List Place) (steps : List Step) (step : Step)
    → all_reads a done (steps ++ step ∷ []) ≡ all_reads a done steps ++ step_reads (tree_after a steps) (done ++ all_writes a steps) step
reads_last a done [] step = append-nil (step_reads a done step) ∙ ap (λ (xs : List Place). step_reads a xs step) (sym (append-nil done))
reads_last a done (s ∷ steps) step =
    ap (λ (xs : List Place). step_reads a done s ++ xs) (reads_last (after a s) (done ++ step_writes a s) steps step
    ∙ ap (λ (xs : List Place). all_reads (after a s) (done ++ step_writes a s) steps ++ step_reads (tree_after (after a s) steps) xs step)
    (append_assoc done (step_writes a s) (all_writes (after a s) steps)))
    ∙ sym (append_assoc (step_reads a done s) (all_reads (after a s) (done ++ step_writes a s) steps) (step_reads (tree_after (after a s) steps) (done ++ all_writes a (s ∷ steps)) step))

all_last : (steps : List Step) (step : Step) → list_all (λ (s : Step). are_slots (target s)) steps ≡ true → are_slots (target step) ≡ true
    → list_all (λ (s : Step). are_slots (target s)) (steps ++ step ∷ []) ≡ true
all_last [] step all small = ap (λ b. b && true) small
all_last (s ∷ steps) step all small =
    both_true _ _ (first_so (are_slots (target s)) (list_all (λ (s : Step). are_slots (target s)) steps) all)
    (all_last steps step (second_so (are_slots (target s)) (list_all (λ (s : Step). are_slots (target s)) steps) all) small)

-- ---- the law

pub runs : (d : View) (step : Step) → are_slots (target step) ≡ true → WantsNone (copies d) (end_of step) → Runs d (stepped d step) step (reply_in (copies d) step)
runs d step small none store root a steps was =
    let t : Tree = tree_after a steps in
    let r : List Place = all_reads a [] steps in
    let w : List Place = all_writes a steps in
    let S = was.stands in
    let next : Stands store root a (after t step) (r ++ step_reads t w step) (w ++ step_writes t step) (stepped d step) = record {
      shape = shape_same store root a (after t step) (w ++ step_writes t step) (moved (acts (copies d) step) step (copies d)) (copies (stepped d step)) (moved_is d step)
          (shape_stepped store root a t w (copies d) was.base S.shape step small none);
      read = read_told store root a t r w d was.base S step none;
      written = written_told store root a t r w d was.base S step none;
    } in
    let F : Tree → Type 0 = λ u. Stands store root a u (r ++ step_reads t w step) (w ++ step_writes t step) (stepped d step) in
    let G : List Place → Type 0 = λ xs. Stands store root a (tree_after a (steps ++ step ∷ [])) xs (w ++ step_writes t step) (stepped d step) in
    let H : List Place → Type 0 = λ xs. Stands store root a (tree_after a (steps ++ step ∷ [])) (all_reads a [] (steps ++ step ∷ [])) xs (stepped d step) in (
      reply_told store root a t w (copies d) was.base S.shape step none,
      record {
        base = was.base;
        kept = all_last steps step was.kept small;
        stands = subst H (sym (writes_last a steps step)) (subst G (sym (reads_last a [] steps step)) (subst F (sym (tree_last a steps step)) next));
      },
    )
