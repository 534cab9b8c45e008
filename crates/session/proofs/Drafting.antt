-- The drafts of an update: what a call on the one that is picked leaves, and what a step makes of the update.
use Rattle.std.proofs.Common.{◌≡◌, ◌≢◌, ◌⊎◌, inl, inr, ℕ, zero, suc, ◌+◌, ◌<◌, ◌==◌, List, [], ◌∷◌, length, length-append, Option, Some, None, refl, sym, ap, ◌∙◌, subst, arith, slice_get, ◌≤◌, ◌||◌}
use Rattle.std.specs.List.{sum_by}
use Rattle.std.specs.Prelude.{Contains, get_or, nat_lt}
use Rattle.std.proofs.lemmas.Option.{slice_get-get_or}
use Rattle.block_map.proofs.Marking.{slice_get-lt}
use Rattle.std.specs.List.{list_any}
use Rattle.arrayvec.specs.ArrayVec.{ArrayVec}
use Rattle.std.specs.Option.{option_map_or}
use Rattle.std.proofs.lemmas.List.Sums.{sum_by-cons}
use Rattle.std.proofs.lemmas.Bool.{cases_eq}
use Rattle.draft_model.specs.Views.{View}
use Rattle.pool_draft.specs.Roots.{OtherDrafts, object_in, root_in, serial_in}
use Rattle.pool_draft.specs.Sets.{base_at, others_of, picked_of, roots_of, view_at}
use Rattle.pool_draft.specs.declared.pool_set.PoolSet.{PoolSet}
use Rattle.pool_draft.proofs.Others.{others_stay}
use Rattle.script_text.specs.ScriptValue.{ScriptValue}
use Rattle.service_model.specs.Entries.{and_step, step_at}
use Rattle.service_model.specs.Standing.{Update, Work, picked_work}
use Rattle.tree_model.specs.declared.step.Step.{Step}
use Rattle.ground_model.specs.Own.{HasDraft}
use Rattle.ground_model.specs.Leaves.{KeepsVersions}
use Rattle.ground_model.specs.Scenes.{Scene}
use Rattle.ground_model.proofs.Drafting.{draft_stays_own}
use Rattle.session.specs.Own.{HasFed, IsDraftOf, IsDrafting, IsPlain}
use Rattle.session.specs.Safe.{AreDraftsIn, AreSafeDrafts, drafts_of, rights_of, root_of, serial_of, view_of}
use Rattle.session.specs.declared.course.Course.{Course}

-- ---- a call on the picked draft

-- Two sets have the same version at a place.
pub record IsSameBase (old new : PoolSet) (i : ℕ) : Type 0 where
  pub root : root_in (base_at new i) ≡ root_in (base_at old i)
  pub object : object_in (base_at new i) ≡ object_in (base_at old i)
  pub serial : serial_in (base_at new i) ≡ serial_in (base_at old i)

-- A call changed the picked draft alone, and left it its base.
pub record OnPicked (old new : PoolSet) : Type 0 where
  pub picked : picked_of new ≡ picked_of old
  pub roots : roots_of new ≡ roots_of old
  pub bases : (i : ℕ) → IsSameBase old new i
  pub views : (i : ℕ) → i ≢ picked_of old → view_at new i ≡ view_at old i

-- what a draft says of the version that it is based on
abbrev pub HasSameBase : PoolSet → PoolSet → ℕ → ℕ → Type 0
HasSameBase old new j k =
    (root_in (base_at new k) ≡ root_in (base_at old j)) × (object_in (base_at new k) ≡ object_in (base_at old j))
    × (serial_in (base_at new k) ≡ serial_in (base_at old j))

pub on_picked : (old new : PoolSet) → others_of new ≡ others_of old → HasSameBase old new (picked_of old) (picked_of new) → OnPicked old new
on_picked old new others same = record {
  picked = picked_same;
  roots = ap (λ (o : OtherDrafts). o.roots) others;
  bases = λ i. base i (cases_eq i (picked_of old));
  views = λ i ne. (others_stay old new others i ne).0;
}
  where
    picked_same : picked_of new ≡ picked_of old
    picked_same = ap (λ (o : OtherDrafts). o.pages.root) others

    here : HasSameBase old new (picked_of old) (picked_of old)
    here = subst (λ k. HasSameBase old new (picked_of old) k) picked_same same

    base : (i : ℕ) → (i ≡ picked_of old) ⊎ (i ≢ picked_of old) → IsSameBase old new i
    base i (inl e) = subst (λ k. IsSameBase old new k) (sym e) (record { root = here.0; object = here.1; serial = here.2 })
    base i (inr ne) =
        let e = (others_stay old new others i ne).1 in
        record { root = ap root_in e; object = ap object_in e; serial = ap serial_in e }

-- a draft that is not picked is that of its file still
pub other_draft : (scene : Scene) (s : Course) (new : PoolSet) (i : ℕ) (w : Work) → OnPicked s.drafts new → i ≢ picked_of s.drafts → IsDraftOf scene s i w → IsDraftOf scene (record s { drafts = new }) i w
other_draft scene s new i w same ne own = record {
  rights = own.rights;
  object = (same.bases i).object ∙ own.object;
  serial = (same.bases i).serial ∙ own.serial;
  draft = subst (λ (d : View). HasDraft scene w (root_in (base_at new i)) d) (sym (same.views i ne))
      (subst (λ n. HasDraft scene w n (view_at s.drafts i)) (sym (same.bases i).root) own.draft);
}

-- ---- numbers

-- a set with one draft, which is picked
pub one_in : (size : ℕ) (set : PoolSet) → picked_of set ≡ 0 → root_in (base_at set 0) < size → AreDraftsIn size set 1
one_in size set picked low = record {
  picked = omega (arith, picked);
  bases = λ i small. subst (λ k. root_in (base_at set k) < size) {x = 0} {y = i} (omega (arith, small)) low;
}

-- a set with drafts has one, which is picked
pub drafts_in : (size : ℕ) (set : PoolSet) (n : ℕ) → n ≢ 0 → AreSafeDrafts size set n → AreDraftsIn size set n
drafts_in size set zero some safe = absurd (some refl)
drafts_in size set (suc zero) some safe = safe
drafts_in size set (suc (suc n)) some safe = absurd safe

pub picked_some : (size : ℕ) (set : PoolSet) (n : ℕ) → n ≢ 0 → AreSafeDrafts size set n → picked_of set < n
picked_some size set n some safe = (drafts_in size set n some safe).picked

-- and where one is picked there are some
pub some_picked : (k n : ℕ) → k < n → n ≢ 0
some_picked k n low = λ e. omega (arith, low, e)

on_picked_in : (size : ℕ) (old new : PoolSet) (n : ℕ) → OnPicked old new → AreDraftsIn size old n → AreDraftsIn size new n
on_picked_in size old new n same safe = record {
  picked = subst (λ k. k < n) (sym same.picked) safe.picked;
  bases = λ i low. subst (λ k. k < size) (sym (same.bases i).root) (safe.bases i low);
}

pub on_picked_safe : (size : ℕ) (old new : PoolSet) → OnPicked old new → picked_of old < roots_of old → AreSafeDrafts size old (roots_of old) → AreSafeDrafts size new (roots_of new)
on_picked_safe size old new same some safe =
    subst (λ n. AreSafeDrafts size new n) (sym same.roots) (by (roots_of old) (some_picked (picked_of old) (roots_of old) some) safe)
  where
    by : (n : ℕ) → n ≢ 0 → AreSafeDrafts size old n → AreSafeDrafts size new n
    by zero none safe = absurd (none refl)
    by (suc zero) none safe = on_picked_in size old new 1 same safe
    by (suc (suc n)) none safe = safe

-- ---- the update

-- An update has a file at each place where there is a draft.
pub at_place : (ws : List Work) (i : ℕ) → i < length ws → (w : Work) × (slice_get ws i ≡ Some w)
at_place [] i low = absurd (omega (arith, low))
at_place (w ∷ ws) zero low = (w, refl)
at_place (w ∷ ws) (suc i) low = at_place ws i (omega (arith, low))

-- The file that steps go to, and its draft.
pub record Picked (scene : Scene) (s : Course) (u : Update) : Type 0 where
  pub work : Work
  pub is : picked_work u ≡ Some work
  pub here : IsDraftOf scene s (picked_of s.drafts) work

pub picked_in : (scene : Scene) (script : ScriptValue) (s : Course) (u : Update) → IsDrafting scene script s u → Picked scene s u
picked_in scene script s u own =
    let some = own.within in
    let number = own.number in
    let w = at_place u.works (picked_of s.drafts) (omega (arith, some, number)) in
    record { work = w.0; is = ap (slice_get u.works) own.picked ∙ w.1; here = own.each (picked_of s.drafts) w.0 w.1 }

-- the rights to it are those that the client knows
pub rights_are : (scene : Scene) (s : Course) (u : Update) (p : Picked scene s u) → rights_of s ≡ p.work.rights
rights_are scene s u p = ap (λ (o : Option ℕ). option_map_or (λ n. n) o 0) p.here.rights

-- its steps are the least of those of all files
pub steps_within : (ws : List Work) (i : ℕ) (w : Work) → slice_get ws i ≡ Some w → length w.steps ≤ sum_by (λ (x : Work). length x.steps) ws
steps_within [] i w e = absurd (let wrong : None ≡ Some w = e in cc wrong)
steps_within (x ∷ ws) zero w e =
    let same : x ≡ w = cc in
    let sum = sum_by-cons (λ (y : Work). length y.steps) x ws in
    let here = ap (λ (y : Work). length y.steps) same in
    omega (arith, sum, here)
steps_within (x ∷ ws) (suc i) w e =
    let sum = sum_by-cons (λ (y : Work). length y.steps) x ws in
    let low = steps_within ws i w e in
    omega (arith, sum, low)

-- what lies at a place is on the list
pub slice_contains : (ws : List Work) (i : ℕ) (w : Work) → slice_get ws i ≡ Some w → Contains ws w
slice_contains ws i w is =
    let low = slice_get-lt ws i w is in
    let both : Some (get_or ws i w) ≡ Some w = sym (slice_get-get_or ws i w low) ∙ is in
    (i, low, cc)

-- ---- a step

pub step_here : (i : ℕ) (step : Step) (ws : List Work) (w : Work) → slice_get ws i ≡ Some w → slice_get (step_at i step ws) i ≡ Some (and_step step w)
step_here i step [] w e = absurd (let wrong : None ≡ Some w = e in cc wrong)
step_here zero step (x ∷ ws) w e = (let same : x ≡ w = cc in ap (λ (y : Work). Some (and_step step y)) same)
step_here (suc i) step (x ∷ ws) w e = step_here i step ws w e

pub step_there : (i : ℕ) (step : Step) (ws : List Work) (j : ℕ) → j ≢ i → slice_get (step_at i step ws) j ≡ slice_get ws j
step_there i step [] j ne = refl
step_there zero step (x ∷ ws) zero ne = absurd (ne refl)
step_there zero step (x ∷ ws) (suc j) ne = refl
step_there (suc i) step (x ∷ ws) zero ne = refl
step_there (suc i) step (x ∷ ws) (suc j) ne = step_there i step ws j (λ e. ne (ap suc e))

pub step_length : (i : ℕ) (step : Step) (ws : List Work) → length (step_at i step ws) ≡ length ws
step_length i step [] = refl
step_length zero step (x ∷ ws) = refl
step_length (suc i) step (x ∷ ws) = ap suc (step_length i step ws)

abbrev steps_in : Work → ℕ
steps_in w = length w.steps

pub step_counted : (i : ℕ) (step : Step) (ws : List Work) (w : Work) → slice_get ws i ≡ Some w → sum_by steps_in (step_at i step ws) ≡ sum_by steps_in ws + 1
step_counted i step [] w e = absurd (let wrong : None ≡ Some w = e in cc wrong)
step_counted zero step (x ∷ ws) w e =
    let new = sum_by-cons steps_in (and_step step x) ws in
    let old = sum_by-cons steps_in x ws in
    let more = length-append x.steps (step ∷ []) in
    omega (arith, new, old, more)
step_counted (suc i) step (x ∷ ws) w e =
    let new = sum_by-cons steps_in x (step_at i step ws) in
    let old = sum_by-cons steps_in x ws in
    let rest = step_counted i step ws w e in
    omega (arith, new, old, rest)

pub step_has_file : (object i : ℕ) (step : Step) (ws : List Work) → list_any (λ (w : Work). w.object == object) (step_at i step ws) ≡ list_any (λ (w : Work). w.object == object) ws
step_has_file object i step [] = refl
step_has_file object zero step (x ∷ ws) = refl
step_has_file object (suc i) step (x ∷ ws) = ap (λ b. (x.object == object) || b) (step_has_file object i step ws)

-- ---- a draft stays

-- what a client drafts stays so where its drafts do, and every version is there again
pub draft_of_stays : (scene after : Scene) (s s' : Course) (i : ℕ) (w : Work) → KeepsVersions scene after → s'.drafts ≡ s.drafts → s'.rights ≡ s.rights → IsDraftOf scene s i w → IsDraftOf after s' i w
draft_of_stays scene after s s' i w keeps same rights own = record {
  rights = ap (λ (r : ArrayVec ℕ). slice_get r.items i) rights ∙ own.rights;
  object = ap (λ (d : PoolSet). object_in (base_at d i)) same ∙ own.object;
  serial = ap (λ (d : PoolSet). serial_in (base_at d i)) same ∙ own.serial;
  draft = draft_stays_own scene after w (root_in (base_at s'.drafts i)) (view_at s'.drafts i) keeps
      (subst (λ (d : PoolSet). HasDraft scene w (root_in (base_at d i)) (view_at d i)) (sym same) own.draft);
}

pub drafting_stays : (scene after : Scene) (script : ScriptValue) (s s' : Course) (u : Update) → KeepsVersions scene after → s'.drafts ≡ s.drafts → s'.rights ≡ s.rights → (HasFed script s → HasFed script s')
    → IsDrafting scene script s u → IsDrafting after script s' u
drafting_stays scene after script s s' u keeps same rights fed own = record {
  number = own.number ∙ sym (ap roots_of same);
  several = own.several ∙ ap (λ (d : PoolSet). nat_lt 1 (roots_of d)) (sym same);
  picked = own.picked ∙ sym (ap picked_of same);
  within = subst (λ (d : PoolSet). picked_of d < roots_of d) (sym same) own.within;
  count = own.count ∙ sym (ap (λ (d : PoolSet). d.count) same);
  each = λ i w is. draft_of_stays scene after s s' i w keeps same rights (own.each i w is);
  fed = fed own.fed;
}

-- ---- an update of one file

-- the one file of an update, where the client has one draft
pub record Alone (scene : Scene) (script : ScriptValue) (s : Course) (u : Update) : Type 0 where
  pub work : Work
  pub plain : IsPlain s u work
  pub serial : serial_of s ≡ work.serial
  pub draft : HasDraft scene work (root_of s) (view_of s)
  pub fed : HasFed script s

pub alone_in : (scene : Scene) (script : ScriptValue) (s : Course) (u : Update) → drafts_of s ≡ 1 → IsDrafting scene script s u → Alone scene script s u
alone_in scene script s u one own = by u.works refl
  where
    by : (ws : List Work) → u.works ≡ ws → Alone scene script s u
    by [] is = absurd (let number = own.number in let none = ap length is in omega (arith, number, none, one))
    by (w ∷ x ∷ ws) is = absurd (let number = own.number in let many = ap length is in omega (arith, number, many, one))
    by (w ∷ []) is =
        let here = own.each 0 w (ap (λ (ws : List Work). slice_get ws 0) is) in
        let some = own.within in
        record {
          work = w;
          plain = record {
            plain = own.several ∙ ap (nat_lt 1) one;
            works = is;
            picked = own.picked ∙ omega (arith, some, one);
            drafts = one;
            count = sym (ap (sum_by steps_in) is ∙ sum_by-cons steps_in w [] ∙ omega arith) ∙ own.count;
            object = here.object;
          };
          serial = here.serial;
          draft = here.draft;
          fed = own.fed;
        }
