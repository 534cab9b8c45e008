-- What every draft keeps, call by call: `/` is live, and each page has the level of its path.
use Rattle.std.proofs.Common.{◌≡◌, ℕ, Bool, true, false, not, ◌&&◌, cond, List, [], length, ◌⊎◌, inl, inr, refl, sym, ap, ◌∙◌, Option, Some, None, option_map}
use Rattle.std.specs.Option.{option_map_or}
use Rattle.tree_model.specs.declared.step.Step.{Step}
use Rattle.tree_model.specs.declared.step.Step.TheVariants.{ReadAt, ListAt, WriteAt, MakeAt, DropAt}
use Rattle.tree_model.proofs.Paths.{told, same_is, child_not_root}
use Rattle.page_codec.specs.Values.{PageValue}
use Rattle.page_places.specs.Places.{same}
use Rattle.draft_model.specs.Views.{Copied, View, PageCopy, copy_of, copies, live}
use Rattle.draft_model.specs.Steps.{acts, cuts, page_by, taken, is_made, made, stepped, fed_page, fed, begun}
use Rattle.draft_model.proofs.Facts.{and_false}
use Rattle.draft_tree.specs.Drafts.{HasLevels, merged_page, merged_at}

copied_is : (x y : Copied) → Some x ≡ Some y → x ≡ y
copied_is x y e = ap (λ (o : Option Copied). option_map_or (λ (c : Copied). c) o x) e

-- ---- page by page the same

pub top_same : (old new : View) → ((p : List ℕ) → new p ≡ old p) → live (copies old) [] ≡ true → live (copies new) [] ≡ true
top_same old new is top = ap (λ (o : Option Copied). option_map_or (λ (c : PageCopy). c.live) (option_map copy_of o) false) (is []) ∙ top

pub levels_same : (old new : View) → ((p : List ℕ) → new p ≡ old p) → HasLevels old → HasLevels new
levels_same old new is was p c at = was p c (sym (is p) ∙ at)

-- ---- a page was copied

live_in : Option Copied → Bool
live_in o = option_map_or (λ (c : PageCopy). c.live) (option_map copy_of o) false

pub top_fed : (d : View) (q : List ℕ) (page : PageValue) → live (copies d) [] ≡ true → live (copies (fed d q page)) [] ≡ true
unfolding live_in
top_fed d q page top = by (same [] q)
  where
    by : (b : Bool) → live_in (cond b (Some (fed_page page)) (d [])) ≡ true
    by true = refl
    by false = top

pub levels_fed : (d : View) (q : List ℕ) (page : PageValue) → page.level ≡ length q → HasLevels d → HasLevels (fed d q page)
levels_fed d q page level was p c at = by (told (same p q))
  where
    by : (same p q ≡ true) ⊎ (same p q ≡ false) → c.page.level ≡ length p
    by (inl e) =
        let is : fed_page page ≡ c = copied_is (fed_page page) c (sym (ap (λ b. cond b (Some (fed_page page)) (d p)) e) ∙ at) in
        ap (λ (x : Copied). x.page.level) (sym is) ∙ level ∙ ap length (sym (same_is p q e))
    by (inr e) = was p c (sym (ap (λ b. cond b (Some (fed_page page)) (d p)) e) ∙ at)

-- ---- the beginning

levels_nothing : HasLevels (λ _. None)
levels_nothing p c at = absurd (cc at)

pub top_begun : (page : PageValue) → live (copies (begun page)) [] ≡ true
top_begun page = refl

pub levels_begun : (page : PageValue) → page.level ≡ 0 → HasLevels (begun page)
levels_begun page level = levels_fed (λ _. None) [] page level levels_nothing

-- ---- a page was merged

pub top_merged : (d : View) (q : List ℕ) (merged : PageValue) → live (copies d) [] ≡ true → live (copies (merged_at d q merged)) [] ≡ true
unfolding live_in
top_merged d q merged top = by (same [] q) (d []) top
  where
    by : (b : Bool) (o : Option Copied) → live_in o ≡ true → live_in (cond b (option_map (merged_page merged) o) o) ≡ true
    by true None h = h
    by true (Some c) h = h
    by false o h = h

pub levels_merged : (d : View) (q : List ℕ) (merged : PageValue) → HasLevels d → HasLevels (merged_at d q merged)
levels_merged d q merged was p c at = by (same p q) (d p) refl at
  where
    by : (b : Bool) (o : Option Copied) → d p ≡ o → cond b (option_map (merged_page merged) o) o ≡ Some c → c.page.level ≡ length p
    by true None e h = absurd (cc h)
    by true (Some x) e h = ap (λ (y : Copied). y.page.level) (sym (copied_is (merged_page merged x) c h)) ∙ was p x e
    by false o e h = was p c (e ∙ h)

-- ---- a step was done

not_cut : (done : Bool) (step : Step) → cuts done step [] ≡ false
not_cut done (ReadAt q) = refl
not_cut done (ListAt q) = refl
not_cut done (WriteAt q bytes) = refl
not_cut done (MakeAt x) = refl
not_cut done (DropAt x) = ap (λ b. done && b) (child_not_root x.0 x.1) ∙ and_false done

pub top_stepped : (d : View) (step : Step) → live (copies d) [] ≡ true → live (copies (stepped d step)) [] ≡ true
unfolding live_in
top_stepped d step top = by (is_made (acts (copies d) step) step []) (d []) top
  where
    by : (b : Bool) (o : Option Copied) → live_in o ≡ true → live_in (cond b (Some (made 0 (d []))) (option_map (taken (acts (copies d) step) step []) o)) ≡ true
    by true o h = refl
    by false None h = h
    by false (Some c) h = (λ i. h i && not (not_cut (acts (copies d) step) step i))

level_kept : (done here : Bool) (step : Step) (p : List ℕ) (page : PageValue) → (page_by done here step p page).level ≡ page.level
level_kept done here (ReadAt q) p page = refl
level_kept done here (ListAt q) p page = refl
level_kept done here (WriteAt q bytes) p page = refl
level_kept done here (MakeAt x) p page = refl
level_kept done here (DropAt x) p page = refl

pub levels_stepped : (d : View) (step : Step) → HasLevels d → HasLevels (stepped d step)
levels_stepped d step was p c at = by (is_made (acts (copies d) step) step p) (d p) refl at
  where
    by : (b : Bool) (o : Option Copied) → d p ≡ o → cond b (Some (made (length p) (d p))) (option_map (taken (acts (copies d) step) step p) o) ≡ Some c
        → c.page.level ≡ length p
    by true o e h = ap (λ (y : Copied). y.page.level) (sym (copied_is (made (length p) (d p)) c h))
    by false None e h = absurd (cc h)
    by false (Some x) e h =
        ap (λ (y : Copied). y.page.level) (sym (copied_is (taken (acts (copies d) step) step p x) c h))
        ∙ level_kept (acts (copies d) step) x.live step p x.page
        ∙ was p x e
