-- What is left when the pages that were not accessed are let go.
use Rattle.std.proofs.Common.{◌≡◌, ℕ, ◌≤◌, Bool, true, false, ◌||◌, cond, List, [], ◌∷◌, filter, length, ◌⊎◌, inl, inr, refl, sym, ap, subst, ◌∙◌, Option, Some, None, is_some, arith}
use Rattle.std.specs.Map.Calls.{RetainsPairs}
use Rattle.tree_model.proofs.Paths.{told, never, same_is}
use Rattle.page_places.specs.Places.{same}
use Rattle.draft_model.specs.Views.{Copied, View}
use Rattle.draft_model.specs.Told.{is_accessed}
use Rattle.draft_model.specs.Entries.{Entry, shown}
use Rattle.draft_model.proofs.Entries.{IsInOrder, order_head, order_tail, found_after, less_apart}
use Rattle.draft_tree.specs.Drafts.{HasLevels, if_accessed, accessed_pages}
use Rattle.draft_tree.specs.Pages.{IsShort, is_kept}

-- a closure that keeps what passes, and writes nothing
pub filter_pairs : {F K X : Type 0} (T : F → K → X → Bool → X → F → Type 0) (keep : K → X → Bool) (f : F)
    → ((k : K) (v : X) (b : Bool) (w : X) (f' : F) → T f k v b w f' → (b ≡ keep k v) × (w ≡ v) × (f' ≡ f))
    → (es kept : List (K × X)) → RetainsPairs T f es kept → kept ≡ filter (λ e. keep e.0 e.1) es
filter_pairs T keep f h [] kept r = r
filter_pairs T keep f h (e ∷ es) kept r =
    let a = h e.0 e.1 r.0 r.1 r.2 r.4 in
    let rest = filter_pairs T keep f h es r.3 (subst (λ u. RetainsPairs T u es r.3) a.2 r.5) in
    r.6 ∙ (λ i. cond (a.0 i) ((e.0, a.1 i) ∷ rest i) (rest i))

left : List Entry → List Entry
left es = filter (λ e. is_kept e.0 e.1) es

-- what is shown of the entries that stay
pub shown_kept : (es : List Entry) → IsInOrder es → (p : List ℕ) → shown (filter (λ e. is_kept e.0 e.1) es) p ≡ accessed_pages (shown es) p
unfolding left
shown_kept [] order p = by (same p [])
  where
    by : (b : Bool) → None ≡ cond b None (if_accessed None)
    by true = refl
    by false = refl
shown_kept (e ∷ es) order p = by (told (same p e.0)) (told (is_kept e.0 e.1)) (shown_kept es (order_tail e es order) p)
  where
    none_after : same p e.0 ≡ true → shown es p ≡ None
    none_after h = no (shown es p) refl
      where
        no : (o : Option Copied) → shown es p ≡ o → o ≡ None
        no None g = refl
        no (Some c) g = never h (less_apart e.0 p (found_after e.0 es (order_head e es order) p c g))

    stays : (b u : Bool) (c : Copied) → (b || u) ≡ true → is_accessed c ≡ u → cond b (Some c) (if_accessed (Some c)) ≡ Some c
    stays true u c h g = refl
    stays false u c h g = ap (λ x. cond x (Some c) None) (g ∙ h)

    goes : (b u : Bool) (c : Copied) → (b || u) ≡ false → is_accessed c ≡ u → cond b (Some c) (if_accessed (Some c)) ≡ None
    goes true u c h g = never refl h
    goes false u c h g = ap (λ x. cond x (Some c) None) (g ∙ h)

    none_left : (b : Bool) → cond b None (if_accessed None) ≡ None
    none_left true = refl
    none_left false = refl

    at_own : same p e.0 ≡ true → (b : Bool) → is_kept e.0 e.1 ≡ b → (same p [] || is_accessed e.1) ≡ b
    at_own h b g = ap (λ (q : List ℕ). same q [] || is_accessed e.1) (same_is p e.0 h) ∙ g

    after : (b : Bool) → same p e.0 ≡ b → cond (same p []) (cond b (Some e.1) (shown es p)) (if_accessed (cond b (Some e.1) (shown es p))) ≡ accessed_pages (shown (e ∷ es)) p
    after b h = sym (ap (λ b. cond (same p []) (cond b (Some e.1) (shown es p)) (if_accessed (cond b (Some e.1) (shown es p)))) h)

    by : (same p e.0 ≡ true) ⊎ (same p e.0 ≡ false) → (is_kept e.0 e.1 ≡ true) ⊎ (is_kept e.0 e.1 ≡ false)
        → shown (left es) p ≡ accessed_pages (shown es) p
        → shown (cond (is_kept e.0 e.1) (e ∷ left es) (left es)) p ≡ accessed_pages (shown (e ∷ es)) p
    by (inl h) (inl g) rest =
        ap (λ b. shown (cond b (e ∷ left es) (left es)) p) g
        ∙ ap (λ b. cond b (Some e.1) (shown (left es) p)) h
        ∙ sym (stays (same p []) (is_accessed e.1) e.1 (at_own h true g) refl)
        ∙ after true h
    by (inl h) (inr g) rest =
        ap (λ b. shown (cond b (e ∷ left es) (left es)) p) g
        ∙ rest
        ∙ ap (λ o. cond (same p []) o (if_accessed o)) (none_after h)
        ∙ none_left (same p [])
        ∙ sym (goes (same p []) (is_accessed e.1) e.1 (at_own h false g) refl)
        ∙ after true h
    by (inr h) (inl g) rest =
        ap (λ b. shown (cond b (e ∷ left es) (left es)) p) g
        ∙ ap (λ b. cond b (Some e.1) (shown (left es) p)) h
        ∙ rest
        ∙ after false h
    by (inr h) (inr g) rest =
        ap (λ b. shown (cond b (e ∷ left es) (left es)) p) g
        ∙ rest
        ∙ after false h

pub length_kept : (es : List Entry) → length (filter (λ e. is_kept e.0 e.1) es) ≤ length es
length_kept [] = omega arith
length_kept (e ∷ es) = by (is_kept e.0 e.1) (length_kept es)
  where
    by : (b : Bool) → length (filter (λ e. is_kept e.0 e.1) es) ≤ length es
        → length (cond b (e ∷ filter (λ e. is_kept e.0 e.1) es) (filter (λ e. is_kept e.0 e.1) es)) ≤ length (e ∷ es)
    by true h = omega arith
    by false h = omega arith

-- ---- what every draft keeps

-- a page that stays is as it was
was_so : (d : View) (p : List ℕ) (c : Copied) → accessed_pages d p ≡ Some c → d p ≡ Some c
was_so d p c h = by (same p []) (d p) refl h
  where
    by : (b : Bool) (o : Option Copied) → d p ≡ o → cond b o (if_accessed o) ≡ Some c → d p ≡ Some c
    by true o e g = e ∙ g
    by false None e g = absurd (cc g)
    by false (Some x) e g = into (is_accessed x) g
      where
        into : (b : Bool) → cond b (Some x) None ≡ Some c → d p ≡ Some c
        into true g = e ∙ g
        into false g = absurd (cc g)

pub levels_accessed : (d : View) → HasLevels d → HasLevels (accessed_pages d)
levels_accessed d was p c at = was p c (was_so d p c at)

pub short_accessed : (old new : List Entry) → ((p : List ℕ) → shown new p ≡ accessed_pages (shown old) p) → IsShort old → IsShort new
short_accessed old new is short p h = ap is_some (is p) ∙ by (same p []) (shown old p) refl (short p h)
  where
    by : (b : Bool) (o : Option Copied) → shown old p ≡ o → is_some o ≡ false → is_some (cond b o (if_accessed o)) ≡ false
    by true o e g = g
    by false None e g = g
    by false (Some c) e g = never refl g
