-- One more slot of a mask of live children, and what a draft gives of a page.
use Rattle.std.proofs.Common.{◌≡◌, ℕ, zero, suc, ◌+◌, ◌<◌, ◌≤◌, Bool, true, false, ◌&&◌, ◌||◌, cond, nat_lt, nat_eq, List, [], ◌∷◌, length, slice_get, drop, Option, Some, None, option_map, is_some, unwrap_or, MatchOption, ◌⊎◌, inl, inr, refl, sym, ap, ◌∙◌, arith, ltb-true, ltb-false, lt-ltb, eqb-true}
use Rattle.std.proofs.lemmas.Bool.{eqb-false}
use Rattle.std.specs.Option.{option_map_or, option_and_then}
use Rattle.std.specs.List.{list_any}
use Rattle.tree_model.specs.Trees.{every_slot, numbers_below}
use Rattle.tree_model.proofs.Paths.{told, never, false_if, path_told}
use Rattle.page_codec.specs.Blank.{empty_page}
use Rattle.page_codec.specs.Bounds.{is_used}
use Rattle.page_codec.specs.Values.{ReferenceValue, PageValue}
use Rattle.page_places.specs.Places.{same, has_bit}
use Rattle.draft_model.specs.Views.{Copied, View, PageCopy, copy_of, copies, live}
use Rattle.draft_tree.specs.Drafts.{live_page, HasLevels, merged_page, merged_at}
use Rattle.draft_model.specs.Told.{flags_of, searched_of, modified_of, is_accessed}
use Rattle.joint_walk.specs.Pairs.{own_page, settled_view}
use Rattle.draft_model.proofs.Facts.{and_false, or_false}

pub more_kept : (L : ℕ → Bool) (n k : ℕ) → ((nat_lt k n && L k) || (L n && nat_eq k n)) ≡ (nat_lt k (n + 1) && L k)
more_kept L n k = elim (told (nat_eq k n)) [
  | inl e ↦
      let is : k ≡ n = eqb-true k n e in
      let not_less : nat_lt k n ≡ false = false_if (nat_lt k n) (λ h. absurd (let low = ltb-true k n h in omega (arith, low, is))) in
      let less : nat_lt k (n + 1) ≡ true = lt-ltb k (n + 1) (omega (arith, is)) in
      (λ i. (not_less i && L k) || (L (sym is i) && e i))
      ∙ and_true (L k)
      ∙ sym (ap (λ b. b && L k) less)
  | inr e ↦
      (λ i. (nat_lt k n && L k) || (ap (λ b. L n && b) e ∙ and_false (L n)) i)
      ∙ or_false (nat_lt k n && L k)
      ∙ ap (λ b. b && L k) (same_lt e (told (nat_lt k n)))
]
  where
    and_true : (b : Bool) → (b && true) ≡ b
    and_true true = refl
    and_true false = refl

    same_lt : nat_eq k n ≡ false → (nat_lt k n ≡ true) ⊎ (nat_lt k n ≡ false) → nat_lt k n ≡ nat_lt k (n + 1)
    same_lt e (inl h) = h ∙ sym (lt-ltb k (n + 1) (let low = ltb-true k n h in omega (arith, low)))
    same_lt e (inr h) = h ∙ sym (false_if (nat_lt k (n + 1)) (λ g. absurd (let low = ltb-true k (n + 1) g in let high = ltb-false k n h in omega (arith, low, high, eqb-false k n e))))

-- what a draft copies out is its live page
abbrev pub Gives : Option PageCopy → Bool → PageValue → PageValue → Type 0
Gives o given old new = MatchOption (live_page o) ((given ≡ false) × (new ≡ old)) (λ page. (given ≡ true) × (new ≡ page))

pub page_given : (d : View) (p : List ℕ) (given : Bool) (old new : PageValue) → old ≡ empty_page (length p) → Gives (copies d p) given old new → new ≡ own_page d p
page_given d p given old new empty gives = by (live_page (copies d p)) gives
  where
    by : (o : Option PageValue) → MatchOption o ((given ≡ false) × (new ≡ old)) (λ page. (given ≡ true) × (new ≡ page)) → new ≡ unwrap_or o (empty_page (length p))
    by None g = g.1 ∙ empty
    by (Some page) g = g.1

-- where my page is live, it is the page of the job
pub own_live : (d : View) (p : List ℕ) (c : Copied) → d p ≡ Some c → c.live ≡ true → own_page d p ≡ c.page
own_live d p c at alive =
    ap (λ (o : Option Copied). unwrap_or (live_page (option_map copy_of o)) (empty_page (length p))) at
    ∙ ap (λ b. unwrap_or (cond b (Some c.page) None) (empty_page (length p))) alive

-- its level is that of the path, where an empty page of that level was there before
pub level_given : (d : View) (p : List ℕ) (given : Bool) (old new : PageValue) → HasLevels d → old.level ≡ length p → Gives (copies d p) given old new → new.level ≡ length p
level_given d p given old new levels empty gives = by (d p) refl gives
  where
    by : (o : Option Copied) → d p ≡ o → Gives (option_map copy_of o) given old new → new.level ≡ length p
    by None e g = ap (λ (x : PageValue). x.level) g.1 ∙ empty
    by (Some c) e g = into c.live g
      where
        into : (b : Bool) → MatchOption (cond b (Some c.page) None) ((given ≡ false) × (new ≡ old)) (λ page. (given ≡ true) × (new ≡ page)) → new.level ≡ length p
        into true g = ap (λ (x : PageValue). x.level) g.1 ∙ levels p c e
        into false g = ap (λ (x : PageValue). x.level) g.1 ∙ empty

-- a page without a slot in use names no block
pub unused_slot : (refs : List ReferenceValue) (k : ℕ) → list_any is_used refs ≡ false → option_and_then (λ (r : ReferenceValue). r.block) (slice_get refs k) ≡ None
unused_slot [] k h = refl
unused_slot (r ∷ refs) k h = at (unused_slot refs) k (neither (is_some r.block) (list_any is_used refs) h)
  where
    neither : (a b : Bool) → (a || b) ≡ false → (a ≡ false) × (b ≡ false)
    neither true b h = never refl h
    neither false b h = (refl, h)

    none : (o : Option ℕ) → is_some o ≡ false → o ≡ None
    none None e = refl
    none (Some x) e = never refl e

    at : ((k : ℕ) → list_any is_used refs ≡ false → option_and_then (λ (r : ReferenceValue). r.block) (slice_get refs k) ≡ None) → (k : ℕ) → (is_some r.block ≡ false) × (list_any is_used refs ≡ false) → option_and_then (λ (r : ReferenceValue). r.block) (slice_get (r ∷ refs) k) ≡ None
    at rest zero both = none r.block both.0
    at rest (suc k) both = rest k both.1

-- a draft accessed a page where its marks say so
pub accessed_by : (o : Option Copied) → (((flags_of o).read || (flags_of o).written) || (list_any (has_bit (searched_of o)) every_slot || list_any (has_bit (modified_of o)) every_slot)) ≡ option_map_or is_accessed o false
unfolding numbers_below
accessed_by None = refl
accessed_by (Some c) = refl

-- where a page was merged
pub merged_live : (d : View) (q : List ℕ) (page : PageValue) → live (copies d) q ≡ true → (p : List ℕ) → merged_at d q page p ≡ settled_view d q page p
merged_live d q page here p = by (path_told p q)
  where
    by : (p ≡ q) ⊎ (same p q ≡ false) → merged_at d q page p ≡ settled_view d q page p
    by (inr e) = ap (λ b. cond b (option_map (merged_page page) (d p)) (d p)) e ∙ sym (ap (λ b. cond b (option_map (λ c. cond c.live (merged_page page c) c) (d p)) (d p)) e)
    by (inl e) = ap (cond (same p q) (option_map (merged_page page) (d p))) refl ∙ ap (λ o. cond (same p q) o (d p)) (into (d p) refl)
      where
        into : (o : Option Copied) → d p ≡ o → option_map (merged_page page) o ≡ option_map (λ c. cond c.live (merged_page page c) c) o
        into None f = refl
        into (Some c) f =
            let alive : c.live ≡ true = sym (ap (λ (o : Option Copied). option_map_or (λ (x : PageCopy). x.live) (option_map copy_of o) false) (ap d (sym e) ∙ f)) ∙ here in
            sym (ap (λ b. Some (cond b (merged_page page c) c)) alive)

pub dead_same : (d : View) (q : List ℕ) (page : PageValue) → live (copies d) q ≡ false → (p : List ℕ) → d p ≡ settled_view d q page p
dead_same d q page dead p = by (path_told p q)
  where
    by : (p ≡ q) ⊎ (same p q ≡ false) → d p ≡ settled_view d q page p
    by (inr e) = sym (ap (λ b. cond b (option_map (λ c. cond c.live (merged_page page c) c) (d p)) (d p)) e)
    by (inl e) = sym (each (same p q) (into (d p) refl))
      where
        each : (b : Bool) → option_map (λ c. cond c.live (merged_page page c) c) (d p) ≡ d p → cond b (option_map (λ c. cond c.live (merged_page page c) c) (d p)) (d p) ≡ d p
        each true g = g
        each false g = refl

        into : (o : Option Copied) → d p ≡ o → option_map (λ c. cond c.live (merged_page page c) c) o ≡ o
        into None f = refl
        into (Some c) f =
            let gone : c.live ≡ false = sym (ap (λ (o : Option Copied). option_map_or (λ (x : PageCopy). x.live) (option_map copy_of o) false) (ap d (sym e) ∙ f)) ∙ dead in
            ap (λ b. Some (cond b (merged_page page c) c)) gone

pub drop_whole : (refs : List ReferenceValue) → length refs ≡ 16 → drop 16 refs ≡ []
drop_whole refs e = by refs 16 (omega (arith, e))
  where
    by : (refs : List ReferenceValue) (n : ℕ) → length refs ≤ n → drop n refs ≡ []
    by [] zero h = refl
    by [] (suc n) h = refl
    by (r ∷ refs) zero h = absurd (omega arith)
    by (r ∷ refs) (suc n) h = by refs n (omega arith)

-- the bits up to the sixteenth
pub kept_all : (L : ℕ → Bool) (m n k : ℕ) → k < 16 → 16 ≤ n → has_bit m k ≡ (nat_lt k n && L k) → has_bit m k ≡ L k
kept_all L m n k small most e = e ∙ ap (λ b. b && L k) (lt-ltb k n (omega arith))
