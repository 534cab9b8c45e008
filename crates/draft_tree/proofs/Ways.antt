-- The slots on the way to a path are marked page by page, from `/` down.
use Rattle.std.proofs.Common.{◌≡◌, ℕ, zero, suc, ◌+◌, ◌^◌, ◌<◌, Bool, true, false, cond, nat_eq, nat_lt, List, [], ◌∷◌, take, slice_index, length, ◌⊎◌, inl, inr, refl, sym, ap, ◌∙◌, Option, Some, None, option_map, arith, eqb-true, eq-eqb, ltb-true, lt-ltb, length-append}
use Rattle.std.specs.Int.RustNames.{bit_or}
use Rattle.std.specs.Int.Bits.{or_zero_r}
use Rattle.std.proofs.lemmas.Bool.{cases_lt}
use Rattle.afs_base.specs.Path.{is_prefix}
use Rattle.tree_model.proofs.Paths.{told, never, same_self, same_is, prefix_told}
use Rattle.page_places.specs.Places.{same}
use Rattle.draft_model.specs.Views.{Copied, View}
use Rattle.draft_model.specs.Steps.{way_bit}
use Rattle.draft_tree.specs.Marking.{searched_more}
use Rattle.draft_tree.specs.Pages.{changed, searched_to}

-- ---- the bit of the next slot

pub way_at : (q : List ℕ) (i : ℕ) → i < length q → way_bit (take i q) q ≡ 2 ^ slice_index q i
way_at [] i h = absurd (omega arith)
way_at (s ∷ q) zero h = refl
way_at (s ∷ q) (suc i) h = ap (λ b. cond b (way_bit (take i q) q) 0) (eq-eqb s s refl) ∙ way_at q i (omega arith)

-- the bit is 0, or the first path is a shorter part of the second
pub way_told : (p q : List ℕ) → (way_bit p q ≡ 0) ⊎ ((length p < length q) × (take (length p) q ≡ p))
way_told [] [] = inl refl
way_told [] (s ∷ q) = inr (omega arith, refl)
way_told (t ∷ p) [] = inl refl
way_told (t ∷ p) (s ∷ q) = by (told (nat_eq t s)) (way_told p q)
  where
    by : (nat_eq t s ≡ true) ⊎ (nat_eq t s ≡ false) → (way_bit p q ≡ 0) ⊎ ((length p < length q) × (take (length p) q ≡ p))
        → (cond (nat_eq t s) (way_bit p q) 0 ≡ 0) ⊎ ((suc (length p) < suc (length q)) × (s ∷ take (length p) q ≡ t ∷ p))
    by (inl e) (inl none) = inl (ap (λ b. cond b (way_bit p q) 0) e ∙ none)
    by (inl e) (inr more) = inr (omega (arith, more.0), (λ i. sym (eqb-true t s e) i ∷ more.1 i))
    by (inr e) rest = inl (ap (λ b. cond b (way_bit p q) 0) e)

pub way_self : (q : List ℕ) → way_bit q q ≡ 0
way_self q = elim (way_told q q) [ inl e ↦ e | inr h ↦ absurd (omega (arith, h.0)) ]

-- no slot leads from a page up
pub way_below : (p q : List ℕ) → is_prefix q p ≡ true → way_bit p q ≡ 0
way_below p q on = elim (way_told p q) [
  | inl e ↦ e
  | inr h ↦ let r = prefix_told q p on in absurd (omega (arith, h.0, ap length r.1, length-append q r.0))
]

-- ---- page by page

-- the marks of the pages above the first i slots
abbrev pub way_mask : List ℕ → ℕ → List ℕ → ℕ
way_mask q i p = cond (nat_lt (length p) i) (way_bit p q) 0

abbrev pub searched_until : View → List ℕ → ℕ → View
searched_until d q i p = option_map (searched_more (way_mask q i p)) (d p)

pub searched_zero : (c : Copied) → searched_more 0 c ≡ c
searched_zero c = λ i. record { live = c.live; read = c.read; written = c.written; searched = by c.live i; page = c.page }
  where
    by : (b : Bool) → cond b (bit_or c.searched 0) c.searched ≡ c.searched
    by true = or_zero_r c.searched
    by false = refl

pub map_zero : (o : Option Copied) → option_map (searched_more 0) o ≡ o
map_zero None = refl
map_zero (Some c) = ap (λ (x : Copied). Some x) (searched_zero c)

not_below_zero : (n : ℕ) → nat_lt n 0 ≡ false
not_below_zero n = elim (told (nat_lt n 0)) [ inl e ↦ absurd (omega (arith, ltb-true n 0 e)) | inr e ↦ e ]

pub until_none : (d : View) (q p : List ℕ) → searched_until d q 0 p ≡ d p
until_none d q p = ap (λ b. option_map (searched_more (cond b (way_bit p q) 0)) (d p)) (not_below_zero (length p)) ∙ map_zero (d p)

lt_told : (a b : ℕ) → a < b → nat_lt a b ≡ true
lt_told a b h = lt-ltb a b h

ge_told : (a b : ℕ) → (a < b → ⊥) → nat_lt a b ≡ false
ge_told a b h = elim (told (nat_lt a b)) [ inl e ↦ absurd (h (ltb-true a b e)) | inr e ↦ e ]

zero_either : (b : Bool) → ◌≡◌ {A = ℕ} (cond b 0 0) 0
zero_either true = refl
zero_either false = refl

-- a page that is not on the way there has the same marks one slot further
mask_stays : (q : List ℕ) (i : ℕ) (p : List ℕ) → same p (take i q) ≡ false → way_mask q i p ≡ way_mask q (i + 1) p
mask_stays q i p off = elim (way_told p q) [
  | inl none ↦
      ap (λ n. cond (nat_lt (length p) i) n 0) none ∙ zero_either (nat_lt (length p) i)
      ∙ sym (ap (λ n. cond (nat_lt (length p) (i + 1)) n 0) none ∙ zero_either (nat_lt (length p) (i + 1)))
  | inr h ↦ ap (λ b. cond b (way_bit p q) 0) (by (told (nat_lt (length p) i)) h.1)
]
  where
    apart : take (length p) q ≡ p → length p ≡ i → ⊥
    apart e is = never (ap (same p) (ap (λ n. take n q) (sym is) ∙ e) ∙ same_self p) off

    by : (nat_lt (length p) i ≡ true) ⊎ (nat_lt (length p) i ≡ false) → take (length p) q ≡ p → nat_lt (length p) i ≡ nat_lt (length p) (i + 1)
    by (inl e) part = e ∙ sym (lt_told (length p) (i + 1) (omega (arith, ltb-true (length p) i e)))
    by (inr e) part = e ∙ sym (ge_told (length p) (i + 1) (λ h. elim (told (nat_eq (length p) i)) [
      | inl same_now ↦ apart part (eqb-true (length p) i same_now)
      | inr other ↦ never (lt_told (length p) i (nearer h other)) e
    ]))
      where
        nearer : length p < i + 1 → nat_eq (length p) i ≡ false → length p < i
        nearer h other = elim (cases_lt (length p) i) [
          | inl below ↦ below
          | inr past ↦ absurd (apart part (omega (arith, h, past)))
        ]

pub until_more : (d : View) (q : List ℕ) (i : ℕ) (p : List ℕ) → i < length q → length (take i q) ≡ i
    → changed (searched_until d q i) (take i q) (searched_more (2 ^ slice_index q i)) p ≡ searched_until d q (i + 1) p
until_more d q i p h deep = by (told (same p (take i q)))
  where
    mask_before : (x : List ℕ) → length x ≡ i → way_mask q i x ≡ 0
    mask_before x e = ap (λ b. cond b (way_bit x q) 0) (ap (λ n. nat_lt n i) e ∙ ge_told i i (λ g. omega (arith, g)))

    mask_after : (x : List ℕ) → length x ≡ i → way_mask q (i + 1) x ≡ way_bit x q
    mask_after x e = ap (λ b. cond b (way_bit x q) 0) (ap (λ n. nat_lt n (i + 1)) e ∙ lt_told i (i + 1) (omega arith))

    here : p ≡ take i q → option_map (searched_more (2 ^ slice_index q i)) (searched_until d q i p) ≡ searched_until d q (i + 1) p
    here is =
        let depth : length p ≡ i = ap length is ∙ deep in
        ap (λ n. option_map (searched_more (2 ^ slice_index q i)) (option_map (searched_more n) (d p))) (mask_before p depth)
        ∙ ap (option_map (searched_more (2 ^ slice_index q i))) (map_zero (d p))
        ∙ sym (ap (λ n. option_map (searched_more n) (d p)) (mask_after p depth ∙ ap (λ x. way_bit x q) is ∙ way_at q i h))

    by : (same p (take i q) ≡ true) ⊎ (same p (take i q) ≡ false) → changed (searched_until d q i) (take i q) (searched_more (2 ^ slice_index q i)) p ≡ searched_until d q (i + 1) p
    by (inl e) =
        ap (λ b. cond b (option_map (searched_more (2 ^ slice_index q i)) (searched_until d q i p)) (searched_until d q i p)) e
        ∙ here (same_is p (take i q) e)
    by (inr e) =
        ap (λ b. cond b (option_map (searched_more (2 ^ slice_index q i)) (searched_until d q i p)) (searched_until d q i p)) e
        ∙ ap (λ n. option_map (searched_more n) (d p)) (mask_stays q i p e)

pub until_all : (d : View) (q p : List ℕ) → searched_until d q (length q) p ≡ searched_to d q p
until_all d q p = ap (λ n. option_map (searched_more n) (d p)) (elim (way_told p q) [
  | inl none ↦ ap (λ n. cond (nat_lt (length p) (length q)) n 0) none ∙ zero_either (nat_lt (length p) (length q)) ∙ sym none
  | inr h ↦ ap (λ b. cond b (way_bit p q) 0) (lt_told (length p) (length q) h.0)
])
