-- Which page of the base a step wants.
use Rattle.std.proofs.Common.{◌≡◌, ℕ, zero, suc, ◌<◌, Bool, true, false, not, ◌&&◌, cond, nat_eq, List, [], ◌∷◌, ◌++◌, take, slice_index, length, refl, sym, ap, ◌∙◌, Option, Some, None, arith, eqb-true, eq-eqb}
use Rattle.std.specs.Cmp.{first_so, second_so}
use Rattle.afs_base.specs.Path.{is_prefix}
use Rattle.tree_model.proofs.Paths.{never, not_true}
use Rattle.page_places.specs.Places.{slot_block}
use Rattle.draft_model.specs.Views.{PageCopy, Copies, live, Wants, WantsNone}
use Rattle.draft_tree.specs.Pages.{wanted_of, wanted_block}

-- ---- a path by its places

pub record StepsOn (p : List ℕ) (s : ℕ) (end : List ℕ) : Type 0 where
  pub within : length p < length end
  pub above : take (length p) end ≡ p
  pub next : slice_index end (length p) ≡ s

pub prefix_at : (p : List ℕ) (s : ℕ) (end : List ℕ) → is_prefix (p ++ s ∷ []) end ≡ true → StepsOn p s end
prefix_at [] s [] h = never h refl
prefix_at [] s (t ∷ end) h = record { within = omega arith; above = refl; next = sym (eqb-true s t (first_so (nat_eq s t) true h)) }
prefix_at (x ∷ p) s [] h = never h refl
prefix_at (x ∷ p) s (t ∷ end) h =
    let rest = prefix_at p s end (second_so (nat_eq x t) (is_prefix (p ++ s ∷ []) end) h) in
    record {
      within = omega (arith, rest.within);
      above = λ i. sym (eqb-true x t (first_so (nat_eq x t) (is_prefix (p ++ s ∷ []) end) h)) i ∷ rest.above i;
      next = rest.next;
    }

pub prefix_of_take : (end : List ℕ) (i : ℕ) → i < length end → is_prefix (take i end ++ slice_index end i ∷ []) end ≡ true
prefix_of_take [] i h = absurd (omega arith)
prefix_of_take (s ∷ end) zero h = ap (λ b. b && true) (eq-eqb s s refl)
prefix_of_take (s ∷ end) (suc i) h = ap (λ b. b && is_prefix (take i end ++ slice_index end i ∷ []) end) (eq-eqb s s refl) ∙ prefix_of_take end i (omega arith)

pub take_more : (end : List ℕ) (i : ℕ) → i < length end → take i end ++ slice_index end i ∷ [] ≡ take (suc i) end
take_more [] i h = absurd (omega arith)
take_more (s ∷ end) zero h = refl
take_more (s ∷ end) (suc i) h = ap (λ xs. s ∷ xs) (take_more end i (omega arith))

-- ---- wanted, or not

pub none_wanted : (h : Copies) (end : List ℕ) → ((i : ℕ) → i < length end → wanted_block h (take i end) (slice_index end i) ≡ None) → WantsNone h end
none_wanted h end none p s c at on gone =
    let where_it_is = prefix_at p s end on in
    let nothing : wanted_block h p s ≡ None =
    (λ i. wanted_block h (sym where_it_is.above i) (sym where_it_is.next i)) ∙ none (length p) where_it_is.within in
    sym (ap (λ o. wanted_of (live h (p ++ s ∷ [])) o s) at.is ∙ ap (λ b. cond (b && not (live h (p ++ s ∷ []))) (slot_block c.page s) None) at.live ∙ ap (λ b. cond (not b) (slot_block c.page s) None) gone) ∙ nothing

pub wants_of : (h : Copies) (end : List ℕ) (i b : ℕ) → i < length end → wanted_block h (take i end) (slice_index end i) ≡ Some b
    → Wants h end (take i end ++ slice_index end i ∷ []) b
wants_of h end i b within is = by (h (take i end)) refl is
  where
    tested : (c : PageCopy) → h (take i end) ≡ Some c → (test : Bool) → (c.live && not (live h (take i end ++ slice_index end i ∷ []))) ≡ test
        → cond test (slot_block c.page (slice_index end i)) None ≡ Some b → Wants h end (take i end ++ slice_index end i ∷ []) b
    tested c at true e g = record {
      above = take i end;
      last = slice_index end i;
      copy = c;
      is = refl;
      on_way = prefix_of_take end i within;
      at = record { is = at; live = first_so c.live (not (live h (take i end ++ slice_index end i ∷ []))) e };
      not_yet = not_true (live h (take i end ++ slice_index end i ∷ [])) (second_so c.live (not (live h (take i end ++ slice_index end i ∷ []))) e);
      block = g;
    }
    tested c at false e g = absurd (cc g)

    by : (o : Option PageCopy) → h (take i end) ≡ o → wanted_of (live h (take i end ++ slice_index end i ∷ [])) o (slice_index end i) ≡ Some b → Wants h end (take i end ++ slice_index end i ∷ []) b
    by None at g = absurd (cc g)
    by (Some c) at g = tested c at (c.live && not (live h (take i end ++ slice_index end i ∷ []))) refl g
