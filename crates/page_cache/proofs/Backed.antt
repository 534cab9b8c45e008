-- The listed blocks keep the contents of the store, whatever a call does to either.
use Rattle.std.proofs.Common.{◌≡◌, ◌≢◌, ◌⊎◌, ℕ, zero, suc, ◌<◌, ◌^◌, true, false, cond, List, [], ◌∷◌, take, nat_eq, Option, Some, refl, sym, ap, ◌∙◌, subst, inl, inr, ⊎_elim, eq-eqb, ne_eqb}
use Rattle.std.specs.Map.{lookup}
use borrow.Author.Tests.{eqb-true}
use Rattle.drives.specs.Changes.{Changes}
use Rattle.drives.proofs.Composing.{stays}
use Rattle.page_cache.specs.Listing.{Listing, others, put_front, take_out}
use Rattle.page_cache.specs.Backing.{IsBacked}

abbrev Entries : Type 0
Entries = List (ℕ × List ℕ)

-- what is found among the others is no n, and was found before
pub others_lookup : (n q : ℕ) (es : Entries) (b : List ℕ) → lookup (nat_eq q) (others n es) ≡ Some b → (q ≢ n) × (lookup (nat_eq q) es ≡ Some b)
others_lookup n q [] b h = cc
others_lookup n q (e ∷ es) b h = (elim (nat_eq n e.0) as (λ t. nat_eq n e.0 ≡ t → lookup (nat_eq q) (cond t (others n es) (e ∷ others n es)) ≡ Some b → (q ≢ n) × (lookup (nat_eq q) (e ∷ es) ≡ Some b)) [
  | true ↦ λ t h'.
      let r = others_lookup n q es b h' in
      let same : n ≡ e.0 = eqb-true n e.0 t in
      (r.0, rw (ne_eqb q e.0 (λ k. r.0 (k ∙ sym same))) r.1)
  | false ↦ λ t h'. (elim (nat_eq q e.0) as (λ u. nat_eq q e.0 ≡ u → cond u (Some e.1) (lookup (nat_eq q) (others n es)) ≡ Some b → (q ≢ n) × (cond u (Some e.1) (lookup (nat_eq q) es) ≡ Some b)) [
    | true ↦ λ u k. let here : q ≡ e.0 = eqb-true q e.0 u in ((λ d. let no : true ≡ false = sym (eq-eqb n e.0 (sym d ∙ here)) ∙ t in cc), k)
    | false ↦ λ u k. others_lookup n q es b k
  ]) refl h'
]) refl h

found_in_take : (p q : ℕ) (es : Entries) (b : List ℕ) → lookup (nat_eq q) (take p es) ≡ Some b → lookup (nat_eq q) es ≡ Some b
found_in_take zero q es b h = cc
found_in_take (suc p) q [] b h = h
found_in_take (suc p) q (e ∷ es) b h = (elim (nat_eq q e.0) as (λ u. cond u (Some e.1) (lookup (nat_eq q) (take p es)) ≡ Some b → cond u (Some e.1) (lookup (nat_eq q) es) ≡ Some b) [
  | true ↦ λ k. k
  | false ↦ λ k. found_in_take p q es b k
]) h

-- what is found after a block went to the front
pub front_lookup : (n q : ℕ) (body : List ℕ) (l : Listing) (b : List ℕ) → lookup (nat_eq q) (put_front n body l).entries ≡ Some b
    → ((q ≡ n) × (b ≡ body)) ⊎ ((q ≢ n) × (lookup (nat_eq q) l.entries ≡ Some b))
front_lookup n q body l b h = (elim (nat_eq q n) as (λ u. nat_eq q n ≡ u → cond u (Some body) (lookup (nat_eq q) (others n l.entries)) ≡ Some b → ((q ≡ n) × (b ≡ body)) ⊎ ((q ≢ n) × (lookup (nat_eq q) l.entries ≡ Some b))) [
  | true ↦ λ u k. let same : b ≡ body = cc in inl (eqb-true q n u, same)
  | false ↦ λ u k. inr (others_lookup n q l.entries b k)
]) refl (found_in_take l.pages q ((n, body) ∷ others n l.entries) b h)

module _ (Tells : Type 0) (size size' : ℕ) (settled settled' : ℕ → Type 0) (content content' : ℕ → Option (List ℕ)) (n : ℕ) (l l' : Listing) where
  module _ (same : size' ≡ size) (settles_only : Tells → (k : ℕ) → k ≢ n → settled' k → settled k) (kept : Tells → (k : ℕ) → k ≢ n → content' k ≡ content k) (was : IsBacked Tells size settled content l.entries) where
    other : (q : ℕ) (b : List ℕ) → q ≢ n → lookup (nat_eq q) l.entries ≡ Some b → (q < size') × (Tells → settled' q → content' q ≡ Some b)
    other q b ne at = let r = was q b at in (rw same r.0, λ tells s. kept tells q ne ∙ r.1 tells (settles_only tells q ne s))

    -- block n was taken out
    pub out_backed : l' ≡ take_out n l → IsBacked Tells size' settled' content' l'.entries
    out_backed is q b at = let t = others_lookup n q l.entries b (ap (λ (k : Listing). lookup (nat_eq q) k.entries) (sym is) ∙ at) in other q b t.0 t.1

    -- block n went to the front with its content
    pub front_backed : (body : List ℕ) → l' ≡ put_front n body l → n < size → (Tells → settled' n → content' n ≡ Some body) → IsBacked Tells size' settled' content' l'.entries
    front_backed body is low now q b at = ⊎_elim
        (λ t. (rw (t.0, same) low, λ tells s. subst (λ k. settled' k → content' k ≡ Some b) (sym t.0) (λ s'. now tells s' ∙ ap (λ x. Some x) (sym t.1)) s))
        (λ t. other q b t.0 t.1)
        (front_lookup n q body l b (ap (λ (k : Listing). lookup (nat_eq q) k.entries) (sym is) ∙ at))

-- nothing happened to the store within
pub still : {C D X : Type 0} (moment : D → ℕ) (may_leave : D → ℕ → X → Type 0) (inner : C → D) (a b : C) (R : X → X → Type 0) → inner b ≡ inner a → moment (inner a) < 2 ^ 64 → ((x : X) → R x x)
    → Changes (λ c. moment (inner c)) (λ c. may_leave (inner c)) a b R
still moment may_leave inner a b R is clock here =
    let s : Changes moment may_leave (inner a) (inner b) R = subst (λ d. Changes moment may_leave (inner a) d R) (sym is) (stays moment may_leave (inner a) R clock here) in
    record { later = s.later; last = s.last; stuck = s.stuck; past = s.past; own = s.own }
