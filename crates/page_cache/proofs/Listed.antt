-- The list keeps different blocks, and no more than its pages.
use Rattle.std.proofs.Common.{◌≡◌, ℕ, zero, suc, ◌≤◌, true, false, cond, List, [], ◌∷◌, length, take, nat_eq, refl, sym, subst, arith}
use Rattle.std.specs.List.{AllByRecursion, IsDistinct}
use Rattle.std.specs.Map.{keys_of}
use Rattle.std.proofs.lemmas.Map.Keys.{IsDistinct-head, IsDistinct-tail, IsDistinct-cons}
use Rattle.std.proofs.lemmas.List.{length-take}
use Rattle.page_cache.specs.Listing.{Listing, listing, numbers, others, put_front, take_out}

abbrev Entries : Type 0
Entries = List (ℕ × List ℕ)

others_all : (P : ℕ → Type 0) (n : ℕ) (es : Entries) → AllByRecursion P (keys_of es) → AllByRecursion P (keys_of (others n es))
others_all P n [] h = h
others_all P n (e ∷ es) h = elim (nat_eq n e.0) as (λ y. AllByRecursion P (keys_of (cond y (others n es) (e ∷ others n es)))) [ true ↦ others_all P n es h.1 | false ↦ (h.0, others_all P n es h.1) ]

others_away : (n : ℕ) (es : Entries) → AllByRecursion (λ k. nat_eq n k ≡ false) (keys_of (others n es))
others_away n [] = tt
others_away n (e ∷ es) = (elim (nat_eq n e.0) as (λ y. nat_eq n e.0 ≡ y → AllByRecursion (λ k. nat_eq n k ≡ false) (keys_of (cond y (others n es) (e ∷ others n es)))) [
  | true ↦ λ t. others_away n es
  | false ↦ λ t. (t, others_away n es)
]) refl

others_different : (n : ℕ) (es : Entries) → IsDistinct nat_eq (keys_of es) → IsDistinct nat_eq (keys_of (others n es))
others_different n [] d = d
others_different n (e ∷ es) d = let on = others_different n es (IsDistinct-tail nat_eq e.0 (keys_of es) d) in elim (nat_eq n e.0) as (λ y. IsDistinct nat_eq (keys_of (cond y (others n es) (e ∷ others n es)))) [
  | true ↦ on
  | false ↦ IsDistinct-cons nat_eq e.0 (keys_of (others n es)) (others_all (λ k. nat_eq e.0 k ≡ false) n es (IsDistinct-head nat_eq e.0 (keys_of es) d)) on
]

others_shorter : (n : ℕ) (es : Entries) → length (others n es) ≤ length es
others_shorter n [] = omega arith
others_shorter n (e ∷ es) = let on = others_shorter n es in elim (nat_eq n e.0) as (λ y. length (cond y (others n es) (e ∷ others n es)) ≤ length (e ∷ es)) [ true ↦ omega (arith, on) | false ↦ omega (arith, on) ]

some_all : (P : ℕ → Type 0) (p : ℕ) (es : Entries) → AllByRecursion P (keys_of es) → AllByRecursion P (keys_of (take p es))
some_all P zero es h = tt
some_all P (suc p) [] h = h
some_all P (suc p) (e ∷ es) h = (h.0, some_all P p es h.1)

some_different : (p : ℕ) (es : Entries) → IsDistinct nat_eq (keys_of es) → IsDistinct nat_eq (keys_of (take p es))
unfolding IsDistinct
some_different zero es d = tt
some_different (suc p) [] d = d
some_different (suc p) (e ∷ es) d = (some_all (λ k. nat_eq e.0 k ≡ false) p es d.0, some_different p es d.1)

module _ (n : ℕ) (l new : Listing) where
  pub front_different : (body : List ℕ) → new ≡ put_front n body l → IsDistinct nat_eq (numbers l) → IsDistinct nat_eq (numbers new)
  front_different body is d = subst (λ (k : Listing). IsDistinct nat_eq (numbers k)) (sym is)
      (some_different l.pages ((n, body) ∷ others n l.entries) (IsDistinct-cons nat_eq n (keys_of (others n l.entries)) (others_away n l.entries) (others_different n l.entries d)))

  pub front_bounded : (body : List ℕ) → new ≡ put_front n body l → length new.entries ≤ new.pages
  front_bounded body is = subst (λ (k : Listing). length k.entries ≤ k.pages) (sym is) (let cut = length-take l.pages ((n, body) ∷ others n l.entries) in omega (arith, cut))

  pub out_different : new ≡ take_out n l → IsDistinct nat_eq (numbers l) → IsDistinct nat_eq (numbers new)
  out_different is d = subst (λ (k : Listing). IsDistinct nat_eq (numbers k)) (sym is) (others_different n l.entries d)

  pub out_bounded : new ≡ take_out n l → length l.entries ≤ l.pages → length new.entries ≤ new.pages
  out_bounded is fits = subst (λ (k : Listing). length k.entries ≤ k.pages) (sym is) (let short = others_shorter n l.entries in omega (arith, short, fits))

pub none_different : (l : Listing) (blocks pages : ℕ) → l ≡ listing blocks pages [] → IsDistinct nat_eq (numbers l)
unfolding IsDistinct
none_different l blocks pages is = subst (λ (k : Listing). IsDistinct nat_eq (numbers k)) (sym is) tt
