-- The versions of a file with one more behind them.
use Rattle.std.proofs.Common.{◌≡◌, ◌⊎◌, inl, inr, ℕ, suc, ◌<◌, ◌≤◌, nat_eq, true, false, List, [], ◌∷◌, ◌++◌, length, Some, sym, ap, subst, ◌∙◌, arith, slice_get, eqb-true}
use Rattle.std.proofs.lemmas.Bool.{eqb-false}
use Rattle.tree_model.proofs.Paths.{told}
use Rattle.page_codec.specs.Values.{ReferenceValue, PageValue}
use Rattle.page_places.specs.Places.{Store, block_at}
use Rattle.store_model.proofs.Edits.{some_is, none_some, get_append, get_past, get_more, within}
use Rattle.prune_sweep.specs.Line.{IsPageBefore, IsOwnAt, IsHeldAt, IsLine}

-- What is wanted of the version in block `root` behind those in the blocks `roots`.
pub record Extends (pages : Store) (count : ℕ) (roots : List ℕ) (root : ℕ) : Type 0 where
  pub held : (p : List ℕ) (n : ℕ) → block_at pages root p ≡ Some n → IsHeldAt pages count p n
  pub one : (p q : List ℕ) (n : ℕ) → block_at pages root p ≡ Some n → block_at pages root q ≡ Some n → p ≡ q
  pub begins : IsPageBefore pages roots (length roots) root → ⊥
  pub copies : (p : List ℕ) (n : ℕ) (page : PageValue) (s : ℕ) (reference : ReferenceValue) (x : ℕ)
      → block_at pages root p ≡ Some n → (IsPageBefore pages roots (length roots) n → ⊥) → pages n ≡ Some page
      → slice_get page.refs s ≡ Some reference → reference.block ≡ Some x → reference.flags.copied ≡ true → IsPageBefore pages roots (length roots) x
      → ⊥
  pub shares : (i last : ℕ) (p : List ℕ) (n : ℕ) (page : PageValue) (s : ℕ) (reference : ReferenceValue) (x : ℕ)
      → slice_get roots i ≡ Some last → suc i ≡ length roots → block_at pages root p ≡ Some n → pages n ≡ Some page
      → slice_get page.refs s ≡ Some reference → reference.block ≡ Some x → reference.flags.copied ≡ false
      → block_at pages last (p ++ s ∷ []) ≡ Some x

-- an item of a list with one more is that one, or one of the list
pub get_either : {X : Type 0} (xs : List X) (y : X) (i : ℕ) (x : X) → slice_get (xs ++ y ∷ []) i ≡ Some x
    → ((i ≡ length xs) × (y ≡ x)) ⊎ (slice_get xs i ≡ Some x)
get_either xs y i x at =
    elim (told (nat_eq i (length xs))) [
      | inl t ↦
          let same : i ≡ length xs = eqb-true i (length xs) t in
          inl (same, some_is (sym (get_past xs y) ∙ ap (slice_get (xs ++ y ∷ [])) (sym same) ∙ at))
      | inr f ↦ inr (get_more xs y i x at (eqb-false i (length xs) f))
    ]

module _ (pages : Store) (count : ℕ) (roots : List ℕ) (root : ℕ) (line : IsLine pages count roots) (more : Extends pages count roots root) where
  before_back : (m n : ℕ) → m ≤ length roots → IsPageBefore pages (roots ++ root ∷ []) m n → IsPageBefore pages roots m n
  before_back m n le h =
      let low : h.0 < m = h.2 in
      (h.0, h.1, h.2, get_more roots root h.0 h.1 h.3 (λ e. omega (arith, e, low, le)), h.4)

  before_there : (m n : ℕ) → IsPageBefore pages roots m n → IsPageBefore pages (roots ++ root ∷ []) m n
  before_there m n h = (h.0, h.1, h.2, get_append roots (root ∷ []) h.0 h.1 h.3, h.4)

  begins_more : (i r : ℕ) → slice_get (roots ++ root ∷ []) i ≡ Some r → IsPageBefore pages (roots ++ root ∷ []) i r → ⊥
  begins_more i r at h =
      elim (get_either roots root i r at) [
        | inl new ↦
            let le : i ≤ length roots = omega (arith, new.0) in
            more.begins
            (subst (λ k. IsPageBefore pages roots k root) new.0 (subst (IsPageBefore pages roots i) (sym new.1) (before_back i r le h)))
        | inr old ↦
            let low : i < length roots = within roots i r old in
            line.begins i r old (before_back i r (omega (arith, low)) h)
      ]

  copies_more : (i : ℕ) (p : List ℕ) (n : ℕ) (page : PageValue) (s : ℕ) (reference : ReferenceValue) (x : ℕ)
      → IsOwnAt pages (roots ++ root ∷ []) i p n → pages n ≡ Some page → slice_get page.refs s ≡ Some reference → reference.block ≡ Some x
      → reference.flags.copied ≡ true → IsPageBefore pages (roots ++ root ∷ []) i x → ⊥
  copies_more i p n page s reference x own holds at names copied h =
      elim (get_either roots root i own.root own.at) [
        | inl new ↦
            let le : i ≤ length roots = omega (arith, new.0) in
            more.copies p n page s reference x (subst (λ r. block_at pages r p ≡ Some n) (sym new.1) own.lies)
            (λ b. own.new (before_there i n (subst (λ k. IsPageBefore pages roots k n) (sym new.0) b))) holds at names copied
            (subst (λ k. IsPageBefore pages roots k x) new.0 (before_back i x le h))
        | inr old ↦
            let low : i < length roots = within roots i own.root old in
            line.copies i p n page s reference x
            (record { root = own.root; at = old; lies = own.lies; new = λ b. own.new (before_there i n b) }) holds at names copied
            (before_back i x (omega (arith, low)) h)
      ]

  shares_more : (i r next : ℕ) (p : List ℕ) (n : ℕ) (page : PageValue) (s : ℕ) (reference : ReferenceValue) (x : ℕ)
      → slice_get (roots ++ root ∷ []) i ≡ Some r → slice_get (roots ++ root ∷ []) (suc i) ≡ Some next
      → block_at pages next p ≡ Some n → pages n ≡ Some page → slice_get page.refs s ≡ Some reference → reference.block ≡ Some x
      → reference.flags.copied ≡ false
      → block_at pages r (p ++ s ∷ []) ≡ Some x
  shares_more i r next p n page s reference x at after lies holds slot names plain =
      elim (get_either roots root (suc i) next after) [
        | inl new ↦
            let here : slice_get roots i ≡ Some r = get_more roots root i r at (λ e. let f : suc i ≡ length roots = new.0 in omega (arith, e, f)) in
            more.shares i r p n page s reference x here new.0 (subst (λ b. block_at pages b p ≡ Some n) (sym new.1) lies) holds slot names plain
        | inr old ↦
            let low : suc i < length roots = within roots (suc i) next old in
            let here : slice_get roots i ≡ Some r = get_more roots root i r at (λ e. omega (arith, e, low)) in
            line.shares i r next p n page s reference x here old lies holds slot names plain
      ]

  pub line_more : IsLine pages count (roots ++ root ∷ [])
  line_more =
      record {
        held = λ i r p n at lies. elim (get_either roots root i r at) [
          | inl new ↦ more.held p n (subst (λ b. block_at pages b p ≡ Some n) (sym new.1) lies)
          | inr old ↦ line.held i r p n old lies
        ];
        one = λ i r p q n at x y. elim (get_either roots root i r at) [
          | inl new ↦ more.one p q n (subst (λ b. block_at pages b p ≡ Some n) (sym new.1) x) (subst (λ b. block_at pages b q ≡ Some n) (sym new.1) y)
          | inr old ↦ line.one i r p q n old x y
        ];
        begins = begins_more;
        copies = copies_more;
        shares = shares_more;
      }

-- no versions
pub line_none : (pages : Store) (count : ℕ) → IsLine pages count []
line_none pages count =
    record {
      held = λ i r p n at. none_some at;
      one = λ i r p q n at. none_some at;
      begins = λ i r at. none_some at;
      copies = λ i p n page s reference x own. none_some own.at;
      shares = λ i r next p n page s reference x at. none_some at;
    }
