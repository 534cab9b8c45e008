-- The versions of a file: which pages they have in common.
use Rattle.std.proofs.Common.{◌≡◌, ◌⊎◌, inl, inr, ℕ, zero, suc, ◌+◌, ◌-◌, ◌<◌, ◌≤◌, List, [], ◌∷◌, ◌++◌, Option, Some, None, refl, sym, ap, subst, ◌∙◌, arith, append_assoc, slice_get}
use Rattle.std.specs.Option.{option_and_then}
use Rattle.std.proofs.lemmas.Bool.{cases_lt}
use Rattle.tree_model.proofs.Paths.{told}
use Rattle.page_codec.specs.Values.{ReferenceValue, PageValue}
use Rattle.page_places.specs.Places.{Store, block_at, slot_block}
use Rattle.page_places.proofs.Facts.{block_at_child, at_root}
use Rattle.prune_sweep.specs.Line.{IsPage, IsPageBefore, IsPageFrom, IsFreed, IsLine}

pub before_more : (pages : Store) (roots : List ℕ) (i j n : ℕ) → i ≤ j → IsPageBefore pages roots i n → IsPageBefore pages roots j n
before_more pages roots i j n le h = let low : h.0 < i = h.2 in (h.0, h.1, omega (arith, low, le), h.3, h.4)

pub page_before : (pages : Store) (roots : List ℕ) (i root n : ℕ) → slice_get roots i ≡ Some root → IsPage pages root n → IsPageBefore pages roots (suc i) n
page_before pages roots i root n at h = (i, root, omega arith, at, h)

pub last_or : (j k : ℕ) → j < suc k → (j < k) ⊎ (j ≡ k)
last_or j k h = elim (cases_lt j k) [ inl a ↦ inl a | inr b ↦ inr (omega (arith, b, h)) ]

pub prior : (xs : List ℕ) (j x : ℕ) → slice_get xs (suc j) ≡ Some x → (y : ℕ) × (slice_get xs j ≡ Some y)
prior [] j x e = absurd cc
prior (y ∷ xs) zero x e = (y, refl)
prior (y ∷ xs) (suc j) x e = prior xs j x e

pub one_root : (roots : List ℕ) (i a b : ℕ) → slice_get roots i ≡ Some a → slice_get roots i ≡ Some b → a ≡ b
one_root roots i a b x y = let e : Some a ≡ Some b = sym x ∙ y in cc

-- the slot itself
pub record Slot (page : PageValue) (s x : ℕ) : Type 0 where
  pub reference : ReferenceValue
  pub at : slice_get page.refs s ≡ Some reference
  pub names : reference.block ≡ Some x

pub slot_told : (page : PageValue) (s x : ℕ) → slot_block page s ≡ Some x → Slot page s x
slot_told page s x e = of (slice_get page.refs s) refl e
  where
    of : (o : Option ReferenceValue) → slice_get page.refs s ≡ o → option_and_then (λ (y : ReferenceValue). y.block) o ≡ Some x → Slot page s x
    of None is h = absurd cc
    of (Some reference) is h = record { reference = reference; at = is; names = h }

pub slot_is : (page : PageValue) (s x : ℕ) (reference : ReferenceValue) → slice_get page.refs s ≡ Some reference → reference.block ≡ Some x → slot_block page s ≡ Some x
slot_is page s x reference at names = ap (λ o. option_and_then (λ (y : ReferenceValue). y.block) o) at ∙ names

-- a walk down reaches its end by a page, one of whose slots names the next one
pub record Step (pages : Store) (b s : ℕ) (r : List ℕ) (n : ℕ) : Type 0 where
  pub page : PageValue
  pub holds : pages b ≡ Some page
  pub child : ℕ
  pub names : slot_block page s ≡ Some child
  pub rest : block_at pages child r ≡ Some n

pub step : (pages : Store) (b s : ℕ) (r : List ℕ) (n : ℕ) → block_at pages b (s ∷ r) ≡ Some n → Step pages b s r n
step pages b s r n h = of (pages b) refl h
  where
    in_page : (page : PageValue) → pages b ≡ Some page → (o : Option ℕ) → slot_block page s ≡ o → option_and_then (λ below. block_at pages below r) o ≡ Some n → Step pages b s r n
    in_page page holds None e k = absurd cc
    in_page page holds (Some x) e k = record { page = page; holds = holds; child = x; names = e; rest = k }

    of : (o : Option PageValue) → pages b ≡ o → option_and_then (λ below. block_at pages below r) (option_and_then (λ page. slot_block page s) o) ≡ Some n → Step pages b s r n
    of None e k = absurd cc
    of (Some page) e k = in_page page e (slot_block page s) refl k

pub child_at : (pages : Store) (root : ℕ) (p : List ℕ) (b s : ℕ) (page : PageValue) (x : ℕ) → block_at pages root p ≡ Some b → pages b ≡ Some page
    → slot_block page s ≡ Some x → block_at pages root (p ++ s ∷ []) ≡ Some x
child_at pages root p b s page x at holds names = block_at_child pages root p b s page at holds ∙ names

-- from a page that has a property, which passes on to what it names, each page below has it
pub passes_down : (pages : Store) (root : ℕ) (Has : List ℕ → ℕ → Type 0)
    → ((p : List ℕ) (b : ℕ) (page : PageValue) (s x : ℕ) → block_at pages root p ≡ Some b → Has p b → pages b ≡ Some page → slot_block page s ≡ Some x
    → Has (p ++ s ∷ []) x)
    → (q : List ℕ) (b : ℕ) → block_at pages root q ≡ Some b → Has q b → (r : List ℕ) (n : ℕ) → block_at pages b r ≡ Some n → Has (q ++ r) n
passes_down pages root Has on q b at has [] n h =
    let e : b ≡ n = cc in subst (λ k. Has (q ++ []) k) e (subst (λ k. Has k b) (sym (at_root q)) has)
passes_down pages root Has on q b at has (s ∷ r) n h =
    let t : Step pages b s r n = step pages b s r n h in
    let below : Has ((q ++ s ∷ []) ++ r) n =
    passes_down pages root Has on (q ++ s ∷ []) t.child (child_at pages root q b s t.page t.child at t.holds t.names)
    (on q b t.page s t.child at has t.holds t.names) r n t.rest in
    subst (λ k. Has k n) (append_assoc q (s ∷ []) r) below

-- the same from the root on
pub each_page : (pages : Store) (root : ℕ) (Has : List ℕ → ℕ → Type 0) → Has [] root
    → ((p : List ℕ) (b : ℕ) (page : PageValue) (s x : ℕ) → block_at pages root p ≡ Some b → Has p b → pages b ≡ Some page → slot_block page s ≡ Some x
    → Has (p ++ s ∷ []) x)
    → (p : List ℕ) (n : ℕ) → block_at pages root p ≡ Some n → Has p n
each_page pages root Has begin on p n h = passes_down pages root Has on [] root refl begin p n h

-- a page of a later version is new, or where the version before has it
pub new_or_shared : (pages : Store) (count : ℕ) (roots : List ℕ) → IsLine pages count roots → (i root next : ℕ) → slice_get roots i ≡ Some root → slice_get roots (suc i) ≡ Some next
    → (p : List ℕ) (n : ℕ) → block_at pages next p ≡ Some n → (IsPageBefore pages roots (suc i) n → ⊥) ⊎ (block_at pages root p ≡ Some n)
new_or_shared pages count roots line i root next at after =
    each_page pages next (λ p n. (IsPageBefore pages roots (suc i) n → ⊥) ⊎ (block_at pages root p ≡ Some n)) (inl (line.begins (suc i) next after)) on
  where
    on : (p : List ℕ) (b : ℕ) (page : PageValue) (s x : ℕ) → block_at pages next p ≡ Some b
        → (IsPageBefore pages roots (suc i) b → ⊥) ⊎ (block_at pages root p ≡ Some b) → pages b ≡ Some page → slot_block page s ≡ Some x
        → (IsPageBefore pages roots (suc i) x → ⊥) ⊎ (block_at pages root (p ++ s ∷ []) ≡ Some x)
    on p b page s x here (inr shared) holds names = inr (child_at pages root p b s page x shared holds names)
    on p b page s x here (inl new) holds names =
        let t : Slot page s x = slot_told page s x names in
        elim (told t.reference.flags.copied) [
          | inl copied ↦ inl (line.copies (suc i) p b page s t.reference x (record { root = next; at = after; lies = here; new = new }) holds t.at t.names copied)
          | inr plain ↦ inr (line.shares i root next p b page s t.reference x at after here holds t.at t.names plain)
        ]

-- a page that an earlier and a later version have is one of each version between them
pub between : (pages : Store) (count : ℕ) (roots : List ℕ) → IsLine pages count roots → (m root n : ℕ) → slice_get roots m ≡ Some root → IsPageBefore pages roots m n
    → (d last : ℕ) → slice_get roots (m + d) ≡ Some last → IsPage pages last n → IsPage pages root n
between pages count roots line m root n at before zero last later h =
    let same : root ≡ last = one_root roots m root last at (ap (slice_get roots) (omega arith) ∙ later) in
    subst (λ r. IsPage pages r n) (sym same) h
between pages count roots line m root n at before (suc d) last later h =
    let here : slice_get roots (suc (m + d)) ≡ Some last = ap (slice_get roots) (omega arith) ∙ later in
    let one : (x : ℕ) × (slice_get roots (m + d) ≡ Some x) = prior roots (m + d) last here in
    elim (new_or_shared pages count roots line (m + d) one.0 last one.1 here h.0 n h.1) [
      | inl new ↦ absurd (new (before_more pages roots m (suc (m + d)) n (omega arith) before))
      | inr shared ↦ between pages count roots line m root n at before d one.0 one.1 (h.0, shared)
    ]

-- what only versions before a kept one have
pub freed_told : (pages : Store) (count : ℕ) (roots : List ℕ) → IsLine pages count roots → (m root n : ℕ) → slice_get roots m ≡ Some root
    → IsPageBefore pages roots m n → (IsPage pages root n → ⊥) → IsFreed pages roots m n
freed_told pages count roots line m root n at before not = (before, λ h. not (by h))
  where
    by : IsPageFrom pages roots m n → IsPage pages root n
    by h =
        let low : m ≤ h.0 = h.2 in
        between pages count roots line m root n at before (h.0 - m) h.1 (ap (slice_get roots) (omega (arith, low)) ∙ h.3) h.4

pub kept_from : (pages : Store) (roots : List ℕ) (m root n : ℕ) → slice_get roots m ≡ Some root → IsPage pages root n → IsPageFrom pages roots m n
kept_from pages roots m root n at h = (m, root, omega arith, at, h)
