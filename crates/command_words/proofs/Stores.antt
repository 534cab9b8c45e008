-- A new store is known by its three numbers.
use Rattle.std.proofs.Common.{◌≡◌, ℕ, ◌<◌, ◌≤◌, ◌^◌, Option, Some, None, MatchOption, sym, ◌∙◌, subst, ap}
use Rattle.std.specs.Coded.{le_prop}
use Rattle.new_store.specs.declared.store.NewStore.{NewStore}
use Rattle.new_store.specs.Sizes.{IsInRange, used_blocks}

-- what a new store keeps of its numbers
abbrev Kept : ℕ → ℕ → ℕ → Type 0
Kept key files blocks = (key < 2 ^ 64) × (1 ≤ files) × (files ≤ 4032) × (used_blocks files ≤ blocks)
    × (blocks ≤ 65536)

kept_prop : (key files blocks : ℕ) → IsProp (Kept key files blocks)
kept_prop key files blocks = hlevel le_prop

abbrev store_with : (key files blocks : ℕ) → Kept key files blocks → NewStore
store_with key files blocks kept = record {
  key = key;
  files = files;
  blocks = blocks;
  word =
      kept.0;
  some = kept.1;
  most = kept.2;
  room = kept.3;
  fits = kept.4;
}

along : (key files blocks k f b : ℕ) (x : Kept key files blocks) → key ≡ k → files ≡ f → blocks ≡ b
    → (y : Kept k f b) → store_with key files blocks x ≡ store_with k f b y
along key files blocks k f b x same_key same_files same_blocks =
    let K : ℕ → Type 0 = λ k. (y : Kept k f b) → store_with key files blocks x ≡ store_with k f b y
    in
    let F : ℕ → Type 0 = λ f. (y : Kept key f b) → store_with key files blocks x ≡ store_with key f
    b y in
    let B : ℕ → Type 0 = λ b. (y : Kept key files b) → store_with key files blocks x ≡ store_with
    key files b y in
    let none : B blocks = λ y. ap (store_with key files blocks) (kept_prop key files blocks x y) in
    let all : F files = subst B same_blocks none in
    let two : K key = subst F same_files all in
    subst K same_key two

pub same_store : (s t : NewStore) → s.key ≡ t.key → s.files ≡ t.files → s.blocks ≡ t.blocks → s ≡ t
same_store s t key files blocks =
    along s.key s.files s.blocks t.key t.files t.blocks (s.word, s.some, s.most, s.room, s.fits) key
    files blocks (t.word, t.some, t.most, t.room, t.fits)

-- what makes a store where it can makes this one, if its numbers are these
pub only_store : (made : Option NewStore) (key files blocks : ℕ)
    → MatchOption made (IsInRange files blocks → ⊥) (λ s. (s.key ≡ key) × (s.files ≡ files)
    × (s.blocks ≡ blocks))
    → (s : NewStore) → s.key ≡ key → s.files ≡ files → s.blocks ≡ blocks → IsInRange s.files
    s.blocks → made ≡ Some s
only_store None key files blocks none s k f b within =
    let in_range : IsInRange files blocks = subst (λ n. IsInRange n blocks) f
    (subst (λ n. IsInRange s.files n) b within) in
    absurd (none in_range)
only_store (Some t) key files blocks made s k f b within = ap (λ r. Some r)
    (same_store t s (made.0 ∙ sym k) (made.1 ∙ sym f) (made.2 ∙ sym b))
