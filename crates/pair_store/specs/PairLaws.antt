-- Why the contents of two halves are those of a store.
use Rattle.std.specs.Prelude.{◌≡◌, ℕ, ◌+◌, ◌*◌, ◌<◌, Option, Some, None, List, length, slice_index}
use Rattle.std.proofs.Common.{refl, sym, ◌∙◌, ap, drop, inl, inr, arith, subst}
use Rattle.drives.specs.declared.device.Half.{Half}
use Rattle.drives.specs.declared.device.Half.TheVariants.{A, B}
use Rattle.drives.specs.Bytes.{IsBytes}
use Rattle.drives.specs.Changes.{Halves, IsAtRest, halves_seen}
use Rattle.page_codec.proofs.ByteLaws.{IsBytes-drop, IsBytes-take}
use Rattle.pair_store.specs.Blocks.{SameContents}
use Rattle.pair_store.specs.Content.{ContentsLeft, IsOpen, IsSettled, IsSettledAlways, block_on, content_of, gate}
use Rattle.pair_store.specs.ContentLaws.{block_on-at, content_b, content_none, content_open_a, decide, length-block_on}

-- an open block of a half is whole
open_block : (n : ℕ) (body half : List ℕ) (size : ℕ) → length half ≡ 1024 * size → n < size → IsOpen half n → block_on half n ≡ body → (length body ≡ 1024) × (slice_index body 0 ≡ 165)
open_block n body half size whole low is_open is =
    let long = length-block_on half n in
    let size_is : length (block_on half n) ≡ length body = ap (λ (b : List ℕ). length b) is in (
      Prim.omega (arith, long, size_is, whole, low),
      sym (ap (λ (b : List ℕ). slice_index b 0) is) ∙ block_on-at half n 0 (Prim.omega arith)
          ∙ ap (λ (i : ℕ). slice_index half i) (let e : 1024 * n + 0 ≡ 1024 * n = Prim.omega arith in e) ∙ is_open,
    )

pub content_whole : (n : ℕ) (body : List ℕ) (x : Halves) (size : ℕ) → length x.a ≡ 1024 * size → length x.b ≡ 1024 * size → n < size → content_of x n ≡ Some body → (length body ≡ 1024) × (slice_index body 0 ≡ 165)
content_whole n body x size whole_a whole_b low is =
    elim (decide (gate x.b n) 165) [
      | inl is_open ↦
          let same : Some (block_on x.b n) ≡ Some body = sym (content_b x n is_open) ∙ is in
          open_block n body x.b size whole_b low is_open (Prim.cc same)
      | inr shut ↦ elim (decide (gate x.a n) 165) [
        | inl is_open ↦
            let same : Some (block_on x.a n) ≡ Some body = sym (content_open_a x n shut is_open) ∙ is in
            open_block n body x.a size whole_a low is_open (Prim.cc same)
        | inr shut_a ↦
            let none : None ≡ Some body = sym (content_none x n shut shut_a) ∙ is in
            absurd (Prim.cc none)
      ]
    ]

-- what is settled with every half that a crash may leave has one content
one_content : (n : ℕ) (x y : Halves) → IsSettled n x → IsSettled n (record { a = x.a; b = y.b }) → IsSettled n (record { a = y.a; b = x.b }) → content_of y n ≡ content_of x n
one_content n x y (inl (open_a, open_b, equal)) (inl (open_a', open_b', equal')) _ = content_b y n open_b' ∙ ap (λ (b : List ℕ). Some b) (sym equal' ∙ equal) ∙ sym (content_b x n open_b)
one_content n x y (inl (open_a, open_b, equal)) (inr (shut_a, shut_b)) _ = absurd (shut_a open_a)
one_content n x y (inr (shut_a, shut_b)) (inl (open_a, open_b, equal)) _ = absurd (shut_a open_a)
one_content n x y (inr (shut_a, shut_b)) (inr (shut_a', shut_b')) (inl (open_a, open_b, equal)) = absurd (shut_b open_b)
one_content n x y (inr (shut_a, shut_b)) (inr (shut_a', shut_b')) (inr (shut_a'', shut_b'')) = content_none y n shut_b' shut_a'' ∙ sym (content_none x n shut_b shut_a)

module _ {D : Type 0} (left : D → Half → ℕ → List ℕ → Type 0) (d : D) (t : ℕ) (x : Halves) (left_a : left d A t x.a) (left_b : left d B t x.b) where
  -- the contents that reads give are those of an image
  pub left_content : ContentsLeft left d t (content_of x)
  left_content = (x, (left_a, left_b), λ n. refl)

  pub settled_now : (n : ℕ) → IsSettledAlways left d t n → IsSettled n x
  settled_now n settled = settled x (left_a, left_b)

  pub settled_content : (n : ℕ) (f : ℕ → Option (List ℕ)) → IsSettledAlways left d t n → ContentsLeft left d t f → f n ≡ content_of x n
  settled_content n f settled image =
      let y = image.0 in
      image.2 n
      ∙ one_content n x y (settled x (left_a, left_b)) (settled (record { a = x.a; b = y.b }) (left_a, image.1.1)) (settled (record { a = y.a; b = x.b }) (image.1.0, left_b))

-- a content of halves that hold bytes is bytes
block_bytes : (n : ℕ) (body half : List ℕ) → IsBytes half → Some (block_on half n) ≡ Some body → IsBytes body
block_bytes n body half fits is =
    let same : block_on half n ≡ body = Prim.cc is in
    subst (λ (b : List ℕ). IsBytes b) same (IsBytes-take 1024 (drop (1024 * n) half) (IsBytes-drop (1024 * n) half fits))

pub content_bytes : (n : ℕ) (body : List ℕ) (x : Halves) → IsBytes x.a → IsBytes x.b → content_of x n ≡ Some body → IsBytes body
content_bytes n body x fits_a fits_b is =
    elim (decide (gate x.b n) 165) [
      | inl is_open ↦ block_bytes n body x.b fits_b (sym (content_b x n is_open) ∙ is)
      | inr shut ↦ elim (decide (gate x.a n) 165) [
        | inl is_open ↦ block_bytes n body x.a fits_a (sym (content_open_a x n shut is_open) ∙ is)
        | inr shut_a ↦
            let none : None ≡ Some body = sym (content_none x n shut shut_a) ∙ is in
            absurd (Prim.cc none)
      ]
    ]

module _ {D : Type 0} (seen : D → Half → List ℕ) (moment : D → ℕ) (left : D → Half → ℕ → List ℕ → Type 0) (d : D) (rest : IsAtRest seen moment left d) where
  -- where nothing is pending, a fact of what reads give is one of everything that a crash leaves
  rest_fact : (P : Halves → Type 0) → P (halves_seen seen d) → (x : Halves) → left d A (moment d) x.a → left d B (moment d) x.b → P x
  rest_fact P now x left_a left_b =
      subst (λ (a : List ℕ). P (record { a = a; b = x.b })) (sym (rest A x.a left_a))
      (subst (λ (b : List ℕ). P (record { a = seen d A; b = b })) (sym (rest B x.b left_b)) now)

  pub rest_content : (f : ℕ → Option (List ℕ)) → ContentsLeft left d (moment d) f → SameContents (content_of (halves_seen seen d)) f
  rest_content f image n =
      let x = image.0 in
      image.2 n ∙ rest_fact (λ y. content_of y n ≡ content_of (halves_seen seen d) n) refl x image.1.0 image.1.1

  pub rest_settled : (n : ℕ) → IsSettled n (halves_seen seen d) → IsSettledAlways left d (moment d) n
  rest_settled n settled x image = rest_fact (IsSettled n) settled x image.0 image.1
