-- Each block that is appended is the next, and leaves those before it.
use Rattle.std.proofs.Common.{◌≡◌, ℕ, ◌+◌, ◌*◌, ◌≤◌, List, [], refl, ◌++◌, length, arith, ap, subst, sym, ◌∙◌, inl, inr, length-append}
use Rattle.std.proofs.lemmas.Bool.{cases_lt}
use Rattle.page_codec.specs.NewStore.{block_of, new_version}
use Rattle.page_codec.specs.Spelling.{version_bytes}
use Rattle.page_codec.specs.TableSpelling.{root_bytes}
use Rattle.page_codec.proofs.Blocks.{block_of-append, block_of-push}
use Rattle.page_codec.proofs.fresh.fresh_image.Goals as goal

-- the pages of a new store up to one more
pages_more : (image block : List ℕ) (done : ℕ) → length image ≡ 1024 * (done + 1) → length block ≡ 1024 → block ≡ version_bytes (new_version (done + 1))
    → ((i : ℕ) → 1 ≤ i → i ≤ done → block_of i image ≡ version_bytes (new_version i))
    → (i : ℕ) → 1 ≤ i → i ≤ done + 1 → block_of i (image ++ block) ≡ version_bytes (new_version i)
pages_more image block done size long is before i low high =
    elim (cases_lt done i) [
      | inl last ↦ let e : i ≡ done + 1 = omega arith in
          subst (λ (k : ℕ). block_of k (image ++ block) ≡ version_bytes (new_version k)) (sym e) (block_of-push (done + 1) image block size long ∙ is)
      | inr lower ↦ block_of-append i image block (omega arith) ∙ before i low lower
    ]

pub loop-done-init : goal.loop-done-init
loop-done-init c =
    let items = c.in_ok-extend_from_slice.ensures.items ∙ ap (λ (xs : List ℕ). xs ++ c.encode_root.new.into) c.new-image.ensures.items in
    record {
      size = ap length items ∙ c.encode_root.array_long;
      table = ap (block_of 0) items ∙ block_of-push 0 [] c.encode_root.new.into refl c.encode_root.array_long ∙ c.encode_root.ensures.bytes ∙ ap root_bytes c.new_root.ensures;
      pages = λ i low high. absurd (omega arith);
    }

pub loop-done-preserved : goal.loop-done-preserved
loop-done-preserved c =
    let items = c.in_ok-extend_from_slice-2.ensures.items in
    let image = c.loop-done.image.items in
    let block = c.encode_version.new.into in
    let long : length block ≡ 1024 = c.encode_version.array_long in
    let is = c.encode_version.ensures.bytes ∙ ap version_bytes c.new_version.ensures in
    record {
      size = ap length items ∙ (let sum = length-append image block in omega arith);
      table = ap (block_of 0) items ∙ block_of-append 0 image block (omega arith) ∙ c.loop-done.invariant.table;
      pages = λ i low high. ap (block_of i) items ∙ pages_more image block c.loop-done.done c.loop-done.invariant.size long is c.loop-done.invariant.pages i low high;
    }
