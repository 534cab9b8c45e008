-- Each block's place, when one frame's block changes.
use Rattle.std.proofs.Common.{◌≡◌, ◌≢◌, ℕ, Option, Some, None, sym, ap, ◌∙◌}
use mathlib.Core.Logic.{dite}
use native.Mathlib.Decide.{ℕ_discrete}
use Rattle.page_cache.specs.declared.frame.Frame.{Frame}
use Rattle.page_cache.specs.Framing.{IsPlaced}

module _ (look look' : ℕ → Option Frame) (at : ℕ → Option ℕ) (was : IsPlaced look at) (k : ℕ) (f g : Frame) (old : look k ≡ Some f) (new : look' k ≡ Some g) (else : (q : ℕ) → q ≢ k → look' q ≡ look q) where
  found : (q : ℕ) (h : Frame) → q ≡ k → look' q ≡ Some h → h ≡ g
  found q h same is = let e : Some h ≡ Some g = sym is ∙ (ap look' same ∙ new) in cc

  before : (q : ℕ) (h : Frame) → q ≡ k → look q ≡ Some h → h ≡ f
  before q h same is = let e : Some h ≡ Some f = sym is ∙ (ap look same ∙ old) in cc

  -- the frame has the block that it had
  pub placed_again : g.block ≡ f.block → IsPlaced look' at
  placed_again same_block = record {
    there = λ n q h. let r = was.there n q h in dite (ℕ_discrete q k)
        (λ same. (g, ap look' same ∙ new, same_block ∙ (ap (λ (x : Frame). x.block) (sym (before q r.0 same r.1)) ∙ r.2)))
        (λ ne. (r.0, else q ne ∙ r.1, r.2));
    back = λ q n h is has. dite (ℕ_discrete q k)
        (λ same. was.back k n f old (sym same_block ∙ (ap (λ (x : Frame). x.block) (sym (found q h same is)) ∙ has)) ∙ ap (λ (x : ℕ). Some x) (sym same))
        (λ ne. was.back q n h (sym (else q ne) ∙ is) has);
  }

  module _ (at' : ℕ → Option ℕ) (n : ℕ) (away : (p : ℕ) → p ≢ n → at' p ≡ at p) where
    -- the frame had block n, and has none
    pub placed_out : f.block ≡ Some n → g.block ≡ None → at' n ≡ None → IsPlaced look' at'
    placed_out had none gone = record {
      there = λ p q h.
          let ne : p ≢ n = (λ e. let no : Some q ≡ None = sym h ∙ (ap at' e ∙ gone) in cc) in
          let r = was.there p q (sym (away p ne) ∙ h) in
          (r.0, else q (λ same. let e : Some p ≡ Some n = sym r.2 ∙ (ap (λ (x : Frame). x.block) (before q r.0 same r.1) ∙ had) in let no : p ≡ n = cc in ne no) ∙ r.1, r.2);
      back = λ q p h is has.
          let other : q ≢ k = (λ same. let no : Some p ≡ None = sym has ∙ (ap (λ (x : Frame). x.block) (found q h same is) ∙ none) in cc) in
          let was_at : at p ≡ Some q = was.back q p h (sym (else q other) ∙ is) has in
          away p (λ e. let both : Some q ≡ Some k = sym was_at ∙ (ap at e ∙ was.back k n f old had) in let no : q ≡ k = cc in other no) ∙ was_at;
    }

    -- the frame had no block, and has block n
    pub placed_in : f.block ≡ None → g.block ≡ Some n → at n ≡ None → at' n ≡ Some k → IsPlaced look' at'
    placed_in none has nowhere here = record {
      there = λ p q h. dite (ℕ_discrete p n)
          (λ e. let both : Some q ≡ Some k = sym h ∙ (ap at' e ∙ here) in let same : q ≡ k = cc in (g, ap look' same ∙ new, has ∙ ap (λ (x : ℕ). Some x) (sym e)))
          (λ ne. let r = was.there p q (sym (away p ne) ∙ h) in
          (r.0, else q (λ same. let no : Some p ≡ None = sym r.2 ∙ (ap (λ (x : Frame). x.block) (before q r.0 same r.1) ∙ none) in cc) ∙ r.1, r.2));
      back = λ q p h is in_it. dite (ℕ_discrete q k)
          (λ same. let both : Some p ≡ Some n = sym in_it ∙ (ap (λ (x : Frame). x.block) (found q h same is) ∙ has) in let e : p ≡ n = cc in ap at' e ∙ (here ∙ ap (λ (x : ℕ). Some x) (sym same)))
          (λ other. let was_at : at p ≡ Some q = was.back q p h (sym (else q other) ∙ is) in_it in
          away p (λ e. let no : Some q ≡ None = sym was_at ∙ (ap at e ∙ nowhere) in cc) ∙ was_at);
    }
