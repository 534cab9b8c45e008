-- Reads in a row are reads, and a fault in the last of them is a fault since the first began.
use Rattle.std.proofs.Common.{◌≡◌, inl, inr, ℕ, ◌^◌, ◌<◌, ◌≤◌, None, refl, sym, ◌∙◌, arith}
use Rattle.afs_base.specs.Causes.{Rose}
use Rattle.drives.specs.declared.device.Half.{Half}
use Rattle.drives.specs.Faults.{HasFailed}
use Rattle.drives.proofs.Composing.{stays, goes_on, leaves_now}
use Rattle.pair_store.specs.declared.store.Blocks.{Ghosts}
use Rattle.pair_store.specs.Blocks.{SameContents}
use Rattle.pair_store.specs.Faults.{IsUnread}
use Rattle.store_check.specs.Since.{OnlyRead, IsUnreadSince}

rose_before : (before between after : ℕ) → before ≤ between → Rose between after → Rose before after
rose_before before between after le rose = Prim.grind arith

pub failed_before : (before between after moment : ℕ) → before ≤ between → HasFailed between after moment → HasFailed before after moment
failed_before before between after moment le (inl rose) = inl (rose_before before between after le rose)
failed_before before between after moment le (inr ended) = inr ended

module _ {D : Type 0} (g : Ghosts D) where
  -- nothing was read yet
  pub none_read : (d : D) → g.moment d < 2 ^ 64 → OnlyRead g d d
  none_read d clock = record {
    same = λ told k. refl;
    kept = λ told k. (λ s. s, λ s. s);
    kept_always = λ k. (λ s. s, λ s. s);
    images = stays g.moment g.may_leave d SameContents clock (λ f k. refl);
    rest = λ told r. r;
    later = λ h. (Prim.omega arith, Prim.omega arith);
    size_same = refl;
  }

  -- one read after others
  pub read_on : (a b c : D) → OnlyRead g a b → OnlyRead g b c → OnlyRead g a c
  read_on a b c first second = record {
    same = λ told k. second.same told k ∙ first.same told k;
    kept = λ told k. (λ s. (first.kept told k).0 ((second.kept told k).0 s), λ s. (second.kept told k).1 ((first.kept told k).1 s));
    kept_always = λ k. (λ s. (first.kept_always k).0 ((second.kept_always k).0 s), λ s. (second.kept_always k).1 ((first.kept_always k).1 s));
    images = goes_on g.moment g.may_leave a b c SameContents SameContents SameContents SameContents first.images (leaves_now g.moment g.may_leave a b SameContents first.images) second.images
        (λ x y l r. r) (λ x y z l r s k. s k ∙ r k);
    rest = λ told r. second.rest told (first.rest told r);
    later = λ h. let p = first.later h in let q = second.later h in (Prim.omega (arith, p, q), Prim.omega (arith, p, q));
    size_same = second.size_same ∙ first.size_same;
  }

  -- a fault since later is a fault since earlier
  pub unread_before :
      (a b c : D) (n : ℕ) (h : Half) → OnlyRead g a b
      → IsUnread (g.faults b) (g.faults c) (g.last_fault c) (g.moment c) (g.tells → g.settled b n → g.content b n ≡ None) h
      → IsUnreadSince g a c h
  unread_before a b c n h first is = (
    n,
    record {
      failed = failed_before (g.faults a h) (g.faults b h) (g.faults c h) (g.last_fault c h) (first.later h).0 is.failed;
      last = elim is.last [
        | inl last ↦ inl last
        | inr (at, stood, empty) ↦ inr (at, stood, was_empty empty)
      ];
    },
  )
    where
      was_empty : (g.tells → g.settled b n → g.content b n ≡ None) → g.tells → g.settled a n → g.content a n ≡ None
      was_empty empty told settled_a = sym (first.same told n) ∙ empty told ((first.kept told n).1 settled_a)
