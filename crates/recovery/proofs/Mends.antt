-- Mending in a row keeps what mending keeps.
use Rattle.std.proofs.Common.{◌≡◌, inl, inr, ℕ, zero, suc, min, ◌^◌, ◌<◌, ◌≤◌, ◌≢◌, ◌⊎◌, List, Option, Some, Result, Ok, Err, refl, sym, ap, subst, ◌∙◌, arith}
use Rattle.drives.specs.declared.device.Half.{Half}
use Rattle.drives.proofs.Composing.{stays, goes_on, leaves_now, weaker}
use Rattle.drives.specs.Changes.{Changes, IsAtRest}
use Rattle.drives.specs.Crash.{LeavesSame}
use Rattle.drives.specs.declared.device.Drives.{Ghosts as Device}
use Rattle.pair_store.specs.Blocks.{SameContents, SameOthers}
use Rattle.pair_store.specs.declared.store.Blocks.{Ghosts}
use Rattle.page_codec.specs.Values.{RootValue}
use Rattle.page_codec.specs.TableReading.{root_of}
use Rattle.store_model.specs.Laws.{read_of}
use Rattle.pair_store.specs.Faults.{IsStopped, IsUnread}
use Rattle.pair_store.specs.ContentLaws.{decide}
use Rattle.pair_store.specs.declared.fault.PairFault.{PairFault}
use Rattle.pair_store.specs.declared.fault.PairFault.TheVariants.{ReadFault, WriteFault, BothClosed, BadPage}
use Rattle.pair_store.specs.Mending.{IsFaultOf, WroteNothing}
use Rattle.store_check.specs.Checked.{AreSettled}
use Rattle.recovery.specs.Aside.{SameAside}
use Rattle.recovery.specs.Mended.{OnlyMended, SameFrom, blocks_in_table, table_in}
use Rattle.pair_store.specs.Answers.{IsUntorn}
use Rattle.store_check.proofs.ReadOnly.{failed_before}

-- a half that failed since later, in the last call, failed since earlier
pub stopped_before : (early before after last : Half → ℕ) (moment : ℕ) (h : Half) → early h ≤ before h → IsStopped before after last moment h → IsStopped early after last moment h
stopped_before early before after last moment h le is = record { failed = failed_before (early h) (before h) (after h) (last h) le is.failed; last = is.last }

-- so is one in a read
pub unread_since : (early before after last : Half → ℕ) (moment : ℕ) (E F : Type 0) (h : Half) → early h ≤ before h → (E → F)
    → IsUnread before after last moment E h → IsUnread early after last moment F h
unread_since early before after last moment E F h le to is =
    record {
      failed = failed_before (early h) (before h) (after h) (last h) le is.failed;
      last = elim is.last [
        | inl at ↦ inl at
        | inr (at, stood, empty) ↦ inr (at, stood, to empty)
      ];
    }

-- a half that failed in the last call
pub stopped_unread : (before after last : Half → ℕ) (moment : ℕ) (E : Type 0) (h : Half) → IsStopped before after last moment h → IsUnread before after last moment E h
stopped_unread before after last moment E h is = record { failed = is.failed; last = inl is.last }

-- a block is settled where its number is in the table
pub is_mended : (settled : ℕ → Type 0) (content : ℕ → Option (List ℕ)) (size told : ℕ) → told ≡ blocks_in_table (table_in (content 0)) → settled 0
    → ((n : ℕ) → 1 ≤ n → n < min told size → settled n) → AreSettled settled content size
is_mended settled content size told is table others =
    record {
      table = table;
      others = λ bytes root here reads n low in_size. by n (from bytes root here reads) low in_size;
    }
  where
    from : (bytes : List ℕ) (root : RootValue) → content 0 ≡ Some bytes → root_of bytes ≡ Ok root → told ≡ root.blocks
    from bytes root here reads =
        is ∙ ap (λ (c : Option (List ℕ)). blocks_in_table (table_in c)) here ∙ ap (λ r. blocks_in_table (read_of r)) reads

    by : {count : ℕ} (n : ℕ) → told ≡ count → n < count → n < size → settled n
    by zero e low in_size = table
    by (suc n) e low in_size = others (suc n) (Prim.omega arith) (Prim.grind (arith, e, low, in_size))

-- equal errors
pub err_is : {T E : Type 0} (e f : E) → (let r : Result T E = Err e in r) ≡ Err f → e ≡ f
err_is e f is = cc

-- the half that a fault names
pub read_half : (e : PairFault) (h : Half) → e ≡ ReadFault h → IsFaultOf h (Err e)
read_half e h is = subst (λ (f : PairFault). IsFaultOf h (Err f)) (sym is) refl

pub write_half : (e : PairFault) (h : Half) → e ≡ WriteFault h → IsFaultOf h (Err e)
write_half e h is = subst (λ (f : PairFault). IsFaultOf h (Err f)) (sym is) refl

-- a block that is this one or was settled
pub settled_on : (P Q : ℕ → Type 0) (n : ℕ) → Q n → ((k : ℕ) → k ≢ n → P k → Q k) → (k : ℕ) → (k ≡ n) ⊎ P k → Q k
settled_on P Q n here others k (inl e) = subst Q (sym e) here
settled_on P Q n here others k (inr p) = elim (decide k n) [ inl e ↦ subst Q (sym e) here | inr ne ↦ others k ne p ]

-- where halves are as they were, nothing is pending as nothing was
pub still_at_rest : {V : Type 0} (v : Device V) (old new : V)
    → ((h : Half) → (v.seen new h ≡ v.seen old h) × LeavesSame (v.may_leave old h (v.moment old)) (v.may_leave new h (v.moment new)))
    → IsAtRest v.seen v.moment v.may_leave old → IsAtRest v.seen v.moment v.may_leave new
still_at_rest v old new same rest h c may = rest h c (((same h).1 c).0 may) ∙ sym (same h).0

-- so it is where a read failed while a block was mended
pub rest_after : {V : Type 0} (v : Device V) (old new : V) (e : PairFault) → IsUntorn {T = Unit {0}} (Err e) → v.tells
    → (WroteNothing (Err e) → (h : Half)
    → (v.tells → v.seen new h ≡ v.seen old h) × LeavesSame (v.may_leave old h (v.moment old)) (v.may_leave new h (v.moment new)))
    → IsAtRest v.seen v.moment v.may_leave old → IsAtRest v.seen v.moment v.may_leave new
rest_after v old new (ReadFault h) un told same rest = still_at_rest v old new (λ k. ((same tt k).0 told, (same tt k).1)) rest
rest_after v old new (WriteFault h) un told same rest = absurd un
rest_after v old new (BothClosed m) un told same rest = still_at_rest v old new (λ k. ((same tt k).0 told, (same tt k).1)) rest
rest_after v old new (BadPage m why) un told same rest = still_at_rest v old new (λ k. ((same tt k).0 told, (same tt k).1)) rest

-- one block was mended
pub mended_once : {D : Type 0} (b : Ghosts D) (n : ℕ) (x y : D) → (b.tells → SameContents (b.content x) (b.content y))
    → (b.tells → b.rest x → Changes b.moment b.may_leave x y SameContents) → Changes b.moment b.may_leave x y (SameOthers n)
    → ((h : Half) → (b.faults x h ≤ b.faults y h) × (b.last_fault x h ≤ b.last_fault y h)) → b.size y ≡ b.size x
    → OnlyMended b (λ m. m ≡ n) x y
mended_once b n x y same images others later size = record { same = same; images = images; images_others = others; later = later; size_same = size }

module _ {D : Type 0} {b : Ghosts D} where
  -- nothing was mended yet
  pub none_mended : {W : ℕ → Type 0} (d : D) → b.moment d < 2 ^ 64 → OnlyMended b W d d
  none_mended {W} d clock = record {
    same = λ told k. refl;
    images = λ told rest. stays b.moment b.may_leave d SameContents clock (λ f k. refl);
    images_others = stays b.moment b.may_leave d (SameAside W) clock (λ f n off. refl);
    later = λ h. (Prim.omega arith, Prim.omega arith);
    size_same = refl;
  }

  -- one mending after others that left nothing pending
  pub mended_on : {W V U : ℕ → Type 0} {x y z : D} → OnlyMended b W x y → (b.tells → b.rest x → b.rest y) → OnlyMended b V y z
      → ((n : ℕ) → W n → U n) → ((n : ℕ) → V n → U n) → OnlyMended b U x z
  mended_on {W} {V} {U} {x} {y} {z} first rests second to_first to_second = record {
    same = λ told k. second.same told k ∙ first.same told k;
    images = λ told rest. goes_on b.moment b.may_leave x y z SameContents SameContents SameContents SameContents
        (first.images told rest) (leaves_now b.moment b.may_leave x y SameContents (first.images told rest))
        (second.images told (rests told rest)) (λ f g l r. r) (λ f g k l r s n. s n ∙ r n);
    images_others = goes_on b.moment b.may_leave x y z (SameAside W) (SameAside W) (SameAside V) (SameAside U)
        first.images_others (leaves_now b.moment b.may_leave x y (SameAside W) first.images_others)
        second.images_others (λ f g l r n off. r n (λ w. off (to_first n w)))
        (λ f g k l r s n off. s n (λ v. off (to_second n v)) ∙ r n (λ w. off (to_first n w)));
    later = λ h. let p = first.later h in let q = second.later h in (Prim.omega (arith, p, q), Prim.omega (arith, p, q));
    size_same = second.size_same ∙ first.size_same;
  }

  -- blocks that are not among those mended have their contents in each image
  pub mended_aside : {W : ℕ → Type 0} {x y : D} (first : ℕ) → OnlyMended b W x y → ((n : ℕ) → 1 ≤ n → first ≤ n → W n → ⊥)
      → Changes b.moment b.may_leave x y (SameFrom first)
  mended_aside {W} {x} {y} first mended off =
      weaker b.moment b.may_leave x y (SameAside W) (SameFrom first) mended.images_others (λ f g l r n above high. r n (off n above high))

  -- a block was read
  pub mended_none : {W : ℕ → Type 0} {x y : D} → (b.tells → SameContents (b.content x) (b.content y)) → Changes b.moment b.may_leave x y SameContents
      → ((h : Half) → (b.faults x h ≤ b.faults y h) × (b.last_fault x h ≤ b.last_fault y h)) → b.size y ≡ b.size x → OnlyMended b W x y
  mended_none {W} {x} {y} same images later size = record {
    same = same;
    images = λ told rest. images;
    images_others = weaker b.moment b.may_leave x y SameContents (SameAside W) images (λ f g l r n off. r n);
    later = later;
    size_same = size;
  }

  -- more blocks may have been mended
  pub mended_more : {W V : ℕ → Type 0} {x y : D} → OnlyMended b W x y → ((n : ℕ) → W n → V n) → OnlyMended b V x y
  mended_more {W} {V} {x} {y} mended to = record {
    same = mended.same;
    images = mended.images;
    images_others = weaker b.moment b.may_leave x y (SameAside W) (SameAside V) mended.images_others (λ f g l r n off. r n (λ w. off (to n w)));
    later = mended.later;
    size_same = mended.size_same;
  }

  -- so they have after two mendings
  pub mended_aside_on : {W V : ℕ → Type 0} {x y z : D} (first : ℕ) → OnlyMended b W x y → OnlyMended b V y z
      → ((n : ℕ) → 1 ≤ n → first ≤ n → W n → ⊥) → ((n : ℕ) → 1 ≤ n → first ≤ n → V n → ⊥) → Changes b.moment b.may_leave x z (SameFrom first)
  mended_aside_on {W} {V} {x} {y} {z} first one two off off' =
      let before : Changes b.moment b.may_leave x y (SameFrom first) = mended_aside first one off in
      goes_on b.moment b.may_leave x y z (SameFrom first) (SameFrom first) (SameFrom first) (SameFrom first)
      before (leaves_now b.moment b.may_leave x y (SameFrom first) before) (mended_aside first two off')
      (λ f g l r. r) (λ f g k l r s n above high. s n above high ∙ r n above high)
