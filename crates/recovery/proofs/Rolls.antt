-- Calls that go on from one state of a store to the next, in a row; and one call that writes a page anew.
use Rattle.std.proofs.Common.{◌≡◌, inl, inr, ℕ, min, ◌+◌, ◌^◌, ◌-◌, ◌<◌, ◌≤◌, List, Option, Some, None, Result, Ok, Err, OnOk, refl, sym, ap, subst, ◌∙◌, arith}
use Rattle.std.proofs.Math.Path.{fun_ext}
use Rattle.drives.specs.declared.device.Half.{Half}
use Rattle.drives.specs.Changes.{Changes}
use Rattle.drives.proofs.Composing.{stays, goes_on, leaves_now, weaker}
use Rattle.pair_store.specs.Blocks.{SameContents}
use Rattle.pair_store.specs.Faults.{IsStopped, IsUnread}
use Rattle.pair_store.specs.declared.fault.PairFault.{PairFault}
use Rattle.pair_store.specs.declared.fault.PairFault.TheVariants.{ReadFault as Unread, WriteFault as Unwritten, BothClosed, BadPage}
use Rattle.pair_store.specs.declared.store.Blocks.{Ghosts}
use Rattle.page_codec.proofs.FrameLaws.{IsBlock}
use Rattle.pair_store.specs.Blocks.{OldOrNew}
use Rattle.page_codec.specs.declared.why.Why.{Why}
use Rattle.store_check.proofs.ReadOnly.{failed_before}
use Rattle.store_model.specs.Found.{found}
use Rattle.store_model.proofs.Edits.{none_some}
use Rattle.recovery.specs.declared.refused.OpenRefused.{OpenRefused}
use Rattle.recovery.specs.declared.refused.OpenRefused.TheVariants.{ReadFault, WriteFault, BadStore, Memory}
use Rattle.recovery.specs.Opening.{IsFailed, SameFound, refused_call}
use Rattle.recovery.specs.declared.known.Known.{Known}
use Rattle.recovery.specs.declared.rolling.Step.{Step}
use Rattle.recovery.specs.Aside.{SameAside}
use Rattle.recovery.specs.Rolling.{Begins, BeginsAlways, Edits, IsEdited, IsUnwritten, Leaves, Rolling, Rolls, State}
use Rattle.recovery.proofs.Turning.{Turn, turned, turned_either}

never_err : {T E A : Type 0} (x : T) (e : E) → (let r : Result T E = Ok x in r) ≡ Err e → A
never_err x e is = absurd cc

same_err : {T E : Type 0} (e f : E) → (let r : Result T E = Err e in r) ≡ Err f → e ≡ f
same_err e f is = cc

no_read : {T P : Type 0} (block : ℕ) (why : Why) (h : Half) → (let r : Result T OpenRefused = Err (BadStore block why) in r) ≡ Err (ReadFault h) → P
no_read {T} {P} block why h is = other (same_err {T = T} (BadStore block why) (ReadFault h) is)
  where
    other : BadStore block why ≡ ReadFault h → P
    other e = absurd cc

no_write : {T P : Type 0} (block : ℕ) (why : Why) (h : Half) → (let r : Result T OpenRefused = Err (BadStore block why) in r) ≡ Err (WriteFault h) → P
no_write {T} {P} block why h is = other (same_err {T = T} (BadStore block why) (WriteFault h) is)
  where
    other : BadStore block why ≡ WriteFault h → P
    other e = absurd cc

-- which fault of a block gives which refusal
pub fault_read : (fault : PairFault) (h : Half) → refused_call fault ≡ ReadFault h → fault ≡ Unread h
fault_read (Unread half) h e = ap Unread (let is : ReadFault half ≡ ReadFault h = e in cc)
fault_read (Unwritten half) h e = absurd cc
fault_read (BothClosed block) h e = absurd cc
fault_read (BadPage block why) h e = absurd cc

pub fault_write : (fault : PairFault) (h : Half) → refused_call fault ≡ WriteFault h → fault ≡ Unwritten h
fault_write (Unread half) h e = absurd cc
fault_write (Unwritten half) h e = ap Unwritten (let is : WriteFault half ≡ WriteFault h = e in cc)
fault_write (BothClosed block) h e = absurd cc
fault_write (BadPage block why) h e = absurd cc

-- a half that failed in the last call, and one that failed in a read of a block that has content
pub stopped_failed : (faults faults_after last_after : Half → ℕ) (moment : ℕ) (N : Type 0) (h : Half) → IsStopped faults faults_after last_after moment h → IsFailed faults faults_after last_after moment N h
stopped_failed faults faults_after last_after moment N h is = record { failed = is.failed; last = inl is.last }

pub unread_failed : (faults faults_after last_after : Half → ℕ) (moment : ℕ) (E N : Type 0) (h : Half) → (E → N) → IsUnread faults faults_after last_after moment E h → IsFailed faults faults_after last_after moment N h
unread_failed faults faults_after last_after moment E N h to is =
    record {
      failed = is.failed;
      last = elim is.last [
        | inl last ↦ inl last
        | inr (at, stood, empty) ↦ inr (subst (λ (k : Half). moment ≡ min (last_after k + 1) (2 ^ 64 - 1)) (sym at) stood, to empty)
      ];
    }

-- a half that failed since later failed since earlier
pub failed_since : (early faults faults_after last_after : Half → ℕ) (moment : ℕ) (N M : Type 0) (h : Half) → early h ≤ faults h → (N → M)
    → IsFailed faults faults_after last_after moment N h → IsFailed early faults_after last_after moment M h
failed_since early faults faults_after last_after moment N M h le to is =
    record {
      failed = failed_before (early h) (faults h) (faults_after h) (last_after h) le is.failed;
      last = elim is.last [ inl last ↦ inl last | inr (stood, none) ↦ inr (stood, to none) ];
    }

-- the same half, where more is so
pub failed_so : (faults faults_after last_after : Half → ℕ) (moment : ℕ) (N M : Type 0) (h : Half) → (N → M)
    → IsFailed faults faults_after last_after moment N h → IsFailed faults faults_after last_after moment M h
failed_so faults faults_after last_after moment N M h to is =
    record { failed = is.failed; last = elim is.last [ inl last ↦ inl last | inr (stood, none) ↦ inr (stood, to none) ] }

-- the images of reads
pub read_images : {D : Type 0} (moment : D → ℕ) (may_leave : D → ℕ → (ℕ → Option (List ℕ)) → Type 0) (most : ℕ) (a b : D) → Changes moment may_leave a b SameContents → Changes moment may_leave a b (SameFound most)
read_images moment may_leave most a b changes = weaker moment may_leave a b SameContents (SameFound most) changes (λ f g left q. ap (λ c. found c most) (fun_ext q))

-- what two facts give of a call that went well
pub both_ok : {T E : Type 0} {P Q R : Type 0} (r : Result T E) → OnOk r P → OnOk r Q → (P → Q → R) → OnOk r R
both_ok (Ok x) p q f = f p q
both_ok (Err e) p q f = tt

pub ok_so : {T E : Type 0} {P Q : Type 0} (r : Result T E) → OnOk r P → (P → Q) → OnOk r Q
ok_so (Ok x) p f = f p
ok_so (Err e) p f = tt

still_unwritten : (T S : Type 0) (e : OpenRefused) → IsUnwritten (let q : Result S OpenRefused = Err e in q) → IsUnwritten (let q : Result T OpenRefused = Err e in q)
still_unwritten T S (ReadFault h) is = tt
still_unwritten T S (WriteFault h) is = is
still_unwritten T S (BadStore block why) is = tt
still_unwritten T S Memory is = tt

any_ok : {T P : Type 0} (r : Result T OpenRefused) → P → OnOk r P
any_ok (Ok x) p = p
any_ok (Err e) p = tt

module _ {D : Type 0} {b : Ghosts D} {W : ℕ → Type 0} where
  -- nothing was called
  pub leaves_all : {T : Type 0} (r : Result T OpenRefused) (d : D) → b.moment d < 2 ^ 64 → ((h : Half) → r ≡ Err (WriteFault h) → ⊥) → Leaves b W r d d
  leaves_all r d clock unfailed = record {
    others = λ told n off. refl;
    images_others = stays b.moment b.may_leave d (SameAside W) clock (λ f n off. refl);
    kept = λ told. any_ok r (λ n s. s);
    kept_always = λ told. any_ok r (λ n s. s);
    rest = λ told rest unwritten. rest;
    unwritten = λ h is. absurd (unfailed h is);
    later = λ h. (Prim.omega arith, Prim.omega arith);
    size_same = refl;
  }

  -- one call after others that went well
  pub leaves_on : {T S : Type 0} {x : T} {r : Result S OpenRefused} {a m z : D} → Leaves b W (Ok x) a m → Leaves b W r m z → Leaves b W r a z
  leaves_on {r = r} {a = a} {m = m} {z = z} first second = record {
    others = λ told n off. second.others told n off ∙ first.others told n off;
    images_others = goes_on b.moment b.may_leave a m z (SameAside W) (SameAside W) (SameAside W) (SameAside W)
        first.images_others (leaves_now b.moment b.may_leave a m (SameAside W) first.images_others)
        second.images_others (λ f g left q. q) (λ f g h left q s n off. s n off ∙ q n off);
    kept = λ told. ok_so r (second.kept told) (λ on n s. on n (first.kept told n s));
    kept_always = λ told. ok_so r (second.kept_always told) (λ on n s. on n (first.kept_always told n s));
    rest = λ told rest unwritten. second.rest told (first.rest told rest tt) unwritten;
    unwritten = λ h is. failed_since (b.faults a) (b.faults m) (b.faults z) (b.last_fault z) (b.moment z) ⊥ ⊥ h (first.later h).0 (λ none. none) (second.unwritten h is);
    later = λ h. let p = first.later h in let q = second.later h in (Prim.omega (arith, p, q), Prim.omega (arith, p, q));
    size_same = second.size_same ∙ first.size_same;
  }

  -- a call that failed, whatever it was to come to
  pub leaves_err : {T S : Type 0} {e : OpenRefused} {a z : D} → Leaves b W (let q : Result S OpenRefused = Err e in q) a z → Leaves b W (let q : Result T OpenRefused = Err e in q) a z
  leaves_err {T} {S} {e = e} leaves = record {
    others = leaves.others;
    images_others = leaves.images_others;
    kept = λ told. tt;
    kept_always = λ told. tt;
    rest = λ told rest unwritten. leaves.rest told rest (still_unwritten S T e unwritten);
    unwritten = λ h is. leaves.unwritten h (ap Err (same_err {T = T} e (WriteFault h) is));
    later = leaves.later;
    size_same = leaves.size_same;
  }

  -- more blocks may be written
  pub leaves_more : {V : ℕ → Type 0} {T : Type 0} {r : Result T OpenRefused} {a z : D} → ((n : ℕ) → V n → W n) → Leaves b V r a z → Leaves b W r a z
  leaves_more {V} {a = a} {z = z} to leaves = record {
    others = λ told n off. leaves.others told n (λ v. off (to n v));
    images_others = weaker b.moment b.may_leave a z (SameAside V) (SameAside W) leaves.images_others (λ f g left same n off. same n (λ v. off (to n v)));
    kept = leaves.kept;
    kept_always = leaves.kept_always;
    rest = leaves.rest;
    unwritten = leaves.unwritten;
    later = leaves.later;
    size_same = leaves.size_same;
  }

module _ {D : Type 0} {b : Ghosts D} {most : ℕ} {W : ℕ → Type 0} where
  -- nothing was called
  pub rolls_stay : {T : Type 0} {From To : State} {x : T} {d : D} → b.moment d < 2 ^ 64
      → ((c : ℕ → Option (List ℕ)) (s : ℕ → Type 0) → From c s → To c s) → Rolls b most W From To (Ok x) d d
  rolls_stay {x = x} {d = d} clock to = record {
    leaves = leaves_all (Ok x) d clock (λ h is. never_err x (WriteFault h) is);
    goes = λ begins. to (b.content d) (b.settled d) begins.2;
    goes_always = λ begins. to (b.content d) (b.settled_always d) begins.2;
    only = λ begins. tt;
    same = λ begins. refl;
    images = λ begins. stays b.moment b.may_leave d (SameFound most) clock (λ f. refl);
    unread = λ h is. never_err x (ReadFault h) is;
  }

  -- one call after others that went well
  pub rolls_on : {T S : Type 0} {From Mid To : State} {x : T} {r : Result S OpenRefused} {a m z : D}
      → Rolls b most W From Mid (Ok x) a m → Rolls b most W Mid To r m z → Rolls b most W From To r a z
  rolls_on {From = From} {Mid = Mid} {a = a} {m = m} {z = z} first second =
      let next : Begins b most From a → Begins b most Mid m = λ begins. (begins.0, room begins.1, first.goes begins) in
      let next_always : BeginsAlways b most From a → BeginsAlways b most Mid m = λ begins. (begins.0, room begins.1, first.goes_always begins) in
      record {
        leaves = leaves_on first.leaves second.leaves;
        goes = λ begins. second.goes (next begins);
        goes_always = λ begins. second.goes_always (next_always begins);
        only = λ begins. second.only (next begins);
        same = λ begins. second.same (next begins) ∙ first.same begins;
        images = λ begins. goes_on b.moment b.may_leave a m z (SameFound most) (SameFound most) (SameFound most) (SameFound most)
            (first.images begins) (leaves_now b.moment b.may_leave a m (SameFound most) (first.images begins))
            (second.images (next_always begins)) (λ f g left q. q) (λ f g h left q s. s ∙ q);
        unread = λ h is. failed_since (b.faults a) (b.faults m) (b.faults z) (b.last_fault z) (b.moment z)
            (Begins b most Mid m → ⊥) (Begins b most From a → ⊥) h (first.leaves.later h).0 (λ none begins. none (next begins)) (second.unread h is);
      }
    where
      room : most ≤ b.size a → most ≤ b.size m
      room low = let same = first.leaves.size_same in Prim.omega (arith, low, same)

  -- a call that failed, whatever it was to come to
  pub rolls_err : {T S : Type 0} {From Mid To : State} {e : OpenRefused} {a z : D}
      → Rolls b most W From Mid (let q : Result S OpenRefused = Err e in q) a z → Rolls b most W From To (let q : Result T OpenRefused = Err e in q) a z
  rolls_err {T} {S} {e = e} rolls = record {
    leaves = leaves_err {T = T} {S = S} rolls.leaves;
    goes = λ begins. tt;
    goes_always = λ begins. tt;
    only = λ begins. rolls.only begins;
    same = λ begins. rolls.same begins;
    images = λ begins. rolls.images begins;
    unread = λ h is. rolls.unread h (ap Err (same_err {T = T} e (ReadFault h) is));
  }

  -- a refusal that never comes where the state is as it should be
  pub rolls_bad : {T : Type 0} {From To : State} (block : ℕ) (why : Why) {d : D} → b.moment d < 2 ^ 64 → (Begins b most From d → ⊥)
      → Rolls b most W From To (let q : Result T OpenRefused = Err (BadStore block why) in q) d d
  rolls_bad {T} block why {d = d} clock never = record {
    leaves = leaves_all (let q : Result T OpenRefused = Err (BadStore block why) in q) d clock (λ h is. no_write {T = T} block why h is);
    goes = λ begins. tt;
    goes_always = λ begins. tt;
    only = λ begins. never begins;
    same = λ begins. refl;
    images = λ begins. stays b.moment b.may_leave d (SameFound most) clock (λ f. refl);
    unread = λ h is. no_read {T = T} block why h is;
  }

-- ---- a page that is written anew

-- what a page of the file is to which a step comes, wherever it stands
pub record Turns (step : Step) (most : ℕ) (known : Known) (k n : ℕ) (edit : List ℕ → List ℕ) : Type 1 where
  pub turn : (c : ℕ → Option (List ℕ)) (s : ℕ → Type 0) (r : Rolling step most known k c s) → Turn step most known k c s r n edit
  pub edited : IsEdited known n

-- A page is written anew, or its write fails: what is found stays with the old bytes and with the new ones.
module _ {D : Type 0} (b : Ghosts D) (step : Step) (most : ℕ) (known : Known) (k n : ℕ) (edit : List ℕ → List ℕ)
    (t : Turns step most known k n edit) {T : Type 0} (r : Result T OpenRefused) (a z : D) (edits : Edits b step n edit r a z)
    (now : b.tells → (m : ℕ) → b.settled_always a m → b.settled a m)
    (left : b.tells → (m : ℕ) (f : ℕ → Option (List ℕ)) → b.settled_always a m → b.may_leave a (b.moment a) f → f m ≡ b.content a m)
    (whole : b.tells → (body : List ℕ) → b.content a n ≡ Some body → IsBlock body) where
  page_of : (s : ℕ → Type 0) (from : Rolling step most known k (b.content a) s) → Turn step most known k (b.content a) s from n edit
  page_of s from = t.turn (b.content a) s from

  goes_with : (s u : ℕ → Type 0) → b.tells → (from : Rolling step most known k (b.content a) s) → b.settled a n → OnOk r ((m : ℕ) → s m → u m)
      → OnOk r (Rolling step most known (k + 1) (b.content z) u)
  goes_with s u told from here kept =
      let p = page_of s from in
      both_ok r (edits.written told here p.page.body p.page.page p.page.holds p.page.reads p.page.ready) kept
      (λ is settles. turned step most known k (b.content a) s from n edit p (whole told p.page.body p.page.holds) (b.content z) u is
      (λ m off. edits.leaves.others told m off) settles)

  pub rolls_edit : Rolls b most (IsEdited known) (Rolling step most known k) (Rolling step most known (k + 1)) r a z
  unfolding page_of
  rolls_edit = record {
    leaves = leaves_more (λ m is. subst (IsEdited known) (sym is) t.edited) edits.leaves;
    goes = λ begins. goes_with (b.settled a) (b.settled z) begins.0 begins.2 (page_of (b.settled a) begins.2).page.settled (edits.leaves.kept begins.0);
    goes_always = λ begins.
        goes_with (b.settled_always a) (b.settled_always z) begins.0 begins.2
        (now begins.0 n (page_of (b.settled_always a) begins.2).page.settled) (edits.leaves.kept_always begins.0);
    only = λ begins.
        let p = page_of (b.settled a) begins.2 in
        edits.only begins.0 p.page.settled p.page.body p.page.page p.page.holds p.page.reads p.page.ready;
    same = λ begins.
        let p = page_of (b.settled a) begins.2 in
        turned_either step most known k (b.content a) (b.settled a) begins.2 n edit p (whole begins.0 p.page.body p.page.holds) (b.content a) (b.content z) (λ m s. refl)
        (edits.either begins.0 p.page.settled p.page.body p.page.holds);
    images = λ begins.
        let p = page_of (b.settled_always a) begins.2 in
        weaker b.moment b.may_leave a z (OldOrNew n (edit p.page.body)) (SameFound most) (edits.images begins.0 p.page.settled p.page.body p.page.holds)
        (λ x y may change. turned_either step most known k (b.content a) (b.settled_always a) begins.2 n edit p (whole begins.0 p.page.body p.page.holds) x y
        (λ m s. left begins.0 m x s may) change);
    unread = λ h is. failed_so (b.faults a) (b.faults z) (b.last_fault z) (b.moment z) (b.tells → b.settled a n → b.content a n ≡ None)
        (Begins b most (Rolling step most known k) a → ⊥) h
        (λ empty begins. let p = page_of (b.settled a) begins.2 in none_some (sym (empty begins.0 p.page.settled) ∙ p.page.holds)) (edits.unread h is);
  }
