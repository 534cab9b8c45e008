-- The locks that are kept tell which other client has a file locked.
use Rattle.std.proofs.Common.{◌≡◌, ◌≢◌, ◌⊎◌, inl, inr, ℕ, suc, ◌-◌, ◌+◌, ◌≤◌, Bool, true, false, ◌&&◌, ◌||◌, not, List, [], ◌∷◌, Option, Some, None, refl, sym, ap, ◌∙◌, arith, eqb-true, eq-eqb}
use Rattle.std.specs.Prelude.{◌==◌, MatchOption, if◌then◌else◌, nat_le, slice_index_or}
use Rattle.std.specs.List.{list_all, list_any}
use Rattle.std.specs.Cmp.{first_so, second_so}
use Rattle.std.specs.Option.{option_map_or}
use Rattle.std.proofs.lemmas.Bool.{cases_Bool, cases_eq, leb-true}
use Rattle.service_model.specs.Sound.{IsSound}
use Rattle.service_model.specs.Standing.{Scripts, Standing, Client, Update, client_of, first_other, has_file, has_locked, locked_by, newcomer}
use Rattle.service_model.proofs.Causes.{none_has}
use Rattle.super_files.specs.Locks.{AreLocks, Holds, IsOpenTo, is_of, is_on}
use Rattle.super_files.specs.declared.locks.Lock.{Lock}
use Rattle.session.specs.Shared.{AreLocksIn}

-- ---- the first other client

-- The client at a place from n on passes a test, and is not client k.
pub record IsOther (k n : ℕ) (test : Client → Bool) (clients : List Client) (j : ℕ) : Type 0 where
  pub low : n ≤ j
  pub other : j ≢ k
  pub passes : test (slice_index_or clients (j - n) newcomer) ≡ true

pub first_is : (k n : ℕ) (test : Client → Bool) (clients : List Client) (j : ℕ) → first_other k test n clients ≡ Some j → IsOther k n test clients j
first_is k n test [] j h = (let wrong : None ≡ Some j = h in absurd (cc wrong))
first_is k n test (c ∷ clients) j h =
    by (λ later. first_is k (suc n) test clients j later) (cases_Bool (test c && not (n == k)))
  where
    here : n ≡ j → (test c && not (n == k)) ≡ true → IsOther k n test (c ∷ clients) j
    here e is = record {
      low = omega (arith, e);
      other = λ same. (let no : not (n == k) ≡ true = second_so (test c) (not (n == k)) is in
          let yes : (n == k) ≡ true = eq-eqb n k (e ∙ same) in
          let wrong : false ≡ true = sym (ap not yes) ∙ no in cc wrong);
      passes =
          let none : j - n ≡ 0 = omega (arith, e) in
          ap (λ (m : ℕ). test (slice_index_or (c ∷ clients) m newcomer)) none ∙ first_so (test c) (not (n == k)) is;
    }

    more : IsOther k (suc n) test clients j → IsOther k n test (c ∷ clients) j
    more o = record {
      low = (let low = o.low in omega (arith, low));
      other = o.other;
      passes = ap (λ (m : ℕ). test (slice_index_or (c ∷ clients) m newcomer)) (let low = o.low in let e : j - n ≡ suc (j - suc n) = omega (arith, low) in e) ∙ o.passes;
    }

    by : (first_other k test (suc n) clients ≡ Some j → IsOther k (suc n) test clients j)
        → ((test c && not (n == k)) ≡ true) ⊎ ((test c && not (n == k)) ≡ false) → IsOther k n test (c ∷ clients) j
    by later (inl is) =
        let e : Some n ≡ Some j = sym (ap (λ b. if b then Some n else first_other k test (suc n) clients) is) ∙ h in
        here (cc e) is
    by later (inr is) = more (later (sym (ap (λ b. if b then Some n else first_other k test (suc n) clients) is) ∙ h))

pub first_none : (k n : ℕ) (test : Client → Bool) (clients : List Client) → ((i : ℕ) → n + i ≢ k → test (slice_index_or clients i newcomer) ≡ false) → first_other k test n clients ≡ None
first_none k n test [] none = refl
first_none k n test (c ∷ clients) none =
    ap (λ b. if b then Some n else first_other k test (suc n) clients) (here (cases_Bool (n == k)))
    ∙ first_none k (suc n) test clients (λ i ne. none (suc i) (λ e. ne (omega (arith, e))))
  where
    and_false : (a b : Bool) → b ≡ false → (a && b) ≡ false
    and_false true b e = e
    and_false false b e = refl

    here : ((n == k) ≡ true) ⊎ ((n == k) ≡ false) → (test c && not (n == k)) ≡ false
    here (inl e) = and_false (test c) (not (n == k)) (ap not e)
    here (inr e) = ap (λ a. a && not (n == k)) (none 0 (λ same. (let yes : (n == k) ≡ true = eq-eqb n k (omega (arith, same)) in let wrong : true ≡ false = sym yes ∙ e in cc wrong)))

-- ---- the locks

abbrev is_fit : Lock → Bool
is_fit lock = nat_le 1 lock.client && nat_le lock.client 16

abbrev is_his : ℕ → ℕ → Lock → Bool
is_his k object lock = is_of k lock && is_on object lock

-- whoever holds a lock has a number from 1
holder_is : (k object : ℕ) (locks : List Lock) → list_all is_fit locks ≡ true → Holds k object locks → 1 ≤ k
holder_is k object [] all holds = (let wrong : false ≡ true = holds in absurd (cc wrong))
holder_is k object (lock ∷ locks) all holds =
    by (λ later. holder_is k object locks (second_so (is_fit lock) (list_all is_fit locks) all) later) (cases_Bool (is_his k object lock))
  where
    by : (list_any (is_his k object) locks ≡ true → 1 ≤ k) → (is_his k object lock ≡ true) ⊎ (is_his k object lock ≡ false) → 1 ≤ k
    by later (inl is) =
        let e : lock.client ≡ k = eqb-true lock.client k (first_so (is_of k lock) (is_on object lock) is) in
        let low : 1 ≤ lock.client = leb-true 1 lock.client (first_so (nat_le 1 lock.client) (nat_le lock.client 16) (first_so (is_fit lock) (list_all is_fit locks) all)) in
        omega (arith, e, low)
    by later (inr is) = later (sym (ap (λ b. b || list_any (is_his k object) locks) is) ∙ holds)

pub locked_is : (s : Standing) (k object : ℕ) (locks : List Lock) → AreLocks locks → AreLocksIn s locks → (found : Option ℕ)
    → MatchOption found (IsOpenTo k object locks) (λ by. (by ≢ k) × Holds by object locks) → locked_by s k object ≡ found
locked_is s k object locks are in_scene None open_to =
    first_none k 1 (has_locked object) s.clients (λ i ne. none i ne (cases_Bool (has_locked object (slice_index_or s.clients i newcomer))))
  where
    none : (i : ℕ) → 1 + i ≢ k → (has_locked object (slice_index_or s.clients i newcomer) ≡ true) ⊎ (has_locked object (slice_index_or s.clients i newcomer) ≡ false)
        → has_locked object (slice_index_or s.clients i newcomer) ≡ false
    none i ne (inl has) =
        absurd (ne (open_to (1 + i) ((in_scene (1 + i) object (omega arith)).1
        (ap (λ (m : ℕ). has_locked object (slice_index_or s.clients m newcomer)) (let e : 1 + i - 1 ≡ i = omega arith in e) ∙ has))))
    none i ne (inr has) = has
locked_is s k object locks are in_scene (Some by) (ne, holds) = found (locked_by s k object) refl
  where
    low : 1 ≤ by
    low = holder_is by object locks are.clients holds

    found : (o : Option ℕ) → locked_by s k object ≡ o → locked_by s k object ≡ Some by
    found None e =
        let off : has_locked object (client_of s by) ≡ false = none_has s k (has_locked object) e refl by low ne in
        let wrong : true ≡ false = sym ((in_scene by object low).0 holds) ∙ off in
        absurd (cc wrong)
    found (Some j) e =
        let other : IsOther k 1 (has_locked object) s.clients j = first_is k 1 (has_locked object) s.clients j e in
        e ∙ ap Some (are.exclusive j by object ((in_scene j object other.low).1 other.passes) holds)

-- ---- in a run

-- A client has an update of several files open, this one among them.
record HasLock (c : Client) (object : ℕ) : Type 0 where
  update : Update
  is_open : c.update ≡ Some update
  several : update.is_super ≡ true
  has : has_file object update ≡ true

has_lock : (c : Client) (object : ℕ) → has_locked object c ≡ true → HasLock c object
has_lock c object locked = by c.update refl
  where
    by : (o : Option Update) → c.update ≡ o → HasLock c object
    by None e =
        let wrong : false ≡ true = sym (ap (λ (o : Option Update). option_map_or (λ u. u.is_super && has_file object u) o false) e) ∙ locked in
        absurd (cc wrong)
    by (Some u) e =
        let both : (u.is_super && has_file object u) ≡ true = sym (ap (λ (o : Option Update). option_map_or (λ u. u.is_super && has_file object u) o false) e) ∙ locked in
        record { update = u; is_open = e; several = first_so u.is_super (has_file object u) both; has = second_so u.is_super (has_file object u) both }

-- no two clients have one file locked
one_holder : (scripts : Scripts) (s : Standing) (j k object : ℕ) → IsSound scripts s → 1 ≤ j → 1 ≤ k → has_locked object (client_of s j) ≡ true → has_locked object (client_of s k) ≡ true → j ≡ k
one_holder scripts s j k object sound low_j low_k one two = by (cases_eq j k)
  where
    by : (j ≡ k) ⊎ (j ≢ k) → j ≡ k
    by (inl e) = e
    by (inr ne) =
        let a = has_lock (client_of s j) object one in
        let b = has_lock (client_of s k) object two in
        absurd (sound.alone j k a.update b.update low_j low_k ne a.is_open b.is_open object a.several b.several a.has b.has)

-- so a client that holds a lock and is another is the one that has the file locked
pub locked_by_holder : (scripts : Scripts) (s : Standing) (k by object : ℕ) (locks : List Lock) → IsSound scripts s → AreLocksIn s locks → 1 ≤ by → by ≢ k → Holds by object locks
    → locked_by s k object ≡ Some by
locked_by_holder scripts s k by object locks sound in_scene low ne holds = found (locked_by s k object) refl
  where
    has : has_locked object (client_of s by) ≡ true
    has = (in_scene by object low).0 holds

    found : (o : Option ℕ) → locked_by s k object ≡ o → locked_by s k object ≡ Some by
    found None e =
        let off : has_locked object (client_of s by) ≡ false = none_has s k (has_locked object) e refl by low ne in
        let wrong : true ≡ false = sym has ∙ off in
        absurd (cc wrong)
    found (Some j) e =
        let other : IsOther k 1 (has_locked object) s.clients j = first_is k 1 (has_locked object) s.clients j e in
        e ∙ ap Some (one_holder scripts s j by object sound other.low low other.passes has)
