-- Locks that are taken or given up stay exclusive, and there is always room for them.
use Rattle.std.proofs.Common.{◌≡◌, ℕ, zero, suc, ◌+◌, ◌*◌, ◌<◌, ◌≤◌, ◌⊎◌, inl, inr, Bool, true, false, not, cond, ◌&&◌, ◌||◌, nat_eq, List, [], ◌∷◌, ◌++◌, length, Option, Some, None, MatchOption, option_map, refl, sym, ap, subst, ◌∙◌, arith, eq-eqb, eqb-true, true≢false, count_by, length-append}
use Rattle.std.specs.Prelude.{nat_le}
use Rattle.std.specs.List.{list_any, list_all, find, filter}
use Rattle.std.proofs.lemmas.Bool.{leb-true, leb-false, le-leb, lt-leb}
use Rattle.std.proofs.lemmas.List.Sums.{sum_by-cons, sum_by-append}
use Rattle.std.proofs.lemmas.List.Folds.{list_any-append, list_all-append}
use Rattle.super_files.specs.declared.locks.Lock.{Lock}
use Rattle.super_files.specs.Locks.{is_of, is_on, held_count, Holds, IsOpenTo, AreLocks}

told : (b : Bool) → (b ≡ true) ⊎ (b ≡ false)
told true = inl refl
told false = inr refl

or_told : (a b : Bool) → (a || b) ≡ true → (a ≡ true) ⊎ (b ≡ true)
or_told true b h = inl refl
or_told false b h = inr h

or_left : (a b : Bool) → a ≡ true → (a || b) ≡ true
or_left a b h = ap (λ x. x || b) h

or_right : (a b : Bool) → b ≡ true → (a || b) ≡ true
or_right true b h = refl
or_right false b h = h

both_told : (a b : Bool) → (a && b) ≡ true → (a ≡ true) × (b ≡ true)
both_told true b h = (refl, h)
both_told false b h = absurd (true≢false (sym h))

both_true : (a b : Bool) → a ≡ true → b ≡ true → (a && b) ≡ true
both_true a b p q = ap (λ x. x && b) p ∙ q

-- ---- who holds what

-- the lock is this client's, and on this object
abbrev is_both : ℕ → ℕ → Lock → Bool
is_both client object lock = is_of client lock && is_on object lock

holds_itself : (x : Lock) (object : ℕ) → is_on object x ≡ true → is_both x.client object x ≡ true
holds_itself x object h = both_true (is_of x.client x) (is_on object x) (eq-eqb x.client x.client refl) h

not_on : (x : Lock) (k object : ℕ) → is_on object x ≡ false → is_both k object x ≡ true → ⊥
not_on x k object off h = true≢false (sym (both_told (is_of k x) (is_on object x) h).1 ∙ off)

-- what the first lock on an object tells
abbrev pub Tells : ℕ → List Lock → Option ℕ → Type 0
Tells object locks result = MatchOption result ((k : ℕ) → Holds k object locks → ⊥) (λ k. Holds k object locks)

tells_more : (object : ℕ) (x : Lock) (xs : List Lock) (r : Option ℕ) → is_on object x ≡ false → Tells object xs r → Tells object (x ∷ xs) r
tells_more object x xs None off h =
    λ k held. elim (or_told (is_both k object x) (list_any (is_both k object) xs) held) [ inl here ↦ not_on x k object off here | inr later ↦ h k later ]
tells_more object x xs (Some k) off h = or_right (is_both k object x) (list_any (is_both k object) xs) h

tells_at : (object : ℕ) (x : Lock) (xs : List Lock) (b : Bool) → is_on object x ≡ b
    → Tells object xs (option_map (λ lock. lock.client) (find (is_on object) xs))
    → Tells object (x ∷ xs) (option_map (λ lock. lock.client) (cond b (Some x) (find (is_on object) xs)))
tells_at object x xs true on h = or_left (is_both x.client object x) (list_any (is_both x.client object) xs) (holds_itself x object on)
tells_at object x xs false off h = tells_more object x xs (option_map (λ lock. lock.client) (find (is_on object) xs)) off h

pub first_tells : (object : ℕ) (xs : List Lock) → Tells object xs (option_map (λ lock. lock.client) (find (is_on object) xs))
first_tells object [] = λ k held. true≢false (sym held)
first_tells object (x ∷ xs) = tells_at object x xs (is_on object x) refl (first_tells object xs)

-- ---- one lock more

holds_more : (k object : ℕ) (xs : List Lock) (x : Lock) → Holds k object (xs ++ x ∷ []) → Holds k object xs ⊎ ((x.client ≡ k) × (x.object ≡ object))
holds_more k object xs x h =
    elim (or_told (list_any (is_both k object) xs) (is_both k object x || false) (sym (list_any-append (is_both k object) xs (x ∷ [])) ∙ h)) [
      | inl before ↦ inl before
      | inr here ↦
          elim (or_told (is_both k object x) false here) [
            | inl both ↦
                let parts : (is_of k x ≡ true) × (is_on object x ≡ true) = both_told (is_of k x) (is_on object x) both in
                inr (eqb-true x.client k parts.0, eqb-true x.object object parts.1)
            | inr never ↦ absurd (true≢false (sym never))
          ]
    ]

abbrev one : Bool → ℕ
one b = cond b 1 0

counted : (p : Lock → Bool) (x : Lock) (xs : List Lock) → count_by p (x ∷ xs) ≡ one (p x) + count_by p xs
counted p x xs = sum_by-cons (λ y. one (p y)) x xs

count_append : (p : Lock → Bool) (xs : List Lock) (x : Lock) → count_by p (xs ++ x ∷ []) ≡ count_by p xs + one (p x)
count_append p xs x =
    let all : count_by p (xs ++ x ∷ []) ≡ count_by p xs + count_by p (x ∷ []) = sum_by-append (λ y. one (p y)) xs (x ∷ []) in
    let last : count_by p (x ∷ []) ≡ one (p x) + 0 = counted p x [] in
    omega (arith, all, last)

exclusive_more : (xs : List Lock) (x : Lock) → AreLocks xs → IsOpenTo x.client x.object xs
    → (j k object : ℕ) → Holds j object (xs ++ x ∷ []) → Holds k object (xs ++ x ∷ []) → j ≡ k
exclusive_more xs x locks opened j k object hj hk =
    elim (holds_more j object xs x hj) [
      | inl before_j ↦
          elim (holds_more k object xs x hk) [
            | inl before_k ↦ locks.exclusive j k object before_j before_k
            | inr here_k ↦ opened j (subst (λ o. Holds j o xs) (sym here_k.1) before_j) ∙ here_k.0
          ]
      | inr here_j ↦
          elim (holds_more k object xs x hk) [
            | inl before_k ↦ sym (opened k (subst (λ o. Holds k o xs) (sym here_j.1) before_k) ∙ here_j.0)
            | inr here_k ↦ sym here_j.0 ∙ here_k.0
          ]
    ]

most_more : (xs : List Lock) (x : Lock) → AreLocks xs → held_count x.client xs < 17 → (k : ℕ) → held_count k (xs ++ x ∷ []) ≤ 17
most_more xs x locks room k =
    let e : held_count k (xs ++ x ∷ []) ≡ held_count k xs + one (is_of k x) = count_append (is_of k) xs x in
    elim (told (is_of k x)) [
      | inl mine ↦
          let same : held_count k xs ≡ held_count x.client xs = ap (λ c. held_count c xs) (sym (eqb-true x.client k mine)) in
          let single : one (is_of k x) ≡ one true = ap one mine in
          omega (arith, e, same, single, room)
      | inr other ↦
          let none : one (is_of k x) ≡ one false = ap one other in
          let most : held_count k xs ≤ 17 = locks.most k in
          omega (arith, e, none, most)
    ]

pub locks_more : (xs : List Lock) (x : Lock) → AreLocks xs → IsOpenTo x.client x.object xs → held_count x.client xs < 17 → 1 ≤ x.client → x.client ≤ 16
    → AreLocks (xs ++ x ∷ [])
locks_more xs x locks opened room low high =
    record {
      exclusive = exclusive_more xs x locks opened;
      most = most_more xs x locks room;
      clients =
          list_all-append (λ lock. nat_le 1 lock.client && nat_le lock.client 16) xs (x ∷ [])
          ∙ both_true (list_all (λ lock. nat_le 1 lock.client && nat_le lock.client 16) xs) ((nat_le 1 x.client && nat_le x.client 16) && true) locks.clients
          (both_true (nat_le 1 x.client && nat_le x.client 16) true (both_true (nat_le 1 x.client) (nat_le x.client 16) (le-leb 1 x.client low) (le-leb x.client 16 high)) refl);
    }

-- ---- locks that are given up

any_filter : (p q : Lock → Bool) (xs : List Lock) → list_any p (filter q xs) ≡ true → list_any p xs ≡ true
any_filter p q [] h = h
any_filter p q (x ∷ xs) h = of (q x) (any_filter p q xs) h
  where
    of : (b : Bool) → (list_any p (filter q xs) ≡ true → list_any p xs ≡ true)
        → list_any p (cond b (x ∷ filter q xs) (filter q xs)) ≡ true → list_any p (x ∷ xs) ≡ true
    of true rest h' =
        elim (or_told (p x) (list_any p (filter q xs)) h') [ inl here ↦ or_left (p x) (list_any p xs) here | inr later ↦ or_right (p x) (list_any p xs) (rest later) ]
    of false rest h' = or_right (p x) (list_any p xs) (rest h')

count_filter : (p q : Lock → Bool) (xs : List Lock) → count_by p (filter q xs) ≤ count_by p xs
count_filter p q [] = omega arith
count_filter p q (x ∷ xs) = of (q x) (count_filter p q xs)
  where
    of : (b : Bool) → count_by p (filter q xs) ≤ count_by p xs → count_by p (cond b (x ∷ filter q xs) (filter q xs)) ≤ count_by p (x ∷ xs)
    of true h =
        let a : count_by p (x ∷ filter q xs) ≡ one (p x) + count_by p (filter q xs) = counted p x (filter q xs) in
        let b : count_by p (x ∷ xs) ≡ one (p x) + count_by p xs = counted p x xs in
        omega (arith, a, b, h)
    of false h = let b : count_by p (x ∷ xs) ≡ one (p x) + count_by p xs = counted p x xs in omega (arith, b, h)

all_filter : (p q : Lock → Bool) (xs : List Lock) → list_all p xs ≡ true → list_all p (filter q xs) ≡ true
all_filter p q [] h = h
all_filter p q (x ∷ xs) h =
    let parts : (p x ≡ true) × (list_all p xs ≡ true) = both_told (p x) (list_all p xs) h in
    of (q x) parts.0 (all_filter p q xs parts.1)
  where
    of : (b : Bool) → p x ≡ true → list_all p (filter q xs) ≡ true → list_all p (cond b (x ∷ filter q xs) (filter q xs)) ≡ true
    of true here later = both_true (p x) (list_all p (filter q xs)) here later
    of false here later = later

pub locks_less : (q : Lock → Bool) (xs : List Lock) → AreLocks xs → AreLocks (filter q xs)
locks_less q xs locks =
    record {
      exclusive = λ j k object hj hk. locks.exclusive j k object (any_filter (is_both j object) q xs hj) (any_filter (is_both k object) q xs hk);
      most = λ k. let a : held_count k (filter q xs) ≤ held_count k xs = count_filter (is_of k) q xs in let b : held_count k xs ≤ 17 = locks.most k in omega (arith, a, b);
      clients = all_filter (λ lock. nat_le 1 lock.client && nat_le lock.client 16) q xs locks.clients;
    }

-- ---- room

-- how many locks the clients up to n hold
abbrev upto : ℕ → List Lock → ℕ
upto n xs = count_by (λ lock. nat_le lock.client n) xs

step_told : (a b c : Bool) → (a ≡ true → b ≡ false → c ≡ true) → one a ≤ one b + one c
step_told true true c h = omega arith
step_told true false true h = omega arith
step_told true false false h = absurd (true≢false (sym (h refl refl)))
step_told false b c h = omega arith

upto_step : (n : ℕ) (xs : List Lock) → upto (suc n) xs ≤ upto n xs + held_count (suc n) xs
upto_step n [] = omega arith
upto_step n (x ∷ xs) =
    let here : one (nat_le x.client (suc n)) ≤ one (nat_le x.client n) + one (is_of (suc n) x) =
    step_told (nat_le x.client (suc n)) (nat_le x.client n) (is_of (suc n) x)
    (λ high low.
    let above : n < x.client = leb-false x.client n low in
    let below : x.client ≤ suc n = leb-true x.client (suc n) high in
    let same : x.client ≡ suc n = omega (arith, above, below) in
    eq-eqb x.client (suc n) same) in
    let rest : upto (suc n) xs ≤ upto n xs + held_count (suc n) xs = upto_step n xs in
    let a : upto (suc n) (x ∷ xs) ≡ one (nat_le x.client (suc n)) + upto (suc n) xs = counted (λ lock. nat_le lock.client (suc n)) x xs in
    let b : upto n (x ∷ xs) ≡ one (nat_le x.client n) + upto n xs = counted (λ lock. nat_le lock.client n) x xs in
    let c : held_count (suc n) (x ∷ xs) ≡ one (is_of (suc n) x) + held_count (suc n) xs = counted (is_of (suc n)) x xs in
    omega (arith, here, rest, a, b, c)

-- each lock is a client's, from 1 to 16
abbrev all_clients : List Lock → Bool
all_clients xs = list_all (λ lock. nat_le 1 lock.client && nat_le lock.client 16) xs

upto_none : (xs : List Lock) → all_clients xs ≡ true → upto 0 xs ≡ 0
upto_none [] h = refl
upto_none (x ∷ xs) h =
    let parts : ((nat_le 1 x.client && nat_le x.client 16) ≡ true) × (all_clients xs ≡ true) = both_told (nat_le 1 x.client && nat_le x.client 16) (all_clients xs) h in
    let low : 1 ≤ x.client = leb-true 1 x.client (both_told (nat_le 1 x.client) (nat_le x.client 16) parts.0).0 in
    let none : one (nat_le x.client 0) ≡ one false = ap one (lt-leb x.client 0 low) in
    let rest : upto 0 xs ≡ 0 = upto_none xs parts.1 in
    let a : upto 0 (x ∷ xs) ≡ one (nat_le x.client 0) + upto 0 xs = counted (λ lock. nat_le lock.client 0) x xs in
    omega (arith, none, rest, a)

upto_all : (xs : List Lock) → all_clients xs ≡ true → upto 16 xs ≡ length xs
upto_all [] h = refl
upto_all (x ∷ xs) h =
    let parts : ((nat_le 1 x.client && nat_le x.client 16) ≡ true) × (all_clients xs ≡ true) = both_told (nat_le 1 x.client && nat_le x.client 16) (all_clients xs) h in
    let single : one (nat_le x.client 16) ≡ one true = ap one (both_told (nat_le 1 x.client) (nat_le x.client 16) parts.0).1 in
    let rest : upto 16 xs ≡ length xs = upto_all xs parts.1 in
    let a : upto 16 (x ∷ xs) ≡ one (nat_le x.client 16) + upto 16 xs = counted (λ lock. nat_le lock.client 16) x xs in
    omega (arith, single, rest, a)

upto_most : (xs : List Lock) → AreLocks xs → (n : ℕ) → upto n xs ≤ 17 * n
upto_most xs locks zero = let none : upto 0 xs ≡ 0 = upto_none xs locks.clients in omega (arith, none)
upto_most xs locks (suc n) =
    let step : upto (suc n) xs ≤ upto n xs + held_count (suc n) xs = upto_step n xs in
    let before : upto n xs ≤ 17 * n = upto_most xs locks n in
    let one : held_count (suc n) xs ≤ 17 = locks.most (suc n) in
    omega (arith, step, before, one)

-- sixteen clients hold seventeen locks each at the most
room_for_all : (xs : List Lock) → AreLocks xs → length xs ≤ 272
room_for_all xs locks =
    let all : upto 16 xs ≡ length xs = upto_all xs locks.clients in
    let most : upto 16 xs ≤ 17 * 16 = upto_most xs locks 16 in
    omega (arith, all, most)

-- a client that holds fewer than seventeen leaves room for one more
pub room : (xs : List Lock) (x : Lock) → AreLocks xs → IsOpenTo x.client x.object xs → held_count x.client xs < 17 → 1 ≤ x.client → x.client ≤ 16 → length xs < 272
room xs x locks opened few low high =
    let all : length (xs ++ x ∷ []) ≤ 272 = room_for_all (xs ++ x ∷ []) (locks_more xs x locks opened few low high) in
    let one : length (xs ++ x ∷ []) ≡ length xs + 1 = length-append xs (x ∷ []) in
    omega (arith, all, one)

-- a test that a number is not another one, and fails
pub not_other : (m n : ℕ) → not (nat_eq m n) ≡ false → m ≡ n
not_other m n h = eqb-true m n (of (nat_eq m n) h)
  where
    of : (b : Bool) → not b ≡ false → b ≡ true
    of true e = refl
    of false e = absurd (true≢false e)
