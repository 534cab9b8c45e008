-- The numbers of keys: each tells its key, they are ordered as keys are, and those of a branch lie side by side.
use Rattle.std.proofs.Common.{◌≡◌, ◌≢◌, ℕ, zero, suc, ◌+◌, ◌-◌, ◌*◌, ◌^◌, ◌/◌, ◌%◌, ◌<◌, ◌≤◌, true, false, ◌&&◌, nat_eq, nat_lt, List, [], ◌∷◌, ◌++◌, length, ◌↔◌, ◌⊎◌, inl, inr, refl, sym, ap, subst, ◌∙◌, get_or, drop, drop-cons, add-one, eq-eqb, eqb-true, lt-ltb, ltb-true, IsTrue, arith}
use Rattle.std.proofs.Math.Nat.{one-le-pow, pow-suc, mul-le-mul_right, zero-div}
use Rattle.std.proofs.lemmas.Nat.{div-mul-add, mod-mul-add}
use Rattle.std.proofs.lemmas.Bool.{cases_order}
use Rattle.std.proofs.lemmas.List.{append-nil, drop_all}
use Rattle.std.specs.Cmp.{first_so, second_so, nat_cmp_is, ranked}
use Rattle.std.specs.Ordering.{nat_cmp, MatchOrdering, ordering_then}
use Rattle.std.specs.declared.cmp.Ordering.{Ordering}
use Rattle.std.specs.declared.cmp.Ordering.TheVariants.{Less, Equal, Greater}
use Rattle.afs_base.specs.Path.{are_slots, is_prefix, path_cmp}
use Rattle.tree_model.proofs.Paths.{same_test, false_if}
use Rattle.pool_draft.specs.Keys.{Key, key_list, IsKey, digits, room, slot_before, path_in, number_of, key_in, IsNumber}

-- ---- one digit

-- the first digit decides
step_less : (a b B x y : ℕ) → a < b → x < B → a * B + x < b * B + y
step_less a b B x y less below = let m : suc a * B ≤ b * B = mul-le-mul_right B less in omega (arith, m)

-- a number in the room behind another has its first digit
step_same : (a b B x y W : ℕ) → x + W ≤ B → y < B → a * B + x ≤ b * B + y → b * B + y < a * B + x + W → a ≡ b
step_same a b B x y W room below from to = by (cases_order a b)
  where
    by : (a ≡ b) ⊎ ((a < b) ⊎ (b < a)) → a ≡ b
    by (inl e) = e
    by (inr (inl less)) = let m : suc a * B ≤ b * B = mul-le-mul_right B less in absurd (omega (arith, m, room, to))
    by (inr (inr more)) = let m : suc b * B ≤ a * B = mul-le-mul_right B more in absurd (omega (arith, m, below, from))

pub some_power : (n : ℕ) → 0 < 32 ^ n
some_power n = one-le-pow n 32 (omega arith)

slot_first : (s : ℕ) (p : List ℕ) → are_slots (s ∷ p) ≡ true → s < 16
slot_first s p h = ltb-true s 16 (first_so (nat_lt s 16) (are_slots p) h)

slot_rest : (s : ℕ) (p : List ℕ) → are_slots (s ∷ p) ≡ true → are_slots p ≡ true
slot_rest s p h = second_so (nat_lt s 16) (are_slots p) h

-- ---- digits

some_room : (n : ℕ) (p : List ℕ) → 0 < room n p
unfolding room
some_room n [] = some_power n
some_room zero (s ∷ p) = omega arith
some_room (suc n) (s ∷ p) = some_room n p

pub room_is : (n : ℕ) (p : List ℕ) → length p ≤ n → room n p ≡ 32 ^ (n - length p)
unfolding room
room_is n [] short = ap (λ k. 32 ^ k) (omega arith)
room_is zero (s ∷ p) short = absurd (omega (arith, short))
room_is (suc n) (s ∷ p) short = room_is n p (omega (arith, short)) ∙ ap (λ k. 32 ^ k) (omega arith)

-- what is below a path has room behind it
pub digits_room : (n : ℕ) (p : List ℕ) → are_slots p ≡ true → length p ≤ n → digits n p + room n p ≤ 32 ^ n
unfolding digits room
digits_room zero [] slots short = omega arith
digits_room zero (s ∷ p) slots short = absurd (omega (arith, short))
digits_room (suc n) [] slots short = omega arith
digits_room (suc n) (s ∷ p) slots short =
    let rest = digits_room n p (slot_rest s p slots) (omega (arith, short)) in
    let m : suc (suc s) * 32 ^ n ≤ 32 * 32 ^ n = mul-le-mul_right (32 ^ n) (omega (arith, slot_first s p slots)) in
    omega (arith, rest, m)

pub digits_below : (n : ℕ) (p : List ℕ) → are_slots p ≡ true → length p ≤ n → digits n p < 32 ^ n
digits_below n p slots short = omega (arith, digits_room n p slots short, some_room n p)

pub digits_none : (n : ℕ) → digits n [] ≡ 0
unfolding digits
digits_none zero = refl
digits_none (suc n) = refl

path_none : (n : ℕ) → path_in n 0 ≡ []
unfolding path_in slot_before
path_none zero = refl
path_none (suc n) = ap (λ d. slot_before d (path_in n (0 % 32 ^ n))) (zero-div (32 ^ n)) ∙ nothing (path_in n (0 % 32 ^ n))
  where
    nothing : (p : List ℕ) → slot_before 0 p ≡ []
    nothing p = refl

-- digits tell their path
pub path_back : (n : ℕ) (p : List ℕ) → are_slots p ≡ true → length p ≤ n → path_in n (digits n p) ≡ p
unfolding path_in digits slot_before
path_back zero [] slots short = refl
path_back zero (s ∷ p) slots short = absurd (omega (arith, short))
path_back (suc n) [] slots short = path_none (suc n)
path_back (suc n) (s ∷ p) slots short =
    let few : length p ≤ n = omega (arith, short) in
    let below = digits_below n p (slot_rest s p slots) few in
    (λ i. slot_before (div-mul-add (suc s) (32 ^ n) (digits n p) below i) (path_in n (mod-mul-add (suc s) (32 ^ n) (digits n p) below i)))
    ∙ slot_there s (path_in n (digits n p))
    ∙ ap (λ (q : List ℕ). s ∷ q) (path_back n p (slot_rest s p slots) few)
  where
    slot_there : (s : ℕ) (p : List ℕ) → slot_before (suc s) p ≡ s ∷ p
    slot_there s p = refl

path_short : (n c : ℕ) → length (path_in n c) ≤ n
unfolding path_in slot_before
path_short zero c = omega arith
path_short (suc n) c = by (c / 32 ^ n) (path_short n (c % 32 ^ n))
  where
    by : (d : ℕ) → length (path_in n (c % 32 ^ n)) ≤ n → length (slot_before d (path_in n (c % 32 ^ n))) ≤ suc n
    by zero less = omega arith
    by (suc s) less = omega (arith, less)

-- ---- digits and the order of paths

digits_order : (n : ℕ) (p q : List ℕ) → are_slots p ≡ true → are_slots q ≡ true → length p ≤ n → length q ≤ n
    → MatchOrdering (path_cmp p q) (digits n p < digits n q) (digits n p ≡ digits n q) (digits n q < digits n p)
unfolding digits
digits_order n [] [] sp sq lp lq = refl
digits_order zero [] (t ∷ q) sp sq lp lq = absurd (omega (arith, lq))
digits_order (suc n) [] (t ∷ q) sp sq lp lq = omega (arith, some_power n)
digits_order zero (s ∷ p) q sp sq lp lq = absurd (omega (arith, lp))
digits_order (suc n) (s ∷ p) [] sp sq lp lq = omega (arith, some_power n)
digits_order (suc n) (s ∷ p) (t ∷ q) sp sq lp lq =
    by (nat_cmp s t) (ranked s t (nat_cmp s t) refl) (path_cmp p q) (digits_order n p q (slot_rest s p sp) (slot_rest t q sq) (omega (arith, lp)) (omega (arith, lq)))
  where
    below_p : digits n p < 32 ^ n
    below_p = digits_below n p (slot_rest s p sp) (omega (arith, lp))

    below_q : digits n q < 32 ^ n
    below_q = digits_below n q (slot_rest t q sq) (omega (arith, lq))

    by : (r : Ordering) → MatchOrdering r (s < t) (s ≡ t) (t < s) → (o : Ordering)
        → MatchOrdering o (digits n p < digits n q) (digits n p ≡ digits n q) (digits n q < digits n p)
        → MatchOrdering (ordering_then r o) (suc s * 32 ^ n + digits n p < suc t * 32 ^ n + digits n q)
        (suc s * 32 ^ n + digits n p ≡ suc t * 32 ^ n + digits n q) (suc t * 32 ^ n + digits n q < suc s * 32 ^ n + digits n p)
    by Less less o rest = step_less (suc s) (suc t) (32 ^ n) (digits n p) (digits n q) (omega (arith, less)) below_p
    by Greater more o rest = step_less (suc t) (suc s) (32 ^ n) (digits n q) (digits n p) (omega (arith, more)) below_q
    by Equal same Less rest = let m : suc s * 32 ^ n ≡ suc t * 32 ^ n = ap (λ d. suc d * 32 ^ n) same in omega (arith, m, rest)
    by Equal same Equal rest = (λ i. suc (same i) * 32 ^ n + rest i)
    by Equal same Greater rest = let m : suc s * 32 ^ n ≡ suc t * 32 ^ n = ap (λ d. suc d * 32 ^ n) same in omega (arith, m, rest)

-- ---- digits and what is below a path

digits_within : (n : ℕ) (p q : List ℕ) → are_slots p ≡ true → are_slots q ≡ true → length p ≤ n → length q ≤ n → is_prefix p q ≡ true
    → (digits n p ≤ digits n q) × (digits n q < digits n p + room n p)
unfolding digits room
digits_within n [] q sp sq lp lq h = (omega (arith, digits_none n), omega (arith, digits_none n, digits_below n q sq lq))
digits_within n (s ∷ p) [] sp sq lp lq h = absurd (cc h)
digits_within zero (s ∷ p) (t ∷ q) sp sq lp lq h = absurd (omega (arith, lp))
digits_within (suc n) (s ∷ p) (t ∷ q) sp sq lp lq h =
    let same : s ≡ t = eqb-true s t (first_so (nat_eq s t) (is_prefix p q) h) in
    let rest = digits_within n p q (slot_rest s p sp) (slot_rest t q sq) (omega (arith, lp)) (omega (arith, lq)) (second_so (nat_eq s t) (is_prefix p q) h) in
    let m : suc s * 32 ^ n ≡ suc t * 32 ^ n = ap (λ d. suc d * 32 ^ n) same in
    (omega (arith, m, rest.0), omega (arith, m, rest.1))

within_prefix : (n : ℕ) (p q : List ℕ) → are_slots p ≡ true → are_slots q ≡ true → length p ≤ n → length q ≤ n
    → digits n p ≤ digits n q → digits n q < digits n p + room n p → is_prefix p q ≡ true
unfolding digits room
within_prefix n [] q sp sq lp lq from to = refl
within_prefix zero (s ∷ p) q sp sq lp lq from to = absurd (omega (arith, lp))
within_prefix (suc n) (s ∷ p) [] sp sq lp lq from to = absurd (omega (arith, some_power n, from))
within_prefix (suc n) (s ∷ p) (t ∷ q) sp sq lp lq from to =
    let few : length p ≤ n = omega (arith, lp) in
    let same : suc s ≡ suc t = step_same (suc s) (suc t) (32 ^ n) (digits n p) (digits n q) (room n p)
    (digits_room n p (slot_rest s p sp) few) (digits_below n q (slot_rest t q sq) (omega (arith, lq))) from to in
    let m : suc s * 32 ^ n ≡ suc t * 32 ^ n = ap (λ d. d * 32 ^ n) same in
    (λ i. eq-eqb s t (omega (arith, same)) i && within_prefix n p q (slot_rest s p sp) (slot_rest t q sq) few (omega (arith, lq)) (omega (arith, m, from)) (omega (arith, m, to)) i)

-- ---- keys

pub key_back : (k : Key) → IsKey k → key_in (number_of k) ≡ k
unfolding key_in number_of
key_back k good =
    let below = digits_below 7 k.path good.slots good.short in
    λ i. record {
      root = div-mul-add k.root (32 ^ 7) (digits 7 k.path) below i;
      path = (ap (path_in 7) (mod-mul-add k.root (32 ^ 7) (digits 7 k.path) below) ∙ path_back 7 k.path good.slots good.short) i;
    }

pub number_good : (k : Key) → IsKey k → IsNumber (number_of k)
number_good k good = record {
  is = ap number_of (key_back k good);
  key = subst IsKey (sym (key_back k good)) good;
}

keys_order : (a b : Key) → IsKey a → IsKey b
    → MatchOrdering (path_cmp (key_list a) (key_list b)) (number_of a < number_of b) (number_of a ≡ number_of b) (number_of b < number_of a)
unfolding number_of
keys_order a b ga gb =
    by (nat_cmp a.root b.root) (ranked a.root b.root (nat_cmp a.root b.root) refl) (path_cmp a.path b.path) (digits_order 7 a.path b.path ga.slots gb.slots ga.short gb.short)
  where
    by : (r : Ordering) → MatchOrdering r (a.root < b.root) (a.root ≡ b.root) (b.root < a.root) → (o : Ordering)
        → MatchOrdering o (digits 7 a.path < digits 7 b.path) (digits 7 a.path ≡ digits 7 b.path) (digits 7 b.path < digits 7 a.path)
        → MatchOrdering (ordering_then r o) (a.root * 32 ^ 7 + digits 7 a.path < b.root * 32 ^ 7 + digits 7 b.path)
        (a.root * 32 ^ 7 + digits 7 a.path ≡ b.root * 32 ^ 7 + digits 7 b.path) (b.root * 32 ^ 7 + digits 7 b.path < a.root * 32 ^ 7 + digits 7 a.path)
    by Less less o rest = step_less a.root b.root (32 ^ 7) (digits 7 a.path) (digits 7 b.path) less (digits_below 7 a.path ga.slots ga.short)
    by Greater more o rest = step_less b.root a.root (32 ^ 7) (digits 7 b.path) (digits 7 a.path) more (digits_below 7 b.path gb.slots gb.short)
    by Equal same Less rest = omega (arith, same, rest)
    by Equal same Equal rest = (λ i. same i * 32 ^ 7 + rest i)
    by Equal same Greater rest = omega (arith, same, rest)

-- numbers are ordered as their keys
pub numbers_order : (m n : ℕ) → IsNumber m → IsNumber n → nat_cmp m n ≡ path_cmp (key_list (key_in m)) (key_list (key_in n))
numbers_order m n gm gn =
    let o = path_cmp (key_list (key_in m)) (key_list (key_in n)) in
    let F : ℕ → ℕ → Type 0 = λ x y. MatchOrdering o (x < y) (x ≡ y) (y < x) in
    sym (nat_cmp_is m n o (subst (F m) gn.is (subst (λ x. F x (number_of (key_in n))) gm.is (keys_order (key_in m) (key_in n) gm.key gn.key))))

keys_within : (a b : Key) → IsKey a → IsKey b → is_prefix (key_list a) (key_list b) ≡ true
    → (number_of a ≤ number_of b) × (number_of b < number_of a + room 7 a.path)
unfolding number_of
keys_within a b ga gb h =
    let same : a.root ≡ b.root = eqb-true a.root b.root (first_so (nat_eq a.root b.root) (is_prefix a.path b.path) h) in
    let rest = digits_within 7 a.path b.path ga.slots gb.slots ga.short gb.short (second_so (nat_eq a.root b.root) (is_prefix a.path b.path) h) in
    (omega (arith, same, rest.0), omega (arith, same, rest.1))

within_keys : (a b : Key) → IsKey a → IsKey b → number_of a ≤ number_of b → number_of b < number_of a + room 7 a.path
    → is_prefix (key_list a) (key_list b) ≡ true
unfolding number_of
within_keys a b ga gb from to =
    let same : a.root ≡ b.root = step_same a.root b.root (32 ^ 7) (digits 7 a.path) (digits 7 b.path) (room 7 a.path)
    (digits_room 7 a.path ga.slots ga.short) (digits_below 7 b.path gb.slots gb.short) from to in
    (λ i. eq-eqb a.root b.root same i && within_prefix 7 a.path b.path ga.slots gb.slots ga.short gb.short (omega (arith, same, from)) (omega (arith, same, to)) i)

-- ---- what a number tells

pub root_fits : (c : ℕ) → IsNumber c → c / 32 ^ 7 < 256
unfolding key_in
root_fits c good = good.key.root

pub root_told : (c : ℕ) → c / 32 ^ 7 ≡ (key_in c).root
unfolding key_in
root_told c = refl

pub top_told : (c : ℕ) → IsNumber c → IsTrue (nat_eq (c % 32 ^ 7) 0) ↔ ((key_in c).path ≡ [])
unfolding key_in number_of
top_told c good = (
  λ e. ap (path_in 7) (eqb-true (c % 32 ^ 7) 0 e) ∙ path_none 7,
  λ e. eq-eqb (c % 32 ^ 7) 0 (omega (arith, good.is, ap (digits 7) e, digits_none 7)),
)

-- a branch has the numbers that lie in its room
pub has_told : (a b w : ℕ) → IsNumber a → IsNumber b → w ≡ room 7 (key_in a).path → a ≤ b
    → nat_lt (b - a) w ≡ is_prefix (key_list (key_in a)) (key_list (key_in b))
has_told a b w ga gb wide le =
    same_test (nat_lt (b - a) w) (is_prefix (key_list (key_in a)) (key_list (key_in b)))
    (λ less. within_keys (key_in a) (key_in b) ga.key gb.key (omega (arith, ga.is, gb.is, le)) (omega (arith, ga.is, gb.is, ltb-true (b - a) w less, wide)))
    (λ h. let in_room = keys_within (key_in a) (key_in b) ga.key gb.key h in lt-ltb (b - a) w (omega (arith, ga.is, gb.is, in_room.1, wide, le)))

-- and none before its first
pub has_none : (a b : ℕ) → IsNumber a → IsNumber b → b < a → false ≡ is_prefix (key_list (key_in a)) (key_list (key_in b))
has_none a b ga gb less =
    sym (false_if (is_prefix (key_list (key_in a)) (key_list (key_in b)))
    (λ h. absurd (omega (arith, ga.is, gb.is, less, (keys_within (key_in a) (key_in b) ga.key gb.key h).0))))

-- ---- digit by digit

pub next_power : (i w : ℕ) → i < 7 → w ≡ 32 ^ (7 - i) → w / 32 ≡ 32 ^ (7 - (i + 1))
next_power i w less is =
    let e : 32 ^ (7 - i) ≡ 32 ^ suc (7 - (i + 1)) = ap (λ k. 32 ^ k) (omega (arith, less)) in
    let m : 32 ^ suc (7 - (i + 1)) ≡ 32 ^ (7 - (i + 1)) * 32 = pow-suc 32 (7 - (i + 1)) in
    omega (arith, is, e, m)

-- the slots lie in a list that is the path, and the digit is one more than the slot
pub next_number : (i first w total n s : ℕ) (slots p : List ℕ) → slots ≡ p → i < length slots → length p ≤ 7 → n ≡ s → s ≡ get_or slots i s
    → w ≡ 32 ^ (7 - i) → first + digits (7 - i) (drop i p) ≡ total → (first + (n + 1) * (w / 32)) + digits (7 - (i + 1)) (drop (i + 1) p) ≡ total
unfolding digits
next_number i first w total n s slots p are within short is at wide so_far =
    let m = 7 - (i + 1) in
    let q = drop (i + 1) p in
    let long : i < length p = omega (arith, within, ap length are) in
    let e : 7 - i ≡ suc m = omega (arith, long, short) in
    let there : get_or p i s ≡ s = ap (λ (xs : List ℕ). get_or xs i s) (sym are) ∙ sym at in
    let more : drop i p ≡ s ∷ q = drop-cons p i s long ∙ (λ j. there j ∷ drop (sym (add-one i) j) p) in
    let here : digits (7 - i) (drop i p) ≡ suc s * 32 ^ m + digits m q = (λ j. digits (e j) (more j)) in
    let digit : (n + 1) * (w / 32) ≡ suc s * 32 ^ m = (λ j. add-one (is j) j * next_power i w (omega (arith, long, short)) wide j) in
    omega (arith, so_far, here, digit)

-- one more slot of a path, and none
path_step : (i w rest : ℕ) → i < 7 → w ≡ 32 ^ (7 - i) → path_in (7 - i) rest ≡ slot_before (rest / (w / 32)) (path_in (7 - (i + 1)) (rest % (w / 32)))
unfolding path_in
path_step i w rest less wide =
    let n = 7 - (i + 1) in
    let e : 7 - i ≡ suc n = omega (arith, less) in
    ap (λ k. path_in k rest) e ∙ sym (λ j. slot_before (rest / next_power i w less wide j) (path_in n (rest % next_power i w less wide j)))

pub path_ends : (i w rest : ℕ) (path whole : List ℕ) → i < 7 → w ≡ 32 ^ (7 - i) → path ++ path_in (7 - i) rest ≡ whole → rest / (w / 32) ≡ 0 → path ≡ whole
unfolding slot_before
path_ends i w rest path whole less wide so_far none =
    sym (append-nil path)
    ∙ ap (λ (q : List ℕ). path ++ q) (sym (path_step i w rest less wide ∙ ap (λ d. slot_before d (path_in (7 - (i + 1)) (rest % (w / 32)))) none))
    ∙ so_far

pub path_goes_on : (i w rest : ℕ) (path whole : List ℕ) → i < 7 → w ≡ 32 ^ (7 - i) → path ++ path_in (7 - i) rest ≡ whole → rest / (w / 32) ≢ 0
    → path ++ (rest / (w / 32) - 1) ∷ path_in (7 - (i + 1)) (rest % (w / 32)) ≡ whole
unfolding slot_before
path_goes_on i w rest path whole less wide so_far some =
    let d : rest / (w / 32) ≡ suc (rest / (w / 32) - 1) = omega (arith, some) in
    ap (λ (q : List ℕ). path ++ q) (sym (path_step i w rest less wide ∙ ap (λ d. slot_before d (path_in (7 - (i + 1)) (rest % (w / 32)))) d)) ∙ so_far

pub path_full : (i rest : ℕ) (path whole : List ℕ) → 7 ≤ i → path ++ path_in (7 - i) rest ≡ whole → path ≡ whole
unfolding path_in
path_full i rest path whole past so_far =
    let none : 7 - i ≡ 0 = omega (arith, past) in
    sym (append-nil path) ∙ ap (λ k. path ++ path_in k rest) (sym none) ∙ so_far

pub path_told : (c : ℕ) → path_in 7 (c % 32 ^ 7) ≡ (key_in c).path
unfolding key_in
path_told c = refl

-- a slot within a path of slots
pub slot_within : (path rest : List ℕ) (s : ℕ) → are_slots (path ++ s ∷ rest) ≡ true → s < 16
slot_within [] rest s h = slot_first s rest h
slot_within (t ∷ path) rest s h = slot_within path rest s (slot_rest t (path ++ s ∷ rest) h)

-- ---- the number of a key, slot by slot

pub number_start : (n root : ℕ) (p : List ℕ) → n ≡ root → n * 32 ^ 7 + digits 7 p ≡ number_of (record { root = root; path = p })
unfolding number_of
number_start n root p is = ap (λ m. m * 32 ^ 7 + digits 7 p) is

pub number_fits : (k : Key) → IsKey k → number_of k < 2 ^ 43
unfolding number_of
number_fits k good = omega (arith, good.root, digits_below 7 k.path good.slots good.short)

-- where no slot is left the number is whole, and the width is the room of the path
pub number_whole : (i first w : ℕ) (k : Key) → IsKey k → i ≡ length k.path → w ≡ 32 ^ (7 - i) → first + digits (7 - i) (drop i k.path) ≡ number_of k
    → (number_of k ≡ first) × (w ≡ room 7 k.path)
number_whole i first w k good past wide so_far =
    let none : digits (7 - i) (drop i k.path) ≡ 0 = ap (digits (7 - i)) (drop_all i k.path (omega (arith, past))) ∙ digits_none (7 - i) in
    (omega (arith, so_far, none), wide ∙ ap (λ n. 32 ^ (7 - n)) past ∙ sym (room_is 7 k.path good.short))

pub branch_good : (first w : ℕ) (k : Key) → IsKey k → (number_of k ≡ first) × (w ≡ room 7 k.path) → IsNumber first × (w ≡ room 7 (key_in first).path)
branch_good first w k good is =
    let F : ℕ → Type 0 = λ n. IsNumber n × (w ≡ room 7 (key_in n).path) in
    subst F is.0 (number_good k good, is.1 ∙ ap (λ (x : Key). room 7 x.path) (sym (key_back k good)))

pub branch_shown : (first : ℕ) (k : Key) → IsKey k → number_of k ≡ first → key_in first ≡ k
branch_shown first k good is = ap key_in (sym is) ∙ key_back k good
