-- What a crash may leave of a run, turn by turn.
use Rattle.std.proofs.Common.{◌≡◌, ◌⊎◌, inl, inr, ℕ, ◌+◌, ◌≤◌, ◌<◌, Bool, true, false, cond, ◌&&◌, ◌||◌, nat_eq, nat_le, nat_lt, List, [], ◌∷◌, ◌++◌, Option, Some, None, Result, Ok, refl, sym, ap, ◌∙◌, subst, arith, append-nil, append_assoc}
use Rattle.std.specs.Prelude.{count_by, is_some}
use Rattle.std.specs.List.{list_any, list_all}
use Rattle.std.specs.Option.{option_map_or}
use Rattle.std.proofs.lemmas.Bool.Decides.{nat_tests}
use Rattle.std.proofs.lemmas.List.Sums.{sum_by-cons, sum_by-append}
use Rattle.service_model.specs.declared.journal.Entry.{Entry}
use Rattle.service_model.specs.declared.journal.Journal.{Journal}
use Rattle.service_model.specs.Entries.{serial_state}
use Rattle.service_model.specs.Legal.{moment_of}
use Rattle.service_model.specs.Standing.{Scripts}
use Rattle.store_model.specs.Walk.{Refused}
use Rattle.tree_model.specs.States.{State}
use Rattle.ground_model.specs.Fronts.{Images, is_change, is_told, is_pending, is_by, is_at, IsFront, AllFronts, AllRecovered, TurnLeaves, TurnStops, AreOfTurn, Turns, last_of, entries_of, AreTurns}

-- ---- entries

both : (a b : Bool) → (a && b) ≡ true → (a ≡ true) × (b ≡ true)
both true b h = (refl, h)
both false b h = absurd cc

neither : (a b : Bool) → a ≡ false → b ≡ false → (a || b) ≡ false
neither a b e f = ap (λ x. x || b) e ∙ f

told_at : (t n : ℕ) (o : Option ℕ) → t < n → option_map_or (λ at. nat_eq at n) o true ≡ true → option_map_or (λ at. nat_le at t) o false ≡ false
told_at t n None low h = refl
told_at t n (Some at) low h = grind (arith, nat_tests)

-- what is noted at a later moment was not acknowledged
none_told : (t n : ℕ) (es : List Entry) → t < n → list_all (is_at n) es ≡ true → list_any (is_told t) es ≡ false
none_told t n [] low h = refl
none_told t n (e ∷ es) low h =
    let all = both (is_at n e) (list_all (is_at n) es) h in
    neither _ _ (told_at t n (moment_of e.what) low all.0) (none_told t n es low all.1)

pending_by : (t n : ℕ) (o : Option ℕ) → n ≤ t → option_map_or (λ at. nat_le at n) o true ≡ true → option_map_or (λ at. nat_lt t at) o false ≡ false
pending_by t n None low h = refl
pending_by t n (Some at) low h = grind (arith, nat_tests)

-- how many of a list with one more at its head
count_cons : (p : Entry → Bool) (e : Entry) (es : List Entry) → count_by p (e ∷ es) ≡ cond (p e) 1 0 + count_by p es
count_cons p e es = sum_by-cons (λ x. cond (p x) 1 0) e es

count_append : (p : Entry → Bool) (es fs : List Entry) → count_by p (es ++ fs) ≡ count_by p es + count_by p fs
count_append p es fs = sum_by-append (λ x. cond (p x) 1 0) es fs

-- what was acknowledged by an earlier moment is not pending
none_pending : (t n : ℕ) (es : List Entry) → n ≤ t → list_all (is_by n) es ≡ true → count_by (is_pending t) es ≡ 0
none_pending t n [] low h = refl
none_pending t n (e ∷ es) low h =
    let all = both (is_by n e) (list_all (is_by n) es) h in
    let a = count_cons (is_pending t) e es ∙ ap (λ b. cond b 1 0 + count_by (is_pending t) es) (pending_by t n (moment_of e.what) low all.0) in
    let b = none_pending t n es low all.1 in
    omega (arith, a, b)

pending_change : (t : ℕ) (o : Option ℕ) → cond (option_map_or (λ at. nat_lt t at) o false) 1 0 ≤ cond (is_some o) 1 0
pending_change t None = omega arith
pending_change t (Some at) = by (nat_lt t at)
  where
    by : (b : Bool) → cond b 1 0 ≤ 1
    by true = omega arith
    by false = omega arith

-- no more are pending than change the state
pending_most : (t : ℕ) (es : List Entry) → count_by (is_pending t) es ≤ count_by is_change es
pending_most t [] = omega arith
pending_most t (e ∷ es) =
    let a = count_cons (is_pending t) e es in
    let b = count_cons is_change e es in
    let c = pending_change t (moment_of e.what) in
    let d = pending_most t es in
    omega (arith, a, b, c, d)

any_append : (p : Entry → Bool) (es fs : List Entry) → list_any p es ≡ false → list_any p fs ≡ false → list_any p (es ++ fs) ≡ false
any_append p [] fs a b = b
any_append p (e ∷ es) fs a b = by (p e) a (λ h. any_append p es fs h b)
  where
    by : (c : Bool) → (c || list_any p es) ≡ false → (list_any p es ≡ false → list_any p (es ++ fs) ≡ false) → (c || list_any p (es ++ fs)) ≡ false
    by true h rest = h
    by false h rest = rest h

at_by : (n : ℕ) (o : Option ℕ) → option_map_or (λ at. nat_eq at n) o true ≡ true → option_map_or (λ at. nat_le at n) o true ≡ true
at_by n None h = refl
at_by n (Some at) h = grind (arith, nat_tests)

by_later : (m n : ℕ) (o : Option ℕ) → m ≤ n → option_map_or (λ at. nat_le at m) o true ≡ true → option_map_or (λ at. nat_le at n) o true ≡ true
by_later m n None low h = refl
by_later m n (Some at) low h = grind (arith, nat_tests)

pub all_by : (m n : ℕ) (es fs : List Entry) → m ≤ n → list_all (is_by m) es ≡ true → list_all (is_at n) fs ≡ true → list_all (is_by n) (es ++ fs) ≡ true
all_by m n [] [] low h g = refl
all_by m n [] (f ∷ fs) low h g =
    let all = both (is_at n f) (list_all (is_at n) fs) g in
    ap (λ b. b && list_all (is_by n) fs) (at_by n (moment_of f.what) all.0) ∙ all_by m n [] fs low refl all.1
all_by m n (e ∷ es) fs low h g =
    let all = both (is_by m e) (list_all (is_by m) es) h in
    ap (λ b. b && list_all (is_by n) (es ++ fs)) (by_later m n (moment_of e.what) low all.0) ∙ all_by m n es fs low all.1 g

-- ---- turns

before_or_not : (i n : ℕ) → (i < n) ⊎ (n ≤ i)
before_or_not i n = grind arith

module _ (opening : State) (scripts : Scripts) where
  state_after : List Entry → State
  state_after es = serial_state opening scripts es

  -- at a moment by which all these entries were acknowledged, what holds the state after a turn's entries has at most one that was not
  front_all : (t n : ℕ) (es fs : List Entry) (outcome : Result State Refused) → n ≤ t → list_all (is_by n) es ≡ true → count_by is_change fs ≤ 1
      → outcome ≡ Ok (serial_state opening scripts (es ++ fs)) → IsFront opening scripts (es ++ fs) t outcome
  front_all t n es fs outcome low old few is = record {
    front = es ++ fs;
    rest = [];
    whole = append-nil (es ++ fs);
    state = is;
    acknowledged = refl;
    one =
        let a = count_append (is_pending t) es fs in
        let b = none_pending t n es low old in
        let c = pending_most t fs in
        omega (arith, a, b, c, few);
  }

  -- .. and what holds the state before them, where none of them was acknowledged
  front_old : (t n m : ℕ) (es fs : List Entry) (outcome : Result State Refused) → n ≤ t → t < m → list_all (is_by n) es ≡ true → list_all (is_at m) fs ≡ true
      → outcome ≡ Ok (serial_state opening scripts es) → IsFront opening scripts (es ++ fs) t outcome
  front_old t n m es fs outcome low high old own is = record {
    front = es;
    rest = fs;
    whole = refl;
    state = is;
    acknowledged = none_told t m fs high own;
    one = let b = none_pending t n es low old in omega (arith, b);
  }

  -- a front of what was there before is a front of what is there now
  front_more : (t m : ℕ) (es fs : List Entry) (outcome : Result State Refused) → t < m → list_all (is_at m) fs ≡ true
      → IsFront opening scripts es t outcome → IsFront opening scripts (es ++ fs) t outcome
  front_more t m es fs outcome high own f = record {
    front = f.front;
    rest = f.rest ++ fs;
    whole = sym (append_assoc f.front f.rest fs) ∙ ap (λ l. l ++ fs) f.whole;
    state = f.state;
    acknowledged = any_append (is_told t) f.rest fs f.acknowledged (none_told t m fs high own);
    one = f.one;
  }

  module _ {D X : Type 0} (i : Images D X) (first : ℕ) where
    -- one more turn
    pub turn_recovers : (old new : D) (es fs : List Entry)
        → AllFronts i opening scripts first old es → list_all (is_by (i.moment old)) es ≡ true
        → TurnLeaves i old new (serial_state opening scripts es) (serial_state opening scripts (es ++ fs)) → AreOfTurn (i.moment new) fs
        → AllFronts i opening scripts first new (es ++ fs)
    turn_recovers old new es fs all by leaves own t x low high is =
        elim (before_or_not t (i.moment old)) [
          | inl early ↦ front_more t (i.moment new) es fs (i.outcome x) (let l = leaves.later in omega (arith, early, l)) own.moments (all t x low (omega (arith, early)) (leaves.past t x early is))
          | inr since ↦ elim (before_or_not t (i.moment new)) [
            | inl within ↦ elim (leaves.within t x since within is) [
              | inl before ↦ front_old t (i.moment old) (i.moment new) es fs (i.outcome x) since within by own.moments before
              | inr after ↦ front_all t (i.moment old) es fs (i.outcome x) since by own.one after
            ]
            | inr end ↦
                let here : t ≡ i.moment new = omega (arith, high, end) in
                front_all t (i.moment old) es fs (i.outcome x) since by own.one (leaves.last x (subst (λ (m : ℕ). i.may_leave new m x) here is))
          ]
        ]

    -- any number of turns: whatever a crash at any moment leaves holds the state after a front of the journal that has each entry that
    -- was acknowledged by then, and at most one more that changes the state
    pub turns_recover : (d : D) (es : List Entry) (turns : Turns D)
        → AllFronts i opening scripts first d es → list_all (is_by (i.moment d)) es ≡ true
        → AreTurns i opening scripts d es turns
        → AllFronts i opening scripts first (last_of d turns) (entries_of es turns)
    turns_recover d es [] all by h = all
    turns_recover d es (turn ∷ turns) all by h =
        turns_recover turn.0 (es ++ turn.1) turns
        (turn_recovers d turn.0 es turn.1 all by h.0 h.1)
        (all_by (i.moment d) (i.moment turn.0) es turn.1 h.0.later by h.1.moments)
        h.2

    -- a turn that a fault stopped: the entry that it would have made is in doubt
    pub stop_recovers : (old new : D) (journal : Journal) (entry : Entry)
        → AllFronts i opening scripts first old journal.entries.items → list_all (is_by (i.moment old)) journal.entries.items ≡ true
        → journal.doubt ≡ Some entry
        → TurnStops i old new (serial_state opening scripts journal.entries.items) (serial_state opening scripts (journal.entries.items ++ entry ∷ []))
        → AllRecovered i opening scripts first new journal
    stop_recovers old new journal entry all by doubt stops t x low high is =
        let es = journal.entries.items in
        elim (before_or_not t (i.moment old)) [
          | inl early ↦ inl (all t x low (omega (arith, early)) (stops.past t x early is))
          | inr since ↦ elim (stops.within t x since high is) [
            | inl before ↦
                let one = none_pending t (i.moment old) es since by in
                inl (record { front = es; rest = []; whole = append-nil es; state = before; acknowledged = refl; one = omega (arith, one) })
            | inr after ↦ inr (record { entry = entry; doubt = doubt; state = after; others = none_pending t (i.moment old) es since by })
          ]
        ]
