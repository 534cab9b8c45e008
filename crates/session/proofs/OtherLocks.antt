-- Who else has a file locked: the first lock on it that is another client's tells.
use Rattle.std.proofs.Common.{◌≡◌, ◌≢◌, ◌⊎◌, inl, inr, ℕ, Bool, true, false, not, cond, ◌&&◌, ◌||◌, List, [], ◌∷◌, Option, Some, None, MatchOption, option_map, refl, sym, ap, ◌∙◌, subst, eq-eqb, eqb-true, true≢false}
use Rattle.std.specs.List.{list_any, find}
use Rattle.super_files.specs.declared.locks.Lock.{Lock}
use Rattle.super_files.specs.Locks.{Holds, IsOpenTo, is_of, is_on}
use Rattle.session.specs.Names.{is_others}

or_told : (a b : Bool) → (a || b) ≡ true → (a ≡ true) ⊎ (b ≡ true)
or_told true b h = inl refl
or_told false b h = inr h

or_left : (a b : Bool) → a ≡ true → (a || b) ≡ true
or_left a b h = ap (λ x. x || b) h

or_right : (a b : Bool) → b ≡ true → (a || b) ≡ true
or_right true b h = refl
or_right false b h = h

both_told : (a b : Bool) → (a && b) ≡ true → (a ≡ true) × (b ≡ true)
both_told true b h = (refl, h)
both_told false b h = absurd (true≢false (sym h))

not_told : (b : Bool) → not b ≡ true → b ≡ false
not_told true h = absurd (true≢false (sym h))
not_told false h = refl

not_both : (a b : Bool) → (a && not b) ≡ false → a ≡ true → b ≡ true
not_both true true h on = refl
not_both true false h on = sym h
not_both false b h on = absurd (true≢false (sym on))

-- what the first lock on an object that is another client's tells
abbrev pub TellsOther : ℕ → ℕ → List Lock → Option ℕ → Type 0
TellsOther client object locks result = MatchOption result (IsOpenTo client object locks) (λ by. (by ≢ client) × Holds by object locks)

-- a lock that is not another client's tells nothing
mine_here : (client object other : ℕ) (x : Lock) → is_others client object x ≡ false → (is_of other x && is_on object x) ≡ true → other ≡ client
mine_here client object other x none here =
    let both = both_told (is_of other x) (is_on object x) here in
    sym (eqb-true x.client other both.0) ∙ eqb-true x.client client (not_both (is_on object x) (is_of client x) none both.1)

tells_later : (client object : ℕ) (x : Lock) (xs : List Lock) (r : Option ℕ) → is_others client object x ≡ false → TellsOther client object xs r
    → TellsOther client object (x ∷ xs) r
tells_later client object x xs None none h =
    λ other held. elim (or_told (is_of other x && is_on object x) (list_any (λ y. is_of other y && is_on object y) xs) held) [
      | inl here ↦ mine_here client object other x none here
      | inr later ↦ h other later
    ]
tells_later client object x xs (Some by) none h =
    (h.0, or_right (is_of by x && is_on object x) (list_any (λ y. is_of by y && is_on object y) xs) h.1)

tells_here : (client object : ℕ) (x : Lock) (xs : List Lock) → is_others client object x ≡ true → TellsOther client object (x ∷ xs) (Some x.client)
tells_here client object x xs is =
    let both = both_told (is_on object x) (not (is_of client x)) is in
    let mine : is_of x.client x ≡ true = eq-eqb x.client x.client refl in (
      λ e. true≢false (sym (eq-eqb x.client client e) ∙ not_told (is_of client x) both.1),
      or_left (is_of x.client x && is_on object x) (list_any (λ y. is_of x.client y && is_on object y) xs) (ap (λ b. b && is_on object x) mine ∙ both.0),
    )

tells_at : (client object : ℕ) (x : Lock) (xs : List Lock) (b : Bool) → is_others client object x ≡ b
    → TellsOther client object xs (option_map (λ lock. lock.client) (find (is_others client object) xs))
    → TellsOther client object (x ∷ xs) (option_map (λ lock. lock.client) (cond b (Some x) (find (is_others client object) xs)))
tells_at client object x xs true is h = tells_here client object x xs is
tells_at client object x xs false none h = tells_later client object x xs (option_map (λ lock. lock.client) (find (is_others client object) xs)) none h

pub other_tells : (client object : ℕ) (xs : List Lock) → TellsOther client object xs (option_map (λ lock. lock.client) (find (is_others client object) xs))
other_tells client object [] = λ other held. absurd (true≢false (sym held))
other_tells client object (x ∷ xs) = tells_at client object x xs (is_others client object x) refl (other_tells client object xs)

pub other_locks : (client object : ℕ) (xs locks : List Lock) (result : Option ℕ) → xs ≡ locks → result ≡ option_map (λ lock. lock.client) (find (is_others client object) xs)
    → TellsOther client object locks result
other_locks client object xs locks result same is =
    subst (λ (ys : List Lock). TellsOther client object ys result) same
    (subst (λ (r : Option ℕ). TellsOther client object xs r) (sym is) (other_tells client object xs))
