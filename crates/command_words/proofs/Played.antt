-- A call `play` has the clients that its words name, and no other call has such words.
use Rattle.std.proofs.Common.{◌≡◌, ℕ, ◌≤◌, List, [], ◌∷◌, Option, None, Some, Result, Ok, Err, OnErr, MatchOption, codes, String, Global, refl, sym, ap, subst, ◌∙◌, length, get_or, drop, take, ◌-◌, take_all, arith}
use Rattle.std.specs.Prelude.{string_bytes}
use Rattle.std.specs.List.{All, AllZip}
use Rattle.std.proofs.lemmas.List.Elements.{All-cons, All-head, All-nil, All-tail}
use Rattle.script_text.specs.Says.{IsNumber}
use Rattle.script_text.proofs.NumberWords.{same_number}
use Rattle.command_words.specs.Orders.{AreClients, IsOrder}
use Rattle.command_words.specs.Words.{AreWords, IsCall, bytes_of}
use Rattle.command_words.specs.declared.call.Call.{Call}
use Rattle.command_words.specs.declared.call.Call.TheVariants.{Format, Play, Show, Check, Cap}

abbrev Within : ℕ → ℕ → Type 0
Within scripts client = (1 ≤ client) × (client ≤ scripts)

numbers : (scripts : ℕ) (words : List (List ℕ)) (clients : List ℕ)
    → AreClients scripts words clients → AllZip IsNumber words clients
numbers scripts [] [] are = tt
numbers scripts [] (k ∷ ks) are = absurd are
numbers scripts (w ∷ ws) [] are = absurd are
numbers scripts (w ∷ ws) (k ∷ ks) are = (are.0.number, numbers scripts ws ks are.1)

ranges : (scripts : ℕ) (words : List (List ℕ)) (clients : List ℕ)
    → AreClients scripts words clients → All (Within scripts) clients
ranges scripts [] [] are = All-nil (Within scripts)
ranges scripts [] (k ∷ ks) are = absurd are
ranges scripts (w ∷ ws) [] are = absurd are
ranges scripts (w ∷ ws) (k ∷ ks) are =
    All-cons (Within scripts) k ks (are.0.least, are.0.most) (ranges scripts ws ks are.1)

clients : (scripts : ℕ) (words : List (List ℕ)) (clients : List ℕ) → AllZip IsNumber words clients
    → All (Within scripts) clients → AreClients scripts words clients
clients scripts [] [] are all = tt
clients scripts [] (k ∷ ks) are all = absurd are
clients scripts (w ∷ ws) [] are all = absurd are
clients scripts (w ∷ ws) (k ∷ ks) are all =
    let one = All-head (Within scripts) k ks all in (
      record { number = are.0; least = one.0; most = one.1 },
      clients scripts ws ks are.1 (All-tail (Within scripts) k ks all),
    )

-- words name one list of clients at most
same_clients : (scripts : ℕ) (words : List (List ℕ)) (a b : List ℕ) → scripts ≤ 16
    → AreClients scripts words a → AreClients scripts words b → a ≡ b
same_clients scripts [] [] [] few one other = refl
same_clients scripts [] [] (k ∷ ks) few one other = absurd other
same_clients scripts [] (k ∷ ks) b few one other = absurd one
same_clients scripts (w ∷ ws) [] b few one other = absurd one
same_clients scripts (w ∷ ws) (k ∷ ks) [] few one other = absurd other
same_clients scripts (w ∷ ws) (k ∷ ks) (n ∷ ns) few one other =
    let mine = one.0.most in
    let theirs = other.0.most in
    let first : k ≡ n
    = same_number w k n (omega arith) (omega arith) one.0.number other.0.number in
    let rest : ks ≡ ns = same_clients scripts ws ks ns few one.1 other.1 in
    cc

-- the clients that the words after `play` name make the call
pub order_call : (words : List (String Global)) (scripts blocks : ℕ) (others : List (List ℕ))
    (order : List ℕ) → bytes_of words ≡ codes "play" ∷ others
    → IsOrder scripts others order → IsCall words scripts blocks (Play order)
order_call words scripts blocks others order form is = record {
  named = (others, form, numbers scripts others order is.named);
  counted = (is.some, is.most);
  within = ranges scripts others order is.named;
}

-- the first letter of words the first of which is `play`
letter : (words others rest : List (List ℕ)) (word : List ℕ) → words ≡ codes "play" ∷ others
    → words ≡ word ∷ rest → get_or word 0 0 ≡ 112
letter words others rest word form is = ap (λ ws. get_or (get_or ws 0 []) 0 0) (sym is ∙ form)

-- a call whose first word is `play` has clients that the words after it name
pub call_order : (words : List (String Global)) (scripts blocks : ℕ) (others : List (List ℕ))
    (call : Call) → bytes_of words ≡ codes "play" ∷ others → IsCall words scripts blocks call
    → (order : List ℕ) × IsOrder scripts others order × (call ≡ Play order)
call_order words scripts blocks others (Format store) form is =
    let words_are = is.named in
    let rest = words_are.0 ∷ words_are.1 ∷ words_are.2 ∷ [] in
    absurd (omega (arith, letter (bytes_of words) others rest (codes "format") form words_are.3))
call_order words scripts blocks others (Play order) form is = of is.named
  where
    of : AreWords (Play order) (bytes_of words)
        → (found : List ℕ) × IsOrder scripts others found × (Play order ≡ Play found)
    of (ws, f, n) =
        let same : ws ≡ others = ap (drop 1) (sym f ∙ form) in (
          order,
          record {
            some = is.counted.0;
            most = is.counted.1;
            named = subst (λ v. AreClients scripts v order) same
                (clients scripts ws order n is.within);
          },
          refl,
        )
call_order words scripts blocks others Show form is =
    absurd (omega (arith, letter (bytes_of words) others [] (codes "show") form is.named))
call_order words scripts blocks others Check form is =
    absurd (omega (arith, letter (bytes_of words) others [] (codes "check") form is.named))
call_order words scripts blocks others (Cap object rights) form is =
    let words_are = is.named in
    let rest = words_are.0 ∷ words_are.1 ∷ [] in
    absurd (omega (arith, letter (bytes_of words) others rest (codes "cap") form words_are.2))

-- so it is the call of those clients
pub only_order : (words : List (String Global)) (scripts blocks : ℕ) (others : List (List ℕ))
    (order : List ℕ) (call : Call) → bytes_of words ≡ codes "play" ∷ others
    → IsOrder scripts others order → IsCall words scripts blocks call
    → (let made : Option Call = Some (Play order) in made) ≡ Some call
only_order words scripts blocks others order call form is called =
    let other = call_order words scripts blocks others call form called in
    let same = same_clients scripts others order other.0 is.most is.named other.1.named in
    ap (λ o. Some (Play o)) same ∙ ap (λ c. Some c) (sym other.2)

-- the words after the first
abbrev pub words_after : List (String Global) → List (List ℕ)
words_after words = bytes_of (take (length words - 1) (drop 1 words))

-- the bytes of a first word and of the words after it
pub first_word : (words : List (String Global)) (w : String Global) (bytes : List ℕ)
    → 1 ≤ length words → w ≡ get_or words 0 w → bytes ≡ string_bytes w → bytes ≡ codes "play"
    → bytes_of words ≡ codes "play" ∷ words_after words
first_word [] w bytes some first value is = absurd (omega (arith, some))
first_word (x ∷ xs) w bytes some first value is =
    let all : take (length (x ∷ xs) - 1) xs ≡ xs
    = take_all (length (x ∷ xs) - 1) xs (omega arith) in
    let text : string_bytes x ≡ codes "play"
    = ap (λ (v : String Global). string_bytes v) (sym first) ∙ sym value ∙ is in
    ap (λ (ws : List (String Global)). string_bytes x ∷ bytes_of ws) (sym all)
    ∙ ap (λ b. b ∷ words_after (x ∷ xs)) text

-- what was found of the words after the first: the clients that they name, or that they name none
abbrev pub AsNamed : ℕ → List (String Global) → Option (List ℕ) → Type 0
AsNamed scripts words found =
    MatchOption found ((clients : List ℕ) → IsOrder scripts (words_after words) clients → ⊥)
    (IsOrder scripts (words_after words))

-- where clients are found, words after `play` make a call of these alone
pub found_call : (words : List (String Global)) (scripts blocks : ℕ) (found : Option (List ℕ))
    (order : List ℕ) → bytes_of words ≡ codes "play" ∷ words_after words
    → AsNamed scripts words found → found ≡ Some order → IsCall words scripts blocks (Play order)
found_call words scripts blocks found order first named is =
    order_call words scripts blocks (words_after words) order first
    (subst (AsNamed scripts words) is named)

pub found_only : (words : List (String Global)) (scripts blocks : ℕ) (found : Option (List ℕ))
    (order : List ℕ) (call : Call) → bytes_of words ≡ codes "play" ∷ words_after words
    → AsNamed scripts words found → found ≡ Some order → IsCall words scripts blocks call
    → (let made : Option Call = Some (Play order) in made) ≡ Some call
found_only words scripts blocks found order call first named is called =
    only_order words scripts blocks (words_after words) order call first
    (subst (AsNamed scripts words) is named) called

-- where none are found, words after `play` make no call
pub found_none : (words : List (String Global)) (scripts blocks : ℕ) (found : Option (List ℕ))
    (call : Call) → bytes_of words ≡ codes "play" ∷ words_after words → AsNamed scripts words found
    → found ≡ None → IsCall words scripts blocks call → ⊥
found_none words scripts blocks found call first named is called =
    let order = call_order words scripts blocks (words_after words) call first called in
    let none : (clients : List ℕ) → IsOrder scripts (words_after words) clients → ⊥
    = subst (AsNamed scripts words) is named in
    none order.0 order.1

-- a fact is one of an `Err`
pub of_err : {T E : Type 0} (r : Result T E) (P : Type 0) → P → OnErr r P
of_err (Ok x) P h = tt
of_err (Err e) P h = h
