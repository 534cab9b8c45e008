-- Orders one after another.
use Rattle.std.proofs.Common.{◌≡◌, inl, inr, Bool, true, false, List, [], ◌∷◌, ◌++◌, refl, sym, subst}
use Rattle.std.specs.Prelude.{if◌then◌else◌}
use Rattle.service_model.specs.Entries.{after_entry, is_answer}
use Rattle.service_model.specs.Order.{IsInOrder, Turn}
use Rattle.play_order.specs.OrderLaws.{OrderAppends}

left_append : (x : Bool) (turn : Turn) (order more : List Turn)
    → (if x then order else turn ∷ order) ++ more ≡ (if x then order ++ more else turn ∷ (order ++ more))
left_append true turn order more = refl
left_append false turn order more = refl

pub order_appends : OrderAppends
order_appends scripts s order more [] fs one two =
    let F : List Turn → Type 0 = λ l. IsInOrder scripts s (l ++ more) fs in
    subst F (sym one) two
order_appends scripts s [] [] (e ∷ es) fs one two = (one.0, order_appends scripts (after_entry scripts s e) [] [] es fs one.1 two)
order_appends scripts s [] (turn ∷ more) (e ∷ es) fs one two =
    inr (one.0, order_appends scripts (after_entry scripts s e) [] (turn ∷ more) es fs one.1 two)
order_appends scripts s (turn ∷ order) more (e ∷ es) fs one two =
    let F : List Turn → Type 0 = λ l. IsInOrder scripts (after_entry scripts s e) l (es ++ fs) in
    elim one [
      | inl a ↦ inl (
        a.0,
        subst F (left_append (is_answer e.what) turn order more)
            (order_appends scripts (after_entry scripts s e) (if is_answer e.what then order else turn ∷ order) more es fs a.1 two),
      )
      | inr z ↦ inr (z.0, order_appends scripts (after_entry scripts s e) (turn ∷ order) more es fs z.1 two)
    ]
