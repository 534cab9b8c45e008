use Rattle.std.proofs.Common.{◌≡◌, ◌==◌, ℕ, not, true, None, sym, inl, inr, ◌∙◌, ap, subst, true≢false, eq-eqb}
use Rattle.drives.specs.declared.device.Half.{Half}
use Rattle.pair_store.specs.Faults.{IsUnread}
use Rattle.store_check.specs.Since.{IsUnreadSince}
use Rattle.store_check.proofs.ReadOnly.{read_on, unread_before}
use Rattle.store_check.proofs.reading.Reading.read_into.Goals as goal

pub invariant_of-self : goal.invariant_of-self
invariant_of-self g c =
    let b = g.B.Blocks in
    let e = c.read.ensures in
    let i = c.self.inside in
    read_on b i.began.value i.store c.read.new.self c.self.invariant
    (record { same = e.same; kept = e.kept; kept_always = e.kept_always; images = e.images; rest = e.rest; later = e.later; size_same = e.size })

pub returns-clause-unread : goal.returns-clause-unread
returns-clause-unread g c = λ h is.
    let b = g.B.Blocks in
    let i = c.self.inside in
    subst (λ d. IsUnreadSince b d c.read.new.self h)
    (ap (λ r. r.began) c.self.view_is)
    (unread_before b i.began.value i.store c.read.new.self c.args.n h c.self.invariant (c.read.ensures.unread h is))

-- where a call came after its fault, the block has no content
past_is_empty : (faults after last : Half → ℕ) (moment : ℕ) (E : Type 0) (h : Half) → IsUnread faults after last moment E h → not (last h == moment) ≡ true → E
past_is_empty faults after last moment E h is past =
    elim is.last [
      | inl same ↦ absurd (never same past)
      | inr (at, stood, empty) ↦ empty
    ]
  where
    never : {m n : ℕ} → m ≡ n → not (m == n) ≡ true → ⊥
    never {m} {n} e p = true≢false (sym p ∙ ap (λ b. not b) (eq-eqb m n e))

pub returns-clause-shut : goal.returns-clause-shut
returns-clause-shut g c = λ told settled h is past.
    let b = g.B.Blocks in
    let i = c.self.inside in
    let began : i.began.value ≡ c.args.self.now.began = ap (λ r. r.began) c.self.view_is in
    let before : b.settled i.began.value c.args.n = subst (λ (d : g.row.B.Denot). b.settled d c.args.n) (sym began) settled in
    let empty = past_is_empty (b.faults i.store) (b.faults c.read.new.self) (b.last_fault c.read.new.self) (b.moment c.read.new.self)
    (b.tells → b.settled i.store c.args.n → b.content i.store c.args.n ≡ None) h (c.read.ensures.unread h is) past in
    subst (λ (d : g.row.B.Denot). b.content d c.args.n ≡ None) began
    (sym (c.self.invariant.same told c.args.n) ∙ empty told ((c.self.invariant.kept told c.args.n).1 before))
