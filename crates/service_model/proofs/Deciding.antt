-- A commit whose blocks may be held, where this is due, may not be refused.
use Rattle.std.proofs.Common.{◌≡◌, ℕ, ◌-◌, ◌^◌, ◌<◌, true, false, List, [], ◌∷◌, Some, None, All, sym, ◌∙◌, subst, arith}
use Rattle.std.proofs.lemmas.List.Elements.{All-contains, All-head}
use Rattle.service_model.specs.declared.journal.Refusal.{Refusal}
use Rattle.service_model.specs.declared.journal.Refusal.TheVariants.{Conflict, Locked, NoSpace, Worn}
use Rattle.service_model.specs.Legal.{AreUnworn, IsHoldable, IsLater, IsRefusable, IsUnclashed, IsUnopposed, IsUnreadOf}
use Rattle.service_model.specs.Standing.{Standing, Update, Work, Made, locked_by, renewed_works, serial_of}
use Rattle.service_model.proofs.Members.{from_place}

abbrev IsFree : Standing → ℕ → Work → Type 0
IsFree s k w = (locked_by s k w.object ≡ None) × IsUnclashed s.made w

-- nothing stands against the one file of an update
free_of : (s : Standing) (k : ℕ) (u : Update) (w : Work) → IsUnopposed s k u → u.is_super ≡ false → u.works ≡ w ∷ [] → IsFree s k w
free_of s k u w clear plain only =
    let F : List Work → Type 0 = λ ws. All (IsFree s k) ws in
    All-head (IsFree s k) w [] (subst F only (clear plain))

pub held_not_refused : (s : Standing) (k blocks : ℕ) (u : Update) (why : Refusal) → IsHoldable s k u blocks → IsUnopposed s k u → AreUnworn s.state u
    → IsRefusable s k u why → ⊥
held_not_refused s k blocks u (Conflict serial path kind) may clear unworn h =
    let own = free_of s k u h.0 clear h.1 h.2 in
    let first = h.3.0 in
    let unread : IsUnreadOf h.0 first.0
    = All-contains (λ (m : Made). IsLater h.0 m → IsUnreadOf h.0 m) s.made first.0 own.1 (from_place s.made first.0 first.1 first.2) first.3 in
    let wrong : true ≡ false = sym first.5.1 ∙ unread (path, kind) first.5.0 in
    cc wrong
held_not_refused s k blocks u (Locked by) may clear unworn h =
    let own = free_of s k u h.0 clear h.1 h.2 in
    let wrong : Some by ≡ None = sym h.3 ∙ own.0 in
    cc wrong
held_not_refused s k blocks u (NoSpace needed most) may clear unworn h =
    let a = may.needed in
    let b = may.room in
    let c = h.1 in
    let d = h.2 in
    let e = h.3 in
    omega (arith, a, b, c, d, e)
held_not_refused s k blocks u Worn may clear unworn h =
    let low : serial_of s.state h.0.object < 2 ^ 64 - 1
    = All-contains (λ (w : Work). serial_of s.state w.object < 2 ^ 64 - 1) (renewed_works u) h.0 unworn (from_place (renewed_works u) h.0 h.1 h.2) in
    let last = h.3 in
    omega (arith, low, last)
