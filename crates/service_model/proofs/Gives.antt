-- What follows from what is so of all that stands.
use Rattle.std.proofs.Common.{◌≡◌, ℕ, ◌<◌, ◌≤◌, Contains, sym, ap, subst, arith}
use Rattle.tree_model.specs.States.{Version}
use Rattle.service_model.specs.Laws.{IsMergedOver, IsMergedTo, IsOnlyOf}
use Rattle.service_model.specs.Legal.{IsLater, IsUnclashed, IsUnreadOf}
use Rattle.service_model.specs.Sound.{IsSound, IsBased, IsOn}
use Rattle.service_model.specs.Standing.{Scripts, Standing, Work, Made, versions_of, serial_of}
use Rattle.service_model.proofs.Members.{all_in}
use Rattle.service_model.proofs.Versions.{IsLiveAt, live_at, not_later, of_serial, one_of_serial}

same_unread : (w : Work) (m n : Made) → m ≡ n → IsUnreadOf w n → IsUnreadOf w m
same_unread w m n e h = let F : Made → Type 0 = λ x. IsUnreadOf w x in subst F (sym e) h

module _ (scripts : Scripts) (s : Standing) (k : ℕ) (w : Work) (sound : IsSound scripts s) (on : IsOn s k w)
    (merged : IsMergedTo s w (serial_of s.state w.object)) where
  based : IsBased s.state w
  based = (sound.updates k on.update on.number on.is_open).based w on.listed

  live : IsLiveAt s.state w.object
  live = live_at s.state w.object based.version sound.state based.kept

  unread : (m : Made) → Contains s.made m → IsLater w m → IsUnreadOf w m
  unread m h later =
      let base = based.serial in
      let after : w.serial < m.serial = later.1 in
      let low : m.serial ≤ serial_of s.state m.object = sound.low m h in
      let same : serial_of s.state m.object ≡ serial_of s.state w.object = ap (serial_of s.state) later.0 in
      let found = of_serial s.state w.object live based.version m.serial based.kept (omega (arith, base, after)) (omega (arith, low, same)) in
      let serial : found.0.serial ≡ m.serial = found.2 in
      let over : IsMergedOver s w found.0 = merged found.0 found.1 (omega (arith, after, serial)) (omega (arith, low, same, serial)) in
      let one : m ≡ over.known.made = over.known.only m h later.0 (sym serial) in
      same_unread w m over.known.made one over.unread

  pub merged_unclashed : IsUnclashed s.made w
  merged_unclashed = all_in (λ m. IsLater w m → IsUnreadOf w m) s.made unread

pub serials : (scripts : Scripts) (s : Standing) (object : ℕ) (v : Version) → IsSound scripts s → Contains (versions_of s.state object) v
    → (v.serial ≤ serial_of s.state object)
    × ((serial : ℕ) → v.serial ≤ serial → serial ≤ serial_of s.state object → (u : Version) × IsOnlyOf s.state object u × (u.serial ≡ serial))
serials scripts s object v sound h = (not_later s.state object live v h, one)
  where
    live : IsLiveAt s.state object
    live = live_at s.state object v sound.state h

    one : (serial : ℕ) → v.serial ≤ serial → serial ≤ serial_of s.state object → (u : Version) × IsOnlyOf s.state object u × (u.serial ≡ serial)
    one serial low high =
        let found = of_serial s.state object live v serial h low high in (
          found.0,
          record {
            kept = found.1;
            only = λ x kept is. one_of_serial s.state object live x found.0 kept found.1 is;
          },
          found.2,
        )
