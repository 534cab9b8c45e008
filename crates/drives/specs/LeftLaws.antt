-- Why the images of memory halves are whole, and why what reads give is one of them.
use Rattle.std.specs.Prelude.{◌≡◌, ℕ, ◌*◌, ◌≤◌, Bool, true, nat_le, if◌then◌else◌, List, [], ◌∷◌, length, slice_index}
use Rattle.std.proofs.Common.{refl, sym, ◌∙◌, ap, arith}
use Rattle.std.proofs.lemmas.Bool.Decides.{nat_tests}
use Rattle.drives.specs.declared.device.Half.{Half}
use Rattle.drives.specs.declared.device.Half.TheVariants.{A, B}
use Rattle.drives.specs.declared.call.Event.{Event}
use Rattle.drives.specs.declared.mem_half.MemHalf.{MemHalf}
use Rattle.drives.specs.declared.memory.MemDrives.{MemDrives}
use Rattle.drives.specs.Bytes.{IsBytes}
use Rattle.drives.specs.Replay.{State, happened, state, state_at, next_call}
use Rattle.drives.specs.Left.{IsMemLeft, moment_after, mem_half}

told_le : (a b : ℕ) → a ≤ b → nat_le a b ≡ true
told_le a b h = Prim.grind (arith, nat_tests)

-- at a moment that all calls have reached, all have happened
pub state_now : (first : List ℕ) (t : ℕ) (events : List Event) → moment_after events ≤ t → state_at first t events ≡ state first events
state_now first t [] h = refl
state_now first t (e ∷ events) h =
    let now : next_call (length events) ≤ t = omega (arith, h) in
    ap (λ (b : Bool). if b then happened e (state_at first t events) else state_at first t events) (told_le _ _ now)
    ∙ ap (happened e) (state_now first t events (omega arith))

half_length : (half : MemHalf) (t : ℕ) (c : List ℕ) → moment_after half.events ≡ t → IsMemLeft half t c → length c ≡ length half.bytes.items
half_length half t c e left =
    left.size ∙ ap (λ (s : State). length s.bytes) (state_now half.first.items t half.events (omega arith)) ∙ ap (λ (b : List ℕ). length b) half.known

half_seen : (half : MemHalf) (t : ℕ) → moment_after half.events ≡ t → IsMemLeft half t half.bytes.items
half_seen half t e =
    let bytes : (state_at half.first.items t half.events).bytes ≡ half.bytes.items = ap (λ (s : State). s.bytes) (state_now half.first.items t half.events (omega arith)) ∙ half.known in
    record {
      size = ap (λ (b : List ℕ). length b) (sym bytes);
      untouched = λ i free. ap (λ (b : List ℕ). slice_index b i) (sym bytes);
      fits = half.bytes_fit;
    }

pub length-left : (d : MemDrives) (h : Half) (c : List ℕ) → IsMemLeft (mem_half d h) d.time c → length c ≡ 1024 * d.blocks
length-left d A c left = half_length d.a d.time c d.moment_a left ∙ d.whole_a
length-left d B c left = half_length d.b d.time c d.moment_b left ∙ d.whole_b

pub left_seen : (d : MemDrives) (h : Half) → IsMemLeft (mem_half d h) d.time (mem_half d h).bytes.items
left_seen d A = half_seen d.a d.time d.moment_a
left_seen d B = half_seen d.b d.time d.moment_b

pub seen_fits : (d : MemDrives) (h : Half) → IsBytes (mem_half d h).bytes.items
seen_fits d A = d.a.bytes_fit
seen_fits d B = d.b.bytes_fit
