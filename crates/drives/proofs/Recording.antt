-- The recorded calls give the bytes of each moment, and no range that was not written.
use Rattle.std.proofs.Common.{◌≡◌, ◌⊎◌, inl, inr, ℕ, Bool, true, false, List, [], ◌∷◌, ◌++◌, length, fold, slice_index, refl, sym, ◌∙◌, ap, subst}
use Rattle.std.specs.Prelude.{nat_le, if◌then◌else◌}
use Rattle.drives.specs.declared.call.What.{What}
use Rattle.drives.specs.declared.call.What.TheVariants.{Write, Tear, Sync}
use Rattle.drives.specs.declared.call.Call.{Call}
use Rattle.drives.specs.declared.call.Event.{Event}
use Rattle.drives.specs.declared.call.Event.TheVariants.{Made, Lost, Idle}
use Rattle.drives.specs.declared.call.Pick.{Pick}
use Rattle.drives.specs.Bytes.{IsBytes}
use Rattle.drives.specs.Images.{IsUntouched}
use Rattle.drives.specs.Replay.{State, start, done, torn, overwritten, state_at, next_call, recorded, replay_step, replayed}
use Rattle.drives.specs.Picked.{IsReplayed}
use Rattle.drives.specs.Left.{IsLeftBy}

-- a half as the record has it beside the half as it was: the same bytes, and no more ranges
record Agrees (p s : State) : Type 0 where
  bytes : p.bytes ≡ s.bytes
  synced : p.synced ≡ s.synced
  spans : (i : ℕ) → IsUntouched s.spans i → IsUntouched p.spans i

done_agrees : (what : What) (p s : State) → Agrees p s → Agrees (done what p) (done what s)
done_agrees (Write at bytes) p s same = record {
  bytes = ap (overwritten at bytes.items) same.bytes;
  synced = same.synced;
  spans = λ i free. (free.0, same.spans i free.1);
}
done_agrees (Tear at len) p s same = record { bytes = same.bytes; synced = same.synced; spans = λ i free. (free.0, same.spans i free.1) }
done_agrees Sync p s same = record { bytes = same.bytes; synced = same.bytes; spans = λ i free. tt }

-- a call that was not recorded only adds a range
lost_agrees : (at len : ℕ) (p s : State) → Agrees p s → Agrees p (torn at len s)
lost_agrees at len p s same = record { bytes = same.bytes; synced = same.synced; spans = λ i free. same.spans i free.1 }

told : (b : Bool) → (b ≡ true) ⊎ (b ≡ false)
told true = inl refl
told false = inr refl

-- the same test on both sides
both_if : (b : Bool) (p p' s s' : State) → Agrees p s → Agrees p' s' → Agrees (if b then p' else p) (if b then s' else s)
both_if true p p' s s' same same' = same'
both_if false p p' s s' same same' = same

one_if : (b : Bool) (p s s' : State) → Agrees p s → Agrees p s' → Agrees p (if b then s' else s)
one_if true p s s' same same' = same'
one_if false p s s' same same' = same

fold_last : (t : ℕ) (s : State) (calls : List Call) (call : Call) → fold (replay_step t) s (calls ++ call ∷ []) ≡ replay_step t (fold (replay_step t) s calls) call
fold_last t s [] call = refl
fold_last t s (c ∷ calls) call = fold_last t (replay_step t s c) calls call

agrees_at : (first : List ℕ) (t : ℕ) (events : List Event) → Agrees (replayed first t (recorded events)) (state_at first t events)
agrees_at first t [] = record { bytes = refl; synced = refl; spans = λ i free. free }
agrees_at first t (Made what ∷ events) =
    let p = replayed first t (recorded events) in
    let s = state_at first t events in
    let same = agrees_at first t events in
    let stepped : Agrees (replay_step t p (record { when = next_call (length events); what = what.value })) (state_at first t (Made what ∷ events)) =
    both_if (nat_le (next_call (length events)) t) p (done what.value p) s (done what.value s) same (done_agrees what.value p s same) in
    subst (λ (q : State). Agrees q (state_at first t (Made what ∷ events))) (sym (fold_last t (start first) (recorded events) (record { when = next_call (length events); what = what.value }))) stepped
agrees_at first t (Lost at len ∷ events) =
    let p = replayed first t (recorded events) in
    let s = state_at first t events in
    let same = agrees_at first t events in
    one_if (nat_le (next_call (length events)) t) p s (torn at len s) same (lost_agrees at len p s same)
agrees_at first t (Idle ∷ events) =
    let p = replayed first t (recorded events) in
    let s = state_at first t events in
    let same = agrees_at first t events in
    one_if (nat_le (next_call (length events)) t) p s s same same

-- so an image by the record is an image of the half
pub left_by_record : (first : List ℕ) (t : ℕ) (events : List Event) (calls : List Call) (pick : Pick) (image : List ℕ) → recorded events ≡ calls → IsBytes image → IsReplayed pick (replayed first t calls) (replayed first t calls).bytes image → IsLeftBy first events t image
left_by_record first t events calls pick image made fits is =
    let same = subst (λ (cs : List Call). Agrees (replayed first t cs) (state_at first t events)) made (agrees_at first t events) in
    record {
      size = is.size ∙ ap (λ (b : List ℕ). length b) same.bytes;
      untouched = λ i free. is.untouched i (same.spans i free) ∙ ap (λ (b : List ℕ). slice_index b i) same.bytes;
      fits = fits;
    }
