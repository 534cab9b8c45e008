use Rattle.hex.proofs.HexLemmas.{IsOk-written}
use Rattle.caps.proofs.Digits.{IsOk-from_bad_place}
use Rattle.caps.proofs.capability.digits_value.Goals as goal

pub unreachable-requires : goal.unreachable-requires
unreachable-requires c =
    let h = IsOk-from_bad_place c.args.text.now c.requires in
    let w = (IsOk-written _ _ _ c.decode_to_slice.ensures.value).1 h in
    let e = c.in-Err.is in
    let bad = rw e at w in cc
