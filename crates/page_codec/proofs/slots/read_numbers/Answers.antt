-- One more number is that of one more piece.
use Rattle.std.proofs.Common.{◌≡◌, ◌*◌, ◌<◌, [], ◌∷◌, map, length, arith, refl, ap, sym, ◌∙◌}
use Rattle.std.specs.Int.{w32}
use Rattle.std.proofs.lemmas.List.{take_more_set, length-set, map-append}
use Rattle.page_codec.specs.Numbers.{field, number_at, pieces}
use Rattle.page_codec.proofs.FieldLaws.{number_at-field}
use Rattle.page_codec.proofs.PieceLaws.{pieces_more}
use Rattle.page_codec.proofs.slots.read_numbers.Goals as goal

pub loop-i-init : goal.loop-i-init
unfolding pieces
loop-i-init c = record { size = refl; front = refl }

pub loop-i-preserved : goal.loop-i-preserved
loop-i-preserved c =
    let i = c.loop-i.i in
    let bytes = c.args.bytes.now in
    let within : i < length c.loop-i.numbers = omega arith in
    let number : number_at w32 0 (field (4 * i) 4 bytes) ≡ c.u32_at.result = number_at-field w32 0 (4 * i) 4 (4 * i) bytes (omega arith) (omega arith) ∙ sym c.u32_at.ensures in
    let more = ap (map (number_at w32 0)) (pieces_more 4 i (4 * i) bytes refl) ∙ map-append (number_at w32 0) (pieces 4 i bytes) (field (4 * i) 4 bytes ∷ []) in
    record {
      size = length-set c.loop-i.numbers i c.u32_at.result ∙ c.loop-i.invariant.size;
      front = take_more_set c.loop-i.numbers i c.u32_at.result within ∙ cc (c.loop-i.invariant.front, number, more);
    }
