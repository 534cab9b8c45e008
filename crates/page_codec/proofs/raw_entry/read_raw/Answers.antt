-- One more entry is that of one more piece.
use Rattle.std.proofs.Common.{◌≡◌, ℕ, ◌+◌, ◌*◌, ◌<◌, List, [], ◌∷◌, map, length, arith, refl, ap, ◌∙◌}
use Rattle.std.specs.Int.{w32}
use Rattle.std.proofs.lemmas.List.{take_more_set, length-set, map-append}
use Rattle.page_codec.specs.declared.raw_entry.RawEntry.{RawEntry}
use Rattle.page_codec.specs.Numbers.{field, number_at, pieces}
use Rattle.page_codec.specs.TableReading.{raw_value}
use Rattle.page_codec.proofs.FieldLaws.{field-field, number_at-field}
use Rattle.page_codec.proofs.PieceLaws.{pieces_more}
use Rattle.page_codec.proofs.raw_entry.read_raw.Goals as goal

raw_in : (bytes : List ℕ) (i : ℕ) → raw_value (field (16 * i) 16 bytes) ≡ record { first = number_at w32 (16 * i) bytes; generation = number_at w32 (16 * i + 4) bytes; secret = field (16 * i + 8) 8 bytes }
raw_in bytes i =
    let first : number_at w32 0 (field (16 * i) 16 bytes) ≡ number_at w32 (16 * i) bytes = number_at-field w32 0 (16 * i) 16 (16 * i) bytes (omega arith) (omega arith) in
    let generation : number_at w32 4 (field (16 * i) 16 bytes) ≡ number_at w32 (16 * i + 4) bytes = number_at-field w32 4 (16 * i) 16 (16 * i + 4) bytes refl (omega arith) in
    let secret : field 8 8 (field (16 * i) 16 bytes) ≡ field (16 * i + 8) 8 bytes = field-field 8 8 (16 * i) 16 (16 * i + 8) bytes refl (omega arith) in
    same first generation secret
  where
    same : {a b c d : ℕ} {x y : List ℕ} → a ≡ b → c ≡ d → x ≡ y → (let r : RawEntry = record { first = a; generation = c; secret = x } in r) ≡ record { first = b; generation = d; secret = y }
    same e f g = cc

pub loop-i-init : goal.loop-i-init
unfolding pieces
loop-i-init c = record { size = refl; front = refl }

pub loop-i-preserved : goal.loop-i-preserved
loop-i-preserved c =
    let i = c.loop-i.i in
    let bytes = c.args.bytes.now in
    let within : i < length c.loop-i.raws = omega arith in
    let more = ap (map raw_value) (pieces_more 16 i (16 * i) bytes refl) ∙ map-append raw_value (pieces 16 i bytes) (field (16 * i) 16 bytes ∷ []) in
    let this = raw_in bytes i in
    record {
      size = length-set c.loop-i.raws i c.raw_at.result ∙ c.loop-i.invariant.size;
      front = take_more_set c.loop-i.raws i c.raw_at.result within ∙ cc (c.loop-i.invariant.front, c.raw_at.ensures, this, more);
    }
