-- One more member is that of one more piece.
use Rattle.std.proofs.Common.{◌≡◌, ℕ, ◌+◌, ◌*◌, Bool, false, ◌||◌, List, [], ◌∷◌, ◌++◌, map, arith, refl, ap, sym, ◌∙◌}
use Rattle.std.specs.Int.{w32}
use Rattle.std.specs.List.{list_any}
use Rattle.std.proofs.lemmas.List.{map-append}
use Rattle.std.proofs.lemmas.List.Folds.{list_any-append}
use Rattle.page_codec.specs.Values.{MemberValue}
use Rattle.page_codec.specs.Numbers.{field, number_at, pieces}
use Rattle.page_codec.specs.Reading.{member_value}
use Rattle.page_codec.specs.Causes.{is_bad_member}
use Rattle.page_codec.proofs.FieldLaws.{number_at-field}
use Rattle.page_codec.proofs.PieceLaws.{pieces_more}
use Rattle.page_codec.proofs.decode.is_any_bad.Goals as goal

any_single : (p : MemberValue → Bool) (m : MemberValue) (r : Bool) → r ≡ p m → r ≡ list_any p (m ∷ [])
any_single p m r e = e ∙ or_false (p m)
  where
    or_false : (b : Bool) → b ≡ (b || false)
    or_false Rattle.std.proofs.Common.true = refl
    or_false Rattle.std.proofs.Common.false = refl

pub loop-i-init : goal.loop-i-init
unfolding pieces
loop-i-init c = refl

pub loop-i-preserved : goal.loop-i-preserved
loop-i-preserved c =
    let i = c.loop-i.i in
    let bytes = c.args.bytes.now in
    let piece = field (8 * i) 8 bytes in
    let object : number_at w32 0 piece ≡ number_at w32 (8 * i) bytes = number_at-field w32 0 (8 * i) 8 (8 * i) bytes (omega arith) (omega arith) in
    let block : number_at w32 4 piece ≡ number_at w32 (8 * i + 4) bytes = number_at-field w32 4 (8 * i) 8 (8 * i + 4) bytes refl (omega arith) in
    let member : is_bad_member (member_value piece) ≡ c.is_bad_member-bad.result = rw (object, block) (sym c.is_bad_member-bad.ensures) in
    let more = ap (map member_value) (pieces_more 8 i (8 * i) bytes refl) ∙ map-append member_value (pieces 8 i bytes) (piece ∷ []) in
    let split = ap (list_any is_bad_member) more ∙ list_any-append is_bad_member (map member_value (pieces 8 i bytes)) (member_value piece ∷ []) in
    let last = any_single is_bad_member (member_value piece) c.is_bad_member-bad.result (sym member) in
    ap (λ (b : Bool). b || c.is_bad_member-bad.result) c.loop-i.invariant ∙ ap (λ (b : Bool). list_any is_bad_member (map member_value (pieces 8 i bytes)) || b) last ∙ sym split
