-- One more member is that of one more piece, and is not bad.
use Rattle.std.proofs.Common.{◌≡◌, ℕ, ◌+◌, ◌*◌, List, [], ◌∷◌, length, map, arith, refl, ap, sym, ◌∙◌}
use Rattle.std.specs.Int.{w32}
use Rattle.std.proofs.lemmas.List.{map-append, length_push}
use Rattle.page_codec.specs.Numbers.{field, number_at, pieces}
use Rattle.page_codec.specs.Reading.{member_value}
use Rattle.page_codec.specs.Causes.{is_bad_member}
use Rattle.page_codec.proofs.FieldLaws.{number_at-field}
use Rattle.page_codec.proofs.PieceLaws.{pieces_more, none_in_pieces}
use Rattle.page_codec.proofs.decode.members_from.Goals as goal

member_in : (bytes : List ℕ) (i : ℕ) → member_value (field (8 * i) 8 bytes) ≡ record { object = number_at w32 (8 * i) bytes; block = number_at w32 (8 * i + 4) bytes }
member_in bytes i =
    let object : number_at w32 0 (field (8 * i) 8 bytes) ≡ number_at w32 (8 * i) bytes = number_at-field w32 0 (8 * i) 8 (8 * i) bytes (omega arith) (omega arith) in
    let block : number_at w32 4 (field (8 * i) 8 bytes) ≡ number_at w32 (8 * i + 4) bytes = number_at-field w32 4 (8 * i) 8 (8 * i + 4) bytes refl (omega arith) in
    cc

pub loop-i-init : goal.loop-i-init
unfolding pieces
loop-i-init c = record { size = ap length c.none-members.ensures; front = c.none-members.ensures }

pub member_at-requires-clause-good : goal.member_at-requires-clause-good
member_at-requires-clause-good c =
    ap is_bad_member (sym (member_in c.args.bytes.now c.loop-i.i))
    ∙ none_in_pieces is_bad_member member_value 8 c.args.count c.loop-i.i (8 * c.loop-i.i) c.args.bytes.now refl c.loop-i-test.true c.requires.good

pub loop-i-preserved : goal.loop-i-preserved
loop-i-preserved c =
    let i = c.loop-i.i in
    let bytes = c.args.bytes.now in
    let more = ap (map member_value) (pieces_more 8 i (8 * i) bytes refl) ∙ map-append member_value (pieces 8 i bytes) (field (8 * i) 8 bytes ∷ []) in
    let this = member_in bytes i in
    record {
      size = ap length c.push.ensures ∙ length_push c.loop-i.members c.member_at.result ∙ ap (λ (n : ℕ). n + 1) c.loop-i.invariant.size;
      front = cc (c.push.ensures, c.member_at.ensures, c.loop-i.invariant.front, more, this);
    }
