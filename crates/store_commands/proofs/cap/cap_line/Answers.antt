use Rattle.std.proofs.Common.{[], ◌∷◌, ◌++◌, List, ℕ, codes, sym, ap, ◌∙◌, append_assoc}
use Rattle.hex.specs.Hex.{encode_lower}
use Rattle.caps.specs.Tables.{seal_of}
use Rattle.store_commands.proofs.Sealed.{minted_text}
use Rattle.store_commands.proofs.cap.cap_line.Goals as goal

pub returns-in_ok-push-in-Some : goal.returns-in_ok-push-in-Some
returns-in_ok-push-in-Some c =
    let cap = c.in-Some.cap in
    c.in_ok-push-in-Some.ensures.items
    ∙ ap (λ (t : List ℕ). t ++ 10 ∷ []) (c.in_ok-extend_from_slice-in-Some.ensures.items ∙ (λ i. c.in_ok-line-in-Some.ensures.items i ++ c.to_hex.ensures i))
    ∙ append_assoc (codes "cap ") (encode_lower cap) (10 ∷ [])
    ∙ sym (minted_text (seal_of c.args.table.now c.args.object) c.args.object c.args.rights cap (sym c.in-Some.ensures))
