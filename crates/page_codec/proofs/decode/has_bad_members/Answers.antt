-- There are at most sixteen.
use Rattle.std.proofs.Common.{◌≡◌, ℕ, ltb, false, List, map, ap, ◌∙◌}
use Rattle.std.specs.List.{list_any}
use Rattle.std.specs.Prelude.{slice_index}
use Rattle.std.proofs.lemmas.Bool.{le-ltb}
use Rattle.page_codec.specs.Reading.{member_value, members_value}
use Rattle.page_codec.specs.Numbers.{pieces}
use Rattle.page_codec.specs.Causes.{is_bad_member}
use Rattle.page_codec.proofs.decode.has_bad_members.Goals as goal

pub returns : goal.returns
unfolding members_value
returns c =
    let few : ltb 16 (slice_index c.args.block.now 90) ≡ false = le-ltb _ _ c.if-count-gt-MAX_MEMBERS.false in
    rw few (c.is_any_bad.ensures ∙ ap (λ (xs : List ℕ). list_any is_bad_member (map member_value (pieces 8 (slice_index c.args.block.now 90) xs))) c.split_at.ensures.back)
