-- The digest of the three numbers, fed one after the other.
use Rattle.std.proofs.Common.{◌≡◌, ℕ, List, [], ◌++◌, take, ap, ◌∙◌}
use Rattle.std.specs.Int.{w32, w64, to_be_bytes}
use Rattle.sha2.specs.Sha256.{sha256}
use Rattle.page_codec.specs.Numbers.{big_endian}
use Rattle.page_codec.specs.NewStore.{secret_of}
use Rattle.page_codec.proofs.secret.secret_of.Goals as goal

joined : (a b d x y z : List ℕ) → a ≡ x → b ≡ y → d ≡ z → (a ++ b) ++ d ≡ (x ++ y) ++ z
joined a b d x y z p q r = cc

pub returns : goal.returns
unfolding secret_of big_endian
returns c =
    let fed = c.update-3.ensures _ (c.update-2.ensures _ (c.update.ensures [] c.new-hasher.ensures)) in
    let message = joined c.as_slice.result.now c.as_slice-2.result.now c.as_slice-3.result.now (to_be_bytes w64 c.args.key) (to_be_bytes w32 c.args.object) (to_be_bytes w32 c.args.generation)
    (c.as_slice.ensures ∙ c.to_be_bytes.ensures) (c.as_slice-2.ensures ∙ c.to_be_bytes-2.ensures) (c.as_slice-3.ensures ∙ c.to_be_bytes-3.ensures) in
    c.copy_from_slice.ensures.after ∙ ap (take 8) (c.finalize-digest.ensures _ fed ∙ ap sha256 message)
