-- Three and four words are those of `cap` and `format`; no call but `play` has two words, none, or
-- five and more.
use Rattle.std.proofs.Common.{◌≡◌, ◌≢◌, ◌∷◌, [], codes, subst, sym, arith}
use Rattle.std.specs.Prelude.{string_bytes}
use Rattle.command_words.specs.Words.{bytes_of}
use Rattle.command_words.proofs.Forms.{four_words, named_along, other_word, three_words, within_scripts, within_these}
use Rattle.command_words.proofs.call.named_of.Goals as goal

pub plain_of-requires : goal.plain_of-requires
plain_of-requires c =
    subst (λ w. w ≢ codes "play") (sym c.as_bytes.ensures.value)
    (other_word c.args.words.now c.word-item.result c.in-len1.len_at_least c.word-item.is
    c.requires)

pub cap_of-requires : goal.cap_of-requires
cap_of-requires c =
    subst (λ w. w ≢ codes "play") (sym c.as_bytes-in-len3.ensures.value)
    (other_word c.args.words.now c.word-item-then-words-lt4.result (omega arith)
    c.word-item-then-words-lt4.is c.requires)

pub format_of-requires : goal.format_of-requires
format_of-requires c =
    subst (λ w. w ≢ codes "play") (sym c.as_bytes-in-len4.ensures.value)
    (other_word c.args.words.now c.word-item-then-words-lt5.result (omega arith)
    c.word-item-then-words-lt5.is c.requires)

pub returns-in-len3-clause-named : goal.returns-in-len3-clause-named
returns-in-len3-clause-named c =
    let three : string_bytes c.word-item-then-words-lt4.result ∷ string_bytes c.object-item.result ∷
    string_bytes c.rights-item.result ∷ [] ≡ bytes_of c.args.words.now =
    three_words c.args.words.now c.word-item-then-words-lt4.result c.object-item.result
    c.rights-item.result c.in-len3.len_at_least c.in-len3.len_below
    c.word-item-then-words-lt4.is c.object-item.is c.rights-item.is in
    let words : c.as_bytes-in-len3.result.now ∷ c.as_bytes-in-len3-2.result.now ∷
    c.as_bytes-in-len3-3.result.now ∷ [] ≡ bytes_of c.args.words.now =
    cc (
      three,
      c.as_bytes-in-len3.ensures.value,
      c.as_bytes-in-len3-2.ensures.value,
      c.as_bytes-in-len3-3.ensures.value,
    ) in
    named_along c.cap_of.result (c.as_bytes-in-len3.result.now ∷ c.as_bytes-in-len3-2.result.now ∷
    c.as_bytes-in-len3-3.result.now ∷ []) (bytes_of c.args.words.now) c.args.scripts
    c.args.drive_blocks
    words
    (within_these c.cap_of.result (c.as_bytes-in-len3.result.now ∷ c.as_bytes-in-len3-2.result.now ∷
    c.as_bytes-in-len3-3.result.now ∷ []) c.args.scripts c.args.drive_blocks
    c.cap_of.ensures.named)

pub returns-in-len4-clause-named : goal.returns-in-len4-clause-named
returns-in-len4-clause-named c =
    let four : string_bytes c.word-item-then-words-lt5.result ∷ string_bytes c.key-item.result ∷
    string_bytes c.files-item.result ∷ string_bytes c.blocks-item.result ∷ []
    ≡ bytes_of c.args.words.now =
    four_words c.args.words.now c.word-item-then-words-lt5.result c.key-item.result
    c.files-item.result c.blocks-item.result c.in-len4.len_at_least
    c.in-len4.len_below c.word-item-then-words-lt5.is c.key-item.is c.files-item.is c.blocks-item.is
    in
    let words : c.as_bytes-in-len4.result.now ∷ c.as_bytes-in-len4-2.result.now ∷
    c.as_bytes-in-len4-3.result.now ∷ c.as_bytes-in-len4-4.result.now ∷ [] ≡ bytes_of
    c.args.words.now =
    cc (
      four,
      c.as_bytes-in-len4.ensures.value,
      c.as_bytes-in-len4-2.ensures.value,
      c.as_bytes-in-len4-3.ensures.value,
      c.as_bytes-in-len4-4.ensures.value,
    ) in
    named_along c.format_of.result (c.as_bytes-in-len4.result.now ∷ c.as_bytes-in-len4-2.result.now
    ∷ c.as_bytes-in-len4-3.result.now ∷ c.as_bytes-in-len4-4.result.now ∷ [])
    (bytes_of c.args.words.now) c.args.scripts c.args.drive_blocks
    words
    (within_scripts c.format_of.result (c.as_bytes-in-len4.result.now ∷
    c.as_bytes-in-len4-2.result.now ∷ c.as_bytes-in-len4-3.result.now ∷
    c.as_bytes-in-len4-4.result.now ∷ []) c.args.scripts c.args.drive_blocks
    c.format_of.ensures.named)
