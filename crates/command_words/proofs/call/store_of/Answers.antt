-- The three words are those of the store's numbers, so the store that is made is this one.
use Rattle.std.proofs.Common.{◌-◌, ◌^◌, sym, arith}
use Rattle.command_words.proofs.Numbers.{only_read}
use Rattle.command_words.proofs.Stores.{only_store}
use Rattle.command_words.proofs.call.store_of.Goals as goal

pub returns-clause-only : goal.returns-clause-only
returns-clause-only c s words n within =
    let range = within.1 in
    let files = range.most in
    let blocks = range.fits in
    only_store c.of.result c.in_ok-key.key c.in_ok-files.field-0 c.in_ok-blocks.field-0 c.of.ensures
    s
    (sym (only_read 0 (2 ^ 64 - 1) c.args.key.now c.in_ok-key.key s.key (omega arith)
    c.in_ok-key.ensures.says words.key_word within.0))
    (sym (only_read 0 c.from.result c.args.files.now c.in_ok-files.field-0 s.files (omega arith)
    c.in_ok-files.ensures.says words.files_word (omega arith)))
    (sym (only_read 0 c.from-2.result c.args.blocks.now c.in_ok-blocks.field-0 s.blocks
    (omega arith) c.in_ok-blocks.ensures.says words.blocks_word (omega arith)))
    within.1
