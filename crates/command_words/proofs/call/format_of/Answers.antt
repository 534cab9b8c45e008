use Rattle.std.proofs.Common.{◌≡◌, ◌∙◌, codes, refl, ap, sym}
use Rattle.std.specs.Option.{option_map}
use Rattle.command_words.specs.declared.call.Call.TheVariants.{Format}
use Rattle.command_words.proofs.Forms.{format_only}
use Rattle.command_words.proofs.call.format_of.Goals as goal

pub returns-in-Some-clause-only : goal.returns-in-Some-clause-only
returns-in-Some-clause-only c call words n within =
    let first : c.args.word.now ≡ codes "format" = c.if-not-is_text.ensures.0 refl in
    ap (option_map Format) (sym c.in-Some.is)
    ∙ format_only c.store_of.result c.args.word.now c.args.key.now c.args.files.now
    c.args.blocks.now c.args.drive_blocks c.requires first c.store_of.ensures.only call words n
    within

pub returns-in-None-clause-only : goal.returns-in-None-clause-only
returns-in-None-clause-only c call words n within =
    let first : c.args.word.now ≡ codes "format" = c.if-not-is_text.ensures.0 refl in
    ap (option_map Format) (sym c.in-None.is)
    ∙ format_only c.store_of.result c.args.word.now c.args.key.now c.args.files.now
    c.args.blocks.now c.args.drive_blocks c.requires first c.store_of.ensures.only call words n
    within
