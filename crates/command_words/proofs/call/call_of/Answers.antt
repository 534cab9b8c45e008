-- The words after `play` name clients, or there is no call.
use Rattle.std.proofs.Common.{ℕ, List, refl}
use Rattle.command_words.specs.Words.{IsCall}
use Rattle.command_words.specs.declared.call.Call.TheVariants.{Play}
use Rattle.command_words.proofs.Played.{first_word, found_call, found_none, found_only, of_err, order_call, words_after}
use Rattle.command_words.proofs.call.call_of.Goals as goal

pub returns-in_err-order-in-len1-up-clause-memory :
    goal.returns-in_err-order-in-len1-up-clause-memory
returns-in_err-order-in-len1-up-clause-memory c =
    let words = c.args.words.now in
    let order = c.in_err-order-in-len1-up.ensures.memory in
    of_err c.from_residual.result
    ((clients : List ℕ) × IsCall words c.args.scripts c.args.drive_blocks (Play clients)) (
      order.0,
      order_call words c.args.scripts c.args.drive_blocks (words_after words) order.0
          (first_word words c.word-item.result c.as_bytes.result.now c.in-len1-up.len_at_least
          c.word-item.is c.as_bytes.ensures.value (c.if-is_text.ensures.0 refl)) order.1,
    )

pub returns-in-Some-clause-named : goal.returns-in-Some-clause-named
returns-in-Some-clause-named c =
    found_call c.args.words.now c.args.scripts c.args.drive_blocks
    c.in_ok-order-in-len1-up.field-0 c.in-Some.order
    (first_word c.args.words.now c.word-item.result c.as_bytes.result.now
    c.in-len1-up.len_at_least c.word-item.is c.as_bytes.ensures.value
    (c.if-is_text.ensures.0 refl))
    c.in_ok-order-in-len1-up.ensures.named c.in-Some.is

pub returns-in-Some-clause-only : goal.returns-in-Some-clause-only
returns-in-Some-clause-only c = λ call called.
    found_only c.args.words.now c.args.scripts c.args.drive_blocks
    c.in_ok-order-in-len1-up.field-0 c.in-Some.order call
    (first_word c.args.words.now c.word-item.result c.as_bytes.result.now
    c.in-len1-up.len_at_least c.word-item.is c.as_bytes.ensures.value
    (c.if-is_text.ensures.0 refl))
    c.in_ok-order-in-len1-up.ensures.named c.in-Some.is called

pub returns-in-None-clause-named : goal.returns-in-None-clause-named
returns-in-None-clause-named c = λ call called.
    found_none c.args.words.now c.args.scripts c.args.drive_blocks
    c.in_ok-order-in-len1-up.field-0 call
    (first_word c.args.words.now c.word-item.result c.as_bytes.result.now
    c.in-len1-up.len_at_least c.word-item.is c.as_bytes.ensures.value
    (c.if-is_text.ensures.0 refl))
    c.in_ok-order-in-len1-up.ensures.named c.in-None.is called

pub returns-in-None-clause-only : goal.returns-in-None-clause-only
returns-in-None-clause-only c = λ call called.
    absurd (found_none c.args.words.now c.args.scripts c.args.drive_blocks
    c.in_ok-order-in-len1-up.field-0 call
    (first_word c.args.words.now c.word-item.result c.as_bytes.result.now
    c.in-len1-up.len_at_least c.word-item.is c.as_bytes.ensures.value
    (c.if-is_text.ensures.0 refl))
    c.in_ok-order-in-len1-up.ensures.named c.in-None.is called)
