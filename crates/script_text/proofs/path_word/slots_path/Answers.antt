use Rattle.std.proofs.Common.{rules, tests, [], eqb, length, drop, refl, sym, ap, ◌∙◌, arith}
use Rattle.std.specs.List.{slice_split}
use Rattle.std.proofs.lemmas.List.{get_or_read, length_push}
use Rattle.std.proofs.lemmas.Iterator.Consumers.{YieldsList-turn, YieldsList-end}
use Rattle.std.proofs.lemmas.Iterator.Splits.{YieldsList-from_slice_split}
use Rattle.script_text.specs.Words.{number_in, slots_of}
use Rattle.script_text.proofs.Prepending.{with_slots, deeper-more, deeper-none, slots-end}
use Rattle.script_text.proofs.path_word.slots_path.Goals as goal

pub loop-word-preserved : goal.loop-word-preserved
loop-word-preserved c =
    let t = YieldsList-turn (YieldsList-from_slice_split _ (λ b. eqb b 47) c.args.words.now (cc) (cc) refl (λ x r q k. search (rules, tests)))
    c.loop-word.yielded _ c.loop-word.yielded_by _ _ c.in-Some.word c.in-Some.is c.next.ensures.steps in
    let ws = slice_split (λ b. eqb b 47) c.args.words.now in
    let word = get_or_read ws (length c.loop-word.yielded) c.in-Some.word.now t.0 t.1 [] in
    let more = deeper-more ws (length c.loop-word.yielded) c.loop-word.path c.in-Some-deeper.next t.0 c.loop-word.invariant.short c.loop-word.invariant.slots
    c.slot_of.result (c.slot_of.ensures ∙ ap (number_in 0 15) word) (sym c.in-Some-deeper.is ∙ c.deeper.ensures) in
    let grown = length_push c.loop-word.yielded c.in-Some.word in
    record {
      count = omega (arith, more.0, grown, c.loop-word.invariant.count);
      short = more.1;
      slots = ap (λ n. with_slots c.in-Some-deeper.next (slots_of (drop n ws))) grown ∙ more.2;
    }

pub returns-in-None-deeper : goal.returns-in-None-deeper
returns-in-None-deeper c =
    let t = YieldsList-turn (YieldsList-from_slice_split _ (λ b. eqb b 47) c.args.words.now (cc) (cc) refl (λ x r q k. search (rules, tests)))
    c.loop-word.yielded _ c.loop-word.yielded_by _ _ c.in-Some.word c.in-Some.is c.next.ensures.steps in
    let ws = slice_split (λ b. eqb b 47) c.args.words.now in
    let word = get_or_read ws (length c.loop-word.yielded) c.in-Some.word.now t.0 t.1 [] in
    deeper-none ws (length c.loop-word.yielded) c.loop-word.path t.0 c.loop-word.invariant.count c.loop-word.invariant.slots
    c.slot_of.result (c.slot_of.ensures ∙ ap (number_in 0 15) word) (sym c.in-None-deeper.is ∙ c.deeper.ensures)

pub returns : goal.returns
returns c =
    let t = YieldsList-end (YieldsList-from_slice_split _ (λ b. eqb b 47) c.args.words.now (cc) (cc) refl (λ x r q k. search (rules, tests)))
    c.loop-word.yielded _ c.loop-word.yielded_by _ _ c.in-None.is c.next.ensures.steps in
    let ws = slice_split (λ b. eqb b 47) c.args.words.now in
    slots-end ws (length c.loop-word.yielded) c.loop-word.path (omega (arith, t.1)) (omega (arith, t.1, c.loop-word.invariant.count, c.loop-word.invariant.short)) c.loop-word.invariant.slots
