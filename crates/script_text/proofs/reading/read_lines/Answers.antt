-- The pieces between line feeds, one by one: the last ends where the text does.
use Rattle.std.proofs.Common.{rules, tests, ◌≡◌, ℕ, ◌+◌, ◌≤◌, ◌++◌, true, eqb, [], length, refl, sym, ap, subst, ◌∙◌, arith}
use Rattle.std.specs.Option.{option_to_list}
use Rattle.std.proofs.lemmas.Bool.{eq-eqb, eqb-false, eqb-true}
use Rattle.std.proofs.lemmas.List.{get_or_read, length_push}
use Rattle.std.proofs.lemmas.Iterator.Consumers.{YieldsList-turn, YieldsList-end}
use Rattle.std.proofs.lemmas.Iterator.Splits.{YieldsList-from_slice_split}
use Rattle.std.proofs.lemmas.Result.{err_from_is_err_and}
use Rattle.script_text.specs.Grammar.{bad_of, good_of}
use Rattle.script_text.specs.Words.{pieces}
use Rattle.script_text.proofs.LineLemmas.{ReadsLines-empty, ReadsLines-end, ReadsLines-more, ReadsLines-refused, ReadsLines-start, StandsAt-more, StandsAt-start, last_piece, raw_same, refusal_same}
use Rattle.script_text.proofs.reading.read_lines.Goals as goal
use Rattle.script_text.proofs.reading.read_lines.Goals.{else-last-via-then-last+else-is_empty, else-last-via-else-last}

pub loop-piece-init : goal.loop-piece-init
loop-piece-init c = record {
  count = refl;
  read = rw c.new-lines.ensures.items (ReadsLines-start c.args.mode (pieces c.args.bytes.now));
  stands = StandsAt-start c.args.bytes.now;
}

pub loop-piece-preserved : goal.loop-piece-preserved
loop-piece-preserved c =
    let t = YieldsList-turn (YieldsList-from_slice_split _ (λ b. eqb b 10) c.args.bytes.now (cc) (cc) refl (λ x r q k. search (rules, tests)))
    c.loop-piece.yielded _ c.loop-piece.yielded_by _ _ c.in-Some.piece c.in-Some.is c.next.ensures.steps in
    let ps = pieces c.args.bytes.now in
    let i = length c.loop-piece.yielded in
    let start = c.loop-piece.start in
    let piece = get_or_read ps i c.in-Some.piece.now t.0 t.1 [] in
    let last = eqb (start + length c.in-Some.piece.now) (length c.args.bytes.now) in
    let end = last_piece c.args.bytes.now ps i start c.in-Some.piece.now c.loop-piece.invariant.stands t.0 piece in
    let some : last ≡ true → length c.in-Some.piece.now ≡ 0 → ⊥ =
    elim c.else-last.branch [
      | else-last-via-then-last+else-is_empty w ↦ λ e z. eqb-false (length c.in-Some.piece.now) 0 (sym w.is_empty.ensures ∙ w.if-is_empty.false) z
      | else-last-via-else-last w ↦ λ e z. w.if-last.false (eqb-true (start + length c.in-Some.piece.now) (length c.args.bytes.now) e)
    ] in
    let count : c.loop-piece.number + 1 ≡ i + 1 = omega (arith, c.loop-piece.invariant.count) in
    let raw = raw_same _ _ _ _ _ _ count c.line_end-end.ensures c.line_text.ensures in
    let grown = length_push c.loop-piece.yielded c.in-Some.piece in
    let small : ℕ → Type 0 = λ n. n ≤ 65536 in
    let few : ℕ → Type 0 = λ n. n ≤ 1000 in
    record {
      count = omega (arith, grown, c.loop-piece.invariant.count);
      read = rw (grown, c.line_end-end.ensures) (ReadsLines-more c.args.mode ps i start c.loop-piece.lines.items c.read_line.new.lines.items c.loop-piece.invariant.read t.0
          c.in-Some.piece.now last piece end some
          (subst few count c.in_ok-read_line.ensures.bounds.0)
          (subst small c.line_end-end.ensures c.in_ok-read_line.ensures.bounds.1)
          (ap (bad_of c.args.mode) (sym raw) ∙ c.in_ok-read_line.ensures.ok)
          (c.in_ok-read_line.ensures.lines ∙ ap (λ r. c.loop-piece.lines.items ++ option_to_list (good_of c.args.mode r)) raw));
      stands = rw (grown, c.line_end-end.ensures) (StandsAt-more c.args.bytes.now ps i start c.in-Some.piece.now last c.loop-piece.invariant.stands t.0 piece end);
    }

pub returns-then-is_empty-clause-ok : goal.returns-then-is_empty-clause-ok
returns-then-is_empty-clause-ok c =
    let t = YieldsList-turn (YieldsList-from_slice_split _ (λ b. eqb b 10) c.args.bytes.now (cc) (cc) refl (λ x r q k. search (rules, tests)))
    c.loop-piece.yielded _ c.loop-piece.yielded_by _ _ c.in-Some.piece c.in-Some.is c.next.ensures.steps in
    let ps = pieces c.args.bytes.now in
    let i = length c.loop-piece.yielded in
    let piece = get_or_read ps i c.in-Some.piece.now t.0 t.1 [] in
    let end = last_piece c.args.bytes.now ps i c.loop-piece.start c.in-Some.piece.now c.loop-piece.invariant.stands t.0 piece in
    let none = eqb-true (length c.in-Some.piece.now) 0 (sym c.is_empty.ensures ∙ c.if-is_empty.true) in
    (ReadsLines-empty c.args.mode ps i c.loop-piece.start c.loop-piece.lines.items c.loop-piece.invariant.read t.0 c.in-Some.piece.now piece
    (sym end ∙ eq-eqb (c.loop-piece.start + length c.in-Some.piece.now) (length c.args.bytes.now) c.if-last.true) none).bad

pub returns-then-is_empty-clause-lines : goal.returns-then-is_empty-clause-lines
returns-then-is_empty-clause-lines c =
    let t = YieldsList-turn (YieldsList-from_slice_split _ (λ b. eqb b 10) c.args.bytes.now (cc) (cc) refl (λ x r q k. search (rules, tests)))
    c.loop-piece.yielded _ c.loop-piece.yielded_by _ _ c.in-Some.piece c.in-Some.is c.next.ensures.steps in
    let ps = pieces c.args.bytes.now in
    let i = length c.loop-piece.yielded in
    let piece = get_or_read ps i c.in-Some.piece.now t.0 t.1 [] in
    let end = last_piece c.args.bytes.now ps i c.loop-piece.start c.in-Some.piece.now c.loop-piece.invariant.stands t.0 piece in
    let none = eqb-true (length c.in-Some.piece.now) 0 (sym c.is_empty.ensures ∙ c.if-is_empty.true) in
    (ReadsLines-empty c.args.mode ps i c.loop-piece.start c.loop-piece.lines.items c.loop-piece.invariant.read t.0 c.in-Some.piece.now piece
    (sym end ∙ eq-eqb (c.loop-piece.start + length c.in-Some.piece.now) (length c.args.bytes.now) c.if-last.true) none).good

pub returns-in_err-read_line-clause-refused : goal.returns-in_err-read_line-clause-refused
returns-in_err-read_line-clause-refused c =
    let t = YieldsList-turn (YieldsList-from_slice_split _ (λ b. eqb b 10) c.args.bytes.now (cc) (cc) refl (λ x r q k. search (rules, tests)))
    c.loop-piece.yielded _ c.loop-piece.yielded_by _ _ c.in-Some.piece c.in-Some.is c.next.ensures.steps in
    let ps = pieces c.args.bytes.now in
    let i = length c.loop-piece.yielded in
    let start = c.loop-piece.start in
    let piece = get_or_read ps i c.in-Some.piece.now t.0 t.1 [] in
    let last = eqb (start + length c.in-Some.piece.now) (length c.args.bytes.now) in
    let end = last_piece c.args.bytes.now ps i start c.in-Some.piece.now c.loop-piece.invariant.stands t.0 piece in
    let some : last ≡ true → length c.in-Some.piece.now ≡ 0 → ⊥ =
    elim c.else-last.branch [
      | else-last-via-then-last+else-is_empty w ↦ λ e z. eqb-false (length c.in-Some.piece.now) 0 (sym w.is_empty.ensures ∙ w.if-is_empty.false) z
      | else-last-via-else-last w ↦ λ e z. w.if-last.false (eqb-true (start + length c.in-Some.piece.now) (length c.args.bytes.now) e)
    ] in
    let count : c.loop-piece.number + 1 ≡ i + 1 = omega (arith, c.loop-piece.invariant.count) in
    let raw = raw_same _ _ _ _ _ _ count c.line_end-end.ensures c.line_text.ensures in
    let p = err_from_is_err_and c.from_residual.result c.from_residual.ensures.1 in
    rw (p.1, p.2) (ReadsLines-refused c.args.mode ps i start c.loop-piece.lines.items c.loop-piece.invariant.read t.0
    c.in-Some.piece.now last piece end some
    c.in_err-read_line.field-0.0 (refusal_same c.args.mode c.in_err-read_line.field-0.0 _ _ raw c.in_err-read_line.ensures.refused))

pub returns-clause-ok : goal.returns-clause-ok
returns-clause-ok c =
    let t = YieldsList-end (YieldsList-from_slice_split _ (λ b. eqb b 10) c.args.bytes.now (cc) (cc) refl (λ x r q k. search (rules, tests)))
    c.loop-piece.yielded _ c.loop-piece.yielded_by _ _ c.in-None.is c.next.ensures.steps in
    (ReadsLines-end c.args.mode (pieces c.args.bytes.now) (length c.loop-piece.yielded) c.loop-piece.start c.loop-piece.lines.items c.loop-piece.invariant.read
    (omega (arith, t.1))).bad

pub returns-clause-lines : goal.returns-clause-lines
returns-clause-lines c =
    let t = YieldsList-end (YieldsList-from_slice_split _ (λ b. eqb b 10) c.args.bytes.now (cc) (cc) refl (λ x r q k. search (rules, tests)))
    c.loop-piece.yielded _ c.loop-piece.yielded_by _ _ c.in-None.is c.next.ensures.steps in
    (ReadsLines-end c.args.mode (pieces c.args.bytes.now) (length c.loop-piece.yielded) c.loop-piece.start c.loop-piece.lines.items c.loop-piece.invariant.read
    (omega (arith, t.1))).good
