use Rattle.std.proofs.Common.{◌≡◌, ◌<◌, ℕ, List, [], sym, ap, subst, ◌∙◌}
use Rattle.page_codec.specs.Values.{RootValue}
use Rattle.store_check.specs.declared.refused.WalkRefused.TheVariants.{ReadFault}
use Rattle.store_check.specs.Since.{IsUnreadSince, is_past}
use Rattle.store_check.specs.Checked.{Answers, walk_from}
use Rattle.store_check.proofs.WholeWalk.{ended_error}
use Rattle.store_check.proofs.Counting.{StoreShown, ended_answers}
use Rattle.store_check.proofs.checking.walk_store.Goals as goal

pub returns-in-Ok-clause-unread : goal.returns-in-Ok-clause-unread
returns-in-Ok-clause-unread g c = λ h is.
    let b = g.B.Blocks in
    let w = c.walk-found in
    let s = w.new.survey in
    let failed = w.ensures.unread h (ended_error w.result s.count s.list c.ended.result.1 (ReadFault h) c.ended.ensures.answer is) in
    subst (λ d. IsUnreadSince b c.args.reading.began d h) (sym c.ended.ensures.store)
    (subst (λ d. IsUnreadSince b d s.store h) (w.ensures.began ∙ c.over-survey.ensures.began) failed)

pub returns-in-Ok-clause-answer : goal.returns-in-Ok-clause-answer
returns-in-Ok-clause-answer g c = λ told settled.
    let b = g.B.Blocks in
    let w = c.walk-found in
    let s0 = c.over-survey.result in
    let root = c.args.root.now in
    let past = is_past b w.new.survey.store in
    let began = c.over-survey.ensures.began in
    let count : s0.count ≡ root.blocks = c.over-survey.ensures.count ∙ c.in-Ok.ensures.count ∙ ap (λ (r : RootValue). r.blocks) c.root.view_is in
    let list : s0.list ≡ [] = c.over-survey.ensures.list ∙ c.in-Ok.ensures.list in
    let shown = w.ensures.walk (record {
      told = told;
      each = λ n low. subst (λ d. b.settled d n) (sym began) (settled n (subst (λ (m : ℕ). n < m) count low));
    }) in
    let at_store = subst (λ d. StoreShown past (b.content d) s0.count root s0.list w.result w.new.survey.list) began shown in
    let at_count = subst (λ (m : ℕ). StoreShown past (b.content c.args.reading.began) m root s0.list w.result w.new.survey.list) count at_store in
    let at_start = subst (λ (ns : List ℕ). StoreShown past (b.content c.args.reading.began) root.blocks root ns w.result w.new.survey.list) list at_count in
    subst (λ d. Answers (is_past b d) c.ended.result.1 (walk_from (record { content = b.content c.args.reading.began; count = root.blocks }) root [])) (sym c.ended.ensures.store)
    (ended_answers past (b.content c.args.reading.began) root w.result w.new.survey.count w.new.survey.list c.ended.result.1 (w.ensures.count ∙ count) c.ended.ensures.answer at_start)
