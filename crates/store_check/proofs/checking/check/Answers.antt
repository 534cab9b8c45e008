use Rattle.std.proofs.Common.{◌≡◌, ℕ, [], Ok, Err, Result, ◌<◌, sym, ap, subst, ◌∙◌, arith}
use Rattle.page_codec.specs.Values.{RootValue}
use Rattle.store_model.specs.Walk.{and_then}
use Rattle.store_check.specs.declared.checking.Checked.{Checked}
use Rattle.store_check.specs.declared.refused.WalkRefused.{WalkRefused}
use Rattle.store_check.specs.declared.refused.WalkRefused.TheVariants.{ReadFault}
use Rattle.store_model.specs.Found.{laid}
use Rattle.store_check.specs.Since.{IsUnreadSince, is_past}
use Rattle.store_check.specs.Checked.{Answers, root_from, walk_from}
use Rattle.store_check.specs.Results.{Stops}
use Rattle.store_check.proofs.Passing.{stopped_at, stops_on}
use Rattle.store_check.proofs.WholeWalk.{laid_is, root_gives, answers_as}
use Rattle.store_check.proofs.checking.check.Goals as goal

pub returns-in-Err-clause-answer : goal.returns-in-Err-clause-answer
returns-in-Err-clause-answer g c = λ told mended.
    let b = g.B.Blocks in
    let size = b.size c.args.store in
    let content = b.content c.args.store in
    let began = c.of-reading.ensures.began in
    let settled = subst (λ d. b.settled d 0) (sym began) mended.table in
    let stopped = c.in-Err.ensures.walk told settled in
    let stop = stopped_at b c.read_root.new.reading.store c.in-Err.e in
    let at_store = subst (λ d. Stops stop (root_from (b.content d) c.blocks-most.result [])) began stopped in
    let at_size = subst (λ (n : ℕ). Stops stop (root_from content n [])) c.blocks-most.ensures at_store in
    subst (λ d. Stops (stopped_at b d c.in-Err.e) (laid content size [])) (sym c.into_store.ensures.store)
    (stops_on stop (root_from content size []) (laid content size []) at_size
    (λ cause is. laid_is content size [] ∙ ap (λ r. and_then r (λ (root : RootValue). walk_from (record { content = content; count = root.blocks }) root)) is))

error_is : (e f : WalkRefused) → (let r : Result Checked WalkRefused = Err e in r) ≡ Err f → e ≡ f
error_is e f is = cc

pub returns-in-Err-clause-unread : goal.returns-in-Err-clause-unread
returns-in-Err-clause-unread g c = λ h is.
    let b = g.B.Blocks in
    let same : c.in-Err.e ≡ ReadFault h = error_is c.in-Err.e (ReadFault h) is in
    let failed = c.in-Err.ensures.unread h (ap Err same) in
    subst (λ d. IsUnreadSince b c.args.store d h) (sym c.into_store.ensures.store)
    (subst (λ d. IsUnreadSince b d c.read_root.new.reading.store h) (c.in-Err.ensures.began ∙ c.of-reading.ensures.began) failed)

pub returns-in-Ok-clause-answer : goal.returns-in-Ok-clause-answer
returns-in-Ok-clause-answer g c = λ told mended.
    let b = g.B.Blocks in
    let size = b.size c.args.store in
    let content = b.content c.args.store in
    let root = c.in-Ok.root in
    let began = c.of-reading.ensures.began in
    let walked = c.in-Ok.ensures.walk told (subst (λ d. b.settled d 0) (sym began) mended.table) in
    let at_store = subst (λ d. root_from (b.content d) c.blocks-most.result [] ≡ Ok (root, [])) began walked in
    let is = subst (λ (n : ℕ). root_from content n [] ≡ Ok (root, [])) c.blocks-most.ensures at_store in
    let held = root_gives content size [] [] root is in
    let reading_is = c.in-Ok.ensures.began ∙ began in
    let settled = (λ (n : ℕ) (low : n < root.blocks). subst (λ d. b.settled d n) (sym reading_is)
    (mended.others held.0 root held.1 held.2 n low (Prim.omega (arith, low, c.in-Ok.ensures.fits, c.blocks-most.ensures)))) in
    let answer = c.walk_store.ensures.answer told settled in
    let here = subst (λ d. Answers (is_past b c.walk_store.result.0) c.walk_store.result.1 (walk_from (record { content = b.content d; count = root.blocks }) root [])) reading_is answer in
    answers_as (is_past b c.walk_store.result.0) c.walk_store.result.1 (walk_from (record { content = content; count = root.blocks }) root []) _
    (laid_is content size [] ∙ ap (λ r. and_then r (λ (root : RootValue). walk_from (record { content = content; count = root.blocks }) root)) is) here

pub returns-in-Ok-clause-unread : goal.returns-in-Ok-clause-unread
returns-in-Ok-clause-unread g c = λ h is.
    let b = g.B.Blocks in
    subst (λ d. IsUnreadSince b d c.walk_store.result.0 h) (c.in-Ok.ensures.began ∙ c.of-reading.ensures.began)
    (c.walk_store.ensures.unread h is)
