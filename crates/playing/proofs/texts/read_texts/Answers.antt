use Rattle.std.proofs.Common.{ℕ, ◌+◌, ◌∷◌, [], Err, Vec, Global, ap, sym, subst, ◌∙◌}
use Rattle.std.proofs.lemmas.List.{map-append}
use Rattle.std.specs.List.{slice_set}
use Rattle.std.proofs.lemmas.Result.{err_from_is_err_and}
use Rattle.playing.specs.Taking.{AreTextsFault, bytes_of}
use Rattle.playing.specs.declared.unread.Unread.TheVariants.{Memory}
use Rattle.playing.proofs.Refusing.{of_cause}
use Rattle.playing.proofs.Sourcing.{AreSoFar, fault_set, kept_later, kept_set, later_set, none_so_far, one_more, taken_set}
use Rattle.playing.proofs.texts.read_texts.Goals as goal

pub loop-place-init : goal.loop-place-init
loop-place-init g c =
    subst (λ reads. AreSoFar g.S.Source c.args.sources.now c.args.sources.now 0 reads)
    (ap bytes_of (sym c.new-texts.ensures.items)) (none_so_far g.S.Source c.args.sources.now)

pub returns-in_err-text-clause-taken : goal.returns-in_err-text-clause-taken
returns-in_err-text-clause-taken g c =
    taken_set g.S.Source c.args.sources.now c.loop-place.sources c.loop-place.place
    (bytes_of c.loop-place.texts.items) c.loop-place.invariant c.index-sources-place.result
    c.read_text.new.source c.loop-place-test.true
    c.in_err-text.ensures.taken

pub returns-in_err-text-clause-later : goal.returns-in_err-text-clause-later
returns-in_err-text-clause-later g c =
    later_set g.S.Source c.args.sources.now c.loop-place.sources c.loop-place.place
    (bytes_of c.loop-place.texts.items) c.loop-place.invariant c.index-sources-place.result
    c.read_text.new.source c.loop-place-test.true
    c.in_err-text.ensures.later

pub returns-in_err-text-clause-fault : goal.returns-in_err-text-clause-fault
returns-in_err-text-clause-fault g c =
    let p = err_from_is_err_and c.from_residual.result c.from_residual.ensures.1 in
    let cause = c.in_err-text.field-0.0 in
    of_cause c.from_residual.result cause _ (p.1 ∙ ap Err p.2)
    (fault_set g.S.Source c.args.sources.now c.loop-place.sources c.loop-place.place
    (bytes_of c.loop-place.texts.items) c.loop-place.invariant c.index-sources-place.result
    c.read_text.new.source c.loop-place-test.true
    c.client_at.result c.client_at.ensures cause c.in_err-text.ensures.fault)

pub returns-in_err-push-clause-taken : goal.returns-in_err-push-clause-taken
returns-in_err-push-clause-taken g c =
    taken_set g.S.Source c.args.sources.now c.loop-place.sources c.loop-place.place
    (bytes_of c.loop-place.texts.items) c.loop-place.invariant c.index-sources-place.result
    c.read_text.new.source c.loop-place-test.true
    c.in_ok-text.ensures.taken

pub returns-in_err-push-clause-later : goal.returns-in_err-push-clause-later
returns-in_err-push-clause-later g c =
    later_set g.S.Source c.args.sources.now c.loop-place.sources c.loop-place.place
    (bytes_of c.loop-place.texts.items) c.loop-place.invariant c.index-sources-place.result
    c.read_text.new.source c.loop-place-test.true
    c.in_ok-text.ensures.later

pub returns-in_err-push-clause-fault : goal.returns-in_err-push-clause-fault
returns-in_err-push-clause-fault g c =
    let r = c.from_residual-in_err-push.result in
    let p = err_from_is_err_and r c.from_residual-in_err-push.ensures.1 in
    of_cause r Memory (AreTextsFault g.S.Source c.args.sources.now
    (slice_set c.loop-place.sources c.loop-place.place c.read_text.new.source))
    (p.1 ∙ ap Err p.2)
    (kept_set g.S.Source c.args.sources.now c.loop-place.sources c.loop-place.place
    (bytes_of c.loop-place.texts.items) c.loop-place.invariant c.index-sources-place.result
    c.read_text.new.source c.loop-place-test.true c.in_ok-text.ensures.kept)

pub loop-place-preserved : goal.loop-place-preserved
loop-place-preserved g c =
    subst (λ reads. AreSoFar g.S.Source c.args.sources.now
    (slice_set c.loop-place.sources c.loop-place.place c.read_text.new.source)
    (c.loop-place.place + 1) reads)
    (sym (ap bytes_of c.in_ok-push.ensures.items
    ∙ map-append (λ (t : Vec ℕ Global). t.items) c.loop-place.texts.items (c.in_ok-text.text ∷ [])))
    (one_more g.S.Source c.args.sources.now c.loop-place.sources c.loop-place.place
    (bytes_of c.loop-place.texts.items) c.loop-place.invariant c.index-sources-place.result
    c.read_text.new.source c.loop-place-test.true
    c.in_ok-text.text.items c.in_ok-text.ensures.taken c.in_ok-text.ensures.kept
    c.in_ok-text.ensures.held)

pub returns-clause-later : goal.returns-clause-later
returns-clause-later g c =
    kept_later g.S.Source c.args.sources.now c.loop-place.sources c.loop-place.invariant.kept
