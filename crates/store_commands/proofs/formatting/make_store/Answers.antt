use Rattle.std.proofs.Common.{◌≡◌, sym, subst, ◌∙◌}
use Rattle.afs_base.specs.Causes.{Rose}
use Rattle.drives.specs.declared.device.Half.{Half}
use Rattle.endings.specs.declared.status.Status.{Status}
use Rattle.endings.specs.declared.status.Status.TheVariants.{DriveFault, Memory}
use Rattle.endings.specs.Printing.{FinishEnds}
use Rattle.pair_store.specs.Faults.{IsStopped}
use Rattle.store_model.specs.Found.{found}
use Rattle.store_commands.specs.Opening.{contents_on}
use Rattle.store_commands.proofs.FormatCalls.{format_so, made_done, made_ends, stopped_failed}
use Rattle.store_commands.proofs.formatting.make_store.Goals as goal

pub returns-in-Ok-clause-call : goal.returns-in-Ok-clause-call
returns-in-Ok-clause-call g c =
    let V = g.V.Drives in
    let K = g.K.Sink in
    let e = c.in-Ok.ensures in
    let start = c.args.drives in
    let last = c.in-Ok.drives in
    let store = c.args.store.now in
    let status = c.finish-status.result in
    let old = K.written c.args.out.now in
    let new = K.written c.finish-status.new.out in
    let rose : Type 0 = Rose (K.faults c.args.out.now) (K.faults c.finish-status.new.out) in
    let after = found (contents_on V last) (V.size start) in
    let failed : Half → Type 0 = λ h. IsStopped (V.faults start) (V.faults last) (V.last_fault last) (V.moment last) h in
    let ends = made_ends store V.tells after failed old new rose c.args.text.now status c.requires.lines (λ t. e.found t) c.finish-status.ensures.ends in
    format_so V K store start c.args.out.now c.finish-status.new.out c.without_journal.result status last c.without_journal.ensures.status c.without_journal.ensures.drives
    (record {
      ends = ends;
      complete = λ sound sink. made_done store V.tells after failed old new rose status ends
          (λ h stopped. sound h (stopped_failed (V.faults start) (V.faults last) (V.last_fault last) (V.moment last) h stopped)) sink;
      stands = λ t rest. e.stands t rest;
      beyond = λ t. e.beyond t;
      lasts = λ t _. e.images_done t;
      rest = λ t _. e.rest t;
      unmade = λ is. absurd (let F : Status → Type 0 = λ s. FinishEnds old new rose c.args.text.now s in subst F is c.finish-status.ensures.ends);
      noted = c.without_journal.ensures.noted;
      size_same = e.size;
      later = λ h. e.later h;
      sink_later = c.finish-status.ensures.later;
    })

pub returns-in-Err-clause-call : goal.returns-in-Err-clause-call
returns-in-Err-clause-call g c =
    let V = g.V.Drives in
    let K = g.K.Sink in
    let e = c.in-Err.ensures in
    let start = c.args.drives in
    let last = c.in-Err.e.drives in
    let store = c.args.store.now in
    format_so V K store start c.args.out.now c.end_drive-status.new.out c.without_journal-in-Err.result DriveFault last
    (c.without_journal-in-Err.ensures.status ∙ c.end_drive-status.ensures.status) c.without_journal-in-Err.ensures.drives
    (record {
      ends = (c.in-Err.e.half, e.stopped, c.end_drive-status.ensures.prints);
      complete = λ sound sink. sound c.in-Err.e.half (stopped_failed (V.faults start) (V.faults last) (V.last_fault last) (V.moment last) c.in-Err.e.half e.stopped);
      stands = λ t rest. e.stands t rest;
      beyond = λ t. e.beyond t;
      lasts = λ _ made. absurd made;
      rest = λ _ made. absurd made;
      unmade = λ is. absurd (cc is);
      noted = c.without_journal-in-Err.ensures.noted;
      size_same = e.size;
      later = λ h. e.later h;
      sink_later = c.end_drive-status.ensures.later;
    })

pub returns-in-Ok-clause-unmade : goal.returns-in-Ok-clause-unmade
returns-in-Ok-clause-unmade g c = λ is.
    let K = g.K.Sink in
    let F : Status → Type 0 = λ s. FinishEnds (K.written c.args.out.now) (K.written c.finish-status.new.out)
    (Rose (K.faults c.args.out.now) (K.faults c.finish-status.new.out)) c.args.text.now s in
    subst F (sym c.without_journal.ensures.status ∙ is) c.finish-status.ensures.ends

pub returns-in-Err-clause-unmade : goal.returns-in-Err-clause-unmade
returns-in-Err-clause-unmade g c = λ is.
    let both : DriveFault ≡ Memory = sym c.end_drive-status.ensures.status ∙ sym c.without_journal-in-Err.ensures.status ∙ is in
    absurd (cc both)
