use Rattle.std.proofs.Common.{◌≡◌, ◌≢◌, inl, inr, ℕ, List, refl, sym, subst}
use Rattle.drives.specs.declared.device.Half.{Half}
use Rattle.drives.specs.declared.device.Half.TheVariants.{A, B}
use Rattle.pair_store.specs.declared.outcome.Mended.{Mended}
use Rattle.pair_store.specs.declared.outcome.Mended.TheVariants.{Copied}
use Rattle.pair_store.specs.Content.{ContentsLeft, block_on}
use Rattle.pair_store.specs.Mending.{IsPlan}
use Rattle.pair_store.proofs.MendLaws.{copy_wrote, of_other, reads_settled, rest_kept}
use Rattle.pair_store.proofs.PageWriting.{read_others, write_nothing, write_others}
use Rattle.pair_store.proofs.SettledLaws.{kept_contents, settled_left}
use Rattle.pair_store.proofs.mend.mend_block.Goals as goal

pub returns-in-Ok-Same-clause-kept_always : goal.returns-in-Ok-Same-clause-kept_always
returns-in-Ok-Same-clause-kept_always g c = λ k _ settled.
    (settled_left g.V.Drives.may_leave c.args.drives.now c.inspect.new.drives (g.V.Drives.moment c.args.drives.now) (g.V.Drives.moment c.inspect.new.drives) k c.inspect.ensures.left).1 settled

pub returns-in-Ok-Same-clause-images : goal.returns-in-Ok-Same-clause-images
returns-in-Ok-Same-clause-images g c = λ _ _. kept_contents g.V.Drives.moment g.V.Drives.may_leave c.args.drives.now c.inspect.new.drives c.inspect.ensures.changes

pub returns-in-Ok-Same-clause-images_unwritten : goal.returns-in-Ok-Same-clause-images_unwritten
returns-in-Ok-Same-clause-images_unwritten g c = λ _. kept_contents g.V.Drives.moment g.V.Drives.may_leave c.args.drives.now c.inspect.new.drives c.inspect.ensures.changes

pub returns-in-Ok-Same-clause-images_others : goal.returns-in-Ok-Same-clause-images_others
returns-in-Ok-Same-clause-images_others g c =
    read_others g.V.Drives.moment (ContentsLeft g.V.Drives.may_leave) c.args.n c.args.drives.now c.inspect.new.drives
    (kept_contents g.V.Drives.moment g.V.Drives.may_leave c.args.drives.now c.inspect.new.drives c.inspect.ensures.changes)

pub returns-in-Ok-Nothing-clause-kept_always : goal.returns-in-Ok-Nothing-clause-kept_always
returns-in-Ok-Nothing-clause-kept_always g c = λ k _ settled.
    (settled_left g.V.Drives.may_leave c.args.drives.now c.inspect.new.drives (g.V.Drives.moment c.args.drives.now) (g.V.Drives.moment c.inspect.new.drives) k c.inspect.ensures.left).1 settled

pub returns-in-Ok-Nothing-clause-images : goal.returns-in-Ok-Nothing-clause-images
returns-in-Ok-Nothing-clause-images g c = λ _ _. kept_contents g.V.Drives.moment g.V.Drives.may_leave c.args.drives.now c.inspect.new.drives c.inspect.ensures.changes

pub returns-in-Ok-Nothing-clause-images_unwritten : goal.returns-in-Ok-Nothing-clause-images_unwritten
returns-in-Ok-Nothing-clause-images_unwritten g c = λ _. kept_contents g.V.Drives.moment g.V.Drives.may_leave c.args.drives.now c.inspect.new.drives c.inspect.ensures.changes

pub returns-in-Ok-Nothing-clause-images_others : goal.returns-in-Ok-Nothing-clause-images_others
returns-in-Ok-Nothing-clause-images_others g c =
    read_others g.V.Drives.moment (ContentsLeft g.V.Drives.may_leave) c.args.n c.args.drives.now c.inspect.new.drives
    (kept_contents g.V.Drives.moment g.V.Drives.may_leave c.args.drives.now c.inspect.new.drives c.inspect.ensures.changes)

pub returns-in-Err-clause-kept_always : goal.returns-in-Err-clause-kept_always
returns-in-Err-clause-kept_always g c = λ k _ settled.
    (settled_left g.V.Drives.may_leave c.args.drives.now c.inspect.new.drives (g.V.Drives.moment c.args.drives.now) (g.V.Drives.moment c.inspect.new.drives) k c.inspect.ensures.left).1 settled

pub returns-in-Err-clause-images : goal.returns-in-Err-clause-images
returns-in-Err-clause-images g c = λ _ _. kept_contents g.V.Drives.moment g.V.Drives.may_leave c.args.drives.now c.inspect.new.drives c.inspect.ensures.changes

pub returns-in-Err-clause-images_unwritten : goal.returns-in-Err-clause-images_unwritten
returns-in-Err-clause-images_unwritten g c = λ _. kept_contents g.V.Drives.moment g.V.Drives.may_leave c.args.drives.now c.inspect.new.drives c.inspect.ensures.changes

pub returns-in-Err-clause-images_others : goal.returns-in-Err-clause-images_others
returns-in-Err-clause-images_others g c =
    read_others g.V.Drives.moment (ContentsLeft g.V.Drives.may_leave) c.args.n c.args.drives.now c.inspect.new.drives
    (kept_contents g.V.Drives.moment g.V.Drives.may_leave c.args.drives.now c.inspect.new.drives c.inspect.ensures.changes)

pub returns-in-Err-clause-unfailed : goal.returns-in-Err-clause-unfailed
returns-in-Err-clause-unfailed g c = λ h differ.
    of_other (λ (w : Half). (g.V.Drives.faults c.inspect.new.drives w ≡ g.V.Drives.faults c.args.drives.now w) × (g.V.Drives.last_fault c.inspect.new.drives w ≡ g.V.Drives.last_fault c.args.drives.now w))
    c.in-Err.half h differ (c.in-Err.ensures.other c.in-Err.half refl)

pub returns-in-Ok-Copied-clause-kept : goal.returns-in-Ok-Copied-clause-kept
returns-in-Ok-Copied-clause-kept g c = λ tells k which.
    let old = c.args.drives.now in
    let mid = c.inspect.new.drives in
    let ne : k ≢ c.args.n = elim which [ inl ne ↦ ne | inr none ↦ absurd (copy_wrote c.in-Ok-Copied.from c.copy.result c.copy.ensures.answer none) ] in
    let read = reads_settled g.V.Drives.seen g.V.Drives.moment g.V.Drives.may_leave old mid (c.inspect.ensures.same tells) k in
    let wrote = c.copy.ensures.kept tells k ne in
    (λ settled. read.0 (wrote.0 settled), λ settled. wrote.1 (read.1 settled))

pub returns-in-Ok-Copied-clause-kept_always : goal.returns-in-Ok-Copied-clause-kept_always
returns-in-Ok-Copied-clause-kept_always g c = λ k which settled.
    let ne : k ≢ c.args.n = elim which [ inl ne ↦ ne | inr none ↦ absurd (copy_wrote c.in-Ok-Copied.from c.copy.result c.copy.ensures.answer none) ] in
    c.copy.ensures.kept_always k ne
    ((settled_left g.V.Drives.may_leave c.args.drives.now c.inspect.new.drives (g.V.Drives.moment c.args.drives.now) (g.V.Drives.moment c.inspect.new.drives) k c.inspect.ensures.left).1 settled)

pub returns-in-Ok-Copied-clause-images : goal.returns-in-Ok-Copied-clause-images
returns-in-Ok-Copied-clause-images g c = λ tells rest.
    let old = c.args.drives.now in
    let mid = c.inspect.new.drives in
    let new = c.copy.new.drives in
    let n = c.args.n in
    let seen = g.V.Drives.seen in
    let left = g.V.Drives.may_leave in
    let now = g.V.Drives.moment in
    let same = c.inspect.ensures.same tells in
    let body = c.inspect.new.body in
    let found = subst (λ (m : Mended). IsPlan (block_on (seen old A) n) (block_on (seen old B) n) body m) c.in-Ok-Copied.field-0-is (c.in-Ok-Copied.ensures.found tells) in
    let found_a = subst (λ (w : List ℕ). IsPlan (block_on w n) (block_on (seen old B) n) body (Copied c.in-Ok-Copied.from)) (sym (same A)) found in
    let found_b = subst (λ (w : List ℕ). IsPlan (block_on (seen mid A) n) (block_on w n) body (Copied c.in-Ok-Copied.from)) (sym (same B)) found_a in
    write_nothing now (ContentsLeft left) n old mid new
    (kept_contents now left old mid c.inspect.ensures.changes)
    (c.copy.ensures.images tells (rest_kept seen now left old mid rest same c.inspect.ensures.left) found_b)

pub returns-in-Ok-Copied-clause-images_others : goal.returns-in-Ok-Copied-clause-images_others
returns-in-Ok-Copied-clause-images_others g c =
    write_others g.V.Drives.moment (ContentsLeft g.V.Drives.may_leave) c.args.n c.args.drives.now c.inspect.new.drives c.copy.new.drives
    (kept_contents g.V.Drives.moment g.V.Drives.may_leave c.args.drives.now c.inspect.new.drives c.inspect.ensures.changes) c.copy.ensures.images_others
