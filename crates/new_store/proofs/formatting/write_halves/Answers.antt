use Rattle.std.proofs.Common.{ℕ, Option, List, subst, sym}
use Rattle.pair_store.specs.Content.{ContentsLeft, IsSettledAlways}
use Rattle.new_store.specs.Formatting.{IsFilled, SameBeyond}
use Rattle.new_store.specs.Layout.{HasNewStore}
use Rattle.new_store.proofs.FormatLaws.{lowered, moved}
use Rattle.new_store.proofs.formatting.write_halves.Goals as goal

pub returns-in-Ok-clause-kept_always : goal.returns-in-Ok-clause-kept_always
returns-in-Ok-clause-kept_always g c = λ k beyond settled.
    let before = subst (λ (d : g.row.V.Denot). IsSettledAlways g.V.Drives.may_leave d (g.V.Drives.moment d) k) (sym c.over-pair.ensures.drives) settled in
    subst (λ (d : g.row.V.Denot). IsSettledAlways g.V.Drives.may_leave d (g.V.Drives.moment d) k) (sym c.into_drives.ensures) (c.in-Ok.ensures.kept_always k beyond before)

pub returns-in-Ok-clause-images : goal.returns-in-Ok-clause-images
returns-in-Ok-clause-images g c = λ tells settled.
    let before = subst (λ (d : g.row.V.Denot). IsSettledAlways g.V.Drives.may_leave d (g.V.Drives.moment d) 0) (sym c.over-pair.ensures.drives) settled in
    moved g.V.Drives.moment (ContentsLeft g.V.Drives.may_leave) _ _ _ _ (IsFilled c.args.store.now) c.over-pair.ensures.drives (sym c.into_drives.ensures)
    (lowered _ g.V.Drives.moment (ContentsLeft g.V.Drives.may_leave) _ _ (IsFilled c.args.store.now) (c.write_store.ensures.images tells before))

pub returns-in-Ok-clause-images_beyond : goal.returns-in-Ok-clause-images_beyond
returns-in-Ok-clause-images_beyond g c =
    moved g.V.Drives.moment (ContentsLeft g.V.Drives.may_leave) _ _ _ _ (SameBeyond c.args.store.now.files) c.over-pair.ensures.drives (sym c.into_drives.ensures)
    (lowered _ g.V.Drives.moment (ContentsLeft g.V.Drives.may_leave) _ _ (SameBeyond c.args.store.now.files) c.write_store.ensures.images_beyond)

pub returns-in-Ok-clause-images_done : goal.returns-in-Ok-clause-images_done
returns-in-Ok-clause-images_done g c = λ tells.
    subst (λ (d : g.row.V.Denot). (f : ℕ → Option (List ℕ)) → ContentsLeft g.V.Drives.may_leave d (g.V.Drives.moment d) f → HasNewStore c.args.store.now f) (sym c.into_drives.ensures) (c.in-Ok.ensures.images_done tells)

pub returns-in-Err-clause-images : goal.returns-in-Err-clause-images
returns-in-Err-clause-images g c = λ tells settled.
    let before = subst (λ (d : g.row.V.Denot). IsSettledAlways g.V.Drives.may_leave d (g.V.Drives.moment d) 0) (sym c.over-pair.ensures.drives) settled in
    moved g.V.Drives.moment (ContentsLeft g.V.Drives.may_leave) _ _ _ _ (IsFilled c.args.store.now) c.over-pair.ensures.drives (sym c.into_drives-in-Err.ensures)
    (lowered _ g.V.Drives.moment (ContentsLeft g.V.Drives.may_leave) _ _ (IsFilled c.args.store.now) (c.write_store.ensures.images tells before))

pub returns-in-Err-clause-images_beyond : goal.returns-in-Err-clause-images_beyond
returns-in-Err-clause-images_beyond g c =
    moved g.V.Drives.moment (ContentsLeft g.V.Drives.may_leave) _ _ _ _ (SameBeyond c.args.store.now.files) c.over-pair.ensures.drives (sym c.into_drives-in-Err.ensures)
    (lowered _ g.V.Drives.moment (ContentsLeft g.V.Drives.may_leave) _ _ (SameBeyond c.args.store.now.files) c.write_store.ensures.images_beyond)
