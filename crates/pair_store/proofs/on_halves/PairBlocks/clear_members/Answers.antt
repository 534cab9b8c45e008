use Rattle.std.proofs.Common.{◌≡◌, inl, inr, ℕ, Some, List, Err, sym, ◌∙◌, ap, subst}
use Rattle.std.proofs.lemmas.Result.{err_from_is_err_and, on_ok_weaker}
use Rattle.drives.specs.declared.device.Half.TheVariants.{A, B}
use Rattle.drives.specs.Changes.{Changes, halves_seen}
use Rattle.pair_store.specs.declared.fault.PairFault.{PairFault}
use Rattle.pair_store.specs.declared.fault.PairFault.TheVariants.{ReadFault}
use Rattle.pair_store.specs.Blocks.{OldOrNew, SameOthers}
use Rattle.pair_store.specs.Content.{ContentsLeft}
use Rattle.pair_store.specs.Pages.{without_members}
use Rattle.pair_store.specs.PairLaws.{settled_now}
use Rattle.pair_store.proofs.MendLaws.{rest_kept}
use Rattle.pair_store.proofs.PageWriting.{lifted, read_either, read_others, cleared, unrefused, write_either, write_others}
use Rattle.pair_store.proofs.on_halves.PairBlocks.clear_members.Goals as goal

pub returns-in_err-read_content-clause-unread : goal.returns-in_err-read_content-clause-unread
returns-in_err-read_content-clause-unread g c = λ h is.
    let p = err_from_is_err_and c.from_residual.result c.from_residual.ensures.1 in
    let same : c.in_err-read_content.field-0.0 ≡ ReadFault h = cc (p.1, p.2, is) in
    c.in_err-read_content.ensures.unread h (ap (λ (e : PairFault). Err e) same)

pub returns-in_err-read_content-clause-kept_always : goal.returns-in_err-read_content-clause-kept_always
returns-in_err-read_content-clause-kept_always g c = λ _ k _ settled. (c.read_content.ensures.kept_always k).1 settled

pub returns-in_err-read_content-clause-images : goal.returns-in_err-read_content-clause-images
returns-in_err-read_content-clause-images g c = λ tells settled body is.
    lifted _ g.V.Drives.moment (ContentsLeft g.V.Drives.may_leave) _ _ (OldOrNew c.args.n (without_members body))
    (read_either g.V.Drives.moment (ContentsLeft g.V.Drives.may_leave) c.args.n (without_members body) c.args.self.now.drives c.read_content.new.drives c.read_content.ensures.images)

pub returns-in_err-read_content-clause-images_others : goal.returns-in_err-read_content-clause-images_others
returns-in_err-read_content-clause-images_others g c =
    lifted _ g.V.Drives.moment (ContentsLeft g.V.Drives.may_leave) _ _ (SameOthers c.args.n)
    (read_others g.V.Drives.moment (ContentsLeft g.V.Drives.may_leave) c.args.n c.args.self.now.drives c.read_content.new.drives c.read_content.ensures.images)

pub returns-in-Err-clause-kept_always : goal.returns-in-Err-clause-kept_always
returns-in-Err-clause-kept_always g c = λ _ k _ settled. (c.read_content.ensures.kept_always k).1 settled

pub returns-in-Err-clause-images : goal.returns-in-Err-clause-images
returns-in-Err-clause-images g c = λ tells settled body is.
    lifted _ g.V.Drives.moment (ContentsLeft g.V.Drives.may_leave) _ _ (OldOrNew c.args.n (without_members body))
    (read_either g.V.Drives.moment (ContentsLeft g.V.Drives.may_leave) c.args.n (without_members body) c.args.self.now.drives c.read_content.new.drives c.read_content.ensures.images)

pub returns-in-Err-clause-images_others : goal.returns-in-Err-clause-images_others
returns-in-Err-clause-images_others g c =
    lifted _ g.V.Drives.moment (ContentsLeft g.V.Drives.may_leave) _ _ (SameOthers c.args.n)
    (read_others g.V.Drives.moment (ContentsLeft g.V.Drives.may_leave) c.args.n c.args.self.now.drives c.read_content.new.drives c.read_content.ensures.images)

pub returns-in-Ok-clause-answer : goal.returns-in-Ok-clause-answer
returns-in-Ok-clause-answer g c = λ tells settled.
    let edited = c.in-Ok.ensures in
    cleared c.args.n _ c.write_content.result c.write_content.ensures.only (c.read_content.new.into, edited.0, c.in_ok-read_content.ensures.given tells settled, edited.1)

pub returns-in-Ok-clause-images : goal.returns-in-Ok-clause-images
returns-in-Ok-clause-images g c = λ tells settled body is.
    let old = c.args.self.now.drives in
    let given : Some body ≡ Some c.read_content.new.into = sym is ∙ c.in_ok-read_content.ensures.given tells (settled_now g.V.Drives.may_leave old (g.V.Drives.moment old) (halves_seen g.V.Drives.seen old) (g.met.V.Drives.left_read old A tells) (g.met.V.Drives.left_read old B tells) c.args.n settled) in
    let same : body ≡ c.read_content.new.into = cc given in
    let edited = c.in-Ok.ensures in
    let wrote = subst (λ (b : List ℕ). Changes g.V.Drives.moment (ContentsLeft g.V.Drives.may_leave) c.read_content.new.drives c.write_content.new.drives (OldOrNew c.args.n b))
    (edited.2.is ∙ ap (λ (b : List ℕ). without_members b) (sym same)) (c.write_content.ensures.images tells ((c.read_content.ensures.kept_always c.args.n).1 settled)) in
    lifted _ g.V.Drives.moment (ContentsLeft g.V.Drives.may_leave) _ _ (OldOrNew c.args.n (without_members body))
    (write_either g.V.Drives.moment (ContentsLeft g.V.Drives.may_leave) c.args.n old c.read_content.new.drives c.write_content.new.drives c.read_content.ensures.images (without_members body) wrote)

pub returns-in-Ok-clause-images_others : goal.returns-in-Ok-clause-images_others
returns-in-Ok-clause-images_others g c =
    lifted _ g.V.Drives.moment (ContentsLeft g.V.Drives.may_leave) _ _ (SameOthers c.args.n)
    (write_others g.V.Drives.moment (ContentsLeft g.V.Drives.may_leave) c.args.n c.args.self.now.drives c.read_content.new.drives c.write_content.new.drives c.read_content.ensures.images c.write_content.ensures.images_others)

pub returns-in-Ok-clause-settles_only : goal.returns-in-Ok-clause-settles_only
returns-in-Ok-clause-settles_only g c = λ tells k apart settled.
    elim apart [
      | inl ne ↦ (c.read_content.ensures.kept tells k).0 ((c.write_content.ensures.kept tells k ne).0 settled)
      | inr never ↦ absurd (unrefused c.write_content.result c.write_content.ensures.only never)
    ]

pub returns-in-Ok-clause-kept_always : goal.returns-in-Ok-clause-kept_always
returns-in-Ok-clause-kept_always g c = λ _ k apart settled.
    elim apart [
      | inl ne ↦ c.write_content.ensures.kept_always k ne ((c.read_content.ensures.kept_always k).1 settled)
      | inr never ↦ absurd (unrefused c.write_content.result c.write_content.ensures.only never)
    ]

pub returns-in-Ok-clause-images_done : goal.returns-in-Ok-clause-images_done
returns-in-Ok-clause-images_done g c = λ tells settled body is.
    let given : Some body ≡ Some c.read_content.new.into = sym is ∙ c.in_ok-read_content.ensures.given tells (settled) in
    let same : body ≡ c.read_content.new.into = cc given in
    let edited = c.in-Ok.ensures in
    on_ok_weaker c.write_content.result (λ done f image. done f image ∙ ap (λ (b : List ℕ). Some b) (edited.2.is ∙ ap (λ (b : List ℕ). without_members b) (sym same)))
    (c.write_content.ensures.images_done tells)

pub returns-in_err-read_content-clause-rest_kept : goal.returns-in_err-read_content-clause-rest_kept
returns-in_err-read_content-clause-rest_kept g c = λ tells alone rest.
    rest_kept g.V.Drives.seen g.V.Drives.moment g.V.Drives.may_leave c.args.self.now.drives c.read_content.new.drives rest (c.read_content.ensures.seen tells) c.read_content.ensures.left

pub returns-in-Err-clause-rest_kept : goal.returns-in-Err-clause-rest_kept
returns-in-Err-clause-rest_kept g c = λ tells alone rest.
    rest_kept g.V.Drives.seen g.V.Drives.moment g.V.Drives.may_leave c.args.self.now.drives c.read_content.new.drives rest (c.read_content.ensures.seen tells) c.read_content.ensures.left

pub returns-in-Ok-clause-rest_kept : goal.returns-in-Ok-clause-rest_kept
returns-in-Ok-clause-rest_kept g c = λ tells never.
    absurd (unrefused c.write_content.result c.write_content.ensures.only never)
