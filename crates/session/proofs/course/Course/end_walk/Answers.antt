use Rattle.std.proofs.Common.{refl, ap, subst}
use Rattle.draft_model.specs.Views.{View}
use Rattle.joint_walk.specs.Calls.{Ends}
use Rattle.pool_draft.specs.Sets.{view_at}
use Rattle.session.specs.Own.{IsClashing, IsMerged, IsWalkingBy}
use Rattle.session.proofs.Calling.{moved_call}
use Rattle.session.proofs.Drafts.{has_draft}
use Rattle.session.proofs.WalkDrafts.{IsCalled, called_view, same_draft, still_picked}
use Rattle.session.proofs.WalkEnds.{clashes_move, merges_move}
use Rattle.session.proofs.course.Course.end_walk.Goals as goal

pub returns-in-Ok : goal.returns-in-Ok
returns-in-Ok g c =
    let b = g.B.Blocks in
    let script = c.args.script.now in
    let common = c.args.common.now in
    let s = c.args.self.now in
    let walk = c.args.walk in
    let e = c.finish.ensures in
    let new = c.finish.new.draft in
    let draft = has_draft b script common s c.requires.ready c.requires.draft in
    let called : IsCalled s.drafts new = record { root = e.same.root; object = e.same.object; serial = e.same.serial; count = e.same.count; rest = e.rest } in
    let same = same_draft s new c.requires.draft draft.picked called in
    let picked = still_picked s new c.requires.draft draft.picked called in
    moved_call b (IsWalkingBy walk) IsMerged script common common c.decide.new.common s (record s { drafts = new }) c.decide.new.self c.decide.result c.requires.ready.line
    (merges_move b script common s (record s { drafts = new }) c.requires.ready c.requires.draft same (record { client = refl; replies = refl; rights = refl; held = refl; stage = refl; turns = refl }) walk
    (let F : View → Type 0 = λ d. Ends walk d walk.clash in subst F (ap (view_at new) picked) e.ends)
    (called_view s new c.requires.draft draft.picked called e.draft) c.in-Ok.ensures.result)
    c.decide.ensures refl

pub returns-in-Err : goal.returns-in-Err
returns-in-Err g c =
    let b = g.B.Blocks in
    let script = c.args.script.now in
    let common = c.args.common.now in
    let s = c.args.self.now in
    let walk = c.args.walk in
    let e = c.finish.ensures in
    let new = c.finish.new.draft in
    let clash = c.in-Err.clash in
    let draft = has_draft b script common s c.requires.ready c.requires.draft in
    let called : IsCalled s.drafts new = record { root = e.same.root; object = e.same.object; serial = e.same.serial; count = e.same.count; rest = e.rest } in
    let same = same_draft s new c.requires.draft draft.picked called in
    let picked = still_picked s new c.requires.draft draft.picked called in
    moved_call b (IsWalkingBy walk) (IsClashing (clash.path, clash.kind)) script common common c.refuse_clash.new.common s (record s { drafts = new }) c.refuse_clash.new.self c.refuse_clash.result
    c.requires.ready.line
    (clashes_move b script common s (record s { drafts = new }) c.requires.ready c.requires.draft same (record { client = refl; replies = refl; rights = refl; held = refl; stage = refl; turns = refl }) walk
    (let F : View → Type 0 = λ d. Ends walk d walk.clash in subst F (ap (view_at new) picked) e.ends)
    (called_view s new c.requires.draft draft.picked called e.draft) clash.path clash.kind c.in-Err.ensures.result)
    c.refuse_clash.ensures refl
