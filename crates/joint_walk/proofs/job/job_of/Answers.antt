use Rattle.std.proofs.Common.{◌≡◌, length, ap, sym, ◌∙◌, arith}
use Rattle.page_codec.specs.Blank.{empty_page}
use Rattle.page_codec.specs.Values.{PageValue}
use Rattle.joint_walk.proofs.Slots.{page_given, level_given}
use Rattle.joint_walk.proofs.job.job_of.Goals as goal

pub invariant_of-result : goal.invariant_of-result
invariant_of-result g c =
    level_given (g.D.Draft.view c.args.draft.now) c.args.at.now c.page-live.result c.empty-mine.result c.page-live.new.into
    (g.met.D.Draft.levels c.args.draft.now c.requires.ready) (ap (λ (p : PageValue). p.level) c.empty-mine.ensures ∙ c.len.ensures.value) c.page-live.ensures
    ∙ sym c.requires.level

pub returns : goal.returns
returns g c =
    let level : c.page-live.new.into.level ≡ length c.args.at.now =
    level_given (g.D.Draft.view c.args.draft.now) c.args.at.now c.page-live.result c.empty-mine.result c.page-live.new.into
    (g.met.D.Draft.levels c.args.draft.now c.requires.ready) (ap (λ (p : PageValue). p.level) c.empty-mine.ensures ∙ c.len.ensures.value) c.page-live.ensures in
    record {
      mine = page_given (g.D.Draft.view c.args.draft.now) c.args.at.now c.page-live.result c.empty-mine.result c.page-live.new.into (c.empty-mine.ensures ∙ ap empty_page c.len.ensures.value) c.page-live.ensures;
      marks = c.flags.ensures.value;
      searched = c.slots-slots.ensures.searched;
      modified = c.slots-slots.ensures.modified;
      theirs_is = λ i. c.args.theirs.now;
      changed_is = λ i. c.args.changed;
      kept = c.kept_slots.ensures;
      sixteen = c.look_at.ensures.whole;
      short = omega (arith, c.len.ensures.value, c.len.ensures.short);
      leaf = λ deep k. (c.look_at.ensures.leaf (level ∙ deep) k, c.look_at-2.ensures.leaf (c.requires.level ∙ deep) k);
    }
