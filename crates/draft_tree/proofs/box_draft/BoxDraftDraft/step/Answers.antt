use Rattle.std.proofs.Common.{◌≡◌, sym, subst}
use Rattle.tree_model.specs.declared.step.Reply.{Reply}
use Rattle.draft_model.specs.Views.{View, copies}
use Rattle.draft_model.specs.Steps.{stepped, reply_in}
use Rattle.draft_model.specs.Stands.{Runs}
use Rattle.draft_model.proofs.Runs.{runs}
use Rattle.draft_model.specs.Entries.{shown}
use Rattle.draft_tree.proofs.Kept.{top_stepped, levels_stepped, top_same, levels_same}
use Rattle.draft_tree.proofs.box_draft.BoxDraftDraft.step.Goals as goal

pub invariant_of-self-2-clause-top : goal.invariant_of-self-2-clause-top
invariant_of-self-2-clause-top c =
    let d = shown c.args.self.now.pages in
    let step = c.args.step.now in
    top_same (stepped d step) (shown c.step.new.pages) c.in_ok-reply.ensures.view (top_stepped d step c.args.self.now.top)

pub invariant_of-self-2-clause-levels : goal.invariant_of-self-2-clause-levels
invariant_of-self-2-clause-levels c =
    let d = shown c.args.self.now.pages in
    let step = c.args.step.now in
    levels_same (stepped d step) (shown c.step.new.pages) c.in_ok-reply.ensures.view (levels_stepped d step c.args.self.now.levels)

pub returns-clause-runs : goal.returns-clause-runs
returns-clause-runs c =
    let d = shown c.args.self.now.pages in
    let step = c.args.step.now in
    let shows : stepped d step ≡ shown c.step.new.pages = λ i p. sym (c.in_ok-reply.ensures.view p) i in
    let F : View → Type 0 = λ v. Runs d v step (reply_in (copies d) step) in
    let G : Reply → Type 0 = λ r. Runs d (shown c.step.new.pages) step r in
    subst G (sym c.in_ok-reply.ensures.reply) (subst F shows (runs d step c.in_ok-reply.ensures.slots c.requires.none))
