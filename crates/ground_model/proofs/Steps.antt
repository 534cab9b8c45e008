-- The laws of steps, whole.
use Rattle.std.proofs.Common.{◌≡◌, ℕ, ◌≤◌, Some, sym, ap, ◌∙◌, subst}
use Rattle.page_places.specs.Places.{block_at}
use Rattle.service_model.specs.Sound.{IsOn}
use Rattle.service_model.specs.Standing.{Work}
use Rattle.store_model.specs.Laid.{LaidVersion}
use Rattle.store_model.specs.Laws.{pages_of}
use Rattle.draft_model.proofs.Keeping.{same_walk}
use Rattle.ground_model.specs.Laws.{LeftIsKept, LeavesGoOn, LineStepLeads, HeldWriteLeads, LinkLeads}
use Rattle.ground_model.specs.Leaves.{IsReliedOn, IsThereAgain}
use Rattle.ground_model.specs.Scenes.{Scene}
use Rattle.ground_model.proofs.Frames.{resting_stays, draft_stays, merged_stays, flush_stays}
use Rattle.ground_model.proofs.Known.{known_on}
use Rattle.ground_model.proofs.HeldWrites.{write_shared, write_versions, write_leaves}
use Rattle.ground_model.proofs.LineSteps.{line_shared, line_versions, line_leaves}
use Rattle.ground_model.proofs.Links.{link_shared, link_versions, link_leaves}

pub left_is_kept : LeftIsKept
left_is_kept k old new leaves = record {
  resting = resting_stays k old new leaves;
  draft = draft_stays k old new leaves;
  merged = merged_stays k old new leaves;
  flush = flush_stays k old new leaves;
}

pub line_step_leads : LineStepLeads
line_step_leads k old content states standing shared step = record {
  shared = line_shared k old content states standing shared step;
  versions = line_versions k old content states standing shared step;
  leaves = line_leaves k old content states standing shared step;
}

pub held_write_leads : HeldWriteLeads
held_write_leads k block old content shared write = record {
  shared = write_shared k block old content shared write;
  versions = write_versions k block old content shared write;
  leaves = write_leaves k block old content shared write;
}

pub link_leads : LinkLeads
link_leads k old new shared l noted latest walked = record {
  shared = link_shared k old new shared l noted latest walked;
  versions = link_versions k old new shared l noted latest walked;
  leaves = link_leaves k old new shared l noted latest walked;
}

-- ---- one step after the other

-- a version that is there again, and once more
pub there_twice : (old mid new : Scene) (object : ℕ) (version : LaidVersion) (one : IsThereAgain old mid object version) → IsThereAgain mid new object one.again → IsThereAgain old new object version
there_twice old mid new object version one two = record {
  again = two.again;
  is = two.is;
  serial = two.serial ∙ one.serial;
  block = two.block ∙ one.block;
  tree = two.tree ∙ one.tree;
  pages = λ p n at.
      let walk : block_at (pages_of mid.content) version.block p ≡ block_at (pages_of old.content) version.block p = same_walk (pages_of old.content) (pages_of mid.content) version.block one.pages p in
      let there : block_at (pages_of mid.content) one.again.block p ≡ Some n = ap (λ b. block_at (pages_of mid.content) b p) one.block ∙ walk ∙ at in
      two.pages p n there ∙ one.pages p n at;
}

pub leaves_go_on : LeavesGoOn
leaves_go_on k old mid new one two = record {
  client = two.client ∙ one.client;
  clients = two.clients ∙ one.clients;
  upkeep = λ up mine. (λ is. (two.upkeep up mine).0 ((one.upkeep up mine).0 is), λ is. (one.upkeep up mine).1 ((two.upkeep up mine).1 is));
  held = λ n is. (let a = one.held n is in let c = two.held n a.0 in (c.0, c.1 ∙ a.1));
  versions = λ w version relied. (let a = one.versions w version relied in there_twice old mid new w.object version a (two.versions w a.again (then_relied w version relied a)));
  made = λ w version relied m is object serial.
      let a = one.versions w version relied in
      one.made w version relied m
      (two.made w a.again (then_relied w version relied a) m is object (subst (λ n. m.serial ≤ n) (sym a.serial) serial))
      object serial;
  known = λ w on. known_on w.object old.standing.made mid.standing.made new.standing.made (one.known w on) (two.known w (on_mid w on));
}
  where
    on_mid : (w : Work) → IsOn old.standing k w → IsOn mid.standing k w
    on_mid w on = record { update = on.update; number = on.number; is_open = ap (λ c. c.update) one.client ∙ on.is_open; listed = on.listed }

    then_relied : (w : Work) (version : LaidVersion) (relied : IsReliedOn old k w version) (a : IsThereAgain old mid w.object version) → IsReliedOn mid k w a.again
    then_relied w version relied a = record { on = on_mid w relied.on; is = a.is; from = subst (λ n. w.serial ≤ n) (sym a.serial) relied.from }
