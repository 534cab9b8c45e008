use Rattle.pool_draft.proofs.Looks.{look_found, look_gap, look_short}
use Rattle.pool_draft.proofs.frame_pages.FramePagesPageList.look.Goals as goal

pub returns-in-Ok-clause-look : goal.returns-in-Ok-clause-look
returns-in-Ok-clause-look c = look_found c.args.self.now c.in-Ok.k c.args.at.now _ c.find.ensures.held c.in-Ok.ensures.found.1 c.look_at.ensures

pub returns-in-Ok-clause-short : goal.returns-in-Ok-clause-short
returns-in-Ok-clause-short c = look_short c.args.self.now c.find.ensures.held

pub returns-in-Err-clause-look : goal.returns-in-Err-clause-look
returns-in-Err-clause-look c = look_gap c.args.self.now c.in-Err.field-0 c.args.at.now c.find.ensures.held c.in-Err.ensures.gap.1

pub returns-in-Err-clause-short : goal.returns-in-Err-clause-short
returns-in-Err-clause-short c = look_short c.args.self.now c.find.ensures.held
