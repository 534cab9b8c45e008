use Rattle.session.proofs.WalkDrafts.{IsCalled, taken_by}
use Rattle.session.proofs.course.Course.take_page.Goals as goal

pub returns : goal.returns
returns c =
    let same = c.feed-by.ensures.same in
    let called : IsCalled c.args.self.now.drafts c.feed-by.new.draft = record { root = same.root; object = same.object; serial = same.serial; count = same.count; rest = c.feed-by.ensures.rest } in
    taken_by c.args.self.now c.feed-by.new.draft c.requires.draft c.requires.picked called c.args.walk c.feed-by.new.self c.args.page.now c.walk_further.new.self c.walk_further.result
    c.feed-by.ensures.feeds c.walk_further.ensures
