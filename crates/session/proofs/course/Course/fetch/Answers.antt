use Rattle.std.proofs.Common.{ℕ, length, Ok, Err, subst, arith}
use Rattle.page_codec.specs.declared.why.Why.TheVariants.{Level}
use Rattle.ground_model.proofs.LineTurns.{line_turn_stands, read_turn_stands}
use Rattle.ground_model.proofs.Stopping.{read_stops}
use Rattle.session.specs.Own.{IsAtRest}
use Rattle.session.specs.Reads.{IsPageOf, ReadCall}
use Rattle.session.proofs.Fetching.{fed_is_lost, fetched_call, is_fed, wanted_is_known}
use Rattle.session.proofs.Never.{never_call}
use Rattle.session.proofs.ReadTurns.{read_stopped}
use Rattle.session.proofs.Drafting.{on_picked}
use Rattle.session.proofs.course.Course.fetch.Goals as goal

pub returns-then-fed-ge-MAX_FED : goal.returns-then-fed-ge-MAX_FED
returns-then-fed-ge-MAX_FED g c = λ script step ready command rights few wants.
    never_call g.B.Blocks IsAtRest script c.args.common.now c.args.self.now c.args.block Level ready
    (λ told. fed_is_lost g.B.Blocks script c.args.common.now c.args.self.now step c.args.path.now c.args.block command c.requires.draft wants
    (omega (arith, c.fed.ensures.value)) (omega (arith, c.len-level.ensures.value, c.len-level.ensures.short)))

pub returns-in-Ok-feed : goal.returns-in-Ok-feed
returns-in-Ok-feed g c = λ script step ready command rights few wants.
    let s = c.args.self.now in
    let was_fed = is_fed s.drafts c.feed.new.self c.args.path.now c.in-Ok.page (on_picked s.drafts c.feed.new.self c.in-Ok-feed.ensures.rest c.in-Ok-feed.ensures.same)
    c.in-Ok-feed.ensures.feeds c.in-Ok-feed.ensures.fed c.in-Ok-feed.ensures.count c.in-Ok-feed.ensures.more in
    fetched_call g.B.Blocks script c.args.common.now c.read_page.new.self s step c.args.path.now c.args.block c.in-Ok.page command c.requires.draft rights few wants
    c.feed.new.self was_fed
    (subst (λ (n : ℕ). ReadCall g.B.Blocks (IsPageOf n) c.args.common.now c.read_page.new.self c.args.block (Ok c.in-Ok.page)) c.len-level.ensures.value c.in-Ok.ensures.read)
    (λ told. line_turn_stands g.B.Blocks (λ d n f always left. g.met.B.Blocks.settled_left d n f told always left))
    (λ told. read_turn_stands g.B.Blocks (λ d n f always left. g.met.B.Blocks.settled_left d n f told always left))
    ready c.go_on.new.self c.go_on.ensures

pub returns-in-Err : goal.returns-in-Err
returns-in-Err g c = λ script step ready command rights few wants.
    read_stopped g.B.Blocks (IsPageOf (length c.args.path.now)) c.args.common.now c.read_page.new.self c.args.block c.in-Err.fault
    (subst (λ (n : ℕ). ReadCall g.B.Blocks (IsPageOf n) c.args.common.now c.read_page.new.self c.args.block (Err c.in-Err.fault)) c.len-level.ensures.value c.in-Err.ensures.read)
    script c.args.self.now IsAtRest ready
    (λ told opening scripts first scene at. wanted_is_known g.B.Blocks script c.args.common.now c.args.self.now step c.args.path.now c.args.block command c.requires.draft wants opening scripts first scene at)
    (λ told. read_stops g.B.Blocks (λ d n f always left. g.met.B.Blocks.settled_left d n f told always left))
