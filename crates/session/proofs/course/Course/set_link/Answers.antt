use Rattle.std.proofs.Common.{◌≡◌, sym, ◌∙◌, arith}
use Rattle.session.specs.Links.{IsToLink}
use Rattle.session.specs.Safe.{root_of}
use Rattle.session.proofs.Drafts.{has_draft, root_is}
use Rattle.session.proofs.Linking.{fails_by, tried_rest, tries_by, zero_call}
use Rattle.session.proofs.course.Course.set_link.Goals as goal

pub returns-then-get-eq0 : goal.returns-then-get-eq0
returns-then-get-eq0 g c =
    zero_call g.B.Blocks c.args.script.now c.args.common.now c.args.self.now c.args.flush.now c.top-top.result c.top-top.ensures _ c.requires.ready (sym c.get.ensures.value ∙ c.if-get-eq0.true)

pub returns : goal.returns
returns g c =
    let b = g.B.Blocks in
    let script = c.args.script.now in
    let common = c.args.common.now in
    let s = c.args.self.now in
    let flush = c.args.flush.now in
    let top = c.top-top.result in
    let draft = has_draft b script common s c.requires.ready c.requires.draft in
    let to_link : IsToLink b script common s flush top =
    record {
      ready = c.requires.ready;
      draft = draft;
      safe = c.requires.flush;
      all = c.requires.all;
      first = c.top-top.ensures;
      named = (let value = c.get.ensures.value in let some = c.if-get-eq0.false in omega (arith, value, some));
      numbered = (let value = c.get.ensures.value in let range = c.get.ensures.range in omega (arith, value, range));
      open_to = c.requires.open;
    } in
    let base : c.root.result ≡ root_of s = c.root.ensures.value ∙ root_is s draft in
    let e = c.test_and_set-tested.ensures in
    c.after_test.ensures common flush
    (tries_by b script common c.test_and_set-tested.new.self s flush top c.root.result c.test_and_set-tested.result to_link base
    (record {
      answer = e.answer;
      written = e.written;
      either = e.either;
      unwritten = e.unwritten;
      others = e.others;
      settles = e.settles;
      settles_always = e.settles_always;
      kept = e.kept;
      kept_always = e.kept_always;
      images = e.images;
      images_unwritten = e.images_unwritten;
      later = e.images_others.later;
      size = e.size;
    })
    (tried_rest b common.store c.test_and_set-tested.new.self c.test_and_set-tested.result e.rest e.rest_kept) e.counted e.later (fails_by b common.store c.test_and_set-tested.new.self c.root.result top c.test_and_set-tested.result e.unread e.stopped))
