use Rattle.std.proofs.Common.{◌≡◌, ℕ, Err, sym, ap, ◌∙◌, append-nil}
use Rattle.std.proofs.lemmas.Result.{err_from_is_err_and}
use Rattle.store_model.specs.Laws.{pages_of}
use Rattle.store_check.proofs.ReadOnly.{none_read, read_on}
use Rattle.store_check.specs.declared.refused.WalkRefused.{WalkRefused}
use Rattle.tree_listing.proofs.Moving.{gives_exit, stopped_since, unread_since}
use Rattle.store_commands.proofs.Listed.{listed_more, listed_none, object_at, object_on, told_end, told_more}
use Rattle.store_commands.proofs.showing.append_objects.Goals as goal

pub objects-init : goal.objects-init
objects-init g c =
    let b = g.B.Blocks in record {
      only = none_read b c.args.store.now (g.met.B.Blocks.clock c.args.store.now);
      listed = listed_none c.args.text.now.items;
      told = λ told files are. sym (append-nil c.args.text.now.items);
    }

pub returns-in_err-append_object-clause-only : goal.returns-in_err-append_object-clause-only
returns-in_err-append_object-clause-only g c =
    let b = g.B.Blocks in
    read_on b c.args.store.now c.objects.store c.append_object.new.store
    c.objects.invariant.only c.in_err-append_object.ensures.only

pub returns-in_err-append_object-clause-shown : goal.returns-in_err-append_object-clause-shown
returns-in_err-append_object-clause-shown g c = λ told files are.
    let b = g.B.Blocks in
    let s = c.args.store.now in
    let heads = c.args.heads.now in
    let k : ℕ = c.objects.k in
    let head = c.index-heads-k.result in
    let at = object_at (b.settled s) (b.size s) (pages_of (b.content s)) heads files k head c.index-heads-k.is c.objects-test.true are in
    let p = err_from_is_err_and c.from_residual.result c.from_residual.ensures.1 in
    gives_exit _ c.from_residual.result c.in_err-append_object.field-0.0 (p.1 ∙ ap Err p.2)
    (c.in_err-append_object.ensures.shown told at.file
    (object_on b s c.objects.store c.objects.invariant.only told head at.file at.is))

pub returns-in_err-append_object-clause-stopped : goal.returns-in_err-append_object-clause-stopped
returns-in_err-append_object-clause-stopped g c = λ told files are h is.
    let b = g.B.Blocks in
    let s = c.args.store.now in
    let heads = c.args.heads.now in
    let k : ℕ = c.objects.k in
    let head = c.index-heads-k.result in
    let at = object_at (b.settled s) (b.size s) (pages_of (b.content s)) heads files k head c.index-heads-k.is c.objects-test.true are in
    let p = err_from_is_err_and c.from_residual.result c.from_residual.ensures.1 in
    let one : c.in_err-append_object.field-0.0 ≡ WalkRefused.ReadFault h = cc in
    stopped_since b s c.objects.store c.append_object.new.store h c.objects.invariant.only
    (c.in_err-append_object.ensures.stopped told at.file
    (object_on b s c.objects.store c.objects.invariant.only told head at.file at.is)
    h (ap Err one))

pub returns-in_err-append_object-clause-unread : goal.returns-in_err-append_object-clause-unread
returns-in_err-append_object-clause-unread g c = λ h is.
    let b = g.B.Blocks in
    let p = err_from_is_err_and c.from_residual.result c.from_residual.ensures.1 in
    let one : c.in_err-append_object.field-0.0 ≡ WalkRefused.ReadFault h = cc in
    unread_since b c.args.store.now c.objects.store c.append_object.new.store h
    c.objects.invariant.only (c.in_err-append_object.ensures.unread h (ap Err one))

pub objects-preserved : goal.objects-preserved
objects-preserved g c =
    let b = g.B.Blocks in
    let s = c.args.store.now in
    let heads = c.args.heads.now in
    let k : ℕ = c.objects.k in
    let head = c.index-heads-k.result in
    let i = c.objects.invariant in
    let e = c.in_ok-append_object.ensures in
    let old = c.args.text.now.items in
    let mid = c.objects.text.items in
    let new = c.append_object.new.text.items in
    record {
      only = read_on b s c.objects.store c.append_object.new.store i.only e.only;
      listed = listed_more old mid new k i.listed e.lines;
      told = λ told files are.
          let at = object_at (b.settled s) (b.size s) (pages_of (b.content s)) heads files k head c.index-heads-k.is c.objects-test.true are in
          told_more old mid new k files (b.settled s) (b.size s) (pages_of (b.content s)) head at (i.told told files are)
          (e.shown told at.file
          (object_on b s c.objects.store i.only told head at.file at.is));
    }

pub returns-clause-shown : goal.returns-clause-shown
returns-clause-shown g c = λ told files are.
    let b = g.B.Blocks in
    let s = c.args.store.now in
    told_end c.args.text.now.items c.objects.text.items (b.settled s) (b.size s) (pages_of (b.content s)) c.args.heads.now files c.objects.k c.objects-test.false are
    (c.objects.invariant.told told files are)
