use Rattle.std.proofs.Common.{◌≡◌, ◌≤◌, ◌<◌, inl, inr, ℕ, length, Ok, Some, slice_get, sym, ap, subst, ◌∙◌, arith}
use Rattle.afs_base.specs.declared.head.Head.{Head}
use Rattle.endings.specs.declared.ended.Ended.{Ended}
use Rattle.pair_store.specs.contracts.on_halves.PairBlocks.TheImpl.{ghosts}
use Rattle.recovery.specs.Opening.{IsOpened, over_of}
use Rattle.store_commands.specs.Opening.{OnlyOpened, contents_on}
use Rattle.store_model.specs.Found.{found, state_in, state_of}
use Rattle.playing.specs.Calls.{RunCall}
use Rattle.playing.proofs.Calling.{opened_call}
use Rattle.playing.proofs.Unopened.{unopened_call}
use Rattle.playing.proofs.play.play_scripts.Goals as goal

pub play_opened-requires-clause-within : goal.play_opened-requires-clause-within
play_opened-requires-clause-within g c =
    let size = c.in-Ok.ensures.size in
    let fits : length c.in-Ok.opened.map ≤ g.V.Drives.size c.args.drives = c.in-Ok.ensures.fits in
    let within : (k : ℕ) (head : Head) → slice_get c.in-Ok.opened.heads.items k ≡ Some (Some head) → head.block < g.V.Drives.size c.args.drives = c.in-Ok.ensures.within in
    record {
      map = omega (arith, fits, size);
      heads = λ k head at. (let low = within k head at in omega (arith, low, size));
    }

pub returns-in-Ok : goal.returns-in-Ok
returns-in-Ok g c =
    let V = g.V.Drives in
    let p = ghosts g.row.V g.V.Drives g.V.Drives-dict in
    let e = c.in-Ok.ensures in
    let start = c.args.drives in
    let opened = c.in-Ok.opened in
    let mid = opened.pair.drives in
    let only : OnlyOpened V start mid = record {
      same = λ t. e.same t;
      images = λ t r. e.images t r;
      later = λ h. e.later h;
      size_same = e.size;
    } in
    opened_call V p g.K.Sink c.args.words.now c.args.scripts.items start (over_of opened)
    c.args.out.now c.play_opened.new.out c.play_opened.result only (λ d. g.met.V.Drives.clock d)
    (λ t r. e.rest t r tt)
    (λ t first speaks. let is = e.opened t in
    let now = ap state_of is.laid in
    let F : ℕ → Type 0 = λ n.
    found (contents_on V mid) n ≡ Ok (state_in is.store) in
    let at : IsOpened (contents_on V mid) (V.size mid) opened.table opened.map opened.heads.items =
    subst (λ n. IsOpened (contents_on V mid) n opened.table opened.map opened.heads.items) (sym e.size) is in
    record {
      state = state_in is.store;
      before_is = sym (e.same t) ∙ now;
      tells = t;
      opening = record {
        opened = at;
        settled = e.settled t;
        images = elim speaks [
          | inl calm ↦ inl (e.opening t calm.0, e.since ∙ sym calm.1)
          | inr never ↦ inr (λ d. never d.drives)
        ];
      };
      found_now = subst F (sym e.size) now;
    })
    (λ d r. r) (λ d r. r) c.play_opened.ensures

pub returns-in-Err : goal.returns-in-Err
returns-in-Err g c =
    let V = g.V.Drives in
    let p = ghosts g.row.V g.V.Drives g.V.Drives-dict in
    let e = c.in-Err.ensures in
    let start = c.args.drives in
    let after = c.in-Err.unopened.drives in
    let result = c.without_journal.result in
    let only : OnlyOpened V start after = record {
      same = λ t. e.same t;
      images = λ t r. e.images t r;
      later = λ h. e.later h;
      size_same = e.size;
    } in
    let status = c.end_refused-status.result in
    let at : Ended g.row.V.Denot = record { status = status; drives = after; journal = result.journal } in
    let same : at ≡ result = λ i. record {
      status = sym c.without_journal.ensures.status i;
      drives = sym c.without_journal.ensures.drives i;
      journal = result.journal;
    } in
    let C : Ended g.row.V.Denot → Type 0 = λ x. RunCall V p g.K.Sink c.args.words.now c.args.scripts.items start c.args.out.now x c.end_refused-status.new.out in
    subst C same
    (unopened_call V p g.K.Sink c.args.words.now c.args.scripts.items start after result.journal c.args.out.now c.end_refused-status.new.out only c.without_journal.ensures.noted
    c.end_refused-status.ensures.later c.in-Err.unopened.why status c.end_refused-status.ensures.ends
    (λ t. e.bad t) (λ h is. e.unread h is) (λ h is. e.unwritten h is) (λ t r unwritten. e.rest t r unwritten))
