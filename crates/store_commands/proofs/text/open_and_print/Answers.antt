use Rattle.std.proofs.Common.{◌≡◌, ℕ, ◌<◌, ◌≤◌, List, length, Option, None, Ok, map, sym, ap, subst, ◌∙◌, arith}
use Rattle.afs_base.specs.Causes.{Rose}
use Rattle.afs_base.specs.declared.head.Head.{Head}
use Rattle.drives.specs.declared.device.Half.{Half}
use Rattle.drives.specs.Changes.{Changes, halves_seen}
use Rattle.pair_store.specs.Blocks.{SameContents}
use Rattle.pair_store.specs.Content.{ContentsLeft, IsSettled, content_of}
use Rattle.pair_store.specs.Faults.{IsStopped, IsUnread}
use Rattle.store_model.specs.Found.{file_in, found, state_in, state_of}
use Rattle.store_model.specs.Laws.{pages_of}
use Rattle.tree_model.specs.States.{File, State}
use Rattle.recovery.specs.Opening.{IsNoStore, IsOpened}
use Rattle.store_commands.specs.Asked.{text_of}
use Rattle.store_commands.specs.Opening.{HasStopped, files_on}
use Rattle.store_commands.specs.Shows.{AreObjects}
use Rattle.store_commands.proofs.Ends.{none_unwritten, opening_failed, refused_command, write_failed}
use Rattle.store_commands.proofs.Kept.{files_lie}
use Rattle.store_commands.proofs.Listed.{objects_of}
use Rattle.store_commands.proofs.Numbering.{files_numbered}
use Rattle.store_commands.proofs.ShowEnds.{fault_failed, read_opened}
use Rattle.store_commands.proofs.TextCalls.{text_call, text_ends}
use Rattle.store_commands.proofs.text.open_and_print.Goals as goal

pub returns-in-Ok : goal.returns-in-Ok
returns-in-Ok g c =
    let V = g.V.Drives in
    let K = g.K.Sink in
    let e = c.in-Ok.ensures in
    let start = c.args.drives in
    let mid = c.in-Ok.opened.pair.drives in
    let last = c.end_opened-status.new.store.drives in
    let most : ℕ = V.size start in
    let before = files_on V start in
    let content : ℕ → Option (List ℕ) = content_of (halves_seen V.seen mid) in
    let settled : ℕ → Type 0 = λ n. IsSettled n (halves_seen V.seen mid) in
    let NoStore : Type 0 = IsNoStore (content_of (halves_seen V.seen start)) most in
    let table = c.in-Ok.opened.table in
    let heads : List (Option Head) = c.deref.result.now in
    let told : List File → Type 0 = λ files. V.tells × AreObjects settled (V.size mid) (pages_of content) heads files in
    let stopped : Half → Type 0 = λ h. IsStopped (V.faults mid) (V.faults last) (V.last_fault last) (V.moment last) h in
    let unread : Half → Type 0 = λ h. (n : ℕ) × IsUnread (V.faults mid) (V.faults last) (V.last_fault last) (V.moment last) (V.tells → settled n → content n ≡ None) h in
    let Told : List (Option Head) → Type 0 = λ hs. IsOpened content most table c.in-Ok.opened.map hs in
    let opened : V.tells → Told heads = λ t. subst Told (sym c.deref.ensures.value) (e.opened t) in
    let same : V.tells → found content most ≡ before = λ t. e.same t in
    let even : length heads ≡ length table.entries = ap (λ (hs : List (Option Head)). length hs) c.deref.ensures.value ∙ e.even in
    let known : V.tells → (state : State) × (before ≡ Ok state) × told state.files = λ t.
    let o : Told heads = opened t in
    let fits = e.fits in
    let same_size : V.size mid ≡ V.size start = e.size in
    let within : o.store.root.blocks ≤ V.size mid = omega (arith, fits, o.size, same_size) in
    let A : List (Option Head) → Type 0 = λ hs. AreObjects settled (V.size mid) (pages_of content) hs (map file_in o.store.files) in (
      state_in o.store,
      sym (same t) ∙ ap state_of o.laid,
      (
        t,
        subst A (sym o.heads)
            (objects_of (pages_of content) o.store.root.blocks (V.size mid) settled within
            (λ n low. e.settled t n (let L : ℕ → Type 0 = λ m. n < m in subst L (sym o.size) low))
            o.store.files (files_lie content most o.store o.places o.laid) (files_numbered content most o.store o.places o.laid)),
      ),
    ) in
    let old = K.written c.args.out.now in
    let new = K.written c.end_opened-status.new.out in
    let rose : Type 0 = Rose (K.faults c.args.out.now) (K.faults c.end_opened-status.new.out) in
    let only = c.end_opened-status.ensures.only in
    let images : Changes V.moment (ContentsLeft V.may_leave) mid last SameContents =
    record { later = only.images.later; last = only.images.last; stuck = only.images.stuck; past = only.images.past; own = only.images.own } in
    text_call V K (text_of c.args.text) start last c.args.out.now c.end_opened-status.new.out
    c.without_journal.result c.end_opened-status.result c.without_journal.ensures.status (c.without_journal.ensures.drives ∙ c.into_drives.ensures) c.without_journal.ensures.noted
    (text_ends V.tells before (HasStopped V start last) old new rose content most table c.in-Ok.opened.map heads even same opened
    told known stopped unread
    (λ h missed at_last. fault_failed V.tells NoStore _ (V.faults start) (V.faults mid) (V.faults last) (V.last_fault last) (V.moment last) h (e.later h).0 missed.1 at_last)
    c.args.text c.end_opened-status.result c.end_opened-status.ensures.ends)
    (read_opened V start mid last
    (record { same = λ t. e.same t; images = λ t rest. e.images t rest; later = λ h. e.later h; size_same = e.size })
    only.same images only.later only.size_same)
    (λ t rest _. only.rest t (e.rest t rest tt))
    c.end_opened-status.ensures.later

pub returns-in-Err : goal.returns-in-Err
returns-in-Err g c =
    let V = g.V.Drives in
    let K = g.K.Sink in
    let e = c.in-Err.ensures in
    let start = c.args.drives in
    let last = c.in-Err.e.drives in
    let NoStore : Type 0 = V.tells → IsNoStore (content_of (halves_seen V.seen start)) (V.size start) in
    let old = K.written c.args.out.now in
    let new = K.written c.end_refused-status.new.out in
    let rose : Type 0 = Rose (K.faults c.args.out.now) (K.faults c.end_refused-status.new.out) in
    text_call V K (text_of c.args.text) start last c.args.out.now c.end_refused-status.new.out
    c.without_journal-in-Err.result c.end_refused-status.result c.without_journal-in-Err.ensures.status c.without_journal-in-Err.ensures.drives c.without_journal-in-Err.ensures.noted
    (refused_command V.tells (files_on V start) (HasStopped V start last) (text_of c.args.text) old new rose
    c.in-Err.e.why c.end_refused-status.result
    (λ h is. e.unread h is)
    (λ h is. write_failed (V.faults start) (V.faults last) (V.last_fault last) (V.moment last) NoStore h (e.unwritten h is))
    (λ t. e.bad t)
    c.end_refused-status.ensures.ends)
    (record { same = λ t. e.same t; images = λ t rest. e.images t rest; later = λ h. e.later h; size_same = e.size })
    (λ t rest sound. e.rest t rest (none_unwritten c.in-Err.e.why
    (λ h is. sound h (opening_failed (V.faults start) (V.faults last) (V.last_fault last) (V.moment last) ⊥ h (e.unwritten h is)))))
    c.end_refused-status.ensures.later
