use Rattle.std.proofs.Common.{◌≡◌, Some, Result, sym, subst, None}
use Rattle.pair_store.specs.Pages.{without_members}
use Rattle.recovery.specs.declared.refused.OpenRefused.{OpenRefused}
use Rattle.recovery.specs.declared.rolling.Step.TheVariants.{ClearMembers}
use Rattle.recovery.specs.Rolling.{Edits}
use Rattle.recovery.proofs.Calls.{called_read, called_write, clear_kept, clear_only, clear_rest, clear_written}
use Rattle.recovery.proofs.Rolls.{stopped_failed, unread_failed}
use Rattle.recovery.proofs.rolling.clear_members.Goals as goal

pub returns : goal.returns
returns g c =
    let b = g.B.Blocks in
    let n = c.args.block in
    let r = c.clear_members.result in
    let e = c.clear_members.ensures in
    let old = c.args.store.now in
    let new = c.clear_members.new.self in
    subst (λ (q : Result (Unit {0}) OpenRefused). Edits b ClearMembers n without_members q old new) (sym c.came_to.ensures)
    (record {
      leaves = record {
        others = λ told m off. e.others told m off;
        images_others = e.images_others;
        kept = λ told. clear_kept r (b.settled old) (b.settled new) n (e.settles told) (e.kept told);
        kept_always = λ told. clear_kept r (b.settled_always old) (b.settled_always new) n (e.settles_always told) e.kept_always;
        rest = λ told rest unwritten. clear_rest r (b.rest old) (b.rest new) (e.rest told) (e.rest_kept told) rest unwritten;
        unwritten = λ h is. stopped_failed (b.faults old) (b.faults new) (b.last_fault new) (b.moment new) ⊥ h (e.stopped h (called_write r h is));
        later = e.later;
        size_same = e.size;
      };
      written = λ told settled body page holds reads ready.
          clear_written r (b.content new n ≡ Some (without_members body)) (e.written told settled body holds);
      only = λ told settled body page holds reads ready. clear_only (b.content old n) n body page r holds reads (e.answer told settled);
      either = e.either;
      images = e.images;
      unread = λ h is.
          unread_failed (b.faults old) (b.faults new) (b.last_fault new) (b.moment new) (b.tells → b.settled old n → b.content old n ≡ None)
          (b.tells → b.settled old n → b.content old n ≡ None) h (λ empty. empty) (e.unread h (called_read r h is));
    })
