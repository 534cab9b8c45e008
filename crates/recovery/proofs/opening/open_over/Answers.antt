use Rattle.std.specs.Prelude.{IfOk}
use Rattle.afs_base.specs.declared.head.Head.{Head}
use Rattle.recovery.specs.declared.refused.OpenRefused.{OpenRefused}
use Rattle.std.proofs.Common.{◌≡◌, ◌<◌, ◌≤◌, ℕ, List, [], Option, Some, Result, length, slice_get, ap, subst, ◌∙◌, arith}
use Rattle.drives.specs.Changes.{Changes}
use Rattle.drives.proofs.Composing.{weaker}
use Rattle.store_model.specs.Found.{laid, found}
use Rattle.recovery.specs.Aside.{SameAside}
use Rattle.recovery.specs.declared.known.Known.{Known}
use Rattle.recovery.specs.declared.rolling.Step.TheVariants.{SetLinks}
use Rattle.recovery.specs.Opening.{IsNoStore, IsReadable, IsReadableAlways, SameBeside, SameFound, store_of}
use Rattle.recovery.specs.Rolling.{Begins, IsEdited, Rolling}
use Rattle.recovery.proofs.Openings.{Found, aside_images, bad_err, beside, even_ok, fits_ok, found_from, found_images, left_found, opened_ok, opening_ok, settled_ok, since_ok, unread_err, unwritten_err, within_ok}
use Rattle.recovery.proofs.opening.open_over.Goals as goal

pub returns-in-Ok : goal.returns-in-Ok
returns-in-Ok g c =
    let b = g.B.Blocks in
    let old = c.args.store in
    let mid = c.known_store-store.result.0 in
    let most = b.size old in
    let e = c.known_store-store.ensures in
    let known : Known = c.in-Ok.known in
    let r = c.rolled.result in
    let t = c.rolled.ensures.told in
    let rolls = c.rolled.ensures.rolls most in
    let outcome = laid (b.content old) most [] in
    let at : IsReadable b old → Found b b.settled old mid known = λ readable.
    found_from b b.settled old mid known (e.only.same readable.0) (λ n. (e.only.kept readable.0 n).1) e.only.size_same readable.1 c.in-Ok.is (e.answer readable) in
    let now : IsReadableAlways b old → IsReadable b old = λ always. (
      always.0,
      record {
        table = g.met.B.Blocks.settled_now old 0 always.0 always.1.table;
        others = λ bytes root here reads n low in_size. g.met.B.Blocks.settled_now old n always.0 (always.1.others bytes root here reads n low in_size);
      },
    ) in
    let at_always : IsReadableAlways b old → Found b b.settled_always old mid known = λ always.
    found_from b b.settled_always old mid known (e.only.same always.0) (λ n. (e.only.kept_always n).1) e.only.size_same always.1 c.in-Ok.is (e.answer (now always)) in
    let same : IsReadable b old → SameFound most (b.content old) (b.content (store_of r)) = λ readable.
    (let a = at readable in rolls.same (readable.0, a.room, a.begins) ∙ ap (λ f. found f most) a.same) in
    let images : IsReadableAlways b old → Changes b.moment b.may_leave old (store_of r) (SameFound most) = λ always.
    (let a = at_always always in found_images b most old mid (store_of r) e.only.images (rolls.images (always.0, a.room, a.begins))) in
    let size : b.size (store_of r) ≡ most = rolls.leaves.size_same ∙ e.only.size_same in
    let since = since_ok c.now-since.result (b.moment old) r c.rolled.ensures.since c.now-since.ensures in
    let opened = λ (readable : IsReadable b old). (let a = at readable in opened_ok b most known b.settled r t (rolls.goes (readable.0, a.room, a.begins))) in
    let settled = λ (readable : IsReadable b old). (let a = at readable in settled_ok b most known b.settled r t (rolls.goes (readable.0, a.room, a.begins))) in
    let settled_always = λ (always : IsReadableAlways b old). (let a = at_always always in settled_ok b most known b.settled_always r t (rolls.goes_always (always.0, a.room, a.begins))) in
    record {
      same = same;
      images = images;
      others = λ readable.
          let a = at readable in
          beside b b.settled old mid known a (b.content old) (b.content (store_of r))
          (subst (λ (f : ℕ → Option (List ℕ)). SameAside (IsEdited known) f (b.content (store_of r))) a.same (rolls.leaves.others readable.0));
      images_others = λ readable.
          weaker b.moment b.may_leave old (store_of r) (SameAside (IsEdited known)) (SameBeside outcome)
          (aside_images b most old mid (IsEdited known) (store_of r) e.only.images rolls.leaves.images_others)
          (λ f h left aside. beside b b.settled old mid known (at readable) f h aside);
      opened = opened;
      opening = λ always.
          opening_ok b old r size since (opened (now always)) (settled (now always)) (settled_always always) (same (now always)) (images always)
          (λ f may. left_found b old mid known (at_always always) always.1 (λ n x s left. g.met.B.Blocks.settled_left old n x always.0 s left) f may);
      bad = λ readable. let a = at readable in bad_err (found (b.content old) most) r (rolls.only (readable.0, a.room, a.begins));
      unread = λ h.
          unread_err b old mid (Begins b most (Rolling SetLinks most known 0) mid) (IsReadable b old) (IsNoStore (b.content old) most) r h (e.only.later h).0
          (λ none readable. let a = at readable in absurd (none (readable.0, a.room, a.begins))) (rolls.unread h);
      unwritten = λ h. unwritten_err b old mid r h (e.only.later h).0 (rolls.leaves.unwritten h);
      settled = settled;
      settled_always = settled_always;
      rest = λ told rest unwritten. rolls.leaves.rest told (e.only.rest told rest) unwritten;
      fits = fits_ok known most r t (subst (λ (q : Result Known OpenRefused). IfOk q (λ k. length k.map ≤ most)) c.in-Ok.is e.fits);
      within = within_ok known most r t
          (subst (λ (q : Result Known OpenRefused). IfOk q (λ k. (i : ℕ) (head : Head) → slice_get k.heads.items i ≡ Some (Some head) → head.block < most)) c.in-Ok.is e.within);
      even = even_ok known most r t (subst (λ (q : Result Known OpenRefused). IfOk q (λ k. length k.heads.items ≡ length k.table.entries)) c.in-Ok.is e.even);
      since = since;
      later = λ h. let p = e.only.later h in let q = rolls.leaves.later h in (Prim.omega (arith, p, q), Prim.omega (arith, p, q));
      size = size;
    }
