use Rattle.std.proofs.Common.{◌≡◌, ℕ, ◌<◌, ◌≤◌, [], None, Result, Err, length, refl, sym, ap, subst, ◌∙◌, arith}
use Rattle.std.proofs.Math.Path.{fun_ext}
use Rattle.drives.specs.Changes.{Changes, halves_seen}
use Rattle.drives.proofs.Composing.{weaker}
use Rattle.pair_store.specs.Blocks.{SameContents}
use Rattle.pair_store.specs.declared.fault.PairFault.{PairFault}
use Rattle.pair_store.specs.declared.on_halves.Pair.{Pair}
use Rattle.pair_store.specs.Content.{ContentsLeft, IsSettled, IsSettledAlways}
use Rattle.pair_store.specs.contracts.on_halves.PairBlocks.TheImpl.{ghosts}
use Rattle.store_model.specs.Found.{laid, found}
use Rattle.recovery.specs.declared.opened.Opened.{Opened}
use Rattle.recovery.specs.declared.opened.Unopened.{Unopened}
use Rattle.recovery.specs.declared.refused.OpenRefused.{OpenRefused}
use Rattle.recovery.specs.Halves.{AtRest, OpensHalves, blocks_told, contents, laid_on}
use Rattle.recovery.specs.Mended.{SameFrom}
use Rattle.recovery.specs.Opening.{IsBad, IsNoStore, IsOpened, IsReadable, IsReadableAlways, SameBeside, SameFound, drives_of, pair_result, refused_call, store_of}
use Rattle.recovery.specs.Rolling.{IsUnwritten}
use Rattle.recovery.proofs.Openings.{images_on}
use Rattle.recovery.proofs.PairOpenings.{bad_call, beyond_places, drives_same, err_pair, halves_change, mended_always, no_content, ok_pair, opening_since, since_pair, untorn_call, why_same}
use Rattle.recovery.proofs.Rolls.{failed_since, fault_read, fault_write, stopped_failed, unread_failed}
use Rattle.recovery.proofs.opening.open_pair.Goals as goal

pub returns-in-Ok : goal.returns-in-Ok
returns-in-Ok g c =
    let v = g.V.Drives in
    let b = ghosts g.row.V v g.V.Drives-dict in
    let start = c.args.pair in
    let mid = c.mend_all.new.pair in
    let r = c.open_over.result in
    let since = c.args.since in
    let e = c.open_over.ensures in
    let m = c.mend_all.ensures.mended in
    let size : v.size mid.drives ≡ v.size start.drives = m.size_same in
    let same_contents : v.tells → contents v mid.drives ≡ contents v start.drives = λ told. fun_ext (m.same told) in
    let laid_same : v.tells → laid (contents v mid.drives) (v.size mid.drives) [] ≡ laid_on v start.drives = λ told.
    ap (λ n. laid (contents v mid.drives) n []) size ∙ ap (λ f. laid f (v.size start.drives) []) (same_contents told) in
    let found_same : v.tells → found (contents v mid.drives) (v.size mid.drives) ≡ found (contents v start.drives) (v.size start.drives) = λ told.
    ap (λ n. found (contents v mid.drives) n) size ∙ ap (λ f. found f (v.size start.drives)) (same_contents told) in
    let readable : v.tells → IsReadable b mid = λ told. (told, c.in-Ok.ensures.settles told) in
    let resting : v.tells → AtRest v start.drives → AtRest v mid.drives = λ told rest. c.in-Ok.ensures.rest told rest tt in
    let always : v.tells → AtRest v start.drives → IsReadableAlways b mid = λ told rest. (told, mended_always v mid.drives (resting told rest) (c.in-Ok.ensures.settles told)) in
    let ends : (store_of r).drives ≡ drives_of (pair_result r since) = drives_same r since in
    let images : v.tells → AtRest v start.drives → Changes v.moment (ContentsLeft v.may_leave) start.drives (store_of r).drives (SameFound (v.size start.drives)) = λ told rest.
    halves_change v start (store_of r) (SameFound (v.size start.drives))
    (images_on b.moment b.may_leave start mid (store_of r) SameContents (SameFound (v.size start.drives)) (m.images told rest)
    (subst (λ (n : ℕ). Changes b.moment b.may_leave mid (store_of r) (SameFound n)) size (e.images (always told rest)))
    (λ f h k q s. s ∙ ap (λ x. found x (v.size start.drives)) (fun_ext q)) (λ f h q. ap (λ x. found x (v.size start.drives)) (fun_ext q))) in
    let same : v.tells → SameFound (v.size start.drives) (contents v start.drives) (contents v (store_of r).drives) = λ told.
    ap (λ n. found (contents v (store_of r).drives) n) (sym size) ∙ e.same (readable told) ∙ found_same told in
    subst (λ (o : Result (Opened g.row.V.Denot) (Unopened g.row.V.Denot)). OpensHalves v b start.drives o) (sym c.on_halves.ensures)
    (record {
      images = λ told rest. subst (λ (d : g.row.V.Denot). Changes v.moment (ContentsLeft v.may_leave) start.drives d (SameFound (v.size start.drives))) ends (images told rest);
      images_others = λ told rest.
          subst (λ (d : g.row.V.Denot). Changes v.moment (ContentsLeft v.may_leave) start.drives d (SameBeside (laid_on v start.drives))) ends
          (halves_change v start (store_of r) (SameBeside (laid_on v start.drives))
          (images_on b.moment b.may_leave start mid (store_of r) SameContents (SameBeside (laid_on v start.drives)) (m.images told rest)
          (subst (λ o. Changes b.moment b.may_leave mid (store_of r) (SameBeside o)) (laid_same told) (e.images_others (readable told)))
          (λ f h k q s n none. s n none ∙ q n) (λ f h q n none. q n)));
      settled_always = λ told rest.
          ok_pair (λ o. (n : ℕ) → n < length o.map → b.settled_always o.store n)
          (λ o. (n : ℕ) → n < length o.map → IsSettledAlways v.may_leave o.pair.drives (v.moment o.pair.drives) n) r since (λ o at is. is) (e.settled_always (always told rest));
      opening = λ told rest.
          ok_pair _ _ r since
          (λ o at is.
          let grown : b.size o.store ≡ v.size start.drives = ap b.size (sym at) ∙ e.size ∙ size in
          opening_since v b start.drives o since c.requires (λ x. refl) (λ x t f may. may) rest
          (subst (λ (n : ℕ). Changes v.moment (ContentsLeft v.may_leave) start.drives o.store.drives (SameFound n)) (sym grown)
          (subst (λ (x : Pair g.row.V.Denot). Changes v.moment (ContentsLeft v.may_leave) start.drives x.drives (SameFound (v.size start.drives))) at (images told rest)))
          (subst (λ (n : ℕ). SameFound n (contents v start.drives) (b.content o.store)) (sym grown)
          (subst (λ (x : Pair g.row.V.Denot). SameFound (v.size start.drives) (contents v start.drives) (contents v x.drives)) at (same told)))
          is)
          (e.opening (always told rest));
      rest = λ told rest unwritten.
          subst (λ (d : g.row.V.Denot). AtRest v d) ends (e.rest told (resting told rest) (subst (λ w. IsUnwritten w) (why_same r since) unwritten));
      same = λ told. subst (λ (d : g.row.V.Denot). SameFound (v.size start.drives) (contents v start.drives) (contents v d)) ends (same told);
      others = λ told.
          subst (λ (d : g.row.V.Denot). SameBeside (laid_on v start.drives) (contents v start.drives) (contents v d)) ends
          (λ n none. subst (λ o. SameBeside o (contents v mid.drives) (contents v (store_of r).drives)) (laid_same told) (e.others (readable told)) n none ∙ m.same told n);
      images_beyond = λ told.
          subst (λ (d : g.row.V.Denot). Changes v.moment (ContentsLeft v.may_leave) start.drives d (SameFrom (blocks_told v start.drives))) ends
          (halves_change v start (store_of r) (SameFrom (blocks_told v start.drives))
          (images_on b.moment b.may_leave start mid (store_of r) (SameFrom (blocks_told v start.drives)) (SameFrom (blocks_told v start.drives)) (c.mend_all.ensures.beyond told)
          (weaker b.moment b.may_leave mid (store_of r) (SameBeside (laid_on v start.drives)) (SameFrom (blocks_told v start.drives))
          (subst (λ o. Changes b.moment b.may_leave mid (store_of r) (SameBeside o)) (laid_same told) (e.images_others (readable told)))
          (λ f h left s n above high. s n (beyond_places (contents v start.drives) (v.size start.drives) n high)))
          (λ f h k q s n above high. s n above high ∙ q n above high) (λ f h q. q)));
      opened = λ told.
          ok_pair (λ o. IsOpened (contents v o.store.drives) (v.size mid.drives) o.table o.map o.heads.items)
          (λ o. IsOpened (contents v o.pair.drives) (v.size start.drives) o.table o.map o.heads.items) r since
          (λ o at is. subst (λ (n : ℕ). IsOpened (contents v o.store.drives) n o.table o.map o.heads.items) size is) (e.opened (readable told));
      bad = λ told.
          err_pair (λ x. IsBad (found (contents v mid.drives) (v.size mid.drives)) x.why) (λ x. IsBad (found (contents v start.drives) (v.size start.drives)) x.why) r since
          (λ x is. subst (λ o. IsBad o x.why) (found_same told) is) (e.bad (readable told));
      unread = λ h.
          err_pair _ _ r since
          (λ x failed is.
          failed_since (v.faults start.drives) (v.faults mid.drives) (v.faults x.store.drives) (v.last_fault x.store.drives) (v.moment x.store.drives)
          (IsReadable b mid → IsNoStore (contents v mid.drives) (v.size mid.drives)) (v.tells → IsNoStore (contents v start.drives) (v.size start.drives)) h (m.later h).0
          (λ none told. let n = none (readable told) in (n.0, sym (found_same told) ∙ n.1)) (failed is))
          (e.unread h);
      unwritten = λ h.
          err_pair _ _ r since
          (λ x failed is.
          failed_since (v.faults start.drives) (v.faults mid.drives) (v.faults x.store.drives) (v.last_fault x.store.drives) (v.moment x.store.drives)
          ⊥ ⊥ h (m.later h).0 (λ none. none) (failed is))
          (e.unwritten h);
      settled = λ told.
          ok_pair (λ o. (n : ℕ) → n < length o.map → b.settled o.store n) (λ o. (n : ℕ) → n < length o.map → IsSettled n (halves_seen v.seen o.pair.drives)) r since
          (λ o at is. is) (e.settled (readable told));
      fits = ok_pair (λ o. length o.map ≤ v.size mid.drives) (λ o. length o.map ≤ v.size start.drives) r since (λ o at is. subst (λ n. length o.map ≤ n) size is) e.fits;
      within = ok_pair _ _ r since (λ o at is k head listed. subst (λ n. head.block < n) size (is k head listed)) e.within;
      even = ok_pair (λ o. length o.heads.items ≡ length o.table.entries) (λ o. length o.heads.items ≡ length o.table.entries) r since (λ o at is. is) e.even;
      since = since_pair r since (v.moment start.drives) c.requires;
      later = λ h.
          subst (λ (d : g.row.V.Denot). (v.faults start.drives h ≤ v.faults d h) × (v.last_fault start.drives h ≤ v.last_fault d h)) ends
          (let p = m.later h in let q = e.later h in (Prim.omega (arith, p, q), Prim.omega (arith, p, q)));
      size = subst (λ (d : g.row.V.Denot). v.size d ≡ v.size start.drives) ends (e.size ∙ size);
    })

pub returns-in-Err : goal.returns-in-Err
returns-in-Err g c =
    let v = g.V.Drives in
    let b = ghosts g.row.V v g.V.Drives-dict in
    let start = c.args.pair in
    let mid = c.mend_all.new.pair in
    let m = c.mend_all.ensures.mended in
    let fault : PairFault = c.in-Err.fault in
    let ends : mid.drives ≡ c.into_drives.result = sym c.into_drives.ensures in
    let size : v.size mid.drives ≡ v.size start.drives = m.size_same in
    let why : c.from.result ≡ refused_call fault = c.from.ensures in
    let failed : g.row.V.Denot → OpenRefused → Result (Opened g.row.V.Denot) (Unopened g.row.V.Denot) = λ d w. Err (record { drives = d; why = w }) in
    subst (λ (w : OpenRefused). OpensHalves v b start.drives (failed c.into_drives.result w)) (sym why)
    (subst (λ (d : g.row.V.Denot). OpensHalves v b start.drives (failed d (refused_call fault))) ends
    (record {
      images = λ told rest.
          halves_change v start mid (SameFound (v.size start.drives))
          (weaker b.moment b.may_leave start mid SameContents (SameFound (v.size start.drives)) (m.images told rest) (λ f h left q. ap (λ x. found x (v.size start.drives)) (fun_ext q)));
      images_others = λ told rest.
          halves_change v start mid (SameBeside (laid_on v start.drives))
          (weaker b.moment b.may_leave start mid SameContents (SameBeside (laid_on v start.drives)) (m.images told rest) (λ f h left q n none. q n));
      settled_always = λ told rest. tt;
      opening = λ told rest. tt;
      rest = λ told rest unwritten. c.in-Err.ensures.rest told rest (untorn_call fault unwritten);
      same = λ told. ap (λ f. found f (v.size start.drives)) (fun_ext (m.same told));
      others = λ told n none. m.same told n;
      images_beyond = λ told. halves_change v start mid (SameFrom (blocks_told v start.drives)) (c.mend_all.ensures.beyond told);
      opened = λ told. tt;
      bad = λ told. bad_call fault (found (contents v start.drives) (v.size start.drives)) c.in-Err.ensures.only;
      unread = λ h is.
          unread_failed (v.faults start.drives) (v.faults mid.drives) (v.last_fault mid.drives) (v.moment mid.drives)
          (v.tells → contents v start.drives 0 ≡ None) (v.tells → IsNoStore (contents v start.drives) (v.size start.drives)) h
          (λ empty told. no_content (contents v start.drives) (v.size start.drives) (empty told))
          (c.mend_all.ensures.unread h (c.in-Err.is ∙ ap Err (fault_read fault h is)));
      unwritten = λ h is.
          stopped_failed (v.faults start.drives) (v.faults mid.drives) (v.last_fault mid.drives) (v.moment mid.drives) ⊥ h
          (c.mend_all.ensures.unwritten h (c.in-Err.is ∙ ap Err (fault_write fault h is)));
      settled = λ told. tt;
      fits = tt;
      within = tt;
      even = tt;
      since = tt;
      later = m.later;
      size = size;
    }))
