use Rattle.std.proofs.Common.{◌≡◌, ◌≢◌, ℕ, None, Option, List, subst}
use Rattle.drives.specs.declared.device.Half.{Half}
use Rattle.drives.specs.Changes.{Changes, halves_seen}
use Rattle.pair_store.specs.Blocks.{SameOthers}
use Rattle.pair_store.specs.Closing.{OldOrNone}
use Rattle.pair_store.specs.Content.{content_of, ContentsLeft, IsSettledAlways}
use Rattle.pair_store.proofs.MendLaws.{rest_known}
use Rattle.new_store.specs.Formatting.{drives_in}
use Rattle.new_store.proofs.FormatLaws.{beyond_other, closing, closing_beyond, formatting, formatting_beyond, if_ok_weaker}
use Rattle.new_store.proofs.FoundLaws.{formatting_found, new_store_found}
use Rattle.new_store.proofs.formatting.format.Goals as goal

pub returns-in-Ok-clause-kept_always : goal.returns-in-Ok-clause-kept_always
returns-in-Ok-clause-kept_always g c =
    let kept = subst (λ (m : ℕ). (k : ℕ) → k ≢ m → IsSettledAlways g.V.Drives.may_leave c.args.drives (g.V.Drives.moment c.args.drives) k → IsSettledAlways g.V.Drives.may_leave c.close_block.new.drives (g.V.Drives.moment c.close_block.new.drives) k) c.at.ensures c.close_block.ensures.kept_always in
    if_ok_weaker c.write_halves.result _ _ (λ d after k beyond settled. after k beyond (kept k (beyond_other c.args.store.now.files k beyond) settled)) c.write_halves.ensures.kept_always

pub returns-in-Ok-clause-images : goal.returns-in-Ok-clause-images
returns-in-Ok-clause-images g c = λ tells rest.
    let old = c.args.drives in
    let mid = c.close_block.new.drives in
    let now = g.V.Drives.moment in
    let left = g.V.Drives.may_leave in
    let same = c.at.ensures in
    let known = λ (h : Half). rest_known g.V.Drives.seen now left old h c.at.result rest in
    let changes = subst (λ (m : ℕ). Changes now (ContentsLeft left) old mid (OldOrNone m)) same (c.close_block.ensures.images tells known) in
    let shut = subst (λ (m : ℕ). (f : ℕ → Option (List ℕ)) → ContentsLeft left mid (now mid) f → f m ≡ None) same (c.in-Ok.ensures.images_done tells known) in
    let settled = subst (λ (m : ℕ). IsSettledAlways left mid (now mid) m) same (c.in-Ok.ensures.settles_always tells known) in
    formatting now (ContentsLeft left) c.args.store.now old mid (drives_in c.write_halves.result) changes shut (c.write_halves.ensures.images tells settled)

pub returns-in-Ok-clause-images_beyond : goal.returns-in-Ok-clause-images_beyond
returns-in-Ok-clause-images_beyond g c =
    let changes = subst (λ (m : ℕ). Changes g.V.Drives.moment (ContentsLeft g.V.Drives.may_leave) c.args.drives c.close_block.new.drives (SameOthers m)) c.at.ensures c.close_block.ensures.images_others in
    formatting_beyond g.V.Drives.moment (ContentsLeft g.V.Drives.may_leave) c.args.store.now c.args.drives c.close_block.new.drives (drives_in c.write_halves.result) changes c.write_halves.ensures.images_beyond

pub returns-in-Err-clause-images : goal.returns-in-Err-clause-images
returns-in-Err-clause-images g c = λ tells rest.
    let old = c.args.drives in
    let mid = c.close_block.new.drives in
    let now = g.V.Drives.moment in
    let left = g.V.Drives.may_leave in
    let known = λ (h : Half). rest_known g.V.Drives.seen now left old h c.at.result rest in
    closing now (ContentsLeft left) c.args.store.now old mid (subst (λ (m : ℕ). Changes now (ContentsLeft left) old mid (OldOrNone m)) c.at.ensures (c.close_block.ensures.images tells known))

pub returns-in-Err-clause-images_beyond : goal.returns-in-Err-clause-images_beyond
returns-in-Err-clause-images_beyond g c =
    closing_beyond g.V.Drives.moment (ContentsLeft g.V.Drives.may_leave) c.args.store.now c.args.drives c.close_block.new.drives
    (subst (λ (m : ℕ). Changes g.V.Drives.moment (ContentsLeft g.V.Drives.may_leave) c.args.drives c.close_block.new.drives (SameOthers m)) c.at.ensures c.close_block.ensures.images_others)

pub returns-in-Ok-clause-found : goal.returns-in-Ok-clause-found
returns-in-Ok-clause-found g c = λ tells.
    if_ok_weaker c.write_halves.result _ _ (λ d has. new_store_found c.args.store.now (content_of (halves_seen g.V.Drives.seen d)) (g.V.Drives.size c.args.drives) c.requires has) (c.write_halves.ensures.done tells)

pub returns-in-Ok-clause-stands : goal.returns-in-Ok-clause-stands
returns-in-Ok-clause-stands g c = λ tells rest.
    formatting_found g.V.Drives.moment (ContentsLeft g.V.Drives.may_leave) c.args.store.now (g.V.Drives.size c.args.drives) c.args.drives (drives_in c.write_halves.result) c.requires
    (returns-in-Ok-clause-images g c tells rest)

pub returns-in-Err-clause-stands : goal.returns-in-Err-clause-stands
returns-in-Err-clause-stands g c = λ tells rest.
    formatting_found g.V.Drives.moment (ContentsLeft g.V.Drives.may_leave) c.args.store.now (g.V.Drives.size c.args.drives) c.args.drives c.close_block.new.drives c.requires
    (returns-in-Err-clause-images g c tells rest)
