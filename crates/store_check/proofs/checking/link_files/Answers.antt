use Rattle.std.proofs.Common.{◌≡◌, ℕ, [], false, Err, refl, ap, ◌∙◌, length, replicate, arith}
use Rattle.std.proofs.lemmas.Result.{err_from_is_err_and}
use Rattle.store_model.specs.Laws.{pages_of}
use Rattle.store_model.specs.Members.{Linked as ModelLinked, tops_from, tops_linked}
use Rattle.store_check.specs.declared.checking.Found.{Found}
use Rattle.store_check.specs.declared.tops.Linked.{Linked}
use Rattle.store_check.specs.Surveyed.{blocks_in}
use Rattle.store_check.specs.Files.{chains_of}
use Rattle.store_check.specs.Tops.{tops_in}
use Rattle.store_check.proofs.Passing.{stopped_at, shows_exit}
use Rattle.store_check.proofs.WholeWalk.{like_first, tops_shown}
use Rattle.store_check.proofs.checking.link_files.Goals as goal

pub returns-in_err-link_tops-clause-walk : goal.returns-in_err-link_tops-clause-walk
returns-in_err-link_tops-clause-walk g c = λ told files like few.
    let s = c.args.survey.now in
    let S = pages_of (g.B.Blocks.content s.began) in
    let p = err_from_is_err_and c.from_residual-in_err-link_tops.result c.from_residual-in_err-link_tops.ensures.1 in
    let kept : Linked = record { chains = c.args.chains; named = c.in_ok-named.named } in
    let n : c.len.result ≡ length c.args.chains.items = Prim.omega arith in
    let tops = tops_shown S s.count c.args.chains.items files c.in_ok-tops.tops.items like (c.in_ok-tops.ensures ∙ ap (tops_in 1) c.as_slice.ensures.value) in
    shows_exit (λ (found : Found) (linked : ModelLinked). (found.table ≡ c.args.table) × (found.linked.chains.items ≡ chains_of linked.files)) c.from_residual-in_err-link_tops.result (stopped_at g.B.Blocks c.link_tops.new.survey.store c.in_err-link_tops.field-0.0)
    (tops_linked (blocks_in g.B.Blocks.content s) (tops_from 1 files) (record { files = files; named = [] }) s.list) c.link_tops.new.survey.list (p.1 ∙ ap Err p.2)
    (c.in_err-link_tops.ensures.walk told (tops_from 1 files) (record { files = files; named = [] }) (c.as_slice-2.ensures.value ∙ tops)
    (like_first S s.count s.list kept files like few (c.in_ok-named.ensures ∙ ap (λ (k : ℕ). replicate k false) n)))

pub returns-clause-walk : goal.returns-clause-walk
returns-clause-walk g c = λ told files like few.
    let s = c.args.survey.now in
    let S = pages_of (g.B.Blocks.content s.began) in
    let kept : Linked = record { chains = c.args.chains; named = c.in_ok-named.named } in
    let n : c.len.result ≡ length c.args.chains.items = Prim.omega arith in
    let tops = tops_shown S s.count c.args.chains.items files c.in_ok-tops.tops.items like (c.in_ok-tops.ensures ∙ ap (tops_in 1) c.as_slice.ensures.value) in
    let found = c.in_ok-link_tops.ensures.walk told (tops_from 1 files) (record { files = files; named = [] }) (c.as_slice-2.ensures.value ∙ tops)
    (like_first S s.count s.list kept files like few (c.in_ok-named.ensures ∙ ap (λ (k : ℕ). replicate k false) n)) in
    (found.0, (refl, found.1.files.is), found.2)
