use Rattle.std.proofs.Common.{◌≡◌, ◌==◌, ◌+◌, ◌-◌, ◌^◌, ◌<◌, ◌≤◌, false, ℕ, List, length, arith, Option, Some, Err, sym, ap, ◌∙◌, set, slice_get}
use Rattle.std.proofs.lemmas.Result.{err_from_is_err_and}
use Rattle.page_codec.specs.Values.{MemberValue}
use Rattle.store_model.specs.Laid.{LaidFile}
use Rattle.store_model.specs.Laws.{pages_of}
use Rattle.store_model.specs.Members.{version_linked, with_version_at}
use Rattle.store_check.specs.declared.version.FoundVersion.{FoundVersion}
use Rattle.store_check.specs.declared.chain.FoundFile.{FoundFile}
use Rattle.store_check.specs.Surveyed.{blocks_in}
use Rattle.store_check.specs.Versions.{shown_of, tried_at}
use Rattle.store_check.specs.Files.{LikeFiles, own_pages}
use Rattle.store_check.specs.Counts.{kept_in}
use Rattle.store_check.specs.Tops.{with_last}
use Rattle.store_check.proofs.Adding.{adds_linked, kept_with}
use Rattle.store_check.proofs.Passing.{stopped_at, stops_on, shows_exit}
use Rattle.store_check.proofs.MemberWalk.{equal_test, other_test, linked_already, linked_stops, linked_found, longer_is, longer_lies, last_at_place, last_lies}
use Rattle.store_check.proofs.tops.link_version.Goals as goal

pub returns-then-get-clause-walk : goal.returns-then-get-clause-walk
returns-then-get-clause-walk g c = λ told laid files like few last prior.
    let s = c.args.survey.now in
    let same : laid.block ≡ c.args.n = ap (λ p. p.block) (sym prior) ∙ sym c.get.ensures.value ∙ c.if-get.true ∙ c.get-2.ensures.value in (
      files,
      (like, few),
      linked_already (blocks_in g.B.Blocks.content s) c.args.namer (record { object = c.args.object; block = c.args.n }) laid files s.list (equal_test laid.block c.args.n same),
    )

pub returns-in_err-last-clause-walk : goal.returns-in_err-last-clause-walk
returns-in_err-last-clause-walk g c = λ told laid files like few last prior.
    let b = g.B.Blocks in
    let s = c.args.survey.now in
    let S = pages_of (b.content s.began) in
    let member : MemberValue = record { object = c.args.object; block = c.args.n } in
    let stop = stopped_at g.B.Blocks c.tried_member.new.survey.store c.in_err-last.field-0.0 in
    let p = err_from_is_err_and c.from_residual.result c.from_residual.ensures.1 in
    let apart : (laid.block == c.args.n) ≡ false = other_test laid.block c.args.n (λ same. c.if-get.false (c.get.ensures.value ∙ ap (λ p. p.block) prior ∙ same ∙ sym c.get-2.ensures.value)) in
    shows_exit (λ _ (found : List LaidFile). LikeFiles S s.count c.args.linked.now.chains.items found × (kept_in found ≤ length c.tried_member.new.survey.list)) c.from_residual.result stop
    (version_linked (blocks_in b.content s) c.args.namer member laid files s.list) c.tried_member.new.survey.list (p.1 ∙ ap Err p.2)
    (stops_on stop (tried_at (blocks_in b.content s) c.args.object c.args.namer c.args.n laid s.list) _
    (c.in_err-last.ensures.walk told laid (last_lies S s.count c.args.object files laid like.lie last) (ap Some prior))
    (λ cause is. linked_stops (blocks_in b.content s) c.args.namer member laid files s.list apart cause is))

pub returns-clause-walk : goal.returns-clause-walk
returns-clause-walk g c = λ told laid files like few last prior.
    let b = g.B.Blocks in
    let s = c.args.survey.now in
    let S = pages_of (b.content s.began) in
    let member : MemberValue = record { object = c.args.object; block = c.args.n } in
    let apart : (laid.block == c.args.n) ≡ false = other_test laid.block c.args.n (λ same. c.if-get.false (c.get.ensures.value ∙ ap (λ p. p.block) prior ∙ same ∙ sym c.get-2.ensures.value)) in
    let found = c.in_ok-last.ensures.walk told laid (last_lies S s.count c.args.object files laid like.lie last) (ap Some prior) in
    let blocks = blocks_in b.content s in
    let after = c.tried_member.new.survey.list in
    let longer = longer_is files (c.args.object - 1) laid found.0 (last_at_place c.args.object files laid last) in
    let is = linked_found blocks c.args.namer member laid files s.list apart found.0 after found.2 in
    let more = (adds_linked blocks c.args.namer member laid files last).runs s.list (with_version_at (c.args.object - 1) found.0 files) after is in
    let with_is = kept_with (c.args.object - 1) found.0 laid files (last_at_place c.args.object files laid last) in
    let pages : c.saturating_sub-pages.result ≡ own_pages found.0 =
    Prim.omega (arith, c.saturating_sub-pages.ensures, c.found.ensures.value, c.found-found.ensures.value, more, with_is) in
    let fits : longer.chain.kept + c.saturating_sub-pages.result < 2 ^ 32 =
    Prim.omega (arith, longer.few, few, pages, more, with_is, c.found.ensures.value, c.found.ensures.most) in (
      with_version_at (c.args.object - 1) found.0 files,
      (
        record {
          is = c.set_last.ensures.set longer.chain (ap (λ (cs : List (Option FoundFile)). slice_get cs (c.args.object - 1)) like.is ∙ longer.was) fits
              ∙ ap (λ (v : FoundVersion). set c.args.linked.now.chains.items (c.args.object - 1) (Some (with_last v c.saturating_sub-pages.result longer.chain))) found.1.0
              ∙ ap (λ (n : ℕ). set c.args.linked.now.chains.items (c.args.object - 1) (Some (with_last (shown_of found.0) n longer.chain))) pages
              ∙ ap (λ (cs : List (Option FoundFile)). set cs (c.args.object - 1) (Some (with_last (shown_of found.0) (own_pages found.0) longer.chain))) like.is
              ∙ sym longer.is;
          lie = longer_lies S s.count (c.args.object - 1) found.0 files found.1.1 like.lie;
        },
        Prim.omega (arith, few, more, with_is),
      ),
      is,
    )
