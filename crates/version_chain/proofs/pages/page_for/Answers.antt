use Rattle.std.proofs.Common.{◌≡◌, length, sym, subst, ◌∙◌}
use Rattle.page_codec.specs.Values.{PageValue}
use Rattle.version_chain.proofs.Given.{IsGiven, level_given, page_made}
use Rattle.version_chain.proofs.pages.page_for.Goals as goal

pub returns : goal.returns
returns g c =
    let inside : PageValue = record { level = c.page.inside.level; modified = c.page.inside.modified; refs = c.page.inside.refs; bytes = c.page.inside.bytes } in
    let F : PageValue → Type 0 = λ page. IsGiven (g.D.Draft.view c.args.draft.now) c.args.at.now c.page-is_live.result c.empty-page.result page in
    page_made (g.D.Draft.view c.args.draft.now) c.args.places.now c.args.at.now c.page-is_live.result c.empty-page.result
    (record { level = c.page.inside.level; modified = c.page.inside.modified; refs = c.page.inside.refs; bytes = c.page.inside.bytes })
    (g.met.D.Draft.levels c.args.draft.now c.requires.ready) c.requires.live (subst F (sym c.page.view_is) c.page-is_live.ensures) c.slots_of-page-inside.result c.slots_of-page-inside.ensures.value

pub invariant_of-page : goal.invariant_of-page
invariant_of-page g c =
    let inside : PageValue = record { level = c.page.inside.level; modified = c.page.inside.modified; refs = c.page.inside.refs; bytes = c.page.inside.bytes } in
    let F : PageValue → Type 0 = λ page. IsGiven (g.D.Draft.view c.args.draft.now) c.args.at.now c.page-is_live.result c.empty-page.result page in
    let level : inside.level ≡ length c.args.at.now = level_given (g.D.Draft.view c.args.draft.now) c.args.at.now c.page-is_live.result c.empty-page.result inside
    (g.met.D.Draft.levels c.args.draft.now c.requires.ready) c.requires.live (subst F (sym c.page.view_is) c.page-is_live.ensures) in
    record {
      depth = c.page.invariant.depth;
      leaf = λ deep. c.slots_of-page-inside.ensures.leaf (sym level ∙ deep) (c.page.invariant.leaf deep);
    }
