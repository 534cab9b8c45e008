use Rattle.std.proofs.Common.{◌≡◌, ◌+◌, ◌<◌, Some, length, refl, ap, sym, ◌∙◌, option_map, arith}
use Rattle.std.specs.Prelude.{slice_get}
use Rattle.std.proofs.lemmas.Option.{slice_get_read, slice_get-map}
use Rattle.frame_pool.specs.Leasing.{left, put_back}
use Rattle.pool_draft.specs.declared.row.Row.{Row}
use Rattle.pool_draft.specs.Held.{Held}
use Rattle.pool_draft.specs.Rows.{frames_of}
use Rattle.pool_draft.proofs.Looks.{frame_out, held_as}
use Rattle.pool_draft.proofs.Leaving.{held_left}
use Rattle.pool_draft.proofs.frame_pages.FramePages.let_go.Goals as goal

pub give-requires-clause-out : goal.give-requires-clause-out
give-requires-clause-out c =
    let rows = c.self.inside.lease.rows.items in
    let many : length rows ≡ length c.args.self.now.rows = ap (λ (h : Held). length h.rows) c.self.view_is in
    frame_out _ c.self.invariant c.args.k c.remove-frame.result
    (slice_get_read rows (length rows) c.args.k c.remove-frame.result refl (omega (arith, many, c.requires)) c.remove-frame.ensures.value)

pub invariant_of-self : goal.invariant_of-self
invariant_of-self c =
    let h : Held = record { pages = c.self.inside.pool; rows = c.self.inside.lease.rows.items; run = c.self.inside.lease.run; root = c.self.inside.root } in
    let many : length h.rows ≡ length c.args.self.now.rows = ap (λ (x : Held). length x.rows) c.self.view_is in
    let within : c.args.k < length h.rows = omega (arith, many, c.requires) in
    let at : slice_get h.rows c.args.k ≡ Some c.remove-frame.result = slice_get_read h.rows (length h.rows) c.args.k c.remove-frame.result refl within c.remove-frame.ensures.value in
    let frame : slice_get (frames_of h.rows) c.args.k ≡ Some c.remove-frame.result.frame =
    slice_get-map (λ (r : Row). r.frame) h.rows c.args.k ∙ ap (option_map (λ (r : Row). r.frame)) at in
    let more : left (put_back h.run c.remove-frame.result.frame) ≡ left h.run + 1 = sym (ap left c.give.ensures.back) ∙ c.give.ensures.left in
    held_as _ _ (sym c.give.ensures.pages) (sym (ap (λ v. v.items) c.give.ensures.rows ∙ c.remove-frame.ensures.items)) (sym c.give.ensures.back) refl
    (held_left h c.args.k c.remove-frame.result.frame c.self.invariant within frame more)
