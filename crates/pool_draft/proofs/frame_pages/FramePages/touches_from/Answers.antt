use Rattle.std.proofs.Common.{◌≡◌, ℕ, ◌<◌, ◌≤◌, ◌∷◌, true, false, length, subst, sym, ◌∙◌, add-one, rules, arith}
use Rattle.std.specs.Prelude.{slice_get, IfSome}
use Rattle.afs_base.specs.Path.{is_prefix}
use Rattle.pool_draft.specs.Keys.{Key, key_list}
use Rattle.pool_draft.specs.Rows.{key_of, forest}
use Rattle.pool_draft.proofs.Below.{touched_below}
use Rattle.pool_draft.proofs.RowTouch.{IsSoFar, search_start, search_stop, search_found, search_on, search_end}
use Rattle.pool_draft.proofs.frame_pages.FramePages.touches_from.Goals as goal

pub loop-i-init : goal.loop-i-init
loop-i-init c = search_start c.args.self.now (c.args.self.now.root ∷ c.args.at.now) c.args.k c.requires.before c.requires.from

pub returns-then-not-is_below : goal.returns-then-not-is_below
returns-then-not-is_below c =
    let h = c.args.self.now in
    let within : c.loop-i.i < length h.rows = omega (arith, c.row_count-i-end.ensures.value) in
    let B : Key → Type 0 = λ x. IfSome (slice_get h.rows c.loop-i.i) (λ r. c.is_below.result ≡ is_prefix (key_list x) (key_of r)) in
    let below = subst B c.branch-branch.ensures c.is_below.ensures.below in
    let off : c.is_below.result ≡ false = search rules in
    sym (touched_below h.root (forest h.pages h.rows) c.args.at.now
    ∙ search_stop h (h.root ∷ c.args.at.now) c.loop-i.i c.is_below.result c.is_below.ensures.held within below off c.loop-i.invariant)

pub returns-then-is_written : goal.returns-then-is_written
returns-then-is_written c =
    let h = c.args.self.now in
    let within : c.loop-i.i < length h.rows = omega (arith, c.row_count-i-end.ensures.value) in
    let B : Key → Type 0 = λ x. IfSome (slice_get h.rows c.loop-i.i) (λ r. c.is_below.result ≡ is_prefix (key_list x) (key_of r)) in
    let below = subst B c.branch-branch.ensures c.is_below.ensures.below in
    let on : c.is_below.result ≡ true = search rules in
    let fresh : c.is_written.result ≡ true = search rules in
    sym (touched_below h.root (forest h.pages h.rows) c.args.at.now
    ∙ search_found h (h.root ∷ c.args.at.now) c.loop-i.i c.is_below.result c.is_written.result _ within below on c.look_at-look.ensures c.is_written.ensures fresh c.loop-i.invariant)

pub loop-i-preserved : goal.loop-i-preserved
loop-i-preserved c =
    let h = c.args.self.now in
    let within : c.loop-i.i < length h.rows = omega (arith, c.row_count-i-end.ensures.value) in
    let B : Key → Type 0 = λ x. IfSome (slice_get h.rows c.loop-i.i) (λ r. c.is_below.result ≡ is_prefix (key_list x) (key_of r)) in
    let below = subst B c.branch-branch.ensures c.is_below.ensures.below in
    let on : c.is_below.result ≡ true = search rules in
    let stale : c.is_written.result ≡ false = search rules in
    let F : ℕ → Type 0 = λ n. IsSoFar h (h.root ∷ c.args.at.now) n in
    subst F (sym (add-one c.loop-i.i))
    (search_on h (h.root ∷ c.args.at.now) c.loop-i.i c.is_below.result c.is_written.result _ c.is_below.ensures.held within below on c.look_at-look.ensures c.is_written.ensures stale c.loop-i.invariant)

pub returns : goal.returns
returns c =
    let h = c.args.self.now in
    let past : length h.rows ≤ c.loop-i.i = omega (arith, c.row_count-i-end.ensures.value) in
    sym (touched_below h.root (forest h.pages h.rows) c.args.at.now ∙ search_end h (h.root ∷ c.args.at.now) c.loop-i.i past c.loop-i.invariant)
