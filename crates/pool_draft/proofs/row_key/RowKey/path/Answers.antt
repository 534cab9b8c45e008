use Rattle.std.proofs.Common.{◌≡◌, ◌+◌, ◌-◌, ◌/◌, ◌%◌, ◌++◌, ◌∷◌, [], List, ℕ, length, refl, sym, ap, ◌∙◌, append_assoc, length-append, true, arith}
use Rattle.afs_base.specs.Path.{are_slots}
use Rattle.pool_draft.specs.Keys.{Key, path_in}
use Rattle.pool_draft.proofs.Numbers.{some_power, next_power, path_told, path_ends, path_goes_on, path_full, slot_within}
use Rattle.pool_draft.proofs.row_key.RowKey.path.Goals as goal

pub loop-level-init : goal.loop-level-init
loop-level-init c = (
  refl,
  ap (λ (p : List ℕ). p ++ path_in 7 (c.self.inside.number % 34359738368)) c.root-path.ensures
      ∙ path_told c.self.inside.number ∙ ap (λ (k : Key). k.path) c.self.view_is,
  ap length c.root-path.ensures,
)

pub nonzero_div-digit : goal.nonzero_div-digit
nonzero_div-digit c =
    let i = c.loop-level._level in
    omega (arith, some_power (7 - (i + 1)), next_power i c.loop-level.width c.loop-level-test.true c.loop-level.invariant.0)

pub returns-then-digit-eq0 : goal.returns-then-digit-eq0
returns-then-digit-eq0 c =
    path_ends c.loop-level._level c.loop-level.width c.loop-level.rest c.loop-level.path c.args.self.now.path c.loop-level-test.true c.loop-level.invariant.0 c.loop-level.invariant.1 c.if-digit-eq0.true

digit_fits : goal.at-requires
digit_fits c =
    let i = c.loop-level._level in
    let d = c.loop-level.rest / (c.loop-level.width / 32) in
    let more = path_goes_on i c.loop-level.width c.loop-level.rest c.loop-level.path c.args.self.now.path c.loop-level-test.true c.loop-level.invariant.0 c.loop-level.invariant.1 c.if-digit-eq0.false in
    let slots : are_slots c.args.self.now.path ≡ true = ap (λ (k : Key). are_slots k.path) (sym c.self.view_is) ∙ c.self.invariant.key.slots in
    slot_within c.loop-level.path (path_in (7 - (i + 1)) (c.loop-level.rest % (c.loop-level.width / 32))) (d - 1) (ap are_slots more ∙ slots)

pub at-requires : goal.at-requires
at-requires c = digit_fits c

pub overflow_cast-digit : goal.overflow_cast-digit
overflow_cast-digit c = omega (arith, digit_fits c)

pub loop-level-preserved : goal.loop-level-preserved
loop-level-preserved c =
    let i = c.loop-level._level in
    let rest = path_in (7 - (i + 1)) (c.loop-level.rest % (c.loop-level.width / 32)) in (
      next_power i c.loop-level.width c.loop-level-test.true c.loop-level.invariant.0,
      ap (λ (p : List ℕ). p ++ rest) (c.below-path.ensures ∙ ap (λ s. c.loop-level.path ++ s ∷ []) c.at.ensures)
          ∙ append_assoc c.loop-level.path ((c.loop-level.rest / (c.loop-level.width / 32) - 1) ∷ []) rest
          ∙ path_goes_on i c.loop-level.width c.loop-level.rest c.loop-level.path c.args.self.now.path c.loop-level-test.true c.loop-level.invariant.0 c.loop-level.invariant.1 c.if-digit-eq0.false,
      ap length c.below-path.ensures ∙ length-append c.loop-level.path _ ∙ ap (λ n. n + 1) c.loop-level.invariant.2,
    )

pub returns : goal.returns
returns c = path_full c.loop-level._level c.loop-level.rest c.loop-level.path c.args.self.now.path c.loop-level-test.false c.loop-level.invariant.1
