-- Opening again finds the same files.
use Rattle.std.proofs.Common.{◌≡◌, ℕ, zero, suc, sym, ap, ◌∙◌}
use Rattle.std.proofs.Math.Path.{fun_ext}
use Rattle.drives.specs.declared.device.Drives.{Ghosts as Device}
use Rattle.pair_store.specs.Content.{ContentsLeft}
use Rattle.store_model.specs.Found.{found}
use Rattle.store_model.proofs.Steps.{Content}
use Rattle.recovery.specs.Reopening.{LeavesOpening, LeavesOpenings, ReopeningFindsTheSame}
use Rattle.recovery.proofs.PairOpenings.{left_at_rest}

module _ {V : Type 0} (v : Device V) (most : ℕ) where
  -- one opening
  one : (f g : Content) → LeavesOpening v most f g → found g most ≡ found f most
  one f g o = after (o.images.own o.crash g o.begun o.within o.left)
    where
      after : (y : Content) × ContentsLeft v.may_leave o.before (v.moment o.before) y × (found g most ≡ found y most) → found g most ≡ found f most
      after from =
          from.2 ∙ ap (λ c. found c most) (left_at_rest v o.before o.rest from.0 from.1) ∙ sym (ap (λ c. found c most) (fun_ext o.held))

  -- any number of them
  many : (times : ℕ) (f g : Content) → LeavesOpenings v most times f g → found g most ≡ found f most
  many zero f g same = ap (λ c. found c most) (fun_ext same)
  many (suc times) f g o = many times o.0 g o.2 ∙ one f o.0 o.1

pub reopening_finds_the_same : {V : Type 0} (v : Device V) → ReopeningFindsTheSame v
reopening_finds_the_same v most times f g o = many v most times f g o
