use Rattle.std.proofs.Common.{rules, refl, ◌≡◌, ◌∙◌, sym, ap}
use Rattle.turn_lock.proofs.Steps.{shuts_as, stands_as, named_as, last_value, returned}
use Rattle.turn_lock.proofs.lock.TurnLock.close.Goals as goal

pub store-requires : goal.store-requires
store-requires g c = let held = c.hold-value.ensures.held in let view = c.into_seat-seat.ensures.view in (
  search rules,
  search rules,
  shuts_as g.T.Named.name (g.T.Named.name c.args.lock.table.shared.key.value) c.args.lock.table.shared.table_id.slots c.put_back.new.seat.id c.put_back.new.seat.me c.into_seat-seat.result.me.0 c.hold-value.result c.put_back.ensures.put
      (stands_as _ _ _ view held.held) (named_as _ _ _ view (c.hold-value.ensures.same.name ∙ held.named)),
)

pub unwrap-value-requires : goal.unwrap-value-requires
unwrap-value-requires g c = let t = last_value g.T.Named.name (g.T.Named.name c.args.lock.table.shared.key.value) _ _ _ _ _ (ap (λ m. m.0.standing) c.store.ensures.2) c.close_with-closed.ensures.values.2 c.take.ensures.value in
    rw t.1 refl

pub returns : goal.returns
returns g c = let t = last_value g.T.Named.name (g.T.Named.name c.args.lock.table.shared.key.value) _ _ _ _ _ (ap (λ m. m.0.standing) c.store.ensures.2) c.close_with-closed.ensures.values.2 c.take.ensures.value in
    let same : c.store.new.seat.me.0.name ≡ c.args.pass.seat.me.0.name = ap (λ m. m.0.name) c.store.ensures.2 ∙ (ap (λ m. m.0.name) c.put_back.ensures.put ∙ (named_as _ _ _ c.into_seat-seat.ensures.view c.hold-value.ensures.same.name)) in
    returned g.T.Named.name (g.T.Named.name c.args.lock.table.shared.key.value) _ _ _ _ t.1 (sym same ∙ t.2) c.unwrap-value.ensures
