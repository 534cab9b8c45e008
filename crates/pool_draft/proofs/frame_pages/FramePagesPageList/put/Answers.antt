use Rattle.std.proofs.Common.{◌≡◌, ◌<◌, ◌∷◌, map, length, refl, ap, subst, sym, ◌∙◌, option_map, arith}
use Rattle.std.specs.Map.{keys_of}
use Rattle.draft_model.specs.Entries.{shown}
use Rattle.draft_model.proofs.Entries.{order_rising, length_keys}
use Rattle.draft_tree.specs.Pages.{put}
use Rattle.pool_draft.specs.Held.{Held, picked_tree, beside, space_of}
use Rattle.pool_draft.specs.Rows.{key_of, copied_in, forest}
use Rattle.pool_draft.specs.Seeking.{IsFoundAt, IsGapAt}
use Rattle.pool_draft.proofs.Below.{order_below}
use Rattle.pool_draft.proofs.Looks.{look_found, frame_within, forest_order, held_as, same_held}
use Rattle.pool_draft.proofs.Putting.{over_put, held_put, shown_put, length_put, beside_put, room_left}
use Rattle.pool_draft.proofs.Written.{held_written, shown_written, keys_written, beside_written}
use Rattle.pool_draft.proofs.frame_pages.FramePagesPageList.put.Goals as goal
use Rattle.pool_draft.proofs.frame_pages.FramePagesPageList.put.Goals.{in-Ok-insert_row, in-Err-insert_row}

pub write_row-requires-clause-frame : goal.write_row-requires-clause-frame
write_row-requires-clause-frame c r at = frame_within _ c.self.invariant c.in-Ok.k r at

pub invariant_of-self : goal.invariant_of-self
invariant_of-self c =
    let h : Held = record { pages = c.self.inside.pool; rows = c.self.inside.lease.rows.items; run = c.self.inside.lease.run; root = c.self.inside.root } in
    held_written h c.in-Ok.k (λ _. c.args.copied) c.write_row.new.pool c.write_row.new.rows.items c.self.invariant c.write_row.ensures.written

pub returns-in-Ok-clause-put : goal.returns-in-Ok-clause-put
returns-in-Ok-clause-put c p =
    let h : Held = record { pages = c.self.inside.pool; rows = c.self.inside.lease.rows.items; run = c.self.inside.lease.run; root = c.self.inside.root } in
    let w = c.write_row.ensures.written in
    let F : Held → Type 0 = λ x. IsFoundAt (map key_of x.rows) (x.root ∷ c.args.at.now) c.in-Ok.k in
    let found : IsFoundAt (map key_of h.rows) (h.root ∷ c.args.at.now) c.in-Ok.k = subst F (sym c.self.view_is) c.in-Ok.ensures.found.1 in
    shown_written h c.in-Ok.k (λ _. c.args.copied) c.write_row.new.pool c.write_row.new.rows.items c.args.at.now c.self.invariant found w p
    ∙ over_put (shown (picked_tree h)) c.args.at.now p c.args.copied (copied_in h.pages w.row)
    (look_found h c.in-Ok.k c.args.at.now (copied_in h.pages w.row) c.self.invariant found (ap (option_map (copied_in h.pages)) w.at))
    ∙ ap (λ (x : Held). put (shown (picked_tree x)) c.args.at.now c.args.copied p) c.self.view_is

pub returns-in-Ok-clause-len : goal.returns-in-Ok-clause-len
returns-in-Ok-clause-len c =
    let h : Held = record { pages = c.self.inside.pool; rows = c.self.inside.lease.rows.items; run = c.self.inside.lease.run; root = c.self.inside.root } in
    let many = length_keys _ _ (keys_written h c.in-Ok.k (λ _. c.args.copied) c.write_row.new.pool c.write_row.new.rows.items c.write_row.ensures.written
    ∙ ap (λ (x : Held). keys_of (picked_tree x)) c.self.view_is) in
    omega (arith, many)

pub returns-in-Ok-clause-order : goal.returns-in-Ok-clause-order
returns-in-Ok-clause-order c =
    let h : Held = record { pages = c.self.inside.pool; rows = c.self.inside.lease.rows.items; run = c.self.inside.lease.run; root = c.self.inside.root } in
    let held = held_written h c.in-Ok.k (λ _. c.args.copied) c.write_row.new.pool c.write_row.new.rows.items c.self.invariant c.write_row.ensures.written in
    order_rising _ (order_below h.root (forest c.write_row.new.pool c.write_row.new.rows.items) (forest_order c.write_row.new.pool c.write_row.new.rows.items held.ordered))

pub returns-in-Ok-clause-others : goal.returns-in-Ok-clause-others
returns-in-Ok-clause-others c =
    let h : Held = record { pages = c.self.inside.pool; rows = c.self.inside.lease.rows.items; run = c.self.inside.lease.run; root = c.self.inside.root } in
    let F : Held → Type 0 = λ x. IsFoundAt (map key_of x.rows) (x.root ∷ c.args.at.now) c.in-Ok.k in
    let found : IsFoundAt (map key_of h.rows) (h.root ∷ c.args.at.now) c.in-Ok.k = subst F (sym c.self.view_is) c.in-Ok.ensures.found.1 in
    beside_written h c.in-Ok.k (λ _. c.args.copied) c.write_row.new.pool c.write_row.new.rows.items c.args.at.now found c.write_row.ensures.written
    ∙ ap beside c.self.view_is

-- ---- no row stands there

pub invariant_of-self-in-Err : goal.invariant_of-self-in-Err
invariant_of-self-in-Err c =
    let h : Held = record { pages = c.self.inside.pool; rows = c.self.inside.lease.rows.items; run = c.self.inside.lease.run; root = c.self.inside.root } in
    let F : Held → Type 0 = λ x. IsGapAt (map key_of x.rows) (x.root ∷ c.args.at.now) c.in-Err.k in
    let gap : IsGapAt (map key_of h.rows) (h.root ∷ c.args.at.now) c.in-Err.k = subst F (sym c.self.view_is) c.in-Err.ensures.gap.1 in
    let many : length h.rows ≡ length c.args.self.now.rows = ap (λ (x : Held). length x.rows) c.self.view_is in
    elim c.match-insert_row.branch [
      | in-Ok-insert_row w ↦
          held_put h c.in-Err.k c.args.at.now c.args.copied c.insert_row.new.pool c.insert_row.new.lease.rows.items c.insert_row.new.lease.run c.self.invariant
          (omega (arith, many, c.in-Err.ensures.gap.0)) (omega (arith, c.len-depth.ensures.value, c.len-depth.ensures.short)) gap w.in-Ok-insert_row.ensures.put
      | in-Err-insert_row w ↦
          let e = w.in-Err-insert_row.ensures.err in
          held_as _ _ (sym e.0) (sym e.2) (sym e.1) refl c.self.invariant
    ]

pub returns-after-insert_row-clause-put : goal.returns-after-insert_row-clause-put
returns-after-insert_row-clause-put c =
    let h : Held = record { pages = c.self.inside.pool; rows = c.self.inside.lease.rows.items; run = c.self.inside.lease.run; root = c.self.inside.root } in
    let F : Held → Type 0 = λ x. IsGapAt (map key_of x.rows) (x.root ∷ c.args.at.now) c.in-Err.k in
    let gap : IsGapAt (map key_of h.rows) (h.root ∷ c.args.at.now) c.in-Err.k = subst F (sym c.self.view_is) c.in-Err.ensures.gap.1 in
    elim c.match-insert_row.branch [
      | in-Ok-insert_row w ↦
          rw w.result-is (λ p. shown_put h c.in-Err.k c.args.at.now c.args.copied c.insert_row.new.pool c.insert_row.new.lease.rows.items c.insert_row.new.lease.run gap w.in-Ok-insert_row.ensures.put p
          ∙ ap (λ (x : Held). put (shown (picked_tree x)) c.args.at.now c.args.copied p) c.self.view_is)
      | in-Err-insert_row w ↦ rw w.result-is tt
    ]

pub returns-after-insert_row-clause-len : goal.returns-after-insert_row-clause-len
returns-after-insert_row-clause-len c =
    let h : Held = record { pages = c.self.inside.pool; rows = c.self.inside.lease.rows.items; run = c.self.inside.lease.run; root = c.self.inside.root } in
    let old : length (picked_tree h) ≡ length (picked_tree c.args.self.now) = ap (λ (x : Held). length (picked_tree x)) c.self.view_is in
    elim c.match-insert_row.branch [
      | in-Ok-insert_row w ↦
          let more = length_put h c.in-Err.k c.args.at.now c.args.copied c.insert_row.new.pool c.insert_row.new.lease.rows.items c.insert_row.new.lease.run w.in-Ok-insert_row.ensures.put in
          omega (arith, more, old)
      | in-Err-insert_row w ↦
          let e = w.in-Err-insert_row.ensures.err in
          let j : Held = record { pages = c.insert_row.new.pool; rows = c.insert_row.new.lease.rows.items; run = c.insert_row.new.lease.run; root = c.self.inside.root } in
          let same : length (picked_tree j) ≡ length (picked_tree h) = ap (λ (x : Held). length (picked_tree x)) (same_held j h e.0 e.2 e.1 refl) in
          omega (arith, same, old)
    ]

pub returns-after-insert_row-clause-order : goal.returns-after-insert_row-clause-order
returns-after-insert_row-clause-order c =
    let h : Held = record { pages = c.self.inside.pool; rows = c.self.inside.lease.rows.items; run = c.self.inside.lease.run; root = c.self.inside.root } in
    let F : Held → Type 0 = λ x. IsGapAt (map key_of x.rows) (x.root ∷ c.args.at.now) c.in-Err.k in
    let gap : IsGapAt (map key_of h.rows) (h.root ∷ c.args.at.now) c.in-Err.k = subst F (sym c.self.view_is) c.in-Err.ensures.gap.1 in
    let many : length h.rows ≡ length c.args.self.now.rows = ap (λ (x : Held). length x.rows) c.self.view_is in
    elim c.match-insert_row.branch [
      | in-Ok-insert_row w ↦
          let held = held_put h c.in-Err.k c.args.at.now c.args.copied c.insert_row.new.pool c.insert_row.new.lease.rows.items c.insert_row.new.lease.run c.self.invariant
          (omega (arith, many, c.in-Err.ensures.gap.0)) (omega (arith, c.len-depth.ensures.value, c.len-depth.ensures.short)) gap w.in-Ok-insert_row.ensures.put in
          rw w.result-is (order_rising _ (order_below h.root (forest c.insert_row.new.pool c.insert_row.new.lease.rows.items) (forest_order c.insert_row.new.pool c.insert_row.new.lease.rows.items held.ordered)))
      | in-Err-insert_row w ↦ rw w.result-is tt
    ]

pub returns-after-insert_row-clause-others : goal.returns-after-insert_row-clause-others
returns-after-insert_row-clause-others c =
    let h : Held = record { pages = c.self.inside.pool; rows = c.self.inside.lease.rows.items; run = c.self.inside.lease.run; root = c.self.inside.root } in
    let many : length h.rows ≡ length c.args.self.now.rows = ap (λ (x : Held). length x.rows) c.self.view_is in
    elim c.match-insert_row.branch [
      | in-Ok-insert_row w ↦
          beside_put h c.in-Err.k c.args.at.now c.args.copied c.insert_row.new.pool c.insert_row.new.lease.rows.items c.insert_row.new.lease.run
          (omega (arith, many, c.in-Err.ensures.gap.0)) w.in-Ok-insert_row.ensures.put
          ∙ ap beside c.self.view_is
      | in-Err-insert_row w ↦
          let e = w.in-Err-insert_row.ensures.err in
          let j : Held = record { pages = c.insert_row.new.pool; rows = c.insert_row.new.lease.rows.items; run = c.insert_row.new.lease.run; root = c.self.inside.root } in
          ap beside (same_held j h e.0 e.2 e.1 refl) ∙ ap beside c.self.view_is
    ]

pub returns-after-insert_row-clause-succeeds : goal.returns-after-insert_row-clause-succeeds
returns-after-insert_row-clause-succeeds c never room =
    let h : Held = record { pages = c.self.inside.pool; rows = c.self.inside.lease.rows.items; run = c.self.inside.lease.run; root = c.self.inside.root } in
    let F : Held → Type 0 = λ x. length (picked_tree x) < space_of (beside x) in
    elim c.match-insert_row.branch [
      | in-Ok-insert_row w ↦ rw w.result-is refl
      | in-Err-insert_row w ↦ absurd (room_left h (subst F (sym c.self.view_is) room) w.in-Err-insert_row.ensures.none)
    ]
