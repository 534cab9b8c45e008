-- A turn that writes a page of a flush.
use Rattle.std.proofs.Common.{◌≡◌, inr, ℕ, ◌<◌, List, refl, sym, ap, ◌∙◌, subst, arith}
use Rattle.block_map.specs.declared.states.BlockState.{BlockState}
use Rattle.pair_store.specs.declared.store.Blocks.{Ghosts}
use Rattle.service_model.specs.declared.journal.Entry.{Entry}
use Rattle.service_model.specs.Entries.{after_entries}
use Rattle.service_model.specs.Standing.{Scripts, Standing, Client}
use Rattle.store_changes.specs.Writes.{Content}
use Rattle.tree_model.specs.States.{State}
use Rattle.version_chain.specs.Flush.{Plan}
use Rattle.version_chain.specs.Laws.{HasWritten}
use Rattle.version_chain.proofs.Whole.{writes_next}
use Rattle.ground_model.specs.Laws.{Leads}
use Rattle.ground_model.specs.Own.{IsFlushing}
use Rattle.ground_model.specs.Runs.{Stands}
use Rattle.ground_model.specs.Scenes.{Scene}
use Rattle.ground_model.specs.Writing.{FlushBegins, FlushGoesOn, IsWriteTurn, WriteTurnStands}
use Rattle.ground_model.proofs.HeldWrites.{past_end}
use Rattle.ground_model.proofs.Lines.{changes_only}
use Rattle.ground_model.proofs.Steps.{held_write_leads, leaves_go_on, line_step_leads, there_twice}
use Rattle.ground_model.proofs.Turning.{turn_stands}

-- what leads on and on leads
pub leads_on : (k : ℕ) (old mid new : Scene) → Leads k old mid → Leads k mid new → Leads k old new
leads_on k old mid new one two = record {
  shared = two.shared;
  versions = λ object version has. (let a = one.versions object version has in there_twice old mid new object version a (two.versions object a.again a.is));
  leaves = λ j low ne. leaves_go_on j old mid new (one.leaves j low ne) (two.leaves j low ne);
}

module _ {D : Type 0} (b : Ghosts D) (opening : State) (scripts : Scripts) (first k : ℕ) (scene : Scene) (before after : D) (es fs : List Entry) (c : Client)
    (states : List BlockState) (block : ℕ) (bytes : List ℕ) (st : Stands b opening scripts first scene before es) (turn : IsWriteTurn b scripts k scene before after fs c states block bytes) where
  abbrev standing : Standing
  standing = after_entries scripts scene.standing fs

  noted : Leads k scene (record scene { content = scene.content; states = states; standing = standing })
  noted =
      line_step_leads k scene scene.content states standing st.shared (record {
        same = λ n. refl;
        only = changes_only scene.standing standing k c turn.client turn.notes.becomes turn.links;
        size = turn.size;
        fixed = turn.fixed;
        held = turn.held;
      })

  put : Leads k (record scene { content = scene.content; states = states; standing = standing }) (record scene { content = b.content after; states = states; standing = standing })
  put =
      held_write_leads k block (record scene { content = scene.content; states = states; standing = standing }) (b.content after) noted.shared (record {
        held = turn.mine;
        others = λ n ne. turn.put.others n ne ∙ ap (λ (f : Content). f n) (sym st.content);
      })

  pub write_leads : Leads k scene (record scene { content = b.content after; states = states; standing = after_entries scripts scene.standing fs })
  write_leads = leads_on k scene (record scene { content = scene.content; states = states; standing = standing }) (record scene { content = b.content after; states = states; standing = standing }) noted put

pub write_turn_stands : {D : Type 0} (b : Ghosts D) → ((s : D) (n : ℕ) (f : Content) → b.settled_always s n → b.may_leave s (b.moment s) f → f n ≡ b.content s n) → WriteTurnStands b
write_turn_stands b settled_left opening scripts first k scene before after es fs c states block bytes st turn =
    let leads = write_leads b opening scripts first k scene before after es fs c states block bytes st turn in
    let within : block < scene.store.root.blocks = subst (λ n. block < n) (turn.size ∙ st.shared.map.size) (past_end states block k turn.mine) in (
      turn_stands b settled_left opening scripts first scene (record scene { content = b.content after; states = states; standing = after_entries scripts scene.standing fs }) before after es fs st (record {
        operation = inr (block, bytes, within, turn.put);
        content = refl;
        most = refl;
        blocks = refl;
        legal = turn.notes.legal;
        leads = refl;
        moments = turn.moments;
      }) leads.shared,
      leads,
    )

-- ---- the flush

pub flush_begins : FlushBegins
flush_begins scene k d base plan placed apart mine none = record {
  placed = placed;
  apart = apart;
  mine = mine;
  done = λ i x low at. absurd (omega (arith, low, none));
}

pub flush_goes_on : FlushGoesOn
flush_goes_on old new k d base plan more block bytes h gives still here others =
    let F : Plan → Type 0 = λ p. IsFlushing new k d base p in
    subst F (sym gives.plan) (record {
      placed = h.placed;
      apart = h.apart;
      mine = λ i x at. still x.block (h.mine i x at);
      done = (let G : Plan → Type 0 = λ p. HasWritten d base p new.content in
          subst G gives.plan (writes_next d base plan more block bytes old.content new.content h.apart h.done gives (record { here = here; others = others })));
    })
