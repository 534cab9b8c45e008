-- The turns that set the link of one member, and that clear the members that the top names.
use Rattle.std.proofs.Common.{◌≡◌, inr, ℕ, List, [], refl, subst, arith, append-nil}
use Rattle.page_codec.specs.Values.{VersionValue}
use Rattle.pair_store.specs.declared.store.Blocks.{Ghosts}
use Rattle.service_model.specs.declared.journal.Entry.{Entry}
use Rattle.service_model.specs.Standing.{Scripts}
use Rattle.store_changes.specs.Writes.{Content}
use Rattle.store_model.specs.Changes.{with_commit, without_members}
use Rattle.tree_model.specs.States.{State}
use Rattle.ground_model.specs.Linking.{IsSettingLinks}
use Rattle.ground_model.specs.Rolling.{ClearingTurnStands, IsMarkedBy, IsMarkedTo, MemberTurnStands}
use Rattle.ground_model.specs.Runs.{Stands}
use Rattle.ground_model.specs.Scenes.{Scene}
use Rattle.ground_model.proofs.RollingClears.{top_is_cleared}
use Rattle.ground_model.proofs.RollingLinks.{link_is_set}
use Rattle.ground_model.proofs.Testing.{standing_sound}
use Rattle.ground_model.proofs.Turning.{turn_stands}

module _ {D : Type 0} (b : Ghosts D) (settled_left : (s : D) (n : ℕ) (f : Content) → b.settled_always s n → b.may_leave s (b.moment s) f → f n ≡ b.content s n) where
  -- a turn that wrote a version page anew in its place, and noted nothing
  pub marked_stands : (opening : State) (scripts : Scripts) (first k : ℕ) (scene new : Scene) (before after : D) (es : List Entry) (block : ℕ) (change : VersionValue → VersionValue)
      → Stands b opening scripts first scene before es → IsMarkedBy b scene before after block change → IsMarkedTo k scene new (b.content after) → Stands b opening scripts first new after es
  marked_stands opening scripts first k scene new before after es block change st by to =
      subst (λ (xs : List Entry). Stands b opening scripts first new after xs) (append-nil es)
      (turn_stands b settled_left opening scripts first scene new before after es [] st (record {
        operation = inr (block, by.bytes, by.within, by.put);
        content = to.content_is;
        most = to.most;
        blocks = to.blocks;
        legal = tt;
        leads = to.standing_is;
        moments = record { moments = refl; one = omega arith };
      }) to.leads.shared)

  pub member_turn_stands : MemberTurnStands b
  member_turn_stands opening scripts first k scene before after es u made moment object block members link left st setting by =
      let set : (new : Scene) × IsMarkedTo k scene new (b.content after) × IsSettingLinks new k u made moment object block members left =
      link_is_set scripts k scene (b.content after) u made moment object block members link left st.shared
      (standing_sound b opening scripts first scene before es st) setting by.rewrites in (
        set.0,
        marked_stands opening scripts first k scene set.0 before after es link.base (with_commit link.member.block) st by set.1,
        set.1,
        set.2,
      )

  pub clearing_turn_stands : ClearingTurnStands b
  clearing_turn_stands opening scripts first k scene before after es u made moment object block members st some setting by =
      let set : (new : Scene) × IsMarkedTo k scene new (b.content after) × IsSettingLinks new k u made moment object block [] [] =
      top_is_cleared scripts k scene (b.content after) u made moment object block members st.shared
      (standing_sound b opening scripts first scene before es st) some setting by.rewrites in (
        set.0,
        marked_stands opening scripts first k scene set.0 before after es block without_members st by set.1,
        set.1,
        set.2,
      )
