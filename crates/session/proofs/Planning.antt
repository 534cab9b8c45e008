-- A commit that holds its blocks plans which page goes into which.
use Rattle.std.proofs.Common.{◌≡◌, ◌≢◌, ℕ, ◌+◌, ◌<◌, ◌^◌, true, List, [], length, sym, ap, ◌∙◌, subst, arith}
use Rattle.std.proofs.lemmas.List.{length-map}
use Rattle.std.proofs.lemmas.Option.{get_or_from_slice_get, slice_get_within}
use Rattle.block_map.specs.States.{state_at}
use Rattle.block_map.specs.declared.states.BlockState.{BlockState}
use Rattle.block_map.specs.declared.states.BlockState.TheVariants.{Held}
use Rattle.draft_model.specs.Entries.{fresh_paths}
use Rattle.draft_model.specs.Flush.{IsPlaced, Placed, are_apart}
use Rattle.draft_model.specs.Views.{View}
use Rattle.page_codec.specs.declared.why.Why.{Why}
use Rattle.pair_store.specs.declared.store.Blocks.{Ghosts}
use Rattle.pool_draft.specs.Held.{picked_tree}
use Rattle.pool_draft.specs.Sets.{picked_of, view_at}
use Rattle.script_text.specs.ScriptValue.{ScriptValue}
use Rattle.service_model.specs.Standing.{client_of}
use Rattle.tree_model.specs.Accesses.{written_paths}
use Rattle.version_chain.specs.Flush.{AreHeld, Plan, StartsAtRoot, paths_of}
use Rattle.ground_model.proofs.Writing.{flush_begins}
use Rattle.session.specs.Blocks.{IsNeeded}
use Rattle.session.specs.Calls.{IsLost, IsReady, TurnCall}
use Rattle.session.specs.Own.{IsHolding, IsMergedIn, IsWritingBy}
use Rattle.session.specs.Safe.{IsSafeFlush, drafts_of, serial_of, view_of}
use Rattle.session.specs.declared.common.Common.{Common}
use Rattle.session.specs.declared.course.Course.{Course}
use Rattle.session.specs.declared.turned.Fault.TheVariants as fault
use Rattle.session.specs.declared.turned.Turned.{Turned}
use Rattle.session.specs.declared.turned.Turned.TheVariants as turned
use Rattle.session.proofs.Deciding.{run_sound}
use Rattle.session.proofs.Drafts.{fresh_told, has_draft, view_is}
use Rattle.session.proofs.Never.{never_call}
use Rattle.session.proofs.Owned.{own_call}
use Rattle.session.proofs.Refusing.{needed_here, some_taken}

-- the plan of a draft's blocks, of those that the client holds
pub record IsPlanned (map : List BlockState) (s : Course) (flush : Plan) : Type 0 where
  pub paths : paths_of flush.placed ≡ written_paths (fresh_paths (picked_tree s.drafts.pages))
  pub placed : IsPlaced (view_at s.drafts (picked_of s.drafts)) flush.placed
  pub blocks : AreHeld map s.client 0 flush.placed
  pub apart : are_apart flush.placed ≡ true
  pub top : StartsAtRoot flush.placed
  pub members : flush.members ≡ []
  pub start : flush.written ≡ 0

module _ {D : Type 0} (b : Ghosts D) (script : ScriptValue) (c : Common D) (s : Course) (ready : IsReady b script c s) (one : drafts_of s ≡ 1) (needed : ℕ) (need_is : IsNeeded s needed) where
  -- it holds as many as it needs
  holds_need : b.tells → needed ≢ s.held → IsLost b IsHolding script c s
  holds_need told ne opening scripts first scene is =
      let m = is.mine.deciding.open_to.merged in
      let held = (some_taken s.held m.update (client_of scene.standing s.client).noted is.mine.some m.committing.taken).1 in
      let all =
      needed_here scripts scene script s is.mine.deciding (run_sound b opening scripts first scene c is.stands) _ (fresh_told s (has_draft b script c s ready one)) in
      ne (need_is ∙ all ∙ sym held)

  pub unneeded_call : (block : ℕ) (why : Why) → needed ≢ s.held → TurnCall b IsHolding script c c s s (turned.Stopped (fault.Bad block why))
  unneeded_call block why ne = never_call b IsHolding script c s block why ready (λ told. holds_need told ne)

  module _ (flush : Plan) (p : IsPlanned c.map s flush) where
    placed_is : IsPlaced (view_of s) flush.placed
    placed_is = subst (λ (d : View). IsPlaced d flush.placed) (view_is s (has_draft b script c s ready one)) p.placed

    pub planned_safe : serial_of s + 1 < 2 ^ 64 → IsSafeFlush (length c.map) s flush
    planned_safe low = record {
      placed = placed_is;
      top = p.top;
      within = λ k x at. slice_get_within c.map x.block (Held s.client) (p.blocks k x at).0;
      serial = low;
    }

    pub planned_call : needed ≡ s.held → (c' : Common D) (s' : Course) (result : Turned) → TurnCall b (IsWritingBy flush) script c c' s s' result
        → TurnCall b IsHolding script c c' s s' result
    planned_call all c' s' result call =
        own_call b IsHolding (IsWritingBy flush) script c c' s s' result (λ told opening scripts first scene is. record {
          merged = subst (λ n. IsMergedIn n scripts scene script s) (sym p.start) is.mine.deciding.open_to.merged;
          flushing =
              flush_begins scene s.client (view_of s) _ flush placed_is p.apart
              (λ i x at. subst (λ (states : List BlockState). state_at states x.block ≡ Held s.client) is.stands.map (get_or_from_slice_get c.map x.block (Held s.client) _ (p.blocks i x at).0)) p.start;
          top = p.top;
          alone = p.members;
          within = (let start = p.start in omega (arith, start));
          number = sym all ∙ need_is ∙ sym (ap length p.paths) ∙ length-map flush.placed (λ (x : Placed). x.path);
          unworn = is.mine.unworn;
        }) call
