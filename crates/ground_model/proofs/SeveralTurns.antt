-- The turn of the link of a commit of several files; what its test-and-set came to; and where its write failed what is kept of the run.
use Rattle.std.proofs.Common.{◌≡◌, inr, ℕ, zero, suc, ◌+◌, ◌<◌, ◌≤◌, List, [], ◌∷◌, ◌++◌, length, Some, Result, Ok, Err, refl, sym, ap, ◌∙◌, subst, arith, slice_get}
use Rattle.std.specs.Option.{option_and_then}
use Rattle.block_map.specs.declared.states.BlockState.{BlockState}
use Rattle.draft_model.specs.Flush.{Placed}
use Rattle.page_codec.specs.Causes.{version_of}
use Rattle.page_codec.proofs.FrameLaws.{IsBlock}
use Rattle.pair_store.specs.declared.fault.PairFault.{PairFault}
use Rattle.pair_store.specs.declared.fault.PairFault.TheVariants.{ReadFault, WriteFault, BothClosed, BadPage}
use Rattle.pair_store.specs.declared.outcome.Tas.{Tas}
use Rattle.pair_store.specs.declared.outcome.Tas.TheVariants.{Set, Taken}
use Rattle.pair_store.specs.declared.store.Blocks.{Ghosts}
use Rattle.service_model.specs.declared.journal.Entry.{Entry}
use Rattle.service_model.specs.Standing.{Scripts, Standing, Work, serial_of, start}
use Rattle.store_changes.specs.Writes.{Content}
use Rattle.store_model.specs.Changes.{Rewrites, with_commit}
use Rattle.store_model.specs.Laws.{read_of}
use Rattle.store_model.proofs.Edits.{none_some}
use Rattle.tree_model.specs.States.{State}
use Rattle.version_chain.specs.Flush.{AreHeld}
use Rattle.version_chain.proofs.Writing.{apart}
use Rattle.ground_model.specs.Commits.{IsLinkedTo, commit_entry}
use Rattle.ground_model.specs.Runs.{Stands}
use Rattle.ground_model.specs.Scenes.{Scene, IsLinking}
use Rattle.ground_model.specs.Several.{Renewal, places_of}
use Rattle.ground_model.specs.SeveralTurns.{AreHeldFrom, HeldAreApart, SeveralAreTested, SeveralCame, SeveralStop, SeveralTurnStands}
use Rattle.ground_model.specs.Tests.{LinkCame}
use Rattle.ground_model.proofs.LinkTurns.{moments_by, one_entry}
use Rattle.ground_model.proofs.SeveralCommit.{commit_links_several}
use Rattle.ground_model.proofs.SeveralNotes.{several_are_last}
use Rattle.ground_model.proofs.Shows.{base_shows}
use Rattle.ground_model.proofs.Stopping.{write_stops_run}
use Rattle.ground_model.proofs.Testing.{here_now, others_then, replaced, replaces, set_rewrites, standing_sound, written_in}
use Rattle.ground_model.proofs.Turning.{turn_stands}

-- what stands carries no later moment than the store tells
early : {D : Type 0} (b : Ghosts D) (opening : State) (scripts : Scripts) (first : ℕ) (scene : Scene) (before : D) (es : List Entry) → Stands b opening scripts first scene before es
    → scene.standing.moment ≤ b.moment before
early b opening scripts first scene before es st =
    subst (λ (s : Standing). s.moment ≤ b.moment before) st.reaches.leads (moments_by scripts (start opening scripts) es (b.moment before) (omega arith) st.past)

-- ---- the turn

module _ {D : Type 0} (b : Ghosts D) (settled_left : (s : D) (n : ℕ) (f : Content) → b.settled_always s n → b.may_leave s (b.moment s) f → f n ≡ b.content s n) where
  pub several_turn_stands : SeveralTurnStands b
  several_turn_stands opening scripts first k scene before after es line u top members block states st turn =
      let by = early b opening scripts first scene before es st in
      let later = turn.put.later in
      let links = commit_links_several scripts k scene line u top members block (b.content after) states (b.moment after)
      st.shared (standing_sound b opening scripts first scene before es st) turn.may turn.written turn.first turn.rewrites turn.kept (omega (arith, by, later)) in
      let to : IsLinkedTo scripts k scene links.0 (commit_entry scene.standing k line u (b.moment after)) (b.content after) states = links.1.to in (
        links.0,
        turn_stands b settled_left opening scripts first scene links.0 before after es (commit_entry scene.standing k line u (b.moment after) ∷ []) st (record {
          operation = inr (top.root, turn.bytes, (base_shows scene top.work.object top.work.serial top.root top.work.base st.shared turn.written.each.0.draft.base).lies.high, turn.put);
          content = to.content_is;
          most = to.most;
          blocks = to.blocks;
          legal = (to.lawful, tt);
          leads = to.standing;
          moments = one_entry (b.moment after) (commit_entry scene.standing k line u (b.moment after)) refl;
        }) to.leads.shared,
        links.1,
      )

  pub several_stop : SeveralStop b
  several_stop opening scripts first k scene before after journal line u top members block st may written first_is torn doubt =
      let by = early b opening scripts first scene before journal.entries.items st in
      let later = torn.later in
      let rewrites : Rewrites scene.content (written_in scene.content top.root torn.bytes) top.root (with_commit block) =
      record {
        page = torn.page;
        was = torn.was;
        is = ap (option_and_then (λ bytes. read_of (version_of bytes))) (here_now scene.content top.root torn.bytes) ∙ ap read_of torn.linked;
        others = λ n ne. sym (others_then scene.content top.root torn.bytes n ne);
      } in
      let links = commit_links_several scripts k scene line u top members block (written_in scene.content top.root torn.bytes) (replaced k scene.states) (b.moment after)
      st.shared (standing_sound b opening scripts first scene before journal.entries.items st) may written first_is rewrites (replaces k scene.states)
      (omega (arith, by, later)) in
      let to : IsLinkedTo scripts k scene links.0 (commit_entry scene.standing k line u (b.moment after)) (written_in scene.content top.root torn.bytes) (replaced k scene.states) =
      links.1.to in
      write_stops_run b settled_left opening scripts first scene links.0 before after top.root torn.bytes journal (commit_entry scene.standing k line u (b.moment after))
      st doubt to.leads.shared to.lawful to.standing (record {
        within = (base_shows scene top.work.object top.work.serial top.root top.work.base st.shared written.each.0.draft.base).lies.high;
        here = ap (λ (c : Content). c top.root) to.content_is ∙ here_now scene.content top.root torn.bytes;
        others = λ n ne. ap (λ (c : Content). c n) to.content_is ∙ others_then scene.content top.root torn.bytes n ne;
        most = to.most;
        blocks = to.blocks;
        size = torn.size;
        either = torn.either;
        images = torn.images;
      })

-- ---- the test-and-set

module _ {D : Type 0} (b : Ghosts D) (told : b.tells)
    (whole : (s : D) (n : ℕ) (body : List ℕ) → n < b.size s → b.content s n ≡ Some body → IsBlock body) where
  pub several_are_tested : SeveralAreTested b
  several_are_tested opening scripts first k scene before after es line u top members block result st may written low high tested =
      by result (set_rewrites b told whole opening scripts first scene before after es top.work.object top.work.serial top.root block top.work.base result
      st written.each.0.draft.base last.1 low high tested)
    where
      last : (top.work.serial ≡ serial_of scene.standing.state top.work.object) × (IsLinking scene.standing top.work.object → ⊥)
      last =
          several_are_last scripts scene.standing k line u zero top.work (standing_sound b opening scripts first scene before es st) may
          (ap (λ (ws : List Work). slice_get ws zero) written.works)

      by : (r : Result Tas PairFault) → LinkCame b scene before after top.work.object top.work.serial top.root block r → SeveralCame b scene before after top block r
      by (Ok Set) h = h
      by (Ok (Taken n)) h = (let less = h.next.less in let same = last.0 in omega (arith, less, same))
      by (Err (ReadFault half)) h = h
      by (Err (WriteFault half)) h = h
      by (Err (BothClosed n)) h = h
      by (Err (BadPage n why)) h = h

-- ---- the blocks

held_rest : (states : List BlockState) (k from : ℕ) (x : Placed) (xs : List Placed) → AreHeld states k from (x ∷ xs) → AreHeld states k (from + 1) xs
held_rest states k from x xs held i y at =
    let h = held (suc i) y at in
    let below = h.1 in
    (h.0, omega (arith, below))

held_both : (states : List BlockState) (k from : ℕ) (xs ys : List Placed) → AreHeld states k from xs → AreHeld states k (from + length xs) ys → AreHeld states k from (xs ++ ys)
held_both states k from [] ys one two i y at =
    let h = two i y at in
    let below = h.1 in
    (h.0, omega (arith, below))
held_both states k from (x ∷ xs) ys one two zero y at = one zero y at
held_both states k from (x ∷ xs) ys one two (suc i) y at =
    let h = held_both states k (from + 1) xs ys (held_rest states k from x xs one) two_then i y at in
    let below = h.1 in
    (h.0, omega (arith, below))
  where
    two_then : AreHeld states k (from + 1 + length xs) ys
    two_then j z to =
        let h = two j z to in
        let below = h.1 in
        (h.0, omega (arith, below))

all_held : (states : List BlockState) (k from : ℕ) (rs : List Renewal) → AreHeldFrom states k from rs → AreHeld states k from (places_of rs)
all_held states k from [] held = λ i y at. none_some at
all_held states k from (r ∷ rs) held = held_both states k from r.plan.placed (places_of rs) held.0 (all_held states k (from + length r.plan.placed) rs held.1)

pub held_are_apart : HeldAreApart
held_are_apart states k from rs held = apart states k from (places_of rs) (all_held states k from rs held)
