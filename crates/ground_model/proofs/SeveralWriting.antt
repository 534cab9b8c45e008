-- The flushes of the files of an update of several files, one after the other.
use Rattle.std.proofs.Common.{◌≡◌, ℕ, zero, suc, ◌+◌, List, [], ◌∷◌, ◌++◌, length, Some, ◌∙◌, subst, arith, slice_get, length-append}
use Rattle.std.specs.List.{AllByRecursion}
use Rattle.block_map.specs.declared.states.BlockState.{BlockState}
use Rattle.draft_model.specs.Flush.{block_of}
use Rattle.page_codec.specs.Values.{MemberValue}
use Rattle.store_model.proofs.Edits.{none_some, some_is}
use Rattle.version_chain.specs.Flush.{AreHeld}
use Rattle.ground_model.specs.Several.{AreNamedBy, IsRenewed, Renewal, places_of}
use Rattle.ground_model.specs.SeveralTurns.{AreHeldFrom}
use Rattle.ground_model.specs.SeveralWriting.{DoneBegins, DoneGoesOn, DoneIsLeft, DoneIsWritten, DoneStays}
use Rattle.ground_model.proofs.SeveralFacts.{held_from_stays, need_is_placed, renewed_are_left, renewed_stay}
use Rattle.ground_model.proofs.SeveralTurns.{held_are_apart}

pub done_begins : DoneBegins
done_begins scene k from = record { each = tt; held = tt; named = tt; none = tt }

-- ---- one more

each_more : (P : Renewal → Type 0) (rs : List Renewal) (r : Renewal) → AllByRecursion P rs → P r → AllByRecursion P (rs ++ r ∷ [])
each_more P [] r all one = (one, tt)
each_more P (q ∷ rs) r all one = (all.0, each_more P rs r all.1 one)

held_more : (states : List BlockState) (k from : ℕ) (rs : List Renewal) (r : Renewal) → AreHeldFrom states k from rs
    → AreHeld states k (from + length (places_of rs)) r.plan.placed → AreHeldFrom states k from (rs ++ r ∷ [])
held_more states k from [] r all one = ((let F : ℕ → Type 0 = λ n. AreHeld states k n r.plan.placed in subst F (omega arith) one), tt)
held_more states k from (q ∷ rs) r all one =
    let long : length (q.plan.placed ++ places_of rs) ≡ length q.plan.placed + length (places_of rs) = length-append q.plan.placed (places_of rs) in
    let F : ℕ → Type 0 = λ n. AreHeld states k n r.plan.placed in
    (all.0, held_more states k (from + length q.plan.placed) rs r all.1 (subst F (omega (arith, long)) one))

named_more : (ms : List MemberValue) (rs : List Renewal) (m : MemberValue) (r : Renewal) → AreNamedBy ms rs
    → (m.object ≡ r.work.object) × (block_of r.plan.placed [] ≡ Some m.block) → AreNamedBy (ms ++ m ∷ []) (rs ++ r ∷ [])
named_more [] [] m r all one = (one, tt)
named_more [] (q ∷ rs) m r all one = absurd all
named_more (n ∷ ms) [] m r all one = absurd all
named_more (n ∷ ms) (q ∷ rs) m r all one = (all.0, named_more ms rs m r all.1 one)

pub done_goes_on : DoneGoesOn
done_goes_on scene k from members rs m r done renewed held object block none = record {
  each = each_more (IsRenewed scene k) rs r done.each renewed;
  held = held_more scene.states k from rs r done.held held;
  named = named_more members rs m r done.named (object, block);
  none = each_more (λ (q : Renewal). q.plan.members ≡ []) rs r done.none none;
}

-- ---- it stays

pub done_stays : DoneStays
done_stays old new k start from members rs d base plan more block bytes done mine beside gives keeps alike others = record {
  each = renewed_stay old new k start from rs d base plan more block bytes done.each done.held mine beside gives keeps alike.each others;
  held = held_from_stays k start old.states new.states rs alike done.held;
  named = done.named;
  none = done.none;
}

pub done_is_left : DoneIsLeft
done_is_left k from old new members rs leaves alike on done = record {
  each = renewed_are_left k old new rs leaves on done.each;
  held = held_from_stays k from old.states new.states rs alike done.held;
  named = done.named;
  none = done.none;
}

-- ---- all files

at_each : (P : Renewal → Type 0) (rs : List Renewal) → AllByRecursion P rs → (i : ℕ) (r : Renewal) → slice_get rs i ≡ Some r → P r
at_each P [] all i r at = none_some at
at_each P (q ∷ rs) all zero r at = subst P (some_is at) all.0
at_each P (q ∷ rs) all (suc i) r at = at_each P rs all.1 i r at

pub done_is_written : DoneIsWritten
done_is_written scene k u top rs done renewed held works needed = record {
  works = works;
  each = (renewed, done.each);
  apart = held_are_apart scene.states k 0 (top ∷ rs) (held, (let F : ℕ → Type 0 = λ n. AreHeldFrom scene.states k n rs in subst F (omega arith) done.held));
  number =
      needed
      ∙ need_is_placed scene u (top ∷ rs) works
      (λ i r at. (let is = at_each (IsRenewed scene k) (top ∷ rs) (renewed, done.each) i r at in (is.draft, is.flush.placed)));
  named = done.named;
  none = done.none;
}
