-- The clients of a run before its first turn.
use Rattle.std.proofs.Common.{◌≡◌, ◌⊎◌, inl, inr, ℕ, zero, suc, ◌+◌, ◌-◌, ◌*◌, ◌^◌, ◌≤◌, List, [], ◌∷◌, ◌++◌, length, Option, Some, None, refl, sym, ap, ◌∙◌, subst, arith}
use Rattle.std.specs.Prelude.{min, slice_get, sum_by}
use Rattle.std.specs.Option.{option_map_or}
use Rattle.std.proofs.lemmas.List.{length-map, map-append}
use Rattle.std.proofs.lemmas.List.Sums.{sum_by-cons, sum_by-le-sum_by}
use Rattle.std.proofs.lemmas.Option.{slice_get_within}
use Rattle.block_map.specs.States.{held_count}
use Rattle.pair_store.specs.declared.store.Blocks.{Ghosts}
use Rattle.recovery.specs.declared.opened.OpenedOver.{OpenedOver}
use Rattle.script_text.specs.ScriptValue.{ScriptValue}
use Rattle.script_text.specs.declared.reply.LineReply.{LineReply}
use Rattle.service_model.specs.Sound.{AreSayable}
use Rattle.service_model.specs.Standing.{Scripts}
use Rattle.store_model.specs.Found.{found}
use Rattle.ground_model.specs.Opened.{IsOpenedFrom}
use Rattle.session.specs.Opening.{IsOver}
use Rattle.session.specs.Safe.{AreSafeDrafts, IsSafe, IsSafeStage, IsSafeStore, entries_left}
use Rattle.session.specs.Sessions.{IsNewcomer}
use Rattle.session.specs.Shared.{entries_of, room_of}
use Rattle.session.specs.declared.common.Common.{Common}
use Rattle.session.specs.declared.session.Session.{Session}
use Rattle.session.proofs.Beginning.{opened_run_begins}
use Rattle.ground.specs.Grounds.{AreClients, HasRun, IsGround, IsSafeRun, left_of}
use Rattle.ground.specs.Making.{AreNewcomers, HasBegun, room_for}
use Rattle.ground.specs.Runs.{scripts_of}
use Rattle.ground.proofs.Clients.{lines_at}
use Rattle.ground.proofs.Merging.{none_merged}

-- what is found in a list with one element more
get_push : {X : Type 0} (xs : List X) (k : ℕ) (x y : X) → slice_get (xs ++ y ∷ []) k ≡ Some x → (slice_get xs k ≡ Some x) ⊎ ((k ≡ length xs) × (x ≡ y))
get_push [] zero x y e = inr (refl, cc)
get_push [] (suc k) x y e = absurd cc
get_push (z ∷ xs) zero x y e = inl e
get_push (z ∷ xs) (suc k) x y e = elim (get_push xs k x y e) [
  | inl h ↦ inl h
  | inr h ↦ inr (ap suc h.0, h.1)
]

-- one newcomer more
pub newcomers_more : (scripts : Scripts) (sessions : List Session) (script : ScriptValue) (s : Session) (client : ℕ) → AreNewcomers scripts sessions
    → client ≡ length scripts + 1 → IsNewcomer client script s → AreNewcomers (scripts ++ script ∷ []) (sessions ++ s ∷ [])
newcomers_more scripts sessions script s client h number new = record {
  are = map-append (λ (x : Session). x.script) sessions (s ∷ []) ∙ ap (λ xs. xs ++ s.script ∷ []) h.are ∙ ap (λ x. scripts ++ x ∷ []) new.its_script;
  fresh = λ i x at. elim (get_push sessions i x s at) [
    | inl here ↦ h.fresh i x here
    | inr last ↦ newest i x last.0 last.1
  ];
}
  where
    as_many : length sessions ≡ length scripts
    as_many = sym (length-map sessions (λ (x : Session). x.script)) ∙ ap length h.are

    newest : (i : ℕ) (x : Session) → i ≡ length sessions → x ≡ s → IsNewcomer (suc i) x.script x
    newest i x at is =
        let F : Session → Type 0 = λ t. IsNewcomer (suc i) t.script t in
        let G : ScriptValue → Type 0 = λ y. IsNewcomer (suc i) y s in
        subst F (sym is) (subst G (sym new.its_script) (subst (λ n. IsNewcomer n script s) (omega (arith, number, at, as_many)) new))

-- ---- numbers

same_room : (sessions : List Session) → sum_by (λ (s : Session). 4 * length s.script.lines) sessions ≡ room_for (scripts_of sessions)
same_room [] = refl
same_room (s ∷ sessions) = (let more = same_room sessions in let one = sum_by-cons (λ (s : Session). 4 * length s.script.lines) s sessions in
    let two = sum_by-cons (λ (x : ScriptValue). 4 * length x.lines) s.script (scripts_of sessions) in omega (arith, more, one, two))

module _ {D : Type 0} (size : D → ℕ) (c : Common D) (sessions : List Session) (new : AreNewcomers (scripts_of sessions) sessions) (few : length sessions ≤ 16)
    (none : (k : ℕ) → 1 ≤ k → k ≤ 16 → held_count k c.map ≡ 0) where
  is_safe : (i : ℕ) (s : Session) → slice_get sessions i ≡ Some s → IsSafe (size c.store) c.map s.script s.course
  is_safe i s at =
      let is = new.fresh i s at in
      let inside = slice_get_within sessions i s at in
      record {
        lines = subst (λ (xs : List LineReply). length xs ≤ length s.script.lines) (sym is.answers) (omega arith);
        room = is.room;
        held = ap (λ k. held_count k c.map) is.number ∙ none (suc i) (omega arith) (omega (arith, inside, few)) ∙ sym is.held;
        drafts = subst (AreSafeDrafts (size c.store) s.course.drafts) (sym is.drafts.none) (is.drafts.count, is.drafts.fed);
        stage = subst (IsSafeStage (length c.map) s.course) (sym is.stage) tt;
      }

  in_order : 1 ≤ length sessions → AreClients sessions
  in_order some = record { some = some; most = few; numbers = λ i s at. (new.fresh i s at).number }

  -- no client may note more than four entries a line
  left_enough : (most : ℕ) → entries_of c ≡ [] → room_for (scripts_of sessions) ≤ most → length (entries_of c) + left_of sessions ≤ most
  left_enough most empty wide =
      let all = sum_by-le-sum_by (λ (s : Session). entries_left s.script s.course) (λ (s : Session). 4 * length s.script.lines) sessions (λ s. four s) in
      let lines = same_room sessions in
      let nothing = ap length empty in
      omega (arith, all, lines, nothing, wide)
    where
      four : (s : Session) → entries_left s.script s.course ≤ 4 * length s.script.lines
      four s = omega arith

  safe_run : (room : ℕ) → 1 ≤ length sessions → IsSafeStore size c → entries_of c ≡ [] → room_for (scripts_of sessions) ≤ room → room_for (scripts_of sessions) ≤ 64000
      → room ≤ room_of c → IsSafeRun size c sessions
  safe_run room some store empty wide few_lines made = record {
    store = store;
    clients = in_order some;
    safe = is_safe;
    room = left_enough (room_of c) empty (omega (arith, wide, made));
    few = left_enough 64000 empty few_lines;
  }

-- ---- the run

module _ {D : Type 0} (b : Ghosts D) (o : OpenedOver D) (c : Common D) (sessions : List Session) (new : AreNewcomers (scripts_of sessions) sessions) (over : IsOver o c) where
  begins_here : AreSayable (scripts_of sessions) → (first : ℕ) → IsOpenedFrom b o first → HasRun b first (record { opened = o; common = c; sessions = sessions; fault = None })
  begins_here sayable first is =
      let begun = opened_run_begins b o first (scripts_of sessions) c is sayable over in
      record {
        opening = begun.0.standing.state;
        found = sym (ap (λ d. found (b.content d) (b.size d)) over.store) ∙ begun.1.found;
        stands = record {
          scene = begun.0;
          stands = begun.1.stands;
          own = λ i s at. begun.1.own (suc i) s.script s (omega arith) (ap (slice_get (scripts_of sessions)) {x = suc i - 1} {y = i} (omega arith) ∙ lines_at sessions i s at) (new.fresh i s at);
        };
      }

  pub begins_ground : (seen : OpenedOver D) (room : ℕ) → seen ≡ o → AreSayable (scripts_of sessions) → 1 ≤ length sessions → length sessions ≤ 16
      → IsSafeStore b.size c → ((k : ℕ) → 1 ≤ k → k ≤ 16 → held_count k c.map ≡ 0) → room_for (scripts_of sessions) ≤ room → room_for (scripts_of sessions) ≤ 64000 → room ≤ room_of c
      → IsGround b (record { opened = seen; common = c; sessions = sessions; fault = None })
  begins_ground seen room same sayable some few store none wide few_lines made =
      let F : OpenedOver D → Type 0 = λ x. IsGround b (record { opened = x; common = c; sessions = sessions; fault = None }) in
      subst F (sym same) (record {
        size = ap b.size over.store;
        safe = safe_run b.size c sessions new few none room some store over.entries wide few_lines made;
        told = λ tells first is. begins_here sayable first is;
      })

  pub has_begun : (seen : OpenedOver D) → seen ≡ o → HasBegun o (scripts_of sessions) (record { opened = seen; common = c; sessions = sessions; fault = None })
  has_begun seen same = record {
    opened = same;
    scripts_are = refl;
    store = over.store;
    entries = over.entries;
    doubt = over.doubt;
    fault = refl;
    replies = λ k. by (k - 1) (slice_get sessions (k - 1)) refl;
    merges = ap (λ n. min n (2 ^ 64 - 1)) (none_merged sessions (λ i s at. (new.fresh i s at).merges));
  }
    where
      by : (i : ℕ) (x : Option Session) → slice_get sessions i ≡ x → option_map_or (λ (s : Session). s.course.replies.items) x [] ≡ []
      by i None at = refl
      by i (Some s) at = (new.fresh i s at).answers
