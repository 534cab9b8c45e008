-- Numbers that stay.
use Rattle.std.proofs.Common.{◌≡◌, ℕ, ◌<◌, ◌≤◌, List, length, Option, Some, sym, ap, ◌∙◌, subst, arith, slice_get}
use Rattle.afs_base.specs.declared.head.Head.{Head}
use Rattle.drives.specs.declared.device.Half.{Half}
use Rattle.block_map.specs.States.{held_count}
use Rattle.block_map.specs.declared.states.BlockState.{BlockState}
use Rattle.pair_store.specs.declared.store.Blocks.{Ghosts}
use Rattle.script_text.specs.ScriptValue.{ScriptValue}
use Rattle.session.specs.Calls.{KeepsNumbers, KeepsRoom}
use Rattle.session.specs.Reads.{StoreAlone}
use Rattle.session.specs.Safe.{AreSafeDrafts, IsSafe, IsSafeStage, IsSafeStore, drafts_of}
use Rattle.session.specs.Shared.{entries_of, room_of}
use Rattle.session.specs.declared.common.Common.{Common}
use Rattle.session.specs.declared.course.Course.{Course}
use Rattle.session.specs.declared.stage.Stage.{Stage}
use Rattle.session.proofs.Courses.{course_with}

-- the store stays safe where the heads are the same, and there are as many blocks
pub safe_store_on : {D : Type 0} (size : D → ℕ) (c c' : Common D) → IsSafeStore size c → size c'.store ≡ size c.store → c'.heads.items ≡ c.heads.items → length c'.map ≡ length c.map
    → IsSafeStore size c'
safe_store_on size c c' safe size_is heads_are blocks_are =
    let told = λ (k : ℕ) (head : Head) (is : slice_get c'.heads.items k ≡ Some (Some head)). ap (λ (hs : List (Option Head)). slice_get hs k) (sym heads_are) ∙ is in
    record {
      heads = λ k head is. subst (λ n. head.block < n) (sym size_is) (safe.heads k head (told k head is));
      named = λ k head is. safe.named k head (told k head is);
      map = (let was = safe.map in omega (arith, was, size_is, blocks_are));
    }

-- ---- where the store alone changed

module _ {D : Type 0} (b : Ghosts D) (c c' : Common D) (alone : StoreAlone b c c') where
  pub alone_map : c'.map ≡ c.map
  alone_map = ap (λ (x : Common D). x.map) alone.only

  pub alone_heads : c'.heads.items ≡ c.heads.items
  alone_heads = ap (λ (x : Common D). x.heads.items) alone.only

  pub alone_entries : entries_of c' ≡ entries_of c
  alone_entries = ap (λ (x : Common D). entries_of x) alone.only

  pub alone_log : c'.log ≡ c.log
  alone_log = ap (λ (x : Common D). x.log) alone.only

  pub alone_safe : IsSafeStore b.size c → IsSafeStore b.size c'
  alone_safe safe = safe_store_on b.size c c' safe alone.size alone_heads (ap length alone_map)

  pub alone_numbers : (k : ℕ) → KeepsNumbers b c c' k
  alone_numbers k = record {
    size = alone.size;
    blocks = ap length alone_map;
    others = λ j ne. ap (held_count j) alone_map;
    room = ap (λ (x : Common D). room_of x) alone.only;
    faults = alone.faults;
    last = alone.last;
  }

-- ---- where the map, the heads and the entries are the same

pub record SameShared {D : Type 0} (b : Ghosts D) (c c' : Common D) : Type 0 where
  pub size : b.size c'.store ≡ b.size c.store
  pub faults : (h : Half) → b.faults c.store h ≤ b.faults c'.store h
  pub last : (h : Half) → b.last_fault c.store h ≤ b.last_fault c'.store h
  pub map : c'.map ≡ c.map
  pub heads : c'.heads.items ≡ c.heads.items
  pub entries : entries_of c' ≡ entries_of c
  pub room : room_of c' ≡ room_of c

pub alone_same : {D : Type 0} (b : Ghosts D) (c c' : Common D) → StoreAlone b c c' → SameShared b c c'
alone_same b c c' alone = record {
  size = alone.size;
  faults = alone.faults;
  last = alone.last;
  map = alone_map b c c' alone;
  heads = alone_heads b c c' alone;
  entries = alone_entries b c c' alone;
  room = ap (λ (x : Common _). room_of x) alone.only;
}

module _ {D : Type 0} (b : Ghosts D) (script : ScriptValue) (c c' : Common D) (s : Course) (same : SameShared b c c') where
  pub same_store : IsSafeStore b.size c → IsSafeStore b.size c'
  same_store safe = safe_store_on b.size c c' safe same.size same.heads (ap length same.map)

  pub same_numbers : KeepsNumbers b c c' s.client
  same_numbers = record {
    size = same.size;
    blocks = ap length same.map;
    others = λ j ne. ap (held_count j) same.map;
    room = same.room;
    faults = same.faults;
    last = same.last;
  }

  -- the client goes on in another stage, or in the same one
  pub same_safe : (stage : Stage) (turns : ℕ) → IsSafe (b.size c.store) c.map script s → IsSafeStage (length c'.map) (course_with s s.held stage turns) stage
      → IsSafe (b.size c'.store) c'.map script (course_with s s.held stage turns)
  same_safe stage turns safe there = record {
    lines = safe.lines;
    room = safe.room;
    held = ap (held_count s.client) same.map ∙ safe.held;
    drafts = subst (λ n. AreSafeDrafts n s.drafts (drafts_of s)) (sym same.size) safe.drafts;
    stage = there;
  }

  pub still_safe : IsSafe (b.size c.store) c.map script s → IsSafe (b.size c'.store) c'.map script s
  still_safe safe = same_safe s.stage s.turns safe (subst (λ (map : List BlockState). IsSafeStage (length map) s s.stage) (sym same.map) safe.stage)

  pub same_room : KeepsRoom script c c' s s
  same_room = (let e = ap length same.entries in omega (arith, e))
