-- What is shared, and what a client counts, after a commit whose link was set is noted and answered.
use Rattle.std.proofs.Common.{◌≡◌, ◌⊎◌, inl, inr, ℕ, zero, suc, ◌-◌, ◌+◌, ◌<◌, ◌≤◌, List, [], ◌∷◌, ◌++◌, length, length-append, Option, Some, None, Ok, refl, sym, ap, ◌∙◌, subst, arith, slice_get}
use Rattle.std.specs.Prelude.{slice_set}
use Rattle.afs_base.specs.declared.head.Head.{Head}
use Rattle.block_map.specs.States.{Replaces, held_count}
use Rattle.block_map.specs.declared.states.BlockState.{BlockState}
use Rattle.block_map.specs.declared.states.BlockState.TheVariants.{Kept}
use Rattle.block_map.proofs.Replacing.{held_count-Replaces, held_count-Replaces-others}
use Rattle.draft_model.specs.Flush.{Placed}
use Rattle.pair_store.specs.Blocks.{CountsOne}
use Rattle.pair_store.specs.declared.outcome.Tas.TheVariants.{Set}
use Rattle.pair_store.specs.declared.store.Blocks.{Ghosts}
use Rattle.script_text.specs.ScriptValue.{ScriptValue}
use Rattle.script_text.specs.declared.reply.LineReply.{LineReply}
use Rattle.script_text.specs.declared.reply.LineReply.TheVariants as reply
use Rattle.service_model.specs.declared.journal.Entry.{Entry}
use Rattle.service_model.specs.declared.journal.What.TheVariants.{Answered}
use Rattle.store_model.proofs.Edits.{some_is}
use Rattle.version_chain.specs.Flush.{Plan}
use Rattle.ground_model.specs.Lines.{in_line}
use Rattle.session.specs.Blocks.{IsFinished, head_with, made_at, made_of}
use Rattle.session.specs.Calls.{AnswersLine, KeepsNumbers, KeepsRoom}
use Rattle.session.specs.Links.{TriesToLink}
use Rattle.session.specs.Safe.{AreSafeDrafts, IsSafe, IsSafeStage, IsSafeStore, noted_for, object_of, serial_of}
use Rattle.session.specs.Shared.{doubt_of, entries_of}
use Rattle.session.specs.declared.common.Common.{Common}
use Rattle.session.specs.declared.course.Course.{Course}
use Rattle.session.specs.declared.log.Log.{Log}
use Rattle.session.specs.declared.stage.Stage.{Stage}
use Rattle.session.specs.declared.turned.Turned.{Turned}
use Rattle.session.proofs.Linking.{top_is}
use Rattle.session.proofs.Numbers.{alone_entries, alone_heads, alone_log, alone_map, alone_numbers}

-- ---- what is told of the files

-- a place of a list is another one, or it is this one where it is set
set_at : {X : Type 0} (xs : List X) (i k : ℕ) (y z : X) → slice_get (slice_set xs i y) k ≡ Some z → (slice_get xs k ≡ Some z) ⊎ (z ≡ y)
set_at [] i k y z at = inl at
set_at (x ∷ xs) zero zero y z at = inr (sym (some_is at))
set_at (x ∷ xs) zero (suc k) y z at = inl at
set_at (x ∷ xs) (suc i) zero y z at = inl at
set_at (x ∷ xs) (suc i) (suc k) y z at = set_at xs i k y z at

-- whether something is told at a place
pub told_or : (heads : List (Option Head)) (place : ℕ)
    → ((head : Head) × (slice_get heads place ≡ Some (Some head))) ⊎ ((head : Head) → slice_get heads place ≡ Some (Some head) → ⊥)
told_or heads place = by (slice_get heads place) refl
  where
    by : (o : Option (Option Head)) → slice_get heads place ≡ o → ((head : Head) × (slice_get heads place ≡ Some (Some head))) ⊎ ((head : Head) → slice_get heads place ≡ Some (Some head) → ⊥)
    by None is = inr (λ head at. (let wrong = sym is ∙ at in absurd cc))
    by (Some None) is = inr (λ head at. (let wrong = sym is ∙ at in absurd cc))
    by (Some (Some head)) is = inl (head, is)

module _ {D : Type 0} (b : Ghosts D) (script : ScriptValue) (c c1 c' : Common D) (s s' : Course) (flush : Plan) (top : ℕ) (result : Turned)
    (t : TriesToLink b script c c1 s flush top (Ok Set)) (f : IsFinished b script top c1 c' s s' result) where
  -- ---- what is shared

  mid_heads : f.mid.heads.items ≡ c'.heads.items
  mid_heads = sym (ap (λ (x : Common D). x.heads.items) f.only)

  pub store_is : c'.store ≡ c1.store
  store_is = ap (λ (x : Common D). x.store) f.only ∙ ap (λ (x : Common D). x.store) f.appended.only

  pub table_is : c'.table ≡ c.table
  table_is = ap (λ (x : Common D). x.table) f.only ∙ ap (λ (x : Common D). x.table) f.appended.only ∙ ap (λ (x : Common D). x.table) t.tried.alone.only

  pub locks_are : c'.locks ≡ c.locks
  locks_are = ap (λ (x : Common D). x.locks) f.only ∙ ap (λ (x : Common D). x.locks) f.appended.only ∙ ap (λ (x : Common D). x.locks) t.tried.alone.only

  abbrev pub noted : List Entry
  noted = in_line s.client f.line (made_at s (b.moment c1.store)) ∷ in_line s.client f.line Answered ∷ []

  pub entries_are : entries_of c' ≡ entries_of c ++ noted
  entries_are = f.noted.entries ∙ ap (λ xs. xs ++ noted) (alone_entries b c c1 t.tried.alone)

  pub doubt_is : doubt_of c' ≡ doubt_of c
  doubt_is = f.noted.doubt ∙ ap (λ (l : Log). l.journal.doubt) (alone_log b c c1 t.tried.alone)

  pub kept_is : Replaces s.client Kept c.map c'.map
  kept_is = subst (λ (old : List BlockState). Replaces s.client Kept old c'.map) (alone_map b c c1 t.tried.alone) f.kept

  -- the file has a version more where something is told of it
  pub heads_told : (head : Head) → slice_get c.heads.items (object_of s - 1) ≡ Some (Some head)
      → c'.heads.items ≡ slice_set c.heads.items (object_of s - 1) (Some (head_with (made_of s) top s.held head))
  heads_told head told =
      let same = alone_heads b c c1 t.tried.alone in
      sym mid_heads ∙ f.appended.told head (ap (λ (hs : List (Option Head)). slice_get hs (object_of s - 1)) same ∙ told)
      ∙ ap (λ (hs : List (Option Head)). slice_set hs (object_of s - 1) (Some (head_with (made_of s) top s.held head))) same

  heads_untold : ((head : Head) → slice_get c.heads.items (object_of s - 1) ≡ Some (Some head) → ⊥) → c'.heads.items ≡ c.heads.items
  heads_untold none =
      let same = alone_heads b c c1 t.tried.alone in
      sym mid_heads ∙ f.appended.untold (λ head told. none head (ap (λ (hs : List (Option Head)). slice_get hs (object_of s - 1)) (sym same) ∙ told)) ∙ same

  -- ---- numbers

  top_low : top < b.size c.store
  top_low =
      let first : Placed = record { path = []; block = t.ready.safe.top.0 } in
      let low = t.ready.safe.within 0 first t.ready.safe.top.1 in
      let same = top_is flush.placed top t.ready.safe.top.0 t.ready.safe.top.1 t.ready.first in
      let most = t.ready.ready.store.map in
      omega (arith, low, same, most)

  size_is : b.size c'.store ≡ b.size c.store
  size_is = ap b.size store_is ∙ t.tried.alone.size

  -- each head is one that was told, or lies in the new block
  head_from : (k : ℕ) (head : Head) → slice_get c'.heads.items k ≡ Some (Some head) → (slice_get c.heads.items k ≡ Some (Some head)) ⊎ (head.block ≡ top)
  head_from k head at = elim (told_or c.heads.items (object_of s - 1)) [
    | inl (was, told) ↦ by was (set_at c.heads.items (object_of s - 1) k (Some (head_with (made_of s) top s.held was)) (Some head) (ap (λ (hs : List (Option Head)). slice_get hs k) (sym (heads_told was told)) ∙ at))
    | inr none ↦ inl (ap (λ (hs : List (Option Head)). slice_get hs k) (sym (heads_untold none)) ∙ at)
  ]
    where
      by : (was : Head) → (slice_get c.heads.items k ≡ Some (Some head)) ⊎ ((let x : Option Head = Some head in x) ≡ Some (head_with (made_of s) top s.held was))
          → (slice_get c.heads.items k ≡ Some (Some head)) ⊎ (head.block ≡ top)
      by was (inl is) = inl is
      by was (inr is) = inr (ap (λ (x : Head). x.block) (some_is is))

  pub appended_store : IsSafeStore b.size c'
  appended_store = record {
    heads = λ k head at. elim (head_from k head at) [
      | inl was ↦ subst (λ n. head.block < n) (sym size_is) (t.ready.ready.store.heads k head was)
      | inr is ↦ (let low = top_low in let same = size_is in omega (arith, is, low, same))
    ];
    named = λ k head at. elim (head_from k head at) [
      | inl was ↦ t.ready.ready.store.named k head was
      | inr is ↦ (let some = t.ready.named in omega (arith, is, some))
    ];
    map = (let was = t.ready.ready.store.map in let same = size_is in let many = kept_is.size in omega (arith, was, same, many));
  }

  pub appended_numbers : KeepsNumbers b c c' s.client
  appended_numbers =
      let one = alone_numbers b c c1 t.tried.alone s.client in
      record {
        size = size_is;
        blocks = kept_is.size;
        others = λ j ne. held_count-Replaces-others s.client j Kept c.map c'.map kept_is refl ne;
        room = f.noted.room ∙ one.room;
        faults = λ h. subst (λ (d : D). b.faults c.store h ≤ b.faults d h) (sym store_is) (one.faults h);
        last = λ h. subst (λ (d : D). b.last_fault c.store h ≤ b.last_fault d h) (sym store_is) (one.last h);
      }

  pub appended_count : CountsOne (b.count c.store) (b.count c'.store)
  appended_count = subst (λ (d : D). CountsOne (b.count c.store) (b.count d)) (sym store_is) t.tried.one

  -- ---- the course

  abbrev pub answer : LineReply
  answer = reply.Committed ((serial_of s + 1) ∷ [])

  items_are : s'.replies.items ≡ s.replies.items ++ answer ∷ []
  items_are = ap (λ (x : Course). x.replies.items) f.course

  many : length s'.replies.items ≡ length s.replies.items + 1
  many = ap length items_are ∙ length-append s.replies.items (answer ∷ [])

  pub appended_safe : IsSafe (b.size c'.store) c'.map script s'
  appended_safe =
      let was = t.ready.ready.safe in
      record {
        lines = (let more = many in let low = t.ready.ready.line in omega (arith, more, low));
        room = (let same : s'.replies.room ≡ s.replies.room = ap (λ (x : Course). x.replies.room) f.course in let low = was.room in omega (arith, same, low));
        held =
            ap (λ (x : Course). held_count x.client c'.map) f.course ∙ held_count-Replaces s.client Kept c.map c'.map kept_is refl ∙ sym (ap (λ (x : Course). x.held) f.course);
        drafts = subst (λ n. AreSafeDrafts (b.size c'.store) s'.drafts n) (sym f.drafts.none) (f.drafts.count, f.drafts.fed);
        stage = subst (λ (x : Stage). IsSafeStage (length c'.map) s' x) (sym (ap (λ (x : Course). x.stage) f.course ∙ t.ready.ready.stage)) tt;
      }

  pub appended_room : KeepsRoom script c c' s s'
  appended_room =
      let more : length (entries_of c') ≡ length (entries_of c) + 2 = ap length entries_are ∙ length-append (entries_of c) noted in
      let none : noted_for s'.held ≡ 0 = ap (λ (x : Course). noted_for x.held) f.course in
      let one = few s.held in
      let low = t.ready.ready.line in
      let lines = many in
      omega (arith, more, none, one, low, lines)
    where
      few : (n : ℕ) → noted_for n ≤ 1
      few zero = omega arith
      few (suc n) = omega arith

  pub appended_line : AnswersLine script s s' result
  appended_line =
      subst (AnswersLine script s s') (sym f.answer) (f.line, answer, f.next, refl, ap (λ (x : Course). x.replies) f.course)
