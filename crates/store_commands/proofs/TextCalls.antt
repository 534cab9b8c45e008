-- What is said of a call that prints a text of a store, from how its parts ended.
use Rattle.std.proofs.Common.{◌≡◌, ℕ, ◌≤◌, List, length, Option, Result, Ok, sym, subst}
use Rattle.afs_base.specs.Causes.{Rose}
use Rattle.afs_base.specs.declared.head.Head.{Head}
use Rattle.block_map.specs.declared.states.BlockState.{BlockState}
use Rattle.caps.specs.Tables.{seal_of}
use Rattle.drives.specs.declared.device.Drives.{Ghosts as Device}
use Rattle.drives.specs.declared.device.Half.{Half}
use Rattle.endings.specs.declared.ended.Ended.{Ended}
use Rattle.endings.specs.declared.status.Status.{Status}
use Rattle.endings.specs.Commands.{CommandEnds}
use Rattle.endings.specs.Faults.{HalfFailed}
use Rattle.endings.specs.Noted.{IsNothingNoted}
use Rattle.endings.proofs.Commands.{command_done, command_finished}
use Rattle.page_codec.specs.Values.{TableValue}
use Rattle.recovery.specs.Opening.{IsNoStore, IsOpened}
use Rattle.script_text.specs.declared.sink.Sink.{Ghosts as Printer}
use Rattle.store_model.specs.Found.{found}
use Rattle.store_model.specs.Walk.{Refused}
use Rattle.tree_model.specs.States.{File, State}
use Rattle.store_commands.specs.declared.text.Text.{Text}
use Rattle.store_commands.specs.declared.text.Text.TheVariants.{Show, Check, Cap}
use Rattle.store_commands.specs.Asked.{TextEnds, text_of}
use Rattle.store_commands.specs.Calls.{TextCall}
use Rattle.store_commands.specs.Counting.{counted_text}
use Rattle.store_commands.specs.Opening.{AreAtRest, HasStopped, OnlyOpened, contents_on, files_on}
use Rattle.store_commands.specs.Texts.{cap_text, check_text, sealed_text}
use Rattle.store_commands.proofs.Ends.{counted_state, opening_failed, sealed_found}
use Rattle.store_commands.proofs.ShowEnds.{show_ends}

-- over a store that was opened
module _ (tells : Type 0) (before : Result State Refused) (failed : Half → Type 0) (old new : Option (List ℕ)) (sink_rose : Type 0)
    (content : ℕ → Option (List ℕ)) (most : ℕ) (table : TableValue) (states : List BlockState) (heads : List (Option Head))
    (even : length heads ≡ length table.entries) (same : tells → found content most ≡ before) (opened : tells → IsOpened content most table states heads)
    (told : List File → Type 0) (known : tells → (state : State) × (before ≡ Ok state) × told state.files)
    (stopped unread : Half → Type 0) (fault : (h : Half) → unread h → (tells → stopped h) → failed h) where
  pub text_ends : (text : Text) (status : Status) → TextEnds text table heads told stopped unread old new sink_rose status
      → CommandEnds tells before failed (text_of text) old new sink_rose status
  text_ends Show status ends = show_ends tells before failed old new sink_rose told known stopped unread status fault ends
  text_ends Check status ends =
      command_finished tells before failed check_text old new sink_rose (counted_text table heads) status
      (counted_state tells before content most table states heads even same opened) ends
  text_ends (Cap object rights) status ends =
      command_finished tells before failed (cap_text object rights) old new sink_rose (sealed_text object rights (seal_of table object)) status
      (sealed_found tells before content most table states heads object rights same opened) ends

module _ {V K : Type 0} (v : Device V) (k : Printer K) (text : State → List ℕ) (start last : V) (out out_after : K) (ended : Ended V) (status : Status) where
  pub text_call : ended.status ≡ status → ended.drives ≡ last → IsNothingNoted ended.journal
      → CommandEnds v.tells (files_on v start) (HasStopped v start last) text (k.written out) (k.written out_after) (Rose (k.faults out) (k.faults out_after)) status
      → OnlyOpened v start last
      → (v.tells → AreAtRest v start → ((h : Half) → HalfFailed v.moment v.faults h start last → ⊥) → AreAtRest v last)
      → k.faults out ≤ k.faults out_after
      → TextCall v k text start out ended out_after
  text_call so drives noted ends kept rest later =
      let old = k.written out in
      let new = k.written out_after in
      let rose : Type 0 = Rose (k.faults out) (k.faults out_after) in
      let D : V → Type 0 = λ d. CommandEnds v.tells (files_on v start) (HasStopped v start d) text old new rose status in
      let S : Status → Type 0 = λ s. CommandEnds v.tells (files_on v start) (HasStopped v start ended.drives) text old new rose s in
      let O : V → Type 0 = λ d. OnlyOpened v start d in
      let R : V → Type 0 = λ d. v.tells → AreAtRest v start → ((h : Half) → HalfFailed v.moment v.faults h start d → ⊥) → AreAtRest v d in
      let all = subst S (sym so) (subst D (sym drives) ends) in
      let None : Type 0 = v.tells → IsNoStore (contents_on v start) (v.size start) in
      record {
        ends = all;
        complete = λ t nothing. command_done v.tells (files_on v start) (HasStopped v start ended.drives)
            (λ h. HalfFailed v.moment v.faults h start ended.drives) text old new rose ended.status
            (λ h stopped. opening_failed (v.faults start) (v.faults ended.drives) (v.last_fault ended.drives) (v.moment ended.drives) None h stopped) all t nothing;
        kept = subst O (sym drives) kept;
        rest = subst R (sym drives) rest;
        noted = noted;
        sink_later = later;
      }
