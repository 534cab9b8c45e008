-- A commit whose link was set is noted and answered.
use Rattle.std.proofs.Common.{◌≡◌, ℕ, List, [], ◌∷◌, ◌++◌, Some, refl, sym, ap, ◌∙◌, subst}
use Rattle.std.specs.Prelude.{IfSome}
use Rattle.block_map.specs.States.{Replaces}
use Rattle.block_map.specs.declared.states.BlockState.{BlockState}
use Rattle.block_map.specs.declared.states.BlockState.TheVariants.{Kept}
use Rattle.ground_model.specs.Lines.{in_line}
use Rattle.pair_store.specs.declared.store.Blocks.{Ghosts}
use Rattle.pool_draft.specs.declared.pool_set.PoolSet.{PoolSet}
use Rattle.script_text.specs.ScriptValue.{ScriptValue}
use Rattle.script_text.specs.declared.reply.LineReply.TheVariants as reply
use Rattle.script_text.specs.declared.script.Line.{Line}
use Rattle.service_model.specs.declared.journal.What.{What}
use Rattle.service_model.specs.declared.journal.What.TheVariants.{Answered, Committed}
use Rattle.service_model.specs.declared.named.Named.{Named}
use Rattle.session.specs.Answers.{IsAnswered, IsCleared, NotesAlone}
use Rattle.session.specs.Blocks.{IsAppended, IsFinished, made_at, made_of}
use Rattle.session.specs.Calls.{IsReady}
use Rattle.session.specs.Safe.{line_of}
use Rattle.session.specs.Values.{IsNoted}
use Rattle.session.specs.declared.common.Common.{Common}
use Rattle.session.specs.declared.course.Course.{Course}
use Rattle.session.specs.declared.turned.Turned.{Turned}
use Rattle.session.specs.declared.turned.Turned.TheVariants as turned
use Rattle.session.proofs.Deciding.{line_here}
use Rattle.session.proofs.Over.{IsOver, over_by, some_here}

-- what is told of a file anew is told of the same files where the map alone was another
appended_over : {D : Type 0} (states : List BlockState) (c d : Common D) (made : Named) (top own : ℕ) → IsAppended (record c { map = states }) d made top own → IsAppended c (record c { heads = d.heads }) made top own
appended_over states c d made top own is = record { only = refl; told = is.told; untold = is.untold }

-- the entries and the answer of a commit whose link was set, over the map and the heads after it
pub finished_by : {D : Type 0} (b : Ghosts D) (script : ScriptValue) (top at : ℕ) (made : Named) (ones : List Named) (serials : List ℕ) (states : List BlockState) (c d e c' : Common D) (s s' : Course) (cleared : PoolSet) (result : Turned)
    → IsReady b script c s → made ≡ made_of s → at ≡ b.moment d.store → ones ≡ made ∷ [] → serials ≡ made.serial ∷ []
    → Replaces s.client Kept c.map states → IsAppended (record c { map = states }) d made top s.held
    → IfSome (line_of script (record s { held = 0 })) (λ x. NotesAlone d e (in_line s.client x (Committed ones at) ∷ [])) → IsCleared cleared
    → IfSome (line_of script (record s { held = 0; drafts = cleared })) (λ x. IsAnswered script x (reply.Committed serials) e c' (record s { held = 0; drafts = cleared }) s')
    → IfSome (line_of script (record s { held = 0; drafts = cleared })) (λ x. result ≡ turned.Line x.number) → IsFinished b script top c c' s s' result
finished_by {D} b script top at made ones serials states c d e c' s s' cleared result ready made_is at_is ones_are serials_are kept appended note none answered number =
    record {
      line = line.0;
      next = line.1;
      answer = some_here (λ (x : Line). result ≡ turned.Line x.number) (line_of script (record s { held = 0; drafts = cleared })) line.0 number line.1;
      kept = subst (Replaces s.client Kept c.map) (sym (ap (λ (x : Common D). x.map) over.only)) kept;
      mid = mid;
      appended = subst (λ (m : Named). IsAppended c mid m top s.held) made_is (appended_over states c d made top s.held appended);
      only = over.only ∙ ap (λ (xs : List BlockState). record mid { map = xs; log = c'.log }) (sym (ap (λ (x : Common D). x.map) over.only));
      noted = subst (λ (w : What). IsNoted c.log c'.log (in_line s.client line.0 w ∷ in_line s.client line.0 Answered ∷ [])) what_is over.noted;
      drafts = over.drafts;
      course = subst (λ (ns : List ℕ). s' ≡ record s { replies = record s.replies { items = s.replies.items ++ reply.Committed ns ∷ [] }; drafts = s'.drafts; held = 0; turns = 0 })
          (serials_are ∙ ap (λ (m : Named). m.serial ∷ []) made_is) over.course;
    }
  where
    line : (line : Line) × (line_of script s ≡ Some line)
    line = line_here script s ready.line

    mid : Common D
    mid = record c { heads = d.heads }

    what_is : Committed ones at ≡ made_at s (b.moment c.store)
    what_is = ap (λ (ms : List Named). Committed ms at) (ones_are ∙ ap (λ (m : Named). m ∷ []) made_is) ∙ ap (Committed (made_of s ∷ [])) (at_is ∙ ap (λ (x : Common D). b.moment x.store) appended.only)

    over : IsOver script line.0 (Committed ones at) (reply.Committed serials) states 0 mid c' s s'
    over = over_by script line.0 (Committed ones at) (reply.Committed serials) states 0 mid d e c' s (record s { held = 0 }) (record s { held = 0; drafts = cleared }) s' line.1 appended.only refl note refl none answered
