-- What a name grants, and why it grants nothing, as the journal tells it.
use Rattle.std.proofs.Common.{◌≡◌, inl, inr, ℕ, zero, suc, true, List, Option, Some, None, Result, Ok, Err, refl, sym, ap, ◌∙◌, arith}
use Rattle.std.specs.Prelude.{is_some, if◌then◌else◌}
use Rattle.afs_base.specs.declared.head.Head.{Head}
use Rattle.caps.specs.Grant.{SealValue, granted, object_of as object_named}
use Rattle.caps.specs.Tables.{table_grant}
use Rattle.caps.specs.declared.denied.Denied.{Denied as DeniedName}
use Rattle.caps.specs.declared.denied.DeniedWhy.{DeniedWhy}
use Rattle.caps.specs.declared.denied.DeniedWhy.TheVariants.{NoObject}
use Rattle.page_codec.specs.Values.{TableValue}
use Rattle.pair_store.specs.declared.store.Blocks.{Ghosts}
use Rattle.script_text.specs.ScriptValue.{ScriptValue}
use Rattle.script_text.specs.declared.command.Command.TheVariants.{Begin}
use Rattle.script_text.specs.declared.command.FileName.{FileName}
use Rattle.script_text.specs.declared.command.FileName.TheVariants.{Cap, Number}
use Rattle.script_text.specs.declared.reply.LineRefusal.{LineRefusal}
use Rattle.script_text.specs.declared.reply.LineRefusal.TheVariants.{Denied, Open}
use Rattle.script_text.specs.declared.script.Line.{Line}
use Rattle.service_model.specs.Causes.{cause_of, denial, object_of}
use Rattle.service_model.specs.Standing.{Standing, Update, client_of, seal_in}
use Rattle.tree_model.specs.States.{State}
use Rattle.ground_model.specs.Causes.{name_cause}
use Rattle.ground_model.specs.Scenes.{AreHeads, IsShared, Scene}
use Rattle.ground_model.specs.Tables.{HasSeals}
use Rattle.ground_model.proofs.Causes.{cause_of_begin}
use Rattle.ground_model.proofs.HeadsTold.{no_head_tells}
use Rattle.session.specs.Answers.{IsAtCommand, IsCaused}
use Rattle.session.specs.Names.{HasNoHead, IsAllowed, IsBarred, IsDenied}
use Rattle.session.specs.Safe.{drafts_of}
use Rattle.session.specs.declared.common.Common.{Common}
use Rattle.session.specs.declared.course.Course.{Course}
use Rattle.session.proofs.LineEnds.{own_is_none, same_line}

-- ---- where nothing is told

-- an object of which nothing is told is not live
pub no_head_no_seal : (scene : Scene) (heads : List (Option Head)) (object : ℕ) → IsShared scene → AreHeads scene heads → HasNoHead heads object
    → seal_in scene.standing.state object ≡ None
no_head_no_seal scene heads zero shared are none = refl
no_head_no_seal scene heads (suc n) shared are none = no_head_tells scene heads (suc n) shared are (omega arith) (λ head is. none head (omega arith, is))

-- ---- what a name comes to

-- a capability that the table grants is granted by the seal that stands
granted_is : (table : TableValue) (state : State) (cap : List ℕ) (result : Result ℕ DeniedWhy) → HasSeals table state → table_grant table cap 1 ≡ result
    → granted (seal_in state (object_named cap)) cap 1 ≡ result
granted_is table state cap result seals is = ap (λ (o : Option SealValue). granted o cap 1) (sym (seals (object_named cap))) ∙ is

pub allowed_has_no_cause : (table : TableValue) (state : State) (file : FileName) → HasSeals table state → IsAllowed table file → is_some (seal_in state (object_of file)) ≡ true
    → name_cause (seal_in state (object_of file)) file ≡ None
allowed_has_no_cause table state (Number object) seals allowed live =
    ap (λ b. (let o : Option LineRefusal = if b then None else Some (Denied (record { why = NoObject })) in o)) live
allowed_has_no_cause table state (Cap cap) seals allowed live =
    ap (λ (r : Result ℕ DeniedWhy). denial r) (granted_is table state cap (Ok (object_named cap)) seals allowed)

-- a name that is denied is so for its cause
barred_cause : (table : TableValue) (state : State) (file : FileName) (why : DeniedWhy) → HasSeals table state → IsBarred table file why
    → name_cause (seal_in state (object_of file)) file ≡ Some (Denied (record { why = why }))
barred_cause table state (Number object) why seals barred = absurd barred
barred_cause table state (Cap cap) why seals barred = ap (λ (r : Result ℕ DeniedWhy). denial r) (granted_is table state cap (Err why) seals barred)

dead_cause : (table : TableValue) (state : State) (file : FileName) → HasSeals table state → IsAllowed table file → seal_in state (object_of file) ≡ None
    → name_cause (seal_in state (object_of file)) file ≡ Some (Denied (record { why = NoObject }))
dead_cause table state (Number object) seals allowed dead =
    ap (λ (o : Option SealValue). (let x : Option LineRefusal = if is_some o then None else Some (Denied (record { why = NoObject })) in x)) dead
dead_cause table state (Cap cap) seals allowed dead =
    let ok = granted_is table state cap (Ok (object_named cap)) seals allowed in
    let err : granted (seal_in state (object_named cap)) cap 1 ≡ (let r : Result ℕ DeniedWhy = Err NoObject in r) = ap (λ (o : Option SealValue). granted o cap 1) dead in
    let both : (let r : Result ℕ DeniedWhy = Err NoObject in r) ≡ Ok (object_named cap) = sym err ∙ ok in
    absurd (cc both)

pub denied_is : (table : TableValue) (heads : List (Option Head)) (state : State) (file : FileName) (why : DeniedWhy) → HasSeals table state
    → (HasNoHead heads (object_of file) → seal_in state (object_of file) ≡ None) → IsDenied table heads file why
    → name_cause (seal_in state (object_of file)) file ≡ Some (Denied (record { why = why }))
denied_is table heads state file why seals dead (inl barred) = barred_cause table state file why seals barred
denied_is table heads state file why seals dead (inr none) =
    dead_cause table state file seals none.0 (dead none.1) ∙ ap (λ (w : DeniedWhy). (let x : Option LineRefusal = Some (Denied (record { why = w })) in x)) (sym none.2)

-- ---- the line

-- where no update is open, a line that opens one is refused for its name alone
pub begin_cause : (s : Standing) (k : ℕ) (file : FileName) → (client_of s k).update ≡ None → cause_of s k (Begin file) ≡ name_cause (seal_in s.state (object_of file)) file
begin_cause s k file none =
    cause_of_begin s k file
    ∙ ap (λ (o : Option Update). (let x : Option LineRefusal = if is_some o then Some Open else name_cause (seal_in s.state (object_of file)) file in x)) none

-- so a line that opens an update is refused where its name grants nothing
pub denied_is_caused : {D : Type 0} (b : Ghosts D) (script : ScriptValue) (c : Common D) (s : Course) (file : FileName) (e : DeniedName) → IsAtCommand script s (Begin file) → drafts_of s ≡ 0
    → IsDenied c.table c.heads.items file e.why → IsCaused b script c s (Denied e)
denied_is_caused b script c s file e command none denied opening scripts first scene at line next =
    ap (cause_of scene.standing s.client) (ap (λ (l : Line). l.command) (same_line script s line command.line next command.next) ∙ command.is)
    ∙ begin_cause scene.standing s.client file (own_is_none scene script s (client_of scene.standing s.client).update at.mine.update none)
    ∙ denied_is c.table c.heads.items scene.standing.state file e.why at.stands.seals
    (λ dead. no_head_no_seal scene c.heads.items (object_of file) at.stands.stands.shared at.stands.heads dead) denied
