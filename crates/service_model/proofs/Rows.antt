-- Commits, refusals of a commit and a pruning, each from what stands before it: that the entry is lawful, and what it leaves.
use Rattle.std.proofs.Common.{◌≡◌, inl, ℕ, ◌+◌, ◌-◌, ◌^◌, ◌<◌, ◌≤◌, ◌==◌, Bool, true, false, not, ◌&&◌, ◌||◌, cond, List, [], ◌∷◌, ◌++◌, filter, map, replicate, length, slice_get, sum_by, Option, Some, None, MatchBool, All, refl, sym, ap, ◌∙◌, subst, arith, lit<, lit≤}
use Rattle.std.specs.Prelude.{if◌then◌else◌}
use Rattle.std.specs.FinMap as map
use Rattle.std.proofs.lemmas.List.Elements.{All-nil, All-cons}
use Rattle.afs_base.specs.declared.kind.Kind.TheVariants.{Data}
use Rattle.caps.specs.declared.denied.DeniedWhy.TheVariants.{NoObject, Check, Rights}
use Rattle.caps.specs.Grant.{capability_of, granted_when}
use Rattle.script_text.specs.declared.command.Command.TheVariants.{Do, Commit, Prune}
use Rattle.script_text.specs.declared.command.FileName.TheVariants.{Number}
use Rattle.script_text.specs.declared.reply.LineRefusal.TheVariants as refusal
use Rattle.script_text.specs.declared.reply.LineReply.{LineReply}
use Rattle.script_text.specs.declared.reply.LineReply.TheVariants as reply
use Rattle.script_text.specs.declared.script.Mode.{Mode}
use Rattle.script_text.specs.declared.script.Mode.TheVariants.{Numbers, Caps}
use Rattle.service_model.specs.declared.journal.Refusal.TheVariants as why
use Rattle.service_model.specs.declared.journal.What.{What}
use Rattle.service_model.specs.declared.journal.What.TheVariants.{Held, Committed, Refused, Started, Created, Pruned}
use Rattle.service_model.specs.declared.named.Named.{Named}
use Rattle.tree_model.specs.declared.step.Step.{Step}
use Rattle.tree_model.specs.declared.step.Step.TheVariants.{ReadAt, WriteAt}
use Rattle.tree_model.specs.Accesses.{Place, IsClash, all_reads, all_writes, fresh_of, fresh_as_top, reads_of, visible_of, written_paths}
use Rattle.tree_model.specs.States.{State, File, serials_of}
use Rattle.tree_model.specs.Trees.{has, single, tree_after}
use Rattle.tree_model.proofs.TreeFacts.{has_still, kept_single}
use Rattle.service_model.specs.Causes.{cause_of, denial, keeping, restricted_in}
use Rattle.service_model.specs.Replies.{own_reply}
use Rattle.service_model.specs.Entries.{after_what, committed_in}
use Rattle.service_model.specs.Legal.{IsLawfulWhat, IsCommittable, IsLater, IsUnclashed, IsUnreadOf}
use Rattle.service_model.specs.Standing.{Standing, Client, Update, Work, Made, client_of, newcomer, has_writes, is_written, locked_by, serial_of, renewed_works, need}
use Rattle.service_model.proofs.Clashes.{clash_from, clash_in, clash_is, visible_list}
use Rattle.service_model.proofs.Making.{single_keys}

-- ---- what stands

-- a file with these versions, each of the page `/` alone
abbrev pub file_with : List ℕ → File
file_with serials = record { generation = 1; secret = []; versions = map (λ n. record { serial = n; tree = single; fresh = [] ∷ [] }) serials }

abbrev pub store_with : ℕ → List ℕ → State
store_with blocks serials = record { format = 1; blocks = blocks; key = 7; files = file_with serials ∷ [] }

abbrev pub work_with : ℕ → List Step → Work
work_with rights steps = record { object = 1; serial = 1; base = single; rights = rights; steps = steps }

abbrev pub update_with : ℕ → List Step → Update
update_with rights steps = record { works = work_with rights steps ∷ []; is_super = false; picked = 0 }

abbrev pub client_with : Update → List What → Client
client_with u noted = record { answers = []; update = Some u; held = 0; noted = noted }

-- client 1 has an update of file 1 open, whose base has serial 1, and client 2 is as here
abbrev pub standing_of : State → List Made → Update → List What → Client → Standing
standing_of state made u noted other =
    record { state = state; clients = client_with u noted ∷ other ∷ []; made = made; upkeep = None; moment = 0; latest = 1 }

abbrev pub write_root : List Step
write_root = WriteAt [] (0 ∷ []) ∷ []

abbrev pub writer : Update
writer = update_with 7 write_root

abbrev pub named : ℕ → ℕ → Named
named object serial = record { object = object; serial = serial }

-- ---- an update that wrote `/`

abbrev root_data : List Place
root_data = ([], Data) ∷ []

root_there : has single [] ≡ true
root_there = kept_single.tree.root

root_written : is_written (work_with 7 write_root) ≡ true
root_written = ap (λ b. not (length ((if b then root_data else []) ++ []) == 0)) root_there

writer_writes : has_writes writer ≡ true
writer_writes = ap (λ b. b || false) root_written

writer_renews : renewed_works writer ≡ work_with 7 write_root ∷ []
writer_renews = ap (λ b. cond b (work_with 7 write_root ∷ []) []) root_written

some_path : (paths : List (List ℕ)) → 1 ≤ length (written_paths paths)
some_path [] = lit≤ tt
some_path (p ∷ paths) = omega arith

-- it needs a block at least
writer_needs : 1 ≤ need writer
writer_needs =
    let path : 1 ≤ length (fresh_as_top single write_root) = some_path (fresh_of single write_root) in
    let F : List Work → Type 0 = λ ws. 1 ≤ sum_by (λ (w : Work). length (fresh_as_top w.base w.steps)) ws in
    subst F (sym writer_renews) (omega (arith, path))

-- ---- blocks are held, and the update is committed

-- a store in which just as many blocks are free as the update needs
abbrev pub just_enough : Standing
just_enough = standing_of (store_with (2 + need writer) (1 ∷ [])) [] writer [] newcomer

pub held_is_lawful : IsLawfulWhat Numbers just_enough 1 Commit (Held (need writer))
held_is_lawful = inl (
  refl,
  record {
    first = refl;
    writes = writer_writes;
    needed = refl;
    room = omega arith;
  },
)

abbrev pub held_enough : Standing
held_enough = standing_of (store_with (2 + need writer) (1 ∷ [])) [] writer (Held (need writer) ∷ []) newcomer

abbrev has_serial : Work → Type 0
has_serial w = serial_of held_enough.state w.object < 2 ^ 64 - 1

abbrev next_of : Work → Named
next_of w = named w.object (serial_of held_enough.state w.object + 1)

abbrev unopposed_by : Work → Type 0
unopposed_by w = (locked_by held_enough 1 w.object ≡ None) × IsUnclashed held_enough.made w

pub committed_is_lawful : IsLawfulWhat Numbers held_enough 1 Commit (Committed (named 1 2 ∷ []) 30)
committed_is_lawful =
    let F : Bool → Type 0 = λ b. MatchBool b (IsCommittable held_enough 1 writer (named 1 2 ∷ [])) (((client_of held_enough 1).noted ≡ []) × (named 1 2 ∷ [] ≡ [])) in
    (refl, subst F (sym writer_writes) committable, lit≤ tt)
  where
    committable : IsCommittable held_enough 1 writer (named 1 2 ∷ [])
    committable = record {
      held = refl;
      unopposed = λ plain. All-cons unopposed_by (work_with 7 write_root) [] (refl, All-nil (λ (m : Made). IsLater (work_with 7 write_root) m → IsUnreadOf (work_with 7 write_root) m)) (All-nil unopposed_by);
      unworn = (let F : List Work → Type 0 = λ ws. All has_serial ws in
          subst F (sym writer_renews) (All-cons has_serial (work_with 7 write_root) [] (lit< tt) (All-nil has_serial)));
      versions = ap (λ ws. map next_of ws) (sym writer_renews);
    }

-- file 1 has a second version then
pub committed_serials : map serials_of (after_what Numbers held_enough 1 Commit (Committed (named 1 2 ∷ []) 30)).state.files ≡ (1 ∷ 2 ∷ []) ∷ []
committed_serials = ap (λ ws. map serials_of (committed_in held_enough.state ws).files) writer_renews

-- ---- a commit is refused

-- a file with the last serial that there is
abbrev pub worn_out : Standing
worn_out = standing_of (store_with 64 (18446744073709551615 ∷ [])) [] writer [] newcomer

pub worn_is_lawful : IsLawfulWhat Numbers worn_out 1 Commit (Refused why.Worn)
worn_is_lawful =
    (refl, inl refl, (writer_writes, (work_with 7 write_root, 0, ap (λ (ws : List Work). slice_get ws 0) writer_renews, refl)))

-- another client has an update of several files open that has the file
abbrev pub locked_out : Standing
locked_out =
    standing_of (store_with 64 (1 ∷ [])) [] writer []
    (client_with (record { works = work_with 7 [] ∷ []; is_super = true; picked = 0 }) [])

pub locked_is_lawful : IsLawfulWhat Numbers locked_out 1 Commit (Refused (why.Locked 2))
locked_is_lawful = (refl, inl refl, (writer_writes, (work_with 7 write_root, refl, refl, refl)))

-- no block is free
abbrev pub no_room : Standing
no_room = standing_of (store_with 2 (1 ∷ [])) [] writer [] newcomer

pub no_space_is_lawful : IsLawfulWhat Numbers no_room 1 Commit (Refused (why.NoSpace (need writer) 0))
no_space_is_lawful = (let some = writer_needs in (refl, inl refl, (writer_writes, (refl, refl, refl, omega (arith, some)))))

-- an update that read `/` before it wrote it, while another update that wrote `/` made version 2
abbrev pub read_and_write : List Step
read_and_write = ReadAt [] ∷ WriteAt [] (0 ∷ []) ∷ []

abbrev pub version_two : Made
version_two = record { object = 1; serial = 2; before = single; steps = write_root }

abbrev pub overtaken : Standing
overtaken = standing_of (store_with 64 (1 ∷ 2 ∷ [])) (version_two ∷ []) (update_with 7 read_and_write) [] newcomer

reads_are : all_reads single [] read_and_write ≡ root_data
reads_are = ap (λ b. (if b && true then root_data else []) ++ []) root_there

writes_are : all_writes single write_root ≡ root_data
writes_are = ap (λ b. (if b then root_data else []) ++ []) root_there

root_still : has (tree_after single write_root) [] ≡ true
root_still =
    ap (λ b. has (if b then map.insert single [] (0 ∷ []) else single) []) root_there ∙ has_still single [] (0 ∷ []) [] root_there

visible_are : visible_list single write_root ≡ root_data
visible_are =
    ap (λ ws. filter (λ (x : Place). has (tree_after single write_root) x.0) ws) writes_are ∙ ap (λ b. cond b root_data []) root_still

clash_here : clash_in single read_and_write single write_root ≡ Some ([], Data)
clash_here =
    ap (λ ys. clash_from ys None (all_reads single [] read_and_write)) visible_are ∙ ap (λ xs. clash_from root_data None xs) reads_are

abbrev earlier : Made → Type 0
earlier m = IsLater (work_with 7 read_and_write) m → m.serial < 2 → IsUnreadOf (work_with 7 read_and_write) m

pub conflict_is_lawful : IsLawfulWhat Numbers overtaken 1 Commit (Refused (why.Conflict 2 [] Data))
conflict_is_lawful = (
  refl,
  inl refl,
  (
    wrote,
    (
      work_with 7 read_and_write,
      refl,
      refl,
      (
        (version_two, 0, refl, (refl, lit< tt), refl, clash),
        All-cons earlier version_two [] (λ later lt. absurd (omega (arith, lt))) (All-nil earlier),
      ),
    ),
  ),
)
  where
    wrote : has_writes (update_with 7 read_and_write) ≡ true
    wrote = ap (λ b. not (length ([] ++ ((if b then root_data else []) ++ [])) == 0) || false) root_there

    clash : IsClash (reads_of single read_and_write) (visible_of single write_root) (Some ([], Data))
    clash =
        let F : Option Place → Type 0 = λ o. IsClash (reads_of single read_and_write) (visible_of single write_root) o in
        subst F clash_here (clash_is single read_and_write single write_root)

-- ---- the first of two versions is pruned

abbrev pub pruning : Standing
pruning = record {
  state = store_with 64 (1 ∷ 2 ∷ []);
  clients = record { answers = []; update = None; held = 0; noted = Started ∷ [] } ∷ [];
  made = [];
  upkeep = Some (record { client = 1; first = 2; frees = 0 });
  moment = 20;
  latest = 1;
}

pub pruned_is_lawful : IsLawfulWhat Numbers pruning 1 (Prune (Number 1) 1) (Pruned 1 2 1 30)
pruned_is_lawful =
    ((Number 1, 1, refl, refl), refl, refl, ap (λ (paths : List (List ℕ)). 2 - (0 + length paths)) (sym single_keys), lit≤ tt)

pub pruned_serials : map serials_of (after_what Numbers pruning 1 (Prune (Number 1) 1) (Pruned 1 2 1 30)).state.files ≡ (2 ∷ []) ∷ []
pruned_serials = refl

-- ---- causes that no run above has

-- a step that the rights to the file do not allow, and a step too many
pub rights_are_told : cause_of (standing_of (store_with 64 (1 ∷ [])) [] (update_with 1 []) [] newcomer) 1 (Do (WriteAt [] [])) ≡ Some refusal.DeniedRights
rights_are_told = refl

pub full_is_told : cause_of (standing_of (store_with 64 (1 ∷ [])) [] (update_with 7 (replicate 128 (ReadAt []))) [] newcomer) 1 (Do (ReadAt [])) ≡ Some refusal.Full
full_is_told = refl

-- a capability whose check is not the store's, and one without the right to keep the file
pub check_is_told : denial (granted_when (Some Check) [] keeping) ≡ Some (refusal.Denied (record { why = Check }))
check_is_told = refl

pub right_is_told : denial (granted_when None (replicate 9 0 ++ 3 ∷ []) keeping) ≡ Some (refusal.Denied (record { why = Rights }))
right_is_told = refl

-- a number cannot be restricted
pub number_is_told : denial (restricted_in (store_with 64 (1 ∷ [])) (Number 1) 1) ≡ Some (refusal.Denied (record { why = NoObject }))
number_is_told = refl

-- ---- answers by an entry that no run above has

abbrev told_by : Mode → What → Option LineReply
told_by mode what = own_reply mode (store_with 64 (1 ∷ [])) None (what ∷ [])

-- each refusal of a commit
pub refusals_are_told : map (told_by Numbers) (
    Refused (why.Conflict 2 [] Data) ∷ Refused (why.Locked 2) ∷ Refused (why.NoSpace 3 1) ∷ Refused why.Worn ∷ []
    ) ≡ map Some (
    reply.Refused (refusal.Conflict 2 [] Data) ∷ reply.Refused (refusal.Locked 2) ∷ reply.Refused (refusal.NoSpace 3 1)
    ∷ reply.Refused refusal.Worn ∷ []
    )
refusals_are_told = refl

-- a new file's capability has all rights
pub capability_is_told : told_by Caps (Created 1 20)
    ≡ Some (reply.Created 1 (Some (capability_of (record { secret = []; generation = 1 }) 1 7)))
capability_is_told = refl
