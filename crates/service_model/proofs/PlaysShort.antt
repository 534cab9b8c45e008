-- Plays in which blocks are wanting, or just enough are there.
use Rattle.std.proofs.Common.{◌≡◌, inr, List, [], ◌∷◌, ◌++◌, replicate, None, refl, lit<, lit≤}
use Rattle.std.specs.Prelude.{codes}
use Rattle.std.specs.Fmt.{digits}
use Rattle.script_text.specs.declared.command.Command.TheVariants as command
use Rattle.script_text.specs.declared.reply.LineReply.TheVariants as reply
use Rattle.script_text.specs.declared.reply.LineRefusal.TheVariants as refusal
use Rattle.service_model.specs.declared.journal.Entry.{Entry}
use Rattle.service_model.specs.declared.journal.Refusal.TheVariants as why
use Rattle.service_model.specs.declared.journal.What.TheVariants.{Began, Held, Refused, GivenUp, Started, Created, Answered}
use Rattle.tree_model.specs.declared.step.Step.{Step}
use Rattle.tree_model.specs.declared.step.Step.TheVariants.{MakeAt}
use Rattle.tree_model.specs.declared.step.Reply.TheVariants.{Done}
use Rattle.tree_model.specs.States.{State}
use Rattle.tree_model.specs.Trees.{numbers_below, single}
use Rattle.service_model.specs.Legal.{IsComplete}
use Rattle.service_model.specs.Order.{play_order}
use Rattle.service_model.specs.Print.{printed}
use Rattle.service_model.specs.Standing.{Scripts, Standing, Work, free, start}
use Rattle.service_model.specs.Upkeep.{new_file}
use Rattle.service_model.proofs.Examples.{line, made_file, nothing, script, store}
use Rattle.service_model.proofs.Rows.{named}
use Rattle.service_model.proofs.Pages.{single_pages}
use Rattle.service_model.proofs.Runs.{Plays, Writes, begin_line, client_after, commit_line, entry, is_over, last_ends, none_made, one_lacks, step_line, then_answers, then_plays, told, work_of, wrote}

-- ---- a commit needs three blocks, and two are free

abbrev two_makes : List Step
two_makes = MakeAt ([], 0) ∷ MakeAt ([], 1) ∷ []

abbrev small_store : State
small_store = store 4 (made_file ∷ [])

abbrev wide_work : Work
wide_work = work_of 1 1 single two_makes

wide_writes : Writes wide_work 3
unfolding numbers_below
wide_writes = wrote 1 1 single (([], []) ∷ []) single_pages two_makes 3 refl refl

-- ---- the play; the update that is open at the script's end is given up

abbrev short_scripts : Scripts
short_scripts =
    script (
    begin_line 1 1
    ∷ step_line 2 (MakeAt ([], 0))
    ∷ step_line 3 (MakeAt ([], 1))
    ∷ commit_line 4
    ∷ begin_line 5 1 ∷ []
    ) ∷ []

abbrev short_run : List Entry
short_run =
    entry 1 1 (Began (named 1 1 ∷ [])) ∷ entry 1 1 Answered ∷ entry 1 2 Answered ∷ entry 1 3 Answered
    ∷ entry 1 4 (Refused (why.NoSpace 3 2)) ∷ entry 1 4 Answered ∷ entry 1 5 (Began (named 1 1 ∷ [])) ∷ entry 1 5 Answered
    ∷ entry 1 5 GivenUp ∷ []

abbrev short_after : Standing
short_after = record {
  state = small_store;
  clients =
      client_after (reply.Base (1 ∷ []) ∷ reply.Stepped Done ∷ reply.Stepped Done ∷ reply.Refused (refusal.NoSpace 3 2) ∷ reply.Base
      (1 ∷ []) ∷ []) ∷ [];
  made = [];
  upkeep = None;
  moment = 0;
  latest = 1;
}

pub short_play : Plays short_scripts (start small_store short_scripts) (play_order [] short_scripts) short_run short_after
unfolding numbers_below
short_play =
    then_plays (begin_line 1 1) (Began (named 1 1 ∷ [])) (lit≤ tt, lit≤ tt, refl, refl) (tt, refl, refl, refl) tt
    (then_answers (begin_line 1 1) (reply.Base (1 ∷ [])) (lit≤ tt, lit≤ tt, refl, refl) refl
    (then_answers (step_line 2 (MakeAt ([], 0))) (reply.Stepped Done) (lit≤ tt, lit≤ tt, refl, refl) (told single (([], [])
    ∷ []) single_pages [] (MakeAt ([], 0)))
    (then_answers (step_line 3 (MakeAt ([], 1))) (reply.Stepped Done) (lit≤ tt, lit≤ tt, refl, refl) (told single (([], [])
    ∷ []) single_pages (MakeAt ([], 0) ∷ []) (MakeAt ([], 1)))
    (one_lacks (commit_line 4) wide_work 3 wide_writes 2 (lit≤ tt, lit≤ tt, refl, refl) (refl, refl, refl) refl (lit< tt)
    (refl, none_made wide_work, lit< tt)
    (then_answers (commit_line 4) (reply.Refused (refusal.NoSpace 3 2)) (lit≤ tt, lit≤ tt, refl, refl) refl
    (then_plays (begin_line 5 1) (Began (named 1 1 ∷ [])) (lit≤ tt, lit≤ tt, refl, refl) (tt, refl, refl, refl) tt
    (then_answers (begin_line 5 1) (reply.Base (1 ∷ [])) (lit≤ tt, lit≤ tt, refl, refl) refl
    (last_ends (lit≤ tt) (lit≤ tt) (begin_line 5 1, refl, refl, refl, refl, refl, refl) refl))))))))

pub short_complete : IsComplete short_scripts short_after
short_complete = (refl, refl, tt)

pub short_printed : printed short_scripts short_after
    ≡ codes "1.1 base 1\n1.2 ok\n1.3 ok\n1.4 nospace 3 2\n1.5 base 1\nfile 1: 1\n"
unfolding digits
short_printed = refl

-- ---- a file that is the first of its group in a table of several blocks takes the last two blocks

abbrev full_group : State
full_group = record { format = 2; blocks = 67; key = 7; files = replicate 63 made_file ++ nothing ∷ [] }

abbrev group_after : Standing
group_after = record {
  state = record full_group { files = replicate 63 made_file ++ new_file 7 64 1 ∷ [] };
  clients = client_after (reply.Created 64 None ∷ []) ∷ [];
  made = [];
  upkeep = None;
  moment = 10;
  latest = 1;
}

abbrev group_scripts : Scripts
group_scripts = script (line 1 command.Create ∷ []) ∷ []

abbrev group_run : List Entry
group_run = entry 1 1 Started ∷ entry 1 1 (Held 2) ∷ entry 1 1 (Created 64 10) ∷ entry 1 1 Answered ∷ []

pub group_play : Plays group_scripts (start full_group group_scripts) (play_order [] group_scripts) group_run group_after
unfolding numbers_below
group_play =
    then_plays (line 1 command.Create) Started (lit≤ tt, lit≤ tt, refl, refl) (tt, refl, refl) tt
    (then_plays (line 1 command.Create) (Held 2) (lit≤ tt, lit≤ tt, refl, refl) (inr (refl, refl, refl, refl)) tt
    (then_plays (line 1 command.Create) (Created 64 10) (lit≤ tt, lit≤ tt, refl, refl) (refl, (2, refl), refl, lit≤ tt) tt
    (then_answers (line 1 command.Create) (reply.Created 64 None) (lit≤ tt, lit≤ tt, refl, refl) refl
    is_over)))

pub group_complete : IsComplete group_scripts group_after
group_complete = (refl, refl, tt)

-- no block is free then
pub group_is_full : free group_after ≡ 0
unfolding numbers_below
group_is_full = refl
