-- Plays of two updates of one file, one of which read what the other one wrote: it is refused, and what is printed.
use Rattle.std.proofs.Common.{◌≡◌, List, [], ◌∷◌, Some, None, refl, lit<, lit≤}
use Rattle.std.specs.Prelude.{codes}
use Rattle.std.specs.Fmt.{digits}
use Rattle.afs_base.specs.declared.kind.Kind.TheVariants.{Data}
use Rattle.script_text.specs.declared.reply.LineReply.TheVariants as reply
use Rattle.script_text.specs.declared.reply.LineRefusal.TheVariants as refusal
use Rattle.service_model.specs.declared.journal.Entry.{Entry}
use Rattle.service_model.specs.declared.journal.Refusal.TheVariants as why
use Rattle.service_model.specs.declared.journal.What.TheVariants.{Began, Held, Committed, Refused, Answered}
use Rattle.tree_model.specs.declared.step.Step.{Step}
use Rattle.tree_model.specs.declared.step.Step.TheVariants.{ReadAt, WriteAt, MakeAt, DropAt}
use Rattle.tree_model.specs.declared.step.Reply.TheVariants.{Bytes, Done}
use Rattle.tree_model.specs.Accesses.{IsClash, fresh_as_top, reads_of, visible_of}
use Rattle.tree_model.specs.States.{State, Version}
use Rattle.tree_model.specs.Trees.{Tree, numbers_below, single, tree_after}
use Rattle.service_model.specs.Legal.{IsComplete}
use Rattle.service_model.specs.Order.{play_order}
use Rattle.service_model.specs.Print.{printed}
use Rattle.service_model.specs.Standing.{Scripts, Standing, Work, Made, start}
use Rattle.service_model.proofs.Examples.{made_file, script, store}
use Rattle.service_model.proofs.Rows.{named}
use Rattle.service_model.proofs.Pages.{Pages, pages_of, single_pages}
use Rattle.service_model.proofs.Runs.{Plays, Writes, begin_line, clashes, client_after, commit_line, entry, freshens, is_over, none_made, one_clashes, one_commits, one_holds, step_line, stepped_pages, then_answers, then_plays, told, version, work_of, wrote}
use Rattle.service_model.proofs.PlaysApart.{Two, store_with, two_listed, two_pages, write_zero, zero_fresh, zero_made, zero_tree, zero_work, zero_writes}

-- ---- a page is read, and another update writes it

abbrev late_work_steps : List Step
late_work_steps = ReadAt (0 ∷ []) ∷ WriteAt (1 ∷ []) (187 ∷ []) ∷ []

abbrev late_work : Work
late_work = work_of 1 2 two_pages late_work_steps

late_work_writes : Writes late_work 2
late_work_writes = wrote 1 2 two_pages Two two_listed late_work_steps 2 refl refl

late_clash : IsClash (reads_of two_pages late_work_steps) (visible_of two_pages write_zero) (Some (0 ∷ [], Data))
late_clash = clashes two_pages two_pages Two Two two_listed two_listed late_work_steps write_zero

-- ---- the play

abbrev overtaken_scripts : Scripts
overtaken_scripts =
    script (
    begin_line 1 1
    ∷ step_line 2 (WriteAt (0 ∷ []) (170 ∷ []))
    ∷ commit_line 3 ∷ []
    )
    ∷ script (
    begin_line 1 1
    ∷ step_line 2 (ReadAt (0 ∷ []))
    ∷ step_line 3 (WriteAt (1 ∷ []) (187 ∷ []))
    ∷ commit_line 4 ∷ []
    ) ∷ []

abbrev overtaken_run : List Entry
overtaken_run =
    entry 1 1 (Began (named 1 2 ∷ [])) ∷ entry 1 1 Answered ∷ entry 2 1 (Began (named 1 2 ∷ [])) ∷ entry 2 1 Answered
    ∷ entry 1 2 Answered ∷ entry 1 3 (Held 2) ∷ entry 1 3 (Committed (named 1 3 ∷ []) 10) ∷ entry 1 3 Answered
    ∷ entry 2 2 Answered ∷ entry 2 3 Answered ∷ entry 2 4 (Refused (why.Conflict 3 (0 ∷ []) Data)) ∷ entry 2 4 Answered ∷ []

abbrev overtaken_after : Standing
overtaken_after = record {
  state = store_with (version 3 zero_tree ([] ∷ (0 ∷ []) ∷ []) ∷ []);
  clients =
      client_after (reply.Base (2 ∷ []) ∷ reply.Stepped Done ∷ reply.Committed (3 ∷ []) ∷ [])
      ∷ client_after (reply.Base (2 ∷ []) ∷ reply.Stepped (Bytes []) ∷ reply.Stepped Done ∷ reply.Refused (refusal.Conflict 3 (0
      ∷ []) Data) ∷ []) ∷ [];
  made = zero_made ∷ [];
  upkeep = None;
  moment = 10;
  latest = 2;
}

pub overtaken_play : Plays overtaken_scripts (start (store_with []) overtaken_scripts) (play_order (1 ∷ 2
    ∷ []) overtaken_scripts) overtaken_run overtaken_after
overtaken_play =
    then_plays (begin_line 1 1) (Began (named 1 2 ∷ [])) (lit≤ tt, lit≤ tt, refl, refl) (tt, refl, refl, refl) tt
    (then_answers (begin_line 1 1) (reply.Base (2 ∷ [])) (lit≤ tt, lit≤ tt, refl, refl) refl
    (then_plays (begin_line 1 1) (Began (named 1 2 ∷ [])) (lit≤ tt, lit≤ tt, refl, refl) (tt, refl, refl, refl) tt
    (then_answers (begin_line 1 1) (reply.Base (2 ∷ [])) (lit≤ tt, lit≤ tt, refl, refl) refl
    (then_answers (step_line 2 (WriteAt (0 ∷ []) (170 ∷ []))) (reply.Stepped Done) (lit≤ tt, lit≤ tt, refl, refl)
    (told two_pages Two two_listed [] (WriteAt (0 ∷ []) (170 ∷ [])))
    (one_holds (commit_line 3) zero_work 2 zero_writes (lit≤ tt, lit≤ tt, refl, refl) (refl, refl, refl) (lit≤ tt)
    (refl, none_made zero_work, lit< tt)
    (one_commits (commit_line 3) zero_work 2 zero_writes 10 ([] ∷ (0 ∷ []) ∷ []) zero_fresh (lit≤ tt, lit≤ tt, refl, refl)
    (refl, refl, refl) (refl, none_made zero_work, lit< tt) (lit≤ tt)
    (then_answers (commit_line 3) (reply.Committed (3 ∷ [])) (lit≤ tt, lit≤ tt, refl, refl) refl
    (then_answers (step_line 2 (ReadAt (0 ∷ []))) (reply.Stepped (Bytes [])) (lit≤ tt, lit≤ tt, refl, refl)
    (told two_pages Two two_listed [] (ReadAt (0 ∷ [])))
    (then_answers (step_line 3 (WriteAt (1 ∷ []) (187 ∷ []))) (reply.Stepped Done) (lit≤ tt, lit≤ tt, refl, refl)
    (told two_pages Two two_listed (ReadAt (0 ∷ []) ∷ []) (WriteAt (1 ∷ []) (187 ∷ [])))
    (one_clashes (commit_line 4) late_work 2 late_work_writes zero_made 3 (0 ∷ []) Data (lit≤ tt, lit≤ tt, refl, refl)
    (refl, refl, refl) refl refl (refl, lit< tt) refl late_clash
    (then_answers (commit_line 4) (reply.Refused (refusal.Conflict 3 (0 ∷ []) Data)) (lit≤ tt, lit≤ tt, refl, refl) refl
    is_over)))))))))))

pub overtaken_complete : IsComplete overtaken_scripts overtaken_after
overtaken_complete = (refl, refl, (refl, refl, tt))

pub overtaken_printed : printed overtaken_scripts overtaken_after
    ≡ codes "1.1 base 2\n1.2 ok\n1.3 committed 3\n2.1 base 2\n2.2 data -\n2.3 ok\n2.4 conflict 3 /0 data\nfile 1: 1 2 3\nfile 2: 1\n"
unfolding digits
overtaken_printed = refl

-- ---- a store whose first file has the pages `/`, `/0` and `/0/1`

abbrev make_nested : List Step
make_nested = MakeAt ([], 0) ∷ MakeAt (0 ∷ [], 1) ∷ []

abbrev nested : Tree
nested = tree_after single make_nested

abbrev Nested : Pages
Nested = ([], []) ∷ (0 ∷ [], []) ∷ (0 ∷ 1 ∷ [], []) ∷ []

nested_listed : pages_of nested ≡ Nested
unfolding numbers_below
nested_listed = stepped_pages single (([], []) ∷ []) single_pages make_nested

abbrev nested_store : List Version → State
nested_store more =
    store 64 (
    record {
      generation = 1;
      secret = [];
      versions = version 1 single ([] ∷ []) ∷ version 2 nested ([] ∷ (0 ∷ []) ∷ (0 ∷ 1 ∷ []) ∷ []) ∷ more;
    } ∷ made_file ∷ []
    )

-- ---- a page is read and dropped with the one above it, and another update writes it

abbrev deep_work_steps : List Step
deep_work_steps = WriteAt (0 ∷ 1 ∷ []) (170 ∷ []) ∷ []

abbrev deep_work : Work
deep_work = work_of 1 2 nested deep_work_steps

deep_work_writes : Writes deep_work 3
deep_work_writes = wrote 1 2 nested Nested nested_listed deep_work_steps 3 refl refl

deep_work_fresh : fresh_as_top nested deep_work_steps ≡ [] ∷ (0 ∷ []) ∷ (0 ∷ 1 ∷ []) ∷ []
deep_work_fresh = freshens nested Nested nested_listed deep_work_steps

abbrev drop_work_steps : List Step
drop_work_steps = ReadAt (0 ∷ 1 ∷ []) ∷ DropAt ([], 0) ∷ []

abbrev drop_work : Work
drop_work = work_of 1 2 nested drop_work_steps

drop_work_writes : Writes drop_work 1
drop_work_writes = wrote 1 2 nested Nested nested_listed drop_work_steps 1 refl refl

abbrev deep_made : Made
deep_made = record { object = 1; serial = 3; before = nested; steps = deep_work_steps }

drop_clash : IsClash (reads_of nested drop_work_steps) (visible_of nested deep_work_steps) (Some (0 ∷ 1 ∷ [], Data))
drop_clash = clashes nested nested Nested Nested nested_listed nested_listed drop_work_steps deep_work_steps

-- ---- the play

abbrev dropped_scripts : Scripts
dropped_scripts =
    script (
    begin_line 1 1
    ∷ step_line 2 (WriteAt (0 ∷ 1 ∷ []) (170 ∷ []))
    ∷ commit_line 3 ∷ []
    )
    ∷ script (
    begin_line 1 1
    ∷ step_line 2 (ReadAt (0 ∷ 1 ∷ []))
    ∷ step_line 3 (DropAt ([], 0))
    ∷ commit_line 4 ∷ []
    ) ∷ []

abbrev dropped_run : List Entry
dropped_run =
    entry 1 1 (Began (named 1 2 ∷ [])) ∷ entry 1 1 Answered ∷ entry 2 1 (Began (named 1 2 ∷ [])) ∷ entry 2 1 Answered
    ∷ entry 1 2 Answered ∷ entry 1 3 (Held 3) ∷ entry 1 3 (Committed (named 1 3 ∷ []) 10) ∷ entry 1 3 Answered
    ∷ entry 2 2 Answered ∷ entry 2 3 Answered ∷ entry 2 4 (Refused (why.Conflict 3 (0 ∷ 1 ∷ []) Data)) ∷ entry 2 4 Answered ∷ []

abbrev dropped_after : Standing
dropped_after = record {
  state = nested_store (version 3 (tree_after nested deep_work_steps) ([] ∷ (0 ∷ []) ∷ (0 ∷ 1 ∷ []) ∷ []) ∷ []);
  clients =
      client_after (reply.Base (2 ∷ []) ∷ reply.Stepped Done ∷ reply.Committed (3 ∷ []) ∷ [])
      ∷ client_after (reply.Base (2 ∷ []) ∷ reply.Stepped (Bytes []) ∷ reply.Stepped Done ∷ reply.Refused (refusal.Conflict 3 (0 ∷ 1
      ∷ []) Data) ∷ []) ∷ [];
  made = deep_made ∷ [];
  upkeep = None;
  moment = 10;
  latest = 2;
}

pub dropped_play : Plays dropped_scripts (start (nested_store []) dropped_scripts) (play_order (1 ∷ 2 ∷ []) dropped_scripts) dropped_run dropped_after
dropped_play =
    then_plays (begin_line 1 1) (Began (named 1 2 ∷ [])) (lit≤ tt, lit≤ tt, refl, refl) (tt, refl, refl, refl) tt
    (then_answers (begin_line 1 1) (reply.Base (2 ∷ [])) (lit≤ tt, lit≤ tt, refl, refl) refl
    (then_plays (begin_line 1 1) (Began (named 1 2 ∷ [])) (lit≤ tt, lit≤ tt, refl, refl) (tt, refl, refl, refl) tt
    (then_answers (begin_line 1 1) (reply.Base (2 ∷ [])) (lit≤ tt, lit≤ tt, refl, refl) refl
    (then_answers (step_line 2 (WriteAt (0 ∷ 1 ∷ []) (170 ∷ []))) (reply.Stepped Done) (lit≤ tt, lit≤ tt, refl, refl)
    (told nested Nested nested_listed [] (WriteAt (0 ∷ 1 ∷ []) (170 ∷ [])))
    (one_holds (commit_line 3) deep_work 3 deep_work_writes (lit≤ tt, lit≤ tt, refl, refl) (refl, refl, refl) (lit≤ tt)
    (refl, none_made deep_work, lit< tt)
    (one_commits (commit_line 3) deep_work 3 deep_work_writes 10 ([] ∷ (0 ∷ []) ∷ (0 ∷ 1 ∷ []) ∷ []) deep_work_fresh
    (lit≤ tt, lit≤ tt, refl, refl) (refl, refl, refl) (refl, none_made deep_work, lit< tt) (lit≤ tt)
    (then_answers (commit_line 3) (reply.Committed (3 ∷ [])) (lit≤ tt, lit≤ tt, refl, refl) refl
    (then_answers (step_line 2 (ReadAt (0 ∷ 1 ∷ []))) (reply.Stepped (Bytes [])) (lit≤ tt, lit≤ tt, refl, refl)
    (told nested Nested nested_listed [] (ReadAt (0 ∷ 1 ∷ [])))
    (then_answers (step_line 3 (DropAt ([], 0))) (reply.Stepped Done) (lit≤ tt, lit≤ tt, refl, refl)
    (told nested Nested nested_listed (ReadAt (0 ∷ 1 ∷ []) ∷ []) (DropAt ([], 0)))
    (one_clashes (commit_line 4) drop_work 1 drop_work_writes deep_made 3 (0 ∷ 1 ∷ []) Data (lit≤ tt, lit≤ tt, refl, refl)
    (refl, refl, refl) refl refl (refl, lit< tt) refl drop_clash
    (then_answers (commit_line 4) (reply.Refused (refusal.Conflict 3 (0 ∷ 1 ∷ []) Data)) (lit≤ tt, lit≤ tt, refl, refl) refl
    is_over)))))))))))

pub dropped_complete : IsComplete dropped_scripts dropped_after
dropped_complete = (refl, refl, (refl, refl, tt))

pub dropped_printed : printed dropped_scripts dropped_after
    ≡ codes "1.1 base 2\n1.2 ok\n1.3 committed 3\n2.1 base 2\n2.2 data -\n2.3 ok\n2.4 conflict 3 /0/1 data\nfile 1: 1 2 3\nfile 2: 1\n"
unfolding digits
dropped_printed = refl
