-- A play in which an update that only reads is committed on its base, whatever was committed meanwhile.
use Rattle.std.proofs.Common.{◌≡◌, List, [], ◌∷◌, None, refl, lit<, lit≤}
use Rattle.std.specs.Prelude.{codes}
use Rattle.std.specs.Fmt.{digits}
use Rattle.script_text.specs.declared.reply.LineReply.TheVariants as reply
use Rattle.service_model.specs.declared.journal.Entry.{Entry}
use Rattle.service_model.specs.declared.journal.What.TheVariants.{Began, Held, Committed, Answered}
use Rattle.tree_model.specs.declared.step.Step.TheVariants.{ReadAt, WriteAt}
use Rattle.tree_model.specs.declared.step.Reply.TheVariants.{Bytes, Done}
use Rattle.tree_model.specs.Accesses.{fresh_as_top}
use Rattle.tree_model.specs.Trees.{Tree, tree_after}
use Rattle.service_model.specs.Legal.{IsComplete, IsUnclashed}
use Rattle.service_model.specs.Order.{play_order}
use Rattle.service_model.specs.Print.{printed}
use Rattle.service_model.specs.Standing.{Scripts, Standing, Work, Made, start}
use Rattle.service_model.proofs.Examples.{script}
use Rattle.service_model.proofs.Rows.{named}
use Rattle.service_model.proofs.Pages.{pages_of}
use Rattle.service_model.proofs.Runs.{Plays, Writes, begin_line, client_after, commit_line, earlier_made, entry, freshens, is_over, none_made, one_commits, one_holds, step_line, stepped_pages, then_answers, then_plays, told, version, work_of, wrote}
use Rattle.service_model.proofs.PlaysApart.{Two, Zero, store_with, two_listed, two_pages, write_zero, zero_fresh, zero_listed, zero_made, zero_tree, zero_work, zero_writes}

-- ---- the same page is written again and again

abbrev second_tree : Tree
second_tree = tree_after zero_tree write_zero

second_listed : pages_of second_tree ≡ Zero
second_listed = stepped_pages zero_tree Zero zero_listed write_zero

abbrev second_work : Work
second_work = work_of 1 3 zero_tree write_zero

second_writes : Writes second_work 2
second_writes = wrote 1 3 zero_tree Zero zero_listed write_zero 2 refl refl

second_fresh : fresh_as_top zero_tree write_zero ≡ [] ∷ (0 ∷ []) ∷ []
second_fresh = freshens zero_tree Zero zero_listed write_zero

abbrev second_made : Made
second_made = record { object = 1; serial = 4; before = zero_tree; steps = write_zero }

second_clear : IsUnclashed (zero_made ∷ []) second_work
second_clear = earlier_made second_work zero_made [] (lit≤ tt) (none_made second_work)

abbrev third_work : Work
third_work = work_of 1 4 second_tree write_zero

third_writes : Writes third_work 2
third_writes = wrote 1 4 second_tree Zero second_listed write_zero 2 refl refl

third_fresh : fresh_as_top second_tree write_zero ≡ [] ∷ (0 ∷ []) ∷ []
third_fresh = freshens second_tree Zero second_listed write_zero

abbrev third_made : Made
third_made = record { object = 1; serial = 5; before = second_tree; steps = write_zero }

third_clear : IsUnclashed (zero_made ∷ second_made ∷ []) third_work
third_clear =
    earlier_made third_work zero_made (second_made ∷ []) (lit≤ tt)
    (earlier_made third_work second_made [] (lit≤ tt) (none_made third_work))

-- ---- the play

abbrev reader_scripts : Scripts
reader_scripts =
    script (
    begin_line 1 1
    ∷ step_line 2 (WriteAt (0 ∷ []) (170 ∷ []))
    ∷ commit_line 3
    ∷ begin_line 4 1
    ∷ step_line 5 (WriteAt (0 ∷ []) (170 ∷ []))
    ∷ commit_line 6
    ∷ begin_line 7 1
    ∷ step_line 8 (WriteAt (0 ∷ []) (170 ∷ []))
    ∷ commit_line 9 ∷ []
    )
    ∷ script (
    begin_line 1 1
    ∷ step_line 2 (ReadAt (0 ∷ []))
    ∷ commit_line 3 ∷ []
    ) ∷ []

abbrev reader_run : List Entry
reader_run =
    entry 2 1 (Began (named 1 2 ∷ [])) ∷ entry 2 1 Answered ∷ entry 1 1 (Began (named 1 2 ∷ [])) ∷ entry 1 1 Answered
    ∷ entry 1 2 Answered ∷ entry 1 3 (Held 2) ∷ entry 1 3 (Committed (named 1 3 ∷ []) 10) ∷ entry 1 3 Answered
    ∷ entry 1 4 (Began (named 1 3 ∷ [])) ∷ entry 1 4 Answered ∷ entry 1 5 Answered ∷ entry 1 6 (Held 2)
    ∷ entry 1 6 (Committed (named 1 4 ∷ []) 20) ∷ entry 1 6 Answered ∷ entry 1 7 (Began (named 1 4 ∷ [])) ∷ entry 1 7 Answered
    ∷ entry 1 8 Answered ∷ entry 1 9 (Held 2) ∷ entry 1 9 (Committed (named 1 5 ∷ []) 30) ∷ entry 1 9 Answered
    ∷ entry 2 2 Answered ∷ entry 2 3 (Committed [] 30) ∷ entry 2 3 Answered ∷ []

abbrev reader_after : Standing
reader_after = record {
  state = store_with (version 3 zero_tree ([] ∷ (0 ∷ []) ∷ []) ∷ version 4 second_tree ([] ∷ (0 ∷ []) ∷ []) ∷ version 5
      (tree_after second_tree write_zero) ([] ∷ (0 ∷ []) ∷ []) ∷ []);
  clients =
      client_after (reply.Base (2 ∷ []) ∷ reply.Stepped Done ∷ reply.Committed (3 ∷ []) ∷ reply.Base (3 ∷ []) ∷ reply.Stepped Done
      ∷ reply.Committed (4 ∷ []) ∷ reply.Base (4 ∷ []) ∷ reply.Stepped Done ∷ reply.Committed (5 ∷ []) ∷ [])
      ∷ client_after (reply.Base (2 ∷ []) ∷ reply.Stepped (Bytes []) ∷ reply.Committed (2 ∷ []) ∷ []) ∷ [];
  made = zero_made ∷ second_made ∷ third_made ∷ [];
  upkeep = None;
  moment = 30;
  latest = 2;
}

pub reader_play : Plays reader_scripts (start (store_with []) reader_scripts) (play_order (2 ∷ []) reader_scripts) reader_run reader_after
reader_play =
    then_plays (begin_line 1 1) (Began (named 1 2 ∷ [])) (lit≤ tt, lit≤ tt, refl, refl) (tt, refl, refl, refl) tt
    (then_answers (begin_line 1 1) (reply.Base (2 ∷ [])) (lit≤ tt, lit≤ tt, refl, refl) refl
    (then_plays (begin_line 1 1) (Began (named 1 2 ∷ [])) (lit≤ tt, lit≤ tt, refl, refl) (tt, refl, refl, refl) tt
    (then_answers (begin_line 1 1) (reply.Base (2 ∷ [])) (lit≤ tt, lit≤ tt, refl, refl) refl
    (then_answers (step_line 2 (WriteAt (0 ∷ []) (170 ∷ []))) (reply.Stepped Done) (lit≤ tt, lit≤ tt, refl, refl)
    (told two_pages Two two_listed [] (WriteAt (0 ∷ []) (170 ∷ [])))
    (one_holds (commit_line 3) zero_work 2 zero_writes (lit≤ tt, lit≤ tt, refl, refl) (refl, refl, refl) (lit≤ tt)
    (refl, none_made zero_work, lit< tt)
    (one_commits (commit_line 3) zero_work 2 zero_writes 10 ([] ∷ (0 ∷ []) ∷ []) zero_fresh (lit≤ tt, lit≤ tt, refl, refl)
    (refl, refl, refl) (refl, none_made zero_work, lit< tt) (lit≤ tt)
    (then_answers (commit_line 3) (reply.Committed (3 ∷ [])) (lit≤ tt, lit≤ tt, refl, refl) refl
    (then_plays (begin_line 4 1) (Began (named 1 3 ∷ [])) (lit≤ tt, lit≤ tt, refl, refl) (tt, refl, refl, refl) tt
    (then_answers (begin_line 4 1) (reply.Base (3 ∷ [])) (lit≤ tt, lit≤ tt, refl, refl) refl
    (then_answers (step_line 5 (WriteAt (0 ∷ []) (170 ∷ []))) (reply.Stepped Done) (lit≤ tt, lit≤ tt, refl, refl)
    (told zero_tree Zero zero_listed [] (WriteAt (0 ∷ []) (170 ∷ [])))
    (one_holds (commit_line 6) second_work 2 second_writes (lit≤ tt, lit≤ tt, refl, refl) (refl, refl, refl) (lit≤ tt) (refl, second_clear, lit< tt)
    (one_commits (commit_line 6) second_work 2 second_writes 20 ([] ∷ (0 ∷ []) ∷ []) second_fresh (lit≤ tt, lit≤ tt, refl, refl)
    (refl, refl, refl) (refl, second_clear, lit< tt) (lit≤ tt)
    (then_answers (commit_line 6) (reply.Committed (4 ∷ [])) (lit≤ tt, lit≤ tt, refl, refl) refl
    (then_plays (begin_line 7 1) (Began (named 1 4 ∷ [])) (lit≤ tt, lit≤ tt, refl, refl) (tt, refl, refl, refl) tt
    (then_answers (begin_line 7 1) (reply.Base (4 ∷ [])) (lit≤ tt, lit≤ tt, refl, refl) refl
    (then_answers (step_line 8 (WriteAt (0 ∷ []) (170 ∷ []))) (reply.Stepped Done) (lit≤ tt, lit≤ tt, refl, refl)
    (told second_tree Zero second_listed [] (WriteAt (0 ∷ []) (170 ∷ [])))
    (one_holds (commit_line 9) third_work 2 third_writes (lit≤ tt, lit≤ tt, refl, refl) (refl, refl, refl) (lit≤ tt) (refl, third_clear, lit< tt)
    (one_commits (commit_line 9) third_work 2 third_writes 30 ([] ∷ (0 ∷ []) ∷ []) third_fresh (lit≤ tt, lit≤ tt, refl, refl)
    (refl, refl, refl) (refl, third_clear, lit< tt) (lit≤ tt)
    (then_answers (commit_line 9) (reply.Committed (5 ∷ [])) (lit≤ tt, lit≤ tt, refl, refl) refl
    (then_answers (step_line 2 (ReadAt (0 ∷ []))) (reply.Stepped (Bytes [])) (lit≤ tt, lit≤ tt, refl, refl)
    (told two_pages Two two_listed [] (ReadAt (0 ∷ [])))
    (then_plays (commit_line 3) (Committed [] 30) (lit≤ tt, lit≤ tt, refl, refl) (refl, (refl, refl), lit≤ tt) tt
    (then_answers (commit_line 3) (reply.Committed (2 ∷ [])) (lit≤ tt, lit≤ tt, refl, refl) refl
    is_over))))))))))))))))))))))

pub reader_complete : IsComplete reader_scripts reader_after
reader_complete = (refl, refl, (refl, refl, tt))

pub reader_printed : printed reader_scripts reader_after
    ≡ codes "1.1 base 2\n1.2 ok\n1.3 committed 3\n1.4 base 3\n1.5 ok\n1.6 committed 4\n1.7 base 4\n1.8 ok\n1.9 committed 5\n2.1 base 2\n2.2 data -\n2.3 committed 2\nfile 1: 1 2 3 4 5\nfile 2: 1\n"
unfolding digits
reader_printed = refl
