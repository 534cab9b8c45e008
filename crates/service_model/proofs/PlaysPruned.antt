-- A play in which the versions before the base of an open update are pruned.
use Rattle.std.proofs.Common.{◌≡◌, ◌≢◌, ℕ, ◌+◌, ◌-◌, ◌≤◌, List, [], ◌∷◌, map, length, None, refl, sym, ap, subst, arith, lit<, lit≤}
use Rattle.std.specs.Prelude.{codes}
use Rattle.std.specs.Fmt.{digits}
use Rattle.std.specs.FinMap as finite
use Rattle.script_text.specs.declared.command.Command.TheVariants as command
use Rattle.script_text.specs.declared.command.FileName.TheVariants.{Number}
use Rattle.script_text.specs.declared.reply.LineReply.TheVariants as reply
use Rattle.service_model.specs.declared.journal.Entry.{Entry}
use Rattle.service_model.specs.declared.journal.What.TheVariants.{Began, Held, Committed, Started, Pruned, Answered}
use Rattle.tree_model.specs.declared.step.Step.{Step}
use Rattle.tree_model.specs.declared.step.Step.TheVariants.{WriteAt, MakeAt}
use Rattle.tree_model.specs.declared.step.Reply.TheVariants.{Done}
use Rattle.tree_model.specs.Accesses.{fresh_as_top}
use Rattle.tree_model.specs.States.{State}
use Rattle.tree_model.specs.Trees.{Tree, numbers_below, single, tree_after}
use Rattle.service_model.specs.Legal.{IsComplete, IsUnclashed}
use Rattle.service_model.specs.Order.{play_order}
use Rattle.service_model.specs.Print.{printed}
use Rattle.service_model.specs.Standing.{Scripts, Standing, Work, Made, start}
use Rattle.service_model.proofs.Examples.{line, made_file, script, store}
use Rattle.service_model.proofs.Rows.{named}
use Rattle.service_model.proofs.Pages.{Pages, pages_of, single_pages}
use Rattle.service_model.proofs.Runs.{Plays, Writes, and_made, begin_line, clashes, client_after, commit_line, earlier_made, entry, freshens, is_over, none_made, one_commits, one_holds, step_line, stepped_pages, then_answers, then_plays, told, version, work_of, wrote}

-- ---- the page `/` is written again and again

abbrev two_files : State
two_files = store 64 (made_file ∷ made_file ∷ [])

abbrev Root : Pages
Root = ([], []) ∷ []

abbrev Written : Pages
Written = ([], 0 ∷ []) ∷ []

abbrev write_root : List Step
write_root = WriteAt [] (0 ∷ []) ∷ []

abbrev tree_two : Tree
tree_two = tree_after single write_root

tree_two_listed : pages_of tree_two ≡ Written
tree_two_listed = stepped_pages single Root single_pages write_root

abbrev first_work : Work
first_work = work_of 1 1 single write_root

first_writes : Writes first_work 1
first_writes = wrote 1 1 single Root single_pages write_root 1 refl refl

first_fresh : fresh_as_top single write_root ≡ [] ∷ []
first_fresh = freshens single Root single_pages write_root

abbrev first_made : Made
first_made = record { object = 1; serial = 2; before = single; steps = write_root }

first_clear : IsUnclashed ([]) first_work
first_clear = none_made first_work

abbrev tree_three : Tree
tree_three = tree_after tree_two write_root

tree_three_listed : pages_of tree_three ≡ Written
tree_three_listed = stepped_pages tree_two Written tree_two_listed write_root

abbrev second_work : Work
second_work = work_of 1 2 tree_two write_root

second_writes : Writes second_work 1
second_writes = wrote 1 2 tree_two Written tree_two_listed write_root 1 refl refl

second_fresh : fresh_as_top tree_two write_root ≡ [] ∷ []
second_fresh = freshens tree_two Written tree_two_listed write_root

abbrev second_made : Made
second_made = record { object = 1; serial = 3; before = tree_two; steps = write_root }

second_clear : IsUnclashed (first_made ∷ []) second_work
second_clear = earlier_made second_work first_made ([]) (lit≤ tt) (none_made second_work)

abbrev tree_four : Tree
tree_four = tree_after tree_three write_root

tree_four_listed : pages_of tree_four ≡ Written
tree_four_listed = stepped_pages tree_three Written tree_three_listed write_root

abbrev third_work : Work
third_work = work_of 1 3 tree_three write_root

third_writes : Writes third_work 1
third_writes = wrote 1 3 tree_three Written tree_three_listed write_root 1 refl refl

third_fresh : fresh_as_top tree_three write_root ≡ [] ∷ []
third_fresh = freshens tree_three Written tree_three_listed write_root

abbrev third_made : Made
third_made = record { object = 1; serial = 4; before = tree_three; steps = write_root }

third_clear : IsUnclashed (first_made ∷ second_made ∷ []) third_work
third_clear = earlier_made third_work first_made (second_made ∷ []) (lit≤ tt) (earlier_made third_work second_made ([]) (lit≤ tt)
    (none_made third_work))

abbrev tree_five : Tree
tree_five = tree_after tree_four write_root

tree_five_listed : pages_of tree_five ≡ Written
tree_five_listed = stepped_pages tree_four Written tree_four_listed write_root

abbrev fourth_work : Work
fourth_work = work_of 1 4 tree_four write_root

fourth_writes : Writes fourth_work 1
fourth_writes = wrote 1 4 tree_four Written tree_four_listed write_root 1 refl refl

fourth_fresh : fresh_as_top tree_four write_root ≡ [] ∷ []
fourth_fresh = freshens tree_four Written tree_four_listed write_root

abbrev fourth_made : Made
fourth_made = record { object = 1; serial = 5; before = tree_four; steps = write_root }

fourth_clear : IsUnclashed (first_made ∷ second_made ∷ third_made ∷ []) fourth_work
fourth_clear = earlier_made fourth_work first_made (second_made ∷ third_made ∷ []) (lit≤ tt) (earlier_made fourth_work second_made
    (third_made ∷ []) (lit≤ tt) (earlier_made fourth_work third_made ([]) (lit≤ tt) (none_made fourth_work)))

-- ---- another update makes a page

abbrev make_seven : List Step
make_seven = MakeAt ([], 7) ∷ []

abbrev seven_work : Work
seven_work = work_of 1 3 tree_three make_seven

seven_writes : Writes seven_work 2
unfolding numbers_below
seven_writes = wrote 1 3 tree_three Written tree_three_listed make_seven 2 refl refl

seven_fresh : fresh_as_top tree_five make_seven ≡ [] ∷ (7 ∷ []) ∷ []
unfolding numbers_below
seven_fresh = freshens tree_five Written tree_five_listed make_seven

seven_clear : IsUnclashed (first_made ∷ second_made ∷ third_made ∷ fourth_made ∷ []) seven_work
unfolding numbers_below
seven_clear =
    earlier_made seven_work first_made (second_made ∷ third_made ∷ fourth_made ∷ []) (lit≤ tt)
    (earlier_made seven_work second_made (third_made ∷ fourth_made ∷ []) (lit≤ tt)
    (and_made seven_work third_made (fourth_made ∷ [])
    (λ later. clashes tree_three tree_three Written Written tree_three_listed tree_three_listed make_seven write_root)
    (and_made seven_work fourth_made []
    (λ later. clashes tree_three tree_four Written Written tree_three_listed tree_four_listed make_seven write_root)
    (none_made seven_work))))

-- the first version that is kept has one page
three_keys : finite.keys tree_three ≡ [] ∷ []
three_keys = ap (λ (es : Pages). map (λ (page : List ℕ × List ℕ). page.0) es) tree_three_listed

three_not_one : ◌≢◌ {A = ℕ} 3 1
three_not_one e = omega (arith, e)

-- ---- the play

abbrev pruned_scripts : Scripts
pruned_scripts =
    script (
    begin_line 1 1
    ∷ step_line 2 (WriteAt [] (0 ∷ []))
    ∷ commit_line 3
    ∷ begin_line 4 1
    ∷ step_line 5 (WriteAt [] (0 ∷ []))
    ∷ commit_line 6
    ∷ begin_line 7 1
    ∷ step_line 8 (WriteAt [] (0 ∷ []))
    ∷ commit_line 9
    ∷ begin_line 10 1
    ∷ step_line 11 (WriteAt [] (0 ∷ []))
    ∷ commit_line 12
    ∷ line 13 (command.Prune (Number 1) 1) ∷ []
    )
    ∷ script (
    begin_line 1 1
    ∷ step_line 2 (MakeAt ([], 7))
    ∷ commit_line 3 ∷ []
    ) ∷ []

abbrev pruned_run : List Entry
pruned_run =
    entry 1 1 (Began (named 1 1 ∷ [])) ∷ entry 1 1 Answered ∷ entry 1 2 Answered ∷ entry 1 3 (Held 1)
    ∷ entry 1 3 (Committed (named 1 2 ∷ []) 10) ∷ entry 1 3 Answered ∷ entry 1 4 (Began (named 1 2 ∷ [])) ∷ entry 1 4 Answered
    ∷ entry 1 5 Answered ∷ entry 1 6 (Held 1) ∷ entry 1 6 (Committed (named 1 3 ∷ []) 20) ∷ entry 1 6 Answered
    ∷ entry 2 1 (Began (named 1 3 ∷ [])) ∷ entry 2 1 Answered ∷ entry 1 7 (Began (named 1 3 ∷ [])) ∷ entry 1 7 Answered
    ∷ entry 1 8 Answered ∷ entry 1 9 (Held 1) ∷ entry 1 9 (Committed (named 1 4 ∷ []) 30) ∷ entry 1 9 Answered
    ∷ entry 1 10 (Began (named 1 4 ∷ [])) ∷ entry 1 10 Answered ∷ entry 1 11 Answered ∷ entry 1 12 (Held 1)
    ∷ entry 1 12 (Committed (named 1 5 ∷ []) 40) ∷ entry 1 12 Answered ∷ entry 1 13 Started ∷ entry 1 13 (Pruned 1 3 2 50)
    ∷ entry 1 13 Answered ∷ entry 2 2 Answered ∷ entry 2 3 (Held 2) ∷ entry 2 3 (Committed (named 1 6 ∷ []) 60)
    ∷ entry 2 3 Answered ∷ []

abbrev pruned_after : Standing
pruned_after = record {
  state = store 64 (
      record {
        generation = 1;
        secret = [];
        versions =
            version 3 tree_three (finite.keys tree_three) ∷ version 4 tree_four ([] ∷ []) ∷ version 5 tree_five ([] ∷ [])
            ∷ version 6 (tree_after tree_five make_seven) ([] ∷ (7 ∷ []) ∷ []) ∷ [];
      } ∷ made_file ∷ []
      );
  clients =
      client_after (reply.Base (1 ∷ []) ∷ reply.Stepped Done ∷ reply.Committed (2 ∷ []) ∷ reply.Base (2 ∷ []) ∷ reply.Stepped Done
      ∷ reply.Committed (3 ∷ []) ∷ reply.Base (3 ∷ []) ∷ reply.Stepped Done ∷ reply.Committed (4 ∷ []) ∷ reply.Base (4 ∷ [])
      ∷ reply.Stepped Done ∷ reply.Committed (5 ∷ []) ∷ reply.Pruned 3 2 ∷ [])
      ∷ client_after (reply.Base (3 ∷ []) ∷ reply.Stepped Done ∷ reply.Committed (6 ∷ []) ∷ []) ∷ [];
  made = first_made ∷ second_made ∷ third_made ∷ fourth_made ∷ record { object = 1; serial = 6; before = tree_five; steps = make_seven } ∷ [];
  upkeep = None;
  moment = 60;
  latest = 2;
}

pub pruned_play : Plays pruned_scripts (start two_files pruned_scripts) (play_order (1 ∷ 1 ∷ 1 ∷ 1 ∷ 1 ∷ 1 ∷ 2
    ∷ []) pruned_scripts) pruned_run pruned_after
pruned_play =
    then_plays (begin_line 1 1) (Began (named 1 1 ∷ [])) (lit≤ tt, lit≤ tt, refl, refl) (tt, refl, refl, refl) tt
    (then_answers (begin_line 1 1) (reply.Base (1 ∷ [])) (lit≤ tt, lit≤ tt, refl, refl) refl
    (then_answers (step_line 2 (WriteAt [] (0 ∷ []))) (reply.Stepped Done) (lit≤ tt, lit≤ tt, refl, refl)
    (told single Root single_pages [] (WriteAt [] (0 ∷ [])))
    (one_holds (commit_line 3) first_work 1 first_writes (lit≤ tt, lit≤ tt, refl, refl) (refl, refl, refl) (lit≤ tt) (refl, first_clear, lit< tt)
    (one_commits (commit_line 3) first_work 1 first_writes 10 ([] ∷ []) first_fresh (lit≤ tt, lit≤ tt, refl, refl) (refl, refl, refl)
    (refl, first_clear, lit< tt) (lit≤ tt)
    (then_answers (commit_line 3) (reply.Committed (2 ∷ [])) (lit≤ tt, lit≤ tt, refl, refl) refl
    (then_plays (begin_line 4 1) (Began (named 1 2 ∷ [])) (lit≤ tt, lit≤ tt, refl, refl) (tt, refl, refl, refl) tt
    (then_answers (begin_line 4 1) (reply.Base (2 ∷ [])) (lit≤ tt, lit≤ tt, refl, refl) refl
    (then_answers (step_line 5 (WriteAt [] (0 ∷ []))) (reply.Stepped Done) (lit≤ tt, lit≤ tt, refl, refl)
    (told tree_two Written tree_two_listed [] (WriteAt [] (0 ∷ [])))
    (one_holds (commit_line 6) second_work 1 second_writes (lit≤ tt, lit≤ tt, refl, refl) (refl, refl, refl) (lit≤ tt) (refl, second_clear, lit< tt)
    (one_commits (commit_line 6) second_work 1 second_writes 20 ([] ∷ []) second_fresh (lit≤ tt, lit≤ tt, refl, refl)
    (refl, refl, refl) (refl, second_clear, lit< tt) (lit≤ tt)
    (then_answers (commit_line 6) (reply.Committed (3 ∷ [])) (lit≤ tt, lit≤ tt, refl, refl) refl
    (then_plays (begin_line 1 1) (Began (named 1 3 ∷ [])) (lit≤ tt, lit≤ tt, refl, refl) (tt, refl, refl, refl) tt
    (then_answers (begin_line 1 1) (reply.Base (3 ∷ [])) (lit≤ tt, lit≤ tt, refl, refl) refl
    (then_plays (begin_line 7 1) (Began (named 1 3 ∷ [])) (lit≤ tt, lit≤ tt, refl, refl) (tt, refl, refl, refl) tt
    (then_answers (begin_line 7 1) (reply.Base (3 ∷ [])) (lit≤ tt, lit≤ tt, refl, refl) refl
    (then_answers (step_line 8 (WriteAt [] (0 ∷ []))) (reply.Stepped Done) (lit≤ tt, lit≤ tt, refl, refl)
    (told tree_three Written tree_three_listed [] (WriteAt [] (0 ∷ [])))
    (one_holds (commit_line 9) third_work 1 third_writes (lit≤ tt, lit≤ tt, refl, refl) (refl, refl, refl) (lit≤ tt) (refl, third_clear, lit< tt)
    (one_commits (commit_line 9) third_work 1 third_writes 30 ([] ∷ []) third_fresh (lit≤ tt, lit≤ tt, refl, refl) (refl, refl, refl)
    (refl, third_clear, lit< tt) (lit≤ tt)
    (then_answers (commit_line 9) (reply.Committed (4 ∷ [])) (lit≤ tt, lit≤ tt, refl, refl) refl
    (then_plays (begin_line 10 1) (Began (named 1 4 ∷ [])) (lit≤ tt, lit≤ tt, refl, refl) (tt, refl, refl, refl) tt
    (then_answers (begin_line 10 1) (reply.Base (4 ∷ [])) (lit≤ tt, lit≤ tt, refl, refl) refl
    (then_answers (step_line 11 (WriteAt [] (0 ∷ []))) (reply.Stepped Done) (lit≤ tt, lit≤ tt, refl, refl)
    (told tree_four Written tree_four_listed [] (WriteAt [] (0 ∷ [])))
    (one_holds (commit_line 12) fourth_work 1 fourth_writes (lit≤ tt, lit≤ tt, refl, refl) (refl, refl, refl) (lit≤ tt) (refl, fourth_clear, lit< tt)
    (one_commits (commit_line 12) fourth_work 1 fourth_writes 40 ([] ∷ []) fourth_fresh (lit≤ tt, lit≤ tt, refl, refl)
    (refl, refl, refl) (refl, fourth_clear, lit< tt) (lit≤ tt)
    (then_answers (commit_line 12) (reply.Committed (5 ∷ [])) (lit≤ tt, lit≤ tt, refl, refl) refl
    (then_plays (line 13 (command.Prune (Number 1) 1)) Started (lit≤ tt, lit≤ tt, refl, refl) (three_not_one, refl, refl) tt
    (then_plays (line 13 (command.Prune (Number 1) 1)) (Pruned 1 3 2 50) (lit≤ tt, lit≤ tt, refl, refl)
    ((Number 1, 1, refl, refl), refl, refl, ap (λ (ps : List (List ℕ)). 5 - (0 + length ps + 1 + 1)) (sym three_keys), lit≤ tt) tt
    (then_answers (line 13 (command.Prune (Number 1) 1)) (reply.Pruned 3 2) (lit≤ tt, lit≤ tt, refl, refl) refl
    (then_answers (step_line 2 (MakeAt ([], 7))) (reply.Stepped Done) (lit≤ tt, lit≤ tt, refl, refl)
    (told tree_three Written tree_three_listed [] (MakeAt ([], 7)))
    (one_holds (commit_line 3) seven_work 2 seven_writes (lit≤ tt, lit≤ tt, refl, refl) (refl, refl, refl) (subst (λ (ps : List
    (List ℕ)). 2 ≤ 64 - 1 - (0 + (0 + length ps + 1 + 1) + 1) - 0 - 0) (sym three_keys) (lit≤ tt)) (refl, seven_clear, lit< tt)
    (one_commits (commit_line 3) seven_work 2 seven_writes 60 ([] ∷ (7 ∷ []) ∷ []) seven_fresh (lit≤ tt, lit≤ tt, refl, refl)
    (refl, refl, refl) (refl, seven_clear, lit< tt) (lit≤ tt)
    (then_answers (commit_line 3) (reply.Committed (6 ∷ [])) (lit≤ tt, lit≤ tt, refl, refl) refl
    is_over))))))))))))))))))))))))))))))))

pub pruned_complete : IsComplete pruned_scripts pruned_after
pruned_complete = (refl, refl, (refl, refl, tt))

pub pruned_printed : printed pruned_scripts pruned_after
    ≡ codes "1.1 base 1\n1.2 ok\n1.3 committed 2\n1.4 base 2\n1.5 ok\n1.6 committed 3\n1.7 base 3\n1.8 ok\n1.9 committed 4\n1.10 base 4\n1.11 ok\n1.12 committed 5\n1.13 pruned 3 2\n2.1 base 3\n2.2 ok\n2.3 committed 6\nfile 1: 3 4 5 6\nfile 2: 1\n"
unfolding digits
pruned_printed = refl
