-- Plays of two updates of one file that write apart: both are committed, and what is printed.
use Rattle.std.proofs.Common.{◌≡◌, List, [], ◌∷◌, ◌++◌, None, refl, lit<, lit≤}
use Rattle.std.specs.Prelude.{codes}
use Rattle.std.specs.Fmt.{digits}
use Rattle.script_text.specs.declared.reply.LineReply.TheVariants as reply
use Rattle.service_model.specs.declared.journal.Entry.{Entry}
use Rattle.service_model.specs.declared.journal.What.TheVariants.{Began, Held, Committed, Answered}
use Rattle.tree_model.specs.declared.step.Step.{Step}
use Rattle.tree_model.specs.declared.step.Step.TheVariants.{WriteAt, MakeAt, DropAt}
use Rattle.tree_model.specs.declared.step.Reply.TheVariants.{Done}
use Rattle.tree_model.specs.Accesses.{fresh_as_top}
use Rattle.tree_model.specs.States.{State, Version}
use Rattle.tree_model.specs.Trees.{Tree, numbers_below, single, tree_after}
use Rattle.service_model.specs.Legal.{IsComplete, IsUnclashed}
use Rattle.service_model.specs.Order.{play_order}
use Rattle.service_model.specs.Print.{printed}
use Rattle.service_model.specs.Standing.{Scripts, Standing, Work, Made, start}
use Rattle.service_model.proofs.Examples.{made_file, script, store}
use Rattle.service_model.proofs.Rows.{named}
use Rattle.service_model.proofs.Pages.{Pages, pages_of, single_pages}
use Rattle.service_model.proofs.Runs.{Plays, Writes, and_made, begin_line, clashes, client_after, commit_line, entry, freshens, is_over, none_made, one_commits, one_holds, step_line, stepped_pages, then_answers, then_plays, told, version, work_of, wrote}

-- ---- a store whose first file has the pages `/`, `/0` and `/1`

abbrev make_two : List Step
make_two = MakeAt ([], 0) ∷ MakeAt ([], 1) ∷ []

abbrev pub two_pages : Tree
two_pages = tree_after single make_two

abbrev pub Two : Pages
Two = ([], []) ∷ (0 ∷ [], []) ∷ (1 ∷ [], []) ∷ []

pub two_listed : pages_of two_pages ≡ Two
unfolding numbers_below
two_listed = stepped_pages single (([], []) ∷ []) single_pages make_two

abbrev pub first_versions : List Version
first_versions = version 1 single ([] ∷ []) ∷ version 2 two_pages ([] ∷ (0 ∷ []) ∷ (1 ∷ []) ∷ []) ∷ []

-- the store where the first file has these versions more
abbrev pub store_with : List Version → State
store_with more = store 64 (record { generation = 1; secret = []; versions = first_versions ++ more } ∷ made_file ∷ [])

-- ---- an update that writes `/0`

abbrev pub write_zero : List Step
write_zero = WriteAt (0 ∷ []) (170 ∷ []) ∷ []

abbrev pub zero_work : Work
zero_work = work_of 1 2 two_pages write_zero

pub zero_writes : Writes zero_work 2
zero_writes = wrote 1 2 two_pages Two two_listed write_zero 2 refl refl

pub zero_fresh : fresh_as_top two_pages write_zero ≡ [] ∷ (0 ∷ []) ∷ []
zero_fresh = freshens two_pages Two two_listed write_zero

abbrev pub zero_tree : Tree
zero_tree = tree_after two_pages write_zero

abbrev pub Zero : Pages
Zero = ([], []) ∷ (0 ∷ [], 170 ∷ []) ∷ (1 ∷ [], []) ∷ []

pub zero_listed : pages_of zero_tree ≡ Zero
zero_listed = stepped_pages two_pages Two two_listed write_zero

abbrev pub zero_made : Made
zero_made = record { object = 1; serial = 3; before = two_pages; steps = write_zero }

-- ---- two updates write two pages

abbrev one_work_steps : List Step
one_work_steps = WriteAt (1 ∷ []) (187 ∷ []) ∷ []

abbrev one_work : Work
one_work = work_of 1 2 two_pages one_work_steps

one_work_writes : Writes one_work 2
one_work_writes = wrote 1 2 two_pages Two two_listed one_work_steps 2 refl refl

one_work_fresh : fresh_as_top zero_tree one_work_steps ≡ [] ∷ (1 ∷ []) ∷ []
one_work_fresh = freshens zero_tree Zero zero_listed one_work_steps

one_work_clear : IsUnclashed (zero_made ∷ []) one_work
unfolding numbers_below
one_work_clear =
    and_made one_work zero_made [] (λ later. clashes two_pages two_pages Two Two two_listed two_listed one_work_steps write_zero)
    (none_made one_work)

-- ---- the play

abbrev apart_scripts : Scripts
apart_scripts =
    script (
    begin_line 1 1
    ∷ step_line 2 (WriteAt (0 ∷ []) (170 ∷ []))
    ∷ commit_line 3 ∷ []
    )
    ∷ script (
    begin_line 1 1
    ∷ step_line 2 (WriteAt (1 ∷ []) (187 ∷ []))
    ∷ commit_line 3 ∷ []
    ) ∷ []

abbrev apart_run : List Entry
apart_run =
    entry 1 1 (Began (named 1 2 ∷ [])) ∷ entry 1 1 Answered ∷ entry 2 1 (Began (named 1 2 ∷ [])) ∷ entry 2 1 Answered
    ∷ entry 1 2 Answered ∷ entry 1 3 (Held 2) ∷ entry 1 3 (Committed (named 1 3 ∷ []) 10) ∷ entry 1 3 Answered
    ∷ entry 2 2 Answered ∷ entry 2 3 (Held 2) ∷ entry 2 3 (Committed (named 1 4 ∷ []) 20) ∷ entry 2 3 Answered ∷ []

abbrev apart_after : Standing
apart_after = record {
  state = store_with (version 3 zero_tree ([] ∷ (0 ∷ []) ∷ []) ∷ version 4 (tree_after zero_tree one_work_steps) ([] ∷ (1 ∷ []) ∷ []) ∷ []);
  clients =
      client_after (reply.Base (2 ∷ []) ∷ reply.Stepped Done ∷ reply.Committed (3 ∷ []) ∷ [])
      ∷ client_after (reply.Base (2 ∷ []) ∷ reply.Stepped Done ∷ reply.Committed (4 ∷ []) ∷ []) ∷ [];
  made = zero_made ∷ record { object = 1; serial = 4; before = zero_tree; steps = one_work_steps } ∷ [];
  upkeep = None;
  moment = 20;
  latest = 2;
}

pub apart_play : Plays apart_scripts (start (store_with []) apart_scripts) (play_order (1 ∷ 2 ∷ []) apart_scripts) apart_run apart_after
apart_play =
    then_plays (begin_line 1 1) (Began (named 1 2 ∷ [])) (lit≤ tt, lit≤ tt, refl, refl) (tt, refl, refl, refl) tt
    (then_answers (begin_line 1 1) (reply.Base (2 ∷ [])) (lit≤ tt, lit≤ tt, refl, refl) refl
    (then_plays (begin_line 1 1) (Began (named 1 2 ∷ [])) (lit≤ tt, lit≤ tt, refl, refl) (tt, refl, refl, refl) tt
    (then_answers (begin_line 1 1) (reply.Base (2 ∷ [])) (lit≤ tt, lit≤ tt, refl, refl) refl
    (then_answers (step_line 2 (WriteAt (0 ∷ []) (170 ∷ []))) (reply.Stepped Done) (lit≤ tt, lit≤ tt, refl, refl)
    (told two_pages Two two_listed [] (WriteAt (0 ∷ []) (170 ∷ [])))
    (one_holds (commit_line 3) zero_work 2 zero_writes (lit≤ tt, lit≤ tt, refl, refl) (refl, refl, refl) (lit≤ tt)
    (refl, none_made zero_work, lit< tt)
    (one_commits (commit_line 3) zero_work 2 zero_writes 10 ([] ∷ (0 ∷ []) ∷ []) zero_fresh (lit≤ tt, lit≤ tt, refl, refl)
    (refl, refl, refl) (refl, none_made zero_work, lit< tt) (lit≤ tt)
    (then_answers (commit_line 3) (reply.Committed (3 ∷ [])) (lit≤ tt, lit≤ tt, refl, refl) refl
    (then_answers (step_line 2 (WriteAt (1 ∷ []) (187 ∷ []))) (reply.Stepped Done) (lit≤ tt, lit≤ tt, refl, refl)
    (told two_pages Two two_listed [] (WriteAt (1 ∷ []) (187 ∷ [])))
    (one_holds (commit_line 3) one_work 2 one_work_writes (lit≤ tt, lit≤ tt, refl, refl) (refl, refl, refl) (lit≤ tt) (refl, one_work_clear, lit< tt)
    (one_commits (commit_line 3) one_work 2 one_work_writes 20 ([] ∷ (1 ∷ []) ∷ []) one_work_fresh (lit≤ tt, lit≤ tt, refl, refl)
    (refl, refl, refl) (refl, one_work_clear, lit< tt) (lit≤ tt)
    (then_answers (commit_line 3) (reply.Committed (4 ∷ [])) (lit≤ tt, lit≤ tt, refl, refl) refl
    is_over)))))))))))

pub apart_complete : IsComplete apart_scripts apart_after
apart_complete = (refl, refl, (refl, refl, tt))

pub apart_printed : printed apart_scripts apart_after
    ≡ codes "1.1 base 2\n1.2 ok\n1.3 committed 3\n2.1 base 2\n2.2 ok\n2.3 committed 4\nfile 1: 1 2 3 4\nfile 2: 1\n"
unfolding digits
apart_printed = refl

-- the last version has what both wrote
pub apart_pages : pages_of (tree_after zero_tree one_work_steps) ≡ ([], []) ∷ (0 ∷ [], 170 ∷ []) ∷ (1 ∷ [], 187 ∷ []) ∷ []
apart_pages = stepped_pages zero_tree Zero zero_listed one_work_steps

-- ---- a page is written, and the other update drops it and makes it again

abbrev again_work_steps : List Step
again_work_steps = DropAt ([], 0) ∷ MakeAt ([], 0) ∷ []

abbrev again_work : Work
again_work = work_of 1 2 two_pages again_work_steps

again_work_writes : Writes again_work 2
unfolding numbers_below
again_work_writes = wrote 1 2 two_pages Two two_listed again_work_steps 2 refl refl

again_work_fresh : fresh_as_top zero_tree again_work_steps ≡ [] ∷ (0 ∷ []) ∷ []
unfolding numbers_below
again_work_fresh = freshens zero_tree Zero zero_listed again_work_steps

again_work_clear : IsUnclashed (zero_made ∷ []) again_work
unfolding numbers_below
again_work_clear =
    and_made again_work zero_made [] (λ later. clashes two_pages two_pages Two Two two_listed two_listed again_work_steps write_zero)
    (none_made again_work)

-- ---- the play

abbrev again_scripts : Scripts
again_scripts =
    script (
    begin_line 1 1
    ∷ step_line 2 (WriteAt (0 ∷ []) (170 ∷ []))
    ∷ commit_line 3 ∷ []
    )
    ∷ script (
    begin_line 1 1
    ∷ step_line 2 (DropAt ([], 0))
    ∷ step_line 3 (MakeAt ([], 0))
    ∷ commit_line 4 ∷ []
    ) ∷ []

abbrev again_run : List Entry
again_run =
    entry 1 1 (Began (named 1 2 ∷ [])) ∷ entry 1 1 Answered ∷ entry 2 1 (Began (named 1 2 ∷ [])) ∷ entry 2 1 Answered
    ∷ entry 1 2 Answered ∷ entry 1 3 (Held 2) ∷ entry 1 3 (Committed (named 1 3 ∷ []) 10) ∷ entry 1 3 Answered
    ∷ entry 2 2 Answered ∷ entry 2 3 Answered ∷ entry 2 4 (Held 2) ∷ entry 2 4 (Committed (named 1 4 ∷ []) 20)
    ∷ entry 2 4 Answered ∷ []

abbrev again_after : Standing
again_after = record {
  state = store_with (version 3 zero_tree ([] ∷ (0 ∷ []) ∷ []) ∷ version 4 (tree_after zero_tree again_work_steps) ([] ∷ (0 ∷ []) ∷ []) ∷ []);
  clients =
      client_after (reply.Base (2 ∷ []) ∷ reply.Stepped Done ∷ reply.Committed (3 ∷ []) ∷ [])
      ∷ client_after (reply.Base (2 ∷ []) ∷ reply.Stepped Done ∷ reply.Stepped Done ∷ reply.Committed (4 ∷ []) ∷ []) ∷ [];
  made = zero_made ∷ record { object = 1; serial = 4; before = zero_tree; steps = again_work_steps } ∷ [];
  upkeep = None;
  moment = 20;
  latest = 2;
}

pub again_play : Plays again_scripts (start (store_with []) again_scripts) (play_order (1 ∷ 2 ∷ []) again_scripts) again_run again_after
again_play =
    then_plays (begin_line 1 1) (Began (named 1 2 ∷ [])) (lit≤ tt, lit≤ tt, refl, refl) (tt, refl, refl, refl) tt
    (then_answers (begin_line 1 1) (reply.Base (2 ∷ [])) (lit≤ tt, lit≤ tt, refl, refl) refl
    (then_plays (begin_line 1 1) (Began (named 1 2 ∷ [])) (lit≤ tt, lit≤ tt, refl, refl) (tt, refl, refl, refl) tt
    (then_answers (begin_line 1 1) (reply.Base (2 ∷ [])) (lit≤ tt, lit≤ tt, refl, refl) refl
    (then_answers (step_line 2 (WriteAt (0 ∷ []) (170 ∷ []))) (reply.Stepped Done) (lit≤ tt, lit≤ tt, refl, refl)
    (told two_pages Two two_listed [] (WriteAt (0 ∷ []) (170 ∷ [])))
    (one_holds (commit_line 3) zero_work 2 zero_writes (lit≤ tt, lit≤ tt, refl, refl) (refl, refl, refl) (lit≤ tt)
    (refl, none_made zero_work, lit< tt)
    (one_commits (commit_line 3) zero_work 2 zero_writes 10 ([] ∷ (0 ∷ []) ∷ []) zero_fresh (lit≤ tt, lit≤ tt, refl, refl)
    (refl, refl, refl) (refl, none_made zero_work, lit< tt) (lit≤ tt)
    (then_answers (commit_line 3) (reply.Committed (3 ∷ [])) (lit≤ tt, lit≤ tt, refl, refl) refl
    (then_answers (step_line 2 (DropAt ([], 0))) (reply.Stepped Done) (lit≤ tt, lit≤ tt, refl, refl)
    (told two_pages Two two_listed [] (DropAt ([], 0)))
    (then_answers (step_line 3 (MakeAt ([], 0))) (reply.Stepped Done) (lit≤ tt, lit≤ tt, refl, refl) (told two_pages Two two_listed
    (DropAt ([], 0) ∷ []) (MakeAt ([], 0)))
    (one_holds (commit_line 4) again_work 2 again_work_writes (lit≤ tt, lit≤ tt, refl, refl) (refl, refl, refl) (lit≤ tt)
    (refl, again_work_clear, lit< tt)
    (one_commits (commit_line 4) again_work 2 again_work_writes 20 ([] ∷ (0 ∷ []) ∷ []) again_work_fresh
    (lit≤ tt, lit≤ tt, refl, refl) (refl, refl, refl) (refl, again_work_clear, lit< tt) (lit≤ tt)
    (then_answers (commit_line 4) (reply.Committed (4 ∷ [])) (lit≤ tt, lit≤ tt, refl, refl) refl
    is_over))))))))))))

pub again_complete : IsComplete again_scripts again_after
again_complete = (refl, refl, (refl, refl, tt))

pub again_printed : printed again_scripts again_after
    ≡ codes "1.1 base 2\n1.2 ok\n1.3 committed 3\n2.1 base 2\n2.2 ok\n2.3 ok\n2.4 committed 4\nfile 1: 1 2 3 4\nfile 2: 1\n"
unfolding digits
again_printed = refl

-- the page is empty then
pub again_pages : pages_of (tree_after zero_tree again_work_steps) ≡ Two
again_pages = stepped_pages zero_tree Zero zero_listed again_work_steps

-- ---- two updates make pages in two slots of one page

abbrev make_work_steps : List Step
make_work_steps = MakeAt ([], 2) ∷ []

abbrev make_work : Work
make_work = work_of 1 2 two_pages make_work_steps

make_work_writes : Writes make_work 2
unfolding numbers_below
make_work_writes = wrote 1 2 two_pages Two two_listed make_work_steps 2 refl refl

make_work_fresh : fresh_as_top two_pages make_work_steps ≡ [] ∷ (2 ∷ []) ∷ []
unfolding numbers_below
make_work_fresh = freshens two_pages Two two_listed make_work_steps

abbrev make_made : Made
make_made = record { object = 1; serial = 3; before = two_pages; steps = make_work_steps }

abbrev made_tree : Tree
made_tree = tree_after two_pages make_work_steps

abbrev Made_pages : Pages
Made_pages = ([], []) ∷ (0 ∷ [], []) ∷ (1 ∷ [], []) ∷ (2 ∷ [], []) ∷ []

made_listed : pages_of made_tree ≡ Made_pages
made_listed = stepped_pages two_pages Two two_listed make_work_steps

abbrev third_work_steps : List Step
third_work_steps = MakeAt ([], 3) ∷ []

abbrev third_work : Work
third_work = work_of 1 2 two_pages third_work_steps

third_work_writes : Writes third_work 2
unfolding numbers_below
third_work_writes = wrote 1 2 two_pages Two two_listed third_work_steps 2 refl refl

third_work_fresh : fresh_as_top made_tree third_work_steps ≡ [] ∷ (3 ∷ []) ∷ []
unfolding numbers_below
third_work_fresh = freshens made_tree Made_pages made_listed third_work_steps

third_work_clear : IsUnclashed (make_made ∷ []) third_work
unfolding numbers_below
third_work_clear =
    and_made third_work make_made [] (λ later. clashes two_pages two_pages Two Two two_listed two_listed third_work_steps make_work_steps)
    (none_made third_work)

-- ---- the play

abbrev makes_scripts : Scripts
makes_scripts =
    script (
    begin_line 1 1
    ∷ step_line 2 (MakeAt ([], 2))
    ∷ commit_line 3 ∷ []
    )
    ∷ script (
    begin_line 1 1
    ∷ step_line 2 (MakeAt ([], 3))
    ∷ commit_line 3 ∷ []
    ) ∷ []

abbrev makes_run : List Entry
makes_run =
    entry 1 1 (Began (named 1 2 ∷ [])) ∷ entry 1 1 Answered ∷ entry 2 1 (Began (named 1 2 ∷ [])) ∷ entry 2 1 Answered
    ∷ entry 1 2 Answered ∷ entry 1 3 (Held 2) ∷ entry 1 3 (Committed (named 1 3 ∷ []) 10) ∷ entry 1 3 Answered
    ∷ entry 2 2 Answered ∷ entry 2 3 (Held 2) ∷ entry 2 3 (Committed (named 1 4 ∷ []) 20) ∷ entry 2 3 Answered ∷ []

abbrev makes_after : Standing
makes_after = record {
  state = store_with (version 3 made_tree ([] ∷ (2 ∷ []) ∷ []) ∷ version 4 (tree_after made_tree third_work_steps) ([] ∷ (3 ∷ []) ∷ []) ∷ []);
  clients =
      client_after (reply.Base (2 ∷ []) ∷ reply.Stepped Done ∷ reply.Committed (3 ∷ []) ∷ [])
      ∷ client_after (reply.Base (2 ∷ []) ∷ reply.Stepped Done ∷ reply.Committed (4 ∷ []) ∷ []) ∷ [];
  made = make_made ∷ record { object = 1; serial = 4; before = made_tree; steps = third_work_steps } ∷ [];
  upkeep = None;
  moment = 20;
  latest = 2;
}

pub makes_play : Plays makes_scripts (start (store_with []) makes_scripts) (play_order (1 ∷ 2 ∷ []) makes_scripts) makes_run makes_after
makes_play =
    then_plays (begin_line 1 1) (Began (named 1 2 ∷ [])) (lit≤ tt, lit≤ tt, refl, refl) (tt, refl, refl, refl) tt
    (then_answers (begin_line 1 1) (reply.Base (2 ∷ [])) (lit≤ tt, lit≤ tt, refl, refl) refl
    (then_plays (begin_line 1 1) (Began (named 1 2 ∷ [])) (lit≤ tt, lit≤ tt, refl, refl) (tt, refl, refl, refl) tt
    (then_answers (begin_line 1 1) (reply.Base (2 ∷ [])) (lit≤ tt, lit≤ tt, refl, refl) refl
    (then_answers (step_line 2 (MakeAt ([], 2))) (reply.Stepped Done) (lit≤ tt, lit≤ tt, refl, refl)
    (told two_pages Two two_listed [] (MakeAt ([], 2)))
    (one_holds (commit_line 3) make_work 2 make_work_writes (lit≤ tt, lit≤ tt, refl, refl) (refl, refl, refl) (lit≤ tt)
    (refl, none_made make_work, lit< tt)
    (one_commits (commit_line 3) make_work 2 make_work_writes 10 ([] ∷ (2 ∷ []) ∷ []) make_work_fresh (lit≤ tt, lit≤ tt, refl, refl)
    (refl, refl, refl) (refl, none_made make_work, lit< tt) (lit≤ tt)
    (then_answers (commit_line 3) (reply.Committed (3 ∷ [])) (lit≤ tt, lit≤ tt, refl, refl) refl
    (then_answers (step_line 2 (MakeAt ([], 3))) (reply.Stepped Done) (lit≤ tt, lit≤ tt, refl, refl)
    (told two_pages Two two_listed [] (MakeAt ([], 3)))
    (one_holds (commit_line 3) third_work 2 third_work_writes (lit≤ tt, lit≤ tt, refl, refl) (refl, refl, refl) (lit≤ tt)
    (refl, third_work_clear, lit< tt)
    (one_commits (commit_line 3) third_work 2 third_work_writes 20 ([] ∷ (3 ∷ []) ∷ []) third_work_fresh
    (lit≤ tt, lit≤ tt, refl, refl) (refl, refl, refl) (refl, third_work_clear, lit< tt) (lit≤ tt)
    (then_answers (commit_line 3) (reply.Committed (4 ∷ [])) (lit≤ tt, lit≤ tt, refl, refl) refl
    is_over)))))))))))

pub makes_complete : IsComplete makes_scripts makes_after
makes_complete = (refl, refl, (refl, refl, tt))

pub makes_printed : printed makes_scripts makes_after
    ≡ codes "1.1 base 2\n1.2 ok\n1.3 committed 3\n2.1 base 2\n2.2 ok\n2.3 committed 4\nfile 1: 1 2 3 4\nfile 2: 1\n"
unfolding digits
makes_printed = refl

-- the last version has both pages
pub makes_pages : pages_of (tree_after made_tree third_work_steps)
    ≡ ([], []) ∷ (0 ∷ [], []) ∷ (1 ∷ [], []) ∷ (2 ∷ [], []) ∷ (3 ∷ [], []) ∷ []
makes_pages = stepped_pages made_tree Made_pages made_listed third_work_steps
