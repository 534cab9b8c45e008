-- Plays with an update of several files: it keeps others off, and its versions are made together.
use Rattle.std.proofs.Common.{◌≡◌, inl, ℕ, ◌+◌, ◌-◌, ◌^◌, ◌<◌, true, false, ◌||◌, cond, List, [], ◌∷◌, map, filter, length, sum_by, None, All, refl, sym, ap, ◌∙◌, subst, arith, lit<, lit≤}
use Rattle.std.specs.Prelude.{codes, if◌then◌else◌}
use Rattle.std.specs.Fmt.{digits}
use Rattle.std.proofs.lemmas.List.Elements.{All-nil, All-cons}
use Rattle.script_text.specs.declared.command.Command.TheVariants as command
use Rattle.script_text.specs.declared.command.FileName.TheVariants.{Number}
use Rattle.script_text.specs.declared.reply.LineReply.TheVariants as reply
use Rattle.script_text.specs.declared.reply.LineRefusal.TheVariants as refusal
use Rattle.service_model.specs.declared.journal.Entry.{Entry}
use Rattle.service_model.specs.declared.journal.Refusal.TheVariants as why
use Rattle.service_model.specs.declared.journal.What.TheVariants.{Began, Held, Committed, Refused, Answered}
use Rattle.tree_model.specs.declared.step.Step.{Step}
use Rattle.tree_model.specs.declared.step.Step.TheVariants.{WriteAt}
use Rattle.tree_model.specs.declared.step.Reply.TheVariants.{Done}
use Rattle.tree_model.specs.Accesses.{fresh_as_top}
use Rattle.tree_model.specs.States.{State}
use Rattle.tree_model.specs.Trees.{single}
use Rattle.service_model.specs.declared.named.Named.{Named}
use Rattle.service_model.specs.Entries.{next_version}
use Rattle.service_model.specs.Legal.{IsComplete}
use Rattle.service_model.specs.Order.{play_order}
use Rattle.service_model.specs.Print.{printed}
use Rattle.service_model.specs.Standing.{Scripts, Standing, Update, Work, has_writes, is_written, need, renewed_works, serial_of, start}
use Rattle.service_model.proofs.Examples.{line, made_file, script, store}
use Rattle.service_model.proofs.Rows.{named}
use Rattle.service_model.proofs.Pages.{Pages, single_pages}
use Rattle.service_model.proofs.Runs.{Plays, Writes, begin_line, client_after, commit_line, entry, freshens, has_some, is_over, step_line, then_answers, then_commits, then_holds, then_plays, then_refuses, told, update_of, version, work_of, wrote}

-- ---- two files are written together

abbrev two_files : State
two_files = store 64 (made_file ∷ made_file ∷ [])

abbrev write_a : List Step
write_a = WriteAt [] (170 ∷ []) ∷ []

abbrev write_b : List Step
write_b = WriteAt [] (187 ∷ []) ∷ []

abbrev write_c : List Step
write_c = WriteAt [] (204 ∷ []) ∷ []

abbrev Root : Pages
Root = ([], []) ∷ []

abbrev lone_work : Work
lone_work = work_of 2 1 single write_c

lone_writes : Writes lone_work 1
lone_writes = wrote 2 1 single Root single_pages write_c 1 refl refl

abbrev top_work : Work
top_work = work_of 1 1 single write_a

top_writes : Writes top_work 1
top_writes = wrote 1 1 single Root single_pages write_a 1 refl refl

abbrev member_work : Work
member_work = work_of 2 1 single write_b

member_writes : Writes member_work 1
member_writes = wrote 2 1 single Root single_pages write_b 1 refl refl

abbrev both_update : Update
both_update = record { works = top_work ∷ member_work ∷ []; is_super = true; picked = 1 }

both_some : has_writes both_update ≡ true
both_some = ap (λ b. b || (is_written member_work || false)) top_writes.written

both_renewed : renewed_works both_update ≡ top_work ∷ member_work ∷ []
both_renewed =
    ap (λ b. if b then top_work ∷ filter is_written (member_work ∷ []) else filter is_written both_update.works) both_some
    ∙ ap (λ b. top_work ∷ cond b (member_work ∷ []) []) member_writes.written

both_need : need both_update ≡ 2
both_need =
    let top = top_writes.fresh in
    let member = member_writes.fresh in
    ap (λ (ws : List Work). sum_by (λ (w : Work). length (fresh_as_top w.base w.steps)) ws) both_renewed ∙ omega (arith, top, member)

both_unworn : All (λ (w : Work). serial_of two_files w.object < 2 ^ 64 - 1) (top_work ∷ member_work ∷ [])
both_unworn =
    let F : Work → Type 0 = λ w. serial_of two_files w.object < 2 ^ 64 - 1 in
    All-cons F top_work (member_work ∷ []) (lit< tt) (All-cons F member_work [] (lit< tt) (All-nil F))

keeps_off : {A : Type 0} → true ≡ false → A
keeps_off wrong = absurd (cc wrong)

abbrev next_named : Work → Named
next_named w = named w.object (serial_of two_files w.object + 1)

-- ---- the play

abbrev together_scripts : Scripts
together_scripts =
    script (
    line 1 (command.Super (Number 1 ∷ Number 2 ∷ []))
    ∷ step_line 2 (WriteAt [] (170 ∷ []))
    ∷ line 3 (command.Pick 1)
    ∷ step_line 4 (WriteAt [] (187 ∷ []))
    ∷ commit_line 5 ∷ []
    )
    ∷ script (
    begin_line 1 2
    ∷ step_line 2 (WriteAt [] (204 ∷ []))
    ∷ commit_line 3 ∷ []
    ) ∷ []

abbrev together_run : List Entry
together_run =
    entry 2 1 (Began (named 2 1 ∷ [])) ∷ entry 2 1 Answered ∷ entry 2 2 Answered ∷ entry 1 1 (Began (named 1 1 ∷ named 2 1 ∷ []))
    ∷ entry 1 1 Answered ∷ entry 2 3 (Refused (why.Locked 1)) ∷ entry 2 3 Answered ∷ entry 1 2 Answered
    ∷ entry 1 3 Answered ∷ entry 1 4 Answered ∷ entry 1 5 (Held 2) ∷ entry 1 5 (Committed (named 1 2 ∷ named 2 2 ∷ []) 10)
    ∷ entry 1 5 Answered ∷ []

abbrev together_after : Standing
together_after = record {
  state = store 64 (
      record { generation = 1; secret = []; versions = version 1 single ([] ∷ []) ∷ next_version write_a (version 1 single ([] ∷ [])) ∷ [] }
      ∷ record { generation = 1; secret = []; versions = version 1 single ([] ∷ []) ∷ next_version write_b (version 1 single ([] ∷ [])) ∷ [] } ∷ []
      );
  clients =
      client_after (reply.Base (1 ∷ 1 ∷ []) ∷ reply.Stepped Done ∷ reply.Picked ∷ reply.Stepped Done ∷ reply.Committed (2 ∷ 2 ∷ []) ∷ [])
      ∷ client_after (reply.Base (1 ∷ []) ∷ reply.Stepped Done ∷ reply.Refused (refusal.Locked 1) ∷ []) ∷ [];
  made = record { object = 1; serial = 2; before = single; steps = write_a }
      ∷ record { object = 2; serial = 2; before = single; steps = write_b } ∷ [];
  upkeep = None;
  moment = 10;
  latest = 1;
}

pub together_play : Plays together_scripts (start two_files together_scripts) (play_order (2 ∷ 2 ∷ 1 ∷ 2
    ∷ []) together_scripts) together_run together_after
together_play =
    then_plays (begin_line 1 2) (Began (named 2 1 ∷ [])) (lit≤ tt, lit≤ tt, refl, refl) (tt, refl, refl, refl) tt
    (then_answers (begin_line 1 2) (reply.Base (1 ∷ [])) (lit≤ tt, lit≤ tt, refl, refl) refl
    (then_answers (step_line 2 (WriteAt [] (204 ∷ []))) (reply.Stepped Done) (lit≤ tt, lit≤ tt, refl, refl)
    (told single Root single_pages [] (WriteAt [] (204 ∷ [])))
    (then_plays (line 1 (command.Super (Number 1 ∷ Number 2 ∷ []))) (Began (named 1 1 ∷ named 2 1 ∷ []))
    (lit≤ tt, lit≤ tt, refl, refl) (tt, refl, refl, refl) tt
    (then_answers (line 1 (command.Super (Number 1 ∷ Number 2 ∷ []))) (reply.Base (1 ∷ 1 ∷ [])) (lit≤ tt, lit≤ tt, refl, refl) refl
    (then_refuses (commit_line 3) (update_of lone_work) (why.Locked 1) (lit≤ tt, lit≤ tt, refl, refl) refl refl (inl refl)
    (has_some lone_work 1 lone_writes) (lone_work, refl, refl, refl) tt
    (then_answers (commit_line 3) (reply.Refused (refusal.Locked 1)) (lit≤ tt, lit≤ tt, refl, refl) refl
    (then_answers (step_line 2 (WriteAt [] (170 ∷ []))) (reply.Stepped Done) (lit≤ tt, lit≤ tt, refl, refl)
    (told single Root single_pages [] (WriteAt [] (170 ∷ [])))
    (then_answers (line 3 (command.Pick 1)) (reply.Picked) (lit≤ tt, lit≤ tt, refl, refl) refl
    (then_answers (step_line 4 (WriteAt [] (187 ∷ []))) (reply.Stepped Done) (lit≤ tt, lit≤ tt, refl, refl)
    (told single Root single_pages [] (WriteAt [] (187 ∷ [])))
    (then_holds (commit_line 5) both_update 2 (lit≤ tt, lit≤ tt, refl, refl) refl refl refl both_some both_need (lit≤ tt) keeps_off
    (subst (λ (ws : List Work). All (λ (w : Work). serial_of two_files w.object < 2 ^ 64 - 1) ws) (sym both_renewed) both_unworn)
    (then_commits (commit_line 5) both_update (top_work ∷ member_work ∷ []) (named 1 2 ∷ named 2 2 ∷ []) 10
    (lit≤ tt, lit≤ tt, refl, refl) refl refl both_some both_renewed (record {
      held = ap (λ n. Held n ∷ [])
          (sym both_need);
      unopposed = keeps_off;
      unworn = (subst (λ (ws : List Work). All (λ
          (w : Work). serial_of two_files w.object < 2 ^ 64 - 1) ws) (sym both_renewed) both_unworn);
      versions = ap
          (map next_named) (sym both_renewed);
    }) (lit≤ tt)
    (then_answers (commit_line 5) (reply.Committed (2 ∷ 2 ∷ [])) (lit≤ tt, lit≤ tt, refl, refl) refl
    is_over))))))))))))

pub together_complete : IsComplete together_scripts together_after
together_complete = (refl, refl, (refl, refl, tt))

pub together_printed : printed together_scripts together_after
    ≡ codes "1.1 base 1 1\n1.2 ok\n1.3 ok\n1.4 ok\n1.5 committed 2 2\n2.1 base 1\n2.2 ok\n2.3 locked 1\nfile 1: 1 2\nfile 2: 1 2\n"
unfolding digits
together_printed = refl

-- ---- a member alone is written, the top gets a version too, and one block is free for both

abbrev small_files : State
small_files = store 4 (made_file ∷ made_file ∷ [])

abbrev idle_work : Work
idle_work = work_of 1 1 single []

abbrev member_update : Update
member_update = record { works = idle_work ∷ member_work ∷ []; is_super = true; picked = 1 }

member_some : has_writes member_update ≡ true
member_some = ap (λ b. b || false) member_writes.written

member_renewed : renewed_works member_update ≡ idle_work ∷ member_work ∷ []
member_renewed =
    ap (λ b. if b then idle_work ∷ filter is_written (member_work ∷ []) else filter is_written member_update.works) member_some
    ∙ ap (λ b. idle_work ∷ cond b (member_work ∷ []) []) member_writes.written

idle_fresh : length (fresh_as_top single []) ≡ 1
idle_fresh = ap (λ (ps : List (List ℕ)). length ps) (freshens single Root single_pages [])

member_need : need member_update ≡ 2
member_need =
    let top = idle_fresh in
    let member = member_writes.fresh in
    ap (λ (ws : List Work). sum_by (λ (w : Work). length (fresh_as_top w.base w.steps)) ws) member_renewed ∙ omega (arith, top, member)

member_unworn : All (λ (w : Work). serial_of small_files w.object < 2 ^ 64 - 1) (renewed_works member_update)
member_unworn =
    let F : Work → Type 0 = λ w. serial_of small_files w.object < 2 ^ 64 - 1 in
    subst (All F) (sym member_renewed) (All-cons F idle_work (member_work ∷ []) (lit< tt) (All-cons F member_work [] (lit< tt) (All-nil F)))

-- ---- the play

abbrev cramped_scripts : Scripts
cramped_scripts =
    script (
    line 1 (command.Super (Number 1 ∷ Number 2 ∷ []))
    ∷ line 2 (command.Pick 1)
    ∷ step_line 3 (WriteAt [] (187 ∷ []))
    ∷ commit_line 4 ∷ []
    ) ∷ []

abbrev cramped_run : List Entry
cramped_run =
    entry 1 1 (Began (named 1 1 ∷ named 2 1 ∷ [])) ∷ entry 1 1 Answered ∷ entry 1 2 Answered ∷ entry 1 3 Answered
    ∷ entry 1 4 (Refused (why.NoSpace 2 1)) ∷ entry 1 4 Answered ∷ []

abbrev cramped_after : Standing
cramped_after = record {
  state = small_files;
  clients =
      client_after (reply.Base (1 ∷ 1 ∷ []) ∷ reply.Picked ∷ reply.Stepped Done ∷ reply.Refused (refusal.NoSpace 2 1) ∷ []) ∷ [];
  made = [];
  upkeep = None;
  moment = 0;
  latest = 1;
}

pub cramped_play : Plays cramped_scripts (start small_files cramped_scripts) (play_order [] cramped_scripts) cramped_run cramped_after
cramped_play =
    then_plays (line 1 (command.Super (Number 1 ∷ Number 2 ∷ []))) (Began (named 1 1 ∷ named 2 1 ∷ []))
    (lit≤ tt, lit≤ tt, refl, refl) (tt, refl, refl, refl) tt
    (then_answers (line 1 (command.Super (Number 1 ∷ Number 2 ∷ []))) (reply.Base (1 ∷ 1 ∷ [])) (lit≤ tt, lit≤ tt, refl, refl) refl
    (then_answers (line 2 (command.Pick 1)) (reply.Picked) (lit≤ tt, lit≤ tt, refl, refl) refl
    (then_answers (step_line 3 (WriteAt [] (187 ∷ []))) (reply.Stepped Done) (lit≤ tt, lit≤ tt, refl, refl)
    (told single Root single_pages [] (WriteAt [] (187 ∷ [])))
    (then_refuses (commit_line 4) member_update (why.NoSpace 2 1) (lit≤ tt, lit≤ tt, refl, refl) refl refl (inl refl) member_some
    (refl, sym member_need, refl, lit< tt) (keeps_off, member_unworn)
    (then_answers (commit_line 4) (reply.Refused (refusal.NoSpace 2 1)) (lit≤ tt, lit≤ tt, refl, refl) refl
    is_over)))))

pub cramped_complete : IsComplete cramped_scripts cramped_after
cramped_complete = (refl, refl, tt)

pub cramped_printed : printed cramped_scripts cramped_after
    ≡ codes "1.1 base 1 1\n1.2 ok\n1.3 ok\n1.4 nospace 2 1\nfile 1: 1\nfile 2: 1\n"
unfolding digits
cramped_printed = refl
