-- Plays of what a client may not ask for now, and of a file that is pinned, removed and made again.
use Rattle.std.proofs.Common.{inr, List, [], ◌∷◌, ◌≡◌, None, refl, lit≤}
use Rattle.std.specs.Prelude.{codes}
use Rattle.std.specs.Fmt.{digits}
use Rattle.caps.specs.declared.denied.DeniedWhy.TheVariants.{NoObject}
use Rattle.script_text.specs.declared.command.Command.TheVariants as command
use Rattle.script_text.specs.declared.command.FileName.TheVariants.{Number}
use Rattle.script_text.specs.declared.reply.LineReply.TheVariants as reply
use Rattle.script_text.specs.declared.reply.LineRefusal.TheVariants as refusal
use Rattle.service_model.specs.declared.journal.Entry.{Entry}
use Rattle.service_model.specs.declared.journal.What.TheVariants.{Began, Held, GivenUp, Started, Created, Destroyed, Answered}
use Rattle.tree_model.specs.declared.step.Step.TheVariants.{ReadAt}
use Rattle.service_model.specs.Legal.{IsComplete}
use Rattle.service_model.specs.Order.{play_order}
use Rattle.service_model.specs.Print.{printed}
use Rattle.service_model.specs.Standing.{Scripts, Standing, start}
use Rattle.service_model.specs.Upkeep.{new_file}
use Rattle.service_model.proofs.Examples.{line, made_file, nothing, script, store, two_files}
use Rattle.service_model.proofs.Rows.{named}
use Rattle.service_model.proofs.Runs.{Plays, begin_line, client_after, entry, is_over, step_line, then_answers, then_plays}

-- ---- what a client may not ask for now

abbrev asked_scripts : Scripts
asked_scripts =
    script (
    step_line 1 (ReadAt [])
    ∷ begin_line 2 1
    ∷ begin_line 3 1
    ∷ line 4 command.Abandon
    ∷ line 5 (command.Super (Number 1 ∷ Number 1 ∷ []))
    ∷ line 6 (command.Super (Number 1 ∷ Number 9 ∷ [])) ∷ []
    ) ∷ []

abbrev asked_run : List Entry
asked_run =
    entry 1 1 Answered ∷ entry 1 2 (Began (named 1 1 ∷ [])) ∷ entry 1 2 Answered ∷ entry 1 3 Answered
    ∷ entry 1 4 GivenUp ∷ entry 1 4 Answered ∷ entry 1 5 Answered ∷ entry 1 6 Answered ∷ []

abbrev asked_after : Standing
asked_after = record {
  state = two_files;
  clients =
      client_after (reply.Refused refusal.Idle ∷ reply.Base (1 ∷ []) ∷ reply.Refused refusal.Open ∷ reply.Abandoned
      ∷ reply.Refused refusal.DeniedTwice ∷ reply.Refused (refusal.Denied (record { why = NoObject })) ∷ []) ∷ [];
  made = [];
  upkeep = None;
  moment = 0;
  latest = 1;
}

pub asked_play : Plays asked_scripts (start two_files asked_scripts) (play_order [] asked_scripts) asked_run asked_after
asked_play =
    then_answers (step_line 1 (ReadAt [])) (reply.Refused refusal.Idle) (lit≤ tt, lit≤ tt, refl, refl) refl
    (then_plays (begin_line 2 1) (Began (named 1 1 ∷ [])) (lit≤ tt, lit≤ tt, refl, refl) (tt, refl, refl, refl) tt
    (then_answers (begin_line 2 1) (reply.Base (1 ∷ [])) (lit≤ tt, lit≤ tt, refl, refl) refl
    (then_answers (begin_line 3 1) (reply.Refused refusal.Open) (lit≤ tt, lit≤ tt, refl, refl) refl
    (then_plays (line 4 command.Abandon) GivenUp (lit≤ tt, lit≤ tt, refl, refl) (refl, refl, refl) tt
    (then_answers (line 4 command.Abandon) (reply.Abandoned) (lit≤ tt, lit≤ tt, refl, refl) refl
    (then_answers (line 5 (command.Super (Number 1 ∷ Number 1 ∷ []))) (reply.Refused refusal.DeniedTwice) (lit≤ tt, lit≤ tt, refl, refl) refl
    (then_answers (line 6 (command.Super (Number 1 ∷ Number 9 ∷ []))) (reply.Refused (refusal.Denied (record { why = NoObject })))
    (lit≤ tt, lit≤ tt, refl, refl) refl
    is_over)))))))

pub asked_complete : IsComplete asked_scripts asked_after
asked_complete = (refl, refl, tt)

pub asked_printed : printed asked_scripts asked_after
    ≡ codes "1.1 idle\n1.2 base 1\n1.3 open\n1.4 abandoned\n1.5 denied twice\n1.6 denied object\nfile 1: 1\nfile 2: 1\n"
unfolding digits
asked_printed = refl

-- ---- a file with an open update is not removed

abbrev pinned_scripts : Scripts
pinned_scripts =
    script (
    begin_line 1 2
    ∷ line 2 command.Abandon ∷ []
    )
    ∷ script (
    line 1 (command.Destroy (Number 2)) ∷ []
    ) ∷ []

abbrev pinned_run : List Entry
pinned_run =
    entry 1 1 (Began (named 2 1 ∷ [])) ∷ entry 1 1 Answered ∷ entry 2 1 Answered ∷ entry 1 2 GivenUp
    ∷ entry 1 2 Answered ∷ []

abbrev pinned_after : Standing
pinned_after = record {
  state = two_files;
  clients =
      client_after (reply.Base (1 ∷ []) ∷ reply.Abandoned ∷ [])
      ∷ client_after (reply.Refused (refusal.Pinned 1) ∷ []) ∷ [];
  made = [];
  upkeep = None;
  moment = 0;
  latest = 1;
}

pub pinned_play : Plays pinned_scripts (start two_files pinned_scripts) (play_order (1 ∷ 2 ∷ []) pinned_scripts) pinned_run pinned_after
pinned_play =
    then_plays (begin_line 1 2) (Began (named 2 1 ∷ [])) (lit≤ tt, lit≤ tt, refl, refl) (tt, refl, refl, refl) tt
    (then_answers (begin_line 1 2) (reply.Base (1 ∷ [])) (lit≤ tt, lit≤ tt, refl, refl) refl
    (then_answers (line 1 (command.Destroy (Number 2))) (reply.Refused (refusal.Pinned 1)) (lit≤ tt, lit≤ tt, refl, refl) refl
    (then_plays (line 2 command.Abandon) GivenUp (lit≤ tt, lit≤ tt, refl, refl) (refl, refl, refl) tt
    (then_answers (line 2 command.Abandon) (reply.Abandoned) (lit≤ tt, lit≤ tt, refl, refl) refl
    is_over))))

pub pinned_complete : IsComplete pinned_scripts pinned_after
pinned_complete = (refl, refl, (refl, refl, tt))

pub pinned_printed : printed pinned_scripts pinned_after
    ≡ codes "1.1 base 1\n1.2 abandoned\n2.1 pinned 1\nfile 1: 1\nfile 2: 1\n"
unfolding digits
pinned_printed = refl

-- ---- a file is removed, and another one is made in its entry

abbrev remade_scripts : Scripts
remade_scripts =
    script (
    line 1 (command.Destroy (Number 2))
    ∷ line 2 command.Create
    ∷ begin_line 3 9 ∷ []
    ) ∷ []

abbrev remade_run : List Entry
remade_run =
    entry 1 1 Started ∷ entry 1 1 (Destroyed 2 1 10) ∷ entry 1 1 Answered ∷ entry 1 2 Started
    ∷ entry 1 2 (Held 1) ∷ entry 1 2 (Created 2 20) ∷ entry 1 2 Answered ∷ entry 1 3 Answered ∷ []

abbrev remade_after : Standing
remade_after = record {
  state = store 64 (made_file ∷ new_file 7 2 2 ∷ nothing ∷ []);
  clients =
      client_after (reply.Destroyed 1 ∷ reply.Created 2 None ∷ reply.Refused (refusal.Denied (record { why = NoObject })) ∷ []) ∷ [];
  made = [];
  upkeep = None;
  moment = 20;
  latest = 1;
}

pub remade_play : Plays remade_scripts (start two_files remade_scripts) (play_order [] remade_scripts) remade_run remade_after
remade_play =
    then_plays (line 1 (command.Destroy (Number 2))) Started (lit≤ tt, lit≤ tt, refl, refl) (tt, refl, refl) tt
    (then_plays (line 1 (command.Destroy (Number 2))) (Destroyed 2 1 10) (lit≤ tt, lit≤ tt, refl, refl)
    ((Number 2, refl, refl), refl, refl, refl, lit≤ tt) tt
    (then_answers (line 1 (command.Destroy (Number 2))) (reply.Destroyed 1) (lit≤ tt, lit≤ tt, refl, refl) refl
    (then_plays (line 2 command.Create) Started (lit≤ tt, lit≤ tt, refl, refl) (tt, refl, refl) tt
    (then_plays (line 2 command.Create) (Held 1) (lit≤ tt, lit≤ tt, refl, refl) (inr (refl, refl, refl, refl)) tt
    (then_plays (line 2 command.Create) (Created 2 20) (lit≤ tt, lit≤ tt, refl, refl) (refl, (1, refl), refl, lit≤ tt) tt
    (then_answers (line 2 command.Create) (reply.Created 2 None) (lit≤ tt, lit≤ tt, refl, refl) refl
    (then_answers (begin_line 3 9) (reply.Refused (refusal.Denied (record { why = NoObject }))) (lit≤ tt, lit≤ tt, refl, refl) refl
    is_over)))))))

pub remade_complete : IsComplete remade_scripts remade_after
remade_complete = (refl, refl, tt)

pub remade_printed : printed remade_scripts remade_after
    ≡ codes "1.1 destroyed 1\n1.2 created 2\n1.3 denied object\nfile 1: 1\nfile 2: 1\n"
unfolding digits
remade_printed = refl
