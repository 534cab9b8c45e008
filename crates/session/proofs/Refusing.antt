-- For what a commit of one file may be refused, and when its blocks may be held.
use Rattle.std.proofs.Common.{◌≡◌, ℕ, zero, suc, ◌-◌, ◌<◌, ◌^◌, List, [], ◌∷◌, length, Option, Some, sym, ap, ◌∙◌, subst, arith}
use Rattle.std.specs.Prelude.{All, IfSome}
use Rattle.draft_model.specs.Told.{TellsFresh}
use Rattle.script_text.specs.ScriptValue.{ScriptValue}
use Rattle.script_text.specs.declared.command.Command.{Command}
use Rattle.script_text.specs.declared.script.Line.{Line}
use Rattle.service_model.specs.Entries.{mode_of}
use Rattle.service_model.specs.Legal.{AreUnworn, IsLawfulWhat, IsUnclashed, IsUnopposed}
use Rattle.service_model.specs.Order.{IfUpdate, IsDue, IsFirstOf}
use Rattle.service_model.specs.Sound.{IsSound}
use Rattle.service_model.specs.Standing.{Scripts, Update, Work, client_of, free, locked_by, need, serial_of as last_serial}
use Rattle.service_model.specs.declared.journal.Refusal.{Refusal}
use Rattle.service_model.specs.declared.journal.Refusal.TheVariants.{Locked, NoSpace, Worn}
use Rattle.service_model.specs.declared.journal.What.{What}
use Rattle.service_model.specs.declared.journal.What.TheVariants.{Held, Refused}
use Rattle.tree_model.specs.Accesses.{written_paths}
use Rattle.ground_model.specs.CommitFacts.{IsCauseFor}
use Rattle.ground_model.specs.Scenes.{Scene}
use Rattle.ground_model.proofs.CommitFacts.{merged_need_is_told, refusal_is_lawful, renewed_one}
use Rattle.store_model.proofs.Edits.{some_is}
use Rattle.session.specs.Answers.{IsRefusing}
use Rattle.session.specs.Own.{IsCommittingOf, IsDeciding, IsMerged, IsTaken}
use Rattle.session.specs.Safe.{line_of, serial_of, view_of}
use Rattle.session.specs.declared.course.Course.{Course}
use Rattle.session.proofs.Deciding.{one_written, unclashed, undecided_one, unopposed}

-- nothing was noted where no block is held
pub none_taken : (held : ℕ) (u : Update) (noted : List What) → held ≡ 0 → IsTaken held u noted → noted ≡ []
none_taken zero u noted none taken = taken
none_taken (suc n) u noted none taken = absurd (omega (arith, none))

-- and that they are, where some are held
pub some_taken : (held : ℕ) (u : Update) (noted : List What) → 0 < held → IsTaken held u noted → (noted ≡ Held (need u) ∷ []) × (held ≡ need u)
some_taken zero u noted some taken = absurd (omega (arith, some))
some_taken (suc n) u noted some (is, need_is) = (is ∙ ap (λ (m : ℕ). Held m ∷ []) need_is, need_is)

module _ (scripts : Scripts) (scene : Scene) (script : ScriptValue) (s : Course) (u : Update) (w : Work) (co : IsCommittingOf scripts scene script s u w) where
  -- what is so of its update is so where its client has one
  pub if_update : (P : Update → Type 0) → P u → IfUpdate scene.standing s.client P
  if_update P is = subst (λ (o : Option Update). IfSome o P) (sym co.is_open) is

  -- for each cause that stands its commit may be refused, where no earlier one does
  pub may_refuse : (why : Refusal) → IsCauseFor scene.standing s.client u w why → IsFirstOf scene.standing s.client u why → IsRefusing why scripts scene script s
  may_refuse why cause first = record {
    committing = record { update = u; work = w; committing = co };
    may = record { lawful = lawful; due = if_update (λ v. IsFirstOf scene.standing s.client v why) first };
  }
    where
      lawful : (line : Line) → line_of script s ≡ Some line → IsLawfulWhat (mode_of scripts s.client) scene.standing s.client line.command (Refused why)
      lawful line at =
          let same : co.line ≡ line = some_is (sym co.next ∙ at) in
          subst (λ (command : Command). IsLawfulWhat (mode_of scripts s.client) scene.standing s.client command (Refused why))
          (sym co.command ∙ ap (λ (x : Line). x.command) same)
          (refusal_is_lawful (mode_of scripts s.client) scene.standing s.client u w why (undecided_one scripts scene script s u w co) cause)

  -- a serial is left for its file
  pub unworn_all : last_serial scene.standing.state w.object < 2 ^ 64 - 1 → AreUnworn scene.standing.state u
  unworn_all low =
      subst (λ (ws : List Work). All (λ (x : Work). last_serial scene.standing.state x.object < 2 ^ 64 - 1) ws) (sym (renewed_one u w (one_written scripts scene script s u w co))) one
    where
      one : All (λ (x : Work). last_serial scene.standing.state x.object < 2 ^ 64 - 1) (w ∷ [])
      one zero d at = low
      one (suc k) d at = absurd (omega (arith, at))

module _ (scripts : Scripts) (scene : Scene) (script : ScriptValue) (s : Course) (d : IsDeciding scripts scene script s) (sound : IsSound scripts scene.standing) where
  abbrev m : IsMerged scripts scene script s
  m = d.open_to.merged

  pub unclashed_here : IsUnclashed scene.standing.made m.work
  unclashed_here = unclashed scripts scene script s m.update m.work m.committing _ m.tree (view_of s) (serial_of s) sound m.merged d.last

  pub unopposed_here : IsUnopposed scene.standing s.client m.update
  unopposed_here = unopposed scripts scene script s m.update m.work m.committing unclashed_here d.open_to.unlocked

  pub unworn_here : serial_of s < 2 ^ 64 - 1 → AreUnworn scene.standing.state m.update
  unworn_here low = unworn_all scripts scene script s m.update m.work m.committing (subst (λ n. n < 2 ^ 64 - 1) d.last low)

  pub held_is_due : serial_of s < 2 ^ 64 - 1 → (blocks : ℕ) → IsDue scene.standing s.client (Held blocks)
  held_is_due low blocks =
      if_update scripts scene script s m.update m.work m.committing (λ v. IsUnopposed scene.standing s.client v × AreUnworn scene.standing.state v) (unopposed_here, unworn_here low)

  pub worn_refuses : serial_of s ≡ 2 ^ 64 - 1 → IsRefusing Worn scripts scene script s
  worn_refuses last = may_refuse scripts scene script s m.update m.work m.committing Worn (sym d.last ∙ last) unopposed_here

  pub space_refuses : serial_of s < 2 ^ 64 - 1 → s.held ≡ 0 → (needed blocks : ℕ) → needed ≡ need m.update → blocks ≡ free scene.standing → blocks < needed
      → IsRefusing (NoSpace needed blocks) scripts scene script s
  space_refuses low none needed blocks is_need is_free less =
      may_refuse scripts scene script s m.update m.work m.committing (NoSpace needed blocks)
      (none_taken s.held m.update (client_of scene.standing s.client).noted none m.committing.taken, is_need, is_free, less) (unopposed_here, unworn_here low)

  -- how many blocks it needs
  pub needed_here : (fresh : List (List ℕ)) → TellsFresh (view_of s) fresh → length (written_paths fresh) ≡ need m.update
  needed_here fresh tells =
      merged_need_is_told scene m.update m.work (serial_of s) _ m.tree (view_of s) fresh (one_written scripts scene script s m.update m.work m.committing) m.merged tells

-- another client has its file locked
pub lock_refuses : (scripts : Scripts) (scene : Scene) (script : ScriptValue) (s : Course) (h : IsMerged scripts scene script s) (by : ℕ)
    → locked_by scene.standing s.client h.work.object ≡ Some by → IsRefusing (Locked by) scripts scene script s
lock_refuses scripts scene script s h by is = may_refuse scripts scene script s h.update h.work h.committing (Locked by) is tt
