-- What the code of a commit of one file knows, and what follows.
use Rattle.std.proofs.Common.{◌≡◌, ℕ, ◌+◌, ◌≤◌, ◌&&◌, ◌||◌, Bool, true, false, cond, not, nat_eq, List, [], ◌∷◌, ◌++◌, map, filter, length, Option, Some, None, refl, sym, ap, ◌∙◌, subst, arith, append-nil, eq-eqb, slice_get}
use Rattle.std.specs.Prelude.{IsSomeAnd, IsTrue, MatchBool, count_by, if◌then◌else◌, is_none, sum_by}
use Rattle.std.specs.List.{list_any}
use Rattle.std.specs.Option.{option_map_or}
use Rattle.std.proofs.lemmas.Bool.{or_parts}
use Rattle.std.proofs.lemmas.List.Sums.{sum_by-cons}
use Rattle.pair_store.specs.declared.store.Blocks.{Ghosts}
use Rattle.script_text.specs.declared.command.Command.{Command}
use Rattle.script_text.specs.declared.command.Command.TheVariants.{Commit}
use Rattle.script_text.specs.declared.reply.LineRefusal.TheVariants.{Idle}
use Rattle.script_text.specs.declared.reply.LineReply.TheVariants as reply
use Rattle.script_text.specs.declared.script.Line.{Line}
use Rattle.service_model.specs.declared.journal.Refusal.{Refusal}
use Rattle.service_model.specs.declared.journal.Refusal.TheVariants.{Conflict, Locked, NoSpace, Worn}
use Rattle.service_model.specs.declared.journal.What.{What}
use Rattle.service_model.specs.declared.journal.What.TheVariants as what
use Rattle.service_model.specs.declared.named.Named.{Named}
use Rattle.service_model.specs.Causes.{cause_of, first_cause, when}
use Rattle.service_model.specs.Entries.{after_what, committed_in, mode_of, news_by, news_of, noting, updated}
use Rattle.service_model.specs.Legal.{IsCommitOf, IsCommittable, IsLawful, IsLawfulWhat, IsRefusable}
use Rattle.service_model.specs.Replies.{reply_after, reply_at, serials_by}
use Rattle.service_model.specs.Standing.{Scripts, Standing, Client, Update, Work, client_of, has_writes, is_written, need, renewed_works, start, top_and_written}
use Rattle.service_model.proofs.Entering.{noted_clients}
use Rattle.tree_model.specs.Accesses.{Place, fresh_as_top, written_paths}
use Rattle.ground_model.specs.CommitFacts.{EmptyCommitIsNoted, IsCauseFor, IsOneWritten, MayCommitIs, MergedNeedIsTold, MergedWritesAreTold, MomentIsPast, NeedIsTold, NeedOfOne, OneIsRefused, RefusalIsLawful, WritesAreTold}
use Rattle.ground_model.specs.Fronts.{is_change}
use Rattle.ground_model.specs.Lines.{Becomes, IsAt, Notes, answering, in_line}
use Rattle.ground_model.proofs.CommitLines.{refusal_is_noted}
use Rattle.ground_model.proofs.LineKinds.{two_entries}
use Rattle.ground_model.proofs.Lines.{became, noted_lawful}
use Rattle.ground_model.proofs.LinkTurns.{moments_by}

-- ---- an update of one file

-- whether something was written is asked of its one file
pub written_of_one : (u : Update) (w : Work) → u.works ≡ w ∷ [] → has_writes u ≡ is_written w
written_of_one u w works = ap (list_any is_written) works ∙ or_false (is_written w)
  where
    or_false : (b : Bool) → (b || false) ≡ b
    or_false true = refl
    or_false false = refl

-- its one file gets a new version
pub renewed_one : (u : Update) (w : Work) → IsOneWritten u w → renewed_works u ≡ w ∷ []
renewed_one u w one =
    ap (λ b. if b && has_writes u then top_and_written u.works else filter is_written u.works) one.plain
    ∙ ap (filter is_written) one.works
    ∙ ap (λ b. cond b (w ∷ filter is_written []) (filter is_written [])) (sym (written_of_one u w one.works) ∙ one.writes)

pub need_of_one : NeedOfOne
need_of_one u w one =
    let sum : need u ≡ sum_by (λ (x : Work). length (fresh_as_top x.base x.steps)) (w ∷ []) =
    ap (sum_by (λ (x : Work). length (fresh_as_top x.base x.steps))) (renewed_one u w one) in
    let head : sum_by (λ (x : Work). length (fresh_as_top x.base x.steps)) (w ∷ []) ≡ length (fresh_as_top w.base w.steps) + 0 =
    sum_by-cons (λ (x : Work). length (fresh_as_top x.base x.steps)) w [] in
    omega (arith, sum, head)

pub need_is_told : NeedIsTold
need_is_told scene u w root d fresh one draft tells =
    ap (λ ps. length (written_paths ps)) (tells _ root w.base w.steps draft.stands) ∙ sym (need_of_one u w one)

pub merged_need_is_told : MergedNeedIsTold
merged_need_is_told scene u w upto root tree d fresh one merged tells =
    ap (λ ps. length (written_paths ps)) (tells _ root tree w.steps merged.stands ∙ merged.alike.fresh) ∙ sym (need_of_one u w one)

pub writes_are_told : WritesAreTold
writes_are_told scene u w root d told works draft tells = written_of_one u w works ∙ sym (tells _ root w.base w.steps draft.stands)

pub merged_writes_are_told : MergedWritesAreTold
merged_writes_are_told scene u w upto root tree d told works merged tells =
    written_of_one u w works ∙ sym (tells _ root tree w.steps merged.stands ∙ ap (λ (places : List Place). not (nat_eq (length places) 0)) merged.alike.writes)

-- ---- refusals

pub refusal_is_lawful : RefusalIsLawful
refusal_is_lawful mode s k u w why is cause = (
  refl,
  is.undecided,
  (let F : Option Update → Type 0 = λ o. IsSomeAnd o (λ v. IsTrue (has_writes v) × IsRefusable s k v why) in
      subst F (sym is.is_open) (is.one.writes, refusable why cause)),
)
  where
    refusable : (x : Refusal) → IsCauseFor s k u w x → IsRefusable s k u x
    refusable (Conflict serial path kind) h = (w, is.one.plain, is.one.works, h)
    refusable (Locked by) h = (w, is.one.plain, is.one.works, h)
    refusable (NoSpace needed blocks) h = h
    refusable Worn h = (w, 0, ap (λ (ws : List Work). slice_get ws 0) (renewed_one u w is.one), h)

pub one_is_refused : OneIsRefused
one_is_refused scripts s k line u w why at is cause =
    refusal_is_noted scripts s k line why at
    (let F : Command → Type 0 = λ c. IsLawfulWhat (mode_of scripts k) s k c (what.Refused why) in
    subst F (sym at.command) (refusal_is_lawful (mode_of scripts k) s k u w why is cause))

-- ---- commits

pub may_commit_is : MayCommitIs
may_commit_is scripts s k line u w at open_is one noted unlocked unworn = record {
  client = at.client;
  next = at.next;
  command = at.command;
  noted = noted;
  is_open = open_is;
  plain = one.plain;
  works = one.works;
  writes = one.writes;
  unlocked = unlocked;
  unworn = unworn;
}

pub moment_is_past : {D : Type 0} (b : Ghosts D) → MomentIsPast b
moment_is_past b opening scripts first scene store es st =
    subst (λ (s : Standing). s.moment ≤ b.moment store) st.reaches.leads (moments_by scripts (start opening scripts) es (b.moment store) (omega arith) st.past)

-- ---- a commit without writes

-- no file gets a new version where nothing was written
none_written : (ws : List Work) → list_any is_written ws ≡ false → filter is_written ws ≡ []
none_written [] h = refl
none_written (w ∷ ws) h =
    let both = or_parts (is_written w) (list_any is_written ws) h in
    ap (λ b. cond b (w ∷ filter is_written ws) (filter is_written ws)) both.0 ∙ none_written ws both.1

none_renewed : (u : Update) → has_writes u ≡ false → renewed_works u ≡ []
none_renewed u h =
    ap (λ b. if u.is_super && b then top_and_written u.works else filter is_written u.works) h
    ∙ ap (λ b. if b then top_and_written u.works else filter is_written u.works) (and_false u.is_super)
    ∙ none_written u.works h
  where
    and_false : (b : Bool) → (b && false) ≡ false
    and_false true = refl
    and_false false = refl

module _ (scripts : Scripts) (s : Standing) (k : ℕ) (line : Line) (u : Update) (at : ℕ) (here : IsAt scripts s k line) (command : line.command ≡ Commit) (open_is : (client_of s k).update ≡ Some u)
    (none : has_writes u ≡ false) (late : s.moment ≤ at) where
  abbrev over : Client
  over = noting (what.Committed [] at) (record (client_of s k) { held = 0 })

  abbrev gone : Standing
  gone = after_what (mode_of scripts k) s k line.command (what.Committed [] at)

  over_becomes : Becomes k over s gone
  over_becomes = record {
    clients = noted_clients s k (record (client_of s k) { held = 0 }) (what.Committed [] at) here.resting.client.low here.resting.client.high;
    state = ap (λ (o : Option Update). committed_in s.state (option_map_or renewed_works o [])) open_is ∙ ap (committed_in s.state) (none_renewed u none);
    made =
        ap (λ (o : Option Update). s.made ++ option_map_or (news_of s.state) o []) open_is
        ∙ ap (λ (ws : List Work). s.made ++ map (news_by s.state) ws) (none_renewed u none) ∙ append-nil s.made;
    upkeep = refl;
  }

  lawful : IsLawful scripts s (in_line k line (what.Committed [] at))
  lawful =
      let F : Option Update → Type 0 = λ o. IsSomeAnd o (λ v. IsCommitOf s k v []) in
      let G : Bool → Type 0 = λ b. MatchBool b (IsCommittable s k u []) (((client_of s k).noted ≡ []) × (let none : List Named = [] in none ≡ [])) in
      noted_lawful scripts s k line (what.Committed [] at) (record {
        client = here.resting.client;
        next = here.next;
        lawful = (command, subst F (sym open_is) (subst G (sym none) (here.resting.fresh, refl)), late);
      })

  over_now : client_of gone k ≡ over
  over_now = became s gone k over here.resting.client over_becomes

  over_why : cause_of gone k line.command ≡ None
  over_why =
      ap (cause_of gone k) command ∙ ap (λ (x : Client). first_cause (when (is_none x.update) Idle ∷ [])) over_now
      ∙ ap (λ (o : Option Update). first_cause (when (is_none o) Idle ∷ [])) open_is

  over_told : reply_at (mode_of scripts k) gone k line.command ≡ Some (reply.Committed (serials_by [] (Some u)))
  over_told =
      ap (λ (x : Client). reply_after (mode_of scripts k) gone k line.command x.noted) over_now
      ∙ ap (λ (noted : List What). reply_after (mode_of scripts k) gone k line.command (noted ++ what.Committed [] at ∷ [])) here.resting.fresh
      ∙ ap (λ (x : Client). Some (reply.Committed (serials_by [] x.update))) over_now
      ∙ ap (λ (o : Option Update). Some (reply.Committed (serials_by [] o))) open_is

  empty_commit_here : Notes scripts s k (in_line k line (what.Committed [] at) ∷ in_line k line what.Answered ∷ []) (answering (client_of s k) (reply.Committed (serials_by [] (Some u))) None)
  empty_commit_here =
      two_entries scripts s k line here.resting.client here.next here.resting.idle (what.Committed [] at) over lawful over_becomes refl
      (answering (client_of s k) (reply.Committed (serials_by [] (Some u))) None) None (reply.Committed (serials_by [] (Some u))) over_why over_told
      (ap (λ o. answering over (reply.Committed (serials_by [] (Some u))) o) (ap (λ c. updated c (client_of s k).update) command)
      ∙ ap (λ n. (let x : Client = record (client_of s k) { answers = (client_of s k).answers ++ reply.Committed (serials_by [] (Some u)) ∷ []; update = None; held = n; noted = [] } in x)) (sym here.resting.held))

pub empty_commit_is_noted : EmptyCommitIsNoted
empty_commit_is_noted scripts s k line u at here command open_is none late = (
  empty_commit_here scripts s k line u at here command open_is none late,
  record {
    moments = ap (λ b. b && (true && true)) (eq-eqb at at refl);
    one = (let n : count_by is_change (in_line k line (what.Committed [] at) ∷ in_line k line what.Answered ∷ []) ≡ 1 = refl in omega (arith, n));
  },
)
