-- Runs of play, entry by entry: each entry is lawful and due where it comes, and where it leads.
use Rattle.std.proofs.Common.{◌≡◌, inl, inr, ℕ, ◌+◌, ◌-◌, ◌^◌, ◌<◌, ◌≤◌, Bool, true, false, not, ◌||◌, ◌==◌, cond, sum_by, All, arith, option_and_then, List, [], ◌∷◌, ◌++◌, map, length, Option, Some, None, IfSome, IsSomeAnd, IsTrue, MatchBool, option_to_list, refl, sym, ap, ◌∙◌, subst}
use Rattle.std.specs.Prelude.{is_some, slice_set, if◌then◌else◌}
use Rattle.std.specs.FinMap as finite
use Rattle.std.specs.Option.{option_map_or}
use Rattle.std.proofs.lemmas.List.Elements.{All-nil, All-cons}
use Rattle.afs_base.specs.declared.kind.Kind.{Kind}
use Rattle.script_text.specs.declared.command.Command.{Command}
use Rattle.script_text.specs.declared.command.Command.TheVariants.{Commit}
use Rattle.script_text.specs.declared.command.Command.TheVariants as command
use Rattle.script_text.specs.declared.command.FileName.TheVariants.{Number}
use Rattle.script_text.specs.declared.script.Line.{Line}
use Rattle.script_text.specs.declared.reply.LineReply.{LineReply}
use Rattle.script_text.specs.declared.reply.LineReply.TheVariants as reply
use Rattle.script_text.specs.declared.script.Mode.{Mode}
use Rattle.service_model.specs.declared.journal.Entry.{Entry}
use Rattle.service_model.specs.declared.journal.Refusal.{Refusal}
use Rattle.service_model.specs.declared.journal.Refusal.TheVariants as why
use Rattle.service_model.specs.declared.journal.What.{What}
use Rattle.service_model.specs.declared.journal.What.TheVariants.{Held, Committed, Refused, Answered}
use Rattle.service_model.specs.declared.named.Named.{Named}
use Rattle.tree_model.specs.declared.step.Step.{Step}
use Rattle.tree_model.specs.Accesses.{Place, IsClash, all_writes, fresh_as_top, reads_of, visible_of}
use Rattle.tree_model.specs.States.{State, File, Version, file_of, last_version}
use Rattle.tree_model.specs.Trees.{Tree, reply_of, tree_after}
use Rattle.service_model.specs.Causes.{cause_of}
use Rattle.service_model.specs.Entries.{after_end, after_entries, after_entry, after_what, committed_in, is_answer, mode_of, news_by, news_of, next_version, noting, on_file, updated, upkeep_of_others, with_file, with_next}
use Rattle.service_model.specs.Legal.{AreUnworn, IsAtEnd, IsCommitOf, IsCommittable, IsFirstClash, IsHoldable, IsLater, IsLawful, IsLawfulWhat, IsLegalFrom, IsRefusable, IsUnclashed, IsUndecided, IsUnopposed, IsUnreadOf}
use Rattle.service_model.specs.Order.{Turn, IsDue, IsFirstOf, IsInOrder}
use Rattle.service_model.specs.Replies.{reply_at}
use Rattle.service_model.specs.Standing.{Scripts, Standing, Client, Made, Update, Work, client_of, free, has_writes, is_written, last_tree, locked_by, need, next_line, renewed_works, serial_of, with_client}
use Rattle.service_model.proofs.Clashes.{clash_is}
use Rattle.service_model.proofs.Pages.{Pages, all_writes_are, all_writes_in, clash_by, clash_of, fresh_are, fresh_in, pages_of, reply_by, reply_in, steps_are, steps_in}

-- ---- entry by entry

-- from s these entries are legal, follow an order, and lead to t
pub record Plays (scripts : Scripts) (s : Standing) (order : List Turn) (es : List Entry) (t : Standing) : Type 0 where
  pub legal : IsLegalFrom scripts s es
  pub ordered : IsInOrder scripts s order es
  pub leads : after_entries scripts s es ≡ t

pub is_over : {scripts : Scripts} {s : Standing} → Plays scripts s [] [] s
is_over = record { legal = tt; ordered = refl; leads = refl }

-- an entry of the line that is answered next, and then the rest
goes_on : {scripts : Scripts} {s t u : Standing} {turn : Turn} {order : List Turn} {e : Entry} {es : List Entry}
    → e.client ≡ turn.client → e.line ≡ turn.line → IsLawful scripts s e → IsDue s e.client e.what → after_entry scripts s e ≡ t
    → Plays scripts t (if is_answer e.what then order else turn ∷ order) es u → Plays scripts s (turn ∷ order) (e ∷ es) u
goes_on {scripts} {s} {t} {u} {turn} {order} {e} {es} client line lawful due leads rest = record {
  legal = (lawful, (let F : Standing → Type 0 = λ x. IsLegalFrom scripts x es in subst F (sym leads) rest.legal));
  ordered =
      let F : Standing → Type 0 = λ x. IsInOrder scripts x (if is_answer e.what then order else turn ∷ order) es in
      inl ((client, line, due), subst F (sym leads) rest.ordered);
  leads = ap (λ x. after_entries scripts x es) leads ∙ rest.leads;
}

-- an update that is open at a script's end is given up before the next line
pub then_ends : {scripts : Scripts} {s t u : Standing} {turn : Turn} {order : List Turn} {e : Entry} {es : List Entry}
    → 1 ≤ e.client → e.client ≤ length s.clients → IsAtEnd scripts s e → after_entry scripts s e ≡ t
    → Plays scripts t (turn ∷ order) es u → Plays scripts s (turn ∷ order) (e ∷ es) u
then_ends {scripts} {s} {t} {u} {turn} {order} {e} {es} low high ends leads rest = record {
  legal = ((low, high, inr ends), (let F : Standing → Type 0 = λ x. IsLegalFrom scripts x es in subst F (sym leads) rest.legal));
  ordered =
      let F : Standing → Type 0 = λ x. IsInOrder scripts x (turn ∷ order) es in
      inr (ends, subst F (sym leads) rest.ordered);
  leads = ap (λ x. after_entries scripts x es) leads ∙ rest.leads;
}

-- and so after the last line
pub last_ends : {scripts : Scripts} {s t : Standing} {e : Entry}
    → 1 ≤ e.client → e.client ≤ length s.clients → IsAtEnd scripts s e → after_entry scripts s e ≡ t → Plays scripts s [] (e ∷ []) t
last_ends {scripts} {s} {t} {e} low high ends leads = record {
  legal = ((low, high, inr ends), tt);
  ordered = (ends, refl);
  leads = leads;
}

-- ---- where an entry leads

-- what stands after a commit that renews these files
abbrev pub committed_by : Standing → ℕ → List Named → ℕ → List Work → Standing
committed_by s k made at ws = record s {
  state = committed_in s.state ws;
  clients =
      slice_set (slice_set s.clients (k - 1) (record (client_of s k) { held = 0 })) (k - 1)
      (noting (Committed made at) (client_of (with_client s k (record (client_of s k) { held = 0 })) k));
  made = s.made ++ map (news_by s.state) ws;
  moment = at;
  latest = k;
}

-- what stands after a line is answered so
abbrev pub answered_by : Standing → ℕ → Command → LineReply → Standing
answered_by s k command reply = record (with_client s k (record {
  answers = (client_of s k).answers ++ reply ∷ [];
  update = if is_some (cause_of s k command) then (client_of s k).update else updated command (client_of s k).update;
  held = (client_of s k).held;
  noted = [];
})) { upkeep = upkeep_of_others k s.upkeep; latest = k }

-- a commit that renews these files
pub commit_leads : (mode : Mode) (s : Standing) (k : ℕ) (command : Command) (made : List Named) (at : ℕ) (u : Update) (ws : List Work)
    → (client_of s k).update ≡ Some u → renewed_works u ≡ ws
    → after_what mode s k command (Committed made at) ≡ committed_by s k made at ws
commit_leads mode s k command made at u ws is renews =
    ap (λ (o : Option Update). by (option_map_or renewed_works o []) (option_map_or (news_of s.state) o [])) is
    ∙ ap (λ xs. by xs (map (news_by s.state) xs)) renews
  where
    by : List Work → List Made → Standing
    by xs news = record s {
      state = committed_in s.state xs;
      clients =
          slice_set (slice_set s.clients (k - 1) (record (client_of s k) { held = 0 })) (k - 1)
          (noting (Committed made at) (client_of (with_client s k (record (client_of s k) { held = 0 })) k));
      made = s.made ++ news;
      moment = at;
      latest = k;
    }

-- the answer of a line
pub answer_leads : (mode : Mode) (s : Standing) (k : ℕ) (command : Command) (reply : LineReply) → reply_at mode s k command ≡ Some reply
    → after_what mode s k command Answered ≡ answered_by s k command reply
answer_leads mode s k command reply told =
    ap (λ (o : Option LineReply). record (with_client s k (record {
      answers = (client_of s k).answers ++ option_to_list o;
      update = if is_some (cause_of s k command) then (client_of s k).update else updated command (client_of s k).update;
      held = (client_of s k).held;
      noted = [];
    })) { upkeep = upkeep_of_others k s.upkeep; latest = k }) told

-- ---- kinds of entries

abbrev pub turn : ℕ → ℕ → Turn
turn k n = record { client = k; line = n }

abbrev pub entry : ℕ → ℕ → What → Entry
entry k n what = record { client = k; line = n; what = what }

-- it is client k's line, and has this number
abbrev pub IsOwn : Scripts → Standing → ℕ → ℕ → Line → Type 0
IsOwn scripts s k n own = (1 ≤ k) × (k ≤ length s.clients) × (next_line scripts s k ≡ Some own) × (n ≡ own.number)

leads_by : (scripts : Scripts) (s : Standing) (k n : ℕ) (own : Line) (what : What) → IsOwn scripts s k n own
    → after_entry scripts s (entry k n what) ≡ after_what (mode_of scripts k) s k own.command what
leads_by scripts s k n own what is =
    ap (λ o. option_map_or (λ (line : Line). after_what (mode_of scripts k) s k line.command what) o (after_end s k)) is.2

module _ {scripts : Scripts} {s u : Standing} {order : List Turn} {es : List Entry} {k n : ℕ} (own : Line) where
  -- an entry of the line that is answered next, and then the rest
  pub then_plays : (what : What) → IsOwn scripts s k n own → IsLawfulWhat (mode_of scripts k) s k own.command what → IsDue s k what
      → Plays scripts (after_what (mode_of scripts k) s k own.command what) (if is_answer what then order else turn k n ∷ order) es u
      → Plays scripts s (turn k n ∷ order) (entry k n what ∷ es) u
  then_plays what is lawful due rest =
      goes_on refl refl (is.0, is.1, inl (own, is.2, is.3, lawful)) due (leads_by scripts s k n own what is) rest

  -- the line is answered so
  pub then_answers : (reply : LineReply) → IsOwn scripts s k n own → reply_at (mode_of scripts k) s k own.command ≡ Some reply
      → Plays scripts (answered_by s k own.command reply) order es u → Plays scripts s (turn k n ∷ order) (entry k n Answered ∷ es) u
  then_answers reply is told rest =
      goes_on refl refl (is.0, is.1, inl (own, is.2, is.3, ap is_some told)) tt
      (leads_by scripts s k n own Answered is ∙ answer_leads (mode_of scripts k) s k own.command reply told) rest

  -- as many blocks as an update needs are held for its commit
  pub then_holds : (x : Update) (blocks : ℕ) → IsOwn scripts s k n own → own.command ≡ Commit → (client_of s k).update ≡ Some x → (client_of s k).noted ≡ []
      → has_writes x ≡ true → need x ≡ blocks → blocks ≤ free s → IsUnopposed s k x → AreUnworn s.state x
      → Plays scripts (after_what (mode_of scripts k) s k own.command (Held blocks)) (turn k n ∷ order) es u
      → Plays scripts s (turn k n ∷ order) (entry k n (Held blocks) ∷ es) u
  then_holds x blocks is commits open_is first some needs room clear unworn rest =
      let F : Option Update → Type 0 = λ o. IsSomeAnd o (λ y. IsHoldable s k y blocks) in
      let G : Option Update → Type 0 = λ o. IfSome o (λ y. IsUnopposed s k y × AreUnworn s.state y) in
      then_plays (Held blocks) is
      (inl (commits, subst F (sym open_is) (record { first = first; writes = some; needed = sym needs; room = room })))
      (subst G (sym open_is) (clear, unworn)) rest

  -- a commit makes these versions, of these files
  pub then_commits : (x : Update) (ws : List Work) (made : List Named) (at : ℕ) → IsOwn scripts s k n own → own.command ≡ Commit
      → (client_of s k).update ≡ Some x → has_writes x ≡ true → renewed_works x ≡ ws → IsCommittable s k x made → s.moment ≤ at
      → Plays scripts (committed_by s k made at ws) (turn k n ∷ order) es u
      → Plays scripts s (turn k n ∷ order) (entry k n (Committed made at) ∷ es) u
  then_commits x ws made at is commits open_is some renews may later rest =
      let F : Option Update → Type 0 = λ o. IsSomeAnd o (λ y. IsCommitOf s k y made) in
      let G : Bool → Type 0 = λ b. MatchBool b (IsCommittable s k x made) (((client_of s k).noted ≡ []) × (made ≡ [])) in
      goes_on refl refl (is.0, is.1, inl (own, is.2, is.3, (commits, subst F (sym open_is) (subst G (sym some) may), later))) tt
      (leads_by scripts s k n own (Committed made at) is ∙ commit_leads (mode_of scripts k) s k own.command made at x ws open_is renews) rest

  -- a commit is refused
  pub then_refuses : (x : Update) (why : Refusal) → IsOwn scripts s k n own → own.command ≡ Commit → (client_of s k).update ≡ Some x
      → IsUndecided (client_of s k).noted → has_writes x ≡ true → IsRefusable s k x why → IsFirstOf s k x why
      → Plays scripts (after_what (mode_of scripts k) s k own.command (Refused why)) (turn k n ∷ order) es u
      → Plays scripts s (turn k n ∷ order) (entry k n (Refused why) ∷ es) u
  then_refuses x why is commits open_is undecided some may first rest =
      let F : Option Update → Type 0 = λ o. IsSomeAnd o (λ y. IsTrue (has_writes y) × IsRefusable s k y why) in
      let G : Option Update → Type 0 = λ o. IfSome o (λ y. IsFirstOf s k y why) in
      then_plays (Refused why) is (commits, undecided, subst F (sym open_is) (some, may)) (subst G (sym open_is) first) rest

-- ---- the version that a commit makes, with these fresh paths

abbrev pub version : ℕ → Tree → List (List ℕ) → Version
version serial tree fresh = record { serial = serial; tree = tree; fresh = fresh }

-- a file with one more version
abbrev pub with_fresh : List (List ℕ) → List Step → File → File
with_fresh paths steps file =
    record file {
      versions =
          file.versions ++ map (λ (v : Version). version (v.serial + 1) (tree_after v.tree steps) paths) (option_to_list (last_version file));
    }

pub fresh_file : (state : State) (object : ℕ) (steps : List Step) (paths : List (List ℕ)) → fresh_as_top (last_tree state object) steps ≡ paths
    → on_file state object (with_next steps) ≡ on_file state object (with_fresh paths steps)
fresh_file state object steps paths is = by (file_of state object) refl
  where
    here : (file : File) → file_of state object ≡ Some file → (o : Option Version) → last_version file ≡ o → with_next steps file ≡ with_fresh paths steps file
    here file e None l =
        ap (λ o. (let x : File = record file { versions = file.versions ++ map (next_version steps) (option_to_list o) } in x)) l
        ∙ sym (ap (λ o. (let x : File
        = record file {
          versions =
              file.versions ++ map (λ (v : Version). version (v.serial + 1) (tree_after v.tree steps) paths) (option_to_list o);
        } in x)) l)
    here file e (Some v) l =
        let tree : last_tree state object ≡ v.tree
        = ap (λ o. option_map_or (λ (x : Version). x.tree) (option_and_then last_version o) finite.empty) e
        ∙ ap (λ o. option_map_or (λ (x : Version). x.tree) o finite.empty) l in
        ap (λ o. (let x : File = record file { versions = file.versions ++ map (next_version steps) (option_to_list o) } in x)) l
        ∙ ap (λ ps. (let x : File = record file { versions = file.versions ++ version (v.serial + 1) (tree_after v.tree steps) ps ∷ [] } in x))
        (ap (λ t. fresh_as_top t steps) (sym tree) ∙ is)
        ∙ sym (ap (λ o. (let x : File
        = record file {
          versions =
              file.versions ++ map (λ (y : Version). version (y.serial + 1) (tree_after y.tree steps) paths) (option_to_list o);
        } in x)) l)

    by : (o : Option File) → file_of state object ≡ o → on_file state object (with_next steps) ≡ on_file state object (with_fresh paths steps)
    by None e =
        ap (λ o. option_map_or (λ f. with_file state object (with_next steps f)) o state) e
        ∙ sym (ap (λ o. option_map_or (λ f. with_file state object (with_fresh paths steps f)) o state) e)
    by (Some file) e =
        ap (λ o. option_map_or (λ f. with_file state object (with_next steps f)) o state) e
        ∙ ap (with_file state object) (here file e (last_version file) refl)
        ∙ sym (ap (λ o. option_map_or (λ f. with_file state object (with_fresh paths steps f)) o state) e)

-- what stands after a commit of one file that leads to this state
abbrev pub renewed_by : Standing → ℕ → ℕ → Work → List (List ℕ) → State → Standing
renewed_by s k at w paths state = record s {
  state = state;
  clients =
      slice_set (slice_set s.clients (k - 1) (record (client_of s k) { held = 0 })) (k - 1)
      (noting (Committed (record { object = w.object; serial = serial_of s.state w.object + 1 } ∷ []) at)
      (client_of (with_client s k (record (client_of s k) { held = 0 })) k));
  made = s.made ++ news_by s.state w ∷ [];
  moment = at;
  latest = k;
}

-- ---- commits of an update of one file

-- an update of one file, with all rights to it
abbrev pub work_of : ℕ → ℕ → Tree → List Step → Work
work_of object serial base steps = record { object = object; serial = serial; base = base; rights = 7; steps = steps }

abbrev pub update_of : Work → Update
update_of w = record { works = w ∷ []; is_super = false; picked = 0 }

-- it wrote something, and takes so many blocks
pub record Writes (w : Work) (blocks : ℕ) : Type 0 where
  pub written : is_written w ≡ true
  pub fresh : length (fresh_as_top w.base w.steps) ≡ blocks

module _ (w : Work) (blocks : ℕ) (is : Writes w blocks) where
  pub has_some : has_writes (update_of w) ≡ true
  has_some = ap (λ b. b || false) is.written

  pub renews : renewed_works (update_of w) ≡ w ∷ []
  renews = ap (λ b. cond b (w ∷ []) []) is.written

  pub needs : need (update_of w) ≡ blocks
  needs =
      let n = is.fresh in
      ap (λ (ws : List Work). sum_by (λ (x : Work). length (fresh_as_top x.base x.steps)) ws) renews ∙ omega (arith, n)

-- the line is the commit of an update, of which this was noted
abbrev pub IsCommitting : Standing → ℕ → Line → Update → List What → Type 0
IsCommitting s k own x noted = (own.command ≡ Commit) × ((client_of s k).update ≡ Some x) × ((client_of s k).noted ≡ noted)

-- nothing stands against the commit of an update of one file
abbrev pub IsClear : Standing → ℕ → Work → Type 0
IsClear s k w = (locked_by s k w.object ≡ None) × IsUnclashed s.made w × (serial_of s.state w.object < 2 ^ 64 - 1)

clear_of_locks : (s : Standing) (k : ℕ) (w : Work) → IsClear s k w → IsUnopposed s k (update_of w)
clear_of_locks s k w clear = λ plain.
    All-cons (λ (x : Work). (locked_by s k x.object ≡ None) × IsUnclashed s.made x) w [] (clear.0, clear.1)
    (All-nil (λ (x : Work). (locked_by s k x.object ≡ None) × IsUnclashed s.made x))

not_worn : (s : Standing) (k : ℕ) (w : Work) (blocks : ℕ) → Writes w blocks → IsClear s k w → AreUnworn s.state (update_of w)
not_worn s k w blocks is clear =
    let F : List Work → Type 0 = λ ws. All (λ (x : Work). serial_of s.state x.object < 2 ^ 64 - 1) ws in
    subst F (sym (renews w blocks is))
    (All-cons (λ (x : Work). serial_of s.state x.object < 2 ^ 64 - 1) w [] clear.2
    (All-nil (λ (x : Work). serial_of s.state x.object < 2 ^ 64 - 1)))

module _ {scripts : Scripts} {s u : Standing} {order : List Turn} {es : List Entry} {k n : ℕ} (own : Line) (w : Work) (blocks : ℕ) (writes : Writes w blocks) where
  -- its blocks are held
  pub one_holds : IsOwn scripts s k n own → IsCommitting s k own (update_of w) [] → blocks ≤ free s → IsClear s k w
      → Plays scripts (after_what (mode_of scripts k) s k own.command (Held blocks)) (turn k n ∷ order) es u
      → Plays scripts s (turn k n ∷ order) (entry k n (Held blocks) ∷ es) u
  one_holds is commits room clear rest =
      then_holds own (update_of w) blocks is commits.0 commits.1 commits.2 (has_some w blocks writes) (needs w blocks writes) room
      (clear_of_locks s k w clear) (not_worn s k w blocks writes clear) rest

  -- it is committed, and these paths are fresh in the new version
  pub one_commits : (at : ℕ) (paths : List (List ℕ)) → fresh_as_top (last_tree s.state w.object) w.steps ≡ paths
      → IsOwn scripts s k n own → IsCommitting s k own (update_of w) (Held blocks ∷ []) → IsClear s k w → s.moment ≤ at
      → Plays scripts (renewed_by s k at w paths (on_file s.state w.object (with_fresh paths w.steps))) (turn k n ∷ order) es u
      → Plays scripts s (turn k n ∷ order)
      (entry k n (Committed (record { object = w.object; serial = serial_of s.state w.object + 1 } ∷ []) at) ∷ es) u
  one_commits at paths fresh is commits clear later rest =
      let F : State → Type 0 = λ x. Plays scripts (renewed_by s k at w paths x) (turn k n ∷ order) es u in
      then_commits own (update_of w) (w ∷ []) (record { object = w.object; serial = serial_of s.state w.object + 1 } ∷ []) at is commits.0 commits.1
      (has_some w blocks writes) (renews w blocks writes)
      (record {
        held = commits.2 ∙ ap (λ m. Held m ∷ []) (sym (needs w blocks writes));
        unopposed = clear_of_locks s k w clear;
        unworn = not_worn s k w blocks writes clear;
        versions =
            ap (λ (ws : List Work). map (λ (x : Work). (let y : Named = record { object = x.object; serial = serial_of s.state x.object + 1 } in y)) ws)
            (sym (renews w blocks writes));
      }) later (subst F (sym (fresh_file s.state w.object w.steps paths fresh)) rest)

  -- it is refused, since fewer blocks are free
  pub one_lacks : (most : ℕ) → IsOwn scripts s k n own → IsCommitting s k own (update_of w) [] → most ≡ free s → most < blocks → IsClear s k w
      → Plays scripts (after_what (mode_of scripts k) s k own.command (Refused (why.NoSpace blocks most))) (turn k n ∷ order) es u
      → Plays scripts s (turn k n ∷ order) (entry k n (Refused (why.NoSpace blocks most)) ∷ es) u
  one_lacks most is commits all few clear rest =
      then_refuses own (update_of w) (why.NoSpace blocks most) is commits.0 commits.1 (inl commits.2) (has_some w blocks writes)
      (commits.2, sym (needs w blocks writes), all, few) (clear_of_locks s k w clear, not_worn s k w blocks writes clear) rest

  -- it is refused for the clash with the only version that was made
  pub one_clashes : (m : Made) (serial : ℕ) (path : List ℕ) (kind : Kind) → IsOwn scripts s k n own → IsCommitting s k own (update_of w) []
      → locked_by s k w.object ≡ None → s.made ≡ m ∷ [] → IsLater w m → m.serial ≡ serial
      → IsClash (reads_of w.base w.steps) (visible_of m.before m.steps) (Some (path, kind))
      → Plays scripts (after_what (mode_of scripts k) s k own.command (Refused (why.Conflict serial path kind))) (turn k n ∷ order) es u
      → Plays scripts s (turn k n ∷ order) (entry k n (Refused (why.Conflict serial path kind)) ∷ es) u
  one_clashes m serial path kind is commits free_of made later same clash rest =
      let Earlier : Made → Type 0 = λ x. IsLater w x → x.serial < serial → IsUnreadOf w x in
      let F : List Made → Type 0 = λ list. IsFirstClash list w serial (path, kind) in
      then_refuses own (update_of w) (why.Conflict serial path kind) is commits.0 commits.1 (inl commits.2) (has_some w blocks writes) (
        w,
        refl,
        refl,
        subst F (sym made)
            ((m, 0, refl, later, same, clash), All-cons Earlier m [] (λ l lt. absurd (omega (arith, lt, same))) (All-nil Earlier)),
      )
      (λ plain. All-cons (λ (x : Work). locked_by s k x.object ≡ None) w [] free_of (All-nil (λ (x : Work). locked_by s k x.object ≡ None)))
      rest

-- no version was made
pub none_made : (w : Work) → IsUnclashed [] w
none_made w = All-nil (λ (m : Made). IsLater w m → IsUnreadOf w m)

-- the first version that was made is not later than the base
pub earlier_made : (w : Work) (m : Made) (ms : List Made) → m.serial ≤ w.serial → IsUnclashed ms w → IsUnclashed (m ∷ ms) w
earlier_made w m ms low rest =
    All-cons (λ (x : Made). IsLater w x → IsUnreadOf w x) m ms (λ later. (let after = later.1 in absurd (omega (arith, low, after)))) rest

-- of the versions that were made the first one was not made after the base, or wrote nothing that was read
pub and_made : (w : Work) (m : Made) (ms : List Made) → (IsLater w m → IsUnreadOf w m) → IsUnclashed ms w → IsUnclashed (m ∷ ms) w
and_made w m ms unread rest = All-cons (λ (x : Made). IsLater w x → IsUnreadOf w x) m ms unread rest

-- ---- steps on a tree with these pages

module _ (t : Tree) (pages : Pages) (is : pages_of t ≡ pages) where
  pub stepped_pages : (steps : List Step) → pages_of (tree_after t steps) ≡ steps_in pages steps
  stepped_pages steps = steps_are t steps ∙ ap (λ es. steps_in es steps) is

  pub replies : (steps : List Step) (step : Step) → reply_of (tree_after t steps) step ≡ reply_in (steps_in pages steps) step
  replies steps step = reply_by (tree_after t steps) step ∙ ap (λ es. reply_in es step) (stepped_pages steps)

  pub writes : (steps : List Step) → all_writes t steps ≡ all_writes_in pages steps
  writes steps = all_writes_are t steps ∙ ap (λ es. all_writes_in es steps) is

  pub freshens : (steps : List Step) → fresh_as_top t steps ≡ fresh_in pages steps
  freshens steps = fresh_are t steps ∙ ap (λ es. fresh_in es steps) is

-- two updates, of trees with these pages
pub clashes : (a b : Tree) (es fs : Pages) → pages_of a ≡ es → pages_of b ≡ fs → (mine theirs : List Step)
    → IsClash (reads_of a mine) (visible_of b theirs) (clash_of es mine fs theirs)
clashes a b es fs mine_is theirs_is mine theirs =
    let F : Option Place → Type 0 = λ o. IsClash (reads_of a mine) (visible_of b theirs) o in
    subst F (clash_by a mine b theirs ∙ (λ i. clash_of (mine_is i) mine (theirs_is i) theirs)) (clash_is a mine b theirs)

-- the answer of a step
pub told : (t : Tree) (pages : Pages) → pages_of t ≡ pages → (steps : List Step) (step : Step)
    → Some (reply.Stepped (reply_of (tree_after t steps) step)) ≡ Some (reply.Stepped (reply_in (steps_in pages steps) step))
told t pages is steps step = ap (λ r. Some (reply.Stepped r)) (replies t pages is steps step)

-- an update that wrote something
pub wrote : (object serial : ℕ) (t : Tree) (pages : Pages) (is : pages_of t ≡ pages) (steps : List Step) (blocks : ℕ)
    → not (length (all_writes_in pages steps) == 0) ≡ true → length (fresh_in pages steps) ≡ blocks → Writes (work_of object serial t steps) blocks
wrote object serial t pages is steps blocks some count = record {
  written = ap (λ (places : List Place). not (length places == 0)) (writes t pages is steps) ∙ some;
  fresh = ap (λ (paths : List (List ℕ)). length paths) (freshens t pages is steps) ∙ count;
}

-- ---- lines, clients

abbrev pub begin_line : ℕ → ℕ → Line
begin_line n object = record { number = n; command = command.Begin (Number object) }

abbrev pub step_line : ℕ → Step → Line
step_line n step = record { number = n; command = command.Do step }

abbrev pub commit_line : ℕ → Line
commit_line n = record { number = n; command = command.Commit }

-- a client between two lines, with no update open
abbrev pub client_after : List LineReply → Client
client_after answers = record { answers = answers; update = None; held = 0; noted = [] }
