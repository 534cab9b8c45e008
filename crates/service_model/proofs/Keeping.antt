-- No more blocks are in use than there are, before the first entry and after every lawful one.
use Rattle.std.proofs.Common.{◌≡◌, ◌⊎◌, inl, inr, ℕ, zero, suc, ◌+◌, ◌-◌, ◌^◌, ◌≤◌, ◌==◌, nat_lt, Bool, true, false, not, List, [], ◌∷◌, ◌++◌, map, length, sum_by, Option, Some, None, IsSomeAnd, MatchBool, option_to_list, filter, append-nil, refl, sym, ap, ◌∙◌, subst, arith}
use Rattle.std.specs.Prelude.{slice_get, slice_set, if◌then◌else◌}
use Rattle.std.specs.List.{list_any}
use Rattle.std.specs.Option.{option_map_or}
use Rattle.std.proofs.lemmas.Bool.{cases_Bool, not-true, and_parts, lt-ltb, ltb-false}
use Rattle.script_text.specs.declared.command.Command.TheVariants.{Create}
use Rattle.script_text.specs.declared.script.Line.{Line}
use Rattle.script_text.specs.declared.script.Mode.{Mode}
use Rattle.script_text.specs.declared.reply.LineRefusal.TheVariants.{NoSpace}
use Rattle.service_model.specs.declared.journal.Entry.{Entry}
use Rattle.service_model.specs.declared.journal.What.{What}
use Rattle.service_model.specs.declared.journal.What.TheVariants.{Began, Held, Committed, Refused, GivenUp, Started, Created, Destroyed, Pruned, Answered}
use Rattle.service_model.specs.declared.named.Named.{Named}
use Rattle.tree_model.specs.States.{State, File, Version, file_of, is_live, last_version, table_blocks}
use Rattle.service_model.specs.Causes.{busy_cause, cause_of, open_cause, room_cause}
use Rattle.service_model.specs.Entries.{after_end, freeing, after_entries, after_entry, after_what, answered, committed_in, created, mode_of, news_of, next_version, noting, on_file, opened, upkeep_by, upkeep_of_others, with_file, with_next, without_update}
use Rattle.service_model.specs.Laws.{IsFitting}
use Rattle.service_model.specs.Legal.{IsAtEnd, IsCommitOf, IsCommittable, IsHoldable, IsInLine, IsLawful, IsLawfulWhat, IsLegalFrom, Reaches}
use Rattle.service_model.specs.Room.{AreSharing, FilesShare, HasRoom, used}
use Rattle.service_model.specs.Sound.{AreSayable, HasNoted, IsOpenAt, IsSound, is_holding, is_starting}
use Rattle.service_model.specs.Standing.{Scripts, Standing, Client, Made, Update, Upkeep, Work, client_of, free, has_writes, kept_blocks, lines_of, need, newcomer, next_line, renewed_works, start, with_client}
use Rattle.service_model.specs.Upkeep.{file_from, is_open_entry, new_blocks, new_object, no_file, pruned_blocks}
use Rattle.service_model.proofs.Causes.{first_none, not_when}
use Rattle.service_model.proofs.Committing.{none_renewed}
use Rattle.service_model.proofs.Entering.{client_in, noted_clients, one_keeper, same_line}
use Rattle.service_model.proofs.Files.{file_sound, found_at, no_some}
use Rattle.service_model.proofs.Keeps.{entry_keeps, new_client, start_sound}
use Rattle.service_model.proofs.Making.{first_version, found_open}
use Rattle.service_model.proofs.Rooms.{blocks_in, held_set, is_other, last_is, none_noted, other_noted, quiet_room, room_step, share_on}
use Rattle.service_model.proofs.Sharing.{cut_holds, cut_shares, next_shares, one_more_shares}
use Rattle.service_model.proofs.Tables.{IsTableKept, blocks_stay, commit_kept, same_new, same_table, table_grows, table_stays}
use Rattle.service_model.proofs.Taking.{commit_takes, file_blocks}
use Rattle.service_model.proofs.Versions.{versions_here}

-- ---- before the first entry

none_held : (scripts : Scripts) → sum_by (λ (c : Client). c.held) (map (λ _. newcomer) scripts) ≡ 0
none_held [] = refl
none_held (script ∷ scripts) = (let rest = none_held scripts in omega arith)

pub start_room : (opening : State) (scripts : Scripts) → IsFitting opening → HasRoom scripts (start opening scripts)
start_room opening scripts fits = record {
  within = (let none = none_held scripts in let most = fits.within in omega (arith, none, most));
  sharing = fits.sharing;
  lines = λ k line a next. none_noted (start opening scripts) k line.command (ap (λ (c : Client). c.noted) (new_client opening scripts k));
}

-- ---- one entry of a line

module _ (mode : Mode) (scripts : Scripts) (s : Standing) (k : ℕ) (own : Line) (a : 1 ≤ k) (b : k ≤ length s.clients)
    (sound : IsSound scripts s) (room : HasRoom scripts s) (next : next_line scripts s k ≡ Some own) where
  -- an entry after which the client c holds no more than before
  noting_room : (c : Client) (what : What) → c.held ≤ (client_of s k).held → is_other what ≡ true
      → HasRoom scripts (record (with_client (with_client s k c) k (noting what (client_of (with_client s k c) k))) { latest = k })
  noting_room c what held other =
      let l : List Client = slice_set (slice_set s.clients (k - 1) c) (k - 1) (noting what (client_of (with_client s k c) k)) in
      let t : Standing = record s { clients = l; upkeep = s.upkeep; latest = k } in
      let clients : l ≡ slice_set s.clients (k - 1) (noting what c) = noted_clients s k c what a b in
      quiet_room scripts s k (noting what c) a b room l s.upkeep clients held (omega arith)
      (λ line after. other_noted t k c.noted what line.command
      (ap (λ (x : Client). x.noted) (client_in s t k (noting what c) clients a b)) other)

  -- ---- blocks are held

  abbrev holder : ℕ → Client
  holder blocks = record (client_of s k) { held = blocks }

  abbrev holding : ℕ → Standing
  holding blocks = after_what mode s k own.command (Held blocks)

  hold : (blocks : ℕ) → (client_of s k).held ≡ 0 → used s + blocks ≤ s.state.blocks
      → ((object : ℕ) → (client_of s k).noted ≡ Started ∷ [] → new_object s.state ≡ Some object → blocks ≡ new_blocks s.state object)
      → HasRoom scripts (holding blocks)
  hold blocks none fits takes =
      let clients : (holding blocks).clients ≡ slice_set s.clients (k - 1) (noting (Held blocks) (holder blocks))
      = noted_clients s k (holder blocks) (Held blocks) a b in
      let is : client_of (holding blocks) k ≡ noting (Held blocks) (holder blocks)
      = client_in s (holding blocks) k (noting (Held blocks) (holder blocks)) clients a b in
      let noted : (client_of (holding blocks) k).noted ≡ (client_of s k).noted ++ Held blocks ∷ [] = ap (λ (x : Client). x.noted) is in
      let held : (client_of (holding blocks) k).held ≡ blocks = ap (λ (x : Client). x.held) is in
      let sum = held_set s (holding blocks) k (noting (Held blocks) (holder blocks)) clients a b in
      room_step scripts s (holding blocks) k (noting (Held blocks) (holder blocks)) a room (record {
        clients = clients;
        latest = refl;
        within = omega (arith, sum, none, fits);
        sharing = room.sharing;
        new = λ j object d ne h found. (found, refl);
        line = λ line after. record {
          committing = λ more only.
              held ∙ ap blocks_in (last_is (client_of (holding blocks) k).noted (client_of s k).noted (Held blocks) (Held more) noted [] only).1;
          beginning = λ object command only latest found.
              let no : Held blocks ≡ Started
              = (last_is (client_of (holding blocks) k).noted (client_of s k).noted (Held blocks) Started noted [] only).1 in
              let never : true ≡ false = ap is_starting (sym no) in
              absurd (cc never);
          making = λ object more only found.
              held ∙ takes object
              (last_is (client_of (holding blocks) k).noted (client_of s k).noted (Held blocks) (Held more) noted (Started ∷ []) only).0 found;
        };
      })

  -- so many blocks as are free may be taken
  is_free : (blocks : ℕ) → blocks ≤ free s → used s + blocks ≤ s.state.blocks
  is_free blocks few = (let within = room.within in omega (arith, within, few))

  held_of : (update : Option Update) (blocks : ℕ) → IsSomeAnd update (λ u. IsHoldable s k u blocks)
      → ((client_of s k).noted ≡ []) × (blocks ≤ free s)
  held_of None blocks h = absurd h
  held_of (Some u) blocks h = (h.first, h.room)

  hold_commit : (blocks : ℕ) → IsSomeAnd (client_of s k).update (λ u. IsHoldable s k u blocks) → HasRoom scripts (holding blocks)
  hold_commit blocks h =
      let may = held_of (client_of s k).update blocks h in
      hold blocks (sound.held k a (ap is_holding may.0)) (is_free blocks may.1)
      (λ object only found. (let no : [] ≡ Started ∷ [] = sym may.0 ∙ only in absurd (cc no)))

  hold_file : (blocks : ℕ) → own.command ≡ Create → (client_of s k).noted ≡ Started ∷ [] → s.latest ≡ k
      → (o : Option ℕ) → new_object s.state ≡ o → IsSomeAnd o (λ object. blocks ≡ new_blocks s.state object) → HasRoom scripts (holding blocks)
  hold_file blocks is only latest None e h = absurd h
  hold_file blocks is only latest (Some object) e h =
      let fits = (room.lines k own a next).beginning object is only latest e in
      hold blocks (sound.held k a (ap is_holding only)) (omega (arith, fits, h))
      (λ other noted found.
      let both : Some object ≡ Some other = sym e ∙ found in
      let same : object ≡ other = cc both in
      h ∙ ap (new_blocks s.state) same)

  -- ---- maintenance begins

  room_for : (object : ℕ) → cause_of s k Create ≡ None → new_object s.state ≡ Some object → used s + new_blocks s.state object ≤ s.state.blocks
  room_for object none found =
      let after_open = first_none (open_cause (client_of s k)) (busy_cause s k ∷ room_cause s (new_object s.state) ∷ []) none in
      let after_busy = first_none (busy_cause s k) (room_cause s (new_object s.state) ∷ []) after_open.1 in
      let last = first_none (room_cause s (new_object s.state)) [] after_busy.1 in
      let enough : nat_lt (free s) (new_blocks s.state object) ≡ false
      = not_when (nat_lt (free s) (new_blocks s.state object)) (NoSpace (new_blocks s.state object) (free s))
      (sym (ap (room_cause s) found) ∙ last.0) in
      let few : new_blocks s.state object ≤ free s = ltb-false (free s) (new_blocks s.state object) enough in
      is_free (new_blocks s.state object) few

  started_room : (client_of s k).noted ≡ [] → cause_of s k own.command ≡ None → HasRoom scripts (after_what mode s k own.command Started)
  started_room only none =
      let c : Client = noting Started (client_of s k) in
      let t : Standing = after_what mode s k own.command Started in
      let is : client_of t k ≡ c = client_in s t k c refl a b in
      let noted : (client_of t k).noted ≡ (client_of s k).noted ++ Started ∷ [] = ap (λ (x : Client). x.noted) is in
      quiet_room scripts s k c a b room (slice_set s.clients (k - 1) c) (Some (upkeep_by s k own.command)) refl (omega arith) (omega arith)
      (λ line after. record {
        committing = λ blocks last.
            let no : Started ≡ Held blocks = (last_is (client_of t k).noted (client_of s k).noted Started (Held blocks) noted [] last).1 in
            let never : true ≡ false = ap is_starting no in
            absurd (cc never);
        beginning = λ object command last latest found. begun line after object command found;
        making = λ object blocks last found.
            let no : Started ≡ Held blocks = (last_is (client_of t k).noted (client_of s k).noted Started (Held blocks) noted (Started ∷ []) last).1 in
            let never : true ≡ false = ap is_starting no in
            absurd (cc never);
      })
    where
      begun : (line : Line) → next_line scripts (after_what mode s k own.command Started) k ≡ Some line → (object : ℕ)
          → line.command ≡ Create → new_object s.state ≡ Some object
          → used (after_what mode s k own.command Started) + new_blocks s.state object ≤ s.state.blocks
      begun line after object command found =
          let c : Client = noting Started (client_of s k) in
          let t : Standing = after_what mode s k own.command Started in
          let same : own ≡ line = same_line scripts s t k c own line next (client_in s t k c refl a b) refl after in
          let is : own.command ≡ Create = ap (λ (l : Line). l.command) same ∙ command in
          let fits = room_for object (ap (cause_of s k) (sym is) ∙ none) found in
          let sum = held_set s t k c refl a b in
          omega (arith, fits, sum)

  -- ---- a commit

  abbrev emptied : Client
  emptied = record (client_of s k) { held = 0 }

  abbrev committed : List Named → ℕ → Standing
  committed made at = after_what mode s k own.command (Committed made at)

  commit_shares : (ws : List Work) (state : State) → FilesShare state → FilesShare (committed_in state ws)
  commit_shares [] state all = all
  commit_shares (w ∷ ws) state all =
      commit_shares ws (on_file state w.object (with_next w.steps)) (share_on state w.object (with_next w.steps) all (λ file e shares. by file shares (last_version file) refl))
    where
      by : (file : File) → AreSharing file.versions → (o : Option Version) → last_version file ≡ o → AreSharing (with_next w.steps file).versions
      by file shares None e =
          let F : List Version → Type 0 = λ l. AreSharing l in
          subst F (sym (ap (λ o. file.versions ++ map (next_version w.steps) (option_to_list o)) e ∙ append-nil file.versions)) shares
      by file shares (Some last) e =
          let F : List Version → Type 0 = λ l. AreSharing l in
          subst F (sym (ap (λ o. file.versions ++ map (next_version w.steps) (option_to_list o)) e))
          (one_more_shares file.versions last (next_version w.steps last) e (next_shares last (next_version w.steps last) w.steps refl refl) shares)

  -- a commit after which the kept versions have so many blocks more as its client held
  commit_room : (ws : List Work) (news : List Made) (made : List Named) (at : ℕ)
      → sum_by kept_blocks (committed_in s.state ws).files ≡ sum_by kept_blocks s.state.files + (client_of s k).held
      → HasRoom scripts (record s {
        state = committed_in s.state ws;
        clients = slice_set (slice_set s.clients (k - 1) emptied) (k - 1) (noting (Committed made at) (client_of (with_client s k emptied) k));
        made = news;
        moment = at;
        latest = k;
      })
  commit_room ws news made at takes =
      let c : Client = noting (Committed made at) emptied in
      let t : Standing = record s {
        state = committed_in s.state ws;
        clients = slice_set (slice_set s.clients (k - 1) emptied) (k - 1) (noting (Committed made at) (client_of (with_client s k emptied) k));
        made = news;
        moment = at;
        latest = k;
      } in
      let clients : t.clients ≡ slice_set s.clients (k - 1) c = noted_clients s k emptied (Committed made at) a b in
      let sum = held_set s t k c clients a b in
      let kept : IsTableKept s.state t.state = commit_kept ws s.state in
      let table = same_table t.state s.state kept.tables in
      let all = kept.blocks in
      let within = room.within in
      room_step scripts s t k c a room (record {
        clients = clients;
        latest = refl;
        within = omega (arith, sum, table, all, within, takes);
        sharing = commit_shares ws s.state room.sharing;
        new = λ j object d ne h found. (sym kept.new ∙ found, same_new t.state s.state object kept.tables);
        line = λ line after. other_noted t k (client_of s k).noted (Committed made at) line.command
            (ap (λ (x : Client). x.noted) (client_in s t k c clients a b)) refl;
      })

  committed_room : (made : List Named) (at : ℕ) (u : Update) → IsOpenAt s k u → IsCommitOf s k u made → HasRoom scripts (committed made at)
  committed_room made at u open_is lawful =
      let F : Option Update → Type 0 = λ o. HasRoom scripts (record s {
        state = committed_in s.state (option_map_or renewed_works o []);
        clients = slice_set (slice_set s.clients (k - 1) emptied) (k - 1) (noting (Committed made at) (client_of (with_client s k emptied) k));
        made = s.made ++ option_map_or (news_of s.state) o [];
        moment = at;
        latest = k;
      }) in
      subst F (sym open_is) (commit_room (renewed_works u) (s.made ++ news_of s.state u) made at (takes (cases_Bool (has_writes u))))
    where
      takes : (has_writes u ≡ true) ⊎ (has_writes u ≡ false)
          → sum_by kept_blocks (committed_in s.state (renewed_works u)).files ≡ sum_by kept_blocks s.state.files + (client_of s k).held
      takes (inl some) =
          let G : Bool → Type 0 = λ t. MatchBool t (IsCommittable s k u made) (((client_of s k).noted ≡ []) × (made ≡ [])) in
          let may : IsCommittable s k u made = subst G some lawful in
          let held = (room.lines k own a next).committing (need u) may.held in
          let all = commit_takes scripts s k u made sound a open_is may in
          omega (arith, held, all)
      takes (inr none) =
          let G : Bool → Type 0 = λ t. MatchBool t (IsCommittable s k u made) (((client_of s k).noted ≡ []) × (made ≡ [])) in
          let nothing : ((client_of s k).noted ≡ []) × (made ≡ []) = subst G none lawful in
          let held = sound.held k a (ap is_holding nothing.0) in
          let same = ap (λ ws. sum_by kept_blocks (committed_in s.state ws).files) (none_renewed u none) in
          omega (arith, held, same)

  commit_of : (made : List Named) (at : ℕ) (o : Option Update) → (client_of s k).update ≡ o → IsSomeAnd o (λ u. IsCommitOf s k u made)
      → HasRoom scripts (committed made at)
  commit_of made at None e h = absurd h
  commit_of made at (Some u) e h = committed_room made at u e h

  -- ---- a file is made

  created_room : (object at : ℕ) → ((blocks : ℕ) × ((client_of s k).noted ≡ Started ∷ Held blocks ∷ [])) → new_object s.state ≡ Some object
      → HasRoom scripts (after_what mode s k own.command (Created object at))
  created_room object at noted found =
      let open_entry = found_open 1 s.state.files object found in
      let file : File = open_entry.1 in
      let listed : file_of s.state object ≡ Some file = found_at s.state object file open_entry.0 open_entry.2 in
      let c : Client = noting (Created object at) emptied in
      let t : Standing = after_what mode s k own.command (Created object at) in
      let clients : t.clients ≡ slice_set s.clients (k - 1) c = noted_clients s k emptied (Created object at) a b in
      let sum = held_set s t k c clients a b in
      let held : (client_of s k).held ≡ new_blocks s.state object = (room.lines k own a next).making object noted.0 noted.1 found in
      let state_is : t.state ≡ with_file s.state object (created s.state object file)
      = ap (λ o. option_map_or (λ f. with_file s.state object (created s.state object f)) o s.state) listed in
      let table = table_grows s.state object file (created s.state object file) in
      let table_is : table_blocks t.state ≡ table_blocks (with_file s.state object (created s.state object file)) = ap table_blocks state_is in
      let kept = file_blocks s.state object (created s.state object) file listed in
      let none : kept_blocks file ≡ 0 = no_blocks file open_entry.3 in
      let all = blocks_stay s.state object (created s.state object) in
      let within = room.within in
      room_step scripts s t k c a room (record {
        clients = clients;
        latest = refl;
        within = omega (arith, sum, held, table, table_is, kept, none, all, within);
        sharing = share_on s.state object (created s.state object) room.sharing (λ f e shares. alone);
        new = λ j other d ne h after. one_keeper scripts s k (client_of s k) a b sound (ap (list_any is_starting) noted.1) j d ne h;
        line = λ line after. other_noted t k (client_of s k).noted (Created object at) line.command
            (ap (λ (x : Client). x.noted) (client_in s t k c clients a b)) refl;
      })
    where
      -- one version alone has none before it
      alone : AreSharing (first_version ∷ [])
      alone zero u v here after = no_some v after
      alone (suc n) u v here after = no_some u here

      -- a file without versions has no blocks
      no_blocks : (file : File) → is_open_entry file ≡ true → kept_blocks file ≡ 0
      no_blocks file open_is = by file.versions (not-true (is_live file) (and_parts (not (is_live file)) (nat_lt file.generation (2 ^ 32 - 1)) open_is).0)
        where
          by : (vs : List Version) → nat_lt 0 (length vs) ≡ false → sum_by (λ (v : Version). length v.fresh) vs ≡ 0
          by [] dead = refl
          by (v ∷ vs) dead = (let no : true ≡ false = sym (lt-ltb 0 (suc (length vs)) (omega arith)) ∙ dead in absurd (cc no))

  -- ---- a file is removed, or its first versions are

  -- a change of one file that leaves the table, by which the file's blocks become fewer by those that will be free
  cut_room : (object blocks : ℕ) (change : File → File) (what : What) (news : List Made) (at : ℕ) → HasNoted s k is_starting → is_other what ≡ true
      → ((file : File) → (change file).generation ≡ file.generation)
      → (file : File) → file_of s.state object ≡ Some file → kept_blocks (change file) + blocks ≤ kept_blocks file
      → ((file : File) → file_of s.state object ≡ Some file → AreSharing file.versions → AreSharing (change file).versions)
      → HasRoom scripts (record s {
        state = on_file s.state object change;
        clients = slice_set s.clients (k - 1) (noting what (client_of s k));
        made = news;
        upkeep = freeing blocks s.upkeep;
        moment = at;
        latest = k;
      })
  cut_room object blocks change what news at mine other stays file listed fewer shares =
      let c : Client = noting what (client_of s k) in
      let t : Standing = record s {
        state = on_file s.state object change;
        clients = slice_set s.clients (k - 1) (noting what (client_of s k));
        made = news;
        upkeep = freeing blocks s.upkeep;
        moment = at;
        latest = k;
      } in
      let sum = held_set s t k c refl a b in
      let table = same_table t.state s.state (table_stays s.state object change stays) in
      let kept = file_blocks s.state object change file listed in
      let all = blocks_stay s.state object change in
      let freed = frees s.upkeep in
      let within = room.within in
      room_step scripts s t k c a room (record {
        clients = refl;
        latest = refl;
        within = omega (arith, sum, table, kept, all, freed, within, fewer);
        sharing = share_on s.state object change room.sharing shares;
        new = λ j found d ne h after. one_keeper scripts s k (client_of s k) a b sound mine j d ne h;
        line = λ line after. other_noted t k (client_of s k).noted what line.command
            (ap (λ (x : Client). x.noted) (client_in s t k c refl a b)) other;
      })
    where
      frees : (o : Option Upkeep) → option_map_or (λ (up : Upkeep). up.frees) (freeing blocks o) 0 ≤ blocks
      frees None = omega arith
      frees (Some up) = omega arith

  destroyed_room : (object blocks at : ℕ) → (client_of s k).noted ≡ Started ∷ []
      → (o : Option File) → file_of s.state object ≡ o → IsSomeAnd o (λ file. blocks ≡ kept_blocks file)
      → HasRoom scripts (after_what mode s k own.command (Destroyed object blocks at))
  destroyed_room object blocks at only None e h = absurd h
  destroyed_room object blocks at only (Some file) e h =
      cut_room object blocks no_file (Destroyed object blocks at) (filter (λ (m : Made). not (m.object == object)) s.made) at
      (ap (list_any is_starting) only) refl (λ f. refl) file e (omega (arith, h)) (λ f is shares. none)
    where
      none : AreSharing []
      none n u v here after = no_some u here

  pruned_room : (object first blocks at : ℕ) → (client_of s k).noted ≡ Started ∷ []
      → (o : Option File) → file_of s.state object ≡ o → IsSomeAnd o (λ file. blocks ≡ pruned_blocks first file)
      → HasRoom scripts (after_what mode s k own.command (Pruned object first blocks at))
  pruned_room object first blocks at only None e h = absurd h
  pruned_room object first blocks at only (Some file) e h =
      let shares : AreSharing file.versions
      = (let F : List Version → Type 0 = λ l. AreSharing l in subst F (versions_here s.state object file e) (room.sharing object)) in
      let holds = cut_holds first file.versions shares (file_sound s.state object file sound.state e).first in
      cut_room object blocks (file_from first) (Pruned object first blocks at) s.made at
      (ap (list_any is_starting) only) refl (λ f. refl) file e (omega (arith, h, holds)) (λ f is share. cut_shares first f.versions share)

  -- ---- a line is answered

  answered_room : HasRoom scripts (after_what mode s k own.command Answered)
  answered_room =
      let c : Client = answered mode s k own.command (client_of s k) in
      let t : Standing = after_what mode s k own.command Answered in
      quiet_room scripts s k c a b room (slice_set s.clients (k - 1) c) (upkeep_of_others k s.upkeep) refl (omega arith) (frees s.upkeep)
      (λ line after. none_noted t k line.command (ap (λ (x : Client). x.noted) (client_in s t k c refl a b)))
    where
      frees : (o : Option Upkeep) → option_map_or (λ (up : Upkeep). up.frees) (upkeep_of_others k o) 0 ≤ option_map_or (λ (up : Upkeep). up.frees) o 0
      frees None = omega arith
      frees (Some up) = by (up.client == k)
        where
          by : (d : Bool) → option_map_or (λ (x : Upkeep). x.frees) (if d then None else Some up) 0 ≤ up.frees
          by true = omega arith
          by false = omega arith

  -- ---- all entries

  what_room : (what : What) → IsLawfulWhat mode s k own.command what → HasRoom scripts (after_what mode s k own.command what)
  what_room (Began bases) h = noting_room (record (client_of s k) { update = Some (opened s.state own.command) }) (Began bases) (omega arith) refl
  what_room (Held blocks) (inl h) = hold_commit blocks h.1
  what_room (Held blocks) (inr h) = hold_file blocks h.0 h.1 h.2 (new_object s.state) refl h.3
  what_room (Committed made at) h = commit_of made at (client_of s k).update refl h.1
  what_room (Refused why) h = noting_room (without_update (client_of s k)) (Refused why) (omega arith) refl
  what_room GivenUp h = noting_room (without_update (client_of s k)) GivenUp (omega arith) refl
  what_room Started h = started_room h.1 h.2
  what_room (Created object at) h = created_room object at h.1 h.2
  what_room (Destroyed object blocks at) h = destroyed_room object blocks at h.1 (file_of s.state object) refl h.3
  what_room (Pruned object first blocks at) h = pruned_room object first blocks at h.1 (file_of s.state object) refl h.3
  what_room Answered h = answered_room

-- an update that is open at a script's end is given up
end_room : (scripts : Scripts) (s : Standing) (k : ℕ) → 1 ≤ k → k ≤ length s.clients → HasRoom scripts s → next_line scripts s k ≡ None
    → HasRoom scripts (after_end s k)
end_room scripts s k a b room next =
    let c : Client = without_update (client_of s k) in
    quiet_room scripts s k c a b room (slice_set s.clients (k - 1) c) s.upkeep refl (omega arith) (omega arith)
    (λ line after. (let no : Some line ≡ None = sym after ∙ still in absurd (cc no)))
  where
    still : next_line scripts (after_end s k) k ≡ None
    still =
        ap (λ (x : Client). slice_get (lines_of scripts k) (length x.answers))
        (client_in s (after_end s k) k (without_update (client_of s k)) refl a b) ∙ next

-- no more blocks are in use after a lawful entry than there are
pub entry_room : (scripts : Scripts) (s : Standing) (e : Entry) → IsSound scripts s → HasRoom scripts s → IsLawful scripts s e
    → HasRoom scripts (after_entry scripts s e)
entry_room scripts s e sound room lawful = by lawful.2
  where
    by : IsInLine scripts s e ⊎ IsAtEnd scripts s e → HasRoom scripts (after_entry scripts s e)
    by (inl h) =
        let G : Option Line → Type 0
        = λ o. HasRoom scripts (option_map_or (λ (line : Line). after_what (mode_of scripts e.client) s e.client line.command e.what) o (after_end s e.client)) in
        subst G (sym h.1) (what_room (mode_of scripts e.client) scripts s e.client h.0 lawful.0 lawful.1 sound room h.1 e.what h.3)
    by (inr h) =
        let G : Option Line → Type 0
        = λ o. HasRoom scripts (option_map_or (λ (line : Line). after_what (mode_of scripts e.client) s e.client line.command e.what) o (after_end s e.client)) in
        subst G (sym h.1) (end_room scripts s e.client lawful.0 lawful.1 room h.1)

-- ---- a journal

entries_room : (scripts : Scripts) (es : List Entry) (s : Standing) → AreSayable scripts → IsSound scripts s → HasRoom scripts s
    → IsLegalFrom scripts s es → HasRoom scripts (after_entries scripts s es)
entries_room scripts [] s says sound room legal = room
entries_room scripts (e ∷ es) s says sound room legal =
    entries_room scripts es (after_entry scripts s e) says (entry_keeps scripts s e says sound legal.0)
    (entry_room scripts s e sound room legal.0) legal.1

-- no more blocks are in use after a legal journal than there are
pub journal_room : (opening : State) (scripts : Scripts) (es : List Entry) (s : Standing) → IsFitting opening → AreSayable scripts
    → Reaches opening scripts es s → HasRoom scripts s
journal_room opening scripts es s fits says r =
    let F : Standing → Type 0 = λ x. HasRoom scripts x in
    subst F r.leads (entries_room scripts es (start opening scripts) says (start_sound opening scripts fits.fit) (start_room opening scripts fits) r.legal)
