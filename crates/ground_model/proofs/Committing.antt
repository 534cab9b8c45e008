-- The link of a commit of one file that is merged and written: the scene after it.
use Rattle.std.proofs.Common.{◌≡◌, ◌≢◌, ◌⊎◌, inl, inr, ℕ, zero, suc, ◌+◌, ◌-◌, ◌≤◌, Bool, true, false, List, [], ◌∷◌, ◌++◌, length, Some, Ok, refl, sym, ap, ◌∙◌, subst, arith, slice_get}
use Rattle.std.specs.Prelude.{option_map, None, filter, if◌then◌else◌, slice_set}
use Rattle.std.specs.List.{sum_by}
use Rattle.std.proofs.lemmas.List.{length-map}
use Rattle.std.proofs.lemmas.List.Sums.{sum_by-cons}
use Rattle.std.specs.Option.{option_and_then}
use Rattle.std.proofs.lemmas.Option.{slice_get-map}
use Rattle.block_map.specs.States.{Replaces, state_at, held_count}
use Rattle.block_map.specs.declared.states.BlockState.{BlockState}
use Rattle.block_map.specs.declared.states.BlockState.TheVariants.{Kept}
use Rattle.draft_model.specs.Flush.{block_of}
use Rattle.draft_model.specs.Stands.{StandsFor}
use Rattle.draft_model.specs.Views.{View}
use Rattle.flush_model.specs.Flushed.{IsFlushed, IsMarked, IsNextOf, IsReady, NamesNoneOf}
use Rattle.flush_model.proofs.Flushed.{read_next}
use Rattle.flush_model.proofs.Plans.{BlockAt, block_at}
use Rattle.flush_model.proofs.Ready.{flushed_is_ready}
use Rattle.script_text.specs.declared.script.Line.{Line}
use Rattle.service_model.specs.declared.journal.Entry.{Entry}
use Rattle.service_model.specs.Entries.{after_entry, committed_in, news_by, next_version}
use Rattle.service_model.specs.Sound.{IsSound}
use Rattle.service_model.specs.Standing.{Scripts, Standing, Client, Update, Work, client_of, need, serial_of, last_tree}
use Rattle.recovery.specs.Opening.{heads_of}
use Rattle.store_changes.specs.Stands.{IsPlace, own_in}
use Rattle.store_check.specs.Files.{own_pages}
use Rattle.store_changes.specs.Writes.{Content}
use Rattle.store_model.specs.Changes.{IsTop, LiesIn, NextVersion, Rewrites, changed_at, file_committed, with_commit, with_version}
use Rattle.store_model.specs.Found.{LaidStore, file_in, laid, state_in, version_in}
use Rattle.store_model.specs.Laid.{LaidFile, LaidVersion, Node, last_laid, page_in}
use Rattle.store_model.specs.Laws.{pages_of}
use Rattle.store_model.specs.Members.{names_none}
use Rattle.store_model.proofs.Committing.{committing_together}
use Rattle.store_model.proofs.PlaceLists.{in_either, in_left, in_one, in_right, not_in}
use Rattle.tree_model.specs.States.{State, Version, IsState}
use Rattle.tree_model.specs.Accesses.{fresh_as_top, written_paths}
use Rattle.tree_model.specs.Trees.{Tree, tree_after}
use Rattle.version_chain.specs.Flush.{Plan, base_of}
use Rattle.ground_model.specs.Commits.{CommitLinks, HeadsGoOn, head_after, IsLinkedTo, IsWritten, MayCommit, commit_entry}
use Rattle.store_model.proofs.Edits.{changed_other}
use Rattle.ground_model.specs.Own.{IsHeldBy}
use Rattle.ground_model.specs.Scenes.{Scene, HasVersion, IsAsMade, IsLinking, IsMadeOf, IsShared, held_by}
use Rattle.ground_model.specs.Steps.{IsLatest, IsLinkSet, IsNoted}
use Rattle.ground_model.proofs.CommitNotes.{after_is, commit_lawful, not_mine, renewed_is, then_is, then_length, then_made, then_others, then_own, then_state, unlinked}
use Rattle.ground_model.proofs.Committed.{alone}
use Rattle.ground_model.proofs.Heads.{heads_now}
use Rattle.ground_model.proofs.Counting.{held_is_placed}
use Rattle.ground_model.proofs.HeldWrites.{held_is_free}
use Rattle.ground_model.proofs.MadeOf.{flush_makes}
use Rattle.ground_model.proofs.Latest.{appended, entry_is, last_is, last_tree_is, last_version_is, same_version, serial_low}
use Rattle.ground_model.proofs.Steps.{link_leads}
use Rattle.ground_model.proofs.TopsLeft.{tops_were}
use Rattle.ground_model.proofs.Turning.{same_laid}

module _ (scripts : Scripts) (k : ℕ) (old : Scene) (line : Line) (u : Update) (w : Work) (root top : ℕ) (tree : Tree) (d : View) (plan : Plan) (content : Content) (states : List BlockState) (at : ℕ)
    (shared : IsShared old) (sound : IsSound scripts old.standing) (may : MayCommit scripts old.standing k line u w) (done : IsWritten old k w root tree d plan)
    (top_is : block_of plan.placed [] ≡ Some top) (rewrites : Rewrites old.content content root (with_commit top)) (kept : Replaces k Kept old.states states)
    (late : old.standing.moment ≤ at) where
  abbrev serial : ℕ
  serial = serial_of old.standing.state w.object

  abbrev last : LaidVersion
  last = done.merged.base.version

  abbrev object : ℕ
  object = w.object - 1

  has : HasVersion old.store w.object last
  has = done.merged.base.is

  counts : suc object ≡ w.object
  counts = (let low = done.merged.base.is.counts in omega (arith, low))

  state_sound : IsState (state_in old.store)
  state_sound = subst IsState (sym shared.state) sound.state

  serial_here : serial ≡ serial_of (state_in old.store) w.object
  serial_here = ap (λ (x : State). serial_of x w.object) (sym shared.state)

  last_here : last_laid done.merged.base.is.file.versions ≡ Some last
  last_here = last_is old.store w.object last done.merged.base.is state_sound (done.merged.base.serial_is ∙ serial_here)

  nobody_links : IsLinking old.standing (suc object) → ⊥
  nobody_links l = unlinked scripts old.standing k line u w at sound may done.merged.unread late (subst (λ o. IsLinking old.standing o) counts l)

  last_none : names_none last ≡ true
  last_none = by (names_none last) refl
    where
      by : (b : Bool) → names_none last ≡ b → names_none last ≡ true
      by true e = e
      by false e = absurd (nobody_links (shared.links.tops last (record { object = object; file = done.merged.base.is.file; listed = done.merged.base.is.listed; last = last_here; names = e })))

  none_of : NamesNoneOf old.store (suc object ∷ [])
  none_of t is i member here =
      not_in (suc object ∷ []) member.object
      (λ h. nobody_links (subst (λ o. IsLinking old.standing o) (in_one (suc object) member.object h) (shared.links.members t is i member here)))

  flushed : IsFlushed old.content old.store old.places object last tree w.steps d (base_of root w.object serial) plan
  flushed = record {
    file = done.merged.base.is.file;
    listed = done.merged.base.is.listed;
    last_is = last_here;
    root_is = sym done.merged.base.block_is;
    object_is = sym counts;
    serial_is = sym done.merged.base.serial_is;
    stands = subst (λ n. StandsFor (pages_of old.content) n tree w.steps d) (sym done.merged.base.block_is) done.merged.stands;
    placed = done.flush.placed;
    apart = done.flush.apart;
    written = done.flush.done;
    all = done.all;
    mine = λ i x here. held_is_free old shared.map k x.block (done.flush.mine i x here);
  }

  read : (version : LaidVersion) × (new : List ℕ) × IsNextOf old.content old.store.root.blocks object last tree w.steps plan version new
  read = read_next old.content old.most old.store old.places shared.laid object last tree w.steps d (base_of root w.object serial) plan flushed

  abbrev version : LaidVersion
  version = read.0

  abbrev new_blocks : List ℕ
  new_blocks = read.1

  nx : IsNextOf old.content old.store.root.blocks object last tree w.steps plan read.0 read.1
  nx = read.2

  ready : IsReady old.content old.store old.places object last read.0 (read.1 ++ old.places) (read.1 ++ old.places) × (names_none read.0 ≡ true)
  ready =
      flushed_is_ready old.content old.most old.store old.places shared.laid object last tree w.steps d (base_of root w.object serial) plan flushed
      done.alone last_none none_of read.0 read.1 read.2

  abbrev next : NextVersion old.content old.store old.places
  next = ready.0.next

  rewritten : Rewrites old.content content ready.0.next.base.block (with_commit ready.0.next.block)
  rewritten =
      let F : ℕ → ℕ → Type 0 = λ a b. Rewrites old.content content a (with_commit b) in
      let base : root ≡ ready.0.next.base.block = sym done.merged.base.block_is ∙ ap (λ (v : LaidVersion). v.block) (sym ready.0.base_is) in
      let both : Some top ≡ Some read.0.block = sym top_is ∙ nx.block in
      let block : top ≡ ready.0.next.block = (let e : top ≡ read.0.block = cc in e ∙ sym ready.0.block_is) in
      subst (λ b. F ready.0.next.base.block b) block (subst (λ a. F a top) base rewrites)

  lies : LiesIn content old.most (record old.store { files = ready.0.next.linked.files }) ready.0.next.after
  lies = (committing_together old.content content old.most old.store old.places shared.laid ready.0.next rewritten).0

  abbrev entry : Entry
  entry = commit_entry old.standing k line u at

  abbrev new : Scene
  new = record {
    content = content;
    most = old.most;
    store = record old.store { files = ready.0.next.linked.files };
    places = lies.order;
    states = states;
    freed = old.freed;
    standing = after_entry scripts old.standing entry;
  }

  -- ---- the blocks

  count : held_count k old.states ≡ length plan.placed
  count = shared.map.held k ∙ own k may.client.low ∙ done.number
    where
      own : (n : ℕ) → 1 ≤ n → held_by old.standing n ≡ (client_of old.standing n).held
      own zero low = absurd (omega (arith, low))
      own (suc n) low = refl

  placed_is : (n : ℕ) → IsPlace ready.0.next.after n → IsPlace old.places n ⊎ IsHeldBy old k n
  placed_is n is = elim (in_either read.1 old.places n (subst (λ ns. IsPlace ns n) ready.0.after_is is)) [
    | inl here ↦ (let x : BlockAt plan.placed n = block_at plan.placed n ((nx.places n).0 here) in
        inr (ap (state_at old.states) (sym x.block) ∙ done.flush.mine x.k x.place x.at))
    | inr there ↦ inl there
  ]

  is_placed : (n : ℕ) → IsPlace old.places n ⊎ IsHeldBy old k n → IsPlace ready.0.next.after n
  is_placed n (inl there) = subst (λ ns. IsPlace ns n) (sym ready.0.after_is) (in_right read.1 old.places n there)
  is_placed n (inr held) =
      subst (λ ns. IsPlace ns n) (sym ready.0.after_is)
      (in_left read.1 old.places n ((nx.places n).1 (held_is_placed k plan.placed old.states done.flush.apart done.flush.mine count n held)))

  link : IsLinkSet k old new
  link = record {
    low = may.client.low;
    next = ready.0.next;
    none = ap names_none ready.0.version_is ∙ ready.1;
    rewrites = rewritten;
    taken = λ n. (placed_is n, is_placed n);
    kept = kept;
    most = refl;
    laid = lies.laid;
    freed = refl;
  }

  -- ---- the state

  version_is : version_in read.0 ≡ next_version w.steps (version_in last)
  version_is =
      same_version (version_in read.0) (next_version w.steps (version_in last)) nx.serial
      (nx.tree ∙ ap (λ t. tree_after t w.steps) (sym done.merged.base.tree_is))
      (nx.fresh ∙ ap (λ t. (next_version w.steps (let x : Version = record { serial = 0; tree = t; fresh = [] } in x)).fresh) (sym done.merged.base.tree_is))

  grown : committed_in old.standing.state (w ∷ []) ≡ with_version object (version_in read.0) old.standing.state
  grown =
      let F : State → Type 0 = λ x. committed_in x (w ∷ []) ≡ with_version object (version_in read.0) x in
      subst F shared.state
      (appended (state_in old.store) w (file_in done.merged.base.is.file) (version_in last) (entry_is old.store w.object last done.merged.base.is) done.merged.base.is.counts
      listed (last_version_is old.store w.object last done.merged.base.is last_here)
      ∙ ap (λ x. with_version object x (state_in old.store)) (sym version_is))
    where
      listed : slice_get (state_in old.store).files (w.object - 1) ≡ Some (file_in done.merged.base.is.file)
      listed = slice_get-map file_in old.store.files (w.object - 1) ∙ ap (option_map file_in) done.merged.base.is.listed

  before_is : last_tree old.standing.state w.object ≡ tree
  before_is =
      ap (λ (x : State). last_tree x w.object) (sym shared.state)
      ∙ last_tree_is old.store w.object last done.merged.base.is last_here ∙ done.merged.base.tree_is

  own_is : (path : List ℕ) (nodes : List Node) (node : Node) → page_in path nodes ≡ Some node → node.is_own ≡ true
      → own_in path nodes ≡ Some node
  own_is path nodes node here own =
      ap (option_and_then (λ (x : Node). if x.is_own then Some x else None)) here
      ∙ ap (λ (b : Bool). if b then Some node else None) own

  news_made : IsAsMade (news_by old.standing.state w) read.0
  news_made = record {
    tree = nx.tree ∙ ap (λ t. tree_after t w.steps) (sym before_is);
    marks = λ path node here own. subst (λ t. IsMarked t w.steps path node) (sym before_is) (nx.marks path node (own_is path read.0.nodes node here own));
  }

  next_serial : serial + 1 ≡ read.0.serial
  next_serial = ap (λ n. n + 1) (sym done.merged.base.serial_is) ∙ sym nx.serial

  noted_then : IsNoted k old.standing (then_is scripts old.standing k line u w at sound may done.merged.unread late) object read.0
  noted_then = record {
    state = then_state scripts old.standing k line u w at sound may done.merged.unread late ∙ grown;
    news = news_by old.standing.state w;
    made = then_made scripts old.standing k line u w at sound may done.merged.unread late;
    of_object = sym counts;
    serial = next_serial;
    as_made = news_made;
    late = λ m c of_object. (let low = sound.low m c in let same : serial_of old.standing.state m.object ≡ serial = ap (serial_of old.standing.state) (of_object ∙ counts) in let up = next_serial in omega (arith, low, same, up));
    upkeep = refl;
    clients = then_length scripts old.standing k line u w at sound may done.merged.unread late;
    others = then_others scripts old.standing k line u w at sound may done.merged.unread late;
    held = ap (λ (c : Client). c.held) (then_own scripts old.standing k line u w at sound may done.merged.unread late);
    links = not_mine scripts old.standing k line u w at sound may done.merged.unread late;
    unlinked = nobody_links;
  }

  walked_of : IsMadeOf old.content (news_by old.standing.state w) root read.0.block
  walked_of =
      flush_makes old.content (base_of root w.object serial) read.0.block tree w.steps d plan done.merged.stands done.flush.placed nx.block done.flush.done done.all
      (news_by old.standing.state w) before_is refl

  walked_then : IsMadeOf old.content (news_by old.standing.state w) ready.0.next.base.block read.0.block
  walked_then = subst (λ n. IsMadeOf old.content (news_by old.standing.state w) n read.0.block) (sym done.merged.base.block_is ∙ ap (λ (v : LaidVersion). v.block) (sym ready.0.base_is)) walked_of

  -- what stands then, and the version page that a walk begins on
  noted : (n : IsNoted k old.standing (after_entry scripts old.standing entry) ready.0.next.object ready.0.next.version)
      × IsMadeOf old.content n.news ready.0.next.base.block ready.0.next.version.block
  unfolding noted_then
  noted =
      let F : Standing → ℕ → LaidVersion → Type 0 = λ t o v. (n : IsNoted k old.standing t o v) × IsMadeOf old.content n.news ready.0.next.base.block v.block in
      let t : Standing = then_is scripts old.standing k line u w at sound may done.merged.unread late in
      subst (λ x. F x ready.0.next.object ready.0.next.version) (sym (after_is scripts old.standing k line u w at sound may done.merged.unread late))
      (subst (λ v. F t ready.0.next.object v) (sym ready.0.version_is) (subst (λ o. F t o read.0) (sym ready.0.object_is) (noted_then, walked_then)))

  latest : IsLatest old ready.0.next.object ready.0.next.version
  latest =
      let F : ℕ → LaidVersion → Type 0 = λ o v. IsLatest old o v in
      subst (λ v. F ready.0.next.object v) (sym ready.0.version_is) (subst (λ o. F o read.0) (sym ready.0.object_is) of)
    where
      of : IsLatest old object read.0
      of v is =
          let mine : HasVersion old.store w.object v = subst (λ o. HasVersion old.store o v) counts is in
          let low = serial_low old.store w.object v mine state_sound in
          let here = serial_here in
          let up = next_serial in
          omega (arith, low, here, up)

  commit_links_here : IsLinkedTo scripts k old new entry content states
  unfolding link ready
  commit_links_here = record {
    content_is = refl;
    states_is = refl;
    most = refl;
    blocks = refl;
    lawful = commit_lawful scripts old.standing k line u w at sound may done.merged.unread late;
    standing = refl;
    own =
        ap (λ (s : Standing). client_of s k) (after_is scripts old.standing k line u w at sound may done.merged.unread late)
        ∙ then_own scripts old.standing k line u w at sound may done.merged.unread late;
    leads = link_leads k old new shared link noted.0 latest noted.1;
  }

  -- ---- what is told of the files

  need_is : own_pages read.0 ≡ need u
  need_is =
      let sum : need u ≡ sum_by (λ (x : Work). length (fresh_as_top x.base x.steps)) (w ∷ []) =
      ap (sum_by (λ (x : Work). length (fresh_as_top x.base x.steps))) (renewed_is scripts old.standing k line u w at sound may done.merged.unread late) in
      let one : sum_by (λ (x : Work). length (fresh_as_top x.base x.steps)) (w ∷ []) ≡ length (fresh_as_top w.base w.steps) + 0 =
      sum_by-cons (λ (x : Work). length (fresh_as_top x.base x.steps)) w [] in
      let pages : own_pages read.0 ≡ length (fresh_as_top w.base w.steps) =
      sym (length-map (filter (λ (n : Node). n.is_own) read.0.nodes) (λ (n : Node). n.path)) ∙ ap length nx.fresh
      ∙ ap (λ (ps : List (List ℕ)). length (written_paths ps)) done.merged.alike.fresh in
      omega (arith, sum, one, pages)

  heads_go_on : HeadsGoOn old new w.object top (need u)
  heads_go_on heads head are here =
      let F : List LaidFile → Type 0 = λ fs. slice_set heads object (Some (head_after head read.0.block (need u))) ≡ heads_of fs in
      let G : ℕ → LaidVersion → ℕ → Type 0 = λ o v b. changed_at (file_committed b v) o old.store.files ≡ ready.0.next.linked.files in
      let both : Some top ≡ Some read.0.block = sym top_is ∙ nx.block in
      let block : top ≡ read.0.block = cc in
      let files : changed_at (file_committed ready.0.next.block ready.0.next.version) ready.0.next.object old.store.files ≡ ready.0.next.linked.files =
      sym (alone old.content old.store old.places ready.0.next (ap names_none ready.0.version_is ∙ ready.1)).files_are in
      let named : G object read.0 read.0.block =
      subst (λ b. G object read.0 b) ready.0.block_is
      (subst (λ v. G object v ready.0.next.block) ready.0.version_is (subst (λ o. G o ready.0.next.version ready.0.next.block) ready.0.object_is files)) in
      let now : F (changed_at (file_committed read.0.block read.0) object old.store.files) =
      heads_now old.store object read.0.block read.0 done.merged.base.is.file last done.merged.base.is.listed last_here heads head are here (need u) need_is nx.serial in
      subst (λ b. slice_set heads object (Some (head_after head b (need u))) ≡ heads_of ready.0.next.linked.files) (sym block) (subst F named now)

  -- ---- other files

  other_files : (o : ℕ) → o ≢ w.object - 1 → slice_get ready.0.next.linked.files o ≡ slice_get old.store.files o
  other_files o ne =
      ap (λ (fs : List LaidFile). slice_get fs o) (alone old.content old.store old.places ready.0.next (ap names_none ready.0.version_is ∙ ready.1)).files_are
      ∙ changed_other (file_committed ready.0.next.block ready.0.next.version) ready.0.next.object o old.store.files (λ e. ne (e ∙ ready.0.object_is))

  -- the files of other objects are as they were, in whatever was laid out
  pub others_are_left : (after : LaidStore) (order : List ℕ) → laid content old.most [] ≡ Ok (after, order) → (o : ℕ) → o ≢ w.object - 1 → slice_get after.files o ≡ slice_get old.store.files o
  others_are_left after order there o ne =
      ap (λ (s : LaidStore). slice_get s.files o) (same_laid (laid content old.most []) after _ order lies.order there lies.laid).0 ∙ other_files o ne

  -- so are the versions that name members
  pub tops_are_left : (after : LaidStore) (order : List ℕ) → laid content old.most [] ≡ Ok (after, order) → (v : LaidVersion) (t : IsTop after v) → (was : IsTop old.store v) × (was.object ≡ t.object)
  tops_are_left after order there v t =
      let none : names_none ready.0.next.version ≡ true = ap names_none ready.0.version_is ∙ ready.1 in
      let files = (alone old.content old.store old.places ready.0.next none).files_are in
      let one_more : LaidStore = record old.store { files = changed_at (file_committed ready.0.next.block ready.0.next.version) ready.0.next.object old.store.files } in
      let same : after ≡ one_more =
      (same_laid (laid content old.most []) after _ order lies.order there lies.laid).0 ∙ ap (λ (fs : List LaidFile). (let s : LaidStore = record old.store { files = fs } in s)) files in
      let F : LaidStore → Type 0 = λ s. (x : IsTop s v) → (was : IsTop old.store v) × (was.object ≡ x.object) in
      subst F (sym same)
      (tops_were old.store ready.0.next.object ready.0.next.block ready.0.next.version ready.0.next.file ready.0.next.base ready.0.next.listed ready.0.next.last none v) t

  -- nobody sets links of this one
  pub unlinked_now : IsLinking old.standing w.object → ⊥
  unlinked_now l = nobody_links (subst (λ o. IsLinking old.standing o) (sym counts) l)

pub commit_links : CommitLinks
commit_links scripts k old line u w root top tree d plan content states at shared sound may done top_is rewrites kept late = (
  _,
  commit_links_here scripts k old line u w root top tree d plan content states at shared sound may done top_is rewrites kept late,
  heads_go_on scripts k old line u w root top tree d plan content states at shared sound may done top_is rewrites kept late,
)
