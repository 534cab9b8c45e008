-- The link of a commit of several files: the scene after it, whole.
use Rattle.std.proofs.Common.{◌≡◌, inl, inr, ℕ, zero, suc, ◌-◌, ◌<◌, ◌≤◌, true, length, List, [], ◌∷◌, filter, Some, Contains, refl, sym, ap, ◌∙◌, subst, arith, slice_get}
use Rattle.std.specs.List.{AllByRecursion}
use Rattle.std.proofs.lemmas.List.{length-map}
use Rattle.std.proofs.lemmas.Option.{slice_get-map}
use Rattle.std.specs.Prelude.{option_map}
use Rattle.block_map.specs.States.{Replaces}
use Rattle.block_map.specs.declared.states.BlockState.{BlockState}
use Rattle.block_map.specs.declared.states.BlockState.TheVariants.{Kept}
use Rattle.draft_model.specs.Flush.{Placed, block_of}
use Rattle.draft_model.proofs.Telling.{tells_fresh}
use Rattle.flush_model.specs.Several.{AreNextOf, AreOutstanding, IsCommitted, IsNextOfPart}
use Rattle.page_codec.specs.Values.{MemberValue}
use Rattle.script_text.specs.declared.script.Line.{Line}
use Rattle.service_model.specs.Entries.{committed_in}
use Rattle.service_model.specs.Sound.{IsSound}
use Rattle.service_model.specs.Standing.{Scripts, Update, Work, has_file}
use Rattle.service_model.proofs.Causes.{file_had}
use Rattle.service_model.proofs.Members.{from_place, in_front}
use Rattle.store_check.specs.Files.{own_pages}
use Rattle.store_changes.specs.Writes.{Content}
use Rattle.store_model.specs.Changes.{IsLinked, Rewrites, file_committed, with_commit}
use Rattle.store_model.specs.Found.{LaidStore, state_in}
use Rattle.store_model.specs.Laid.{LaidFile, LaidVersion, Node}
use Rattle.store_model.specs.Laws.{pages_of}
use Rattle.store_model.specs.Together.{News}
use Rattle.store_model.proofs.Edits.{some_is, none_some}
use Rattle.tree_model.specs.Accesses.{fresh_of, written_paths}
use Rattle.ground_model.specs.Commits.{IsLinkedTo, commit_entry}
use Rattle.ground_model.specs.Laws.{Leads}
use Rattle.ground_model.specs.Linking.{HasLinks, IsLeft, Link}
use Rattle.ground_model.specs.Scenes.{Scene, IsLinking, IsShared}
use Rattle.ground_model.specs.Several.{AreCommitted, AreNamedBy, AreWritten, CommitLinksSeveral, IsRenewed, MayCommitSeveral, Renewal, links_to, works_of}
use Rattle.ground_model.proofs.Committed.{still_linked}
use Rattle.ground_model.proofs.FilesGrown.{Grows, Item, as_made_then, made_of_then, versions_then}
use Rattle.ground_model.proofs.KeptMaps.{mapped_then}
use Rattle.ground_model.proofs.Laying.{Behind, behind}
use Rattle.ground_model.proofs.LineSteps.{linking_stays}
use Rattle.ground_model.proofs.SeveralHeads.{IsFlushOf, heads_then}
use Rattle.ground_model.proofs.SeveralItems.{differ_at, items_of}
use Rattle.ground_model.proofs.SeveralLinks.{has_links, leaves_links, leaves_names, links_then}
use Rattle.ground_model.proofs.SeveralNotes.{after_is, none_mine, several_lawful, then_committed, then_linking, then_others, then_own, then_state, unlinked_file}
use Rattle.ground_model.proofs.SeveralParts.{base_is_last, counts_back, differ, of_update, part_of, parts_of}
use Rattle.ground_model.proofs.SeveralScenes.{c, first_item, grows, kept_now, leaves_then, members_are, new, other_items, table_like, work_at, works_there}
use Rattle.ground_model.proofs.SeveralStates.{state_then, works_in}

-- ---- the members, and the links to them

-- a member is of one of these files
pub named_at : (ms : List MemberValue) (rs : List Renewal) → AreNamedBy ms rs → (i : ℕ) (m : MemberValue) → slice_get ms i ≡ Some m
    → (w : Work) × (slice_get (works_of rs) i ≡ Some w) × (m.object ≡ w.object)
named_at [] rs named i m at = none_some at
named_at (x ∷ ms) [] named i m at = absurd named
named_at (x ∷ ms) (r ∷ rs) named zero m at = (r.work, refl, ap (λ (y : MemberValue). y.object) (sym (some_is at)) ∙ named.0.0)
named_at (x ∷ ms) (r ∷ rs) named (suc i) m at = named_at ms rs named.1 i m at

-- a link is to the member at its place
link_member : (rs : List Renewal) (ms : List MemberValue) (i : ℕ) (l : Link) → slice_get (links_to rs ms) i ≡ Some l → slice_get ms i ≡ Some l.member
link_member [] ms i l at = none_some at
link_member (r ∷ rs) [] i l at = none_some at
link_member (r ∷ rs) (m ∷ ms) zero l at = ap Some (ap (λ (y : Link). y.member) (some_is at))
link_member (r ∷ rs) (m ∷ ms) (suc i) l at = link_member rs ms i l at

module _ (old : Scene) (k : ℕ) (store : LaidStore) where
  -- each link is outstanding
  left_at : (rs : List Renewal) (each : AllByRecursion (IsRenewed old k) rs) (ms : List MemberValue) (news : List News) (n : ℕ) → AreNextOf old.content n (parts_of old k rs each) news
      → AreOutstanding store (parts_of old k rs each) news → AreNamedBy ms rs → (i : ℕ) (l : Link) → slice_get (links_to rs ms) i ≡ Some l → IsLeft store l
  left_at [] each ms news n next out named i l at = none_some at
  left_at (r ∷ rs) each [] news n next out named i l at = none_some at
  left_at (r ∷ rs) each (m ∷ ms) [] n next out named i l at = absurd next
  left_at (r ∷ rs) each (m ∷ ms) (x ∷ news) n next out named zero l at =
      subst (IsLeft store) (some_is at) (record {
        out = out.0.0;
        object_is = named.0.0 ∙ sym (counts_back old k r each.0) ∙ ap suc (sym out.0.1.0);
        base_is = ap (λ (v : LaidVersion). v.block) out.0.1.1 ∙ each.0.draft.base.block_is;
        next_is = ap (λ (v : LaidVersion). v.block) out.0.1.2 ∙ some_is (sym next.0.1.block ∙ named.0.1);
      })
  left_at (r ∷ rs) each (m ∷ ms) (x ∷ news) n next out named (suc i) l at = left_at rs each.1 ms news n next.1 out.1 named.1 i l at

  -- there is one for each file
  link_for : (rs : List Renewal) (each : AllByRecursion (IsRenewed old k) rs) (ms : List MemberValue) (news : List News) → AreNamedBy ms rs
      → (i : ℕ) (it : Item) → slice_get (items_of old k rs each news) i ≡ Some it → (l : Link) × (slice_get (links_to rs ms) i ≡ Some l) × (l.member.object ≡ it.work.object)
  link_for [] each ms news named i it at = none_some at
  link_for (r ∷ rs) each ms [] named i it at = none_some at
  link_for (r ∷ rs) each [] (x ∷ news) named i it at = absurd named
  link_for (r ∷ rs) each (m ∷ ms) (x ∷ news) named zero it at =
      (record { base = r.root; member = m }, refl, named.0.0 ∙ ap (λ (y : Item). y.work.object) (some_is at))
  link_for (r ∷ rs) each (m ∷ ms) (x ∷ news) named (suc i) it at = link_for rs each.1 ms news named.1 i it at

  -- the flush of one file: the block of its new version, and how many pages that has of its own
  flush_here : (r : Renewal) (is : IsRenewed old k r) (version : LaidVersion) (blocks : List ℕ) (n : ℕ) → IsNextOfPart old.content n (part_of old k r is) version blocks
      → own_pages version ≡ length r.plan.placed
  flush_here r is version blocks n nx =
      let paths : is.flush.placed.fresh ≡ fresh_of r.work.base r.work.steps =
      tells_fresh r.draft is.flush.placed.fresh is.flush.placed.are (pages_of old.content) r.root r.work.base r.work.steps is.draft.stands in
      sym (length-map (filter (λ (x : Node). x.is_own) version.nodes) (λ (x : Node). x.path)) ∙ ap (λ (ps : List (List ℕ)). length ps) nx.fresh
      ∙ ap (λ (ps : List (List ℕ)). length (written_paths ps)) (sym paths) ∙ ap (λ (ps : List (List ℕ)). length ps) (sym is.flush.placed.paths)
      ∙ length-map r.plan.placed (λ (x : Placed). x.path)

  flushes_at : (rs : List Renewal) (each : AllByRecursion (IsRenewed old k) rs) (news : List News) (n : ℕ) → AreNextOf old.content n (parts_of old k rs each) news
      → (i : ℕ) (it : Item) → slice_get (items_of old k rs each news) i ≡ Some it → IsFlushOf rs i it
  flushes_at [] each news n next i it at = none_some at
  flushes_at (r ∷ rs) each [] n next i it at = none_some at
  flushes_at (r ∷ rs) each (x ∷ news) n next zero it at = subst (IsFlushOf (r ∷ rs) zero) (some_is at) (record {
    renewal = r;
    at = refl;
    work_is = refl;
    block = next.0.1.block;
    pages = flush_here r each.0 x.version next.0.0 n next.0.1;
  })
  flushes_at (r ∷ rs) each (x ∷ news) n next (suc i) it at =
      let f : IsFlushOf rs i it = flushes_at rs each.1 news n next.1 i it at in
      record { renewal = f.renewal; at = f.at; work_is = f.work_is; block = f.block; pages = f.pages }

-- ---- the scene

module _ (scripts : Scripts) (k : ℕ) (old : Scene) (line : Line) (u : Update) (top : Renewal) (members : List Renewal) (block : ℕ) (content : Content)
    (states : List BlockState) (at : ℕ) (shared : IsShared old) (sound : IsSound scripts old.standing) (may : MayCommitSeveral scripts old.standing k line u)
    (done : AreWritten old k u top members) (top_is : block_of top.plan.placed [] ≡ Some block) (rewrites : Rewrites old.content content top.root (with_commit block))
    (kept : Replaces k Kept old.states states) (late : old.standing.moment ≤ at) where
  abbrev scene : Scene
  scene = new scripts k old line u top members block content states at shared sound may done top_is rewrites kept late

  abbrev one : Item
  one = first_item scripts k old line u top members block content states at shared sound may done top_is rewrites kept late

  abbrev more : List Item
  more = other_items scripts k old line u top members block content states at shared sound may done top_is rewrites kept late

  abbrev committed : IsCommitted old.content content old.most old.store old.places (part_of old k top done.each.0) (parts_of old k members done.each.1)
  committed = c scripts k old line u top members block content states at shared sound may done top_is rewrites kept late

  growth : Grows old scene (one ∷ more)
  growth = grows scripts k old line u top members block content states at shared sound may done top_is rewrites kept late

  unlinked : (object : ℕ) → has_file object u ≡ true → IsLinking old.standing object → ⊥
  unlinked = unlinked_file scripts old.standing k line u sound may

  has_work : (i : ℕ) (w : Work) → slice_get (works_of (top ∷ members)) i ≡ Some w → has_file w.object u ≡ true
  has_work i w here = file_had w.object u w (of_update scripts k old line u shared sound may top members done w (from_place (works_of (top ∷ members)) w i here)) refl

  mine : (i : ℕ) (it : Item) → slice_get (one ∷ more) i ≡ Some it → has_file it.work.object u ≡ true
  mine i it here = has_work i it.work (work_at scripts k old line u top members block content states at shared sound may done top_is rewrites kept late i it here)

  none : (i : ℕ) (it : Item) → slice_get more i ≡ Some it → it.next.members ≡ []
  none i it here = (members_are scripts k old line u top members block content states at shared sound may done top_is rewrites kept late i it here).none

  named : (i : ℕ) (m : MemberValue) → slice_get one.next.members i ≡ Some m → has_file m.object u ≡ true
  named i m here =
      let w = named_at top.plan.members members done.named i m (ap (λ (ms : List MemberValue). slice_get ms i) (sym committed.next.members) ∙ here) in
      subst (λ o. has_file o u ≡ true) (sym w.2) (has_work (suc i) w.0 w.1)

  stays : (object : ℕ) → IsLinking old.standing object → IsLinking scene.standing object
  stays object l =
      linking_stays k old.standing scene.standing (then_others scripts old.standing k line u sound may at late) object l
      (none_mine scripts old.standing k line u sound may object l)

  -- ---- what all clients share

  state_is : state_in scene.store ≡ scene.standing.state
  state_is =
      state_then old scene (one ∷ more) growth (table_like scripts k old line u top members block content states at shared sound may done top_is rewrites kept late) shared.state
      ∙ ap (committed_in old.standing.state) (works_there scripts k old line u top members block content states at shared sound may done top_is rewrites kept late ∙ sym done.works)
      ∙ sym (then_state scripts old.standing k line u sound may at late)

  shared_then : IsShared scene
  shared_then = record {
    some = subst (λ n. 0 < n) (sym (table_like scripts k old line u top members block content states at shared sound may done top_is rewrites kept late).blocks) shared.some;
    laid = committed.stands.lies;
    state = state_is;
    map = mapped_then k old scene shared.map (kept_now scripts k old line u top members block content states at shared sound may done top_is rewrites kept late);
    made = as_made_then old scene (one ∷ more) shared growth;
    made_of = made_of_then old scene (one ∷ more) shared growth;
    links = links_then k old scene u one more shared growth unlinked mine none named stays (then_linking scripts old.standing k line u sound may at late);
  }

  leads : Leads k old scene
  leads = record {
    shared = shared_then;
    versions = versions_then old scene (one ∷ more) shared growth;
    leaves = leaves_then scripts k old line u top members block content states at shared sound may done top_is rewrites kept late;
  }

  to : IsLinkedTo scripts k old scene (commit_entry old.standing k line u at) content states
  to = record {
    content_is = refl;
    states_is = refl;
    most = refl;
    blocks = (table_like scripts k old line u top members block content states at shared sound may done top_is rewrites kept late).blocks;
    lawful = several_lawful scripts old.standing k line u sound may at late;
    standing = sym (after_is scripts old.standing k line u sound may at late);
    own = then_own scripts old.standing k line u sound may at late;
    leads = leads;
  }

  -- ---- what the client has of its own

  abbrev left : List Link
  left = links_to members top.plan.members

  each_left : (i : ℕ) (l : Link) → slice_get left i ≡ Some l → IsLeft scene.store l × Contains one.next.members l.member
  each_left i l here = (
    left_at old k scene.store members done.each.1 top.plan.members committed.news old.store.root.blocks committed.each committed.links done.named i l here,
    from_place one.next.members l.member i
        (ap (λ (ms : List MemberValue). slice_get ms i) committed.next.members ∙ link_member members top.plan.members i l here),
  )

  apart_left : (i j : ℕ) (l r : Link) → slice_get left i ≡ Some l → slice_get left j ≡ Some r → l.member.object ≡ r.member.object → i ≡ j
  apart_left i j l r here there e =
      let a = named_at top.plan.members members done.named i l.member (link_member members top.plan.members i l here) in
      let b = named_at top.plan.members members done.named j r.member (link_member members top.plan.members j r there) in
      let same : suc i ≡ suc j =
      differ_at (works_of (top ∷ members)) (differ scripts k old line u shared sound may top members done) (suc i) (suc j) a.0 b.0 a.1 b.1 (sym a.2 ∙ e ∙ b.2) in
      omega (arith, same)

  first_linked : IsLinked (growth.each zero one refl).now
  first_linked =
      let v : LaidVersion = done.each.0.draft.base.version in
      let file : LaidFile = done.each.0.draft.base.is.file in
      let now : file_committed committed.version.block committed.version done.each.0.draft.base.is.file ≡ (growth.each zero one refl).now =
      some_is (sym (committed.first done.each.0.draft.base.is.file done.each.0.draft.base.is.listed) ∙ (growth.each zero one refl).now_listed) in
      let last = base_is_last scripts k old line u shared sound may top done.each.0
      (of_update scripts k old line u shared sound may top members done top.work (in_front top.work (works_of members))) in
      let was : IsLinked done.each.0.draft.base.is.file =
      elim (shared.links.links (top.work.object - 1) done.each.0.draft.base.is.file done.each.0.draft.base.is.listed) [
        | inl set ↦ set
        | inr l ↦ absurd (unlinked top.work.object (has_work zero top.work refl)
            (subst (IsLinking old.standing) (counts_back old k top done.each.0) l))
      ] in
      let F : LaidFile → Type 0 = λ f. IsLinked f in
      subst F now (still_linked old.store (top.work.object - 1) committed.version.block committed.version done.each.0.draft.base.is.file v done.each.0.draft.base.is.listed last was)

  of_others : (i : ℕ) (it : Item) → slice_get more i ≡ Some it → (l : Link) × Contains left l × (l.member.object ≡ it.work.object)
  of_others i it here =
      let f = link_for old k scene.store members done.each.1 top.plan.members committed.news done.named i it here in
      (f.0, from_place left f.0 i f.1, f.2)

  links_here : HasLinks scene.store u top.work.object block top.plan.members left
  links_here =
      let had : HasLinks scene.store u top.work.object committed.version.block committed.version.members left =
      has_links k old scene u one more shared growth unlinked mine none named left each_left apart_left first_linked of_others in
      let at_block : committed.version.block ≡ block = some_is (sym committed.next.block ∙ top_is) in
      subst (λ b. HasLinks scene.store u top.work.object b top.plan.members left) at_block
      (subst (λ ms. HasLinks scene.store u top.work.object committed.version.block ms left) committed.next.members had)

  -- ---- the heads

  flush_of : (i : ℕ) (it : Item) → slice_get (one ∷ more) i ≡ Some it → IsFlushOf (top ∷ members) i it
  flush_of zero it here = subst (IsFlushOf (top ∷ members) zero) (some_is here) (record {
    renewal = top;
    at = refl;
    work_is = refl;
    block = committed.next.block;
    pages = flush_here old k scene.store top done.each.0 committed.version committed.new old.store.root.blocks committed.next;
  })
  flush_of (suc i) it here =
      let f : IsFlushOf members i it = flushes_at old k scene.store members done.each.1 committed.news old.store.root.blocks committed.each i it here in
      record { renewal = f.renewal; at = f.at; work_is = f.work_is; block = f.block; pages = f.pages }

  item_for : (i : ℕ) (r : Renewal) → slice_get (top ∷ members) i ≡ Some r → (it : Item) × (slice_get (one ∷ more) i ≡ Some it) × (r.work ≡ it.work)
  item_for i r here =
      let w : slice_get (works_in (one ∷ more)) i ≡ Some r.work =
      ap (λ ws. slice_get ws i) (works_there scripts k old line u top members block content states at shared sound may done top_is rewrites kept late) ∙ slice_get-map (λ (x : Renewal). x.work) (top ∷ members) i ∙ ap (option_map (λ (x : Renewal). x.work)) here in
      let b : Behind (λ (x : Item). x.work) (one ∷ more) i r.work = behind (λ (x : Item). x.work) (one ∷ more) i r.work w in
      (b.item, b.at, sym b.is)

  pub committed_then : AreCommitted scripts k old scene line u top members block at content states
  committed_then = record {
    to = to;
    links = record { committed = then_committed scripts old.standing k line u sound may at late; links = links_here };
    leaves = λ j ne. (
      leaves_links k old scene u one more shared growth unlinked mine none named j,
      leaves_names k old scene u one more shared growth unlinked mine none named j,
    );
    heads = heads_then old scene (one ∷ more) growth (top ∷ members) (table_like scripts k old line u top members block content states at shared sound may done top_is rewrites kept late).long flush_of item_for;
  }

pub commit_links_several : CommitLinksSeveral
commit_links_several scripts k old line u top members block content states at shared sound may done top_is rewrites kept late = (
  _,
  committed_then scripts k old line u top members block content states at shared sound may done top_is rewrites kept late,
)
