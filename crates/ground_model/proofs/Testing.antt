-- A test-and-set of the commit reference that a draft was merged with last: what it came to, and where its write failed what is kept of the run.
use Rattle.std.proofs.Common.{◌≡◌, ◌≢◌, inl, inr, ℕ, zero, suc, ◌<◌, ◌≤◌, ◌^◌, cond, nat_eq, List, [], ◌∷◌, map, Option, Some, None, Result, Ok, Err, refl, sym, ap, ◌∙◌, subst, arith, eq-eqb, ne_eqb}
use Rattle.std.proofs.lemmas.Bool.{cases_eq}
use Rattle.std.proofs.lemmas.List.{length-map}
use Rattle.std.specs.Option.{option_and_then}
use Rattle.block_map.specs.States.{Replaces, is_held, state_at}
use Rattle.block_map.specs.declared.states.BlockState.{BlockState}
use Rattle.block_map.specs.declared.states.BlockState.TheVariants.{Kept}
use Rattle.page_codec.specs.Causes.{version_of}
use Rattle.page_codec.specs.declared.why.Why.{Why}
use Rattle.page_codec.specs.Values.{VersionValue}
use Rattle.page_codec.proofs.FrameLaws.{IsBlock}
use Rattle.drives.specs.declared.device.Half.{Half}
use Rattle.pair_store.specs.Answers.{HasCommit, HasNoVersion, IsUntorn, LeftAlone}
use Rattle.pair_store.specs.Pages.{with_commit as commit_bytes}
use Rattle.pair_store.specs.declared.fault.PairFault.{PairFault}
use Rattle.pair_store.specs.declared.fault.PairFault.TheVariants.{ReadFault, WriteFault, BothClosed, BadPage}
use Rattle.pair_store.specs.declared.outcome.Tas.{Tas}
use Rattle.pair_store.specs.declared.outcome.Tas.TheVariants.{Set, Taken}
use Rattle.pair_store.specs.declared.store.Blocks.{Ghosts}
use Rattle.recovery.proofs.Places.{laid_fits}
use Rattle.service_model.specs.declared.journal.Entry.{Entry}
use Rattle.service_model.specs.Sound.{IsSound}
use Rattle.service_model.specs.Standing.{Scripts, Standing, start}
use Rattle.service_model.proofs.Keeps.{journal_sound}
use Rattle.store_changes.specs.Writes.{Content}
use Rattle.store_model.specs.Changes.{Rewrites, with_commit}
use Rattle.store_model.specs.Laws.{read_of}
use Rattle.store_model.proofs.Edits.{none_some, some_is}
use Rattle.store_model.proofs.PageBytes.{read_committed}
use Rattle.tree_model.specs.States.{State}
use Rattle.tree_model.specs.Trees.{Tree}
use Rattle.version_chain.specs.Flush.{base_of}
use Rattle.ground_model.specs.Commits.{IsLinkedTo, commit_entry}
use Rattle.ground_model.specs.Names.{NamesNext}
use Rattle.ground_model.specs.Own.{HasMerged, IsBase, IsFlushing}
use Rattle.ground_model.specs.Runs.{IsRead, Stands}
use Rattle.ground_model.specs.Scenes.{Scene, IsLinking}
use Rattle.ground_model.specs.Shows.{ShowsVersion}
use Rattle.ground_model.specs.Tests.{HasTested, IsSetBy, IsTorn, LinkCame, LinkStops, MergedIsWritten, SetRewrites}
use Rattle.ground_model.proofs.Committing.{commit_links}
use Rattle.ground_model.proofs.LinkTurns.{moments_by}
use Rattle.ground_model.proofs.Naming.{commit_names}
use Rattle.ground_model.proofs.Shows.{base_shows, root_within}
use Rattle.ground_model.proofs.Stopping.{write_stops_run}

-- ---- where nothing was written

read_only : {D : Type 0} (b : Ghosts D) → b.tells → (before after : D) (n next : ℕ) (result : Result Tas PairFault) → HasTested b before after n next result
    → LeftAlone result → IsUntorn result → IsRead b before after
read_only b told before after n next result t alone untorn = record {
  size = t.size;
  same = t.unwritten told alone;
  settled = λ k s. t.kept told untorn k (inr alone) s;
  settled_always = λ k s. t.kept_always untorn k (inr alone) s;
  images = t.images_unwritten alone;
}

ok_is : {X E : Type 0} (x y : X) → (let r : Result X E = Ok x in r) ≡ Ok y → x ≡ y
ok_is x y e = cc

not_ok : {X E : Type 0} (e : E) (x : X) → (let r : Result X E = Err e in r) ≡ Ok x → ⊥
not_ok e x h = cc

-- ---- what it came to

module _ {D : Type 0} (b : Ghosts D) (told : b.tells) (whole : (s : D) (n : ℕ) (body : List ℕ) → n < b.size s → b.content s n ≡ Some body → IsBlock body) where
  module _ (opening : State) (scripts : Scripts) (first : ℕ) (scene : Scene) (before after : D) (es : List Entry) (object serial root top : ℕ) (tree : Tree)
      (st : Stands b opening scripts first scene before es) (base : IsBase scene object serial root tree) (free : IsLinking scene.standing object → ⊥)
      (low : 1 ≤ top) (high : top < 2 ^ 28) where
    shown : ShowsVersion scene object serial root
    shown = base_shows scene object serial root tree st.shared base

    here : b.content before root ≡ Some shown.body
    here = ap (λ (c : Content). c root) (sym st.content) ∙ shown.holds

    block : IsBlock shown.body
    block =
        let fits = laid_fits scene.content scene.most scene.store scene.places st.shared.laid in
        let size = st.most in
        let below = shown.lies.high in
        whole before root shown.body (omega (arith, fits, size, below)) here

    -- the bytes with the link are read as the page with it
    linked : version_of (commit_bytes top shown.body) ≡ Ok (with_commit top shown.page)
    linked = read_committed shown.body shown.page top block shown.reads low high

    sure : b.settled before root
    sure = st.settled root shown.lies.high

    names : NamesNext scene object serial shown.page.commit
    names = commit_names scene object serial root tree shown.page st.shared free base shown.held

    -- what the answer found there is this page
    found_page : (o : Option ℕ) → HasCommit (b.content before root) o → shown.page.commit ≡ o
    found_page o (bytes, page, holds, read, commit) =
        let same : bytes ≡ shown.body = some_is (sym holds ∙ here) in
        let one : page ≡ shown.page = ok_is {E = Why} page shown.page (sym read ∙ ap version_of same ∙ shown.reads) in
        ap (λ (v : VersionValue). v.commit) (sym one) ∙ commit

    never_bad : (why : Why) → HasNoVersion (b.content before root) why → ⊥
    never_bad why (bytes, holds, read) =
        let same : bytes ≡ shown.body = some_is (sym holds ∙ here) in
        not_ok {X = VersionValue} why shown.page (sym read ∙ ap version_of same ∙ shown.reads)

    set_here : HasTested b before after root top (Ok Set) → IsSetBy b scene before after object serial root top
    set_here t = record {
      last = names.none (found_page None (t.answer told sure));
      bytes = commit_bytes top shown.body;
      put = record {
        size = t.size;
        here = t.written told sure shown.body here tt;
        others = t.others told;
        settled = λ n s. elim (cases_eq n root) [
          | inl e ↦ subst (λ m. b.settled after m) (sym e) (t.settles told tt)
          | inr ne ↦ t.kept told tt n (inl ne) s
        ];
        settled_always = λ n s. elim (cases_eq n root) [
          | inl e ↦ subst (λ m. b.settled_always after m) (sym e) (t.settles_always told tt)
          | inr ne ↦ t.kept_always tt n (inl ne) s
        ];
        later = t.later;
        images = λ always. t.images told always shown.body here;
      };
      rewrites = record {
        page = shown.page;
        was = shown.held;
        is =
            ap (option_and_then (λ bytes. read_of (version_of bytes))) (t.written told sure shown.body here tt)
            ∙ ap read_of linked;
        others = λ n ne. ap (λ (c : Content). c n) st.content ∙ sym (t.others told n ne);
      };
    }

    torn_here : (half : Half) → HasTested b before after root top (Err (WriteFault half)) → IsTorn b scene before after object serial root top
    torn_here half t = record {
      last = names.none (found_page None (t.answer told sure));
      page = shown.page;
      was = shown.held;
      bytes = commit_bytes top shown.body;
      linked = linked;
      size = t.size;
      either = t.either told sure shown.body here;
      later = t.later;
      images = λ always. t.images told always shown.body here;
    }

    came : (result : Result Tas PairFault) → HasTested b before after root top result → LinkCame b scene before after object serial root top result
    came (Ok Set) t = set_here t
    came (Ok (Taken by)) t = record {
      next = names.some by (found_page (Some by) (t.answer told sure));
      read = read_only b told before after root top (Ok (Taken by)) t tt tt;
    }
    came (Err (ReadFault half)) t = read_only b told before after root top (Err (ReadFault half)) t tt tt
    came (Err (WriteFault half)) t = torn_here half t
    came (Err (BothClosed n)) t = none_some (sym (t.answer told sure).1 ∙ here)
    came (Err (BadPage n why)) t = never_bad why (t.answer told sure).1

  pub set_rewrites : SetRewrites b
  set_rewrites opening scripts first scene before after es object serial root top tree result st base free low high t =
      came opening scripts first scene before after es object serial root top tree st base free low high result t

-- ---- the commit

pub merged_is_written : MergedIsWritten
merged_is_written scene k w upto root tree d plan merged flush all alone number last = record {
  merged = subst (λ n. HasMerged scene w n root tree d) last merged;
  flush = subst (λ n. IsFlushing scene k d (base_of root w.object n) plan) last flush;
  all = all;
  alone = alone;
  number = number;
}

-- what a client held is kept
pub replaced : ℕ → List BlockState → List BlockState
replaced k states = map (λ (s : BlockState). cond (is_held k s) Kept s) states

pub replaces : (k : ℕ) (states : List BlockState) → Replaces k Kept states (replaced k states)
unfolding replaced
replaces k states = record { size = length-map states (λ (s : BlockState). cond (is_held k s) Kept s); states = each states }
  where
    each : (xs : List BlockState) (n : ℕ) → state_at (replaced k xs) n ≡ cond (is_held k (state_at xs n)) Kept (state_at xs n)
    each [] n = refl
    each (x ∷ xs) zero = refl
    each (x ∷ xs) (suc n) = each xs n

-- the contents with other bytes in one block
pub written_in : Content → ℕ → List ℕ → Content
written_in c block bytes n = cond (nat_eq n block) (Some bytes) (c n)

pub here_now : (c : Content) (block : ℕ) (bytes : List ℕ) → written_in c block bytes block ≡ Some bytes
unfolding written_in
here_now c block bytes = ap (λ t. cond t (Some bytes) (c block)) (eq-eqb block block refl)

pub others_then : (c : Content) (block : ℕ) (bytes : List ℕ) (n : ℕ) → n ≢ block → written_in c block bytes n ≡ c n
unfolding written_in
others_then c block bytes n ne = ap (λ t. cond t (Some bytes) (c n)) (ne_eqb n block ne)

-- what stands in a run is sound
pub standing_sound : {D : Type 0} (b : Ghosts D) (opening : State) (scripts : Scripts) (first : ℕ) (scene : Scene) (store : D) (es : List Entry)
    → Stands b opening scripts first scene store es → IsSound scripts scene.standing
standing_sound b opening scripts first scene store es st = journal_sound opening scripts es scene.standing st.fitting.fit st.sayable st.reaches

module _ {D : Type 0} (b : Ghosts D) (settled_left : (s : D) (n : ℕ) (f : Content) → b.settled_always s n → b.may_leave s (b.moment s) f → f n ≡ b.content s n) where
  pub link_stops : LinkStops b
  link_stops opening scripts first k scene before after journal line u w upto root top tree d plan st may written first_is torn doubt =
      let early = moments_by scripts (start opening scripts) journal.entries.items (b.moment before) (omega arith) st.past in
      let reached : scene.standing.moment ≤ b.moment before = subst (λ (s : Standing). s.moment ≤ b.moment before) st.reaches.leads early in
      let later = torn.later in
      let content : Content = written_in scene.content root torn.bytes in
      let rewrites : Rewrites scene.content (written_in scene.content root torn.bytes) root (with_commit top) =
      record {
        page = torn.page;
        was = torn.was;
        is = ap (option_and_then (λ bytes. read_of (version_of bytes))) (here_now scene.content root torn.bytes) ∙ ap read_of torn.linked;
        others = λ n ne. sym (others_then scene.content root torn.bytes n ne);
      } in
      let links = commit_links scripts k scene line u w root top tree d plan (written_in scene.content root torn.bytes) (replaced k scene.states) (b.moment after)
      st.shared (standing_sound b opening scripts first scene before journal.entries.items st) may written first_is rewrites (replaces k scene.states)
      (omega (arith, reached, later)) in
      let to : IsLinkedTo scripts k scene links.0 (commit_entry scene.standing k line u (b.moment after)) (written_in scene.content root torn.bytes) (replaced k scene.states) = links.1 in
      write_stops_run b settled_left opening scripts first scene links.0 before after root torn.bytes journal (commit_entry scene.standing k line u (b.moment after))
      st doubt to.leads.shared to.lawful to.standing (record {
        within = root_within scene k w root tree d plan st.shared written;
        here = ap (λ (c : Content). c root) to.content_is ∙ here_now scene.content root torn.bytes;
        others = λ n ne. ap (λ (c : Content). c n) to.content_is ∙ others_then scene.content root torn.bytes n ne;
        most = to.most;
        blocks = to.blocks;
        size = torn.size;
        either = torn.either;
        images = torn.images;
      })
