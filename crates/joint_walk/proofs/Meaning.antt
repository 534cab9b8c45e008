-- The laws of a walk's calls.
use Rattle.std.proofs.Common.{◌≡◌, ℕ, ◌+◌, ◌<◌, ◌&&◌, true, false, List, [], ◌∷◌, ◌++◌, length, refl, sym, ap, subst, ◌∙◌, Option, Some, None, option_map, arith, length-append, lt-ltb}
use Rattle.std.specs.Option.{option_map_or}
use Rattle.afs_base.specs.declared.kind.Kind.{Kind}
use Rattle.afs_base.specs.declared.kind.Kind.TheVariants.{Data}
use Rattle.ref_flags.specs.Flagged.{Flagged}
use Rattle.tree_model.specs.declared.step.Step.{Step}
use Rattle.tree_model.specs.Trees.{Tree}
use Rattle.tree_model.specs.Accesses.{Place}
use Rattle.tree_model.proofs.Law.{law}
use Rattle.page_codec.specs.Values.{PageValue}
use Rattle.page_places.specs.Places.{Store, block_at, slot_block, has_bit}
use Rattle.draft_model.specs.Views.{Copied, View, PageCopy, copy_of, copies, live}
use Rattle.draft_model.specs.Stands.{StandsFor}
use Rattle.draft_model.specs.Told.{flags_of, searched_of, modified_of, is_accessed}
use Rattle.draft_model.proofs.Feeding.{holds_tree}
use Rattle.joint_walk.proofs.Counting.{no_longer}
use Rattle.draft_model.proofs.Telling.{tells_masks}
use Rattle.draft_tree.specs.Drafts.{accessed_pages}
use Rattle.page_merge.specs.Jobs.{JobValue, clash_of, merged}
use Rattle.joint_walk.specs.Later.{AreMarks, IsLater}
use Rattle.joint_walk.specs.Pairs.{IsJobOf, accesses_child, settled_view}
use Rattle.joint_walk.specs.Walks.{Pending, Pair, WalkValue, IsJobAt, IsSetting, GoesOn, StateOf, IsUnderWay}
use Rattle.joint_walk.specs.Endings.{EndsBy}
use Rattle.joint_walk.specs.Calls.{fed_walk, top_of}
use Rattle.joint_walk.proofs.Using.{accessed_stands, all_accessed, accessed_test}
use Rattle.joint_walk.proofs.Walking.{settle_clean, settle_clash, fed_on, first, fresh_x, unfed_page, unfed_child}
use Rattle.joint_walk.proofs.Slots.{own_live}
use Rattle.joint_walk.proofs.Ending.{first_pending, top_accessed, begins, no_clash, carried, fed_exactly}

-- ---- the laws

-- a walk begins: whatever the draft stood for, with at least one step, the walk is under way to the version in block `root`
abbrev pub StartLaw : Type 0
StartLaw =
    (store : Store) (base root : ℕ) (a : Tree) (mine other : List Step) (d : View) (page : PageValue) (flags : Flagged) (job : JobValue)
    → StandsFor store base a mine d → 0 < length mine → IsLater store base root a other → AreMarks a other [] flags → store root ≡ Some page
    → IsJobOf (accessed_pages d) [] page flags job
    → IsUnderWay store base root a mine other 1 (fed_walk (accessed_pages d) (top_of root flags) [] page job None) (accessed_pages d)

-- the pair that waits is merged, where it does not clash
abbrev pub SettleLaw : Type 0
SettleLaw =
    (store : Store) (base root : ℕ) (a : Tree) (mine other : List Step) (n : ℕ) (w : WalkValue) (d : View) (x : Pair)
    → IsUnderWay store base root a mine other n w d → w.clash ≡ None → w.pair ≡ Some x → clash_of x.job ≡ None
    → IsUnderWay store base root a mine other n (record { pair = None; pending = w.pending; clash = None }) (settled_view d x.path (merged x.job))

-- .. and where it does, that is the least clash
abbrev pub ClashLaw : Type 0
ClashLaw =
    (store : Store) (base root : ℕ) (a : Tree) (mine other : List Step) (n : ℕ) (w : WalkValue) (d : View) (x : Pair) (kind : Kind)
    → IsUnderWay store base root a mine other n w d → w.clash ≡ None → w.pair ≡ Some x → clash_of x.job ≡ Some kind
    → IsUnderWay store base root a mine other n (record { pair = None; pending = []; clash = Some (x.path, kind) }) d

-- a page is fed, where no pair waits
abbrev pub FeedLaw : Type 0
FeedLaw =
    (store : Store) (base root : ℕ) (a : Tree) (mine other : List Step) (n : ℕ) (w : WalkValue) (d : View) (x : Pending) (tail : List Pending) (page : PageValue) (job : JobValue)
    → IsUnderWay store base root a mine other n w d → w.clash ≡ None → w.pair ≡ None → w.pending ≡ x ∷ tail → store x.block ≡ Some page → IsJobOf d x.path page x.flags job
    → IsUnderWay store base root a mine other (n + 1) (fed_walk d x tail page job None) d

-- the walk ends
abbrev pub EndLaw : Type 0
EndLaw =
    (store : Store) (base root : ℕ) (a : Tree) (mine other : List Step) (n : ℕ) (w : WalkValue) (d : View)
    → IsUnderWay store base root a mine other n w d → w.pair ≡ None → w.pending ≡ [] → EndsBy store root a mine other n d w.clash

pub fed_length : (fed : List (List ℕ)) (q : List ℕ) (n : ℕ) → length fed ≡ n → length (fed ++ q ∷ []) ≡ n + 1
fed_length fed q n e = let more = length-append fed (q ∷ []) in omega (arith, more, e)

-- the job of a draft that still shows there what it began with
job_at : (store : Store) (base root : ℕ) (a : Tree) (mine other : List Step) (start d : View) → IsSetting store base root a mine other start
    → (p : List ℕ) (b : ℕ) (page : PageValue) (flags : Flagged) (job : JobValue) → block_at store root p ≡ Some b → store b ≡ Some page → AreMarks a other p flags → flags.copied ≡ true
    → d p ≡ start p → ((k : ℕ) → d (p ++ k ∷ []) ≡ start (p ++ k ∷ [])) → IsJobOf d p page flags job → IsJobAt store root a mine other start p job
job_at store base root a mine other start d setting p b page flags job at holds marks copied here below J = record {
  block = b;
  at = at;
  theirs = holds ∙ ap Some (sym J.theirs_is);
  page = λ c is alive. J.mine ∙ own_live d p c (here ∙ is) alive;
  sixteen = J.sixteen;
  read = ap (λ (f : Flagged). f.read) J.marks ∙ ap (λ (o : Option Copied). (flags_of o).read) here ∙ read_is (start p) ∙ setting.stands.stands.read p Data tt;
  written = ap (λ (f : Flagged). f.written) J.marks ∙ ap (λ (o : Option Copied). (flags_of o).written) here ∙ written_is (start p) ∙ setting.stands.stands.written p Data tt;
  searched = λ k small. ap (λ m. has_bit m k) (J.searched ∙ ap searched_of here) ∙ (tells_masks start p store base a mine setting.stands).searched_is k small;
  modified = λ k small. ap (λ m. has_bit m k) (J.modified ∙ ap modified_of here) ∙ (tells_masks start p store base a mine setting.stands).modified_is k small;
  changed = ap (λ (f : Flagged). f.written) J.changed_is ∙ marks.written copied;
  kept = λ deep k small. J.kept k small ∙ ap (λ b. b && live (copies d) (p ++ k ∷ [])) (lt-ltb (length p) 7 deep) ∙ ap (λ (o : Option Copied). option_map_or (λ (c : PageCopy). c.live) (option_map copy_of o) false) (below k);
  short = J.short;
  leaf = J.leaf;
}
  where
    read_is : (o : Option Copied) → (flags_of o).read ≡ option_map_or (λ (c : Copied). c.read) o false
    read_is None = refl
    read_is (Some c) = refl

    written_is : (o : Option Copied) → (flags_of o).written ≡ option_map_or (λ (c : Copied). c.written) o false
    written_is None = refl
    written_is (Some c) = refl

pub settles : SettleLaw
settles store base root a mine other n w d x under clean waiting none =
    let goes : GoesOn store root a mine other under.start under.fed w d =
    let F : Option Place → Type 0 = StateOf store root a mine other under.start under.fed w d in subst F clean under.state in
    record {
      start = under.start;
      fed = under.fed;
      setting = under.setting;
      count = under.count;
      state = settle_clean store base root a mine other under.start under.setting under.fed w d goes x waiting none;
    }

pub clashs : ClashLaw
clashs store base root a mine other n w d x kind under clean waiting met =
    let goes : GoesOn store root a mine other under.start under.fed w d =
    let F : Option Place → Type 0 = StateOf store root a mine other under.start under.fed w d in subst F clean under.state in
    record {
      start = under.start;
      fed = under.fed;
      setting = under.setting;
      count = under.count;
      state = settle_clash store base root a mine other under.start under.setting under.fed w d goes x waiting kind met;
    }

-- feeding a page to a walk that goes on
goes_fed : (store : Store) (base root : ℕ) (a : Tree) (mine other : List Step) (start : View) (setting : IsSetting store base root a mine other start) (fed : List (List ℕ)) (w : WalkValue) (d : View)
    → GoesOn store root a mine other start fed w d → (x : Pending) (tail : List Pending) (page : PageValue) (job : JobValue)
    → w.pair ≡ None → w.pending ≡ x ∷ tail → store x.block ≡ Some page → IsJobOf d x.path page x.flags job
    → GoesOn store root a mine other start (fed ++ x.path ∷ []) (fed_walk d x tail page job None) d
goes_fed store base root a mine other start setting fed w d goes x tail page job idle next read J =
    let got = first store base root a mine other start setting fed w d goes idle x tail next in
    let fresh = fresh_x store base root a mine other start setting fed w d goes idle x tail next in
    let page_here = unfed_page store base root a mine other start setting fed w d goes idle x tail next in
    let below = unfed_child store base root a mine other start setting fed w d goes idle x tail next in
    fed_on store base root a mine other start setting fed w d goes idle x tail next page read job
    (job_at store base root a mine other start d setting x.path x.block page x.flags job got.at read got.marks (got.marks.copied ∙ fresh) page_here below J)
    (accesses_child d x.path) J.short
    (λ deep s small. ap (λ (o : Option Copied). option_map_or is_accessed o false) (below s) ∙ accessed_test store base a mine start setting.stands (x.path ++ s ∷ []))
    (λ deep s. ap (λ (y : PageValue). slot_block y s) (sym J.theirs_is) ∙ (J.leaf deep s).1)

pub feeds : FeedLaw
feeds store base root a mine other n w d x tail page job under clean idle next read J =
    let goes : GoesOn store root a mine other under.start under.fed w d =
    let F : Option Place → Type 0 = StateOf store root a mine other under.start under.fed w d in subst F clean under.state in
    record {
      start = under.start;
      fed = under.fed ++ x.path ∷ [];
      setting = under.setting;
      count = fed_length under.fed x.path n under.count;
      state = goes_fed store base root a mine other under.start under.setting under.fed w d goes x tail page job idle next read J;
    }

pub starts : StartLaw
starts store base root a mine other d page flags job stands some later marks read J =
    let tree = holds_tree store base a stands.base in
    let top = top_accessed a mine tree some in
    let setting : IsSetting store base root a mine other (accessed_pages d) = record {
      stands = accessed_stands store base a mine d stands;
      later = later;
      some = top;
      accessed = all_accessed store base a mine d stands top;
    } in
    record {
      start = accessed_pages d;
      fed = [] ∷ [];
      setting = setting;
      count = refl;
      state = goes_fed store base root a mine other (accessed_pages d) setting [] (first_pending root flags) (accessed_pages d) (begins store base root a mine other (accessed_pages d) setting flags marks)
          (top_of root flags) [] page job refl refl read J;
    }

pub ends : EndLaw
ends store base root a mine other n w d under idle all_read = by w.clash under.state
  where
    by : (x : Option Place) → StateOf store root a mine other under.start under.fed w d x → EndsBy store root a mine other n d x
    by None goes =
        let clean = no_clash store base root a mine other under.start under.setting under.fed w d goes idle all_read in
        let acts = law a mine other (holds_tree store base a under.setting.stands.base) clean in
        record {
          none = clean;
          stands = carried store base root a mine other under.start under.setting under.fed w d goes idle all_read;
          reads = acts.reads;
          writes = acts.writes;
          exactly = λ paths are. let both = fed_exactly store base root a mine other under.start under.setting under.fed w d goes idle all_read paths are in omega (arith, both.0, both.1, under.count);
        }
    by (Some x) met = record {
      clash = met.least;
      most = λ paths are. let most = no_longer under.fed paths met.rising (λ p h. are.each p ∙ met.shared p h) in omega (arith, most, under.count);
    }
