-- What the calls of a walk mean.
use Rattle.std.proofs.Common.{◌≡◌, ℕ, ◌+◌, List, [], ◌∷◌, ◌++◌, inl, inr, refl, sym, ap, subst, ◌∙◌, Option, Some, None, option_map}
use Rattle.afs_base.specs.declared.kind.Kind.{Kind}
use Rattle.ref_flags.specs.Flagged.{Flagged}
use Rattle.tree_model.specs.declared.step.Step.{Step}
use Rattle.tree_model.specs.Trees.{Tree}
use Rattle.tree_model.specs.Accesses.{Place}
use Rattle.page_codec.specs.Values.{PageValue}
use Rattle.page_places.specs.Places.{Store}
use Rattle.draft_model.specs.Views.{View}
use Rattle.draft_tree.specs.Drafts.{accessed_pages}
use Rattle.page_merge.specs.Jobs.{clash_of}
use Rattle.joint_walk.specs.Pairs.{IsJobOf}
use Rattle.joint_walk.specs.Walks.{Pending, Pair, WalkValue, is_shared, HasFed, GoesOn, HasClash, StateOf, IsUnderWay}
use Rattle.joint_walk.specs.Calls.{first_of, next_of, waiting_job, top_of, fed_walk, settled_by, draft_by, settled_if, draft_if, FedOn, FedBy, BeganWith, Starts, Settles, IsRead, Feeds, Ends}
use Rattle.joint_walk.proofs.Places.{none_some}
use Rattle.joint_walk.proofs.Walking.{rising_push, one_told, settle_clash}
use Rattle.joint_walk.proofs.Meaning.{starts, settles, clashs, feeds, ends, fed_length}

settle_by : (w : WalkValue) (d : View) (x : Pair) → w.pair ≡ Some x → (k : Option Kind) → clash_of x.job ≡ k → Settles w d (settled_by w x k) (draft_by d x k)
settle_by w d x waiting k e store base root a mine other n under = by w.clash refl under.state k e
  where
    by : (c : Option Place) → w.clash ≡ c → StateOf store root a mine other under.start under.fed w d c → (k : Option Kind) → clash_of x.job ≡ k
        → IsUnderWay store base root a mine other n (settled_by w x k) (draft_by d x k)
    by (Some y) clean met k e = none_some x w.pair met.pair waiting
    by None clean goes None e =
        let F : Option Place → Type 0 = λ c. IsUnderWay store base root a mine other n (record { pair = None; pending = w.pending; clash = c }) (draft_by d x None) in
        subst F (sym clean) (settles store base root a mine other n w d x under clean waiting e)
    by None clean goes (Some kind) e = clashs store base root a mine other n w d x kind under clean waiting e

pub settles_of : (w : WalkValue) (d : View) → Settles w d (settled_if w w.pair) (draft_if d w.pair)
settles_of w d = by w.pair refl
  where
    by : (p : Option Pair) → w.pair ≡ p → Settles w d (settled_if w p) (draft_if d p)
    by None e = λ store base root a mine other n under. under
    by (Some x) e = settle_by w d x e (clash_of x.job) refl

pub starts_of : (old new : View) (root : ℕ) (page : PageValue) (flags : Flagged) (w : WalkValue) → new ≡ accessed_pages old
    → BeganWith new root page flags w → Starts old new root page flags w
starts_of old new root page flags w is began store base a mine other stands some later marks read =
    let F : WalkValue → Type 0 = λ v. IsUnderWay store base root a mine other 1 v new in
    let G : View → Type 0 = λ e. IsUnderWay store base root a mine other 1 (fed_walk e (top_of root flags) [] page began.0 None) e in
    let H : View → Type 0 = λ e. IsJobOf e [] page flags began.0 in
    subst F (sym began.2) (subst G (sym is) (starts store base root a mine other old page flags began.0 stands some later marks read (subst H is began.1)))

-- a clash was found as a page was fed: that page was a shared one
clash_fed : (store : Store) (base root : ℕ) (a : Tree) (mine other : List Step) (n : ℕ) (w : WalkValue) (d : View) (x : Pair) (kind : Kind)
    → (under : IsUnderWay store base root a mine other n w d) → w.clash ≡ None → w.pair ≡ Some x → clash_of x.job ≡ Some kind → (y : Pending) (tail : List Pending) → w.pending ≡ y ∷ tail
    → IsUnderWay store base root a mine other (n + 1) (record { pair = None; pending = []; clash = Some (x.path, kind) }) d
clash_fed store base root a mine other n w d x kind under clean waiting met y tail next =
    let goes : GoesOn store root a mine other under.start under.fed w d =
    let F : Option Place → Type 0 = StateOf store root a mine other under.start under.fed w d in subst F clean under.state in
    let was = settle_clash store base root a mine other under.start under.setting under.fed w d goes x waiting kind met in
    let held : HasFed store root a mine other (y ∷ tail) under.fed = let F : List Pending → Type 0 = λ ps. HasFed store root a mine other ps under.fed in subst F next goes.has_fed in
    record {
      start = under.start;
      fed = under.fed ++ y.path ∷ [];
      setting = under.setting;
      count = fed_length under.fed y.path n under.count;
      state = record {
        least = was.least;
        pair = refl;
        pending = refl;
        rising = rising_push under.fed y.path held.rising held.wanted.0.ahead;
        shared = λ p h. elim (one_told under.fed y.path p h) [ inl e ↦ held.shared p e | inr e ↦ ap (is_shared a mine other) e ∙ held.wanted.0.shared ];
      };
    }

pub feeds_of : (w : WalkValue) (d : View) (page : PageValue) (after : WalkValue) → FedBy (draft_if d w.pair) page (settled_if w w.pair) after → Feeds w d page after (draft_if d w.pair)
feeds_of w d page after fed store base root a mine other n under read = by w.pair refl w.clash refl w.pending refl fed read
  where
    by : (p : Option Pair) → w.pair ≡ p → (c : Option Place) → w.clash ≡ c → (pending : List Pending) → w.pending ≡ pending
        → FedBy (draft_if d p) page (settled_if w p) after → IsRead store page w.pending
        → IsUnderWay store base root a mine other (n + 1) after (draft_if d p)
    by p e (Some y) f pending g fed read =
        let met : HasClash a mine other under.fed w y = let F : Option Place → Type 0 = StateOf store root a mine other under.start under.fed w d in subst F f under.state in
        let G : List Pending → Type 0 = IsRead store page in
        absurd (subst G met.pending read)
    by p e None f [] g fed read = let G : List Pending → Type 0 = IsRead store page in absurd (subst G g read)
    by None e None f (x ∷ tail) g fed read =
        let R : List Pending → Type 0 = IsRead store page in
        let G : List Pending → Type 0 = λ ps. FedOn d page w after ps in
        let got : FedOn d page w after (x ∷ tail) = subst G g fed in
        let H : WalkValue → Type 0 = λ v. IsUnderWay store base root a mine other (n + 1) v d in
        subst H (sym (got.2 ∙ ap (fed_walk d x tail page got.0) f)) (feeds store base root a mine other n w d x tail page got.0 under f e g (subst R g read) got.1)
    by (Some v) e None f (x ∷ tail) g fed read = each (clash_of v.job) refl fed
      where
        each : (k : Option Kind) → clash_of v.job ≡ k → FedBy (draft_by d v k) page (settled_by w v k) after → IsUnderWay store base root a mine other (n + 1) after (draft_by d v k)
        each (Some kind) m is =
            let H : WalkValue → Type 0 = λ y. IsUnderWay store base root a mine other (n + 1) y d in
            subst H (sym is) (clash_fed store base root a mine other n w d v kind under f e m x tail g)
        each None m fed_now =
            let w1 : WalkValue = settled_by w v None in
            let d1 : View = draft_by d v None in
            let mid : IsUnderWay store base root a mine other n w1 d1 = settle_by w d v e None m store base root a mine other n under in
            let R : List Pending → Type 0 = IsRead store page in
            let G : List Pending → Type 0 = λ ps. FedOn d1 page w1 after ps in
            let got : FedOn d1 page w1 after (x ∷ tail) = subst G g fed_now in
            let H : WalkValue → Type 0 = λ y. IsUnderWay store base root a mine other (n + 1) y d1 in
            subst H (sym (got.2 ∙ ap (fed_walk d1 x tail page got.0) f)) (feeds store base root a mine other n w1 d1 x tail page got.0 mid f refl g (subst R g read) got.1)

-- no pair waits, and none is to be read
no_pair : (o : Option Pair) → option_map (λ (x : Pair). x.job) o ≡ None → o ≡ None
no_pair None h = refl
no_pair (Some x) h = absurd (cc h)

none_next : (pending : List Pending) → option_map {U = List ℕ × ℕ} (λ (x : Pending). (x.path, x.block)) (first_of pending) ≡ None → pending ≡ []
none_next [] h = refl
none_next (x ∷ pending) h = absurd (cc h)

pub ends_of : (w : WalkValue) (d : View) → waiting_job w ≡ None → next_of w ≡ None → Ends w d w.clash
ends_of w d idle all_read store base root a mine other n under =
    ends store base root a mine other n w d under (no_pair w.pair idle) (none_next w.pending all_read)
