-- An update that clashes with no version after its base does on the last version what it did on its base.
use Rattle.std.proofs.Common.{◌≡◌, ◌⊎◌, inl, inr, ℕ, zero, suc, ◌+◌, ◌-◌, ◌≤◌, true, false, List, None, Contains, refl, sym, ap, ◌∙◌, subst, arith}
use Rattle.std.specs.FinSet as set
use Rattle.std.specs.List.{list_any}
use Rattle.std.proofs.lemmas.Bool.{cases_Bool}
use Rattle.std.proofs.lemmas.List.Elements.{All-contains}
use Rattle.tree_model.specs.declared.step.Step.{Step}
use Rattle.tree_model.specs.Accesses.{place_cmp, IsClash, reads_of, visible_of}
use Rattle.tree_model.specs.Merge.{ActsAlike}
use Rattle.tree_model.specs.States.{Version}
use Rattle.tree_model.specs.Trees.{Tree, IsTree, tree_after}
use Rattle.tree_model.proofs.Law.{law}
use Rattle.service_model.specs.declared.named.Named.{Named}
use Rattle.service_model.specs.Laws.{DoAlike}
use Rattle.service_model.specs.Legal.{IsCommittable, IsLater, IsUnclashed, IsUnreadOf}
use Rattle.service_model.specs.Sound.{IsSound, IsSoundUpdate, IsBased, IsKnown, IsOn, IsOpenAt, is_committing}
use Rattle.service_model.specs.Standing.{Scripts, Standing, Update, Work, Made, locked_by, versions_of, serial_of, last_tree}
use Rattle.service_model.proofs.Versions.{IsLiveAt, live_at, live_serial, live_tree, last_kept, not_later, of_serial, one_of_serial, place_of}

do_same : (a b : Tree) (steps : List Step) → a ≡ b → DoAlike a b steps
do_same a b steps e =
    let F : Tree → Type 0 = λ x. DoAlike a x steps in
    subst F e (record { replies = refl; reads = refl; writes = refl; visible = refl; fresh = refl })

-- by one version more
do_next : (a b : Tree) (steps theirs : List Step) → IsTree b → DoAlike a b steps → IsClash (reads_of a steps) (visible_of b theirs) None
    → DoAlike a (tree_after b theirs) steps
do_next a b steps theirs tree before clear =
    let F : set.FinSet place_cmp → Type 0 = λ x. IsClash x (visible_of b theirs) None in
    let same : reads_of a steps ≡ reads_of b steps = ap (λ l. set.from_list {R = place_cmp} l) (sym before.reads) in
    let next : ActsAlike b (tree_after b theirs) steps = law b steps theirs tree (subst F same clear) in
    record {
      replies = next.replies ∙ before.replies;
      reads = next.reads ∙ before.reads;
      writes = next.writes ∙ before.writes;
      visible = next.visible ∙ before.visible;
      fresh = next.fresh ∙ before.fresh;
    }

module _ (scripts : Scripts) (s : Standing) (k : ℕ) (w : Work) (sound : IsSound scripts s) (on : IsOn s k w) (clear : IsUnclashed s.made w) where
  update : IsSoundUpdate s.state s.made on.update
  update = sound.updates k on.update on.number on.is_open

  based : IsBased s.state w
  based = update.based w on.listed

  live : IsLiveAt s.state w.object
  live = live_at s.state w.object based.version sound.state based.kept

  tree_of : (v : Version) → Contains (versions_of s.state w.object) v → IsTree v.tree
  tree_of v h = (let p = place_of s.state w.object live v h in (live.sound.trees p.0 v p.1).tree)

  one_on : (n : ℕ) (u v : Version) → Contains (versions_of s.state w.object) u → Contains (versions_of s.state w.object) v
      → u.serial ≡ w.serial + n → v.serial ≡ w.serial + suc n → DoAlike w.base u.tree w.steps → DoAlike w.base v.tree w.steps
  one_on n u v hu hv is next before =
      let known : IsKnown s.state s.made w.object v = update.later w on.listed v hv (omega (arith, next)) in
      let serial = known.serial in
      let stood : u.tree ≡ known.made.before = known.before u hu (omega (arith, is, next)) in
      let unread : IsUnreadOf w known.made
      = All-contains (λ (m : Made). IsLater w m → IsUnreadOf w m) s.made known.made clear known.listed
      (known.of_object, omega (arith, serial, next)) in
      let F : Tree → Type 0 = λ x. IsClash (reads_of w.base w.steps) (visible_of x known.made.steps) None in
      let G : Tree → Type 0 = λ x. DoAlike w.base x w.steps in
      let leads : tree_after u.tree known.made.steps ≡ v.tree = ap (λ x. tree_after x known.made.steps) stood ∙ sym known.tree in
      subst G leads (do_next w.base u.tree w.steps known.made.steps (tree_of u hu) before (subst F (sym stood) unread))

  all_on : (n : ℕ) (v : Version) → Contains (versions_of s.state w.object) v → v.serial ≡ w.serial + n → DoAlike w.base v.tree w.steps
  all_on zero v h is =
      let base = based.serial in
      let same : based.version ≡ v = one_of_serial s.state w.object live based.version v based.kept h (omega (arith, base, is)) in
      do_same w.base v.tree w.steps (sym based.tree ∙ ap (λ (x : Version). x.tree) same)
  all_on (suc n) v h is =
      let base = based.serial in
      let low : v.serial ≤ serial_of s.state w.object = not_later s.state w.object live v h in
      let found = of_serial s.state w.object live based.version (w.serial + n) based.kept (omega (arith, base)) (omega (arith, low, is)) in
      one_on n found.0 v found.1 h found.2 is (all_on n found.0 found.1 found.2)

  -- the steps do on the last version what they did on the base
  pub do_alike : DoAlike w.base (last_tree s.state w.object) w.steps
  do_alike =
      let base = based.serial in
      let lasts = live_serial s.state w.object live in
      let low : based.version.serial ≤ serial_of s.state w.object = not_later s.state w.object live based.version based.kept in
      let F : Tree → Type 0 = λ x. DoAlike w.base x w.steps in
      subst F (sym (live_tree s.state w.object live))
      (all_on (live.last.serial - w.serial) live.last (last_kept s.state w.object live) (omega (arith, base, lasts, low)))

-- where a commit may be noted, the steps of each of its files do on the last version what they did on the base
pub commit_alike : (scripts : Scripts) (s : Standing) (k : ℕ) (u : Update) (made : List Named) → IsSound scripts s → 1 ≤ k → IsOpenAt s k u
    → IsCommittable s k u made → (w : Work) → Contains u.works w → DoAlike w.base (last_tree s.state w.object) w.steps
commit_alike scripts s k u made sound a open_is may w h = by (cases_Bool u.is_super)
  where
    on : IsOn s k w
    on = record { update = u; number = a; is_open = open_is; listed = h }

    base : IsBased s.state w
    base = (sound.updates k u a open_is).based w h

    stands : IsLiveAt s.state w.object
    stands = live_at s.state w.object base.version sound.state base.kept

    by : (u.is_super ≡ true) ⊎ (u.is_super ≡ false) → DoAlike w.base (last_tree s.state w.object) w.steps
    by (inr plain) =
        do_alike scripts s k w sound on
        (All-contains (λ (y : Work). (locked_by s k y.object ≡ None) × IsUnclashed s.made y) u.works w (may.unopposed plain) h).1
    by (inl super) =
        let last : w.serial ≡ serial_of s.state w.object
        = sound.locked k u a open_is super (ap (list_any is_committing) may.held) w h in
        let serial : base.version.serial ≡ stands.last.serial = base.serial ∙ last ∙ live_serial s.state w.object stands in
        let same : base.version ≡ stands.last
        = one_of_serial s.state w.object stands base.version stands.last base.kept (last_kept s.state w.object stands) serial in
        do_same w.base (last_tree s.state w.object) w.steps
        (sym base.tree ∙ ap (λ (x : Version). x.tree) same ∙ sym (live_tree s.state w.object stands))
