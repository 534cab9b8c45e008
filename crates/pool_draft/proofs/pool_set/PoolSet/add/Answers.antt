use Rattle.std.proofs.Common.{◌≡◌, ◌<◌, ℕ, length, nat_eq, refl, sym, ap, subst, ◌∙◌, eqb-true, arith}
use Rattle.tree_model.proofs.Paths.{false_if}
use Rattle.page_codec.specs.Values.{VersionValue}
use Rattle.draft_model.specs.Views.{View}
use Rattle.draft_model.specs.Steps.{begun}
use Rattle.draft_model.specs.Stands.{Begins}
use Rattle.draft_model.specs.Entries.{shown}
use Rattle.draft_model.proofs.Feeding.{begins}
use Rattle.pool_draft.specs.Held.{tree_of}
use Rattle.pool_draft.specs.Roots.{AreDrafts, IsRootBegun, root_in, object_in, serial_in}
use Rattle.pool_draft.proofs.Roots.{drafts_added, base_kept, base_new, bases_more}
use Rattle.pool_draft.proofs.pool_set.PoolSet.add.Goals as goal

pub invariant_of-self-clause-drafts : goal.invariant_of-self-clause-drafts
invariant_of-self-clause-drafts c =
    let s = c.args.self.now in
    let j = c.begin_root.new.pages in
    let page = c.version.inside.page in
    let R : ℕ → Type 0 = λ n. IsRootBegun s.pages n page j in
    let D : ℕ → Type 0 = λ n. AreDrafts j n s.count s.fed in
    let fewer : length s.bases.items < 17 = omega (arith, c.len-number.ensures.value, c.len-number.ensures.fits, c.if-number-eq-MAX_ROOTS.false) in
    subst D (sym (bases_more s.bases.items c.push.new.self.items _ c.push.ensures.items))
    (drafts_added s.pages j (length s.bases.items) s.count s.fed page s.drafts fewer c.version.invariant.top (subst R c.len-number.ensures.value c.begin_root.ensures))

pub returns-clause-added : goal.returns-clause-added
returns-clause-added c put =
    let s = c.args.self.now in
    let j = c.begin_root.new.pages in
    let n = length s.bases.items in
    let page = c.version.inside.page in
    let R : ℕ → Type 0 = λ k. IsRootBegun s.pages k page j in
    let w : IsRootBegun s.pages n page j = subst R c.len-number.ensures.value c.begin_root.ensures in
    let view : shown (tree_of j n) ≡ begun c.args.version.now.page = (λ i p. w.begins p i) ∙ ap (λ (v : VersionValue). begun v.page) c.version.view_is in
    let F : View → Type 0 = λ d. Begins d c.args.at c.args.version.now.page in
    let is = base_new s.bases.items c.push.new.self.items _ c.push.ensures.items in
    record {
      roots = bases_more s.bases.items c.push.new.self.items _ c.push.ensures.items;
      view = view;
      begins = subst F (sym view) (begins c.args.at c.args.version.now.page);
      block = ap root_in is;
      object = ap object_in is ∙ ap (λ (v : VersionValue). v.object) c.version.view_is;
      serial = ap serial_in is ∙ ap (λ (v : VersionValue). v.serial) c.version.view_is;
      views = λ k off. ap shown (w.others k (false_if (nat_eq k n) (λ e. absurd (off (eqb-true k n e)))));
      bases = λ k below. base_kept s.bases.items c.push.new.self.items _ c.push.ensures.items k below;
      picked = w.picked;
      count = refl;
      fed = refl;
      frames = w.frames;
    }
