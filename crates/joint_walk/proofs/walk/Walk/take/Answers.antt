use Rattle.std.proofs.Common.{◌≡◌, ℕ, List, ◌∷◌, ◌++◌, length, Some, option_map, sym, ap, subst, ◌∙◌}
use Rattle.std.specs.Option.{ForSome}
use Rattle.ref_flags.specs.Flagged.{Flagged}
use Rattle.joint_walk.specs.declared.walk.PathClash.{PathClash}
use Rattle.joint_walk.specs.Pairs.{IsJobOf, accesses_child}
use Rattle.joint_walk.specs.Walks.{Pending, WalkValue, wanted_children}
use Rattle.joint_walk.specs.Calls.{first_of, next_of, FedOn}
use Rattle.joint_walk.proofs.walk.Walk.take.Goals as goal

-- the level that is asked of the page for the first path that is to be read
level_is : (w : WalkValue) (x : Pending) (tail : List Pending) (level : ℕ) → w.pending ≡ x ∷ tail → ForSome (next_of w) (λ y. level ≡ length y.0) → level ≡ length x.path
level_is w x tail level next asked = asked (x.path, x.block) (ap (λ (ps : List Pending). option_map (λ (y : Pending). (y.path, y.block)) (first_of ps)) next)

pub add_children-requires-clause-level : goal.add_children-requires-clause-level
add_children-requires-clause-level g c =
    level_is c.args.self.now c.in-Some.next c.pop.new.self c.args.page.now.level (sym (ap (λ (v : WalkValue). v.pending) c.self.view_is) ∙ c.in-Some.ensures.value) c.requires.level
    ∙ sym (ap (λ (y : Pending). length y.path) c.next.view_is)

pub job_of-job-requires-clause-level : goal.job_of-job-requires-clause-level
job_of-job-requires-clause-level g c =
    level_is c.args.self.now c.in-Some.next c.pop.new.self c.args.page.now.level (sym (ap (λ (v : WalkValue). v.pending) c.self.view_is) ∙ c.in-Some.ensures.value) c.requires.level
    ∙ sym (ap (λ (y : Pending). length y.path) c.next.view_is)

pub returns-in-Some : goal.returns-in-Some
returns-in-Some g c =
    let d = g.D.Draft.view c.args.draft.now in
    let page = c.args.page.now in
    let w = c.args.self.now in
    let x = c.in-Some.next in
    let tail = c.pop.new.self in
    let job = c.job_of-job.result in
    let after : WalkValue = record {
      pair = Some (record { path = c.next.inside.path; job = job });
      pending = c.add_children.new.pending;
      clash = option_map (λ (e : PathClash). (e.path, e.kind)) c.self.inside.clash;
    } in
    let next : w.pending ≡ x ∷ tail = sym (ap (λ (v : WalkValue). v.pending) c.self.view_is) ∙ c.in-Some.ensures.value in
    let path_is : c.next.inside.path ≡ x.path = ap (λ (y : Pending). y.path) c.next.view_is in
    let flags_is : c.next.inside.flags ≡ x.flags = ap (λ (y : Pending). y.flags) c.next.view_is in
    let clash_is : after.clash ≡ w.clash = ap (λ (v : WalkValue). v.clash) c.self.view_is in
    let pending_is : after.pending ≡ wanted_children (accesses_child d x.path) x.path 0 page.refs ++ tail =
    c.add_children.ensures ∙ (λ i. wanted_children (accesses_child d (path_is i)) (path_is i) 0 page.refs ++ tail) in
    let F : List Pending → Type 0 = λ ps. FedOn d page w after ps in
    let G : List ℕ → Type 0 = λ p. IsJobOf d p page c.next.inside.flags job in
    let H : Flagged → Type 0 = λ f. IsJobOf d x.path page f job in
    subst F (sym next) (
      job,
      subst H flags_is (subst G path_is c.job_of-job.ensures),
      λ i. record { pair = Some (record { path = path_is i; job = job }); pending = pending_is i; clash = clash_is i },
    )
