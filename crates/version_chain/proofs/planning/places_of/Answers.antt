use Rattle.std.proofs.Common.{◌≡◌, ◌+◌, ◌<◌, ℕ, List, Some, take, length, ap, sym, subst, ◌∙◌, arith, lit<}
use Rattle.std.specs.List.{slice_get}
use Rattle.tree_model.specs.Accesses.{written_paths}
use Rattle.draft_model.specs.Flush.{Placed}
use Rattle.version_chain.proofs.Written.{PlacesSoFar, got_is, written_some, none_yet, so_far_size, one_place, front_whole}
use Rattle.version_chain.proofs.planning.places_of.Goals as goal

pub held-next-requires : goal.held-next-requires
held-next-requires g c = omega (arith, c.requires.room, written_some (g.D.Draft.fresh_of c.args.draft.now))

pub places-init : goal.places-init
places-init g c = (
  none_yet c.args.map.now c.args.client c.args.from (written_paths (g.D.Draft.fresh_of c.args.draft.now)) c.new-places.result.items c.new-places.ensures,
  omega (arith, c.held-next.ensures.place),
)

pub next_held-block-requires : goal.next_held-block-requires
next_held-block-requires g c =
    omega (
      arith,
      c.requires.room,
      c.places.invariant.1,
      c.places-test.true,
      ap length (c.as_slice-paths.ensures.value ∙ c.paths_of-paths.ensures),
    )

pub push-requires : goal.push-requires
push-requires g c = (
  lit< tt,
  omega (
    arith,
    so_far_size c.args.map.now c.args.client c.args.from (written_paths (g.D.Draft.fresh_of c.args.draft.now)) c.places.places.items c.places.path-index c.places.invariant.0,
    c.places-test.true,
    c.as_slice-paths.ensures.fits,
  ),
)

pub places-preserved : goal.places-preserved
places-preserved g c =
    let paths = written_paths (g.D.Draft.fresh_of c.args.draft.now) in
    let paths_are = c.as_slice-paths.ensures.value ∙ c.paths_of-paths.ensures in
    let small : c.places.path-index < length paths = omega (arith, c.places-test.true, ap length paths_are) in
    let at : slice_get paths c.places.path-index ≡ Some c.path-item.result =
    ap (λ (ps : List (List ℕ)). slice_get ps c.places.path-index) (sym paths_are)
    ∙ got_is c.as_slice-paths.result.now c.places.path-index c.path-item.result c.places-test.true c.path-item.is in
    let F : List Placed → Type 0 = λ xs. PlacesSoFar c.args.map.now c.args.client c.args.from paths xs (c.places.path-index + 1) in (
      subst F (sym c.push.ensures.items)
          (one_place c.args.map.now c.args.client c.args.from paths c.places.places.items c.places.path-index c.path-item.result c.next_held-block.result
          c.places.invariant.0 small at c.next_held-block.ensures.held (c.next_held-block.ensures.none_between ∙ c.places.invariant.1)),
      omega (arith, c.behind-next.ensures, c.next_held-block.ensures.none_between, c.places.invariant.1),
    )

pub returns-clause-paths : goal.returns-clause-paths
returns-clause-paths g c =
    let paths = written_paths (g.D.Draft.fresh_of c.args.draft.now) in
    let all : c.places.path-index ≡ length paths =
    omega (arith, c.places-test.false, c.places.auto.path-index-end, ap length (c.as_slice-paths.ensures.value ∙ c.paths_of-paths.ensures)) in
    c.places.invariant.0.paths_are ∙ ap (λ (n : ℕ). take n paths) all ∙ front_whole paths
