-- The walk over a version: its root, and then the pages below it.
use Rattle.std.proofs.Common.{◌≡◌, ◌==◌, ◌||◌, ◌&&◌, ◌+◌, length, ℕ, true, false, List, [], ◌∷◌, Option, Some, None, option_map, Ok, Err, refl, sym, ap, ◌∙◌}
use Rattle.std.specs.Option.{is_none}
use Rattle.page_codec.specs.declared.why.Why.TheVariants.{Object, Serial, Base, Code, Member}
use Rattle.page_codec.specs.Values.{VersionValue}
use Rattle.page_codec.specs.Causes.{version_of}
use Rattle.page_places.specs.Places.{same}
use Rattle.store_model.specs.Walk.{Blocks, Walk, Refused, and_then, bind, done, check, decoded, place}
use Rattle.store_model.specs.Laid.{Node, LaidVersion, is_block}
use Rattle.store_model.specs.Pages.{pages_below}
use Rattle.store_model.specs.Chains.{follows, has_no_members, root_node, version_at}
use Rattle.store_check.specs.declared.version.Prior.{Prior}
use Rattle.store_check.specs.Results.{Outcome}
use Rattle.store_check.specs.Versions.{prior_of, follows_prior, checked, root_at, tried_at}
use Rattle.store_check.proofs.Checks.{passes, fails, passes_last, fails_last}

-- ---- what follows a version

module _ (n : ℕ) (version : VersionValue) (prior : Prior) (places : List ℕ) where
  pub no_next : (version.serial == prior.serial + 1) ≡ false → follows_prior n version (Some prior) places ≡ Err (record { block = n; why = Serial })
  unfolding follows_prior
  no_next e = fails (version.serial == prior.serial + 1) n Serial _ places e

  pub no_base : (version.serial == prior.serial + 1) ≡ true → is_block prior.block version.base ≡ false → follows_prior n version (Some prior) places ≡ Err (record { block = n; why = Base })
  unfolding follows_prior
  no_base e f = passes (version.serial == prior.serial + 1) n Serial _ places e ∙ fails (is_block prior.block version.base) n Base _ places f

  pub no_copy : (version.serial == prior.serial + 1) ≡ true → is_block prior.block version.base ≡ true → version.root.copied ≡ false
      → follows_prior n version (Some prior) places ≡ Err (record { block = n; why = Code })
  unfolding follows_prior
  no_copy e f h = passes (version.serial == prior.serial + 1) n Serial _ places e ∙ passes (is_block prior.block version.base) n Base _ places f ∙ fails_last version.root.copied n Code places h

  pub is_copy : (version.serial == prior.serial + 1) ≡ true → is_block prior.block version.base ≡ true → version.root.copied ≡ true
      → follows_prior n version (Some prior) places ≡ Ok (true, places)
  unfolding follows_prior
  is_copy e f h = passes (version.serial == prior.serial + 1) n Serial _ places e ∙ passes (is_block prior.block version.base) n Base _ places f ∙ passes_last version.root.copied n Code places h

-- ---- the root, and then the pages

follows_is : (n : ℕ) (version : VersionValue) (before : Option LaidVersion) (places : List ℕ) → follows n version before places ≡ follows_prior n version (option_map prior_of before) places
unfolding follows follows_prior
follows_is n version None places = refl
follows_is n version (Some before) places = refl

-- what goes on after two walks in a row goes on after the second of them
pub further : {X Y Z : Type 0} (r : Outcome X) (first : X → Walk Z) (second : X → Walk Y) (next : Y → Walk Z)
    → ((x : X) (s : List ℕ) → first x s ≡ and_then (second x s) next) → and_then r first ≡ and_then (and_then r second) next
further (Ok p) first second next h = h p.0 p.1
further (Err e) first second next h = refl

-- what is found of a version whose root was read, with the pages below it
abbrev pub found_from : ℕ → VersionValue → List Node → LaidVersion
found_from n version others = record { serial = version.serial; block = n; commit = version.commit; members = version.members; nodes = root_node n version ∷ others }

abbrev pub after_root : Blocks → ℕ → Option LaidVersion → VersionValue → Walk LaidVersion
after_root blocks n before version = bind (pages_below blocks (option_map (λ v. v.nodes) before) 7 n [] version.page.refs) (λ others. done (found_from n version others))

pub root_then : (blocks : Blocks) (object namer n : ℕ) (before : Option LaidVersion) (places : List ℕ)
    → version_at blocks object namer n before places ≡ and_then (root_at blocks object namer n (option_map prior_of before) places) (after_root blocks n before)
unfolding version_at root_at checked bind done
root_then blocks object namer n before places =
    further (place blocks namer n places) _ _ (after_root blocks n before)
    (λ bytes s. further (decoded n (version_of bytes) s) _ _ (after_root blocks n before)
    (λ version s. further (check (version.object == object) n Object s) _ _ (after_root blocks n before)
    (λ _ s. ap (λ r. and_then r (λ _. bind (check (is_none version.commit || has_no_members version) n Member) (λ _. after_root blocks n before version))) (follows_is n version before s) ∙ further (follows_prior n version (option_map prior_of before) s) _ _ (after_root blocks n before)
    (λ _ s. further (check (is_none version.commit || has_no_members version) n Member s) _ _ (after_root blocks n before) (λ _ s. refl)))))

-- the root stops the walk
pub root_stops : (blocks : Blocks) (object namer n : ℕ) (before : Option LaidVersion) (prior : Option Prior) (places : List ℕ) (e : Refused)
    → prior ≡ option_map prior_of before → root_at blocks object namer n prior places ≡ Err e → version_at blocks object namer n before places ≡ Err e
root_stops blocks object namer n before prior places e same is =
    root_then blocks object namer n before places
    ∙ ap (λ o. and_then (root_at blocks object namer n o places) (after_root blocks n before)) (sym same)
    ∙ ap (λ r. and_then r (after_root blocks n before)) is

module _ (blocks : Blocks) (object namer n : ℕ) (before : Option LaidVersion) (prior : Option Prior) (places : List ℕ) (version : VersionValue) (between : List ℕ) (same : prior ≡ option_map prior_of before) (is : root_at blocks object namer n prior places ≡ Ok (version, between)) where
  at_root : version_at blocks object namer n before places ≡ after_root blocks n before version between
  at_root =
      root_then blocks object namer n before places
      ∙ ap (λ o. and_then (root_at blocks object namer n o places) (after_root blocks n before)) (sym same)
      ∙ ap (λ r. and_then r (after_root blocks n before)) is

  -- the pages stop it
  pub pages_stop : (e : Refused) → pages_below blocks (option_map (λ v. v.nodes) before) 7 n [] version.page.refs between ≡ Err e → version_at blocks object namer n before places ≡ Err e
  unfolding bind
  pages_stop e stopped = at_root ∙ ap (λ r. and_then r (λ others. done (found_from n version others))) stopped

  -- it comes to its end
  pub pages_end : (others : List Node) (after : List ℕ) → pages_below blocks (option_map (λ v. v.nodes) before) 7 n [] version.page.refs between ≡ Ok (others, after)
      → version_at blocks object namer n before places ≡ Ok (found_from n version others, after)
  unfolding bind done
  pages_end others after found = at_root ∙ ap (λ r. and_then r (λ others. done (found_from n version others))) found

-- ---- a member that is tried

module _ (blocks : Blocks) (object namer n : ℕ) (last : LaidVersion) (places : List ℕ) where
  pub tried_stops : (e : Refused) → version_at blocks object namer n (Some last) places ≡ Err e → tried_at blocks object namer n last places ≡ Err e
  unfolding tried_at bind
  tried_stops e is = ap (λ r. and_then r (λ version. bind (check (is_none version.commit && length version.members == 0) n Member) (λ _. done version))) is

  module _ (version : LaidVersion) (after : List ℕ) (is : version_at blocks object namer n (Some last) places ≡ Ok (version, after)) where
    pub tried_fails : (is_none version.commit && length version.members == 0) ≡ false → tried_at blocks object namer n last places ≡ Err (record { block = n; why = Member })
    unfolding tried_at bind
    tried_fails test =
        ap (λ r. and_then r (λ version. bind (check (is_none version.commit && length version.members == 0) n Member) (λ _. done version))) is
        ∙ fails (is_none version.commit && length version.members == 0) n Member (λ _. done version) after test

    pub tried_passes : (is_none version.commit && length version.members == 0) ≡ true → tried_at blocks object namer n last places ≡ Ok (version, after)
    unfolding tried_at bind done
    tried_passes test =
        ap (λ r. and_then r (λ version. bind (check (is_none version.commit && length version.members == 0) n Member) (λ _. done version))) is
        ∙ passes (is_none version.commit && length version.members == 0) n Member (λ _. done version) after test
