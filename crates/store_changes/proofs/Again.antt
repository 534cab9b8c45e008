-- What a step of a chain is, and that the pages of a version that was read lie in its blocks.
use Rattle.std.proofs.Common.{◌≡◌, ℕ, suc, List, [], ◌∷◌, ◌⊎◌, inl, inr, Option, Some, None, option_map, Ok, refl, sym, ap, subst, ◌∙◌}
use Rattle.page_places.specs.Places.{Store}
use Rattle.store_model.specs.Walk.{Walk, bind, done, if_some}
use Rattle.store_model.specs.Laid.{LaidVersion}
use Rattle.store_model.specs.Chains.{version_at, chain_from}
use Rattle.store_model.specs.Laws.{pages_of}
use Rattle.store_model.proofs.Steps.{Content, blocks_of, Passed, passed, same_value, same_places}
use Rattle.store_model.proofs.Rewriting.{VersionRead, version_read}
use Rattle.store_model.proofs.Chaining.{Ended, Onward}
use Rattle.store_model.proofs.Reading.{ReadsVersion, reads_version}
use Rattle.store_model.proofs.Lying.{LieBelow, BeforeLies, own_lies, gives_below}
use Rattle.store_model.proofs.Held.{Lies}

abbrev onward : Content → ℕ → ℕ → ℕ → LaidVersion → Option ℕ → Walk (List LaidVersion)
onward c count object most u o =
    if_some o (λ block. bind (version_at (blocks_of c count) object u.block block (Some u)) (chain_from (blocks_of c count) object most))

-- a chain that was read with steps to go ended with its version, or went on
pub chain_split : (c : Content) (count object most : ℕ) (u : LaidVersion) (seen : List ℕ) (vs : List LaidVersion) (all : List ℕ)
    → chain_from (blocks_of c count) object (suc most) u seen ≡ Ok (vs, all) → Ended u seen vs all ⊎ Onward c count object most u seen vs all
unfolding chain_from bind if_some done
chain_split c count object most u seen vs all e = of u.commit refl e
  where
    of : (o : Option ℕ) → u.commit ≡ o → bind (onward c count object most u o) (λ later. done (u ∷ later)) seen ≡ Ok (vs, all)
        → Ended u seen vs all ⊎ Onward c count object most u seen vs all
    of None is h = inl (record { commit = is; list = sym (same_value seen all (u ∷ []) vs h); stays = sym (same_places seen all (u ∷ []) vs h) })
    of (Some block) is h =
        let p : Passed (bind (version_at (blocks_of c count) object u.block block (Some u)) (chain_from (blocks_of c count) object most) seen) _ vs all =
        passed (bind (version_at (blocks_of c count) object u.block block (Some u)) (chain_from (blocks_of c count) object most) seen) _ vs all h in
        let q : Passed (version_at (blocks_of c count) object u.block block (Some u) seen) (chain_from (blocks_of c count) object most) p.value p.places =
        passed (version_at (blocks_of c count) object u.block block (Some u) seen) (chain_from (blocks_of c count) object most) p.value p.places p.first in
        inr
        (record {
          block = block;
          next = q.value;
          mid = q.places;
          rest = p.value;
          commit = is;
          read = q.first;
          goes = q.second ∙ ap (λ z. Ok (p.value, z)) (same_places p.places all (u ∷ p.value) vs p.second);
          list = sym (same_value p.places all (u ∷ p.value) vs p.second);
        })

abbrev pub OneBefore : Store → Option LaidVersion → Type 0
OneBefore store None = Unit {0}
OneBefore store (Some version) = Lies store version

before_lies : (store : Store) (before : Option LaidVersion) → OneBefore store before → BeforeLies store (option_map (λ v. v.nodes) before)
before_lies store None h = tt
before_lies store (Some version) h = (version.block, h)

-- the pages of a version that was read, after one whose pages lie in their blocks
pub version_lies : (c : Content) (count object namer block : ℕ) (before : Option LaidVersion) → OneBefore (pages_of c) before
    → (seen : List ℕ) (u : LaidVersion) (all : List ℕ) → version_at (blocks_of c count) object namer block before seen ≡ Ok (u, all) → Lies (pages_of c) u
version_lies c count object namer block before lies seen u all e =
    let S : Store = pages_of c in
    let v : VersionRead c count object block before seen u all = version_read c count object namer block before seen u all e in
    let r : ReadsVersion S block v.page = reads_version c block v.bytes v.page v.holds v.reads in
    let below : LieBelow S [] 0 v.page.page.refs v.others =
    gives_below c count (option_map (λ w. w.nodes) before) (before_lies S before lies) 7 block [] v.page.page r.page r.level refl (block ∷ seen) v.others all v.below in
    subst (Lies S) (sym v.made)
    (own_lies S [] (record { flags = v.page.root; block = Some block }) block v.page.page v.others r.page.is r.level below)
