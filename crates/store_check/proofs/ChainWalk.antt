-- The walk along a chain of versions.
use Rattle.std.proofs.Common.{◌≡◌, ◌-◌, ℕ, zero, suc, cond, List, [], ◌∷◌, ◌++◌, length, Option, Some, None, option_map, Ok, Err, refl, sym, ap, ◌∙◌, arith, slice_get, length-append}
use Rattle.std.specs.List.{sum_by}
use Rattle.std.specs.Option.{is_none}
use Rattle.std.proofs.lemmas.List.Sums.{sum_by-cons}
use Rattle.page_places.specs.Places.{Store}
use Rattle.store_model.specs.Walk.{Blocks, Refused, and_then, bind, done, if_some}
use Rattle.store_model.specs.Laid.{LaidVersion, LaidFile, last_laid}
use Rattle.store_model.specs.Chains.{version_at, chain_from, chain_at}
use Rattle.store_check.specs.declared.version.FoundVersion.{FoundVersion}
use Rattle.store_check.specs.Before.{PagesLie}
use Rattle.store_check.specs.Versions.{shown_of}
use Rattle.store_check.specs.declared.chain.FoundFile.{FoundFile}
use Rattle.store_check.specs.Files.{first_serial, unset_base, kept_by, AllLie, LikeVersions, chain_of, chains_of}
use Rattle.store_check.specs.Counts.{kept_in, kept_of}
use Rattle.store_check.specs.Tops.{unset_of}
use Rattle.store_check.specs.Results.{Outcome}
use Rattle.store_check.proofs.Adding.{kept_first}
use Rattle.store_check.proofs.Passing.{prepended, prepended_nothing, prepended_twice}
use Rattle.store_check.proofs.Lying.{all_append}

-- the last one of versions to which one was added
pub last_added : (earlier : List LaidVersion) (version : LaidVersion) → last_laid (earlier ++ version ∷ []) ≡ Some version
last_added earlier version =
    ap (λ (n : ℕ). slice_get (earlier ++ version ∷ []) n) (let e : length (earlier ++ version ∷ []) - 1 ≡ length earlier = Prim.omega (arith, length-append earlier (version ∷ [])) in e)
    ∙ at_end earlier
  where
    at_end : (xs : List LaidVersion) → slice_get (xs ++ version ∷ []) (length xs) ≡ Some version
    at_end [] = refl
    at_end (x ∷ xs) = at_end xs

pub first_kept : (earlier : List LaidVersion) (version next : LaidVersion) → first_serial ((earlier ++ version ∷ []) ++ next ∷ []) ≡ first_serial (earlier ++ version ∷ [])
first_kept [] version next = refl
first_kept (x ∷ xs) version next = refl

last_cons : (x y : LaidVersion) (ys : List LaidVersion) → last_laid (x ∷ y ∷ ys) ≡ last_laid (y ∷ ys)
last_cons x y ys = ap (λ (n : ℕ). slice_get (x ∷ y ∷ ys) n) (let e : length (x ∷ y ∷ ys) - 1 ≡ suc (length (y ∷ ys) - 1) = Prim.omega arith in e)

ends : (x : LaidVersion) (xs : List LaidVersion) → (v : LaidVersion) × (last_laid (x ∷ xs) ≡ Some v)
ends x [] = (x, refl)
ends x (y ∷ ys) = let e = ends y ys in (e.0, last_cons x y ys ∙ e.1)

kept_chain : (versions : List LaidVersion) → kept_of (chain_of versions) ≡ kept_by versions
kept_chain [] = refl
kept_chain (x ∷ xs) =
    let first : ℕ = first_serial (x ∷ xs) in
    let unset : Option ℕ = unset_base (x ∷ xs) in
    let kept : ℕ = kept_by (x ∷ xs) in
    ap (λ o. kept_of (option_map (λ last. (let chain : FoundFile = record { last = shown_of last; first = first; unset = unset; kept = kept } in chain)) o)) (ends x xs).1

-- the blocks that are kept of all objects are those that the files hold
pub kept_heads : (files : List LaidFile) → sum_by kept_of (chains_of files) ≡ kept_in files
kept_heads [] = refl
kept_heads (file ∷ others) =
    Prim.omega (arith, kept_heads others, kept_chain file.versions, sum_by-cons kept_of (chain_of file.versions) (chains_of others), kept_first file others)

-- of versions to which one was added, the last one before is the last but one now
pub unset_added : (versions : List LaidVersion) (last version : LaidVersion) → last_laid versions ≡ Some last → unset_base (versions ++ version ∷ []) ≡ unset_of (shown_of last)
unset_added [] last version e = absurd cc
unset_added (x ∷ []) last version e = let same : x ≡ last = cc in ap (λ v. unset_of (shown_of v)) same
unset_added (x ∷ y ∷ []) last version e = unset_added (y ∷ []) last version (sym (last_cons x y []) ∙ e)
unset_added (x ∷ y ∷ z ∷ zs) last version e = unset_added (y ∷ z ∷ zs) last version (sym (last_cons x y (z ∷ zs)) ∙ e)

module _ (blocks : Blocks) (object : ℕ) where
  -- the last version in a chain
  pub chain_ends : (most : ℕ) (version : LaidVersion) (places : List ℕ) → version.commit ≡ None → chain_from blocks object most version places ≡ Ok (version ∷ [], places)
  unfolding chain_from bind if_some done
  chain_ends zero version places none = refl
  chain_ends (suc most) version places none =
      ap (λ o. and_then (if_some o (λ n. bind (version_at blocks object version.block n (Some version)) (chain_from blocks object most)) places) (λ later. done (version ∷ later))) none

  -- a chain of no more versions
  pub chain_cut : (version : LaidVersion) (places : List ℕ) → chain_from blocks object 0 version places ≡ Ok (version ∷ [], places)
  unfolding chain_from done
  chain_cut version places = refl

  pub chain_next : (most : ℕ) (version next : LaidVersion) (n : ℕ) (places after : List ℕ) → version.commit ≡ Some n
      → version_at blocks object version.block n (Some version) places ≡ Ok (next, after)
      → chain_from blocks object (suc most) version places ≡ prepended (version ∷ []) (chain_from blocks object most next after)
  unfolding chain_from bind if_some done
  chain_next most version next n places after some is =
      ap (λ o. and_then (if_some o (λ n. bind (version_at blocks object version.block n (Some version)) (chain_from blocks object most)) places) (λ later. done (version ∷ later))) some
      ∙ ap (λ r. and_then (and_then r (chain_from blocks object most)) (λ later. done (version ∷ later))) is
      ∙ of (chain_from blocks object most next after)
    where
      of : (o : Outcome (List LaidVersion)) → and_then o (λ later s. Ok (version ∷ later, s)) ≡ prepended (version ∷ []) o
      of (Ok p) = refl
      of (Err e) = refl

  pub chain_stops : (most : ℕ) (version : LaidVersion) (n : ℕ) (places : List ℕ) (e : Refused) → version.commit ≡ Some n
      → version_at blocks object version.block n (Some version) places ≡ Err e
      → chain_from blocks object (suc most) version places ≡ Err e
  unfolding chain_from bind if_some done
  chain_stops most version n places e some is =
      ap (λ o. and_then (if_some o (λ n. bind (version_at blocks object version.block n (Some version)) (chain_from blocks object most)) places) (λ later. done (version ∷ later))) some
      ∙ ap (λ r. and_then (and_then r (chain_from blocks object most)) (λ later. done (version ∷ later))) is

  -- the walk along a chain has come to a version
  pub record ChainSoFar (store : Store) (count : ℕ) (first : LaidVersion) (places : List ℕ) (most : ℕ) (last : FoundVersion) (seen : List ℕ) : Type 0 where
    pub earlier : List LaidVersion
    pub here : LaidVersion
    pub kept : last ≡ shown_of here
    pub begins : first_serial (earlier ++ here ∷ []) ≡ first.serial
    pub set : unset_base (earlier ++ here ∷ []) ≡ None
    pub lie : AllLie store count (earlier ++ here ∷ [])
    pub lies : PagesLie store count here.block here.nodes
    pub is : chain_from blocks object count first places ≡ prepended earlier (chain_from blocks object most here seen)

  pub chain_begin : (store : Store) (count : ℕ) (first : LaidVersion) (places : List ℕ) (kept : FoundVersion) → kept ≡ shown_of first → PagesLie store count first.block first.nodes
      → ChainSoFar store count first places count kept places
  chain_begin store count first places kept is lies = record {
    earlier = [];
    here = first;
    kept = is;
    begins = refl;
    set = refl;
    lie = (lies, tt);
    lies = lies;
    is = sym (prepended_nothing (chain_from blocks object count first places));
  }

  module _ (store : Store) (count : ℕ) (first : LaidVersion) (places : List ℕ) (last : FoundVersion) (seen : List ℕ) where
    -- it goes on to the next version
    pub chain_on : (most left : ℕ) (n : ℕ) (next : LaidVersion) (kept : FoundVersion) (after : List ℕ) → most ≡ suc left → (far : ChainSoFar store count first places most last seen)
        → last.commit ≡ Some n → kept ≡ shown_of next → PagesLie store count next.block next.nodes
        → version_at blocks object far.here.block n (Some far.here) seen ≡ Ok (next, after) → ChainSoFar store count first places left kept after
    chain_on most left n next kept after more far some is lies found = record {
      earlier = far.earlier ++ far.here ∷ [];
      here = next;
      kept = is;
      begins = first_kept far.earlier far.here next ∙ far.begins;
      set = unset_added (far.earlier ++ far.here ∷ []) far.here next (last_added far.earlier far.here)
          ∙ ap (λ (o : Option ℕ). cond (is_none o) (Some far.here.block) None) (sym (ap (λ v. v.commit) far.kept) ∙ some);
      lie = all_append (λ version. PagesLie store count version.block version.nodes) (far.earlier ++ far.here ∷ []) (next ∷ []) far.lie (lies, tt);
      lies = lies;
      is = far.is ∙ ap (λ (m : ℕ). prepended far.earlier (chain_from blocks object m far.here seen)) more
          ∙ ap (prepended far.earlier) (chain_next left far.here next n seen after (sym (ap (λ v. v.commit) far.kept) ∙ some) found)
          ∙ prepended_twice far.earlier (far.here ∷ []) (chain_from blocks object left next after);
    }

    pub chain_refused : (most left : ℕ) (n : ℕ) (e : Refused) → most ≡ suc left → (far : ChainSoFar store count first places most last seen)
        → last.commit ≡ Some n → version_at blocks object far.here.block n (Some far.here) seen ≡ Err e → chain_from blocks object count first places ≡ Err e
    chain_refused most left n e more far some stopped =
        far.is ∙ ap (λ (m : ℕ). prepended far.earlier (chain_from blocks object m far.here seen)) more
        ∙ ap (prepended far.earlier) (chain_stops left far.here n seen e (sym (ap (λ v. v.commit) far.kept) ∙ some) stopped)

    like_far : (most : ℕ) (far : ChainSoFar store count first places most last seen) → LikeVersions store count first.serial last (far.earlier ++ far.here ∷ [])
    like_far most far = record {
      is = ap Some far.kept ∙ sym (ap (option_map shown_of) (last_added far.earlier far.here));
      begins = far.begins;
      set = far.set;
      lie = far.lie;
    }

    -- it comes to its end
    pub chain_done : (most : ℕ) → ChainSoFar store count first places most last seen → last.commit ≡ None
        → (versions : List LaidVersion) × LikeVersions store count first.serial last versions × (chain_from blocks object count first places ≡ Ok (versions, seen))
    chain_done most far none = (
      far.earlier ++ far.here ∷ [],
      like_far most far,
      far.is ∙ ap (prepended far.earlier) (chain_ends most far.here seen (sym (ap (λ v. v.commit) far.kept) ∙ none)),
    )

    pub chain_spent : (most : ℕ) → most ≡ 0 → ChainSoFar store count first places most last seen
        → (versions : List LaidVersion) × LikeVersions store count first.serial last versions × (chain_from blocks object count first places ≡ Ok (versions, seen))
    chain_spent most zero_left far = (
      far.earlier ++ far.here ∷ [],
      like_far most far,
      far.is ∙ ap (λ (m : ℕ). prepended far.earlier (chain_from blocks object m far.here seen)) zero_left ∙ ap (prepended far.earlier) (chain_cut far.here seen),
    )

-- the whole chain, from its first version
module _ (blocks : Blocks) (object namer n : ℕ) (places : List ℕ) where
  pub first_stops : (e : Refused) → version_at blocks object namer n None places ≡ Err e → chain_at blocks object namer n places ≡ Err e
  unfolding chain_at bind
  first_stops e is = ap (λ r. and_then r (chain_from blocks object blocks.count)) is

  pub chain_is : (first : LaidVersion) (between : List ℕ) → version_at blocks object namer n None places ≡ Ok (first, between)
      → chain_at blocks object namer n places ≡ chain_from blocks object blocks.count first between
  unfolding chain_at bind
  chain_is first between is = ap (λ r. and_then r (chain_from blocks object blocks.count)) is

-- what is kept of a chain whose last version is kept
pub chain_kept : (store : Store) (count serial kept : ℕ) (last : FoundVersion) (versions : List LaidVersion) → LikeVersions store count serial last versions → kept ≡ kept_by versions
    → Some (let chain : FoundFile = record { last = last; first = serial; unset = None; kept = kept } in chain) ≡ chain_of versions
chain_kept store count serial kept last versions like counted = of (last_laid versions) like.is
  where
    of : (o : Option LaidVersion) → Some last ≡ option_map shown_of o
        → Some (let chain : FoundFile = record { last = last; first = serial; unset = None; kept = kept } in chain)
        ≡ option_map (λ v. record { last = shown_of v; first = first_serial versions; unset = unset_base versions; kept = kept_by versions }) o
    of None e = absurd cc
    of (Some v) e =
        let same : last ≡ shown_of v = cc in
        ap (λ (w : FoundVersion). Some (let chain : FoundFile = record { last = w; first = serial; unset = None; kept = kept } in chain)) same
        ∙ ap (λ (k : ℕ). Some (let chain : FoundFile = record { last = shown_of v; first = k; unset = None; kept = kept } in chain)) (sym like.begins)
        ∙ ap (λ (o : Option ℕ). Some (let chain : FoundFile = record { last = shown_of v; first = first_serial versions; unset = o; kept = kept } in chain)) (sym like.set)
        ∙ ap (λ (n : ℕ). Some (let chain : FoundFile = record { last = shown_of v; first = first_serial versions; unset = unset_base versions; kept = n } in chain)) counted
