-- The walk over the members of other files.
use Rattle.std.proofs.Common.{◌≡◌, ◌≢◌, ◌==◌, ◌&&◌, ◌+◌, ◌-◌, ◌<◌, ◌≤◌, nat_eq, ℕ, zero, suc, Bool, true, false, cond, if◌then◌else◌, List, [], ◌∷◌, ◌++◌, length, drop, map, set, Option, Some, None, option_map, Result, Ok, Err, refl, sym, ap, subst, ◌∙◌, arith, slice_get, eq-eqb, get_or, add-one}
use Rattle.std.proofs.lemmas.List.{length-map}
use Rattle.std.proofs.Math.Seq.{drop-cons}
use Rattle.std.proofs.Math.ListN.{drop_of_length-le}
use Rattle.std.proofs.lemmas.Option.{slice_get-map, get_or_from_slice_get}
use Rattle.block_map.proofs.Marking.{slice_get-lt}
use Rattle.std.specs.List.{AllByRecursion, list_any}
use Rattle.std.specs.Option.{is_none, option_and_then}
use Rattle.std.proofs.lemmas.Bool.Decides.{nat_tests}
use Rattle.drives.specs.declared.device.Half.{Half}
use Rattle.page_codec.specs.declared.why.Why.TheVariants.{Member}
use Rattle.page_codec.specs.Values.{MemberValue}
use Rattle.page_places.specs.Places.{Store}
use Rattle.store_model.specs.Walk.{Blocks, Walk, Refused, and_then, bind, done, refuse, check}
use Rattle.store_model.specs.Laid.{LaidVersion, LaidFile, last_laid}
use Rattle.store_model.specs.Chains.{version_at}
use Rattle.store_model.specs.Members.{Top as ModelTop, Linked as ModelLinked, names_none, last_in, with_version_at, version_linked, member_linked, members_linked, tops_linked}
use Rattle.store_check.specs.declared.refused.WalkRefused.{WalkRefused}
use Rattle.store_check.specs.declared.refused.WalkRefused.TheVariants.{BadStore}
use Rattle.store_check.specs.declared.version.Prior.{Prior}
use Rattle.store_check.specs.declared.version.FoundVersion.{FoundVersion}
use Rattle.store_check.specs.declared.chain.FoundFile.{FoundFile}
use Rattle.store_check.specs.declared.tops.Top.{Top}
use Rattle.store_check.specs.declared.tops.Linked.{Linked}
use Rattle.store_check.specs.Before.{PagesLie}
use Rattle.store_check.specs.Versions.{prior_of, shown_of, tried_at}
use Rattle.store_check.specs.Files.{first_serial, unset_base, own_pages, kept_by, chain_of, chains_of, AllLie, FilesLie}
use Rattle.store_check.specs.Counts.{kept_in}
use Rattle.store_check.specs.Tops.{LikeLinked, at_object, may_link, prior_in, shown_top, unset_of, with_last}
use Rattle.store_check.specs.Results.{StopsBy}
use Rattle.store_check.proofs.Lying.{all_append}
use Rattle.store_check.proofs.VersionWalk.{further}
use Rattle.store_check.proofs.Adding.{kept_first, kept_longer}
use Rattle.store_check.proofs.ChainWalk.{last_added, unset_added}

-- ---- one version

pub equal_test : (x y : ℕ) → x ≡ y → (x == y) ≡ true
equal_test x y e = eq-eqb x y e

pub other_test : (x y : ℕ) → x ≢ y → (x == y) ≡ false
other_test x y ne = Prim.grind (arith, nat_tests)

module _ (blocks : Blocks) (namer : ℕ) (member : MemberValue) (last : LaidVersion) (files : List LaidFile) (places : List ℕ) where
  abbrev longer_files : LaidVersion → List LaidFile
  longer_files version = with_version_at (member.object - 1) version files

  pub linked_already : (last.block == member.block) ≡ true → version_linked blocks namer member last files places ≡ Ok (files, places)
  unfolding version_linked done
  linked_already test = ap (λ b. cond b (done files) (bind (version_at blocks member.object namer member.block (Some last)) (λ version. bind (check (is_none version.commit && names_none version) member.block Member) (λ _. done (longer_files version)))) places) test

  tried_first : (last.block == member.block) ≡ false
      → version_linked blocks namer member last files places ≡ and_then (tried_at blocks member.object namer member.block last places) (λ version. done (longer_files version))
  unfolding version_linked tried_at bind done
  tried_first test =
      ap (λ b. cond b (done files) (bind (version_at blocks member.object namer member.block (Some last)) (λ version. bind (check (is_none version.commit && names_none version) member.block Member) (λ _. done (longer_files version)))) places) test
      ∙ further (version_at blocks member.object namer member.block (Some last) places) _ _ (λ version. done (longer_files version))
      (λ version s. further (check (is_none version.commit && names_none version) member.block Member s) _ _ (λ version. done (longer_files version)) (λ _ s. refl))

  pub linked_stops : (last.block == member.block) ≡ false → (e : Refused) → tried_at blocks member.object namer member.block last places ≡ Err e
      → version_linked blocks namer member last files places ≡ Err e
  linked_stops test e is = tried_first test ∙ ap (λ r. and_then r (λ version. done (longer_files version))) is

  pub linked_found : (last.block == member.block) ≡ false → (version : LaidVersion) (after : List ℕ) → tried_at blocks member.object namer member.block last places ≡ Ok (version, after)
      → version_linked blocks namer member last files places ≡ Ok (longer_files version, after)
  unfolding done
  linked_found test version after is = tried_first test ∙ ap (λ r. and_then r (λ version. done (longer_files version))) is

-- ---- files with one more version

-- the last version at a place
abbrev last_at : ℕ → List LaidFile → Option LaidVersion
last_at i files = option_and_then (λ file. last_laid file.versions) (slice_get files i)

pub record Longer (files : List LaidFile) (i : ℕ) (laid version : LaidVersion) : Type 0 where
  pub chain : FoundFile
  pub was : slice_get (chains_of files) i ≡ Some (Some chain)
  pub shows : chain.last ≡ shown_of laid
  pub is : chains_of (with_version_at i version files) ≡ set (chains_of files) i (Some (with_last (shown_of version) (own_pages version) chain))
  pub few : chain.kept ≤ kept_in files

first_stays : (versions : List LaidVersion) (laid version : LaidVersion) → last_laid versions ≡ Some laid → first_serial (versions ++ version ∷ []) ≡ first_serial versions
first_stays [] laid version e = absurd cc
first_stays (x ∷ xs) laid version e = refl

abbrev kept_as : FoundVersion → ℕ → Option ℕ → ℕ → FoundFile
kept_as last first unset kept = record { last = last; first = first; unset = unset; kept = kept }

pub longer_is : (files : List LaidFile) (i : ℕ) (laid version : LaidVersion) → last_at i files ≡ Some laid → Longer files i laid version
longer_is [] i laid version e = absurd cc
longer_is (file ∷ others) zero laid version e =
    let more : List LaidVersion = file.versions ++ version ∷ [] in
    record {
      chain = record { last = shown_of laid; first = first_serial file.versions; unset = unset_base file.versions; kept = kept_by file.versions };
      was = ap (λ o. Some (option_map (λ last. (let c : FoundFile = record { last = shown_of last; first = first_serial file.versions; unset = unset_base file.versions; kept = kept_by file.versions } in c)) o)) e;
      shows = refl;
      is = ap (λ o. option_map (λ last. kept_as (shown_of last) (first_serial more) (unset_base more) (kept_by more)) o ∷ chains_of others) (last_added file.versions version)
          ∙ ap (λ n. Some (kept_as (shown_of version) n (unset_base more) (kept_by more)) ∷ chains_of others) (first_stays file.versions laid version e)
          ∙ ap (λ (o : Option ℕ). Some (kept_as (shown_of version) (first_serial file.versions) o (kept_by more)) ∷ chains_of others) (unset_added file.versions laid version e)
          ∙ ap (λ n. Some (kept_as (shown_of version) (first_serial file.versions) (unset_of (shown_of laid)) n) ∷ chains_of others) (kept_longer file.versions version);
      few = Prim.omega (arith, kept_first file others);
    }
longer_is (file ∷ others) (suc i) laid version e =
    let rest = longer_is others i laid version e in
    record { chain = rest.chain; was = rest.was; shows = rest.shows; is = ap (λ cs. chain_of file.versions ∷ cs) rest.is; few = Prim.omega (arith, rest.few, kept_first file others) }

pub longer_lies : (store : Store) (count : ℕ) (i : ℕ) (version : LaidVersion) (files : List LaidFile) → PagesLie store count version.block version.nodes → FilesLie store count files
    → FilesLie store count (with_version_at i version files)
longer_lies store count i version [] lies each = tt
longer_lies store count zero version (file ∷ others) lies each =
    (all_append (λ (v : LaidVersion). PagesLie store count v.block v.nodes) file.versions (version ∷ []) each.0 (lies, tt), each.1)
longer_lies store count (suc i) version (file ∷ others) lies each = (each.0, longer_lies store count i version others lies each.1)

each_get : {X : Type 0} (P : X → Type 0) (xs : List X) (k : ℕ) (x : X) → AllByRecursion P xs → slice_get xs k ≡ Some x → P x
each_get P [] k x h e = absurd cc
each_get P (y ∷ xs) zero x h e = let same_one : y ≡ x = cc in subst P same_one h.0
each_get P (y ∷ xs) (suc k) x h e = each_get P xs k x h.1 e

last_at_lies : (store : Store) (count : ℕ) (i : ℕ) (files : List LaidFile) (laid : LaidVersion) → FilesLie store count files → last_at i files ≡ Some laid → PagesLie store count laid.block laid.nodes
last_at_lies store count i files laid each e = of (slice_get files i) refl e
  where
    of : (o : Option LaidFile) → slice_get files i ≡ o → option_and_then (λ file. last_laid file.versions) o ≡ Some laid → PagesLie store count laid.block laid.nodes
    of None is h = absurd cc
    of (Some file) is h =
        each_get (λ (v : LaidVersion). PagesLie store count v.block v.nodes) file.versions (length file.versions - 1) laid
        (each_get (λ (f : LaidFile). AllLie store count f.versions) files i file each is) h

-- an object that has a last version counts from 1
pub last_at_place : (object : ℕ) (files : List LaidFile) (laid : LaidVersion) → last_in object files ≡ Some laid → last_at (object - 1) files ≡ Some laid
last_at_place object files laid e = of (object == 0) e
  where
    of : (b : Bool) → cond b None (last_at (object - 1) files) ≡ Some laid → last_at (object - 1) files ≡ Some laid
    of true h = absurd cc
    of false h = h

pub last_lies : (store : Store) (count object : ℕ) (files : List LaidFile) (laid : LaidVersion) → FilesLie store count files → last_in object files ≡ Some laid → PagesLie store count laid.block laid.nodes
last_lies store count object files laid each e = last_at_lies store count (object - 1) files laid each (last_at_place object files laid e)

-- ---- one member

module _ (blocks : Blocks) (model : ModelTop) (member : MemberValue) (from : ModelLinked) (places : List ℕ) where
  -- the member counts as named
  abbrev pub named_too : List LaidFile → Walk ModelLinked
  named_too files = done (let l : ModelLinked = record { files = files; named = member.object ∷ from.named } in l)

  -- what the last version that was found for a member says of the walk over the member
  abbrev pub PriorTold : Option LaidVersion → Result Prior WalkRefused → Type 0
  PriorTold last (Ok prior) =
      (laid : LaidVersion) × (last ≡ Some laid) × (prior ≡ prior_of laid)
      × (member_linked blocks model member from last places ≡ and_then (version_linked blocks model.version.block member laid from.files places) named_too)
  PriorTold last (Err e) = (past : Half → Bool) → StopsBy e past (member_linked blocks model member from last places)

  abbrev top : Top
  top = shown_top model

  refused_none : PriorTold None (Err (BadStore model.version.block Member))
  unfolding member_linked refuse
  refused_none = λ past. refl

  by_test : (laid : LaidVersion) (b : Bool) → (b ≡ may_link model.object member.object (shown_of laid) (list_any (nat_eq member.object) from.named))
      → PriorTold (Some laid) (if b then Ok (prior_of laid) else Err (BadStore model.version.block Member))
  unfolding member_linked bind check refuse done
  by_test laid true e =
      (laid, refl, refl, ap (λ t. and_then ((if t then done t else refuse model.version.block Member) places) (λ _. bind (version_linked blocks model.version.block member laid from.files) named_too)) (sym e))
  by_test laid false e = λ past.
      ap (λ t. and_then ((if t then done t else refuse model.version.block Member) places) (λ _. bind (version_linked blocks model.version.block member laid from.files) named_too)) (sym e)

  by_last : (first : ℕ) (unset : Option ℕ) (kept : ℕ) (mark : Option Bool) (l : Option LaidVersion) → ((laid : LaidVersion) → l ≡ Some laid → mark ≡ Some (list_any (nat_eq member.object) from.named))
      → PriorTold l (prior_in top member.object (Some (option_map (λ last. (let c : FoundFile = record { last = shown_of last; first = first; unset = unset; kept = kept } in c)) l)) mark)
  by_last first unset kept mark None marked = refused_none
  by_last first unset kept mark (Some laid) marked =
      let c : FoundFile = record { last = shown_of laid; first = first; unset = unset; kept = kept } in
      subst (λ (m : Option Bool). PriorTold (Some laid) (prior_in top member.object (Some (Some c)) m)) (sym (marked laid refl))
      (by_test laid (may_link model.object member.object (shown_of laid) (list_any (nat_eq member.object) from.named)) refl)

  by_file : (mark : Option Bool) (o : Option LaidFile) → ((file : LaidFile) → o ≡ Some file → mark ≡ Some (list_any (nat_eq member.object) from.named))
      → PriorTold (option_and_then (λ file. last_laid file.versions) o) (prior_in top member.object (option_map (λ file. chain_of file.versions) o) mark)
  by_file mark None marked = refused_none
  by_file mark (Some file) marked = by_last (first_serial file.versions) (unset_base file.versions) (kept_by file.versions) mark (last_laid file.versions) (λ laid e. marked file refl)

  place_back : (n : ℕ) → (n == 0) ≡ false → n - 1 + 1 ≡ n
  place_back n e = Prim.grind (arith, nat_tests)

  pub prior_told : (store : Store) (count : ℕ) (kept : Linked) → LikeLinked store count places kept from
      → PriorTold (last_in member.object from.files) (prior_in top member.object (at_object member.object kept.chains.items) (at_object member.object kept.named.items))
  prior_told store count kept like = by_zero (member.object == 0) refl
    where
      i : ℕ
      i = member.object - 1

      chains_at : slice_get kept.chains.items i ≡ option_map (λ file. chain_of file.versions) (slice_get from.files i)
      chains_at = ap (λ (cs : List (Option FoundFile)). slice_get cs i) like.files.is ∙ slice_get-map (λ (file : LaidFile). chain_of file.versions) from.files i

      size : length kept.named.items ≡ length from.files
      size = like.size ∙ ap length like.files.is ∙ length-map from.files (λ (file : LaidFile). chain_of file.versions)

      mark_at : (member.object == 0) ≡ false → (file : LaidFile) → slice_get from.files i ≡ Some file → slice_get kept.named.items i ≡ Some (list_any (nat_eq member.object) from.named)
      mark_at some file e =
          like.named.is i (subst (λ (n : ℕ). i < n) (sym size) (slice_get-lt from.files i file e))
          ∙ ap (λ (n : ℕ). Some (list_any (nat_eq n) from.named)) (place_back member.object some)

      by_zero : (b : Bool) → (member.object == 0) ≡ b
          → PriorTold (cond b None (last_at i from.files)) (prior_in top member.object (cond b None (slice_get kept.chains.items i)) (cond b None (slice_get kept.named.items i)))
      by_zero true e = refused_none
      by_zero false e =
          subst (λ (o : Option (Option FoundFile)). PriorTold (last_at i from.files) (prior_in top member.object o (slice_get kept.named.items i))) (sym chains_at)
          (by_file (slice_get kept.named.items i) (slice_get from.files i) (mark_at e))

drop_from_slice_get : {X : Type 0} (xs : List X) (k : ℕ) (x : X) → slice_get xs k ≡ Some x → drop k xs ≡ x ∷ drop (suc k) xs
drop_from_slice_get xs k x e = drop-cons xs k x (slice_get-lt xs k x e) ∙ ap (λ y. y ∷ drop (suc k) xs) (get_or_from_slice_get xs k x x e)

-- ---- the members of a top, and all tops

module _ (blocks : Blocks) (model : ModelTop) where
  pub member_on : (member : MemberValue) (others : List MemberValue) (from next : ModelLinked) (seen after : List ℕ)
      → member_linked blocks model member from (last_in member.object from.files) seen ≡ Ok (next, after)
      → members_linked blocks model (member ∷ others) from seen ≡ members_linked blocks model others next after
  unfolding members_linked bind
  member_on member others from next seen after is = ap (λ r. and_then r (members_linked blocks model others)) is

  pub member_stops : (member : MemberValue) (others : List MemberValue) (from : ModelLinked) (seen : List ℕ) (e : Refused)
      → member_linked blocks model member from (last_in member.object from.files) seen ≡ Err e
      → members_linked blocks model (member ∷ others) from seen ≡ Err e
  unfolding members_linked bind
  member_stops member others from seen e is = ap (λ r. and_then r (members_linked blocks model others)) is

  pub members_done : (from : ModelLinked) (seen : List ℕ) → members_linked blocks model [] from seen ≡ Ok ((let l : ModelLinked = record from { named = model.object ∷ from.named } in l), seen)
  unfolding members_linked done
  members_done from seen = refl

  -- the walk over the members has come to this one
  pub record MembersSoFar (store : Store) (count : ℕ) (members : List MemberValue) (first : ModelLinked) (places : List ℕ) (k : ℕ) (kept : Linked) (seen : List ℕ) : Type 0 where
    pub linked : ModelLinked
    pub like : LikeLinked store count seen kept linked
    pub is : members_linked blocks model members first places ≡ members_linked blocks model (drop k members) linked seen

  pub members_on : (store : Store) (count : ℕ) (members : List MemberValue) (first : ModelLinked) (places : List ℕ) (k : ℕ) (kept next : Linked) (seen after : List ℕ) (member : MemberValue) (found : ModelLinked)
      → slice_get members k ≡ Some member → (far : MembersSoFar store count members first places k kept seen)
      → LikeLinked store count after next found → member_linked blocks model member far.linked (last_in member.object far.linked.files) seen ≡ Ok (found, after)
      → MembersSoFar store count members first places (k + 1) next after
  members_on store count members first places k kept next seen after member found here far like is = record {
    linked = found;
    like = like;
    is = far.is ∙ ap (λ (xs : List MemberValue). members_linked blocks model xs far.linked seen) (drop_from_slice_get members k member here)
        ∙ member_on member (drop (suc k) members) far.linked found seen after is
        ∙ ap (λ (n : ℕ). members_linked blocks model (drop n members) found after) (sym (add-one k));
  }

  pub members_refused : (store : Store) (count : ℕ) (members : List MemberValue) (first : ModelLinked) (places : List ℕ) (k : ℕ) (kept : Linked) (seen : List ℕ) (member : MemberValue) (e : Refused)
      → slice_get members k ≡ Some member → (far : MembersSoFar store count members first places k kept seen)
      → member_linked blocks model member far.linked (last_in member.object far.linked.files) seen ≡ Err e
      → members_linked blocks model members first places ≡ Err e
  members_refused store count members first places k kept seen member e here far is =
      far.is ∙ ap (λ (xs : List MemberValue). members_linked blocks model xs far.linked seen) (drop_from_slice_get members k member here)
      ∙ member_stops member (drop (suc k) members) far.linked seen e is

  pub members_end : (store : Store) (count : ℕ) (members : List MemberValue) (first : ModelLinked) (places : List ℕ) (k : ℕ) (kept : Linked) (seen : List ℕ)
      → length members ≤ k → (far : MembersSoFar store count members first places k kept seen)
      → members_linked blocks model members first places ≡ Ok ((let l : ModelLinked = record far.linked { named = model.object ∷ far.linked.named } in l), seen)
  members_end store count members first places k kept seen past far =
      far.is ∙ ap (λ (xs : List MemberValue). members_linked blocks model xs far.linked seen) (drop_of_length-le members past) ∙ members_done far.linked seen

-- the walk over the tops has come to this one
pub record TopsWalked (blocks : Blocks) (store : Store) (count : ℕ) (models : List ModelTop) (first : ModelLinked) (places : List ℕ) (k : ℕ) (kept : Linked) (seen : List ℕ) : Type 0 where
  pub linked : ModelLinked
  pub like : LikeLinked store count seen kept linked
  pub is : tops_linked blocks models first places ≡ tops_linked blocks (drop k models) linked seen

module _ (blocks : Blocks) (store : Store) (count : ℕ) (models : List ModelTop) (first : ModelLinked) (places : List ℕ) (k : ℕ) (kept : Linked) (seen : List ℕ) where
  pub tops_go_on : (next : Linked) (after : List ℕ) (model : ModelTop) (found : ModelLinked) → slice_get models k ≡ Some model → (far : TopsWalked blocks store count models first places k kept seen)
      → LikeLinked store count after next found → members_linked blocks model model.version.members far.linked seen ≡ Ok (found, after)
      → TopsWalked blocks store count models first places (k + 1) next after
  unfolding tops_linked bind
  tops_go_on next after model found here far like is = record {
    linked = found;
    like = like;
    is = far.is ∙ ap (λ (xs : List ModelTop). tops_linked blocks xs far.linked seen) (drop_from_slice_get models k model here)
        ∙ ap (λ r. and_then r (tops_linked blocks (drop (suc k) models))) is
        ∙ ap (λ (n : ℕ). tops_linked blocks (drop n models) found after) (sym (add-one k));
  }

  pub tops_stop : (model : ModelTop) (e : Refused) → slice_get models k ≡ Some model → (far : TopsWalked blocks store count models first places k kept seen)
      → members_linked blocks model model.version.members far.linked seen ≡ Err e → tops_linked blocks models first places ≡ Err e
  unfolding tops_linked bind
  tops_stop model e here far is =
      far.is ∙ ap (λ (xs : List ModelTop). tops_linked blocks xs far.linked seen) (drop_from_slice_get models k model here)
      ∙ ap (λ r. and_then r (tops_linked blocks (drop (suc k) models))) is

  pub tops_done : length models ≤ k → (far : TopsWalked blocks store count models first places k kept seen) → tops_linked blocks models first places ≡ Ok (far.linked, seen)
  unfolding tops_linked done
  tops_done past far = far.is ∙ ap (λ (xs : List ModelTop). tops_linked blocks xs far.linked seen) (drop_of_length-le models past)

-- the top at a place of what is kept
pub record TopAt (models : List ModelTop) (k : ℕ) (top : Top) : Type 0 where
  pub model : ModelTop
  pub here : slice_get models k ≡ Some model
  pub is : top ≡ shown_top model

none_is : {X : Type 0} (xs : List X) (k : ℕ) → k < length xs → slice_get xs k ≡ None → ⊥
none_is [] k low e = Prim.omega (arith, low)
none_is (x ∷ xs) zero low e = cc
none_is (x ∷ xs) (suc k) low e = none_is xs k (Prim.omega (arith, low)) e

pub top_at : (tops : List Top) (models : List ModelTop) (k : ℕ) (other : Top) → tops ≡ map shown_top models → k < length tops → TopAt models k (get_or tops k other)
top_at tops models k other are low = of (slice_get models k) refl
  where
    short : k < length models
    short = subst (λ (n : ℕ). k < n) (ap length are ∙ length-map models shown_top) low

    of : (o : Option ModelTop) → slice_get models k ≡ o → TopAt models k (get_or tops k other)
    of None e = absurd (none_is models k short e)
    of (Some model) e = record {
      model = model;
      here = e;
      is = get_or_from_slice_get tops k (shown_top model) other (ap (λ (ts : List Top). slice_get ts k) are ∙ slice_get-map shown_top models k ∙ ap (option_map shown_top) e);
    }
