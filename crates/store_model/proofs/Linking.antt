-- The members of tops, one by one: what a member does to the files, and that it goes alike while one other file is changed.
use Rattle.std.proofs.Common.{◌≡◌, ℕ, zero, suc, ◌-◌, ◌==◌, Bool, true, false, not, ◌&&◌, cond, nat_eq, List, ◌∷◌, ◌⊎◌, inl, inr, Option, Some, None, Ok, refl, sym, ap, ◌∙◌, true≢false, eqb-true, arith, slice_get}
use Rattle.std.specs.List.{list_any}
use Rattle.std.specs.Option.{is_none, option_and_then}
use Rattle.std.specs.Cmp.{first_so, second_so}
use Rattle.page_codec.specs.declared.why.Why.TheVariants.{Member}
use Rattle.page_codec.specs.Values.{MemberValue}
use Rattle.tree_model.proofs.Paths.{told, both_true}
use Rattle.store_model.specs.Walk.{bind, done, refuse, check}
use Rattle.store_model.specs.Laid.{LaidVersion, LaidFile, last_laid}
use Rattle.store_model.specs.Chains.{version_at}
use Rattle.store_model.specs.Members.{Top, Linked, names_none, last_in, longer, with_version_at, version_linked, member_linked}
use Rattle.store_model.specs.Changes.{changed_at}
use Rattle.store_model.proofs.PlaceLists.{IsIn}
use Rattle.store_model.proofs.Steps.{Content, blocks_of, Passed, passed, went_on, ok≢err, same_value, same_places}
use Rattle.store_model.proofs.Rewriting.{Checked, checked, checks}
use Rattle.store_model.proofs.Edits.{none_some, longer_is}

-- ---- the last version of an object

pub record InFile (object : ℕ) (files : List LaidFile) (last : LaidVersion) : Type 0 where
  pub counts : object ≡ suc (object - 1)
  pub file : LaidFile
  pub listed : slice_get files (object - 1) ≡ Some file
  pub is : last_laid file.versions ≡ Some last

positive : (n : ℕ) → (n == 0) ≡ false → n ≡ suc (n - 1)
positive zero h = absurd (true≢false h)
positive (suc n) h = omega arith

pub in_file : (object : ℕ) (files : List LaidFile) (last : LaidVersion) → last_in object files ≡ Some last → InFile object files last
in_file object files last e = of (object == 0) refl (slice_get files (object - 1)) refl e
  where
    of : (b : Bool) → (object == 0) ≡ b → (o : Option LaidFile) → slice_get files (object - 1) ≡ o
        → cond b None (option_and_then (λ (file : LaidFile). last_laid file.versions) o) ≡ Some last → InFile object files last
    of true zero_is o is h = none_some h
    of false zero_is None is h = none_some h
    of false zero_is (Some file) is h =
        record { counts = positive object zero_is; file = file; listed = is; is = h }

pub last_again : (object : ℕ) (files : List LaidFile) (file : LaidFile) (last : LaidVersion) → object ≡ suc (object - 1) → slice_get files (object - 1) ≡ Some file
    → last_laid file.versions ≡ Some last → last_in object files ≡ Some last
last_again object files file last counts listed is =
    ap (λ b. cond b None (option_and_then (λ (f : LaidFile). last_laid f.versions) (slice_get files (object - 1)))) above
    ∙ ap (option_and_then (λ (f : LaidFile). last_laid f.versions)) listed ∙ is
  where
    above : (object == 0) ≡ false
    above = elim (told (object == 0)) [ inl t ↦ let z : object ≡ 0 = eqb-true object 0 t in absurd (omega arith) | inr f ↦ f ]

-- ---- a member

-- it is the last version already
pub record Already (member : MemberValue) (last : LaidVersion) (files files_after : List LaidFile) (seen all : List ℕ) : Type 0 where
  pub is_last : (last.block == member.block) ≡ true
  pub keeps : files_after ≡ files
  pub stays : all ≡ seen

-- it is the next version, and counts as the last from now on
pub record Extended (c : Content) (count namer : ℕ) (member : MemberValue) (last : LaidVersion) (files files_after : List LaidFile) (seen all : List ℕ) : Type 0 where
  pub not_last : (last.block == member.block) ≡ false
  pub version : LaidVersion
  pub read : version_at (blocks_of c count) member.object namer member.block (Some last) seen ≡ Ok (version, all)
  pub ends : (is_none version.commit && names_none version) ≡ true
  pub extends : files_after ≡ changed_at (longer version) (member.object - 1) files

version_step : (c : Content) (count namer : ℕ) (member : MemberValue) (last : LaidVersion) (files : List LaidFile) (seen : List ℕ) (after : List LaidFile) (all : List ℕ)
    → version_linked (blocks_of c count) namer member last files seen ≡ Ok (after, all)
    → Already member last files after seen all ⊎ Extended c count namer member last files after seen all
unfolding version_linked bind done
version_step c count namer member last files seen after all e = of (last.block == member.block) refl e
  where
    of : (b : Bool) → (last.block == member.block) ≡ b
        → cond b (done files)
        (bind (version_at (blocks_of c count) member.object namer member.block (Some last))
        (λ version. bind (check (is_none version.commit && names_none version) member.block Member) (λ _. done (with_version_at (member.object - 1) version files)))) seen
        ≡ Ok (after, all)
        → Already member last files after seen all ⊎ Extended c count namer member last files after seen all
    of true is h = inl (record { is_last = is; keeps = sym (same_value seen all files after h); stays = sym (same_places seen all files after h) })
    of false is h =
        let p : Passed (version_at (blocks_of c count) member.object namer member.block (Some last) seen) _ after all =
        passed (version_at (blocks_of c count) member.object namer member.block (Some last) seen) _ after all h in
        let q : Passed (check (is_none p.value.commit && names_none p.value) member.block Member p.places) _ after all =
        passed (check (is_none p.value.commit && names_none p.value) member.block Member p.places) _ after all p.second in
        let k : Checked (is_none p.value.commit && names_none p.value) p.places q.places =
        checked (is_none p.value.commit && names_none p.value) member.block Member p.places q.value q.places q.first in
        let along : p.places ≡ all = k.stays ∙ same_places q.places all (with_version_at (member.object - 1) p.value files) after q.second in
        inr
        (record {
          not_last = is;
          version = p.value;
          read = p.first ∙ ap (λ z. Ok (p.value, z)) along;
          ends = k.holds;
          extends = sym (same_value q.places all (with_version_at (member.object - 1) p.value files) after q.second) ∙ longer_is (member.object - 1) p.value files;
        })

pub already_goes : (d : Content) (count namer : ℕ) (member : MemberValue) (last : LaidVersion) (files : List LaidFile) (seen : List ℕ)
    → (last.block == member.block) ≡ true → version_linked (blocks_of d count) namer member last files seen ≡ Ok (files, seen)
unfolding version_linked done
already_goes d count namer member last files seen h =
    ap
    (λ b.
    cond b (done files)
    (bind (version_at (blocks_of d count) member.object namer member.block (Some last))
    (λ version. bind (check (is_none version.commit && names_none version) member.block Member) (λ _. done (with_version_at (member.object - 1) version files)))) seen)
    h

pub extended_goes : (d : Content) (count namer : ℕ) (member : MemberValue) (last version : LaidVersion) (files : List LaidFile) (seen all : List ℕ)
    → (last.block == member.block) ≡ false → version_at (blocks_of d count) member.object namer member.block (Some last) seen ≡ Ok (version, all)
    → (is_none version.commit && names_none version) ≡ true
    → version_linked (blocks_of d count) namer member last files seen ≡ Ok (changed_at (longer version) (member.object - 1) files, all)
unfolding version_linked done
extended_goes d count namer member last version files seen all h read ends =
    ap
    (λ b.
    cond b (done files)
    (bind (version_at (blocks_of d count) member.object namer member.block (Some last))
    (λ version. bind (check (is_none version.commit && names_none version) member.block Member) (λ _. done (with_version_at (member.object - 1) version files)))) seen)
    h
    ∙ went_on (version_at (blocks_of d count) member.object namer member.block (Some last)) _ seen version all _ read
    (went_on (check (is_none version.commit && names_none version) member.block Member) (λ _. done (with_version_at (member.object - 1) version files)) all true all _
    (checks (is_none version.commit && names_none version) member.block Member all ends) refl)
    ∙ ap (λ f. Ok (f, all)) (longer_is (member.object - 1) version files)

pub record MemberRan (c : Content) (count : ℕ) (top : Top) (member : MemberValue) (linked : Linked) (seen : List ℕ) (after : Linked) (all : List ℕ) : Type 0 where
  pub last : LaidVersion
  pub is : last_in member.object linked.files ≡ Some last
  pub other : not (member.object == top.object) ≡ true
  pub none : names_none last ≡ true
  pub unnamed : IsIn linked.named member.object → ⊥
  pub named : after.named ≡ member.object ∷ linked.named
  pub how : Already member last linked.files after.files seen all ⊎ Extended c count top.version.block member last linked.files after.files seen all

not_is : (b : Bool) → not b ≡ true → b ≡ true → ⊥
not_is true h t = true≢false (sym h)
not_is false h t = true≢false (sym t)

is_not : (b : Bool) → (b ≡ true → ⊥) → not b ≡ true
is_not true h = absurd (h refl)
is_not false h = refl

pub member_step : (c : Content) (count : ℕ) (top : Top) (member : MemberValue) (linked : Linked) (seen : List ℕ) (after : Linked) (all : List ℕ)
    → member_linked (blocks_of c count) top member linked (last_in member.object linked.files) seen ≡ Ok (after, all)
    → MemberRan c count top member linked seen after all
unfolding member_linked bind done refuse
member_step c count top member linked seen after all e = of (last_in member.object linked.files) refl e
  where
    of : (o : Option LaidVersion) → last_in member.object linked.files ≡ o → member_linked (blocks_of c count) top member linked o seen ≡ Ok (after, all)
        → MemberRan c count top member linked seen after all
    of None is h = absurd (ok≢err h)
    of (Some last) is h =
        let test : Bool = not (member.object == top.object) && names_none last && not (list_any (nat_eq member.object) linked.named) in
        let p : Passed (check test top.version.block Member seen) _ after all = passed (check test top.version.block Member seen) _ after all h in
        let k : Checked test seen p.places = checked test top.version.block Member seen p.value p.places p.first in
        let q : Passed (version_linked (blocks_of c count) top.version.block member last linked.files p.places) _ after all =
        passed (version_linked (blocks_of c count) top.version.block member last linked.files p.places) _ after all p.second in
        let made : record { files = q.value; named = member.object ∷ linked.named } ≡ after =
        same_value q.places all (let l : Linked = record { files = q.value; named = member.object ∷ linked.named } in l) after q.second in
        let ran : version_linked (blocks_of c count) top.version.block member last linked.files seen ≡ Ok (after.files, all) =
        ap (version_linked (blocks_of c count) top.version.block member last linked.files) k.stays ∙ q.first
        ∙ ap (λ z. Ok (q.value, z)) (same_places q.places all (let l : Linked = record { files = q.value; named = member.object ∷ linked.named } in l) after q.second)
        ∙ ap (λ (l : Linked). Ok (l.files, all)) made in
        let both : (not (member.object == top.object) && names_none last) ≡ true = first_so _ (not (list_any (nat_eq member.object) linked.named)) k.holds in
        record {
          last = last;
          is = is;
          other = first_so (not (member.object == top.object)) (names_none last) both;
          none = second_so (not (member.object == top.object)) (names_none last) both;
          unnamed = not_is (list_any (nat_eq member.object) linked.named) (second_so (not (member.object == top.object) && names_none last) _ k.holds);
          named = ap (λ (l : Linked). l.named) (sym made);
          how = version_step c count top.version.block member last linked.files seen after.files all ran;
        }

pub member_goes : (d : Content) (count : ℕ) (top : Top) (member : MemberValue) (files after : List LaidFile) (named : List ℕ) (last : LaidVersion) (seen all : List ℕ)
    → last_in member.object files ≡ Some last → not (member.object == top.object) ≡ true → names_none last ≡ true → (IsIn named member.object → ⊥)
    → version_linked (blocks_of d count) top.version.block member last files seen ≡ Ok (after, all)
    → member_linked (blocks_of d count) top member (record { files = files; named = named }) (last_in member.object files) seen
    ≡ Ok ((record { files = after; named = member.object ∷ named }), all)
unfolding member_linked done
member_goes d count top member files after named last seen all is other none unnamed ran =
    let start : Linked = record { files = files; named = named } in
    let test : Bool = not (member.object == top.object) && names_none last && not (list_any (nat_eq member.object) named) in
    let holds : test ≡ true =
    both_true _ _ (both_true (not (member.object == top.object)) (names_none last) other none) (is_not (list_any (nat_eq member.object) named) unnamed) in
    ap (λ o. member_linked (blocks_of d count) top member start o seen) is
    ∙ went_on (check test top.version.block Member) _ seen true seen _ (checks test top.version.block Member seen holds)
    (went_on (version_linked (blocks_of d count) top.version.block member last files) _ seen after all _ ran refl)
