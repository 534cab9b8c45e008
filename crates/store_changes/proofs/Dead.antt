-- Members of tops while the entry of an object that is not live is written: none of them can be of it.
use Rattle.std.proofs.Common.{◌≡◌, ◌≢◌, ℕ, zero, suc, ◌+◌, ◌-◌, List, [], ◌∷◌, ◌++◌, length, length-append, inl, inr, nat_eq, eqb-true, eq-eqb, true≢false, arith, Option, Some, None, option_map, Ok, refl, sym, ap, subst, ◌∙◌, slice_get}
use Rattle.tree_model.proofs.Paths.{told}
use Rattle.store_model.specs.Changes.{changed_at}
use Rattle.page_codec.specs.Values.{MemberValue}
use Rattle.store_model.specs.Walk.{bind, done}
use Rattle.store_model.specs.Laid.{LaidVersion, LaidFile, last_laid}
use Rattle.store_model.specs.Members.{Top, Linked, longer, members_linked, tops_linked}
use Rattle.store_model.proofs.PlaceLists.{IsIn, in_cons, in_either, none_in}
use Rattle.store_model.proofs.Steps.{Content, blocks_of, Passed, passed, same_value}
use Rattle.store_model.proofs.Edits.{some_is, changed_other}
use Rattle.store_model.proofs.Linking.{InFile, in_file, MemberRan, member_step}
use Rattle.store_model.proofs.Aside.{objects_of, objects_in, Step, member_run, member_is_step, tops_step}

-- the object at this place is not live
pub record IsDead (k : ℕ) (files : List LaidFile) : Type 0 where
  pub file : LaidFile
  pub listed : slice_get files k ≡ Some file
  pub none : last_laid file.versions ≡ None

dead_on : (k : ℕ) (files after : List LaidFile) → slice_get after k ≡ slice_get files k → IsDead k files → IsDead k after
dead_on k files after same dead = record { file = dead.file; listed = same ∙ dead.listed; none = dead.none }

not_dead : (c : Content) (count k : ℕ) (top : Top) (member : MemberValue) (linked : Linked) (seen : List ℕ) (after : Linked) (all : List ℕ)
    → IsDead k linked.files → MemberRan c count top member linked seen after all → member.object - 1 ≢ k
not_dead c count k top member linked seen after all dead r e =
    let f : InFile member.object linked.files r.last = in_file member.object linked.files r.last r.is in
    let one : f.file ≡ dead.file = some_is (sym f.listed ∙ ap (slice_get linked.files) e ∙ dead.listed) in
    let nothing : Some r.last ≡ None = sym f.is ∙ ap (λ (x : LaidFile). last_laid x.versions) one ∙ dead.none in
    absurd cc

-- no member of a top can be of it: each member is the last version of its file
dead_member : (c : Content) (count k : ℕ) (top : Top) (member : MemberValue) (linked : Linked) (seen : List ℕ) (after : Linked) (all : List ℕ)
    → IsDead k linked.files → MemberRan c count top member linked seen after all → member.object ≢ suc k
dead_member c count k top member linked seen after all dead r e = not_dead c count k top member linked seen after all dead r (omega (arith, e))

abbrev pub NotAmong : ℕ → List ℕ → Type 0
NotAmong k objects = IsIn objects (suc k) → ⊥

-- a walk over members of which none is of the object: the file stays as it is
record Avoids (k : ℕ) (objects : List ℕ) (linked after : Linked) : Type 0 where
  off : NotAmong k objects
  kept : slice_get after.files k ≡ slice_get linked.files k

members_avoid : (c : Content) (count k : ℕ) (top : Top) (members : List MemberValue) (linked : Linked) (seen : List ℕ) (after : Linked) (all : List ℕ)
    → IsDead k linked.files → members_linked (blocks_of c count) top members linked seen ≡ Ok (after, all) → Avoids k (objects_of members) linked after
unfolding members_linked bind done
members_avoid c count k top [] linked seen after all dead e =
    record {
      off = λ h. none_in (suc k) h;
      kept = ap (λ (l : Linked). slice_get l.files k) (sym (same_value seen all (record linked { named = top.object ∷ linked.named }) after e));
    }
members_avoid c count k top (member ∷ others) linked seen after all dead e =
    let p : Passed (member_run c count top member linked seen) (members_linked (blocks_of c count) top others) after all =
    passed (member_run c count top member linked seen) (members_linked (blocks_of c count) top others) after all e in
    let r : MemberRan c count top member linked seen p.value p.places = member_step c count top member linked seen p.value p.places p.first in
    let one : Step c c count k (member_run c count top member) (member.object ∷ []) linked seen p.value p.places =
    member_is_step c c count k top member linked seen p.value p.places (not_dead c count k top member linked seen p.value p.places dead r) r in
    let rest : Avoids k (objects_of others) p.value after =
    members_avoid c count k top others p.value p.places after all (dead_on k linked.files p.value.files one.kept dead) p.second in
    record {
      off = λ h. elim (in_cons member.object (suc k) (objects_of others) h) [
        | inl x ↦ dead_member c count k top member linked seen p.value p.places dead r (sym x)
        | inr x ↦ rest.off x
      ];
      kept = rest.kept ∙ one.kept;
    }

pub tops_avoid : (c : Content) (count k : ℕ) (tops : List Top) (linked : Linked) (seen : List ℕ) (after : Linked) (all : List ℕ)
    → IsDead k linked.files → tops_linked (blocks_of c count) tops linked seen ≡ Ok (after, all) → NotAmong k (objects_in tops)
unfolding tops_linked bind done
tops_avoid c count k [] linked seen after all dead e h = none_in (suc k) h
tops_avoid c count k (top ∷ others) linked seen after all dead e h =
    let p : Passed (members_linked (blocks_of c count) top top.version.members linked seen) (tops_linked (blocks_of c count) others) after all =
    passed (members_linked (blocks_of c count) top top.version.members linked seen) (tops_linked (blocks_of c count) others) after all e in
    let one : Avoids k (objects_of top.version.members) linked p.value = members_avoid c count k top top.version.members linked seen p.value p.places dead p.first in
    elim (in_either (objects_of top.version.members) (objects_in others) (suc k) h) [
      | inl x ↦ one.off x
      | inr x ↦ tops_avoid c count k others p.value p.places after all (dead_on k linked.files p.value.files one.kept dead) p.second x
    ]

pub tops_pass : (c d : Content) (count k : ℕ) (tops : List Top) (linked : Linked) (seen : List ℕ) (after : Linked) (all : List ℕ)
    → IsDead k linked.files → tops_linked (blocks_of c count) tops linked seen ≡ Ok (after, all)
    → Step c d count k (tops_linked (blocks_of d count) tops) (objects_in tops) linked seen after all
tops_pass c d count k tops linked seen after all dead e =
    tops_step c d count k tops linked seen after all (inr (inl (tops_avoid c count k tops linked seen after all dead e))) e

-- ---- an object that is not live after the members was not before

record Empty (k : ℕ) (files : List LaidFile) (file : LaidFile) : Type 0 where
  listed : slice_get files k ≡ Some file
  none : file.versions ≡ []

longer_not : (version : LaidVersion) (o : Option LaidFile) (file : LaidFile) → option_map (longer version) o ≡ Some file → file.versions ≡ [] → ⊥
longer_not version None file e none = absurd cc
longer_not version (Some x) file e none =
    let is : longer version x ≡ file = some_is e in
    let same : x.versions ++ version ∷ [] ≡ [] = ap (λ (y : LaidFile). y.versions) is ∙ none in
    let long : length (x.versions ++ version ∷ []) ≡ length x.versions + 1 = length-append x.versions (version ∷ []) in
    let zero_long : length (x.versions ++ version ∷ []) ≡ 0 = ap length same in
    absurd (omega arith)

get_changed : {X : Type 0} (g : X → X) (k : ℕ) (xs : List X) → slice_get (changed_at g k xs) k ≡ option_map g (slice_get xs k)
get_changed g k [] = refl
get_changed g zero (x ∷ xs) = refl
get_changed g (suc k) (x ∷ xs) = get_changed g k xs

before_member : (c : Content) (count k : ℕ) (top : Top) (member : MemberValue) (linked : Linked) (seen : List ℕ) (after : Linked) (all : List ℕ) (file : LaidFile)
    → MemberRan c count top member linked seen after all → Empty k after.files file → Empty k linked.files file
before_member c count k top member linked seen after all file r e = elim r.how [
  | inl x ↦ record { listed = ap (λ l. slice_get l k) (sym x.keeps) ∙ e.listed; none = e.none }
  | inr x ↦ by (member.object - 1) refl x.version (ap (λ l. slice_get l k) (sym x.extends) ∙ e.listed)
]
  where
    by : (j : ℕ) → member.object - 1 ≡ j → (version : LaidVersion) → slice_get (changed_at (longer version) (member.object - 1) linked.files) k ≡ Some file → Empty k linked.files file
    by j is version h = elim (told (nat_eq (member.object - 1) k)) [
      | inl t ↦
          let same : member.object - 1 ≡ k = eqb-true (member.object - 1) k t in
          absurd (longer_not version (slice_get linked.files k) file
          (sym (get_changed (longer version) k linked.files) ∙ ap (λ i. slice_get (changed_at (longer version) i linked.files) k) (sym same) ∙ h) e.none)
      | inr f ↦ record {
        listed = sym (changed_other (longer version) (member.object - 1) k linked.files (λ i. true≢false (sym (eq-eqb (member.object - 1) k (sym i)) ∙ f))) ∙ h;
        none = e.none;
      }
    ]

before_members : (c : Content) (count k : ℕ) (top : Top) (members : List MemberValue) (linked : Linked) (seen : List ℕ) (after : Linked) (all : List ℕ) (file : LaidFile)
    → members_linked (blocks_of c count) top members linked seen ≡ Ok (after, all) → Empty k after.files file → Empty k linked.files file
unfolding members_linked bind done
before_members c count k top [] linked seen after all file e is =
    subst (λ (l : Linked). Empty k l.files file) (sym (same_value seen all (record linked { named = top.object ∷ linked.named }) after e)) is
before_members c count k top (member ∷ others) linked seen after all file e is =
    let p : Passed (member_run c count top member linked seen) (members_linked (blocks_of c count) top others) after all =
    passed (member_run c count top member linked seen) (members_linked (blocks_of c count) top others) after all e in
    before_member c count k top member linked seen p.value p.places file (member_step c count top member linked seen p.value p.places p.first)
    (before_members c count k top others p.value p.places after all file p.second is)

before_tops : (c : Content) (count k : ℕ) (tops : List Top) (linked : Linked) (seen : List ℕ) (after : Linked) (all : List ℕ) (file : LaidFile)
    → tops_linked (blocks_of c count) tops linked seen ≡ Ok (after, all) → Empty k after.files file → Empty k linked.files file
unfolding tops_linked bind done
before_tops c count k [] linked seen after all file e is = subst (λ (l : Linked). Empty k l.files file) (sym (same_value seen all linked after e)) is
before_tops c count k (top ∷ others) linked seen after all file e is =
    let p : Passed (members_linked (blocks_of c count) top top.version.members linked seen) (tops_linked (blocks_of c count) others) after all =
    passed (members_linked (blocks_of c count) top top.version.members linked seen) (tops_linked (blocks_of c count) others) after all e in
    before_members c count k top top.version.members linked seen p.value p.places file p.first
    (before_tops c count k others p.value p.places after all file p.second is)

pub dead_before : (c : Content) (count k : ℕ) (tops : List Top) (linked : Linked) (seen : List ℕ) (after : Linked) (all : List ℕ) (file : LaidFile)
    → tops_linked (blocks_of c count) tops linked seen ≡ Ok (after, all) → slice_get after.files k ≡ Some file → file.versions ≡ [] → slice_get linked.files k ≡ Some file
dead_before c count k tops linked seen after all file e at none =
    (before_tops c count k tops linked seen after all file e (record { listed = at; none = none })).listed

-- ---- an object that the table has not

none_more : (c : Content) (count k : ℕ) (top : Top) (member : MemberValue) (linked : Linked) (seen : List ℕ) (after : Linked) (all : List ℕ)
    → MemberRan c count top member linked seen after all → slice_get linked.files k ≡ None → slice_get after.files k ≡ None
none_more c count k top member linked seen after all r e = elim r.how [
  | inl x ↦ ap (λ l. slice_get l k) x.keeps ∙ e
  | inr x ↦ ap (λ l. slice_get l k) x.extends ∙ by x.version
]
  where
    by : (version : LaidVersion) → slice_get (changed_at (longer version) (member.object - 1) linked.files) k ≡ None
    by version = elim (told (nat_eq (member.object - 1) k)) [
      | inl t ↦ ap (λ i. slice_get (changed_at (longer version) i linked.files) k) (eqb-true (member.object - 1) k t) ∙ get_changed (longer version) k linked.files ∙ ap (option_map (longer version)) e
      | inr f ↦ changed_other (longer version) (member.object - 1) k linked.files (λ i. true≢false (sym (eq-eqb (member.object - 1) k (sym i)) ∙ f)) ∙ e
    ]

none_members : (c : Content) (count k : ℕ) (top : Top) (members : List MemberValue) (linked : Linked) (seen : List ℕ) (after : Linked) (all : List ℕ)
    → members_linked (blocks_of c count) top members linked seen ≡ Ok (after, all) → slice_get linked.files k ≡ None → slice_get after.files k ≡ None
unfolding members_linked bind done
none_members c count k top [] linked seen after all e is =
    ap (λ (l : Linked). slice_get l.files k) (sym (same_value seen all (record linked { named = top.object ∷ linked.named }) after e)) ∙ is
none_members c count k top (member ∷ others) linked seen after all e is =
    let p : Passed (member_run c count top member linked seen) (members_linked (blocks_of c count) top others) after all =
    passed (member_run c count top member linked seen) (members_linked (blocks_of c count) top others) after all e in
    none_members c count k top others p.value p.places after all p.second
    (none_more c count k top member linked seen p.value p.places (member_step c count top member linked seen p.value p.places p.first) is)

pub none_after : (c : Content) (count k : ℕ) (tops : List Top) (linked : Linked) (seen : List ℕ) (after : Linked) (all : List ℕ)
    → tops_linked (blocks_of c count) tops linked seen ≡ Ok (after, all) → slice_get linked.files k ≡ None → slice_get after.files k ≡ None
unfolding tops_linked bind done
none_after c count k [] linked seen after all e is = ap (λ (l : Linked). slice_get l.files k) (sym (same_value seen all linked after e)) ∙ is
none_after c count k (top ∷ others) linked seen after all e is =
    let p : Passed (members_linked (blocks_of c count) top top.version.members linked seen) (tops_linked (blocks_of c count) others) after all =
    passed (members_linked (blocks_of c count) top top.version.members linked seen) (tops_linked (blocks_of c count) others) after all e in
    none_after c count k others p.value p.places after all p.second (none_members c count k top top.version.members linked seen p.value p.places p.first is)
