-- Members of tops, while one file that none of them is of is changed: they find the same, and that file stays as it is.
use Rattle.std.proofs.Common.{◌≡◌, ◌≢◌, ℕ, suc, ◌-◌, false, List, [], ◌∷◌, ◌++◌, map, ◌⊎◌, inl, inr, Some, Result, Ok, refl, sym, ap, subst, ◌∙◌, append_assoc, true≢false, slice_get}
use Rattle.page_codec.specs.Values.{MemberValue}
use Rattle.store_model.specs.Walk.{Walk, Refused, bind, done}
use Rattle.store_model.specs.Laid.{LaidVersion, LaidFile, last_laid}
use Rattle.store_model.specs.Members.{Top, Linked, names_none, last_in, longer, member_linked, members_linked, tops_linked}
use Rattle.store_model.specs.Changes.{changed_at}
use Rattle.store_model.proofs.PlaceLists.{IsIn, Apart, Distinct, in_head, in_tail, in_cons, in_left, in_right, in_either, none_in, distinct_append}
use Rattle.store_model.proofs.Steps.{Content, blocks_of, Agree, InRange, Passed, passed, went_on, same_value, same_places}
use Rattle.store_model.proofs.Rewriting.{same_version, VersionAgain, version_again}
use Rattle.store_model.proofs.Edits.{some_is, changed_other, changed_swap}
use Rattle.store_model.proofs.Linking.{InFile, in_file, last_again, Already, Extended, already_goes, extended_goes, MemberRan, member_step, member_goes}

-- the objects that members are of
abbrev pub objects_of : List MemberValue → List ℕ
objects_of members = map (λ member. member.object) members

abbrev pub objects_in : List Top → List ℕ
objects_in [] = []
objects_in (top ∷ tops) = objects_of top.version.members ++ objects_in tops

-- the file's last version names members
pub record NamesSome (k : ℕ) (files : List LaidFile) : Type 0 where
  pub file : LaidFile
  pub last : LaidVersion
  pub listed : slice_get files k ≡ Some file
  pub is : last_laid file.versions ≡ Some last
  pub some : names_none last ≡ false

-- no member of these objects can be of this file, which counts from 0: it was named before, or is none of them, or names members itself
abbrev pub Passes : ℕ → List ℕ → Linked → Type 0
Passes k objects linked = IsIn linked.named (suc k) ⊎ ((IsIn objects (suc k) → ⊥) ⊎ NamesSome k linked.files)

pub passed_by : (c : Content) (count k : ℕ) (objects : List ℕ) (top : Top) (member : MemberValue) (linked : Linked) (seen : List ℕ) (after : Linked) (all : List ℕ)
    → Passes k objects linked → IsIn objects member.object → MemberRan c count top member linked seen after all → member.object - 1 ≢ k
passed_by c count k objects top member linked seen after all passes among r e =
    let f : InFile member.object linked.files r.last = in_file member.object linked.files r.last r.is in
    let object : member.object ≡ suc k = f.counts ∙ ap (λ n. suc n) e in
    elim passes [
      | inl before ↦ r.unnamed (subst (IsIn linked.named) (sym object) before)
      | inr other ↦ elim other [
        | inl not_one ↦ not_one (subst (IsIn objects) object among)
        | inr names ↦ clash f.file f.listed f.is names
      ]
    ]
  where
    clash : (file : LaidFile) → slice_get linked.files (member.object - 1) ≡ Some file → last_laid file.versions ≡ Some r.last → NamesSome k linked.files → ⊥
    clash file listed is names =
        let one : file ≡ names.file = some_is (sym listed ∙ ap (slice_get linked.files) e ∙ names.listed) in
        let last : r.last ≡ names.last = some_is (sym is ∙ ap (λ (x : LaidFile). last_laid x.versions) one ∙ names.is) in
        true≢false (sym r.none ∙ ap (λ v. names_none v) last ∙ names.some)

pub passes_on : (k : ℕ) (objects others : List ℕ) (linked after : Linked) → Passes k objects linked → ((n : ℕ) → IsIn others n → IsIn objects n)
    → ((n : ℕ) → IsIn linked.named n → IsIn after.named n) → slice_get after.files k ≡ slice_get linked.files k → Passes k others after
passes_on k objects others linked after passes among names kept =
    elim passes [
      | inl before ↦ inl (names (suc k) before)
      | inr other ↦ inr (elim other [
        | inl not_one ↦ inl (λ h. not_one (among (suc k) h))
        | inr some ↦ inr (record { file = some.file; last = some.last; listed = kept ∙ some.listed; is = some.is; some = some.some })
      ])
    ]

-- these files with one changed, and these objects as named
abbrev pub with_file : (LaidFile → LaidFile) → ℕ → List ℕ → Linked → Linked
with_file g k named linked = record { files = changed_at g k linked.files; named = named }

-- ---- one member

pub record MemberAside (c d : Content) (count k : ℕ) (top : Top) (member : MemberValue) (linked : Linked) (seen : List ℕ) (after : Linked) (all : List ℕ) : Type 0 where
  pub new : List ℕ
  pub grown : all ≡ new ++ seen
  pub apart : Apart new seen
  pub distinct : Distinct new
  pub each : (n : ℕ) → IsIn new n → InRange count n
  pub kept : slice_get after.files k ≡ slice_get linked.files k
  pub aside : (g : LaidFile → LaidFile) (named later : List ℕ) → (IsIn named member.object → ⊥) → Apart new later → Agree c d new
      → member_linked (blocks_of d count) top member (with_file g k named linked) (last_in member.object (changed_at g k linked.files)) later
      ≡ Ok (with_file g k (member.object ∷ named) after, new ++ later)

pub member_aside : (c d : Content) (count k : ℕ) (top : Top) (member : MemberValue) (linked : Linked) (seen : List ℕ) (after : Linked) (all : List ℕ)
    → member.object - 1 ≢ k → MemberRan c count top member linked seen after all → MemberAside c d count k top member linked seen after all
member_aside c d count k top member linked seen after all off r = elim r.how [ inl x ↦ stays x | inr x ↦ grows x ]
  where
    there : (g : LaidFile → LaidFile) → last_in member.object (changed_at g k linked.files) ≡ Some r.last
    there g =
        let f : InFile member.object linked.files r.last = in_file member.object linked.files r.last r.is in
        last_again member.object (changed_at g k linked.files) f.file r.last f.counts (changed_other g k (member.object - 1) linked.files off ∙ f.listed) f.is

    stays : Already member r.last linked.files after.files seen all → MemberAside c d count k top member linked seen after all
    stays x =
        record {
          new = [];
          grown = x.stays;
          apart = λ n h g. none_in n h;
          distinct = tt;
          each = λ n h. absurd (none_in n h);
          kept = ap (λ l. slice_get l k) x.keeps;
          aside = λ g named later free clear agree.
              member_goes d count top member (changed_at g k linked.files) (changed_at g k linked.files) named r.last later later (there g) r.other r.none free
              (already_goes d count top.version.block member r.last (changed_at g k linked.files) later x.is_last)
              ∙ ap (λ l. Ok ((let m : Linked = record { files = changed_at g k l; named = member.object ∷ named } in m), later)) (sym x.keeps);
        }

    grows : Extended c count top.version.block member r.last linked.files after.files seen all → MemberAside c d count k top member linked seen after all
    grows x =
        let va : VersionAgain c d count member.object member.block (Some r.last) seen x.version all =
        version_again c d count member.object top.version.block member.block (Some r.last) (Some r.last) seen x.version all (same_version r.last) x.read in
        record {
          new = va.new;
          grown = va.grown;
          apart = va.apart;
          distinct = va.distinct;
          each = va.each;
          kept = ap (λ l. slice_get l k) x.extends ∙ changed_other (longer x.version) (member.object - 1) k linked.files (λ e. off (sym e));
          aside = λ g named later free clear agree.
              member_goes d count top member (changed_at g k linked.files) (changed_at (longer x.version) (member.object - 1) (changed_at g k linked.files)) named r.last later
              (va.new ++ later) (there g) r.other r.none free
              (extended_goes d count top.version.block member r.last x.version (changed_at g k linked.files) later (va.new ++ later) x.not_last
              (va.again top.version.block later clear agree) x.ends)
              ∙ ap (λ l. Ok ((let m : Linked = record { files = l; named = member.object ∷ named } in m), va.new ++ later))
              (changed_swap (longer x.version) g (member.object - 1) k linked.files off ∙ ap (changed_at g k) (sym x.extends));
        }

-- ---- walks over members

-- the walk goes alike, and names no object that the first did not name
pub record AsideRan (walk : Walk Linked) (g : LaidFile → LaidFile) (k : ℕ) (named later new : List ℕ) (linked after : Linked) : Type 0 where
  pub names : List ℕ
  pub runs : walk later ≡ Ok (with_file g k names after, new ++ later)
  pub fewer : (n : ℕ) → (IsIn named n → IsIn linked.named n) → IsIn names n → IsIn after.named n

-- A walk over members of these objects found new places and left one file as it was. Over the other contents it goes alike, whatever that
-- file is there, and where no more of these objects are named.
pub record Step (c d : Content) (count k : ℕ) (run : Linked → Walk Linked) (objects : List ℕ) (linked : Linked) (seen : List ℕ) (after : Linked) (all : List ℕ) : Type 0 where
  pub new : List ℕ
  pub grown : all ≡ new ++ seen
  pub apart : Apart new seen
  pub distinct : Distinct new
  pub each : (n : ℕ) → IsIn new n → InRange count n
  pub kept : slice_get after.files k ≡ slice_get linked.files k
  pub names : (n : ℕ) → IsIn linked.named n → IsIn after.named n
  pub aside : (g : LaidFile → LaidFile) (named later : List ℕ) → ((n : ℕ) → IsIn objects n → IsIn named n → IsIn linked.named n)
      → Apart new later → Agree c d new → AsideRan (run (with_file g k named linked)) g k named later new linked after

-- what a walk found apart from this, and what the next one found, is together apart
pub apart_both : (next first mid seen : List ℕ) → mid ≡ first ++ seen → Apart next mid → Apart first seen → Apart (next ++ first) seen
apart_both next first mid seen grown a b n h g =
    elim (in_either next first n h) [ inl x ↦ subst (Apart next) grown a n x (in_right first seen n g) | inr x ↦ b n x g ]

pub apart_next : (next first mid seen : List ℕ) → mid ≡ first ++ seen → Apart next mid → Apart next first
apart_next next first mid seen grown a n h g = subst (Apart next) grown a n h (in_left first seen n g)

-- places that are apart from later ones are so from the first and the later ones
pub apart_on : (next first mid seen later : List ℕ) → mid ≡ first ++ seen → Apart next mid → Apart (next ++ first) later → Apart next (first ++ later)
apart_on next first mid seen later grown a clear n h g =
    elim (in_either first later n g) [ inl x ↦ apart_next next first mid seen grown a n h x | inr x ↦ clear n (in_left next first n h) x ]

pub each_both : (P : ℕ → Type 0) (next first : List ℕ) → ((n : ℕ) → IsIn next n → P n) → ((n : ℕ) → IsIn first n → P n) → (n : ℕ) → IsIn (next ++ first) n → P n
each_both P next first a b n h = elim (in_either next first n h) [ inl x ↦ a n x | inr x ↦ b n x ]

-- one walk after the other
pub step_bind : (c d : Content) (count k : ℕ) (first second : Linked → Walk Linked) (xs ys : List ℕ) (linked : Linked) (seen : List ℕ) (mid : Linked) (places : List ℕ) (after : Linked) (all : List ℕ)
    → Step c d count k first xs linked seen mid places → Step c d count k second ys mid places after all
    → Step c d count k (λ l. bind (first l) second) (xs ++ ys) linked seen after all
step_bind c d count k first second xs ys linked seen mid places after all one two =
    record {
      new = two.new ++ one.new;
      grown = two.grown ∙ ap (λ x. two.new ++ x) one.grown ∙ sym (append_assoc two.new one.new seen);
      apart = apart_both two.new one.new places seen one.grown two.apart one.apart;
      distinct = distinct_append two.new one.new two.distinct one.distinct (apart_next two.new one.new places seen one.grown two.apart);
      each = each_both (InRange count) two.new one.new two.each one.each;
      kept = two.kept ∙ one.kept;
      names = λ n h. two.names n (one.names n h);
      aside = λ g named later free clear agree.
          let go : AsideRan (first (with_file g k named linked)) g k named later one.new linked mid =
          one.aside g named later (λ n h. free n (in_left xs ys n h)) (λ n h i. clear n (in_right two.new one.new n h) i) (λ n h. agree n (in_right two.new one.new n h)) in
          let rest : AsideRan (second (with_file g k go.names mid)) g k go.names (one.new ++ later) two.new mid after =
          two.aside g go.names (one.new ++ later) (λ n h. go.fewer n (free n (in_right xs ys n h)))
          (apart_on two.new one.new places seen later one.grown two.apart clear) (λ n h. agree n (in_left two.new one.new n h)) in
          record {
            names = rest.names;
            runs =
                went_on (first (with_file g k named linked)) second later (with_file g k go.names mid) (one.new ++ later) _ go.runs rest.runs
                ∙ ap (λ l. Ok (with_file g k rest.names after, l)) (sym (append_assoc two.new one.new later));
            fewer = λ n f h. rest.fewer n (go.fewer n f) h;
          };
    }

-- a walk that finds no place and keeps the files
step_done : (c d : Content) (count k : ℕ) (walk run : Linked → Walk Linked) (named : List ℕ → List ℕ) (objects : List ℕ) (linked : Linked) (seen : List ℕ) (after : Linked) (all : List ℕ)
    → ((l : Linked) (from : List ℕ) → walk l from ≡ Ok ((let m : Linked = record { files = l.files; named = named l.named } in m), from))
    → ((l : Linked) (from : List ℕ) → run l from ≡ Ok ((let m : Linked = record { files = l.files; named = named l.named } in m), from))
    → ((xs ys : List ℕ) (n : ℕ) → (IsIn xs n → IsIn ys n) → IsIn (named xs) n → IsIn (named ys) n) → ((xs : List ℕ) (n : ℕ) → IsIn xs n → IsIn (named xs) n)
    → walk linked seen ≡ Ok (after, all) → Step c d count k run objects linked seen after all
step_done c d count k walk run named objects linked seen after all first second more grows e =
    let end : Linked = record { files = linked.files; named = named linked.named } in
    let f : (let r : Result (Linked × List ℕ) Refused = Ok (end, seen) in r) ≡ Ok (after, all) = sym (first linked seen) ∙ e in
    let made : end ≡ after = same_value seen all end after f in
    record {
      new = [];
      grown = sym (same_places seen all end after f);
      apart = λ n h g. none_in n h;
      distinct = tt;
      each = λ n h. absurd (none_in n h);
      kept = ap (λ (l : Linked). slice_get l.files k) (sym made);
      names = λ n h. subst (λ (l : Linked). IsIn l.named n) made (grows linked.named n h);
      aside = λ g others later free clear agree.
          record {
            names = named others;
            runs = second (with_file g k others linked) later ∙ ap (λ (l : Linked). Ok (with_file g k (named others) l, later)) made;
            fewer = λ n known h. subst (λ (l : Linked). IsIn l.named n) made (more others linked.named n known h);
          };
    }

in_more : (m : ℕ) (xs ys : List ℕ) (n : ℕ) → (IsIn xs n → IsIn ys n) → IsIn (m ∷ xs) n → IsIn (m ∷ ys) n
in_more m xs ys n f h = elim (in_cons m n xs h) [ inl x ↦ subst (λ l. IsIn (m ∷ ys) l) (sym x) (in_head m ys) | inr x ↦ in_tail m n ys (f x) ]

-- ---- the members of tops

-- the walks over a member, the members of a top, and all tops
abbrev pub member_run : Content → ℕ → Top → MemberValue → Linked → Walk Linked
member_run c count top member linked = member_linked (blocks_of c count) top member linked (last_in member.object linked.files)

pub member_is_step : (c d : Content) (count k : ℕ) (top : Top) (member : MemberValue) (linked : Linked) (seen : List ℕ) (after : Linked) (all : List ℕ)
    → member.object - 1 ≢ k → MemberRan c count top member linked seen after all
    → Step c d count k (member_run d count top member) (member.object ∷ []) linked seen after all
member_is_step c d count k top member linked seen after all off r =
    let one : MemberAside c d count k top member linked seen after all = member_aside c d count k top member linked seen after all off r in
    record {
      new = one.new;
      grown = one.grown;
      apart = one.apart;
      distinct = one.distinct;
      each = one.each;
      kept = one.kept;
      names = λ n h. subst (λ l. IsIn l n) (sym r.named) (in_tail member.object n linked.named h);
      aside = λ g named later free clear agree.
          record {
            names = member.object ∷ named;
            runs = one.aside g named later (λ h. r.unnamed (free member.object (in_head member.object []) h)) clear agree;
            fewer = λ n known h. subst (λ l. IsIn l n) (sym r.named) (in_more member.object named linked.named n known h);
          };
    }

pub members_step : (c d : Content) (count k : ℕ) (top : Top) (members : List MemberValue) (linked : Linked) (seen : List ℕ) (after : Linked) (all : List ℕ)
    → Passes k (objects_of members) linked → members_linked (blocks_of c count) top members linked seen ≡ Ok (after, all)
    → Step c d count k (members_linked (blocks_of d count) top members) (objects_of members) linked seen after all
unfolding members_linked bind done
members_step c d count k top [] linked seen after all passes e =
    step_done c d count k (members_linked (blocks_of c count) top []) (members_linked (blocks_of d count) top []) (λ l. top.object ∷ l) [] linked seen after all (λ l from. refl) (λ l from. refl)
    (in_more top.object) (λ xs n h. in_tail top.object n xs h) e
members_step c d count k top (member ∷ others) linked seen after all passes e =
    let p : Passed (member_run c count top member linked seen) (members_linked (blocks_of c count) top others) after all =
    passed (member_run c count top member linked seen) (members_linked (blocks_of c count) top others) after all e in
    let r : MemberRan c count top member linked seen p.value p.places = member_step c count top member linked seen p.value p.places p.first in
    let off : member.object - 1 ≢ k =
    passed_by c count k (objects_of (member ∷ others)) top member linked seen p.value p.places passes (in_head member.object (objects_of others)) r in
    let one : Step c d count k (member_run d count top member) (member.object ∷ []) linked seen p.value p.places =
    member_is_step c d count k top member linked seen p.value p.places off r in
    step_bind c d count k (member_run d count top member) (members_linked (blocks_of d count) top others) (member.object ∷ []) (objects_of others) linked seen p.value p.places after all one
    (members_step c d count k top others p.value p.places after all
    (passes_on k (objects_of (member ∷ others)) (objects_of others) linked p.value passes (λ n h. in_tail member.object n (objects_of others) h) one.names one.kept) p.second)

pub tops_step : (c d : Content) (count k : ℕ) (tops : List Top) (linked : Linked) (seen : List ℕ) (after : Linked) (all : List ℕ)
    → Passes k (objects_in tops) linked → tops_linked (blocks_of c count) tops linked seen ≡ Ok (after, all)
    → Step c d count k (tops_linked (blocks_of d count) tops) (objects_in tops) linked seen after all
unfolding tops_linked bind done
tops_step c d count k [] linked seen after all passes e =
    step_done c d count k (tops_linked (blocks_of c count) []) (tops_linked (blocks_of d count) []) (λ l. l) [] linked seen after all (λ l from. refl) (λ l from. refl)
    (λ xs ys n f h. f h) (λ xs n h. h) e
tops_step c d count k (top ∷ others) linked seen after all passes e =
    let p : Passed (members_linked (blocks_of c count) top top.version.members linked seen) (tops_linked (blocks_of c count) others) after all =
    passed (members_linked (blocks_of c count) top top.version.members linked seen) (tops_linked (blocks_of c count) others) after all e in
    let objects : List ℕ = objects_of top.version.members in
    let one : Step c d count k (members_linked (blocks_of d count) top top.version.members) objects linked seen p.value p.places =
    members_step c d count k top top.version.members linked seen p.value p.places
    (passes_on k (objects_in (top ∷ others)) objects linked linked passes (λ n h. in_left objects (objects_in others) n h) (λ n h. h) refl) p.first in
    step_bind c d count k (members_linked (blocks_of d count) top top.version.members) (tops_linked (blocks_of d count) others) objects (objects_in others) linked seen p.value p.places after all one
    (tops_step c d count k others p.value p.places after all
    (passes_on k (objects_in (top ∷ others)) (objects_in others) linked p.value passes (λ n h. in_right objects (objects_in others) n h) one.names one.kept) p.second)

-- a top counts as named after its members
pub top_named : (c : Content) (count : ℕ) (top : Top) (members : List MemberValue) (linked : Linked) (seen : List ℕ) (after : Linked) (all : List ℕ)
    → members_linked (blocks_of c count) top members linked seen ≡ Ok (after, all) → IsIn after.named top.object
unfolding members_linked bind done
top_named c count top [] linked seen after all e =
    subst (λ (l : Linked). IsIn l.named top.object) (same_value seen all (record linked { named = top.object ∷ linked.named }) after e) (in_head top.object linked.named)
top_named c count top (member ∷ others) linked seen after all e =
    let p : Passed (member_run c count top member linked seen) (members_linked (blocks_of c count) top others) after all =
    passed (member_run c count top member linked seen) (members_linked (blocks_of c count) top others) after all e in
    top_named c count top others p.value p.places after all p.second
