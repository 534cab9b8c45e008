-- Which versions name the members that tops name.
use Rattle.std.proofs.Common.{◌≡◌, ◌≢◌, ℕ, suc, ◌+◌, Bool, true, false, cond, List, [], ◌∷◌, ◌++◌, inl, inr, Option, Some, None, refl, sym, ap, ◌∙◌, append_assoc, arith, slice_get}
use Rattle.page_codec.specs.Values.{MemberValue}
use Rattle.store_model.specs.Laid.{LaidVersion, LaidFile, last_laid}
use Rattle.store_model.specs.Members.{Top, names_none, top_of, tops_from}
use Rattle.store_model.specs.Found.{LaidStore}
use Rattle.store_model.specs.Changes.{IsTop}
use Rattle.store_model.proofs.PlaceLists.{IsIn, in_cons, in_either, in_along, none_in}
use Rattle.store_model.proofs.Steps.{Content}
use Rattle.store_model.proofs.Aside.{objects_of, objects_in, NamesSome, tops_step}
use Rattle.store_model.proofs.Stores.{unlinked, Parts}

-- a member of an object
pub record MemberOf (members : List MemberValue) (object : ℕ) : Type 0 where
  pub place : ℕ
  pub member : MemberValue
  pub listed : slice_get members place ≡ Some member
  pub is : object ≡ member.object

pub member_of : (members : List MemberValue) (object : ℕ) → IsIn (objects_of members) object → MemberOf members object
member_of [] object h = absurd (none_in object h)
member_of (member ∷ others) object h =
    elim (in_cons member.object object (objects_of others) h) [
      | inl e ↦ record { place = 0; member = member; listed = refl; is = e }
      | inr t ↦
          let rest : MemberOf others object = member_of others object t in
          record { place = suc rest.place; member = rest.member; listed = rest.listed; is = rest.is }
    ]

-- a file whose last version names members, one of which is of this object
pub record NamedBy (first : ℕ) (files : List LaidFile) (object : ℕ) : Type 0 where
  pub k : ℕ
  pub some : NamesSome k files
  pub member : MemberOf some.last.members object

pub objects_append : (xs ys : List Top) → objects_in (xs ++ ys) ≡ objects_in xs ++ objects_in ys
objects_append [] ys = refl
objects_append (top ∷ xs) ys =
    ap (λ l. objects_of top.version.members ++ l) (objects_append xs ys) ∙ sym (append_assoc (objects_of top.version.members) (objects_in xs) (objects_in ys))

pub named_by : (first : ℕ) (files : List LaidFile) (object : ℕ) → IsIn (objects_in (tops_from first files)) object → NamedBy first files object
named_by first [] object h = absurd (none_in object h)
named_by first (file ∷ others) object h =
    elim (in_either (objects_in (top_of first (last_laid file.versions))) (objects_in (tops_from (suc first) others)) object
    (in_along (objects_in (top_of first (last_laid file.versions) ++ tops_from (suc first) others))
    (objects_in (top_of first (last_laid file.versions)) ++ objects_in (tops_from (suc first) others))
    (objects_append (top_of first (last_laid file.versions)) (tops_from (suc first) others)) object h)) [
      | inl i ↦ here first file others object (last_laid file.versions) refl i
      | inr i ↦ later first file others object (named_by (suc first) others object i)
    ]
  where
    here : (first : ℕ) (file : LaidFile) (others : List LaidFile) (object : ℕ) (o : Option LaidVersion) → last_laid file.versions ≡ o
        → IsIn (objects_in (top_of first o)) object → NamedBy first (file ∷ others) object
    here first file others object None is i = absurd (none_in object i)
    here first file others object (Some version) is i = by (names_none version) refl i
      where
        by : (b : Bool) → names_none version ≡ b
            → IsIn (objects_in (cond b [] ((let t : Top = record { object = first; version = version } in t) ∷ []))) object → NamedBy first (file ∷ others) object
        by true none j = absurd (none_in object j)
        by false none j =
            record {
              k = 0;
              some = record { file = file; last = version; listed = refl; is = is; some = none };
              member = elim (in_either (objects_of version.members) [] object j) [ inl m ↦ member_of version.members object m | inr m ↦ absurd (none_in object m) ];
            }

    later : (first : ℕ) (file : LaidFile) (others : List LaidFile) (object : ℕ) → NamedBy (suc first) others object → NamedBy first (file ∷ others) object
    later first file others object n =
        record {
          k = suc n.k;
          some = record { file = n.some.file; last = n.some.last; listed = n.some.listed; is = n.some.is; some = n.some.some };
          member = n.member;
        }

-- a file whose last version names members stays, so that version is one of the store
pub still_top : (c : Content) (most : ℕ) (store : LaidStore) (places : List ℕ) (p : Parts c most store places) (k : ℕ) (some : NamesSome k p.files) → IsTop store some.last
still_top c most store places p k some =
    record {
      object = k;
      file = some.file;
      listed = ap (λ (s : LaidStore). slice_get s.files k) p.made
          ∙ (tops_step c c p.root.blocks k (tops_from 1 p.files) (unlinked p.files) p.in_files p.linked places (inr (inr some)) p.tops).kept ∙ some.listed;
      last = some.is;
      names = some.some;
    }

-- what no version of the store names, no top names
pub unnamed_by : (c : Content) (most : ℕ) (store : LaidStore) (places : List ℕ) (p : Parts c most store places) (object : ℕ)
    → ((top : LaidVersion) → IsTop store top → (k : ℕ) (member : MemberValue) → slice_get top.members k ≡ Some member → member.object ≢ object)
    → IsIn (objects_in (tops_from 1 p.files)) object → ⊥
unnamed_by c most store places p object unnamed h =
    let n : NamedBy 1 p.files object = named_by 1 p.files object h in
    unnamed n.some.last (still_top c most store places p n.k n.some) n.member.place n.member.member n.member.listed (sym n.member.is)

-- ---- the tops themselves

-- the objects of tops
abbrev pub tops_of : List Top → List ℕ
tops_of [] = []
tops_of (top ∷ tops) = top.object ∷ tops_of tops

-- a file whose last version names members, by its object
pub record SomeTop (first : ℕ) (files : List LaidFile) (object : ℕ) : Type 0 where
  pub k : ℕ
  pub is : object ≡ first + k
  pub some : NamesSome k files

some_later : (first : ℕ) (file : LaidFile) (others : List LaidFile) (object : ℕ) → SomeTop (suc first) others object → SomeTop first (file ∷ others) object
some_later first file others object s =
    let e : object ≡ suc first + s.k = s.is in
    record {
      k = suc s.k;
      is = omega arith;
      some = record { file = s.some.file; last = s.some.last; listed = s.some.listed; is = s.some.is; some = s.some.some };
    }

some_first : (first : ℕ) (file : LaidFile) (others : List LaidFile) (object : ℕ) (o : Option LaidVersion) → last_laid file.versions ≡ o
    → (IsIn (tops_of (tops_from (suc first) others)) object → SomeTop (suc first) others object)
    → IsIn (tops_of (top_of first o ++ tops_from (suc first) others)) object → SomeTop first (file ∷ others) object
some_first first file others object None is rest h = some_later first file others object (rest h)
some_first first file others object (Some version) is rest h = by (names_none version) refl h
  where
    by : (b : Bool) → names_none version ≡ b
        → IsIn (tops_of (cond b [] ((let t : Top = record { object = first; version = version } in t) ∷ []) ++ tops_from (suc first) others)) object
        → SomeTop first (file ∷ others) object
    by true none j = some_later first file others object (rest j)
    by false none j =
        elim (in_cons first object (tops_of (tops_from (suc first) others)) j) [
          | inl e ↦ record { k = 0; is = (let x : object ≡ first = e in omega arith); some = record { file = file; last = version; listed = refl; is = is; some = none } }
          | inr i ↦ some_later first file others object (rest i)
        ]

pub tops_name_some : (first : ℕ) (files : List LaidFile) (object : ℕ) → IsIn (tops_of (tops_from first files)) object → SomeTop first files object
tops_name_some first [] object h = absurd (none_in object h)
tops_name_some first (file ∷ others) object h =
    some_first first file others object (last_laid file.versions) refl (tops_name_some (suc first) others object) h

pub tops_of_append : (xs ys : List Top) → tops_of (xs ++ ys) ≡ tops_of xs ++ tops_of ys
tops_of_append [] ys = refl
tops_of_append (top ∷ xs) ys = ap (λ l. top.object ∷ l) (tops_of_append xs ys)
