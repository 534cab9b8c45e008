-- The members of one top before those of others: where they are of other objects, both orders come to the same.
use Rattle.std.proofs.Common.{◌≡◌, ◌≢◌, ℕ, zero, suc, ◌-◌, List, [], ◌∷◌, ◌++◌, inl, inr, ◌⊎◌, Some, Ok, refl, sym, ap, subst, ◌∙◌, arith}
use Rattle.page_codec.specs.Values.{MemberValue}
use Rattle.store_model.specs.Walk.{bind, done}
use Rattle.store_model.specs.Laid.{LaidFile}
use Rattle.store_model.specs.Members.{Top, Linked, last_in, longer, members_linked, tops_linked}
use Rattle.store_model.specs.Changes.{changed_at}
use Rattle.store_model.proofs.PlaceLists.{IsIn, Apart, in_head, in_tail, in_cons, in_left, in_right, in_either, in_along, none_in, SameBlocks, same_behind, same_swap, same_from, same_in}
use Rattle.store_model.proofs.Steps.{Content, blocks_of, InRange, Ran, Passed, passed, went_on, same_value, same_places}
use Rattle.store_model.proofs.Locality.{framed_members}
use Rattle.store_model.proofs.Rewriting.{same_version, VersionAgain, version_again}
use Rattle.store_model.proofs.Linking.{InFile, in_file, last_again, Already, Extended, already_goes, extended_goes, MemberRan, member_step, member_goes}
use Rattle.store_model.proofs.TopsNamed.{tops_of}
use Rattle.store_model.proofs.Aside.{objects_of, objects_in, NamesSome, passed_by, with_file, AsideRan, Step, member_run, member_is_step, tops_step}

-- ---- which objects are named

pub members_name : (c : Content) (count : ℕ) (top : Top) (members : List MemberValue) (linked : Linked) (seen : List ℕ) (after : Linked) (all : List ℕ)
    → members_linked (blocks_of c count) top members linked seen ≡ Ok (after, all)
    → (n : ℕ) → IsIn after.named n → IsIn linked.named n ⊎ (IsIn (objects_of members) n ⊎ (n ≡ top.object))
unfolding members_linked bind done
members_name c count top [] linked seen after all e n h =
    let made : record linked { named = top.object ∷ linked.named } ≡ after = same_value seen all (record linked { named = top.object ∷ linked.named }) after e in
    elim (in_cons top.object n linked.named (subst (λ (l : Linked). IsIn l.named n) (sym made) h)) [ inl x ↦ inr (inr x) | inr x ↦ inl x ]
members_name c count top (member ∷ others) linked seen after all e n h =
    let p : Passed (member_run c count top member linked seen) (members_linked (blocks_of c count) top others) after all =
    passed (member_run c count top member linked seen) (members_linked (blocks_of c count) top others) after all e in
    let r : MemberRan c count top member linked seen p.value p.places = member_step c count top member linked seen p.value p.places p.first in
    elim (members_name c count top others p.value p.places after all p.second n h) [
      | inl x ↦ elim (in_cons member.object n linked.named (subst (λ l. IsIn l n) r.named x)) [
        | inl y ↦ inr (inl (subst (IsIn (member.object ∷ objects_of others)) (sym y) (in_head member.object (objects_of others))))
        | inr y ↦ inl y
      ]
      | inr x ↦ elim x [ inl y ↦ inr (inl (in_tail member.object n (objects_of others) y)) | inr y ↦ inr (inr y) ]
    ]

pub tops_name : (c : Content) (count : ℕ) (tops : List Top) (linked : Linked) (seen : List ℕ) (after : Linked) (all : List ℕ)
    → tops_linked (blocks_of c count) tops linked seen ≡ Ok (after, all)
    → (n : ℕ) → IsIn after.named n → IsIn linked.named n ⊎ (IsIn (objects_in tops) n ⊎ IsIn (tops_of tops) n)
unfolding tops_linked bind done
tops_name c count [] linked seen after all e n h = inl (subst (λ (l : Linked). IsIn l.named n) (sym (same_value seen all linked after e)) h)
tops_name c count (top ∷ others) linked seen after all e n h =
    let p : Passed (members_linked (blocks_of c count) top top.version.members linked seen) (tops_linked (blocks_of c count) others) after all =
    passed (members_linked (blocks_of c count) top top.version.members linked seen) (tops_linked (blocks_of c count) others) after all e in
    elim (tops_name c count others p.value p.places after all p.second n h) [
      | inl x ↦ elim (members_name c count top top.version.members linked seen p.value p.places p.first n x) [
        | inl y ↦ inl y
        | inr y ↦ elim y [
          | inl z ↦ inr (inl (in_left (objects_of top.version.members) (objects_in others) n z))
          | inr z ↦ inr (inr (subst (IsIn (top.object ∷ tops_of others)) (sym z) (in_head top.object (tops_of others))))
        ]
      ]
      | inr x ↦ elim x [
        | inl y ↦ inr (inl (in_right (objects_of top.version.members) (objects_in others) n y))
        | inr y ↦ inr (inr (in_tail top.object n (tops_of others) y))
      ]
    ]

-- no member is of a file whose last version names members
pub never_member : (c : Content) (count k : ℕ) (top : Top) (members : List MemberValue) (linked : Linked) (seen : List ℕ) (after : Linked) (all : List ℕ)
    → NamesSome k linked.files → members_linked (blocks_of c count) top members linked seen ≡ Ok (after, all) → IsIn (objects_of members) (suc k) → ⊥
unfolding members_linked bind
never_member c count k top [] linked seen after all some e h = none_in (suc k) h
never_member c count k top (member ∷ others) linked seen after all some e h =
    let p : Passed (member_run c count top member linked seen) (members_linked (blocks_of c count) top others) after all =
    passed (member_run c count top member linked seen) (members_linked (blocks_of c count) top others) after all e in
    let r : MemberRan c count top member linked seen p.value p.places = member_step c count top member linked seen p.value p.places p.first in
    let off : member.object - 1 ≢ k =
    passed_by c count k (objects_of (member ∷ others)) top member linked seen p.value p.places (inr (inr some)) (in_head member.object (objects_of others)) r in
    let one : Step c c count k (member_run c count top member) (member.object ∷ []) linked seen p.value p.places =
    member_is_step c c count k top member linked seen p.value p.places off r in
    elim (in_cons member.object (suc k) (objects_of others) h) [
      | inl x ↦ off (less k member.object x)
      | inr x ↦ never_member c count k top others p.value p.places after all
          (record { file = some.file; last = some.last; listed = one.kept ∙ some.listed; is = some.is; some = some.some }) p.second x
    ]
  where
    less : (k m : ℕ) → suc k ≡ m → m - 1 ≡ k
    less k m e = omega arith

-- ---- both orders

pub changed_none : {X : Type 0} (k : ℕ) (xs : List X) → changed_at (λ x. x) k xs ≡ xs
changed_none k [] = refl
changed_none zero (x ∷ xs) = refl
changed_none (suc k) (x ∷ xs) = ap (λ l. x ∷ l) (changed_none k xs)

-- first the members of the top, and then the other tops
pub record Swapped (c : Content) (count : ℕ) (top : Top) (members : List MemberValue) (tops : List Top) (start : Linked) (seen : List ℕ) (files : List LaidFile) (all : List ℕ) : Type 0 where
  pub middle : Linked
  pub so_far : List ℕ
  pub first : members_linked (blocks_of c count) top members start seen ≡ Ok (middle, so_far)
  pub end : Linked
  pub places : List ℕ
  pub second : tops_linked (blocks_of c count) tops middle so_far ≡ Ok (end, places)
  pub same_files : end.files ≡ files
  pub same : SameBlocks places all

abbrev linked_as : List LaidFile → List ℕ → Linked
linked_as files named = record { files = files; named = named }

-- no member is left: only the top itself counts as named
swap_none : (c : Content) (count k : ℕ) (top : Top) (tops : List Top) (a : Linked) (seen : List ℕ) (b : Linked) (mid : List ℕ) (named others : List ℕ) (after : Linked) (all : List ℕ)
    → top.object ≡ suc k → (IsIn (objects_in tops) (suc k) → ⊥) → tops_linked (blocks_of c count) tops a seen ≡ Ok (b, mid)
    → members_linked (blocks_of c count) top [] (linked_as b.files others) mid ≡ Ok (after, all)
    → ((n : ℕ) → IsIn (objects_in tops) n → IsIn named n → IsIn a.named n)
    → Swapped c count top [] tops (linked_as a.files named) seen after.files all
unfolding members_linked done
swap_none c count k top tops a seen b mid named others after all object off run e free =
    let s : Step c c count k (tops_linked (blocks_of c count) tops) (objects_in tops) a seen b mid = tops_step c c count k tops a seen b mid (inr (inl off)) run in
    let go : AsideRan (tops_linked (blocks_of c count) tops (with_file (λ f. f) k (top.object ∷ named) a)) (λ f. f) k (top.object ∷ named) seen s.new a b =
    s.aside (λ f. f) (top.object ∷ named) seen
    (λ n i h. elim (in_cons top.object n named h) [ inl x ↦ absurd (off (subst (IsIn (objects_in tops)) (x ∙ object) i)) | inr x ↦ free n i x ]) s.apart (λ n h. refl) in
    let made : linked_as b.files (top.object ∷ others) ≡ after = same_value mid all (linked_as b.files (top.object ∷ others)) after e in
    record {
      middle = linked_as a.files (top.object ∷ named);
      so_far = seen;
      first = refl;
      end = with_file (λ f. f) k go.names b;
      places = s.new ++ seen;
      second = ap (λ l. tops_linked (blocks_of c count) tops (linked_as l (top.object ∷ named)) seen) (sym (changed_none k a.files)) ∙ go.runs;
      same_files = changed_none k b.files ∙ ap (λ (l : Linked). l.files) made;
      same = same_from (s.new ++ seen) all (sym s.grown ∙ same_places mid all (linked_as b.files (top.object ∷ others)) after e);
    }

-- the swap of these members
abbrev Swaps : Content → ℕ → ℕ → Top → List Top → List MemberValue → Type 0
Swaps c count k top tops members =
    (a : Linked) (seen : List ℕ) (b : Linked) (mid : List ℕ) (named others : List ℕ) (after : Linked) (all : List ℕ)
    → tops_linked (blocks_of c count) tops a seen ≡ Ok (b, mid)
    → members_linked (blocks_of c count) top members (linked_as b.files others) mid ≡ Ok (after, all)
    → ((n : ℕ) → IsIn (objects_of members) n → IsIn (objects_in tops) n → ⊥)
    → ((n : ℕ) → IsIn (objects_of members) n → IsIn named n → IsIn others n)
    → ((n : ℕ) → IsIn (objects_in tops) n → IsIn named n → IsIn a.named n)
    → Swapped c count top members tops (linked_as a.files named) seen after.files all

-- what one member found before the tops rather than behind them
record Before (c : Content) (count : ℕ) (top : Top) (member : MemberValue) (tops : List Top) (a : Linked) (seen named : List ℕ) (next : List LaidFile) (mid : List ℕ) : Type 0 where
  start : Linked
  start_named : start.named ≡ a.named
  so_far : List ℕ
  first : member_run c count top member (linked_as a.files named) seen ≡ Ok (linked_as start.files (member.object ∷ named), so_far)
  end : Linked
  places : List ℕ
  second : tops_linked (blocks_of c count) tops start so_far ≡ Ok (end, places)
  files : end.files ≡ next
  same : SameBlocks places mid

before_tops : (c : Content) (count : ℕ) (top : Top) (member : MemberValue) (tops : List Top) (a : Linked) (seen : List ℕ) (b : Linked) (mid : List ℕ) (named others : List ℕ) (next : Linked) (places : List ℕ)
    → tops_linked (blocks_of c count) tops a seen ≡ Ok (b, mid) → (r : MemberRan c count top member (linked_as b.files others) mid next places)
    → (IsIn (objects_in tops) member.object → ⊥) → (IsIn named member.object → ⊥)
    → Before c count top member tops a seen named next.files places
before_tops c count top member tops a seen b mid named others next places run r off free =
    let f : InFile member.object b.files r.last = in_file member.object b.files r.last r.is in
    let j : ℕ = member.object - 1 in
    let s : Step c c count j (tops_linked (blocks_of c count) tops) (objects_in tops) a seen b mid =
    tops_step c c count j tops a seen b mid (inr (inl (λ h. off (subst (IsIn (objects_in tops)) (sym f.counts) h)))) run in
    let there : last_in member.object a.files ≡ Some r.last = last_again member.object a.files f.file r.last f.counts (sym s.kept ∙ f.listed) f.is in
    elim r.how [ inl x ↦ stays s there x | inr x ↦ grows s there x ]
  where
    stays : Step c c count (member.object - 1) (tops_linked (blocks_of c count) tops) (objects_in tops) a seen b mid
        → last_in member.object a.files ≡ Some r.last → Already member r.last b.files next.files mid places → Before c count top member tops a seen named next.files places
    stays s there x =
        record {
          start = a;
          start_named = refl;
          so_far = seen;
          first = member_goes c count top member a.files a.files named r.last seen seen there r.other r.none free (already_goes c count top.version.block member r.last a.files seen x.is_last);
          end = b;
          places = mid;
          second = run;
          files = sym x.keeps;
          same = same_from mid places (sym x.stays);
        }

    grows : Step c c count (member.object - 1) (tops_linked (blocks_of c count) tops) (objects_in tops) a seen b mid
        → last_in member.object a.files ≡ Some r.last → Extended c count top.version.block member r.last b.files next.files mid places → Before c count top member tops a seen named next.files places
    grows s there x =
        let j : ℕ = member.object - 1 in
        let va : VersionAgain c c count member.object member.block (Some r.last) mid x.version places =
        version_again c c count member.object top.version.block member.block (Some r.last) (Some r.last) mid x.version places (same_version r.last) x.read in
        let clear : Apart va.new seen = λ n h i. va.apart n h (in_along (s.new ++ seen) mid (sym s.grown) n (in_right s.new seen n i)) in
        let beside : Apart s.new (va.new ++ seen) =
        λ n h i. elim (in_either va.new seen n i) [
          | inl y ↦ va.apart n y (in_along (s.new ++ seen) mid (sym s.grown) n (in_left s.new seen n h))
          | inr y ↦ s.apart n h y
        ] in
        let go : AsideRan (tops_linked (blocks_of c count) tops (with_file (longer x.version) j a.named a)) (longer x.version) j a.named (va.new ++ seen) s.new a b =
        s.aside (longer x.version) a.named (va.new ++ seen) (λ n i h. h) beside (λ n h. refl) in
        record {
          start = with_file (longer x.version) j a.named a;
          start_named = refl;
          so_far = va.new ++ seen;
          first =
              member_goes c count top member a.files (changed_at (longer x.version) j a.files) named r.last seen (va.new ++ seen) there r.other r.none free
              (extended_goes c count top.version.block member r.last x.version a.files seen (va.new ++ seen) x.not_last (va.again top.version.block seen clear (λ n h. refl)) x.ends);
          end = with_file (longer x.version) j go.names b;
          places = s.new ++ (va.new ++ seen);
          second = go.runs;
          files = sym x.extends;
          same = λ n. same_swap s.new va.new seen n ∙ same_from (va.new ++ (s.new ++ seen)) places (ap (λ l. va.new ++ l) (sym s.grown) ∙ sym va.grown) n;
        }

swap_one : (c : Content) (count k : ℕ) (top : Top) (tops : List Top) (member : MemberValue) (members : List MemberValue) → Swaps c count k top tops members
    → Swaps c count k top tops (member ∷ members)
unfolding members_linked bind
swap_one c count k top tops member members rest a seen b mid named others after all run e off free known =
    let p : Passed (member_run c count top member (linked_as b.files others) mid) (members_linked (blocks_of c count) top members) after all =
    passed (member_run c count top member (linked_as b.files others) mid) (members_linked (blocks_of c count) top members) after all e in
    let r : MemberRan c count top member (linked_as b.files others) mid p.value p.places = member_step c count top member (linked_as b.files others) mid p.value p.places p.first in
    let here : IsIn (member.object ∷ objects_of members) member.object = in_head member.object (objects_of members) in
    let one : Before c count top member tops a seen named p.value.files p.places =
    before_tops c count top member tops a seen b mid named others p.value p.places run r (off member.object here) (λ h. r.unnamed (free member.object here h)) in
    let ran : Ran c c (InRange count) (members_linked (blocks_of c count) top members p.value) p.places after all =
    (framed_members c c count top members p.value).runs p.places after all p.second in
    let moved : members_linked (blocks_of c count) top members p.value one.places ≡ Ok (after, ran.new ++ one.places) =
    ran.anywhere one.places (λ n h i. ran.apart n h (same_in one.places p.places one.same n i)) (λ n h. refl) in
    let start : linked_as one.end.files (member.object ∷ others) ≡ p.value = ap (λ l. linked_as l (member.object ∷ others)) one.files ∙ ap (linked_as p.value.files) (sym r.named) in
    let s : Swapped c count top members tops (linked_as one.start.files (member.object ∷ named)) one.so_far after.files (ran.new ++ one.places) =
    rest one.start one.so_far one.end one.places (member.object ∷ named) (member.object ∷ others) after (ran.new ++ one.places) one.second
    (ap (λ l. members_linked (blocks_of c count) top members l one.places) start ∙ moved) (λ n h. off n (in_tail member.object n (objects_of members) h))
    (λ n h i. elim (in_cons member.object n named i) [
      | inl x ↦ subst (IsIn (member.object ∷ others)) (sym x) (in_head member.object others)
      | inr x ↦ in_tail member.object n others (free n (in_tail member.object n (objects_of members) h) x)
    ])
    (λ n h i. elim (in_cons member.object n named i) [
      | inl x ↦ absurd (off member.object here (subst (IsIn (objects_in tops)) x h))
      | inr x ↦ subst (λ l. IsIn l n) (sym one.start_named) (known n h x)
    ]) in
    record {
      middle = s.middle;
      so_far = s.so_far;
      first = went_on (member_run c count top member (linked_as a.files named)) (members_linked (blocks_of c count) top members) seen (linked_as one.start.files (member.object ∷ named)) one.so_far (Ok (s.middle, s.so_far)) one.first s.first;
      end = s.end;
      places = s.places;
      second = s.second;
      same_files = s.same_files;
      same = λ n. s.same n ∙ same_behind ran.new one.places p.places one.same n ∙ same_from (ran.new ++ p.places) all (sym ran.grown) n;
    }

pub swap : (c : Content) (count k : ℕ) (top : Top) (tops : List Top) (members : List MemberValue) → top.object ≡ suc k → (IsIn (objects_in tops) (suc k) → ⊥)
    → Swaps c count k top tops members
swap c count k top tops [] object off =
    λ a seen b mid named others after all run e apart free known. swap_none c count k top tops a seen b mid named others after all object off run e known
swap c count k top tops (member ∷ members) object off = swap_one c count k top tops member members (swap c count k top tops members object off)
