-- What the members of tops do to one file: nothing, or one of them is its next version. Then the walk goes alike where that version is there already.
use Rattle.std.proofs.Common.{◌≡◌, ◌≢◌, ℕ, suc, ◌-◌, ◌&&◌, true, nat_eq, List, [], ◌∷◌, ◌++◌, inl, inr, Some, Ok, sym, ap, subst, ◌∙◌, append_assoc, append-nil, arith, eqb-true, eq-eqb, true≢false, slice_get}
use Rattle.std.specs.Option.{is_none}
use Rattle.std.specs.Cmp.{second_so}
use Rattle.page_codec.specs.Values.{MemberValue}
use Rattle.tree_model.proofs.Paths.{told}
use Rattle.store_model.specs.Walk.{Walk, bind}
use Rattle.store_model.specs.Laid.{LaidVersion, LaidFile, last_laid}
use Rattle.store_model.specs.Members.{Top, Linked, names_none, longer, members_linked, tops_linked}
use Rattle.store_model.specs.Changes.{changed_at}
use Rattle.store_model.proofs.PlaceLists.{IsIn, Apart, Distinct, in_head, in_tail, in_cons, in_left, in_right, in_either, none_in, distinct_append, SameBlocks, same_append, same_behind, same_swap, same_from, same_in}
use Rattle.store_model.proofs.Steps.{Content, blocks_of, Agree, InRange, Passed, passed, went_on}
use Rattle.store_model.proofs.Rewriting.{SameVersion, VersionAgain, version_again}
use Rattle.store_model.proofs.Edits.{changed_same, changed_twice}
use Rattle.store_model.proofs.Linking.{InFile, in_file, last_again, Extended, already_goes, MemberRan, member_step, member_goes}
use Rattle.store_model.proofs.Aside.{objects_of, objects_in, with_file, AsideRan, Step, apart_both, apart_next, apart_on, each_both, member_run, member_is_step, members_step, tops_step}

-- the object was named, and its file stayed
pub record Frozen (k : ℕ) (linked after : Linked) : Type 0 where
  pub named : IsIn after.named (suc k)
  pub kept : slice_get after.files k ≡ slice_get linked.files k

-- One of the members is the next version of the file. Its places are parted from the others, and with it in the file the walk finds the others.
pub record Hit (c d : Content) (count k : ℕ) (change : LaidVersion → LaidVersion) (run : Linked → Walk Linked) (objects : List ℕ) (linked : Linked) (seen : List ℕ) (after : Linked) (all : List ℕ) : Type 0 where
  pub file : LaidFile
  pub base : LaidVersion
  pub version : LaidVersion
  pub listed : slice_get linked.files k ≡ Some file
  pub is : last_laid file.versions ≡ Some base
  pub none : names_none base ≡ true
  pub ends : (is_none version.commit && names_none version) ≡ true
  pub grown_file : slice_get after.files k ≡ Some (longer version file)
  pub named : IsIn after.named (suc k)
  pub from : List ℕ
  pub to : List ℕ
  pub again : VersionAgain c d count (suc k) version.block (Some (change base)) from version to
  pub rest : List ℕ
  pub new : List ℕ
  pub grown : all ≡ new ++ seen
  pub apart : Apart new seen
  pub distinct : Distinct new
  pub each : (n : ℕ) → IsIn new n → InRange count n
  pub same : SameBlocks new (again.new ++ rest)
  pub parted : Apart rest again.new
  pub ahead : (g : LaidFile → LaidFile) → last_laid (g (longer version file)).versions ≡ Some version
      → (named later : List ℕ) → ((n : ℕ) → IsIn objects n → IsIn named n → IsIn linked.named n) → Apart rest later → Agree c d rest
      → AsideRan (run (with_file (λ f. g (longer version f)) k named linked)) g k named later rest linked after

-- none of the members is of the file; or one is and the file stays; or one is its next version
pub data Outcome (c d : Content) (count k : ℕ) (change : LaidVersion → LaidVersion) (run : Linked → Walk Linked) (objects : List ℕ) (linked : Linked) (seen : List ℕ) (after : Linked) (all : List ℕ) : Type 0 where
  missed : (IsIn objects (suc k) → ⊥) → Outcome c d count k change run objects linked seen after all
  frozen : Frozen k linked after → Outcome c d count k change run objects linked seen after all
  hit : Hit c d count k change run objects linked seen after all → Outcome c d count k change run objects linked seen after all

same_turn : (xs ys : List ℕ) → SameBlocks (xs ++ ys) (ys ++ xs)
same_turn xs ys n =
    let a : SameBlocks (xs ++ (ys ++ [])) (ys ++ (xs ++ [])) = same_swap xs ys [] in
    same_from (xs ++ ys) (xs ++ (ys ++ [])) (ap (λ l. xs ++ l) (sym (append-nil ys))) n ∙ a n ∙ same_from (ys ++ (xs ++ [])) (ys ++ xs) (ap (λ l. ys ++ l) (append-nil xs)) n

-- a walk that leaves the file as it is, before one that has a member of it
hit_later : (c d : Content) (count k : ℕ) (change : LaidVersion → LaidVersion) (first second : Linked → Walk Linked) (xs ys : List ℕ)
    (linked : Linked) (seen : List ℕ) (mid : Linked) (places : List ℕ) (after : Linked) (all : List ℕ)
    → Step c d count k first xs linked seen mid places → Hit c d count k change second ys mid places after all
    → Hit c d count k change (λ l. bind (first l) second) (xs ++ ys) linked seen after all
hit_later c d count k change first second xs ys linked seen mid places after all one two =
    let inside : (n : ℕ) → IsIn two.again.new n → IsIn two.new n =
    λ n h. same_in (two.again.new ++ two.rest) two.new (λ m. sym (two.same m)) n (in_left two.again.new two.rest n h) in
    let rests : (n : ℕ) → IsIn two.rest n → IsIn two.new n =
    λ n h. same_in (two.again.new ++ two.rest) two.new (λ m. sym (two.same m)) n (in_right two.again.new two.rest n h) in
    record {
      file = two.file;
      base = two.base;
      version = two.version;
      listed = sym one.kept ∙ two.listed;
      is = two.is;
      none = two.none;
      ends = two.ends;
      grown_file = two.grown_file;
      named = two.named;
      from = two.from;
      to = two.to;
      again = two.again;
      rest = two.rest ++ one.new;
      new = two.new ++ one.new;
      grown = two.grown ∙ ap (λ x. two.new ++ x) one.grown ∙ sym (append_assoc two.new one.new seen);
      apart = apart_both two.new one.new places seen one.grown two.apart one.apart;
      distinct = distinct_append two.new one.new two.distinct one.distinct (apart_next two.new one.new places seen one.grown two.apart);
      each = each_both (InRange count) two.new one.new two.each one.each;
      same = λ n. same_append two.new (two.again.new ++ two.rest) one.new two.same n
          ∙ same_from ((two.again.new ++ two.rest) ++ one.new) (two.again.new ++ (two.rest ++ one.new)) (append_assoc two.again.new two.rest one.new) n;
      parted = λ n h g. elim (in_either two.rest one.new n h) [
        | inl x ↦ two.parted n x g
        | inr x ↦ apart_next two.new one.new places seen one.grown two.apart n (inside n g) x
      ];
      ahead = λ g last named later free clear agree.
          let go : AsideRan (first (with_file (λ f. g (longer two.version f)) k named linked)) (λ f. g (longer two.version f)) k named later one.new linked mid =
          one.aside (λ f. g (longer two.version f)) named later (λ n h. free n (in_left xs ys n h)) (λ n h i. clear n (in_right two.rest one.new n h) i)
          (λ n h. agree n (in_right two.rest one.new n h)) in
          let rest : AsideRan (second (with_file (λ f. g (longer two.version f)) k go.names mid)) g k go.names (one.new ++ later) two.rest mid after =
          two.ahead g last go.names (one.new ++ later) (λ n h. go.fewer n (free n (in_right xs ys n h)))
          (apart_on two.rest one.new places seen later one.grown (λ n h i. two.apart n (rests n h) i) clear) (λ n h. agree n (in_left two.rest one.new n h)) in
          record {
            names = rest.names;
            runs =
                went_on (first (with_file (λ f. g (longer two.version f)) k named linked)) second later (with_file (λ f. g (longer two.version f)) k go.names mid) (one.new ++ later) _ go.runs rest.runs
                ∙ ap (λ l. Ok (with_file g k rest.names after, l)) (sym (append_assoc two.rest one.new later));
            fewer = λ n f h. rest.fewer n (go.fewer n f) h;
          };
    }

-- a walk that has a member of the file, before one that leaves it as it is
hit_first : (c d : Content) (count k : ℕ) (change : LaidVersion → LaidVersion) (first second : Linked → Walk Linked) (xs ys : List ℕ)
    (linked : Linked) (seen : List ℕ) (mid : Linked) (places : List ℕ) (after : Linked) (all : List ℕ)
    → Hit c d count k change first xs linked seen mid places → Step c d count k second ys mid places after all
    → Hit c d count k change (λ l. bind (first l) second) (xs ++ ys) linked seen after all
hit_first c d count k change first second xs ys linked seen mid places after all one two =
    let inside : (n : ℕ) → IsIn one.again.new n → IsIn one.new n =
    λ n h. same_in (one.again.new ++ one.rest) one.new (λ m. sym (one.same m)) n (in_left one.again.new one.rest n h) in
    let rests : (n : ℕ) → IsIn one.rest n → IsIn one.new n =
    λ n h. same_in (one.again.new ++ one.rest) one.new (λ m. sym (one.same m)) n (in_right one.again.new one.rest n h) in
    record {
      file = one.file;
      base = one.base;
      version = one.version;
      listed = one.listed;
      is = one.is;
      none = one.none;
      ends = one.ends;
      grown_file = two.kept ∙ one.grown_file;
      named = two.names (suc k) one.named;
      from = one.from;
      to = one.to;
      again = one.again;
      rest = two.new ++ one.rest;
      new = two.new ++ one.new;
      grown = two.grown ∙ ap (λ x. two.new ++ x) one.grown ∙ sym (append_assoc two.new one.new seen);
      apart = apart_both two.new one.new places seen one.grown two.apart one.apart;
      distinct = distinct_append two.new one.new two.distinct one.distinct (apart_next two.new one.new places seen one.grown two.apart);
      each = each_both (InRange count) two.new one.new two.each one.each;
      same = λ n. same_behind two.new one.new (one.again.new ++ one.rest) one.same n ∙ same_swap two.new one.again.new one.rest n;
      parted = λ n h g. elim (in_either two.new one.rest n h) [
        | inl x ↦ apart_next two.new one.new places seen one.grown two.apart n x (inside n g)
        | inr x ↦ one.parted n x g
      ];
      ahead = λ g last named later free clear agree.
          let go : AsideRan (first (with_file (λ f. g (longer one.version f)) k named linked)) g k named later one.rest linked mid =
          one.ahead g last named later (λ n h. free n (in_left xs ys n h)) (λ n h i. clear n (in_right two.new one.rest n h) i) (λ n h. agree n (in_right two.new one.rest n h)) in
          let beside : Apart two.new (one.rest ++ later) =
          λ n h i. elim (in_either one.rest later n i) [
            | inl x ↦ apart_next two.new one.new places seen one.grown two.apart n h (rests n x)
            | inr x ↦ clear n (in_left two.new one.rest n h) x
          ] in
          let rest : AsideRan (second (with_file g k go.names mid)) g k go.names (one.rest ++ later) two.new mid after =
          two.aside g go.names (one.rest ++ later) (λ n h. go.fewer n (free n (in_right xs ys n h))) beside (λ n h. agree n (in_left two.new one.rest n h)) in
          record {
            names = rest.names;
            runs =
                went_on (first (with_file (λ f. g (longer one.version f)) k named linked)) second later (with_file g k go.names mid) (one.rest ++ later) _ go.runs rest.runs
                ∙ ap (λ l. Ok (with_file g k rest.names after, l)) (sym (append_assoc two.new one.rest later));
            fewer = λ n f h. rest.fewer n (go.fewer n f) h;
          };
    }

-- ---- the member of the file

-- this member is the next version of the file
member_hits : (c d : Content) (count k : ℕ) (change : LaidVersion → LaidVersion) (alike : (v : LaidVersion) → SameVersion v (change v))
    (top : Top) (member : MemberValue) (linked : Linked) (seen : List ℕ) (after : Linked) (all : List ℕ)
    → member.object - 1 ≡ k → (r : MemberRan c count top member linked seen after all)
    → Extended c count top.version.block member r.last linked.files after.files seen all
    → Hit c d count k change (member_run d count top member) (member.object ∷ []) linked seen after all
member_hits c d count k change alike top member linked seen after all e r x =
    let f : InFile member.object linked.files r.last = in_file member.object linked.files r.last r.is in
    let object : member.object ≡ suc k = f.counts ∙ ap (λ n. suc n) e in
    let va : VersionAgain c d count member.object member.block (Some (change r.last)) seen x.version all =
    version_again c d count member.object top.version.block member.block (Some r.last) (Some (change r.last)) seen x.version all (alike r.last) x.read in
    let here : slice_get linked.files k ≡ Some f.file = ap (slice_get linked.files) (sym e) ∙ f.listed in
    let at_k : changed_at (longer x.version) (member.object - 1) linked.files ≡ changed_at (longer x.version) k linked.files =
    ap (λ n. changed_at (longer x.version) n linked.files) e in
    hits f here object at_k va.block_is
    (subst (λ o. VersionAgain c d count o x.version.block (Some (change r.last)) seen x.version all) object
    (subst (λ b. VersionAgain c d count member.object b (Some (change r.last)) seen x.version all) (sym va.block_is) va))
  where
    hits : (f : InFile member.object linked.files r.last) → slice_get linked.files k ≡ Some f.file → member.object ≡ suc k
        → changed_at (longer x.version) (member.object - 1) linked.files ≡ changed_at (longer x.version) k linked.files
        → x.version.block ≡ member.block
        → VersionAgain c d count (suc k) x.version.block (Some (change r.last)) seen x.version all
        → Hit c d count k change (member_run d count top member) (member.object ∷ []) linked seen after all
    hits f here object at_k block_is va =
        record {
          file = f.file;
          base = r.last;
          version = x.version;
          listed = here;
          is = f.is;
          none = r.none;
          ends = x.ends;
          grown_file = ap (λ l. slice_get l k) (x.extends ∙ at_k) ∙ changed_same (longer x.version) k linked.files f.file here;
          named = subst (λ l. IsIn l (suc k)) (sym r.named) (subst (IsIn (member.object ∷ linked.named)) object (in_head member.object linked.named));
          from = seen;
          to = all;
          again = va;
          rest = [];
          new = va.new;
          grown = va.grown;
          apart = va.apart;
          distinct = va.distinct;
          each = va.each;
          same = same_from va.new (va.new ++ []) (sym (append-nil va.new));
          parted = λ n h g. none_in n h;
          ahead = λ g last named later free clear agree.
              let files : List LaidFile = changed_at (λ y. g (longer x.version y)) k linked.files in
              let there : slice_get files (member.object - 1) ≡ Some (g (longer x.version f.file)) =
              ap (slice_get files) e ∙ changed_same (λ y. g (longer x.version y)) k linked.files f.file here in
              record {
                names = member.object ∷ named;
                runs =
                    member_goes d count top member files files named x.version later later
                    (last_again member.object files (g (longer x.version f.file)) x.version f.counts there last) r.other
                    (second_so (is_none x.version.commit) (names_none x.version) x.ends) (λ h. r.unnamed (free member.object (in_head member.object []) h))
                    (already_goes d count top.version.block member x.version files later (eq-eqb x.version.block member.block block_is))
                    ∙ ap (λ l. Ok ((let m : Linked = record { files = l; named = member.object ∷ named } in m), later))
                    (sym (changed_twice g (longer x.version) k linked.files) ∙ ap (changed_at g k) (sym (x.extends ∙ at_k)));
                fewer = λ n known h. subst (λ l. IsIn l n) (sym r.named) (elim (in_cons member.object n named h) [
                  | inl i ↦ subst (IsIn (member.object ∷ linked.named)) (sym i) (in_head member.object linked.named)
                  | inr i ↦ in_tail member.object n linked.named (known i)
                ]);
              };
        }

-- ---- all members, and all tops

one_less : (k m : ℕ) → suc k ≡ m → m - 1 ≡ k
one_less k m e = omega arith

members_outcome : (c d : Content) (count k : ℕ) (change : LaidVersion → LaidVersion) (alike : (v : LaidVersion) → SameVersion v (change v))
    (top : Top) (members : List MemberValue) (linked : Linked) (seen : List ℕ) (after : Linked) (all : List ℕ)
    → members_linked (blocks_of c count) top members linked seen ≡ Ok (after, all)
    → Outcome c d count k change (members_linked (blocks_of d count) top members) (objects_of members) linked seen after all
unfolding members_linked bind
members_outcome c d count k change alike top [] linked seen after all e = missed (λ h. none_in (suc k) h)
members_outcome c d count k change alike top (member ∷ others) linked seen after all e =
    let p : Passed (member_run c count top member linked seen) (members_linked (blocks_of c count) top others) after all =
    passed (member_run c count top member linked seen) (members_linked (blocks_of c count) top others) after all e in
    let r : MemberRan c count top member linked seen p.value p.places = member_step c count top member linked seen p.value p.places p.first in
    let f : InFile member.object linked.files r.last = in_file member.object linked.files r.last r.is in
    elim (told (nat_eq (member.object - 1) k)) [
      | inl t ↦ here p r (eqb-true (member.object - 1) k t) (f.counts ∙ ap (λ n. suc n) (eqb-true (member.object - 1) k t))
          (λ named. members_step c d count k top others p.value p.places after all (inl named) p.second)
      | inr n ↦ there p r (λ e. true≢false (sym (eq-eqb (member.object - 1) k e) ∙ n)) (λ e. true≢false (sym (eq-eqb (member.object - 1) k (one_less k member.object e)) ∙ n))
          (members_outcome c d count k change alike top others p.value p.places after all p.second)
    ]
  where
    here : (p : Passed (member_run c count top member linked seen) (members_linked (blocks_of c count) top others) after all)
        → (r : MemberRan c count top member linked seen p.value p.places) → member.object - 1 ≡ k → member.object ≡ suc k
        → (IsIn p.value.named (suc k) → Step c d count k (members_linked (blocks_of d count) top others) (objects_of others) p.value p.places after all)
        → Outcome c d count k change (members_linked (blocks_of d count) top (member ∷ others)) (objects_of (member ∷ others)) linked seen after all
    here p r e object rest =
        let named : IsIn p.value.named (suc k) =
        subst (λ l. IsIn l (suc k)) (sym r.named) (subst (IsIn (member.object ∷ linked.named)) object (in_head member.object linked.named)) in
        elim r.how [
          | inl x ↦ frozen (record { named = (rest named).names (suc k) named; kept = (rest named).kept ∙ ap (λ l. slice_get l k) x.keeps })
          | inr x ↦ hit (hit_first c d count k change (member_run d count top member) (members_linked (blocks_of d count) top others) (member.object ∷ []) (objects_of others) linked seen p.value p.places after all
              (member_hits c d count k change alike top member linked seen p.value p.places e r x) (rest named))
        ]

    there : (p : Passed (member_run c count top member linked seen) (members_linked (blocks_of c count) top others) after all)
        → (r : MemberRan c count top member linked seen p.value p.places) → member.object - 1 ≢ k → (suc k ≡ member.object → ⊥)
        → Outcome c d count k change (members_linked (blocks_of d count) top others) (objects_of others) p.value p.places after all
        → Outcome c d count k change (members_linked (blocks_of d count) top (member ∷ others)) (objects_of (member ∷ others)) linked seen after all
    there p r off apart rest =
        let one : Step c d count k (member_run d count top member) (member.object ∷ []) linked seen p.value p.places =
        member_is_step c d count k top member linked seen p.value p.places off r in
        elim rest [
          | missed m ↦ missed (λ h. elim (in_cons member.object (suc k) (objects_of others) h) [ inl i ↦ apart i | inr i ↦ m i ])
          | frozen z ↦ frozen (record { named = z.named; kept = z.kept ∙ one.kept })
          | hit z ↦ hit (hit_later c d count k change (member_run d count top member) (members_linked (blocks_of d count) top others) (member.object ∷ []) (objects_of others) linked seen p.value p.places after all one z)
        ]

pub tops_outcome : (c d : Content) (count k : ℕ) (change : LaidVersion → LaidVersion) (alike : (v : LaidVersion) → SameVersion v (change v))
    (tops : List Top) (linked : Linked) (seen : List ℕ) (after : Linked) (all : List ℕ)
    → tops_linked (blocks_of c count) tops linked seen ≡ Ok (after, all)
    → Outcome c d count k change (tops_linked (blocks_of d count) tops) (objects_in tops) linked seen after all
unfolding tops_linked bind
tops_outcome c d count k change alike [] linked seen after all e = missed (λ h. none_in (suc k) h)
tops_outcome c d count k change alike (top ∷ others) linked seen after all e =
    let p : Passed (members_linked (blocks_of c count) top top.version.members linked seen) (tops_linked (blocks_of c count) others) after all =
    passed (members_linked (blocks_of c count) top top.version.members linked seen) (tops_linked (blocks_of c count) others) after all e in
    joined p (λ named. tops_step c d count k others p.value p.places after all (inl named) p.second)
    (members_outcome c d count k change alike top top.version.members linked seen p.value p.places p.first)
    (tops_outcome c d count k change alike others p.value p.places after all p.second)
  where
    joined : (p : Passed (members_linked (blocks_of c count) top top.version.members linked seen) (tops_linked (blocks_of c count) others) after all)
        → (IsIn p.value.named (suc k) → Step c d count k (tops_linked (blocks_of d count) others) (objects_in others) p.value p.places after all)
        → Outcome c d count k change (members_linked (blocks_of d count) top top.version.members) (objects_of top.version.members) linked seen p.value p.places
        → Outcome c d count k change (tops_linked (blocks_of d count) others) (objects_in others) p.value p.places after all
        → Outcome c d count k change (tops_linked (blocks_of d count) (top ∷ others)) (objects_in (top ∷ others)) linked seen after all
    joined p rest (frozen z) two = frozen (record { named = (rest z.named).names (suc k) z.named; kept = (rest z.named).kept ∙ z.kept })
    joined p rest (hit z) two =
        hit (hit_first c d count k change (members_linked (blocks_of d count) top top.version.members) (tops_linked (blocks_of d count) others)
        (objects_of top.version.members) (objects_in others) linked seen p.value p.places after all z (rest z.named))
    joined p rest (missed m) two =
        let one : Step c d count k (members_linked (blocks_of d count) top top.version.members) (objects_of top.version.members) linked seen p.value p.places =
        members_step c d count k top top.version.members linked seen p.value p.places (inr (inl m)) p.first in
        elim two [
          | missed n ↦ missed (λ h. elim (in_either (objects_of top.version.members) (objects_in others) (suc k) h) [ inl i ↦ m i | inr i ↦ n i ])
          | frozen z ↦ frozen (record { named = z.named; kept = z.kept ∙ one.kept })
          | hit z ↦ hit (hit_later c d count k change (members_linked (blocks_of d count) top top.version.members) (tops_linked (blocks_of d count) others)
              (objects_of top.version.members) (objects_in others) linked seen p.value p.places after all one z)
        ]
