-- One write commits all parts of an update whose flushes are done.
use Rattle.std.proofs.Common.{◌≡◌, ◌≢◌, inl, inr, ℕ, suc, ◌-◌, ◌<◌, length, ◌||◌, Bool, true, false, nat_eq, List, [], ◌∷◌, ◌++◌, map, Some, Result, Ok, refl, sym, ap, subst, ◌∙◌, arith, eq-eqb, true≢false, slice_get}
use Rattle.std.specs.List.{list_any, AllByRecursion}
use Rattle.tree_model.proofs.Paths.{or_told, or_left, or_right}
use Rattle.tree_model.specs.States.{State}
use Rattle.page_codec.specs.Values.{MemberValue}
use Rattle.draft_model.specs.Flush.{block_of, is_block_of}
use Rattle.store_model.specs.Laid.{LaidVersion, LaidFile, last_laid}
use Rattle.store_model.specs.Members.{Linked, longer}
use Rattle.store_model.specs.Found.{LaidStore, version_in, state_in, laid, found}
use Rattle.store_model.specs.Changes.{Rewrites, with_commit, changed_at, file_committed, files_committed, NextVersion, LiesIn, with_version}
use Rattle.store_model.specs.Together.{News, with_news, with_all}
use Rattle.store_model.proofs.PlaceLists.{in_left, in_right, in_either}
use Rattle.store_model.proofs.Edits.{some_is, changed_other, changed_same, longer_is, get_append, get_past, within}
use Rattle.store_model.proofs.FoundStates.{lasts_name_none}
use Rattle.store_model.proofs.Committing.{committing_together}
use Rattle.store_model.proofs.Gathering.{linked_with, committing_all}
use Rattle.version_chain.specs.Laws.{Content}
use Rattle.flush_model.specs.Flushed.{NamesNoneOf}
use Rattle.flush_model.specs.Several.{Part, IsDone, IsNextOfPart, AreTwo, AreDifferent, AreNamed, AreParts, is_of_some, AreReady, objects_of, IsBeside, AreLonger, AreOutstanding, IsCommitted}
use Rattle.flush_model.proofs.Flushed.{read_next}
use Rattle.flush_model.proofs.Ready.{next_of}
use Rattle.flush_model.proofs.Several.{differ, flushed_are_next}

-- ---- objects

ok_is : {X E : Type 0} {x y : X} → (let r : Result X E = Ok x in r) ≡ Ok y → x ≡ y
ok_is h = cc

both_false : (a b : Bool) → (a || b) ≡ false → (a ≡ false) × (b ≡ false)
both_false true b h = absurd (true≢false h)
both_false false b h = (refl, h)

-- an object is beside the parts of other objects
beside_of : (t : ℕ) (parts : List Part) → AllByRecursion (λ q. q.object ≢ t) parts → IsBeside parts t
beside_of t [] are = refl
beside_of t (q ∷ parts) are =
    ap (λ b. b || list_any (nat_eq (suc t)) (objects_of parts)) (differ (suc t) (suc q.object) (λ h. are.0 (omega (arith, h)))) ∙ beside_of t parts are.1

others_of : (p : Part) (parts : List Part) → AllByRecursion (AreTwo p) parts → AllByRecursion (λ q. q.object ≢ p.object) parts
others_of p [] are = tt
others_of p (q ∷ parts) are = (are.0.objects, others_of p parts are.1)

apart_from : (j : ℕ) (p : Part) (parts : List Part) → IsBeside (p ∷ parts) j → j ≢ p.object
apart_from j p parts h same =
    true≢false (sym (eq-eqb (suc j) (suc p.object) (ap suc same)) ∙ (both_false (nat_eq (suc j) (suc p.object)) (list_any (nat_eq (suc j)) (objects_of parts)) h).0)

objects_named : (members : List MemberValue) (parts : List Part) → AreNamed members parts → map (λ (m : MemberValue). m.object) members ≡ objects_of parts
objects_named [] [] named = refl
objects_named [] (p ∷ parts) named = absurd named
objects_named (m ∷ members) [] named = absurd named
objects_named (m ∷ members) (p ∷ parts) named = ap (λ o. o ∷ map (λ (x : MemberValue). x.object) members) named.0.0 ∙ ap (λ os. suc p.object ∷ os) (objects_named members parts named.1)

-- ---- the files with all members linked

place_of : (x : News) (members : List MemberValue) (m : MemberValue) (others : List News) (p : Part) → map (λ (y : News). y.member) (x ∷ others) ≡ m ∷ members → m.object ≡ suc p.object
    → x.member.object - 1 ≡ p.object
place_of x members m others p are object = let one : x.member ≡ m = cc in let o : x.member.object ≡ suc p.object = ap (λ (y : MemberValue). y.object) one ∙ object in omega (arith, o)

-- a file of no part stays
stays : (parts : List Part) (members : List MemberValue) (news : List News) (linked : Linked) (j : ℕ) → AreNamed members parts
    → map (λ (x : News). x.member) news ≡ members → IsBeside parts j → slice_get (linked_with news linked).files j ≡ slice_get linked.files j
stays [] [] [] linked j named are beside = refl
stays [] [] (x ∷ news) linked j named are beside = absurd cc
stays [] (m ∷ members) news linked j named are beside = absurd named
stays (p ∷ parts) [] news linked j named are beside = absurd named
stays (p ∷ parts) (m ∷ members) [] linked j named are beside = absurd cc
stays (p ∷ parts) (m ∷ members) (x ∷ news) linked j named are beside =
    let place : x.member.object - 1 ≡ p.object = place_of x members m news p are named.0.0 in
    let rest : IsBeside parts j = (both_false (nat_eq (suc j) (suc p.object)) (list_any (nat_eq (suc j)) (objects_of parts)) beside).1 in
    stays parts members news (with_news x linked) j named.1 (let tail : map (λ (y : News). y.member) news ≡ members = cc in tail) rest
    ∙ ap (λ (l : List LaidFile). slice_get l j) (longer_is (x.member.object - 1) x.version linked.files)
    ∙ changed_other (longer x.version) (x.member.object - 1) j linked.files (λ z. apart_from j p parts beside (z ∙ place))

-- the file of each part is longer
longer_all : (base : List LaidFile) (parts : List Part) (members : List MemberValue) (news : List News) (linked : Linked) → AreNamed members parts
    → map (λ (x : News). x.member) news ≡ members → AreDifferent parts → AllByRecursion (λ p. slice_get linked.files p.object ≡ slice_get base p.object) parts
    → AreLonger base (linked_with news linked).files parts news
longer_all base [] [] [] linked named are different same = tt
longer_all base [] [] (x ∷ news) linked named are different same = absurd cc
longer_all base [] (m ∷ members) news linked named are different same = absurd named
longer_all base (p ∷ parts) [] news linked named are different same = absurd named
longer_all base (p ∷ parts) (m ∷ members) [] linked named are different same = absurd cc
longer_all base (p ∷ parts) (m ∷ members) (x ∷ news) linked named are different same = (
  λ file listed.
      stays parts members news (with_news x linked) p.object named.1 tail (beside_of p.object parts (others_of p parts different.0))
      ∙ ap (λ (l : List LaidFile). slice_get l p.object) (longer_is (x.member.object - 1) x.version linked.files)
      ∙ ap (λ k. slice_get (changed_at (longer x.version) k linked.files) p.object) place
      ∙ changed_same (longer x.version) p.object linked.files file (same.0 ∙ listed),
  longer_all base parts members news (with_news x linked) named.1 tail different.1 (same_still parts different.0 same.1),
)
  where
    place : x.member.object - 1 ≡ p.object
    place = place_of x members m news p are named.0.0

    tail : map (λ (y : News). y.member) news ≡ members
    tail = cc

    same_still : (qs : List Part) → AllByRecursion (AreTwo p) qs → AllByRecursion (λ q. slice_get linked.files q.object ≡ slice_get base q.object) qs
        → AllByRecursion (λ q. slice_get (with_news x linked).files q.object ≡ slice_get base q.object) qs
    same_still [] two is = tt
    same_still (q ∷ qs) two is = (
      ap (λ (l : List LaidFile). slice_get l q.object) (longer_is (x.member.object - 1) x.version linked.files)
          ∙ changed_other (longer x.version) (x.member.object - 1) q.object linked.files (λ z. two.0.objects (z ∙ place)) ∙ is.0,
      same_still qs two.1 is.1,
    )

start_same : (block : ℕ) (version : LaidVersion) (store : LaidStore) (top : Part) (parts : List Part) → AllByRecursion (AreTwo top) parts
    → AllByRecursion (λ q. slice_get (files_committed top.object block version store).files q.object ≡ slice_get store.files q.object) parts
start_same block version store top [] two = tt
start_same block version store top (q ∷ parts) two =
    (changed_other (file_committed block version) top.object q.object store.files two.0.objects, start_same block version store top parts two.1)

-- ---- the links that are outstanding then

links_left : (content : Content) (most : ℕ) (store : LaidStore) (places : List ℕ) → laid content most [] ≡ Ok (store, places)
    → (after : LaidStore) (parts : List Part) (news : List News) → AllByRecursion (IsDone content store places) parts → AreLonger store.files after.files parts news
    → AreOutstanding after parts news
links_left content most store places e after [] [] done more = tt
links_left content most store places e after [] (x ∷ news) done more = absurd more
links_left content most store places e after (p ∷ parts) [] done more = absurd more
links_left content most store places e after (p ∷ parts) (x ∷ news) done more = (
  (
    record {
      object = p.object;
      file = longer x.version done.0.flushed.file;
      place = length done.0.flushed.file.versions - 1;
      base = p.last;
      next = x.version;
      listed = more.0 done.0.flushed.file done.0.flushed.listed;
      before = get_append done.0.flushed.file.versions (x.version ∷ []) (length done.0.flushed.file.versions - 1) p.last done.0.flushed.last_is;
      after = last_and_next done.0.flushed.file.versions p.last x.version done.0.flushed.last_is;
      nil = lasts_name_none content most store places e p.object done.0.flushed.file p.last done.0.flushed.listed done.0.flushed.last_is;
    },
    (refl, refl, refl),
  ),
  links_left content most store places e after parts news done.1 more.1,
)
  where
    last_and_next : (versions : List LaidVersion) (last next : LaidVersion) → last_laid versions ≡ Some last → slice_get (versions ++ next ∷ []) (suc (length versions - 1)) ≡ Some next
    last_and_next versions last next is =
        let small : length versions - 1 < length versions = within versions (length versions - 1) last is in
        ap (slice_get (versions ++ next ∷ [])) (let z : suc (length versions - 1) ≡ length versions = omega (arith, small) in z) ∙ get_past versions next

-- ---- the commit

pub flushed_is_committed : (content d : Content) (most : ℕ) (store : LaidStore) (places : List ℕ) → laid content most [] ≡ Ok (store, places)
    → (top : Part) (parts : List Part) → AreParts content store places top parts → NamesNoneOf store (objects_of (top ∷ parts))
    → (block : ℕ) → block_of top.plan.placed [] ≡ Some block → Rewrites content d top.last.block (with_commit block)
    → IsCommitted content d most store places top parts
unfolding next_of
flushed_is_committed content d most store places e top parts is unnamed block at rw =
    by (read_next content most store places e top.object top.last top.before top.steps top.draft top.base top.plan is.first.flushed)
  where
    by : (v : LaidVersion) × (new : List ℕ) × IsNextOfPart content store.root.blocks top v new → IsCommitted content d most store places top parts
    by (v, new, nx) =
        let r : AreReady content store top parts v (new ++ places) = flushed_are_next content most store places e top parts is v new nx in
        let start : Linked = files_committed top.object v.block v store in
        let objects : objects_of (top ∷ parts) ≡ suc top.object ∷ map (λ (m : MemberValue). m.object) top.plan.members =
        ap (λ os. suc top.object ∷ os) (sym (objects_named top.plan.members parts is.named)) in
        let next : NextVersion content store places =
        next_of content most store places e top.object top.last top.before top.steps top.draft top.base top.plan is.first.flushed is.first.none (subst (NamesNoneOf store) objects unnamed)
        v new nx r.news r.after r.are r.tried in
        let rewrites : Rewrites content d top.last.block (with_commit v.block) = subst (λ b. Rewrites content d top.last.block (with_commit b)) (some_is (sym at ∙ nx.block)) rw in
        let together = committing_together content d most store places e next rewrites in
        let lies : LiesIn d most (record store { files = (linked_with r.news start).files }) r.after = together.0 in
        let now : State = with_all r.news (with_version top.object (version_in v) (state_in store)) in
        let all : found d most ≡ Ok now = committing_all content d most store places e next r.news (r.are ∙ sym nx.members) r.tried rewrites in
        record {
          version = v;
          new = new;
          next = nx;
          news = r.news;
          each = r.each;
          stands = record {
            store = record store { files = (linked_with r.news start).files };
            order = lies.order;
            lies = lies.laid;
            is = ok_is (sym together.1 ∙ all);
            places = λ n. (
              λ h. elim ((r.places n).0 (sym (lies.same n) ∙ h)) [
                | inl x ↦ elim (in_either new places n x) [
                  | inl y ↦ inr (or_left (is_block_of top.plan.placed n) (is_of_some parts n) ((nx.places n).0 y))
                  | inr y ↦ inl y
                ]
                | inr x ↦ inr (or_right (is_block_of top.plan.placed n) (is_of_some parts n) x)
              ],
              λ h. lies.same n ∙ (r.places n).1 (elim h [
                | inl x ↦ inl (in_right new places n x)
                | inr x ↦ elim (or_told (is_block_of top.plan.placed n) (is_of_some parts n) x) [
                  | inl y ↦ inl (in_left new places n ((nx.places n).1 y))
                  | inr y ↦ inr y
                ]
              ]),
            );
            beside = λ j file out listed.
                stays parts top.plan.members r.news start j is.named r.are
                (both_false (nat_eq (suc j) (suc top.object)) (list_any (nat_eq (suc j)) (objects_of parts)) out).1
                ∙ changed_other (file_committed v.block v) top.object j store.files (apart_from j top parts out) ∙ listed;
          };
          first = λ file listed.
              stays parts top.plan.members r.news start top.object is.named r.are (beside_of top.object parts (others_of top parts is.different.0))
              ∙ changed_same (file_committed v.block v) top.object store.files file listed;
          others = longer_all store.files parts top.plan.members r.news start is.named r.are is.different.1 (start_same v.block v store top parts is.different.0);
          links = links_left content most store places e (record store { files = (linked_with r.news start).files }) parts r.news is.others
              (longer_all store.files parts top.plan.members r.news start is.named r.are is.different.1 (start_same v.block v store top parts is.different.0));
        }
