-- Several files: each flush that is done gives the next version of its file, read after those before it.
use Rattle.std.proofs.Common.{◌≡◌, ◌≢◌, ◌⊎◌, inl, inr, ℕ, suc, ◌-◌, ◌==◌, ◌||◌, not, Bool, true, false, nat_eq, List, [], ◌∷◌, ◌++◌, map, Some, Ok, refl, sym, ap, ◌∙◌, arith, eqb-true, true≢false, slice_get}
use Rattle.std.specs.List.{list_any, AllByRecursion}
use Rattle.tree_model.proofs.Paths.{told, or_told, or_left, or_right}
use Rattle.page_codec.specs.Values.{MemberValue}
use Rattle.draft_model.specs.Flush.{block_of, is_block_of}
use Rattle.store_model.specs.Laid.{LaidVersion, LaidFile, last_laid}
use Rattle.store_model.specs.Members.{Top, Linked, names_none, longer}
use Rattle.store_model.specs.Found.{LaidStore, laid}
use Rattle.store_model.specs.Chains.{version_at}
use Rattle.store_model.specs.Changes.{file_committed, files_committed}
use Rattle.store_model.specs.Together.{News, IsNext, with_news, AreNext}
use Rattle.store_model.proofs.PlaceLists.{IsIn, in_left, in_right, in_either}
use Rattle.store_model.proofs.Steps.{blocks_of}
use Rattle.store_model.proofs.Edits.{some_is, changed_other, longer_is}
use Rattle.store_model.proofs.Linking.{last_again}
use Rattle.store_changes.proofs.InPlaces.{pages_are_places}
use Rattle.version_chain.specs.Laws.{Content}
use Rattle.flush_model.specs.Flushed.{IsFree}
use Rattle.flush_model.specs.Several.{Part, IsDone, IsNextOfPart, AreTwo, AreDifferent, AreNamed, AreParts, is_of_some, AreNextOf, AreReady}
use Rattle.flush_model.proofs.Plans.{BlockAt, block_at, is_among}
use Rattle.flush_model.proofs.Flushed.{read_next}

-- ---- lists

both_all : {X : Type 0} (P Q R : X → Type 0) (xs : List X) → ((x : X) → P x → Q x → R x) → AllByRecursion P xs → AllByRecursion Q xs → AllByRecursion R xs
both_all P Q R [] f a b = tt
both_all P Q R (x ∷ xs) f a b = (f x a.0 b.0, both_all P Q R xs f a.1 b.1)

pub differ : (m n : ℕ) → m ≢ n → (m == n) ≡ false
differ m n h = elim (told (m == n)) [ inl t ↦ absurd (h (eqb-true m n t)) | inr f ↦ f ]

neither : (a b : Bool) → a ≡ false → b ≡ false → (a || b) ≡ false
neither a b f g = ap (λ x. x || b) f ∙ g

next_object : (m n : ℕ) → m ≢ n → suc m ≢ suc n
next_object m n h e = h (omega (arith, e))

-- ---- one part

-- the block of a part's last version is a place, and none of its new blocks is
off_last : (content : Content) (most : ℕ) (store : LaidStore) (places : List ℕ) (e : laid content most [] ≡ Ok (store, places)) (p : Part)
    → IsDone content store places p → (n : ℕ) → is_block_of p.plan.placed n ≡ true → p.last.block ≢ n
off_last content most store places e p is n h same =
    let b : BlockAt p.plan.placed n = block_at p.plan.placed n h in
    let f : IsFree store places b.place.block = is.flushed.mine b.k b.place b.at in
    let here : IsIn places p.last.block =
    pages_are_places content most store places e p.last
    (record { object = p.object; file = is.flushed.file; place = _; listed = is.flushed.listed; kept = is.flushed.last_is }) [] p.last.block refl in
    true≢false (sym here ∙ ap (λ m. list_any (nat_eq m) places) (same ∙ sym b.block) ∙ f.free)

-- what is asked of a part while others are linked before it: `t` is the object of the first part, and it counts from 0
record IsOpen (t : ℕ) (linked : Linked) (seen : List ℕ) (p : Part) : Type 0 where
  other : p.object ≢ t
  unnamed : list_any (nat_eq (suc p.object)) linked.named ≡ false
  file : LaidFile
  listed : slice_get linked.files p.object ≡ Some file
  last : last_laid file.versions ≡ Some p.last
  clear : (n : ℕ) → is_block_of p.plan.placed n ≡ true → IsIn seen n → ⊥

-- another part is linked, and this one is open still
still_open : (t : ℕ) (linked : Linked) (seen : List ℕ) (p q : Part) (x : News) (new : List ℕ) → AreTwo p q → x.member.object ≡ suc p.object
    → ((n : ℕ) → IsIn new n → is_block_of p.plan.placed n ≡ true) → IsOpen t linked seen q → IsOpen t (with_news x linked) (new ++ seen) q
still_open t linked seen p q x new two object mine is =
    let place : x.member.object - 1 ≡ p.object = omega (arith, object) in
    record {
      other = is.other;
      unnamed =
          neither (nat_eq (suc q.object) x.member.object) (list_any (nat_eq (suc q.object)) linked.named)
          (ap (nat_eq (suc q.object)) object ∙ differ (suc q.object) (suc p.object) (next_object q.object p.object two.objects)) is.unnamed;
      file = is.file;
      listed =
          ap (λ (l : List LaidFile). slice_get l q.object) (longer_is (x.member.object - 1) x.version linked.files)
          ∙ changed_other (longer x.version) (x.member.object - 1) q.object linked.files (λ z. two.objects (z ∙ place)) ∙ is.listed;
      last = is.last;
      clear = λ n h i. elim (in_either new seen n i) [ inl y ↦ two.blocks n (mine n y) h | inr y ↦ is.clear n h y ];
    }

-- ---- all parts

module _ (content : Content) (most : ℕ) (store : LaidStore) (places : List ℕ) (e : laid content most [] ≡ Ok (store, places)) (t : ℕ) (version : LaidVersion) where
  abbrev top : Top
  top = record { object = suc t; version = version }

  record Gone (linked : Linked) (seen : List ℕ) (parts : List Part) (members : List MemberValue) : Type 0 where
    news : List News
    after : List ℕ
    are : map (λ x. x.member) news ≡ members
    each : AreNextOf content store.root.blocks parts news
    tried : AreNext (blocks_of content store.root.blocks) top news linked seen after
    from : (n : ℕ) → IsIn after n → IsIn seen n ⊎ (is_of_some parts n ≡ true)
    into : (n : ℕ) → IsIn seen n ⊎ (is_of_some parts n ≡ true) → IsIn after n

  one_next : (linked : Linked) (seen : List ℕ) (p : Part) (m : MemberValue) (v : LaidVersion) (new : List ℕ) → IsDone content store places p → p.plan.members ≡ []
      → m.object ≡ suc p.object → block_of p.plan.placed [] ≡ Some m.block → IsOpen t linked seen p → IsNextOfPart content store.root.blocks p v new
      → IsNext (blocks_of content store.root.blocks) top (record { member = m; version = v }) linked p.last seen (new ++ seen)
  one_next linked seen p m v new done none object at is nx =
      let block : v.block ≡ m.block = some_is (sym nx.block ∙ at) in
      let place : m.object - 1 ≡ p.object = omega (arith, object) in
      record {
        live = last_again m.object linked.files is.file p.last (omega (arith, object)) (ap (slice_get linked.files) place ∙ is.listed) is.last;
        other = ap not (ap (λ o. o == suc t) object ∙ differ (suc p.object) (suc t) (next_object p.object t is.other));
        unnamed = ap not (ap (λ o. list_any (nat_eq o) linked.named) object ∙ is.unnamed);
        none = done.none;
        moved = off_last content most store places e p done m.block (is_among p.plan.placed [] m.block at);
        read =
            ap (λ o. version_at (blocks_of content store.root.blocks) o version.block m.block (Some p.last) seen) object
            ∙ ap (λ b. version_at (blocks_of content store.root.blocks) (suc p.object) version.block b (Some p.last) seen) (sym block)
            ∙ nx.read version.block seen (λ n h i. is.clear n ((nx.places n).0 h) i);
        nil = nx.nil;
        few = ap (λ (ms : List MemberValue). names_none (record v { members = ms })) (nx.members ∙ none);
      }

  all_next : (parts : List Part) (members : List MemberValue) (linked : Linked) (seen : List ℕ) → AllByRecursion (IsDone content store places) parts
      → AllByRecursion (λ p. p.plan.members ≡ []) parts → AreDifferent parts → AreNamed members parts → AllByRecursion (IsOpen t linked seen) parts
      → Gone linked seen parts members
  all_next [] [] linked seen done none different named open_ =
      record { news = []; after = seen; are = refl; each = tt; tried = refl; from = λ n h. inl h; into = λ n h. elim h [ inl x ↦ x | inr x ↦ absurd (true≢false (sym x)) ] }
  all_next [] (m ∷ members) linked seen done none different named open_ = absurd named
  all_next (p ∷ parts) [] linked seen done none different named open_ = absurd named
  all_next (p ∷ parts) (m ∷ members) linked seen done none different named open_ =
      let r = read_next content most store places e p.object p.last p.before p.steps p.draft p.base p.plan done.0.flushed in
      let new : List ℕ = r.1 in
      let nx : IsNextOfPart content store.root.blocks p r.0 new = r.2 in
      let x : News = record { member = m; version = r.0 } in
      let rest : Gone (with_news x linked) (new ++ seen) parts members =
      all_next parts members (with_news x linked) (new ++ seen) done.1 none.1 different.1 named.1
      (both_all (AreTwo p) (IsOpen t linked seen) (IsOpen t (with_news x linked) (new ++ seen)) parts
      (λ q two is. still_open t linked seen p q x new two named.0.0 (λ n h. (nx.places n).0 h) is) different.0 open_.1) in
      record {
        news = x ∷ rest.news;
        after = rest.after;
        are = ap (λ ms. m ∷ ms) rest.are;
        each = ((new, nx), rest.each);
        tried = (p.last, new ++ seen, one_next linked seen p m r.0 new done.0 none.0 named.0.0 named.0.1 open_.0 nx, rest.tried);
        from = λ n h. elim (rest.from n h) [
          | inl y ↦ elim (in_either new seen n y) [
            | inl z ↦ inr (or_left (is_block_of p.plan.placed n) (is_of_some parts n) ((nx.places n).0 z))
            | inr z ↦ inl z
          ]
          | inr y ↦ inr (or_right (is_block_of p.plan.placed n) (is_of_some parts n) y)
        ];
        into = λ n h. rest.into n (elim h [
          | inl y ↦ inl (in_right new seen n y)
          | inr y ↦ elim (or_told (is_block_of p.plan.placed n) (is_of_some parts n) y) [ inl z ↦ inl (in_left new seen n ((nx.places n).1 z)) | inr z ↦ inr z ]
        ]);
      }

-- a part is open where the first one was just linked
open_first : (content : Content) (store : LaidStore) (places : List ℕ) (top q : Part) (version : LaidVersion) (new : List ℕ) → AreTwo top q → IsDone content store places q
    → ((n : ℕ) → IsIn new n → is_block_of top.plan.placed n ≡ true)
    → IsOpen top.object (files_committed top.object version.block version store) (new ++ places) q
open_first content store places top q version new two done mine =
    record {
      other = two.objects;
      unnamed = refl;
      file = done.flushed.file;
      listed = changed_other (file_committed version.block version) top.object q.object store.files two.objects ∙ done.flushed.listed;
      last = done.flushed.last_is;
      clear = λ n h i. elim (in_either new places n i) [
        | inl x ↦ two.blocks n (mine n x) h
        | inr x ↦ (
            let b : BlockAt q.plan.placed n = block_at q.plan.placed n h in
            let f : IsFree store places b.place.block = done.flushed.mine b.k b.place b.at in
            true≢false (sym x ∙ ap (λ m. list_any (nat_eq m) places) (sym b.block) ∙ f.free))
      ];
    }

pub flushed_are_next : (content : Content) (most : ℕ) (store : LaidStore) (places : List ℕ) → laid content most [] ≡ Ok (store, places)
    → (top : Part) (parts : List Part) → AreParts content store places top parts
    → (version : LaidVersion) (new : List ℕ) → IsNextOfPart content store.root.blocks top version new
    → AreReady content store top parts version (new ++ places)
flushed_are_next content most store places e top parts is version new nx =
    let g : Gone content most store places e top.object version (files_committed top.object version.block version store) (new ++ places) parts top.plan.members =
    all_next content most store places e top.object version parts top.plan.members (files_committed top.object version.block version store) (new ++ places)
    is.others is.none is.different.1 is.named
    (both_all (AreTwo top) (IsDone content store places) (IsOpen top.object (files_committed top.object version.block version store) (new ++ places)) parts
    (λ q two done. open_first content store places top q version new two done (λ n h. (nx.places n).0 h)) is.different.0 is.others) in
    record { news = g.news; after = g.after; are = g.are; each = g.each; tried = g.tried; places = λ n. (g.from n, g.into n) }
