-- A version that was read is read again: from other places, named by another block, after the version before with another commit reference,
-- and with another commit reference and other members itself.
use Rattle.std.proofs.Common.{◌≡◌, ◌≢◌, ℕ, ◌+◌, ◌==◌, ◌&&◌, ◌||◌, Bool, true, false, nat_le, nat_lt, List, [], ◌∷◌, ◌++◌, length, Option, Some, None, option_map, Result, Ok, Err, inl, inr, refl, sym, ap, subst, ◌∙◌, append_assoc}
use Rattle.std.specs.Option.{is_none, option_and_then}
use Rattle.page_codec.specs.declared.why.Why.{Why}
use Rattle.page_codec.specs.declared.why.Why.TheVariants.{Reference, Object, Serial, Base, Code, Member}
use Rattle.page_codec.specs.Values.{VersionValue, MemberValue}
use Rattle.page_codec.specs.Causes.{version_of}
use Rattle.store_model.specs.Walk.{bind, done, refuse, check, decoded, is_new, add, content_at, place}
use Rattle.store_model.specs.Laid.{Node, LaidVersion, is_block}
use Rattle.store_model.specs.Pages.{pages_below}
use Rattle.store_model.specs.Chains.{follows, has_no_members, root_node, version_at}
use Rattle.store_model.specs.Laws.{read_of}
use Rattle.store_model.specs.Changes.{version_in_block}
use Rattle.store_model.proofs.PlaceLists.{IsIn, Apart, Distinct, in_head, in_left, in_right, in_one, in_either, none_in, distinct_append}
use Rattle.store_model.proofs.Steps.{Content, blocks_of, Agree, InRange, in_range, Ran, Passed, passed, went_on, ok≢err, same_value, same_places, Took, took, takes}
use Rattle.store_model.proofs.Locality.{framed_below}

-- ---- steps told and done again

pub record Checked (test : Bool) (seen all : List ℕ) : Type 0 where
  pub holds : test ≡ true
  pub stays : seen ≡ all

pub checked : (test : Bool) (block : ℕ) (why : Why) (seen : List ℕ) (x : Bool) (all : List ℕ) → check test block why seen ≡ Ok (x, all) → Checked test seen all
unfolding check done refuse
checked true block why seen x all e = record { holds = refl; stays = same_places seen all true x e }
checked false block why seen x all e = absurd (ok≢err e)

pub checks : (test : Bool) (block : ℕ) (why : Why) (seen : List ℕ) → test ≡ true → check test block why seen ≡ Ok (true, seen)
unfolding check done
checks test block why seen h = ap (λ b. check b block why seen) h

pub record Decoded {X : Type 0} (r : Result X Why) (seen : List ℕ) (x : X) (all : List ℕ) : Type 0 where
  pub reads : r ≡ Ok x
  pub stays : seen ≡ all

pub decoded_told : {X : Type 0} (block : ℕ) (r : Result X Why) (seen : List ℕ) (x : X) (all : List ℕ) → decoded block r seen ≡ Ok (x, all) → Decoded r seen x all
unfolding decoded done refuse
decoded_told block (Ok y) seen x all e = record { reads = ap Ok (same_value seen all y x e); stays = same_places seen all y x e }
decoded_told block (Err why) seen x all e = absurd (ok≢err e)

pub decodes : {X : Type 0} (block : ℕ) (r : Result X Why) (seen : List ℕ) (x : X) → r ≡ Ok x → decoded block r seen ≡ Ok (x, seen)
unfolding decoded done
decodes block r seen x e = ap (λ o. decoded block o seen) e

-- a place that was found
pub record Placed (count block : ℕ) (held : Option (List ℕ)) (seen bytes all : List ℕ) : Type 0 where
  pub ranged : (nat_le 1 block && nat_lt block count) ≡ true
  pub took : Took block held seen bytes all

pub placed : (c : Content) (count namer block : ℕ) (seen bytes all : List ℕ) → place (blocks_of c count) namer block seen ≡ Ok (bytes, all)
    → Placed count block (c block) seen bytes all
unfolding place bind
placed c count namer block seen bytes all e =
    let p : Passed (check (nat_le 1 block && nat_lt block count) namer Reference seen) _ bytes all =
    passed (check (nat_le 1 block && nat_lt block count) namer Reference seen) _ bytes all e in
    let h : Checked (nat_le 1 block && nat_lt block count) seen p.places =
    checked (nat_le 1 block && nat_lt block count) namer Reference seen p.value p.places p.first in
    record {
      ranged = h.holds;
      took = took block (c block) seen bytes all
          (ap (λ s. bind (is_new block) (λ _. bind (add block) (λ _. content_at block (c block))) s) h.stays ∙ p.second);
    }

pub places_again : (c : Content) (count namer block : ℕ) (seen bytes : List ℕ) → (nat_le 1 block && nat_lt block count) ≡ true → (IsIn seen block → ⊥)
    → c block ≡ Some bytes → place (blocks_of c count) namer block seen ≡ Ok (bytes, block ∷ seen)
unfolding place
places_again c count namer block seen bytes ranged fresh holds =
    went_on _ _ seen true seen _ (checks (nat_le 1 block && nat_lt block count) namer Reference seen ranged) (takes block (c block) seen bytes fresh holds)

-- ---- what a version owes the one before

-- it follows as a version after this one
pub record Follows (version : VersionValue) (before : LaidVersion) : Type 0 where
  pub serial : (version.serial == before.serial + 1) ≡ true
  pub base : is_block before.block version.base ≡ true
  pub copied : version.root.copied ≡ true

abbrev pub OwesTo : VersionValue → Option LaidVersion → Type 0
OwesTo version None = Unit {0}
OwesTo version (Some before) = Follows version before

-- the same but for the commit reference and the members
pub record SameVersion (one other : LaidVersion) : Type 0 where
  pub serial : one.serial ≡ other.serial
  pub block : one.block ≡ other.block
  pub nodes : one.nodes ≡ other.nodes

abbrev pub Alike : Option LaidVersion → Option LaidVersion → Type 0
Alike None None = Unit {0}
Alike None (Some w) = ⊥
Alike (Some v) None = ⊥
Alike (Some v) (Some w) = SameVersion v w

pub same_version : (v : LaidVersion) → SameVersion v v
same_version v = record { serial = refl; block = refl; nodes = refl }

pub alike_same : (v : Option LaidVersion) → Alike v v
alike_same None = tt
alike_same (Some v) = same_version v

alike_nodes : (one other : Option LaidVersion) → Alike one other → option_map (λ (v : LaidVersion). v.nodes) one ≡ option_map (λ (v : LaidVersion). v.nodes) other
alike_nodes None None a = refl
alike_nodes None (Some w) a = absurd a
alike_nodes (Some v) None a = absurd a
alike_nodes (Some v) (Some w) a = ap Some a.nodes

owes_alike : (version : VersionValue) (one other : Option LaidVersion) → Alike one other → OwesTo version one → OwesTo version other
owes_alike version None None a o = tt
owes_alike version None (Some w) a o = absurd a
owes_alike version (Some v) None a o = absurd a
owes_alike version (Some v) (Some w) a o =
    record {
      serial = ap (λ n. version.serial == n + 1) (sym a.serial) ∙ o.serial;
      base = ap (λ n. is_block n version.base) (sym a.block) ∙ o.base;
      copied = o.copied;
    }

pub record Followed (version : VersionValue) (before : Option LaidVersion) (seen all : List ℕ) : Type 0 where
  pub owes : OwesTo version before
  pub stays : seen ≡ all

follows_told : (block : ℕ) (version : VersionValue) (before : Option LaidVersion) (seen : List ℕ) (x : Bool) (all : List ℕ)
    → follows block version before seen ≡ Ok (x, all) → Followed version before seen all
unfolding follows bind done
follows_told block version None seen x all e = record { owes = tt; stays = same_places seen all true x e }
follows_told block version (Some before) seen x all e =
    let p : Passed (check (version.serial == before.serial + 1) block Serial seen) _ x all = passed (check (version.serial == before.serial + 1) block Serial seen) _ x all e in
    let a : Checked (version.serial == before.serial + 1) seen p.places = checked (version.serial == before.serial + 1) block Serial seen p.value p.places p.first in
    let q : Passed (check (is_block before.block version.base) block Base p.places) _ x all = passed (check (is_block before.block version.base) block Base p.places) _ x all p.second in
    let b : Checked (is_block before.block version.base) p.places q.places = checked (is_block before.block version.base) block Base p.places q.value q.places q.first in
    let r : Checked version.root.copied q.places all = checked version.root.copied block Code q.places x all q.second in
    record { owes = record { serial = a.holds; base = b.holds; copied = r.holds }; stays = a.stays ∙ b.stays ∙ r.stays }

follows_again : (block : ℕ) (version : VersionValue) (before : Option LaidVersion) (seen : List ℕ) → OwesTo version before → follows block version before seen ≡ Ok (true, seen)
unfolding follows done
follows_again block version None seen o = refl
follows_again block version (Some before) seen o =
    went_on _ _ seen true seen _ (checks (version.serial == before.serial + 1) block Serial seen o.serial)
    (went_on _ _ seen true seen _ (checks (is_block before.block version.base) block Base seen o.base) (checks version.root.copied block Code seen o.copied))

-- ---- a version that was read

-- the version that a page and the nodes below it make
abbrev pub made_of : ℕ → VersionValue → List Node → LaidVersion
made_of block version others =
    record { serial = version.serial; block = block; commit = version.commit; members = version.members; nodes = root_node block version ∷ others }

abbrev nodes_of : Option LaidVersion → Option (List Node)
nodes_of before = option_map (λ v. v.nodes) before

pub record VersionRead (c : Content) (count object block : ℕ) (before : Option LaidVersion) (seen : List ℕ) (u : LaidVersion) (all : List ℕ) : Type 0 where
  pub bytes : List ℕ
  pub page : VersionValue
  pub others : List Node
  pub ranged : (nat_le 1 block && nat_lt block count) ≡ true
  pub fresh : IsIn seen block → ⊥
  pub holds : c block ≡ Some bytes
  pub reads : version_of bytes ≡ Ok page
  pub objects : (page.object == object) ≡ true
  pub owes : OwesTo page before
  pub members : (is_none page.commit || has_no_members page) ≡ true
  pub below : pages_below (blocks_of c count) (option_map (λ v. v.nodes) before) 7 block [] page.page.refs (block ∷ seen) ≡ Ok (others, all)
  pub made : u ≡ made_of block page others

pub version_read : (c : Content) (count object namer block : ℕ) (before : Option LaidVersion) (seen : List ℕ) (u : LaidVersion) (all : List ℕ)
    → version_at (blocks_of c count) object namer block before seen ≡ Ok (u, all) → VersionRead c count object block before seen u all
unfolding version_at bind done
version_read c count object namer block before seen u all e =
    let p : Passed (place (blocks_of c count) namer block seen) _ u all = passed (place (blocks_of c count) namer block seen) _ u all e in
    let a : Placed count block (c block) seen p.value p.places = placed c count namer block seen p.value p.places p.first in
    let q : Passed (decoded block (version_of p.value) p.places) _ u all = passed (decoded block (version_of p.value) p.places) _ u all p.second in
    let b : Decoded (version_of p.value) p.places q.value q.places = decoded_told block (version_of p.value) p.places q.value q.places q.first in
    let r : Passed (check (q.value.object == object) block Object q.places) _ u all = passed (check (q.value.object == object) block Object q.places) _ u all q.second in
    let o : Checked (q.value.object == object) q.places r.places = checked (q.value.object == object) block Object q.places r.value r.places r.first in
    let s : Passed (follows block q.value before r.places) _ u all = passed (follows block q.value before r.places) _ u all r.second in
    let f : Followed q.value before r.places s.places = follows_told block q.value before r.places s.value s.places s.first in
    let t : Passed (check (is_none q.value.commit || has_no_members q.value) block Member s.places) _ u all =
    passed (check (is_none q.value.commit || has_no_members q.value) block Member s.places) _ u all s.second in
    let m : Checked (is_none q.value.commit || has_no_members q.value) s.places t.places =
    checked (is_none q.value.commit || has_no_members q.value) block Member s.places t.value t.places t.first in
    let w : Passed (pages_below (blocks_of c count) (nodes_of before) 7 block [] q.value.page.refs t.places) _ u all =
    passed (pages_below (blocks_of c count) (nodes_of before) 7 block [] q.value.page.refs t.places) _ u all t.second in
    let start : block ∷ seen ≡ t.places = sym a.took.grown ∙ b.stays ∙ o.stays ∙ f.stays ∙ m.stays in
    record {
      bytes = p.value;
      page = q.value;
      others = w.value;
      ranged = a.ranged;
      fresh = a.took.fresh;
      holds = a.took.holds;
      reads = b.reads;
      objects = o.holds;
      owes = f.owes;
      members = m.holds;
      below =
          ap (pages_below (blocks_of c count) (nodes_of before) 7 block [] q.value.page.refs) start ∙ w.first
          ∙ ap (λ z. Ok (w.value, z)) (same_places w.places all (made_of block q.value w.value) u w.second);
      made = sym (same_value w.places all (made_of block q.value w.value) u w.second);
    }

pub version_made : (c : Content) (count object namer block : ℕ) (before : Option LaidVersion) (seen : List ℕ) (all bytes : List ℕ) (page : VersionValue) (others : List Node)
    → (nat_le 1 block && nat_lt block count) ≡ true → (IsIn seen block → ⊥) → c block ≡ Some bytes → version_of bytes ≡ Ok page
    → (page.object == object) ≡ true → OwesTo page before → (is_none page.commit || has_no_members page) ≡ true
    → pages_below (blocks_of c count) (option_map (λ v. v.nodes) before) 7 block [] page.page.refs (block ∷ seen) ≡ Ok (others, all)
    → version_at (blocks_of c count) object namer block before seen ≡ Ok (made_of block page others, all)
unfolding version_at done
version_made c count object namer block before seen all bytes page others ranged fresh holds reads objects owes members below =
    went_on _ _ seen bytes (block ∷ seen) _ (places_again c count namer block seen bytes ranged fresh holds)
    (went_on _ _ (block ∷ seen) page (block ∷ seen) _ (decodes block (version_of bytes) (block ∷ seen) page reads)
    (went_on _ _ (block ∷ seen) true (block ∷ seen) _ (checks (page.object == object) block Object (block ∷ seen) objects)
    (went_on _ _ (block ∷ seen) true (block ∷ seen) _ (follows_again block page before (block ∷ seen) owes)
    (went_on _ _ (block ∷ seen) true (block ∷ seen) _ (checks (is_none page.commit || has_no_members page) block Member (block ∷ seen) members)
    (went_on _ _ (block ∷ seen) others all _ below refl)))))

-- ---- read again

-- the version page with this commit reference and these members; and so of a version
abbrev pub page_as : Option ℕ → List MemberValue → VersionValue → VersionValue
page_as commit members page = record page { commit = commit; members = members }

abbrev pub version_as : Option ℕ → List MemberValue → LaidVersion → LaidVersion
version_as commit members version = record version { commit = commit; members = members }

pub record VersionAgain (c d : Content) (count object block : ℕ) (other : Option LaidVersion) (seen : List ℕ) (u : LaidVersion) (all : List ℕ) : Type 0 where
  pub new : List ℕ
  pub grown : all ≡ new ++ seen
  pub apart : Apart new seen
  pub distinct : Distinct new
  pub each : (n : ℕ) → IsIn new n → InRange count n
  pub here : IsIn new block
  pub block_is : u.block ≡ block
  pub page : VersionValue
  pub was : version_in_block c block ≡ Some page
  pub commit_is : u.commit ≡ page.commit
  pub members_is : u.members ≡ page.members
  pub rewritten : (namer : ℕ) (later : List ℕ) (commit : Option ℕ) (members : List MemberValue) → Apart new later
      → version_in_block d block ≡ Some (page_as commit members page) → (is_none commit || length members == 0) ≡ true
      → ((n : ℕ) → IsIn new n → n ≢ block → c n ≡ d n)
      → version_at (blocks_of d count) object namer block other later ≡ Ok (version_as commit members u, new ++ later)
  pub again : (namer : ℕ) (later : List ℕ) → Apart new later → Agree c d new
      → version_at (blocks_of d count) object namer block other later ≡ Ok (u, new ++ later)

-- what a block that holds a version page was read from
pub record Bytes (held : Option (List ℕ)) (page : VersionValue) : Type 0 where
  pub bytes : List ℕ
  pub holds : held ≡ Some bytes
  pub reads : version_of bytes ≡ Ok page

pub bytes_of : (held : Option (List ℕ)) (page : VersionValue) → option_and_then (λ bytes. read_of (version_of bytes)) held ≡ Some page → Bytes held page
bytes_of None page e = absurd cc
bytes_of (Some bytes) page e = record { bytes = bytes; holds = refl; reads = of (version_of bytes) e }
  where
    of : (r : Result VersionValue Why) → read_of r ≡ Some page → r ≡ Ok page
    of (Ok x) h = ap Ok cc
    of (Err w) h = absurd cc

pub version_again : (c d : Content) (count object namer block : ℕ) (before other : Option LaidVersion) (seen : List ℕ) (u : LaidVersion) (all : List ℕ)
    → Alike before other → version_at (blocks_of c count) object namer block before seen ≡ Ok (u, all)
    → VersionAgain c d count object block other seen u all
version_again c d count object namer block before other seen u all alike e =
    let v : VersionRead c count object block before seen u all = version_read c count object namer block before seen u all e in
    let moved : pages_below (blocks_of c count) (nodes_of other) 7 block [] v.page.page.refs (block ∷ seen) ≡ Ok (v.others, all) =
    ap (λ nodes. pages_below (blocks_of c count) nodes 7 block [] v.page.page.refs (block ∷ seen)) (sym (alike_nodes before other alike)) ∙ v.below in
    let r : Ran c d (InRange count) (pages_below (blocks_of d count) (nodes_of other) 7 block [] v.page.page.refs) (block ∷ seen) v.others all =
    (framed_below c d count (nodes_of other) 7 block [] v.page.page.refs).runs (block ∷ seen) v.others all moved in
    let new : List ℕ = r.new ++ block ∷ [] in
    let grown : all ≡ new ++ seen = r.grown ∙ sym (append_assoc r.new (block ∷ []) seen) in
    let apart_block : (n : ℕ) → IsIn r.new n → n ≢ block = λ n h i. r.apart n h (subst (λ m. IsIn (block ∷ seen) m) (sym i) (in_head block seen)) in
    let make : (namer : ℕ) (later : List ℕ) (bytes : List ℕ) (page : VersionValue) → Apart new later → d block ≡ Some bytes → version_of bytes ≡ Ok page
    → page ≡ page_as page.commit page.members v.page → (is_none page.commit || has_no_members page) ≡ true
    → ((n : ℕ) → IsIn r.new n → c n ≡ d n)
    → version_at (blocks_of d count) object namer block other later ≡ Ok (made_of block page v.others, new ++ later) =
    λ namer later bytes page apart holds reads is members agree.
    let clear : Apart r.new (block ∷ later) =
    λ n h g. elim (in_either (block ∷ []) later n g) [
      | inl l ↦ apart_block n h (in_one block n l)
      | inr k ↦ apart n (in_left r.new (block ∷ []) n h) k
    ] in
    let below : pages_below (blocks_of d count) (nodes_of other) 7 block [] page.page.refs (block ∷ later) ≡ Ok (v.others, new ++ later) =
    ap (λ (p : VersionValue). pages_below (blocks_of d count) (nodes_of other) 7 block [] p.page.refs (block ∷ later)) is
    ∙ r.anywhere (block ∷ later) clear agree ∙ ap (λ z. Ok (v.others, z)) (sym (append_assoc r.new (block ∷ []) later)) in
    version_made d count object namer block other later (new ++ later) bytes page v.others v.ranged
    (λ h. apart block (in_right r.new (block ∷ []) block (in_head block [])) h) holds reads
    (ap (λ (p : VersionValue). p.object == object) is ∙ v.objects)
    (subst (λ p. OwesTo p other) (sym is) (owes_as page.commit page.members v.page other (owes_alike v.page before other alike v.owes))) members below in
    record {
      new = new;
      grown = grown;
      apart = λ n h g. elim (in_either r.new (block ∷ []) n h) [
        | inl l ↦ r.apart n l (in_right (block ∷ []) seen n g)
        | inr k ↦ v.fresh (subst (IsIn seen) (in_one block n k) g)
      ];
      distinct = distinct_append r.new (block ∷ []) r.distinct (none_in block, tt) (λ n h g. apart_block n h (in_one block n g));
      each = λ n h. elim (in_either r.new (block ∷ []) n h) [
        | inl l ↦ r.each n l
        | inr k ↦ subst (InRange count) (sym (in_one block n k)) (in_range count block v.ranged)
      ];
      here = in_right r.new (block ∷ []) block (in_head block []);
      block_is = ap (λ (w : LaidVersion). w.block) v.made;
      page = v.page;
      was = ap (option_and_then (λ bytes. read_of (version_of bytes))) v.holds ∙ ap read_of v.reads;
      commit_is = ap (λ (w : LaidVersion). w.commit) v.made;
      members_is = ap (λ (w : LaidVersion). w.members) v.made;
      rewritten = λ namer later commit members apart is none agree.
          let b : Bytes (d block) (page_as commit members v.page) = bytes_of (d block) (page_as commit members v.page) is in
          make namer later b.bytes (page_as commit members v.page) apart b.holds b.reads refl none
          (λ n h. agree n (in_left r.new (block ∷ []) n h) (apart_block n h))
          ∙ ap (λ w. Ok (version_as commit members w, new ++ later)) (sym v.made);
      again = λ namer later apart agree.
          make namer later v.bytes v.page apart (sym (agree block (in_right r.new (block ∷ []) block (in_head block []))) ∙ v.holds) v.reads refl v.members
          (λ n h. agree n (in_left r.new (block ∷ []) n h))
          ∙ ap (λ w. Ok (w, new ++ later)) (sym v.made);
    }
  where
    owes_as : (commit : Option ℕ) (members : List MemberValue) (page : VersionValue) (o : Option LaidVersion) → OwesTo page o → OwesTo (page_as commit members page) o
    owes_as commit members page None h = tt
    owes_as commit members page (Some w) h = record { serial = h.serial; base = h.base; copied = h.copied }
