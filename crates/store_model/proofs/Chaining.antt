-- The versions of a chain: each names the next and the last names none. And what the chain is after its last version was written anew.
use Rattle.std.proofs.Common.{◌≡◌, ◌≢◌, ℕ, zero, suc, ◌+◌, ◌≤◌, ◌==◌, ◌||◌, true, List, [], ◌∷◌, ◌++◌, length, ◌⊎◌, inl, inr, Option, Some, None, Ok, refl, sym, ap, subst, ◌∙◌, append_assoc, append-nil, arith, length-append}
use Rattle.std.specs.Option.{is_none}
use Rattle.page_codec.specs.Values.{VersionValue, MemberValue}
use Rattle.store_model.specs.Walk.{Walk, bind, done, if_some}
use Rattle.store_model.specs.Laid.{LaidVersion}
use Rattle.store_model.specs.Chains.{version_at, chain_from, chain_at}
use Rattle.store_model.specs.Changes.{version_in_block, changed_at}
use Rattle.store_model.proofs.PlaceLists.{IsIn, Apart, Distinct, in_left, in_right, in_either, in_along, none_in, distinct_append, distinct_within}
use Rattle.store_model.proofs.Steps.{Content, blocks_of, InRange, Ran, Passed, passed, went_on, same_value, same_places}
use Rattle.store_model.proofs.Locality.{framed_chain}
use Rattle.store_model.proofs.Rewriting.{same_version, page_as, version_as, VersionAgain, version_again}

-- ---- what a chain is

-- from a version on, each version names the next, and the last names none
abbrev pub Chained : LaidVersion → List LaidVersion → Type 0
Chained v [] = v.commit ≡ None
Chained v (w ∷ ws) = (v.commit ≡ Some w.block) × Chained w ws

-- the last of a version and those after it
abbrev pub last_from : LaidVersion → List LaidVersion → LaidVersion
last_from v [] = v
last_from v (w ∷ ws) = last_from w ws

-- the first of a version and those after it, where the last is changed
abbrev pub as_first : (LaidVersion → LaidVersion) → LaidVersion → List LaidVersion → LaidVersion
as_first f v [] = f v
as_first f v (w ∷ ws) = v

-- the page of the last version, in one of these places
pub record LastPage (c : Content) (new : List ℕ) (last : LaidVersion) : Type 0 where
  pub here : IsIn new last.block
  pub page : VersionValue
  pub was : version_in_block c last.block ≡ Some page
  pub commit_is : last.commit ≡ page.commit
  pub members_is : last.members ≡ page.members

-- where there are versions after this one, the page of the last
abbrev pub HasLast : Content → List ℕ → List LaidVersion → Type 0
HasLast c new [] = Unit {0}
HasLast c new (w ∷ ws) = LastPage c new (last_from w ws)

-- the block was written, and its version page has this commit reference and these members now
pub record Rewritten (c d : Content) (block : ℕ) (commit : Option ℕ) (members : List MemberValue) : Type 0 where
  pub page : VersionValue
  pub was : version_in_block c block ≡ Some page
  pub is : version_in_block d block ≡ Some (page_as commit members page)
  pub one : (is_none commit || length members == 0) ≡ true
  pub others : (n : ℕ) → n ≢ block → c n ≡ d n

-- what a chain goes on with from this version
abbrev pub Ends : Content → ℕ → ℕ → LaidVersion → List LaidVersion → List ℕ → Type 0
Ends d count object last tail extra =
    (most : ℕ) (here : List ℕ) → Apart extra here → chain_from (blocks_of d count) object (suc most) last here ≡ Ok (last ∷ tail, extra ++ here)

-- places of which none is twice, each in range
pub record Sound (count : ℕ) (seen : List ℕ) : Type 0 where
  pub distinct : Distinct seen
  pub each : (n : ℕ) → IsIn seen n → InRange count n

pub sound_grown : (count : ℕ) (new seen all : List ℕ) → Sound count seen → all ≡ new ++ seen → Distinct new → Apart new seen
    → ((n : ℕ) → IsIn new n → InRange count n) → Sound count all
sound_grown count new seen all sound grown distinct apart each =
    subst (Sound count) (sym grown)
    (record {
      distinct = distinct_append new seen distinct sound.distinct apart;
      each = λ n h. elim (in_either new seen n h) [ inl l ↦ each n l | inr r ↦ sound.each n r ];
    })

-- ---- a step of a chain

pub record Ended (u : LaidVersion) (seen : List ℕ) (vs : List LaidVersion) (all : List ℕ) : Type 0 where
  pub commit : u.commit ≡ None
  pub list : vs ≡ u ∷ []
  pub stays : all ≡ seen

pub record Onward (c : Content) (count object most : ℕ) (u : LaidVersion) (seen : List ℕ) (vs : List LaidVersion) (all : List ℕ) : Type 0 where
  pub block : ℕ
  pub next : LaidVersion
  pub mid : List ℕ
  pub rest : List LaidVersion
  pub commit : u.commit ≡ Some block
  pub read : version_at (blocks_of c count) object u.block block (Some u) seen ≡ Ok (next, mid)
  pub goes : chain_from (blocks_of c count) object most next mid ≡ Ok (rest, all)
  pub list : vs ≡ u ∷ rest

abbrev onward : Content → ℕ → ℕ → ℕ → LaidVersion → Option ℕ → Walk (List LaidVersion)
onward c count object most u o =
    if_some o (λ block. bind (version_at (blocks_of c count) object u.block block (Some u)) (chain_from (blocks_of c count) object most))

chain_step : (c : Content) (count object most : ℕ) (u : LaidVersion) (seen : List ℕ) (vs : List LaidVersion) (all : List ℕ)
    → chain_from (blocks_of c count) object (suc most) u seen ≡ Ok (vs, all) → Ended u seen vs all ⊎ Onward c count object most u seen vs all
unfolding chain_from bind if_some done
chain_step c count object most u seen vs all e = of u.commit refl e
  where
    of : (o : Option ℕ) → u.commit ≡ o → bind (onward c count object most u o) (λ later. done (u ∷ later)) seen ≡ Ok (vs, all)
        → Ended u seen vs all ⊎ Onward c count object most u seen vs all
    of None is h = inl (record { commit = is; list = sym (same_value seen all (u ∷ []) vs h); stays = sym (same_places seen all (u ∷ []) vs h) })
    of (Some block) is h =
        let p : Passed (bind (version_at (blocks_of c count) object u.block block (Some u)) (chain_from (blocks_of c count) object most) seen) _ vs all =
        passed (bind (version_at (blocks_of c count) object u.block block (Some u)) (chain_from (blocks_of c count) object most) seen) _ vs all h in
        let q : Passed (version_at (blocks_of c count) object u.block block (Some u) seen) (chain_from (blocks_of c count) object most) p.value p.places =
        passed (version_at (blocks_of c count) object u.block block (Some u) seen) (chain_from (blocks_of c count) object most) p.value p.places p.first in
        inr
        (record {
          block = block;
          next = q.value;
          mid = q.places;
          rest = p.value;
          commit = is;
          read = q.first;
          goes = q.second ∙ ap (λ z. Ok (p.value, z)) (same_places p.places all (u ∷ p.value) vs p.second);
          list = sym (same_value p.places all (u ∷ p.value) vs p.second);
        })

pub chain_goes : (d : Content) (count object most block : ℕ) (u next : LaidVersion) (rest : List LaidVersion) (seen mid all : List ℕ)
    → u.commit ≡ Some block → version_at (blocks_of d count) object u.block block (Some u) seen ≡ Ok (next, mid)
    → chain_from (blocks_of d count) object most next mid ≡ Ok (rest, all)
    → chain_from (blocks_of d count) object (suc most) u seen ≡ Ok (u ∷ rest, all)
unfolding chain_from if_some done
chain_goes d count object most block u next rest seen mid all commit read goes =
    went_on _ _ seen rest all _ (ap (λ o. onward d count object most u o seen) commit ∙ went_on _ _ seen next mid _ read goes) refl

-- a chain whose version names none ends there
pub chain_stops : (d : Content) (count object most : ℕ) (u : LaidVersion) (seen : List ℕ) → u.commit ≡ None
    → chain_from (blocks_of d count) object most u seen ≡ Ok (u ∷ [], seen)
unfolding chain_from bind if_some done
chain_stops d count object zero u seen commit = refl
chain_stops d count object (suc most) u seen commit = ap (λ o. bind (onward d count object most u o) (λ later. done (u ∷ later)) seen) commit

-- ---- the last version written anew

-- a version is read again, changed where it is the last
first_again : (c d : Content) (count object block : ℕ) (other : Option LaidVersion) (seen mid : List ℕ) (u : LaidVersion)
    → (va : VersionAgain c d count object block other seen u mid) (rest : List LaidVersion) (new : List ℕ) → Apart new mid → HasLast c new rest
    → (commit : Option ℕ) (members : List MemberValue) → Rewritten c d (last_from u rest).block commit members
    → (namer : ℕ) (later : List ℕ) → Apart va.new later
    → version_at (blocks_of d count) object namer block other later ≡ Ok (as_first (version_as commit members) u rest, va.new ++ later)
first_again c d count object block other seen mid u va [] new apart last commit members rw namer later clear =
    let was : version_in_block c block ≡ Some rw.page = ap (version_in_block c) (sym va.block_is) ∙ rw.was in
    let same : va.page ≡ rw.page = some_is (sym va.was ∙ was) in
    va.rewritten namer later commit members clear
    (ap (version_in_block d) (sym va.block_is) ∙ rw.is ∙ ap (λ p. Some (page_as commit members p)) (sym same)) rw.one
    (λ n h apart_block. rw.others n (λ i. apart_block (i ∙ va.block_is)))
  where
    some_is : {X : Type 0} {x y : X} → Some x ≡ Some y → x ≡ y
    some_is h = cc
first_again c d count object block other seen mid u va (w ∷ ws) new apart last commit members rw namer later clear =
    va.again namer later clear
    (λ n h. rw.others n (λ i. apart n (subst (IsIn new) (sym i) last.here) (in_along (va.new ++ seen) mid (sym va.grown) n (in_left va.new seen n h))))

pub record ChainEnds (c d : Content) (count object most : ℕ) (u : LaidVersion) (seen : List ℕ) (vs : List LaidVersion) (all : List ℕ) : Type 0 where
  pub rest : List LaidVersion
  pub list : vs ≡ u ∷ rest
  pub chained : Chained u rest
  pub new : List ℕ
  pub grown : all ≡ new ++ seen
  pub apart : Apart new seen
  pub last : HasLast c new rest
  pub rewritten : (commit : Option ℕ) (members : List MemberValue) (tail : List LaidVersion) (extra : List ℕ)
      → Rewritten c d (last_from u rest).block commit members
      → Ends d count object (version_as commit members (last_from u rest)) tail extra
      → (later : List ℕ) → Apart new later → Apart extra (new ++ later)
      → chain_from (blocks_of d count) object most (as_first (version_as commit members) u rest) later
      ≡ Ok (changed_at (version_as commit members) (length rest) (u ∷ rest) ++ tail, extra ++ (new ++ later))

-- places beside the new ones are beside the later ones
beside : (new mid seen : List ℕ) (first later : List ℕ) → mid ≡ first ++ seen → Apart new mid → Apart (new ++ first) later → Apart new (first ++ later)
beside new mid seen first later grown apart clear n h g =
    elim (in_either first later n g) [
      | inl l ↦ apart n h (in_along (first ++ seen) mid (sym grown) n (in_left first seen n l))
      | inr r ↦ clear n (in_left new first n h) r
    ]

at_least : (ns : List ℕ) (n : ℕ) → IsIn ns n → 1 ≤ length ns
at_least [] n h = absurd (none_in n h)
at_least (m ∷ ns) n h = omega arith

-- the page of the last version, which may be the first that is read
last_of : (c d : Content) (count object block : ℕ) (other : Option LaidVersion) (seen mid : List ℕ) (u : LaidVersion)
    → (va : VersionAgain c d count object block other seen u mid) (rest : List LaidVersion) (new : List ℕ) → HasLast c new rest
    → LastPage c (new ++ va.new) (last_from u rest)
last_of c d count object block other seen mid u va [] new last =
    record {
      here = subst (IsIn (new ++ va.new)) (sym va.block_is) (in_right new va.new block va.here);
      page = va.page;
      was = ap (version_in_block c) va.block_is ∙ va.was;
      commit_is = va.commit_is;
      members_is = va.members_is;
    }
last_of c d count object block other seen mid u va (w ∷ ws) new last =
    record {
      here = in_left new va.new (last_from w ws).block last.here;
      page = last.page;
      was = last.was;
      commit_is = last.commit_is;
      members_is = last.members_is;
    }

ended : (c d : Content) (count object most : ℕ) (u : LaidVersion) (seen : List ℕ) (vs : List LaidVersion) (all : List ℕ)
    → Ended u seen vs all → ChainEnds c d count object (suc most) u seen vs all
ended c d count object most u seen vs all x =
    record {
      rest = [];
      list = x.list;
      chained = x.commit;
      new = [];
      grown = x.stays;
      apart = λ n h g. none_in n h;
      last = tt;
      rewritten = λ commit members tail extra rw ends later clear beside. ends most later beside;
    }

-- chains of at most so many steps
abbrev EndsWithin : Content → Content → ℕ → ℕ → ℕ → Type 0
EndsWithin c d count object most =
    (u : LaidVersion) (seen : List ℕ) (vs : List LaidVersion) (all : List ℕ) → Sound count seen → count + 1 ≤ length seen + most
    → chain_from (blocks_of c count) object most u seen ≡ Ok (vs, all) → ChainEnds c d count object most u seen vs all

going : (c d : Content) (count object most : ℕ) (u : LaidVersion) (seen : List ℕ) (vs : List LaidVersion) (all : List ℕ)
    → Sound count seen → count + 1 ≤ length seen + suc most → EndsWithin c d count object most
    → Onward c count object most u seen vs all → ChainEnds c d count object (suc most) u seen vs all
going c d count object most u seen vs all sound enough within x =
    let va : VersionAgain c d count object x.block (Some u) seen x.next x.mid =
    version_again c d count object u.block x.block (Some u) (Some u) seen x.next x.mid (same_version u) x.read in
    let some : 1 ≤ length va.new = at_least va.new x.block va.here in
    let longer : length x.mid ≡ length va.new + length seen = ap length va.grown ∙ length-append va.new seen in
    let ih : ChainEnds c d count object most x.next x.mid x.rest all =
    within x.next x.mid x.rest all (sound_grown count va.new seen x.mid sound va.grown va.distinct va.apart va.each) (omega arith) x.goes in
    record {
      rest = x.next ∷ ih.rest;
      list = x.list ∙ ap (λ l. u ∷ l) ih.list;
      chained = (x.commit ∙ ap Some (sym va.block_is), ih.chained);
      new = ih.new ++ va.new;
      grown = ih.grown ∙ ap (λ l. ih.new ++ l) va.grown ∙ sym (append_assoc ih.new va.new seen);
      apart = λ n h g. elim (in_either ih.new va.new n h) [
        | inl l ↦ ih.apart n l (in_along (va.new ++ seen) x.mid (sym va.grown) n (in_right va.new seen n g))
        | inr r ↦ va.apart n r g
      ];
      last = last_of c d count object x.block (Some u) seen x.mid x.next va ih.rest ih.new ih.last;
      rewritten = λ commit members tail extra rw ends later clear off.
          let read : version_at (blocks_of d count) object u.block x.block (Some u) later ≡ Ok (as_first (version_as commit members) x.next ih.rest, va.new ++ later) =
          first_again c d count object x.block (Some u) seen x.mid x.next va ih.rest ih.new ih.apart ih.last commit members rw u.block later
          (λ n h g. clear n (in_right ih.new va.new n h) g) in
          let along : ih.new ++ (va.new ++ later) ≡ (ih.new ++ va.new) ++ later = sym (append_assoc ih.new va.new later) in
          chain_goes d count object most x.block u (as_first (version_as commit members) x.next ih.rest) _ later (va.new ++ later) _ x.commit read
          (ih.rewritten commit members tail extra rw ends (va.new ++ later) (beside ih.new x.mid seen va.new later va.grown ih.apart clear)
          (λ n h g. off n h (in_along (ih.new ++ (va.new ++ later)) ((ih.new ++ va.new) ++ later) along n g))
          ∙ ap (λ l. Ok (changed_at (version_as commit members) (length ih.rest) (x.next ∷ ih.rest) ++ tail, extra ++ l)) along);
    }

pub chain_ends : (c d : Content) (count object most : ℕ) (u : LaidVersion) (seen : List ℕ) (vs : List LaidVersion) (all : List ℕ)
    → Sound count seen → count + 1 ≤ length seen + most
    → chain_from (blocks_of c count) object most u seen ≡ Ok (vs, all) → ChainEnds c d count object most u seen vs all
chain_ends c d count object zero u seen vs all sound enough e =
    let few : length seen ≤ count = distinct_within count seen sound.distinct (λ n h. (sound.each n h).1) in
    absurd (omega arith)
chain_ends c d count object (suc most) u seen vs all sound enough e =
    elim (chain_step c count object most u seen vs all e) [
      | inl x ↦ ended c d count object most u seen vs all x
      | inr x ↦ going c d count object most u seen vs all sound enough (chain_ends c d count object most) x
    ]

-- ---- a whole chain

pub record ChainAgain (c d : Content) (count object first : ℕ) (seen : List ℕ) (vs : List LaidVersion) (all : List ℕ) : Type 0 where
  pub head : LaidVersion
  pub rest : List LaidVersion
  pub list : vs ≡ head ∷ rest
  pub chained : Chained head rest
  pub new : List ℕ
  pub grown : all ≡ new ++ seen
  pub apart : Apart new seen
  pub distinct : Distinct new
  pub each : (n : ℕ) → IsIn new n → InRange count n
  pub last : LastPage c new (last_from head rest)
  pub rewritten : (commit : Option ℕ) (members : List MemberValue) (tail : List LaidVersion) (extra : List ℕ)
      → Rewritten c d (last_from head rest).block commit members
      → Ends d count object (version_as commit members (last_from head rest)) tail extra
      → (namer : ℕ) (later : List ℕ) → Apart new later → Apart extra (new ++ later)
      → chain_at (blocks_of d count) object namer first later
      ≡ Ok (changed_at (version_as commit members) (length rest) (head ∷ rest) ++ tail, extra ++ (new ++ later))

pub chain_again : (c d : Content) (count object namer first : ℕ) (seen : List ℕ) (vs : List LaidVersion) (all : List ℕ)
    → chain_at (blocks_of c count) object namer first seen ≡ Ok (vs, all) → ChainAgain c d count object first seen vs all
unfolding chain_at bind
chain_again c d count object namer first seen vs all e =
    let r : Ran c c (InRange count) (chain_at (blocks_of c count) object namer first) seen vs all = (framed_chain c c count object namer first).runs seen vs all e in
    let alone : chain_at (blocks_of c count) object namer first [] ≡ Ok (vs, r.new ++ []) = r.anywhere [] (λ n h g. none_in n g) (λ n h. refl) in
    let p : Passed (version_at (blocks_of c count) object namer first None []) (chain_from (blocks_of c count) object count) vs (r.new ++ []) =
    passed (version_at (blocks_of c count) object namer first None []) (chain_from (blocks_of c count) object count) vs (r.new ++ []) alone in
    let va : VersionAgain c d count object first None [] p.value p.places = version_again c d count object namer first None None [] p.value p.places tt p.first in
    let nothing : Sound count [] = record { distinct = tt; each = λ n h. absurd (none_in n h) } in
    let some : 1 ≤ length va.new = at_least va.new first va.here in
    let longer : length p.places ≡ length va.new + 0 = ap length va.grown ∙ length-append va.new [] in
    let ce : ChainEnds c d count object count p.value p.places vs (r.new ++ []) =
    chain_ends c d count object count p.value p.places vs (r.new ++ []) (sound_grown count va.new [] p.places nothing va.grown va.distinct va.apart va.each) (omega arith) p.second in
    let new : List ℕ = ce.new ++ va.new in
    let same : r.new ≡ new = sym (append-nil r.new) ∙ ce.grown ∙ ap (λ l. ce.new ++ l) (va.grown ∙ append-nil va.new) in
    record {
      head = p.value;
      rest = ce.rest;
      list = ce.list;
      chained = ce.chained;
      new = new;
      grown = r.grown ∙ ap (λ l. l ++ seen) same;
      apart = subst (λ l. Apart l seen) same r.apart;
      distinct = subst Distinct same r.distinct;
      each = subst (λ l. (n : ℕ) → IsIn l n → InRange count n) same r.each;
      last = last_of c d count object first None [] p.places p.value va ce.rest ce.new ce.last;
      rewritten = λ commit members tail extra rw ends name later clear off.
          let along : ce.new ++ (va.new ++ later) ≡ new ++ later = sym (append_assoc ce.new va.new later) in
          went_on (version_at (blocks_of d count) object name first None) (chain_from (blocks_of d count) object count) later (as_first (version_as commit members) p.value ce.rest) (va.new ++ later) _
          (first_again c d count object first None [] p.places p.value va ce.rest ce.new ce.apart ce.last commit members rw name later
          (λ n h g. clear n (in_right ce.new va.new n h) g))
          (ce.rewritten commit members tail extra rw ends (va.new ++ later) (beside ce.new p.places [] va.new later va.grown ce.apart clear)
          (λ n h g. off n h (in_along (ce.new ++ (va.new ++ later)) (new ++ later) along n g))
          ∙ ap (λ l. Ok (changed_at (version_as commit members) (length ce.rest) (p.value ∷ ce.rest) ++ tail, extra ++ l)) along);
    }
