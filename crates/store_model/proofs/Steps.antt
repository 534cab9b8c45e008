-- Two walks, one over each of two contents, that go alike as far as the contents agree, and from whatever places they start: how such walks are
-- put together.
use Rattle.std.proofs.Common.{◌≡◌, ℕ, ◌<◌, ◌≤◌, Bool, true, false, ◌&&◌, nat_le, nat_lt, List, [], ◌∷◌, ◌++◌, inl, inr, Option, Some, None, Result, Ok, Err, refl, sym, ap, subst, ◌∙◌, cond, nat_eq, append_assoc, true≢false}
use Rattle.std.specs.List.{list_any}
use Rattle.std.proofs.lemmas.Bool.{leb-true, ltb-true}
use Rattle.std.specs.Cmp.{first_so, second_so}
use Rattle.page_codec.specs.declared.why.Why.{Why}
use Rattle.page_codec.specs.declared.why.Why.TheVariants.{Closed, Reference, Seen}
use Rattle.store_model.specs.Walk.{Blocks, Walk, Refused, and_then, bind, done, refuse, check, decoded, content_at, if_some, is_new, add, place}
use Rattle.store_model.proofs.PlaceLists.{IsIn, Apart, Distinct, in_head, in_one, in_left, in_right, in_either, not_in, none_in, distinct_append}

pub ok≢err : {X : Type 0} {e : Refused} {x : X} → (let r : Result X Refused = Err e in r) ≡ Ok x → ⊥
ok≢err h = cc

-- the contents of a block, by number
abbrev pub Content : Type 0
Content = ℕ → Option (List ℕ)

-- so many blocks with these contents
abbrev pub blocks_of : Content → ℕ → Blocks
blocks_of content count = record { content = content; count = count }

-- the contents agree on these blocks
abbrev pub Agree : Content → Content → List ℕ → Type 0
Agree c d places = (n : ℕ) → IsIn places n → c n ≡ d n

-- a block that a place may be
abbrev pub InRange : ℕ → ℕ → Type 0
InRange count n = (1 ≤ n) × (n < count)

-- A walk found this and new places. They are apart from those before, there is none twice, and each has the property. The other walk
-- finds the same from any places that are apart from the new ones, where the contents agree on the new ones.
pub record Ran (c d : Content) (P : ℕ → Type 0) {X : Type 0} (other : Walk X) (seen : List ℕ) (x : X) (all : List ℕ) : Type 0 where
  pub new : List ℕ
  pub grown : all ≡ new ++ seen
  pub apart : Apart new seen
  pub distinct : Distinct new
  pub each : (n : ℕ) → IsIn new n → P n
  pub anywhere : (later : List ℕ) → Apart new later → Agree c d new → other later ≡ Ok (x, new ++ later)

-- the one walk, and the other one as it goes over the other contents
pub record Framed (c d : Content) (P : ℕ → Type 0) {X : Type 0} (walk other : Walk X) : Type 0 where
  pub runs : (seen : List ℕ) (x : X) (all : List ℕ) → walk seen ≡ Ok (x, all) → Ran c d P other seen x all

-- what went on after a walk
pub record Passed {X Y : Type 0} (r : Result (X × List ℕ) Refused) (next : X → Walk Y) (y : Y) (all : List ℕ) : Type 0 where
  pub value : X
  pub places : List ℕ
  pub first : r ≡ Ok (value, places)
  pub second : next value places ≡ Ok (y, all)

pub passed : {X Y : Type 0} (r : Result (X × List ℕ) Refused) (next : X → Walk Y) (y : Y) (all : List ℕ) → and_then r next ≡ Ok (y, all) → Passed r next y all
passed (Ok p) next y all e = record { value = p.0; places = p.1; first = refl; second = e }
passed (Err x) next y all e = absurd (ok≢err e)

-- a walk, and then the next
pub went_on : {X Y : Type 0} (walk : Walk X) (next : X → Walk Y) (seen : List ℕ) (x : X) (mid : List ℕ) (r : Result (Y × List ℕ) Refused)
    → walk seen ≡ Ok (x, mid) → next x mid ≡ r → bind walk next seen ≡ r
unfolding bind
went_on walk next seen x mid r first second = ap (λ o. and_then o next) first ∙ second

pub framed_bind :
    {X Y : Type 0} {P : ℕ → Type 0} (c d : Content) (walk other : Walk X) (next next_other : X → Walk Y)
    → Framed c d P walk other → ((x : X) → Framed c d P (next x) (next_other x)) → Framed c d P (bind walk next) (bind other next_other)
unfolding bind
framed_bind {X} {Y} {P} c d walk other next next_other first second =
    record {
      runs = λ seen y all e.
          let p : Passed (walk seen) next y all = passed (walk seen) next y all e in
          let a : Ran c d P other seen p.value p.places = first.runs seen p.value p.places p.first in
          let b : Ran c d P (next_other p.value) p.places y all = (second p.value).runs p.places y all p.second in
          let beside : Apart b.new (a.new ++ seen) = subst (Apart b.new) a.grown b.apart in
          record {
            new = b.new ++ a.new;
            grown = b.grown ∙ ap (λ places. b.new ++ places) a.grown ∙ sym (append_assoc b.new a.new seen);
            apart = λ n h g. elim (in_either b.new a.new n h) [
              | inl l ↦ beside n l (in_right a.new seen n g)
              | inr r ↦ a.apart n r g
            ];
            distinct = distinct_append b.new a.new b.distinct a.distinct (λ n h g. beside n h (in_left a.new seen n g));
            each = λ n h. elim (in_either b.new a.new n h) [ inl l ↦ b.each n l | inr r ↦ a.each n r ];
            anywhere = λ later h agree.
                let one : other later ≡ Ok (p.value, a.new ++ later) =
                a.anywhere later (λ n i j. h n (in_right b.new a.new n i) j) (λ n i. agree n (in_right b.new a.new n i)) in
                let clear : Apart b.new (a.new ++ later) =
                λ n i j. elim (in_either a.new later n j) [
                  | inl l ↦ beside n i (in_left a.new seen n l)
                  | inr r ↦ h n (in_left b.new a.new n i) r
                ] in
                let two : next_other p.value (a.new ++ later) ≡ Ok (y, b.new ++ (a.new ++ later)) =
                b.anywhere (a.new ++ later) clear (λ n i. agree n (in_left b.new a.new n i)) in
                ap (λ r. and_then r next_other) one ∙ two ∙ ap (λ places. Ok (y, places)) (sym (append_assoc b.new a.new later));
          };
    }

-- a weaker property of the places
pub framed_weaker : {X : Type 0} {P Q : ℕ → Type 0} (c d : Content) (walk other : Walk X) → ((n : ℕ) → P n → Q n) → Framed c d P walk other → Framed c d Q walk other
framed_weaker {X} {P} c d walk other weaker f =
    record {
      runs = λ seen x all e.
          let r : Ran c d P other seen x all = f.runs seen x all e in
          record { new = r.new; grown = r.grown; apart = r.apart; distinct = r.distinct; each = λ n h. weaker n (r.each n h); anywhere = r.anywhere };
    }

-- ---- steps that find no place

-- the value and the places that a walk came to
pub same_value : {X : Type 0} (seen all : List ℕ) (x y : X) → (let r : Result (X × List ℕ) Refused = Ok (x, seen) in r) ≡ Ok (y, all) → x ≡ y
same_value seen all x y e = ap (of x) e
  where
    of : {X : Type 0} → X → Result (X × List ℕ) Refused → X
    of other (Ok p) = p.0
    of other (Err e) = other

pub same_places : {X : Type 0} (seen all : List ℕ) (x y : X) → (let r : Result (X × List ℕ) Refused = Ok (x, seen) in r) ≡ Ok (y, all) → seen ≡ all
same_places seen all x y e = ap (of seen) e
  where
    of : {X : Type 0} → List ℕ → Result (X × List ℕ) Refused → List ℕ
    of other (Ok p) = p.1
    of other (Err e) = other

pub framed_done : {X : Type 0} {P : ℕ → Type 0} (c d : Content) (x : X) → Framed c d P (done x) (done x)
unfolding done
framed_done c d x =
    record {
      runs = λ seen y all e.
          record {
            new = [];
            grown = sym (same_places seen all x y e);
            apart = λ n h g. none_in n h;
            distinct = tt;
            each = λ n h. absurd (none_in n h);
            anywhere = λ later h agree. ap (λ v. Ok (v, later)) (same_value seen all x y e);
          };
    }

pub framed_refuse : {X : Type 0} {P : ℕ → Type 0} (c d : Content) (block : ℕ) (why : Why) → Framed c d P (refuse {X = X} block why) (refuse block why)
unfolding refuse
framed_refuse c d block why = record { runs = λ seen y all e. absurd (ok≢err e) }

pub framed_check : {P : ℕ → Type 0} (c d : Content) (test : Bool) (block : ℕ) (why : Why) → Framed c d P (check test block why) (check test block why)
unfolding check
framed_check c d true block why = framed_done c d true
framed_check c d false block why = framed_refuse c d block why

pub framed_decoded : {X : Type 0} {P : ℕ → Type 0} (c d : Content) (block : ℕ) (r : Result X Why) → Framed c d P (decoded block r) (decoded block r)
unfolding decoded
framed_decoded c d block (Ok x) = framed_done c d x
framed_decoded c d block (Err why) = framed_refuse c d block why

pub framed_content : {P : ℕ → Type 0} (c d : Content) (block : ℕ) (bytes : Option (List ℕ)) → Framed c d P (content_at block bytes) (content_at block bytes)
unfolding content_at
framed_content c d block None = framed_refuse c d block Closed
framed_content c d block (Some bytes) = framed_done c d bytes

-- what follows a test knows that it holds
pub framed_checked : {X : Type 0} {P : ℕ → Type 0} (c d : Content) (test : Bool) (block : ℕ) (why : Why) (next next_other : Bool → Walk X)
    → (test ≡ true → Framed c d P (next test) (next_other test)) → Framed c d P (bind (check test block why) next) (bind (check test block why) next_other)
unfolding bind check done refuse
framed_checked c d true block why next next_other rest = record { runs = λ seen x all e. (rest refl).runs seen x all e }
framed_checked c d false block why next next_other rest = record { runs = λ seen x all e. absurd (ok≢err e) }

pub framed_some :
    {X Y : Type 0} {P : ℕ → Type 0} (c d : Content) (value : Option X) (walk other : X → Walk (List Y))
    → ((x : X) → Framed c d P (walk x) (other x)) → Framed c d P (if_some value walk) (if_some value other)
unfolding if_some
framed_some c d None walk other each = framed_done c d []
framed_some c d (Some x) walk other each = each x

pub framed_if :
    {X : Type 0} {P : ℕ → Type 0} (c d : Content) (test : Bool) (one one_other two two_other : Walk X)
    → Framed c d P one one_other → Framed c d P two two_other → Framed c d P (cond test one two) (cond test one_other two_other)
framed_if c d true one one_other two two_other first second = first
framed_if c d false one one_other two two_other first second = second

-- ---- places

-- a new place, without its range
abbrev taken : ℕ → Option (List ℕ) → Walk (List ℕ)
taken block bytes = bind (is_new block) (λ _. bind (add block) (λ _. content_at block bytes))

-- a place that is taken was none before, and holds what is found
pub record Took (block : ℕ) (held : Option (List ℕ)) (seen : List ℕ) (bytes : List ℕ) (all : List ℕ) : Type 0 where
  pub fresh : IsIn seen block → ⊥
  pub holds : held ≡ Some bytes
  pub grown : all ≡ block ∷ seen

pub took : (block : ℕ) (held : Option (List ℕ)) (seen bytes all : List ℕ) → taken block held seen ≡ Ok (bytes, all) → Took block held seen bytes all
unfolding bind is_new add content_at done refuse
took block held seen bytes all e = of (list_any (nat_eq block) seen) held refl refl e
  where
    of : (b : Bool) (o : Option (List ℕ)) → list_any (nat_eq block) seen ≡ b → held ≡ o
        → and_then (cond b (refuse block Seen seen) (done true seen)) (λ _. bind (add block) (λ _. content_at block o)) ≡ Ok (bytes, all)
        → Took block held seen bytes all
    of true o is was h = absurd (ok≢err h)
    of false None is was h = absurd (ok≢err h)
    of false (Some found) is was h =
        record {
          fresh = λ i. true≢false (sym i ∙ is);
          holds = was ∙ ap Some (same_value (block ∷ seen) all found bytes h);
          grown = sym (same_places (block ∷ seen) all found bytes h);
        }

-- and so it is taken again
pub takes : (block : ℕ) (held : Option (List ℕ)) (seen bytes : List ℕ) → (IsIn seen block → ⊥) → held ≡ Some bytes → taken block held seen ≡ Ok (bytes, block ∷ seen)
unfolding bind is_new add content_at done refuse
takes block held seen bytes fresh holds =
    ap (λ b. and_then (cond b (refuse block Seen seen) (done true seen)) (λ _. bind (add block) (λ _. content_at block held))) (not_in seen block fresh)
    ∙ ap (λ o. content_at block o (block ∷ seen)) holds

framed_taken : {P : ℕ → Type 0} (c d : Content) (block : ℕ) → P block → Framed c d P (taken block (c block)) (taken block (d block))
framed_taken {P} c d block here =
    record {
      runs = λ seen bytes all e.
          let t : Took block (c block) seen bytes all = took block (c block) seen bytes all e in
          record {
            new = block ∷ [];
            grown = t.grown;
            apart = λ n h g. t.fresh (subst (IsIn seen) (in_one block n h) g);
            distinct = (none_in block, tt);
            each = λ n h. subst P (sym (in_one block n h)) here;
            anywhere = λ later h agree.
                takes block (d block) later bytes (h block (in_head block [])) (sym (agree block (in_head block [])) ∙ t.holds);
          };
    }

pub in_range : (count block : ℕ) → (nat_le 1 block && nat_lt block count) ≡ true → InRange count block
in_range count block h =
    (leb-true 1 block (first_so (nat_le 1 block) (nat_lt block count) h), ltb-true block count (second_so (nat_le 1 block) (nat_lt block count) h))

pub framed_place : (c d : Content) (count namer block : ℕ) → Framed c d (InRange count) (place (blocks_of c count) namer block) (place (blocks_of d count) namer block)
unfolding place
framed_place c d count namer block =
    framed_checked c d (nat_le 1 block && nat_lt block count) namer Reference _ _ (λ h. framed_taken c d block (in_range count block h))
