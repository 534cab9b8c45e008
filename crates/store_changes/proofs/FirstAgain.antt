-- A version whose pages lie each in a block of its own is read again as the first of a chain.
use Rattle.std.proofs.Common.{◌≡◌, ℕ, zero, suc, ◌+◌, ◌<◌, ◌≤◌, ◌==◌, Bool, true, false, cond, ◌&&◌, nat_le, nat_lt, nat_eq, List, [], ◌∷◌, ◌++◌, length, ◌⊎◌, inl, inr, Option, Some, None, option_map, Result, Ok, Err, refl, sym, ap, subst, ◌∙◌, arith, eq-eqb, eqb-true, ltb-true, length-append, slice_index}
use Rattle.std.specs.Option.{option_and_then}
use Rattle.std.proofs.lemmas.Bool.{ltb-false}
use Rattle.page_places.specs.Places.{Store, Holds, block_at}
use Rattle.page_codec.specs.declared.why.Why.{Why}
use Rattle.page_codec.specs.declared.why.Why.TheVariants.{Level}
use Rattle.page_codec.specs.Values.{ReferenceValue, PageValue, VersionValue}
use Rattle.page_codec.specs.Causes.{page_of, version_of}
use Rattle.tree_model.proofs.Paths.{told}
use Rattle.store_model.specs.Walk.{Walk, bind, done}
use Rattle.store_model.specs.Laid.{Node, LaidVersion, block_in}
use Rattle.store_model.specs.Pages.{page_at, own_node, Below, own_from, named_from, slot_from, slots_from, pages_below}
use Rattle.store_model.specs.Chains.{version_at}
use Rattle.store_model.specs.Laws.{read_of, pages_of, page_of_block}
use Rattle.store_model.specs.Found.{version_in}
use Rattle.store_model.proofs.PlaceLists.{IsIn, in_cons}
use Rattle.store_model.proofs.Steps.{Content, blocks_of, went_on}
use Rattle.store_model.proofs.Rewriting.{checks, decodes, places_again, VersionRead, made_of, version_made}
use Rattle.store_model.proofs.Finding.{named, named_before, named_is}
use Rattle.store_model.proofs.Reading.{reads_page, reads_version}
use Rattle.store_model.proofs.Lying.{Each, each_append}
use Rattle.store_model.proofs.Held.{Lies, lies_held}
use Rattle.store_changes.proofs.Again.{version_lies}

-- a block in range that holds a page of this level
pub record HasPage (c : Content) (count b level : ℕ) : Type 0 where
  pub bytes : List ℕ
  pub page : PageValue
  pub ranged : (nat_le 1 b && nat_lt b count) ≡ true
  pub holds : c b ≡ Some bytes
  pub reads : page_of bytes ≡ Ok page
  pub levels : page.level ≡ level

-- from a block down, pages in range, each in a block of its own that is none of these places
pub record Room (c : Content) (count level block : ℕ) (seen : List ℕ) : Type 0 where
  pub read : (r : List ℕ) (b : ℕ) → block_at (pages_of c) block r ≡ Some b → HasPage c count b (level + length r)
  pub one : (r q : List ℕ) (b : ℕ) → block_at (pages_of c) block r ≡ Some b → block_at (pages_of c) block q ≡ Some b → r ≡ q
  pub clear : (r : List ℕ) (b : ℕ) → block_at (pages_of c) block r ≡ Some b → IsIn seen b → ⊥

-- and so from slots on
pub record SlotsRoom (c : Content) (count level slot : ℕ) (refs : List ReferenceValue) (seen : List ℕ) : Type 0 where
  pub read : (s : ℕ) (r : List ℕ) (b : ℕ) → named (pages_of c) slot refs s r ≡ Some b → HasPage c count b (level + suc (length r))
  pub one : (s : ℕ) (r : List ℕ) (t : ℕ) (q : List ℕ) (b : ℕ) → named (pages_of c) slot refs s r ≡ Some b → named (pages_of c) slot refs t q ≡ Some b → (s ≡ t) × (r ≡ q)
  pub clear : (s : ℕ) (r : List ℕ) (b : ℕ) → named (pages_of c) slot refs s r ≡ Some b → IsIn seen b → ⊥

abbrev pub IsOwn : Node → Type 0
IsOwn node = node.is_own ≡ true

-- the walk goes, finds pages of its own, and no places but those
pub record Went (P : ℕ → Type 0) (walk : Walk (List Node)) (seen : List ℕ) : Type 0 where
  pub nodes : List Node
  pub all : List ℕ
  pub runs : walk seen ≡ Ok (nodes, all)
  pub own : Each IsOwn nodes
  pub only : (n : ℕ) → IsIn all n → IsIn seen n ⊎ P n

-- a block below a block, and below slots
abbrev pub Under : Content → ℕ → ℕ → Type 0
Under c block n = (r : List ℕ) × (block_at (pages_of c) block r ≡ Some n)

abbrev pub UnderSlots : Content → ℕ → List ReferenceValue → ℕ → Type 0
UnderSlots c slot refs n = (s : ℕ) × (r : List ℕ) × (named (pages_of c) slot refs s r ≡ Some n)

nothing_more : (P : ℕ → Type 0) (seen : List ℕ) → Went P (done []) seen
unfolding done
nothing_more P seen = record { nodes = []; all = seen; runs = refl; own = tt; only = λ n h. inl h }

-- what walks over the slots of a page, as those of a first version
abbrev BelowGoes : Content → ℕ → Below → Type 0
BelowGoes c count below =
    (block : ℕ) (path : List ℕ) (refs : List ReferenceValue) (seen : List ℕ) → SlotsRoom c count (length path) 0 refs seen
    → Went (UnderSlots c 0 refs) (below block path refs) seen

page_goes : (c : Content) (count namer block level : ℕ) (seen : List ℕ) (h : HasPage c count block level) → (IsIn seen block → ⊥)
    → page_at (blocks_of c count) namer block level seen ≡ Ok (h.page, block ∷ seen)
unfolding page_at done
page_goes c count namer block level seen h fresh =
    went_on _ _ seen h.bytes (block ∷ seen) _ (places_again c count namer block seen h.bytes h.ranged fresh h.holds)
    (went_on _ _ (block ∷ seen) h.page (block ∷ seen) _ (decodes block (page_of h.bytes) (block ∷ seen) h.page h.reads)
    (went_on _ _ (block ∷ seen) true (block ∷ seen) _ (checks (h.page.level == level) block Level (block ∷ seen) (eq-eqb h.page.level level h.levels)) refl))

own_goes : (c : Content) (count : ℕ) (below : Below) → BelowGoes c count below
    → (namer : ℕ) (path : List ℕ) (reference : ReferenceValue) (block : ℕ) (seen : List ℕ) → Room c count (length path) block seen
    → Went (Under c block) (own_from (blocks_of c count) below namer path reference block) seen
unfolding own_from done
own_goes c count below each namer path reference block seen room =
    let here : HasPage c count block (length path + 0) = room.read [] block refl in
    let at : HasPage c count block (length path) = subst (HasPage c count block) (let e : length path + 0 ≡ length path = omega arith in e) here in
    let held : pages_of c block ≡ Some at.page = (reads_page c block at.bytes at.page at.holds at.reads).is in
    let down : (s : ℕ) (r : List ℕ) (b : ℕ) → named (pages_of c) 0 at.page.refs s r ≡ Some b → block_at (pages_of c) block (s ∷ r) ≡ Some b =
    λ s r b h. sym (named_is (pages_of c) block s r at.page held) ∙ h in
    let slots : SlotsRoom c count (length path) 0 at.page.refs (block ∷ seen) =
    record {
      read = λ s r b h. room.read (s ∷ r) b (down s r b h);
      one = λ s r t q b h k. let e : s ∷ r ≡ t ∷ q = room.one (s ∷ r) (t ∷ q) b (down s r b h) (down t q b k) in let one : s ≡ t = cc in let two : r ≡ q = cc in (one, two);
      clear = λ s r b h i. elim (in_cons block b seen i) [
        | inl e ↦ let f : [] ≡ s ∷ r = room.one [] (s ∷ r) b (ap Some (sym e)) (down s r b h) in absurd cc
        | inr k ↦ room.clear (s ∷ r) b (down s r b h) k
      ];
    } in
    let w : Went (UnderSlots c 0 at.page.refs) (below block path at.page.refs) (block ∷ seen) = each block path at.page.refs (block ∷ seen) slots in
    record {
      nodes = own_node path reference block at.page ∷ w.nodes;
      all = w.all;
      runs = went_on _ _ seen at.page (block ∷ seen) _ (page_goes c count namer block (length path) seen at (room.clear [] block refl))
          (went_on _ _ (block ∷ seen) w.nodes w.all _ w.runs refl);
      own = (refl, w.own);
      only = λ n h. elim (w.only n h) [
        | inl i ↦ elim (in_cons block n seen i) [ inl e ↦ inr ([], ap Some (sym e)) | inr k ↦ inl k ]
        | inr u ↦ inr (u.0 ∷ u.1, down u.0 u.1 n u.2)
      ];
    }

-- what a slot names, and what the slots after it name
pub at_slot : (store : Store) (slot : ℕ) (reference : ReferenceValue) (others : List ReferenceValue) (x : ℕ) (r : List ℕ) → reference.block ≡ Some x
    → named store slot (reference ∷ others) slot r ≡ block_at store x r
at_slot store slot reference others x r e =
    ap (λ b. cond b (option_and_then (λ n. block_at store n r) reference.block) (named store (suc slot) others slot r)) (eq-eqb slot slot refl)
    ∙ ap (option_and_then (λ n. block_at store n r)) e

pub record Past (store : Store) (slot : ℕ) (reference : ReferenceValue) (others : List ReferenceValue) (s : ℕ) (r : List ℕ) (b : ℕ) : Type 0 where
  pub later : suc slot ≤ s
  pub is : named store slot (reference ∷ others) s r ≡ Some b

pub past : (store : Store) (slot : ℕ) (reference : ReferenceValue) (others : List ReferenceValue) (s : ℕ) (r : List ℕ) (b : ℕ)
    → named store (suc slot) others s r ≡ Some b → Past store slot reference others s r b
past store slot reference others s r b h = of (nat_lt s (suc slot)) refl
  where
    open_lt : (m n : ℕ) → nat_lt m n ≡ true → m < n
    open_lt m n e = ltb-true m n e

    of : (t : Bool) → nat_lt s (suc slot) ≡ t → Past store slot reference others s r b
    of true e = let none : named store (suc slot) others s r ≡ None = named_before store (suc slot) others s r (open_lt s (suc slot) e) in absurd cc
    of false e =
        let far : suc slot ≤ s = ltb-false s (suc slot) e in
        let off : nat_eq slot s ≡ false = apart slot s (λ i. omega (arith, i, far)) in
        record { later = far; is = ap (λ t. cond t (option_and_then (λ n. block_at store n r) reference.block) (named store (suc slot) others s r)) off ∙ h }
      where
        apart : (m n : ℕ) → (m ≡ n → ⊥) → nat_eq m n ≡ false
        apart m n h = elim (told (nat_eq m n)) [ inl t ↦ absurd (h (eqb-true m n t)) | inr f ↦ f ]

slots_go : (c : Content) (count : ℕ) (below : Below) → BelowGoes c count below
    → (namer : ℕ) (path : List ℕ) (slot : ℕ) (refs : List ReferenceValue) (seen : List ℕ) → SlotsRoom c count (length path) slot refs seen
    → Went (UnderSlots c slot refs) (slots_from (blocks_of c count) below None namer path slot refs) seen
unfolding slots_from slot_from named_from done
slots_go c count below each namer path slot [] seen room = nothing_more (UnderSlots c slot []) seen
slots_go c count below each namer path slot (reference ∷ others) seen room = of (λ mid r. slots_go c count below each namer path (suc slot) others mid r) reference.block refl
  where
    S : Store
    S = pages_of c

    rest_room : (mid : List ℕ) → ((n : ℕ) → IsIn mid n → IsIn seen n ⊎ ((r : List ℕ) × (named S slot (reference ∷ others) slot r ≡ Some n))) → SlotsRoom c count (length path) (suc slot) others mid
    rest_room mid only =
        record {
          read = λ s r b h. room.read s r b (past S slot reference others s r b h).is;
          one = λ s r t q b h k. room.one s r t q b (past S slot reference others s r b h).is (past S slot reference others t q b k).is;
          clear = λ s r b h i.
              let p = past S slot reference others s r b h in
              elim (only b i) [
                | inl k ↦ room.clear s r b p.is k
                | inr u ↦ let e : slot ≡ s = (room.one slot u.0 s r b u.1 p.is).0 in let far : suc slot ≤ s = p.later in absurd (omega (arith, e, far))
              ];
        }

    Rest : Type 0
    Rest = (mid : List ℕ) → SlotsRoom c count (length path) (suc slot) others mid
        → Went (UnderSlots c (suc slot) others) (slots_from (blocks_of c count) below None namer path (suc slot) others) mid

    both : Rest → (here : Walk (List Node)) → (w : Went (λ n. (r : List ℕ) × (named S slot (reference ∷ others) slot r ≡ Some n)) here seen)
        → Went (UnderSlots c slot (reference ∷ others)) (bind here (λ h. bind (slots_from (blocks_of c count) below None namer path (suc slot) others) (λ rest. done (h ++ rest)))) seen
    both goes here w =
        let v : Went (UnderSlots c (suc slot) others) (slots_from (blocks_of c count) below None namer path (suc slot) others) w.all =
        goes w.all (rest_room w.all w.only) in
        record {
          nodes = w.nodes ++ v.nodes;
          all = v.all;
          runs = went_on _ _ seen w.nodes w.all _ w.runs (went_on _ _ w.all v.nodes v.all _ v.runs refl);
          own = each_append IsOwn w.nodes v.nodes w.own v.own;
          only = λ n h. elim (v.only n h) [
            | inl i ↦ elim (w.only n i) [ inl k ↦ inl k | inr u ↦ inr (slot, u.0, u.1) ]
            | inr u ↦ inr (u.0, u.1, (past S slot reference others u.0 u.1 n u.2).is)
          ];
        }

    of : Rest → (o : Option ℕ) → reference.block ≡ o
        → Went (UnderSlots c slot (reference ∷ others)) (bind (slot_from (blocks_of c count) below None namer (path ++ slot ∷ []) reference o) (λ h. bind (slots_from (blocks_of c count) below None namer path (suc slot) others) (λ rest. done (h ++ rest)))) seen
    of goes None e = both goes (done []) (nothing_more _ seen)
    of goes (Some x) e =
        let on : (r : List ℕ) (b : ℕ) → block_at S x r ≡ Some b → named S slot (reference ∷ others) slot r ≡ Some b = λ r b h. at_slot S slot reference others x r e ∙ h in
        let longer : length (path ++ slot ∷ []) ≡ length path + 1 = length-append path (slot ∷ []) in
        let down : Room c count (length (path ++ slot ∷ [])) x seen =
        record {
          read = λ r b h. subst (HasPage c count b) (let f : length path + suc (length r) ≡ length (path ++ slot ∷ []) + length r = omega (arith, longer) in f) (room.read slot r b (on r b h));
          one = λ r q b h k. (room.one slot r slot q b (on r b h) (on q b k)).1;
          clear = λ r b h i. room.clear slot r b (on r b h) i;
        } in
        let w : Went (Under c x) (own_from (blocks_of c count) below namer (path ++ slot ∷ []) reference x) seen = own_goes c count below each namer (path ++ slot ∷ []) reference x seen down in
        both goes (own_from (blocks_of c count) below namer (path ++ slot ∷ []) reference x)
        (record { nodes = w.nodes; all = w.all; runs = w.runs; own = w.own; only = λ n h. elim (w.only n h) [ inl i ↦ inl i | inr u ↦ inr (u.0, on u.0 n u.1) ] })

below_goes : (c : Content) (count depth : ℕ) → BelowGoes c count (pages_below (blocks_of c count) None depth)
unfolding pages_below
below_goes c count zero = λ block path refs seen room. nothing_more (UnderSlots c 0 refs) seen
below_goes c count (suc depth) =
    λ block path refs seen room. slots_go c count (pages_below (blocks_of c count) None depth) (below_goes c count depth) block path 0 refs seen room

-- ---- a version

-- the pages of a version lie in range, each in a block of its own that is none of these places
pub record LiesApart (count : ℕ) (u : LaidVersion) (later : List ℕ) : Type 0 where
  pub ranged : (p : List ℕ) (b : ℕ) → block_in p u.nodes ≡ Some b → (nat_le 1 b && nat_lt b count) ≡ true
  pub one : (p q : List ℕ) (b : ℕ) → block_in p u.nodes ≡ Some b → block_in q u.nodes ≡ Some b → p ≡ q
  pub clear : (p : List ℕ) (b : ℕ) → block_in p u.nodes ≡ Some b → IsIn later b → ⊥

-- a block that holds a page of a level above 0 holds it as such
record Told (c : Content) (b : ℕ) (page : PageValue) : Type 0 where
  bytes : List ℕ
  holds : c b ≡ Some bytes
  reads : page_of bytes ≡ Ok page

page_told : (c : Content) (b m : ℕ) (page : PageValue) → pages_of c b ≡ Some page → page.level ≡ suc m → Told c b page
page_told c b m page at level = of (c b) refl at
  where
    in_bytes : (bytes : List ℕ) → c b ≡ Some bytes → page_of_block bytes ≡ Some page → Told c b page
    in_bytes bytes here h = by (slice_index bytes 1 == 86) h
      where
        version : (r : Result VersionValue Why) → version_of bytes ≡ r → option_map (λ (v : VersionValue). v.page) (read_of r) ≡ Some page → Told c b page
        version (Ok v) e k =
            let low : v.page.level ≡ 0 = (reads_version c b bytes v here e).level in
            let is : v.page ≡ page = cc in
            let same_level : v.page.level ≡ page.level = ap (λ (x : PageValue). x.level) is in
            absurd (omega (arith, low, same_level, level))
        version (Err w) e k = absurd cc

        plain : (r : Result PageValue Why) → page_of bytes ≡ r → read_of r ≡ Some page → Told c b page
        plain (Ok x) e k = record { bytes = bytes; holds = here; reads = e ∙ ap Ok (let same_page : x ≡ page = cc in same_page) }
        plain (Err w) e k = absurd cc

        by : (t : Bool) → cond t (option_map (λ v. v.page) (read_of (version_of bytes))) (read_of (page_of bytes)) ≡ Some page → Told c b page
        by true k = version (version_of bytes) refl k
        by false k = plain (page_of bytes) refl k

    of : (o : Option (List ℕ)) → c b ≡ o → option_and_then page_of_block o ≡ Some page → Told c b page
    of None e h = absurd cc
    of (Some bytes) e h = in_bytes bytes e h

-- the version as the first: the same pages in the same blocks, each its own
pub record FirstAgain (c : Content) (count object namer : ℕ) (u : LaidVersion) (later : List ℕ) : Type 0 where
  pub nodes : List Node
  pub all : List ℕ
  pub runs : version_at (blocks_of c count) object namer u.block None later ≡ Ok ((let v : LaidVersion = record u { nodes = nodes } in v), all)
  pub own : Each IsOwn nodes
  pub blocks : (p : List ℕ) → block_in p nodes ≡ block_in p u.nodes
  pub only : (n : ℕ) → IsIn all n → IsIn later n ⊎ ((p : List ℕ) × (block_in p u.nodes ≡ Some n))

pub first_again : (c : Content) (count object namer block : ℕ) (before : Option LaidVersion) (seen : List ℕ) (u : LaidVersion) (all later : List ℕ)
    → VersionRead c count object block before seen u all → Lies (pages_of c) u → LiesApart count u later → FirstAgain c count object namer u later
first_again c count object namer block before seen u all later v lies apart =
    let S : Store = pages_of c in
    let here : u.block ≡ block = ap (λ (w : LaidVersion). w.block) v.made in
    let held : S block ≡ Some v.page.page = (reads_version c block v.bytes v.page v.holds v.reads).page.is in
    let tree : Holds S u.block (version_in u).tree = lies_held S u lies in
    let lie : (p : List ℕ) → block_in p u.nodes ≡ block_at S block p = λ p. lies.lie p ∙ ap (λ b. block_at S b p) here in
    let down : (s : ℕ) (r : List ℕ) (b : ℕ) → named S 0 v.page.page.refs s r ≡ Some b → block_in (s ∷ r) u.nodes ≡ Some b =
    λ s r b h. lie (s ∷ r) ∙ sym (named_is S block s r v.page.page held) ∙ h in
    let root : block_in [] u.nodes ≡ Some block = lie [] in
    let room : SlotsRoom c count 0 0 v.page.page.refs (block ∷ later) =
    record {
      read = λ s r b h.
          let page = tree.page (s ∷ r) b (ap (λ x. block_at S x (s ∷ r)) here ∙ sym (lie (s ∷ r)) ∙ down s r b h) in
          let t : Told c b page.0 = page_told c b (length r) page.0 page.1 page.3 in
          record { bytes = t.bytes; page = page.0; ranged = apart.ranged (s ∷ r) b (down s r b h); holds = t.holds; reads = t.reads; levels = page.3 ∙ (let e : suc (length r) ≡ 0 + suc (length r) = omega arith in e) };
      one = λ s r t q b h k. let e : s ∷ r ≡ t ∷ q = apart.one (s ∷ r) (t ∷ q) b (down s r b h) (down t q b k) in let one : s ≡ t = cc in let two : r ≡ q = cc in (one, two);
      clear = λ s r b h i. elim (in_cons block b later i) [
        | inl e ↦ let f : [] ≡ s ∷ r = apart.one [] (s ∷ r) b (root ∙ ap Some (sym e)) (down s r b h) in absurd cc
        | inr k ↦ apart.clear (s ∷ r) b (down s r b h) k
      ];
    } in
    let w : Went (UnderSlots c 0 v.page.page.refs) (pages_below (blocks_of c count) None 7 block [] v.page.page.refs) (block ∷ later) =
    below_goes c count 7 block [] v.page.page.refs (block ∷ later) room in
    let again : version_at (blocks_of c count) object namer block None later ≡ Ok (made_of block v.page w.nodes, w.all) =
    version_made c count object namer block None later w.all v.bytes v.page w.nodes v.ranged (apart.clear [] block root) v.holds v.reads v.objects tt v.members w.runs in
    let first : LaidVersion = made_of block v.page w.nodes in
    let first_lies : Lies S first = version_lies c count object namer block None tt later first w.all again in
    record {
      nodes = first.nodes;
      all = w.all;
      runs = ap (λ b. version_at (blocks_of c count) object namer b None later) here ∙ again
          ∙ ap (λ (x : LaidVersion). Ok ((let y : LaidVersion = record x { nodes = first.nodes } in y), w.all)) (sym v.made);
      own = (refl, w.own);
      blocks = λ p. first_lies.lie p ∙ sym (lie p);
      only = λ n h. elim (w.only n h) [
        | inl i ↦ elim (in_cons block n later i) [ inl e ↦ inr ([], root ∙ ap Some (sym e)) | inr k ↦ inl k ]
        | inr x ↦ inr (x.0 ∷ x.1, down x.0 x.1 n x.2)
      ];
    }
