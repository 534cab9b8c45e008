-- Reads leave what a walk goes over, and a walk over slots is gathered slot by slot.
use Rattle.std.proofs.Common.{◌≡◌, inl, inr, ℕ, zero, suc, ◌+◌, ◌≤◌, ◌<◌, List, [], ◌∷◌, ◌++◌, length, drop, map, ◌-◌, Some, Result, Ok, Err, OnOk, refl, sym, ap, subst, ◌∙◌, arith, get_or, add-one, append_assoc, append-nil}
use Rattle.std.specs.List.{slice_get}
use Rattle.std.specs.Option.{option_and_then}
use Rattle.std.proofs.Math.Seq.{drop-cons}
use Rattle.std.proofs.Math.ListN.{drop_of_length-le}
use Rattle.drives.specs.declared.device.Half.{Half}
use Rattle.page_codec.specs.Values.{ReferenceValue, PageValue}
use Rattle.page_places.specs.Places.{Store, block_at}
use Rattle.store_model.specs.Walk.{Blocks, Refused}
use Rattle.store_model.specs.Laws.{pages_of, page_of_block}
use Rattle.store_check.specs.Since.{OnlyRead, IsUnreadSince}
use Rattle.store_check.proofs.ReadOnly.{unread_before, failed_before}
use Rattle.pair_store.specs.declared.store.Blocks.{Ghosts}
use Rattle.pair_store.specs.Faults.{IsStopped, IsUnread}
use Rattle.store_check.specs.declared.refused.WalkRefused.{WalkRefused}
use Rattle.store_check.specs.declared.refused.WalkRefused.TheVariants.{ReadFault, BadStore, Memory}
use Rattle.tree_listing.specs.TreeText.{page_line, tree_text}
use Rattle.tree_listing.proofs.Held.{tree_of}
use Rattle.tree_model.specs.Trees.{Tree}
use Rattle.std.specs.FinMap as finmap
use Rattle.page_codec.specs.declared.why.Why.{Why}
use Rattle.tree_listing.specs.Listing.{EachBelow, IsOpen, blocks_of}
use Rattle.tree_listing.specs.FirstFault.{and_then, root_in}
use Rattle.tree_listing.specs.Results.{AppendsTree, Gives, Grows, IsNoCause, Stops}
use Rattle.tree_listing.specs.Walk.{AreBelow, AreUnder, Entry, IsRising, Lists, lines_under, pages_from, pages_named, pages_of_version, slot_pages, slots_pages, under}
use Rattle.tree_listing.proofs.Ordered.{rising_first, below_longer}

-- ---- reads

module _ {D : Type 0} (g : Ghosts D) where
  pub same_blocks : (a b : D) → OnlyRead g a b → g.tells → blocks_of g.content g.size b ≡ blocks_of g.content g.size a
  same_blocks a b only told = λ i. record { content = λ n. only.same told n i; count = only.size_same i }

  same_pages : (a b : D) → OnlyRead g a b → g.tells → pages_of (g.content b) ≡ pages_of (g.content a)
  same_pages a b only told = λ i n. option_and_then page_of_block (only.same told n i)

  pub each_below_on : (a b : D) → OnlyRead g a b → g.tells → (n : ℕ) → EachBelow (g.settled a) (pages_of (g.content a)) n
      → EachBelow (g.settled b) (pages_of (g.content b)) n
  each_below_on a b only told n each path c e =
      (only.kept told c).1 (each path c (ap (λ (s : Store). block_at s n path) (sym (same_pages a b only told)) ∙ e))

  pub each_open_on : (a b : D) → OnlyRead g a b → g.tells → (n : ℕ) → EachBelow (IsOpen (g.settled a) (g.content a)) (pages_of (g.content a)) n
      → EachBelow (IsOpen (g.settled b) (g.content b)) (pages_of (g.content b)) n
  each_open_on a b only told n each path c e =
      let h = each path c (ap (λ (s : Store). block_at s n path) (sym (same_pages a b only told)) ∙ e) in
      record { settled_here = (only.kept told c).1 h.settled_here; some = λ none. h.some (sym (only.same told c) ∙ none) }

  pub stopped_since : (a b c : D) (h : Half) → OnlyRead g a b → IsStopped (g.faults b) (g.faults c) (g.last_fault c) (g.moment c) h
      → IsStopped (g.faults a) (g.faults c) (g.last_fault c) (g.moment c) h
  stopped_since a b c h only is =
      record { failed = failed_before (g.faults a h) (g.faults b h) (g.faults c h) (g.last_fault c h) (only.later h).0 is.failed; last = is.last }

  -- a fault since later is a fault since earlier
  pub unread_since : (a b c : D) (h : Half) → OnlyRead g a b → IsUnreadSince g b c h → IsUnreadSince g a c h
  unread_since a b c h only (n, is) = unread_before g a b c n h only is

-- a half failed while the block had content
pub stopped_unread : (faults faults_after last_after : Half → ℕ) (moment_after : ℕ) (Empty : Type 0) (h : Half) → (Empty → ⊥)
    → IsUnread faults faults_after last_after moment_after Empty h → IsStopped faults faults_after last_after moment_after h
stopped_unread faults faults_after last_after moment_after Empty h some is = record {
  failed = is.failed;
  last = elim is.last [
    | inl last ↦ last
    | inr (at, stood, empty) ↦ absurd (some empty)
  ];
}

-- ---- bytes behind bytes

pub grows_none : (old : List ℕ) → Grows old old
grows_none old = ([], sym (append-nil old))

pub grows_by : (old new more : List ℕ) → new ≡ old ++ more → Grows old new
grows_by old new more e = (more, e)

pub grows_same : (old new : List ℕ) → new ≡ old → Grows old new
grows_same old new e = ([], e ∙ sym (append-nil old))

pub grows_on : (a b c : List ℕ) → Grows a b → Grows b c → Grows a c
grows_on a b c (x, e) (y, f) = (x ++ y, f ∙ ap (λ xs. xs ++ y) e ∙ append_assoc a x y)

-- ---- lines

pub lines_append : (path : List ℕ) (xs ys : List Entry) → lines_under path (xs ++ ys) ≡ lines_under path xs ++ lines_under path ys
lines_append path [] ys = refl
lines_append path (x ∷ xs) ys = ap (λ zs. page_line (path ++ x.0) x.1 ++ zs) (lines_append path xs ys) ∙ sym (append_assoc (page_line (path ++ x.0) x.1) (lines_under path xs) (lines_under path ys))

pub lines_slot : (path : List ℕ) (slot : ℕ) (es : List Entry) → lines_under path (map (under slot) es) ≡ lines_under (path ++ slot ∷ []) es
lines_slot path slot [] = refl
lines_slot path slot (e ∷ es) = λ i. page_line (sym (append_assoc path (slot ∷ []) e.0) i) e.1 ++ lines_slot path slot es i

-- ---- outcomes

pub stops_on : {X Y : Type 0} (e : WalkRefused) (o : Result X Refused) (p : Result Y Refused) → Stops e o → ((cause : Refused) → o ≡ Err cause → p ≡ Err cause) → Stops e p
stops_on (BadStore block why) o p h on = on (record { block = block; why = why }) h
stops_on (ReadFault half) o p h on = tt
stops_on Memory o p h on = tt

pub lists_exit : {X : Type 0} (Are : List Entry → Type 0) (told : Type 0) (path old new : List ℕ) (result : Result X WalkRefused) (e : WalkRefused) (o : Result (List Entry) Refused)
    → result ≡ Err e → (told → Stops e o) → Lists Are told path old new result o
lists_exit {X} Are told path old new result e o is stops = let P : Result X WalkRefused → Type 0 = λ r. Lists Are told path old new r o in subst P (sym is) stops

-- the same walk, told by less
pub lists_as : {X : Type 0} (Are : List Entry → Type 0) (told less : Type 0) (path old new : List ℕ) (result : Result X WalkRefused) (o p : Result (List Entry) Refused)
    → (less → told) → (less → o ≡ p) → Lists Are told path old new result o → Lists Are less path old new result p
lists_as Are told less path old new (Ok x) o p tells same (entries, are, is, text) = (entries, are, (λ l. sym (same l) ∙ is (tells l)), text)
lists_as Are told less path old new (Err e) o p tells same stops = λ l. let P : Result (List Entry) Refused → Type 0 = λ r. Stops e r in subst P (same l) (stops (tells l))

-- the page that a slot names is listed with all below it
pub lists_slot : {X : Type 0} (told : Type 0) (path old new : List ℕ) (slot : ℕ) (result : Result X WalkRefused) (o : Result (List Entry) Refused)
    → Lists IsRising told (path ++ slot ∷ []) old new result o → Lists (AreUnder slot) told path old new result (and_then o (λ entries. Ok (map (under slot) entries)))
lists_slot told path old new slot (Ok x) o (entries, rising, is, text) =
    (map (under slot) entries, record { seen = entries; rising = rising; are = refl }, (λ t. ap (λ r. and_then r (λ entries. Ok (map (under slot) entries))) (is t)), text ∙ ap (λ xs. old ++ xs) (sym (lines_slot path slot entries)))
lists_slot told path old new slot (Err e) o stops = λ t. stops_on e o _ (stops t) (λ cause is. ap (λ r. and_then r (λ entries. Ok (map (under slot) entries))) is)

-- an empty slot
pub lists_none : (told : Type 0) (path old new : List ℕ) (slot : ℕ) (o : Result (List Entry) Refused) → new ≡ old → o ≡ Ok []
    → (entries : List Entry) × AreUnder slot entries × (told → o ≡ Ok entries) × (new ≡ old ++ lines_under path entries)
lists_none told path old new slot o same is = ([], record { seen = []; rising = tt; are = refl }, (λ t. is), same ∙ sym (append-nil old))

-- a page's own line stands before those of the pages below it
pub lists_first : {X : Type 0} (told : Type 0) (path old mid new bytes : List ℕ) (result : Result X WalkRefused) (o : Result (List Entry) Refused)
    → mid ≡ old ++ page_line path bytes → Lists (AreBelow 16) told path mid new result o → Lists IsRising told path old new result (and_then o (λ below. Ok (([], bytes) ∷ below)))
lists_first told path old mid new bytes (Ok x) o line (entries, below, is, text) = (
  ([], bytes) ∷ entries,
  rising_first 16 bytes entries below,
  (λ t. ap (λ r. and_then r (λ below. Ok (([], bytes) ∷ below))) (is t)),
  text ∙ ap (λ xs. xs ++ lines_under path entries) line ∙ append_assoc old (page_line path bytes) (lines_under path entries)
      ∙ ap (λ (p : List ℕ). old ++ (page_line p bytes ++ lines_under path entries)) (sym (append-nil path)),
)
lists_first told path old mid new bytes (Err e) o line stops = λ t. stops_on e o _ (stops t) (λ cause is. ap (λ r. and_then r (λ below. Ok (([], bytes) ∷ below))) is)

-- a page with no level below it
pub lists_leaf : (told : Type 0) (path old new bytes : List ℕ) (o : Result (List Entry) Refused) → new ≡ old ++ page_line path bytes → o ≡ Ok (([], bytes) ∷ [])
    → (entries : List Entry) × IsRising entries × (told → o ≡ Ok entries) × (new ≡ old ++ lines_under path entries)
lists_leaf told path old new bytes o line is =
    (([], bytes) ∷ [], tt, (λ t. is), line ∙ ap (λ xs. old ++ xs) (sym (append-nil (page_line path bytes)) ∙ ap (λ (p : List ℕ). page_line p bytes ++ []) (sym (append-nil path))))

-- ---- slot by slot

abbrev before_rest : List Entry → Result (List Entry) Refused → Result (List Entry) Refused
before_rest here o = and_then o (λ rest. Ok (here ++ rest))

before_none : (o : Result (List Entry) Refused) → o ≡ before_rest [] o
before_none (Ok xs) = refl
before_none (Err e) = refl

before_twice : (here more : List Entry) (o : Result (List Entry) Refused) → before_rest here (before_rest more o) ≡ before_rest (here ++ more) o
before_twice here more (Ok xs) = ap Ok (sym (append_assoc here more xs))
before_twice here more (Err e) = refl

-- the slots before this one are listed
pub record SlotsListed (told : Type 0) (pages : ℕ → Result (List Entry) Refused) (refs : List ReferenceValue) (path old new : List ℕ) (k : ℕ) : Type 0 where
  pub here : List Entry
  pub below : AreBelow k here
  pub is : told → slots_pages pages 0 refs ≡ before_rest here (slots_pages pages k (drop k refs))
  pub text : new ≡ old ++ lines_under path here

pub slots_begin : (told : Type 0) (pages : ℕ → Result (List Entry) Refused) (refs : List ReferenceValue) (path old : List ℕ) → SlotsListed told pages refs path old old 0
slots_begin told pages refs path old = record { here = []; below = record { rising = tt; before = tt }; is = λ t. before_none (slots_pages pages 0 refs); text = sym (append-nil old) }

slots_after : (told : Type 0) (pages : ℕ → Result (List Entry) Refused) (refs : List ReferenceValue) (path old mid new : List ℕ) (k : ℕ) (r : ReferenceValue) (entries : List Entry)
    → drop k refs ≡ r ∷ drop (suc k) refs → SlotsListed told pages refs path old mid k → AreUnder k entries → (told → slot_pages pages k r.block ≡ Ok entries) → new ≡ mid ++ lines_under path entries
    → SlotsListed told pages refs path old new (suc k)
slots_after told pages refs path old mid new k r entries cut far under is text = record {
  here = far.here ++ entries;
  below = below_longer k far.here entries far.below under;
  is = λ t. far.is t ∙ ap (before_rest far.here)
      (ap (λ xs. slots_pages pages k xs) cut ∙ ap (λ o. and_then o (λ here. and_then (slots_pages pages (suc k) (drop (suc k) refs)) (λ rest. Ok (here ++ rest)))) (is t))
      ∙ before_twice far.here entries (slots_pages pages (suc k) (drop (suc k) refs));
  text = text ∙ ap (λ xs. xs ++ lines_under path entries) far.text ∙ append_assoc old (lines_under path far.here) (lines_under path entries)
      ∙ ap (λ xs. old ++ xs) (sym (lines_append path far.here entries));
}

pub slots_on : {X : Type 0} (told : Type 0) (pages : ℕ → Result (List Entry) Refused) (refs : List ReferenceValue) (path old mid new : List ℕ) (k : ℕ) (other : ReferenceValue) (result : Result X WalkRefused) (x : X)
    → k < length refs → SlotsListed told pages refs path old mid k → result ≡ Ok x → Lists (AreUnder k) told path mid new result (slot_pages pages k (get_or refs k other).block)
    → SlotsListed told pages refs path old new (k + 1)
slots_on {X} told pages refs path old mid new k other result x low far is lists =
    let P : Result X WalkRefused → Type 0 = λ r. Lists (AreUnder k) told path mid new r (slot_pages pages k (get_or refs k other).block) in
    let l = subst P is lists in
    subst (λ (j : ℕ). SlotsListed told pages refs path old new j) (sym (add-one k)) (slots_after told pages refs path old mid new k (get_or refs k other) l.0 (drop-cons refs k other low) far l.1 l.2 l.3)

pub slots_refused : (told : Type 0) (pages : ℕ → Result (List Entry) Refused) (refs : List ReferenceValue) (path old mid : List ℕ) (k : ℕ) (other : ReferenceValue) (e : WalkRefused)
    → k < length refs → SlotsListed told pages refs path old mid k → (told → Stops e (slot_pages pages k (get_or refs k other).block)) → told → Stops e (slots_pages pages 0 refs)
slots_refused told pages refs path old mid k other e low far stops t =
    stops_on e (slot_pages pages k (get_or refs k other).block) (slots_pages pages 0 refs) (stops t)
    (λ cause is. far.is t ∙ ap (before_rest far.here)
    (ap (λ xs. slots_pages pages k xs) (drop-cons refs k other low)
    ∙ ap (λ o. and_then o (λ here. and_then (slots_pages pages (suc k) (drop (suc k) refs)) (λ rest. Ok (here ++ rest)))) is))

pub slots_end : (told : Type 0) (pages : ℕ → Result (List Entry) Refused) (refs : List ReferenceValue) (path old new : List ℕ) (k : ℕ) → length refs ≤ k → k ≡ 16 → SlotsListed told pages refs path old new k
    → (entries : List Entry) × AreBelow 16 entries × (told → slots_pages pages 0 refs ≡ Ok entries) × (new ≡ old ++ lines_under path entries)
slots_end told pages refs path old new k past all far = (
  far.here,
  subst (λ (n : ℕ). AreBelow n far.here) all far.below,
  (λ t. far.is t ∙ ap (λ xs. before_rest far.here (slots_pages pages k xs)) (drop_of_length-le refs past) ∙ ap Ok (append-nil far.here)),
  far.text,
)

-- ---- a page and what is below it

pub page_is : (blocks : Blocks) (d n : ℕ) (page : PageValue) → (d ≡ 0 → ⊥)
    → and_then (slots_pages (pages_named blocks (d - 1) n) 0 page.refs) (λ below. Ok (([], page.bytes) ∷ below)) ≡ pages_from blocks d n page
unfolding pages_from
page_is blocks zero n page some = absurd (some refl)
page_is blocks (suc d) n page some =
    ap (λ (k : ℕ). and_then (slots_pages (pages_named blocks k n) 0 page.refs) (λ below. Ok (([], page.bytes) ∷ below))) (let e : suc d - 1 ≡ d = Prim.omega arith in e)

pub leaf_is : (blocks : Blocks) (d n : ℕ) (page : PageValue) → d ≡ 0 → pages_from blocks d n page ≡ Ok (([], page.bytes) ∷ [])
unfolding pages_from
leaf_is blocks zero n page e = refl
leaf_is blocks (suc d) n page e = absurd (Prim.omega (arith, e))

-- ---- one slot of a page

pub slot_get : (refs : List ReferenceValue) (k : ℕ) (other : ReferenceValue) → k < length refs → slice_get refs k ≡ Some (get_or refs k other)
slot_get [] k other low = absurd (Prim.omega (arith, low))
slot_get (r ∷ refs) zero other low = refl
slot_get (r ∷ refs) (suc k) other low = slot_get refs k other (Prim.omega (arith, low))

pub slot_names : (refs : List ReferenceValue) (k : ℕ) (other : ReferenceValue) (m : ℕ) → k < length refs → (get_or refs k other).block ≡ Some m
    → option_and_then (λ r. r.block) (slice_get refs k) ≡ Some m
slot_names refs k other m low e = ap (option_and_then (λ (r : ReferenceValue). r.block)) (slot_get refs k other low) ∙ e

-- ---- ends

pub no_cause : {X : Type 0} (e : WalkRefused) (o : Result X Refused) (x : X) → Stops e o → o ≡ Ok x → IsNoCause e
no_cause {X = X} (BadStore block why) o x stops is = absurd (no (sym stops ∙ is))
  where
    no : (let r : Result X Refused = Err (record { block = block; why = why }) in r) ≡ Ok x → ⊥
    no h = cc
no_cause (ReadFault half) o x stops is = tt
no_cause Memory o x stops is = tt

pub gives_exit : {X : Type 0} (P : Type 0) (result : Result X WalkRefused) (e : WalkRefused) → result ≡ Err e → IsNoCause e → Gives P result
gives_exit {X} P result e is none = let Q : Result X WalkRefused → Type 0 = λ r. Gives P r in subst Q (sym is) none

-- a cause that is answered is the walk's
pub cause_is : {X Y : Type 0} (e : WalkRefused) (result : Result Y WalkRefused) (o : Result X Refused) (block : ℕ) (why : Why) → result ≡ Err e → result ≡ Err (BadStore block why) → Stops e o
    → o ≡ Err (record { block = block; why = why })
cause_is {X} e result o block why is bad stops =
    let one : e ≡ BadStore block why = cc in
    let P : WalkRefused → Type 0 = λ x. Stops x o in subst P one stops

-- the walk of a version stops where its root is not found, and goes on where it is
pub version_stops : (blocks : Blocks) (n : ℕ) (e : Refused) → root_in blocks n ≡ Err e → pages_of_version blocks n ≡ Err e
unfolding pages_of_version
version_stops blocks n e is = ap (λ r. and_then r (pages_from blocks 7 n)) is

pub version_is : (blocks : Blocks) (n : ℕ) (page : PageValue) → root_in blocks n ≡ Ok page → pages_of_version blocks n ≡ pages_from blocks 7 n page
unfolding pages_of_version
version_is blocks n page is = ap (λ r. and_then r (pages_from blocks 7 n)) is

-- what a listing gives
pub lists_lines : {X : Type 0} (told : Type 0) (old new : List ℕ) (result : Result X WalkRefused) (o : Result (List Entry) Refused) → Lists IsRising told [] old new result o
    → OnOk result (AppendsTree old new)
lists_lines told old new (Ok x) o (entries, rising, is, text) = tree_of old new entries rising text
lists_lines told old new (Err e) o stops = tt

pub lists_text : {X : Type 0} (told : Type 0) (old new : List ℕ) (result : Result X WalkRefused) (o : Result (List Entry) Refused) (tree : Tree) → Lists IsRising told [] old new result o
    → told → o ≡ Ok (finmap.entries tree) → Gives (new ≡ old ++ tree_text tree) result
lists_text told old new (Ok x) o tree (entries, rising, is, text) t all =
    let one : entries ≡ finmap.entries tree = ok_is (sym (is t) ∙ all) in
    text ∙ ap (λ es. old ++ lines_under [] es) one
  where
    ok_is : {xs ys : List Entry} → (let r : Result (List Entry) Refused = Ok xs in r) ≡ Ok ys → xs ≡ ys
    ok_is h = cc
lists_text told old new (Err e) o tree stops t all = no_cause e o (finmap.entries tree) (stops t) all

pub lists_bad : {X : Type 0} (told : Type 0) (path old new : List ℕ) (result : Result X WalkRefused) (o : Result (List Entry) Refused) (block : ℕ) (why : Why) → Lists IsRising told path old new result o
    → told → result ≡ Err (BadStore block why) → o ≡ Err (record { block = block; why = why })
lists_bad {X} told path old new result o block why lists t bad =
    let P : Result X WalkRefused → Type 0 = λ r. Lists IsRising told path old new r o in subst P bad lists t
