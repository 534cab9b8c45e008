-- Where the pages of a draft were written, the block of `/` holds the draft's tree: one walk down from that block.
use Rattle.std.proofs.Common.{◌≡◌, ℕ, zero, suc, ◌+◌, ◌<◌, Bool, true, false, ◌&&◌, ◌||◌, cond, List, [], ◌∷◌, ◌++◌, map, length, ◌⊎◌, inl, inr, refl, sym, ap, subst, ◌∙◌, Option, Some, None, option_map, is_some, arith, true≢false}
use Rattle.std.specs.Option.{option_map_or, option_and_then}
use Rattle.std.specs.List.{slice_get}
use Rattle.std.specs.FinMap as finite
use Rattle.afs_base.specs.Path.{is_prefix, are_slots}
use Rattle.afs_base.specs.declared.kind.Kind.TheVariants.{Data}
use Rattle.tree_model.specs.declared.step.Step.{Step}
use Rattle.tree_model.specs.Trees.{Tree, has, tree_after}
use Rattle.tree_model.specs.Accesses.{Place, all_writes, touches, written_paths}
use Rattle.tree_model.proofs.Paths.{never, same_is, prefix_append, false_if}
use Rattle.tree_model.proofs.TreeFacts.{absent}
use Rattle.tree_model.proofs.Untouched.{among_touches, untouched_run}
use Rattle.page_codec.specs.Values.{ReferenceValue, PageValue}
use Rattle.page_places.specs.Places.{Store, Holds, same, slot_block, block_at}
use Rattle.draft_model.specs.Views.{Copied, View, PageCopy, Copies, copy_of, copies, live, LiveAt}
use Rattle.draft_model.specs.Stands.{Shape, StandsFor}
use Rattle.draft_model.specs.Told.{is_one_of}
use Rattle.draft_model.specs.Flush.{Placed, IsPlaced, block_of, flushed_slot, flushed_slots, flushed_page, AreWhole, Flushed, SharesRest}
use Rattle.draft_model.specs.Laws.{FlushLaw}
use Rattle.page_places.proofs.Facts.{block_at_append, at_root}
use Rattle.draft_model.proofs.Facts.{at_of, push}
use Rattle.draft_model.proofs.Ways.{has_live, slot_case, gone_below}
use Rattle.draft_model.proofs.Moves.{slot_small}
use Rattle.draft_model.proofs.Telling.{fresh_told}

-- ---- the slots of a written page

pub slots_get : (d : View) (placed : List Placed) (p : List ℕ) (s : ℕ) (refs : List ReferenceValue) (k n : ℕ) → s + k ≡ n
    → slice_get (flushed_slots d placed p s refs) k ≡ option_map (flushed_slot (d (p ++ n ∷ [])) (block_of placed (p ++ n ∷ []))) (slice_get refs k)
slots_get d placed p s [] k n e = refl
slots_get d placed p s (r ∷ refs) zero n e =
    let is : s ≡ n = omega arith in
    ap (λ (m : ℕ). Some (flushed_slot (d (p ++ m ∷ [])) (block_of placed (p ++ m ∷ [])) r)) is
slots_get d placed p s (r ∷ refs) (suc k) n e = slots_get d placed p (s + 1) refs k n (omega arith)

pub slots_length : (d : View) (placed : List Placed) (p : List ℕ) (s : ℕ) (refs : List ReferenceValue) → length (flushed_slots d placed p s refs) ≡ length refs
slots_length d placed p s [] = refl
slots_length d placed p s (r ∷ refs) = ap suc (slots_length d placed p (s + 1) refs)

get_some : {A : Type 0} (xs : List A) (k : ℕ) → k < length xs → (x : A) × (slice_get xs k ≡ Some x)
get_some [] k h = absurd (omega arith)
get_some (x ∷ xs) zero h = (x, refl)
get_some (x ∷ xs) (suc k) h = get_some xs k (omega arith)

abbrev named : Option ReferenceValue → Option ℕ
named o = option_and_then (λ (r : ReferenceValue). r.block) o

-- a slot that leads to no written page names the block that it named
slot_kept : (d : View) (placed : List Placed) (p : List ℕ) (s : ℕ) (page : PageValue) → block_of placed (p ++ s ∷ []) ≡ None
    → slot_block (flushed_page d placed p page) s ≡ slot_block page s
slot_kept d placed p s page none =
    ap named (slots_get d placed p 0 page.refs s s (omega arith))
    ∙ ap (λ (o : Option ℕ). named (option_map (flushed_slot (d (p ++ s ∷ [])) o) (slice_get page.refs s))) none
    ∙ by (slice_get page.refs s)
  where
    by : (o : Option ReferenceValue) → named (option_map (flushed_slot (d (p ++ s ∷ [])) None) o) ≡ named o
    by None = refl
    by (Some r) = refl

-- .. and one that leads to a written page names that page's block
slot_placed : (d : View) (placed : List Placed) (p : List ℕ) (s : ℕ) (page : PageValue) (b : ℕ) → s < length page.refs → block_of placed (p ++ s ∷ []) ≡ Some b
    → slot_block (flushed_page d placed p page) s ≡ Some b
slot_placed d placed p s page b small at =
    let got = get_some page.refs s small in
    ap named (slots_get d placed p 0 page.refs s s (omega arith))
    ∙ ap (λ (o : Option ℕ). named (option_map (flushed_slot (d (p ++ s ∷ [])) o) (slice_get page.refs s))) at
    ∙ ap (λ (o : Option ReferenceValue). named (option_map (flushed_slot (d (p ++ s ∷ [])) (Some b)) o)) got.1

-- ---- the written paths

-- a path has a block where it is the path of a place
pub block_told : (placed : List Placed) (q : List ℕ) → is_some (block_of placed q) ≡ is_one_of (map (λ (x : Placed). x.path) placed) q
block_told [] q = refl
block_told (x ∷ placed) q = by (same q x.path) (block_told placed q)
  where
    by : (b : Bool) → is_some (block_of placed q) ≡ is_one_of (map (λ (x : Placed). x.path) placed) q
        → is_some (cond b (Some x.block) (block_of placed q)) ≡ (b || is_one_of (map (λ (x : Placed). x.path) placed) q)
    by true rest = refl
    by false rest = rest

fresh_written : (fresh : List (List ℕ)) (q : List ℕ) → is_one_of fresh q ≡ true → is_one_of (written_paths fresh) q ≡ true
fresh_written [] q h = never h refl
fresh_written (p ∷ fresh) q h = h

pub written_told : (fresh : List (List ℕ)) (q : List ℕ) → is_one_of (written_paths fresh) q ≡ true → (is_one_of fresh q ≡ true) ⊎ (q ≡ [])
written_told [] q h = inr (same_is q [] (by (same q []) h))
  where
    by : (b : Bool) → (b || false) ≡ true → b ≡ true
    by true e = refl
    by false e = e
written_told (p ∷ fresh) q h = inl h

some_of : {A : Type 0} (o : Option A) → is_some o ≡ true → (x : A) × (o ≡ Some x)
some_of None h = never h refl
some_of (Some x) h = (x, refl)

none_of : {A : Type 0} (o : Option A) → is_some o ≡ false → o ≡ None
none_of None h = refl
none_of (Some x) h = never refl h

pub copied_at : (d : View) (q : List ℕ) → live (copies d) q ≡ true → (c : Copied) × (d q ≡ Some c) × LiveAt (copies d) q (copy_of c)
copied_at d q here = by (d q) refl here
  where
    by : (o : Option Copied) → d q ≡ o → option_map_or (λ (c : PageCopy). c.live) (option_map copy_of o) false ≡ true
        → (c : Copied) × (d q ≡ Some c) × LiveAt (copies d) q (copy_of c)
    by None e h = never h refl
    by (Some c) e h = (c, e, record { is = ap (option_map copy_of) e; live = h })

number_is : (x y : ℕ) → Some x ≡ Some y → x ≡ y
number_is x y e = ap (λ (o : Option ℕ). option_map_or (λ (c : ℕ). c) o x) e

-- ---- blocks

abbrev below : Store → List ℕ → Option ℕ → Option ℕ
below store l o = option_and_then (λ (x : ℕ). block_at store x l) o

abbrev slot_in : ℕ → Option PageValue → Option ℕ
slot_in s o = option_and_then (λ (page : PageValue). slot_block page s) o

-- below a block of the base nothing changed
same_below : (old new : Store) (root : ℕ) → ((p : List ℕ) (b : ℕ) → block_at old root p ≡ Some b → new b ≡ old b)
    → (l q : List ℕ) (b : ℕ) → block_at old root q ≡ Some b → block_at new b l ≡ block_at old b l
same_below old new root kept [] q b at = refl
same_below old new root kept (s ∷ l) q b at =
    ap (λ (o : Option PageValue). below new l (slot_in s o)) (kept q b at) ∙ by (same_below old new root kept l (q ++ s ∷ [])) (slot_in s (old b)) refl
  where
    child : block_at old root (q ++ s ∷ []) ≡ slot_in s (old b)
    child = block_at_append old root q (s ∷ []) ∙ ap (λ (o : Option ℕ). below old (s ∷ []) o) at ∙ last (slot_in s (old b))
      where
        last : (o : Option ℕ) → option_and_then (λ (x : ℕ). Some x) o ≡ o
        last None = refl
        last (Some x) = refl

    by : ((x : ℕ) → block_at old root (q ++ s ∷ []) ≡ Some x → block_at new x l ≡ block_at old x l)
        → (o : Option ℕ) → slot_in s (old b) ≡ o → below new l o ≡ below old l o
    by rest None e = refl
    by rest (Some x) e = rest x (child ∙ e)

-- ---- the walk

module _ (d : View) (placed : List Placed) (old new : Store) (root top : ℕ) (a : Tree) (steps : List Step) (was : StandsFor old root a steps d)
    (plan : IsPlaced d placed) (flushed : Flushed d placed root old new) (whole : AreWhole new) where
  abbrev pub t : Tree
  t = tree_after a steps

  abbrev pub w : List Place
  w = all_writes a steps

  abbrev pub h : Copies
  h = copies d

  shape : Shape old root a t w h
  shape = was.stands.shape

  is_written : (q : List ℕ) → is_some (block_of placed q) ≡ is_one_of (written_paths plan.fresh) q
  is_written q = block_told placed q ∙ ap (λ (ps : List (List ℕ)). is_one_of ps q) plan.paths

  live_placed : (q : List ℕ) (b : ℕ) → block_of placed q ≡ Some b → live h q ≡ true
  live_placed q b at = elim (written_told plan.fresh q (sym (is_written q) ∙ ap is_some at)) [
    | inl e ↦ ((plan.are.each q).0 e).0
    | inr e ↦ ap (live h) e ∙ shape.top
  ]

  -- at or below a live page that is not written, the update wrote nothing
  unwritten : (q : List ℕ) → live h q ≡ true → block_of placed q ≡ None → touches w q ≡ false
  unwritten q here none = false_if (touches w q) (λ e.
      sym (ap is_some none) ∙ is_written q
      ∙ fresh_written plan.fresh q (
      fresh_told old root a steps d plan.fresh plan.are was q
      ∙ ap (λ b. b && has t q) e
      ∙ has_live old root a t w h shape q here))

  -- what is known of the page at x, and of the block that was found for it
  abbrev Known : List ℕ → Option ℕ → Type 0
  Known x o =
      ((b : ℕ) × (block_of placed x ≡ Some b) × (o ≡ Some b))
      ⊎ (((o ≡ None) × (finite.get t x ≡ None)) ⊎ ((o ≡ block_at old root x) × (finite.get t x ≡ finite.get a x)))

  -- below a page of the base that the update left alone
  shared : (l v x : List ℕ) (b : ℕ) → v ++ l ≡ x → block_at old root v ≡ Some b → finite.get t (v ++ l) ≡ finite.get a (v ++ l) → Known x (block_at new b l)
  shared l v x b is at same_there =
      let F : List ℕ → Type 0 = λ y. finite.get t y ≡ finite.get a y in
      inr (inr (
        same_below old new root flushed.kept l v b at
            ∙ ap (below old l) (sym at)
            ∙ sym (block_at_append old root v l)
            ∙ ap (block_at old root) is,
        subst F is same_there,
      ))

  -- from a written page into a slot that leads to none
  leave : (l p x : List ℕ) (s : ℕ) (c : PageCopy) → LiveAt h p c → (p ++ s ∷ []) ++ l ≡ x → block_of placed (p ++ s ∷ []) ≡ None
      → (alive : Bool) (o : Option ℕ) → live h (p ++ s ∷ []) ≡ alive → slot_block c.page s ≡ o → Known x (below new l o)
  leave l p x s c at is none true None e g =
      never (among_touches w (p ++ s ∷ []) (p ++ s ∷ [], Data) refl (slot_case old root a t w h shape p s c at true None e g)) (unwritten (p ++ s ∷ []) e none)
  leave l p x s c at is none false None e g =
      inr (inl (
        refl,
        absent t x (gone_below old root a t w h shape (p ++ s ∷ []) x (ap (is_prefix (p ++ s ∷ [])) (sym is) ∙ prefix_append (p ++ s ∷ []) l)
            (slot_case old root a t w h shape p s c at false None e g).0),
      ))
  leave l p x s c at is none true (Some b) e g =
      let in_base : block_at old root (p ++ s ∷ []) ≡ Some b = slot_case old root a t w h shape p s c at true (Some b) e g in
      let same_there = (untouched_run a steps (p ++ s ∷ []) (has_live old root a t w h shape (p ++ s ∷ []) e) (unwritten (p ++ s ∷ []) e none)).1 l in
      shared l (p ++ s ∷ []) x b is in_base same_there
  leave l p x s c at is none false (Some b) e g =
      let base = (slot_case old root a t w h shape p s c at false (Some b) e g).0 in
      shared l (p ++ s ∷ []) x b is base.block (base.as_base l)

  slots_small : (p : List ℕ) (s b : ℕ) → block_of placed (p ++ s ∷ []) ≡ Some b → s < 16
  slots_small p s b at =
      let c = at_of h (p ++ s ∷ []) (live_placed (p ++ s ∷ []) b at) in
      let F : List ℕ → Type 0 = λ y. are_slots y ≡ true in
      slot_small p s [] (subst F (sym (at_root (p ++ s ∷ []))) (shape.slots (p ++ s ∷ []) c.0 c.1.is))

  sixteen : (p : List ℕ) (b : ℕ) (c : Copied) → block_of placed p ≡ Some b → d p ≡ Some c → length c.page.refs ≡ 16
  sixteen p b c at here = sym (slots_length d placed p 0 c.page.refs) ∙ whole b (flushed_page d placed p c.page) (flushed.page p b c at here)

  -- from a written page down
  walk : (l p x : List ℕ) (b : ℕ) → p ++ l ≡ x → block_of placed p ≡ Some b → Known x (block_at new b l)
  walk [] p x b is at = inl (b, ap (block_of placed) (sym is ∙ at_root p) ∙ at, refl)
  walk (s ∷ l) p x b is at =
      let copy = copied_at d p (live_placed p b at) in
      let K : Option ℕ → Type 0 = Known x in
      let to_slot : block_at new b (s ∷ l) ≡ below new l (slot_block (flushed_page d placed p copy.0.page) s)
      = ap (λ (o : Option PageValue). below new l (slot_in s o)) (flushed.page p b copy.0 at copy.1) in
      subst K (sym to_slot) (by (λ y. walk l (p ++ s ∷ []) x y (push p s l ∙ is)) copy.0 copy.1 copy.2 (block_of placed (p ++ s ∷ [])) refl)
    where
      by : ((y : ℕ) → block_of placed (p ++ s ∷ []) ≡ Some y → Known x (block_at new y l))
          → (c : Copied) → d p ≡ Some c → LiveAt h p (copy_of c) → (o : Option ℕ) → block_of placed (p ++ s ∷ []) ≡ o
          → Known x (below new l (slot_block (flushed_page d placed p c.page) s))
      by rest c here live_here None e =
          let K : Option ℕ → Type 0 = λ o. Known x (below new l o) in
          subst K (sym (slot_kept d placed p s c.page e))
          (leave l p x s (copy_of c) live_here (push p s l ∙ is) e (live h (p ++ s ∷ [])) (slot_block c.page s) refl refl)
      by rest c here live_here (Some y) e =
          let K : Option ℕ → Type 0 = λ o. Known x (below new l o) in
          let L : ℕ → Type 0 = λ n. s < n in
          subst K (sym (slot_placed d placed p s c.page y (subst L (sym (sixteen p b c at here)) (slots_small p s y e)) e))
          (rest y e)

  module _ (at_top : block_of placed [] ≡ Some top) where
    known : (x : List ℕ) → Known x (block_at new top x)
    known x = walk x [] x top refl at_top

    pub holds_after : Holds new top t
    holds_after = record {
      page = λ p b at. page_at p b at (known p);
      gone = λ p at. gone_at p at (known p);
    }
      where
        page_at : (p : List ℕ) (b : ℕ) → block_at new top p ≡ Some b → Known p (block_at new top p)
            → (page : PageValue) × (new b ≡ Some page) × (finite.get t p ≡ Some page.bytes) × (page.level ≡ length p)
        page_at p b at (inl (x, mine, found)) =
            let is : x ≡ b = number_is x b (sym found ∙ at) in
            let copy = copied_at d p (live_placed p x mine) in (
              flushed_page d placed p copy.0.page,
              ap new (sym is) ∙ flushed.page p x copy.0 mine copy.1,
              shape.data_is p (copy_of copy.0) copy.2,
              refl,
            )
        page_at p b at (inr (inl (none, gone))) = absurd (true≢false (ap is_some (sym at ∙ none)))
        page_at p b at (inr (inr (found, same_there))) =
            let in_base : block_at old root p ≡ Some b = sym found ∙ at in
            let held = was.base.page p b in_base in
            (held.0, flushed.kept p b in_base ∙ held.1, same_there ∙ held.2, held.3)

        gone_at : (p : List ℕ) → block_at new top p ≡ None → Known p (block_at new top p) → finite.get t p ≡ None
        gone_at p at (inl (x, mine, found)) = absurd (true≢false (ap is_some (sym found ∙ at)))
        gone_at p at (inr (inl (none, gone))) = gone
        gone_at p at (inr (inr (found, same_there))) = same_there ∙ was.base.gone p (sym found ∙ at)

    pub shares_after : SharesRest placed old root new top t
    shares_after p there none = by (known p)
      where
        by : Known p (block_at new top p) → block_at new top p ≡ block_at old root p
        by (inl (x, mine, found)) = absurd (true≢false (ap is_some (sym mine ∙ none)))
        by (inr (inl (gone, absent_there))) = never there (ap is_some absent_there)
        by (inr (inr (found, same_there))) = found

pub flushes : FlushLaw
flushes d placed old new root top a steps was plan flushed whole at_top =
    (holds_after d placed old new root top a steps was plan flushed whole at_top, shares_after d placed old new root top a steps was plan flushed whole at_top)
