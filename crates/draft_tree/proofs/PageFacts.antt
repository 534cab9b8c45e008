-- What a change of the entries does to the pages that they show.
use Rattle.std.proofs.Common.{◌≡◌, ℕ, ◌<◌, Bool, true, false, cond, List, [], ◌∷◌, ◌++◌, map, ◌⊎◌, inl, inr, refl, sym, ap, subst, ◌∙◌, Option, Some, None, option_map, is_some, length, arith, length-append}
use Rattle.std.specs.Option.{option_map_or}
use Rattle.std.specs.Map.{keys_of}
use Rattle.std.specs.Map.Calls.{RetainsPairs}
use Rattle.afs_base.specs.Path.{is_prefix}
use Rattle.tree_model.proofs.Paths.{told, never, same_is}
use Rattle.page_places.specs.Places.{same}
use Rattle.draft_model.specs.Views.{Copied, View, PageCopy, copy_of, copies, live}
use Rattle.draft_model.specs.Entries.{Entry, shown}
use Rattle.draft_model.proofs.Entries.{same_sym}
use Rattle.draft_tree.specs.Marking.{taken_away}
use Rattle.draft_tree.specs.Pages.{IsShort, changed, put, cut_below}

-- ---- one path

-- a page was written over at q
pub changed_some : (d : View) (q p : List ℕ) (f : Copied → Copied) (c w : Copied) → d q ≡ Some c → w ≡ f c
    → cond (same q p) (Some w) (d p) ≡ changed d q f p
changed_some d q p f c w at is = by (told (same q p))
  where
    by : (same q p ≡ true) ⊎ (same q p ≡ false) → cond (same q p) (Some w) (d p) ≡ changed d q f p
    by (inl e) =
        ap (λ b. cond b (Some w) (d p)) e
        ∙ ap (λ (x : Copied). Some x) is
        ∙ ap (option_map f) (sym at ∙ ap d (same_is q p e))
        ∙ sym (ap (λ b. cond b (option_map f (d p)) (d p)) (same_sym p q ∙ e))
    by (inr e) = ap (λ b. cond b (Some w) (d p)) e ∙ sym (ap (λ b. cond b (option_map f (d p)) (d p)) (same_sym p q ∙ e))

-- no page stands at q
pub changed_none : (d : View) (q p : List ℕ) (f : Copied → Copied) → d q ≡ None → d p ≡ changed d q f p
changed_none d q p f at = by (told (same p q))
  where
    by : (same p q ≡ true) ⊎ (same p q ≡ false) → d p ≡ changed d q f p
    by (inl e) =
        ap d (same_is p q e) ∙ at ∙ ap (option_map f) (sym at ∙ ap d (sym (same_is p q e)))
        ∙ sym (ap (λ b. cond b (option_map f (d p)) (d p)) e)
    by (inr e) = sym (ap (λ b. cond b (option_map f (d p)) (d p)) e)

-- a page was put at q
pub put_is : (d : View) (q p : List ℕ) (c : Copied) → cond (same q p) (Some c) (d p) ≡ put d q c p
put_is d q p c = ap (λ b. cond b (Some c) (d p)) (same_sym q p)

-- ---- short paths

some_map : (f : Copied → Copied) (o : Option Copied) → is_some (option_map f o) ≡ is_some o
some_map f None = refl
some_map f (Some c) = refl

pub short_changed : (old new : List Entry) (q : List ℕ) (f : Copied → Copied) → ((p : List ℕ) → shown new p ≡ changed (shown old) q f p) → IsShort old → IsShort new
short_changed old new q f is short p h = ap is_some (is p) ∙ by (same p q) ∙ short p h
  where
    by : (b : Bool) → is_some (cond b (option_map f (shown old p)) (shown old p)) ≡ is_some (shown old p)
    by true = some_map f (shown old p)
    by false = refl

pub short_put : (old new : List Entry) (q : List ℕ) (c : Copied) → ((n : ℕ) → 7 < n → length q ≡ n → false ≡ true) → ((p : List ℕ) → shown new p ≡ put (shown old) q c p) → IsShort old → IsShort new
short_put old new q c few is short p h = ap is_some (is p) ∙ by (told (same p q)) ∙ short p h
  where
    by : (same p q ≡ true) ⊎ (same p q ≡ false) → is_some (cond (same p q) (Some c) (shown old p)) ≡ is_some (shown old p)
    by (inl e) = never (few (length p) h (ap length (sym (same_is p q e)))) refl
    by (inr e) = ap (λ b. is_some (cond b (Some c) (shown old p))) e

-- no page is live below one at seven slots
pub short_dead : (es : List Entry) (p : List ℕ) (s : ℕ) → IsShort es → length p ≡ 7 → live (copies (shown es)) (p ++ s ∷ []) ≡ false
short_dead es p s short deep = by (shown es (p ++ s ∷ [])) refl
  where
    longer : 7 < length (p ++ s ∷ [])
    longer = omega (arith, length-append p (s ∷ []), deep)

    by : (o : Option Copied) → shown es (p ++ s ∷ []) ≡ o → live (copies (shown es)) (p ++ s ∷ []) ≡ false
    by None e = ap (λ x. option_map_or (λ (c : PageCopy). c.live) (option_map copy_of x) false) e
    by (Some c) e = never (ap is_some e) (short (p ++ s ∷ []) longer)

pub short_cut : (old new : List Entry) (q : List ℕ) → ((p : List ℕ) → shown new p ≡ cut_below (shown old) q p) → IsShort old → IsShort new
short_cut old new q is short p h = ap is_some (is p) ∙ by (is_prefix q p) ∙ short p h
  where
    by : (b : Bool) → is_some (cond b (option_map taken_away (shown old p)) (shown old p)) ≡ is_some (shown old p)
    by true = some_map taken_away (shown old p)
    by false = refl

-- ---- each page

-- a closure that always answers `true` and writes g of each path and value, and stays as it was
pub map_pairs : {F K X : Type 0} (T : F → K → X → Bool → X → F → Type 0) (g : K → X → X) (f : F)
    → ((k : K) (v : X) (b : Bool) (w : X) (f' : F) → T f k v b w f' → (b ≡ true) × (w ≡ g k v) × (f' ≡ f))
    → (es kept : List (K × X)) → RetainsPairs T f es kept → kept ≡ map (λ e. (e.0, g e.0 e.1)) es
map_pairs T g f h [] kept r = r
map_pairs T g f h (e ∷ es) kept r =
    let a = h e.0 e.1 r.0 r.1 r.2 r.4 in
    let rest = map_pairs T g f h es r.3 (subst (λ u. RetainsPairs T u es r.3) a.2 r.5) in
    r.6 ∙ ap (λ b. cond b ((e.0, r.1) ∷ r.3) r.3) a.0 ∙ (λ i. (e.0, a.1 i) ∷ rest i)

pub keys_map : (g : List ℕ → Copied → Copied) (es : List Entry) → keys_of (map (λ e. (e.0, g e.0 e.1)) es) ≡ keys_of es
keys_map g [] = refl
keys_map g (e ∷ es) = ap (λ (ps : List (List ℕ)). e.0 ∷ ps) (keys_map g es)

pub shown_map : (g : List ℕ → Copied → Copied) (es : List Entry) (p : List ℕ) → shown (map (λ e. (e.0, g e.0 e.1)) es) p ≡ option_map (g p) (shown es p)
shown_map g [] p = refl
shown_map g (e ∷ es) p = by (told (same p e.0)) (shown_map g es p)
  where
    by : (same p e.0 ≡ true) ⊎ (same p e.0 ≡ false) → shown (map (λ e. (e.0, g e.0 e.1)) es) p ≡ option_map (g p) (shown es p)
        → cond (same p e.0) (Some (g e.0 e.1)) (shown (map (λ e. (e.0, g e.0 e.1)) es) p) ≡ option_map (g p) (cond (same p e.0) (Some e.1) (shown es p))
    by (inl h) rest =
        ap (λ b. cond b (Some (g e.0 e.1)) (shown (map (λ e. (e.0, g e.0 e.1)) es) p)) h
        ∙ ap (λ k. Some (g k e.1)) (sym (same_is p e.0 h))
        ∙ sym (ap (λ b. option_map (g p) (cond b (Some e.1) (shown es p))) h)
    by (inr h) rest =
        ap (λ b. cond b (Some (g e.0 e.1)) (shown (map (λ e. (e.0, g e.0 e.1)) es) p)) h
        ∙ rest
        ∙ sym (ap (λ b. option_map (g p) (cond b (Some e.1) (shown es p))) h)

pub cut_is : (d : View) (q p : List ℕ) → option_map (λ c. cond (is_prefix q p) (taken_away c) c) (d p) ≡ cut_below d q p
cut_is d q p = by (is_prefix q p) (d p)
  where
    by : (b : Bool) (o : Option Copied) → option_map (λ c. cond b (taken_away c) c) o ≡ cond b (option_map taken_away o) o
    by true o = refl
    by false None = refl
    by false (Some c) = refl
