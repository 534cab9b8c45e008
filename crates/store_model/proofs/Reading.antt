-- What a block that was read as a page or as a version page tells of the page that it holds.
use Rattle.std.proofs.Common.{◌≡◌, ℕ, suc, ◌==◌, Bool, true, false, not, cond, nat_eq, ◌||◌, List, [], ◌∷◌, map, Option, Some, None, option_map, Ok, refl, sym, ap, subst, ◌∙◌, true≢false, eqb-true, slice_index}
use Rattle.std.specs.List.{list_any}
use Rattle.std.specs.Option.{option_and_then}
use Rattle.page_codec.specs.declared.why.Why.{Why}
use Rattle.page_codec.specs.Values.{PageValue, VersionValue}
use Rattle.page_codec.specs.Reading.{slots, reference, frame_value, version_value}
use Rattle.page_codec.specs.Causes.{first_cause, cause_or, page_causes, version_causes, page_of, version_of, is_nonzero}
use Rattle.page_codec.specs.Facts.{PageFacts, VersionFacts}
use Rattle.page_codec.proofs.FactLaws.{PageFacts-none, VersionFacts-none}
use Rattle.page_places.specs.Places.{Store, block_at}
use Rattle.store_model.specs.Laws.{read_of, page_of_block, pages_of}
use Rattle.store_model.proofs.Finding.{named}

-- the page in a block, and that it names nothing where it is of level 7
pub record Reads (store : Store) (block : ℕ) (page : PageValue) : Type 0 where
  pub is : store block ≡ Some page
  pub leaf : page.level ≡ 7 → (s : ℕ) (r : List ℕ) → named store 0 page.refs s r ≡ None

pub record Uncaused {X : Type 0} (o : Option Why) (x y : X) : Type 0 where
  pub none : o ≡ None
  pub value : x ≡ y

pub uncaused : {X : Type 0} (o : Option Why) (x y : X) → cause_or o x ≡ Ok y → Uncaused o x y
uncaused None x y e = record { none = refl; value = cc }
uncaused (Some w) x y e = absurd cc

or_none_told : (a b : Bool) → (a || b) ≡ false → (a ≡ false) × (b ≡ false)
or_none_told true b h = absurd (true≢false h)
or_none_told false b h = (refl, h)

not_nonzero : (n : ℕ) → is_nonzero n ≡ false → n ≡ 0
not_nonzero n h = eqb-true n 0 (of (n == 0) h)
  where
    of : (b : Bool) → not b ≡ false → b ≡ true
    of true e = refl
    of false e = absurd (true≢false e)

zero_names : (n : ℕ) → n ≡ 0 → (reference n).block ≡ None
zero_names n e = ap (λ m. (reference m).block) e

cond_none : {X : Type 0} (b : Bool) (o : Option X) → o ≡ None → (y : Option X) → y ≡ None → cond b o y ≡ None
cond_none true o e y f = e
cond_none false o e y f = f

names_none : (store : Store) (slot : ℕ) (ns : List ℕ) (s : ℕ) (r : List ℕ) → list_any is_nonzero ns ≡ false → named store slot (map reference ns) s r ≡ None
names_none store slot [] s r h = refl
names_none store slot (n ∷ ns) s r h =
    let parts : (is_nonzero n ≡ false) × (list_any is_nonzero ns ≡ false) = or_none_told (is_nonzero n) (list_any is_nonzero ns) h in
    let here : option_and_then (λ m. block_at store m r) (reference n).block ≡ None =
    ap (option_and_then (λ m. block_at store m r)) (zero_names n (not_nonzero n parts.0)) in
    cond_none (nat_eq slot s) _ here _ (names_none store (suc slot) ns s r parts.1)

abbrev pub Content : Type 0
Content = ℕ → Option (List ℕ)

-- a frame of level 7 names nothing
leaf_frame : (store : Store) (b : List ℕ) → (slice_index b 2 ≡ 7 → list_any is_nonzero (slots b) ≡ false)
    → (frame_value b).level ≡ 7 → (s : ℕ) (r : List ℕ) → named store 0 (frame_value b).refs s r ≡ None
unfolding frame_value
leaf_frame store b leaf seven s r = names_none store 0 (slots b) s r (leaf seven)

frame_level : (b : List ℕ) → (frame_value b).level ≡ slice_index b 2
unfolding frame_value
frame_level b = refl

version_page : (b : List ℕ) → (version_value b).page ≡ frame_value b
unfolding version_value
version_page b = refl

pub reads_page : (content : Content) (block : ℕ) (bytes : List ℕ) (page : PageValue) → content block ≡ Some bytes → page_of bytes ≡ Ok page
    → Reads (pages_of content) block page
reads_page content block bytes page here e =
    let u : Uncaused (first_cause (page_causes bytes)) (frame_value bytes) page = uncaused (first_cause (page_causes bytes)) (frame_value bytes) page e in
    let facts : PageFacts bytes = PageFacts-none bytes u.none in
    let kind : (slice_index bytes 1 == 86) ≡ false = ap (λ k. k == 86) facts.kind in
    let held : page_of_block bytes ≡ Some page =
    ap (λ c. cond c (option_map (λ v. v.page) (read_of (version_of bytes))) (read_of (page_of bytes))) kind ∙ ap read_of e in
    let P : PageValue → Type 0 = λ p. p.level ≡ 7 → (s : ℕ) (r : List ℕ) → named (pages_of content) 0 p.refs s r ≡ None in
    record {
      is = ap (option_and_then page_of_block) here ∙ held;
      leaf = subst P u.value (leaf_frame (pages_of content) bytes facts.frame.leaf);
    }

pub record ReadsVersion (store : Store) (block : ℕ) (version : VersionValue) : Type 0 where
  pub page : Reads store block version.page
  pub level : version.page.level ≡ 0

pub reads_version : (content : Content) (block : ℕ) (bytes : List ℕ) (version : VersionValue) → content block ≡ Some bytes → version_of bytes ≡ Ok version
    → ReadsVersion (pages_of content) block version
reads_version content block bytes version here e =
    let u : Uncaused (first_cause (version_causes bytes)) (version_value bytes) version = uncaused (first_cause (version_causes bytes)) (version_value bytes) version e in
    let facts : VersionFacts bytes = VersionFacts-none bytes u.none in
    let kind : (slice_index bytes 1 == 86) ≡ true = ap (λ k. k == 86) facts.kind in
    let held : page_of_block bytes ≡ Some version.page =
    ap (λ c. cond c (option_map (λ v. v.page) (read_of (version_of bytes))) (read_of (page_of bytes))) kind
    ∙ ap (λ r. option_map (λ v. v.page) (read_of r)) e in
    let same : frame_value bytes ≡ version.page = sym (version_page bytes) ∙ ap (λ v. v.page) u.value in
    let P : PageValue → Type 0 = λ p. p.level ≡ 7 → (s : ℕ) (r : List ℕ) → named (pages_of content) 0 p.refs s r ≡ None in
    record {
      page = record {
        is = ap (option_and_then page_of_block) here ∙ held;
        leaf = subst P same (leaf_frame (pages_of content) bytes facts.frame.leaf);
      };
      level = ap (λ p. p.level) (sym same) ∙ frame_level bytes ∙ facts.top;
    }
