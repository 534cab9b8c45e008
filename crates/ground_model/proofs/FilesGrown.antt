-- A commit of any number of files: the versions that are found after it, and what is known of them.
use Rattle.std.proofs.Common.{◌≡◌, ◌≢◌, ◌⊎◌, inl, inr, ℕ, zero, suc, ◌+◌, ◌-◌, ◌≤◌, List, [], ◌∷◌, ◌++◌, map, length, Some, Contains, refl, sym, ap, ◌∙◌, subst, arith, slice_get}
use Rattle.page_codec.specs.Values.{VersionValue}
use Rattle.service_model.specs.Entries.{news_by, next_version}
use Rattle.service_model.specs.Standing.{Made, Work, serial_of}
use Rattle.service_model.proofs.Members.{at_place, from_place, from_mapped, front_or_rest, in_front, in_rest, same_list, same_member}
use Rattle.store_model.specs.Changes.{version_in_block}
use Rattle.store_model.specs.Found.{version_in}
use Rattle.store_model.specs.Laid.{LaidFile, LaidVersion, Node, page_in}
use Rattle.store_model.specs.Laws.{pages_of}
use Rattle.store_model.proofs.Edits.{some_is, none_some}
use Rattle.ground_model.specs.Leaves.{IsThereAgain, KeepsVersions}
use Rattle.ground_model.specs.Scenes.{Scene, HasVersion, IsAsMade, AreAsMade, IsMadeOf, AreMadeOf, IsShared}
use Rattle.ground_model.proofs.Committed.{WasThere}
use Rattle.ground_model.proofs.Grown.{IsGrown, WasAt, next_or_was, next_or_were, still_at}
use Rattle.ground_model.proofs.MadeOf.{HasTop, made_of_stays}

same_or_not : (m n : ℕ) → (m ≡ n) ⊎ (m ≢ n)
same_or_not m n = grind arith

-- a file of a commit: the part of the update, the last version before it and the new one
pub record Item : Type 0 where
  pub work : Work
  pub last : LaidVersion
  pub next : LaidVersion

-- The file has the new version after the commit, which is as the update made it.
pub record IsItem (old new : Scene) (it : Item) : Type 0 where
  pub counts : 1 ≤ it.work.object
  pub file : LaidFile
  pub listed : slice_get old.store.files (it.work.object - 1) ≡ Some file
  pub now : LaidFile
  pub now_listed : slice_get new.store.files (it.work.object - 1) ≡ Some now
  pub grown : IsGrown file now it.last it.next
  pub serial : it.next.serial ≡ serial_of old.standing.state it.work.object + 1
  pub version_is : version_in it.next ≡ next_version it.work.steps (version_in it.last)
  pub made : IsAsMade (news_by old.standing.state it.work) it.next
  pub walked : IsMadeOf old.content (news_by old.standing.state it.work) it.last.block it.next.block

-- an object, which counts from 1, is none of these
abbrev pub IsBesides : List Item → ℕ → Type 0
IsBesides items object = (i : ℕ) (it : Item) → slice_get items i ≡ Some it → it.work.object ≢ object

-- These files have a version more, and no others; it is known which update made it; and every block shows the page that it showed.
pub record Grows (old new : Scene) (items : List Item) : Type 0 where
  pub each : (i : ℕ) (it : Item) → slice_get items i ≡ Some it → IsItem old new it
  pub differ : (i j : ℕ) (x y : Item) → slice_get items i ≡ Some x → slice_get items j ≡ Some y → x.work.object ≡ y.work.object → i ≡ j
  pub beside : (o : ℕ) → IsBesides items (suc o) → slice_get new.store.files o ≡ slice_get old.store.files o
  pub made : new.standing.made ≡ old.standing.made ++ map (λ (it : Item). news_by old.standing.state it.work) items
  pub pages : (n : ℕ) → pages_of new.content n ≡ pages_of old.content n
  pub tops : (root : ℕ) (page : VersionValue) → version_in_block old.content root ≡ Some page → HasTop new.content root page
  pub low : (m : Made) → Contains old.standing.made m → m.serial ≤ serial_of old.standing.state m.object
  pub lows : (object : ℕ) (v : LaidVersion) → HasVersion old.store object v → v.serial ≤ serial_of old.standing.state object

-- the item of an object, where it is one of these
pub record IsOf (items : List Item) (object : ℕ) : Type 0 where
  pub place : ℕ
  pub item : Item
  pub at : slice_get items place ≡ Some item
  pub object_is : item.work.object ≡ object

pub find_item : (items : List Item) (object : ℕ) → IsOf items object ⊎ IsBesides items object
find_item [] object = inr (λ i it at. none_some at)
find_item (x ∷ items) object = by (same_or_not x.work.object object) (find_item items object)
  where
    by : (x.work.object ≡ object) ⊎ (x.work.object ≢ object) → IsOf items object ⊎ IsBesides items object → IsOf (x ∷ items) object ⊎ IsBesides (x ∷ items) object
    by (inl e) found = inl (record { place = zero; item = x; at = refl; object_is = e })
    by (inr ne) (inl f) = inl (record { place = suc f.place; item = f.item; at = f.at; object_is = f.object_is })
    by (inr ne) (inr none) = inr each
      where
        each : (i : ℕ) (it : Item) → slice_get (x ∷ items) i ≡ Some it → it.work.object ≢ object
        each zero it at e = (let same : x ≡ it = some_is at in ne (ap (λ (y : Item). y.work.object) same ∙ e))
        each (suc i) it at e = none i it at e

pub in_either : {X : Type 0} (xs ys : List X) (x : X) → Contains (xs ++ ys) x → Contains xs x ⊎ Contains ys x
in_either [] ys x c = inr c
in_either {X} (z ∷ xs) ys x c = by (front_or_rest z (xs ++ ys) x c) (in_either xs ys x)
  where
    by : (z ≡ x) ⊎ Contains (xs ++ ys) x → (Contains (xs ++ ys) x → Contains xs x ⊎ Contains ys x) → Contains (z ∷ xs) x ⊎ Contains ys x
    by (inl e) rest = inl (same_member (z ∷ xs) z x e (in_front z xs))
    by (inr d) rest = elim (rest d) [ inl a ↦ inl (in_rest z xs x a) | inr b ↦ inr b ]

module _ (old new : Scene) (items : List Item) (shared : IsShared old) (g : Grows old new items) where
  -- one of the updates that were committed
  record IsNews (m : Made) : Type 0 where
    place : ℕ
    item : Item
    at : slice_get items place ≡ Some item
    is : m ≡ news_by old.standing.state item.work

  known : (m : Made) → Contains new.standing.made m → Contains old.standing.made m ⊎ IsNews m
  known m c =
      elim (in_either old.standing.made (map (λ (it : Item). news_by old.standing.state it.work) items) m
      (same_list (old.standing.made ++ map (λ (it : Item). news_by old.standing.state it.work) items) new.standing.made m (sym g.made) c)) [
        | inl was ↦ inl was
        | inr news ↦ (let f = from_mapped (λ (it : Item). news_by old.standing.state it.work) items m news in
            inr (record { place = f.1.0; item = f.0; at = at_place items f.0 f.1; is = sym f.2 }))
      ]

  same_item : (i j : ℕ) (x y : Item) → slice_get items i ≡ Some x → slice_get items j ≡ Some y → x.work.object ≡ y.work.object → x ≡ y
  same_item i j x y at to e = some_is (sym at ∙ ap (slice_get items) (g.differ i j x y at to e) ∙ to)

  -- an object of which this is the news is no other one
  not_beside : (m : Made) (object : ℕ) → m.object ≡ object → IsNews m → IsBesides items object → ⊥
  not_beside m object e n none = none n.place n.item n.at (ap (λ (x : Made). x.object) (sym n.is) ∙ e)

  -- its serial comes after the last one of before
  news_serial : (m : Made) → (n : IsNews m) → (m.serial ≡ serial_of old.standing.state m.object + 1) × (m.object ≡ n.item.work.object)
  news_serial m n =
      let object : m.object ≡ n.item.work.object = ap (λ (x : Made). x.object) n.is in
      (ap (λ (x : Made). x.serial) n.is ∙ ap (λ o. serial_of old.standing.state o + 1) (sym object), object)

  -- a new version of an item
  record IsNewOf (object : ℕ) (v : LaidVersion) : Type 0 where
    of : IsOf items object
    is : v ≡ of.item.next

  back : (object : ℕ) → 1 ≤ object → suc (object - 1) ≡ object
  back object low = omega (arith, low)

  besides_at : (object : ℕ) → 1 ≤ object → IsBesides items object → slice_get new.store.files (object - 1) ≡ slice_get old.store.files (object - 1)
  besides_at object low none = g.beside (object - 1) (λ i it at e. none i it at (e ∙ back object low))

  file_is : (object : ℕ) (f : IsOf items object) (file : LaidFile) → slice_get new.store.files (object - 1) ≡ Some file → (g.each f.place f.item f.at).now ≡ file
  file_is object f file listed =
      some_is (sym (g.each f.place f.item f.at).now_listed ∙ ap (λ n. slice_get new.store.files (n - 1)) f.object_is ∙ listed)

  version_now : (object : ℕ) (v : LaidVersion) (has : HasVersion new.store object v) → IsNewOf object v ⊎ WasThere old.store object has.place v
  version_now object v has = by (find_item items object)
    where
      of : (f : IsOf items object) → ((v ≡ f.item.next) × (has.place ≡ length (g.each f.place f.item f.at).file.versions)) ⊎ WasAt (g.each f.place f.item f.at).file has.place v
          → IsNewOf object v ⊎ WasThere old.store object has.place v
      of f (inl (e, p)) = inl (record { of = f; is = e })
      of f (inr w) = inr (record {
        was = w.was;
        has = record {
          file = (g.each f.place f.item f.at).file;
          place = has.place;
          counts = has.counts;
          listed = ap (λ n. slice_get old.store.files (n - 1)) (sym f.object_is) ∙ (g.each f.place f.item f.at).listed;
          kept = w.at;
        };
        place_is = refl;
        serial = w.serial;
        nodes = w.nodes;
      })

      by : IsOf items object ⊎ IsBesides items object → IsNewOf object v ⊎ WasThere old.store object has.place v
      by (inl f) =
          let x : IsItem old new f.item = g.each f.place f.item f.at in
          of f (next_or_was x.file x.now f.item.last f.item.next x.grown has.place v
          (ap (λ (y : LaidFile). slice_get y.versions has.place) (file_is object f has.file has.listed) ∙ has.kept))
      by (inr none) = inr (record {
        was = v;
        has = record { file = has.file; place = has.place; counts = has.counts; listed = sym (besides_at object has.counts none) ∙ has.listed; kept = has.kept };
        place_is = refl;
        serial = refl;
        nodes = refl;
      })

  -- ---- versions are as they were made

  pub as_made_then : AreAsMade new
  as_made_then i m v at has serial late = by (known m (from_place new.standing.made m i at)) (version_now m.object v has)
    where
      by : Contains old.standing.made m ⊎ IsNews m → IsNewOf m.object v ⊎ WasThere old.store m.object has.place v → IsAsMade m v
      by (inr n) (inl f) =
          let F : Made → LaidVersion → Type 0 = λ x y. IsAsMade x y in
          let object = (news_serial m n).1 in
          let same : f.of.item ≡ n.item = same_item f.of.place n.place f.of.item n.item f.of.at n.at (f.of.object_is ∙ object) in
          let next : n.item.next ≡ v = ap (λ (x : Item). x.next) (sym same) ∙ sym f.is in
          subst (λ x. F x v) (sym n.is) (subst (λ y. F (news_by old.standing.state n.item.work) y) next (g.each n.place n.item n.at).made)
      by (inr n) (inr w) = absurd (let
          below : w.was.serial ≤ serial_of old.standing.state m.object = g.lows m.object w.was w.has in
          let one = (news_serial m n).0 in
          let two = w.serial in
          omega (arith, below, one, two, serial))
      by (inl was) (inl f) = absurd (let
          below : m.serial ≤ serial_of old.standing.state m.object = g.low m was in
          let one : v.serial ≡ serial_of old.standing.state m.object + 1 =
          ap (λ (x : LaidVersion). x.serial) f.is ∙ (g.each f.of.place f.of.item f.of.at).serial ∙ ap (λ o. serial_of old.standing.state o + 1) f.of.object_is in
          omega (arith, below, one, serial))
      by (inl was) (inr w) =
          let old_one : IsAsMade m w.was = shared.made was.0 m w.was (at_place old.standing.made m was) w.has (sym w.serial ∙ serial) (subst (λ p. 1 ≤ p) (sym w.place_is) late) in
          record {
            tree = ap (λ (ns : List Node). (version_in (let x : LaidVersion = record v { nodes = ns } in x)).tree) w.nodes ∙ old_one.tree;
            marks = λ path node here own. old_one.marks path node (ap (page_in path) (sym w.nodes) ∙ here) own;
          }

  -- ---- walks

  made_still : (m : Made) (base root : ℕ) → IsMadeOf old.content m base root → IsMadeOf new.content m base root
  made_still m base root h =
      made_of_stays old.content new.content m base root (λ p n at. g.pages n) (λ p n at. g.pages n) (g.tops root) h

  pub made_of_then : AreMadeOf new
  made_of_then i place m file before version at low listed first second serial = by (find_item items m.object) (known m (from_place new.standing.made m i at))
    where
      of : (f : IsOf items m.object) → Contains old.standing.made m ⊎ IsNews m
          → ((version ≡ f.item.next) × (before.block ≡ f.item.last.block))
          ⊎ (WasAt (g.each f.place f.item f.at).file place before × WasAt (g.each f.place f.item f.at).file (suc place) version)
          → IsMadeOf new.content m before.block version.block
      of f (inr n) (inl (v, b)) =
          let same : n.item ≡ f.item = same_item n.place f.place n.item f.item n.at f.at (sym (news_serial m n).1 ∙ sym f.object_is) in
          let news : news_by old.standing.state f.item.work ≡ m = ap (λ (x : Item). news_by old.standing.state x.work) (sym same) ∙ sym n.is in
          subst (λ x. IsMadeOf new.content x before.block version.block) news
          (subst (λ r. IsMadeOf new.content (news_by old.standing.state f.item.work) r version.block) (sym b)
          (subst (λ r. IsMadeOf new.content (news_by old.standing.state f.item.work) f.item.last.block r) (ap (λ (x : LaidVersion). x.block) (sym v))
          (made_still (news_by old.standing.state f.item.work) f.item.last.block f.item.next.block (g.each f.place f.item f.at).walked)))
      of f (inr n) (inr (w, x)) = absurd (let
          below : x.was.serial ≤ serial_of old.standing.state m.object =
          g.lows m.object x.was (record {
            file = (g.each f.place f.item f.at).file;
            place = suc place;
            counts = low;
            listed = ap (λ n. slice_get old.store.files (n - 1)) (sym f.object_is) ∙ (g.each f.place f.item f.at).listed;
            kept = x.at;
          }) in
          let one = (news_serial m n).0 in
          let two = x.serial in
          omega (arith, below, one, two, serial))
      of f (inl was) (inl (v, b)) = absurd (let
          below : m.serial ≤ serial_of old.standing.state m.object = g.low m was in
          let one : version.serial ≡ serial_of old.standing.state m.object + 1 =
          ap (λ (x : LaidVersion). x.serial) v ∙ (g.each f.place f.item f.at).serial ∙ ap (λ o. serial_of old.standing.state o + 1) f.object_is in
          omega (arith, below, one, serial))
      of f (inl was) (inr (w, x)) =
          let old_one : IsMadeOf old.content m w.was.block x.was.block =
          shared.made_of was.0 place m (g.each f.place f.item f.at).file w.was x.was (at_place old.standing.made m was) low
          (ap (λ n. slice_get old.store.files (n - 1)) (sym f.object_is) ∙ (g.each f.place f.item f.at).listed) w.at x.at (sym x.serial ∙ serial) in
          subst (λ n. IsMadeOf new.content m n version.block) (sym w.block)
          (subst (λ n. IsMadeOf new.content m w.was.block n) (sym x.block) (made_still m w.was.block x.was.block old_one))

      by : IsOf items m.object ⊎ IsBesides items m.object → Contains old.standing.made m ⊎ IsNews m → IsMadeOf new.content m before.block version.block
      by (inl f) which =
          let x : IsItem old new f.item = g.each f.place f.item f.at in
          of f which (next_or_were x.file x.now f.item.last f.item.next x.grown place before version
          (ap (λ (y : LaidFile). slice_get y.versions place) (file_is m.object f file listed) ∙ first)
          (ap (λ (y : LaidFile). slice_get y.versions (suc place)) (file_is m.object f file listed) ∙ second))
      by (inr none) (inr n) = absurd (not_beside m m.object refl n none)
      by (inr none) (inl was) =
          made_still m before.block version.block
          (shared.made_of was.0 place m file before version (at_place old.standing.made m was) low (sym (besides_at m.object low none) ∙ listed) first second serial)

  -- ---- versions that were there

  pub versions_then : KeepsVersions old new
  versions_then object v has = by (find_item items object)
    where
      by : IsOf items object ⊎ IsBesides items object → IsThereAgain old new object v
      by (inl f) =
          let x : IsItem old new f.item = g.each f.place f.item f.at in
          let file : x.file ≡ has.file = some_is (sym x.listed ∙ ap (λ n. slice_get old.store.files (n - 1)) f.object_is ∙ has.listed) in
          let s = still_at x.file x.now f.item.last f.item.next x.grown has.place v (ap (λ (y : LaidFile). slice_get y.versions has.place) file ∙ has.kept) in
          record {
            again = s.0;
            is = record {
              file = x.now;
              place = has.place;
              counts = has.counts;
              listed = ap (λ n. slice_get new.store.files (n - 1)) (sym f.object_is) ∙ x.now_listed;
              kept = s.1;
            };
            serial = s.2;
            block = s.4;
            tree = ap (λ (ns : List Node). (version_in (let y : LaidVersion = record (s.0) { nodes = ns } in y)).tree) s.3;
            pages = λ p n at. g.pages n;
          }
      by (inr none) = record {
        again = v;
        is = record { file = has.file; place = has.place; counts = has.counts; listed = besides_at object has.counts none ∙ has.listed; kept = has.kept };
        serial = refl;
        block = refl;
        tree = refl;
        pages = λ p n at. g.pages n;
      }

  -- under the serials that were there nothing new was made
  pub made_before : (object : ℕ) (v : LaidVersion) → HasVersion old.store object v → (m : Made) → Contains new.standing.made m → m.object ≡ object → m.serial ≤ v.serial
      → Contains old.standing.made m
  made_before object v has m c e less = by (known m c)
    where
      by : Contains old.standing.made m ⊎ IsNews m → Contains old.standing.made m
      by (inl was) = was
      by (inr n) = absurd (let
          below : v.serial ≤ serial_of old.standing.state object = g.lows object v has in
          let one : m.serial ≡ serial_of old.standing.state object + 1 = (news_serial m n).0 ∙ ap (λ o. serial_of old.standing.state o + 1) e in
          omega (arith, below, one, less))
