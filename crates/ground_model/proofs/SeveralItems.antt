-- Each file of an update of several files has its new version after the one write that commits them.
use Rattle.std.proofs.Common.{◌≡◌, inl, inr, ℕ, zero, suc, ◌+◌, ◌-◌, ◌<◌, ◌==◌, Bool, true, false, nat_eq, length, List, [], ◌∷◌, map, Option, Some, None, Contains, refl, sym, ap, ◌∙◌, subst, arith, slice_get, true≢false, eq-eqb}
use Rattle.std.specs.Prelude.{if◌then◌else◌}
use Rattle.std.specs.List.{list_any, AllByRecursion}
use Rattle.std.specs.Option.{option_and_then}
use Rattle.std.proofs.lemmas.Bool.{or_parts}
use Rattle.flush_model.specs.Flushed.{IsMarked}
use Rattle.flush_model.specs.Several.{IsNextOfPart, AreNextOf, AreLonger, objects_of}
use Rattle.script_text.specs.declared.script.Line.{Line}
use Rattle.service_model.specs.Causes.{has_twice}
use Rattle.service_model.specs.Entries.{news_by, next_version}
use Rattle.service_model.specs.Sound.{IsSound, AreLast, is_committing}
use Rattle.service_model.specs.Standing.{Scripts, Made, Update, Work, last_tree}
use Rattle.service_model.proofs.Members.{in_front, in_rest}
use Rattle.store_changes.specs.Stands.{own_in}
use Rattle.store_model.specs.Changes.{file_committed, with_version}
use Rattle.store_model.specs.Found.{version_in}
use Rattle.store_model.specs.Laid.{LaidFile, LaidVersion, Node, last_laid, page_in}
use Rattle.store_model.specs.Members.{longer}
use Rattle.store_model.specs.Together.{News, with_all}
use Rattle.store_model.proofs.Edits.{changed_length, some_is, none_some, within}
use Rattle.store_model.proofs.PlaceLists.{in_cons, none_in}
use Rattle.tree_model.specs.States.{State, Version, File}
use Rattle.tree_model.specs.Trees.{tree_after}
use Rattle.version_chain.specs.Flush.{base_of}
use Rattle.ground_model.specs.Scenes.{Scene, IsAsMade, IsMadeOf, IsShared}
use Rattle.ground_model.specs.Several.{IsRenewed, MayCommitSeveral, Renewal, works_of}
use Rattle.ground_model.proofs.FilesGrown.{Item, IsItem, IsOf}
use Rattle.ground_model.proofs.Grown.{IsGrown, got, grown_committed, grown_longer, with_next}
use Rattle.ground_model.proofs.Latest.{last_tree_is, same_version}
use Rattle.ground_model.proofs.MadeOf.{flush_makes}
use Rattle.ground_model.proofs.SeveralParts.{base_is_last, counts_back, part_of, parts_of}
use Rattle.ground_model.proofs.SeveralStates.{IsLike, works_in}

-- ---- lists

-- of two lists that are as long the one ends where the other ends
pub none_past : {X Y : Type 0} (xs : List X) (ys : List Y) (o : ℕ) → length ys ≡ length xs → slice_get xs o ≡ None → slice_get ys o ≡ None
none_past {X} {Y} xs ys o long none = by (slice_get ys o) refl
  where
    by : (y : Option Y) → slice_get ys o ≡ y → slice_get ys o ≡ None
    by None e = e
    by (Some y) e =
        let low : o < length ys = within ys o y e in
        let x = got xs o (omega (arith, low, long)) in
        none_some (sym none ∙ x.1)

none_at : (vs : List Work) (o : ℕ) → list_any (λ m. m == o) (map (λ (v : Work). v.object) vs) ≡ false → (k : ℕ) (z : Work) → slice_get vs k ≡ Some z → z.object ≡ o → ⊥
none_at [] o none k z here same = none_some here
none_at (v ∷ vs) o none zero z here same =
    let parts = or_parts (v.object == o) (list_any (λ m. m == o) (map (λ (x : Work). x.object) vs)) none in
    let one : v ≡ z = some_is here in
    true≢false (sym (eq-eqb v.object o (ap (λ (x : Work). x.object) one ∙ same)) ∙ parts.0)
none_at (v ∷ vs) o none (suc k) z here same =
    none_at vs o (or_parts (v.object == o) (list_any (λ m. m == o) (map (λ (x : Work). x.object) vs)) none).1 k z here same

-- of works that no two are of one file
pub differ_at : (ws : List Work) → has_twice (map (λ (w : Work). w.object) ws) ≡ false → (i j : ℕ) (x y : Work) → slice_get ws i ≡ Some x → slice_get ws j ≡ Some y
    → x.object ≡ y.object → i ≡ j
differ_at [] differ i j x y at to e = none_some at
differ_at (w ∷ ws) differ zero zero x y at to e = refl
differ_at (w ∷ ws) differ zero (suc j) x y at to e =
    let parts = or_parts (list_any (λ m. m == w.object) (map (λ (v : Work). v.object) ws)) (has_twice (map (λ (v : Work). v.object) ws)) differ in
    let same : w ≡ x = some_is at in
    absurd (none_at ws w.object parts.0 j y to (sym e ∙ ap (λ (v : Work). v.object) (sym same)))
differ_at (w ∷ ws) differ (suc i) zero x y at to e =
    let parts = or_parts (list_any (λ m. m == w.object) (map (λ (v : Work). v.object) ws)) (has_twice (map (λ (v : Work). v.object) ws)) differ in
    let same : w ≡ y = some_is to in
    absurd (none_at ws w.object parts.0 i x at (e ∙ ap (λ (v : Work). v.object) (sym same)))
differ_at (w ∷ ws) differ (suc i) (suc j) x y at to e =
    let parts = or_parts (list_any (λ m. m == w.object) (map (λ (v : Work). v.object) ws)) (has_twice (map (λ (v : Work). v.object) ws)) differ in
    ap suc (differ_at ws parts.1 i j x y at to e)

-- what several new versions leave of a state
pub news_like : (news : List News) (s : State) → IsLike s (with_all news s)
news_like [] s = record { format = refl; blocks = refl; key = refl; long = refl }
news_like (x ∷ news) s =
    let rest = news_like news (with_version (x.member.object - 1) (version_in x.version) s) in
    record {
      format = rest.format;
      blocks = rest.blocks;
      key = rest.key;
      long = rest.long ∙ changed_length (λ (f : File). with_next (version_in x.version) f) (x.member.object - 1) s.files;
    }

-- what is kept of the versions that these files get
pub news_are : (state : State) (items : List Item) → map (λ (it : Item). news_by state it.work) items ≡ map (news_by state) (works_in items)
news_are state [] = refl
news_are state (it ∷ items) = ap (λ (ms : List Made). news_by state it.work ∷ ms) (news_are state items)

own_is : (path : List ℕ) (nodes : List Node) (node : Node) → page_in path nodes ≡ Some node → node.is_own ≡ true → own_in path nodes ≡ Some node
own_is path nodes node here own =
    ap (option_and_then (λ (x : Node). if x.is_own then Some x else None)) here
    ∙ ap (λ (b : Bool). if b then Some node else None) own

-- ---- the files

abbrev pub item_of : (scene : Scene) (k : ℕ) (r : Renewal) → IsRenewed scene k r → LaidVersion → Item
item_of scene k r is version = record { work = r.work; last = is.draft.base.version; next = version }

abbrev pub items_of : (scene : Scene) (k : ℕ) (rs : List Renewal) → AllByRecursion (IsRenewed scene k) rs → List News → List Item
items_of scene k [] each news = []
items_of scene k (r ∷ rs) each [] = []
items_of scene k (r ∷ rs) each (x ∷ news) = item_of scene k r each.0 x.version ∷ items_of scene k rs each.1 news

module _ (old : Scene) (k : ℕ) where
  -- there are as many as files of the update
  pub works_are : (rs : List Renewal) (each : AllByRecursion (IsRenewed old k) rs) (news : List News) (content_of : ℕ) → AreNextOf old.content content_of (parts_of old k rs each) news
      → works_in (items_of old k rs each news) ≡ works_of rs
  works_are [] each news n next = refl
  works_are (r ∷ rs) each [] n next = absurd next
  works_are (r ∷ rs) each (x ∷ news) n next = ap (λ ws. r.work ∷ ws) (works_are rs each.1 news n next.1)

  -- an object of some part is that of an item
  pub item_at : (rs : List Renewal) (each : AllByRecursion (IsRenewed old k) rs) (news : List News) (n : ℕ) → AreNextOf old.content n (parts_of old k rs each) news
      → (object : ℕ) → list_any (nat_eq object) (objects_of (parts_of old k rs each)) ≡ true → IsOf (items_of old k rs each news) object
  item_at [] each news n next object h = absurd (none_in object h)
  item_at (r ∷ rs) each [] n next object h = absurd next
  item_at (r ∷ rs) each (x ∷ news) n next object h = elim (in_cons (suc (r.work.object - 1)) object (objects_of (parts_of old k rs each.1)) h) [
    | inl e ↦ record { place = zero; item = item_of old k r each.0 x.version; at = refl; object_is = sym (counts_back old k r each.0) ∙ sym e }
    | inr rest ↦ (let f = item_at rs each.1 news n next.1 object rest in record { place = suc f.place; item = f.item; at = f.at; object_is = f.object_is })
  ]

module _ (scripts : Scripts) (k : ℕ) (old new : Scene) (line : Line) (u : Update)
    (shared : IsShared old) (sound : IsSound scripts old.standing) (may : MayCommitSeveral scripts old.standing k line u) where
  lasts : AreLast old.standing.state u
  lasts = sound.locked k u may.client.low may.is_open may.several (ap (list_any is_committing) may.noted)

  module _ (r : Renewal) (is : IsRenewed old k r) (of_update : Contains u.works r.work) (version : LaidVersion) (blocks : List ℕ)
      (nx : IsNextOfPart old.content old.store.root.blocks (part_of old k r is) version blocks) where
    last_here : last_laid is.draft.base.is.file.versions ≡ Some is.draft.base.version
    last_here = base_is_last scripts k old line u shared sound may r is of_update

    before_is : last_tree old.standing.state r.work.object ≡ r.work.base
    before_is =
        ap (λ (x : State). last_tree x r.work.object) (sym shared.state)
        ∙ last_tree_is old.store r.work.object is.draft.base.version is.draft.base.is last_here ∙ is.draft.base.tree_is

    next_is : version_in version ≡ next_version r.work.steps (version_in is.draft.base.version)
    next_is =
        same_version (version_in version) (next_version r.work.steps (version_in is.draft.base.version)) nx.serial
        (nx.tree ∙ ap (λ t. tree_after t r.work.steps) (sym is.draft.base.tree_is))
        (nx.fresh ∙ ap (λ t. (next_version r.work.steps (let x : Version = record { serial = 0; tree = t; fresh = [] } in x)).fresh) (sym is.draft.base.tree_is))

    made_is : IsAsMade (news_by old.standing.state r.work) version
    made_is = record {
      tree = nx.tree ∙ ap (λ t. tree_after t r.work.steps) (sym before_is);
      marks = λ path node here own. subst (λ t. IsMarked t r.work.steps path node) (sym before_is) (nx.marks path node (own_is path version.nodes node here own));
    }

    walked : IsMadeOf old.content (news_by old.standing.state r.work) is.draft.base.version.block version.block
    walked =
        subst (λ n. IsMadeOf old.content (news_by old.standing.state r.work) n version.block) (sym is.draft.base.block_is)
        (flush_makes old.content (base_of r.root r.work.object r.work.serial) version.block r.work.base r.work.steps r.draft r.plan is.draft.stands is.flush.placed nx.block
        is.flush.done is.all (news_by old.standing.state r.work) before_is refl)

    one_item : (now : LaidFile) → slice_get new.store.files (r.work.object - 1) ≡ Some now → IsGrown is.draft.base.is.file now is.draft.base.version version
        → IsItem old new (item_of old k r is version)
    one_item now listed grown = record {
      counts = is.draft.base.is.counts;
      file = is.draft.base.is.file;
      listed = is.draft.base.is.listed;
      now = now;
      now_listed = listed;
      grown = grown;
      serial = nx.serial ∙ ap (λ n. n + 1) (is.draft.base.serial_is ∙ lasts r.work of_update);
      version_is = next_is;
      made = made_is;
      walked = walked;
    }

  -- the first file, whose last version names the new one now
  pub top_item : (r : Renewal) (is : IsRenewed old k r) (of_update : Contains u.works r.work) (version : LaidVersion) (blocks : List ℕ)
      → IsNextOfPart old.content old.store.root.blocks (part_of old k r is) version blocks
      → ((file : LaidFile) → slice_get old.store.files (r.work.object - 1) ≡ Some file → slice_get new.store.files (r.work.object - 1) ≡ Some (file_committed version.block version file))
      → IsItem old new (item_of old k r is version)
  top_item r is of_update version blocks nx first =
      one_item r is of_update version blocks nx (file_committed version.block version is.draft.base.is.file) (first is.draft.base.is.file is.draft.base.is.listed)
      (grown_committed is.draft.base.is.file version.block is.draft.base.version version (base_is_last scripts k old line u shared sound may r is of_update))

  -- a member, which names none, and its file
  pub record IsMember (it : Item) : Type 0 where
    pub item : IsItem old new it
    pub none : it.next.members ≡ []

  pub member_items : (rs : List Renewal) (each : AllByRecursion (IsRenewed old k) rs) (news : List News) → ((w : Work) → Contains (works_of rs) w → Contains u.works w)
      → AreNextOf old.content old.store.root.blocks (parts_of old k rs each) news → AreLonger old.store.files new.store.files (parts_of old k rs each) news
      → AllByRecursion (λ (r : Renewal). r.plan.members ≡ []) rs
      → (i : ℕ) (it : Item) → slice_get (items_of old k rs each news) i ≡ Some it → IsMember it
  member_items [] each news of_update next more none i it at = none_some at
  member_items (r ∷ rs) each [] of_update next more none i it at = absurd next
  member_items (r ∷ rs) each (x ∷ news) of_update next more none zero it at =
      subst IsMember (some_is at) (record {
        item =
            one_item r each.0 (of_update r.work (in_front r.work (works_of rs))) x.version next.0.0 next.0.1 (longer x.version each.0.draft.base.is.file)
            (more.0 each.0.draft.base.is.file each.0.draft.base.is.listed)
            (grown_longer each.0.draft.base.is.file each.0.draft.base.version x.version
            (base_is_last scripts k old line u shared sound may r each.0 (of_update r.work (in_front r.work (works_of rs)))));
        none = next.0.1.members ∙ none.0;
      })
  member_items (r ∷ rs) each (x ∷ news) of_update next more none (suc i) it at =
      member_items rs each.1 news (λ w c. of_update w (in_rest r.work (works_of rs) w c)) next.1 more.1 none.1 i it at
